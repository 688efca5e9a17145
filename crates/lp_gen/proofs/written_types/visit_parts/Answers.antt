use Rattle.lp_gen.proofs.TypeWorks.{parts_none, parts_first}
use Rattle.std.proofs.Common.{refl}
use Rattle.std.proofs.lemmas.List.{nil_from_length}
use Rattle.lp_gen.specs.declared.types.TypeView.TheVariants.{Of}
use Rattle.lp_gen.proofs.written_types.visit_parts.Goals as goal

pub returns-in_default-clause-gives : goal.returns-in_default-clause-gives
returns-in_default-clause-gives c = parts_none c.args.bank.now c.args.work.now.items c.args.constant c.args.parts (nil_from_length c.args.parts.now c.in_default.ensures.cases)

pub returns-clause-gives : goal.returns-clause-gives
returns-clause-gives c =
    parts_first c.args.bank.now c.args.work.now.items c.push.new.self.items c.push-2.new.self.items c.args.constant c.args.parts c.in-Some.rest c.in-Some.first.now
    (Of c.in-Some.first.now c.args.constant) c.in-Some.ensures.cases.0 c.in_ok-push.ensures.items c.in_ok-push-2.ensures.items refl
