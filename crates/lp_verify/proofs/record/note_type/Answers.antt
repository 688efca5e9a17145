use Rattle.std.specs.Prelude.{is_some}
use Rattle.std.specs.Ordering.{nat_cmp}
use Rattle.std.specs.BTreeMap.{get}
use Rattle.lp_verify.proofs.OwnTypes.{nothing_noted, type_noted}
use Rattle.lp_verify.proofs.record.note_type.Goals as goal

pub returns-in_ok-insert-in-TyNew : goal.returns-in_ok-insert-in-TyNew
returns-in_ok-insert-in-TyNew c = λ d. type_noted c.args.instr.now c.in-TyNew.register d c.args.made.now c.insert.new.self 0 c.in-TyNew.is (c.in_ok-insert-in-TyNew.ensures.updates.0 d)

pub returns-in_default : goal.returns-in_default
returns-in_default c = λ d. nothing_noted c.args.instr.now d (is_some (get nat_cmp c.args.made.now d)) c.in_default.not-TyNew
