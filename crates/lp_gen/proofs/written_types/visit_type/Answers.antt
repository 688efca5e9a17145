use Rattle.std.proofs.Common.{◌∙◌, ◌++◌, ◌∷◌, [], ap, refl, sym, length}
use Rattle.std.specs.Prelude.{min}
use Rattle.lp_gen.specs.inner.Pieces.{type_made}
use Rattle.lp_gen.proofs.TypeWorks.{visits_known, visits_constructor, visits_arrow}
use Rattle.lp_gen.proofs.written_types.visit_type.Goals as goal

pub returns-in_ok-push-in-Variable-clause-gives : goal.returns-in_ok-push-in-Variable-clause-gives
returns-in_ok-push-in-Variable-clause-gives c =
    visits_known c.args.bank.now c.args.work.now.items c.args.made.now.items c.push.new.self.items c.args.of (min c.in-Variable.number 65535) (c.in_ok-push-in-Variable.ensures.items
    ∙ ap (λ r. c.args.made.now.items ++ r ∷ []) c.register_of_type.ensures)
    (λ n. ap (type_made n) (sym c.in-Variable.ensures))

pub returns-in_ok-push-in-Parameter-clause-gives : goal.returns-in_ok-push-in-Parameter-clause-gives
returns-in_ok-push-in-Parameter-clause-gives c =
    visits_known c.args.bank.now c.args.work.now.items c.args.made.now.items c.push-in-Parameter.new.self.items c.args.of 0 c.in_ok-push-in-Parameter.ensures.items (λ n. ap (type_made n)
    (sym c.in-Parameter.ensures))

pub returns-in_ok-push-in-Constructor-2-clause-gives : goal.returns-in_ok-push-in-Constructor-2-clause-gives
returns-in_ok-push-in-Constructor-2-clause-gives c =
    visits_constructor c.args.bank.now c.args.work.now.items c.push-in-Constructor.new.self.items c.push-in-Constructor-2.new.self.items c.args.made.now.items c.args.of
    c.in-Constructor.kind (length c.in-Constructor.parts.now) c.in-Constructor.parts c.in-Constructor.constant c.in_ok-push-in-Constructor.ensures.items
    c.in_ok-push-in-Constructor-2.ensures.items refl c.in-Constructor.ensures

pub returns-in_ok-push-in-Arrow-3-clause-gives : goal.returns-in_ok-push-in-Arrow-3-clause-gives
returns-in_ok-push-in-Arrow-3-clause-gives c =
    visits_arrow c.args.bank.now c.args.work.now.items c.push-in-Arrow.new.self.items c.push-in-Arrow-2.new.self.items c.push-in-Arrow-3.new.self.items c.args.made.now.items c.args.of
    c.in-Arrow.from c.in-Arrow.to c.in_ok-push-in-Arrow.ensures.items c.in_ok-push-in-Arrow-2.ensures.items c.in_ok-push-in-Arrow-3.ensures.items
    c.in-Arrow.ensures
