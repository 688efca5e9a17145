use Rattle.std.proofs.Common.{sym, ◌∙◌}
use Rattle.lp_sig.proofs.Typing.{arrow_made}
use Rattle.lp_sig.proofs.Settled.{no_type}
use Rattle.lp_sig.proofs.bodies.Bodies.between.Goals as goal

pub returns-clause-typed : goal.returns-clause-typed
returns-clause-typed c = λ said defs text ν nodes i all at.
    arrow_made c.args.self.now.types.bank said defs text ν nodes c.args.done.now all c.arrow.new.self.bank i c.args.from c.args.to c.in-Some.left
    c.in-Some-2.right c.in_ok-id.id at (sym c.in-Some.is ∙ c.in_ok-left.ensures.is) (sym c.in-Some-2.is ∙ c.in_ok-right.ensures.is)
    c.in_ok-id.ensures.tree.0 c.in_ok-id.ensures.tree.1

pub returns-in_default-clause-made : goal.returns-in_default-clause-made
returns-in_default-clause-made c = λ all. absurd (no_type c.in_ok-left.field-0 c.in_default.is (c.in_ok-left.ensures.made all))

pub returns-in_default-2-clause-made : goal.returns-in_default-2-clause-made
returns-in_default-2-clause-made c = λ all. absurd (no_type c.in_ok-right.field-0 c.in_default-2.is (c.in_ok-right.ensures.made all))
