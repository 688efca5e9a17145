use Rattle.std.proofs.Common.{◌∙◌, sym}
use Rattle.std.proofs.Common.{arith, ◌<◌}
use Rattle.lp_lemmas.proofs.Elements.{All_pushed}
use Rattle.lp_pattern.specs.inner.Making.{term_made}
use Rattle.lp_pattern.proofs.Making.{unmade_pushed}
use Rattle.lp_pattern.proofs.fill.known_part.Goals as goal

pub returns-clause-made : goal.returns-clause-made
returns-clause-made c = λ b d F. F.terms c.args.part.0 c.in-Some.made (sym c.at.ensures ∙ c.in-Some.is)

pub returns-in_default-clause-further : goal.returns-in_default-clause-further
returns-in_default-clause-further c =
    let e = unmade_pushed (term_made c.args.done.now) c.args.left.now.items c.push.new.self.items c.args.part c.at.result c.in_ok-push.ensures.items c.at.ensures c.in_default.is in
    omega (arith, e)

pub returns-in_default-clause-within : goal.returns-in_default-clause-within
returns-in_default-clause-within c = λ n p h. All_pushed (λ t. t.0 < n) c.push.new.self.items c.args.left.now.items c.args.part c.in_ok-push.ensures.items h p
