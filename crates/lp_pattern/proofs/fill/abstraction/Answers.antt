use Rattle.std.proofs.Common.{◌∙◌, sym}
use Rattle.std.proofs.lemmas.Bool.{eqb-true}
use Rattle.lp_pattern.proofs.FilledTypes.{some_given}
use Rattle.lp_pattern.proofs.FilledTerms.{abstraction_made, abstraction_stays}
use Rattle.std.proofs.Common.{arith}
use Rattle.lp_pattern.specs.inner.Making.{unmade, term_made}
use Rattle.lp_pattern.proofs.Making.{first_missing, further_more}
use Rattle.lp_pattern.proofs.fill.abstraction.Goals as goal

pub returns-then-eq-clause-made : goal.returns-then-eq-clause-made
returns-then-eq-clause-made c = λ d h F e.
    abstraction_stays c.args.bank.now d c.args.id c.args.body c.in-Some.made h (some_given _ _ _ c.in-Some.is c.in_ok-made.ensures.made c.args.bank.now d F) e c.requires
    (eqb-true c.in-Some.made.0 c.args.body.0 (sym c.eq.ensures ∙ c.if-eq.true))

pub returns-clause-made : goal.returns-clause-made
returns-clause-made c = λ d h F e.
    abstraction_made c.args.bank.now c.put_abstraction.new.bank d c.args.id c.args.body c.in-Some.made c.in_ok-new.new h (some_given _ _ _ c.in-Some.is c.in_ok-made.ensures.made c.args.bank.now d F) e c.in_ok-new.ensures.within
    c.in_ok-new.ensures.tree

pub returns-in_default-clause-further : goal.returns-in_default-clause-further
returns-in_default-clause-further c =
    let u = unmade (term_made c.args.done.now) c.args.left.now.items in
    let v = unmade (term_made c.args.done.now) c.known_part.new.left.items in
    first_missing _ u v v c.in_default.is c.in_ok-made.ensures.further (omega arith)

pub returns-then-eq-clause-further : goal.returns-then-eq-clause-further
returns-then-eq-clause-further c =
    further_more _ (unmade (term_made c.args.done.now) c.args.left.now.items) (unmade (term_made c.args.done.now) c.known_part.new.left.items) c.in_ok-made.ensures.further

pub returns-clause-further : goal.returns-clause-further
returns-clause-further c =
    further_more _ (unmade (term_made c.args.done.now) c.args.left.now.items) (unmade (term_made c.args.done.now) c.known_part.new.left.items) c.in_ok-made.ensures.further
