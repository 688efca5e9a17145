use Rattle.std.proofs.Common.{◌∙◌, sym, ap, map}
use Rattle.std.proofs.lemmas.Bool.{eqb-true}
use Rattle.lp_calculus.specs.Term.{apply}
use Rattle.lp_term.specs.Nodes.{tree}
use Rattle.lp_term.proofs.Rebuilding.{same_terms}
use Rattle.lp_pattern.proofs.FilledTypes.{some_given}
use Rattle.lp_pattern.proofs.FilledTerms.{application_made, application_stays}
use Rattle.std.proofs.Common.{arith, ◌≤◌, ◌<◌}
use Rattle.lp_pattern.specs.inner.Making.{unmade, term_made}
use Rattle.lp_pattern.proofs.Making.{first_missing, further_more}
use Rattle.lp_pattern.proofs.fill.application.Goals as goal

pub returns-then-eq-2-clause-made : goal.returns-then-eq-2-clause-made
returns-then-eq-2-clause-made c = λ d F e.
    application_stays c.args.bank.now d c.args.id c.args.head c.in-Some.top c.args.arguments.now c.in-Some-made.made.items (some_given _ _ _ c.in-Some.is c.in_ok-top.ensures.made c.args.bank.now d F)
    (some_given _ _ _ c.in-Some-made.is c.in_ok-made.ensures.made c.args.bank.now d F) e c.requires (eqb-true c.in-Some.top.0 c.args.head.0 (sym c.eq.ensures ∙ c.if-eq.true))
    (ap (map (λ t. t.0)) (sym c.as_slice.ensures.value) ∙ same_terms _ (λ x y e. eqb-true x.0 y.0 e) c.as_slice.result.now c.args.arguments.now (sym c.eq-then-eq.ensures ∙ c.if-eq-2.true))

pub returns-clause-made : goal.returns-clause-made
returns-clause-made c = λ d F e.
    application_made c.args.bank.now c.put_application.new.bank d c.args.id c.args.head c.in-Some.top c.in_ok-new.new c.args.arguments.now c.in-Some-made.made.items
    (some_given _ _ _ c.in-Some.is c.in_ok-top.ensures.made c.args.bank.now d F) (some_given _ _ _ c.in-Some-made.is c.in_ok-made.ensures.made c.args.bank.now d F) e c.in_ok-new.ensures.within
    (c.in_ok-new.ensures.tree ∙ ap (λ l. apply (tree c.args.bank.now c.in-Some.top.0) (map (λ t. tree c.args.bank.now t.0) l)) c.as_slice-2.ensures.value)

pub returns-in_default-clause-further : goal.returns-in_default-clause-further
returns-in_default-clause-further c =
    let f = term_made c.args.done.now in
    let u = unmade f c.args.left.now.items in
    let v = unmade f c.known_parts.new.left.items in
    let w = unmade f c.known_part.new.left.items in
    let a : u ≤ v = further_more _ u v c.in_ok-made.ensures.further in
    let b : v < w = first_missing _ v w w c.in_default.is c.in_ok-top.ensures.further (omega arith) in
    omega (arith, a, b)

pub returns-in_default-made-clause-further : goal.returns-in_default-made-clause-further
returns-in_default-made-clause-further c =
    let f = term_made c.args.done.now in
    let u = unmade f c.args.left.now.items in
    let v = unmade f c.known_parts.new.left.items in
    let w = unmade f c.known_part.new.left.items in
    let b : v ≤ w = further_more _ v w c.in_ok-top.ensures.further in
    first_missing _ u v w c.in_default-made.is c.in_ok-made.ensures.further b

pub returns-then-eq-2-clause-further : goal.returns-then-eq-2-clause-further
returns-then-eq-2-clause-further c =
    let f = term_made c.args.done.now in
    let u = unmade f c.args.left.now.items in
    let v = unmade f c.known_parts.new.left.items in
    let w = unmade f c.known_part.new.left.items in
    let a : u ≤ v = further_more _ u v c.in_ok-made.ensures.further in
    let b : v ≤ w = further_more _ v w c.in_ok-top.ensures.further in
    omega (arith, a, b)

pub returns-clause-further : goal.returns-clause-further
returns-clause-further c =
    let f = term_made c.args.done.now in
    let u = unmade f c.args.left.now.items in
    let v = unmade f c.known_parts.new.left.items in
    let w = unmade f c.known_part.new.left.items in
    let a : u ≤ v = further_more _ u v c.in_ok-made.ensures.further in
    let b : v ≤ w = further_more _ v w c.in_ok-top.ensures.further in
    omega (arith, a, b)
