use Rattle.std.proofs.Common.{sym, subst, arith, map, add-one, get_or}
use Rattle.lp_calculus.specs.Term.{apply}
use Rattle.lp_term.specs.Nodes.{tree}
use Rattle.lp_term.proofs.Knowing.{applied_next, take_whole, id_below}
use Rattle.lp_cert.specs.Facts.{AreFacts}
use Rattle.lp_cert.proofs.known.Known.application_fact.Goals as goal

pub loop-argument-init : goal.loop-argument-init
loop-argument-init c = λ b k h a. subst (λ f. AreFacts f (tree b c.args.head.0)) (sym c.term_fact-facts.ensures) (k.terms c.args.head.0 h)

pub loop-argument-preserved : goal.loop-argument-preserved
loop-argument-preserved c = λ b k h a.
    let ids = c.args.arguments.now in
    let i = c.loop-argument.argument-index in
    subst (AreFacts c.applied-facts.result) (sym (applied_next (tree b) (tree b c.args.head.0) ids i _ (add-one i) c.loop-argument-test.true))
    (c.applied-facts.ensures _ _ (c.loop-argument.invariant b k h a) (subst (λ f. AreFacts f (tree b (get_or ids i (record { 0 = 0 })).0)) (sym c.term_fact.ensures) (k.terms _ (id_below _ ids i a c.loop-argument-test.true))))

pub returns : goal.returns
returns c = λ b k h a.
    subst (λ l. AreFacts c.loop-argument.facts (apply (tree b c.args.head.0) (map (tree b) (map (λ t. t.0) l))))
    (take_whole c.args.arguments.now c.loop-argument.argument-index (omega (arith, c.loop-argument-test.false))) (c.loop-argument.invariant b k h a)
