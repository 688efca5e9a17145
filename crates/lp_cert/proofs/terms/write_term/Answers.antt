use Rattle.std.proofs.Common.{◌++◌, ◌∷◌, ◌∙◌, [], ap, arith}
use Rattle.std.proofs.lemmas.List.{nil_from_length}
use Rattle.lp_bytes.proofs.Lengthened.{more_nothing}
use Rattle.lp_cert.specs.inner.Waiting.{terms_waiting}
use Rattle.lp_cert.proofs.Waits.{all_waits, turn_done, full_is, none_waits, all_too_much, term_alone, term_top, has_arguments}
use Rattle.lp_cert.proofs.terms.write_term.Goals as goal

pub loop-init : goal.loop-init
loop-init c = all_waits _ _ _ (term_alone c.args.bank.now c.push.new.self.items c.args.term (c.in_ok-push.ensures.items ∙ ap (λ l. l ++ c.args.term ∷ []) c.new-stack.ensures.items))

pub loop-preserved : goal.loop-preserved
loop-preserved c =
    turn_done _ _ _ _ _ _ _ _ c.loop.counter (term_top c.args.bank.now c.loop.stack.items c.pop.new.self.items c.in-Some.next _
    c.in-Some.ensures.items c.term_node.ensures.tree) c.in_ok-write_part.ensures.text
    (c.in_ok-write_part.ensures.less (has_arguments _ _ _ c.term_node.ensures.within)) c.loop.invariant

pub returns-then-is_full : goal.returns-then-is_full
returns-then-is_full c = full_is _ _ _ _ (c.is_full.ensures c.if-is_full.true) c.loop.invariant.0

pub returns-in_default : goal.returns-in_default
returns-in_default c = none_waits _ _ _ _ (more_nothing c.loop.writer) (ap (terms_waiting c.args.bank.now) (nil_from_length c.loop.stack.items (omega (arith, c.in_default.ensures.cases.0, c.loop.stack.ok)))) c.loop.invariant.0

pub returns : goal.returns
returns c = all_too_much _ _ _ c.fill.ensures (omega (arith, c.loop.invariant.1, c.loop-test.false))
