use Rattle.std.proofs.Common.{◌∷◌, [], ◌++◌, ap, ◌∙◌, arith}
use Rattle.std.proofs.lemmas.List.{nil_from_length}
use Rattle.lp_bytes.proofs.Lengthened.{more_nothing}
use Rattle.lp_object.specs.inner.Waiting.{waiting}
use Rattle.lp_object.proofs.Writes.{full_is, none_waits, all_too_much, all_waits, turn_done, type_alone, type_top}
use Rattle.lp_object.proofs.schemes.write_scheme.Goals as goal

pub loop-init : goal.loop-init
loop-init c = all_waits _ _ _ (type_alone c.args.width c.args.bank.now c.push.new.self.items c.args.scheme (c.in_ok-push.ensures.items ∙ ap (λ l. l ++ c.args.scheme ∷ []) c.new-stack.ensures.items))

pub loop-preserved : goal.loop-preserved
loop-preserved c = turn_done _ _ _ _ _ _ _ _ c.loop.counter (type_top c.args.width c.args.bank.now c.loop.stack.items c.pop.new.self.items c.in-Some.next _ c.in-Some.ensures.items c.type_node.ensures.tree) c.in_ok-write_part.ensures.text c.in_ok-write_part.ensures.less c.loop.invariant

pub returns-then-is_full : goal.returns-then-is_full
returns-then-is_full c = full_is _ _ _ _ (c.is_full.ensures c.if-is_full.true) c.loop.invariant.0

pub returns-in_default : goal.returns-in_default
returns-in_default c = none_waits _ _ _ _ (more_nothing c.loop.writer) (ap (waiting c.args.width c.args.bank.now) (nil_from_length c.loop.stack.items (omega (arith, c.in_default.ensures.cases.0, c.loop.stack.ok)))) c.loop.invariant.0

pub returns : goal.returns
returns c = all_too_much _ _ _ c.fill.ensures (omega (arith, c.loop.invariant.1, c.loop-test.false))
