use Rattle.std.proofs.Common.{ℕ, sym, refl, ◌∙◌}
use Rattle.lp_term.proofs.Moves.{passed_up}
use Rattle.lp_model.specs.Pair.{Closing, Pair as Equation}
use Rattle.lp_model.specs.Rule.{rule}
use Rattle.lp_pattern.specs.Ruling.{IsSeenPair, IsRuledOut}
use Rattle.lp_pattern.specs.Turning.{IsOpenReading, IsKnownPair}
use Rattle.lp_pattern.proofs.Judging.{by_views, taken_done, taken_delayed, taken_out}
use Rattle.lp_pattern.proofs.PairsGiven.{done_taken, delayed_taken, given_taken}
use Rattle.lp_pattern.proofs.Stacks.{still_pairs}
use Rattle.lp_pattern.proofs.rules.take_seen.Goals as goal

pub by_variables-requires-clause-flexible : goal.by_variables-requires-clause-flexible
by_variables-requires-clause-flexible c = sym c.are_flexible.ensures ∙ c.if-are_flexible.true

pub returns-then-is_done-clause-judged : goal.returns-then-is_done-clause-judged
returns-then-is_done-clause-judged c = λ r i g n p h q e.
    taken_done c.args.bank.now c.args.bindings.now r c.args.one.now c.args.other.now i c.requires.one c.requires.other n c.args.next.now c.args.level
    p h q e c.args.units.now c.by_variables.new.units c.in_ok-is_done.is_done (sym c.are_flexible.ensures ∙ c.if-are_flexible.true)
    c.if-is_done.true (c.in_ok-is_done.ensures.judged r i g n p h)

pub returns-then-are_flexible-clause-judged : goal.returns-then-are_flexible-clause-judged
returns-then-are_flexible-clause-judged c = λ r i g n p h q e.
    taken_delayed c.args.bank.now c.args.bindings.now r c.args.one.now c.args.other.now i c.requires.one c.requires.other n c.args.next.now
    c.args.level p h q e c.args.units.now c.by_variables.new.units c.in_ok-is_done.is_done
    (record { left = c.args.one.now.whole; right = c.args.other.now.whole; level = c.args.level })
    (sym c.are_flexible.ensures ∙ c.if-are_flexible.true) c.if-is_done.false (c.in_ok-is_done.ensures.judged r i g n p h)

pub returns-in_err-is_done-clause-refused : goal.returns-in_err-is_done-clause-refused
returns-in_err-is_done-clause-refused c =
    passed_up c.from_residual.result c.in_err-is_done.field-0.0
    (λ e. (r : Closing) → IsOpenReading c.args.bank.now c.args.bindings.now c.args.next.now r → (levels : ℕ → ℕ) → (n : ℕ) (p : Equation) → IsSeenPair
    c.args.bank.now r c.args.level c.args.one.now c.args.other.now p → IsKnownPair levels c.args.next.now p → IsRuledOut n e c.args.units.now
    (rule n c.args.next.now p))
    c.from_residual.ensures.1
    (λ r o levels n p h known. taken_out c.args.bank.now c.args.bindings.now r c.args.one.now c.args.other.now n c.args.next.now c.args.level
    c.args.units.now p c.in_err-is_done.field-0.0 o.reading c.requires.one c.requires.other h
    (sym c.are_flexible.ensures ∙ c.if-are_flexible.true) (c.in_err-is_done.ensures.refused r o levels n p h known))

pub replace-requires-clause-flexible : goal.replace-requires-clause-flexible
replace-requires-clause-flexible c = sym c.are_flexible.ensures ∙ c.if-are_flexible.false

pub returns-in_err-replace-clause-refused : goal.returns-in_err-replace-clause-refused
returns-in_err-replace-clause-refused c =
    passed_up c.from_residual-in_err-replace.result c.in_err-replace.field-0.0
    (λ e. (r : Closing) → IsOpenReading c.args.bank.now c.args.bindings.now c.args.next.now r → (levels : ℕ → ℕ) → (n : ℕ) (p : Equation) → IsSeenPair
    c.args.bank.now r c.args.level c.args.one.now c.args.other.now p → IsKnownPair levels c.args.next.now p → IsRuledOut n e c.args.units.now
    (rule n c.args.next.now p))
    c.from_residual-in_err-replace.ensures.1 (λ r o levels n p h known. c.in_err-replace.ensures.refused r o.reading o.shut n c.args.next.now p h)

pub returns-clause-judged : goal.returns-clause-judged
returns-clause-judged c = λ r i g n p h q e. c.in_ok-replace.ensures.replaced r i g n c.args.next.now p h q e

pub returns-then-is_done-clause-taken : goal.returns-then-is_done-clause-taken
returns-then-is_done-clause-taken c = λ r i lv n p h w y q.
    done_taken c.args.bank.now c.by_variables.new.bank c.args.bindings.now c.args.next.now r c.args.one.now c.args.other.now i c.requires.one
    c.requires.other c.args.level lv p h w c.in_ok-is_done.ensures.kept c.args.todo.now.items c.args.todo.now.items c.by_variables.new.bindings
    c.by_variables.new.next c.in_ok-is_done.is_done y.verdict c.if-is_done.true refl
    (c.in_ok-is_done.ensures.done r i lv n p h w y (by_views c.args.bank.now c.args.bindings.now r c.args.one.now c.args.other.now i.reading c.requires.one c.requires.other n c.args.next.now c.args.level p h y q (sym c.are_flexible.ensures ∙ c.if-are_flexible.true)))

pub returns-then-are_flexible-clause-taken : goal.returns-then-are_flexible-clause-taken
returns-then-are_flexible-clause-taken c = λ r i lv n p h w y q.
    delayed_taken c.args.bank.now c.by_variables.new.bank c.args.bindings.now c.args.next.now r c.args.one.now c.args.other.now i c.requires.one
    c.requires.other c.args.level lv p h w c.in_ok-is_done.ensures.kept c.args.todo.now.items c.args.todo.now.items c.by_variables.new.bindings
    c.by_variables.new.next c.in_ok-is_done.is_done y.verdict c.if-is_done.false refl
    (c.in_ok-is_done.ensures.done r i lv n p h w y (by_views c.args.bank.now c.args.bindings.now r c.args.one.now c.args.other.now i.reading c.requires.one c.requires.other n c.args.next.now c.args.level p h y q (sym c.are_flexible.ensures ∙ c.if-are_flexible.true)))

pub returns-clause-taken : goal.returns-clause-taken
returns-clause-taken c = λ r i lv n p h w y q.
    given_taken c.args.bank.now c.replace.new.bank c.args.bindings.now c.args.next.now r c.args.one.now c.args.other.now i c.requires.one c.requires.other c.args.level lv p h w c.in_ok-replace.ensures.kept c.args.todo.now.items c.replace.new.todo.items c.replace.new.bindings y.verdict
    (c.in_ok-replace.ensures.given c.args.next.now r i lv n p h w y q)

pub returns-then-is_done-clause-todo : goal.returns-then-is_done-clause-todo
returns-then-is_done-clause-todo c = still_pairs c.args.bank.now c.by_variables.new.bank c.args.todo.now.items c.in_ok-is_done.ensures.kept c.requires.todo

pub returns-then-are_flexible-clause-todo : goal.returns-then-are_flexible-clause-todo
returns-then-are_flexible-clause-todo c = still_pairs c.args.bank.now c.by_variables.new.bank c.args.todo.now.items c.in_ok-is_done.ensures.kept c.requires.todo
