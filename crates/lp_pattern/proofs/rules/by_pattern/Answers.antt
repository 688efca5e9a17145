use Rattle.std.proofs.Common.{ℕ, Some, None, subst as transport}
use Rattle.lp_term.proofs.Moves.{passed_up}
use Rattle.lp_term.proofs.Trees.{extends-trans}
use Rattle.lp_model.specs.Pair.{Closing, Pair as Equation}
use Rattle.lp_model.specs.Rule.{by_rule_5}
use Rattle.lp_pattern.specs.Ruling.{view, IsSeenPair, IsSideOf, IsRuledOut}
use Rattle.lp_pattern.specs.Turning.{IsOpenReading, IsKnownPair}
use Rattle.lp_pattern.proofs.Results.{if_ok, if_err}
use Rattle.lp_pattern.proofs.Walking.{reading_kept, looked_stays, open_kept}
use Rattle.lp_pattern.proofs.Judging.{left_out, right_out, no_side}
use Rattle.lp_pattern.proofs.Verdicts.{left_judged, right_judged, side_before, no_side_before}
use Rattle.lp_pattern.proofs.Dones.{left_done, right_done, no_side_done}
use Rattle.lp_pattern.proofs.RuledOut.{left_stopped, right_stopped}
use Rattle.lp_pattern.proofs.rules.by_pattern.Goals as goal

pub returns-in_err-left-clause-refused : goal.returns-in_err-left-clause-refused
returns-in_err-left-clause-refused c =
    passed_up c.from_residual.result c.in_err-left.field-0.0
    (λ e. (r : Closing) → IsOpenReading c.args.bank.now c.args.bindings.now c.args.next.now r → (levels : ℕ → ℕ) → (n : ℕ) (p : Equation) → IsSeenPair c.args.bank.now r c.args.level c.args.one.now c.args.other.now p → IsKnownPair levels c.args.next.now p →
    IsRuledOut n e c.args.units.now (by_rule_5 n c.args.next.now p (view c.args.bank.now r c.args.one.now) (view c.args.bank.now r c.args.other.now)))
    c.from_residual.ensures.1 (λ r o levels n p h known. left_out n c.args.next.now c.args.level c.args.units.now p (view c.args.bank.now r c.args.one.now) (view c.args.bank.now r c.args.other.now) c.in_err-left.field-0.0 (c.in_err-left.ensures.refused r o.reading o.shut n) h.stands)

pub solve_for-requires : goal.solve_for-requires
solve_for-requires c = record { other = looked_stays c.args.bank.now c.side_of.new.bank c.args.bindings.now c.args.other.now c.in_ok-left.ensures.kept c.requires.other }

pub returns-in-Some-clause-judged : goal.returns-in-Some-clause-judged
returns-in-Some-clause-judged c =
    if_ok c.solve_for.result _ _
    (λ done f r i g n p h. left_judged c.args.bank.now c.side_of.new.bank c.args.bindings.now r c.args.one.now c.args.other.now c.args.level n
    c.args.next.now c.args.units.now p c.in_ok-left.ensures.kept c.requires.one c.requires.other h c.solve_for.new.units done c.in-Some.side
    (transport (λ z. IsSideOf n (view c.args.bank.now r c.args.one.now) c.args.level z) c.in-Some.is (c.in_ok-left.ensures.side r i g n))
    (f r (reading_kept c.args.bank.now c.side_of.new.bank c.args.bindings.now r c.in_ok-left.ensures.kept i) g))
    c.solve_for.ensures.judged

pub returns-in-Some-clause-refused : goal.returns-in-Some-clause-refused
returns-in-Some-clause-refused c =
    if_err c.solve_for.result _ _
    (λ e f r o levels n p h known. left_stopped c.args.bank.now c.side_of.new.bank c.args.bindings.now r c.args.one.now c.args.other.now c.args.level
    n c.args.next.now c.args.units.now p c.in_ok-left.ensures.kept c.requires.one c.requires.other h o levels known e c.in-Some.side
    (transport (λ z. IsSideOf n (view c.args.bank.now r c.args.one.now) c.args.level z) c.in-Some.is
    (c.in_ok-left.ensures.side r o.reading o.shut n)) (f r (open_kept c.args.bank.now c.side_of.new.bank c.args.bindings.now c.args.next.now r
    c.in_ok-left.ensures.kept o) levels))
    c.solve_for.ensures.refused

pub side_of-requires-2 : goal.side_of-requires-2
side_of-requires-2 c = record { looked = looked_stays c.args.bank.now c.side_of.new.bank c.args.bindings.now c.args.other.now c.in_ok-left.ensures.kept c.requires.other }

pub returns-in_err-right-clause-refused : goal.returns-in_err-right-clause-refused
returns-in_err-right-clause-refused c =
    passed_up c.from_residual-in_err-right.result c.in_err-right.field-0.0
    (λ e. (r : Closing) → IsOpenReading c.args.bank.now c.args.bindings.now c.args.next.now r → (levels : ℕ → ℕ) → (n : ℕ) (p : Equation) → IsSeenPair c.args.bank.now r c.args.level c.args.one.now c.args.other.now p → IsKnownPair levels c.args.next.now p →
    IsRuledOut n e c.args.units.now (by_rule_5 n c.args.next.now p (view c.args.bank.now r c.args.one.now) (view c.args.bank.now r c.args.other.now)))
    c.from_residual-in_err-right.ensures.1
    (λ r o levels n p h known.
    right_out n c.args.next.now c.args.level c.args.units.now p (view c.args.bank.now r c.args.one.now) (view c.args.bank.now r c.args.other.now) c.in_err-right.field-0.0
    (no_side_before c.args.bank.now c.side_of.new.bank c.args.bindings.now r c.args.one.now c.args.other.now c.args.level n c.args.next.now
    c.args.units.now p c.in_ok-left.ensures.kept c.requires.one c.requires.other h c.args.other.now c.in_err-right.field-0.0 c.requires.other
    (c.in_err-right.ensures.refused r (reading_kept c.args.bank.now c.side_of.new.bank c.args.bindings.now r c.in_ok-left.ensures.kept o.reading)
    o.shut n)) h.stands)

pub returns-in_default-right-clause-judged : goal.returns-in_default-right-clause-judged
returns-in_default-right-clause-judged c = λ r i g n p h.
    no_side n c.args.next.now c.args.level c.args.units.now p (view c.args.bank.now r c.args.one.now) (view c.args.bank.now r c.args.other.now) (transport (λ z. IsSideOf n (view c.args.bank.now r c.args.one.now) c.args.level z) c.in_default.is (c.in_ok-left.ensures.side r i g n))
    (side_before c.args.bank.now c.side_of.new.bank c.args.bindings.now r c.args.one.now c.args.other.now c.args.level n c.args.next.now
    c.args.units.now p c.in_ok-left.ensures.kept c.requires.one c.requires.other h c.args.other.now None c.requires.other
    (transport (λ z. IsSideOf n (view c.side_of.new.bank r c.args.other.now) c.args.level z) c.in_default-right.is
    (c.in_ok-right.ensures.side r (reading_kept c.args.bank.now c.side_of.new.bank c.args.bindings.now r c.in_ok-left.ensures.kept i) g n)))
    h.stands

pub solve_for-requires-2 : goal.solve_for-requires-2
solve_for-requires-2 c = record { other = looked_stays c.args.bank.now c.side_of-2.new.bank c.args.bindings.now c.args.one.now (extends-trans c.args.bank.now c.side_of.new.bank c.side_of-2.new.bank c.in_ok-left.ensures.kept c.in_ok-right.ensures.kept) c.requires.one }

pub returns-clause-judged : goal.returns-clause-judged
returns-clause-judged c =
    if_ok c.solve_for-2.result _ _
    (λ done f r i g n p h. right_judged c.args.bank.now c.side_of-2.new.bank c.args.bindings.now r c.args.one.now c.args.other.now c.args.level n
    c.args.next.now c.args.units.now p (extends-trans c.args.bank.now c.side_of.new.bank c.side_of-2.new.bank c.in_ok-left.ensures.kept
    c.in_ok-right.ensures.kept) c.requires.one c.requires.other h c.solve_for-2.new.units done c.in-Some-right.side
    (transport (λ z. IsSideOf n (view c.args.bank.now r c.args.one.now) c.args.level z) c.in_default.is (c.in_ok-left.ensures.side r i g n))
    (side_before c.args.bank.now c.side_of.new.bank c.args.bindings.now r c.args.one.now c.args.other.now c.args.level n c.args.next.now
    c.args.units.now p c.in_ok-left.ensures.kept c.requires.one c.requires.other h c.args.other.now (Some c.in-Some-right.side) c.requires.other
    (transport (λ z. IsSideOf n (view c.side_of.new.bank r c.args.other.now) c.args.level z) c.in-Some-right.is
    (c.in_ok-right.ensures.side r (reading_kept c.args.bank.now c.side_of.new.bank c.args.bindings.now r c.in_ok-left.ensures.kept i) g n)))
    (f r (reading_kept c.args.bank.now c.side_of-2.new.bank c.args.bindings.now r
    (extends-trans c.args.bank.now c.side_of.new.bank c.side_of-2.new.bank c.in_ok-left.ensures.kept c.in_ok-right.ensures.kept) i) g))
    c.solve_for-2.ensures.judged

pub returns-clause-refused : goal.returns-clause-refused
returns-clause-refused c =
    if_err c.solve_for-2.result _ _
    (λ e f r o levels n p h known. right_stopped c.args.bank.now c.side_of-2.new.bank c.args.bindings.now r c.args.one.now c.args.other.now
    c.args.level n c.args.next.now c.args.units.now p (extends-trans c.args.bank.now c.side_of.new.bank c.side_of-2.new.bank
    c.in_ok-left.ensures.kept c.in_ok-right.ensures.kept) c.requires.one c.requires.other h o levels known e c.in-Some-right.side
    (transport (λ z. IsSideOf n (view c.args.bank.now r c.args.one.now) c.args.level z) c.in_default.is
    (c.in_ok-left.ensures.side r o.reading o.shut n))
    (side_before c.args.bank.now c.side_of.new.bank c.args.bindings.now r c.args.one.now c.args.other.now c.args.level n c.args.next.now
    c.args.units.now p c.in_ok-left.ensures.kept c.requires.one c.requires.other h c.args.other.now (Some c.in-Some-right.side) c.requires.other
    (transport (λ z. IsSideOf n (view c.side_of.new.bank r c.args.other.now) c.args.level z) c.in-Some-right.is
    (c.in_ok-right.ensures.side r (reading_kept c.args.bank.now c.side_of.new.bank c.args.bindings.now r c.in_ok-left.ensures.kept o.reading)
    o.shut n))) (f r (open_kept c.args.bank.now c.side_of-2.new.bank c.args.bindings.now c.args.next.now r
    (extends-trans c.args.bank.now c.side_of.new.bank c.side_of-2.new.bank c.in_ok-left.ensures.kept c.in_ok-right.ensures.kept) o) levels))
    c.solve_for-2.ensures.refused

pub returns-in-Some-clause-done : goal.returns-in-Some-clause-done
returns-in-Some-clause-done c =
    if_ok c.solve_for.result _ _
    (λ done f r o levels n p h w.
    left_done c.args.bank.now c.side_of.new.bank c.args.bindings.now r c.args.one.now c.args.other.now c.args.level n c.args.next.now p
    c.in_ok-left.ensures.kept c.requires.one c.requires.other h o levels w done c.solve_for.new.bank c.solve_for.new.bindings c.solve_for.new.next
    c.in-Some.side (transport (λ z. IsSideOf n (view c.args.bank.now r c.args.one.now) c.args.level z) c.in-Some.is
    (c.in_ok-left.ensures.side r o.reading o.shut n)) (f r (open_kept c.args.bank.now c.side_of.new.bank c.args.bindings.now c.args.next.now r
    c.in_ok-left.ensures.kept o) levels))
    c.solve_for.ensures.done

pub returns-in_default-right-clause-done : goal.returns-in_default-right-clause-done
returns-in_default-right-clause-done c = λ r o levels n p h w.
    let i = reading_kept c.args.bank.now c.side_of.new.bank c.args.bindings.now r c.in_ok-left.ensures.kept o.reading in
    no_side_done c.args.bank.now c.side_of-2.new.bank c.args.bindings.now r c.args.one.now c.args.other.now c.args.level n c.args.next.now p
    (extends-trans c.args.bank.now c.side_of.new.bank c.side_of-2.new.bank c.in_ok-left.ensures.kept c.in_ok-right.ensures.kept) c.requires.one
    c.requires.other h o levels w
    (transport (λ z. IsSideOf n (view c.args.bank.now r c.args.one.now) c.args.level z) c.in_default.is (c.in_ok-left.ensures.side r o.reading o.shut n))
    (side_before c.args.bank.now c.side_of.new.bank c.args.bindings.now r c.args.one.now c.args.other.now c.args.level n c.args.next.now c.args.units.now p c.in_ok-left.ensures.kept c.requires.one c.requires.other h c.args.other.now None c.requires.other
    (transport (λ z. IsSideOf n (view c.side_of.new.bank r c.args.other.now) c.args.level z) c.in_default-right.is (c.in_ok-right.ensures.side r i o.shut n)))

pub returns-clause-done : goal.returns-clause-done
returns-clause-done c =
    if_ok c.solve_for-2.result _ _
    (λ done f r o levels n p h w.
    let e = extends-trans c.args.bank.now c.side_of.new.bank c.side_of-2.new.bank c.in_ok-left.ensures.kept c.in_ok-right.ensures.kept in
    let i = reading_kept c.args.bank.now c.side_of.new.bank c.args.bindings.now r c.in_ok-left.ensures.kept o.reading in
    right_done c.args.bank.now c.side_of-2.new.bank c.args.bindings.now r c.args.one.now c.args.other.now c.args.level n c.args.next.now p e c.requires.one c.requires.other h o levels w done c.solve_for-2.new.bank c.solve_for-2.new.bindings c.solve_for-2.new.next c.in-Some-right.side
    (transport (λ z. IsSideOf n (view c.args.bank.now r c.args.one.now) c.args.level z) c.in_default.is (c.in_ok-left.ensures.side r o.reading o.shut n))
    (side_before c.args.bank.now c.side_of.new.bank c.args.bindings.now r c.args.one.now c.args.other.now c.args.level n c.args.next.now c.args.units.now p c.in_ok-left.ensures.kept c.requires.one c.requires.other h c.args.other.now (Some c.in-Some-right.side) c.requires.other
    (transport (λ z. IsSideOf n (view c.side_of.new.bank r c.args.other.now) c.args.level z) c.in-Some-right.is (c.in_ok-right.ensures.side r i o.shut n)))
    (f r (open_kept c.args.bank.now c.side_of-2.new.bank c.args.bindings.now c.args.next.now r e o) levels))
    c.solve_for-2.ensures.done
