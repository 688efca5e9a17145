use Rattle.std.proofs.Common.{ℕ, sym, ◌∙◌, subst as transport, map, length, arith}
use Rattle.lp_term.proofs.Moves.{passed_up}
use Rattle.lp_model.specs.Pair.{Closing, Pair as Equation}
use Rattle.lp_model.specs.Rule.{by_looks, compare_all}
use Rattle.lp_pattern.specs.Comparing.{IsPassed, IsComparedTo}
use Rattle.lp_pattern.specs.Ruling.{view, IsSeenPair, IsRuledOut}
use Rattle.lp_pattern.specs.Turning.{IsOpenReading, IsKnownPair}
use Rattle.lp_pattern.specs.Under.{under}
use Rattle.lp_term.proofs.Walking.{on_ok}
use Rattle.lp_pattern.proofs.Results.{if_ok, if_err}
use Rattle.lp_pattern.proofs.Walking.{reading_kept, looked_stays, open_kept}
use Rattle.lp_pattern.proofs.Judging.{pair_kept, one_of}
use Rattle.lp_pattern.proofs.Verdicts.{same_judged, other_judged, other_ruled, compare_ruled, four_before, four_out_before}
use Rattle.lp_pattern.proofs.Dones.{same_done, other_done, four_done}
use Rattle.lp_pattern.proofs.rules.on_one_variable.Goals as goal

pub are_same-requires-clause-arguments : goal.are_same-requires-clause-arguments
are_same-requires-clause-arguments c =
    let w = one_of c.args.one.now.head c.args.other.now.head (length c.args.one.now.arguments.items) (length c.args.other.now.arguments.items) c.requires.same in
    (λ i. length (c.as_slice-ones.ensures.value i)) ∙ w.4 ∙ sym (λ i. length (c.as_slice-others.ensures.value i))

pub returns-in_err-is_same-clause-refused : goal.returns-in_err-is_same-clause-refused
returns-in_err-is_same-clause-refused c =
    let w = one_of c.args.one.now.head c.args.other.now.head (length c.args.one.now.arguments.items) (length c.args.other.now.arguments.items) c.requires.same in
    passed_up c.from_residual.result c.in_err-is_same.field-0.0
    (λ e. (r : Closing) → IsOpenReading c.args.bank.now c.args.bindings.now c.args.next.now r → (levels : ℕ → ℕ) → (n : ℕ) (p : Equation) → IsSeenPair c.args.bank.now r c.args.level c.args.one.now c.args.other.now p → IsKnownPair levels c.args.next.now p →
    IsRuledOut n e c.args.units.now (by_looks n c.args.next.now p (view c.args.bank.now r c.args.one.now) (view c.args.bank.now r c.args.other.now)))
    c.from_residual.ensures.1
    (λ r o levels n p h known. compare_ruled c.args.bank.now c.args.bindings.now r c.args.one.now c.args.other.now c.args.level n c.args.next.now c.args.units.now p h w.0 w.1 w.2 w.3 w.4 c.in_err-is_same.field-0.0
    (λ j q. transport (λ o. IsPassed c.in_err-is_same.field-0.0 c.args.units.now (compare_all j c.args.level (map (under c.args.bank.now r) o) (map (under c.args.bank.now r) c.args.other.now.arguments.items))) c.as_slice-ones.ensures.value
    (transport (λ o. IsPassed c.in_err-is_same.field-0.0 c.args.units.now (compare_all j c.args.level (map (under c.args.bank.now r) c.as_slice-ones.result.now) (map (under c.args.bank.now r) o))) c.as_slice-others.ensures.value (c.in_err-is_same.ensures.refused r o.reading j q))))

pub returns-then-is_same-clause-judged : goal.returns-then-is_same-clause-judged
returns-then-is_same-clause-judged c =
    let w = one_of c.args.one.now.head c.args.other.now.head (length c.args.one.now.arguments.items) (length c.args.other.now.arguments.items) c.requires.same in
    λ r i g n p h. same_judged c.args.bank.now c.args.bindings.now r c.args.one.now c.args.other.now c.args.level n c.args.next.now c.args.units.now p h w.0 w.1 w.2 w.3 w.4 c.are_same.new.units c.in_ok-is_same.is_same c.if-is_same.true
    (transport (λ o. IsComparedTo c.in_ok-is_same.is_same c.args.units.now c.are_same.new.units (compare_all n c.args.level (map (under c.args.bank.now r) o) (map (under c.args.bank.now r) c.args.other.now.arguments.items))) c.as_slice-ones.ensures.value
    (transport (λ o. IsComparedTo c.in_ok-is_same.is_same c.args.units.now c.are_same.new.units (compare_all n c.args.level (map (under c.args.bank.now r) c.as_slice-ones.result.now) (map (under c.args.bank.now r) o))) c.as_slice-others.ensures.value (c.in_ok-is_same.ensures.compared r i n)))

pub on_others-requires-clause-one : goal.on_others-requires-clause-one
on_others-requires-clause-one c = looked_stays c.args.bank.now c.are_same.new.bank c.args.bindings.now c.args.one.now c.in_ok-is_same.ensures.kept c.requires.one

pub on_others-requires-clause-other : goal.on_others-requires-clause-other
on_others-requires-clause-other c = looked_stays c.args.bank.now c.are_same.new.bank c.args.bindings.now c.args.other.now c.in_ok-is_same.ensures.kept c.requires.other

pub returns-clause-judged : goal.returns-clause-judged
returns-clause-judged c =
    let w = one_of c.args.one.now.head c.args.other.now.head (length c.args.one.now.arguments.items) (length c.args.other.now.arguments.items) c.requires.same in
    if_ok c.on_others.result _ _
    (λ done f r i g n p h.
    other_judged c.args.bank.now c.args.bindings.now r c.args.one.now c.args.other.now c.args.level n c.args.next.now c.args.units.now p h w.0 w.1 w.2 w.3 w.4 c.are_same.new.units c.on_others.new.units c.in_ok-is_same.is_same done c.if-is_same.false
    (transport (λ o. IsComparedTo c.in_ok-is_same.is_same c.args.units.now c.are_same.new.units (compare_all n c.args.level (map (under c.args.bank.now r) o) (map (under c.args.bank.now r) c.args.other.now.arguments.items))) c.as_slice-ones.ensures.value
    (transport (λ o. IsComparedTo c.in_ok-is_same.is_same c.args.units.now c.are_same.new.units (compare_all n c.args.level (map (under c.args.bank.now r) c.as_slice-ones.result.now) (map (under c.args.bank.now r) o))) c.as_slice-others.ensures.value (c.in_ok-is_same.ensures.compared r i n)))
    (four_before c.args.bank.now c.are_same.new.bank c.args.bindings.now r c.args.one.now c.args.other.now c.args.level n c.args.next.now
    c.are_same.new.units p c.in_ok-is_same.ensures.kept c.requires.one c.requires.other h w.0 w.1 w.2 w.3 c.on_others.new.units done
    (f r (reading_kept c.args.bank.now c.are_same.new.bank c.args.bindings.now r c.in_ok-is_same.ensures.kept i) g n p
    (pair_kept c.args.bank.now c.are_same.new.bank c.args.bindings.now r c.args.level c.args.one.now c.args.other.now p
    c.in_ok-is_same.ensures.kept c.requires.one c.requires.other h) w.0 w.1 w.2 w.3)))
    c.on_others.ensures.judged

pub returns-clause-refused : goal.returns-clause-refused
returns-clause-refused c =
    let w = one_of c.args.one.now.head c.args.other.now.head (length c.args.one.now.arguments.items) (length c.args.other.now.arguments.items) c.requires.same in
    if_err c.on_others.result _ _
    (λ e f r o levels n p h known.
    other_ruled c.args.bank.now c.args.bindings.now r c.args.one.now c.args.other.now c.args.level n c.args.next.now c.args.units.now p h w.0 w.1 w.2 w.3 w.4 c.are_same.new.units c.in_ok-is_same.is_same e c.if-is_same.false
    (transport (λ o. IsComparedTo c.in_ok-is_same.is_same c.args.units.now c.are_same.new.units (compare_all n c.args.level (map (under c.args.bank.now r) o) (map (under c.args.bank.now r) c.args.other.now.arguments.items))) c.as_slice-ones.ensures.value
    (transport (λ o. IsComparedTo c.in_ok-is_same.is_same c.args.units.now c.are_same.new.units
    (compare_all n c.args.level (map (under c.args.bank.now r) c.as_slice-ones.result.now) (map (under c.args.bank.now r) o)))
    c.as_slice-others.ensures.value (c.in_ok-is_same.ensures.compared r o.reading n)))
    (four_out_before c.args.bank.now c.are_same.new.bank c.args.bindings.now r c.args.one.now c.args.other.now c.args.level n c.args.next.now
    c.are_same.new.units p c.in_ok-is_same.ensures.kept c.requires.one c.requires.other h w.0 w.1 w.2 w.3 e
    (f r (open_kept c.args.bank.now c.are_same.new.bank c.args.bindings.now c.args.next.now r c.in_ok-is_same.ensures.kept o) levels n p
    (pair_kept c.args.bank.now c.are_same.new.bank c.args.bindings.now r c.args.level c.args.one.now c.args.other.now p
    c.in_ok-is_same.ensures.kept c.requires.one c.requires.other h) known w.0 w.1 w.2 w.3)))
    c.on_others.ensures.refused

pub returns-then-is_same-clause-done : goal.returns-then-is_same-clause-done
returns-then-is_same-clause-done c =
    let w = one_of c.args.one.now.head c.args.other.now.head (length c.args.one.now.arguments.items) (length c.args.other.now.arguments.items) c.requires.same in
    λ r o levels n p h v. same_done c.args.bank.now c.args.bindings.now r c.args.one.now c.args.other.now c.args.level n c.args.next.now c.args.units.now p h w.0 w.1 w.2 w.3 w.4 c.are_same.new.units c.in_ok-is_same.is_same levels c.are_same.new.bank c.if-is_same.true
    (transport (λ o. IsComparedTo c.in_ok-is_same.is_same c.args.units.now c.are_same.new.units (compare_all n c.args.level (map (under c.args.bank.now r) o) (map (under c.args.bank.now r) c.args.other.now.arguments.items))) c.as_slice-ones.ensures.value
    (transport (λ o. IsComparedTo c.in_ok-is_same.is_same c.args.units.now c.are_same.new.units
    (compare_all n c.args.level (map (under c.args.bank.now r) c.as_slice-ones.result.now) (map (under c.args.bank.now r) o)))
    c.as_slice-others.ensures.value (c.in_ok-is_same.ensures.compared r o.reading n)))
    c.in_ok-is_same.ensures.kept o

pub returns-clause-done : goal.returns-clause-done
returns-clause-done c =
    let w = one_of c.args.one.now.head c.args.other.now.head (length c.args.one.now.arguments.items) (length c.args.other.now.arguments.items) c.requires.same in
    if_ok c.on_others.result _ _
    (λ done f r o levels n p h v.
    other_done c.args.bank.now c.args.bindings.now r c.args.one.now c.args.other.now c.args.level n c.args.next.now c.args.units.now p h w.0 w.1 w.2 w.3 w.4 c.are_same.new.units c.in_ok-is_same.is_same done levels c.on_others.new.bank c.on_others.new.bindings c.on_others.new.next c.if-is_same.false
    (transport (λ o. IsComparedTo c.in_ok-is_same.is_same c.args.units.now c.are_same.new.units (compare_all n c.args.level (map (under c.args.bank.now r) o) (map (under c.args.bank.now r) c.args.other.now.arguments.items))) c.as_slice-ones.ensures.value
    (transport (λ o. IsComparedTo c.in_ok-is_same.is_same c.args.units.now c.are_same.new.units
    (compare_all n c.args.level (map (under c.args.bank.now r) c.as_slice-ones.result.now) (map (under c.args.bank.now r) o)))
    c.as_slice-others.ensures.value (c.in_ok-is_same.ensures.compared r o.reading n)))
    (four_done c.args.bank.now c.are_same.new.bank c.args.bindings.now r c.args.one.now c.args.other.now c.args.level n c.args.next.now p c.in_ok-is_same.ensures.kept c.requires.one c.requires.other h o levels v w.0 w.1 w.2 w.3 done c.on_others.new.bank c.on_others.new.bindings c.on_others.new.next
    (f r (open_kept c.args.bank.now c.are_same.new.bank c.args.bindings.now c.args.next.now r c.in_ok-is_same.ensures.kept o) levels n p
    (pair_kept c.args.bank.now c.are_same.new.bank c.args.bindings.now r c.args.level c.args.one.now c.args.other.now p
    c.in_ok-is_same.ensures.kept c.requires.one c.requires.other h) v w.0 w.1 w.2 w.3)))
    c.on_others.ensures.done

pub returns-then-is_same-clause-fewer : goal.returns-then-is_same-clause-fewer
returns-then-is_same-clause-fewer c = c.in_ok-is_same.ensures.fewer

pub returns-clause-fewer : goal.returns-clause-fewer
returns-clause-fewer c = let few = c.in_ok-is_same.ensures.fewer in on_ok c.on_others.result _ _ (λ h. omega (arith, h, few)) c.on_others.ensures.fewer
