use Rattle.std.proofs.Common.{◌≡◌, ℕ, Some, None, nat_eq, subst as transport, map}
use Rattle.std.specs.Prelude.{IfSome}
use Rattle.indexmap.specs.IndexMap.{get}
use Rattle.lp_term.proofs.Moves.{passed_up}
use Rattle.lp_term.proofs.Trees.{extends-trans}
use Rattle.lp_model.specs.Pair.{Closing, Pair as Equation}
use Rattle.lp_model.specs.Rule.{by_rule_4}
use Rattle.lp_pattern.specs.declared.look.Head.{Head}
use Rattle.lp_pattern.specs.Ruling.{view, IsSeenPair, IsSideOf, IsRuledOut}
use Rattle.lp_pattern.specs.Turning.{IsOpenReading, IsKnownPair}
use Rattle.lp_pattern.specs.Under.{under}
use Rattle.lp_pattern.proofs.Results.{if_ok, if_err}
use Rattle.lp_pattern.proofs.Walking.{reading_kept, looked_stays, open_kept}
use Rattle.lp_pattern.proofs.Judging.{pair_kept}
use Rattle.lp_pattern.proofs.Verdicts.{side_before, no_side_before, five_before, five_out_before, open_judged, open_ruled, half_judged, half_ruled, both_judged, left_test_out, right_test_out}
use Rattle.lp_pattern.proofs.Dones.{five_done, open_done, half_done, both_done}
use Rattle.lp_pattern.proofs.rules.on_others.Goals as goal

pub returns-in_err-left-clause-refused : goal.returns-in_err-left-clause-refused
returns-in_err-left-clause-refused c =
    passed_up c.from_residual.result c.in_err-left.field-0.0
    (λ e. (r : Closing) → IsOpenReading c.args.bank.now c.args.bindings.now c.args.next.now r → (levels : ℕ → ℕ) → (n : ℕ) (p : Equation) → IsSeenPair
    c.args.bank.now r c.args.level c.args.one.now c.args.other.now p → IsKnownPair levels c.args.next.now p → (x l : ℕ) → c.args.one.now.head ≡
    Head.Variable x l → c.args.other.now.head ≡ Head.Variable x l →
    IsRuledOut n e c.args.units.now (by_rule_4 n c.args.next.now p x l (map (under c.args.bank.now r) c.args.one.now.arguments.items) (map (under c.args.bank.now r) c.args.other.now.arguments.items)))
    c.from_residual.ensures.1 (λ r o levels n p h known x l y z. left_test_out c.args.bank.now c.side_of.new.bank c.args.bindings.now r c.args.one.now
    c.args.other.now c.args.level n c.args.next.now c.args.units.now p c.in_err-left.ensures.kept c.requires.one c.requires.other h x l y z
    c.in_err-left.field-0.0 (c.in_err-left.ensures.refused r o.reading o.shut n))

pub by_pattern-requires-clause-one : goal.by_pattern-requires-clause-one
by_pattern-requires-clause-one c = looked_stays c.args.bank.now c.side_of.new.bank c.args.bindings.now c.args.one.now c.in_ok-left.ensures.kept c.requires.one

pub by_pattern-requires-clause-other : goal.by_pattern-requires-clause-other
by_pattern-requires-clause-other c = looked_stays c.args.bank.now c.side_of.new.bank c.args.bindings.now c.args.other.now c.in_ok-left.ensures.kept c.requires.other

pub returns-in_default-clause-judged : goal.returns-in_default-clause-judged
returns-in_default-clause-judged c =
    if_ok c.by_pattern.result _ _
    (λ done f r i g n p h x l y z.
    open_judged c.args.bank.now c.side_of.new.bank c.args.bindings.now r c.args.one.now c.args.other.now c.args.level n c.args.next.now
    c.args.units.now p c.in_ok-left.ensures.kept c.requires.one c.requires.other h x l y z c.by_pattern.new.units done
    (transport (λ z. IsSideOf n (view c.args.bank.now r c.args.one.now) c.args.level z) c.in_default.is (c.in_ok-left.ensures.side r i g n))
    (five_before c.args.bank.now c.side_of.new.bank c.args.bindings.now r c.args.one.now c.args.other.now c.args.level n c.args.next.now
    c.args.units.now p c.in_ok-left.ensures.kept c.requires.one c.requires.other h c.by_pattern.new.units done
    (f r (reading_kept c.args.bank.now c.side_of.new.bank c.args.bindings.now r c.in_ok-left.ensures.kept i) g n p
    (pair_kept c.args.bank.now c.side_of.new.bank c.args.bindings.now r c.args.level c.args.one.now c.args.other.now p c.in_ok-left.ensures.kept
    c.requires.one c.requires.other h))))
    c.by_pattern.ensures.judged

pub returns-in_default-clause-refused : goal.returns-in_default-clause-refused
returns-in_default-clause-refused c =
    if_err c.by_pattern.result _ _
    (λ e f r o levels n p h known x l y z.
    open_ruled c.args.bank.now c.side_of.new.bank c.args.bindings.now r c.args.one.now c.args.other.now c.args.level n c.args.next.now
    c.args.units.now p c.in_ok-left.ensures.kept c.requires.one c.requires.other h x l y z e
    (transport (λ z. IsSideOf n (view c.args.bank.now r c.args.one.now) c.args.level z) c.in_default.is
    (c.in_ok-left.ensures.side r o.reading o.shut n))
    (five_out_before c.args.bank.now c.side_of.new.bank c.args.bindings.now r c.args.one.now c.args.other.now c.args.level n c.args.next.now
    c.args.units.now p c.in_ok-left.ensures.kept c.requires.one c.requires.other h e
    (f r (open_kept c.args.bank.now c.side_of.new.bank c.args.bindings.now c.args.next.now r c.in_ok-left.ensures.kept o) levels n p
    (pair_kept c.args.bank.now c.side_of.new.bank c.args.bindings.now r c.args.level c.args.one.now c.args.other.now p c.in_ok-left.ensures.kept
    c.requires.one c.requires.other h) known)))
    c.by_pattern.ensures.refused

pub side_of-requires-2 : goal.side_of-requires-2
side_of-requires-2 c = record { looked = looked_stays c.args.bank.now c.side_of.new.bank c.args.bindings.now c.args.other.now c.in_ok-left.ensures.kept c.requires.other }

pub returns-in_err-right-clause-refused : goal.returns-in_err-right-clause-refused
returns-in_err-right-clause-refused c =
    passed_up c.from_residual-in_err-right.result c.in_err-right.field-0.0
    (λ e. (r : Closing) → IsOpenReading c.args.bank.now c.args.bindings.now c.args.next.now r → (levels : ℕ → ℕ) → (n : ℕ) (p : Equation) → IsSeenPair
    c.args.bank.now r c.args.level c.args.one.now c.args.other.now p → IsKnownPair levels c.args.next.now p → (x l : ℕ) → c.args.one.now.head ≡
    Head.Variable x l → c.args.other.now.head ≡ Head.Variable x l →
    IsRuledOut n e c.args.units.now (by_rule_4 n c.args.next.now p x l (map (under c.args.bank.now r) c.args.one.now.arguments.items) (map (under c.args.bank.now r) c.args.other.now.arguments.items)))
    c.from_residual-in_err-right.ensures.1
    (λ r o levels n p h known x l y z.
    right_test_out c.args.bank.now c.side_of.new.bank c.args.bindings.now r c.args.one.now c.args.other.now c.args.level n c.args.next.now c.args.units.now p c.in_ok-left.ensures.kept c.requires.one c.requires.other h x l y z c.in_err-right.field-0.0
    (no_side_before c.args.bank.now c.side_of.new.bank c.args.bindings.now r c.args.one.now c.args.other.now c.args.level n c.args.next.now
    c.args.units.now p c.in_ok-left.ensures.kept c.requires.one c.requires.other h c.args.other.now c.in_err-right.field-0.0 c.requires.other
    (c.in_err-right.ensures.refused r (reading_kept c.args.bank.now c.side_of.new.bank c.args.bindings.now r c.in_ok-left.ensures.kept o.reading)
    o.shut n)))

pub by_pattern-requires-in_default-right-clause-one : goal.by_pattern-requires-in_default-right-clause-one
by_pattern-requires-in_default-right-clause-one c = looked_stays c.args.bank.now c.side_of-2.new.bank c.args.bindings.now c.args.one.now (extends-trans c.args.bank.now c.side_of.new.bank c.side_of-2.new.bank c.in_ok-left.ensures.kept c.in_ok-right.ensures.kept) c.requires.one

pub by_pattern-requires-in_default-right-clause-other : goal.by_pattern-requires-in_default-right-clause-other
by_pattern-requires-in_default-right-clause-other c = looked_stays c.args.bank.now c.side_of-2.new.bank c.args.bindings.now c.args.other.now (extends-trans c.args.bank.now c.side_of.new.bank c.side_of-2.new.bank c.in_ok-left.ensures.kept c.in_ok-right.ensures.kept) c.requires.other

pub returns-in_default-right-clause-judged : goal.returns-in_default-right-clause-judged
returns-in_default-right-clause-judged c =
    if_ok c.by_pattern-in_default-right.result _ _
    (λ done f r i g n p h x l y z.
    half_judged c.args.bank.now c.side_of-2.new.bank c.args.bindings.now r c.args.one.now c.args.other.now c.args.level n c.args.next.now
    c.args.units.now p (extends-trans c.args.bank.now c.side_of.new.bank c.side_of-2.new.bank c.in_ok-left.ensures.kept
    c.in_ok-right.ensures.kept) c.requires.one c.requires.other h x l y z c.by_pattern-in_default-right.new.units done c.in-Some.left
    (transport (λ z. IsSideOf n (view c.args.bank.now r c.args.one.now) c.args.level z) c.in-Some.is (c.in_ok-left.ensures.side r i g n))
    (side_before c.args.bank.now c.side_of.new.bank c.args.bindings.now r c.args.one.now c.args.other.now c.args.level n c.args.next.now
    c.args.units.now p c.in_ok-left.ensures.kept c.requires.one c.requires.other h c.args.other.now None c.requires.other
    (transport (λ z. IsSideOf n (view c.side_of.new.bank r c.args.other.now) c.args.level z) c.in_default-right.is
    (c.in_ok-right.ensures.side r (reading_kept c.args.bank.now c.side_of.new.bank c.args.bindings.now r c.in_ok-left.ensures.kept i) g n)))
    (five_before c.args.bank.now c.side_of-2.new.bank c.args.bindings.now r c.args.one.now c.args.other.now c.args.level n c.args.next.now
    c.args.units.now p (extends-trans c.args.bank.now c.side_of.new.bank c.side_of-2.new.bank c.in_ok-left.ensures.kept
    c.in_ok-right.ensures.kept) c.requires.one c.requires.other h c.by_pattern-in_default-right.new.units done
    (f r (reading_kept c.args.bank.now c.side_of-2.new.bank c.args.bindings.now r
    (extends-trans c.args.bank.now c.side_of.new.bank c.side_of-2.new.bank c.in_ok-left.ensures.kept c.in_ok-right.ensures.kept) i) g n p
    (pair_kept c.args.bank.now c.side_of-2.new.bank c.args.bindings.now r c.args.level c.args.one.now c.args.other.now p
    (extends-trans c.args.bank.now c.side_of.new.bank c.side_of-2.new.bank c.in_ok-left.ensures.kept c.in_ok-right.ensures.kept) c.requires.one
    c.requires.other h))))
    c.by_pattern-in_default-right.ensures.judged

pub returns-in_default-right-clause-refused : goal.returns-in_default-right-clause-refused
returns-in_default-right-clause-refused c =
    if_err c.by_pattern-in_default-right.result _ _
    (λ e f r o levels n p h known x l y z.
    half_ruled c.args.bank.now c.side_of-2.new.bank c.args.bindings.now r c.args.one.now c.args.other.now c.args.level n c.args.next.now
    c.args.units.now p (extends-trans c.args.bank.now c.side_of.new.bank c.side_of-2.new.bank c.in_ok-left.ensures.kept
    c.in_ok-right.ensures.kept) c.requires.one c.requires.other h x l y z e c.in-Some.left
    (transport (λ z. IsSideOf n (view c.args.bank.now r c.args.one.now) c.args.level z) c.in-Some.is
    (c.in_ok-left.ensures.side r o.reading o.shut n))
    (side_before c.args.bank.now c.side_of.new.bank c.args.bindings.now r c.args.one.now c.args.other.now c.args.level n c.args.next.now
    c.args.units.now p c.in_ok-left.ensures.kept c.requires.one c.requires.other h c.args.other.now None c.requires.other
    (transport (λ z. IsSideOf n (view c.side_of.new.bank r c.args.other.now) c.args.level z) c.in_default-right.is
    (c.in_ok-right.ensures.side r (reading_kept c.args.bank.now c.side_of.new.bank c.args.bindings.now r c.in_ok-left.ensures.kept o.reading)
    o.shut n)))
    (five_out_before c.args.bank.now c.side_of-2.new.bank c.args.bindings.now r c.args.one.now c.args.other.now c.args.level n c.args.next.now
    c.args.units.now p (extends-trans c.args.bank.now c.side_of.new.bank c.side_of-2.new.bank c.in_ok-left.ensures.kept
    c.in_ok-right.ensures.kept) c.requires.one c.requires.other h e (f r (open_kept c.args.bank.now c.side_of-2.new.bank c.args.bindings.now
    c.args.next.now r (extends-trans c.args.bank.now c.side_of.new.bank c.side_of-2.new.bank c.in_ok-left.ensures.kept c.in_ok-right.ensures.kept)
    o) levels n p (pair_kept c.args.bank.now c.side_of-2.new.bank c.args.bindings.now r c.args.level c.args.one.now c.args.other.now p
    (extends-trans c.args.bank.now c.side_of.new.bank c.side_of-2.new.bank c.in_ok-left.ensures.kept c.in_ok-right.ensures.kept) c.requires.one
    c.requires.other h) known)))
    c.by_pattern-in_default-right.ensures.refused

pub returns-clause-judged : goal.returns-clause-judged
returns-clause-judged c = λ r i g n p h x l y z.
    both_judged c.args.bank.now c.side_of-2.new.bank c.args.bindings.now r c.args.one.now c.args.other.now c.args.level n c.args.next.now
    c.args.units.now p (extends-trans c.args.bank.now c.side_of.new.bank c.side_of-2.new.bank c.in_ok-left.ensures.kept
    c.in_ok-right.ensures.kept) c.requires.one c.requires.other h x l y z c.in-Some.left c.in-Some-right.right
    (transport (λ z. IsSideOf n (view c.args.bank.now r c.args.one.now) c.args.level z) c.in-Some.is (c.in_ok-left.ensures.side r i g n))
    (side_before c.args.bank.now c.side_of.new.bank c.args.bindings.now r c.args.one.now c.args.other.now c.args.level n c.args.next.now
    c.args.units.now p c.in_ok-left.ensures.kept c.requires.one c.requires.other h c.args.other.now (Some c.in-Some-right.right) c.requires.other
    (transport (λ z. IsSideOf n (view c.side_of.new.bank r c.args.other.now) c.args.level z) c.in-Some-right.is
    (c.in_ok-right.ensures.side r (reading_kept c.args.bank.now c.side_of.new.bank c.args.bindings.now r c.in_ok-left.ensures.kept i) g n)))

pub returns-in_default-clause-done : goal.returns-in_default-clause-done
returns-in_default-clause-done c =
    if_ok c.by_pattern.result _ _
    (λ done f r o levels n p h w x l y z.
    open_done c.args.bank.now c.side_of.new.bank c.args.bindings.now r c.args.one.now c.args.other.now c.args.level n c.args.next.now p c.in_ok-left.ensures.kept c.requires.one c.requires.other h o levels w x l y z done c.by_pattern.new.bank c.by_pattern.new.bindings c.by_pattern.new.next
    (transport (λ z. IsSideOf n (view c.args.bank.now r c.args.one.now) c.args.level z) c.in_default.is (c.in_ok-left.ensures.side r o.reading o.shut n))
    (five_done c.args.bank.now c.side_of.new.bank c.args.bindings.now r c.args.one.now c.args.other.now c.args.level n c.args.next.now p c.in_ok-left.ensures.kept c.requires.one c.requires.other h o levels w done c.by_pattern.new.bank c.by_pattern.new.bindings c.by_pattern.new.next
    (f r (open_kept c.args.bank.now c.side_of.new.bank c.args.bindings.now c.args.next.now r c.in_ok-left.ensures.kept o) levels n p
    (pair_kept c.args.bank.now c.side_of.new.bank c.args.bindings.now r c.args.level c.args.one.now c.args.other.now p c.in_ok-left.ensures.kept
    c.requires.one c.requires.other h) w)))
    c.by_pattern.ensures.done

pub returns-in_default-right-clause-done : goal.returns-in_default-right-clause-done
returns-in_default-right-clause-done c =
    if_ok c.by_pattern-in_default-right.result _ _
    (λ done f r o levels n p h w x l y z.
    let e = extends-trans c.args.bank.now c.side_of.new.bank c.side_of-2.new.bank c.in_ok-left.ensures.kept c.in_ok-right.ensures.kept in
    let i = reading_kept c.args.bank.now c.side_of.new.bank c.args.bindings.now r c.in_ok-left.ensures.kept o.reading in
    half_done c.args.bank.now c.side_of-2.new.bank c.args.bindings.now r c.args.one.now c.args.other.now c.args.level n c.args.next.now p e
    c.requires.one c.requires.other h o levels w x l y z done c.by_pattern-in_default-right.new.bank c.by_pattern-in_default-right.new.bindings
    c.by_pattern-in_default-right.new.next c.in-Some.left
    (transport (λ z. IsSideOf n (view c.args.bank.now r c.args.one.now) c.args.level z) c.in-Some.is (c.in_ok-left.ensures.side r o.reading o.shut n))
    (side_before c.args.bank.now c.side_of.new.bank c.args.bindings.now r c.args.one.now c.args.other.now c.args.level n c.args.next.now c.args.units.now p c.in_ok-left.ensures.kept c.requires.one c.requires.other h c.args.other.now None c.requires.other
    (transport (λ z. IsSideOf n (view c.side_of.new.bank r c.args.other.now) c.args.level z) c.in_default-right.is (c.in_ok-right.ensures.side r i o.shut n)))
    (five_done c.args.bank.now c.side_of-2.new.bank c.args.bindings.now r c.args.one.now c.args.other.now c.args.level n c.args.next.now p e
    c.requires.one c.requires.other h o levels w done c.by_pattern-in_default-right.new.bank c.by_pattern-in_default-right.new.bindings
    c.by_pattern-in_default-right.new.next
    (f r (open_kept c.args.bank.now c.side_of-2.new.bank c.args.bindings.now c.args.next.now r e o) levels n p (pair_kept c.args.bank.now c.side_of-2.new.bank c.args.bindings.now r c.args.level c.args.one.now c.args.other.now p e c.requires.one c.requires.other h) w)))
    c.by_pattern-in_default-right.ensures.done

pub returns-clause-done : goal.returns-clause-done
returns-clause-done c = λ r o levels n p h w x l y z.
    let e = extends-trans c.args.bank.now c.side_of.new.bank c.side_of-2.new.bank c.in_ok-left.ensures.kept c.in_ok-right.ensures.kept in
    let i = reading_kept c.args.bank.now c.side_of.new.bank c.args.bindings.now r c.in_ok-left.ensures.kept o.reading in
    both_done c.args.bank.now c.side_of-2.new.bank c.args.bindings.now r c.args.one.now c.args.other.now c.args.level n c.args.next.now p e c.requires.one c.requires.other h o levels w x l y z c.in-Some.left c.in-Some-right.right c.as_slice-ones.result.now c.as_slice-others.result.now
    c.join.new.bank c.join.new.bindings c.join.new.next
    (transport (λ z. IsSideOf n (view c.args.bank.now r c.args.one.now) c.args.level z) c.in-Some.is (c.in_ok-left.ensures.side r o.reading o.shut n))
    (side_before c.args.bank.now c.side_of.new.bank c.args.bindings.now r c.args.one.now c.args.other.now c.args.level n c.args.next.now c.args.units.now p c.in_ok-left.ensures.kept c.requires.one c.requires.other h c.args.other.now (Some c.in-Some-right.right) c.requires.other
    (transport (λ z. IsSideOf n (view c.side_of.new.bank r c.args.other.now) c.args.level z) c.in-Some-right.is (c.in_ok-right.ensures.side r i o.shut n)))
    c.as_slice-ones.ensures.value c.as_slice-others.ensures.value c.in_ok-join.ensures.kept c.in_ok-join.ensures.next c.in_ok-join.ensures.bound c.in_ok-join.ensures.types

pub join-requires : goal.join-requires
join-requires c = transport (λ o. IfSome o (λ s. get nat_eq c.args.bindings.now.terms s.id ≡ None)) c.in-Some.is c.in_ok-left.ensures.free
