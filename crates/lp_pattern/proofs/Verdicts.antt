-- Verdicts for a pair over the banks in which its sides are tested one after the other.
use Rattle.std.proofs.Common.{◌≡◌, ℕ, ◌≤◌, List, map, length, ◌∙◌, sym, ap, subst as transport, Bool, true, false, Option, Some, None}
use Rattle.lp_calculus.specs.Term.{Term}
use Rattle.lp_calculus.specs.Convert.{steps}
use Rattle.lp_term.specs.Nodes.{Nodes, Extends}
use Rattle.lp_model.specs.Look.{flexible, weak_step}
use Rattle.lp_model.specs.Pair.{Pair, Closing}
use Rattle.lp_model.specs.Rule.{solve_for, by_rule_5, by_rule_4, by_looks, compare_all}
use Rattle.lp_unify_laws.proofs.TypedInstances.{length_map}
use Rattle.lp_pattern.specs.declared.bindings.Bindings.{Bindings}
use Rattle.lp_pattern.specs.declared.fault.PatternRefusal.{PatternRefusal}
use Rattle.lp_pattern.specs.declared.look.Head.{Head}
use Rattle.lp_pattern.specs.declared.look.Looked.{Looked}
use Rattle.lp_pattern.specs.declared.side.Side.{Side}
use Rattle.lp_pattern.specs.Comparing.{IsComparedTo, IsPassed}
use Rattle.lp_pattern.specs.Reading.{side_of}
use Rattle.lp_pattern.specs.Ruling.{view, IsSideOf, IsNoSide, IsSeenPair, IsJudged, IsRuledOut}
use Rattle.lp_pattern.specs.Seen.{IsLooked}
use Rattle.lp_pattern.specs.Under.{under}
use Rattle.lp_unify_laws.proofs.MoreSteps.Scans.{Below}
use Rattle.lp_pattern.proofs.Stacks.{under_kept, unders_kept}
use Rattle.lp_pattern.proofs.Judging.{judged_below, out_below, left_side, right_side, view_kept, as_variable, variables_same, variables_differ, differ_out, compare_out, four_open, four_half, four_joined, four_left_out, four_right_out}

module _ (b d : Nodes) (s : Bindings) (c : Closing) (one other : Looked) (level n next u : ℕ) (p : Pair) (e : Extends b d) (k : IsLooked b s one) (m : IsLooked b s other) (h : IsSeenPair b c level one other p) where
  later_right : steps weak_step h.right.0 p.right ≡ Some (under d c other.whole)
  later_right = h.right.1 ∙ ap (λ x. Some x) (sym (under_kept b d c other.whole e m.known))

  later_left : steps weak_step h.left.0 p.left ≡ Some (under d c one.whole)
  later_left = h.left.1 ∙ ap (λ x. Some x) (sym (under_kept b d c one.whole e k.known))

  -- the left side is a pattern
  pub left_judged : (w : ℕ) (done : Bool) (side : Side) → IsSideOf n (view b c one) level (Some side) →
      ((n j : ℕ) (t : Term) → steps weak_step j t ≡ Some (under d c other.whole) → IsJudged done u w (solve_for n next (side_of side) t (view d c other))) → IsJudged done u w (by_rule_5 n next p (view b c one) (view b c other))
  left_judged w done side i f =
      judged_below done u w (by_rule_5 n next p (view b c one) (view b c other)) (solve_for n next (side_of side) p.right (view b c other)) (left_side n next level p (view b c one) (view b c other) side i h.stands)
      (transport (λ v. IsJudged done u w (solve_for n next (side_of side) p.right v)) (view_kept b d s c other e m) (f n h.right.0 p.right later_right))

  -- the right side is
  pub right_judged : (w : ℕ) (done : Bool) (side : Side) → IsSideOf n (view b c one) level None → IsSideOf n (view b c other) level (Some side) →
      ((n j : ℕ) (t : Term) → steps weak_step j t ≡ Some (under d c one.whole) → IsJudged done u w (solve_for n next (side_of side) t (view d c one))) → IsJudged done u w (by_rule_5 n next p (view b c one) (view b c other))
  right_judged w done side i j f =
      judged_below done u w (by_rule_5 n next p (view b c one) (view b c other)) (solve_for n next (side_of side) p.left (view b c one)) (right_side n next level p (view b c one) (view b c other) side i j h.stands)
      (transport (λ v. IsJudged done u w (solve_for n next (side_of side) p.left v)) (view_kept b d s c one e k) (f n h.left.0 p.left later_left))

  -- a test in a bank that has grown
  pub side_before : (r : Looked) (o : Option Side) → IsLooked b s r → IsSideOf n (view d c r) level o → IsSideOf n (view b c r) level o
  side_before r o q i = transport (λ v. IsSideOf n v level o) (view_kept b d s c r e q) i

  pub no_side_before : (r : Looked) (o : PatternRefusal) → IsLooked b s r → IsNoSide n (view d c r) level o → IsNoSide n (view b c r) level o
  no_side_before r o q i = transport (λ v. IsNoSide n v level o) (view_kept b d s c r e q) i

  -- rule 5 in a bank that has grown
  pub five_before : (w : ℕ) (done : Bool) → IsJudged done u w (by_rule_5 n next p (view d c one) (view d c other)) → IsJudged done u w (by_rule_5 n next p (view b c one) (view b c other))
  five_before w done f = transport (λ v. IsJudged done u w (by_rule_5 n next p v (view b c other))) (view_kept b d s c one e k) (transport (λ v. IsJudged done u w (by_rule_5 n next p (view d c one) v)) (view_kept b d s c other e m) f)

  pub five_out_before : (o : PatternRefusal) → IsRuledOut n o u (by_rule_5 n next p (view d c one) (view d c other)) → IsRuledOut n o u (by_rule_5 n next p (view b c one) (view b c other))
  five_out_before o f = transport (λ v. IsRuledOut n o u (by_rule_5 n next p v (view b c other))) (view_kept b d s c one e k) (transport (λ v. IsRuledOut n o u (by_rule_5 n next p (view d c one) v)) (view_kept b d s c other e m) f)

  -- one variable on both sides
  module _ (x l : ℕ) (y : one.head ≡ Head.Variable x l) (z : other.head ≡ Head.Variable x l) where
    abbrev ts : List Term
    ts = map (under b c) one.arguments.items

    abbrev us : List Term
    us = map (under b c) other.arguments.items

    pub at_one : (o : Option Side) → IsSideOf n (view b c one) level o → IsSideOf n (flexible x l ts) level o
    at_one o i = transport (λ v. IsSideOf n v level o) (as_variable b c one x l y) i

    pub at_other : (o : Option Side) → IsSideOf n (view b c other) level o → IsSideOf n (flexible x l us) level o
    at_other o i = transport (λ v. IsSideOf n v level o) (as_variable b c other x l z) i

    five_at : by_rule_5 n next p (view b c one) (view b c other) ≡ by_rule_5 n next p (flexible x l ts) (flexible x l us)
    five_at = λ i. by_rule_5 n next p (as_variable b c one x l y i) (as_variable b c other x l z i)

    pub below_five : Below (by_rule_4 n next p x l ts us) (by_rule_5 n next p (flexible x l ts) (flexible x l us)) → Below (by_rule_4 n next p x l ts us) (by_rule_5 n next p (view b c one) (view b c other))
    below_five f r q = five_at ∙ f r q

    pub open_judged : (w : ℕ) (done : Bool) → IsSideOf n (view b c one) level None → IsJudged done u w (by_rule_5 n next p (view b c one) (view b c other)) → IsJudged done u w (by_rule_4 n next p x l ts us)
    open_judged w done i f = judged_below done u w _ _ (below_five (four_open n next p x l ts us level (at_one None i) h.stands)) f

    pub open_ruled : (o : PatternRefusal) → IsSideOf n (view b c one) level None → IsRuledOut n o u (by_rule_5 n next p (view b c one) (view b c other)) → IsRuledOut n o u (by_rule_4 n next p x l ts us)
    open_ruled o i f = out_below n u o _ _ (below_five (four_open n next p x l ts us level (at_one None i) h.stands)) f

    pub half_judged : (w : ℕ) (done : Bool) (side : Side) → IsSideOf n (view b c one) level (Some side) → IsSideOf n (view b c other) level None → IsJudged done u w (by_rule_5 n next p (view b c one) (view b c other)) →
        IsJudged done u w (by_rule_4 n next p x l ts us)
    half_judged w done side i j f = judged_below done u w _ _ (below_five (four_half n next p x l ts us level side (at_one (Some side) i) (at_other None j) h.stands)) f

    pub half_ruled : (o : PatternRefusal) (side : Side) → IsSideOf n (view b c one) level (Some side) → IsSideOf n (view b c other) level None → IsRuledOut n o u (by_rule_5 n next p (view b c one) (view b c other)) →
        IsRuledOut n o u (by_rule_4 n next p x l ts us)
    half_ruled o side i j f = out_below n u o _ _ (below_five (four_half n next p x l ts us level side (at_one (Some side) i) (at_other None j) h.stands)) f

    pub both_judged : (left right : Side) → IsSideOf n (view b c one) level (Some left) → IsSideOf n (view b c other) level (Some right) → IsJudged true u u (by_rule_4 n next p x l ts us)
    both_judged left right i j = four_joined n next p x l ts us level u left right (at_one (Some left) i) (at_other (Some right) j) h.stands

    pub left_test_out : (o : PatternRefusal) → IsNoSide n (view b c one) level o → IsRuledOut n o u (by_rule_4 n next p x l ts us)
    left_test_out o i = four_left_out n next p x l ts us level u o (transport (λ v. IsNoSide n v level o) (as_variable b c one x l y) i) h.stands

    pub right_test_out : (o : PatternRefusal) → IsNoSide n (view b c other) level o → IsRuledOut n o u (by_rule_4 n next p x l ts us)
    right_test_out o i = four_right_out n next p x l ts us level u o (transport (λ v. IsNoSide n v level o) (as_variable b c other x l z) i) h.stands

    -- rule 4 in a bank that has grown
    pub four_before : (w : ℕ) (done : Bool) → IsJudged done u w (by_rule_4 n next p x l (map (under d c) one.arguments.items) (map (under d c) other.arguments.items)) → IsJudged done u w (by_rule_4 n next p x l ts us)
    four_before w done f =
        transport (λ v. IsJudged done u w (by_rule_4 n next p x l v us)) (unders_kept b d c one.arguments.items e k.arguments)
        (transport (λ v. IsJudged done u w (by_rule_4 n next p x l (map (under d c) one.arguments.items) v)) (unders_kept b d c other.arguments.items e m.arguments) f)

    pub four_out_before : (o : PatternRefusal) → IsRuledOut n o u (by_rule_4 n next p x l (map (under d c) one.arguments.items) (map (under d c) other.arguments.items)) → IsRuledOut n o u (by_rule_4 n next p x l ts us)
    four_out_before o f =
        transport (λ v. IsRuledOut n o u (by_rule_4 n next p x l v us)) (unders_kept b d c one.arguments.items e k.arguments)
        (transport (λ v. IsRuledOut n o u (by_rule_4 n next p x l (map (under d c) one.arguments.items) v)) (unders_kept b d c other.arguments.items e m.arguments) f)

-- the comparison of one variable's arguments
module _ (b : Nodes) (s : Bindings) (c : Closing) (one other : Looked) (level n next u : ℕ) (p : Pair) (h : IsSeenPair b c level one other p) (x l : ℕ) (y : one.head ≡ Head.Variable x l) (z : other.head ≡ Head.Variable x l)
    (a : length one.arguments.items ≡ length other.arguments.items) where
  abbrev left_terms : List Term
  left_terms = map (under b c) one.arguments.items

  abbrev right_terms : List Term
  right_terms = map (under b c) other.arguments.items

  pub even : length left_terms ≡ length right_terms
  even = length_map (under b c) one.arguments.items ∙ a ∙ sym (length_map (under b c) other.arguments.items)

  pub looks_at : by_looks n next p (view b c one) (view b c other) ≡ by_looks n next p (flexible x l left_terms) (flexible x l right_terms)
  looks_at = λ i. by_looks n next p (as_variable b c one x l y i) (as_variable b c other x l z i)

  pub same_judged : (w : ℕ) (same : Bool) → same ≡ true → IsComparedTo same u w (compare_all n level left_terms right_terms) → IsJudged true u w (by_looks n next p (view b c one) (view b c other))
  same_judged w same q f =
      transport (IsJudged true u w) (sym looks_at)
      (variables_same n next p x l left_terms right_terms even u w (transport (λ k. IsComparedTo true u w (compare_all n k left_terms right_terms)) (sym h.stands) (transport (λ t. IsComparedTo t u w (compare_all n level left_terms right_terms)) q f)))

  pub differs : (v : ℕ) (same : Bool) → same ≡ false → IsComparedTo same u v (compare_all n level left_terms right_terms) → IsComparedTo false u v (compare_all n p.level left_terms right_terms)
  differs v same q f = transport (λ k. IsComparedTo false u v (compare_all n k left_terms right_terms)) (sym h.stands) (transport (λ t. IsComparedTo t u v (compare_all n level left_terms right_terms)) q f)

  pub other_judged : (v w : ℕ) (same done : Bool) → same ≡ false → IsComparedTo same u v (compare_all n level left_terms right_terms) → IsJudged done v w (by_rule_4 n next p x l left_terms right_terms) →
      IsJudged done u w (by_looks n next p (view b c one) (view b c other))
  other_judged v w same done q f g = transport (IsJudged done u w) (sym looks_at) (variables_differ n next p x l left_terms right_terms even done u v w (differs v same q f) g)

  pub other_ruled : (v : ℕ) (same : Bool) (o : PatternRefusal) → same ≡ false → IsComparedTo same u v (compare_all n level left_terms right_terms) → IsRuledOut n o v (by_rule_4 n next p x l left_terms right_terms) →
      IsRuledOut n o u (by_looks n next p (view b c one) (view b c other))
  other_ruled v same o q f g = transport (IsRuledOut n o u) (sym looks_at) (differ_out n next p x l left_terms right_terms even u v o (differs v same q f) g)

  pub compare_ruled : (o : PatternRefusal) → ((m : ℕ) → m ≤ 1000000 → IsPassed o u (compare_all m level left_terms right_terms)) → IsRuledOut n o u (by_looks n next p (view b c one) (view b c other))
  compare_ruled o f = transport (IsRuledOut n o u) (sym looks_at) (compare_out n next p x l left_terms right_terms even u o (λ i k. transport (λ j. IsPassed o u (compare_all i j left_terms right_terms)) (sym h.stands) (f i k)))
