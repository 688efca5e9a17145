-- What is read behind one variable against a term, through the rules that try its sides one after the other.
use Rattle.std.proofs.Common.{◌≡◌, ℕ, suc, ◌<◌, List, [], map, length, ◌∙◌, refl, sym, ap, subst as transport, Bool, true, false, Option, Some, None, if◌then◌else◌}
use Rattle.std.specs.Prelude.{◌&&◌, option_map}
use Rattle.lp_calculus.specs.Term.{Term, atom, apply, logic}
use Rattle.lp_calculus.specs.Convert.{steps}
use Rattle.lp_calculus.specs.Fill.{Within, abstracted}
use Rattle.lp_calculus.proofs.Steps.{within_reduces}
use Rattle.lp_term.specs.Nodes.{Nodes, Extends, tree}
use Rattle.lp_model.specs.Look.{flexible, are_distinct, are_above, only_if, as_eigens, pattern_of, weak_step}
use Rattle.lp_model.specs.Pair.{Pair, Closing, closed}
use Rattle.lp_model.specs.Patterns.{eigens, agreeing}
use Rattle.lp_model.specs.Rule.{gives, Ruled, ruled, joined, pattern_side, side, solve_for, by_pattern, by_rule_5, by_rule_4, by_looks, compare_all, dear}
use Rattle.lp_model.specs.Scan as scan
use Rattle.lp_pattern.proofs.Walking.{open_kept}
use Rattle.lp_pattern.specs.declared.bindings.Bindings.{Bindings}
use Rattle.lp_pattern.specs.declared.look.Head.{Head}
use Rattle.lp_pattern.specs.declared.look.Looked.{Looked}
use Rattle.lp_pattern.specs.declared.side.Side.{Side}
use Rattle.lp_pattern.specs.Comparing.{IsComparedTo}
use Rattle.lp_pattern.specs.Putting.{Known}
use Rattle.lp_pattern.specs.Reading.{side_of}
use Rattle.lp_pattern.specs.Ruling.{view, view_of, IsSideOf, IsSeenPair}
use Rattle.lp_pattern.specs.Scanning.{Binds}
use Rattle.lp_pattern.specs.Seen.{IsLooked}
use Rattle.lp_pattern.specs.Turning.{IsOpenReading, IsKnownPair, IsDoneAs}
use Rattle.lp_pattern.specs.Under.{IsReading, under}
use Rattle.lp_pattern.specs.Valuing.{IsKnownSide}
use Rattle.lp_pattern.proofs.BoundOnce.{join_behind, kept_behind}
use Rattle.lp_pattern.proofs.Compares.{from_bind, from_map}
use Rattle.lp_pattern.proofs.Judging.{sides, by_right, left_side, right_side, no_side, view_kept, as_variable, some_same, behind_compare, or_at, both_of, some_of, side_at, when_both, four_open, four_half}
use Rattle.lp_pattern.proofs.Looking.{closed_apply}
use Rattle.lp_pattern.proofs.PruneSteps.{weak_reduces, within_apply}
use Rattle.lp_pattern.proofs.SettleSteps.{top_variable}
use Rattle.lp_pattern.proofs.Stacks.{under_kept, unders_kept}
use Rattle.lp_pattern.proofs.Verdicts.{at_one, at_other, below_five, looks_at, even, differs}

-- the variable of a pattern is known, and its eigenconstants are distinct
distinct_of : (n l : ℕ) (ts : List Term) (a : List ℕ) → pattern_of n l ts ≡ Some (Some a) → are_distinct a ≡ true
distinct_of n l ts a e = let w = from_map (only_if (λ ks. are_distinct ks && are_above l ks)) (as_eigens n ts) (Some a) e in go w.0 w.2
  where
    chosen : (b : List ℕ) (x y : Bool) → Some a ≡ (if x && y then Some b else None) → x ≡ true
    chosen b true y q = refl
    chosen b false y q = absurd (cc)

    same_as : (b : List ℕ) (x : Bool) → Some a ≡ (if x then Some b else None) → a ≡ b
    same_as b true q = cc
    same_as b false q = absurd (cc)

    go : (o : Option (List ℕ)) → Some a ≡ only_if (λ ks. are_distinct ks && are_above l ks) o → are_distinct a ≡ true
    go None q = absurd (cc)
    go (Some b) q = ap are_distinct (same_as b (are_distinct b && are_above l b) q) ∙ chosen b (are_distinct b) (are_above l b) q

head_known : (b : Nodes) (s : Bindings) (c : Closing) (r : Looked) (levels : ℕ → ℕ) (next x l : ℕ) → IsReading b s c → IsLooked b s r → Within (Known levels next) 0 (under b c r.whole) → r.head ≡ Head.Variable x l → (x < next) × (l ≡ levels x)
head_known b s c r levels next x l i k w h =
    let ts : List Term = map (λ t. tree b t.0) r.arguments.items in
    let e : under b c r.whole ≡ apply (under b c r.top) (map (closed c) ts) = ap (closed c) k.made ∙ closed_apply c ts (tree b r.top.0) in
    let z = (within_apply (Known levels next) (map (closed c) ts) (under b c r.top) (transport (Within (Known levels next) 0) e w) 0 [] tt).0 in
    transport (Within (Known levels next) 0) (top_variable b s c r x l i k h) z

pub known_side : (b : Nodes) (s : Bindings) (c : Closing) (r : Looked) (levels : ℕ → ℕ) (next n : ℕ) (p : Pair) (t : scan.Side) → IsReading b s c → IsLooked b s r → Within (Known levels next) 0 (under b c r.whole) →
    pattern_side n p (view b c r) ≡ Some (Some t) → IsKnownSide levels next t
known_side b s c r levels next n p t i k w e = go r.head refl e
  where
    go : (h : Head) → r.head ≡ h → pattern_side n p (view_of b c h r.top r.arguments.items) ≡ Some (Some t) → IsKnownSide levels next t
    go (Head.Abstraction body) z q = absurd (cc)
    go Head.Rigid z q = absurd (cc)
    go (Head.Variable x l) z q =
        let v = from_map (sides x l p) (pattern_of n l (map (under b c) r.arguments.items)) (Some t) q in
        at_side v.0 v.1 v.2
      where
        at_side : (o : Option (List ℕ)) → pattern_of n l (map (under b c) r.arguments.items) ≡ Some o → Some t ≡ sides x l p o → IsKnownSide levels next t
        at_side None f g = absurd (cc)
        at_side (Some a) f g =
            let j : t ≡ side x l a p = cc in
            let m = head_known b s c r levels next x l i k w z in
            transport (IsKnownSide levels next) (sym j) (record { below = m.0; level = m.1; distinct = distinct_of n l (map (under b c) r.arguments.items) a f })

module _ (b d : Nodes) (s : Bindings) (c : Closing) (one other : Looked) (level n next : ℕ) (p : Pair) (e : Extends b d) (k : IsLooked b s one) (m : IsLooked b s other) (h : IsSeenPair b c level one other p) (o : IsOpenReading b s next c) (levels : ℕ → ℕ)
    (w : IsKnownPair levels next p) where
  left_known : Within (Known levels next) 0 (under b c one.whole)
  left_known = within_reduces (Known levels next) 0 (weak_reduces h.left.0 p.left (under b c one.whole) h.left.1) w.0

  right_known : Within (Known levels next) 0 (under b c other.whole)
  right_known = within_reduces (Known levels next) 0 (weak_reduces h.right.0 p.right (under b c other.whole) h.right.1) w.1

  abbrev Ends : Bool → Nodes → Bindings → ℕ → Option Ruled → Type 0
  Ends done f s' next' q = (r : Ruled) → q ≡ Some r → IsDoneAs done levels next c s f s' next' r.verdict

  abbrev Solves : Bool → Nodes → Bindings → ℕ → Side → Looked → Type 0
  Solves done f s' next' t r =
      IsKnownSide levels next (side_of t) → (n j : ℕ) (u : Term) → steps weak_step j u ≡ Some (under d c r.whole) → Within (Known levels next) 0 u → Ends done f s' next' (solve_for n next (side_of t) u (view d c r))

  -- the left side is a pattern
  pub left_done : (done : Bool) (f : Nodes) (s' : Bindings) (next' : ℕ) (t : Side) → IsSideOf n (view b c one) level (Some t) → Solves done f s' next' t other → Ends done f s' next' (by_rule_5 n next p (view b c one) (view b c other))
  left_done done f s' next' t i g r q =
      let a = from_bind (by_right n next p (view b c one) (view b c other)) (pattern_side n p (view b c one)) r q in
      let z : pattern_side n p (view b c one) ≡ Some (Some (side_of t)) = a.1 ∙ ap (λ x. Some x) (i p h.stands a.0 a.1) in
      g (known_side b s c one levels next n p (side_of t) o.reading k left_known z) n h.right.0 p.right (h.right.1 ∙ ap (λ x. Some x) (sym (under_kept b d c other.whole e m.known))) w.1 r
      (ap (solve_for n next (side_of t) p.right) (view_kept b d s c other e m) ∙ left_side n next level p (view b c one) (view b c other) t i h.stands r q)

  -- the right side is
  pub right_done : (done : Bool) (f : Nodes) (s' : Bindings) (next' : ℕ) (t : Side) → IsSideOf n (view b c one) level None → IsSideOf n (view b c other) level (Some t) → Solves done f s' next' t one →
      Ends done f s' next' (by_rule_5 n next p (view b c one) (view b c other))
  right_done done f s' next' t i j g r q =
      let a = from_bind (by_right n next p (view b c one) (view b c other)) (pattern_side n p (view b c one)) r q in
      let y = from_bind (by_pattern n next p (view b c one) (view b c other) None) (pattern_side n p (view b c other)) r (ap (by_right n next p (view b c one) (view b c other)) (sym (i p h.stands a.0 a.1)) ∙ a.2) in
      let z : pattern_side n p (view b c other) ≡ Some (Some (side_of t)) = y.1 ∙ ap (λ x. Some x) (j p h.stands y.0 y.1) in
      g (known_side b s c other levels next n p (side_of t) o.reading m right_known z) n h.left.0 p.left (h.left.1 ∙ ap (λ x. Some x) (sym (under_kept b d c one.whole e k.known))) w.0 r
      (ap (solve_for n next (side_of t) p.left) (view_kept b d s c one e k) ∙ right_side n next level p (view b c one) (view b c other) t i j h.stands r q)

  -- none is
  pub no_side_done : IsSideOf n (view b c one) level None → IsSideOf n (view b c other) level None → Ends false d s next (by_rule_5 n next p (view b c one) (view b c other))
  no_side_done i j r q = ((no_side n next level 0 p (view b c one) (view b c other) i j h.stands r q).1, kept_behind b d s next c e o)

  -- rule 5 in a bank that has grown
  pub five_done : (done : Bool) (f : Nodes) (s' : Bindings) (next' : ℕ) → Ends done f s' next' (by_rule_5 n next p (view d c one) (view d c other)) → Ends done f s' next' (by_rule_5 n next p (view b c one) (view b c other))
  five_done done f s' next' g r q = g r ((λ i. by_rule_5 n next p (view_kept b d s c one e k i) (view_kept b d s c other e m i)) ∙ q)

  -- one variable on both sides
  module _ (x l : ℕ) (y : one.head ≡ Head.Variable x l) (z : other.head ≡ Head.Variable x l) where
    abbrev ts : List Term
    ts = map (under b c) one.arguments.items

    abbrev us : List Term
    us = map (under b c) other.arguments.items

    pub open_done : (done : Bool) (f : Nodes) (s' : Bindings) (next' : ℕ) → IsSideOf n (view b c one) level None → Ends done f s' next' (by_rule_5 n next p (view b c one) (view b c other)) → Ends done f s' next' (by_rule_4 n next p x l ts us)
    open_done done f s' next' i g r q =
        g r
        (below_five b d s c one other level n next 0 p e k m h x l y z
        (four_open n next p x l ts us level (at_one b d s c one other level n next 0 p e k m h x l y z None i) h.stands) r q)

    pub half_done : (done : Bool) (f : Nodes) (s' : Bindings) (next' : ℕ) (t : Side) → IsSideOf n (view b c one) level (Some t) → IsSideOf n (view b c other) level None →
        Ends done f s' next' (by_rule_5 n next p (view b c one) (view b c other)) → Ends done f s' next' (by_rule_4 n next p x l ts us)
    half_done done f s' next' t i j g r q =
        g r
        (below_five b d s c one other level n next 0 p e k m h x l y z
        (four_half n next p x l ts us level t (at_one b d s c one other level n next 0 p e k m h x l y z (Some t) i) (at_other b d s c one other level n next 0 p e k m h x l y z None j) h.stands) r q)

    -- rule 4
    pub both_done : (left right : Side) (ks js : List ℕ) (f : Nodes) (s' : Bindings) (next' : ℕ) → IsSideOf n (view b c one) level (Some left) → IsSideOf n (view b c other) level (Some right) → ks ≡ left.eigens.items → js ≡ right.eigens.items →
        Extends d f → next' ≡ suc next → (are_distinct ks ≡ true → Binds f s s' left.id (abstracted ks (apply (atom (logic next left.level)) (eigens (agreeing ks js))))) → s'.types ≡ s.types → Ends true f s' next' (by_rule_4 n next p x l ts us)
    both_done left right ks js f s' next' i j a g u v made types r q =
        let both = both_of n next p x l ts us r q in
        let at_left = side_at n next p x l ts us ts level (Some left) both.one (at_one b d s c one other level n next 0 p e k m h x l y z (Some left) i) h.stands both.left in
        let at_right = side_at n next p x l ts us us level (Some right) both.other (at_other b d s c one other level n next 0 p e k m h x l y z (Some right) j) h.stands both.right in
        let one_is = some_of n next p x l ts us both.one (side_of left) at_left in
        let other_is = some_of n next p x l ts us both.other (side_of right) at_right in
        let there : side x l one_is.0 p ≡ side_of left = (let t : Some (side x l one_is.0 p) ≡ Some (side_of left) = ap (sides x l p) (sym one_is.1) ∙ at_left in cc) in
        let here : side x l other_is.0 p ≡ side_of right = (let t : Some (side x l other_is.0 p) ≡ Some (side_of right) = ap (sides x l p) (sym other_is.1) ∙ at_right in cc) in
        let is : ruled 0 (joined next x l one_is.0 other_is.0) ≡ r = some_same (ruled 0 (joined next x l one_is.0 other_is.0)) r ((λ t. when_both n next p x l ts us (sym one_is.1 t) (sym other_is.1 t)) ∙ both.is) in
        let verdict : joined next left.id left.level left.eigens.items right.eigens.items ≡ r.verdict = (λ t. joined next (sym there t).id (sym there t).level (sym there t).arguments (sym here t).arguments) ∙ ap (λ t. t.verdict) is in
        let side_is : pattern_side n p (view b c one) ≡ Some (Some (side_of left)) = ap (pattern_side n p) (as_variable b c one x l y) ∙ ap (option_map (sides x l p)) both.left ∙ ap (λ t. Some t) at_left in
        let known = known_side b s c one levels next n p (side_of left) o.reading k left_known side_is in
        let bound : Binds f s s' left.id (abstracted left.eigens.items (apply (atom (logic next left.level)) (eigens (agreeing left.eigens.items right.eigens.items)))) =
        transport (λ t. Binds f s s' left.id (abstracted left.eigens.items (apply (atom (logic next left.level)) (eigens (agreeing left.eigens.items t))))) g
        (transport (λ t. Binds f s s' left.id (abstracted t (apply (atom (logic next left.level)) (eigens (agreeing t js))))) a (made (ap are_distinct a ∙ known.distinct))) in
        transport (IsDoneAs true levels next c s f s' next') verdict
        (v, join_behind levels next next' c d f s s' left.id left.level left.eigens.items right.eigens.items u (open_kept b d s next c e o) v bound types known.below known.level)

    -- rule 4 in a bank that has grown
    pub four_done : (done : Bool) (f : Nodes) (s' : Bindings) (next' : ℕ) → Ends done f s' next' (by_rule_4 n next p x l (map (under d c) one.arguments.items) (map (under d c) other.arguments.items)) → Ends done f s' next' (by_rule_4 n next p x l ts us)
    four_done done f s' next' g r q = g r ((λ i. by_rule_4 n next p x l (unders_kept b d c one.arguments.items e k.arguments i) (unders_kept b d c other.arguments.items e m.arguments i)) ∙ q)

-- the comparison of one variable's arguments
module _ (b : Nodes) (s : Bindings) (c : Closing) (one other : Looked) (level n next u : ℕ) (p : Pair) (h : IsSeenPair b c level one other p) (x l : ℕ) (y : one.head ≡ Head.Variable x l) (z : other.head ≡ Head.Variable x l)
    (a : length one.arguments.items ≡ length other.arguments.items) where
  abbrev left_terms : List Term
  left_terms = map (under b c) one.arguments.items

  abbrev right_terms : List Term
  right_terms = map (under b c) other.arguments.items

  at_flexible : (r : Ruled) → by_looks n next p (view b c one) (view b c other) ≡ Some r → by_looks n next p (flexible x l left_terms) (flexible x l right_terms) ≡ Some r
  at_flexible r q = sym (looks_at b s c one other level n next u p h x l y z a) ∙ q

  pub same_done : (v : ℕ) (same : Bool) (levels : ℕ → ℕ) (d : Nodes) → same ≡ true → IsComparedTo same u v (compare_all n level left_terms right_terms) → Extends b d → IsOpenReading b s next c → (r : Ruled) →
      by_looks n next p (view b c one) (view b c other) ≡ Some r → IsDoneAs true levels next c s d s next r.verdict
  same_done v same levels d i f e o r q =
      let k = behind_compare n next p x l left_terms right_terms (even b s c one other level n next u p h x l y z a) r (at_flexible r q) in
      let g : IsComparedTo true u v (compare_all n p.level left_terms right_terms) =
      transport (λ k. IsComparedTo true u v (compare_all n k left_terms right_terms)) (sym h.stands) (transport (λ t. IsComparedTo t u v (compare_all n level left_terms right_terms)) i f) in
      let w = some_same (ruled k.0.units (gives [] [])) r (or_at n next p x l left_terms right_terms (even b s c one other level n next u p h x l y z a) k.0 true r (g k.0 k.1).0 k.2) in
      transport (λ t. IsDoneAs true levels next c s d s next t.verdict) w (refl, refl, kept_behind b d s next c e o)

  pub other_done : (v : ℕ) (same done : Bool) (levels : ℕ → ℕ) (f : Nodes) (s' : Bindings) (next' : ℕ) → same ≡ false → IsComparedTo same u v (compare_all n level left_terms right_terms) →
      ((r : Ruled) → by_rule_4 n next p x l left_terms right_terms ≡ Some r → IsDoneAs done levels next c s f s' next' r.verdict) → (r : Ruled) → by_looks n next p (view b c one) (view b c other) ≡ Some r →
      IsDoneAs done levels next c s f s' next' r.verdict
  other_done v same done levels f s' next' i j g r q =
      let k = behind_compare n next p x l left_terms right_terms (even b s c one other level n next u p h x l y z a) r (at_flexible r q) in
      let w = differs b s c one other level n next u p h x l y z a v same i j in
      let t = from_map (dear k.0.units) (by_rule_4 n next p x l left_terms right_terms) r (or_at n next p x l left_terms right_terms (even b s c one other level n next u p h x l y z a) k.0 false r (w k.0 k.1).0 k.2) in
      transport (λ t. IsDoneAs done levels next c s f s' next' t.verdict) (sym t.2) (g t.0 t.1)
