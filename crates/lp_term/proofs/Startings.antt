-- The moves on the way through a term.
use Rattle.std.proofs.Common.{◌≡◌, ◌≢◌, ℕ, ◌+◌, ◌*◌, ◌<◌, ◌^◌, List, [], ◌∷◌, ◌++◌, length, map, reverse, refl, sym, ap, ◌∙◌, subst as transport, arith, Bool, true, false, Vec, Global, length-append}
use Rattle.std.specs.Prelude.{All}
use Rattle.std.proofs.lemmas.List.{reverse-append, append-nil}
use Rattle.std.proofs.lemmas.List.Elements.{All-push, All-weaker, All-head, All-tail}
use Rattle.lp_calculus.specs.Term.{Term, index, abs, app, apply, replace, shift}
use Rattle.lp_term.specs.Nodes.{Nodes, tree, Extends}
use Rattle.lp_term.specs.Walk.{trees, size}
use Rattle.lp_term.specs.Frame.{in_order}
use Rattle.lp_term.specs.Change.{changed, value, IsPlace, ArePlaces}
use Rattle.lp_term.specs.Opened.{joined}
use Rattle.lp_term.specs.Started.{part, HasPlaces, IsStarted, IsHalted, AwaitsValue, IsAhead, factor, part_sizes, toil, all_toil}
use Rattle.lp_term.specs.declared.node.TermId.{TermId}
use Rattle.lp_term.specs.declared.change.Change.{Change}
use Rattle.lp_term.specs.declared.change.Change.TheVariants.{Raise, Put}
use Rattle.lp_term.specs.declared.change.Place.{Place}
use Rattle.lp_term.specs.declared.started.Started.{Started}
use Rattle.lp_term.specs.declared.started.Move.TheVariants.{On, Done}
use Rattle.lp_term.proofs.Walks.{trees-push, trees_stay, All-front, All-back, map_map}
use Rattle.lp_term.proofs.Ways.{place_stays, value_stays, changed_stays, in_order_stay, parts_stay, place_below, value_below, place_parts, value_parts, IsValueAt, given_fits, given_value}
use Rattle.lp_term.proofs.Openings.{trees_args, all_reverse, some, one, none, in_order_push}
use Rattle.lp_term.proofs.Loads.{size_some}
use Rattle.lp_term.proofs.Trees.{extends-trans}

abbrev pub a_started : Place → Bool → ℕ → Change → Vec TermId Global → Vec TermId Global → Started
a_started p a d c done left = record { place = p; abstraction = a; depth = d; change = c; done = done; left = left }

-- sizes
factor_sum : (c : Change) (x y : ℕ) → factor c * (x + y) ≡ factor c * x + factor c * y
factor_sum (Raise by) x y = omega arith
factor_sum Put x y = omega arith

factor_more : (c : Change) (x y : ℕ) → x < y → 1 + factor c * x < factor c * y
factor_more (Raise by) x y l = omega arith
factor_more Put x y l = omega arith

-- the next part of a place
abbrev pub with_left : Started → Vec TermId Global → Started
with_left w l = a_started w.place w.abstraction w.depth w.change w.done l

module _ (vs : List TermId) where
  sizes_append : (b : Nodes) (w : Started) (xs ys : List TermId) → part_sizes vs b w (xs ++ ys) ≡ part_sizes vs b w xs + part_sizes vs b w ys
  sizes_append b w [] ys = omega arith
  sizes_append b w (x ∷ xs) ys = omega (arith, sizes_append b w xs ys)

  sizes_reverse : (b : Nodes) (w : Started) (xs : List TermId) → part_sizes vs b w (reverse xs) ≡ part_sizes vs b w xs
  sizes_reverse b w [] = refl
  sizes_reverse b w (x ∷ xs) = omega (arith, ap (part_sizes vs b w) (reverse-append (x ∷ []) xs), sizes_append b w (reverse xs) (x ∷ []), sizes_reverse b w xs)

  sizes_apply : (b : Nodes) (w : Started) (h : Term) (ts : List TermId) → part_sizes vs b w ts + length ts + size h ≡ size (apply h (map (replace (changed vs b w.change) w.depth) (in_order b ts)))
  sizes_apply b w h [] = omega arith
  sizes_apply b w h (t ∷ ts) = omega (arith, sizes_apply b w (app h (part vs b w t)) ts)

  -- what a place becomes whose parts are all made
  pub closes : (b : Nodes) (w : Started) → w.left.items ≡ [] → IsStarted vs b w → joined w.abstraction (in_order b w.done.items) ≡ value vs b w.place
  closes b w e h =
      sym (h.value ∙ ap (λ l. joined w.abstraction (in_order b w.done.items ++ map (replace (changed vs b w.change) w.depth) (trees b l))) e ∙ ap (joined w.abstraction) (append-nil (in_order b w.done.items)))

  pub all_done : (b : Nodes) (w : Started) → w.left.items ≡ [] → IsStarted vs b w → 0 < length w.done.items
  all_done b w e h = omega (arith, h.some, ap length e)

  -- the outermost place
  pub begins : (b c : Nodes) → Extends b c → (p : Place) (w : Started) (ws : List Started) → ws ≡ [] → w.place ≡ p → IsPlace vs b p → AwaitsValue vs c (value vs b p) ws (value vs c w.place)
  begins b c x p w ws e q i = transport (λ l. AwaitsValue vs c (value vs b p) l (value vs c w.place)) (sym e) (sym (ap (value vs c) q ∙ value_stays vs b c x p i))

  -- a place of which it is told what it becomes, in a bank that has grown
  pub told_later : (b e : Nodes) → Extends b e → (p : Place) (w : Started) (made : TermId) → IsPlace vs b p → made.0 < length e.terms → tree e made.0 ≡ value vs b p →
      (IsPlace vs e p → made.0 < length e.terms → tree e made.0 ≡ value vs e p → IsStarted vs e w × (toil vs e w < factor p.change * size (value vs e p))) →
      IsStarted vs e w × (toil vs e w < factor p.change * size (value vs b p))
  told_later b e x p w made i l q h =
      let s = value_stays vs b e x p i in
      let r = h (place_stays vs b e x p i) l (q ∙ sym s) in
      (r.0, transport (λ v. toil vs e w < factor p.change * size v) s r.1)

  -- a place of which it is told what it becomes
  pub is_told : (b : Nodes) (p : Place) (made : TermId) (done left : Vec TermId Global) → done.items ≡ made ∷ [] → left.items ≡ [] → IsPlace vs b p → made.0 < length b.terms → tree b made.0 ≡ value vs b p →
      IsStarted vs b (a_started p false p.depth p.change done left) × (toil vs b (a_started p false p.depth p.change done left) < factor p.change * size (value vs b p))
  is_told b p made done left d l i m e =
      let w = a_started p false p.depth p.change done left in
      let z : part_sizes vs b w left.items ≡ 0 = ap (part_sizes vs b w) l in
      let k : 1 + factor p.change * 0 < factor p.change * size (value vs b p) = factor_more p.change 0 (size (value vs b p)) (size_some (value vs b p)) in (
        record {
          place = i;
          done = one (λ t. t.0 < length b.terms) done.items made d m;
          left = none (λ t. IsPlace vs b (record { id = t; depth = p.depth; change = p.change })) left.items l;
          some = omega (arith, ap length d);
          value = sym e ∙ (λ j. joined false (in_order b (sym d j) ++ map (replace (changed vs b p.change) p.depth) (trees b (sym l j))));
        },
        transport (λ n. 1 + factor p.change * n < factor p.change * size (value vs b p)) (sym z) k,
      )

  -- the place of an index in whose place a value is put
  pub is_put : (b : Nodes) (p : Place) (at : ℕ) (v : TermId) (done left : Vec TermId Global) → done.items ≡ [] → left.items ≡ v ∷ [] → IsPlace vs b p → length b.terms < 2 ^ 62 → tree b p.id.0 ≡ index at → IsValueAt vs p.depth at v → p.change ≡ Put →
      IsStarted vs b (a_started p false 0 (Raise p.depth) done left) × (toil vs b (a_started p false 0 (Raise p.depth) done left) < factor p.change * size (value vs b p))
  is_put b p at v done left d l i n e q r =
      let y = given_fits vs b p at v i e r q in
      let k : IsPlace vs b (record { id = v; depth = 0; change = Raise p.depth }) = record { id = y.0; depth = omega (arith, y.0); change = y.1 } in
      let w = a_started p false 0 (Raise p.depth) done left in
      let f : value vs b p ≡ shift 0 p.depth (tree b v.0) = given_value vs b p at v e r q in
      let g : factor p.change ≡ 4 = ap factor r in
      let s : size (value vs b p) ≡ size (shift 0 p.depth (tree b v.0)) = ap size f in (
        record {
          place = i;
          done = none (λ t. t.0 < length b.terms) done.items d;
          left = one (λ t. IsPlace vs b (record { id = t; depth = 0; change = Raise p.depth })) left.items v l k;
          some = omega (arith, ap length l);
          value = f ∙ (λ j. joined false (in_order b (sym d j) ++ map (replace (changed vs b (Raise p.depth)) 0) (trees b (sym l j))));
        },
        transport (λ m. toil vs b w < m * size (value vs b p)) (sym g) (omega (arith, s, ap (part_sizes vs b w) l, size_some (shift 0 p.depth (tree b v.0)))),
      )

  -- an abstraction
  pub is_abstraction : (b : Nodes) (p : Place) (body : TermId) (done left : Vec TermId Global) → done.items ≡ [] → left.items ≡ body ∷ [] → IsPlace vs b p → abs (tree b body.0) ≡ tree b p.id.0 → body.0 < p.id.0 →
      IsStarted vs b (a_started p true (p.depth + 1) p.change done left) × (toil vs b (a_started p true (p.depth + 1) p.change done left) < factor p.change * size (value vs b p))
  is_abstraction b p body done left d l i e k =
      let w = a_started p true (p.depth + 1) p.change done left in
      let v = value_below vs b p body (sym e) in (
        record {
          place = i;
          done = none (λ t. t.0 < length b.terms) done.items d;
          left = one (λ t. IsPlace vs b (record { id = t; depth = p.depth + 1; change = p.change })) left.items body l (place_below vs b p body i (sym e) k);
          some = omega (arith, ap length l);
          value = sym v ∙ (λ j. joined true (in_order b (sym d j) ++ map (replace (changed vs b p.change) (p.depth + 1)) (trees b (sym l j))));
        },
        factor_more p.change (part_sizes vs b w left.items) (size (value vs b p)) (omega (arith, ap (part_sizes vs b w) l, ap size v)),
      )

  -- an application
  pub is_application : (b : Nodes) (p : Place) (head : TermId) (args : List TermId) (done left : Vec TermId Global) → done.items ≡ [] → left.items ≡ reverse args ++ head ∷ [] → IsPlace vs b p →
      apply (tree b head.0) (map (tree b) (map (λ t. t.0) args)) ≡ tree b p.id.0 → (head.0 < p.id.0) × All (λ i. i < p.id.0) (map (λ t. t.0) args) × (map (λ t. t.0) args ≢ []) →
      IsStarted vs b (a_started p false p.depth p.change done left) × (toil vs b (a_started p false p.depth p.change done left) < factor p.change * size (value vs b p))
  is_application b p head args done left d l i g h =
      let w = a_started p false p.depth p.change done left in
      let n : 0 < length args = some args h.2 in
      let e : tree b p.id.0 ≡ apply (tree b head.0) (in_order b args) = sym g ∙ ap (apply (tree b head.0)) (map_map (tree b) (λ t. t.0) args) in
      let k = place_parts vs b p head args i e h.0 h.1 in
      let v = value_parts vs b p head args e in
      let q : trees b left.items ≡ tree b head.0 ∷ in_order b args = ap (trees b) l ∙ trees_args b head args in (
        record {
          place = i;
          done = none (λ t. t.0 < length b.terms) done.items d;
          left = transport (ArePlaces vs b p.change p.depth) (sym l)
              (All-push (λ t. IsPlace vs b (record { id = t; depth = p.depth; change = p.change })) (reverse args) head (all_reverse (λ t. IsPlace vs b (record { id = t; depth = p.depth; change = p.change })) args k.1) k.0);
          some = omega (arith, ap length l, length-append (reverse args) (head ∷ []));
          value = sym v ∙ (λ j. joined false (in_order b (sym d j) ++ map (replace (changed vs b p.change) p.depth) (sym q j)));
        },
        factor_more p.change (part_sizes vs b w left.items) (size (value vs b p))
            (omega (arith, ap (part_sizes vs b w) l, sizes_append b w (reverse args) (head ∷ []), sizes_reverse b w args, sizes_apply b w (part vs b w head) args, ap size v)),
      )

  parts_same : (b : Nodes) (w y : Started) → w.change ≡ y.change → w.depth ≡ y.depth → (ts : List TermId) → part_sizes vs b w ts ≡ part_sizes vs b y ts
  parts_same b w y e q [] = refl
  parts_same b w y e q (t ∷ ts) = λ j. size (replace (changed vs b (e j)) (q j) (tree b t.0)) + parts_same b w y e q ts j

  -- a part is made
  pub taken : (b : Nodes) (w : Started) (t made : TermId) (v : Vec TermId Global) → v.items ≡ w.done.items ++ made ∷ [] → IsHalted vs b w t → made.0 < length b.terms → tree b made.0 ≡ part vs b w t →
      IsStarted vs b (a_started w.place w.abstraction w.depth w.change v w.left) × (toil vs b (a_started w.place w.abstraction w.depth w.change v w.left) ≡ toil vs b w)
  taken b w t made v q h m e =
      let f : Term → Term = replace (changed vs b w.change) w.depth in (
        record {
          place = h.place;
          done = transport (All (λ t. t.0 < length b.terms)) (sym q) (All-push (λ t. t.0 < length b.terms) w.done.items made h.done m);
          left = All-front (λ t. IsPlace vs b (record { id = t; depth = w.depth; change = w.change })) w.left.items (t ∷ []) h.left;
          some = omega (arith, ap length q, length-append w.done.items (made ∷ []));
          value =
              h.value ∙
              ap (λ l. joined w.abstraction (in_order b w.done.items ++ map f l)) (trees-push b w.left.items t) ∙
              ap (λ x. joined w.abstraction (in_order b w.done.items ++ x ∷ map f (trees b w.left.items))) (sym e) ∙
              ap (joined w.abstraction) (sym (in_order_push b w.done.items made (map f (trees b w.left.items)))) ∙
              ap (λ l. joined w.abstraction (in_order b l ++ map f (trees b w.left.items))) (sym q);
        },
        same w.left.items,
      )
    where
      sizes_same : (ts : List TermId) → part_sizes vs b (a_started w.place w.abstraction w.depth w.change v w.left) ts ≡ part_sizes vs b w ts
      sizes_same ts = parts_same b (a_started w.place w.abstraction w.depth w.change v w.left) w refl refl ts

      same : (ts : List TermId) → 1 + factor w.change * part_sizes vs b (a_started w.place w.abstraction w.depth w.change v w.left) ts ≡ 1 + factor w.change * part_sizes vs b w ts
      same ts = ap (λ n. 1 + factor w.change * n) (sizes_same ts)

  -- more nodes change nothing
  changed_at : (b c : Nodes) → Extends b c → (w : Started) (t : TermId) → IsPlace vs b (record { id = t; depth = w.depth; change = w.change }) → part vs c w t ≡ part vs b w t
  changed_at b c x w t i = value_stays vs b c x (record { id = t; depth = w.depth; change = w.change }) i

  halted_stays : (b c : Nodes) → Extends b c → (w : Started) (rest : List TermId) → 0 < length rest → HasPlaces vs b w rest → HasPlaces vs c w rest
  halted_stays b c x w [] l h = absurd (omega arith)
  halted_stays b c x w (t ∷ ts) l h =
      let rest = t ∷ ts in
      let i = All-head (λ t. IsPlace vs b (record { id = t; depth = w.depth; change = w.change })) t ts h.left in
      let q : changed vs c w.change ≡ changed vs b w.change = changed_stays vs b c x w.change w.depth (tree b t.0) i.change in
      let a : All (λ t. t.0 < length b.terms) rest = All-weaker (λ t. IsPlace vs b (record { id = t; depth = w.depth; change = w.change })) (λ t. t.0 < length b.terms) (λ t i. i.id) rest h.left in
      record {
        place = place_stays vs b c x w.place h.place;
        done = All-weaker (λ t. t.0 < length b.terms) (λ t. t.0 < length c.terms) (λ t g. omega (arith, x.more_terms)) w.done.items h.done;
        left = parts_stay vs b c x w.change w.depth rest h.left;
        some = h.some;
        value =
            value_stays vs b c x w.place h.place ∙ h.value ∙
            (λ j. joined w.abstraction (sym (in_order_stay b c w.done.items x h.done) j ++ map (replace (sym q j) w.depth) (sym (trees_stay b c rest x a) j)));
      }

  awaits_stay : (b c : Nodes) → Extends b c → (v : Term) (ws : List Started) (u : Term) → AwaitsValue vs b v ws u → AwaitsValue vs c v ws u
  awaits_stay b c x v [] u a = a
  awaits_stay b c x v (w ∷ ws) u a =
      let h = a.2 in
      let t = a.1 in
      let i : IsPlace vs b (record { id = t; depth = w.depth; change = w.change }) =
      All-head (λ t. IsPlace vs b (record { id = t; depth = w.depth; change = w.change })) t [] (All-back (λ t. IsPlace vs b (record { id = t; depth = w.depth; change = w.change })) w.left.items (t ∷ []) h.left) in (
        value_stays vs b c x w.place h.place ∙ a.0,
        t,
        halted_stays b c x w (w.left.items ++ t ∷ []) (omega (arith, length-append w.left.items (t ∷ []))) h,
        transport (λ y. AwaitsValue vs c y ws u) (sym (changed_at b c x w t i)) (awaits_stay b c x (part vs b w t) ws u a.3),
      )

  sizes_stay : (b c : Nodes) → Extends b c → (w : Started) (ts : List TermId) → ArePlaces vs b w.change w.depth ts → part_sizes vs c w ts ≡ part_sizes vs b w ts
  sizes_stay b c x w [] a = refl
  sizes_stay b c x w (t ∷ ts) a =
      λ j. size (changed_at b c x w t (All-head (λ t. IsPlace vs b (record { id = t; depth = w.depth; change = w.change })) t ts a) j) +
      sizes_stay b c x w ts (All-tail (λ t. IsPlace vs b (record { id = t; depth = w.depth; change = w.change })) t ts a) j

  toil_stays : (b c : Nodes) → Extends b c → (w : Started) (t : TermId) → IsHalted vs b w t → toil vs c w ≡ toil vs b w
  toil_stays b c x w t h =
      ap (λ n. 1 + factor w.change * n) (sizes_stay b c x w w.left.items (All-front (λ t. IsPlace vs b (record { id = t; depth = w.depth; change = w.change })) w.left.items (t ∷ []) h.left))

  all_toil_stays : (b c : Nodes) → Extends b c → (v : Term) (ws : List Started) (u : Term) → AwaitsValue vs b v ws u → all_toil vs c ws ≡ all_toil vs b ws
  all_toil_stays b c x v [] u a = refl
  all_toil_stays b c x v (w ∷ ws) u a = λ j. toil_stays b c x w a.1 a.2 j + all_toil_stays b c x (part vs b w a.1) ws u a.3 j

  -- the innermost of those that wait
  awaits_last : (b : Nodes) (v : Term) (ws : List Started) (w : Started) (u : Term) → AwaitsValue vs b v (ws ++ w ∷ []) u → AwaitsValue vs b v ws (value vs b w.place) × ((t : TermId) × IsHalted vs b w t × (part vs b w t ≡ u))
  awaits_last b v [] w u a = (sym a.0, (a.1, a.2, a.3))
  awaits_last b v (y ∷ ws) w u a = let k = awaits_last b (part vs b y a.1) ws w u a.3 in ((a.0, a.1, a.2, k.0), k.1)

  awaits_more : (b : Nodes) (v : Term) (ws : List Started) (w : Started) (t : TermId) → AwaitsValue vs b v ws (value vs b w.place) → IsHalted vs b w t → AwaitsValue vs b v (ws ++ w ∷ []) (part vs b w t)
  awaits_more b v [] w t a h = (sym a, t, h, refl)
  awaits_more b v (y ∷ ws) w t a h = (a.0, a.1, a.2, awaits_more b (part vs b y a.1) ws w t a.3 h)

  all_toil_append : (b : Nodes) (ws ys : List Started) → all_toil vs b (ws ++ ys) ≡ all_toil vs b ws + all_toil vs b ys
  all_toil_append b [] ys = omega arith
  all_toil_append b (w ∷ ws) ys = omega (arith, all_toil_append b ws ys)

  -- what a place becomes is a part of the one that waits for it
  pub went_out : (b c : Nodes) → Extends b c → (v : Term) (ws ys : List Started) (w outer next : Started) (made : TermId) → ws ≡ ys ++ outer ∷ [] → AwaitsValue vs b v ws (value vs b w.place) → made.0 < length c.terms →
      tree c made.0 ≡ value vs b w.place → next.place ≡ outer.place →
      ((d : Nodes) (t : TermId) → IsHalted vs d outer t → made.0 < length d.terms → tree d made.0 ≡ part vs d outer t → IsStarted vs d next × (toil vs d next ≡ toil vs d outer)) →
      IsAhead vs c v (all_toil vs b ws + toil vs b w) ys (On next)
  went_out b c x v ws ys w outer next made q a m e p h =
      let k = awaits_last b v ys outer (value vs b w.place) (transport (λ l. AwaitsValue vs b v l (value vs b w.place)) q a) in
      let t = k.1.0 in
      let g = k.1.1 in
      let i : IsPlace vs b (record { id = t; depth = outer.depth; change = outer.change }) =
      All-head (λ t. IsPlace vs b (record { id = t; depth = outer.depth; change = outer.change })) t [] (All-back (λ t. IsPlace vs b (record { id = t; depth = outer.depth; change = outer.change })) outer.left.items (t ∷ []) g.left) in
      let n = h c t (halted_stays b c x outer (outer.left.items ++ t ∷ []) (omega (arith, length-append outer.left.items (t ∷ []))) g) m (e ∙ sym k.1.2 ∙ sym (changed_at b c x outer t i)) in (
        n.0,
        transport (AwaitsValue vs c v ys) (sym (ap (value vs c) p ∙ value_stays vs b c x outer.place g.place)) (awaits_stay b c x v ys (value vs b outer.place) k.0),
        omega (arith, n.1, ap (all_toil vs b) q, all_toil_append b ys (outer ∷ []), all_toil_stays b c x v ys (value vs b outer.place) k.0, toil_stays b c x outer t g),
      )

  pub ended : (c : Nodes) (v u : Term) (b : Nodes) (ws ys : List Started) (made : TermId) (n : ℕ) → ws ≡ [] → AwaitsValue vs b v ws u → made.0 < length c.terms → tree c made.0 ≡ u → IsAhead vs c v n ys (Done made)
  ended c v u b ws ys made n q a m e = (m, e ∙ sym (transport (λ l. AwaitsValue vs b v l u) q a))

  pub waits : (b : Nodes) (w : Started) (l : Vec TermId Global) (t : TermId) → w.left.items ≡ l.items ++ t ∷ [] → IsStarted vs b w → IsHalted vs b (with_left w l) t
  waits b w l t q h = let k = transport (HasPlaces vs b w) q h in record { place = k.place; done = k.done; left = k.left; some = k.some; value = k.value }

  pub same_left : (b : Nodes) (w : Started) (l : Vec TermId Global) → w.left.items ≡ l.items → IsStarted vs b w → IsStarted vs b (with_left w l)
  same_left b w l q h = let k = transport (HasPlaces vs b w) q h in record { place = k.place; done = k.done; left = k.left; some = k.some; value = k.value }

  pub next_place : (b : Nodes) (w : Started) (l : Vec TermId Global) (t : TermId) → w.left.items ≡ l.items ++ t ∷ [] → IsStarted vs b w → IsPlace vs b (record { id = t; depth = w.depth; change = w.change })
  next_place b w l t q h =
      All-head (λ t. IsPlace vs b (record { id = t; depth = w.depth; change = w.change })) t []
      (All-back (λ t. IsPlace vs b (record { id = t; depth = w.depth; change = w.change })) l.items (t ∷ []) (transport (ArePlaces vs b w.change w.depth) q h.left))

  toil_taken : (b : Nodes) (w : Started) (l : Vec TermId Global) (t : TermId) → w.left.items ≡ l.items ++ t ∷ [] → toil vs b w ≡ toil vs b (with_left w l) + factor w.change * size (part vs b w t)
  toil_taken b w l t q =
      let s : part_sizes vs b w w.left.items ≡ part_sizes vs b (with_left w l) l.items + size (part vs b w t) =
      (let e = parts_same b w (with_left w l) refl refl l.items in omega (arith, ap (part_sizes vs b w) q, sizes_append b w l.items (t ∷ []), e)) in
      let f = factor_sum w.change (part_sizes vs b (with_left w l) l.items) (size (part vs b w t)) in
      let g : factor w.change * part_sizes vs b w w.left.items ≡ factor w.change * part_sizes vs b (with_left w l) l.items + factor w.change * size (part vs b w t) = ap (λ n. factor w.change * n) s ∙ f in
      ap (λ n. 1 + n) g ∙ assoc (factor w.change * part_sizes vs b (with_left w l) l.items) (factor w.change * size (part vs b w t))
    where
      assoc : (x y : ℕ) → 1 + (x + y) ≡ 1 + x + y
      assoc x y = omega arith

  -- it is told at once what the part becomes
  pub found : (b c : Nodes) → Extends b c → (v : Term) (ws : List Started) (w next : Started) (l : Vec TermId Global) (t made : TermId) → w.left.items ≡ l.items ++ t ∷ [] → IsStarted vs b w → AwaitsValue vs b v ws (value vs b w.place) →
      made.0 < length c.terms → tree c made.0 ≡ part vs b w t → next.place ≡ w.place →
      ((d : Nodes) (s : TermId) → IsHalted vs d (with_left w l) s → made.0 < length d.terms → tree d made.0 ≡ part vs d (with_left w l) s → IsStarted vs d next × (toil vs d next ≡ toil vs d (with_left w l))) →
      IsAhead vs c v (all_toil vs b ws + toil vs b w) ws (On next)
  found b c x v ws w next l t made q g a m e p h =
      let i = waits b w l t q g in
      let k = next_place b w l t q g in
      let n = h c t (halted_stays b c x (with_left w l) (l.items ++ t ∷ []) (omega (arith, length-append l.items (t ∷ []))) i) m (e ∙ sym (changed_at b c x (with_left w l) t k)) in (
        n.0,
        transport (AwaitsValue vs c v ws) (sym (ap (value vs c) p ∙ value_stays vs b c x w.place g.place)) (awaits_stay b c x v ws (value vs b w.place) a),
        less (all_toil vs c ws) (all_toil vs b ws) (toil vs c next) (toil vs c (with_left w l)) (toil vs b (with_left w l)) (toil vs b w) (factor w.change * size (part vs b w t)) (all_toil_stays b c x v ws (value vs b w.place) a) n.1
            (toil_stays b c x (with_left w l) t i) (toil_taken b w l t q) (factor_some w.change (size (part vs b w t)) (size_some (part vs b w t))),
      )
    where
      less : (p q r s t u y : ℕ) → p ≡ q → r ≡ s → s ≡ t → u ≡ t + y → 0 < y → p + r < q + u
      less p q r s t u y e f g h i = omega arith

      factor_some : (k : Change) (n : ℕ) → 0 < n → 0 < factor k * n
      factor_some (Raise by) n h = omega arith
      factor_some Put n h = omega arith

  -- the part is begun, in a bank that may have grown since the place was
  pub went_in : (b n c : Nodes) → Extends b n → Extends n c → (v : Term) (ws ys : List Started) (w inner : Started) (l : Vec TermId Global) (t : TermId) → w.left.items ≡ l.items ++ t ∷ [] → IsStarted vs b w → AwaitsValue vs b v ws (value vs b w.place) →
      ys ≡ ws ++ with_left w l ∷ [] → inner.place ≡ record { id = t; depth = w.depth; change = w.change } → IsStarted vs c inner →
      toil vs c inner < factor w.change * size (value vs n (record { id = t; depth = w.depth; change = w.change })) → IsAhead vs c v (all_toil vs b ws + toil vs b w) ys (On inner)
  went_in b n c x y v ws ys w inner l t q g a r p i k =
      let h = waits b w l t q g in
      let z = next_place b w l t q g in
      let o = extends-trans b n c x y in
      let m : AwaitsValue vs b v (ws ++ with_left w l ∷ []) (part vs b w t) = awaits_more b v ws (with_left w l) t a h in
      let s : value vs c inner.place ≡ part vs b w t = ap (value vs c) p ∙ value_stays vs b c o (record { id = t; depth = w.depth; change = w.change }) z in
      let d : size (value vs n (record { id = t; depth = w.depth; change = w.change })) ≡ size (part vs b w t) = ap size (value_stays vs b n x (record { id = t; depth = w.depth; change = w.change }) z) in (
        i,
        transport (λ f. AwaitsValue vs c v f (value vs c inner.place)) (sym r) (transport (AwaitsValue vs c v (ws ++ with_left w l ∷ [])) (sym s) (awaits_stay b c o v (ws ++ with_left w l ∷ []) (part vs b w t) m)),
        less (all_toil vs c ys) (all_toil vs c (ws ++ with_left w l ∷ [])) (all_toil vs b (ws ++ with_left w l ∷ [])) (all_toil vs b ws) (toil vs b (with_left w l)) (toil vs c inner) (toil vs b w) (factor w.change * size (part vs b w t)) (ap (all_toil vs c) r)
            (all_toil_stays b c o v (ws ++ with_left w l ∷ []) (part vs b w t) m) (all_toil_append b ws (with_left w l ∷ [])) (toil_taken b w l t q) (transport (λ f. toil vs c inner < factor w.change * f) d k),
      )
    where
      less : (p q r s t u y f : ℕ) → p ≡ q → q ≡ r → r ≡ s + (t + 0) → y ≡ t + f → u < f → p + u < s + y
      less p q r s t u y f e g h i j = omega arith
