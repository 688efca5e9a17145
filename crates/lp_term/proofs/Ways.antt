-- What becomes of a place follows from what becomes of its parts, and stays as the bank grows.
use Rattle.std.proofs.Common.{◌≡◌, ℕ, zero, suc, ◌≤◌, ◌+◌, ◌-◌, ◌<◌, ◌^◌, List, [], ◌∷◌, ◌++◌, length, map, refl, sym, ap, ◌∙◌, subst as transport, arith, add-one}
use Rattle.std.specs.Prelude.{All, get_or}
use Rattle.std.specs.List.{IsAmong}
use Rattle.std.specs.List.Sorted.{IsPermutation}
use Rattle.std.specs.Map.{values_of}
use Rattle.std.specs.HashMap.{HashMap, values}
use Rattle.std.specs.Prelude.{Option, Some, None, MatchOption}
use Rattle.std.proofs.lemmas.Map.Views.{All-map-IsPermutation}
use Rattle.std.specs.Prelude.{IfSome}
use Rattle.std.proofs.lemmas.List.Elements.{All-weaker, All-nil, All-head, All-tail, All-cons}
use Rattle.lp_calculus.specs.Term.{Term, index, atom, abs, app, apply, replace, raised, shift}
use Rattle.lp_calculus.proofs.Plain.{shift-none}
use Rattle.lp_term.proofs.Several.{raised_low, put_low, put_here, put_above}
use Rattle.lp_term.specs.Nodes.{Nodes, tree, Extends}
use Rattle.lp_term.specs.Walk.{Everywhere}
use Rattle.lp_term.specs.Raise.{FitsRaised, FitsPut, FitsEach}
use Rattle.lp_term.specs.Several.{put_each}
use Rattle.lp_term.specs.Spine.{LooseBelow}
use Rattle.lp_term.specs.Change.{changed, value, IsChange, IsPlace, IsKnown, ArePlaces}
use Rattle.lp_term.specs.Frame.{in_order}
use Rattle.lp_term.specs.declared.node.TermId.{TermId}
use Rattle.lp_term.specs.declared.change.Change.{Change}
use Rattle.lp_term.specs.declared.change.Change.TheVariants.{Raise, Put}
use Rattle.lp_term.specs.declared.change.Place.{Place}
use Rattle.lp_term.specs.declared.change.Known.{Known}

-- what was kept
pub among : {X : Type 0} (P : X → Type 0) (xs : List X) (x : X) → All P xs → IsAmong xs x → P x
among P xs x a m = transport P (sym m.1.1) (a m.0 x m.1.0)

-- indices that are not free stay
no_change : (f : ℕ → ℕ → Term) → ((d i : ℕ) → i < d → f d i ≡ index i) → (n d e : ℕ) → d ≡ e + n → (t : Term) → LooseBelow n e t → replace f d t ≡ t
no_change f h n d e q (index i) l = h d i (omega arith)
no_change f h n d e q (atom a) l = refl
no_change f h n d e q (abs b) l = ap abs (no_change f h n (suc d) (suc e) (omega arith) b l)
no_change f h n d e q (app t u) l = λ j. app (no_change f h n d e q t l.0 j) (no_change f h n d e q u l.1 j)

pub shift_unchanged : (d : ℕ) (t : Term) → LooseBelow 0 0 t → t ≡ shift 0 d t
shift_unchanged d t l = sym (no_change (raised d) (raised_low d) 0 0 0 (omega arith) t l)

pub shift_none : (d : ℕ) (t : Term) → d ≡ 0 → t ≡ shift 0 d t
shift_none d t e = sym (shift-none t) ∙ ap (λ n. shift 0 n t) (sym e)

-- the value that stands for the index
pub in_order_get : (b : Nodes) (ids : List TermId) (j : ℕ) (v : TermId) (z : Term) → j < length ids → v ≡ get_or ids j v → get_or (in_order b ids) j z ≡ tree b v.0
in_order_get b [] j v z l e = absurd (omega arith)
in_order_get b (t ∷ ts) zero v z l e = ap (λ x. tree b x.0) (sym e)
in_order_get b (t ∷ ts) (suc j) v z l e = in_order_get b ts j v z (omega arith) e

pub in_order_length : (b : Nodes) (ids : List TermId) → length (in_order b ids) ≡ length ids
in_order_length b [] = refl
in_order_length b (t ∷ ts) = ap suc (in_order_length b ts)

abbrev pub IsValueAt : (given : List TermId) (depth at : ℕ) → TermId → Type 0
IsValueAt given depth at v = (depth ≤ at) × (at - depth < length given) × (v ≡ get_or given (at - depth) v)

pub put_given : (b : Nodes) (ids : List TermId) (d i : ℕ) (v : TermId) → IsValueAt ids d i v → put_each (in_order b ids) d i ≡ shift 0 d (tree b v.0)
put_given b ids d i v h =
    put_here (in_order b ids) d i (i - d) (index 0) (omega (arith, h.0)) (omega (arith, h.1, in_order_length b ids)) ∙ ap (shift 0 d) (in_order_get b ids (i - d) v (index 0) h.1 h.2)

-- an index for which none stands
pub put_low_given : (b : Nodes) (ids : List TermId) (d i : ℕ) (t : Term) → t ≡ index i → i < d → t ≡ put_each (in_order b ids) d i
put_low_given b ids d i t e l = e ∙ sym (put_low (in_order b ids) d i l)

pub put_above_given : (b : Nodes) (ids : List TermId) (d i : ℕ) (t : Term) → t ≡ index (i - length ids) → d + length ids ≤ i → t ≡ put_each (in_order b ids) d i
put_above_given b ids d i t e l = e ∙ ap (λ n. index (i - n)) (sym (in_order_length b ids)) ∙ sym (put_above (in_order b ids) d i (omega (arith, l, in_order_length b ids)))

-- an abstraction
everywhere_below : (P : ℕ → ℕ → Type 0) (d : ℕ) (t b : Term) → t ≡ abs b → Everywhere P d t → Everywhere P (d + 1) b
everywhere_below P d t b e h = transport (λ n. Everywhere P n b) (sym (add-one d)) (transport (Everywhere P d) e h)

-- an application
replace-apply : (f : ℕ → ℕ → Term) (d : ℕ) (h : Term) (xs : List Term) → replace f d (apply h xs) ≡ apply (replace f d h) (map (replace f d) xs)
replace-apply f d h [] = refl
replace-apply f d h (x ∷ xs) = replace-apply f d (app h x) xs

pub everywhere-apply : (P : ℕ → ℕ → Type 0) (d : ℕ) (h : Term) (xs : List Term) → Everywhere P d (apply h xs) → Everywhere P d h × All (Everywhere P d) xs
everywhere-apply P d h [] e = (e, All-nil (Everywhere P d))
everywhere-apply P d h (x ∷ xs) e = let r = everywhere-apply P d (app h x) xs e in (r.0.0, All-cons (Everywhere P d) x xs r.0.1 r.1)

pub in_order_stay : (b e : Nodes) (ids : List TermId) → Extends b e → All (λ t. t.0 < length b.terms) ids → in_order e ids ≡ in_order b ids
in_order_stay b e [] x a = refl
in_order_stay b e (t ∷ ts) x a = λ j. x.same_terms t.0 (a 0 t (omega arith)) j ∷ in_order_stay b e ts x (All-tail (λ t. t.0 < length b.terms) t ts a) j

pub in_order_last : (b : Nodes) (ids : List TermId) (t : TermId) → in_order b (ids ++ t ∷ []) ≡ in_order b ids ++ tree b t.0 ∷ []
in_order_last b [] t = refl
in_order_last b (x ∷ xs) t = ap (λ l. tree b x.0 ∷ l) (in_order_last b xs t)

-- one more entry of a map, whatever tells its keys apart
pub one_more : {K X S : Type 0} (P : X → Type 0) (m n : HashMap K X S) (k : K) (v : X) (old : Option X) (es : List (K × X)) → MatchOption old (IsPermutation ((k, v) ∷ m.entries) n.entries) (λ _. n.entries ≡ es) →
    All P (values_of es) → All P (values m) → P v → All P (values n)
one_more P m n k v None es h w a p = All-map-IsPermutation (λ e. e.1) P ((k, v) ∷ m.entries) n.entries h (All-cons P v (values m) p a)
one_more P m n k v (Some u) es h w a p = transport (λ l. All P (values_of l)) (sym h) w

pub raised_found : (e : Nodes) (o : Option TermId) (x y : Term) → y ≡ x → IfSome o (λ made. (made.0 < length e.terms) × (tree e made.0 ≡ x)) → IfSome o (λ made. (made.0 < length e.terms) × (tree e made.0 ≡ y))
raised_found e None x y q h = tt
raised_found e (Some made) x y q h = (h.0, h.1 ∙ sym q)

-- one value alone
pub one_fits : (u : Term) (d : ℕ) (t : Term) → Everywhere (FitsPut u) d t → Everywhere (FitsEach (u ∷ [])) d t
one_fits u d (index i) h = λ l m.
    let q : i ≡ d = omega arith in
    let z : 0 ≡ i - d = omega arith in
    transport (λ n. Everywhere (FitsRaised d) 0 (get_or (u ∷ []) n (index 0))) z (h q)
one_fits u d (atom a) h = tt
one_fits u d (abs b) h = one_fits u (suc d) b h
one_fits u d (app t s) h = (one_fits u d t h.0, one_fits u d s h.1)

module _ (vs : List TermId) where
  -- more nodes change nothing
  change_stays : (b e : Nodes) → Extends b e → (c : Change) (d : ℕ) (t : Term) → IsChange vs b c d t → IsChange vs e c d t
  change_stays b e x (Raise by) d t h = h
  change_stays b e x Put d t h =
      (All-weaker (λ v. v.0 < length b.terms) (λ v. v.0 < length e.terms) (λ v l. omega (arith, x.more_terms)) vs h.0, transport (λ us. Everywhere (FitsEach us) d t) (sym (in_order_stay b e vs x h.0)) h.1)

  pub changed_stays : (b e : Nodes) → Extends b e → (c : Change) (d : ℕ) (t : Term) → IsChange vs b c d t → changed vs e c ≡ changed vs b c
  changed_stays b e x (Raise by) d t h = refl
  changed_stays b e x Put d t h = ap put_each (in_order_stay b e vs x h.0)

  pub place_stays : (b e : Nodes) → Extends b e → (p : Place) → IsPlace vs b p → IsPlace vs e p
  place_stays b e x p i = record {
    id = omega (arith, i.id, x.more_terms);
    depth = i.depth;
    change = transport (IsChange vs e p.change p.depth) (sym (x.same_terms p.id.0 i.id)) (change_stays b e x p.change p.depth (tree b p.id.0) i.change);
  }

  pub value_stays : (b e : Nodes) → Extends b e → (p : Place) → IsPlace vs b p → value vs e p ≡ value vs b p
  value_stays b e x p i = λ j. replace (changed_stays b e x p.change p.depth (tree b p.id.0) i.change j) p.depth (x.same_terms p.id.0 i.id j)

  known_stays : (b e : Nodes) → Extends b e → (k : Known) → IsKnown vs b k → IsKnown vs e k
  known_stays b e x k i = record {
    place = place_stays b e x k.place i.place;
    made = omega (arith, i.made, x.more_terms);
    same = x.same_terms k.made.0 i.made ∙ i.same ∙ sym (value_stays b e x k.place i.place);
  }

  pub all_known_stay : (b e : Nodes) → Extends b e → (ks : List Known) → All (IsKnown vs b) ks → All (IsKnown vs e) ks
  all_known_stay b e x ks a = All-weaker (IsKnown vs b) (IsKnown vs e) (λ k i. known_stays b e x k i) ks a

  pub parts_stay : (b e : Nodes) → Extends b e → (c : Change) (d : ℕ) (ids : List TermId) → ArePlaces vs b c d ids → ArePlaces vs e c d ids
  parts_stay b e x c d ids a = All-weaker (λ t. IsPlace vs b (record { id = t; depth = d; change = c })) (λ t. IsPlace vs e (record { id = t; depth = d; change = c })) (λ t i. place_stays b e x (record { id = t; depth = d; change = c }) i) ids a

  changed_low : (b : Nodes) (c : Change) (d i : ℕ) → i < d → changed vs b c d i ≡ index i
  changed_low b (Raise by) d i l = raised_low by d i l
  changed_low b Put d i l = put_low (in_order b vs) d i l

  pub unchanged : (b : Nodes) (p : Place) → LooseBelow p.depth 0 (tree b p.id.0) → tree b p.id.0 ≡ value vs b p
  unchanged b p l = sym (no_change (changed vs b p.change) (changed_low b p.change) p.depth p.depth 0 (omega arith) (tree b p.id.0) l)

  -- an index
  pub index_value : (b : Nodes) (p : Place) (at : ℕ) (c : Change) → tree b p.id.0 ≡ index at → p.change ≡ c → changed vs b c p.depth at ≡ value vs b p
  index_value b p at c e q = ap (λ x. changed vs b x p.depth at) (sym q) ∙ ap (replace (changed vs b p.change) p.depth) (sym e)

  change_below : (b : Nodes) (c : Change) (d : ℕ) (t s : Term) → t ≡ abs s → IsChange vs b c d t → IsChange vs b c (d + 1) s
  change_below b (Raise by) d t s e h = everywhere_below (FitsRaised by) d t s e h
  change_below b Put d t s e h = (h.0, everywhere_below (FitsEach (in_order b vs)) d t s e h.1)

  pub place_below : (b : Nodes) (p : Place) (body : TermId) → IsPlace vs b p → tree b p.id.0 ≡ abs (tree b body.0) → body.0 < p.id.0 → IsPlace vs b (record { id = body; depth = p.depth + 1; change = p.change })
  place_below b p body i e l = record { id = omega (arith, i.id); depth = omega (arith, i.depth); change = change_below b p.change p.depth (tree b p.id.0) (tree b body.0) e i.change }

  pub value_below : (b : Nodes) (p : Place) (body : TermId) → tree b p.id.0 ≡ abs (tree b body.0) → abs (value vs b (record { id = body; depth = p.depth + 1; change = p.change })) ≡ value vs b p
  value_below b p body e = ap (λ n. abs (replace (changed vs b p.change) n (tree b body.0))) (add-one p.depth) ∙ ap (replace (changed vs b p.change) p.depth) (sym e)

  change_parts : (b : Nodes) (c : Change) (d : ℕ) (h : Term) (xs : List Term) → IsChange vs b c d (apply h xs) → IsChange vs b c d h × All (IsChange vs b c d) xs
  change_parts b (Raise by) d h xs k = everywhere-apply (FitsRaised by) d h xs k
  change_parts b Put d h xs k =
      let r = everywhere-apply (FitsEach (in_order b vs)) d h xs k.1 in
      ((k.0, r.0), All-weaker (Everywhere (FitsEach (in_order b vs)) d) (IsChange vs b Put d) (λ x e. (k.0, e)) xs r.1)

  places_of : (b : Nodes) (c : Change) (d n : ℕ) (ids : List TermId) → n < length b.terms → d + n < 2 ^ 64 → All (λ i. i < n) (map (λ t. t.0) ids) → All (IsChange vs b c d) (in_order b ids) → ArePlaces vs b c d ids
  places_of b c d n [] l m a k = All-nil (λ t. IsPlace vs b (record { id = t; depth = d; change = c }))
  places_of b c d n (t ∷ ts) l m a k =
      let below : t.0 < n = All-head (λ i. i < n) t.0 (map (λ t. t.0) ts) a in
      All-cons (λ t. IsPlace vs b (record { id = t; depth = d; change = c })) t ts
      (record { id = omega arith; depth = omega arith; change = All-head (IsChange vs b c d) (tree b t.0) (in_order b ts) k })
      (places_of b c d n ts l m (All-tail (λ i. i < n) t.0 (map (λ t. t.0) ts) a) (All-tail (IsChange vs b c d) (tree b t.0) (in_order b ts) k))

  pub place_parts : (b : Nodes) (p : Place) (head : TermId) (args : List TermId) → IsPlace vs b p → tree b p.id.0 ≡ apply (tree b head.0) (in_order b args) → head.0 < p.id.0 → All (λ i. i < p.id.0) (map (λ t. t.0) args) →
      IsPlace vs b (record { id = head; depth = p.depth; change = p.change }) × ArePlaces vs b p.change p.depth args
  place_parts b p head args i e l a =
      let k = change_parts b p.change p.depth (tree b head.0) (in_order b args) (transport (IsChange vs b p.change p.depth) e i.change) in
      (record { id = omega (arith, i.id); depth = omega (arith, i.depth); change = k.0 }, places_of b p.change p.depth p.id.0 args i.id i.depth a k.1)

  pub value_parts : (b : Nodes) (p : Place) (head : TermId) (args : List TermId) → tree b p.id.0 ≡ apply (tree b head.0) (in_order b args) →
      apply (value vs b (record { id = head; depth = p.depth; change = p.change })) (map (replace (changed vs b p.change) p.depth) (in_order b args)) ≡ value vs b p
  value_parts b p head args e = sym (replace-apply (changed vs b p.change) p.depth (tree b head.0) (in_order b args)) ∙ ap (replace (changed vs b p.change) p.depth) (sym e)

  pub recalled : (b : Nodes) (ks : List Known) → All (IsKnown vs b) ks → (p : Place) (o : Option TermId) → IfSome o (λ made. IsAmong ks (record { place = p; made = made })) →
      IfSome o (λ made. (made.0 < length b.terms) × (tree b made.0 ≡ value vs b p))
  recalled b ks a p None h = tt
  recalled b ks a p (Some made) h = let k = among (IsKnown vs b) ks (record { place = p; made = made }) a h in (k.made, k.same)

  -- what a place becomes is kept in a bank that has grown
  pub keeps : (b e : Nodes) → Extends b e → (p : Place) (made : TermId) → IsPlace vs b p → made.0 < length e.terms → tree e made.0 ≡ value vs b p → IsKnown vs e (record { place = p; made = made })
  keeps b e x p made i l q = record { place = place_stays b e x p i; made = l; same = q ∙ sym (value_stays b e x p i) }

  -- a value that is given can be raised to the place of its index
  pub given_fits : (b : Nodes) (p : Place) (at : ℕ) (v : TermId) → IsPlace vs b p → tree b p.id.0 ≡ index at → p.change ≡ Put → IsValueAt vs p.depth at v →
      (v.0 < length b.terms) × Everywhere (FitsRaised p.depth) 0 (tree b v.0)
  given_fits b p at v i e r h =
      let y : IsChange vs b Put p.depth (index at) = transport (λ c. IsChange vs b c p.depth (index at)) r (transport (IsChange vs b p.change p.depth) e i.change) in (
        transport (λ x. x.0 < length b.terms) (sym h.2) (y.0 (at - p.depth) v h.1),
        transport (Everywhere (FitsRaised p.depth) 0) (in_order_get b vs (at - p.depth) v (index 0) h.1 h.2) (y.1 h.0 (omega (arith, h.0, h.1, in_order_length b vs))),
      )

  pub given_value : (b : Nodes) (p : Place) (at : ℕ) (v : TermId) → tree b p.id.0 ≡ index at → p.change ≡ Put → IsValueAt vs p.depth at v → value vs b p ≡ shift 0 p.depth (tree b v.0)
  given_value b p at v e r h = sym (index_value b p at Put e r) ∙ put_given b vs p.depth at v h
