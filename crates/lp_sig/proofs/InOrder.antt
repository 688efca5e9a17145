-- The numbers that the variables of a declared type are given in order are a numbering: one for each name, and one for each `_`.
use Rattle.std.proofs.Common.{◌≡◌, ℕ, zero, suc, ◌+◌, ◌<◌, ◌≤◌, List, [], ◌∷◌, ◌++◌, Bool, true, false, length, get_or, take, arith, Option, Some, None, refl, sym, ap, subst, ◌∙◌, true≢false, inl, inr, append_assoc, append-nil}
use Rattle.std.specs.Prelude.{if◌then◌else◌, option_map, is_some, ◌⊎◌, ◌≢◌, codes}
use Rattle.std.specs.Str.{bytes_eq}
use Rattle.std.specs.Map.{lookup}
use Rattle.std.proofs.lemmas.List.{length-append, get_or_append_left, take_more, take_all}
use Rattle.std.proofs.Math.Seq.{get_or-append_seam}
use Rattle.std.proofs.lemmas.Slice.Eq.{bytes_eq-Decides}
use Rattle.std.proofs.lemmas.Bool.{cases_lt}
use Rattle.lp_base.specs.declared.place.Spot.{Spot}
use Rattle.lp_syntax.specs.declared.text.RawTypeNode.{RawTypeNode}
use Rattle.lp_syntax.specs.declared.text.RawTypeNode.TheVariants as node
use Rattle.lp_sig.specs.Pieces.{spelled, begins_variable}
use Rattle.lp_sig.specs.Places.{first_place}
use Rattle.lp_sig.specs.Types.{one_or}
use Rattle.lp_sig.specs.Knowing.{number_of}
use Rattle.lp_sig.specs.Holding.{given_number, IsNumbered}
use Rattle.lp_sig.specs.Constants.{IsVariable, IsNumbering}
use Rattle.lp_sig.specs.Ordering.{names_with, number_with, names_by_word, names_by, names_behind, in_order, HasNames}
use Rattle.lp_sig.specs.declared.expand.Variables.{Variables}

-- first places
place_front : (name : List ℕ) (ks more : List (List ℕ)) (n : ℕ) → first_place name ks ≡ Some n → first_place name (ks ++ more) ≡ Some n
place_front name [] more n e = absurd (cc)
place_front name (k ∷ ks) more n e = by (bytes_eq name k) (first_place name ks) refl (λ j f. place_front name ks more j f) e
  where
    by : (t : Bool) (o : Option ℕ) → first_place name ks ≡ o → ((j : ℕ) → first_place name ks ≡ Some j → first_place name (ks ++ more) ≡ Some j) → (if t then Some 0 else option_map (λ i. suc i) o) ≡ Some n →
        (if t then Some 0 else option_map (λ i. suc i) (first_place name (ks ++ more))) ≡ Some n
    by true o f h e = e
    by false None f h e = absurd (cc)
    by false (Some j) f h e = ap (option_map (λ i. suc i)) (h j f) ∙ e

place_last : (name : List ℕ) (ks : List (List ℕ)) (k : List ℕ) → first_place name ks ≡ None → bytes_eq name k ≡ true → first_place name (ks ++ k ∷ []) ≡ Some (length ks)
place_last name [] k none e = ap (λ t. if t then Some 0 else None) e
place_last name (x ∷ ks) k none e = by (bytes_eq name x) (first_place name ks) refl (λ f. place_last name ks k f e) none
  where
    by : (t : Bool) (o : Option ℕ) → first_place name ks ≡ o → (first_place name ks ≡ None → first_place name (ks ++ k ∷ []) ≡ Some (length ks)) → (if t then Some 0 else option_map (λ i. suc i) o) ≡ None →
        (if t then Some 0 else option_map (λ i. suc i) (first_place name (ks ++ k ∷ []))) ≡ Some (suc (length ks))
    by true o f h e = absurd (cc)
    by false None f h e = ap (option_map (λ i. suc i)) (h f)
    by false (Some j) f h e = absurd (cc)

place_other : (name : List ℕ) (ks : List (List ℕ)) (k : List ℕ) → bytes_eq name k ≡ false → first_place name (ks ++ k ∷ []) ≡ first_place name ks
place_other name [] k e = ap (λ t. if t then Some 0 else None) e
place_other name (x ∷ ks) k e = ap (λ o. if bytes_eq name x then Some 0 else option_map (λ i. suc i) o) (place_other name ks k e)

place_at : (name : List ℕ) (ks : List (List ℕ)) (n : ℕ) → first_place name ks ≡ Some n → (n < length ks) × (get_or ks n [] ≡ name)
place_at name [] n e = absurd (cc)
place_at name (k ∷ ks) n e = by (bytes_eq name k) refl (first_place name ks) refl (λ j f. place_at name ks j f) n e
  where
    by : (t : Bool) → bytes_eq name k ≡ t → (o : Option ℕ) → first_place name ks ≡ o → ((j : ℕ) → first_place name ks ≡ Some j → (j < length ks) × (get_or ks j [] ≡ name)) → (n : ℕ) → (if t then Some 0 else option_map (λ i. suc i) o) ≡ Some n →
        (n < suc (length ks)) × (get_or (k ∷ ks) n [] ≡ name)
    by true g o f h zero e = (omega arith, sym ((bytes_eq-Decides name k).0 g))
    by true g o f h (suc n) e = absurd (cc)
    by false g None f h n e = absurd (cc)
    by false g (Some j) f h zero e = absurd (cc)
    by false g (Some j) f h (suc n) e =
        let same : j ≡ n = cc in
        let r = h n (f ∙ ap (λ j. Some j) same) in
        let l = r.0 in
        (omega (arith, l), r.1)

-- the number of a variable, and the names behind it
number_some : (ks : List (List ℕ)) (name : List ℕ) → (n : ℕ) × (number_with ks name ≡ Some n)
unfolding number_with
number_some ks name = by (bytes_eq name (codes "_")) (first_place name ks)
  where
    by : (t : Bool) (o : Option ℕ) → (n : ℕ) × ((if t then Some (length ks) else one_or o (Some (length ks))) ≡ Some n)
    by true o = (length ks, refl)
    by false None = (length ks, refl)
    by false (Some n) = (n, refl)

IsKeyed : List (List ℕ) → List ℕ → ℕ → Type 0
IsKeyed new name n = (n < length new) × (get_or new n [] ≡ name) × (bytes_eq name (codes "_") ≡ false → first_place name new ≡ Some n)

keyed : (ks : List (List ℕ)) (name : List ℕ) (n : ℕ) → number_with ks name ≡ Some n → IsKeyed (names_with ks name) name n
unfolding number_with names_with IsKeyed
keyed ks name n e = by (bytes_eq name (codes "_")) refl (first_place name ks) refl e
  where
    l : length (ks ++ name ∷ []) ≡ length ks + 1
    l = length-append ks (name ∷ [])

    by : (t : Bool) → bytes_eq name (codes "_") ≡ t → (o : Option ℕ) → first_place name ks ≡ o → (if t then Some (length ks) else one_or o (Some (length ks))) ≡ Some n →
        IsKeyed (if t then ks ++ name ∷ [] else (if is_some o then ks else ks ++ name ∷ [])) name n
    by true g o f e =
        let same : length ks ≡ n = cc in
        subst (IsKeyed (ks ++ name ∷ []) name) same (omega (arith, l), get_or-append_seam ks name [] [], λ h. absurd (true≢false (sym g ∙ h)))
    by false g None f e =
        let same : length ks ≡ n = cc in
        subst (IsKeyed (ks ++ name ∷ []) name) same (omega (arith, l), get_or-append_seam ks name [] [], λ h. place_last name ks name f ((bytes_eq-Decides name name).1 refl))
    by false g (Some j) f e =
        let same : j ≡ n = cc in
        let p = place_at name ks j f in
        subst (IsKeyed ks name) same (p.0, p.1, λ h. f)

-- a number that was given before is that of the name there
told_again : (ks : List (List ℕ)) (name : List ℕ) (n : ℕ) → number_with ks name ≡ Some n → n < length ks → (get_or ks n [] ≡ name) × (bytes_eq name (codes "_") ≡ false)
unfolding number_with
told_again ks name n e l = by (bytes_eq name (codes "_")) refl (first_place name ks) refl e
  where
    by : (t : Bool) → bytes_eq name (codes "_") ≡ t → (o : Option ℕ) → first_place name ks ≡ o → (if t then Some (length ks) else one_or o (Some (length ks))) ≡ Some n → (get_or ks n [] ≡ name) × (bytes_eq name (codes "_") ≡ false)
    by true g o f e = let same : length ks ≡ n = cc in absurd (omega (arith, same, l))
    by false g None f e = let same : length ks ≡ n = cc in absurd (omega (arith, same, l))
    by false g (Some j) f e = let same : j ≡ n = cc in ((place_at name ks n (f ∙ ap (λ j. Some j) same)).1, g)

placed : (ks : List (List ℕ)) (name : List ℕ) (n : ℕ) → bytes_eq name (codes "_") ≡ false → first_place name ks ≡ Some n → number_with ks name ≡ Some n
unfolding number_with
placed ks name n e f = ap (λ t. if t then Some (length ks) else one_or (first_place name ks) (Some (length ks))) e ∙ ap (λ o. one_or o (Some (length ks))) f

with_more : (ks : List (List ℕ)) (name : List ℕ) → (more : List (List ℕ)) × (names_with ks name ≡ ks ++ more)
unfolding names_with
with_more ks name = by (bytes_eq name (codes "_")) (is_some (first_place name ks))
  where
    by : (t o : Bool) → (more : List (List ℕ)) × ((if t then ks ++ name ∷ [] else (if o then ks else ks ++ name ∷ [])) ≡ ks ++ more)
    by true o = (name ∷ [], refl)
    by false true = ([], sym (append-nil ks))
    by false false = (name ∷ [], refl)

by_more : (text : List ℕ) (ks : List (List ℕ)) (n : RawTypeNode) → (more : List (List ℕ)) × (names_by text ks n ≡ ks ++ more)
by_more text ks (node.Word s args) = by (begins_variable (spelled text s)) (with_more ks (spelled text s))
  where
    by : (t : Bool) → (more : List (List ℕ)) × (names_with ks (spelled text s) ≡ ks ++ more) → (more : List (List ℕ)) × ((if t then names_with ks (spelled text s) else ks) ≡ ks ++ more)
    by true h = h
    by false h = ([], sym (append-nil ks))
by_more text ks (node.Arrow a b) = ([], sym (append-nil ks))

pub behind_more : (text : List ℕ) (ks : List (List ℕ)) (ns : List RawTypeNode) (n : RawTypeNode) → names_behind text ks (ns ++ n ∷ []) ≡ names_by text (names_behind text ks ns) n
behind_more text ks [] n = refl
behind_more text ks (x ∷ ns) n = behind_more text (names_by text ks x) ns n

-- of two numbers one is the later one, or they are the same
Order : ℕ → ℕ → Type 0
Order i j = ((k : ℕ) × (j ≡ (i + 1) + k)) ⊎ ((i ≡ j) ⊎ ((k : ℕ) × (i ≡ (j + 1) + k)))

ordered : (i j : ℕ) → Order i j
unfolding Order
ordered zero zero = inr (inl refl)
ordered zero (suc j) = inl (j, omega arith)
ordered (suc i) zero = inr (inr (i, omega arith))
ordered (suc i) (suc j) = deeper (ordered i j)
  where
    deeper : Order i j → Order (suc i) (suc j)
    deeper (inl p) = let e = p.1 in inl (p.0, omega (arith, e))
    deeper (inr (inl e)) = inr (inl (ap (λ n. suc n) e))
    deeper (inr (inr p)) = let e = p.1 in inr (inr (p.0, omega (arith, e)))

no_blank : (x : List ℕ) → x ≢ codes "_" → bytes_eq x (codes "_") ≡ false
no_blank x h = by (bytes_eq x (codes "_")) refl
  where
    by : (t : Bool) → bytes_eq x (codes "_") ≡ t → t ≡ false
    by true e = absurd (h ((bytes_eq-Decides x (codes "_")).0 e))
    by false e = refl

blank_not : (x : List ℕ) → bytes_eq x (codes "_") ≡ false → x ≢ codes "_"
blank_not x e f = true≢false (sym ((bytes_eq-Decides x (codes "_")).1 f) ∙ e)

module _ (text : List ℕ) (nodes : List RawTypeNode) where
  K : ℕ → List (List ℕ)
  K i = names_behind text [] (take i nodes)

  K_next : (i : ℕ) (d : RawTypeNode) → i < length nodes → K (i + 1) ≡ names_by text (K i) (get_or nodes i d)
  unfolding K
  K_next i d l = ap (names_behind text []) (take_more nodes i d l) ∙ behind_more text [] (take i nodes) (get_or nodes i d)

  K_grows : (i : ℕ) (d : RawTypeNode) → (k j : ℕ) → j ≡ i + k → (more : List (List ℕ)) × (K j ≡ K i ++ more)
  unfolding K
  K_grows i d zero j e = ([], ap K (let f : j ≡ i = omega (arith, e) in f) ∙ sym (append-nil (K i)))
  K_grows i d (suc k) j e = by (K_grows i d k (i + k) refl) (cases_lt (i + k) (length nodes))
    where
      is : j ≡ (i + k) + 1
      is = omega (arith, e)

      by : (more : List (List ℕ)) × (K (i + k) ≡ K i ++ more) → ((i + k) < length nodes) ⊎ (length nodes ≤ (i + k)) → (more : List (List ℕ)) × (K j ≡ K i ++ more)
      by h (inl g) =
          let m = by_more text (K (i + k)) (get_or nodes (i + k) d) in
          (h.0 ++ m.0, ap K is ∙ K_next (i + k) d g ∙ m.1 ∙ ap (λ l. l ++ m.0) h.1 ∙ append_assoc (K i) h.0 m.0)
      by h (inr g) = (h.0, ap K is ∙ ap (names_behind text []) (take_all ((i + k) + 1) nodes (omega (arith, g)) ∙ sym (take_all (i + k) nodes g)) ∙ h.1)

  -- behind a variable word
  K_behind : (i : ℕ) (s : Spot) → IsVariable text nodes i s → K (i + 1) ≡ names_with (K i) (spelled text s)
  K_behind i s v = K_next i (node.Word s v.0) v.1.0 ∙ ap (names_by text (K i)) v.1.1 ∙ ap (λ t. if t then names_with (K i) (spelled text s) else K i) v.2

  -- a later word
  module _ (i j : ℕ) (s z : Spot) (n : ℕ) (v : IsVariable text nodes i s) (w : IsVariable text nodes j z) (k : ℕ) (later : j ≡ (i + 1) + k) (given : in_order text nodes i s ≡ Some n) where
    key : IsKeyed (K (i + 1)) (spelled text s) n
    unfolding K
    key = subst (λ l. IsKeyed l (spelled text s) n) (sym (K_behind i s v)) (keyed (K i) (spelled text s) n given)

    grown : (more : List (List ℕ)) × (K j ≡ K (i + 1) ++ more)
    grown = K_grows (i + 1) (node.Word s v.0) k j later

    later_apart : in_order text nodes j z ≡ Some n → (spelled text s ≡ spelled text z) × (bytes_eq (spelled text z) (codes "_") ≡ false)
    unfolding K IsKeyed
    later_apart e =
        let g = grown in
        let inside = key.0 in
        let l = length-append (K (i + 1)) g.0 in
        let m : length (K j) ≡ length (K (i + 1)) + length g.0 = ap length g.1 ∙ l in
        let t = told_again (K j) (spelled text z) n e (omega (arith, inside, m)) in
        (sym key.1 ∙ sym (get_or_append_left (K (i + 1)) g.0 [] n inside) ∙ ap (λ l. get_or l n []) (sym g.1) ∙ t.0, t.1)

    later_same : spelled text s ≡ spelled text z → bytes_eq (spelled text z) (codes "_") ≡ false → in_order text nodes j z ≡ Some n
    unfolding K IsKeyed
    later_same e f =
        let g = grown in
        let here = key.2 (ap (λ x. bytes_eq x (codes "_")) e ∙ f) in
        placed (K j) (spelled text z) n f (ap (λ x. first_place x (K j)) (sym e) ∙ ap (first_place (spelled text s)) g.1 ∙ place_front (spelled text s) (K (i + 1)) g.0 n here)

  pub in_order_numbers : IsNumbering text nodes (in_order text nodes)
  unfolding Order number_with K
  in_order_numbers = record {
    same = λ i j s z n v w e f g. same i j s z n v w e f g (ordered i j);
    apart = λ i j s z n v w g h. apart i j s z n v w g h (ordered i j);
  }
    where
      some_same : (n m : ℕ) → Some n ≡ Some m → n ≡ m
      some_same n m e = cc

      same : (i j : ℕ) (s z : Spot) (n : ℕ) → IsVariable text nodes i s → IsVariable text nodes j z → spelled text s ≡ spelled text z → spelled text s ≢ codes "_" → in_order text nodes i s ≡ Some n → Order i j → in_order text nodes j z ≡ Some n
      same i j s z n v w e f g (inl p) = later_same i j s z n v w p.0 p.1 g e (no_blank (spelled text z) (λ h. f (e ∙ h)))
      same i j s z n v w e f g (inr (inl p)) = ap (λ x. number_with (K j) x) (sym e) ∙ ap (λ j. number_with (K j) (spelled text s)) (sym p) ∙ g
      same i j s z n v w e f g (inr (inr p)) =
          let m = number_some (K j) (spelled text z) in
          let h = later_same j i z s m.0 w v p.0 p.1 m.1 (sym e) (no_blank (spelled text s) f) in
          m.1 ∙ ap (λ m. Some m) (some_same m.0 n (sym h ∙ g))

      apart : (i j : ℕ) (s z : Spot) (n : ℕ) → IsVariable text nodes i s → IsVariable text nodes j z → in_order text nodes i s ≡ Some n → in_order text nodes j z ≡ Some n → Order i j → (i ≡ j) ⊎ ((spelled text s ≡ spelled text z) × (spelled text s ≢ codes "_"))
      apart i j s z n v w g h (inl p) =
          let r = later_apart i j s z n v w p.0 p.1 g h in
          inr (r.0, λ e. blank_not (spelled text z) r.1 (sym r.0 ∙ e))
      apart i j s z n v w g h (inr (inl p)) = inl p
      apart i j s z n v w g h (inr (inr p)) =
          let r = later_apart j i z s n w v p.0 p.1 h g in
          inr (sym r.0, blank_not (spelled text s) r.1)

-- the variables of a declared type and their names
module _ (v : Variables) (ks : List (List ℕ)) (h : HasNames v ks) (name : List ℕ) where
  pub given_in_order : given_number v name ≡ number_with ks name
  unfolding given_number number_with
  given_in_order = ap (λ t. if t then number_of v name else (if bytes_eq name (codes "_") then Some v.next else one_or (number_of v name) (Some v.next))) h.opened ∙ by (bytes_eq name (codes "_")) refl
    where
      by : (t : Bool) → bytes_eq name (codes "_") ≡ t → (if t then Some v.next else one_or (number_of v name) (Some v.next)) ≡ (if t then Some (length ks) else one_or (first_place name ks) (Some (length ks)))
      by true e = ap (λ n. Some n) h.next
      by false e = ap (λ o. one_or o (Some v.next)) (h.numbers name e) ∙ ap (λ n. one_or (first_place name ks) (Some n)) h.next

module _ (v w : Variables) (ks : List (List ℕ)) (h : HasNames v ks) (name : List ℕ) where
  -- `_`
  pub blank_named : bytes_eq name (codes "_") ≡ true → w.closed ≡ v.closed → w.next ≡ v.next + 1 → w.numbers ≡ v.numbers → HasNames w (names_with ks name)
  unfolding names_with number_of
  blank_named e closed next same =
      let l = length-append ks (name ∷ []) in
      let n = h.next in
      subst (HasNames w) (sym (ap (λ t. if t then ks ++ name ∷ [] else (if is_some (first_place name ks) then ks else ks ++ name ∷ [])) e)) (record {
        opened = closed ∙ h.opened;
        next = omega (arith, next, n, l);
        numbers = λ other f. ap (λ m. lookup (λ k. bytes_eq other k.items) m.entries) same ∙ h.numbers other f ∙ sym (place_other other ks name (apart other f));
      })
    where
      apart : (other : List ℕ) → bytes_eq other (codes "_") ≡ false → bytes_eq other name ≡ false
      apart other f = ap (bytes_eq other) ((bytes_eq-Decides name (codes "_")).0 e) ∙ f

  -- a name that has a number
  pub known_named : (n : ℕ) → bytes_eq name (codes "_") ≡ false → number_of v name ≡ Some n → w ≡ v → HasNames w (names_with ks name)
  unfolding names_with
  known_named n e f same =
      subst (HasNames w) (sym (ap (λ t. if t then ks ++ name ∷ [] else (if is_some (first_place name ks) then ks else ks ++ name ∷ [])) e ∙ ap (λ o. if is_some o then ks else ks ++ name ∷ []) (sym (h.numbers name e) ∙ f)))
      (subst (λ w. HasNames w ks) (sym same) h)

  -- a new name
  pub new_named : bytes_eq name (codes "_") ≡ false → number_of v name ≡ None → w.closed ≡ v.closed → w.next ≡ v.next + 1 → ((other : List ℕ) → number_of w other ≡ (if bytes_eq other name then Some v.next else number_of v other)) → HasNames w (names_with ks name)
  unfolding names_with
  new_named e f closed next added =
      let l = length-append ks (name ∷ []) in
      let n = h.next in
      let none : first_place name ks ≡ None = sym (h.numbers name e) ∙ f in
      subst (HasNames w) (sym (ap (λ t. if t then ks ++ name ∷ [] else (if is_some (first_place name ks) then ks else ks ++ name ∷ [])) e ∙ ap (λ o. if is_some o then ks else ks ++ name ∷ []) none)) (record {
        opened = closed ∙ h.opened;
        next = omega (arith, next, n, l);
        numbers = λ other g. added other ∙ by none other g (bytes_eq other name) refl;
      })
    where
      by : first_place name ks ≡ None → (other : List ℕ) → bytes_eq other (codes "_") ≡ false → (t : Bool) → bytes_eq other name ≡ t → (if t then Some v.next else number_of v other) ≡ first_place other (ks ++ name ∷ [])
      by none other g true p = ap (λ n. Some n) h.next ∙ sym (place_last other ks name (ap (λ x. first_place x ks) ((bytes_eq-Decides other name).0 p) ∙ none) p)
      by none other g false p = h.numbers other g ∙ sym (place_other other ks name p)

pub as_in_order : (v : Variables) (text : List ℕ) (nodes : List RawTypeNode) (i j : ℕ) (n : RawTypeNode) → HasNames v (names_behind text [] (take i nodes)) → j ≡ i → IsNumbered (in_order text nodes) (given_number v) text j n
as_in_order v text nodes i j (node.Word s args) h same = λ n e. ap (λ i. in_order text nodes i s) same ∙ sym (given_in_order v (names_behind text [] (take i nodes)) h (spelled text s)) ∙ e
as_in_order v text nodes i j (node.Arrow a b) h same = tt

pub names_more : (v w : Variables) (text : List ℕ) (nodes : List RawTypeNode) (i : ℕ) (d : RawTypeNode) → i < length nodes → ((ks : List (List ℕ)) → HasNames v ks → HasNames w (names_by text ks (get_or nodes i d))) → HasNames v (names_behind text [] (take i nodes)) →
    HasNames w (names_behind text [] (take (i + 1) nodes))
names_more v w text nodes i d l f h = subst (HasNames w) (sym (ap (names_behind text []) (take_more nodes i d l) ∙ behind_more text [] (take i nodes) (get_or nodes i d))) (f (names_behind text [] (take i nodes)) h)

pub not_closed : {P : Type 0} (v : Variables) (ks : List (List ℕ)) → v.closed ≡ true → HasNames v ks → P
not_closed v ks e h = absurd (true≢false (sym e ∙ h.opened))

pub by_variable : (w : Variables) (text : List ℕ) (ks : List (List ℕ)) (s : Spot) (word : List ℕ) → word ≡ spelled text s → begins_variable word ≡ true → HasNames w (names_with ks word) → HasNames w (names_by_word text ks s)
by_variable w text ks s word same e h =
    subst (HasNames w) (sym (ap (λ t. if t then names_with ks (spelled text s) else ks) (ap begins_variable (sym same) ∙ e))) (subst (λ word. HasNames w (names_with ks word)) same h)

pub by_name : (w : Variables) (text : List ℕ) (ks : List (List ℕ)) (s : Spot) (word : List ℕ) → word ≡ spelled text s → begins_variable word ≡ false → HasNames w ks → HasNames w (names_by_word text ks s)
by_name w text ks s word same e h = subst (HasNames w) (sym (ap (λ t. if t then names_with ks (spelled text s) else ks) (ap begins_variable (sym same) ∙ e))) h

pub in_order_some : (text : List ℕ) (nodes : List RawTypeNode) (i : ℕ) (s : Spot) → (n : ℕ) × (in_order text nodes i s ≡ Some n)
in_order_some text nodes i s = number_some (names_behind text [] (take i nodes)) (spelled text s)
