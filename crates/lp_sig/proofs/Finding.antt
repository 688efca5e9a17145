-- What is found at the first place of a name.
use Rattle.std.proofs.Common.{◌≡◌, ℕ, suc, ◌<◌, ◌≤◌, List, [], ◌∷◌, ◌++◌, length, map, get_or, Option, Some, None, Bool, true, false, refl, sym, ap, subst, ◌∙◌, true≢false, arith, cond}
use Rattle.std.specs.Prelude.{if◌then◌else◌, option_map, find, is_some}
use Rattle.std.specs.Str.{bytes_eq}
use Rattle.std.specs.Borrow.{Bor}
use Rattle.std.specs.Slice.{IsGetResult}
use Rattle.lp_lemmas.proofs.Booleans.{bytes_eq_true}
use Rattle.lp_sig.specs.Places.{first_place}
use Rattle.lp_sig.specs.Rows.{Row, found}

-- the first of two, if there is one
or : Option ℕ → Option ℕ → Option ℕ
or None b = b
or (Some a) b = Some a

or_none : (a : Option ℕ) → or a None ≡ a
unfolding or
or_none None = refl
or_none (Some a) = refl

later : (a : Option ℕ) (t : Bool) (n : ℕ) → option_map (λ i. suc i) (or a (if t then Some n else None)) ≡ or (option_map (λ i. suc i) a) (if t then Some (suc n) else None)
unfolding or
later None true n = refl
later None false n = refl
later (Some a) t n = refl

-- one more name
first_more : (name n : List ℕ) (ns : List (List ℕ)) → first_place name (ns ++ n ∷ []) ≡ or (first_place name ns) (if bytes_eq name n then Some (length ns) else None)
unfolding or
first_more name n [] = refl
first_more name n (m ∷ ms) = by (first_more name n ms) (bytes_eq name m)
  where
    by : first_place name (ms ++ n ∷ []) ≡ or (first_place name ms) (if bytes_eq name n then Some (length ms) else None) → (t : Bool) →
        (if t then Some 0 else option_map (λ i. suc i) (first_place name (ms ++ n ∷ []))) ≡ or
        (if t then Some 0 else option_map (λ i. suc i) (first_place name ms)) (if bytes_eq name n then Some (suc (length ms)) else None)
    by h true = refl
    by h false = ap (option_map (λ i. suc i)) h ∙ later (first_place name ms) (bytes_eq name n) (length ms)

-- a name that is there keeps its place, and no other gets one
pub first_again : (name other : List ℕ) (ns : List (List ℕ)) (o : Option ℕ) → is_some o ≡ true → o ≡ first_place name ns → first_place other ns ≡ first_place other (ns ++ name ∷ [])
unfolding or
first_again name other ns None some is = absurd (true≢false (sym some))
first_again name other ns (Some i) some is = by (bytes_eq other name) refl
  where
    by : (t : Bool) → bytes_eq other name ≡ t → first_place other ns ≡ first_place other (ns ++ name ∷ [])
    by true e =
        let p : first_place other ns ≡ Some i = ap (λ n. first_place n ns) (bytes_eq_true other name e) ∙ sym is in
        p ∙ sym (first_more other name ns ∙ ap (λ o. or o (if bytes_eq other name then Some (length ns) else None)) p)
    by false e = sym (first_more other name ns ∙ ap (λ t. or (first_place other ns) (if t then Some (length ns) else None)) e ∙ or_none (first_place other ns))

-- a new name has the place behind the others
pub first_new : (name other : List ℕ) (ns : List (List ℕ)) (place : ℕ) (o p : Option ℕ) → place ≡ length ns → o ≡ first_place other ns → is_some p ≡ false → p ≡ first_place name ns → (if bytes_eq other name then Some place else o) ≡ first_place other (ns ++ name ∷ [])
unfolding or
first_new name other ns place o (Some i) at is none there = absurd (true≢false none)
first_new name other ns place o None at is none there = by (bytes_eq other name) refl
  where
    by : (t : Bool) → bytes_eq other name ≡ t → (if t then Some place else o) ≡ first_place other (ns ++ name ∷ [])
    by true e =
        let p : first_place other ns ≡ None = ap (λ n. first_place n ns) (bytes_eq_true other name e) ∙ sym there in
        ap (λ n. Some n) at ∙ sym (first_more other name ns ∙ ap (λ o. or o (if bytes_eq other name then Some (length ns) else None)) p ∙ ap (λ t. if t then Some (length ns) else None) e)
    by false e = is ∙ sym (first_more other name ns ∙ ap (λ t. or (first_place other ns) (if t then Some (length ns) else None)) e ∙ or_none (first_place other ns))

none_before : (o : Option ℕ) → option_map (λ i. suc i) o ≡ None → o ≡ None
none_before None e = refl
none_before (Some i) e = absurd (cc)

module _ {E : Type 0} (named : E → List ℕ) (name : List ℕ) where
  -- nothing is found where no name has a place
  pub absent : (es : List E) → first_place name (map named es) ≡ None → find (λ e. bytes_eq name (named e)) es ≡ None
  absent [] none = refl
  absent (x ∷ xs) none = by (absent xs) (bytes_eq name (named x)) none
    where
      by : (first_place name (map named xs) ≡ None → find (λ e. bytes_eq name (named e)) xs ≡ None) → (t : Bool) → (if t then Some 0 else option_map (λ i. suc i) (first_place name (map named xs))) ≡ None → cond t (Some x) (find (λ e. bytes_eq name (named e)) xs) ≡ None
      by h true e = absurd (cc)
      by h false e = h (none_before (first_place name (map named xs)) e)

  -- what stands at the first place is found
  pub present : (es : List E) (i : ℕ) (e : E) → first_place name (map named es) ≡ Some i → get_or es i e ≡ e → find (λ e. bytes_eq name (named e)) es ≡ Some e
  present [] i e none at = absurd (cc)
  present (x ∷ xs) i e there at = by (λ j h g. present xs j e h g) (bytes_eq name (named x)) there
    where
      deeper : ((j : ℕ) → first_place name (map named xs) ≡ Some j → get_or xs j e ≡ e → find (λ e. bytes_eq name (named e)) xs ≡ Some e) → (o : Option ℕ) → o ≡ first_place name (map named xs) → option_map (λ i. suc i) o ≡ Some i → find (λ e. bytes_eq name (named e)) xs ≡ Some e
      deeper h None q p = absurd (cc)
      deeper h (Some j) q p =
          let r : suc j ≡ i = cc in
          h j (sym q) (subst (λ k. get_or (x ∷ xs) k e ≡ e) (sym r) at)

      by : ((j : ℕ) → first_place name (map named xs) ≡ Some j → get_or xs j e ≡ e → find (λ e. bytes_eq name (named e)) xs ≡ Some e) → (t : Bool) →
          (if t then Some 0 else option_map (λ i. suc i) (first_place name (map named xs))) ≡ Some i → cond t (Some x)
          (find (λ e. bytes_eq name (named e)) xs) ≡ Some e
      by h true p =
          let r : 0 ≡ i = cc in
          ap (λ y. Some y) (subst (λ k. get_or (x ∷ xs) k e ≡ e) (sym r) at)
      by h false p = deeper h (first_place name (map named xs)) refl p

  pub within : (es : List E) (i : ℕ) → first_place name (map named es) ≡ Some i → i < length es
  within [] i none = absurd (cc)
  within (x ∷ xs) i there = by (within xs) (bytes_eq name (named x)) there
    where
      deeper : ((j : ℕ) → first_place name (map named xs) ≡ Some j → j < length xs) → (o : Option ℕ) → o ≡ first_place name (map named xs) → option_map (λ i. suc i) o ≡ Some i → i < suc (length xs)
      deeper h None e p = absurd (cc)
      deeper h (Some j) e p =
          let q : suc j ≡ i = cc in
          let l : j < length xs = h j (sym e) in
          omega arith

      by : ((j : ℕ) → first_place name (map named xs) ≡ Some j → j < length xs) → (t : Bool) → (if t then Some 0 else option_map (λ i. suc i) (first_place name (map named xs))) ≡ Some i → i < suc (length xs)
      by h true p =
          let q : 0 ≡ i = cc in
          omega arith
      by h false p = deeper h (first_place name (map named xs)) refl p

  -- what stands beside the name that is found
  pub beside_found : {A : Type 0} (beside : E → A) (es : List E) → found name (map (λ e. (named e, beside e)) es) ≡ option_map beside (find (λ e. bytes_eq name (named e)) es)
  beside_found beside [] = refl
  beside_found beside (x ∷ xs) = by (beside_found beside xs) (bytes_eq name (named x))
    where
      by : found name (map (λ e. (named e, beside e)) xs) ≡ option_map beside (find (λ e. bytes_eq name (named e)) xs) → (t : Bool) → cond t (Some (beside x)) (found name (map (λ e. (named e, beside e)) xs)) ≡ option_map beside (cond t (Some x) (find (λ e. bytes_eq name (named e)) xs))
      by h true = refl
      by h false = h

  -- a place is never past the entries
  pub none_past : {B : Type 0} (es xs : List E) (o p : Option ℕ) (i : ℕ) → o ≡ p → p ≡ first_place name (map named es) → o ≡ Some i → xs ≡ es → length xs ≤ i → B
  none_past es xs o p i a b n same past =
      let l : i < length es = within es i (sym b ∙ sym a ∙ n) in
      let e : length xs ≡ length es = ap length same in
      absurd (omega arith)

  -- the ends of a reader that gives the entry itself
  pub none_item : (es : List E) (o p : Option ℕ) → o ≡ p → p ≡ first_place name (map named es) → o ≡ None → find (λ e. bytes_eq name (named e)) es ≡ None
  none_item es o p a b n = absent es (sym b ∙ sym a ∙ n)

  pub item_found : (es xs : List E) (o p : Option ℕ) (i : ℕ) → o ≡ p → p ≡ first_place name (map named es) → o ≡ Some i → xs ≡ es → (r : Option (Bor E)) → IsGetResult xs i i r → option_map (λ b. b.now) r ≡ find (λ e. bytes_eq name (named e)) es
  item_found es xs o p i a b n same None at = none_past es xs o p i a b n same at.3
  item_found es xs o p i a b n same (Some e) at = sym (present es i e.now (sym b ∙ sym a ∙ n) (subst (λ l. get_or l i e.now ≡ e.now) same (sym at.1)))

  module _ {A : Type 0} (beside : E → A) (es xs : List E) (o p : Option ℕ) where
    -- the ends of a reader: no place, a place past the entries, and an entry
    pub none_found : o ≡ p → p ≡ first_place name (map named es) → o ≡ None → found name (map (λ e. (named e, beside e)) es) ≡ None
    none_found a b n = beside_found beside es ∙ ap (option_map beside) (absent es (sym b ∙ sym a ∙ n))

    pub entry_found : (i : ℕ) (e : E) → o ≡ p → p ≡ first_place name (map named es) → o ≡ Some i → xs ≡ es → e ≡ get_or xs i e → found name (map (λ e. (named e, beside e)) es) ≡ Some (beside e)
    entry_found i e a b n same at =
        beside_found beside es ∙ ap (option_map beside) (present es i e (sym b ∙ sym a ∙ n) (subst (λ l. get_or l i e ≡ e) same (sym at)))

-- what is not found in front is found behind
pub behind : {A : Type 0} (name : List ℕ) (front back : List (Row A)) → found name front ≡ None → found name (front ++ back) ≡ found name back
behind name [] back none = refl
behind name (x ∷ xs) back none = by (behind name xs back) (bytes_eq name x.0) none
  where
    by : (found name xs ≡ None → found name (xs ++ back) ≡ found name back) → (t : Bool) → cond t (Some x.1) (found name xs) ≡ None → cond t (Some x.1) (found name (xs ++ back)) ≡ found name back
    by h true e = absurd (cc)
    by h false e = h e
