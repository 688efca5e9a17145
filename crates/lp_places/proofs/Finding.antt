-- What is found at the first place of a name.
use Rattle.std.proofs.Common.{◌≡◌, ℕ, suc, ◌+◌, ◌<◌, ◌≤◌, List, [], ◌∷◌, ◌++◌, length, map, take, get_or, Option, Some, None, Bool, true, false, refl, sym, ap, ◌∙◌, true≢false, arith}
use Rattle.std.specs.Prelude.{if◌then◌else◌, option_map, is_some, slice_get}
use Rattle.std.specs.Str.{bytes_eq}
use Rattle.std.proofs.lemmas.List.{take_more, map-append}
use Rattle.std.proofs.lemmas.Grind.{common_steps}
use Rattle.lp_lemmas.proofs.Booleans.{bytes_eq_true}
use Rattle.lp_places.specs.Places.{first_place}

-- the first of two, if there is one
or : Option ℕ → Option ℕ → Option ℕ
or None b = b
or (Some a) b = Some a

or_none : (a : Option ℕ) → or a None ≡ a
unfolding or
or_none None = refl
or_none (Some a) = refl

later : (a : Option ℕ) (t : Bool) (n : ℕ) → option_map (λ i. suc i) (or a (if t then Some n else None)) ≡ or (option_map (λ i. suc i) a) (if t then Some (suc n) else None)
unfolding or
later None true n = refl
later None false n = refl
later (Some a) t n = refl

-- one more name
first_more : (name n : List ℕ) (ns : List (List ℕ)) → first_place name (ns ++ n ∷ []) ≡ or (first_place name ns) (if bytes_eq name n then Some (length ns) else None)
unfolding or
first_more name n [] = refl
first_more name n (m ∷ ms) = by (first_more name n ms) (bytes_eq name m)
  where
    by : first_place name (ms ++ n ∷ []) ≡ or (first_place name ms) (if bytes_eq name n then Some (length ms) else None) → (t : Bool) →
        (if t then Some 0 else option_map (λ i. suc i) (first_place name (ms ++ n ∷ []))) ≡ or
        (if t then Some 0 else option_map (λ i. suc i) (first_place name ms)) (if bytes_eq name n then Some (suc (length ms)) else None)
    by h true = refl
    by h false = ap (option_map (λ i. suc i)) h ∙ later (first_place name ms) (bytes_eq name n) (length ms)

-- a name that is there keeps its place, and no other gets one
pub first_again : (name other : List ℕ) (ns : List (List ℕ)) (o : Option ℕ) → is_some o ≡ true → o ≡ first_place name ns → first_place other ns ≡ first_place other (ns ++ name ∷ [])
unfolding or
first_again name other ns None some is = absurd (true≢false (sym some))
first_again name other ns (Some i) some is = by (bytes_eq other name) refl
  where
    by : (t : Bool) → bytes_eq other name ≡ t → first_place other ns ≡ first_place other (ns ++ name ∷ [])
    by true e =
        let p : first_place other ns ≡ Some i = ap (λ n. first_place n ns) (bytes_eq_true other name e) ∙ sym is in
        p ∙ sym (first_more other name ns ∙ ap (λ o. or o (if bytes_eq other name then Some (length ns) else None)) p)
    by false e = sym (first_more other name ns ∙ ap (λ t. or (first_place other ns) (if t then Some (length ns) else None)) e ∙ or_none (first_place other ns))

-- a new name has the place behind the others
pub first_new : (name other : List ℕ) (ns : List (List ℕ)) (place : ℕ) (o p : Option ℕ) → place ≡ length ns → o ≡ first_place other ns → is_some p ≡ false → p ≡ first_place name ns → (if bytes_eq other name then Some place else o) ≡ first_place other (ns ++ name ∷ [])
unfolding or
first_new name other ns place o (Some i) at is none there = absurd (true≢false none)
first_new name other ns place o None at is none there = by (bytes_eq other name) refl
  where
    by : (t : Bool) → bytes_eq other name ≡ t → (if t then Some place else o) ≡ first_place other (ns ++ name ∷ [])
    by true e =
        let p : first_place other ns ≡ None = ap (λ n. first_place n ns) (bytes_eq_true other name e) ∙ sym there in
        ap (λ n. Some n) at ∙ sym (first_more other name ns ∙ ap (λ o. or o (if bytes_eq other name then Some (length ns) else None)) p ∙ ap (λ t. if t then Some (length ns) else None) e)
    by false e = is ∙ sym (first_more other name ns ∙ ap (λ t. or (first_place other ns) (if t then Some (length ns) else None)) e ∙ or_none (first_place other ns))

-- the name stands at its first place
pub stands_there : (name : List ℕ) (ns : List (List ℕ)) (i : ℕ) → first_place name ns ≡ Some i → slice_get ns i ≡ Some name
stands_there name [] i e = absurd (cc)
stands_there name (n ∷ ns) i e = by (stands_there name ns) (bytes_eq name n) refl e
  where
    deeper : ((j : ℕ) → first_place name ns ≡ Some j → slice_get ns j ≡ Some name) → (o : Option ℕ) → first_place name ns ≡ o → option_map (λ i. suc i) o ≡ Some i → slice_get (n ∷ ns) i ≡ Some name
    deeper h None q p = absurd (cc)
    deeper h (Some j) q p =
        let r : suc j ≡ i = cc in
        rw (← r) (h j q)

    by : ((j : ℕ) → first_place name ns ≡ Some j → slice_get ns j ≡ Some name) → (t : Bool) → bytes_eq name n ≡ t → (if t then Some 0 else option_map (λ i. suc i) (first_place name ns)) ≡ Some i → slice_get (n ∷ ns) i ≡ Some name
    by h true q p =
        let r : 0 ≡ i = cc in
        rw (← r) (ap (λ x. Some x) (sym (bytes_eq_true name n q)))
    by h false q p = deeper h (first_place name ns) refl p

-- the names of the entries so far, of those up to the next one, and of all
module _ {E : Type 0} (named : E → List ℕ) (xs : List E) (i : ℕ) where
  pub one_more : (x : E) (name : List ℕ) → i < length xs → x ≡ get_or xs i x → name ≡ named x → map named (take i xs) ++ name ∷ [] ≡ map named (take (i + 1) xs)
  one_more x name h at is = sym (ap (map named) (take_more xs i x h) ∙ map-append named (take i xs) (get_or xs i x ∷ []) ∙ ap (λ y. map named (take i xs) ++ y ∷ []) (ap named (sym at) ∙ sym is))

  pub so_many : i < length xs → i ≡ length (map named (take i xs))
  so_many h = grind (arith, common_steps)

  pub all_of : length xs ≤ i → map named (take i xs) ≡ map named xs
  all_of h = grind (arith, common_steps)
