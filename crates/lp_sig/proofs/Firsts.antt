-- The first row of each name: what one more row changes, and which names have a first row.
use Rattle.std.proofs.Common.{◌≡◌, ℕ, suc, List, [], ◌∷◌, ◌++◌, Bool, true, false, Option, Some, None, refl, sym, ap, ◌∙◌, true≢false}
use Rattle.std.specs.Prelude.{if◌then◌else◌, option_map, is_some, ◌||◌}
use Rattle.std.specs.Str.{bytes_eq}
use Rattle.std.proofs.Common.{cond}
use Rattle.std.proofs.lemmas.Slice.Eq.{bytes_eq-Decides}
use Rattle.lp_sig.specs.Places.{first_place}
use Rattle.lp_sig.specs.Rows.{Row, found}
use Rattle.lp_sig.specs.Said.{Said, a_kind, an_abbreviation, is_among, names_in, firsts, kinds_among, abbreviations_among}

-- a name that is the same as a known one is known
pub same_known : (n m : List ℕ) (known : List (List ℕ)) → is_among m known ≡ true → bytes_eq n m ≡ true → is_among n known ≡ true
same_known n m known h e = ap (λ x. is_among x known) ((bytes_eq-Decides n m).0 e) ∙ h

module _ {A : Type 0} where
  -- one more row behind the others
  pub firsts_more : (known : List (List ℕ)) (said : List (Row A)) (r : Row A) → firsts known (said ++ r ∷ []) ≡ (if is_among r.0 known || is_among r.0 (names_in said) then firsts known said else firsts known said ++ r ∷ [])
  firsts_more known [] r = by (is_among r.0 known)
    where
      by : (t : Bool) → (if t then [] else r ∷ []) ≡ (if t || false then [] else r ∷ [])
      by true = refl
      by false = refl
  firsts_more known (s ∷ ss) r =
      by (is_among s.0 known) (is_among r.0 known) (bytes_eq r.0 s.0) (is_among r.0 (names_in ss)) _ _ _ _ (λ t b. same_known r.0 s.0 known t b) (firsts_more known ss r) (firsts_more (s.0 ∷ known) ss r)
    where
      by : (t a b c : Bool) (f g x y : List (Row A)) → (t ≡ true → b ≡ true → a ≡ true) → x ≡ (if a || c then f else f ++ r ∷ []) → y ≡ (if (b || a) || c then g else g ++ r ∷ []) →
          (if t then x else s ∷ y) ≡ (if a || (b || c) then (if t then f else s ∷ g) else (if t then f else s ∷ g) ++ r ∷ [])
      by true true b c f g x y h p q = p
      by true false true c f g x y h p q = absurd (true≢false (sym (h refl refl)))
      by true false false true f g x y h p q = p
      by true false false false f g x y h p q = p
      by false true true c f g x y h p q = ap (λ z. s ∷ z) q
      by false true false c f g x y h p q = ap (λ z. s ∷ z) q
      by false false true c f g x y h p q = ap (λ z. s ∷ z) q
      by false false false true f g x y h p q = ap (λ z. s ∷ z) q
      by false false false false f g x y h p q = ap (λ z. s ∷ z) q

  -- each name that is said has a first row, but for those that were known
  pub firsts_names : (n : List ℕ) (known : List (List ℕ)) (said : List (Row A)) → (is_among n known || is_among n (names_in (firsts known said))) ≡ (is_among n known || is_among n (names_in said))
  firsts_names n known [] = refl
  firsts_names n known (s ∷ ss) =
      by (is_among s.0 known) (is_among n known) (bytes_eq n s.0) (is_among n (names_in ss)) (firsts known ss) (firsts (s.0 ∷ known) ss) (λ t b. same_known n s.0 known t b) (firsts_names n known ss) (firsts_names n (s.0 ∷ known) ss) refl
    where
      by : (t a b q : Bool) (f g : List (Row A)) → (t ≡ true → b ≡ true → a ≡ true) → (a || is_among n (names_in f)) ≡ (a || q) → ((b || a) || is_among n (names_in g)) ≡ ((b || a) || q) → b ≡ bytes_eq n s.0 →
          (a || is_among n (names_in (if t then f else s ∷ g))) ≡ (a || (b || q))
      by true true b q f g h p r e = refl
      by true false true q f g h p r e = absurd (true≢false (sym (h refl refl)))
      by true false false q f g h p r e = p
      by false true b q f g h p r e = refl
      by false false true q f g h p r e = ap (λ z. z || is_among n (names_in g)) (sym e)
      by false false false q f g h p r e = ap (λ z. z || is_among n (names_in g)) (sym e) ∙ r

pub among_parts : (n : List ℕ) (rows : List (Row Said)) → is_among n (names_in rows) ≡ (is_among n (names_in (abbreviations_among rows)) || is_among n (names_in (kinds_among rows)))
among_parts n [] = refl
among_parts n ((m, a_kind c) ∷ rs) = by (bytes_eq n m) (is_among n (names_in (abbreviations_among rs))) _ _ (among_parts n rs)
  where
    by : (b a r k : Bool) → r ≡ (a || k) → (b || r) ≡ (a || (b || k))
    by true true r k e = refl
    by true false r k e = refl
    by false a r k e = e
among_parts n ((m, an_abbreviation p) ∷ rs) = by (bytes_eq n m) _ _ _ (among_parts n rs)
  where
    by : (b r a k : Bool) → r ≡ (a || k) → (b || r) ≡ ((b || a) || k)
    by true r a k e = refl
    by false r a k e = e

pub place_among : (n : List ℕ) (ns : List (List ℕ)) → is_some (first_place n ns) ≡ is_among n ns
place_among n [] = refl
place_among n (m ∷ ms) = by (bytes_eq n m) (first_place n ms) _ (place_among n ms)
  where
    by : (t : Bool) (o : Option ℕ) (b : Bool) → is_some o ≡ b → is_some (if t then Some 0 else option_map (λ i. suc i) o) ≡ (t || b)
    by true o b e = refl
    by false None b e = e
    by false (Some i) b e = e

pub found_among : {A : Type 0} (n : List ℕ) (rows : List (Row A)) → is_some (found n rows) ≡ is_among n (names_in rows)
found_among n [] = refl
found_among {A} n (r ∷ rs) = by (bytes_eq n r.0) (found n rs) _ (found_among n rs)
  where
    by : (t : Bool) (o : Option A) (b : Bool) → is_some o ≡ b → is_some (cond t (Some r.1) o) ≡ (t || b)
    by true o b e = refl
    by false o b e = e
