-- A word has a place among names exactly where it is one of them; so the first word that has one is the first repeated word.
use Rattle.std.proofs.Common.{◌≡◌, ℕ, zero, suc, ◌+◌, ◌<◌, ◌≤◌, List, [], ◌∷◌, ◌++◌, length, map, take, take_all, get_or, Option, Some, None, Bool, true, false, refl, sym, ap, subst, ◌∙◌, arith, ⊎_elim, true≢false}
use Rattle.std.specs.Prelude.{Contains, if◌then◌else◌, option_map, is_some}
use Rattle.std.specs.Str.{bytes_eq}
use Rattle.std.proofs.lemmas.Grind.{common_steps}
use Rattle.std.proofs.lemmas.Slice.Eq.{bytes_eq-Decides}
use Rattle.std.proofs.lemmas.List.{take_more, get_or_default, map-append}
use Rattle.std.proofs.lemmas.List.Elements.{Contains-push_cases}
use Rattle.lp_lemmas.proofs.Elements.{Contains_tail}
use Rattle.lp_base.specs.declared.place.Spot.{Spot}
use Rattle.lp_sig.specs.Pieces.{spelled}
use Rattle.lp_sig.specs.Places.{first_place}
use Rattle.lp_sig.specs.Limits.{Apart, AreApart, IsRepeated}

-- a name with a place is there
at_place : (n : List ℕ) (ns : List (List ℕ)) (i : ℕ) → first_place n ns ≡ Some i → Contains ns n
at_place n [] i h = absurd (cc)
at_place n (m ∷ ms) i h = by (λ j g. at_place n ms j g) (bytes_eq n m) refl h
  where
    deeper : ((j : ℕ) → first_place n ms ≡ Some j → Contains ms n) → (o : Option ℕ) → o ≡ first_place n ms → option_map (λ i. suc i) o ≡ Some i → Contains (m ∷ ms) n
    deeper f None e h = absurd (cc)
    deeper f (Some j) e h = Contains_tail m n ms (f j (sym e))

    by : ((j : ℕ) → first_place n ms ≡ Some j → Contains ms n) → (t : Bool) → bytes_eq n m ≡ t → (if t then Some 0 else option_map (λ i. suc i) (first_place n ms)) ≡ Some i → Contains (m ∷ ms) n
    by f true e h = (0, omega arith, sym ((bytes_eq-Decides n m).0 e))
    by f false e h = deeper f (first_place n ms) refl h

-- a name without a place is not there
no_place : (n : List ℕ) (ns : List (List ℕ)) → first_place n ns ≡ None → Contains ns n → ⊥
no_place n [] h c = let l = c.1 in absurd (omega (arith, l))
no_place n (m ∷ ms) h c = by (λ g d. no_place n ms g d) (bytes_eq n m) refl h c
  where
    deeper : (o : Option ℕ) → o ≡ first_place n ms → option_map (λ i. suc i) o ≡ None → first_place n ms ≡ None
    deeper None e h = sym e
    deeper (Some j) e h = absurd (cc)

    by : (first_place n ms ≡ None → Contains ms n → ⊥) → (t : Bool) → bytes_eq n m ≡ t → (if t then Some 0 else option_map (λ i. suc i) (first_place n ms)) ≡ None → Contains (m ∷ ms) n → ⊥
    by f true e h c = absurd (cc)
    by f false e h (zero, l, is) = let t = (bytes_eq-Decides n m).1 (sym is) in absurd (true≢false (sym t ∙ e))
    by f false e h (suc k, l, is) = f (deeper (first_place n ms) refl h) (k, omega (arith, l), is)

pub placed : (n : List ℕ) (ns : List (List ℕ)) (o : Option ℕ) → o ≡ first_place n ns → is_some o ≡ true → Contains ns n
placed n ns None e h = absurd (cc)
placed n ns (Some i) e h = at_place n ns i (sym e)

pub not_placed : (n : List ℕ) (ns : List (List ℕ)) (o : Option ℕ) → o ≡ first_place n ns → is_some o ≡ false → Contains ns n → ⊥
not_placed n ns None e h = no_place n ns (sym e)
not_placed n ns (Some i) e h = absurd (cc)

apart_more : (ns : List (List ℕ)) (n : List ℕ) → Apart ns → (Contains ns n → ⊥) → Apart (ns ++ n ∷ [])
apart_more [] n a f = (λ c. let l = c.1 in absurd (omega (arith, l)), tt)
apart_more (m ∷ ms) n a f = (λ c. ⊎_elim a.0 (λ e. f (0, omega arith, sym e)) (Contains-push_cases ms n m c), apart_more ms n a.1 (λ c. f (Contains_tail m n ms c)))

module _ (text : List ℕ) (ps : List Spot) (i : ℕ) (d : Spot) where
  pub names_more : i < length ps → map (λ w. spelled text w) (take i ps) ++ spelled text (get_or ps i d) ∷ [] ≡ map (λ w. spelled text w) (take (i + 1) ps)
  names_more h = sym (map-append (λ w. spelled text w) (take i ps) (get_or ps i d ∷ [])) ∙ ap (map (λ w. spelled text w)) (sym (take_more ps i d h))

  pub still_apart : i < length ps → AreApart text (take i ps) → (Contains (map (λ w. spelled text w) (take i ps)) (spelled text (get_or ps i d)) → ⊥) → AreApart text (take (i + 1) ps)
  still_apart h a f = subst Apart (names_more h) (apart_more (map (λ w. spelled text w) (take i ps)) (spelled text (get_or ps i d)) a f)

  pub repeated : i < length ps → AreApart text (take i ps) → Contains (map (λ w. spelled text w) (take i ps)) (spelled text (get_or ps i d)) → IsRepeated text ps (get_or ps i d)
  repeated h a c = record { k = i; inside = h; word = get_or_default ps i (get_or ps i d) d h; again = c; before = a }

pub all_apart : (text : List ℕ) (ps : List Spot) (i : ℕ) → length ps ≤ i → AreApart text (take i ps) → AreApart text ps
all_apart text ps i h a = subst (AreApart text) (take_all i ps h) a

pub so_long : (text : List ℕ) (ps : List Spot) (i : ℕ) → i < length ps → i ≡ length (map (λ w. spelled text w) (take i ps))
so_long text ps i h = grind (arith, common_steps)
