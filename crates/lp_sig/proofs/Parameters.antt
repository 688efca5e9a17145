-- Which variables may stand: all of a declared type, and the parameters of an abbreviation.
use Rattle.std.proofs.Common.{◌≡◌, ℕ, zero, suc, ◌+◌, ◌<◌, ◌≤◌, List, [], ◌∷◌, ◌++◌, length, map, take, take_all, get_or, Bool, true, false, Option, Some, None, refl, sym, ap, subst, ◌∙◌, arith, true≢false}
use Rattle.std.specs.Prelude.{if◌then◌else◌, is_some, ◌||◌, Contains}
use Rattle.std.specs.Str.{bytes_eq}
use Rattle.lp_base.specs.declared.place.Spot.{Spot}
use Rattle.lp_sig.specs.Pieces.{spelled}
use Rattle.lp_sig.specs.Said.{is_among}
use Rattle.lp_sig.specs.Words.{may_stand, parameters_of}
use Rattle.lp_sig.specs.Knowing.{Holds, number_of}
use Rattle.lp_sig.specs.declared.expand.Variables.{Variables}
use Rattle.lp_sig.specs.Limits.{AreApart}
use Rattle.lp_sig.specs.Places.{first_place}
use Rattle.lp_sig.specs.Holding.{AreParameters}
use Rattle.lp_sig.proofs.Finding.{first_new}
use Rattle.lp_sig.proofs.Repeats.{names_more, placed, so_long}

pub number_closed : (v : Variables) (vs : Option (List (List ℕ))) (name : List ℕ) (o : Option ℕ) → v.closed ≡ true → o ≡ number_of v name → Holds v vs → is_some o ≡ may_stand vs name
number_closed v None name o shut is h = absurd (true≢false (sym shut ∙ h))
number_closed v (Some ps) name o shut is h = ap is_some is ∙ h.1 name

among_more : (name n : List ℕ) (ns : List (List ℕ)) → is_among name (ns ++ n ∷ []) ≡ (bytes_eq name n || is_among name ns)
among_more name n [] = refl
among_more name n (m ∷ ms) = by (bytes_eq name m) (bytes_eq name n) (is_among name ms) _ (among_more name n ms)
  where
    by : (a b r x : Bool) → x ≡ (b || r) → (a || x) ≡ (b || (a || r))
    by true true r x e = refl
    by true false r x e = refl
    by false true r x e = e
    by false false r x e = e

some_of : (b : Bool) (k : ℕ) (o : Option ℕ) → is_some (if b then Some k else o) ≡ (b || is_some o)
some_of true k o = refl
some_of false k o = refl

module _ (v w : Variables) (text : List ℕ) (ps : List Spot) (i : ℕ) (d : Spot) (word : List ℕ) (k : ℕ) where
  pub listed_more : i < length ps → word ≡ spelled text (get_or ps i d) → ((other : List ℕ) → number_of w other ≡ (if bytes_eq other word then Some k else number_of v other)) →
      ((name : List ℕ) → is_some (number_of v name) ≡ is_among name (map (λ p. spelled text p) (take i ps))) → (name : List ℕ) → is_some (number_of w name) ≡ is_among name (map (λ p. spelled text p) (take (i + 1) ps))
  listed_more h same added before name =
      let ns = map (λ p. spelled text p) (take i ps) in
      ap is_some (added name) ∙ some_of (bytes_eq name word) k (number_of v name) ∙ ap (λ b. bytes_eq name word || b) (before name) ∙ sym (among_more name word ns) ∙
      ap (λ x. is_among name (ns ++ x ∷ [])) same ∙ ap (is_among name) (names_more text ps i d h)

pub all_listed : (v w : Variables) (text : List ℕ) (ps : List Spot) (i : ℕ) → length ps ≤ i → w.closed ≡ true → w.numbers ≡ v.numbers → ((name : List ℕ) → is_some (number_of v name) ≡ is_among name (map (λ p. spelled text p) (take i ps))) → Holds w (parameters_of text ps)
unfolding number_of
all_listed v w text ps i h shut same before = (
  shut,
  λ name.
      ap (λ n. is_some (number_of (record { alloc = w.alloc; numbers = n; closed = w.closed; next = w.next }) name)) same ∙ before name ∙ ap (λ l. is_among name (map (λ p. spelled text p) l)) (take_all i ps h),
)

-- the number of a parameter is its first place
contains_spelled : (text : List ℕ) (ps : List Spot) (i : ℕ) (d : Spot) → i < length ps → Contains (map (λ p. spelled text p) ps) (spelled text (get_or ps i d))
contains_spelled text [] i d h = absurd (omega (arith, h))
contains_spelled text (p ∷ ps) zero d h = (0, omega arith, refl)
contains_spelled text (p ∷ ps) (suc i) d h = let c = contains_spelled text ps i d (omega (arith, h)) in let l = c.1 in (suc c.0, omega (arith, l), c.2)

pub not_before : (text : List ℕ) (ps : List Spot) (i : ℕ) (d : Spot) → AreApart text ps → i < length ps → Contains (map (λ p. spelled text p) (take i ps)) (spelled text (get_or ps i d)) → ⊥
not_before text [] i d a h c = absurd (omega (arith, h))
not_before text (p ∷ ps) zero d a h c = let l = c.1 in absurd (omega (arith, l))
not_before text (p ∷ ps) (suc i) d a h (zero, l, is) = a.0 (subst (Contains (map (λ p. spelled text p) ps)) (sym is) (contains_spelled text ps i d (omega (arith, h))))
not_before text (p ∷ ps) (suc i) d a h (suc k, l, is) = not_before text ps i d a.1 (omega (arith, h)) (k, omega (arith, l), is)

module _ (v w : Variables) (text : List ℕ) (ps : List Spot) (i : ℕ) (d : Spot) (word : List ℕ) where
  pub numbered_more : AreApart text ps → i < length ps → word ≡ spelled text (get_or ps i d) → v.next ≡ i → ((other : List ℕ) → number_of w other ≡ (if bytes_eq other word then Some v.next else number_of v other)) →
      ((name : List ℕ) → number_of v name ≡ first_place name (map (λ p. spelled text p) (take i ps))) → (name : List ℕ) → number_of w name ≡ first_place name (map (λ p. spelled text p) (take (i + 1) ps))
  numbered_more apart h same next added before name =
      let ns = map (λ p. spelled text p) (take i ps) in
      added name ∙ first_new word name ns v.next (number_of v name) (first_place word ns) (next ∙ so_long text ps i h) (before name) (fresh (is_some (first_place word ns)) refl) refl ∙
      ap (λ x. first_place name (ns ++ x ∷ [])) same ∙ ap (first_place name) (names_more text ps i d h)
    where
      fresh : (b : Bool) → is_some (first_place word (map (λ p. spelled text p) (take i ps))) ≡ b → is_some (first_place word (map (λ p. spelled text p) (take i ps))) ≡ false
      fresh true e = absurd (not_before text ps i d apart h (subst (Contains (map (λ p. spelled text p) (take i ps))) same (placed word (map (λ p. spelled text p) (take i ps)) (first_place word (map (λ p. spelled text p) (take i ps))) refl e)))
      fresh false e = e

pub all_numbered : (v w : Variables) (text : List ℕ) (ps : List Spot) (i : ℕ) → length ps ≤ i → w.closed ≡ true → w.numbers ≡ v.numbers → ((name : List ℕ) → number_of v name ≡ first_place name (map (λ p. spelled text p) (take i ps))) → AreParameters w text ps
unfolding number_of
all_numbered v w text ps i h shut same before = (
  shut,
  λ name.
      ap (λ n. number_of (record { alloc = w.alloc; numbers = n; closed = w.closed; next = w.next }) name) same ∙ before name ∙ ap (λ l. first_place name (map (λ p. spelled text p) l)) (take_all i ps h),
)
