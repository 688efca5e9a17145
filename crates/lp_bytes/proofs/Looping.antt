-- Reading parts one after the other, as a loop does.
use Rattle.std.proofs.Common.{◌≡◌, ℕ, zero, suc, ◌-◌, ◌+◌, ◌≤◌, ◌<◌, List, [], ◌∷◌, ◌++◌, Result, Ok, Err, refl, sym, ap, ◌∙◌, arith}
use Rattle.lp_bytes.specs.declared.fault.Fault.{Fault}
use Rattle.lp_bytes.specs.declared.fault.ReadError.{ReadError}
use Rattle.lp_bytes.specs.declared.fault.ReadError.TheVariants as errors
use Rattle.lp_bytes.specs.Reading.{Left, Read, ◌>>=◌, Fails, each_at, nested_at}

-- a step that fails is where all fails
pub fails_then : {A B : Type 0} (e : ReadError) (r : Result A Fault) (f : A → Result B Fault) → Fails e r → Fails e (r >>= f)
fails_then errors.Memory r f h = tt
fails_then (errors.Fault d) r f h = ap (λ x. x >>= f) h

pub fails_so : {A : Type 0} (e : ReadError) (r q : Result A Fault) → q ≡ r → Fails e r → Fails e q
fails_so errors.Memory r q i h = tt
fails_so (errors.Fault d) r q i h = i ∙ h

-- ---- so many entries

next_read : {A : Type 0} (f : List A → Left → Read A) (before : List A) (count i : ℕ) (s : Left) (x : A) (t : Left) (total : Read (List A)) → i < count → f before s ≡ Ok (x, t)
    → each_at f before (count - i) s ≡ total → each_at f (before ++ x ∷ []) (count - (i + 1)) t ≡ total
unfolding each_at
next_read f before count i s x t total lt h so_far =
    let k : count - i ≡ suc (count - (i + 1)) = omega (arith, lt) in
    sym (ap (λ n. each_at f before n s) k ∙ ap (λ r. r >>= λ y. each_at f (before ++ y.0 ∷ []) (count - (i + 1)) y.1) h) ∙ so_far

pub goes_on : {A : Type 0} (f : List A → Left → Read A) (xs ys : List A) (x : A) (count i : ℕ) (s t : Left) (total : Read (List A)) → ys ≡ xs ++ x ∷ [] → i < count → f xs s ≡ Ok (x, t)
    → each_at f xs (count - i) s ≡ total → each_at f ys (count - (i + 1)) t ≡ total
goes_on f xs ys x count i s t total e lt h so_far = ap (λ zs. each_at f zs (count - (i + 1)) t) e ∙ next_read f xs count i s x t total lt h so_far

pub ends : {A : Type 0} (e : ReadError) (f : List A → Left → Read A) (before : List A) (count i : ℕ) (s : Left) (total : Read (List A)) → i < count → Fails e (f before s)
    → each_at f before (count - i) s ≡ total → Fails e total
unfolding each_at
ends e f before count i s total lt h so_far =
    let k : count - i ≡ suc (count - (i + 1)) = omega (arith, lt) in
    fails_so e (f before s >>= λ y. each_at f (before ++ y.0 ∷ []) (count - (i + 1)) y.1) total (sym so_far ∙ ap (λ n. each_at f before n s) k) (fails_then e (f before s) (λ y. each_at f (before ++ y.0 ∷ []) (count - (i + 1)) y.1) h)

pub is_done : {A : Type 0} (f : List A → Left → Read A) (before : List A) (count i : ℕ) (s : Left) (total : Read (List A)) → count ≤ i → each_at f before (count - i) s ≡ total → total ≡ Ok (before, s)
unfolding each_at
is_done f before count i s total le so_far =
    let k : count - i ≡ 0 = omega (arith, le) in
    sym so_far ∙ ap (λ n. each_at f before n s) k

-- ---- parts that ask for parts

module _ {S A : Type 0} (f : S → Left → Read A) (below : A → List S) where
  step : (before : List A) (n : ℕ) (sort : S) (to_come : List S) (s : Left) → nested_at f below before (suc n) (sort ∷ to_come) s ≡ (f sort s >>= λ x. nested_at f below (before ++ x.0 ∷ []) n (below x.0 ++ to_come) x.1)
  unfolding nested_at
  step before n sort to_come s = refl

  pub part_read : (xs ys : List A) (x : A) (most i : ℕ) (now : List S) (sort : S) (to_come later : List S) (s t : Left) (total : Read (List A)) → ys ≡ xs ++ x ∷ [] → i < most → now ≡ sort ∷ to_come → later ≡ below x ++ to_come
      → f sort s ≡ Ok (x, t) → nested_at f below xs (most - i) now s ≡ total → nested_at f below ys (most - (i + 1)) later t ≡ total
  part_read xs ys x most i now sort to_come later s t total e lt is then h so_far =
      let k : most - i ≡ suc (most - (i + 1)) = omega (arith, lt) in
      let n = most - (i + 1) in
      (λ j. nested_at f below (e j) n (then j) t)
      ∙ sym ((λ j. nested_at f below xs (k j) (is j) s) ∙ step xs n sort to_come s ∙ ap (λ r. r >>= λ y. nested_at f below (xs ++ y.0 ∷ []) n (below y.0 ++ to_come) y.1) h) ∙ so_far

  pub part_fails : (e : ReadError) (xs : List A) (most i : ℕ) (now : List S) (sort : S) (to_come : List S) (s : Left) (total : Read (List A)) → i < most → now ≡ sort ∷ to_come → Fails e (f sort s)
      → nested_at f below xs (most - i) now s ≡ total → Fails e total
  part_fails e xs most i now sort to_come s total lt is h so_far =
      let k : most - i ≡ suc (most - (i + 1)) = omega (arith, lt) in
      let n = most - (i + 1) in
      let r = f sort s in
      fails_so e (r >>= λ y. nested_at f below (xs ++ y.0 ∷ []) n (below y.0 ++ to_come) y.1) total (sym so_far ∙ (λ j. nested_at f below xs (k j) (is j) s) ∙ step xs n sort to_come s)
      (fails_then e r (λ y. nested_at f below (xs ++ y.0 ∷ []) n (below y.0 ++ to_come) y.1) h)

  none_to_come : (xs : List A) (n : ℕ) (s : Left) → nested_at f below xs n [] s ≡ Ok (xs, s)
  unfolding nested_at
  none_to_come xs zero s = refl
  none_to_come xs (suc n) s = refl

  pub parts_over : (xs : List A) (n : ℕ) (now : List S) (s : Left) (total : Read (List A)) → now ≡ [] → nested_at f below xs n now s ≡ total → total ≡ Ok (xs, s)
  parts_over xs n now s total is so_far = sym so_far ∙ ap (λ ss. nested_at f below xs n ss s) is ∙ none_to_come xs n s

  pub parts_done : (xs : List A) (most i : ℕ) (now : List S) (s : Left) (total : Read (List A)) → most ≤ i → nested_at f below xs (most - i) now s ≡ total → total ≡ Ok (xs, s)
  unfolding nested_at
  parts_done xs most i now s total le so_far =
      let k : most - i ≡ 0 = omega (arith, le) in
      sym so_far ∙ ap (λ m. nested_at f below xs m now s) k
