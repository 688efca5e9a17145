-- Fields that are expected one behind the other.
use Rattle.std.proofs.Common.{◌≡◌, ℕ, zero, suc, ◌+◌, ◌≤◌, List, [], ◌∷◌, ◌++◌, length, drop, Option, Some, Result, Ok, Err, refl, sym, ap, subst, ◌∙◌, arith}
use Rattle.std.specs.Prelude.{slice_get}
use Rattle.std.specs.List.{flat_map}
use Rattle.std.proofs.lemmas.List.{drop_all}
use Rattle.lp_bytes.specs.declared.fault.Fault.{Fault}
use Rattle.lp_bytes.specs.declared.fault.ReadError.{ReadError}
use Rattle.lp_bytes.specs.Reading.{Left, ◌>>=◌, Fails, Passes}
use Rattle.lp_bytes.proofs.Looping.{fails_then, fails_so}
use Rattle.lp_object.specs.Reading.{expected_at, all_expected_at}

some_is : {A : Type 0} (x y : A) → ◌≡◌ {A = Option A} (Some x) (Some y) → x ≡ y
some_is x y e = cc

dropped : {A : Type 0} (xs : List A) (i : ℕ) (x : A) → slice_get xs i ≡ Some x → drop i xs ≡ x ∷ drop (suc i) xs
dropped [] i x e = absurd (cc)
dropped (y ∷ ys) zero x e = ap (λ z. z ∷ ys) (some_is y x e)
dropped (y ∷ ys) (suc i) x e = dropped ys i x e

next : {A : Type 0} (xs : List A) (i : ℕ) (x : A) → slice_get xs i ≡ Some x → drop i xs ≡ x ∷ drop (i + 1) xs
next xs i x e = let k : suc i ≡ i + 1 = omega arith in dropped xs i x e ∙ ap (λ n. x ∷ drop n xs) k

-- ---- one field after the other

pub field_passes : (fs : List (List ℕ)) (i : ℕ) (f : List ℕ) (s t : Left) (total : Result Left Fault) → slice_get fs i ≡ Some f → expected_at f s ≡ Ok t → all_expected_at (drop i fs) s ≡ total → all_expected_at (drop (i + 1) fs) t ≡ total
unfolding all_expected_at
field_passes fs i f s t total at e so_far = sym (ap (λ gs. all_expected_at gs s) (next fs i f at) ∙ ap (λ r. r >>= all_expected_at (drop (i + 1) fs)) e) ∙ so_far

pub field_fails : (e : ReadError) (fs : List (List ℕ)) (i : ℕ) (f : List ℕ) (s : Left) (total : Result Left Fault) → slice_get fs i ≡ Some f → Fails e (expected_at f s) → all_expected_at (drop i fs) s ≡ total → Fails e total
unfolding all_expected_at
field_fails e fs i f s total at h so_far =
    fails_so e (expected_at f s >>= all_expected_at (drop (i + 1) fs)) total (sym so_far ∙ ap (λ gs. all_expected_at gs s) (next fs i f at)) (fails_then e (expected_at f s) (all_expected_at (drop (i + 1) fs)) h)

pub fields_passed : (fs : List (List ℕ)) (i : ℕ) (s : Left) (total : Result Left Fault) → length fs ≤ i → all_expected_at (drop i fs) s ≡ total → total ≡ Ok s
unfolding all_expected_at
fields_passed fs i s total le so_far = sym so_far ∙ ap (λ gs. all_expected_at gs s) (drop_all i fs le)

-- ---- the fields of one entry after those of the other

through : {A B C : Type 0} (r : Result A Fault) (f : A → Result C Fault) (g : A → Result B Fault) (h : B → Result C Fault) → ((x : A) → f x ≡ (g x >>= h)) → (r >>= f) ≡ ((r >>= g) >>= h)
through (Ok x) f g h k = k x
through (Err e) f g h k = refl

pub expected_then : (a b : List (List ℕ)) (s : Left) → all_expected_at (a ++ b) s ≡ (all_expected_at a s >>= all_expected_at b)
unfolding all_expected_at
expected_then [] b s = refl
expected_then (f ∷ a) b s = through (expected_at f s) (all_expected_at (a ++ b)) (all_expected_at a) (all_expected_at b) (expected_then a b)

module _ {A : Type 0} (g : A → List (List ℕ)) (xs : List A) (i : ℕ) (s : Left) (total : Result Left Fault) where
  pub entry_passes : (x : A) (t : Left) → slice_get xs i ≡ Some x → all_expected_at (g x) s ≡ Ok t → all_expected_at (flat_map g (drop i xs)) s ≡ total → all_expected_at (flat_map g (drop (i + 1) xs)) t ≡ total
  entry_passes x t at e so_far =
      sym (ap (λ ys. all_expected_at (flat_map g ys) s) (next xs i x at) ∙ expected_then (g x) (flat_map g (drop (i + 1) xs)) s ∙ ap (λ r. r >>= all_expected_at (flat_map g (drop (i + 1) xs))) e) ∙ so_far

  pub entry_fails : (e : ReadError) (x : A) → slice_get xs i ≡ Some x → Fails e (all_expected_at (g x) s) → all_expected_at (flat_map g (drop i xs)) s ≡ total → Fails e total
  entry_fails e x at h so_far =
      fails_so e (all_expected_at (g x) s >>= all_expected_at (flat_map g (drop (i + 1) xs))) total
      (sym so_far ∙ ap (λ ys. all_expected_at (flat_map g ys) s) (next xs i x at) ∙ expected_then (g x) (flat_map g (drop (i + 1) xs)) s) (fails_then e (all_expected_at (g x) s) (all_expected_at (flat_map g (drop (i + 1) xs))) h)

  pub entries_passed : length xs ≤ i → all_expected_at (flat_map g (drop i xs)) s ≡ total → total ≡ Ok s
  unfolding all_expected_at
  entries_passed le so_far = sym so_far ∙ ap (λ ys. all_expected_at (flat_map g ys) s) (drop_all i xs le)

-- ---- two parts

-- a field and those behind it
pub field_then : (f : List ℕ) (fs : List (List ℕ)) (s t : Left) → expected_at f s ≡ Ok t → all_expected_at (f ∷ fs) s ≡ all_expected_at fs t
unfolding all_expected_at
field_then f fs s t e = ap (λ r. r >>= all_expected_at fs) e

pub field_stops : (e : ReadError) (f : List ℕ) (fs : List (List ℕ)) (s : Left) → Fails e (expected_at f s) → Fails e (all_expected_at (f ∷ fs) s)
unfolding all_expected_at
field_stops e f fs s h = fails_then e (expected_at f s) (all_expected_at fs) h

pub part_then : (a b : List (List ℕ)) (s t : Left) → all_expected_at a s ≡ Ok t → all_expected_at (a ++ b) s ≡ all_expected_at b t
part_then a b s t e = expected_then a b s ∙ ap (λ r. r >>= all_expected_at b) e

pub part_stops : (e : ReadError) (a b : List (List ℕ)) (s : Left) → Fails e (all_expected_at a s) → Fails e (all_expected_at (a ++ b) s)
part_stops e a b s h = fails_so e (all_expected_at a s >>= all_expected_at b) (all_expected_at (a ++ b) s) (expected_then a b s) (fails_then e (all_expected_at a s) (all_expected_at b) h)

-- ---- the same, where a field is told otherwise

pub passes_so : {X : Type 0} (r : Result X ReadError) (new : Left) (p q : Result Left Fault) → p ≡ q → Passes r new q → Passes r new p
passes_so r new p q e h = subst (λ z. Passes r new z) (sym e) h

pub field_then_as : (f g : List ℕ) (fs : List (List ℕ)) (s t : Left) → f ≡ g → expected_at f s ≡ Ok t → all_expected_at (g ∷ fs) s ≡ all_expected_at fs t
field_then_as f g fs s t same e = ap (λ h. all_expected_at (h ∷ fs) s) (sym same) ∙ field_then f fs s t e

pub field_stops_as : (e : ReadError) (f g : List ℕ) (fs : List (List ℕ)) (s : Left) → f ≡ g → Fails e (expected_at f s) → Fails e (all_expected_at (g ∷ fs) s)
field_stops_as e f g fs s same h = fails_so e (all_expected_at (f ∷ fs) s) (all_expected_at (g ∷ fs) s) (ap (λ h. all_expected_at (h ∷ fs) s) (sym same)) (field_stops e f fs s h)
