-- Lists of assumed clauses: what stands in them, and lists that are put together.
use Rattle.std.proofs.Common.{◌≡◌, ℕ, zero, suc, ◌+◌, List, [], ◌∷◌, ◌++◌, length, Some, ◌∙◌, refl, sym, ap, inl, inr, append_assoc, append-nil}
use Rattle.std.specs.Prelude.{slice_get}
use Rattle.lp_model.specs.Flat.{Clause}
use Rattle.lp_model.specs.Flatten.{ClauseFormula}
use Rattle.lp_model.specs.Pair.{Closing}
use Rattle.lp_proof_laws.proofs.Uniform.Contexts.{get_front, get_back, get_split}
use Rattle.lp_proof_laws.specs.Assumed.{assumed_as, assumed_at}

pub both_assumed : (c : Closing) (A B : List Clause) → assumed_at c (A ++ B) ≡ assumed_at c B ++ assumed_at c A
both_assumed c [] B = sym (append-nil (assumed_at c B))
both_assumed c (x ∷ A) B = ap (λ z. z ++ assumed_as c x ∷ []) (both_assumed c A B) ∙ append_assoc (assumed_at c B) (assumed_at c A) (assumed_as c x ∷ [])

-- the clause that a formula of the list is made of
pub record IsMadeOf (c : Closing) (A : List Clause) (D : ClauseFormula) : Type 0 where
  pub place : ℕ
  pub clause : Clause
  pub is : slice_get A place ≡ Some clause
  pub made : assumed_as c clause ≡ D

pub got_assumed : (c : Closing) (A : List Clause) (i : ℕ) (D : ClauseFormula) → slice_get (assumed_at c A) i ≡ Some D → IsMadeOf c A D
got_assumed c [] i D e = absurd (cc)
got_assumed c (x ∷ A) i D e = elim (get_split (assumed_at c A) (assumed_as c x ∷ []) i D e) [
  | inl g ↦ let r = got_assumed c A i D g in record { place = suc r.place; clause = r.clause; is = r.is; made = r.made }
  | inr g ↦ record { place = 0; clause = x; is = refl; made = last g.0 g.2 }
]
  where
    last : (j : ℕ) → slice_get (assumed_as c x ∷ []) j ≡ Some D → assumed_as c x ≡ D
    last zero g = let q : assumed_as c x ≡ D = cc in q
    last (suc j) g = absurd (cc)

pub get_assumed : (c : Closing) (A : List Clause) (i : ℕ) (x : Clause) → slice_get A i ≡ Some x → (j : ℕ) × (slice_get (assumed_at c A) j ≡ Some (assumed_as c x))
get_assumed c [] i x e = absurd (cc)
get_assumed c (y ∷ A) zero x e = let f : y ≡ x = cc in (length (assumed_at c A) + 0, get_back (assumed_at c A) (assumed_as c y ∷ []) 0 ∙ ap (λ z. Some (assumed_as c z)) f)
get_assumed c (y ∷ A) (suc i) x e = let r = get_assumed c A i x e in (r.0, get_front (assumed_at c A) (assumed_as c y ∷ []) r.0 (assumed_as c x) r.1)
