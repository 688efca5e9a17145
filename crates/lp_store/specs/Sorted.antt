-- Stores whose cells are of two sorts, types and terms: each part of a type is a type, and each part of a term is of the sort that its place asks for.
use Rattle.std.specs.Prelude.{◌≡◌, ◌<◌, ℕ, length, Bool, true, false}
use Rattle.lp_calculus.specs.Types.{Ty}
use Rattle.lp_calculus.specs.Term.{Term}
use Rattle.lp_store.specs.Contents.{Contents, cell_at}
use Rattle.lp_store.specs.Reading.{IsAmong, parts, types_in, terms_in, MayBeTerm, MayBeType, Reads, ReadsType}

-- `is_type` tells the sort of each cell
pub record IsSorted (s : Contents) (is_type : ℕ → Bool) : Type 0 where
  pub within : (i j : ℕ) → i < length s.cells → IsAmong j (parts s (cell_at s i)) → j < length s.cells
  pub types : (i : ℕ) → i < length s.cells → is_type i ≡ true → MayBeType (cell_at s i)
  pub parts_of_types : (i j : ℕ) → i < length s.cells → is_type i ≡ true → IsAmong j (parts s (cell_at s i)) → is_type j ≡ true
  pub terms : (i : ℕ) → i < length s.cells → is_type i ≡ false → MayBeTerm (cell_at s i)
  pub types_of_terms : (i j : ℕ) → i < length s.cells → is_type i ≡ false → IsAmong j (types_in s (cell_at s i)) → is_type j ≡ true
  pub terms_of_terms : (i j : ℕ) → i < length s.cells → is_type i ≡ false → IsAmong j (terms_in s (cell_at s i)) → is_type j ≡ false

-- a cell reads as something of its sort
pub record HasReading (s : Contents) (is_type : ℕ → Bool) (i : ℕ) : Type 0 where
  pub as_type : is_type i ≡ true → (T : Ty) × ReadsType s i T
  pub as_term : is_type i ≡ false → (t : Term) × Reads s i t
