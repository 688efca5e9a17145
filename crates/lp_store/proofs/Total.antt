-- Each cell of a store of two sorts has a reading: by induction on the ways from part to part, each of which ends.
use Rattle.std.proofs.Common.{◌<◌, ℕ, List, [], ◌∷◌, length, Bool, refl, inl, inr}
use Rattle.lp_calculus.specs.Types.{Ty}
use Rattle.lp_calculus.specs.Term.{Term}
use Rattle.lp_store.specs.Contents.{Contents, cell_at}
use Rattle.lp_store.specs.Reading.{IsAmong, parts, types_in, terms_in, type_top, top, Reads, reads, ReadAll, none, more, ReadsType, reads_type, ReadTypes, no_types, more_types, Ends, ends}
use Rattle.lp_store.specs.Sorted.{HasReading, IsSorted}
use Rattle.lp_store.proofs.Readings.{types_among, terms_among}

types_read : (s : Contents) (is : List ℕ) → ((j : ℕ) → IsAmong j is → (T : Ty) × ReadsType s j T) → (Ts : List Ty) × ReadTypes s is Ts
types_read s [] h = ([], no_types)
types_read s (i ∷ is) h =
    let a = h i (inl refl) in
    let b = types_read s is (λ j m. h j (inr m)) in
    (a.0 ∷ b.0, more_types a.1 b.1)

terms_read : (s : Contents) (is : List ℕ) → ((j : ℕ) → IsAmong j is → (t : Term) × Reads s j t) → (ts : List Term) × ReadAll s is ts
terms_read s [] h = ([], none)
terms_read s (i ∷ is) h =
    let a = h i (inl refl) in
    let b = terms_read s is (λ j m. h j (inr m)) in
    (a.0 ∷ b.0, more a.1 b.1)

pub reading : (s : Contents) (is_type : ℕ → Bool) → IsSorted s is_type → (i : ℕ) → Ends s i → i < length s.cells → HasReading s is_type i
reading s is_type w i (ends f) h = record {
  as_type = λ e.
      let r = types_read s (parts s (cell_at s i)) (λ j m. (reading s is_type w j (f j m) (w.within i j h m)).as_type (w.parts_of_types i j h e m)) in
      (type_top i (cell_at s i) r.0, reads_type h (w.types i h e) r.1);
  as_term = λ e.
      let q = types_read s (types_in s (cell_at s i)) (λ j m.
      let n = types_among s (cell_at s i) j m in
      (reading s is_type w j (f j n) (w.within i j h n)).as_type (w.types_of_terms i j h e m)) in
      let r = terms_read s (terms_in s (cell_at s i)) (λ j m.
      let n = terms_among s (cell_at s i) j m in
      (reading s is_type w j (f j n) (w.within i j h n)).as_term (w.terms_of_terms i j h e m)) in
      (top s i (cell_at s i) q.0 r.0, reads h (w.terms i h e) q.1 r.1);
}
