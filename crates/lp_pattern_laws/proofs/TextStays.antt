-- Pattern text stays so while a search goes on.
use Rattle.std.proofs.Common.{ℕ, List, ◌∷◌, length, refl}
use Rattle.lp_calculus.specs.Term.{Term}
use Rattle.lp_calculus.specs.Closed.{AllAtoms}
use Rattle.lp_calculus.specs.Fill.{Within}
use Rattle.lp_pattern_laws.specs.Patterns.{Name, Names, an_index, an_eigen, expanded}
use Rattle.lp_pattern_laws.specs.Binders.{Binder, universal, IsUniversal, IsPatternIn, index_in, atom_in, abs_in, rigid_in, name_in, IsAtLevel, IsPatternText}
use Rattle.lp_pattern_laws.specs.Goals.{StaysPattern}
use Rattle.lp_pattern_laws.proofs.Carried.{length_get}
use Rattle.lp_pattern_laws.proofs.Comes.{of_term}
use Rattle.lp_pattern_laws.proofs.Opened.{text_opens, universal_under}

names_within : (l : ℕ) (Γ : List Binder) {n : Name} {t : Term} → Names n t → IsUniversal Γ n → AllAtoms (IsAtLevel l) t → Within (IsAtLevel l) (length Γ) t
names_within l Γ (an_index i) u w = length_get Γ i universal u
names_within l Γ (an_eigen k) u w = w
names_within l Γ (expanded {n = n} p q) u w = (names_within l (universal ∷ Γ) p (universal_under Γ n u) w.0, names_within l (universal ∷ Γ) q refl w.1)

text_within : (l : ℕ) (Γ : List Binder) {t : Term} → IsPatternIn Γ t → AllAtoms (IsAtLevel l) t → Within (IsAtLevel l) (length Γ) t
text_within l Γ (index_in {k = k} i e) w = length_get Γ i k e
text_within l Γ (atom_in a) w = w
text_within l Γ (abs_in p) w = text_within l (universal ∷ Γ) p w
text_within l Γ (rigid_in r p q) w = (text_within l Γ p w.0, text_within l Γ q w.1)
text_within l Γ (name_in u p q new) w = (text_within l Γ p w.0, names_within l Γ q u w.1)

pub text_stays : (l : ℕ) (Γ : List Binder) (t : Term) → IsPatternText l Γ t → StaysPattern l Γ t
text_stays l Γ t h = record { within = text_within l Γ h.0 h.1; opens = λ c v σ o. of_term (text_opens l Γ t h c v σ o) }
