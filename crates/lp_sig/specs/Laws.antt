-- What texts say together, for laws on the definitions.
use Rattle.std.specs.Prelude.{◌≡◌, ℕ, List, [], ◌∷◌, ◌++◌, length, Some}
use Rattle.lp_sig.specs.Rows.{Row, found}
use Rattle.lp_sig.specs.Said.{Said, an_abbreviation, said_in}
use Rattle.lp_sig.specs.Words.{meaning_of}
use Rattle.lp_sig.specs.Types.{Definition, in_text, as_tree, definitions_in}
use Rattle.lp_sig.specs.Abbreviations.{Text}

-- what these texts say of kinds and abbreviations, and what they define
abbrev pub all_said : List Text → List (Row Said)
all_said [] = []
all_said (t ∷ ts) = said_in t.0 t.1 ++ all_said ts

abbrev pub all_definitions : List Text → List (Row Definition)
all_definitions [] = []
all_definitions (t ∷ ts) = definitions_in t.0 t.1 ++ all_definitions ts

-- a definition of a text has so many parameters
abbrev pub HasParameters : Definition → ℕ → Type 0
HasParameters (in_text text ps ty) n = length ps ≡ n
HasParameters (as_tree t) n = ⊥

-- each abbreviation has as many parameters as is said of it
abbrev pub Agree : List (Row Said) → List (Row Definition) → Type 0
Agree said defs = (name : List ℕ) (d : Definition) (n : ℕ) → found name defs ≡ Some d → meaning_of name said ≡ Some (an_abbreviation n) → HasParameters d n
