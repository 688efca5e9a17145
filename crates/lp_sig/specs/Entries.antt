-- What the entries of a signature say of what was seen.
use Rattle.std.specs.Prelude.{◌≡◌, ℕ, suc, ◌<◌, List, [], ◌∷◌, Some, map, length, All, slice_index_or, None}
use Rattle.lp_term.specs.Nodes.{Nodes, type_tree}
use Rattle.lp_sig.specs.Rows.{Row}
use Rattle.lp_sig.specs.Said.{declared_names, abbreviations_among}
use Rattle.lp_sig.specs.Types.{HasBody}
use Rattle.lp_sig.specs.Abbreviations.{Seen}
use Rattle.lp_sig.specs.declared.bodies.Body.{Body}
use Rattle.lp_sig.specs.declared.entries.AbbreviationEntry.{AbbreviationEntry}

-- an abbreviation with its count of parameters
abbrev pub parameters_row : AbbreviationEntry → Row ℕ
parameters_row e = (e.name.items, e.type_vars)

-- the body of an entry has the tree of what its name is declared as
pub record IsBody (b : Nodes) (z : Seen) (e : AbbreviationEntry) : Type 0 where
  pub inside : e.body.0 < length b.types
  pub tree : HasBody z.said z.definitions e.name.items (type_tree b e.body.0)

-- the abbreviations that are declared, in order, with their counts of parameters and their bodies
pub record AreAbbreviations (b : Nodes) (z : Seen) (entries : List AbbreviationEntry) : Type 0 where
  pub rows : map parameters_row entries ≡ abbreviations_among (declared_names z.said)
  pub bodies : All (IsBody b z) entries

-- the bodies of these entries stand at the places from one on
abbrev pub HaveBodies : List Body → ℕ → List AbbreviationEntry → Type 0
HaveBodies bodies n [] = Unit {0}
HaveBodies bodies n (e ∷ es) = (slice_index_or (map (λ b. b.body) bodies) n None ≡ Some e.body) × HaveBodies bodies (suc n) es
