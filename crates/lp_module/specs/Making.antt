-- A program in the making.
use Rattle.std.specs.Prelude.{◌≡◌, ◌<◌, List, length, All}
use Rattle.lp_term.specs.Nodes.{Nodes, Extends}
use Rattle.lp_model.specs.declared.program.Declared.{Declared}
use Rattle.lp_module.specs.Numbering.{AreCounted, AreNumbered}
use Rattle.lp_module.specs.Sentences.{AreWithin}
use Rattle.lp_module.specs.declared.copies.Making.{Making}

-- the types of the constants stand in the bank
abbrev pub AreTyped : Nodes → List Declared → Type 0
AreTyped b ds = All (λ d. d.scheme.0 < length b.types) ds

-- its formulas and types stand in its bank, its constants have their names, and hidden names have their numbers
abbrev pub IsSoFar : Making → Type 0
IsSoFar m =
    AreWithin m.bank m.clauses.items × (length m.declared.items ≡ length m.constants.items) ×
    AreCounted m.hidden_kinds m.kinds.items × AreNumbered m.kinds.items ×
    AreCounted m.hidden_constants m.constants.items × AreNumbered m.constants.items × AreTyped m.bank m.declared.items

abbrev pub IsMade : Making → Making → Type 0
IsMade old new = IsSoFar old → IsSoFar new

-- names were added, and no clauses
abbrev pub MakesNames : Making → Making → Type 0
MakesNames old new = IsMade old new × (new.clauses.items ≡ old.clauses.items) × Extends old.bank new.bank × (new.next ≡ old.next)
