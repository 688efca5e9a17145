-- The glossary as the definition of shown text has it, and what a table made of it finds.
use Rattle.std.specs.Prelude.{ℕ, suc, nat_eq, cond, List, [], ◌∷◌, map, Option, Some, None}
use Rattle.lp_show.specs.declared.glossary.Entry as code
use Rattle.lp_model.specs.Shown.{Entry}

abbrev pub entry_of : code.Entry → Entry
entry_of e = record { number = e.number; name = e.name.items; hidden = e.hidden; fixity = e.fixity }

abbrev pub entries_of : List code.Entry → List Entry
entries_of es = map entry_of es

-- the place of the first entry of a constant, where the first of the list has place i
abbrev pub place_in : ℕ → List code.Entry → ℕ → Option ℕ
place_in i [] c = None
place_in i (e ∷ es) c = cond (nat_eq e.number c) (Some i) (place_in (suc i) es c)
