-- What stands in the output after a query.
use Rattle.std.specs.Prelude.{◌≡◌, Bool, ℕ, List, Option}
use Rattle.lp_model.specs.Shown.{Entry}
use Rattle.lp_show.specs.Glossary.{entries_of}
use Rattle.lp_answers.specs.declared.stopped.Stopped.TheVariants as stop
use Rattle.lp_answers.specs.declared.stopped.Written.{Written}
use Rattle.lp_answers.specs.Texts.{WroteAll, Stopping, MayReport}
use Rattle.lp_query.specs.declared.fault.AskRefusal.{AskRefusal}
use Rattle.lp_query.specs.declared.fault.AskRefusal.TheVariants.{Write, Memory}
use Rattle.lp_query.specs.declared.asker.Asker.{Asker}
use Rattle.lp_query.specs.Faults.{AreThere}
use Rattle.lp_query.specs.Variables.{Reader, AreVariables}

-- the constants as they are shown
abbrev pub entries_in : Asker → List Entry
entries_in a = entries_of a.seen.glossary.entries.items

-- what its queries are read with
abbrev pub reader : Asker → Reader
reader a = record { signature = a.seen.signature; table = a.seen.table }

-- each of the names to be shown is that of a variable of the query
abbrev pub ShowsVariables : Reader → (text : List ℕ) → (shown : List (List ℕ)) → Type 0
ShowsVariables r text shown = (names : List (List ℕ)) × (AreVariables r text names × AreThere names shown)

-- the answers, the last line and the reports, of which there are none where the search is not watched
abbrev pub Answered : List Entry → List (List ℕ) → (watched : Bool) → (most : ℕ) → (old new : Option (List ℕ)) → Written → Type 0
Answered es ns watched most old new w = (reports : List ℕ) × (MayReport watched reports × WroteAll es ns most reports old new w)

-- the search or the writing stopped; a query that is refused writes nothing
abbrev pub Broke : List Entry → List (List ℕ) → (watched : Bool) → (most : ℕ) → (old new : Option (List ℕ)) → AskRefusal → Type 0
Broke es ns watched most old new Write = Stopping es ns (MayReport watched) most old new stop.Write
Broke es ns watched most old new Memory = Stopping es ns (MayReport watched) most old new stop.Memory
Broke es ns watched most old new e = new ≡ old
