-- The operator table as a finite map from names to fixities and numbers.
use Rattle.std.specs.Prelude.{◌≡◌, ◌≢◌, ◌<◌, ◌≤◌, ℕ, List, [], ◌∷◌, ◌++◌, Option, Some, None, codes, if◌then◌else◌}
use Rattle.std.specs.Str.{bytes_eq}
use Rattle.std.specs.Map.{lookup}
use Rattle.lp_standard.specs.declared.fixity.Fixity.{Fixity}
use Rattle.lp_standard.specs.declared.fixity.Fixity.TheVariants.{Infixr}
use Rattle.lp_standard.specs.declared.constant.Constant.{Constant}
use Rattle.lp_standard.specs.Constants.{name, fixity, language}
use Rattle.lp_fixity.specs.declared.fault.FixFault.{FixFault}
use Rattle.lp_fixity.specs.declared.fault.FixFault.TheVariants as fault
use Rattle.lp_fixity.specs.declared.table.Table.{Table}

-- a name with its fixity and its number
abbrev pub Entry : Type 0
Entry = List ℕ × (Fixity × ℕ)

-- what the table has at a name
unfoldable pub entry_of : Table → List ℕ → Option (Fixity × ℕ)
entry_of table name = lookup (λ k. bytes_eq name k.items) table.entries.entries

-- a map with this entry too
abbrev pub with_entry : Entry → (List ℕ → Option (Fixity × ℕ)) → List ℕ → Option (Fixity × ℕ)
with_entry e on name = if bytes_eq name e.0 then Some e.1 else on name

-- a map with these entries too, of two at one name the first
abbrev pub with_entries : List Entry → (List ℕ → Option (Fixity × ℕ)) → List ℕ → Option (Fixity × ℕ)
with_entries [] on name = on name
with_entries (e ∷ es) on name = if bytes_eq name e.0 then Some e.1 else with_entries es on name

-- the entry of a constant, if it is an operator
abbrev pub operator : Constant → List Entry
operator c = elim (fixity c) [ None ↦ [] | Some f ↦ (name c, f) ∷ [] ]

abbrev pub operators : List Constant → List Entry
operators [] = []
operators (c ∷ cs) = operator c ++ operators cs

-- `&` is read as `,`, and binds closer
abbrev pub ampersand : Entry
ampersand = (codes "&", (Infixr, 120))

-- the operators of every text; no name stands twice
abbrev pub standard_entries : List Entry
standard_entries = ampersand ∷ operators language

abbrev pub standard : List ℕ → Option (Fixity × ℕ)
standard name = with_entries standard_entries (λ _. None) name

-- each entry of the old table is one of the new table
abbrev pub Extends : Table → Table → Type 0
Extends old new = (name : List ℕ) (e : Fixity × ℕ) → entry_of old name ≡ Some e → entry_of new name ≡ Some e

-- the table has this entry at the name
abbrev pub HasEntry : Table → List ℕ → Fixity × ℕ → Type 0
HasEntry table name wanted = entry_of table name ≡ Some wanted

-- the table has another entry at the name
abbrev pub HasOther : Table → List ℕ → Fixity × ℕ → Type 0
HasOther table name wanted = (has : Fixity × ℕ) × (entry_of table name ≡ Some has) × (has ≢ wanted)

-- why an entry is refused
abbrev pub IsCause : Table → List ℕ → Fixity × ℕ → FixFault → Type 0
IsCause table name wanted (fault.TooHigh n) = (n ≡ wanted.1) × (255 < n)
IsCause table name wanted fault.Otherwise = (wanted.1 ≤ 255) × HasOther table name wanted
IsCause table name wanted fault.Memory = Unit {0}
