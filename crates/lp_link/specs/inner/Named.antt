-- The names of an image in the making, and the counts of its hidden ones.
use Rattle.std.specs.Global.{Global}
use Rattle.std.specs.Prelude.{◌≡◌, ℕ, List, [], ◌++◌, map, Option, None, Some, Vec}
use Rattle.std.specs.Str.{bytes_eq}
use Rattle.std.specs.Map.{lookup}
use Rattle.indexmap.specs.IndexMap.{IndexMap}
use Rattle.lp_standard.specs.declared.fixity.Fixity.{Fixity}
use Rattle.lp_link.specs.declared.image.Making.{Making}
use Rattle.lp_link.specs.Linked.{Copy}
use Rattle.lp_link.specs.Names.{times, fitted, numbered, as_global, kind_row, constant_row, exported_kind_rows, exported_constant_rows, hidden_kind_rows, hidden_constant_rows, of_copies}

-- how many hidden ones of a name a table has counted
abbrev pub or_none : Option ℕ → ℕ
or_none None = 0
or_none (Some n) = n

unfoldable pub count_in : {S : Type 0} → IndexMap (Vec ℕ Global) ℕ S → List ℕ → ℕ
count_in counts name = or_none (lookup (λ k. bytes_eq name k.items) counts.entries)

-- the counts are those of these names
abbrev pub AreCounted : (counted : List ℕ → ℕ) → List (List ℕ) → Type 0
AreCounted counted names = (w : List ℕ) → counted w ≡ fitted (times w names)

abbrev pub name_of : {A : Type 0} → List ℕ × A → List ℕ
name_of row = row.0

abbrev pub names_in : {A : Type 0} → List (List ℕ × A) → List (List ℕ)
names_in rows = map name_of rows

-- hidden names were put behind rows, with the next numbers of their names
abbrev pub PutsHidden : {A : Type 0} → (old new : List ℕ → ℕ) → (rows now : List (List ℕ × (ℕ × A))) → List (List ℕ × A) → Type 0
PutsHidden old new rows now hidden = (before : List (List ℕ)) → AreCounted old before → (now ≡ rows ++ numbered before hidden) × AreCounted new (before ++ names_in hidden)

-- the tables of an image in the making
abbrev pub rows_of_kinds : Making → List (List ℕ × (ℕ × ℕ))
rows_of_kinds m = map kind_row m.kinds.items

abbrev pub rows_of_constants : Making → List (List ℕ × (ℕ × Option (Fixity × ℕ)))
rows_of_constants m = map constant_row m.constants.items

-- rows were put behind those so far, and nothing was counted
pub record AddsRows (old new : Making) (kinds : List (List ℕ × (ℕ × ℕ))) (constants : List (List ℕ × (ℕ × Option (Fixity × ℕ)))) : Type 0 where
  pub kinds_are : rows_of_kinds new ≡ rows_of_kinds old ++ kinds
  pub constants_are : rows_of_constants new ≡ rows_of_constants old ++ constants
  pub kinds_counted : new.hidden_kinds ≡ old.hidden_kinds
  pub constants_counted : new.hidden_constants ≡ old.hidden_constants

-- hidden names were put and counted
pub record AddsHidden (old new : Making) (kinds : List (List ℕ × ℕ)) (constants : List (List ℕ × Option (Fixity × ℕ))) : Type 0 where
  pub kinds_are : PutsHidden (count_in old.hidden_kinds) (count_in new.hidden_kinds) (rows_of_kinds old) (rows_of_kinds new) kinds
  pub constants_are : PutsHidden (count_in old.hidden_constants) (count_in new.hidden_constants) (rows_of_constants old) (rows_of_constants new) constants

-- the names of a root with these copies stand in the tables, and the hidden ones are counted
pub record AreNamed (root : Copy) (cs : List Copy) (m : Making) : Type 0 where
  pub kinds_are : rows_of_kinds m ≡ map as_global (exported_kind_rows root.object) ++ numbered [] (of_copies (λ c. hidden_kind_rows c.object) cs)
  pub kinds_counted : AreCounted (count_in m.hidden_kinds) (names_in (of_copies (λ c. hidden_kind_rows c.object) cs))
  pub constants_are : rows_of_constants m ≡ map as_global (exported_constant_rows root.object) ++ numbered [] (of_copies (λ c. hidden_constant_rows c.object) cs)
  pub constants_counted : AreCounted (count_in m.hidden_constants) (names_in (of_copies (λ c. hidden_constant_rows c.object) cs))

-- so many entries were put, and with the rest they are all
abbrev pub SoFar : {A : Type 0} → (List A → Type 0) → (rest all : List A) → Type 0
SoFar {A} Put rest all = (vs : List A) × Put vs × (vs ++ rest ≡ all)
