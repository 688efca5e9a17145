-- The program of a set of modules: the tree of copies, the numbers that the names of each copy have, and the clauses.
use Rattle.std.specs.Prelude.{◌≡◌, ℕ, zero, suc, ◌+◌, ◌-◌, ◌<◌, ◌≤◌, nat_eq, if◌then◌else◌, List, [], ◌∷◌, ◌++◌, map, length, get_or, Option, Some, None, option_map, option_to_list, slice_get}
use Rattle.lp_base.specs.declared.limits.TheConstants.{MAX_COPIES}
use Rattle.lp_calculus.specs.Types.{var}
use Rattle.lp_calculus.specs.Term.{atom, logic}
use Rattle.lp_calculus.specs.Typing.{Scheme}
use Rattle.lp_copies.specs.declared.names.TheConstants.{END_OF_IMAGE_NUMBERS}
use Rattle.lp_term.specs.Mapped.{Map, mapped, mapped_type}
use Rattle.lp_model.specs.Flatten.{ClauseFormula}
use Rattle.lp_model.specs.Readings.{formula_of, scheme_of}
use Rattle.lp_sig.specs.Rows.{Row, found, kind_row, number_row}
use Rattle.lp_sig.specs.Standard.{standard_kinds, standard_constants}
use Rattle.lp_sig.specs.declared.entries.ConstantEntry.{ConstantEntry}
use Rattle.lp_sig.specs.declared.entries.KindEntry.{KindEntry}
use Rattle.lp_infer.specs.Texts.{entry_scheme}
use Rattle.lp_module.specs.Copies.{IsOrder, uses_of, counts_of, total, kinds_end, constants_end}
use Rattle.lp_module.specs.Making.{AreTyped}
use Rattle.lp_module.specs.Numbering.{AreNumbered, hidden_one, or_none}
use Rattle.lp_module.specs.Sentences.{AreWithin}
use Rattle.lp_module.specs.declared.copies.Assembled.{Assembled}
use Rattle.lp_module.specs.declared.copies.GlobalName.{GlobalName}
use Rattle.lp_module.specs.declared.module.Module.{Module}

-- numbers

-- the place of a number in a list
abbrev pub place_in : List ℕ → ℕ → Option ℕ
place_in [] k = None
place_in (x ∷ xs) k = if nat_eq x k then Some 0 else option_map (λ j. suc j) (place_in xs k)

-- hidden names have the numbers from `from` on, by their places; any other name has this one
abbrev pub hidden_or : (from : ℕ) → Option ℕ → ℕ → ℕ
hidden_or from None other = other
hidden_or from (Some j) other = from + j

-- What becomes of the numbers of a module's kinds or constants. Its table has so many names, whose numbers begin at `first`, and `exported` gives the number in the program of the exported name at a place. The standard names keep their numbers.
pub record IsNumbered (first count : ℕ) (hidden : List ℕ) (from : ℕ) (exported : ℕ → ℕ) (number : ℕ → ℕ) : Type 0 where
  pub standard : (k : ℕ) → k < first → number k ≡ k
  pub named : (i : ℕ) → i < count → number (first + i) ≡ hidden_or from (place_in hidden (first + i)) (exported i)
  pub other : (k : ℕ) → first + count ≤ k → number k ≡ k

abbrev pub one_if_none : Option ℕ → ℕ
one_if_none None = 1
one_if_none (Some j) = 0

-- how many of the names before a place are exported
abbrev pub exported_before : (first : ℕ) → (hidden : List ℕ) → ℕ → ℕ
exported_before first hidden zero = 0
exported_before first hidden (suc i) = exported_before first hidden i + one_if_none (place_in hidden (first + i))

-- copies

-- a copy of a module, with the numbers that its kinds and constants have in the program
pub record Copy : Type 0 where
  pub member : ℕ
  pub kinds : ℕ → ℕ
  pub constants : ℕ → ℕ

-- the numbers of the next hidden names
pub record Next : Type 0 where
  pub kinds : ℕ
  pub constants : ℕ

-- behind the standard names and those that the root exports
abbrev pub first_of : Module → Next
first_of m = record { kinds = 8 + (length m.signature.kinds.items - length m.hidden_kinds.items); constants = 32 + (length m.signature.constants.items - length m.hidden_constants.items) }

-- behind the hidden names of a copy
abbrev pub behind : Module → Next → Next
behind m n = record { kinds = n.kinds + length m.hidden_kinds.items; constants = n.constants + length m.hidden_constants.items }

-- a copy whose hidden names have the numbers from `from` on
pub record HasNumbers (m : Module) (from : Next) (exported_kinds exported_constants : ℕ → ℕ) (c : Copy) : Type 0 where
  pub kinds : IsNumbered 8 (length m.signature.kinds.items) m.hidden_kinds.items from.kinds exported_kinds c.kinds
  pub constants : IsNumbered 32 (length m.signature.constants.items) m.hidden_constants.items from.constants exported_constants c.constants

-- the exported names of the root are global: they have the first numbers, in order
abbrev pub IsRoot : Module → Next → Copy → Type 0
IsRoot m from c = HasNumbers m from (λ i. 8 + exported_before 8 m.hidden_kinds.items i) (λ i. 32 + exported_before 32 m.hidden_constants.items i) c

-- the names at a place of a module's tables
abbrev pub kind_at : Module → ℕ → List ℕ
kind_at m i = get_or (map (λ e. e.name.items) m.signature.kinds.items) i []

abbrev pub constant_at : Module → ℕ → List ℕ
constant_at m i = get_or (map (λ e. e.name.items) m.signature.constants.items) i []

-- the number that a name has in a copy of a module, of whose kinds or constants these are the numbers
abbrev pub kind_in : Module → (ℕ → ℕ) → List ℕ → ℕ
kind_in m kinds w = or_none (option_map (λ r. kinds r.0) (found w (standard_kinds ++ map kind_row m.signature.kinds.items)))

abbrev pub constant_in : Module → (ℕ → ℕ) → List ℕ → ℕ
constant_in m constants w = or_none (option_map constants (found w (standard_constants ++ map number_row m.signature.constants.items)))

-- an exported name of a copy is the name that the copy above has
abbrev pub IsBelow : (above : Module) → Copy → Module → Next → Copy → Type 0
IsBelow above a m from c = HasNumbers m from (λ i. kind_in above a.kinds (kind_at m i)) (λ i. constant_in above a.constants (constant_at m i)) c

-- The copies of modules below a copy, in order: those below each, then it itself. Hidden names have the next numbers, in this order.
pub data CopiesBelow (modules : List Module) : Module → Copy → (before : Next) → List ℕ → List Copy → (after : Next) → Type 0 where
  none_below : (above : Module) (a : Copy) (n : Next) → CopiesBelow modules above a n [] [] n
  one_below : (above : Module) (a : Copy) (before middle after : Next) (m : Module) (c : Copy) (rest : List ℕ) (below others all : List Copy) → slice_get modules c.member ≡ Some m → CopiesBelow modules m c before (get_or (uses_of modules) c.member []) below middle → IsBelow above a m middle c →
      CopiesBelow modules above a (behind m middle) rest others after → all ≡ below ++ c ∷ others → CopiesBelow modules above a before (c.member ∷ rest) all after

-- the copies of all modules that the root accumulates, the root itself last
pub record AreCopies (modules : List Module) (root : ℕ) (all : List Copy) : Type 0 where
  pub top : Module
  pub at : slice_get modules root ≡ Some top
  pub copy : Copy
  pub below : List Copy
  pub middle : Next
  pub of_root : copy.member ≡ root
  pub copies : CopiesBelow modules top copy (first_of top) (get_or (uses_of modules) root []) below middle
  pub is_root : IsRoot top middle copy
  pub whole : all ≡ below ++ copy ∷ []

-- clauses

abbrev pub map_of : Copy → Map
map_of c = record { kinds = c.kinds; constants = c.constants; types = λ x. var x; terms = λ x l. atom (logic x l) }

-- a clause of a module as it stands in a copy
abbrev pub in_copy : Copy → ClauseFormula → ClauseFormula
in_copy c f = record { type_vars = f.type_vars; formula = mapped (map_of c) f.formula }

-- the clauses of a module, as plain formulas
abbrev pub clauses_in : Module → List ClauseFormula
clauses_in m = map (formula_of m.bank) m.clauses.items

abbrev pub clauses_of : List Module → List Copy → List ClauseFormula
clauses_of modules [] = []
clauses_of modules (c ∷ cs) = map (in_copy c) (get_or (map clauses_in modules) c.member []) ++ clauses_of modules cs

-- tables

-- the entries of a table that are exported, in order: those whose numbers, from the first on, are none of the hidden ones
abbrev pub one_if_exported : {A : Type 0} → Option ℕ → A → List A
one_if_exported None x = x ∷ []
one_if_exported (Some j) x = []

abbrev pub exported_among : {A : Type 0} → (first : ℕ) → (hidden : List ℕ) → List A → List A
exported_among first hidden [] = []
exported_among first hidden (x ∷ xs) = one_if_exported (place_in hidden first) x ++ exported_among (suc first) hidden xs

-- those of the hidden numbers, in the order of these
abbrev pub hidden_among : {A : Type 0} → (first : ℕ) → (hidden : List ℕ) → List A → List A
hidden_among first [] xs = []
hidden_among first (k ∷ ks) xs = option_to_list (slice_get xs (k - first)) ++ hidden_among first ks xs

-- what stands in a table: a name, 1 where it is hidden and 0 where it is global, and the arity
abbrev pub row_of : GlobalName → Row (ℕ × ℕ)
row_of g = (g.name.items, (hidden_one g.hidden, g.arity))

abbrev pub kind_as : (hidden : ℕ) → KindEntry → Row (ℕ × ℕ)
kind_as hidden e = (e.name.items, (hidden, e.arity))

abbrev pub constant_as : (hidden : ℕ) → ConstantEntry → Row (ℕ × ℕ)
constant_as hidden e = (e.name.items, (hidden, e.type_vars))

-- the type of a constant of a module as it stands in a copy: kinds have their numbers there
abbrev pub scheme_in : Copy → Scheme → Scheme
scheme_in c s = record { count = s.count; body = mapped_type (map_of c) s.body }

-- the names that a module exports, and its hidden ones
abbrev pub exported_kinds : Module → List (Row (ℕ × ℕ))
exported_kinds m = map (kind_as 0) (exported_among 8 m.hidden_kinds.items m.signature.kinds.items)

abbrev pub hidden_kinds : Module → List (Row (ℕ × ℕ))
hidden_kinds m = map (kind_as 1) (hidden_among 8 m.hidden_kinds.items m.signature.kinds.items)

abbrev pub exported_constants : Module → List (Row (ℕ × ℕ))
exported_constants m = map (constant_as 0) (exported_among 32 m.hidden_constants.items m.signature.constants.items)

abbrev pub hidden_constants : Module → List (Row (ℕ × ℕ))
hidden_constants m = map (constant_as 1) (hidden_among 32 m.hidden_constants.items m.signature.constants.items)

-- the types of these constants in a copy
abbrev pub exported_schemes : Copy → Module → List Scheme
exported_schemes c m = map (λ e. scheme_in c (entry_scheme m.signature.bank e)) (exported_among 32 m.hidden_constants.items m.signature.constants.items)

abbrev pub hidden_schemes : Copy → Module → List Scheme
hidden_schemes c m = map (λ e. scheme_in c (entry_scheme m.signature.bank e)) (hidden_among 32 m.hidden_constants.items m.signature.constants.items)

-- what the modules of copies have, one copy behind the other
abbrev pub of_module : {A : Type 0} → (Module → List A) → Option Module → List A
of_module f None = []
of_module f (Some m) = f m

abbrev pub of_copies : {A : Type 0} → (Copy → Module → List A) → List Module → List Copy → List A
of_copies f modules [] = []
of_copies f modules (c ∷ cs) = of_module (f c) (slice_get modules c.member) ++ of_copies f modules cs

-- The tables of a program: its kinds and constants are those that the root exports, in order, and behind them the hidden ones of each copy, with their names, their arities, and the types that they have in their copy.
pub record HasTables (modules : List Module) (top : Module) (root : Copy) (copied : List Copy) (a : Assembled) : Type 0 where
  pub kinds : map row_of a.kinds.items ≡ exported_kinds top ++ of_copies (λ c m. hidden_kinds m) modules copied
  pub constants : map row_of a.constants.items ≡ exported_constants top ++ of_copies (λ c m. hidden_constants m) modules copied
  pub schemes : map (scheme_of a.program.bank) a.program.constants.items ≡ exported_schemes root top ++ of_copies hidden_schemes modules copied

-- A program is that of the modules that the root accumulates: its clauses are those of all copies, in order, its tables have the names of all copies, and its hidden names have the next numbers of their names.
pub record IsProgram (modules : List Module) (root : ℕ) (a : Assembled) : Type 0 where
  pub copied : List Copy
  pub are : AreCopies modules root copied
  pub clause_list : map (formula_of a.program.bank) a.program.clauses.items ≡ clauses_of modules copied
  pub tables : HasTables modules are.top are.copy copied a
  pub order : List ℕ
  pub members : map (λ c. c.member) copied ≡ order
  pub copies : IsOrder modules root order
  pub few : length order ≤ MAX_COPIES
  pub kinds_fit : kinds_end modules root order ≤ END_OF_IMAGE_NUMBERS
  pub constants_fit : constants_end modules root order ≤ END_OF_IMAGE_NUMBERS
  pub count : length a.program.clauses.items ≡ total counts_of modules order
  pub clauses : AreWithin a.program.bank a.program.clauses.items
  pub constants : length a.program.constants.items ≡ length a.constants.items
  pub typed : AreTyped a.program.bank a.program.constants.items
  pub hidden_kinds : AreNumbered a.kinds.items
  pub hidden_constants : AreNumbered a.constants.items
