-- How far a program has come, copy by copy.
use Rattle.std.specs.Prelude.{◌≡◌, ◌≢◌, ℕ, ◌+◌, ◌≤◌, min, List, [], ◌∷◌, ◌++◌, map, length, reverse, drop, get_or, sum_by, Contains, Some, slice_get}
use Rattle.lp_calculus.specs.Typing.{Scheme}
use Rattle.lp_model.specs.Readings.{formula_of, scheme_of}
use Rattle.lp_sig.specs.Rows.{Row}
use Rattle.lp_module.specs.Copies.{IsOrder, uses_of, kinds_end, constants_end}
use Rattle.lp_module.specs.Making.{IsSoFar, IsMade}
use Rattle.lp_module.specs.Program.{Copy, Next, first_of, behind, IsRoot, IsBelow, CopiesBelow, AreCopies, in_copy, clauses_in, clauses_of, row_of, exported_kinds, hidden_kinds, exported_constants, hidden_constants, exported_schemes, hidden_schemes, of_copies}
use Rattle.lp_module.specs.Renumbering.{number_in}
use Rattle.lp_module.specs.declared.copies.Making.{Making}
use Rattle.lp_module.specs.declared.module.Module.{Module}
use Rattle.lp_module.specs.declared.numbers.Open.{Open}
use Rattle.lp_module.specs.declared.tree.Hidden.{Hidden}

-- as far as 64 bits hold it
abbrev pub counted : ℕ → ℕ
counted n = min n 18446744073709551615

-- how many hidden names stand in all copies of a module and below them, module by module
abbrev pub in_all : (Hidden → ℕ) → List Hidden → ℕ → ℕ
in_all f ts m = get_or (map f ts) m 0

-- those of a module are its own and those of what it accumulates
abbrev pub IsTotal : (uses : List (List ℕ)) → (own : ℕ → ℕ) → (ℕ → ℕ) → ℕ → Type 0
IsTotal uses own T m = T m ≡ counted (own m + counted (sum_by T (get_or uses m [])))

abbrev pub AreTotals : (uses : List (List ℕ)) → (own : ℕ → ℕ) → (ℕ → ℕ) → List ℕ → Type 0
AreTotals uses own T ms = (m : ℕ) → Contains ms m → IsTotal uses own T m

abbrev pub own_kinds : List Module → ℕ → ℕ
own_kinds modules m = get_or (map (λ m. length m.hidden_kinds.items) modules) m 0

abbrev pub own_constants : List Module → ℕ → ℕ
own_constants modules m = get_or (map (λ m. length m.hidden_constants.items) modules) m 0

-- the numbers behind the hidden names of all copies of these modules
abbrev pub past : List Hidden → Next → List ℕ → Next
past ts n ms = record { kinds = n.kinds + sum_by (in_all (λ h. h.kinds) ts) ms; constants = n.constants + sum_by (in_all (λ h. h.constants) ts) ms }

-- an open copy, as the copy that it is
abbrev pub copy_of : ℕ → Open → Copy
copy_of at o = record { member = at; kinds = number_in o.names.kinds; constants = number_in o.names.constants }

-- a copy of a module is open, inside of others: its hidden names have the numbers from `from` on
abbrev pub IsOpen : (inside : List Open) → Module → (from : Next) → Copy → Type 0
IsOpen [] m from c = IsRoot m from c
IsOpen (o ∷ os) m from c = IsBelow o.module.now (copy_of 0 o) m from c

-- the open copies, the innermost first, with the next entries of their lists: each has its hidden names behind all that is still to come below it
abbrev pub AreOpen : List Module → List Hidden → Next → List (ℕ × ℕ) → List Open → Type 0
AreOpen modules ts n [] [] = Unit {0}
AreOpen modules ts n [] (o ∷ os) = ⊥
AreOpen modules ts n (f ∷ fs) [] = ⊥
AreOpen modules ts n (f ∷ fs) (o ∷ os) =
    (slice_get modules f.0 ≡ Some o.module.now) × IsOpen os o.module.now (past ts n (drop f.1 (get_or (uses_of modules) f.0 []))) (copy_of f.0 o) ×
    AreOpen modules ts (behind o.module.now (past ts n (drop f.1 (get_or (uses_of modules) f.0 [])))) fs os

-- what comes of the open copies, behind those that are done
abbrev pub RestOf : List Module → Next → List Copy → List (ℕ × ℕ) → List Open → List Copy → Type 0
RestOf modules n done [] os all = done ≡ all
RestOf modules n done (f ∷ fs) [] all = ⊥
RestOf modules n done (f ∷ fs) (o ∷ os) all =
    (below : List Copy) × (middle : Next) × CopiesBelow modules o.module.now (copy_of f.0 o) n (drop f.1 (get_or (uses_of modules) f.0 [])) below middle × IsOpen os o.module.now middle (copy_of f.0 o) ×
    RestOf modules (behind o.module.now middle) (done ++ (below ++ copy_of f.0 o ∷ [])) fs os all

-- the next numbers of hidden names are those behind the copies that were left
pub record AreNext (modules : List Module) (root : ℕ) (left : List ℕ) (n : Hidden) : Type 0 where
  pub top : Module
  pub at : slice_get modules root ≡ Some top
  pub kinds : n.kinds ≡ (first_of top).kinds + sum_by (own_kinds modules) left
  pub constants : n.constants ≡ (first_of top).constants + sum_by (own_constants modules) left

abbrev pub next_of : Hidden → Next
next_of h = record { kinds = h.kinds; constants = h.constants }

-- a program in the making got these kinds, constants and types of constants behind those that it had
pub record AddsNames (old new : Making) (kinds constants : List (Row (ℕ × ℕ))) (schemes : List Scheme) : Type 0 where
  pub kinds_are : map row_of new.kinds.items ≡ map row_of old.kinds.items ++ kinds
  pub constants_are : map row_of new.constants.items ≡ map row_of old.constants.items ++ constants
  pub schemes_are : IsSoFar old → map (scheme_of new.bank) new.declared.items ≡ map (scheme_of old.bank) old.declared.items ++ schemes

-- it has those that the root exports, in the root's own copy, and the hidden ones of the copies that are done
pub record AreTabled (modules : List Module) (top : Module) (root : Copy) (done : List Copy) (m : Making) : Type 0 where
  pub kinds_are : map row_of m.kinds.items ≡ exported_kinds top ++ of_copies (λ c m. hidden_kinds m) modules done
  pub constants_are : map row_of m.constants.items ≡ exported_constants top ++ of_copies (λ c m. hidden_constants m) modules done
  pub schemes_are : map (scheme_of m.bank) m.declared.items ≡ exported_schemes root top ++ of_copies hidden_schemes modules done

-- the copies of a root, with the root's module and its own copy
pub record AreCopiesOf (modules : List Module) (root : ℕ) (top : Module) (copy : Copy) (all : List Copy) : Type 0 where
  pub are : AreCopies modules root all
  pub top_is : are.top ≡ top
  pub copy_is : are.copy ≡ copy

-- the program so far
pub record IsMaking (modules : List Module) (root : ℕ) (ts : List Hidden) (frames : List (ℕ × ℕ)) (left : List ℕ) (m : Making) (around : List Open) : Type 0 where
  pub sofar : IsSoFar m
  pub done : List Copy
  pub members : map (λ c. c.member) done ≡ left
  pub clause_list : map (formula_of m.bank) m.clauses.items ≡ clauses_of modules done
  pub next : AreNext modules root left m.next
  pub open_ones : AreOpen modules ts (next_of m.next) frames (reverse around)
  pub copy : Copy
  pub tables : AreTabled modules next.top copy done m
  pub whole : (all : List Copy) → RestOf modules (next_of m.next) done frames (reverse around) all → AreCopiesOf modules root next.top copy all

-- each of these modules comes behind all that it accumulates, where some come before
abbrev pub AreBehind : List (List ℕ) → List ℕ → List ℕ → Type 0
AreBehind uses before [] = Unit {0}
AreBehind uses before (m ∷ ms) = ((u : ℕ) → Contains (get_or uses m []) u → Contains before u) × AreBehind uses (before ++ m ∷ []) ms

-- a total was kept
pub record SetsTotal (old new : List Hidden) (at : ℕ) (total : Hidden) : Type 0 where
  pub count : length new ≡ length old
  pub there : (f : Hidden → ℕ) → in_all f new at ≡ f total
  pub elsewhere : (f : Hidden → ℕ) (m : ℕ) → m ≢ at → in_all f new m ≡ in_all f old m

-- the clauses of a copy were put behind the others, and its hidden names were noted
pub record AddsClauses (old new : Making) (o : Open) : Type 0 where
  pub made : IsMade old new
  pub next : new.next ≡ old.next
  pub clause_list : IsSoFar old → map (formula_of new.bank) new.clauses.items ≡ map (formula_of old.bank) old.clauses.items ++ map (in_copy (copy_of 0 o)) (clauses_in o.module.now)

-- a copy of a module was opened inside of the others, the innermost last
pub record Opens (old new : List Open) (m : Module) (from : Next) : Type 0 where
  pub opened : Open
  pub inside : reverse new ≡ opened ∷ reverse old
  pub of : opened.module.now ≡ m
  pub is_open : IsOpen (reverse old) m from (copy_of 0 opened)

-- the names that the root exports were put, where the copy is the root's; else none were
abbrev pub EntersNames : (inside : List Open) → Making → Making → Open → Type 0
EntersNames [] old new o = AddsNames old new (exported_kinds o.module.now) (exported_constants o.module.now) (exported_schemes (copy_of 0 o) o.module.now)
EntersNames (p ∷ ps) old new o = AddsNames old new [] [] []

-- a copy of a module was opened, and its names were put
pub record Enters (old new : Making) (open_old open_new : List Open) (m : Module) (from : Next) : Type 0 where
  pub opens : Opens open_old open_new m from
  pub names : EntersNames open_old old new opens.opened

-- the names of a copy of a module that is left: the hidden ones
abbrev pub LeavesNames : Making → Making → Open → Type 0
LeavesNames old new o = AddsNames old new (hidden_kinds o.module.now) (hidden_constants o.module.now) (hidden_schemes (copy_of 0 o) o.module.now)

-- the innermost copy was left
pub record Leaves (old new : Making) (open_old open_new : List Open) : Type 0 where
  pub left : Open
  pub inside : reverse open_old ≡ left ∷ reverse open_new
  pub made : IsMade old new
  pub next : next_of new.next ≡ behind left.module.now (next_of old.next)
  pub names : LeavesNames old new left
  pub clause_list : IsSoFar old → map (formula_of new.bank) new.clauses.items ≡ map (formula_of old.bank) old.clauses.items ++ map (in_copy (copy_of 0 left)) (clauses_in left.module.now)

-- what is known of the modules before their program is made
pub record IsPlanned (modules : List Module) (root : ℕ) (ts : List Hidden) (order : List ℕ) : Type 0 where
  pub copies : IsOrder modules root order
  pub kinds : AreTotals (uses_of modules) (own_kinds modules) (in_all (λ h. h.kinds) ts) order
  pub constants : AreTotals (uses_of modules) (own_constants modules) (in_all (λ h. h.constants) ts) order
  pub kinds_fit : kinds_end modules root order ≤ 1048576
  pub constants_fit : constants_end modules root order ≤ 1048576
