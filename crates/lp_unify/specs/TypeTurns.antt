-- One turn on a pair of cells that read as types: what is chosen, what is looked for, and what comes of it.
use Rattle.std.specs.Prelude.{◌≡◌, ℕ, suc, ◌+◌, ◌<◌, ◌≤◌, ◌⊎◌, List, [], ◌∷◌, ◌++◌, map, Option, Some, None, Bool, true, false, ◌||◌}
use Rattle.lp_calculus.specs.Types.{Ty, var, tys}
use Rattle.lp_store.specs.declared.cell.Cell.{Cell}
use Rattle.lp_store.specs.declared.cell.Cell.TheVariants.{TypeVar, Ref}
use Rattle.lp_store.specs.declared.cell.CellId.{CellId}
use Rattle.lp_store.specs.Contents.{Contents, cell_at}
use Rattle.lp_store.specs.Reading.{ReadsType, ReadTypes}
use Rattle.lp_model.specs.Types.{TypePair, TypeBinding, visit, visit_all, one_more, differ, type_rule, same_top, solve_types}
use Rattle.lp_model.specs.Unify.{is_some_bound}
use Rattle.lp_unify.specs.declared.fault.PatternRefusal.{PatternRefusal}
use Rattle.lp_unify.specs.declared.round.Round.{Round}
use Rattle.lp_unify.specs.declared.types.Choice.{Choice}
use Rattle.lp_unify.specs.TypeEquations.{ReadPairs, AreTypesPut}

-- no reference
abbrev pub IsResolved : Cell → Type 0
IsResolved (Ref to) = ⊥
IsResolved _ = Unit {0}

abbrev pub IsVariable : Contents → CellId → Type 0
IsVariable s c = cell_at s c.0 ≡ TypeVar

-- a variable that is to become another cell, which is no variable or an older one
pub record IsToBecome (s : Contents) (variable to : CellId) : Type 0 where
  pub is : IsVariable s variable
  pub older : IsVariable s to → to.0 < variable.0

-- the choice is right for what the two cells are
abbrev pub IsChosen : Contents → (one other : CellId) → Choice → Type 0
IsChosen s one other Choice.Drop = IsVariable s one × (one.0 ≡ other.0)
IsChosen s one other (Choice.Bind x to) = IsToBecome s x to × (((x ≡ one) × (to ≡ other)) ⊎ ((x ≡ other) × (to ≡ one)))
IsChosen s one other Choice.Split = (IsVariable s one → ⊥) × (IsVariable s other → ⊥)

-- the pairs of the parts are put in front, or the tops differ
abbrev pub IsSplit : Bool → Contents → (A B : Ty) → (old new : List (CellId × CellId)) → Type 0
IsSplit true s A B old new = (ps : List TypePair) × (same_top A B ≡ Some ps) × ((qs : List TypePair) → ReadPairs s old qs → ReadPairs s new (ps ++ qs))
IsSplit false s A B old new = same_top A B ≡ None

-- the cells of a stack, the newest first
abbrev pub ReadStack : Contents → List CellId → List Ty → Type 0
ReadStack s ids Ts = ReadTypes s (map (λ c. c.0) ids) Ts

-- a visit of the top of a type: the variable is there, or the parts are put in front
abbrev pub IsVisited : Bool → Contents → (x : ℕ) → Ty → (old new : List CellId) → Type 0
IsVisited true s x T old new = T ≡ var x
IsVisited false s x T old new = (Us : List Ty) × (visit x T ≡ one_more (visit_all x (tys Us))) × ((Ts : List Ty) → ReadStack s old Ts → ReadStack s new (Us ++ Ts))

-- a refusal for want of units says this
abbrev pub IsWant : PatternRefusal → Type 0 → Type 0
IsWant PatternRefusal.Fails P = ⊥
IsWant PatternRefusal.Deep P = P
IsWant PatternRefusal.Memory P = Unit {0}

-- behind a turn on the first of some equations these are left, with what was bound put into what each cell reads as
pub record IsTurn (old new : Contents) (before after : Round) (p : TypePair) (ps qs : List TypePair) : Type 0 where
  pub bindings : List TypeBinding
  pub cost : ℕ
  pub comes : (n : ℕ) (made : List TypeBinding) (u : ℕ) → solve_types (suc n) (p ∷ ps) made u ≡ solve_types n qs (made ++ bindings) (suc u + cost)
  pub put : AreTypesPut bindings old new
  pub units : before.units ≡ suc cost + after.units
  pub bound : after.is_bound ≡ (before.is_bound || is_some_bound bindings)

-- the two types have no solution, or finding that out takes more units than there are
abbrev pub IsTurnRefused : PatternRefusal → (limit : ℕ) → TypePair → Type 0
IsTurnRefused PatternRefusal.Fails limit p = ((type_rule p.left p.right).verdict ≡ differ) × (suc (type_rule p.left p.right).units ≤ limit)
IsTurnRefused PatternRefusal.Deep limit p = limit < suc (type_rule p.left p.right).units
IsTurnRefused PatternRefusal.Memory limit p = Unit {0}

-- x was bound to the type, which does not have it
pub record IsBoundTo (old new : Contents) (before after : Round) (x : ℕ) (T : Ty) : Type 0 where
  pub absent : (visit x T).found ≡ false
  pub units : before.units ≡ (visit x T).units + after.units
  pub bound : after.is_bound ≡ true
  pub put : AreTypesPut (record { id = x; value = T } ∷ []) old new

-- the type has x, or finding out whether it has takes more units than there are
abbrev pub IsUnboundAs : PatternRefusal → (limit x : ℕ) → Ty → Type 0
IsUnboundAs PatternRefusal.Fails limit x T = ((visit x T).found ≡ true) × ((visit x T).units ≤ limit)
IsUnboundAs PatternRefusal.Deep limit x T = limit < (visit x T).units
IsUnboundAs PatternRefusal.Memory limit x T = Unit {0}

-- the cells of what is left read as what a turn leaves
abbrev pub IsLedOn : (old new : Contents) → (before after : Round) → (p : TypePair) → (ps : List TypePair) → (todo : List (CellId × CellId)) → Type 0
IsLedOn old new before after p ps todo = (qs : List TypePair) × ReadPairs new todo qs × IsTurn old new before after p ps qs
