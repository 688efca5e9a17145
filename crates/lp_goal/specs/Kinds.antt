-- Goals that are known at run time only.
use Rattle.std.specs.Prelude.{◌≡◌, ℕ, ◌+◌, ◌<◌, ◌≤◌, List, [], ◌∷◌, length}
use Rattle.lp_base.specs.declared.compare.Compare.{Compare}
use Rattle.lp_base.specs.declared.compare.Compare.TheVariants.{Less, Greater, AtMost, AtLeast}
use Rattle.lp_calculus.specs.Types.{Ty}
use Rattle.lp_calculus.specs.Term.{Term, atom, constant, eigen, apply}
use Rattle.lp_calculus.specs.Spine.{head_of, arguments}
use Rattle.lp_standard.specs.Constants.{IsOrder}
use Rattle.lp_standard.specs.Connectives.{Connective, connective_of, body_of, two}
use Rattle.lp_standard.specs.Connectives as connective
use Rattle.lp_standard.specs.Numbers as number
use Rattle.lp_store.specs.Contents.{Contents}
use Rattle.lp_store.specs.Reading.{Reads, ReadAll, ReadTypes}
use Rattle.lp_store.specs.declared.cell.CellId.{CellId}
use Rattle.lp_store.specs.declared.cell.Span.{Span}
use Rattle.lp_impl.specs.declared.head.Head.{Head}
use Rattle.lp_impl.specs.declared.head.Head.TheVariants as head
use Rattle.lp_goal.specs.Spines.{numbers}
use Rattle.lp_goal.specs.declared.kind.GoalKind.{GoalKind}
use Rattle.lp_goal.specs.declared.kind.GoalKind.TheVariants as goal

abbrev pub IsCell : Contents → CellId → Type 0
IsCell s t = t.0 < length s.cells

abbrev pub IsList : Contents → Span → Type 0
IsList s l = l.from + l.count ≤ length s.items

-- the parts of the goal stand in the store
abbrev pub StandsKind : Contents → GoalKind → Type 0
StandsKind s goal.True = Unit {0}
StandsKind s (goal.And l r) = IsCell s l × IsCell s r
StandsKind s (goal.Or l r) = IsCell s l × IsCell s r
StandsKind s (goal.All t) = IsCell s t
StandsKind s (goal.Some t) = IsCell s t
StandsKind s (goal.Equal l r) = IsCell s l × IsCell s r
StandsKind s (goal.Is l r) = IsCell s l × IsCell s r
StandsKind s (goal.Order o l r) = IsCell s l × IsCell s r
StandsKind s (goal.Call h ts us) = IsList s ts × IsList s us
StandsKind s goal.Flexible = Unit {0}

-- the orders as constants
abbrev pub order_constant : Compare → ℕ
order_constant Less = number.Less
order_constant Greater = number.Greater
order_constant AtMost = number.AtMost
order_constant AtLeast = number.AtLeast

-- this constant on what the two cells read as
abbrev pub IsRelation : Contents → (constant : ℕ) → (left right : CellId) → Term → Type 0
IsRelation s c l r t = (ts : List Ty) × (a : Term) × (b : Term) × (t ≡ two c ts a b) × Reads s l.0 a × Reads s r.0 b

-- no connective that a positive goal has. `!`, `=>`, `:-` and `not` stand in none
abbrev pub IsNoConnective : Connective → Type 0
IsNoConnective connective.True = ⊥
IsNoConnective (connective.And a b) = ⊥
IsNoConnective (connective.Or a b) = ⊥
IsNoConnective (connective.ForAll T b) = ⊥
IsNoConnective (connective.Exists T b) = ⊥
IsNoConnective _ = Unit {0}

-- neither an equality nor an assignment nor a comparison
abbrev pub IsNoRelation : (head : Term) → (arguments : List Term) → Type 0
IsNoRelation (atom (constant c ts)) (a ∷ b ∷ []) = (c ≡ number.Equal → ⊥) × (c ≡ number.Is → ⊥) × (IsOrder c → ⊥)
IsNoRelation h us = Unit {0}

-- an atom that clauses may meet
abbrev pub IsCall : Term → Type 0
IsCall t = IsNoConnective (connective_of t) × IsNoRelation (head_of t) (arguments t)

-- neither a constant nor an eigenconstant
abbrev pub IsUnnamed : Term → Type 0
IsUnnamed (atom (constant c ts)) = ⊥
IsUnnamed (atom (eigen k)) = ⊥
IsUnnamed _ = Unit {0}

-- the constant with its types, or the eigenconstant
abbrev pub head_term : Head → List Ty → Term
head_term (head.Const c) ts = atom (constant c ts)
head_term (head.Eigen k) ts = atom (eigen k)

-- the kind says what the head-normal goal is
abbrev pub IsKind : Contents → GoalKind → Term → Type 0
IsKind s goal.True t = connective_of t ≡ connective.True
IsKind s (goal.And l r) t = (a : Term) × (b : Term) × (connective_of t ≡ connective.And a b) × Reads s l.0 a × Reads s r.0 b
IsKind s (goal.Or l r) t = (a : Term) × (b : Term) × (connective_of t ≡ connective.Or a b) × Reads s l.0 a × Reads s r.0 b
IsKind s (goal.All f) t = (T : Ty) × (a : Term) × (connective_of t ≡ connective.ForAll T (body_of a)) × Reads s f.0 a
IsKind s (goal.Some f) t = (T : Ty) × (a : Term) × (connective_of t ≡ connective.Exists T (body_of a)) × Reads s f.0 a
IsKind s (goal.Equal l r) t = IsRelation s number.Equal l r t
IsKind s (goal.Is l r) t = IsRelation s number.Is l r t
IsKind s (goal.Order o l r) t = IsRelation s (order_constant o) l r t
IsKind s (goal.Call h ts us) t =
    (Ts : List Ty) × (xs : List Term) × (t ≡ apply (head_term h Ts) xs) × ReadTypes s (numbers s ts) Ts × ReadAll s (numbers s us) xs × IsCall t
IsKind s goal.Flexible t = IsUnnamed (head_of t)
