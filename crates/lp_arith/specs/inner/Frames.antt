-- What stands around the part of an expression that is evaluated.
use Rattle.std.specs.Prelude.{◌≡◌, ℕ, suc, ◌+◌, List, [], ◌∷◌, true}
use Rattle.lp_calculus.specs.Types.{Ty}
use Rattle.lp_calculus.specs.Term.{Term, atom, app, constant, integer, text}
use Rattle.lp_calculus.specs.Convert.{Reduces}
use Rattle.lp_calculus.specs.Normal.{nodes}
use Rattle.std.specs.Prelude.{ℤ}
use Rattle.lp_standard.specs.Constants.{number}
use Rattle.lp_standard.specs.Connectives.{two}
use Rattle.lp_model.specs.declared.ending.Fault.TheVariants as fault
use Rattle.lp_model.specs.Values.{Value, Number, Bytes, Is, binary, unary, is_two_place, is_one_place}
use Rattle.lp_store.specs.Contents.{Contents}
use Rattle.lp_store.specs.Reading.{Reads}
use Rattle.lp_arith.specs.declared.expression.Expression.{Expression}
use Rattle.lp_arith.specs.declared.expression.Expression.TheVariants as expression
use Rattle.lp_arith.specs.declared.evaluation.Around.{Around}
use Rattle.lp_arith.specs.declared.evaluation.Around.TheVariants as around
use Rattle.lp_arith.specs.declared.evaluation.State.{State}
use Rattle.lp_arith.specs.declared.evaluation.State.TheVariants as state
use Rattle.lp_arith.specs.Meaning.{IsValueIn, HasFault}

-- a tree of integers, strings and operations alone, with its value
pub data Valued : Term → Value → Type 0 where
  of_number : (z : ℤ) → Valued (atom (integer z)) (Number z)
  of_text : (s : List ℕ) → Valued (atom (text s)) (Bytes s)
  of_two : (c : ℕ) (ts : List Ty) {a b : Term} {x y v : Value} → is_two_place c ≡ true → Valued a x → Valued b y → binary c x y ≡ Is v → Valued (two c ts a b) v
  of_one : (c : ℕ) (ts : List Ty) {a : Term} {x v : Value} → is_one_place c ≡ true → Valued a x → unary c x ≡ Is v → Valued (app (atom (constant c ts)) a) v

-- a part as it was looked at
abbrev pub IsExpression : Contents → Expression → Term → Type 0
IsExpression s (expression.Leaf v) x = (m : Value) × IsValueIn s v m × Valued x m × (nodes x ≡ 1)
IsExpression s (expression.One c a) x = (ts : List Ty) × (u : Term) × (x ≡ app (atom (constant (number c) ts)) u) × Reads s a.0 u × (is_one_place (number c) ≡ true)
IsExpression s (expression.Two c a b) x = (ts : List Ty) × (u : Term) × (w : Term) × (x ≡ two (number c) ts u w) × Reads s a.0 u × Reads s b.0 w × (is_two_place (number c) ≡ true)
IsExpression s expression.Other x = HasFault x fault.NotClosed

-- the frame around the first term makes the second, and has so many nodes of its own that were visited
abbrev pub Framed : Contents → Around → Term → Term → ℕ → Type 0
Framed s (around.One c) x w n = (ts : List Ty) × (w ≡ app (atom (constant (number c) ts)) x) × (is_one_place (number c) ≡ true) × (n ≡ 1)
Framed s (around.Left c r) x w n = (ts : List Ty) × (b : Term) × Reads s r.0 b × (w ≡ two (number c) ts x b) × (is_two_place (number c) ≡ true) × (n ≡ 1)
Framed s (around.Right c v) x w n = (ts : List Ty) × (a : Term) × (m : Value) × IsValueIn s v m × Valued a m × (w ≡ two (number c) ts a x) × (is_two_place (number c) ≡ true) × (n ≡ suc (nodes a))

-- all frames, the innermost first
abbrev pub Plugged : Contents → List Around → Term → Term → ℕ → Type 0
Plugged s [] x w n = (x ≡ w) × (n ≡ 0)
Plugged s (f ∷ fs) x w n = (y : Term) × (k : ℕ) × (j : ℕ) × Framed s f x y k × Plugged s fs y w j × (n ≡ k + j)

-- the part at work: as it is read, or a tree with its value and its nodes
abbrev pub StateOf : Contents → State → Term → ℕ → Type 0
StateOf s (state.Visit t) x n = Reads s t.0 x × (n ≡ 0)
StateOf s (state.Known v) x n = (m : Value) × IsValueIn s v m × Valued x m × (n ≡ nodes x)

-- the expression comes to the frames around the part, of which so many nodes were visited
pub record IsAt (s : Contents) (fs : List Around) (x : State) (n : ℕ) (t : Term) : Type 0 where
  pub part : Term
  pub whole : Term
  pub around : ℕ
  pub inside : ℕ
  pub plugged : Plugged s fs part whole around
  pub state : StateOf s x part inside
  pub counted : n ≡ around + inside
  pub reduces : Reduces t whole

-- how many turns a frame takes until it is gone, without those of its operands
abbrev pub weight : Around → ℕ
weight (around.One c) = 1
weight (around.Left c r) = 2
weight (around.Right c v) = 1

abbrev pub weights : List Around → ℕ
weights [] = 0
weights (f ∷ fs) = weight f + weights fs
