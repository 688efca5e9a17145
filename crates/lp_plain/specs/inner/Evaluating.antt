-- An evaluation on its way: what the tasks that are left make of the values that there are.
use Rattle.std.specs.Prelude.{◌≡◌, ℕ, zero, suc, ◌+◌, ◌-◌, ◌*◌, ◌<◌, ◌≤◌, Bool, true, false, List, [], ◌∷◌, ◌++◌, length, reverse, Option, Some, None}
use Rattle.lp_calculus.specs.Normal.{eta_normal, nodes}
use Rattle.lp_calculus.specs.Types.{Ty}
use Rattle.lp_calculus.specs.Term.{Term, atom, app, apply, constant, integer, text}
use Rattle.lp_standard.specs.Constants.{number}
use Rattle.lp_standard.specs.declared.constant.Constant.{Constant}
use Rattle.lp_standard.specs.declared.constant.Constant.TheVariants as fixed
use Rattle.lp_term.specs.Nodes.{Nodes, tree}
use Rattle.lp_term.specs.Spine.{IsNoApplication}
use Rattle.lp_term.specs.declared.node.TermId.{TermId}
use Rattle.lp_model.specs.Eigens.{beta_normal}
use Rattle.lp_model.specs.Pair.{Closing, closed}
use Rattle.lp_model.specs.Values as model
use Rattle.lp_model.specs.Values.{Faults, Is, binary, is_one_place, is_two_place, unary}
use Rattle.lp_model.specs.declared.ending.Fault.TheVariants.{NotClosed}
use Rattle.lp_pattern.specs.Turning.{IsOpenReading}
use Rattle.lp_plain.specs.declared.arithmetic.Expression.{Expression}
use Rattle.lp_plain.specs.declared.arithmetic.Expression.TheVariants as expression
use Rattle.lp_plain.specs.declared.arithmetic.Outcome.{Outcome}
use Rattle.lp_plain.specs.declared.arithmetic.Outcome.TheVariants as code
use Rattle.lp_plain.specs.declared.arithmetic.Step.{Step}
use Rattle.lp_plain.specs.declared.arithmetic.Step.TheVariants as step
use Rattle.lp_plain.specs.declared.arithmetic.Task.{Task}
use Rattle.lp_plain.specs.declared.arithmetic.Task.TheVariants as task
use Rattle.lp_plain.specs.declared.arithmetic.Value.{Value}
use Rattle.lp_plain.specs.declared.arithmetic.Value.TheVariants as kept
use Rattle.lp_plain.specs.declared.machine.Machine.{Machine}
use Rattle.lp_plain.specs.Evaluated.{EvaluatesTo, IsNoFunction, IsValueIn}
use Rattle.lp_plain.specs.HeadLooks.{OnlyBank}

-- what the code makes of an operation and its arguments, and of a literal

abbrev pub one_by : Constant → TermId → Expression
one_by fixed.Negate a = expression.One fixed.Negate a
one_by fixed.Size a = expression.One fixed.Size a
one_by _ a = expression.Other

abbrev pub two_by : Constant → (left right : TermId) → Expression
two_by fixed.Add a b = expression.Two fixed.Add a b
two_by fixed.Subtract a b = expression.Two fixed.Subtract a b
two_by fixed.Multiply a b = expression.Two fixed.Multiply a b
two_by fixed.Divide a b = expression.Two fixed.Divide a b
two_by fixed.Remainder a b = expression.Two fixed.Remainder a b
two_by fixed.Concatenate a b = expression.Two fixed.Concatenate a b
two_by _ a b = expression.Other

abbrev pub operation_by : Constant → List TermId → Expression
operation_by k [] = expression.Other
operation_by k (a ∷ []) = one_by k a
operation_by k (a ∷ b ∷ []) = two_by k a b
operation_by k (a ∷ b ∷ c ∷ more) = expression.Other

abbrev pub applied_by : Option Constant → List TermId → Expression
applied_by None ids = expression.Other
applied_by (Some k) ids = operation_by k ids

abbrev pub leaf_by : Value → List TermId → Expression
leaf_by v [] = expression.Leaf v
leaf_by v (a ∷ ids) = expression.Other

-- whether a head makes an expression with so many arguments
abbrev pub fits : Term → ℕ → Bool
fits (atom (integer z)) zero = true
fits (atom (text s)) zero = true
fits (atom (constant c ts)) (suc zero) = is_one_place c
fits (atom (constant c ts)) (suc (suc zero)) = is_two_place c
fits _ n = false

-- a head-normal term as an expression
abbrev pub IsExpression : Nodes → Expression → Term → Type 0
IsExpression b (expression.Leaf (kept.Number z)) t = t ≡ atom (integer z)
IsExpression b (expression.Leaf (kept.Text u)) t = (s : List ℕ) × (t ≡ atom (text s)) × (tree b u.0 ≡ t)
IsExpression b (expression.Two c l r) t = (ts : List Ty) × (t ≡ app (app (atom (constant (number c) ts)) (tree b l.0)) (tree b r.0)) × (is_two_place (number c) ≡ true)
IsExpression b (expression.One c a) t = (ts : List Ty) × (t ≡ app (atom (constant (number c) ts)) (tree b a.0)) × (is_one_place (number c) ≡ true)
IsExpression b expression.Other t = (h : Term) × (us : List Term) × (t ≡ apply h us) × IsNoApplication h × (fits h (length us) ≡ false)

-- its terms are among so many
abbrev pub StandsExpression : ℕ → Expression → Type 0
StandsExpression n (expression.Leaf (kept.Number z)) = Unit {0}
StandsExpression n (expression.Leaf (kept.Text u)) = u.0 < n
StandsExpression n (expression.Two c l r) = (l.0 < n) × (r.0 < n)
StandsExpression n (expression.One c a) = a.0 < n
StandsExpression n expression.Other = Unit {0}

-- what is left to do of an expression is on the stacks, or the evaluation ends
abbrev pub IsPut : Expression → Option Outcome → (tasks tasks' : List Task) → (values values' : List Value) → Type 0
IsPut (expression.Leaf v) o ts us vs ws = (o ≡ None) × (us ≡ ts) × (ws ≡ vs ++ v ∷ [])
IsPut (expression.Two c l r) o ts us vs ws = (o ≡ None) × (us ≡ ((ts ++ task.Two c ∷ []) ++ task.Visit r ∷ []) ++ task.Visit l ∷ []) × (ws ≡ vs)
IsPut (expression.One c a) o ts us vs ws = (o ≡ None) × (us ≡ (ts ++ task.One c ∷ []) ++ task.Visit a ∷ []) × (ws ≡ vs)
IsPut expression.Other o ts us vs ws = o ≡ Some (code.Faults NotClosed)

-- the value of an operation is on the stack, or the evaluation ends
abbrev pub IsKept : Outcome → Option Outcome → (values values' : List Value) → Type 0
IsKept (code.Is v) o vs ws = (o ≡ None) × (ws ≡ vs ++ v ∷ [])
IsKept (code.Faults f) o vs ws = o ≡ Some (code.Faults f)
IsKept code.Deep o vs ws = o ≡ Some code.Deep

-- values one by one
abbrev pub AreValuesIn : Nodes → List Value → List model.Value → Type 0
AreValuesIn b [] [] = Unit {0}
AreValuesIn b [] (m ∷ ms) = ⊥
AreValuesIn b (v ∷ vs) [] = ⊥
AreValuesIn b (v ∷ vs) (m ∷ ms) = IsValueIn b v m × AreValuesIn b vs ms

-- the tasks that are left, the next one first, come to this result from these values, the newest first, and have so many parts to look at, or fewer; each normal form takes fewer than n steps
abbrev pub Comes : Nodes → Closing → (n : ℕ) → List Task → List model.Value → (result : model.Outcome) → (parts : ℕ) → Type 0
Comes b z n [] ms r k = (m : model.Value) × (ms ≡ m ∷ []) × (r ≡ Is m)
Comes b z n (task.Visit t ∷ ts) ms r k =
    (s : Term) × (j : ℕ) × (t.0 < length b.terms) × (beta_normal n (closed z (tree b t.0)) ≡ Some s) × IsNoFunction s × (nodes s + j ≤ k) ×
    (elim (model.value (eta_normal s)) [ Is m ↦ Comes b z n ts (m ∷ ms) r j | Faults f ↦ r ≡ Faults f ])
Comes b z n (task.Two c ∷ ts) [] r k = ⊥
Comes b z n (task.Two c ∷ ts) (y ∷ []) r k = ⊥
Comes b z n (task.Two c ∷ ts) (y ∷ x ∷ ms) r k = elim (binary (number c) x y) [ Is m ↦ Comes b z n ts (m ∷ ms) r k | Faults f ↦ r ≡ Faults f ]
Comes b z n (task.One c ∷ ts) [] r k = ⊥
Comes b z n (task.One c ∷ ts) (x ∷ ms) r k = elim (unary (number c) x) [ Is m ↦ Comes b z n ts (m ∷ ms) r k | Faults f ↦ r ≡ Faults f ]

-- a look at a part is counted
abbrev pub cost_of : Task → ℕ
cost_of (task.Visit t) = 1
cost_of (task.Two c) = 0
cost_of (task.One c) = 0

-- at most a million are
abbrev pub IsCounted : Task → ℕ → Option ℕ → Type 0
IsCounted t n (Some k) = (k ≡ n + cost_of t) × (cost_of t ≤ 1000000 - n)
IsCounted t n None = (cost_of t ≡ 1) × (1000000 ≤ n)

-- the evaluation ends with this result
abbrev pub IsEnd : Outcome → model.Outcome → (n : ℕ) → Type 0
IsEnd (code.Is v) r n = ⊥
IsEnd (code.Faults f) r n = r ≡ Faults f
IsEnd code.Deep r n = n ≤ 1000000 → ⊥

-- a task was taken: the others go on from there, with so much less to look at, or the evaluation ends
abbrev pub After : Nodes → Closing → (n cost : ℕ) → Option Outcome → List Task → List Value → model.Outcome → (parts : ℕ) → Type 0
After b z n c None ts vs r k = (ms : List model.Value) × (j : ℕ) × AreValuesIn b vs ms × (c + j ≤ k) × Comes b z n ts ms r j
After b z n c (Some o) ts vs r k = IsEnd o r n

abbrev pub TakesTask : (old new : Machine) → Option Outcome → Task → (tasks tasks' : List Task) → (values values' : List Value) → Type 0
TakesTask m q o t ts us vs ws =
    (z : Closing) → IsOpenReading m.bank m.bindings m.branch.next z → (n : ℕ) (ms : List model.Value) (r : model.Outcome) (k : ℕ) → AreValuesIn m.bank
    (reverse vs) ms → Comes m.bank z n (t ∷ reverse ts) ms r k →
    After q.bank z n (cost_of t) o (reverse us) (reverse ws) r k

-- the evaluation is on its way: from the tasks and values that there are it comes to the value of the term's normal form
abbrev pub IsOnWay : (old new : Machine) → TermId → List Task → List Value → (visited : ℕ) → Type 0
IsOnWay m q t ts vs i =
    t.0 < length m.bank.terms → (z : Closing) → IsOpenReading m.bank m.bindings m.branch.next z → (n : ℕ) (s : Term) → beta_normal n (closed z (tree m.bank t.0)) ≡ Some s → IsNoFunction s →
    (ms : List model.Value) × (k : ℕ) × AreValuesIn q.bank (reverse vs) ms × (i + k ≤ nodes s) × Comes q.bank z n (reverse ts) ms (model.value (eta_normal s)) k

-- it goes on, or it ends with what it comes to
abbrev pub IsStepOn : Step → (old new : Machine) → TermId → List Task → List Value → Type 0
IsStepOn (step.On k) m q t ts vs = IsOnWay m q t ts vs k
IsStepOn (step.End o) m q t ts vs = t.0 < length m.bank.terms → (z : Closing) → IsOpenReading m.bank m.bindings m.branch.next z → EvaluatesTo q.bank o (closed z (tree m.bank t.0))

abbrev pub IsStep : Option Outcome → ℕ → Step → Type 0
IsStep None k s = s ≡ step.On k
IsStep (Some o) k s = s ≡ step.End o

-- so by a task that was the next one
abbrev pub GoesFrom : (old new : Machine) → Task → (tasks tasks' : List Task) → (values values' : List Value) → (visited : ℕ) → Step → Type 0
GoesFrom q r x ts us vs ws i s = (m : Machine) (t : TermId) (all : List Task) → all ≡ ts ++ x ∷ [] → OnlyBank m q → IsOnWay m q t all vs i → IsStepOn s m r t us ws

-- the value that was the last one
abbrev pub IsLast : List Value → Outcome → Type 0
IsLast vs o = (v : Value) × (us : List Value) × (vs ≡ us ++ v ∷ []) × (o ≡ code.Is v)

-- the tasks, the next one first, have the values that they need, and one is left behind them
abbrev pub Serves : List Task → ℕ → Type 0
Serves [] n = n ≡ 1
Serves (task.Visit t ∷ ts) n = Serves ts (n + 1)
Serves (task.Two c ∷ ts) n = (2 ≤ n) × Serves ts (n - 1)
Serves (task.One c ∷ ts) n = (1 ≤ n) × Serves ts n

-- what is left to do: three for each part that may be looked at, and one for each task
abbrev pub toil : (visited : ℕ) → List Task → ℕ
toil i ts = 3 * (1000000 - i) + length ts

-- a step that goes on leaves less to do, and the values that the tasks need
abbrev pub GoesServed : Step → (visited : ℕ) → (tasks tasks' : List Task) → List Value → Type 0
GoesServed (step.On k) i ts us ws = Serves (reverse us) (length ws) × (toil k us < toil i ts)
GoesServed (step.End o) i ts us ws = Unit {0}
