-- What an evaluation comes to, against the values of the definition.
use Rattle.std.specs.Prelude.{◌≡◌, ℕ, ◌<◌, ◌≤◌, ℤ, true, List, length, Result, Ok, Err, Some}
use Rattle.lp_calculus.specs.Normal.{eta_normal, nodes}
use Rattle.lp_calculus.specs.Term.{Term, index, atom, abs, app, constant, integer, text, eigen, logic, param}
use Rattle.lp_term.specs.Nodes.{Nodes, tree}
use Rattle.lp_model.specs.Eigens.{beta_normal}
use Rattle.lp_model.specs.Values as model
use Rattle.lp_model.specs.Values.{Bytes, Faults, Is, Number, is_one_place, is_two_place}
use Rattle.lp_model.specs.declared.ending.Fault.{Fault}
use Rattle.lp_model.specs.declared.ending.Fault.TheVariants.{NotClosed}
use Rattle.lp_plain.specs.declared.arithmetic.Outcome.{Outcome}
use Rattle.lp_plain.specs.declared.arithmetic.Outcome.TheVariants as code
use Rattle.lp_plain.specs.declared.arithmetic.Value.{Value}
use Rattle.lp_plain.specs.declared.arithmetic.Value.TheVariants as kept

-- a value of the search is this one: a text is the term that it is known by
abbrev pub IsValueIn : Nodes → Value → model.Value → Type 0
IsValueIn b (kept.Number z) m = m ≡ Number z
IsValueIn b (kept.Text t) m = (s : List ℕ) × (m ≡ Bytes s) × (tree b t.0 ≡ atom (text s)) × (t.0 < length b.terms)

-- an operation gives the number that the definition gives, or its fault
abbrev pub GivesNumber : Result ℤ Fault → model.Outcome → Type 0
GivesNumber (Ok z) o = o ≡ Is (Number z)
GivesNumber (Err f) o = o ≡ Faults f

-- an operation gives the value that the definition gives, or its fault
abbrev pub GivesValue : Nodes → Outcome → model.Outcome → Type 0
GivesValue b (code.Is v) o = (m : model.Value) × (o ≡ Is m) × IsValueIn b v m
GivesValue b (code.Faults f) o = o ≡ Faults f
GivesValue b code.Deep o = ⊥

-- an abstraction that stands where a value is looked for is no function in another form that would have one. (Of a well-typed term none is)
abbrev pub IsNoFunction : Term → Type 0
IsNoFunction (index i) = Unit {0}
IsNoFunction (atom a) = Unit {0}
IsNoFunction (abs b) = model.value (eta_normal (abs b)) ≡ Faults NotClosed
IsNoFunction (app (index i) u) = Unit {0}
IsNoFunction (app (abs b) u) = Unit {0}
IsNoFunction (app (atom (constant c ts)) u) = is_one_place c ≡ true → IsNoFunction u
IsNoFunction (app (atom (integer z)) u) = Unit {0}
IsNoFunction (app (atom (text s)) u) = Unit {0}
IsNoFunction (app (atom (eigen k)) u) = Unit {0}
IsNoFunction (app (atom (logic x l)) u) = Unit {0}
IsNoFunction (app (atom (param k T)) u) = Unit {0}
IsNoFunction (app (app (index i) v) u) = Unit {0}
IsNoFunction (app (app (abs b) v) u) = Unit {0}
IsNoFunction (app (app (app t w) v) u) = Unit {0}
IsNoFunction (app (app (atom (constant c ts)) v) u) = is_two_place c ≡ true → IsNoFunction v × IsNoFunction u
IsNoFunction (app (app (atom (integer z)) v) u) = Unit {0}
IsNoFunction (app (app (atom (text s)) v) u) = Unit {0}
IsNoFunction (app (app (atom (eigen k)) v) u) = Unit {0}
IsNoFunction (app (app (atom (logic x l)) v) u) = Unit {0}
IsNoFunction (app (app (atom (param k T)) v) u) = Unit {0}

-- the evaluation of a term comes to the value of its normal form, or to its fault. It is too deep only where that takes more than a million steps, or the form has more than a million nodes
abbrev pub EvaluatesTo : Nodes → Outcome → Term → Type 0
EvaluatesTo b (code.Is v) t = (n : ℕ) (s : Term) → beta_normal n t ≡ Some s → IsNoFunction s → (m : model.Value) × (model.value (eta_normal s) ≡ Is m) × IsValueIn b v m
EvaluatesTo b (code.Faults f) t = (n : ℕ) (s : Term) → beta_normal n t ≡ Some s → IsNoFunction s → model.value (eta_normal s) ≡ Faults f
EvaluatesTo b code.Deep t = (n : ℕ) (s : Term) → beta_normal n t ≡ Some s → IsNoFunction s → n ≤ 1000000 → nodes s ≤ 1000000 → ⊥

-- no abstraction in the normal form has a value
abbrev pub IsEvaluable : Term → Type 0
IsEvaluable t = (n : ℕ) (s : Term) → beta_normal n t ≡ Some s → IsNoFunction s
