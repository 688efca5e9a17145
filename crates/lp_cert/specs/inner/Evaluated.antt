-- What is left of an expression that is evaluated, and what it comes to.
use Rattle.std.specs.Prelude.{◌≡◌, ℕ, ℤ, List, [], ◌∷◌, ◌++◌, Option, Some, None, slice_range}
use Rattle.lp_calculus.specs.Term.{Term, index, atom, abs, app}
use Rattle.lp_term.specs.Nodes.{Nodes, tree}
use Rattle.lp_model.specs.declared.ending.Fault.{Fault}
use Rattle.lp_model.specs.Values.{Value, Number, Bytes, Outcome, Is, Faults, value, both, single}
use Rattle.lp_cert.specs.declared.value.Span.{Span}
use Rattle.lp_cert.specs.declared.value.Value as code
use Rattle.lp_cert.specs.declared.value.Value.TheVariants as code_of
use Rattle.lp_cert.specs.declared.value.State.{State}
use Rattle.lp_cert.specs.declared.value.State.TheVariants as state
use Rattle.lp_cert.specs.declared.value.Around.{Around}
use Rattle.lp_cert.specs.declared.value.Around.TheVariants as around

-- the string at a span of the texts
abbrev pub text_in : List ℕ → Span → List ℕ
text_in bs s = slice_range bs s.from s.to

abbrev pub value_in : List ℕ → code.Value → Value
value_in bs (code_of.Number z) = Number z
value_in bs (code_of.Text s) = Bytes (text_in bs s)

-- these bytes, and maybe more behind them
abbrev pub Begins : List ℕ → List ℕ → Type 0
Begins bs end = (more : List ℕ) × (end ≡ bs ++ more)

-- a number that may not be there
abbrev pub state_from : Option ℤ → State
state_from None = state.None
state_from (Some z) = state.Known (code_of.Number z)

-- there is no value
abbrev pub HasNone : Outcome → Type 0
HasNone o = (f : Fault) × (o ≡ Faults f)

abbrev pub IsApplication : Term → Type 0
IsApplication (index i) = ⊥
IsApplication (atom a) = ⊥
IsApplication (abs b) = ⊥
IsApplication (app t u) = Unit {0}

-- the value is the outcome, or there is none
abbrev pub Gives : List ℕ → State → Outcome → Type 0
Gives end (state.Visit t) o = ⊥
Gives end (state.Known v) o = o ≡ Is (value_in end v)
Gives end state.None o = HasNone o

-- what the outcome of the part at work leads to, with what stands around it, the innermost first
abbrev pub within : Nodes → List ℕ → List Around → Outcome → Outcome
within b end [] o = o
within b end (around.One c ∷ fs) o = within b end fs (single c o)
within b end (around.Left c t ∷ fs) o = within b end fs (both c o (value (tree b t.0)))
within b end (around.Right c v ∷ fs) o = within b end fs (both c (Is (value_in end v)) o)

-- the part at work leads to the outcome, or there is none
abbrev pub Leads : Nodes → List ℕ → State → List Around → Outcome → Type 0
Leads b end (state.Visit t) fs o = o ≡ within b end fs (value (tree b t.0))
Leads b end (state.Known v) fs o = o ≡ within b end fs (Is (value_in end v))
Leads b end state.None fs o = HasNone o
