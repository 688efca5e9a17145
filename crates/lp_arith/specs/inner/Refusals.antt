-- Where no look at an expression is had.
use Rattle.std.specs.Prelude.{IsSome}
use Rattle.lp_calculus.specs.Term.{Term}
use Rattle.lp_calculus.specs.Convert.{head_step, steps}
use Rattle.lp_term.specs.declared.reduce.TermRefusal.{TermRefusal}
use Rattle.lp_term.specs.declared.reduce.TermRefusal.TheVariants as term
use Rattle.lp_arith.specs.declared.value.ArithRefusal.{ArithRefusal}
use Rattle.lp_arith.specs.declared.value.ArithRefusal.TheVariants.{Overflow, ZeroDivisor, NotClosed, Deep, Memory}

abbrev pub refusal_of : TermRefusal → ArithRefusal
refusal_of (term.Deep n) = Deep
refusal_of term.Memory = Memory

-- leftmost head reduction takes more contractions than a run may make, or memory is wanted
abbrev pub IsUnseen : Term → ArithRefusal → Type 0
IsUnseen t Overflow = ⊥
IsUnseen t ZeroDivisor = ⊥
IsUnseen t NotClosed = ⊥
IsUnseen t Deep = IsSome (steps head_step 1000001 t)
IsUnseen t Memory = Unit {0}
