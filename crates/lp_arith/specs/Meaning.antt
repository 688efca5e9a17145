-- What evaluations come to, against the values of the definition.
use Rattle.std.specs.Prelude.{◌≡◌, ℕ, List, ℤ, Result, Ok, Err, ◌⊎◌}
use Rattle.lp_calculus.specs.Types.{Ty}
use Rattle.lp_calculus.specs.Term.{Term, atom, text}
use Rattle.lp_calculus.specs.Convert.{Reduces}
use Rattle.lp_calculus.specs.Normal.{IsBetaNormal, IsLarge}
use Rattle.lp_calculus.specs.Typing.{int_type, string_type}
use Rattle.lp_model.specs.declared.ending.Fault.{Fault}
use Rattle.lp_model.specs.declared.ending.Fault.TheVariants as fault
use Rattle.lp_model.specs.Values.{Number, Bytes, Outcome, Is, Faults, value}
use Rattle.lp_model.specs.Values as model
use Rattle.lp_store.specs.Contents.{Contents}
use Rattle.lp_store.specs.Reading.{Reads}
use Rattle.lp_arith.specs.declared.value.Value.{Value}
use Rattle.lp_arith.specs.declared.value.Value.TheVariants.{Int, Text}
use Rattle.lp_arith.specs.declared.value.ArithRefusal.{ArithRefusal}
use Rattle.lp_arith.specs.declared.value.ArithRefusal.TheVariants.{Overflow, ZeroDivisor, NotClosed, Deep, Memory}

-- a value of the heap is this one: a string is what its cell reads as
abbrev pub IsValueIn : Contents → Value → model.Value → Type 0
IsValueIn s (Int z) m = m ≡ Number z
IsValueIn s (Text t) m = (b : List ℕ) × (m ≡ Bytes b) × Reads s t.0 (atom (text b))

-- the refusal is the fault that the definition tells, or tells of want of memory
abbrev pub IsFault : ArithRefusal → Outcome → Type 0
IsFault Overflow o = o ≡ Faults fault.Overflow
IsFault ZeroDivisor o = o ≡ Faults fault.ZeroDivisor
IsFault NotClosed o = o ≡ Faults fault.NotClosed
IsFault Deep o = ⊥
IsFault Memory o = Unit {0}

-- an operation gives the number that the definition gives
abbrev pub GivesNumber : Result ℤ ArithRefusal → Outcome → Type 0
GivesNumber (Ok z) o = o ≡ Is (Number z)
GivesNumber (Err e) o = IsFault e o

-- an operation gives the value that the definition gives
abbrev pub GivesValue : Contents → Result Value ArithRefusal → Outcome → Type 0
GivesValue s (Ok v) o = (m : model.Value) × (o ≡ Is m) × IsValueIn s v m
GivesValue s (Err e) o = IsFault e o

-- the beta-normal form of the term, where it has one, has this fault and no value
abbrev pub HasFault : Term → Fault → Type 0
HasFault t f = (s : Term) → Reduces t s → IsBetaNormal s → value s ≡ Faults f

-- the types that values have
abbrev pub IsValueType : Ty → Type 0
IsValueType T = (T ≡ int_type) ⊎ (T ≡ string_type)

-- why an expression was given no value. `Deep`: leftmost reduction takes more contractions, or its end has more nodes, than a run may have
abbrev pub IsRefused : Term → ArithRefusal → Type 0
IsRefused t Overflow = HasFault t fault.Overflow
IsRefused t ZeroDivisor = HasFault t fault.ZeroDivisor
IsRefused t NotClosed = HasFault t fault.NotClosed
IsRefused t Deep = IsLarge t
IsRefused t Memory = Unit {0}
