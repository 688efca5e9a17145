-- What earlier records hand to those that they assume: as it is kept, by the number under which the record was named, and in the definition.
use Rattle.std.specs.Prelude.{◌≡◌, ◌<◌, ◌-◌, ◌^◌, ℕ, true, if◌then◌else◌, List, [], ◌∷◌, ◌++◌, map, filter_map, length, Option, Some, None, slice_get, option_and_then}
use Rattle.std.specs.Ordering.{nat_cmp}
use Rattle.std.specs.BTreeMap.{BTreeMap, get}
use Rattle.lp_term.specs.declared.node.TypeId.{TypeId}
use Rattle.lp_calculus.specs.Types.{Ty}
use Rattle.lp_calculus.specs.Term.{Term, atom, logic}
use Rattle.lp_code.specs.declared.instruction.Instr.{Instr}
use Rattle.lp_code.specs.declared.instruction.Instr.TheVariants as on
use Rattle.lp_code.specs.declared.record.Record.{Record}
use Rattle.lp_code.specs.Rules.{is_assumed_record}
use Rattle.lp_code.specs.Symbolic.{Built, held}
use Rattle.lp_code.specs.States.{Captured, State, member}
use Rattle.lp_code.specs.Steps.{captured_by, handed}
use Rattle.lp_code.specs.Denote.{captured_of}
use Rattle.lp_verify.specs.declared.record.Captured as kept_captured
use Rattle.lp_verify.specs.declared.built.Built as kept_built
use Rattle.lp_verify.specs.declared.built.Head.{Head}
use Rattle.lp_verify.specs.declared.built.Head.TheVariants as head
use Rattle.lp_verify.specs.declared.registers.Registers.{Registers}
use Rattle.lp_verify.specs.Held.{value_in}
use Rattle.lp_verify.specs.Named.{was_named}
use Rattle.lp_verify.specs.declared.loose.Loose.{Loose}
use Rattle.lp_verify.specs.inner.Stack.{Agree}
use Rattle.lp_verify.specs.inner.FirstNumbers.{IsType}
use Rattle.lp_verify.specs.inner.Indices.{Store, StandFor}

-- what is kept agrees with what stands there: types, and of a term its type, its loose indices and the variable that it is
abbrev pub SameType : Store → TypeId → Ty → Type 0
SameType l t T = IsType l.types t T

-- the variable that a term is, by the register in which it was made and the number of its record
abbrev pub variable_of : Term → Option (ℕ × ℕ)
variable_of (atom (logic r k)) = Some (r, k)
variable_of t = None

abbrev pub variable_in : Head → Option (ℕ × ℕ)
variable_in (head.Variable r k) = Some (r, k)
variable_in head.Other = None

abbrev pub SameTerm : Store → kept_built.Built → Built → Type 0
SameTerm l t b = StandFor l t.loose b.loose × IsType l.types t.of b.type × (variable_in t.head ≡ variable_of b.term)

-- registers hold what agrees
abbrev pub IsSame : {T B : Type 0} → (T → B → Type 0) → Registers T → List (Option B) → Type 0
IsSame R rs xs = (r : ℕ) → Agree R (value_in rs r) (held xs r)

-- a term of this type without loose indices
abbrev pub no_loose : Loose
no_loose = record { list = 2 ^ 64 - 1; from = 0; lowered = 0 }

abbrev pub bare_built : TypeId → Head → kept_built.Built
bare_built T h = record { of = T; loose = no_loose; head = h }

abbrev pub closed_built : TypeId → kept_built.Built
closed_built T = bare_built T head.Other

-- what the record of a number starts with, as it is kept
abbrev pub captured_in : List kept_captured.Captured → BTreeMap ℕ ℕ → ℕ → Option kept_captured.Captured
captured_in hs m n = option_and_then (slice_get hs) (get nat_cmp m n)

abbrev pub types_captured : Option kept_captured.Captured → List TypeId
types_captured None = []
types_captured (Some k) = k.types.items

abbrev pub terms_captured : Option kept_captured.Captured → List kept_built.Built
terms_captured None = []
terms_captured (Some k) = k.terms.items

-- these were named, by this place
abbrev pub IsNamed : (names : List ℕ) → (place : ℕ) → (old new : BTreeMap ℕ ℕ) → Type 0
IsNamed ns p old new = (n : ℕ) → get nat_cmp new n ≡ (if member n ns then Some p else get nat_cmp old n)

-- the same of all but those that are left
abbrev pub IsNamedSoFar : (names left : List ℕ) → (place : ℕ) → (old new : BTreeMap ℕ ℕ) → Type 0
IsNamedSoFar ns left p old new = (n : ℕ) → (if member n left then Some p else get nat_cmp new n) ≡ (if member n ns then Some p else get nat_cmp old n)

-- an ASSUME: the records that it names, and what it hands to them
pub record Assumption : Type 0 where
  pub names : List ℕ
  pub types : List ℕ
  pub terms : List ℕ

abbrev pub assumption_of : Instr → Option Assumption
assumption_of (on.Assume ns ts rs) = Some (record { names = ns.items; types = ts.items; terms = rs.items })
assumption_of i = None

-- what stands in these registers was handed on
abbrev pub IsHanded : (types terms : List ℕ) → Registers TypeId → Registers kept_built.Built → (old new : List kept_captured.Captured) → Type 0
IsHanded ts rs t r old new = (k : kept_captured.Captured) × (new ≡ old ++ k ∷ []) × (k.types.items ≡ filter_map (value_in t) ts) × (k.terms.items ≡ filter_map (value_in r) rs)

abbrev pub IsHandedOn : Option Assumption → Registers TypeId → Registers kept_built.Built → (old new : List kept_captured.Captured) → Type 0
IsHandedOn None t r old new = new ≡ old
IsHandedOn (Some a) t r old new = IsHanded a.types a.terms t r old new

-- the same in the definition
abbrev pub handed_on : State → Option Assumption → List (ℕ × Captured)
handed_on s None = []
handed_on s (Some a) = handed a.names (captured_by s a.types a.terms)

-- values agree place by place
abbrev pub Alike : {T B : Type 0} → (T → B → Type 0) → List T → List B → Type 0
Alike R ts bs = (r : ℕ) → Agree R (slice_get ts r) (slice_get bs r)

-- what is kept for each record is what the definition hands to it: it was named, is an assumed record that starts with as many, and its lists are short
pub record AreHanded (l : Store) (all : List Record) (hs : List kept_captured.Captured) (m : BTreeMap ℕ ℕ) (handed : List (ℕ × Captured)) : Type 0 where
  pub types_alike : (n : ℕ) → Alike (SameType l) (types_captured (captured_in hs m n)) (captured_of handed n).types
  pub terms_alike : (n : ℕ) → Alike (SameTerm l) (terms_captured (captured_in hs m n)) (captured_of handed n).terms
  pub are_named : (n : ℕ) → was_named m n ≡ member n (map (λ (a : ℕ × Captured). a.0) handed)
  pub are_kept : (n p : ℕ) → get nat_cmp m n ≡ Some p → p < length hs
  pub are_assumed : (n : ℕ) (k : kept_captured.Captured) → captured_in hs m n ≡ Some k → is_assumed_record (slice_get all n) (length k.types.items) (length k.terms.items) ≡ true
  pub are_few : (n : ℕ) (k : kept_captured.Captured) → captured_in hs m n ≡ Some k → (length k.types.items < 2 ^ 16) × (length k.terms.items < 2 ^ 16)
