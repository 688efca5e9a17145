-- What an instruction puts into the register that it sets.
use Rattle.std.specs.Prelude.{◌≡◌, Bool, true, false, List, [], Option, None, Some, unwrap_or}
use Rattle.lp_calculus.specs.Types.{Ty, con, arrow, tys}
use Rattle.lp_calculus.specs.Term.{index, atom, integer, text}
use Rattle.lp_calculus.specs.Typing.{o_type, int_type, string_type}
use Rattle.lp_code.specs.declared.instruction.Instr.{Instr}
use Rattle.lp_code.specs.declared.instruction.Instr.TheVariants as on
use Rattle.lp_code.specs.Rules.{breaks_type}
use Rattle.lp_code.specs.Symbolic.{Built, variable, type_in, types_in, term_in, terms_in, whole, bound_index, abstraction_of, application_of, all_agree, all_joined}
use Rattle.lp_code.specs.States.{State, Home}
use Rattle.lp_code.specs.Steps.{own_type, constant_of, argument_at}
use Rattle.lp_verify.specs.declared.built.Built as kept_built
use Rattle.lp_term.specs.declared.node.TypeId.{TypeId}
use Rattle.lp_verify.specs.declared.loose.Loose.{Loose}
use Rattle.lp_verify.specs.declared.registers.Registers as kept_registers
use Rattle.lp_verify.specs.declared.record.Work.{Work}
use Rattle.lp_verify.specs.declared.typing.Typed.{Typed}
use Rattle.lp_verify.specs.declared.typing.Typed.TheVariants as typed
use Rattle.lp_verify.specs.Held.{value_in, is_lacking}
use Rattle.lp_verify.specs.inner.FirstNumbers.{UsesAre}
use Rattle.lp_verify.specs.inner.Indices.{Store, StandFor}
use Rattle.lp_verify.specs.inner.Handed.{variable_of, SameTerm}
use Rattle.lp_verify.specs.inner.Known.{Knows}
use Rattle.lp_verify.specs.inner.Reads.{reads_unset}

abbrev pub type_made : Home → State → Instr → Ty
type_made h s (on.TyCon d k ts) = con k (tys (types_in s.now ts.items))
type_made h s (on.TyArr d a b) = arrow (type_in s.now a) (type_in s.now b)
type_made h s (on.TyNew d) = own_type h.self d
type_made h s i = o_type

-- the type that an instruction takes for the head
abbrev pub type_taken : Instr → kept_registers.Registers TypeId → TypeId → TypeId
type_taken (on.GetType j t) rs other = unwrap_or (value_in rs t) other
type_taken i rs other = other

-- what comes of terms that are joined with another one: nothing where an index has two types
abbrev pub AreAllJoined : Store → List (Option Ty) → List Built → Option Loose → Type 0
AreAllJoined m ts bs None = all_agree ts bs ≡ false
AreAllJoined m ts bs (Some x) = (all_agree ts bs ≡ true) × StandFor m x (all_joined ts bs)

-- an instruction that sets no register puts none of it anywhere
abbrev pub nothing_built : Built
nothing_built = record { term = index 0; type = o_type; loose = [] }

abbrev pub term_made : Home → State → Instr → Built
term_made h s (on.New d t) = whole (variable d h.number) (type_in s.now t)
term_made h s (on.PutConst d c ts) = constant_of h.tables c (types_in s.now ts.items)
term_made h s (on.PutInt d z) = whole (atom (integer z)) int_type
term_made h s (on.PutStr d b) = whole (atom (text b.items)) string_type
term_made h s (on.PutIndex d i t) = bound_index i (type_in s.now t)
term_made h s (on.PutAbs d b t) = abstraction_of (term_in s.now b) (type_in s.now t)
term_made h s (on.PutApp d f rs) = application_of (term_in s.now f) (terms_in s.now rs.items)
term_made h s (on.GetVar i d) = whole (variable d h.number) (argument_at h s i)
term_made h s (on.Sigma d t) = whole (variable d h.number) (type_in s.now t)
term_made h s (on.All d t) = whole (variable d h.number) (type_in s.now t)
term_made h s i = nothing_built

abbrev pub is_ill : Typed → Bool
is_ill typed.Ill = true
is_ill t = false

-- what comes of an instruction's types is this term, as far as it is looked at, where the rule on types is not broken
abbrev pub MakesTerm : Store → (broken : Bool) → Built → Typed → Type 0
MakesTerm l true b t = is_ill t ≡ true
MakesTerm l false b typed.Ill = ⊥
MakesTerm l false b typed.Fine = (b.loose ≡ []) × (b.type ≡ o_type) × (variable_of b.term ≡ None)
MakesTerm l false b (typed.Built t) = SameTerm l t b

-- the term that an instruction makes, where what it reads was set
abbrev pub IsMadeBy : (old new : Store) → Work → Instr → Typed → Type 0
IsMadeBy l m w i t = (h : Home) (s : State) → Knows l w h s → reads_unset (is_lacking w.types) (is_lacking w.terms) i ≡ false → UsesAre h.tables m.types × MakesTerm m (breaks_type h s i) (term_made h s i) t

-- goals, and arguments of the head, whose types are judged
abbrev pub is_goal_typed : Instr → Bool
is_goal_typed (on.Call c ts rs) = true
is_goal_typed (on.CallTerm r) = true
is_goal_typed (on.Equal t l r) = true
is_goal_typed (on.Is t l r) = true
is_goal_typed (on.Less l r) = true
is_goal_typed (on.Greater l r) = true
is_goal_typed (on.AtMost l r) = true
is_goal_typed (on.AtLeast l r) = true
is_goal_typed i = false

abbrev pub is_argument_typed : Instr → Bool
is_argument_typed (on.GetVar i d) = true
is_argument_typed (on.Get i r) = true
is_argument_typed (on.GetConst i c ts) = true
is_argument_typed (on.GetInt i z) = true
is_argument_typed (on.GetStr i b) = true
is_argument_typed i = false

-- the same where the types are not ill
abbrev pub IsJudged : (old new : Store) → Work → Instr → Typed → Type 0
IsJudged l m w i t = (is_ill t ≡ false) × IsMadeBy l m w i t

-- the same of what is put into the register
abbrev pub IsPutBy : (old new : Store) → Work → Instr → kept_built.Built → Type 0
IsPutBy l m w i t = (h : Home) (s : State) → Knows l w h s → reads_unset (is_lacking w.types) (is_lacking w.terms) i ≡ false → SameTerm m t (term_made h s i)

abbrev pub built_or : Typed → kept_built.Built → kept_built.Built
built_or (typed.Built t) other = t
built_or typed.Ill other = other
built_or typed.Fine other = other
