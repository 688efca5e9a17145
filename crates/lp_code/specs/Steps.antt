-- What each instruction does to a record at work, where no rule is broken.
use Rattle.std.specs.Prelude.{ℕ, ◌+◌, nat_eq, Bool, true, false, if◌then◌else◌, List, [], ◌∷◌, ◌++◌, map, length, Option, Some, None, option_map, option_and_then, unwrap_or}
use Rattle.lp_calculus.specs.Types.{Ty, var, con, arrow, tys}
use Rattle.lp_calculus.specs.Term.{Term, atom, apply, constant, integer, text}
use Rattle.lp_calculus.specs.Typing.{o_type, int_type, string_type, scheme_type}
use Rattle.lp_model.specs.Flat.{Goals, Clause, Clauses, Atomic, Either, Forall, no_goals, no_clauses, clauses}
use Rattle.lp_model.specs.Flat as flat
use Rattle.lp_code.specs.declared.instruction.Instr.{Instr}
use Rattle.lp_code.specs.declared.instruction.Instr.TheVariants as on
use Rattle.lp_code.specs.declared.record.Record.{Record}
use Rattle.lp_code.specs.declared.record.RecordHead.{RecordHead}
use Rattle.lp_code.specs.declared.record.RecordHead.TheVariants.{Const, Register}
use Rattle.lp_code.specs.Length.{length_of}
use Rattle.lp_code.specs.Written.{nothing_written}
use Rattle.lp_code.specs.Operands.{type_set, term_set, own_set}
use Rattle.lp_code.specs.Symbolic.{Tables, Built, Registers, variable, type_in, types_in, term_in, terms_in, set_type, set_term, whole, plain_terms, argument_type, bound_index, abstraction_of, application_of}
use Rattle.lp_code.specs.States.{Block, under_sigma, under_all, under_assumption, under_not, left_side, right_side, Frame, Captured, State, Home, member, passing, bind_goals, with_goal, Ended, end_variables, innermost_block, depth}

-- what the later records denote, by number and what they start with
abbrev pub Later : Type 0
Later = ℕ → Captured → Option Clause

-- the type of a constant with types for its type variables; an unknown one is read by no code that denotes anything
abbrev pub constant_type : Tables → ℕ → List Ty → Ty
constant_type t c ts = unwrap_or (scheme_type ts (t.constants c)) o_type

abbrev pub constant_of : Tables → ℕ → List Ty → Built
constant_of t c ts = whole (atom (constant c ts)) (constant_type t c ts)

-- the type variables and the variables that the record makes itself, ascending by register
abbrev pub is_made : (Instr → List ℕ) → List Instr → ℕ → Bool
is_made sets [] r = false
is_made sets (i ∷ is) r = if member r (sets i) then true else is_made sets is r

abbrev pub is_own_type : Record → ℕ → Bool
is_own_type r t = is_made new_type r.code.items t
  where
    new_type : Instr → List ℕ
    new_type (on.TyNew d) = d ∷ []
    new_type i = []

abbrev pub own_types : Record → List ℕ
own_types r = passing r.types (is_own_type r)

abbrev pub own_variables : Record → List ℕ
own_variables r = passing r.registers (is_made own_set r.code.items)

-- of the type variables that a record makes itself, those in registers below one come first
abbrev pub own_type : Record → ℕ → Ty
own_type r d = var (length (passing d (is_own_type r)))

-- the head's predicate on the type arguments so far
abbrev pub built_of : Home → State → Option RecordHead → Built
built_of h s None = whole (atom (constant 6 [])) o_type
built_of h s (Some (Const c)) = constant_of h.tables c s.head_types
built_of h s (Some (Register r)) = term_in s.now r

abbrev pub head_built : Home → State → Built
head_built h s = built_of h s h.self.head

abbrev pub argument_at : Home → State → ℕ → Ty
argument_at h s i = unwrap_or (argument_type (head_built h s).type i) o_type

-- parts of a state

abbrev pub with_registers : State → Registers → State
with_registers s r = record s { now = r }

abbrev pub with_argument : State → Built → State
with_argument s b = record s { head_arguments = s.head_arguments ++ b ∷ [] }

abbrev pub with_atom : State → Term → State
with_atom s t = record s { goals = with_goal s.goals (Atomic t) }

abbrev pub put_type : State → ℕ → Ty → State
put_type s d T = with_registers s (set_type s.now d T)

abbrev pub put_term : State → ℕ → Built → State
put_term s d b = with_registers s (set_term s.now d b)

abbrev pub opens : State → Block → State
opens s b = record s { goals = no_goals; frames = record { block = b; from = s.place; before = s.goals; registers = s.now } ∷ s.frames }

-- the block that ends, with its goals, leaves this behind the goals before it; what it set is unset
abbrev pub ends_with : State → Frame → List Frame → (Goals → flat.Goal) → Goals → State
ends_with s f fs goal gs = record s { now = f.registers; goals = with_goal f.before (goal gs); frames = fs }

-- what the goals of a block become at its end, where an instruction ends it; what is written in them is told of the whole clause
abbrev pub goal_of_block : (home : ℕ) → Block → Goals → Option flat.Goal
goal_of_block home (under_all r T) gs = Some (Forall T (bind_goals (r ∷ []) home gs))
goal_of_block home (under_assumption cs) gs = Some (flat.Assume nothing_written cs gs)
goal_of_block home under_not gs = Some (flat.Not nothing_written gs)
goal_of_block home (right_side n left) gs = Some (Either left gs)
goal_of_block home (left_side n) gs = None
goal_of_block home (under_sigma r T) gs = None

abbrev pub leave_block : State → Frame → List Frame → Option flat.Goal → State
leave_block s f fs None = s
leave_block s f fs (Some g) = record s { now = f.registers; goals = with_goal f.before g; frames = fs }

abbrev pub leave_from : (home : ℕ) → State → Goals → List Frame → State
leave_from home s gs [] = s
leave_from home s gs (f ∷ fs) = leave_block s f fs (goal_of_block home f.block gs)

abbrev pub leave : (home : ℕ) → State → State
leave home s = leave_from home s (end_variables home s.goals s.frames).goals (end_variables home s.goals s.frames).frames

-- a left side gives way to its right side, which has n bytes
abbrev pub turn_from : State → (n : ℕ) → Goals → List Frame → State
turn_from s n gs [] = s
turn_from s n gs (f ∷ fs) = record s { now = f.registers; goals = no_goals; frames = record { block = right_side (s.place + 5 + n) gs; from = s.place; before = f.before; registers = f.registers } ∷ fs }

abbrev pub turn : (home : ℕ) → State → (n : ℕ) → State
turn home s n = turn_from s n (end_variables home s.goals s.frames).goals (end_variables home s.goals s.frames).frames

-- the clauses of records, in order, if each denotes one
abbrev pub clauses_of_records : Later → List ℕ → Captured → Option Clauses
clauses_of_records later [] c = Some no_clauses
clauses_of_records later (n ∷ ns) c = option_and_then (λ d. option_map (clauses d) (clauses_of_records later ns c)) (later n c)

abbrev pub captured_by : State → (types registers : List ℕ) → Captured
captured_by s ts rs = record { types = types_in s.now ts; terms = terms_in s.now rs }

abbrev pub handed : List ℕ → Captured → List (ℕ × Captured)
handed ns c = map (λ n. (n, c)) ns

-- two sides of one type, under the constant of an equation
abbrev pub sides : ℕ → State → (type left right : ℕ) → Term
sides c s t l r = apply (atom (constant c (type_in s.now t ∷ []))) ((term_in s.now l).term ∷ (term_in s.now r).term ∷ [])

abbrev pub order : ℕ → State → (left right : ℕ) → Term
order c s l r = apply (atom (constant c [])) ((term_in s.now l).term ∷ (term_in s.now r).term ∷ [])

-- what the instruction does; None where a record that it assumes denotes nothing
abbrev pub effect : Home → Later → State → Instr → Option State
effect h later s (on.TyCon d k ts) = Some (put_type s d (con k (tys (types_in s.now ts.items))))
effect h later s (on.TyArr d a b) = Some (put_type s d (arrow (type_in s.now a) (type_in s.now b)))
effect h later s (on.TyNew d) = Some (put_type s d (own_type h.self d))
effect h later s (on.New d t) = Some (put_term s d (whole (variable d h.number) (type_in s.now t)))
effect h later s (on.PutConst d c ts) = Some (put_term s d (constant_of h.tables c (types_in s.now ts.items)))
effect h later s (on.PutInt d z) = Some (put_term s d (whole (atom (integer z)) int_type))
effect h later s (on.PutStr d b) = Some (put_term s d (whole (atom (text b.items)) string_type))
effect h later s (on.PutIndex d i t) = Some (put_term s d (bound_index i (type_in s.now t)))
effect h later s (on.PutAbs d b t) = Some (put_term s d (abstraction_of (term_in s.now b) (type_in s.now t)))
effect h later s (on.PutApp d f rs) = Some (put_term s d (application_of (term_in s.now f) (terms_in s.now rs.items)))
effect h later s (on.GetType j t) = Some (record s { head_types = s.head_types ++ type_in s.now t ∷ [] })
effect h later s (on.GetVar i d) = Some (with_argument (put_term s d (whole (variable d h.number) (argument_at h s i))) (whole (variable d h.number) (argument_at h s i)))
effect h later s (on.Get i r) = Some (with_argument s (term_in s.now r))
effect h later s (on.GetConst i c ts) = Some (with_argument s (constant_of h.tables c (types_in s.now ts.items)))
effect h later s (on.GetInt i z) = Some (with_argument s (whole (atom (integer z)) int_type))
effect h later s (on.GetStr i b) = Some (with_argument s (whole (atom (text b.items)) string_type))
effect h later s on.Neck = Some (record s { in_body = true })
effect h later s (on.Call c ts rs) = Some (with_atom s (apply (atom (constant c (types_in s.now ts.items))) (plain_terms (terms_in s.now rs.items))))
effect h later s (on.CallTerm r) = Some (with_atom s (term_in s.now r).term)
effect h later s (on.Equal t l r) = Some (with_atom s (sides 8 s t l r))
effect h later s (on.Is t l r) = Some (with_atom s (sides 9 s t l r))
effect h later s (on.Less l r) = Some (with_atom s (order 10 s l r))
effect h later s (on.Greater l r) = Some (with_atom s (order 11 s l r))
effect h later s (on.AtMost l r) = Some (with_atom s (order 12 s l r))
effect h later s (on.AtLeast l r) = Some (with_atom s (order 13 s l r))
effect h later s on.Cut = Some (record s { goals = with_goal s.goals flat.Cut })
effect h later s (on.Sigma d t) = Some (put_term (opens s (under_sigma d (type_in s.now t))) d (whole (variable d h.number) (type_in s.now t)))
effect h later s (on.All d t) = Some (put_term (opens s (under_all d (type_in s.now t))) d (whole (variable d h.number) (type_in s.now t)))
effect h later s on.EndAll = Some (leave h.number s)
effect h later s (on.Assume ns ts rs) =
    option_map (λ cs. record (opens s (under_assumption cs)) { assumed = s.assumed ++ handed ns.items (captured_by s ts.items rs.items) })
    (clauses_of_records later ns.items (captured_by s ts.items rs.items))
effect h later s on.EndAssume = Some (leave h.number s)
effect h later s (on.Either n) = Some (opens s (left_side (s.place + 5 + n)))
effect h later s (on.Jump n) = Some (turn h.number s n)
effect h later s on.Proceed = Some (record s { goals = (end_variables h.number s.goals s.frames).goals; frames = (end_variables h.number s.goals s.frames).frames })
effect h later s on.Not = Some (opens s under_not)
effect h later s on.EndNot = Some (leave h.number s)

-- right sides that end here are left, the innermost first
abbrev pub is_right_end : ℕ → Option Block → Bool
is_right_end place (Some (right_side n l)) = nat_eq n place
is_right_end place o = false

abbrev pub settled : (home : ℕ) → (blocks : ℕ) → State → State
settled home ℕ.zero s = s
settled home (ℕ.suc n) s = if is_right_end s.place (innermost_block s.frames) then settled home n (leave home s) else s

abbrev pub passed : Instr → State → State
passed i s = record s { place = s.place + length_of i; types_set = s.types_set ++ type_set i; terms_set = s.terms_set ++ term_set i }

-- the state behind an instruction
abbrev pub after : Home → Later → State → Instr → Option State
after h later s i = option_map (λ t. settled h.number (depth t.frames) (passed i t)) (effect h later s i)
