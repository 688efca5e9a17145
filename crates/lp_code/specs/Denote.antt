-- What code denotes: its instructions are run once each, on plain terms. Where a rule is broken it denotes nothing, and the fault is the first one.
use Rattle.std.specs.Prelude.{ℕ, zero, suc, ◌+◌, nat_eq, nat_lt, Bool, true, false, not, ◌&&◌, ◌||◌, if◌then◌else◌, List, [], ◌∷◌, ◌++◌, map, length, replicate, reverse, Option, Some, None, is_none, is_some, slice_get, option_map, option_and_then, int_le}
use Rattle.std.specs.Str.{bytes_eq}
use Rattle.lp_calculus.specs.Types.{Ty}
use Rattle.lp_calculus.specs.Term.{Term, Atom, index, atom, abs, app, constant, integer, text, eigen, logic, param}
use Rattle.lp_model.specs.Flat.{Goal, Goals, Clause, Clauses, Atomic, Cut, Either, Exists, Forall, Assume, Not, no_goals, goals, clause, no_clauses, clauses}
use Rattle.lp_model.specs.Flatten.{ends_in_o, heads_clauses}
use Rattle.lp_standard.specs.Constants.{is_declared}
use Rattle.lp_code.specs.declared.instruction.Instr.{Instr}
use Rattle.lp_code.specs.declared.instruction.Instr.TheVariants as on
use Rattle.lp_code.specs.declared.record.Record.{Record}
use Rattle.lp_code.specs.declared.record.RecordHead.{RecordHead}
use Rattle.lp_code.specs.declared.record.RecordHead.TheVariants.{Const, Register}
use Rattle.lp_code.specs.declared.record.Key.{Key}
use Rattle.lp_code.specs.declared.record.Key.TheVariants as key
use Rattle.lp_code.specs.declared.rule.Rule.{Rule}
use Rattle.lp_code.specs.declared.rule.Rule.TheVariants as rule
use Rattle.lp_code.specs.Symbolic.{Tables, Built, term_in, plain_terms}
use Rattle.lp_code.specs.Written.{written_goals}
use Rattle.lp_code.specs.States.{Captured, State, Home, member, bind_term, bind_goals}
use Rattle.lp_code.specs.Steps.{Later, own_types, own_variables, head_built, after}
use Rattle.lp_code.specs.Rules.{breaks_register, breaks_unset, breaks_set, breaks_constant, breaks_type, breaks_index, breaks_term, breaks_order, breaks_head, breaks_block, breaks_clause, has_none, named_before}

-- rules of a record as a whole, which are told at its first byte

-- the record's number among those that earlier records assume
abbrev pub is_named : Home → Bool
is_named h = member h.number (named_before h.number h.records)

abbrev pub has_neck : List Instr → Bool
has_neck [] = false
has_neck (on.Neck ∷ is) = true
has_neck (i ∷ is) = has_neck is

abbrev pub ends_with_proceed : List Instr → Bool
ends_with_proceed [] = false
ends_with_proceed (on.Proceed ∷ []) = true
ends_with_proceed (i ∷ is) = ends_with_proceed is

-- the register is set by an ALL of the record
abbrev pub is_set_by_all : List Instr → ℕ → Bool
is_set_by_all [] r = false
is_set_by_all (on.All d t ∷ is) r = nat_eq d r || is_set_by_all is r
is_set_by_all (i ∷ is) r = is_set_by_all is r

abbrev pub sets_by_all : Option Record → ℕ → Bool
sets_by_all None r = false
sets_by_all (Some q) r = is_set_by_all q.code.items r

-- the term is a variable that an ALL of some record made
abbrev pub is_all_variable : List Record → Term → Bool
is_all_variable rs (atom (logic r h)) = sets_by_all (slice_get rs h) r
is_all_variable rs t = false

-- the predicate of a clause: a declared constant whose type ends in `o`, or a variable of an ALL that the record starts with
abbrev pub heads : Home → State → RecordHead → Bool
heads h s (Const c) = is_declared c && heads_clauses (h.tables.constants c)
heads h s (Register r) = nat_lt r h.self.captured && is_all_variable h.records (term_in s.now r).term && ends_in_o (term_in s.now r).type

abbrev pub is_known_head : Home → RecordHead → Bool
is_known_head h (Const c) = is_some (h.tables.constants c)
is_known_head h (Register r) = true

abbrev pub head_passes : (RecordHead → Bool) → Option RecordHead → Bool
head_passes test None = true
head_passes test (Some p) = test p

-- the key of the first argument, as it stands
abbrev pub key_is : Key → Option Atom → Bool
key_is (key.Const c) (Some (constant d ts)) = nat_eq c d
key_is (key.Int y) (Some (integer z)) = int_le y z && int_le z y
key_is (key.Text s) (Some (text t)) = bytes_eq s.items t
key_is key.None None = true
key_is key.None (Some (eigen k)) = true
key_is k o = false

-- what the terms in registers have as key, behind an instruction: a register has that of the last instruction that set it
abbrev pub with_key : ℕ → Option Atom → (ℕ → Option Atom) → ℕ → Option Atom
with_key d k keys r = if nat_eq r d then k else keys r

abbrev pub keys_behind : (ℕ → Option Atom) → Instr → ℕ → Option Atom
keys_behind keys (on.PutConst d c ts) = with_key d (Some (constant c [])) keys
keys_behind keys (on.PutInt d z) = with_key d (Some (integer z)) keys
keys_behind keys (on.PutStr d s) = with_key d (Some (text s.items)) keys
keys_behind keys (on.PutApp d f rs) = with_key d (keys f) keys
keys_behind keys (on.New d t) = with_key d None keys
keys_behind keys (on.PutIndex d i t) = with_key d None keys
keys_behind keys (on.PutAbs d b t) = with_key d None keys
keys_behind keys (on.Sigma d t) = with_key d None keys
keys_behind keys (on.All d t) = with_key d None keys
keys_behind keys i = keys

-- the key of the head's first argument, as it stands: whatever rules the instructions before it break
abbrev pub first_key : (ℕ → Option Atom) → List Instr → Option Atom
first_key keys [] = None
first_key keys (on.Neck ∷ is) = None
first_key keys (on.GetVar i d ∷ is) = None
first_key keys (on.Get i r ∷ is) = keys r
first_key keys (on.GetConst i c ts ∷ is) = Some (constant c [])
first_key keys (on.GetInt i z ∷ is) = Some (integer z)
first_key keys (on.GetStr i s ∷ is) = Some (text s.items)
first_key keys (i ∷ is) = first_key (keys_behind keys i) is

abbrev pub has_right_key : Home → Bool
has_right_key h = is_none h.self.head || (if h.self.program then key_is h.self.key (first_key (λ r. None) h.self.code.items) else key_is h.self.key None)

-- the rule is broken by the record as a whole
abbrev pub broken_by_record : Home → State → Rule → Bool
broken_by_record h s rule.Register = nat_lt h.self.types h.self.captured_types || nat_lt h.self.registers h.self.captured
broken_by_record h s rule.Constant = not (head_passes (is_known_head h) h.self.head)
broken_by_record h s rule.Order = not (has_neck h.self.code.items)
broken_by_record h s rule.Head = not (head_passes (heads h s) h.self.head)
broken_by_record h s rule.Block = not (ends_with_proceed h.self.code.items)
broken_by_record h s rule.Clause = if h.self.program then not (nat_eq (h.self.captured_types + h.self.captured) 0) else not (is_named h)
broken_by_record h s rule.Key = not (has_right_key h)
broken_by_record h s r = false

abbrev pub broken_by : Home → State → (rest : List Instr) → Instr → Rule → Bool
broken_by h s rest i rule.Register = breaks_register h s i
broken_by h s rest i rule.Unset = breaks_unset s i
broken_by h s rest i rule.Set = breaks_set s i
broken_by h s rest i rule.Constant = breaks_constant h i
broken_by h s rest i rule.Typing = breaks_type h s i
broken_by h s rest i rule.Index = breaks_index s i
broken_by h s rest i rule.Term = breaks_term i
broken_by h s rest i rule.Order = breaks_order s i
broken_by h s rest i rule.Head = breaks_head h s i
broken_by h s rest i rule.Block = breaks_block s rest i
broken_by h s rest i rule.Clause = breaks_clause h s i
broken_by h s rest i rule.Key = false

abbrev pub rules : List Rule
rules =
    rule.Register ∷ rule.Unset ∷ rule.Set ∷ rule.Constant ∷ rule.Typing ∷ rule.Index ∷ rule.Term ∷ rule.Order ∷ rule.Head ∷ rule.Block ∷ rule.Clause ∷ rule.Key ∷ []

-- the first one that is broken
abbrev pub first_broken : (Rule → Bool) → List Rule → Option Rule
first_broken test [] = None
first_broken test (r ∷ rs) = if test r then Some r else first_broken test rs

-- of some rules the one that is broken before the next instruction, with those of the record where it is the first one
abbrev pub broken_of : List Rule → Home → State → List Instr → Option Rule
broken_of rs h s [] = if nat_eq s.place 0 then first_broken (broken_by_record h s) rs else None
broken_of rs h s (i ∷ is) = if nat_eq s.place 0 then first_broken (λ r. broken_by_record h s r || broken_by h s is i r) rs else first_broken (broken_by h s is i) rs

-- what comes of running instructions: all are run, a rule is broken at an offset, or a record that is assumed denotes nothing
pub data Ran : Type 0 where
  Done : State → Ran
  Broken : (at : ℕ) → Rule → Ran
  Void : Ran

abbrev pub unless_broken : Option Rule → (at : ℕ) → Ran → Ran
unless_broken None at ran = ran
unless_broken (Some r) at ran = Broken at r

abbrev pub run_on : (State → Ran) → Option State → Ran
run_on go None = Void
run_on go (Some t) = go t

abbrev pub run_of : List Rule → Home → Later → State → List Instr → Ran
run_of rs h later s [] = unless_broken (broken_of rs h s []) s.place (Done s)
run_of rs h later s (i ∷ is) = unless_broken (broken_of rs h s (i ∷ is)) s.place (run_on (λ t. run_of rs h later t is) (after h later s i))

abbrev pub run : Home → Later → State → List Instr → Ran
run = run_of rules

-- the state before the first instruction
abbrev pub from_zero : ℕ → List ℕ
from_zero zero = []
from_zero (suc n) = from_zero n ++ n ∷ []

abbrev pub started : {A : Type 0} → List A → (count : ℕ) → List (Option A)
started {A} xs n = map (λ (x : A). Some x) xs ++ replicate n None

abbrev pub first_state : Record → Captured → State
first_state r c = record {
  place = 0;
  now = record { types = started c.types r.types; terms = started c.terms r.registers };
  types_set = from_zero r.captured_types;
  terms_set = from_zero r.captured;
  in_body = false;
  head_types = [];
  head_arguments = [];
  goals = no_goals;
  frames = [];
  assumed = [];
}

-- what a record denotes: its variables by register, ascending, and its goals over them. In an assumed record the variables of the records around it are left as
-- they are named
abbrev pub variable_types : State → List ℕ → List Ty
variable_types s rs = map (λ r. (term_in s.now r).type) rs

abbrev pub head_term : Home → State → Term
head_term h s = Rattle.lp_calculus.specs.Term.apply (head_built h s).term (plain_terms s.head_arguments)

abbrev pub clause_of : Home → State → Clause
clause_of h s = clause (if h.self.program then length (own_types h.self) else 0) (variable_types s (own_variables h.self)) (bind_term (own_variables h.self) h.number 0 (head_term h s)) (written_goals (bind_goals (own_variables h.self) h.number s.goals))

abbrev pub clause_ran : Home → Ran → Option Clause
clause_ran h (Done s) = Some (clause_of h s)
clause_ran h (Broken at r) = None
clause_ran h Void = None

abbrev pub home_of : Tables → List Record → ℕ → Record → Home
home_of t all n r = record { tables = t; records = all; number = n; self = r }

abbrev pub denoted : Home → Later → Captured → Option Clause
denoted h later c = clause_ran h (run h later (first_state h.self c) h.self.code.items)

-- the records from number n on, each by what the later ones denote
abbrev pub later_from : Tables → (all : List Record) → (n : ℕ) → List Record → Later
later_from t all n [] m c = None
later_from t all n (r ∷ rs) m c = if nat_eq m n then denoted (home_of t all n r) (later_from t all (suc n) rs) c else later_from t all (suc n) rs m c

abbrev pub nothing_captured : Captured
nothing_captured = record { types = []; terms = [] }

-- the clauses of the program's records among those from n on; an assumed record is denoted where it is assumed
abbrev pub denote_from : Tables → (all : List Record) → (n : ℕ) → List Record → Option (List Clause)
denote_from t all n [] = Some []
denote_from t all n (r ∷ rs) =
    if r.program
    then option_and_then (λ c. option_map (λ cs. c ∷ cs) (denote_from t all (suc n) rs)) (denoted (home_of t all n r) (later_from t all (suc n) rs) nothing_captured)
    else (if is_named (home_of t all n r) then denote_from t all (suc n) rs else None)

-- the clauses that the records denote over these tables, in order; None where a rule is broken
abbrev pub denote : Tables → List Record → Option (List Clause)
denote t rs = denote_from t rs 0 rs

-- a query: its type variables, the types of its variables, which are its registers from 0, and its goals, in which the first variable is the outermost index
pub record DenotedQuery : Type 0 where
  pub type_vars : ℕ
  pub vars : List Ty
  pub body : Goals

abbrev pub query_ran : Home → Ran → Option DenotedQuery
query_ran h (Done s) = Some (record {
  type_vars = length (own_types h.self);
  vars = variable_types s (own_variables h.self);
  body = written_goals (bind_goals (reverse (own_variables h.self)) h.number s.goals);
})
query_ran h (Broken at r) = None
query_ran h Void = None

-- what the first record denotes, where the others are assumed ones
abbrev pub denote_query : Tables → List Record → Option DenotedQuery
denote_query t [] = None
denote_query t (r ∷ rs) =
    elim (denote_from t (r ∷ rs) 1 rs) [
      | None ↦ None
      | Some cs ↦ if has_none cs && is_none r.head then query_ran (home_of t (r ∷ rs) 0 r) (run (home_of t (r ∷ rs) 0 r) (later_from t (r ∷ rs) 1 rs) (first_state r nothing_captured) r.code.items) else None
    ]

-- the first fault of code

pub record CodeFault : Type 0 where
  pub record_number : ℕ
  pub at : ℕ
  pub rule : Rule

-- where faults are looked for, what an assumed record denotes does not matter
abbrev pub any_clause : Later
any_clause n c = Some (clause 0 [] (index 0) no_goals)

abbrev pub captured_of : List (ℕ × Captured) → ℕ → Captured
captured_of [] n = nothing_captured
captured_of ((m, c) ∷ more) n = if nat_eq m n then c else captured_of more n

abbrev pub fault_of_run : (record_number : ℕ) → (State → Option CodeFault) → Ran → Option CodeFault
fault_of_run n go (Done s) = go s
fault_of_run n go (Broken at rule) = Some (record { record_number = n; at = at; rule = rule })
fault_of_run n go Void = None

-- `handed` is what the earlier records hand to those that they assume
abbrev pub fault_from : List Rule → Tables → (all : List Record) → (handed : List (ℕ × Captured)) → (n : ℕ) → List Record → Option CodeFault
fault_from judged t all handed n [] = None
fault_from judged t all handed n (r ∷ rs) =
    fault_of_run n (λ s. fault_from judged t all (handed ++ s.assumed) (suc n) rs) (run_of judged (home_of t all n r) any_clause (first_state r (captured_of handed n)) r.code.items)

-- the first instruction that breaks one of some rules, and the first of these that it breaks
abbrev pub first_fault_of : List Rule → Tables → List Record → Option CodeFault
first_fault_of judged t rs = fault_from judged t rs [] 0 rs

-- the first instruction that breaks a rule, and the first rule that it breaks
abbrev pub first_fault : Tables → List Record → Option CodeFault
first_fault = first_fault_of rules
