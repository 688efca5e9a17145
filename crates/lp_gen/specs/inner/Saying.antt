-- The code of a goal, and of a part of the head, where the parts stand in registers. Equations and orders have instructions of their own.
use Rattle.std.specs.Prelude.{◌≡◌, ℕ, ℤ, ◌+◌, ◌<◌, nat_eq, nat_lt, nat_le, not, ◌&&◌, ◌||◌, true, false, List, [], ◌∷◌, ◌++◌, length, sum_by, is_none, is_some, Option, Some, None}
use Rattle.std.specs.List.{list_any}
use Rattle.lp_calculus.specs.Types.{Ty}
use Rattle.lp_calculus.specs.Term.{Term, atom, apply, constant, integer, text}
use Rattle.lp_calculus.specs.Typing.{o_type, int_type, string_type}
use Rattle.lp_standard.specs.declared.constant.Constant.{Constant}
use Rattle.lp_standard.specs.declared.constant.Constant.TheVariants as standard
use Rattle.lp_standard.specs.Schemes.{IsStandard}
use Rattle.lp_model.specs.Flat.{Goals, Atomic}
use Rattle.lp_code.specs.declared.instruction.Instr.{Instr}
use Rattle.lp_code.specs.declared.instruction.Instr.TheVariants as on
use Rattle.lp_code.specs.Length.{length_of}
use Rattle.lp_code.specs.Symbolic.{Built, held, whole, applied_type, is_closed, type_in, term_in, terms_in, types_in, plain_terms}
use Rattle.lp_code.specs.States.{State, Home, with_goal, depth}
use Rattle.lp_code.specs.Steps.{Later, constant_of, settled}
use Rattle.lp_code.specs.Rules.{has_count, has_type, have_type, has_none, head_count, is_argument, is_new_variable, out_of_turn, built_types, is_no_term}
use Rattle.lp_code.specs.Denote.{run}
use Rattle.lp_gen.specs.declared.emitter.Emitter.{Emitter}
use Rattle.lp_gen.specs.inner.Owned.{IsPlain}
use Rattle.lp_gen.specs.inner.Running.{TypesStand, TermsStand, MayEnd}

abbrev pub equation_by : Constant → (of left right : ℕ) → Option Instr
equation_by standard.Equal t l r = Some (on.Equal t l r)
equation_by standard.Is t l r = Some (on.Is t l r)
equation_by c t l r = None

abbrev pub order_by : Constant → (left right : ℕ) → Option Instr
order_by standard.Less l r = Some (on.Less l r)
order_by standard.Greater l r = Some (on.Greater l r)
order_by standard.AtMost l r = Some (on.AtMost l r)
order_by standard.AtLeast l r = Some (on.AtLeast l r)
order_by c l r = None

abbrev pub on_two_by : Constant → (types : List ℕ) → (left right : ℕ) → Option Instr
on_two_by c [] l r = order_by c l r
on_two_by c (t ∷ []) l r = equation_by c t l r
on_two_by c (t ∷ u ∷ ts) l r = None

abbrev pub own_by : Constant → (types terms : List ℕ) → Option Instr
own_by c ts [] = None
own_by c ts (l ∷ []) = None
own_by c ts (l ∷ r ∷ []) = on_two_by c ts l r
own_by c ts (l ∷ r ∷ x ∷ xs) = None

abbrev pub own_numbered : Option Constant → (types terms : List ℕ) → Option Instr
own_numbered None ts rs = None
own_numbered (Some c) ts rs = own_by c ts rs

-- the state with other goals, and another head so far
abbrev pub turned : State → Goals → List Ty → List Built → State
turned s gs Ts bs = record {
  place = s.place;
  now = s.now;
  types_set = s.types_set;
  terms_set = s.terms_set;
  in_body = s.in_body;
  head_types = Ts;
  head_arguments = bs;
  goals = gs;
  frames = s.frames;
  assumed = s.assumed;
}

-- instructions lead from one state to another with these goals and this head so far, in which the same is set. Right sides that end there are left
pub record Turns (h : Home) (later : Later) (vars types terms : ℕ) (s : State) (is : List Instr) (gs : Goals) (Ts : List Ty) (bs : List Built) (t : State) : Type 0 where
  pub runs : (rest : List Instr) → run h later s (is ++ rest) ≡ run h later (settled h.number (depth t.frames) t) rest
  pub place_is : t.place ≡ s.place + sum_by length_of is
  pub goals_are : t.goals ≡ gs
  pub head_types_are : t.head_types ≡ Ts
  pub arguments_are : t.head_arguments ≡ bs
  pub now_stays : t.now ≡ s.now
  pub in_body_stays : t.in_body ≡ s.in_body
  pub frames_stay : t.frames ≡ s.frames
  pub assumed_stay : t.assumed ≡ s.assumed
  pub types_stand : TypesStand h vars types t
  pub terms_stand : TermsStand h terms t

-- some more code, which says a goal or a part of the head wherever it is run and what it asks for is so
pub record IsPartPut (old new : Emitter) (asks : Home → State → Type 0) (goals : State → Goals) (head_types : State → List Ty) (arguments : Home → State → List Built) : Type 0 where
  pub more : List Instr
  pub code_is : new.code.items ≡ old.code.items ++ more
  pub some : 0 < sum_by length_of more
  pub types_stay : new.types ≡ old.types
  pub registers_stay : new.registers ≡ old.registers
  pub plain : IsPlain more
  pub denotes : (h : Home) (later : Later) (vars : ℕ) (s : State) → IsStandard h.tables.constants → TypesStand h vars old.types s → TermsStand h old.registers s → asks h s →
      MayEnd s (s.place + sum_by length_of more) →
      (t : State) × Turns h later vars old.types old.registers s more (goals s) (head_types s) (arguments h s) t

abbrev pub IsGoalPut : (old new : Emitter) → (asks : Home → State → Type 0) → (goal : State → Term) → Type 0
IsGoalPut old new asks goal = IsPartPut old new asks (λ s. with_goal s.goals (Atomic (goal s))) (λ s. s.head_types) (λ h s. s.head_arguments)

-- the types and arguments of a goal: they are set, without a loose index, and of the constant's declared type
pub record AreGoalParts (h : Home) (s : State) (c : ℕ) (ts rs : List ℕ) : Type 0 where
  pub behind_head : s.in_body ≡ true
  pub types_set : list_any (λ t. is_none (held s.now.types t)) ts ≡ false
  pub terms_set : list_any (λ r. is_none (held s.now.terms r)) rs ≡ false
  pub closed : list_any (λ r. not (is_closed (term_in s.now r).loose)) rs ≡ false
  pub declared : has_count (h.tables.constants c) (length ts) ≡ true
  pub typed : has_type (applied_type (constant_of h.tables c (types_in s.now ts)).type (built_types (terms_in s.now rs))) o_type ≡ true
  pub in_goals : is_no_term c ≡ false

abbrev pub CallPut : (old new : Emitter) → (c : ℕ) → (ts rs : List ℕ) → Type 0
CallPut old new c ts rs = IsGoalPut old new (λ h s. AreGoalParts h s c ts rs) (λ s. apply (atom (constant c (types_in s.now ts))) (plain_terms (terms_in s.now rs)))

-- a term that is a goal
pub record IsGoalTerm (s : State) (r : ℕ) : Type 0 where
  pub behind_head : s.in_body ≡ true
  pub terms_set : list_any (λ r. is_none (held s.now.terms r)) (r ∷ []) ≡ false
  pub closed : list_any (λ r. not (is_closed (term_in s.now r).loose)) (r ∷ []) ≡ false
  pub typed : have_type s (r ∷ []) o_type ≡ true

abbrev pub TermCallPut : (old new : Emitter) → (register : ℕ) → Type 0
TermCallPut old new r = IsGoalPut old new (λ h s. IsGoalTerm s r) (λ s. (term_in s.now r).term)

-- the next argument of the head has this type
pub record IsNext (h : Home) (s : State) (i : ℕ) (T : Ty) : Type 0 where
  pub in_turn : out_of_turn s i ≡ false
  pub typed : is_argument h s i T ≡ true

abbrev pub IsArgumentPut : (old new : Emitter) → (asks : Home → State → Type 0) → (argument : Home → State → Built) → Type 0
IsArgumentPut old new asks argument = IsPartPut old new asks (λ s. s.goals) (λ s. s.head_types) (λ h s. s.head_arguments ++ argument h s ∷ [])

pub record IsNextConstant (h : Home) (s : State) (i c : ℕ) (ts : List ℕ) : Type 0 where
  pub next : IsNext h s i (constant_of h.tables c (types_in s.now ts)).type
  pub types_set : list_any (λ t. is_none (held s.now.types t)) ts ≡ false
  pub declared : has_count (h.tables.constants c) (length ts) ≡ true
  pub in_terms : is_no_term c ≡ false

abbrev pub ConstantGot : (old new : Emitter) → (i c : ℕ) → (ts : List ℕ) → Type 0
ConstantGot old new i c ts = IsArgumentPut old new (λ h s. IsNextConstant h s i c ts) (λ h s. constant_of h.tables c (types_in s.now ts))

abbrev pub IntegerGot : (old new : Emitter) → (i : ℕ) → ℤ → Type 0
IntegerGot old new i z = IsArgumentPut old new (λ h s. IsNext h s i int_type) (λ h s. whole (atom (integer z)) int_type)

abbrev pub TextGot : (old new : Emitter) → (i : ℕ) → List ℕ → Type 0
TextGot old new i b = IsArgumentPut old new (λ h s. IsNext h s i string_type × (nat_lt (length b) 65536 ≡ true)) (λ h s. whole (atom (text b)) string_type)

-- a term as it stands in its register, which is no variable that stands in no earlier argument
pub record IsNextTerm (h : Home) (s : State) (i r : ℕ) : Type 0 where
  pub next : IsNext h s i (term_in s.now r).type
  pub terms_set : list_any (λ r. is_none (held s.now.terms r)) (r ∷ []) ≡ false
  pub closed : list_any (λ r. not (is_closed (term_in s.now r).loose)) (r ∷ []) ≡ false
  pub known : (is_some h.self.head && is_new_variable h s r) ≡ false

abbrev pub TermGot : (old new : Emitter) → (i r : ℕ) → Type 0
TermGot old new i r = IsArgumentPut old new (λ h s. IsNextTerm h s i r) (λ h s. term_in s.now r)

-- the next type argument of the head
pub record IsNextType (h : Home) (s : State) (j t : ℕ) : Type 0 where
  pub in_turn : ((s.in_body || not (nat_eq j (length s.head_types))) || not (has_none s.head_arguments)) ≡ false
  pub asked : (is_some h.self.head && nat_le (head_count h) j) ≡ false
  pub types_set : list_any (λ t. is_none (held s.now.types t)) (t ∷ []) ≡ false

abbrev pub TypeGot : (old new : Emitter) → (j t : ℕ) → Type 0
TypeGot old new j t = IsPartPut old new (λ h s. IsNextType h s j t) (λ s. s.goals) (λ s. s.head_types ++ type_in s.now t ∷ []) (λ h s. s.head_arguments)
