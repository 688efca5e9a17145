-- The goals of a body: below binders, without what is written in them, and with variables for their indices.
use Rattle.std.specs.Prelude.{◌≡◌, ℕ, suc, Bool, true, false, sum_by, ◌+◌, ◌<◌, ◌≤◌, ◌^◌, ◌-◌, nat_eq, if◌then◌else◌, List, [], ◌∷◌, ◌++◌, length, Some}
use Rattle.lp_calculus.specs.Term.{Term, index}
use Rattle.lp_model.specs.Flat.{Goal, Goals, Clauses, Atomic, Cut, Either, Exists, Forall, Assume, Not, no_goals, goals, clause, no_clauses, clauses, add_goals, under_all, map_goal, map_goals, map_clauses, same_type}
use Rattle.std.specs.List.{list_any}
use Rattle.lp_code.specs.declared.instruction.Instr.{Instr}
use Rattle.lp_code.specs.Length.{length_of}
use Rattle.lp_code.specs.Symbolic.{Built, held}
use Rattle.lp_code.specs.States.{Block, Frame, Captured, State, Home, is_sigma, depth, innermost_block, end_variables, bind_term}
use Rattle.lp_code.specs.Steps.{Later, settled}
use Rattle.lp_code.specs.Denote.{run}
use Rattle.lp_gen.specs.inner.Running.{TypesStand, TermsStand}
use Rattle.lp_code.specs.Written.{nothing_written}
use Rattle.lp_gen.specs.Steps.{Seen, Around, level_in}
use Rattle.lp_gen.specs.inner.TermLaw.{level_term, with_variables}

-- one variable more, innermost
abbrev pub pushed : Around → Seen → Around
pushed a v = record { own = a.own ++ v ∷ []; base = a.base; captured = a.captured }

-- its level
abbrev pub new_level : Around → ℕ
new_level a = a.base + length a.own

-- levels count all variables
abbrev pub IsShort : Around → Type 0
IsShort a = new_level a < 2 ^ 64 - 1

abbrev pub with_level : (ℕ → Term) → (level : ℕ) → Term → ℕ → Term
with_level σ n t l = if nat_eq l n then t else σ l

-- goals as code that is run tells them: what is written in them is left out
abbrev mutual
  pub bare_goal : Goal → Goal
  bare_goal (Atomic t) = Atomic t
  bare_goal Cut = Cut
  bare_goal (Either gs hs) = Either (bare_goals gs) (bare_goals hs)
  bare_goal (Exists T gs) = Exists T (bare_goals gs)
  bare_goal (Forall T gs) = Forall T (bare_goals gs)
  bare_goal (Assume w cs gs) = Assume nothing_written (bare_clauses cs) (bare_goals gs)
  bare_goal (Not w gs) = Not nothing_written (bare_goals gs)

  pub bare_goals : Goals → Goals
  bare_goals no_goals = no_goals
  bare_goals (goals g gs) = goals (bare_goal g) (bare_goals gs)

  pub bare_clauses : Clauses → Clauses
  bare_clauses no_clauses = no_clauses
  bare_clauses (clauses (clause n vs h b) cs) = clauses (clause n vs h (bare_goals b)) (bare_clauses cs)

-- a predicate on the atoms of goals and the heads of clauses, with how many variables are bound around them
abbrev mutual
  pub IsThrough : (ℕ → Term → Type 0) → ℕ → Goal → Type 0
  IsThrough P d (Atomic t) = P d t
  IsThrough P d Cut = Unit {0}
  IsThrough P d (Either gs hs) = AreThrough P d gs × AreThrough P d hs
  IsThrough P d (Exists T gs) = AreThrough P (suc d) gs
  IsThrough P d (Forall T gs) = AreThrough P (suc d) gs
  IsThrough P d (Assume w cs gs) = AllThrough P d cs × AreThrough P d gs
  IsThrough P d (Not w gs) = AreThrough P d gs

  pub AreThrough : (ℕ → Term → Type 0) → ℕ → Goals → Type 0
  AreThrough P d no_goals = Unit {0}
  AreThrough P d (goals g gs) = IsThrough P d g × AreThrough P d gs

  pub AllThrough : (ℕ → Term → Type 0) → ℕ → Clauses → Type 0
  AllThrough P d no_clauses = Unit {0}
  AllThrough P d (clauses (clause n vs h b) cs) = P (under_all suc vs d) h × AreThrough P (under_all suc vs d) b × AllThrough P d cs

-- an index is that of a variable
abbrev pub HasLevel : Around → ℕ → Type 0
HasLevel a i = (l : ℕ) × (level_in a i ≡ Some l)

-- registers of a record are those of the innermost indices, and the other ones are those of what is around
pub record Binds (home : ℕ) (rs : List ℕ) (n : ℕ) (σ : ℕ → Term) (a : Around) (τ : ℕ → Term) (b : Around) : Type 0 where
  pub inner : (d j : ℕ) → j < n → bind_term rs home d (level_term σ (level_in a j)) ≡ index (d + j)
  pub outer : (d j : ℕ) → n ≤ j → HasLevel a j → bind_term rs home d (level_term σ (level_in a j)) ≡ level_term τ (level_in b (j - n))

abbrev pub said_goal : (ℕ → Term) → Around → (d : ℕ) → Goal → Goal
said_goal σ a d g = map_goal suc (with_variables σ a) same_type d (bare_goal g)

abbrev pub said_goals : (ℕ → Term) → Around → (d : ℕ) → Goals → Goals
said_goals σ a d gs = map_goals suc (with_variables σ a) same_type d (bare_goals gs)

abbrev pub said_clauses : (ℕ → Term) → Around → (d : ℕ) → Clauses → Clauses
said_clauses σ a d cs = map_clauses suc (with_variables σ a) same_type d (bare_clauses cs)

-- the state behind code: right sides that end there are left
abbrev pub behind_code : Home → List Instr → State → State
behind_code h [] u = u
behind_code h (i ∷ is) u = settled h.number (depth u.frames) u

-- what a block comes to, where these goals were added: sigmas that are open are closed with it
pub record Closes (home : ℕ) (s : State) (gs : Goals) (u : State) : Type 0 where
  pub same : end_variables home u.goals u.frames ≡ end_variables home (add_goals s.goals gs) s.frames
  pub innermost : innermost_block u.frames ≡ innermost_block s.frames
  pub deep : depth u.frames ≡ depth s.frames
  pub sides : (f : Frame → Bool) → ((x : Frame) → is_sigma x.block ≡ true → f x ≡ false) → list_any f u.frames ≡ list_any f s.frames

-- instructions say these goals in a block, behind which more code stands
pub record GoalsSaid (h : Home) (later : Later) (vars types types' terms terms' : ℕ) (s : State) (is : List Instr) (gs : Goals) (more : List (ℕ × Captured)) (u : State) : Type 0 where
  pub runs : (i : Instr) (rest : List Instr) → run h later s (is ++ i ∷ rest) ≡ run h later (behind_code h is u) (i ∷ rest)
  pub place_is : u.place ≡ s.place + sum_by length_of is
  pub closes : Closes h.number s gs u
  pub head_types_stay : u.head_types ≡ s.head_types
  pub arguments_stay : u.head_arguments ≡ s.head_arguments
  pub in_body_stays : u.in_body ≡ s.in_body
  pub assumed_are : u.assumed ≡ s.assumed ++ more
  pub types_kept : (r : ℕ) → r < types → held u.now.types r ≡ held s.now.types r
  pub terms_keep : (r : ℕ) (b : Built) → r < terms → held s.now.terms r ≡ Some b → held u.now.terms r ≡ Some b
  pub types_stand : TypesStand h vars types' u
  pub terms_stand : TermsStand h terms' u

-- instructions open a block
pub record Opened (h : Home) (later : Later) (vars types types' terms terms' : ℕ) (s : State) (is : List Instr) (F : Frame) (more : List (ℕ × Captured)) (t : State) : Type 0 where
  pub runs : (rest : List Instr) → run h later s (is ++ rest) ≡ run h later t rest
  pub place_is : t.place ≡ s.place + sum_by length_of is
  pub goals_are : t.goals ≡ no_goals
  pub frames_are : t.frames ≡ F ∷ s.frames
  pub head_types_stay : t.head_types ≡ s.head_types
  pub arguments_stay : t.head_arguments ≡ s.head_arguments
  pub in_body_stays : t.in_body ≡ s.in_body
  pub assumed_are : t.assumed ≡ s.assumed ++ more
  pub types_kept : (r : ℕ) → r < types → held t.now.types r ≡ held s.now.types r
  pub terms_keep : (r : ℕ) (b : Built) → r < terms → held s.now.terms r ≡ Some b → held t.now.terms r ≡ Some b
  pub types_stand : TypesStand h vars types' t
  pub terms_stand : TermsStand h terms' t

-- the frame of a block that is opened here, and the state in it
abbrev pub frame_of : State → Block → Frame
frame_of s b = record { block = b; from = s.place; before = s.goals; registers = s.now }

abbrev pub opened_state : State → Block → (assumed : List (ℕ × Captured)) → State
opened_state s b l = record {
  place = s.place;
  now = s.now;
  types_set = s.types_set;
  terms_set = s.terms_set;
  in_body = s.in_body;
  head_types = s.head_types;
  head_arguments = s.head_arguments;
  goals = no_goals;
  frames = frame_of s b ∷ s.frames;
  assumed = l;
}
