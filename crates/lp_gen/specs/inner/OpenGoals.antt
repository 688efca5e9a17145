-- The goals of a body while its code is written: those of the innermost block so far, and the blocks around it that are open.
use Rattle.std.specs.Prelude.{◌≡◌, ℕ, ◌+◌, ◌-◌, take, ◌≤◌, List, [], ◌∷◌, ◌++◌, length, sum_by, Vec, Option, Some, None, option_and_then}
use Rattle.std.specs.Global.{Global}
use Rattle.lp_calculus.specs.Types.{Ty}
use Rattle.lp_calculus.specs.Term.{Term}
use Rattle.lp_model.specs.Flat.{Goal, Goals, Clauses, Atomic, Cut, Either, Exists, Forall, Assume, Not, no_goals, goals, add_goals}
use Rattle.lp_code.specs.declared.instruction.Instr.{Instr}
use Rattle.lp_code.specs.declared.instruction.Instr.TheVariants as on
use Rattle.lp_code.specs.Length.{length_of}
use Rattle.lp_code.specs.States.{with_goal}
use Rattle.lp_code.specs.Written.{nothing_written}
use Rattle.lp_code.specs.Denote.{from_zero}
use Rattle.lp_gen.specs.Sources.{ends_list}
use Rattle.lp_gen.specs.Steps.{Around}
use Rattle.lp_gen.specs.inner.Bodies.{pushed, IsShort}
use Rattle.lp_gen.specs.inner.GoalCode.{quantified, KindCode, numbers, AreRegisters, GoalsCode}

-- what opened a block; that of a `sigma` goes to the end of the block around it
pub data Opening : Type 0 where
  in_left : Opening
  in_right : (left : Goals) → Opening
  in_some : Ty → Opening
  in_all : Ty → Opening
  in_assumption : Clauses → Opening
  in_denial : Opening

pub data OpenBlock : Type 0 where
  block : Opening → (before : Goals) → OpenBlock

pub record Walked : Type 0 where
  pub said : Goals
  pub opened : List OpenBlock

abbrev pub walked : Goals → List OpenBlock → Walked
walked gs bs = record { said = gs; opened = bs }

-- a `sigma` ends with the block around it
abbrev pub closed : Goals → List OpenBlock → Walked
closed gs [] = walked gs []
closed gs (block in_left b ∷ bs) = walked gs (block in_left b ∷ bs)
closed gs (block (in_right l) b ∷ bs) = walked gs (block (in_right l) b ∷ bs)
closed gs (block (in_some T) b ∷ bs) = closed (with_goal b (Exists T gs)) bs
closed gs (block (in_all T) b ∷ bs) = walked gs (block (in_all T) b ∷ bs)
closed gs (block (in_assumption cs) b ∷ bs) = walked gs (block (in_assumption cs) b ∷ bs)
closed gs (block in_denial b ∷ bs) = walked gs (block in_denial b ∷ bs)

-- the steps of a body
pub data BodyStep : Type 0 where
  say : Term → BodyStep
  cut : BodyStep
  either : BodyStep
  turn : BodyStep
  end_either : BodyStep
  some : Ty → BodyStep
  all : Ty → BodyStep
  end_all : BodyStep
  assume : Clauses → BodyStep
  end_assume : BodyStep
  deny : BodyStep
  end_deny : BodyStep

abbrev pub turned : Goals → List OpenBlock → Option Walked
turned gs [] = None
turned gs (block in_left b ∷ bs) = Some (walked no_goals (block (in_right gs) b ∷ bs))
turned gs (block (in_right l) b ∷ bs) = None
turned gs (block (in_some T) b ∷ bs) = None
turned gs (block (in_all T) b ∷ bs) = None
turned gs (block (in_assumption cs) b ∷ bs) = None
turned gs (block in_denial b ∷ bs) = None

abbrev pub right_ended : Goals → List OpenBlock → Option Walked
right_ended gs [] = None
right_ended gs (block in_left b ∷ bs) = None
right_ended gs (block (in_right l) b ∷ bs) = Some (walked (with_goal b (Either l gs)) bs)
right_ended gs (block (in_some T) b ∷ bs) = None
right_ended gs (block (in_all T) b ∷ bs) = None
right_ended gs (block (in_assumption cs) b ∷ bs) = None
right_ended gs (block in_denial b ∷ bs) = None

abbrev pub all_ended : Goals → List OpenBlock → Option Walked
all_ended gs [] = None
all_ended gs (block in_left b ∷ bs) = None
all_ended gs (block (in_right l) b ∷ bs) = None
all_ended gs (block (in_some T) b ∷ bs) = None
all_ended gs (block (in_all T) b ∷ bs) = Some (walked (with_goal b (Forall T gs)) bs)
all_ended gs (block (in_assumption cs) b ∷ bs) = None
all_ended gs (block in_denial b ∷ bs) = None

abbrev pub assumption_ended : Goals → List OpenBlock → Option Walked
assumption_ended gs [] = None
assumption_ended gs (block in_left b ∷ bs) = None
assumption_ended gs (block (in_right l) b ∷ bs) = None
assumption_ended gs (block (in_some T) b ∷ bs) = None
assumption_ended gs (block (in_all T) b ∷ bs) = None
assumption_ended gs (block (in_assumption cs) b ∷ bs) = Some (walked (with_goal b (Assume nothing_written cs gs)) bs)
assumption_ended gs (block in_denial b ∷ bs) = None

abbrev pub denial_ended : Goals → List OpenBlock → Option Walked
denial_ended gs [] = None
denial_ended gs (block in_left b ∷ bs) = None
denial_ended gs (block (in_right l) b ∷ bs) = None
denial_ended gs (block (in_some T) b ∷ bs) = None
denial_ended gs (block (in_all T) b ∷ bs) = None
denial_ended gs (block (in_assumption cs) b ∷ bs) = None
denial_ended gs (block in_denial b ∷ bs) = Some (walked (with_goal b (Not nothing_written gs)) bs)

-- an end with the goals of its block
abbrev pub ended : (Goals → List OpenBlock → Option Walked) → Walked → Option Walked
ended f w = f (closed w.said w.opened).said (closed w.said w.opened).opened

abbrev pub into : Opening → Walked → Walked
into o w = walked no_goals (block o w.said ∷ w.opened)

-- None where the steps are those of no goals
abbrev pub advance : BodyStep → Walked → Option Walked
advance (say t) w = Some (walked (with_goal w.said (Atomic t)) w.opened)
advance cut w = Some (walked (with_goal w.said Cut) w.opened)
advance either w = Some (into in_left w)
advance turn w = ended turned w
advance end_either w = ended right_ended w
advance (some T) w = Some (into (in_some T) w)
advance (all T) w = Some (into (in_all T) w)
advance end_all w = ended all_ended w
advance (assume cs) w = Some (into (in_assumption cs) w)
advance end_assume w = ended assumption_ended w
advance deny w = Some (into in_denial w)
advance end_deny w = ended denial_ended w

abbrev pub advance_all : List BodyStep → Walked → Option Walked
advance_all [] w = Some w
advance_all (s ∷ ss) w = option_and_then (advance_all ss) (advance s w)

-- the steps of goals
abbrev mutual
  pub goal_steps : Goal → List BodyStep
  goal_steps (Atomic t) = say t ∷ []
  goal_steps Cut = cut ∷ []
  goal_steps (Either gs hs) = either ∷ (goals_steps gs ++ turn ∷ (goals_steps hs ++ end_either ∷ []))
  goal_steps (Exists T gs) = some T ∷ goals_steps gs
  goal_steps (Forall T gs) = all T ∷ (goals_steps gs ++ end_all ∷ [])
  goal_steps (Assume w cs gs) = assume cs ∷ (goals_steps gs ++ end_assume ∷ [])
  goal_steps (Not w gs) = deny ∷ (goals_steps gs ++ end_deny ∷ [])

  pub goals_steps : Goals → List BodyStep
  goals_steps no_goals = []
  goals_steps (goals g gs) = goal_steps g ++ goals_steps gs

-- goals without what is written in them, clauses as they are
abbrev mutual
  pub plain_goal : Goal → Goal
  plain_goal (Atomic t) = Atomic t
  plain_goal Cut = Cut
  plain_goal (Either gs hs) = Either (plain_goals gs) (plain_goals hs)
  plain_goal (Exists T gs) = Exists T (plain_goals gs)
  plain_goal (Forall T gs) = Forall T (plain_goals gs)
  plain_goal (Assume w cs gs) = Assume nothing_written cs (plain_goals gs)
  plain_goal (Not w gs) = Not nothing_written (plain_goals gs)

  pub plain_goals : Goals → Goals
  plain_goals no_goals = no_goals
  plain_goals (goals g gs) = goals (plain_goal g) (plain_goals gs)

-- a `sigma` ends its list
abbrev mutual
  pub EndsGoal : Goal → Type 0
  EndsGoal (Atomic t) = Unit {0}
  EndsGoal Cut = Unit {0}
  EndsGoal (Either gs hs) = EndsGoals gs × EndsGoals hs
  EndsGoal (Exists T gs) = EndsGoals gs
  EndsGoal (Forall T gs) = EndsGoals gs
  EndsGoal (Assume w cs gs) = EndsGoals gs
  EndsGoal (Not w gs) = EndsGoals gs

  pub EndsGoals : Goals → Type 0
  EndsGoals no_goals = Unit {0}
  EndsGoals (goals g gs) = EndsGoal g × ends_list g gs × EndsGoals gs

-- steps say these goals, behind those so far
pub record Walks (ss : List BodyStep) (w : Walked) (gs : Goals) : Type 0 where
  pub state : Walked
  pub runs : (rest : List BodyStep) → advance_all (ss ++ rest) w ≡ advance_all rest state
  pub closes : closed state.said state.opened ≡ closed (add_goals w.said gs) w.opened

-- the code of goals and blocks that are open

-- where a block begins: how many variables the record had, and the place of its instruction, among the instructions and in bytes
pub record Mark : Type 0 where
  pub variables : ℕ
  pub at : ℕ
  pub from : ℕ

abbrev pub mark : Around → (at from : ℕ) → Mark
mark a at from = record { variables = length a.own; at = at; from = from }

abbrev pub IsNoSigma : Goal → Type 0
IsNoSigma (Atomic t) = Unit {0}
IsNoSigma Cut = Unit {0}
IsNoSigma (Either gs hs) = Unit {0}
IsNoSigma (Exists T gs) = ⊥
IsNoSigma (Forall T gs) = Unit {0}
IsNoSigma (Assume w cs gs) = Unit {0}
IsNoSigma (Not w gs) = Unit {0}

abbrev pub AreNoSigma : Goals → Type 0
AreNoSigma no_goals = Unit {0}
AreNoSigma (goals g gs) = IsNoSigma g × AreNoSigma gs

-- instructions that open a block behind code that ends with these numbers, and the numbers in it
abbrev pub OpensBy : (P : Around → (records levels : List ℕ) → Clauses → Type 0) → (K : ℕ → List Ty → Ty) → (v : ℕ) → Opening → Around → (n k q : ℕ) → (before : List Instr) → Around → (n' k' q' : ℕ) →
    (is : List Instr) → (outer marks : List Mark) → Type 0
OpensBy P K v in_left b n k q before a n' k' q' is ms ms' = (a ≡ b) × (n' ≡ n) × (k' ≡ k) × (q' ≡ q) × (is ≡ on.Either 0 ∷ []) × (ms' ≡ mark b (length before) (sum_by length_of before) ∷ ms)
OpensBy P K v (in_right left) b n k q before a n' k' q' is ms ms' =
    (a ≡ b) × (nl : ℕ) × (ls : List Instr) × GoalsCode P K v b n n' k k' q q' left ls × (nl ≡ sum_by length_of ls + 5) × (is ≡ on.Either nl ∷ (ls ++ on.Jump 0 ∷ []))
    × (ms' ≡ mark b (length before + (1 + length ls)) (sum_by length_of before + (5 + sum_by length_of ls)) ∷ ms)
OpensBy P K v (in_some T) b n k q before a n' k' q' is ms ms' =
    (a ≡ pushed b (quantified k T)) × IsShort (pushed b (quantified k T)) × (k' ≡ k + 1) × (q' ≡ q) × (r : ℕ) × (ts : List Instr) × KindCode n n' r T ts × (is ≡ ts ++ on.Sigma k r ∷ []) × (ms' ≡ ms)
OpensBy P K v (in_all T) b n k q before a n' k' q' is ms ms' =
    (a ≡ pushed b (quantified k T)) × IsShort (pushed b (quantified k T)) × (k' ≡ k + 1) × (q' ≡ q) × (r : ℕ) × (ts : List Instr) × KindCode n n' r T
    ts × (is ≡ ts ++ on.All k r ∷ []) × (at : ℕ) × (from : ℕ)
    × (ms' ≡ mark b at from ∷ ms)
OpensBy P K v (in_assumption cs) b n k q before a n' k' q' is ms ms' =
    (a ≡ b) × (n' ≡ n) × (k' ≡ k) × (ns : Vec ℕ Global) × (ts : Vec ℕ Global) × (rs : Vec ℕ Global) × (ls : List ℕ) × P b ns.items ls cs × AreRegisters b ls rs.items × (ts.items ≡ from_zero v)
    × (ns.items ≡ numbers q (length ns.items)) × (q' ≡ q + length ns.items) × (is ≡ on.Assume ns ts rs ∷ []) × (at : ℕ) × (from : ℕ) × (ms' ≡ mark b at from ∷ ms)
OpensBy P K v in_denial b n k q before a n' k' q' is ms ms' = (a ≡ b) × (n' ≡ n) × (k' ≡ k) × (q' ≡ q) × (is ≡ on.Not ∷ []) × (at : ℕ) × (from : ℕ) × (ms' ≡ mark b at from ∷ ms)

-- where code of a body begins
pub record Start : Type 0 where
  pub around : Around
  pub types : ℕ
  pub terms : ℕ
  pub next : ℕ
  pub code : List Instr

-- the code up to the goals of the innermost block
abbrev pub Opens : (P : Around → (records levels : List ℕ) → Clauses → Type 0) → (K : ℕ → List Ty → Ty) → (v : ℕ) → Start → List OpenBlock → Around →
    (n k q : ℕ) → (front : List Instr) → List Mark → Type 0
Opens P K v z [] a n k q front ms = (a ≡ z.around) × (n ≡ z.types) × (k ≡ z.terms) × (q ≡ z.next) × (front ≡ z.code) × (ms ≡ [])
Opens P K v z (block o gs ∷ bs) a n k q front ms =
    (b : Around) × (n1 : ℕ) × (k1 : ℕ) × (q1 : ℕ) × (n2 : ℕ) × (k2 : ℕ) × (q2 : ℕ) × (first : List Instr) × (js : List Instr) × (is : List Instr) ×
    (outer : List Mark) × Opens P K v z bs b n1 k1 q1 first outer
    × GoalsCode P K v b n1 n2 k1 k2 q1 q2 gs js × AreNoSigma gs × OpensBy P K v o b n2 k2 q2 (first ++ js) a n k q is outer ms × (front ≡ (first ++ js) ++ is)

-- the code so far
pub record Stands (P : Around → (records levels : List ℕ) → Clauses → Type 0) (K : ℕ → List Ty → Ty) (v : ℕ) (z : Start) (w : Walked) (a : Around)
    (n k q : ℕ) (code : List Instr) (ms : List Mark) : Type 0 where
  pub types : ℕ
  pub terms : ℕ
  pub next : ℕ
  pub front : List Instr
  pub last : List Instr
  pub opens : Opens P K v z w.opened a types terms next front ms
  pub goals_are : GoalsCode P K v a types n terms k next q w.said last
  pub no_sigma : AreNoSigma w.said
  pub code_is : code ≡ front ++ last

-- the same with each `sigma` of the innermost block ended: of what was around, fewer variables are left
abbrev pub cut_to : ℕ → Around → Around
cut_to m a = record { own = take m a.own; base = a.base; captured = a.captured }

pub record Closes (P : Around → (records levels : List ℕ) → Clauses → Type 0) (K : ℕ → List Ty → Ty) (v : ℕ) (z : Start) (w : Walked) (a : Around)
    (n k q : ℕ) (code : List Instr) (ms : List Mark) : Type 0 where
  pub around : Around
  pub types : ℕ
  pub terms : ℕ
  pub next : ℕ
  pub front : List Instr
  pub last : List Instr
  pub opens : Opens P K v z w.opened around types terms next front ms
  pub goals_are : GoalsCode P K v around types n terms k next q w.said last
  pub code_is : code ≡ front ++ last
  pub left : around ≡ cut_to (length around.own) a

-- behind the end of a block: that of a block with an end of its own, of a right side, and of a left one
pub record Leaves (P : Around → (records levels : List ℕ) → Clauses → Type 0) (K : ℕ → List Ty → Ty) (v : ℕ) (z : Start) (w : Walked) (a : Around)
    (n k q : ℕ) (code : List Instr) (ms : List Mark) : Type 0 where
  pub around : Around
  pub outer : List Mark
  pub at : ℕ
  pub from : ℕ
  pub marks_are : ms ≡ mark around at from ∷ outer
  pub left : around ≡ cut_to (length around.own) a
  pub stands : Stands P K v z w around n k q code outer

pub record RightLeaves (P : Around → (records levels : List ℕ) → Clauses → Type 0) (K : ℕ → List Ty → Ty) (v : ℕ) (z : Start) (w : Walked)
    (a : Around) (n k q : ℕ) (code : List Instr) (ms : List Mark) : Type 0 where
  pub around : Around
  pub outer : List Mark
  pub from : ℕ
  pub lead : List Instr
  pub rest : List Instr
  pub marks_are : ms ≡ mark around (length lead) from ∷ outer
  pub left : around ≡ cut_to (length around.own) a
  pub code_is : code ≡ lead ++ on.Jump 0 ∷ rest
  pub from_low : from + 5 ≤ sum_by length_of code
  pub stands : (m : ℕ) → m ≡ sum_by length_of code - (from + 5) → Stands P K v z w around n k q (lead ++ on.Jump m ∷ rest) outer

pub record Turns (P : Around → (records levels : List ℕ) → Clauses → Type 0) (K : ℕ → List Ty → Ty) (v : ℕ) (z : Start) (w : Walked) (a : Around)
    (n k q : ℕ) (code : List Instr) (ms : List Mark) : Type 0 where
  pub around : Around
  pub outer : List Mark
  pub from : ℕ
  pub lead : List Instr
  pub rest : List Instr
  pub marks_are : ms ≡ mark around (length lead) from ∷ outer
  pub left : around ≡ cut_to (length around.own) a
  pub code_is : code ≡ lead ++ on.Either 0 ∷ rest
  pub from_low : from + 5 ≤ sum_by length_of code
  pub stands : (m : ℕ) → m ≡ sum_by length_of code + 5 - (from + 5) →
      Stands P K v z w around n k q (lead ++ on.Either m ∷ (rest ++ on.Jump 0 ∷ [])) (mark around (length code) (sum_by length_of code) ∷ outer)
