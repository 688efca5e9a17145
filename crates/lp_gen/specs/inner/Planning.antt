-- The plan of a clause or query while it is made: which parts are due, what assumptions are, and what is still to do for the goals of a part.
use Rattle.std.specs.Prelude.{◌≡◌, ℕ, suc, ◌+◌, ◌<◌, ◌≤◌, ◌^◌, List, [], ◌∷◌, ◌++◌, map, reverse, length, sum_by, Some, None, slice_get, nat_eq}
use Rattle.std.specs.List.{IsDistinct}
use Rattle.std.specs.Borrow.{Bor}
use Rattle.lp_model.specs.declared.clause.Goal.{Goal}
use Rattle.lp_model.specs.declared.clause.Clause.{Clause}
use Rattle.lp_model.specs.Flat.{Clauses}
use Rattle.lp_model.specs.Flattened.{goals_of, clauses_of}
use Rattle.lp_term.specs.Nodes.{Nodes}
use Rattle.lp_gen.specs.declared.plan.Assumption.{Assumption}
use Rattle.lp_gen.specs.declared.plan.Due.{Due}
use Rattle.lp_gen.specs.declared.plan.Part.{Part}
use Rattle.lp_gen.specs.declared.plan.Step.{Step}
use Rattle.lp_gen.specs.declared.plan.Task.{Task}
use Rattle.lp_gen.specs.declared.plan.Task.TheVariants as task
use Rattle.lp_gen.specs.declared.plan.Origin.{Origin}
use Rattle.lp_gen.specs.declared.plan.Origin.TheVariants as origin
use Rattle.lp_gen.specs.declared.tables.Tables.{Tables}
use Rattle.lp_gen.specs.inner.OpenGoals.{BodyStep, goals_steps}
use Rattle.lp_gen.specs.inner.BodyCode.{Suppositions, step_of, steps_of, next_of, next_all, IsNext, AreNext, count_starts, starts_all}
use Rattle.lp_gen.specs.Limits.{goals_assume}
use Rattle.lp_gen.specs.inner.Recorded.{own_count}
use Rattle.lp_gen.specs.inner.Planned.{goals_records, levels_behind, GoalsHave, AreWritten, DeepGoals, DeepClauses, AreCaptured, AreOnly}

abbrev pub body_of : Origin → List Goal
body_of (origin.Clause c) = c.now.body.items
body_of (origin.Query q gs) = gs.now

-- the records of a clause or query, its own counted too, and how many are allowed
abbrev pub origin_records : Nodes → Origin → ℕ
origin_records b o = suc (goals_assume (goals_of b (body_of o)))

abbrev pub most_of : Origin → ℕ
most_of (origin.Clause c) = 65535
most_of (origin.Query q gs) = 65536

abbrev pub due_records : Nodes → List Due → ℕ
due_records b us = sum_by (λ u. origin_records b u.origin) us

abbrev pub part_records : Nodes → List Part → ℕ
part_records b ps = sum_by (λ p. origin_records b p.origin) ps

-- the parts of the clauses of an assumption, which is the one of number `n`, under `d` variables

abbrev pub IsDue : (n d : ℕ) → Clause → Due → Type 0
IsDue n d c u = (of : Bor Clause) × (of.now ≡ c) × (u.origin ≡ origin.Clause of) × (u.within ≡ Some n) × (u.base ≡ d)

abbrev pub AreDue : (n d : ℕ) → List Clause → List Due → Type 0
AreDue n d [] us = us ≡ []
AreDue n d (c ∷ cs) [] = ⊥
AreDue n d (c ∷ cs) (u ∷ us) = IsDue n d c u × AreDue n d cs us

-- an assumption as it is made
pub record IsMade (xs : List Assumption) (us us' : List Due) (cs : List Clause) (d : ℕ) (x : Assumption) : Type 0 where
  pub clauses_are : x.clauses.now ≡ cs
  pub base : x.base ≡ d
  pub first : x.first ≡ length us
  pub count : x.count ≡ length cs
  pub more : List Due
  pub due_are : us' ≡ us ++ more
  pub members : AreDue (length xs) d cs more

abbrev pub IsAssumed : (us us' : List Due) → (xs xs' : List Assumption) → List Clause → (d n : ℕ) → Type 0
IsAssumed us us' xs xs' cs d n = (x : Assumption) × (xs' ≡ xs ++ x ∷ []) × (n ≡ length xs) × IsMade xs us us' cs d x

-- assumptions and the parts that are due
pub record Stays (us : List Due) (n : ℕ) (x : Assumption) : Type 0 where
  pub count : x.count ≡ length x.clauses.now
  pub within : x.first + x.count ≤ length us
  pub behind : 1 ≤ x.first
  pub members : (j : ℕ) (c : Clause) → slice_get x.clauses.now j ≡ Some c → (u : Due) × (slice_get us (x.first + j) ≡ Some u) × IsDue n x.base c u

pub record AreAssumed (us : List Due) (xs : List Assumption) : Type 0 where
  pub some : 1 ≤ length us
  pub each : (n : ℕ) (x : Assumption) → slice_get xs n ≡ Some x → Stays us n x
  pub ordered : (n m : ℕ) (x y : Assumption) → n < m → slice_get xs n ≡ Some x → slice_get xs m ≡ Some y → x.first + x.count ≤ y.first
  pub outer : (i : ℕ) (u : Due) → slice_get us i ≡ Some u → u.within ≡ None → i ≡ 0
  -- each part but the first is a member of one
  pub known : (i n : ℕ) (u : Due) → slice_get us i ≡ Some u → u.within ≡ Some n → (x : Assumption) × (slice_get xs n ≡ Some x) × (x.first ≤ i) × (i < x.first + x.count) × (u.base ≡ x.base)

abbrev pub Extends : {X : Type 0} → (xs ys : List X) → Type 0
Extends {X} xs ys = (more : List X) × (ys ≡ xs ++ more)

-- the records of each start with just the variables around it that stand in them
abbrev pub IsCapturing : Nodes → Assumption → Type 0
IsCapturing b x = AreCaptured x (clauses_of b x.clauses.now) × AreOnly x (clauses_of b x.clauses.now) × IsDistinct nat_eq x.captured.keys

abbrev pub AllCaptured : Nodes → List Assumption → Type 0
AllCaptured b xs = (n : ℕ) (x : Assumption) → slice_get xs n ≡ Some x → IsCapturing b x

-- what is still to do for the goals of a part
pub data Todo : Type 0 where
  due_goals : List Goal → Todo
  due_end : Step → ℕ → Todo

abbrev pub todo_of : Task → Todo
todo_of (task.Goals gs) = due_goals gs.now
todo_of (task.End s l) = due_end s l

-- the next one first
abbrev pub todos : List Task → List Todo
todos ts = map todo_of (reverse ts)

abbrev pub todo_steps : Nodes → Suppositions → List Todo → List BodyStep
todo_steps b cl [] = []
todo_steps b cl (due_goals gs ∷ ts) = goals_steps (goals_of b gs) ++ todo_steps b cl ts
todo_steps b cl (due_end s l ∷ ts) = step_of b cl s ∷ todo_steps b cl ts

-- the records that are due for it
abbrev pub todo_records : Nodes → List Todo → ℕ
todo_records b [] = 0
todo_records b (due_goals gs ∷ ts) = goals_assume (goals_of b gs) + todo_records b ts
todo_records b (due_end s l ∷ ts) = todo_records b ts

abbrev pub TodoHave : Nodes → (ℕ → ℕ → Clauses → Type 0) → (q d : ℕ) → List Todo → Type 0
TodoHave b D q d [] = Unit {0}
TodoHave b D q d (due_goals gs ∷ ts) = GoalsHave D q d (goals_of b gs) × TodoHave b D (q + goals_records (goals_of b gs)) (levels_behind d (goals_of b gs)) ts
TodoHave b D q d (due_end s l ∷ ts) = TodoHave b D q l ts

abbrev pub TodoDeep : Nodes → List Todo → Type 0
TodoDeep b [] = Unit {0}
TodoDeep b (due_goals gs ∷ ts) = DeepGoals (goals_of b gs) × TodoDeep b ts
TodoDeep b (due_end s l ∷ ts) = TodoDeep b ts

abbrev pub TodoWritten : Nodes → List Todo → Type 0
TodoWritten b [] = Unit {0}
TodoWritten b (due_goals gs ∷ ts) = AreWritten (goals_of b gs) × TodoWritten b ts
TodoWritten b (due_end s l ∷ ts) = TodoWritten b ts

-- the clauses of assumptions
abbrev pub HoldClauses : Nodes → List Assumption → Suppositions → Type 0
HoldClauses b xs cl = (n : ℕ) (x : Assumption) → slice_get xs n ≡ Some x → cl.clauses n ≡ clauses_of b x.clauses.now

-- which assumption is made at the part `q` that is due, from part `f` on, under `d` variables
abbrev pub AssumptionAt : Nodes → List Assumption → (f q d : ℕ) → Clauses → Type 0
AssumptionAt b xs f q d cs = (n : ℕ) × (x : Assumption) × (slice_get xs n ≡ Some x) × (cs ≡ clauses_of b x.clauses.now) × (f + x.first ≡ q) × (x.base ≡ d)

-- a step at the end of a block
abbrev pub IsEnd : Step → Type 0
IsEnd s = ((t : Tables) (q m : ℕ) → IsNext t q m s) × ((t : Tables) (q : ℕ) → next_of t q s ≡ q) × ((t : Tables) → count_starts t s ≡ 0)

abbrev pub AllEnds : List Todo → Type 0
AllEnds [] = Unit {0}
AllEnds (due_goals gs ∷ ts) = AllEnds ts
AllEnds (due_end s l ∷ ts) = IsEnd s × AllEnds ts

-- goals of which the steps so far are there
pub record WalkStands (us0 us : List Due) (xs0 xs : List Assumption) (d0 d : ℕ) (gs : List Goal) (steps : List Step) (ts : List Todo) : Type 0 where
  pub kept : AreAssumed us0 xs0 → AreAssumed us xs
  pub due_grow : Extends us0 us
  pub grow : Extends xs0 xs
  pub says : (b : Nodes) (cl : Suppositions) → HoldClauses b xs cl → steps_of b cl steps ++ todo_steps b cl ts ≡ goals_steps (goals_of b gs)
  pub next : (t : Tables) → Extends xs t.assumptions.now → t.first + length us < 2 ^ 32 →
      AreNext t (t.first + length us0) (length xs0) steps × (next_all t (t.first + length us0) steps ≡ t.first + length us) × (length xs ≡ length xs0 + starts_all t steps)
  pub has : (b : Nodes) (f : ℕ) (all : List Assumption) → Extends xs all → TodoHave b (AssumptionAt b all f) (f + length us) d ts → GoalsHave (AssumptionAt b all f) (f + length us0) d0 (goals_of b gs)
  pub deep : (b : Nodes) → DeepGoals (goals_of b gs) → TodoDeep b ts × ((n : ℕ) (x : Assumption) → length xs0 ≤ n → slice_get xs n ≡ Some x → DeepClauses (clauses_of b x.clauses.now))
  pub written : (b : Nodes) → TodoWritten b ts → AreWritten (goals_of b gs)
  pub ends : AllEnds ts
  pub total : (b : Nodes) → due_records b us + todo_records b ts ≡ due_records b us0 + goals_assume (goals_of b gs)

abbrev pub WalkKept : (us us' : List Due) → (xs xs' : List Assumption) → (d d' : ℕ) → (steps steps' : List Step) → (ts ts' : List Todo) → Type 0
WalkKept us us' xs xs' d d' steps steps' ts ts' =
    (us0 : List Due) (xs0 : List Assumption) (d0 : ℕ) (gs : List Goal) → WalkStands us0 us xs0 xs d0 d gs steps ts → WalkStands us0 us' xs0 xs' d0 d' gs steps' ts'

abbrev pub PartWalked : Due → (us us' : List Due) → (xs xs' : List Assumption) → List Step → Type 0
PartWalked u us us' xs xs' steps =
    (u.base + own_count u.origin ≤ 4294967295) × (length steps < 2 ^ 63) × (d : ℕ) × WalkStands us us' xs xs' (u.base + own_count u.origin) d (body_of u.origin) steps []

-- a part with its steps: `n` and `m` are how many assumptions there are before and behind it, `q` and `r` how many parts are due
pub record PartPlanned (us : List Due) (xs : List Assumption) (i n m q r : ℕ) (p : Part) : Type 0 where
  pub later : i < q
  pub around : (k : ℕ) → p.within ≡ Some k → k < n
  pub within : m ≤ length xs
  pub few : p.base + own_count p.origin ≤ 4294967295
  pub short : length p.steps.items < 2 ^ 63
  pub says : (b : Nodes) (cl : Suppositions) → HoldClauses b xs cl → steps_of b cl p.steps.items ≡ goals_steps (goals_of b (body_of p.origin))
  pub are_next : (t : Tables) → Extends xs t.assumptions.now → t.first + length us < 2 ^ 32 →
      AreNext t (t.first + q) n p.steps.items × (next_all t (t.first + q) p.steps.items ≡ t.first + r) × (m ≡ n + starts_all t p.steps.items)
  pub has : (b : Nodes) (f : ℕ) (all : List Assumption) → Extends xs all → GoalsHave (AssumptionAt b all f) (f + q) (p.base + own_count p.origin) (goals_of b (body_of p.origin))
  pub deep : (b : Nodes) → DeepGoals (goals_of b (body_of p.origin)) → (k : ℕ) (x : Assumption) → n ≤ k → k < m → slice_get xs k ≡ Some x → DeepClauses (clauses_of b x.clauses.now)
  pub written : (b : Nodes) → AreWritten (goals_of b (body_of p.origin))

abbrev pub AllPlanned : List Due → List Assumption → (i n m q r : ℕ) → List Part → Type 0
AllPlanned us xs i n m q r [] = (n ≡ m) × (q ≡ r)
AllPlanned us xs i n m q r (p ∷ ps) = (k : ℕ) × (s : ℕ) × PartPlanned us xs i n k q s p × AllPlanned us xs (suc i) k m s r ps

abbrev pub IsPartOf : Due → Part → Type 0
IsPartOf u p = (p.origin ≡ u.origin) × (p.within ≡ u.within) × (p.base ≡ u.base)

pub record PlanStands (o : Origin) (us : List Due) (ps : List Part) (xs : List Assumption) : Type 0 where
  pub begin : (u : Due) × (slice_get us 0 ≡ Some u) × (u.origin ≡ o) × (u.within ≡ None) × (u.base ≡ 0)
  pub assumed : AreAssumed us xs
  pub are : (i : ℕ) (p : Part) → slice_get ps i ≡ Some p → (u : Due) × (slice_get us i ≡ Some u) × IsPartOf u p
  pub planned : AllPlanned us xs 0 0 (length xs) 1 (length us) ps
  pub some : length ps ≤ length us

pub record ArePlanned (o : Origin) (us : List Due) (ps : List Part) (xs : List Assumption) : Type 0 where
  pub stands : PlanStands o us ps xs
  pub all : length ps ≡ length us
