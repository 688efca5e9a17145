-- What each function of a body's code does to the code so far.
use Rattle.std.specs.Prelude.{All, nat_eq, true, option_map, ◌≡◌, ◌⊎◌, ℕ, ◌+◌, ◌-◌, ◌<◌, ◌≤◌, ◌^◌, List, [], ◌∷◌, ◌++◌, map, reverse, length, sum_by, slice_get, Vec, Option, Some, None}
use Rattle.std.specs.Global.{Global}
use Rattle.indexmap.specs.IndexMap.{IndexMap, get, index_map_len}
use Rattle.lp_calculus.specs.Types.{Ty}
use Rattle.lp_term.specs.Nodes.{Nodes, tree, type_tree}
use Rattle.lp_model.specs.Flat.{Clauses, no_goals}
use Rattle.lp_code.specs.declared.instruction.Instr.{Instr}
use Rattle.lp_code.specs.declared.instruction.Instr.TheVariants as instr
use Rattle.lp_code.specs.Length.{length_of}
use Rattle.lp_code.specs.Denote.{from_zero}
use Rattle.lp_gen.specs.declared.emitter.Emitter.{Emitter}
use Rattle.lp_gen.specs.declared.environment.Environment.{Environment}
use Rattle.lp_gen.specs.declared.environment.Variable.{Variable}
use Rattle.lp_gen.specs.declared.body.Block.{Block}
use Rattle.lp_gen.specs.declared.plan.Step.{Step}
use Rattle.lp_gen.specs.declared.plan.Assumption.{Assumption}
use Rattle.lp_gen.specs.declared.tables.Tables.{Tables}
use Rattle.lp_gen.specs.declared.plan.Step.TheVariants as on
use Rattle.lp_gen.specs.inner.Running.{IsTypePut}
use Rattle.lp_gen.specs.Steps.{Seen, Around, at_level}
use Rattle.lp_gen.specs.inner.Listing.{seen, around_of}
use Rattle.lp_gen.specs.inner.TermLaw.{AreSet}
use Rattle.lp_gen.specs.inner.Bodies.{pushed, new_level}
use Rattle.lp_gen.specs.inner.Beginning.{NeckPut}
use Rattle.lp_gen.specs.inner.GoalCode.{quantified, numbers, AreRegisters}
use Rattle.lp_gen.specs.inner.OpenGoals.{Walked, walked, BodyStep, say, cut, either, turn, end_either, some, all, end_all, assume, end_assume, deny, end_deny, advance, advance_all, Mark, Start, Stands, cut_to}

-- records that an assumption names: the numbers of its clauses, and the levels of the variables that stand in them, as far as they are around

abbrev pub level_found : Option Seen → ℕ → List ℕ
level_found None l = []
level_found (Some v) l = l ∷ []

abbrev pub levels_found : Around → List ℕ → List ℕ
levels_found a [] = []
levels_found a (l ∷ ls) = level_found (at_level a l) l ++ levels_found a ls

abbrev pub records_named : Tables → Assumption → List ℕ
records_named t x = numbers (t.first + x.first) x.count

-- what assumptions are, by their numbers: the clauses, and the variables with which their records start, by level, and how many
pub record Suppositions : Type 0 where
  pub clauses : ℕ → Clauses
  pub starts : ℕ → ℕ → Option Seen
  pub counts : ℕ → ℕ

-- the variables with which records start: those of these levels, each in the register of its place
pub record AreStarts (a : Around) (ls : List ℕ) (starts : ℕ → Option Seen) (count : ℕ) : Type 0 where
  pub count_is : count ≡ length ls
  pub given : (i l : ℕ) → slice_get ls i ≡ Some l → (v : Seen) × (at_level a l ≡ Some v) × (starts l ≡ Some (record { register = i; of = v.of; is_set = true }))
  pub only : (l : ℕ) (v : Seen) → starts l ≡ Some v → (i : ℕ) × (slice_get ls i ≡ Some l)

abbrev pub AssumedBy : Tables → Suppositions → Around → (records levels : List ℕ) → Clauses → Type 0
AssumedBy t cl a ns ls cs =
    (n : ℕ) × (x : Assumption) × (slice_get t.assumptions.now n ≡ Some x) × (cs ≡ cl.clauses n) × (ns ≡ records_named t x) ×
    (ls ≡ levels_found a x.captured.keys) × AreStarts a ls (cl.starts n) (cl.counts n)

-- the variables with which records start, as they are kept
abbrev pub started_at : {S : Type 0} → Nodes → IndexMap ℕ Variable S → ℕ → Option Seen
started_at b m l = option_map (seen b) (get nat_eq m l)

-- variables with which records start are set
abbrev pub AreAllSet : {S : Type 0} → Nodes → IndexMap ℕ Variable S → Type 0
AreAllSet b m = (l : ℕ) (v : Seen) → started_at b m l ≡ Some v → v.is_set ≡ true

-- those that are kept are those of the assumptions from a number on
abbrev pub HoldStarts : {S : Type 0} → Nodes → List (IndexMap ℕ Variable S) → (first : ℕ) → Suppositions → Type 0
HoldStarts {S} b xs f cl =
    (i : ℕ) (m : IndexMap ℕ Variable S) → slice_get xs i ≡ Some m → ((l : ℕ) → cl.starts (f + i) l ≡ started_at b m l) × (cl.counts (f + i) ≡ index_map_len m)

abbrev pub one_if : Option Assumption → ℕ
one_if None = 0
one_if (Some x) = 1

-- how many more are kept behind a step
abbrev pub count_starts : Tables → Step → ℕ
count_starts t (on.Assume n) = one_if (slice_get t.assumptions.now n)
count_starts t s = 0

abbrev pub StartsGrow : {S : Type 0} → Tables → (xs xs' : List (IndexMap ℕ Variable S)) → Step → Type 0
StartsGrow {S} t xs xs' s = (more : List (IndexMap ℕ Variable S)) × (xs' ≡ xs ++ more) × (length more ≡ count_starts t s) × All (AreAllSet t.bank.now) more

abbrev pub mark_of : Block → Mark
mark_of b = record { variables = b.variables; at = b.at; from = b.from }

-- the innermost one first
abbrev pub marks : List Block → List Mark
marks bs = map mark_of (reverse bs)

abbrev pub StandsAt : (P : Around → (records levels : List ℕ) → Clauses → Type 0) → (K : ℕ → List Ty → Ty) → (v : ℕ) → Start → Walked → Around → Emitter → (q : ℕ) → List Block → Type 0
StandsAt P K v z w a e q bs = Stands P K v z w a e.types e.registers q e.code.items (marks bs)

-- where the code stands for goals and open blocks so far, more of it stands for those behind a step
abbrev pub StepTaken : (P : Around → (records levels : List ℕ) → Clauses → Type 0) → (K : ℕ → List Ty → Ty) → (e e' : Emitter) → (a a' : Around) → (bs bs' : List Block) → BodyStep → Type 0
StepTaken P K e e' a a' bs bs' step =
    (v : ℕ) (z : Start) (w w' : Walked) (q : ℕ) → StandsAt P K v z w a e q bs → AreSet a → new_level a + 1 < 2 ^ 64 - 1 → advance step w ≡ Some w' →
    StandsAt P K v z w' a' e' q bs' × AreSet a' × (new_level a' ≤ new_level a + 1)

-- an assumption, which names the next records
abbrev pub AssumeTaken : (P : Around → (records levels : List ℕ) → Clauses → Type 0) → (K : ℕ → List Ty → Ty) → (v : ℕ) → (e e' : Emitter) →
    (a a' : Around) → (bs bs' : List Block) → Clauses → (first count : ℕ) → Type 0
AssumeTaken P K v e e' a a' bs bs' cs first count =
    (z : Start) (w w' : Walked) → StandsAt P K v z w a e first bs → AreSet a → new_level a + 1 < 2 ^ 64 - 1 → advance (assume cs) w ≡ Some w' →
    StandsAt P K v z w' a' e' (first + count) bs' × AreSet a' × (new_level a' ≤ new_level a + 1)

-- the same by the functions' own values

abbrev pub Takes : (e e' : Emitter) → (env env' : Environment) → (bs bs' : List Block) → BodyStep → Type 0
Takes e e' env env' bs bs' s = (t : Tables) (cl : Suppositions) (b : Nodes) (K : ℕ → List Ty → Ty) → StepTaken (AssumedBy t cl) K e e' (around_of b env) (around_of b env') bs bs' s

-- the step of goals that it is
abbrev pub step_of : Nodes → Suppositions → Step → BodyStep
step_of b cl (on.Atom t) = say (tree b t.0)
step_of b cl on.Cut = cut
step_of b cl on.Either = either
step_of b cl on.Turn = turn
step_of b cl on.EndEither = end_either
step_of b cl (on.Some T) = some (type_tree b T.0)
step_of b cl (on.All T) = all (type_tree b T.0)
step_of b cl on.EndAll = end_all
step_of b cl (on.Assume n) = assume (cl.clauses n)
step_of b cl on.EndAssume = end_assume
step_of b cl on.Not = deny
step_of b cl on.EndNot = end_deny

abbrev pub steps_of : Nodes → Suppositions → List Step → List BodyStep
steps_of b cl ss = map (step_of b cl) ss

-- the number behind the records that a step names, and that it names those from a number on

abbrev pub count_named : Option Assumption → ℕ
count_named None = 0
count_named (Some x) = x.count

abbrev pub next_of : Tables → ℕ → Step → ℕ
next_of t q (on.Assume n) = q + count_named (slice_get t.assumptions.now n)
next_of t q s = q

abbrev pub next_all : Tables → ℕ → List Step → ℕ
next_all t q [] = q
next_all t q (s ∷ ss) = next_all t (next_of t q s) ss

-- `m` is the number of the next assumption
abbrev pub IsNext : Tables → (q m : ℕ) → Step → Type 0
IsNext t q m (on.Assume n) = (x : Assumption) × (slice_get t.assumptions.now n ≡ Some x) × (t.first + x.first ≡ q) × (q + x.count < 2 ^ 32) × (n ≡ m)
IsNext t q m s = Unit {0}

abbrev pub AreNext : Tables → (q m : ℕ) → List Step → Type 0
AreNext t q m [] = Unit {0}
AreNext t q m (s ∷ ss) = IsNext t q m s × AreNext t (next_of t q s) (m + count_starts t s) ss

abbrev pub IsTaken : {S : Type 0} → Tables → Suppositions → (K : ℕ → List Ty → Ty) → (e e' : Emitter) → (env env' : Environment) →
    (bs bs' : List Block) → (xs xs' : List (IndexMap ℕ Variable S)) → Step → Type 0
IsTaken t cl K e e' env env' bs bs' xs xs' s =
    (q f : ℕ) (z : Start) (w w' : Walked) → HoldStarts t.bank.now xs' f cl → IsNext t q (f + length xs) s → StandsAt (AssumedBy t cl) K t.type_vars z w (around_of t.bank.now env) e q bs →
    AreSet (around_of t.bank.now env) → new_level (around_of t.bank.now env) + 1 < 2 ^ 64 - 1 → advance (step_of t.bank.now cl s) w ≡ Some w' →
    StandsAt (AssumedBy t cl) K t.type_vars z w' (around_of t.bank.now env') e' (next_of t q s) bs' × AreSet (around_of t.bank.now env')
    × (new_level (around_of t.bank.now env') ≤ new_level (around_of t.bank.now env) + 1)

-- the instruction of an assumption
abbrev pub AssumptionMade : {S : Type 0} → Tables → Environment → ℕ → (xs xs' : List (IndexMap ℕ Variable S)) → Instr → Type 0
AssumptionMade {S} t env n xs xs' i =
    (b : Nodes) (x : Assumption) → slice_get t.assumptions.now n ≡ Some x → t.first + x.first + x.count < 2 ^ 32 →
    (ns : Vec ℕ Global) × (ts : Vec ℕ Global) × (rs : Vec ℕ Global) × (m : IndexMap ℕ Variable S) × (i ≡ instr.Assume ns ts rs) × (ns.items ≡ records_named t x) × (ts.items ≡ from_zero t.type_vars)
    × AreRegisters (around_of b env) (levels_found (around_of b env) x.captured.keys) rs.items × (xs' ≡ xs ++ m ∷ [])
    × AreStarts (around_of b env) (levels_found (around_of b env) x.captured.keys) (started_at b m) (index_map_len m)

-- a new variable, the register of its type, and the parts of its block

abbrev pub VariableOpened : (e e' : Emitter) → (a a' : Around) → (register kind : ℕ) → Ty → Type 0
VariableOpened e e' a a' r k T =
    (mid : Emitter) × IsTypePut e mid k T × (e'.code.items ≡ mid.code.items) × (e'.types ≡ mid.types) × (e'.registers ≡ mid.registers + 1) × (r ≡ mid.registers) × (a' ≡ pushed a (quantified r T))

abbrev pub SomeOpened : (e e' : Emitter) → (a a' : Around) → Ty → Type 0
SomeOpened e e' a a' T =
    (mid : Emitter) × (k : ℕ) × IsTypePut e mid k T × (e'.code.items ≡ mid.code.items ++ instr.Sigma mid.registers k ∷ []) × (e'.types ≡ mid.types) × (e'.registers ≡ mid.registers + 1)
    × (a' ≡ pushed a (quantified mid.registers T))

abbrev pub AllOpened : (e e' : Emitter) → (a a' : Around) → (bs bs' : List Block) → Ty → Type 0
AllOpened e e' a a' bs bs' T =
    (mid : Emitter) × (k : ℕ) × (l : Block) × IsTypePut e mid k T × (e'.code.items ≡ mid.code.items ++ instr.All mid.registers k ∷ []) × (e'.types ≡ mid.types) × (e'.registers ≡ mid.registers + 1)
    × (a' ≡ pushed a (quantified mid.registers T)) × (bs' ≡ bs ++ l ∷ []) × (l.variables ≡ length a.own)

abbrev pub BlockOpened : (e e' : Emitter) → Environment → (bs bs' : List Block) → Instr → Type 0
BlockOpened e e' env bs bs' i =
    (l : Block) × (bs' ≡ bs ++ l ∷ []) × (l.variables ≡ length env.own.items) × (l.at ≡ length e.code.items) × (l.from ≡ sum_by length_of e.code.items) × (e'.code.items ≡ e.code.items ++ i ∷ [])
    × (e'.types ≡ e.types) × (e'.registers ≡ e.registers)

abbrev pub BlockEnded : (e e' : Emitter) → (env env' : Environment) → (bs bs' : List Block) → Instr → Type 0
BlockEnded e e' env env' bs bs' i =
    (bs ≡ []) ⊎ ((l : Block) × (bs ≡ bs' ++ l ∷ []) × ((b : Nodes) → around_of b env' ≡ cut_to l.variables (around_of b env)) × (e'.code.items ≡ e.code.items ++ i ∷ []) × (e'.types ≡ e.types)
    × (e'.registers ≡ e.registers))

-- all steps, from no goals on

abbrev pub start_at : Around → Emitter → (q : ℕ) → Start
start_at a e q = record { around = a; types = e.types; terms = e.registers; next = q; code = e.code.items }

abbrev pub StepsWritten : {S : Type 0} → Tables → (K : ℕ → List Ty → Ty) → (e e' : Emitter) → (env env' : Environment) → (xs xs' : List (IndexMap ℕ Variable S)) → List Step → Type 0
StepsWritten t K e e' env env' xs xs' steps =
    (cl : Suppositions) (q f : ℕ) (w : Walked) → HoldStarts t.bank.now xs' f cl → AreNext t q (f + length xs) steps → AreSet (around_of t.bank.now env) →
    new_level (around_of t.bank.now env) + length steps < 2 ^ 64 - 1 → advance_all (steps_of t.bank.now cl steps) (walked no_goals []) ≡ Some w →
    (ms : List Mark)
    × Stands (AssumedBy t cl) K t.type_vars (start_at (around_of t.bank.now env) e q) w (around_of t.bank.now env') e'.types e'.registers (next_all t q steps) e'.code.items ms

-- how many variables are kept with which records start
abbrev pub starts_all : Tables → List Step → ℕ
starts_all t ss = sum_by (count_starts t) ss

abbrev pub AllStartsGrow : {S : Type 0} → Tables → (xs xs' : List (IndexMap ℕ Variable S)) → List Step → Type 0
AllStartsGrow {S} t xs xs' ss = (more : List (IndexMap ℕ Variable S)) × (xs' ≡ xs ++ more) × (length more ≡ starts_all t ss) × All (AreAllSet t.bank.now) more

-- a step as a whole, and steps
abbrev pub IsDone : {S : Type 0} → Tables → (K : ℕ → List Ty → Ty) → (e e' : Emitter) → (env env' : Environment) → (bs bs' : List Block) → (xs xs' : List (IndexMap ℕ Variable S)) → Step → Type 0
IsDone t K e e' env env' bs bs' xs xs' s = ((cl : Suppositions) → IsTaken t cl K e e' env env' bs bs' xs xs' s) × StartsGrow t xs xs' s

abbrev pub AreDone : {S : Type 0} → Tables → (K : ℕ → List Ty → Ty) → (e e' : Emitter) → (env env' : Environment) → (xs xs' : List (IndexMap ℕ Variable S)) → List Step → Type 0
AreDone t K e e' env env' xs xs' steps = StepsWritten t K e e' env env' xs xs' steps × AllStartsGrow t xs xs' steps

-- NECK before, and PROCEED behind them
pub record BodyWritten {S : Type 0} (t : Tables) (K : ℕ → List Ty → Ty) (e e' : Emitter) (env env' : Environment) (xs xs' : List (IndexMap ℕ Variable S)) (steps : List Step) : Type 0 where
  pub begun : Emitter
  pub said : Emitter
  pub neck : NeckPut e begun
  pub written : AreDone t K begun said env env' xs xs' steps
  pub code_is : e'.code.items ≡ said.code.items ++ instr.Proceed ∷ []
  pub types_stay : e'.types ≡ said.types
  pub registers_stay : e'.registers ≡ said.registers
