-- The code of goals in a body, by their form: from which numbers on registers are new, and up to which they are used.
use Rattle.std.specs.Prelude.{◌≡◌, ℕ, zero, suc, ◌+◌, ◌<◌, true, List, [], ◌∷◌, ◌++◌, length, sum_by, Vec, Some}
use Rattle.std.specs.Global.{Global}
use Rattle.lp_calculus.specs.Types.{Ty}
use Rattle.lp_calculus.specs.Term.{Term}
use Rattle.lp_model.specs.Flat.{Goal, Goals, Clauses, Atomic, Cut, Either, Exists, Forall, Assume, Not, no_goals, goals}
use Rattle.lp_code.specs.declared.instruction.Instr.{Instr}
use Rattle.lp_code.specs.declared.instruction.Instr.TheVariants as on
use Rattle.lp_code.specs.Length.{length_of}
use Rattle.lp_code.specs.Denote.{from_zero}
use Rattle.lp_gen.specs.declared.emitter.Emitter.{Emitter}
use Rattle.lp_gen.specs.Sources.{ends_list}
use Rattle.lp_gen.specs.inner.Running.{IsTypePut}
use Rattle.lp_gen.specs.Steps.{Seen, Around, at_level}
use Rattle.lp_gen.specs.inner.Doing.{AtomWritten}
use Rattle.lp_gen.specs.inner.Bodies.{pushed, IsShort}

-- a variable of a quantifier, in its register
abbrev pub quantified : (register : ℕ) → Ty → Seen
quantified d T = record { register = d; of = T; is_set = true }

-- the counts of an emitter
pub record Counts (e : Emitter) (types terms : ℕ) : Type 0 where
  pub types_are : e.types ≡ types
  pub registers_are : e.registers ≡ terms

-- the code of an atom
pub record AtomCode (K : ℕ → List Ty → Ty) (a : Around) (types types' terms terms' : ℕ) (t : Term) (is : List Instr) : Type 0 where
  pub old : Emitter
  pub new : Emitter
  pub before : Counts old types terms
  pub after : Counts new types' terms'
  pub written : AtomWritten K old new a a t
  pub code_is : is ≡ written.more
  pub some : 0 < sum_by length_of is

-- the code of a type, which is behind it in a register
pub record KindCode (types types' register : ℕ) (T : Ty) (is : List Instr) : Type 0 where
  pub old : Emitter
  pub new : Emitter
  pub before : old.types ≡ types
  pub after : new.types ≡ types'
  pub put : IsTypePut old new register T
  pub code_is : is ≡ put.more

-- numbers of records one after the other
abbrev pub numbers : (first count : ℕ) → List ℕ
numbers q zero = []
numbers q (suc n) = q ∷ numbers (suc q) n

-- registers of the variables of these levels
abbrev pub AreRegisters : Around → (levels registers : List ℕ) → Type 0
AreRegisters a [] [] = Unit {0}
AreRegisters a [] (r ∷ rs) = ⊥
AreRegisters a (l ∷ ls) [] = ⊥
AreRegisters a (l ∷ ls) (r ∷ rs) = (v : Seen) × (at_level a l ≡ Some v) × (v.register ≡ r) × AreRegisters a ls rs

-- `P` says of records that they are the code of assumed clauses, and that they start with the variables of these levels; `q` is the next number of a record, and
-- `v` the number of type variables
abbrev mutual
  pub GoalCode : (P : Around → (records levels : List ℕ) → Clauses → Type 0) → (K : ℕ → List Ty → Ty) → (v : ℕ) → Around → (types types' terms terms' next next' : ℕ) → Goal → List Instr → Type 0
  GoalCode P K v a n n' k k' q q' (Atomic t) is = AtomCode K a n n' k k' t is × (q' ≡ q)
  GoalCode P K v a n n' k k' q q' Cut is = (n' ≡ n) × (k' ≡ k) × (q' ≡ q) × (is ≡ on.Cut ∷ [])
  GoalCode P K v a n n' k k' q q' (Either gs hs) is =
      (m : ℕ) × (l : ℕ) × (o : ℕ) × (nl : ℕ) × (mr : ℕ) × (ls : List Instr) × (rs : List Instr) × GoalsCode P K v a n m k l q o gs ls × GoalsCode P K
      v a m n' l k' o q' hs rs × (nl ≡ sum_by length_of ls + 5)
      × (mr ≡ sum_by length_of rs) × (is ≡ on.Either nl ∷ (ls ++ on.Jump mr ∷ rs))
  GoalCode P K v a n n' k k' q q' (Exists T gs) is =
      (m : ℕ) × (r : ℕ) × (ts : List Instr) × (js : List Instr) × KindCode n m r T ts × IsShort (pushed a (quantified k T)) × GoalsCode P K v (pushed a (quantified k T)) m n' (k + 1) k' q q' gs js
      × (is ≡ ts ++ (on.Sigma k r ∷ [] ++ js))
  GoalCode P K v a n n' k k' q q' (Forall T gs) is =
      (m : ℕ) × (r : ℕ) × (ts : List Instr) × (js : List Instr) × KindCode n m r T ts × IsShort (pushed a (quantified k T)) × GoalsCode P K v (pushed a (quantified k T)) m n' (k + 1) k' q q' gs js
      × (is ≡ ts ++ (on.All k r ∷ [] ++ (js ++ on.EndAll ∷ [])))
  GoalCode P K v a n n' k k' q q' (Assume w cs gs) is =
      (ns : Vec ℕ Global) × (ts : Vec ℕ Global) × (rs : Vec ℕ Global) × (ls : List ℕ) × (js : List Instr) × P a ns.items ls cs × AreRegisters a ls rs.items × (ts.items ≡ from_zero v)
      × (ns.items ≡ numbers q (length ns.items)) × GoalsCode P K v a n n' k k' (q + length ns.items) q' gs js × (is ≡ on.Assume ns ts rs ∷ [] ++ (js ++ on.EndAssume ∷ []))
  GoalCode P K v a n n' k k' q q' (Not w gs) is = (js : List Instr) × GoalsCode P K v a n n' k k' q q' gs js × (is ≡ on.Not ∷ [] ++ (js ++ on.EndNot ∷ []))

  pub GoalsCode : (P : Around → (records levels : List ℕ) → Clauses → Type 0) → (K : ℕ → List Ty → Ty) → (v : ℕ) → Around → (types types' terms terms' next next' : ℕ) → Goals → List Instr → Type 0
  GoalsCode P K v a n n' k k' q q' no_goals is = (n' ≡ n) × (k' ≡ k) × (q' ≡ q) × (is ≡ [])
  GoalsCode P K v a n n' k k' q q' (goals g gs) is =
      (m : ℕ) × (l : ℕ) × (o : ℕ) × (js : List Instr) × (ks : List Instr) × GoalCode P K v a n m k l q o g js × GoalsCode P K v a m n' l k' o q' gs ks × ends_list g gs × (is ≡ js ++ ks)
