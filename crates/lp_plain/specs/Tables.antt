-- What the numbers of a table mean: the goals and clauses of the definition that were put there, part by part.
use Rattle.std.specs.Prelude.{◌≡◌, ℕ, suc, ◌<◌, ◌⊎◌, List, [], map, length, get_or, Some, None, slice_get}
use Rattle.lp_calculus.specs.Term.{Term}
use Rattle.lp_calculus.specs.Spine.{head_of, arguments}
use Rattle.lp_term.specs.Nodes.{Nodes, tree}
use Rattle.lp_term.specs.declared.node.TermId.{TermId}
use Rattle.lp_model.specs.Flat.{Goal, Atomic, Cut, Either, Exists, Forall, Assume, Not, Goals, no_goals, goals, Clause, clause, Clauses, no_clauses, clauses, collect_goals, collect_clauses, written_in_goals, written_in_clauses}
use Rattle.lp_model.specs.Search.{first_key}
use Rattle.lp_plain.specs.declared.free.Free.{Free}
use Rattle.lp_plain.specs.declared.table.Flat.{Flat}
use Rattle.lp_plain.specs.declared.table.Rule.{Rule}
use Rattle.lp_plain.specs.declared.table.Span.{Span}
use Rattle.lp_plain.specs.declared.table.Table.{Table}
use Rattle.lp_plain.specs.Collected.{AreCollected}
use Rattle.lp_plain.specs.Heads.{IsKey, slot_place, pair_places, pair_in}

-- the lists of a table
pub record Shown : Type 0 where
  pub goals : List Flat
  pub lists : List Span
  pub rules : List Rule
  pub frees : List Free

abbrev pub shown : Table → Shown
shown t = record { goals = t.goals.items; lists = t.lists.items; rules = t.rules.items; frees = t.frees.items }

-- the head of a clause with so many variables: its symbol, the arguments that are variables, the other ones, the key of the first
pub record IsHeadOf (b : Nodes) (vars : ℕ) (r : Rule) (h : Term) : Type 0 where
  pub head : tree b r.head.0 ≡ head_of h
  pub count : length r.slots.items ≡ vars
  pub slots : (k : ℕ) → k < vars → get_or r.slots.items k None ≡ slot_place k 0 [] (arguments h)
  pub pairs : map (pair_in b) r.pairs.items ≡ pair_places vars 0 [] (arguments h)
  pub key : IsKey b r.key (first_key (arguments h))

-- what is collected so has this number
abbrev pub IsNumbered : List Free → ℕ → ((ℕ → Term → List ℕ) → List ℕ) → Type 0
IsNumbered frees n collect = (f : Free) × (slice_get frees n ≡ Some f) × AreCollected f collect

-- a list by its number: its goals are still to come, or those of these numbers are so
abbrev pub Listed : (comes : ℕ → Goals → Type 0) → Shown → (Are : (from to : ℕ) → Type 0) → ℕ → Goals → Type 0
Listed c t Are n gs = c n gs ⊎ ((s : Span) × (slice_get t.lists n ≡ Some s) × Are s.from s.to)

-- a flattened goal, goals by the numbers from the first to behind the last, a clause, clauses in the same way. `comes` holds of lists whose goals are still to
-- come
abbrev mutual
  pub IsGoal : Nodes → (comes : ℕ → Goals → Type 0) → Shown → Flat → Goal → Type 0
  IsGoal b c t f (Atomic u) = (i : TermId) × (f ≡ Flat.Atom i) × (tree b i.0 ≡ u)
  IsGoal b c t f Cut = f ≡ Flat.Cut
  IsGoal b c t f (Either gs hs) = (l r : ℕ) × (f ≡ Flat.Either l r) × Listed c t (λ i j. AreGoals b c t i j gs) l gs × Listed c t (λ i j. AreGoals b c t i j hs) r hs
  IsGoal b c t f (Exists T gs) = (l : ℕ) × (f ≡ Flat.Some l) × Listed c t (λ i j. AreGoals b c t i j gs) l gs
  IsGoal b c t f (Forall T gs) = (l : ℕ) × (f ≡ Flat.All l) × Listed c t (λ i j. AreGoals b c t i j gs) l gs
  IsGoal b c t f (Assume w cs gs) =
      (s : Span) × (l n : ℕ) × (f ≡ Flat.Assume s l n) × (w ≡ written_in_clauses cs) × AreRules b c t s.from s.to cs × Listed c t (λ i j. AreGoals b c t i j gs) l gs × IsNumbered t.frees n (λ f. collect_clauses f 0 cs)
  IsGoal b c t f (Not w gs) = (l n : ℕ) × (f ≡ Flat.Not l n) × (w ≡ written_in_goals gs) × Listed c t (λ i j. AreGoals b c t i j gs) l gs × IsNumbered t.frees n (λ f. collect_goals f 0 gs)

  pub AreGoals : Nodes → (comes : ℕ → Goals → Type 0) → Shown → (from to : ℕ) → Goals → Type 0
  AreGoals b c t from to no_goals = from ≡ to
  AreGoals b c t from to (goals g gs) = (f : Flat) × (slice_get t.goals from ≡ Some f) × IsGoal b c t f g × AreGoals b c t (suc from) to gs

  pub IsRule : Nodes → (comes : ℕ → Goals → Type 0) → Shown → ℕ → Clause → Type 0
  IsRule b c t i (clause n vs h body) = (r : Rule) × (slice_get t.rules i ≡ Some r) × (r.type_vars ≡ n) × IsHeadOf b (length vs) r h × Listed c t (λ i j. AreGoals b c t i j body) r.body body

  pub AreRules : Nodes → (comes : ℕ → Goals → Type 0) → Shown → (from to : ℕ) → Clauses → Type 0
  AreRules b c t from to no_clauses = from ≡ to
  AreRules b c t from to (clauses k ks) = IsRule b c t from k × AreRules b c t (suc from) to ks

abbrev pub IsList : Nodes → (comes : ℕ → Goals → Type 0) → Shown → ℕ → Goals → Type 0
IsList b c t n gs = Listed c t (λ i j. AreGoals b c t i j gs) n gs

-- no list is still to come
abbrev pub Never : ℕ → Goals → Type 0
Never n gs = ⊥

-- the list of this number has these goals
abbrev pub IsListOf : Nodes → Table → ℕ → Goals → Type 0
IsListOf b t n gs = IsList b Never (shown t) n gs

-- the clauses of these numbers are these
abbrev pub AreClausesOf : Nodes → Table → Span → Clauses → Type 0
AreClausesOf b t s cs = AreRules b Never (shown t) s.from s.to cs
