-- What is looked for before there is code: how many are still to be met.
use Rattle.std.specs.Prelude.{◌≡◌, ℕ, zero, suc, ◌+◌, ◌*◌, ◌<◌, List, map, sum_by}
use Rattle.lp_base.specs.declared.limit.Limit.{Limit}
use Rattle.lp_base.specs.declared.limit.Limit.TheVariants as limit
use Rattle.lp_calculus.specs.Term.{Term}
use Rattle.lp_term.specs.Nodes.{Nodes, tree}
use Rattle.lp_term.specs.Walk.{size}
use Rattle.lp_model.specs.Flat.{Goals}
use Rattle.lp_model.specs.Flattened.{goals_of, clauses_of}
use Rattle.lp_gen.specs.declared.fault.GenRefusal.{GenRefusal}
use Rattle.lp_gen.specs.declared.fault.GenRefusal.TheVariants as refusal
use Rattle.lp_gen.specs.declared.limits.Look.{Look}
use Rattle.lp_gen.specs.declared.limits.Look.TheVariants as look
use Rattle.lp_gen.specs.declared.limits.Source.{Source}
use Rattle.lp_gen.specs.declared.limits.Source.TheVariants as on
use Rattle.lp_gen.specs.Limits.{TermCounting, Counting, goals_counts, clauses_counts, in_strings, of_strings, in_arguments, of_arguments, in_nesting, of_nesting, of_records, Counts}
use Rattle.lp_gen.specs.inner.Sizes.{goals_weigh}
use Rattle.lp_gen.specs.inner.Capturing.{goal_size, clause_size}

-- a refusal of a record, and of a plan of so many records, where so many are allowed

abbrev pub IsOfPlan : (records most : ℕ) → GenRefusal → Type 0
IsOfPlan r m (refusal.Limit limit.Clauses) = m < r
IsOfPlan r m (refusal.Limit limit.Registers) = Unit {0}
IsOfPlan r m (refusal.Limit l) = ⊥
IsOfPlan r m refusal.Memory = Unit {0}

abbrev pub IsOfRecord : GenRefusal → Type 0
IsOfRecord e = (r m : ℕ) → IsOfPlan r m e

-- no node of a term makes a record
abbrev pub in_records : TermCounting
in_records = record { of_node = λ n. 0; of_atom = λ a. 0; to_head = λ n. n; to_part = λ n. n }

abbrev pub nodes_of : Look → TermCounting
nodes_of look.Strings = in_strings
nodes_of look.Arguments = in_arguments
nodes_of look.Nesting = in_nesting
nodes_of look.Records = in_records

abbrev pub counting_of : Look → Counting
counting_of look.Strings = of_strings
counting_of look.Arguments = of_arguments
counting_of look.Nesting = of_nesting
counting_of look.Records = of_records

abbrev pub limit_of : Look → Limit
limit_of look.Strings = limit.Text
limit_of look.Arguments = limit.Arguments
limit_of look.Nesting = limit.Nesting
limit_of look.Records = limit.Clauses

-- how many may be met, where none may: of all but records
abbrev pub strict : Look → ℕ → ℕ
strict look.Strings r = r
strict look.Arguments r = r
strict look.Nesting r = r
strict look.Records r = 0

-- the limit is told, where more are met
abbrev pub IsOver : Look → (room count : ℕ) → GenRefusal → Type 0
IsOver k r n (refusal.Limit l) = (l ≡ limit_of k) × (r < n)
IsOver k r n refusal.Memory = Unit {0}

-- so many times
abbrev pub times : (ℕ → ℕ) → ℕ → ℕ → ℕ
times f zero n = n
times f (suc k) n = f (times f k n)

-- a number that leads so far that all terms, or goals, behind it pass the limit

abbrev pub TermsOver : Look → (room number : ℕ) → GenRefusal → Type 0
TermsOver k r n e = (t : Term) → IsOver k r ((counting_of k).of_term n t) e

abbrev pub GoalsOver : Look → (room number : ℕ) → GenRefusal → Type 0
GoalsOver k r n e = (gs : Goals) → IsOver k r (goals_counts (counting_of k) n gs) e

abbrev pub source_counts : Nodes → Counting → Source → ℕ
source_counts b k (on.Clauses cs n) = clauses_counts k n (clauses_of b cs.now)
source_counts b k (on.Goals gs n) = goals_counts k n (goals_of b gs.now)
source_counts b k (on.Terms ids n) = sum_by (λ t. k.of_term n (tree b t.0)) ids.now
source_counts b k (on.Term t n) = k.of_term n (tree b t.0)

abbrev pub counts_left : Nodes → Counting → List Source → ℕ
counts_left b k ss = sum_by (source_counts b k) ss

-- so many are met where a place gives way to others
abbrev pub IsMet : Nodes → Look → (room room' : ℕ) → (ss ss' : List Source) → (count : ℕ) → Type 0
IsMet b k r r' ss ss' n = r + counts_left b (counting_of k) ss' ≡ r' + (counts_left b (counting_of k) ss + n)

-- what a place has of each
abbrev pub counts_of_source : Nodes → Source → Counts
counts_of_source b s = record {
  strings = source_counts b of_strings s;
  arguments = source_counts b of_arguments s;
  nesting = source_counts b of_nesting s;
  records = source_counts b of_records s;
}

-- how much is left to look at

abbrev pub source_task : Nodes → Source → ℕ
source_task b (on.Clauses cs n) = goals_weigh (map (clause_size b) cs.now)
source_task b (on.Goals gs n) = goals_weigh (map (goal_size b) gs.now)
source_task b (on.Terms ids n) = 1 + sum_by (λ t. 1 + 4 * size (tree b t.0)) ids.now
source_task b (on.Term t n) = 4 * size (tree b t.0)

abbrev pub source_work : Nodes → List Source → ℕ
source_work b ss = sum_by (source_task b) ss
