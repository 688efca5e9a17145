-- A search between two turns as the definition's state: the branch at work, and the alternatives of the innermost search with the tasks for which they stand.
use Rattle.std.specs.Prelude.{Bool, true, false, ◌⊎◌, ◌≡◌, ℕ, suc, ◌+◌, ◌-◌, ◌<◌, ◌≤◌, List, [], ◌∷◌, length, take, drop, Some}
use Rattle.lp_calculus.specs.Term.{Term}
use Rattle.lp_term.specs.Nodes.{tree}
use Rattle.lp_model.specs.Branch.{Answer, Branch, Entry, Task, Go}
use Rattle.lp_model.specs.Flat.{Clause}
use Rattle.lp_model.specs.Search.{look}
use Rattle.lp_model.specs.Skeleton.{Goes, Inner, State, Stops, View, move, row_limit}
use Rattle.lp_model.specs.declared.ending.Ending.{Ending}
use Rattle.lp_model.specs.declared.ending.Ending.TheVariants.{Deep, NoMore, NoMoreCut}
use Rattle.lp_plain.specs.declared.candidates.Candidate.{Candidate}
use Rattle.lp_plain.specs.declared.outcome.Turn.{Turn}
use Rattle.lp_plain.specs.declared.choice.Call.{Call}
use Rattle.lp_plain.specs.declared.choice.Choice.{Choice}
use Rattle.lp_plain.specs.declared.choice.Untried.{Untried}
use Rattle.lp_plain.specs.declared.machine.Machine.{Machine}
use Rattle.lp_plain.specs.Assuming.{ArePlaced, IsLaterAround, IsPlaceAt}
use Rattle.lp_plain.specs.Entries.{Around, AreEntries, IsBranchAt, IsChoiceAt}
use Rattle.lp_plain.specs.Scopes.{blocks_at}
use Rattle.lp_plain.specs.Stacks.{base_of, stack_of}
use Rattle.lp_plain.specs.Taking.{IsKept}
use Rattle.lp_plain.specs.Tables.{shown}
use Rattle.lp_plain.specs.Trying.{AreTries, first_in, lists_at, tries_of}
use Rattle.lp_plain.specs.Within.{IsKeyIn, StandsIn}

-- the candidates that an alternative has left are these clauses, tried for this goal
pub record IsTriesAt (m : Machine) (a : Around) (c : Choice) (t : Term) (e : Entry) (b : Branch) (cs : List Clause) : Type 0 where
  pub call : Call
  pub next_one : Candidate
  pub left : c.untried ≡ Untried.Clauses call next_one
  pub tries : AreTries (lists_at c m) (first_in m call.head) call.key (Some next_one) cs
  pub known_goal : call.goal.0 < length m.bank.terms
  pub known_key : IsKeyIn (length m.bank.terms) call.key
  pub place : IsPlaceAt (lists_at c m) a call.place
  pub goal : tree m.bank call.goal.0 ≡ t
  pub assumed : e.assumed ≡ a.assumed call.place.assumed
  pub written : e.written ≡ a.written call.place.standing
  pub level : e.level ≡ call.place.level
  pub mark : e.mark ≡ a.mark call.place.mark
  pub behind : AreEntries m.bank (shown m.table) (blocks_at c.lengths.scopes m.scopes) a (take c.lengths.frames m.frames.items) call.behind b.goals
  pub next : c.next ≡ b.next
  pub next_type : c.next_type ≡ b.next_type

-- the tasks of an alternative that stands above so many others: the right side of a `;`, or clauses that are left to try
pub data StandsFor (m : Machine) (a : Around) (c : Choice) (below : ℕ) : List Task → Type 0 where
  a_side : {ts : List Task} (b : Branch) → IsKept m a c → IsChoiceAt m a c b → ts ≡ Go b ∷ [] → StandsFor m a c below ts
  some_tries : {ts : List Task} (t : Term) (e : Entry) (b : Branch) (k : Clause) (cs : List Clause) → IsKept m a c → IsTriesAt m a c t e b (k ∷ cs) →
      ts ≡ tries_of t e b below (k ∷ cs) → StandsFor m a c below ts

-- so do alternatives, the oldest first
abbrev pub StandForAll : Machine → Around → List Choice → (below : ℕ) → List (List Task) → Type 0
StandForAll m a [] n [] = Unit {0}
StandForAll m a [] n (ts ∷ tss) = ⊥
StandForAll m a (c ∷ cs) n [] = ⊥
StandForAll m a (c ∷ cs) n (ts ∷ tss) = StandsFor m a c n ts × StandForAll m a cs (n + length ts) tss

-- what there was at the one alternative there was at the other
pub record IsWithin (c d : Choice) : Type 0 where
  pub frames : c.lengths.frames ≤ d.lengths.frames
  pub blocks : c.lengths.scopes.blocks ≤ d.lengths.scopes.blocks
  pub values : c.lengths.scopes.values ≤ d.lengths.scopes.values
  pub assumptions : c.lengths.assumptions ≤ d.lengths.assumptions
  pub newest : c.lengths.newest ≤ d.lengths.newest
  pub standings : c.lengths.standings ≤ d.lengths.standings

-- so for each alternative and the next one
abbrev pub AreNested : List Choice → Type 0
AreNested [] = Unit {0}
AreNested (c ∷ []) = Unit {0}
AreNested (c ∷ d ∷ cs) = IsWithin c d × AreNested (d ∷ cs)

-- the innermost search: its branch at work, and its alternatives
pub record IsSearch (m : Machine) (a : Around) (b : Branch) (tss : List (List Task)) : Type 0 where
  pub branch : IsBranchAt m a b
  pub stands : StandsIn m
  pub placed : ArePlaced m a
  pub base : base_of m.denied ≤ length m.choices.items
  pub alternatives : StandForAll m a (drop (base_of m.denied) m.choices.items) 0 tss
  pub nested : AreNested (drop (base_of m.denied) m.choices.items)

-- its alternatives alone, where its branch came to nothing: the search is to go back
pub record IsDone (m : Machine) (a : Around) (tss : List (List Task)) : Type 0 where
  pub stands : StandsIn m
  pub base : base_of m.denied ≤ length m.choices.items
  pub alternatives : StandForAll m a (drop (base_of m.denied) m.choices.items) 0 tss
  pub nested : AreNested (drop (base_of m.denied) m.choices.items)

-- so as a state of the definition, with what is counted
pub record IsStateOf (m : Machine) (a : Around) (s : State Task) : Type 0 where
  pub at_work : Branch
  pub others : List (List Task)
  pub search : IsSearch m a at_work others
  pub stack : s.stack ≡ Go at_work ∷ stack_of others
  pub steps : s.steps ≡ m.counts.limit - m.counts.steps
  pub rows : s.rows ≡ row_limit
  pub row : s.row ≡ row_limit - m.counts.row
  pub lost : s.lost ≡ m.counts.lost

-- so where the search is to go back
pub record IsBackOf (m : Machine) (a : Around) (s : State Task) : Type 0 where
  pub others : List (List Task)
  pub search : IsDone m a others
  pub stack : s.stack ≡ stack_of others
  pub steps : s.steps ≡ m.counts.limit - m.counts.steps
  pub rows : s.rows ≡ row_limit
  pub row : s.row ≡ row_limit - m.counts.row
  pub lost : s.lost ≡ m.counts.lost

-- the search goes on, or the definition's ends: a million goals were taken apart in a row
abbrev pub GoesOnOrStops : Turn → State Task → Type 0
GoesOnOrStops turn s = (turn ≡ Turn.On) ⊎ ((turn ≡ Turn.Ended Deep) × ((k : ℕ) → s.answers ≡ suc k → (go : (Answer → Bool) → State Task → Inner)
    (u n : ℕ) (P : List Clause) → move go (look u n P) s ≡ Stops Deep))

-- no alternative is left: so the definition's search ends, too
abbrev pub last_ending : Bool → Ending
last_ending true = NoMoreCut
last_ending false = NoMore

abbrev pub EndsSo : Turn → (lost : Bool) → State Task → Type 0
EndsSo turn lost s = (turn ≡ Turn.Ended (last_ending lost)) × ((k : ℕ) → s.answers ≡ suc k → (go : (Answer → Bool) → State Task → Inner)
    (see : ℕ → Task → View Task Answer) → move go see s ≡ Stops (last_ending lost))

-- one turn is one move of the definition, which tells nothing and takes no step
abbrev pub IsQuietMove : (old new : Machine) → Around → (u n : ℕ) → List Clause → ((Answer → Bool) → State Task → Inner) → State Task → Type 0
IsQuietMove old new a u n P go s =
    (d : Around) × (z : State Task) × IsLaterAround (length old.newest.items) (length old.standings.items) a d × IsStateOf new d z ×
    (move go (look u n P) s ≡ Goes 0 [] z) × (z.answers ≡ s.answers) × (z.given ≡ s.given)
