-- A search between two turns as the definition's state, all bindings put in, and turns as moves of the definition. The goals of a branch are read as they stand in the bank
-- (specs/Entries); the entries of the definition are these as the bindings of the branch read them. An alternative has the bindings of then.
use Rattle.std.specs.Prelude.{◌≡◌, ◌⊎◌, Bool, ℕ, zero, suc, ◌+◌, ◌-◌, ◌<◌, ◌≤◌, List, [], ◌∷◌, ◌++◌, All, map, length, take, drop, Option, None, Some, slice_get}
use Rattle.lp_calculus.specs.Fill.{Within}
use Rattle.lp_calculus.specs.Types.{instance, var}
use Rattle.lp_calculus.specs.Spine.{head_of}
use Rattle.lp_calculus.specs.Term.{Term}
use Rattle.lp_term.specs.Nodes.{Nodes}
use Rattle.lp_term.specs.declared.node.TermId.{TermId}
use Rattle.lp_model.specs.Branch.{Answer, Branch, Entry, Task, Go, Try}
use Rattle.lp_model.specs.Flat.{Clause, Goal, Goals, Atomic, Cut, Either, Exists, Forall, Assume, Not, Written, goal_list, map_written}
use Rattle.lp_model.specs.Pair.{Closing, closed}
use Rattle.lp_model.specs.Search.{look, types_from, vars_from}
use Rattle.lp_model.specs.Skeleton.{AnswerNote, Goes, Inner, Move, Note, State, back, back_for_more, Stops, Tells, View, Waits, move, row_limit}
use Rattle.lp_model.specs.Unify.{unit_limit}
use Rattle.lp_model.specs.declared.answer.Pair.{Pair as Numbers}
use Rattle.lp_model.specs.declared.ending.Ending.TheVariants.{Deep}
use Rattle.lp_pattern.specs.Growing.{IsPairOf}
use Rattle.lp_pattern.specs.Putting.{Known}
use Rattle.lp_pattern.specs.Turning.{AreKnownPairs, ArePairsFor, IsOpenReading}
use Rattle.lp_pattern.specs.declared.bindings.Bindings.{Bindings}
use Rattle.lp_plain.specs.declared.candidates.Candidate.{Candidate}
use Rattle.lp_plain.specs.declared.choice.Call.{Call}
use Rattle.lp_plain.specs.declared.choice.Choice.{Choice}
use Rattle.lp_plain.specs.declared.choice.Denial.{Denial}
use Rattle.lp_plain.specs.declared.choice.Untried.{Untried}
use Rattle.lp_plain.specs.declared.frame.Place.{Place}
use Rattle.lp_plain.specs.declared.machine.Machine.{Machine}
use Rattle.lp_plain.specs.declared.outcome.Turn.{Turn}
use Rattle.lp_plain.specs.declared.table.Flat.{Flat}
use Rattle.lp_plain.specs.declared.table.Span.{Span}
use Rattle.lp_plain.specs.declared.unified.Unified.{Unified}
use Rattle.lp_plain.specs.Assuming.{ArePlaced, IsPlaceAt, KeepsAssumed, Lists, links, lists_of}
use Rattle.lp_plain.specs.Candidates.{AreLeft}
use Rattle.lp_plain.specs.Entries.{Around, HeadsTo, IsAt, KeepsGoals, Reads, entry_at, in_scope, placed}
use Rattle.lp_plain.specs.Followed.{IsClauseWritten, clause_by}
use Rattle.lp_plain.specs.Resuming.{AllOfAssumed, AllOfClause, AllTerms, AreKnownEntries, clause_with, goal_with}
use Rattle.lp_plain.specs.Scopes.{blocks_of}
use Rattle.lp_plain.specs.Searching.{AreNested, IsDone, StandForAll}
use Rattle.lp_plain.specs.Stacks.{base_of, stack_of}
use Rattle.lp_plain.specs.Tables.{AreGoals, IsGoal, Never, shown}
use Rattle.lp_plain.specs.Taking.{goal_in}
use Rattle.lp_plain.specs.Trials.{IsCallHead, goal_of}
use Rattle.lp_plain.specs.Trying.{AreCandidates, IsCandidate, first_in, lists_at, tries_of}
use Rattle.lp_plain.specs.TypedStates.{IsTypedOver}
use Rattle.lp_plain.specs.Within.{IsKeyIn}

-- the definition's mark for a mark of the search: as many tasks as the oldest alternatives up to it stand for
abbrev pub mark_in : (base : ℕ) → List (List Task) → (mark : ℕ) → ℕ
mark_in base tss k = length (stack_of (take (k - base) tss))

-- a goal as the bindings read it. A goal that is known at run time may have taken a step of head reduction
abbrev pub IsGoalUnder : Closing → Goal → Goal → Type 0
IsGoalUnder z (Atomic t) d = (v : Term) × HeadsTo (closed z t) v × (d ≡ Atomic v)
IsGoalUnder z Cut d = d ≡ Cut
IsGoalUnder z (Either gs hs) d = d ≡ goal_with (closed z) (instance z.types) (Either gs hs)
IsGoalUnder z (Exists T gs) d = d ≡ goal_with (closed z) (instance z.types) (Exists T gs)
IsGoalUnder z (Forall T gs) d = d ≡ goal_with (closed z) (instance z.types) (Forall T gs)
IsGoalUnder z (Assume w cs gs) d = d ≡ goal_with (closed z) (instance z.types) (Assume w cs gs)
IsGoalUnder z (Not w gs) d = d ≡ goal_with (closed z) (instance z.types) (Not w gs)

-- so what is assumed and written, at its level
pub record IsPlaceUnder (z : Closing) (e d : Entry) : Type 0 where
  pub assumed : d.assumed ≡ map (clause_with (closed z) (instance z.types)) e.assumed
  pub written : d.written ≡ map_written (closed z) (instance z.types) e.written
  pub level : d.level ≡ e.level

-- so an entry, with the definition's mark for its own, which is within these bounds
pub record IsEntryUnder (z : Closing) (marks : ℕ → ℕ) (least most : ℕ) (e d : Entry) : Type 0 where
  pub goal : IsGoalUnder z e.goal d.goal
  pub place : IsPlaceUnder z e d
  pub mark : d.mark ≡ marks e.mark
  pub low : least ≤ e.mark
  pub high : e.mark ≤ most

-- so entries one by one. An entry behind another has no greater mark
abbrev pub AreEntriesUnder : Closing → (marks : ℕ → ℕ) → (least most : ℕ) → List Entry → List Entry → Type 0
AreEntriesUnder z m l u [] [] = Unit {0}
AreEntriesUnder z m l u [] (d ∷ ds) = ⊥
AreEntriesUnder z m l u (e ∷ es) [] = ⊥
AreEntriesUnder z m l u (e ∷ es) (d ∷ ds) = IsEntryUnder z m l u e d × AreEntriesUnder z m l e.mark es ds

-- a search that waits for that of a negated goal: how many type variables and variables its query has, the answers that are left behind the next one and those that were
-- given, whether a cut removed an alternative, the branch to go on with where the goal is refuted, and the tasks below it
pub record Waiting : Type 0 where
  pub types : ℕ
  pub vars : ℕ
  pub left : ℕ
  pub given : ℕ
  pub lost : Bool
  pub branch : Branch
  pub rest : List Task

-- how many type variables and variables the query of the search at work has, how many types a constant takes, and the searches that wait, the innermost first
pub record Query : Type 0 where
  pub types : ℕ
  pub vars : ℕ
  pub arity : ℕ → ℕ
  pub outer : List Waiting

-- each variable that is read in a branch has a level, and a number below the next one; no type variable from the next one on is bound
pub record IsKnownAs (qv : Query) (z : Closing) (levels : ℕ → ℕ) (b d : Branch) : Type 0 where
  pub goals : AreKnownEntries levels b.next z b.goals
  pub values : AllTerms (λ i t. Within (Known levels b.next) i (closed z t)) 0 (vars_from qv.vars 0)
  pub pairs : AreKnownPairs levels b.next d.pairs
  pub free : (x : ℕ) → b.next_type ≤ x → z.types x ≡ var x

-- no logic variable stands in the term, and its loose indices are below d
abbrev pub HasNoVariable : ℕ → Term → Type 0
HasNoVariable d t = Within (Known (λ x. 0) 0) d t

-- so a branch, with these residual pairs, and with what the query's variables are
pub record IsBranchUnder (qv : Query) (levels : ℕ → ℕ) (k : Nodes) (z : Closing) (marks : ℕ → ℕ) (least most : ℕ) (left : List Numbers) (b d : Branch) : Type 0 where
  pub goals : AreEntriesUnder z marks least most b.goals d.goals
  pub next : d.next ≡ b.next
  pub next_type : d.next_type ≡ b.next_type
  pub types : d.types ≡ map (instance z.types) (types_from qv.types 0)
  pub values : d.values ≡ map (closed z) (vars_from qv.vars 0)
  pub pairs : ArePairsFor k z left d.pairs
  pub known : IsKnownAs qv z levels b d

-- candidates as the definition's tasks
abbrev pub tries_under : Closing → List Candidate → List Clause → (goal : Term) → Entry → (rest : Branch) → (mark : ℕ) → List Task
tries_under z [] cs g e d k = []
tries_under z (x ∷ xs) [] g e d k = []
tries_under z (x ∷ xs) (c ∷ cs) g e d k = Try (clause_by z x c) g e d k ∷ tries_under z xs cs g e d k

-- each of the program's clauses is written
abbrev pub AreClausesWritten : Machine → (arity : ℕ → ℕ) → List Candidate → List Clause → Type 0
AreClausesWritten m ar [] cs = Unit {0}
AreClausesWritten m ar (x ∷ xs) [] = Unit {0}
AreClausesWritten m ar (x ∷ xs) (c ∷ cs) = IsClauseWritten m ar x c × AreClausesWritten m ar xs cs

-- from this candidate of a call on these are left, and stand for these clauses
pub record AreCandidatesOf (arity : ℕ → ℕ) (m : Machine) (l : Lists) (call : Call) (one : Candidate) (xs : List Candidate) (cs : List Clause) : Type 0 where
  pub found : AreLeft l.bank l.table.rules.items (links l.assumptions) (first_in m call.head) call.key (Some one) xs
  pub are : AreCandidates l xs cs
  pub known_goal : call.goal.0 < length l.bank.terms
  pub known_first : (u : TermId) → call.first ≡ Some u → u.0 < length l.bank.terms
  pub known_key : IsKeyIn (length l.bank.terms) call.key
  pub head_is : IsCallHead (head_of (goal_of m call))
  pub written : AreClausesWritten m arity xs cs

-- each candidate's clause is known, too
abbrev pub AreKnownTries : Closing → (levels : ℕ → ℕ) → (next : ℕ) → List Candidate → List Clause → Type 0
AreKnownTries z lv n [] cs = Unit {0}
AreKnownTries z lv n (x ∷ xs) [] = Unit {0}
AreKnownTries z lv n (x ∷ xs) (c ∷ cs) = AllOfClause (λ i t. Within (Known lv n) i t) 0 (clause_by z x c) × AreKnownTries z lv n xs cs

-- so the goal of a call, what is assumed in its place and written there, and its candidates
pub record IsKnownCall (z : Closing) (levels : ℕ → ℕ) (next : ℕ) (goal : Term) (A : List Clause) (w : Written) (xs : List Candidate) (cs : List Clause) : Type 0 where
  pub goal_known : Within (Known levels next) 0 goal
  pub assumed : AllOfAssumed (λ i t. Within (Known levels next) i (closed z t)) A
  pub written : AllTerms (λ i t. Within (Known levels next) i (closed z t)) 0 w.terms
  pub tries : AreKnownTries z levels next xs cs

-- the tasks of an alternative: the right side of a `;`, or candidates that are left to try
pub data IsTasksOf (qv : Query) (m : Machine) (c : Choice) (z : Closing) (marks : ℕ → ℕ) (least most : ℕ) : (rs ts : List Task) → Type 0 where
  of_side : {rs ts : List Task} (lv : ℕ → ℕ) (b d : Branch) → rs ≡ Go b ∷ [] → ts ≡ Go d ∷ [] → IsBranchUnder qv lv m.bank z marks least most c.pairs.items b d → IsTasksOf qv m c z marks least most rs ts
  of_call : {rs ts : List Task} (lv : ℕ → ℕ) (call : Call) (one : Candidate) (xs : List Candidate) (cs : List Clause) (t : Term) (e f : Entry) (b d : Branch) (k : ℕ) → c.untried ≡ Untried.Clauses call one →
      AreCandidatesOf qv.arity m (lists_at c m) call one xs cs → rs ≡ tries_of t e b k cs → ts ≡ tries_under z xs cs (closed z (goal_of m call)) f d k → IsPlaceUnder z e f →
      IsBranchUnder qv lv m.bank z marks least most c.pairs.items b d → IsKnownCall z lv b.next (closed z (goal_of m call)) e.assumed e.written xs cs → IsTasksOf qv m c z marks least most rs ts

-- bindings as they were when an alternative was put
pub record AreThoseOf (m : Machine) (c : Choice) (s : Bindings) : Type 0 where
  pub terms : s.terms.entries ≡ take c.bindings.terms m.bindings.terms.entries
  pub types : s.types.entries ≡ take c.bindings.types m.bindings.types.entries

-- the tasks for which an alternative stands, as the bindings of then read them
pub record IsAlternative (qv : Query) (m : Machine) (marks : ℕ → ℕ) (least most : ℕ) (c : Choice) (rs ts : List Task) : Type 0 where
  pub closing : Closing
  pub reading : (s : Bindings) → AreThoseOf m c s → IsOpenReading m.bank s c.next closing
  pub bound_terms : c.bindings.terms ≤ length m.bindings.terms.entries
  pub bound_types : c.bindings.types ≤ length m.bindings.types.entries
  pub left : All (IsPairOf (length m.bank.terms)) c.pairs.items
  pub tasks : IsTasksOf qv m c closing marks least most rs ts

-- so those of alternatives, the oldest first, of which the first stands above so many. What is bound at one is bound at the next one
abbrev pub AreAlternatives : Query → Machine → (marks : ℕ → ℕ) → (least at : ℕ) → List Choice → List (List Task) → List (List Task) → Type 0
AreAlternatives qv m f l k [] [] [] = Unit {0}
AreAlternatives qv m f l k (c ∷ cs) (rs ∷ rss) (ts ∷ tss) = IsAlternative qv m f l k c rs ts × AreAlternatives qv m f l (suc k) cs rss tss
AreAlternatives qv m f l k cs rss tss = ⊥

abbrev pub AreBoundInTurn : List Choice → Type 0
AreBoundInTurn [] = Unit {0}
AreBoundInTurn (c ∷ []) = Unit {0}
AreBoundInTurn (c ∷ d ∷ cs) = (c.bindings.terms ≤ d.bindings.terms) × (c.bindings.types ≤ d.bindings.types) × AreBoundInTurn (d ∷ cs)

-- the alternative of a negated goal as one that goes on with the goals behind it
abbrev pub way_back : Choice → Denial → Choice
way_back c d = record c { untried = Untried.Goals d.behind }

-- the alternatives of the search that waits behind the one of this number, which leads back to it
abbrev pub outer_choices : Machine → (number : ℕ) → Choice → Denial → List Choice
outer_choices m i c d = drop (base_of d.around) (take i m.choices.items) ++ way_back c d ∷ []

-- that search stands for its tasks
pub record IsOuter (arity : ℕ → ℕ) (m : Machine) (a : Around) (number : ℕ) (d : Denial) (w : Waiting) (ws : List Waiting) : Type 0 where
  pub choice : Choice
  pub there : slice_get m.choices.items number ≡ Some choice
  pub denied : choice.untried ≡ Untried.Denied d
  pub low : base_of d.around ≤ number
  pub raws : List (List Task)
  pub others : List (List Task)
  pub stand : StandForAll m a (outer_choices m number choice d) 0 raws
  pub are : AreAlternatives (record { types = w.types; vars = w.vars; arity = arity; outer = ws }) m (mark_in (base_of d.around) raws) (base_of d.around) (base_of d.around) (outer_choices m number choice d) raws others
  pub is : stack_of others ≡ Go w.branch ∷ w.rest
  pub lost : w.lost ≡ d.lost

-- the searches that wait, from that of this negated goal outwards
abbrev pub AreOuter : (arity : ℕ → ℕ) → Machine → Around → Option ℕ → List Waiting → Type 0
AreOuter ar m a None [] = Unit {0}
AreOuter ar m a None (w ∷ ws) = ⊥
AreOuter ar m a (Some i) [] = ⊥
AreOuter ar m a (Some i) (w ∷ ws) = (d : Denial) × IsOuter ar m a i d w ws × AreOuter ar m a d.around ws

-- so around the search at work; of all alternatives what there was, and what was bound, at one was so at the next one
pub record IsInside (qv : Query) (m : Machine) (a : Around) : Type 0 where
  pub outer : AreOuter qv.arity m a m.denied qv.outer
  pub nested : AreNested m.choices.items
  pub in_turn : AreBoundInTurn m.choices.items

-- what is counted, as the definition counts what is left
pub record IsCounted (m : Machine) (s : State Task) : Type 0 where
  pub steps : s.steps ≡ m.counts.limit - m.counts.steps
  pub rows : s.rows ≡ row_limit
  pub row : s.row ≡ row_limit - m.counts.row
  pub lost : s.lost ≡ m.counts.lost

-- the alternatives of the innermost search
pub record HasAlternatives (qv : Query) (m : Machine) (a : Around) (stack : List Task) : Type 0 where
  pub raws : List (List Task)
  pub others : List (List Task)
  pub done : IsDone m a raws
  pub numbers : (k : ℕ) → a.mark k ≡ k
  pub are : AreAlternatives qv m (mark_in (base_of m.denied) raws) (base_of m.denied) (base_of m.denied) (drop (base_of m.denied) m.choices.items) raws others
  pub in_turn : AreBoundInTurn (drop (base_of m.denied) m.choices.items)
  pub is : stack ≡ stack_of others
  pub inside : IsInside qv m a

-- the innermost search: at work on a branch, whose goals stand in the bank as in the first one, above its alternatives
pub record IsRunning (qv : Query) (m : Machine) (a : Around) (raw : Branch) (s : State Task) : Type 0 where
  pub at_work : Branch
  pub rest : List Task
  pub stack : s.stack ≡ Go at_work ∷ rest
  pub above : HasAlternatives qv m a rest
  pub placed : ArePlaced m a
  pub next : m.branch.next ≡ raw.next
  pub next_type : m.branch.next_type ≡ raw.next_type
  pub closing : Closing
  pub reading : IsOpenReading m.bank m.bindings m.branch.next closing
  pub left : All (IsPairOf (length m.bank.terms)) m.branch.pairs.items
  pub levels : ℕ → ℕ
  pub under : IsBranchUnder qv levels m.bank closing (mark_in (base_of m.denied) above.raws) (base_of m.denied) (length m.choices.items) m.branch.pairs.items raw at_work
  pub counted : IsCounted m s

-- a search between two turns
pub record IsState (qv : Query) (m : Machine) (s : State Task) : Type 0 where
  pub around : Around
  pub raw : Branch
  pub goals : Reads m around m.branch.goals raw.goals
  pub running : IsRunning qv m around raw s

-- the search is about to try this candidate of a call, and those behind it, in front of the goals behind the call
pub record IsTrying (qv : Query) (m : Machine) (a : Around) (call : Call) (one : Candidate) (s : State Task) : Type 0 where
  pub tags : List Candidate
  pub clauses : List Clause
  pub candidates : AreCandidatesOf qv.arity m (lists_of m) call one tags clauses
  pub entry : Entry
  pub raw : Branch
  pub rest : Branch
  pub below : List Task
  pub above : HasAlternatives qv m a below
  pub closing : Closing
  pub stack : s.stack ≡ tries_under closing tags clauses (closed closing (goal_of m call)) entry rest (length below) ++ below
  pub placed : ArePlaced m a
  pub place : IsPlaceAt (lists_of m) a call.place
  pub at_place : IsPlaceUnder closing (entry_at a call.place (Atomic (goal_of m call))) entry
  pub goals : Reads m a call.behind raw.goals
  pub next : m.branch.next ≡ raw.next
  pub next_type : m.branch.next_type ≡ raw.next_type
  pub reading : IsOpenReading m.bank m.bindings m.branch.next closing
  pub left : All (IsPairOf (length m.bank.terms)) m.branch.pairs.items
  pub levels : ℕ → ℕ
  pub known : IsKnownCall closing levels raw.next (closed closing (goal_of m call)) (a.assumed call.place.assumed) (a.written call.place.standing) tags clauses
  pub under : IsBranchUnder qv levels m.bank closing (mark_in (base_of m.denied) above.raws) (base_of m.denied) (length m.choices.items) m.branch.pairs.items raw rest
  pub counted : IsCounted m s

-- the first of the definition's tasks is this candidate's; the others are alternatives. A cut in the clause's body keeps the oldest so many alternatives
pub record IsAtTry (qv : Query) (m : Machine) (a : Around) (call : Call) (one : Candidate) (mark : ℕ) (s : State Task) : Type 0 where
  pub tried : Clause
  pub is : IsCandidate (lists_of m) one tried
  pub tried_written : IsClauseWritten m qv.arity one tried
  pub head_is : IsCallHead (head_of (goal_of m call))
  pub entry : Entry
  pub raw : Branch
  pub rest : Branch
  pub height : ℕ
  pub below : List Task
  pub above : HasAlternatives qv m a below
  pub closing : Closing
  pub stack : s.stack ≡ Try (clause_by closing one tried) (closed closing (goal_of m call)) entry rest height ∷ below
  pub mark_is : mark_in (base_of m.denied) above.raws mark ≡ height
  pub low : base_of m.denied ≤ mark
  pub high : mark ≤ length m.choices.items
  pub known_goal : call.goal.0 < length m.bank.terms
  pub known_first : (u : TermId) → call.first ≡ Some u → u.0 < length m.bank.terms
  pub placed : ArePlaced m a
  pub place : IsPlaceAt (lists_of m) a call.place
  pub at_place : IsPlaceUnder closing (entry_at a call.place (Atomic (goal_of m call))) entry
  pub goals : Reads m a call.behind raw.goals
  pub next : m.branch.next ≡ raw.next
  pub next_type : m.branch.next_type ≡ raw.next_type
  pub reading : IsOpenReading m.bank m.bindings m.branch.next closing
  pub left : All (IsPairOf (length m.bank.terms)) m.branch.pairs.items
  pub levels : ℕ → ℕ
  pub known : IsKnownCall closing levels raw.next (closed closing (goal_of m call)) (a.assumed call.place.assumed) (a.written call.place.standing) (one ∷ []) (tried ∷ [])
  pub under : IsBranchUnder qv levels m.bank closing (mark_in (base_of m.denied) above.raws) (base_of m.denied) mark m.branch.pairs.items raw rest
  pub counted : IsCounted m s

-- the goal in front was taken: the branch is to go on with the goals behind it
pub record IsGoingOn (qv : Query) (m : Machine) (a : Around) (raw rest : Branch) (below : List Task) : Type 0 where
  pub above : HasAlternatives qv m a below
  pub placed : ArePlaced m a
  pub goals : Reads m a m.branch.goals raw.goals
  pub next : m.branch.next ≡ raw.next
  pub next_type : m.branch.next_type ≡ raw.next_type
  pub closing : Closing
  pub reading : IsOpenReading m.bank m.bindings m.branch.next closing
  pub left : All (IsPairOf (length m.bank.terms)) m.branch.pairs.items
  pub levels : ℕ → ℕ
  pub under : IsBranchUnder qv levels m.bank closing (mark_in (base_of m.denied) above.raws) (base_of m.denied) (length m.choices.items) m.branch.pairs.items raw rest

-- the branch came to nothing: the search is to go back
pub record IsBack (qv : Query) (m : Machine) (s : State Task) : Type 0 where
  pub around : Around
  pub above : HasAlternatives qv m around s.stack
  pub counted : IsCounted m s

-- the goal of the table that is at hand: in its place, in front of those from a frame on
pub record IsAtGoal (m : Machine) (a : Around) (p : Place) (flat : Flat) (behind : Option ℕ) (raw : Branch) : Type 0 where
  pub goal : Goal
  pub values : ℕ → Term
  pub rest : List Entry
  pub place : IsPlaceAt (lists_of m) a p
  pub is : IsGoal m.bank Never (shown m.table) flat goal
  pub at : IsAt m.bank (blocks_of m.scopes) p values
  pub reads : Reads m a behind rest
  pub goals : raw.goals ≡ entry_at a p (goal_in values p.values.types goal) ∷ rest

-- so goals of the table, in their place
pub record IsAtGoals (m : Machine) (a : Around) (p : Place) (span : Span) (behind : Option ℕ) (raw : Branch) : Type 0 where
  pub goals_of : Goals
  pub values : ℕ → Term
  pub rest : List Entry
  pub place : IsPlaceAt (lists_of m) a p
  pub some : span.from < span.to
  pub are : AreGoals m.bank Never (shown m.table) span.from span.to goals_of
  pub at : IsAt m.bank (blocks_of m.scopes) p values
  pub reads : Reads m a behind rest
  pub goals : raw.goals ≡ placed a p (goal_list (in_scope values p.values.types goals_of)) ++ rest

-- a step was taken: what is known stays, and the branch goes on with the goals from a frame on
pub record KeepsSearch (old new : Machine) (behind : Option ℕ) : Type 0 where
  pub goals : KeepsGoals old new
  pub assumed : KeepsAssumed old new
  pub frames : new.frames ≡ old.frames
  pub denied : new.denied ≡ old.denied
  pub front : new.branch.goals ≡ behind
  pub next : new.branch.next ≡ old.branch.next
  pub next_type : new.branch.next_type ≡ old.branch.next_type
  pub pairs : new.branch.pairs ≡ old.branch.pairs

-- nothing is bound, and the residual pairs stay
pub record BindsNone (old new : Machine) : Type 0 where
  pub bindings : new.bindings ≡ old.bindings
  pub pairs : new.branch.pairs ≡ old.branch.pairs

-- an alternative was put with the bindings and the residual pairs of then
pub record IsPutWith (m : Machine) (c : Choice) : Type 0 where
  pub terms : c.bindings.terms ≡ length m.bindings.terms.entries
  pub types : c.bindings.types ≡ length m.bindings.types.entries
  pub pairs : c.pairs.items ≡ m.branch.pairs.items

-- so one that came
abbrev pub PutsWith : (old new : Machine) → Type 0
PutsWith m n = (c : Choice) → n.choices.items ≡ m.choices.items ++ c ∷ [] → IsPutWith m c

-- neither an atom nor a negated goal
abbrev pub IsPlain : Goal → Type 0
IsPlain (Atomic t) = ⊥
IsPlain Cut = Unit {0}
IsPlain (Either gs hs) = Unit {0}
IsPlain (Exists T gs) = Unit {0}
IsPlain (Forall T gs) = Unit {0}
IsPlain (Assume w cs gs) = Unit {0}
IsPlain (Not w gs) = ⊥

abbrev pub IsPlainFirst : List Entry → Type 0
IsPlainFirst [] = ⊥
IsPlainFirst (e ∷ es) = IsPlain e.goal

-- an answer: what the bindings read of the query's variables, and the residual pairs
pub record IsAnswer (qv : Query) (m : Machine) (x : Answer) : Type 0 where
  pub closing : Closing
  pub reading : IsOpenReading m.bank m.bindings m.branch.next closing
  pub next : x.next ≡ m.branch.next
  pub next_type : x.next_type ≡ m.branch.next_type
  pub types : x.types ≡ map (instance closing.types) (types_from qv.types 0)
  pub values : x.values ≡ map (closed closing) (vars_from qv.vars 0)
  pub pairs : ArePairsFor m.bank closing m.branch.pairs.items x.pairs
  pub left : All (IsPairOf (length m.bank.terms)) m.branch.pairs.items
  pub levels : ℕ → ℕ
  pub known : AreKnownPairs levels x.next x.pairs

-- an answer was given: the search goes back from there, in a new row
pub record IsAnswered (qv : Query) (m : Machine) (s : State Task) : Type 0 where
  pub around : Around
  pub above : HasAlternatives qv m around s.stack
  pub steps : s.steps ≡ m.counts.limit - m.counts.steps
  pub rows : s.rows ≡ row_limit
  pub row : s.row ≡ row_limit
  pub lost : s.lost ≡ m.counts.lost

-- what a turn counts and tells: steps, and notes beside that of a way back
pub record Tally : Type 0 where
  pub steps : ℕ
  pub notes : List Note

abbrev pub quiet : Tally
quiet = record { steps = 0; notes = [] }

-- a step with its note
abbrev pub taking : Note → Tally
taking n = record { steps = 1; notes = n ∷ [] }

-- the one, then the other
abbrev pub both : Tally → Tally → Tally
both x y = record { steps = x.steps + y.steps; notes = x.notes ++ y.notes }

-- a turn is this move of the definition, with so much told: to a search that goes on or is to go back, to an answer, or to the same end. Of the way back, and of an answer, the turn itself tells nothing
abbrev pub IsMoved : Tally → Query → Turn → (new : Machine) → Move Task Answer → (before : State Task) → Type 0
IsMoved x qv Turn.On n v s = (t : State Task) × (v ≡ Goes x.steps x.notes t) × IsState qv n t × (t.answers ≡ s.answers) × (t.given ≡ s.given)
IsMoved x qv Turn.Back n v s = (t : State Task) × (v ≡ Goes x.steps (x.notes ++ back [] t.stack) t) × IsBack qv n t × (t.answers ≡ s.answers) × (t.given ≡ s.given)
IsMoved x qv Turn.Answered n v s =
    (x ≡ quiet) × (a : Answer) × (t : State Task) × (v ≡ Tells a (AnswerNote (suc s.given) ∷ back_for_more t.answers t.stack) t) × IsAnswer qv n a × IsAnswered qv n t × (s.answers ≡ suc t.answers) × (t.given ≡ suc s.given)
IsMoved x qv (Turn.Ended e) n v s = (x ≡ quiet) × (v ≡ Stops e)

-- so while answers are wanted, over each program, with any number of steps for each look
abbrev pub MovesTo : Tally → Query → Turn → (new : Machine) → (before : State Task) → Type 0
MovesTo x qv turn n s = (k : ℕ) → s.answers ≡ suc k → (go : (Answer → Bool) → State Task → Inner) (enough : ℕ) (P : List Clause) → IsMoved x qv turn n (move go (look unit_limit enough P) s) s

-- the definition waits: a look needs more steps than it is allowed
abbrev pub IsWaiting : Move Task Answer → Type 0
IsWaiting v = (k : ℕ) × (ns : List Note) × (v ≡ Waits k ns)

-- a turn is at most so many moves of the definition more, the last of which is this turn's, or it waits
abbrev pub Leads : ℕ → Tally → Query → Turn → (new : Machine) → (go : (Answer → Bool) → State Task → Inner) → (ℕ → Task → View Task Answer) → (before : State Task) → Type 0
Leads zero x qv turn n go see s = IsMoved x qv turn n (move go see s) s ⊎ IsWaiting (move go see s)
Leads (suc j) x qv turn n go see s =
    IsMoved x qv turn n (move go see s) s ⊎ (IsWaiting (move go see s) ⊎ ((y : Tally) × (z : Tally) × (t : State Task) × (x ≡ both y z) × (move go see s ≡ Goes y.steps y.notes t) × (t.answers ≡ s.answers) × (t.given ≡ s.given) × Leads j z qv turn n go see t))

-- where the turn is too deep, fewer than a million steps are allowed for each look
abbrev pub AreFew : Turn → (enough : ℕ) → Type 0
AreFew turn enough = turn ≡ Turn.Ended Deep → enough < 1000000

-- so while answers are wanted, over each typed program and in a typed state, with any number of steps for each look, but for a turn that is too deep
abbrev pub LeadsTo : ℕ → Tally → Query → Turn → (new : Machine) → (before : State Task) → Type 0
LeadsTo j x qv turn n s = (k : ℕ) → s.answers ≡ suc k → (go : (Answer → Bool) → State Task → Inner) (enough : ℕ) → AreFew turn enough → (P : List Clause) → IsTypedOver qv.arity enough P s → Leads j x qv turn n go (look unit_limit enough P) s

-- the turn of a unification
abbrev pub turn_for : Unified → Turn
turn_for Unified.Fits = Turn.On
turn_for Unified.Fails = Turn.Back
turn_for Unified.Deep = Turn.Ended Deep
