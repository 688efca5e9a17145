-- How the goals of a branch read: the entries of the definition for which its frames stand.
use Rattle.std.specs.Prelude.{◌≡◌, ℕ, ◌≤◌, List, [], ◌∷◌, ◌++◌, length, take, Option, None, Some, slice_get}
use Rattle.lp_calculus.specs.Convert.{head_step, steps}
use Rattle.lp_calculus.specs.Term.{Term}
use Rattle.lp_term.specs.Nodes.{Nodes, Extends, tree}
use Rattle.lp_term.specs.declared.node.TermId.{TermId}
use Rattle.lp_model.specs.Branch.{Entry, Branch, Answer, Task, Go, entries}
use Rattle.lp_model.specs.Skeleton.{View, Parts}
use Rattle.lp_model.specs.Flat.{Goal, Atomic, Goals, Clause, Written, goal_list, instantiate_goals, type_goals}
use Rattle.lp_pattern.specs.Growing.{GoesOn}
use Rattle.lp_plain.specs.declared.choice.Choice.{Choice}
use Rattle.lp_plain.specs.declared.choice.Untried.{Untried}
use Rattle.lp_plain.specs.declared.frame.Frame.{Frame}
use Rattle.lp_plain.specs.declared.frame.Place.{Place}
use Rattle.lp_plain.specs.declared.frame.Todo.{Todo}
use Rattle.lp_plain.specs.declared.machine.Machine.{Machine}
use Rattle.lp_plain.specs.declared.types.Renewal.{Renewal}
use Rattle.lp_plain.specs.Renewal.{renewing}
use Rattle.lp_plain.specs.Scopes.{Blocks, Holds, blocks_of, blocks_at, block_count, value_count}
use Rattle.lp_plain.specs.Keeping.{KeepsKnown}
use Rattle.lp_plain.specs.Tables.{Shown, shown, AreGoals, IsListOf, Never}

-- what the numbers of a place stand for: the clauses assumed by a tree of assumptions, what is written in them, the definition's mark
pub record Around : Type 0 where
  pub assumed : Option ℕ → List Clause
  pub written : Option ℕ → Written
  pub mark : ℕ → ℕ

-- goals of a clause with these values for its variables and new numbers for its type variables
abbrev pub in_scope : (ℕ → Term) → Renewal → Goals → Goals
in_scope σ r gs = instantiate_goals σ (type_goals (renewing r) gs)

-- goals in a place
abbrev pub placed : Around → Place → List Goal → List Entry
placed a p gs = entries gs (a.assumed p.assumed) (a.written p.standing) p.level (a.mark p.mark)

-- the terms at these numbers
abbrev pub AreAt : Nodes → List TermId → (ℕ → Term) → Type 0
AreAt b vs σ = (i : ℕ) (v : TermId) → slice_get vs i ≡ Some v → tree b v.0 ≡ σ i

-- the values of a scope are these terms; what has no value there is not told
abbrev pub HasValues : Nodes → Blocks → (scope : Option ℕ) → (ℕ → Term) → Type 0
HasValues b s o σ = (vs : List TermId) × Holds s.values s.blocks o vs × AreAt b vs σ

-- so are those of a place
abbrev pub IsAt : Nodes → Blocks → Place → (ℕ → Term) → Type 0
IsAt b s p σ = HasValues b s p.values.scope σ

-- at most one step of head reduction leads from the one term to the other
abbrev pub HeadsTo : Term → Term → Type 0
HeadsTo t u = (k : ℕ) × (k ≤ 1) × (steps head_step k t ≡ Some u)

-- the goals of a frame. A goal that is known at run time stands for itself, or for what a step of head reduction makes of it
abbrev pub AreTodo : Nodes → Shown → Blocks → Place → Todo → List Goal → Type 0
AreTodo b t s p (Todo.Goals span) gs = (hs : Goals) × (σ : ℕ → Term) × AreGoals b Never t span.from span.to hs × IsAt b s p σ × (gs ≡ goal_list (in_scope σ p.values.types hs))
AreTodo b t s p (Todo.Term u) gs = (v : Term) × HeadsTo (tree b u.0) v × (gs ≡ Atomic v ∷ [])

-- the goals from a frame on. Behind each frame is an older one
pub data AreEntries (b : Nodes) (t : Shown) (s : Blocks) (a : Around) : List Frame → Option ℕ → List Entry → Type 0 where
  no_frame : {fs : List Frame} {o : Option ℕ} {es : List Entry} → o ≡ None → es ≡ [] → AreEntries b t s a fs o es
  a_frame : {fs : List Frame} {o : Option ℕ} {es : List Entry} (i : ℕ) (f : Frame) (gs : List Goal) (rest : List Entry) → o ≡ Some i → slice_get fs i ≡ Some f → AreTodo b t s f.place f.todo gs →
      AreEntries b t s a (take i fs) f.behind rest → es ≡ placed a f.place gs ++ rest → AreEntries b t s a fs o es

-- so in a search
abbrev pub Reads : Machine → Around → Option ℕ → List Entry → Type 0
Reads m a o es = AreEntries m.bank (shown m.table) (blocks_of m.scopes) a m.frames.items o es

-- the goals of a list of the table, in a place of the search
abbrev pub IsListAt : Machine → Place → (list : ℕ) → List Goal → Type 0
IsListAt m p list gs = (hs : Goals) × (σ : ℕ → Term) × IsListOf m.bank m.table list hs × IsAt m.bank (blocks_of m.scopes) p σ × (gs ≡ goal_list (in_scope σ p.values.types hs))

-- a list of the table has these goals, and the place has these values
abbrev pub IsOf : Machine → Place → (list : ℕ) → Goals → (ℕ → Term) → Type 0
IsOf m p list hs σ = IsListOf m.bank m.table list hs × IsAt m.bank (blocks_of m.scopes) p σ

-- what is known of terms stays, and frames only come
pub record KeepsGoals (old new : Machine) : Type 0 where
  pub known : KeepsKnown old new
  pub frames : GoesOn old.frames.items new.frames.items

-- what is known of terms stays while the bank grows, and scopes and frames only come
pub record GrowsGoals (old new : Machine) : Type 0 where
  pub bank : Extends old.bank new.bank
  pub table : new.table ≡ old.table
  pub frames : GoesOn old.frames.items new.frames.items
  pub blocks : GoesOn old.scopes.blocks.items new.scopes.blocks.items
  pub values : GoesOn old.scopes.values.items new.scopes.values.items

-- the branch at work reads as one of the definition, by its goals and its next numbers
pub record IsBranchAt (m : Machine) (a : Around) (b : Branch) : Type 0 where
  pub goals : Reads m a m.branch.goals b.goals
  pub next : m.branch.next ≡ b.next
  pub next_type : m.branch.next_type ≡ b.next_type

-- the branch at work goes on with these goals, and nothing else changed
pub record GoesOnWith (old new : Machine) (a : Around) (es : List Entry) : Type 0 where
  pub goals : Reads new a new.branch.goals es
  pub next : new.branch.next ≡ old.branch.next
  pub next_type : new.branch.next_type ≡ old.branch.next_type
  pub choices : new.choices.items ≡ old.choices.items

-- the branch with these goals in front of those from a frame on
pub record IsBehind (m : Machine) (a : Around) (behind : Option ℕ) (b : Branch) : Type 0 where
  pub goals : Reads m a behind b.goals
  pub next : m.branch.next ≡ b.next
  pub next_type : m.branch.next_type ≡ b.next_type

-- an alternative of this branch, with these goals left to try
pub record HasAlternative (old new : Machine) (untried : Untried) : Type 0 where
  pub choice : Choice
  pub more : new.choices.items ≡ old.choices.items ++ choice ∷ []
  pub left : choice.untried ≡ untried
  pub next : choice.next ≡ old.branch.next
  pub next_type : choice.next_type ≡ old.branch.next_type
  pub frames : choice.lengths.frames ≡ length old.frames.items
  pub blocks : choice.lengths.scopes.blocks ≡ block_count old.scopes
  pub values : choice.lengths.scopes.values ≡ value_count old.scopes
  pub assumptions : choice.lengths.assumptions ≡ length old.assumptions.items
  pub newest : choice.lengths.newest ≡ length old.newest.items
  pub standings : choice.lengths.standings ≡ length old.standings.items
  pub bound_terms : choice.bindings.terms ≡ length old.bindings.terms.entries
  pub bound_types : choice.bindings.types ≡ length old.bindings.types.entries
  pub pairs : choice.pairs.items ≡ old.branch.pairs.items

-- an alternative goes on with a branch that reads so, within what there was when it was put
pub record IsChoiceAt (m : Machine) (a : Around) (c : Choice) (b : Branch) : Type 0 where
  pub from : Option ℕ
  pub left : c.untried ≡ Untried.Goals from
  pub goals : AreEntries m.bank (shown m.table) (blocks_at c.lengths.scopes m.scopes) a (take c.lengths.frames m.frames.items) from b.goals
  pub next : c.next ≡ b.next
  pub next_type : c.next_type ≡ b.next_type

-- the branch at work has become these tasks: the first one is at work, a second one is the newest alternative above those
abbrev pub AreTasksAt : List Choice → Machine → Around → List Task → Type 0
AreTasksAt cs new a (Go b ∷ []) = IsBranchAt new a b × (new.choices.items ≡ cs)
AreTasksAt cs new a (Go b ∷ Go d ∷ []) = IsBranchAt new a b × ((c : Choice) × (new.choices.items ≡ cs ++ c ∷ []) × IsChoiceAt new a c d)
AreTasksAt cs new a ts = ⊥

abbrev pub AreTasks : (old new : Machine) → Around → List Task → Type 0
AreTasks old new a ts = AreTasksAt old.choices.items new a ts

-- so are those of a goal that is taken apart
abbrev pub ArePartsAt : List Choice → Machine → Around → View Task Answer → Type 0
ArePartsAt cs new a (Parts ts) = AreTasksAt cs new a ts
ArePartsAt cs new a v = ⊥

abbrev pub ArePartsOf : (old new : Machine) → Around → View Task Answer → Type 0
ArePartsOf old new a v = ArePartsAt old.choices.items new a v

-- a goal in a place
abbrev pub entry_at : Around → Place → Goal → Entry
entry_at a p g = record { goal = g; assumed = a.assumed p.assumed; written = a.written p.standing; level = p.level; mark = a.mark p.mark }
