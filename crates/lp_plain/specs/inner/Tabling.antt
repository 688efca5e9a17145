-- How a table grows: by goals and clauses whose own lists have their numbers and are still to come.
use Rattle.std.specs.Prelude.{◌≡◌, ℕ, ◌+◌, ◌<◌, ◌≤◌, List, [], ◌++◌, length, map, take, drop, All, Some, slice_get}
use Rattle.std.specs.Borrow.{Bor}
use Rattle.lp_term.specs.Nodes.{Nodes}
use Rattle.lp_model.specs.declared.clause.Goal.{Goal as CodeGoal}
use Rattle.lp_model.specs.Flat.{Goals}
use Rattle.lp_model.specs.Flattened.{goals_of}
use Rattle.lp_normal.specs.Within.{highest, term_bound}
use Rattle.lp_pattern.specs.Growing.{GoesOn}
use Rattle.lp_plain.specs.declared.table.Span.{Span}
use Rattle.lp_plain.specs.declared.table.Table.{Table}
use Rattle.lp_plain.specs.Tables.{Shown, IsList}
use Rattle.lp_plain.specs.Within.{IsTableIn}
use Rattle.lp_plain.specs.inner.Looking.{weight_of_all}
use Rattle.lp_plain.specs.inner.Collecting.{goals_weight}

-- lists of goals that are to come
abbrev pub Late : Type 0
Late = List (Bor (List CodeGoal))

-- what was put, by the lists that are to come and those of a table
abbrev pub Meaning : Type 1
Meaning = (ℕ → Goals → Type 0) → Shown → Type 0

-- the lists that are to come have the numbers from this one on
abbrev pub Coming : Nodes → (from : ℕ) → Late → ℕ → Goals → Type 0
Coming b from ws n gs = (k : ℕ) × (w : Bor (List CodeGoal)) × (n ≡ from + k) × (slice_get ws k ≡ Some w) × (goals_of b w.now ≡ gs)

-- with the first of its lists alone
abbrev pub up_to : ℕ → Table → Shown
up_to n t = record { goals = t.goals.items; lists = take n t.lists.items; rules = t.rules.items; frees = t.frees.items }

abbrev pub unlisted : Table → Shown
unlisted t = record { goals = t.goals.items; lists = []; rules = t.rules.items; frees = t.frees.items }

-- what the numbers of the earlier lists mean they mean in the later ones
pub record LeadsTo (b : Nodes) (c c' : ℕ → Goals → Type 0) (t t' : Shown) : Type 0 where
  pub goals : GoesOn t.goals t'.goals
  pub lists : GoesOn t.lists t'.lists
  pub rules : GoesOn t.rules t'.rules
  pub frees : GoesOn t.frees t'.frees
  pub comes : (n : ℕ) (gs : Goals) → c n gs → IsList b c' t' n gs

abbrev pub list_weight : Nodes → Bor (List CodeGoal) → ℕ
list_weight b w = goals_weight (goals_of b w.now)

-- more lists are to come, which weigh less than this; with them what was put has its meaning
pub record IsPut (b : Nodes) (old new : Table) (before after : Late) (w : ℕ) (Means : Meaning) : Type 0 where
  pub more : Late
  pub spans : List Span
  pub left : after ≡ before ++ more
  pub lists : new.lists.items ≡ old.lists.items ++ spans
  pub count : length spans ≡ length more
  pub goals : GoesOn old.goals.items new.goals.items
  pub rules : GoesOn old.rules.items new.rules.items
  pub frees : GoesOn old.frees.items new.frees.items
  pub lighter : weight_of_all (list_weight b) more < w
  pub means : Means (Coming b (length old.lists.items) more) (unlisted new)

-- so many of the lists that were to come have their goals
pub record AreFilled (b : Nodes) (first : ℕ) (old new : Table) (ws left : Late) (done : ℕ) : Type 0 where
  pub within : done ≤ length left
  pub count : length new.lists.items ≡ first + length left
  pub leads : LeadsTo b (Coming b first ws) (Coming b (first + done) (drop done left)) (up_to first old) (up_to (first + done) new)

-- the terms of the table, and those of the lists that are to come, are among the first n
pub record AreTermsIn (n : ℕ) (t : Table) (l : Late) : Type 0 where
  pub table : IsTableIn n t
  pub late : All (λ w. highest (map term_bound w.now) ≤ n) l

-- they stay so, where those of what was put, which are below a bound, are
abbrev pub Stays : (n bound : ℕ) → (old new : Table) → (before after : Late) → Type 0
Stays n k old new before after = k ≤ n → AreTermsIn n old before → AreTermsIn n new after
