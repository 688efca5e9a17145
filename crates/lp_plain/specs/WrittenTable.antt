-- What is written in the goals and clauses of a table: terms of a program, whose loose indices are those of the variables around them, and heads that are constants or stand for
-- eigenconstants.
use Rattle.std.specs.Prelude.{◌≡◌, Bool, true, false, ℕ, zero, suc, ◌+◌, ◌-◌, ◌<◌, ◌≤◌, List, [], ◌∷◌, ◌++◌, ◌⊎◌, All, length, slice_get, Option, Some}
use Rattle.lp_calculus.specs.Term.{Term, index, atom, abs, app, constant, integer, text, eigen, logic, param}
use Rattle.lp_term.specs.Nodes.{Nodes, tree}
use Rattle.lp_term.specs.Spine.{LooseBelow}
use Rattle.lp_term.specs.declared.node.TermId.{TermId}
use Rattle.lp_plain.specs.declared.candidates.Candidate.{Candidate}
use Rattle.lp_plain.specs.declared.frame.Assumption.{Assumption}
use Rattle.lp_plain.specs.declared.frame.Frame.{Frame}
use Rattle.lp_plain.specs.declared.frame.Place.{Place}
use Rattle.lp_plain.specs.declared.frame.Todo.{Todo}
use Rattle.lp_plain.specs.declared.machine.Machine.{Machine}
use Rattle.lp_plain.specs.declared.table.Flat.{Flat}
use Rattle.lp_plain.specs.declared.table.Rule.{Rule}
use Rattle.lp_plain.specs.declared.table.Span.{Span}
use Rattle.lp_plain.specs.Scopes.{Blocks, Holds, blocks_of}
use Rattle.lp_plain.specs.Tables.{Shown, shown}
use Rattle.lp_plain.specs.Written.{IsWritten, WrittenAtom}

-- so many variables of a clause in front of those around it; `binders` says which are bound by a `pi` of goals
abbrev pub own_and : ℕ → List Bool → List Bool
own_and zero bs = bs
own_and (suc n) bs = false ∷ own_and n bs

-- the head of a clause with so many variables of its own
abbrev pub IsWrittenHead : (ar : ℕ → ℕ) → (k vars : ℕ) → (binders : List Bool) → Term → Type 0
IsWrittenHead ar k n bs (index i) = (n ≤ i) × (slice_get bs (i - n) ≡ Some true)
IsWrittenHead ar k n bs (atom (constant c ts)) = WrittenAtom ar k (constant c ts)
IsWrittenHead ar k n bs (atom (integer z)) = ⊥
IsWrittenHead ar k n bs (atom (text s)) = ⊥
IsWrittenHead ar k n bs (atom (eigen j)) = ⊥
IsWrittenHead ar k n bs (atom (logic x l)) = ⊥
IsWrittenHead ar k n bs (atom (param j t)) = ⊥
IsWrittenHead ar k n bs (abs b) = ⊥
IsWrittenHead ar k n bs (app t u) = ⊥

-- a goal of the table, lists, spans of goals and of assumed clauses, and a clause, inside these binders. Type variables are below k. Assumed clauses have none of their own
mutual
  pub data WrittenFlat (b : Nodes) (t : Shown) (ar : ℕ → ℕ) (k : ℕ) : List Bool → Flat → Type 0 where
    an_atom : {bs : List Bool} {f : Flat} (u : TermId) → f ≡ Flat.Atom u → IsWritten ar k (length bs) (tree b u.0) → WrittenFlat b t ar k bs f
    a_cut : {bs : List Bool} {f : Flat} → f ≡ Flat.Cut → WrittenFlat b t ar k bs f
    a_choice : {bs : List Bool} {f : Flat} (l r : ℕ) → f ≡ Flat.Either l r → WrittenList b t ar k bs l → WrittenList b t ar k bs r → WrittenFlat b t ar k bs f
    a_some : {bs : List Bool} {f : Flat} (l : ℕ) → f ≡ Flat.Some l → WrittenList b t ar k (false ∷ bs) l → WrittenFlat b t ar k bs f
    an_all : {bs : List Bool} {f : Flat} (l : ℕ) → f ≡ Flat.All l → WrittenList b t ar k (true ∷ bs) l → WrittenFlat b t ar k bs f
    an_assume : {bs : List Bool} {f : Flat} (s : Span) (l n : ℕ) → f ≡ Flat.Assume s l n → WrittenRules b t ar k bs s.from s.to → WrittenList b t ar k bs l → WrittenFlat b t ar k bs f
    a_not : {bs : List Bool} {f : Flat} (l n : ℕ) → f ≡ Flat.Not l n → WrittenList b t ar k bs l → WrittenFlat b t ar k bs f

  pub data WrittenList (b : Nodes) (t : Shown) (ar : ℕ → ℕ) (k : ℕ) : List Bool → ℕ → Type 0 where
    a_list : {bs : List Bool} {n : ℕ} (s : Span) → slice_get t.lists n ≡ Some s → WrittenGoals b t ar k bs s.from s.to → WrittenList b t ar k bs n

  pub data WrittenGoals (b : Nodes) (t : Shown) (ar : ℕ → ℕ) (k : ℕ) : List Bool → (from to : ℕ) → Type 0 where
    no_goal : {bs : List Bool} {from to : ℕ} → from ≡ to → WrittenGoals b t ar k bs from to
    a_goal : {bs : List Bool} {from to : ℕ} (f : Flat) → slice_get t.goals from ≡ Some f → WrittenFlat b t ar k bs f → WrittenGoals b t ar k bs (suc from) to → WrittenGoals b t ar k bs from to

  pub data WrittenRules (b : Nodes) (t : Shown) (ar : ℕ → ℕ) (k : ℕ) : List Bool → (from to : ℕ) → Type 0 where
    no_rule : {bs : List Bool} {from to : ℕ} → from ≡ to → WrittenRules b t ar k bs from to
    more_rules : {bs : List Bool} {from to : ℕ} (r : Rule) → slice_get t.rules from ≡ Some r → r.type_vars ≡ 0 → WrittenRule b t ar k bs from →
        WrittenRules b t ar k bs (suc from) to → WrittenRules b t ar k bs from to

  pub data WrittenRule (b : Nodes) (t : Shown) (ar : ℕ → ℕ) (k : ℕ) : List Bool → ℕ → Type 0 where
    a_rule : {bs : List Bool} {i : ℕ} (r : Rule) → slice_get t.rules i ≡ Some r → IsWrittenHead ar k (length r.slots.items) bs (tree b r.head.0) →
        All (λ p. IsWritten ar k (length r.slots.items + length bs) (tree b p.term.0)) r.pairs.items → WrittenList b t ar k (own_and (length r.slots.items) bs) r.body → WrittenRule b t ar k bs i

-- the values of variables that a `pi` binds are eigenconstants
pub record HaveBinders (b : Nodes) (binders : List Bool) (values : List TermId) : Type 0 where
  pub many : length values ≡ length binders
  pub eigens : (i : ℕ) → slice_get binders i ≡ Some true → (v : TermId) × (j : ℕ) × (slice_get values i ≡ Some v) × (tree b v.0 ≡ atom (eigen j))

-- in a scope: its values are of the binders inside which this is written
pub record IsWrittenIn (b : Nodes) (s : Blocks) (scope : Option ℕ) (Is : (k : ℕ) → (binders : List Bool) → Type 0) : Type 0 where
  pub type_vars : ℕ
  pub binders : List Bool
  pub values : List TermId
  pub scope_holds : Holds s.values s.blocks scope values
  pub have : HaveBinders b binders values
  pub is : Is type_vars binders

-- the goals of a frame are written in the scope of its place; a goal that is known at run time has no loose index
abbrev pub IsWrittenTodo : Nodes → Shown → (ar : ℕ → ℕ) → Blocks → (scope : Option ℕ) → Todo → Type 0
IsWrittenTodo b t ar s scope (Todo.Goals span) = IsWrittenIn b s scope (λ k bs. WrittenGoals b t ar k bs span.from span.to)
IsWrittenTodo b t ar s scope (Todo.Term u) = LooseBelow 0 0 (tree b u.0)

-- the clause of an assumption has no type variables of its own, and is written in its scope
pub record IsWrittenClause (b : Nodes) (t : Shown) (ar : ℕ → ℕ) (s : Blocks) (x : Assumption) : Type 0 where
  pub rule : Rule
  pub there : slice_get t.rules x.rule ≡ Some rule
  pub alone : rule.type_vars ≡ 0
  pub written : IsWrittenIn b s x.values.scope (λ k bs. WrittenRule b t ar k bs x.rule)

-- so all frames and assumptions
pub record AreWritten (b : Nodes) (t : Shown) (ar : ℕ → ℕ) (s : Blocks) (frames : List Frame) (assumptions : List Assumption) : Type 0 where
  pub goals : All (λ f. IsWrittenTodo b t ar s f.place.values.scope f.todo) frames
  pub clauses : All (IsWrittenClause b t ar s) assumptions

-- the goals of a list are put in a place, in front of those from a frame on, if there are any
abbrev pub PutsList : (old new : Machine) → (list : ℕ) → Place → (behind : Option ℕ) → Type 0
PutsList m n list p o = (s : Span) → slice_get m.table.lists.items list ≡ Some s →
    ((n.frames.items ≡ m.frames.items) ⊎ ((s.from < s.to) × (n.frames.items ≡ m.frames.items ++ record { todo = Todo.Goals s; place = p; behind = o } ∷ [])))

-- a candidate of the program is written
abbrev pub IsWrittenCandidate : Machine → (ar : ℕ → ℕ) → Candidate → Type 0
IsWrittenCandidate m ar (Candidate.Assumed i) = Unit {0}
IsWrittenCandidate m ar (Candidate.Program i) = (k : ℕ) × WrittenRule m.bank (shown m.table) ar k [] i

-- of a search
abbrev pub StandsWritten : Machine → (ar : ℕ → ℕ) → Type 0
StandsWritten m ar = AreWritten m.bank (shown m.table) ar (blocks_of m.scopes) m.frames.items m.assumptions.items
