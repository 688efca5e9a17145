-- What a clause is tried with: its number and the values around it, its own variables' values, the equations of types and the pairs that are to be solved.
use Rattle.std.specs.Prelude.{◌≡◌, ℕ, ◌+◌, ◌-◌, ◌<◌, nat_lt, if◌then◌else◌, ◌⊎◌, List, [], ◌∷◌, ◌++◌, length, get_or, set, All, Option, Some, None, slice_get}
use Rattle.lp_calculus.specs.Types.{Ty}
use Rattle.lp_calculus.specs.Term.{Term, index, atom, abs, app, constant, integer, text, eigen, logic, param}
use Rattle.lp_calculus.specs.Instance.{instance_term}
use Rattle.lp_term.specs.Nodes.{Nodes, Extends, tree}
use Rattle.lp_term.specs.declared.node.TermId.{TermId}
use Rattle.lp_model.specs.Index.{instantiate}
use Rattle.lp_model.specs.declared.answer.Pair.{Pair as Numbers}
use Rattle.lp_pattern.specs.Growing.{GoesOn}
use Rattle.lp_plain.specs.declared.candidates.Candidate.{Candidate}
use Rattle.lp_plain.specs.declared.frame.Assumption.{Assumption}
use Rattle.lp_plain.specs.declared.head.HeadPair.{HeadPair}
use Rattle.lp_plain.specs.declared.instance.Values.{Values}
use Rattle.lp_plain.specs.declared.machine.Machine.{Machine}
use Rattle.lp_plain.specs.declared.table.Rule.{Rule}
use Rattle.lp_plain.specs.declared.types.Renewal.{Renewal}
use Rattle.lp_plain.specs.Entries.{AreAt}
use Rattle.lp_plain.specs.Heads.{trees_of, slot_term}
use Rattle.lp_plain.specs.Instances.{AreValues, values_of}
use Rattle.lp_plain.specs.Renewal.{Fits, renewing}
use Rattle.lp_plain.specs.Scopes.{Holds}
use Rattle.lp_plain.specs.Unifying.{IsMore}
use Rattle.lp_plain.specs.Written.{IsWritten}

-- the type variables up to this number are taken
abbrev pub with_types_to : Machine → (next_type : ℕ) → Machine
with_types_to m k = record m { branch = record { goals = m.branch.goals; next = m.branch.next; next_type = k; pairs = m.branch.pairs } }

-- the next numbers are those of a program clause's type variables
abbrev pub AreNewTypes : (old new : Machine) → (rule : ℕ) → Renewal → Type 0
AreNewTypes old new k types =
    (r : Rule) × (slice_get old.table.rules.items k ≡ Some r) × (types.count ≡ r.type_vars) × (types.first ≡ old.branch.next_type) ×
    (new ≡ with_types_to old (old.branch.next_type + r.type_vars)) × Fits types

-- the number of a candidate's clause, and what stands around it: of an assumption its own; of a program clause nothing, and new numbers for its type variables
abbrev pub IsClauseOf : (old new : Machine) → Candidate → ℕ × Values → Type 0
IsClauseOf old new (Candidate.Assumed k) p = (a : Assumption) × (slice_get old.assumptions.items k ≡ Some a) × (p.0 ≡ a.rule) × (p.1 ≡ a.values) × (new ≡ old)
IsClauseOf old new (Candidate.Program k) p = (p.0 ≡ k) × (p.1.scope ≡ None) × AreNewTypes old new k p.1.types

-- the first n indices stand for these terms, and those behind them for those around
abbrev pub before : ℕ → (own around : ℕ → Term) → ℕ → Term
before n σ τ i = if nat_lt i n then σ i else τ (i - n)

-- what a clause's own variables stand for: arguments of the goal, or new variables from the next number on
abbrev pub own_values : Nodes → List TermId → (next level : ℕ) → List (Option ℕ) → ℕ → Term
own_values b args next level slots k = slot_term (trees_of b args) next level k (get_or slots k None)

-- a scope of the clause's variables is opened: each has its value, and those of the values around stay. Nothing else changes but the number of the next variable
pub record IsOpened (old new : Machine) (r : Rule) (args : List TermId) (level : ℕ) (around inner : Values) : Type 0 where
  pub bank : Extends old.bank new.bank
  pub next : new.branch.next ≡ old.branch.next + length r.slots.items
  pub next_type : new.branch.next_type ≡ old.branch.next_type
  pub goals : new.branch.goals ≡ old.branch.goals
  pub pairs : new.branch.pairs ≡ old.branch.pairs
  pub table : new.table ≡ old.table
  pub bindings : new.bindings ≡ old.bindings
  pub frames : new.frames ≡ old.frames
  pub choices : new.choices ≡ old.choices
  pub denied : new.denied ≡ old.denied
  pub counts : new.counts ≡ old.counts
  pub blocks : GoesOn old.scopes.blocks.items new.scopes.blocks.items
  pub values : GoesOn old.scopes.values.items new.scopes.values.items
  pub types : inner.types ≡ around.types
  pub opened : (us : List TermId) (τ : ℕ → Term) → AreValues old.bank args → AreValues old.bank old.scopes.values.items → Holds
      old.scopes.values.items old.scopes.blocks.items around.scope us → AreAt old.bank us τ →
      (ws : List TermId) × (length ws ≡ length r.slots.items + length us) × Holds new.scopes.values.items new.scopes.blocks.items inner.scope ws ×
      AreAt new.bank ws (before (length r.slots.items) (own_values old.bank args old.branch.next level r.slots.items) τ)
  pub stands : AreValues old.bank args → AreValues old.bank old.scopes.values.items → AreValues new.bank new.scopes.values.items

-- a scope may be opened in which values that stand in the bank are put, where these arguments do
pub record OpensMore (old new : Machine) (args : List TermId) : Type 0 where
  pub more : IsMore old new
  pub next_type : new.branch.next_type ≡ old.branch.next_type
  pub pairs : new.branch.pairs ≡ old.branch.pairs
  pub stands : AreValues old.bank args → AreValues old.bank old.scopes.values.items → AreValues new.bank new.scopes.values.items

-- the type arguments of a constant
abbrev pub types_of : Term → List Ty
types_of (index i) = []
types_of (atom (constant c ts)) = ts
types_of (atom (integer z)) = []
types_of (atom (text s)) = []
types_of (atom (eigen k)) = []
types_of (atom (logic x l)) = []
types_of (atom (param k t)) = []
types_of (abs b) = []
types_of (app t u) = []

-- what a clause's term becomes with these values and new type variables
abbrev pub becomes : Nodes → List TermId → Renewal → Term → Term
becomes b vs r t = instantiate (values_of b vs) (instance_term (renewing r) t)

-- the terms of these pairs are written terms of a clause, whose loose indices are below d
abbrev pub AreWrittenIn : Nodes → (ar : ℕ → ℕ) → (k d : ℕ) → List HeadPair → Type 0
AreWrittenIn b ar k d heads = All (λ p. (p.term.0 < length b.terms) × IsWritten ar k d (tree b p.term.0)) heads

-- the pair of a head's argument with the goal's in its place: what the clause's argument becomes stands on the right
pub record IsPairOfHead (b : Nodes) (args : List TermId) (level : ℕ) (f : Term → Term) (p : ℕ × Term) (q : Numbers) : Type 0 where
  pub left : slice_get args p.0 ≡ Some q.left
  pub stands : q.level ≡ level
  pub within : q.right.0 < length b.terms
  pub right : tree b q.right.0 ≡ f p.1

-- the pairs of a head's arguments, at these places, with the goal's: in order, those that the goal has
abbrev pub ArePaired : Nodes → List TermId → (level : ℕ) → (f : Term → Term) → List (ℕ × Term) → List Numbers → Type 0
ArePaired b args l f [] qs = qs ≡ []
ArePaired b args l f (p ∷ ps) qs = ((slice_get args p.0 ≡ None) × ArePaired b args l f ps qs) ⊎
    ((q : Numbers) × (rest : List Numbers) × (qs ≡ q ∷ rest) × IsPairOfHead b args l f p q × ArePaired b args l f ps rest)

-- one more, if the goal has it
abbrev pub IsPairAdded : Nodes → List TermId → (level : ℕ) → (f : Term → Term) → ℕ × Term → (old new : List Numbers) → Type 0
IsPairAdded b args l f p old new = ((slice_get args p.0 ≡ None) × (new ≡ old)) ⊎ ((q : Numbers) × (new ≡ old ++ q ∷ []) × IsPairOfHead b args l f p q)

-- the first argument gives way to this one
abbrev pub with_first : Option TermId → List TermId → List TermId
with_first None ts = ts
with_first (Some t) ts = set ts 0 t
