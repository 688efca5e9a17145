-- A clause that is tried for a goal, as the definition tries it: its head with the values around it, as the bindings read it.
use Rattle.std.specs.Prelude.{◌≡◌, ℕ, ◌+◌, ◌<◌, ◌≤◌, List, [], ◌∷◌, length, All, Option, None, Some, slice_get}
use Rattle.lp_calculus.specs.Types.{Ty}
use Rattle.lp_calculus.specs.Term.{Term, index, atom, abs, app, apply, constant, integer, text, eigen, logic, param}
use Rattle.lp_calculus.specs.Instance.{instance_term}
use Rattle.lp_calculus.specs.Spine.{head_of, arguments}
use Rattle.lp_term.specs.Nodes.{Nodes, tree}
use Rattle.lp_term.specs.Spine.{LooseBelow}
use Rattle.lp_term.specs.declared.node.TermId.{TermId}
use Rattle.lp_model.specs.Flat.{Goals, clause, under_all}
use Rattle.lp_model.specs.Index.{lifted, instantiate}
use Rattle.lp_model.specs.Pair.{Pair, Closing, closed}
use Rattle.lp_model.specs.Rule.{type_pairs}
use Rattle.lp_model.specs.Search.{pairs_of, slots_of, slotted}
use Rattle.lp_model.specs.Unify.{Unified as Outcome, solve}
use Rattle.lp_pattern.specs.Growing.{Grows, IsPairOf}
use Rattle.lp_pattern.specs.Turning.{IsOpenReading, AreKnownPairs, ArePairsFor}
use Rattle.lp_plain.specs.declared.candidates.Candidate.{Candidate}
use Rattle.lp_plain.specs.declared.choice.Call.{Call}
use Rattle.lp_plain.specs.declared.frame.Assumption.{Assumption}
use Rattle.lp_plain.specs.declared.instance.Values.{Values}
use Rattle.lp_plain.specs.declared.machine.Machine.{Machine}
use Rattle.lp_plain.specs.declared.unified.Unified.{Unified}
use Rattle.lp_plain.specs.Assuming.{GrowsAt}
use Rattle.lp_plain.specs.Entries.{AreAt}
use Rattle.lp_plain.specs.Renewal.{renewing}
use Rattle.lp_plain.specs.Scopes.{Holds}
use Rattle.lp_plain.specs.Tables.{IsRule, Never, shown}
use Rattle.lp_plain.specs.Unifying.{IsUnifiedAs, StandPairs}
use Rattle.lp_plain.specs.Within.{StandsIn}
use Rattle.lp_plain.specs.Written.{IsWritten}

-- a term with terms for its indices and types for its type variables, as a reading has it
abbrev pub read_in : Closing → (ℕ → Term) → (ℕ → Ty) → Term → Term
read_in z τ θ t = closed z (instantiate τ (instance_term θ t))

-- the head of a clause: a constant, or an index that stands for an eigenconstant
abbrev pub IsHeadFor : Closing → (ℕ → Term) → (ℕ → Ty) → Term → Type 0
IsHeadFor z τ θ (index i) = (k : ℕ) × (read_in z τ θ (index i) ≡ atom (eigen k))
IsHeadFor z τ θ (atom (constant c ts)) = Unit {0}
IsHeadFor z τ θ (atom (integer j)) = ⊥
IsHeadFor z τ θ (atom (text s)) = ⊥
IsHeadFor z τ θ (atom (eigen k)) = ⊥
IsHeadFor z τ θ (atom (logic x l)) = ⊥
IsHeadFor z τ θ (atom (param k t)) = ⊥
IsHeadFor z τ θ (abs b) = ⊥
IsHeadFor z τ θ (app t u) = ⊥

-- the head of a goal: a constant or an eigenconstant
abbrev pub IsCallHead : Term → Type 0
IsCallHead (index i) = ⊥
IsCallHead (atom (constant c ts)) = Unit {0}
IsCallHead (atom (integer j)) = ⊥
IsCallHead (atom (text s)) = ⊥
IsCallHead (atom (eigen k)) = Unit {0}
IsCallHead (atom (logic x l)) = ⊥
IsCallHead (atom (param k t)) = ⊥
IsCallHead (abs b) = ⊥
IsCallHead (app t u) = ⊥

-- what stands around a candidate's clause: of an assumption its own values; of a program clause nothing, and new numbers for its type variables
abbrev pub IsAround : Machine → Candidate → (rule : ℕ) → (type_vars : ℕ) → Values → Type 0
IsAround m (Candidate.Assumed i) k n v = (a : Assumption) × (slice_get m.assumptions.items i ≡ Some a) × (k ≡ a.rule) × (v ≡ a.values)
IsAround m (Candidate.Program i) k n v = (k ≡ i) × (v.scope ≡ None) × (v.types.count ≡ n) × (v.types.first ≡ m.branch.next_type)

-- a candidate's clause, with variables of these types and this head, and the terms around it
pub record IsTrialOf (m : Machine) (candidate : Candidate) (vs : List Ty) (h : Term) (values : Values) (σ : ℕ → Term) : Type 0 where
  pub rule : ℕ
  pub type_vars : ℕ
  pub body : Goals
  pub is : IsRule m.bank Never (shown m.table) rule (clause type_vars vs h body)
  pub around : IsAround m candidate rule type_vars values
  pub outer : List TermId
  pub scope : Holds m.scopes.values.items m.scopes.blocks.items values.scope outer
  pub at : AreAt m.bank outer σ
  pub shut : (i : ℕ) → LooseBelow 0 0 (σ i)
  pub arity : ℕ → ℕ
  pub types : ℕ
  pub written : IsWritten arity types (length vs + length outer) h

-- no clause stands for the candidate
abbrev pub IsNoTrial : Machine → Candidate → Type 0
IsNoTrial m candidate = (vs : List Ty) (h : Term) (values : Values) (σ : ℕ → Term) → IsTrialOf m candidate vs h values σ → ⊥

-- the first of these terms gives way to this one
abbrev pub with_first_term : Option Term → List Term → List Term
with_first_term None ts = ts
with_first_term (Some t) [] = []
with_first_term (Some t) (u ∷ ts) = t ∷ ts

abbrev pub term_at : Nodes → Option TermId → Option Term
term_at b None = None
term_at b (Some u) = Some (tree b u.0)

-- the goal for which clauses are tried: its first argument as it was looked at
abbrev pub goal_of : Machine → Call → Term
goal_of m call = apply (head_of (tree m.bank call.goal.0)) (with_first_term (term_at m.bank call.first) (arguments (tree m.bank call.goal.0)))

-- it stands in the bank and has no loose index, and its head is a constant or an eigenconstant
pub record IsGoalOf (m : Machine) (call : Call) : Type 0 where
  pub within : call.goal.0 < length m.bank.terms
  pub first : (u : TermId) → call.first ≡ Some u → u.0 < length m.bank.terms
  pub shut : LooseBelow 0 0 (goal_of m call)
  pub head : IsCallHead (head_of (goal_of m call))

-- a try leaves the alternatives and what is counted; all else may grow, and the goals that it puts have the call's assumptions
pub record GrowsByTry (old new : Machine) (call : Call) : Type 0 where
  pub grows : GrowsAt old new call.place
  pub bindings : Grows old.bindings new.bindings
  pub choices : new.choices.items ≡ old.choices.items
  pub counts : new.counts ≡ old.counts
  pub next : old.branch.next ≤ new.branch.next
  pub next_type : old.branch.next_type ≤ new.branch.next_type
  pub residual : StandPairs old → StandPairs new
  pub stands : StandsIn old → IsGoalOf old call → StandsIn new

-- the pairs of a try, as the definition makes them
abbrev pub tried_pairs : (next level : ℕ) → (head goal : Term) → List Pair
tried_pairs next level h t = pairs_of (slotted (slots_of [] (arguments h) (arguments t)) next level) level [] (arguments h) (arguments t)

-- a candidate is tried for a goal: whatever the definition makes of the equations of types and the pairs of the try, behind the residual pairs of the branch, it comes to that
abbrev pub IsTriedAs : (old new : Machine) → Call → Candidate → Unified → Type 0
IsTriedAs old new call candidate u =
    (vs : List Ty) (h : Term) (values : Values) (σ : ℕ → Term) → IsTrialOf old candidate vs h values σ → StandsIn old → All (IsPairOf (length old.bank.terms)) old.branch.pairs.items →
    (z : Closing) → IsOpenReading old.bank old.bindings old.branch.next z → IsGoalOf old call → IsHeadFor z (under_all lifted vs σ)
    (renewing values.types) (head_of h) → (ds : List Pair) → ArePairsFor old.bank z old.branch.pairs.items ds →
    let t : Term = closed z (goal_of old call) in let g : Term = read_in z (under_all lifted vs σ) (renewing values.types) h in let next : ℕ = old.branch.next + length vs in
    (levels : ℕ → ℕ) → AreKnownPairs levels next (tried_pairs old.branch.next call.place.level g t) → AreKnownPairs levels next ds → (n : ℕ) (o : Outcome) →
    solve n 1000000 (type_pairs (head_of t) (head_of g)) (tried_pairs old.branch.next call.place.level g t) ds next ≡ Some o → IsUnifiedAs u levels next z new n o
