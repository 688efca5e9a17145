-- Where a run of unification stands: the code's bindings and pairs beside the state of the definition.
use Rattle.std.specs.Prelude.{◌≡◌, ℕ, ◌+◌, ◌<◌, ◌≤◌, Bool, true, false, ◌||◌, List, All, length, Some}
use Rattle.lp_calculus.specs.Term.{Term}
use Rattle.lp_calculus.specs.Fill.{Within, put_all}
use Rattle.lp_term.specs.Nodes.{Nodes}
use Rattle.lp_model.specs.Pair.{Closing, closed, put_types_in}
use Rattle.lp_model.specs.Unify.{State, Unified, unify}
use Rattle.lp_model.specs.declared.answer.Pair.{Pair as Numbers}
use Rattle.lp_pattern.specs.declared.bindings.Bindings.{Bindings}
use Rattle.lp_pattern.specs.Growing.{IsPairOf}
use Rattle.lp_pattern.specs.Pruning.{Known}
use Rattle.lp_pattern.specs.Turning.{IsOpenReading, AreKnownPairs, ArePairsFor, IsFirm}

-- what a run began with
pub record Began : Type 0 where
  pub closing : Closing
  pub levels : ℕ → ℕ
  pub next : ℕ

-- bindings, the pairs to be taken, the first one first, those that wait, and the units left are those of a state. What was read at the start is read with the
-- state's bindings and types put in
pub record IsStateAt (limit : ℕ) (o : Began) (b : Nodes) (s : Bindings) (next units : ℕ) (front waiting : List Numbers) (st : State) : Type 0 where
  pub closing : Closing
  pub reading : IsOpenReading b s next closing
  pub levels : ℕ → ℕ
  pub older : (x : ℕ) → x < o.next → levels x ≡ o.levels x
  pub more : o.next ≤ next
  pub last : next ≡ st.next
  pub counted : limit ≡ st.units + units
  pub pairs : ArePairsFor b closing front st.pairs
  pub delayed : ArePairsFor b closing waiting st.delayed
  pub within : All (IsPairOf (length b.terms)) front
  pub within_delayed : All (IsPairOf (length b.terms)) waiting
  pub known : AreKnownPairs levels next st.pairs
  pub known_delayed : AreKnownPairs levels next st.delayed
  pub puts : (depth : ℕ) (t : Term) → Within (Known o.levels o.next) depth (closed o.closing t) → closed closing t ≡ put_types_in st.types (put_all st.bindings (closed o.closing t))
  pub knows : (depth : ℕ) (t : Term) → Within (Known o.levels o.next) depth t → Within (Known levels next) depth (put_types_in st.types (put_all st.bindings t))
  pub firm : IsFirm st.types closing

-- such a state leads to this outcome, and says so of whether something was bound
pub record LeadsTo (limit : ℕ) (o : Began) (n : ℕ) (u : Unified) (b : Nodes) (s : Bindings) (next units : ℕ) (front waiting : List Numbers) (bound : Bool) : Type 0 where
  pub turns : ℕ
  pub state : State
  pub comes : unify turns n limit state ≡ Some u
  pub is : IsStateAt limit o b s next units front waiting state
  pub changed : state.changed ≡ bound

-- whether there are more bindings than before
abbrev pub IsBoundSince : Bool → (old new : Bindings) → Type 0
IsBoundSince false s s' = (length s'.terms.entries ≡ length s.terms.entries) × (length s'.types.entries ≡ length s.types.entries)
IsBoundSince true s s' = length s.terms.entries + length s.types.entries < length s'.terms.entries + length s'.types.entries

-- the same run, with the pairs that are left and what was bound since
abbrev pub ComesTo : (limit : ℕ) → Began → (n : ℕ) → Unified → (bound : Bool) → (before : Bindings) → Nodes → Bindings → (next units : ℕ) → (front waiting : List Numbers) → Type 0
ComesTo limit o n u bound before b s next units front waiting = (since : Bool) × IsBoundSince since before s × LeadsTo limit o n u b s next units front waiting (bound || since)
