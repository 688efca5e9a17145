-- Pruning by parts: what is left of it leads to what the definition's pruning comes to.
use Rattle.std.specs.Prelude.{◌≡◌, ℕ, ◌<◌, ◌≤◌, nat_eq, List, [], ◌∷◌, ◌++◌, All, None, Some, length}
use Rattle.indexmap.specs.IndexMap.{get}
use Rattle.lp_calculus.specs.Fill.{Within, Binding}
use Rattle.lp_term.specs.Nodes.{Nodes}
use Rattle.lp_term.specs.declared.node.TermId.{TermId}
use Rattle.lp_model.specs.Pair.{Closing}
use Rattle.lp_model.specs.Scan.{Side, Pruned, prune}
use Rattle.lp_pattern.specs.declared.bindings.Bindings.{Bindings}
use Rattle.lp_pattern.specs.declared.fault.PatternRefusal.{PatternRefusal}
use Rattle.lp_pattern.specs.declared.scan.Visit.{Visit}
use Rattle.lp_pattern.specs.Filling.{IsStill}
use Rattle.lp_pattern.specs.Passing.{Passed, outer, outers_of}
pub use Rattle.lp_pattern.specs.Putting.{Known}
use Rattle.lp_pattern.specs.Putting.{IsPutBehind}
use Rattle.lp_pattern.specs.Refusing.{IsGivenUp}
use Rattle.lp_pattern.specs.Stripping.{IsShut}
use Rattle.lp_pattern.specs.Turning.{IsOpenReading}
use Rattle.lp_pattern.specs.Under.{IsReading, under}
use Rattle.lp_pattern.specs.Visiting.{IsVisitOf}

-- what pruning began with
pub record Start : Type 0 where
  pub closing : Closing
  pub levels : ℕ → ℕ
  pub next : ℕ
  pub bindings : Bindings

-- a side's pruning of a term is under way, with so many turns left at most
pub record IsPruning (s : Side) (o : Start) (most : ℕ) (b : Nodes) (bs : Bindings) (next : ℕ) (term : TermId) (left : List Visit) (r : Pruned) : Type 0 where
  pub closing : Closing
  pub levels : ℕ → ℕ
  pub turns : ℕ
  pub few : turns ≤ most
  pub reading : IsReading b bs closing
  pub shut : IsShut closing
  pub still : IsStill closing.types
  pub known : Within (Known levels next) 0 (under b closing term)
  pub unbound : (x : ℕ) → next ≤ x → get nat_eq bs.terms x ≡ None
  pub whole : term.0 < length b.terms
  pub inside : All (IsVisitOf (length b.terms) s.pair) left
  pub passed : Passed s (outer s.pair (under b closing term) ∷ []) (outers_of b closing left)
  pub now : Pruned
  pub rest : prune turns s next (under b closing term) ≡ Some now
  pub same : now.term ≡ r.term
  pub last : now.next ≡ r.next
  pub made : List Binding
  pub all : r.bindings ≡ made ++ now.bindings
  pub behind : IsPutBehind o.levels levels o.next next o.closing closing o.bindings bs made

-- it is done
pub record IsPruned (o : Start) (b : Nodes) (bs : Bindings) (next : ℕ) (term : TermId) (r : Pruned) : Type 0 where
  pub closing : Closing
  pub levels : ℕ → ℕ
  pub reading : IsOpenReading b bs next closing
  pub is : under b closing term ≡ r.term
  pub last : next ≡ r.next
  pub whole : term.0 < length b.terms
  pub known : Within (Known levels next) 0 r.term
  pub behind : IsPutBehind o.levels levels o.next next o.closing closing o.bindings bs r.bindings

-- another term in the place of a part
abbrev pub visit_at : Visit → TermId → Visit
visit_at v t = record { term = t; opened = v.opened; is_inside = v.is_inside }

-- what is left behind a visit leads to what was left before it
abbrev pub Prunes : Side → (b d : Nodes) → (old new : Bindings) → (next next' : ℕ) → (left left' : List Visit) → Type 0
Prunes s b d bs bs' next next' left left' = s.id < next → (o : Start) → (most : ℕ) → (term : TermId) → (r : Pruned) → IsPruning s o most b bs next term left r → IsPruning s o most d bs' next' term left' r

-- pruning stops at these parts, and not for want of steps where it is under way with a million turns at most
abbrev pub StopsPruning : PatternRefusal → Side → Nodes → Bindings → (next : ℕ) → List Visit → Type 0
StopsPruning e s b bs next left = s.id < next → (o : Start) → (most : ℕ) → (term : TermId) → (r : Pruned) → IsGivenUp most e (IsPruning s o most b bs next term left r)
