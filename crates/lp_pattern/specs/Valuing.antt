-- The value of a side's variable behind pruning.
use Rattle.std.specs.Prelude.{◌≡◌, ℕ, ◌<◌, length, true, false, [], Some}
use Rattle.lp_calculus.specs.Term.{Term}
use Rattle.lp_calculus.specs.Fill.{Within, abstracted}
use Rattle.lp_term.specs.Nodes.{Nodes}
use Rattle.lp_term.specs.declared.node.TermId.{TermId}
use Rattle.lp_model.specs.Look.{are_distinct}
use Rattle.lp_model.specs.Pair.{Closing}
use Rattle.lp_model.specs.Scan.{Side, Pruned, prune, settle}
use Rattle.lp_pattern.specs.declared.bindings.Bindings.{Bindings}
use Rattle.lp_pattern.specs.declared.fault.PatternRefusal.{PatternRefusal}
use Rattle.lp_pattern.specs.declared.scan.Scanned.{Scanned}
use Rattle.lp_pattern.specs.Putting.{Known, IsPutBehind}
use Rattle.lp_pattern.specs.Refusing.{IsNothing}
use Rattle.lp_pattern.specs.Turning.{IsOpenReading}
use Rattle.lp_pattern.specs.Under.{under}

-- a side's variable has its level and a number below the next one, and stands on distinct eigenconstants
pub record IsKnownSide (levels : ℕ → ℕ) (next : ℕ) (s : Side) : Type 0 where
  pub below : s.id < next
  pub level : s.level ≡ levels s.id
  pub distinct : are_distinct s.arguments ≡ true

-- a term was pruned to r, and settled to t: what is read behind the bindings of r, and the value, which is t without the side's eigenconstants
pub record IsValued (s : Side) (levels : ℕ → ℕ) (next : ℕ) (c : Closing) (old : Bindings) (d : Nodes) (new : Bindings) (next' : ℕ) (id : TermId) (r : Pruned) (t : Term) : Type 0 where
  pub closing : Closing
  pub levels' : ℕ → ℕ
  pub reading : IsOpenReading d new next' closing
  pub behind : IsPutBehind levels levels' next next' c closing old new r.bindings
  pub last : next' ≡ r.next
  pub within : id.0 < length d.terms
  pub known : Within (Known levels' next') 0 r.term
  pub is : under d closing id ≡ abstracted s.arguments t

-- where a term is pruned, and not at all if the scan noted no misfit, and then settled, the value at a number is as above
abbrev pub Values : (s : Side) → (levels : ℕ → ℕ) → (next : ℕ) → Closing → (old : Bindings) → (d : Nodes) → (new : Bindings) → (next' : ℕ) → TermId → (n : ℕ) → Scanned → Term → Type 0
Values s levels next c old d new next' id n f x =
    (r : Pruned) → prune n s next x ≡ Some r → (f.has_misfit ≡ false → r ≡ record { bindings = []; next = next; term = x }) → (t : Term) → settle n s.pair r.term ≡ Some t → IsValued s levels next c old d new next' id r t

-- there is no value: a million steps are too few to prune the term, or to settle it behind pruning
abbrev pub HasNoValue : (n : ℕ) → PatternRefusal → (s : Side) → (next : ℕ) → Scanned → Term → Type 0
HasNoValue n e s next f x = (r : Pruned) → prune n s next x ≡ Some r → (f.has_misfit ≡ false → r ≡ record { bindings = []; next = next; term = x }) → IsNothing n e (settle n s.pair r.term)
