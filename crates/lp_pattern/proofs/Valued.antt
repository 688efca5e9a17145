-- The value of a side's variable is settled behind pruning.
use Rattle.std.proofs.Common.{◌≡◌, ℕ, ◌<◌, [], length, ◌∙◌, refl, sym, ap, subst as transport, true, Some}
use Rattle.lp_calculus.specs.Term.{Term}
use Rattle.lp_calculus.specs.Fill.{Within, abstracted}
use Rattle.lp_term.specs.Nodes.{Nodes, Extends}
use Rattle.lp_term.specs.declared.node.TermId.{TermId}
use Rattle.lp_model.specs.Look.{are_distinct}
use Rattle.lp_model.specs.Pair.{Closing}
use Rattle.lp_model.specs.Scan.{Side, Pruned, settle}
use Rattle.lp_pattern.proofs.Walking.{open_kept}
use Rattle.lp_pattern.specs.declared.bindings.Bindings.{Bindings}
use Rattle.lp_pattern.specs.Pruning.{IsPruned}
use Rattle.lp_pattern.specs.Putting.{Known}
use Rattle.lp_pattern.specs.Stripping.{IsShut}
use Rattle.lp_pattern.specs.Turning.{IsOpenReading}
use Rattle.lp_pattern.specs.Under.{IsReading, under}
use Rattle.lp_pattern.specs.Valuing.{IsValued}
use Rattle.lp_pattern.proofs.BoundOnce.{put_none}

-- where the definition settles the term at a number, the value is that under each reading
abbrev SettlesAs : Side → (b d : Nodes) → Bindings → (term id : TermId) → Type 0
SettlesAs s b d bs term id =
    term.0 < length b.terms → are_distinct s.arguments ≡ true → (c : Closing) → IsReading b bs c → IsShut c → (n : ℕ) → (t : Term) → settle n s.pair (under b c term) ≡ Some t → under d c id ≡ abstracted s.arguments t

pub valued_pruned : (s : Side) (levels : ℕ → ℕ) (next next' n : ℕ) (c : Closing) (old new : Bindings) (b d : Nodes) (term id : TermId) (r : Pruned) (t : Term) → IsPruned (record { closing = c; levels = levels; next = next; bindings = old }) b new next' term r →
    Extends b d → id.0 < length d.terms → SettlesAs s b d new term id → are_distinct s.arguments ≡ true → settle n s.pair r.term ≡ Some t → IsValued s levels next c old d new next' id r t
valued_pruned s levels next next' n c old new b d term id r t p e i g k q = record {
  closing = p.closing;
  levels' = p.levels;
  reading = open_kept b d new next' p.closing e p.reading;
  behind = p.behind;
  last = p.last;
  within = i;
  known = p.known;
  is = g p.whole k p.closing p.reading.reading p.reading.shut n t (ap (settle n s.pair) p.is ∙ q);
}

pub valued_whole : (s : Side) (levels : ℕ → ℕ) (next n : ℕ) (c : Closing) (bs : Bindings) (b d : Nodes) (term id : TermId) (r : Pruned) (t : Term) → IsOpenReading b bs next c → Within (Known levels next) 0 (under b c term) → term.0 < length b.terms → Extends b d →
    id.0 < length d.terms → SettlesAs s b d bs term id → are_distinct s.arguments ≡ true → r ≡ record { bindings = []; next = next; term = under b c term } → settle n s.pair r.term ≡ Some t → IsValued s levels next c bs d bs next id r t
valued_whole s levels next n c bs b d term id r t o w l e i g k p q =
    transport (λ y. IsValued s levels next c bs d bs next id y t) (sym p) (record {
      closing = c;
      levels' = levels;
      reading = open_kept b d bs next c e o;
      behind = put_none levels next c bs;
      last = refl;
      within = i;
      known = w;
      is = g l k c o.reading o.shut n t (ap (λ y. settle n s.pair y.term) (sym p) ∙ q);
    })
