-- Where a rule for one variable is given up the definition takes more units than there are, or fails with them.
use Rattle.std.proofs.Common.{◌≡◌, ℕ, [], ◌∙◌, sym, ap, subst as transport, true, false, Some, None}
use Rattle.lp_calculus.specs.Term.{Term}
use Rattle.lp_calculus.specs.Convert.{steps}
use Rattle.lp_calculus.specs.Fill.{Within}
use Rattle.lp_calculus.proofs.Steps.{within_reduces}
use Rattle.lp_term.specs.Nodes.{Nodes, Extends}
use Rattle.std.specs.Prelude.{Option}
use Rattle.lp_model.specs.Look.{Look, weak_step}
use Rattle.lp_model.specs.Pair.{Pair, Closing}
use Rattle.lp_model.specs.Rule.{Ruled, ruled, binds, bound, has_head, pattern_side, solve_for, by_pattern, by_rule_5}
use Rattle.lp_model.specs.Scan.{Scanned, broken, whole, Pruned, scan, prune, settle}
use Rattle.lp_model.specs.Scan as model
use Rattle.lp_pattern.specs.declared.bindings.Bindings.{Bindings}
use Rattle.lp_pattern.specs.declared.fault.PatternRefusal.{PatternRefusal}
use Rattle.lp_pattern.specs.declared.fault.PatternRefusal.TheVariants as refusal
use Rattle.lp_pattern.specs.declared.look.Looked.{Looked}
use Rattle.lp_pattern.specs.declared.scan.Scanned.{Scanned as Noted}
use Rattle.lp_pattern.specs.declared.side.Side.{Side}
use Rattle.lp_pattern.specs.Pruning.{IsPruned, Start}
use Rattle.lp_pattern.specs.Putting.{Known}
use Rattle.lp_pattern.specs.Reading.{side_of}
use Rattle.lp_pattern.specs.Refusing.{IsNothing}
use Rattle.lp_pattern.specs.Ruling.{view, IsSideOf, IsSeenPair, IsRuledOut}
use Rattle.lp_pattern.specs.Seen.{IsLooked}
use Rattle.lp_pattern.specs.Turning.{IsOpenReading, IsKnownPair}
use Rattle.lp_pattern.specs.Under.{under}
use Rattle.lp_pattern.specs.Valuing.{IsKnownSide, HasNoValue}
use Rattle.lp_pattern.specs.Visiting.{IsScanned}
use Rattle.lp_pattern.proofs.Compares.{from_bind, from_map}
use Rattle.lp_pattern.proofs.Dones.{known_side}
use Rattle.lp_pattern.proofs.Judging.{scanned_to, pruned_to, behind, by_right, left_side, right_side, out_below, view_kept}
use Rattle.lp_pattern.proofs.PruneSteps.{weak_reduces}
use Rattle.lp_pattern.proofs.SidesBound.{pruned_later, settle_reached, unpruned}
use Rattle.lp_pattern.proofs.Stacks.{under_kept}

-- nothing of nothing
pub nothing_behind : {A B : Type 0} (n : ℕ) (e : PatternRefusal) (o : Option A) (p : Option B) (x : A) → o ≡ Some x → IsNothing n e o → IsNothing n e p
nothing_behind n refusal.Fails o p x q h = absurd h
nothing_behind n refusal.Deep o p x q h = λ l. absurd (let z : None ≡ Some x = sym (h l) ∙ q in cc)
nothing_behind n refusal.Memory o p x q h = tt

-- rule 5 behind the scan
no_value : (n next j u w : ℕ) (s : model.Side) (t x : Term) (v : Look) (f : Noted) → steps weak_step j t ≡ Some x → has_head s v ≡ false → ((m : ℕ) (y : Scanned) → scan m s false s.pair x ≡ Some y → IsScanned s u w f y) → f.is_delayed ≡ false →
    ((r : Pruned) → prune n s next x ≡ Some r → (f.has_misfit ≡ false → r ≡ record { bindings = []; next = next; term = x }) → (b : Term) → settle n s.pair r.term ≡ Some b → ⊥) → (r : Ruled) → solve_for n next s t v ≡ Some r → ⊥
no_value n next j u w s t x v f a h i e g r o = let b = behind n next j s t x v r a h o in go b.scanned (i n b.scanned b.is) b.rest
  where
    go : (y : Scanned) → IsScanned s u w f y → scanned_to n next s t y ≡ Some r → ⊥
    go (broken m) l z = l
    go (whole m true ps) l z = let y : false ≡ true = sym e ∙ l.1 in cc
    go (whole m false ps) l z =
        let y = from_bind (pruned_to n m s) (prune n s next t) r z in
        let b = from_map (λ t'. ruled m (binds (bound s y.0.bindings t') y.0.next)) (settle n s.pair y.0.term) r y.2 in
        let l = pruned_later n s next j t x y.0 a y.1 in
        g l.pruned l.is (unpruned n s next u w x f l.pruned i l.is) b.0 (settle_reached n s.pair j y.0.term l.pruned.term l.term b.0 b.1)

pub value_out : (n next j u w : ℕ) (s : model.Side) (t x : Term) (v : Look) (f : Noted) (e : PatternRefusal) → steps weak_step j t ≡ Some x → has_head s v ≡ false → ((m : ℕ) (y : Scanned) → scan m s false s.pair x ≡ Some y → IsScanned s u w f y) →
    f.is_delayed ≡ false → HasNoValue n e s next f x → IsRuledOut n e u (solve_for n next s t v)
value_out n next j u w s t x v f refusal.Fails a h i d k = λ r q. absurd (no_value n next j u w s t x v f a h i d (λ p y m b z. k p y m) r q)
value_out n next j u w s t x v f refusal.Deep a h i d k = λ l r q. absurd (no_value n next j u w s t x v f a h i d (λ p y m b z. let g : None ≡ Some b = sym (k p y m l) ∙ z in absurd (cc)) r q)
value_out n next j u w s t x v f refusal.Memory a h i d k = tt

-- what is known where the rule applies
out_when : (n u : ℕ) (e : PatternRefusal) (o : Option Ruled) → ((r : Ruled) → o ≡ Some r → IsRuledOut n e u o) → IsRuledOut n e u o
out_when n u refusal.Fails o h = λ r q. h r q r q
out_when n u refusal.Deep o h = λ l r q. h r q l r q
out_when n u refusal.Memory o h = tt

module _ (b d : Nodes) (s : Bindings) (c : Closing) (one other : Looked) (level n next u : ℕ) (p : Pair) (e : Extends b d) (k : IsLooked b s one) (m : IsLooked b s other) (h : IsSeenPair b c level one other p) (o : IsOpenReading b s next c) (levels : ℕ → ℕ)
    (w : IsKnownPair levels next p) (y : PatternRefusal) where
  abbrev Stops : Side → Looked → Type 0
  Stops t r = IsKnownSide levels next (side_of t) → (n j : ℕ) (v : Term) → steps weak_step j v ≡ Some (under d c r.whole) → Within (Known levels next) 0 v → IsRuledOut n y u (solve_for n next (side_of t) v (view d c r))

  -- the left side is a pattern
  pub left_stopped : (t : Side) → IsSideOf n (view b c one) level (Some t) → Stops t other → IsRuledOut n y u (by_rule_5 n next p (view b c one) (view b c other))
  left_stopped t i g = out_when n u y (by_rule_5 n next p (view b c one) (view b c other)) (λ r q.
      let a = from_bind (by_right n next p (view b c one) (view b c other)) (pattern_side n p (view b c one)) r q in
      let z : pattern_side n p (view b c one) ≡ Some (Some (side_of t)) = a.1 ∙ ap (λ x. Some x) (i p h.stands a.0 a.1) in
      let known = known_side b s c one levels next n p (side_of t) o.reading k (within_reduces (Known levels next) 0 (weak_reduces h.left.0 p.left (under b c one.whole) h.left.1) w.0) z in
      out_below n u y (by_rule_5 n next p (view b c one) (view b c other)) (solve_for n next (side_of t) p.right (view b c other)) (left_side n next level p (view b c one) (view b c other) t i h.stands)
      (transport (λ v. IsRuledOut n y u (solve_for n next (side_of t) p.right v)) (view_kept b d s c other e m)
      (g known n h.right.0 p.right (h.right.1 ∙ ap (λ x. Some x) (sym (under_kept b d c other.whole e m.known))) w.1)))

  -- the right side is
  pub right_stopped : (t : Side) → IsSideOf n (view b c one) level None → IsSideOf n (view b c other) level (Some t) → Stops t one → IsRuledOut n y u (by_rule_5 n next p (view b c one) (view b c other))
  right_stopped t i j g = out_when n u y (by_rule_5 n next p (view b c one) (view b c other)) (λ r q.
      let a = from_bind (by_right n next p (view b c one) (view b c other)) (pattern_side n p (view b c one)) r q in
      let f = from_bind (by_pattern n next p (view b c one) (view b c other) None) (pattern_side n p (view b c other)) r (ap (by_right n next p (view b c one) (view b c other)) (sym (i p h.stands a.0 a.1)) ∙ a.2) in
      let z : pattern_side n p (view b c other) ≡ Some (Some (side_of t)) = f.1 ∙ ap (λ x. Some x) (j p h.stands f.0 f.1) in
      let known = known_side b s c other levels next n p (side_of t) o.reading m (within_reduces (Known levels next) 0 (weak_reduces h.right.0 p.right (under b c other.whole) h.right.1) w.1) z in
      out_below n u y (by_rule_5 n next p (view b c one) (view b c other)) (solve_for n next (side_of t) p.left (view b c one)) (right_side n next level p (view b c one) (view b c other) t i j h.stands)
      (transport (λ v. IsRuledOut n y u (solve_for n next (side_of t) p.left v)) (view_kept b d s c one e k)
      (g known n h.left.0 p.left (h.left.1 ∙ ap (λ x. Some x) (sym (under_kept b d c one.whole e k.known))) w.0)))

-- the value behind pruning
pub no_value_behind : (s : model.Side) (o : Start) (next n : ℕ) (b : Nodes) (bs : Bindings) (term : _) (r : Pruned) (e : PatternRefusal) → (p : IsPruned o b bs next term r) → IsNothing n e (settle n s.pair (under b p.closing term)) → IsNothing n e (settle n s.pair r.term)
no_value_behind s o next n b bs term r e p h = transport (λ t. IsNothing n e (settle n s.pair t)) p.is h
