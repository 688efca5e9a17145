-- What the code gives to the unification stands for what the definition gives to it.
use Rattle.std.proofs.Common.{◌≡◌, ℕ, zero, suc, ◌<◌, ◌≤◌, List, [], ◌∷◌, ◌++◌, map, length, get_or, sym, ap, ◌∙◌, subst, arith, if◌then◌else◌, Some, None, inl, inr}
use Rattle.std.specs.Prelude.{All, slice_get}
use Rattle.std.proofs.lemmas.Bool.{lt-ltb, le-ltb}
use Rattle.std.proofs.lemmas.List.Elements.{All-head, All-tail}
use Rattle.lp_calculus.specs.Types.{Ty}
use Rattle.lp_calculus.specs.Term.{Term, Atom, index, atom}
use Rattle.lp_calculus.specs.Instance.{instance_term}
use Rattle.lp_term.specs.Nodes.{Nodes, Extends, tree}
use Rattle.lp_term.specs.declared.node.TermId.{TermId}
use Rattle.lp_term.specs.declared.node.TypeId.{TypeId}
use Rattle.lp_model.specs.Pair.{Pair, Closing, closed}
use Rattle.lp_model.specs.Rule.{type_pairs}
use Rattle.lp_model.specs.Unify.{Unified as Outcome, solve}
use Rattle.lp_model.specs.declared.answer.Pair.{Pair as Numbers}
use Rattle.lp_pattern.specs.Reading.{type_pairs_of}
use Rattle.lp_pattern.specs.Turning.{IsOpenReading, AreKnownPairs, IsReachedAs, ArePairsFor}
use Rattle.lp_pattern.proofs.PairsThrough.{pairs_stay}
use Rattle.lp_pattern.proofs.Walking.{open_kept}
use Rattle.lp_plain.specs.declared.instance.Values.{Values}
use Rattle.lp_plain.specs.declared.machine.Machine.{Machine}
use Rattle.lp_plain.specs.declared.table.Rule.{Rule}
use Rattle.lp_plain.specs.declared.unified.Unified.{Unified}
use Rattle.lp_plain.specs.Heads.{pair_in}
use Rattle.lp_plain.specs.Instances.{AreValues, IsNoParameter}
use Rattle.lp_plain.specs.Meeting.{AreReached, IsMet, met_pairs}
use Rattle.lp_plain.specs.Renewal.{renewing}
use Rattle.lp_plain.specs.Scopes.{IsScope}
use Rattle.lp_plain.specs.Attempted.{ArePaired, AreWrittenIn, becomes}
use Rattle.lp_plain.specs.Unifying.{IsUnifiedAs}

pub reached_later : (b d : Nodes) (z : Closing) (t : TermId) (u : Term) → Extends b d → t.0 < length b.terms → IsReachedAs b z t u → IsReachedAs d z t u
reached_later b d z t u E l r = (r.0, r.1 ∙ ap (λ x. Some (closed z x)) (sym (E.same_terms t.0 l)))

pub all_reached_later : (b d : Nodes) (z : Closing) (ts : List TermId) (us : List Term) → Extends b d → All (λ t. t.0 < length b.terms) ts → AreReached b z ts us → AreReached d z ts us
all_reached_later b d z [] [] E l r = tt
all_reached_later b d z [] (u ∷ us) E l r = absurd r
all_reached_later b d z (t ∷ ts) [] E l r = absurd r
all_reached_later b d z (t ∷ ts) (u ∷ us) E l r =
    (reached_later b d z t u E (All-head (λ (x : TermId). x.0 < length b.terms) t ts l) r.0, all_reached_later b d z ts us E (All-tail (λ (x : TermId). x.0 < length b.terms) t ts l) r.1)

-- the argument in a place
reached_at : (b : Nodes) (z : Closing) (ts : List TermId) (us : List Term) (i : ℕ) (t : TermId) → AreReached b z ts us → slice_get ts i ≡ Some t →
    (i < length us) × IsReachedAs b z t (get_or us i (index 0))
reached_at b z [] [] i t r e = absurd (cc)
reached_at b z [] (u ∷ us) i t r e = absurd r
reached_at b z (x ∷ ts) [] i t r e = absurd r
reached_at b z (x ∷ ts) (u ∷ us) zero t r e = let q : x ≡ t = cc in (omega arith, subst (λ y. IsReachedAs b z y u) q r.0)
reached_at b z (x ∷ ts) (u ∷ us) (suc i) t r e = let w = reached_at b z ts us i t r.1 e in (let l = w.0 in omega (arith, l), w.1)

none_at : (b : Nodes) (z : Closing) (ts : List TermId) (us : List Term) (i : ℕ) → AreReached b z ts us → slice_get ts i ≡ None → length us ≤ i
none_at b z [] [] i r e = omega arith
none_at b z [] (u ∷ us) i r e = absurd r
none_at b z (x ∷ ts) [] i r e = absurd r
none_at b z (x ∷ ts) (u ∷ us) zero r e = absurd (cc)
none_at b z (x ∷ ts) (u ∷ us) (suc i) r e = let l = none_at b z ts us i r.1 e in omega (arith, l)

pub paired_for : (b : Nodes) (z : Closing) (args : List TermId) (us : List Term) (l : ℕ) (f : Term → Term) (ps : List (ℕ × Term)) (qs : List Numbers)
    → AreReached b z args us → ArePaired b args l f ps qs → ArePairsFor b z qs (met_pairs z f l us ps)
paired_for b z args us l f [] qs r h = subst (λ xs. ArePairsFor b z xs []) (sym h) tt
paired_for b z args us l f (p ∷ ps) qs r (inl (n, h)) =
    subst (λ t. ArePairsFor b z qs ((if t then record { left = get_or us p.0 (index 0); right = closed z (f p.1); level = l } ∷ [] else []) ++
    met_pairs z f l us ps)) (sym (le-ltb p.0 (length us) (none_at b z args us p.0 r n)))
    (paired_for b z args us l f ps qs r h)
paired_for b z args us l f (p ∷ ps) qs r (inr (q, rest, e, w, h)) =
    let x = reached_at b z args us p.0 q.left r w.left in
    subst (λ ys. ArePairsFor b z ys (met_pairs z f l us (p ∷ ps))) (sym e)
    (subst (λ t. ArePairsFor b z (q ∷ rest) ((if t then record { left = get_or us p.0 (index 0); right = closed z (f p.1); level = l } ∷ [] else [])
    ++ met_pairs z f l us ps)) (sym (lt-ltb p.0 (length us) x.0))
    (record { stands = sym w.stands; left = x.1; right = (0, ap (λ y. Some (closed z y)) (sym w.right)) }, paired_for b z args us l f ps rest r h))

-- what a unification comes to
abbrev pub IsSolvedAs : (mid new : Machine) → List (TypeId × TypeId) → List Numbers → Unified → Type 0
IsSolvedAs mid new types pairs u = (c : Closing) → IsOpenReading mid.bank mid.bindings mid.branch.next c → (levels : ℕ → ℕ) → (ps ds : List Pair) →
    ArePairsFor mid.bank c pairs ps → ArePairsFor mid.bank c mid.branch.pairs.items ds → AreKnownPairs levels mid.branch.next ps →
    AreKnownPairs levels mid.branch.next ds → (n : ℕ) (o : Outcome) → solve n 1000000 (type_pairs_of mid.bank c.types types) ps ds mid.branch.next ≡ Some o → IsUnifiedAs u levels mid.branch.next c new n o

-- a unification in a later bank
module _ (old mid new : Machine) (r : Rule) (goal : TermId) (args : List TermId) (values : Values) (level : ℕ) (u : Unified)
    (types : List (TypeId × TypeId)) (pairs : List Numbers) (E : Extends old.bank mid.bank) (s : mid.bindings ≡ old.bindings)
    (b : mid.branch ≡ old.branch)
    (t : (θ : ℕ → Ty) → (a : Atom) → tree old.bank goal.0 ≡ atom a → IsNoParameter a → type_pairs_of mid.bank θ types ≡ type_pairs
    (instance_term θ (tree old.bank goal.0)) (instance_term θ (instance_term (renewing values.types) (tree old.bank r.head.0))))
    (p : (nb nv : ℕ) → (vs : List TermId) → IsScope old.scopes nb nv values.scope vs → AreValues old.bank vs → (ar : ℕ → ℕ) → (k : ℕ) → AreWrittenIn old.bank ar k (length vs) r.pairs.items →
    ArePaired mid.bank args level (becomes old.bank vs values.types) (map (pair_in old.bank) r.pairs.items) pairs)
    (w : IsSolvedAs mid new types pairs u) where
  pub unified_met : IsMet old new r goal args values level u
  unified_met a g np la lp nb nv vs h v ar k m z y us q ds d levels kn kd n o e =
      let f = becomes old.bank vs values.types in
      let ps = met_pairs z f level us (map (pair_in old.bank) r.pairs.items) in
      let next : mid.branch.next ≡ old.branch.next = ap (λ x. x.next) b in
      let front : ArePairsFor mid.bank z pairs ps = paired_for mid.bank z args us level f (map (pair_in old.bank) r.pairs.items) pairs
      (all_reached_later old.bank mid.bank z args us E la q) (p nb nv vs h v ar k m) in
      let back : ArePairsFor mid.bank z old.branch.pairs.items ds = pairs_stay old.bank mid.bank z old.branch.pairs.items ds E lp d in
      let read : IsOpenReading mid.bank old.bindings old.branch.next z = open_kept old.bank mid.bank old.bindings old.branch.next z E y in
      subst (λ x. IsUnifiedAs u levels x z new n o) next
      (w z (subst (λ x. IsOpenReading mid.bank x mid.branch.next z) (sym s) (subst (λ x. IsOpenReading mid.bank old.bindings x z) (sym next) read))
      levels ps ds front (subst (λ x. ArePairsFor mid.bank z x.pairs.items ds) (sym b) back)
      (subst (λ x. AreKnownPairs levels x ps) (sym next) kn) (subst (λ x. AreKnownPairs levels x ds) (sym next) kd) n o
      (ap (λ x. solve n 1000000 x ps ds mid.branch.next) (t z.types a g np) ∙ ap (solve n 1000000
      (type_pairs (instance_term z.types (tree old.bank goal.0)) (instance_term z.types
      (instance_term (renewing values.types) (tree old.bank r.head.0)))) ps ds) next ∙ e))

-- with the lists that are handed over
pub slices_met : (old mid new : Machine) (r : Rule) (goal : TermId) (args : List TermId) (values : Values) (level : ℕ) (u : Unified)
    (types types' : List (TypeId × TypeId)) (pairs pairs' : List Numbers) → types' ≡ types → pairs' ≡ pairs → Extends old.bank mid.bank →
    mid.bindings ≡ old.bindings → mid.branch ≡ old.branch →
    ((θ : ℕ → Ty) → (a : Atom) → tree old.bank goal.0 ≡ atom a → IsNoParameter a → type_pairs_of mid.bank θ types ≡ type_pairs
    (instance_term θ (tree old.bank goal.0)) (instance_term θ (instance_term (renewing values.types) (tree old.bank r.head.0)))) →
    ((nb nv : ℕ) → (vs : List TermId) → IsScope old.scopes nb nv values.scope vs → AreValues old.bank vs → (ar : ℕ → ℕ) → (k : ℕ) → AreWrittenIn old.bank ar k (length vs) r.pairs.items →
    ArePaired mid.bank args level (becomes old.bank vs values.types) (map (pair_in old.bank) r.pairs.items) pairs) →
    IsSolvedAs mid new types' pairs' u → IsMet old new r goal args values level u
slices_met old mid new r goal args values level u types types' pairs pairs' et ep E s b t p w =
    unified_met old mid new r goal args values level u types pairs E s b t p (subst (λ x. IsSolvedAs mid new x pairs u) et (subst (λ x. IsSolvedAs mid new types' x u) ep w))

-- the clause that was read is this one
pub for_rule : (m n : Machine) (goal : TermId) (args : List TermId) (values : Values) (level : ℕ) (u : Unified) (f r : Rule) → f ≡ r → IsMet m n f
    goal args values level u → IsMet m n r goal args values level u
for_rule m n goal args values level u f r e h = subst (λ x. IsMet m n x goal args values level u) e h
