-- Pairs without a variable as a head: the rule that applies, and its units.
use Rattle.std.proofs.Common.{◌≡◌, ℕ, ◌+◌, ◌<◌, ◌≤◌, List, [], ◌∷◌, map, length, ◌∙◌, refl, sym, ap, subst as transport, arith, Bool, true, false, Option, Some, None, nat_eq}
use Rattle.std.specs.Prelude.{option_map, ◌&&◌}
use Rattle.std.proofs.lemmas.Bool.{ne_eqb}
use Rattle.lp_calculus.specs.Term.{Term}
use Rattle.lp_term.specs.Nodes.{Nodes}
use Rattle.lp_term.specs.declared.node.TermId.{TermId}
use Rattle.lp_term.specs.declared.node.TypeId.{TypeId}
use Rattle.lp_term.specs.declared.reduce.TermRefusal.{TermRefusal}
use Rattle.lp_model.specs.Look.{Look, an_abs, rigid, flexible, look}
use Rattle.lp_model.specs.Pair.{Pair, Closing, closed}
use Rattle.lp_model.specs.Rule.{fails, gives, Ruled, ruled, rule, by_looks, decompose, with_types, type_pairs, opened}
use Rattle.lp_model.specs.Same.{same_name}
use Rattle.lp_model.specs.Types.{TypeOutcome, none, solved, solve_types}
use Rattle.lp_calculus.specs.Instance.{instance_term}
use Rattle.lp_lemmas.proofs.Booleans.{and_equal}
use Rattle.lp_unify_laws.proofs.TypedInstances.{length_map}
use Rattle.lp_pattern.specs.declared.bindings.Bindings.{Bindings}
use Rattle.lp_pattern.specs.declared.fault.PatternRefusal.{PatternRefusal}
use Rattle.lp_pattern.specs.declared.fault.PatternRefusal.TheVariants.{Deep}
use Rattle.lp_pattern.specs.declared.fault.PatternRefusal.TheVariants as refusal
use Rattle.lp_pattern.specs.declared.look.Head.{Head}
use Rattle.lp_pattern.specs.declared.look.Looked.{Looked}
use Rattle.lp_pattern.specs.Filling.{IsSolvedIn, IsUnsolvedIn}
use Rattle.lp_pattern.specs.Reading.{type_pairs_of}
use Rattle.lp_pattern.specs.Refusing.{IsOfTerm}
use Rattle.lp_pattern.specs.Ruling.{is_flexible, are_both_rigid, IsSeenPair, IsDone, IsRuledOut}
use Rattle.lp_pattern.specs.Seen.{IsRigid, IsLooked, IsDeepWhere, seen}
use Rattle.lp_pattern.specs.Under.{IsReading, under}
use Rattle.lp_pattern.proofs.Compares.{from_map}
use Rattle.lp_pattern.proofs.HeadTypes.{names_under}
use Rattle.lp_pattern.specs.Behind.{IsReadBehind, IsGiven}
use Rattle.lp_pattern.proofs.Refused.{too_far}
use Rattle.lp_pattern.proofs.Stacks.{rigid_closed}
use Rattle.lp_pattern.proofs.Judging.{IsLookedAt, looked_at, Ruling, ruling, seen_abs}

abbrev decomposed : ℕ → (level : ℕ) → Term → List Term → Term → List Term → Bool → Option Ruled
decomposed n level h ts g us b = elim b [ true ↦ option_map (with_types level ts us) (solve_types n (type_pairs h g) [] 0) | false ↦ Some (ruled 0 fails) ]

-- two heads of one name with as many arguments
module _ (b : Nodes) (c : Closing) (t u : Term) (h : Bool) (ts us : List Term) (level n limit : ℕ) (ps : List (TypeId × TypeId)) (i : IsRigid t) (j : IsRigid u) (e : h ≡ same_name t u) (f : h ≡ true) (q : length ts ≡ length us)
    (p : type_pairs_of b c.types ps ≡ type_pairs (instance_term c.types t) (instance_term c.types u)) where
  alike : (same_name (closed c t) (closed c u) && nat_eq (length ts) (length us)) ≡ true
  alike = and_equal (same_name (closed c t) (closed c u)) (length ts) (length us) (names_under c t u i j ∙ sym e ∙ f) q

  their_types : type_pairs (closed c t) (closed c u) ≡ type_pairs_of b c.types ps
  their_types = (λ x. type_pairs (rigid_closed c t i x) (rigid_closed c u j x)) ∙ sym p

  solving : (r : Ruled) → decompose n level (closed c t) ts (closed c u) us ≡ Some r → (o : TypeOutcome) × (solve_types n (type_pairs_of b c.types ps) [] 0 ≡ Some o) × (r ≡ with_types level ts us o)
  solving r x =
      let y : option_map (with_types level ts us) (solve_types n (type_pairs (closed c t) (closed c u)) [] 0) ≡ Some r = ap (decomposed n level (closed c t) ts (closed c u) us) (sym alike) ∙ x in
      from_map (with_types level ts us) (solve_types n (type_pairs_of b c.types ps) [] 0) r (ap (λ l. option_map (with_types level ts us) (solve_types n l [] 0)) (sym their_types) ∙ y)

  pub decompose_goes : (left : ℕ) → ((o : TypeOutcome) → solve_types n (type_pairs_of b c.types ps) [] 0 ≡ Some o → IsSolvedIn limit left o) → (r : Ruled) → decompose n level (closed c t) ts (closed c u) us ≡ Some r →
      (limit ≡ r.units + left) × IsDone r.verdict
  decompose_goes left g r x = let w = solving r x in transport (λ z. (limit ≡ z.units + left) × IsDone z.verdict) (sym w.2) (go w.0 (g w.0 w.1))
    where
      go : (o : TypeOutcome) → IsSolvedIn limit left o → (limit ≡ (with_types level ts us o).units + left) × IsDone (with_types level ts us o).verdict
      go (none w) y = absurd y
      go (solved made w) y = (y, tt)

  pub decompose_gives : (s : Bindings) (d : Nodes) (s' : Bindings) → ((o : TypeOutcome) → solve_types n (type_pairs_of b c.types ps) [] 0 ≡ Some o → IsReadBehind s d s' c o) → (r : Ruled) → decompose n level (closed c t) ts (closed c u) us ≡ Some r →
      IsGiven s d s' c level ts us r.verdict
  decompose_gives s d s' g r x =
      let w = solving r x in
      let k = g w.0 w.1 in record {
        bindings = k.bindings;
        is = ap (λ z. z.verdict) (w.2 ∙ ap (with_types level ts us) k.is);
        reading = k.reading;
        shut = k.shut;
        still = k.still;
        terms = k.terms;
        firm = k.firm;
        count = k.count;
      }

  pub decompose_out : (y : PatternRefusal) → ((o : TypeOutcome) → solve_types n (type_pairs_of b c.types ps) [] 0 ≡ Some o → IsUnsolvedIn y limit o) → IsRuledOut n y limit (decompose n level (closed c t) ts (closed c u) us)
  decompose_out refusal.Fails g = λ r x. let w = solving r x in transport (λ z. (z.verdict ≡ fails) × (z.units ≤ limit)) (sym w.2) (go w.0 (g w.0 w.1))
    where
      go : (o : TypeOutcome) → IsUnsolvedIn refusal.Fails limit o → ((with_types level ts us o).verdict ≡ fails) × ((with_types level ts us o).units ≤ limit)
      go (none w) y = (refl, y)
      go (solved made w) y = absurd y
  decompose_out Deep g = λ l r x. let w = solving r x in transport (λ z. limit < z.units) (sym w.2) (go w.0 (g w.0 w.1))
    where
      go : (o : TypeOutcome) → IsUnsolvedIn Deep limit o → limit < (with_types level ts us o).units
      go (none w) y = y
      go (solved made w) y = y
  decompose_out refusal.Memory g = tt

-- heads that differ
pub decompose_fails : (n level limit : ℕ) (h g : Term) (ts us : List Term) → (same_name h g && nat_eq (length ts) (length us)) ≡ false → IsRuledOut n refusal.Fails limit (decompose n level h ts g us)
decompose_fails n level limit h g ts us e r x =
    let y : Some (ruled 0 fails) ≡ Some r = ap (decomposed n level h ts g us) (sym e) ∙ x in
    let z : ruled 0 fails ≡ r = cc in
    transport (λ k. (k.verdict ≡ fails) × (k.units ≤ limit)) z (refl, omega arith)

and_false : (h : Bool) → (h && false) ≡ false
and_false true = refl
and_false false = refl

pub lengths_differ : (b : Nodes) (c : Closing) (h : Bool) (ts us : List TermId) → (length ts ≡ length us → ⊥) → (h && nat_eq (length (map (under b c) ts)) (length (map (under b c) us))) ≡ false
lengths_differ b c h ts us e = (λ i. h && nat_eq (length_map (under b c) ts i) (length_map (under b c) us i)) ∙ ap (λ x. h && x) (ne_eqb (length ts) (length us) e) ∙ and_false h

pub names_differ : (c : Closing) (t u : Term) (h : Bool) (ts us : List Term) → IsRigid t → IsRigid u → h ≡ same_name t u → h ≡ false → (same_name (closed c t) (closed c u) && nat_eq (length ts) (length us)) ≡ false
names_differ c t u h ts us i j e f = ap (λ x. x && nat_eq (length ts) (length us)) (names_under c t u i j ∙ sym e ∙ f)

pub even : (b : Nodes) (c : Closing) (ts us : List TermId) → length ts ≡ length us → length (map (under b c) ts) ≡ length (map (under b c) us)
even b c ts us e = length_map (under b c) ts ∙ e ∙ sym (length_map (under b c) us)

-- what the test for rigid heads tells
pub both_rigid : (h g : Head) → are_both_rigid h g ≡ true → (h ≡ Head.Rigid) × (g ≡ Head.Rigid)
both_rigid Head.Rigid Head.Rigid e = (refl, refl)
both_rigid Head.Rigid (Head.Abstraction b) e = absurd (cc)
both_rigid Head.Rigid (Head.Variable x l) e = absurd (cc)
both_rigid (Head.Abstraction b) g e = absurd (cc)
both_rigid (Head.Variable x l) g e = absurd (cc)

opened_left : (n next : ℕ) (p : Pair) (v w : Look) (x : Term) (r : Ruled) → v ≡ an_abs x → by_looks n next p v w ≡ Some r → ruled 0 (gives [] (opened p ∷ [])) ≡ r
opened_left n next p v w x r i e = let y : Some (ruled 0 (gives [] (opened p ∷ []))) ≡ Some r = sym (ap (λ z. by_looks n next p z w) i) ∙ e in cc

opened_right : (n next : ℕ) (p : Pair) (v w : Look) (x : Term) (r : Ruled) → w ≡ an_abs x → by_looks n next p v w ≡ Some r → ruled 0 (gives [] (opened p ∷ [])) ≡ r
opened_right n next p (an_abs y) w x r i e = cc
opened_right n next p (rigid h ts) w x r i e = let y : Some (ruled 0 (gives [] (opened p ∷ []))) ≡ Some r = sym (ap (by_looks n next p (rigid h ts)) i) ∙ e in cc
opened_right n next p (flexible y l ts) w x r i e = let y : Some (ruled 0 (gives [] (opened p ∷ []))) ≡ Some r = sym (ap (by_looks n next p (flexible y l ts)) i) ∙ e in cc

opened_at : (n next : ℕ) (p : Pair) (b : Nodes) (c : Closing) (h g : Head) (t u : TermId) (ids js : List TermId) (v w : Look) (r : Ruled) → is_flexible h g ≡ false → are_both_rigid h g ≡ false → seen n b c h t ids ≡ Some v → seen n b c g u js ≡ Some w →
    by_looks n next p v w ≡ Some r → ruled 0 (gives [] (opened p ∷ [])) ≡ r
opened_at n next p b c (Head.Abstraction body) g t u ids js v w r f k x y e = let z = seen_abs n b c body t ids v x in opened_left n next p v w z.0 r z.1 e
opened_at n next p b c (Head.Variable i l) (Head.Abstraction body) t u ids js v w r f k x y e = let z = seen_abs n b c body u js w y in opened_right n next p v w z.0 r z.1 e
opened_at n next p b c (Head.Variable i l) (Head.Variable j m) t u ids js v w r f k x y e = absurd (cc)
opened_at n next p b c (Head.Variable i l) Head.Rigid t u ids js v w r f k x y e = absurd (cc)
opened_at n next p b c Head.Rigid (Head.Abstraction body) t u ids js v w r f k x y e = let z = seen_abs n b c body u js w y in opened_right n next p v w z.0 r z.1 e
opened_at n next p b c Head.Rigid (Head.Variable j m) t u ids js v w r f k x y e = absurd (cc)
opened_at n next p b c Head.Rigid Head.Rigid t u ids js v w r f k x y e = absurd (cc)

rigid_seen : (n : ℕ) (b : Nodes) (c : Closing) (h : Head) (t : TermId) (ids : List TermId) (v : Look) → h ≡ Head.Rigid → seen n b c h t ids ≡ Some v → rigid (under b c t) (map (under b c) ids) ≡ v
rigid_seen n b c h t ids v e q = let y : Some (rigid (under b c t) (map (under b c) ids)) ≡ Some v = ap (λ z. seen n b c z t ids) (sym e) ∙ q in cc

module _ (b : Nodes) (s : Bindings) (c : Closing) (one other : Looked) (i : IsReading b s c) (k : IsLooked b s one) (m : IsLooked b s other) (n next level : ℕ) (p : Pair) (h : IsSeenPair b c level one other p) (r : Ruled)
    (q : rule n next p ≡ Some r) where
  of : Ruling n next p r
  of = ruling n next p r q

  one_at : IsLookedAt b c one n p.left of.one
  one_at = looked_at b s c one n h.left.0 p.left of.one i k h.left.1 of.left

  other_at : IsLookedAt b c other n p.right of.other
  other_at = looked_at b s c other n h.right.0 p.right of.other i m h.right.1 of.right

  -- two rigid heads
  pub rule_rigid : one.head ≡ Head.Rigid → other.head ≡ Head.Rigid → decompose n level (under b c one.top) (map (under b c) one.arguments.items) (under b c other.top) (map (under b c) other.arguments.items) ≡ Some r
  rule_rigid x y =
      ap (λ z. decompose n z (under b c one.top) (map (under b c) one.arguments.items) (under b c other.top) (map (under b c) other.arguments.items)) (sym h.stands) ∙
      (λ z. by_looks n next p (rigid_seen n b c one.head one.top one.arguments.items of.one x one_at.is z) (rigid_seen n b c other.head other.top other.arguments.items of.other y other_at.is z)) ∙ of.is

  -- an abstraction
  pub rule_opens : (u : ℕ) → is_flexible one.head other.head ≡ false → are_both_rigid one.head other.head ≡ false → (u ≡ r.units + u) × IsDone r.verdict
  rule_opens u f g =
      transport (λ z. (u ≡ z.units + u) × IsDone z.verdict)
      (opened_at n next p b c one.head other.head one.top other.top one.arguments.items other.arguments.items of.one of.other r f g one_at.is other_at.is of.is) (let z : u ≡ 0 + u = omega arith in z, tt)

  pub rule_gives : is_flexible one.head other.head ≡ false → are_both_rigid one.head other.head ≡ false → ruled 0 (gives [] (opened p ∷ [])) ≡ r
  rule_gives f g = opened_at n next p b c one.head other.head one.top other.top one.arguments.items other.arguments.items of.one of.other r f g one_at.is other_at.is of.is

-- a head that is too far
pub left_far : (n next u : ℕ) (p : Pair) (e : TermRefusal) (y : PatternRefusal) → IsOfTerm e y → IsDeepWhere 1000000 p.left e → IsRuledOut n y u (rule n next p)
left_far n next u p (TermRefusal.Deep k) y i d =
    transport (λ z. IsRuledOut n z u (rule n next p)) (sym i)
    (λ l r q. absurd (let w = ruling n next p r q in let z : None ≡ Some w.one = sym (too_far 1000000 n p.left (omega (arith, l)) d) ∙ w.left in cc))
left_far n next u p TermRefusal.Memory y i d = transport (λ z. IsRuledOut n z u (rule n next p)) (sym i) tt

pub right_far : (n next u : ℕ) (p : Pair) (t : Term) (e : TermRefusal) (y : PatternRefusal) → IsOfTerm e y → t ≡ p.right → IsDeepWhere 1000000 t e → IsRuledOut n y u (rule n next p)
right_far n next u p t (TermRefusal.Deep k) y i x d =
    transport (λ z. IsRuledOut n z u (rule n next p)) (sym i)
    (λ l r q. absurd (let w = ruling n next p r q in let z : None ≡ Some w.other = sym (ap (look n) (sym x) ∙ too_far 1000000 n t (omega (arith, l)) d) ∙ w.right in cc))
right_far n next u p t TermRefusal.Memory y i x d = transport (λ z. IsRuledOut n z u (rule n next p)) (sym i) tt
