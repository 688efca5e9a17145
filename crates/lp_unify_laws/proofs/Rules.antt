-- Rules 4 and 5 on a typed pair: each keeps the solutions and the types, and adds none.
use Rattle.std.proofs.Common.{◌≡◌, ◌≤◌, ℕ, suc, List, [], ◌∷◌, ◌++◌, map, length, ◌∙◌, refl, sym, ap, subst as transport, arith, true, false, nat_eq, Option, Some, None}
use Rattle.std.specs.Prelude.{option_map, option_and_then}
use Rattle.std.proofs.lemmas.Option.{option_and_then_some}
use Rattle.std.proofs.lemmas.Bool.Decides.{nat_tests}
use Rattle.lp_calculus.specs.Types.{Ty, var, instance}
use Rattle.lp_unify_laws.proofs.Identities.{pair_same, variables_same, bindings_same}
use Rattle.lp_calculus.specs.Instance.{instance_term}
use Rattle.lp_calculus.proofs.Commutations.{instance_converts}
use Rattle.lp_unify_laws.proofs.Instances.{instance_binding, instance_pattern, renewed_instance}
use Rattle.lp_unify_laws.proofs.RuleInstances.{instance_pair, bound_instance}
use Rattle.lp_unify_laws.proofs.PairLists.{put_all_instance}
use Rattle.lp_unify_laws.proofs.TypedInstances.{length_variables}
use Rattle.lp_unify_laws.proofs.NewInstances.{variables_at, scope_at, pair_term, scoped_at, reduces_instance, fit_instance, with_new_at, side_at}
use Rattle.lp_calculus.specs.Term.{Term, atom, app, apply, eigen, logic}
use Rattle.lp_calculus.specs.Convert.{Converts, same, ReducesTo, done, ConvertAll, convert_more}
use Rattle.lp_calculus.specs.Fill.{Within, Binding, close, at_variables, abstracted}
use Rattle.lp_model.specs.Patterns.{eigens, agreeing}
use Rattle.lp_model.specs.Look.{Look, an_abs, rigid, flexible, pattern_of}
use Rattle.lp_model.specs.Pair.{Pair}
use Rattle.lp_model.specs.Scan.{Side, is_side, broken, whole, scan, pattern, pattern_term, renewed, Pruned, prune, settle}
use Rattle.lp_model.specs.Rule.{Verdict, fails, gives, binds, delays, Ruled, ruled, joined, bound, has_head, solve_for, side, by_pattern, pattern_side, by_rule_5, by_rule_4}
use Rattle.lp_model.specs.Proofs.{Declared}
use Rattle.lp_model.specs.Answers.{Variable}
use Rattle.lp_unify_laws.specs.Levels.{IsPair, IsPairAtom, IsClosing, UpTo, SolvedBy}
use Rattle.lp_unify_laws.specs.Right.{through, AreScoped, Keeps}
use Rattle.lp_calculus.proofs.Fills.{within_more}
use Rattle.lp_calculus.proofs.Steps.{converts_on, converts_sym, converts_is, converts_app, converts_reduces, converts_fill, within_reduces}
use Rattle.lp_calculus.proofs.Rigid.{IsRigid, rigid_head, heads_joint, reduces_on}
use Rattle.lp_unify_laws.proofs.Abstractions.{close_pattern}
use Rattle.lp_unify_laws.proofs.Looks.{seen, IsPattern, pattern_tells}
use Rattle.lp_unify_laws.proofs.Firm.{IsFirm}
use Rattle.lp_unify_laws.proofs.Sames.{both_on}
use Rattle.lp_unify_laws.proofs.Closings.{within_apply}
use Rattle.lp_unify_laws.proofs.Plainly.{pair_up}
use Rattle.lp_unify_laws.proofs.Scans.{Seen, open_converts, reduces_spine}
use Rattle.lp_unify_laws.proofs.Cleans.{Fit, fit_term}
use Rattle.lp_unify_laws.proofs.Scopes.{IsMore, length_last}
use Rattle.lp_unify_laws.proofs.NewVariables.{IsTypedClosing, new_variable, one_more}
use Rattle.lp_unify_laws.proofs.TypedBindings.{IsTypedTerm, term_reduces, AreTypedBindings}
use Rattle.lp_unify_laws.proofs.Placed.{IsTypedSide, side_typed}
use Rattle.lp_unify_laws.proofs.Prunings.{prune_right, pair_seen}
use Rattle.lp_unify_laws.proofs.Settles.{settle_tells, nf_within}
use Rattle.lp_unify_laws.proofs.Solving.{IsSide, Meets, meets_clean, side_scoped, scoped_append, bound_meets, bound_keeps, bound_typed}
use Rattle.lp_unify_laws.proofs.Breaks.{Occurs, occurs_here, occurs_under, occurs_in, break_tells}
use Rattle.lp_unify_laws.proofs.Totals.{no_occurrence}
use Rattle.lp_unify_laws.proofs.Joining.{joined_new, joined_context, joined_typed, joined_keeps, joined_scoped, joined_meets}

-- bindings that keep each solution of a pair and add none, with the variables that are there then
pub record IsBinding (d : Declared) (V : List Variable) (next : ℕ) (p : Pair) (bs : List Binding) (next' : ℕ) : Type 0 where
  pub grows : next ≤ next'
  pub scoped : AreScoped next' bs
  pub after : List Variable
  pub more : IsMore V after
  pub count : length after ≡ next'
  pub typed : AreTypedBindings d after bs
  -- under any types for type variables
  pub keeps : (κ : ℕ → Ty) (σ : ℕ → ℕ → Term) → IsClosing σ → IsTypedClosing d (variables_at κ V) σ → SolvedBy σ (instance_pair κ p) → Keeps (IsTypedClosing d (variables_at κ after)) next (map (instance_binding κ) bs) σ
  pub solves : (σ : ℕ → ℕ → Term) → IsClosing σ → SolvedBy (through bs σ) p

-- with no types put
pub binding_keeps : (d : Declared) (V : List Variable) (next : ℕ) (p : Pair) (bs : List Binding) (next' : ℕ) → (i : IsBinding d V next p bs next') → (σ : ℕ → ℕ → Term) → IsClosing σ → IsTypedClosing d V σ → SolvedBy σ p → Keeps (IsTypedClosing d i.after) next bs σ
binding_keeps d V next p bs next' i σ c g s =
    transport (λ z. Keeps (IsTypedClosing d i.after) next z σ) (bindings_same bs)
    (transport (λ W. Keeps (IsTypedClosing d W) next (map (instance_binding var) bs) σ) (variables_same i.after)
    (i.keeps var σ c (transport (λ W. IsTypedClosing d W σ) (sym (variables_same V)) g) (transport (SolvedBy σ) (sym (pair_same p)) s)))

-- what rules 4, 5 and 6 may say of a pair
abbrev pub IsSolved : Declared → List Variable → ℕ → Pair → Verdict → Type 0
IsSolved d V next p fails = (σ : ℕ → ℕ → Term) → IsClosing σ → IsTypedClosing d V σ → SolvedBy σ p → ⊥
IsSolved d V next p (gives ts ps) = ⊥
IsSolved d V next p (binds bs next') = IsBinding d V next p bs next'
IsSolved d V next p delays = Unit {0}

abbrev flipped : Pair → Pair
flipped p = record { left = p.right; right = p.left; level = p.level }

-- both sides of a pair, of one type
pub record IsTypedAt (d : Declared) (E : List Ty) (V : List Variable) (next : ℕ) (p : Pair) (T : Ty) : Type 0 where
  pub count : length V ≡ next
  pub level : length E ≡ p.level
  pub left : IsTypedTerm d E V p.left T
  pub right : IsTypedTerm d E V p.right T

-- no occurrence in a term with another variable as head
apply_last : (h : Term) (ts : List Term) (u : Term) → app (apply h ts) u ≡ apply h (ts ++ u ∷ [])
apply_last h [] u = refl
apply_last h (t ∷ ts) u = apply_last (app h t) ts u

other_head : (s : Side) (y m : ℕ) → is_side s y m ≡ false → atom (logic y m) ≡ atom (logic s.id s.level) → ⊥
other_head s y m o e =
    let p : y ≡ s.id = cc in
    let q : m ≡ s.level = cc in
    let i : nat_eq y s.id ≡ true = grind (arith, nat_tests) in
    let j : nat_eq m s.level ≡ true = grind (arith, nat_tests) in
    let k : is_side s y m ≡ true = both_on (nat_eq y s.id) (nat_eq m s.level) i j in
    cc

rigid_variable : (h : Term) (y m : ℕ) → IsRigid h → atom (logic y m) ≡ h → ⊥
rigid_variable h y m r e = transport IsRigid (sym e) r

other_occurs : (s : Side) (y m : ℕ) → is_side s y m ≡ false → {k : ℕ} {t : Term} → Occurs s k t → (us : List Term) → Converts t (apply (atom (logic y m)) us) → ⊥
other_occurs s y m o (occurs_here b c d a) us e =
    other_head s y m o (heads_joint (atom (logic y m)) (atom (logic s.id s.level)) us (eigens b) tt tt (converts_on (converts_sym e) (converts_reduces c))).heads
other_occurs s y m o (occurs_under {k = k} {t = t} b c d) us e =
    other_occurs s y m o d (us ++ atom (eigen (suc k)) ∷ [])
    (converts_on (converts_sym (open_converts (suc k) t b c)) (converts_on (converts_app e (same (atom (eigen (suc k))))) (converts_is (apply_last (atom (logic y m)) us (atom (eigen (suc k)))))))
other_occurs s y m o (occurs_in h ts c r d) us e =
    rigid_variable h y m r (heads_joint (atom (logic y m)) h us ts tt (rigid_head h r) (converts_on (converts_sym e) (converts_reduces c))).heads

-- a look that is no abstraction
abbrev pub NoAbs : Look → Type 0
NoAbs (an_abs b) = ⊥
NoAbs (rigid h ts) = Unit {0}
NoAbs (flexible x l ts) = Unit {0}

meets_of : (s : Side) (l t : Term) (σ : ℕ → ℕ → Term) → Converts l (pattern_term (pattern s.id s.level s.arguments)) → Converts (close σ l) (apply (σ s.id s.level) (eigens s.arguments))
meets_of s l t σ c = converts_on (converts_fill (at_variables σ) c) (converts_is (close_pattern σ (atom (logic s.id s.level)) s.arguments))

broken_right : (d : Declared) (E : List Ty) (V : List Variable) (T : Ty) (n next u : ℕ) (s : Side) (l t : Term) (v : Look) → IsSide s next → IsTypedSide d E V s T → IsTypedTerm d E V t T → Converts l (pattern_term (pattern s.id s.level s.arguments)) → Within (IsPairAtom next s.pair) 0 t →
    Converts t (seen v) → IsFirm v → NoAbs v → has_head s v ≡ false → scan n s false s.pair t ≡ Some (broken u) →
    (σ : ℕ → ℕ → Term) → IsClosing σ → IsTypedClosing d V σ → Converts (close σ l) (close σ t) → ⊥
broken_right d E V T n next u s l t v i side ty c w e f a o z σ x g h =
    let m : Meets σ s t = converts_on (converts_sym (meets_of s l t σ c)) h in
    let b = break_tells s σ n next false s.pair t u (within_more (IsPairAtom next s.pair) (Seen next s.pair s.pair) 0 0 (pair_seen next s.pair) (omega arith) t w) (omega arith) (λ i. meets_clean s σ t x m) z in
    by_kind v e f a o b.1 m
  where
    by_kind : (v : Look) → Converts t (seen v) → IsFirm v → NoAbs v → has_head s v ≡ false → Occurs s s.pair t → Meets σ s t → ⊥
    by_kind (an_abs b) e f a o b' m = a
    by_kind (rigid h ts) e f a o b' m = no_occurrence d E V next s t T i.low i.above w side ty h ts e f b' σ x g m
    by_kind (flexible y m' ts) e f a o b' m = other_occurs s y m' o b' ts e

pub map_ruled : {A : Type 0} (f : A → Ruled) (o : Option A) (r : Ruled) → option_map f o ≡ Some r → (x : A) × (o ≡ Some x) × (f x ≡ r)
map_ruled f None r e = absurd (cc)
map_ruled f (Some x) r e = let z : f x ≡ r = cc in (x, refl, z)

pattern_at : (κ : ℕ → Ty) (s : Side) (l : Term) → Converts l (pattern_term (pattern s.id s.level s.arguments)) → Converts (instance_term κ l) (pattern_term (pattern s.id s.level s.arguments))
pattern_at κ s l c = converts_on (instance_converts κ l (pattern_term (pattern s.id s.level s.arguments)) c) (converts_is (instance_pattern κ s.arguments (atom (logic s.id s.level))))

bound_right : (d : Declared) (E : List Ty) (V : List Variable) (T : Ty) (n next : ℕ) (s : Side) (l t : Term) (q : Pruned) (u : Term) → length V ≡ next
    → IsSide s next → IsTypedSide d E V s T → IsTypedTerm d E V t T → Converts l (pattern_term (pattern s.id s.level s.arguments)) → Within
    (IsPairAtom next s.pair) 0 t →
    prune n s next t ≡ Some q → settle n s.pair q.term ≡ Some u → IsBinding d V next (record { left = l; right = t; level = s.pair }) (bound s q.bindings u) q.next
bound_right d E V T n next s l t q u k i side ty c w e f =
    let p = prune_right d E T n T V s next t q k side ty w e in
    let x = settle_tells n s.pair q.term u (within_more (IsPairAtom q.next s.pair) (UpTo s.pair) 0 0 (pair_up q.next s.pair) (omega arith) q.term p.within) f in
    let r = fit_term s q.next p.scans p.fits in
    let v : Within (Fit s q.next s.pair) 0 u = nf_within (Fit s q.next s.pair) u r.to x.normal (converts_on (converts_sym (converts_reduces x.reduces)) r.converts) r.within in
    record {
      grows = p.grows;
      scoped = scoped_append q.next q.bindings (record { id = s.id; level = s.level; value = abstracted s.arguments u }) p.scoped (side_scoped s q.next u v);
      after = p.after;
      more = p.more;
      count = p.count;
      typed = bound_typed d E V T T s next t q u side p x v;
      keeps = λ κ σ c' g h.
          let m : Meets σ s (instance_term κ t) = converts_on (converts_sym (meets_of s (instance_term κ l) (instance_term κ t) σ (pattern_at κ s l c))) h in
          let k = p.keeps κ σ c' g (meets_clean s σ (instance_term κ t) c' m) in
          transport (λ z. Keeps (IsTypedClosing d (variables_at κ p.after)) next z σ) (bound_instance κ s q.bindings u)
          (bound_keeps (IsTypedClosing d (variables_at κ p.after)) s next q.next (instance_term κ t) (instance_term κ q.term) (instance_term κ u) (map (instance_binding κ) q.bindings) i (pair_term next s.pair κ t w) p.grows (scoped_at q.next κ q.bindings p.scoped)
          (put_all_instance κ q.bindings t ∙ ap (instance_term κ) p.term) (put_all_instance κ q.bindings (atom (logic s.id s.level)) ∙ ap (instance_term κ) p.side) (reduces_instance κ x.reduces) (fit_instance s q.next s.pair κ u v) σ k m);
      solves = λ σ c'. converts_on (meets_of s l t (through (bound s q.bindings u) σ) c) (bound_meets d E V T s next t q u i p x v σ c');
    }

solve_right : (d : Declared) (E : List Ty) (V : List Variable) (T : Ty) (n next : ℕ) (s : Side) (l t : Term) (v : Look) (r : Ruled) → length V ≡ next
    → IsSide s next → IsTypedSide d E V s T → IsTypedTerm d E V t T → Converts l (pattern_term (pattern s.id s.level s.arguments)) → Within
    (IsPairAtom next s.pair) 0 t →
    Converts t (seen v) → IsFirm v → NoAbs v → solve_for n next s t v ≡ Some r → IsSolved d V next (record { left = l; right = t; level = s.pair }) r.verdict
solve_right d E V T n next s l t v r k i side ty c w f g a e = let p : Pair = record { left = l; right = t; level = s.pair } in elim (has_head s v) as (λ b. has_head s v ≡ b → (elim b [
  | true ↦ Some (ruled 0 delays)
  | false ↦ option_and_then (λ r. elim r [
    | broken u ↦ Some (ruled u fails)
    | whole u true ps ↦ Some (ruled u delays)
    | whole u false ps ↦ option_and_then (λ q. option_map (λ t'. ruled u (binds (bound s q.bindings t') q.next)) (settle n s.pair q.term)) (prune n s next t)
  ]) (scan n s false s.pair t)
]) ≡ Some r → IsSolved d V next p r.verdict) [
  | true ↦ λ o z. let x : ruled 0 delays ≡ r = cc in transport (λ y. IsSolved d V next p y.verdict) x tt
  | false ↦ λ o z. option_and_then_some _ (scan n s false s.pair t) r z λ k' h j.
      elim k' as (λ k. scan n s false s.pair t ≡ Some k → (elim k [
        | broken u ↦ Some (ruled u fails)
        | whole u true ps ↦ Some (ruled u delays)
        | whole u false ps ↦ option_and_then (λ q. option_map (λ t'. ruled u (binds (bound s q.bindings t') q.next)) (settle n s.pair q.term)) (prune n s next t)
      ]) ≡ Some r → IsSolved d V next p r.verdict) [
        | broken u ↦ λ h j. let x : ruled u fails ≡ r = cc in transport (λ y. IsSolved d V next p y.verdict) x (broken_right d E V T n next u s l t v i side ty c w f g a o h)
        | whole u true ps ↦ λ h j. let x : ruled u delays ≡ r = cc in transport (λ y. IsSolved d V next p y.verdict) x tt
        | whole u false ps ↦ λ h j. option_and_then_some _ (prune n s next t) r j λ q h' j'.
            let m = map_ruled (λ t'. ruled u (binds (bound s q.bindings t') q.next)) (settle n s.pair q.term) r j' in
            transport (λ y. IsSolved d V next p y.verdict) m.2 (bound_right d E V T n next s l t q m.0 k i side ty c w h' m.1)
      ] h j
] refl e

flipped_right : (d : Declared) (V : List Variable) (next : ℕ) (p : Pair) (v : Verdict) → IsSolved d V next (flipped p) v → IsSolved d V next p v
flipped_right d V next p fails h = λ σ c g s. h σ c g (converts_sym s)
flipped_right d V next p (gives ts ps) h = h
flipped_right d V next p (binds bs n) h = record {
  grows = h.grows;
  scoped = h.scoped;
  after = h.after;
  more = h.more;
  count = h.count;
  typed = h.typed;
  keeps = λ κ σ c g s. h.keeps κ σ c g (converts_sym s);
  solves = λ σ c. converts_sym (h.solves σ c);
}
flipped_right d V next p delays h = tt

-- a side that is a pattern
pub record SideOf (next : ℕ) (p : Pair) (v : Look) (s : Side) : Type 0 where
  pub is : IsSide s next
  pub reduces : ReducesTo (seen v) (pattern_term (pattern s.id s.level s.arguments))
  pub pair : s.pair ≡ p.level

map_side : (f : List ℕ → Side) (o : Option (Option (List ℕ))) (s : Side) → option_map (option_map f) o ≡ Some (Some s) → (a : List ℕ) × (o ≡ Some (Some a)) × (f a ≡ s)
map_side f None s e = absurd (cc)
map_side f (Some None) s e = absurd (cc)
map_side f (Some (Some a)) s e = let z : f a ≡ s = cc in (a, refl, z)

pattern_side_tells : (n next : ℕ) (p : Pair) (v : Look) (s : Side) → Within (IsPairAtom next p.level) 0 (seen v) → pattern_side n p v ≡ Some (Some s) → SideOf next p v s
pattern_side_tells n next p (an_abs b) s w e = absurd (cc)
pattern_side_tells n next p (rigid h ts) s w e = absurd (cc)
pattern_side_tells n next p (flexible x l ts) s w e =
    let m = map_side (λ a. side x l a p) (pattern_of n l ts) s e in
    let i = pattern_tells n l ts m.0 m.1 in
    let a = (within_apply (IsPairAtom next p.level) ts (atom (logic x l)) w).0 in
    transport (SideOf next p (flexible x l ts)) m.2 (record {
      is = record { distinct = i.distinct; above = i.above; older = a.0; low = a.1 };
      reduces = reduces_spine ts m.0 i.arguments (atom (logic x l)) (atom (logic x l)) (done (atom (logic x l)));
      pair = refl;
    })

-- what is known of a pair and its looks
pub record Looked (next : ℕ) (p : Pair) (v w : Look) : Type 0 where
  pub pair : IsPair next p
  pub left : ReducesTo p.left (seen v)
  pub right : ReducesTo p.right (seen w)
  pub left_firm : IsFirm v
  pub right_firm : IsFirm w

one_side : (d : Declared) (E : List Ty) (V : List Variable) (T : Ty) (n next : ℕ) (s : Side) (l t : Term) (k : ℕ) (w : Look) (r : Ruled) → length V ≡
    next → length E ≡ k → s.pair ≡ k → IsSide s next → IsTypedTerm d E V l T → IsTypedTerm d E V t T → ReducesTo l
    (pattern_term (pattern s.id s.level s.arguments)) → Within (IsPairAtom next k) 0 t →
    Converts t (seen w) → IsFirm w → NoAbs w → solve_for n next s t w ≡ Some r → IsSolved d V next (record { left = l; right = t; level = k }) r.verdict
one_side d E V T n next s l t k w r z j e i lt ty c q f g a h =
    let side = side_typed d E V s T (j ∙ sym e) (term_reduces d E V T c lt) in
    transport (λ z. IsSolved d V next (record { left = l; right = t; level = z }) r.verdict) e
    (solve_right d E V T n next s l t w r z i side ty (converts_reduces c) (transport (λ z. Within (IsPairAtom next z) 0 t) (sym e) q) f g a h)

pub rule_5_right : (d : Declared) (E : List Ty) (V : List Variable) (T : Ty) (n next : ℕ) (p : Pair) (v w : Look) (r : Ruled) → IsTypedAt d E V next p T → Looked next p v w → NoAbs v → NoAbs w → by_rule_5 n next p v w ≡ Some r → IsSolved d V next p r.verdict
rule_5_right d E V T n next p v w r ty k a b e = option_and_then_some _ (pattern_side n p v) r e λ x hx ex. option_and_then_some _ (pattern_side n p w) r ex λ y hy ey. sides x hx y hy ey
  where
    sides : (x : Option Side) → pattern_side n p v ≡ Some x → (y : Option Side) → pattern_side n p w ≡ Some y → by_pattern n next p v w x y ≡ Some r → IsSolved d V next p r.verdict
    sides (Some s) hx y hy ey =
        let z = pattern_side_tells n next p v s (within_reduces (IsPairAtom next p.level) 0 k.left k.pair.0) hx in
        one_side d E V T n next s p.left p.right p.level w r ty.count ty.level z.pair z.is ty.left ty.right (reduces_on k.left z.reduces) k.pair.1 (converts_reduces k.right) k.right_firm b ey
    sides None hx (Some s) hy ey =
        let z = pattern_side_tells n next p w s (within_reduces (IsPairAtom next p.level) 0 k.right k.pair.1) hy in
        flipped_right d V next p r.verdict (one_side d E V T n next s p.right p.left p.level v r ty.count ty.level z.pair z.is ty.right ty.left (reduces_on k.right z.reduces) k.pair.0 (converts_reduces k.left) k.left_firm a ey)
    sides None hx None hy ey = let i : ruled 0 delays ≡ r = cc in transport (λ j. IsSolved d V next p j.verdict) i tt

-- rule 4
joined_right : (d : Declared) (E : List Ty) (V : List Variable) (T : Ty) (next : ℕ) (p : Pair) (x l : ℕ) (ts us : List Term) (a b : List ℕ) →
    IsTypedAt d E V next p T → Looked next p (flexible x l ts) (flexible x l us) → length a ≡ length b → IsPattern l ts a → IsPattern l us b →
    IsSolved d V next p (joined next x l a b)
unfolding side_at
joined_right d E V T next p x l ts us a b ty k e i j =
    let s : Side = record { id = x; level = l; arguments = a; pair = p.level } in
    let o : Side = record { id = x; level = l; arguments = b; pair = p.level } in
    let first = reduces_on k.left (reduces_spine ts a i.arguments (atom (logic x l)) (atom (logic x l)) (done (atom (logic x l)))) in
    let second = reduces_on k.right (reduces_spine us b j.arguments (atom (logic x l)) (atom (logic x l)) (done (atom (logic x l)))) in
    let left = (λ (σ : ℕ → ℕ → Term). meets_of s p.left p.right σ (converts_reduces first)) in
    let right = (λ (σ : ℕ → ℕ → Term). meets_of o p.right p.left σ (converts_reduces second)) in
    let h = side_typed d E V s T ty.level (term_reduces d E V T first ty.left) in
    let v = new_variable E h.variable.scope (agreeing a b) T in
    record {
      grows = omega arith;
      scoped = (joined_scoped next x l a b, tt);
      after = joined_context d E V s T h b;
      more = one_more V v;
      count = length_last V v ∙ ap suc ty.count;
      typed = (joined_typed d E V s T next ty.count h b, tt);
      keeps = λ κ σ c g q.
          let cs = agreeing a b in
          let left_at = meets_of s (instance_term κ p.left) (instance_term κ p.right) σ (pattern_at κ s p.left (converts_reduces first)) in
          let right_at = meets_of o (instance_term κ p.right) (instance_term κ p.left) σ (pattern_at κ o p.right (converts_reduces second)) in
          let k = joined_keeps d (scope_at κ E) (variables_at κ V) s (instance κ T) next (length_variables κ V ∙ ty.count) (side_at κ d E V s T h) b σ c g e i.distinct i.above (converts_on (converts_sym left_at) (converts_on q right_at)) in
          transport (λ z. Keeps (IsTypedClosing d (variables_at κ (joined_context d E V s T h b))) next (z ∷ []) σ) (sym (renewed_instance κ next x l l a cs))
          (transport (λ W. Keeps (IsTypedClosing d W) next (renewed next x l l a cs ∷ []) σ) (sym (with_new_at κ V E h.variable.scope cs T (joined_new d E V s T h b).chosen)) k);
      solves = λ σ c.
          let τ = through (renewed next x l l a (agreeing a b) ∷ []) σ in
          converts_on (left τ) (converts_on (joined_meets next x l a b σ c e i.distinct i.above) (converts_sym (right τ)));
    }

pattern_length : (ts : List Term) (a : List ℕ) → ConvertAll ts (eigens a) → length ts ≡ length a
pattern_length [] [] c = refl
pattern_length [] (k ∷ a) c = elim c [ ]
pattern_length (t ∷ ts) [] c = elim c [ ]
pattern_length (t ∷ ts) (k ∷ a) (convert_more d c) = ap suc (pattern_length ts a c)

pub rule_4_right : (d : Declared) (E : List Ty) (V : List Variable) (T : Ty) (n next : ℕ) (p : Pair) (x l : ℕ) (ts us : List Term) (r : Ruled) →
    IsTypedAt d E V next p T → Looked next p (flexible x l ts) (flexible x l us) → length ts ≡ length us → by_rule_4 n next p x l ts us ≡ Some r →
    IsSolved d V next p r.verdict
rule_4_right d E V T n next p x l ts us r ty k e h = option_and_then_some _ (pattern_of n l ts) r h λ a ha h'. option_and_then_some _ (pattern_of n l us) r h' λ b hb h''. both_sides a ha b hb h''
  where
    both_sides : (a : Option (List ℕ)) → pattern_of n l ts ≡ Some a → (b : Option (List ℕ)) → pattern_of n l us ≡ Some b → (elim a [
      | None ↦ by_rule_5 n next p (flexible x l ts) (flexible x l us)
      | Some a ↦ elim b [
        | None ↦ by_rule_5 n next p (flexible x l ts) (flexible x l us)
        | Some b ↦ Some (ruled 0 (joined next x l a b))
      ]
    ]) ≡ Some r → IsSolved d V next p r.verdict
    both_sides None ha b hb h'' = rule_5_right d E V T n next p (flexible x l ts) (flexible x l us) r ty k tt tt h''
    both_sides (Some a) ha None hb h'' = rule_5_right d E V T n next p (flexible x l ts) (flexible x l us) r ty k tt tt h''
    both_sides (Some a) ha (Some b) hb h'' =
        let i = pattern_tells n l ts a ha in
        let j = pattern_tells n l us b hb in
        let z : ruled 0 (joined next x l a b) ≡ r = cc in
        transport (λ q. IsSolved d V next p q.verdict) z (joined_right d E V T next p x l ts us a b ty k (sym (pattern_length ts a i.arguments) ∙ e ∙ pattern_length us b j.arguments) i j)
