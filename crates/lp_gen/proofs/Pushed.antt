-- What stands around goals below a quantifier: one variable more, in a register of its own.
use Rattle.std.proofs.Common.{◌≡◌, ◌∙◌, ◌≤◌, ◌<◌, ℕ, zero, suc, ◌+◌, ◌-◌, List, [], ◌∷◌, ◌++◌, length, Bool, true, false, Option, Some, None, ap, refl, sym, subst, arith, true≢false, inl, inr, ◌⊎◌, ⊎_elim}
use Rattle.std.specs.Prelude.{nat_le, if◌then◌else◌, slice_get}
use Rattle.std.proofs.lemmas.Bool.{eq-eqb, ne_eqb, leb-true, leb-false, le-leb}
use Rattle.lp_calculus.specs.Types.{Ty}
use Rattle.lp_calculus.specs.Term.{Term}
use Rattle.lp_code.specs.Symbolic.{Built, variable, held, whole}
use Rattle.lp_code.specs.States.{State, Home, bind_term}
use Rattle.lp_code.specs.Denote.{is_all_variable}
use Rattle.lp_gen.specs.Sources.{IsKnownType}
use Rattle.lp_gen.specs.inner.Running.{TypesStand, TermsStand}
use Rattle.lp_gen.specs.Steps.{Seen, Around, level_in, at_level}
use Rattle.lp_gen.specs.inner.TermLaw.{IsSeen, AreSet}
use Rattle.lp_gen.specs.inner.Bodies.{pushed, new_level, IsShort, with_level}
use Rattle.lp_gen.specs.inner.GoalCode.{quantified}
use Rattle.lp_gen.specs.inner.BodyLaw.{one_more, AreBelow, AreAlls, AreOuter, IsAround}
use Rattle.lp_gen.proofs.Binding.{level_first, level_next, level_lower, bind_another}

some_same : (v w : Seen) → ◌≡◌ {A = Option Seen} (Some v) (Some w) → w ≡ v
some_same v w e = cc

some_types : (T U : Ty) → ◌≡◌ {A = Option Ty} (Some T) (Some U) → U ≡ T
some_types T U e = cc

some_levels : (l m : ℕ) → ◌≡◌ {A = Option ℕ} (Some l) (Some m) → m ≡ l
some_levels l m e = cc

nothing_seen : (v : Seen) → None ≡ Some v → ⊥
nothing_seen v e = cc

-- what stands at the end of a list, or before it
last_or_before : (vs : List Seen) (v w : Seen) (i : ℕ) → slice_get (vs ++ v ∷ []) i ≡ Some w → ((i ≡ length vs) × (w ≡ v)) ⊎ ((i < length vs) × (slice_get vs i ≡ Some w))
last_or_before [] v w zero e = inl (refl, some_same v w e)
last_or_before [] v w (suc i) e = absurd (nothing_seen w e)
last_or_before (u ∷ vs) v w zero e = inr (omega arith, e)
last_or_before (u ∷ vs) v w (suc i) e =
    ⊎_elim (λ q. let z = q.0 in inl (let y : suc i ≡ suc (length vs) = omega (arith, z) in y, q.1)) (λ q. let z = q.0 in inr (let y : suc i < suc (length vs) = omega (arith, z) in y, q.1))
    (last_or_before vs v w i e)

at_last : (vs : List Seen) (v : Seen) → slice_get (vs ++ v ∷ []) (length vs) ≡ Some v
at_last [] v = refl
at_last (u ∷ vs) v = at_last vs v

before_last : (vs : List Seen) (v w : Seen) (i : ℕ) → slice_get vs i ≡ Some w → slice_get (vs ++ v ∷ []) i ≡ Some w
before_last [] v w i e = absurd (nothing_seen w e)
before_last (u ∷ vs) v w zero e = e
before_last (u ∷ vs) v w (suc i) e = before_last vs v w i e

-- the levels of variables, where one was pushed

pub at_pushed : (a : Around) (v w : Seen) (l : ℕ) → at_level (pushed a v) l ≡ Some w → ((l ≡ new_level a) × (w ≡ v)) ⊎ ((l < new_level a) × (at_level a l ≡ Some w))
at_pushed a v w l e = go (nat_le a.base l) refl
  where
    go : (t : Bool) → nat_le a.base l ≡ t → ((l ≡ new_level a) × (w ≡ v)) ⊎ ((l < new_level a) × (at_level a l ≡ Some w))
    go true f =
        let le = leb-true a.base l f in
        ⊎_elim (λ q. let z = q.0 in inl (let y : l ≡ new_level a = omega (arith, z, le) in y, q.1))
        (λ q. let z = q.0 in inr (let y : l < new_level a = omega (arith, z, le) in y, ap (λ t. if t then slice_get a.own (l - a.base) else a.captured l) f ∙ q.1))
        (last_or_before a.own v w (l - a.base) (sym (ap (λ t. if t then slice_get (a.own ++ v ∷ []) (l - a.base) else a.captured l) f) ∙ e))
    go false f =
        let lt = leb-false a.base l f in
        inr (
          let y : l < new_level a = omega (arith, lt) in y,
          ap (λ t. if t then slice_get a.own (l - a.base) else a.captured l) f ∙ sym (ap (λ t. if t then slice_get (a.own ++ v ∷ []) (l - a.base) else a.captured l) f) ∙ e,
        )

pub at_new_level : (a : Around) (v : Seen) → at_level (pushed a v) (new_level a) ≡ Some v
at_new_level a v =
    let z : new_level a - a.base ≡ length a.own = omega arith in
    ap (λ t. if t then slice_get (a.own ++ v ∷ []) (new_level a - a.base) else a.captured (new_level a)) (le-leb a.base (new_level a) (omega arith))
    ∙ ap (slice_get (a.own ++ v ∷ [])) z ∙ at_last a.own v

pub at_old_level : (a : Around) (v w : Seen) (l : ℕ) → at_level a l ≡ Some w → at_level (pushed a v) l ≡ Some w
at_old_level a v w l e = go (nat_le a.base l) refl
  where
    go : (t : Bool) → nat_le a.base l ≡ t → at_level (pushed a v) l ≡ Some w
    go true f =
        ap (λ t. if t then slice_get (a.own ++ v ∷ []) (l - a.base) else a.captured l) f
        ∙ before_last a.own v w (l - a.base) (sym (ap (λ t. if t then slice_get a.own (l - a.base) else a.captured l) f) ∙ e)
    go false f = ap (λ t. if t then slice_get (a.own ++ v ∷ []) (l - a.base) else a.captured l) f ∙ sym (ap (λ t. if t then slice_get a.own (l - a.base) else a.captured l) f) ∙ e

-- the term of a level
level_same : (σ : ℕ → Term) (n l : ℕ) (t : Term) → l ≡ n → with_level σ n t l ≡ t
level_same σ n l t e = ap (λ b. if b then t else σ l) (eq-eqb l n e)

level_other : (σ : ℕ → Term) (n l : ℕ) (t : Term) → l < n → with_level σ n t l ≡ σ l
level_other σ n l t q = ap (λ b. if b then t else σ l) (ne_eqb l n (λ z. absurd (omega (arith, z, q))))

pub seen_pushed : (k : ℕ) (a : Around) (Γ : List Ty) (T : Ty) (Q : ℕ → Type 0) → IsShort a → ((i : ℕ) → Q i → IsSeen a Γ i) → (i : ℕ) → one_more Q i → IsSeen (pushed a (quantified k T)) (T ∷ Γ) i
seen_pushed k a Γ T Q short seen zero q = (new_level a, quantified k T, level_first a (quantified k T) short, at_new_level a (quantified k T), refl)
seen_pushed k a Γ T Q short seen (suc i) q =
    let w = seen i q in
    (w.0, w.1, level_next a (quantified k T) i short ∙ w.2, at_old_level a (quantified k T) w.1 w.0 w.3, w.4)

-- what stands around, below a quantifier
pub around_pushed : (h : Home) (K : ℕ → List Ty → Ty) (vars n m k q : ℕ) (σ : ℕ → Term) (Γ : List Ty) (B : List Bool) (a : Around) (Q : ℕ → Type 0) (s t : State) (T : Ty) (c : Bool) →
    IsAround h K vars n k q σ Γ B a Q s →
    IsShort (pushed a (quantified k T)) → IsKnownType h.tables.kinds vars T → TypesStand h vars m t → TermsStand h (k + 1) t → k < h.self.registers → t.in_body ≡ true →
    ((r : ℕ) (b : Built) → r < k → held s.now.terms r ≡ Some b → held t.now.terms r ≡ Some b) → held t.now.terms k ≡ Some (whole (variable k h.number) T) →
    AreBelow q h t.assumed → (c ≡ true → is_all_variable h.records (variable k h.number) ≡ true) →
    IsAround h K vars m (k + 1) q (with_level σ (new_level a) (variable k h.number)) (T ∷ Γ) (c ∷ B) (pushed a (quantified k T)) (one_more Q) t
around_pushed h K vars n m k q σ Γ B a Q s t T c x short known_T st te low body keep made below all = record {
  std = x.std;
  asked = x.asked;
  types_stand = st;
  terms_stand = te;
  body = body;
  standing = record {
    low = λ l w e. ⊎_elim (λ q. let z = ap (λ (y : Seen). y.register) q.1 in (let y : w.register < k + 1 = omega (arith, z) in y))
        (λ q. let z = x.standing.low l w q.1 in (let y : w.register < k + 1 = omega (arith, z) in y)) (at_pushed a v w l e);
    set = λ l w e is_set. ⊎_elim
        (λ q. ap (λ (y : Seen). held t.now.terms y.register) q.1 ∙ made ∙ ap (λ y. Some (whole y T)) (sym (level_same σ (new_level a) l (variable k h.number) q.0))
        ∙ ap (λ (y : Seen). Some (whole (with_level σ (new_level a) (variable k h.number) l) y.of)) (sym q.1))
        (λ q. keep w.register (whole (σ l) w.of) (x.standing.low l w q.1) (x.standing.set l w q.1 is_set) ∙ ap (λ y. Some (whole y w.of))
        (sym (level_other σ (new_level a) l (variable k h.number) q.0)))
        (at_pushed a v w l e);
    unset = λ l w e none. absurd (true≢false (sym (all_set l w e) ∙ none));
    unmade = λ l w e none. absurd (true≢false (sym (all_set l w e) ∙ none));
    apart = λ l j w y e f none also z. absurd (true≢false (sym (all_set l w e) ∙ none));
    known = λ l w e. ⊎_elim (λ q. subst (λ (y : Seen). IsKnownType h.tables.kinds vars y.of) (sym q.1) known_T) (λ q. x.standing.known l w q.1) (at_pushed a v w l e);
    long = let many = te.as_many.enough in omega (arith, many, low);
  };
  set = all_set;
  short = short;
  known = known_types;
  seen = seen_pushed k a Γ T Q x.short x.seen;
  below = below;
  alls = all_terms;
  outer = outer_terms;
  free = free_terms;
}
  where
    v : Seen
    v = quantified k T

    outer_terms : AreOuter h (with_level σ (new_level a) (variable k h.number)) (pushed a (quantified k T))
    outer_terms zero l e =
        let z = some_levels (new_level a) l (sym (level_first a v x.short) ∙ e) in
        (k, h.number, level_same σ (new_level a) l (variable k h.number) z, omega arith)
    outer_terms (suc i) l e =
        let old : level_in a i ≡ Some l = sym (level_next a v i x.short) ∙ e in
        let w = x.outer i l old in
        (w.0, w.1, level_other σ (new_level a) l (variable k h.number) (level_lower a i l x.short old) ∙ w.2, w.3)

    all_terms : AreAlls h (with_level σ (new_level a) (variable k h.number)) (pushed a (quantified k T)) (c ∷ B)
    all_terms zero l is e =
        let z = some_levels (new_level a) l (sym (level_first a v x.short) ∙ e) in
        ap (is_all_variable h.records) (level_same σ (new_level a) l (variable k h.number) z) ∙ all is
    all_terms (suc i) l is e =
        let old : level_in a i ≡ Some l = sym (level_next a v i x.short) ∙ e in
        ap (is_all_variable h.records) (level_other σ (new_level a) l (variable k h.number) (level_lower a i l x.short old)) ∙ x.alls i l is old

    all_set : AreSet (pushed a v)
    all_set l w e = ⊎_elim (λ q. ap (λ (y : Seen). y.is_set) q.1) (λ q. x.set l w q.1) (at_pushed a v w l e)

    known_types : (i : ℕ) (U : Ty) → slice_get (T ∷ Γ) i ≡ Some U → IsKnownType h.tables.kinds vars U
    known_types zero U e = subst (IsKnownType h.tables.kinds vars) (sym (some_types T U e)) known_T
    known_types (suc i) U e = x.known i U e

    free_terms : (i l r d : ℕ) → k + 1 ≤ r → level_in (pushed a v) i ≡ Some l →
        bind_term (r ∷ []) h.number d (with_level σ (new_level a) (variable k h.number) l) ≡ with_level σ (new_level a) (variable k h.number) l
    free_terms zero l r d le e =
        let z = some_levels (new_level a) l (sym (level_first a v x.short) ∙ e) in
        let here = level_same σ (new_level a) l (variable k h.number) z in
        ap (bind_term (r ∷ []) h.number d) here ∙ bind_another r k h.number d (λ y. absurd (omega (arith, y, le))) ∙ sym here
    free_terms (suc i) l r d le e =
        let old : level_in a i ≡ Some l = sym (level_next a v i x.short) ∙ e in
        let here = level_other σ (new_level a) l (variable k h.number) (level_lower a i l x.short old) in
        ap (bind_term (r ∷ []) h.number d) here ∙ x.free i l r d (omega (arith, le)) old ∙ sym here

-- the same behind more code
pub around_kept : (h : Home) (K : ℕ → List Ty → Ty) (vars n m k l q r : ℕ) (σ : ℕ → Term) (Γ : List Ty) (B : List Bool) (a : Around) (Q : ℕ → Type 0)
    (s t : State) → IsAround h K vars n k q σ Γ B a Q s → TypesStand h vars m t →
    TermsStand h l t → l ≤ h.self.registers → t.in_body ≡ true → k ≤ l → ((r : ℕ) (b : Built) → r < k → held s.now.terms r ≡ Some b → held t.now.terms r ≡ Some b) → AreBelow r h t.assumed →
    IsAround h K vars m l r σ Γ B a Q t
around_kept h K vars n m k l q r σ Γ B a Q s t x st te low body le keep below = record {
  std = x.std;
  asked = x.asked;
  types_stand = st;
  terms_stand = te;
  body = body;
  standing = record {
    low = λ j w e. let z = x.standing.low j w e in omega (arith, z, le);
    set = λ j w e is_set. keep w.register (whole (σ j) w.of) (x.standing.low j w e) (x.standing.set j w e is_set);
    unset = λ j w e none. absurd (true≢false (sym (x.set j w e) ∙ none));
    unmade = λ j w e none. absurd (true≢false (sym (x.set j w e) ∙ none));
    apart = λ j i w y e f none also z. absurd (true≢false (sym (x.set j w e) ∙ none));
    known = x.standing.known;
    long = let many = te.as_many.enough in omega (arith, many, low);
  };
  set = x.set;
  short = x.short;
  known = x.known;
  seen = x.seen;
  below = below;
  alls = x.alls;
  outer = x.outer;
  free = λ i j r d z e. x.free i j r d (omega (arith, z, le)) e;
}
