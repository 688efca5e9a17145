-- Rule 4: one variable on two lists of eigenconstants.
use Rattle.std.proofs.Common.{◌≡◌, ℕ, suc, List, [], ◌∷◌, length, ◌∙◌, refl, sym, ap, subst as transport, arith, Bool, true, false, nat_eq, if◌then◌else◌, ◌||◌}
use Rattle.std.specs.Prelude.{nat_le}
use Rattle.std.proofs.lemmas.Bool.Decides.{nat_tests}
use Rattle.lp_calculus.specs.Term.{Term, atom, app, apply, Atom, constant, integer, text, eigen, logic, param}
use Rattle.lp_calculus.specs.Convert.{Converts, same}
use Rattle.lp_calculus.specs.Fill.{Within, close, abstraction, abstracted}
use Rattle.lp_model.specs.Patterns.{eigens, member, agreeing}
use Rattle.lp_model.specs.Look.{are_distinct, are_above}
use Rattle.lp_unify_laws.specs.Levels.{IsPairAtom, IsClosing, IsLevelAtom}
use Rattle.lp_model.specs.Scan.{Side, renewed, pattern, pattern_term}
use Rattle.lp_unify_laws.specs.Right.{through, Keeps}
use Rattle.lp_calculus.proofs.Fills.{fill_none, within_more}
use Rattle.lp_calculus.proofs.Steps.{converts_on, converts_sym, converts_is, converts_apply, converts_reduces}
use Rattle.lp_unify_laws.proofs.Abstractions.{Not, Avoids, And, Distinct, distinct_tells, closed_avoids, within_abstracted, abstraction_on, abstraction_beta, abstracted_beta, close_abstracted, close_pattern, swap}
use Rattle.lp_unify_laws.proofs.Sames.{same_number}
use Rattle.lp_unify_laws.proofs.Closings.{WithinAll, apply_within}
use Rattle.lp_unify_laws.proofs.News.{Reach, extended, extended_closing, abstracted_closed, renewed_scoped, renewed_through}
use Rattle.lp_calculus.specs.Types.{Ty}
use Rattle.lp_model.specs.Proofs.{Declared}
use Rattle.lp_model.specs.Answers.{Variable}
use Rattle.lp_unify_laws.proofs.Scopes.{AreEigens, prefix_none}
use Rattle.lp_unify_laws.proofs.NewVariables.{AreClosedIn, IsTypedClosing, IsTypedBinding, IsNew, new_variable, with_new, new_binding, new_closing}
use Rattle.lp_unify_laws.proofs.Placed.{IsTypedSide, side_closed}
use Rattle.lp_unify_laws.proofs.Totals.{side_agrees}

-- the agreeing members are members
or_right : (b c : Bool) → c ≡ true → (b || c) ≡ true
or_right true c h = refl
or_right false c h = h

or_left : (b c : Bool) → b ≡ true → (b || c) ≡ true
or_left true c h = refl
or_left false c h = absurd (cc)

reach_more : (m c : ℕ) (b xs : List ℕ) → Reach m b xs → Reach m (c ∷ b) xs
reach_more m c b [] h = tt
reach_more m c b (x ∷ xs) h = (more (nat_le x m) (nat_eq x c) (member x b) h.0, reach_more m c b xs h.1)
  where
    more : (p q r : Bool) → (p || r) ≡ true → (p || (q || r)) ≡ true
    more true q r h = refl
    more false q r h = or_right q r h

pub reach_agreeing : (m : ℕ) (a b : List ℕ) → Reach m a (agreeing a b)
reach_agreeing m [] b = tt
reach_agreeing m (c ∷ cs) [] = tt
reach_agreeing m (c ∷ cs) (d ∷ ds) = elim (nat_eq c d) as (λ z. Reach m (c ∷ cs) (if z then c ∷ agreeing cs ds else agreeing cs ds)) [
  | true ↦ (let p : nat_eq c c ≡ true = grind (arith, nat_tests) in or_right (nat_le c m) (member c (c ∷ cs)) (or_left (nat_eq c c) (member c cs) p), reach_more m c cs (agreeing cs ds) (reach_agreeing m cs ds))
  | false ↦ reach_more m c cs (agreeing cs ds) (reach_agreeing m cs ds)
]

-- an abstraction over a, of what stands on the agreeing members, is the same on a and on b
agreeing_not : (c : ℕ) (cs ds : List ℕ) → Avoids cs (eigen c) → WithinAll (Not c) (eigens (agreeing cs ds))
agreeing_not c [] ds h = tt
agreeing_not c (k ∷ cs) [] h = tt
agreeing_not c (k ∷ cs) (d ∷ ds) h = elim (nat_eq k d) as (λ z. WithinAll (Not c) (eigens (if z then k ∷ agreeing cs ds else agreeing cs ds))) [
  | true ↦ ((λ e. h.0 (sym e)), agreeing_not c cs ds h.1)
  | false ↦ agreeing_not c cs ds h.1
]

swap_none : (c : ℕ) (u : Term) (a : Atom) → Not c a → swap c u a ≡ atom a
swap_none c u (eigen k) h = grind (arith, nat_tests)
swap_none c u (logic x l) h = refl
swap_none c u (constant k ts) h = refl
swap_none c u (integer z) h = refl
swap_none c u (text s) h = refl
swap_none c u (param k t) h = refl

any_within : (P : Atom → Type 0) (t : Term) → Within P 0 t → Within (λ a. Unit {0}) 0 t
any_within P t w = within_more P (λ a. Unit {0}) 0 0 (λ a p. tt) (omega arith) t w

eigens_any : (cs : List ℕ) → WithinAll (λ a. Unit {0}) (eigens cs)
eigens_any [] = tt
eigens_any (c ∷ cs) = (tt, eigens_any cs)

pub agreeing_on : (a b : List ℕ) (h : Term) → length a ≡ length b → Distinct a → Within (Avoids a) 0 h → Converts (apply (abstracted a (apply h (eigens (agreeing a b)))) (eigens b)) (apply h (eigens (agreeing a b)))
agreeing_on [] [] h e d w = same h
agreeing_on [] (k ∷ b) h e d w = absurd (omega arith)
agreeing_on (c ∷ cs) [] h e d w = absurd (omega arith)
agreeing_on (c ∷ cs) (k ∷ ks) h e d w = elim (nat_eq c k) as (λ z. nat_eq c k ≡ z → Converts (apply (abstracted (c ∷ cs) (apply h (eigens (if z then c ∷ agreeing cs ks else agreeing cs ks)))) (eigens (k ∷ ks))) (apply h (eigens (if z then c ∷ agreeing cs ks else agreeing cs ks)))) [
  | true ↦ λ p.
      let q : length cs ≡ length ks = omega arith in
      let i = same_number c k p in
      let g = app h (atom (eigen c)) in
      let v : Within (Avoids cs) 0 g = (within_more (Avoids (c ∷ cs)) (Avoids cs) 0 0 (λ a z. z.1) (omega arith) h w, d.0) in
      let t = apply g (eigens (agreeing cs ks)) in
      let any : Within (λ a. Unit {0}) 0 (abstracted cs t) = any_within (And (λ a. Unit {0}) (Avoids cs)) (abstracted cs t) (within_abstracted (λ a. Unit {0}) cs t (apply_within (λ a. Unit {0}) (eigens (agreeing cs ks)) g (any_within (Avoids cs) g v) (eigens_any (agreeing cs ks)))) in
      converts_on (converts_apply (eigens ks) (transport (λ z. Converts (app (abstraction c (abstracted cs t)) (atom (eigen z))) (abstracted cs t)) i (abstraction_beta (λ a. Unit {0}) c (abstracted cs t) any)))
      (agreeing_on cs ks g q d.1 v)
  | false ↦ λ p.
      let q : length cs ≡ length ks = omega arith in
      let v : Within (Avoids cs) 0 h = within_more (Avoids (c ∷ cs)) (Avoids cs) 0 0 (λ a z. z.1) (omega arith) h w in
      let n : Within (Not c) 0 h = within_more (Avoids (c ∷ cs)) (Not c) 0 0 (λ a z. z.0) (omega arith) h w in
      let t = apply h (eigens (agreeing cs ks)) in
      let m : Within (Not c) 0 (abstracted cs t) = within_more (And (Not c) (Avoids cs)) (Not c) 0 0 (λ a z. z.0) (omega arith) (abstracted cs t) (within_abstracted (Not c) cs t (apply_within (Not c) (eigens (agreeing cs ks)) h n (agreeing_not c cs ks d.0))) in
      converts_on (converts_apply (eigens ks) (converts_on (abstraction_on (Not c) c (abstracted cs t) (atom (eigen k)) m) (converts_is (fill_none (Not c) (swap c (atom (eigen k))) (swap_none c (atom (eigen k))) 0 (abstracted cs t) m))))
      (agreeing_on cs ks h q d.1 v)
] refl

eigens_agreeing : (F : List Ty) (a b : List ℕ) → AreEigens F a → AreEigens F (agreeing a b)
eigens_agreeing F [] b h = tt
eigens_agreeing F (c ∷ cs) [] h = tt
eigens_agreeing F (c ∷ cs) (k ∷ ks) h = elim (nat_eq c k) as (λ z. AreEigens F (if z then c ∷ agreeing cs ks else agreeing cs ks)) [
  | true ↦ (h.0, eigens_agreeing F cs ks h.1)
  | false ↦ eigens_agreeing F cs ks h.1
]

closed_agreeing : (F : List Ty) (a b : List ℕ) → AreClosedIn F a → AreClosedIn F (agreeing a b)
closed_agreeing F [] b h = tt
closed_agreeing F (c ∷ cs) [] h = tt
closed_agreeing F (c ∷ cs) (k ∷ ks) h = elim (nat_eq c k) as (λ z. AreClosedIn F (if z then c ∷ agreeing cs ks else agreeing cs ks)) [
  | true ↦ (h.0, closed_agreeing F cs ks h.1)
  | false ↦ closed_agreeing F cs ks h.1
]

-- the new variable, on the agreeing members
pub joined_new : (d : Declared) (E : List Ty) (V : List Variable) (s : Side) (T : Ty) → (h : IsTypedSide d E V s T) → (b : List ℕ) → IsNew V E h.variable.scope s.id s.level s.level s.arguments (agreeing s.arguments b) T
joined_new d E V s T h b = record {
  variable = h.variable;
  is = h.is;
  level = h.level;
  type = h.type;
  arguments = h.arguments;
  own = h.scope;
  scope = h.scope;
  inner = prefix_none h.variable.scope;
  length = sym h.level;
  chosen = eigens_agreeing E s.arguments b h.arguments;
  low = omega arith;
  reach = reach_agreeing s.level s.arguments b;
}

abbrev pub joined_context : (d : Declared) (E : List Ty) (V : List Variable) (s : Side) (T : Ty) → IsTypedSide d E V s T → List ℕ → List Variable
joined_context d E V s T h b = with_new V (new_variable E h.variable.scope (agreeing s.arguments b) T)

pub joined_typed : (d : Declared) (E : List Ty) (V : List Variable) (s : Side) (T : Ty) (next : ℕ) → length V ≡ next → (h : IsTypedSide d E V s T) → (b : List ℕ) → IsTypedBinding d (joined_context d E V s T h b) (renewed next s.id s.level s.level s.arguments (agreeing s.arguments b))
joined_typed d E V s T next e h b = transport (λ z. IsTypedBinding d (joined_context d E V s T h b) (renewed z s.id s.level s.level s.arguments (agreeing s.arguments b))) e
    (new_binding d V E h.variable.scope s.id s.level s.level s.arguments (agreeing s.arguments b) T (joined_new d E V s T h b))

pub joined_keeps : (d : Declared) (E : List Ty) (V : List Variable) (s : Side) (T : Ty) (next : ℕ) → length V ≡ next → (h : IsTypedSide d E V s T) →
    (b : List ℕ) (σ : ℕ → ℕ → Term) → IsClosing σ → IsTypedClosing d V σ → length s.arguments ≡ length b → are_distinct s.arguments ≡ true → are_above
    s.level s.arguments ≡ true →
    Converts (apply (σ s.id s.level) (eigens s.arguments)) (apply (σ s.id s.level) (eigens b)) → Keeps (IsTypedClosing d (joined_context d E V s T h b)) next (renewed next s.id s.level s.level s.arguments (agreeing s.arguments b) ∷ []) σ
joined_keeps d E V s T next z h b σ c g e i u m =
    let x = s.id in
    let l = s.level in
    let a = s.arguments in
    let w = side_agrees d E V s T h b σ c g e i u m in
    record {
      closing = extended σ next l (abstracted (agreeing a b) w.0);
      is_closing = extended_closing σ next l (abstracted (agreeing a b) w.0) c (abstracted_closed l (agreeing a b) w.0 w.2);
      is_good = transport (λ y. IsTypedClosing d (joined_context d E V s T h b) (extended σ y l (abstracted (agreeing a b) w.0))) z
          (new_closing d V E h.variable.scope x l l a (agreeing a b) T (joined_new d E V s T h b) σ w.0 g (closed_agreeing E a b (side_closed d E V s T h σ g)) w.1 w.2);
      gives = renewed_through σ next x l l a (agreeing a b) w.0 c (omega arith) i u (reach_agreeing l a b) w.2 (converts_reduces w.1);
    }

pub joined_scoped : (next x l : ℕ) (a b : List ℕ) → Within (IsPairAtom (suc next) l) 0 (renewed next x l l a (agreeing a b)).value
joined_scoped next x l a b = renewed_scoped next x l l a (agreeing a b) (omega arith) (reach_agreeing l a b)

-- the new variable alone, and eigenconstants
abbrev New : ℕ → ℕ → Atom → Type 0
New next l (logic x j) = (x ≡ next) × (j ≡ l)
New next l (eigen k) = Unit {0}
New next l (constant c ts) = Unit {0}
New next l (integer z) = Unit {0}
New next l (text s) = Unit {0}
New next l (param k t) = Unit {0}

new_eigens : (next l : ℕ) (cs : List ℕ) → WithinAll (New next l) (eigens cs)
new_eigens next l [] = tt
new_eigens next l (c ∷ cs) = (tt, new_eigens next l cs)

put_self : (next x l : ℕ) (a cs : List ℕ) → (σ : ℕ → ℕ → Term) → through (renewed next x l l a cs ∷ []) σ x l ≡ close σ (renewed next x l l a cs).value
put_self next x l a cs σ =
    let p : nat_eq x x ≡ true = grind (arith, nat_tests) in
    let q : nat_eq l l ≡ true = grind (arith, nat_tests) in
    rw (p, q)

pub joined_meets : (next x l : ℕ) (a b : List ℕ) (σ : ℕ → ℕ → Term) → IsClosing σ → length a ≡ length b → are_distinct a ≡ true → are_above l a ≡ true →
    Converts (apply (through (renewed next x l l a (agreeing a b) ∷ []) σ x l) (eigens a)) (apply (through (renewed next x l l a (agreeing a b) ∷ []) σ x l) (eigens b))
joined_meets next x l a b σ c e d u =
    let cs = agreeing a b in
    let v = pattern_term (pattern next l cs) in
    let avoids : Within (Avoids a) 0 (σ next l) = within_more (IsLevelAtom l) (Avoids a) 0 0 (closed_avoids l a u) (omega arith) (σ next l) (c.closed next l) in
    let fresh : (y j : ℕ) → New next l (logic y j) → Within (Avoids a) 0 (σ y j) = (λ y j p. transport (λ z. Within (Avoids a) 0 z) (λ i. sym (λ k. σ (p.0 k) (p.1 k)) i) avoids) in
    let value : close σ (abstracted a v) ≡ abstracted a (apply (σ next l) (eigens cs)) =
    close_abstracted (New next l) σ a fresh v (apply_within (New next l) (eigens cs) (atom (logic next l)) (refl, refl) (new_eigens next l cs)) ∙ ap (abstracted a) (close_pattern σ (atom (logic next l)) cs) in
    let own : through (renewed next x l l a cs ∷ []) σ x l ≡ abstracted a (apply (σ next l) (eigens cs)) = put_self next x l a cs σ ∙ value in
    let any : Within (λ z. Unit {0}) 0 (apply (σ next l) (eigens cs)) = apply_within (λ z. Unit {0}) (eigens cs) (σ next l) (any_within (IsLevelAtom l) (σ next l) (c.closed next l)) (eigens_any cs) in
    converts_on (converts_is (ap (λ z. apply z (eigens a)) own))
    (converts_on (abstracted_beta (λ z. Unit {0}) a (apply (σ next l) (eigens cs)) any)
    (converts_on (converts_sym (agreeing_on a b (σ next l) e (distinct_tells a d) avoids))
    (converts_is (ap (λ z. apply z (eigens b)) (sym own)))))
