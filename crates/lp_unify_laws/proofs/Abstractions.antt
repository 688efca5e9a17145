-- The abstraction of eigenconstants: beta, eta, and closings.
use Rattle.std.proofs.Common.{◌≡◌, ℕ, zero, suc, ◌<◌, List, [], ◌∷◌, ◌∙◌, refl, sym, ap, arith, Bool, true, false, if◌then◌else◌, nat_eq, not, ◌||◌}
use Rattle.std.proofs.lemmas.Bool.Decides.{nat_tests}
use Rattle.std.specs.Prelude.{◌&&◌, nat_lt}
use Rattle.lp_calculus.specs.Term.{Term, index, atom, abs, app, apply, Atom, shift, constant, integer, text, eigen, logic, param}
use Rattle.lp_calculus.specs.Convert.{here, by_beta, by_eta, same, Converts}
use Rattle.lp_calculus.proofs.Sigma.{subst, instead}
use Rattle.lp_calculus.proofs.Plain.{substitute-subst}
use Rattle.lp_calculus.specs.Fill.{raise, fill, Within, at_variables, close, indexed, abstraction, abstracted}
use Rattle.lp_model.specs.Patterns.{eigens, member}
use Rattle.lp_model.specs.Look.{are_distinct, are_above}
use Rattle.lp_unify_laws.specs.Levels.{IsLevelAtom}
use Rattle.lp_calculus.proofs.Fills.{fill-subst, fill-fill, fill_same, fill_none, within_fill, within_more, shift_closed, subst_closed}
use Rattle.lp_calculus.proofs.Steps.{converts_on, converts_is, converts_step, converts_abs, converts_apply, converts_fill}

-- an atom that is not this eigenconstant
abbrev pub Not : ℕ → Atom → Type 0
Not c (eigen k) = k ≡ c → ⊥
Not c (logic x l) = Unit {0}
Not c (constant k ts) = Unit {0}
Not c (integer z) = Unit {0}
Not c (text s) = Unit {0}
Not c (param k t) = Unit {0}

abbrev pub Avoids : List ℕ → Atom → Type 0
Avoids [] a = Unit {0}
Avoids (c ∷ cs) a = Not c a × Avoids cs a

abbrev pub Distinct : List ℕ → Type 0
Distinct [] = Unit {0}
Distinct (c ∷ cs) = Avoids cs (eigen c) × Distinct cs

indexed_not : (c : ℕ) (a : Atom) → Not c a → indexed c a ≡ atom a
indexed_not c (eigen k) h = grind (arith, nat_tests)
indexed_not c (logic x l) h = refl
indexed_not c (constant k ts) h = refl
indexed_not c (integer z) h = refl
indexed_not c (text s) h = refl
indexed_not c (param k t) h = refl

indexed_self : (c : ℕ) → indexed c (eigen c) ≡ index 0
indexed_self c = grind (arith, nat_tests)

-- a term for an eigenconstant
abbrev pub swap : ℕ → Term → Atom → Term
swap c u (eigen k) = if nat_eq k c then u else atom (eigen k)
swap c u (logic x l) = atom (logic x l)
swap c u (constant k ts) = atom (constant k ts)
swap c u (integer z) = atom (integer z)
swap c u (text s) = atom (text s)
swap c u (param k t) = atom (param k t)

if_instead : (b : Bool) (u : Term) (k : ℕ) → (if b then u else atom (eigen k)) ≡ subst (instead u) (if b then index 0 else atom (eigen k))
if_instead true u k = refl
if_instead false u k = refl

swap_is : (c : ℕ) (u : Term) (a : Atom) → swap c u a ≡ subst (instead u) (indexed c a)
swap_is c u (eigen k) = if_instead (nat_eq k c) u k
swap_is c u (logic x l) = refl
swap_is c u (constant k ts) = refl
swap_is c u (integer z) = refl
swap_is c u (text s) = refl
swap_is c u (param k t) = refl

swap_instead : (c : ℕ) (u : Term) (i : ℕ) → fill (swap c u) (instead (atom (eigen c)) i) ≡ instead u i
swap_instead c u zero = grind (arith, nat_tests)
swap_instead c u (suc i) = refl

-- an abstraction on a term
pub abstraction_on : (P : Atom → Type 0) (c : ℕ) (t u : Term) → Within P 0 t → Converts (app (abstraction c t) u) (fill (swap c u) t)
abstraction_on P c t u w =
    let closed : subst (instead (atom (eigen c))) t ≡ t = subst_closed P (instead (atom (eigen c))) 0 (λ i p. absurd (omega arith)) t w in
    converts_on (converts_step (here (by_beta (fill (indexed c) t) u)))
    (converts_is (substitute-subst u (fill (indexed c) t) ∙ sym (fill-subst (swap c u) (indexed c) (instead (atom (eigen c))) (instead u) (swap_is c u) (swap_instead c u) t) ∙ ap (fill (swap c u)) closed))

swap_self : (c : ℕ) (P : Atom → Type 0) (a : Atom) → P a → swap c (atom (eigen c)) a ≡ atom a
swap_self c P (eigen k) p = grind (arith, nat_tests)
swap_self c P (logic x l) p = refl
swap_self c P (constant k ts) p = refl
swap_self c P (integer z) p = refl
swap_self c P (text s) p = refl
swap_self c P (param k t) p = refl

pub abstraction_beta : (P : Atom → Type 0) (c : ℕ) (t : Term) → Within P 0 t → Converts (app (abstraction c t) (atom (eigen c))) t
abstraction_beta P c t w = converts_on (abstraction_on P c t (atom (eigen c)) w) (converts_is (fill_none P (swap c (atom (eigen c))) (swap_self c P) 0 t w))

pub abstraction_eta : (c : ℕ) (u : Term) → Within (Not c) 0 u → Converts (abstraction c (app u (atom (eigen c)))) u
abstraction_eta c u w =
    let gone : fill (indexed c) u ≡ shift 0 1 u = fill_none (Not c) (indexed c) (indexed_not c) 0 u w ∙ sym (shift_closed (Not c) u w) in
    converts_on (converts_is (λ i. abs (app (gone i) (indexed_self c i)))) (converts_step (here (by_eta u)))

pub converts_abstraction : (c : ℕ) {t s : Term} → Converts t s → Converts (abstraction c t) (abstraction c s)
converts_abstraction c h = converts_abs (converts_fill (indexed c) h)

if_close : (b : Bool) (σ : ℕ → ℕ → Term) (k : ℕ) → fill (raise (at_variables σ)) (if b then index 0 else atom (eigen k)) ≡ (if b then index 0 else atom (eigen k))
if_close true σ k = refl
if_close false σ k = refl

close_indexed : (P : Atom → Type 0) (σ : ℕ → ℕ → Term) (c : ℕ) → ((x l : ℕ) → P (logic x l) → Within (Not c) 0 (σ x l)) → (a : Atom) → P a → fill (raise (at_variables σ)) (indexed c a) ≡ fill (indexed c) (at_variables σ a)
close_indexed P σ c h (eigen k) p = if_close (nat_eq k c) σ k
close_indexed P σ c h (logic x l) p = let w = h x l p in shift_closed (Not c) (σ x l) w ∙ sym (fill_none (Not c) (indexed c) (indexed_not c) 0 (σ x l) w)
close_indexed P σ c h (constant k ts) p = refl
close_indexed P σ c h (integer z) p = refl
close_indexed P σ c h (text s) p = refl
close_indexed P σ c h (param k t) p = refl

pub close_abstraction : (P : Atom → Type 0) (σ : ℕ → ℕ → Term) (c : ℕ) → ((x l : ℕ) → P (logic x l) → Within (Not c) 0 (σ x l)) → (t : Term) → Within P 0 t → close σ (abstraction c t) ≡ abstraction c (close σ t)
close_abstraction P σ c h t w = ap abs (
    fill-fill (raise (at_variables σ)) (indexed c) (λ a. fill (raise (at_variables σ)) (indexed c a)) (λ a. refl) t ∙
    fill_same P (λ a. fill (raise (at_variables σ)) (indexed c a)) (λ a. fill (indexed c) (at_variables σ a)) (close_indexed P σ c h) 0 t w ∙
    sym (fill-fill (indexed c) (at_variables σ) (λ a. fill (indexed c) (at_variables σ a)) (λ a. refl) t))

within_if : (Q : Atom → Type 0) (b : Bool) (k : ℕ) → (b ≡ false → Q (eigen k)) → Within Q 1 (if b then index 0 else atom (eigen k))
within_if Q true k h = let q : 0 < 1 = omega arith in q
within_if Q false k h = h refl

within_indexed : (P Q : Atom → Type 0) (c : ℕ) → ((a : Atom) → P a → Not c a → Q a) → (a : Atom) → P a → Within Q 1 (indexed c a)
within_indexed P Q c h (eigen k) p = within_if Q (nat_eq k c) k (λ e. let n : k ≡ c → ⊥ = grind (arith, nat_tests) in h (eigen k) p n)
within_indexed P Q c h (logic x l) p = h (logic x l) p tt
within_indexed P Q c h (constant k ts) p = h (constant k ts) p tt
within_indexed P Q c h (integer z) p = h (integer z) p tt
within_indexed P Q c h (text s) p = h (text s) p tt
within_indexed P Q c h (param k t) p = h (param k t) p tt

pub within_abstraction : (P Q : Atom → Type 0) (c : ℕ) → ((a : Atom) → P a → Not c a → Q a) → (t : Term) → Within P 0 t → Within Q 0 (abstraction c t)
within_abstraction P Q c h t w = within_fill P Q (indexed c) 1 (within_indexed P Q c h) t (within_more P P 0 1 (λ a p. p) (omega arith) t w)

-- lists of eigenconstants
abbrev pub And : (P Q : Atom → Type 0) → Atom → Type 0
And P Q a = P a × Q a

pub within_abstracted : (P : Atom → Type 0) (cs : List ℕ) (t : Term) → Within P 0 t → Within (And P (Avoids cs)) 0 (abstracted cs t)
within_abstracted P [] t w = within_more P (And P (Avoids [])) 0 0 (λ a p. (p, tt)) (omega arith) t w
within_abstracted P (c ∷ cs) t w = within_abstraction (And P (Avoids cs)) (And P (Avoids (c ∷ cs))) c (λ a p n. (p.0, (n, p.1))) (abstracted cs t) (within_abstracted P cs t w)

within_abstracted_kept : (P : Atom → Type 0) (cs : List ℕ) (t : Term) → Within P 0 t → Within P 0 (abstracted cs t)
within_abstracted_kept P cs t w = within_more (And P (Avoids cs)) P 0 0 (λ a p. p.0) (omega arith) (abstracted cs t) (within_abstracted P cs t w)

pub abstracted_beta : (P : Atom → Type 0) (cs : List ℕ) (t : Term) → Within P 0 t → Converts (apply (abstracted cs t) (eigens cs)) t
abstracted_beta P [] t w = same t
abstracted_beta P (c ∷ cs) t w =
    converts_on (converts_apply (eigens cs) (abstraction_beta P c (abstracted cs t) (within_abstracted_kept P cs t w))) (abstracted_beta P cs t w)

pub converts_abstracted : (cs : List ℕ) {t s : Term} → Converts t s → Converts (abstracted cs t) (abstracted cs s)
converts_abstracted [] h = h
converts_abstracted (c ∷ cs) h = converts_abstraction c (converts_abstracted cs h)

pub abstracted_eta : (cs : List ℕ) (u : Term) → Distinct cs → Within (Avoids cs) 0 u → Converts (abstracted cs (apply u (eigens cs))) u
abstracted_eta [] u d w = same u
abstracted_eta (c ∷ cs) u d w =
    let both : Within (Avoids cs) 0 (app u (atom (eigen c))) = (within_more (Avoids (c ∷ cs)) (Avoids cs) 0 0 (λ a p. p.1) (omega arith) u w, d.0) in
    converts_on (converts_abstraction c (abstracted_eta cs (app u (atom (eigen c))) d.1 both))
    (abstraction_eta c u (within_more (Avoids (c ∷ cs)) (Not c) 0 0 (λ a p. p.0) (omega arith) u w))

pub close_abstracted : (P : Atom → Type 0) (σ : ℕ → ℕ → Term) (cs : List ℕ) → ((x l : ℕ) → P (logic x l) → Within (Avoids cs) 0 (σ x l)) → (t : Term) → Within P 0 t → close σ (abstracted cs t) ≡ abstracted cs (close σ t)
close_abstracted P σ [] h t w = refl
close_abstracted P σ (c ∷ cs) h t w =
    close_abstraction P σ c (λ x l p. within_more (Avoids (c ∷ cs)) (Not c) 0 0 (λ a q. q.0) (omega arith) (σ x l) (h x l p)) (abstracted cs t) (within_abstracted_kept P cs t w) ∙
    ap (abstraction c) (close_abstracted P σ cs (λ x l p. within_more (Avoids (c ∷ cs)) (Avoids cs) 0 0 (λ a q. q.1) (omega arith) (σ x l) (h x l p)) t w)

pub close_pattern : (σ : ℕ → ℕ → Term) (h : Term) (cs : List ℕ) → close σ (apply h (eigens cs)) ≡ apply (close σ h) (eigens cs)
close_pattern σ h [] = refl
close_pattern σ h (c ∷ cs) = close_pattern σ (app h (atom (eigen c))) cs

-- what the tests tell
and_left : (a b : Bool) → (a && b) ≡ true → a ≡ true
and_left true b h = refl
and_left false b h = absurd (cc)

and_right : (a b : Bool) → (a && b) ≡ true → b ≡ true
and_right true b h = h
and_right false b h = absurd (cc)

not_member : (c : ℕ) (cs : List ℕ) → not (member c cs) ≡ true → Avoids cs (eigen c)
not_member c [] h = tt
not_member c (d ∷ cs) h = elim (nat_eq c d) as (λ b. nat_eq c d ≡ b → not (b || member c cs) ≡ true → Avoids (d ∷ cs) (eigen c)) [
  | true ↦ λ e k. absurd (cc)
  | false ↦ λ e k. (let n : c ≡ d → ⊥ = grind (arith, nat_tests) in n, not_member c cs k)
] refl h

pub distinct_tells : (cs : List ℕ) → are_distinct cs ≡ true → Distinct cs
distinct_tells [] h = tt
distinct_tells (c ∷ cs) h = (not_member c cs (and_left (not (member c cs)) (are_distinct cs) h), distinct_tells cs (and_right (not (member c cs)) (are_distinct cs) h))

-- what is closed at a level has none of the eigenconstants above it
closed_not : (l c : ℕ) → l < c → (a : Atom) → IsLevelAtom l a → Not c a
closed_not l c h (eigen k) p = λ e. omega arith
closed_not l c h (logic x m) p = tt
closed_not l c h (constant k ts) p = tt
closed_not l c h (integer z) p = tt
closed_not l c h (text s) p = tt
closed_not l c h (param k t) p = tt

pub closed_avoids : (l : ℕ) (cs : List ℕ) → are_above l cs ≡ true → (a : Atom) → IsLevelAtom l a → Avoids cs a
closed_avoids l [] h a p = tt
closed_avoids l (c ∷ cs) h a p =
    let q = and_left (nat_lt l c) (are_above l cs) h in
    let r : l < c = grind (arith, nat_tests) in
    (closed_not l c r a p, closed_avoids l cs (and_right (nat_lt l c) (are_above l cs) h) a p)
