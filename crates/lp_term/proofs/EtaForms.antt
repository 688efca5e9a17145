-- The eta-normal form of a beta-normal term is its beta-eta normal form, and a term has no other.
use Rattle.std.proofs.Common.{◌≡◌, ℕ, zero, suc, ◌+◌, ◌-◌, refl, sym, ap, ◌∙◌, subst as transport, arith, Bool, true, false, nat_lt, nat_eq, if◌then◌else◌, Option, Some, None}
use Rattle.std.specs.Prelude.{not, ◌&&◌}
use Rattle.std.proofs.lemmas.Bool.Decides.{nat_tests}
use mathlib.Core.Path.{fun_ext}
use Rattle.lp_calculus.specs.Term.{Term, index, atom, abs, app, replace, raised, put_for, shift, substitute}
use Rattle.lp_calculus.specs.Convert.{Anywhere, here, in_abs, in_head, in_argument, BetaEta, by_beta, by_eta, done, then_step, ReducesTo, leftmost_step, option_term, or_else, steps}
use Rattle.lp_calculus.specs.Normal.{IsFormOf, NormalisesTo, is_absent, contracted, eta_normal}
use Rattle.lp_calculus.proofs.Sigma.{rename, rename-rename}
use Rattle.lp_calculus.proofs.Plain.{bump, shift-rename}
use Rattle.lp_calculus.proofs.BetaEta.{many_on, normal_same}
use Rattle.lp_calculus.proofs.Steps.{converts_on, converts_sym, converts_reduces}
use Rattle.lp_term.specs.Facts.{IsNoAbstraction}

pub both_true : (a b : Bool) → (a && b) ≡ true → (a ≡ true) × (b ≡ true)
both_true true b e = (refl, e)
both_true false b e = absurd (cc)

-- an index that is not there, and shifts
bumped : (d j : ℕ) → bump 1 (suc d) (bump 1 0 j) ≡ bump 1 0 (bump 1 d j)
bumped d j = grind (arith, nat_tests)

shift_under : (d : ℕ) (x : Term) → shift (suc d) 1 (shift 0 1 x) ≡ shift 0 1 (shift d 1 x)
shift_under d x =
    shift-rename (suc d) 1 (shift 0 1 x) ∙ ap (rename (bump 1 (suc d))) (shift-rename 0 1 x) ∙ rename-rename (bump 1 0) (bump 1 (suc d)) x ∙
    ap (λ ρ. rename ρ x) (fun_ext (bumped d)) ∙
    sym (shift-rename 0 1 (shift d 1 x) ∙ ap (rename (bump 1 0)) (shift-rename d 1 x) ∙ rename-rename (bump 1 d) (bump 1 0) x)

raised_none : (d : ℕ) → raised 1 (suc d) 0 ≡ index 0
raised_none d = let q : nat_lt 0 (suc d) ≡ true = grind (arith, nat_tests) in ap (λ b. if b then index 0 else index (0 + 1)) q

index_back : (d i : ℕ) → not (nat_eq i d) ≡ true → shift d 1 (put_for (index 0) d i) ≡ index i
index_back d i e = go (nat_lt i d) (nat_eq i d) refl refl
  where
    low : nat_lt i d ≡ true → raised 1 d i ≡ index i
    low p = ap (λ b. if b then index i else index (i + 1)) p

    high : nat_lt i d ≡ false → nat_eq i d ≡ false → raised 1 d (i - 1) ≡ index i
    high p q =
        let r : nat_lt (i - 1) d ≡ false = grind (arith, nat_tests) in
        let s : i - 1 + 1 ≡ i = grind (arith, nat_tests) in
        ap (λ b. if b then index (i - 1) else index (i - 1 + 1)) r ∙ ap index s

    go : (a b : Bool) → nat_lt i d ≡ a → nat_eq i d ≡ b → shift d 1 (put_for (index 0) d i) ≡ index i
    go true b p q = ap (λ c. shift d 1 (if c then index i else (if nat_eq i d then shift 0 d (index 0) else index (i - 1)))) p ∙ low p
    go false true p q = let r : not true ≡ true = ap not (sym q) ∙ e in absurd (cc)
    go false false p q =
        ap (λ c. shift d 1 (if c then index i else (if nat_eq i d then shift 0 d (index 0) else index (i - 1)))) p ∙
        ap (λ c. shift d 1 (if c then shift 0 d (index 0) else index (i - 1))) q ∙ high p q

pub lowered_back : (d : ℕ) (t : Term) → is_absent d t ≡ true → shift d 1 (replace (put_for (index 0)) d t) ≡ t
lowered_back d (index i) e = index_back d i e
lowered_back d (atom a) e = refl
lowered_back d (abs b) e = ap abs (lowered_back (suc d) b e)
lowered_back d (app t u) e =
    let k = both_true (is_absent d t) (is_absent d u) e in
    λ j. app (lowered_back d t k.0 j) (lowered_back d u k.1 j)

absent_index : (d i : ℕ) → is_absent d (raised 1 d i) ≡ true
absent_index d i = go (nat_lt i d) refl
  where
    go : (a : Bool) → nat_lt i d ≡ a → is_absent d (raised 1 d i) ≡ true
    go true p =
        let r : nat_eq i d ≡ false = grind (arith, nat_tests) in
        ap (λ c. is_absent d (if c then index i else index (i + 1))) p ∙ ap not r
    go false p =
        let r : nat_eq (i + 1) d ≡ false = grind (arith, nat_tests) in
        ap (λ c. is_absent d (if c then index i else index (i + 1))) p ∙ ap not r

absent_raised : (d : ℕ) (x : Term) → is_absent d (shift d 1 x) ≡ true
absent_raised d (index i) = absent_index d i
absent_raised d (atom a) = refl
absent_raised d (abs b) = absent_raised (suc d) b
absent_raised d (app t u) = ap (λ c. c && is_absent d (shift d 1 u)) (absent_raised d t) ∙ absent_raised d u

-- no beta redex
abbrev Plain : Term → Type 0
Plain (index i) = Unit {0}
Plain (atom a) = Unit {0}
Plain (abs b) = Plain b
Plain (app t u) = IsNoAbstraction t × Plain t × Plain u

-- and no eta redex
abbrev Firm : Term → Type 0
Firm (index i) = Unit {0}
Firm (atom a) = Unit {0}
Firm (abs b) = Firm b × ((x : Term) → b ≡ app (shift 0 1 x) (index 0) → ⊥)
Firm (app t u) = IsNoAbstraction t × Firm t × Firm u

none_of : (f : Term → Term) (o : Option Term) → option_term f o ≡ None → o ≡ None
none_of f None e = refl
none_of f (Some x) e = absurd (cc)

none_left : (a b : Option Term) → or_else a b ≡ None → a ≡ None
none_left None b e = refl
none_left (Some x) b e = absurd (cc)

none_right : (a b : Option Term) → or_else a b ≡ None → b ≡ None
none_right None b e = e
none_right (Some x) b e = absurd (cc)

plain : (t : Term) → leftmost_step t ≡ None → Plain t
plain (index i) e = tt
plain (atom a) e = tt
plain (abs b) e = plain b (none_of abs (leftmost_step b) e)
plain (app (abs b) u) e = absurd (cc)
plain (app (index i) u) e = (tt, tt, plain u (none_of (app (index i)) (leftmost_step u) e))
plain (app (atom a) u) e = (tt, tt, plain u (none_of (app (atom a)) (leftmost_step u) e))
plain (app (app t v) u) e =
    let x = none_left (option_term (λ s. app s u) (leftmost_step (app t v))) (option_term (app (app t v)) (leftmost_step u)) e in
    let y = none_right (option_term (λ s. app s u) (leftmost_step (app t v))) (option_term (app (app t v)) (leftmost_step u)) e in
    (tt, plain (app t v) (none_of (λ s. app s u) (leftmost_step (app t v)) x), plain u (none_of (app (app t v)) (leftmost_step u) y))

no_back : (d : ℕ) (t : Term) → IsNoAbstraction (shift d 1 t) → IsNoAbstraction t
no_back d (index i) h = tt
no_back d (atom a) h = tt
no_back d (abs b) h = h
no_back d (app t u) h = tt

firm_back : (d : ℕ) (s : Term) → Firm (shift d 1 s) → Firm s
firm_back d (index i) f = tt
firm_back d (atom a) f = tt
firm_back d (abs b) f = (
  firm_back (suc d) b f.0,
  λ x e. f.1 (shift d 1 x) (ap (shift (suc d) 1) e ∙ (λ j. app (shift_under d x j) (raised_none d j))),
)
firm_back d (app t u) f = (no_back d t f.0, firm_back d t f.1, firm_back d u f.2)

firm_step : {t s : Term} → Anywhere BetaEta t s → Firm t → ⊥
firm_step (here (by_beta b u)) f = f.0
firm_step (here (by_eta t)) f = f.1 t refl
firm_step (in_abs p) f = firm_step p f.0
firm_step (in_head u p) f = firm_step p f.1
firm_step (in_argument t p) f = firm_step p f.2

firm_contracted : (b : Term) → Firm b → Firm (contracted b)
firm_contracted (app t (index zero)) f = go (is_absent 0 t) refl
  where
    go : (a : Bool) → is_absent 0 t ≡ a → Firm (if is_absent 0 t then substitute (index 0) t else abs (app t (index 0)))
    go true e = transport (λ c. Firm (if c then substitute (index 0) t else abs (app t (index 0)))) (sym e) (firm_back 0 (substitute (index 0) t) (transport Firm (sym (lowered_back 0 t e)) f.1))
    go false e = transport (λ c. Firm (if c then substitute (index 0) t else abs (app t (index 0)))) (sym e)
        (f, λ x q. let r : t ≡ shift 0 1 x = cc in let y : is_absent 0 t ≡ true = ap (is_absent 0) r ∙ absent_raised 0 x in absurd (cc))
firm_contracted (app t (index (suc n))) f = (f, λ x q. absurd (cc))
firm_contracted (app t (atom a)) f = (f, λ x q. absurd (cc))
firm_contracted (app t (abs u)) f = (f, λ x q. absurd (cc))
firm_contracted (app t (app u v)) f = (f, λ x q. absurd (cc))
firm_contracted (index i) f = (f, λ x q. absurd (cc))
firm_contracted (atom a) f = (f, λ x q. absurd (cc))
firm_contracted (abs b) f = (f, λ x q. absurd (cc))

no_eta : (t : Term) → IsNoAbstraction t → IsNoAbstraction (eta_normal t)
no_eta (index i) h = tt
no_eta (atom a) h = tt
no_eta (abs b) h = absurd h
no_eta (app t u) h = tt

firm_eta : (t : Term) → Plain t → Firm (eta_normal t)
firm_eta (index i) p = tt
firm_eta (atom a) p = tt
firm_eta (abs b) p = firm_contracted (eta_normal b) (firm_eta b p)
firm_eta (app t u) p = (no_eta t p.0, firm_eta t p.1, firm_eta u p.2)

-- each term reduces to its eta-normal form
many_map : (f : Term → Term) → ((t s : Term) → Anywhere BetaEta t s → Anywhere BetaEta (f t) (f s)) → {t s : Term} → ReducesTo t s → ReducesTo (f t) (f s)
many_map f h (done t) = done (f t)
many_map f h (then_step p ps) = then_step (h _ _ p) (many_map f h ps)

reduces_contracted : (b : Term) → ReducesTo (abs b) (contracted b)
reduces_contracted (app t (index zero)) = go (is_absent 0 t) refl
  where
    go : (a : Bool) → is_absent 0 t ≡ a → ReducesTo (abs (app t (index 0))) (if is_absent 0 t then substitute (index 0) t else abs (app t (index 0)))
    go true e =
        transport (λ c. ReducesTo (abs (app t (index 0))) (if c then substitute (index 0) t else abs (app t (index 0)))) (sym e)
        (then_step (transport (λ x. Anywhere BetaEta (abs (app x (index 0))) (substitute (index 0) t)) (lowered_back 0 t e) (here (by_eta (substitute (index 0) t)))) (done (substitute (index 0) t)))
    go false e = transport (λ c. ReducesTo (abs (app t (index 0))) (if c then substitute (index 0) t else abs (app t (index 0)))) (sym e) (done (abs (app t (index 0))))
reduces_contracted (app t (index (suc n))) = done (abs (app t (index (suc n))))
reduces_contracted (app t (atom a)) = done (abs (app t (atom a)))
reduces_contracted (app t (abs u)) = done (abs (app t (abs u)))
reduces_contracted (app t (app u v)) = done (abs (app t (app u v)))
reduces_contracted (index i) = done (abs (index i))
reduces_contracted (atom a) = done (abs (atom a))
reduces_contracted (abs b) = done (abs (abs b))

reduces_eta : (t : Term) → ReducesTo t (eta_normal t)
reduces_eta (index i) = done (index i)
reduces_eta (atom a) = done (atom a)
reduces_eta (abs b) = many_on (many_map abs (λ x y p. in_abs p) (reduces_eta b)) (reduces_contracted (eta_normal b))
reduces_eta (app t u) = many_on (many_map (λ x. app x u) (λ x y p. in_head u p) (reduces_eta t)) (many_map (app (eta_normal t)) (λ x y p. in_argument (eta_normal t) p) (reduces_eta u))

-- leftmost steps are beta steps
some_of : (f : Term → Term) (o : Option Term) (s : Term) → option_term f o ≡ Some s → (x : Term) × (o ≡ Some x) × (f x ≡ s)
some_of f None s e = absurd (cc)
some_of f (Some x) s e = (x, refl, cc)

leftmost_is : (t s : Term) → leftmost_step t ≡ Some s → Anywhere BetaEta t s
leftmost_is (index i) s e = absurd (cc)
leftmost_is (atom a) s e = absurd (cc)
leftmost_is (abs b) s e = let k = some_of abs (leftmost_step b) s e in transport (Anywhere BetaEta (abs b)) k.2 (in_abs (leftmost_is b k.0 k.1))
leftmost_is (app (abs b) u) s e = let q : substitute u b ≡ s = cc in transport (Anywhere BetaEta (app (abs b) u)) q (here (by_beta b u))
leftmost_is (app (index i) u) s e =
    let k = some_of (app (index i)) (leftmost_step u) s e in transport (Anywhere BetaEta (app (index i) u)) k.2 (in_argument (index i) (leftmost_is u k.0 k.1))
leftmost_is (app (atom a) u) s e =
    let k = some_of (app (atom a)) (leftmost_step u) s e in transport (Anywhere BetaEta (app (atom a) u)) k.2 (in_argument (atom a) (leftmost_is u k.0 k.1))
leftmost_is (app (app t v) u) s e =
    elim (leftmost_step (app t v)) as (λ o. leftmost_step (app t v) ≡ o → or_else (option_term (λ x. app x u) o) (option_term (app (app t v)) (leftmost_step u)) ≡ Some s → Anywhere BetaEta (app (app t v) u) s) [
      | None ↦ λ p q. let k = some_of (app (app t v)) (leftmost_step u) s q in transport (Anywhere BetaEta (app (app t v) u)) k.2 (in_argument (app t v) (leftmost_is u k.0 k.1))
      | Some c ↦ λ p q. let r : app c u ≡ s = cc in transport (Anywhere BetaEta (app (app t v) u)) r (in_head u (leftmost_is (app t v) c p))
    ] refl e

reduces_steps : (n : ℕ) (t s : Term) → steps leftmost_step n t ≡ Some s → ReducesTo t s
reduces_steps zero t s e = let q : t ≡ s = cc in transport (ReducesTo t) q (done t)
reduces_steps (suc n) t s e = elim (leftmost_step t) as (λ o. leftmost_step t ≡ o → (elim o [ None ↦ None | Some r ↦ steps leftmost_step n r ]) ≡ Some s → ReducesTo t s) [
  | None ↦ λ p q. absurd (cc)
  | Some r ↦ λ p q. then_step (leftmost_is t r p) (reduces_steps n r s q)
] refl e

pub form_is : (n : ℕ) (t r : Term) → NormalisesTo n t r → IsFormOf t (eta_normal r)
form_is n t r h = (many_on (reduces_steps n t r h.0) (reduces_eta r), λ s p. firm_step p (firm_eta r (plain r h.1)))

pub forms_are_one : (t s r : Term) → IsFormOf t s → IsFormOf t r → s ≡ r
forms_are_one t s r f g = normal_same s r f.1 g.1 (converts_on (converts_sym (converts_reduces f.0)) (converts_reduces g.0))
