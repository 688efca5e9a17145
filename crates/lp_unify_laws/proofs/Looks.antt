-- What a look at a term tells: the term converts to what was seen, and nothing new stands there.
use Rattle.std.proofs.Common.{◌≡◌, ℕ, zero, suc, List, [], ◌∷◌, ◌∙◌, refl, sym, ap, subst as transport, arith, Bool, true, false, if◌then◌else◌, nat_eq, not, Option, Some, None}
use Rattle.std.proofs.lemmas.Bool.Decides.{nat_tests}
use Rattle.std.specs.Prelude.{◌&&◌, option_map, option_and_then}
use Rattle.lp_calculus.specs.Term.{Term, index, atom, abs, app, apply, shift, substitute, constant, integer, text, eigen, logic, param}
use Rattle.lp_calculus.specs.Convert.{here, in_abs, in_head, in_argument, by_beta, by_eta, same, Converts, head_step, leftmost_step, option_term, or_else, ReducesTo, done, then_step, ConvertAll, convert_none, convert_more}
use Rattle.lp_calculus.proofs.Sigma.{subst, instead, rename, lift, rename_as_subst}
use Rattle.lp_calculus.proofs.Plain.{substitute-subst}
use Rattle.lp_calculus.proofs.BetaEta.{shift_one}
use mathlib.Core.Path.{fun_ext}
use Rattle.lp_calculus.proofs.Eta.{app_same}
use Rattle.lp_model.specs.Patterns.{eigens}
use Rattle.lp_model.specs.Eigens.{beta_normal, eigen_of, as_eigen}
use Rattle.lp_calculus.specs.Normal.{is_absent, contracted, eta_normal}
use Rattle.lp_model.specs.Look.{Look, an_abs, rigid, flexible, looked, head_normal, look, weak_step, top_normal, as_eigens, only_if, pattern_of, are_distinct, are_above}
use Rattle.lp_calculus.proofs.Steps.{Step, converts_on, converts_is, converts_step, converts_abs, converts_app, converts_reduces}

-- the strategies take steps
pub head_steps : (t s : Term) → head_step t ≡ Some s → Step t s
head_steps (index i) s e = absurd (cc)
head_steps (atom a) s e = absurd (cc)
head_steps (abs b) s e = elim (head_step b) as (λ o. head_step b ≡ o → option_term abs o ≡ Some s → Step (abs b) s) [
  | None ↦ λ p q. absurd (cc)
  | Some c ↦ λ p q. let r : abs c ≡ s = cc in transport (Step (abs b)) r (in_abs (head_steps b c p))
] refl e
head_steps (app (abs b) u) s e = let r : substitute u b ≡ s = cc in transport (Step (app (abs b) u)) r (here (by_beta b u))
head_steps (app (index i) u) s e = absurd (cc)
head_steps (app (atom a) u) s e = absurd (cc)
head_steps (app (app t v) u) s e = elim (head_step (app t v)) as (λ o. head_step (app t v) ≡ o → option_term (λ x. app x u) o ≡ Some s → Step (app (app t v) u) s) [
  | None ↦ λ p q. absurd (cc)
  | Some c ↦ λ p q. let r : app c u ≡ s = cc in transport (Step (app (app t v) u)) r (in_head u (head_steps (app t v) c p))
] refl e

pub head_reduces : (n : ℕ) (t s : Term) → head_normal n t ≡ Some s → ReducesTo t s
head_reduces zero t s e = absurd (cc)
head_reduces (suc n) t s e = elim (head_step t) as (λ o. head_step t ≡ o → (elim o [ None ↦ Some t | Some r ↦ head_normal n r ]) ≡ Some s → ReducesTo t s) [
  | None ↦ λ p q. let r : t ≡ s = cc in transport (ReducesTo t) r (done t)
  | Some r ↦ λ p q. then_step (head_steps t r p) (head_reduces n r s q)
] refl e

-- a step that leaves an abstraction as it is is one of them
pub weak_head : (t s : Term) → weak_step t ≡ Some s → head_step t ≡ Some s
weak_head (index i) s e = absurd (cc)
weak_head (atom a) s e = absurd (cc)
weak_head (abs b) s e = absurd (cc)
weak_head (app (abs b) u) s e = e
weak_head (app (index i) u) s e = absurd (cc)
weak_head (app (atom a) u) s e = absurd (cc)
weak_head (app (app t v) u) s e = elim (weak_step (app t v)) as (λ o. weak_step (app t v) ≡ o → option_term (λ y. app y u) o ≡ Some s → head_step (app (app t v) u) ≡ Some s) [
  | None ↦ λ p q. absurd (cc)
  | Some r ↦ λ p q. ap (option_term (λ y. app y u)) (weak_head (app t v) r p) ∙ q
] refl e

pub top_reduces : (n : ℕ) (t s : Term) → top_normal n t ≡ Some s → ReducesTo t s
top_reduces zero t s e = absurd (cc)
top_reduces (suc n) t s e = elim (weak_step t) as (λ o. weak_step t ≡ o → (elim o [ None ↦ Some t | Some r ↦ top_normal n r ]) ≡ Some s → ReducesTo t s) [
  | None ↦ λ p q. let r : t ≡ s = cc in transport (ReducesTo t) r (done t)
  | Some r ↦ λ p q. then_step (head_steps t r (weak_head t r p)) (top_reduces n r s q)
] refl e

-- where there is a head-normal form so many steps are enough
pub top_found : (n : ℕ) (t v : Term) → head_normal n t ≡ Some v → (s : Term) × (top_normal n t ≡ Some s)
top_found zero t v e = absurd (cc)
top_found (suc n) t v e = elim (weak_step t) as (λ o. weak_step t ≡ o → (s : Term) × ((elim o [ None ↦ Some t | Some r ↦ top_normal n r ]) ≡ Some s)) [
  | None ↦ λ p. (t, refl)
  | Some r ↦ λ p. top_found n r v (sym (ap (λ (o : Option Term). elim o as (λ z. Option Term) [ None ↦ Some t | Some x ↦ head_normal n x ]) (weak_head t r p)) ∙ e)
] refl

-- a look as a term
abbrev pub seen : Look → Term
seen (an_abs b) = abs b
seen (rigid h ts) = apply h ts
seen (flexible x l ts) = apply (atom (logic x l)) ts

looked_is : (t : Term) (ts : List Term) → seen (looked t ts) ≡ apply t ts
looked_is (index i) ts = refl
looked_is (atom (logic x l)) ts = refl
looked_is (atom (constant c us)) ts = refl
looked_is (atom (integer z)) ts = refl
looked_is (atom (text s)) ts = refl
looked_is (atom (eigen k)) ts = refl
looked_is (atom (param k u)) ts = refl
looked_is (abs b) [] = refl
looked_is (abs b) (t ∷ ts) = refl
looked_is (app f u) ts = looked_is f (u ∷ ts)

pub look_reduces : (n : ℕ) (t : Term) (v : Look) → look n t ≡ Some v → ReducesTo t (seen v)
look_reduces n t v e = elim (head_normal n t) as (λ o. head_normal n t ≡ o → option_map (λ s. looked s []) o ≡ Some v → ReducesTo t (seen v)) [
  | None ↦ λ p q. absurd (cc)
  | Some s ↦ λ p q. let r : looked s [] ≡ v = cc in transport (ReducesTo t) (sym (looked_is s []) ∙ ap seen r) (head_reduces n t s p)
] refl e

-- the beta-eta normal form
pub leftmost_steps : (t s : Term) → leftmost_step t ≡ Some s → Step t s
leftmost_steps (index i) s e = absurd (cc)
leftmost_steps (atom a) s e = absurd (cc)
leftmost_steps (abs b) s e = elim (leftmost_step b) as (λ o. leftmost_step b ≡ o → option_term abs o ≡ Some s → Step (abs b) s) [
  | None ↦ λ p q. absurd (cc)
  | Some c ↦ λ p q. let r : abs c ≡ s = cc in transport (Step (abs b)) r (in_abs (leftmost_steps b c p))
] refl e
leftmost_steps (app (abs b) u) s e = let r : substitute u b ≡ s = cc in transport (Step (app (abs b) u)) r (here (by_beta b u))
leftmost_steps (app (index i) u) s e = elim (leftmost_step u) as (λ o. leftmost_step u ≡ o → option_term (app (index i)) o ≡ Some s → Step (app (index i) u) s) [
  | None ↦ λ p q. absurd (cc)
  | Some c ↦ λ p q. let r : app (index i) c ≡ s = cc in transport (Step (app (index i) u)) r (in_argument (index i) (leftmost_steps u c p))
] refl e
leftmost_steps (app (atom a) u) s e = elim (leftmost_step u) as (λ o. leftmost_step u ≡ o → option_term (app (atom a)) o ≡ Some s → Step (app (atom a) u) s) [
  | None ↦ λ p q. absurd (cc)
  | Some c ↦ λ p q. let r : app (atom a) c ≡ s = cc in transport (Step (app (atom a) u)) r (in_argument (atom a) (leftmost_steps u c p))
] refl e
leftmost_steps (app (app t v) u) s e = elim (leftmost_step (app t v)) as (λ o. leftmost_step (app t v) ≡ o → or_else (option_term (λ x. app x u) o) (option_term (app (app t v)) (leftmost_step u)) ≡ Some s → Step (app (app t v) u) s) [
  | None ↦ λ p q. elim (leftmost_step u) as (λ o. leftmost_step u ≡ o → or_else None (option_term (app (app t v)) o) ≡ Some s → Step (app (app t v) u) s) [
    | None ↦ λ a b. absurd (cc)
    | Some c ↦ λ a b. let r : app (app t v) c ≡ s = cc in transport (Step (app (app t v) u)) r (in_argument (app t v) (leftmost_steps u c a))
  ] refl q
  | Some c ↦ λ p q. let r : app c u ≡ s = cc in transport (Step (app (app t v) u)) r (in_head u (leftmost_steps (app t v) c p))
] refl e

pub beta_reduces : (n : ℕ) (t s : Term) → beta_normal n t ≡ Some s → ReducesTo t s
beta_reduces zero t s e = absurd (cc)
beta_reduces (suc n) t s e = elim (leftmost_step t) as (λ o. leftmost_step t ≡ o → (elim o [ None ↦ Some t | Some r ↦ beta_normal n r ]) ≡ Some s → ReducesTo t s) [
  | None ↦ λ p q. let r : t ≡ s = cc in transport (ReducesTo t) r (done t)
  | Some r ↦ λ p q. then_step (leftmost_steps t r p) (beta_reduces n r s q)
] refl e

-- lowering where the index is absent, below k abstractions
abbrev lifts : ℕ → (ℕ → ℕ) → ℕ → ℕ
lifts zero ρ = ρ
lifts (suc k) ρ = lift (lifts k ρ)

lower : ℕ → ℕ
lower zero = zero
lower (suc i) = i

absent_index : (k i : ℕ) → not (nat_eq i k) ≡ true → lifts k suc (lifts k lower i) ≡ i
unfolding lower
absent_index zero zero h = absurd (grind (arith, nat_tests))
absent_index zero (suc i) h = refl
absent_index (suc k) zero h = refl
absent_index (suc k) (suc i) h = let q : not (nat_eq i k) ≡ true = grind (arith, nat_tests) in ap suc (absent_index k i q)

both_true : (a b : Bool) → (a && b) ≡ true → (a ≡ true) × (b ≡ true)
both_true true b h = (refl, h)
both_true false b h = absurd (cc)

absent_raised : (k : ℕ) (t : Term) → is_absent k t ≡ true → rename (lifts k suc) (rename (lifts k lower) t) ≡ t
absent_raised k (index i) h = ap index (absent_index k i h)
absent_raised k (atom a) h = refl
absent_raised k (abs b) h = ap abs (absent_raised (suc k) b h)
absent_raised k (app t u) h = let r = both_true (is_absent k t) (is_absent k u) h in app_same (absent_raised k t r.0) (absent_raised k u r.1)

instead_lower : (i : ℕ) → instead (index 0) i ≡ index (lower i)
unfolding lower
instead_lower zero = refl
instead_lower (suc i) = refl

as_lower : (x : Term) → subst (instead (index 0)) x ≡ rename lower x
as_lower x = ap (λ θ. subst θ x) (fun_ext instead_lower) ∙ sym (rename_as_subst lower x)

absent_is : (t : Term) → is_absent 0 t ≡ true → t ≡ shift 0 1 (substitute (index 0) t)
absent_is t h =
    let low : substitute (index 0) t ≡ rename lower t = substitute-subst (index 0) t ∙ as_lower t in
    sym (absent_raised 0 t h) ∙ sym (shift_one (substitute (index 0) t) ∙ ap (rename suc) low)

contracted_is : (b : Term) → Converts (abs b) (contracted b)
contracted_is (index i) = same (abs (index i))
contracted_is (atom a) = same (abs (atom a))
contracted_is (abs b) = same (abs (abs b))
contracted_is (app t (index zero)) = elim (is_absent 0 t) as (λ b. is_absent 0 t ≡ b → Converts (abs (app t (index zero))) (if b then substitute (index 0) t else abs (app t (index zero)))) [
  | true ↦ λ e. transport (λ x. Converts (abs (app x (index zero))) (substitute (index 0) t)) (sym (absent_is t e)) (converts_step (here (by_eta (substitute (index 0) t))))
  | false ↦ λ e. same (abs (app t (index zero)))
] refl
contracted_is (app t (index (suc i))) = same (abs (app t (index (suc i))))
contracted_is (app t (atom a)) = same (abs (app t (atom a)))
contracted_is (app t (abs b)) = same (abs (app t (abs b)))
contracted_is (app t (app u v)) = same (abs (app t (app u v)))

pub eta_normal_is : (t : Term) → Converts t (eta_normal t)
eta_normal_is (index i) = same (index i)
eta_normal_is (atom a) = same (atom a)
eta_normal_is (abs b) = converts_on (converts_abs (eta_normal_is b)) (contracted_is (eta_normal b))
eta_normal_is (app t u) = converts_app (eta_normal_is t) (eta_normal_is u)

eigen_of_is : (t : Term) (k : ℕ) → eigen_of t ≡ Some k → t ≡ atom (eigen k)
eigen_of_is (atom (eigen j)) k e = let r : j ≡ k = cc in ap (λ x. atom (eigen x)) r
eigen_of_is _ k e = absurd (cc)

pub as_eigen_is : (n : ℕ) (t : Term) (k : ℕ) → as_eigen n t ≡ Some (Some k) → Converts t (atom (eigen k))
as_eigen_is n t k e = elim (beta_normal n t) as (λ o. beta_normal n t ≡ o → option_map (λ s. eigen_of (eta_normal s)) o ≡ Some (Some k) → Converts t (atom (eigen k))) [
  | None ↦ λ p q. absurd (cc)
  | Some s ↦ λ p q. let r : eigen_of (eta_normal s) ≡ Some k = cc in
      converts_on (converts_reduces (beta_reduces n t s p)) (converts_on (eta_normal_is s) (converts_is (eigen_of_is (eta_normal s) k r)))
] refl e

pub converts_spine : {ts us : List Term} → ConvertAll ts us → {h g : Term} → Converts h g → Converts (apply h ts) (apply g us)
converts_spine convert_none c = c
converts_spine (convert_more d ds) c = converts_spine ds (converts_app c d)

pub as_eigens_is : (n : ℕ) (ts : List Term) (ks : List ℕ) → as_eigens n ts ≡ Some (Some ks) → ConvertAll ts (eigens ks)
as_eigens_is n [] [] e = convert_none
as_eigens_is n [] (k ∷ ks) e = absurd (cc)
as_eigens_is n (t ∷ ts) ks e = elim (as_eigen n t) as (λ o. as_eigen n t ≡ o → option_and_then (λ o'. elim o' [ None ↦ Some None | Some k ↦ option_map (option_map (λ js. k ∷ js)) (as_eigens n ts) ]) o ≡ Some (Some ks) → ConvertAll (t ∷ ts) (eigens ks)) [
  | None ↦ λ p q. absurd (cc)
  | Some None ↦ λ p q. absurd (cc)
  | Some (Some k) ↦ λ p q. elim (as_eigens n ts) as (λ r. as_eigens n ts ≡ r → option_map (option_map (λ js. k ∷ js)) r ≡ Some (Some ks) → ConvertAll (t ∷ ts) (eigens ks)) [
    | None ↦ λ a b. absurd (cc)
    | Some None ↦ λ a b. absurd (cc)
    | Some (Some js) ↦ λ a b. let r : k ∷ js ≡ ks = cc in transport (λ z. ConvertAll (t ∷ ts) (eigens z)) r (convert_more (as_eigen_is n t k p) (as_eigens_is n ts js a))
  ] refl q
] refl e

-- a pattern
pub record IsPattern (l : ℕ) (ts : List Term) (a : List ℕ) : Type 0 where
  pub arguments : ConvertAll ts (eigens a)
  pub distinct : are_distinct a ≡ true
  pub above : are_above l a ≡ true

pub pattern_tells : (n l : ℕ) (ts : List Term) (a : List ℕ) → pattern_of n l ts ≡ Some (Some a) → IsPattern l ts a
pattern_tells n l ts a e = elim (as_eigens n ts) as (λ o. as_eigens n ts ≡ o → option_map (only_if (λ ks. are_distinct ks && are_above l ks)) o ≡ Some (Some a) → IsPattern l ts a) [
  | None ↦ λ p q. absurd (cc)
  | Some None ↦ λ p q. absurd (cc)
  | Some (Some ks) ↦ λ p q. elim (are_distinct ks && are_above l ks) as (λ b. (are_distinct ks && are_above l ks) ≡ b → Some (if b then Some ks else None) ≡ Some (Some a) → IsPattern l ts a) [
    | false ↦ λ i j. absurd (cc)
    | true ↦ λ i j.
        let r : ks ≡ a = cc in
        let s = both_true (are_distinct ks) (are_above l ks) i in
        transport (IsPattern l ts) r (record { arguments = as_eigens_is n ts ks p; distinct = s.0; above = s.1 })
  ] refl q
] refl e
