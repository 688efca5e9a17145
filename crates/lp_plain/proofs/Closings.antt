-- A reading of the bindings goes past terms for indices: its values have no loose index.
use Rattle.std.proofs.Common.{◌≡◌, ℕ, zero, suc, ◌+◌, ◌<◌, ◌≤◌, refl, sym, ap, ◌∙◌, subst as transport, arith, Bool, true, false, nat_lt, if◌then◌else◌}
use Rattle.std.proofs.lemmas.Bool.{ltb-true, lt-ltb}
use Rattle.std.proofs.lemmas.Bool.Decides.{nat_tests}
use mathlib.Core.Path.{fun_ext}
use Rattle.lp_calculus.specs.Types.{Ty}
use Rattle.lp_calculus.specs.Term.{Term, Atom, index, atom, abs, app, shift, constant, integer, text, eigen, logic, param}
use Rattle.lp_calculus.specs.Fill.{fill, raise, at_variables}
use Rattle.lp_calculus.specs.Instance.{instance_atom, instance_term}
use Rattle.lp_term.specs.Spine.{LooseBelow}
use Rattle.lp_model.specs.Index.{lifted, instantiate}
use Rattle.lp_model.specs.Pair.{Closing, closed}
use Rattle.lp_pattern.specs.Stripping.{IsShut}
use Rattle.lp_plain.proofs.Mapped.{lifted_past}

-- a term that is not changed by raising its indices has none
raised_index : (d i : ℕ) (b : Bool) → nat_lt i d ≡ b → (if b then index i else index (i + 1)) ≡ index i → i < d + 0
raised_index d i true e h = let l = ltb-true i d e in omega (arith, l)
raised_index d i false e h = let q : i + 1 ≡ i = cc in absurd (omega (arith, q))

shut_loose : (d : ℕ) (t : Term) → shift d 1 t ≡ t → LooseBelow 0 d t
shut_loose d (index i) e = raised_index d i (nat_lt i d) refl e
shut_loose d (atom a) e = tt
shut_loose d (abs b) e = shut_loose (suc d) b (let q : shift (suc d) 1 b ≡ b = cc in q)
shut_loose d (app t u) e = (shut_loose d t (let q : shift d 1 t ≡ t = cc in q), shut_loose d u (let q : shift d 1 u ≡ u = cc in q))

pub index_lifted : (i : ℕ) → shift 0 1 (index i) ≡ index (suc i)
index_lifted i =
    let e : nat_lt i 0 ≡ false = grind (arith, nat_tests) in
    let q : i + 1 ≡ suc i = omega arith in
    ap (λ b. if b then index i else index (i + 1)) e ∙ ap index q

pub lifted_same : (d : ℕ) (σ : ℕ → Term) → ((i : ℕ) → i < d → σ i ≡ index i) → (i : ℕ) → i < suc d → lifted σ i ≡ index i
lifted_same d σ h zero l = refl
lifted_same d σ h (suc i) l = ap (shift 0 1) (h i (omega (arith, l))) ∙ index_lifted i

pub loose_same : (d : ℕ) (σ : ℕ → Term) → ((i : ℕ) → i < d → σ i ≡ index i) → (t : Term) → LooseBelow 0 d t → instantiate σ t ≡ t
loose_same d σ h (index i) l = h i (omega (arith, l))
loose_same d σ h (atom a) l = refl
loose_same d σ h (abs b) l = ap abs (loose_same (suc d) (lifted σ) (lifted_same d σ h) b l)
loose_same d σ h (app t u) l = let e = loose_same d σ h t l.0 in let f = loose_same d σ h u l.1 in cc

pub closed_stays : (σ : ℕ → Term) (t : Term) → LooseBelow 0 0 t → instantiate σ t ≡ t
closed_stays σ t l = loose_same 0 σ (λ i k. absurd (omega (arith, k))) t l

-- no index is raised
pub loose_raised : (d e : ℕ) (t : Term) → e ≤ d → LooseBelow 0 e t → shift d 1 t ≡ t
loose_raised d e (index i) m l = ap (λ b. if b then index i else index (i + 1)) (lt-ltb i d (omega (arith, m, l)))
loose_raised d e (atom a) m l = refl
loose_raised d e (abs b) m l = ap abs (loose_raised (suc d) (suc e) b (omega (arith, m)) l)
loose_raised d e (app t u) m l = let p = loose_raised d e t m l.0 in let q = loose_raised d e u m l.1 in λ i. app (p i) (q i)

-- values of a reading
value_stays : (z : Closing) → IsShut z → (σ : ℕ → Term) (a : Atom) → instantiate σ (at_variables z.terms a) ≡ at_variables z.terms a
value_stays z s σ (constant c ts) = refl
value_stays z s σ (integer n) = refl
value_stays z s σ (text b) = refl
value_stays z s σ (eigen k) = refl
value_stays z s σ (logic x l) = closed_stays σ (z.terms x l) (shut_loose 0 (z.terms x l) (s x l))
value_stays z s σ (param k t) = refl

raised_same : (z : Closing) → IsShut z → (a : Atom) → raise (at_variables z.terms) a ≡ at_variables z.terms a
raised_same z s (constant c ts) = refl
raised_same z s (integer n) = refl
raised_same z s (text b) = refl
raised_same z s (eigen k) = refl
raised_same z s (logic x l) = s x l
raised_same z s (param k t) = refl

pub body_under : (z : Closing) → IsShut z → (b : Term) → closed z (abs b) ≡ abs (closed z b)
body_under z s b = ap (λ f. abs (fill f (instance_term z.types b))) (fun_ext (raised_same z s))

-- raised indices
value_raised : (z : Closing) → IsShut z → (d : ℕ) (a : Atom) → shift d 1 (at_variables z.terms a) ≡ at_variables z.terms a
value_raised z s d (constant c ts) = refl
value_raised z s d (integer n) = refl
value_raised z s d (text b) = refl
value_raised z s d (eigen k) = refl
value_raised z s d (logic x l) = loose_raised d 0 (z.terms x l) (omega arith) (shut_loose 0 (z.terms x l) (s x l))
value_raised z s d (param k t) = refl

index_raised : (d i : ℕ) (b : Bool) → nat_lt i d ≡ b → (z : Closing) → closed z (if b then index i else index (i + 1)) ≡ (if b then index i else index (i + 1))
index_raised d i true e z = refl
index_raised d i false e z = refl

pub shifted_under : (z : Closing) → IsShut z → (d : ℕ) (t : Term) → closed z (shift d 1 t) ≡ shift d 1 (closed z t)
shifted_under z s d (index i) = index_raised d i (nat_lt i d) refl z
shifted_under z s d (atom a) = sym (value_raised z s d (instance_atom z.types a))
shifted_under z s d (abs b) = body_under z s (shift (suc d) 1 b) ∙ ap abs (shifted_under z s (suc d) b) ∙ ap (shift d 1) (sym (body_under z s b))
shifted_under z s d (app t u) = let e = shifted_under z s d t in let f = shifted_under z s d u in λ i. app (e i) (f i)

-- below an abstraction
lifted_under : (z : Closing) → IsShut z → (σ : ℕ → Term) (i : ℕ) → closed z (lifted σ i) ≡ lifted (λ j. closed z (σ j)) i
lifted_under z s σ zero = refl
lifted_under z s σ (suc i) = shifted_under z s 0 (σ i)

-- a term with terms for its indices, as the bindings read it
pub instance_under : (z : Closing) → IsShut z → (σ : ℕ → Term) (t : Term) → closed z (instantiate σ t) ≡ instantiate (λ i. closed z (σ i)) (closed z t)
instance_under z s σ (index i) = refl
instance_under z s σ (atom a) = sym (value_stays z s (λ i. closed z (σ i)) (instance_atom z.types a))
instance_under z s σ (abs b) =
    body_under z s (instantiate (lifted σ) b) ∙ ap abs (instance_under z s (lifted σ) b ∙ ap (λ τ. instantiate τ (closed z b))
    (fun_ext (lifted_under z s σ))) ∙ ap (instantiate (λ i. closed z (σ i))) (sym (body_under z s b))
instance_under z s σ (app t u) = let e = instance_under z s σ t in let f = instance_under z s σ u in λ i. app (e i) (f i)

-- no loose index comes by a reading
pub loose_more : (n d e : ℕ) (t : Term) → d ≤ n + e → LooseBelow 0 d t → LooseBelow n e t
loose_more n d e (index i) m l = omega (arith, m, l)
loose_more n d e (atom a) m l = tt
loose_more n d e (abs b) m l = loose_more n (suc d) (suc e) b (omega (arith, m)) l
loose_more n d e (app t u) m l = (loose_more n d e t m l.0, loose_more n d e u m l.1)

value_loose : (z : Closing) → IsShut z → (n d : ℕ) (a : Atom) → LooseBelow n d (at_variables z.terms a)
value_loose z s n d (constant c ts) = tt
value_loose z s n d (integer k) = tt
value_loose z s n d (text b) = tt
value_loose z s n d (eigen k) = tt
value_loose z s n d (logic x l) = loose_more n 0 d (z.terms x l) (omega arith) (shut_loose 0 (z.terms x l) (s x l))
value_loose z s n d (param k t) = tt

pub closed_loose : (z : Closing) → IsShut z → (n d : ℕ) (t : Term) → LooseBelow n d t → LooseBelow n d (closed z t)
closed_loose z s n d (index i) l = l
closed_loose z s n d (atom a) l = value_loose z s n d (instance_atom z.types a)
closed_loose z s n d (abs b) l = transport (LooseBelow n d) (sym (body_under z s b)) (closed_loose z s n (suc d) b l)
closed_loose z s n d (app t u) l = (closed_loose z s n d t l.0, closed_loose z s n d u l.1)

pub typed_loose : (θ : ℕ → Ty) (n d : ℕ) (t : Term) → LooseBelow n d t → LooseBelow n d (instance_term θ t)
typed_loose θ n d (index i) l = l
typed_loose θ n d (atom a) l = tt
typed_loose θ n d (abs b) l = typed_loose θ n (suc d) b l
typed_loose θ n d (app t u) l = (typed_loose θ n d t l.0, typed_loose θ n d u l.1)

-- values in which values are put, for the indices that a term has
lifted_fused : (m : ℕ) (σ τ ρ : ℕ → Term) → ((i : ℕ) → i < m → instantiate τ (σ i) ≡ ρ i) → (i : ℕ) → i < suc m → instantiate (lifted τ) (lifted σ i) ≡ lifted ρ i
lifted_fused m σ τ ρ h zero l = refl
lifted_fused m σ τ ρ h (suc i) l = lifted_past τ (σ i) ∙ ap (shift 0 1) (h i (omega (arith, l)))

fused_at : (n d m : ℕ) (σ τ ρ : ℕ → Term) → m ≡ d + n → ((i : ℕ) → i < m → instantiate τ (σ i) ≡ ρ i) → (t : Term) → LooseBelow n d t → instantiate τ (instantiate σ t) ≡ instantiate ρ t
fused_at n d m σ τ ρ q h (index i) l = h i (transport (λ k. i < k) (sym q) l)
fused_at n d m σ τ ρ q h (atom a) l = refl
fused_at n d m σ τ ρ q h (abs b) l = ap abs (fused_at n (suc d) (suc m) (lifted σ) (lifted τ) (lifted ρ) (omega (arith, q)) (lifted_fused m σ τ ρ h) b l)
fused_at n d m σ τ ρ q h (app t u) l = let e = fused_at n d m σ τ ρ q h t l.0 in let f = fused_at n d m σ τ ρ q h u l.1 in λ i. app (e i) (f i)

-- a clause's term with the values around it, then those of its own variables, as the bindings read it
pub both_under : (z : Closing) → IsShut z → (n : ℕ) (τ ρ σ : ℕ → Term) → ((i : ℕ) → i < n → instantiate σ (closed z (τ i)) ≡ closed z (ρ i)) →
    (u : Term) → LooseBelow n 0 u → instantiate σ (closed z (instantiate τ u)) ≡ closed z (instantiate ρ u)
both_under z s n τ ρ σ h u l =
    ap (instantiate σ) (instance_under z s τ u) ∙ fused_at n 0 n (λ i. closed z (τ i)) σ (λ i. closed z (ρ i)) (omega arith) h (closed z u) (closed_loose z s n 0 u l) ∙ sym (instance_under z s ρ u)
