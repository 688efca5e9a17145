-- Pattern terms under reduction.
use Rattle.std.proofs.Common.{◌≡◌, ℕ, zero, suc, refl, sym, ap, ◌∙◌, subst as transport}
use Rattle.lp_calculus.specs.Term.{Term, index, atom, abs, app, Atom, eigen}
use Rattle.lp_calculus.specs.Convert.{here, in_abs, in_head, in_argument, by_beta, by_eta, ReducesTo, done, then_step}
use Rattle.lp_calculus.proofs.BetaEta.{shift_one}
use Rattle.lp_calculus.proofs.Steps.{Step}
use Rattle.lp_calculus.proofs.Sigma.{lift, rename, subst, instead}
use Rattle.lp_calculus.proofs.Plain.{substitute-subst}
use Rattle.lp_pattern_laws.specs.Patterns.{Name, bound, free, under, IsNewToIndex, IsNewToAtom, IsNewTo, Names, an_index, an_eigen, expanded, IsRigidAtom, IsRigid, rigid_atom, rigid_name, rigid_on, IsPatternTerm, of_index, of_atom, of_abs, rigid, on_name}
use Rattle.lp_pattern_laws.proofs.Naming.{renamed, renamed_suc, under_renamed, same_under, under_not, new_below_index, new_below_atom, other_new, at, names_at}
use Rattle.lp_pattern_laws.proofs.Renamed.{Sends, image, new_put, Puts, names_pattern, pattern_put, pattern_at}

-- a name for the first index
abbrev instead_of : Name → ℕ → Name
instead_of n zero = n
instead_of n (suc i) = bound i

module _ (n : Name) (u : Term) (p : Names n u) where
  puts_names : (i : ℕ) → Names (instead_of n i) (instead u i)
  puts_names zero = p
  puts_names (suc i) = an_index i

  -- another name is sent to another one
  sent_apart : (m : Name) → (m ≡ under n → ⊥) → (m ≡ bound 0 → ⊥) → n ≡ image (instead_of n) m → ⊥
  sent_apart (bound zero) k l e = l refl
  sent_apart (bound (suc j)) k l e = k (ap under (sym e))
  sent_apart (free j) k l e = k (ap under (sym e))

  not_first : (m : Name) → IsNewToIndex m 0 → m ≡ bound 0 → ⊥
  not_first (bound zero) h e = h refl
  not_first (bound (suc j)) h e = cc
  not_first (free j) h e = cc

  sent_index : (m : Name) (i : ℕ) → IsNewToIndex m (suc i) → IsNewToIndex (under n) (suc i) → IsNewToIndex (image (instead_of n) m) i
  sent_index (bound zero) i h k = new_below_index n i k
  sent_index (bound (suc j)) i h k = λ e. h (ap suc e)
  sent_index (free j) i h k = tt

  sent_atom : (m : Name) (a : Atom) → IsNewToAtom m a → IsNewToAtom (under n) a → IsNewToAtom (image (instead_of n) m) a
  sent_atom (bound zero) a h k = new_below_atom n a k
  sent_atom (bound (suc j)) a h k = tt
  sent_atom (free j) a h k = h

  pub puts_instead : Puts (instead u) (instead_of n) (under n)
  puts_instead = record { names = puts_names; apart = apart }
    where
      apart : (m : Name) → (m ≡ under n → ⊥) → Sends (instead u) m (under n) (image (instead_of n) m)
      apart m k = record { indices = go; atoms = sent_atom m }
        where
          go : (i : ℕ) → IsNewToIndex m i → IsNewToIndex (under n) i → IsNewTo (image (instead_of n) m) (instead u i)
          go zero h l = other_new p (image (instead_of n) m) (sent_apart m k (not_first m h))
          go (suc i) h l = sent_index m i h l

-- what is a name on a pattern term
named_at : (n : Name) (u : Term) → Names n (at (instead u) (under n))
named_at (bound i) u = an_index i
named_at (free k) u = an_eigen k

-- a contraction
pub beta_pattern : (b u : Term) → IsPatternTerm (app (abs b) u) → IsPatternTerm (subst (instead u) b)
beta_pattern b u (on_name {n = n} (of_abs p) q new) = pattern_put (instead u) (instead_of n) (under n) (puts_instead n u q) p new
beta_pattern b u (rigid (rigid_name (expanded {n = n} {f = f} {u = e} p q)) r s) =
    let named = names_at (instead u) p n (named_at n u) in
    rigid (rigid_name named) (names_pattern named) (pattern_at (instead u) q s)

pub beta_rigid : (b u : Term) → IsRigid (abs b) → IsRigid (subst (instead u) b)
beta_rigid b u (rigid_name (expanded {n = n} {f = f} {u = e} p q)) = rigid_on (rigid_name (names_at (instead u) p n (named_at n u)))

-- a new name stays new
module _ (n : Name) (u : Term) (new : IsNewTo n u) where
  stays_new : (b : Term) → IsNewTo (under n) b → IsNewTo n (subst (instead u) b)
  stays_new b h = new_put (instead u) (under n) (under n) n (record { indices = go; atoms = λ a k l. new_below_atom n a k }) b h h
    where
      go : (i : ℕ) → IsNewToIndex (under n) i → IsNewToIndex (under n) i → IsNewTo n (instead u i)
      go zero k l = new
      go (suc i) k l = new_below_index n i k

-- what a renamed term is, the term was
from_lift : (ρ : ℕ → ℕ) (n m : Name) → under n ≡ renamed (lift ρ) m → (k : Name) × (m ≡ under k) × (n ≡ renamed ρ k)
from_lift ρ n (bound zero) e = absurd (under_not n e)
from_lift ρ n (bound (suc i)) e = (bound i, refl, same_under n (bound (ρ i)) e)
from_lift ρ n (free j) e = (free j, refl, same_under n (free j) e)

first_lift : (ρ : ℕ → ℕ) (m : Name) → bound 0 ≡ renamed (lift ρ) m → m ≡ bound 0
first_lift ρ (bound zero) e = refl
first_lift ρ (bound (suc i)) e = absurd (cc)
first_lift ρ (free j) e = absurd (cc)

names_unrenamed : {m : Name} {s : Term} → Names m s → (ρ : ℕ → ℕ) (t : Term) → s ≡ rename ρ t → (n : Name) × Names n t × (m ≡ renamed ρ n)
names_unrenamed (an_index j) ρ (index i) e = let q : j ≡ ρ i = cc in (bound i, an_index i, ap bound q)
names_unrenamed (an_index j) ρ _ e = absurd (cc)
names_unrenamed (an_eigen k) ρ (atom a) e = let q : eigen k ≡ a = cc in (free k, transport (λ x. Names (free k) (atom x)) q (an_eigen k), refl)
names_unrenamed (an_eigen k) ρ _ e = absurd (cc)
names_unrenamed (expanded {n = n} {f = f} {u = u} p q) ρ (abs (app g v)) e =
    let e₁ : f ≡ rename (lift ρ) g = cc in
    let e₂ : u ≡ rename (lift ρ) v = cc in
    let (m, a, i) = names_unrenamed p (lift ρ) g e₁ in
    let (l, b, j) = names_unrenamed q (lift ρ) v e₂ in
    let (k, is, at_k) = from_lift ρ n m i in
    (k, expanded (transport (λ x. Names x g) is a) (transport (λ x. Names x v) (first_lift ρ l j) b), at_k)
names_unrenamed (expanded p q) ρ _ e = absurd (cc)

new_unrenamed : (ρ : ℕ → ℕ) (n : Name) (t : Term) → IsNewTo (renamed ρ n) (rename ρ t) → IsNewTo n t
new_unrenamed ρ (bound j) (index i) h = λ e. h (ap ρ e)
new_unrenamed ρ (free k) (index i) h = tt
new_unrenamed ρ (bound j) (atom a) h = tt
new_unrenamed ρ (free k) (atom a) h = h
new_unrenamed ρ n (abs b) h = new_unrenamed (lift ρ) (under n) b (transport (λ m. IsNewTo m (rename (lift ρ) b)) (sym (under_renamed ρ n)) h)
new_unrenamed ρ n (app t u) h = (new_unrenamed ρ n t h.0, new_unrenamed ρ n u h.1)

rigid_unrenamed : {s : Term} → IsRigid s → (ρ : ℕ → ℕ) (t : Term) → s ≡ rename ρ t → IsRigid t
rigid_unrenamed (rigid_atom a r) ρ (atom b) e = let q : a ≡ b = cc in rigid_atom b (transport IsRigidAtom q r)
rigid_unrenamed (rigid_atom a r) ρ _ e = absurd (cc)
rigid_unrenamed (rigid_name p) ρ t e = rigid_name (names_unrenamed p ρ t e).1
rigid_unrenamed (rigid_on {t = f} r) ρ (app g v) e = let q : f ≡ rename ρ g = cc in rigid_on (rigid_unrenamed r ρ g q)
rigid_unrenamed (rigid_on r) ρ _ e = absurd (cc)

pattern_unrenamed : {s : Term} → IsPatternTerm s → (ρ : ℕ → ℕ) (t : Term) → s ≡ rename ρ t → IsPatternTerm t
pattern_unrenamed (of_index j) ρ (index i) e = of_index i
pattern_unrenamed (of_index j) ρ _ e = absurd (cc)
pattern_unrenamed (of_atom a) ρ (atom b) e = of_atom b
pattern_unrenamed (of_atom a) ρ _ e = absurd (cc)
pattern_unrenamed (of_abs {b = b} p) ρ (abs c) e = let q : b ≡ rename (lift ρ) c = cc in of_abs (pattern_unrenamed p (lift ρ) c q)
pattern_unrenamed (of_abs p) ρ _ e = absurd (cc)
pattern_unrenamed (rigid {t = f} {u = x} r p q) ρ (app g v) e =
    let e₁ : f ≡ rename ρ g = cc in
    let e₂ : x ≡ rename ρ v = cc in
    rigid (rigid_unrenamed r ρ g e₁) (pattern_unrenamed p ρ g e₁) (pattern_unrenamed q ρ v e₂)
pattern_unrenamed (rigid r p q) ρ _ e = absurd (cc)
pattern_unrenamed (on_name {n = n} {t = f} {u = x} p q new) ρ (app g v) e =
    let e₁ : f ≡ rename ρ g = cc in
    let e₂ : x ≡ rename ρ v = cc in
    let (m, named, is) = names_unrenamed q ρ v e₂ in
    on_name (pattern_unrenamed p ρ g e₁) named (new_unrenamed ρ m g (transport (λ y. IsNewTo y (rename ρ g)) is (transport (IsNewTo n) e₁ new)))
pattern_unrenamed (on_name p q new) ρ _ e = absurd (cc)

names_lowered : (m : Name) (t : Term) → Names (under m) (rename suc t) → Names m t
names_lowered m t p =
    let (n, named, is) = names_unrenamed p suc t refl in
    transport (λ x. Names x t) (same_under n m (sym (renamed_suc n) ∙ sym is)) named

-- a step in a name, of what is new, of a rigid head, and in a pattern term
mutual
  pub names_step : {t s : Term} → Step t s → {m : Name} → Names m t → Names m s
  names_step (here (by_beta b u)) p = elim p [ ]
  names_step (here (by_eta t)) {m = m} (expanded p q) = names_lowered m t (transport (Names (under m)) (shift_one t) p)
  names_step (in_abs s) {m = m} (expanded p q) = inside_step s m refl p q
  names_step (in_head u s) p = elim p [ ]
  names_step (in_argument t s) p = elim p [ ]

  inside_step : {f u c : Term} → Step (app f u) c → (m : Name) → {k : Name} → k ≡ under m → Names k f → Names (bound 0) u → Names m (abs c)
  inside_step (here (by_beta b u)) m {k = k} e (expanded {f = g} {u = x} p r) q =
      transport (λ y. Names m (abs y)) (sym (substitute-subst u (app g x)))
      (expanded (transport (λ n. Names n (subst (instead u) g)) e (names_at (instead u) p k (named_at k u))) (names_at (instead u) r (bound 0) q))
  inside_step {f = f} (in_head {s = g} u s) m e p q = expanded (transport (λ n. Names n g) e (names_step s p)) q
  inside_step {f = f} (in_argument t s) m e p q = expanded (transport (λ n. Names n f) e p) (names_step s q)

pub new_step : {t s : Term} → Step t s → (n : Name) → IsNewTo n t → IsNewTo n s
new_step (here (by_beta b u)) n h = transport (IsNewTo n) (sym (substitute-subst u b)) (stays_new n u h.1 b h.0)
new_step (here (by_eta t)) n h = new_unrenamed suc n t (transport (λ m. IsNewTo m (rename suc t)) (sym (renamed_suc n)) (transport (IsNewTo (under n)) (shift_one t) h.0))
new_step (in_abs s) n h = new_step s (under n) h
new_step (in_head u s) n h = (new_step s n h.0, h.1)
new_step (in_argument t s) n h = (h.0, new_step s n h.1)

body_pattern : {b : Term} → IsPatternTerm (abs b) → IsPatternTerm b
body_pattern (of_abs p) = p

pub front_pattern : {t u : Term} → IsPatternTerm (app t u) → IsPatternTerm t
front_pattern (rigid r p q) = p
front_pattern (on_name p q new) = p

rigid_step : {t s : Term} → Step t s → IsRigid t → IsRigid s
rigid_step p (rigid_name q) = rigid_name (names_step p q)
rigid_step (here x) (rigid_atom a r) = elim x [ ]
rigid_step (here (by_beta b u)) (rigid_on r) = transport IsRigid (sym (substitute-subst u b)) (beta_rigid b u r)
rigid_step (in_head u s) (rigid_on r) = rigid_on (rigid_step s r)
rigid_step (in_argument t s) (rigid_on r) = rigid_on r

applied_step : {f c x : Term} → IsPatternTerm (app f x) → (IsPatternTerm f → IsPatternTerm c) → (IsRigid f → IsRigid c) → ((n : Name) → IsNewTo n f → IsNewTo n c) → IsPatternTerm (app c x)
applied_step (rigid r p q) f g k = rigid (g r) (f p) q
applied_step (on_name {n = n} p q new) f g k = on_name (f p) q (k n new)

argument_step : {f x y : Term} → IsPatternTerm (app f x) → (IsPatternTerm x → IsPatternTerm y) → ((n : Name) → Names n x → Names n y) → IsPatternTerm (app f y)
argument_step (rigid r p q) f g = rigid r p (f q)
argument_step (on_name {n = n} p q new) f g = on_name p (g n q) new

pub pattern_step : {t s : Term} → Step t s → IsPatternTerm t → IsPatternTerm s
pattern_step (here (by_beta b u)) h = transport IsPatternTerm (sym (substitute-subst u b)) (beta_pattern b u h)
pattern_step (here (by_eta t)) h = pattern_unrenamed (transport IsPatternTerm (shift_one t) (front_pattern (body_pattern h))) suc t refl
pattern_step (in_abs s) h = of_abs (pattern_step s (body_pattern h))
pattern_step (in_head u s) h = applied_step h (pattern_step s) (rigid_step s) (new_step s)
pattern_step (in_argument t s) h = argument_step h (pattern_step s) (λ n q. names_step s q)

pub pattern_reduces : {t s : Term} → ReducesTo t s → IsPatternTerm t → IsPatternTerm s
pattern_reduces (done t) h = h
pattern_reduces (then_step p ps) h = pattern_reduces ps (pattern_step p h)
