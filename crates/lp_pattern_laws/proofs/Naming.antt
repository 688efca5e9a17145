-- Names under renamings and substitutions.
use Rattle.std.proofs.Common.{◌≡◌, ℕ, zero, suc, refl, sym, ap, subst as transport}
use Rattle.lp_calculus.specs.Term.{Term, index, atom, abs, app, Atom, eigen}
use Rattle.lp_calculus.proofs.Sigma.{lift, rename, up, subst}
use Rattle.lp_pattern_laws.specs.Patterns.{Name, bound, free, under, IsNewToIndex, IsNewToAtom, IsNewTo, Names, an_index, an_eigen, expanded}

-- a name under a renaming
abbrev pub renamed : (ℕ → ℕ) → Name → Name
renamed ρ (bound i) = bound (ρ i)
renamed ρ (free k) = free k

pub under_renamed : (ρ : ℕ → ℕ) (n : Name) → renamed (lift ρ) (under n) ≡ under (renamed ρ n)
under_renamed ρ (bound i) = refl
under_renamed ρ (free k) = refl

pub renamed_suc : (n : Name) → renamed suc n ≡ under n
renamed_suc (bound i) = refl
renamed_suc (free k) = refl

pub names_renamed : (ρ : ℕ → ℕ) {n : Name} {t : Term} → Names n t → Names (renamed ρ n) (rename ρ t)
names_renamed ρ (an_index i) = an_index (ρ i)
names_renamed ρ (an_eigen k) = an_eigen k
names_renamed ρ (expanded {n = n} {f = f} p q) =
    expanded (transport (λ m. Names m (rename (lift ρ) f)) (under_renamed ρ n) (names_renamed (lift ρ) p)) (names_renamed (lift ρ) q)

pub names_raised : {n : Name} {t : Term} → Names n t → Names (under n) (rename suc t)
names_raised {n = n} {t = t} p = transport (λ m. Names m (rename suc t)) (renamed_suc n) (names_renamed suc p)

-- what is new below an abstraction
pub same_under : (m n : Name) → under m ≡ under n → m ≡ n
same_under (bound i) (bound j) e = let q : i ≡ j = cc in ap bound q
same_under (bound i) (free k) e = absurd (cc)
same_under (free k) (bound j) e = absurd (cc)
same_under (free k) (free j) e = let q : k ≡ j = cc in ap free q

pub under_not : (n : Name) → under n ≡ bound 0 → ⊥
under_not (bound i) e = cc
under_not (free k) e = cc

pub new_under_index : (n : Name) (i : ℕ) → IsNewToIndex n i → IsNewToIndex (under n) (suc i)
new_under_index (bound j) i h = λ e. h (let q : i ≡ j = cc in q)
new_under_index (free k) i h = tt

pub new_below_index : (n : Name) (i : ℕ) → IsNewToIndex (under n) (suc i) → IsNewToIndex n i
new_below_index (bound j) i h = λ e. h (ap suc e)
new_below_index (free k) i h = tt

pub new_first : (n : Name) → IsNewToIndex (under n) 0
new_first (bound j) = λ e. cc
new_first (free k) = tt

pub new_under_atom : (n : Name) (a : Atom) → IsNewToAtom n a → IsNewToAtom (under n) a
new_under_atom (bound j) a h = tt
new_under_atom (free k) a h = h

pub new_below_atom : (n : Name) (a : Atom) → IsNewToAtom (under n) a → IsNewToAtom n a
new_below_atom (bound j) a h = tt
new_below_atom (free k) a h = h

-- the only name in what is a name is it
pub other_new : {m : Name} {t : Term} → Names m t → (p : Name) → (m ≡ p → ⊥) → IsNewTo p t
other_new (an_index i) (bound j) h = λ e. h (ap bound e)
other_new (an_index i) (free k) h = tt
other_new (an_eigen k) (bound j) h = tt
other_new (an_eigen k) (free j) h = λ e. h (ap free e)
other_new (expanded {n = n} p q) m h = (other_new p (under m) (λ e. h (same_under n m e)), other_new q (under m) (λ e. under_not m (sym e)))

pub own_not_new : {m : Name} {t : Term} → Names m t → (p : Name) → IsNewTo p t → m ≡ p → ⊥
own_not_new (an_index i) (bound j) h e = h (let q : i ≡ j = cc in q)
own_not_new (an_index i) (free k) h e = cc
own_not_new (an_eigen k) (bound j) h e = cc
own_not_new (an_eigen k) (free j) h e = h (let q : k ≡ j = cc in q)
own_not_new (expanded p q) m h e = own_not_new p (under m) h.0 (ap under e)

-- what renaming makes of what is new
pub record Sends (ρ : ℕ → ℕ) (m p : Name) : Type 0 where
  pub indices : (i : ℕ) → IsNewToIndex m i → IsNewToIndex p (ρ i)
  pub atoms : (a : Atom) → IsNewToAtom m a → IsNewToAtom p a

sends_lift : (ρ : ℕ → ℕ) (m p : Name) → Sends ρ m p → Sends (lift ρ) (under m) (under p)
sends_lift ρ m p h = record { indices = go; atoms = λ a n. new_under_atom p a (h.atoms a (new_below_atom m a n)) }
  where
    go : (i : ℕ) → IsNewToIndex (under m) i → IsNewToIndex (under p) (lift ρ i)
    go zero n = new_first p
    go (suc i) n = new_under_index p (ρ i) (h.indices i (new_below_index m i n))

pub new_renamed : (ρ : ℕ → ℕ) (m p : Name) → Sends ρ m p → (t : Term) → IsNewTo m t → IsNewTo p (rename ρ t)
new_renamed ρ m p h (index i) n = h.indices i n
new_renamed ρ m p h (atom a) n = h.atoms a n
new_renamed ρ m p h (abs b) n = new_renamed (lift ρ) (under m) (under p) (sends_lift ρ m p h) b n
new_renamed ρ m p h (app t u) n = (new_renamed ρ m p h t n.0, new_renamed ρ m p h u n.1)

pub new_raised : (n : Name) (t : Term) → IsNewTo n t → IsNewTo (under n) (rename suc t)
new_raised n t h = new_renamed suc n (under n) (record { indices = λ i k. new_under_index n i k; atoms = λ a k. new_under_atom n a k }) t h

-- the index that raising leaves out
abbrev lifts : ℕ → (ℕ → ℕ) → ℕ → ℕ
lifts zero ρ = ρ
lifts (suc k) ρ = lift (lifts k ρ)

left_out : (k i : ℕ) → lifts k suc i ≡ k → ⊥
left_out zero i e = cc
left_out (suc k) zero e = cc
left_out (suc k) (suc i) e = left_out k i (let q : lifts k suc i ≡ k = cc in q)

out_new : (k : ℕ) (t : Term) → IsNewTo (bound k) (rename (lifts k suc) t)
out_new k (index i) = left_out k i
out_new k (atom a) = tt
out_new k (abs b) = out_new (suc k) b
out_new k (app t u) = (out_new k t, out_new k u)

pub first_new : (t : Term) → IsNewTo (bound 0) (rename suc t)
first_new t = out_new 0 t

-- what a substitution has at a name
abbrev pub at : (ℕ → Term) → Name → Term
at σ (bound i) = σ i
at σ (free k) = atom (eigen k)

pub at_under : (σ : ℕ → Term) (n : Name) → at (up σ) (under n) ≡ rename suc (at σ n)
at_under σ (bound i) = refl
at_under σ (free k) = refl

pub names_at : (σ : ℕ → Term) {n : Name} {t : Term} → Names n t → (p : Name) → Names p (at σ n) → Names p (subst σ t)
names_at σ (an_index i) p h = h
names_at σ (an_eigen k) p h = h
names_at σ (expanded {n = n} q r) p h =
    expanded (names_at (up σ) q (under p) (transport (Names (under p)) (sym (at_under σ n)) (names_raised h))) (names_at (up σ) r (bound 0) (an_index 0))

pub new_at : (σ : ℕ → Term) {n : Name} {t : Term} → Names n t → (p : Name) → IsNewTo p (at σ n) → IsNewTo p (subst σ t)
new_at σ (an_index i) p h = h
new_at σ (an_eigen k) p h = h
new_at σ (expanded {n = n} q r) p h = (
  new_at (up σ) q (under p) (transport (IsNewTo (under p)) (sym (at_under σ n)) (new_raised p (at σ n) h)),
  new_at (up σ) r (under p) (new_first p),
)
