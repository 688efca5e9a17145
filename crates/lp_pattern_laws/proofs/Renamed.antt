-- Pattern terms where names are put for indices, no two the same.
use Rattle.std.proofs.Common.{◌≡◌, ℕ, zero, suc, refl, sym, ap, subst as transport}
use Rattle.lp_calculus.specs.Term.{Term, index, atom, abs, app, Atom, eigen}
use Rattle.lp_calculus.proofs.Sigma.{lift, rename, up, subst}
use Rattle.lp_pattern_laws.specs.Patterns.{Name, bound, free, under, IsNewToIndex, IsNewToAtom, IsNewTo, Names, an_index, an_eigen, expanded, IsRigid, rigid_atom, rigid_name, rigid_on, IsPatternTerm, of_index, of_atom, of_abs, rigid, on_name}
use Rattle.lp_pattern_laws.proofs.Naming as naming
use Rattle.lp_pattern_laws.proofs.Naming.{renamed, names_renamed, names_raised, same_under, under_not, new_under_index, new_below_index, new_first, new_under_atom, new_below_atom, other_new, own_not_new, new_raised, first_new, at, names_at, new_at}

-- what is a name is a pattern term
pub names_pattern : {n : Name} {t : Term} → Names n t → IsPatternTerm t
names_pattern (an_index i) = of_index i
names_pattern (an_eigen k) = of_atom (eigen k)
names_pattern (expanded {n = n} p q) = of_abs (on_name (names_pattern p) q (other_new p (bound 0) (under_not n)))

-- what a substitution makes of what is new, where one name is new anyway
pub record Sends (σ : ℕ → Term) (m b p : Name) : Type 0 where
  pub indices : (i : ℕ) → IsNewToIndex m i → IsNewToIndex b i → IsNewTo p (σ i)
  pub atoms : (a : Atom) → IsNewToAtom m a → IsNewToAtom b a → IsNewToAtom p a

sends_up : (σ : ℕ → Term) (m b p : Name) → Sends σ m b p → Sends (up σ) (under m) (under b) (under p)
sends_up σ m b p h = record { indices = go; atoms = λ a n k. new_under_atom p a (h.atoms a (new_below_atom m a n) (new_below_atom b a k)) }
  where
    go : (i : ℕ) → IsNewToIndex (under m) i → IsNewToIndex (under b) i → IsNewTo (under p) (up σ i)
    go zero n k = new_first p
    go (suc i) n k = new_raised p (σ i) (h.indices i (new_below_index m i n) (new_below_index b i k))

pub new_put : (σ : ℕ → Term) (m b p : Name) → Sends σ m b p → (t : Term) → IsNewTo m t → IsNewTo b t → IsNewTo p (subst σ t)
new_put σ m b p h (index i) n k = h.indices i n k
new_put σ m b p h (atom a) n k = h.atoms a n k
new_put σ m b p h (abs c) n k = new_put (up σ) (under m) (under b) (under p) (sends_up σ m b p h) c n k
new_put σ m b p h (app t u) n k = (new_put σ m b p h t n.0 k.0, new_put σ m b p h u n.1 k.1)

-- the names that a substitution puts for names
abbrev pub image : (ℕ → Name) → Name → Name
image ν (bound i) = ν i
image ν (free k) = free k

abbrev pub lifted : (ℕ → Name) → ℕ → Name
lifted ν zero = bound 0
lifted ν (suc i) = under (ν i)

-- names for indices, no two the same but for one name that stands nowhere
pub record Puts (σ : ℕ → Term) (ν : ℕ → Name) (b : Name) : Type 0 where
  pub names : (i : ℕ) → Names (ν i) (σ i)
  pub apart : (m : Name) → (m ≡ b → ⊥) → Sends σ m b (image ν m)

puts_up : (σ : ℕ → Term) (ν : ℕ → Name) (b : Name) → Puts σ ν b → Puts (up σ) (lifted ν) (under b)
puts_up σ ν b h = record { names = names; apart = apart }
  where
    names : (i : ℕ) → Names (lifted ν i) (up σ i)
    names zero = an_index 0
    names (suc i) = names_raised (h.names i)

    first : (i : ℕ) → IsNewToIndex (bound 0) i → IsNewToIndex (under b) i → IsNewTo (bound 0) (up σ i)
    first zero n k = absurd (n refl)
    first (suc i) n k = first_new (σ i)

    apart : (m : Name) → (m ≡ under b → ⊥) → Sends (up σ) m (under b) (image (lifted ν) m)
    apart (bound zero) n = record { indices = first; atoms = λ a k l. tt }
    apart (bound (suc i)) n = sends_up σ (bound i) b (ν i) (h.apart (bound i) (λ e. n (ap under e)))
    apart (free k) n = sends_up σ (free k) b (free k) (h.apart (free k) (λ e. n (ap under e)))

at_image : (σ : ℕ → Term) (ν : ℕ → Name) (b : Name) → Puts σ ν b → (n : Name) → Names (image ν n) (at σ n)
at_image σ ν b h (bound i) = h.names i
at_image σ ν b h (free k) = an_eigen k

pub rigid_put : (σ : ℕ → Term) (ν : ℕ → Name) (b : Name) → Puts σ ν b → {t : Term} → IsRigid t → IsRigid (subst σ t)
rigid_put σ ν b h (rigid_atom a r) = rigid_atom a r
rigid_put σ ν b h (rigid_name {n = n} p) = rigid_name (names_at σ p (image ν n) (at_image σ ν b h n))
rigid_put σ ν b h (rigid_on r) = rigid_on (rigid_put σ ν b h r)

pub pattern_put : (σ : ℕ → Term) (ν : ℕ → Name) (b : Name) → Puts σ ν b → {t : Term} → IsPatternTerm t → IsNewTo b t → IsPatternTerm (subst σ t)
pattern_put σ ν b h (of_index i) n = names_pattern (h.names i)
pattern_put σ ν b h (of_atom a) n = of_atom a
pattern_put σ ν b h (of_abs p) n = of_abs (pattern_put (up σ) (lifted ν) (under b) (puts_up σ ν b h) p n)
pattern_put σ ν b h (rigid r p q) n = rigid (rigid_put σ ν b h r) (pattern_put σ ν b h p n.0) (pattern_put σ ν b h q n.1)
pattern_put σ ν b h (on_name {n = m} {t = t} p q new) n =
    on_name (pattern_put σ ν b h p n.0) (names_at σ q (image ν m) (at_image σ ν b h m)) (new_put σ m b (image ν m) (h.apart m (own_not_new q b n.1)) t new n.0)

-- a raised pattern term; `lifts` are injective renamings, and no name is left out of account
pub record Injects (ρ : ℕ → ℕ) : Type 0 where
  pub apart : (i j : ℕ) → ρ i ≡ ρ j → i ≡ j

injects_lift : (ρ : ℕ → ℕ) → Injects ρ → Injects (lift ρ)
injects_lift ρ h = record { apart = go }
  where
    go : (i j : ℕ) → lift ρ i ≡ lift ρ j → i ≡ j
    go zero zero e = refl
    go zero (suc j) e = absurd (cc)
    go (suc i) zero e = absurd (cc)
    go (suc i) (suc j) e = ap suc (h.apart i j (let q : ρ i ≡ ρ j = cc in q))

pub rigid_renamed : (ρ : ℕ → ℕ) {t : Term} → IsRigid t → IsRigid (rename ρ t)
rigid_renamed ρ (rigid_atom a r) = rigid_atom a r
rigid_renamed ρ (rigid_name p) = rigid_name (names_renamed ρ p)
rigid_renamed ρ (rigid_on r) = rigid_on (rigid_renamed ρ r)

new_injected : (ρ : ℕ → ℕ) → Injects ρ → (m : Name) (t : Term) → IsNewTo m t → IsNewTo (renamed ρ m) (rename ρ t)
new_injected ρ h m t n = naming.new_renamed ρ m (renamed ρ m) (record { indices = indices m; atoms = atoms m }) t n
  where
    indices : (m : Name) (i : ℕ) → IsNewToIndex m i → IsNewToIndex (renamed ρ m) (ρ i)
    indices (bound j) i k = λ e. k (h.apart i j e)
    indices (free j) i k = tt

    atoms : (m : Name) (a : Atom) → IsNewToAtom m a → IsNewToAtom (renamed ρ m) a
    atoms (bound j) a k = tt
    atoms (free j) a k = k

pub pattern_renamed : (ρ : ℕ → ℕ) → Injects ρ → {t : Term} → IsPatternTerm t → IsPatternTerm (rename ρ t)
pattern_renamed ρ h (of_index i) = of_index (ρ i)
pattern_renamed ρ h (of_atom a) = of_atom a
pattern_renamed ρ h (of_abs p) = of_abs (pattern_renamed (lift ρ) (injects_lift ρ h) p)
pattern_renamed ρ h (rigid r p q) = rigid (rigid_renamed ρ r) (pattern_renamed ρ h p) (pattern_renamed ρ h q)
pattern_renamed ρ h (on_name {n = m} {t = t} p q new) = on_name (pattern_renamed ρ h p) (names_renamed ρ q) (new_injected ρ h m t new)

pub pattern_raised : {t : Term} → IsPatternTerm t → IsPatternTerm (rename suc t)
pattern_raised p = pattern_renamed suc (record { apart = λ i j e. let q : i ≡ j = cc in q }) p

-- any pattern term in the place of what is a name
pub pattern_at : (σ : ℕ → Term) {n : Name} {t : Term} → Names n t → IsPatternTerm (at σ n) → IsPatternTerm (subst σ t)
pattern_at σ (an_index i) h = h
pattern_at σ (an_eigen k) h = h
pattern_at σ (expanded {n = n} p q) h =
    of_abs (on_name (pattern_at (up σ) p (transport IsPatternTerm (sym (naming.at_under σ n)) (pattern_raised h))) (names_at (up σ) q (bound 0) (an_index 0))
    (new_at (up σ) p (bound 0) (transport (IsNewTo (bound 0)) (sym (naming.at_under σ n)) (first_new (at σ n)))))
