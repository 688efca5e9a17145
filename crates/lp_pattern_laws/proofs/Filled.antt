-- Pattern terms where atoms get terms, and where an eigenconstant is abstracted.
use Rattle.std.proofs.Common.{◌≡◌, ℕ, zero, suc, ◌<◌, ◌≤◌, List, [], ◌∷◌, Bool, true, false, refl, sym, ap, ◌∙◌, subst as transport, arith}
use Rattle.std.specs.Prelude.{◌&&◌, nat_eq, if◌then◌else◌}
use Rattle.lp_lemmas.proofs.Booleans.{and_true_right}
use Rattle.lp_calculus.specs.Term.{Term, index, atom, abs, app, Atom, eigen, logic, constant, integer, text, param, shift}
use Rattle.lp_calculus.specs.Fill.{Within, Binding, raise, fill, at_variables, one, put, indexed, abstraction, abstracted}
use Rattle.lp_calculus.specs.Types.{Ty}
use Rattle.lp_calculus.specs.Instance.{instance_atom, instance_term}
use Rattle.lp_calculus.proofs.Sigma.{rename}
use Rattle.lp_calculus.proofs.Commutations.{instance_fill}
use Rattle.lp_calculus.proofs.BetaEta.{shift_one}
use Rattle.lp_unify_laws.specs.Levels.{IsPairAtom}
use Rattle.lp_unify_laws.proofs.Sames.{same_number}
use Rattle.lp_unify_laws.proofs.Abstractions.{within_abstraction}
use Rattle.lp_pattern_laws.specs.Patterns.{Name, bound, free, under, IsNewToIndex, IsNewToAtom, IsNewTo, Names, an_index, an_eigen, expanded, IsRigidAtom, IsRigid, rigid_atom, rigid_name, rigid_on, IsPatternTerm, of_index, of_atom, of_abs, rigid, on_name}
use Rattle.lp_pattern_laws.proofs.Naming.{new_raised, first_new}
use Rattle.lp_pattern_laws.proofs.Renamed.{pattern_raised, rigid_renamed}
use Rattle.lp_pattern_laws.proofs.Looked.{bound_within}

-- terms for atoms that keep what is new and what is rigid
pub record Fills (f : Atom → Term) : Type 0 where
  pub pattern : (a : Atom) → IsPatternTerm (f a)
  pub new : (n : Name) (a : Atom) → IsNewToAtom n a → IsNewTo n (f a)
  pub rigid : (a : Atom) → IsRigidAtom a → IsRigid (f a)
  pub eigens : (k : ℕ) → f (eigen k) ≡ atom (eigen k)

pub fills_raise : (f : Atom → Term) → Fills f → Fills (raise f)
fills_raise f h = record {
  pattern = λ a. transport IsPatternTerm (sym (shift_one (f a))) (pattern_raised (h.pattern a));
  new = new;
  rigid = λ a r. transport IsRigid (sym (shift_one (f a))) (rigid_renamed suc (h.rigid a r));
  eigens = λ k. ap (shift 0 1) (h.eigens k);
}
  where
    raised : (n : Name) (a : Atom) → IsNewTo n (rename suc (f a)) → IsNewTo n (raise f a)
    raised n a = transport (IsNewTo n) (sym (shift_one (f a)))

    new : (n : Name) (a : Atom) → IsNewToAtom n a → IsNewTo n (raise f a)
    new (bound zero) a k = raised (bound zero) a (first_new (f a))
    new (bound (suc i)) a k = raised (bound (suc i)) a (new_raised (bound i) (f a) (h.new (bound i) a tt))
    new (free j) a k = raised (free j) a (new_raised (free j) (f a) (h.new (free j) a k))

names_fill : (f : Atom → Term) → Fills f → {n : Name} {t : Term} → Names n t → Names n (fill f t)
names_fill f h (an_index i) = an_index i
names_fill f h (an_eigen k) = transport (Names (free k)) (sym (h.eigens k)) (an_eigen k)
names_fill f h (expanded p q) = expanded (names_fill (raise f) (fills_raise f h) p) (names_fill (raise f) (fills_raise f h) q)

new_fill : (f : Atom → Term) → Fills f → (n : Name) (t : Term) → IsNewTo n t → IsNewTo n (fill f t)
new_fill f h n (index i) k = k
new_fill f h n (atom a) k = h.new n a k
new_fill f h n (abs b) k = new_fill (raise f) (fills_raise f h) (under n) b k
new_fill f h n (app t u) k = (new_fill f h n t k.0, new_fill f h n u k.1)

rigid_fill : (f : Atom → Term) → Fills f → {t : Term} → IsRigid t → IsRigid (fill f t)
rigid_fill f h (rigid_atom a r) = h.rigid a r
rigid_fill f h (rigid_name p) = rigid_name (names_fill f h p)
rigid_fill f h (rigid_on r) = rigid_on (rigid_fill f h r)

pub pattern_fill : (f : Atom → Term) → Fills f → {t : Term} → IsPatternTerm t → IsPatternTerm (fill f t)
pattern_fill f h (of_index i) = of_index i
pattern_fill f h (of_atom a) = h.pattern a
pattern_fill f h (of_abs p) = of_abs (pattern_fill (raise f) (fills_raise f h) p)
pattern_fill f h (rigid r p q) = rigid (rigid_fill f h r) (pattern_fill f h p) (pattern_fill f h q)
pattern_fill f h (on_name {n = n} {t = t} p q new) = on_name (pattern_fill f h p) (names_fill f h q) (new_fill f h n t new)

-- what is closed has no index, and what stands at a level no eigenconstant above it
pub level_new : (P : Atom → Type 0) (d : ℕ) (t : Term) → Within P d t → (i : ℕ) → d ≤ i → IsNewTo (bound i) t
level_new P d (index j) w i h = λ e. (let q : j ≡ i = e in omega (arith, w, h, q))
level_new P d (atom a) w i h = tt
level_new P d (abs b) w i h = level_new P (suc d) b w (suc i) (omega (arith, h))
level_new P d (app t u) w i h = (level_new P d t w.0 i h, level_new P d u w.1 i h)

above_new_atom : (next l k : ℕ) (a : Atom) → IsPairAtom next l a → l < k → IsNewToAtom (free k) a
above_new_atom next l k (eigen j) w h = λ e. (let q : j ≤ l = w in let r : j ≡ k = e in omega (arith, q, r, h))
above_new_atom next l k (logic x m) w h = let q : m ≤ l = w.1 in let r : m < k = omega (arith, q, h) in r
above_new_atom next l k (constant c ts) w h = tt
above_new_atom next l k (integer z) w h = tt
above_new_atom next l k (text s) w h = tt
above_new_atom next l k (param i T) w h = tt

pub atoms_new : (P : Atom → Type 0) (k : ℕ) → ((a : Atom) → P a → IsNewToAtom (free k) a) → (d : ℕ) (t : Term) → Within P d t → IsNewTo (free k) t
atoms_new P k f d (index j) w = tt
atoms_new P k f d (atom a) w = f a w
atoms_new P k f d (abs b) w = atoms_new P k f (suc d) b w
atoms_new P k f d (app t u) w = (atoms_new P k f d t w.0, atoms_new P k f d u w.1)

pub above_new : (next l d : ℕ) (t : Term) → Within (IsPairAtom next l) d t → (k : ℕ) → l < k → IsNewTo (free k) t
above_new next l d t w k h = atoms_new (IsPairAtom next l) k (λ a g. above_new_atom next l k a g h) d t w

-- a value for a variable
pub record IsPatternBinding (next : ℕ) (b : Binding) : Type 0 where
  pub pattern : IsPatternTerm b.value
  pub scoped : Within (IsPairAtom next b.level) 0 b.value

module _ (next : ℕ) (b : Binding) (h : IsPatternBinding next b) where
  value_new : (n : Name) (x l : ℕ) → IsNewToAtom n (logic x l) → l ≡ b.level → IsNewTo n b.value
  value_new (bound i) x l k e = level_new (IsPairAtom next b.level) 0 b.value h.scoped i (omega arith)
  value_new (free j) x l k e = above_new next b.level 0 b.value h.scoped j (let q : l < j = k in omega (arith, q, e))

  value_at : (P : Term → Type 0) (x l : ℕ) → (l ≡ b.level → P b.value) → P (atom (logic x l)) → P (one b x l)
  value_at P x l p q = elim (nat_eq x b.id && nat_eq l b.level) as (λ t. (nat_eq x b.id && nat_eq l b.level) ≡ t → P (if t then b.value else atom (logic x l))) [
    | true ↦ λ e. p (same_number l b.level (and_true_right (nat_eq x b.id) (nat_eq l b.level) e))
    | false ↦ λ e. q
  ] refl

  fills_one : Fills (at_variables (one b))
  fills_one = record { pattern = pattern; new = new; rigid = rigid; eigens = λ k. refl }
    where
      pattern : (a : Atom) → IsPatternTerm (at_variables (one b) a)
      pattern (logic x l) = value_at IsPatternTerm x l (λ e. h.pattern) (of_atom (logic x l))
      pattern (constant c ts) = of_atom (constant c ts)
      pattern (integer z) = of_atom (integer z)
      pattern (text s) = of_atom (text s)
      pattern (eigen k) = of_atom (eigen k)
      pattern (param k t) = of_atom (param k t)

      new : (n : Name) (a : Atom) → IsNewToAtom n a → IsNewTo n (at_variables (one b) a)
      new n (logic x l) k = value_at (IsNewTo n) x l (value_new n x l k) k
      new n (constant c ts) k = k
      new n (integer z) k = k
      new n (text s) k = k
      new n (eigen j) k = k
      new n (param i t) k = k

      rigid : (a : Atom) → IsRigidAtom a → IsRigid (at_variables (one b) a)
      rigid (logic x l) r = absurd r
      rigid (constant c ts) r = rigid_atom (constant c ts) tt
      rigid (integer z) r = rigid_atom (integer z) tt
      rigid (text s) r = rigid_atom (text s) tt
      rigid (eigen k) r = rigid_atom (eigen k) tt
      rigid (param k t) r = rigid_atom (param k t) tt

  pub pattern_put : (t : Term) → IsPatternTerm t → IsPatternTerm (put b t)
  pattern_put t p = pattern_fill (at_variables (one b)) fills_one p

-- an index for an eigenconstant
abbrev IsNoEigen : Atom → Type 0
IsNoEigen (eigen k) = ⊥
IsNoEigen (logic x l) = Unit {0}
IsNoEigen (constant c ts) = Unit {0}
IsNoEigen (integer z) = Unit {0}
IsNoEigen (text s) = Unit {0}
IsNoEigen (param i T) = Unit {0}

record Binds (c d : ℕ) (f : Atom → Term) : Type 0 where
  eigens_are : (k : ℕ) → f (eigen k) ≡ (if nat_eq k c then index d else atom (eigen k))
  others_stay : (a : Atom) → IsNoEigen a → f a ≡ atom a

binds_raise : (c d : ℕ) (f : Atom → Term) → Binds c d f → Binds c (suc d) (raise f)
binds_raise c d f h = record { eigens_are = λ k. ap (shift 0 1) (h.eigens_are k) ∙ by k (nat_eq k c); others_stay = λ a r. ap (shift 0 1) (h.others_stay a r) }
  where
    by : (k : ℕ) (t : Bool) → shift 0 1 (if t then index d else atom (eigen k)) ≡ (if t then index (suc d) else atom (eigen k))
    by k true = shift_one (index d)
    by k false = refl

binds_indexed : (c : ℕ) → Binds c 0 (indexed c)
binds_indexed c = record { eigens_are = λ k. refl; others_stay = same }
  where
    same : (a : Atom) → IsNoEigen a → indexed c a ≡ atom a
    same (eigen k) r = absurd r
    same (logic x l) r = refl
    same (constant k ts) r = refl
    same (integer z) r = refl
    same (text s) r = refl
    same (param k t) r = refl

-- the name that a name becomes
abbrev bound_name : (c d : ℕ) → Name → Name
bound_name c d (bound i) = bound i
bound_name c d (free k) = if nat_eq k c then bound d else free k

bound_under : (c d : ℕ) (n : Name) → bound_name c (suc d) (under n) ≡ under (bound_name c d n)
bound_under c d (bound i) = refl
bound_under c d (free k) = by (nat_eq k c)
  where
    by : (t : Bool) → (if t then bound (suc d) else free k) ≡ under (if t then bound d else free k)
    by true = refl
    by false = refl

named_if : (c d k : ℕ) (t : Bool) → Names (if t then bound d else free k) (if t then index d else atom (eigen k))
named_if c d k true = an_index d
named_if c d k false = an_eigen k

names_bound : (c d : ℕ) (f : Atom → Term) → Binds c d f → {n : Name} {t : Term} → Names n t → Names (bound_name c d n) (fill f t)
names_bound c d f h (an_index i) = an_index i
names_bound c d f h (an_eigen k) = transport (Names (bound_name c d (free k))) (sym (h.eigens_are k)) (named_if c d k (nat_eq k c))
names_bound c d f h (expanded {n = n} {f = g} p q) =
    expanded (transport (λ m. Names m (fill (raise f) g)) (bound_under c d n) (names_bound c (suc d) (raise f) (binds_raise c d f h) p)) (names_bound c (suc d) (raise f) (binds_raise c d f h) q)

-- a name that is bound is bound inside
abbrev IsInside : ℕ → Name → Type 0
IsInside d (bound i) = i < d
IsInside d (free k) = Unit {0}

inside_under : (d : ℕ) (n : Name) → IsInside d n → IsInside (suc d) (under n)
inside_under d (bound i) h = omega (arith, h)
inside_under d (free k) h = tt

names_inside : (P : Atom → Type 0) (d : ℕ) (n : Name) {t : Term} → Names n t → Within P d t → IsInside d n
names_inside P d (bound i) p w = bound_within P p d i w refl
names_inside P d (free k) p w = tt

new_index : (c d : ℕ) (n : Name) → IsInside d n → (i : ℕ) → i < d → IsNewToIndex n i → IsNewTo (bound_name c d n) (index i)
new_index c d (bound j) v i l k = k
new_index c d (free j) v i l k = by (nat_eq j c)
  where
    by : (t : Bool) → IsNewTo (if t then bound d else free j) (index i)
    by true = λ e. (let q : i ≡ d = e in omega (arith, l, q))
    by false = tt

new_eigen : (c d : ℕ) (n : Name) → IsInside d n → (k : ℕ) → IsNewToAtom n (eigen k) → IsNewTo (bound_name c d n) (if nat_eq k c then index d else atom (eigen k))
new_eigen c d (bound i) v k h = by (nat_eq k c)
  where
    by : (t : Bool) → IsNewTo (bound i) (if t then index d else atom (eigen k))
    by true = λ e. (let q : d ≡ i = e in omega (arith, v, q))
    by false = tt
new_eigen c d (free j) v k h = by (nat_eq k c) (nat_eq j c) refl refl
  where
    by : (t u : Bool) → nat_eq k c ≡ t → nat_eq j c ≡ u → IsNewTo (if u then bound d else free j) (if t then index d else atom (eigen k))
    by true true e f = absurd (h (same_number k c e ∙ sym (same_number j c f)))
    by true false e f = tt
    by false true e f = tt
    by false false e f = h

new_other : (c d : ℕ) (n : Name) (a : Atom) → IsNoEigen a → IsNewToAtom n a → IsNewTo (bound_name c d n) (atom a)
new_other c d (bound i) a r k = tt
new_other c d (free j) a r k = by (nat_eq j c)
  where
    by : (t : Bool) → IsNewTo (if t then bound d else free j) (atom a)
    by true = tt
    by false = k

new_bound : (P : Atom → Type 0) (c d : ℕ) (f : Atom → Term) → Binds c d f → (n : Name) → IsInside d n → (t : Term) → Within P d t → IsNewTo n t → IsNewTo (bound_name c d n) (fill f t)
new_bound P c d f h n v (index i) w k = new_index c d n v i w k
new_bound P c d f h n v (atom (eigen j)) w k = transport (IsNewTo (bound_name c d n)) (sym (h.eigens_are j)) (new_eigen c d n v j k)
new_bound P c d f h n v (atom (logic x l)) w k = transport (IsNewTo (bound_name c d n)) (sym (h.others_stay (logic x l) tt)) (new_other c d n (logic x l) tt k)
new_bound P c d f h n v (atom (constant i ts)) w k = transport (IsNewTo (bound_name c d n)) (sym (h.others_stay (constant i ts) tt)) (new_other c d n (constant i ts) tt k)
new_bound P c d f h n v (atom (integer z)) w k = transport (IsNewTo (bound_name c d n)) (sym (h.others_stay (integer z) tt)) (new_other c d n (integer z) tt k)
new_bound P c d f h n v (atom (text s)) w k = transport (IsNewTo (bound_name c d n)) (sym (h.others_stay (text s) tt)) (new_other c d n (text s) tt k)
new_bound P c d f h n v (atom (param i T)) w k = transport (IsNewTo (bound_name c d n)) (sym (h.others_stay (param i T) tt)) (new_other c d n (param i T) tt k)
new_bound P c d f h n v (abs b) w k = transport (λ m. IsNewTo m (fill (raise f) b)) (bound_under c d n) (new_bound P c (suc d) (raise f) (binds_raise c d f h) (under n) (inside_under d n v) b w k)
new_bound P c d f h n v (app t u) w k = (new_bound P c d f h n v t w.0 k.0, new_bound P c d f h n v u w.1 k.1)

rigid_eigen : (c d k : ℕ) (t : Bool) → IsRigid (if t then index d else atom (eigen k))
rigid_eigen c d k true = rigid_name (an_index d)
rigid_eigen c d k false = rigid_atom (eigen k) tt

rigid_bound : (c d : ℕ) (f : Atom → Term) → Binds c d f → {t : Term} → IsRigid t → IsRigid (fill f t)
rigid_bound c d f h (rigid_atom (eigen k) r) = transport IsRigid (sym (h.eigens_are k)) (rigid_eigen c d k (nat_eq k c))
rigid_bound c d f h (rigid_atom (logic x l) r) = absurd r
rigid_bound c d f h (rigid_atom (constant i ts) r) = transport IsRigid (sym (h.others_stay (constant i ts) tt)) (rigid_atom (constant i ts) tt)
rigid_bound c d f h (rigid_atom (integer z) r) = transport IsRigid (sym (h.others_stay (integer z) tt)) (rigid_atom (integer z) tt)
rigid_bound c d f h (rigid_atom (text s) r) = transport IsRigid (sym (h.others_stay (text s) tt)) (rigid_atom (text s) tt)
rigid_bound c d f h (rigid_atom (param i T) r) = transport IsRigid (sym (h.others_stay (param i T) tt)) (rigid_atom (param i T) tt)
rigid_bound c d f h (rigid_name p) = rigid_name (names_bound c d f h p)
rigid_bound c d f h (rigid_on r) = rigid_on (rigid_bound c d f h r)

atom_bound : (c d : ℕ) (f : Atom → Term) → Binds c d f → (a : Atom) → IsPatternTerm (f a)
atom_bound c d f h (eigen k) = transport IsPatternTerm (sym (h.eigens_are k)) (by (nat_eq k c))
  where
    by : (t : Bool) → IsPatternTerm (if t then index d else atom (eigen k))
    by true = of_index d
    by false = of_atom (eigen k)
atom_bound c d f h (logic x l) = transport IsPatternTerm (sym (h.others_stay (logic x l) tt)) (of_atom (logic x l))
atom_bound c d f h (constant i ts) = transport IsPatternTerm (sym (h.others_stay (constant i ts) tt)) (of_atom (constant i ts))
atom_bound c d f h (integer z) = transport IsPatternTerm (sym (h.others_stay (integer z) tt)) (of_atom (integer z))
atom_bound c d f h (text s) = transport IsPatternTerm (sym (h.others_stay (text s) tt)) (of_atom (text s))
atom_bound c d f h (param i T) = transport IsPatternTerm (sym (h.others_stay (param i T) tt)) (of_atom (param i T))

pattern_bound : (P : Atom → Type 0) (c d : ℕ) (f : Atom → Term) → Binds c d f → {t : Term} → IsPatternTerm t → Within P d t → IsPatternTerm (fill f t)
pattern_bound P c d f h (of_index i) w = of_index i
pattern_bound P c d f h (of_atom a) w = atom_bound c d f h a
pattern_bound P c d f h (of_abs p) w = of_abs (pattern_bound P c (suc d) (raise f) (binds_raise c d f h) p w)
pattern_bound P c d f h (rigid r p q) w = rigid (rigid_bound c d f h r) (pattern_bound P c d f h p w.0) (pattern_bound P c d f h q w.1)
pattern_bound P c d f h (on_name {n = n} {t = t} p q new) w =
    on_name (pattern_bound P c d f h p w.0) (names_bound c d f h q) (new_bound P c d f h n (names_inside P d n q w.1) t w.0 new)

pub pattern_abstraction : (P : Atom → Type 0) (c : ℕ) (t : Term) → IsPatternTerm t → Within P 0 t → IsPatternTerm (abstraction c t)
pattern_abstraction P c t p w = of_abs (pattern_bound P c 0 (indexed c) (binds_indexed c) p w)

pub pattern_abstracted : (P : Atom → Type 0) (cs : List ℕ) (t : Term) → IsPatternTerm t → Within P 0 t → IsPatternTerm (abstracted cs t) × Within P 0 (abstracted cs t)
pattern_abstracted P [] t p w = (p, w)
pattern_abstracted P (c ∷ cs) t p w =
    let r = pattern_abstracted P cs t p w in
    (pattern_abstraction P c (abstracted cs t) r.0 r.1, within_abstraction P P c (λ a x n. x) (abstracted cs t) r.1)

-- types for type variables
pub rigid_instance : (θ : ℕ → Ty) (a : Atom) → IsRigidAtom a → IsRigidAtom (instance_atom θ a)
rigid_instance θ (eigen k) r = tt
rigid_instance θ (logic x l) r = r
rigid_instance θ (constant c ts) r = tt
rigid_instance θ (integer z) r = tt
rigid_instance θ (text s) r = tt
rigid_instance θ (param i T) r = tt

pub new_instance : (θ : ℕ → Ty) (n : Name) (a : Atom) → IsNewToAtom n a → IsNewToAtom n (instance_atom θ a)
new_instance θ (bound i) a k = tt
new_instance θ (free j) (eigen i) k = k
new_instance θ (free j) (logic x l) k = k
new_instance θ (free j) (constant c ts) k = tt
new_instance θ (free j) (integer z) k = tt
new_instance θ (free j) (text s) k = tt
new_instance θ (free j) (param i T) k = tt

pub types_fill : (θ : ℕ → Ty) → Fills (λ a. atom (instance_atom θ a))
types_fill θ = record {
  pattern = λ a. of_atom (instance_atom θ a);
  new = λ n a k. new_instance θ n a k;
  rigid = λ a r. rigid_atom (instance_atom θ a) (rigid_instance θ a r);
  eigens = λ k. refl;
}

pub pattern_instance : (θ : ℕ → Ty) {t : Term} → IsPatternTerm t → IsPatternTerm (instance_term θ t)
pattern_instance θ {t = t} p = transport IsPatternTerm (sym (instance_fill θ t)) (pattern_fill (λ a. atom (instance_atom θ a)) (types_fill θ) p)
