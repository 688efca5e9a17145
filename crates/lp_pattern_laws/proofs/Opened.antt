-- Pattern text with terms in the place of its indices and atoms.
use Rattle.std.proofs.Common.{◌≡◌, ℕ, zero, suc, ◌<◌, ◌≤◌, List, ◌∷◌, Option, Some, None, refl, sym, ap, ◌∙◌, subst as transport, arith}
use Rattle.std.specs.Prelude.{slice_get}
use mathlib.Core.Path.{fun_ext}
use Rattle.lp_calculus.specs.Term.{Term, index, atom, abs, app, Atom, eigen, logic, constant, integer, text, param, shift}
use Rattle.lp_calculus.specs.Fill.{raise, fill}
use Rattle.lp_calculus.specs.Types.{Ty}
use Rattle.lp_calculus.specs.Instance.{instance_atom, instance_term}
use Rattle.lp_calculus.specs.Closed.{AllAtoms}
use Rattle.lp_calculus.proofs.Sigma.{up, subst, subst-rename, rename-subst}
use Rattle.lp_calculus.proofs.BetaEta.{shift_one}
use Rattle.lp_calculus.proofs.Commutations.{instance_fill}
use Rattle.lp_calculus.proofs.Fills.{subst_closed}
use Rattle.lp_model.specs.Pair.{Closing, closed}
use Rattle.lp_model.specs.Index.{instantiate}
use Rattle.lp_proof_laws.proofs.Uniform.Openings.{instantiate_subst}
use Rattle.lp_search_laws.proofs.ClosedTerms.{closed_atom, closed_fill}
use Rattle.lp_pattern_laws.specs.Patterns.{Name, bound, free, under, IsNewToAtom, IsNewTo, Names, an_index, an_eigen, expanded, IsRigidAtom, IsRigid, rigid_atom, rigid_name, rigid_on, IsPatternTerm, of_atom, of_abs, rigid, on_name}
use Rattle.lp_pattern_laws.specs.Binders.{Binder, universal, existential, IsNewAt, IsNewIn, IsUniversal, IsRigidIn, atom_head, name_head, more_on, IsPatternIn, index_in, atom_in, abs_in, rigid_in, name_in, IsAtLevel, IsPatternText, IsOpening, HasPatternValues}
use Rattle.lp_pattern_laws.proofs.Naming.{names_raised, new_below_index, new_first, new_raised, first_new, at, at_under}
use Rattle.lp_pattern_laws.proofs.Filled.{Fills, fills_raise, level_new, atoms_new, new_instance, types_fill}
use Rattle.lp_pattern_laws.proofs.Renamed.{image, lifted, names_pattern, pattern_raised}

-- what is new one binder further out
new_out : (o : Option Binder) (n : Name) (i : ℕ) → IsNewAt o (under n) (suc i) → IsNewAt o n i
new_out None n i h = h
new_out (Some universal) n i h = new_below_index n i h
new_out (Some existential) (bound j) i h = let q : suc j < suc i = h in omega (arith, q)
new_out (Some existential) (free k) i h = h

-- names for universal variables, which are above the level where they are eigenconstants, and pattern terms for existential ones
pub record Opens (level : ℕ) (Γ : List Binder) (σ : ℕ → Term) (ν : ℕ → Name) : Type 0 where
  pub names : (i : ℕ) → slice_get Γ i ≡ Some universal → Names (ν i) (σ i)
  pub patterns : (i : ℕ) → slice_get Γ i ≡ Some existential → IsPatternTerm (σ i)
  pub apart : (i j : ℕ) (b : Binder) → slice_get Γ i ≡ Some b → slice_get Γ j ≡ Some universal → IsNewAt (Some b) (bound j) i → IsNewTo (ν j) (σ i)
  pub others : (i k : ℕ) → slice_get Γ i ≡ Some universal → k ≤ level → IsNewTo (free k) (σ i)
  pub atoms : (j : ℕ) (a : Atom) → slice_get Γ j ≡ Some universal → IsAtLevel level a → IsNewToAtom (ν j) a

-- terms for indices and for atoms
abbrev put_both : (ℕ → Term) → (Atom → Term) → Term → Term
put_both σ f (index i) = σ i
put_both σ f (atom a) = f a
put_both σ f (abs b) = abs (put_both (up σ) (raise f) b)
put_both σ f (app t u) = app (put_both σ f t) (put_both σ f u)

past : (σ : ℕ → Term) (t : Term) → subst (up σ) (shift 0 1 t) ≡ shift 0 1 (subst σ t)
past σ t = ap (subst (up σ)) (shift_one t) ∙ subst-rename suc (up σ) t ∙ sym (rename-subst σ suc t) ∙ sym (shift_one (subst σ t))

both_are_put : (σ : ℕ → Term) (f : Atom → Term) (t : Term) → subst σ (fill f t) ≡ put_both σ (λ a. subst σ (f a)) t
both_are_put σ f (index i) = refl
both_are_put σ f (atom a) = refl
both_are_put σ f (abs b) = ap abs (both_are_put (up σ) (raise f) b ∙ ap (λ g. put_both (up σ) g b) (fun_ext (λ a. past σ (f a))))
both_are_put σ f (app t u) = rw (both_are_put σ f t, both_are_put σ f u)

names_both : (σ : ℕ → Term) (f : Atom → Term) → Fills f → {n : Name} {t : Term} → Names n t → (p : Name) → Names p (at σ n) → Names p (put_both σ f t)
names_both σ f g (an_index i) p h = h
names_both σ f g (an_eigen k) p h = transport (Names p) (sym (g.eigens k)) h
names_both σ f g (expanded {n = n} q r) p h =
    expanded (names_both (up σ) (raise f) (fills_raise f g) q (under p) (transport (Names (under p)) (sym (at_under σ n)) (names_raised h)))
    (names_both (up σ) (raise f) (fills_raise f g) r (bound 0) (an_index 0))

module _ (l : ℕ) (Γ : List Binder) (σ : ℕ → Term) (ν : ℕ → Name) (h : Opens l Γ σ ν) where
  opens_up : Opens l (universal ∷ Γ) (up σ) (lifted ν)
  opens_up = record { names = names; patterns = patterns; apart = apart; others = others; atoms = atoms }
    where
      names : (i : ℕ) → slice_get (universal ∷ Γ) i ≡ Some universal → Names (lifted ν i) (up σ i)
      names zero e = an_index 0
      names (suc i) e = names_raised (h.names i e)

      patterns : (i : ℕ) → slice_get (universal ∷ Γ) i ≡ Some existential → IsPatternTerm (up σ i)
      patterns zero e = absurd (cc)
      patterns (suc i) e = pattern_raised (h.patterns i e)

      apart : (i j : ℕ) (b : Binder) → slice_get (universal ∷ Γ) i ≡ Some b → slice_get (universal ∷ Γ) j ≡ Some universal → IsNewAt (Some b) (bound j) i → IsNewTo (lifted ν j) (up σ i)
      apart zero zero universal e g n = absurd (n refl)
      apart zero zero existential e g n = absurd (cc)
      apart (suc i) zero b e g n = first_new (σ i)
      apart zero (suc j) b e g n = new_first (ν j)
      apart (suc i) (suc j) b e g n = new_raised (ν j) (σ i) (h.apart i j b e g (new_out (Some b) (bound j) i n))

      others : (i k : ℕ) → slice_get (universal ∷ Γ) i ≡ Some universal → k ≤ l → IsNewTo (free k) (up σ i)
      others zero k e m = tt
      others (suc i) k e m = new_raised (free k) (σ i) (h.others i k e m)

      under_atom : (n : Name) (a : Atom) → IsNewToAtom n a → IsNewToAtom (under n) a
      under_atom (bound j) a k = tt
      under_atom (free j) a k = k

      atoms : (j : ℕ) (a : Atom) → slice_get (universal ∷ Γ) j ≡ Some universal → IsAtLevel l a → IsNewToAtom (lifted ν j) a
      atoms zero a e m = tt
      atoms (suc j) a e m = under_atom (ν j) a (h.atoms j a e m)

  at_universal : (n : Name) → IsUniversal Γ n → Names (image ν n) (at σ n)
  at_universal (bound j) e = h.names j e
  at_universal (free k) e = an_eigen k

  rigid_opens : (f : Atom → Term) → Fills f → {t : Term} → IsRigidIn Γ t → IsRigid (put_both σ f t)
  rigid_opens f g (atom_head a r) = g.rigid a r
  rigid_opens f g (name_head {n = n} u p) = rigid_name (names_both σ f g p (image ν n) (at_universal n u))
  rigid_opens f g (more_on r) = rigid_on (rigid_opens f g r)

-- an eigenconstant of a text at a level is none above it
abbrev IsNameAt : ℕ → Name → Type 0
IsNameAt l (bound i) = Unit {0}
IsNameAt l (free k) = k ≤ l

name_out : (l : ℕ) (n : Name) → IsNameAt l (under n) → IsNameAt l n
name_out l (bound i) h = tt
name_out l (free k) h = h

name_level : (l : ℕ) {n : Name} {t : Term} → Names n t → AllAtoms (IsAtLevel l) t → IsNameAt l n
name_level l (an_index i) h = tt
name_level l (an_eigen k) h = h
name_level l (expanded {n = n} p q) h = name_out l n (name_level l p h.0)

new_index : (l : ℕ) (Γ : List Binder) (σ : ℕ → Term) (ν : ℕ → Name) → Opens l Γ σ ν → (n : Name) → IsUniversal Γ n → IsNameAt l n → (i : ℕ)
    (o : Option Binder) → slice_get Γ i ≡ o → IsNewAt o n i → IsNewTo (image ν n) (σ i)
new_index l Γ σ ν h n u m i None e k = absurd k
new_index l Γ σ ν h (bound j) u m i (Some b) e k = h.apart i j b e u k
new_index l Γ σ ν h (free j) u m i (Some universal) e k = h.others i j e m
new_index l Γ σ ν h (free j) u m i (Some existential) e k = absurd k

new_atom : (l : ℕ) (Γ : List Binder) (σ : ℕ → Term) (ν : ℕ → Name) → Opens l Γ σ ν → (n : Name) → IsUniversal Γ n → (a : Atom) → IsAtLevel l a → IsNewToAtom n a → IsNewToAtom (image ν n) a
new_atom l Γ σ ν h (bound j) u a m k = h.atoms j a u m
new_atom l Γ σ ν h (free j) u a m k = k

pub universal_under : (Γ : List Binder) (n : Name) → IsUniversal Γ n → IsUniversal (universal ∷ Γ) (under n)
universal_under Γ (bound j) u = u
universal_under Γ (free k) u = tt

level_under : (l : ℕ) (n : Name) → IsNameAt l n → IsNameAt l (under n)
level_under l (bound j) m = tt
level_under l (free k) m = m

image_under : (ν : ℕ → Name) (n : Name) → image (lifted ν) (under n) ≡ under (image ν n)
image_under ν (bound j) = refl
image_under ν (free k) = refl

new_opens : (l : ℕ) (Γ : List Binder) (σ : ℕ → Term) (ν : ℕ → Name) → Opens l Γ σ ν → (f : Atom → Term) → Fills f → (n : Name) → IsUniversal Γ n →
    IsNameAt l n → (t : Term) → AllAtoms (IsAtLevel l) t → IsNewIn Γ n t → IsNewTo (image ν n) (put_both σ f t)
new_opens l Γ σ ν h f g n u m (index i) w k = new_index l Γ σ ν h n u m i (slice_get Γ i) refl k
new_opens l Γ σ ν h f g n u m (atom a) w k = g.new (image ν n) a (new_atom l Γ σ ν h n u a w k)
new_opens l Γ σ ν h f g n u m (abs b) w k =
    transport (λ p. IsNewTo p (put_both (up σ) (raise f) b)) (image_under ν n)
    (new_opens l (universal ∷ Γ) (up σ) (lifted ν) (opens_up l Γ σ ν h) (raise f) (fills_raise f g) (under n) (universal_under Γ n u) (level_under l n m) b w k)
new_opens l Γ σ ν h f g n u m (app t s) w k = (new_opens l Γ σ ν h f g n u m t w.0 k.0, new_opens l Γ σ ν h f g n u m s w.1 k.1)

index_opens : (l : ℕ) (Γ : List Binder) (σ : ℕ → Term) (ν : ℕ → Name) → Opens l Γ σ ν → (i : ℕ) (k : Binder) → slice_get Γ i ≡ Some k → IsPatternTerm (σ i)
index_opens l Γ σ ν h i universal e = names_pattern (h.names i e)
index_opens l Γ σ ν h i existential e = h.patterns i e

pattern_opens : (l : ℕ) (Γ : List Binder) (σ : ℕ → Term) (ν : ℕ → Name) → Opens l Γ σ ν → (f : Atom → Term) → Fills f → {t : Term} → IsPatternIn Γ t →
    AllAtoms (IsAtLevel l) t → IsPatternTerm (put_both σ f t)
pattern_opens l Γ σ ν h f g (index_in {k = k} i e) w = index_opens l Γ σ ν h i k e
pattern_opens l Γ σ ν h f g (atom_in a) w = g.pattern a
pattern_opens l Γ σ ν h f g (abs_in p) w = of_abs (pattern_opens l (universal ∷ Γ) (up σ) (lifted ν) (opens_up l Γ σ ν h) (raise f) (fills_raise f g) p w)
pattern_opens l Γ σ ν h f g (rigid_in r p q) w = rigid (rigid_opens l Γ σ ν h f g r) (pattern_opens l Γ σ ν h f g p w.0) (pattern_opens l Γ σ ν h f g q w.1)
pattern_opens l Γ σ ν h f g (name_in {n = n} {t = t} u p q new) w =
    on_name (pattern_opens l Γ σ ν h f g p w.0) (names_both σ f g q (image ν n) (at_universal l Γ σ ν h n u)) (new_opens l Γ σ ν h f g n u (name_level l q w.1) t w.0 new)

-- an eigenconstant above the level is new to what stands at it
pub level_above : (l k : ℕ) (a : Atom) → l < k → IsAtLevel l a → IsNewToAtom (free k) a
level_above l k (eigen j) m h = λ q. (let r : j ≡ k = q in let less : j ≤ l = h in omega (arith, m, r, less))
level_above l k (logic x j) m h = let less : j ≤ l = h in let r : j < k = omega (arith, m, less) in r
level_above l k (constant c ts) m h = tt
level_above l k (integer z) m h = tt
level_above l k (text s) m h = tt
level_above l k (param i T) m h = tt

-- the eigenconstant that a term is
abbrev name_of : Term → Name
name_of (atom (eigen k)) = free k
name_of t = bound 0

opening_opens : (l : ℕ) (Γ : List Binder) (σ : ℕ → Term) → IsOpening l Γ σ → Opens l Γ σ (λ i. name_of (σ i))
opening_opens l Γ σ o = record { names = names; patterns = o.existentials; apart = apart; others = others; atoms = atoms }
  where
    is_name : (i k : ℕ) → σ i ≡ atom (eigen k) → name_of (σ i) ≡ free k
    is_name i k e = ap name_of e

    names : (i : ℕ) → slice_get Γ i ≡ Some universal → Names (name_of (σ i)) (σ i)
    names i e = let u = o.universals i e in transport (λ t. Names (name_of t) t) (sym u.1) (an_eigen u.0)

    each : (i j k : ℕ) (b : Binder) → slice_get Γ i ≡ Some b → slice_get Γ j ≡ Some universal → σ j ≡ atom (eigen k) → IsNewAt (Some b) (bound j) i → IsNewTo (free k) (σ i)
    each i j k universal e g is n = o.apart i j k e g is n
    each i j k existential e g is n = o.new i j k e g is n

    apart : (i j : ℕ) (b : Binder) → slice_get Γ i ≡ Some b → slice_get Γ j ≡ Some universal → IsNewAt (Some b) (bound j) i → IsNewTo (name_of (σ j)) (σ i)
    apart i j b e g n = let u = o.universals j g in transport (λ m. IsNewTo m (σ i)) (sym (is_name j u.0 u.1)) (each i j u.0 b e g u.1 n)

    others : (i k : ℕ) → slice_get Γ i ≡ Some universal → k ≤ l → IsNewTo (free k) (σ i)
    others i k e m =
        let u = o.universals i e in
        transport (IsNewTo (free k)) (sym u.1) (λ q. (let r : u.0 ≡ k = q in let less : l < u.0 = u.2 in omega (arith, m, r, less)))

    atoms : (j : ℕ) (a : Atom) → slice_get Γ j ≡ Some universal → IsAtLevel l a → IsNewToAtom (name_of (σ j)) a
    atoms j a e m = let u = o.universals j e in transport (λ n. IsNewToAtom n a) (sym (is_name j u.0 u.1)) (level_above l u.0 a u.2 m)

-- with types for type variables alone
pub types_open : (l : ℕ) (Γ : List Binder) (θ : ℕ → Ty) (t : Term) → IsPatternText l Γ t → (σ : ℕ → Term) → IsOpening l Γ σ → IsPatternTerm (instantiate σ (instance_term θ t))
types_open l Γ θ t h σ o =
    let f = λ (a : Atom). atom (instance_atom θ a) in
    let e : instantiate σ (instance_term θ t) ≡ put_both σ f t = instantiate_subst σ (instance_term θ t) ∙ ap (subst σ) (instance_fill θ t) ∙ both_are_put σ f t in
    transport IsPatternTerm (sym e) (pattern_opens l Γ σ (λ i. name_of (σ i)) (opening_opens l Γ σ o) f (types_fill θ) h.0 h.1)

-- what a closing puts for atoms keeps pattern terms
pub closing_fills : (c : Closing) → HasPatternValues c → Fills (closed_atom c)
closing_fills c v = record { pattern = pattern; new = new; rigid = rigids; eigens = λ k. refl }
  where
    pattern : (a : Atom) → IsPatternTerm (closed_atom c a)
    pattern (logic x l) = (v x l).0
    pattern (constant k ts) = of_atom _
    pattern (integer z) = of_atom _
    pattern (text s) = of_atom _
    pattern (eigen k) = of_atom _
    pattern (param k T) = of_atom _

    value_new : (n : Name) (x l : ℕ) → IsNewToAtom n (logic x l) → IsNewTo n (c.terms x l)
    value_new (bound i) x l k = level_new (IsAtLevel l) 0 (c.terms x l) (v x l).1 i (omega arith)
    value_new (free j) x l k = atoms_new (IsAtLevel l) j (λ a w. level_above l j a k w) 0 (c.terms x l) (v x l).1

    new : (n : Name) (a : Atom) → IsNewToAtom n a → IsNewTo n (closed_atom c a)
    new n (logic x l) k = value_new n x l k
    new n (constant i ts) k = new_instance c.types n (constant i ts) k
    new n (integer z) k = k
    new n (text s) k = k
    new n (eigen j) k = k
    new n (param i T) k = new_instance c.types n (param i T) k

    rigids : (a : Atom) → IsRigidAtom a → IsRigid (closed_atom c a)
    rigids (logic x l) r = absurd r
    rigids (constant k ts) r = rigid_atom _ tt
    rigids (integer z) r = rigid_atom _ tt
    rigids (text s) r = rigid_atom _ tt
    rigids (eigen k) r = rigid_atom _ tt
    rigids (param k T) r = rigid_atom _ tt

pub text_opens : (l : ℕ) (Γ : List Binder) (t : Term) → IsPatternText l Γ t → (c : Closing) → HasPatternValues c → (σ : ℕ → Term) → IsOpening l Γ σ → IsPatternTerm (instantiate σ (closed c t))
text_opens l Γ t h c v σ o = transport IsPatternTerm (sym put) (pattern_opens l Γ σ (λ i. name_of (σ i)) (opening_opens l Γ σ o) (closed_atom c) (closing_fills c v) h.0 h.1)
  where
    -- values are closed
    stays : (a : Atom) → subst σ (closed_atom c a) ≡ closed_atom c a
    stays (logic x k) = subst_closed (IsAtLevel k) σ 0 (λ i m. absurd (omega (arith, m))) (c.terms x k) (v x k).1
    stays (constant k ts) = refl
    stays (integer z) = refl
    stays (text s) = refl
    stays (eigen k) = refl
    stays (param k T) = refl

    put : instantiate σ (closed c t) ≡ put_both σ (closed_atom c) t
    put = instantiate_subst σ (closed c t) ∙ ap (subst σ) (closed_fill c t) ∙ both_are_put σ (closed_atom c) t ∙ ap (λ f. put_both σ f t) (fun_ext stays)
