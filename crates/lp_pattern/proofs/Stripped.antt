-- The eigenconstants to which arguments come: below abstractions a head has to stand on their indices, and each of these is looked at in turn.
use Rattle.std.proofs.Common.{◌≡◌, ℕ, zero, suc, ◌+◌, ◌-◌, ◌<◌, ◌≤◌, List, [], ◌∷◌, map, length, ◌∙◌, refl, sym, ap, subst as transport, arith, Bool, true, false, Option, Some, None, nat_eq, if◌then◌else◌}
use Rattle.std.specs.Prelude.{option_map, nat_lt}
use Rattle.std.proofs.lemmas.Bool.Decides.{nat_tests}
use Rattle.lp_calculus.specs.Term.{Term, index, atom, abs, app, apply, constant, integer, text, eigen, logic, param}
use Rattle.lp_calculus.specs.Normal.{eta_normal}
use Rattle.lp_calculus.proofs.Sigma.{subst}
use Rattle.lp_term.specs.Nodes.{Nodes}
use Rattle.lp_term.specs.Spine.{abstractions}
use Rattle.lp_term.specs.declared.node.TermId.{TermId}
use Rattle.lp_model.specs.Eigens.{beta_normal, eigen_of, as_eigen}
use Rattle.lp_model.specs.Pair.{Closing}
use Rattle.lp_pattern.specs.declared.patterns.Wanted.{Wanted}
use Rattle.lp_pattern.specs.Under.{under}
use Rattle.lp_pattern.specs.Stripping.{Strips, stop, strip, HasForm, Comes, is_name, name_below, eigen_past, is_at, wanted_at, AllFormed, AllCome, IsNamed}
use Rattle.lp_pattern.proofs.Naming.{IsLeaf, AreLeaves}
use Rattle.lp_pattern.proofs.Renewing.{abs_inside}
use Rattle.lp_pattern.proofs.Etas.{contracts, eta_abstractions, eta_apply, descending, leaf_reached, leaf_is, eta_named}
use Rattle.lp_pattern.proofs.BetaForms.{beta_behind, beta_abs, Forms, none, more, leaf_on_arguments, beta_named}

from_abs : (n : ℕ) (b r : Term) → beta_normal n (abs b) ≡ Some r → (s : Term) × (beta_normal n b ≡ Some s) × (r ≡ abs s)
from_abs n b r e = go (beta_normal n b) refl (sym (beta_abs n b) ∙ e)
  where
    go : (o : Option Term) → beta_normal n b ≡ o → option_map abs o ≡ Some r → (s : Term) × (beta_normal n b ≡ Some s) × (r ≡ abs s)
    go None p q = absurd (cc)
    go (Some s) p q = let i : abs s ≡ r = cc in (s, p, sym i)

pub stripped_form : {n : ℕ} {t s : Term} → Strips n t s → (m : ℕ) (r : Term) → beta_normal m t ≡ Some r → (s' : Term) × (beta_normal m s ≡ Some s') × (r ≡ abstractions n s')
stripped_form {t = t} {s = s} (stop k e) m r f = (r, beta_behind k m t s e r f, refl)
stripped_form {t = t} {s = s} (strip {n} k b e h) m r f =
    let w = from_abs m b r (beta_behind k m t (abs b) e r f) in
    let x = stripped_form h m w.0 w.1 in
    (x.0, x.1, w.2 ∙ ap abs x.2 ∙ abs_inside n x.0)

pub leaf_eta : (h : Term) → IsLeaf h → eta_normal h ≡ h
leaf_eta (index i) l = refl
leaf_eta (atom a) l = refl
leaf_eta (abs b) l = absurd l
leaf_eta (app t u) l = absurd l

-- the forms of the arguments, and the form of the whole by them
pub record Formed (m n : ℕ) (h : Term) (ts : List Term) (r : Term) : Type 0 where
  pub forms : List Term
  pub each : Forms m ts forms
  pub whole : eta_normal r ≡ contracts n (apply h (map eta_normal forms))

pub formed : (m n : ℕ) (t h : Term) (ts : List Term) (r : Term) → Strips n t (apply h ts) → IsLeaf h → beta_normal m t ≡ Some r → Formed m n h ts r
formed m n t h ts r s l e =
    let w = stripped_form s m r e in
    let x = leaf_on_arguments m h ts w.0 l w.1 in
    record {
      forms = x.0;
      each = x.2;
      whole =
          ap eta_normal (w.2 ∙ ap (abstractions n) x.1) ∙ eta_abstractions n (apply h x.0) ∙
          ap (contracts n) (eta_apply x.0 h ∙ ap (λ g. apply g (map eta_normal x.0)) (leaf_eta h l));
    }

-- names are leaves
name_leaf : (x : Term) → is_name x ≡ true → IsLeaf x
name_leaf (index i) e = tt
name_leaf (atom a) e = tt
name_leaf (abs b) e = absurd (cc)
name_leaf (app t u) e = absurd (cc)

name_stays : (n : ℕ) (x : Term) → is_name x ≡ true → is_name (name_below n x) ≡ true
name_stays n (index i) e = refl
name_stays n (atom a) e = e
name_stays n (abs b) e = absurd (cc)
name_stays n (app t u) e = absurd (cc)

same_form : (m : ℕ) (t r s : Term) → beta_normal m t ≡ Some r → beta_normal m t ≡ Some s → s ≡ r
same_form m t r s e f = let q : Some r ≡ Some s = sym e ∙ f in let i : r ≡ s = cc in sym i

forms_length : {m : ℕ} {ts ss : List Term} → Forms m ts ss → length ts ≡ length ss
forms_length none = refl
forms_length (more e f) = ap suc (forms_length f)

eta_length : (ss : List Term) → length (map eta_normal ss) ≡ length ss
eta_length [] = refl
eta_length (s ∷ ss) = ap suc (eta_length ss)

mutual
  unfolding descending

  descending_length : (n : ℕ) → length (descending n) ≡ n
  descending_length zero = refl
  descending_length (suc n) = ap suc (descending_length n)

-- a head that does not stand on as many arguments, or is no name
pub other_count : (m n : ℕ) (t h : Term) (ts : List Term) → Strips n t (apply h ts) → IsLeaf h → (length ts ≡ n → ⊥) → (x : Term) → is_name x ≡ true → Comes m t x → ⊥
other_count m n t h ts s l d x e c =
    let w = formed m n t h ts c.0 s l c.1 in
    let y = leaf_reached n h (map eta_normal w.forms) x l (name_leaf x e) (sym w.whole ∙ c.2) in
    d (forms_length w.each ∙ sym (eta_length w.forms) ∙ ap length y.0 ∙ descending_length n)

pub no_name : (m n : ℕ) (t h : Term) (ts : List Term) → Strips n t (apply h ts) → IsLeaf h → is_name h ≡ false → (x : Term) → is_name x ≡ true → Comes m t x → ⊥
no_name m n t h ts s l d x e c =
    let w = formed m n t h ts c.0 s l c.1 in
    let y = leaf_reached n h (map eta_normal w.forms) x l (name_leaf x e) (sym w.whole ∙ c.2) in
    let z : true ≡ false = sym (name_stays n x e) ∙ ap is_name y.1 ∙ d in
    absurd (cc)

-- the arguments that are to come to their indices
all_formed : (m n : ℕ) (b : Nodes) (c : Closing) (ids : List TermId) (ss : List Term) → Forms m (map (under b c) ids) ss → AllFormed m b c (wanted_at n ids)
all_formed m n b c [] ss f = tt
all_formed m n b c (t ∷ ids) [] f = absurd (elim f [ ])
all_formed m n b c (t ∷ ids) (s ∷ ss) (more e f) = ((s, e), all_formed m (n - 1) b c ids ss f)

mutual
  unfolding descending

  all_come : (m n : ℕ) (b : Nodes) (c : Closing) (ids : List TermId) (ss : List Term) → Forms m (map (under b c) ids) ss → map eta_normal ss ≡ descending n → AllCome m b c (wanted_at n ids)
  all_come m n b c [] ss f q = tt
  all_come m n b c (t ∷ ids) [] f q = absurd (elim f [ ])
  all_come m zero b c (t ∷ ids) (s ∷ ss) f q = absurd (cc)
  all_come m (suc n) b c (t ∷ ids) (s ∷ ss) (more e f) q =
      let p : eta_normal s ≡ index n = cc in
      let r : map eta_normal ss ≡ descending n = cc in
      let z : n ≡ suc n - 1 = omega arith in
      ((s, e, p ∙ ap index z), transport (λ k. AllCome m b c (wanted_at k ids)) z (all_come m n b c ids ss f r))

mutual
  unfolding descending

  they_come : (m n : ℕ) (b : Nodes) (c : Closing) (ids : List TermId) (ss : List Term) → length ids ≡ n → Forms m (map (under b c) ids) ss → AllCome m b c (wanted_at n ids) → map eta_normal ss ≡ descending n
  they_come m n b c [] [] l f a = ap descending l
  they_come m n b c [] (s ∷ ss) l f a = absurd (elim f [ ])
  they_come m n b c (t ∷ ids) [] l f a = absurd (elim f [ ])
  they_come m zero b c (t ∷ ids) (s ∷ ss) l f a = absurd (omega (arith, l))
  they_come m (suc n) b c (t ∷ ids) (s ∷ ss) l (more e f) a =
      let z : suc n - 1 ≡ n = omega arith in
      let p : eta_normal s ≡ index n = ap eta_normal (sym (same_form m (under b c t) s a.0.0 e a.0.1)) ∙ a.0.2 ∙ ap index z in
      let r = they_come m n b c ids ss (omega (arith, l)) f (transport (λ k. AllCome m b c (wanted_at k ids)) z a.1) in
      λ i. p i ∷ r i

pub named : (m n : ℕ) (t : Term) (b : Nodes) (c : Closing) (h : Term) (ids : List TermId) → HasForm m t → Strips n t (apply h (map (under b c) ids)) → IsLeaf h → length ids ≡ n → IsNamed m t b c h n (wanted_at n ids)
named m n t b c h ids f s l q =
    let w = formed m n t h (map (under b c) ids) f.0 s l f.1 in
    record {
      formed = all_formed m n b c ids w.forms w.each;
      there = λ x e k.
          let y = leaf_reached n h (map eta_normal w.forms) x l (name_leaf x e) (sym w.whole ∙ ap eta_normal (sym (same_form m t f.0 k.0 f.1 k.1)) ∙ k.2) in
          (y.1, all_come m n b c ids w.forms w.each y.0);
      back = λ x e k a. (
        f.0,
        f.1,
        w.whole ∙ (λ i. contracts n (apply (sym k i) (they_come m n b c ids w.forms q w.each a i))) ∙ leaf_is n x (name_leaf x e),
      );
    }

-- the whole argument
pub by_form : (σ : ℕ → Term) → AreLeaves σ → (m : ℕ) (t : Term) (o : Option ℕ) → as_eigen m (subst σ t) ≡ Some o → (r : Term) × (beta_normal m t ≡ Some r) × (o ≡ eigen_of (subst σ (eta_normal r)))
by_form σ l m t o e = go (beta_normal m t) refl (sym (ap (option_map (λ s. eigen_of (eta_normal s))) (beta_named σ l m t)) ∙ e)
  where
    go : (p : Option Term) → beta_normal m t ≡ p → option_map (λ s. eigen_of (eta_normal s)) (option_map (subst σ) (beta_normal m t)) ≡ Some o → (r : Term) × (beta_normal m t ≡ Some r) × (o ≡ eigen_of (subst σ (eta_normal r)))
    go None p q = absurd (let x : None ≡ Some o = sym (ap (λ y. option_map (λ s. eigen_of (eta_normal s)) (option_map (subst σ) y)) p) ∙ q in cc)
    go (Some r) p q =
        let x : Some (eigen_of (eta_normal (subst σ r))) ≡ Some o = sym (ap (λ y. option_map (λ s. eigen_of (eta_normal s)) (option_map (subst σ) y)) p) ∙ q in
        let i : eigen_of (eta_normal (subst σ r)) ≡ o = cc in
        (r, p, sym i ∙ ap eigen_of (eta_named σ l r))

no_eigen : (σ : ℕ → Term) (x : Term) → is_name x ≡ false → eigen_of (subst σ x) ≡ None
no_eigen σ (index i) e = absurd (cc)
no_eigen σ (atom (constant k ts)) e = refl
no_eigen σ (atom (integer z)) e = refl
no_eigen σ (atom (text s)) e = refl
no_eigen σ (atom (eigen k)) e = absurd (cc)
no_eigen σ (atom (logic x l)) e = refl
no_eigen σ (atom (param k t)) e = refl
no_eigen σ (abs b) e = refl
no_eigen σ (app t u) e = refl

-- where it comes to no name it is no eigenconstant
pub comes_to_none : (σ : ℕ → Term) → AreLeaves σ → (m : ℕ) (t : Term) (o : Option ℕ) → as_eigen m (subst σ t) ≡ Some o → ((x : Term) → is_name x ≡ true → Comes m t x → ⊥) → o ≡ None
comes_to_none σ l m t o e h = let w = by_form σ l m t o e in w.2 ∙ go w.0 w.1 (is_name (eta_normal w.0)) refl
  where
    go : (r : Term) → beta_normal m t ≡ Some r → (b : Bool) → is_name (eta_normal r) ≡ b → eigen_of (subst σ (eta_normal r)) ≡ None
    go r f true q = absurd (h (eta_normal r) q (r, f, refl))
    go r f false q = no_eigen σ (eta_normal r) q

pub comes_to : (σ : ℕ → Term) → AreLeaves σ → (m : ℕ) (t : Term) (o : Option ℕ) (x : Term) → as_eigen m (subst σ t) ≡ Some o → Comes m t x → o ≡ eigen_of (subst σ x)
comes_to σ l m t o x e c = let w = by_form σ l m t o e in w.2 ∙ ap (λ s. eigen_of (subst σ (eta_normal s))) (sym (same_form m t w.0 c.0 w.1 c.1)) ∙ ap (λ s. eigen_of (subst σ s)) c.2

-- what the head says, where the arguments come to their indices
pub found_at : (σ : ℕ → Term) → AreLeaves σ → (m n : ℕ) (t : Term) (b : Nodes) (c : Closing) (h : Term) (ws : List Wanted) (o : Option ℕ) → as_eigen m (subst σ t) ≡ Some o → is_name h ≡ true →
    IsNamed m t b c h n ws → AllCome m b c ws → o ≡ eigen_past n σ h
found_at σ l m n t b c (index i) ws o e q k a = go (nat_lt i n) refl
  where
    go : (d : Bool) → nat_lt i n ≡ d → o ≡ (if d then None else eigen_of (σ (i - n)))
    go true p = comes_to_none σ l m t o e (λ x y z. apart x y (k.there x y z).0)
      where
        apart : (x : Term) → is_name x ≡ true → name_below n x ≡ index i → ⊥
        apart (index j) y z = let w : j + n ≡ i = cc in let u : i < n = grind (arith, nat_tests) in absurd (omega (arith, w, u))
        apart (atom a) y z = absurd (cc)
        apart (abs a) y z = absurd (cc)
        apart (app t u) y z = absurd (cc)
    go false p =
        let z : (i - n) + n ≡ i = (let u : n ≤ i = grind (arith, nat_tests) in omega (arith, u)) in
        comes_to σ l m t o (index (i - n)) e (k.back (index (i - n)) refl (ap index z) a)
found_at σ l m n t b c (atom x) ws o e q k a = comes_to σ l m t o (atom x) e (k.back (atom x) q refl a)
found_at σ l m n t b c (abs x) ws o e q k a = absurd (cc)
found_at σ l m n t b c (app x y) ws o e q k a = absurd (cc)

pub not_all : (σ : ℕ → Term) → AreLeaves σ → (m n : ℕ) (t : Term) (b : Nodes) (c : Closing) (h : Term) (ws : List Wanted) (o : Option ℕ) → as_eigen m (subst σ t) ≡ Some o → IsNamed m t b c h n ws →
    (AllCome m b c ws → ⊥) → o ≡ None
not_all σ l m n t b c h ws o e k d = comes_to_none σ l m t o e (λ x y z. d (k.there x y z).1)

-- one of the arguments
at_place : (place n : ℕ) (h : Term) → is_at place n h ≡ true → name_below n (index place) ≡ h
at_place place n (index i) e = let z : place + n ≡ i = (let u : i ≡ place + n = grind (arith, nat_tests) in sym u) in ap index z
at_place place n (atom a) e = absurd (cc)
at_place place n (abs b) e = absurd (cc)
at_place place n (app t u) e = absurd (cc)

not_at_place : (place n : ℕ) (h : Term) → is_at place n h ≡ false → name_below n (index place) ≡ h → ⊥
not_at_place place n (index i) e q = let z : place + n ≡ i = cc in let u : nat_eq i (place + n) ≡ true = grind (arith, nat_tests) in let w : true ≡ false = sym u ∙ e in absurd (cc)
not_at_place place n (atom a) e q = absurd (cc)
not_at_place place n (abs b) e q = absurd (cc)
not_at_place place n (app t u) e q = absurd (cc)

pub comes_if : (m n place : ℕ) (t : Term) (b : Nodes) (c : Closing) (h : Term) (ws : List Wanted) → IsNamed m t b c h n ws → is_at place n h ≡ true → AllCome m b c ws → Comes m t (index place)
comes_if m n place t b c h ws k e a = k.back (index place) refl (at_place place n h e) a

pub comes_only : (m n place : ℕ) (t : Term) (b : Nodes) (c : Closing) (h : Term) (ws : List Wanted) → IsNamed m t b c h n ws → Comes m t (index place) → AllCome m b c ws
comes_only m n place t b c h ws k e = (k.there (index place) refl e).1

pub comes_never : (m n place : ℕ) (t : Term) (b : Nodes) (c : Closing) (h : Term) (ws : List Wanted) → IsNamed m t b c h n ws → is_at place n h ≡ false → Comes m t (index place) → ⊥
comes_never m n place t b c h ws k e a = not_at_place place n h e (k.there (index place) refl a).0
