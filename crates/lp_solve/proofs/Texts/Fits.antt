-- A formula of which no part is amiss has the form of a goal or of a clause, by so many levels.
use Rattle.std.proofs.Common.{◌≡◌, ℕ, zero, suc, ◌+◌, ◌<◌, ◌≤◌, List, [], ◌∷◌, Bool, true, false, refl, sym, ap, ◌∙◌, subst, arith}
use Rattle.std.specs.Prelude.{◌&&◌, not, if◌then◌else◌, nat_eq, nat_lt, Contains, Option}
use Rattle.lp_lemmas.proofs.Elements.{Contains_head, Contains_tail}
use Rattle.lp_calculus.specs.Types.{Ty}
use Rattle.lp_calculus.specs.Term.{Term, index, atom, abs, app, constant, integer, text, eigen, logic, param, shift, raised}
use Rattle.lp_calculus.specs.Typing.{Scheme}
use Rattle.lp_calculus.specs.Spine.{head_of, arguments, arguments_and}
use Rattle.lp_standard.specs.Connectives.{Connective, connective_of, connective_at, connective_of_constant, body_of}
use Rattle.lp_standard.specs.Connectives as connective
use Rattle.lp_standard.specs.Positive.{is_positive}
use Rattle.lp_model.specs.Flatten.{is_goal_head, is_clause_head}
use Rattle.lp_module.specs.Form.{Part, HasNoPart, itself, deeper, below, inside, in_goal, parts_by, parts_of, is_in_term, is_other, is_term_by, has_form_by}

abbrev pub headed : (ℕ → Option Scheme) → (goal : Bool) → List Bool → Term → Bool
headed d g B h = if g then is_goal_head h else is_clause_head d B h

-- by what holds of the parts
abbrev pub fits_by : (rec : Bool → List Bool → Term → Bool) → (ℕ → Option Scheme) → (goal : Bool) → List Bool → Term → Connective → Bool
fits_by rec d g B t connective.True = g
fits_by rec d g B t connective.Cut = g
fits_by rec d g B t (connective.And a b) = rec g B a && rec g B b
fits_by rec d g B t (connective.Or a b) = g && (rec g B a && rec g B b)
fits_by rec d g B t (connective.Implies c e) = rec (not g) B c && rec g B e
fits_by rec d g B t (connective.ForAll T b) = rec g (g ∷ B) b
fits_by rec d g B t (connective.Exists T b) = g && rec g (false ∷ B) b
fits_by rec d g B t (connective.Not e) = g && rec true B e
fits_by rec d g B t connective.Atomic = is_positive t && headed d g B (head_of t)

abbrev pub fits : (ℕ → Option Scheme) → ℕ → (goal : Bool) → List Bool → Term → Bool
fits d zero g B t = false
fits d (suc n) g B t = fits_by (fits d n) d g B t (connective_of t)

pub both : (p q : Bool) → p ≡ true → q ≡ true → (p && q) ≡ true
both true q e f = f
both false q e f = cc

-- how many atoms stand in a term
abbrev pub atoms : Term → ℕ
atoms (index i) = 0
atoms (atom a) = 1
atoms (abs b) = atoms b
atoms (app t u) = atoms t + atoms u

abbrev atoms_in : List Term → ℕ
atoms_in [] = 0
atoms_in (t ∷ ts) = atoms t + atoms_in ts

raised_atoms : (k by i : ℕ) → atoms (raised by k i) ≡ 0
raised_atoms k by i = go (nat_lt i k)
  where
    go : (c : Bool) → atoms (if c then index i else index (i + by)) ≡ 0
    go true = refl
    go false = refl

shift_atoms : (k by : ℕ) (t : Term) → atoms (shift k by t) ≡ atoms t
shift_atoms k by (index i) = raised_atoms k by i
shift_atoms k by (atom a) = refl
shift_atoms k by (abs b) = shift_atoms (suc k) by b
shift_atoms k by (app t u) = ap (λ n. n + atoms (shift k by u)) (shift_atoms k by t) ∙ ap (λ n. atoms t + n) (shift_atoms k by u)

body_atoms : (t : Term) → atoms (body_of t) ≡ atoms t
body_atoms (abs b) = refl
body_atoms (index i) = let e = shift_atoms 0 1 (index i) in omega (arith, e)
body_atoms (atom a) = omega arith
body_atoms (app t u) = let e = shift_atoms 0 1 (app t u) in omega (arith, e)

spine_atoms : (t : Term) (more : List Term) → atoms (head_of t) + atoms_in (arguments_and t more) ≡ atoms t + atoms_in more
spine_atoms (index i) more = refl
spine_atoms (atom a) more = refl
spine_atoms (abs b) more = refl
spine_atoms (app t u) more = let e = spine_atoms t (u ∷ more) in omega (arith, e)

-- those of the parts that a connective has
abbrev pub weight : Connective → ℕ
weight connective.True = 0
weight connective.Cut = 0
weight (connective.And a b) = atoms a + atoms b
weight (connective.Or a b) = atoms a + atoms b
weight (connective.Implies a b) = atoms a + atoms b
weight (connective.ForAll T b) = atoms b
weight (connective.Exists T b) = atoms b
weight (connective.Not g) = atoms g
weight connective.Atomic = 0

if_weight : (n : ℕ) (p : Bool) (x y : Connective) → weight x ≤ n → weight y ≤ n → weight (if p then x else y) ≤ n
if_weight n true x y h k = h
if_weight n false x y h k = k

none_weight : (n : ℕ) → 0 ≤ n
none_weight n = omega arith

constant_weight : (c : ℕ) (ts : List Ty) (us : List Term) → weight (connective_of_constant c ts us) ≤ atoms_in us
constant_weight c ts [] = if_weight 0 (nat_eq c 6) connective.True (if nat_eq c 7 then connective.Cut else connective.Atomic) (omega arith)
    (if_weight 0 (nat_eq c 7) connective.Cut connective.Atomic (omega arith) (omega arith))
constant_weight c (T ∷ []) (a ∷ []) =
    let e = body_atoms a in
    let l : atoms (body_of a) ≤ atoms_in (a ∷ []) = omega (arith, e) in
    if_weight (atoms_in (a ∷ [])) (nat_eq c 4) (connective.ForAll T (body_of a)) (if nat_eq c 5 then connective.Exists T (body_of a) else connective.Atomic) l
    (if_weight (atoms_in (a ∷ [])) (nat_eq c 5) (connective.Exists T (body_of a)) connective.Atomic l (omega arith))
constant_weight c [] (a ∷ []) = if_weight (atoms_in (a ∷ [])) (nat_eq c 24) (connective.Not a) connective.Atomic (omega arith) (omega arith)
constant_weight c [] (a ∷ b ∷ []) =
    let n = atoms_in (a ∷ b ∷ []) in
    let l : atoms a + atoms b ≤ n = omega arith in
    let r : atoms b + atoms a ≤ n = omega arith in
    if_weight n (nat_eq c 0) (connective.And a b) (if nat_eq c 1 then connective.Or a b else
    (if nat_eq c 2 then connective.Implies a b else (if nat_eq c 3 then connective.Implies b a else connective.Atomic))) l
    (if_weight n (nat_eq c 1) (connective.Or a b) (if nat_eq c 2 then connective.Implies a b else (if nat_eq c 3 then connective.Implies b a else connective.Atomic)) l
    (if_weight n (nat_eq c 2) (connective.Implies a b) (if nat_eq c 3 then connective.Implies b a else connective.Atomic) l
    (if_weight n (nat_eq c 3) (connective.Implies b a) connective.Atomic r (none_weight n))))
constant_weight c (T ∷ U ∷ ts) (a ∷ []) = none_weight _
constant_weight c (T ∷ []) (a ∷ b ∷ []) = none_weight _
constant_weight c (T ∷ U ∷ ts) (a ∷ b ∷ []) = none_weight _
constant_weight c [] (a ∷ b ∷ x ∷ us) = none_weight _
constant_weight c (T ∷ []) (a ∷ b ∷ x ∷ us) = none_weight _
constant_weight c (T ∷ U ∷ ts) (a ∷ b ∷ x ∷ us) = none_weight _

-- a connective
abbrev pub IsTaken : Connective → Type 0
IsTaken connective.Atomic = ⊥
IsTaken _ = Unit {0}

head_weight : (h : Term) (us : List Term) → IsTaken (connective_at h us) → weight (connective_at h us) < atoms h + atoms_in us
head_weight (atom (constant c ts)) us x = let l = constant_weight c ts us in omega (arith, l)
head_weight (atom (integer z)) us x = absurd (x)
head_weight (atom (text s)) us x = absurd (x)
head_weight (atom (eigen k)) us x = absurd (x)
head_weight (atom (logic i l)) us x = absurd (x)
head_weight (atom (param k T)) us x = absurd (x)
head_weight (index i) us x = absurd (x)
head_weight (abs b) us x = absurd (x)
head_weight (app t u) us x = absurd (x)

pub parts_smaller : (t : Term) (f : Connective) → connective_of t ≡ f → IsTaken f → weight f < atoms t
parts_smaller t f e x =
    let l = head_weight (head_of t) (arguments t) (subst IsTaken (sym e) x) in
    let s = spine_atoms t [] in
    let w : weight (connective_of t) ≡ weight f = ap weight e in
    omega (arith, l, s, w)

-- nothing is amiss
pub record IsGood (d : ℕ → Option Scheme) (p : Part) : Type 0 where
  pub positive : HasNoPart is_in_term p
  pub formed : HasNoPart (is_other d) p

good_part : (d : ℕ → Option Scheme) (p q : Part) → IsGood d p → Contains (parts_of p) q → IsGood d q
good_part d p q g c = record { positive = λ r i. g.positive r (deeper p q r c i); formed = λ r i. g.formed r (deeper p q r c i) }

not_false : (b : Bool) → not b ≡ false → b ≡ true
not_false true e = refl
not_false false e = cc

in_goal_has : (g : Bool) (ps : List Part) (q : Part) → g ≡ true → Contains ps q → Contains (in_goal g ps) q
in_goal_has true ps q e c = c
in_goal_has false ps q e c = cc

-- one part, or two
alone : (x : Part) → Contains (x ∷ []) x
alone x = Contains_head x []

first_of : (x y : Part) → Contains (x ∷ y ∷ []) x
first_of x y = Contains_head x (y ∷ [])

second_of : (x y : Part) → Contains (x ∷ y ∷ []) y
second_of x y = Contains_tail x y (y ∷ []) (Contains_head y [])

module _ (d : ℕ → Option Scheme) (n : ℕ) (ih : (q : Part) → atoms q.formula < n → IsGood d q → fits d n q.goal q.binders q.formula ≡ true) (p : Part)
    (l : atoms p.formula < suc n) (g : IsGood d p) where
  part : (f : Connective) → connective_of p.formula ≡ f → (q : Part) → Contains (parts_by p f) q → IsGood d q
  part f e q c = good_part d p q g (subst (λ f. Contains (parts_by p f) q) (sym e) c)

  good_by : (f : Connective) → connective_of p.formula ≡ f → has_form_by d p f ≡ true → fits_by (fits d n) d p.goal p.binders p.formula f ≡ true
  good_by connective.True e h = h
  good_by connective.Cut e h = h
  good_by (connective.And a b) e h =
      let s = parts_smaller p.formula (connective.And a b) e tt in
      both _ _ (ih (below p p.goal a) (omega (arith, s, l)) (part (connective.And a b) e (below p p.goal a) (first_of (below p p.goal a) (below p p.goal b))))
      (ih (below p p.goal b) (omega (arith, s, l)) (part (connective.And a b) e (below p p.goal b) (second_of (below p p.goal a) (below p p.goal b))))
  good_by (connective.Or a b) e h =
      let s = parts_smaller p.formula (connective.Or a b) e tt in
      both _ _ h (both _ _ (ih (below p p.goal a) (omega (arith, s, l)) (part (connective.Or a b) e (below p p.goal a)
      (in_goal_has p.goal (below p p.goal a ∷ below p p.goal b ∷ []) (below p p.goal a) h (first_of (below p p.goal a) (below p p.goal b)))))
      (ih (below p p.goal b) (omega (arith, s, l)) (part (connective.Or a b) e (below p p.goal b)
      (in_goal_has p.goal (below p p.goal a ∷ below p p.goal b ∷ []) (below p p.goal b) h (second_of (below p p.goal a) (below p p.goal b))))))
  good_by (connective.Implies a b) e h =
      let s = parts_smaller p.formula (connective.Implies a b) e tt in
      both _ _ (ih (below p (not p.goal) a) (omega (arith, s, l)) (part (connective.Implies a b) e (below p (not p.goal) a) (first_of (below p (not p.goal) a) (below p p.goal b))))
      (ih (below p p.goal b) (omega (arith, s, l)) (part (connective.Implies a b) e (below p p.goal b) (second_of (below p (not p.goal) a) (below p p.goal b))))
  good_by (connective.ForAll T b) e h =
      let s = parts_smaller p.formula (connective.ForAll T b) e tt in
      ih (inside p p.goal b) (omega (arith, s, l)) (part (connective.ForAll T b) e (inside p p.goal b) (alone (inside p p.goal b)))
  good_by (connective.Exists T b) e h =
      let s = parts_smaller p.formula (connective.Exists T b) e tt in
      both _ _ h (ih (inside p false b) (omega (arith, s, l)) (part (connective.Exists T b) e (inside p false b)
      (in_goal_has p.goal (inside p false b ∷ []) (inside p false b) h (alone (inside p false b)))))
  good_by (connective.Not a) e h =
      let s = parts_smaller p.formula (connective.Not a) e tt in
      both _ _ h (ih (below p true a) (omega (arith, s, l)) (part (connective.Not a) e (below p true a) (in_goal_has p.goal (below p true a ∷ []) (below p true a) h (alone (below p true a)))))
  good_by connective.Atomic e h =
      both _ _ (not_false _ (subst (λ f. (is_term_by p.goal f && not (is_positive p.formula)) ≡ false) e (g.positive p (itself p)))) h

pub good_fits : (d : ℕ → Option Scheme) (n : ℕ) (p : Part) → atoms p.formula < n → IsGood d p → fits d n p.goal p.binders p.formula ≡ true
good_fits d zero p l g = absurd (omega arith)
good_fits d (suc n) p l g = good_by d n (good_fits d n) p l g (connective_of p.formula) refl (not_false _ (g.formed p (itself p)))
