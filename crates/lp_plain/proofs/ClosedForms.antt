-- The connective of a term whose head is seen, as the bindings read it.
use Rattle.std.proofs.Common.{◌≡◌, ℕ, zero, suc, List, [], ◌∷◌, map, refl, sym, ap, ◌∙◌, subst, nat_eq, Bool, true, false, Option, None, Some, if◌then◌else◌}
use Rattle.indexmap.specs.IndexMap.{get}
use Rattle.lp_calculus.specs.Types.{Ty, instance}
use Rattle.lp_calculus.specs.Term.{Term, index, atom, abs, app, constant, integer, text, eigen, logic, param}
use Rattle.lp_calculus.specs.Convert.{head_step, option_term, steps}
use Rattle.lp_calculus.specs.Spine.{head_of, arguments_and}
use Rattle.lp_standard.specs.Connectives.{Connective, body_of, connective_at, connective_of, connective_of_constant}
use Rattle.lp_standard.specs.Connectives as connective
use Rattle.lp_standard.specs.Numbers as number
use Rattle.lp_term.specs.Nodes.{Nodes}
use Rattle.lp_model.specs.Look.{head_normal}
use Rattle.lp_model.specs.Pair.{Closing, closed}
use Rattle.lp_pattern.specs.Seen.{IsEndedHead}
use Rattle.lp_pattern.specs.Under.{IsReading, ValueIs}
use Rattle.lp_pattern.specs.declared.bindings.Bindings.{Bindings}

-- the same connective of what its parts are
pub data IsFormUnder (z : Closing) : Connective → Connective → Type 0 where
  a_truth : IsFormUnder z connective.True connective.True
  a_cut : IsFormUnder z connective.Cut connective.Cut
  an_and : (l r : Term) → IsFormUnder z (connective.And l r) (connective.And (closed z l) (closed z r))
  an_or : (l r : Term) → IsFormUnder z (connective.Or l r) (connective.Or (closed z l) (closed z r))
  an_implies : (l r : Term) → IsFormUnder z (connective.Implies l r) (connective.Implies (closed z l) (closed z r))
  a_pi : (T : Ty) (s : Term) → IsFormUnder z (connective.ForAll T (body_of s)) (connective.ForAll (instance z.types T) (body_of (closed z s)))
  a_sigma : (T : Ty) (s : Term) → IsFormUnder z (connective.Exists T (body_of s)) (connective.Exists (instance z.types T) (body_of (closed z s)))
  a_not : (g : Term) → IsFormUnder z (connective.Not g) (connective.Not (closed z g))
  an_atom : IsFormUnder z connective.Atomic connective.Atomic

abbrev pub IsNoAbs : Term → Type 0
IsNoAbs (index i) = Unit {0}
IsNoAbs (atom a) = Unit {0}
IsNoAbs (abs b) = ⊥
IsNoAbs (app t u) = Unit {0}

if_under : (z : Closing) (t : Bool) (a b c d : Connective) → IsFormUnder z a b → IsFormUnder z c d → IsFormUnder z (if t then a else c) (if t then b else d)
if_under z true a b c d h g = h
if_under z false a b c d h g = g

constant_under : (z : Closing) (c : ℕ) (ts : List Ty) (us : List Term) → IsFormUnder z (connective_of_constant c ts us) (connective_of_constant c (map (instance z.types) ts) (map (closed z) us))
constant_under z c [] [] = if_under z (nat_eq c number.True) _ _ _ _ a_truth (if_under z (nat_eq c number.Cut) _ _ _ _ a_cut an_atom)
constant_under z c (T ∷ ts) [] = if_under z (nat_eq c number.True) _ _ _ _ a_truth (if_under z (nat_eq c number.Cut) _ _ _ _ a_cut an_atom)
constant_under z c [] (a ∷ []) = if_under z (nat_eq c number.Not) _ _ _ _ (a_not a) an_atom
constant_under z c (T ∷ []) (a ∷ []) = if_under z (nat_eq c number.ForAll) _ _ _ _ (a_pi T a) (if_under z (nat_eq c number.Exists) _ _ _ _ (a_sigma T a) an_atom)
constant_under z c (T ∷ U ∷ ts) (a ∷ []) = an_atom
constant_under z c [] (a ∷ b ∷ []) =
    if_under z (nat_eq c number.And) _ _ _ _ (an_and a b) (if_under z (nat_eq c number.Or) _ _ _ _ (an_or a b)
    (if_under z (nat_eq c number.Implies) _ _ _ _ (an_implies a b) (if_under z (nat_eq c number.If) _ _ _ _ (an_implies b a) an_atom)))
constant_under z c (T ∷ []) (a ∷ b ∷ []) = an_atom
constant_under z c (T ∷ U ∷ ts) (a ∷ b ∷ []) = an_atom
constant_under z c [] (a ∷ b ∷ d ∷ us) = an_atom
constant_under z c (T ∷ []) (a ∷ b ∷ d ∷ us) = an_atom
constant_under z c (T ∷ U ∷ ts) (a ∷ b ∷ d ∷ us) = an_atom

-- no step at its top, and no abstraction
abbrev pub IsStuck : Term → Type 0
IsStuck t = (head_step t ≡ None) × IsNoAbs t

stuck_app : (t u : Term) → IsStuck t → IsStuck (app t u)
stuck_app (index i) u h = (refl, tt)
stuck_app (atom a) u h = (refl, tt)
stuck_app (abs b) u h = absurd h.1
stuck_app (app t v) u h = (ap (option_term (λ s. app s u)) h.0, tt)

-- the one end of head reduction
pub same_end : (k n : ℕ) (T F t : Term) → steps head_step k T ≡ Some F → head_step F ≡ None → head_normal n T ≡ Some t → t ≡ F
same_end k zero T F t e f h = absurd (cc)
same_end zero (suc n) T F t e f h =
    let q : T ≡ F = (let z : Some T ≡ Some F = e in cc) in
    let r : head_step T ≡ None = ap head_step q ∙ f in
    let z : Some T ≡ Some t = sym (ap (λ (o : Option Term). elim o as (λ x. Option Term) [ None ↦ Some T | Some s ↦ head_normal n s ]) r) ∙ h in
    let y : T ≡ t = cc in
    sym y ∙ q
same_end (suc k) (suc n) T F t e f h =
    elim (head_step T) as (λ o. (elim o [ None ↦ None | Some s ↦ steps head_step k s ]) ≡ Some F → (elim o [ None ↦ Some T | Some s ↦ head_normal n s ]) ≡ Some t → t ≡ F) [
      | None ↦ λ p q. absurd (cc)
      | Some s ↦ λ p q. same_end k n s F t p f q
    ] e h

-- from a term between
pub rest_of : (i k : ℕ) (T w F : Term) → steps head_step i T ≡ Some w → steps head_step k T ≡ Some F → head_step F ≡ None → (j : ℕ) × (steps head_step j w ≡ Some F)
rest_of zero k T w F e h f = let q : T ≡ w = (let z : Some T ≡ Some w = e in cc) in (k, subst (λ x. steps head_step k x ≡ Some F) q h)
rest_of (suc i) zero T w F e h f =
    let y : T ≡ F = (let z : Some T ≡ Some F = h in cc) in
    let x : head_step T ≡ None = ap head_step y ∙ f in
    absurd (let z : None ≡ Some w = sym (ap (λ (o : Option Term). elim o as (λ x. Option Term) [ None ↦ None | Some s ↦ steps head_step i s ]) x) ∙ e in cc)
rest_of (suc i) (suc k) T w F e h f =
    elim (head_step T) as (λ o. (elim o [ None ↦ None | Some s ↦ steps head_step i s ]) ≡ Some w → (elim o [ None ↦ None | Some s ↦ steps head_step k s ]) ≡ Some F → (j : ℕ) × (steps head_step j w ≡ Some F)) [
      | None ↦ λ p q. absurd (cc)
      | Some s ↦ λ p q. rest_of i k s w F p q f
    ] e h

-- a term with a head that is neither bound nor to be contracted
module _ (b : Nodes) (s : Bindings) (z : Closing) (r : IsReading b s z) where
  free_variable : (x l : ℕ) → get nat_eq s.terms x ≡ None → z.terms x l ≡ atom (logic x l)
  free_variable x l e = subst (λ o. ValueIs b z x o) e (r.terms x) l

  at_variable : (x l : ℕ) (v : Term) (us ws : List Term) → v ≡ atom (logic x l) → IsFormUnder z connective.Atomic (connective_at (head_of v) (arguments_and v ws))
  at_variable x l v us ws e = subst (λ y. IsFormUnder z connective.Atomic (connective_at (head_of y) (arguments_and y ws))) (sym e) an_atom

  form_and : (t : Term) (us : List Term) → IsEndedHead s t → IsFormUnder z (connective_at (head_of t) (arguments_and t us)) (connective_at (head_of (closed z t)) (arguments_and (closed z t) (map (closed z) us)))
  form_and (index i) us h = an_atom
  form_and (atom (constant c ts)) us h = constant_under z c ts us
  form_and (atom (integer j)) us h = an_atom
  form_and (atom (text x)) us h = an_atom
  form_and (atom (eigen k)) us h = an_atom
  form_and (atom (logic x l)) us h = at_variable x l (z.terms x l) us (map (closed z) us) (free_variable x l h)
  form_and (atom (param k T)) us h = an_atom
  form_and (abs c) us h = absurd h
  form_and (app t u) us h = form_and t (u ∷ us) h

  pub form_under : (t : Term) → IsEndedHead s t → IsFormUnder z (connective_of t) (connective_of (closed z t))
  form_under t h = form_and t [] h

  -- it is head-normal as the bindings read it
  pub ended_closed : (t : Term) → IsEndedHead s t → IsStuck (closed z t)
  ended_closed (index i) h = (refl, tt)
  ended_closed (atom (constant c ts)) h = (refl, tt)
  ended_closed (atom (integer j)) h = (refl, tt)
  ended_closed (atom (text x)) h = (refl, tt)
  ended_closed (atom (eigen k)) h = (refl, tt)
  ended_closed (atom (logic x l)) h = subst IsStuck (sym (free_variable x l h)) (refl, tt)
  ended_closed (atom (param k T)) h = (refl, tt)
  ended_closed (abs c) h = absurd h
  ended_closed (app t u) h = stuck_app (closed z t) (closed z u) (ended_closed t h)
