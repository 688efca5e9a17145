-- The values of beta-normal forms, by the head and the arguments that were there before.
use Rattle.std.proofs.Common.{◌≡◌, ℕ, zero, suc, ◌+◌, ◌≤◌, List, [], ◌∷◌, length, map, refl, sym, ap, ◌∙◌, subst, arith, true, false, if◌then◌else◌, Option, Some, None}
use Rattle.std.specs.Prelude.{IsSome, option_map}
use Rattle.std.proofs.lemmas.List.{length-map}
use Rattle.lp_calculus.specs.Convert.{steps}
use Rattle.lp_calculus.specs.Normal.{eta_normal, nodes}
use Rattle.lp_calculus.specs.Types.{Ty, instance}
use Rattle.lp_calculus.specs.Term.{Term, index, atom, abs, app, apply, constant, integer, text, eigen, logic, param}
use Rattle.lp_term.specs.Spine.{IsNoApplication}
use Rattle.lp_term.specs.Nodes.{Nodes}
use Rattle.lp_model.specs.Eigens.{beta_normal}
use Rattle.lp_model.specs.Look.{weak_step}
use Rattle.lp_model.specs.Pair.{Closing, closed}
use Rattle.lp_model.specs.Values.{Faults, both, is_one_place, is_two_place, single, value}
use Rattle.lp_model.specs.declared.ending.Fault.TheVariants.{NotClosed}
use Rattle.lp_pattern.specs.Seen.{IsEnded, IsEndedHead}
use Rattle.lp_pattern.specs.Under.{IsReading, ValueIs}
use Rattle.lp_pattern.specs.declared.bindings.Bindings.{Bindings}
use Rattle.lp_pattern.proofs.BetaForms.{Forms, beta_abs, leaf_on_arguments, more, none, weak_leftmost}
use Rattle.lp_pattern.proofs.Naming.{IsLeaf}
use Rattle.lp_plain.specs.Evaluated.{IsNoFunction}
use Rattle.lp_plain.specs.inner.Evaluating.{fits}
use Rattle.lp_plain.proofs.HeadLooks.{closed_apply}

-- where a look is too deep there is no normal form within as many steps
pub weak_long : (n m : ℕ) (t : Term) → n ≤ m → IsSome (steps weak_step m t) → beta_normal n t ≡ None
weak_long zero m t l h = refl
weak_long (suc n) zero t l h = absurd (omega (arith, l))
weak_long (suc n) (suc m) t l h = elim (weak_step t) as (λ o. weak_step t ≡ o → IsSome (elim o as (λ x. Option Term) [ None ↦ None | Some s ↦ steps weak_step m s ]) → beta_normal (suc n) t ≡ None) [
  | None ↦ λ p q. absurd (cc)
  | Some s ↦ λ p q. ap (λ (o : Option Term). elim o as (λ x. Option Term) [ None ↦ Some t | Some y ↦ beta_normal n y ]) (weak_leftmost t s p) ∙ weak_long n m s (omega (arith, l)) q
] refl h

-- eta-normal forms of applications
eta_apply : (ts : List Term) (h : Term) → eta_normal (apply h ts) ≡ apply (eta_normal h) (map eta_normal ts)
eta_apply [] h = refl
eta_apply (t ∷ ts) h = eta_apply ts (app h t)

many_value : (us : List Term) (f a b d : Term) → value (apply (app (app (app f a) b) d) us) ≡ Faults NotClosed
many_value [] f a b d = refl
many_value (u ∷ us) f a b d = many_value us (app f a) b d u

one_unfit : (h a : Term) → IsLeaf h → fits h 1 ≡ false → value (app h a) ≡ Faults NotClosed
one_unfit (index i) a l e = refl
one_unfit (atom (constant c ts)) a l e = ap (λ o. if o then single c (value a) else Faults NotClosed) e
one_unfit (atom (integer z)) a l e = refl
one_unfit (atom (text s)) a l e = refl
one_unfit (atom (eigen k)) a l e = refl
one_unfit (atom (logic x i)) a l e = refl
one_unfit (atom (param k T)) a l e = refl
one_unfit (abs b) a l e = absurd l
one_unfit (app f u) a l e = absurd l

two_unfit : (h a b : Term) → IsLeaf h → fits h 2 ≡ false → value (app (app h a) b) ≡ Faults NotClosed
two_unfit (index i) a b l e = refl
two_unfit (atom (constant c ts)) a b l e = ap (λ o. if o then both c (value a) (value b) else Faults NotClosed) e
two_unfit (atom (integer z)) a b l e = refl
two_unfit (atom (text s)) a b l e = refl
two_unfit (atom (eigen k)) a b l e = refl
two_unfit (atom (logic x i)) a b l e = refl
two_unfit (atom (param k T)) a b l e = refl
two_unfit (abs c) a b l e = absurd l
two_unfit (app f u) a b l e = absurd l

lone_unfit : (h : Term) → IsLeaf h → fits h 0 ≡ false → value h ≡ Faults NotClosed
lone_unfit (index i) l e = refl
lone_unfit (atom (constant c ts)) l e = refl
lone_unfit (atom (integer z)) l e = absurd (cc)
lone_unfit (atom (text s)) l e = absurd (cc)
lone_unfit (atom (eigen k)) l e = refl
lone_unfit (atom (logic x i)) l e = refl
lone_unfit (atom (param k T)) l e = refl
lone_unfit (abs b) l e = absurd l
lone_unfit (app f u) l e = absurd l

unfit_value : (h : Term) (us : List Term) → IsLeaf h → fits h (length us) ≡ false → value (apply h us) ≡ Faults NotClosed
unfit_value h [] l e = lone_unfit h l e
unfit_value h (a ∷ []) l e = one_unfit h a l e
unfit_value h (a ∷ b ∷ []) l e = two_unfit h a b l e
unfit_value h (a ∷ b ∷ d ∷ us) l e = many_value us h a b d

eta_leaf : (h : Term) → IsLeaf h → eta_normal h ≡ h
eta_leaf (index i) l = refl
eta_leaf (atom a) l = refl
eta_leaf (abs b) l = absurd l
eta_leaf (app f u) l = absurd l

forms_count : {n : ℕ} {ts ss : List Term} → Forms n ts ss → length ss ≡ length ts
forms_count none = refl
forms_count (more e f) = ap suc (forms_count f)

-- an abstraction has no value
abs_value : (n : ℕ) (b s : Term) → beta_normal n (abs b) ≡ Some s → IsNoFunction s → value (eta_normal s) ≡ Faults NotClosed
abs_value n b s e = go (beta_normal n b) (sym (beta_abs n b) ∙ e)
  where
    go : (o : Option Term) → option_map abs o ≡ Some s → IsNoFunction s → value (eta_normal s) ≡ Faults NotClosed
    go None q = absurd (cc)
    go (Some c) q = let z : abs c ≡ s = cc in λ i. ap (λ t. value (eta_normal t)) (sym z) ∙ subst IsNoFunction (sym z) i

-- a head that is not contracted
ended_apply : (s : Bindings) (vs : List Term) (t u : Term) → IsEnded s (apply (app t u) vs) → IsEndedHead s t
ended_apply s [] t u h = h
ended_apply s (v ∷ vs) t u h = ended_apply s vs (app t u) v h

leaf_ended : (s : Bindings) (us : List Term) (h : Term) → IsLeaf h → IsEnded s (apply h us) → IsEndedHead s h
leaf_ended s [] (index i) l e = tt
leaf_ended s [] (atom a) l e = e
leaf_ended s [] (abs b) l e = absurd l
leaf_ended s [] (app f u) l e = absurd l
leaf_ended s (u ∷ us) h l e = ended_apply s us h u e

constant_fits : (c : ℕ) (ts us : List Ty) (n : ℕ) → fits (atom (constant c ts)) n ≡ fits (atom (constant c us)) n
constant_fits c ts us zero = refl
constant_fits c ts us (suc zero) = refl
constant_fits c ts us (suc (suc zero)) = refl
constant_fits c ts us (suc (suc (suc n))) = refl

param_fits : (k : ℕ) (T U : Ty) (n : ℕ) → fits (atom (param k T)) n ≡ fits (atom (param k U)) n
param_fits k T U zero = refl
param_fits k T U (suc zero) = refl
param_fits k T U (suc (suc zero)) = refl
param_fits k T U (suc (suc (suc n))) = refl

module _ (b : Nodes) (s : Bindings) (z : Closing) (r : IsReading b s z) where
  leaf_closed : (h : Term) → IsLeaf h → IsEndedHead s h → IsLeaf (closed z h) × ((n : ℕ) → fits (closed z h) n ≡ fits h n)
  leaf_closed (index i) l e = (tt, (λ n. refl))
  leaf_closed (atom (constant c ts)) l e = (tt, constant_fits c (map (instance z.types) ts) ts)
  leaf_closed (atom (integer j)) l e = (tt, (λ n. refl))
  leaf_closed (atom (text x)) l e = (tt, (λ n. refl))
  leaf_closed (atom (eigen k)) l e = (tt, (λ n. refl))
  leaf_closed (atom (logic x i)) l e =
      let q : z.terms x i ≡ atom (logic x i) = subst (λ o. ValueIs b z x o) e (r.terms x) i in
      (subst IsLeaf (sym q) tt, (λ n. ap (λ y. fits y n) q))
  leaf_closed (atom (param k T)) l e = (tt, param_fits k (instance z.types T) T)
  leaf_closed (abs c) l e = absurd l
  leaf_closed (app f u) l e = absurd l

  -- what is no expression has no value
  leaf_other : (h : Term) (us : List Term) → IsLeaf h → fits h (length us) ≡ false → IsEnded s (apply h us) → (n : ℕ) (v : Term) → beta_normal n (closed z (apply h us)) ≡ Some v → value (eta_normal v) ≡ Faults NotClosed
  leaf_other h us l f e n v q =
      let k = leaf_closed h l (leaf_ended s us h l e) in
      let w = leaf_on_arguments n (closed z h) (map (closed z) us) v k.0 (ap (beta_normal n) (sym (closed_apply z us h)) ∙ q) in
      let count : length (map eta_normal w.0) ≡ length us = length-map w.0 eta_normal ∙ forms_count w.2 ∙ length-map us (closed z) in
      ap (λ y. value (eta_normal y)) w.1 ∙ ap value (eta_apply w.0 (closed z h) ∙ ap (λ y. apply y (map eta_normal w.0)) (eta_leaf (closed z h) k.0)) ∙
      unfit_value (closed z h) (map eta_normal w.0) k.0 (ap (fits (closed z h)) count ∙ k.1 (length us) ∙ f)

  pub other_value : (h : Term) (us : List Term) → IsNoApplication h → fits h (length us) ≡ false → IsEnded s (apply h us) → (n : ℕ) (v : Term) → beta_normal n (closed z (apply h us)) ≡ Some v → IsNoFunction v →
      value (eta_normal v) ≡ Faults NotClosed
  other_value (index i) us l f e n v q i' = leaf_other (index i) us tt f e n v q
  other_value (atom a) us l f e n v q i = leaf_other (atom a) us tt f e n v q
  other_value (abs c) [] l f e n v q i = abs_value n _ v q i
  other_value (abs c) (u ∷ us) l f e n v q i = absurd (ended_apply s us (abs c) u e)
  other_value (app t u) us l f e n v q i = absurd l

-- two operands
pub record HasOperands (n c : ℕ) (l r v : Term) : Type 0 where
  pub left : Term
  pub right : Term
  pub left_form : beta_normal n l ≡ Some left
  pub right_form : beta_normal n r ≡ Some right
  pub parts : nodes v ≡ suc (nodes left) + nodes right
  pub is : value (eta_normal v) ≡ both c (value (eta_normal left)) (value (eta_normal right))
  pub functions : IsNoFunction v → IsNoFunction left × IsNoFunction right

pub two_operands : (n c : ℕ) (ts : List Ty) (l r v : Term) → is_two_place c ≡ true → beta_normal n (app (app (atom (constant c ts)) l) r) ≡ Some v → HasOperands n c l r v
two_operands n c ts l r v e q = let w = leaf_on_arguments n (atom (constant c ts)) (l ∷ r ∷ []) v tt q in go w.0 w.2 w.1
  where
    go : (ss : List Term) → Forms n (l ∷ r ∷ []) ss → v ≡ apply (atom (constant c ts)) ss → HasOperands n c l r v
    go ss (more {s = a} ea (more {s = b} eb none)) i = record {
      left = a;
      right = b;
      left_form = ea;
      right_form = eb;
      parts = (let k = ap nodes i in omega (arith, k));
      is = ap (λ y. value (eta_normal y)) i ∙ ap (λ o. if o then both c (value (eta_normal a)) (value (eta_normal b)) else Faults NotClosed) e;
      functions = λ h. subst IsNoFunction i h e;
    }

-- one
pub record HasOperand (n c : ℕ) (t v : Term) : Type 0 where
  pub operand : Term
  pub form : beta_normal n t ≡ Some operand
  pub parts : nodes v ≡ suc (nodes operand)
  pub is : value (eta_normal v) ≡ single c (value (eta_normal operand))
  pub functions : IsNoFunction v → IsNoFunction operand

pub one_operand : (n c : ℕ) (ts : List Ty) (t v : Term) → is_one_place c ≡ true → beta_normal n (app (atom (constant c ts)) t) ≡ Some v → HasOperand n c t v
one_operand n c ts t v e q = let w = leaf_on_arguments n (atom (constant c ts)) (t ∷ []) v tt q in go w.0 w.2 w.1
  where
    go : (ss : List Term) → Forms n (t ∷ []) ss → v ≡ apply (atom (constant c ts)) ss → HasOperand n c t v
    go ss (more {s = a} ea none) i = record {
      operand = a;
      form = ea;
      parts = (let k = ap nodes i in omega (arith, k));
      is = ap (λ y. value (eta_normal y)) i ∙ ap (λ o. if o then single c (value (eta_normal a)) else Faults NotClosed) e;
      functions = λ h. subst IsNoFunction i h e;
    }
