-- The form of an atomic goal is told by its head and its arguments: by cases on the constant.
use Rattle.std.proofs.Common.{◌≡◌, ◌<◌, ℕ, List, [], ◌∷◌, ◌++◌, map, Option, Some, None, refl, sym, ap, ◌∙◌, subst, arith}
use Rattle.std.specs.Prelude.{false, slice_get}
use Rattle.lp_calculus.specs.Types.{Ty}
use Rattle.lp_calculus.specs.Term.{Term, atom, apply, constant, eigen, logic}
use Rattle.lp_calculus.specs.Spine.{head_of, arguments}
use Rattle.lp_standard.specs.Constants.{number, numbered, language, reserved}
use Rattle.lp_standard.specs.declared.constant.Constant.{Constant}
use Rattle.lp_standard.specs.declared.constant.Constant.TheVariants as fixed
use Rattle.lp_lemmas.proofs.Lists.{get_below}
use Rattle.lp_model.proofs.Numbers.{number_back}
use Rattle.lp_term.specs.Node.{TermBelow}
use Rattle.lp_term.specs.Nodes.{Nodes, tree, node_tree}
use Rattle.lp_term.specs.Shapes.{term_shape}
use Rattle.lp_term.specs.Spine.{IsNoApplication}
use Rattle.lp_term.specs.declared.node.TermId.{TermId}
use Rattle.lp_term.specs.declared.node.TermNode.{TermNode}
use Rattle.lp_pattern.proofs.Names.{kind, node_kind, kind_of}
use Rattle.lp_plain.specs.declared.form.Form as form_type
use Rattle.lp_plain.specs.declared.form.Form.TheVariants as form
use Rattle.lp_plain.specs.declared.head.Head.TheVariants as head
use Rattle.lp_plain.specs.Forms.{IsFirst, IsCall, IsForm, is_named, by_numbered, by_constant}
use Rattle.lp_plain.proofs.Spines.{spine_head, spine_arguments}

-- a number of no fixed constant
no_number : (n : ℕ) → numbered n ≡ None → n < 26 → ⊥
no_number n e l = let s = get_below (language ++ reserved) n l in let q : None ≡ Some s.0 = sym e ∙ s.1 in cc

-- a constant on two terms
two_is : (b : Nodes) (t : Term) (n : ℕ) (ts : List Ty) (l r : TermId) (o : Option Constant) → numbered n ≡ o → head_of t ≡ atom (constant n ts) → arguments t ≡ tree b l.0 ∷ tree b r.0 ∷ [] → IsForm b t (by_numbered n l r o)
two_is b t n ts l r None q e a =
    let h = no_number n q in
    (ts, e, subst (IsCall n) (sym a) (λ z. h (omega (arith, z)), λ z. h (omega (arith, z)), λ z. h (omega (arith, z.1))), subst (λ z. IsFirst b z (Some l)) (sym a) (l, refl, refl))
two_is b t n ts l r (Some c) q e a = by_case c (number_back n c q)
  where
    by_case : (c : Constant) → n ≡ number c → IsForm b t (by_numbered n l r (Some c))
    by_case fixed.Equal k = (ts, e ∙ ap (λ z. atom (constant z ts)) k, a)
    by_case fixed.Is k = (ts, e ∙ ap (λ z. atom (constant z ts)) k, a)
    by_case fixed.Less k = (ts, e ∙ ap (λ z. atom (constant z ts)) k, a)
    by_case fixed.Greater k = (ts, e ∙ ap (λ z. atom (constant z ts)) k, a)
    by_case fixed.AtMost k = (ts, e ∙ ap (λ z. atom (constant z ts)) k, a)
    by_case fixed.AtLeast k = (ts, e ∙ ap (λ z. atom (constant z ts)) k, a)
    by_case _ k = (ts, e, subst (IsCall n) (sym a) (λ z. omega (arith, z, k), λ z. omega (arith, z, k), λ z. omega (arith, z.0, z.1, k)), subst (λ z. IsFirst b z (Some l)) (sym a) (l, refl, refl))

constant_told : (b : Nodes) (t : Term) (n : ℕ) (ts : List Ty) (ids : List TermId) → head_of t ≡ atom (constant n ts) → arguments t ≡ map (λ (i : TermId). tree b i.0) ids → IsForm b t (by_constant n ids)
constant_told b t n ts [] e a = (ts, e, subst (IsCall n) (sym a) tt, subst (λ z. IsFirst b z None) (sym a) refl)
constant_told b t n ts (x ∷ []) e a = (ts, e, subst (IsCall n) (sym a) tt, subst (λ z. IsFirst b z (Some x)) (sym a) (x, refl, refl))
constant_told b t n ts (x ∷ y ∷ []) e a = two_is b t n ts x y (numbered n) refl e a
constant_told b t n ts (x ∷ y ∷ z ∷ ids) e a = (ts, e, subst (IsCall n) (sym a) tt, subst (λ v. IsFirst b v (Some x)) (sym a) (x, refl, refl))

-- the goal is this head on these arguments

pub constant_is : (b : Nodes) (t h : Term) (n : ℕ) (ts : List Ty) (ids js : List TermId) (f : form_type.Form) → IsNoApplication h → apply h (map (λ (i : TermId). tree b i.0) ids) ≡ t → atom (constant n ts) ≡ h →
    js ≡ ids → f ≡ by_constant n js → IsForm b t f
constant_is b t h n ts ids js f o e k q s =
    subst (IsForm b t) (sym (s ∙ ap (by_constant n) q)) (constant_told b t n ts ids (sym (k ∙ spine_head h t (map (λ (i : TermId). tree b i.0) ids) o e)) (sym (spine_arguments h t (map (λ (i : TermId). tree b i.0) ids) o e)))

-- the first of the arguments
first_is : (b : Nodes) (us : List Term) (ids : List TermId) → map (λ (i : TermId). tree b i.0) ids ≡ us → IsFirst b us (slice_get ids 0)
first_is b us [] a = subst (λ v. IsFirst b v None) a refl
first_is b us (i ∷ ids) a = subst (λ v. IsFirst b v (Some i)) a (i, refl, refl)

pub eigen_is : (b : Nodes) (t h : Term) (k : ℕ) (ids js : List TermId) (o : Option TermId) → IsNoApplication h → apply h (map (λ (i : TermId). tree b i.0) ids) ≡ t → atom (eigen k) ≡ h →
    js ≡ ids → o ≡ slice_get js 0 → IsForm b t (form.Call (head.Eigen k) o)
eigen_is b t h k ids js o n e f q g =
    let us = map (λ (i : TermId). tree b i.0) ids in
    (sym (f ∙ spine_head h t us n e), subst (IsFirst b (arguments t)) (sym (g ∙ ap (λ l. slice_get l 0) q)) (first_is b (arguments t) ids (spine_arguments h t us n e)))

pub flexible_is : (b : Nodes) (t h : Term) (x l : ℕ) (us : List Term) → IsNoApplication h → apply h us ≡ t → atom (logic x l) ≡ h → IsForm b t form.Flexible
flexible_is b t h x l us n e f = (x, l, sym (f ∙ spine_head h t us n e))

unnamed : (t : Term) → (kind t ≡ 1 → ⊥) → (kind t ≡ 4 → ⊥) → (kind t ≡ 5 → ⊥) → is_named t ≡ false
unnamed (atom (constant c ts)) f g h = absurd (f refl)
unnamed (atom (eigen k)) f g h = absurd (g refl)
unnamed (atom (logic x l)) f g h = absurd (h refl)
unnamed _ f g h = refl

pub other_is : (b : Nodes) (t h : Term) (n m : ℕ) (x : TermNode) (us : List Term) → IsNoApplication h → apply h us ≡ t → TermBelow n m (term_shape x) →
    node_tree b (term_shape x) ≡ h → (node_kind x ≡ 1 → ⊥) → (node_kind x ≡ 4 → ⊥) → (node_kind x ≡ 5 → ⊥) → IsForm b t form.Other
other_is b t h n m x us o e l f p q r =
    let k : kind (head_of t) ≡ node_kind x = sym (ap kind (f ∙ spine_head h t us o e)) ∙ kind_of b n m x l in
    unnamed (head_of t) (λ z. p (sym k ∙ z)) (λ z. q (sym k ∙ z)) (λ z. r (sym k ∙ z))
