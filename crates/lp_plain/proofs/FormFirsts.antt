-- The first argument of a call is in the bank.
use Rattle.std.proofs.Common.{◌≡◌, ℕ, ◌<◌, List, [], ◌∷◌, length, refl, sym, ap, ◌∙◌, subst, Option, None, Some}
use Rattle.std.specs.Prelude.{slice_get}
use Rattle.lp_standard.specs.Constants.{numbered}
use Rattle.lp_standard.specs.declared.constant.Constant.{Constant}
use Rattle.lp_standard.specs.declared.constant.Constant.TheVariants as fixed
use Rattle.lp_term.specs.Nodes.{Nodes}
use Rattle.lp_term.specs.Within.{AreTermsOf}
use Rattle.lp_term.specs.declared.node.TermId.{TermId}
use Rattle.lp_plain.specs.declared.form.Form.{Form}
use Rattle.lp_plain.specs.declared.form.Form.TheVariants as form
use Rattle.lp_plain.specs.declared.head.Head.TheVariants as head
use Rattle.lp_plain.specs.Calling.{IsFirstIn}
use Rattle.lp_plain.specs.Forms.{by_constant, by_numbered, or_call, relation_by}
use Rattle.lp_plain.proofs.Within.{all_at}

module _ (k n : ℕ) (l r : TermId) (h : l.0 < k) where
  by_case : (c : Constant) → IsFirstIn k (or_call n l (relation_by c l r))
  by_case fixed.Equal = tt
  by_case fixed.Is = tt
  by_case fixed.Less = tt
  by_case fixed.Greater = tt
  by_case fixed.AtMost = tt
  by_case fixed.AtLeast = tt
  by_case _ = h

  two_in : (o : Option Constant) → IsFirstIn k (by_numbered n l r o)
  two_in None = h
  two_in (Some c) = by_case c

first_at : (b : Nodes) (ids : List TermId) (i : TermId) → slice_get ids 0 ≡ Some i → AreTermsOf b ids → i.0 < length b.terms
first_at b ids i e h = all_at (λ (x : TermId). x.0 < length b.terms) ids 0 i e h

constant_in : (b : Nodes) (n : ℕ) (ids : List TermId) → AreTermsOf b ids → IsFirstIn (length b.terms) (by_constant n ids)
constant_in b n [] h = tt
constant_in b n (x ∷ []) h = first_at b (x ∷ []) x refl h
constant_in b n (x ∷ y ∷ []) h = two_in (length b.terms) n x y (first_at b (x ∷ y ∷ []) x refl h) (numbered n)
constant_in b n (x ∷ y ∷ z ∷ ids) h = first_at b (x ∷ y ∷ z ∷ ids) x refl h

pub constant_first : (b : Nodes) (n : ℕ) (ids js : List TermId) (f : Form) → AreTermsOf b ids → js ≡ ids → f ≡ by_constant n js → IsFirstIn (length b.terms) f
constant_first b n ids js f h q e = subst (IsFirstIn (length b.terms)) (sym (e ∙ ap (by_constant n) q)) (constant_in b n ids h)

pub eigen_first : (b : Nodes) (j : ℕ) (ids js : List TermId) (o : Option TermId) → AreTermsOf b ids → js ≡ ids → o ≡ slice_get js 0 → IsFirstIn (length b.terms) (form.Call (head.Eigen j) o)
eigen_first b j ids js None h q e = tt
eigen_first b j ids js (Some u) h q e = first_at b ids u (sym (e ∙ ap (λ l. slice_get l 0) q)) h
