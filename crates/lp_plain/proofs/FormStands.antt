-- The terms of a goal's form stand where its arguments do.
use Rattle.std.proofs.Common.{◌≡◌, ℕ, ◌<◌, List, [], ◌∷◌, sym, ap, ◌∙◌, subst, Option, Some, None}
use Rattle.std.specs.Prelude.{All, slice_get}
use Rattle.std.proofs.lemmas.List.Elements.{All-head, All-tail}
use Rattle.lp_standard.specs.Constants.{numbered}
use Rattle.lp_standard.specs.declared.constant.Constant.{Constant}
use Rattle.lp_standard.specs.declared.constant.Constant.TheVariants as fixed
use Rattle.lp_term.specs.declared.node.TermId.{TermId}
use Rattle.lp_plain.specs.declared.form.Form.{Form}
use Rattle.lp_plain.specs.declared.form.Form.TheVariants as form
use Rattle.lp_plain.specs.declared.head.Head.TheVariants as head
use Rattle.lp_plain.specs.Forms.{StandsForm, by_constant, by_numbered, or_call, relation_by}

call_stands : (n c : ℕ) (l : TermId) → l.0 < n → StandsForm n (form.Call (head.Constant c) (Some l))
call_stands n c l h u e = let q : l ≡ u = (let z : Some l ≡ Some u = e in cc) in subst (λ (x : TermId). x.0 < n) q h

numbered_stands : (n c : ℕ) (l r : TermId) (o : Option Constant) → l.0 < n → r.0 < n → StandsForm n (by_numbered c l r o)
numbered_stands n c l r None h i = call_stands n c l h
numbered_stands n c l r (Some k) h i = go k
  where
    go : (k : Constant) → StandsForm n (or_call c l (relation_by k l r))
    go fixed.Equal = (h, i)
    go fixed.Is = (h, i)
    go fixed.Less = (h, i)
    go fixed.Greater = (h, i)
    go fixed.AtMost = (h, i)
    go fixed.AtLeast = (h, i)
    go _ = call_stands n c l h

by_stands : (n c : ℕ) (ids : List TermId) → All (λ (t : TermId). t.0 < n) ids → StandsForm n (by_constant c ids)
by_stands n c [] h = λ u e. absurd (cc)
by_stands n c (a ∷ []) h = call_stands n c a (All-head (λ (t : TermId). t.0 < n) a [] h)
by_stands n c (a ∷ b ∷ []) h =
    numbered_stands n c a b (numbered c) (All-head (λ (t : TermId). t.0 < n) a (b ∷ []) h) (All-head (λ (t : TermId). t.0 < n) b [] (All-tail (λ (t : TermId). t.0 < n) a (b ∷ []) h))
by_stands n c (a ∷ b ∷ d ∷ ids) h = call_stands n c a (All-head (λ (t : TermId). t.0 < n) a (b ∷ d ∷ ids) h)

pub constant_stands : (n c : ℕ) (ids js : List TermId) (f : Form) → js ≡ ids → f ≡ by_constant c js → All (λ (t : TermId). t.0 < n) ids → StandsForm n f
constant_stands n c ids js f q s h = subst (StandsForm n) (sym (s ∙ ap (by_constant c) q)) (by_stands n c ids h)

pub eigen_stands : (n k : ℕ) (ids js : List TermId) (o : Option TermId) → js ≡ ids → o ≡ slice_get js 0 → All (λ (t : TermId). t.0 < n) ids → StandsForm n (form.Call (head.Eigen k) o)
eigen_stands n k ids js o q s h u e = go ids h (sym (s ∙ ap (λ l. slice_get l 0) q) ∙ e)
  where
    go : (ids : List TermId) → All (λ (t : TermId). t.0 < n) ids → slice_get ids 0 ≡ Some u → u.0 < n
    go [] h e = absurd (cc)
    go (a ∷ ids) h e = let q : a ≡ u = (let z : Some a ≡ Some u = e in cc) in subst (λ (x : TermId). x.0 < n) q (All-head (λ (t : TermId). t.0 < n) a ids h)
