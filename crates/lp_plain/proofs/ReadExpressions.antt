-- What is read of a head-normal expression, by its head and its arguments.
use Rattle.std.proofs.Common.{◌≡◌, ℕ, zero, suc, ◌<◌, ◌≤◌, nat_lt, List, [], ◌∷◌, ◌++◌, length, map, refl, sym, ap, ◌∙◌, subst, arith, Bool, true, false, Option, Some, None}
use Rattle.std.specs.Prelude.{All}
use Rattle.std.proofs.lemmas.Bool.Decides.{nat_tests}
use Rattle.std.proofs.lemmas.List.Elements.{All-head, All-tail}
use Rattle.lp_lemmas.proofs.Lists.{get_below}
use Rattle.lp_calculus.specs.Types.{Ty}
use Rattle.lp_calculus.specs.Term.{Term, index, atom, abs, app, apply, constant, integer, text, eigen, logic, param}
use Rattle.lp_standard.specs.Constants.{language, number, numbered, reserved}
use Rattle.lp_standard.specs.declared.constant.Constant.{Constant}
use Rattle.lp_standard.specs.declared.constant.Constant.TheVariants as fixed
use Rattle.lp_term.specs.Node.{TermBelow}
use Rattle.lp_term.specs.Nodes.{Nodes, node_tree, tree}
use Rattle.lp_term.specs.Shapes.{term_shape}
use Rattle.lp_term.specs.Spine.{IsNoApplication}
use Rattle.lp_term.specs.declared.node.TermId.{TermId}
use Rattle.lp_term.specs.declared.node.TermNode.{TermNode}
use Rattle.lp_model.proofs.Numbers.{number_back}
use Rattle.lp_pattern.proofs.Names.{kind, kind_of, node_kind}
use Rattle.lp_plain.specs.declared.arithmetic.Expression.{Expression}
use Rattle.lp_plain.specs.declared.arithmetic.Expression.TheVariants as expression
use Rattle.lp_plain.specs.declared.arithmetic.Value.TheVariants as kept
use Rattle.lp_plain.specs.inner.Evaluating.{IsExpression, StandsExpression, applied_by, fits, leaf_by, one_by, operation_by, two_by}

no_expression : (b : Nodes) (h : Term) (us : List Term) → IsNoApplication h → fits h (length us) ≡ false → IsExpression b expression.Other (apply h us)
no_expression b h us l e = (h, us, refl, l, e)

no_operation : (b : Nodes) (c : ℕ) (ts : List Ty) (us : List Term) → fits (atom (constant c ts)) (length us) ≡ false → IsExpression b expression.Other (apply (atom (constant c ts)) us)
no_operation b c ts us e = no_expression b (atom (constant c ts)) us tt e

one_told : (b : Nodes) (k : Constant) (ts : List Ty) (a : TermId) → IsExpression b (one_by k a) (app (atom (constant (number k) ts)) (tree b a.0))
one_told b fixed.Negate ts a = (ts, refl, refl)
one_told b fixed.Size ts a = (ts, refl, refl)
one_told b _ ts a = no_operation b _ ts (tree b a.0 ∷ []) refl

two_told : (b : Nodes) (k : Constant) (ts : List Ty) (l r : TermId) → IsExpression b (two_by k l r) (app (app (atom (constant (number k) ts)) (tree b l.0)) (tree b r.0))
two_told b fixed.Add ts l r = (ts, refl, refl)
two_told b fixed.Subtract ts l r = (ts, refl, refl)
two_told b fixed.Multiply ts l r = (ts, refl, refl)
two_told b fixed.Divide ts l r = (ts, refl, refl)
two_told b fixed.Remainder ts l r = (ts, refl, refl)
two_told b fixed.Concatenate ts l r = (ts, refl, refl)
two_told b _ ts l r = no_operation b _ ts (tree b l.0 ∷ tree b r.0 ∷ []) refl

operation_told : (b : Nodes) (k : Constant) (ts : List Ty) (ids : List TermId) → IsExpression b (operation_by k ids) (apply (atom (constant (number k) ts)) (map (λ (i : TermId). tree b i.0) ids))
operation_told b k ts [] = no_operation b (number k) ts [] refl
operation_told b k ts (x ∷ []) = one_told b k ts x
operation_told b k ts (x ∷ y ∷ []) = two_told b k ts x y
operation_told b k ts (x ∷ y ∷ z ∷ ids) = no_operation b (number k) ts (tree b x.0 ∷ tree b y.0 ∷ tree b z.0 ∷ map (λ (i : TermId). tree b i.0) ids) refl

-- a number that is none of a constant, on whatever it is put
at_least : (n : ℕ) → numbered n ≡ None → 26 ≤ n
at_least n e = go (nat_lt n 26) refl
  where
    go : (t : Bool) → nat_lt n 26 ≡ t → 26 ≤ n
    go false f = grind (f, arith, nat_tests)
    go true f =
        let h : n < 26 = grind (f, arith, nat_tests) in
        let k = get_below (language ++ reserved) n h in
        let q : None ≡ Some k.0 = sym e ∙ k.1 in
        absurd (cc)

no_number : (n : ℕ) → numbered n ≡ None → (ts : List Ty) (m : ℕ) → fits (atom (constant n ts)) m ≡ false
no_number n e ts zero = refl
no_number n e ts (suc zero) = (let h = at_least n e in grind (h, arith, nat_tests))
no_number n e ts (suc (suc zero)) = (let h = at_least n e in grind (h, arith, nat_tests))
no_number n e ts (suc (suc (suc m))) = refl

applied_told : (b : Nodes) (n : ℕ) (ts : List Ty) (ids : List TermId) → IsExpression b (applied_by (numbered n) ids) (apply (atom (constant n ts)) (map (λ (i : TermId). tree b i.0) ids))
applied_told b n ts ids = go (numbered n) refl
  where
    go : (o : Option Constant) → numbered n ≡ o → IsExpression b (applied_by o ids) (apply (atom (constant n ts)) (map (λ (i : TermId). tree b i.0) ids))
    go None e = no_operation b n ts (map (λ (i : TermId). tree b i.0) ids) (no_number n e ts (length (map (λ (i : TermId). tree b i.0) ids)))
    go (Some k) e = subst (λ m. IsExpression b (operation_by k ids) (apply (atom (constant m ts)) (map (λ (i : TermId). tree b i.0) ids))) (sym (number_back n k e)) (operation_told b k ts ids)

module _ (b : Nodes) (t h : Term) (ids js : List TermId) (e : Expression) (l : IsNoApplication h) (whole : apply h (map (λ (i : TermId). tree b i.0) ids) ≡ t) (same : js ≡ ids) where
  pub constant_read : (n : ℕ) (ts : List Ty) → atom (constant n ts) ≡ h → e ≡ applied_by (numbered n) js → IsExpression b e t
  constant_read n ts q s =
      subst (λ x. IsExpression b x t) (sym (s ∙ ap (applied_by (numbered n)) same)) (subst (IsExpression b (applied_by (numbered n) ids)) (ap (λ x. apply x (map (λ (i : TermId). tree b i.0) ids)) q ∙ whole) (applied_told b n ts ids))

  pub integer_read : (i : _) → atom (integer i) ≡ h → e ≡ leaf_by (kept.Number i) js → IsExpression b e t
  integer_read i q s = subst (λ x. IsExpression b x t) (sym (s ∙ ap (leaf_by (kept.Number i)) same)) (go ids whole)
    where
      go : (ids : List TermId) → apply h (map (λ (i : TermId). tree b i.0) ids) ≡ t → IsExpression b (leaf_by (kept.Number i) ids) t
      go [] w = sym (q ∙ w)
      go (x ∷ ids) w = (h, map (λ (i : TermId). tree b i.0) (x ∷ ids), sym w, l, ap (λ y. fits y (suc (length (map (λ (i : TermId). tree b i.0) ids)))) (sym q))

  pub text_read : (s : List ℕ) (u : TermId) → atom (text s) ≡ tree b u.0 → tree b u.0 ≡ h → e ≡ leaf_by (kept.Text u) js → IsExpression b e t
  text_read s u q r f = subst (λ x. IsExpression b x t) (sym (f ∙ ap (leaf_by (kept.Text u)) same)) (go ids whole)
    where
      go : (ids : List TermId) → apply h (map (λ (i : TermId). tree b i.0) ids) ≡ t → IsExpression b (leaf_by (kept.Text u) ids) t
      go [] w = (s, sym (q ∙ r ∙ w), r ∙ w)
      go (x ∷ ids) w = (h, map (λ (i : TermId). tree b i.0) (x ∷ ids), sym w, l, ap (λ y. fits y (suc (length (map (λ (i : TermId). tree b i.0) ids)))) (sym (q ∙ r)))

-- a head of another kind
unfit : (h : Term) (n : ℕ) → (kind h ≡ 1 → ⊥) → (kind h ≡ 2 → ⊥) → (kind h ≡ 3 → ⊥) → fits h n ≡ false
unfit (atom (constant c ts)) n f g k = absurd (f refl)
unfit (atom (integer i)) n f g k = absurd (g refl)
unfit (atom (text s)) n f g k = absurd (k refl)
unfit (atom (eigen i)) n f g k = refl
unfit (atom (logic x i)) n f g k = refl
unfit (atom (param i T)) n f g k = refl
unfit (index i) n f g k = refl
unfit (abs c) n f g k = refl
unfit (app t u) n f g k = refl

pub other_read : (b : Nodes) (t h : Term) (n m : ℕ) (x : TermNode) (us : List Term) → IsNoApplication h → apply h us ≡ t → TermBelow n m (term_shape x) → node_tree b (term_shape x) ≡ h →
    (node_kind x ≡ 1 → ⊥) → (node_kind x ≡ 2 → ⊥) → (node_kind x ≡ 3 → ⊥) → IsExpression b expression.Other t
other_read b t h n m x us o e l f p q r =
    let k : kind h ≡ node_kind x = sym (ap kind f) ∙ kind_of b n m x l in
    (h, us, sym e, o, unfit h (length us) (λ z. p (sym k ∙ z)) (λ z. q (sym k ∙ z)) (λ z. r (sym k ∙ z)))

-- what is read stands where its arguments do
one_stands : (n : ℕ) (k : Constant) (a : TermId) → a.0 < n → StandsExpression n (one_by k a)
one_stands n fixed.Negate a l = l
one_stands n fixed.Size a l = l
one_stands n _ a l = tt

two_stands : (n : ℕ) (k : Constant) (a b : TermId) → a.0 < n → b.0 < n → StandsExpression n (two_by k a b)
two_stands n fixed.Add a b l r = (l, r)
two_stands n fixed.Subtract a b l r = (l, r)
two_stands n fixed.Multiply a b l r = (l, r)
two_stands n fixed.Divide a b l r = (l, r)
two_stands n fixed.Remainder a b l r = (l, r)
two_stands n fixed.Concatenate a b l r = (l, r)
two_stands n _ a b l r = tt

module _ (n : ℕ) where
  operation_stands : (k : Constant) (ids : List TermId) → All (λ (t : TermId). t.0 < n) ids → StandsExpression n (operation_by k ids)
  operation_stands k [] h = tt
  operation_stands k (a ∷ []) h = one_stands n k a (All-head (λ (t : TermId). t.0 < n) a [] h)
  operation_stands k (a ∷ b ∷ []) h =
      two_stands n k a b (All-head (λ (t : TermId). t.0 < n) a (b ∷ []) h) (All-head (λ (t : TermId). t.0 < n) b [] (All-tail (λ (t : TermId). t.0 < n) a (b ∷ []) h))
  operation_stands k (a ∷ b ∷ c ∷ ids) h = tt

  applied_stands : (o : Option Constant) (ids : List TermId) → All (λ (t : TermId). t.0 < n) ids → StandsExpression n (applied_by o ids)
  applied_stands None ids h = tt
  applied_stands (Some k) ids h = operation_stands k ids h

  pub constant_stands : (o : Option Constant) (ids js : List TermId) (e : Expression) → js ≡ ids → e ≡ applied_by o js → All (λ (t : TermId). t.0 < n) ids → StandsExpression n e
  constant_stands o ids js e q s h = subst (StandsExpression n) (sym (s ∙ ap (applied_by o) q)) (applied_stands o ids h)

  pub integer_stands : (i : _) (js : List TermId) (e : Expression) → e ≡ leaf_by (kept.Number i) js → StandsExpression n e
  integer_stands i [] e s = subst (StandsExpression n) (sym s) tt
  integer_stands i (x ∷ js) e s = subst (StandsExpression n) (sym s) tt

  pub text_stands : (u : TermId) (js : List TermId) (e : Expression) → e ≡ leaf_by (kept.Text u) js → u.0 < n → StandsExpression n e
  text_stands u [] e s l = subst (StandsExpression n) (sym s) l
  text_stands u (x ∷ js) e s l = subst (StandsExpression n) (sym s) tt
