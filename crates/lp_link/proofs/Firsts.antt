-- No name before a place is otherwise in the object above.
use Rattle.std.proofs.Common.{◌≡◌, ℕ, zero, suc, ◌+◌, ◌<◌, ◌≤◌, List, [], ◌∷◌, length, get_or, true, sym, ap, ◌∙◌, subst, arith, Some}
use Rattle.std.specs.Prelude.{slice_get}
use Rattle.std.proofs.lemmas.Option.{slice_get-get_or}
use Rattle.lp_code.specs.declared.object.Object.{Object}
use Rattle.lp_code.specs.declared.object.ObjectKind.{ObjectKind}
use Rattle.lp_code.specs.declared.object.ObjectConstant.{ObjectConstant}
use Rattle.lp_link.specs.Differences.{HasKinds, IsOtherKind, IsOtherConstant, IsOtherAbove, arity_of, constant_of}

below_or_at : (i j : ℕ) → j < i + 1 → (j < i → ⊥) → j ≡ i
below_or_at i j h n = omega (arith, h, n)

the_same : {A : Type 0} (x y : A) → Some x ≡ Some y → x ≡ y
the_same x y e = cc

none_behind : {A : Type 0} (xs : List A) (j : ℕ) (x : A) → length xs ≤ j → slice_get xs j ≡ Some x → ⊥
none_behind [] j x l e = cc
none_behind (y ∷ ys) zero x l e = omega (arith, l)
none_behind (y ∷ ys) (suc j) x l e = none_behind ys j x (omega (arith, l)) e

module _ (below above : Object) (i : ℕ) where
  module _ (k : ObjectKind) (here : i < length below.kinds.items) (is : k ≡ get_or below.kinds.items i k)
      (fine : k.exported ≡ true → arity_of above.kinds.items k.name.items ≡ Some k.arity) (before : (j : ℕ) → j < i → IsOtherKind below above j → ⊥)
    where
      fine_here : IsOtherKind below above i → ⊥
      fine_here o = o.other (subst (λ x. arity_of above.kinds.items x.name.items ≡ Some x.arity) same (fine (ap (λ x. x.exported) same ∙ o.exported)))
        where
          same : k ≡ o.kind
          same = the_same k o.kind (ap (λ x. Some x) is ∙ sym (slice_get-get_or below.kinds.items i k here) ∙ o.there)

      pub one_more_kind : (j : ℕ) → j < i + 1 → IsOtherKind below above j → ⊥
      one_more_kind j h o = fine_here (subst (IsOtherKind below above) (below_or_at i j h (λ l. before j l o)) o)

  module _ (k : ObjectConstant) (here : i < length below.constants.items) (is : k ≡ get_or below.constants.items i k)
      (fine : k.exported ≡ true → IsOtherAbove below above k (constant_of above.constants.items k.name.items) → ⊥)
      (before : (j : ℕ) → j < i → IsOtherConstant below above j → ⊥) where
    fine_there : IsOtherConstant below above i → ⊥
    fine_there o = fine (ap (λ x. x.exported) same ∙ o.exported) (subst (λ x. IsOtherAbove below above x (constant_of above.constants.items x.name.items)) (sym same) o.other)
      where
        same : k ≡ o.constant
        same = the_same k o.constant (ap (λ x. Some x) is ∙ sym (slice_get-get_or below.constants.items i k here) ∙ o.there)

    pub one_more_constant : (j : ℕ) → j < i + 1 → IsOtherConstant below above j → ⊥
    one_more_constant j h o = fine_there (subst (IsOtherConstant below above) (below_or_at i j h (λ l. before j l o)) o)

  pub no_kind_behind : length below.kinds.items ≤ i → ((j : ℕ) → j < i → IsOtherKind below above j → ⊥) → HasKinds below above
  no_kind_behind l before j o = none_behind below.kinds.items j o.kind (let n : j < i → ⊥ = λ h. before j h o in omega (arith, l, n)) o.there

  pub no_constant_behind : length below.constants.items ≤ i → ((j : ℕ) → j < i → IsOtherConstant below above j → ⊥) → (j : ℕ) → IsOtherConstant below above j → ⊥
  no_constant_behind l before j o = none_behind below.constants.items j o.constant (let n : j < i → ⊥ = λ h. before j h o in omega (arith, l, n)) o.there
