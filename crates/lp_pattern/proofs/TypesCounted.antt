-- Solved type equations: the table has as many entries as there are bindings.
use Rattle.std.proofs.Common.{◌≡◌, ℕ, zero, suc, ◌<◌, List, [], ◌∷◌, map, length, Option, Some, None, refl, sym, ap, ◌∙◌, subst as transport, arith, Bool, true, false, nat_eq}
use Rattle.std.specs.Prelude.{◌||◌, is_some, if◌then◌else◌}
use Rattle.std.specs.List.{IsDistinct, AllByRecursion, list_any}
use Rattle.std.specs.Map.{lookup, keys_of}
use Rattle.std.proofs.lemmas.Bool.{eq-eqb, eqb-true, or_parts}
use Rattle.std.proofs.lemmas.Cmp.{nat_eq_equiv}
use Rattle.std.proofs.lemmas.List.{length-map}
use Rattle.std.proofs.lemmas.Map.Entries.{length-keys_of}
use Rattle.std.proofs.lemmas.Map.Made.{is_some-lookup, length-from_same_keys}
use Rattle.lp_calculus.specs.Types.{Ty, var, param, con, arrow, instance}
use Rattle.lp_term.specs.declared.node.TypeId.{TypeId}
use Rattle.lp_type_unify.specs.Reading.{IsOlder, Slot}
use Rattle.lp_model.specs.Types.{TypeBinding, one_type, put_types}
use Rattle.lp_pattern.proofs.TypesBound.{Over, Away, OverBindings, IsGood, puts_over}

abbrev ids : List TypeBinding → List ℕ
ids bs = map (λ b. b.id) bs

all_away : (x : ℕ) (bs : List TypeBinding) → OverBindings (Away x) bs → AllByRecursion (λ y. nat_eq x y ≡ false) (ids bs)
all_away x [] k = tt
all_away x (b ∷ bs) k = (nat_eq_equiv.symm x b.id ∙ k.0.0, all_away x bs k.1)

good_distinct : (bs : List TypeBinding) → IsGood bs → IsDistinct nat_eq (ids bs)
unfolding IsDistinct
good_distinct [] g = tt
good_distinct (b ∷ bs) g = (all_away b.id bs g.1, good_distinct bs g.2)

self_away : (x : ℕ) → Away x x → ⊥
self_away x e = let r = eq-eqb x x refl in cc

other_var : (b : TypeBinding) (x : ℕ) → nat_eq x b.id ≡ false → one_type b x ≡ var x
other_var b x e = ap (λ f. if f then b.value else var x) e

not_bound : (bs : List TypeBinding) (x : ℕ) → list_any (nat_eq x) (ids bs) ≡ false → put_types bs (var x) ≡ var x
not_bound [] x e = refl
not_bound (b ∷ bs) x e = let w = or_parts (nat_eq x b.id) (list_any (nat_eq x) (ids bs)) e in ap (put_types bs) (other_var b x w.0) ∙ not_bound bs x w.1

is_bound : (bs : List TypeBinding) → IsGood bs → (x : ℕ) → list_any (nat_eq x) (ids bs) ≡ true → put_types bs (var x) ≡ var x → ⊥
is_bound [] g x m e = absurd (cc)
is_bound (b ∷ bs) g x m e = go (λ n r. is_bound bs g.2 x n r) (nat_eq x b.id) refl m
  where
    go : (list_any (nat_eq x) (ids bs) ≡ true → put_types bs (var x) ≡ var x → ⊥) → (f : Bool) → nat_eq x b.id ≡ f → (f || list_any (nat_eq x) (ids bs)) ≡ true → ⊥
    go ih true q n =
        let same : x ≡ b.id = eqb-true x b.id q in
        let here : one_type b x ≡ b.value = ap (λ f. if f then b.value else var x) q in
        let over : Over (Away x) (put_types bs b.value) = transport (λ y. Over (Away y) (put_types bs b.value)) (sym same) (puts_over (Away b.id) bs b.value g.1 g.0) in
        self_away x (transport (Over (Away x)) (ap (put_types bs) (sym here) ∙ e) over)
    go ih false q n = ih n (ap (put_types bs) (sym (other_var b x q)) ∙ e)

var_is : (x y : ℕ) → var x ≡ var y → x ≡ y
var_is x y e = cc

module _ (τ ι : ℕ → Ty) (n : ℕ) (found : ℕ → Option TypeId) (slots : (x : ℕ) → Slot τ n ι x (found x)) where
  step : (y x : ℕ) (u : Ty) → IsOlder y u → instance ι u ≡ var x → ((w : ℕ) → w < y → ι w ≡ var x → ⊥) → ⊥
  step y x (var w) o e f = f w o e
  step y x (param k) o e f = absurd (cc)
  step y x (con k ts) o e f = absurd (cc)
  step y x (arrow a b) o e f = absurd (cc)

  at_slot : (y x : ℕ) (o : Option TypeId) → Slot τ n ι y o → y < x → ι y ≡ var x → ((w : ℕ) → w < y → ι w ≡ var x → ⊥) → ⊥
  at_slot y x None s l e f = let q : y ≡ x = var_is y x (sym s ∙ e) in absurd (omega (arith, q, l))
  at_slot y x (Some t) s l e f = step y x (τ t.0) s.1 (sym s.0 ∙ e) f

  low : (z y x : ℕ) → y < z → y < x → ι y ≡ var x → ⊥
  low zero y x k l e = absurd (omega (arith, k))
  low (suc z) y x k l e = at_slot y x (found y) (slots y) l e (λ w m. low z w x (omega (arith, m, k)) (omega (arith, m, l)))

  moved : (x : ℕ) (t : TypeId) → found x ≡ Some t → ι x ≡ var x → ⊥
  moved x t q e =
      let s : Slot τ n ι x (Some t) = transport (Slot τ n ι x) q (slots x) in
      step x x (τ t.0) s.1 (sym s.0 ∙ e) (λ w m. low x w x m m)

  unmoved : (x : ℕ) → found x ≡ None → ι x ≡ var x
  unmoved x q = transport (Slot τ n ι x) q (slots x)

  module _ (bs : List TypeBinding) (good : IsGood bs) (puts : (x : ℕ) → ι x ≡ put_types bs (var x)) where
    same_by : (x : ℕ) (o : Option TypeId) (m : Bool) → found x ≡ o → list_any (nat_eq x) (ids bs) ≡ m → m ≡ is_some o
    same_by x None true q r = absurd (is_bound bs good x r (sym (puts x) ∙ unmoved x q))
    same_by x None false q r = refl
    same_by x (Some t) true q r = refl
    same_by x (Some t) false q r = absurd (moved x t q (puts x ∙ not_bound bs x r))

-- as many entries as bindings
pub as_many : (τ ι : ℕ → Ty) (n : ℕ) (es : List (ℕ × TypeId)) → ((x : ℕ) → Slot τ n ι x (lookup (nat_eq x) es)) → IsDistinct nat_eq (keys_of es) →
    (bs : List TypeBinding) → IsGood bs → ((x : ℕ) → ι x ≡ put_types bs (var x)) → length es ≡ length bs
as_many τ ι n es slots apart bs good puts =
    sym (length-keys_of es) ∙
    sym (length-from_same_keys nat_eq_equiv (ids bs) (keys_of es) (good_distinct bs good) apart (λ x. same_by τ ι n (λ y. lookup (nat_eq y) es) slots bs good puts x (lookup (nat_eq x) es) (list_any (nat_eq x) (ids bs)) refl refl ∙ is_some-lookup (nat_eq x) es)) ∙
    length-map bs (λ b. b.id)
