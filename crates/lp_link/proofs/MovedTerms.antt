-- Types and terms with kinds and constants renumbered: what the definition of code does with them goes along.
use Rattle.std.proofs.Common.{◌≡◌, ◌∙◌, ℕ, zero, suc, List, [], ◌∷◌, map, length, Bool, true, false, Option, Some, None, ap, refl, sym}
use Rattle.std.specs.Prelude.{nat_eq, ◌&&◌, if◌then◌else◌, option_map}
use Rattle.std.proofs.lemmas.Bool.{eqb-true}
use Rattle.std.proofs.lemmas.List.{length-map}
use Rattle.lp_lemmas.proofs.Booleans.{and_true_left, and_true_right}
use Rattle.lp_lemmas.proofs.Numbers.{nat_eq_self}
use Rattle.lp_calculus.specs.Types.{Ty, Tys, var, param, con, arrow, no_types, types, instance, instances}
use Rattle.lp_calculus.specs.Term.{Term, app, apply}
use Rattle.lp_calculus.specs.Typing.{Scheme, type_at, scheme_type}
use Rattle.lp_term.specs.Mapped.{Map, mapped, mapped_type, mapped_types}
use Rattle.lp_code.specs.Symbolic.{equal_types, equal_lists, applied_type, argument_type, result_type, agree_at, agree, either_of, joined, is_closed, innermost, outer}
use Rattle.lp_link.specs.Renumbering.{moved_scheme}
use Rattle.lp_link.specs.inner.Renumbering.{moved_loose}

-- types that are equal
mutual
  equal_self : (T : Ty) → equal_types T T ≡ true
  equal_self (var i) = nat_eq_self i
  equal_self (param k) = nat_eq_self k
  equal_self (con c ts) = λ j. nat_eq_self c j && equal_lists_self ts j
  equal_self (arrow a b) = λ j. equal_self a j && equal_self b j

  equal_lists_self : (ts : Tys) → equal_lists ts ts ≡ true
  equal_lists_self no_types = refl
  equal_lists_self (types t ts) = λ j. equal_self t j && equal_lists_self ts j

mutual
  equal_true : (T U : Ty) → equal_types T U ≡ true → T ≡ U
  equal_true (var i) (var j) e = ap var (eqb-true i j e)
  equal_true (var i) (param j) e = absurd (cc)
  equal_true (var i) (con d us) e = absurd (cc)
  equal_true (var i) (arrow c d) e = absurd (cc)
  equal_true (param i) (var j) e = absurd (cc)
  equal_true (param i) (param j) e = ap param (eqb-true i j e)
  equal_true (param i) (con d us) e = absurd (cc)
  equal_true (param i) (arrow c d) e = absurd (cc)
  equal_true (con c ts) (var j) e = absurd (cc)
  equal_true (con c ts) (param j) e = absurd (cc)
  equal_true (con c ts) (con d us) e = λ j. con (eqb-true c d (and_true_left (nat_eq c d) (equal_lists ts us) e) j) (equal_lists_true ts us (and_true_right (nat_eq c d) (equal_lists ts us) e) j)
  equal_true (con c ts) (arrow a b) e = absurd (cc)
  equal_true (arrow a b) (var j) e = absurd (cc)
  equal_true (arrow a b) (param j) e = absurd (cc)
  equal_true (arrow a b) (con d us) e = absurd (cc)
  equal_true (arrow a b) (arrow c d) e = λ j. arrow (equal_true a c (and_true_left (equal_types a c) (equal_types b d) e) j) (equal_true b d (and_true_right (equal_types a c) (equal_types b d) e) j)

  equal_lists_true : (ts us : Tys) → equal_lists ts us ≡ true → ts ≡ us
  equal_lists_true no_types no_types e = refl
  equal_lists_true no_types (types u us) e = absurd (cc)
  equal_lists_true (types t ts) no_types e = absurd (cc)
  equal_lists_true (types t ts) (types u us) e = λ j. types (equal_true t u (and_true_left (equal_types t u) (equal_lists ts us) e) j)
      (equal_lists_true ts us (and_true_right (equal_types t u) (equal_lists ts us) e) j)

-- a map that leaves type variables as they are
abbrev pub KeepsVariables : Map → Type 0
KeepsVariables m = (i : ℕ) → m.types i ≡ var i

module _ (m : Map) where
  pub equal_moved : (T U : Ty) → equal_types T U ≡ true → equal_types (mapped_type m T) (mapped_type m U) ≡ true
  equal_moved T U e = ap (λ U. equal_types (mapped_type m T) (mapped_type m U)) (sym (equal_true T U e)) ∙ equal_self (mapped_type m T)

  -- a function on arguments of its types
  pub applied_moved : (T : Ty) (Us : List Ty) (R : Ty) → applied_type T Us ≡ Some R → applied_type (mapped_type m T) (map (mapped_type m) Us) ≡ Some (mapped_type m R)
  applied_moved T [] R e = ap (option_map (mapped_type m)) e
  applied_moved (arrow a b) (U ∷ Us) R e = by (equal_types a U) refl e (applied_moved b Us R)
    where
      by : (t : Bool) → equal_types a U ≡ t → (if t then applied_type b Us else None) ≡ Some R →
          (applied_type b Us ≡ Some R → applied_type (mapped_type m b) (map (mapped_type m) Us) ≡ Some (mapped_type m R))
          → (if equal_types (mapped_type m a) (mapped_type m U) then applied_type (mapped_type m b) (map (mapped_type m) Us) else None) ≡ Some (mapped_type m R)
      by true f e go = ap (λ t. if t then applied_type (mapped_type m b) (map (mapped_type m) Us) else None) (equal_moved a U f) ∙ go e
      by false f e go = absurd (cc)
  applied_moved (var i) (U ∷ Us) R e = absurd (cc)
  applied_moved (param i) (U ∷ Us) R e = absurd (cc)
  applied_moved (con c ts) (U ∷ Us) R e = absurd (cc)

  pub argument_moved : (T : Ty) (i : ℕ) (A : Ty) → argument_type T i ≡ Some A → argument_type (mapped_type m T) i ≡ Some (mapped_type m A)
  argument_moved (arrow a b) zero A e = ap (option_map (mapped_type m)) e
  argument_moved (arrow a b) (suc i) A e = argument_moved b i A e
  argument_moved (var x) i A e = absurd (cc)
  argument_moved (param x) i A e = absurd (cc)
  argument_moved (con c ts) i A e = absurd (cc)

  -- a term on arguments
  pub apply_moved : (t : Term) (us : List Term) → mapped m (apply t us) ≡ apply (mapped m t) (map (mapped m) us)
  apply_moved t [] = refl
  apply_moved t (u ∷ us) = apply_moved (app t u) us

  -- loose indices
  pub agree_at_moved : (o p : Option Ty) → agree_at o p ≡ true → agree_at (option_map (mapped_type m) o) (option_map (mapped_type m) p) ≡ true
  agree_at_moved (Some T) (Some U) e = equal_moved T U e
  agree_at_moved (Some T) None e = refl
  agree_at_moved None o e = refl

  pub agree_moved : (ls rs : List (Option Ty)) → agree ls rs ≡ true → agree (moved_loose m ls) (moved_loose m rs) ≡ true
  agree_moved [] rs e = refl
  agree_moved (l ∷ ls) [] e = refl
  agree_moved (l ∷ ls) (r ∷ rs) e = λ j. agree_at_moved l r (and_true_left (agree_at l r) (agree ls rs) e) j && agree_moved ls rs (and_true_right (agree_at l r) (agree ls rs) e) j

  either_moved : (o p : Option Ty) → either_of (option_map (mapped_type m) o) (option_map (mapped_type m) p) ≡ option_map (mapped_type m) (either_of o p)
  either_moved (Some T) p = refl
  either_moved None p = refl

  pub joined_moved : (ls rs : List (Option Ty)) → joined (moved_loose m ls) (moved_loose m rs) ≡ moved_loose m (joined ls rs)
  joined_moved [] rs = refl
  joined_moved (l ∷ ls) [] = refl
  joined_moved (l ∷ ls) (r ∷ rs) = λ j. either_moved l r j ∷ joined_moved ls rs j

  pub closed_moved : (ls : List (Option Ty)) → is_closed (moved_loose m ls) ≡ is_closed ls
  closed_moved [] = refl
  closed_moved (None ∷ ls) = closed_moved ls
  closed_moved (Some T ∷ ls) = refl

  pub innermost_moved : (ls : List (Option Ty)) → innermost (moved_loose m ls) ≡ option_map (mapped_type m) (innermost ls)
  innermost_moved [] = refl
  innermost_moved (l ∷ ls) = refl

  pub outer_moved : (ls : List (Option Ty)) → outer (moved_loose m ls) ≡ moved_loose m (outer ls)
  outer_moved [] = refl
  outer_moved (l ∷ ls) = refl

module _ (m : Map) (keeps : KeepsVariables m) where
  -- what is left of a function's type
  pub result_moved : (T : Ty) (n : ℕ) → result_type (mapped_type m T) n ≡ mapped_type m (result_type T n)
  result_moved T zero = refl
  result_moved (arrow a b) (suc n) = result_moved b n
  result_moved (var i) (suc n) = ap (λ T. result_type T (suc n)) (keeps i) ∙ sym (keeps i)
  result_moved (param i) (suc n) = refl
  result_moved (con c ts) (suc n) = refl

  -- a declared type on types
  mutual
    instance_moved : (θ φ : ℕ → Ty) → ((i : ℕ) → mapped_type m (θ i) ≡ φ i) → (T : Ty) → mapped_type m (instance θ T) ≡ instance φ (mapped_type m T)
    instance_moved θ φ h (var i) = h i ∙ sym (ap (instance φ) (keeps i))
    instance_moved θ φ h (param k) = refl
    instance_moved θ φ h (con c ts) = ap (con (m.kinds c)) (instances_moved θ φ h ts)
    instance_moved θ φ h (arrow a b) = λ j. arrow (instance_moved θ φ h a j) (instance_moved θ φ h b j)

    instances_moved : (θ φ : ℕ → Ty) → ((i : ℕ) → mapped_type m (θ i) ≡ φ i) → (ts : Tys) → mapped_types m (instances θ ts) ≡ instances φ (mapped_types m ts)
    instances_moved θ φ h no_types = refl
    instances_moved θ φ h (types t ts) = λ j. types (instance_moved θ φ h t j) (instances_moved θ φ h ts j)

  type_at_moved : m.kinds 0 ≡ 0 → (ts : List Ty) (i : ℕ) → mapped_type m (type_at ts i) ≡ type_at (map (mapped_type m) ts) i
  type_at_moved z [] i = ap (λ k. con k no_types) z
  type_at_moved z (t ∷ ts) zero = refl
  type_at_moved z (t ∷ ts) (suc i) = type_at_moved z ts i

  pub scheme_moved : m.kinds 0 ≡ 0 → (ts : List Ty) (o : Option Scheme) → scheme_type (map (mapped_type m) ts) (option_map (moved_scheme m) o) ≡ option_map (mapped_type m) (scheme_type ts o)
  scheme_moved z ts None = refl
  scheme_moved z ts (Some s) =
      ap (λ n. if nat_eq n s.count then Some (instance (type_at (map (mapped_type m) ts)) (mapped_type m s.body)) else None) (length-map ts (mapped_type m)) ∙ by (nat_eq (length ts) s.count)
    where
      by : (t : Bool) → (if t then Some (instance (type_at (map (mapped_type m) ts)) (mapped_type m s.body)) else None) ≡ option_map (mapped_type m)
          (if t then Some (instance (type_at ts) s.body) else None)
      by true = ap (λ T. Some T) (sym (instance_moved (type_at ts) (type_at (map (mapped_type m) ts)) (type_at_moved z ts) s.body))
      by false = refl
