-- Terms that are found to be the same convert.
use Rattle.std.proofs.Common.{◌≡◌, ℕ, zero, suc, ◌≤◌, List, [], ◌∷◌, length, ◌∙◌, refl, sym, ap, arith, true, false, nat_eq, Some}
use Rattle.std.specs.Prelude.{◌&&◌, option_map, option_and_then}
use Rattle.std.proofs.lemmas.Option.{option_and_then_some}
use Rattle.lp_calculus.specs.Term.{Term, atom, Atom, constant, integer, text, eigen, logic, param}
use Rattle.lp_calculus.specs.Convert.{Converts, ConvertAll, convert_none, convert_more}
use Rattle.lp_calculus.specs.Fill.{Within}
use Rattle.lp_model.specs.Same.{same_name}
use Rattle.lp_model.specs.Look.{Look, an_abs, rigid, flexible, look}
use Rattle.lp_model.specs.Rule.{Compared, dearer, type_pairs, compare_types, open_with, compare, compare_looks, compare_all}
use Rattle.lp_calculus.proofs.Fills.{within_more}
use Rattle.lp_calculus.proofs.Steps.{converts_on, converts_sym, converts_reduces, converts_is, within_reduces}
use Rattle.lp_unify_laws.proofs.Abstractions.{Not}
use Rattle.lp_unify_laws.proofs.Looks.{seen, look_reduces, converts_spine}
use Rattle.lp_unify_laws.specs.Levels.{UpTo}
use Rattle.lp_unify_laws.proofs.Sames.{both, same_number, same_heads, types_same, map_same, not_same}
use Rattle.lp_unify_laws.proofs.Closings.{WithinAll, within_apply, agree_on}

up_not : (k : ℕ) (a : Atom) → UpTo k a → Not (suc k) a
up_not k (eigen j) p = λ e. omega arith
up_not k (logic x l) p = tt
up_not k (constant c ts) p = tt
up_not k (integer z) p = tt
up_not k (text s) p = tt
up_not k (param i t) p = tt

pub up_more : (k m : ℕ) → k ≤ m → (a : Atom) → UpTo k a → UpTo m a
up_more k m h (eigen j) p = let q : j ≤ k = p in let r : j ≤ m = omega arith in r
up_more k m h (logic x l) p = tt
up_more k m h (constant c ts) p = tt
up_more k m h (integer z) p = tt
up_more k m h (text s) p = tt
up_more k m h (param i t) p = tt

pub up_open : (k : ℕ) (t : Term) → Within (UpTo k) 0 t → Within (UpTo (suc k)) 0 (open_with (suc k) t)
up_open k t w = let q : suc k ≤ suc k = omega arith in (within_more (UpTo k) (UpTo (suc k)) 0 0 (up_more k (suc k) (omega arith)) (omega arith) t w, q)

agree_up : (k : ℕ) (t u : Term) → Within (UpTo k) 0 t → Within (UpTo k) 0 u → Converts (open_with (suc k) t) (open_with (suc k) u) → Converts t u
agree_up k t u w v h = agree_on (suc k) t u (within_more (UpTo k) (Not (suc k)) 0 0 (up_not k) (omega arith) t w) (within_more (UpTo k) (Not (suc k)) 0 0 (up_not k) (omega arith) u v) h

mutual
  pub compare_is : (n k : ℕ) (t u : Term) (c : Compared) → compare n k t u ≡ Some c → c.same ≡ true → Within (UpTo k) 0 t → Within (UpTo k) 0 u → Converts t u
  compare_is zero k t u c e s w v = absurd (cc)
  compare_is (suc n) k t u c e s w v =
      option_and_then_some (λ v. option_and_then (λ w. compare_looks n k t u v w) (look n u)) (look n t) c e λ x p q.
      option_and_then_some (λ w. compare_looks n k t u x w) (look n u) c q λ y a b.
      let f = look_reduces n t x p in
      let g = look_reduces n u y a in
      compare_looks_is n k t u x y c b s w v (within_reduces (UpTo k) 0 f w) (within_reduces (UpTo k) 0 g v) (converts_reduces f) (converts_reduces g)

  compare_looks_is : (n k : ℕ) (t u : Term) (x y : Look) (c : Compared) → compare_looks n k t u x y ≡ Some c → c.same ≡ true → Within (UpTo k) 0 t → Within (UpTo k) 0 u → Within (UpTo k) 0 (seen x) → Within (UpTo k) 0 (seen y) → Converts t (seen x) → Converts u (seen y) → Converts t u
  compare_looks_is zero k t u x y c e s w v w' v' f g = absurd (cc)
  compare_looks_is (suc n) k t u (an_abs b) y c e s w v w' v' f g = agree_up k t u w v (compare_is n (suc k) (open_with (suc k) t) (open_with (suc k) u) c e s (up_open k t w) (up_open k u v))
  compare_looks_is (suc n) k t u (rigid h ts) (an_abs b) c e s w v w' v' f g = agree_up k t u w v (compare_is n (suc k) (open_with (suc k) t) (open_with (suc k) u) c e s (up_open k t w) (up_open k u v))
  compare_looks_is (suc n) k t u (flexible i l ts) (an_abs b) c e s w v w' v' f g = agree_up k t u w v (compare_is n (suc k) (open_with (suc k) t) (open_with (suc k) u) c e s (up_open k t w) (up_open k u v))
  compare_looks_is (suc n) k t u (rigid h ts) (rigid i us) c e s w v w' v' f g =
      elim (same_name h i && nat_eq (length ts) (length us)) as (λ b. (same_name h i && nat_eq (length ts) (length us)) ≡ b → (elim b [
        | true ↦ option_and_then (λ d. elim d.same [ true ↦ option_map (dearer (suc d.units)) (compare_all n k ts us) | false ↦ Some (dearer 1 d) ]) (compare_types n (type_pairs h i))
        | false ↦ Some (record { same = false; units = 1 })
      ]) ≡ Some c → Converts t u) [
        | true ↦ λ p q. option_and_then_some (λ d. elim d.same [ true ↦ option_map (dearer (suc d.units)) (compare_all n k ts us) | false ↦ Some (dearer 1 d) ]) (compare_types n (type_pairs h i)) c q λ d a b.
            elim d.same as (λ x. d.same ≡ x → (elim x [ true ↦ option_map (dearer (suc d.units)) (compare_all n k ts us) | false ↦ Some (dearer 1 d) ]) ≡ Some c → Converts t u) [
              | true ↦ λ x y.
                  let r = both (same_name h i) (nat_eq (length ts) (length us)) p in
                  let m = map_same (suc d.units) (compare_all n k ts us) c y in
                  let all = compare_all_is n k ts us m.0 m.1 (sym m.2 ∙ s) (same_number (length ts) (length us) r.1) (within_apply (UpTo k) ts h w').1 (within_apply (UpTo k) us i v').1 in
                  converts_on f (converts_on (converts_spine all (converts_is (same_heads h i r.0 (types_same n (type_pairs h i) d a x)))) (converts_sym g))
              | false ↦ λ x y. let z : dearer 1 d ≡ c = cc in let o : d.same ≡ true = ap (λ (x : Compared). x.same) z ∙ s in absurd (cc)
            ] refl b
        | false ↦ λ p q. absurd (not_same c 1 q s)
      ] refl e
  compare_looks_is (suc n) k t u (flexible x l ts) (flexible y m us) c e s w v w' v' f g =
      elim (nat_eq x y && nat_eq l m && nat_eq (length ts) (length us)) as (λ b. (nat_eq x y && nat_eq l m && nat_eq (length ts) (length us)) ≡ b → (elim b [ true ↦ option_map (dearer 1) (compare_all n k ts us) | false ↦ Some (record { same = false; units = 1 }) ]) ≡ Some c → Converts t u) [
        | true ↦ λ p q.
            let r = both (nat_eq x y && nat_eq l m) (nat_eq (length ts) (length us)) p in
            let r' = both (nat_eq x y) (nat_eq l m) r.0 in
            let e₁ = same_number x y r'.0 in
            let e₂ = same_number l m r'.1 in
            let z = map_same 1 (compare_all n k ts us) c q in
            let all = compare_all_is n k ts us z.0 z.1 (sym z.2 ∙ s) (same_number (length ts) (length us) r.1) (within_apply (UpTo k) ts (atom (logic x l)) w').1 (within_apply (UpTo k) us (atom (logic y m)) v').1 in
            converts_on f (converts_on (converts_spine all (converts_is (λ i. atom (logic (e₁ i) (e₂ i))))) (converts_sym g))
        | false ↦ λ p q. absurd (not_same c 1 q s)
      ] refl e
  compare_looks_is (suc n) k t u (rigid h ts) (flexible y m us) c e s w v w' v' f g = absurd (not_same c 1 e s)
  compare_looks_is (suc n) k t u (flexible x l ts) (rigid i us) c e s w v w' v' f g = absurd (not_same c 1 e s)

  pub compare_all_is : (n k : ℕ) (ts us : List Term) (c : Compared) → compare_all n k ts us ≡ Some c → c.same ≡ true → length ts ≡ length us → WithinAll (UpTo k) ts → WithinAll (UpTo k) us → ConvertAll ts us
  compare_all_is zero k ts us c e s l w v = absurd (cc)
  compare_all_is (suc n) k [] [] c e s l w v = convert_none
  compare_all_is (suc n) k [] (u ∷ us) c e s l w v = absurd (omega arith)
  compare_all_is (suc n) k (t ∷ ts) [] c e s l w v = absurd (omega arith)
  compare_all_is (suc n) k (t ∷ ts) (u ∷ us) c e s l w v =
      option_and_then_some (λ d. elim d.same [ true ↦ option_map (dearer d.units) (compare_all n k ts us) | false ↦ Some d ]) (compare n k t u) c e λ d p q.
      elim d.same as (λ b. d.same ≡ b → (elim b [ true ↦ option_map (dearer d.units) (compare_all n k ts us) | false ↦ Some d ]) ≡ Some c → ConvertAll (t ∷ ts) (u ∷ us)) [
        | true ↦ λ i j.
            let z = map_same d.units (compare_all n k ts us) c j in
            let q : length ts ≡ length us = omega arith in
            convert_more (compare_is n k t u d p i w.0 v.0) (compare_all_is n k ts us z.0 z.1 (sym z.2 ∙ s) q w.1 v.1)
        | false ↦ λ i j. let r : d ≡ c = cc in let h : d.same ≡ true = ap (λ x. x.same) r ∙ s in absurd (cc)
      ] refl q
