-- The tests for equal names and equal types tell what they say: same names with the same types are one head.
use Rattle.std.proofs.Common.{◌≡◌, ℕ, zero, suc, List, [], ◌∷◌, ◌++◌, length, refl, sym, ap, subst as transport, ◌∙◌, arith, Bool, true, false, nat_eq, if◌then◌else◌, Option, Some, None}
use Rattle.std.proofs.lemmas.Bool.Decides.{nat_tests, Decides-int_eq}
use Rattle.std.specs.Prelude.{◌&&◌, option_map}
use Rattle.lp_calculus.specs.Types.{Ty, Tys, var, param as tparam, con, arrow, no_types, types}
use Rattle.lp_calculus.specs.Term.{Term, index, atom, Atom, constant, integer, text, eigen, logic, param}
use Rattle.lp_model.specs.Same.{same_numbers, same_atom, same_name}
use Rattle.lp_model.specs.Types.{TypePair, parts_of, zipped, same_top}
use Rattle.lp_model.specs.Rule.{Compared, dearer, type_pairs, compare_types}

pub both : (a b : Bool) → (a && b) ≡ true → (a ≡ true) × (b ≡ true)
both true b h = (refl, h)
both false b h = absurd (cc)

pub both_on : (a b : Bool) → a ≡ true → b ≡ true → (a && b) ≡ true
both_on true b h k = k
both_on false b h k = absurd (cc)

pub same_number : (i j : ℕ) → nat_eq i j ≡ true → i ≡ j
same_number i j h = grind (arith, nat_tests)

pub number_same : (i : ℕ) → nat_eq i i ≡ true
number_same i = grind (arith, nat_tests)

pub same_numbers_is : (is js : List ℕ) → same_numbers is js ≡ true → is ≡ js
same_numbers_is [] [] h = refl
same_numbers_is (i ∷ is) (j ∷ js) h =
    let r = both (nat_eq i j) (same_numbers is js) h in
    let p = same_number i j r.0 in
    let q = same_numbers_is is js r.1 in
    λ z. p z ∷ q z
same_numbers_is _ _ h = absurd (cc)

pub numbers_same : (is : List ℕ) → same_numbers is is ≡ true
numbers_same [] = refl
numbers_same (i ∷ is) = both_on (nat_eq i i) (same_numbers is is) (number_same i) (numbers_same is)

-- the pairs of types that are one by one the same
abbrev pub AllSame : List TypePair → Type 0
AllSame [] = Unit {0}
AllSame (p ∷ ps) = (p.left ≡ p.right) × AllSame ps

same_split : (ps qs : List TypePair) → AllSame (ps ++ qs) → AllSame ps × AllSame qs
same_split [] qs h = (tt, h)
same_split (p ∷ ps) qs h = let r = same_split ps qs h.1 in ((h.0, r.0), r.1)

parts_same : (ts us : Tys) (qs : List TypePair) → parts_of ts us ≡ Some qs → AllSame qs → ts ≡ us
parts_same no_types no_types qs e h = refl
parts_same no_types (types u us) qs e h = absurd (cc)
parts_same (types t ts) no_types qs e h = absurd (cc)
parts_same (types t ts) (types u us) qs e h = elim (parts_of ts us) as (λ o. parts_of ts us ≡ o → (elim o [ None ↦ None | Some ps ↦ Some (record { left = t; right = u } ∷ ps) ]) ≡ Some qs → types t ts ≡ types u us) [
  | None ↦ λ p q. absurd (cc)
  | Some ps ↦ λ p q.
      let r : record { left = t; right = u } ∷ ps ≡ qs = cc in
      let k = transport AllSame (sym r) h in
      let i = parts_same ts us ps p k.1 in
      λ j. types (k.0 j) (i j)
] refl e

-- types that begin in the same way, and whose parts are the same, are the same
top_same : (t u : Ty) (qs : List TypePair) → same_top t u ≡ Some qs → AllSame qs → t ≡ u
top_same (var i) (var j) qs e h = elim (nat_eq i j) as (λ b. nat_eq i j ≡ b → (if b then Some [] else None) ≡ Some qs → var i ≡ var j) [
  | true ↦ λ p q. ap var (same_number i j p)
  | false ↦ λ p q. absurd (cc)
] refl e
top_same (tparam i) (tparam j) qs e h = elim (nat_eq i j) as (λ b. nat_eq i j ≡ b → (if b then Some [] else None) ≡ Some qs → tparam i ≡ tparam j) [
  | true ↦ λ p q. ap tparam (same_number i j p)
  | false ↦ λ p q. absurd (cc)
] refl e
top_same (con c ts) (con d us) qs e h = elim (nat_eq c d) as (λ b. nat_eq c d ≡ b → (if b then parts_of ts us else None) ≡ Some qs → con c ts ≡ con d us) [
  | true ↦ λ p q. let i = same_number c d p in let k = parts_same ts us qs q h in λ j. con (i j) (k j)
  | false ↦ λ p q. absurd (cc)
] refl e
top_same (arrow a b) (arrow c d) qs e h =
    let r : record { left = a; right = c } ∷ record { left = b; right = d } ∷ [] ≡ qs = cc in
    let k = transport AllSame (sym r) h in
    λ i. arrow (k.0 i) (k.1.0 i)
top_same _ _ qs e h = absurd (cc)

pub map_same : (n : ℕ) (o : Option Compared) (c : Compared) → option_map (dearer n) o ≡ Some c → (d : Compared) × (o ≡ Some d) × (c.same ≡ d.same)
map_same n None c e = absurd (cc)
map_same n (Some d) c e = let r : dearer n d ≡ c = cc in (d, refl, sym (ap (λ x. x.same) r))

pub not_same : (c : Compared) (m : ℕ) → Some (record { same = false; units = m }) ≡ Some c → c.same ≡ true → ⊥
not_same c m e s = let r : record { same = false; units = m } ≡ c = cc in let q = ap (λ (x : Compared). x.same) r in cc

pub types_same : (n : ℕ) (ps : List TypePair) (c : Compared) → compare_types n ps ≡ Some c → c.same ≡ true → AllSame ps
types_same zero ps c e s = absurd (cc)
types_same (suc n) [] c e s = tt
types_same (suc n) (p ∷ ps) c e s = elim (same_top p.left p.right) as (λ o. same_top p.left p.right ≡ o → (elim o [
  | None ↦ Some (record { same = false; units = 1 })
  | Some qs ↦ option_map (dearer 1) (compare_types n (qs ++ ps))
]) ≡ Some c → AllSame (p ∷ ps)) [
  | None ↦ λ i j. absurd (not_same c 1 j s)
  | Some qs ↦ λ i j.
      let m = map_same 1 (compare_types n (qs ++ ps)) c j in
      let k = same_split qs ps (types_same n (qs ++ ps) m.0 m.1 (sym m.2 ∙ s)) in
      (top_same p.left p.right qs i k.0, k.1)
] refl e

-- lists of types that are as many
pub zipped_same : (ts us : List Ty) → length ts ≡ length us → AllSame (zipped ts us) → ts ≡ us
zipped_same [] [] e h = refl
zipped_same [] (u ∷ us) e h = absurd (omega arith)
zipped_same (t ∷ ts) [] e h = absurd (omega arith)
zipped_same (t ∷ ts) (u ∷ us) e h = let l : length ts ≡ length us = omega arith in let r = zipped_same ts us l h.1 in λ i. h.0 i ∷ r i

same_atoms : (a b : Atom) → same_atom a b ≡ true → AllSame (type_pairs (atom a) (atom b)) → a ≡ b
same_atoms (constant c ts) (constant d us) h k =
    let r = both (nat_eq c d) (nat_eq (length ts) (length us)) h in
    let p = same_number c d r.0 in
    let q = zipped_same ts us (same_number (length ts) (length us) r.1) k in
    λ i. constant (p i) (q i)
same_atoms (integer i) (integer j) h k = ap integer ((Decides-int_eq i j).0 h)
same_atoms (text s) (text r) h k = ap text (same_numbers_is s r h)
same_atoms (eigen i) (eigen j) h k = ap eigen (same_number i j h)
same_atoms (logic x l) (logic y m) h k =
    let r = both (nat_eq x y) (nat_eq l m) h in
    let p = same_number x y r.0 in
    let q = same_number l m r.1 in
    λ i. logic (p i) (q i)
same_atoms (param i t) (param j u) h k =
    let p = same_number i j h in
    λ z. param (p z) (k.0 z)
same_atoms _ _ h k = absurd (cc)

pub same_heads : (h g : Term) → same_name h g ≡ true → AllSame (type_pairs h g) → h ≡ g
same_heads (index i) (index j) e k = ap index (same_number i j e)
same_heads (atom a) (atom b) e k = ap atom (same_atoms a b e k)
same_heads _ _ e k = absurd (cc)
