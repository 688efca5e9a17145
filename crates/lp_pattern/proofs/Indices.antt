-- Indices for eigenconstants: below one more abstraction, and where those of a side are abstracted.
use Rattle.std.proofs.Common.{◌≡◌, ℕ, zero, suc, ◌+◌, ◌-◌, ◌<◌, ◌≤◌, List, [], ◌∷◌, length, ◌∙◌, refl, sym, ap, arith, Bool, true, false, Option, Some, None, nat_eq, if◌then◌else◌}
use Rattle.std.specs.Prelude.{option_map, nat_le, nat_lt, not}
use Rattle.std.proofs.lemmas.Bool.Decides.{nat_tests}
use mathlib.Core.Path.{fun_ext}
use Rattle.lp_calculus.specs.Term.{Term, Atom, index, atom, abs, app, shift, constant, integer, text, eigen, logic, param}
use Rattle.lp_calculus.specs.Fill.{fill, raise, at_eigens, indexed, abstraction, abstracted}
use Rattle.lp_calculus.proofs.Eta.{app_same}
use Rattle.lp_calculus.proofs.Fills.{fill-fill}
use Rattle.lp_term.specs.Spine.{abstractions}
use Rattle.lp_model.specs.Patterns.{member}
use Rattle.lp_model.specs.Look.{are_distinct}
use Rattle.lp_lemmas.proofs.Booleans.{and_true_left, and_true_right}
use Rattle.lp_pattern.specs.Settling.{side_index, index_past, index_in, eigen_or, indexed_in}
use Rattle.lp_pattern.proofs.Renewing.{raises, fill_abstractions, abs_inside, shift_index, raises_eigen, placed, placed_first, not_true}

raise_or : (k : ℕ) (o : Option ℕ) → shift 0 1 (eigen_or k o) ≡ eigen_or k (option_map suc o)
raise_or k None = refl
raise_or k (Some i) = shift_index i

past_more : (d : ℕ) (o : Option ℕ) → option_map suc (option_map (λ i. d + i) o) ≡ option_map (λ i. suc d + i) o
past_more d None = refl
past_more d (Some i) = let z : suc (d + i) ≡ suc d + i = omega arith in ap (λ x. Some x) z

abbrev choice : (d k l : ℕ) → (a b : Bool) → Option ℕ
choice d k l a b = if a then None else (if b then None else Some (d - (k - l)))

-- an eigenconstant that was there before the abstraction was opened
deeper : (l d k : ℕ) (o : Option ℕ) (a b e : Bool) → nat_eq k (suc (l + d)) ≡ false → nat_le k l ≡ a → nat_lt d (k - l) ≡ b → nat_lt (suc d) (k - l) ≡ e →
    option_map suc (index_past d (choice d k l a b) o) ≡ index_past (suc d) (choice (suc d) k l a e) o
deeper l d k o true b e h p q r = past_more d o
deeper l d k o false true true h p q r = past_more d o
deeper l d k o false true false h p q r =
    absurd (
    let x : l < k = grind (arith, nat_tests) in
    let y : d < k - l = grind (arith, nat_tests) in
    let z : k - l ≤ suc d = grind (arith, nat_tests) in
    let w : k ≡ suc (l + d) = omega (arith, x, y, z) in
    let v : nat_eq k (suc (l + d)) ≡ true = grind (arith, nat_tests) in
    let u : true ≡ false = sym v ∙ h in
    cc)
deeper l d k o false false true h p q r = absurd (let y : k - l ≤ d = grind (arith, nat_tests) in let z : suc d < k - l = grind (arith, nat_tests) in omega (arith, y, z))
deeper l d k o false false false h p q r =
    let y : k - l ≤ d = grind (arith, nat_tests) in
    let z : suc (d - (k - l)) ≡ suc d - (k - l) = omega (arith, y) in
    ap (λ x. Some x) z

one_deeper : (cs : List ℕ) (l d k : ℕ) → nat_eq k (suc (l + d)) ≡ false → option_map suc (index_in cs l d k) ≡ index_in cs l (suc d) k
one_deeper cs l d k h = deeper l d k (side_index cs k) (nat_le k l) (nat_lt d (k - l)) (nat_lt (suc d) (k - l)) h refl refl refl

-- that of the abstraction itself
opened_now : (cs : List ℕ) (l d : ℕ) → index_in cs l (suc d) (suc (l + d)) ≡ Some 0
opened_now cs l d =
    let a : nat_le (suc (l + d)) l ≡ false = grind (arith, nat_tests) in
    let w : suc (l + d) - l ≡ suc d = omega arith in
    let b : nat_lt (suc d) (suc d) ≡ false = grind (arith, nat_tests) in
    let z : suc d - suc d ≡ 0 = omega arith in
    (λ i. index_past (suc d) (if a i then None else (if nat_lt (suc d) (w i) then None else Some (suc d - w i))) (side_index cs (suc (l + d)))) ∙
    (λ i. index_past (suc d) (if b i then None else Some (z i)) (side_index cs (suc (l + d))))

under_indexed : (cs : List ℕ) (l d : ℕ) (a : Atom) →
    fill (raise (at_eigens (λ k. eigen_or k (index_in cs l d k)))) (indexed (suc (l + d)) a) ≡ at_eigens (λ k. eigen_or k (index_in cs l (suc d) k)) a
under_indexed cs l d (constant j us) = refl
under_indexed cs l d (integer z) = refl
under_indexed cs l d (text s) = refl
under_indexed cs l d (logic x m) = refl
under_indexed cs l d (param j u) = refl
under_indexed cs l d (eigen j) = go (nat_eq j (suc (l + d))) refl
  where
    go : (b : Bool) → nat_eq j (suc (l + d)) ≡ b → fill (raise (at_eigens (λ k. eigen_or k (index_in cs l d k)))) (if b then index 0 else atom (eigen j)) ≡ eigen_or j (index_in cs l (suc d) j)
    go true h = let x : j ≡ suc (l + d) = grind (arith, nat_tests) in sym (ap (eigen_or j) (ap (index_in cs l (suc d)) x ∙ opened_now cs l d))
    go false h = raise_or j (index_in cs l d j) ∙ ap (eigen_or j) (one_deeper cs l d j h)

pub indexed_abs : (cs : List ℕ) (l d : ℕ) (u : Term) → indexed_in cs l d (abstraction (suc (l + d)) u) ≡ abs (indexed_in cs l (suc d) u)
indexed_abs cs l d u =
    ap abs
    (fill-fill (raise (at_eigens (λ k. eigen_or k (index_in cs l d k)))) (indexed (suc (l + d))) (at_eigens (λ k. eigen_or k (index_in cs l (suc d) k))) (under_indexed cs l d) u)

-- where none is open
mutual
  unfolding raises

  plain_raises : (n : ℕ) (f : Atom → Term) (a : Atom) → f a ≡ atom a → raises n f a ≡ atom a
  plain_raises zero f a e = e
  plain_raises (suc n) f a e = ap (shift 0 1) (plain_raises n f a e)

fill_self : (f : Atom → Term) → ((a : Atom) → f a ≡ atom a) → (t : Term) → fill f t ≡ t
fill_self f h (index i) = refl
fill_self f h (atom a) = h a
fill_self f h (abs b) = ap abs (fill_self (raise f) (λ a. ap (shift 0 1) (h a)) b)
fill_self f h (app t u) = app_same (fill_self f h t) (fill_self f h u)

mutual
  unfolding placed

  placed_none : (a : Atom) → at_eigens (placed []) a ≡ atom a
  placed_none (constant j us) = refl
  placed_none (integer z) = refl
  placed_none (text s) = refl
  placed_none (eigen k) = refl
  placed_none (logic x m) = refl
  placed_none (param j u) = refl

mutual
  unfolding placed

  placed_behind : (c : ℕ) (cs : List ℕ) (a : Atom) → fill (raises (length cs) (indexed c)) (at_eigens (placed cs) a) ≡ at_eigens (placed (c ∷ cs)) a
  placed_behind c cs (constant j us) = plain_raises (length cs) (indexed c) (constant j us) refl
  placed_behind c cs (integer z) = plain_raises (length cs) (indexed c) (integer z) refl
  placed_behind c cs (text s) = plain_raises (length cs) (indexed c) (text s) refl
  placed_behind c cs (eigen k) = refl
  placed_behind c cs (logic x m) = plain_raises (length cs) (indexed c) (logic x m) refl
  placed_behind c cs (param j u) = plain_raises (length cs) (indexed c) (param j u) refl

abstracted_placed : (cs : List ℕ) (t : Term) → abstracted cs t ≡ abstractions (length cs) (fill (at_eigens (placed cs)) t)
abstracted_placed [] t = sym (fill_self (at_eigens (placed [])) placed_none t)
abstracted_placed (c ∷ cs) t =
    ap (λ x. abs (fill (indexed c) x)) (abstracted_placed cs t) ∙ ap abs (fill_abstractions (length cs) (indexed c) (fill (at_eigens (placed cs)) t)) ∙
    abs_inside (length cs) (fill (raises (length cs) (indexed c)) (fill (at_eigens (placed cs)) t)) ∙
    ap (λ x. abstractions (length cs) (abs x)) (fill-fill (raises (length cs) (indexed c)) (at_eigens (placed cs)) (at_eigens (placed (c ∷ cs))) (placed_behind c cs) t)

mutual
  unfolding placed

  placed_is : (cs : List ℕ) → are_distinct cs ≡ true → (k : ℕ) → placed cs k ≡ eigen_or k (side_index cs k)
  placed_is [] e k = refl
  placed_is (c ∷ cs) e k = go (nat_eq k c) refl (placed_is cs (and_true_right (not (member c cs)) (are_distinct cs) e) k)
    where
      behind : (o : Option ℕ) → nat_eq k c ≡ false → fill (raises (length cs) (indexed c)) (eigen_or k o) ≡ eigen_or k o
      behind None h = raises_eigen (length cs) c k ∙ ap (λ b. if b then index (length cs) else atom (eigen k)) h
      behind (Some i) h = refl

      go : (b : Bool) → nat_eq k c ≡ b → placed cs k ≡ eigen_or k (side_index cs k) → placed (c ∷ cs) k ≡ eigen_or k (if b then Some (length cs) else side_index cs k)
      go true h ih =
          let x : k ≡ c = grind (arith, nat_tests) in ap (placed (c ∷ cs)) x ∙ placed_first c cs (not_true (member c cs) (and_true_left (not (member c cs)) (are_distinct cs) e))
      go false h ih = ap (fill (raises (length cs) (indexed c))) ih ∙ behind (side_index cs k) h

none_past : (k : ℕ) (o : Option ℕ) → eigen_or k (option_map (λ i. 0 + i) o) ≡ eigen_or k o
none_past k None = refl
none_past k (Some i) = let z : 0 + i ≡ i = omega arith in ap index z

none_open : (cs : List ℕ) (l k : ℕ) → eigen_or k (index_in cs l 0 k) ≡ eigen_or k (side_index cs k)
none_open cs l k = go (nat_le k l) (nat_lt 0 (k - l)) refl refl
  where
    go : (a b : Bool) → nat_le k l ≡ a → nat_lt 0 (k - l) ≡ b → eigen_or k (index_past 0 (if a then None else (if b then None else Some (0 - (k - l)))) (side_index cs k)) ≡ eigen_or k (side_index cs k)
    go true b p q = none_past k (side_index cs k)
    go false true p q = none_past k (side_index cs k)
    go false false p q = absurd (let x : l < k = grind (arith, nat_tests) in let y : k - l ≤ 0 = grind (arith, nat_tests) in omega (arith, x, y))

-- the eigenconstants of a side abstracted
pub abstracted_is : (cs : List ℕ) (l : ℕ) (t : Term) → are_distinct cs ≡ true → abstracted cs t ≡ abstractions (length cs) (indexed_in cs l 0 t)
abstracted_is cs l t e =
    abstracted_placed cs t ∙ ap (λ ε. abstractions (length cs) (fill (at_eigens ε) t)) (fun_ext (λ k. placed_is cs e k ∙ sym (none_open cs l k)))
