-- The numbers of a copy's names, made one after the other.
use Rattle.std.proofs.Common.{◌≡◌, ◌∙◌, ◌+◌, ◌-◌, ◌<◌, ◌≤◌, ℕ, suc, Bool, true, false, List, [], ◌∷◌, ◌++◌, length, map, drop, take, reverse, get_or, Option, None, Some, ap, refl, sym, subst, arith, append_assoc}
use Rattle.std.specs.Prelude.{slice_get, option_map}
use Rattle.std.proofs.lemmas.List.{append-nil, drop_all, length-map, get_or-map, reverse-append, take_all}
use Rattle.lp_lemmas.specs.Each.{EachOf}
use Rattle.lp_lemmas.proofs.Lists.{drop_read, get_below, take_suc}
use Rattle.lp_link.specs.declared.names.Open.{Open}
use Rattle.lp_link.specs.Linked.{next_of, numbers_of}
use Rattle.lp_link.specs.inner.Naming.{next_number, next_global, next_hidden, AreNumbers, AreNumbersSoFar}
use Rattle.lp_link.specs.inner.Entering.{open_copy, copy_inside}

pub entries_drop : {X Y : Type 0} (f : X → Y) (xs all : List X) (at : ℕ) (x : X) → xs ≡ all → at < length xs → x ≡ get_or xs at x → drop at (map f all) ≡ f x ∷ drop (at + 1) (map f all)
entries_drop f xs all at x same l is =
    let n = length-map xs f in
    subst (λ ys. drop at (map f ys) ≡ f x ∷ drop (at + 1) (map f ys)) same (drop_read (map f xs) at (f x) (omega (arith, l, n)) (ap f is ∙ sym (get_or-map f xs at x (f x) l)))

module _ (told : List ℕ → Option ℕ) (g0 h0 : ℕ) (es : List (List ℕ × Bool)) where
  pub numbers_begin : (ns : List ℕ) → ns ≡ [] → AreNumbersSoFar told g0 h0 es 0 ns g0 h0
  numbers_begin ns e = λ small. ap (λ l. l ++ numbers_of told g0 h0 es) e

  small_behind : (xs ys : List ℕ) → EachOf (λ n. n < 4294967295) (xs ++ ys) → EachOf (λ n. n < 4294967295) ys
  small_behind [] ys h = h
  small_behind (x ∷ xs) ys h = small_behind xs ys h.1

  module _ (name : List ℕ) (rest : List (List ℕ × Bool)) (g h g' h' n : ℕ) where
    one_more : (b : Bool) (o : Option ℕ) → told name ≡ o → EachOf (λ n. n < 4294967295) (numbers_of told g h ((name, b) ∷ rest)) → n ≡ next_number b o
        g h → g' ≡ next_global b o g → h' ≡ next_hidden b h
        → numbers_of told g h ((name, b) ∷ rest) ≡ n ∷ numbers_of told g' h' rest
    one_more false o e small en eg eh =
        let l = small.0 in
        let q : suc h ≡ h' = omega (arith, l, eh) in
        λ i. sym en i ∷ numbers_of told (sym eg i) (q i) rest
    one_more true None e small en eg eh =
        let l = (subst (λ o. EachOf (λ n. n < 4294967295) (next_of o g (numbers_of told (suc g) h rest) (numbers_of told g h rest))) e small).0 in
        let q : suc g ≡ g' = omega (arith, l, eg) in
        ap (λ o. next_of o g (numbers_of told (suc g) h rest) (numbers_of told g h rest)) e ∙ (λ i. sym en i ∷ numbers_of told (q i) (sym eh i) rest)
    one_more true (Some k) e small en eg eh =
        ap (λ o. next_of o g (numbers_of told (suc g) h rest) (numbers_of told g h rest)) e ∙ (λ i. sym en i ∷ numbers_of told (sym eg i) (sym eh i) rest)

  pub numbers_next : (at : ℕ) (ns new : List ℕ) (g h g' h' n : ℕ) (name : List ℕ) (b : Bool) (o : Option ℕ) → drop at es ≡ (name, b) ∷ drop (at + 1) es → new ≡ ns ++ n ∷ [] → told name ≡ o
      → n ≡ next_number b o g h → g' ≡ next_global b o g → h' ≡ next_hidden b h → AreNumbersSoFar told g0 h0 es at ns g h → AreNumbersSoFar told g0 h0 es (at + 1) new g' h'
  numbers_next at ns new g h g' h' n name b o there pushed e en eg eh sofar = λ small.
      let s : ns ++ numbers_of told g h ((name, b) ∷ drop (at + 1) es) ≡ numbers_of told g0 h0 es = ap (λ l. ns ++ numbers_of told g h l) (sym there) ∙ sofar small in
      let rest = small_behind ns (numbers_of told g h ((name, b) ∷ drop (at + 1) es)) (subst (EachOf (λ n. n < 4294967295)) (sym s) small) in
      ap (λ l. l ++ numbers_of told g' h' (drop (at + 1) es)) pushed ∙ append_assoc ns (n ∷ []) (numbers_of told g' h' (drop (at + 1) es))
      ∙ ap (λ l. ns ++ l) (sym (one_more name (drop (at + 1) es) g h g' h' n b o e rest en eg eh)) ∙ s

  pub numbers_done : (at : ℕ) (ns : List ℕ) (g h : ℕ) → length es ≤ at → AreNumbersSoFar told g0 h0 es at ns g h → AreNumbers told g0 h0 es ns
  numbers_done at ns g h l sofar = λ small. sym (append-nil ns) ∙ ap (λ x. ns ++ numbers_of told g h x) (sym (drop_all at es l)) ∙ sofar small

pub option_twice : {A B C : Type 0} (f : A → B) (g : B → C) (o : Option A) → option_map (λ x. g (f x)) o ≡ option_map g (option_map f o)
option_twice f g None = refl
option_twice f g (Some x) = refl

-- the last open copy is the innermost
pub last_inside : (xs : List Open) → option_map open_copy (slice_get xs (length xs - 1)) ≡ copy_inside (reverse xs)
last_inside [] = refl
last_inside (y ∷ ys) =
    let z : length (y ∷ ys) - 1 ≡ length ys = omega arith in
    let (x, is) = get_below (y ∷ ys) (length ys) (omega arith) in
    let t = take_suc (y ∷ ys) (length ys) x is in
    let w = take_all (suc (length ys)) (y ∷ ys) (omega arith) in
    ap (λ k. option_map open_copy (slice_get (y ∷ ys) k)) z ∙ ap (option_map open_copy) is ∙ sym (ap copy_inside (ap reverse (sym w ∙ t) ∙ reverse-append (take (length ys) (y ∷ ys)) (x ∷ [])))
