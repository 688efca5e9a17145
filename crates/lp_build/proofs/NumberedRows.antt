-- Rows of names: those of a module and of its object, and the numbers of hidden ones.
use Rattle.std.proofs.Common.{◌≡◌, ◌∙◌, ◌++◌, ◌∷◌, [], ◌+◌, ◌-◌, ℕ, zero, suc, Bool, true, false, if◌then◌else◌, List, Some, length, map, take, drop, nat_lt, inl, inr, ap, refl, sym, arith}
use Rattle.std.specs.Prelude.{◌⊎◌, slice_get, option_to_list, min}
use Rattle.std.specs.Str.{bytes_eq}
use Rattle.std.specs.List.{range_with_len}
use Rattle.std.proofs.lemmas.Bool.{ltb-true, ltb-false}
use Rattle.std.proofs.lemmas.Bool.Decides.{nat_tests}
use Rattle.std.proofs.lemmas.List.{drop_all}
use Rattle.lp_lemmas.proofs.Lists.{get_below}
use Rattle.lp_link.specs.Names.{times, fitted, numbered, as_global, exported_of, hidden_of}
use Rattle.lp_link.proofs.NamedRows.{times_append}
use Rattle.lp_module.specs.Numbering.{hidden_one, hidden_ones, capped, NumberedFrom}
use Rattle.lp_module.specs.Program.{hidden_among, row_of}
use Rattle.lp_module.specs.declared.copies.GlobalName.{GlobalName}
use Rattle.lp_build.specs.Compiled.{AreExported}
use Rattle.lp_build.specs.SameNames.{full_row}
use Rattle.lp_build.proofs.SameCopies.{exported_rest, first_flag, hidden_rest}

-- the hidden entries of a table stand behind the exported ones
dropped : {A : Type 0} (k : ℕ) (xs : List A) (x : A) → slice_get xs k ≡ Some x → drop k xs ≡ x ∷ drop (suc k) xs
dropped k [] x e = absurd (cc)
dropped zero (y ∷ xs) x e = let z : y ≡ x = cc in ap (λ u. u ∷ xs) z
dropped (suc k) (y ∷ xs) x e = dropped k xs x e

pub hidden_last : {A : Type 0} (b n f k : ℕ) (xs : List A) → b ≡ f + k → n ≡ length xs - k → hidden_among f (range_with_len b n) xs ≡ drop k xs
hidden_last b zero f k xs e l = sym (drop_all k xs (omega (arith, l)))
hidden_last b (suc n) f k xs e l =
    let (x, at) = get_below xs k (omega (arith, l)) in
    let z : b - f ≡ k = omega (arith, e) in
    ap (λ j. option_to_list (slice_get xs j) ++ hidden_among f (range_with_len (b + 1) n) xs) z ∙ ap (λ o. option_to_list o ++ hidden_among f (range_with_len (b + 1) n) xs) at
    ∙ ap (λ l. x ∷ l) (hidden_last (b + 1) n f (suc k) xs (omega (arith, e)) (omega (arith, l))) ∙ sym (dropped k xs x at)

-- so do those of an object, of which the first ones are exported
module _ {A X : Type 0} (name : X → List ℕ) (flag : X → Bool) (value : X → A) where
  one_exported : (x : X) (xs : List X) (b : Bool) → flag x ≡ b → exported_of (map (λ x. (name x, flag x)) (x ∷ xs)) (map value (x ∷ xs))
      ≡ exported_of ((name x, b) ∷ map (λ x. (name x, flag x)) xs) (value x ∷ map value xs)
  one_exported x xs b e = ap (λ b. exported_of ((name x, b) ∷ map (λ x. (name x, flag x)) xs) (value x ∷ map value xs)) e

  one_hidden : (x : X) (xs : List X) (b : Bool) → flag x ≡ b → hidden_of (map (λ x. (name x, flag x)) (x ∷ xs)) (map value (x ∷ xs))
      ≡ hidden_of ((name x, b) ∷ map (λ x. (name x, flag x)) xs) (value x ∷ map value xs)
  one_hidden x xs b e = ap (λ b. hidden_of ((name x, b) ∷ map (λ x. (name x, flag x)) xs) (value x ∷ map value xs)) e

  pub exported_front : (e : ℕ) (xs : List X) → AreExported flag e xs → exported_of (map (λ x. (name x, flag x)) xs) (map value xs) ≡ take e (map value xs)
  exported_front zero [] h = refl
  exported_front (suc e) [] h = refl
  exported_front zero (x ∷ xs) h = one_exported x xs false (first_flag flag 0 x xs h ∙ grind (arith, nat_tests)) ∙ exported_front zero xs (hidden_rest flag x xs h)
  exported_front (suc e) (x ∷ xs) h =
      one_exported x xs true (first_flag flag (suc e) x xs h ∙ grind (arith, nat_tests)) ∙ ap (λ l. value x ∷ l) (exported_front e xs (exported_rest flag e x xs h))

  pub hidden_back : (e : ℕ) (xs : List X) → AreExported flag e xs → hidden_of (map (λ x. (name x, flag x)) xs) (map value xs) ≡ drop e (map value xs)
  hidden_back zero [] h = refl
  hidden_back (suc e) [] h = refl
  hidden_back zero (x ∷ xs) h =
      one_hidden x xs false (first_flag flag 0 x xs h ∙ grind (arith, nat_tests)) ∙ ap (λ l. value x ∷ l) (hidden_back zero xs (hidden_rest flag x xs h))
  hidden_back (suc e) (x ∷ xs) h = one_hidden x xs true (first_flag flag (suc e) x xs h ∙ grind (arith, nat_tests)) ∙ hidden_back e xs (exported_rest flag e x xs h)

-- rows without a number, of global names and of hidden ones
abbrev pub with_mark : (hidden : ℕ) → List ℕ × ℕ → List ℕ × (ℕ × ℕ)
with_mark hidden row = (row.0, (hidden, row.1))

-- counts
fitted_is : (n : ℕ) → capped n ≡ fitted n
fitted_is n = by (nat_lt n 65535) refl
  where
    by : (t : Bool) → nat_lt n 65535 ≡ t → (if t then n else 65535) ≡ min n 65535
    by true e = let l = ltb-true n 65535 e in omega (arith, l)
    by false e = let l = ltb-false n 65535 e in omega (arith, l)

ones_push : (w : List ℕ) (gs : List GlobalName) (g : GlobalName) → hidden_ones w (gs ++ g ∷ []) ≡ hidden_ones w gs + (if bytes_eq w g.name.items then hidden_one g.hidden else 0)
ones_push w [] g = omega arith
ones_push w (x ∷ xs) g = let e = ones_push w xs g in omega (arith, e)

nothing_more : (t : Bool) (h : ℕ) → h ≡ 0 → (if t then h else 0) ≡ 0
nothing_more true h e = e
nothing_more false h e = refl

zero_hidden : (h : ℕ) → hidden_one h ≡ 0 → h ≡ 0
zero_hidden zero e = refl
zero_hidden (suc h) e = absurd (omega (arith, e))

some_hidden : (h : ℕ) → hidden_one h ≡ 1 → h ≡ 0 → ⊥
some_hidden zero e z = omega (arith, e)
some_hidden (suc h) e z = omega (arith, z)

-- names with the next numbers are numbered, the k-th of a name with the number k
pub numbered_rows : (before gs : List GlobalName) (met : List (List ℕ)) (globals hidden : List (List ℕ × ℕ)) → NumberedFrom before gs
    → ((w : List ℕ) → hidden_ones w before ≡ times w met) → map row_of gs ≡ map (with_mark 0) globals ++ map (with_mark 1) hidden
    → map full_row gs ≡ map as_global globals ++ numbered met hidden
numbered_rows before [] met [] [] n counts e = refl
numbered_rows before [] met [] (h ∷ hs) n counts e = absurd (let l = ap length e in omega (arith, l))
numbered_rows before [] met (k ∷ ks) hs n counts e = absurd (let l = ap length e in omega (arith, l))
numbered_rows before (g ∷ gs) met [] [] n counts e = absurd (let l = ap length e in omega (arith, l))
numbered_rows before (g ∷ gs) met ((w, a) ∷ ks) hs (here, n) counts e =
    let head : row_of g ≡ (w, (0, a)) = cc in
    let rest : map row_of gs ≡ map (with_mark 0) ks ++ map (with_mark 1) hs = cc in
    let mark = ap (λ r. r.1.0) head in
    let z = zero_hidden g.hidden mark in
    let more = numbered_rows (before ++ g ∷ []) gs met ks hs n
    (λ u. ones_push u before g ∙ (let c = counts u in let q = nothing_more (bytes_eq u g.name.items) (hidden_one g.hidden) mark in omega (arith, c, q))) rest in
    λ i. ((head i).0, (z i, (head i).1.1)) ∷ more i
numbered_rows before (g ∷ gs) met [] ((w, a) ∷ hs) (here, n) counts e =
    let head : row_of g ≡ (w, (1, a)) = cc in
    let rest : map row_of gs ≡ map (with_mark 1) hs = cc in
    let named = ap (λ r. r.0) head in
    let mark = ap (λ r. r.1.0) head in
    let number : g.hidden ≡ fitted (times w met + 1) = by mark here ∙ fitted_is (hidden_ones g.name.items before + 1) ∙ ap (λ k. fitted (k + 1)) (counts g.name.items ∙ ap (λ v. times v met) named) in
    let more = numbered_rows (before ++ g ∷ []) gs (met ++ w ∷ []) [] hs n (λ u. counted u named mark) rest in
    λ i. ((head i).0, (number i, (head i).1.1)) ∷ more i
  where
    by : hidden_one g.hidden ≡ 1 → (g.hidden ≡ 0) ⊎ (g.hidden ≡ capped (hidden_ones g.name.items before + 1)) → g.hidden ≡ capped (hidden_ones g.name.items before + 1)
    by m (inl z) = absurd (some_hidden g.hidden m z)
    by m (inr q) = q

    counted : (u : List ℕ) → g.name.items ≡ w → hidden_one g.hidden ≡ 1 → hidden_ones u (before ++ g ∷ []) ≡ times u (met ++ w ∷ [])
    counted u named mark =
        ones_push u before g ∙ ap (λ v. hidden_ones u before + (if bytes_eq u v then hidden_one g.hidden else 0)) named
        ∙ ap (λ k. hidden_ones u before + (if bytes_eq u w then k else 0)) mark ∙ (let c = counts u in let s = times_append u met (w ∷ []) in omega (arith, c, s))
