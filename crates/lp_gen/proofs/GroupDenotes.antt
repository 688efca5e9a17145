-- The records of clauses denote the clauses.
use Rattle.std.proofs.Common.{◌≡◌, ◌∙◌, ◌≤◌, ℕ, zero, suc, ◌+◌, List, [], ◌∷◌, ◌++◌, length, drop, true, false, Some, None, ap, refl, sym, arith}
use Rattle.std.specs.Prelude.{if◌then◌else◌, slice_get, option_map, option_and_then}
use Rattle.lp_model.specs.Flat.{Clause}
use Rattle.lp_code.specs.declared.record.Record.{Record}
use Rattle.lp_code.specs.Symbolic.{Tables as CodeTables}
use Rattle.lp_code.specs.States.{member}
use Rattle.lp_code.specs.Rules.{named_before}
use Rattle.lp_code.specs.Denote.{home_of, is_named, denoted, denote_from, later_from, nothing_captured}
use Rattle.lp_gen.proofs.PartsDone.{told_at}

-- a record of the program with those that it assumes

one_first : (T : CodeTables) (all : List Record) (n : ℕ) (r : Record) (rs : List Record) (c : Clause) → r.program ≡ true → rs ≡ drop (suc n) all → told_at T all n r nothing_captured ≡ Some c →
    denote_from T all n (r ∷ rs) ≡ option_map (λ cs. c ∷ cs) (denote_from T all (suc n) rs)
one_first T all n r rs c program from told =
    ap (λ b. if b then option_and_then (λ c. option_map (λ cs. c ∷ cs) (denote_from T all (suc n) rs)) (denoted (home_of T all n r) (later_from T all (suc n) rs) nothing_captured)
    else (if is_named (home_of T all n r) then denote_from T all (suc n) rs else None)) program
    ∙ ap (λ o. option_and_then (λ c. option_map (λ cs. c ∷ cs) (denote_from T all (suc n) rs)) o)
    (ap (λ l. denoted (home_of T all n r) (λ k e. later_from T all (suc n) l k e) nothing_captured) from ∙ told)

one_assumed : (T : CodeTables) (all : List Record) (n : ℕ) (r : Record) (rs : List Record) → r.program ≡ false → member n (named_before n all) ≡ true
    → denote_from T all n (r ∷ rs) ≡ denote_from T all (suc n) rs
one_assumed T all n r rs program named =
    ap (λ b. if b then option_and_then (λ c. option_map (λ cs. c ∷ cs) (denote_from T all (suc n) rs)) (denoted (home_of T all n r) (later_from T all (suc n) rs) nothing_captured)
    else (if is_named (home_of T all n r) then denote_from T all (suc n) rs else None)) program
    ∙ ap (λ b. if b then denote_from T all (suc n) rs else None) named

pub rest_assumed : (T : CodeTables) (all : List Record) (n : ℕ) (gs rest : List Record) →
    ((i : ℕ) (r : Record) → slice_get gs i ≡ Some r → (r.program ≡ false) × (member (n + i) (named_before (n + i) all) ≡ true)) →
    denote_from T all n (gs ++ rest) ≡ denote_from T all (n + length gs) rest
rest_assumed T all n [] rest each = let z : n ≡ n + 0 = omega arith in ap (λ k. denote_from T all k rest) z
rest_assumed T all n (g ∷ gs) rest each =
    let first = each 0 g refl in
    let z : n + 0 ≡ n = omega arith in
    let y : suc n + length gs ≡ n + suc (length gs) = omega arith in
    one_assumed T all n g (gs ++ rest) first.0 (ap (λ k. member k (named_before k all)) (sym z) ∙ first.1)
    ∙ rest_assumed T all (suc n) gs rest (λ i r at. let e = each (suc i) r at in let x : suc n + i ≡ n + suc i = omega arith in (e.0, ap (λ k. member k (named_before k all)) x ∙ e.1))
    ∙ ap (λ k. denote_from T all k rest) y

dropped : {X : Type 0} (all : List X) (n : ℕ) (x : X) (xs : List X) → drop n all ≡ x ∷ xs → drop (suc n) all ≡ xs
dropped [] zero x xs e = absurd (cc)
dropped [] (suc n) x xs e = absurd (cc)
dropped (y ∷ ys) zero x xs e = cc
dropped (y ∷ ys) (suc n) x xs e = dropped ys n x xs e

pub group_denotes : (T : CodeTables) (all : List Record) (n : ℕ) (g rest : List Record) (c : Clause) → drop n all ≡ g ++ rest → 1 ≤ length g →
    ((r : Record) → slice_get g 0 ≡ Some r → (r.program ≡ true) × (told_at T all n r nothing_captured ≡ Some c)) →
    ((i : ℕ) (r : Record) → slice_get g (suc i) ≡ Some r → (r.program ≡ false) × (member (n + suc i) (named_before (n + suc i) all) ≡ true)) →
    denote_from T all n (g ++ rest) ≡ option_map (λ cs. c ∷ cs) (denote_from T all (n + length g) rest)
group_denotes T all n [] rest c from some first others = absurd (omega (arith, some))
group_denotes T all n (r ∷ rs) rest c from some first others =
    let f = first r refl in
    let y : suc n + length rs ≡ n + suc (length rs) = omega arith in
    one_first T all n r (rs ++ rest) c f.0 (sym (dropped all n r (rs ++ rest) from)) f.1
    ∙ ap (option_map (λ cs. c ∷ cs)) (rest_assumed T all (suc n) rs rest (λ i s at. let e = others i s at in let x : n + suc i ≡ suc n + i = omega
    arith in (e.0, ap (λ k. member k (named_before k all)) (sym x) ∙ e.1))
    ∙ ap (λ k. denote_from T all k rest) y)
