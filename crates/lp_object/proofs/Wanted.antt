-- How many parts are still to come, as a list.
use Rattle.std.proofs.Common.{◌≡◌, ℕ, zero, suc, ◌+◌, ◌-◌, ◌<◌, List, [], ◌∷◌, ◌++◌, replicate, sym, ap, ◌∙◌, arith}
use Rattle.std.specs.Prelude.{⊤}
use Rattle.std.proofs.lemmas.List.{replicate-append-replicate}

abbrev units : ℕ → List ⊤
units n = replicate n tt

pub one_wanted : (n : ℕ) → 0 < n → units n ≡ tt ∷ units (n - 1)
one_wanted zero lt = absurd (omega (arith, lt))
one_wanted (suc n) lt = let k : n ≡ suc n - 1 = omega arith in ap (λ m. tt ∷ units m) k

-- a part is read, which asks for more
pub more_wanted : (n m now : ℕ) (below : List ⊤) → below ≡ units m → now ≡ n - 1 + m → units now ≡ below ++ units (n - 1)
more_wanted n m now below is e =
    let k : now ≡ m + (n - 1) = omega (arith, e) in
    ap units k ∙ sym (replicate-append-replicate m (n - 1) tt) ∙ ap (λ ts. ts ++ units (n - 1)) (sym is)

pub none_wanted : (n : ℕ) → n ≡ 0 → units n ≡ []
none_wanted n e = ap units e
