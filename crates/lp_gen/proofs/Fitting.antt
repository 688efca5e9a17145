-- What passes the test fits.
use Rattle.std.proofs.Common.{◌≡◌, ℕ, ◌<◌, ◌≤◌, true, length, get_or, List, sym, ◌∙◌, true≢false, inl, inr}
use Rattle.std.specs.Prelude.{nat_lt, ◌&&◌, ◌⊎◌}
use Rattle.std.proofs.lemmas.Bool.{cases_lt, le-ltb}
use Rattle.std.specs.List.{All as Each}
use Rattle.lp_lemmas.proofs.Booleans.{and_true_left, and_true_right}
use Rattle.lp_code.specs.declared.instruction.Instr.{Instr}
use Rattle.lp_code.specs.declared.instruction.Instr.TheVariants.{TyCon, TyArr, TyNew, New, PutConst, PutInt, PutStr, PutIndex, PutAbs, PutApp, GetType, GetVar, Get, GetConst, GetInt, GetStr, Neck, Call, CallTerm, Equal, Is, Less, Greater, AtMost, AtLeast, Cut, Sigma, All, EndAll, Assume, EndAssume, Either, Jump, Proceed, Not, EndNot}
use Rattle.lp_code.specs.Length.{Fits}
use Rattle.lp_gen.specs.inner.Fitting.{is_fitting}

below : (n m : ℕ) → nat_lt n m ≡ true → n < m
below n m e = go (cases_lt n m)
  where
    go : (n < m) ⊎ (m ≤ n) → n < m
    go (inl h) = h
    go (inr h) = absurd (true≢false (sym e ∙ le-ltb n m h))

pub fits : (i : Instr) → is_fitting i ≡ true → Fits i
fits (TyCon d k ts) e = below (length ts.items) 256 e
fits (TyArr d a b) e = tt
fits (TyNew d) e = tt
fits (New d t) e = tt
fits (PutConst d c ts) e = below (length ts.items) 256 e
fits (PutInt d z) e = tt
fits (PutStr d s) e = below (length s.items) 65536 e
fits (PutIndex d i t) e = tt
fits (PutAbs d s t) e = tt
fits (PutApp d s rs) e = below (length rs.items) 256 e
fits (GetType j t) e = tt
fits (GetVar i d) e = tt
fits (Get i s) e = tt
fits (GetConst i c ts) e = below (length ts.items) 256 e
fits (GetInt i z) e = tt
fits (GetStr i s) e = below (length s.items) 65536 e
fits Neck e = tt
fits (Call c ts rs) e = (
  below (length ts.items) 256 (and_true_left (nat_lt (length ts.items) 256) (nat_lt (length rs.items) 256) e),
  below
      (length rs.items) 256 (and_true_right (nat_lt (length ts.items) 256) (nat_lt (length rs.items) 256) e),
)
fits (CallTerm s) e = tt
fits (Equal t l r) e = tt
fits (Is t l r) e = tt
fits (Less l r) e = tt
fits (Greater l r) e = tt
fits (AtMost l r) e = tt
fits (AtLeast l r) e = tt
fits Cut e = tt
fits (Sigma d t) e = tt
fits (All d t) e = tt
fits EndAll e = tt
fits (Assume ns ts rs) e =
    let a = nat_lt (length ns.items) 65536 in
    let b = nat_lt (length ts.items) 65536 in
    let c = nat_lt (length rs.items) 65536 in
    let l = and_true_left (a && b) c e in
    (below (length ns.items) 65536 (and_true_left a b l), below (length ts.items) 65536 (and_true_right a b l), below (length rs.items) 65536 (and_true_right (a && b) c e))
fits EndAssume e = tt
fits (Either n) e = tt
fits (Jump n) e = tt
fits Proceed e = tt
fits Not e = tt
fits EndNot e = tt

pub all_fit : (is : List Instr) → Each (λ i. is_fitting i ≡ true) is → Each Fits is
all_fit is all i d h = fits (get_or is i d) (all i d h)
