-- The constants of the language have the types of its table.
use Rattle.std.proofs.Common.{◌≡◌, ℕ, zero, suc, List, [], ◌∷◌, ◌++◌, map, Some, None, refl, ap, sym}
use Rattle.std.specs.Prelude.{slice_get}
use Rattle.lp_standard.specs.declared.constant.Constant.{Constant}
use Rattle.lp_standard.specs.declared.constant.Constant.TheVariants.{Print}
use Rattle.lp_standard.specs.Constants.{language, numbered}
use Rattle.lp_standard.specs.Schemes.{scheme, standard_schemes, entry}

entry_at : (cs : List Constant) (n : ℕ) (k : Constant) → Some k ≡ slice_get (cs ++ Print ∷ []) n → entry (map scheme cs) n ≡ scheme k
entry_at [] zero k h = let e : k ≡ Print = cc in sym (ap scheme e)
entry_at [] (suc n) k h = absurd (cc)
entry_at (c ∷ cs) zero k h = let e : k ≡ c = cc in sym (ap scheme e)
entry_at (c ∷ cs) (suc n) k h = entry_at cs n k h

none_at : (cs : List Constant) (n : ℕ) → None ≡ slice_get (cs ++ Print ∷ []) n → entry (map scheme cs) n ≡ None
none_at [] n h = refl
none_at (c ∷ cs) zero h = absurd (cc)
none_at (c ∷ cs) (suc n) h = none_at cs n h

-- a number of the language has the type of its constant, and else there is none
pub standard_entry : (n : ℕ) (k : Constant) → Some k ≡ numbered n → entry standard_schemes n ≡ scheme k
standard_entry n k h = entry_at language n k h

pub no_standard_entry : (n : ℕ) → None ≡ numbered n → entry standard_schemes n ≡ None
no_standard_entry n h = none_at language n h
