-- The kinds of a signature have the numbers from 8 on, and the constants those from 32 on.
use Rattle.std.specs.Prelude.{◌≡◌, ℕ, ◌+◌, ◌<◌, List, length, get_or}
use Rattle.lp_sig.specs.declared.entries.KindEntry.{KindEntry}
use Rattle.lp_sig.specs.declared.entries.ConstantEntry.{ConstantEntry}

abbrev pub AreNumberedKinds : List KindEntry → Type 0
AreNumberedKinds es = (k : ℕ) (d : KindEntry) → k < length es → (get_or es k d).number ≡ 8 + k

abbrev pub AreNumberedConstants : List ConstantEntry → Type 0
AreNumberedConstants es = (k : ℕ) (d : ConstantEntry) → k < length es → (get_or es k d).number ≡ 32 + k
