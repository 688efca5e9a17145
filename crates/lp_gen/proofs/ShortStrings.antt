-- Strings that are short enough, and a string as it is cut.
use Rattle.std.proofs.Common.{◌≡◌, ℕ, List, true, length, arith}
use Rattle.std.specs.Prelude.{nat_lt, take}
use Rattle.std.proofs.lemmas.Bool.{ltb-true, lt-ltb}
use Rattle.std.proofs.lemmas.List.{length-take, take_all}
use Rattle.lp_gen.specs.Registers.{past}
use Rattle.lp_gen.proofs.LimitsLeft.{within_past}

pub string_short : (s : List ℕ) → past 65535 (length s) ≡ 0 → nat_lt (length s) 65536 ≡ true
string_short s e = let l = within_past 65535 (length s) e in lt-ltb (length s) 65536 (omega (arith, l))

pub cut_short : (s : List ℕ) → nat_lt (length (take 65535 s)) 65536 ≡ true
cut_short s = let z = length-take 65535 s in lt-ltb (length (take 65535 s)) 65536 (omega (arith, z))

pub cut_whole : (s : List ℕ) → nat_lt (length s) 65536 ≡ true → take 65535 s ≡ s
cut_whole s e = let z = ltb-true (length s) 65536 e in take_all 65535 s (omega (arith, z))
