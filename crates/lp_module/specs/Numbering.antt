-- The numbers of hidden names: the k-th hidden one of a name has the number k.
use Rattle.std.specs.Global.{Global}
use Rattle.std.specs.Prelude.{◌≡◌, ℕ, zero, suc, ◌+◌, ◌⊎◌, List, [], ◌∷◌, ◌++◌, nat_lt, if◌then◌else◌, Option, Some, None, Vec}
use Rattle.std.specs.Str.{bytes_eq}
use Rattle.std.specs.Map.{lookup}
use Rattle.indexmap.specs.IndexMap.{IndexMap}
use Rattle.lp_module.specs.declared.copies.GlobalName.{GlobalName}

-- a hidden name counts as one, a global one, whose number is 0, as none
abbrev pub hidden_one : ℕ → ℕ
hidden_one zero = 0
hidden_one (suc n) = 1

-- how many of these are hidden names of this name
abbrev pub hidden_ones : List ℕ → List GlobalName → ℕ
hidden_ones name [] = 0
hidden_ones name (g ∷ gs) = (if bytes_eq name g.name.items then hidden_one g.hidden else 0) + hidden_ones name gs

-- a number that 16 bits hold; there are never as many names
abbrev pub capped : ℕ → ℕ
capped n = if nat_lt n 65535 then n else 65535

-- each of these is global, or has the next number of its name behind those before it
abbrev pub NumberedFrom : List GlobalName → List GlobalName → Type 0
NumberedFrom before [] = Unit {0}
NumberedFrom before (g ∷ gs) = ((g.hidden ≡ 0) ⊎ (g.hidden ≡ capped (hidden_ones g.name.items before + 1))) × NumberedFrom (before ++ g ∷ []) gs

abbrev pub AreNumbered : List GlobalName → Type 0
AreNumbered names = NumberedFrom [] names

-- what a table has at a name
abbrev pub or_none : Option ℕ → ℕ
or_none None = 0
or_none (Some n) = n

unfoldable pub count_in : {S : Type 0} → IndexMap (Vec ℕ Global) ℕ S → List ℕ → ℕ
count_in counts name = or_none (lookup (λ k. bytes_eq name k.items) counts.entries)

-- the next number behind a count
abbrev pub following : ℕ → ℕ
following n = if nat_lt n 65535 then n + 1 else 65535

-- a table has the hidden ones of each name
abbrev pub AreCounted : {S : Type 0} → IndexMap (Vec ℕ Global) ℕ S → List GlobalName → Type 0
AreCounted counts names = (name : List ℕ) → count_in counts name ≡ capped (hidden_ones name names)
