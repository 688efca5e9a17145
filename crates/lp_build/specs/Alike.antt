-- Files that say the same.
use Rattle.std.specs.Prelude.{◌≡◌, List, [], ◌∷◌, string_bytes}
use Rattle.lp_build.specs.declared.sources.File.{File}

-- the same text of the same module, under the same name, with the same bytes
pub record IsAlike (f g : File) : Type 0 where
  pub part : f.part ≡ g.part
  pub stem : string_bytes f.module ≡ string_bytes g.module
  pub name : string_bytes f.name ≡ string_bytes g.name
  pub bytes : f.text.bytes.items ≡ g.text.bytes.items

-- such files one by one, as many of the one as of the other
abbrev pub AreAlike : List File → List File → Type 0
AreAlike [] [] = Unit {0}
AreAlike (f ∷ fs) (g ∷ gs) = IsAlike f g × AreAlike fs gs
AreAlike _ _ = ⊥
