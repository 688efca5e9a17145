-- Records of copies, put behind one another with the numbers that the copies have in an image.
use Rattle.std.specs.Prelude.{◌≡◌, ℕ, ◌+◌, List, [], ◌∷◌, ◌++◌, length}
use Rattle.lp_code.specs.declared.record.Record.{Record}
use Rattle.lp_code.specs.Symbolic.{Tables}
use Rattle.lp_code.specs.Naming.{object_tables}
use Rattle.lp_link.specs.Linked.{Copy, map_of, records_of}
use Rattle.lp_link.specs.Numbers.{renumbered}
use Rattle.lp_link.specs.Renumbering.{AreMoved, AllRecordsMoved, KeepsStandard}

-- each copy's records stand behind those of the copies before it, n of them before all, and over the tables each of its numbers means what it meant
abbrev pub ArePut : Tables → (n : ℕ) → List Copy → List Record → Type 0
ArePut u n [] rs = rs ≡ []
ArePut u n (c ∷ cs) rs =
    (own : List Record) × (more : List Record) × (rs ≡ own ++ more) × KeepsStandard (renumbered 8 c.kinds) (renumbered 32 c.constants)
    × AreMoved (map_of n c) (object_tables c.object) u × AllRecordsMoved (map_of n c) n (records_of c) own × ArePut u (n + length (records_of c)) cs more
