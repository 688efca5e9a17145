-- The constants behind texts.
use Rattle.std.specs.Prelude.{List, [], ◌∷◌, ◌++◌}
use Rattle.lp_sig.specs.Rows.{Row}
use Rattle.lp_sig.specs.Abbreviations.{Seen, Text, seen_after}
use Rattle.lp_sig.specs.Constants.{Written, constants_in, KnowsConstants, AreTyped, HaveFirstTypes}
use Rattle.lp_sig.specs.Holding.{KnowsSeen}
use Rattle.lp_sig.specs.declared.making.Making.{Making}

-- the constants of texts, one after the other
abbrev pub constants_after : List (Row Written) → List Text → List (Row Written)
constants_after rows [] = rows
constants_after rows (t ∷ ts) = constants_after (rows ++ constants_in t.0 t.1) ts

-- each constant has a type, which is that of the first one of its name
abbrev pub AreAllTyped : Making → Seen → List (Row Written) → Type 0
AreAllTyped making z rows = AreTyped making.constants × HaveFirstTypes z.said z.definitions rows rows

-- behind these texts so many more constants are known
abbrev pub Declares : Making → Making → List Text → Type 0
Declares old new ts = (z : Seen) (rows : List (Row Written)) → KnowsSeen old z → KnowsConstants old.bodies.types.bank old.constants z.said z.definitions rows →
    KnowsConstants new.bodies.types.bank new.constants (seen_after z ts).said (seen_after z ts).definitions (constants_after rows ts) × (AreAllTyped old z rows → AreAllTyped new (seen_after z ts) (constants_after rows ts))
