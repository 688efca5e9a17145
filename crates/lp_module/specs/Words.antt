-- The words of the accumulate sentences of a text, and the ways that they make.
use Rattle.std.specs.Global.{Global}
use Rattle.std.specs.Prelude.{ℕ, List, [], ◌∷◌, ◌++◌, Option, Some, None, Vec}
use Rattle.lp_base.specs.declared.place.Spot.{Spot}
use Rattle.lp_syntax.specs.declared.text.Declaration.{Declaration}
use Rattle.lp_syntax.specs.declared.text.Declaration.TheVariants.{Kinds, LocalKinds, Constants, Locals, Abbreviation, Accumulate, AccumSig, Fixities}
use Rattle.lp_syntax.specs.declared.text.ModuleText.{ModuleText}
use Rattle.lp_syntax.specs.declared.text.Sentence.{Sentence}
use Rattle.lp_syntax.specs.declared.text.Sentence.TheVariants.{Declares, Says}
use Rattle.lp_sig.specs.Pieces.{spelled}
use Rattle.lp_sig.specs.Places.{first_place}
use Rattle.lp_module.specs.Order.{Way}

abbrev pub named_words : Declaration → List Spot
named_words (Accumulate words) = words.items
named_words (Kinds names n) = []
named_words (LocalKinds names n) = []
named_words (Constants names ty) = []
named_words (Locals names ty) = []
named_words (Abbreviation name ps ty) = []
named_words (AccumSig words) = []
named_words (Fixities names f n) = []

abbrev pub line_words : Sentence → List Spot
line_words (Declares d) = named_words d
line_words (Says raw) = []

abbrev pub accumulate_words : List Sentence → List Spot
accumulate_words [] = []
accumulate_words (l ∷ ls) = line_words l ++ accumulate_words ls

-- a word that names a module is a way to it, any other word none
abbrev pub way_to : Spot → Option ℕ → List Way
way_to word None = []
way_to word (Some m) = (word, m) ∷ []

-- the ways of these words of a text; modules have the names of their files, of which the first of a name counts
abbrev pub ways_of : List (List ℕ) → List ℕ → List Spot → List Way
ways_of names text [] = []
ways_of names text (w ∷ ws) = way_to w (first_place (spelled text w) names) ++ ways_of names text ws

-- the ways out of each module
abbrev pub all_ways : List (List ℕ) → List (Vec ℕ Global) → List ModuleText → List (List Way)
all_ways names [] texts = []
all_ways names (s ∷ ss) [] = []
all_ways names (s ∷ ss) (t ∷ ts) = ways_of names s.items (accumulate_words t.lines.items) ∷ all_ways names ss ts
