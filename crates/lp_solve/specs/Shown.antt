-- What the answers of a query are shown with: the names of its variables as they are written, and the constants of the program.
use Rattle.std.specs.Prelude.{◌≡◌, ℕ, ◌+◌, min, List, [], ◌∷◌, map, Option, None, nat_eq, if◌then◌else◌}
use Rattle.lp_standard.specs.declared.fixity.Fixity.{Fixity}
use Rattle.lp_model.specs.Shown.{Entry}
use Rattle.lp_model.specs.declared.program.Typed.{Typed}
use Rattle.lp_show.specs.Glossary.{entries_of}
use Rattle.lp_sig.specs.Pieces.{spelled}
use Rattle.lp_sig.specs.Rows.{found, fixity_row}
use Rattle.lp_sig.specs.declared.signature.Signature.{Signature}
use Rattle.lp_module.specs.declared.copies.GlobalName.{GlobalName}
use Rattle.lp_build.specs.declared.build.Built.{Built}
use Rattle.lp_solve.specs.declared.shown.Shown.{Shown}

-- the names of a query's variables
abbrev pub names_written : (text : List ℕ) → Typed → List (List ℕ)
names_written text q = map (spelled text) (map (λ v. v.0) q.vars.items)

-- a global constant is shown with the fixity that queries see for its name, a hidden one without
abbrev pub fixity_of : Signature → GlobalName → Option (Fixity × ℕ)
fixity_of s g = if nat_eq g.hidden 0 then found g.name.items (map fixity_row s.fixities.items) else None

-- a number that 32 bits hold; a program has at most 1,048,576 constants
abbrev pub following : ℕ → ℕ
following n = min (n + 1) 4294967295

abbrev pub constant_shown : Signature → (number : ℕ) → GlobalName → Entry
constant_shown s k g = record { number = k; name = g.name.items; hidden = g.hidden; fixity = fixity_of s g }

-- the constants of a program, numbered from here on
abbrev pub constants_shown : Signature → (from : ℕ) → List GlobalName → List Entry
constants_shown s k [] = []
constants_shown s k (g ∷ gs) = constant_shown s k g ∷ constants_shown s (following k) gs

abbrev pub all_constants : Built → List Entry
all_constants b = constants_shown b.signature 32 b.assembled.constants.items

-- what answers are shown with
abbrev pub names_in : Shown → List (List ℕ)
names_in s = map (λ n. n.items) s.names.items

abbrev pub constants_in : Shown → List Entry
constants_in s = entries_of s.glossary.entries.items

pub record IsShownWith (text : List ℕ) (q : Typed) (built : Built) (shown : Shown) : Type 0 where
  pub names : names_in shown ≡ names_written text q
  pub constants : constants_in shown ≡ all_constants built
