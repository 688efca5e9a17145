-- The program of the texts of a module.
use Rattle.std.proofs.Common.{ℕ, true, List, Option, refl, ◌∙◌}
use Rattle.std.specs.Prelude.{Result, Ok, Err, IfOk}
use Rattle.lp_base.specs.Held.{Held}
use Rattle.lp_term.proofs.Trees.{extends_same, extends-trans}
use Rattle.lp_build.specs.Ordered.{AreInOrder}
use Rattle.lp_build.specs.Reads.{AreRead}
use Rattle.lp_build.specs.Told.{AreLoaded}
use Rattle.lp_build.specs.declared.build.Built.{Built}
use Rattle.lp_build.specs.declared.sources.Sources.{Sources}
use Rattle.lp_lines.specs.declared.refusal.Refusal.{Refusal}
use Rattle.lp_load.specs.Loaded.{HasGrown, IsBuiltFrom, IsLoaded}

pub loaded_is : (told : Option Held) (root : List ℕ) (sources : Sources) (r : Result Built Refusal) → AreInOrder true root sources → AreLoaded told sources → AreRead sources → IfOk r (IsBuiltFrom sources) → IfOk r (IsLoaded told root)
loaded_is told root sources (Ok built) ordered files read h = record { sources = sources; ordered = ordered; files = files; read = read; program = h }
loaded_is told root sources (Err e) ordered files read h = tt

-- a program is itself, with no more nodes
pub not_grown : (built : Built) → HasGrown built built
not_grown built = record { bank = extends_same built.assembled.program.bank; constants = refl; clauses = refl; kinds = refl; names = refl; signature = refl; table = refl }

grown_then : (a b c : Built) → HasGrown a b → HasGrown b c → HasGrown a c
grown_then a b c g h = record {
  bank = extends-trans a.assembled.program.bank b.assembled.program.bank c.assembled.program.bank g.bank h.bank;
  constants = h.constants ∙ g.constants;
  clauses = h.clauses ∙ g.clauses;
  kinds = h.kinds ∙ g.kinds;
  names = h.names ∙ g.names;
  signature = h.signature ∙ g.signature;
  table = h.table ∙ g.table;
}

-- a program that has grown is that of the same texts
pub built_later : (sources : Sources) (a b : Built) → HasGrown a b → IsBuiltFrom sources a → IsBuiltFrom sources b
built_later sources a b g h = record { first = h.first; is = h.is; grown = grown_then h.first a b h.grown g }
