-- The refusal that tells why files were not loaded.
use Rattle.std.specs.Prelude.{ℕ, List}
use Rattle.lp_build.specs.declared.fault.BuildFault.{BuildFault}
use Rattle.lp_build.specs.declared.fault.BuildFault.TheVariants as build
use Rattle.lp_lines.specs.Refusals.{IsTextRefusal, TellsFault, TellsMissing, TellsLimit}
use Rattle.lp_lines.specs.declared.refusal.Refusal.{Refusal}

abbrev pub Tells : BuildFault → Refusal → Type 0
Tells (build.Read n) r = (file : List ℕ) × TellsFault file r
Tells (build.Missing n) r = (file : List ℕ) × TellsMissing file r
Tells (build.Limit l) r = TellsLimit l r
Tells _ r = IsTextRefusal r
