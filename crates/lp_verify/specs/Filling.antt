-- Types in the place of the type variables of a declared type.
use Rattle.std.specs.Prelude.{slice_index_or}
use Rattle.lp_term.specs.Mapped.{Told}
use Rattle.lp_term.specs.declared.becomes.TypeChange.TheVariants.{Is}
use Rattle.lp_term.specs.declared.becomes.TermChange.TheVariants.{Stays}
use Rattle.lp_verify.specs.declared.filling.Filling.{Filling}

-- a type variable without a type becomes the other one
abbrev pub told_by : Filling → Told
told_by f = record { kinds = λ k. k; constants = λ c. c; types = λ v. Is (slice_index_or f.types.now v f.other); terms = λ v. Stays }
