-- Queries that were not answered whole.
use Rattle.std.specs.Prelude.{◌≡◌, ℕ, List, Option}
use Rattle.lp_base.specs.Counts.{Counts}
use Rattle.lp_base.specs.declared.status.Status.{Status}
use Rattle.lp_base.specs.declared.status.Status.TheVariants as variant
use Rattle.lp_query.specs.declared.fault.AskRefusal.{AskRefusal}
use Rattle.lp_query.specs.declared.fault.AskRefusal.TheVariants.{Write, Memory}

-- the output and the count of its faults are as they were
pub record Unwritten {K : Type 0} (faults : K → ℕ) (written : K → Option (List ℕ)) (before after : K) : Type 0 where
  pub same : written after ≡ written before
  pub sound : faults after ≡ faults before

-- a refusal for what the query's text says, before anything was written
abbrev pub IsOfText : AskRefusal → Type 0
IsOfText Write = ⊥
IsOfText Memory = ⊥
IsOfText r = Unit {0}

-- the end of a run whose output failed, or that lacked memory and said so
abbrev pub IsStop : AskRefusal → (old new : ℕ) → Status → Type 0
IsStop Write old new s = (s ≡ variant.WriteFault) × (new ≡ old)
IsStop Memory old new s = Counts (s ≡ variant.WriteFault) old new
IsStop r old new s = ⊥
