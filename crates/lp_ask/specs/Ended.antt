-- How the run of a session ends.
use Rattle.std.specs.Prelude.{◌≡◌, ◌≢◌, ℕ, Result, Ok, Err}
use Rattle.lp_base.specs.Counts.{Counts}
use Rattle.lp_base.specs.declared.status.Status.{Status}
use Rattle.lp_base.specs.declared.status.Status.TheVariants as variant
use Rattle.lp_session.specs.declared.serving.SessionRefusal.{SessionRefusal}
use Rattle.lp_session.specs.declared.serving.SessionRefusal.TheVariants.{Write, Memory}
use Rattle.lp_session.specs.declared.serving.Summary.{Summary}

-- by how it was served; where memory ran out this is told, which may fail
abbrev pub EndsSo : Result Summary SessionRefusal → (before after : ℕ) → Status → Type 0
EndsSo (Ok s) before after status = (status ≡ variant.Done) × (after ≡ before)
EndsSo (Err Write) before after status = (status ≡ variant.WriteFault) × (after ≡ before)
EndsSo (Err Memory) before after status = (status ≢ variant.WriteFault → status ≡ variant.Memory) × Counts (status ≡ variant.WriteFault) before after
