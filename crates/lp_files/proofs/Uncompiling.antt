-- Why a module has no object file.
use Rattle.std.specs.Global.{Global}
use Rattle.std.proofs.Common.{◌≡◌, ◌⊎◌, ◌<◌, ℕ, false, List, Option, length, inl, inr, subst}
use Rattle.std.specs.Prelude.{Vec, Result, Ok, Err, IfErr}
use Rattle.lp_base.specs.Held.{Held}
use Rattle.lp_base.specs.declared.limit.Limit.{Limit}
use Rattle.lp_base.specs.declared.limit.Limit.TheVariants as limit
use Rattle.lp_code.specs.declared.object.Object.{Object}
use Rattle.lp_object.specs.Files.{spelled_object}
use Rattle.lp_object.specs.Plain.{plain_object}
use Rattle.lp_object.specs.Refusing.{IsLimit}
use Rattle.lp_object.specs.declared.fault.WriteRefusal.{WriteRefusal}
use Rattle.lp_object.specs.declared.fault.WriteRefusal.TheVariants as write
use Rattle.lp_build.specs.Ordered.{AreInOrder}
use Rattle.lp_build.specs.Reads.{AreRead}
use Rattle.lp_build.specs.Told.{AreLoaded}
use Rattle.lp_build.specs.declared.sources.Sources.{Sources}
use Rattle.lp_lines.specs.Refusals.{TellsLimit}
use Rattle.lp_lines.specs.declared.refusal.Refusal.{Refusal}
use Rattle.lp_lines.specs.declared.refusal.Refusal.TheVariants as refusal
use Rattle.lp_files.specs.Made.{IsCompiledOf}
use Rattle.lp_files.specs.Uncompiled.{IsUncompiled, IsUnspelled, no_memory, of_bytes, of_loaded}

-- a limit on bytes is told
pub limit_said : (many : Type 0) (l : Limit) (w : WriteRefusal) (r : Refusal) → w ≡ write.Limit l → IsLimit w many → TellsLimit l r → (r ≡ refusal.Memory) ⊎ (many × TellsLimit limit.Image r)
limit_said many l w r is h told = by l (subst (λ w. IsLimit w many) is h) told
  where
    by : (l : Limit) → IsLimit (write.Limit l) many → TellsLimit l r → (r ≡ refusal.Memory) ⊎ (many × TellsLimit limit.Image r)
    by limit.File h told = absurd h
    by limit.Image h told = inr (h, told)
    by limit.Modules h told = absurd h
    by limit.Copies h told = absurd h
    by limit.Names h told = absurd h
    by limit.NameLength h told = absurd h
    by limit.Arguments h told = absurd h
    by limit.Nesting h told = absurd h
    by limit.NormalForm h told = absurd h
    by limit.Clauses h told = absurd h
    by limit.Registers h told = absurd h
    by limit.Text h told = absurd h

pub too_many : (sources : Sources) (name : List ℕ) (o : Object) (r : Refusal) → IsCompiledOf sources name o
    → (r ≡ refusal.Memory) ⊎ ((16777216 < length (spelled_object (plain_object o))) × TellsLimit limit.Image r) → IsUnspelled sources name r
too_many sources name o r is (inl m) = no_memory m
too_many sources name o r is (inr (many, told)) = of_bytes o is many told

-- the files were loaded, and by their texts there is no object
pub uncompiled_is : (told : Option Held) (name : List ℕ) (sources : Sources) (r : Result (Vec ℕ Global) Refusal) → AreInOrder false name sources → AreLoaded told sources → AreRead sources → IfErr r (IsUnspelled sources name)
    → IfErr r (IsUncompiled told name)
uncompiled_is told name sources (Ok bytes) ordered files read h = tt
uncompiled_is told name sources (Err e) ordered files read h = of_loaded sources files read ordered h
