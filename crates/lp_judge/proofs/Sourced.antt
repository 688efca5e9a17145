-- The texts of a module that the folder tells.
use Rattle.std.proofs.Common.{ℕ, true, List, Option}
use Rattle.std.specs.Prelude.{Result, Ok, Err, IfOk}
use Rattle.lp_base.specs.Held.{Held}
use Rattle.lp_build.specs.Ordered.{AreInOrder}
use Rattle.lp_build.specs.Reads.{AreRead}
use Rattle.lp_build.specs.Told.{AreLoaded}
use Rattle.lp_build.specs.declared.sources.Sources.{Sources}
use Rattle.lp_lines.specs.declared.refusal.Refusal.{Refusal}
use Rattle.lp_judge.specs.Asked.{AreTextsOf, AreToldTexts}
use Rattle.lp_judge.specs.declared.texts.Texts.{Texts}

pub told_texts : (told : Option Held) (name text : List ℕ) (sources : Sources) (r : Result Texts Refusal) → AreInOrder true name sources → AreLoaded told sources → AreRead sources →
    IfOk r (λ t. AreTextsOf sources text t.modules.items t.bank t.query) → IfOk r (λ t. AreToldTexts told name text t.modules.items t.bank t.query)
told_texts told name text sources (Ok t) ordered files read h = record { sources = sources; ordered = ordered; files = files; read = read; texts = h }
told_texts told name text sources (Err e) ordered files read h = tt
