-- The reports of the watchers of a query's search, which stand behind the last line.
use Rattle.std.specs.Prelude.{◌≡◌, ◌≢◌, ℕ, List, [], Bool, true, false, Option, None, Some, map}
use Rattle.lp_watch.specs.Crowd.{Place, here, reports}
use Rattle.lp_watch.specs.Seen.{Seen}
use Rattle.lp_watch.specs.Told.{crowd_after_all}
use Rattle.lp_model.specs.Branch.{Answer}
use Rattle.lp_model.specs.Skeleton.{Told}
use Rattle.lp_model.specs.declared.ending.Ending.{Ending}
use Rattle.lp_model.specs.declared.ending.Ending.TheVariants.{Deep}
use Rattle.lp_model.specs.declared.program.Declared.{Declared}
use Rattle.lp_plain.specs.Hearing.{HearsPart, note_in}

-- who watches a search: nobody, or watchers of whom this is seen
abbrev pub watching : (watched : Bool) → List Seen → Option (List Seen)
watching true seen = Some seen
watching false seen = None

-- where nobody watches there are no reports
abbrev pub NoReports : (watchers : Option (List Seen)) → Ending → (text : List ℕ) → Type 0
NoReports None e text = text ≡ []
NoReports (Some seen) e text = Unit {0}

-- The reports of watchers of whom this was seen before a search that tells this: by lp_watch's `each_reports_what_it_took` each one's, in the old order, of all those notes that it
-- takes. Where the search was said to be too deep, so of a beginning of the notes.
pub record AreReports (cs : List Declared) (seen : List Seen) (told : Told Answer) (e : Ending) (text : List ℕ) : Type 0 where
  pub whole : e ≢ Deep → (o : Ending) → told.ending ≡ Some o → text ≡ reports (crowd_after_all (map (note_in cs) told.notes) (map here seen))
  pub part : (o : Ending) → told.ending ≡ Some o → (now : List Place) × HearsPart cs told.notes (map here seen) now × (text ≡ reports now)

-- what is reported
abbrev pub MayReport : (cs : List Declared) (watchers : Option (List Seen)) → Told Answer → Ending → (text : List ℕ) → Type 0
MayReport cs None told e text = text ≡ []
MayReport cs (Some seen) told e text = AreReports cs seen told e text
