-- The places of watchers that were lent, at the beginning and at the end of a run.
use Rattle.std.specs.Global.{Global}
use Rattle.std.proofs.Common.{◌≡◌, ◌≢◌, ℕ, List, [], ◌∷◌, map, Option, Some, None, Vec, refl, sym, ap, ◌∙◌, subst, true, Bool}
use Rattle.lp_base.specs.declared.status.Status.{Status}
use Rattle.lp_base.specs.declared.status.Status.TheVariants as variant
use Rattle.lp_watch.specs.Crowd.{Place, here, places, still_here}
use Rattle.lp_watch.specs.Seen.{Seen}
use Rattle.lp_model.specs.Shown.{Entry}
use Rattle.lp_plain.specs.declared.search.Search.{Search}
use Rattle.lp_solve.specs.Watched.{ended_itself}
use Rattle.lp_solve.specs.inner.Heard.{IsReported, IsWatched, IsWatchedSoFar}
use Rattle.lp_solve.specs.inner.Searched.{BeginsSearch, IsRun, WritesSearch}

-- who is still there is whom the list has
all_here : (seen : List Seen) → still_here (map here seen) ≡ seen
all_here [] = refl
all_here (s ∷ seen) = ap (λ l. s ∷ l) (all_here seen)

still_here_all : (texts : List (Option (Vec ℕ Global))) (seen : List Seen) → still_here (places texts seen) ≡ seen
still_here_all [] seen = all_here seen
still_here_all (Some t ∷ texts) seen = still_here_all texts seen
still_here_all (None ∷ texts) [] = still_here_all texts []
still_here_all (None ∷ texts) (s ∷ seen) = ap (λ l. s ∷ l) (still_here_all texts seen)

-- a run over a crowd that was made of these watchers, and gave them back
pub run_of : (es : List Entry) (ns : List (List ℕ)) (watched : Bool) (first : Search) (status : Status) (old new : Option (List ℕ)) (made kept : List (Option (Vec ℕ Global)))
    (seen lent left later : List Seen) → made ≡ [] → lent ≡ seen → later ≡ left →
    (status ≢ variant.WriteFault → WritesSearch es ns (IsReported watched first (places made lent) (places kept left)) first status old new) →
    (status ≡ variant.WriteFault → BeginsSearch es ns (IsReported watched first (places made lent) (places kept left)) first old new) →
    IsWatchedSoFar first (places made lent) (places kept left) → (ended_itself status ≡ true → IsWatched first (places made lent) (places kept left)) →
    IsRun es ns watched first status seen later old new
run_of es ns watched first status old new made kept seen lent left later none same back writes begins part whole =
    let start : places made lent ≡ map here seen = ap (λ l. places l lent) none ∙ ap (map here) same in
    record {
      now = places kept left;
      here_now = back ∙ sym (still_here_all kept left);
      writes = λ n. subst (λ x. WritesSearch es ns (IsReported watched first x (places kept left)) first status old new) start (writes n);
      begins = λ e. subst (λ x. BeginsSearch es ns (IsReported watched first x (places kept left)) first old new) start (begins e);
      part = subst (λ x. IsWatchedSoFar first x (places kept left)) start part;
      whole = λ e. subst (λ x. IsWatched first x (places kept left)) start (whole e);
    }
