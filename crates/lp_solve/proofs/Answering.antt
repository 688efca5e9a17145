-- What is written of a search is what is written of some search that tells these answers and ends so.
use Rattle.std.proofs.Common.{ℕ, List, [], ◌∷◌, ◌++◌, map, Option, Some, None, refl}
use Rattle.lp_base.specs.declared.status.Status.{Status}
use Rattle.lp_model.specs.Branch.{Answer}
use Rattle.lp_model.specs.Shown.{Entry}
use Rattle.lp_model.specs.Skeleton.{Told}
use Rattle.lp_model.specs.declared.ending.Ending.{Ending}
use Rattle.lp_plain.specs.declared.search.Search.{Search}
use Rattle.lp_solve.specs.Written as written
use Rattle.lp_solve.specs.Written.{IsEnd, IsLast, IsWritten}
use Rattle.lp_solve.specs.inner.Events.{Ends, as_told, plain, too_deep}
use Rattle.lp_solve.specs.inner.Searched.{HasLast, IsSearched, an_ending, no_memory}

module _ (ns : List (List ℕ)) (s : Search) where
  end_of : (e : Ending) → Ends ns s e → (left : List Answer) × (ending : Option Ending) × IsEnd (Unit {0}) ns left ending e
  end_of o (as_told e t is) = ([], Some e, written.as_told e refl refl)
  end_of o (too_deep a t is c) = (plain a ∷ [], None, written.too_large (plain a) [] refl c)

  last_of : (inner may : Ending → List ℕ → Type 0) → ((e : Ending) (reports : List ℕ) → inner e reports → may e reports) → (status : Status) (text : List ℕ) → HasLast ns inner s status text →
      (left : List Answer) × (ending : Option Ending) × IsLast (Unit {0}) ns may left ending status text
  last_of inner may reported status text (an_ending e reports ends allowed st is) = let x = end_of e ends in (x.0, x.1, written.an_ending e reports x.2 (reported e reports allowed) st is)
  last_of inner may reported status text (no_memory st is) = ([], None, written.no_memory st is)

pub some_search : (es : List Entry) (ns : List (List ℕ)) (inner may : Ending → List ℕ → Type 0) → ((e : Ending) (reports : List ℕ) → inner e reports → may e reports) → (first : Search) (status : Status)
    (text : List ℕ) → IsSearched es ns inner first status text → (t : Told Answer) × IsWritten (λ k. Unit {0}) es ns may t status text
some_search es ns inner may reported first status text w =
    let x = last_of ns w.answers.now inner may reported status w.last w.is_last in
    let shown = map plain w.answers.answers in (
      record { answers = shown ++ x.0; notes = []; steps = 0; ending = x.1 },
      record { shown = shown; left = x.0; answers = refl; lines = w.lines; are_lines = w.answers.lines; last = w.last; is_last = x.2; wrote = w.wrote },
    )
