-- The answers that a search tells, and its last line, are those of the definition's search.
use Rattle.std.proofs.Common.{◌≡◌, ◌⊎◌, ℕ, suc, List, [], ◌∷◌, ◌++◌, map, length, Option, Some, None, refl, sym, ap, ◌∙◌, subst, inl, inr, arith, append_assoc, append-nil, length-append}
use Rattle.std.proofs.lemmas.List.{map-append}
use Rattle.lp_base.specs.declared.status.Status.{Status}
use Rattle.lp_model.specs.Branch.{Answer, Task}
use Rattle.lp_model.specs.Events.{Event, Gave, Over, first}
use Rattle.lp_model.specs.Flat.{Clause}
use Rattle.lp_model.specs.Search.{look}
use Rattle.lp_model.specs.Shown.{Entry}
use Rattle.lp_model.specs.Skeleton.{State, Told}
use Rattle.lp_model.specs.Unify.{unit_limit}
use Rattle.lp_model.specs.declared.answer.Answer as code
use Rattle.lp_model.specs.declared.answer.Event.TheVariants as event
use Rattle.lp_model.specs.declared.ending.Ending.{Ending}
use Rattle.lp_model.specs.declared.ending.Ending.TheVariants.{NoMore, NoMoreCut, Enough, Steps, Flexible, Arithmetic, OpenNot, Deep}
use Rattle.lp_plain.specs.Between.{IsBetween}
use Rattle.lp_plain.specs.Telling.{IsEventOf}
use Rattle.lp_plain.specs.declared.search.Search.{Search}
use Rattle.lp_solve.specs.Queries.{IsBehind, IsExact, at_first, one_more, told_by}
use Rattle.lp_solve.specs.Written as written
use Rattle.lp_solve.specs.Written.{AreLines, IsBegun, IsEnd, IsWritten}
use Rattle.lp_solve.specs.inner.Events.{Ends, IsTold, Tells, as_told, no_answer, one_answer, plain, too_deep}
use Rattle.lp_solve.specs.inner.Searched.{HasLast, IsSearched, an_ending, no_memory}
use Rattle.lp_solve.proofs.Nexts.{HasNone, gave_first, none_first, over_first}
use Rattle.lp_solve.proofs.Reducts.{AreAnswersOf, all_lines_before, answers_more, first_lines, large_answer}

-- an ending is too deep or not
is_deep : (e : Ending) → (e ≡ Deep) ⊎ (e ≡ Deep → ⊥)
is_deep NoMore = inr (λ h. cc)
is_deep NoMoreCut = inr (λ h. cc)
is_deep Enough = inr (λ h. cc)
is_deep Steps = inr (λ h. cc)
is_deep Flexible = inr (λ h. cc)
is_deep (Arithmetic f) = inr (λ h. cc)
is_deep OpenNot = inr (λ h. cc)
is_deep Deep = inl refl

pub ended_deep : (e : Ending) → ◌≡◌ (event.Ended e) (event.Ended Deep) → e ≡ Deep
ended_deep e h = cc

-- behind the answers that a search has told: those of the definition's run, in the state in which it goes on; or the run went no further
pub data Followed (P : List Clause) (n j m : ℕ) (start : State Task) (now : Search) (bs : List code.Answer) : Type 0 where
  still : (xs : List Answer) (k : ℕ) (s : State Task) → AreAnswersOf xs bs → (told_by P n j m start).answers ≡ xs ++ (told_by P n j k s).answers →
      (told_by P n j m start).ending ≡ (told_by P n j k s).ending →
      IsBetween P n now s → IsBehind (look unit_limit n P) (length xs) start s → Followed P n j m start now bs
  passed : (before behind : List code.Answer) → bs ≡ before ++ behind → AreAnswersOf (told_by P n j m start).answers before → (told_by P n j m start).ending ≡ None → Followed P n j m start now bs

module _ (P : List Clause) (n j m : ℕ) (start : State Task) where
  -- one answer more
  next_answer : (s t : Search) (before all : List code.Answer) (a : code.Answer) → IsTold s (event.Answer a) t → all ≡ before ++ a ∷ [] → Followed P n j m start s before → Followed P n j m start t all
  next_answer s t before all a told e (passed b c eq are none) = passed b (c ++ a ∷ []) (e ∙ ap (λ w. w ++ a ∷ []) eq ∙ append_assoc b c (a ∷ [])) are none
  next_answer s t before all a told e (still xs k st are answers ending between behind) = go (first (look unit_limit n P) j k st) refl
    where
      go : (o : Option (Event Answer × State Task)) → first (look unit_limit n P) j k st ≡ o → Followed P n j m start t all
      go None h =
          let none = none_first (look unit_limit n P) j k st h in
          passed before (a ∷ []) e (subst (λ ys. AreAnswersOf ys before) (sym (answers ∙ ap (λ ys. xs ++ ys) none.0 ∙ append-nil xs)) are) (ending ∙ none.1)
      go (Some (Gave x, u)) h =
          let got = told.search P n st between (λ d. absurd (cc)) (Gave x) u (record { inner_moves = j; moves = k; gives = h }) in
          let r = gave_first (look unit_limit n P) j k st u x h in
          let longer : length (xs ++ x ∷ []) ≡ suc (length xs) = (let l = length-append xs (x ∷ []) in omega (arith, l)) in
          still (xs ++ x ∷ []) r.0 u (subst (AreAnswersOf (xs ++ x ∷ [])) (sym e) (answers_more xs before x a are got.0))
          (answers ∙ ap (λ ys. xs ++ ys) r.1 ∙ sym (append_assoc xs (x ∷ []) (told_by P n j r.0 u).answers)) (ending ∙ r.2) got.1
          (subst (λ i. IsBehind (look unit_limit n P) i start u) (sym longer) (one_more st x behind (record { inner_moves = j; moves = k; gives = h })))
      go (Some (Over o, u)) h = absurd ((told.search P n st between (λ d. absurd (cc)) (Over o) u (record { inner_moves = j; moves = k; gives = h })).0)

  pub follow : (first_search now : Search) (bs : List code.Answer) → IsBetween P n first_search start → Tells first_search bs now → Followed P n j m start now bs
  follow first_search now bs begun no_answer = still [] m start tt refl refl begun (at_first refl)
  follow first_search now bs begun (one_answer before all s t a more told e) = next_answer s t before bs a told e (follow first_search s before begun more)

-- what is written of it
abbrev Comes : (exact : ℕ → Type 0) (es : List Entry) (ns : List (List ℕ)) (may : Ending → List ℕ → Type 0) (told : Told Answer) (status : Status) (text : List ℕ) → Type 0
Comes exact es ns may told status text = IsWritten exact es ns may told status text ⊎ IsBegun es ns told text

module _ (P : List Clause) (n j m : ℕ) (start : State Task) (es : List Entry) (ns : List (List ℕ)) (inner may : Ending → List ℕ → Type 0)
    (reported : (e : Ending) (text : List ℕ) → inner e text → may e text) (now : Search) (status : Status) where
  abbrev Done : List ℕ → Type 0
  Done text = Comes (IsExact P n start) es ns may (told_by P n j m start) status text

  module _ (xs : List Answer) (k : ℕ) (st : State Task) (answers : (told_by P n j m start).answers ≡ xs ++ (told_by P n j k st).answers)
      (ending : (told_by P n j m start).ending ≡ (told_by P n j k st).ending)
      (lines last text : List ℕ) (are : AreLines es ns 1 xs lines) (wrote : text ≡ lines ++ last) where
    -- the run is not over
    so_far : HasNone (look unit_limit n P) j k st → Done text
    so_far none = inr (record {
      lasts = ending ∙ none.1;
      lines = lines;
      are_lines = subst (λ ys. AreLines es ns 1 ys lines) (sym (answers ∙ ap (λ ys. xs ++ ys) none.0 ∙ append-nil xs)) are;
      behind = last;
      wrote = wrote;
    })

    -- the last line stands here
    here : written.IsLast (IsExact P n start (length xs)) ns may (told_by P n j k st).answers (told_by P n j k st).ending status last → Done text
    here l = inl (record {
      shown = xs;
      left = (told_by P n j k st).answers;
      answers = answers;
      lines = lines;
      are_lines = are;
      last = last;
      is_last = subst (λ o. written.IsLast (IsExact P n start (length xs)) ns may (told_by P n j k st).answers o status last) (sym ending) l;
      wrote = wrote;
    })

    module _ (between : IsBetween P n now st) (behind : IsBehind (look unit_limit n P) (length xs) start st) where
      -- the ending that is told
      abbrev IsEndHere : Ending → Type 0
      IsEndHere e = IsEnd (IsExact P n start (length xs)) ns (told_by P n j k st).answers (told_by P n j k st).ending e

      end_told : (e : Ending) (t : Search) → IsTold now (event.Ended e) t → HasNone (look unit_limit n P) j k st ⊎ IsEndHere e
      end_told e t told = go (first (look unit_limit n P) j k st) refl
        where
          enough : (x : Event Answer) (u : State Task) → first (look unit_limit n P) j k st ≡ Some (x, u) → IsExact P n start (length xs) → IsEventOf x (event.Ended e)
          enough x u h exact = (told.search P n st between (λ d. (exact.few, λ w r. exact.small st w behind r)) x u (record { inner_moves = j; moves = k; gives = h })).0

          otherwise : (x : Event Answer) (u : State Task) → first (look unit_limit n P) j k st ≡ Some (x, u) → (e ≡ Deep → ⊥) → IsEventOf x (event.Ended e)
          otherwise x u h other = (told.search P n st between (λ d. absurd (other (ended_deep e d))) x u (record { inner_moves = j; moves = k; gives = h })).0

          go : (o : Option (Event Answer × State Task)) → first (look unit_limit n P) j k st ≡ o → HasNone (look unit_limit n P) j k st ⊎ IsEnd
              (IsExact P n start (length xs)) ns (told_by P n j k st).answers (told_by P n j k st).ending e
          go None h = inl (none_first (look unit_limit n P) j k st h)
          go (Some (Gave x, u)) h = elim (is_deep e) [
            | inl d ↦ inr (subst (λ e. IsEnd (IsExact P n start (length xs)) ns (told_by P n j k st).answers (told_by P n j k st).ending e) (sym d)
                (written.too_deep (λ exact. absurd (enough (Gave x) u h exact))))
            | inr other ↦ absurd (otherwise (Gave x) u h other)
          ]
          go (Some (Over o, u)) h =
              let over = over_first (look unit_limit n P) j k st u o h in
              elim (is_deep e) [
                | inl d ↦ inr (subst (λ e. IsEnd (IsExact P n start (length xs)) ns (told_by P n j k st).answers (told_by P n j k st).ending e) (sym d)
                    (written.too_deep (λ exact. (over.0, over.1 ∙ ap Some (sym (enough (Over o) u h exact) ∙ d)))))
                | inr other ↦ inr (written.as_told e over.0 (over.1 ∙ ap Some (sym (otherwise (Over o) u h other))))
              ]

      end_large : (a : code.Answer) (t : Search) → IsTold now (event.Answer a) t → written.CannotBeShown ns (plain a) → HasNone (look unit_limit n P) j k st ⊎ IsEndHere Deep
      end_large a t told c = go (first (look unit_limit n P) j k st) refl
        where
          go : (o : Option (Event Answer × State Task)) → first (look unit_limit n P) j k st ≡ o → HasNone (look unit_limit n P) j k st ⊎ IsEnd
              (IsExact P n start (length xs)) ns (told_by P n j k st).answers (told_by P n j k st).ending Deep
          go None h = inl (none_first (look unit_limit n P) j k st h)
          go (Some (Gave x, u)) h =
              let got = told.search P n st between (λ d. absurd (cc)) (Gave x) u (record { inner_moves = j; moves = k; gives = h }) in
              let r = gave_first (look unit_limit n P) j k st u x h in
              inr (written.too_large x (told_by P n j r.0 u).answers r.1 (large_answer ns x a got.0 c))
          go (Some (Over o, u)) h = absurd ((told.search P n st between (λ d. absurd (cc)) (Over o) u (record { inner_moves = j; moves = k; gives = h })).0)

      end_here : (e : Ending) → Ends ns now e → HasNone (look unit_limit n P) j k st ⊎ IsEndHere e
      end_here o (as_told e t told) = end_told e t told
      end_here o (too_deep a t told c) = end_large a t told c

      last_here : HasLast ns inner now status last → Done text
      last_here (no_memory st is) = here (written.no_memory st is)
      last_here (an_ending e reports ends allowed st is) = elim (end_here e ends) [
        | inl none ↦ so_far none
        | inr end ↦ here (written.an_ending e reports end (reported e reports allowed) st is)
      ]

  pub written_of : (bs : List code.Answer) (lines last text : List ℕ) → Followed P n j m start now bs → AreLines es ns 1 (map plain bs) lines →
      HasLast ns inner now status last → text ≡ lines ++ last → Done text
  written_of bs lines last text (still xs k st are answers ending between behind) ls l w =
      last_here xs k st answers ending lines last text (all_lines_before es ns 1 xs bs lines are ls) w between behind l
  written_of bs lines last text (passed before behind e are none) ls l w =
      let split = first_lines es ns 1 (map plain before) (map plain behind) lines (subst (λ ys. AreLines es ns 1 ys lines) (ap (map plain) e ∙ map-append plain before behind) ls) in
      inr (record {
        lasts = none;
        lines = split.0;
        are_lines = all_lines_before es ns 1 (told_by P n j m start).answers before split.0 are split.2;
        behind = split.1 ++ last;
        wrote = w ∙ ap (λ z. z ++ last) split.3 ∙ append_assoc split.0 split.1 last;
      })

-- whatever the moves are
pub written_by : (P : List Clause) (n : ℕ) (first_search : Search) (start : State Task) → IsBetween P n first_search start → (es : List Entry)
    (ns : List (List ℕ)) (inner may : Ending → List ℕ → Type 0) (status : Status) (text : List ℕ) →
    IsSearched es ns inner first_search status text → (j m : ℕ) → ((e : Ending) (reports : List ℕ) → inner e reports → may e reports) →
    IsWritten (IsExact P n start) es ns may (told_by P n j m start) status text ⊎ IsBegun es ns (told_by P n j m start) text
written_by P n first_search start begun es ns inner may status text w j m reported =
    written_of P n j m start es ns inner may reported w.answers.now status w.answers.answers w.lines w.last text
    (follow P n j m start first_search w.answers.now w.answers.answers begun w.answers.told) w.answers.lines w.is_last w.wrote
