-- Steps, notes and answers of a run are functions of its moves: each step has its note, and answers are numbered in a row.
use Rattle.std.proofs.Common.{◌≡◌, ℕ, zero, suc, ◌+◌, List, [], ◌∷◌, ◌++◌, length, refl, ap, ◌∙◌, arith}
use Rattle.std.specs.Prelude.{Bool, true, false, if◌then◌else◌}
use Rattle.lp_model.specs.declared.ending.Ending.{Ending}
use Rattle.lp_model.specs.declared.ending.Ending.TheVariants.{NoMore, NoMoreCut, Enough, Steps, Flexible, Arithmetic, OpenNot, Deep}
use Rattle.lp_model.specs.Skeleton.{View, Gives, Opens, Parts, Takes, Cuts, Denies, Halts, Lacks, State, Note, GoalNote, BackNote, AnswerNote, CutNote, Move, Goes, Tells, Stops, Breaks, Waits, Told, Inner, Refuted, Held, Broke, Lasts, starts_within, oldest, back, back_for_more, move_denied, move_view, move_at, move, later, inner_end, inner_after, inner, told_after, run}
use Rattle.lp_model.specs.Moves.{moves_after, moves, told_of, steps_noted, answers_noted, numbers_after}

steps_append : (ns ms : List Note) → steps_noted (ns ++ ms) ≡ steps_noted ns + steps_noted ms
steps_append [] ms = let e : steps_noted ms ≡ 0 + steps_noted ms = omega arith in e
steps_append (GoalNote g ∷ ns) ms = let e = steps_append ns ms in omega arith
steps_append (CutNote ∷ ns) ms = let e = steps_append ns ms in omega arith
steps_append (BackNote ∷ ns) ms = steps_append ns ms
steps_append (AnswerNote k ∷ ns) ms = steps_append ns ms

answers_append : (ns ms : List Note) → answers_noted (ns ++ ms) ≡ answers_noted ns ++ answers_noted ms
answers_append [] ms = refl
answers_append (GoalNote g ∷ ns) ms = answers_append ns ms
answers_append (CutNote ∷ ns) ms = answers_append ns ms
answers_append (BackNote ∷ ns) ms = answers_append ns ms
answers_append (AnswerNote k ∷ ns) ms = ap (λ xs. k ∷ xs) (answers_append ns ms)

module _ {T : Type 0} where
  back_steps : (ts rest : List T) → steps_noted (back ts rest) ≡ 0
  back_steps [] [] = refl
  back_steps [] (t ∷ rest) = refl
  back_steps (t ∷ ts) rest = refl

  more_steps : (k : ℕ) (rest : List T) → steps_noted (back_for_more k rest) ≡ 0
  more_steps zero rest = refl
  more_steps (suc k) rest = back_steps [] rest

  back_answers : (ts rest : List T) → answers_noted (back ts rest) ≡ []
  back_answers [] [] = refl
  back_answers [] (t ∷ rest) = refl
  back_answers (t ∷ ts) rest = refl

  more_answers : (k : ℕ) (rest : List T) → answers_noted (back_for_more k rest) ≡ []
  more_answers zero rest = refl
  more_answers (suc k) rest = back_answers [] rest

module _ {T A : Type 0} (look : ℕ → T → View T A) (j : ℕ) where
  told_step : (n : ℕ) (m : Move T A) → ((s : State T) → run look j n s ≡ told_of (moves look j n s)) → told_after (run look j n) m ≡ told_of (moves_after (moves look j n) m)
  told_step n (Goes k ns s) ih = ap (λ (t : Told A). told_after (λ x. t) (Goes k ns s)) (ih s)
  told_step n (Tells a ns s) ih = ap (λ (t : Told A). told_after (λ x. t) (Tells a ns s)) (ih s)
  told_step n (Stops e) ih = refl
  told_step n (Breaks k ns e) ih = refl
  told_step n (Waits k ns) ih = refl

  pub told_by_moves : (n : ℕ) (s : State T) → run look j n s ≡ told_of (moves look j n s)
  told_by_moves zero s = refl
  told_by_moves (suc n) s = told_step n (move (inner look j) look s) (λ t. told_by_moves n t)

  -- the notes of a negated goal's search fit its steps, and none is of an answer
  InnerNoted : Inner → Type 0
  InnerNoted (Refuted k ns p) = (steps_noted ns ≡ k) × (answers_noted ns ≡ [])
  InnerNoted (Held k ns p) = (steps_noted ns ≡ k) × (answers_noted ns ≡ [])
  InnerNoted (Broke k ns e) = (steps_noted ns ≡ k) × (answers_noted ns ≡ [])
  InnerNoted (Lasts k ns) = (steps_noted ns ≡ k) × (answers_noted ns ≡ [])

  -- the notes of a move fit its steps and its answer, which follows those given before
  Noted : ℕ → Move T A → Type 0
  Noted g (Goes k ns s) = (steps_noted ns ≡ k) × (answers_noted ns ≡ []) × (s.given ≡ g)
  Noted g (Tells a ns s) = (steps_noted ns ≡ 0) × (answers_noted ns ≡ suc g ∷ []) × (s.given ≡ suc g)
  Noted g (Stops e) = Unit {0}
  Noted g (Breaks k ns e) = (steps_noted ns ≡ k) × (answers_noted ns ≡ [])
  Noted g (Waits k ns) = (steps_noted ns ≡ k) × (answers_noted ns ≡ [])

  steps_then : (ns ms : List Note) (k : ℕ) → steps_noted ns ≡ k → steps_noted ms ≡ 0 → steps_noted (ns ++ ms) ≡ k
  steps_then ns ms k a b = let e = steps_append ns ms in omega arith

  answers_then : (ns ms : List Note) → answers_noted ns ≡ [] → answers_noted ms ≡ [] → answers_noted (ns ++ ms) ≡ []
  answers_then ns ms a b = answers_append ns ms ∙ ap (λ xs. xs ++ answers_noted ms) a ∙ b

  noted_denied : (n k g u : ℕ) (lost : Bool) (ts rest : List T) (r : Inner) → InnerNoted r → Noted g (move_denied n k g u lost ts rest r)
  unfolding Noted InnerNoted
  noted_denied n k g u lost ts rest (Refuted i ns p) h = (ap suc (steps_then ns (back ts rest) i h.0 (back_steps ts rest)), answers_then ns (back ts rest) h.1 (back_answers ts rest), refl)
  noted_denied n k g u lost ts rest (Held i ns p) h = (ap suc (steps_then ns (back [] rest) i h.0 (back_steps [] rest)), answers_then ns (back [] rest) h.1 (back_answers [] rest), refl)
  noted_denied n k g u lost ts rest (Broke i ns e) h = (ap suc h.0, h.1)
  noted_denied n k g u lost ts rest (Lasts i ns) h = (ap suc h.0, h.1)

  module _ (go : (A → Bool) → State T → Inner) (fits : (f : A → Bool) (s : State T) → InnerNoted (go f s)) where
    noted_view : (n k g u p : ℕ) (lost : Bool) (rest : List T) (w : View T A) → Noted g (move_view go n k g u p lost rest w)
    unfolding Noted
    noted_view n k g u p lost rest (Gives a) = (more_steps k rest, ap (λ ns. suc g ∷ ns) (more_answers k rest), refl)
    noted_view n k g u p lost rest (Opens ts) = (back_steps ts rest, back_answers ts rest, refl)
    noted_view n k g u zero lost rest (Parts ts) = tt
    noted_view n k g u (suc p) lost rest (Parts ts) = (back_steps ts rest, back_answers ts rest, refl)
    noted_view zero k g u p lost rest (Takes name ts) = tt
    noted_view (suc n) k g u p lost rest (Takes name ts) = (ap suc (back_steps ts rest), back_answers ts rest, refl)
    noted_view zero k g u p lost rest (Cuts m ts) = tt
    noted_view (suc n) k g u p lost rest (Cuts m ts) = (ap suc (back_steps ts (oldest m rest)), back_answers ts (oldest m rest), refl)
    noted_view zero k g u p lost rest (Denies t f ts) = tt
    noted_view (suc n) k g u p lost rest (Denies t f ts) = noted_denied n k g u lost ts rest (go f (starts_within u t n 1)) (fits f (starts_within u t n 1))
    noted_view n k g u p lost rest (Halts e) = tt
    noted_view n k g u p lost rest Lacks = (refl, refl)

    noted_at : (n k g u p : ℕ) (lost : Bool) (ts : List T) → Noted g (move_at go look n k g u p lost ts)
    unfolding Noted
    noted_at n zero g u p lost ts = tt
    noted_at n (suc k) g u p true [] = tt
    noted_at n (suc k) g u p false [] = tt
    noted_at n (suc k) g u p true (t ∷ ts) = noted_view n k g u p true ts (look (length ts) t)
    noted_at n (suc k) g u p false (t ∷ ts) = noted_view n k g u p false ts (look (length ts) t)

  noted_later : (i : ℕ) (ns : List Note) → steps_noted ns ≡ i → answers_noted ns ≡ [] → (r : Inner) → InnerNoted r → InnerNoted (later i ns r)
  unfolding InnerNoted
  noted_later i ns a b (Refuted k ms p) h = (let e = steps_append ns ms in let c = h.0 in omega arith, answers_then ns ms b h.1)
  noted_later i ns a b (Held k ms p) h = (let e = steps_append ns ms in let c = h.0 in omega arith, answers_then ns ms b h.1)
  noted_later i ns a b (Broke k ms x) h = (let e = steps_append ns ms in let c = h.0 in omega arith, answers_then ns ms b h.1)
  noted_later i ns a b (Lasts k ms) h = (let e = steps_append ns ms in let c = h.0 in omega arith, answers_then ns ms b h.1)

  noted_end : (p : ℕ) (e : Ending) → InnerNoted (inner_end p e)
  unfolding InnerNoted
  noted_end p NoMore = (refl, refl)
  noted_end p NoMoreCut = (refl, refl)
  noted_end p Enough = (refl, refl)
  noted_end p Steps = (refl, refl)
  noted_end p Flexible = (refl, refl)
  noted_end p (Arithmetic f) = (refl, refl)
  noted_end p OpenNot = (refl, refl)
  noted_end p Deep = (refl, refl)

  noted_final : (b : Bool) (p : ℕ) → InnerNoted (if b then Held 0 [] p else Broke 0 [] OpenNot)
  unfolding InnerNoted
  noted_final true p = (refl, refl)
  noted_final false p = (refl, refl)

  noted_after : (go : State T → Inner) (f : A → Bool) (p g : ℕ) → ((s : State T) → InnerNoted (go s)) → (m : Move T A) → Noted g m → InnerNoted (inner_after go f p m)
  unfolding Noted InnerNoted
  noted_after go f p g ih (Goes i ns s) h = noted_later i ns h.0 h.1 (go s) (ih s)
  noted_after go f p g ih (Tells a ns s) h = noted_final (f a) p
  noted_after go f p g ih (Stops e) h = noted_end p e
  noted_after go f p g ih (Breaks i ns e) h = h
  noted_after go f p g ih (Waits i ns) h = h

  inner_noted : (n : ℕ) (f : A → Bool) (s : State T) → InnerNoted (inner look n f s)
  unfolding InnerNoted
  inner_noted zero f s = (refl, refl)
  inner_noted (suc n) f s = noted_after (inner look n f) f s.row s.given (inner_noted n f) (move (inner look n) look s) (noted_at (inner look n) (inner_noted n) s.steps s.answers s.given s.rows s.row s.lost s.stack)

  steps_step : (go : State T → Told A) → ((s : State T) → (go s).steps ≡ steps_noted (go s).notes) → (g : ℕ) (m : Move T A) → Noted g m → (told_after go m).steps ≡ steps_noted (told_after go m).notes
  unfolding Noted
  steps_step go ih g (Goes k ns s) h = let a = steps_append ns (go s).notes in let b = ih s in let c = h.0 in omega arith
  steps_step go ih g (Tells a ns s) h = let b = steps_append ns (go s).notes in let c = ih s in let e = h.0 in omega arith
  steps_step go ih g (Stops e) h = refl
  steps_step go ih g (Breaks k ns e) h = let c = h.0 in omega arith
  steps_step go ih g (Waits k ns) h = let c = h.0 in omega arith

  -- the steps of a run are its notes of goals and cuts
  pub steps_are_noted : (n : ℕ) (s : State T) → (run look j n s).steps ≡ steps_noted (run look j n s).notes
  steps_are_noted zero s = refl
  steps_are_noted (suc n) s = steps_step (run look j n) (λ t. steps_are_noted n t) s.given (move (inner look j) look s) (noted_at (inner look j) (inner_noted j) s.steps s.answers s.given s.rows s.row s.lost s.stack)

  answers_step : (go : State T → Told A) → ((s : State T) → answers_noted (go s).notes ≡ numbers_after s.given (go s).answers) → (g : ℕ) (m : Move T A) → Noted g m → answers_noted (told_after go m).notes ≡ numbers_after g (told_after go m).answers
  unfolding Noted
  answers_step go ih g (Goes k ns s) h =
      answers_append ns (go s).notes ∙ ap (λ xs. xs ++ answers_noted (go s).notes) h.1 ∙ ih s ∙ ap (λ x. numbers_after x (go s).answers) h.2
  answers_step go ih g (Tells a ns s) h =
      answers_append ns (go s).notes ∙ ap (λ xs. xs ++ answers_noted (go s).notes) h.1 ∙ ap (λ xs. suc g ∷ xs) (ih s ∙ ap (λ x. numbers_after x (go s).answers) h.2)
  answers_step go ih g (Stops e) h = refl
  answers_step go ih g (Breaks k ns e) h = h.1
  answers_step go ih g (Waits k ns) h = h.1

  -- the answers of a run are noted, numbered in a row
  pub answers_are_noted : (n : ℕ) (s : State T) → answers_noted (run look j n s).notes ≡ numbers_after s.given (run look j n s).answers
  answers_are_noted zero s = refl
  answers_are_noted (suc n) s = answers_step (run look j n) (λ t. answers_are_noted n t) s.given (move (inner look j) look s) (noted_at (inner look j) (inner_noted j) s.steps s.answers s.given s.rows s.row s.lost s.stack)
