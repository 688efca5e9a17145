-- A branch without goals is an answer of the definition.
use Rattle.std.proofs.Common.{◌≡◌, ℕ, suc, List, [], ◌∷◌, length, refl, sym, subst, ap, ◌∙◌, Bool, Option, None}
use Rattle.lp_model.specs.Branch.{Answer, Branch, Entry, Go, Task}
use Rattle.lp_model.specs.Flat.{Clause}
use Rattle.lp_model.specs.Pair.{Closing}
use Rattle.lp_model.specs.Search.{look, look_branch}
use Rattle.lp_model.specs.Skeleton.{AnswerNote, Inner, Note, State, Tells, back_for_more, move, move_at, move_view}
use Rattle.lp_model.specs.Unify.{unit_limit}
use Rattle.lp_pattern.specs.Turning.{AreKnownPairs}
use Rattle.lp_plain.specs.declared.machine.Machine.{Machine}
use Rattle.lp_plain.specs.declared.outcome.Turn.{Turn}
use Rattle.lp_plain.specs.Entries.{Around, Reads, no_frame, a_frame}
use Rattle.lp_plain.specs.Moving.{AreEntriesUnder, IsState, MovesTo, Query, mark_in, quiet}
use Rattle.lp_plain.specs.Stacks.{base_of}
use Rattle.lp_plain.proofs.QuietMoves.{by_lost}

no_entries : (m : Machine) (a : Around) {o : Option ℕ} {es : List Entry} → o ≡ None → Reads m a o es → es ≡ []
no_entries m a e (no_frame q z) = z
no_entries m a e (a_frame i g gs rest q x w r z) = absurd (cc)

none_under : (z : Closing) (f : ℕ → ℕ) (l u : ℕ) (es ds : List Entry) → es ≡ [] → AreEntriesUnder z f l u es ds → ds ≡ []
none_under z f l u [] [] e h = refl
none_under z f l u [] (d ∷ ds) e h = absurd h
none_under z f l u (x ∷ es) ds e h = absurd (cc)

module _ (qv : Query) (m : Machine) (s : State Task) (h : IsState qv m s) (e : m.branch.goals ≡ None) where
  abbrev work : Branch
  work = h.running.at_work

  none : work.goals ≡ []
  none =
      let b = base_of m.denied in
      none_under h.running.closing (mark_in b h.running.above.raws) b (length m.choices.items) h.raw.goals work.goals (no_entries m h.around e h.goals) h.running.under.goals

  abbrev pub answer : Answer
  answer = record { next = work.next; next_type = work.next_type; types = work.types; values = work.values; pairs = work.pairs }

  abbrev pub answer_notes : ℕ → List Note
  answer_notes k = AnswerNote (suc s.given) ∷ back_for_more k h.running.rest

  abbrev pub answer_after : ℕ → State Task
  answer_after k = record { steps = s.steps; answers = k; given = suc s.given; rows = s.rows; row = s.rows; lost = s.lost; stack = h.running.rest }

  pub answer_tells : (k : ℕ) → s.answers ≡ suc k → (go : (Answer → Bool) → State Task → Inner) (enough : ℕ) (P : List Clause) → move go
      (look unit_limit enough P) s ≡ Tells answer (answer_notes k) (answer_after k)
  answer_tells k ea go enough P =
      let r = h.running in
      let see = look unit_limit enough P in
      (λ i. move_at go see s.steps (ea i) s.given s.rows s.row s.lost (r.stack i)) ∙ by_lost go see s.steps k s.given s.rows s.row s.lost (Go work) r.rest ∙
      ap (move_view go s.steps k s.given s.rows s.row s.lost r.rest) (ap (look_branch unit_limit enough P (length r.rest) work) none)

  pub answer_moved : MovesTo quiet qv Turn.Answered m s
  answer_moved k ea go enough P =
      let r = h.running in (
        refl,
        answer,
        answer_after k,
        answer_tells k ea go enough P,
        record {
          closing = r.closing;
          reading = r.reading;
          next = r.under.next ∙ sym r.next;
          next_type = r.under.next_type ∙ sym r.next_type;
          types = r.under.types;
          values = r.under.values;
          pairs = r.under.pairs;
          left = r.left;
          levels = r.levels;
          known = subst (λ k. AreKnownPairs r.levels k work.pairs) (sym r.under.next) r.under.known.pairs;
        },
        record { around = h.around; above = r.above; steps = r.counted.steps; rows = r.counted.rows; row = r.counted.rows; lost = r.counted.lost },
        ea,
        refl,
      )
