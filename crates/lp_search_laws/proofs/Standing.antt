-- What typed tasks turn out to be.
use Rattle.std.proofs.Common.{◌≡◌, ℕ, List, [], ◌∷◌, refl, sym, subst as transport, inl, inr}
use Rattle.lp_calculus.specs.Types.{Ty}
use Rattle.lp_model.specs.Unify.{unit_limit}
use Rattle.lp_model.specs.Pair.{Closing}
use Rattle.lp_model.specs.Flat.{Clause}
use Rattle.lp_model.specs.declared.ending.Ending.{Ending}
use Rattle.lp_model.specs.declared.ending.Ending.TheVariants.{NoMore}
use Rattle.std.specs.Prelude.{◌≢◌}
use Rattle.lp_model.specs.Branch.{Entry, Branch, Go, Stop, Lack}
use Rattle.lp_model.specs.Answers.{Query, Variable}
use Rattle.lp_model.specs.Proofs.{Declared, Leaves}
use Rattle.lp_model.specs.Search.{look, look_branch}
use Rattle.lp_search_laws.specs.Branches.{AreTypedEntries, AreProved, BranchTyping, IsTypedBranch, TypedTask, going, stopping, lacking, answer_of}
use Rattle.lp_search_laws.specs.Views.{IsRightView, AnswersFor, StandFor}

none_proved : (L : Leaves) (d : Declared) (P : List Clause) (c : Closing) (V : List Variable) (Es : List (List Ty)) (es : List Entry) → es ≡ [] → AreTypedEntries d V Es es → AreProved L d P c Es es
none_proved L d P c V [] [] e h = tt
none_proved L d P c V [] (x ∷ es) e h = absurd h
none_proved L d P c V (E ∷ Es) [] e h = absurd h
none_proved L d P c V (E ∷ Es) (x ∷ es) e h = absurd (cc)

pub proved_branches_answer : (L : Leaves) (n height : ℕ) (d : Declared) (P : List Clause) (q : Query) (y : BranchTyping) (b : Branch) → b.goals ≡ [] → IsTypedBranch n d q y b → IsRightView L n d P q (going y b) (look unit_limit n P height (Go b))
proved_branches_answer L n height d P q y b e h = transport (λ gs. IsRightView L n d P q (going y b) (look_branch unit_limit n P height b gs)) (sym e) answers
  where
    answers : AnswersFor L d P q (going y b) (answer_of b)
    answers = record {
      typing = y.answer;
      given = (e, refl, refl);
      ok = h.answer;
      keeps = λ i s. (s.query, s.answer);
      gives = λ i s a. record { query = s; answer = a; proved = none_proved _ d P a.closing y.answer.variables y.eigens b.goals e h.entries };
    }

-- where the search stops in the place of a task
pub stopped : {L : Leaves} (n : ℕ) (d : Declared) (P : List Clause) (q : Query) (T : TypedTask) (e : Ending) → e ≢ NoMore → StandFor L n d P q T (Stop e ∷ [])
stopped {L} n d P q T e h = record {
  typed = stopping e T ∷ [];
  is = refl;
  ok = (h, tt);
  given = (tt, tt);
  keeps = λ i s. inl s;
  gives = λ i s. elim s [ inl x ↦ x | inr x ↦ absurd x ];
}

-- where it lacks steps
pub lacked : {L : Leaves} (n : ℕ) (d : Declared) (P : List Clause) (q : Query) (T : TypedTask) → StandFor L n d P q T (Lack ∷ [])
lacked {L} n d P q T = record {
  typed = lacking T ∷ [];
  is = refl;
  ok = (tt, tt);
  given = (tt, tt);
  keeps = λ i s. inl s;
  gives = λ i s. elim s [ inl x ↦ x | inr x ↦ absurd x ];
}
