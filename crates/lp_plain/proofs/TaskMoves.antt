-- An atom that takes its step, as moves of the definition, by the tasks that it leaves.
use Rattle.std.proofs.Common.{◌≡◌, ℕ, suc, List, [], ◌∷◌, ◌++◌, length, refl, sym, ap, inl, inr, ◌∙◌, Bool}
use Rattle.lp_model.specs.Branch.{Answer, Branch, Go, Lack, Stop, Task}
use Rattle.lp_model.specs.Flat.{Clause}
use Rattle.lp_model.specs.Search.{look}
use Rattle.lp_model.specs.Skeleton.{GoalName, GoalNote, Goes, Inner, State, Takes, View, back, move, move_at, move_view}
use Rattle.lp_model.specs.Unify.{unit_limit}
use Rattle.lp_model.specs.declared.ending.Ending.{Ending}
use Rattle.lp_plain.specs.declared.machine.Machine.{Machine}
use Rattle.lp_plain.specs.declared.outcome.Turn.{Turn}
use Rattle.lp_plain.specs.Moving.{IsBack, IsState, Leads, Query, Tally, quiet, taking}
use Rattle.lp_plain.proofs.QuietMoves.{by_lost}

module _ (qv : Query) (n : Machine) (below : List Task) (s : State Task) (w j : ℕ) (ea : s.answers ≡ suc w) (es : s.steps ≡ suc j)
    (go : (Answer → Bool) → State Task → Inner) (enough : ℕ) (P : List Clause) (name : GoalName)
    (task : Task) (tasks : List Task) (stack : s.stack ≡ task ∷ below) (seen : look unit_limit enough P (length below) task ≡ Takes name tasks) where
  abbrev see : ℕ → Task → View Task Answer
  see = look unit_limit enough P

  -- the step and its note
  abbrev pub told : Tally
  told = taking (GoalNote name)

  abbrev pub after : List Task → State Task
  after ts = record { steps = j; answers = suc w; given = s.given; rows = s.rows; row = s.rows; lost = s.lost; stack = ts ++ below }

  first_move : (ts : List Task) → tasks ≡ ts → move go see s ≡ Goes 1 (GoalNote name ∷ back ts below) (after ts)
  first_move ts e =
      (λ i. move_at go see (es i) (ea i) s.given s.rows s.row s.lost (stack i)) ∙ by_lost go see (suc j) w s.given s.rows s.row s.lost task below ∙
      ap (move_view go (suc j) w s.given s.rows s.row s.lost below) (seen ∙ ap (Takes name) e)

  second : (x : Task) (ts : List Task) → move go see (after (x ∷ ts)) ≡ move_view go j w s.given s.rows s.rows s.lost (ts ++ below) (see (length (ts ++ below)) x)
  second x ts = by_lost go see j w s.given s.rows s.rows s.lost x (ts ++ below)

  pub lacks : tasks ≡ Lack ∷ [] → (turn : Turn) → Leads 1 told qv turn n go see s
  lacks e turn = inr (inr (told, quiet, after (Lack ∷ []), refl, first_move (Lack ∷ []) e, sym ea, refl, inr (0, [], second Lack [])))

  pub fails : tasks ≡ [] → IsBack qv n (after []) → Leads 1 told qv Turn.Back n go see s
  fails e b = inl (after [], first_move [] e, b, sym ea, refl)

  pub stops : (f : Ending) → tasks ≡ Stop f ∷ [] → Leads 1 told qv (Turn.Ended f) n go see s
  stops f e = inr (inr (told, quiet, after (Stop f ∷ []), refl, first_move (Stop f ∷ []) e, sym ea, refl, inl (refl, second (Stop f) [])))

  pub goes : (b : Branch) → tasks ≡ Go b ∷ [] → IsState qv n (after (Go b ∷ [])) → Leads 1 told qv Turn.On n go see s
  goes b e h = inl (after (Go b ∷ []), first_move (Go b ∷ []) e, h, sym ea, refl)
