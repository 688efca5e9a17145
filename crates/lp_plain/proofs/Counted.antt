-- A goal that is taken apart is counted, or a million were in a row; then the definition stops.
use Rattle.std.proofs.Common.{◌≡◌, ℕ, suc, ◌<◌, ◌≤◌, List, [], ◌∷◌, ◌++◌, length, inl, inr, refl, sym, ap, ◌∙◌, subst, arith, Bool, true, false, Some}
use Rattle.std.specs.Prelude.{slice_get}
use Rattle.lp_calculus.specs.Term.{Term}
use Rattle.lp_term.specs.Nodes.{Nodes}
use Rattle.lp_model.specs.declared.ending.Ending.TheVariants.{NoMore, NoMoreCut, Enough, Steps, Flexible, Arithmetic, OpenNot, Deep}
use Rattle.lp_model.specs.Branch.{Answer, Branch, Entry, Go, Task}
use Rattle.lp_model.specs.Flat.{Goal, Atomic, Cut, Either, Exists, Forall, Assume, Not, Goals, no_goals, goals, Clause, goal_list}
use Rattle.lp_model.specs.Search.{look, look_branch, look_goal, with_goals}
use Rattle.lp_model.specs.Skeleton.{Inner, Parts, State, Stops, View, move, move_at, move_view}
use Rattle.lp_plain.specs.declared.frame.Frame.{Frame}
use Rattle.lp_plain.specs.declared.frame.Place.{Place}
use Rattle.lp_plain.specs.declared.frame.Todo.{Todo}
use Rattle.lp_plain.specs.declared.machine.Counts.{Counts}
use Rattle.lp_plain.specs.declared.machine.Machine.{Machine}
use Rattle.lp_plain.specs.declared.outcome.Turn.{Turn}
use Rattle.lp_plain.specs.declared.table.Flat.{Flat}
use Rattle.lp_plain.specs.declared.table.Span.{Span}
use Rattle.lp_plain.specs.declared.types.Renewal.{Renewal}
use Rattle.lp_plain.specs.Apart.{IsApart}
use Rattle.lp_plain.specs.Entries.{Around, IsBranchAt, Reads, in_scope, placed}
use Rattle.lp_plain.specs.Searching.{GoesOnOrStops, IsStateOf}
use Rattle.lp_plain.specs.Stacks.{stack_of}
use Rattle.lp_plain.specs.Tables.{AreGoals, IsGoal, Never, Shown, shown}
use Rattle.lp_plain.specs.Taking.{FirstIsApart, IsApartFirst, IsApartFlat, IsTakenApart}
use Rattle.lp_plain.specs.Within.{IsTodoIn, StandsIn}
use Rattle.lp_plain.proofs.FirstGoals.{frame_of, kind_in}
use Rattle.lp_plain.proofs.Within.{all_at}

pub flat_kind : (b : Nodes) (t : Shown) (f : Flat) (g : Goal) → IsGoal b Never t f g → IsTakenApart g → IsApartFlat f
flat_kind b t f (Atomic x) h k = absurd k
flat_kind b t f Cut h k = absurd k
flat_kind b t f (Either gs hs) h k = subst IsApartFlat (sym h.2) tt
flat_kind b t f (Exists T gs) h k = subst IsApartFlat (sym h.1) tt
flat_kind b t f (Forall T gs) h k = subst IsApartFlat (sym h.1) tt
flat_kind b t f (Assume w cs gs) h k = subst IsApartFlat (sym h.3) tt
flat_kind b t f (Not w gs) h k = absurd k

pub counted_first : (m : Machine) (s : Span) (flat : Flat) → slice_get m.table.goals.items s.from ≡ Some flat → (hs : Goals) → s.from < s.to →
    AreGoals m.bank Never (shown m.table) s.from s.to hs → FirstIsApart hs → IsApartFlat flat
counted_first m s flat got no_goals l h f = absurd f
counted_first m s flat got (goals g gs) l h f = let q : h.0 ≡ flat = (let z = h.1 in cc) in flat_kind m.bank (shown m.table) flat g (subst (λ x. IsGoal m.bank Never (shown m.table) x g) q h.2) f

first_in_place : (b : Nodes) (t : Shown) (from to : ℕ) (a : Around) (p : Place) (σ : ℕ → Term) (r : Renewal) (hs : Goals) (es : List Entry) → AreGoals
    b Never t from to hs → from < to → IsApartFirst (placed a p (goal_list (in_scope σ r hs)) ++ es) → FirstIsApart hs
first_in_place b t from to a p σ r no_goals es h l f = absurd (omega (arith, h, l))
first_in_place b t from to a p σ r (goals g gs) es h l f = kind_in σ r g f

pub counted_branch : (m : Machine) (number : ℕ) (f : Frame) (span : Span) (X : Type 0) → m.branch.goals ≡ Some number → slice_get m.frames.items number ≡ Some f → f.todo ≡ Todo.Goals span →
    ((hs : Goals) → span.from < span.to → AreGoals m.bank Never (shown m.table) span.from span.to hs → FirstIsApart hs → X) → (a : Around)
    (b : Branch) → StandsIn m → IsBranchAt m a b → IsApartFirst b.goals → X
counted_branch m number f span X g got t k a b st w h =
    let i = frame_of m a number f got span b.goals t (subst (λ o. Reads m a o b.goals) g w.goals) in
    let l : span.from < span.to = subst (IsTodoIn (length m.bank.terms)) t (all_at (λ (f : Frame). IsTodoIn (length m.bank.terms) f.todo) m.frames.items number f got st.frames) in
    k i.goals_of l i.are (first_in_place m.bank (shown m.table) span.from span.to a f.place i.values f.place.values.types i.goals_of i.behind i.are l (subst IsApartFirst i.whole h))

-- the definition's look at a goal that is taken apart

goal_parts : (u z height : ℕ) (P : List Clause) (e : Entry) (b : Branch) (g : Goal) → IsTakenApart g → (ts : List Task) × (look_goal u z P height e b g ≡ Parts ts)
goal_parts u z height P e b (Atomic x) k = absurd k
goal_parts u z height P e b Cut k = absurd k
goal_parts u z height P e b (Either gs hs) k = (_, refl)
goal_parts u z height P e b (Exists T gs) k = (_, refl)
goal_parts u z height P e b (Forall T gs) k = (_, refl)
goal_parts u z height P e b (Assume w cs gs) k = (_, refl)
goal_parts u z height P e b (Not w gs) k = absurd k

branch_parts : (u z height : ℕ) (P : List Clause) (b : Branch) (es : List Entry) → IsApartFirst es → (ts : List Task) × (look_branch u z P height b es ≡ Parts ts)
branch_parts u z height P b [] k = absurd k
branch_parts u z height P b (e ∷ es) k = goal_parts u z height P e (with_goals b es) e.goal k

module _ (go : (Answer → Bool) → State Task → Inner) (see : ℕ → Task → View Task Answer) where
  pub at_limit : (n k g u : ℕ) (b : Bool) (t : Task) (rest ts : List Task) → see (length rest) t ≡ Parts ts → move_at go see n (suc k) g u 0 b (t ∷ rest) ≡ Stops Deep
  at_limit n k g u true t rest ts e = ap (move_view go n k g u 0 true rest) e
  at_limit n k g u false t rest ts e = ap (move_view go n k g u 0 false rest) e

-- the search goes on, or the definition's stops

stops_deep : (m : Machine) (a : Around) (s : State Task) (h : IsStateOf m a s) → 1000000 ≤ m.counts.row → IsApartFirst h.at_work.goals → (k : ℕ) →
    s.answers ≡ suc k → (go : (Answer → Bool) → State Task → Inner) (u n : ℕ) (P : List Clause) → move go (look u n P) s ≡ Stops Deep
stops_deep m a s h l f k ea go u n P =
    let r = h.row in
    let zero_row : s.row ≡ 0 = omega (arith, r, l) in
    let p = branch_parts u n (length (stack_of h.others)) P h.at_work h.at_work.goals f in
    (λ i. move_at go (look u n P) s.steps (ea i) s.given s.rows (zero_row i) s.lost (h.stack i)) ∙ at_limit go (look u n P) s.steps k s.given s.rows s.lost (Go h.at_work) (stack_of h.others) p.0 p.1

pub counted_state : (m : Machine) (turn : Turn) (new : Counts) (a : Around) (s : State Task) (h : IsStateOf m a s) → IsApartFirst h.at_work.goals → IsApart turn m.counts new → GoesOnOrStops turn s
counted_state m Turn.On new a s h f c = inl refl
counted_state m Turn.Back new a s h f c = absurd c
counted_state m Turn.Answered new a s h f c = absurd c
counted_state m (Turn.Ended Deep) new a s h f c = inr (refl, stops_deep m a s h c.0 f)
counted_state m (Turn.Ended NoMore) new a s h f c = absurd c
counted_state m (Turn.Ended NoMoreCut) new a s h f c = absurd c
counted_state m (Turn.Ended Enough) new a s h f c = absurd c
counted_state m (Turn.Ended Steps) new a s h f c = absurd c
counted_state m (Turn.Ended Flexible) new a s h f c = absurd c
counted_state m (Turn.Ended (Arithmetic e)) new a s h f c = absurd c
counted_state m (Turn.Ended OpenNot) new a s h f c = absurd c
