-- The goals at hand: those of the frame in front, the first of them, and the others as a frame.
use Rattle.std.proofs.Common.{◌≡◌, ℕ, suc, ◌-◌, ◌<◌, ◌≤◌, List, ◌++◌, length, refl, sym, ap, ◌∙◌, subst, arith, Option, None, Some}
use Rattle.std.specs.Prelude.{slice_get}
use Rattle.lp_term.specs.declared.node.TermId.{TermId}
use Rattle.lp_model.specs.Branch.{Branch, Entry, Task}
use Rattle.lp_model.specs.Flat.{Goal, Goals, no_goals, goals, goal_list}
use Rattle.lp_model.specs.Skeleton.{State}
use Rattle.lp_plain.specs.declared.frame.Frame.{Frame}
use Rattle.lp_plain.specs.declared.frame.Place.{Place}
use Rattle.lp_plain.specs.declared.frame.Todo.{Todo}
use Rattle.lp_plain.specs.declared.machine.Machine.{Machine}
use Rattle.lp_plain.specs.declared.table.Flat.{Flat}
use Rattle.lp_plain.specs.declared.table.Span.{Span}
use Rattle.lp_plain.specs.Assuming.{HasFrameAt, IsPlaceAt, KeepsAssumed, lists_of}
use Rattle.lp_plain.specs.Entries.{Around, no_frame, a_frame, AreTodo, IsAt, KeepsGoals, Reads, in_scope, placed}
use Rattle.lp_plain.specs.Keeping.{KeepsCourse}
use Rattle.lp_plain.specs.Moving.{Query, IsAtGoal, IsAtGoals, IsPlainFirst, IsRunning, IsState}
use Rattle.lp_plain.specs.Scopes.{blocks_of}
use Rattle.lp_plain.specs.Tables.{AreGoals, IsGoal, Never, shown}
use Rattle.lp_plain.specs.Within.{IsTodoIn, StandsIn}
use Rattle.lp_plain.proofs.Assumed.{lists_noted}
use Rattle.lp_plain.proofs.FirstGoals.{frame_of}
use Rattle.lp_plain.proofs.Frames.{goals_none}
use Rattle.lp_plain.proofs.Grown.{grown_frame, grown_on, placed_on, same_around}
use Rattle.lp_plain.proofs.NoneBound.{none_kept}
use Rattle.lp_plain.proofs.Running.{running_still}
use Rattle.lp_plain.proofs.Within.{all_at}

-- the numbers of goals and frames that are read are numbers of the table and of the search

pub goals_there : (m : Machine) (s : Span) (hs : Goals) → s.from < s.to → AreGoals m.bank Never (shown m.table) s.from s.to hs → slice_get m.table.goals.items s.from ≡ None → ⊥
goals_there m s no_goals l h e = omega (arith, h, l)
goals_there m s (goals g gs) l h e = let q : None ≡ Some h.0 = sym e ∙ h.1 in cc

pub frame_there : (m : Machine) (a : Around) (number : ℕ) {o : Option ℕ} {es : List Entry} → Reads m a o es → o ≡ Some number → slice_get m.frames.items number ≡ None → ⊥
frame_there m a number (no_frame q z) e g = let y : None ≡ Some number = sym q ∙ e in cc
frame_there m a number (a_frame i f gs rest q x w r z) e g =
    let same : i ≡ number = (let y : Some i ≡ Some number = sym q ∙ e in cc) in
    let y : Some f ≡ None = sym x ∙ ap (slice_get m.frames.items) same ∙ g in
    cc

-- a goal with none behind it in its list
pub at_last : (m : Machine) (a : Around) (p : Place) (s : Span) (o : Option ℕ) (raw : Branch) (flat : Flat) → slice_get m.table.goals.items s.from ≡ Some flat → s.to ≤ suc s.from → IsAtGoals m a p s o raw → IsAtGoal m a p flat o raw
at_last m a p s o raw flat got e h = go h.goals_of h.are h.goals
  where
    go : (gs : Goals) → AreGoals m.bank Never (shown m.table) s.from s.to gs → raw.goals ≡ placed a p (goal_list (in_scope h.values p.values.types gs)) ++ h.rest → IsAtGoal m a p flat o raw
    go no_goals ag w = absurd (let l = h.some in omega (arith, ag, l))
    go (goals g gs) ag w =
        let q : ag.0 ≡ flat = (let z = ag.1 in cc) in
        let none : gs ≡ no_goals = goals_none m.bank (shown m.table) (blocks_of m.scopes) a (suc s.from) s.to gs ag.3 e in
        record {
          goal = g;
          values = h.values;
          rest = h.rest;
          place = h.place;
          is = subst (λ x. IsGoal m.bank Never (shown m.table) x g) q ag.2;
          at = h.at;
          reads = h.reads;
          goals = w ∙ ap (λ z. placed a p (goal_list (in_scope h.values p.values.types (goals g z))) ++ h.rest) none;
        }

-- one with others behind it, which become a frame
module _ (m q : Machine) (a : Around) (p : Place) (s others : Span) (o rest : Option ℕ) (raw : Branch) (flat : Flat) (got : slice_get m.table.goals.items s.from ≡ Some flat) (ef : others.from ≡ suc s.from)
    (et : others.to ≡ s.to) (k : KeepsGoals m q) (ka : KeepsAssumed m q)
    (reads : (a : Around) (gs : List Goal) (es : List Entry) → AreTodo m.bank (shown m.table) (blocks_of m.scopes) p (Todo.Goals others) gs → Reads m a o es → Reads q a rest (placed a p gs ++ es)) where
  pub at_more : IsAtGoals m a p s o raw → IsAtGoal q a p flat rest raw
  at_more h = go h.goals_of h.are h.goals
    where
      go : (gs : Goals) → AreGoals m.bank Never (shown m.table) s.from s.to gs → raw.goals ≡ placed a p (goal_list (in_scope h.values p.values.types gs)) ++ h.rest → IsAtGoal q a p flat rest raw
      go no_goals ag w = absurd (let l = h.some in omega (arith, ag, l))
      go (goals g gs) ag w =
          let e : ag.0 ≡ flat = (let z = ag.1 in cc) in
          let gg : IsGoal m.bank Never (shown m.table) flat g = subst (λ x. IsGoal m.bank Never (shown m.table) x g) e ag.2 in
          record {
            goal = g;
            values = h.values;
            rest = placed a p (goal_list (in_scope h.values p.values.types gs)) ++ h.rest;
            place = subst (λ x. IsPlaceAt x a p) (lists_noted m q k ka) h.place;
            is = subst (λ b. IsGoal b Never (shown q.table) flat g) (sym k.known.bank) (subst (λ t. IsGoal m.bank Never (shown t) flat g) (sym k.known.table) gg);
            at = subst (λ b. IsAt b (blocks_of q.scopes) p h.values) (sym k.known.bank) (subst (λ x. IsAt m.bank (blocks_of x) p h.values) (sym k.known.scopes) h.at);
            reads = reads a (goal_list (in_scope h.values p.values.types gs)) h.rest
                (gs, h.values, subst (λ i. AreGoals m.bank Never (shown m.table) i others.to gs) (sym ef) (subst (λ i. AreGoals m.bank Never (shown m.table) (suc s.from) i gs) (sym et) ag.3), h.at, refl) h.reads;
            goals = w;
          }

-- the search with such a frame more
pub running_framed : (qv : Query) (m q : Machine) (a : Around) (p : Place) (raw : Branch) (s : State Task) → KeepsGoals m q → KeepsCourse m q → KeepsAssumed m q → HasFrameAt m q p → StandsIn q → IsPlaceAt (lists_of m) a p → IsRunning qv m a raw s → IsRunning qv q a raw s
running_framed qv m q a p raw s k c ka f st pl h =
    let g = grown_frame m q p k ka f c.denied in
    let n = ap (λ b. b.next) c.branch in
    running_still qv m q a a raw s h st (placed_on m q a p g h.above.done.stands h.placed pl) (grown_on m q p g) (same_around (length m.newest.items) (length m.standings.items) a) (none_kept m q k c) c.choices
    h.levels raw h.at_work s h.under (omega (arith, n)) (n ∙ h.next) (ap (λ b. b.next_type) c.branch ∙ h.next_type) h.stack (record {
      steps = h.counted.steps ∙ ap (λ x. x.limit - x.steps) (sym c.counts);
      rows = h.counted.rows;
      row = h.counted.row ∙ ap (λ x. 1000000 - x.row) (sym c.counts);
      lost = h.counted.lost ∙ ap (λ x. x.lost) (sym c.counts);
    })

-- at work on the same branch
pub framed_work : (qv : Query) (m q : Machine) (a : Around) (p : Place) (raw : Branch) (s : State Task) (k : KeepsGoals m q) (c : KeepsCourse m q) (ka : KeepsAssumed m q) (f : HasFrameAt m q p) (st : StandsIn q) (pl : IsPlaceAt (lists_of m) a p)
    (h : IsRunning qv m a raw s) → (running_framed qv m q a p raw s k c ka f st pl h).at_work ≡ h.at_work
unfolding running_framed running_still
framed_work qv m q a p raw s k c ka f st pl h = refl

-- the frame in front

module _ (qv : Query) (m : Machine) (s : State Task) (h : IsState qv m s) (number : ℕ) (f : Frame) (front : m.branch.goals ≡ Some number) (got : slice_get m.frames.items number ≡ Some f) where
  pub at_frame : (span : Span) → f.todo ≡ Todo.Goals span → IsAtGoals m h.around f.place span f.behind h.raw
  at_frame span t =
      let i = frame_of m h.around number f got span h.raw.goals t (subst (λ o. Reads m h.around o h.raw.goals) front h.goals) in
      record {
        goals_of = i.goals_of;
        values = i.values;
        rest = i.behind;
        place = all_at (λ (f : Frame). IsPlaceAt (lists_of m) h.around f.place) m.frames.items number f got h.running.placed;
        some = subst (IsTodoIn (length m.bank.terms)) t (all_at (λ (f : Frame). IsTodoIn (length m.bank.terms) f.todo) m.frames.items number f got h.running.above.done.stands.frames);
        are = i.are;
        at = i.scope;
        reads = i.reads;
        goals = i.whole;
      }

  pub term_plain : (u : TermId) → f.todo ≡ Todo.Term u → IsPlainFirst h.raw.goals → ⊥
  term_plain u t = go (subst (λ o. Reads m h.around o h.raw.goals) front h.goals)
    where
      go : {es : List Entry} → Reads m h.around (Some number) es → IsPlainFirst es → ⊥
      go (no_frame q z) k = absurd (cc)
      go (a_frame i g gs rest q x w r z) k =
          let n : number ≡ i = cc in
          let same : g ≡ f = (let y : Some g ≡ Some f = sym x ∙ ap (slice_get m.frames.items) (sym n) ∙ got in cc) in
          let todo : AreTodo m.bank (shown m.table) (blocks_of m.scopes) f.place (Todo.Term u) gs =
          subst (λ x. AreTodo m.bank (shown m.table) (blocks_of m.scopes) f.place x gs) t (subst (λ (x : Frame). AreTodo m.bank (shown m.table) (blocks_of m.scopes) x.place x.todo gs) same w) in
          subst IsPlainFirst (z ∙ ap (λ l. placed h.around g.place l ++ rest) todo.2) k

pub none_plain : (qv : Query) (m : Machine) (s : State Task) (h : IsState qv m s) → m.branch.goals ≡ None → IsPlainFirst h.raw.goals → ⊥
none_plain qv m s h e = go e h.goals
  where
    go : {o : Option ℕ} {es : List Entry} → o ≡ None → Reads m h.around o es → IsPlainFirst es → ⊥
    go e (no_frame q z) k = subst IsPlainFirst z k
    go e (a_frame i g gs rest q x w r z) k = absurd (cc)
