-- The first goal of the branch at work, which is taken apart, and the goals behind it.
use Rattle.std.proofs.Common.{◌≡◌, ℕ, suc, ◌<◌, ◌≤◌, List, [], ◌∷◌, ◌++◌, length, take, drop, refl, sym, ap, ◌∙◌, subst, arith, Option, None, Some}
use Rattle.std.specs.Prelude.{slice_get}
use Rattle.std.proofs.lemmas.List.{take-append-drop}
use Rattle.lp_calculus.specs.Term.{Term}
use Rattle.lp_term.specs.Nodes.{Nodes}
use Rattle.lp_term.specs.declared.node.TermId.{TermId}
use Rattle.lp_model.specs.Branch.{Answer, Entry, Task, Go}
use Rattle.lp_model.specs.Flat.{Goal, Atomic, Cut, Either, Exists, Forall, Assume, Not, Goals, no_goals, goals, goal_list}
use Rattle.lp_model.specs.Search.{look, with_goals}
use Rattle.lp_model.specs.Skeleton.{View}
use Rattle.lp_plain.specs.declared.frame.Frame.{Frame}
use Rattle.lp_plain.specs.declared.frame.Place.{Place}
use Rattle.lp_plain.specs.declared.frame.Todo.{Todo}
use Rattle.lp_plain.specs.declared.machine.Machine.{Machine}
use Rattle.lp_plain.specs.declared.table.Flat.{Flat}
use Rattle.lp_plain.specs.declared.table.Span.{Span}
use Rattle.lp_plain.specs.declared.types.Renewal.{Renewal}
use Rattle.lp_plain.specs.Apart.{one_apart}
use Rattle.lp_plain.specs.Assuming.{lists_of, GrowsOn, HasFrameAt, IsLaterAround, IsPlaceAt, KeepsAssumed}
use Rattle.lp_plain.specs.Entries.{Around, AreEntries, no_frame, a_frame, ArePartsAt, AreTodo, HasValues, IsAt, IsBehind, KeepsGoals, Reads, in_scope, placed}
use Rattle.lp_plain.specs.Keeping.{KeepsCourse}
use Rattle.lp_plain.specs.Scopes.{blocks_of}
use Rattle.lp_plain.specs.Tables.{Shown, shown, AreGoals, IsGoal, Never}
use Rattle.lp_plain.specs.Taking.{IsApartFirst, IsTakenApart, TakesApart, TakesBranch, TakesGoals, TakesOne, goal_in}
use Rattle.lp_plain.specs.Within.{IsTodoIn, StandsIn}
use Rattle.lp_plain.proofs.Assumed.{lists_noted}
use Rattle.lp_plain.proofs.Frames.{frames_more, goals_none}
use Rattle.lp_plain.proofs.Grown.{above_from, grown_frame, grown_on, on_then, placed_on}
use Rattle.lp_plain.proofs.Within.{all_at}

-- a goal under values is taken apart where it is
pub kind_in : (σ : ℕ → Term) (r : Renewal) (g : Goal) → IsTakenApart (goal_in σ r g) → IsTakenApart g
kind_in σ r (Atomic t) h = h
kind_in σ r Cut h = h
kind_in σ r (Either gs hs) h = h
kind_in σ r (Exists T gs) h = h
kind_in σ r (Forall T gs) h = h
kind_in σ r (Assume w cs gs) h = h
kind_in σ r (Not w gs) h = h

-- what is said of a search stays where alternatives and numbers are the same
takes_from : (m q n : Machine) (a : Around) (v : View Task Answer) → q.choices.items ≡ m.choices.items → q.newest ≡ m.newest → q.standings ≡
    m.standings → q.counts ≡ m.counts → GrowsOn m q → TakesOne q n a v → TakesOne m n a v
takes_from m q n a v c e s k g h = record {
  around = h.around;
  later = subst (λ z. IsLaterAround (length z.items) (length m.standings.items) a h.around) e (subst (λ z. IsLaterAround (length q.newest.items) (length z.items) a h.around) s h.later);
  placed = h.placed;
  stands = h.stands;
  parts = subst (λ z. ArePartsAt z n h.around v) c h.parts;
  kept = λ x p. let y = h.kept x (p ∙ ap (λ z. z ++ x ∷ []) (sym c)) in (y.0, above_from m q x g y.1);
  quiet = record { on = on_then m q n g h.quiet.on; row = subst (λ z. z.row < 1000000) k h.quiet.row; counts = h.quiet.counts ∙ ap one_apart k };
}

-- a goal with none behind it in its list
pub last_taken : (m n : Machine) (p : Place) (s : Span) (o : Option ℕ) (flat : Flat) → slice_get m.table.goals.items s.from ≡ Some flat → s.to ≤ suc
    s.from → TakesApart m n p flat o → TakesGoals m n p s o
last_taken m n p s o flat got e t a b no_goals σ st pl h l ag at w af u k height P = absurd (omega (arith, ag, l))
last_taken m n p s o flat got e t a b (goals g gs) σ st pl h l ag at w af u k height P =
    let q : ag.0 ≡ flat = (let z = ag.1 in cc) in
    let none : gs ≡ no_goals = goals_none m.bank (shown m.table) (blocks_of m.scopes) a (suc s.from) s.to gs ag.3 e in
    subst (λ z. TakesOne m n a (look u k P height (Go (with_goals b (placed a p (goal_list (in_scope σ p.values.types (goals g z))) ++ b.goals))))) (sym none)
    (t a g σ b st pl h (kind_in σ p.values.types g af) (subst (λ x. IsGoal m.bank Never (shown m.table) x g) q ag.2) at w u k height P)

-- one with others behind it, which become a frame
pub more_taken : (m q n : Machine) (p : Place) (s others : Span) (o rest : Option ℕ) (flat : Flat) → slice_get m.table.goals.items s.from ≡ Some flat
    → others.from ≡ suc s.from → others.to ≡ s.to → others.from < others.to → KeepsGoals m q → KeepsCourse m q → KeepsAssumed m q →
    HasFrameAt m q p → (IsTodoIn (length m.bank.terms) (Todo.Goals others) → StandsIn m → StandsIn q) →
    ((a : Around) (gs : List Goal) (es : List Entry) → AreTodo m.bank (shown m.table) (blocks_of m.scopes) p (Todo.Goals others) gs → Reads m a o es →
    Reads q a rest (placed a p gs ++ es)) → TakesApart q n p flat rest → TakesGoals m n p s o
more_taken m q n p s others o rest flat got ef et lt k course ka frame stands reads t a b no_goals σ st pl h l ag at w af u z height P = absurd (omega (arith, ag, l))
more_taken m q n p s others o rest flat got ef et lt k course ka frame stands reads t a b (goals g gs) σ st pl h l ag at w af u z height P =
    let same : ag.0 ≡ flat = (let y = ag.1 in cc) in
    let goal : IsGoal q.bank Never (shown q.table) flat g =
    subst (λ x. IsGoal x Never (shown q.table) flat g) (sym k.known.bank) (subst (λ x. IsGoal m.bank Never (shown x) flat g) (sym k.known.table)
    (subst (λ x. IsGoal m.bank Never (shown m.table) x g) same ag.2)) in
    let scope : IsAt q.bank (blocks_of q.scopes) p σ =
    subst (λ x. HasValues x (blocks_of q.scopes) p.values.scope σ) (sym k.known.bank) (subst (λ x. HasValues m.bank (blocks_of x) p.values.scope σ) (sym k.known.scopes) at) in
    let are : AreGoals m.bank Never (shown m.table) others.from others.to gs =
    subst (λ x. AreGoals m.bank Never (shown m.table) x others.to gs) (sym ef) (subst (λ x. AreGoals m.bank Never (shown m.table) (suc s.from) x gs) (sym et) ag.3) in
    let behind : IsBehind q a rest (with_goals b (placed a p (goal_list (in_scope σ p.values.types gs)) ++ b.goals)) =
    record {
      goals = reads a (goal_list (in_scope σ p.values.types gs)) b.goals (gs, σ, are, at, refl) w.goals;
      next = ap (λ x. x.next) course.branch ∙ w.next;
      next_type = ap (λ x. x.next_type) course.branch ∙ w.next_type;
    } in
    takes_from m q n a _ course.choices ka.newest k.known.standings course.counts (grown_on m q p (grown_frame m q p k ka frame course.denied))
    (t a g σ (with_goals b (placed a p (goal_list (in_scope σ p.values.types gs)) ++ b.goals)) (stands lt st) (placed_on m q a p (grown_frame m q p k ka frame course.denied) st pl h)
    (subst (λ x. IsPlaceAt x a p) (lists_noted m q k ka) h) (kind_in σ p.values.types g af) goal scope behind u z height P)

-- the goals of a frame
pub record IsFrame (m : Machine) (a : Around) (f : Frame) (span : Span) (es : List Entry) : Type 0 where
  pub goals_of : Goals
  pub values : ℕ → Term
  pub behind : List Entry
  pub are : AreGoals m.bank Never (shown m.table) span.from span.to goals_of
  pub scope : IsAt m.bank (blocks_of m.scopes) f.place values
  pub whole : es ≡ placed a f.place (goal_list (in_scope values f.place.values.types goals_of)) ++ behind
  pub reads : Reads m a f.behind behind

module _ (m : Machine) (a : Around) (number : ℕ) (f : Frame) (got : slice_get m.frames.items number ≡ Some f) where
  pub frame_of : (span : Span) (es : List Entry) → f.todo ≡ Todo.Goals span → Reads m a (Some number) es → IsFrame m a f span es
  frame_of span es t (no_frame q z) = absurd (cc)
  frame_of span es t (a_frame i g gs rest q h k r z) =
      let n : number ≡ i = cc in
      let same : g ≡ f = (let y : Some g ≡ Some f = sym h ∙ ap (slice_get m.frames.items) (sym n) ∙ got in cc) in
      let todo : AreTodo m.bank (shown m.table) (blocks_of m.scopes) f.place (Todo.Goals span) gs =
      subst (λ x. AreTodo m.bank (shown m.table) (blocks_of m.scopes) f.place x gs) t (subst (λ (x : Frame). AreTodo m.bank (shown m.table) (blocks_of m.scopes) x.place x.todo gs) same k) in
      record {
        goals_of = todo.0;
        values = todo.1;
        behind = rest;
        are = todo.2;
        scope = todo.3;
        whole = z ∙ ap (λ (x : Frame). placed a x.place gs ++ rest) same ∙ ap (λ x. placed a f.place x ++ rest) todo.4;
        reads =
            subst (λ fs. AreEntries m.bank (shown m.table) (blocks_of m.scopes) a fs f.behind rest) (take-append-drop i m.frames.items)
            (frames_more m.bank (shown m.table) (blocks_of m.scopes) a (take i m.frames.items) (drop i m.frames.items)
            (subst (λ (x : Frame). AreEntries m.bank (shown m.table) (blocks_of m.scopes) a (take i m.frames.items) x.behind rest) same r));
      }

  pub term_first : (u : TermId) (es : List Entry) → f.todo ≡ Todo.Term u → Reads m a (Some number) es → IsApartFirst es → ⊥
  term_first u es t (no_frame q z) h = absurd (cc)
  term_first u es t (a_frame i g gs rest q x k r z) h =
      let n : number ≡ i = cc in
      let same : g ≡ f = (let y : Some g ≡ Some f = sym x ∙ ap (slice_get m.frames.items) (sym n) ∙ got in cc) in
      let todo : AreTodo m.bank (shown m.table) (blocks_of m.scopes) f.place (Todo.Term u) gs =
      subst (λ x. AreTodo m.bank (shown m.table) (blocks_of m.scopes) f.place x gs) t (subst (λ (x : Frame). AreTodo m.bank (shown m.table) (blocks_of m.scopes) x.place x.todo gs) same k) in
      subst IsApartFirst (z ∙ ap (λ l. placed a g.place l ++ rest) todo.2) h

front_apart : (a : Around) (p : Place) (hs : List Goal) (es : List Entry) → IsApartFirst (placed a p hs ++ es) → 0 < length hs → IsApartFirst (placed a p hs)
front_apart a p [] es h l = absurd (omega (arith, l))
front_apart a p (g ∷ hs) es h l = h

some_goals : (b : Nodes) (t : Shown) (from to : ℕ) (hs : Goals) (σ : ℕ → Term) (r : Renewal) → AreGoals b Never t from to hs → from < to → 0 < length (goal_list (in_scope σ r hs))
some_goals b t from to no_goals σ r h l = absurd (omega (arith, h, l))
some_goals b t from to (goals g gs) σ r h l = omega arith

-- the branch at work

pub branch_taken : (m n : Machine) (number : ℕ) (f : Frame) (span : Span) → m.branch.goals ≡ Some number → slice_get m.frames.items number ≡ Some f →
    f.todo ≡ Todo.Goals span → TakesGoals m n f.place span f.behind → TakesBranch m n
branch_taken m n number f span g got t tg a b st pl w af u k height P =
    let i = frame_of m a number f got span b.goals t (subst (λ o. Reads m a o b.goals) g w.goals) in
    let l : span.from < span.to = subst (IsTodoIn (length m.bank.terms)) t (all_at (λ (f : Frame). IsTodoIn (length m.bank.terms) f.todo) m.frames.items number f got st.frames) in
    let hs = goal_list (in_scope i.values f.place.values.types i.goals_of) in
    subst (λ es. TakesOne m n a (look u k P height (Go (with_goals b es)))) (sym i.whole)
    (tg a (with_goals b i.behind) i.goals_of i.values st pl (all_at (λ (f : Frame). IsPlaceAt (lists_of m) a f.place) m.frames.items number f got pl)
    l i.are i.scope (record { goals = i.reads; next = w.next; next_type = w.next_type })
    (front_apart a f.place hs i.behind (subst IsApartFirst i.whole af) (some_goals m.bank (shown m.table) span.from span.to i.goals_of i.values f.place.values.types i.are l)) u k height P)

pub no_entries : (m : Machine) (a : Around) (o : Option ℕ) (es : List Entry) → o ≡ None → Reads m a o es → IsApartFirst es → ⊥
no_entries m a o es e (no_frame q z) h = subst IsApartFirst z h
no_entries m a o es e (a_frame i g gs rest q x k r z) h = absurd (cc)

pub term_taken : (m n : Machine) (number : ℕ) (f : Frame) (u : TermId) → m.branch.goals ≡ Some number → slice_get m.frames.items number ≡ Some f → f.todo ≡ Todo.Term u → TakesBranch m n
term_taken m n number f u g got t a b st pl w af v k height P = absurd (term_first m a number f got u b.goals t (subst (λ o. Reads m a o b.goals) g w.goals) af)
