-- A flattened goal that is taken apart is one move of the definition, all bindings put in.
use Rattle.std.proofs.Common.{◌≡◌, ℕ, suc, ◌≤◌, List, [], ◌∷◌, length, refl, sym, ap, subst, arith, Bool, Option}
use Rattle.lp_calculus.specs.Term.{Term, atom, logic}
use Rattle.lp_term.specs.Nodes.{Nodes}
use Rattle.lp_model.specs.Branch.{Answer, Branch, Entry, Go, Task}
use Rattle.lp_model.specs.Flat.{Clause, Goal, Atomic, Cut, Either, Exists, Forall, Assume, Not}
use Rattle.lp_model.specs.Pair.{closed}
use Rattle.lp_model.specs.Search.{look, look_branch, look_goal, with_goals}
use Rattle.lp_model.specs.Skeleton.{Inner, State, View, move}
use Rattle.lp_model.specs.Unify.{unit_limit}
use Rattle.lp_model.specs.declared.ending.Ending.TheVariants.{NoMore, NoMoreCut, Enough, Steps, Flexible, Arithmetic, OpenNot, Deep}
use Rattle.lp_pattern.specs.Under.{ValueIs}
use Rattle.lp_plain.specs.declared.frame.Place.{Place}
use Rattle.lp_plain.specs.declared.machine.Counts.{Counts}
use Rattle.lp_plain.specs.declared.machine.Machine.{Machine}
use Rattle.lp_plain.specs.declared.outcome.Turn.{Turn}
use Rattle.lp_plain.specs.declared.table.Flat.{Flat}
use Rattle.lp_plain.specs.Apart.{IsApart}
use Rattle.lp_plain.specs.Entries.{Around, entry_at}
use Rattle.lp_plain.specs.Moving.{Query, AreEntriesUnder, BindsNone, IsAtGoal, IsMoved, IsPlain, IsPlainFirst, IsRunning, MovesTo, PutsWith, mark_in, quiet}
use Rattle.lp_plain.specs.Resuming.{AreKnownEntries}
use Rattle.lp_plain.specs.Stacks.{base_of}
use Rattle.lp_plain.specs.Tables.{IsGoal, Never, Shown, shown}
use Rattle.lp_plain.specs.Taking.{IsApartFlat, IsTakenApart, TakesApart, TakesOne, goal_in}
use Rattle.lp_plain.proofs.Counted.{flat_kind}
use Rattle.lp_plain.proofs.CutMoves.{IsSplit, split_under}
use Rattle.lp_plain.proofs.FirstGoals.{kind_in}
use Rattle.lp_plain.proofs.LooksUnder.{IsViewUnder, parts_under}
use Rattle.lp_plain.proofs.ViewMoves.{view_moves, view_stops}

-- what is neither atomic nor negated nor a cut
apart_of : (σ : ℕ → Term) (p : Place) (g : Goal) → IsPlain (goal_in σ p.values.types g) → (g ≡ Cut → ⊥) → IsTakenApart (goal_in σ p.values.types g)
apart_of σ p (Atomic t) k n = absurd k
apart_of σ p Cut k n = absurd (n refl)
apart_of σ p (Either gs hs) k n = tt
apart_of σ p (Exists T gs) k n = tt
apart_of σ p (Forall T gs) k n = tt
apart_of σ p (Assume w cs gs) k n = tt
apart_of σ p (Not w gs) k n = absurd k

no_cut : (b : Nodes) (t : Shown) (flat : Flat) (g : Goal) → IsGoal b Never t flat g → (flat ≡ Flat.Cut → ⊥) → g ≡ Cut → ⊥
no_cut b t flat (Atomic u) h k e = absurd (cc)
no_cut b t flat Cut h k e = k h
no_cut b t flat (Either gs hs) h k e = absurd (cc)
no_cut b t flat (Exists T gs) h k e = absurd (cc)
no_cut b t flat (Forall T gs) h k e = absurd (cc)
no_cut b t flat (Assume w cs gs) h k e = absurd (cc)
no_cut b t flat (Not w gs) h k e = absurd (cc)

module _ (qv : Query) (m n : Machine) (a : Around) (raw : Branch) (s : State Task) (h : IsRunning qv m a raw s) (e : Entry) (es : List Entry) (goals : raw.goals ≡ e ∷ es) (k : IsTakenApart e.goal)
    (w : ℕ) (ea : s.answers ≡ suc w) (go : (Answer → Bool) → State Task → Inner) (enough : ℕ) (P : List Clause) where
  abbrev base : ℕ
  base = base_of m.denied

  abbrev f : ℕ → ℕ
  f = mark_in base h.above.raws

  abbrev rest : Branch
  rest = with_goals raw es

  sp : IsSplit h.closing f base (length m.choices.items) e es h.at_work.goals
  sp = split_under h.closing f base (length m.choices.items) e es h.at_work.goals (subst (λ x. AreEntriesUnder h.closing f base (length m.choices.items) x h.at_work.goals) goals h.under.goals)

  abbrev behind : Branch
  behind = with_goals h.at_work sp.rest

  abbrev seen : View Task Answer
  seen = look_goal unit_limit enough P (length h.rest) sp.first behind sp.first.goal

  looked : look unit_limit enough P (length h.rest) (Go h.at_work) ≡ seen
  looked = ap (look_branch unit_limit enough P (length h.rest) h.at_work) sp.whole

  new_variable : (l : ℕ) → closed h.closing (atom (logic rest.next l)) ≡ atom (logic rest.next l)
  new_variable l =
      let x = h.next in
      subst (λ o. ValueIs m.bank h.closing rest.next o) (h.reading.unbound rest.next (omega (arith, x))) (h.reading.reading.terms rest.next) l

  known_all : AreKnownEntries h.levels raw.next h.closing (e ∷ es)
  known_all = subst (λ x. AreKnownEntries h.levels raw.next h.closing x) goals h.under.known.goals

  views : IsViewUnder qv m.bank h.closing f base (length m.choices.items) m.branch.pairs.items rest (look_goal 0 0 [] 0 e rest e.goal) seen
  views =
      parts_under qv h.levels m.bank h.closing h.reading.shut f base (length m.choices.items) m.branch.pairs.items e sp.first rest behind
      sp.entry.place sp.entry.mark sp.entry.low sp.entry.high (record {
        goals = sp.others;
        next = h.under.next;
        next_type = h.under.next_type;
        types = h.under.types;
        values = h.under.values;
        pairs = h.under.pairs;
        known = record { goals = known_all.1; values = h.under.known.values; pairs = h.under.known.pairs; free = h.under.known.free };
      }) known_all.0 0 0 0 unit_limit enough (length h.rest) [] P new_variable e.goal sp.first.goal known_all.0.0 k sp.entry.goal

  pub apart_moves : TakesOne m n a (look_goal 0 0 [] 0 e rest e.goal) → BindsNone m n → PutsWith m n → IsMoved quiet qv Turn.On n (move go (look unit_limit enough P) s) s
  apart_moves = view_moves qv m n a raw s h rest refl w ea go enough P (look_goal 0 0 [] 0 e rest e.goal) seen looked views

  -- a million were taken apart
  pub apart_stops : 1000000 ≤ m.counts.row → IsMoved quiet qv (Turn.Ended Deep) n (move go (look unit_limit enough P) s) s
  apart_stops = view_stops qv m n a raw s h rest refl w ea go enough P (look_goal 0 0 [] 0 e rest e.goal) seen looked views

-- by what the goal is in the table
module _ (qv : Query) (m n : Machine) (p : Place) (flat : Flat) (o : Option ℕ) (turn : Turn) (taken : turn ≡ Turn.On → TakesApart m n p flat o)
    (none : turn ≡ Turn.On → IsApartFlat flat → BindsNone m n)
    (aside : turn ≡ Turn.On → IsApartFlat flat → PutsWith m n) (nc : flat ≡ Flat.Cut → ⊥) (a : Around) (raw : Branch) (s : State Task) (h : IsRunning qv m a raw s) (at : IsAtGoal m a p flat o raw)
    (pf : IsPlainFirst raw.goals) where
  abbrev goal : Goal
  goal = goal_in at.values p.values.types at.goal

  plain : IsPlain goal
  plain = subst IsPlainFirst at.goals pf

  kind : IsTakenApart goal
  kind = apart_of at.values p at.goal plain (no_cut m.bank (shown m.table) flat at.goal at.is nc)

  flat_is : IsApartFlat flat
  flat_is = flat_kind m.bank (shown m.table) flat at.goal at.is (kind_in at.values p.values.types at.goal kind)

  goes_on : turn ≡ Turn.On → MovesTo quiet qv Turn.On n s
  goes_on e k ea go enough P =
      apart_moves qv m n a raw s h (entry_at a p goal) at.rest at.goals kind k ea go enough P
      (taken e a at.goal at.values (with_goals raw at.rest) h.above.done.stands h.placed at.place (kind_in at.values p.values.types at.goal kind) at.is at.at
      (record { goals = at.reads; next = h.next; next_type = h.next_type }) 0 0 0 []) (none e flat_is) (aside e flat_is)

  by_count : (x : Turn) → x ≡ turn → (new : Counts) → IsApart x m.counts new → MovesTo quiet qv x n s
  by_count Turn.On e new c = goes_on (sym e)
  by_count Turn.Back e new c = absurd c
  by_count Turn.Answered e new c = absurd c
  by_count (Turn.Ended Deep) e new c = λ k ea go enough P. apart_stops qv m n a raw s h (entry_at a p goal) at.rest at.goals kind k ea go enough P c.0
  by_count (Turn.Ended NoMore) e new c = absurd c
  by_count (Turn.Ended NoMoreCut) e new c = absurd c
  by_count (Turn.Ended Enough) e new c = absurd c
  by_count (Turn.Ended Steps) e new c = absurd c
  by_count (Turn.Ended Flexible) e new c = absurd c
  by_count (Turn.Ended (Arithmetic x)) e new c = absurd c
  by_count (Turn.Ended OpenNot) e new c = absurd c

  pub part_moves : (new : Counts) → IsApart turn m.counts new → MovesTo quiet qv turn n s
  part_moves new c = by_count turn refl new c
