-- The goal in front, where it is known at run time, as the bindings read it.
use Rattle.std.proofs.Common.{◌≡◌, ℕ, suc, List, [], ◌∷◌, length, ap, ◌∙◌, subst, Bool, None}
use Rattle.lp_calculus.specs.Fill.{Within}
use Rattle.lp_calculus.specs.Term.{Term}
use Rattle.lp_model.specs.Branch.{Answer, Branch, Entry, Go, Task}
use Rattle.lp_model.specs.Flat.{Atomic, Clause}
use Rattle.lp_model.specs.Look.{head_normal}
use Rattle.lp_model.specs.Pair.{closed}
use Rattle.lp_model.specs.Search.{look, look_branch, look_goal, look_normal, with_goals}
use Rattle.lp_model.specs.Skeleton.{Inner, State, move, move_at, move_view}
use Rattle.lp_model.specs.Unify.{unit_limit}
use Rattle.lp_pattern.specs.Putting.{Known}
use Rattle.lp_plain.specs.declared.frame.Place.{Place}
use Rattle.lp_plain.specs.declared.machine.Machine.{Machine}
use Rattle.lp_plain.specs.Entries.{Around, HeadsTo, entry_at}
use Rattle.lp_plain.specs.Moving.{AreEntriesUnder, IsEntryUnder, IsRunning, IsWaiting, Query, mark_in}
use Rattle.lp_plain.specs.Resuming.{AreKnownEntries}
use Rattle.lp_plain.specs.Stacks.{base_of}
use Rattle.lp_plain.proofs.CutMoves.{split_under}
use Rattle.lp_plain.proofs.KnownForms.{heads_within}
use Rattle.lp_plain.proofs.QuietMoves.{by_lost}

module _ (qv : Query) (m : Machine) (a : Around) (raw : Branch) (s : State Task) (h : IsRunning qv m a raw s) (p : Place) (value : Term) (es : List Entry) where
  -- the first of the definition's entries, and the others
  pub record IsFront : Type 0 where
    pub goal : Term
    pub first : Entry
    pub rest : List Entry
    pub whole : h.at_work.goals ≡ first ∷ rest
    pub entry : IsEntryUnder h.closing (mark_in (base_of m.denied) h.above.raws) (base_of m.denied) (length m.choices.items) (entry_at a p (Atomic value)) first
    pub others : AreEntriesUnder h.closing (mark_in (base_of m.denied) h.above.raws) (base_of m.denied) (a.mark p.mark) es rest
    pub is : first.goal ≡ Atomic goal
    pub heads : HeadsTo (closed h.closing value) goal
    pub known : AreKnownEntries h.levels raw.next h.closing (entry_at a p (Atomic value) ∷ es)
    pub goal_known : Within (Known h.levels raw.next) 0 goal

  pub front_of : raw.goals ≡ entry_at a p (Atomic value) ∷ es → IsFront
  front_of e =
      let f = mark_in (base_of m.denied) h.above.raws in
      let sp = split_under h.closing f (base_of m.denied) (length m.choices.items) (entry_at a p (Atomic value)) es h.at_work.goals
      (subst (λ x. AreEntriesUnder h.closing f (base_of m.denied) (length m.choices.items) x h.at_work.goals) e h.under.goals) in
      let known = subst (λ x. AreKnownEntries h.levels raw.next h.closing x) e h.under.known.goals in
      record {
        goal = sp.entry.goal.0;
        first = sp.first;
        rest = sp.rest;
        whole = sp.whole;
        entry = sp.entry;
        others = sp.others;
        is = sp.entry.goal.2;
        heads = sp.entry.goal.1;
        known = known;
        goal_known = heads_within (Known h.levels raw.next) 0 (closed h.closing value) sp.entry.goal.0 sp.entry.goal.1 known.0.0;
      }

  -- the definition's look at it
  module _ (f : IsFront) (enough : ℕ) (P : List Clause) where
    pub front_look : look unit_limit enough P (length h.rest) (Go h.at_work) ≡ look_normal unit_limit enough P (length h.rest) f.first (with_goals h.at_work f.rest) (head_normal enough f.goal)
    front_look = ap (look_branch unit_limit enough P (length h.rest) h.at_work) f.whole ∙ ap (look_goal unit_limit enough P (length h.rest) f.first (with_goals h.at_work f.rest)) f.is

    pub front_waits : (w : ℕ) → s.answers ≡ suc w → (go : (Answer → Bool) → State Task → Inner) → head_normal enough f.goal ≡ None → IsWaiting (move go (look unit_limit enough P) s)
    front_waits w ea go e = (
      0,
      [],
      (λ i. move_at go (look unit_limit enough P) s.steps (ea i) s.given s.rows s.row s.lost (h.stack i)) ∙
          by_lost go (look unit_limit enough P) s.steps w s.given s.rows s.row s.lost (Go h.at_work) h.rest ∙
          ap (move_view go s.steps w s.given s.rows s.row s.lost h.rest) (front_look ∙ ap (look_normal unit_limit enough P (length h.rest) f.first (with_goals h.at_work f.rest)) e),
    )
