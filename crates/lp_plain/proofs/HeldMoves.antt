-- An answer of a negated goal's search: the search that waited is to go back, or the goal is open.
use Rattle.std.proofs.Common.{◌≡◌, ℕ, suc, ◌-◌, List, [], ◌∷◌, length, take, refl, sym, ap, ◌∙◌, subst, arith, Bool, true, false, true≢false, nat_eq, Option, None, Some}
use Rattle.std.specs.Prelude.{IfSome, slice_get}
use Rattle.std.proofs.lemmas.Bool.{eq-eqb, eqb-true, ne_eqb}
use Rattle.lp_model.specs.Branch.{Task}
use Rattle.lp_model.specs.Pair.{Closing, Pair}
use Rattle.lp_model.specs.Search.{has_no_pairs}
use Rattle.lp_model.specs.Skeleton.{State}
use Rattle.lp_model.specs.declared.ending.Ending.TheVariants.{OpenNot}
use Rattle.lp_model.specs.declared.answer.Pair.{Pair as Numbers}
use Rattle.lp_pattern.specs.Turning.{ArePairsFor}
use Rattle.lp_term.specs.Nodes.{Nodes}
use Rattle.lp_plain.specs.declared.choice.Choice.{Choice}
use Rattle.lp_plain.specs.declared.choice.Denial.{Denial}
use Rattle.lp_plain.specs.declared.machine.Machine.{Machine}
use Rattle.lp_plain.specs.declared.outcome.Turn.{Turn}
use Rattle.lp_plain.specs.Denials.{IsHeldBy, IsHeldTurn, searching_as, waiting_query, woken}
use Rattle.lp_plain.specs.Entries.{Around}
use Rattle.lp_plain.specs.Keeping.{IsAround}
use Rattle.lp_plain.specs.Moving.{AreOuter, IsBack, IsOuter, IsState, Query, Waiting}
use Rattle.lp_plain.proofs.AnswerMoves.{answer, answer_after, answer_notes, answer_tells}
use Rattle.lp_plain.proofs.Elsewhere.{held_alternatives}

none_left : (b : Nodes) (z : Closing) (qs : List Numbers) (ps : List Pair) → qs ≡ [] → ArePairsFor b z qs ps → nat_eq (length ps) 0 ≡ true
none_left b z [] [] e h = refl
none_left b z [] (p ∷ ps) e h = absurd h
none_left b z (q ∷ qs) ps e h = absurd (cc)

some_left : (b : Nodes) (z : Closing) (qs : List Numbers) (ps : List Pair) → (qs ≡ [] → ⊥) → ArePairsFor b z qs ps → nat_eq (length ps) 0 ≡ false
some_left b z [] ps e h = absurd (e refl)
some_left b z (q ∷ qs) [] e h = absurd h
some_left b z (q ∷ qs) (p ∷ ps) e h = ne_eqb (suc (length ps)) 0 (λ y. omega (arith, y))

-- a list that is found empty, or not
pub no_items : {X : Type 0} (n : ℕ) (xs : List X) (b : Bool) → b ≡ nat_eq n 0 → n ≡ length xs → b ≡ true → xs ≡ []
no_items n [] b e l t = refl
no_items n (x ∷ xs) b e l t = absurd (let z = eqb-true n 0 (sym e ∙ t) in omega (arith, z, l))

pub some_items : {X : Type 0} (n : ℕ) (xs : List X) (b : Bool) → b ≡ nat_eq n 0 → n ≡ length xs → b ≡ false → xs ≡ [] → ⊥
some_items n xs b e l f q = true≢false (sym (eq-eqb n 0 (l ∙ ap length q)) ∙ sym e ∙ f)

-- the search that waits, behind the alternative of this number
pub record IsWithin (ar : ℕ → ℕ) (m : Machine) (a : Around) (i : ℕ) (ws : List Waiting) : Type 0 where
  pub waiting : Waiting
  pub others : List Waiting
  pub outer : ws ≡ waiting ∷ others
  pub denial : Denial
  pub is : IsOuter ar m a i denial waiting others
  pub more : AreOuter ar m a denial.around others

pub within_of : (ar : ℕ → ℕ) (m : Machine) (a : Around) (o : Option ℕ) (i : ℕ) (ws : List Waiting) → o ≡ Some i → AreOuter ar m a o ws → IsWithin ar m a i ws
within_of ar m a o i ws e h = go ws (subst (λ x. AreOuter ar m a x ws) e h)
  where
    go : (ws : List Waiting) → AreOuter ar m a (Some i) ws → IsWithin ar m a i ws
    go [] k = absurd k
    go (w ∷ vs) k = record { waiting = w; others = vs; outer = refl; denial = k.0; is = k.1; more = k.2 }

module _ (qv : Query) (m : Machine) (s : State Task) (h : IsState qv m s) (none : m.branch.goals ≡ None) (number : ℕ) (inside : m.denied ≡ Some number) where
  within : IsWithin qv.arity m h.around number qv.outer
  within = within_of qv.arity m h.around m.denied number qv.outer inside h.running.above.inside.outer

  by_pairs : (turn : Turn) (n : Machine) (b : Bool) → has_no_pairs (answer qv m s h none) ≡ b → IsHeldTurn b turn n qv.arity s within.waiting within.others → IsHeldBy qv turn n s
  by_pairs turn n b e c = record {
    waiting = within.waiting;
    others = within.others;
    outer = within.outer;
    answer = answer qv m s h none;
    tells = λ k ea. (answer_notes qv m s h none k, answer_after qv m s h none k, λ go enough P. answer_tells qv m s h none k ea go enough P);
    comes = subst (λ x. IsHeldTurn x turn n qv.arity s within.waiting within.others) (sym e) c;
  }

  -- with residual pairs
  pub held_open : (n : Machine) → (m.branch.pairs.items ≡ [] → ⊥) → IsHeldBy qv (Turn.Ended OpenNot) n s
  held_open n some = let r = h.running in by_pairs (Turn.Ended OpenNot) n false (some_left m.bank r.closing m.branch.pairs.items r.at_work.pairs some r.under.pairs) tt

  -- without
  module _ (empty : m.branch.pairs.items ≡ []) (n : Machine) (cut : n.choices.items ≡ take number m.choices.items) (only : n ≡ searching_as m n)
      (counts : n.counts ≡ record m.counts { lost = n.counts.lost })
      (around : IfSome (slice_get m.choices.items number) (λ (c : Choice). IsAround c.untried n)) where
    abbrev w : Waiting
    w = within.waiting

    is_around : (n.denied ≡ within.denial.around) × (n.counts.lost ≡ within.denial.lost)
    is_around = subst (λ u. IsAround u n) within.is.denied (subst (λ o. IfSome o (λ (c : Choice). IsAround c.untried n)) within.is.there around)

    counts_are : n.counts ≡ record m.counts { lost = within.denial.lost }
    counts_are = counts ∙ ap (λ b. record m.counts { lost = b }) is_around.1

    back : IsBack (waiting_query qv.arity w within.others) n (woken w s.steps s.row w.rest)
    back = subst (λ z. IsBack (waiting_query qv.arity w within.others) z (woken w s.steps s.row w.rest)) (sym only) (record {
      around = h.around;
      above = held_alternatives qv m n h.around h.running.rest h.running.above number within.denial w within.others within.is within.more cut is_around.0;
      counted = record {
        steps = h.running.counted.steps ∙ ap (λ z. z.limit - z.steps) (sym counts_are);
        rows = refl;
        row = h.running.counted.row ∙ ap (λ z. 1000000 - z.row) (sym counts_are);
        lost = within.is.lost ∙ ap (λ z. z.lost) (sym counts_are);
      };
    })

    pub held_back : IsHeldBy qv Turn.Back n s
    held_back = let r = h.running in by_pairs Turn.Back n true (none_left m.bank r.closing m.branch.pairs.items r.at_work.pairs empty r.under.pairs) back
