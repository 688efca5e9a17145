-- A goal that is taken apart into what the definition's look at it tells, as the bindings read it, is one move of the definition.
use Rattle.std.proofs.Common.{◌≡◌, ℕ, suc, ◌+◌, ◌-◌, ◌≤◌, List, [], ◌∷◌, length, refl, sym, ap, ◌∙◌, subst, arith, Bool}
use Rattle.lp_model.specs.Branch.{Answer, Branch, Go, Task}
use Rattle.lp_model.specs.Flat.{Clause}
use Rattle.lp_model.specs.Search.{look}
use Rattle.lp_model.specs.Skeleton.{Inner, Parts, State, View, move, move_at, row_limit}
use Rattle.lp_model.specs.Unify.{unit_limit}
use Rattle.lp_model.specs.declared.ending.Ending.TheVariants.{Deep}
use Rattle.lp_plain.specs.declared.machine.Machine.{Machine}
use Rattle.lp_plain.specs.declared.outcome.Turn.{Turn}
use Rattle.lp_plain.specs.Entries.{Around, ArePartsOf}
use Rattle.lp_plain.specs.Moving.{Query, BindsNone, IsCounted, IsMoved, IsRunning, PutsWith, mark_in, quiet}
use Rattle.lp_plain.specs.Stacks.{base_of}
use Rattle.lp_plain.specs.Taking.{TakesOne}
use Rattle.lp_plain.proofs.Counted.{at_limit}
use Rattle.lp_plain.proofs.LooksUnder.{IsViewUnder, one_part, two_parts}
use Rattle.lp_plain.proofs.QuietMoves.{after_parts, parts_move}
use Rattle.lp_plain.proofs.Running.{running_more, running_still}

module _ (qv : Query) (m n : Machine) (a : Around) (raw : Branch) (s : State Task) (h : IsRunning qv m a raw s) (rest : Branch) (same : rest.next ≡ raw.next) (w : ℕ) (ea : s.answers ≡ suc w)
    (go : (Answer → Bool) → State Task → Inner) (enough : ℕ) (P : List Clause) (view seen : View Task Answer) (looked : look unit_limit enough P (length h.rest) (Go h.at_work) ≡ seen)
    (views : IsViewUnder qv m.bank h.closing (mark_in (base_of m.denied) h.above.raws) (base_of m.denied) (length m.choices.items) m.branch.pairs.items rest view seen) where
  module _ (t : TakesOne m n a view) (bn : BindsNone m n) (pw : PutsWith m n) where
    abbrev left : ℕ
    left = row_limit - n.counts.row

    row_is : s.row ≡ suc left
    row_is =
        let r = h.counted.row in
        let l = t.quiet.row in
        let c : n.counts.row ≡ m.counts.row + 1 = ap (λ x. x.row) t.quiet.counts in
        omega (arith, r, l, c)

    counted : (stack : List Task) → IsCounted n (after_parts go (look unit_limit enough P) s w left stack)
    counted stack = record {
      steps = h.counted.steps ∙ ap (λ x. x.limit - x.steps) (sym t.quiet.counts);
      rows = h.counted.rows;
      row = refl;
      lost = h.counted.lost ∙ ap (λ x. x.lost) (sym t.quiet.counts);
    }

    by_view : (v : View Task Answer) → v ≡ view → IsViewUnder qv m.bank h.closing (mark_in (base_of m.denied) h.above.raws) (base_of m.denied)
        (length m.choices.items) m.branch.pairs.items rest v seen →
        IsMoved quiet qv Turn.On n (move go (look unit_limit enough P) s) s
    by_view v q (one_part lv b d x y l u) =
        let parts = subst (ArePartsOf m n t.around) (sym q ∙ x) t.parts in
        let br = parts.0 in
        let bx = br.next in
        let mx = h.next ∙ sym same in (
          after_parts go (look unit_limit enough P) s w left (Go d ∷ h.rest),
          parts_move go (look unit_limit enough P) s w left (Go h.at_work) (Go d) h.rest [] ea row_is h.stack (looked ∙ y),
          record {
            around = t.around;
            raw = b;
            goals = br.goals;
            running = running_still qv m n a t.around raw s h t.stands t.placed t.quiet.on t.later bn parts.1 lv b d (after_parts go (look unit_limit enough P) s w left (Go d ∷ h.rest)) u
                (omega (arith, bx, mx, l)) br.next br.next_type refl (counted (Go d ∷ h.rest));
          },
          sym ea,
          refl,
        )
    by_view v q (two_parts lv b d c c' x y p r u o) =
        let parts = subst (ArePartsOf m n t.around) (sym q ∙ x) t.parts in
        let br = parts.0 in
        let ch = parts.1.1 in
        let at = parts.1.2 in
        let bx = br.next in
        let mx = h.next ∙ sym same in
        let kp = t.kept parts.1.0 ch in (
          after_parts go (look unit_limit enough P) s w left (Go d ∷ Go c' ∷ h.rest),
          parts_move go (look unit_limit enough P) s w left (Go h.at_work) (Go d) h.rest (Go c' ∷ []) ea row_is h.stack (looked ∙ y),
          record {
            around = t.around;
            raw = b;
            goals = br.goals;
            running = running_more qv m n a t.around raw s h t.stands t.placed t.quiet.on t.later bn lv parts.1.0 ch b d c c' kp.0 kp.1 at (pw parts.1.0 ch) u o (mx ∙ r)
                (after_parts go (look unit_limit enough P) s w left (Go d ∷ Go c' ∷ h.rest)) (omega (arith, bx, mx, p)) br.next br.next_type refl (counted (Go d ∷ Go c' ∷ h.rest));
          },
          sym ea,
          refl,
        )

    pub view_moves : IsMoved quiet qv Turn.On n (move go (look unit_limit enough P) s) s
    view_moves = by_view view refl views

  -- a million were taken apart
  some_parts : IsViewUnder qv m.bank h.closing (mark_in (base_of m.denied) h.above.raws) (base_of m.denied) (length m.choices.items)
      m.branch.pairs.items rest view seen → (ts : List Task) × (seen ≡ Parts ts)
  some_parts (one_part lv b d x y l u) = (Go d ∷ [], y)
  some_parts (two_parts lv b d c c' x y p r u o) = (Go d ∷ Go c' ∷ [], y)

  pub view_stops : 1000000 ≤ m.counts.row → IsMoved quiet qv (Turn.Ended Deep) n (move go (look unit_limit enough P) s) s
  view_stops l =
      let r = h.counted.row in
      let zero_row : s.row ≡ 0 = omega (arith, r, l) in
      let q = some_parts views in (
        refl,
        (λ i. move_at go (look unit_limit enough P) s.steps (ea i) s.given s.rows (zero_row i) s.lost (h.stack i)) ∙
            at_limit go (look unit_limit enough P) s.steps w s.given s.rows s.lost (Go h.at_work) h.rest q.0 (looked ∙ q.1),
      )
