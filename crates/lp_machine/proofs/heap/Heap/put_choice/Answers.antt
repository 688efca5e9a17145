use Rattle.std.proofs.Common.{refl, sym, subst}
use Rattle.lp_machine.specs.Kept.{AreMarks}
use Rattle.lp_machine.proofs.Marks.{one_pushed, by_outcome, on_ok_then, kept_from, all_taken}
use Rattle.lp_machine.proofs.heap.Heap.put_choice.Goals as goal

pub invariant_of-self : goal.invariant_of-self
invariant_of-self c = by_outcome c.push.result c.push.ensures.pushed c.push.ensures.unchanged
    (λ e. one_pushed c.self.inside.store c.self.inside.choices c.push.new.self _ e c.mark.ensures.lengths c.mark.ensures.mark c.self.invariant)
    (λ e. subst (AreMarks c.self.inside.store) (sym e) c.self.invariant)

pub returns : goal.returns
returns c = record {
  kept = on_ok_then c.push.result c.push.ensures.pushed (λ e. (
    record { store = c.mark.result; delayed = c.mark-2.result; assumed = c.point.result; level = c.args.level; goals = c.args.goals; untried = c.args.untried },
    kept_from _ _ _ _ _ _ _ c.self.view_is (record {
      choices = e;
      store = c.mark.ensures.same;
      delayed = all_taken c.self.inside.delayed c.mark-2.result c.mark-2.ensures;
      assumptions = c.point.ensures.same;
      is_point = c.point.ensures.point;
      same_level = refl;
      same_goals = refl;
      same_untried = refl;
    }),
  ));
}
