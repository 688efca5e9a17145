use Rattle.std.proofs.Common.{◌∙◌}
use Rattle.lp_pattern.proofs.ArgumentForms.{wanted_next, fewer_left}
use Rattle.lp_pattern.proofs.patterns.push_wanted.Goals as goal

pub loop-term-preserved : goal.loop-term-preserved
loop-term-preserved c = record {
  place = c.saturating_sub-place.ensures ∙ fewer_left c.args.count c.loop-term.place c.loop-term.yielded c.in-Some.term c.loop-term.invariant.place;
  items = wanted_next c.args.count c.loop-term.place c.loop-term.yielded c.in-Some.term c.args.left.now.items c.loop-term.left.items
      c.push.new.self.items _ c.loop-term.invariant.place c.loop-term.invariant.items c.in_ok-push.ensures.items
      (λ i. record { term = c.in-Some.term; place = c.saturating_sub-place.ensures i });
}
