use Rattle.std.proofs.Common.{ap, refl, ◌∙◌, ◌+◌}
use Rattle.std.specs.Prelude.{is_some}
use Rattle.lp_sig.proofs.Parameters.{listed_more, all_listed, numbered_more, all_numbered}
use Rattle.lp_sig.proofs.expand.Variables.parameters.Goals as goal

pub loop-spot-init : goal.loop-spot-init
loop-spot-init c = record { listed = λ name. ap is_some (c.open-variables.ensures.empty name); numbered = c.open-variables.ensures.empty; next = c.open-variables.ensures.first }

pub loop-spot-preserved : goal.loop-spot-preserved
loop-spot-preserved c = record {
  listed = listed_more c.loop-spot.variables _ c.args.source.now c.args.parameters.now c.loop-spot.spot-index _ c.spelled_at.result.now _ c.loop-spot-test.true c.spelled_at.ensures c.in_ok-add.ensures.added c.loop-spot.invariant.listed;
  numbered = numbered_more c.loop-spot.variables _ c.args.source.now c.args.parameters.now c.loop-spot.spot-index _ c.spelled_at.result.now
      c.in_ok-check_apart.ensures.taken c.loop-spot-test.true c.spelled_at.ensures c.loop-spot.invariant.next c.in_ok-add.ensures.added
      c.loop-spot.invariant.numbered;
  next = c.in_ok-add.ensures.next ∙ ap (λ n. n + 1) c.loop-spot.invariant.next;
}

pub returns-clause-held : goal.returns-clause-held
returns-clause-held c = all_listed c.loop-spot.variables _ c.args.source.now c.args.parameters.now c.loop-spot.spot-index c.loop-spot-test.false refl refl c.loop-spot.invariant.listed

pub returns-clause-numbered : goal.returns-clause-numbered
returns-clause-numbered c = all_numbered c.loop-spot.variables _ c.args.source.now c.args.parameters.now c.loop-spot.spot-index c.loop-spot-test.false refl refl c.loop-spot.invariant.numbered
