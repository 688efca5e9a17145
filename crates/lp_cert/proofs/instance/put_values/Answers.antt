use Rattle.std.proofs.Common.{◌-◌, add-one, arith, length, refl, slice_index_or}
use Rattle.lp_term.specs.Nodes.{tree}
use Rattle.lp_term.proofs.Trees.{extends_same, extends-trans}
use Rattle.lp_cert.proofs.Deriving.{read_again, some_is}
use Rattle.lp_cert.proofs.Putting.{put_step, put_whole}
use Rattle.lp_cert.proofs.Instances.{value_ready}
use Rattle.lp_cert.proofs.instance.put_values.Goals as goal

pub loop-done-init : goal.loop-done-init
loop-done-init c = record { kept = extends_same c.args.bank.now; known = c.requires.known; within = λ l. l; put = λ b e. refl }

pub loop-done-preserved : goal.loop-done-preserved
loop-done-preserved c = record {
  kept = extends-trans _ _ _ c.loop-done.invariant.kept c.in_ok-next.ensures.kept;
  known = c.in_ok-next.ensures.known;
  within = λ l. some_is _ c.in_ok-next.field-0 c.in-Some.next c.in-Some.is c.in_ok-next.ensures.within;
  put = λ b g.
      let l = c.loop-done-test.true in
      let vs = c.args.values.now in
      let j = length vs - 1 - c.loop-done.done in
      put_step b vs c.loop-done.done _ j (slice_index_or vs j (record { 0 = 0 })) (tree b c.args.term.0) (tree b c.loop-done.made.0) (tree b c.in-Some.next.0) (add-one c.loop-done.done) (omega (arith, l)) (read_again vs j (record { 0 = 0 }) (omega (arith, l)))
      (c.loop-done.invariant.put b (extends-trans _ _ _ c.in_ok-next.ensures.kept g)) (some_is _ c.in_ok-next.field-0 c.in-Some.next c.in-Some.is c.in_ok-next.ensures.put b g);
}

pub returns-clause-put : goal.returns-clause-put
returns-clause-put c = λ b g w. put_whole b c.args.values.now c.loop-done.done (tree b c.args.term.0) (tree b c.loop-done.made.0) (omega (arith, c.loop-done-test.false)) (c.loop-done.invariant.put b g) w

pub returns-in_default-clause-none : goal.returns-in_default-clause-none
returns-in_default-clause-none c = λ e l h.
    let i = c.loop-done.invariant in
    let vs = c.args.values.now in
    let v = value_ready c.args.bank.now c.loop-done.bank vs (length vs - 1 - c.loop-done.done) (record { 0 = 0 }) i.kept (omega (arith, c.loop-done-test.true)) h in
    c.in_ok-next.ensures.none c.in_default.is (i.within l) v.0 v.1

pub returns-clause-within : goal.returns-clause-within
returns-clause-within c = c.loop-done.invariant.within
