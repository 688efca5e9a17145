use Rattle.std.proofs.Common.{arith, add-one, [], ◌∷◌, refl, ap, ◌∙◌}
use Rattle.lp_term.specs.Nodes.{tree}
use Rattle.lp_term.proofs.Trees.{extends_same, extends-trans}
use Rattle.lp_cert.specs.Written.{node_of}
use Rattle.lp_cert.specs.declared.work.Task.TheVariants as task
use Rattle.lp_cert.proofs.Stepping.{task_pushed}
use Rattle.lp_cert.proofs.Proving.{nodes_next, nodes_prove}
use Rattle.lp_cert.proofs.Ready.{work_pushed}
use Rattle.lp_cert.proofs.Judged.{deep_stepped, idle_pushed, large_at, no_stepped, node_inside, on_stepped, refuted_at, run_on, unfinished, pushed_to}
use Rattle.lp_cert.proofs.work.Work.proves.Goals as goal

pub loop-node-init : goal.loop-node-init
loop-node-init c = record {
  kept = extends_same c.args.bank.now;
  known = c.requires.known;
  theory = λ w g all. refl;
  ready = λ w g all. work_pushed c.args.bank.now c.args.self.now (pushed_to c.args.self.now c.push.new.self) (task.Prove c.args.goal) (record { theory = refl; eigens = refl; assumed = refl; tasks = c.in_ok-push.ensures.items }) g w;
  runs = λ idle w g all b h. idle_pushed b c.args.self.now (pushed_to c.args.self.now c.push.new.self) c.args.goal idle (record { theory = refl; eigens = refl; assumed = refl; tasks = c.in_ok-push.ensures.items });
  goes = λ b g ns h. task_pushed b c.args.self.now c.push.new.self.items (task.Prove c.args.goal) ns c.in_ok-push.ensures.items h;
}

pub loop-node-preserved : goal.loop-node-preserved
loop-node-preserved c = record {
  kept = extends-trans _ _ _ c.loop-node.invariant.kept c.in_ok-turn.ensures.kept;
  known = c.in_ok-turn.ensures.known;
  theory = λ w g all. (on_stepped c.step.new.bank c.loop-node.self c.step.new.self (λ b. node_of b c.node-item.result) c.in_ok-turn.turn c.in-On.is
      (c.in_ok-turn.ensures.stepped (c.loop-node.invariant.ready w g all) (node_inside c.args.bank.now c.loop-node.bank c.args.nodes.now
      c.loop-node.node-index c.node-item.result c.loop-node.invariant.kept (omega (arith, c.loop-node-test.true)) c.node-item.is all))).0 ∙
      c.loop-node.invariant.theory w g all;
  ready = λ w g all. (on_stepped c.step.new.bank c.loop-node.self c.step.new.self (λ b. node_of b c.node-item.result) c.in_ok-turn.turn c.in-On.is
      (c.in_ok-turn.ensures.stepped (c.loop-node.invariant.ready w g all) (node_inside c.args.bank.now c.loop-node.bank c.args.nodes.now
      c.loop-node.node-index c.node-item.result c.loop-node.invariant.kept (omega (arith, c.loop-node-test.true)) c.node-item.is all))).1;
  runs = λ idle w g all b h.
      let s = on_stepped c.step.new.bank c.loop-node.self c.step.new.self (λ b. node_of b c.node-item.result) c.in_ok-turn.turn c.in-On.is
      (c.in_ok-turn.ensures.stepped (c.loop-node.invariant.ready w g all) (node_inside c.args.bank.now c.loop-node.bank c.args.nodes.now
      c.loop-node.node-index c.node-item.result c.loop-node.invariant.kept (omega (arith, c.loop-node-test.true)) c.node-item.is all)) in
      run_on b c.loop-node.self c.step.new.self c.args.self.now.theory (tree b c.args.goal.0) c.args.nodes.now c.loop-node.node-index _ c.node-item.result (add-one c.loop-node.node-index) (omega (arith, c.loop-node-test.true)) c.node-item.is (c.loop-node.invariant.theory w g all)
      (c.loop-node.invariant.runs idle w g all b (extends-trans _ _ _ c.in_ok-turn.ensures.kept h)) (s.2 b h);
  goes = λ b g ns h.
      nodes_next b c.args.self.now (tree b c.args.goal.0) c.args.nodes.now c.loop-node.node-index _ c.node-item.result ns (add-one c.loop-node.node-index) (omega (arith, c.loop-node-test.true)) c.node-item.is
      (c.loop-node.invariant.goes b (extends-trans _ _ _ c.in_ok-turn.ensures.kept g) (node_of b c.node-item.result ∷ ns) (c.in_ok-turn.ensures.goes c.in-On.is b g ns h));
}

pub returns-in-None-clause-proves : goal.returns-in-None-clause-proves
returns-in-None-clause-proves c = λ e idle b g. nodes_prove b c.args.self.now (tree b c.args.goal.0) c.args.nodes.now c.loop-node.node-index idle (omega (arith, c.loop-node-test.false)) (c.loop-node.invariant.goes b g [] (c.next.ensures.none c.in-None.is b))

pub returns-in-No-clause-refuted : goal.returns-in-No-clause-refuted
returns-in-No-clause-refuted c = λ e idle w g all b h p.
    let s = no_stepped c.step.new.bank c.loop-node.self c.step.new.self (λ b. node_of b c.node-item.result) c.in_ok-turn.turn c.in-No.is
    (c.in_ok-turn.ensures.stepped (c.loop-node.invariant.ready w g all) (node_inside c.args.bank.now c.loop-node.bank c.args.nodes.now
    c.loop-node.node-index c.node-item.result c.loop-node.invariant.kept (omega (arith, c.loop-node-test.true)) c.node-item.is all)) in
    refuted_at b c.loop-node.self c.args.self.now.theory (tree b c.args.goal.0) c.args.nodes.now c.loop-node.node-index c.node-item.result (omega (arith, c.loop-node-test.true)) c.node-item.is (c.loop-node.invariant.theory w g all)
    (c.loop-node.invariant.runs idle w g all b (extends-trans _ _ _ c.in_ok-turn.ensures.kept h)) (s b h) p

pub returns-in-Deep-clause-large : goal.returns-in-Deep-clause-large
returns-in-Deep-clause-large c = λ e idle w g all b h.
    let s = deep_stepped c.step.new.bank c.loop-node.self c.step.new.self (λ b. node_of b c.node-item.result) c.in_ok-turn.turn c.in-Deep.is
    (c.in_ok-turn.ensures.stepped (c.loop-node.invariant.ready w g all) (node_inside c.args.bank.now c.loop-node.bank c.args.nodes.now
    c.loop-node.node-index c.node-item.result c.loop-node.invariant.kept (omega (arith, c.loop-node-test.true)) c.node-item.is all)) in
    large_at b c.loop-node.self c.args.self.now.theory (tree b c.args.goal.0) c.args.nodes.now c.loop-node.node-index c.node-item.result (omega (arith, c.loop-node-test.true)) c.node-item.is (c.loop-node.invariant.theory w g all)
    (c.loop-node.invariant.runs idle w g all b (extends-trans _ _ _ c.in_ok-turn.ensures.kept h)) (s b h)

pub returns-in-Some-clause-refuted : goal.returns-in-Some-clause-refuted
returns-in-Some-clause-refuted c = λ e idle w g all b h p.
    unfinished b c.loop-node.self c.args.self.now.theory (tree b c.args.goal.0) c.args.nodes.now c.loop-node.node-index _ _ (omega (arith, c.loop-node-test.false)) (c.loop-node.invariant.theory w g all) (c.loop-node.invariant.runs idle w g all b h)
    (ap (λ x. x.jobs) (c.in-Some.ensures.rest.1 b)) p
