use Rattle.std.proofs.Common.{length, nat_eq, arith}
use Rattle.indexmap.specs.IndexMap.{get}
use Rattle.lp_term.specs.Nodes.{type_tree}
use Rattle.lp_type_unify.specs.Reading.{reads}
use Rattle.lp_type_unify.proofs.Binds.{loose}
use Rattle.lp_type_unify.proofs.Costs.{stepped_bound}
use Rattle.lp_type_unify.proofs.counted.step.Goals as goal

pub returns-in_ok-step-in-Bind-clause-stepped : goal.returns-in_ok-step-in-Bind-clause-stepped
returns-in_ok-step-in-Bind-clause-stepped c =
    let τ = type_tree c.args.bank.now in
    let n = length c.args.bank.now.types in
    let θ = reads c.args.bank.now c.args.bindings.now.made in
    let some = c.if-left-eq0.false in
    let chosen = rw c.in-Bind.is at (c.choose.ensures θ (loose τ n (get nat_eq c.args.bindings.now.made) θ _ c.requires.kept c.resolve-one.ensures.unbound) (loose τ n (get nat_eq c.args.bindings.now.made) θ _ c.requires.kept c.resolve-other.ensures.unbound)) in
    stepped_bound c.in_ok-step-in-Bind.step c.args.bank.now τ n θ (reads c.args.bank.now c.bind_within.new.bindings.made) c.args.pair c.args.todo.now.items c.resolve-one.result c.resolve-other.result c.in-Bind.to c.in-Bind.variable c.args.left _
    c.resolve-one.ensures.same c.resolve-other.ensures.same chosen (omega (arith, some)) c.in_ok-step-in-Bind.ensures
