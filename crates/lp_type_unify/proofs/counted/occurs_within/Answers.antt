use Rattle.std.proofs.Common.{◌≡◌, ◌∙◌, suc, length, sym, arith}
use Rattle.lp_term.specs.Nodes.{type_tree}
use Rattle.lp_type_unify.specs.Reading.{reads}
use Rattle.lp_type_unify.specs.Looking.{visited_some, read_stack}
use Rattle.lp_type_unify.proofs.Stacks.{Reads, stack_off}
use Rattle.lp_type_unify.proofs.Binds.{loose}
use Rattle.lp_type_unify.proofs.Costs.{stack_visits, look_falls, look_found, look_visits, look_there, look_last}
use Rattle.lp_type_unify.proofs.counted.occurs_within.Goals as goal

pub returns-then-rest-eq0 : goal.returns-then-rest-eq0
returns-then-rest-eq0 c =
    let τ = type_tree c.args.bank.now in
    let θ = reads c.args.bank.now c.args.bindings.now.made in
    let off = stack_off τ θ c.types.stack.items c.pop.new.self.items c.in-Some.next c.in-Some.ensures.items in
    let some = stack_visits c.args.variable (Reads τ θ c.in-Some.next) (read_stack τ θ c.types.stack.items) (read_stack τ θ c.pop.new.self.items) off in
    let total = c.types.invariant.spent in
    let none = c.if-rest-eq0.true in
    omega (arith, some, total, none)

pub returns-then-branch : goal.returns-then-branch
returns-then-branch c =
    let τ = type_tree c.args.bank.now in
    let n = length c.args.bank.now.types in
    let θ = reads c.args.bank.now c.args.bindings.now.made in
    let off = stack_off τ θ c.types.stack.items c.pop.new.self.items c.in-Some.next c.in-Some.ensures.items in
    let l = rw c.if-branch.true at (c.in_ok-look.ensures.looked θ (loose τ n _ θ _ c.requires.kept c.resolve-top.ensures.unbound)) in
    let there = look_there c.args.variable (Reads τ θ c.in-Some.next) (Reads τ θ c.resolve-top.result) (read_stack τ θ c.types.stack.items) (read_stack τ θ c.pop.new.self.items) off c.resolve-top.ensures.same l in
    let last = look_last c.args.variable (Reads τ θ c.in-Some.next) (Reads τ θ c.resolve-top.result) (read_stack τ θ c.types.stack.items) (read_stack τ θ c.pop.new.self.items) off c.resolve-top.ensures.same l in
    let total = c.types.invariant.spent in
    let some = c.if-rest-eq0.false in
    (sym c.types.invariant.found ∙ there, omega (arith, last, total, some))

pub types-smaller : goal.types-smaller
types-smaller c =
    let τ = type_tree c.args.bank.now in
    let n = length c.args.bank.now.types in
    let θ = reads c.args.bank.now c.args.bindings.now.made in
    let off = stack_off τ θ c.types.stack.items c.pop.new.self.items c.in-Some.next c.in-Some.ensures.items in
    let l = rw c.if-branch.false at (c.in_ok-look.ensures.looked θ (loose τ n _ θ _ c.requires.kept c.resolve-top.ensures.unbound)) in
    look_falls c.args.variable (Reads τ θ c.in-Some.next) (Reads τ θ c.resolve-top.result) (read_stack τ θ c.types.stack.items) (read_stack τ θ c.pop.new.self.items) (read_stack τ θ c.look.new.stack.items) off c.resolve-top.ensures.same l

pub types-preserved : goal.types-preserved
types-preserved c =
    let τ = type_tree c.args.bank.now in
    let n = length c.args.bank.now.types in
    let θ = reads c.args.bank.now c.args.bindings.now.made in
    let x = c.args.variable in
    let all = read_stack τ θ c.types.stack.items in
    let new = read_stack τ θ c.look.new.stack.items in
    let off = stack_off τ θ c.types.stack.items c.pop.new.self.items c.in-Some.next c.in-Some.ensures.items in
    let l = rw c.if-branch.false at (c.in_ok-look.ensures.looked θ (loose τ n _ θ _ c.requires.kept c.resolve-top.ensures.unbound)) in
    let found = look_found x (Reads τ θ c.in-Some.next) (Reads τ θ c.resolve-top.result) all (read_stack τ θ c.pop.new.self.items) new off c.resolve-top.ensures.same l in
    let visits : visited_some x all ≡ suc (visited_some x new) = look_visits x (Reads τ θ c.in-Some.next) (Reads τ θ c.resolve-top.result) all (read_stack τ θ c.pop.new.self.items) new off c.resolve-top.ensures.same l in
    let total = c.types.invariant.spent in
    let some = c.if-rest-eq0.false in
    record {
      stacked = c.in_ok-look.ensures.stacked;
      found = found ∙ c.types.invariant.found;
      spent = omega (arith, visits, total, some);
    }
