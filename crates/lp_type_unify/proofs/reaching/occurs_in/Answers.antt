use Rattle.std.proofs.Common.{◌∙◌, length, nat_eq, sym, arith}
use Rattle.std.proofs.lemmas.Grind.{common_steps}
use Rattle.indexmap.specs.IndexSet.{contains}
use Rattle.lp_calculus.specs.Types.{instance}
use Rattle.lp_term.specs.Nodes.{type_tree}
use Rattle.lp_type_unify.specs.Reading.{reads}
use Rattle.lp_type_unify.specs.Looking.{read_stack}
use Rattle.lp_type_unify.proofs.Stacks.{Reads, stack_off}
use Rattle.lp_type_unify.proofs.Binds.{loose}
use Rattle.lp_type_unify.proofs.Costs.{look_falls, look_found, look_there}
use Rattle.lp_type_unify.proofs.Sights.{met_skip, met_open, wanted_skip, wanted_open, honest_skip}
use Rattle.lp_type_unify.proofs.reaching.occurs_in.Goals as goal

pub types-preserved-then-not-branch : goal.types-preserved-then-not-branch
types-preserved-then-not-branch c =
    let τ = type_tree c.args.bank.now in
    let θ = reads c.args.bank.now c.args.bindings.now.made in
    let x = c.args.variable in
    let t = Reads τ θ c.in-Some.next in
    let all = read_stack τ θ c.types.stack.items in
    let ts = read_stack τ θ c.pop.new.self.items in
    let seen = contains nat_eq c.types.seen in
    let off = stack_off τ θ c.types.stack.items c.pop.new.self.items c.in-Some.next c.in-Some.ensures.items in
    let old = sym c.if-not-branch.true ∙ c.in_ok-mark.ensures.new in
    record {
      stacked = grind (arith, common_steps, c.in-Some.ensures.items, c.types.invariant.stacked);
      honest = λ h. c.types.invariant.honest (honest_skip x t all ts off h);
      wanted = λ h. wanted_skip x c.resolve-top.result.0 _ (λ i. instance θ (τ i)) seen t all ts old off c.resolve-top.ensures.same c.types.invariant.met (c.types.invariant.wanted h);
      met = met_skip x c.resolve-top.result.0 (λ i. instance θ (τ i)) seen (contains nat_eq c.mark.new.seen) t all ts c.in_ok-mark.ensures.marked old off c.resolve-top.ensures.same c.types.invariant.met;
    }

pub returns-then-branch : goal.returns-then-branch
returns-then-branch c =
    let τ = type_tree c.args.bank.now in
    let n = length c.args.bank.now.types in
    let θ = reads c.args.bank.now c.args.bindings.now.made in
    let off = stack_off τ θ c.types.stack.items c.pop.new.self.items c.in-Some.next c.in-Some.ensures.items in
    let l = rw c.if-branch.true at (c.in_ok-look.ensures.looked θ (loose τ n _ θ _ c.requires.kept c.resolve-top.ensures.unbound)) in
    sym (c.types.invariant.honest (look_there c.args.variable (Reads τ θ c.in-Some.next) (Reads τ θ c.resolve-top.result) (read_stack τ θ c.types.stack.items) (read_stack τ θ c.pop.new.self.items) off c.resolve-top.ensures.same l))

pub types-smaller : goal.types-smaller
types-smaller c =
    let τ = type_tree c.args.bank.now in
    let n = length c.args.bank.now.types in
    let θ = reads c.args.bank.now c.args.bindings.now.made in
    let off = stack_off τ θ c.types.stack.items c.pop.new.self.items c.in-Some.next c.in-Some.ensures.items in
    let l = rw c.if-branch.false at (c.in_ok-look.ensures.looked θ (loose τ n _ θ _ c.requires.kept c.resolve-top.ensures.unbound)) in
    look_falls c.args.variable (Reads τ θ c.in-Some.next) (Reads τ θ c.resolve-top.result) (read_stack τ θ c.types.stack.items) (read_stack τ θ c.pop.new.self.items) (read_stack τ θ c.look.new.stack.items) off c.resolve-top.ensures.same l

pub types-preserved : goal.types-preserved
types-preserved c =
    let τ = type_tree c.args.bank.now in
    let n = length c.args.bank.now.types in
    let θ = reads c.args.bank.now c.args.bindings.now.made in
    let x = c.args.variable in
    let t = Reads τ θ c.in-Some.next in
    let u = Reads τ θ c.resolve-top.result in
    let all = read_stack τ θ c.types.stack.items in
    let ts = read_stack τ θ c.pop.new.self.items in
    let new = read_stack τ θ c.look.new.stack.items in
    let seen = contains nat_eq c.types.seen in
    let off = stack_off τ θ c.types.stack.items c.pop.new.self.items c.in-Some.next c.in-Some.ensures.items in
    let l = rw c.if-branch.false at (c.in_ok-look.ensures.looked θ (loose τ n _ θ _ c.requires.kept c.resolve-top.ensures.unbound)) in
    record {
      stacked = c.in_ok-look.ensures.stacked;
      honest = λ h. c.types.invariant.honest (sym (look_found x t u all ts new off c.resolve-top.ensures.same l) ∙ h);
      wanted = λ h. wanted_open x _ t u all ts new off c.resolve-top.ensures.same l (c.types.invariant.wanted h);
      met = met_open x c.resolve-top.result.0 (λ i. instance θ (τ i)) seen (contains nat_eq c.mark.new.seen) t all ts new c.in_ok-mark.ensures.marked off c.resolve-top.ensures.same l c.types.invariant.met;
    }
