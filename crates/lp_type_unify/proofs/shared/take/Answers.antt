use Rattle.std.proofs.Common.{◌∙◌, length, nat_eq, sym}
use Rattle.indexmap.specs.IndexMap.{get}
use Rattle.lp_calculus.specs.Types.{instance}
use Rattle.lp_term.specs.Nodes.{type_tree}
use Rattle.lp_type_laws.proofs.Types.{instance-var}
use Rattle.lp_type_laws.proofs.Follows.{nothing_holds}
use Rattle.lp_calculus.specs.Types.{var}
use Rattle.lp_type_unify.specs.Reading.{reads}
use Rattle.lp_type_unify.proofs.Binds.{loose, loose_var}
use Rattle.lp_type_unify.proofs.States.{taken_dropped, taken_bound, taken_apart, unbound_side}
use Rattle.lp_type_unify.proofs.shared.take.Goals as goal

pub returns-in-Drop : goal.returns-in-Drop
returns-in-Drop c =
    let τ = type_tree c.args.bank.now in
    let n = length c.args.bank.now.types in
    let θ = reads c.args.bank.now c.args.bindings.now.made in
    let k = c.requires.state.kept in
    let chosen = rw c.in-Drop.is at (c.choose.ensures θ (loose τ n (get nat_eq c.args.bindings.now.made) θ _ k c.resolve-one.ensures.unbound) (loose τ n (get nat_eq c.args.bindings.now.made) θ _ k c.resolve-other.ensures.unbound)) in
    let A = instance θ (τ c.resolve-one.result.0) in
    let B = instance θ (τ c.resolve-other.result.0) in
    taken_dropped c.args.bank.now c.args.bindings.now.made (get nat_eq c.args.joined.now.older) c.args.pair c.args.todo.now.items c.requires.state
    (sym c.resolve-one.ensures.same ∙ sym (instance-var A) ∙ nothing_holds var A B chosen.0 ∙ instance-var B ∙ c.resolve-other.ensures.same)

pub returns-in_ok-ok-in-Bind : goal.returns-in_ok-ok-in-Bind
returns-in_ok-ok-in-Bind c =
    let τ = type_tree c.args.bank.now in
    let n = length c.args.bank.now.types in
    let θ = reads c.args.bank.now c.args.bindings.now.made in
    let k = c.requires.state.kept in
    let chosen = rw c.in-Bind.is at (c.choose.ensures θ (loose τ n (get nat_eq c.args.bindings.now.made) θ _ k c.resolve-one.ensures.unbound) (loose τ n (get nat_eq c.args.bindings.now.made) θ _ k c.resolve-other.ensures.unbound)) in
    taken_bound c.args.bank.now c.args.bindings.now.made (get nat_eq c.args.joined.now.older) c.in_ok-ok-in-Bind.ok c.bind_apart.new.bindings.made c.args.pair c.args.todo.now.items
    c.resolve-one.result c.resolve-other.result c.in-Bind.to c.in-Bind.variable c.requires.state c.resolve-one.ensures.same c.resolve-other.ensures.same chosen
    (loose_var τ n (get nat_eq c.args.bindings.now.made) θ c.in-Bind.variable k
    (unbound_side (get nat_eq c.args.bindings.now.made) (τ c.resolve-one.result.0) (τ c.resolve-other.result.0) c.in-Bind.variable chosen.side c.resolve-one.ensures.unbound c.resolve-other.ensures.unbound))
    c.in_ok-ok-in-Bind.ensures

pub returns-in_ok-ok-in-Split : goal.returns-in_ok-ok-in-Split
returns-in_ok-ok-in-Split c =
    let θ = reads c.args.bank.now c.args.bindings.now.made in
    taken_apart c.args.bank.now c.args.bindings.now.made (get nat_eq c.args.joined.now.older) c.in_ok-ok-in-Split.ok c.args.pair c.args.todo.now.items c.take_apart.new.todo.items
    c.resolve-one.result c.resolve-other.result c.requires.state c.resolve-one.ensures.same c.resolve-other.ensures.same (c.in_ok-ok-in-Split.ensures.apart θ c.requires.state.one) c.in_ok-ok-in-Split.ensures.todos
