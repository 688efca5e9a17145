use Rattle.std.proofs.Common.{◌∙◌, sym, length, nat_eq}
use Rattle.indexmap.specs.IndexMap.{get}
use Rattle.lp_term.specs.Nodes.{type_tree}
use Rattle.lp_type_unify.proofs.Binds.{reads_now, kept_now}
use Rattle.lp_type_unify.proofs.shared.bind_apart.Goals as goal

pub returns : goal.returns
returns c =
    let τ = type_tree c.args.bank.now in
    let n = length c.args.bank.now.types in
    let absent = sym c.in_ok-occurs_in.ensures ∙ c.if-branch.false in (
      absent,
      reads_now τ c.args.bindings.now.made.entries c.bind.new.self.made.entries c.args.variable c.args.to c.in_ok-bind.ensures.made,
      kept_now τ n (get nat_eq c.args.bindings.now.made) (get nat_eq c.bind.new.self.made) c.args.bindings.now.made.entries c.bind.new.self.made.entries c.args.variable c.args.to
          c.requires.kept c.requires.unbound c.requires.older c.requires.known absent c.in_ok-bind.ensures.bound c.in_ok-bind.ensures.made,
    )
