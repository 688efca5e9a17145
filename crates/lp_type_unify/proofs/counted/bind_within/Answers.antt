use Rattle.std.proofs.Common.{length, nat_eq}
use Rattle.indexmap.specs.IndexMap.{get}
use Rattle.lp_term.specs.Nodes.{type_tree}
use Rattle.lp_type_unify.proofs.Binds.{reads_now, kept_now}
use Rattle.lp_type_unify.proofs.counted.bind_within.Goals as goal

pub returns-in_ok-bind-in-Absent : goal.returns-in_ok-bind-in-Absent
returns-in_ok-bind-in-Absent c =
    let τ = type_tree c.args.bank.now in
    let n = length c.args.bank.now.types in
    let seen = rw c.in-Absent.is at c.in_ok-occurs_within.ensures in (
      seen.0,
      seen.1,
      reads_now τ c.args.bindings.now.made.entries c.bind.new.self.made.entries c.args.variable c.args.to c.in_ok-bind-in-Absent.ensures.made,
      kept_now τ n (get nat_eq c.args.bindings.now.made) (get nat_eq c.bind.new.self.made) c.args.bindings.now.made.entries c.bind.new.self.made.entries c.args.variable c.args.to
          c.requires.kept c.requires.unbound c.requires.older c.requires.known seen.0 c.in_ok-bind-in-Absent.ensures.bound c.in_ok-bind-in-Absent.ensures.made,
    )
