use Rattle.std.proofs.Common.{◌∙◌, ◌<◌, arith, rules, length, ap, map}
use Rattle.std.proofs.lemmas.List.{length-reverse}
use Rattle.lp_calculus.specs.Term.{apply}
use Rattle.lp_term.specs.Nodes.{tree}
use Rattle.lp_term.proofs.Contract.{applied_fits, applied_tree}
use Rattle.lp_term.proofs.reduce.put_application.Goals as goal
use Rattle.lp_term.proofs.reduce.put_application.Goals.{After-as_slice}

some : (c : goal.After-as_slice) → 0 < length c.args.args.items
some c = search rules

pub put_term-requires : goal.put_term-requires
put_term-requires c =
    let l : 0 < length c.in_ok-newest.newest.items = omega (arith, some c, ap length c.in_ok-newest.ensures, length-reverse c.in_ok-newest.newest.items) in
    rw c.as_slice.ensures.value
    (applied_fits (length c.args.bank.now.types) (length c.args.bank.now.terms) c.args.args.items c.in_ok-newest.newest.items c.args.head c.in_ok-newest.ensures c.requires.head c.requires.args l)

pub returns-clause-tree : goal.returns-clause-tree
returns-clause-tree c =
    applied_tree c.args.bank.now c.args.head c.args.args.items c.in_ok-newest.newest.items (tree c.put_term.new.self c.in_ok-id.id.0) c.in_ok-newest.ensures
    (c.in_ok-id.ensures.tree ∙ ap (λ l. apply (tree c.args.bank.now c.args.head.0) (map (tree c.args.bank.now) (map (λ t. t.0) l))) c.as_slice.ensures.value)
