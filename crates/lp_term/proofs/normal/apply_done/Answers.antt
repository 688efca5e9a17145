use Rattle.std.proofs.Common.{◌≡◌, ◌<◌, ◌∙◌, sym, ap, length, rules}
use Rattle.std.proofs.lemmas.List.Elements.{All-map}
use Rattle.lp_calculus.specs.Term.{apply}
use Rattle.lp_term.specs.Nodes.{tree}
use Rattle.lp_term.specs.Frame.{in_order}
use Rattle.lp_term.proofs.Walks.{no_nil, map_map}
use Rattle.lp_term.proofs.Moves.{nothing}
use Rattle.lp_term.proofs.normal.apply_done.Goals as goal

some : (c : goal.After-put_term-arg-1) → 0 < length c.args.done.now
some c = search rules

pub put_term-requires : goal.put_term-requires
put_term-requires c =
    (c.requires.head, All-map (λ i. i < length c.args.bank.now.terms) (λ t. t.0) c.args.done.now c.requires.done, no_nil (λ t. t.0) c.args.done.now (some c))

pub returns-clause-tree : goal.returns-clause-tree
returns-clause-tree c = c.in_ok-id.ensures.tree ∙ ap (apply (tree c.args.bank.now c.args.head.0)) (map_map (tree c.args.bank.now) (λ t. t.0) c.args.done.now)

none : (c : goal.Then-is_empty) → length c.args.done.now ≡ 0
none c = search rules

pub returns-then-is_empty-clause-tree : goal.returns-then-is_empty-clause-tree
returns-then-is_empty-clause-tree c = ap (λ l. apply (tree c.args.bank.now c.args.head.0) (in_order c.args.bank.now l)) (sym (nothing c.args.done.now (none c)))
