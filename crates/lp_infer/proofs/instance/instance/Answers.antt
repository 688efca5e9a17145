use Rattle.std.proofs.Common.{◌∙◌, ℕ, ap}
use Rattle.lp_calculus.specs.Types.{Ty, instance as put_in}
use Rattle.lp_calculus.specs.Typing.{type_at}
use Rattle.lp_calculus.specs.Term.{Term, atom, logic}
use Rattle.lp_term.specs.Nodes.{type_tree}
use Rattle.lp_term.proofs.MapLaws.{putting, type_put}
use Rattle.lp_term.proofs.Within.{types_later, type_trees_later}
use Rattle.lp_lemmas.proofs.Results.{if_ok_both}
use Rattle.lp_infer.specs.Copies.{trees_of}
use Rattle.lp_infer.proofs.Copying.{arguments_are_map}
use Rattle.lp_infer.proofs.instance.instance.Goals as goal

pub returns-clause-tree : goal.returns-clause-tree
returns-clause-tree c = λ known.
    let to = c.args.to.now in
    let d = c.put_constructor.new.bank in
    let E = c.put_constructor.ensures.kept in
    let T = type_tree c.args.from.now c.args.body.0 in
    let θ : ℕ → Ty = type_at (trees_of d c.args.args.now) in
    let σ : ℕ → ℕ → Term = λ x l. atom (logic x l) in
    let is_map = arguments_are_map c.args.from.now d (record { args = c.args.args; other = c.in_ok-other.other }) (types_later to d c.args.args.now E known) (c.in_ok-other.ensures.within, c.in_ok-other.ensures.tree) in
    if_ok_both c.copy_type.result _ _ _
    (λ id w h. (w, h (putting θ σ) is_map (c.new.ensures (putting θ σ) c.args.from.now d) ∙ type_put θ σ T ∙ ap (λ Ts. put_in (type_at Ts) T) (type_trees_later to d c.args.args.now E known)))
    c.copy_type.ensures.within c.copy_type.ensures.made
