use Rattle.std.proofs.Common.{◌∙◌, sym, inl, inr}
use Rattle.lp_term.specs.Nodes.{type_tree}
use Rattle.lp_infer.proofs.Noting.{arrow_nothing, arrow_means}
use Rattle.lp_infer.proofs.lookup.Lookup.note_arrow.Goals as goal

pub returns-in_default-clause-node : goal.returns-in_default-clause-node
returns-in_default-clause-node c = λ sig text nodes at N κ A m.
    arrow_nothing sig text nodes c.args.self.now c.args.done.now N c.args.from c.args.to (inl (sym c.type_at.ensures ∙ c.in_default.is)) at κ A m

pub returns-in_default-type_at-clause-node : goal.returns-in_default-type_at-clause-node
returns-in_default-type_at-clause-node c = λ sig text nodes at N κ A m.
    arrow_nothing sig text nodes c.args.self.now c.args.done.now N c.args.from c.args.to (inr (sym c.type_at-2.ensures ∙ c.in_default-type_at.is)) at κ A m

pub returns-clause-node : goal.returns-clause-node
returns-clause-node c = λ sig text nodes at N. (
  c.in_ok-id.ensures.within,
  λ κ ρ G.
      arrow_means sig text nodes c.args.self.now c.args.done.now N c.args.from c.args.to c.in-Some.left c.in-Some-type_at.right (sym c.type_at.ensures ∙ c.in-Some.is) (sym c.type_at-2.ensures ∙ c.in-Some-type_at.is) at κ ρ G
      (type_tree c.put_arrow.new.bank c.in_ok-id.id.0) c.in_ok-id.ensures.tree,
)
