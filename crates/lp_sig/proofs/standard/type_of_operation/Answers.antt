use Rattle.std.proofs.Common.{◌≡◌, ℕ, ◌<◌, ◌≤◌, length, sym, ap, ◌∙◌, arith, inl, inr}
use Rattle.std.specs.Prelude.{◌⊎◌}
use Rattle.std.proofs.lemmas.List.{get_or_past}
use Rattle.std.proofs.lemmas.Result.{IfOk-weaker}
use Rattle.lp_lemmas.proofs.Numbers.{equal_or_above}
use Rattle.lp_calculus.specs.Types.{arrow}
use Rattle.lp_calculus.specs.Typing.{o_type}
use Rattle.lp_term.specs.Nodes.{type_tree}
use Rattle.lp_sig.specs.Holding.{IsTree}
use Rattle.lp_sig.specs.Constants.{standard_tree, standard_types}
use Rattle.lp_sig.proofs.standard.type_of_operation.Goals as goal

-- the last of the table, and what is past it
last : (n : ℕ) → 24 ≤ n → standard_tree n ≡ arrow o_type o_type
last n h = by (equal_or_above 24 n h)
  where
    by : (n ≡ 24) ⊎ (25 ≤ n) → standard_tree n ≡ arrow o_type o_type
    by (inl e) = ap standard_tree e
    by (inr l) = get_or_past standard_types n (arrow o_type o_type) l

pub returns-clause-tree : goal.returns-clause-tree
returns-clause-tree c = λ p.
    let b = c.args.types.now.bank in
    let now = c.arrow-2.new.self.bank in
    let above = c.if-number-lt24.false in
    let e : type_tree b c.args.parts.goal.0 ≡ o_type = p.goal.1 in
    IfOk-weaker c.arrow-2.result (λ id. (id.0 < length now.types) × (type_tree now id.0 ≡ arrow (type_tree b c.args.parts.goal.0) (type_tree b c.args.parts.goal.0))) (IsTree now (λ t. t ≡ standard_tree c.args.number))
    (λ id h. (h.0, h.1 ∙ ap (λ x. arrow x (type_tree b c.args.parts.goal.0)) e ∙ ap (arrow o_type) e ∙ sym (last c.args.number (omega (arith, above))))) c.arrow-2.ensures.tree
