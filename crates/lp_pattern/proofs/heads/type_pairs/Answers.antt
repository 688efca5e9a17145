use Rattle.std.proofs.Common.{◌≡◌, ◌<◌, ◌∙◌, ℕ, map, length}
use Rattle.lp_lemmas.proofs.Elements.{All_unmap}
use Rattle.lp_calculus.specs.Types.{Ty, instance}
use Rattle.lp_calculus.specs.Term.{atom, constant}
use Rattle.lp_calculus.specs.Instance.{instance_term}
use Rattle.lp_term.specs.Nodes.{tree, type_tree}
use Rattle.lp_model.specs.Rule.{type_pairs}
use Rattle.lp_pattern.specs.Reading.{type_pairs_of}
use Rattle.lp_pattern.proofs.Names.{constant_is, without_types, no_constant, no_parameter}
use Rattle.lp_pattern.proofs.Results.{if_ok}
use Rattle.lp_pattern.proofs.heads.type_pairs.Goals as goal

pub returns-in-Const-clause-pairs : goal.returns-in-Const-clause-pairs
returns-in-Const-clause-pairs c =
    let b = c.args.bank.now in
    if_ok c.beside_constant.result
    (λ pairs. (θ : ℕ → Ty) → (k : ℕ) → type_pairs_of b θ pairs.items ≡ type_pairs (atom (constant k (map (λ t. instance θ (type_tree b t.0)) c.in-Const.types.now))) (instance_term θ (tree b c.args.other.0)))
    (λ pairs. (θ : ℕ → Ty) → type_pairs_of b θ pairs.items ≡ type_pairs (instance_term θ (tree b c.args.one.0)) (instance_term θ (tree b c.args.other.0)))
    (λ pairs h θ. h θ c.in-Const.field-0 ∙ constant_is b θ c.in-Const.field-0 c.in-Const.types.now (tree b c.args.one.0) (instance_term θ (tree b c.args.other.0)) c.in-Const.ensures.tree)
    c.beside_constant.ensures.pairs

pub returns-in_default-clause-pairs : goal.returns-in_default-clause-pairs
returns-in_default-clause-pairs c = λ θ.
    without_types c.args.bank.now _ _ θ (tree c.args.bank.now c.args.one.0) (instance_term θ (tree c.args.bank.now c.args.other.0)) c.term_node.result c.new.result.items c.new.ensures.items
    c.term_node.ensures.older c.term_node.ensures.tree (no_constant c.term_node.result c.in_default.not-Const) (no_parameter c.term_node.result c.in_default.not-Param)

pub beside_constant-requires : goal.beside_constant-requires
beside_constant-requires c = All_unmap (λ i. i < length c.args.bank.now.types) (λ t. t.0) c.in-Const.types.now c.in-Const.ensures.within
