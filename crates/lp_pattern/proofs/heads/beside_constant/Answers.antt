use Rattle.std.proofs.Common.{◌≡◌, ◌<◌, ℕ, map, length, sym, subst as transport}
use Rattle.std.specs.Prelude.{All}
use Rattle.lp_lemmas.proofs.Elements.{All_unmap}
use Rattle.lp_pattern.specs.Inside.{IsTypePairOf}
use Rattle.lp_pattern.proofs.PairedLists.{paired_known}
use Rattle.lp_calculus.specs.Types.{Ty, instance}
use Rattle.lp_calculus.specs.Term.{atom, constant}
use Rattle.lp_calculus.specs.Instance.{instance_term}
use Rattle.lp_term.specs.Nodes.{tree, type_tree}
use Rattle.lp_model.specs.Rule.{type_pairs}
use Rattle.lp_pattern.specs.Reading.{paired, type_pairs_of}
use Rattle.lp_pattern.proofs.Names.{constants_pairs, without_constant, no_constant}
use Rattle.lp_pattern.proofs.Results.{if_ok}
use Rattle.lp_pattern.proofs.heads.beside_constant.Goals as goal

pub returns-in-Const-clause-pairs : goal.returns-in-Const-clause-pairs
returns-in-Const-clause-pairs c =
    let b = c.args.bank.now in
    if_ok c.places.result (λ pairs. pairs.items ≡ paired c.args.types.now c.in-Const.others.now)
    (λ pairs. (θ : ℕ → Ty) → (k : ℕ) → type_pairs_of b θ pairs.items ≡ type_pairs (atom (constant k (map (λ t. instance θ (type_tree b t.0)) c.args.types.now))) (instance_term θ (tree b c.args.id.0)))
    (λ pairs q θ k. constants_pairs b θ k c.in-Const.field-0 c.args.types.now c.in-Const.others.now pairs.items (tree b c.args.id.0) q c.in-Const.ensures.tree) c.places.ensures

pub returns-in_default-clause-pairs : goal.returns-in_default-clause-pairs
returns-in_default-clause-pairs c = λ θ k.
    without_constant c.args.bank.now _ _ θ k _ (tree c.args.bank.now c.args.id.0) c.term_node.result c.new.result.items c.new.ensures.items c.term_node.ensures.older c.term_node.ensures.tree
    (no_constant c.term_node.result c.in_default.not-Const)

pub returns-in-Const-clause-within : goal.returns-in-Const-clause-within
returns-in-Const-clause-within c =
    let n = length c.args.bank.now.types in
    if_ok c.places.result (λ pairs. pairs.items ≡ paired c.args.types.now c.in-Const.others.now) (λ pairs. All (IsTypePairOf n) pairs.items)
    (λ pairs q. transport (All (IsTypePairOf n)) (sym q)
    (paired_known n c.args.types.now c.in-Const.others.now c.requires (All_unmap (λ i. i < n) (λ t. t.0) c.in-Const.others.now c.in-Const.ensures.within)))
    c.places.ensures
