use Rattle.std.proofs.Common.{◌∙◌, ap, sym, option_map}
use Rattle.lp_calculus.specs.Types.{instance as put_in}
use Rattle.lp_calculus.specs.Typing.{type_at}
use Rattle.lp_standard.specs.Schemes.{shape_scheme}
use Rattle.lp_infer.specs.Postfix.{scheme_or}
use Rattle.lp_infer.specs.Copies.{trees_of}
use Rattle.lp_infer.proofs.Copying.{ok_type, ok_put}
use Rattle.lp_infer.proofs.standard.standard_instance.Goals as goal

pub returns-in-Some-clause-tree : goal.returns-in-Some-clause-tree
returns-in-Some-clause-tree c = λ known.
    let φ = type_at (trees_of c.args.bank.now c.args.args.now) in
    ok_type c.shape_instance.result c.shape_instance.new.bank _ _ (ap (λ o. put_in φ (scheme_or o).body) (ap (option_map shape_scheme) (sym c.in-Some.is) ∙ c.shape_of.ensures)) (c.shape_instance.ensures.tree φ (c.in_ok-at.ensures.tree known))

pub returns-in-None-clause-tree : goal.returns-in-None-clause-tree
returns-in-None-clause-tree c = λ known.
    let φ = type_at (trees_of c.args.bank.now c.args.args.now) in
    ok_put c.put_kind.result c.put_kind.new.bank _ _ (ap (λ o. put_in φ (scheme_or o).body) (ap (option_map shape_scheme) (sym c.in-None.is) ∙ c.shape_of.ensures)) c.put_kind.ensures.within c.put_kind.ensures.tree
