use Rattle.lp_term.specs.Nodes.{tree}
use Rattle.lp_pattern.proofs.FilledTerms.{constant_shape, application_shape}
use Rattle.std.proofs.Common.{◌<◌, length, sym, subst as transport}
use Rattle.std.specs.Prelude.{All}
use Rattle.lp_lemmas.proofs.Elements.{All_unmap}
use Rattle.lp_pattern.proofs.fill.shape_of.Goals as goal

pub returns-in_ok-types-in-Const-clause-shape : goal.returns-in_ok-types-in-Const-clause-shape
returns-in_ok-types-in-Const-clause-shape c =
    constant_shape c.args.bank.now c.in-Const.number c.in-Const.types.now c.in_ok-types-in-Const.types.items (tree c.args.bank.now c.args.id.0) c.in-Const.ensures.tree c.in-Const.ensures.older c.in_ok-types-in-Const.ensures.items

pub returns-in_ok-arguments-in-App-clause-shape : goal.returns-in_ok-arguments-in-App-clause-shape
returns-in_ok-arguments-in-App-clause-shape c =
    application_shape c.args.bank.now c.in-App.head c.in-App.arguments.now c.in_ok-arguments-in-App.arguments.items (tree c.args.bank.now c.args.id.0) c.in-App.ensures.tree c.in_ok-arguments-in-App.ensures.items

pub returns-in_ok-arguments-in-App-clause-within : goal.returns-in_ok-arguments-in-App-clause-within
returns-in_ok-arguments-in-App-clause-within c =
    let n = length c.args.bank.now.terms in
    let w = c.in-App.ensures.within in (
      w.0,
      transport (All (λ t. t.0 < n)) (sym c.in_ok-arguments-in-App.ensures.items) (All_unmap (λ i. i < n) (λ t. t.0) c.in-App.arguments.now w.1),
    )
