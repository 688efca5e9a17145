use Rattle.std.proofs.Common.{subst}
use Rattle.lp_base.specs.declared.limits.TheConstants.{MAX_CONTRACTIONS, MAX_NODES}
use Rattle.lp_term.specs.Frame.{IsBetaForm, IsDeepBeta}
use Rattle.lp_term.specs.Nodes.{tree}
use Rattle.lp_term.specs.declared.reduce.TermRefusal.TheVariants.{Deep}
use Rattle.lp_module.proofs.form.normal_of.Goals as goal

pub returns-in-Ok-clause-form : goal.returns-in-Ok-clause-form
returns-in-Ok-clause-form c = record {
  normal = subst (λ t. IsBetaForm MAX_CONTRACTIONS t (tree c.beta_normal.new.bank c.in-Ok.normal.0)) c.in_ok-formula.ensures.tree c.in-Ok.ensures.form;
  few = c.in-Ok.ensures.nodes;
}

pub returns-in-Err-Deep-clause-refused : goal.returns-in-Err-Deep-clause-refused
returns-in-Err-Deep-clause-refused c = λ d goal n first.
    let most = c.in-Err-Deep.field-0-0 in (
      most,
      subst (λ t. IsDeepBeta MAX_CONTRACTIONS MAX_NODES t (Deep most)) c.in_ok-formula.ensures.tree
          (subst (IsDeepBeta MAX_CONTRACTIONS MAX_NODES (tree c.inside.new.self c.in_ok-formula.formula.0)) c.in-Err-Deep.field-0-is c.in-Err-Deep.ensures.refused),
    )
