use Rattle.std.proofs.Common.{◌≡◌, ◌∙◌, refl, sym, ap, subst, ◌++◌, map}
use Rattle.lp_lemmas.proofs.Options.{none_from_is_some}
use Rattle.lp_sig.specs.Pieces.{spelled}
use Rattle.lp_sig.specs.Rows.{found, number_row}
use Rattle.lp_sig.specs.Standard.{standard_constants}
use Rattle.lp_infer.specs.Names.{IsNoConstant}
use Rattle.lp_infer.proofs.Finding.{finds_none, finds_as}
use Rattle.lp_infer.proofs.Refusing.{not_none}
use Rattle.lp_infer.proofs.names.Names.constant.Goals as goal

pub returns-then-is_some-clause-fault : goal.returns-then-is_some-clause-fault
returns-then-is_some-clause-fault c =
    finds_none (λ s. (s ≡ c.args.spot) × IsNoConstant c.args.signature.now (spelled c.args.source.now s)) c.args.self.now.fault c.args.self.now.fault refl
    (λ s q. not_none c.constant.result (sym c.is_some.ensures ∙ c.if-is_some.true)
    (c.constant.ensures ∙ ap (λ w. found w (standard_constants ++ map number_row c.args.signature.now.constants.items)) c.spelled_at.ensures ∙ ap (λ t. found (spelled c.args.source.now t) (standard_constants ++ map number_row c.args.signature.now.constants.items)) (sym q.0) ∙ q.1.undeclared))

pub returns-clause-fault : goal.returns-clause-fault
returns-clause-fault c =
    let undeclared = ap (λ w. found w (standard_constants ++ map number_row c.args.signature.now.constants.items)) (sym c.spelled_at.ensures) ∙ sym c.constant.ensures ∙ none_from_is_some c.constant.result (sym c.is_some.ensures ∙ c.if-is_some.false) in
    finds_as (λ s. s ≡ c.args.spot) (λ s. (s ≡ c.args.spot) × IsNoConstant c.args.signature.now (spelled c.args.source.now s)) c.args.self.now.fault c.earlier-self.result
    (λ s e. (e, subst (λ t. IsNoConstant c.args.signature.now (spelled c.args.source.now t)) (sym e) (record { constant = c.requires; undeclared = undeclared }))) (λ s q. q.0) c.earlier-self.ensures
