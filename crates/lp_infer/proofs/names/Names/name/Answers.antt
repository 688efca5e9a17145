use Rattle.std.proofs.Common.{◌≡◌, ◌∙◌, refl, sym, ap, subst, None}
use Rattle.lp_lemmas.proofs.Options.{none_from_is_some}
use Rattle.lp_sig.specs.Pieces.{spelled}
use Rattle.lp_infer.specs.Scanning.{level_in}
use Rattle.lp_infer.specs.Names.{IsNoConstant}
use Rattle.lp_infer.proofs.Finding.{finds_none, finds_as}
use Rattle.lp_infer.proofs.Refusing.{not_none}
use Rattle.lp_infer.proofs.names.Names.name.Goals as goal

pub returns-then-is_some-clause-fault : goal.returns-then-is_some-clause-fault
returns-then-is_some-clause-fault c =
    finds_none (λ s. (s ≡ c.args.spot) × (level_in c.args.self.now (spelled c.args.source.now s) ≡ None) × IsNoConstant c.args.signature.now (spelled c.args.source.now s)) c.args.self.now.fault c.args.self.now.fault refl
    (λ s q. not_none c.level.result (sym c.is_some.ensures ∙ c.if-is_some.true)
    (c.level.ensures ∙ ap (level_in c.args.self.now) c.spelled_at-name.ensures ∙ ap (λ t. level_in c.args.self.now (spelled c.args.source.now t)) (sym q.0) ∙ q.1))

pub returns-clause-fault : goal.returns-clause-fault
returns-clause-fault c =
    let free = ap (level_in c.args.self.now) (sym c.spelled_at-name.ensures) ∙ sym c.level.ensures ∙ none_from_is_some c.level.result (sym c.is_some.ensures ∙ c.if-is_some.false) in
    finds_as (λ s. (s ≡ c.args.spot) × IsNoConstant c.args.signature.now (spelled c.args.source.now s)) (λ s. (s ≡ c.args.spot) × (level_in c.args.self.now (spelled c.args.source.now s) ≡ None) × IsNoConstant c.args.signature.now (spelled c.args.source.now s))
    c.args.self.now.fault c.constant.new.self.fault (λ s q. (q.0, subst (λ t. level_in c.args.self.now (spelled c.args.source.now t) ≡ None) (sym q.0) free, q.1)) (λ s q. (q.0, q.2)) c.constant.ensures.fault
