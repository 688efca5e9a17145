use Rattle.std.proofs.Common.{◌∙◌, sym, ap}
use Rattle.std.specs.Prelude.{option_map}
use Rattle.lp_sig.specs.Standard.{standard_constants}
use Rattle.lp_sig.proofs.Finding.{behind, beside_found}
use Rattle.lp_sig.proofs.signature.Signature.constant.Goals as goal

pub returns-in_err-entry : goal.returns-in_err-entry
returns-in_err-entry c =
    c.from_residual.ensures ∙
    sym (behind c.args.name.now standard_constants _ (sym c.in_default.ensures) ∙
    beside_found (λ e. e.name.items) c.args.name.now (λ e. e.number) c.args.self.now.constants.items ∙
    ap (option_map (λ e. e.number)) (sym c.in_err-entry.ensures))

pub returns : goal.returns
returns c =
    sym (behind c.args.name.now standard_constants _ (sym c.in_default.ensures) ∙
    beside_found (λ e. e.name.items) c.args.name.now (λ e. e.number) c.args.self.now.constants.items ∙
    ap (option_map (λ e. e.number)) (sym c.in_ok-entry.ensures))
