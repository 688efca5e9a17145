use Rattle.std.proofs.Common.{◌≡◌, ◌∙◌, Some, None, ap, sym, subst}
use Rattle.std.specs.Prelude.{option_map, unwrap_or}
use Rattle.lp_calculus.specs.Typing.{o_type, scheme_type}
use Rattle.lp_code.specs.Symbolic.{Tables}
use Rattle.lp_code.specs.Naming.{scheme_in}
use Rattle.lp_verify.specs.inner.FirstNumbers.{IsType}
use Rattle.lp_verify.proofs.head.constant_on.Goals as goal

pub returns-in_ok-of-in-Some-clause-made : goal.returns-in_ok-of-in-Some-clause-made
returns-in_ok-of-in-Some-clause-made c = λ h Ts k a.
    let there : h.tables.constants c.args.constant ≡ Some (scheme_in c.in-Some.bank.now c.in-Some.scheme.type_vars c.in-Some.scheme.body.0) = ap
    (λ (t : Tables). t.constants c.args.constant) k.tables ∙ sym (c.scheme.ensures k.language) ∙ ap
    (option_map (λ p. scheme_in p.0.now p.1.type_vars p.1.body.0)) c.in-Some.is in
    c.in_ok-of-in-Some.ensures.made h.tables Ts there k.basics k.uses a

pub returns-in-None-clause-made : goal.returns-in-None-clause-made
returns-in-None-clause-made c = λ h Ts k a.
    let x = c.args.types.now in
    let there : h.tables.constants c.args.constant ≡ None = ap (λ (t : Tables). t.constants c.args.constant) k.tables ∙ sym (c.scheme.ensures k.language) ∙ ap (option_map (λ p. scheme_in p.0.now p.1.type_vars p.1.body.0)) c.in-None.is in
    (subst (λ o. IsType x x.proposition (unwrap_or (scheme_type Ts o) o_type)) (sym there) k.basics.proposition, k.uses)
