use Rattle.std.proofs.Common.{◌≡◌, ◌∙◌, Some, None, ap, sym, subst}
use Rattle.std.specs.Prelude.{option_map, unwrap_or}
use Rattle.lp_calculus.specs.Typing.{o_type, scheme_type}
use Rattle.lp_code.specs.Symbolic.{Tables, types_in}
use Rattle.lp_code.specs.Naming.{scheme_in}
use Rattle.lp_verify.specs.inner.FirstNumbers.{IsType}
use Rattle.lp_verify.specs.inner.Indices.{store}
use Rattle.lp_verify.proofs.TermsMade.{types_known}
use Rattle.lp_verify.proofs.record.Work.constant_type.Goals as goal

pub returns-in-Some-clause-made : goal.returns-in-Some-clause-made
returns-in-Some-clause-made c = λ l h s k set.
    let x = c.args.types.now in
    let w = c.args.self.now in
    let d = c.args.registers.now in
    let there : h.tables.constants c.args.constant ≡ Some (scheme_in c.in-Some.bank.now c.in-Some.scheme.type_vars c.in-Some.scheme.body.0) = ap
    (λ (t : Tables). t.constants c.args.constant) k.of_head.constants.tables ∙ sym (c.scheme.ensures k.of_head.constants.language) ∙ ap
    (option_map (λ p. scheme_in p.0.now p.1.type_vars p.1.body.0)) c.in-Some.is in
    c.in_ok-of-in-Some.ensures.made h.tables (types_in s.now d) there k.of_head.constants.basics k.of_head.constants.uses (types_known (store x l) w h s d c.as_slice.result.now k (c.as_slice.ensures.value ∙ c.in_ok-arguments.ensures) set)

pub returns-clause-made : goal.returns-clause-made
returns-clause-made c = λ l h s k set.
    let x = c.args.types.now in
    let d = c.args.registers.now in
    let there : h.tables.constants c.args.constant ≡ None = ap (λ (t : Tables). t.constants c.args.constant) k.of_head.constants.tables ∙ sym (c.scheme.ensures k.of_head.constants.language) ∙ ap (option_map (λ p. scheme_in p.0.now p.1.type_vars p.1.body.0)) c.in-None.is in
    (subst (λ o. IsType x x.proposition (unwrap_or (scheme_type (types_in s.now d) o) o_type)) (sym there) k.of_head.constants.basics.proposition, k.of_head.constants.uses)
