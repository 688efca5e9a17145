use Rattle.std.proofs.Common.{◌∙◌, ap, refl, sym}
use Rattle.std.specs.Prelude.{option_map}
use Rattle.lp_code.specs.Naming.{scheme_in}
use Rattle.lp_verify.specs.Scheme.{tables_in}
use Rattle.lp_verify.proofs.HeadRules.{scheme_heads, none_heads}
use Rattle.lp_verify.proofs.record.Work.heads_clauses.Goals as goal

pub returns-in-Some : goal.returns-in-Some
returns-in-Some c = λ language.
    let o = (tables_in c.args.self.now.home.tables.now).constants c.args.constant in
    c.both.ensures ∙ scheme_heads c.args.constant o (scheme_in c.in-Some.bank.now c.in-Some.scheme.type_vars c.in-Some.scheme.body.0) _ c.ends_in_o.result (sym (ap (option_map (λ p. scheme_in p.0.now p.1.type_vars p.1.body.0)) c.in-Some.is) ∙ c.scheme.ensures language) refl c.ends_in_o.ensures

pub returns-in-None : goal.returns-in-None
returns-in-None c = λ language. none_heads c.args.constant ((tables_in c.args.self.now.home.tables.now).constants c.args.constant) (sym (ap (option_map (λ p. scheme_in p.0.now p.1.type_vars p.1.body.0)) c.in-None.is) ∙ c.scheme.ensures language)
