use Rattle.std.proofs.Common.{None, sym, subst}
use Rattle.std.specs.Prelude.{option_map}
use Rattle.lp_standard.specs.Schemes.{shape_scheme}
use Rattle.lp_term.proofs.Trees.{extends_same}
use Rattle.lp_verify.specs.inner.Language.{IsSchemePut}
use Rattle.lp_verify.proofs.LanguageTypes.{shape_put}
use Rattle.lp_verify.proofs.tables.put_scheme.Goals as goal

pub returns-in_ok-body-in-Some : goal.returns-in_ok-body-in-Some
returns-in_ok-body-in-Some c = shape_put c.args.bank.now c.put_shape.new.bank c.args.shape c.in-Some.shape c.type_vars.result c.in_ok-body-in-Some.body c.in-Some.is c.type_vars.ensures c.in_ok-body-in-Some.ensures

pub returns-in-None : goal.returns-in-None
returns-in-None c = subst (λ o. IsSchemePut c.args.bank.now c.args.bank.now (option_map shape_scheme o) None) (sym c.in-None.is) (extends_same c.args.bank.now, tt)
