use Rattle.std.proofs.Common.{◌∙◌, None, sym, subst}
use Rattle.lp_term.proofs.Trees.{extends_same}
use Rattle.lp_verify.specs.inner.Language.{IsSchemePut}
use Rattle.lp_verify.proofs.Language.{standard_entry, no_standard_entry}
use Rattle.lp_verify.proofs.tables.put_language.Goals as goal

pub returns-in_ok-put-in-Some : goal.returns-in_ok-put-in-Some
returns-in_ok-put-in-Some c =
    subst (λ s. IsSchemePut c.args.bank.now c.put_scheme.new.bank s c.in_ok-put-in-Some.put) (c.shape.ensures ∙ sym (standard_entry c.args.number c.in-Some.constant c.in-Some.ensures)) c.in_ok-put-in-Some.ensures

pub returns-in-None : goal.returns-in-None
returns-in-None c = subst (λ s. IsSchemePut c.args.bank.now c.args.bank.now s None) (sym (no_standard_entry c.args.number c.in-None.ensures)) (extends_same c.args.bank.now, tt)
