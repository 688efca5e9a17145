use Rattle.std.proofs.Common.{◌≡◌, ◌∙◌, true, ap, sym}
use Rattle.std.specs.Prelude.{◌&&◌, nat_lt}
use Rattle.lp_model.specs.Flatten.{ends_in_o}
use Rattle.lp_code.specs.declared.record.RecordHead.TheVariants.{Const, Register}
use Rattle.lp_code.specs.Symbolic.{term_in}
use Rattle.lp_code.specs.Denote.{is_all_variable, heads}
use Rattle.lp_verify.specs.inner.At.{home_in}
use Rattle.lp_verify.proofs.HeadRules.{all_three, low_register}
use Rattle.lp_verify.proofs.record.Work.is_fine_head.Goals as goal

pub returns-in-Const-clause-low : goal.returns-in-Const-clause-low
returns-in-Const-clause-low c = λ e r f. absurd (let z : Const c.in-Const.constant ≡ Register r = sym c.in-Const.is ∙ f in cc)

pub returns-in-Const-clause-fine : goal.returns-in-Const-clause-fine
returns-in-Const-clause-fine c = λ l s language basics same low alls. c.heads_clauses.ensures language ∙ ap (heads (home_in c.args.self.now.home) s) (sym c.in-Const.is)

pub returns-in-Register-clause-low : goal.returns-in-Register-clause-low
returns-in-Register-clause-low c = λ e r f. low_register c.in-Register.register r c.args.self.now.home.record.now.captured c.is_predicate.result (sym c.in-Register.is ∙ f) (sym c.both.ensures ∙ e)

pub returns-in-Register-clause-fine : goal.returns-in-Register-clause-fine
returns-in-Register-clause-fine c = λ l s language basics same low alls.
    let w = c.args.self.now in
    let h = home_in w.home in
    let r = c.in-Register.register in
    let below = nat_lt r h.self.captured in
    c.both.ensures ∙ (λ j. below && c.is_predicate.ensures l s basics same low alls j) ∙ all_three below (is_all_variable h.records (term_in s.now r).term) (ends_in_o (term_in s.now r).type) ∙ ap (heads h s) (sym c.in-Register.is)
