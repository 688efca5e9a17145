use Rattle.std.proofs.Common.{◌∙◌}
use Rattle.lp_verify.specs.inner.Indices.{store}
use Rattle.lp_verify.proofs.TermsMade.{term_known}
use Rattle.lp_verify.proofs.HeadRules.{new_is, not_new}
use Rattle.lp_verify.proofs.record.Work.is_new_variable.Goals as goal

pub returns-in-Variable : goal.returns-in-Variable
returns-in-Variable c = λ l h s k body.
    let w = c.args.self.now in
    let t = term_known (store c.args.types.now l) w h s c.args.register c.term_in.result k c.term_in.ensures in
    c.is_new.ensures ∙ new_is w h s c.args.register k.taken k.of_head.number body c.in-Variable.made c.in-Variable.home c.term_in.result.head c.in-Variable.is t.2

pub returns-in-Other : goal.returns-in-Other
returns-in-Other c = λ l h s k body.
    let t = term_known (store c.args.types.now l) c.args.self.now h s c.args.register c.term_in.result k c.term_in.ensures in
    not_new h s c.args.register c.term_in.result.head c.in-Other.is t.2
