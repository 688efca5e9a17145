use Rattle.std.proofs.Common.{◌∙◌, ap, sym}
use Rattle.lp_verify.specs.inner.Handed.{variable_in}
use Rattle.lp_verify.proofs.AllsKept.{is_all_there, is_no_variable}
use Rattle.lp_verify.proofs.whole.is_all.Goals as goal

pub returns-in-Variable : goal.returns-in-Variable
returns-in-Variable c = λ rs n t alls same low. c.has.ensures ∙ is_all_there rs n c.args.alls.now.records.items c.in-Variable.register c.in-Variable.home t alls (sym (ap variable_in c.in-Variable.is) ∙ same) low

pub returns-in-Other : goal.returns-in-Other
returns-in-Other c = λ rs n t alls same low. is_no_variable rs t (sym (ap variable_in c.in-Other.is) ∙ same)
