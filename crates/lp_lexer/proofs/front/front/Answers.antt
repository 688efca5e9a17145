use Rattle.std.proofs.Common.{sym, ◌∙◌, ap}
use Rattle.lp_lexer.specs.declared.class.Class.TheVariants.{Line}
use Rattle.lp_lexer.specs.Bytes.{is_in}
use Rattle.lp_lexer.proofs.Steps.{line_first, lower_word, upper_word}
use Rattle.lp_lexer.proofs.front.front.Goals as goal

pub returns-then-b-eq37-clause-within : goal.returns-then-b-eq37-clause-within
returns-then-b-eq37-clause-within c =
    let r = c.run_len-then-b-eq37.ensures in
    (r.some (ap (is_in Line) c.if-b-eq37.true ∙ line_first) c.requires, r.within)

pub returns-then-is_in-2-clause-within : goal.returns-then-is_in-2-clause-within
returns-then-is_in-2-clause-within c =
    let r = c.run_len-then-is_in-2.ensures in
    (r.some (lower_word _ (sym c.is_in-2.ensures ∙ c.if-is_in-2.true)) c.requires, r.within)

pub returns-then-is_in-3-clause-within : goal.returns-then-is_in-3-clause-within
returns-then-is_in-3-clause-within c =
    let r = c.run_len-then-is_in-3.ensures in
    (r.some (upper_word _ (sym c.is_in-3.ensures ∙ c.if-is_in-3.true)) c.requires, r.within)
