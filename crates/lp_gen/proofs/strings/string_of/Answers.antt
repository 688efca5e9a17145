use Rattle.std.proofs.lemmas.List.{length-take}
use Rattle.std.proofs.Common.{◌∙◌, ap, length, arith}
use Rattle.std.specs.Prelude.{nat_lt, take}
use Rattle.lp_gen.proofs.ShortStrings.{cut_short, cut_whole}
use Rattle.lp_gen.proofs.strings.string_of.Goals as goal

pub returns-clause-short : goal.returns-clause-short
returns-clause-short c = ap (λ l. nat_lt (length l) 65536) (c.truncate.ensures.items ∙ ap (take 65535) c.in_ok-text.ensures.items) ∙ cut_short c.args.bytes.now

pub returns-clause-whole : goal.returns-clause-whole
returns-clause-whole c = λ e. c.truncate.ensures.items ∙ ap (take 65535) c.in_ok-text.ensures.items ∙ cut_whole c.args.bytes.now e

pub returns-clause-count : goal.returns-clause-count
returns-clause-count c =
    let l = ap length (c.truncate.ensures.items ∙ ap (take 65535) c.in_ok-text.ensures.items) ∙ length-take 65535 c.args.bytes.now in
    omega (arith, l)
