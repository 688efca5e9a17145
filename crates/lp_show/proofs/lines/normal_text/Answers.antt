use Rattle.std.proofs.Common.{◌∙◌, ◌++◌, ap, ap₂}
use Rattle.lp_term.specs.Nodes.{tree}
use Rattle.lp_model.specs.Shown.{piece, with_variables}
use Rattle.lp_show.specs.Glossary.{entries_of}
use Rattle.lp_show.specs.Named.{all}
use Rattle.lp_show.proofs.lines.normal_text.Goals as goal

pub write_term-requires-clause-idle : goal.write_term-requires-clause-idle
write_term-requires-clause-idle c = c.new-writer.ensures.idle (all c.in_ok-names.names)

pub returns : goal.returns
returns c =
    let t = tree c.args.bank.now c.args.term.0 in
    c.in_ok-write_term.ensures.text ∙
    ap (λ l. l ++ (piece (all c.in_ok-names.names) c.add_variables.new.seen.keys 0 t).text) (c.new-writer.ensures.text ∙ c.new-2.ensures.items) ∙
    ap₂ (λ es vs. (piece es vs 0 t).text) (c.in_ok-names.ensures.same ∙ ap entries_of c.as_slice.ensures.value) (c.in_ok-add_variables.ensures ∙ ap (λ l. with_variables l t) c.new-seen.ensures.empty)
