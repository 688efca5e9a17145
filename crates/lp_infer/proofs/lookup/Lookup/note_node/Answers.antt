use Rattle.std.proofs.Common.{◌∙◌, sym, ap, Some}
use Rattle.std.proofs.lemmas.Result.{on_ok_weaker, IfOk-weaker}
use Rattle.lp_infer.proofs.lookup.Lookup.note_node.Goals as goal

pub returns-in-Arrow-clause-grows : goal.returns-in-Arrow-clause-grows
returns-in-Arrow-clause-grows c = on_ok_weaker c.note_arrow.result (λ g firsts. g c.args.source.now) c.note_arrow.ensures.grows

pub returns-in-Arrow-clause-node : goal.returns-in-Arrow-clause-node
returns-in-Arrow-clause-node c = IfOk-weaker c.note_arrow.result _ _ (λ o h firsts nodes at N. h c.args.signature.now c.args.source.now nodes (at ∙ ap Some c.in-Arrow.is) N) c.note_arrow.ensures.node

pub returns-in-Word-clause-node : goal.returns-in-Word-clause-node
returns-in-Word-clause-node c =
    IfOk-weaker c.note_word.result _ _ (λ o h firsts nodes at N. h firsts nodes c.in-Word.arguments (sym c.as_slice.ensures.value) (at ∙ ap Some c.in-Word.is) N) c.note_word.ensures.node
