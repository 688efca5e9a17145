use Rattle.lp_cert.proofs.Evaluating.{text_right_gives, text_not_number}
use Rattle.lp_cert.proofs.value.on_text_with.Goals as goal

pub returns-in-Text-clause-gives : goal.returns-in-Text-clause-gives
returns-in-Text-clause-gives c = text_right_gives c.on_texts.new.texts.bytes.items c.on_texts.result c.args.operation c.args.right c.args.left c.in-Text.other c.in-Text.is c.on_texts.ensures.gives

pub returns-in-Number-clause-gives : goal.returns-in-Number-clause-gives
returns-in-Number-clause-gives c = λ end g. text_not_number end c.args.operation _ c.args.right c.in-Number.field-0 c.in-Number.is
