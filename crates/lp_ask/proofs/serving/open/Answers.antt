use Rattle.lp_lines.proofs.Looking.{looked_memory, looked_passed, looked_then}
use Rattle.lp_ask.proofs.serving.open.Goals as goal

pub returns-in_err-image-clause-looked : goal.returns-in_err-image-clause-looked
returns-in_err-image-clause-looked g c = looked_passed c.from_residual.result c.in_err-image.field-0.0 c.from_residual.ensures.1 c.in_err-image.ensures.looked

pub returns-in_err-file-clause-looked : goal.returns-in_err-file-clause-looked
returns-in_err-file-clause-looked g c = looked_passed c.from_residual-in_err-file.result _ c.from_residual-in_err-file.ensures.1 (looked_then c.in_ok-image.ensures.looked looked_memory)

pub returns-in_err-lines-clause-looked : goal.returns-in_err-lines-clause-looked
returns-in_err-lines-clause-looked g c = looked_passed c.from_residual-in_err-lines.result c.in_err-lines.field-0.0 c.from_residual-in_err-lines.ensures.1 (looked_then c.in_ok-image.ensures.looked c.in_err-lines.ensures.looked)

pub returns-clause-looked : goal.returns-clause-looked
returns-clause-looked g c = looked_then c.in_ok-image.ensures.looked c.in_ok-lines.ensures.looked
