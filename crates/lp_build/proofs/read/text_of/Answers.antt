use Rattle.lp_build.proofs.Reading.{text_read}
use Rattle.lp_build.proofs.read.text_of.Goals as goal

pub returns-clause-read : goal.returns-clause-read
returns-clause-read c = text_read c.args.number _ c.as_slice-text.result.now c.as_slice-found.result.now c.as_slice-text.ensures.value
    c.as_slice-found.ensures.value c.in-Ok.ensures c.in_ok-references.ensures
