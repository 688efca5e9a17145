use Rattle.std.proofs.Common.{refl}
use Rattle.lp_judge.proofs.Negations.{file_tells}
use Rattle.lp_judge.proofs.unsupported.without_not_in_files.Goals as goal

pub returns-in-Ok-Some-clause-first : goal.returns-in-Ok-Some-clause-first
returns-in-Ok-Some-clause-first c = λ read query.
    file_tells c.args.sources.now.files.items query _ c.named.result c.text_refused.result c.named.ensures.text refl refl
    (rw c.in-Ok-Some.field-0-is at (c.in-Ok-Some.ensures read)) c.text_refused.ensures.says
