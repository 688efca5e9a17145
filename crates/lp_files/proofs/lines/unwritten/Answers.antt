use Rattle.std.proofs.Common.{◌<◌, inl, refl}
use Rattle.lp_files.proofs.Uncompiling.{limit_said}
use Rattle.lp_files.proofs.lines.unwritten.Goals as goal

pub returns-in-Limit-clause-says : goal.returns-in-Limit-clause-says
returns-in-Limit-clause-says c = λ n h. limit_said (16777216 < n) c.in-Limit.limit c.args.refusal c.limited.result c.in-Limit.is h c.limited.ensures.says

pub returns-in-Memory-clause-says : goal.returns-in-Memory-clause-says
returns-in-Memory-clause-says c = λ n h. inl refl
