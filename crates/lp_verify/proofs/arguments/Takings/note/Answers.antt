use Rattle.std.proofs.Common.{◌∙◌, ap}
use Rattle.std.specs.Prelude.{◌||◌, nat_lt}
use Rattle.lp_verify.specs.inner.Taken.{is_before}
use Rattle.lp_verify.proofs.FirstTaken.{one_noted}
use Rattle.lp_verify.proofs.arguments.Takings.note.Goals as goal

pub returns : goal.returns
returns c = λ x n. one_noted c.args.self.now.first c.insert.new.self c.args.register c.args.number c.earlier-first.result c.in_ok-insert.ensures.updates.0 (λ q. c.earlier-first.ensures q ∙ ap (λ o. nat_lt c.args.number q || is_before q o) c.first.ensures) x n
