use Rattle.std.proofs.Common.{ap, ◌∙◌}
use Rattle.lp_calculus.specs.Types.{con, no_types}
use Rattle.lp_cert.proofs.Deriving.{kind_pushes}
use Rattle.lp_cert.proofs.Visiting.{kind_held}
use Rattle.lp_cert.proofs.typing.Typing.kind.Goals as goal

pub returns-clause-pushes : goal.returns-clause-pushes
returns-clause-pushes c = kind_pushes _ c.args.self.now c.closed.new.self c.closed.result c.in_ok-of.of _ c.in_ok-of.ensures.within (c.in_ok-of.ensures.tree ∙ ap (λ n. con n no_types) c.number.ensures.number) c.closed.ensures.pushes

pub returns-clause-held : goal.returns-clause-held
returns-clause-held c = kind_held _ c.args.self.now c.closed.new.self c.closed.result c.in_ok-of.of _ tt (c.in_ok-of.ensures.tree ∙ ap (λ n. con n no_types) c.number.ensures.number) c.closed.ensures.held
