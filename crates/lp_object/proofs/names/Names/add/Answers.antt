use Rattle.std.proofs.Common.{ap, ◌∙◌}
use Rattle.std.specs.Prelude.{not}
use Rattle.lp_object.proofs.Naming.{told_before, told_after}
use Rattle.lp_object.proofs.names.Names.add.Goals as goal

pub returns-clause-new : goal.returns-clause-new
returns-clause-new c = c.in_ok-insert.ensures.added ∙ ap not (told_before (c.in_ok-name.name, c.args.hidden) c.args.name.now c.args.self.now.told.keys c.in_ok-name.ensures.items)

pub returns-clause-known : goal.returns-clause-known
returns-clause-known c = λ n. told_after n (c.in_ok-name.name, c.args.hidden) c.args.name.now c.args.self.now.told.keys _ c.in_ok-name.ensures.items c.in_ok-insert.ensures.keys
