use Rattle.std.proofs.Common.{map}
use Rattle.lp_term.specs.Nodes.{tree}
use Rattle.lp_show.proofs.Stacks.{no_application}
use Rattle.lp_show.proofs.write.bare_body.Goals as goal

pub returns-in-App : goal.returns-in-App
returns-in-App c = absurd (no_application (tree c.args.bank.now) (map (λ t. t.0) c.in-App.field-1.now) (tree c.args.bank.now c.in-App.field-0.0) (tree c.args.bank.now c.args.spine.now.head.0) c.in-App.ensures.older.2 c.in-App.ensures.tree c.requires.alone)
