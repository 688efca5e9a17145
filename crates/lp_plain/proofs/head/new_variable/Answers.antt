use Rattle.std.proofs.Common.{map}
use Rattle.lp_term.specs.Nodes.{tree}
use Rattle.lp_plain.proofs.HeadPlaces.{new_applied}
use Rattle.lp_plain.proofs.head.new_variable.Goals as goal

pub returns-in-App : goal.returns-in-App
returns-in-App c =
    new_applied c.args.bank.now c.args.seen.now.items (tree c.args.bank.now c.in-App.field-0.0) (map (λ t. t.0) c.in-App.field-1.now) (tree c.args.bank.now c.args.arg.0) c.in-App.ensures.older.2 c.in-App.ensures.tree
