use Rattle.std.proofs.Common.{refl}
use Rattle.std.specs.Prelude.{set}
use Rattle.lp_module.proofs.Summing.{total_set}
use Rattle.lp_module.proofs.tree.set_total.Goals as goal

pub returns : goal.returns
returns c = total_set c.args.totals.now.items (set c.args.totals.now.items c.args.at c.args.total) c.args.at c.args.total c.requires refl
