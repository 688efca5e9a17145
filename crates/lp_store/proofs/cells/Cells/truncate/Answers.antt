use Rattle.std.proofs.Common.{ap, ◌∙◌, take}
use Rattle.lp_lemmas.proofs.Lists.{map_take}
use Rattle.lp_store.specs.Slots.{cell_of, cells_of}
use Rattle.lp_store.proofs.cells.Cells.truncate.Goals as goal

pub returns : goal.returns
returns c = ap cells_of c.truncate.ensures.items ∙ map_take cell_of c.args.len c.self.inside.slots.items ∙ ap (take c.args.len) c.self.view_is
