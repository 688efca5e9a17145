use Rattle.std.proofs.Common.{ap, ◌∙◌, set}
use Rattle.std.proofs.lemmas.List.{map-set}
use Rattle.lp_store.specs.Slots.{cell_of}
use Rattle.lp_store.proofs.cells.Cells.put.Goals as goal

pub returns : goal.returns
returns c = map-set cell_of c.self.inside.slots.items c.args.at c.args.slot ∙ ap (λ xs. set xs c.args.at (cell_of c.args.slot)) c.self.view_is
