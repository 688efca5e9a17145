use Rattle.std.proofs.Common.{refl}
use Rattle.lp_build.proofs.Holding.{all_held, loads_alike}
use Rattle.lp_build.proofs.order.held_files_are_loaded_alike.Goals as goal

pub returns : goal.returns
returns c = λ held all root s t told told' read read' order order'. loads_alike held 0 order order' refl refl (all_held held s told read) (all_held held t told' read')
