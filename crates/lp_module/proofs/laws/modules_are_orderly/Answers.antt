use Rattle.std.proofs.Common.{length}
use Rattle.lp_module.proofs.laws.modules_are_orderly.Goals as goal

pub returns : goal.returns
returns c = λ source text expected own used m h. record {
  exported_kinds = length own.kinds.items;
  exported_constants = length own.constants.items;
  kinds = h.hidden_kinds;
  constants = h.hidden_constants;
}
