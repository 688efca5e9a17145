use Rattle.lp_sig.proofs.FreeTypes.{types_free}
use Rattle.lp_sig.proofs.laws.types_hold_no_parameters.Goals as goal

pub returns : goal.returns
returns c = types_free
