use Rattle.lp_sig.proofs.OneSignature.{one_signature}
use Rattle.lp_sig.proofs.laws.texts_have_one_signature.Goals as goal

pub returns : goal.returns
returns c = one_signature
