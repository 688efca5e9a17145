use Rattle.std.proofs.Common.{◌∙◌, sym, ap}
use Rattle.std.specs.Prelude.{option_copied}
use Rattle.lp_build.proofs.Growing.{found_signature}
use Rattle.lp_build.proofs.signatures.Signatures.get.Goals as goal

pub returns : goal.returns
returns c = λ g h. found_signature g c.args.self.now c.args.number c.in-Some.place.now c.found_at.result h (sym c.get.ensures.value ∙ ap option_copied c.in-Some.is) c.found_at.ensures
