use Rattle.std.proofs.Common.{refl}
use Rattle.lp_pattern.proofs.Keeps.{goes_on_same}
use Rattle.lp_plain.proofs.parts.go_behind.Goals as goal

pub returns-clause-known : goal.returns-clause-known
returns-clause-known c = record { known = record { bank = refl; bindings = refl; scopes = refl; table = refl; standings = refl; index = refl }; frames = goes_on_same c.args.machine.now.frames.items }

pub returns-clause-assumed : goal.returns-clause-assumed
returns-clause-assumed c = record { assumptions = refl; newest = refl }
