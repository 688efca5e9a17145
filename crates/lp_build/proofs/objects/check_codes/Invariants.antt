use Rattle.std.proofs.Common.{length, take}
use Rattle.std.specs.Prelude.{All}
use Rattle.lp_module.specs.Sentences.{AreWithin}
use Rattle.lp_build.specs.Uncoded.{IsWithinCode}
use Rattle.lp_build.proofs.objects.check_codes.Given as goal

abbrev pub invariant-loop-module : goal.invariant-loop-module
invariant-loop-module l = All (λ m. AreWithin m.bank m.clauses.items) l.fn.modules.items → All IsWithinCode (take (length l.yielded) l.fn.modules.items)
