use Rattle.std.proofs.Common.{◌≡◌, length, take}
use Rattle.std.specs.Prelude.{All, zip}
use Rattle.lp_module.specs.Sentences.{AreWithin}
use Rattle.lp_build.specs.Compiled.{ArePaired}
use Rattle.lp_build.specs.Uncoded.{IsWithinCode}
use Rattle.lp_build.specs.inner.Coded.{IsCoded}
use Rattle.lp_build.proofs.images.all_objects.Given as goal

abbrev pub invariant-loop-module : goal.invariant-loop-module
invariant-loop-module l =
    ArePaired IsCoded (zip l.fn.modules.items l.fn.named.items) (length l.yielded) l.objects.items
    × (All (λ m. AreWithin m.bank m.clauses.items) l.fn.modules.items → length l.fn.named.items ≡ length l.fn.modules.items → All IsWithinCode (take (length l.yielded) l.fn.modules.items))
