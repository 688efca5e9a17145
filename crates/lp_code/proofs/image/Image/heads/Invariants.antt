use Rattle.std.proofs.Common.{◌≡◌, map}
use Rattle.lp_code.proofs.image.Image.heads.Given as goal

abbrev pub invariant-loop-constant : goal.invariant-loop-constant
invariant-loop-constant l = l.heads.items ≡ map (λ k. k.now) l.yielded
