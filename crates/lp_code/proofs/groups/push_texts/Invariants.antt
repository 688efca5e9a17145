use Rattle.std.proofs.Common.{◌≡◌, ◌++◌, map}
use Rattle.lp_code.specs.Groups.{looked_key}
use Rattle.lp_code.specs.inner.Told.{text_key}
use Rattle.lp_code.proofs.groups.push_texts.Given as goal

abbrev pub invariant-loop-key : goal.invariant-loop-key
invariant-loop-key l = map looked_key l.keys.items ≡ map looked_key l.fn.keys.items ++ map text_key (map (λ k. k.now) l.yielded)
