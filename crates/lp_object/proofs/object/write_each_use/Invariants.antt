use Rattle.std.proofs.Common.{◌≡◌, map, take}
use Rattle.std.specs.List.{flat_map}
use Rattle.lp_bytes.specs.Writing.{text_of, more}
use Rattle.lp_object.specs.Numbers.{spelled_text}
use Rattle.lp_object.proofs.object.write_each_use.Given as goal

abbrev pub invariant-loop-name : goal.invariant-loop-name
invariant-loop-name l = text_of l.writer ≡ more (text_of l.fn.writer) (flat_map spelled_text (map (λ u. u.items) (take l.name-index l.uses)))
