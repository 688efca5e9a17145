use Rattle.std.proofs.Common.{◌≡◌, ◌++◌, map, drop}
use Rattle.lp_term.specs.declared.node.TypeId.{TypeId}
use Rattle.lp_verify.specs.inner.FirstNumbers.{first_of}
use Rattle.lp_verify.proofs.types.Types.first_numbers.Given as goal

abbrev pub invariant-loop-id : goal.invariant-loop-id
invariant-loop-id l = l.numbers.items ++ map (λ (t : TypeId). first_of l.fn.self t.0) (drop l.id-index l.fn.ids) ≡ map (λ (t : TypeId). first_of l.fn.self t.0) l.fn.ids
