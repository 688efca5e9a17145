use Rattle.std.proofs.Common.{◌≡◌, ℕ, length, reverse, List}
use Rattle.lp_verify.specs.declared.registers.Registers.{Registers}
use Rattle.lp_verify.specs.inner.Sides.{sides_in, sides_settled, AreEnds}
use Rattle.lp_verify.specs.inner.Stack.{type_heights, term_heights, IsSettled}
use Rattle.lp_verify.proofs.effect.settle.Given as goal

abbrev pub decreases-loop-blocks : goal.decreases-loop-blocks
decreases-loop-blocks l = length (sides_in l.blocks.frames.items)

abbrev pub invariant-loop-blocks : goal.invariant-loop-blocks
invariant-loop-blocks l =
    let first = l.fn.blocks.frames.items in
    let now = l.blocks.frames.items in
    (sides_settled l.fn.place (sides_in now) ≡ sides_settled l.fn.place (sides_in first))
    × (AreEnds (reverse first) → AreEnds (reverse now))
    × ((ks : List ℕ) (new : Registers _) → IsSettled l.fn.place (sides_in now) (type_heights (reverse now)) l.types ks new → IsSettled l.fn.place (sides_in first) (type_heights (reverse first)) l.fn.types ks new)
    × ((ks : List ℕ) (new : Registers _) → IsSettled l.fn.place (sides_in now) (term_heights (reverse now)) l.terms ks new → IsSettled l.fn.place (sides_in first) (term_heights (reverse first)) l.fn.terms ks new)
