use Rattle.std.proofs.Common.{◌≡◌, ℕ, ◌<◌, List, length, take, sym, ap, ◌∙◌, subst, arith}
use Rattle.std.proofs.lemmas.Grind.{common_steps}
use Rattle.lp_term.specs.Node.{TypeBelow}
use Rattle.lp_term.specs.Shapes.{type_shape}
use Rattle.lp_query.proofs.seen.types_of.Goals as goal

so_many : {A : Type 0} (xs : List A) (i : ℕ) → i < length xs → i ≡ length (take i xs)
so_many xs i h = grind (arith, common_steps)

pub put_type-requires : goal.put_type-requires
put_type-requires c =
    let h : c.loop-number.number < length c.args.bank.now.types = omega arith in
    subst (λ n. TypeBelow n (type_shape c.type_node.result)) (so_many c.args.bank.now.types c.loop-number.number h ∙ ap length (sym c.loop-number.invariant)) c.type_node.ensures.older
