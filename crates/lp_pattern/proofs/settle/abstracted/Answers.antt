use Rattle.lp_pattern.proofs.SettleMoves.{abstraction_moves}
use Rattle.std.proofs.Common.{◌∷◌, [], ap, arith, length}
use Rattle.std.proofs.lemmas.List.{length-append}
use Rattle.lp_pattern.proofs.settle.abstracted.Goals as goal

pub returns-clause-moves : goal.returns-clause-moves
returns-clause-moves c =
    abstraction_moves c.args.bank.now c.put_abstraction.new.bank c.args.bindings.now c.args.side.now.eigens.items c.args.old c.args.body c.in-Some.made c.in_ok-id.id c.args.work.now.tasks.items c.args.work.now.made.items c.pop.new.self.items
    c.push-2.new.self.items c.in_ok-id.ensures.kept c.in-Some.ensures.items c.in_ok-id.ensures.within c.in_ok-id.ensures.tree c.in_ok-push-2.ensures.items

pub unreachable-requires : goal.unreachable-requires
unreachable-requires c = omega (arith, c.requires, c.in_default.ensures.cases.0, c.args.work.now.made.ok)

pub returns-then-made-body-clause-count : goal.returns-then-made-body-clause-count
returns-then-made-body-clause-count c =
    omega (arith, ap length c.in-Some.ensures.items, ap length c.in_ok-push.ensures.items, length-append c.pop.new.self.items (c.in-Some.made ∷ []), length-append c.pop.new.self.items (c.args.old ∷ []))

pub returns-clause-count : goal.returns-clause-count
returns-clause-count c =
    omega (arith, ap length c.in-Some.ensures.items, ap length c.in_ok-push-2.ensures.items, length-append c.pop.new.self.items (c.in-Some.made ∷ []), length-append c.pop.new.self.items (c.in_ok-id.id ∷ []))
