use Rattle.std.proofs.Common.{◌≢◌, ◌≤◌, length, arith}
use Rattle.lp_term.specs.Nodes.{type_tree}
use Rattle.lp_type_unify.proofs.Binds.{chosen_drop, chosen_older, chosen_younger, chosen_left, chosen_right, checked_none, made_instance}
use Rattle.lp_type_unify.proofs.looking.choose.Goals as goal

pub returns-then-x-y : goal.returns-then-x-y
returns-then-x-y c = λ θ l k. chosen_drop (type_tree c.args.bank.now) θ c.args.left c.args.right _ _ c.in-Some.ensures c.in-Some-variable_of.ensures c.if-x-y.true l k

pub returns-then-x-y-2 : goal.returns-then-x-y-2
returns-then-x-y-2 c = λ θ l k. chosen_older (type_tree c.args.bank.now) (length c.args.bank.now.types) θ c.args.left c.args.right _ _ c.requires.left c.in-Some.ensures c.in-Some-variable_of.ensures c.if-x-y-2.true l k

pub returns-else-x-y-2 : goal.returns-else-x-y-2
returns-else-x-y-2 c = λ θ l k.
    let ne : c.in-Some.x ≢ c.in-Some-variable_of.y = c.if-x-y.false in
    let le : c.in-Some-variable_of.y ≤ c.in-Some.x = c.if-x-y-2.false in
    chosen_younger (type_tree c.args.bank.now) (length c.args.bank.now.types) θ c.args.left c.args.right _ _ c.requires.right c.in-Some.ensures c.in-Some-variable_of.ensures (omega (arith, ne, le)) l k

pub returns-in-None-variable_of : goal.returns-in-None-variable_of
returns-in-None-variable_of c = λ θ l k. chosen_left (type_tree c.args.bank.now) (length c.args.bank.now.types) θ c.args.left c.args.right _ c.requires.right c.in-Some.ensures c.in-None-variable_of.ensures l

pub returns-in-Some-variable_of-2 : goal.returns-in-Some-variable_of-2
returns-in-Some-variable_of-2 c = λ θ l k. chosen_right (type_tree c.args.bank.now) (length c.args.bank.now.types) θ c.args.left c.args.right _ c.requires.left c.in-Some-variable_of-2.ensures c.in-None.ensures k

pub returns-in-None-variable_of-2 : goal.returns-in-None-variable_of-2
returns-in-None-variable_of-2 c = λ θ l k. (
  c.in-None.ensures,
  c.in-None-variable_of-2.ensures,
  checked_none _ _ (made_instance θ (type_tree c.args.bank.now c.args.left.0) c.in-None.ensures) (made_instance θ (type_tree c.args.bank.now c.args.right.0) c.in-None-variable_of-2.ensures),
)
