use Rattle.std.proofs.Common.{◌∙◌, ◌-◌, sym, ap, arith, Some, length, refl}
use Rattle.lp_term.specs.Nodes.{tree}
use Rattle.lp_pattern.specs.declared.look.Spine.{Spine}
use Rattle.lp_pattern.proofs.Falls.{value_falls}
use Rattle.lp_pattern.proofs.Walking.{value_goes, value_stands}
use Rattle.lp_pattern.proofs.look.put_value.Goals as goal

pub returns-clause-stands : goal.returns-clause-stands
returns-clause-stands c =
    value_stands c.args.bank.now c.inside.new.self (record { top = c.in_ok-top.top; arguments = c.args.spine.now.arguments; whole = c.alone-spine.result; left = c.args.spine.now.left; values = c.args.spine.now.values - 1 })
    c.in_ok-top.ensures.kept c.requires.stands.arguments c.in_ok-top.ensures.within c.alone-spine.ensures

pub returns-clause-followed : goal.returns-clause-followed
returns-clause-followed c = λ r i. (
  0,
  omega arith,
  ap (λ x. Some x)
      (value_goes r c.args.bank.now c.inside.new.self c.args.bindings.now c.args.id c.args.level c.in-Some.value c.in_ok-top.top (tree c.args.bank.now c.args.spine.now.top.0) c.args.spine.now.arguments.items i
      (sym c.value.ensures ∙ c.in-Some.is) c.requires.top c.in_ok-top.ensures.kept c.requires.stands.arguments c.in_ok-top.ensures.tree),
)

pub returns-clause-falls : goal.returns-clause-falls
returns-clause-falls c =
    let new : Spine = record { top = c.in_ok-top.top; arguments = c.args.spine.now.arguments; whole = c.alone-spine.result; left = c.args.spine.now.left; values = c.args.spine.now.values - 1 } in
    value_falls (length c.args.bindings.now.terms.entries) c.args.spine.now new refl (omega (arith, c.if-spine-eq0.false)) (omega (arith, c.in_ok-top.ensures.within, c.term_count-count.ensures.few))
