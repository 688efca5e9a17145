use Rattle.std.proofs.Common.{arith, sym, ap, refl, map, ◌∙◌}
use Rattle.lp_calculus.specs.Term.{apply}
use Rattle.lp_term.specs.Nodes.{tree}
use Rattle.lp_pattern.proofs.SettleMoves.{application_moves, application_stays}
use Rattle.std.proofs.Common.{length, ◌∷◌, []}
use Rattle.std.proofs.lemmas.List.{length-append}
use Rattle.lp_pattern.proofs.settle.applied.Goals as goal

pub returns-then-are_same-clause-moves : goal.returns-then-are_same-clause-moves
returns-then-are_same-clause-moves c =
    application_stays c.args.bank.now c.args.bindings.now c.args.side.now.eigens.items c.args.application c.args.work.now.tasks.items c.args.work.now.made.items c.popped.new.made.items c.in_ok-arguments.arguments.items c.push.new.self.items
    c.in_ok-arguments.ensures.made (omega (arith, c.in_ok-arguments.ensures.count, c.len.ensures, c.args.application.arguments.ok)) c.if-not-application.true
    (sym c.as_slice.ensures.value ∙ c.if-are_same.ensures refl ∙ c.as_slice-then-not-application.ensures.value) c.in_ok-push.ensures.items

pub returns-clause-moves : goal.returns-clause-moves
returns-clause-moves c =
    application_moves c.args.bank.now c.put_application.new.bank c.args.bindings.now c.args.side.now.eigens.items c.args.application c.in_ok-id.id c.args.work.now.tasks.items c.args.work.now.made.items c.popped.new.made.items
    c.in_ok-arguments.arguments.items c.push-2.new.self.items c.in_ok-id.ensures.kept c.in_ok-arguments.ensures.made (omega (arith, c.in_ok-arguments.ensures.count, c.len.ensures, c.args.application.arguments.ok))
    c.in_ok-id.ensures.within (c.in_ok-id.ensures.tree ∙ ap (λ l. apply (tree c.args.bank.now c.args.application.head.0) (map (λ t. tree c.args.bank.now t.0) l)) c.as_slice-2.ensures.value) c.in_ok-push-2.ensures.items

pub popped-requires : goal.popped-requires
popped-requires c = omega (arith, c.requires, c.len.ensures, c.args.application.arguments.ok)

pub returns-then-are_same-clause-count : goal.returns-then-are_same-clause-count
returns-then-are_same-clause-count c =
    omega (
      arith,
      ap length c.in_ok-arguments.ensures.made,
      length-append c.popped.new.made.items c.in_ok-arguments.arguments.items,
      c.in_ok-arguments.ensures.count,
      c.len.ensures,
      c.args.application.arguments.ok,
      ap length c.in_ok-push.ensures.items,
      length-append c.popped.new.made.items (c.args.application.old ∷ []),
    )

pub returns-clause-count : goal.returns-clause-count
returns-clause-count c =
    omega (
      arith,
      ap length c.in_ok-arguments.ensures.made,
      length-append c.popped.new.made.items c.in_ok-arguments.arguments.items,
      c.in_ok-arguments.ensures.count,
      c.len.ensures,
      c.args.application.arguments.ok,
      ap length c.in_ok-push-2.ensures.items,
      length-append c.popped.new.made.items (c.in_ok-id.id ∷ []),
    )
