use Rattle.std.proofs.Common.{◌+◌, ◌∙◌, length, map, sym, ap, subst, arith}
use Rattle.lp_lemmas.proofs.Results.{passed_up}
use Rattle.lp_copies.specs.Copies.{IsTooMany as AreTooMany}
use Rattle.lp_copies.specs.Trees.{lists_in, frames_of, Turns, Moves}
use Rattle.lp_copies.proofs.Copied.{rows_are}
use Rattle.lp_model.specs.Readings.{formula_of}
use Rattle.lp_module.specs.Copies.{IsTooMany}
use Rattle.lp_module.specs.Trees.{fault_of}
use Rattle.lp_module.specs.inner.Assembling.{Enters}
use Rattle.lp_module.proofs.Summing.{within_totals}
use Rattle.lp_module.proofs.Uses.{uses_count}
use Rattle.lp_module.proofs.Stepping.{tree_told, root_names, root_kinds, root_constants, root_begun, never_empty, left_within, ended_within, entered_kinds, entered_constants, turn_entered, turn_left, turn_ended}
use Rattle.lp_module.proofs.Tabled.{tables_are}
use Rattle.lp_module.proofs.copies.make.Goals as goal

pub new-making-requires-clause-kinds : goal.new-making-requires-clause-kinds
new-making-requires-clause-kinds c = (root_names c.args.modules.now c.args.root c.args.totals.now.items c.args.uses.now.items c.requires.uses c.requires.plan.0 c.requires.plan.1 c.index-modules-root.result c.requires.root c.index-modules-root.is).0

pub new-making-requires-clause-constants : goal.new-making-requires-clause-constants
new-making-requires-clause-constants c = (root_names c.args.modules.now c.args.root c.args.totals.now.items c.args.uses.now.items c.requires.uses c.requires.plan.0 c.requires.plan.1 c.index-modules-root.result c.requires.root c.index-modules-root.is).1

pub enter-requires-clause-hidden_kinds : goal.enter-requires-clause-hidden_kinds
enter-requires-clause-hidden_kinds c = root_kinds c.args.modules.now c.args.root c.args.totals.now.items c.args.uses.now.items c.requires.uses
    c.requires.plan.0 c.requires.plan.1 c.index-modules-root.result c.requires.root c.index-modules-root.is c.new-making.result.next c.below_of.result
    c.index.result.now c.index.ensures c.new-making.ensures.next c.below_of.ensures.kinds

pub enter-requires-clause-hidden_constants : goal.enter-requires-clause-hidden_constants
enter-requires-clause-hidden_constants c = root_constants c.args.modules.now c.args.root c.args.totals.now.items c.args.uses.now.items c.requires.uses
    c.requires.plan.0 c.requires.plan.1 c.index-modules-root.result c.requires.root c.index-modules-root.is c.new-making.result.next c.below_of.result
    c.index.result.now c.index.ensures c.new-making.ensures.next c.below_of.ensures.constants

pub enter-requires-clause-kinds : goal.enter-requires-clause-kinds
enter-requires-clause-kinds c = λ e. (root_names c.args.modules.now c.args.root c.args.totals.now.items c.args.uses.now.items c.requires.uses c.requires.plan.0 c.requires.plan.1 c.index-modules-root.result c.requires.root c.index-modules-root.is).0

pub enter-requires-clause-constants : goal.enter-requires-clause-constants
enter-requires-clause-constants c = λ e. (root_names c.args.modules.now c.args.root c.args.totals.now.items c.args.uses.now.items c.requires.uses c.requires.plan.0 c.requires.plan.1 c.index-modules-root.result c.requires.root c.index-modules-root.is).1

pub copies-init : goal.copies-init
copies-init c = (
  c.new-copying.ensures.copying,
  c.new-copying.ensures.root,
  root_begun c.args.modules.now c.args.root c.args.totals.now.items c.args.uses.now.items c.requires.uses c.requires.plan.0 c.requires.plan.1
      c.index-modules-root.result c.requires.root c.index-modules-root.is c.new-making.result c.enter.new.self c.enter.new.around.items
      c.index.result.now c.below_of.result c.new-copying.result c.index.ensures c.below_of.ensures.kinds c.below_of.ensures.constants
      c.new-making.ensures.made c.new-making.ensures.none c.new-making.ensures.next c.new-making.ensures.named c.in_ok-enter.ensures.made
      (subst (λ l. Enters c.new-making.result c.enter.new.self l c.enter.new.around.items c.index-modules-root.result (record {
        kinds = c.new-making.result.next.kinds + c.below_of.result.kinds;
        constants = c.new-making.result.next.constants +
            c.below_of.result.constants;
      })) c.new-around.ensures.items c.in_ok-enter.ensures.opened) c.new-copying.ensures.left
      c.new-copying.ensures.frames,
)

pub enter-requires-in-Entered-clause-hidden_kinds : goal.enter-requires-in-Entered-clause-hidden_kinds
enter-requires-in-Entered-clause-hidden_kinds c =
    let t = subst (Turns (lists_in c.args.uses.now.items) c.copies.copying c.go_on.new.self) c.in-Entered.is c.in_ok-at.ensures.turns in
    let m = subst (Moves (lists_in c.args.uses.now.items) (frames_of c.copies.copying) (frames_of c.go_on.new.self)) c.in-Entered.is c.in_ok-at.ensures.moves in
    entered_kinds c.args.modules.now c.args.root c.args.totals.now.items c.args.uses.now.items c.requires.uses c.requires.plan.0 c.requires.plan.1
    c.copies.copying c.go_on.new.self c.copies.making c.copies.around.items c.copies.invariant.2 c.copies.invariant.1 c.in-Entered.at t m
    c.index-modules-at.result c.index-in-Entered.result.now c.below_of-below.result c.index-modules-at.is c.index-in-Entered.ensures
    c.below_of-below.ensures.kinds c.below_of-below.ensures.constants

pub enter-requires-in-Entered-clause-hidden_constants : goal.enter-requires-in-Entered-clause-hidden_constants
enter-requires-in-Entered-clause-hidden_constants c =
    let t = subst (Turns (lists_in c.args.uses.now.items) c.copies.copying c.go_on.new.self) c.in-Entered.is c.in_ok-at.ensures.turns in
    let m = subst (Moves (lists_in c.args.uses.now.items) (frames_of c.copies.copying) (frames_of c.go_on.new.self)) c.in-Entered.is c.in_ok-at.ensures.moves in
    entered_constants c.args.modules.now c.args.root c.args.totals.now.items c.args.uses.now.items c.requires.uses c.requires.plan.0 c.requires.plan.1
    c.copies.copying c.go_on.new.self c.copies.making c.copies.around.items c.copies.invariant.2 c.copies.invariant.1 c.in-Entered.at t m
    c.index-modules-at.result c.index-in-Entered.result.now c.below_of-below.result c.index-modules-at.is c.index-in-Entered.ensures
    c.below_of-below.ensures.kinds c.below_of-below.ensures.constants

pub enter-requires-in-Entered-clause-kinds : goal.enter-requires-in-Entered-clause-kinds
enter-requires-in-Entered-clause-kinds c = λ e. absurd (never_empty c.args.modules.now c.args.root c.args.totals.now.items c.args.uses.now.items
    c.requires.uses c.requires.plan.0 c.requires.plan.1 c.copies.copying c.go_on.new.self c.copies.making c.copies.around.items c.copies.invariant.2
    c.copies.invariant.1 e)

pub enter-requires-in-Entered-clause-constants : goal.enter-requires-in-Entered-clause-constants
enter-requires-in-Entered-clause-constants c = λ e. absurd (never_empty c.args.modules.now c.args.root c.args.totals.now.items c.args.uses.now.items
    c.requires.uses c.requires.plan.0 c.requires.plan.1 c.copies.copying c.go_on.new.self c.copies.making c.copies.around.items c.copies.invariant.2
    c.copies.invariant.1 e)

pub copies-preserved-in-Continue-branch-4 : goal.copies-preserved-in-Continue-branch-4
copies-preserved-in-Continue-branch-4 c =
    let t = subst (Turns (lists_in c.args.uses.now.items) c.copies.copying c.go_on.new.self) c.in-Entered.is c.in_ok-at.ensures.turns in
    let m = subst (Moves (lists_in c.args.uses.now.items) (frames_of c.copies.copying) (frames_of c.go_on.new.self)) c.in-Entered.is c.in_ok-at.ensures.moves in (
      t.0,
      t.1 ∙ c.copies.invariant.1,
      turn_entered c.args.modules.now c.args.root c.args.totals.now.items c.args.uses.now.items c.requires.uses
          c.requires.plan.0 c.requires.plan.1 c.copies.copying c.go_on.new.self c.copies.making c.copies.around.items c.copies.invariant.2
          c.copies.invariant.1 c.in-Entered.at t m c.index-modules-at.result c.index-in-Entered.result.now c.below_of-below.result c.index-modules-at.is
          c.index-in-Entered.ensures c.below_of-below.ensures.kinds c.below_of-below.ensures.constants c.enter-in-Entered.new.self
          c.enter-in-Entered.new.around.items c.in_ok-enter-in-Entered.ensures.made c.in_ok-enter-in-Entered.ensures.opened,
    )

pub leave-requires-clause-kinds : goal.leave-requires-clause-kinds
leave-requires-clause-kinds c =
    let t = subst (Turns (lists_in c.args.uses.now.items) c.copies.copying c.go_on.new.self) c.in-Left.is c.in_ok-at.ensures.turns in
    let m = subst (Moves (lists_in c.args.uses.now.items) (frames_of c.copies.copying) (frames_of c.go_on.new.self)) c.in-Left.is c.in_ok-at.ensures.moves in
    λ o rest e. (left_within c.args.modules.now c.args.root c.args.totals.now.items c.args.uses.now.items c.requires.uses c.requires.plan.0
    c.requires.plan.1 c.copies.copying c.go_on.new.self c.copies.making c.copies.around.items c.copies.invariant.2 c.copies.invariant.1
    c.in-Left.field-0 t m o rest e).0

pub leave-requires-clause-constants : goal.leave-requires-clause-constants
leave-requires-clause-constants c =
    let t = subst (Turns (lists_in c.args.uses.now.items) c.copies.copying c.go_on.new.self) c.in-Left.is c.in_ok-at.ensures.turns in
    let m = subst (Moves (lists_in c.args.uses.now.items) (frames_of c.copies.copying) (frames_of c.go_on.new.self)) c.in-Left.is c.in_ok-at.ensures.moves in
    λ o rest e. (left_within c.args.modules.now c.args.root c.args.totals.now.items c.args.uses.now.items c.requires.uses c.requires.plan.0
    c.requires.plan.1 c.copies.copying c.go_on.new.self c.copies.making c.copies.around.items c.copies.invariant.2 c.copies.invariant.1
    c.in-Left.field-0 t m o rest e).1

pub copies-preserved : goal.copies-preserved
copies-preserved c =
    let t = subst (Turns (lists_in c.args.uses.now.items) c.copies.copying c.go_on.new.self) c.in-Left.is c.in_ok-at.ensures.turns in
    let m = subst (Moves (lists_in c.args.uses.now.items) (frames_of c.copies.copying) (frames_of c.go_on.new.self)) c.in-Left.is c.in_ok-at.ensures.moves in (
      t.0,
      t.1 ∙ c.copies.invariant.1,
      turn_left c.args.modules.now c.args.root c.args.totals.now.items c.args.uses.now.items c.requires.uses
          c.requires.plan.0 c.requires.plan.1 c.copies.copying c.go_on.new.self c.copies.making c.copies.around.items c.copies.invariant.2
          c.copies.invariant.1 c.in-Left.field-0 t m c.leave.new.self c.leave.new.around.items c.in_ok-leave-in-Left.ensures,
    )

pub leave-requires-in-Ended-clause-kinds : goal.leave-requires-in-Ended-clause-kinds
leave-requires-in-Ended-clause-kinds c =
    let t = subst (Turns (lists_in c.args.uses.now.items) c.copies.copying c.go_on.new.self) c.in-Ended.is c.in_ok-at.ensures.turns in
    let m = subst (Moves (lists_in c.args.uses.now.items) (frames_of c.copies.copying) (frames_of c.go_on.new.self)) c.in-Ended.is c.in_ok-at.ensures.moves in
    λ o rest e. (ended_within c.args.modules.now c.args.root c.args.totals.now.items c.args.uses.now.items c.requires.uses c.requires.plan.0
    c.requires.plan.1 c.copies.copying c.go_on.new.self c.copies.making c.copies.around.items c.copies.invariant.2 c.copies.invariant.1
    c.in-Ended.field-0 t m o rest e).0

pub leave-requires-in-Ended-clause-constants : goal.leave-requires-in-Ended-clause-constants
leave-requires-in-Ended-clause-constants c =
    let t = subst (Turns (lists_in c.args.uses.now.items) c.copies.copying c.go_on.new.self) c.in-Ended.is c.in_ok-at.ensures.turns in
    let m = subst (Moves (lists_in c.args.uses.now.items) (frames_of c.copies.copying) (frames_of c.go_on.new.self)) c.in-Ended.is c.in_ok-at.ensures.moves in
    λ o rest e. (ended_within c.args.modules.now c.args.root c.args.totals.now.items c.args.uses.now.items c.requires.uses c.requires.plan.0
    c.requires.plan.1 c.copies.copying c.go_on.new.self c.copies.making c.copies.around.items c.copies.invariant.2 c.copies.invariant.1
    c.in-Ended.field-0 t m o rest e).1

pub returns-in-Ended-clause-copied : goal.returns-in-Ended-clause-copied
returns-in-Ended-clause-copied c =
    let t = subst (Turns (lists_in c.args.uses.now.items) c.copies.copying c.go_on.new.self) c.in-Ended.is c.in_ok-at.ensures.turns in
    let m = subst (Moves (lists_in c.args.uses.now.items) (frames_of c.copies.copying) (frames_of c.go_on.new.self)) c.in-Ended.is c.in_ok-at.ensures.moves in
    let (copied, top, copy, are, order, clauses, tables) = turn_ended c.args.modules.now c.args.root c.args.totals.now.items c.args.uses.now.items c.requires.uses
    c.requires.plan.0 c.requires.plan.1 c.copies.copying c.go_on.new.self c.copies.making c.copies.around.items c.copies.invariant.2
    c.copies.invariant.1 c.in-Ended.field-0 t m c.leave-in-Ended.new.self c.leave-in-Ended.new.around.items c.in_ok-leave-in-Ended.ensures in
    (copied, are.are, order, ap (λ b. map (formula_of b) c.finish.result.program.clauses.items) c.finish.ensures.bank ∙ ap (map (formula_of c.leave-in-Ended.new.self.bank)) c.finish.ensures.same ∙ clauses, tables_are c.args.modules.now c.args.root top copy copied c.leave-in-Ended.new.self c.finish.result are tables c.finish.ensures.bank c.finish.ensures.named)

pub below_of-requires : goal.below_of-requires
below_of-requires c =
    let n = uses_count c.args.modules.now c.args.uses.now.items c.requires.uses in
    within_totals c.args.uses.now.items c.args.root c.index.result.now (length c.args.totals.now.items) (omega (arith, c.requires.root, n)) c.index.ensures (c.requires.totals ∙ sym n) c.requires.within

pub below_of-below-requires : goal.below_of-below-requires
below_of-below-requires c =
    let n = uses_count c.args.modules.now c.args.uses.now.items c.requires.uses in
    let r = rows_are c.args.uses.now.items in
    let t = subst (Turns (lists_in c.args.uses.now.items) c.copies.copying c.go_on.new.self) c.in-Entered.is c.in_ok-at.ensures.turns in
    within_totals c.args.uses.now.items c.in-Entered.at c.index-in-Entered.result.now (length c.args.totals.now.items) (omega (arith, t.4, r)) c.index-in-Entered.ensures (c.requires.totals ∙ sym n) c.requires.within

pub returns-in_err-at-clause-refused : goal.returns-in_err-at-clause-refused
returns-in_err-at-clause-refused c =
    passed_up c.from_residual-in_err-at.result (fault_of c.in_err-at.field-0.0) (IsTooMany (lists_in c.args.uses.now.items) c.args.root) c.from_residual-in_err-at.ensures.1
    (tree_told (lists_in c.args.uses.now.items) c.args.root c.in_err-at.field-0.0 (subst (λ m. AreTooMany (lists_in c.args.uses.now.items) m c.in_err-at.field-0.0) c.copies.invariant.1 c.in_err-at.ensures.refused))

pub finish-requires : goal.finish-requires
finish-requires c = c.in_ok-leave-in-Ended.ensures.made c.copies.invariant.2.sofar

pub leave-requires-clause-some : goal.leave-requires-clause-some
leave-requires-clause-some c = λ e. never_empty c.args.modules.now c.args.root c.args.totals.now.items c.args.uses.now.items
    c.requires.uses c.requires.plan.0 c.requires.plan.1 c.copies.copying c.go_on.new.self c.copies.making c.copies.around.items c.copies.invariant.2
    c.copies.invariant.1 e

pub leave-requires-in-Ended-clause-some : goal.leave-requires-in-Ended-clause-some
leave-requires-in-Ended-clause-some c = λ e. never_empty c.args.modules.now c.args.root c.args.totals.now.items c.args.uses.now.items
    c.requires.uses c.requires.plan.0 c.requires.plan.1 c.copies.copying c.go_on.new.self c.copies.making c.copies.around.items c.copies.invariant.2
    c.copies.invariant.1 e
