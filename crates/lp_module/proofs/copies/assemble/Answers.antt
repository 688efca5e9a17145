use Rattle.std.proofs.Common.{◌≤◌, ◌∙◌, [], ◌∷◌, sym, ap, subst, arith, length, map}
use Rattle.std.proofs.lemmas.List.{length-map}
use Rattle.lp_copies.specs.Copies.{Copies}
use Rattle.lp_copies.specs.declared.names.TheConstants.{END_OF_IMAGE_NUMBERS}
use Rattle.lp_model.specs.Readings.{formula_of}
use Rattle.lp_module.specs.Copies.{counts_of, total}
use Rattle.lp_module.specs.inner.Assembling.{AreTotals, in_all, own_kinds, own_constants}
use Rattle.lp_module.proofs.Uses.{order_within, uses_count}
use Rattle.lp_module.proofs.Totals.{copies_behind}
use Rattle.lp_module.proofs.Composing.{clauses_count}
use Rattle.lp_module.proofs.copies.assemble.Goals as goal

pub end_of_kinds-requires-clause-order : goal.end_of_kinds-requires-clause-order
end_of_kinds-requires-clause-order c = order_within c.in_ok-uses.uses.items c.args.modules.now c.args.root c.in_ok-order.order.items c.in_ok-uses.ensures.uses (omega (arith, c.if-root-modules.false)) c.in_ok-order.ensures.copies

pub end_of_constants-requires-clause-order : goal.end_of_constants-requires-clause-order
end_of_constants-requires-clause-order c = order_within c.in_ok-uses.uses.items c.args.modules.now c.args.root c.in_ok-order.order.items c.in_ok-uses.ensures.uses (omega (arith, c.if-root-modules.false)) c.in_ok-order.ensures.copies

pub totals_of-requires-clause-modules : goal.totals_of-requires-clause-modules
totals_of-requires-clause-modules c = sym (uses_count c.args.modules.now c.in_ok-uses.uses.items c.in_ok-uses.ensures.uses)

pub totals_of-requires-clause-order : goal.totals_of-requires-clause-order
totals_of-requires-clause-order c = order_within c.in_ok-uses.uses.items c.args.modules.now c.args.root c.in_ok-order.order.items c.in_ok-uses.ensures.uses (omega (arith, c.if-root-modules.false)) c.in_ok-order.ensures.copies

pub totals_of-requires-clause-behind : goal.totals_of-requires-clause-behind
totals_of-requires-clause-behind c = copies_behind _ (c.args.root ∷ []) c.in_ok-order.order.items c.in_ok-order.ensures.copies []

pub make-requires-clause-plan : goal.make-requires-clause-plan
make-requires-clause-plan c =
    let us = c.in_ok-uses.ensures.uses in
    let (is_kinds, kinds) = c.in_ok-end_of_kinds.ensures.sum in
    let (is_constants, constants) = c.in_ok-end_of_constants.ensures.sum in (
      c.in_ok-order.order.items,
      record {
        copies = subst (λ u. Copies u (c.args.root ∷ []) c.in_ok-order.order.items) us c.in_ok-order.ensures.copies;
        kinds = subst (λ u. AreTotals u (own_kinds c.args.modules.now) (in_all (λ h. h.kinds) c.in_ok-totals.totals.items) c.in_ok-order.order.items) us c.in_ok-totals.ensures.kinds;
        constants = subst (λ u. AreTotals u (own_constants c.args.modules.now) (in_all (λ h. h.constants) c.in_ok-totals.totals.items) c.in_ok-order.order.items) us c.in_ok-totals.ensures.constants;
        kinds_fit = subst (λ n. n ≤ 1048576) is_kinds kinds;
        constants_fit = subst (λ n. n ≤ 1048576) is_constants constants;
      },
    )

pub returns-clause-program : goal.returns-clause-program
returns-clause-program c =
    let us = c.in_ok-uses.ensures.uses in
    let (copied, are, copies, clauses, tables) = c.in_ok-made.ensures.copied in
    let (is_kinds, kinds) = c.in_ok-end_of_kinds.ensures.sum in
    let (is_constants, constants) = c.in_ok-end_of_constants.ensures.sum in
    let same = c.in_ok-order.ensures.only (map (λ c. c.member) copied) (subst (λ u. Copies u (c.args.root ∷ []) (map (λ c. c.member) copied)) (sym us) copies) in
    record {
      copied = copied;
      are = are;
      clause_list = clauses;
      tables = tables;
      order = c.in_ok-order.order.items;
      members = same;
      copies = subst (λ u. Copies u (c.args.root ∷ []) c.in_ok-order.order.items) us c.in_ok-order.ensures.copies;
      few = c.in_ok-order.ensures.few;
      kinds_fit = subst (λ n. n ≤ END_OF_IMAGE_NUMBERS) is_kinds kinds;
      constants_fit = subst (λ n. n ≤ END_OF_IMAGE_NUMBERS) is_constants constants;
      count = sym (length-map c.in_ok-made.made.program.clauses.items (formula_of c.in_ok-made.made.program.bank)) ∙ ap length clauses ∙ clauses_count c.args.modules.now copied ∙ ap (total counts_of c.args.modules.now) same;
      clauses = c.in_ok-made.ensures.clauses;
      constants = c.in_ok-made.ensures.constants;
      typed = c.in_ok-made.ensures.typed;
      hidden_kinds = c.in_ok-made.ensures.hidden_kinds;
      hidden_constants = c.in_ok-made.ensures.hidden_constants;
    }

pub returns-clause-copies : goal.returns-clause-copies
returns-clause-copies c =
    let us = c.in_ok-uses.ensures.uses in
    let (copied, are, copies, clauses, tables) = c.in_ok-made.ensures.copied in
    let (is_kinds, kinds) = c.in_ok-end_of_kinds.ensures.sum in
    let (is_constants, constants) = c.in_ok-end_of_constants.ensures.sum in
    let same = c.in_ok-order.ensures.only (map (λ c. c.member) copied) (subst (λ u. Copies u (c.args.root ∷ []) (map (λ c. c.member) copied)) (sym us) copies) in (
      c.in_ok-order.order.items,
      subst (λ u. Copies u (c.args.root ∷ []) c.in_ok-order.order.items) us c.in_ok-order.ensures.copies,
      c.in_ok-order.ensures.few,
      subst (λ n. n ≤ END_OF_IMAGE_NUMBERS) is_kinds kinds,
      subst (λ n. n ≤ END_OF_IMAGE_NUMBERS) is_constants constants,
      sym (length-map c.in_ok-made.made.program.clauses.items (formula_of c.in_ok-made.made.program.bank)) ∙ ap length clauses ∙ clauses_count c.args.modules.now copied ∙ ap (total counts_of c.args.modules.now) same,
    )
