use Rattle.std.proofs.Common.{◌<◌, ◌≤◌, ◌∙◌, length, map, reverse, sym, subst}
use Rattle.std.specs.Prelude.{All}
use Rattle.lp_lemmas.proofs.Results.{passed_up}
use Rattle.lp_copies.specs.Trees.{lists_in}
use Rattle.lp_link.specs.Ends.{hidden_kinds, hidden_constants}
use Rattle.lp_link.specs.Refusals.{IsLinkRefusal}
use Rattle.lp_link.specs.inner.Members.{AreAllCompared, IsCompareRefusal}
use Rattle.lp_link.proofs.Uses.{uses_count}
use Rattle.lp_link.proofs.Sums.{order_inside}
use Rattle.lp_link.proofs.Refusing.{compare_refused, all_same, few_copies, few_names, names_refused, counts_within, of_members}
use Rattle.lp_link.specs.inner.Entering.{ends_of}
use Rattle.lp_link.proofs.EnteredCopies.{begins_at, firsts_told}
use Rattle.lp_link.proofs.linking.plan_of.Goals as goal

pub returns-in_err-compare-clause-refused : goal.returns-in_err-compare-clause-refused
returns-in_err-compare-clause-refused c =
    passed_up c.from_residual-in_err-compare.result c.in_err-compare.field-0.0 (IsLinkRefusal c.args.objects.now c.args.root) c.from_residual-in_err-compare.ensures.1
    (compare_refused c.args.objects.now c.in_ok-members.members.items c.in_ok-members.ensures c.in_ok-uses.uses.items c.args.root
    c.in_ok-uses.ensures.uses c.in_ok-order.order.items c.in_err-compare.field-0.0 c.in_ok-order.ensures.copies c.in_ok-order.ensures.few
    (subst (λ ms. IsCompareRefusal ms (lists_in c.in_ok-uses.uses.items) c.args.root c.in_err-compare.field-0.0) c.as_slice.ensures.value c.in_err-compare.ensures.refused))

pub returns-in_err-check_records-clause-refused : goal.returns-in_err-check_records-clause-refused
returns-in_err-check_records-clause-refused c =
    let r = c.in_err-check_records.ensures.refused in
    passed_up c.from_residual-in_err-check_records.result c.in_err-check_records.field-0.0 (IsLinkRefusal c.args.objects.now c.args.root) c.from_residual-in_err-check_records.ensures.1
    (subst (IsLinkRefusal c.args.objects.now c.args.root) (sym r.0) (
      few_copies c.args.objects.now c.in_ok-members.members.items c.in_ok-members.ensures c.in_ok-uses.uses.items c.args.root
          c.in_ok-uses.ensures.uses c.in_ok-order.order.items c.in_ok-order.ensures.copies c.in_ok-order.ensures.few,
      (
        all_same c.args.objects.now c.in_ok-members.members.items c.in_ok-members.ensures c.in_ok-uses.uses.items c.args.root
            c.in_ok-uses.ensures.uses (subst (λ ms. AreAllCompared ms (lists_in c.in_ok-uses.uses.items) c.args.root) c.as_slice.ensures.value
            c.in_ok-compare.ensures.same),
        r.1,
      ),
    ))

pub check_names-requires-clause-kinds : goal.check_names-requires-clause-kinds
check_names-requires-clause-kinds c =
    let outs = c.in_ok-uses.uses.items in
    let here = subst (λ n. c.args.root < n) (sym (uses_count c.args.objects.now outs c.in_ok-uses.ensures.uses)) c.requires.root in
    subst (All (λ m. m < length c.in_ok-counts.counts.hidden_kinds.items)) (sym c.as_slice-2.ensures.value)
    (counts_within (λ o. hidden_kinds o.kinds.items) c.args.objects.now outs c.in_ok-order.order.items c.in_ok-counts.counts.hidden_kinds.items
    c.in_ok-counts.ensures.kinds c.in_ok-uses.ensures.uses (order_inside outs c.args.root c.in_ok-order.order.items c.in_ok-uses.ensures.within
    here c.in_ok-order.ensures.copies))

pub check_names-requires-clause-constants : goal.check_names-requires-clause-constants
check_names-requires-clause-constants c =
    let outs = c.in_ok-uses.uses.items in
    let here = subst (λ n. c.args.root < n) (sym (uses_count c.args.objects.now outs c.in_ok-uses.ensures.uses)) c.requires.root in
    subst (All (λ m. m < length c.in_ok-counts.counts.hidden_constants.items)) (sym c.as_slice-2.ensures.value)
    (counts_within (λ o. hidden_constants o.constants.items) c.args.objects.now outs c.in_ok-order.order.items
    c.in_ok-counts.counts.hidden_constants.items c.in_ok-counts.ensures.constants c.in_ok-uses.ensures.uses
    (order_inside outs c.args.root c.in_ok-order.order.items c.in_ok-uses.ensures.within here c.in_ok-order.ensures.copies))

pub returns-in_err-check_names-clause-refused : goal.returns-in_err-check_names-clause-refused
returns-in_err-check_names-clause-refused c =
    let os = c.args.objects.now in
    let top = c.index-objects-root.result in
    let r = c.in_err-check_names.ensures.refused in
    passed_up c.from_residual-in_err-check_names.result c.in_err-check_names.field-0.0 (IsLinkRefusal os c.args.root) c.from_residual-in_err-check_names.ensures.1
    (subst (IsLinkRefusal os c.args.root) (sym r.0) (
      few_copies os c.in_ok-members.members.items c.in_ok-members.ensures c.in_ok-uses.uses.items c.args.root c.in_ok-uses.ensures.uses
          c.in_ok-order.order.items c.in_ok-order.ensures.copies c.in_ok-order.ensures.few,
      (
        all_same os c.in_ok-members.members.items c.in_ok-members.ensures c.in_ok-uses.uses.items c.args.root c.in_ok-uses.ensures.uses
            (subst (λ ms. AreAllCompared ms (lists_in c.in_ok-uses.uses.items) c.args.root) c.as_slice.ensures.value c.in_ok-compare.ensures.same),
        (
          c.in_ok-check_records.ensures.few,
          names_refused os c.args.root top c.requires.root c.index-objects-root.is c.in_ok-uses.uses.items c.as_slice-2.result.now
              c.behind_root-begin.result.kind c.behind_root-begin.result.constant c.in_ok-counts.counts.hidden_kinds.items
              c.in_ok-counts.counts.hidden_constants.items
              c.in_ok-uses.ensures.uses (λ all copies. c.in_ok-order.ensures.only all copies ∙ sym c.as_slice-2.ensures.value)
              c.behind_root-begin.ensures.kind c.behind_root-begin.ensures.constant c.in_ok-counts.ensures.kinds c.in_ok-counts.ensures.constants
              r.1,
        ),
      ),
    ))

pub returns-clause-linked : goal.returns-clause-linked
returns-clause-linked c =
    let os = c.args.objects.now in
    let top = c.index-objects-root.result in
    record {
      copies = few_copies os c.in_ok-members.members.items c.in_ok-members.ensures c.in_ok-uses.uses.items c.args.root c.in_ok-uses.ensures.uses
          c.in_ok-order.order.items c.in_ok-order.ensures.copies c.in_ok-order.ensures.few;
      same = all_same os c.in_ok-members.members.items c.in_ok-members.ensures c.in_ok-uses.uses.items c.args.root c.in_ok-uses.ensures.uses
          (subst (λ ms. AreAllCompared ms (lists_in c.in_ok-uses.uses.items) c.args.root) c.as_slice.ensures.value c.in_ok-compare.ensures.same);
      records = c.in_ok-check_records.ensures.few;
      names = few_names os c.args.root top c.requires.root c.index-objects-root.is c.in_ok-uses.uses.items c.as_slice-2.result.now
          c.behind_root-begin.result.kind c.behind_root-begin.result.constant c.in_ok-counts.counts.hidden_kinds.items
          c.in_ok-counts.counts.hidden_constants.items
          c.in_ok-uses.ensures.uses (λ all copies. c.in_ok-order.ensures.only all copies ∙ sym c.as_slice-2.ensures.value)
          c.behind_root-begin.ensures.kind c.behind_root-begin.ensures.constant c.in_ok-counts.ensures.kinds c.in_ok-counts.ensures.constants
          c.in_ok-check_names.ensures.few;
    }

pub returns-clause-few : goal.returns-clause-few
returns-clause-few c = of_members (λ o. length o.code.records.items ≤ 65535) c.args.objects.now c.in_ok-members.members.items c.in_ok-members.ensures c.in_ok-check_records.ensures.few

pub returns-clause-firsts : goal.returns-clause-firsts
returns-clause-firsts c = λ o all end at.
    firsts_told c.args.objects.now (lists_in c.in_ok-uses.uses.items) c.in_ok-counts.counts.hidden_kinds.items
    c.in_ok-counts.counts.hidden_constants.items c.args.root c.behind_root-begin.result o (map ends_of (reverse c.in_ok-firsts.firsts.items))
    c.in_ok-uses.ensures.uses c.in_ok-counts.ensures.kinds c.in_ok-counts.ensures.constants
    (begins_at c.args.objects.now c.args.root c.index-objects-root.result o c.behind_root-begin.result c.requires.root c.index-objects-root.is at
    c.behind_root-begin.ensures.kind c.behind_root-begin.ensures.constant)
    c.in_ok-firsts.ensures.firsts all end
