use Rattle.std.proofs.Common.{Err, ◌∙◌, ◌++◌, ◌∷◌, [], ap, length, subst, sym, arith}
use Rattle.std.proofs.lemmas.List.{length_push}
use Rattle.lp_lines.specs.declared.refusal.Refusal.{Refusal}
use Rattle.lp_lines.proofs.Looking.{looked_then, looked_passed, looked_judged, text_is_judged}
use Rattle.lp_lemmas.proofs.Results.{passed_up}
use Rattle.lp_files.specs.Unlinked.{IsUnlinked, IsUnread, of_number, of_object}
use Rattle.lp_files.specs.inner.Objects.{IsNew, IsNext}
use Rattle.lp_files.proofs.Linking.{first_held, more_held}
use Rattle.lp_files.proofs.Ordering.{skipped, there_more}
use Rattle.lp_files.proofs.Unreading.{due_next, of_root, order_first, order_more, there_first}
use Rattle.lp_files.proofs.link.objects_of.Goals as goal

pub returns-in_err-read-clause-looked : goal.returns-in_err-read-clause-looked
returns-in_err-read-clause-looked g c =
    looked_passed c.from_residual-in_err-read.result c.in_err-read.field-0.0 c.from_residual-in_err-read.ensures.1 (looked_then c.loop-number.invariant.looked c.in_err-read.ensures.looked)

pub returns-in-Some-2-clause-looked : goal.returns-in-Some-2-clause-looked
returns-in-Some-2-clause-looked g c = looked_judged {T = Refusal} (Err c.limited.result) c.loop-number.invariant.looked (text_is_judged c.limited.result c.limited.ensures.refusal)

pub loop-number-init : goal.loop-number-init
loop-number-init g c =
    let os = c.take.new.self.objects.items in
    let o = c.in_ok-object.object in
    let is = c.in_ok-take.ensures.pushed ∙ ap (λ l. l ++ o ∷ []) c.new-reading.ensures.none in
    let begun = c.in_ok-wait.ensures ∙ ap (λ l. l ++ (0, 0) ∷ []) c.new-waiting.ensures.items in
    record {
      looked = c.in_ok-object.ensures.looked;
      some = c.in_ok-take.ensures.some;
      held = first_held (g.F.Folder.held c.args.folder.now) c.new-reading.result.objects.items os o c.new-reading.ensures.none c.in_ok-take.ensures.pushed c.in_ok-object.ensures.held;
      found = c.in_ok-take.ensures.found;
      ordered = order_first c.args.root.now os o c.wait.new.waiting.items is c.in_ok-object.ensures.named begun;
      there = there_first os o c.wait.new.waiting.items is begun;
      count = ap length is;
    }

pub loop-number-preserved : goal.loop-number-preserved
loop-number-preserved g c =
    let os = c.loop-number.reading.objects.items in
    let new = c.read.new.self.objects.items in
    let o = c.in_ok-read.ensures.more.0 in
    let next = subst (IsNext os c.loop-number.waiting.items c.next.new.waiting.items) c.in-Some.is c.in_ok-user.ensures.next in
    record {
      looked = looked_then c.loop-number.invariant.looked c.in_ok-read.ensures.looked;
      some = c.in_ok-read.ensures.some;
      held = more_held (g.F.Folder.held c.args.folder.now) (g.F.Folder.held c.loop-number.folder) c.as_slice.result.now os new c.loop-number.invariant.looked.same c.in_ok-read.ensures.more c.loop-number.invariant.held;
      found = c.in_ok-read.ensures.found;
      ordered = order_more c.args.root.now os new c.loop-number.waiting.items c.next.new.waiting.items c.wait-in-loop-number.new.waiting.items c.in-Some.user c.loop-number.number c.in-Some.name o
          c.loop-number.invariant.ordered next c.in_ok-read.ensures.more.1 (c.in_ok-read.ensures.more.2 ∙ c.as_slice.ensures.value) c.in_ok-wait-2.ensures c.loop-number.invariant.count c.in_ok-user.ensures.there;
      there = there_more os new o c.next.new.waiting.items c.wait-in-loop-number.new.waiting.items c.loop-number.number c.in_ok-read.ensures.more.1 c.in_ok-wait-2.ensures c.loop-number.invariant.count c.in_ok-user.ensures.there;
      count =
          let e = ap length c.in_ok-read.ensures.more.1 in
          let l = length_push os o in
          let n = c.loop-number.invariant.count in
          omega (arith, e, l, n);
    }

pub returns-in_err-object-clause-cause : goal.returns-in_err-object-clause-cause
returns-in_err-object-clause-cause g c =
    let told = g.F.Folder.held c.args.folder.now in
    passed_up c.from_residual.result c.in_err-object.field-0.0 (IsUnlinked told c.args.root.now) c.from_residual.ensures.1 (of_root told c.args.root.now c.in_err-object.field-0.0 c.in_err-object.ensures.cause)

pub returns-in_default-clause-ordered : goal.returns-in_default-clause-ordered
returns-in_default-clause-ordered g c =
    skipped c.loop-number.invariant.ordered (subst (IsNext c.loop-number.reading.objects.items c.loop-number.waiting.items c.next.new.waiting.items) c.in_default.is c.in_ok-user.ensures.next)

pub read-requires-clause-is_new : goal.read-requires-clause-is_new
read-requires-clause-is_new g c =
    let os = c.loop-number.reading.objects.items in
    subst (IsNew os c.in-Some.user) (sym c.as_slice.ensures.value) (subst (IsNext os c.loop-number.waiting.items c.next.new.waiting.items) c.in-Some.is c.in_ok-user.ensures.next).1

pub returns-in_err-read-clause-cause : goal.returns-in_err-read-clause-cause
returns-in_err-read-clause-cause g c =
    let os = c.loop-number.reading.objects.items in
    let told = g.F.Folder.held c.args.folder.now in
    let r = c.in_err-read.field-0.0 in
    let next = subst (IsNext os c.loop-number.waiting.items c.next.new.waiting.items) c.in-Some.is c.in_ok-user.ensures.next in
    passed_up c.from_residual-in_err-read.result r (IsUnlinked told c.args.root.now) c.from_residual-in_err-read.ensures.1
    (of_object os c.in-Some.name.items c.loop-number.invariant.held (due_next c.args.root.now os c.loop-number.waiting.items c.next.new.waiting.items c.in-Some.user c.in-Some.name c.loop-number.invariant.ordered next)
    (omega (arith, c.loop-number-test.true, c.loop-number.invariant.count))
    (subst (λ t. IsUnread t os c.in-Some.name.items r) c.loop-number.invariant.looked.same
    (subst (λ n. IsUnread (g.F.Folder.held c.loop-number.folder) os n r) c.as_slice.ensures.value c.in_err-read.ensures.cause)))

pub returns-in-None-clause-ordered : goal.returns-in-None-clause-ordered
returns-in-None-clause-ordered g c =
    skipped c.loop-number.invariant.ordered (subst (IsNext c.loop-number.reading.objects.items c.loop-number.waiting.items c.next-2.new.waiting.items) c.in-None.is c.in_ok-next.ensures.next)

pub returns-in-Some-2-clause-cause : goal.returns-in-Some-2-clause-cause
returns-in-Some-2-clause-cause g c =
    let os = c.loop-number.reading.objects.items in
    let (user, name) = c.in-Some-2.field-0 in
    of_number os name.items c.loop-number.invariant.held
    (due_next c.args.root.now os c.loop-number.waiting.items c.next-2.new.waiting.items user name c.loop-number.invariant.ordered
    (subst (IsNext os c.loop-number.waiting.items c.next-2.new.waiting.items) c.in-Some-2.is c.in_ok-next.ensures.next))
    (omega (arith, c.loop-number-test.false, c.loop-number.invariant.count)) c.limited.ensures.says
