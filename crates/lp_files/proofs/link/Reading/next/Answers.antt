use Rattle.std.proofs.Common.{ℕ, ◌<◌, arith, length, subst}
use Rattle.std.specs.Prelude.{All}
use Rattle.std.proofs.lemmas.List.{nil_from_length}
use Rattle.lp_lemmas.proofs.Elements.{All_front, All_popped, All_pushed}
use Rattle.lp_files.specs.inner.Objects.{IsUnread}
use Rattle.lp_files.proofs.Ordering.{wait_begins, wait_closed, wait_ends, wait_next}
use Rattle.lp_files.proofs.link.Reading.next.Goals as goal

pub loop-user-init : goal.loop-user-init
loop-user-init c = record { skipped = wait_begins c.args.self.now.objects.items c.args.waiting.now.items; there = c.requires.there }

pub loop-user-preserved : goal.loop-user-preserved
loop-user-preserved c =
    let os = c.args.self.now.objects.items in
    record {
      skipped = wait_closed os c.args.waiting.now.items c.loop-user.waiting.items c.pop.new.self.items c.in-Some.user c.in-Some.place c.in-Some.ensures.items
          (subst (IsUnread os c.in-Some.user c.in-Some.place) c.in_default-2.is c.in_ok-next.ensures) c.loop-user.invariant.skipped;
      there = (All_popped (λ (w : ℕ × ℕ). w.0 < length os) c.loop-user.waiting.items c.pop.new.self.items (c.in-Some.user, c.in-Some.place) c.in-Some.ensures.items c.loop-user.invariant.there).0;
    }

pub returns-in-Some-2-clause-next : goal.returns-in-Some-2-clause-next
returns-in-Some-2-clause-next c =
    let os = c.args.self.now.objects.items in
    wait_next os c.args.waiting.now.items c.loop-user.waiting.items c.pop.new.self.items c.push.new.self.items c.in-Some.user c.in-Some.place c.in-Some-2.next c.in-Some-2.name
    c.in-Some.ensures.items c.in_ok-push.ensures.items (subst (IsUnread os c.in-Some.user c.in-Some.place) c.in-Some-2.is c.in_ok-next.ensures) c.loop-user.invariant.skipped

pub returns-in-Some-2-clause-there : goal.returns-in-Some-2-clause-there
returns-in-Some-2-clause-there c =
    let os = c.args.self.now.objects.items in
    let (ws, w) = All_popped (λ (w : ℕ × ℕ). w.0 < length os) c.loop-user.waiting.items c.pop.new.self.items (c.in-Some.user, c.in-Some.place) c.in-Some.ensures.items c.loop-user.invariant.there in
    All_pushed (λ (w : ℕ × ℕ). w.0 < length os) c.push.new.self.items c.pop.new.self.items (c.in-Some.user, c.in-Some-2.next) c.in_ok-push.ensures.items ws w

pub returns-clause-next : goal.returns-clause-next
returns-clause-next c =
    wait_ends c.args.self.now.objects.items c.args.waiting.now.items c.loop-user.waiting.items (nil_from_length c.loop-user.waiting.items
    (omega (arith, c.in_default.ensures.cases.0, c.loop-user.waiting.ok))) c.loop-user.invariant.skipped

pub returns-clause-there : goal.returns-clause-there
returns-clause-there c =
    let os = c.args.self.now.objects.items in
    All_front (λ (w : ℕ × ℕ). w.0 < length os) c.pop.new.self.items _ (subst (All (λ (w : ℕ × ℕ). w.0 < length os)) c.in_default.ensures.items c.loop-user.invariant.there)
