use Rattle.std.proofs.Common.{◌≡◌, ◌++◌, length, Some, inr, refl, sym, subst, arith}
use Rattle.lp_lemmas.proofs.Elements.{All_pushed}
use Rattle.lp_plain.specs.declared.frame.Frame.{Frame}
use Rattle.lp_plain.specs.Entries.{AreEntries, placed}
use Rattle.lp_plain.specs.Tables.{shown}
use Rattle.lp_plain.specs.Scopes.{blocks_of}
use Rattle.lp_plain.specs.Within.{IsTodoIn}
use Rattle.lp_plain.specs.Marks.{HasMarks}
use Rattle.lp_plain.proofs.Marked.{mark_put}
use Rattle.lp_plain.proofs.Frames.{frame_put}
use Rattle.lp_plain.proofs.machine.Machine.put_frame.Goals as goal

pub returns-clause-reads : goal.returns-clause-reads
returns-clause-reads c = λ a gs es h r.
    let m = c.args.self.now in
    let p = c.args.place in
    let n : c.len-number.result ≡ length m.frames.items = omega (arith, c.len-number.ensures, m.frames.ok) in
    subst (λ k. AreEntries m.bank (shown m.table) (blocks_of m.scopes) a c.push.new.self.items (Some k) (placed a p gs ++ es)) (sym n)
    (frame_put m.bank (shown m.table) (blocks_of m.scopes) a m.frames.items c.push.new.self.items
    (record { todo = c.args.todo; place = p; behind = c.args.behind }) gs es c.in_ok-push.ensures.items h r)

pub returns-clause-stands : goal.returns-clause-stands
returns-clause-stands c = λ t i.
    let m = c.args.self.now in
    record {
      table = i.table;
      values = i.values;
      frames = All_pushed (λ (f : Frame). IsTodoIn (length m.bank.terms) f.todo) c.push.new.self.items
          m.frames.items _ c.in_ok-push.ensures.items i.frames t;
    }

pub returns-clause-assumed : goal.returns-clause-assumed
returns-clause-assumed c = record { assumptions = refl; newest = refl }

pub returns-clause-frame : goal.returns-clause-frame
returns-clause-frame c = inr (_, refl, c.in_ok-push.ensures.items)

pub returns-clause-marks : goal.returns-clause-marks
returns-clause-marks c = λ l u h k j.
    let m = c.args.self.now in
    let p = c.args.place in
    let n : c.len-number.result ≡ length m.frames.items = omega (arith, c.len-number.ensures, m.frames.ok) in
    subst (λ z. HasMarks l u c.push.new.self.items (Some z)) (sym n) (mark_put l u m.frames.items c.push.new.self.items
    (record { todo = c.args.todo; place = p; behind = c.args.behind }) c.in_ok-push.ensures.items k j h)

pub returns-clause-pushed : goal.returns-clause-pushed
returns-clause-pushed c = c.in_ok-push.ensures.items
