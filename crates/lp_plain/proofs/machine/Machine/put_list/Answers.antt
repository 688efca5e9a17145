use Rattle.std.proofs.Common.{◌≡◌, ◌∙◌, sym, Some, None}
use Rattle.std.specs.Prelude.{slice_get}
use Rattle.std.proofs.Common.{inl, refl}
use Rattle.lp_plain.proofs.Frames.{list_empty, list_outside, list_put, list_todo}
use Rattle.lp_plain.proofs.machine.Machine.put_list.Goals as goal

pub returns-then-span-clause-reads : goal.returns-then-span-clause-reads
returns-then-span-clause-reads c = λ a gs es h r. list_empty c.args.self.now a c.args.place c.args.list c.in-Some.span gs c.args.behind es (sym c.list.ensures ∙ c.in-Some.is) c.if-span.true h r

pub returns-clause-reads : goal.returns-clause-reads
returns-clause-reads c = λ a gs es h r. c.in_ok-goals.ensures.reads a gs es (list_todo c.args.self.now c.args.place c.args.list c.in-Some.span gs (sym c.list.ensures ∙ c.in-Some.is) h) r

pub returns-then-span-clause-stands : goal.returns-then-span-clause-stands
returns-then-span-clause-stands c = λ i. i

pub returns-clause-stands : goal.returns-clause-stands
returns-clause-stands c = λ i. c.in_ok-goals.ensures.stands c.if-span.false i

pub returns-then-span-clause-assumed : goal.returns-then-span-clause-assumed
returns-then-span-clause-assumed c = record { assumptions = refl; newest = refl }

pub returns-clause-assumed : goal.returns-clause-assumed
returns-clause-assumed c = c.in_ok-goals.ensures.assumed

pub returns-then-span-clause-frame : goal.returns-then-span-clause-frame
returns-then-span-clause-frame c = inl refl

pub returns-clause-frame : goal.returns-clause-frame
returns-clause-frame c = c.in_ok-goals.ensures.frame

pub returns-then-span-clause-marks : goal.returns-then-span-clause-marks
returns-then-span-clause-marks c = λ l u h k j. h

pub returns-clause-marks : goal.returns-clause-marks
returns-clause-marks c = c.in_ok-goals.ensures.marks

pub returns-then-span-clause-puts : goal.returns-then-span-clause-puts
returns-then-span-clause-puts c = λ s e. inl refl

pub returns-clause-puts : goal.returns-clause-puts
returns-clause-puts c = λ s e.
    list_put c.args.self.now c.put_frame.new.self c.args.place c.args.behind (slice_get c.args.self.now.table.lists.items c.args.list) c.in-Some.span
    s (sym c.list.ensures ∙ c.in-Some.is) e c.if-span.false c.in_ok-goals.ensures.pushed

pub returns-in_default-clause-reads : goal.returns-in_default-clause-reads
returns-in_default-clause-reads c = λ a gs es h r. absurd (list_outside c.args.self.now c.args.place c.args.list gs (sym c.list.ensures ∙ c.in_default.is) h)

pub returns-in_default-clause-stands : goal.returns-in_default-clause-stands
returns-in_default-clause-stands c = λ i. i

pub returns-in_default-clause-assumed : goal.returns-in_default-clause-assumed
returns-in_default-clause-assumed c = record { assumptions = refl; newest = refl }

pub returns-in_default-clause-frame : goal.returns-in_default-clause-frame
returns-in_default-clause-frame c = inl refl

pub returns-in_default-clause-marks : goal.returns-in_default-clause-marks
returns-in_default-clause-marks c = λ l u h k j. h

pub returns-in_default-clause-puts : goal.returns-in_default-clause-puts
returns-in_default-clause-puts c = λ s e. absurd (let q : None ≡ Some s = sym c.in_default.is ∙ c.list.ensures ∙ e in cc)
