use Rattle.lp_plain.proofs.NoneBound.{none_kept, none_then}
use Rattle.std.proofs.Common.{◌≡◌, inl, inr, refl}
use Rattle.lp_plain.specs.declared.outcome.Turn.{Turn}
use Rattle.lp_plain.proofs.ProgramKept.{goals_keep, program_stood, program_then}
use Rattle.lp_plain.proofs.Assuming.{assumes_for, put_grows, stood_stands}
use Rattle.std.proofs.Common.{sym, subst, ◌∙◌}
use Rattle.lp_plain.specs.Marks.{HasMarks}
use Rattle.std.proofs.Common.{[]}
use Rattle.lp_plain.proofs.Growing.{grows_kept, grows_then}
use Rattle.lp_plain.proofs.Opening.{same_stands}
use Rattle.lp_plain.proofs.WrittenAssumed.{stood_more}
use Rattle.lp_plain.proofs.WrittenGrows.{list_in_later}
use Rattle.lp_plain.proofs.WrittenSearches.{search_list, search_same}
use Rattle.lp_plain.proofs.assume.put_assume.Goals as goal

pub returns-clause-parts : goal.returns-clause-parts
returns-clause-parts c = λ on.
    let m = c.args.machine.now in
    let n = c.assume_noted.new.machine in
    let o = c.stand.new.machine in
    let f = c.in_ok-front.ensures in
    let e = c.in_ok-found.ensures in
    let s = c.in_ok-number.ensures.stood in
    assumes_for m n o c.put_list.new.self _ c.args.place c.args.rules c.args.goals c.args.free c.args.behind c.in_ok-front.front c.in-Some.assumed
    c.in_ok-number.number e.more (e.tree c.in-Some.assumed c.in-Some.is) (e.assumed c.in-Some.assumed c.in-Some.is) s f.goals f.course f.assumed f.frame f.reads refl refl refl refl refl
    (λ i. let z = f.stands (stood_stands m n o c.args.free c.args.place c.in_ok-number.number e.more s i) in record { table = z.table; values = z.values; frames = z.frames })

pub returns-clause-stands : goal.returns-clause-stands
returns-clause-stands c = λ on i.
    let z = c.in_ok-front.ensures.stands (stood_stands c.args.machine.now c.assume_noted.new.machine c.stand.new.machine c.args.free c.args.place
    c.in_ok-number.number c.in_ok-found.ensures.more c.in_ok-number.ensures.stood i) in
    record { table = z.table; values = z.values; frames = z.frames }

pub returns-clause-grown : goal.returns-clause-grown
returns-clause-grown c = λ on.
    let f = c.in_ok-front.ensures in
    put_grows c.args.machine.now c.assume_noted.new.machine c.stand.new.machine c.put_list.new.self _ c.args.free c.args.place c.in_ok-number.number
    c.in_ok-found.ensures.more c.in_ok-number.ensures.stood f.goals f.course f.assumed refl refl refl refl

pub returns-clause-marks : goal.returns-clause-marks
returns-clause-marks c = λ on l u h k j.
    let g = c.in_ok-found.ensures.more in
    let s = c.in_ok-number.ensures.stood in
    c.in_ok-front.ensures.marks l u (subst (λ z. HasMarks l u z.items c.args.behind) (sym (s.frames ∙ g.frames)) h) k j

pub returns-clause-choices : goal.returns-clause-choices
returns-clause-choices c = c.in_ok-front.ensures.course.choices ∙ c.in_ok-number.ensures.stood.course.choices ∙ c.in_ok-found.ensures.more.course.choices

pub returns-clause-none : goal.returns-clause-none
returns-clause-none c = λ on.
    let m = c.args.machine.now in
    let n = c.assume_noted.new.machine in
    let o = c.stand.new.machine in
    let q = c.put_list.new.self in
    let e = c.in_ok-found.ensures.more in
    let f = c.in_ok-front.ensures in
    let x = none_then m n q (none_kept m n e.goals e.course) (none_then n o q c.in_ok-number.ensures.none (none_kept o q f.goals f.course)) in
    record { bindings = x.bindings; pairs = x.pairs }

pub returns-clause-written : goal.returns-clause-written
returns-clause-written c = λ on ar i w s.
    let m = c.args.machine.now in
    let n = c.assume_noted.new.machine in
    let o = c.stand.new.machine in
    let p = c.args.place in
    let g = c.in_ok-found.ensures.more in
    let t = c.in_ok-number.ensures.stood in
    let f = c.in_ok-front.ensures in
    let one = c.in_ok-found.ensures.written ar i (record { type_vars = w.type_vars; binders = w.binders; values = w.values; scope_holds = w.scope_holds; have = w.have; is = w.is.0 }) s in
    let gn = stood_more n o c.args.free p c.in_ok-number.number t in
    let two = search_same n o (same_stands m n g.goals g.frames i) gn t.frames t.assumed t.course.choices ar one in
    let l = list_in_later m o i (grows_then m n o (grows_kept m n g.goals) gn) ar p.values.scope [] c.args.goals
    (record { type_vars = w.type_vars; binders = w.binders; values = w.values; scope_holds = w.scope_holds; have = w.have; is = w.is.1 }) in
    let z = search_list o c.put_list.new.self c.args.goals _ c.args.behind f.goals f.assumed f.course.choices f.puts ar (stood_stands m n o c.args.free p c.in_ok-number.number g t i) l two in
    record { at_work = z.at_work; alternatives = z.alternatives; older = z.older }

pub returns-clause-turns : goal.returns-clause-turns
returns-clause-turns c = inl refl

pub returns-clause-ends : goal.returns-clause-ends
returns-clause-ends c = tt

pub returns-clause-program : goal.returns-clause-program
returns-clause-program c =
    let m = c.args.machine.now in
    let n = c.assume_noted.new.machine in
    let o = c.stand.new.machine in
    let s = c.in_ok-number.ensures.stood in
    let k = program_then m n o (goals_keep m n c.in_ok-found.ensures.more.goals) (program_stood n o s.bank s.table s.index) in
    let z = program_then m o c.put_list.new.self k (goals_keep o c.put_list.new.self c.in_ok-front.ensures.goals) in
    record { bank = z.bank; table = z.table; index = z.index }

pub returns-in_default-clause-turns : goal.returns-in_default-clause-turns
returns-in_default-clause-turns c = inr (c.in_ok-found.ensures.headless c.in_default.is)

pub returns-in_default-clause-ends : goal.returns-in_default-clause-ends
returns-in_default-clause-ends c = tt

pub returns-in_default-clause-program : goal.returns-in_default-clause-program
returns-in_default-clause-program c = goals_keep c.args.machine.now c.assume_noted.new.machine c.in_ok-found.ensures.more.goals

pub returns-in_default-clause-written : goal.returns-in_default-clause-written
returns-in_default-clause-written c = λ on ar i w s. absurd (let q : Turn.Back ≡ Turn.On = on in cc)

pub returns-in_default-clause-none : goal.returns-in_default-clause-none
returns-in_default-clause-none c = λ on. absurd (let q : Turn.Back ≡ Turn.On = on in cc)

pub returns-in_default-clause-stands : goal.returns-in_default-clause-stands
returns-in_default-clause-stands c = λ on i. absurd (let q : Turn.Back ≡ Turn.On = on in cc)

pub returns-in_default-clause-grown : goal.returns-in_default-clause-grown
returns-in_default-clause-grown c = λ on. absurd (let q : Turn.Back ≡ Turn.On = on in cc)

pub returns-in_default-clause-choices : goal.returns-in_default-clause-choices
returns-in_default-clause-choices c = c.in_ok-found.ensures.more.course.choices

pub returns-in_default-clause-marks : goal.returns-in_default-clause-marks
returns-in_default-clause-marks c = λ on l u h k j. absurd (let q : Turn.Back ≡ Turn.On = on in cc)

pub returns-in_default-clause-parts : goal.returns-in_default-clause-parts
returns-in_default-clause-parts c = λ on. absurd (let q : Turn.Back ≡ Turn.On = on in cc)
