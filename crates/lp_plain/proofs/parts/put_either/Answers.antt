use Rattle.lp_plain.proofs.NoneBound.{none_kept, put_with}
use Rattle.lp_plain.specs.Moving.{IsPutWith}
use Rattle.std.proofs.Common.{refl, ap}
use Rattle.lp_model.specs.Flat.{goal_list}
use Rattle.lp_plain.specs.Entries.{in_scope}
use Rattle.lp_plain.proofs.Frames.{reads_on, list_at_on, list_of, keeps_then, keeps_same, split}
use Rattle.lp_plain.proofs.Grown.{grown_frame, grown_kept, grown_then}
use Rattle.lp_plain.proofs.Opening.{same_stands}
use Rattle.lp_plain.specs.Assuming.{KeepsAssumed}
use Rattle.lp_plain.specs.Taking.{IsAbove, IsKept}
use Rattle.lp_plain.proofs.Grown.{alternative_above, alternative_kept, grown_on, placed_on}
use Rattle.lp_plain.proofs.Restored.{last_same}
use Rattle.std.proofs.Common.{◌∙◌, subst, sym}
use Rattle.lp_plain.proofs.Marked.{marks_aside, marks_on}
use Rattle.std.proofs.Common.{[]}
use Rattle.lp_plain.proofs.Growing.{grows_kept}
use Rattle.lp_plain.proofs.WrittenGrows.{list_in_later}
use Rattle.lp_plain.proofs.WrittenSearches.{search_aside, search_list, search_same}
use Rattle.lp_plain.proofs.Remains.{aside_few, few_behind, few_then}
use Rattle.lp_plain.proofs.parts.put_either.Goals as goal

pub returns-clause-parts : goal.returns-clause-parts
returns-clause-parts c = λ a hs ks σ b x y r u n height P.
    let m = c.args.machine.now in
    let p = c.args.place in
    let gs = goal_list (in_scope σ p.values.types hs) in
    let one = c.put_list.new.self in
    let two = c.put_choice.new.self in
    let three = c.note.new.self in
    let k = c.in_ok-other.ensures.goals in
    let l = c.in_ok-put_choice.ensures.goals in
    let j = c.in_ok-note.ensures.goals in
    let all = keeps_then m two three (keeps_then m one two k l) j in
    split m one two three _ a b _ _ c.in_ok-other.other l j (keeps_same three c.put_list-2.new.self _ c.in_ok-one.ensures.goals refl refl refl refl
    refl refl refl) c.in_ok-other.ensures.course.branch c.in_ok-put_choice.ensures.branch
    c.in_ok-note.ensures.course.branch (ap (λ z. z.next) c.in_ok-one.ensures.course.branch) (ap (λ z. z.next_type) c.in_ok-one.ensures.course.branch)
    c.in_ok-other.ensures.course.choices c.in_ok-put_choice.ensures.alternative
    c.in_ok-note.ensures.course.choices c.in_ok-one.ensures.course.choices r.next r.next_type
    (c.in_ok-one.ensures.reads a gs b.goals (list_at_on m three p c.args.left gs all (list_of m p c.args.left hs σ x)) (reads_on m three a c.args.behind b.goals all r.goals))
    (c.in_ok-other.ensures.reads a (goal_list (in_scope σ p.values.types ks)) b.goals (list_of m p c.args.right ks σ y) r.goals)

pub returns-clause-grown : goal.returns-clause-grown
returns-clause-grown c =
    let m = c.args.machine.now in
    let p = c.args.place in
    let one = c.put_list.new.self in
    let two = c.put_choice.new.self in
    let three = c.note.new.self in
    let four = c.put_list-2.new.self in
    let k = c.in_ok-other.ensures in
    let l = c.in_ok-put_choice.ensures in
    let j = c.in_ok-note.ensures in
    let i = c.in_ok-one.ensures in
    let g = grown_then m two four p (grown_then m one two p (grown_frame m one p k.goals k.assumed k.frame k.course.denied)
    (grown_kept one two p l.goals l.frames l.assumed l.denied)) (grown_then two three four p
    (grown_kept two three p j.goals j.frames j.assumed j.course.denied) (grown_frame three four p i.goals i.assumed i.frame i.course.denied)) in
    record { lists = g.lists; frames = g.frames; index = g.index; denied = g.denied }

pub returns-clause-stands : goal.returns-clause-stands
returns-clause-stands c = λ i.
    let one = c.put_list.new.self in
    let two = c.put_choice.new.self in
    let three = c.note.new.self in
    let l = c.in_ok-put_choice.ensures in
    let j = c.in_ok-note.ensures in
    let z = c.in_ok-one.ensures.stands (same_stands two three j.goals j.frames (same_stands one two l.goals l.frames (c.in_ok-other.ensures.stands i))) in
    record { table = z.table; values = z.values; frames = z.frames }

pub returns-clause-kept : goal.returns-clause-kept
returns-clause-kept c = λ a i pl h k e.
    let m = c.args.machine.now in
    let p = c.args.place in
    let one = c.put_list.new.self in
    let two = c.put_choice.new.self in
    let three = c.note.new.self in
    let four = c.put_list-2.new.self in
    let o = c.in_ok-other.ensures in
    let l = c.in_ok-put_choice.ensures in
    let j = c.in_ok-note.ensures in
    let f = c.in_ok-one.ensures in
    let x = l.alternative in
    let all = keeps_then one three four (keeps_then one two three l.goals j.goals) f.goals in
    let ka : KeepsAssumed one four = record { assumptions = f.assumed.assumptions ∙ j.assumed.assumptions ∙ l.assumed.assumptions; newest = f.assumed.newest ∙ j.assumed.newest ∙ l.assumed.newest } in
    let grown = grown_frame m one p o.goals o.assumed o.frame o.course.denied in
    let q = alternative_kept one two four a _ x all ka (placed_on m one a p grown i pl h) in
    let same = last_same one.choices.items m.choices.items x.choice k (sym (f.course.choices ∙ j.course.choices ∙ x.more) ∙ e) in
    let r = subst (λ z. IsKept four a z) same.1 q in (
      record {
        frames = r.frames;
        blocks = r.blocks;
        values = r.values;
        assumptions = r.assumptions;
        newest = r.newest;
        standings = r.standings;
        placed = r.placed;
      },
      subst (IsAbove m) same.1 (alternative_above m one two _ x (grown_on m one p grown)),
    )

pub returns-clause-marks : goal.returns-clause-marks
returns-clause-marks c = λ l u h k j.
    let m = c.args.machine.now in
    let one = c.put_list.new.self in
    let two = c.put_choice.new.self in
    let three = c.note.new.self in
    let g = keeps_then m two three (keeps_then m one two c.in_ok-other.ensures.goals c.in_ok-put_choice.ensures.goals) c.in_ok-note.ensures.goals in
    c.in_ok-one.ensures.marks l u (marks_on l u m.frames.items three.frames.items c.args.behind g.frames h) k j

pub returns-clause-aside : goal.returns-clause-aside
returns-clause-aside c = λ k e from q l u h j i.
    let m = c.args.machine.now in
    let one = c.put_list.new.self in
    let two = c.put_choice.new.self in
    let three = c.note.new.self in
    let four = c.put_list-2.new.self in
    let o = c.in_ok-other.ensures in
    let v = c.in_ok-put_choice.ensures in
    let n = c.in_ok-note.ensures in
    let f = c.in_ok-one.ensures in
    let x = v.alternative in
    let all = keeps_then one three four (keeps_then one two three v.goals n.goals) f.goals in
    let same = last_same one.choices.items m.choices.items x.choice k (sym (f.course.choices ∙ n.course.choices ∙ x.more) ∙ e) in
    marks_aside l u one two four k c.in_ok-other.other from x same.1 q all (o.marks l u h j i)

pub returns-clause-none : goal.returns-clause-none
returns-clause-none c =
    let k = c.in_ok-other.ensures in
    let l = c.in_ok-put_choice.ensures in
    let j = c.in_ok-note.ensures in
    let i = c.in_ok-one.ensures in
    record {
      bindings = i.goals.known.bindings ∙ j.goals.known.bindings ∙ l.goals.known.bindings ∙ k.goals.known.bindings;
      pairs = ap (λ b. b.pairs) (i.course.branch ∙ j.course.branch ∙ l.branch ∙ k.course.branch);
    }

pub returns-clause-aside_with : goal.returns-clause-aside_with
returns-clause-aside_with c = λ k e.
    let m = c.args.machine.now in
    let one = c.put_list.new.self in
    let two = c.put_choice.new.self in
    let o = c.in_ok-other.ensures in
    let x = c.in_ok-put_choice.ensures.alternative in
    let same = last_same one.choices.items m.choices.items x.choice k (sym (c.in_ok-one.ensures.course.choices ∙ c.in_ok-note.ensures.course.choices ∙ x.more) ∙ e) in
    subst (IsPutWith m) same.1 (put_with m one two _ x (none_kept m one o.goals o.course))

pub returns-clause-written : goal.returns-clause-written
returns-clause-written c = λ ar i w s.
    let m = c.args.machine.now in
    let p = c.args.place in
    let one = c.put_list.new.self in
    let two = c.put_choice.new.self in
    let three = c.note.new.self in
    let a = c.in_ok-other.ensures in
    let k = c.in_ok-put_choice.ensures in
    let n = c.in_ok-note.ensures in
    let f = c.in_ok-one.ensures in
    let i1 = a.stands i in
    let i2 = same_stands one two k.goals k.frames i1 in
    let i3 = same_stands two three n.goals n.frames i2 in
    let s1 = search_list m one c.args.right p c.args.behind a.goals a.assumed a.course.choices a.puts ar i
    (record { type_vars = w.type_vars; binders = w.binders; values = w.values; scope_holds = w.scope_holds; have = w.have; is = w.is.1 }) s in
    let s2 = search_aside one two _ i1 k.goals k.frames k.assumed k.alternative ar s1 in
    let s3 = search_same two three i2 (grows_kept two three n.goals) n.frames n.assumed n.course.choices ar s2 in
    let l = list_in_later m three i (grows_kept m three (keeps_then m two three (keeps_then m one two a.goals k.goals) n.goals)) ar p.values.scope [] c.args.left
    (record { type_vars = w.type_vars; binders = w.binders; values = w.values; scope_holds = w.scope_holds; have = w.have; is = w.is.0 }) in
    let z = search_list three c.put_list-2.new.self c.args.left p c.args.behind f.goals f.assumed f.course.choices f.puts ar i3 l s3 in
    record { at_work = z.at_work; alternatives = z.alternatives; older = z.older }

pub returns-clause-few : goal.returns-clause-few
returns-clause-few c =
    let m = c.args.machine.now in
    let one = c.put_list.new.self in
    let two = c.put_choice.new.self in
    let o = c.in_ok-other.ensures.course in
    let k = c.in_ok-put_choice.ensures in
    let n = c.in_ok-note.ensures.course in
    let f = c.in_ok-one.ensures.course in
    let u = few_behind m two c.put_list-2.new.self (f.counts ∙ n.counts) (f.choices ∙ n.choices)
    (few_then m one two o.counts o.choices (aside_few one two c.in_ok-other.other k.counts k.more)) in
    record { counts = u.counts; choices = u.choices }
