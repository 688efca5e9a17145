use Rattle.lp_plain.proofs.NoneBound.{none_kept, none_then}
use Rattle.std.proofs.Common.{◌∙◌, ap, refl}
use Rattle.lp_plain.proofs.Opening.{all_opened}
use Rattle.lp_plain.proofs.Grown.{grown_by, grown_frame, grown_still, grown_then}
use Rattle.std.proofs.Common.{subst, sym}
use Rattle.lp_term.specs.Spine.{LooseBelow}
use Rattle.std.proofs.Common.{◌≤◌}
use Rattle.lp_plain.proofs.Marked.{marks_on}
use Rattle.std.proofs.Common.{[], ◌∷◌, true}
use Rattle.lp_plain.specs.Scopes.{blocks_of}
use Rattle.lp_plain.specs.Tables.{shown}
use Rattle.lp_plain.specs.WrittenTable.{IsWrittenIn, WrittenList}
use Rattle.lp_plain.proofs.WrittenGrows.{list_in_later}
use Rattle.lp_plain.proofs.WrittenSearches.{bound_in, search_list, search_same}
use Rattle.lp_plain.proofs.parts.put_all.Goals as goal

pub returns-clause-parts : goal.returns-clause-parts
returns-clause-parts c =
    let l = c.in_ok-front.ensures in
    all_opened c.args.machine.now c.raised.new.machine c.bound.new.machine _ c.args.place _ c.in_ok-inner.inner _ c.args.goals c.args.behind c.in_ok-front.front c.in_ok-above.ensures.stands
    c.in_ok-above.ensures.raised c.in_ok-inner.ensures.bound l.reads refl (ap (λ b. b.next) l.course.branch) (ap (λ b. b.next_type) l.course.branch) l.course.choices

pub returns-clause-grown : goal.returns-clause-grown
returns-clause-grown c =
    let m = c.args.machine.now in
    let p = c.args.place in
    let n = c.raised.new.machine in
    let o = c.bound.new.machine in
    let q = c.put_list.new.self in
    let v = c.in_ok-above.ensures.raised in
    let w = c.in_ok-inner.ensures.bound in
    let f = c.in_ok-front.ensures in
    let g = grown_then m n q p (grown_still m n p v.grows v.frames v.keeps v.standings v.index v.denied) (grown_then n o q p (grown_still n o p w.grows w.frames w.keeps w.standings w.index w.denied)
    (grown_by o q p c.in_ok-inner.inner (w.assumed ∙ v.assumed) (w.standing ∙ v.standing) (grown_frame o q c.in_ok-inner.inner f.goals f.assumed f.frame f.course.denied))) in
    record { lists = g.lists; frames = g.frames; index = g.index; denied = g.denied }

pub returns-clause-stands : goal.returns-clause-stands
returns-clause-stands c = λ i.
    let e = c.in_ok-above.ensures in
    let z = c.in_ok-front.ensures.stands (c.in_ok-inner.ensures.bound.stands e.raised.within (subst (LooseBelow 0 0) (sym e.raised.eigen_is) tt) (e.stands i)) in
    record { table = z.table; values = z.values; frames = z.frames }

pub returns-clause-marks : goal.returns-clause-marks
returns-clause-marks c = λ l u h k j.
    let m = c.args.machine.now in
    let v = c.in_ok-above.ensures.raised in
    let w = c.in_ok-inner.ensures.bound in
    let n = c.raised.new.machine in
    let o = c.bound.new.machine in
    let e = w.mark ∙ v.mark in
    c.in_ok-front.ensures.marks l u (marks_on l u n.frames.items o.frames.items c.args.behind w.grows.frames
    (marks_on l u m.frames.items n.frames.items c.args.behind v.grows.frames h)) (subst (λ z. l ≤ z) (sym e) k) (subst (λ z. z ≤ u) (sym e) j)

pub returns-clause-choices : goal.returns-clause-choices
returns-clause-choices c = c.in_ok-front.ensures.course.choices ∙ c.in_ok-inner.ensures.bound.choices ∙ c.in_ok-above.ensures.raised.choices

pub returns-clause-none : goal.returns-clause-none
returns-clause-none c =
    let m = c.args.machine.now in
    let n = c.raised.new.machine in
    let o = c.bound.new.machine in
    let q = c.put_list.new.self in
    let f = c.in_ok-front.ensures in
    let x = none_then m n q c.in_ok-above.ensures.none (none_then n o q c.in_ok-inner.ensures.none (none_kept o q f.goals f.course)) in
    record { bindings = x.bindings; pairs = x.pairs }

pub returns-clause-written : goal.returns-clause-written
returns-clause-written c = λ ar i w s.
    let m = c.args.machine.now in
    let n = c.raised.new.machine in
    let o = c.bound.new.machine in
    let p = c.args.place in
    let e = c.in_ok-above.ensures in
    let v = e.raised in
    let b = c.in_ok-inner.ensures.bound in
    let f = c.in_ok-front.ensures in
    let i1 = e.stands i in
    let i2 = b.stands v.within (subst (LooseBelow 0 0) (sym v.eigen_is) tt) i1 in
    let s2 = search_same n o i1 b.grows b.frames b.keeps b.choices ar (search_same m n i v.grows v.frames v.keeps v.choices ar s) in
    let g = list_in_later m n i v.grows ar p.values.scope (true ∷ []) c.args.goals w in
    let l = bound_in n o _ c.in_ok-inner.inner _ i1 b ar true c.args.goals (λ q. (_, v.eigen_is))
    (subst (λ x. IsWrittenIn n.bank (blocks_of n.scopes) x.scope (λ k bs. WrittenList n.bank (shown n.table) ar k (true ∷ bs) c.args.goals)) (sym v.values) g) in
    let z = search_list o c.put_list.new.self c.args.goals c.in_ok-inner.inner c.args.behind f.goals f.assumed f.course.choices f.puts ar i2 l s2 in
    record { at_work = z.at_work; alternatives = z.alternatives; older = z.older }
