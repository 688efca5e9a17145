use Rattle.lp_plain.proofs.NoneBound.{none_apart, none_with, with_apart}
use Rattle.std.proofs.Common.{◌≡◌, ◌∙◌, ap, refl, sym, subst, inl, inr}
use Rattle.lp_plain.specs.Apart.{IsApart}
use Rattle.lp_model.specs.Flat.{Exists, Forall, collect_clauses}
use Rattle.lp_plain.specs.Entries.{IsOf}
use Rattle.lp_plain.specs.Tables.{AreClausesOf, IsNumbered, shown}
use Rattle.lp_plain.proofs.Assuming.{assume_apart}
use Rattle.lp_plain.proofs.Opening.{quantified_apart}
use Rattle.lp_plain.proofs.Taken.{either_apart}
use Rattle.lp_plain.proofs.Grown.{grown_apart, grown_on, kept_apart, quietly, stands_apart}
use Rattle.lp_plain.specs.Taking.{IsApartFlat}
use Rattle.lp_plain.proofs.Marked.{aside_apart, marks_apart, none_aside}
use Rattle.lp_plain.proofs.TakenApart.{all_taken, assume_taken, either_taken, none_taken, some_taken}
use Rattle.lp_plain.proofs.WrittenParts.{all_writes, assume_writes, either_writes, some_writes}
use Rattle.lp_plain.proofs.HeadsWritten.{not_headless}
use Rattle.lp_plain.proofs.ProgramKept.{apart_at, apart_keeps, program_same, program_then}
use Rattle.lp_plain.proofs.Remains.{apart_used, same_few}
use Rattle.lp_plain.proofs.parts.put_parts.Goals as goal

pub returns-in_ok-put_either-in-Either-clause-either : goal.returns-in_ok-put_either-in-Either-clause-either
returns-in_ok-put_either-in-Either-clause-either c = λ e l r i a hs ks σ b x y w u n height P.
    let m = c.args.machine.now in
    let p = c.args.place in
    let f = c.in-Either.is in
    let q : l ≡ c.in-Either.left = cc in
    let k : r ≡ c.in-Either.right = cc in
    either_apart m c.take_apart.new.machine c.put_either.new.machine p c.in-Either.left c.in-Either.right c.args.behind
    (c.if-not-take_apart.ensures.apart refl) c.in_ok-put_either-in-Either.ensures.parts a hs ks σ b
    (subst (λ z. IsOf m p z hs σ) q x) (subst (λ z. IsOf m p z ks σ) k y) w u n height P

pub returns-in_ok-put_some-in-Some-clause-some : goal.returns-in_ok-put_some-in-Some-clause-some
returns-in_ok-put_some-in-Some-clause-some c = λ e l i a hs σ b s x w u n height P T.
    let m = c.args.machine.now in
    let p = c.args.place in
    let f = c.in-Some.is in
    let q : l ≡ c.in-Some.goals = cc in
    quantified_apart Exists m c.take_apart.new.machine c.put_some.new.machine p c.in-Some.goals c.args.behind (c.if-not-take_apart.ensures.apart refl)
    c.in_ok-put_some-in-Some.ensures.parts a hs σ b s (subst (λ z. IsOf m p z hs σ) q x) w u n height
    P T

pub returns-in_ok-put_all-in-All-clause-all : goal.returns-in_ok-put_all-in-All-clause-all
returns-in_ok-put_all-in-All-clause-all c = λ e l i a hs σ b s x w u n height P T.
    let m = c.args.machine.now in
    let p = c.args.place in
    let f = c.in-All.is in
    let q : l ≡ c.in-All.goals = cc in
    quantified_apart Forall m c.take_apart.new.machine c.put_all.new.machine p c.in-All.goals c.args.behind (c.if-not-take_apart.ensures.apart refl)
    c.in_ok-put_all-in-All.ensures.parts a hs σ b s (subst (λ z. IsOf m p z hs σ) q x) w u n height
    P T

pub returns-in_ok-turn-in-Assume-clause-assume : goal.returns-in_ok-turn-in-Assume-clause-assume
returns-in_ok-turn-in-Assume-clause-assume c = λ e s l f i a cs hs σ b st pl h k nu x w u n height P.
    let m = c.args.machine.now in
    let p = c.args.place in
    let y = c.in-Assume.is in
    let qs : s ≡ c.in-Assume.rules = cc in
    let ql : l ≡ c.in-Assume.goals = cc in
    let qf : f ≡ c.in-Assume.free = cc in
    assume_apart m c.take_apart.new.machine c.put_assume.new.machine p c.in-Assume.rules c.in-Assume.goals c.in-Assume.free c.args.behind
    (c.if-not-take_apart.ensures.apart refl) (c.in_ok-turn-in-Assume.ensures.parts e) a cs hs σ b st pl h
    (subst (λ z. AreClausesOf m.bank m.table z cs) qs k) (subst (λ z. IsNumbered (shown m.table).frees z (λ f. collect_clauses f 0 cs)) qf nu) (subst (λ z. IsOf m p z hs σ) ql x) w u n height P

pub returns-in_ok-put_either-in-Either-clause-taken : goal.returns-in_ok-put_either-in-Either-clause-taken
returns-in_ok-put_either-in-Either-clause-taken c = λ e.
    let m = c.args.machine.now in
    let p = c.args.place in
    let n = c.put_either.new.machine in
    let f = c.in_ok-put_either-in-Either.ensures in
    let k = c.take_apart.new.machine in
    let h = c.if-not-take_apart.ensures.apart refl in
    either_taken m n p c.args.goal c.args.behind c.in-Either.left c.in-Either.right c.in-Either.is
    (either_apart m k n p c.in-Either.left c.in-Either.right c.args.behind h f.parts) (grown_apart m k n p h f.grown)
    (stands_apart m k n h f.stands) (quietly m k n h (c.if-not-take_apart.ensures.taken refl) (grown_on k n p f.grown) f.counts)
    (kept_apart m k n p h f.kept)

pub returns-in_ok-put_some-in-Some-clause-taken : goal.returns-in_ok-put_some-in-Some-clause-taken
returns-in_ok-put_some-in-Some-clause-taken c = λ e.
    let m = c.args.machine.now in
    let p = c.args.place in
    let n = c.put_some.new.machine in
    let f = c.in_ok-put_some-in-Some.ensures in
    let k = c.take_apart.new.machine in
    let h = c.if-not-take_apart.ensures.apart refl in
    some_taken m n p c.args.goal c.args.behind c.in-Some.goals c.in-Some.is (quantified_apart Exists m k n p c.in-Some.goals c.args.behind h f.parts)
    (grown_apart m k n p h f.grown) (stands_apart m k n h f.stands) (quietly m k n h (c.if-not-take_apart.ensures.taken refl)
    (grown_on k n p f.grown) f.counts)

pub returns-in_ok-put_all-in-All-clause-taken : goal.returns-in_ok-put_all-in-All-clause-taken
returns-in_ok-put_all-in-All-clause-taken c = λ e.
    let m = c.args.machine.now in
    let p = c.args.place in
    let n = c.put_all.new.machine in
    let f = c.in_ok-put_all-in-All.ensures in
    let k = c.take_apart.new.machine in
    let h = c.if-not-take_apart.ensures.apart refl in
    all_taken m n p c.args.goal c.args.behind c.in-All.goals c.in-All.is (quantified_apart Forall m k n p c.in-All.goals c.args.behind h f.parts)
    (grown_apart m k n p h f.grown) (stands_apart m k n h f.stands) (quietly m k n h (c.if-not-take_apart.ensures.taken refl)
    (grown_on k n p f.grown) f.counts)

pub returns-in_ok-turn-in-Assume-clause-taken : goal.returns-in_ok-turn-in-Assume-clause-taken
returns-in_ok-turn-in-Assume-clause-taken c = λ e.
    let m = c.args.machine.now in
    let p = c.args.place in
    let n = c.put_assume.new.machine in
    let k = c.take_apart.new.machine in
    let h = c.if-not-take_apart.ensures.apart refl in
    assume_taken m n p c.args.goal c.args.behind c.in-Assume.rules c.in-Assume.goals c.in-Assume.free c.in-Assume.is
    (assume_apart m k n p c.in-Assume.rules c.in-Assume.goals c.in-Assume.free c.args.behind h (c.in_ok-turn-in-Assume.ensures.parts e))
    (quietly m k n h (c.if-not-take_apart.ensures.taken refl) (c.in_ok-turn-in-Assume.ensures.grown e)
    c.in_ok-turn-in-Assume.ensures.counts)

pub returns-in-Atom-clause-taken : goal.returns-in-Atom-clause-taken
returns-in-Atom-clause-taken c = λ e. let y = c.in-Atom.is in none_taken c.args.machine.now _ c.args.place c.args.goal c.args.behind (λ l r z. cc) (λ l z. cc) (λ l z. cc) (λ s l f z. cc)

pub returns-in-Cut-clause-taken : goal.returns-in-Cut-clause-taken
returns-in-Cut-clause-taken c = λ e. let y = c.in-Cut.is in none_taken c.args.machine.now _ c.args.place c.args.goal c.args.behind (λ l r z. cc) (λ l z. cc) (λ l z. cc) (λ s l f z. cc)

pub returns-in-Not-clause-taken : goal.returns-in-Not-clause-taken
returns-in-Not-clause-taken c = λ e. let y = c.in-Not.is in none_taken c.args.machine.now _ c.args.place c.args.goal c.args.behind (λ l r z. cc) (λ l z. cc) (λ l z. cc) (λ s l f z. cc)

pub returns-in_ok-put_either-in-Either-clause-marks : goal.returns-in_ok-put_either-in-Either-clause-marks
returns-in_ok-put_either-in-Either-clause-marks c = λ e h.
    let n = c.put_either.new.machine in
    marks_apart c.args.machine.now c.take_apart.new.machine n c.args.place c.args.behind n.branch.goals (c.if-not-take_apart.ensures.apart refl) c.in_ok-put_either-in-Either.ensures.marks

pub returns-in_ok-put_some-in-Some-clause-marks : goal.returns-in_ok-put_some-in-Some-clause-marks
returns-in_ok-put_some-in-Some-clause-marks c = λ e h.
    let n = c.put_some.new.machine in
    marks_apart c.args.machine.now c.take_apart.new.machine n c.args.place c.args.behind n.branch.goals (c.if-not-take_apart.ensures.apart refl) c.in_ok-put_some-in-Some.ensures.marks

pub returns-in_ok-put_all-in-All-clause-marks : goal.returns-in_ok-put_all-in-All-clause-marks
returns-in_ok-put_all-in-All-clause-marks c = λ e h.
    let n = c.put_all.new.machine in
    marks_apart c.args.machine.now c.take_apart.new.machine n c.args.place c.args.behind n.branch.goals (c.if-not-take_apart.ensures.apart refl) c.in_ok-put_all-in-All.ensures.marks

pub returns-in_ok-turn-in-Assume-clause-marks : goal.returns-in_ok-turn-in-Assume-clause-marks
returns-in_ok-turn-in-Assume-clause-marks c = λ e h.
    let n = c.put_assume.new.machine in
    marks_apart c.args.machine.now c.take_apart.new.machine n c.args.place c.args.behind n.branch.goals (c.if-not-take_apart.ensures.apart refl) (c.in_ok-turn-in-Assume.ensures.marks e)

pub returns-in_ok-put_either-in-Either-clause-aside : goal.returns-in_ok-put_either-in-Either-clause-aside
returns-in_ok-put_either-in-Either-clause-aside c = λ e h.
    aside_apart c.args.machine.now c.take_apart.new.machine c.put_either.new.machine c.args.place c.args.behind (c.if-not-take_apart.ensures.apart refl) c.in_ok-put_either-in-Either.ensures.aside

pub returns-in_ok-put_some-in-Some-clause-aside : goal.returns-in_ok-put_some-in-Some-clause-aside
returns-in_ok-put_some-in-Some-clause-aside c = λ e h.
    let m = c.args.machine.now in
    let k = c.take_apart.new.machine in
    let n = c.put_some.new.machine in
    aside_apart m k n c.args.place c.args.behind (c.if-not-take_apart.ensures.apart refl) (none_aside k n c.args.place c.args.behind c.in_ok-put_some-in-Some.ensures.choices)

pub returns-in_ok-put_all-in-All-clause-aside : goal.returns-in_ok-put_all-in-All-clause-aside
returns-in_ok-put_all-in-All-clause-aside c = λ e h.
    let m = c.args.machine.now in
    let k = c.take_apart.new.machine in
    let n = c.put_all.new.machine in
    aside_apart m k n c.args.place c.args.behind (c.if-not-take_apart.ensures.apart refl) (none_aside k n c.args.place c.args.behind c.in_ok-put_all-in-All.ensures.choices)

pub returns-in_ok-turn-in-Assume-clause-aside : goal.returns-in_ok-turn-in-Assume-clause-aside
returns-in_ok-turn-in-Assume-clause-aside c = λ e h.
    let m = c.args.machine.now in
    let k = c.take_apart.new.machine in
    let n = c.put_assume.new.machine in
    aside_apart m k n c.args.place c.args.behind (c.if-not-take_apart.ensures.apart refl) (none_aside k n c.args.place c.args.behind c.in_ok-turn-in-Assume.ensures.choices)

pub returns-in-Atom-clause-marks : goal.returns-in-Atom-clause-marks
returns-in-Atom-clause-marks c = λ e h. absurd (subst IsApartFlat c.in-Atom.is h)

pub returns-in-Atom-clause-aside : goal.returns-in-Atom-clause-aside
returns-in-Atom-clause-aside c = λ e h. absurd (subst IsApartFlat c.in-Atom.is h)

pub returns-in-Cut-clause-marks : goal.returns-in-Cut-clause-marks
returns-in-Cut-clause-marks c = λ e h. absurd (subst IsApartFlat c.in-Cut.is h)

pub returns-in-Cut-clause-aside : goal.returns-in-Cut-clause-aside
returns-in-Cut-clause-aside c = λ e h. absurd (subst IsApartFlat c.in-Cut.is h)

pub returns-in-Not-clause-marks : goal.returns-in-Not-clause-marks
returns-in-Not-clause-marks c = λ e h. absurd (subst IsApartFlat c.in-Not.is h)

pub returns-in-Not-clause-aside : goal.returns-in-Not-clause-aside
returns-in-Not-clause-aside c = λ e h. absurd (subst IsApartFlat c.in-Not.is h)

pub returns-in_ok-put_either-in-Either-clause-none : goal.returns-in_ok-put_either-in-Either-clause-none
returns-in_ok-put_either-in-Either-clause-none c = λ e h. none_apart c.args.machine.now c.take_apart.new.machine c.put_either.new.machine
    (c.if-not-take_apart.ensures.apart refl) c.in_ok-put_either-in-Either.ensures.none

pub returns-in_ok-put_either-in-Either-clause-aside_with : goal.returns-in_ok-put_either-in-Either-clause-aside_with
returns-in_ok-put_either-in-Either-clause-aside_with c = λ e h. with_apart c.args.machine.now c.take_apart.new.machine c.put_either.new.machine
    (c.if-not-take_apart.ensures.apart refl) c.in_ok-put_either-in-Either.ensures.aside_with

pub returns-in_ok-put_some-in-Some-clause-none : goal.returns-in_ok-put_some-in-Some-clause-none
returns-in_ok-put_some-in-Some-clause-none c = λ e h. none_apart c.args.machine.now c.take_apart.new.machine c.put_some.new.machine
    (c.if-not-take_apart.ensures.apart refl) c.in_ok-put_some-in-Some.ensures.none

pub returns-in_ok-put_some-in-Some-clause-aside_with : goal.returns-in_ok-put_some-in-Some-clause-aside_with
returns-in_ok-put_some-in-Some-clause-aside_with c = λ e h. with_apart c.args.machine.now c.take_apart.new.machine c.put_some.new.machine
    (c.if-not-take_apart.ensures.apart refl) (none_with c.take_apart.new.machine c.put_some.new.machine c.in_ok-put_some-in-Some.ensures.choices)

pub returns-in_ok-put_all-in-All-clause-none : goal.returns-in_ok-put_all-in-All-clause-none
returns-in_ok-put_all-in-All-clause-none c = λ e h. none_apart c.args.machine.now c.take_apart.new.machine c.put_all.new.machine
    (c.if-not-take_apart.ensures.apart refl) c.in_ok-put_all-in-All.ensures.none

pub returns-in_ok-put_all-in-All-clause-aside_with : goal.returns-in_ok-put_all-in-All-clause-aside_with
returns-in_ok-put_all-in-All-clause-aside_with c = λ e h. with_apart c.args.machine.now c.take_apart.new.machine c.put_all.new.machine
    (c.if-not-take_apart.ensures.apart refl) (none_with c.take_apart.new.machine c.put_all.new.machine c.in_ok-put_all-in-All.ensures.choices)

pub returns-in_ok-turn-in-Assume-clause-none : goal.returns-in_ok-turn-in-Assume-clause-none
returns-in_ok-turn-in-Assume-clause-none c = λ e h. none_apart c.args.machine.now c.take_apart.new.machine c.put_assume.new.machine
    (c.if-not-take_apart.ensures.apart refl) (c.in_ok-turn-in-Assume.ensures.none e)

pub returns-in_ok-turn-in-Assume-clause-aside_with : goal.returns-in_ok-turn-in-Assume-clause-aside_with
returns-in_ok-turn-in-Assume-clause-aside_with c = λ e h. with_apart c.args.machine.now c.take_apart.new.machine c.put_assume.new.machine
    (c.if-not-take_apart.ensures.apart refl) (none_with c.take_apart.new.machine c.put_assume.new.machine
    c.in_ok-turn-in-Assume.ensures.choices)

pub returns-in-Atom-clause-none : goal.returns-in-Atom-clause-none
returns-in-Atom-clause-none c = λ e h. absurd (subst IsApartFlat c.in-Atom.is h)

pub returns-in-Atom-clause-aside_with : goal.returns-in-Atom-clause-aside_with
returns-in-Atom-clause-aside_with c = λ e h. absurd (subst IsApartFlat c.in-Atom.is h)

pub returns-in-Cut-clause-none : goal.returns-in-Cut-clause-none
returns-in-Cut-clause-none c = λ e h. absurd (subst IsApartFlat c.in-Cut.is h)

pub returns-in-Cut-clause-aside_with : goal.returns-in-Cut-clause-aside_with
returns-in-Cut-clause-aside_with c = λ e h. absurd (subst IsApartFlat c.in-Cut.is h)

pub returns-in-Not-clause-none : goal.returns-in-Not-clause-none
returns-in-Not-clause-none c = λ e h. absurd (subst IsApartFlat c.in-Not.is h)

pub returns-in-Not-clause-aside_with : goal.returns-in-Not-clause-aside_with
returns-in-Not-clause-aside_with c = λ e h. absurd (subst IsApartFlat c.in-Not.is h)

pub returns-in_ok-put_either-in-Either-clause-written : goal.returns-in_ok-put_either-in-Either-clause-written
returns-in_ok-put_either-in-Either-clause-written c = λ e h.
    either_writes c.args.machine.now c.take_apart.new.machine c.put_either.new.machine c.args.place c.args.goal c.in-Either.left c.in-Either.right
    (c.if-not-take_apart.ensures.apart refl) c.in-Either.is c.in_ok-put_either-in-Either.ensures.written

pub returns-in_ok-put_some-in-Some-clause-written : goal.returns-in_ok-put_some-in-Some-clause-written
returns-in_ok-put_some-in-Some-clause-written c = λ e h.
    some_writes c.args.machine.now c.take_apart.new.machine c.put_some.new.machine c.args.place c.args.goal c.in-Some.goals
    (c.if-not-take_apart.ensures.apart refl) c.in-Some.is c.in_ok-put_some-in-Some.ensures.written

pub returns-in_ok-put_all-in-All-clause-written : goal.returns-in_ok-put_all-in-All-clause-written
returns-in_ok-put_all-in-All-clause-written c = λ e h.
    all_writes c.args.machine.now c.take_apart.new.machine c.put_all.new.machine c.args.place c.args.goal c.in-All.goals
    (c.if-not-take_apart.ensures.apart refl) c.in-All.is c.in_ok-put_all-in-All.ensures.written

pub returns-in_ok-turn-in-Assume-clause-written : goal.returns-in_ok-turn-in-Assume-clause-written
returns-in_ok-turn-in-Assume-clause-written c = λ e h.
    assume_writes c.args.machine.now c.take_apart.new.machine c.put_assume.new.machine c.args.place c.args.goal c.in-Assume.rules c.in-Assume.goals
    c.in-Assume.free (c.if-not-take_apart.ensures.apart refl) c.in-Assume.is (c.in_ok-turn-in-Assume.ensures.written e)

pub returns-in-Atom-clause-written : goal.returns-in-Atom-clause-written
returns-in-Atom-clause-written c = λ e h. absurd (subst IsApartFlat c.in-Atom.is h)

pub returns-in-Cut-clause-written : goal.returns-in-Cut-clause-written
returns-in-Cut-clause-written c = λ e h. absurd (subst IsApartFlat c.in-Cut.is h)

pub returns-in-Not-clause-written : goal.returns-in-Not-clause-written
returns-in-Not-clause-written c = λ e h. absurd (subst IsApartFlat c.in-Not.is h)

pub returns-then-not-take_apart-clause-program : goal.returns-then-not-take_apart-clause-program
returns-then-not-take_apart-clause-program c = program_same c.args.machine.now c.take_apart.new.machine (c.if-not-take_apart.ensures.spent refl).0

pub returns-in_ok-put_either-in-Either-clause-program : goal.returns-in_ok-put_either-in-Either-clause-program
returns-in_ok-put_either-in-Either-clause-program c = apart_at c.args.machine.now c.take_apart.new.machine c.put_either.new.machine c.args.place
    (c.if-not-take_apart.ensures.apart refl) c.in_ok-put_either-in-Either.ensures.grown

pub returns-in_ok-put_some-in-Some-clause-program : goal.returns-in_ok-put_some-in-Some-clause-program
returns-in_ok-put_some-in-Some-clause-program c = apart_at c.args.machine.now c.take_apart.new.machine c.put_some.new.machine c.args.place
    (c.if-not-take_apart.ensures.apart refl) c.in_ok-put_some-in-Some.ensures.grown

pub returns-in_ok-put_all-in-All-clause-program : goal.returns-in_ok-put_all-in-All-clause-program
returns-in_ok-put_all-in-All-clause-program c = apart_at c.args.machine.now c.take_apart.new.machine c.put_all.new.machine c.args.place
    (c.if-not-take_apart.ensures.apart refl) c.in_ok-put_all-in-All.ensures.grown

pub returns-in_ok-turn-in-Assume-clause-program : goal.returns-in_ok-turn-in-Assume-clause-program
returns-in_ok-turn-in-Assume-clause-program c = program_then c.args.machine.now c.take_apart.new.machine c.put_assume.new.machine
    (apart_keeps c.args.machine.now c.take_apart.new.machine (c.if-not-take_apart.ensures.apart refl)) c.in_ok-turn-in-Assume.ensures.program

pub returns-in-Atom-clause-program : goal.returns-in-Atom-clause-program
returns-in-Atom-clause-program c = apart_keeps c.args.machine.now c.take_apart.new.machine (c.if-not-take_apart.ensures.apart refl)

pub returns-in-Cut-clause-program : goal.returns-in-Cut-clause-program
returns-in-Cut-clause-program c = apart_keeps c.args.machine.now c.take_apart.new.machine (c.if-not-take_apart.ensures.apart refl)

pub returns-in-Not-clause-program : goal.returns-in-Not-clause-program
returns-in-Not-clause-program c = apart_keeps c.args.machine.now c.take_apart.new.machine (c.if-not-take_apart.ensures.apart refl)

pub returns-then-not-take_apart-clause-counted : goal.returns-then-not-take_apart-clause-counted
returns-then-not-take_apart-clause-counted c = λ ar w. let t = c.if-not-take_apart.ensures.spent refl in (t.1, ap (λ z. z.counts) t.0)

pub returns-in_ok-put_either-in-Either-clause-counted : goal.returns-in_ok-put_either-in-Either-clause-counted
returns-in_ok-put_either-in-Either-clause-counted c = λ ar w. let t = c.if-not-take_apart.ensures.taken refl in (t.0, c.in_ok-put_either-in-Either.ensures.counts ∙ t.1)

pub returns-in_ok-put_some-in-Some-clause-counted : goal.returns-in_ok-put_some-in-Some-clause-counted
returns-in_ok-put_some-in-Some-clause-counted c = λ ar w. let t = c.if-not-take_apart.ensures.taken refl in (t.0, c.in_ok-put_some-in-Some.ensures.counts ∙ t.1)

pub returns-in_ok-put_all-in-All-clause-counted : goal.returns-in_ok-put_all-in-All-clause-counted
returns-in_ok-put_all-in-All-clause-counted c = λ ar w. let t = c.if-not-take_apart.ensures.taken refl in (t.0, c.in_ok-put_all-in-All.ensures.counts ∙ t.1)

pub returns-in-Atom-clause-counted : goal.returns-in-Atom-clause-counted
returns-in-Atom-clause-counted c = λ ar w. c.if-not-take_apart.ensures.taken refl

pub returns-in-Cut-clause-counted : goal.returns-in-Cut-clause-counted
returns-in-Cut-clause-counted c = λ ar w. c.if-not-take_apart.ensures.taken refl

pub returns-in-Not-clause-counted : goal.returns-in-Not-clause-counted
returns-in-Not-clause-counted c = λ ar w. c.if-not-take_apart.ensures.taken refl

pub returns-in_ok-turn-in-Assume-clause-counted : goal.returns-in_ok-turn-in-Assume-clause-counted
returns-in_ok-turn-in-Assume-clause-counted c = λ ar w.
    let m = c.args.machine.now in
    let t = c.if-not-take_apart.ensures.taken refl in
    let e = c.in_ok-turn-in-Assume.ensures in
    elim e.turns [
      | inl on ↦ subst (λ x. IsApart x m.counts c.put_assume.new.machine.counts) (sym on) (t.0, e.counts ∙ t.1)
      | inr none ↦ absurd (not_headless m c.take_apart.new.machine c.args.place c.args.goal c.in-Assume.rules c.in-Assume.goals c.in-Assume.free (c.if-not-take_apart.ensures.apart refl) c.in-Assume.is ar w none)
    ]

pub returns-in_ok-turn-in-Assume-clause-ends : goal.returns-in_ok-turn-in-Assume-clause-ends
returns-in_ok-turn-in-Assume-clause-ends c = c.in_ok-turn-in-Assume.ensures.ends

pub returns-then-not-take_apart-clause-uses : goal.returns-then-not-take_apart-clause-uses
returns-then-not-take_apart-clause-uses c = λ e. absurd e

pub returns-in_ok-put_either-in-Either-clause-uses : goal.returns-in_ok-put_either-in-Either-clause-uses
returns-in_ok-put_either-in-Either-clause-uses c = λ e.
    let t = c.if-not-take_apart.ensures in
    let k = c.take_apart.new.machine in
    apart_used c.args.machine.now k c.put_either.new.machine (t.apart refl) (t.taken refl).0 (c.in_ok-put_either-in-Either.ensures.few)

pub returns-in_ok-put_some-in-Some-clause-uses : goal.returns-in_ok-put_some-in-Some-clause-uses
returns-in_ok-put_some-in-Some-clause-uses c = λ e.
    let t = c.if-not-take_apart.ensures in
    let k = c.take_apart.new.machine in
    apart_used c.args.machine.now k c.put_some.new.machine (t.apart refl) (t.taken refl).0 (let e = c.in_ok-put_some-in-Some.ensures in same_few k c.put_some.new.machine e.counts e.choices)

pub returns-in_ok-put_all-in-All-clause-uses : goal.returns-in_ok-put_all-in-All-clause-uses
returns-in_ok-put_all-in-All-clause-uses c = λ e.
    let t = c.if-not-take_apart.ensures in
    let k = c.take_apart.new.machine in
    apart_used c.args.machine.now k c.put_all.new.machine (t.apart refl) (t.taken refl).0 (let e = c.in_ok-put_all-in-All.ensures in same_few k c.put_all.new.machine e.counts e.choices)

pub returns-in_ok-turn-in-Assume-clause-uses : goal.returns-in_ok-turn-in-Assume-clause-uses
returns-in_ok-turn-in-Assume-clause-uses c = λ e.
    let t = c.if-not-take_apart.ensures in
    let k = c.take_apart.new.machine in
    apart_used c.args.machine.now k c.put_assume.new.machine (t.apart refl) (t.taken refl).0 (let e = c.in_ok-turn-in-Assume.ensures in same_few k c.put_assume.new.machine e.counts e.choices)

pub returns-in-Atom-clause-uses : goal.returns-in-Atom-clause-uses
returns-in-Atom-clause-uses c = λ e.
    let t = c.if-not-take_apart.ensures in
    let k = c.take_apart.new.machine in
    apart_used c.args.machine.now k k (t.apart refl) (t.taken refl).0 (same_few k k refl refl)

pub returns-in-Cut-clause-uses : goal.returns-in-Cut-clause-uses
returns-in-Cut-clause-uses c = λ e.
    let t = c.if-not-take_apart.ensures in
    let k = c.take_apart.new.machine in
    apart_used c.args.machine.now k k (t.apart refl) (t.taken refl).0 (same_few k k refl refl)

pub returns-in-Not-clause-uses : goal.returns-in-Not-clause-uses
returns-in-Not-clause-uses c = λ e.
    let t = c.if-not-take_apart.ensures in
    let k = c.take_apart.new.machine in
    apart_used c.args.machine.now k k (t.apart refl) (t.taken refl).0 (same_few k k refl refl)
