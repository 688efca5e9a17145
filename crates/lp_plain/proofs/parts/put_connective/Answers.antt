use Rattle.std.proofs.Common.{refl, sym, subst}
use Rattle.lp_standard.specs.Connectives.{body_of}
use Rattle.lp_standard.specs.Connectives as two_sided
use Rattle.lp_term.specs.Nodes.{type_tree}
use Rattle.lp_model.specs.Connected.{IsConnectiveIn, connective_in}
use Rattle.lp_model.specs.Search.{look_form}
use Rattle.lp_plain.specs.Entries.{ArePartsOf, entry_at}
use Rattle.lp_plain.proofs.AppliedGoals.{term_apart, true_apart}
use Rattle.lp_plain.proofs.Taken.{and_apart, or_apart}
use Rattle.std.proofs.Common.{◌<◌, ap, length}
use Rattle.lp_plain.proofs.Grown.{grown_apart, grown_kept, grown_on, kept_apart, quietly, stands_apart}
use Rattle.lp_plain.proofs.Opening.{same_stands}
use Rattle.lp_plain.proofs.TakenApart.{known_taken, no_other, stands_known}
use Rattle.lp_plain.proofs.WrittenParts.{behind_writes, connective_writes}
use Rattle.lp_plain.proofs.NoneBound.{none_apart, none_with, with_apart}
use Rattle.lp_plain.proofs.ProgramKept.{apart_at, apart_goals, program_same}
use Rattle.lp_plain.proofs.Remains.{apart_used, same_few}
use Rattle.lp_plain.proofs.parts.put_connective.Goals as goal

pub returns-in_ok-put_and-in-And-clause-and : goal.returns-in_ok-put_and-in-And-clause-and
returns-in_ok-put_and-in-And-clause-and c = λ e l r i a b w u n height P t g.
    let m = c.args.machine.now in
    subst (λ z. ArePartsOf m c.put_and.new.machine a (look_form u n P height (entry_at a c.args.place g) b t (connective_in m.bank z))) (sym c.in-And.is)
    (and_apart m c.take_apart.new.machine c.put_and.new.machine c.args.place c.in-And.left c.in-And.right c.args.behind
    (c.if-not-take_apart.ensures.apart refl) c.in_ok-put_and-in-And.ensures.parts a b w u n height P t g)

pub returns-in_ok-put_or-in-Or-clause-or : goal.returns-in_ok-put_or-in-Or-clause-or
returns-in_ok-put_or-in-Or-clause-or c = λ e l r i a b w u n height P t g.
    let m = c.args.machine.now in
    subst (λ z. ArePartsOf m c.put_or.new.machine a (look_form u n P height (entry_at a c.args.place g) b t (connective_in m.bank z))) (sym c.in-Or.is)
    (or_apart m c.take_apart.new.machine c.put_or.new.machine c.args.place c.in-Or.left c.in-Or.right c.args.behind
    (c.if-not-take_apart.ensures.apart refl) c.in_ok-put_or-in-Or.ensures.parts a b w u n height P t g)

pub returns-in_ok-put_for_all-in-ForAll-clause-forall : goal.returns-in_ok-put_for_all-in-ForAll-clause-forall
returns-in_ok-put_for_all-in-ForAll-clause-forall c = λ e of s i a b st l w u n height P t g.
    let m = c.args.machine.now in
    let T = type_tree m.bank c.in-ForAll.field-0.0 in
    subst (λ z. IsConnectiveIn m.bank z → ArePartsOf m c.put_for_all.new.machine a (look_form u n P height (entry_at a c.args.place g) b t (connective_in m.bank z))) (sym c.in-ForAll.is)
    (λ k. term_apart (λ x. two_sided.ForAll T (body_of x)) m c.take_apart.new.machine c.put_for_all.new.machine c.args.place c.in-ForAll.term c.args.behind (c.if-not-take_apart.ensures.apart refl)
    (λ a b i l r u n height P t g. c.in_ok-put_for_all-in-ForAll.ensures.parts a b i l r u n height P t g T) a b st k.1 w u n height P t g) l

pub returns-in_ok-put_exists-in-Exists-clause-exists : goal.returns-in_ok-put_exists-in-Exists-clause-exists
returns-in_ok-put_exists-in-Exists-clause-exists c = λ e of s i a b st l w u n height P t g.
    let m = c.args.machine.now in
    let T = type_tree m.bank c.in-Exists.field-0.0 in
    subst (λ z. IsConnectiveIn m.bank z → ArePartsOf m c.put_exists.new.machine a (look_form u n P height (entry_at a c.args.place g) b t (connective_in m.bank z))) (sym c.in-Exists.is)
    (λ k. term_apart (λ x. two_sided.Exists T (body_of x)) m c.take_apart.new.machine c.put_exists.new.machine c.args.place c.in-Exists.term c.args.behind (c.if-not-take_apart.ensures.apart refl)
    (λ a b i l r u n height P t g. c.in_ok-put_exists-in-Exists.ensures.parts a b i l r u n height P t g T) a b st k.1 w u n height P t g) l

pub returns-in-True-clause-truth : goal.returns-in-True-clause-truth
returns-in-True-clause-truth c = λ e i a b w u n height P t g.
    let m = c.args.machine.now in
    let q = c.go_behind.new.machine in
    let s = c.go_behind.ensures in
    subst (λ z. ArePartsOf m q a (look_form u n P height (entry_at a c.args.place g) b t (connective_in m.bank z))) (sym c.in-True.is)
    (true_apart m c.take_apart.new.machine q c.args.behind (c.if-not-take_apart.ensures.apart refl) s.known s.goals s.next s.next_type s.choices a b w)

pub returns-in_ok-put_and-in-And-clause-taken : goal.returns-in_ok-put_and-in-And-clause-taken
returns-in_ok-put_and-in-And-clause-taken c = λ e af.
    let m = c.args.machine.now in
    let p = c.args.place in
    let n = c.put_and.new.machine in
    let k = c.take_apart.new.machine in
    let x = c.if-not-take_apart.ensures.apart refl in
    let f = c.in_ok-put_and-in-And.ensures in
    known_taken m n p c.args.connective c.args.behind (λ a b i kc w. returns-in_ok-put_and-in-And-clause-and c e c.in-And.left c.in-And.right c.in-And.is a b w) (grown_apart m k n p x f.grown)
    (λ kc. stands_known m k n (λ b. (c.in-And.left.0 < length b.terms) × (c.in-And.right.0 < length b.terms)) x (λ q. f.stands q.0 q.1) (subst (IsConnectiveIn m.bank) c.in-And.is kc))
    (quietly m k n x (c.if-not-take_apart.ensures.taken refl) (grown_on k n p f.grown) f.counts) (kept_apart m k n p x (no_other k n p f.choices))

pub returns-in_ok-put_or-in-Or-clause-taken : goal.returns-in_ok-put_or-in-Or-clause-taken
returns-in_ok-put_or-in-Or-clause-taken c = λ e af.
    let m = c.args.machine.now in
    let p = c.args.place in
    let n = c.put_or.new.machine in
    let k = c.take_apart.new.machine in
    let x = c.if-not-take_apart.ensures.apart refl in
    let f = c.in_ok-put_or-in-Or.ensures in
    known_taken m n p c.args.connective c.args.behind (λ a b i kc w. returns-in_ok-put_or-in-Or-clause-or c e c.in-Or.left c.in-Or.right c.in-Or.is a b w) (grown_apart m k n p x f.grown)
    (λ kc. stands_known m k n (λ b. (c.in-Or.left.0 < length b.terms) × (c.in-Or.right.0 < length b.terms)) x (λ q. f.stands q.0 q.1) (subst (IsConnectiveIn m.bank) c.in-Or.is kc))
    (quietly m k n x (c.if-not-take_apart.ensures.taken refl) (grown_on k n p f.grown) f.counts) (kept_apart m k n p x f.kept)

pub returns-in_ok-put_for_all-in-ForAll-clause-taken : goal.returns-in_ok-put_for_all-in-ForAll-clause-taken
returns-in_ok-put_for_all-in-ForAll-clause-taken c = λ e af.
    let m = c.args.machine.now in
    let p = c.args.place in
    let n = c.put_for_all.new.machine in
    let k = c.take_apart.new.machine in
    let x = c.if-not-take_apart.ensures.apart refl in
    let f = c.in_ok-put_for_all-in-ForAll.ensures in
    known_taken m n p c.args.connective c.args.behind (λ a b i kc w. returns-in_ok-put_for_all-in-ForAll-clause-forall c e c.in-ForAll.field-0
    c.in-ForAll.term c.in-ForAll.is a b i kc w) (grown_apart m k n p x f.grown) (λ kc. stands_apart m k n x f.stands)
    (quietly m k n x (c.if-not-take_apart.ensures.taken refl) (grown_on k n p f.grown) f.counts) (kept_apart m k n p x (no_other k n p f.choices))

pub returns-in_ok-put_exists-in-Exists-clause-taken : goal.returns-in_ok-put_exists-in-Exists-clause-taken
returns-in_ok-put_exists-in-Exists-clause-taken c = λ e af.
    let m = c.args.machine.now in
    let p = c.args.place in
    let n = c.put_exists.new.machine in
    let k = c.take_apart.new.machine in
    let x = c.if-not-take_apart.ensures.apart refl in
    let f = c.in_ok-put_exists-in-Exists.ensures in
    known_taken m n p c.args.connective c.args.behind (λ a b i kc w. returns-in_ok-put_exists-in-Exists-clause-exists c e c.in-Exists.field-0
    c.in-Exists.term c.in-Exists.is a b i kc w) (grown_apart m k n p x f.grown) (λ kc. stands_apart m k n x f.stands)
    (quietly m k n x (c.if-not-take_apart.ensures.taken refl) (grown_on k n p f.grown) f.counts) (kept_apart m k n p x (no_other k n p f.choices))

pub returns-in-True-clause-taken : goal.returns-in-True-clause-taken
returns-in-True-clause-taken c = λ e af.
    let m = c.args.machine.now in
    let p = c.args.place in
    let n = c.go_behind.new.machine in
    let k = c.take_apart.new.machine in
    let x = c.if-not-take_apart.ensures.apart refl in
    let f = c.go_behind.ensures in
    let g = grown_kept k n p f.known f.frames f.assumed f.denied in
    known_taken m n p c.args.connective c.args.behind (λ a b i kc w. returns-in-True-clause-truth c e c.in-True.is a b w) (grown_apart m k n p x g)
    (λ kc. stands_apart m k n x (same_stands k n f.known f.frames))
    (quietly m k n x (c.if-not-take_apart.ensures.taken refl) (grown_on k n p g) f.counts) (kept_apart m k n p x (no_other k n p (ap (λ v. v.items) f.choices)))

pub returns-in_ok-put_and-in-And-clause-written : goal.returns-in_ok-put_and-in-And-clause-written
returns-in_ok-put_and-in-And-clause-written c = λ e h.
    connective_writes c.args.machine.now c.take_apart.new.machine c.put_and.new.machine c.args.connective _ (c.if-not-take_apart.ensures.apart refl) c.in-And.is c.in_ok-put_and-in-And.ensures.written

pub returns-in_ok-put_or-in-Or-clause-written : goal.returns-in_ok-put_or-in-Or-clause-written
returns-in_ok-put_or-in-Or-clause-written c = λ e h.
    connective_writes c.args.machine.now c.take_apart.new.machine c.put_or.new.machine c.args.connective _ (c.if-not-take_apart.ensures.apart refl) c.in-Or.is c.in_ok-put_or-in-Or.ensures.written

pub returns-in_ok-put_for_all-in-ForAll-clause-written : goal.returns-in_ok-put_for_all-in-ForAll-clause-written
returns-in_ok-put_for_all-in-ForAll-clause-written c = λ e h.
    connective_writes c.args.machine.now c.take_apart.new.machine c.put_for_all.new.machine c.args.connective _
    (c.if-not-take_apart.ensures.apart refl) c.in-ForAll.is c.in_ok-put_for_all-in-ForAll.ensures.written

pub returns-in_ok-put_exists-in-Exists-clause-written : goal.returns-in_ok-put_exists-in-Exists-clause-written
returns-in_ok-put_exists-in-Exists-clause-written c = λ e h.
    connective_writes c.args.machine.now c.take_apart.new.machine c.put_exists.new.machine c.args.connective _
    (c.if-not-take_apart.ensures.apart refl) c.in-Exists.is c.in_ok-put_exists-in-Exists.ensures.written

pub returns-in-True-clause-written : goal.returns-in-True-clause-written
returns-in-True-clause-written c = λ e h. behind_writes c.args.machine.now c.take_apart.new.machine c.go_behind.new.machine
    (c.if-not-take_apart.ensures.apart refl) c.go_behind.ensures.known c.go_behind.ensures.frames c.go_behind.ensures.assumed
    c.go_behind.ensures.choices

pub returns-in_ok-put_and-in-And-clause-none : goal.returns-in_ok-put_and-in-And-clause-none
returns-in_ok-put_and-in-And-clause-none c = λ e af. none_apart c.args.machine.now c.take_apart.new.machine c.put_and.new.machine
    (c.if-not-take_apart.ensures.apart refl) c.in_ok-put_and-in-And.ensures.none

pub returns-in_ok-put_or-in-Or-clause-none : goal.returns-in_ok-put_or-in-Or-clause-none
returns-in_ok-put_or-in-Or-clause-none c = λ e af. none_apart c.args.machine.now c.take_apart.new.machine c.put_or.new.machine
    (c.if-not-take_apart.ensures.apart refl) c.in_ok-put_or-in-Or.ensures.none

pub returns-in_ok-put_for_all-in-ForAll-clause-none : goal.returns-in_ok-put_for_all-in-ForAll-clause-none
returns-in_ok-put_for_all-in-ForAll-clause-none c = λ e af. none_apart c.args.machine.now c.take_apart.new.machine c.put_for_all.new.machine
    (c.if-not-take_apart.ensures.apart refl) c.in_ok-put_for_all-in-ForAll.ensures.none

pub returns-in_ok-put_exists-in-Exists-clause-none : goal.returns-in_ok-put_exists-in-Exists-clause-none
returns-in_ok-put_exists-in-Exists-clause-none c = λ e af. none_apart c.args.machine.now c.take_apart.new.machine c.put_exists.new.machine
    (c.if-not-take_apart.ensures.apart refl) c.in_ok-put_exists-in-Exists.ensures.none

pub returns-in-True-clause-none : goal.returns-in-True-clause-none
returns-in-True-clause-none c = λ e af. none_apart c.args.machine.now c.take_apart.new.machine c.go_behind.new.machine (c.if-not-take_apart.ensures.apart refl) c.go_behind.ensures.none

pub returns-in_ok-put_and-in-And-clause-aside_with : goal.returns-in_ok-put_and-in-And-clause-aside_with
returns-in_ok-put_and-in-And-clause-aside_with c = λ e af.
    with_apart c.args.machine.now c.take_apart.new.machine c.put_and.new.machine (c.if-not-take_apart.ensures.apart refl)
    (none_with c.take_apart.new.machine c.put_and.new.machine c.in_ok-put_and-in-And.ensures.choices)

pub returns-in_ok-put_or-in-Or-clause-aside_with : goal.returns-in_ok-put_or-in-Or-clause-aside_with
returns-in_ok-put_or-in-Or-clause-aside_with c = λ e af. with_apart c.args.machine.now c.take_apart.new.machine c.put_or.new.machine
    (c.if-not-take_apart.ensures.apart refl) c.in_ok-put_or-in-Or.ensures.aside_with

pub returns-in_ok-put_for_all-in-ForAll-clause-aside_with : goal.returns-in_ok-put_for_all-in-ForAll-clause-aside_with
returns-in_ok-put_for_all-in-ForAll-clause-aside_with c = λ e af.
    with_apart c.args.machine.now c.take_apart.new.machine c.put_for_all.new.machine (c.if-not-take_apart.ensures.apart refl)
    (none_with c.take_apart.new.machine c.put_for_all.new.machine c.in_ok-put_for_all-in-ForAll.ensures.choices)

pub returns-in_ok-put_exists-in-Exists-clause-aside_with : goal.returns-in_ok-put_exists-in-Exists-clause-aside_with
returns-in_ok-put_exists-in-Exists-clause-aside_with c = λ e af.
    with_apart c.args.machine.now c.take_apart.new.machine c.put_exists.new.machine (c.if-not-take_apart.ensures.apart refl)
    (none_with c.take_apart.new.machine c.put_exists.new.machine c.in_ok-put_exists-in-Exists.ensures.choices)

pub returns-in-True-clause-aside_with : goal.returns-in-True-clause-aside_with
returns-in-True-clause-aside_with c = λ e af.
    with_apart c.args.machine.now c.take_apart.new.machine c.go_behind.new.machine (c.if-not-take_apart.ensures.apart refl)
    (none_with c.take_apart.new.machine c.go_behind.new.machine (ap (λ v. v.items) c.go_behind.ensures.choices))

pub returns-then-not-take_apart-clause-program : goal.returns-then-not-take_apart-clause-program
returns-then-not-take_apart-clause-program c = program_same c.args.machine.now c.take_apart.new.machine (c.if-not-take_apart.ensures.spent refl).0

pub returns-in_ok-put_and-in-And-clause-program : goal.returns-in_ok-put_and-in-And-clause-program
returns-in_ok-put_and-in-And-clause-program c = apart_at c.args.machine.now c.take_apart.new.machine c.put_and.new.machine c.args.place
    (c.if-not-take_apart.ensures.apart refl) c.in_ok-put_and-in-And.ensures.grown

pub returns-in_ok-put_or-in-Or-clause-program : goal.returns-in_ok-put_or-in-Or-clause-program
returns-in_ok-put_or-in-Or-clause-program c = apart_at c.args.machine.now c.take_apart.new.machine c.put_or.new.machine c.args.place
    (c.if-not-take_apart.ensures.apart refl) c.in_ok-put_or-in-Or.ensures.grown

pub returns-in_ok-put_for_all-in-ForAll-clause-program : goal.returns-in_ok-put_for_all-in-ForAll-clause-program
returns-in_ok-put_for_all-in-ForAll-clause-program c = apart_at c.args.machine.now c.take_apart.new.machine c.put_for_all.new.machine c.args.place
    (c.if-not-take_apart.ensures.apart refl) c.in_ok-put_for_all-in-ForAll.ensures.grown

pub returns-in_ok-put_exists-in-Exists-clause-program : goal.returns-in_ok-put_exists-in-Exists-clause-program
returns-in_ok-put_exists-in-Exists-clause-program c = apart_at c.args.machine.now c.take_apart.new.machine c.put_exists.new.machine c.args.place
    (c.if-not-take_apart.ensures.apart refl) c.in_ok-put_exists-in-Exists.ensures.grown

pub returns-in-True-clause-program : goal.returns-in-True-clause-program
returns-in-True-clause-program c = apart_goals c.args.machine.now c.take_apart.new.machine c.go_behind.new.machine (c.if-not-take_apart.ensures.apart refl) c.go_behind.ensures.known

pub returns-in-Cut-clause-program : goal.returns-in-Cut-clause-program
returns-in-Cut-clause-program c = apart_goals c.args.machine.now c.take_apart.new.machine c.go_behind-in-Cut.new.machine (c.if-not-take_apart.ensures.apart refl) c.go_behind-in-Cut.ensures.known

pub returns-then-not-take_apart-clause-uses : goal.returns-then-not-take_apart-clause-uses
returns-then-not-take_apart-clause-uses c = λ e. absurd e

pub returns-in_ok-put_or-in-Or-clause-uses : goal.returns-in_ok-put_or-in-Or-clause-uses
returns-in_ok-put_or-in-Or-clause-uses c = λ e.
    let t = c.if-not-take_apart.ensures in
    let k = c.take_apart.new.machine in
    apart_used c.args.machine.now k c.put_or.new.machine (t.apart refl) (t.taken refl).0 (c.in_ok-put_or-in-Or.ensures.few)

pub returns-in_ok-put_and-in-And-clause-uses : goal.returns-in_ok-put_and-in-And-clause-uses
returns-in_ok-put_and-in-And-clause-uses c = λ e.
    let t = c.if-not-take_apart.ensures in
    let k = c.take_apart.new.machine in
    apart_used c.args.machine.now k c.put_and.new.machine (t.apart refl) (t.taken refl).0 (let e = c.in_ok-put_and-in-And.ensures in same_few k c.put_and.new.machine e.counts e.choices)

pub returns-in_ok-put_for_all-in-ForAll-clause-uses : goal.returns-in_ok-put_for_all-in-ForAll-clause-uses
returns-in_ok-put_for_all-in-ForAll-clause-uses c = λ e.
    let t = c.if-not-take_apart.ensures in
    let k = c.take_apart.new.machine in
    apart_used c.args.machine.now k c.put_for_all.new.machine (t.apart refl) (t.taken refl).0 (let e = c.in_ok-put_for_all-in-ForAll.ensures in same_few k c.put_for_all.new.machine e.counts e.choices)

pub returns-in_ok-put_exists-in-Exists-clause-uses : goal.returns-in_ok-put_exists-in-Exists-clause-uses
returns-in_ok-put_exists-in-Exists-clause-uses c = λ e.
    let t = c.if-not-take_apart.ensures in
    let k = c.take_apart.new.machine in
    apart_used c.args.machine.now k c.put_exists.new.machine (t.apart refl) (t.taken refl).0 (let e = c.in_ok-put_exists-in-Exists.ensures in same_few k c.put_exists.new.machine e.counts e.choices)

pub returns-in-True-clause-uses : goal.returns-in-True-clause-uses
returns-in-True-clause-uses c = λ e.
    let t = c.if-not-take_apart.ensures in
    let k = c.take_apart.new.machine in
    apart_used c.args.machine.now k c.go_behind.new.machine (t.apart refl) (t.taken refl).0 (let e = c.go_behind.ensures in same_few k c.go_behind.new.machine e.counts (ap (λ z. z.items) e.choices))

pub returns-in-Cut-clause-uses : goal.returns-in-Cut-clause-uses
returns-in-Cut-clause-uses c = λ e.
    let t = c.if-not-take_apart.ensures in
    let k = c.take_apart.new.machine in
    apart_used c.args.machine.now k c.go_behind-in-Cut.new.machine (t.apart refl) (t.taken refl).0 (let e = c.go_behind-in-Cut.ensures in same_few k c.go_behind-in-Cut.new.machine e.counts (ap (λ z. z.items) e.choices))
