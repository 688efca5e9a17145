use Rattle.lp_plain.proofs.Growing.{grows_kept}
use Rattle.lp_plain.proofs.WrittenSearches.{search_cut}
use Rattle.std.proofs.Common.{◌≡◌, ◌∙◌, ◌≤◌, ap, subst, sym, take}
use Rattle.std.specs.Prelude.{IfSome, slice_get}
use Rattle.lp_plain.specs.declared.choice.Choice.{Choice}
use Rattle.lp_plain.specs.Keeping.{IsAround}
use Rattle.lp_plain.proofs.HeldMoves.{held_back, held_open, no_items, some_items}
use Rattle.std.proofs.Common.{refl}
use Rattle.lp_plain.proofs.ProgramKept.{goals_keep, program_same}
use Rattle.std.proofs.Common.{arith}
use Rattle.lp_plain.specs.inner.Remaining.{remaining, total}
use Rattle.lp_plain.proofs.Remains.{back_same, total_take}
use Rattle.lp_plain.proofs.negation.end_branch.Goals as goal

pub returns-in_default-clause-written : goal.returns-in_default-clause-written
returns-in_default-clause-written c = λ ar i w. w

pub returns-then-not-is_empty-clause-written : goal.returns-then-not-is_empty-clause-written
returns-then-not-is_empty-clause-written c = λ ar i w. w

pub returns-clause-written : goal.returns-clause-written
returns-clause-written c = λ ar i w.
    let m = c.args.machine.now in
    let n = c.drop_denied.new.self in
    let d = c.drop_denied.ensures in
    search_cut m n c.in-Some.number i (grows_kept m n d.goals) d.frames d.assumed d.dropped ar w

pub returns-in_default-clause-held : goal.returns-in_default-clause-held
returns-in_default-clause-held c = λ qv s h none number inside. absurd (let y = c.in_default.is in cc)

pub returns-then-not-is_empty-clause-held : goal.returns-then-not-is_empty-clause-held
returns-then-not-is_empty-clause-held c = λ qv s h none number inside. let m = c.args.machine.now in held_open qv m s h none number inside m
    (some_items m.branch.pairs.len m.branch.pairs.items c.is_empty.result c.is_empty.ensures m.branch.pairs.ok.0 c.if-not-is_empty.true)

pub returns-clause-held : goal.returns-clause-held
returns-clause-held c = λ qv s h none number inside.
    let m = c.args.machine.now in
    let n = c.drop_denied.new.self in
    let d = c.drop_denied.ensures in
    let e : c.in-Some.number ≡ number = (let y = c.in-Some.is in cc) in
    held_back qv m s h none number inside (no_items m.branch.pairs.len m.branch.pairs.items c.is_empty.result c.is_empty.ensures m.branch.pairs.ok.0
    c.if-not-is_empty.false) n (d.dropped ∙ ap (λ i. take i m.choices.items) e) d.only d.counts
    (subst (λ i. IfSome (slice_get m.choices.items i) (λ (c : Choice). IsAround c.untried n)) e d.around)

pub returns-in_default-clause-program : goal.returns-in_default-clause-program
returns-in_default-clause-program c = program_same c.args.machine.now c.args.machine.now refl

pub returns-then-not-is_empty-clause-program : goal.returns-then-not-is_empty-clause-program
returns-then-not-is_empty-clause-program c = program_same c.args.machine.now c.args.machine.now refl

pub returns-clause-program : goal.returns-clause-program
returns-clause-program c = goals_keep c.args.machine.now c.drop_denied.new.self c.drop_denied.ensures.goals

pub returns-in_default-clause-less : goal.returns-in_default-clause-less
returns-in_default-clause-less c = omega arith

pub returns-then-not-is_empty-clause-less : goal.returns-then-not-is_empty-clause-less
returns-then-not-is_empty-clause-less c = omega arith

pub returns-clause-less : goal.returns-clause-less
returns-clause-less c =
    let m = c.args.machine.now in
    let n = c.drop_denied.new.self in
    let d = c.drop_denied.ensures in
    back_same m n (ap remaining d.counts) (subst (λ z. total z ≤ total m.choices.items) (sym d.dropped) (total_take c.in-Some.number m.choices.items))
