use Rattle.std.proofs.Common.{ℕ, ◌∷◌, ◌++◌, ◌∙◌, ap, subst as transport, map, reverse, length, true, Some, None, arith}
use Rattle.lp_term.proofs.Moves.{passed_up}
use Rattle.lp_model.specs.Pair.{Closing}
use Rattle.lp_pattern.specs.Reading.{side_of}
use Rattle.lp_pattern.specs.Scanning.{visits}
use Rattle.lp_pattern.specs.Stripping.{IsShut, IsPattern, HasNoPattern, read_at}
use Rattle.lp_pattern.specs.Under.{IsReading}
use Rattle.lp_pattern.specs.Visiting.{IsStopped, scan_parts, part_at, parts_of}
use Rattle.lp_pattern.proofs.Falls.{unit_falls}
use Rattle.lp_pattern.proofs.Results.{err_and}
use Rattle.lp_pattern.specs.Refusing.{IsOfTerm}
use Rattle.lp_pattern.proofs.Scannings.{variable_spent, variable_far, open_goes, pattern_goes, pattern_breaks, pushed_known, visits_kept}
use Rattle.lp_pattern.proofs.scan.visit_variable.Goals as goal

pub returns-in_err-spend-clause-stopped : goal.returns-in_err-spend-clause-stopped
returns-in_err-spend-clause-stopped c =
    passed_up c.from_residual.result c.in_err-spend.field-0.0
    (λ e. (r : Closing) → IsReading c.args.bank.now c.args.bindings.now r → IsShut r → (m n : ℕ) → IsStopped m e c.args.units.now
    (scan_parts m n (side_of c.args.side.now) (part_at c.args.bank.now r c.args.visit c.args.looked.now.whole ∷ parts_of c.args.bank.now r c.args.left.now.items)))
    c.from_residual.ensures.1
    (λ r i h m n. variable_spent c.args.bank.now c.args.bindings.now r c.args.side.now c.args.visit c.args.looked.now c.args.left.now.items
    c.requires.looked c.requires.visit m n c.args.units.now c.args.id c.args.level c.in_err-spend.field-0.0 i c.requires.head
    c.in_err-spend.ensures.refused.1 c.in_err-spend.ensures.refused.0)

pub returns-in_err-pattern-clause-stopped : goal.returns-in_err-pattern-clause-stopped
returns-in_err-pattern-clause-stopped c =
    err_and c.from_residual-in_err-pattern.result (λ e. IsOfTerm c.in_err-pattern.field-0.0 e) _ c.from_residual-in_err-pattern.ensures.1
    (λ y o r i h m n.
    variable_far c.args.bank.now c.args.bindings.now r c.args.side.now c.args.visit c.args.looked.now c.args.left.now.items c.requires.looked c.requires.visit m n c.args.units.now c.args.id c.args.level c.in_err-pattern.field-0.0 y i c.requires.head o
    (λ l. transport (λ z. HasNoPattern m c.args.level (map (read_at c.args.bank.now r c.args.visit.opened.level c.args.visit.opened.depth) z) c.in_err-pattern.field-0.0) c.as_slice-arguments.ensures.value (c.in_err-pattern.ensures.refused r i h m l)))

pub returns-in_default-clause-left : goal.returns-in_default-clause-left
returns-in_default-clause-left c =
    visits_kept c.args.bank.now c.pattern_of.new.bank c.args.side.now.pair c.note_open.new.left.items c.in_ok-pattern.ensures.kept
    (pushed_known (length c.args.bank.now.terms) c.args.side.now.pair c.args.visit true c.args.looked.now.arguments.items c.args.left.now.items c.note_open.new.left.items c.requires.visit.1 c.requires.looked.arguments c.requires.left
    (c.in_ok-note_open.ensures.arguments ∙ ap (λ l. c.args.left.now.items ++ reverse (visits c.args.visit true l)) c.as_slice-arguments.ensures.value))

pub returns-in_default-clause-scanned : goal.returns-in_default-clause-scanned
returns-in_default-clause-scanned c = λ r i h m n.
    let q = c.in_ok-note_open.ensures.arguments ∙ ap (λ l. c.args.left.now.items ++ reverse (visits c.args.visit true l)) c.as_slice-arguments.ensures.value in
    open_goes c.args.bank.now c.args.bindings.now r c.args.side.now c.args.visit c.args.looked.now c.args.left.now.items c.requires.looked c.requires.visit c.pattern_of.new.bank m n c.args.units.now c.spend.new.units c.args.id c.args.level
    c.args.found.now c.note_open.new.found c.note_open.new.left.items c.in_ok-pattern.ensures.kept i c.requires.head
    (transport (λ l. IsPattern m c.args.level (map (read_at c.args.bank.now r c.args.visit.opened.level c.args.visit.opened.depth) l) None)
    c.as_slice-arguments.ensures.value (transport (λ o. IsPattern m c.args.level
    (map (read_at c.args.bank.now r c.args.visit.opened.level c.args.visit.opened.depth) c.as_slice-arguments.result.now) o) c.in_default.is
    (c.in_ok-pattern.ensures.pattern r i h m))) c.in_ok-spend.ensures.spent c.in_ok-note_open.ensures.delayed c.in_ok-note_open.ensures.misfit q
    (pushed_known (length c.args.bank.now.terms) c.args.side.now.pair c.args.visit true c.args.looked.now.arguments.items c.args.left.now.items c.note_open.new.left.items c.requires.visit.1 c.requires.looked.arguments c.requires.left q)

pub returns-in_err-note_pattern-clause-stopped : goal.returns-in_err-note_pattern-clause-stopped
returns-in_err-note_pattern-clause-stopped c =
    passed_up c.from_residual-in_err-note_pattern.result c.in_err-note_pattern.field-0.0
    (λ e. (r : Closing) → IsReading c.args.bank.now c.args.bindings.now r → IsShut r → (m n : ℕ) → IsStopped m e c.args.units.now
    (scan_parts m n (side_of c.args.side.now) (part_at c.args.bank.now r c.args.visit c.args.looked.now.whole ∷ parts_of c.args.bank.now r c.args.left.now.items)))
    c.from_residual-in_err-note_pattern.ensures.1
    (λ r i h m n.
    pattern_breaks c.args.bank.now c.args.bindings.now r c.args.side.now c.args.visit c.args.looked.now c.args.left.now.items c.requires.looked c.requires.visit m n c.args.units.now c.spend.new.units c.args.id c.args.level c.in-Some.pattern c.in_err-note_pattern.field-0.0 i c.requires.head
    (transport (λ l. IsPattern m c.args.level (map (read_at c.args.bank.now r c.args.visit.opened.level c.args.visit.opened.depth) l)
    (Some c.in-Some.pattern)) c.as_slice-arguments.ensures.value (transport (λ o. IsPattern m c.args.level
    (map (read_at c.args.bank.now r c.args.visit.opened.level c.args.visit.opened.depth) c.as_slice-arguments.result.now) o) c.in-Some.is
    (c.in_ok-pattern.ensures.pattern r i h m))) c.in_ok-spend.ensures.spent c.in_err-note_pattern.ensures.failed.1
    c.in_err-note_pattern.ensures.failed.0)

pub returns-clause-left : goal.returns-clause-left
returns-clause-left c = visits_kept c.args.bank.now c.pattern_of.new.bank c.args.side.now.pair c.args.left.now.items c.in_ok-pattern.ensures.kept c.requires.left

pub returns-clause-scanned : goal.returns-clause-scanned
returns-clause-scanned c = λ r i h m n.
    pattern_goes c.args.bank.now c.args.bindings.now r c.args.side.now c.args.visit c.args.looked.now c.args.left.now.items c.requires.looked c.requires.visit c.pattern_of.new.bank m n c.args.units.now c.spend.new.units c.args.id c.args.level
    c.args.found.now c.note_pattern.new.found c.in-Some.pattern c.in_ok-pattern.ensures.kept i c.requires.head
    (transport (λ l. IsPattern m c.args.level (map (read_at c.args.bank.now r c.args.visit.opened.level c.args.visit.opened.depth) l)
    (Some c.in-Some.pattern)) c.as_slice-arguments.ensures.value (transport (λ o. IsPattern m c.args.level
    (map (read_at c.args.bank.now r c.args.visit.opened.level c.args.visit.opened.depth) c.as_slice-arguments.result.now) o) c.in-Some.is
    (c.in_ok-pattern.ensures.pattern r i h m))) c.in_ok-spend.ensures.spent c.in_ok-note_pattern.ensures.noted c.requires.left

pub returns-in_default-clause-fewer : goal.returns-in_default-clause-fewer
returns-in_default-clause-fewer c = omega (arith, c.in_ok-spend.ensures.spent)

pub returns-in_default-clause-falls : goal.returns-in_default-clause-falls
returns-in_default-clause-falls c = unit_falls _ _ _ _ (omega (arith, c.in_ok-spend.ensures.spent))

pub returns-clause-fewer : goal.returns-clause-fewer
returns-clause-fewer c = omega (arith, c.in_ok-spend.ensures.spent)

pub returns-clause-falls : goal.returns-clause-falls
returns-clause-falls c = unit_falls _ _ _ _ (omega (arith, c.in_ok-spend.ensures.spent))
