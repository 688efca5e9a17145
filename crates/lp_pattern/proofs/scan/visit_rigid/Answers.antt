use Rattle.std.proofs.Common.{ℕ, ◌∷◌, ◌++◌, ◌∙◌, sym, ap, refl, reverse, arith}
use Rattle.lp_term.proofs.Moves.{passed_up}
use Rattle.lp_model.specs.Pair.{Closing}
use Rattle.lp_pattern.specs.Reading.{side_of}
use Rattle.lp_pattern.specs.Scanning.{visits}
use Rattle.lp_pattern.specs.Stripping.{IsShut}
use Rattle.lp_pattern.specs.Under.{IsReading}
use Rattle.lp_pattern.specs.Visiting.{IsStopped, scan_parts, part_at, parts_of}
use Rattle.lp_pattern.proofs.Falls.{unit_falls}
use Rattle.lp_pattern.proofs.Scannings.{rigid_goes, rigid_breaks, rigid_spent, pushed_known}
use Rattle.lp_pattern.proofs.scan.visit_rigid.Goals as goal

pub returns-in_err-spend-clause-stopped : goal.returns-in_err-spend-clause-stopped
returns-in_err-spend-clause-stopped c =
    passed_up c.from_residual.result c.in_err-spend.field-0.0
    (λ e. (r : Closing) → IsReading c.args.bank.now c.args.bindings.now r → IsShut r → (m n : ℕ) → IsStopped m e c.args.units.now
    (scan_parts m n (side_of c.args.side.now) (part_at c.args.bank.now r c.args.visit c.args.looked.now.whole ∷ parts_of c.args.bank.now r c.args.left.now.items)))
    c.from_residual.ensures.1
    (λ r i h m n. rigid_spent c.args.bank.now c.args.bindings.now r c.args.side.now c.args.visit c.args.looked.now c.args.left.now.items c.requires.looked c.requires.visit m n c.args.units.now c.in_err-spend.field-0.0 c.requires.head c.in_err-spend.ensures.refused.1 c.in_err-spend.ensures.refused.0)

pub returns-then-not-goes-clause-stopped : goal.returns-then-not-goes-clause-stopped
returns-then-not-goes-clause-stopped c = λ r i h m n.
    rigid_breaks c.args.bank.now c.args.bindings.now r c.args.side.now c.args.visit c.args.looked.now c.args.left.now.items c.requires.looked
    c.requires.visit m n c.args.units.now c.spend.new.units c.allows_head-is_allowed.result _ c.requires.head c.allows_head-is_allowed.ensures
    (sym c.either-goes.ensures ∙ c.if-not-goes.true)
    c.in_ok-spend.ensures.spent refl

pub returns-clause-left : goal.returns-clause-left
returns-clause-left c =
    pushed_known _ c.args.side.now.pair c.args.visit c.args.visit.is_inside c.args.looked.now.arguments.items c.args.left.now.items c.push_arguments.new.left.items c.requires.visit.1 c.requires.looked.arguments c.requires.left
    (c.in_ok-push_arguments.ensures ∙ ap (λ l. c.args.left.now.items ++ reverse (visits c.args.visit c.args.visit.is_inside l)) c.as_slice.ensures.value)

pub returns-clause-scanned : goal.returns-clause-scanned
returns-clause-scanned c = λ r i h m n.
    rigid_goes c.args.bank.now c.args.bindings.now r c.args.side.now c.args.visit c.args.looked.now c.args.left.now.items c.requires.looked c.requires.visit m n c.args.units.now c.spend.new.units c.args.found.now
    (record { is_delayed = c.either-found.result; has_misfit = c.args.found.now.has_misfit }) c.allows_head-is_allowed.result c.push_arguments.new.left.items c.requires.head c.allows_head-is_allowed.ensures (sym c.either-goes.ensures ∙ c.if-not-goes.false)
    c.in_ok-spend.ensures.spent c.either-found.ensures refl
    (c.in_ok-push_arguments.ensures ∙ ap (λ l. c.args.left.now.items ++ reverse (visits c.args.visit c.args.visit.is_inside l)) c.as_slice.ensures.value)

pub returns-clause-fewer : goal.returns-clause-fewer
returns-clause-fewer c = omega (arith, c.in_ok-spend.ensures.spent)

pub returns-clause-falls : goal.returns-clause-falls
returns-clause-falls c = unit_falls _ _ _ _ (omega (arith, c.in_ok-spend.ensures.spent))
