use Rattle.std.proofs.Common.{◌∙◌, ap, is_ok, refl, subst, sym}
use Rattle.std.proofs.ResultArms.{chosen}
use Rattle.lp_solve.specs.Shown.{constants_shown}
use Rattle.lp_solve.proofs.Naming.{IsLeft, entries_more, entries_end}
use Rattle.lp_solve.proofs.shown.glossary_of.Goals as goal

pub returns : goal.returns
returns c =
    entries_end c.args.built.now.signature c.as_slice-constants.result.now c.constants.at c.constants.number _ c.constants-test.false c.constants.invariant ∙
    ap (constants_shown c.args.built.now.signature 32) c.as_slice-constants.ensures.value

pub constants-init : goal.constants-init
constants-init c = subst (IsLeft c.args.built.now.signature c.as_slice-constants.result.now 0 32) (sym c.new-entries.ensures.items) refl

pub constants-preserved : goal.constants-preserved
constants-preserved c =
    entries_more c.args.built.now.signature c.as_slice-constants.result.now c.constants.at c.constants.number c.saturating_add-number.result
    c.index-constants-at.result c.in_ok-entry.entry _ _ c.constants-test.true c.index-constants-at.is c.in_ok-entry.ensures
    (chosen _ _ _ _ c.push.ensures.items (ap is_ok c.in_ok-push.was)) c.saturating_add-number.ensures c.constants.invariant
