use Rattle.std.proofs.Common.{arith, sym, ap, ◌∙◌, subst as transport}
use Rattle.std.specs.HashMap.{values}
use Rattle.lp_calculus.specs.Term.{shift}
use Rattle.lp_term.specs.Walk.{Everywhere}
use Rattle.lp_term.specs.Raise.{FitsRaised}
use Rattle.lp_term.specs.Nodes.{tree}
use Rattle.lp_term.specs.declared.change.Change.TheVariants.{Raise}
use Rattle.lp_term.proofs.Ways.{shift_none, shift_unchanged, recalled}
use Rattle.lp_term.proofs.carry.raised_value.Goals as goal

pub returns-then-depth-eq0-clause-made : goal.returns-then-depth-eq0-clause-made
returns-then-depth-eq0-clause-made c = (c.requires.value, shift_none c.args.depth (tree c.args.bank.now c.args.value.0) (omega arith))

pub returns-then-is_known_below-clause-made : goal.returns-then-is_known_below-clause-made
returns-then-is_known_below-clause-made c = (c.requires.value, shift_unchanged c.args.depth (tree c.args.bank.now c.args.value.0) (c.is_known_below.ensures c.if-is_known_below.true))

pub returns-in_default-clause-made : goal.returns-in_default-clause-made
returns-in_default-clause-made c =
    recalled c.requires.known.0 c.args.bank.now (values c.args.memo.now) c.requires.known.1 (record { id = c.args.value; depth = 0; change = Raise c.args.depth }) c.recall.result c.recall.ensures

pub raise-requires-clause-fits : goal.raise-requires-clause-fits
raise-requires-clause-fits c = transport (Everywhere (FitsRaised c.args.depth) 0) (sym c.in-Index.ensures.tree) c.requires.fits

pub returns-clause-made : goal.returns-clause-made
returns-clause-made c = (c.in_ok-made.ensures.within, c.in_ok-made.ensures.tree ∙ ap (shift 0 c.args.depth) c.in-Index.ensures.tree)
