use Rattle.std.proofs.Common.{ap, is_ok, sym, ◌∙◌}
use Rattle.std.proofs.ResultArms.{chosen}
use Rattle.lp_syntax.specs.declared.held.Held.TheVariants.{Waits}
use Rattle.std.specs.Prelude.{None}
use Rattle.lp_syntax.proofs.Views.{pushed_below}
use Rattle.lp_syntax.proofs.Stepping.{waits_else}
use Rattle.lp_syntax.proofs.step.named_else.Goals as goal

pub wants-requires : goal.wants-requires
wants-requires c = record { frames = pushed_below _ c.args.frames.now.items _ (Waits c.args.o None) (chosen _ _ _ _ c.push.ensures.items (ap is_ok c.in_ok-push.was)) c.requires.frames tt }

pub returns : goal.returns
returns c = waits_else _ _ c.args.frames.now.items _ _ c.args.o c.args.c (chosen _ _ _ _ c.push.ensures.items (ap is_ok c.in_ok-push.was)) (sym c.is_prefix.ensures ∙ c.if-not-is_prefix.false) c.wants.result c.wants.ensures
