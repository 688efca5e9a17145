use Rattle.std.proofs.Common.{true, ap, is_ok, sym, ◌∙◌, subst}
use Rattle.std.proofs.ResultArms.{chosen}
use Rattle.lp_syntax.specs.Views.{AdmitsAs}
use Rattle.lp_syntax.proofs.Closing.{prefixed_steps}
use Rattle.lp_syntax.proofs.begin.prefixed.Goals as goal

pub returns : goal.returns
returns c = prefixed_steps _ c.args.frames.now.items _ c.args.o (chosen _ _ _ _ c.push.ensures.items (ap is_ok c.in_ok-push.was)) c.requires.frames
    (sym c.is_prefix.ensures ∙ c.if-not-is_prefix.false) (subst (λ hs. AdmitsAs hs c.args.o.fixity c.args.o.number true) c.deref.ensures.value
    (subst (AdmitsAs c.deref.result.now c.args.o.fixity c.args.o.number) c.if-not-admits.false c.admits.ensures))
