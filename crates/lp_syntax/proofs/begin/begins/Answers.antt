use Rattle.std.proofs.Common.{ap, is_ok}
use Rattle.std.proofs.ResultArms.{chosen}
use Rattle.lp_syntax.proofs.Closing.{has_steps, push_steps, list_steps}
use Rattle.lp_syntax.specs.declared.held.Held.TheVariants.{Inside}
use Rattle.lp_syntax.specs.declared.held.Doing.TheVariants.{Fresh}
use Rattle.lp_syntax.proofs.begin.begins.Goals as goal

pub returns-in_ok-leaf-in-Word : goal.returns-in_ok-leaf-in-Word
returns-in_ok-leaf-in-Word c =
    let l = c.in_ok-leaf-in-Word.ensures in
    rw c.in-Word.is (has_steps _ _ c.args.frames.now.items c.args.fun c.in_ok-leaf-in-Word.leaf _ _ l.grows c.requires.frames c.requires.fun l.within l.tree)

pub returns-in_ok-leaf-in-Atom : goal.returns-in_ok-leaf-in-Atom
returns-in_ok-leaf-in-Atom c =
    let l = c.in_ok-leaf-in-Atom.ensures in
    rw c.in-Atom.is (has_steps _ _ c.args.frames.now.items c.args.fun c.in_ok-leaf-in-Atom.leaf _ _ l.grows c.requires.frames c.requires.fun l.within l.tree)

pub returns-in_ok-push-in-Opens : goal.returns-in_ok-push-in-Opens
returns-in_ok-push-in-Opens c =
    rw c.in-Opens.is (push_steps _ c.args.frames.now.items _ (Inside c.args.fun) Fresh (chosen _ _ _ _ c.push.ensures.items (ap is_ok c.in_ok-push-in-Opens.was)) c.requires.frames c.requires.fun tt)

pub returns-in_ok-push-in-OpensList : goal.returns-in_ok-push-in-OpensList
returns-in_ok-push-in-OpensList c =
    rw c.in-OpensList.is (list_steps _ c.args.frames.now.items _ c.in-OpensList.v c.args.fun c.new.result c.new.ensures.items (chosen _ _ _ _ c.push-in-OpensList.ensures.items (ap is_ok c.in_ok-push-in-OpensList.was)) c.requires.frames c.requires.fun)
