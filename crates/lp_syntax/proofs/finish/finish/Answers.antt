use Rattle.lp_syntax.proofs.Views.{each_more}
use Rattle.lp_syntax.proofs.Finishing.{finishes_after}
use Rattle.lp_syntax.proofs.finish.finish.Goals as goal

pub fold-requires-clause-frames : goal.fold-requires-clause-frames
fold-requires-clause-frames c = each_more _ _ c.args.frames.now.items c.in_ok-whole-in-Has.ensures.grows.longer c.requires.frames

pub returns-in_ok-whole-in-Has : goal.returns-in_ok-whole-in-Has
returns-in_ok-whole-in-Has c =
    let l = c.in_ok-whole-in-Has.ensures in
    rw c.in-Has.is (finishes_after _ _ _ c.args.frames.now.items c.in_ok-whole-in-Has.whole _ l.grows c.requires.frames l.tree c.fold.result c.fold.ensures)
