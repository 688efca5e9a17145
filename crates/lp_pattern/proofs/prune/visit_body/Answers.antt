use Rattle.lp_pattern.specs.Reading.{side_of}
use Rattle.lp_pattern.proofs.PruneMoves.{body_prunes}
use Rattle.lp_pattern.proofs.prune.visit_body.Goals as goal

pub returns : goal.returns
returns c = λ next.
    body_prunes (side_of c.args.side.now) c.args.bank.now c.args.bindings.now next c.args.left.now.items c.push.new.self.items c.args.visit c.in_ok-inner.inner c.args.looked.now c.args.body c.requires.looked c.requires.head c.in_ok-inner.ensures.term
    c.in_ok-inner.ensures.level c.in_ok-inner.ensures.depth c.in_ok-push.ensures.items
