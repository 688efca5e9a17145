use Rattle.lp_pattern.proofs.Falls.{body_falls}
use Rattle.lp_pattern.proofs.Scannings.{body_goes, body_visit, one_known}
use Rattle.lp_pattern.proofs.scan.visit_body.Goals as goal

pub returns-clause-left : goal.returns-clause-left
returns-clause-left c =
    one_known _ c.args.side.now.pair c.in_ok-inner.inner c.args.left.now.items c.push.new.self.items
    (body_visit c.args.bank.now c.args.bindings.now c.args.looked.now c.args.body c.args.side.now.pair c.in_ok-inner.inner c.args.visit c.requires.looked c.requires.head c.in_ok-inner.ensures.term c.in_ok-inner.ensures.level c.requires.visit.1)
    c.requires.left c.in_ok-push.ensures.items

pub returns-clause-scanned : goal.returns-clause-scanned
returns-clause-scanned c = λ r i h m n.
    body_goes c.args.bank.now c.args.bindings.now r c.args.side.now c.args.visit c.args.looked.now c.args.left.now.items c.requires.looked
    c.requires.visit m n c.args.units.now c.args.found.now c.args.body c.in_ok-inner.inner c.push.new.self.items h c.requires.head
    c.in_ok-inner.ensures.term c.in_ok-inner.ensures.level c.in_ok-inner.ensures.depth
    c.in_ok-inner.ensures.inside c.in_ok-push.ensures.items

pub returns-clause-falls : goal.returns-clause-falls
returns-clause-falls c = body_falls c.args.units.now c.args.visit.opened.depth c.args.left.now.items c.push.new.self.items c.in_ok-inner.inner c.in_ok-push.ensures.items c.in_ok-inner.ensures.depth c.in_ok-inner.ensures.few
