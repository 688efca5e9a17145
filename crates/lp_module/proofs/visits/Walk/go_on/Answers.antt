use Rattle.std.proofs.Common.{sym, subst, arith, refl, reverse}
use Rattle.std.proofs.lemmas.List.{nil_from_length}
use Rattle.lp_module.specs.Searching.{ways_in, Goes}
use Rattle.lp_module.proofs.Visiting.{to_within, meets, ended, left}
use Rattle.lp_module.proofs.visits.Walk.go_on.Goals as goal

pub meet-requires-clause-to : goal.meet-requires-clause-to
meet-requires-clause-to c = to_within c.args.ways.now.items c.args.self.now.at c.args.self.now.next _ c.index-out.result.now c.index.result.now
    c.requires.within c.requires.walk.within c.index-out.ensures (omega (arith, c.if-self-len.true, c.len.ensures, c.index-out.result.now.ok))
    c.index.ensures c.requires.walk.count

pub returns-then-self-len : goal.returns-then-self-len
returns-then-self-len c =
    let w = c.args.self.now in
    let v = c.meet.new.self in
    let (goes, falls) = meets c.args.ways.now.items v.root w.seen.items v.seen.items w.order.items v.order.items w.at v.at w.next v.next w.around.items v.around.items c.index-out.result.now c.index.result.now
    c.requires.free c.requires.within c.index-out.ensures (omega (arith, c.if-self-len.true, c.len.ensures, c.index-out.result.now.ok)) c.index.ensures c.in_ok-meet.ensures.order c.in_ok-meet.ensures.again c.in_ok-meet.ensures.first
    (subst (λ r. Goes (ways_in c.args.ways.now.items) r w.seen.items w.order.items w.at w.next (reverse w.around.items)) (sym c.in_ok-meet.ensures.root) c.requires.walk) in
    (goes, c.in_ok-meet.ensures.root, falls)

pub returns-in-None : goal.returns-in-None
returns-in-None c =
    let w = c.args.self.now in
    ended c.args.ways.now.items w.root w.seen.items w.order.items c.push.new.self.items w.at w.next w.around.items c.index-out.result.now c.index-out.ensures (omega (arith, c.if-self-len.false, c.len.ensures, c.index-out.result.now.ok)) c.in_ok-push.ensures.items
    (nil_from_length w.around.items (omega (arith, c.in-None.ensures.cases.0, w.around.ok))) c.requires.walk

pub returns-in-Some : goal.returns-in-Some
returns-in-Some c =
    let w = c.args.self.now in
    let (goes, falls) = left c.args.ways.now.items w.root w.seen.items w.order.items c.push.new.self.items w.at w.next w.around.items c.pop.new.self.items c.in-Some.outer c.index-out.result.now c.index-out.ensures
    (omega (arith, c.if-self-len.false, c.len.ensures, c.index-out.result.now.ok)) c.in_ok-push.ensures.items c.in-Some.ensures.items c.requires.walk in
    (goes, refl, falls)
