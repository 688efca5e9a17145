use Rattle.std.proofs.Common.{◌≡◌, rules}
use Rattle.std.specs.HashMap.{values}
use Rattle.lp_term.proofs.Trees.{extends-trans}
use Rattle.lp_term.proofs.Ways.{all_known_stay, place_stays}
use Rattle.lp_term.proofs.Startings.{found, went_in, next_place, same_left}
use Rattle.lp_term.proofs.started.step.Goals as goal

pub returns-in-Some-2-clause-known : goal.returns-in-Some-2-clause-known
returns-in-Some-2-clause-known c = all_known_stay c.args.given.now c.args.bank.now c.find.new.bank c.in_ok-made.ensures.kept (values c.args.memo.now) c.requires.known

pub returns-in-Some-2-clause-next : goal.returns-in-Some-2-clause-next
returns-in-Some-2-clause-next c = λ v a.
    let k = rw c.in-Some-2.is at c.in_ok-made.ensures.found in
    found c.args.given.now c.args.bank.now c.find.new.bank c.in_ok-made.ensures.kept v c.args.waiting.now.items c.args.top c.in_ok-next-2.next c.pop.new.self c.in-Some.id c.in-Some-2.made c.in-Some.ensures.items c.requires.top a k.0 k.1
    c.in_ok-next-2.ensures.place (λ d t. c.in_ok-next-2.ensures.started c.args.given.now d t)

pub returns-clause-next : goal.returns-clause-next
returns-clause-next c = λ v a.
    went_in c.args.given.now c.args.bank.now c.find.new.bank c.start.new.bank c.in_ok-made.ensures.kept c.in_ok-inner.ensures.kept v c.args.waiting.now.items c.push.new.self.items c.args.top c.in_ok-inner.inner c.pop.new.self c.in-Some.id
    c.in-Some.ensures.items c.requires.top a c.in_ok-push.ensures.items c.in_ok-inner.ensures.place c.in_ok-inner.ensures.started.0 c.in_ok-inner.ensures.started.1

none : (c : goal.After-drop-top-in_default-2) → c.args.top.left.items ≡ c.pop.new.self.items
none c = search rules

pub returns-in_default-clause-known : goal.returns-in_default-clause-known
returns-in_default-clause-known c =
    c.in_ok-next.ensures.known c.args.given.now (same_left c.args.given.now c.args.bank.now c.args.top c.pop.new.self (none c) c.requires.top) c.requires.known

pub returns-clause-known : goal.returns-clause-known
returns-clause-known c =
    all_known_stay c.args.given.now c.args.bank.now c.start.new.bank (extends-trans c.args.bank.now c.find.new.bank c.start.new.bank c.in_ok-made.ensures.kept c.in_ok-inner.ensures.kept) (values c.args.memo.now) c.requires.known

pub start-requires : goal.start-requires
start-requires c =
    place_stays c.args.given.now c.args.bank.now c.find.new.bank c.in_ok-made.ensures.kept (record { id = c.in-Some.id; depth = c.args.top.depth; change = c.args.top.change })
    (next_place c.args.given.now c.args.bank.now c.args.top c.pop.new.self c.in-Some.id c.in-Some.ensures.items c.requires.top)
