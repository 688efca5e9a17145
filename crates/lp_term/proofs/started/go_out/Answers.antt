use Rattle.std.proofs.Common.{◌≡◌, ◌∙◌, [], rules}
use Rattle.std.specs.HashMap.{values}
use Rattle.lp_term.specs.Change.{value}
use Rattle.lp_term.proofs.Ways.{all_known_stay, keeps}
use Rattle.lp_term.proofs.Startings.{closes, ended, went_out}
use Rattle.lp_term.proofs.started.go_out.Goals as goal

pub returns-in_default-clause-known : goal.returns-in_default-clause-known
returns-in_default-clause-known c = λ vs s k.
    c.in_ok-remember.ensures vs c.close.new.bank (all_known_stay vs c.args.bank.now c.close.new.bank c.in_ok-made.ensures.kept (values c.args.memo.now) k)
    (keeps vs c.args.bank.now c.close.new.bank c.in_ok-made.ensures.kept c.args.top.now.place c.in_ok-made.made s.place c.in_ok-made.ensures.within
    (c.in_ok-made.ensures.tree ∙ closes vs c.args.bank.now c.args.top.now c.requires.left s))

none : (c : goal.In_default) → c.args.waiting.now.items ≡ []
none c = search rules

pub returns-in_default-clause-next : goal.returns-in_default-clause-next
returns-in_default-clause-next c = λ vs v s a.
    ended vs c.close.new.bank v (value vs c.args.bank.now c.args.top.now.place) c.args.bank.now c.args.waiting.now.items c.pop.new.self.items c.in_ok-made.made 0 (none c) a c.in_ok-made.ensures.within
    (c.in_ok-made.ensures.tree ∙ closes vs c.args.bank.now c.args.top.now c.requires.left s)

pub returns-clause-known : goal.returns-clause-known
returns-clause-known c = λ vs s k.
    c.in_ok-remember.ensures vs c.close.new.bank (all_known_stay vs c.args.bank.now c.close.new.bank c.in_ok-made.ensures.kept (values c.args.memo.now) k)
    (keeps vs c.args.bank.now c.close.new.bank c.in_ok-made.ensures.kept c.args.top.now.place c.in_ok-made.made s.place c.in_ok-made.ensures.within
    (c.in_ok-made.ensures.tree ∙ closes vs c.args.bank.now c.args.top.now c.requires.left s))

pub returns-clause-next : goal.returns-clause-next
returns-clause-next c = λ vs v s a.
    went_out vs c.args.bank.now c.close.new.bank c.in_ok-made.ensures.kept v c.args.waiting.now.items c.pop.new.self.items c.args.top.now c.in-Some.outer c.in_ok-next.next c.in_ok-made.made c.in-Some.ensures.items a
    c.in_ok-made.ensures.within (c.in_ok-made.ensures.tree ∙ closes vs c.args.bank.now c.args.top.now c.requires.left s) c.in_ok-next.ensures.place (λ d t. c.in_ok-next.ensures.started vs d t)
