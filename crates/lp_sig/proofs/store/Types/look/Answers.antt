use Rattle.std.proofs.Common.{sym, ◌∙◌, reverse}
use Rattle.std.specs.Prelude.{nat_eq}
use Rattle.std.specs.List.{list_any}
use Rattle.std.proofs.lemmas.Result.{on_ok_weaker}
use Rattle.lp_sig.proofs.Copies.{same_met}
use Rattle.lp_sig.proofs.Meetings.{passed_over, opened, was_there}
use Rattle.lp_sig.proofs.store.Types.look.Goals as goal

pub returns-then-not-branch-clause-falls : goal.returns-then-not-branch-clause-falls
returns-then-not-branch-clause-falls c = same_met c.args.self.now.bank c.args.id c.args.work.now.items

pub returns-then-not-branch-clause-on_way : goal.returns-then-not-branch-clause-on_way
returns-then-not-branch-clause-on_way c = λ all w.
    passed_over c.args.self.now.bank c.args.found.now.keys c.args.seen.now.keys c.insert.new.self.keys c.args.id (reverse c.args.work.now.items) all
    (was_there (list_any (nat_eq c.args.id.0) c.args.seen.now.keys) (sym c.if-not-branch.true ∙ c.in_ok-insert.ensures.added))
    c.in_ok-insert.ensures.keys w

pub returns-clause-on_way : goal.returns-clause-on_way
returns-clause-on_way c = on_ok_weaker c.meet.result (λ o all w.
    opened c.args.self.now.bank c.args.found.now.keys c.meet.new.found.keys c.args.seen.now.keys c.insert.new.self.keys c.args.id (reverse c.args.work.now.items) (reverse c.meet.new.work.items) all c.in_ok-insert.ensures.keys o w) c.meet.ensures.opened
