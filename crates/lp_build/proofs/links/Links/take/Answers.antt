use Rattle.std.proofs.Common.{◌∙◌, ap, ◌++◌}
use Rattle.lp_build.proofs.Seeing.{put_new, put_old}
use Rattle.lp_build.proofs.links.Links.take.Goals as goal

pub returns-then-branch-clause-work : goal.returns-then-branch-clause-work
returns-then-branch-clause-work c = λ files links.
    put_new files c.args.number c.args.seen.now.keys c.args.work.now.items c.extend_from_slice.new.self.items
    (c.in_ok-extend_from_slice.ensures.items ∙ ap (λ l. c.args.work.now.items ++ l) (c.named.ensures files links))

pub returns-clause-work : goal.returns-clause-work
returns-clause-work c = λ files links. put_old files c.args.number c.args.seen.now.keys c.args.work.now.items c.in_ok-insert.field-0 c.in_ok-insert.ensures.added c.if-branch.false
