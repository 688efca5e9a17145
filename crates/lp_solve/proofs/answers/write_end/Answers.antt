use Rattle.std.proofs.Common.{ap, map, ◌∙◌, subst}
use Rattle.lp_lines.specs.Lines.{is_of_search}
use Rattle.lp_lines.proofs.Statuses.{ending_is, said_of_search, memory_of_search, search_not_fault}
use Rattle.lp_watch.specs.Crowd.{places}
use Rattle.lp_solve.specs.inner.Heard.{IsReported}
use Rattle.lp_solve.proofs.Telling.{ended_part, ended_whole, lacked, lacked_part}
use Rattle.lp_solve.proofs.Hearing.{other_end, other_lack}
use Rattle.lp_solve.proofs.answers.write_end.Goals as goal

pub refuse-requires : goal.refuse-requires
refuse-requires g c = search_not_fault c.status.result (ap is_of_search c.status.ensures ∙ ending_is c.args.why)

pub returns-in-Ok-clause-writes : goal.returns-in-Ok-clause-writes
returns-in-Ok-clause-writes g c =
    λ ns s first before ends comes. ended_whole ns (IsReported c.args.watched first before (places c.args.crowd.now.texts.items (map g.W.Watch.seen c.args.crowd.now.watchers.now.items)))
    s c.refuse.result (g.K.Sink.written c.args.out.now) (g.K.Sink.written c.refuse.new.out) c.args.why c.in-Ok.text.items ends (let (text, is, wrote) = c.in-Ok.ensures in (text, (is, comes), wrote))
    (λ n. let k = c.refuse.ensures.said n in (k.0 ∙ c.status.ensures, k.1))

pub returns-in-Ok-clause-begins : goal.returns-in-Ok-clause-begins
returns-in-Ok-clause-begins g c =
    λ ns s first before ends comes. ended_part ns (IsReported c.args.watched first before (places c.args.crowd.now.texts.items (map g.W.Watch.seen c.args.crowd.now.watchers.now.items)))
    s c.refuse.result (g.K.Sink.written c.args.out.now) (g.K.Sink.written c.refuse.new.out) c.args.why
    c.in-Ok.text.items ends (let (text, is, wrote) = c.in-Ok.ensures in (text, (is, comes), wrote)) c.refuse.ensures.prefix

pub returns-in-Ok-clause-of_search : goal.returns-in-Ok-clause-of_search
returns-in-Ok-clause-of_search g c = said_of_search c.refuse.result c.status.result (ap is_of_search c.status.ensures ∙ ending_is c.args.why) (λ n. (c.refuse.ensures.said n).0)

pub tell-requires : goal.tell-requires
tell-requires g c = λ e. cc

pub returns-in-Err-clause-writes : goal.returns-in-Err-clause-writes
returns-in-Err-clause-writes g c = λ ns s first before ends comes. lacked ns (IsReported c.args.watched first before (places c.args.crowd.now.texts.items (map g.W.Watch.seen c.args.crowd.now.watchers.now.items))) s c.tell.result (g.K.Sink.written c.args.out.now) (g.K.Sink.written c.tell.new.out) c.tell.ensures.said

pub returns-in-Err-clause-begins : goal.returns-in-Err-clause-begins
returns-in-Err-clause-begins g c = λ ns s first before ends comes. lacked_part ns (IsReported c.args.watched first before (places c.args.crowd.now.texts.items (map g.W.Watch.seen c.args.crowd.now.watchers.now.items))) s c.tell.result (g.K.Sink.written c.args.out.now) (g.K.Sink.written c.tell.new.out) c.tell.ensures.prefix

pub returns-in-Err-clause-of_search : goal.returns-in-Err-clause-of_search
returns-in-Err-clause-of_search g c = memory_of_search c.tell.result (λ n. (c.tell.ensures.said n).0)

pub returns-in-Ok-clause-other : goal.returns-in-Ok-clause-other
returns-in-Ok-clause-other g c = other_end c.args.why c.refuse.result (λ n. (c.refuse.ensures.said n).0 ∙ c.status.ensures)

pub returns-in-Err-clause-other : goal.returns-in-Err-clause-other
returns-in-Err-clause-other g c = λ e. absurd (other_lack c.tell.result (λ n. (c.tell.ensures.said n).0) e)
