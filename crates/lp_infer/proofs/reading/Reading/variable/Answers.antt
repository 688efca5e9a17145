use Rattle.std.proofs.lemmas.Result.{on_ok_weaker}
use Rattle.lp_infer.proofs.Memos.{variable_kept}
use Rattle.lp_infer.proofs.Waiting.{put_since, put_reads}
use Rattle.lp_infer.proofs.reading.Reading.variable.Goals as goal

pub returns-clause-memo : goal.returns-clause-memo
returns-clause-memo c =
    let made = c.in_ok-made.ensures in
    on_ok_weaker c.keep.result (λ put A same is M. variable_kept A c.args.to.now c.put_type_variable.new.bank c.args.self.now c.number.new.self
    c.keep.new.self c.args.variable c.args.id.0 c.args.top.0 c.in_ok-made.made.0 c.in_ok-number.number made.kept c.number.ensures.made
    c.in_ok-number.ensures.numbers c.in_ok-number.ensures.number
    c.keep.ensures.numbers put (made.within, made.tree) same is M) c.keep.ensures.made

pub returns-clause-was : goal.returns-clause-was
returns-clause-was c =
    on_ok_weaker c.keep.result (λ put.
    put_reads c.args.id.0 c.args.top.0 c.in_ok-made.made.0 c.args.self.now c.keep.new.self
    (put_since c.args.id.0 c.args.top.0 c.in_ok-made.made.0 c.args.self.now c.number.new.self c.keep.new.self c.number.ensures.made put)) c.keep.ensures.made
