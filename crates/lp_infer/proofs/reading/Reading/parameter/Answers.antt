use Rattle.std.proofs.lemmas.Result.{on_ok_weaker}
use Rattle.lp_term.proofs.Within.{is_last}
use Rattle.lp_infer.proofs.Memos.{parameter_kept}
use Rattle.lp_infer.proofs.Waiting.{put_reads}
use Rattle.lp_infer.proofs.reading.Reading.parameter.Goals as goal

pub returns-clause-memo : goal.returns-clause-memo
returns-clause-memo c =
    let made = c.in_ok-made.ensures in
    on_ok_weaker c.keep.result (λ put A same is M. parameter_kept A c.args.to.now c.put_type.new.self c.args.self.now c.keep.new.self c.args.number
    c.args.id.0 c.args.top.0 c.in_ok-made.made.0 made.kept c.keep.ensures.numbers put (
      is_last c.args.to.now.types c.put_type.new.self.types _
          c.in_ok-made.made.0 made.number made.types,
      made.tree,
    ) same is M) c.keep.ensures.made

pub returns-clause-was : goal.returns-clause-was
returns-clause-was c = on_ok_weaker c.keep.result (λ put. put_reads c.args.id.0 c.args.top.0 c.in_ok-made.made.0 c.args.self.now c.keep.new.self put) c.keep.ensures.made
