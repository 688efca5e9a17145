use Rattle.std.proofs.Common.{subst, take}
use Rattle.std.proofs.lemmas.List.{take_all, take_more}
use Rattle.lp_term.proofs.Trees.{extends_same, extends-trans}
use Rattle.lp_infer.specs.ReadingOff.{bound_type, ReadsAll}
use Rattle.lp_infer.proofs.Memos.{reads_none, reads_more}
use Rattle.lp_infer.proofs.reading.Reading.read_all.Goals as goal

pub loop-id-init : goal.loop-id-init
loop-id-init c = record { kept = extends_same c.args.to.now; read = λ M. reads_none (bound_type c.args.from.now c.args.bindings.now.made) c.args.to.now c.args.self.now c.new-types.result.items c.new-types.ensures.items M }

pub loop-id-preserved : goal.loop-id-preserved
loop-id-preserved c =
    let A = bound_type c.args.from.now c.args.bindings.now.made in
    record {
      kept = extends-trans c.args.to.now c.loop-id.to c.read.new.to c.loop-id.invariant.kept c.read.ensures.kept;
      read = λ M.
          let so_far = c.loop-id.invariant.read M in
          reads_more A c.loop-id.to c.read.new.to c.args.self.now c.loop-id.self c.read.new.self (take c.loop-id.id-index c.args.ids.now) _
          c.loop-id.types.items c.push.new.self.items _ c.in_ok-read.field-0 c.read.ensures.kept
          (take_more c.args.ids.now c.loop-id.id-index _ c.loop-id-test.true) c.in_ok-push.ensures.items so_far
          (c.in_ok-read.ensures.read so_far.memo);
    }

pub returns-clause-read : goal.returns-clause-read
returns-clause-read c = λ M. subst (λ l. ReadsAll (bound_type c.args.from.now c.args.bindings.now.made) c.loop-id.to c.args.self.now c.loop-id.self l c.loop-id.types.items) (take_all c.loop-id.id-index c.args.ids.now c.loop-id-test.false) (c.loop-id.invariant.read M)

pub read-requires-clause-known : goal.read-requires-clause-known
read-requires-clause-known c = c.requires.known c.loop-id.id-index _ c.loop-id-test.true
