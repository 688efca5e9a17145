use Rattle.lp_calculus.specs.Convert.{same}
use Rattle.lp_susp.proofs.Routes.{waiting_of, carried_no_circle, no_type, reads_alike, carried_keeps}
use Rattle.lp_susp.proofs.exposing.carry_out.Goals as goal

pub carry-requires-clause-pending : goal.carry-requires-clause-pending
carry-requires-clause-pending c = waiting_of c.args.store.now c.args.waiting c.args.at c.mark-mark.ensures.sound c.requires.waits

pub overwrite-requires-clause-no_circle : goal.overwrite-requires-clause-no_circle
overwrite-requires-clause-no_circle c =
    carried_no_circle c.args.store.now c.carry.new.store c.args.waiting c.args.at c.in_ok-carried.carried c.mark-mark.ensures.sound c.in_ok-carried.ensures.kept c.requires.waits c.in_ok-carried.ensures.avoids

pub overwrite-requires-clause-same_type : goal.overwrite-requires-clause-same_type
overwrite-requires-clause-same_type c =
    no_type c.args.store.now c.carry.new.store c.args.waiting c.args.at c.in_ok-carried.carried c.mark-mark.ensures.sound c.in_ok-carried.ensures.kept c.requires.waits c.in_ok-carried.ensures.avoids

pub overwrite-requires-clause-converts : goal.overwrite-requires-clause-converts
overwrite-requires-clause-converts c = λ t r. (
  t,
  reads_alike c.args.store.now c.carry.new.store c.args.waiting c.args.at c.in_ok-carried.carried c.mark-mark.ensures.sound c.in_ok-carried.ensures.kept c.requires.waits c.in_ok-carried.ensures.avoids c.in_ok-carried.ensures.reads t r,
  same t,
)

pub returns-clause-kept : goal.returns-clause-kept
returns-clause-kept c =
    let alike = reads_alike c.args.store.now c.carry.new.store c.args.waiting c.args.at c.in_ok-carried.carried c.mark-mark.ensures.sound c.in_ok-carried.ensures.kept c.requires.waits c.in_ok-carried.ensures.avoids c.in_ok-carried.ensures.reads in
    carried_keeps c.args.store.now c.carry.new.store c.args.waiting c.args.at c.in_ok-carried.carried c.mark-mark.ensures.sound c.in_ok-carried.ensures.kept c.requires.waits c.in_ok-carried.ensures.avoids
    c.overwrite.new.self c.in_ok-overwrite.ensures.changed c.in_ok-overwrite.ensures.types (c.in_ok-overwrite.ensures.same alike) c.in_ok-overwrite.ensures.avoids
