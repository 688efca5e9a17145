use Rattle.std.proofs.Common.{map, take_all, ap, ◌∙◌, arith}
use Rattle.lp_sig.specs.Rows.{kind_row}
use Rattle.lp_sig.specs.Said.{numbered}
use Rattle.lp_sig.specs.Knowing.{kinded_row}
use Rattle.lp_sig.proofs.Knowledge.{entry_more}
use Rattle.lp_sig.proofs.making.entries_of.Goals as goal

pub loop-place-init : goal.loop-place-init
loop-place-init c = (ap (map kind_row) c.new-entries.ensures.items, omega arith)

pub loop-place-preserved : goal.loop-place-preserved
loop-place-preserved c = (
  entry_more c.args.kinds.now c.loop-place.place c.index-kinds-place.result c.loop-place.entries.items c.push.new.self.items c.in_ok-entry.entry
      c.loop-place-test.true c.index-kinds-place.is c.loop-place.invariant.0 c.in_ok-push.ensures.items c.in_ok-entry.ensures.row,
  (let r = c.in_ok-entry.ensures.room in omega (arith, r)),
)

pub returns-clause-rows : goal.returns-clause-rows
returns-clause-rows c = c.loop-place.invariant.0 ∙ ap (λ ks. numbered 8 (map kinded_row ks)) (take_all c.loop-place.place c.args.kinds.now c.loop-place-test.false)

pub returns-clause-room : goal.returns-clause-room
returns-clause-room c = let r = c.loop-place.invariant.1 in let l = c.loop-place-test.false in omega (arith, r, l)
