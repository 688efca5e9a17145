use Rattle.std.proofs.Common.{arith, map}
use Rattle.lp_term.proofs.Trees.{extends_same, extends-trans}
use Rattle.lp_plain.specs.Heads.{pair_in}
use Rattle.lp_plain.specs.Attempted.{becomes}
use Rattle.lp_plain.proofs.Growing.{values_later}
use Rattle.lp_plain.proofs.HeadPairs.{all_paired, nothing_paired, place_added}
use Rattle.lp_plain.proofs.attempt.term_pairs.Goals as goal

pub places-init : goal.places-init
places-init c = record {
  kept = extends_same c.args.bank.now;
  pairs = λ nb nv vs s v ar k w.
      let b = c.args.bank.now in
      nothing_paired b c.args.args.now c.args.level (becomes b vs c.args.values.types) (map (pair_in b) c.args.heads.now.items) c.new-pairs.result.items c.new-pairs.ensures.items;
}

pub places-preserved : goal.places-preserved
places-preserved c =
    let I = c.places.invariant in
    let a = c.args.bank.now in
    let b = c.places.bank in
    let d = c.add_pair.new.bank in
    record {
      kept = extends-trans a b d I.kept c.in_ok-add_pair.ensures.kept;
      pairs = λ nb nv vs s v ar k w.
          place_added a b d c.args.args.now c.args.level vs c.args.values.types c.args.heads.now.items ar k c.places.number c.index.result.now
          c.places.pairs.items c.add_pair.new.pairs.items I.kept c.in_ok-add_pair.ensures.kept v w
          (omega (arith, c.places-test.true, c.len-number-end.ensures, c.args.heads.now.ok)) c.index.ensures
          (λ h. c.in_ok-add_pair.ensures.added nb nv vs s (values_later a b I.kept vs v) ar k h) (I.pairs nb nv vs s v ar k w);
    }

pub returns-clause-pairs : goal.returns-clause-pairs
returns-clause-pairs c = λ nb nv vs s v ar k w.
    let I = c.places.invariant in
    all_paired c.args.bank.now c.places.bank c.args.args.now c.args.level (becomes c.args.bank.now vs c.args.values.types) c.args.heads.now.items c.places.number c.places.pairs.items
    (omega (arith, c.places-test.false, c.len-number-end.ensures, c.args.heads.now.ok)) (I.pairs nb nv vs s v ar k w)
