use Rattle.std.proofs.Common.{◌≤◌, length, get_or, refl, arith}
use Rattle.std.proofs.lemmas.Option.{slice_get-get_or}
use Rattle.lp_link.proofs.Takes.{all_at, all_done}
use Rattle.lp_link.proofs.linking.check_records.Goals as goal

pub returns-then-len-gt-MAX_CLAUSES-clause-refused : goal.returns-then-len-gt-MAX_CLAUSES-clause-refused
returns-then-len-gt-MAX_CLAUSES-clause-refused c =
    let o = get_or c.args.objects.now c.loop-at.at c.index-objects-at.result in (
      refl,
      record {
        number = c.loop-at.at;
        object = o;
        there = slice_get-get_or c.args.objects.now c.loop-at.at c.index-objects-at.result c.loop-at-test.true;
        many = omega (arith, c.if-len-gt-MAX_CLAUSES.true, c.len.ensures, o.code.records.ok);
      },
    )

pub loop-at-preserved : goal.loop-at-preserved
loop-at-preserved c =
    let o = get_or c.args.objects.now c.loop-at.at c.index-objects-at.result in
    all_at (λ o. length o.code.records.items ≤ 65535) c.args.objects.now c.loop-at.at c.index-objects-at.result c.loop-at-test.true
    (omega (arith, c.if-len-gt-MAX_CLAUSES.false, c.len.ensures, o.code.records.ok)) c.loop-at.invariant

pub returns-clause-few : goal.returns-clause-few
returns-clause-few c = all_done (λ o. length o.code.records.items ≤ 65535) c.args.objects.now c.loop-at.at c.loop-at-test.false c.loop-at.invariant
