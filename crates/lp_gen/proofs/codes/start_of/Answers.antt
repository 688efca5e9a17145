use Rattle.std.proofs.Common.{length, refl, arith}
use Rattle.std.proofs.lemmas.Option.{slice_get_read}
use Rattle.lp_gen.proofs.GroupPut.{start_outer, start_past, start_there}
use Rattle.lp_gen.proofs.codes.start_of.Goals as goal

pub returns-in_default : goal.returns-in_default
returns-in_default c = λ none. start_outer c.args.starts.now c.args.within c.args.none.now c.in_default.is none

pub returns-then-at-starts : goal.returns-then-at-starts
returns-then-at-starts c = λ none. start_past c.args.starts.now c.args.within c.in-Some.at c.args.none.now c.in-Some.is (omega (arith, c.if-at-starts.true))

pub returns : goal.returns
returns c = λ none.
    let xs = c.args.starts.now in
    start_there xs c.args.within c.in-Some.at c.index-starts-at.result c.in-Some.is
    (slice_get_read xs (length xs) c.in-Some.at c.index-starts-at.result refl (omega (arith, c.if-at-starts.false)) c.index-starts-at.is)
