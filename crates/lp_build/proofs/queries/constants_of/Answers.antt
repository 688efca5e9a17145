use Rattle.std.proofs.Common.{[], sym, subst, map}
use Rattle.std.specs.List.{AllZip}
use Rattle.std.proofs.lemmas.List.{take_all}
use Rattle.lp_sig.specs.Rows.{constant_row}
use Rattle.lp_build.specs.Queried.{IsConstantOf}
use Rattle.lp_build.proofs.Placing.{zip_more}
use Rattle.lp_build.proofs.queries.constants_of.Goals as goal

pub loop-at-init : goal.loop-at-init
loop-at-init c = λ names has. subst (λ l. AllZip (IsConstantOf names) [] (map constant_row l)) (sym c.new-constants.ensures.items) tt

pub loop-at-preserved : goal.loop-at-preserved
loop-at-preserved c = λ names has.
    zip_more (IsConstantOf names) constant_row c.constants-entries.result.now c.loop-at.at c.index-entries-at.result c.in_ok-constant.constant
    c.loop-at.constants.items c.push.new.self.items c.loop-at-test.true c.index-entries-at.is c.in_ok-push.ensures.items
    (c.in_ok-constant.ensures names has) (c.loop-at.invariant names has)

pub returns : goal.returns
returns c = λ names has.
    subst (λ l. AllZip (IsConstantOf names) (map constant_row l) (map constant_row c.loop-at.constants.items)) c.constants-entries.ensures
    (subst (λ l. AllZip (IsConstantOf names) (map constant_row l) (map constant_row c.loop-at.constants.items))
    (take_all c.loop-at.at c.constants-entries.result.now c.loop-at-test.false) (c.loop-at.invariant names has))
