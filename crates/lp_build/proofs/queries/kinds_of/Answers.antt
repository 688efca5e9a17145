use Rattle.std.proofs.Common.{[], sym, subst, map}
use Rattle.std.specs.List.{AllZip}
use Rattle.std.proofs.lemmas.List.{take_all}
use Rattle.lp_sig.specs.Rows.{kind_row}
use Rattle.lp_build.specs.Queried.{IsKindOf}
use Rattle.lp_build.proofs.Placing.{zip_more}
use Rattle.lp_build.proofs.queries.kinds_of.Goals as goal

pub loop-at-init : goal.loop-at-init
loop-at-init c = λ names has. subst (λ l. AllZip (IsKindOf names) [] (map kind_row l)) (sym c.new-kinds.ensures.items) tt

pub loop-at-preserved : goal.loop-at-preserved
loop-at-preserved c = λ names has.
    zip_more (IsKindOf names) kind_row c.kinds-entries.result.now c.loop-at.at c.index-entries-at.result c.in_ok-kind.kind c.loop-at.kinds.items
    c.push.new.self.items c.loop-at-test.true c.index-entries-at.is c.in_ok-push.ensures.items (c.in_ok-kind.ensures names has)
    (c.loop-at.invariant names has)

pub returns : goal.returns
returns c = λ names has.
    subst (λ l. AllZip (IsKindOf names) (map kind_row l) (map kind_row c.loop-at.kinds.items)) c.kinds-entries.ensures
    (subst (λ l. AllZip (IsKindOf names) (map kind_row l) (map kind_row c.loop-at.kinds.items)) (take_all c.loop-at.at c.kinds-entries.result.now c.loop-at-test.false) (c.loop-at.invariant names has))
