use Rattle.std.proofs.Common.{◌++◌, ◌∷◌, [], ap, ◌∙◌, sym, subst, map, take, take_all, append-nil}
use Rattle.lp_sig.specs.Rows.{fixity_row}
use Rattle.lp_sig.specs.Knowing.{KnowsOperators}
use Rattle.lp_sig.proofs.Worded.{mapped_at}
use Rattle.lp_sig.proofs.operators.Operators.see.Goals as goal

pub loop-at-init : goal.loop-at-init
loop-at-init c = λ said k. subst (KnowsOperators c.args.self.now) (sym (append-nil said)) k

pub loop-at-preserved : goal.loop-at-preserved
loop-at-preserved c = λ said k.
    let before = said ++ map fixity_row (take c.loop-at.at c.args.entries.now) in
    let e = c.index-entries-at.result in
    subst (KnowsOperators c.declare.new.self) (ap (λ n. before ++ (n, (e.fixity, e.number)) ∷ []) c.as_slice.ensures.value ∙ mapped_at fixity_row
    c.args.entries.now c.loop-at.at e said c.loop-at-test.true c.index-entries-at.is)
    (c.in_ok-declare.ensures before (c.loop-at.invariant said k))

pub returns : goal.returns
returns c = λ said k. subst (λ es. KnowsOperators c.loop-at.self (said ++ map fixity_row es)) (take_all c.loop-at.at c.args.entries.now c.loop-at-test.false) (c.loop-at.invariant said k)
