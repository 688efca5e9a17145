use Rattle.std.proofs.Common.{◌++◌, ◌∷◌, [], ◌∙◌, sym, ap, subst, take, take_all, append-nil}
use Rattle.lp_sig.specs.Said.{each}
use Rattle.lp_sig.specs.Knowing.{KnowsOperators}
use Rattle.lp_sig.proofs.Spoken.{each_more}
use Rattle.lp_sig.proofs.operators.Operators.declare_each.Goals as goal

pub loop-name-init : goal.loop-name-init
loop-name-init c = λ said k. subst (KnowsOperators c.args.self.now) (sym (append-nil said)) k

pub loop-name-preserved : goal.loop-name-preserved
loop-name-preserved c = λ said k.
    let before = said ++ each c.args.source.now (c.args.fixity, c.args.number) (take c.loop-name.name-index c.args.names.now) in
    subst (KnowsOperators c.declare.new.self) (ap (λ n. before ++ (n, (c.args.fixity, c.args.number)) ∷ []) c.spelled_at.ensures ∙ each_more c.args.source.now (c.args.fixity, c.args.number) c.args.names.now c.loop-name.name-index _ said c.loop-name-test.true)
    (c.in_ok-declare.ensures before (c.loop-name.invariant said k))

pub returns : goal.returns
returns c = λ said k. subst (λ names. KnowsOperators c.loop-name.self (said ++ each c.args.source.now (c.args.fixity, c.args.number) names)) (take_all c.loop-name.name-index c.args.names.now c.loop-name-test.false) (c.loop-name.invariant said k)
