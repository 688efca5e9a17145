use Rattle.std.proofs.Common.{◌++◌, ◌∷◌, [], ◌∙◌, sym, ap, subst, take, take_all, append-nil}
use Rattle.lp_sig.specs.Said.{a_kind, each}
use Rattle.lp_sig.specs.Knowing.{Knows}
use Rattle.lp_sig.proofs.Spoken.{each_more}
use Rattle.lp_sig.proofs.names.Names.announce_kinds.Goals as goal

pub loop-name-init : goal.loop-name-init
loop-name-init c = λ said k. subst (Knows c.args.self.now) (sym (append-nil said)) k

pub loop-name-preserved : goal.loop-name-preserved
loop-name-preserved c = λ said k.
    let before = said ++ each c.args.source.now (a_kind c.args.arity) (take c.loop-name.name-index c.args.names.now) in
    subst (Knows c.announce_kind.new.self) (ap (λ n. before ++ (n, a_kind c.args.arity) ∷ []) c.spelled_at.ensures ∙ each_more c.args.source.now (a_kind c.args.arity) c.args.names.now c.loop-name.name-index _ said c.loop-name-test.true)
    (c.in_ok-announce_kind.ensures before (c.loop-name.invariant said k))

pub returns : goal.returns
returns c = λ said k. subst (λ names. Knows c.loop-name.self (said ++ each c.args.source.now (a_kind c.args.arity) names)) (take_all c.loop-name.name-index c.args.names.now c.loop-name-test.false) (c.loop-name.invariant said k)
