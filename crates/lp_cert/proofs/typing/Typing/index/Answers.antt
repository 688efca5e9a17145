use Rattle.std.proofs.Common.{arith, refl}
use Rattle.lp_cert.proofs.Deriving.{index_comes}
use Rattle.lp_cert.proofs.Keeping.{index_keeps, index_past}
use Rattle.lp_term.proofs.Trees.{extends_same}
use Rattle.lp_cert.proofs.typing.Typing.index.Goals as goal

pub returns-clause-moves : goal.returns-clause-moves
returns-clause-moves c = λ y now b g θ T s d.
    (s, index_comes b θ c.args.self.now c.push.new.self.items c.args.at _ c.index-of.result.now T (omega (arith, c.if-at-count.false)) (omega arith) c.index-of.ensures c.in_ok-push.ensures.items d)

pub returns-then-at-count-clause-keeps : goal.returns-then-at-count-clause-keeps
returns-then-at-count-clause-keeps c = λ now y. index_past now c.args.self.now _ c.args.at (omega (arith, c.if-at-count.true))

pub returns-clause-keeps : goal.returns-clause-keeps
returns-clause-keeps c = λ now y.
    index_keeps now c.args.self.now _ c.args.at _ c.index-of.result.now (omega (arith, c.if-at-count.false)) (omega arith) c.index-of.ensures
    (record { rest = record { constants = refl; eigens = refl; context = refl; pairs = refl; tasks = refl }; next = refl; stack = c.in_ok-push.ensures.items }) y (extends_same now)
