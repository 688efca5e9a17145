-- Expressions and values whose cells stand in a store.
use Rattle.lp_store.specs.Contents.{Contents}
use Rattle.lp_goal.specs.Kinds.{IsCell}
use Rattle.lp_arith.specs.declared.value.Value.{Value}
use Rattle.lp_arith.specs.declared.value.Value.TheVariants.{Int, Text}
use Rattle.lp_arith.specs.declared.expression.Expression.{Expression}
use Rattle.lp_arith.specs.declared.expression.Expression.TheVariants as expression
use Rattle.lp_arith.specs.declared.evaluation.Around.{Around}
use Rattle.lp_arith.specs.declared.evaluation.Around.TheVariants as around
use Rattle.lp_arith.specs.declared.evaluation.State.{State}
use Rattle.lp_arith.specs.declared.evaluation.State.TheVariants as state

abbrev pub StandsValue : Contents → Value → Type 0
StandsValue s (Int z) = Unit {0}
StandsValue s (Text t) = IsCell s t

abbrev pub StandsExpression : Contents → Expression → Type 0
StandsExpression s (expression.Leaf v) = StandsValue s v
StandsExpression s (expression.One c t) = IsCell s t
StandsExpression s (expression.Two c l r) = IsCell s l × IsCell s r
StandsExpression s expression.Other = Unit {0}

abbrev pub StandsAround : Contents → Around → Type 0
StandsAround s (around.One c) = Unit {0}
StandsAround s (around.Left c r) = IsCell s r
StandsAround s (around.Right c v) = StandsValue s v

abbrev pub StandsState : Contents → State → Type 0
StandsState s (state.Visit t) = IsCell s t
StandsState s (state.Known v) = StandsValue s v
