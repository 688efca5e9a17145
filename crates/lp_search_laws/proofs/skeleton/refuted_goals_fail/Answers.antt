use Rattle.lp_search_laws.proofs.Stack.InnerRuns as lemmas
use Rattle.lp_search_laws.proofs.skeleton.refuted_goals_fail.Goals as goal

pub returns : goal.returns
returns g c = λ look f s. (λ j k p ns e. lemmas.refuted_fails look f j s k p ns e, λ j n e a. lemmas.fails_refuted look f j n s (e, a))
