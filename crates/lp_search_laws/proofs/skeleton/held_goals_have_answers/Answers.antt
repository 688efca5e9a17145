use Rattle.lp_search_laws.proofs.Stack.InnerRuns as lemmas
use Rattle.lp_search_laws.proofs.skeleton.held_goals_have_answers.Goals as goal

pub returns : goal.returns
returns g c = λ look f s j k p ns e. lemmas.held_gives look f j s k p ns e
