use Rattle.lp_unify_laws.proofs.TypedInstances as lemmas
use Rattle.lp_unify_laws.proofs.whole_runs.typings_have_instances.Goals as goal

pub returns : goal.returns
returns c = lemmas.typings_have_instances
