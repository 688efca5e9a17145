use Rattle.std.proofs.Common.{refl}
use Rattle.lp_search_laws.proofs.search_rows.answers_without_types.Goals as goal

pub returns-clause-of_the_same_type : goal.returns-clause-of_the_same_type
returns-clause-of_the_same_type c = refl

pub returns-clause-of_another_type : goal.returns-clause-of_another_type
returns-clause-of_another_type c = refl
