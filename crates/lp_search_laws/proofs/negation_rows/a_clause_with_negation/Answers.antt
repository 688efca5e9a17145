use Rattle.lp_search_laws.proofs.negation_rows.a_clause_with_negation.Goals as goal
use Rattle.std.proofs.Common.{refl}

pub returns-clause-lone_value : goal.returns-clause-lone_value
returns-clause-lone_value c = refl

pub returns-clause-lone_end : goal.returns-clause-lone_end
returns-clause-lone_end c = refl

pub returns-clause-lone_notes : goal.returns-clause-lone_notes
returns-clause-lone_notes c = refl

pub returns-clause-lone_steps : goal.returns-clause-lone_steps
returns-clause-lone_steps c = refl

pub returns-clause-lone_stops : goal.returns-clause-lone_stops
returns-clause-lone_stops c = refl
