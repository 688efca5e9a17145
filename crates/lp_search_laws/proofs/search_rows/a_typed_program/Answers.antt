use Rattle.std.proofs.Common.{[], refl, arith}
use Rattle.lp_calculus.specs.Types.{arrow}
use Rattle.lp_calculus.specs.Typing.{o_type, int_type}
use Rattle.lp_model.specs.Flat.{no_clauses, clauses}
use Rattle.lp_search_laws.specs.StartRow.{flat_rule}
use Rattle.lp_search_laws.proofs.search_rows.a_typed_program.Goals as goal

pub returns-clause-sentence : goal.returns-clause-sentence
returns-clause-sentence c = record {
  typed = (arrow int_type o_type, refl, (int_type, o_type, refl, (o_type, (o_type, refl, (int_type, refl, refl)), (int_type, refl, refl))));
  within = ((tt, tt), ((tt, (tt, omega arith)), (tt, omega arith)));
}

pub returns-clause-program : goal.returns-clause-program
returns-clause-program c = (9, clauses flat_rule no_clauses, [], refl, refl, refl)

pub returns-clause-asked : goal.returns-clause-asked
returns-clause-asked c = record {
  vars = (tt, tt);
  typed = (o_type, (o_type, refl, (int_type, refl, refl)), (int_type, (int_type, refl, refl), (int_type, (int_type, refl, refl), refl)));
  within = ((tt, (tt, omega arith)), (((tt, tt), omega arith), ((tt, tt), tt)));
}

pub returns-clause-goals : goal.returns-clause-goals
returns-clause-goals c = refl
