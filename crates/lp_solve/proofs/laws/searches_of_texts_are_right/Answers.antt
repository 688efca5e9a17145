use Rattle.lp_search_laws.proofs.Exhausted.{right_by_failing}
use Rattle.lp_solve.specs.Sources.{query_of, source_clauses}
use Rattle.lp_solve.proofs.Texts.Program.{program_typed}
use Rattle.lp_solve.proofs.Texts.Query.{query_typed}
use Rattle.lp_solve.proofs.laws.searches_of_texts_are_right.Goals as goal

pub returns : goal.returns
returns c =
    λ told name built l d t P flat text b query asked depth gs e n j m steps answers.
    right_by_failing d t.standard depth (source_clauses l.program) P (program_typed l.sources built l.program d t) flat (query_of b query) gs
    (query_typed d t.standard built.signature t.queries text asked.raw.term b query asked.typed) e n j m steps answers
