use Rattle.lp_proof_laws.proofs.Uniform.Settings.{without_leaves}
use Rattle.lp_search_laws.proofs.ClauseTypes as lemmas
use Rattle.lp_search_laws.proofs.clauses.program_clauses_in_focus.Goals as goal

pub returns : goal.returns
returns c = λ d std E P z x A fine at_atom. ((λ r. lemmas.sentence_serves d (without_leaves d std) E P z A at_atom x fine r), (λ r. lemmas.serves_sentence d (without_leaves d std) E P z A at_atom x fine r))
