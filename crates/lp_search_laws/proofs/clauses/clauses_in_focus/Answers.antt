use Rattle.lp_proof_laws.proofs.Uniform.Settings.{without_leaves}
use Rattle.lp_search_laws.proofs.InFocus as lemmas
use Rattle.lp_search_laws.proofs.clauses.clauses_in_focus.Goals as goal

pub returns : goal.returns
returns c = λ d std E P z k vs h b A head fine at_atom. ((λ r. lemmas.focus_applies d (without_leaves d std) E P A at_atom z k vs h b head fine r), (λ r. lemmas.applies_focus d (without_leaves d std) E P A at_atom z k vs h b head fine r))
