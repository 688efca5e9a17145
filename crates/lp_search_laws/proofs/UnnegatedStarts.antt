-- Programs and queries without negation start without negated goals.
use Rattle.std.proofs.Common.{◌≡◌, ℕ, suc, ◌-◌, List, [], ◌∷◌, Some, sym, subst as transport}
use Rattle.lp_calculus.specs.Term.{atom, logic}
use Rattle.lp_lemmas.specs.Each.{EachOf}
use Rattle.lp_lemmas.proofs.Each.{each_append}
use Rattle.lp_lemmas.proofs.Options.{and_then_some}
use Rattle.lp_model.specs.Eigens.{beta_normal}
use Rattle.lp_model.specs.Flat.{Goals, no_goals, Clause, clause, Clauses, no_clauses, clauses, clause_list, instantiate_goals}
use Rattle.lp_model.specs.Flatten.{ClauseFormula, with_type_vars, flat_goal, flatten_query}
use Rattle.lp_model.specs.Branch.{Go, nothing_written}
use Rattle.lp_model.specs.Answers.{Query}
use Rattle.lp_model.specs.Proofs.{Declared, AreFlattened}
use Rattle.lp_proof_laws.specs.Unnegated.{IsUnnegatedAtom}
use Rattle.lp_unify_laws.proofs.Looks.{beta_reduces}
use Rattle.lp_search_laws.specs.Started.{IsTypedSentence, IsPlainSentence, IsPlainQuery}
use Rattle.lp_search_laws.specs.Begun.{first_branch}
use Rattle.lp_search_laws.specs.Unnegated.{AreUnnegatedGoals, IsUnnegatedClause, AreUnnegatedClauses}
use Rattle.lp_search_laws.proofs.Unnegated.{IsUnnegatedTask}
use Rattle.lp_search_laws.proofs.Programs.{flattened}
use Rattle.lp_search_laws.proofs.AtomsKept.{atoms_reduces}
use Rattle.lp_search_laws.proofs.Unnegated.{goals_mapped, goals_entries, clauses_each}
use Rattle.lp_search_laws.proofs.UnnegatedFlat.{goals_unnegated, clauses_unnegated}

pub typed_sentences : (d : Declared) (F : List ClauseFormula) → EachOf (IsPlainSentence d) F → EachOf (IsTypedSentence d) F
typed_sentences d [] h = tt
typed_sentences d (D ∷ F) h = (h.0.typed, typed_sentences d F h.1)

counted : (k : ℕ) (cs : Clauses) → AreUnnegatedClauses cs → AreUnnegatedClauses (with_type_vars k cs)
counted k no_clauses h = tt
counted k (clauses (clause n vs x b) cs) h = (h.0, counted k cs h.1)

pub program_unnegated : (d : Declared) (F : List ClauseFormula) (P : List Clause) → EachOf (IsPlainSentence d) F → AreFlattened d F P → EachOf IsUnnegatedClause P
program_unnegated d [] P s x = transport (EachOf IsUnnegatedClause) (sym x) tt
program_unnegated d (D ∷ F) P s x =
    let y = flattened x.0 d D x.1 x.3 in
    let c = clauses_unnegated d x.0 [] y.form y.plain y.flat (atoms_reduces IsUnnegatedAtom y.leads s.0.unnegated) in
    transport (EachOf IsUnnegatedClause) (sym x.5) (each_append IsUnnegatedClause (clause_list x.1) x.2 (clauses_each x.1 (transport AreUnnegatedClauses y.is (counted D.type_vars y.plain c))) (program_unnegated d F x.2 s.1 x.4))

pub query_unnegated : (d : Declared) (l : ℕ) (q : Query) (gs : Goals) → IsPlainQuery d q → flatten_query l d q.formula ≡ Some gs → AreUnnegatedGoals gs
query_unnegated d l q gs t e =
    let b = and_then_some (beta_normal l q.formula) (λ s. flat_goal l d [] s no_goals) gs e in
    goals_unnegated d l [] b.0 gs b.2 (atoms_reduces IsUnnegatedAtom (beta_reduces l q.formula b.0 b.1) t.unnegated)

pub start_unnegated : (j k : ℕ) (gs : Goals) → AreUnnegatedGoals gs → IsUnnegatedTask (Go (first_branch j k gs))
start_unnegated j k gs h = goals_entries (instantiate_goals (λ i. atom (logic (k - suc i) 0)) gs) [] nothing_written 0 0 (goals_mapped _ _ _ (λ i. atom (logic (k - suc i) 0)) gs h) tt
