-- Sentences and queries of pattern text, by their beta-eta normal forms: what they flatten to, and the answers of their search.
use Rattle.std.proofs.Common.{◌≡◌, ℕ, List, [], ◌∷◌, length, Some, refl, sym, subst as transport}
use Rattle.std.specs.Prelude.{option_map}
use Rattle.std.proofs.lemmas.List.{length-map}
use Rattle.lp_calculus.specs.Types.{Ty}
use Rattle.lp_calculus.specs.Term.{Term}
use Rattle.lp_calculus.specs.Convert.{ReducesTo, done, then_step}
use Rattle.lp_calculus.specs.Fill.{Within}
use Rattle.lp_calculus.specs.Normal.{IsNormal}
use Rattle.lp_calculus.proofs.BetaEta.{conversion_meets}
use Rattle.lp_calculus.proofs.Steps.{converts_on, converts_sym, converts_reduces, within_reduces}
use Rattle.lp_lemmas.specs.Each.{EachOf}
use Rattle.lp_lemmas.proofs.Each.{each_append}
use Rattle.lp_lemmas.proofs.Options.{and_then_some, option_map_some}
use Rattle.lp_standard.specs.Schemes.{IsStandard}
use Rattle.lp_model.specs.Answers.{Query}
use Rattle.lp_model.specs.Eigens.{beta_normal}
use Rattle.lp_model.specs.Flat.{Goals, no_goals, Clause, clause, Clauses, no_clauses, clauses, clause_list}
use Rattle.lp_model.specs.Flatten.{ClauseFormula, flatten, flatten_query, flat_goal, flat_clause, with_type_vars}
use Rattle.lp_model.specs.Proofs.{AreFlattened, Declared}
use Rattle.lp_model.specs.Search.{look, start}
use Rattle.lp_model.specs.Skeleton.{run}
use Rattle.lp_model.specs.Unify.{unit_limit}
use Rattle.lp_unify_laws.proofs.Looks.{beta_reduces}
use Rattle.lp_unify_laws.proofs.Termination.SemiForms.{normal_of}
use Rattle.lp_search_laws.specs.Started.{IsQueryAtom, IsTypedQuery, IsTypedSentence}
use Rattle.lp_pattern_laws.specs.Binders.{existential}
use Rattle.lp_pattern_laws.specs.Parts.{existentials}
use Rattle.lp_pattern_laws.specs.Goals.{IsWrittenText, AreClausesOf, IsTextClause, AreTextGoals}
use Rattle.lp_pattern_laws.specs.Formulas.{IsPatternSentence, IsPatternQuery}
use Rattle.lp_pattern_laws.proofs.FormulaFlat.{goals_text, clauses_text}
use Rattle.lp_pattern_laws.proofs.PatternRuns.{no_pairs}
use Rattle.lp_pattern_laws.proofs.PatternTasks.{HasNoPair}
use Rattle.lp_pattern_laws.proofs.PlainTerms.{IsPlain, plain}

-- the beta-normal form reduces to the beta-eta normal form
normal_stays : {t s : Term} → ReducesTo t s → IsNormal t → s ≡ t
normal_stays (done t) n = refl
normal_stays (then_step {s = s} p ps) n = absurd (n s p)

to_form : (t u s : Term) → ReducesTo t u → ReducesTo t s → IsNormal s → ReducesTo u s
to_form t u s r q n =
    let m = conversion_meets (converts_on (converts_sym (converts_reduces r)) (converts_reduces q)) in
    transport (ReducesTo u) (normal_stays m.2 n) m.1

beta_plain : (n : ℕ) (t u : Term) → beta_normal n t ≡ Some u → IsPlain u
beta_plain n t u e = let z = normal_of n t u e in plain u z.1.1

typed_count : (k : ℕ) (cs : Clauses) → AreClausesOf IsWrittenText [] cs → EachOf IsTextClause (clause_list (with_type_vars k cs))
typed_count k no_clauses h = tt
typed_count k (clauses (clause n vs x b) cs) h = (h.0, typed_count k cs h.1)

pub clauses_flat : (d : Declared) (n : ℕ) (D : ClauseFormula) (cs : Clauses) → IsTypedSentence d D → flatten n d D ≡ Some cs → IsPatternSentence D → EachOf IsTextClause (clause_list cs)
clauses_flat d n D cs t e h =
    let b = and_then_some (beta_normal n D.formula) (λ u. option_map (with_type_vars D.type_vars) (flat_clause n d [] u [] [])) cs e in
    let m = option_map_some (flat_clause n d [] b.0 [] []) (with_type_vars D.type_vars) cs b.2 in
    let r = beta_reduces n D.formula b.0 b.1 in
    transport (λ z. EachOf IsTextClause (clause_list z)) m.2 (typed_count D.type_vars m.0 (clauses_text D.type_vars d n [] b.0 m.0 m.1 (record {
      plain = beta_plain n D.formula b.0 b.1;
      within = within_reduces (IsQueryAtom D.type_vars) 0 r t.within;
      form = h.0;
      reduces = to_form D.formula b.0 h.0 r h.1.0 h.1.1;
      text = h.2;
    })))

pub goals_flat : (d : Declared) (n : ℕ) (q : Query) (gs : Goals) → IsTypedQuery d q → flatten_query n d q.formula ≡ Some gs → IsPatternQuery q → AreTextGoals (existentials q.vars) gs
goals_flat d n q gs t e h =
    let b = and_then_some (beta_normal n q.formula) (λ s. flat_goal n d [] s no_goals) gs e in
    let r = beta_reduces n q.formula b.0 b.1 in
    let count : length q.vars ≡ length (existentials q.vars) = sym (length-map q.vars (λ (T : Ty). existential)) in
    goals_text q.type_vars d n [] (existentials q.vars) b.0 gs b.2 (record {
      plain = beta_plain n q.formula b.0 b.1;
      within = transport (λ z. Within (IsQueryAtom q.type_vars) z b.0) count (within_reduces (IsQueryAtom q.type_vars) (length q.vars) r t.within);
      form = h.0;
      reduces = to_form q.formula b.0 h.0 r h.1.0 h.1.1;
      text = h.2;
    })

program_flat : (d : Declared) (F : List ClauseFormula) (P : List Clause) → EachOf (IsTypedSentence d) F → AreFlattened d F P → EachOf IsPatternSentence F → EachOf IsTextClause P
program_flat d [] P s x h = transport (EachOf IsTextClause) (sym x) tt
program_flat d (D ∷ F) P s x h =
    transport (EachOf IsTextClause) (sym x.5) (each_append IsTextClause (clause_list x.1) x.2 (clauses_flat d x.0 D x.1 s.0 x.3 h.0) (program_flat d F x.2 s.1 x.4 h.1))

pub formulas_no_pairs : (d : Declared) → IsStandard d → (l : ℕ) (F : List ClauseFormula) (P : List Clause) → EachOf (IsTypedSentence d) F →
    AreFlattened d F P → EachOf IsPatternSentence F → (q : Query) (gs : Goals) → IsTypedQuery d q →
    flatten_query l d q.formula ≡ Some gs → IsPatternQuery q → (n j m steps answers : ℕ) → EachOf HasNoPair (run (look unit_limit n P) j m (start q.type_vars (length q.vars) gs steps answers)).answers
formulas_no_pairs d std l F P s x h q gs t e p n j m steps answers = no_pairs d std l F P s x q gs t e (program_flat d F P s x h) (goals_flat d l q gs t e p) n j m steps answers
