-- Where a search begins: the clauses of a typed program are written as in a program, so are the goals of a typed query, and the first state is typed.
use Rattle.std.proofs.Common.{◌≡◌, Bool, true, false, ℕ, zero, suc, List, [], ◌∷◌, ◌++◌, map, length, reverse, Some, sym, subst, arith, append_assoc}
use Rattle.std.specs.Prelude.{slice_index_or}
use Rattle.std.proofs.lemmas.List.{length-reverse}
use Rattle.lp_calculus.specs.Closed.{AllAtoms}
use Rattle.lp_calculus.specs.Fill.{Within}
use Rattle.lp_calculus.specs.Spine.{head_of}
use Rattle.lp_calculus.specs.Term.{Term, Atom, index, atom, abs, app, constant, integer, text, eigen, logic, param}
use Rattle.lp_calculus.specs.Types.{Ty}
use Rattle.lp_calculus.specs.Typing.{atom_type, o_type}
use Rattle.lp_calculus.proofs.Fills.{within_more}
use Rattle.lp_lemmas.specs.Each.{EachOf}
use Rattle.lp_lemmas.proofs.Each.{each_append}
use Rattle.lp_lemmas.proofs.Options.{and_then_some}
use Rattle.lp_model.specs.Answers.{Query, over}
use Rattle.lp_model.specs.Eigens.{beta_normal}
use Rattle.lp_model.specs.Flat.{Goal, Atomic, Cut, Either, Exists, Forall, Assume, Not, Clause, Clauses, Goals, clause, clause_list, clauses, formula_of_clause, formula_of_goals, goals, no_clauses, no_goals}
use Rattle.lp_model.specs.Flatten.{ClauseFormula, flat_goal, flatten_query, with_type_vars}
use Rattle.lp_model.specs.Proofs.{AreFlattened, Declared, under}
use Rattle.lp_model.specs.Search.{start}
use Rattle.lp_proof_laws.specs.Filled.{IsSourceAtom}
use Rattle.lp_proof_laws.specs.Terms.{AreClausesOf, AreTermsOf, IsClauseOf}
use Rattle.lp_pattern.specs.Putting.{Known}
use Rattle.lp_standard.specs.Schemes.{IsStandard}
use Rattle.lp_unify_laws.proofs.Looks.{beta_reduces}
use Rattle.lp_unify_laws.proofs.TypedBindings.{HasAtomType, typed_atoms}
use Rattle.lp_search_laws.specs.Begun.{first_typing}
use Rattle.lp_search_laws.specs.Branches.{AreClauses, AreGoals, IsClause, IsClauseHead, IsGoal, IsProgramTyped}
use Rattle.lp_search_laws.specs.Started.{IsTypedQuery, IsTypedSentence}
use Rattle.lp_search_laws.proofs.AtomsKept.{atoms_reduces}
use Rattle.lp_search_laws.specs.Written.{AreWrittenGoals}
use Rattle.lp_search_laws.proofs.Begins.{fine, program_typed, query_source, start_typed}
use Rattle.lp_search_laws.proofs.Programs.{flattened}
use Rattle.lp_search_laws.proofs.WrittenFlat.{clauses_of, goals_of, goals_written as goals_written_flat}
use Rattle.lp_plain.specs.Moving.{HasNoVariable}
use Rattle.lp_plain.specs.ProgramClauses.{arity_in, IsNamedAtom}
use Rattle.lp_plain.specs.Resuming.{AllOfClause, AllOfGoals}
use Rattle.lp_plain.specs.TypedStates.{IsTaskTyped, IsTypedState}
use Rattle.lp_plain.specs.WrittenGoals.{GoalsWritten, IsProgramClause}
use Rattle.lp_plain.specs.WrittenTable.{own_and}
use Rattle.lp_plain.proofs.KnownPrograms.{clause_within, goals_within}
use Rattle.lp_plain.proofs.ProgramsWritten.{goals_written, program_clause, types_many}
use Rattle.lp_plain.proofs.TableWritten.{own_many}

-- the first state
pub typed_start : (d : Declared) → IsStandard d → (m : ℕ) (q : Query) (gs : Goals) → IsTypedQuery d q → flatten_query m d q.formula ≡ Some gs → (n : ℕ) (P : List Clause) (steps answers : ℕ) →
    IsTypedState n d P q (start q.type_vars (length q.vars) gs steps answers)
typed_start d std m q gs t e n P steps answers = let r = start_typed d std m q gs t e n steps answers in subst (EachOf (IsTaskTyped n d P q)) (sym r.0) ((first_typing q gs, r.1), tt)

source_named : (a : Atom) → IsNamedAtom a → IsSourceAtom a
source_named (constant c ts) h = tt
source_named (integer z) h = tt
source_named (text s) h = tt
source_named (eigen k) h = tt
source_named (logic x l) h = absurd h
source_named (param k T) h = absurd h

-- the program
counted : (k : ℕ) (cs : Clauses) → AreClausesOf (AllAtoms IsNamedAtom) cs → EachOf (IsClauseOf (AllAtoms IsNamedAtom)) (clause_list (with_type_vars k cs))
counted k no_clauses h = tt
counted k (clauses (clause n vs x b) cs) h = (h.0, counted k cs h.1)

named_program : (d : Declared) (F : List ClauseFormula) (P : List Clause) → EachOf (λ D. AllAtoms IsNamedAtom D.formula) F → AreFlattened d F P → EachOf (IsClauseOf (AllAtoms IsNamedAtom)) P
named_program d [] P h x = subst (EachOf (IsClauseOf (AllAtoms IsNamedAtom))) (sym x) tt
named_program d (D ∷ F) P h x =
    let y = flattened x.0 d D x.1 x.3 in
    let a = clauses_of IsNamedAtom source_named d x.0 [] y.form y.plain y.flat (atoms_reduces IsNamedAtom y.leads h.0) in
    let here = subst (λ z. EachOf (IsClauseOf (AllAtoms IsNamedAtom)) (clause_list z)) y.is (counted D.type_vars y.plain a) in
    subst (EachOf (IsClauseOf (AllAtoms IsNamedAtom))) (sym x.5) (each_append (IsClauseOf (AllAtoms IsNamedAtom)) (clause_list x.1) x.2 here (named_program d F x.2 h.1 x.4))

all_written : (d : Declared) (P : List Clause) → EachOf (IsProgramTyped d) P → EachOf (IsClauseOf (AllAtoms IsNamedAtom)) P → EachOf (IsProgramClause (arity_in d)) P
all_written d [] t a = tt
all_written d (c ∷ P) t a = (program_clause d c t.0 a.0, all_written d P t.1 a.1)

pub program_written : (d : Declared) → IsStandard d → (F : List ClauseFormula) (P : List Clause) → EachOf (IsTypedSentence d) F → EachOf
    (λ D. AllAtoms IsNamedAtom D.formula) F → AreFlattened d F P → EachOf (IsProgramClause (arity_in d)) P
program_written d std F P s h x = all_written d P (program_typed d std F P s x) (named_program d F P h x)

known_over : (d : Declared) (a : Atom) → HasAtomType (atom_type (over d [] [])) a → Known (λ x. 0) 0 a
known_over d (constant c ts) w = tt
known_over d (integer z) w = tt
known_over d (text s) w = tt
known_over d (eigen k) w = tt
known_over d (logic x l) w = absurd (let e = w.1 in cc)
known_over d (param k T) w = tt

clause_known : (d : Declared) (c : Clause) → IsProgramTyped d c → AllOfClause HasNoVariable 0 c
clause_known d c x =
    clause_within (Known (λ x. 0) 0) 0 c
    (within_more (HasAtomType (atom_type (over d [] []))) (Known (λ x. 0) 0) 0 0 (known_over d) (omega arith) (formula_of_clause c)
    (typed_atoms (atom_type (over d [] [])) [] (formula_of_clause c) o_type x.typed.typed)) x.written

pub program_known : (d : Declared) (P : List Clause) → EachOf (IsProgramTyped d) P → EachOf (AllOfClause HasNoVariable 0) P
program_known d [] t = tt
program_known d (c ∷ P) t = (clause_known d c t.0, program_known d P t.1)

-- more variables around, none of which a `pi` binds
more_true : (B : List Bool) (n i : ℕ) → slice_index_or B i false ≡ true → slice_index_or (B ++ own_and n []) i false ≡ true
more_true [] n i e = absurd (cc)
more_true (b ∷ B) n zero e = e
more_true (b ∷ B) n (suc i) e = more_true B n i e

module _ (k n : ℕ) where
  head_more : (vs : List Ty) (B : List Bool) (t : Term) → IsClauseHead (map (λ v. false) vs ++ B) t → IsClauseHead (map (λ v. false) vs ++ (B ++ own_and n [])) t
  head_more vs B (index i) h = subst (λ C. slice_index_or C i false ≡ true) (append_assoc (map (λ v. false) vs) B (own_and n [])) (more_true (map (λ v. false) vs ++ B) n i h)
  head_more vs B (atom (constant c ts)) h = h
  head_more vs B (atom (integer z)) h = h
  head_more vs B (atom (text s)) h = h
  head_more vs B (atom (eigen j)) h = h
  head_more vs B (atom (logic x l)) h = h
  head_more vs B (atom (param j T)) h = h
  head_more vs B (abs b) h = h
  head_more vs B (app f t) h = h

  mutual
    goal_more : (B : List Bool) (g : Goal) → IsGoal k B g → IsGoal k (B ++ own_and n []) g
    goal_more B (Atomic t) h = h
    goal_more B Cut h = h
    goal_more B (Either gs hs) h = (goals_more B gs h.0, goals_more B hs h.1)
    goal_more B (Exists T gs) h = (h.0, goals_more (false ∷ B) gs h.1)
    goal_more B (Forall T gs) h = (h.0, goals_more (true ∷ B) gs h.1)
    goal_more B (Assume w cs gs) h = (clauses_more B cs h.0, goals_more B gs h.1)
    goal_more B (Not w gs) h = goals_more B gs h

    goals_more : (B : List Bool) (gs : Goals) → AreGoals k B gs → AreGoals k (B ++ own_and n []) gs
    goals_more B no_goals h = tt
    goals_more B (goals g gs) h = (goal_more B g h.0, goals_more B gs h.1)

    clause_more : (B : List Bool) (c : Clause) → IsClause k B c → IsClause k (B ++ own_and n []) c
    clause_more B (clause m vs x b) h = (
      h.0,
      head_more vs B (head_of x) h.1,
      h.2,
      subst (λ C. AreGoals k C b) (append_assoc (map (λ v. false) vs) B (own_and n [])) (goals_more (map (λ v. false) vs ++ B) b h.3),
    )

    clauses_more : (B : List Bool) (cs : Clauses) → AreClauses k B cs → AreClauses k (B ++ own_and n []) cs
    clauses_more B no_clauses h = tt
    clauses_more B (clauses c cs) h = (h.0, clause_more B c h.1, clauses_more B cs h.2)

-- the query
module _ (d : Declared) (std : IsStandard d) (m : ℕ) (q : Query) (gs : Goals) (t : IsTypedQuery d q) (e : flatten_query m d q.formula ≡ Some gs) where
  typed_within : Within (HasAtomType (atom_type (under d []))) (length q.vars) (formula_of_goals gs)
  typed_within =
      subst (λ i. Within (HasAtomType (atom_type (under d []))) i (formula_of_goals gs)) (length-reverse q.vars)
      (typed_atoms (atom_type (under d [])) (reverse q.vars) (formula_of_goals gs) o_type (fine d std m q gs t e).over.typed)

  known_under : (a : Atom) → HasAtomType (atom_type (under d [])) a → Known (λ x. 0) 0 a
  known_under (constant c ts) w = tt
  known_under (integer z) w = tt
  known_under (text s) w = tt
  known_under (eigen k) w = tt
  known_under (logic x l) w = absurd (let e = w.1 in cc)
  known_under (param k T) w = tt

  none : (k : ℕ) → HasAtomType (atom_type (under d [])) (eigen k) → ⊥
  none zero w = (let e = w.1 in cc)
  none (suc k) w = (let e = w.1 in cc)

  written_there : AreWrittenGoals gs
  written_there =
      let b = and_then_some (beta_normal m q.formula) (λ s. flat_goal m d [] s no_goals) gs e in
      goals_written_flat IsSourceAtom (λ a h. h) d m [] b.0 gs b.2 (atoms_reduces IsSourceAtom (beta_reduces m q.formula b.0 b.1) (query_source q.type_vars (length q.vars) q.formula t.within))

  pub query_known : AllOfGoals HasNoVariable (length q.vars) gs
  query_known =
      goals_within (Known (λ x. 0) 0) (length q.vars) gs
      (within_more (HasAtomType (atom_type (under d []))) (Known (λ x. 0) 0) (length q.vars) (length q.vars) known_under (omega arith) (formula_of_goals gs) typed_within) written_there

  named_there : AllAtoms IsNamedAtom q.formula → AreTermsOf (AllAtoms IsNamedAtom) gs
  named_there h =
      let b = and_then_some (beta_normal m q.formula) (λ s. flat_goal m d [] s no_goals) gs e in
      goals_of IsNamedAtom source_named d m [] b.0 gs b.2 (atoms_reduces IsNamedAtom (beta_reduces m q.formula b.0 b.1) h)

  pub query_written : AllAtoms IsNamedAtom q.formula → GoalsWritten (arity_in d) q.type_vars (own_and (length q.vars) []) gs
  query_written h =
      let n = length q.vars in
      let many : length (own_and n []) ≡ n = (let l = own_many n [] in omega (arith, l)) in
      goals_written d (HasAtomType (atom_type (under d []))) (λ c ts w. types_many d c ts w.0 w.1) none q.type_vars (own_and n []) gs
      (subst (λ i. Within (HasAtomType (atom_type (under d []))) i (formula_of_goals gs)) (sym many) typed_within) (goals_more q.type_vars n [] gs (fine d std m q gs t e).form) (named_there h)
