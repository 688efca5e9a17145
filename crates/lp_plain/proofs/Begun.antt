-- A search that begins is in the first state of the definition's.
use Rattle.std.proofs.Common.{◌≡◌, ◌∙◌, ℕ, List, [], ◌∷◌, ◌++◌, map, length, None, refl, sym, ap, subst, arith}
use Rattle.std.specs.Prelude.{◌<◌, All, nat_eq}
use Rattle.std.specs.HashMap.{get}
use Rattle.std.proofs.lemmas.List.{length-map}
use Rattle.lp_calculus.specs.Spine.{head_of}
use Rattle.lp_calculus.specs.Term.{Term, index, atom, abs, app, constant, integer, text, eigen, logic, param}
use Rattle.lp_lemmas.specs.Each.{EachOf}
use Rattle.lp_term.specs.Nodes.{Nodes, Extends, type_tree}
use Rattle.lp_model.specs.Answers.{Query as Proved}
use Rattle.lp_model.specs.Flat.{Clause, Clauses, Goals, clause, clause_list}
use Rattle.lp_model.specs.Proofs.{AreFlattened, Declared}
use Rattle.lp_model.specs.Readings.{formula_of}
use Rattle.lp_model.specs.Search.{start}
use Rattle.lp_model.specs.declared.program.ClauseFormula.{ClauseFormula as Coded}
use Rattle.lp_model.specs.declared.program.Program.{Program}
use Rattle.lp_model.specs.declared.program.Typed.{Typed}
use Rattle.lp_search_laws.proofs.Begins.{program_typed}
use Rattle.lp_plain.specs.declared.machine.Machine.{Machine}
use Rattle.lp_plain.specs.declared.search.Search.{Search}
use Rattle.lp_plain.specs.declared.table.Span.{Span}
use Rattle.lp_plain.specs.Begun.{Begins, formulas_of, query_in}
use Rattle.lp_plain.specs.Between.{HasClauses, IsBetween, begins, goes_on}
use Rattle.lp_plain.specs.Moving.{HasNoVariable, IsState}
use Rattle.lp_plain.specs.ProgramClauses.{arity_in}
use Rattle.lp_plain.specs.Resuming.{AllOfClause, AllOfGoals}
use Rattle.lp_plain.specs.Starts.{AreFlat, AreProgramOf}
use Rattle.lp_plain.specs.Trying.{AreOfProgram, HasArity, HasProgram, IsNoEigen, all_clauses}
use Rattle.lp_plain.specs.TypedStates.{IsTypedOver, IsTypedState}
use Rattle.lp_plain.specs.WrittenGoals.{GoalsWritten, IsProgramClause}
use Rattle.lp_plain.specs.WrittenSearch.{IsWrittenSearch}
use Rattle.lp_plain.specs.WrittenTable.{IsWrittenHead, own_and}
use Rattle.lp_plain.specs.Candidates.{IsIndex, numbers}
use Rattle.lp_plain.specs.HeadLooks.{with_bank}
use Rattle.lp_plain.specs.Within.{StandsIn}
use Rattle.lp_pattern.proofs.Keeps.{goes_on_same}
use Rattle.lp_plain.proofs.Later.{rules_later}
use Rattle.lp_plain.proofs.LaterIndex.{index_later}
use Rattle.lp_plain.proofs.Programs.{program_on}
use Rattle.lp_plain.proofs.TypedPrograms.{program_known, program_written, query_known, query_written, typed_start}

-- formula by formula
pub flat_lists : (d : Declared) (b : Nodes) (fs : List Coded) (P : List Clause) → AreFlattened d (map (formula_of b) fs) P → (css : List Clauses) × AreFlat d b fs css × (P ≡ all_clauses css)
flat_lists d b [] P h = ([], tt, h)
flat_lists d b (f ∷ fs) P h =
    let r = flat_lists d b fs h.2 h.4 in
    (h.1 ∷ r.0, ((h.0, h.3), r.1), h.5 ∙ ap (λ Q. clause_list h.1 ++ Q) r.2)

-- heads of a program's clauses
head_has : (ar : ℕ → ℕ) (k n : ℕ) (t : Term) → IsWrittenHead ar k n [] t → HasArity ar t × IsNoEigen t
head_has ar k n (index i) h = (tt, tt)
head_has ar k n (atom (constant c ts)) h = (h.0, tt)
head_has ar k n (atom (integer z)) h = absurd h
head_has ar k n (atom (text s)) h = absurd h
head_has ar k n (atom (eigen j)) h = absurd h
head_has ar k n (atom (logic x l)) h = absurd h
head_has ar k n (atom (param j t)) h = absurd h
head_has ar k n (abs b) h = absurd h
head_has ar k n (app f t) h = absurd h

heads_have : (ar : ℕ → ℕ) (P : List Clause) → EachOf (IsProgramClause ar) P → AreOfProgram ar P
heads_have ar [] h = tt
heads_have ar (clause n vs x b ∷ P) h = let y = head_has ar n (length vs) (head_of x) h.0.0.0 in (y.0, y.1, heads_have ar P h.1)

module _ (d : Declared) (p : Program) (q : Typed) (P : List Clause) (gs : Goals) (h : Begins d p q P gs) where
  abbrev ar : ℕ → ℕ
  ar = arity_in d

  abbrev of : Proved
  of = query_in p.bank q

  abbrev k : ℕ
  k = length q.vars.items

  many : length of.vars ≡ k
  many = length-map q.vars.items (λ v. type_tree p.bank v.1.0)

  typed : (n steps answers : ℕ) → IsTypedOver ar n P (start q.type_vars k gs steps answers)
  typed n steps answers = record {
    declared = d;
    takes = refl;
    standard = h.standard;
    program = program_typed d h.standard (formulas_of p) P h.clauses_typed h.clauses_flattened;
    query = of;
    typed = subst (λ i. IsTypedState n d P of (start q.type_vars i gs steps answers)) many (typed_start d h.standard h.depth of gs h.query_typed h.query_flattened n P steps answers);
  }

  pub no_variable : AllOfGoals HasNoVariable k gs
  no_variable = subst (λ i. AllOfGoals HasNoVariable i gs) many (query_known d h.standard h.depth of gs h.query_typed h.query_flattened)

  pub goals_written : GoalsWritten ar q.type_vars (own_and k []) gs
  goals_written = subst (λ i. GoalsWritten ar q.type_vars (own_and i []) gs) many (query_written d h.standard h.depth of gs h.query_typed h.query_flattened h.query_named)

  abbrev lists : (css : List Clauses) × AreFlat d p.bank p.clauses.items css × (P ≡ all_clauses css)
  lists = flat_lists d p.bank p.clauses.items P h.clauses_flattened

  written_clauses : EachOf (IsProgramClause ar) P
  written_clauses = program_written d h.standard (formulas_of p) P h.clauses_typed h.clauses_named h.clauses_flattened

  -- the program in the table
  pub clauses_there : (m : Machine) → ((css : List Clauses) → AreFlat d p.bank p.clauses.items css → (b : Nodes) → Extends m.bank b → HasProgram
      (with_bank m b) css) → IsWrittenSearch m ar → HasClauses P ar m
  clauses_there m f w = record {
    clauses = lists.0;
    are = lists.2;
    program = record {
      has = f lists.0 lists.1;
      heads = subst (AreOfProgram ar) lists.2 (heads_have ar P written_clauses);
      written = subst (EachOf (IsProgramClause ar)) lists.2 written_clauses;
      known = subst (EachOf (AllOfClause HasNoVariable 0)) lists.2 (program_known d P (program_typed d h.standard (formulas_of p) P h.clauses_typed h.clauses_flattened));
    };
    written = w;
  }

  pub begun_between : (s : Search) (steps answers n : ℕ) → s.ended ≡ None → s.given ≡ 0 → s.answers ≡ answers → length s.variables.items ≡ k →
      IsState (record { types = q.type_vars; vars = k; arity = ar; outer = [] }) s.machine (start q.type_vars k gs steps answers) → HasClauses P ar
      s.machine → IsBetween P n s (start q.type_vars k gs steps answers)
  begun_between s steps answers n e g a v st cl =
      goes_on (record { types = q.type_vars; vars = k; arity = ar; outer = [] }) e (record { alone = refl; are = v })
      (record { given = sym g; left = omega (arith, a, g) }) (begins g st) cl (typed n steps answers)

-- while the bank grows
pub program_there : (m : Machine) (spans : List Span) (css : List Clauses) → StandsIn m → All (λ k. k < length m.table.rules.items) (numbers spans) →
    AreProgramOf m.bank m.table spans css → IsIndex m.bank m.table.rules.items (λ c. get nat_eq m.index c) (numbers spans) →
    (b : Nodes) → Extends m.bank b → HasProgram (with_bank m b) css
program_there m spans css st ends are there b x = record {
  spans = spans;
  clauses = program_on m.bank b m.table m.table (λ s cs p. rules_later m.bank b x m.table st.table s.from s.to cs p) spans css are;
  index = index_later m.bank b m.table.rules.items m.table.rules.items (λ c. get nat_eq m.index c) (numbers spans) x (goes_on_same m.table.rules.items) st.table.rules ends there;
}
