-- A failing search stays one with further eigenconstants among those that are there.
use Rattle.std.proofs.Common.{◌≡◌, ℕ, zero, suc, ◌≤◌, List, [], ◌∷◌, ◌++◌, map, length, ◌∙◌, refl, sym, ap, subst as transport, Some}
use Rattle.std.specs.Prelude.{option_map, Bool}
use Rattle.lp_calculus.specs.Closed.{AreClosed}
use Rattle.lp_model.specs.Eigens.{beta_normal}
use Rattle.lp_proof_laws.specs.Filled.{IsSourceAtom}
use Rattle.lp_proof_laws.specs.Terms.{AreClausesOf}
use Rattle.lp_search_laws.proofs.AtomsKept.{atoms_reduces, bind_is, map_is}
use Rattle.std.proofs.lemmas.List.{map-append, length-map}
use Rattle.lp_lemmas.specs.Each.{EachOf}
use Rattle.lp_lemmas.proofs.Lists.{get_map, get_from_map}
use Rattle.lp_calculus.specs.Types.{Ty, instance}
use Rattle.lp_calculus.specs.Term.{Term, Atom, atom, constant, integer, text, eigen, logic, param}
use Rattle.lp_calculus.specs.Typing.{type_at, o_type}
use Rattle.lp_calculus.specs.Fill.{at_variables, close}
use Rattle.lp_calculus.specs.Instance.{instance_term}
use Rattle.lp_calculus.proofs.Fills.{fill-fill}
use Rattle.lp_model.specs.Index.{instantiate}
use Rattle.lp_model.specs.Flat.{Goal, Goals, no_goals, Clause, clause, Clauses, no_clauses, clauses, goal_list, clause_list, map_goals, map_clauses, map_clause, same_type, formula_of_goals, formula_of_clause, formula_of_clauses}
use Rattle.lp_model.specs.Flatten.{ClauseFormula, flat_goal, flat_clause, flatten, with_type_vars}
use Rattle.lp_model.specs.Pair.{Closing, closed}
use Rattle.lp_model.specs.Branch.{Go, entries}
use Rattle.lp_model.specs.Answers.{Closes}
use Rattle.lp_model.specs.Variables.{Variable}
use Rattle.lp_model.specs.Search.{look}
use Rattle.lp_model.specs.Unify.{unit_limit}
use Rattle.lp_model.specs.Skeleton.{run, starts_within}
use Rattle.lp_model.specs.Proofs.{Declared, Failure, IsFormula, IsSentence, IsWitness, Stands, assumed, newest_first}
use Rattle.lp_model.specs.Renaming.{renamed_atom, renamed, renamed_clause, IsRenaming}
use Rattle.lp_proof_laws.specs.Open.{IsOpen, Fits}
use Rattle.lp_proof_laws.specs.Assumed.{assumed_at}
use Rattle.lp_proof_laws.proofs.Uniform.Renamed.{instance_renamed, renamed_converts, renamed_formula, renamed_witness, renamed_typed, renamed_closed}
use Rattle.lp_unify_laws.proofs.Looks.{beta_reduces}
use Rattle.lp_search_laws.specs.Clauses.{sentence_of, clauses_at}
use Rattle.lp_search_laws.specs.Branches.{IsProgramTyped, IsTypedBranch, AreTypedEntries, ArePlainEntries, no_query}
use Rattle.lp_search_laws.specs.Failed.{SameGoal, goal_converts, goal_flat, goal_back, goal_then, Order, SameClauses, unchanged, in_some_order, converted, each_apart, clause_flat, program_flat, sentence_flat, other_way, one_by_one, failing_branch, failing_typing, failed_run, IsFailedSearch}
use Rattle.lp_search_laws.specs.Written.{IsWrittenEntry}
use Rattle.lp_search_laws.specs.Widened.{Additions, widened, moved_to, olds, HaveClosedTypes}
use Rattle.lp_search_laws.proofs.Formulas.{GoesInside, goals_inside, clause_inside, clauses_inside}
use Rattle.lp_search_laws.proofs.WrittenFlat.{goals_of, clauses_of}
use Rattle.lp_search_laws.proofs.Moved.Terms.{Moving, moved, moved_atom, moved_by, instance_moved}
use Rattle.lp_search_laws.proofs.Moved.Goals.{moved_goal, moved_goals, moved_clause, moved_clauses, moved_written, moved_entries, moved_branch, moved_answer, moved_task, clauses_listed, goals_listed, entries_moved, instantiate_mapped}
use Rattle.lp_search_laws.proofs.Moved.Candidates.{same_types}
use Rattle.lp_search_laws.proofs.Moved.Runs.{moved_told, run_moved}
use Rattle.lp_search_laws.proofs.Moved.Looks.{IsHighTask, look_moved, look_stays, high_entries}
use Rattle.lp_search_laws.proofs.Moved.Places.{moving, narrower, there_and_back, widened_length, widened_eigen, widened_level}
use Rattle.lp_search_laws.proofs.Moved.Typed.{widened_variable, widened_variables, variables_widened, widened_instance, moves_inside, entries_typed, entries_plain}
use Rattle.lp_search_laws.proofs.Moved.Origins.{entries_written}
use Rattle.lp_search_laws.proofs.Moved.Roots.{IsRoot, IsRootAtom, under_root, before_types, root_stays, goals_root, clause_root, clauses_root, program_root, program_stays}

-- renamed terms
pub renaming : (ads : Additions) (E : List Ty) → IsRenaming E (widened ads E) (moved_to ads)
renaming ads E = record { typed = widened_eigen ads E; level = widened_level ads E }

root_atom : (ρ : ℕ → ℕ) (a : Atom) → IsRootAtom a → renamed_atom ρ a ≡ a
root_atom ρ (constant c ts) w = refl
root_atom ρ (integer z) w = refl
root_atom ρ (text s) w = refl
root_atom ρ (eigen k) w = absurd w
root_atom ρ (logic x l) w = absurd w
root_atom ρ (param k T) w = refl

still : (ρ : ℕ → ℕ) (t : Term) → IsRoot t → renamed ρ t ≡ t
still ρ t w = root_stays (renamed_atom ρ) (root_atom ρ) t w

root_filled : (ρ : ℕ → ℕ) (θ : ℕ → Term) (t : Term) → IsRoot t → renamed ρ (instantiate θ t) ≡ instantiate (λ i. renamed ρ (θ i)) t
root_filled ρ θ t w = sym (instantiate_mapped (renamed_atom ρ) θ (λ i. renamed ρ (θ i)) (λ i. refl) t) ∙ ap (instantiate (λ i. renamed ρ (θ i))) (still ρ t w)

open_root : (d : Declared) (Γ : List Ty) (t : Term) (T : Ty) → IsOpen d Γ t T → IsRoot t
open_root d Γ t T o = under_root d Γ t T o.typed

root_source : (a : Atom) → IsRootAtom a → IsSourceAtom a
root_source (constant c ts) w = tt
root_source (integer z) w = tt
root_source (text s) w = tt
root_source (eigen k) w = tt
root_source (logic x l) w = w
root_source (param k T) w = tt

fits_renamed : (d : Declared) (E F Γ : List Ty) (ρ : ℕ → ℕ) → IsRenaming E F ρ → (θ : ℕ → Term) → Fits d E Γ θ → Fits d F Γ (λ i. renamed ρ (θ i))
fits_renamed d E F Γ ρ r θ f = record { at = λ i T e. let x = f.at i T e in (renamed_typed d E F ρ r (θ i) T x.0, renamed_closed E F ρ r (θ i) x.1) }

goal_root_flat : (d : Declared) (n : ℕ) (B : List Bool) (t : Term) (gs : Goals) → flat_goal n d B t no_goals ≡ Some gs → IsRoot t → IsRoot (formula_of_goals gs)
goal_root_flat d n B t gs e w = goals_root gs (goals_of IsRootAtom root_source d n B t gs e w)

clause_root_flat : (d : Declared) (n : ℕ) (B : List Bool) (t : Term) (cs : Clauses) → flat_clause n d B t [] [] ≡ Some cs → IsRoot t → IsRoot (formula_of_clauses cs)
clause_root_flat d n B t cs e w = clauses_root cs (clauses_of IsRootAtom root_source d n B t cs e w)

-- the same goals
pub goal_renamed : (d : Declared) (E F : List Ty) (ρ : ℕ → ℕ) → IsRenaming E F ρ → {G H : Term} → SameGoal d E G H → SameGoal d F (renamed ρ G) (renamed ρ H)
goal_renamed d E F ρ r {G} {H} (goal_converts f g c) = goal_converts (renamed_formula d E F ρ r G f) (renamed_formula d E F ρ r H g) (renamed_converts ρ G H c)
goal_renamed d E F ρ r {G} {H} (goal_flat n B t gs Γ θ o f e p q) =
    let w = open_root d Γ t _ o in
    goal_flat n B t gs Γ (λ i. renamed ρ (θ i)) o (fits_renamed d E F Γ ρ r θ f) e (ap (renamed ρ) p ∙ root_filled ρ θ t w) (ap (renamed ρ) q ∙ root_filled ρ θ (formula_of_goals gs) (goal_root_flat d n B t gs e w))
goal_renamed d E F ρ r (goal_back h) = goal_back (goal_renamed d E F ρ r h)
goal_renamed d E F ρ r (goal_then H h k) = goal_then (renamed ρ H) (goal_renamed d E F ρ r h) (goal_renamed d E F ρ r k)

-- what a closing makes, renamed: the terms that it gives are renamed
abbrev all_renamed : (ℕ → ℕ) → List ClauseFormula → List ClauseFormula
all_renamed ρ P = map (renamed_clause ρ) P

module _ (ρ : ℕ → ℕ) (change : Term → Term) (inside : GoesInside change same_type) (c z : Closing) (crosses : (t : Term) → closed z (change t) ≡ renamed ρ (closed c t)) where
  clause_crosses : (x : Clause) → closed z (formula_of_clause (map_clause (λ (u : ℕ). u) (λ u t. change t) same_type zero x)) ≡ renamed ρ (closed c (formula_of_clause x))
  clause_crosses x = ap (closed z) (clause_inside change same_type inside zero x) ∙ crosses (formula_of_clause x)

  clauses_cross : (cs : Clauses) → closed z (formula_of_clauses (map_clauses (λ (u : ℕ). u) (λ u t. change t) same_type zero cs)) ≡ renamed ρ (closed c (formula_of_clauses cs))
  clauses_cross cs = ap (closed z) (clauses_inside change same_type inside zero cs) ∙ crosses (formula_of_clauses cs)

  goals_cross : (gs : Goals) → closed z (formula_of_goals (map_goals (λ (u : ℕ). u) (λ u t. change t) same_type zero gs)) ≡ renamed ρ (closed c (formula_of_goals gs))
  goals_cross gs = ap (closed z) (goals_inside change same_type inside zero gs) ∙ crosses (formula_of_goals gs)

  assumed_cross : (xs : List Clause) → assumed_at z (map (map_clause (λ (u : ℕ). u) (λ u t. change t) same_type zero) xs) ≡ all_renamed ρ (assumed_at c xs)
  assumed_cross [] = refl
  assumed_cross (x ∷ xs) =
      (λ i. assumed_cross xs i ++ assumed (clause_crosses x i) ∷ []) ∙ sym (map-append (renamed_clause ρ) (assumed_at c xs) (assumed (closed c (formula_of_clause x)) ∷ []))

  listed_crosses : (cs : Clauses) → clause_list (map_clauses (λ (u : ℕ). u) (λ u t. change t) same_type zero cs) ≡ map (map_clause (λ (u : ℕ). u) (λ u t. change t) same_type zero) (clause_list cs)
  listed_crosses no_clauses = refl
  listed_crosses (clauses x cs) = ap (λ y. map_clause (λ (u : ℕ). u) (λ u t. change t) same_type zero x ∷ y) (listed_crosses cs)

-- a closing whose terms are renamed, for variables that stay
abbrev renamed_closing : (ℕ → ℕ) → Closing → Closing
renamed_closing ρ c = record { types = c.types; terms = λ x l. renamed ρ (c.terms x l) }

renamed_inside : (ρ : ℕ → ℕ) → GoesInside (renamed ρ) same_type
renamed_inside ρ = record { apps = λ t u. refl; abss = λ t. refl; constants = λ c ts. ap (λ z. atom (constant c z)) (sym (same_types ts)) }

closed_atom : (ρ : ℕ → ℕ) (c : Closing) (a : Atom) → at_variables (λ x l. renamed ρ (c.terms x l)) (renamed_atom ρ a) ≡ renamed ρ (at_variables c.terms a)
closed_atom ρ c (constant k ts) = refl
closed_atom ρ c (integer z) = refl
closed_atom ρ c (text s) = refl
closed_atom ρ c (eigen k) = refl
closed_atom ρ c (logic x l) = refl
closed_atom ρ c (param k T) = refl

closing_renamed : (ρ : ℕ → ℕ) (c : Closing) (t : Term) → closed (renamed_closing ρ c) (renamed ρ t) ≡ renamed ρ (closed c t)
closing_renamed ρ c t =
    let u = instance_term c.types t in
    ap (close (λ x l. renamed ρ (c.terms x l))) (sym (instance_renamed ρ c.types t)) ∙
    fill-fill (at_variables (λ x l. renamed ρ (c.terms x l))) (λ a. atom (renamed_atom ρ a)) (λ a. at_variables (λ x l. renamed ρ (c.terms x l)) (renamed_atom ρ a)) (λ a. refl) u ∙
    sym (fill-fill (λ a. atom (renamed_atom ρ a)) (at_variables c.terms) (λ a. at_variables (λ x l. renamed ρ (c.terms x l)) (renamed_atom ρ a)) (λ a. sym (closed_atom ρ c a)) u)

-- the same clauses
stands_renamed : (ρ : ℕ → ℕ) (Q R : List ClauseFormula) → Stands Q R → Stands (all_renamed ρ Q) (all_renamed ρ R)
stands_renamed ρ Q R s = record { at = λ i D e. let g = get_from_map (renamed_clause ρ) Q i D e in let h = s.at i g.0 g.1 in (h.0, get_map (renamed_clause ρ) R h.0 g.0 h.1 ∙ ap (λ z. Some z) (sym g.2)) }

around : (ρ : ℕ → ℕ) (Q B A : List ClauseFormula) (D : ClauseFormula) → Q ≡ B ++ D ∷ A → all_renamed ρ Q ≡ all_renamed ρ B ++ renamed_clause ρ D ∷ all_renamed ρ A
around ρ Q B A D e = ap (all_renamed ρ) e ∙ map-append (renamed_clause ρ) B (D ∷ A)

between : (ρ : ℕ → ℕ) (Q B M A : List ClauseFormula) → Q ≡ B ++ (M ++ A) → all_renamed ρ Q ≡ all_renamed ρ B ++ (all_renamed ρ M ++ all_renamed ρ A)
between ρ Q B M A e = ap (all_renamed ρ) e ∙ map-append (renamed_clause ρ) B (M ++ A) ∙ ap (λ z. all_renamed ρ B ++ z) (map-append (renamed_clause ρ) M A)

sentence_root : (d : Declared) (D : ClauseFormula) → IsSentence d D → IsRoot D.formula
sentence_root d D s = let f = s.instances (types_for D.type_vars) (long D.type_vars) (shut D.type_vars) in before_types (type_at (types_for D.type_vars)) D.formula (under_root d [] (instance_term (type_at (types_for D.type_vars)) D.formula) o_type f.typed)
  where
    types_for : ℕ → List Ty
    types_for zero = []
    types_for (suc n) = o_type ∷ types_for n

    long : (n : ℕ) → length (types_for n) ≡ n
    long zero = refl
    long (suc n) = ap suc (long n)

    shut : (n : ℕ) → AreClosed (types_for n)
    shut zero = tt
    shut (suc n) = (tt, shut n)

still_clause : (ρ : ℕ → ℕ) (D : ClauseFormula) → IsRoot D.formula → renamed_clause ρ D ≡ D
still_clause ρ D w = ap (λ t. record { type_vars = D.type_vars; formula = t }) (still ρ D.formula w)

still_sentences : (ρ : ℕ → ℕ) (d : Declared) (F : List ClauseFormula) → EachOf (IsSentence d) F → all_renamed ρ F ≡ F
still_sentences ρ d [] w = refl
still_sentences ρ d (D ∷ F) w = λ i. still_clause ρ D (sentence_root d D w.0) i ∷ still_sentences ρ d F w.1 i

sentence_formula : (c : Clause) → IsRoot (formula_of_clause c) → IsRoot (sentence_of c).formula
sentence_formula (clause k vs h b) w = w

still_listed : (ρ : ℕ → ℕ) (cs : List Clause) → EachOf (λ c. IsRoot (formula_of_clause c)) cs → all_renamed ρ (map sentence_of cs) ≡ map sentence_of cs
still_listed ρ [] w = refl
still_listed ρ (c ∷ cs) w = λ i. still_clause ρ (sentence_of c) (sentence_formula c w.0) i ∷ still_listed ρ cs w.1 i

flat_root : (d : Declared) (n : ℕ) (D : ClauseFormula) (cs : Clauses) → IsRoot D.formula → flatten n d D ≡ Some cs → EachOf (λ c. IsRoot (formula_of_clause c)) (clause_list cs)
flat_root d n D cs w e =
    let b = bind_is (beta_normal n D.formula) (λ t. option_map (with_type_vars D.type_vars) (flat_clause n d [] t [] [])) cs e in
    let f = map_is (flat_clause n d [] b.0 [] []) (with_type_vars D.type_vars) cs b.2 in
    let r = normal_root n D.formula b.0 b.1 w in
    transport (λ z. EachOf (λ c. IsRoot (formula_of_clause c)) (clause_list z)) f.2 (counted_roots D.type_vars f.0 (clauses_of IsRootAtom root_source d n [] b.0 f.0 f.1 r))
  where
    normal_root : (n : ℕ) (t s : Term) → beta_normal n t ≡ Some s → IsRoot t → IsRoot s
    normal_root n t s e w = atoms_reduces IsRootAtom (beta_reduces n t s e) w

    counted_roots : (k : ℕ) (cs : Clauses) → AreClausesOf IsRoot cs → EachOf (λ c. IsRoot (formula_of_clause c)) (clause_list (with_type_vars k cs))
    counted_roots k no_clauses w = tt
    counted_roots k (clauses (clause n vs h b) cs) w = (clause_root (clause k vs h b) w.0, counted_roots k cs w.1)

module _ (ρ : ℕ → ℕ) (o : Order) (d : Declared) (P : List Clause) (typed : EachOf (IsProgramTyped d) P) (E F : List Ty) (r : IsRenaming E F ρ) where
  program_roots : (cs : List Clause) → EachOf (IsProgramTyped d) cs → EachOf (λ c. IsRoot (formula_of_clause c)) cs
  program_roots [] w = tt
  program_roots (c ∷ cs) w = (program_root d c w.0, program_roots cs w.1)

  pub program_renamed : all_renamed ρ (map sentence_of P) ≡ map sentence_of P
  program_renamed = still_listed ρ P (program_roots P typed)

  pub clauses_renamed : {Q R : List ClauseFormula} → SameClauses o d P E Q R → SameClauses o d P F (all_renamed ρ Q) (all_renamed ρ R)
  clauses_renamed (unchanged e) = unchanged (ap (all_renamed ρ) e)
  clauses_renamed {Q} {R} (in_some_order a s t) = in_some_order a (stands_renamed ρ Q R s) (stands_renamed ρ R Q t)
  clauses_renamed {Q} {R} (converted B A D K f g p q v) =
      converted (all_renamed ρ B) (all_renamed ρ A) (renamed ρ D) (renamed ρ K) (renamed_formula d E F ρ r D f) (renamed_formula d E F ρ r K g) (around ρ Q B A (assumed D) p) (around ρ R B A (assumed K) q) (renamed_converts ρ D K v)
  clauses_renamed {Q} {R} (each_apart B A c cs f p q) =
      let e = clauses_cross ρ (renamed ρ) (renamed_inside ρ) c (renamed_closing ρ c) (closing_renamed ρ c) cs in
      let z = renamed_closing ρ c in
      let ks = map_clauses (λ (u : ℕ). u) (λ u t. renamed ρ t) same_type zero cs in
      let x : all_renamed ρ (assumed_at c (clause_list cs)) ≡ assumed_at z (clause_list ks) =
      sym (assumed_cross ρ (renamed ρ) (renamed_inside ρ) c z (closing_renamed ρ c) (clause_list cs)) ∙ ap (assumed_at z) (sym (listed_crosses ρ (renamed ρ) (renamed_inside ρ) c z (closing_renamed ρ c) cs)) in
      each_apart (all_renamed ρ B) (all_renamed ρ A) z ks (transport (IsFormula d F) (sym e) (renamed_formula d E F ρ r (closed c (formula_of_clauses cs)) f))
      (around ρ Q B A (assumed (closed c (formula_of_clauses cs))) p ∙ ap (λ y. all_renamed ρ B ++ assumed y ∷ all_renamed ρ A) (sym e))
      (between ρ R B (assumed_at c (clause_list cs)) A q ∙ ap (λ y. all_renamed ρ B ++ (y ++ all_renamed ρ A)) x)
  clauses_renamed {Q} {R} (clause_flat B A n bs t cs Γ θ v w e p q) =
      let k = open_root d Γ t _ v in
      clause_flat (all_renamed ρ B) (all_renamed ρ A) n bs t cs Γ (λ i. renamed ρ (θ i)) v (fits_renamed d E F Γ ρ r θ w) e
      (around ρ Q B A (assumed (instantiate θ t)) p ∙ ap (λ y. all_renamed ρ B ++ assumed y ∷ all_renamed ρ A) (root_filled ρ θ t k))
      (around ρ R B A (assumed (instantiate θ (formula_of_clauses cs))) q ∙ ap (λ y. all_renamed ρ B ++ assumed y ∷ all_renamed ρ A) (root_filled ρ θ (formula_of_clauses cs) (clause_root_flat d n bs t cs e k)))
  clauses_renamed {Q} {R} (program_flat G A k s e p q) =
      program_flat G (all_renamed ρ A) k s e (ap (all_renamed ρ) p ∙ map-append (renamed_clause ρ) G A ∙ ap (λ y. y ++ all_renamed ρ A) (still_sentences ρ d G s)) (ap (all_renamed ρ) q ∙ map-append (renamed_clause ρ) (map sentence_of P) A ∙ ap (λ y. y ++ all_renamed ρ A) program_renamed)
  clauses_renamed {Q} {R} (sentence_flat B A n D cs a s e p q) =
      sentence_flat (all_renamed ρ B) (all_renamed ρ A) n D cs a s e (around ρ Q B A D p ∙ ap (λ y. all_renamed ρ B ++ y ∷ all_renamed ρ A) (still_clause ρ D (sentence_root d D s)))
      (between ρ R B (map sentence_of (clause_list cs)) A q ∙ ap (λ y. all_renamed ρ B ++ (y ++ all_renamed ρ A)) (still_listed ρ (clause_list cs) (flat_root d n D cs (sentence_root d D s) e)))
  clauses_renamed (other_way h) = other_way (clauses_renamed h)
  clauses_renamed (one_by_one S h k) = one_by_one (all_renamed ρ S) (clauses_renamed h) (clauses_renamed k)

-- a failing search with further eigenconstants
abbrev pub widened_failure : Additions → Failure → Failure
widened_failure ads f = record {
  limit = f.limit;
  looks = f.looks;
  moves = f.moves;
  variables = widened_variables ads f.variables;
  next_type = f.next_type;
  goals = moved_goals (moving ads) f.goals;
  assumed = map (moved_clauses (moving ads)) f.assumed;
  written = moved_written (moving ads) f.written;
  program = f.program;
}

abbrev widened_closing : Additions → Closing → Closing
widened_closing ads c = record { types = c.types; terms = λ x l. renamed (moved_to ads) (c.terms x (narrower ads l)) }

moved_closed_atom : (ads : Additions) (c : Closing) (a : Atom) → at_variables (widened_closing ads c).terms (moved_atom (moving ads) a) ≡ renamed (moved_to ads) (at_variables c.terms a)
moved_closed_atom ads c (constant k ts) = refl
moved_closed_atom ads c (integer z) = refl
moved_closed_atom ads c (text s) = refl
moved_closed_atom ads c (eigen k) = refl
moved_closed_atom ads c (logic x l) = ap (λ k. renamed (moved_to ads) (c.terms x k)) (there_and_back ads l)
moved_closed_atom ads c (param k T) = refl

closing_widened : (ads : Additions) (c : Closing) (t : Term) → closed (widened_closing ads c) (moved (moving ads) t) ≡ renamed (moved_to ads) (closed c t)
closing_widened ads c t =
    let u = instance_term c.types t in
    let z = widened_closing ads c in
    ap (close z.terms) (instance_moved (moving ads) c.types t) ∙
    fill-fill (at_variables z.terms) (moved_by (moving ads)) (λ a. at_variables z.terms (moved_atom (moving ads) a)) (λ a. refl) u ∙
    sym (fill-fill (λ a. atom (renamed_atom (moved_to ads) a)) (at_variables c.terms) (λ a. at_variables z.terms (moved_atom (moving ads) a)) (λ a. sym (moved_closed_atom ads c a)) u)

closes_widened : (d : Declared) (ads : Additions) → HaveClosedTypes ads → (V : List Variable) (c : Closing) → Closes d V c → Closes d (widened_variables ads V) (widened_closing ads c)
closes_widened d ads k V c h = record {
  types = h.types;
  terms = λ x w e.
      let g = get_from_map (widened_variable ads) V x w e in
      let v = g.0 in
      let E = map (instance c.types) v.scope in
      let r = renamed_witness d E (widened ads E) (moved_to ads) (renaming ads E) (c.terms x (length v.scope)) (instance c.types v.type) (h.terms x v g.1) in
      let s : narrower ads (length (widened ads v.scope)) ≡ length v.scope = ap (narrower ads) (widened_length ads v.scope) ∙ there_and_back ads (length v.scope) in
      let a = transport (λ z. IsWitness d z (renamed (moved_to ads) (c.terms x (length v.scope))) (instance c.types v.type)) (sym (widened_instance c.types ads k v.scope)) r in
      let b = transport (λ n. IsWitness d (map (instance c.types) (widened ads v.scope)) (renamed (moved_to ads) (c.terms x n)) (instance c.types v.type)) (sym s) a in
      transport (λ y. IsWitness d (map (instance c.types) y.scope) ((widened_closing ads c).terms x (length y.scope)) (instance c.types y.type)) (sym g.2) b;
}

newest_moved : (m : Moving) (css : List Clauses) → newest_first (map (moved_clauses m) css) ≡ map (moved_clause m) (newest_first css)
newest_moved m [] = refl
newest_moved m (cs ∷ css) = (λ i. newest_moved m css i ++ clauses_listed m cs i) ∙ sym (map-append (moved_clause m) (newest_first css) (clause_list cs))

entries_same : (ads : Additions) (E : List Ty) (f : Failure) → (failing_branch (length (widened ads E)) (widened_failure ads f)).goals ≡ moved_entries (moving ads) (failing_branch (length E) f).goals
entries_same ads E f =
    (λ i. entries (goal_list (moved_goals (moving ads) f.goals)) (newest_moved (moving ads) f.assumed i) (moved_written (moving ads) f.written) (widened_length ads E i) 0) ∙ entries_moved (moving ads) f.goals (newest_first f.assumed) f.written (length E) 0

branch_same : (ads : Additions) (E : List Ty) (f : Failure) → failing_branch (length (widened ads E)) (widened_failure ads f) ≡ moved_branch (moving ads) (failing_branch (length E) f)
branch_same ads E f = λ i. record { next = length-map f.variables (widened_variable ads) i; next_type = f.next_type; goals = entries_same ads E f i; types = []; values = []; pairs = [] }

eigens_same : (ads : Additions) (E : List Ty) (gs : Goals) → map (λ g. widened ads E) (goal_list (moved_goals (moving ads) gs)) ≡ map (widened ads) (map (λ g. E) (goal_list gs))
eigens_same ads E gs = ap (map (λ g. widened ads E)) (goals_listed (moving ads) gs) ∙ go (goal_list gs)
  where
    go : (gs : List Goal) → map (λ g. widened ads E) (map (moved_goal (moving ads)) gs) ≡ map (widened ads) (map (λ g. E) gs)
    go [] = refl
    go (g ∷ gs) = ap (λ z. widened ads E ∷ z) (go gs)

begins_widened : (n : ℕ) (d : Declared) (ads : Additions) → HaveClosedTypes ads → (E : List Ty) (f : Failure) → IsTypedBranch n d no_query
    (failing_typing E f) (failing_branch (length E) f) → IsTypedBranch n d no_query (failing_typing (widened ads E) (widened_failure ads f))
    (failing_branch (length (widened ads E)) (widened_failure ads f))
begins_widened n d ads k E f b =
    let V = widened_variables ads f.variables in
    let Es = map (λ g. E) (goal_list f.goals) in
    let x = entries_typed ads d f.variables Es (failing_branch (length E) f).goals b.entries in
    let y = entries_plain ads f.next_type k Es (failing_branch (length E) f).goals b.goals in
    record {
      answer = record { variables = refl; types = refl; values = tt; pairs = tt };
      entries = transport (λ z. AreTypedEntries d V z (failing_branch (length (widened ads E)) (widened_failure ads f)).goals) (sym (eigens_same ads E f.goals)) (transport (AreTypedEntries d V (map (widened ads) Es)) (sym (entries_same ads E f)) x);
      variables = variables_widened ads f.next_type k f.variables b.variables;
      types = tt;
      values = tt;
      pairs = tt;
      goals = transport (λ z. ArePlainEntries f.next_type z (failing_branch (length (widened ads E)) (widened_failure ads f)).goals) (sym (eigens_same ads E f.goals)) (transport (ArePlainEntries f.next_type (map (widened ads) Es)) (sym (entries_same ads E f)) y);
      written = transport (EachOf IsWrittenEntry) (sym (entries_same ads E f)) (entries_written (moving ads) (failing_branch (length E) f).goals b.written);
      stuck = tt;
    }

run_widened : (d : Declared) (P : List Clause) → EachOf (IsProgramTyped d) P → (ads : Additions) (E : List Ty) (f : Failure) → f.program ≡ P → olds ads ≤ length E →
    failed_run (length (widened ads E)) (widened_failure ads f) ≡ moved_told (moved_to ads) (moved_task (moving ads)) (moved_answer (moving ads)) (IsHighTask (olds ads)) (failed_run (length E) f)
run_widened d P w ads E f p l =
    let m = moving ads in
    let s = transport (λ Q. map (moved_clause m) Q ≡ Q) (sym p) (program_stays m d P w) in
    ap (λ b. run (look unit_limit f.looks f.program) f.moves f.moves (starts_within f.limit (Go b) f.limit 1)) (branch_same ads E f) ∙
    run_moved (moved_to ads) (moved_task m) (moved_answer m) (IsHighTask (olds ads)) (look unit_limit f.looks f.program)
    (λ height t h. look_moved m unit_limit f.looks f.program s height t h) (λ height t h. look_stays m unit_limit f.looks f.program s height t h)
    f.moves f.moves (starts_within f.limit (Go (failing_branch (length E) f)) f.limit 1)
    (record { goals = high_entries (olds ads) (length E) l (goal_list f.goals) (newest_first f.assumed) f.written 0; pairs = tt }, tt)

pub failed_widened : (o : Order) (d : Declared) (P : List Clause) → EachOf (IsProgramTyped d) P → (ads : Additions) → HaveClosedTypes ads → (E : List Ty) → olds ads ≤ length E → (R : List ClauseFormula) (G : Term) (f : Failure) → IsFailedSearch o d P E R G f →
    IsFailedSearch o d P (widened ads E) (map (renamed_clause (moved_to ads)) R) (renamed (moved_to ads) G) (widened_failure ads f)
failed_widened o d P w ads k E l R G f h =
    let m = moving ads in
    let ρ = moved_to ads in
    let c = h.closing in
    let z = widened_closing ads c in
    let n : length h.eigens ≡ length E = sym (length-map h.eigens (instance c.types)) ∙ ap length h.is_closed in
    let e = run_widened d P w ads h.eigens f h.program (transport (λ j. olds ads ≤ j) (sym n) l) in
    let a : assumed_at z (newest_first (widened_failure ads f).assumed) ≡ all_renamed ρ (assumed_at c (newest_first f.assumed)) = ap (assumed_at z) (newest_moved m f.assumed) ∙ assumed_cross ρ (moved m) (moves_inside m) c z (closing_widened ads c) (newest_first f.assumed) in
    let x : all_renamed ρ (clauses_at P (newest_first f.assumed) c) ≡ clauses_at P (newest_first (widened_failure ads f).assumed) z =
    map-append (renamed_clause ρ) (map sentence_of P) (assumed_at c (newest_first f.assumed)) ∙ (λ i. program_renamed ρ o d P w E (widened ads E) (renaming ads E) i ++ sym a i) in
    record {
      eigens = widened ads h.eigens;
      begins = begins_widened f.looks d ads k h.eigens f h.begins;
      closing = z;
      closes = closes_widened d ads k f.variables c h.closes;
      is_closed = widened_instance c.types ads k h.eigens ∙ ap (widened ads) h.is_closed;
      goal = transport (λ t. SameGoal d (widened ads E) t (renamed ρ G)) (sym (goals_cross ρ (moved m) (moves_inside m) c z (closing_widened ads c) f.goals)) (goal_renamed d E (widened ads E) ρ (renaming ads E) h.goal);
      clauses = transport (λ Q. SameClauses o d P (widened ads E) Q (all_renamed ρ R)) x (clauses_renamed ρ o d P w E (widened ads E) (renaming ads E) h.clauses);
      program = h.program;
      ends = ap (λ t. t.ending) e ∙ h.ends;
      gives_none = ap (λ t. t.answers) e ∙ ap (map (moved_answer m)) h.gives_none;
    }
