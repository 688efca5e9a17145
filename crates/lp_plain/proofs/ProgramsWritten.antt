-- Clauses of a program that are typed over their type variables, and name no parameter, are written as in a program: constants have as many types as they take.
use Rattle.std.proofs.Common.{◌≡◌, Bool, true, false, ℕ, zero, suc, ◌+◌, List, [], ◌∷◌, ◌++◌, map, length, refl, sym, ap, subst, arith, Option, None, Some, nat_eq}
use Rattle.std.specs.Prelude.{if◌then◌else◌, slice_get, slice_index_or}
use Rattle.lp_calculus.specs.Closed.{AllAtoms}
use Rattle.lp_calculus.specs.Fill.{Within}
use Rattle.lp_calculus.specs.Spine.{head_of}
use Rattle.lp_calculus.specs.Types.{Ty}
use Rattle.lp_calculus.specs.Term.{Term, Atom, index, atom, abs, app, constant, integer, text, eigen, logic, param}
use Rattle.lp_calculus.specs.Typing.{Scheme, atom_type, o_type, scheme_type}
use Rattle.lp_model.specs.Answers.{over}
use Rattle.lp_standard.specs.Connectives.{pi_of, two}
use Rattle.lp_standard.specs.Numbers as number
use Rattle.lp_model.specs.Flat.{Goal, Atomic, Cut, Either, Exists, Forall, Assume, Not, Goals, no_goals, goals, Clause, clause, Clauses, no_clauses, clauses, all_of, formula_of_clause, formula_of_clauses, formula_of_goal, formula_of_goals}
use Rattle.lp_model.specs.Proofs.{Declared}
use Rattle.lp_proof_laws.specs.Terms.{AreClausesOf, AreTermsOf, IsClauseOf, IsTermOf}
use Rattle.lp_unify_laws.proofs.Sames.{same_number}
use Rattle.lp_unify_laws.proofs.TypedBindings.{HasAtomType, typed_atoms}
use Rattle.lp_search_laws.specs.Branches.{AreClauses, AreGoals, IsClause, IsClauseHead, IsGoal, IsPlainAtom, IsPlainTerm, IsProgramTyped}
use Rattle.lp_search_laws.specs.Clauses.{own_types}
use Rattle.lp_plain.specs.ProgramClauses.{arity_in, count_of, IsNamedAtom}
use Rattle.lp_plain.specs.Written.{IsWritten, WrittenAtom}
use Rattle.lp_plain.specs.WrittenGoals.{HasNoTypes, ClausesWritten, ClauseWritten, GoalWritten, GoalsWritten, IsProgramClause}
use Rattle.lp_plain.specs.WrittenTable.{IsWrittenHead, own_and}
use Rattle.lp_plain.proofs.ProgramTypes.{tys_of_goals, list_below}
use Rattle.lp_plain.proofs.TableWritten.{own_many}
use Rattle.lp_plain.proofs.TryWritten.{own_back}

-- lists of binders
own_is : (vs : List Ty) (bs : List Bool) → map (λ v. false) vs ++ bs ≡ own_and (length vs) bs
own_is [] bs = refl
own_is (v ∷ vs) bs = ap (λ cs. false ∷ cs) (own_is vs bs)

got_true : (bs : List Bool) (i : ℕ) → slice_index_or bs i false ≡ true → slice_get bs i ≡ Some true
got_true [] i e = absurd (cc)
got_true (b ∷ bs) zero e = ap (λ x. Some x) e
got_true (b ∷ bs) (suc i) e = got_true bs i e

head_within : (P : Atom → Type 0) (d : ℕ) (t : Term) → Within P d t → Within P d (head_of t)
head_within P d (index i) w = w
head_within P d (atom a) w = w
head_within P d (abs b) w = w
head_within P d (app f t) w = head_within P d f w.0

all_within : (P : Atom → Type 0) (d : ℕ) (vs : List Ty) (t : Term) → Within P d (all_of vs t) → Within P (length vs + d) t
all_within P d [] t w = subst (λ n. Within P n t) (let z : d ≡ 0 + d = omega arith in z) w
all_within P d (T ∷ vs) t w =
    subst (λ n. Within P n t) (let z : suc (length vs + d) ≡ suc (length vs) + d = omega arith in z) (all_within P d vs (pi_of T (abs t)) w).1

-- a constant that has a type has as many types as it takes
pub types_many : (d : Declared) (c : ℕ) (ts : List Ty) (T : Ty) → scheme_type ts (d c) ≡ Some T → length ts ≡ arity_in d c
types_many d c ts T w = by (d c) w
  where
    same : (b : Bool) (n m : ℕ) (x y : Ty) → nat_eq n m ≡ b → (if b then Some x else None) ≡ Some y → n ≡ m
    same true n m x y e h = same_number n m e
    same false n m x y e h = absurd (cc)

    by : (o : Option Scheme) → scheme_type ts o ≡ Some T → length ts ≡ count_of o
    by None e = absurd (cc)
    by (Some s) e = same (nat_eq (length ts) s.count) (length ts) s.count _ T refl e

-- of atoms that have types: constants have as many as they take, and no eigenconstant and no variable has one
module _ (d : Declared) (typed : Atom → Type 0) (many : (c : ℕ) (ts : List Ty) → typed (constant c ts) → length ts ≡ arity_in d c) (none : (k : ℕ) → typed (eigen k) → ⊥) where
  atom_written : (k : ℕ) (a : Atom) → typed a → IsPlainAtom k a → IsNamedAtom a → WrittenAtom (arity_in d) k a
  atom_written k (constant c ts) w p n = (many c ts w, list_below k ts p.1)
  atom_written k (integer z) w p n = tt
  atom_written k (text s) w p n = tt
  atom_written k (eigen j) w p n = absurd (none j w)
  atom_written k (logic x l) w p n = absurd n
  atom_written k (param j T) w p n = absurd n

  term_written : (k m : ℕ) (t : Term) → Within typed m t → IsPlainTerm k t → AllAtoms IsNamedAtom t → IsWritten (arity_in d) k m t
  term_written k m (index i) w p n = w
  term_written k m (atom a) w p n = atom_written k a w p n
  term_written k m (abs b) w p n = term_written k (suc m) b w p n
  term_written k m (app f t) w p n = (term_written k m f w.0 p.0 n.0, term_written k m t w.1 p.1 n.1)

  head_written : (k n : ℕ) (vs : List Ty) (bs : List Bool) (h : Term) → IsClauseHead (map (λ v. false) vs ++ bs) h → IsWritten (arity_in d) k
      (length vs + length bs) h → IsWrittenHead (arity_in d) k (length vs) bs h
  head_written k n vs bs (index i) c w = own_back (length vs) bs i (got_true (own_and (length vs) bs) i (subst (λ cs. slice_index_or cs i false ≡ true) (own_is vs bs) c))
  head_written k n vs bs (atom (constant c ts)) h w = w
  head_written k n vs bs (atom (integer z)) h w = absurd h
  head_written k n vs bs (atom (text s)) h w = absurd h
  head_written k n vs bs (atom (eigen j)) h w = absurd w
  head_written k n vs bs (atom (logic x l)) h w = absurd h
  head_written k n vs bs (atom (param j T)) h w = absurd h
  head_written k n vs bs (abs b) h w = absurd h
  head_written k n vs bs (app f t) h w = absurd h

  no_types_of : (c : Clause) → own_types c ≡ 0 → HasNoTypes c
  no_types_of (clause n vs h b) e = e

  module _ (k : ℕ) where
    mutual
      goal_written : (bs : List Bool) (g : Goal) → Within typed (length bs) (formula_of_goal g) → IsGoal k bs g → IsTermOf (AllAtoms IsNamedAtom) g → GoalWritten (arity_in d) k bs g
      goal_written bs (Atomic t) w f n = term_written k (length bs) t w f n
      goal_written bs Cut w f n = tt
      goal_written bs (Either gs hs) w f n = (goals_written bs gs w.0.1 f.0 n.0, goals_written bs hs w.1 f.1 n.1)
      goal_written bs (Exists T gs) w f n = goals_written (false ∷ bs) gs w.1 f.1 n
      goal_written bs (Forall T gs) w f n = goals_written (true ∷ bs) gs w.1 f.1 n
      goal_written bs (Assume v cs gs) w f n = (clauses_written bs cs w.0.1 f.0 n.1, goals_written bs gs w.1 f.1 n.2)
      goal_written bs (Not v gs) w f n = goals_written bs gs w.1 f n.1

      pub goals_written : (bs : List Bool) (gs : Goals) → Within typed (length bs) (formula_of_goals gs) → AreGoals k bs gs → AreTermsOf (AllAtoms IsNamedAtom) gs → GoalsWritten (arity_in d) k bs gs
      goals_written bs no_goals w f n = tt
      goals_written bs (goals g no_goals) w f n = (goal_written bs g w f.0 n.0, tt)
      goals_written bs (goals g (goals h gs)) w f n = (goal_written bs g w.0.1 f.0 n.0, goals_written bs (goals h gs) w.1 f.1 n.1)

      pub clause_written : (bs : List Bool) (c : Clause) → Within typed (length bs) (formula_of_clause c) → IsClause k bs c → IsClauseOf (AllAtoms IsNamedAtom) c → ClauseWritten (arity_in d) k bs c
      clause_written bs (clause n vs h no_goals) w f x =
          let wh = term_written k (length vs + length bs) h (all_within typed (length bs) vs h w) f.2 x.0 in
          (head_written k n vs bs (head_of h) f.1 (head_within (WrittenAtom (arity_in d) k) (length vs + length bs) h wh), wh, tt)
      clause_written bs (clause n vs h (goals g gs)) w f x =
          let a = all_within typed (length bs) vs (two number.Implies [] (formula_of_goals (goals g gs)) h) w in
          let wh = term_written k (length vs + length bs) h a.1 f.2 x.0 in
          let own = own_and (length vs) bs in (
            head_written k n vs bs (head_of h) f.1 (head_within (WrittenAtom (arity_in d) k) (length vs + length bs) h wh),
            wh,
            goals_written own (goals g gs) (subst (λ m. Within typed m (formula_of_goals (goals g gs))) (sym (own_many (length vs) bs)) a.0.1)
                (subst (λ cs. AreGoals k cs (goals g gs)) (own_is vs bs) f.3) x.1,
          )

      clauses_written : (bs : List Bool) (cs : Clauses) → Within typed (length bs) (formula_of_clauses cs) → AreClauses k bs cs → AreClausesOf
          (AllAtoms IsNamedAtom) cs → ClausesWritten (arity_in d) k bs cs
      clauses_written bs no_clauses w f n = tt
      clauses_written bs (clauses c no_clauses) w f n = (no_types_of c f.0, clause_written bs c w f.1 n.0, tt)
      clauses_written bs (clauses c (clauses e cs)) w f n = (no_types_of c f.0, clause_written bs c w.0.1 f.1 n.0, clauses_written bs (clauses e cs) w.1 f.2 n.1)

-- a typed clause of a program
pub program_clause : (d : Declared) (c : Clause) → IsProgramTyped d c → IsClauseOf (AllAtoms IsNamedAtom) c → IsProgramClause (arity_in d) c
program_clause d (clause n vs h b) x a = (
  clause_written d (HasAtomType (atom_type (over d [] []))) (λ c ts w. types_many d c ts w.0 w.1) none n [] (clause n vs h b)
      (typed_atoms (atom_type (over d [] [])) [] (formula_of_clause (clause n vs h b)) o_type x.typed.typed) x.form a,
  tys_of_goals n _ b x.form.3 x.written,
)
  where
    none : (k : ℕ) → HasAtomType (atom_type (over d [] [])) (eigen k) → ⊥
    none zero w = (let e = w.1 in cc)
    none (suc k) w = (let e = w.1 in cc)
