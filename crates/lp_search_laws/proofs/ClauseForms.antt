-- Clauses of typed programs and branches are what the laws of candidates speak of: their heads are atoms, types for other type variables change
-- nothing in them, and they are formulas under a closing.
use Rattle.std.proofs.Common.{◌≡◌, ℕ, zero, suc, ◌<◌, List, [], ◌∷◌, ◌++◌, map, ◌∙◌, refl, sym, ap, subst as transport, Bool, true, false}
use Rattle.std.specs.Prelude.{slice_index_or}
use Rattle.lp_unify_laws.specs.TypesBelow.{IsTypeBelow, AreTysBelow, AreTypesBelow}
use Rattle.lp_calculus.specs.Types.{Ty, Tys, var, param as type_param, con, arrow, no_types, types, instance, instances}
use Rattle.lp_calculus.specs.Term.{Term, Atom, index, atom, abs, app, shift, constant, integer, text, eigen, logic, param}
use Rattle.lp_calculus.specs.Fill.{fill, raise, at_variables}
use Rattle.lp_calculus.specs.Instance.{instance_atom, instance_term}
use Rattle.lp_calculus.specs.Typing.{type_at, o_type}
use Rattle.lp_calculus.specs.Closed.{IsClosedType, AreClosed, AllAtoms}
use Rattle.lp_calculus.proofs.Eta.{app_same}
use Rattle.lp_calculus.specs.Spine.{head_of}
use Rattle.lp_lemmas.specs.Each.{EachOf}
use Rattle.lp_model.specs.Pair.{Closing}
use Rattle.lp_standard.specs.Connectives.{two, pi_of}
use Rattle.lp_model.specs.Flat.{Goal, Atomic, Cut, Either, Exists, Forall, Assume, Not, Goals, no_goals, goals, Clause, clause, Clauses, no_clauses, clauses, all_of, formula_of_goal, formula_of_goals, formula_of_clause, formula_of_clauses}
use Rattle.lp_model.specs.Proofs.{Declared, IsFormula, IsAtomHead}
use Rattle.lp_model.specs.Answers.{Variable, Closes}
use Rattle.lp_search_laws.specs.Holds.{IsTyped}
use Rattle.lp_search_laws.specs.Branches.{IsPlainAtom, IsClauseHead, IsGoal, AreGoals, IsClause, AreClauses, IsAssumable, IsProgramTyped}
use Rattle.lp_search_laws.specs.Clauses.{IsProgramClause, IsAssumedClause}
use Rattle.lp_search_laws.proofs.Formed.{formula_at}

-- type variables below k
abbrev HasTypesBelow : ℕ → Atom → Type 0
HasTypesBelow k (constant c ts) = AreTypesBelow k ts
HasTypesBelow k (integer z) = Unit {0}
HasTypesBelow k (text s) = Unit {0}
HasTypesBelow k (eigen n) = Unit {0}
HasTypesBelow k (logic x l) = Unit {0}
HasTypesBelow k (param n T) = IsTypeBelow k T

plain_atom : (k : ℕ) (a : Atom) → IsPlainAtom k a → HasTypesBelow k a
plain_atom k (constant c ts) h = h.1
plain_atom k (integer z) h = tt
plain_atom k (text s) h = tt
plain_atom k (eigen n) h = tt
plain_atom k (logic x l) h = tt
plain_atom k (param n T) h = h

plain_types : (k : ℕ) (t : Term) → AllAtoms (IsPlainAtom k) t → AllAtoms (HasTypesBelow k) t
plain_types k (index i) h = tt
plain_types k (atom a) h = plain_atom k a h
plain_types k (abs b) h = plain_types k b h
plain_types k (app t u) h = (plain_types k t h.0, plain_types k u h.1)

all_types : (k : ℕ) (vs : List Ty) (t : Term) → AreTypesBelow k vs → AllAtoms (HasTypesBelow k) t → AllAtoms (HasTypesBelow k) (all_of vs t)
all_types k [] t v h = h
all_types k (T ∷ vs) t v h = all_types k vs (pi_of T (abs t)) v.1 ((v.0, tt), h)

mutual
  goal_types : (k : ℕ) (B : List Bool) (g : Goal) → IsGoal k B g → AllAtoms (HasTypesBelow k) (formula_of_goal g)
  goal_types k B (Atomic t) h = plain_types k t h
  goal_types k B Cut h = tt
  goal_types k B (Either gs hs) h = ((tt, goals_types k B gs h.0), goals_types k B hs h.1)
  goal_types k B (Exists T gs) h = ((h.0, tt), goals_types k (false ∷ B) gs h.1)
  goal_types k B (Forall T gs) h = ((h.0, tt), goals_types k (true ∷ B) gs h.1)
  goal_types k B (Assume ws cs gs) h = ((tt, clauses_types k B cs h.0), goals_types k B gs h.1)
  goal_types k B (Not ws gs) h = (tt, goals_types k B gs h)

  goals_types : (k : ℕ) (B : List Bool) (gs : Goals) → AreGoals k B gs → AllAtoms (HasTypesBelow k) (formula_of_goals gs)
  goals_types k B no_goals h = tt
  goals_types k B (goals g no_goals) h = goal_types k B g h.0
  goals_types k B (goals g (goals f gs)) h = ((tt, goal_types k B g h.0), goals_types k B (goals f gs) h.1)

  clause_types : (k : ℕ) (B : List Bool) (c : Clause) → IsClause k B c → AllAtoms (HasTypesBelow k) (formula_of_clause c)
  clause_types k B (clause n vs h no_goals) i = all_types k vs h i.0 (plain_types k h i.2)
  clause_types k B (clause n vs h (goals g gs)) i =
      all_types k vs (two 2 [] (formula_of_goals (goals g gs)) h) i.0 ((tt, goals_types k (map (λ v. false) vs ++ B) (goals g gs) i.3), plain_types k h i.2)

  clauses_types : (k : ℕ) (B : List Bool) (cs : Clauses) → AreClauses k B cs → AllAtoms (HasTypesBelow k) (formula_of_clauses cs)
  clauses_types k B no_clauses h = tt
  clauses_types k B (clauses c no_clauses) h = clause_types k B c h.1
  clauses_types k B (clauses c (clauses e cs)) h = ((tt, clause_types k B c h.1), clauses_types k B (clauses e cs) h.2)

-- types that agree below k
module _ (k : ℕ) (θ κ : ℕ → Ty) (same_at : (i : ℕ) → i < k → θ i ≡ κ i) where
  mutual
    type_agrees : (T : Ty) → IsTypeBelow k T → instance θ T ≡ instance κ T
    type_agrees (var i) h = same_at i h
    type_agrees (type_param n) h = refl
    type_agrees (con c ts) h = ap (con c) (types_agree ts h)
    type_agrees (arrow a b) h = let e = type_agrees a h.0 in let f = type_agrees b h.1 in λ i. arrow (e i) (f i)

    types_agree : (ts : Tys) → AreTysBelow k ts → instances θ ts ≡ instances κ ts
    types_agree no_types h = refl
    types_agree (types t ts) h = let e = type_agrees t h.0 in let f = types_agree ts h.1 in λ i. types (e i) (f i)

  list_agrees : (ts : List Ty) → AreTypesBelow k ts → map (instance θ) ts ≡ map (instance κ) ts
  list_agrees [] h = refl
  list_agrees (t ∷ ts) h = let e = type_agrees t h.0 in let f = list_agrees ts h.1 in λ i. e i ∷ f i

  atom_agrees : (a : Atom) → HasTypesBelow k a → instance_atom θ a ≡ instance_atom κ a
  atom_agrees (constant c ts) h = ap (constant c) (list_agrees ts h)
  atom_agrees (integer z) h = refl
  atom_agrees (text s) h = refl
  atom_agrees (eigen n) h = refl
  atom_agrees (logic x l) h = refl
  atom_agrees (param n T) h = ap (param n) (type_agrees T h)

  term_agrees : (t : Term) → AllAtoms (HasTypesBelow k) t → instance_term θ t ≡ instance_term κ t
  term_agrees (index i) h = refl
  term_agrees (atom a) h = ap atom (atom_agrees a h)
  term_agrees (abs b) h = ap abs (term_agrees b h)
  term_agrees (app t u) h = app_same (term_agrees t h.0) (term_agrees u h.1)

-- no variable of a clause is at its head
pub no_binder : (vs : List Ty) (i : ℕ) → slice_index_or (map (λ v. false) vs ++ []) i false ≡ false
no_binder [] i = refl
no_binder (v ∷ vs) zero = refl
no_binder (v ∷ vs) (suc i) = no_binder vs i

atom_head : (vs : List Ty) (h : Term) → IsClauseHead (map (λ v. false) vs ++ []) h → IsAtomHead h
atom_head vs (index i) k = let e = sym (no_binder vs i) ∙ k in absurd (cc)
atom_head vs (atom (constant c ts)) k = k
atom_head vs (atom (eigen n)) k = tt
atom_head vs (atom (integer z)) k = absurd k
atom_head vs (atom (text s)) k = absurd k
atom_head vs (atom (logic x l)) k = absurd k
atom_head vs (atom (param n T)) k = absurd k
atom_head vs (abs b) k = absurd k
atom_head vs (app t u) k = absurd k

-- each variable by itself
filled_itself : (f : Atom → Term) → ((a : Atom) → f a ≡ atom a) → (t : Term) → fill f t ≡ t
filled_itself f h (index i) = refl
filled_itself f h (atom a) = h a
filled_itself f h (abs b) = ap abs (filled_itself (raise f) (λ a. ap (shift 0 1) (h a)) b)
filled_itself f h (app t u) = app_same (filled_itself f h t) (filled_itself f h u)

variable_itself : (a : Atom) → at_variables (λ x l. atom (logic x l)) a ≡ atom a
variable_itself (constant c ts) = refl
variable_itself (integer z) = refl
variable_itself (text s) = refl
variable_itself (eigen n) = refl
variable_itself (logic x l) = refl
variable_itself (param n T) = refl

closed_at : (ts : List Ty) → AreClosed ts → (i : ℕ) → IsClosedType (type_at ts i)
closed_at [] h i = tt
closed_at (t ∷ ts) h zero = h.0
closed_at (t ∷ ts) h (suc i) = closed_at ts h.1 i

typed_sentence : (d : Declared) (t : Term) → IsTyped d [] [] t o_type → (ts : List Ty) → AreClosed ts → IsFormula d [] (instance_term (type_at ts) t)
typed_sentence d t h ts k =
    let c : Closing = record { types = type_at ts; terms = λ x l. atom (logic x l) } in
    let w : Closes d [] c = record { types = closed_at ts k; terms = λ x v e. absurd (cc) } in
    transport (IsFormula d []) (filled_itself (at_variables c.terms) variable_itself (instance_term (type_at ts) t)) (formula_at d [] c w [] t h)

pub program_clause : (d : Declared) (x : Clause) → IsProgramTyped d x → IsProgramClause d x
program_clause d (clause k vs h b) p = record {
  head = atom_head vs (head_of h) p.form.1;
  sentence = record { instances = λ ts l t. typed_sentence d (formula_of_clause (clause k vs h b)) p.typed ts t };
  own = λ θ κ e. term_agrees k θ κ e (formula_of_clause (clause k vs h b)) (clause_types k [] (clause k vs h b) p.form);
}

pub program_clauses : (d : Declared) (P : List Clause) → EachOf (IsProgramTyped d) P → EachOf (IsProgramClause d) P
program_clauses d [] h = tt
program_clauses d (x ∷ P) h = (program_clause d x h.0, program_clauses d P h.1)

assumed_clause : (d : Declared) (V : List Variable) (E : List Ty) (c : Closing) → Closes d V c → (k : ℕ) (x : Clause) → IsTyped d E V (formula_of_clause x) o_type → IsAssumable k x → IsAssumedClause d (map (instance c.types) E) c x
assumed_clause d V E c w k (clause n vs h b) t a = record { head = atom_head vs (head_of h) a.1.1; none_own = a.0; formula = formula_at d V c w E (formula_of_clause (clause n vs h b)) t }

pub assumed_clauses : (d : Declared) (V : List Variable) (E : List Ty) (c : Closing) → Closes d V c → (k : ℕ) (A : List Clause) → EachOf (λ x. IsTyped d E V (formula_of_clause x) o_type) A → EachOf (IsAssumable k) A → EachOf (IsAssumedClause d (map (instance c.types) E) c) A
assumed_clauses d V E c w k [] t a = tt
assumed_clauses d V E c w k (x ∷ A) t a = (assumed_clause d V E c w k x t.0 a.0, assumed_clauses d V E c w k A t.1 a.1)
