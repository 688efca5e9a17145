-- What is plain over some type variables is plain over more.
use Rattle.std.proofs.Common.{ℕ, ◌≤◌, List, [], ◌∷◌, ◌++◌, map, arith, Bool, true, false}
use Rattle.lp_unify_laws.specs.TypesBelow.{IsTypeBelow, AreTysBelow, AreTypesBelow}
use Rattle.lp_calculus.specs.Types.{Ty, Tys, var, param as type_param, con, arrow, no_types, types}
use Rattle.lp_calculus.specs.Term.{Term, Atom, constant, integer, text, eigen, logic, param}
use Rattle.lp_lemmas.specs.Each.{EachOf}
use Rattle.lp_model.specs.Pair.{Pair}
use Rattle.lp_model.specs.Flat.{Goal, Atomic, Cut, Either, Exists, Forall, Assume, Not, Goals, no_goals, goals, Clause, clause, Clauses, no_clauses, clauses}
use Rattle.lp_model.specs.Branch.{Entry}
use Rattle.lp_model.specs.Answers.{Variable}
use Rattle.lp_search_laws.specs.Branches.{IsPlainAtom, IsPlainTerm, IsGoal, AreGoals, IsClause, AreClauses, IsAssumable, IsPlainVariable, IsPlainPair, ArePlainEntries}
use Rattle.lp_search_laws.proofs.PlainTypes.{atoms_map}

module _ (k j : ℕ) (l : k ≤ j) where
  mutual
    pub type_more : (T : Ty) → IsTypeBelow k T → IsTypeBelow j T
    type_more (var i) h = omega (h, l, arith)
    type_more (type_param n) h = tt
    type_more (con c ts) h = types_in_more ts h
    type_more (arrow a b) h = (type_more a h.0, type_more b h.1)

    types_in_more : (ts : Tys) → AreTysBelow k ts → AreTysBelow j ts
    types_in_more no_types h = tt
    types_in_more (types t ts) h = (type_more t h.0, types_in_more ts h.1)

  pub types_more : (ts : List Ty) → AreTypesBelow k ts → AreTypesBelow j ts
  types_more [] h = tt
  types_more (t ∷ ts) h = (type_more t h.0, types_more ts h.1)

  atom_more : (a : Atom) → IsPlainAtom k a → IsPlainAtom j a
  atom_more (constant c ts) h = (h.0, types_more ts h.1)
  atom_more (integer z) h = tt
  atom_more (text s) h = tt
  atom_more (eigen n) h = tt
  atom_more (logic x m) h = tt
  atom_more (param n T) h = type_more T h

  pub plain_more : (t : Term) → IsPlainTerm k t → IsPlainTerm j t
  plain_more t h = atoms_map (IsPlainAtom k) (IsPlainAtom j) atom_more t h

  mutual
    pub goal_more : (B : List Bool) (g : Goal) → IsGoal k B g → IsGoal j B g
    goal_more B (Atomic t) h = plain_more t h
    goal_more B Cut h = tt
    goal_more B (Either gs hs) h = (goals_more B gs h.0, goals_more B hs h.1)
    goal_more B (Exists T gs) h = (type_more T h.0, goals_more (false ∷ B) gs h.1)
    goal_more B (Forall T gs) h = (type_more T h.0, goals_more (true ∷ B) gs h.1)
    goal_more B (Assume ws cs gs) h = (clauses_more B cs h.0, goals_more B gs h.1)
    goal_more B (Not ws gs) h = goals_more B gs h

    pub goals_more : (B : List Bool) (gs : Goals) → AreGoals k B gs → AreGoals j B gs
    goals_more B no_goals h = tt
    goals_more B (goals g gs) h = (goal_more B g h.0, goals_more B gs h.1)

    pub clause_more : (B : List Bool) (c : Clause) → IsClause k B c → IsClause j B c
    clause_more B (clause n vs h b) w = (types_more vs w.0, w.1, plain_more h w.2, goals_more (map (λ v. false) vs ++ B) b w.3)

    pub clauses_more : (B : List Bool) (cs : Clauses) → AreClauses k B cs → AreClauses j B cs
    clauses_more B no_clauses h = tt
    clauses_more B (clauses c cs) h = (h.0, clause_more B c h.1, clauses_more B cs h.2)

  pub assumable_more : (A : List Clause) → EachOf (IsAssumable k) A → EachOf (IsAssumable j) A
  assumable_more [] h = tt
  assumable_more (c ∷ A) h = ((h.0.0, clause_more [] c h.0.1), assumable_more A h.1)

  pub entries_more : (Es : List (List Ty)) (es : List Entry) → ArePlainEntries k Es es → ArePlainEntries j Es es
  entries_more [] [] h = tt
  entries_more [] (e ∷ es) h = absurd h
  entries_more (E ∷ Es) [] h = absurd h
  entries_more (E ∷ Es) (e ∷ es) h = (record { eigens = types_more E h.0.eigens; goal = goal_more [] e.goal h.0.goal; assumed = assumable_more e.assumed h.0.assumed }, entries_more Es es h.1)

  pub variables_more : (V : List Variable) → EachOf (IsPlainVariable k) V → EachOf (IsPlainVariable j) V
  variables_more [] h = tt
  variables_more (v ∷ V) h = (record { type = type_more v.type h.0.type; scope = types_more v.scope h.0.scope }, variables_more V h.1)

  pub pairs_more : (ps : List Pair) → EachOf (IsPlainPair k) ps → EachOf (IsPlainPair j) ps
  pairs_more [] h = tt
  pairs_more (p ∷ ps) h = (record { left = plain_more p.left h.0.left; right = plain_more p.right h.0.right }, pairs_more ps h.1)

  pub values_more : (ts : List Term) → EachOf (IsPlainTerm k) ts → EachOf (IsPlainTerm j) ts
  values_more [] h = tt
  values_more (t ∷ ts) h = (plain_more t h.0, values_more ts h.1)
