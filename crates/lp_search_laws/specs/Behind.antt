-- Closings that lead through what a unification leaves, and the entries behind it.
use Rattle.std.specs.Prelude.{ℕ, ◌≡◌, List, [], ◌∷◌, map, length, Some, slice_get}
use Rattle.lp_unify_laws.specs.TypesBelow.{AreTypesBelow}
use Rattle.lp_calculus.specs.Types.{Ty, var, instance}
use Rattle.lp_calculus.specs.Convert.{Converts}
use Rattle.lp_calculus.specs.Fill.{Binding}
use Rattle.lp_calculus.specs.Term.{Term}
use Rattle.lp_calculus.specs.Instance.{instance_term}
use Rattle.lp_calculus.specs.Typing.{o_type}
use Rattle.lp_lemmas.specs.Each.{EachOf}
use Rattle.lp_model.specs.Flat.{Clause, formula_of_goal, formula_of_clause}
use Rattle.lp_model.specs.Types.{TypeBinding, TypePair, put_types}
use Rattle.lp_model.specs.Pair.{Pair, Closing, SolvesAll}
use Rattle.lp_model.specs.Proofs.{Declared, Leaves}
use Rattle.lp_model.specs.Answers.{Query, Instance, Variable, IsWellFormed}
use Rattle.lp_model.specs.Branch.{Entry, Branch, put_entries, type_entries}
use Rattle.lp_unify_laws.specs.TypeSolutions.{Unifies, Satisfies}
use Rattle.lp_unify_laws.specs.Solutions.{instance_variable, through_bindings, AreStuck}
use Rattle.lp_search_laws.specs.Holds.{IsTyped}
use Rattle.lp_search_laws.specs.Written.{IsWrittenEntry}
use Rattle.lp_search_laws.specs.Branches.{IsPlainTerm, IsPlainVariable, IsPlainPair, ArePlainEntries, BranchTyping, SolvesBranch, answer_of}

-- the closing c is, through bindings and types, the closing z: to the variables V they give the same
pub record LeadsThrough (V : List Variable) (c z : Closing) (bs : List Binding) (ts : List TypeBinding) : Type 0 where
  pub types : z.types ≡ c.types
  pub satisfied : Satisfies z.types ts
  pub gives : (x : ℕ) (v : Variable) → slice_get V x ≡ Some v → Converts (c.terms x (length v.scope)) ((through_bindings bs z).terms x (length v.scope))

-- entries with bindings and types put in
abbrev pub behind : List Binding → List TypeBinding → List Entry → List Entry
behind bs ts es = type_entries ts (put_entries bs es)

-- the types that bindings give to type variables
abbrev pub types_of : List TypeBinding → ℕ → Ty
types_of ts i = put_types ts (var i)

-- the variables and the eigenconstants with types put in
abbrev pub variables_of : (ℕ → Ty) → List Variable → List Variable
variables_of θ V = map (instance_variable θ) V

abbrev pub eigens_of : (ℕ → Ty) → List (List Ty) → List (List Ty)
eigens_of θ Es = map (λ E. map (instance θ) E) Es

-- a term that is typed once the types of the bindings are put in
abbrev pub IsTypedAt : Declared → (E : List Ty) → List Variable → List TypeBinding → Term → Type 0
IsTypedAt d E V ts t = IsTyped d (map (instance (types_of ts)) E) (variables_of (types_of ts) V) (instance_term (types_of ts) t) o_type

pub record IsEntryAt (d : Declared) (V : List Variable) (ts : List TypeBinding) (E : List Ty) (e : Entry) : Type 0 where
  pub level : length E ≡ e.level
  pub goal : IsTypedAt d E V ts (formula_of_goal e.goal)
  pub assumed : EachOf (λ k. IsTypedAt d E V ts (formula_of_clause k)) e.assumed

abbrev pub AreEntriesAt : Declared → List Variable → List TypeBinding → List (List Ty) → List Entry → Type 0
AreEntriesAt d V ts [] [] = Unit {0}
AreEntriesAt d V ts (E ∷ Es) (e ∷ es) = IsEntryAt d V ts E e × AreEntriesAt d V ts Es es
AreEntriesAt d V ts [] (e ∷ es) = ⊥
AreEntriesAt d V ts (E ∷ Es) [] = ⊥

-- a branch whose goals are typed once the types of the equations are one; else as a typed branch
pub record IsBranchWith (n : ℕ) (d : Declared) (q : Query) (eqs : List TypePair) (y : BranchTyping) (b : Branch) : Type 0 where
  pub answer : IsWellFormed d q y.answer (answer_of b)
  pub entries : (ts : List TypeBinding) → Unifies (types_of ts) eqs → AreEntriesAt d y.answer.variables ts y.eigens b.goals
  pub variables : EachOf (IsPlainVariable b.next_type) y.answer.variables
  pub types : AreTypesBelow b.next_type b.types
  pub values : EachOf (IsPlainTerm b.next_type) b.values
  pub pairs : EachOf (IsPlainPair b.next_type) b.pairs
  pub goals : ArePlainEntries b.next_type y.eigens b.goals
  pub written : EachOf IsWrittenEntry b.goals
  pub stuck : AreStuck n b.pairs

-- an instance of the branch by a closing that solves equations and pairs besides
pub record SolvesWith (L : Leaves) (d : Declared) (P : List Clause) (q : Query) (i : Instance) (y : BranchTyping) (b : Branch) (eqs : List TypePair) (ps : List Pair) : Type 0 where
  pub branch : SolvesBranch L d P q i y b
  pub types : Unifies branch.answer.closing.types eqs
  pub pairs : SolvesAll branch.answer.closing ps
