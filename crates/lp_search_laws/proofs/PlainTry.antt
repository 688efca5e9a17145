-- What a try leaves is made of positive atoms, and of the type variables of the branch and those that are new.
use Rattle.std.proofs.Common.{◌≡◌, ℕ, zero, suc, ◌+◌, ◌<◌, List, [], ◌∷◌, ◌++◌, map, length, ◌∙◌, refl, sym, ap, subst as transport, arith, inl, inr, Bool, true, false, if◌then◌else◌}
use Rattle.std.specs.Prelude.{nat_lt}
use Rattle.std.proofs.lemmas.Bool.Decides.{nat_tests}
use Rattle.lp_unify_laws.specs.TypesBelow.{IsTypeBelow, AreTysBelow, AreTypesBelow}
use Rattle.lp_calculus.specs.Types.{Ty, Tys, var, param as type_param, con, arrow, no_types, types, instance, instances}
use Rattle.lp_calculus.specs.Term.{Term, Atom, index, atom, abs, app, constant, integer, text, eigen, logic, param}
use Rattle.lp_calculus.specs.Closed.{AllAtoms}
use Rattle.lp_calculus.specs.Instance.{instance_atom, instance_term}
use Rattle.lp_calculus.proofs.BetaEta.{shift_one}
use Rattle.lp_calculus.proofs.Sigma.{rename}
use Rattle.lp_lemmas.specs.Each.{EachOf}
use Rattle.lp_standard.specs.Schemes.{IsStandard}
use Rattle.lp_model.specs.Index.{instantiate, lifted}
use Rattle.lp_calculus.specs.Spine.{head_of, arguments}
use Rattle.lp_model.specs.Types.{zipped}
use Rattle.lp_model.specs.Rule.{type_pairs}
use Rattle.lp_model.specs.Search.{is_new, renewed, slots_of, pairs_of}
use Rattle.lp_model.specs.Flat.{Goal, Atomic, Cut, Either, Exists, Forall, Assume, Not, Goals, no_goals, goals, Clause, clause, Clauses, no_clauses, clauses, under_all, map_goal, map_goals, map_clause, map_clauses, type_goals, instantiate_goals}
use Rattle.lp_model.specs.Branch.{Entry, Branch}
use Rattle.lp_model.specs.Proofs.{Declared}
use Rattle.lp_model.specs.Answers.{Query, Variable}
use Rattle.lp_proof_laws.proofs.Uniform.Forms.{apply_arguments}
use Rattle.lp_search_laws.specs.Branches.{IsPlainAtom, IsPlainTerm, IsClauseHead, IsGoal, AreGoals, IsClause, AreClauses, IsAssumable, IsProgramTyped, IsPlainVariable, IsPlainPair, IsTypedTry, BranchTyping}
use Rattle.lp_search_laws.specs.Clauses.{own_types}
use Rattle.lp_search_laws.specs.Tries.{new_variables, tried_values}
use Rattle.lp_search_laws.proofs.Slots.{EachTwo, slots_are, slotted_is}
use Rattle.lp_search_laws.proofs.TypesOver.{itself}
use Rattle.lp_search_laws.proofs.RunsKeep.{instance_itself}
use Rattle.lp_search_laws.proofs.AtomsKept.{apply_atoms}
use Rattle.lp_search_laws.proofs.TypedParts.{goals_put}
use Rattle.lp_search_laws.proofs.ClauseForms.{no_binder}
use Rattle.lp_search_laws.proofs.TryMatches.{any_each, none_renewed, plain}

same_binders : (ty : Ty → Ty) (vs : List Ty) → map {B = Bool} (λ v. false) (map ty vs) ≡ map (λ v. false) vs
same_binders ty [] = refl
same_binders ty (v ∷ vs) = ap (λ z. false ∷ z) (same_binders ty vs)

-- types over j for type variables below k
module _ (k j : ℕ) (θ : ℕ → Ty) (f : (i : ℕ) → i < k → IsTypeBelow j (θ i)) where
  mutual
    type_at : (T : Ty) → IsTypeBelow k T → IsTypeBelow j (instance θ T)
    type_at (var i) w = f i w
    type_at (type_param n) w = tt
    type_at (con c ts) w = types_at ts w
    type_at (arrow a b) w = (type_at a w.0, type_at b w.1)

    types_at : (ts : Tys) → AreTysBelow k ts → AreTysBelow j (instances θ ts)
    types_at no_types w = tt
    types_at (types t ts) w = (type_at t w.0, types_at ts w.1)

  list_at : (ts : List Ty) → AreTypesBelow k ts → AreTypesBelow j (map (instance θ) ts)
  list_at [] w = tt
  list_at (t ∷ ts) w = (type_at t w.0, list_at ts w.1)

  atom_at : (a : Atom) → IsPlainAtom k a → IsPlainAtom j (instance_atom θ a)
  atom_at (constant c ts) w = (w.0, list_at ts w.1)
  atom_at (integer z) w = tt
  atom_at (text s) w = tt
  atom_at (eigen n) w = tt
  atom_at (logic x l) w = tt
  atom_at (param n T) w = type_at T w

  term_at : (t : Term) → IsPlainTerm k t → IsPlainTerm j (instance_term θ t)
  term_at (index i) w = tt
  term_at (atom a) w = atom_at a w
  term_at (abs b) w = term_at b w
  term_at (app t u) w = (term_at t w.0, term_at u w.1)

  head_at : (B : List Bool) (t : Term) → IsClauseHead B (head_of t) → IsClauseHead B (head_of (instance_term θ t))
  head_at B (index i) w = w
  head_at B (atom (constant c ts)) w = w
  head_at B (atom (integer z)) w = absurd w
  head_at B (atom (text s)) w = absurd w
  head_at B (atom (eigen n)) w = w
  head_at B (atom (logic x l)) w = absurd w
  head_at B (atom (param n T)) w = absurd w
  head_at B (abs b) w = absurd w
  head_at B (app t u) w = head_at B t w

  own_at : (n : ℕ) (c : Clause) → own_types c ≡ 0 → own_types (map_clause (λ u. u) (λ u t. instance_term θ t) (instance θ) n c) ≡ 0
  own_at n (clause m vs h b) w = w

  mutual
    goal_at : (n : ℕ) (B : List Bool) (g : Goal) → IsGoal k B g → IsGoal j B (map_goal (λ u. u) (λ u t. instance_term θ t) (instance θ) n g)
    goal_at n B (Atomic t) w = term_at t w
    goal_at n B Cut w = tt
    goal_at n B (Either gs hs) w = (goals_at n B gs w.0, goals_at n B hs w.1)
    goal_at n B (Exists T gs) w = (type_at T w.0, goals_at n (false ∷ B) gs w.1)
    goal_at n B (Forall T gs) w = (type_at T w.0, goals_at n (true ∷ B) gs w.1)
    goal_at n B (Assume ws cs gs) w = (clauses_at n B cs w.0, goals_at n B gs w.1)
    goal_at n B (Not ws gs) w = goals_at n B gs w

    goals_at : (n : ℕ) (B : List Bool) (gs : Goals) → AreGoals k B gs → AreGoals j B (map_goals (λ u. u) (λ u t. instance_term θ t) (instance θ) n gs)
    goals_at n B no_goals w = tt
    goals_at n B (goals g gs) w = (goal_at n B g w.0, goals_at n B gs w.1)

    clause_at : (n : ℕ) (B : List Bool) (c : Clause) → IsClause k B c → IsClause j B (map_clause (λ u. u) (λ u t. instance_term θ t) (instance θ) n c)
    clause_at n B (clause m vs h b) w = (
      list_at vs w.0,
      transport (λ z. IsClauseHead (z ++ B) (head_of (instance_term θ h))) (sym (same_binders (instance θ) vs)) (head_at (map (λ v. false) vs ++ B) h w.1),
      term_at h w.2,
      transport (λ z. AreGoals j (z ++ B) (map_goals (λ u. u) (λ u t. instance_term θ t) (instance θ) (under_all (λ u. u) vs n) b)) (sym (same_binders (instance θ) vs)) (goals_at (under_all (λ u. u) vs n) (map (λ v. false) vs ++ B) b w.3),
    )

    clauses_at : (n : ℕ) (B : List Bool) (cs : Clauses) → AreClauses k B cs → AreClauses j B (map_clauses (λ u. u) (λ u t. instance_term θ t) (instance θ) n cs)
    clauses_at n B no_clauses w = tt
    clauses_at n B (clauses c cs) w = (own_at n c w.0, clause_at n B c w.1, clauses_at n B cs w.2)

-- more type variables
pub term_more : (k j : ℕ) → ((i : ℕ) → i < k → i < j) → (t : Term) → IsPlainTerm k t → IsPlainTerm j t
term_more k j f t w = transport (IsPlainTerm j) (instance_itself t) (term_at k j var f t w)

list_itself : (ts : List Ty) → map (instance var) ts ≡ ts
list_itself [] = refl
list_itself (t ∷ ts) = let e = itself t in let g = list_itself ts in λ i. e i ∷ g i

pub list_more : (k j : ℕ) → ((i : ℕ) → i < k → i < j) → (ts : List Ty) → AreTypesBelow k ts → AreTypesBelow j ts
list_more k j f ts w = transport (AreTypesBelow j) (list_itself ts) (list_at k j var f ts w)

-- slots and pairs of plain arguments
each_right : (Q : Term → Type 0) (hs ts : List Term) → EachOf Q ts → EachTwo (λ x y. Q y) hs ts
each_right Q [] ts w = tt
each_right Q (h ∷ hs) [] w = tt
each_right Q (h ∷ hs) (t ∷ ts) w = (w.0, each_right Q hs ts w.1)

arguments_plain : (j : ℕ) (t : Term) → IsPlainTerm j t → AllAtoms (IsPlainAtom j) (head_of t) × EachOf (IsPlainTerm j) (arguments t)
arguments_plain j t w = apply_atoms (IsPlainAtom j) (head_of t) (arguments t) (transport (AllAtoms (IsPlainAtom j)) (sym (apply_arguments t [])) w)

rename_plain : (P : Atom → Type 0) (ρ : ℕ → ℕ) (t : Term) → AllAtoms P t → AllAtoms P (rename ρ t)
rename_plain P ρ (index i) h = tt
rename_plain P ρ (atom a) h = h
rename_plain P ρ (abs b) h = rename_plain P _ b h
rename_plain P ρ (app t u) h = (rename_plain P ρ t h.0, rename_plain P ρ u h.1)

lifted_plain : (j : ℕ) (f : ℕ → Term) → ((i : ℕ) → IsPlainTerm j (f i)) → (i : ℕ) → IsPlainTerm j (lifted f i)
lifted_plain j f h zero = tt
lifted_plain j f h (suc i) = transport (IsPlainTerm j) (sym (shift_one (f i))) (rename_plain (IsPlainAtom j) suc (f i) (h i))

instantiated_plain : (j : ℕ) (f : ℕ → Term) → ((i : ℕ) → IsPlainTerm j (f i)) → (t : Term) → IsPlainTerm j t → IsPlainTerm j (instantiate f t)
instantiated_plain j f h (index i) w = h i
instantiated_plain j f h (atom a) w = w
instantiated_plain j f h (abs b) w = instantiated_plain j (lifted f) (lifted_plain j f h) b w
instantiated_plain j f h (app t u) w = (instantiated_plain j f h t w.0, instantiated_plain j f h u w.1)

argument_pairs_plain : (j : ℕ) (σ : ℕ → Term) → ((i : ℕ) → IsPlainTerm j (σ i)) → (level : ℕ) (earlier hs ts : List Term) → EachOf (IsPlainTerm j) hs → EachOf (IsPlainTerm j) ts → EachOf (IsPlainPair j) (pairs_of σ level earlier hs ts)
argument_pairs_plain j σ s level earlier [] ts p q = tt
argument_pairs_plain j σ s level earlier (x ∷ hs) [] p q = tt
argument_pairs_plain j σ s level earlier (x ∷ hs) (y ∷ ts) p q =
    let rest = argument_pairs_plain j σ s level (x ∷ earlier) hs ts p.1 q.1 in
    elim (is_new x earlier) as (λ c. EachOf (IsPlainPair j) (if c then pairs_of σ level (x ∷ earlier) hs ts else record { left = y; right = instantiate σ x; level = level } ∷ pairs_of σ level (x ∷ earlier) hs ts)) [
      | true ↦ rest
      | false ↦ (record { left = q.0; right = instantiated_plain j σ s x p.0 }, rest)
    ]

-- type equations of heads
zipped_below : (j : ℕ) (ts us : List Ty) → AreTypesBelow j ts → AreTypesBelow j us → EachOf (λ x. IsTypeBelow j x.left × IsTypeBelow j x.right) (zipped ts us)
zipped_below j [] us p q = tt
zipped_below j (t ∷ ts) [] p q = tt
zipped_below j (t ∷ ts) (u ∷ us) p q = ((p.0, q.0), zipped_below j ts us p.1 q.1)

atoms_below : (j : ℕ) (a b : Atom) → IsPlainAtom j a → IsPlainAtom j b → EachOf (λ x. IsTypeBelow j x.left × IsTypeBelow j x.right) (type_pairs (atom a) (atom b))
atoms_below j (constant c ts) (constant d us) p q = zipped_below j ts us p.1 q.1
atoms_below j (param n T) (param m U) p q = ((p, q), tt)
atoms_below j (constant c ts) (integer z) p q = tt
atoms_below j (constant c ts) (text s) p q = tt
atoms_below j (constant c ts) (eigen n) p q = tt
atoms_below j (constant c ts) (logic x l) p q = tt
atoms_below j (constant c ts) (param n T) p q = tt
atoms_below j (param n T) (constant c ts) p q = tt
atoms_below j (param n T) (integer z) p q = tt
atoms_below j (param n T) (text s) p q = tt
atoms_below j (param n T) (eigen m) p q = tt
atoms_below j (param n T) (logic x l) p q = tt
atoms_below j (integer z) b p q = tt
atoms_below j (text s) b p q = tt
atoms_below j (eigen n) b p q = tt
atoms_below j (logic x l) b p q = tt

heads_below : (j : ℕ) (x y : Term) → IsPlainTerm j x → IsPlainTerm j y → EachOf (λ z. IsTypeBelow j z.left × IsTypeBelow j z.right) (type_pairs x y)
heads_below j (atom a) (atom b) p q = atoms_below j a b p q
heads_below j (atom (constant c ts)) (index i) p q = tt
heads_below j (atom (constant c ts)) (abs b) p q = tt
heads_below j (atom (constant c ts)) (app t u) p q = tt
heads_below j (atom (param n T)) (index i) p q = tt
heads_below j (atom (param n T)) (abs b) p q = tt
heads_below j (atom (param n T)) (app t u) p q = tt
heads_below j (atom (integer z)) y p q = tt
heads_below j (atom (text s)) y p q = tt
heads_below j (atom (eigen n)) y p q = tt
heads_below j (atom (logic x l)) y p q = tt
heads_below j (index i) y p q = tt
heads_below j (abs b) y p q = tt
heads_below j (app t u) y p q = tt

variables_plain : (j : ℕ) (E : List Ty) → AreTypesBelow j E → (Ts : List Ty) → AreTypesBelow j Ts → EachOf (IsPlainVariable j) (new_variables E Ts)
variables_plain j E h [] w = tt
variables_plain j E h (T ∷ Ts) w = (record { type = w.0; scope = h }, variables_plain j E h Ts w.1)

renewed_below : (k n i : ℕ) → i < k → IsTypeBelow (n + k) (renewed k n i)
renewed_below k n i l = let e : nat_lt i k ≡ true = grind (arith, nat_tests) in transport (IsTypeBelow (n + k)) (sym (ap (λ b. if b then var (n + i) else var i) e)) (let q : n + i < n + k = omega (arith, l) in q)

-- the clause, over so many type variables
record IsOver (ρ : ℕ → Ty) (j : ℕ) (c : Clause) : Type 0 where
  many : ℕ
  types : (i : ℕ) → i < many → IsTypeBelow j (ρ i)
  clause : IsClause many [] c

module _ (n : ℕ) (d : Declared) (std : IsStandard d) (P : List Clause) (program : EachOf (IsProgramTyped d) P) (q : Query) (y : BranchTyping) (k : ℕ)
    (vs : List Ty) (h : Term) (g : Goals) (t : Term) (e : Entry) (b : Branch) (w : IsTypedTry n d P q y (clause k vs h g) t e b) (E : List Ty)
    (Es : List (List Ty)) (is : y.eigens ≡ E ∷ Es) where
  abbrev ρ : ℕ → Ty
  ρ = renewed k b.next_type

  abbrev j : ℕ
  j = b.next_type + k

  abbrev h' : Term
  h' = instance_term (renewed k b.next_type) h

  abbrev V : List Variable
  V = y.answer.variables

  more : (i : ℕ) → i < b.next_type → i < j
  more i l = omega (arith, l)

  clause_over : IsOver (renewed k b.next_type) (b.next_type + k) (clause k vs h g)
  clause_over = elim w.stands [
    | inl i ↦ record { many = k; types = λ x l. renewed_below k b.next_type x l; clause = (any_each (IsProgramTyped d) (clause k vs h g) P i program).form }
    | inr i ↦
        let o = any_each (IsAssumable b.next_type) (clause k vs h g) e.assumed i (plain n d std P program q y k vs h g t e b w E Es is).0.assumed in
        record { many = b.next_type; types = λ x l. transport (IsTypeBelow j) (sym (none_renewed k b.next_type o.0 x)) (more x l); clause = o.1 }
  ]

  goal_plain : IsPlainTerm j t
  goal_plain = term_more b.next_type j more t (plain n d std P program q y k vs h g t e b w E Es is).0.goal

  head_plain : IsPlainTerm j h'
  head_plain = term_at clause_over.many j ρ clause_over.types h clause_over.clause.2

  values_plain : (i : ℕ) → IsPlainTerm (b.next_type + k) (tried_values y.answer.variables e.level (instance_term (renewed k b.next_type) h) t i)
  values_plain i =
      slotted_is (λ x u. IsPlainTerm j u) (λ x u. IsPlainTerm j u) (length V) e.level (λ x. tt) (λ x u p. p) (slots_of [] (arguments h') (arguments t))
      (slots_are (λ x u. IsPlainTerm j u) [] (arguments h') (arguments t) (each_right (IsPlainTerm j) (arguments h') (arguments t) (arguments_plain j t goal_plain).1)) i

  pub new_goals_plain : AreGoals (b.next_type + k) [] (instantiate_goals (tried_values y.answer.variables e.level (instance_term (renewed k b.next_type) h) t) (type_goals (renewed k b.next_type) g))
  new_goals_plain =
      goals_put j (map (λ v. false) vs ++ []) [] (tried_values V e.level h' t) (record { plain = values_plain; heads = λ i z. let r = sym (no_binder vs i) ∙ z in absurd (cc) }) (type_goals ρ g)
      (goals_at clause_over.many j ρ clause_over.types zero (map (λ v. false) vs ++ []) g clause_over.clause.3)

  pub pairs_plain : EachOf (IsPlainPair (b.next_type + k)) (pairs_of (tried_values y.answer.variables e.level (instance_term (renewed k b.next_type) h) t) e.level [] (arguments (instance_term (renewed k b.next_type) h)) (arguments t))
  pairs_plain = argument_pairs_plain j (tried_values V e.level h' t) values_plain e.level [] (arguments h') (arguments t) (arguments_plain j h' head_plain).1 (arguments_plain j t goal_plain).1

  pub eqs_plain : EachOf (λ x. IsTypeBelow (b.next_type + k) x.left × IsTypeBelow (b.next_type + k) x.right) (type_pairs (head_of t) (head_of (instance_term (renewed k b.next_type) h)))
  eqs_plain = heads_below j (head_of t) (head_of h') (arguments_plain j t goal_plain).0 (arguments_plain j h' head_plain).0

  pub new_variables_plain : EachOf (IsPlainVariable (b.next_type + k)) (new_variables E (map (instance (renewed k b.next_type)) vs))
  new_variables_plain =
      variables_plain j E (list_more b.next_type j more E (plain n d std P program q y k vs h g t e b w E Es is).0.eigens) (map (instance ρ) vs) (list_at clause_over.many j ρ clause_over.types vs clause_over.clause.0)
