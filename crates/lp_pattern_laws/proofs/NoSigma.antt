-- Terms in which the constant `sigma` does not stand: the search keeps to them.
use Rattle.std.proofs.Common.{◌≡◌, ℕ, suc, ◌<◌, List, [], ◌∷◌, ◌++◌, length, Bool, refl, subst as transport}
use Rattle.std.specs.Prelude.{◌≢◌}
use Rattle.lp_calculus.specs.Types.{Ty}
use Rattle.lp_calculus.specs.Term.{Term, Atom, index, atom, abs, app, constant, integer, text, eigen, logic, param}
use Rattle.lp_calculus.specs.Closed.{AllAtoms}
use Rattle.lp_calculus.specs.Fill.{Within}
use Rattle.lp_lemmas.specs.Each.{EachOf}
use Rattle.lp_model.specs.Flat.{Goal, Atomic, Cut, Either, Exists, Forall, Assume, Not, Goals, no_goals, goals, Clause, clause, Clauses, no_clauses, clauses}
use Rattle.lp_model.specs.Proofs.{Declared}
use Rattle.lp_standard.specs.Connectives.{connective_of, sigma_of}
use Rattle.lp_standard.specs.Connectives as connective
use Rattle.lp_standard.specs.Numbers as number
use Rattle.lp_standard.specs.Positive.{IsPositiveConstant}
use Rattle.lp_proof_laws.proofs.Uniform.Forms.{Shape, form_shape}
use Rattle.lp_search_laws.specs.Branches.{IsPlainTerm, AreGoals, IsGoal, AreClauses, IsProgramTyped}
use Rattle.lp_search_laws.proofs.AtomsKept.{atoms_keep}
use Rattle.lp_search_laws.proofs.Families.{Family}
use Rattle.lp_search_laws.proofs.KeptTasks.{IsGoalWith, AreGoalsWith, AreClausesWith, IsKeptProgram}
use Rattle.lp_search_laws.proofs.RunsKeep.{Good, good_instance, good_values, good_more, plain_term}
use Rattle.lp_pattern_laws.specs.Binders.{Binder, universal, existential}
use Rattle.lp_pattern_laws.specs.Parts.{existentials}
use Rattle.lp_pattern_laws.specs.Goals.{IsTextAtom, IsWrittenText, IsGoalOf, AreGoalsOf, AreClausesOf, IsTextClause}

abbrev pub IsOther : ℕ → Type 0
IsOther c = c ≢ number.Exists

-- with the type variables that stand there
abbrev pub Plain : (ℕ → Type 0) → Term → Type 0
Plain Q t = AllAtoms (Good IsOther Q) t

pub others : Family Plain
others = record {
  keeps = λ Q. atoms_keep (Good IsOther Q) (λ x l. tt) (λ k. tt) (good_values IsOther Q);
  typed = good_instance IsOther;
  constants = λ Q c ts h. h.1;
  parameters = λ Q n T h. h;
}

-- so no such term is a `sigma`
pub no_sigma : (Q : ℕ → Type 0) (t : Term) → AllAtoms (Good IsOther Q) t → (T : Ty) (s : Term) → connective_of t ≡ connective.Exists T s → ⊥
no_sigma Q t h T s e =
    let g = transport (λ f. Shape f t) e (form_shape t) in
    let w : AllAtoms (Good IsOther Q) (sigma_of T g.0) = transport (AllAtoms (Good IsOther Q)) g.1 h in
    w.0.0 refl

-- text has none in its atoms
both_atom : (Q : ℕ → Type 0) (a : Atom) → Good IsPositiveConstant Q a → IsTextAtom a → Good IsOther Q a
both_atom Q (constant c ts) h k = (k, h.1)
both_atom Q (integer z) h k = tt
both_atom Q (text s) h k = tt
both_atom Q (eigen n) h k = tt
both_atom Q (logic x l) h k = tt
both_atom Q (param n T) h k = h

both_atoms : (Q : ℕ → Type 0) (t : Term) → AllAtoms (Good IsPositiveConstant Q) t → AllAtoms IsTextAtom t → Plain Q t
both_atoms Q (index i) h k = tt
both_atoms Q (atom a) h k = both_atom Q a h k
both_atoms Q (abs b) h k = both_atoms Q b h k
both_atoms Q (app t u) h k = (both_atoms Q t h.0 k.0, both_atoms Q u h.1 k.1)

atoms_within : (n : ℕ) (t : Term) → Within IsTextAtom n t → AllAtoms IsTextAtom t
atoms_within n (index i) w = tt
atoms_within n (atom a) w = w
atoms_within n (abs b) w = atoms_within (suc n) b w
atoms_within n (app t u) w = (atoms_within n t w.0, atoms_within n u w.1)

text_atoms : (Γ : List Binder) (t : Term) → IsWrittenText Γ t → AllAtoms IsTextAtom t
text_atoms Γ t h = atoms_within (length Γ) t h.within

module _ (m : ℕ) (Q : ℕ → Type 0) (below : (i : ℕ) → i < m → Q i) where
  term_plain : (t : Term) → IsPlainTerm m t → AllAtoms IsTextAtom t → Plain Q t
  term_plain t h k = good_more Plain others (λ i. i < m) Q below t (both_atoms (λ i. i < m) t (plain_term m t h) k)

  mutual
    goal_plain : (B : List Bool) (Γ : List Binder) (g : Goal) → IsGoal m B g → IsGoalOf IsWrittenText Γ g → IsGoalWith (Plain Q) g
    goal_plain B Γ (Atomic t) h k = term_plain t h (text_atoms Γ t k)
    goal_plain B Γ Cut h k = tt
    goal_plain B Γ (Either l r) h k = (goals_plain B Γ l h.0 k.0, goals_plain B Γ r h.1 k.1)
    goal_plain B Γ (Exists T gs) h k = goals_plain _ (existential ∷ Γ) gs h.1 k
    goal_plain B Γ (Forall T gs) h k = goals_plain _ (universal ∷ Γ) gs h.1 k
    goal_plain B Γ (Assume w cs gs) h k = (clauses_plain B Γ cs h.0 k.0, goals_plain B Γ gs h.1 k.1)
    goal_plain B Γ (Not w gs) h k = goals_plain B Γ gs h k

    pub goals_plain : (B : List Bool) (Γ : List Binder) (gs : Goals) → AreGoals m B gs → AreGoalsOf IsWrittenText Γ gs → AreGoalsWith (Plain Q) gs
    goals_plain B Γ no_goals h k = tt
    goals_plain B Γ (goals g gs) h k = (goal_plain B Γ g h.0 k.0, goals_plain B Γ gs h.1 k.1)

    clauses_plain : (B : List Bool) (Γ : List Binder) (cs : Clauses) → AreClauses m B cs → AreClausesOf IsWrittenText Γ cs → AreClausesWith (Plain Q) cs
    clauses_plain B Γ no_clauses h k = tt
    clauses_plain B Γ (clauses (clause n vs x b) cs) h k =
        ((h.0, term_plain x h.1.2 (text_atoms (existentials vs ++ Γ) x k.0.0), goals_plain _ (existentials vs ++ Γ) b h.1.3 k.0.1), clauses_plain B Γ cs h.2 k.1)

pub program_plain : (d : Declared) (P : List Clause) → EachOf (IsProgramTyped d) P → EachOf IsTextClause P → EachOf (IsKeptProgram Plain others) P
program_plain d [] h k = tt
program_plain d (clause m vs x b ∷ P) h k = (
  (term_plain m (λ i. i < m) (λ i l. l) x h.0.form.2 (text_atoms (existentials vs ++ []) x k.0.0), goals_plain m (λ i. i < m) (λ i l. l) _ (existentials vs ++ []) b h.0.form.3 k.0.1),
  program_plain d P h.1 k.1,
)
