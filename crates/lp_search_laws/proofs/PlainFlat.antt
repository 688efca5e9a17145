-- Flattened goals and clauses of typed formulas are typed over the same type variables, and plain: by induction on the depth of flattening.
use Rattle.std.proofs.Common.{◌≡◌, ℕ, zero, suc, ◌≤◌, List, [], ◌∷◌, ◌++◌, map, refl, sym, ap, ◌∙◌, subst as transport, arith, Bool, true, false}
use Rattle.std.specs.Prelude.{slice_index_or}
use Rattle.std.proofs.lemmas.Bool.Decides.{nat_tests}
use Rattle.lp_unify_laws.specs.TypesBelow.{AreTypesBelow}
use Rattle.lp_calculus.specs.Types.{Ty}
use Rattle.lp_calculus.specs.Term.{Term, Atom, index, atom, abs, app, shift, constant, integer, text, eigen, logic, param}
use Rattle.lp_calculus.specs.Fill.{Within}
use Rattle.lp_calculus.specs.Closed.{AllAtoms}
use Rattle.lp_calculus.proofs.Sigma.{rename}
use Rattle.lp_calculus.proofs.Plain.{bump, shift-rename}
use Rattle.lp_calculus.specs.Spine.{head_of, arguments_and}
use Rattle.lp_standard.proofs.Positives.{declared_is_positive}
use Rattle.lp_standard.specs.Constants.{is_declared}
use Rattle.lp_standard.specs.Positive.{is_positive, are_positive}
use Rattle.lp_model.specs.Flat.{Goal, Atomic, Cut, Either, Exists, Forall, Assume, Not, Goals, no_goals, goals, Clause, clause, Clauses, no_clauses, clauses, under_all, map_goal, map_goals, map_clause, map_clauses, same_type}
use Rattle.lp_model.specs.Flatten.{heads_clauses, is_clause_head}
use Rattle.lp_model.specs.Proofs.{Declared}
use Rattle.lp_search_laws.specs.Started.{IsQueryAtom}
use Rattle.lp_search_laws.specs.Branches.{IsPlainAtom, IsPlainTerm, IsClauseHead, IsGoal, AreGoals, IsClause, AreClauses}
use Rattle.lp_search_laws.specs.Clauses.{own_types}
use Rattle.lp_search_laws.proofs.Computed.{both_true, not_above}

-- raised goals
pub record MayRaise (from : ℕ) (B D : List Bool) : Type 0 where
  pub at : (i : ℕ) → slice_index_or B i false ≡ true → slice_index_or D (bump 1 from i) false ≡ true

pub raise_first : (B : List Bool) → MayRaise 0 B (false ∷ B)
raise_first B = record { at = λ i e. let b : bump 1 0 i ≡ suc i = grind (arith, nat_tests) in ap (λ j. slice_index_or (false ∷ B) j false) b ∙ e }

raise_below : (x : Bool) (from : ℕ) (B D : List Bool) → MayRaise from B D → MayRaise (suc from) (x ∷ B) (x ∷ D)
raise_below x from B D m = record { at = go }
  where
    go : (i : ℕ) → slice_index_or (x ∷ B) i false ≡ true → slice_index_or (x ∷ D) (bump 1 (suc from) i) false ≡ true
    go zero e = let b : bump 1 (suc from) 0 ≡ 0 = grind (arith, nat_tests) in ap (λ j. slice_index_or (x ∷ D) j false) b ∙ e
    go (suc i) e = let b : bump 1 (suc from) (suc i) ≡ suc (bump 1 from i) = grind (arith, nat_tests) in ap (λ j. slice_index_or (x ∷ D) j false) b ∙ m.at i e

raise_below_all : (vs : List Ty) (from : ℕ) (B D : List Bool) → MayRaise from B D → MayRaise (under_all suc vs from) (map (λ v. false) vs ++ B) (map (λ v. false) vs ++ D)
raise_below_all [] from B D m = m
raise_below_all (v ∷ vs) from B D m = raise_below false (under_all suc vs from) (map (λ w. false) vs ++ B) (map (λ w. false) vs ++ D) (raise_below_all vs from B D m)

all_rename : (P : Atom → Type 0) (ρ : ℕ → ℕ) (t : Term) → AllAtoms P t → AllAtoms P (rename ρ t)
all_rename P ρ (index i) h = tt
all_rename P ρ (atom a) h = h
all_rename P ρ (abs b) h = all_rename P _ b h
all_rename P ρ (app t u) h = (all_rename P ρ t h.0, all_rename P ρ u h.1)

term_raise : (k from : ℕ) (t : Term) → IsPlainTerm k t → IsPlainTerm k (shift from 1 t)
term_raise k from t h = transport (IsPlainTerm k) (sym (shift-rename from 1 t)) (all_rename (IsPlainAtom k) (bump 1 from) t h)

head_rename : (from : ℕ) (B D : List Bool) → MayRaise from B D → (t : Term) → IsClauseHead B (head_of t) → IsClauseHead D (head_of (rename (bump 1 from) t))
head_rename from B D m (index i) h = m.at i h
head_rename from B D m (atom (constant c ts)) h = h
head_rename from B D m (atom (eigen j)) h = h
head_rename from B D m (atom (integer z)) h = h
head_rename from B D m (atom (text s)) h = h
head_rename from B D m (atom (logic y l)) h = h
head_rename from B D m (atom (param j T)) h = h
head_rename from B D m (abs b) h = h
head_rename from B D m (app t u) h = head_rename from B D m t h

head_raise : (from : ℕ) (B D : List Bool) → MayRaise from B D → (t : Term) → IsClauseHead B (head_of t) → IsClauseHead D (head_of (shift from 1 t))
head_raise from B D m t h = transport (λ z. IsClauseHead D (head_of z)) (sym (shift-rename from 1 t)) (head_rename from B D m t h)

same_types : (vs : List Ty) → map same_type vs ≡ vs
same_types [] = refl
same_types (v ∷ vs) = ap (λ us. v ∷ us) (same_types vs)

own_raise : (from : ℕ) (c : Clause) → own_types c ≡ 0 → own_types (map_clause suc (λ e t. shift e 1 t) same_type from c) ≡ 0
own_raise from (clause n vs h b) e = e

mutual
  goal_raise : (k from : ℕ) (B D : List Bool) → MayRaise from B D → (g : Goal) → IsGoal k B g → IsGoal k D (map_goal suc (λ e t. shift e 1 t) same_type from g)
  goal_raise k from B D m (Atomic t) h = term_raise k from t h
  goal_raise k from B D m Cut h = tt
  goal_raise k from B D m (Either gs hs) h = (goals_raise k from B D m gs h.0, goals_raise k from B D m hs h.1)
  goal_raise k from B D m (Exists T gs) h = (h.0, goals_raise k (suc from) (false ∷ B) (false ∷ D) (raise_below false from B D m) gs h.1)
  goal_raise k from B D m (Forall T gs) h = (h.0, goals_raise k (suc from) (true ∷ B) (true ∷ D) (raise_below true from B D m) gs h.1)
  goal_raise k from B D m (Assume ws cs gs) h = (clauses_raise k from B D m cs h.0, goals_raise k from B D m gs h.1)
  goal_raise k from B D m (Not ws gs) h = goals_raise k from B D m gs h

  pub goals_raise : (k from : ℕ) (B D : List Bool) → MayRaise from B D → (gs : Goals) → AreGoals k B gs → AreGoals k D (map_goals suc (λ e t. shift e 1 t) same_type from gs)
  goals_raise k from B D m no_goals h = tt
  goals_raise k from B D m (goals g gs) h = (goal_raise k from B D m g h.0, goals_raise k from B D m gs h.1)

  clause_raise : (k from : ℕ) (B D : List Bool) → MayRaise from B D → (c : Clause) → IsClause k B c → IsClause k D (map_clause suc (λ e t. shift e 1 t) same_type from c)
  clause_raise k from B D m (clause n vs h b) w =
      let l = raise_below_all vs from B D m in
      let f = under_all suc vs from in
      transport (λ us. AreTypesBelow k us × IsClauseHead (map (λ v. false) us ++ D) (head_of (shift f 1 h)) × IsPlainTerm k (shift f 1 h) × AreGoals k (map (λ v. false) us ++ D) (map_goals suc (λ e t. shift e 1 t) same_type f b)) (sym (same_types vs)) (
        w.0,
        head_raise f (map (λ v. false) vs ++ B) (map (λ v. false) vs ++ D) l h w.1,
        term_raise k f h w.2,
        goals_raise k f (map (λ v. false) vs ++ B) (map (λ v. false) vs ++ D) l b w.3,
      )

  clauses_raise : (k from : ℕ) (B D : List Bool) → MayRaise from B D → (cs : Clauses) → AreClauses k B cs → AreClauses k D (map_clauses suc (λ e t. shift e 1 t) same_type from cs)
  clauses_raise k from B D m no_clauses h = tt
  clauses_raise k from B D m (clauses c cs) h = (own_raise from c h.0, clause_raise k from B D m c h.1, clauses_raise k from B D m cs h.2)

-- heads and positive arguments
pub head_within : (P : Atom → Type 0) (n : ℕ) (t : Term) → Within P n t → Within P n (head_of t)
head_within P n (index i) w = w
head_within P n (atom a) w = w
head_within P n (abs b) w = w
head_within P n (app t u) w = head_within P n t w.0

plain_term : (k n : ℕ) (t : Term) → is_positive t ≡ true → Within (IsQueryAtom k) n t → IsPlainTerm k t
plain_term k n (index i) e w = tt
plain_term k n (atom (constant c ts)) e w = (e, w)
plain_term k n (atom (integer z)) e w = tt
plain_term k n (atom (text s)) e w = tt
plain_term k n (atom (eigen j)) e w = tt
plain_term k n (atom (logic x l)) e w = tt
plain_term k n (atom (param j T)) e w = w
plain_term k n (abs b) e w = plain_term k (suc n) b e w
plain_term k n (app t u) e w = let b = both_true (is_positive t) (is_positive u) e in (plain_term k n t b.0 w.0, plain_term k n u b.1 w.1)

pub plain_spine : (k n : ℕ) (t : Term) (more : List Term) → are_positive (arguments_and t more) ≡ true → Within (IsQueryAtom k) n t → IsPlainTerm k (head_of t) → IsPlainTerm k t × (are_positive more ≡ true)
plain_spine k n (index i) more e w h = (tt, e)
plain_spine k n (atom a) more e w h = (h, e)
plain_spine k n (abs b) more e w h = (h, e)
plain_spine k n (app t u) more e w h =
    let r = plain_spine k n t (u ∷ more) e w.0 h in
    let b = both_true (is_positive u) (are_positive more) r.1 in
    ((r.0, plain_term k n u b.0 w.1), b.1)

pub clause_head : (d : Declared) (B : List Bool) (h : Term) → is_clause_head d B h ≡ true → IsClauseHead B h
clause_head d B (index i) e = e
clause_head d B (atom (constant c ts)) e = not_above 32 c (both_true (is_declared c) (heads_clauses (d c)) e).0
clause_head d B (atom (eigen j)) e = tt
clause_head d B (atom (integer z)) e = absurd (cc)
clause_head d B (atom (text s)) e = absurd (cc)
clause_head d B (atom (logic x l)) e = absurd (cc)
clause_head d B (atom (param j T)) e = absurd (cc)
clause_head d B (abs b) e = absurd (cc)
clause_head d B (app t u) e = absurd (cc)

pub plain_clause_head : (k n : ℕ) (B : List Bool) (h : Term) → IsClauseHead B h → Within (IsQueryAtom k) n h → IsPlainTerm k h
plain_clause_head k n B (index i) e w = tt
plain_clause_head k n B (atom (constant c ts)) e w = let m : 32 ≤ c = e in (declared_is_positive c m, w)
plain_clause_head k n B (atom (eigen j)) e w = tt
plain_clause_head k n B (atom (integer z)) e w = tt
plain_clause_head k n B (atom (text s)) e w = tt
plain_clause_head k n B (atom (logic x l)) e w = tt
plain_clause_head k n B (atom (param j T)) e w = w
plain_clause_head k n B (abs b) e w = absurd e
plain_clause_head k n B (app t u) e w = absurd e
