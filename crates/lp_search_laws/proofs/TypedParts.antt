-- The parts of typed goals and clauses over variables, and their atoms.
use Rattle.std.proofs.Common.{◌≡◌, ℕ, zero, suc, List, [], ◌∷◌, ◌++◌, map, Option, Some, ◌∙◌, refl, sym, ap, subst as transport, arith, Bool, true, false}
use Rattle.std.specs.Prelude.{slice_index_or}
use Rattle.lp_unify_laws.specs.TypesBelow.{AreTypesBelow}
use Rattle.lp_calculus.specs.Types.{Ty, arrow}
use Rattle.lp_calculus.specs.Term.{Term, Atom, index, atom, abs, app, shift, substitute, constant, integer, text, eigen, logic, param}
use Rattle.lp_calculus.specs.Convert.{ReducesTo}
use Rattle.lp_calculus.specs.Fill.{Within}
use Rattle.lp_calculus.specs.Typing.{Typed, scheme_type, o_type}
use Rattle.lp_calculus.specs.Closed.{AllAtoms}
use Rattle.lp_calculus.proofs.Steps.{within_reduces}
use Rattle.lp_calculus.proofs.BetaEta.{shift_one}
use Rattle.lp_calculus.proofs.Sigma.{rename}
use Rattle.lp_lemmas.specs.Each.{EachOf}
use Rattle.lp_model.specs.Index.{instantiate, lifted}
use Rattle.lp_calculus.specs.Spine.{head_of}
use Rattle.lp_standard.specs.Connectives.{two, not_of, body_of}
use Rattle.lp_standard.specs.Schemes.{IsStandard}
use Rattle.lp_model.specs.Flat.{Goal, Atomic, Cut, Either, Exists, Forall, Assume, Not, Goals, no_goals, goals, Clause, clause, Clauses, no_clauses, clauses, goal_list, clause_list, under_all, map_goal, map_goals, map_clause, map_clauses, same_type, formula_of_goal, formula_of_goals, formula_of_clause, formula_of_clauses}
use Rattle.lp_model.specs.Proofs.{Declared}
use Rattle.lp_model.specs.Answers.{Variable, over, IsPrefix}
use Rattle.lp_unify_laws.specs.Solutions.{IsMore}
use Rattle.lp_unify_laws.proofs.TypedBindings.{term_reduces, term_more, term_wider}
use Rattle.lp_proof_laws.proofs.Uniform.Roots.{connective}
use Rattle.lp_search_laws.specs.Holds.{IsTyped}
use Rattle.lp_search_laws.specs.Clauses.{own_types}
use Rattle.lp_search_laws.specs.Branches.{IsPlainAtom, IsPlainTerm, IsClauseHead, IsGoal, AreGoals, IsClause, AreClauses, IsAssumable}
use Rattle.lp_search_laws.proofs.Closed.{body_opens}

two_is : (o : Option Ty) (X Y : Ty) → o ≡ Some (arrow o_type (arrow o_type o_type)) → o ≡ Some (arrow Y (arrow X o_type)) → (Y ≡ o_type) × (X ≡ o_type)
two_is o X Y e f =
    let g : Some (arrow o_type (arrow o_type o_type)) ≡ Some (arrow Y (arrow X o_type)) = sym e ∙ f in
    let h : Y ≡ o_type = cc in
    let k : X ≡ o_type = cc in
    (h, k)

quantifier_is : (o : Option Ty) (T X : Ty) → o ≡ Some (arrow (arrow T o_type) o_type) → o ≡ Some (arrow X o_type) → X ≡ arrow T o_type
quantifier_is o T X e f = let g : Some (arrow (arrow T o_type) o_type) ≡ Some (arrow X o_type) = sym e ∙ f in cc

pub both_typed : (d : Declared) (E : List Ty) (V : List Variable) (c : ℕ) (A B : Term) → scheme_type [] (d c) ≡ Some (arrow o_type (arrow o_type o_type)) → IsTyped d E V (two c [] A B) o_type → IsTyped d E V A o_type × IsTyped d E V B o_type
both_typed d E V c A B s h =
    let t = h.typed in
    let e = two_is (scheme_type [] (d c)) t.0 t.1.0 s t.1.1 in
    (record { typed = transport (Typed (over d E V) [] A) e.0 t.1.2; scoped = h.scoped.0.1 }, record { typed = transport (Typed (over d E V) [] B) e.1 t.2; scoped = h.scoped.1 })

pub function_typed : (d : Declared) (E : List Ty) (V : List Variable) (c : ℕ) (T : Ty) (s : Term) → scheme_type (T ∷ []) (d c) ≡ Some (arrow (arrow T o_type) o_type) → IsTyped d E V (app (atom (constant c (T ∷ []))) s) o_type → IsTyped d E V s (arrow T o_type)
function_typed d E V c T s e h = record { typed = transport (Typed (over d E V) [] s) (quantifier_is (scheme_type (T ∷ []) (d c)) T h.typed.0 e h.typed.1) h.typed.2; scoped = h.scoped.1 }

pub typed_reduced : (d : Declared) (E : List Ty) (V : List Variable) (T : Ty) (t u : Term) → ReducesTo t u → IsTyped d E V t T → IsTyped d E V u T
typed_reduced d E V T t u r h = let x = term_reduces d E V T r (record { typed = h.typed; scoped = h.scoped }) in record { typed = x.typed; scoped = x.scoped }

pub typed_wider : (d : Declared) (E F : List Ty) (V W : List Variable) → IsPrefix E F → IsMore V W → (t : Term) (T : Ty) → IsTyped d E V t T → IsTyped d F W t T
typed_wider d E F V W p m t T h =
    let a = term_wider d E F V p t T (record { typed = h.typed; scoped = h.scoped }) in
    let b = term_more d F V W m t T (record { typed = a.typed; scoped = a.scoped }) in
    record { typed = b.typed; scoped = b.scoped }

-- the body of a quantifier at a term
pub opened_typed : (d : Declared) (F : List Ty) (W : List Variable) (T : Ty) (s u : Term) → IsTyped d F W s (arrow T o_type) → IsTyped d F W u T → IsTyped d F W (substitute u (body_of s)) o_type
opened_typed d F W T s u h k = typed_reduced d F W o_type (app s u) (substitute u (body_of s)) (body_opens s u) (record { typed = (T, h.typed, k.typed); scoped = (h.scoped, k.scoped) })

pub goals_typed : (d : Declared) → IsStandard d → (E : List Ty) (V : List Variable) (gs : Goals) → IsTyped d E V (formula_of_goals gs) o_type → EachOf (λ g. IsTyped d E V (formula_of_goal g) o_type) (goal_list gs)
goals_typed d std E V no_goals h = tt
goals_typed d std E V (goals g no_goals) h = (h, tt)
goals_typed d std E V (goals g (goals h gs)) w = let r = both_typed d E V 0 (formula_of_goal g) (formula_of_goals (goals h gs)) (connective d std 0 (omega arith)) w in (r.0, goals_typed d std E V (goals h gs) r.1)

pub goals_together : (d : Declared) → IsStandard d → (E : List Ty) (V : List Variable) (gs : Goals) → EachOf (λ g. IsTyped d E V (formula_of_goal g) o_type) (goal_list gs) → IsTyped d E V (formula_of_goals gs) o_type
goals_together d std E V no_goals h = record { typed = ap (scheme_type []) (std.at 6 (omega arith)); scoped = tt }
goals_together d std E V (goals g no_goals) h = h.0
goals_together d std E V (goals g (goals k gs)) h =
    let r = goals_together d std E V (goals k gs) h.1 in
    record { typed = (o_type, (o_type, connective d std 0 (omega arith), h.0.typed), r.typed); scoped = ((tt, h.0.scoped), r.scoped) }

pub clauses_typed : (d : Declared) → IsStandard d → (E : List Ty) (V : List Variable) (cs : Clauses) → IsTyped d E V (formula_of_clauses cs) o_type → EachOf (λ c. IsTyped d E V (formula_of_clause c) o_type) (clause_list cs)
clauses_typed d std E V no_clauses h = tt
clauses_typed d std E V (clauses c no_clauses) h = (h, tt)
clauses_typed d std E V (clauses c (clauses e cs)) w = let r = both_typed d E V 0 (formula_of_clause c) (formula_of_clauses (clauses e cs)) (connective d std 0 (omega arith)) w in (r.0, clauses_typed d std E V (clauses e cs) r.1)

-- atoms
within_all : (P Q : Atom → Type 0) (n : ℕ) (t : Term) → Within Q n t → AllAtoms P t → Within P n t
within_all P Q n (index i) w h = w
within_all P Q n (atom a) w h = h
within_all P Q n (abs b) w h = within_all P Q (suc n) b w h
within_all P Q n (app t u) w h = (within_all P Q n t w.0 h.0, within_all P Q n u w.1 h.1)

all_within : (P : Atom → Type 0) (n : ℕ) (t : Term) → Within P n t → AllAtoms P t
all_within P n (index i) w = tt
all_within P n (atom a) w = w
all_within P n (abs b) w = all_within P (suc n) b w
all_within P n (app t u) w = (all_within P n t w.0, all_within P n u w.1)

-- reduction brings no atom, where no index is loose
pub plain_reduced : (P Q : Atom → Type 0) (t u : Term) → ReducesTo t u → Within Q 0 t → AllAtoms P t → AllAtoms P u
plain_reduced P Q t u r w h = all_within P 0 u (within_reduces P 0 r (within_all P Q 0 t w h))

pub plain_opened : (P Q : Atom → Type 0) (s u : Term) → Within Q 0 s → Within Q 0 u → AllAtoms P s → AllAtoms P u → AllAtoms P (substitute u (body_of s))
plain_opened P Q s u v w h k = plain_reduced P Q (app s u) (substitute u (body_of s)) (body_opens s u) (v, w) (h, k)

all_rename : (P : Atom → Type 0) (ρ : ℕ → ℕ) (t : Term) → AllAtoms P t → AllAtoms P (rename ρ t)
all_rename P ρ (index i) h = tt
all_rename P ρ (atom a) h = h
all_rename P ρ (abs b) h = all_rename P _ b h
all_rename P ρ (app t u) h = (all_rename P ρ t h.0, all_rename P ρ u h.1)

all_shift : (P : Atom → Type 0) (t : Term) → AllAtoms P t → AllAtoms P (shift 0 1 t)
all_shift P t h = transport (AllAtoms P) (sym (shift_one t)) (all_rename P suc t h)

-- terms put for indices: positive ones, and for an index that may stand at the head of a clause such a head
pub record MayPut (k : ℕ) (B D : List Bool) (f : ℕ → Term) : Type 0 where
  pub plain : (i : ℕ) → IsPlainTerm k (f i)
  pub heads : (i : ℕ) → slice_index_or B i false ≡ true → IsClauseHead D (head_of (f i))

head_rename : (x : Bool) (D : List Bool) (t : Term) → IsClauseHead D (head_of t) → IsClauseHead (x ∷ D) (head_of (rename suc t))
head_rename x D (index i) h = h
head_rename x D (atom (constant c ts)) h = h
head_rename x D (atom (eigen k)) h = h
head_rename x D (atom (integer z)) h = h
head_rename x D (atom (text s)) h = h
head_rename x D (atom (logic y l)) h = h
head_rename x D (atom (param k T)) h = h
head_rename x D (abs b) h = h
head_rename x D (app t u) h = head_rename x D t h

put_below : (k : ℕ) (x : Bool) (B D : List Bool) (f : ℕ → Term) → MayPut k B D f → MayPut k (x ∷ B) (x ∷ D) (lifted f)
put_below k x B D f h = record { plain = plain; heads = heads }
  where
    plain : (i : ℕ) → IsPlainTerm k (lifted f i)
    plain zero = tt
    plain (suc i) = all_shift (IsPlainAtom k) (f i) (h.plain i)

    heads : (i : ℕ) → slice_index_or (x ∷ B) i false ≡ true → IsClauseHead (x ∷ D) (head_of (lifted f i))
    heads zero e = e
    heads (suc i) e = transport (λ t. IsClauseHead (x ∷ D) (head_of t)) (sym (shift_one (f i))) (head_rename x D (f i) (h.heads i e))

put_below_all : (k : ℕ) (vs : List Ty) (B D : List Bool) (f : ℕ → Term) → MayPut k B D f → MayPut k (map (λ v. false) vs ++ B) (map (λ v. false) vs ++ D) (under_all lifted vs f)
put_below_all k [] B D f h = h
put_below_all k (v ∷ vs) B D f h = put_below k false (map (λ w. false) vs ++ B) (map (λ w. false) vs ++ D) (under_all lifted vs f) (put_below_all k vs B D f h)

term_put : (k : ℕ) (f : ℕ → Term) → ((i : ℕ) → IsPlainTerm k (f i)) → (t : Term) → IsPlainTerm k t → IsPlainTerm k (instantiate f t)
term_put k f h (index i) w = h i
term_put k f h (atom a) w = w
term_put k f h (abs b) w = term_put k (lifted f) below b w
  where
    below : (i : ℕ) → IsPlainTerm k (lifted f i)
    below zero = tt
    below (suc i) = all_shift (IsPlainAtom k) (f i) (h i)
term_put k f h (app t u) w = (term_put k f h t w.0, term_put k f h u w.1)

head_put : (k : ℕ) (B D : List Bool) (f : ℕ → Term) → MayPut k B D f → (t : Term) → IsClauseHead B (head_of t) → IsClauseHead D (head_of (instantiate f t))
head_put k B D f m (index i) h = m.heads i h
head_put k B D f m (atom (constant c ts)) h = h
head_put k B D f m (atom (eigen j)) h = h
head_put k B D f m (atom (integer z)) h = h
head_put k B D f m (atom (text s)) h = h
head_put k B D f m (atom (logic y l)) h = h
head_put k B D f m (atom (param j T)) h = h
head_put k B D f m (abs b) h = h
head_put k B D f m (app t u) h = head_put k B D f m t h

same_types : (vs : List Ty) → map same_type vs ≡ vs
same_types [] = refl
same_types (v ∷ vs) = ap (λ us. v ∷ us) (same_types vs)

own_put : (f : ℕ → Term) (c : Clause) → own_types c ≡ 0 → own_types (map_clause lifted instantiate same_type f c) ≡ 0
own_put f (clause n vs h b) e = e

mutual
  pub goal_put : (k : ℕ) (B D : List Bool) (f : ℕ → Term) → MayPut k B D f → (g : Goal) → IsGoal k B g → IsGoal k D (map_goal lifted instantiate same_type f g)
  goal_put k B D f m (Atomic t) h = term_put k f m.plain t h
  goal_put k B D f m Cut h = tt
  goal_put k B D f m (Either gs hs) h = (goals_put k B D f m gs h.0, goals_put k B D f m hs h.1)
  goal_put k B D f m (Exists T gs) h = (h.0, goals_put k (false ∷ B) (false ∷ D) (lifted f) (put_below k false B D f m) gs h.1)
  goal_put k B D f m (Forall T gs) h = (h.0, goals_put k (true ∷ B) (true ∷ D) (lifted f) (put_below k true B D f m) gs h.1)
  goal_put k B D f m (Assume ws cs gs) h = (clauses_put k B D f m cs h.0, goals_put k B D f m gs h.1)
  goal_put k B D f m (Not ws gs) h = goals_put k B D f m gs h

  pub goals_put : (k : ℕ) (B D : List Bool) (f : ℕ → Term) → MayPut k B D f → (gs : Goals) → AreGoals k B gs → AreGoals k D (map_goals lifted instantiate same_type f gs)
  goals_put k B D f m no_goals h = tt
  goals_put k B D f m (goals g gs) h = (goal_put k B D f m g h.0, goals_put k B D f m gs h.1)

  pub clause_put : (k : ℕ) (B D : List Bool) (f : ℕ → Term) → MayPut k B D f → (c : Clause) → IsClause k B c → IsClause k D (map_clause lifted instantiate same_type f c)
  clause_put k B D f m (clause n vs h b) w =
      let l = put_below_all k vs B D f m in
      transport (λ us. AreTypesBelow k us × IsClauseHead (map (λ v. false) us ++ D) (head_of (instantiate (under_all lifted vs f) h)) × IsPlainTerm k
      (instantiate (under_all lifted vs f) h) × AreGoals k (map (λ v. false) us ++ D)
      (map_goals lifted instantiate same_type (under_all lifted vs f) b)) (sym (same_types vs)) (
        w.0,
        head_put k (map (λ v. false) vs ++ B) (map (λ v. false) vs ++ D) (under_all lifted vs f) l h w.1,
        term_put k (under_all lifted vs f) l.plain h w.2,
        goals_put k (map (λ v. false) vs ++ B) (map (λ v. false) vs ++ D) (under_all lifted vs f) l b w.3,
      )

  pub clauses_put : (k : ℕ) (B D : List Bool) (f : ℕ → Term) → MayPut k B D f → (cs : Clauses) → AreClauses k B cs → AreClauses k D (map_clauses lifted instantiate same_type f cs)
  clauses_put k B D f m no_clauses h = tt
  clauses_put k B D f m (clauses c cs) h = (own_put f c h.0, clause_put k B D f m c h.1, clauses_put k B D f m cs h.2)

-- lists
pub goals_each : (k : ℕ) (B : List Bool) (gs : Goals) → AreGoals k B gs → EachOf (IsGoal k B) (goal_list gs)
goals_each k B no_goals h = tt
goals_each k B (goals g gs) h = (h.0, goals_each k B gs h.1)

pub clauses_each : (k : ℕ) (cs : Clauses) → AreClauses k [] cs → EachOf (IsAssumable k) (clause_list cs)
clauses_each k no_clauses h = tt
clauses_each k (clauses c cs) h = ((h.0, h.1), clauses_each k cs h.2)

-- what is denied
denied_is : (o : Option Ty) (X : Ty) → o ≡ Some (arrow o_type o_type) → o ≡ Some (arrow X o_type) → X ≡ o_type
denied_is o X e f = let g : Some (arrow o_type o_type) ≡ Some (arrow X o_type) = sym e ∙ f in cc

pub argument_typed : (d : Declared) → IsStandard d → (E : List Ty) (V : List Variable) (g : Term) → IsTyped d E V (not_of g) o_type → IsTyped d E V g o_type
argument_typed d std E V g h = record {
  typed = transport (Typed (over d E V) [] g) (denied_is (scheme_type [] (d 24)) h.typed.0 (ap (scheme_type []) (std.at 24 (omega arith))) h.typed.1) h.typed.2;
  scoped = h.scoped.1;
}
