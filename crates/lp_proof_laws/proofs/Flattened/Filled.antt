-- Flattened goals with terms for their variables and types for their type variables: what is put into them is put into these terms and types.
use Rattle.std.proofs.Common.{◌≡◌, ℕ, zero, suc, ◌≤◌, List, [], ◌∷◌, map, Some, refl, sym, ap, ◌∙◌, subst as transport, arith, Bool, true, false, if◌then◌else◌, nat_eq}
use Rattle.std.specs.Prelude.{◌&&◌}
use Rattle.std.proofs.lemmas.Bool.Decides.{nat_tests}
use mathlib.Core.Path.{fun_ext}
use Rattle.lp_calculus.specs.Types.{Ty, instance}
use Rattle.lp_calculus.specs.Term.{Term, index, atom, abs, app, shift, Atom, constant, integer, text, eigen, logic, param}
use Rattle.lp_calculus.specs.Fill.{Binding, fill, raise, at_variables, one, put}
use Rattle.lp_calculus.specs.Instance.{instance_term}
use Rattle.lp_calculus.specs.Closed.{AllAtoms}
use Rattle.lp_calculus.proofs.Sigma.{subst, up, rename, rename-rename}
use Rattle.lp_calculus.proofs.Plain.{bump, shift-rename}
use Rattle.lp_calculus.proofs.BetaEta.{shift_one}
use Rattle.lp_calculus.proofs.Fills.{up_suc}
use Rattle.lp_calculus.proofs.Commutations.{fill_shift}
use Rattle.lp_calculus.proofs.TypeLaws.{instance-instance}
use Rattle.lp_model.specs.Index.{instantiate, lifted}
use Rattle.lp_model.specs.Flat.{Goal, Atomic, Cut, Either, Exists, Forall, Assume, Not, Goals, no_goals, goals, Clause, clause, Clauses, no_clauses, clauses, formula_of_goals, formula_of_clauses, same_type, map_goals, map_clauses, raise_goals, instantiate_goals, type_goals, instantiate_clauses, type_clauses}
use Rattle.lp_model.specs.Flatten.{flat_goal, flat_clause}
use Rattle.lp_model.specs.Proofs.{Declared, Filling, IsFilling, StandsForGoal, StandsForClause}
use Rattle.lp_model.specs.Variables.{Variable, IsFormulaOver}
use Rattle.lp_calculus.proofs.Steps.{converts_is}
use Rattle.lp_lemmas.specs.Each.{EachOf}
use Rattle.lp_proof_laws.proofs.Flattened.Made.{goals_flatten_again, clauses_flatten_again}
use Rattle.lp_proof_laws.proofs.Flattened.TypedFlat.{goals_formula, clauses_formula}
use Rattle.lp_proof_laws.proofs.Flattened.Instantiated.{goals_instantiate, clauses_instantiate}
use Rattle.lp_proof_laws.specs.Filled.{IsSourceAtom, filled_term, filled_goals, filled_clauses}
use Rattle.lp_proof_laws.specs.Terms.{IsTermOf, AreTermsOf, IsClauseOf, AreClausesOf}
use Rattle.lp_proof_laws.proofs.Uniform.Openings.{instantiate_subst, lifted_up}
use Rattle.lp_proof_laws.proofs.Flattened.TypedForms.{shift_typed}
use Rattle.lp_proof_laws.proofs.Flattened.Fused.{goals_fused, clauses_fused}

app_is : {t s u v : Term} → t ≡ s → u ≡ v → app t u ≡ app s v
app_is p q = λ i. app (p i) (q i)

abbrev Source : Term → Type 0
Source t = AllAtoms IsSourceAtom t

-- below one more abstraction
pub lifted_past : (σ : ℕ → Term) (t : Term) → instantiate (lifted σ) (shift 0 1 t) ≡ shift 0 1 (instantiate σ t)
lifted_past σ t =
    instantiate_subst (lifted σ) (shift 0 1 t) ∙ ap (λ f. subst f (shift 0 1 t)) (fun_ext (lifted_up σ)) ∙ ap (subst (up σ)) (shift_one t) ∙ sym (up_suc σ t) ∙ sym (shift_one (subst σ t)) ∙ ap (shift 0 1) (sym (instantiate_subst σ t))

bumped : (from j : ℕ) → bump 1 (suc from) (suc j) ≡ suc (bump 1 from j)
bumped from j = grind (arith, nat_tests)

pub shift_past : (from : ℕ) (t : Term) → shift (suc from) 1 (shift 0 1 t) ≡ shift 0 1 (shift from 1 t)
shift_past from t =
    shift-rename (suc from) 1 (shift 0 1 t) ∙ ap (rename (bump 1 (suc from))) (shift_one t) ∙ rename-rename suc (bump 1 (suc from)) t ∙ ap (λ ρ. rename ρ t) (fun_ext (bumped from)) ∙
    sym (shift_one (shift from 1 t) ∙ ap (rename suc) (shift-rename from 1 t) ∙ rename-rename (bump 1 from) suc t)

-- one change of terms and then another, where σ gives τ: below a binder, and of each term
abbrev Gives : (Term → Term) → (σ τ : ℕ → Term) → Type 0
Gives f σ τ = (i : ℕ) → f (σ i) ≡ τ i

lifted_gives : (f g : Term → Term) → ((t : Term) → g (shift 0 1 t) ≡ shift 0 1 (f t)) → g (index 0) ≡ index 0 → (σ τ : ℕ → Term) → Gives f σ τ → Gives g (lifted σ) (lifted τ)
lifted_gives f g past none σ τ h zero = none
lifted_gives f g past none σ τ h (suc i) = past (σ i) ∙ ap (shift 0 1) (h i)

-- bindings
if_shut : (x : Bool) (t u : Term) → shift 0 1 t ≡ t → shift 0 1 u ≡ u → shift 0 1 (if x then t else u) ≡ (if x then t else u)
if_shut true t u e h = e
if_shut false t u e h = h

pub one_shut : (b : Binding) → shift 0 1 b.value ≡ b.value → (a : Atom) → raise (at_variables (one b)) a ≡ at_variables (one b) a
one_shut b e (logic x l) = if_shut (nat_eq x b.id && nat_eq l b.level) b.value (atom (logic x l)) e refl
one_shut b e (constant c ts) = refl
one_shut b e (integer z) = refl
one_shut b e (text s) = refl
one_shut b e (eigen k) = refl
one_shut b e (param k T) = refl

module _ (b : Binding) (shut : shift 0 1 b.value ≡ b.value) where
  put_past : (t : Term) → put b (shift 0 1 t) ≡ shift 0 1 (put b t)
  put_past t = ap (λ f. fill f (shift 0 1 t)) (sym (fun_ext (one_shut b shut))) ∙ fill_shift (at_variables (one b)) 0 1 t

  put_lifted : (σ τ : ℕ → Term) → Gives (put b) σ τ → Gives (put b) (lifted σ) (lifted τ)
  put_lifted σ τ h = lifted_gives (put b) (put b) put_past refl σ τ h

  put_source : (θ : ℕ → Ty) (a : Atom) → IsSourceAtom a → put b (instance_term θ (atom a)) ≡ instance_term θ (atom a)
  put_source θ (logic x l) h = absurd h
  put_source θ (constant c ts) h = refl
  put_source θ (integer z) h = refl
  put_source θ (text s) h = refl
  put_source θ (eigen k) h = refl
  put_source θ (param k T) h = refl

  put_term : (θ : ℕ → Ty) (σ τ : ℕ → Term) → Gives (put b) σ τ → (t : Term) → Source t → put b (filled_term θ σ t) ≡ filled_term θ τ t
  put_term θ σ τ h (index i) w = h i
  put_term θ σ τ h (atom a) w = put_source θ a w
  put_term θ σ τ h (abs t) w = ap (λ f. abs (fill f (filled_term θ (lifted σ) t))) (fun_ext (one_shut b shut)) ∙ ap abs (put_term θ (lifted σ) (lifted τ) (put_lifted σ τ h) t w)
  put_term θ σ τ h (app t u) w = app_is (put_term θ σ τ h t w.0) (put_term θ σ τ h u w.1)

  pub put_filled_goals : (u : ℕ) (θ : ℕ → Ty) (σ : ℕ → Term) (gs : Goals) → AreTermsOf Source gs → map_goals (λ (u : ℕ). u) (λ u t. put b t) same_type u (filled_goals θ σ gs) ≡ filled_goals θ (λ i. put b (σ i)) gs
  put_filled_goals u θ σ gs h =
      goals_fused lifted (filled_term θ) (instance θ) (λ u. u) (λ u t. put b t) same_type lifted (filled_term θ) (instance θ) Source (λ σ u τ. Gives (put b) σ τ) (λ σ u τ h. put_lifted σ τ h) (λ σ u τ h t w. put_term θ σ τ h t w) (λ T. refl) σ u (λ i. put b (σ i)) (λ i. refl) gs h

  pub put_filled_clauses : (u : ℕ) (θ : ℕ → Ty) (σ : ℕ → Term) (cs : Clauses) → AreClausesOf Source cs → map_clauses (λ (u : ℕ). u) (λ u t. put b t) same_type u (filled_clauses θ σ cs) ≡ filled_clauses θ (λ i. put b (σ i)) cs
  put_filled_clauses u θ σ cs h =
      clauses_fused lifted (filled_term θ) (instance θ) (λ u. u) (λ u t. put b t) same_type lifted (filled_term θ) (instance θ) Source (λ σ u τ. Gives (put b) σ τ) (λ σ u τ h. put_lifted σ τ h) (λ σ u τ h t w. put_term θ σ τ h t w) (λ T. refl) σ u (λ i. put b (σ i)) (λ i. refl) cs h

-- no condition on the terms
abbrev Any : Term → Type 0
Any t = Unit {0}

any_each : (ts : List Term) → EachOf Any ts
any_each [] = tt
any_each (t ∷ ts) = (tt, any_each ts)

mutual
  any_goal : (g : Goal) → IsTermOf Any g
  any_goal (Atomic t) = tt
  any_goal Cut = tt
  any_goal (Either x z) = (any_goals x, any_goals z)
  any_goal (Exists T x) = any_goals x
  any_goal (Forall T x) = any_goals x
  any_goal (Assume w cs x) = (any_each w.terms, any_clauses cs, any_goals x)
  any_goal (Not w x) = (any_each w.terms, any_goals x)

  any_goals : (gs : Goals) → AreTermsOf Any gs
  any_goals no_goals = tt
  any_goals (goals g gs) = (any_goal g, any_goals gs)

  any_clause : (c : Clause) → IsClauseOf Any c
  any_clause (clause n vs h b) = (tt, any_goals b)

  any_clauses : (cs : Clauses) → AreClausesOf Any cs
  any_clauses no_clauses = tt
  any_clauses (clauses c cs) = (any_clause c, any_clauses cs)

-- types for type variables
module _ (κ : ℕ → Ty) where
  abbrev then_types : (ℕ → Ty) → ℕ → Ty
  then_types θ i = instance κ (θ i)

  types_twice : (θ : ℕ → Ty) (ts : List Ty) → map (instance κ) (map (instance θ) ts) ≡ map (instance (then_types θ)) ts
  types_twice θ [] = refl
  types_twice θ (t ∷ ts) = let e = instance-instance θ κ t in let f = types_twice θ ts in λ i. e i ∷ f i

  atom_twice : (θ : ℕ → Ty) (a : Atom) → instance_term κ (instance_term θ (atom a)) ≡ instance_term (then_types θ) (atom a)
  atom_twice θ (constant c ts) = ap (λ z. atom (constant c z)) (types_twice θ ts)
  atom_twice θ (param k T) = ap (λ z. atom (param k z)) (instance-instance θ κ T)
  atom_twice θ (integer z) = refl
  atom_twice θ (text s) = refl
  atom_twice θ (eigen k) = refl
  atom_twice θ (logic x l) = refl

  type_lifted : (σ τ : ℕ → Term) → Gives (instance_term κ) σ τ → Gives (instance_term κ) (lifted σ) (lifted τ)
  type_lifted σ τ h = lifted_gives (instance_term κ) (instance_term κ) (shift_typed κ 0 1) refl σ τ h

  type_term : (θ : ℕ → Ty) (σ τ : ℕ → Term) → Gives (instance_term κ) σ τ → (t : Term) → instance_term κ (filled_term θ σ t) ≡ filled_term (λ i. instance κ (θ i)) τ t
  type_term θ σ τ h (index i) = h i
  type_term θ σ τ h (atom a) = atom_twice θ a
  type_term θ σ τ h (abs t) = ap abs (type_term θ (lifted σ) (lifted τ) (type_lifted σ τ h) t)
  type_term θ σ τ h (app t u) = app_is (type_term θ σ τ h t) (type_term θ σ τ h u)

  pub type_filled_goals : (u : ℕ) (θ : ℕ → Ty) (σ : ℕ → Term) (gs : Goals) → map_goals (λ (u : ℕ). u) (λ u t. instance_term κ t) (instance κ) u (filled_goals θ σ gs) ≡ filled_goals (λ i. instance κ (θ i)) (λ i. instance_term κ (σ i)) gs
  type_filled_goals u θ σ gs =
      goals_fused lifted (filled_term θ) (instance θ) (λ (u : ℕ). u) (λ u t. instance_term κ t) (instance κ) lifted
      (filled_term (λ i. instance κ (θ i))) (instance (λ i. instance κ (θ i))) Any (λ σ u τ. Gives (instance_term κ) σ τ)
      (λ σ u τ h. type_lifted σ τ h) (λ σ u τ h t w. type_term θ σ τ h t) (instance-instance θ κ) σ u (λ i. instance_term κ (σ i)) (λ i. refl) gs
      (any_goals gs)

  pub type_filled_clauses : (u : ℕ) (θ : ℕ → Ty) (σ : ℕ → Term) (cs : Clauses) → map_clauses (λ (u : ℕ). u) (λ u t. instance_term κ t) (instance κ) u (filled_clauses θ σ cs) ≡ filled_clauses (λ i. instance κ (θ i)) (λ i. instance_term κ (σ i)) cs
  type_filled_clauses u θ σ cs =
      clauses_fused lifted (filled_term θ) (instance θ) (λ (u : ℕ). u) (λ u t. instance_term κ t) (instance κ) lifted
      (filled_term (λ i. instance κ (θ i))) (instance (λ i. instance κ (θ i))) Any (λ σ u τ. Gives (instance_term κ) σ τ)
      (λ σ u τ h. type_lifted σ τ h) (λ σ u τ h t w. type_term θ σ τ h t) (instance-instance θ κ) σ u (λ i. instance_term κ (σ i)) (λ i. refl) cs
      (any_clauses cs)

-- terms for loose indices
instantiate_lifted : (σ γ τ : ℕ → Term) → Gives (instantiate γ) σ τ → Gives (instantiate (lifted γ)) (lifted σ) (lifted τ)
instantiate_lifted σ γ τ h = lifted_gives (instantiate γ) (instantiate (lifted γ)) (lifted_past γ) refl σ τ h

instantiate_term : (θ : ℕ → Ty) (σ γ τ : ℕ → Term) → Gives (instantiate γ) σ τ → (t : Term) → instantiate γ (filled_term θ σ t) ≡ filled_term θ τ t
instantiate_term θ σ γ τ h (index i) = h i
instantiate_term θ σ γ τ h (atom a) = refl
instantiate_term θ σ γ τ h (abs t) = ap abs (instantiate_term θ (lifted σ) (lifted γ) (lifted τ) (instantiate_lifted σ γ τ h) t)
instantiate_term θ σ γ τ h (app t u) = app_is (instantiate_term θ σ γ τ h t) (instantiate_term θ σ γ τ h u)

pub instantiate_filled_goals : (γ : ℕ → Term) (θ : ℕ → Ty) (σ : ℕ → Term) (gs : Goals) → instantiate_goals γ (filled_goals θ σ gs) ≡ filled_goals θ (λ i. instantiate γ (σ i)) gs
instantiate_filled_goals γ θ σ gs =
    goals_fused lifted (filled_term θ) (instance θ) lifted instantiate same_type lifted (filled_term θ) (instance θ) Any (λ σ γ τ. Gives (instantiate γ) σ τ) instantiate_lifted (λ σ γ τ h t w. instantiate_term θ σ γ τ h t) (λ T. refl) σ γ (λ i. instantiate γ (σ i)) (λ i. refl) gs (any_goals gs)

pub instantiate_filled_clauses : (γ : ℕ → Term) (θ : ℕ → Ty) (σ : ℕ → Term) (cs : Clauses) → instantiate_clauses γ (filled_clauses θ σ cs) ≡ filled_clauses θ (λ i. instantiate γ (σ i)) cs
instantiate_filled_clauses γ θ σ cs =
    clauses_fused lifted (filled_term θ) (instance θ) lifted instantiate same_type lifted (filled_term θ) (instance θ) Any (λ σ γ τ. Gives (instantiate γ) σ τ) instantiate_lifted (λ σ γ τ h t w. instantiate_term θ σ γ τ h t) (λ T. refl) σ γ (λ i. instantiate γ (σ i)) (λ i. refl) cs (any_clauses cs)

-- raised indices
raised_first : (n : ℕ) → shift (suc n) 1 (index 0) ≡ index 0
raised_first n = grind (arith, nat_tests)

shift_lifted : (σ : ℕ → Term) (n : ℕ) (τ : ℕ → Term) → Gives (shift n 1) σ τ → Gives (shift (suc n) 1) (lifted σ) (lifted τ)
shift_lifted σ n τ h = lifted_gives (shift n 1) (shift (suc n) 1) (shift_past n) (raised_first n) σ τ h

shift_term : (θ : ℕ → Ty) (σ : ℕ → Term) (n : ℕ) (τ : ℕ → Term) → Gives (shift n 1) σ τ → (t : Term) → shift n 1 (filled_term θ σ t) ≡ filled_term θ τ t
shift_term θ σ n τ h (index i) = h i
shift_term θ σ n τ h (atom a) = refl
shift_term θ σ n τ h (abs t) = ap abs (shift_term θ (lifted σ) (suc n) (lifted τ) (shift_lifted σ n τ h) t)
shift_term θ σ n τ h (app t u) = app_is (shift_term θ σ n τ h t) (shift_term θ σ n τ h u)

pub raise_filled_goals : (n : ℕ) (θ : ℕ → Ty) (σ : ℕ → Term) (gs : Goals) → raise_goals n (filled_goals θ σ gs) ≡ filled_goals θ (λ i. shift n 1 (σ i)) gs
raise_filled_goals n θ σ gs =
    goals_fused lifted (filled_term θ) (instance θ) suc (λ d t. shift d 1 t) same_type lifted (filled_term θ) (instance θ) Any (λ σ n τ. Gives (shift n 1) σ τ) shift_lifted (λ σ n τ h t w. shift_term θ σ n τ h t) (λ T. refl) σ n (λ i. shift n 1 (σ i)) (λ i. refl) gs (any_goals gs)

pub raise_filled_clauses : (n : ℕ) (θ : ℕ → Ty) (σ : ℕ → Term) (cs : Clauses) → map_clauses suc (λ d t. shift d 1 t) same_type n (filled_clauses θ σ cs) ≡ filled_clauses θ (λ i. shift n 1 (σ i)) cs
raise_filled_clauses n θ σ cs =
    clauses_fused lifted (filled_term θ) (instance θ) suc (λ d t. shift d 1 t) same_type lifted (filled_term θ) (instance θ) Any (λ σ n τ. Gives (shift n 1) σ τ) shift_lifted (λ σ n τ h t w. shift_term θ σ n τ h t) (λ T. refl) σ n (λ i. shift n 1 (σ i)) (λ i. refl) cs (any_clauses cs)

-- and types and terms, one after the other, are a filling
pub one_filling : (θ : ℕ → Ty) (σ : ℕ → Term) (gs : Goals) → instantiate_goals σ (type_goals θ gs) ≡ filled_goals θ σ gs
one_filling θ σ gs =
    goals_fused (λ (u : ℕ). u) (λ u t. instance_term θ t) (instance θ) lifted instantiate same_type lifted (filled_term θ) (instance θ) Any
    (λ u γ τ. (i : ℕ) → γ i ≡ τ i) (λ u γ τ h. lifted_gives (λ t. t) (λ t. t) (λ t. refl) refl γ τ h)
    (λ u γ τ h t w. ap (λ f. instantiate f (instance_term θ t)) (fun_ext h)) (λ T. refl) zero σ σ (λ i. refl) gs (any_goals gs)

pub one_filling_of_clauses : (θ : ℕ → Ty) (σ : ℕ → Term) (cs : Clauses) → instantiate_clauses σ (type_clauses θ cs) ≡ filled_clauses θ σ cs
one_filling_of_clauses θ σ cs =
    clauses_fused (λ (u : ℕ). u) (λ u t. instance_term θ t) (instance θ) lifted instantiate same_type lifted (filled_term θ) (instance θ) Any
    (λ u γ τ. (i : ℕ) → γ i ≡ τ i) (λ u γ τ h. lifted_gives (λ t. t) (λ t. t) (λ t. refl) refl γ τ h)
    (λ u γ τ h t w. ap (λ f. instantiate f (instance_term θ t)) (fun_ext h)) (λ T. refl) zero σ σ (λ i. refl) cs (any_clauses cs)

pub stay_filled : (θ : ℕ → Ty) (σ : ℕ → Term) (gs : Goals) →
    (AreTermsOf (λ t. AllAtoms IsSourceAtom t) gs → (b : Binding) → shift 0 1 b.value ≡ b.value → map_goals (λ (u : ℕ). u) (λ u t. put b t) same_type 0 (filled_goals θ σ gs) ≡ filled_goals θ (λ i. put b (σ i)) gs) ×
    ((κ : ℕ → Ty) → type_goals κ (filled_goals θ σ gs) ≡ filled_goals (λ i. instance κ (θ i)) (λ i. instance_term κ (σ i)) gs) × ((γ : ℕ → Term) → instantiate_goals γ (filled_goals θ σ gs) ≡ filled_goals θ (λ i. instantiate γ (σ i)) gs)
stay_filled θ σ gs = (λ h b shut. put_filled_goals b shut zero θ σ gs h, λ κ. type_filled_goals κ zero θ σ gs, λ γ. instantiate_filled_goals γ θ σ gs)

-- flattened goals that are filled stand for the formula that they read as
module _ (d : Declared) (E : List Ty) (V : List Variable) (k : ℕ) (f : Filling) (fine : IsFilling f) where
  here : (n : ℕ) → n ≤ n
  here n = omega arith

  pub goals_stand : (n : ℕ) (t : Term) (gs : Goals) → flat_goal n d f.heads t no_goals ≡ Some gs → IsFormulaOver d E V k (formula_of_goals (filled_goals f.types f.terms gs)) → StandsForGoal d E V k (formula_of_goals (filled_goals f.types f.terms gs)) (filled_goals f.types f.terms gs)
  goals_stand n t gs e w =
      let m = goals_flatten_again d n f.heads t gs e in
      let one = one_filling f.types f.terms gs in
      let same = ap (instantiate f.terms) (sym (goals_formula f.types gs)) ∙ sym (goals_instantiate f.terms (type_goals f.types gs)) ∙ ap formula_of_goals one in
      record { filling = f; is_filling = fine; formula = formula_of_goals gs; typed = transport (IsFormulaOver d E V k) (sym same) w; converts = converts_is same; depth = m.0; flat = gs; flattened = m.1 m.0 (here m.0); is = sym one }

  pub clauses_stand : (n : ℕ) (t : Term) (cs : Clauses) → flat_clause n d f.heads t [] [] ≡ Some cs → IsFormulaOver d E V k (formula_of_clauses (filled_clauses f.types f.terms cs)) → StandsForClause d E V k (formula_of_clauses (filled_clauses f.types f.terms cs)) (filled_clauses f.types f.terms cs)
  clauses_stand n t cs e w =
      let m = clauses_flatten_again d n f.heads t cs e in
      let one = one_filling_of_clauses f.types f.terms cs in
      let same = ap (instantiate f.terms) (sym (clauses_formula f.types cs)) ∙ sym (clauses_instantiate f.terms (type_clauses f.types cs)) ∙ ap formula_of_clauses one in
      record { filling = f; is_filling = fine; formula = formula_of_clauses cs; typed = transport (IsFormulaOver d E V k) (sym same) w; converts = converts_is same; depth = m.0; flat = cs; flattened = m.1 m.0 (here m.0); is = sym one }
