-- A query's instances are those of its goals, under closings of the variables that a search starts with.
use Rattle.std.proofs.Common.{◌≡◌, ℕ, zero, suc, ◌+◌, ◌-◌, ◌<◌, List, [], ◌∷◌, ◌++◌, map, length, reverse, Some, refl, sym, ap, ◌∙◌, subst as transport, arith, inl, inr}
use Rattle.std.specs.Prelude.{slice_get, option_map}
use Rattle.std.proofs.lemmas.List.{reverse-append, length-reverse, length-map}
use mathlib.Core.Path.{fun_ext}
use Rattle.lp_unify_laws.specs.TypesBelow.{IsTypeBelow, AreTysBelow, AreTypesBelow}
use Rattle.lp_calculus.specs.Types.{Ty, Tys, var, param as type_param, con, arrow, no_types, types, instance, instances}
use Rattle.lp_calculus.specs.Term.{Term, Atom, index, atom, abs, app, shift, substitute, constant, integer, text, eigen, logic, param}
use Rattle.lp_calculus.specs.Convert.{Anywhere, BetaEta, here, in_abs, in_head, in_argument, by_beta, by_eta, Converts, ReducesTo}
use Rattle.lp_calculus.specs.Fill.{Within, close, at_variables}
use Rattle.lp_calculus.specs.Typing.{atom_type, o_type, type_at}
use Rattle.lp_calculus.specs.Instance.{instance_term, instance_atom}
use Rattle.lp_calculus.specs.Closed.{AreClosed, IsClosedType, IsClosedAtom}
use Rattle.lp_calculus.proofs.Sigma.{up, subst, subst-rename, rename-subst, subst-instead}
use Rattle.lp_calculus.proofs.Plain.{substitute-subst}
use Rattle.lp_calculus.proofs.BetaEta.{shift_one}
use Rattle.lp_calculus.proofs.Fills.{fill_none}
use Rattle.lp_calculus.proofs.Steps.{Step, converts_map, converts_on, converts_is, converts_sym, converts_reduces, within_reduces}
use Rattle.lp_calculus.proofs.Subject.{typed_reduces}
use Rattle.lp_calculus.proofs.Typings.{instance_typed}
use Rattle.lp_lemmas.specs.Each.{EachOf}
use Rattle.lp_model.specs.Index.{instantiate, lifted, at}
use Rattle.lp_model.specs.Eigens.{beta_normal}
use Rattle.lp_model.specs.Pair.{Closing, closed}
use Rattle.lp_model.specs.Flat.{Goals, no_goals, goal_list, instantiate_goals, formula_of_goal, formula_of_goals}
use Rattle.lp_model.specs.Flatten.{ClauseFormula, flat_goal, flatten_query}
use Rattle.lp_model.specs.Proofs.{Declared, under, IsFormula, IsWitness, Leaves, ProvableBy}
use Rattle.lp_model.specs.Answers.{Query, Instance, Closes, ConvertEach, AreWitnesses, filled}
use Rattle.lp_model.specs.Search.{vars_from, types_from}
use Rattle.lp_proof_laws.proofs.Uniform.Contexts.{get_split}
use Rattle.lp_proof_laws.proofs.Uniform.Openings.{instantiate_subst, IsOpen, Fits, open_formula}
use Rattle.lp_proof_laws.proofs.Flattened.FlatGoals.{open_truth, truth_proved, GoalLaw}
use Rattle.lp_proof_laws.proofs.Flattened.Flattens.{flattened_goal}
use Rattle.lp_proof_laws.proofs.Flattened.TypedForms.{shift_typed}
use Rattle.lp_proof_laws.proofs.Flattened.TypedFlat.{instance_flat_goal}
use Rattle.lp_proof_laws.proofs.Uniform.Uniforms.{by_conversion}
use Rattle.lp_unify_laws.proofs.Looks.{beta_reduces}
use Rattle.lp_unify_laws.proofs.NewInstances.{reduces_instance}
use Rattle.lp_unify_laws.proofs.TypedInstances.{get_map}
use Rattle.lp_proof_laws.proofs.Uniform.Settings.{IsSetting}
use Rattle.lp_search_laws.specs.Holds.{Holds}
use Rattle.lp_search_laws.specs.Started.{IsProvableBy, IsQueryAtom, IsTypedQuery, outermost, StartHolds}
use Rattle.lp_search_laws.proofs.ClosedTerms.{closed_type, all_closed, fill_instantiate, instantiate_converts}
use Rattle.lp_search_laws.proofs.Goals.{goals_in_turn}
use Rattle.lp_search_laws.proofs.Opened.{goals_instantiate}
use Rattle.lp_lemmas.proofs.Options.{and_then_some, option_map_some}

-- steps, with terms put for indices (as in lp_store/proofs/Congruent, private there)
raised-subst : (σ : ℕ → Term) (t : Term) → subst (up σ) (shift 0 1 t) ≡ shift 0 1 (subst σ t)
raised-subst σ t = ap (subst (up σ)) (shift_one t) ∙ subst-rename suc (up σ) t ∙ sym (rename-subst σ suc t) ∙ sym (shift_one (subst σ t))

substitute-by : (σ : ℕ → Term) (u b : Term) → substitute (subst σ u) (subst (up σ) b) ≡ subst σ (substitute u b)
substitute-by σ u b = substitute-subst (subst σ u) (subst (up σ) b) ∙ sym (subst-instead σ u b) ∙ sym (ap (subst σ) (substitute-subst u b))

step_by : (σ : ℕ → Term) {t s : Term} → Step t s → Step (subst σ t) (subst σ s)
step_by σ (here (by_beta b u)) = transport (Anywhere BetaEta (app (abs (subst (up σ) b)) (subst σ u))) (substitute-by σ u b) (here (by_beta (subst (up σ) b) (subst σ u)))
step_by σ (here (by_eta t)) = transport (λ x. Anywhere BetaEta (abs (app x (index 0))) (subst σ t)) (sym (raised-subst σ t)) (here (by_eta (subst σ t)))
step_by σ (in_abs p) = in_abs (step_by (up σ) p)
step_by σ (in_head u p) = in_head (subst σ u) (step_by σ p)
step_by σ (in_argument t p) = in_argument (subst σ t) (step_by σ p)

pub converts_instantiate : (σ : ℕ → Term) {t s : Term} → Converts t s → Converts (instantiate σ t) (instantiate σ s)
converts_instantiate σ {t} {s} c = converts_on (converts_is (instantiate_subst σ t)) (converts_on (converts_map (subst σ) (λ x y p. step_by σ p) c) (converts_is (sym (instantiate_subst σ s))))

-- types and terms put in
lifted_typed : (κ : ℕ → Ty) (σ : ℕ → Term) (i : ℕ) → instance_term κ (lifted σ i) ≡ lifted (λ j. instance_term κ (σ j)) i
lifted_typed κ σ zero = refl
lifted_typed κ σ (suc i) = shift_typed κ 0 1 (σ i)

instance_instantiate : (κ : ℕ → Ty) (σ : ℕ → Term) (t : Term) → instance_term κ (instantiate σ t) ≡ instantiate (λ i. instance_term κ (σ i)) (instance_term κ t)
instance_instantiate κ σ (index i) = refl
instance_instantiate κ σ (atom a) = refl
instance_instantiate κ σ (abs b) = ap abs (instance_instantiate κ (lifted σ) b ∙ ap (λ τ. instantiate τ (instance_term κ b)) (fun_ext (lifted_typed κ σ)))
instance_instantiate κ σ (app t u) = λ i. app (instance_instantiate κ σ t i) (instance_instantiate κ σ u i)

closed_same : (σ : ℕ → ℕ → Term) (a : Atom) → IsClosedAtom 0 a → at_variables σ a ≡ atom a
closed_same σ (constant c ts) h = refl
closed_same σ (integer z) h = refl
closed_same σ (text s) h = refl
closed_same σ (eigen k) h = refl
closed_same σ (logic x l) h = absurd h
closed_same σ (param k T) h = refl

-- variables of level 0 for the indices of a term without others, under a closing
pub closed_opened : (c : Closing) (place : ℕ → ℕ) (n : ℕ) (t : Term) → Within (IsClosedAtom 0) n (instance_term c.types t) → closed c (instantiate (λ i. atom (logic (place i) 0)) t) ≡ instantiate (λ i. c.terms (place i) 0) (instance_term c.types t)
closed_opened c place n t w =
    let u = instance_term c.types t in
    ap (close c.terms) (instance_instantiate c.types (λ i. atom (logic (place i) 0)) t) ∙
    fill_instantiate (IsClosedAtom 0) (IsClosedAtom 0) (at_variables c.terms) (λ i. atom (logic (place i) 0)) n u (λ a h. transport (Within (IsClosedAtom 0) 0) (sym (closed_same c.terms a h)) h) w ∙
    ap (instantiate (λ i. c.terms (place i) 0)) (fill_none (IsClosedAtom 0) (at_variables c.terms) (closed_same c.terms) n u w)

-- the places of the query's variables
pub get_reverse : {A : Type 0} (xs : List A) (i : ℕ) (x : A) → slice_get (reverse xs) i ≡ Some x → (i < length xs) × (slice_get xs (length xs - suc i) ≡ Some x)
get_reverse [] i x e = absurd (cc)
get_reverse {A} (y ∷ xs) i x e =
    let f : slice_get (reverse xs ++ y ∷ []) i ≡ Some x = ap (λ z. slice_get z i) (sym (reverse-append (y ∷ []) xs)) ∙ e in
    elim (get_split (reverse xs) (y ∷ []) i x f) [
      | inl a ↦
          let r = get_reverse xs i x a in
          let m : suc (length xs) - suc i ≡ suc (length xs - suc i) = omega (r.0, arith) in
          (omega (r.0, arith), ap (slice_get (y ∷ xs)) m ∙ r.1)
      | inr b ↦ last b.0 b.1 b.2
    ]
  where
    last : (j : ℕ) → i ≡ length (reverse xs) + j → slice_get (y ∷ []) j ≡ Some x → (i < suc (length xs)) × (slice_get (y ∷ xs) (suc (length xs) - suc i) ≡ Some x)
    last zero p q = let l = length-reverse xs in let m : suc (length xs) - suc i ≡ 0 = omega (p, l, arith) in (omega (p, l, arith), ap (slice_get (y ∷ xs)) m ∙ q)
    last (suc j) p q = absurd (cc)

-- types
pub at_closed : (ts : List Ty) → AreClosed ts → (i : ℕ) → IsClosedType (type_at ts i)
at_closed [] k i = tt
at_closed (t ∷ ts) k zero = k.0
at_closed (t ∷ ts) k (suc i) = at_closed ts k.1 i

mutual
  type_same : (f g : ℕ → Ty) (k : ℕ) → ((i : ℕ) → i < k → f i ≡ g i) → (T : Ty) → IsTypeBelow k T → instance f T ≡ instance g T
  type_same f g k h (var i) w = h i w
  type_same f g k h (type_param n) w = refl
  type_same f g k h (con c ts) w = ap (con c) (types_same f g k h ts w)
  type_same f g k h (arrow a b) w = λ i. arrow (type_same f g k h a w.0 i) (type_same f g k h b w.1 i)

  types_same : (f g : ℕ → Ty) (k : ℕ) → ((i : ℕ) → i < k → f i ≡ g i) → (ts : Tys) → AreTysBelow k ts → instances f ts ≡ instances g ts
  types_same f g k h no_types w = refl
  types_same f g k h (types t ts) w = λ i. types (type_same f g k h t w.0 i) (types_same f g k h ts w.1 i)

list_same : (f g : ℕ → Ty) (k : ℕ) → ((i : ℕ) → i < k → f i ≡ g i) → (ts : List Ty) → AreTypesBelow k ts → map (instance f) ts ≡ map (instance g) ts
list_same f g k h [] w = refl
list_same f g k h (t ∷ ts) w = λ i. type_same f g k h t w.0 i ∷ list_same f g k h ts w.1 i

atom_same : (f g : ℕ → Ty) (k : ℕ) → ((i : ℕ) → i < k → f i ≡ g i) → (a : Atom) → IsQueryAtom k a → instance_atom f a ≡ instance_atom g a
atom_same f g k h (constant c ts) w = ap (constant c) (list_same f g k h ts w)
atom_same f g k h (integer z) w = refl
atom_same f g k h (text s) w = refl
atom_same f g k h (eigen n) w = refl
atom_same f g k h (logic x l) w = refl
atom_same f g k h (param n T) w = ap (param n) (type_same f g k h T w)

term_same : (f g : ℕ → Ty) (k : ℕ) → ((i : ℕ) → i < k → f i ≡ g i) → (n : ℕ) (t : Term) → Within (IsQueryAtom k) n t → instance_term f t ≡ instance_term g t
term_same f g k h n (index i) w = refl
term_same f g k h n (atom a) w = ap atom (atom_same f g k h a w)
term_same f g k h n (abs b) w = ap abs (term_same f g k h (suc n) b w)
term_same f g k h n (app t u) w = λ i. app (term_same f g k h n t w.0 i) (term_same f g k h n u w.1 i)

atom_shut : (κ : ℕ → Ty) → ((i : ℕ) → IsClosedType (κ i)) → (k : ℕ) (a : Atom) → IsQueryAtom k a → IsClosedAtom 0 (instance_atom κ a)
atom_shut κ h k (constant c ts) w = all_closed κ h ts
atom_shut κ h k (integer z) w = tt
atom_shut κ h k (text s) w = tt
atom_shut κ h k (eigen n) w = absurd w
atom_shut κ h k (logic x l) w = absurd w
atom_shut κ h k (param n T) w = closed_type κ h T

pub term_shut : (κ : ℕ → Ty) → ((i : ℕ) → IsClosedType (κ i)) → (k n : ℕ) (t : Term) → Within (IsQueryAtom k) n t → Within (IsClosedAtom 0) n (instance_term κ t)
term_shut κ h k n (index i) w = w
term_shut κ h k n (atom a) w = atom_shut κ h k a w
term_shut κ h k n (abs b) w = term_shut κ h k (suc n) b w
term_shut κ h k n (app t u) w = (term_shut κ h k n t w.0, term_shut κ h k n u w.1)

-- the query's types and values, one by one
types_back : (f : ℕ → Ty) (ts : List Ty) (m : ℕ) → ((i : ℕ) → f (m + i) ≡ type_at ts i) → map (instance f) (types_from (length ts) m) ≡ ts
types_back f [] m h = refl
types_back f (t ∷ ts) m h =
    let e : m ≡ m + 0 = omega arith in
    let a : f m ≡ t = ap f e ∙ h 0 in
    let b = types_back f ts (suc m) (λ i. let g : suc m + i ≡ m + suc i = omega arith in ap f g ∙ h (suc i)) in
    λ i. a i ∷ b i

pub types_count : (f : ℕ → Ty) (k m : ℕ) → length (map (instance f) (types_from k m)) ≡ k
types_count f zero m = refl
types_count f (suc k) m = ap suc (types_count f k (suc m))

pub types_given : (f : ℕ → Ty) (k m i : ℕ) → i < k → type_at (map (instance f) (types_from k m)) i ≡ f (m + i)
types_given f zero m i l = absurd (omega (l, arith))
types_given f (suc k) m zero l = let e : m ≡ m + 0 = omega arith in ap f e
types_given f (suc k) m (suc i) l = let g : suc m + i ≡ m + suc i = omega arith in types_given f k (suc m) i (omega (l, arith)) ∙ ap f g

values_back : (c : Closing) (ts : List Term) (m : ℕ) → ((i : ℕ) → c.terms (m + i) 0 ≡ at ts i) → ConvertEach (map (closed c) (vars_from (length ts) m)) ts
values_back c [] m h = tt
values_back c (t ∷ ts) m h =
    let e : m ≡ m + 0 = omega arith in
    (converts_is (ap (λ x. c.terms x 0) e ∙ h 0), values_back c ts (suc m) (λ i. let g : suc m + i ≡ m + suc i = omega arith in ap (λ x. c.terms x 0) g ∙ h (suc i)))

values_given : (c : Closing) (k m : ℕ) (ts : List Term) → ConvertEach (map (closed c) (vars_from k m)) ts → (i : ℕ) → i < k → Converts (c.terms (m + i) 0) (at ts i)
values_given c zero m ts h i l = absurd (omega (l, arith))
values_given c (suc k) m [] h i l = absurd h
values_given c (suc k) m (t ∷ ts) h zero l = let e : m ≡ m + 0 = omega arith in transport (λ x. Converts (c.terms x 0) t) e h.0
values_given c (suc k) m (t ∷ ts) h (suc i) l = let g : suc m + i ≡ m + suc i = omega arith in transport (λ x. Converts (c.terms x 0) (at ts i)) g (values_given c k (suc m) ts h.1 i (omega (l, arith)))

witness_at : (d : Declared) (ts : List Term) (Ts : List Ty) → AreWitnesses d ts Ts → (x : ℕ) (T : Ty) → slice_get Ts x ≡ Some T → IsWitness d [] (at ts x) T
witness_at d [] [] h x T e = absurd (cc)
witness_at d [] (U ∷ Ts) h x T e = absurd h
witness_at d (t ∷ ts) [] h x T e = absurd h
witness_at d (t ∷ ts) (U ∷ Ts) h zero T e = let q : U ≡ T = cc in transport (IsWitness d [] t) q h.0
witness_at d (t ∷ ts) (U ∷ Ts) h (suc x) T e = witness_at d ts Ts h.1 x T e

pub witness_count : (d : Declared) (ts : List Term) (Ts : List Ty) → AreWitnesses d ts Ts → length ts ≡ length Ts
witness_count d [] [] h = refl
witness_count d [] (U ∷ Ts) h = absurd h
witness_count d (t ∷ ts) [] h = absurd h
witness_count d (t ∷ ts) (U ∷ Ts) h = ap suc (witness_count d ts Ts h.1)

-- the goals under a closing of the first variables
module _ {L : Leaves} (d : Declared) (std : IsSetting L d) (n : ℕ) (q : Query) (gs : Goals) (t : IsTypedQuery d q) (e : flatten_query n d q.formula ≡ Some gs) (P : List ClauseFormula) where
  abbrev count : ℕ
  count = length q.vars

  abbrev goals_opened : Goals
  goals_opened = instantiate_goals (λ k. atom (logic (count - suc k) 0)) gs

  module _ (c : Closing) (h : Closes d (map outermost q.vars) c) where
    abbrev types_in : List Ty
    types_in = map (instance c.types) (reverse q.vars)

    abbrev values_at : ℕ → Term
    values_at k = c.terms (count - suc k) 0

    value_fits : (i : ℕ) (T : Ty) → slice_get types_in i ≡ Some T → IsWitness d [] (values_at i) T
    value_fits i T w =
        let m = option_map_some (slice_get (reverse q.vars) i) (instance c.types) T (sym (get_map (instance c.types) (reverse q.vars) i) ∙ w) in
        let r = get_reverse q.vars i m.0 m.1 in
        transport (IsWitness d [] (values_at i)) m.2 (h.terms (count - suc i) (outermost m.0) (get_map outermost q.vars (count - suc i) ∙ ap (option_map outermost) r.1))

    fits : Fits d [] types_in values_at
    fits = record { at = λ i T w. let v = value_fits i T w in (v.typed, v.closed) }

    long : count ≡ length types_in
    long = sym (length-map (reverse q.vars) (instance c.types) ∙ length-reverse q.vars)

    formula_open : IsOpen d types_in (instance_term c.types q.formula) o_type
    formula_open = record {
      typed = instance_typed c.types (under d []) (reverse q.vars) q.formula o_type t.typed;
      within = transport (λ z. Within (IsClosedAtom 0) z (instance_term c.types q.formula)) long (term_shut c.types h.types q.type_vars count q.formula t.within);
    }

    pub formula_fine : IsFormula d [] (instantiate values_at (instance_term c.types q.formula))
    formula_fine = open_formula d [] types_in values_at (instance_term c.types q.formula) fits formula_open

    -- its beta-normal form
    module _ (s : Term) (r : ReducesTo q.formula s) (g : flat_goal n d [] s no_goals ≡ Some gs) where
      form_open : IsOpen d types_in (instance_term c.types s) o_type
      form_open = record {
        typed = typed_reduces (atom_type (under d [])) types_in (reduces_instance c.types r) o_type formula_open.typed;
        within = within_reduces (IsClosedAtom 0) (length types_in) (reduces_instance c.types r) formula_open.within;
      }

      flat : (hs : Goals) × (flat_goal n d [] (instance_term c.types s) no_goals ≡ Some hs) × (formula_of_goals hs ≡ instance_term c.types (formula_of_goals gs))
      flat = instance_flat_goal c.types d n s gs g

      law : GoalLaw d std types_in (instance_term c.types s) no_goals flat.0
      law = flattened_goal d std n [] (instance_term c.types s) no_goals flat.0 types_in flat.1 form_open (open_truth d std types_in)

      read : formula_of_goals flat.0 ≡ instance_term c.types (formula_of_goals gs)
      read = flat.2

      opened : closed c (formula_of_goals goals_opened) ≡ instantiate values_at (formula_of_goals flat.0)
      opened =
          ap (closed c) (goals_instantiate (λ k. atom (logic (count - suc k) 0)) gs) ∙
          closed_opened c (λ k. count - suc k) (length types_in) (formula_of_goals gs) (transport (Within (IsClosedAtom 0) (length types_in)) read law.opens.within) ∙
          ap (instantiate values_at) (sym read)

      opened_fine : IsFormula d [] (closed c (formula_of_goals goals_opened))
      opened_fine = transport (IsFormula d []) (sym opened) (open_formula d [] types_in values_at (formula_of_goals flat.0) fits law.opens)

      form_fine : IsFormula d [] (instantiate values_at (instance_term c.types s))
      form_fine = open_formula d [] types_in values_at (instance_term c.types s) fits form_open

      form_converts : Converts (instantiate values_at (instance_term c.types q.formula)) (instantiate values_at (instance_term c.types s))
      form_converts = converts_instantiate values_at (converts_reduces (reduces_instance c.types r))

      to_goals : ProvableBy L d [] P (instantiate values_at (instance_term c.types q.formula)) → EachOf (λ g. Holds L d [] P c (formula_of_goal g)) (goal_list goals_opened)
      to_goals p =
          let a = by_conversion d [] P (instantiate values_at (instance_term c.types s)) (instantiate values_at (instance_term c.types q.formula)) formula_fine form_converts p in
          let b = law.together [] P values_at fits a (truth_proved d std [] P) in
          (goals_in_turn d std [] P c goals_opened opened_fine).0 (transport (ProvableBy L d [] P) (sym opened) b)

      from_goals : EachOf (λ g. Holds L d [] P c (formula_of_goal g)) (goal_list goals_opened) → ProvableBy L d [] P (instantiate values_at (instance_term c.types q.formula))
      from_goals p =
          let a = (goals_in_turn d std [] P c goals_opened opened_fine).1 p in
          let b = (law.apart [] P values_at fits (transport (ProvableBy L d [] P) opened a)).0 in
          by_conversion d [] P (instantiate values_at (instance_term c.types q.formula)) (instantiate values_at (instance_term c.types s)) form_fine (converts_sym form_converts) b

    pub goals_hold : ProvableBy L d [] P (instantiate values_at (instance_term c.types q.formula)) → EachOf (λ g. Holds L d [] P c (formula_of_goal g)) (goal_list goals_opened)
    goals_hold p = let b = and_then_some (beta_normal n q.formula) (λ s. flat_goal n d [] s no_goals) gs e in to_goals b.0 (beta_reduces n q.formula b.0 b.1) b.2 p

    pub goals_prove : EachOf (λ g. Holds L d [] P c (formula_of_goal g)) (goal_list goals_opened) → ProvableBy L d [] P (instantiate values_at (instance_term c.types q.formula))
    goals_prove p = let b = and_then_some (beta_normal n q.formula) (λ s. flat_goal n d [] s no_goals) gs e in from_goals b.0 (beta_reduces n q.formula b.0 b.1) b.2 p

  -- of a provable instance
  module _ (i : Instance) where
    abbrev of_instance : Closing
    of_instance = record { types = type_at i.types; terms = λ x l. at i.values x }

    instance_closes : AreClosed i.types → AreWitnesses d i.values (map (instance (type_at i.types)) q.vars) → Closes d (map outermost q.vars) of_instance
    instance_closes k w = record {
      types = at_closed i.types k;
      terms = λ x v g.
          let m = option_map_some (slice_get q.vars x) outermost v (sym (get_map outermost q.vars x) ∙ g) in
          transport (λ z. IsWitness d (map (instance (type_at i.types)) z.scope) (at i.values x) (instance (type_at i.types) z.type)) m.2
          (witness_at d i.values (map (instance (type_at i.types)) q.vars) w x (instance (type_at i.types) m.0)
          (get_map (instance (type_at i.types)) q.vars x ∙ ap (option_map (instance (type_at i.types))) m.1));
    }

    as_many : AreWitnesses d i.values (map (instance (type_at i.types)) q.vars) → length i.values ≡ count
    as_many w = witness_count d i.values (map (instance (type_at i.types)) q.vars) w ∙ length-map q.vars (instance (type_at i.types))

    pub starts : IsProvableBy L d P q i → StartHolds L d P q gs i
    starts p =
        let l = as_many p.values in
        let z = instance_closes p.types_closed p.values in
        record {
          closing = of_instance;
          closes = z;
          types = transport (λ k. map (instance (type_at i.types)) (types_from k 0) ≡ i.types) p.types (types_back (type_at i.types) i.types 0 (λ j. let a : 0 + j ≡ j = omega arith in ap (type_at i.types) a));
          values = transport (λ k. ConvertEach (map (closed of_instance) (vars_from k 0)) i.values) l (values_back of_instance i.values 0 (λ j. let a : 0 + j ≡ j = omega arith in ap (at i.values) a));
          holds = goals_hold of_instance z (transport (λ m. ProvableBy L d [] P (instantiate (λ k. at i.values (m - suc k)) (instance_term (type_at i.types) q.formula))) l p.proved);
        }

    pub ends : AreWitnesses d i.values (map (instance (type_at i.types)) q.vars) → StartHolds L d P q gs i → IsProvableBy L d P q i
    ends w s = record {
      types = ap length (sym s.types) ∙ types_count s.closing.types q.type_vars 0;
      types_closed = transport AreClosed s.types (all_closed s.closing.types s.closes.types (types_from q.type_vars 0));
      values = w;
      proved = by_conversion d [] P (filled q i) (instantiate (values_at s.closing s.closes) (instance_term s.closing.types q.formula)) (formula_fine s.closing s.closes) converts (goals_prove s.closing s.closes s.holds);
    }
      where
        same_types : (j : ℕ) → j < q.type_vars → s.closing.types j ≡ type_at i.types j
        same_types j l = let a : j ≡ 0 + j = omega arith in ap s.closing.types a ∙ sym (types_given s.closing.types q.type_vars 0 j l) ∙ ap (λ ts. type_at ts j) s.types

        same_values : (j : ℕ) → j < count → Converts (s.closing.terms (count - suc j) 0) (at i.values (length i.values - suc j))
        same_values j l =
            let m = as_many w in
            let a : 0 + (count - suc j) ≡ count - suc j = omega arith in
            let b : count - suc j ≡ length i.values - suc j = ap (λ z. z - suc j) (sym m) in
            transport (λ x. Converts (s.closing.terms (count - suc j) 0) (at i.values x)) b (transport (λ x. Converts (s.closing.terms x 0) (at i.values (count - suc j))) a (values_given s.closing count 0 i.values s.values (count - suc j) (omega (l, arith))))

        converts : Converts (instantiate (values_at s.closing s.closes) (instance_term s.closing.types q.formula)) (filled q i)
        converts =
            converts_on (instantiate_converts (IsClosedAtom 0) count (values_at s.closing s.closes) (λ k. at i.values (length i.values - suc k)) same_values (instance_term s.closing.types q.formula) (term_shut s.closing.types s.closes.types q.type_vars count q.formula t.within)) (
            converts_is (ap (instantiate (λ k. at i.values (length i.values - suc k))) (term_same s.closing.types (type_at i.types) q.type_vars same_types count q.formula t.within))
            )

  pub query_starts : (i : Instance) → (IsProvableBy L d P q i → StartHolds L d P q gs i) × (AreWitnesses d i.values (map (instance (type_at i.types)) q.vars) → StartHolds L d P q gs i → IsProvableBy L d P q i)
  query_starts i = (starts i, ends i)
