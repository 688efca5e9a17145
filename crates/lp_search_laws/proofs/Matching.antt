-- A clause against a goal, under a closing of the branch's variables and the clause's: the terms for the clause's variables with which its head is
-- the goal and its body is provable are those that solve the type equations of the heads and the pairs of arguments, and with which the body, with
-- the slots put in, is provable.
use Rattle.std.proofs.Common.{◌≡◌, ℕ, zero, suc, ◌+◌, ◌-◌, ◌<◌, List, [], ◌∷◌, ◌++◌, map, length, ◌∙◌, refl, sym, ap, subst as transport, arith, true, false, nat_lt, if◌then◌else◌, Option, Some, inl, inr}
use Rattle.std.specs.Prelude.{slice_get, option_map, ◌⊎◌}
use Rattle.std.proofs.lemmas.Bool.Decides.{nat_tests}
use Rattle.lp_calculus.specs.Types.{Ty, instance, arrow}
use Rattle.lp_calculus.specs.Term.{Term, Atom, index, atom, app, apply, constant, eigen}
use Rattle.lp_calculus.specs.Fill.{Within}
use Rattle.lp_calculus.specs.Convert.{Converts}
use Rattle.lp_calculus.specs.Typing.{HasType, HaveTypes, Typed, atom_type, o_type}
use Rattle.lp_calculus.specs.Closed.{IsClosedType, IsClosedAtom, AllAtoms}
use Rattle.lp_standard.specs.Positive.{IsPositive, IsPositiveAtom}
use Rattle.lp_calculus.proofs.Fills.{within_subst}
use Rattle.lp_calculus.proofs.Steps.{converts_on, converts_is, converts_sym}
use Rattle.lp_calculus.proofs.Subject.{typed_subst}
use Rattle.lp_calculus.proofs.Typings.{typed_parts}
use Rattle.lp_calculus.proofs.Rigid.{heads_joint}
use Rattle.lp_lemmas.specs.Each.{EachOf}
use Rattle.lp_model.specs.Types.{zipped}
use Rattle.lp_model.specs.Rule.{type_pairs}
use Rattle.lp_calculus.specs.Spine.{head_of, arguments}
use Rattle.lp_model.specs.Index.{instantiate, at}
use Rattle.lp_model.specs.Pair.{Closing, closed, SolvesAll}
use Rattle.lp_model.specs.Search.{slots_of, pairs_of}
use Rattle.lp_model.specs.Flatten.{ClauseFormula}
use Rattle.lp_model.specs.Proofs.{Declared, under, IsFormula, IsWitness, Leaves, ProvableBy}
use Rattle.lp_model.specs.Answers.{Variable, Closes}
use Rattle.lp_unify_laws.specs.TypeSolutions.{Unifies}
use Rattle.lp_unify_laws.proofs.Scopes.{get_append, got_before}
use Rattle.lp_unify_laws.proofs.TypedInstances.{length_map, get_map}
use Rattle.lp_unify_laws.proofs.TypedBindings.{IsAtomOf}
use Rattle.lp_unify_laws.proofs.Looks.{converts_spine}
use Rattle.lp_proof_laws.proofs.Uniform.Contexts.{get_back, get_split}
use Rattle.lp_proof_laws.proofs.Uniform.Forms.{apply_arguments}
use Rattle.lp_proof_laws.proofs.Uniform.Openings.{instantiate_subst}
use Rattle.lp_proof_laws.proofs.Uniform.Uniforms.{by_conversion}
use Rattle.lp_search_laws.specs.Clauses.{AreWitnessesAt, Applies}
use Rattle.lp_model.specs.Flat.{Goals, formula_of_goals}
use Rattle.lp_search_laws.specs.Tries.{new_variables, tried_values, SolvesMatch, GoesOn, IsMatch, HeadsMatch, both_constants, both_eigens}
use Rattle.lp_search_laws.proofs.ClosedTerms.{closed_typed, closed_within, closed_instantiate, closed_positive, closed_type, same_closed, atoms_of, instantiate_converts}
use Rattle.lp_search_laws.proofs.Slots.{EachTwo, slots_are, slotted_is, pairs_are, converts_each, each_of_all}

-- heads
zipped_same : (θ : ℕ → Ty) (us ts : List Ty) → length us ≡ length ts → (Unifies θ (zipped us ts) → map (instance θ) ts ≡ map (instance θ) us) × (map (instance θ) ts ≡ map (instance θ) us → Unifies θ (zipped us ts))
zipped_same θ [] [] l = ((λ h. refl), (λ h. tt))
zipped_same θ [] (t ∷ ts) l = absurd (cc)
zipped_same θ (u ∷ us) [] l = absurd (cc)
zipped_same θ (u ∷ us) (t ∷ ts) l =
    let m : length us ≡ length ts = cc in
    let r = zipped_same θ us ts m in
    ((λ h i. sym h.0 i ∷ r.0 h.1 i), (λ h. let p : instance θ u ≡ instance θ t = cc in let q : map (instance θ) ts ≡ map (instance θ) us = cc in (p, r.1 q)))

constant_types : {c : ℕ} {ts us : List Ty} → atom (constant c ts) ≡ atom (constant c us) → ts ≡ us
constant_types e = cc

pub heads_unify : (z : Closing) (h g : Term) → HeadsMatch h g → (Unifies z.types (type_pairs g h) → closed z h ≡ closed z g) × (closed z h ≡ closed z g → Unifies z.types (type_pairs g h))
heads_unify z h g (both_constants c ts us l e k) =
    let r = zipped_same z.types us ts (sym l) in
    transport (λ x. (Unifies z.types (type_pairs g x) → closed z x ≡ closed z g) × (closed z x ≡ closed z g → Unifies z.types (type_pairs g x))) (sym e)
    (transport (λ y. (Unifies z.types (type_pairs y (atom (constant c ts))) → closed z (atom (constant c ts)) ≡ closed z y) × (closed z (atom (constant c ts)) ≡ closed z y → Unifies z.types (type_pairs y (atom (constant c ts))))) (sym k)
    ((λ w. ap (λ x. atom (constant c x)) (r.0 w)), (λ w. r.1 (constant_types w))))
heads_unify z h g (both_eigens n e k) =
    transport (λ x. (Unifies z.types (type_pairs g x) → closed z x ≡ closed z g) × (closed z x ≡ closed z g → Unifies z.types (type_pairs g x))) (sym e)
    (transport (λ y. (Unifies z.types (type_pairs y (atom (eigen n))) → closed z (atom (eigen n)) ≡ closed z y) × (closed z (atom (eigen n)) ≡ closed z y → Unifies z.types (type_pairs y (atom (eigen n))))) (sym k)
    ((λ w. refl), (λ w. tt)))

-- a head is an atom, and stays one
fixed_head : (z : Closing) (h g : Term) → HeadsMatch h g → (a : Atom) × (closed z h ≡ atom a) × ((f : ℕ → Term) → instantiate f h ≡ h)
fixed_head z h g (both_constants c ts us l e k) = (constant c (map (instance z.types) ts), ap (closed z) e, (λ f. transport (λ x. instantiate f x ≡ x) (sym e) refl))
fixed_head z h g (both_eigens n e k) = (eigen n, ap (closed z) e, (λ f. transport (λ x. instantiate f x ≡ x) (sym e) refl))

goal_head : (z : Closing) (h g : Term) → HeadsMatch h g → (a : Atom) × (closed z g ≡ atom a)
goal_head z h g (both_constants c ts us l e k) = (constant c (map (instance z.types) us), ap (closed z) k)
goal_head z h g (both_eigens n e k) = (eigen n, ap (closed z) k)

-- heads and arguments
whole : (t : Term) → apply (head_of t) (arguments t) ≡ t
whole t = apply_arguments t []

closed_apply : (c : Closing) (h : Term) (ts : List Term) → closed c (apply h ts) ≡ apply (closed c h) (map (closed c) ts)
closed_apply c h [] = refl
closed_apply c h (t ∷ ts) = closed_apply c (app h t) ts

instantiate_apply : (f : ℕ → Term) (h : Term) (ts : List Term) → instantiate f (apply h ts) ≡ apply (instantiate f h) (map (instantiate f) ts)
instantiate_apply f h [] = refl
instantiate_apply f h (t ∷ ts) = instantiate_apply f (app h t) ts

within_parts : (P : Atom → Type 0) (n : ℕ) (h : Term) (ts : List Term) → Within P n (apply h ts) → Within P n h × EachOf (Within P n) ts
within_parts P n h [] w = (w, tt)
within_parts P n h (t ∷ ts) w = let r = within_parts P n (app h t) ts w in (r.0.0, (r.0.1, r.1))

atoms_parts : (P : Atom → Type 0) (h : Term) (ts : List Term) → AllAtoms P (apply h ts) → AllAtoms P h × EachOf (AllAtoms P) ts
atoms_parts P h [] w = (w, tt)
atoms_parts P h (t ∷ ts) w = let r = atoms_parts P (app h t) ts w in (r.0.0, (r.0.1, r.1))

-- lists
map_maps : (g h : Term → Term) (xs : List Term) → map g (map h xs) ≡ map (λ t. g (h t)) xs
map_maps g h [] = refl
map_maps g h (x ∷ xs) = ap (λ z. g (h x) ∷ z) (map_maps g h xs)

pub get_some : {A : Type 0} (xs : List A) (i : ℕ) → i < length xs → (x : A) × (slice_get xs i ≡ Some x)
get_some [] i h = absurd (omega (arith, h))
get_some (x ∷ xs) zero h = (x, refl)
get_some (x ∷ xs) (suc i) h = get_some xs i (omega (arith, h))

pub get_mapped : {A B : Type 0} (f : A → B) (xs : List A) (i : ℕ) (y : B) → slice_get (map f xs) i ≡ Some y → (x : A) × (slice_get xs i ≡ Some x) × (y ≡ f x)
get_mapped f [] i y e = absurd (cc)
get_mapped f (x ∷ xs) zero y e = let q : y ≡ f x = cc in (x, refl, q)
get_mapped f (x ∷ xs) (suc i) y e = get_mapped f xs i y e

pub witness_at : (d : Declared) (E : List Ty) (ws : List Term) (Ts : List Ty) → AreWitnessesAt d E ws Ts → (i : ℕ) (A : Ty) → slice_get Ts i ≡ Some A → IsWitness d E (at ws i) A
witness_at d E [] [] h i A e = absurd (cc)
witness_at d E [] (T ∷ Ts) h i A e = absurd h
witness_at d E (w ∷ ws) [] h i A e = absurd h
witness_at d E (w ∷ ws) (T ∷ Ts) h zero A e = let q : T ≡ A = cc in transport (IsWitness d E w) q h.0
witness_at d E (w ∷ ws) (T ∷ Ts) h (suc i) A e = witness_at d E ws Ts h.1 i A e

-- the list of the terms that a function gives to the types of a list
abbrev pub given_by : (ℕ → Term) → List Ty → List Term
given_by f [] = []
given_by f (T ∷ Ts) = f zero ∷ given_by (λ i. f (suc i)) Ts

pub given_at : (f : ℕ → Term) (Ts : List Ty) (i : ℕ) → i < length Ts → at (given_by f Ts) i ≡ f i
given_at f [] i h = absurd (omega (arith, h))
given_at f (T ∷ Ts) zero h = refl
given_at f (T ∷ Ts) (suc i) h = given_at (λ j. f (suc j)) Ts i (omega (arith, h))

pub given_witnesses : (d : Declared) (E : List Ty) (f : ℕ → Term) (Ts : List Ty) → ((i : ℕ) (A : Ty) → slice_get Ts i ≡ Some A → IsWitness d E (f i) A) → AreWitnessesAt d E (given_by f Ts) Ts
given_witnesses d E f [] h = tt
given_witnesses d E f (T ∷ Ts) h = (h zero T refl, given_witnesses d E (λ i. f (suc i)) Ts (λ i. h (suc i)))

-- a formula with indices, at witnesses
pub instantiated_formula : (d : Declared) (F Ts : List Ty) (f : ℕ → Term) → ((i : ℕ) (A : Ty) → slice_get Ts i ≡ Some A → IsWitness d F (f i) A) → (t : Term) → Typed (under d F) Ts t o_type → Within (IsClosedAtom (length F)) (length Ts) t → IsFormula d F (instantiate f t)
instantiated_formula d F Ts f h t w s = transport (IsFormula d F) (sym (instantiate_subst f t)) (record {
  typed = typed_subst (atom_type (under d F)) Ts [] f (λ i A e. (h i A e).typed) t o_type w;
  closed = within_subst (IsClosedAtom (length F)) f (length Ts) 0 (λ i l. let g = get_some Ts i l in (h i g.0 g.1).closed) t s;
})

-- arguments of heads of one type
each_two_map : (P : Term → Type 0) (Q R : Term → Term → Type 0) → ((h t : Term) → P h → Q h t → R h t) → (hs ts : List Term) → EachOf P hs → EachTwo Q hs ts → EachTwo R hs ts
each_two_map P Q R g [] ts p q = tt
each_two_map P Q R g (h ∷ hs) [] p q = tt
each_two_map P Q R g (h ∷ hs) (t ∷ ts) p q = (g h t p.0 q.0, each_two_map P Q R g hs ts p.1 q.1)

no_arrow : (B D : Ty) → o_type ≡ arrow B D → ⊥
no_arrow B D e = absurd (cc)

arrow_parts : {A B X Y : Ty} → arrow A B ≡ arrow X Y → (A ≡ X) × (B ≡ Y)
arrow_parts {A} {B} {X} {Y} e = let p : A ≡ X = cc in let q : B ≡ Y = cc in (p, q)

-- a variable of the clause that stands as an argument has the type of the goal's argument there
abbrev IsGiven : (τ : Atom → Option Ty) → List Ty → (Term → Term) → Term → Term → Type 0
IsGiven τ Ts f h t = (k : ℕ) → h ≡ index k → (A : Ty) → slice_get Ts k ≡ Some A → HasType τ [] (f t) A

given_one : (τ : Atom → Option Ty) (Ts : List Ty) (f : Term → Term) → ((k : ℕ) → f (index k) ≡ index k) → (h t : Term) (B : Ty) → HasType τ Ts (f h) B → HasType τ [] (f t) B → IsGiven τ Ts f h t
given_one τ Ts f g h t B p q k e A l =
    let r : HasType τ Ts (index k) B = transport (λ z. HasType τ Ts z B) (ap f e ∙ g k) p in
    let m : B ≡ A = cc in
    transport (HasType τ [] (f t)) m q

given_arguments : (τ : Atom → Option Ty) (Ts : List Ty) (f : Term → Term) → ((k : ℕ) → f (index k) ≡ index k) → (hs ts : List Term) (X : Ty) → HaveTypes τ Ts X (map f hs) o_type → HaveTypes τ [] X (map f ts) o_type → (length hs ≡ length ts) × EachTwo (IsGiven τ Ts f) hs ts
given_arguments τ Ts f g [] [] X p q = (refl, tt)
given_arguments τ Ts f g [] (t ∷ ts) X p q = absurd (no_arrow q.0 q.1 (sym p ∙ q.2))
given_arguments τ Ts f g (h ∷ hs) [] X p q = absurd (no_arrow p.0 p.1 (sym q ∙ p.2))
given_arguments τ Ts f g (h ∷ hs) (t ∷ ts) X p q =
    let e = arrow_parts (sym q.2 ∙ p.2) in
    let r = given_arguments τ Ts f g hs ts p.1 p.4 (transport (λ Z. HaveTypes τ [] Z (map f ts) o_type) e.1 q.4) in
    (ap suc r.0, (given_one τ Ts f g h t p.0 p.3 (transport (HasType τ [] (f t)) e.0 q.3), r.1))

each_two_right : (P : Term → Type 0) (Q R : Term → Term → Type 0) → ((h t : Term) → P t → Q h t → R h t) → (hs ts : List Term) → EachOf P ts → EachTwo Q hs ts → EachTwo R hs ts
each_two_right P Q R g [] ts p q = tt
each_two_right P Q R g (h ∷ hs) [] p q = tt
each_two_right P Q R g (h ∷ hs) (t ∷ ts) p q = (g h t p.0 q.0, each_two_right P Q R g hs ts p.1 q.1)

each_and : (P Q : Term → Type 0) (ts : List Term) → EachOf P ts → EachOf Q ts → EachOf (λ t. P t × Q t) ts
each_and P Q [] p q = tt
each_and P Q (t ∷ ts) p q = ((p.0, q.0), each_and P Q ts p.1 q.1)

-- the term under a closing, by its head and its arguments
spelt : (z : Closing) (t : Term) → closed z t ≡ apply (closed z (head_of t)) (map (closed z) (arguments t))
spelt z t = ap (closed z) (sym (whole t)) ∙ closed_apply z (head_of t) (arguments t)

abbrev σ_of : (V : List Variable) → (level : ℕ) → (h t : Term) → ℕ → Term
σ_of V level h t = tried_values V level h t

-- all that is known of a clause and a goal under a closing
arguments_given : (d : Declared) (E : List Ty) (V : List Variable) (vs : List Ty) (h b t : Term) → IsMatch d E V vs h b t → (z : Closing) → Closes d V z → closed z (head_of h) ≡ closed z (head_of t) →
    (length (arguments h) ≡ length (arguments t)) × EachTwo (IsGiven (atom_type (under d (map (instance z.types) E))) (map (instance z.types) vs) (closed z)) (arguments h) (arguments t)
arguments_given d E V vs h b t m z cl e =
    let F = map (instance z.types) E in
    let Ts = map (instance z.types) vs in
    let τ = atom_type (under d F) in
    let a = fixed_head z (head_of h) (head_of t) m.heads in
    let p = typed_parts τ Ts (atom a.0) (map (closed z) (arguments h)) o_type (transport (λ x. HasType τ Ts (apply x (map (closed z) (arguments h))) o_type) a.1 (transport (λ x. HasType τ Ts x o_type) (spelt z h) (closed_typed d E V z cl vs h o_type m.head m.head_scoped))) in
    let q = typed_parts τ [] (atom a.0) (map (closed z) (arguments t)) o_type (transport (λ x. HasType τ [] (apply x (map (closed z) (arguments t))) o_type) (sym e ∙ a.1) (transport (λ x. HasType τ [] x o_type) (spelt z t) (closed_typed d E V z cl [] t o_type m.goal.typed m.goal.scoped))) in
    let w : Some q.0 ≡ Some p.0 = sym q.1 ∙ p.1 in
    let k : q.0 ≡ p.0 = cc in
    given_arguments τ Ts (closed z) (λ i. refl) (arguments h) (arguments t) p.0 p.2 (transport (λ X. HaveTypes τ [] X (map (closed z) (arguments t)) o_type) k q.2)

goal_parts : (d : Declared) (E : List Ty) (V : List Variable) (vs : List Ty) (h b t : Term) → IsMatch d E V vs h b t → EachOf (λ u. Within (IsAtomOf d E V) 0 u × IsPositive u) (arguments t)
goal_parts d E V vs h b t m =
    each_and (Within (IsAtomOf d E V) 0) IsPositive (arguments t)
    (within_parts (IsAtomOf d E V) 0 (head_of t) (arguments t) (transport (Within (IsAtomOf d E V) 0) (sym (whole t)) (atoms_of d E V [] t o_type m.goal.typed m.goal.scoped))).1
    (atoms_parts IsPositiveAtom (head_of t) (arguments t) (transport (AllAtoms IsPositiveAtom) (sym (whole t)) m.positive)).1

head_parts : (d : Declared) (E : List Ty) (V : List Variable) (vs : List Ty) (h b t : Term) → IsMatch d E V vs h b t → EachOf (Within (IsAtomOf d E V) (length vs)) (arguments h)
head_parts d E V vs h b t m = (within_parts (IsAtomOf d E V) (length vs) (head_of h) (arguments h) (transport (Within (IsAtomOf d E V) (length vs)) (sym (whole h)) (atoms_of d E V vs h o_type m.head m.head_scoped))).1

-- each variable of the clause gets a witness of its type
pub value_witness : (d : Declared) (E : List Ty) (V : List Variable) (level : ℕ) → length E ≡ level → (vs : List Ty) (h b t : Term) → IsMatch d E V vs h b t → (z : Closing) → Closes d V z → Closes d (V ++ new_variables E vs) z → closed z (head_of h) ≡ closed z (head_of t) →
    (i : ℕ) (A : Ty) → slice_get (map (instance z.types) vs) i ≡ Some A → IsWitness d (map (instance z.types) E) (closed z (σ_of V level h t i)) A
value_witness d E V level l vs h b t m z cl cl' e i =
    slotted_is Q R (length V) level fresh (λ k u q. q k refl) (slots_of [] (arguments h) (arguments t)) (slots_are Q [] (arguments h) (arguments t) slots) i
  where
    Q : Term → Term → Type 0
    Q x u = (k : ℕ) → x ≡ index k → (A : Ty) → slice_get (map (instance z.types) vs) k ≡ Some A → IsWitness d (map (instance z.types) E) (closed z u) A

    R : ℕ → Term → Type 0
    R k u = (A : Ty) → slice_get (map (instance z.types) vs) k ≡ Some A → IsWitness d (map (instance z.types) E) (closed z u) A

    fresh : (k : ℕ) (A : Ty) → slice_get (map (instance z.types) vs) k ≡ Some A → IsWitness d (map (instance z.types) E) (z.terms (length V + k) level) A
    fresh k A q =
        let g = get_mapped (instance z.types) vs k A q in
        let v : Variable = record { type = g.0; scope = E } in
        let p : slice_get (V ++ new_variables E vs) (length V + k) ≡ Some v = get_back V (new_variables E vs) k ∙ get_map (λ T. record { type = T; scope = E }) vs k ∙ ap (option_map (λ T. record { type = T; scope = E })) g.1 in
        transport (λ n. IsWitness d (map (instance z.types) E) (z.terms (length V + k) n) A) l (transport (IsWitness d (map (instance z.types) E) (z.terms (length V + k) (length E))) (sym g.2) (cl'.terms (length V + k) v p))

    slots : EachTwo Q (arguments h) (arguments t)
    slots =
        each_two_right (λ u. Within (IsAtomOf d E V) 0 u × IsPositive u) (IsGiven (atom_type (under d (map (instance z.types) E))) (map (instance z.types) vs) (closed z)) Q
        (λ x u p q k r A y. let g = get_mapped (instance z.types) vs k A y in record {
          typed = q k r A y;
          closed = closed_within d E V z cl 0 u p.0;
          positive = closed_positive d E V z cl u p.0 p.1;
          type_closed = transport IsClosedType (sym g.2) (closed_type z.types cl.types g.0);
        })
        (arguments h) (arguments t) (goal_parts d E V vs h b t m) (arguments_given d E V vs h b t m z cl e).1

-- what a closing gives to the variables of V is given to them where there are more
pub closes_front : (d : Declared) (V K : List Variable) (z : Closing) → Closes d (V ++ K) z → Closes d V z
closes_front d V K z h = record { types = h.types; terms = λ x v e. h.terms x v (get_append V K x v e) }

pub within_values : (d : Declared) (E : List Ty) (V : List Variable) (vs : List Ty) (z : Closing) → Closes d V z → (u : Term) → Within (IsAtomOf d E V) (length vs) u → Within (IsClosedAtom (length (map (instance z.types) E))) (length (map (instance z.types) vs)) (closed z u)
within_values d E V vs z cl u w = transport (λ n. Within (IsClosedAtom (length (map (instance z.types) E))) n (closed z u)) (sym (length_map (instance z.types) vs)) (closed_within d E V z cl (length vs) u w)

pub gives_values : {L : Leaves} (d : Declared) (E : List Ty) (V : List Variable) (level : ℕ) → length E ≡ level → (P : List ClauseFormula)
    (vs : List Ty) (h b t : Term) → IsMatch d E V vs h b t → (z : Closing) → Closes d (V ++ new_variables E vs) z → Unifies z.types
    (type_pairs (head_of t) (head_of h)) →
    SolvesAll z (pairs_of (σ_of V level h t) level [] (arguments h) (arguments t)) → ProvableBy L d (map (instance z.types) E) P (closed z (instantiate (σ_of V level h t) b)) →
    (ws : List Term) × AreWitnessesAt d (map (instance z.types) E) ws (map (instance z.types) vs) × Converts (instantiate (at ws) (closed z h)) (closed z t) × ProvableBy L d (map (instance z.types) E) P (instantiate (at ws) (closed z b))
gives_values {L} d E V level l P vs h b t m z cl' u s p =
    let F = map (instance z.types) E in
    let Ts = map (instance z.types) vs in
    let cl = closes_front d V (new_variables E vs) z cl' in
    let σ = σ_of V level h t in
    let φ = λ (i : ℕ). closed z (σ i) in
    let ws = given_by φ Ts in
    let e = (heads_unify z (head_of h) (head_of t) m.heads).0 u in
    let a = fixed_head z (head_of h) (head_of t) m.heads in
    let given = value_witness d E V level l vs h b t m z cl cl' e in
    let ah = atoms_of d E V vs h o_type m.head m.head_scoped in
    let ab = atoms_of d E V vs b o_type m.body m.body_scoped in
    let wh = within_values d E V vs z cl h ah in
    let wb = within_values d E V vs z cl b ab in
    let by_values = λ (x : Term) (w : Within (IsClosedAtom (length F)) (length Ts) x). instantiate_converts (IsClosedAtom (length F)) (length Ts) (at ws) φ (λ i k. converts_is (given_at φ Ts i k)) x w in
    let g = arguments_given d E V vs h b t m z cl e in
    let w = (pairs_are z σ (length V) level [] (arguments h) (arguments t) (λ k i. refl)).0 s in
    let q : instantiate φ (closed z h) ≡ apply (closed z (head_of h)) (map (λ x. closed z (instantiate σ x)) (arguments h)) =
    sym (closed_instantiate d E V z cl σ (length vs) h ah) ∙ ap (λ x. closed z (instantiate σ x)) (sym (whole h)) ∙ ap (closed z) (instantiate_apply σ (head_of h) (arguments h)) ∙ closed_apply z (instantiate σ (head_of h)) (map (instantiate σ) (arguments h)) ∙
    ap (λ x. apply (closed z x) (map (closed z) (map (instantiate σ) (arguments h)))) (a.2 σ) ∙ ap (apply (closed z (head_of h))) (map_maps (closed z) (instantiate σ) (arguments h)) in
    let conv : Converts (instantiate φ (closed z h)) (closed z t) =
    converts_on (converts_is q) (converts_on (converts_spine (converts_each (λ x. closed z (instantiate σ x)) (closed z) (arguments h) (arguments t) g.0 w) (converts_is e)) (converts_is (sym (spelt z t)))) in
    let f = instantiated_formula d F Ts φ given (closed z b) (closed_typed d E V z cl vs b o_type m.body m.body_scoped) wb in
    let r = transport (ProvableBy L d F P) (closed_instantiate d E V z cl σ (length vs) b ab) p in
    (ws, given_witnesses d F φ Ts given, converts_on (by_values (closed z h) wh) conv, by_conversion d F P (instantiate (at ws) (closed z b)) (instantiate φ (closed z b)) f (converts_sym (by_values (closed z b) wb)) r)

pub keeps_values : {L : Leaves} (d : Declared) (E : List Ty) (V : List Variable) (level : ℕ) (P : List ClauseFormula) (vs : List Ty) (h b t : Term) →
    IsMatch d E V vs h b t → (z : Closing) → Closes d V z → (ws : List Term) → ((k : ℕ) → z.terms (length V + k) level ≡ at ws k) → AreWitnessesAt d
    (map (instance z.types) E) ws (map (instance z.types) vs) →
    Converts (instantiate (at ws) (closed z h)) (closed z t) → ProvableBy L d (map (instance z.types) E) P (instantiate (at ws) (closed z b)) →
    Unifies z.types (type_pairs (head_of t) (head_of h)) × SolvesAll z (pairs_of (σ_of V level h t) level [] (arguments h) (arguments t)) × ProvableBy L d (map (instance z.types) E) P (closed z (instantiate (σ_of V level h t) b))
keeps_values {L} d E V level P vs h b t m z cl ws new wit c p =
    let F = map (instance z.types) E in
    let Ts = map (instance z.types) vs in
    let σ = σ_of V level h t in
    let φ = λ (i : ℕ). closed z (σ i) in
    let a = fixed_head z (head_of h) (head_of t) m.heads in
    let a' = goal_head z (head_of h) (head_of t) m.heads in
    let ah = atoms_of d E V vs h o_type m.head m.head_scoped in
    let ab = atoms_of d E V vs b o_type m.body m.body_scoped in
    let us = map (λ x. instantiate (at ws) (closed z x)) (arguments h) in
    let q : instantiate (at ws) (closed z h) ≡ apply (atom a.0) us =
    ap (instantiate (at ws)) (spelt z h ∙ ap (λ x. apply x (map (closed z) (arguments h))) a.1) ∙ instantiate_apply (at ws) (atom a.0) (map (closed z) (arguments h)) ∙ ap (apply (atom a.0)) (map_maps (instantiate (at ws)) (closed z) (arguments h)) in
    let q' : closed z t ≡ apply (atom a'.0) (map (closed z) (arguments t)) = spelt z t ∙ ap (λ x. apply x (map (closed z) (arguments t))) a'.1 in
    let j = heads_joint (atom a.0) (atom a'.0) us (map (closed z) (arguments t)) tt tt (converts_on (converts_is (sym q)) (converts_on c (converts_is q'))) in
    let e : closed z (head_of h) ≡ closed z (head_of t) = a.1 ∙ j.heads ∙ sym a'.1 in
    let Q = λ (x u : Term). Converts (closed z u) (instantiate (at ws) (closed z x)) in
    let w = each_of_all (λ x. instantiate (at ws) (closed z x)) (closed z) (arguments h) (arguments t) j.arguments in
    let values = slotted_is Q (λ k u. Converts (closed z u) (at ws k)) (length V) level (λ k. converts_is (new k)) (λ k u r. r) (slots_of [] (arguments h) (arguments t)) (slots_are Q [] (arguments h) (arguments t) w) in
    let by_values = λ (x : Term) (r : Within (IsAtomOf d E V) (length vs) x). converts_on
    (converts_is (closed_instantiate d E V z cl σ (length vs) x r)) (instantiate_converts (IsClosedAtom (length F)) (length vs) φ (at ws)
    (λ i k. values i) (closed z x) (closed_within d E V z cl (length vs) x r)) in
    let f = instantiated_formula d F Ts (at ws) (witness_at d F ws Ts wit) (closed z b) (closed_typed d E V z cl vs b o_type m.body m.body_scoped) (within_values d E V vs z cl b ab) in (
      (heads_unify z (head_of h) (head_of t) m.heads).1 e,
      (pairs_are z σ (length V) level [] (arguments h) (arguments t) (λ k i. refl)).1
          (each_two_map (Within (IsAtomOf d E V) (length vs)) Q (λ x u. Converts (closed z u) (closed z (instantiate σ x))) (λ x u r k. converts_on k (converts_sym (by_values x r))) (arguments h) (arguments t) (head_parts d E V vs h b t m) w),
      by_conversion d F P (closed z (instantiate σ b)) (instantiate (at ws) (closed z b)) f (converts_sym (by_values b ab)) p,
    )

-- a closing of the clause's variables too
abbrev pub extended : (V : List Variable) → (ws : List Term) → Closing → Closing
extended V ws c = record { types = c.types; terms = λ x l. if nat_lt x (length V) then c.terms x l else at ws (x - length V) }

pub extended_old : (V : List Variable) (ws : List Term) (c : Closing) (x l : ℕ) → x < length V → (extended V ws c).terms x l ≡ c.terms x l
extended_old V ws c x l h = let e : nat_lt x (length V) ≡ true = grind (arith, nat_tests, h) in ap (λ b. if b then c.terms x l else at ws (x - length V)) e

pub extended_new : (V : List Variable) (ws : List Term) (c : Closing) (k l : ℕ) → (extended V ws c).terms (length V + k) l ≡ at ws k
extended_new V ws c k l =
    let e : nat_lt (length V + k) (length V) ≡ false = grind (arith, nat_tests) in
    let r : length V + k - length V ≡ k = omega arith in
    ap (λ b. if b then c.terms (length V + k) l else at ws (length V + k - length V)) e ∙ ap (at ws) r

pub extended_closes : (d : Declared) (V : List Variable) (E vs : List Ty) (ws : List Term) (c : Closing) → Closes d V c → AreWitnessesAt d (map (instance c.types) E) ws (map (instance c.types) vs) → Closes d (V ++ new_variables E vs) (extended V ws c)
extended_closes d V E vs ws c cl w = record { types = cl.types; terms = λ x v e. given x v (get_split V (new_variables E vs) x v e) }
  where
    given : (x : ℕ) (v : Variable) → (slice_get V x ≡ Some v) ⊎ ((y : ℕ) × (x ≡ length V + y) × (slice_get (new_variables E vs) y ≡ Some v)) → IsWitness d (map (instance c.types) v.scope) ((extended V ws c).terms x (length v.scope)) (instance c.types v.type)
    given x v (inl e) = transport (λ u. IsWitness d (map (instance c.types) v.scope) u (instance c.types v.type)) (sym (extended_old V ws c x (length v.scope) (got_before V x v e))) (cl.terms x v e)
    given x v (inr r) =
        let g = get_mapped (λ T. record { type = T; scope = E }) vs r.0 v r.2 in
        let i : slice_get (map (instance c.types) vs) r.0 ≡ Some (instance c.types g.0) = get_map (instance c.types) vs r.0 ∙ ap (option_map (instance c.types)) g.1 in
        let p = witness_at d (map (instance c.types) E) ws (map (instance c.types) vs) w r.0 (instance c.types g.0) i in
        let q : (extended V ws c).terms x (length v.scope) ≡ at ws r.0 = ap (λ y. (extended V ws c).terms y (length v.scope)) r.1 ∙ extended_new V ws c r.0 (length v.scope) in
        transport (λ u. IsWitness d (map (instance c.types) v.scope) u (instance c.types v.type)) (sym q)
        (transport (λ (y : Variable). IsWitness d (map (instance c.types) y.scope) (at ws r.0) (instance c.types y.type)) (sym g.2) p)

-- in the words of Applies
pub match_solved : {L : Leaves} (d : Declared) (E : List Ty) (V : List Variable) (P : List ClauseFormula) (level : ℕ) (vs : List Ty) (h : Term)
    (body : Goals) (t : Term) (c : Closing) → IsMatch d E V vs h (formula_of_goals body) t → Closes d V c → Applies L d (map (instance c.types) E) P c
    vs h body (closed c t) → (z : Closing) × GoesOn V c z × SolvesMatch L d E V P level vs h body t z
match_solved {L} d E V P level vs h body t c m cl a =
    let ws = a.values in
    let b = formula_of_goals body in
    let z = extended V ws c in
    let cl' = extended_closes d V E vs ws c cl a.witnesses in
    let same = λ (n : ℕ) (u : Term) (w : Within (IsAtomOf d E V) n u). same_closed d E V c z refl (λ x v e. extended_old V ws c x (length v.scope) (got_before V x v e)) n u w in
    let eh = same (length vs) h (atoms_of d E V vs h o_type m.head m.head_scoped) in
    let eb = same (length vs) b (atoms_of d E V vs b o_type m.body m.body_scoped) in
    let et = same 0 t (atoms_of d E V [] t o_type m.goal.typed m.goal.scoped) in
    let conv = transport (λ x. Converts (instantiate (at ws) x) (closed z t)) (sym eh) (transport (λ x. Converts (instantiate (at ws) (closed c h)) x) (sym et) a.head) in
    let p = transport (λ x. ProvableBy L d (map (instance c.types) E) P (instantiate (at ws) x)) (sym eb) a.goals in
    let r = keeps_values d E V level P vs h b t m z (closes_front d V (new_variables E vs) z cl') ws (λ k. extended_new V ws c k level) a.witnesses conv p in
    (z, record { types = refl; terms = λ x l q. extended_old V ws c x l q }, record { closes = cl'; types = r.0; pairs = r.1; goals = r.2 })

pub match_applies : {L : Leaves} (d : Declared) (E : List Ty) (V : List Variable) (P : List ClauseFormula) (level : ℕ) (vs : List Ty) (h : Term)
    (body : Goals) (t : Term) (z : Closing) → length E ≡ level → IsMatch d E V vs h (formula_of_goals body) t → SolvesMatch L d E V P level vs h body
    t z → Applies L d (map (instance z.types) E) P z vs h body (closed z t)
match_applies {L} d E V P level vs h body t z l m s =
    let r = gives_values d E V level l P vs h (formula_of_goals body) t m z s.closes s.types s.pairs s.goals in
    record { values = r.0; witnesses = r.1; head = r.2; goals = r.3 }

-- the body is a formula, where the types of the heads are one
pub body_formula : (d : Declared) (E : List Ty) (V : List Variable) (level : ℕ) → length E ≡ level → (vs : List Ty) (h b t : Term) → IsMatch d E V vs
    h b t → (z : Closing) → Closes d (V ++ new_variables E vs) z → Unifies z.types (type_pairs (head_of t) (head_of h)) → IsFormula d
    (map (instance z.types) E) (closed z (instantiate (tried_values V level h t) b))
body_formula d E V level l vs h b t m z cl' u =
    let cl = closes_front d V (new_variables E vs) z cl' in
    let σ = tried_values V level h t in
    let e = (heads_unify z (head_of h) (head_of t) m.heads).0 u in
    let ab = atoms_of d E V vs b o_type m.body m.body_scoped in
    transport (IsFormula d (map (instance z.types) E)) (sym (closed_instantiate d E V z cl σ (length vs) b ab))
    (instantiated_formula d (map (instance z.types) E) (map (instance z.types) vs) (λ i. closed z (σ i)) (value_witness d E V level l vs h b t m z cl cl' e) (closed z b) (closed_typed d E V z cl vs b o_type m.body m.body_scoped) (within_values d E V vs z cl b ab))
