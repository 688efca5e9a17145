-- Formulas, values, tests and candidates with other eigenconstants and other levels.
use Rattle.std.proofs.Common.{◌≡◌, ℕ, List, [], ◌∷◌, ◌++◌, map, ◌∙◌, refl, sym, ap, Bool, true, false, nat_eq, if◌then◌else◌, ◌||◌, Option, Some, None}
use Rattle.std.specs.Prelude.{◌&&◌, filter, option_map}
use Rattle.std.specs.List.{list_any}
use Rattle.std.proofs.lemmas.List.{map-append}
use Rattle.lp_calculus.specs.Types.{Ty}
use Rattle.lp_calculus.specs.Term.{Term, Atom, index, atom, abs, app, apply, constant, integer, text, eigen, logic, param}
use Rattle.lp_calculus.specs.Normal.{eta_normal}
use Rattle.lp_calculus.specs.Spine.{head_of, arguments, arguments_and}
use Rattle.lp_standard.specs.Numbers as number
use Rattle.lp_standard.specs.Connectives.{Connective, connective_of, connective_at, connective_of_constant, body_of}
use Rattle.lp_standard.specs.Connectives as connective
use Rattle.lp_model.specs.declared.ending.Fault.TheVariants.{NotClosed}
use Rattle.lp_model.specs.Look.{top_normal}
use Rattle.lp_model.specs.Eigens.{beta_normal}
use Rattle.lp_model.specs.Same.{same_name}
use Rattle.lp_model.specs.Index.{instantiate}
use Rattle.lp_model.specs.Pair.{Pair}
use Rattle.lp_model.specs.Flat.{Clause, clause, Written, same_type}
use Rattle.lp_model.specs.Values.{Value, Number, Bytes, Faults, both, single, is_two_place, is_one_place, value, evaluate, term_of}
use Rattle.lp_model.specs.Search.{key_of, may_meet, first_key, has_head, passes, candidates, first_looked, goal_looked, are_absent, is_new, Slot, slot_of, slots_of, slotted, pairs_of, has_type_variable, is_variable, has_variable, beta_normals, has_variables}
use Rattle.lp_unify_laws.proofs.Instances.{map_map, map_same_as, bind_map}
use Rattle.lp_search_laws.proofs.Moved.Terms.{Moving, moved, moved_atom, moved_all, moved_top_normal, moved_beta_normal, eta_moved, absent_moved}
use Rattle.lp_search_laws.proofs.Moved.Heads.{name_moved}
use Rattle.lp_search_laws.proofs.Moved.Rules.{moved_pair}
use Rattle.lp_search_laws.proofs.Moved.Goals.{moved_shift, AreMoved, instantiate_moved, moved_clause, moved_written}

-- heads and arguments
pub head_of_moved : (m : Moving) (t : Term) → head_of (moved m t) ≡ moved m (head_of t)
head_of_moved m (index i) = refl
head_of_moved m (atom a) = refl
head_of_moved m (abs b) = refl
head_of_moved m (app f a) = head_of_moved m f

arguments_and_moved : (m : Moving) (t : Term) (us : List Term) → arguments_and (moved m t) (moved_all m us) ≡ moved_all m (arguments_and t us)
arguments_and_moved m (index i) us = refl
arguments_and_moved m (atom a) us = refl
arguments_and_moved m (abs b) us = refl
arguments_and_moved m (app f a) us = arguments_and_moved m f (a ∷ us)

pub arguments_moved : (m : Moving) (t : Term) → arguments (moved m t) ≡ moved_all m (arguments t)
arguments_moved m t = arguments_and_moved m t []

-- connectives
abbrev pub moved_connective : Moving → Connective → Connective
moved_connective m connective.True = connective.True
moved_connective m connective.Cut = connective.Cut
moved_connective m (connective.And l r) = connective.And (moved m l) (moved m r)
moved_connective m (connective.Or l r) = connective.Or (moved m l) (moved m r)
moved_connective m (connective.Implies c g) = connective.Implies (moved m c) (moved m g)
moved_connective m (connective.ForAll T s) = connective.ForAll T (moved m s)
moved_connective m (connective.Exists T s) = connective.Exists T (moved m s)
moved_connective m (connective.Not g) = connective.Not (moved m g)
moved_connective m connective.Atomic = connective.Atomic

body_moved : (m : Moving) (t : Term) → body_of (moved m t) ≡ moved m (body_of t)
body_moved m (abs b) = refl
body_moved m (index i) = ap (λ z. app z (index 0)) (sym (moved_shift m 0 1 (index i)))
body_moved m (atom a) = refl
body_moved m (app t u) = ap (λ z. app z (index 0)) (sym (moved_shift m 0 1 (app t u)))

if_connective : (m : Moving) (b : Bool) (x y : Connective) (z : Connective) → z ≡ moved_connective m y → (if b then moved_connective m x else z) ≡ moved_connective m (if b then x else y)
if_connective m true x y z e = refl
if_connective m false x y z e = e

constant_moved : (m : Moving) (c : ℕ) (ts : List Ty) (us : List Term) → connective_of_constant c ts (moved_all m us) ≡ moved_connective m (connective_of_constant c ts us)
constant_moved m c ts [] = if_connective m (nat_eq c number.True) connective.True _ _ (if_connective m (nat_eq c number.Cut) connective.Cut _ _ refl)
constant_moved m c (T ∷ []) (a ∷ []) =
    (λ i. if nat_eq c number.ForAll then connective.ForAll T (body_moved m a i) else (if nat_eq c number.Exists then connective.Exists T (body_moved m a i) else connective.Atomic)) ∙
    if_connective m (nat_eq c number.ForAll) (connective.ForAll T (body_of a)) _ _ (if_connective m (nat_eq c number.Exists) (connective.Exists T (body_of a)) _ _ refl)
constant_moved m c [] (a ∷ []) = if_connective m (nat_eq c number.Not) (connective.Not a) _ _ refl
constant_moved m c (T ∷ U ∷ ts) (a ∷ []) = refl
constant_moved m c [] (a ∷ b ∷ []) =
    if_connective m (nat_eq c number.And) (connective.And a b) _ _ (if_connective m (nat_eq c number.Or) (connective.Or a b) _ _ (if_connective m (nat_eq c number.Implies) (connective.Implies a b) _ _ (if_connective m (nat_eq c number.If) (connective.Implies b a) _ _ refl)))
constant_moved m c (T ∷ []) (a ∷ b ∷ []) = refl
constant_moved m c (T ∷ U ∷ ts) (a ∷ b ∷ []) = refl
constant_moved m c [] (a ∷ b ∷ d ∷ us) = refl
constant_moved m c (T ∷ []) (a ∷ b ∷ d ∷ us) = refl
constant_moved m c (T ∷ U ∷ ts) (a ∷ b ∷ d ∷ us) = refl

at_moved : (m : Moving) (h : Term) (us : List Term) → connective_at (moved m h) (moved_all m us) ≡ moved_connective m (connective_at h us)
at_moved m (index i) us = refl
at_moved m (atom (constant c ts)) us = constant_moved m c ts us
at_moved m (atom (integer z)) us = refl
at_moved m (atom (text s)) us = refl
at_moved m (atom (eigen k)) us = refl
at_moved m (atom (logic x l)) us = refl
at_moved m (atom (param k T)) us = refl
at_moved m (abs b) us = refl
at_moved m (app f a) us = refl

pub connective_moved : (m : Moving) (t : Term) → connective_of (moved m t) ≡ moved_connective m (connective_of t)
connective_moved m t = (λ i. connective_at (head_of_moved m t i) (arguments_moved m t i)) ∙ at_moved m (head_of t) (arguments t)

-- values
value_moved : (m : Moving) (t : Term) → value (moved m t) ≡ value t
value_moved m (index i) = refl
value_moved m (atom (constant c ts)) = refl
value_moved m (atom (integer z)) = refl
value_moved m (atom (text s)) = refl
value_moved m (atom (eigen k)) = refl
value_moved m (atom (logic x l)) = refl
value_moved m (atom (param k T)) = refl
value_moved m (abs b) = refl
value_moved m (app (index i) a) = refl
value_moved m (app (atom (constant c ts)) a) = λ i. if is_one_place c then single c (value_moved m a i) else Faults NotClosed
value_moved m (app (atom (integer z)) a) = refl
value_moved m (app (atom (text s)) a) = refl
value_moved m (app (atom (eigen k)) a) = refl
value_moved m (app (atom (logic x l)) a) = refl
value_moved m (app (atom (param k T)) a) = refl
value_moved m (app (abs b) a) = refl
value_moved m (app (app (index i) a) b) = refl
value_moved m (app (app (atom (constant c ts)) a) b) = λ i. if is_two_place c then both c (value_moved m a i) (value_moved m b i) else Faults NotClosed
value_moved m (app (app (atom (integer z)) a) b) = refl
value_moved m (app (app (atom (text s)) a) b) = refl
value_moved m (app (app (atom (eigen k)) a) b) = refl
value_moved m (app (app (atom (logic x l)) a) b) = refl
value_moved m (app (app (atom (param k T)) a) b) = refl
value_moved m (app (app (abs c) a) b) = refl
value_moved m (app (app (app f c) a) b) = refl

pub evaluate_moved : (m : Moving) (n : ℕ) (t : Term) → evaluate n (moved m t) ≡ evaluate n t
evaluate_moved m n t = map_same_as (moved m) (λ s. value (eta_normal s)) (λ s. value (eta_normal s)) (beta_normal n t) (beta_normal n (moved m t)) (moved_beta_normal m n t) (λ s. ap value (eta_moved m s) ∙ value_moved m (eta_normal s))

pub moved_value : (m : Moving) (v : Value) → moved m (term_of v) ≡ term_of v
moved_value m (Number z) = refl
moved_value m (Bytes s) = refl

-- tests for variables
variable_atom : (m : Moving) (a : Atom) → is_variable (moved_atom m a) ≡ is_variable a
variable_atom m (logic x l) = refl
variable_atom m (constant c ts) = refl
variable_atom m (integer z) = refl
variable_atom m (text s) = refl
variable_atom m (eigen k) = refl
variable_atom m (param k T) = refl

variable_moved : (m : Moving) (t : Term) → has_variable (moved m t) ≡ has_variable t
variable_moved m (index i) = refl
variable_moved m (atom a) = variable_atom m a
variable_moved m (abs b) = variable_moved m b
variable_moved m (app t u) = λ i. variable_moved m t i || variable_moved m u i

any_moved : (m : Moving) (ts : List Term) → list_any has_variable (moved_all m ts) ≡ list_any has_variable ts
any_moved m [] = refl
any_moved m (t ∷ ts) = λ i. variable_moved m t i || any_moved m ts i

pub same_types : (Ts : List Ty) → map same_type Ts ≡ Ts
same_types [] = refl
same_types (T ∷ Ts) = ap (λ z. T ∷ z) (same_types Ts)

normals_moved : (m : Moving) (n : ℕ) (ts : List Term) → beta_normals n (moved_all m ts) ≡ option_map (moved_all m) (beta_normals n ts)
normals_moved m n [] = refl
normals_moved m n (t ∷ ts) =
    bind_map (moved m) (λ s. option_map (λ ss. s ∷ ss) (beta_normals n (moved_all m ts))) (λ s. option_map (λ ss. s ∷ ss) (beta_normals n ts)) (moved_all m) (beta_normal n t) (beta_normal n (moved m t)) (moved_beta_normal m n t)
    (λ s. map_map (moved_all m) (λ ss. moved m s ∷ ss) (λ ss. s ∷ ss) (moved_all m) (beta_normals n ts) (beta_normals n (moved_all m ts)) (normals_moved m n ts) (λ ss. refl))

pub variables_moved : (m : Moving) (n : ℕ) (w : Written) → has_variables n (moved_written m w) ≡ has_variables n w
variables_moved m n w = map_same_as (moved_all m) (λ ts. list_any has_variable ts || list_any has_type_variable (map same_type w.types)) (λ ts. list_any has_variable ts || list_any has_type_variable w.types) (beta_normals n w.terms) (beta_normals n (moved_all m w.terms)) (normals_moved m n w.terms)
    (λ ts. λ i. any_moved m ts i || list_any has_type_variable (same_types w.types i))

-- candidates
key_moved : (m : Moving) (t : Term) → key_of (moved m t) ≡ option_map (moved_atom m) (key_of t)
key_moved m (index i) = refl
key_moved m (atom (constant c ts)) = refl
key_moved m (atom (integer z)) = refl
key_moved m (atom (text s)) = refl
key_moved m (atom (eigen k)) = refl
key_moved m (atom (logic x l)) = refl
key_moved m (atom (param k T)) = refl
key_moved m (abs b) = refl
key_moved m (app f a) = key_moved m f

meet_moved : (m : Moving) (o p : Option Atom) → may_meet (option_map (moved_atom m) o) (option_map (moved_atom m) p) ≡ may_meet o p
meet_moved m None p = refl
meet_moved m (Some a) None = refl
meet_moved m (Some a) (Some b) = name_moved m (atom a) (atom b)

first_moved : (m : Moving) (ts : List Term) → first_key (moved_all m ts) ≡ option_map (moved_atom m) (first_key ts)
first_moved m [] = refl
first_moved m (t ∷ ts) = key_moved m t

heads_same : (m : Moving) (h t : Term) → same_name (head_of (moved m h)) (head_of (moved m t)) ≡ same_name (head_of h) (head_of t)
heads_same m h t = (λ i. same_name (head_of_moved m h i) (head_of_moved m t i)) ∙ name_moved m (head_of h) (head_of t)

has_head_moved : (m : Moving) (t : Term) (c : Clause) → has_head (moved m t) (moved_clause m c) ≡ has_head t c
has_head_moved m t (clause k vs h b) = heads_same m h t

firsts_same : (m : Moving) (t : Term) → first_key (arguments (moved m t)) ≡ option_map (moved_atom m) (first_key (arguments t))
firsts_same m t = ap first_key (arguments_moved m t) ∙ first_moved m (arguments t)

passes_moved : (m : Moving) (t : Term) (c : Clause) → passes (moved m t) (moved_clause m c) ≡ passes t c
passes_moved m t (clause k vs h b) = λ i. heads_same m h t i && ((λ j. may_meet (firsts_same m h j) (firsts_same m t j)) ∙ meet_moved m (first_key (arguments h)) (first_key (arguments t))) i

if_mapped : {A B : Type 0} (f : A → B) (b : Bool) (x : A) (xs : List A) → (if b then f x ∷ map f xs else map f xs) ≡ map f (if b then x ∷ xs else xs)
if_mapped f true x xs = refl
if_mapped f false x xs = refl

filter_moved : {A : Type 0} (f : A → A) (p q : A → Bool) → ((a : A) → q (f a) ≡ p a) → (xs : List A) → filter q (map f xs) ≡ map f (filter p xs)
filter_moved f p q h [] = refl
filter_moved f p q h (x ∷ xs) = (λ i. if h x i then f x ∷ filter_moved f p q h xs i else filter_moved f p q h xs i) ∙ if_mapped f (p x) x (filter p xs)

pub candidates_moved : (m : Moving) (P A : List Clause) → map (moved_clause m) P ≡ P → (t : Term) → candidates P (map (moved_clause m) A) (moved m t) ≡ map (moved_clause m) (candidates P A t)
candidates_moved m P A e t =
    (λ i. filter_moved (moved_clause m) (has_head t) (has_head (moved m t)) (has_head_moved m t) A i ++ ((λ j. filter (passes (moved m t)) (sym e j)) ∙ filter_moved (moved_clause m) (passes t) (passes (moved m t)) (passes_moved m t) P) i) ∙
    sym (map-append (moved_clause m) (filter (has_head t) A) (filter (passes t) P))

apply_moved : (m : Moving) (h : Term) (ts : List Term) → apply (moved m h) (moved_all m ts) ≡ moved m (apply h ts)
apply_moved m h [] = refl
apply_moved m h (t ∷ ts) = apply_moved m (app h t) ts

first_looked_moved : (m : Moving) (n : ℕ) (h : Term) (ts : List Term) → first_looked n (moved m h) (moved_all m ts) ≡ option_map (moved m) (first_looked n h ts)
first_looked_moved m n h [] = refl
first_looked_moved m n h (t ∷ ts) =
    map_map (moved m) (λ s. apply (moved m h) (s ∷ moved_all m ts)) (λ s. apply h (s ∷ ts)) (moved m) (top_normal n t) (top_normal n (moved m t)) (moved_top_normal m n t) (λ s. apply_moved m h (s ∷ ts))

pub goal_looked_moved : (m : Moving) (n : ℕ) (t : Term) → goal_looked n (moved m t) ≡ option_map (moved m) (goal_looked n t)
goal_looked_moved m n t = (λ i. first_looked n (head_of_moved m t i) (arguments_moved m t i)) ∙ first_looked_moved m n (head_of t) (arguments t)

-- the slots of a clause's variables
absent_all : (m : Moving) (k : ℕ) (ts : List Term) → are_absent k (moved_all m ts) ≡ are_absent k ts
absent_all m k [] = refl
absent_all m k (t ∷ ts) = λ i. absent_moved m k t i && absent_all m k ts i

new_moved : (m : Moving) (h : Term) (earlier : List Term) → is_new (moved m h) (moved_all m earlier) ≡ is_new h earlier
new_moved m (index k) earlier = absent_all m k earlier
new_moved m (atom a) earlier = refl
new_moved m (abs b) earlier = refl
new_moved m (app t u) earlier = refl

abbrev moved_slot : Moving → Slot → Slot
moved_slot m s = record { variable = s.variable; term = moved m s.term }

slot_moved : (m : Moving) (h t : Term) → slot_of (moved m h) (moved m t) ≡ moved_slot m (slot_of h t)
slot_moved m (index k) t = refl
slot_moved m (atom a) t = refl
slot_moved m (abs b) t = refl
slot_moved m (app f u) t = refl

slots_moved : (m : Moving) (earlier hs ts : List Term) → slots_of (moved_all m earlier) (moved_all m hs) (moved_all m ts) ≡ map (moved_slot m) (slots_of earlier hs ts)
slots_moved m earlier [] ts = refl
slots_moved m earlier (h ∷ hs) [] = refl
slots_moved m earlier (h ∷ hs) (t ∷ ts) =
    (λ i. if new_moved m h earlier i then slot_moved m h t i ∷ slots_moved m (h ∷ earlier) hs ts i else slots_moved m (h ∷ earlier) hs ts i) ∙ if_mapped (moved_slot m) (is_new h earlier) (slot_of h t) (slots_of (h ∷ earlier) hs ts)

if_term : (m : Moving) (b : Bool) (t u w : Term) → w ≡ moved m u → (if b then moved m t else w) ≡ moved m (if b then t else u)
if_term m true t u w e = refl
if_term m false t u w e = e

slotted_moved : (m : Moving) (ss : List Slot) (next l k : ℕ) → slotted (map (moved_slot m) ss) next (m.level l) k ≡ moved m (slotted ss next l k)
slotted_moved m [] next l k = refl
slotted_moved m (s ∷ ss) next l k = if_term m (nat_eq k s.variable) s.term (slotted ss next l k) (slotted (map (moved_slot m) ss) next (m.level l) k) (slotted_moved m ss next l k)

pub terms_for : (m : Moving) (h t : Term) (next l : ℕ) → AreMoved m (slotted (slots_of [] (arguments h) (arguments t)) next l) (slotted (slots_of [] (arguments (moved m h)) (arguments (moved m t))) next (m.level l))
terms_for m h t next l k = ap (λ ss. slotted ss next (m.level l) k) ((λ i. slots_of [] (arguments_moved m h i) (arguments_moved m t i)) ∙ slots_moved m [] (arguments h) (arguments t)) ∙ slotted_moved m (slots_of [] (arguments h) (arguments t)) next l k

if_pairs : (m : Moving) (b : Bool) (p : Pair) (ps : List Pair) → (if b then map (moved_pair m) ps else moved_pair m p ∷ map (moved_pair m) ps) ≡ map (moved_pair m) (if b then ps else p ∷ ps)
if_pairs m true p ps = refl
if_pairs m false p ps = refl

pub pairs_moved : (m : Moving) (σ τ : ℕ → Term) → AreMoved m σ τ → (l : ℕ) (earlier hs ts : List Term) → pairs_of τ (m.level l) (moved_all m earlier) (moved_all m hs) (moved_all m ts) ≡ map (moved_pair m) (pairs_of σ l earlier hs ts)
pairs_moved m σ τ r l earlier [] ts = refl
pairs_moved m σ τ r l earlier (h ∷ hs) [] = refl
pairs_moved m σ τ r l earlier (h ∷ hs) (t ∷ ts) =
    (λ i. if new_moved m h earlier i then pairs_moved m σ τ r l (h ∷ earlier) hs ts i else record { left = moved m t; right = instantiate_moved m σ τ r h i; level = m.level l } ∷ pairs_moved m σ τ r l (h ∷ earlier) hs ts i) ∙
    if_pairs m (is_new h earlier) (record { left = t; right = instantiate σ h; level = l }) (pairs_of σ l (h ∷ earlier) hs ts)
