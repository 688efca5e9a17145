-- Other eigenconstants and other levels in terms, one to one and in their order: every step of reduction and each look goes through.
use Rattle.std.proofs.Common.{◌≡◌, ℕ, zero, suc, ◌≤◌, min, List, [], ◌∷◌, map, length, ◌∙◌, refl, sym, ap, Bool, true, false, nat_eq, not, if◌then◌else◌, ◌||◌, Option, Some, None}
use Rattle.std.specs.Prelude.{◌&&◌, nat_lt, nat_le, option_map}
use Rattle.lp_calculus.specs.Types.{Ty}
use Rattle.lp_calculus.specs.Term.{Term, index, atom, abs, app, apply, Atom, substitute, constant, integer, text, eigen, logic, param}
use Rattle.lp_calculus.specs.Convert.{head_step, leftmost_step, option_term}
use Rattle.lp_calculus.specs.Fill.{fill, at_variables, one, Binding, put, indexed, abstraction, abstracted}
use Rattle.lp_calculus.specs.Instance.{instance_term, instance_atom}
use Rattle.lp_calculus.specs.Normal.{is_absent, contracted, eta_normal}
use Rattle.lp_calculus.proofs.Fills.{fill-fill, fill-substitute}
use Rattle.lp_calculus.proofs.Eta.{app_same}
use Rattle.lp_unify_laws.proofs.TypeInstances.{term_map, or_map}
use Rattle.lp_unify_laws.proofs.Instances.{map_map, bind_map}
use Rattle.lp_model.specs.Patterns.{eigens, member}
use Rattle.lp_model.specs.Eigens.{beta_normal, eigen_of, as_eigen}
use Rattle.lp_model.specs.Look.{Look, an_abs, rigid, flexible, looked, head_normal, look, weak_step, top_normal, as_eigens, only_if, pattern_of, are_distinct, are_above}

-- another eigenconstant for each, and another level; from a level on what comes next stays what comes next
pub record Moving : Type 0 where
  pub level : ℕ → ℕ
  pub eigen : ℕ → ℕ
  pub from : ℕ
  pub same_levels : (l m : ℕ) → nat_eq (level l) (level m) ≡ nat_eq l m
  pub same_eigens : (j k : ℕ) → nat_eq (eigen j) (eigen k) ≡ nat_eq j k
  pub lower : (l m : ℕ) → nat_lt (level l) (level m) ≡ nat_lt l m
  pub at_most : (l m : ℕ) → nat_le (level l) (level m) ≡ nat_le l m
  pub above : (l k : ℕ) → nat_lt (level l) (eigen k) ≡ nat_lt l k
  pub up_to : (k l : ℕ) → nat_le (eigen k) (level l) ≡ nat_le k l
  pub least : (l m : ℕ) → min (level l) (level m) ≡ level (min l m)
  pub next : (l : ℕ) → from ≤ l → eigen (suc l) ≡ suc (level l)
  pub next_level : (l : ℕ) → from ≤ l → level (suc l) ≡ suc (level l)

abbrev pub moved_atom : Moving → Atom → Atom
moved_atom m (constant c ts) = constant c ts
moved_atom m (integer z) = integer z
moved_atom m (text s) = text s
moved_atom m (eigen k) = eigen (m.eigen k)
moved_atom m (logic x l) = logic x (m.level l)
moved_atom m (param k T) = param k T

abbrev pub moved_by : Moving → Atom → Term
moved_by m a = atom (moved_atom m a)

abbrev pub moved : Moving → Term → Term
moved m t = fill (moved_by m) t

abbrev pub moved_all : Moving → List Term → List Term
moved_all m ts = map (moved m) ts

pub moved_substitute : (m : Moving) (u b : Term) → moved m (substitute u b) ≡ substitute (moved m u) (moved m b)
moved_substitute m u b = fill-substitute (moved_by m) u b

-- reduction
pub moved_head_step : (m : Moving) (t : Term) → head_step (moved m t) ≡ option_term (moved m) (head_step t)
moved_head_step m (index i) = refl
moved_head_step m (atom a) = refl
moved_head_step m (abs b) = term_map (moved m) abs (moved m) abs (head_step b) (head_step (moved m b)) (moved_head_step m b) (λ t. refl)
moved_head_step m (app (abs b) u) = ap (λ z. Some z) (sym (moved_substitute m u b))
moved_head_step m (app (index i) u) = refl
moved_head_step m (app (atom a) u) = refl
moved_head_step m (app (app t v) u) = term_map (moved m) (λ s. app s (moved m u)) (moved m) (λ s. app s u) (head_step (app t v)) (head_step (moved m (app t v))) (moved_head_step m (app t v)) (λ s. refl)

moved_weak_step : (m : Moving) (t : Term) → weak_step (moved m t) ≡ option_term (moved m) (weak_step t)
moved_weak_step m (index i) = refl
moved_weak_step m (atom a) = refl
moved_weak_step m (abs b) = refl
moved_weak_step m (app (abs b) u) = ap (λ z. Some z) (sym (moved_substitute m u b))
moved_weak_step m (app (index i) u) = refl
moved_weak_step m (app (atom a) u) = refl
moved_weak_step m (app (app t v) u) = term_map (moved m) (λ s. app s (moved m u)) (moved m) (λ s. app s u) (weak_step (app t v)) (weak_step (moved m (app t v))) (moved_weak_step m (app t v)) (λ s. refl)

pub moved_leftmost : (m : Moving) (t : Term) → leftmost_step (moved m t) ≡ option_term (moved m) (leftmost_step t)
moved_leftmost m (index i) = refl
moved_leftmost m (atom a) = refl
moved_leftmost m (abs b) = term_map (moved m) abs (moved m) abs (leftmost_step b) (leftmost_step (moved m b)) (moved_leftmost m b) (λ t. refl)
moved_leftmost m (app (abs b) u) = ap (λ z. Some z) (sym (moved_substitute m u b))
moved_leftmost m (app (index i) u) = term_map (moved m) (app (index i)) (moved m) (app (index i)) (leftmost_step u) (leftmost_step (moved m u)) (moved_leftmost m u) (λ s. refl)
moved_leftmost m (app (atom a) u) = term_map (moved m) (app (atom (moved_atom m a))) (moved m) (app (atom a)) (leftmost_step u) (leftmost_step (moved m u)) (moved_leftmost m u) (λ s. refl)
moved_leftmost m (app (app t v) u) =
    or_map (moved m) (option_term (λ s. app s u) (leftmost_step (app t v))) (option_term (app (app t v)) (leftmost_step u))
    (option_term (λ s. app s (moved m u)) (leftmost_step (moved m (app t v)))) (option_term (app (moved m (app t v))) (leftmost_step (moved m u)))
    (term_map (moved m) (λ s. app s (moved m u)) (moved m) (λ s. app s u) (leftmost_step (app t v)) (leftmost_step (moved m (app t v))) (moved_leftmost m (app t v)) (λ s. refl))
    (term_map (moved m) (app (moved m (app t v))) (moved m) (app (app t v)) (leftmost_step u) (leftmost_step (moved m u)) (moved_leftmost m u) (λ s. refl))

-- eta
pub absent_moved : (m : Moving) (d : ℕ) (t : Term) → is_absent d (moved m t) ≡ is_absent d t
absent_moved m d (index i) = refl
absent_moved m d (atom a) = refl
absent_moved m d (abs b) = absent_moved m (suc d) b
absent_moved m d (app t u) = λ i. absent_moved m d t i && absent_moved m d u i

if_moved : (m : Moving) (b : Bool) (t u : Term) → (if b then moved m t else moved m u) ≡ moved m (if b then t else u)
if_moved m true t u = refl
if_moved m false t u = refl

contracted_moved : (m : Moving) (b : Term) → contracted (moved m b) ≡ moved m (contracted b)
contracted_moved m (index i) = refl
contracted_moved m (atom a) = refl
contracted_moved m (abs b) = refl
contracted_moved m (app t (index zero)) =
    (λ i. if absent_moved m 0 t i then sym (moved_substitute m (index 0) t) i else abs (app (moved m t) (index zero))) ∙ if_moved m (is_absent 0 t) (substitute (index 0) t) (abs (app t (index zero)))
contracted_moved m (app t (index (suc i))) = refl
contracted_moved m (app t (atom a)) = refl
contracted_moved m (app t (abs b)) = refl
contracted_moved m (app t (app u v)) = refl

pub eta_moved : (m : Moving) (t : Term) → eta_normal (moved m t) ≡ moved m (eta_normal t)
eta_moved m (index i) = refl
eta_moved m (atom a) = refl
eta_moved m (abs b) = ap contracted (eta_moved m b) ∙ contracted_moved m (eta_normal b)
eta_moved m (app t u) = app_same (eta_moved m t) (eta_moved m u)

next_moved : (m : Moving) (f : Term → Option Term) (t : Term) → ((s : Term) → f (moved m s) ≡ option_map (moved m) (f s)) → (o o' : Option Term) → o' ≡ option_term (moved m) o →
    (elim o' [ None ↦ Some (moved m t) | Some s ↦ f s ]) ≡ option_map (moved m) (elim o [ None ↦ Some t | Some s ↦ f s ])
next_moved m f t h None o' e = ap (λ (z : Option Term). elim z as (λ y. Option Term) [ None ↦ Some (moved m t) | Some s ↦ f s ]) e
next_moved m f t h (Some s) o' e = ap (λ (z : Option Term). elim z as (λ y. Option Term) [ None ↦ Some (moved m t) | Some r ↦ f r ]) e ∙ h s

pub moved_head_normal : (m : Moving) (n : ℕ) (t : Term) → head_normal n (moved m t) ≡ option_map (moved m) (head_normal n t)
moved_head_normal m zero t = refl
moved_head_normal m (suc n) t = next_moved m (head_normal n) t (moved_head_normal m n) (head_step t) (head_step (moved m t)) (moved_head_step m t)

pub moved_top_normal : (m : Moving) (n : ℕ) (t : Term) → top_normal n (moved m t) ≡ option_map (moved m) (top_normal n t)
moved_top_normal m zero t = refl
moved_top_normal m (suc n) t = next_moved m (top_normal n) t (moved_top_normal m n) (weak_step t) (weak_step (moved m t)) (moved_weak_step m t)

pub moved_beta_normal : (m : Moving) (n : ℕ) (t : Term) → beta_normal n (moved m t) ≡ option_map (moved m) (beta_normal n t)
moved_beta_normal m zero t = refl
moved_beta_normal m (suc n) t = next_moved m (beta_normal n) t (moved_beta_normal m n) (leftmost_step t) (leftmost_step (moved m t)) (moved_leftmost m t)

-- looks
abbrev pub moved_look : Moving → Look → Look
moved_look m (an_abs b) = an_abs (moved m b)
moved_look m (rigid h ts) = rigid (moved m h) (moved_all m ts)
moved_look m (flexible x l ts) = flexible x (m.level l) (moved_all m ts)

looked_moved : (m : Moving) (t : Term) (ts : List Term) → looked (moved m t) (moved_all m ts) ≡ moved_look m (looked t ts)
looked_moved m (index i) ts = refl
looked_moved m (atom (logic x l)) ts = refl
looked_moved m (atom (constant c us)) ts = refl
looked_moved m (atom (integer z)) ts = refl
looked_moved m (atom (text s)) ts = refl
looked_moved m (atom (eigen k)) ts = refl
looked_moved m (atom (param k u)) ts = refl
looked_moved m (abs b) [] = refl
looked_moved m (abs b) (t ∷ ts) = refl
looked_moved m (app f u) ts = looked_moved m f (u ∷ ts)

pub look_moved : (m : Moving) (n : ℕ) (t : Term) → look n (moved m t) ≡ option_map (moved_look m) (look n t)
look_moved m n t = map_map (moved m) (λ s. looked s []) (λ s. looked s []) (moved_look m) (head_normal n t) (head_normal n (moved m t)) (moved_head_normal m n t) (λ s. looked_moved m s [])

-- patterns
eigen_moved : (m : Moving) (t : Term) → eigen_of (moved m t) ≡ option_map m.eigen (eigen_of t)
eigen_moved m (index i) = refl
eigen_moved m (atom (logic x l)) = refl
eigen_moved m (atom (constant c us)) = refl
eigen_moved m (atom (integer z)) = refl
eigen_moved m (atom (text s)) = refl
eigen_moved m (atom (eigen k)) = refl
eigen_moved m (atom (param k u)) = refl
eigen_moved m (abs b) = refl
eigen_moved m (app f u) = refl

as_eigen_moved : (m : Moving) (n : ℕ) (t : Term) → as_eigen n (moved m t) ≡ option_map (option_map m.eigen) (as_eigen n t)
as_eigen_moved m n t = map_map (moved m) (λ s. eigen_of (eta_normal s)) (λ s. eigen_of (eta_normal s)) (option_map m.eigen) (beta_normal n t) (beta_normal n (moved m t)) (moved_beta_normal m n t)
    (λ s. ap eigen_of (eta_moved m s) ∙ eigen_moved m (eta_normal s))

abbrev with_eigen : ℕ → List Term → Option ℕ → Option (Option (List ℕ))
with_eigen n ts o = elim o [
  | None ↦ Some None
  | Some k ↦ option_map (option_map (λ ks. k ∷ ks)) (as_eigens n ts)
]

put_first : (m : Moving) (k : ℕ) (o : Option (List ℕ)) → option_map (λ ks. m.eigen k ∷ ks) (option_map (map m.eigen) o) ≡ option_map (map m.eigen) (option_map (λ ks. k ∷ ks) o)
put_first m k None = refl
put_first m k (Some ks) = refl

with_eigen_moved : (m : Moving) (n : ℕ) (ts us : List Term) → as_eigens n us ≡ option_map (option_map (map m.eigen)) (as_eigens n ts) → (o : Option ℕ) → with_eigen n us (option_map m.eigen o) ≡ option_map (option_map (map m.eigen)) (with_eigen n ts o)
with_eigen_moved m n ts us e None = refl
with_eigen_moved m n ts us e (Some k) = map_map (option_map (map m.eigen)) (option_map (λ ks. m.eigen k ∷ ks)) (option_map (λ ks. k ∷ ks)) (option_map (map m.eigen)) (as_eigens n ts) (as_eigens n us) e (put_first m k)

as_eigens_moved : (m : Moving) (n : ℕ) (ts : List Term) → as_eigens n (moved_all m ts) ≡ option_map (option_map (map m.eigen)) (as_eigens n ts)
as_eigens_moved m n [] = refl
as_eigens_moved m n (t ∷ ts) = bind_map (option_map m.eigen) (with_eigen n (moved_all m ts)) (with_eigen n ts) (option_map (map m.eigen)) (as_eigen n t) (as_eigen n (moved m t)) (as_eigen_moved m n t) (with_eigen_moved m n ts (moved_all m ts) (as_eigens_moved m n ts))

pub member_moved : (m : Moving) (k : ℕ) (ks : List ℕ) → member (m.eigen k) (map m.eigen ks) ≡ member k ks
member_moved m k [] = refl
member_moved m k (c ∷ cs) = λ i. m.same_eigens k c i || member_moved m k cs i

distinct_moved : (m : Moving) (ks : List ℕ) → are_distinct (map m.eigen ks) ≡ are_distinct ks
distinct_moved m [] = refl
distinct_moved m (k ∷ ks) = λ i. not (member_moved m k ks i) && distinct_moved m ks i

above_moved : (m : Moving) (l : ℕ) (ks : List ℕ) → are_above (m.level l) (map m.eigen ks) ≡ are_above l ks
above_moved m l [] = refl
above_moved m l (k ∷ ks) = λ i. m.above l k i && above_moved m l ks i

if_some : (m : Moving) (b : Bool) (ks : List ℕ) → (if b then Some (map m.eigen ks) else None) ≡ option_map (map m.eigen) (if b then Some ks else None)
if_some m true ks = refl
if_some m false ks = refl

only_moved : (m : Moving) (l : ℕ) (o : Option (List ℕ)) → only_if (λ ks. are_distinct ks && are_above (m.level l) ks) (option_map (map m.eigen) o) ≡ option_map (map m.eigen) (only_if (λ ks. are_distinct ks && are_above l ks) o)
only_moved m l None = refl
only_moved m l (Some ks) = (λ i. if distinct_moved m ks i && above_moved m l ks i then Some (map m.eigen ks) else None) ∙ if_some m (are_distinct ks && are_above l ks) ks

pub pattern_moved : (m : Moving) (n l : ℕ) (ts : List Term) → pattern_of n (m.level l) (moved_all m ts) ≡ option_map (option_map (map m.eigen)) (pattern_of n l ts)
pattern_moved m n l ts =
    map_map (option_map (map m.eigen)) (only_if (λ ks. are_distinct ks && are_above (m.level l) ks)) (only_if (λ ks. are_distinct ks && are_above l ks)) (option_map (map m.eigen)) (as_eigens n ts) (as_eigens n (moved_all m ts)) (as_eigens_moved m n ts) (only_moved m l)

-- terms put together

pub moved_pattern : (m : Moving) (ks : List ℕ) (h : Term) → moved m (apply h (eigens ks)) ≡ apply (moved m h) (eigens (map m.eigen ks))
moved_pattern m [] h = refl
moved_pattern m (k ∷ ks) h = moved_pattern m ks (app h (atom (eigen k)))

pub length_moved : (m : Moving) (ts : List Term) → length (moved_all m ts) ≡ length ts
length_moved m [] = refl
length_moved m (t ∷ ts) = ap suc (length_moved m ts)

-- fillings of other atoms
fills_cross : (m : Moving) (f g : Atom → Term) → ((a : Atom) → g (moved_atom m a) ≡ moved m (f a)) → (t : Term) → fill g (moved m t) ≡ moved m (fill f t)
fills_cross m f g h t = fill-fill g (moved_by m) (λ a. g (moved_atom m a)) (λ a. refl) t ∙ sym (fill-fill (moved_by m) f (λ a. g (moved_atom m a)) (λ a. sym (h a)) t)

abbrev pub moved_binding : Moving → Binding → Binding
moved_binding m b = record { id = b.id; level = m.level b.level; value = moved m b.value }

one_moved : (m : Moving) (b : Binding) (a : Atom) → at_variables (one (moved_binding m b)) (moved_atom m a) ≡ moved m (at_variables (one b) a)
one_moved m b (logic x l) = (λ i. if nat_eq x b.id && m.same_levels l b.level i then moved m b.value else atom (logic x (m.level l))) ∙ if_moved m (nat_eq x b.id && nat_eq l b.level) b.value (atom (logic x l))
one_moved m b (constant c us) = refl
one_moved m b (integer z) = refl
one_moved m b (text s) = refl
one_moved m b (eigen k) = refl
one_moved m b (param k u) = refl

pub put_moved : (m : Moving) (b : Binding) (t : Term) → put (moved_binding m b) (moved m t) ≡ moved m (put b t)
put_moved m b t = fills_cross m (at_variables (one b)) (at_variables (one (moved_binding m b))) (one_moved m b) t

indexed_moved : (m : Moving) (c : ℕ) (a : Atom) → indexed (m.eigen c) (moved_atom m a) ≡ moved m (indexed c a)
indexed_moved m c (eigen k) = (λ i. if m.same_eigens k c i then index 0 else atom (eigen (m.eigen k))) ∙ if_moved m (nat_eq k c) (index 0) (atom (eigen k))
indexed_moved m c (logic x l) = refl
indexed_moved m c (constant d us) = refl
indexed_moved m c (integer z) = refl
indexed_moved m c (text s) = refl
indexed_moved m c (param k u) = refl

pub abstraction_moved : (m : Moving) (c : ℕ) (t : Term) → abstraction (m.eigen c) (moved m t) ≡ moved m (abstraction c t)
abstraction_moved m c t = ap abs (fills_cross m (indexed c) (indexed (m.eigen c)) (indexed_moved m c) t)

pub abstracted_moved : (m : Moving) (cs : List ℕ) (t : Term) → abstracted (map m.eigen cs) (moved m t) ≡ moved m (abstracted cs t)
abstracted_moved m [] t = refl
abstracted_moved m (c ∷ cs) t = ap (abstraction (m.eigen c)) (abstracted_moved m cs t) ∙ abstraction_moved m c (abstracted cs t)

-- types for type variables
instance_atom_moved : (m : Moving) (θ : ℕ → Ty) (a : Atom) → atom (instance_atom θ (moved_atom m a)) ≡ atom (moved_atom m (instance_atom θ a))
instance_atom_moved m θ (constant c ts) = refl
instance_atom_moved m θ (integer z) = refl
instance_atom_moved m θ (text s) = refl
instance_atom_moved m θ (eigen k) = refl
instance_atom_moved m θ (logic x l) = refl
instance_atom_moved m θ (param k T) = refl

pub instance_moved : (m : Moving) (θ : ℕ → Ty) (t : Term) → instance_term θ (moved m t) ≡ moved m (instance_term θ t)
instance_moved m θ (index i) = refl
instance_moved m θ (atom a) = instance_atom_moved m θ a
instance_moved m θ (abs b) = ap abs (instance_moved m θ b)
instance_moved m θ (app t u) = app_same (instance_moved m θ t) (instance_moved m θ u)
