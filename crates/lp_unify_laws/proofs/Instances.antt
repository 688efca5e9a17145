-- Types put for type variables go through every step of the rules but the comparing of types: looks, scans, pruning, settling, bindings.
use Rattle.std.proofs.Common.{◌≡◌, ℕ, zero, suc, min, List, [], ◌∷◌, ◌++◌, map, length, ◌∙◌, refl, sym, ap, Bool, true, false, nat_eq, not, if◌then◌else◌, ◌||◌, Option, Some, None}
use Rattle.std.specs.Prelude.{◌&&◌, nat_lt, nat_le, option_map, option_and_then}
use Rattle.lp_calculus.specs.Types.{Ty}
use Rattle.lp_calculus.specs.Term.{Term, index, atom, abs, app, apply, Atom, substitute, constant, integer, text, eigen, logic, param}
use Rattle.lp_calculus.specs.Convert.{head_step, leftmost_step, option_term}
use Rattle.lp_calculus.specs.Fill.{fill, at_variables, one, Binding, put, indexed, abstraction, abstracted}
use Rattle.lp_calculus.specs.Instance.{instance_term}
use Rattle.lp_calculus.specs.Normal.{eta_normal}
use Rattle.lp_calculus.proofs.Fills.{fill-fill}
use Rattle.lp_calculus.proofs.Commutations.{instance_fill}
use Rattle.lp_unify_laws.proofs.TypeInstances.{typed_by, instance_substitute, instance_head_step, instance_leftmost, eta_instance}
pub use Rattle.lp_unify_laws.specs.Solutions.{instance_binding}
use Rattle.lp_model.specs.Patterns.{eigens, chosen}
use Rattle.lp_model.specs.Eigens.{beta_normal, eigen_of, as_eigen}
use Rattle.lp_model.specs.Look.{Look, an_abs, rigid, flexible, looked, head_normal, look, as_eigens, only_if, pattern_of, are_distinct, are_above}
use Rattle.lp_model.specs.Scan.{Side, is_side, allows, allows_head, Scanned, broken, whole, above, beside, scanned_pattern, scan, scan_all, Pattern, pattern, pattern_term, first_misfit, renewed, renewal, Pruned, led_by, prune, settle, settle_all}

-- what goes through options
pub map_map : {A B C D : Type 0} (f : A → B) (g : B → D) (h : A → C) (k : C → D) (o : Option A) (o' : Option B) → o' ≡ option_map f o → ((a : A) → g (f a) ≡ k (h a)) → option_map g o' ≡ option_map k (option_map h o)
map_map f g h k None o' e q = ap (option_map g) e
map_map f g h k (Some a) o' e q = ap (option_map g) e ∙ ap (λ z. Some z) (q a)

pub map_same_as : {A B C : Type 0} (f : A → B) (g : B → C) (h : A → C) (o : Option A) (o' : Option B) → o' ≡ option_map f o → ((a : A) → g (f a) ≡ h a) → option_map g o' ≡ option_map h o
map_same_as f g h None o' e q = ap (option_map g) e
map_same_as f g h (Some a) o' e q = ap (option_map g) e ∙ ap (λ z. Some z) (q a)

pub bind_map : {A B C D : Type 0} (f : A → B) (g : B → Option D) (h : A → Option C) (k : C → D) (o : Option A) (o' : Option B) → o' ≡ option_map f o → ((a : A) → g (f a) ≡ option_map k (h a)) → option_and_then g o' ≡ option_map k (option_and_then h o)
bind_map f g h k None o' e q = ap (option_and_then g) e
bind_map f g h k (Some a) o' e q = ap (option_and_then g) e ∙ q a

pub bind_same_as : {A B C : Type 0} (f : A → B) (g : B → Option C) (h : A → Option C) (o : Option A) (o' : Option B) → o' ≡ option_map f o → ((a : A) → g (f a) ≡ h a) → option_and_then g o' ≡ option_and_then h o
bind_same_as f g h None o' e q = ap (option_and_then g) e
bind_same_as f g h (Some a) o' e q = ap (option_and_then g) e ∙ q a

pub bind_equal : {A C D : Type 0} (g : A → Option D) (h : A → Option C) (k : C → D) (o o' : Option A) → o' ≡ o → ((a : A) → g a ≡ option_map k (h a)) → option_and_then g o' ≡ option_map k (option_and_then h o)
bind_equal g h k None o' e q = ap (option_and_then g) e
bind_equal g h k (Some a) o' e q = ap (option_and_then g) e ∙ q a

pub bind_twice : {A C : Type 0} (g h : A → Option C) (o o' : Option A) → o' ≡ o → ((a : A) → g a ≡ h a) → option_and_then g o' ≡ option_and_then h o
bind_twice g h None o' e q = ap (option_and_then g) e
bind_twice g h (Some a) o' e q = ap (option_and_then g) e ∙ q a

abbrev pub instance_all : (ℕ → Ty) → List Term → List Term
instance_all θ ts = map (instance_term θ) ts

pub instance_apply : (θ : ℕ → Ty) (ts : List Term) (h : Term) → instance_term θ (apply h ts) ≡ apply (instance_term θ h) (instance_all θ ts)
instance_apply θ [] h = refl
instance_apply θ (t ∷ ts) h = instance_apply θ ts (app h t)

pub instance_pattern : (θ : ℕ → Ty) (ks : List ℕ) (h : Term) → instance_term θ (apply h (eigens ks)) ≡ apply (instance_term θ h) (eigens ks)
instance_pattern θ [] h = refl
instance_pattern θ (k ∷ ks) h = instance_pattern θ ks (app h (atom (eigen k)))

pub length_instance : (θ : ℕ → Ty) (ts : List Term) → length (instance_all θ ts) ≡ length ts
length_instance θ [] = refl
length_instance θ (t ∷ ts) = ap suc (length_instance θ ts)

next_same : (f : Term → Option Term) (θ : ℕ → Ty) (t : Term) (g : Term → Option Term) → ((s : Term) → g (instance_term θ s) ≡ option_map (instance_term θ) (f s)) → (o o' : Option Term) → o' ≡ option_term (instance_term θ) o →
    (elim o' [ None ↦ Some (instance_term θ t) | Some s ↦ g s ]) ≡ option_map (instance_term θ) (elim o [ None ↦ Some t | Some s ↦ f s ])
next_same f θ t g h None o' e = ap (λ (z : Option Term). elim z as (λ y. Option Term) [ None ↦ Some (instance_term θ t) | Some s ↦ g s ]) e
next_same f θ t g h (Some s) o' e = ap (λ (z : Option Term). elim z as (λ y. Option Term) [ None ↦ Some (instance_term θ t) | Some r ↦ g r ]) e ∙ h s

pub instance_head_normal : (θ : ℕ → Ty) (n : ℕ) (t : Term) → head_normal n (instance_term θ t) ≡ option_map (instance_term θ) (head_normal n t)
instance_head_normal θ zero t = refl
instance_head_normal θ (suc n) t = next_same (head_normal n) θ t (head_normal n) (instance_head_normal θ n) (head_step t) (head_step (instance_term θ t)) (instance_head_step θ t)

instance_beta_normal : (θ : ℕ → Ty) (n : ℕ) (t : Term) → beta_normal n (instance_term θ t) ≡ option_map (instance_term θ) (beta_normal n t)
instance_beta_normal θ zero t = refl
instance_beta_normal θ (suc n) t = next_same (beta_normal n) θ t (beta_normal n) (instance_beta_normal θ n) (leftmost_step t) (leftmost_step (instance_term θ t)) (instance_leftmost θ t)

-- looks
abbrev pub instance_look : (ℕ → Ty) → Look → Look
instance_look θ (an_abs b) = an_abs (instance_term θ b)
instance_look θ (rigid h ts) = rigid (instance_term θ h) (instance_all θ ts)
instance_look θ (flexible x l ts) = flexible x l (instance_all θ ts)

looked_instance : (θ : ℕ → Ty) (t : Term) (ts : List Term) → looked (instance_term θ t) (instance_all θ ts) ≡ instance_look θ (looked t ts)
looked_instance θ (index i) ts = refl
looked_instance θ (atom (logic x l)) ts = refl
looked_instance θ (atom (constant c us)) ts = refl
looked_instance θ (atom (integer z)) ts = refl
looked_instance θ (atom (text s)) ts = refl
looked_instance θ (atom (eigen k)) ts = refl
looked_instance θ (atom (param k u)) ts = refl
looked_instance θ (abs b) [] = refl
looked_instance θ (abs b) (t ∷ ts) = refl
looked_instance θ (app f u) ts = looked_instance θ f (u ∷ ts)

pub look_instance : (θ : ℕ → Ty) (n : ℕ) (t : Term) → look n (instance_term θ t) ≡ option_map (instance_look θ) (look n t)
look_instance θ n t = map_map (instance_term θ) (λ s. looked s []) (λ s. looked s []) (instance_look θ) (head_normal n t) (head_normal n (instance_term θ t)) (instance_head_normal θ n t) (λ s. looked_instance θ s [])

eigen_instance : (θ : ℕ → Ty) (t : Term) → eigen_of (instance_term θ t) ≡ eigen_of t
eigen_instance θ (index i) = refl
eigen_instance θ (atom (logic x l)) = refl
eigen_instance θ (atom (constant c us)) = refl
eigen_instance θ (atom (integer z)) = refl
eigen_instance θ (atom (text s)) = refl
eigen_instance θ (atom (eigen k)) = refl
eigen_instance θ (atom (param k u)) = refl
eigen_instance θ (abs b) = refl
eigen_instance θ (app f u) = refl

as_eigen_instance : (θ : ℕ → Ty) (n : ℕ) (t : Term) → as_eigen n (instance_term θ t) ≡ as_eigen n t
as_eigen_instance θ n t = map_same_as (instance_term θ) (λ s. eigen_of (eta_normal s)) (λ s. eigen_of (eta_normal s)) (beta_normal n t) (beta_normal n (instance_term θ t)) (instance_beta_normal θ n t)
    (λ s. ap eigen_of (eta_instance θ s) ∙ eigen_instance θ (eta_normal s))

abbrev with_eigen : ℕ → List Term → Option ℕ → Option (Option (List ℕ))
with_eigen n ts o = elim o [
  | None ↦ Some None
  | Some k ↦ option_map (option_map (λ ks. k ∷ ks)) (as_eigens n ts)
]

with_eigen_same : (n : ℕ) (ts us : List Term) → as_eigens n us ≡ as_eigens n ts → (o : Option ℕ) → with_eigen n us o ≡ with_eigen n ts o
with_eigen_same n ts us e None = refl
with_eigen_same n ts us e (Some k) = ap (option_map (option_map (λ ks. k ∷ ks))) e

as_eigens_instance : (θ : ℕ → Ty) (n : ℕ) (ts : List Term) → as_eigens n (instance_all θ ts) ≡ as_eigens n ts
as_eigens_instance θ n [] = refl
as_eigens_instance θ n (t ∷ ts) = bind_twice (with_eigen n (instance_all θ ts)) (with_eigen n ts) (as_eigen n t) (as_eigen n (instance_term θ t)) (as_eigen_instance θ n t) (with_eigen_same n ts (instance_all θ ts) (as_eigens_instance θ n ts))

pub pattern_instance : (θ : ℕ → Ty) (n l : ℕ) (ts : List Term) → pattern_of n l (instance_all θ ts) ≡ pattern_of n l ts
pattern_instance θ n l ts = ap (option_map (only_if (λ ks. are_distinct ks && are_above l ks))) (as_eigens_instance θ n ts)

-- scans
pub head_instance : (θ : ℕ → Ty) (s : Side) (h : Term) → allows_head s (instance_term θ h) ≡ allows_head s h
head_instance θ s (index i) = refl
head_instance θ s (atom (logic x l)) = refl
head_instance θ s (atom (constant c us)) = refl
head_instance θ s (atom (integer z)) = refl
head_instance θ s (atom (text r)) = refl
head_instance θ s (atom (eigen k)) = refl
head_instance θ s (atom (param k u)) = refl
head_instance θ s (abs b) = refl
head_instance θ s (app f u) = refl

abbrev Scans : (ℕ → Ty) → ℕ → Type 0
Scans θ n = (s : Side) (inside : Bool) (k : ℕ) (t : Term) → scan n s inside k (instance_term θ t) ≡ scan n s inside k t

abbrev ScansAll : (ℕ → Ty) → ℕ → Type 0
ScansAll θ n = (s : Side) (inside : Bool) (k : ℕ) (ts : List Term) → scan_all n s inside k (instance_all θ ts) ≡ scan_all n s inside k ts

abbrev at_test : ℕ → Side → Bool → ℕ → Bool → List Term → Bool → Option Scanned
at_test n s inside k a ts b = elim b [ true ↦ option_map (above (not a)) (scan_all n s inside k ts) | false ↦ Some (broken 1) ]

abbrev at_rigid : ℕ → Side → Bool → ℕ → Bool → List Term → Option Scanned
at_rigid n s inside k a ts = at_test n s inside k a ts (a || inside)

abbrev at_flexible : ℕ → Side → Bool → ℕ → (y m : ℕ) → List Term → Option (List ℕ) → Option Scanned
at_flexible n s inside k y m ts o = elim o [
  | Some b ↦ Some (scanned_pattern s inside y m b)
  | None ↦ option_map (above (is_side s y m || nat_lt s.level m)) (scan_all n s true k ts)
]

abbrev at_look : ℕ → Side → Bool → ℕ → Look → Option Scanned
at_look n s inside k (an_abs b) = scan n s inside (suc k) (substitute (atom (eigen (suc k))) b)
at_look n s inside k (rigid h ts) = at_rigid n s inside k (allows_head s h) ts
at_look n s inside k (flexible y m ts) = option_and_then (at_flexible n s inside k y m ts) (pattern_of n m ts)

flexible_same : (θ : ℕ → Ty) (n : ℕ) → ScansAll θ n → (s : Side) (inside : Bool) (k y m : ℕ) (ts : List Term) (o : Option (List ℕ)) → at_flexible n s inside k y m (instance_all θ ts) o ≡ at_flexible n s inside k y m ts o
flexible_same θ n all s inside k y m ts None = ap (option_map (above (is_side s y m || nat_lt s.level m))) (all s true k ts)
flexible_same θ n all s inside k y m ts (Some b) = refl

test_same : (θ : ℕ → Ty) (n : ℕ) → ScansAll θ n → (s : Side) (inside : Bool) (k : ℕ) (a : Bool) (ts : List Term) (b : Bool) → at_test n s inside k a (instance_all θ ts) b ≡ at_test n s inside k a ts b
test_same θ n all s inside k a ts true = ap (option_map (above (not a))) (all s inside k ts)
test_same θ n all s inside k a ts false = refl

look_same : (θ : ℕ → Ty) (n : ℕ) → Scans θ n → ScansAll θ n → (s : Side) (inside : Bool) (k : ℕ) (v : Look) → at_look n s inside k (instance_look θ v) ≡ at_look n s inside k v
look_same θ n here all s inside k (an_abs b) = ap (scan n s inside (suc k)) (sym (instance_substitute θ (atom (eigen (suc k))) b)) ∙ here s inside (suc k) (substitute (atom (eigen (suc k))) b)
look_same θ n here all s inside k (rigid h ts) = ap (λ a. at_rigid n s inside k a (instance_all θ ts)) (head_instance θ s h) ∙ test_same θ n all s inside k (allows_head s h) ts (allows_head s h || inside)
look_same θ n here all s inside k (flexible y m ts) = bind_twice (at_flexible n s inside k y m (instance_all θ ts)) (at_flexible n s inside k y m ts) (pattern_of n m ts) (pattern_of n m (instance_all θ ts)) (pattern_instance θ n m ts) (flexible_same θ n all s inside k y m ts)

abbrev behind : ℕ → Side → Bool → ℕ → List Term → Scanned → Option Scanned
behind n s inside k ts r = elim r [
  | broken u ↦ Some (broken u)
  | whole u d ps ↦ option_map (beside u d ps) (scan_all n s inside k ts)
]

behind_same : (θ : ℕ → Ty) (n : ℕ) → ScansAll θ n → (s : Side) (inside : Bool) (k : ℕ) (ts : List Term) (r : Scanned) → behind n s inside k (instance_all θ ts) r ≡ behind n s inside k ts r
behind_same θ n all s inside k ts (broken u) = refl
behind_same θ n all s inside k ts (whole u d ps) = ap (option_map (beside u d ps)) (all s inside k ts)

mutual
  pub scan_instance : (θ : ℕ → Ty) (n : ℕ) → Scans θ n
  scan_instance θ zero s inside k t = refl
  scan_instance θ (suc n) s inside k t = bind_same_as (instance_look θ) (at_look n s inside k) (at_look n s inside k) (look n t) (look n (instance_term θ t)) (look_instance θ n t) (look_same θ n (scan_instance θ n) (scan_all_instance θ n) s inside k)

  pub scan_all_instance : (θ : ℕ → Ty) (n : ℕ) → ScansAll θ n
  scan_all_instance θ zero s inside k ts = refl
  scan_all_instance θ (suc n) s inside k [] = refl
  scan_all_instance θ (suc n) s inside k (t ∷ ts) = bind_twice (behind n s inside k (instance_all θ ts)) (behind n s inside k ts) (scan n s inside k t) (scan n s inside k (instance_term θ t)) (scan_instance θ n s inside k t) (behind_same θ n (scan_all_instance θ n) s inside k ts)

-- fillings of other atoms
fills_cross : (θ : ℕ → Ty) (f g : Atom → Term) → ((a : Atom) → fill g (typed_by θ a) ≡ fill (typed_by θ) (f a)) → (t : Term) → fill g (instance_term θ t) ≡ instance_term θ (fill f t)
fills_cross θ f g h t =
    ap (fill g) (instance_fill θ t) ∙ fill-fill g (typed_by θ) (λ a. fill g (typed_by θ a)) (λ a. refl) t ∙
    sym (fill-fill (typed_by θ) f (λ a. fill g (typed_by θ a)) (λ a. sym (h a)) t) ∙ sym (instance_fill θ (fill f t))

if_filled : (θ : ℕ → Ty) (b : Bool) (t u : Term) → (if b then instance_term θ t else fill (typed_by θ) u) ≡ fill (typed_by θ) (if b then t else u)
if_filled θ true t u = instance_fill θ t
if_filled θ false t u = refl

one_instance : (θ : ℕ → Ty) (b : Binding) (a : Atom) → fill (at_variables (one (instance_binding θ b))) (typed_by θ a) ≡ fill (typed_by θ) (at_variables (one b) a)
one_instance θ b (logic x l) = if_filled θ (nat_eq x b.id && nat_eq l b.level) b.value (atom (logic x l))
one_instance θ b (constant c us) = refl
one_instance θ b (integer z) = refl
one_instance θ b (text s) = refl
one_instance θ b (eigen k) = refl
one_instance θ b (param k u) = refl

pub put_instance : (θ : ℕ → Ty) (b : Binding) (t : Term) → put (instance_binding θ b) (instance_term θ t) ≡ instance_term θ (put b t)
put_instance θ b t = fills_cross θ (at_variables (one b)) (at_variables (one (instance_binding θ b))) (one_instance θ b) t

if_index : (θ : ℕ → Ty) (b : Bool) (t u : Term) → fill (typed_by θ) (if b then t else u) ≡ (if b then fill (typed_by θ) t else fill (typed_by θ) u)
if_index θ true t u = refl
if_index θ false t u = refl

indexed_instance : (θ : ℕ → Ty) (c : ℕ) (a : Atom) → fill (indexed c) (typed_by θ a) ≡ fill (typed_by θ) (indexed c a)
indexed_instance θ c (eigen k) = sym (if_index θ (nat_eq k c) (index 0) (atom (eigen k)))
indexed_instance θ c (logic x l) = refl
indexed_instance θ c (constant d us) = refl
indexed_instance θ c (integer z) = refl
indexed_instance θ c (text s) = refl
indexed_instance θ c (param k u) = refl

pub abstraction_instance : (θ : ℕ → Ty) (c : ℕ) (t : Term) → abstraction c (instance_term θ t) ≡ instance_term θ (abstraction c t)
abstraction_instance θ c t = ap abs (fills_cross θ (indexed c) (indexed c) (indexed_instance θ c) t)

pub abstracted_instance : (θ : ℕ → Ty) (cs : List ℕ) (t : Term) → abstracted cs (instance_term θ t) ≡ instance_term θ (abstracted cs t)
abstracted_instance θ [] t = refl
abstracted_instance θ (c ∷ cs) t = ap (abstraction c) (abstracted_instance θ cs t) ∙ abstraction_instance θ c (abstracted cs t)

pub renewed_instance : (θ : ℕ → Ty) (next y m l : ℕ) (b cs : List ℕ) → instance_binding θ (renewed next y m l b cs) ≡ renewed next y m l b cs
renewed_instance θ next y m l b cs = ap (λ z. record { id = y; level = m; value = z }) (sym (abstracted_instance θ b (pattern_term (pattern next l cs))) ∙ ap (abstracted b) (instance_pattern θ cs (atom (logic next l))))

-- pruning
abbrev pub instance_pruned : (ℕ → Ty) → Pruned → Pruned
instance_pruned θ r = record { bindings = map (instance_binding θ) r.bindings; next = r.next; term = instance_term θ r.term }

abbrev by_misfit : ℕ → Side → (next : ℕ) → Term → Option Pattern → Option Pruned
by_misfit n s next t o = elim o [
  | None ↦ Some (record { bindings = []; next = next; term = t })
  | Some p ↦ option_map (led_by (renewal s next p)) (prune n s (suc next) (put (renewal s next p) t))
]

abbrev by_scan : ℕ → Side → (next : ℕ) → Term → Scanned → Option Pruned
by_scan n s next t r = elim r [
  | broken u ↦ None
  | whole u true ps ↦ None
  | whole u false ps ↦ by_misfit n s next t (first_misfit s ps)
]

abbrev Prunes : (ℕ → Ty) → ℕ → Type 0
Prunes θ n = (s : Side) (next : ℕ) (t : Term) → prune n s next (instance_term θ t) ≡ option_map (instance_pruned θ) (prune n s next t)

misfit_same : (θ : ℕ → Ty) (n : ℕ) → Prunes θ n → (s : Side) (next : ℕ) (t : Term) (o : Option Pattern) → by_misfit n s next (instance_term θ t) o ≡ option_map (instance_pruned θ) (by_misfit n s next t o)
misfit_same θ n h s next t None = refl
misfit_same θ n h s next t (Some p) =
    let b = renewal s next p in
    let e = renewed_instance θ next p.id p.level (min s.level p.level) p.arguments (chosen (λ k. nat_le k p.level) s.arguments ++ chosen (allows s) p.arguments) in
    map_map (instance_pruned θ) (led_by b) (led_by b) (instance_pruned θ) (prune n s (suc next) (put b t)) (prune n s (suc next) (put b (instance_term θ t)))
    (ap (prune n s (suc next)) (ap (λ z. put z (instance_term θ t)) (sym e) ∙ put_instance θ b t) ∙ h s (suc next) (put b t))
    (λ r. ap (λ z. led_by z (instance_pruned θ r)) (sym e))

scan_same : (θ : ℕ → Ty) (n : ℕ) → Prunes θ n → (s : Side) (next : ℕ) (t : Term) (r : Scanned) → by_scan n s next (instance_term θ t) r ≡ option_map (instance_pruned θ) (by_scan n s next t r)
scan_same θ n h s next t (broken u) = refl
scan_same θ n h s next t (whole u true ps) = refl
scan_same θ n h s next t (whole u false ps) = misfit_same θ n h s next t (first_misfit s ps)

pub prune_instance : (θ : ℕ → Ty) (n : ℕ) → Prunes θ n
prune_instance θ zero s next t = refl
prune_instance θ (suc n) s next t = bind_equal (by_scan n s next (instance_term θ t)) (by_scan n s next t) (instance_pruned θ) (scan n s false s.pair t) (scan n s false s.pair (instance_term θ t)) (scan_instance θ n s false s.pair t) (scan_same θ n (prune_instance θ n) s next t)

-- settling
abbrev Settles : (ℕ → Ty) → ℕ → Type 0
Settles θ n = (k : ℕ) (t : Term) → settle n k (instance_term θ t) ≡ option_map (instance_term θ) (settle n k t)

abbrev SettlesAll : (ℕ → Ty) → ℕ → Type 0
SettlesAll θ n = (k : ℕ) (h : Term) (ts : List Term) → settle_all n k (instance_term θ h) (instance_all θ ts) ≡ option_map (instance_term θ) (settle_all n k h ts)

abbrev settle_flexible : ℕ → ℕ → (y m : ℕ) → List Term → Option (List ℕ) → Option Term
settle_flexible n k y m ts o = elim o [
  | Some b ↦ Some (apply (atom (logic y m)) (eigens b))
  | None ↦ settle_all n k (atom (logic y m)) ts
]

abbrev settle_look : ℕ → ℕ → Look → Option Term
settle_look n k v = elim v [
  | an_abs b ↦ option_map (abstraction (suc k)) (settle n (suc k) (substitute (atom (eigen (suc k))) b))
  | rigid h ts ↦ settle_all n k h ts
  | flexible y m ts ↦ option_and_then (settle_flexible n k y m ts) (pattern_of n m ts)
]

settle_flexible_same : (θ : ℕ → Ty) (n : ℕ) → SettlesAll θ n → (k y m : ℕ) (ts : List Term) (o : Option (List ℕ)) → settle_flexible n k y m (instance_all θ ts) o ≡ option_map (instance_term θ) (settle_flexible n k y m ts o)
settle_flexible_same θ n all k y m ts None = all k (atom (logic y m)) ts
settle_flexible_same θ n all k y m ts (Some b) = ap (λ z. Some z) (sym (instance_pattern θ b (atom (logic y m))))

settle_look_same : (θ : ℕ → Ty) (n : ℕ) → Settles θ n → SettlesAll θ n → (k : ℕ) (v : Look) → settle_look n k (instance_look θ v) ≡ option_map (instance_term θ) (settle_look n k v)
settle_look_same θ n here all k (an_abs b) = map_map (instance_term θ) (abstraction (suc k)) (abstraction (suc k)) (instance_term θ) (settle n (suc k) (substitute (atom (eigen (suc k))) b)) (settle n (suc k) (substitute (atom (eigen (suc k))) (instance_term θ b)))
    (ap (settle n (suc k)) (sym (instance_substitute θ (atom (eigen (suc k))) b)) ∙ here (suc k) (substitute (atom (eigen (suc k))) b)) (abstraction_instance θ (suc k))
settle_look_same θ n here all k (rigid h ts) = all k h ts
settle_look_same θ n here all k (flexible y m ts) = bind_equal (settle_flexible n k y m (instance_all θ ts)) (settle_flexible n k y m ts) (instance_term θ) (pattern_of n m ts) (pattern_of n m (instance_all θ ts)) (pattern_instance θ n m ts) (settle_flexible_same θ n all k y m ts)

mutual
  pub settle_instance : (θ : ℕ → Ty) (n : ℕ) → Settles θ n
  settle_instance θ zero k t = refl
  settle_instance θ (suc n) k t = bind_map (instance_look θ) (settle_look n k) (settle_look n k) (instance_term θ) (look n t) (look n (instance_term θ t)) (look_instance θ n t) (settle_look_same θ n (settle_instance θ n) (settle_all_instance θ n) k)

  pub settle_all_instance : (θ : ℕ → Ty) (n : ℕ) → SettlesAll θ n
  settle_all_instance θ zero k h ts = refl
  settle_all_instance θ (suc n) k h [] = refl
  settle_all_instance θ (suc n) k h (t ∷ ts) = bind_map (instance_term θ) (λ u. settle_all n k (app (instance_term θ h) u) (instance_all θ ts))
      (λ u. settle_all n k (app h u) ts) (instance_term θ) (settle n k t) (settle n k (instance_term θ t)) (settle_instance θ n k t)
      (λ u. settle_all_instance θ n k (app h u) ts)
