-- Types put for type variables change no connective: the form of a formula, its head and arguments, and the flattened goals that are raised.
use Rattle.std.proofs.Common.{◌≡◌, ℕ, zero, suc, ◌+◌, List, [], ◌∷◌, map, Bool, true, false, refl, ap, ◌∙◌, sym}
use Rattle.std.specs.Prelude.{nat_eq, nat_lt, ◌&&◌, if◌then◌else◌}
use Rattle.lp_calculus.specs.Types.{Ty, instance}
use Rattle.lp_calculus.specs.Term.{Term, index, atom, abs, app, constant, integer, text, eigen, logic, param, shift, raised}
use Rattle.lp_calculus.specs.Instance.{instance_term}
use Rattle.lp_calculus.specs.Spine.{head_of, arguments, arguments_and}
use Rattle.lp_standard.specs.Connectives.{body_of, Connective, connective_of_constant, connective_at, connective_of}
use Rattle.lp_standard.specs.Connectives as connective
use Rattle.lp_standard.specs.Positive.{is_positive, are_positive}
use Rattle.lp_model.specs.Flat.{Goal, Atomic, Cut, Either, Exists, Forall, Assume, Not, Written, map_written, Goals, no_goals, goals, Clause, clause, Clauses, no_clauses, clauses, under_all, map_goal, map_goals, map_clause, map_clauses, same_type, raise_goals, type_goal, type_goals, type_clause}
use Rattle.lp_model.specs.Flatten.{is_goal_head}

app_same : {t s u v : Term} → t ≡ s → u ≡ v → app t u ≡ app s v
app_same p q = cc

-- below a shift
raised_typed : (θ : ℕ → Ty) (by d i : ℕ) → instance_term θ (raised by d i) ≡ raised by d i
raised_typed θ by d i = go (nat_lt i d)
  where
    go : (t : Bool) → instance_term θ (if t then index i else index (i + by)) ≡ (if t then index i else index (i + by))
    go true = refl
    go false = refl

pub shift_typed : (θ : ℕ → Ty) (d by : ℕ) (t : Term) → instance_term θ (shift d by t) ≡ shift d by (instance_term θ t)
shift_typed θ d by (index i) = raised_typed θ by d i
shift_typed θ d by (atom a) = refl
shift_typed θ d by (abs b) = ap abs (shift_typed θ (suc d) by b)
shift_typed θ d by (app t u) = app_same (shift_typed θ d by t) (shift_typed θ d by u)

pub shifts_typed : (θ : ℕ → Ty) (ts : List Term) → map (instance_term θ) (map (shift 0 1) ts) ≡ map (shift 0 1) (map (instance_term θ) ts)
shifts_typed θ [] = refl
shifts_typed θ (t ∷ ts) =
    let e = shift_typed θ 0 1 t in
    let f = shifts_typed θ ts in
    cc

-- the form
abbrev pub type_form : (ℕ → Ty) → Connective → Connective
type_form θ connective.True = connective.True
type_form θ connective.Cut = connective.Cut
type_form θ (connective.And a b) = connective.And (instance_term θ a) (instance_term θ b)
type_form θ (connective.Or a b) = connective.Or (instance_term θ a) (instance_term θ b)
type_form θ (connective.Implies a b) = connective.Implies (instance_term θ a) (instance_term θ b)
type_form θ (connective.ForAll T b) = connective.ForAll (instance θ T) (instance_term θ b)
type_form θ (connective.Exists T b) = connective.Exists (instance θ T) (instance_term θ b)
type_form θ (connective.Not g) = connective.Not (instance_term θ g)
type_form θ connective.Atomic = connective.Atomic

body_typed : (θ : ℕ → Ty) (t : Term) → body_of (instance_term θ t) ≡ instance_term θ (body_of t)
body_typed θ (index i) = ap (λ z. app z (index 0)) (sym (shift_typed θ 0 1 (index i)))
body_typed θ (atom a) = refl
body_typed θ (abs b) = refl
body_typed θ (app t u) = ap (λ z. app z (index 0)) (sym (shift_typed θ 0 1 (app t u)))

none_typed : (θ : ℕ → Ty) (p q : Bool) → (if p then connective.True else (if q then connective.Cut else connective.Atomic)) ≡ type_form θ (if p then connective.True else (if q then connective.Cut else connective.Atomic))
none_typed θ true q = refl
none_typed θ false true = refl
none_typed θ false false = refl

one_typed : (θ : ℕ → Ty) (p q : Bool) (T : Ty) (a : Term) → (if p then connective.ForAll (instance θ T) (body_of (instance_term θ a)) else
    (if q then connective.Exists (instance θ T) (body_of (instance_term θ a)) else connective.Atomic)) ≡ type_form θ
    (if p then connective.ForAll T (body_of a) else (if q then connective.Exists T (body_of a) else connective.Atomic))
one_typed θ true q T a = ap (connective.ForAll (instance θ T)) (body_typed θ a)
one_typed θ false true T a = ap (connective.Exists (instance θ T)) (body_typed θ a)
one_typed θ false false T a = refl

two_typed : (θ : ℕ → Ty) (p q r s : Bool) (a b : Term) → (if p then connective.And (instance_term θ a) (instance_term θ b) else
    (if q then connective.Or (instance_term θ a) (instance_term θ b) else (if r then connective.Implies (instance_term θ a) (instance_term θ b) else
    (if s then connective.Implies (instance_term θ b) (instance_term θ a) else connective.Atomic)))) ≡ type_form θ
    (if p then connective.And a b else (if q then connective.Or a b else (if r then connective.Implies a b else
    (if s then connective.Implies b a else connective.Atomic))))
two_typed θ true q r s a b = refl
two_typed θ false true r s a b = refl
two_typed θ false false true s a b = refl
two_typed θ false false false true a b = refl
two_typed θ false false false false a b = refl

not_typed : (θ : ℕ → Ty) (p : Bool) (a : Term) → (if p then connective.Not (instance_term θ a) else connective.Atomic) ≡ type_form θ (if p then connective.Not a else connective.Atomic)
not_typed θ true a = refl
not_typed θ false a = refl

constant_typed : (θ : ℕ → Ty) (c : ℕ) (ts : List Ty) (us : List Term) → connective_of_constant c (map (instance θ) ts) (map (instance_term θ) us) ≡ type_form θ (connective_of_constant c ts us)
constant_typed θ c ts [] = none_typed θ (nat_eq c 6) (nat_eq c 7)
constant_typed θ c (T ∷ []) (a ∷ []) = one_typed θ (nat_eq c 4) (nat_eq c 5) T a
constant_typed θ c [] (a ∷ b ∷ []) = two_typed θ (nat_eq c 0) (nat_eq c 1) (nat_eq c 2) (nat_eq c 3) a b
constant_typed θ c [] (a ∷ []) = not_typed θ (nat_eq c 24) a
constant_typed θ c (T ∷ U ∷ ts) (a ∷ []) = refl
constant_typed θ c (T ∷ []) (a ∷ b ∷ []) = refl
constant_typed θ c (T ∷ U ∷ ts) (a ∷ b ∷ []) = refl
constant_typed θ c [] (a ∷ b ∷ x ∷ us) = refl
constant_typed θ c (T ∷ []) (a ∷ b ∷ x ∷ us) = refl
constant_typed θ c (T ∷ U ∷ ts) (a ∷ b ∷ x ∷ us) = refl

at_typed : (θ : ℕ → Ty) (h : Term) (us : List Term) → connective_at (instance_term θ h) (map (instance_term θ) us) ≡ type_form θ (connective_at h us)
at_typed θ (atom (constant c ts)) us = constant_typed θ c ts us
at_typed θ (atom (integer z)) us = refl
at_typed θ (atom (text s)) us = refl
at_typed θ (atom (eigen k)) us = refl
at_typed θ (atom (logic x l)) us = refl
at_typed θ (atom (param k t)) us = refl
at_typed θ (index i) us = refl
at_typed θ (abs b) us = refl
at_typed θ (app t u) us = refl

pub head_typed : (θ : ℕ → Ty) (t : Term) → head_of (instance_term θ t) ≡ instance_term θ (head_of t)
head_typed θ (index i) = refl
head_typed θ (atom a) = refl
head_typed θ (abs b) = refl
head_typed θ (app t u) = head_typed θ t

arguments_and_typed : (θ : ℕ → Ty) (t : Term) (more : List Term) → arguments_and (instance_term θ t) (map (instance_term θ) more) ≡ map (instance_term θ) (arguments_and t more)
arguments_and_typed θ (index i) more = refl
arguments_and_typed θ (atom a) more = refl
arguments_and_typed θ (abs b) more = refl
arguments_and_typed θ (app t u) more = arguments_and_typed θ t (u ∷ more)

pub arguments_typed : (θ : ℕ → Ty) (t : Term) → arguments (instance_term θ t) ≡ map (instance_term θ) (arguments t)
arguments_typed θ t = arguments_and_typed θ t []

pub form_typed : (θ : ℕ → Ty) (t : Term) → connective_of (instance_term θ t) ≡ type_form θ (connective_of t)
form_typed θ t =
    ap (λ h. connective_at h (arguments (instance_term θ t))) (head_typed θ t) ∙ ap (connective_at (instance_term θ (head_of t))) (arguments_typed θ t) ∙ at_typed θ (head_of t) (arguments t)

-- positive terms and heads
positive_typed : (θ : ℕ → Ty) (t : Term) → is_positive (instance_term θ t) ≡ is_positive t
positive_typed θ (index i) = refl
positive_typed θ (atom (constant c ts)) = refl
positive_typed θ (atom (integer z)) = refl
positive_typed θ (atom (text s)) = refl
positive_typed θ (atom (eigen k)) = refl
positive_typed θ (atom (logic x l)) = refl
positive_typed θ (atom (param k t)) = refl
positive_typed θ (abs b) = positive_typed θ b
positive_typed θ (app t u) = ap (λ p. p && is_positive (instance_term θ u)) (positive_typed θ t) ∙ ap (λ p. is_positive t && p) (positive_typed θ u)

pub positives_typed : (θ : ℕ → Ty) (ts : List Term) → are_positive (map (instance_term θ) ts) ≡ are_positive ts
positives_typed θ [] = refl
positives_typed θ (t ∷ ts) = ap (λ p. p && are_positive (map (instance_term θ) ts)) (positive_typed θ t) ∙ ap (λ p. is_positive t && p) (positives_typed θ ts)

pub goal_head_typed : (θ : ℕ → Ty) (h : Term) → is_goal_head (instance_term θ h) ≡ is_goal_head h
goal_head_typed θ (index i) = refl
goal_head_typed θ (atom (constant c ts)) = refl
goal_head_typed θ (atom (integer z)) = refl
goal_head_typed θ (atom (text s)) = refl
goal_head_typed θ (atom (eigen k)) = refl
goal_head_typed θ (atom (logic x l)) = refl
goal_head_typed θ (atom (param k t)) = refl
goal_head_typed θ (abs b) = refl
goal_head_typed θ (app t u) = refl

-- flattened goals are raised before types are put into them or after
abbrev pub raise_term : ℕ → Term → Term
raise_term d t = shift d 1 t

abbrev written : List Term → List Ty → Written
written ts Ts = record { terms = ts; types = Ts }

abbrev type_term : (ℕ → Ty) → ℕ → Term → Term
type_term θ u t = instance_term θ t

abbrev stay : ℕ → ℕ
stay u = u

under_typed : (θ : ℕ → Ty) (vs : List Ty) (d : ℕ) → under_all suc (map (instance θ) vs) d ≡ under_all suc vs d
under_typed θ [] d = refl
under_typed θ (v ∷ vs) d = ap suc (under_typed θ vs d)

types_same : (θ : ℕ → Ty) (vs : List Ty) → map same_type (map (instance θ) vs) ≡ map (instance θ) (map same_type vs)
types_same θ [] = refl
types_same θ (v ∷ vs) = ap (λ z. instance θ v ∷ z) (types_same θ vs)

pub under_stay : (vs : List Ty) (d : ℕ) → under_all stay vs d ≡ d
under_stay [] d = refl
under_stay (v ∷ vs) d = under_stay vs d

pub clause_same : (n : ℕ) {vs ws : List Ty} {h k : Term} {b c : Goals} → vs ≡ ws → h ≡ k → b ≡ c → clause n vs h b ≡ clause n ws k c
clause_same n p q r = cc

pub goals_same : {g h : Goal} {gs hs : Goals} → g ≡ h → gs ≡ hs → goals g gs ≡ goals h hs
goals_same p q = cc

pub clauses_same : {c d : Clause} {cs ds : Clauses} → c ≡ d → cs ≡ ds → clauses c cs ≡ clauses d ds
clauses_same p q = cc

pub either_same : {gs hs ks ls : Goals} → gs ≡ hs → ks ≡ ls → Either gs ks ≡ Either hs ls
either_same p q = cc

pub assume_same : {v w : Written} {cs ds : Clauses} {gs hs : Goals} → v ≡ w → cs ≡ ds → gs ≡ hs → Assume v cs gs ≡ Assume w ds hs
assume_same o p q = cc

pub denied_same : {v w : Written} {gs hs : Goals} → v ≡ w → gs ≡ hs → Not v gs ≡ Not w hs
denied_same o p = cc

terms_raised : (θ : ℕ → Ty) (d : ℕ) (ts : List Term) → map (raise_term d) (map (instance_term θ) ts) ≡ map (instance_term θ) (map (raise_term d) ts)
terms_raised θ d [] = refl
terms_raised θ d (t ∷ ts) =
    let e = shift_typed θ d 1 t in
    let f = terms_raised θ d ts in
    cc

pub written_same : {ts us : List Term} {Ts Us : List Ty} → ts ≡ us → Ts ≡ Us → written ts Ts ≡ written us Us
written_same p q = cc

written_raised : (θ : ℕ → Ty) (d : ℕ) (w : Written) → map_written (raise_term d) same_type (map_written (instance_term θ) (instance θ) w) ≡ map_written (instance_term θ) (instance θ) (map_written (raise_term d) same_type w)
written_raised θ d w = written_same (terms_raised θ d w.terms) (types_same θ w.types)

mutual
  raise_goal_typed : (θ : ℕ → Ty) (d : ℕ) (g : Goal) → map_goal suc raise_term same_type d (type_goal θ g) ≡ type_goal θ (map_goal suc raise_term same_type d g)
  raise_goal_typed θ d (Atomic t) = ap Atomic (sym (shift_typed θ d 1 t))
  raise_goal_typed θ d Cut = refl
  raise_goal_typed θ d (Either gs hs) = either_same (raise_goals_typed θ d gs) (raise_goals_typed θ d hs)
  raise_goal_typed θ d (Exists T gs) = ap (Exists (instance θ T)) (raise_goals_typed θ (suc d) gs)
  raise_goal_typed θ d (Forall T gs) = ap (Forall (instance θ T)) (raise_goals_typed θ (suc d) gs)
  raise_goal_typed θ d (Assume w cs gs) = assume_same (written_raised θ d w) (raise_clauses_typed θ d cs) (raise_goals_typed θ d gs)
  raise_goal_typed θ d (Not w gs) = denied_same (written_raised θ d w) (raise_goals_typed θ d gs)

  raise_goals_typed : (θ : ℕ → Ty) (d : ℕ) (gs : Goals) → map_goals suc raise_term same_type d (type_goals θ gs) ≡ type_goals θ (map_goals suc raise_term same_type d gs)
  raise_goals_typed θ d no_goals = refl
  raise_goals_typed θ d (goals g gs) = goals_same (raise_goal_typed θ d g) (raise_goals_typed θ d gs)

  raise_clause_typed : (θ : ℕ → Ty) (d : ℕ) (c : Clause) → map_clause suc raise_term same_type d (type_clause θ c) ≡ type_clause θ (map_clause suc raise_term same_type d c)
  raise_clause_typed θ d (clause n vs h b) =
      rw (under_typed θ vs d) (rw (under_stay vs zero) (rw (under_stay (map same_type vs) zero) (clause_same n (types_same θ vs) (sym (shift_typed θ (under_all suc vs d) 1 h)) (raise_goals_typed θ (under_all suc vs d) b))))

  raise_clauses_typed : (θ : ℕ → Ty) (d : ℕ) (cs : Clauses) → map_clauses suc raise_term same_type d (map_clauses stay (type_term θ) (instance θ) zero cs) ≡ map_clauses stay (type_term θ) (instance θ) zero (map_clauses suc raise_term same_type d cs)
  raise_clauses_typed θ d no_clauses = refl
  raise_clauses_typed θ d (clauses c cs) = clauses_same (raise_clause_typed θ d c) (raise_clauses_typed θ d cs)

pub raise_typed : (θ : ℕ → Ty) (d : ℕ) (gs : Goals) → raise_goals d (type_goals θ gs) ≡ type_goals θ (raise_goals d gs)
raise_typed θ d gs = raise_goals_typed θ d gs
