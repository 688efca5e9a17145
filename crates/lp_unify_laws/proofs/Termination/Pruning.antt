-- Pruning in typed pairs comes: the term stays as a scan has seen it, and each new variable has a level that fits where the older one had none, or fewer
-- arguments.
use Rattle.std.proofs.Common.{◌≡◌, ℕ, zero, suc, ◌+◌, ◌<◌, ◌≤◌, min, List, [], ◌∷◌, ◌++◌, length, ◌∙◌, refl, sym, ap, subst as transport, arith, Bool, true, false, nat_eq, if◌then◌else◌, Option, Some, None, inl, inr}
use Rattle.std.specs.Prelude.{option_map, option_and_then, nat_lt, nat_le, ◌&&◌, ◌⊎◌, slice_get}
use Rattle.std.proofs.lemmas.Bool.Decides.{nat_tests}
use Rattle.lp_calculus.specs.Types.{Ty, var, param as type_param, con, arrow}
use Rattle.lp_calculus.specs.Term.{Term, Atom, index, atom, abs, app, apply, constant, integer, text, eigen, logic, param}
use Rattle.lp_calculus.specs.Convert.{ReducesTo, here, by_beta, done}
use Rattle.lp_calculus.specs.Fill.{Within, at_variables, one, put, abstracted}
use Rattle.lp_calculus.specs.Instance.{instance_term}
use Rattle.lp_calculus.specs.Typing.{HasType}
use Rattle.lp_calculus.proofs.Fills.{within_more, within_fill}
use Rattle.lp_calculus.proofs.Steps.{within_step, within_reduces}
use Rattle.lp_calculus.proofs.Rigid.{reduces_on}
use Rattle.lp_model.specs.Patterns.{eigens, chosen}
use Rattle.lp_model.specs.Look.{flexible, look, pattern_of}
use Rattle.lp_model.specs.Scan.{Side, is_side, allows, allow, Scanned, broken, whole, scan, Pattern, pattern, pattern_term, fits, first_misfit, renewal, Pruned, led_by, prune}
use Rattle.lp_model.specs.Proofs.{Declared}
use Rattle.lp_model.specs.Answers.{Variable, IsScopedAtom}
use Rattle.lp_unify_laws.specs.Levels.{IsPairAtom, UpTo}
use Rattle.lp_unify_laws.specs.Solutions.{instance_pair}
use Rattle.lp_unify_laws.proofs.Sames.{both_on}
use Rattle.lp_unify_laws.proofs.Abstractions.{Avoids, And, Distinct, distinct_tells, within_abstracted}
use Rattle.lp_unify_laws.proofs.Closings.{WithinAll, within_apply, apply_within}
use Rattle.lp_unify_laws.proofs.Looks.{look_reduces, pattern_tells}
use Rattle.lp_unify_laws.proofs.Scans.{Seen, Scans, ScansAll, scans_abs, scans_rigid, scans_pattern, scans_flexible, scans_none, scans_more, scan_tells, reduces_spine}
use Rattle.lp_unify_laws.proofs.Scopes.{IsMore, append_none, in_scope, variable_of, more_get, length_last, get_last, arrows, types_in}
use Rattle.lp_unify_laws.proofs.NewVariables.{new_variable, one_more}
use Rattle.lp_unify_laws.proofs.TypedBindings.{IsTypedTerm, IsAtomOf, term_atoms, term_pair, term_more, term_reduces, put_typed}
use Rattle.lp_unify_laws.proofs.Placed.{IsScopedVariable, scoped_variable, IsPlaced, ArePlaced, scans_placed, IsTypedSide, side_typed, side_more}
use Rattle.lp_unify_laws.proofs.Prunings.{Renews, renews, renewed_context, renewal_typed, renewal_scoped, pair_seen}
use Rattle.lp_unify_laws.proofs.Throughs.{put_within, pair_next_term}
use Rattle.lp_unify_laws.proofs.PairLists.{left_term, right_term}
use Rattle.lp_unify_laws.proofs.Instances.{instance_all, instance_look, look_instance, pattern_instance, scan_instance, instance_pruned, prune_instance}
use Rattle.lp_unify_laws.proofs.NormalForms.Weights.{Weighs}
use Rattle.lp_unify_laws.proofs.NormalForms.Typed.{typed_weighs, instance_weighs}
use Rattle.lp_unify_laws.proofs.MoreSteps.Scans.{scan_more}
use Rattle.lp_unify_laws.proofs.MoreSteps.Rules.{prune_more}
use Rattle.lp_unify_laws.proofs.Termination.Semis.{AllAbove, above_tells, Semi, scans_semi}
use Rattle.lp_unify_laws.proofs.Termination.SemiForms.{semi_good}
use Rattle.lp_unify_laws.proofs.Termination.SemiBindings.{CanRenew, semi_put}
use Rattle.lp_unify_laws.proofs.Termination.Rules.{HasPruned, Prunes}
use Rattle.lp_unify_laws.proofs.Termination.Runs.{PrunesTyped}

-- variables that are there, each with the number of arguments of its type
record Entry : Type 0 where
  id : ℕ
  level : ℕ
  arity : ℕ

abbrev Has : List Entry → Entry → Type 0
Has [] e = ⊥
Has (f ∷ L) e = (f ≡ e) ⊎ Has L e

abbrev entry : ℕ → ℕ → ℕ → Entry
entry x l a = record { id = x; level = l; arity = a }

abbrev IsLive : List Entry → Atom → Type 0
IsLive L (logic x l) = (a : ℕ) × Has L (entry x l a)
IsLive L (eigen k) = Unit {0}
IsLive L (constant c ts) = Unit {0}
IsLive L (integer z) = Unit {0}
IsLive L (text s) = Unit {0}
IsLive L (param k t) = Unit {0}

arity : Ty → ℕ
arity (var i) = 0
arity (type_param k) = 0
arity (con c ts) = 0
arity (arrow a b) = suc (arity b)

arity_arrows : (F : List Ty) (b : List ℕ) (T : Ty) → arity (arrows (types_in F b) T) ≡ length b + arity T
unfolding arity
arity_arrows F [] T = omega arith
arity_arrows F (k ∷ b) T = let e = arity_arrows F b T in omega arith

abbrev IsValid : List Variable → Entry → Type 0
IsValid V e = (v : Variable) × ((slice_get V e.id ≡ Some v) × (e.arity ≡ arity v.type))

abbrev AreValid : List Variable → List Entry → Type 0
AreValid V [] = Unit {0}
AreValid V (e ∷ L) = IsValid V e × AreValid V L

valid_more : (V W : List Variable) → IsMore V W → (L : List Entry) → AreValid V L → AreValid W L
valid_more V W m [] h = tt
valid_more V W m (e ∷ L) h = ((h.0.0, (more_get V W m e.id h.0.0 h.0.1.0, h.0.1.1)), valid_more V W m L h.1)

valid_of : (V : List Variable) (L : List Entry) (e : Entry) → AreValid V L → Has L e → IsValid V e
valid_of V [] e h k = absurd k
valid_of V (f ∷ L) e h (inl q) = transport (IsValid V) q h.0
valid_of V (f ∷ L) e h (inr k) = valid_of V L e h.1 k

-- a variable is taken off
abbrev is_entry : ℕ → ℕ → Entry → Bool
is_entry y m e = nat_eq e.id y && nat_eq e.level m

abbrev without : ℕ → ℕ → List Entry → List Entry
without y m [] = []
without y m (e ∷ L) = if is_entry y m e then without y m L else e ∷ without y m L

if_valid : (V : List Variable) (c : Bool) (e : Entry) (L : List Entry) → IsValid V e → AreValid V L → AreValid V (if c then L else e ∷ L)
if_valid V true e L h k = k
if_valid V false e L h k = (h, k)

valid_without : (V : List Variable) (y m : ℕ) (L : List Entry) → AreValid V L → AreValid V (without y m L)
valid_without V y m [] h = tt
valid_without V y m (e ∷ L) h = if_valid V (is_entry y m e) e (without y m L) h.0 (valid_without V y m L h.1)

abbrev sum_of : (Entry → ℕ) → List Entry → ℕ
sum_of f [] = 0
sum_of f (e ∷ L) = f e + sum_of f L

sum_less : (f : Entry → ℕ) (y m : ℕ) (L : List Entry) → sum_of f (without y m L) ≤ sum_of f L
sum_less f y m [] = omega arith
sum_less f y m (e ∷ L) = go (is_entry y m e) (sum_less f y m L)
  where
    go : (c : Bool) → sum_of f (without y m L) ≤ sum_of f L → sum_of f (if c then without y m L else e ∷ without y m L) ≤ f e + sum_of f L
    go true h = omega arith
    go false h = omega arith

entry_is : (y m a : ℕ) → is_entry y m (entry y m a) ≡ true
entry_is y m a =
    let p : nat_eq y y ≡ true = grind (arith, nat_tests) in
    let q : nat_eq m m ≡ true = grind (arith, nat_tests) in
    both_on (nat_eq y y) (nat_eq m m) p q

sum_taken : (f : Entry → ℕ) (y m a : ℕ) (L : List Entry) → Has L (entry y m a) → sum_of f (without y m L) + f (entry y m a) ≤ sum_of f L
sum_taken f y m a [] h = absurd h
sum_taken f y m a (e ∷ L) (inl q) =
    let i : is_entry y m e ≡ true = ap (is_entry y m) q ∙ entry_is y m a in
    let j : sum_of f (if is_entry y m e then without y m L else e ∷ without y m L) ≡ sum_of f (without y m L) = ap (λ c. sum_of f (if c then without y m L else e ∷ without y m L)) i in
    let k : f e ≡ f (entry y m a) = ap f q in
    let l = sum_less f y m L in
    omega arith
sum_taken f y m a (e ∷ L) (inr h) = go (is_entry y m e) (sum_taken f y m a L h)
  where
    go : (c : Bool) → sum_of f (without y m L) + f (entry y m a) ≤ sum_of f L → sum_of f (if c then without y m L else e ∷ without y m L) + f (entry y m a) ≤ f e + sum_of f L
    go true h = omega arith
    go false h = omega arith

has_without : (y m x l a : ℕ) (L : List Entry) → (nat_eq x y && nat_eq l m) ≡ false → Has L (entry x l a) → Has (without y m L) (entry x l a)
has_without y m x l a [] n h = absurd h
has_without y m x l a (e ∷ L) n (inl q) =
    let i : is_entry y m e ≡ false = ap (is_entry y m) q ∙ n in
    transport (λ c. Has (if c then without y m L else e ∷ without y m L) (entry x l a)) (sym i) (inl q)
has_without y m x l a (e ∷ L) n (inr h) = go (is_entry y m e) (has_without y m x l a L n h)
  where
    go : (c : Bool) → Has (without y m L) (entry x l a) → Has (if c then without y m L else e ∷ without y m L) (entry x l a)
    go true k = k
    go false k = inr k

-- the variables of a typed term
abbrev entries : List Variable → Term → List Entry
entries V (index i) = []
entries V (atom (logic x l)) = entry x l (elim (slice_get V x) [ None ↦ 0 | Some v ↦ arity v.type ]) ∷ []
entries V (atom (eigen k)) = []
entries V (atom (constant c ts)) = []
entries V (atom (integer z)) = []
entries V (atom (text s)) = []
entries V (atom (param k t)) = []
entries V (abs b) = entries V b
entries V (app t u) = entries V t ++ entries V u

has_front : (L M : List Entry) (e : Entry) → Has L e → Has (L ++ M) e
has_front [] M e h = absurd h
has_front (f ∷ L) M e (inl q) = inl q
has_front (f ∷ L) M e (inr h) = inr (has_front L M e h)

has_back : (L M : List Entry) (e : Entry) → Has M e → Has (L ++ M) e
has_back [] M e h = h
has_back (f ∷ L) M e h = inr (has_back L M e h)

live_front : (L M : List Entry) (a : Atom) → IsLive L a → IsLive (L ++ M) a
live_front L M (logic x l) h = (h.0, has_front L M (entry x l h.0) h.1)
live_front L M (eigen k) h = tt
live_front L M (constant c ts) h = tt
live_front L M (integer z) h = tt
live_front L M (text s) h = tt
live_front L M (param k t) h = tt

live_back : (L M : List Entry) (a : Atom) → IsLive M a → IsLive (L ++ M) a
live_back L M (logic x l) h = (h.0, has_back L M (entry x l h.0) h.1)
live_back L M (eigen k) h = tt
live_back L M (constant c ts) h = tt
live_back L M (integer z) h = tt
live_back L M (text s) h = tt
live_back L M (param k t) h = tt

entries_live : (P : Atom → Type 0) (V : List Variable) (n : ℕ) (t : Term) → Within P n t → Within (IsLive (entries V t)) n t
entries_live P V n (index i) w = w
entries_live P V n (atom (logic x l)) w = (elim (slice_get V x) as (λ o. ℕ) [ None ↦ 0 | Some v ↦ arity v.type ], inl refl)
entries_live P V n (atom (eigen k)) w = tt
entries_live P V n (atom (constant c ts)) w = tt
entries_live P V n (atom (integer z)) w = tt
entries_live P V n (atom (text s)) w = tt
entries_live P V n (atom (param k t)) w = tt
entries_live P V n (abs b) w = entries_live P V (suc n) b w
entries_live P V n (app t u) w = (
  within_more (IsLive (entries V t)) (IsLive (entries V t ++ entries V u)) n n (live_front (entries V t) (entries V u)) (omega arith) t (entries_live P V n t w.0),
  within_more (IsLive (entries V u)) (IsLive (entries V t ++ entries V u)) n n (live_back (entries V t) (entries V u)) (omega arith) u (entries_live P V n u w.1),
)

valid_both : (V : List Variable) (L M : List Entry) → AreValid V L → AreValid V M → AreValid V (L ++ M)
valid_both V [] M h k = k
valid_both V (e ∷ L) M h k = (h.0, valid_both V L M h.1 k)

entries_valid : (d : Declared) (E : List Ty) (V : List Variable) (n : ℕ) (t : Term) → Within (IsAtomOf d E V) n t → AreValid V (entries V t)
entries_valid d E V n (index i) w = tt
entries_valid d E V n (atom (logic x l)) w =
    let v = variable_of V x l w.1.0 w.1.1 in
    ((v.variable, (v.is, ap (λ o. elim o as (λ z. ℕ) [ None ↦ 0 | Some u ↦ arity u.type ]) v.is)), tt)
entries_valid d E V n (atom (eigen k)) w = tt
entries_valid d E V n (atom (constant c ts)) w = tt
entries_valid d E V n (atom (integer z)) w = tt
entries_valid d E V n (atom (text s)) w = tt
entries_valid d E V n (atom (param k t)) w = tt
entries_valid d E V n (abs b) w = entries_valid d E V (suc n) b w
entries_valid d E V n (app t u) w = valid_both V (entries V t) (entries V u) (entries_valid d E V n t w.0) (entries_valid d E V n u w.1)

-- what a scan says of its patterns
record IsSound (s : Side) (L : List Entry) (p : Pattern) : Type 0 where
  distinct : Distinct p.arguments
  above : AllAbove p.level p.arguments
  low : p.level ≤ s.pair
  other : is_side s p.id p.level ≡ false
  live : IsLive L (logic p.id p.level)

abbrev AreSound : Side → List Entry → List Pattern → Type 0
AreSound s L [] = Unit {0}
AreSound s L (p ∷ ps) = IsSound s L p × AreSound s L ps

sound_both : (s : Side) (L : List Entry) (ps qs : List Pattern) → AreSound s L ps → AreSound s L qs → AreSound s L (ps ++ qs)
sound_both s L [] qs h k = k
sound_both s L (p ∷ ps) qs h k = (h.0, sound_both s L ps qs h.1 k)

mutual
  scans_sound : (s : Side) (next : ℕ) (L : List Entry) {inside : Bool} {k : ℕ} {t : Term} {ps : List Pattern} → Scans s next inside k t ps → Within (IsLive L) 0 t → AreSound s L ps
  scans_sound s next L (scans_abs {k = k} b w r d) v = scans_sound s next L d (within_step (IsLive L) 0 (here (by_beta b (atom (eigen (suc k))))) (within_reduces (IsLive L) 0 r v, tt))
  scans_sound s next L (scans_rigid h ts w r g a d) v = all_sound s next L d (within_apply (IsLive L) ts h (within_reduces (IsLive L) 0 r v)).1
  scans_sound s next L (scans_pattern {k = k} y m b r o f) v = (
    record {
      distinct = distinct_tells b o.distinct;
      above = above_tells m b o.above;
      low = (within_apply (Seen next s.pair k) (eigens b) (atom (logic y m)) o.within).0.1;
      other = o.other;
      live = (within_apply (IsLive L) (eigens b) (atom (logic y m)) (within_reduces (IsLive L) 0 r v)).0;
    },
    tt,
  )
  scans_sound s next L (scans_flexible y m ts r w o f d) v = all_sound s next L d (within_apply (IsLive L) ts (atom (logic y m)) (within_reduces (IsLive L) 0 r v)).1

  all_sound : (s : Side) (next : ℕ) (L : List Entry) {inside : Bool} {k : ℕ} {ts : List Term} {ps : List Pattern} → ScansAll s next inside k ts ps → WithinAll (IsLive L) ts → AreSound s L ps
  all_sound s next L scans_none v = tt
  all_sound s next L (scans_more ps qs e d ds) v = transport (AreSound s L) (sym e) (sound_both s L ps qs (scans_sound s next L d v.0) (all_sound s next L ds v.1))

-- the first misfit
record IsMisfit (d : Declared) (E : List Ty) (V : List Variable) (s : Side) (L : List Entry) (p : Pattern) : Type 0 where
  placed : IsPlaced d E V p
  sound : IsSound s L p
  misfit : fits s p ≡ false

misfit_of : (d : Declared) (E : List Ty) (V : List Variable) (s : Side) (L : List Entry) (ps : List Pattern) → ArePlaced d E V ps → AreSound s L ps → (p : Pattern) → first_misfit s ps ≡ Some p → IsMisfit d E V s L p
misfit_of d E V s L [] h k p e = absurd (cc)
misfit_of d E V s L (q ∷ ps) h k p e = go (fits s q) refl e (λ i. misfit_of d E V s L ps h.1 k.1 p i)
  where
    go : (c : Bool) → fits s q ≡ c → (if c then first_misfit s ps else Some q) ≡ Some p → (first_misfit s ps ≡ Some p → IsMisfit d E V s L p) → IsMisfit d E V s L p
    go true i j ι = ι j
    go false i j ι = let r : q ≡ p = cc in transport (IsMisfit d E V s L) r (record { placed = h.0; sound = k.0; misfit = i })

if_short : (c : Bool) (x n : ℕ) (xs : List ℕ) → length xs ≤ n → length (if c then x ∷ xs else xs) ≤ suc n
if_short true x n xs h = omega arith
if_short false x n xs h = omega arith

chosen_short : (f : ℕ → Bool) (xs : List ℕ) → length (chosen f xs) ≤ length xs
chosen_short f [] = omega arith
chosen_short f (x ∷ xs) = if_short (f x) x (length xs) (chosen f xs) (chosen_short f xs)

not_all : (s : Side) (xs : List ℕ) → allow s xs ≡ false → length (chosen (allows s) xs) < length xs
not_all s [] e = absurd (cc)
not_all s (x ∷ xs) e = go (allows s x) e (not_all s xs) (chosen_short (allows s) xs)
  where
    go : (c : Bool) → (c && allow s xs) ≡ false → (allow s xs ≡ false → length (chosen (allows s) xs) < length xs) → length (chosen (allows s) xs) ≤ length xs → length (if c then x ∷ chosen (allows s) xs else chosen (allows s) xs) < suc (length xs)
    go true i ι l = let q = ι i in omega arith
    go false i ι l = omega arith

none_low : (m n : ℕ) (xs : List ℕ) → m ≤ n → AllAbove n xs → chosen (λ k. nat_le k m) xs ≡ []
none_low m n [] h a = refl
none_low m n (x ∷ xs) h a =
    let i : n < x = a.0 in
    let e : nat_le x m ≡ false = grind (arith, nat_tests) in
    ap (λ c. if c then x ∷ chosen (λ k. nat_le k m) xs else chosen (λ k. nat_le k m) xs) e ∙ none_low m n xs h a.1

-- the two measures
abbrev flag : Bool → ℕ
flag true = 1
flag false = 0

abbrev unless : Bool → ℕ → ℕ
unless true a = 0
unless false a = a

high_of : Side → Entry → ℕ
high_of s e = flag (nat_lt s.level e.level)

low_of : Side → Entry → ℕ
low_of s e = unless (nat_lt s.level e.level) e.arity

abbrev given : Side → Pattern → List ℕ
given s p = chosen (λ k. nat_le k p.level) s.arguments ++ chosen (allows s) p.arguments

-- behind the renewal
abbrev renewed_entries : Side → ℕ → Pattern → ℕ → List Entry → List Entry
renewed_entries s next p a L = entry next (min s.level p.level) a ∷ without p.id p.level L

live_value : (s : Side) (next a : ℕ) (p : Pattern) (L : List Entry) → Within (IsLive (renewed_entries s next p a L)) 0 (renewal s next p).value
live_value s next a p L =
    let M = renewed_entries s next p a L in
    let t = apply (atom (logic next (min s.level p.level))) (eigens (given s p)) in
    within_more (And (IsLive M) (Avoids p.arguments)) (IsLive M) 0 0 (λ a h. h.0) (omega arith) (abstracted p.arguments t)
    (within_abstracted (IsLive M) p.arguments t (apply_within (IsLive M) (eigens (given s p)) (atom (logic next (min s.level p.level))) (a, inl refl) (live_eigens M (given s p))))
  where
    live_eigens : (M : List Entry) (b : List ℕ) → WithinAll (IsLive M) (eigens b)
    live_eigens M [] = tt
    live_eigens M (k ∷ b) = (tt, live_eigens M b)

live_put : (s : Side) (next a : ℕ) (p : Pattern) (L : List Entry) (x : Atom) → IsLive L x → Within (IsLive (renewed_entries s next p a L)) 0 (at_variables (one (renewal s next p)) x)
live_put s next a p L (logic x l) h = go (nat_eq x p.id && nat_eq l p.level) refl
  where
    go : (c : Bool) → (nat_eq x p.id && nat_eq l p.level) ≡ c → Within (IsLive (renewed_entries s next p a L)) 0 (if c then (renewal s next p).value else atom (logic x l))
    go true e = live_value s next a p L
    go false e = (h.0, inr (has_without p.id p.level x l h.0 L e h.1))
live_put s next a p L (eigen k) h = tt
live_put s next a p L (constant c ts) h = tt
live_put s next a p L (integer z) h = tt
live_put s next a p L (text t) h = tt
live_put s next a p L (param k t) h = tt

record Falls (s : Side) (L M : List Entry) : Type 0 where
  falls : (sum_of (high_of s) M < sum_of (high_of s) L) ⊎ ((sum_of (high_of s) M ≤ sum_of (high_of s) L) × (sum_of (low_of s) M < sum_of (low_of s) L))

measure_falls : (d : Declared) (E : List Ty) (V : List Variable) (s : Side) (next : ℕ) (L : List Entry) (p : Pattern) → AllAbove s.level s.arguments → AreValid V L → (h : IsMisfit d E V s L p) → (x : Renews d E V s p) →
    Falls s L (renewed_entries s next p (arity (new_variable x.context x.scope (given s p) x.type).type) L)
unfolding high_of low_of
measure_falls d E V s next L p above valid h x = go (nat_lt s.level p.level) refl
  where
    a : ℕ
    a = h.sound.live.0

    b : ℕ
    b = arity (new_variable x.context x.scope (given s p) x.type).type

    l : ℕ
    l = min s.level p.level

    new_low : nat_lt s.level l ≡ false
    new_low = (let q : min s.level p.level ≤ s.level = omega arith in grind (arith, nat_tests))

    new_high : flag (nat_lt s.level l) ≡ 0
    new_high = ap flag new_low

    new_arity : unless (nat_lt s.level l) b ≡ b
    new_arity = ap (λ c. unless c b) new_low

    old : IsValid V (entry p.id p.level a)
    old = valid_of V L (entry p.id p.level a) valid h.sound.live.1

    old_arity : a ≡ length p.arguments + arity x.type
    old_arity =
        let q : Some old.0 ≡ Some x.new.variable = sym old.1.0 ∙ x.new.is in
        let r : old.0 ≡ x.new.variable = cc in
        old.1.1 ∙ ap (λ v. arity v.type) r ∙ ap arity x.new.type ∙ arity_arrows x.context p.arguments x.type

    arity_is : b ≡ length (given s p) + arity x.type
    arity_is = arity_arrows x.context (given s p) x.type

    go : (c : Bool) → nat_lt s.level p.level ≡ c → Falls s L (renewed_entries s next p b L)
    go true e =
        let t = sum_taken (high_of s) p.id p.level a L h.sound.live.1 in
        let f : flag (nat_lt s.level p.level) ≡ 1 = ap flag e in
        record { falls = inl (let g = new_high in omega arith) }
    go false e =
        let i : p.level ≤ s.level = grind (arith, nat_tests) in
        let j : nat_le p.level s.level ≡ true = grind (arith, nat_tests) in
        let k : allow s p.arguments ≡ false = sym (ap (λ c. c && allow s p.arguments) j) ∙ h.misfit in
        let n = not_all s p.arguments k in
        let z : length (given s p) ≡ length (chosen (allows s) p.arguments) = ap (λ y. length (y ++ chosen (allows s) p.arguments)) (none_low p.level s.level s.arguments i above) in
        let t = sum_taken (low_of s) p.id p.level a L h.sound.live.1 in
        let u = sum_less (high_of s) p.id p.level L in
        let f : unless (nat_lt s.level p.level) a ≡ a = ap (λ c. unless c a) e in
        let g = new_high in let o = new_arity in let q = old_arity in let r = arity_is in
        record { falls = inr (omega arith, omega arith) }

-- one side
record IsAsked (d : Declared) (E : List Ty) (S T : Ty) (s : Side) (V : List Variable) (next : ℕ) (t : Term) (L : List Entry) : Type 0 where
  count : length V ≡ next
  side : IsTypedSide d E V s S
  typed : IsTypedTerm d E V t T
  within : Within (IsPairAtom next s.pair) 0 t
  older : s.id < next
  distinct : Distinct s.arguments
  above : AllAbove s.level s.arguments
  semi : Semi s t
  live : Within (IsLive L) 0 t
  valid : AreValid V L

pair_up : (next n : ℕ) (a : Atom) → IsPairAtom next n a → UpTo n a
pair_up next n (eigen k) h = h
pair_up next n (logic x l) h = tt
pair_up next n (constant c ts) h = tt
pair_up next n (integer z) h = tt
pair_up next n (text s) h = tt
pair_up next n (param k t) h = tt

abbrev by_scan : ℕ → Side → ℕ → Term → Scanned → Option Pruned
by_scan n s next t r = elim r [
  | broken u ↦ None
  | whole u true ps ↦ None
  | whole u false ps ↦ elim (first_misfit s ps) [
    | None ↦ Some (record { bindings = []; next = next; term = t })
    | Some p ↦ option_map (led_by (renewal s next p)) (prune n s (suc next) (put (renewal s next p) t))
  ]
]

abbrev by_misfit : ℕ → Side → ℕ → Term → Option Pattern → Option Pruned
by_misfit n s next t o = elim o [
  | None ↦ Some (record { bindings = []; next = next; term = t })
  | Some p ↦ option_map (led_by (renewal s next p)) (prune n s (suc next) (put (renewal s next p) t))
]

one_prune : (d : Declared) (E : List Ty) (S T : Ty) (s : Side) (V : List Variable) (next : ℕ) (t : Term) (L : List Entry) → IsAsked d E S T s V next t L →
    ((W : List Variable) (u : Term) (M : List Entry) → IsAsked d E S T s W (suc next) u M → Falls s L M → HasPruned s (suc next) u) → HasPruned s next t
one_prune d E S T s V next t L h ι = go (first_misfit s good.2) refl
  where
    w : (w : ℕ) × Weighs t w
    w = typed_weighs (in_scope d E V) [] t T h.typed.typed

    good : (n : ℕ) × (u : ℕ) × (ps : List Pattern) × (scan n s false s.pair t ≡ Some (whole u false ps))
    good = semi_good s s.pair t w.0 (omega arith) (within_more (IsPairAtom next s.pair) (UpTo s.pair) 0 0 (pair_up next s.pair) (omega arith) t h.within) w.1 h.semi

    scans : Scans s next false s.pair t good.2
    scans = scan_tells good.0 s next false s.pair t good.1 good.2 (within_more (IsPairAtom next s.pair) (Seen next s.pair s.pair) 0 0 (pair_seen next s.pair) (omega arith) t h.within) good.3

    go : (o : Option Pattern) → first_misfit s good.2 ≡ o → HasPruned s next t
    go None e = record {
      steps = suc good.0;
      result = record { bindings = []; next = next; term = t };
      weight = w.0;
      is = ap (option_and_then (by_scan good.0 s next t)) good.3 ∙ ap (by_misfit good.0 s next t) e;
      weighs_so = w.1;
    }
    go (Some p) e =
        let at : length (E ++ []) ≡ s.pair = ap length (sym (append_none E)) ∙ h.side.pair in
        let placed = scans_placed s next d E V scans [] T at (transport (λ z. HasType (in_scope d z V) [] t T) (append_none E) h.typed.typed) (within_more (IsScopedAtom V E) (IsScopedVariable V E) 0 0 (scoped_variable V E) (omega arith) t h.typed.scoped) in
        let f = misfit_of d E V s L good.2 placed (scans_sound s next L scans h.live) p e in
        let x = renews d E V s S h.side p f.placed in
        let v = new_variable x.context x.scope (given s p) x.type in
        let m = one_more V v in
        let W = renewed_context d E V s p x in
        let b = renewal s next p in
        let M = renewed_entries s next p (arity v.type) L in
        let old = h.older in
        let n : nat_eq next s.id ≡ false = grind (arith, nat_tests) in
        let r : CanRenew s next p = record {
          distinct = f.sound.distinct;
          above = f.sound.above;
          low = f.sound.low;
          other = f.sound.other;
          new = ap (λ c. c && nat_eq (min s.level p.level) s.level) n;
          side_distinct = h.distinct;
          side_above = h.above;
        } in
        let asked : IsAsked d E S T s W (suc next) (put b t) M = record {
          count = length_last V v ∙ ap suc h.count;
          side = side_more d E V W s S m h.side;
          typed = put_typed d E W b (renewal_typed d E V s next p h.count x) t T (term_more d E V W m t T h.typed);
          within = put_within (suc next) s.pair b (renewal_scoped s next p) t (pair_next_term next (suc next) s.pair (omega arith) t h.within);
          older = omega arith;
          distinct = h.distinct;
          above = h.above;
          semi = semi_put s next p r h.semi;
          live = within_fill (IsLive L) (IsLive M) (at_variables (one b)) 0 (live_put s next (arity v.type) p L) t h.live;
          valid = ((v, (transport (λ z. slice_get W z ≡ Some v) h.count (get_last V v), refl)), valid_without W p.id p.level L (valid_more V W m L h.valid));
        } in
        let q = ι W (put b t) M asked (measure_falls d E V s next L p h.above h.valid f x) in
        let j = good.0 + q.steps in
        record {
          steps = suc j;
          result = led_by b q.result;
          weight = q.weight;
          is = ap (option_and_then (by_scan j s next t)) (scan_more good.0 j (omega arith) s false s.pair t (whole good.1 false good.2) good.3) ∙ ap (by_misfit j s next t) e ∙
              ap (option_map (led_by b)) (prune_more q.steps j (omega arith) s (suc next) (put b t) q.result q.is);
          weighs_so = q.weighs_so;
        }

low_prunes : (d : Declared) (E : List Ty) (S T : Ty) (s : Side) (H : ℕ) →
    ((V : List Variable) (next : ℕ) (t : Term) (L : List Entry) → IsAsked d E S T s V next t L → sum_of (high_of s) L < H → HasPruned s next t) →
    (G : ℕ) (V : List Variable) (next : ℕ) (t : Term) (L : List Entry) → IsAsked d E S T s V next t L → sum_of (high_of s) L < suc H → sum_of (low_of s) L < G → HasPruned s next t
low_prunes d E S T s H ι zero V next t L h i j = absurd (omega arith)
low_prunes d E S T s H ι (suc G) V next t L h i j = one_prune d E S T s V next t L h (λ W u M k f. go W u M k f.falls (low_prunes d E S T s H ι G))
  where
    go : (W : List Variable) (u : Term) (M : List Entry) → IsAsked d E S T s W (suc next) u M → (sum_of (high_of s) M < sum_of (high_of s) L) ⊎ ((sum_of (high_of s) M ≤ sum_of (high_of s) L) × (sum_of (low_of s) M < sum_of (low_of s) L)) →
        ((V : List Variable) (next : ℕ) (t : Term) (L : List Entry) → IsAsked d E S T s V next t L → sum_of (high_of s) L < suc H → sum_of (low_of s) L < G → HasPruned s next t) → HasPruned s (suc next) u
    go W u M k (inl f) κ = ι W (suc next) u M k (omega arith)
    go W u M k (inr f) κ = let a = f.0 in let b = f.1 in κ W (suc next) u M k (omega arith) (omega arith)

high_prunes : (d : Declared) (E : List Ty) (S T : Ty) (s : Side) (H : ℕ) (V : List Variable) (next : ℕ) (t : Term) (L : List Entry) → IsAsked d E S T s V next t L → sum_of (high_of s) L < H → HasPruned s next t
high_prunes d E S T s zero V next t L h i = absurd (omega arith)
high_prunes d E S T s (suc H) V next t L h i = low_prunes d E S T s H (high_prunes d E S T s H) (suc (sum_of (low_of s) L)) V next t L h i (omega arith)

-- a side of a typed pair
back_from : (θ : ℕ → Ty) (s : Side) (next : ℕ) (t : Term) → HasPruned s next (instance_term θ t) → HasPruned s next t
back_from θ s next t h = go (prune h.steps s next t) refl (sym (prune_instance θ h.steps s next t) ∙ h.is)
  where
    go : (o : Option Pruned) → prune h.steps s next t ≡ o → option_map (instance_pruned θ) (prune h.steps s next t) ≡ Some h.result → HasPruned s next t
    go None e i = absurd (let q : None ≡ Some h.result = sym (ap (option_map (instance_pruned θ)) e) ∙ i in cc)
    go (Some r) e i =
        let q : Some (instance_pruned θ r) ≡ Some h.result = sym (ap (option_map (instance_pruned θ)) e) ∙ i in
        let z : instance_pruned θ r ≡ h.result = cc in
        record { steps = h.steps; result = r; weight = h.weight; is = e; weighs_so = instance_weighs θ h.weighs_so r.term (sym (ap (λ x. x.term) z)) }

side_prunes : (d : Declared) (θ : ℕ → Ty) (V : List Variable) (next level : ℕ) (E : List Ty) (T : Ty) (own other : Term) → length V ≡ next → length E ≡ level → IsTypedTerm d E V (instance_term θ own) T → IsTypedTerm d E V (instance_term θ other) T → Prunes next level own other
side_prunes d θ V next level E T own other e g a b s o n u ps i =
    let x = instance_term θ own in
    let t = instance_term θ other in
    let ts = instance_all θ o.terms in
    let h = atom (logic s.id s.level) in
    let seen : look o.steps x ≡ Some (flexible s.id s.level ts) = look_instance θ o.steps own ∙ ap (option_map (instance_look θ)) o.seen in
    let made : pattern_of o.tests s.level ts ≡ Some (Some s.arguments) = pattern_instance θ o.tests s.level o.terms ∙ o.is_pattern in
    let tells = pattern_tells o.tests s.level ts s.arguments made in
    let path : ReducesTo x (pattern_term (pattern s.id s.level s.arguments)) = reduces_on (look_reduces o.steps x (flexible s.id s.level ts) seen) (reduces_spine ts s.arguments tells.arguments h h (done h)) in
    let typed = term_reduces d E V T path a in
    let at : length E ≡ s.pair = g ∙ sym o.pair in
    let inside = within_apply (IsPairAtom (length V) (length E)) (eigens s.arguments) h (term_pair d E V (pattern_term (pattern s.id s.level s.arguments)) T typed) in
    let within : Within (IsPairAtom next s.pair) 0 t = transport (λ z. Within (IsPairAtom z s.pair) 0 t) e (transport (λ z. Within (IsPairAtom (length V) z) 0 t) at (term_pair d E V t T b)) in
    let scanned : scan n s false s.pair t ≡ Some (whole u false ps) = scan_instance θ n s false s.pair other ∙ i in
    let scans = scan_tells n s next false s.pair t u ps (within_more (IsPairAtom next s.pair) (Seen next s.pair s.pair) 0 0 (pair_seen next s.pair) (omega arith) t within) scanned in
    let L = entries V t in
    let atoms = term_atoms d E V t T b in
    back_from θ s next other (high_prunes d E T T s (suc (sum_of (high_of s) L)) V next t L (record {
      count = e;
      side = side_typed d E V s T at typed;
      typed = b;
      within = within;
      older = transport (λ z. s.id < z) e inside.0.0;
      distinct = distinct_tells s.arguments tells.distinct;
      above = above_tells s.level s.arguments tells.above;
      semi = scans_semi s next scans (omega arith);
      live = entries_live (IsAtomOf d E V) V 0 t atoms;
      valid = entries_valid d E V 0 t atoms;
    }) (omega arith))

pub prunes_typed : (d : Declared) → PrunesTyped d
prunes_typed d θ V next p e h =
    let q = h.0 in
    let a = left_term d V q (instance_pair θ p) h.1 in
    let b = right_term d V q (instance_pair θ p) h.1 in
    (side_prunes d θ V next p.level q.eigens q.type p.left p.right e h.1.level a b, side_prunes d θ V next p.level q.eigens q.type p.right p.left e h.1.level b a)
