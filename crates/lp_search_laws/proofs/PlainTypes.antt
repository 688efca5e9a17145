-- Plain terms, goals and clauses: type variables below a number, and what stays so where bindings and types are put in.
use Rattle.std.proofs.Common.{◌≡◌, ℕ, zero, suc, ◌+◌, ◌<◌, List, [], ◌∷◌, ◌++◌, map, refl, sym, ap, subst as transport, arith, Bool, true, false, nat_eq, nat_lt, if◌then◌else◌}
use Rattle.std.specs.Prelude.{◌&&◌}
use Rattle.std.proofs.lemmas.Bool.Decides.{nat_tests}
use Rattle.lp_unify_laws.specs.TypesBelow.{IsTypeBelow, AreTysBelow, AreTypesBelow}
use Rattle.lp_calculus.specs.Types.{Ty, Tys, var, param as type_param, con, arrow, no_types, types, instance, instances}
use Rattle.lp_calculus.specs.Term.{Term, Atom, index, atom, abs, app, shift, constant, integer, text, eigen, logic, param}
use Rattle.lp_calculus.specs.Fill.{Binding, fill, raise, at_variables, one, put, put_all}
use Rattle.lp_calculus.specs.Instance.{instance_term, instance_atom}
use Rattle.lp_calculus.specs.Typing.{o_type}
use Rattle.lp_calculus.specs.Closed.{AllAtoms}
use Rattle.lp_standard.specs.Positive.{IsPositiveAtom, IsPositive}
use Rattle.lp_lemmas.specs.Each.{EachOf}
use Rattle.lp_calculus.specs.Spine.{head_of}
use Rattle.lp_model.specs.Types.{TypeBinding, one_type, put_types}
use Rattle.lp_model.specs.Pair.{put_type_in, put_types_in}
use Rattle.lp_model.specs.Flat.{Goal, Atomic, Cut, Either, Exists, Forall, Assume, Not, Goals, no_goals, goals, Clause, clause, Clauses, no_clauses, clauses, under_all, map_goal, map_goals, map_clause, map_clauses, same_type, all_of, formula_of_goal, formula_of_goals, formula_of_clause, formula_of_clauses}
use Rattle.lp_search_laws.specs.Branches.{IsPlainAtom, IsPlainTerm, IsClauseHead, IsGoal, AreGoals, IsClause, AreClauses, IsAssumable}
use Rattle.lp_search_laws.specs.Clauses.{own_types}
use Rattle.lp_search_laws.specs.Behind.{types_of}

-- types that agree below k
mutual
  pub agree_type : (k : ℕ) (κ μ : ℕ → Ty) → ((i : ℕ) → i < k → κ i ≡ μ i) → (T : Ty) → IsTypeBelow k T → instance κ T ≡ instance μ T
  agree_type k κ μ h (var i) w = h i w
  agree_type k κ μ h (type_param n) w = refl
  agree_type k κ μ h (con c ts) w = ap (con c) (agree_types k κ μ h ts w)
  agree_type k κ μ h (arrow a b) w = λ i. arrow (agree_type k κ μ h a w.0 i) (agree_type k κ μ h b w.1 i)

  agree_types : (k : ℕ) (κ μ : ℕ → Ty) → ((i : ℕ) → i < k → κ i ≡ μ i) → (ts : Tys) → AreTysBelow k ts → instances κ ts ≡ instances μ ts
  agree_types k κ μ h no_types w = refl
  agree_types k κ μ h (types t ts) w = λ i. types (agree_type k κ μ h t w.0 i) (agree_types k κ μ h ts w.1 i)

pub agree_list : (k : ℕ) (κ μ : ℕ → Ty) → ((i : ℕ) → i < k → κ i ≡ μ i) → (ts : List Ty) → AreTypesBelow k ts → map (instance κ) ts ≡ map (instance μ) ts
agree_list k κ μ h [] w = refl
agree_list k κ μ h (t ∷ ts) w = λ i. agree_type k κ μ h t w.0 i ∷ agree_list k κ μ h ts w.1 i

abbrev pub IsBelowAtom : (k : ℕ) → Atom → Type 0
IsBelowAtom k (constant c ts) = AreTypesBelow k ts
IsBelowAtom k (integer z) = Unit {0}
IsBelowAtom k (text s) = Unit {0}
IsBelowAtom k (eigen n) = Unit {0}
IsBelowAtom k (logic x l) = Unit {0}
IsBelowAtom k (param n T) = IsTypeBelow k T

abbrev pub IsBelow : (k : ℕ) → Term → Type 0
IsBelow k t = AllAtoms (IsBelowAtom k) t

agree_atom : (k : ℕ) (κ μ : ℕ → Ty) → ((i : ℕ) → i < k → κ i ≡ μ i) → (a : Atom) → IsBelowAtom k a → instance_atom κ a ≡ instance_atom μ a
agree_atom k κ μ h (constant c ts) w = ap (constant c) (agree_list k κ μ h ts w)
agree_atom k κ μ h (integer z) w = refl
agree_atom k κ μ h (text s) w = refl
agree_atom k κ μ h (eigen n) w = refl
agree_atom k κ μ h (logic x l) w = refl
agree_atom k κ μ h (param n T) w = ap (param n) (agree_type k κ μ h T w)

pub agree_term : (k : ℕ) (κ μ : ℕ → Ty) → ((i : ℕ) → i < k → κ i ≡ μ i) → (t : Term) → IsBelow k t → instance_term κ t ≡ instance_term μ t
agree_term k κ μ h (index i) w = refl
agree_term k κ μ h (atom a) w = ap atom (agree_atom k κ μ h a w)
agree_term k κ μ h (abs b) w = ap abs (agree_term k κ μ h b w)
agree_term k κ μ h (app t u) w = λ i. app (agree_term k κ μ h t w.0 i) (agree_term k κ μ h u w.1 i)

plain_below_atom : (k : ℕ) (a : Atom) → IsPlainAtom k a → IsBelowAtom k a
plain_below_atom k (constant c ts) w = w.1
plain_below_atom k (integer z) w = tt
plain_below_atom k (text s) w = tt
plain_below_atom k (eigen n) w = tt
plain_below_atom k (logic x l) w = tt
plain_below_atom k (param n T) w = w

plain_positive_atom : (k : ℕ) (a : Atom) → IsPlainAtom k a → IsPositiveAtom a
plain_positive_atom k (constant c ts) w = w.0
plain_positive_atom k (integer z) w = tt
plain_positive_atom k (text s) w = tt
plain_positive_atom k (eigen n) w = tt
plain_positive_atom k (logic x l) w = tt
plain_positive_atom k (param n T) w = tt

pub atoms_map : (P Q : Atom → Type 0) → ((a : Atom) → P a → Q a) → (t : Term) → AllAtoms P t → AllAtoms Q t
atoms_map P Q h (index i) w = tt
atoms_map P Q h (atom a) w = h a w
atoms_map P Q h (abs b) w = atoms_map P Q h b w
atoms_map P Q h (app t u) w = (atoms_map P Q h t w.0, atoms_map P Q h u w.1)

pub plain_below : (k : ℕ) (t : Term) → IsPlainTerm k t → IsBelow k t
plain_below k t w = atoms_map (IsPlainAtom k) (IsBelowAtom k) (plain_below_atom k) t w

pub plain_positive : (k : ℕ) (t : Term) → IsPlainTerm k t → IsPositive t
plain_positive k t w = atoms_map (IsPlainAtom k) IsPositiveAtom (plain_positive_atom k) t w

-- the formulas of plain goals
all_below : (k : ℕ) (vs : List Ty) (t : Term) → AreTypesBelow k vs → IsBelow k t → IsBelow k (all_of vs t)
all_below k [] t w h = h
all_below k (v ∷ vs) t w h = all_below k vs _ w.1 ((w.0, tt), h)

mutual
  pub goal_below : (k : ℕ) (B : List Bool) (g : Goal) → IsGoal k B g → IsBelow k (formula_of_goal g)
  goal_below k B (Atomic t) w = plain_below k t w
  goal_below k B Cut w = tt
  goal_below k B (Either gs hs) w = ((tt, goals_below k B gs w.0), goals_below k B hs w.1)
  goal_below k B (Exists T gs) w = ((w.0, tt), goals_below k (false ∷ B) gs w.1)
  goal_below k B (Forall T gs) w = ((w.0, tt), goals_below k (true ∷ B) gs w.1)
  goal_below k B (Assume ws cs gs) w = ((tt, clauses_below k B cs w.0), goals_below k B gs w.1)
  goal_below k B (Not ws gs) w = (tt, goals_below k B gs w)

  pub goals_below : (k : ℕ) (B : List Bool) (gs : Goals) → AreGoals k B gs → IsBelow k (formula_of_goals gs)
  goals_below k B no_goals w = tt
  goals_below k B (goals g no_goals) w = goal_below k B g w.0
  goals_below k B (goals g (goals h gs)) w = ((tt, goal_below k B g w.0), goals_below k B (goals h gs) w.1)

  pub clause_below : (k : ℕ) (B : List Bool) (c : Clause) → IsClause k B c → IsBelow k (formula_of_clause c)
  clause_below k B (clause n vs h no_goals) w = all_below k vs h w.0 (plain_below k h w.2)
  clause_below k B (clause n vs h (goals g gs)) w = all_below k vs _ w.0 ((tt, goals_below k (map (λ v. false) vs ++ B) (goals g gs) w.3), plain_below k h w.2)

  pub clauses_below : (k : ℕ) (B : List Bool) (cs : Clauses) → AreClauses k B cs → IsBelow k (formula_of_clauses cs)
  clauses_below k B no_clauses w = tt
  clauses_below k B (clauses c no_clauses) w = clause_below k B c w.1
  clauses_below k B (clauses c (clauses e cs)) w = ((tt, clause_below k B c w.1), clauses_below k B (clauses e cs) w.2)

-- a change of terms and types that keeps what is plain
pub record KeepsPlain (k : ℕ) (f : Term → Term) (ty : Ty → Ty) : Type 0 where
  pub terms : (t : Term) → IsPlainTerm k t → IsPlainTerm k (f t)
  pub types : (T : Ty) → IsTypeBelow k T → IsTypeBelow k (ty T)
  pub heads : (B : List Bool) (t : Term) → IsClauseHead B (head_of t) → IsClauseHead B (head_of (f t))

types_kept : (k : ℕ) (f : Term → Term) (ty : Ty → Ty) → KeepsPlain k f ty → (ts : List Ty) → AreTypesBelow k ts → AreTypesBelow k (map ty ts)
types_kept k f ty p [] w = tt
types_kept k f ty p (t ∷ ts) w = (p.types t w.0, types_kept k f ty p ts w.1)

same_binders : (ty : Ty → Ty) (vs : List Ty) → map {B = Bool} (λ v. false) (map ty vs) ≡ map (λ v. false) vs
same_binders ty [] = refl
same_binders ty (v ∷ vs) = ap (λ z. false ∷ z) (same_binders ty vs)

mutual
  pub goal_kept : (k : ℕ) (f : Term → Term) (ty : Ty → Ty) → KeepsPlain k f ty → (n : ℕ) (B : List Bool) (g : Goal) → IsGoal k B g → IsGoal k B (map_goal (λ u. u) (λ u t. f t) ty n g)
  goal_kept k f ty p n B (Atomic t) w = p.terms t w
  goal_kept k f ty p n B Cut w = tt
  goal_kept k f ty p n B (Either gs hs) w = (goals_kept k f ty p n B gs w.0, goals_kept k f ty p n B hs w.1)
  goal_kept k f ty p n B (Exists T gs) w = (p.types T w.0, goals_kept k f ty p n (false ∷ B) gs w.1)
  goal_kept k f ty p n B (Forall T gs) w = (p.types T w.0, goals_kept k f ty p n (true ∷ B) gs w.1)
  goal_kept k f ty p n B (Assume ws cs gs) w = (clauses_kept k f ty p n B cs w.0, goals_kept k f ty p n B gs w.1)
  goal_kept k f ty p n B (Not ws gs) w = goals_kept k f ty p n B gs w

  pub goals_kept : (k : ℕ) (f : Term → Term) (ty : Ty → Ty) → KeepsPlain k f ty → (n : ℕ) (B : List Bool) (gs : Goals) → AreGoals k B gs → AreGoals k B (map_goals (λ u. u) (λ u t. f t) ty n gs)
  goals_kept k f ty p n B no_goals w = tt
  goals_kept k f ty p n B (goals g gs) w = (goal_kept k f ty p n B g w.0, goals_kept k f ty p n B gs w.1)

  pub clause_kept : (k : ℕ) (f : Term → Term) (ty : Ty → Ty) → KeepsPlain k f ty → (n : ℕ) (B : List Bool) (c : Clause) → IsClause k B c → IsClause k B (map_clause (λ u. u) (λ u t. f t) ty n c)
  clause_kept k f ty p n B (clause m vs h b) w = (
    types_kept k f ty p vs w.0,
    transport (λ z. IsClauseHead (z ++ B) (head_of (f h))) (sym (same_binders ty vs)) (p.heads (map (λ v. false) vs ++ B) h w.1),
    p.terms h w.2,
    transport (λ z. AreGoals k (z ++ B) (map_goals (λ u. u) (λ u t. f t) ty (under_all (λ u. u) vs n) b)) (sym (same_binders ty vs)) (goals_kept k f ty p (under_all (λ u. u) vs n) (map (λ v. false) vs ++ B) b w.3),
  )

  pub clauses_kept : (k : ℕ) (f : Term → Term) (ty : Ty → Ty) → KeepsPlain k f ty → (n : ℕ) (B : List Bool) (cs : Clauses) → AreClauses k B cs → AreClauses k B (map_clauses (λ u. u) (λ u t. f t) ty n cs)
  clauses_kept k f ty p n B no_clauses w = tt
  clauses_kept k f ty p n B (clauses c cs) w = (own_kept f ty n c w.0, clause_kept k f ty p n B c w.1, clauses_kept k f ty p n B cs w.2)

  own_kept : (f : Term → Term) (ty : Ty → Ty) (n : ℕ) (c : Clause) → own_types c ≡ 0 → own_types (map_clause (λ u. u) (λ u t. f t) ty n c) ≡ 0
  own_kept f ty n (clause m vs h b) w = w

pub assumable_kept : (k : ℕ) (f : Term → Term) (ty : Ty → Ty) → KeepsPlain k f ty → (c : Clause) → IsAssumable k c → IsAssumable k (map_clause (λ u. u) (λ u t. f t) ty zero c)
assumable_kept k f ty p c w = (own_kept f ty zero c w.0, clause_kept k f ty p zero [] c w.1)

-- types put in
mutual
  pub type_below : (k : ℕ) (θ : ℕ → Ty) → ((i : ℕ) → i < k → IsTypeBelow k (θ i)) → (T : Ty) → IsTypeBelow k T → IsTypeBelow k (instance θ T)
  type_below k θ h (var i) w = h i w
  type_below k θ h (type_param n) w = tt
  type_below k θ h (con c ts) w = types_below k θ h ts w
  type_below k θ h (arrow a b) w = (type_below k θ h a w.0, type_below k θ h b w.1)

  types_below : (k : ℕ) (θ : ℕ → Ty) → ((i : ℕ) → i < k → IsTypeBelow k (θ i)) → (ts : Tys) → AreTysBelow k ts → AreTysBelow k (instances θ ts)
  types_below k θ h no_types w = tt
  types_below k θ h (types t ts) w = (type_below k θ h t w.0, types_below k θ h ts w.1)

pub list_below : (k : ℕ) (θ : ℕ → Ty) → ((i : ℕ) → i < k → IsTypeBelow k (θ i)) → (ts : List Ty) → AreTypesBelow k ts → AreTypesBelow k (map (instance θ) ts)
list_below k θ h [] w = tt
list_below k θ h (t ∷ ts) w = (type_below k θ h t w.0, list_below k θ h ts w.1)

atom_instance_plain : (k : ℕ) (θ : ℕ → Ty) → ((i : ℕ) → i < k → IsTypeBelow k (θ i)) → (a : Atom) → IsPlainAtom k a → IsPlainAtom k (instance_atom θ a)
atom_instance_plain k θ h (constant c ts) w = (w.0, list_below k θ h ts w.1)
atom_instance_plain k θ h (integer z) w = tt
atom_instance_plain k θ h (text s) w = tt
atom_instance_plain k θ h (eigen n) w = tt
atom_instance_plain k θ h (logic x l) w = tt
atom_instance_plain k θ h (param n T) w = type_below k θ h T w

pub instance_plain : (k : ℕ) (θ : ℕ → Ty) → ((i : ℕ) → i < k → IsTypeBelow k (θ i)) → (t : Term) → IsPlainTerm k t → IsPlainTerm k (instance_term θ t)
instance_plain k θ h (index i) w = tt
instance_plain k θ h (atom a) w = atom_instance_plain k θ h a w
instance_plain k θ h (abs b) w = instance_plain k θ h b w
instance_plain k θ h (app t u) w = (instance_plain k θ h t w.0, instance_plain k θ h u w.1)

type_heads : (θ : ℕ → Ty) (B : List Bool) (t : Term) → IsClauseHead B (head_of t) → IsClauseHead B (head_of (instance_term θ t))
type_heads θ B (index i) w = w
type_heads θ B (atom (constant c ts)) w = w
type_heads θ B (atom (integer z)) w = absurd w
type_heads θ B (atom (text s)) w = absurd w
type_heads θ B (atom (eigen n)) w = w
type_heads θ B (atom (logic x l)) w = absurd w
type_heads θ B (atom (param n T)) w = absurd w
type_heads θ B (abs b) w = absurd w
type_heads θ B (app f a) w = type_heads θ B f w

pub types_keep_plain : (k : ℕ) (θ : ℕ → Ty) → ((i : ℕ) → i < k → IsTypeBelow k (θ i)) → KeepsPlain k (instance_term θ) (instance θ)
types_keep_plain k θ h = record { terms = instance_plain k θ h; types = type_below k θ h; heads = type_heads θ }

-- bindings put in
shift_plain : (P : Atom → Type 0) (d : ℕ) (t : Term) → AllAtoms P t → AllAtoms P (shift d 1 t)
shift_plain P d (index i) w = index_plain (nat_lt i d)
  where
    index_plain : (b : Bool) → AllAtoms P (if b then index i else index (i + 1))
    index_plain true = tt
    index_plain false = tt
shift_plain P d (atom a) w = w
shift_plain P d (abs b) w = shift_plain P (suc d) b w
shift_plain P d (app t u) w = (shift_plain P d t w.0, shift_plain P d u w.1)

pub fill_plain : (P Q : Atom → Type 0) (f : Atom → Term) → ((a : Atom) → P a → AllAtoms Q (f a)) → (t : Term) → AllAtoms P t → AllAtoms Q (fill f t)
fill_plain P Q f h (index i) w = tt
fill_plain P Q f h (atom a) w = h a w
fill_plain P Q f h (abs b) w = fill_plain P Q (raise f) (λ a p. shift_plain Q 0 (f a) (h a p)) b w
fill_plain P Q f h (app t u) w = (fill_plain P Q f h t w.0, fill_plain P Q f h u w.1)

if_plain : (P : Atom → Type 0) (b : Bool) (t u : Term) → AllAtoms P t → AllAtoms P u → AllAtoms P (if b then t else u)
if_plain P true t u h k = h
if_plain P false t u h k = k

one_plain : (k : ℕ) (b : Binding) → IsPlainTerm k b.value → (a : Atom) → IsPlainAtom k a → IsPlainTerm k (at_variables (one b) a)
one_plain k b w (logic x l) q = if_plain (IsPlainAtom k) (nat_eq x b.id && nat_eq l b.level) b.value (atom (logic x l)) w tt
one_plain k b w (constant c ts) q = q
one_plain k b w (integer z) q = tt
one_plain k b w (text s) q = tt
one_plain k b w (eigen n) q = tt
one_plain k b w (param n T) q = q

pub put_plain : (k : ℕ) (b : Binding) → IsPlainTerm k b.value → (t : Term) → IsPlainTerm k t → IsPlainTerm k (put b t)
put_plain k b w t h = fill_plain (IsPlainAtom k) (IsPlainAtom k) (at_variables (one b)) (one_plain k b w) t h

put_heads : (b : Binding) (B : List Bool) (t : Term) → IsClauseHead B (head_of t) → IsClauseHead B (head_of (put b t))
put_heads b B (index i) w = w
put_heads b B (atom (constant c ts)) w = w
put_heads b B (atom (integer z)) w = absurd w
put_heads b B (atom (text s)) w = absurd w
put_heads b B (atom (eigen n)) w = w
put_heads b B (atom (logic x l)) w = absurd w
put_heads b B (atom (param n T)) w = absurd w
put_heads b B (abs c) w = absurd w
put_heads b B (app f a) w = put_heads b B f w

pub binding_keeps_plain : (k : ℕ) (b : Binding) → IsPlainTerm k b.value → KeepsPlain k (put b) same_type
binding_keeps_plain k b w = record { terms = put_plain k b w; types = λ T h. h; heads = put_heads b }

-- lists of bindings
abbrev pub ArePlainBindings : (k : ℕ) → List Binding → Type 0
ArePlainBindings k bs = EachOf (λ b. IsPlainTerm k b.value) bs

abbrev pub ArePlainTypes : (k : ℕ) → List TypeBinding → Type 0
ArePlainTypes k ts = EachOf (λ b. (b.id < k) × IsTypeBelow k b.value) ts

pub put_all_plain : (k : ℕ) (bs : List Binding) → ArePlainBindings k bs → (t : Term) → IsPlainTerm k t → IsPlainTerm k (put_all bs t)
put_all_plain k [] w t h = h
put_all_plain k (b ∷ bs) w t h = put_all_plain k bs w.1 (put b t) (put_plain k b w.0 t h)

one_below : (k : ℕ) (b : TypeBinding) → IsTypeBelow k b.value → (i : ℕ) → i < k → IsTypeBelow k (one_type b i)
one_below k b w i h = go (nat_eq i b.id)
  where
    go : (c : Bool) → IsTypeBelow k (if c then b.value else var i)
    go true = w
    go false = h

pub one_keeps_plain : (k : ℕ) (b : TypeBinding) → IsTypeBelow k b.value → KeepsPlain k (instance_term (one_type b)) (instance (one_type b))
one_keeps_plain k b w = types_keep_plain k (one_type b) (one_below k b w)

put_types_below : (k : ℕ) (ts : List TypeBinding) → ArePlainTypes k ts → (T : Ty) → IsTypeBelow k T → IsTypeBelow k (put_types ts T)
put_types_below k [] w T h = h
put_types_below k (b ∷ ts) w T h = put_types_below k ts w.1 (instance (one_type b) T) (type_below k (one_type b) (one_below k b w.0.1) T h)

pub types_of_below : (k : ℕ) (ts : List TypeBinding) → ArePlainTypes k ts → (i : ℕ) → i < k → IsTypeBelow k (types_of ts i)
types_of_below k ts w i h = put_types_below k ts w (var i) h

pub types_in_plain : (k : ℕ) (ts : List TypeBinding) → ArePlainTypes k ts → (t : Term) → IsPlainTerm k t → IsPlainTerm k (put_types_in ts t)
types_in_plain k [] w t h = h
types_in_plain k (b ∷ ts) w t h = types_in_plain k ts w.1 (put_type_in b t) (instance_plain k (one_type b) (one_below k b w.0.1) t h)

-- types that are cut off at k
abbrev pub cut_off : (k : ℕ) → (ℕ → Ty) → ℕ → Ty
cut_off k θ i = if nat_lt i k then θ i else o_type

pub cut_agrees : (k : ℕ) (θ : ℕ → Ty) (i : ℕ) → i < k → cut_off k θ i ≡ θ i
cut_agrees k θ i h = let e : nat_lt i k ≡ true = grind (arith, nat_tests, h) in ap (λ b. if b then θ i else o_type) e
