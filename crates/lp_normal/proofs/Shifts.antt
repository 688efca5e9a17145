-- The goals of a raised formula are the raised goals, and so are its clauses.
use Rattle.std.proofs.Common.{◌≡◌, ℕ, suc, ◌+◌, ◌≤◌, List, [], ◌∷◌, ◌++◌, map, refl, sym, ap, ◌∙◌, subst, arith}
use Rattle.std.specs.Prelude.{Bool, true, false, nat_eq, nat_lt, if◌then◌else◌}
use Rattle.std.proofs.lemmas.Bool.Decides.{nat_tests}
use Rattle.std.proofs.lemmas.List.{map-append}
use mathlib.Core.Path.{fun_ext}
use Rattle.lp_calculus.specs.Types.{Ty}
use Rattle.lp_calculus.specs.Term.{Term, index, atom, abs, app, constant, integer, text, eigen, logic, param, raised, shift}
use Rattle.lp_calculus.proofs.Sigma.{rename, rename-rename}
use Rattle.lp_calculus.proofs.Plain.{bump, shift-rename, shift-suc}
use Rattle.lp_calculus.proofs.BetaEta.{shift_one}
use Rattle.lp_calculus.specs.Spine.{head_of, arguments_and}
use Rattle.lp_standard.specs.Connectives.{body_of, Connective, connective_of_constant, connective_at, connective_of}
use Rattle.lp_standard.specs.Connectives as connective
use Rattle.lp_model.specs.Flat.{Goal, Atomic, Cut, Either, Exists, Forall, Assume, Not, Goals, no_goals, goals, Clause, clause, Clauses, no_clauses, clauses, add_clauses, under_all, map_goal, map_clause, same_type, raise_goals, Written, map_written}
use Rattle.lp_normal.specs.Flats.{IsFlatGoal, truth, cutting, both, one_of, implies, every, exist, negated, plain, IsFlatList, no_more, one_more, IsFlatClause, both_clauses, implied, for_every, head}
use Rattle.lp_normal.proofs.Written.{raise_clauses, map_same, same_written, goals_written, clauses_written}

-- two shifts, the one inside the other

bump_bump : (j k by i : ℕ) → j ≤ k → bump by (suc k) (bump 1 j i) ≡ bump 1 j (bump by k i)
bump_bump j k by i h = grind (arith, nat_tests)

pub shift_shift : (j k by : ℕ) (t : Term) → j ≤ k → shift (suc k) by (shift j 1 t) ≡ shift j 1 (shift k by t)
shift_shift j k by t h =
    shift-rename (suc k) by (shift j 1 t) ∙ ap (rename (bump by (suc k))) (shift-rename j 1 t) ∙ rename-rename (bump 1 j) (bump by (suc k)) t ∙
    ap (λ ρ. rename ρ t) (fun_ext (λ i. bump_bump j k by i h)) ∙
    sym (shift-rename j 1 (shift k by t) ∙ ap (rename (bump 1 j)) (shift-rename k by t) ∙ rename-rename (bump by k) (bump 1 j) t)

pub shift_more : (n : ℕ) (t : Term) → shift 0 (suc n) t ≡ shift 0 1 (shift 0 n t)
shift_more n t = shift-suc n t ∙ sym (shift_one (shift 0 n t))

-- the connective of a raised formula

abbrev pub shifted : (k by : ℕ) → Connective → Connective
shifted k by connective.True = connective.True
shifted k by connective.Cut = connective.Cut
shifted k by (connective.And a b) = connective.And (shift k by a) (shift k by b)
shifted k by (connective.Or a b) = connective.Or (shift k by a) (shift k by b)
shifted k by (connective.Implies c g) = connective.Implies (shift k by c) (shift k by g)
shifted k by (connective.ForAll T b) = connective.ForAll T (shift (suc k) by b)
shifted k by (connective.Exists T b) = connective.Exists T (shift (suc k) by b)
shifted k by (connective.Not g) = connective.Not (shift k by g)
shifted k by connective.Atomic = connective.Atomic

shift_if : (k by : ℕ) (c : Bool) (x y : Connective) → shifted k by (if c then x else y) ≡ (if c then shifted k by x else shifted k by y)
shift_if k by true x y = refl
shift_if k by false x y = refl

if_same : {x y u v : Connective} (c : Bool) → x ≡ u → y ≡ v → (if c then x else y) ≡ (if c then u else v)
if_same true e f = e
if_same false e f = f

body_raised : (k by i : ℕ) → body_of (raised by k i) ≡ app (shift 0 1 (raised by k i)) (index 0)
body_raised k by i = go (nat_lt i k)
  where
    go : (c : Bool) → body_of (if c then index i else index (i + by)) ≡ app (shift 0 1 (if c then index i else index (i + by))) (index 0)
    go true = refl
    go false = refl

zero_stays : (k by : ℕ) → index 0 ≡ raised by (suc k) 0
zero_stays k by = grind (arith, nat_tests)

under_body : (k by : ℕ) (t : Term) → app (shift 0 1 (shift k by t)) (index 0) ≡ shift (suc k) by (app (shift 0 1 t) (index 0))
under_body k by t = ap (λ z. app z (index 0)) (sym (shift_shift 0 k by t (omega arith))) ∙ ap (app (shift (suc k) by (shift 0 1 t))) (zero_stays k by)

pub body_shift : (k by : ℕ) (t : Term) → body_of (shift k by t) ≡ shift (suc k) by (body_of t)
body_shift k by (abs b) = refl
body_shift k by (index i) = body_raised k by i ∙ under_body k by (index i)
body_shift k by (atom a) = ap (app (atom a)) (zero_stays k by)
body_shift k by (app t u) = under_body k by (app t u)

form_constant : (k by c : ℕ) (ts : List Ty) (us : List Term) → connective_of_constant c ts (map (shift k by) us) ≡ shifted k by (connective_of_constant c ts us)
form_constant k by c ts [] =
    sym (shift_if k by (nat_eq c 6) connective.True (if nat_eq c 7 then connective.Cut else connective.Atomic) ∙ if_same (nat_eq c 6) refl (shift_if k by (nat_eq c 7) connective.Cut connective.Atomic))
form_constant k by c (T ∷ []) (a ∷ []) =
    if_same (nat_eq c 4) (ap (connective.ForAll T) (body_shift k by a)) (if_same (nat_eq c 5) (ap (connective.Exists T) (body_shift k by a)) refl ∙ sym (shift_if k by (nat_eq c 5) (connective.Exists T (body_of a)) connective.Atomic)) ∙
    sym (shift_if k by (nat_eq c 4) (connective.ForAll T (body_of a)) (if nat_eq c 5 then connective.Exists T (body_of a) else connective.Atomic))
form_constant k by c [] (a ∷ b ∷ []) =
    sym (shift_if k by (nat_eq c 0) (connective.And a b) (if nat_eq c 1 then connective.Or a b else (if nat_eq c 2 then connective.Implies a b else (if nat_eq c 3 then connective.Implies b a else connective.Atomic))) ∙
    if_same (nat_eq c 0) refl (shift_if k by (nat_eq c 1) (connective.Or a b) (if nat_eq c 2 then connective.Implies a b else (if nat_eq c 3 then connective.Implies b a else connective.Atomic)) ∙
    if_same (nat_eq c 1) refl (shift_if k by (nat_eq c 2) (connective.Implies a b) (if nat_eq c 3 then connective.Implies b a else connective.Atomic) ∙
    if_same (nat_eq c 2) refl (shift_if k by (nat_eq c 3) (connective.Implies b a) connective.Atomic))))
form_constant k by c [] (a ∷ []) = sym (shift_if k by (nat_eq c 24) (connective.Not a) connective.Atomic)
form_constant k by c (T ∷ U ∷ ts) (a ∷ []) = refl
form_constant k by c (T ∷ []) (a ∷ b ∷ []) = refl
form_constant k by c (T ∷ U ∷ ts) (a ∷ b ∷ []) = refl
form_constant k by c [] (a ∷ b ∷ x ∷ us) = refl
form_constant k by c (T ∷ []) (a ∷ b ∷ x ∷ us) = refl
form_constant k by c (T ∷ U ∷ ts) (a ∷ b ∷ x ∷ us) = refl

index_form : (k by i : ℕ) (us : List Term) → connective_at (head_of (raised by k i)) (arguments_and (raised by k i) us) ≡ connective.Atomic
index_form k by i us = go (nat_lt i k)
  where
    go : (c : Bool) → connective_at (head_of (if c then index i else index (i + by))) (arguments_and (if c then index i else index (i + by)) us) ≡ connective.Atomic
    go true = refl
    go false = refl

form_spine : (k by : ℕ) (t : Term) (us : List Term) → connective_at (head_of (shift k by t)) (arguments_and (shift k by t) (map (shift k by) us)) ≡ shifted k by (connective_at (head_of t) (arguments_and t us))
form_spine k by (index i) us = index_form k by i (map (shift k by) us)
form_spine k by (atom (constant c ts)) us = form_constant k by c ts us
form_spine k by (atom (integer z)) us = refl
form_spine k by (atom (text s)) us = refl
form_spine k by (atom (eigen x)) us = refl
form_spine k by (atom (logic x l)) us = refl
form_spine k by (atom (param x T)) us = refl
form_spine k by (abs b) us = refl
form_spine k by (app t u) us = form_spine k by t (u ∷ us)

pub form_shift : (k by : ℕ) (t : Term) → connective_of (shift k by t) ≡ shifted k by (connective_of t)
form_shift k by t = form_spine k by t []

pub form_shifted : (k by : ℕ) (t : Term) (f : Connective) → connective_of t ≡ f → connective_of (shift k by t) ≡ shifted k by f
form_shifted k by t f e = form_shift k by t ∙ ap (shifted k by) e

-- goals raised twice

under_suc : (vs : List Ty) (k : ℕ) → under_all suc vs (suc k) ≡ suc (under_all suc vs k)
under_suc [] k = refl
under_suc (v ∷ vs) k = ap suc (under_suc vs k)

under_le : (vs : List Ty) (j k : ℕ) → j ≤ k → under_all suc vs j ≤ under_all suc vs k
under_le [] j k h = h
under_le (v ∷ vs) j k h = omega (arith, under_le vs j k h)

same_either : {A B X Y : Goals} → A ≡ X → B ≡ Y → Either A B ≡ Either X Y
same_either {A} {B} {X} {Y} e f = ap (λ z. Either z B) e ∙ ap (Either X) f

same_assume : {v w : Written} {A X : Clauses} {B Y : Goals} → v ≡ w → A ≡ X → B ≡ Y → Assume v A B ≡ Assume w X Y
same_assume {v} {w} {A} {X} {B} {Y} d e f = ap (λ z. Assume z A B) d ∙ ap (λ z. Assume w z B) e ∙ ap (Assume w X) f

same_not : {v w : Written} {A X : Goals} → v ≡ w → A ≡ X → Not v A ≡ Not w X
same_not {v} {w} {A} {X} d e = ap (λ z. Not z A) d ∙ ap (Not w) e

same_goals : {A X : Goal} {B Y : Goals} → A ≡ X → B ≡ Y → goals A B ≡ goals X Y
same_goals {A} {X} {B} {Y} e f = ap (λ z. goals z B) e ∙ ap (goals X) f

same_clauses : {A X : Clause} {B Y : Clauses} → A ≡ X → B ≡ Y → clauses A B ≡ clauses X Y
same_clauses {A} {X} {B} {Y} e f = ap (λ z. clauses z B) e ∙ ap (clauses X) f

same_clause : (n : ℕ) {us vs : List Ty} {h i : Term} {a b : Goals} → us ≡ vs → h ≡ i → a ≡ b → clause n us h a ≡ clause n vs i b
same_clause n {us} {vs} {h} {i} {a} {b} e f g = ap (λ z. clause n z h a) e ∙ ap (λ z. clause n vs z a) f ∙ ap (clause n vs i) g

map_shifts : (j k : ℕ) (ts : List Term) → j ≤ k → map (λ t. shift (suc k) 1 t) (map (λ t. shift j 1 t) ts) ≡ map (λ t. shift j 1 t) (map (λ t. shift k 1 t) ts)
map_shifts j k [] h = refl
map_shifts j k (t ∷ ts) h =
    ap (λ z. z ∷ map (λ u. shift (suc k) 1 u) (map (λ u. shift j 1 u) ts)) (shift_shift j k 1 t h) ∙ ap (λ z. shift j 1 (shift k 1 t) ∷ z) (map_shifts j k ts h)

written_twice : (j k : ℕ) (w : Written) → j ≤ k → map_written (λ t. shift (suc k) 1 t) same_type (map_written (λ t. shift j 1 t) same_type w) ≡ map_written (λ t. shift j 1 t) same_type (map_written (λ t. shift k 1 t) same_type w)
written_twice j k w h = same_written (map_shifts j k w.terms h) refl

mutual
  goal_twice : (j k : ℕ) (g : Goal) → j ≤ k → map_goal suc (λ d t. shift d 1 t) same_type (suc k) (map_goal suc (λ d t. shift d 1 t) same_type j g) ≡ map_goal suc (λ d t. shift d 1 t) same_type j (map_goal suc (λ d t. shift d 1 t) same_type k g)
  goal_twice j k (Atomic t) h = ap Atomic (shift_shift j k 1 t h)
  goal_twice j k Cut h = refl
  goal_twice j k (Either gs hs) h = same_either (goals_twice j k gs h) (goals_twice j k hs h)
  goal_twice j k (Exists T gs) h = ap (Exists T) (goals_twice (suc j) (suc k) gs (omega arith))
  goal_twice j k (Forall T gs) h = ap (Forall T) (goals_twice (suc j) (suc k) gs (omega arith))
  goal_twice j k (Assume w cs gs) h = same_assume (written_twice j k w h) (clauses_twice j k cs h) (goals_twice j k gs h)
  goal_twice j k (Not w gs) h = same_not (written_twice j k w h) (goals_twice j k gs h)

  pub goals_twice : (j k : ℕ) (gs : Goals) → j ≤ k → raise_goals (suc k) (raise_goals j gs) ≡ raise_goals j (raise_goals k gs)
  goals_twice j k no_goals h = refl
  goals_twice j k (goals g gs) h = same_goals (goal_twice j k g h) (goals_twice j k gs h)

  clause_twice : (j k : ℕ) (c : Clause) → j ≤ k → map_clause suc (λ d t. shift d 1 t) same_type (suc k) (map_clause suc (λ d t. shift d 1 t) same_type j c) ≡ map_clause suc (λ d t. shift d 1 t) same_type j (map_clause suc (λ d t. shift d 1 t) same_type k c)
  clause_twice j k (clause n vs t b) h =
      let m = map_same vs in
      let l = under_le vs j k h in
      let up : under_all suc (map same_type vs) (suc k) ≡ suc (under_all suc vs k) = ap (λ z. under_all suc z (suc k)) m ∙ under_suc vs k in
      let down : under_all suc (map same_type vs) j ≡ under_all suc vs j = ap (λ z. under_all suc z j) m in
      same_clause n refl
      (ap (λ z. shift z 1 (shift (under_all suc vs j) 1 t)) up ∙ shift_shift (under_all suc vs j) (under_all suc vs k) 1 t l ∙ sym (ap (λ z. shift z 1 (shift (under_all suc vs k) 1 t)) down))
      (ap (λ z. raise_goals z (raise_goals (under_all suc vs j) b)) up ∙ goals_twice (under_all suc vs j) (under_all suc vs k) b l ∙ sym (ap (λ z. raise_goals z (raise_goals (under_all suc vs k) b)) down))

  clauses_twice : (j k : ℕ) (cs : Clauses) → j ≤ k → raise_clauses (suc k) (raise_clauses j cs) ≡ raise_clauses j (raise_clauses k cs)
  clauses_twice j k no_clauses h = refl
  clauses_twice j k (clauses c cs) h = same_clauses (clause_twice j k c h) (clauses_twice j k cs h)

-- what was derived, raised

raise_added : (k : ℕ) (cs ds : Clauses) → raise_clauses k (add_clauses cs ds) ≡ add_clauses (raise_clauses k cs) (raise_clauses k ds)
raise_added k no_clauses ds = refl
raise_added k (clauses c cs) ds = ap (clauses (map_clause suc (λ d t. shift d 1 t) same_type k c)) (raise_added k cs ds)

mutual
  pub goal_raised : (k : ℕ) (t : Term) (rest gs : Goals) → IsFlatGoal t rest gs → IsFlatGoal (shift k 1 t) (raise_goals k rest) (raise_goals k gs)
  goal_raised k t rest gs (truth f e) = truth (form_shifted k 1 t connective.True f) (ap (raise_goals k) e)
  goal_raised k t rest gs (cutting f e) = cutting (form_shifted k 1 t connective.Cut f) (ap (raise_goals k) e)
  goal_raised k t rest gs (both a b m f p q) =
      both (shift k 1 a) (shift k 1 b) (raise_goals k m) (form_shifted k 1 t (connective.And a b) f) (goal_raised k b rest m p) (goal_raised k a m gs q)
  goal_raised k t rest gs (one_of a b l r f p q e) =
      one_of (shift k 1 a) (shift k 1 b) (raise_goals k l) (raise_goals k r) (form_shifted k 1 t (connective.Or a b) f) (goal_raised k a no_goals l p) (goal_raised k b no_goals r q) (ap (raise_goals k) e)
  goal_raised k t rest gs (implies c g cs hs f p q e) =
      implies (shift k 1 c) (shift k 1 g) (raise_clauses k cs) (raise_goals k hs) (form_shifted k 1 t (connective.Implies c g) f) (clause_raised k c [] [] cs p) (goal_raised k g no_goals hs q)
      (ap (raise_goals k) e ∙ ap (λ w. goals (Assume w (raise_clauses k cs) (raise_goals k hs)) (raise_goals k rest)) (clauses_written k cs))
  goal_raised k t rest gs (every T b hs f p e) =
      every T (shift (suc k) 1 b) (raise_goals (suc k) hs) (form_shifted k 1 t (connective.ForAll T b) f) (goal_raised (suc k) b no_goals hs p) (ap (raise_goals k) e)
  goal_raised k t rest gs (exist T b hs f p e) =
      exist T (shift (suc k) 1 b) (raise_goals (suc k) hs) (form_shifted k 1 t (connective.Exists T b) f)
      (subst (λ z. IsFlatGoal (shift (suc k) 1 b) z (raise_goals (suc k) hs)) (goals_twice 0 k rest (omega arith)) (goal_raised (suc k) b (raise_goals 0 rest) hs p)) (ap (raise_goals k) e)
  goal_raised k t rest gs (negated g hs f p e) =
      negated (shift k 1 g) (raise_goals k hs) (form_shifted k 1 t (connective.Not g) f) (goal_raised k g no_goals hs p)
      (ap (raise_goals k) e ∙ ap (λ w. goals (Not w (raise_goals k hs)) (raise_goals k rest)) (goals_written k hs))
  goal_raised k t rest gs (plain f e) = plain (form_shifted k 1 t connective.Atomic f) (ap (raise_goals k) e)

  list_raised : (k : ℕ) (ts : List Term) (gs : Goals) → IsFlatList ts gs → IsFlatList (map (shift k 1) ts) (raise_goals k gs)
  list_raised k ts gs (no_more e f) = no_more (ap (map (shift k 1)) e) (ap (raise_goals k) f)
  list_raised k ts gs (one_more t us rest e p q) =
      one_more (shift k 1 t) (map (shift k 1) us) (raise_goals k rest) (ap (map (shift k 1)) e) (list_raised k us rest p) (goal_raised k t rest gs q)

  clause_raised : (k : ℕ) (t : Term) (vars : List Ty) (body : List Term) (cs : Clauses) → IsFlatClause t vars body cs → IsFlatClause (shift (under_all suc vars k) 1 t) vars (map (shift (under_all suc vars k) 1) body) (raise_clauses k cs)
  clause_raised k t vars body cs (both_clauses a b l r f p q e) =
      let u = under_all suc vars k in
      both_clauses (shift u 1 a) (shift u 1 b) (raise_clauses k l) (raise_clauses k r) (form_shifted u 1 t (connective.And a b) f) (clause_raised k a vars body l p) (clause_raised k b vars body r q)
      (ap (raise_clauses k) e ∙ raise_added k l r)
  clause_raised k t vars body cs (implied g c f p) =
      let u = under_all suc vars k in
      implied (shift u 1 g) (shift u 1 c) (form_shifted u 1 t (connective.Implies g c) f)
      (subst (λ z. IsFlatClause (shift u 1 c) vars z (raise_clauses k cs)) (map-append (shift u 1) body (g ∷ [])) (clause_raised k c vars (body ++ g ∷ []) cs p))
  clause_raised k t vars body cs (for_every T b f p) =
      let u = under_all suc vars k in
      for_every T (shift (suc u) 1 b) (form_shifted u 1 t (connective.ForAll T b) f)
      (subst (λ z. IsFlatClause (shift (suc u) 1 b) (T ∷ vars) z (raise_clauses k cs)) (map_shifts 0 u body (omega arith)) (clause_raised k b (T ∷ vars) (map (shift 0 1) body) cs p))
  clause_raised k t vars body cs (head gs f p e) =
      let u = under_all suc vars k in
      head (raise_goals u gs) (form_shifted u 1 t connective.Atomic f) (list_raised u body gs p)
      (ap (raise_clauses k) e ∙ ap (λ z. clauses (clause 0 z (shift u 1 t) (raise_goals u gs)) no_clauses) (map_same vars))
