-- The bindings that solve type equations: each variable is bound once and is in no value and in no later binding, and all variables are those of the equations.
use Rattle.std.proofs.Common.{◌≡◌, ℕ, zero, suc, ◌+◌, List, [], ◌∷◌, ◌++◌, map, Option, Some, None, refl, sym, ap, ◌∙◌, subst as transport, Bool, true, false, nat_eq, if◌then◌else◌}
use Rattle.std.specs.Prelude.{nat_lt}
use Rattle.lp_calculus.specs.Types.{Ty, Tys, var, param, con, arrow, no_types, types, instance, instances}
use Rattle.lp_model.specs.Types.{TypePair, TypeBinding, one_type, put_type, put_types, put_in_pair, Visited, visit, visit_all, and_then, TypeVerdict, TypeRuled, differ, parts, bound, parts_of, bind_type, plainly, of_parts, type_rule, solved, solve_types}
use Rattle.lp_unify_laws.proofs.TypeTurns.{behind, definition_turn}

-- each variable of a type is among the given ones
abbrev mutual
  pub Over : (ℕ → Type 0) → Ty → Type 0
  Over P (var x) = P x
  Over P (param k) = Unit {0}
  Over P (con c ts) = Overs P ts
  Over P (arrow a b) = Over P a × Over P b

  pub Overs : (ℕ → Type 0) → Tys → Type 0
  Overs P no_types = Unit {0}
  Overs P (types t ts) = Over P t × Overs P ts

-- a variable is another one
abbrev pub Away : ℕ → ℕ → Type 0
Away x y = nat_eq y x ≡ false

mutual
  pub over_instance : (P Q : ℕ → Type 0) (θ : ℕ → Ty) → ((y : ℕ) → P y → Over Q (θ y)) → (t : Ty) → Over P t → Over Q (instance θ t)
  over_instance P Q θ f (var y) k = f y k
  over_instance P Q θ f (param j) k = tt
  over_instance P Q θ f (con c ts) k = overs_instance P Q θ f ts k
  over_instance P Q θ f (arrow a b) k = (over_instance P Q θ f a k.0, over_instance P Q θ f b k.1)

  overs_instance : (P Q : ℕ → Type 0) (θ : ℕ → Ty) → ((y : ℕ) → P y → Over Q (θ y)) → (ts : Tys) → Overs P ts → Overs Q (instances θ ts)
  overs_instance P Q θ f no_types k = tt
  overs_instance P Q θ f (types t ts) k = (over_instance P Q θ f t k.0, overs_instance P Q θ f ts k.1)

mutual
  pub same_instance : (P : ℕ → Type 0) (θ : ℕ → Ty) → ((y : ℕ) → P y → θ y ≡ var y) → (t : Ty) → Over P t → instance θ t ≡ t
  same_instance P θ f (var y) k = f y k
  same_instance P θ f (param j) k = refl
  same_instance P θ f (con c ts) k = ap (con c) (same_instances P θ f ts k)
  same_instance P θ f (arrow a b) k = λ i. arrow (same_instance P θ f a k.0 i) (same_instance P θ f b k.1 i)

  same_instances : (P : ℕ → Type 0) (θ : ℕ → Ty) → ((y : ℕ) → P y → θ y ≡ var y) → (ts : Tys) → Overs P ts → instances θ ts ≡ ts
  same_instances P θ f no_types k = refl
  same_instances P θ f (types t ts) k = λ i. types (same_instance P θ f t k.0 i) (same_instances P θ f ts k.1 i)

-- what leaves a type as it is leaves its variables
mutual
  pub over_same : (θ : ℕ → Ty) (t : Ty) → instance θ t ≡ t → Over (λ y. θ y ≡ var y) t
  over_same θ (var y) e = e
  over_same θ (param j) e = tt
  over_same θ (con c ts) e = let q : instances θ ts ≡ ts = cc in overs_same θ ts q
  over_same θ (arrow a b) e =
      let q : instance θ a ≡ a = cc in
      let r : instance θ b ≡ b = cc in
      (over_same θ a q, over_same θ b r)

  overs_same : (θ : ℕ → Ty) (ts : Tys) → instances θ ts ≡ ts → Overs (λ y. θ y ≡ var y) ts
  overs_same θ no_types e = tt
  overs_same θ (types t ts) e =
      let q : instance θ t ≡ t = cc in
      let r : instances θ ts ≡ ts = cc in
      (over_same θ t q, overs_same θ ts r)

mutual
  over_any : (P : ℕ → Type 0) → ((y : ℕ) → P y) → (t : Ty) → Over P t
  over_any P f (var y) = f y
  over_any P f (param j) = tt
  over_any P f (con c ts) = overs_any P f ts
  over_any P f (arrow a b) = (over_any P f a, over_any P f b)

  overs_any : (P : ℕ → Type 0) → ((y : ℕ) → P y) → (ts : Tys) → Overs P ts
  overs_any P f no_types = tt
  overs_any P f (types t ts) = (over_any P f t, overs_any P f ts)

-- a type put for a variable

one_over : (P : ℕ → Type 0) (b : TypeBinding) → Over P b.value → (y : ℕ) → (nat_eq y b.id ≡ false → P y) → Over P (one_type b y)
one_over P b v y k = go (nat_eq y b.id) refl
  where
    go : (f : Bool) → nat_eq y b.id ≡ f → Over P (if f then b.value else var y)
    go true e = v
    go false e = k e

one_away : (b : TypeBinding) (y : ℕ) → Away b.id y → one_type b y ≡ var y
one_away b y e = ap (λ f. if f then b.value else var y) e

put_over : (P : ℕ → Type 0) (b : TypeBinding) → Over P b.value → (t : Ty) → Over P t → Over P (put_type b t)
put_over P b v t k = over_instance P P (one_type b) (λ y h. one_over P b v y (λ e. h)) t k

put_away : (b : TypeBinding) → Over (Away b.id) b.value → (t : Ty) → Over (Away b.id) (put_type b t)
put_away b v t = over_instance (λ y. Unit {0}) (Away b.id) (one_type b) (λ y h. one_over (Away b.id) b v y (λ e. e)) t (over_any (λ y. Unit {0}) (λ y. tt) t)

put_apart : (b : TypeBinding) (t : Ty) → Over (Away b.id) t → put_type b t ≡ t
put_apart b t k = same_instance (Away b.id) (one_type b) (one_away b) t k

-- pairs and bindings

abbrev pub OverPairs : (ℕ → Type 0) → List TypePair → Type 0
OverPairs P [] = Unit {0}
OverPairs P (p ∷ ps) = Over P p.left × Over P p.right × OverPairs P ps

abbrev pub OverBinding : (ℕ → Type 0) → TypeBinding → Type 0
OverBinding P b = P b.id × Over P b.value

abbrev pub OverBindings : (ℕ → Type 0) → List TypeBinding → Type 0
OverBindings P [] = Unit {0}
OverBindings P (b ∷ bs) = OverBinding P b × OverBindings P bs

abbrev OverVerdict : (ℕ → Type 0) → TypeVerdict → Type 0
OverVerdict P differ = Unit {0}
OverVerdict P (parts qs) = OverPairs P qs
OverVerdict P (bound b) = OverBinding P b

pairs_append : (P : ℕ → Type 0) (ps qs : List TypePair) → OverPairs P ps → OverPairs P qs → OverPairs P (ps ++ qs)
pairs_append P [] qs k l = l
pairs_append P (p ∷ ps) qs k l = (k.0, k.1, pairs_append P ps qs k.2 l)

pairs_put : (P : ℕ → Type 0) (b : TypeBinding) (ps : List TypePair) → Over P b.value → OverPairs P ps → OverPairs P (map (put_in_pair b) ps)
pairs_put P b [] v k = tt
pairs_put P b (p ∷ ps) v k = (put_over P b v p.left k.0, put_over P b v p.right k.1, pairs_put P b ps v k.2)

pairs_away : (b : TypeBinding) (ps : List TypePair) → Over (Away b.id) b.value → OverPairs (Away b.id) (map (put_in_pair b) ps)
pairs_away b [] v = tt
pairs_away b (p ∷ ps) v = (put_away b v p.left, put_away b v p.right, pairs_away b ps v)

bindings_snoc : (P : ℕ → Type 0) (bs : List TypeBinding) (b : TypeBinding) → OverBindings P bs → OverBinding P b → OverBindings P (bs ++ b ∷ [])
bindings_snoc P [] b k l = (l, tt)
bindings_snoc P (a ∷ bs) b k l = (k.0, bindings_snoc P bs b k.1 l)

-- the rule for one pair

abbrev verdict_of : TypeRuled → TypeVerdict
verdict_of r = r.verdict

abbrev ruled_by : Bool → ℕ → Ty → ℕ → TypeRuled
ruled_by f x t u = if f then record { verdict = differ; units = u } else record { verdict = bound (record { id = x; value = t }); units = u }

bind_by : (P : ℕ → Type 0) (f : Bool) (x : ℕ) (t : Ty) (u : ℕ) → P x → Over P t → OverVerdict P (verdict_of (ruled_by f x t u))
bind_by P true x t u k l = tt
bind_by P false x t u k l = (k, l)

bind_over : (P : ℕ → Type 0) (x : ℕ) (t : Ty) → P x → Over P t → OverVerdict P (bind_type x t).verdict
bind_over P x t k l = bind_by P (visit x t).found x t (visit x t).units k l

abbrev OverParts : (ℕ → Type 0) → Option (List TypePair) → Type 0
OverParts P None = Unit {0}
OverParts P (Some qs) = OverPairs P qs

abbrev with_pair : Ty → Ty → Option (List TypePair) → Option (List TypePair)
with_pair t u o = elim o [ None ↦ None | Some ps ↦ Some (record { left = t; right = u } ∷ ps) ]

pair_over : (P : ℕ → Type 0) (t u : Ty) (o : Option (List TypePair)) → Over P t → Over P u → OverParts P o → OverParts P (with_pair t u o)
pair_over P t u None k l r = tt
pair_over P t u (Some qs) k l r = (k, l, r)

parts_over : (P : ℕ → Type 0) (ts us : Tys) → Overs P ts → Overs P us → OverParts P (parts_of ts us)
parts_over P no_types no_types k l = tt
parts_over P no_types (types u us) k l = tt
parts_over P (types t ts) no_types k l = tt
parts_over P (types t ts) (types u us) k l = pair_over P t u (parts_of ts us) k.0 l.0 (parts_over P ts us k.1 l.1)

of_parts_over : (P : ℕ → Type 0) (o : Option (List TypePair)) → OverParts P o → OverVerdict P (of_parts o).verdict
of_parts_over P None k = tt
of_parts_over P (Some qs) k = k

cons_over : (P : ℕ → Type 0) (f : Bool) (ts us : Tys) → Overs P ts → Overs P us → OverVerdict P (verdict_of (if f then of_parts (parts_of ts us) else plainly differ))
cons_over P true ts us k l = of_parts_over P (parts_of ts us) (parts_over P ts us k l)
cons_over P false ts us k l = tt

params_over : (P : ℕ → Type 0) (f : Bool) → OverVerdict P (verdict_of (if f then plainly (parts []) else plainly differ))
params_over P true = tt
params_over P false = tt

vars_over : (P : ℕ → Type 0) (f g : Bool) (i j : ℕ) → P i → P j → OverVerdict P (verdict_of (if f then plainly (parts []) else (if g then bind_type j (var i) else bind_type i (var j))))
vars_over P true g i j k l = tt
vars_over P false true i j k l = bind_over P j (var i) l k
vars_over P false false i j k l = bind_over P i (var j) k l

rule_over : (P : ℕ → Type 0) (t u : Ty) → Over P t → Over P u → OverVerdict P (type_rule t u).verdict
rule_over P (var i) (var j) k l = vars_over P (nat_eq i j) (nat_lt i j) i j k l
rule_over P (var i) (param m) k l = bind_over P i (param m) k l
rule_over P (var i) (con c ts) k l = bind_over P i (con c ts) k l
rule_over P (var i) (arrow a b) k l = bind_over P i (arrow a b) k l
rule_over P (param m) (var j) k l = bind_over P j (param m) l k
rule_over P (con c ts) (var j) k l = bind_over P j (con c ts) l k
rule_over P (arrow a b) (var j) k l = bind_over P j (arrow a b) l k
rule_over P (param m) (param n) k l = params_over P (nat_eq m n)
rule_over P (param m) (con c ts) k l = tt
rule_over P (param m) (arrow a b) k l = tt
rule_over P (con c ts) (param m) k l = tt
rule_over P (con c ts) (con d us) k l = cons_over P (nat_eq c d) ts us k l
rule_over P (con c ts) (arrow a b) k l = tt
rule_over P (arrow a b) (param m) k l = tt
rule_over P (arrow a b) (con d us) k l = tt
rule_over P (arrow a b) (arrow c d) k l = (k.0, l.0, (k.1, l.1, tt))

-- a variable that is bound is not in its value

abbrev found_in : Visited → Bool
found_in v = v.found

and_false : (v w : Visited) → found_in (and_then v w) ≡ false → (v.found ≡ false) × (w.found ≡ false)
and_false v w e = go v.found refl e
  where
    go : (f : Bool) → v.found ≡ f → found_in (if f then v else record { found = w.found; units = v.units + w.units }) ≡ false → (v.found ≡ false) × (w.found ≡ false)
    go true q r = absurd (cc)
    go false q r = (q, r)

mutual
  not_in : (x : ℕ) (t : Ty) → (visit x t).found ≡ false → Over (Away x) t
  not_in x (var i) e = e
  not_in x (param k) e = tt
  not_in x (con c ts) e = not_in_all x ts e
  not_in x (arrow a b) e = let w = and_false (visit x a) (visit x b) e in (not_in x a w.0, not_in x b w.1)

  not_in_all : (x : ℕ) (ts : Tys) → (visit_all x ts).found ≡ false → Overs (Away x) ts
  not_in_all x no_types e = tt
  not_in_all x (types t ts) e = let w = and_false (visit x t) (visit_all x ts) e in (not_in x t w.0, not_in_all x ts w.1)

abbrev Apart : TypeVerdict → Type 0
Apart differ = Unit {0}
Apart (parts qs) = Unit {0}
Apart (bound b) = Over (Away b.id) b.value

bind_apart : (x : ℕ) (t : Ty) → Apart (bind_type x t).verdict
bind_apart x t = go (visit x t).found refl
  where
    go : (f : Bool) → (visit x t).found ≡ f → Apart (verdict_of (ruled_by f x t (visit x t).units))
    go true e = tt
    go false e = not_in x t e

vars_apart : (f g : Bool) (i j : ℕ) → Apart (verdict_of (if f then plainly (parts []) else (if g then bind_type j (var i) else bind_type i (var j))))
vars_apart true g i j = tt
vars_apart false true i j = bind_apart j (var i)
vars_apart false false i j = bind_apart i (var j)

of_parts_apart : (o : Option (List TypePair)) → Apart (of_parts o).verdict
of_parts_apart None = tt
of_parts_apart (Some qs) = tt

cons_apart : (f : Bool) (ts us : Tys) → Apart (verdict_of (if f then of_parts (parts_of ts us) else plainly differ))
cons_apart true ts us = of_parts_apart (parts_of ts us)
cons_apart false ts us = tt

params_apart : (f : Bool) → Apart (verdict_of (if f then plainly (parts []) else plainly differ))
params_apart true = tt
params_apart false = tt

rule_apart : (t u : Ty) → Apart (type_rule t u).verdict
rule_apart (var i) (var j) = vars_apart (nat_eq i j) (nat_lt i j) i j
rule_apart (var i) (param m) = bind_apart i (param m)
rule_apart (var i) (con c ts) = bind_apart i (con c ts)
rule_apart (var i) (arrow a b) = bind_apart i (arrow a b)
rule_apart (param m) (var j) = bind_apart j (param m)
rule_apart (con c ts) (var j) = bind_apart j (con c ts)
rule_apart (arrow a b) (var j) = bind_apart j (arrow a b)
rule_apart (param m) (param n) = params_apart (nat_eq m n)
rule_apart (param m) (con c ts) = tt
rule_apart (param m) (arrow a b) = tt
rule_apart (con c ts) (param m) = tt
rule_apart (con c ts) (con d us) = cons_apart (nat_eq c d) ts us
rule_apart (con c ts) (arrow a b) = tt
rule_apart (arrow a b) (param m) = tt
rule_apart (arrow a b) (con d us) = tt
rule_apart (arrow a b) (arrow c d) = tt

-- the bindings of a run

some_bindings : (made bs : List TypeBinding) (u w : ℕ) → Some (solved made u) ≡ Some (solved bs w) → made ≡ bs
some_bindings made bs u w e = cc

-- all variables of the bindings are among those of the equations
pub solved_over : (P : ℕ → Type 0) (n : ℕ) (ps : List TypePair) (made : List TypeBinding) (u : ℕ) (bs : List TypeBinding) (w : ℕ) → solve_types n ps made u ≡ Some (solved bs w) → OverBindings P made → OverPairs P ps → OverBindings P bs
solved_over P zero ps made u bs w e k l = absurd (cc)
solved_over P (suc n) [] made u bs w e k l = transport (OverBindings P) (some_bindings made bs u w e) k
solved_over P (suc n) (p ∷ ps) made u bs w e k l =
    go (λ qs done v. solved_over P n qs done v bs w) (type_rule p.left p.right).verdict (sym (definition_turn n p ps made u) ∙ e) (rule_over P p.left p.right l.0 l.1)
  where
    next : ℕ
    next = suc u + (type_rule p.left p.right).units

    go : ((qs : List TypePair) (done : List TypeBinding) (v : ℕ) → solve_types n qs done v ≡ Some (solved bs w) → OverBindings P done → OverPairs P qs → OverBindings P bs) →
        (y : TypeVerdict) → behind n ps made next y ≡ Some (solved bs w) → OverVerdict P y → OverBindings P bs
    go ih differ f r = absurd (cc)
    go ih (parts qs) f r = ih (qs ++ ps) made next f k (pairs_append P qs ps r l.2)
    go ih (bound b) f r = ih (map (put_in_pair b) ps) (made ++ b ∷ []) next f (bindings_snoc P made b k r) (pairs_put P b ps r.1 l.2)

-- each variable is bound once, and is in no value and in no later binding
abbrev pub IsGood : List TypeBinding → Type 0
IsGood [] = Unit {0}
IsGood (b ∷ bs) = Over (Away b.id) b.value × OverBindings (Away b.id) bs × IsGood bs

-- no variable that was bound is in the pairs
abbrev Fresh : List TypeBinding → List TypePair → Type 0
Fresh [] ps = Unit {0}
Fresh (a ∷ bs) ps = OverPairs (Away a.id) ps × Fresh bs ps

abbrev FreshVerdict : List TypeBinding → TypeVerdict → Type 0
FreshVerdict [] y = Unit {0}
FreshVerdict (a ∷ bs) y = OverVerdict (Away a.id) y × FreshVerdict bs y

fresh_rule : (made : List TypeBinding) (p : TypePair) (ps : List TypePair) → Fresh made (p ∷ ps) → FreshVerdict made (type_rule p.left p.right).verdict
fresh_rule [] p ps k = tt
fresh_rule (a ∷ made) p ps k = (rule_over (Away a.id) p.left p.right k.0.0 k.0.1, fresh_rule made p ps k.1)

fresh_append : (made : List TypeBinding) (p : TypePair) (qs ps : List TypePair) → Fresh made (p ∷ ps) → FreshVerdict made (parts qs) → Fresh made (qs ++ ps)
fresh_append [] p qs ps k l = tt
fresh_append (a ∷ made) p qs ps k l = (pairs_append (Away a.id) qs ps l.0 k.0.2, fresh_append made p qs ps k.1 l.1)

fresh_put : (made : List TypeBinding) (b : TypeBinding) (p : TypePair) (ps : List TypePair) → Fresh made (p ∷ ps) → FreshVerdict made (bound b) → Over (Away b.id) b.value → Fresh (made ++ b ∷ []) (map (put_in_pair b) ps)
fresh_put [] b p ps k l v = (pairs_away b ps v, tt)
fresh_put (a ∷ made) b p ps k l v = (pairs_put (Away a.id) b ps l.0.1 k.0.2, fresh_put made b p ps k.1 l.1 v)

good_snoc : (made : List TypeBinding) (b : TypeBinding) → IsGood made → FreshVerdict made (bound b) → Over (Away b.id) b.value → IsGood (made ++ b ∷ [])
good_snoc [] b k l v = (v, tt, tt)
good_snoc (a ∷ made) b k l v = (k.0, bindings_snoc (Away a.id) made b k.1 l.0, good_snoc made b k.2 l.1 v)

pub solved_good : (n : ℕ) (ps : List TypePair) (made : List TypeBinding) (u : ℕ) (bs : List TypeBinding) (w : ℕ) → solve_types n ps made u ≡ Some (solved bs w) → IsGood made → Fresh made ps → IsGood bs
solved_good zero ps made u bs w e k l = absurd (cc)
solved_good (suc n) [] made u bs w e k l = transport IsGood (some_bindings made bs u w e) k
solved_good (suc n) (p ∷ ps) made u bs w e k l =
    go (λ qs done v. solved_good n qs done v bs w) (type_rule p.left p.right).verdict (sym (definition_turn n p ps made u) ∙ e) (fresh_rule made p ps l) (rule_apart p.left p.right)
  where
    next : ℕ
    next = suc u + (type_rule p.left p.right).units

    go : ((qs : List TypePair) (done : List TypeBinding) (v : ℕ) → solve_types n qs done v ≡ Some (solved bs w) → IsGood done → Fresh done qs → IsGood bs) →
        (y : TypeVerdict) → behind n ps made next y ≡ Some (solved bs w) → FreshVerdict made y → Apart y → IsGood bs
    go ih differ f r v = absurd (cc)
    go ih (parts qs) f r v = ih (qs ++ ps) made next f k (fresh_append made p qs ps l r)
    go ih (bound b) f r v = ih (map (put_in_pair b) ps) (made ++ b ∷ []) next f (good_snoc made b k r v) (fresh_put made b p ps l r v)

-- bindings put in

pub puts_over : (P : ℕ → Type 0) (bs : List TypeBinding) (t : Ty) → OverBindings P bs → Over P t → Over P (put_types bs t)
puts_over P [] t k l = l
puts_over P (b ∷ bs) t k l = puts_over P bs (put_type b t) k.1 (put_over P b k.0.1 t l)

-- a type has none of the variables that are bound
abbrev pub Clean : List TypeBinding → Ty → Type 0
Clean [] t = Unit {0}
Clean (b ∷ bs) t = Over (Away b.id) t × Clean bs t

pub puts_clean : (bs : List TypeBinding) → IsGood bs → (t : Ty) → Clean bs (put_types bs t)
puts_clean [] g t = tt
puts_clean (b ∷ bs) g t = (puts_over (Away b.id) bs (put_type b t) g.1 (put_away b g.0 t), puts_clean bs g.2 (put_type b t))

pub clean_same : (bs : List TypeBinding) (t : Ty) → Clean bs t → put_types bs t ≡ t
clean_same [] t k = refl
clean_same (b ∷ bs) t k = ap (put_types bs) (put_apart b t k.0) ∙ clean_same bs t k.1

pub puts_twice : (bs : List TypeBinding) → IsGood bs → (t : Ty) → put_types bs (put_types bs t) ≡ put_types bs t
puts_twice bs g t = clean_same bs (put_types bs t) (puts_clean bs g t)
