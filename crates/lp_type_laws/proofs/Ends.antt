-- Solving ends: a bound variable is gone for good, and else the types grow smaller.
use Rattle.std.proofs.Common.{◌≡◌, ◌≢◌, ℕ, zero, suc, ◌+◌, ◌<◌, ◌≤◌, List, [], ◌∷◌, ◌++◌, map, length, Option, Some, None, inl, inr, refl, sym, ap, ◌∙◌, subst, arith}
use Rattle.std.specs.Prelude.{nat_eq, nat_lt, if◌then◌else◌, Bool, true, false, ◌⊎◌}
use Rattle.std.proofs.lemmas.Bool.{eq-eqb, ne_eqb, cases_eq}
use Rattle.lp_calculus.specs.Types.{Ty, Tys, var, param, con, arrow, no_types, types, instance, instances}
use Rattle.lp_type_laws.specs.Equations.{Equation, equation, one, put_equation, occurs, occurs_in, size, sizes}
use Rattle.lp_type_laws.specs.Solving.{Look, nothing, parts, binds, clash, bind_to, look_vars, pairs, look_parts, look, unfinished, fails, solve}
use Rattle.lp_type_laws.proofs.Types.{one_same, one_other, some_size}
use Rattle.lp_type_laws.proofs.Solves.{Next}

-- the variables that are left

abbrev Member : ℕ → List ℕ → Type 0
Member x [] = ⊥
Member x (y ∷ L) = (x ≡ y) ⊎ Member x L

abbrev without : ℕ → List ℕ → List ℕ
without x [] = []
without x (y ∷ L) = if nat_eq y x then without x L else y ∷ without x L

without_same : (x y : ℕ) (L : List ℕ) → y ≡ x → without x (y ∷ L) ≡ without x L
without_same x y L e = ap (λ b. if b then without x L else y ∷ without x L) (eq-eqb y x e)

without_other : (x y : ℕ) (L : List ℕ) → y ≢ x → without x (y ∷ L) ≡ y ∷ without x L
without_other x y L ne = ap (λ b. if b then without x L else y ∷ without x L) (ne_eqb y x ne)

without_length : (x : ℕ) (L : List ℕ) → length (without x L) ≤ length L
without_length x [] = omega arith
without_length x (y ∷ L) = elim (cases_eq y x) [
  | inl e ↦ let l = without_length x L in let f : length (without x (y ∷ L)) ≡ length (without x L) = ap length (without_same x y L e) in omega arith
  | inr ne ↦ let l = without_length x L in let f : length (without x (y ∷ L)) ≡ suc (length (without x L)) = ap length (without_other x y L ne) in omega arith
]

without_fewer : (x : ℕ) (L : List ℕ) → Member x L → length (without x L) < length L
without_fewer x [] m = absurd m
without_fewer x (y ∷ L) m = elim (cases_eq y x) [
  | inl e ↦ let l = without_length x L in let f : length (without x (y ∷ L)) ≡ length (without x L) = ap length (without_same x y L e) in omega arith
  | inr ne ↦ elim m [
    | inl e ↦ absurd (ne (sym e))
    | inr k ↦ let l = without_fewer x L k in let f : length (without x (y ∷ L)) ≡ suc (length (without x L)) = ap length (without_other x y L ne) in omega arith
  ]
]

without_member : (x z : ℕ) (L : List ℕ) → Member z L → z ≢ x → Member z (without x L)
without_member x z [] m n = m
without_member x z (y ∷ L) m n = elim (cases_eq y x) [
  | inl e ↦ elim m [
    | inl f ↦ absurd (n (f ∙ e))
    | inr k ↦ subst (λ M. Member z M) (sym (without_same x y L e)) (without_member x z L k n)
  ]
  | inr ne ↦ subst (λ M. Member z M) (sym (without_other x y L ne)) (elim m [
    | inl f ↦ inl f
    | inr k ↦ inr (without_member x z L k n)
  ])
]

abbrev mutual
  Within : List ℕ → Ty → Type 0
  Within L (var x) = Member x L
  Within L (param k) = Unit {0}
  Within L (con c ts) = AllWithin L ts
  Within L (arrow a b) = Within L a × Within L b

  AllWithin : List ℕ → Tys → Type 0
  AllWithin L no_types = Unit {0}
  AllWithin L (types t ts) = Within L t × AllWithin L ts

abbrev pub AreWithin : List ℕ → List Equation → Type 0
AreWithin L [] = Unit {0}
AreWithin L (equation a b ∷ es) = Within L a × Within L b × AreWithin L es

within_append : (L : List ℕ) (ds es : List Equation) → AreWithin L ds → AreWithin L es → AreWithin L (ds ++ es)
within_append L [] es h k = k
within_append L (equation a b ∷ ds) es h k = (h.0, h.1, within_append L ds es h.2 k)

or_false : (a b : Bool) → (if a then true else b) ≡ false → (a ≡ false) × (b ≡ false)
or_false true b e = cc
or_false false b e = (refl, e)

mutual
  without_within : (x : ℕ) (L : List ℕ) (t : Ty) → occurs x t ≡ false → Within L t → Within (without x L) t
  without_within x L (var y) e h = without_member x y L h (λ f. let g : true ≡ false = sym (eq-eqb x y (sym f)) ∙ e in cc)
  without_within x L (param k) e h = tt
  without_within x L (con c ts) e h = without_all_within x L ts e h
  without_within x L (arrow a b) e h =
      let s = or_false (occurs x a) (occurs x b) e in
      (without_within x L a s.0 h.0, without_within x L b s.1 h.1)

  without_all_within : (x : ℕ) (L : List ℕ) (ts : Tys) → occurs_in x ts ≡ false → AllWithin L ts → AllWithin (without x L) ts
  without_all_within x L no_types e h = tt
  without_all_within x L (types t ts) e h =
      let s = or_false (occurs x t) (occurs_in x ts) e in
      (without_within x L t s.0 h.0, without_all_within x L ts s.1 h.1)

mutual
  one_within : (x : ℕ) (t : Ty) (L : List ℕ) → Within (without x L) t → (u : Ty) → Within L u → Within (without x L) (instance (one x t) u)
  one_within x t L h (var y) k = elim (cases_eq y x) [
    | inl e ↦ subst (λ v. Within (without x L) v) (sym (ap (one x t) e ∙ one_same x t)) h
    | inr ne ↦ subst (λ v. Within (without x L) v) (sym (one_other x y t ne)) (without_member x y L k ne)
  ]
  one_within x t L h (param j) k = tt
  one_within x t L h (con c us) k = one_all_within x t L h us k
  one_within x t L h (arrow a b) k = (one_within x t L h a k.0, one_within x t L h b k.1)

  one_all_within : (x : ℕ) (t : Ty) (L : List ℕ) → Within (without x L) t → (us : Tys) → AllWithin L us → AllWithin (without x L) (instances (one x t) us)
  one_all_within x t L h no_types k = tt
  one_all_within x t L h (types u us) k = (one_within x t L h u k.0, one_all_within x t L h us k.1)

put_within : (x : ℕ) (t : Ty) (L : List ℕ) → Within (without x L) t → (es : List Equation) → AreWithin L es → AreWithin (without x L) (map (put_equation (one x t)) es)
put_within x t L h [] k = tt
put_within x t L h (equation a b ∷ es) k = (one_within x t L h a k.0, one_within x t L h b k.1, put_within x t L h es k.2)

-- the nodes of all equations
abbrev pub weight : List Equation → ℕ
weight [] = 0
weight (equation a b ∷ es) = (size a + size b) + weight es

weight_append : (ds es : List Equation) → weight (ds ++ es) ≡ weight ds + weight es
weight_append [] es = omega arith
weight_append (equation a b ∷ ds) es = let e = weight_append ds es in omega arith

-- what an equation turns out to be is smaller, or binds one of the variables
abbrev Smaller : List ℕ → Ty → Ty → Look → Type 0
Smaller L a b nothing = Unit {0}
Smaller L a b (parts es) = (weight es < size a + size b) × AreWithin L es
Smaller L a b (binds x t) = Member x L × Within (without x L) t
Smaller L a b clash = Unit {0}

bound_smaller : (L : List ℕ) (a b : Ty) (x : ℕ) (t : Ty) → Member x L → Within L t → Smaller L a b (bind_to x t)
bound_smaller L a b x t m h = go (occurs x t) refl
  where
    go : (s : Bool) → occurs x t ≡ s → Smaller L a b (if s then clash else binds x t)
    go true e = tt
    go false e = (m, without_within x L t e h)

vars_smaller : (L : List ℕ) (x y : ℕ) → Member x L → Member y L → Smaller L (var x) (var y) (look_vars x y)
vars_smaller L x y h k = elim (cases_eq x y) [
  | inl e ↦ subst (λ l. Smaller L (var x) (var y) l) (sym (ap (λ b. if b then nothing else (if nat_lt x y then binds y (var x) else binds x (var y))) (eq-eqb x y e))) tt
  | inr ne ↦ subst (λ l. Smaller L (var x) (var y) l) (sym (ap (λ b. if b then nothing else (if nat_lt x y then binds y (var x) else binds x (var y))) (ne_eqb x y ne))) (go (nat_lt x y) ne)
]
  where
    go : (s : Bool) → x ≢ y → Smaller L (var x) (var y) (if s then binds y (var x) else binds x (var y))
    go true ne = (k, without_member y x L h ne)
    go false ne = (h, without_member x y L k (λ e. ne (sym e)))

abbrev SmallParts : List ℕ → Tys → Tys → Option (List Equation) → Type 0
SmallParts L ts us None = Unit {0}
SmallParts L ts us (Some es) = (weight es ≤ sizes ts + sizes us) × AreWithin L es

pairs_smaller : (L : List ℕ) (ts us : Tys) → AllWithin L ts → AllWithin L us → SmallParts L ts us (pairs ts us)
pairs_smaller L no_types no_types h k = (omega arith, tt)
pairs_smaller L no_types (types u us) h k = tt
pairs_smaller L (types t ts) no_types h k = tt
pairs_smaller L (types t ts) (types u us) h k = go (pairs ts us) (pairs_smaller L ts us h.1 k.1)
  where
    go : (o : Option (List Equation)) → SmallParts L ts us o → SmallParts L (types t ts) (types u us) (elim o [ None ↦ None | Some es ↦ Some (equation t u ∷ es) ])
    go None s = tt
    go (Some es) s = let l = s.0 in (omega arith, (h.0, k.0, s.1))

con_smaller : (L : List ℕ) (c d : ℕ) (ts us : Tys) → AllWithin L ts → AllWithin L us → (s : Bool) → Smaller L (con c ts) (con d us) (if s then look_parts (pairs ts us) else clash)
con_smaller L c d ts us h k false = tt
con_smaller L c d ts us h k true = go (pairs ts us) (pairs_smaller L ts us h k)
  where
    go : (o : Option (List Equation)) → SmallParts L ts us o → Smaller L (con c ts) (con d us) (look_parts o)
    go None s = tt
    go (Some es) s = let l = s.0 in (omega arith, s.1)

param_smaller : (L : List ℕ) (k l : ℕ) (s : Bool) → Smaller L (param k) (param l) (if s then nothing else clash)
param_smaller L k l true = tt
param_smaller L k l false = tt

look_smaller : (L : List ℕ) (a b : Ty) → Within L a → Within L b → Smaller L a b (look a b)
look_smaller L (var x) (var y) h k = vars_smaller L x y h k
look_smaller L (var x) (param l) h k = bound_smaller L (var x) (param l) x (param l) h k
look_smaller L (var x) (con c ts) h k = bound_smaller L (var x) (con c ts) x (con c ts) h k
look_smaller L (var x) (arrow a b) h k = bound_smaller L (var x) (arrow a b) x (arrow a b) h k
look_smaller L (param l) (var y) h k = bound_smaller L (param l) (var y) y (param l) k h
look_smaller L (con c ts) (var y) h k = bound_smaller L (con c ts) (var y) y (con c ts) k h
look_smaller L (arrow a b) (var y) h k = bound_smaller L (arrow a b) (var y) y (arrow a b) k h
look_smaller L (param l) (param m) h k = param_smaller L l m (nat_eq l m)
look_smaller L (con c ts) (con d us) h k = con_smaller L c d ts us h k (nat_eq c d)
look_smaller L (arrow a b) (arrow c d) h k = (omega arith, (h.0, k.0, (h.1, k.1, tt)))
look_smaller L (param k) (con d us) h l = tt
look_smaller L (param k) (arrow c d) h l = tt
look_smaller L (con c ts) (param l) h k = tt
look_smaller L (con c ts) (arrow a b) h k = tt
look_smaller L (arrow a b) (param l) h k = tt
look_smaller L (arrow a b) (con d us) h k = tt

-- at its end after so many steps
record Ends (es : List Equation) (θ : ℕ → Ty) : Type 0 where
  steps : ℕ
  ends : solve steps es θ ≢ unfinished

-- one equation taken
ends_next : (L : List ℕ) (a b : Ty) (es : List Equation) (θ : ℕ → Ty) →
    AreWithin L es → (l : Look) → Smaller L a b l → look a b ≡ l →
    ((fs : List Equation) → AreWithin L fs → weight fs < (size a + size b) + weight es → Ends fs θ) →
    ((M : List ℕ) (fs : List Equation) (ι : ℕ → Ty) → length M < length L → AreWithin M fs → Ends fs ι) →
    Ends (equation a b ∷ es) θ
ends_next L a b es θ w nothing s e smaller fewer =
    let p = some_size a in
    let E = smaller es w (omega arith) in
    record { steps = suc E.steps; ends = λ f. E.ends (sym (ap (Next E.steps es θ) e) ∙ f) }
ends_next L a b es θ w (parts ps) s e smaller fewer =
    let g = weight_append ps es in let l = s.0 in
    let E = smaller (ps ++ es) (within_append L ps es s.1 w) (omega arith) in
    record { steps = suc E.steps; ends = λ f. E.ends (sym (ap (Next E.steps es θ) e) ∙ f) }
ends_next L a b es θ w (binds x t) s e smaller fewer =
    let E = fewer (without x L) (map (put_equation (one x t)) es) (λ i. instance (one x t) (θ i)) (without_fewer x L s.0) (put_within x t L s.1 es w) in
    record { steps = suc E.steps; ends = λ f. E.ends (sym (ap (Next E.steps es θ) e) ∙ f) }
ends_next L a b es θ w clash s e smaller fewer =
    record { steps = 1; ends = λ f. let g : fails ≡ unfinished = sym (ap (Next zero es θ) e) ∙ f in cc }

-- as many variables and nodes as v and m allow
ends_in : (v : ℕ) → ((M : List ℕ) (fs : List Equation) (ι : ℕ → Ty) → length M < v → AreWithin M fs → Ends fs ι) →
    (m : ℕ) (L : List ℕ) (es : List Equation) (θ : ℕ → Ty) → length L ≡ v → weight es < m → AreWithin L es → Ends es θ
ends_in v fewer zero L es θ l h w = absurd (omega arith)
ends_in v fewer (suc m) L [] θ l h w = record { steps = 0; ends = λ f. cc }
ends_in v fewer (suc m) L (equation a b ∷ es) θ l h w =
    ends_next L a b es θ w.2 (look a b) (look_smaller L a b w.0 w.1) refl
    (λ fs k n. ends_in v fewer m L fs θ l (omega arith) k)
    (λ M fs ι n k. fewer M fs ι (omega arith) k)

ends_with : (v : ℕ) (L : List ℕ) (es : List Equation) (θ : ℕ → Ty) → length L < v → AreWithin L es → Ends es θ
ends_with zero L es θ l w = absurd (omega arith)
ends_with (suc v) L es θ l w =
    ends_in (length L) (λ M fs ι n k. ends_with v M fs ι (omega arith) k) (suc (weight es)) L es θ refl (omega arith) w

-- the variables of equations

abbrev mutual
  vars : Ty → List ℕ
  vars (var x) = x ∷ []
  vars (param k) = []
  vars (con c ts) = all_vars ts
  vars (arrow a b) = vars a ++ vars b

  all_vars : Tys → List ℕ
  all_vars no_types = []
  all_vars (types t ts) = vars t ++ all_vars ts

member_front : (x : ℕ) (L M : List ℕ) → Member x L → Member x (L ++ M)
member_front x [] M m = absurd m
member_front x (y ∷ L) M m = elim m [ inl e ↦ inl e | inr k ↦ inr (member_front x L M k) ]

member_back : (x : ℕ) (L M : List ℕ) → Member x M → Member x (L ++ M)
member_back x [] M m = m
member_back x (y ∷ L) M m = inr (member_back x L M m)

-- every variable of one list is in the other
abbrev Covers : List ℕ → List ℕ → Type 0
Covers L M = (x : ℕ) → Member x L → Member x M

mutual
  vars_within : (M : List ℕ) (t : Ty) → Covers (vars t) M → Within M t
  vars_within M (var x) c = c x (inl refl)
  vars_within M (param k) c = tt
  vars_within M (con d ts) c = all_vars_within M ts c
  vars_within M (arrow a b) c = (vars_within M a (λ x h. c x (member_front x (vars a) (vars b) h)), vars_within M b (λ x h. c x (member_back x (vars a) (vars b) h)))

  all_vars_within : (M : List ℕ) (ts : Tys) → Covers (all_vars ts) M → AllWithin M ts
  all_vars_within M no_types c = tt
  all_vars_within M (types t ts) c = (vars_within M t (λ x h. c x (member_front x (vars t) (all_vars ts) h)), all_vars_within M ts (λ x h. c x (member_back x (vars t) (all_vars ts) h)))

abbrev vars_of : List Equation → List ℕ
vars_of [] = []
vars_of (equation a b ∷ es) = vars a ++ (vars b ++ vars_of es)

are_within : (M : List ℕ) (es : List Equation) → Covers (vars_of es) M → AreWithin M es
are_within M [] c = tt
are_within M (equation a b ∷ es) c =
    let rest = vars b ++ vars_of es in (
      vars_within M a (λ x h. c x (member_front x (vars a) rest h)),
      vars_within M b (λ x h. c x (member_back x (vars a) rest (member_front x (vars b) (vars_of es) h))),
      are_within M es (λ x h. c x (member_back x (vars a) rest (member_back x (vars b) (vars_of es) h))),
    )

-- for all equations there are steps enough
pub solve_ends : (es : List Equation) (θ : ℕ → Ty) → (n : ℕ) × (solve n es θ ≢ unfinished)
solve_ends es θ =
    let E = ends_with (suc (length (vars_of es))) (vars_of es) es θ (omega arith) (are_within (vars_of es) es (λ x h. h)) in
    (E.steps, E.ends)
