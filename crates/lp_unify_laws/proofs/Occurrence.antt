-- A typed closing solves no pair in which a variable stands, on a pattern, below a rigid head in what it is to be.
use Rattle.std.proofs.Common.{◌≡◌, ℕ, suc, ◌<◌, ◌≤◌, List, [], ◌∷◌, ◌++◌, ◌∙◌, refl, sym, ap, subst as transport, arith, Bool, true, false, nat_eq, if◌then◌else◌, Some}
use Rattle.std.specs.Prelude.{nat_lt, ◌&&◌}
use Rattle.std.proofs.lemmas.Bool.Decides.{nat_tests}
use Rattle.lp_calculus.specs.Types.{Ty, arrow}
use Rattle.lp_calculus.specs.Term.{Term, index, atom, abs, app, apply, Atom, substitute, constant, integer, text, eigen, logic, param}
use Rattle.lp_calculus.specs.Convert.{Converts, same, ReducesTo, here, by_beta}
use Rattle.lp_calculus.specs.Fill.{Within, at_variables, close}
use Rattle.lp_model.specs.Patterns.{eigens}
use Rattle.lp_model.specs.Look.{are_above}
use Rattle.lp_unify_laws.specs.Levels.{IsClosing, IsLevelAtom}
use Rattle.lp_model.specs.Scan.{Side, pattern, pattern_term}
use Rattle.lp_calculus.proofs.Fills.{fill_same, fill_none, within_more, within_fill}
use Rattle.lp_calculus.proofs.Steps.{converts_on, converts_sym, converts_is, converts_app, converts_fill, converts_reduces, within_reduces}
use Rattle.lp_unify_laws.proofs.Abstractions.{Not, close_pattern}
use Rattle.lp_unify_laws.proofs.Plainly.{close_rigid}
use Rattle.lp_calculus.proofs.Rigid.{IsRigid, rigid_head, heads_joint}
use Rattle.lp_unify_laws.proofs.Closings.{WithinAll, within_apply, close_all, close_apply, closed_more}
use Rattle.lp_unify_laws.proofs.Scans.{Seen, open_converts, open_seen}
use Rattle.lp_unify_laws.proofs.Breaks.{Occurs, OccursAny, occurs_here, occurs_under, occurs_in, occurs_first, occurs_later}
use Rattle.lp_unify_laws.proofs.Typed.{HasTotal, some_is, Sized, sized_arrow, sized_base, size_same, sized_like, renamed, renamed_all, renamed_apply, PathTo, PathAny, path_here, path_under, path_in, path_first, path_later, path_like, path_below, long_sized, typed_long}
use Rattle.lp_calculus.proofs.Subject.{typed_reduces, typed_step}

-- the type of one eigenconstant given anew
abbrev typed_at : (Atom → Ty) → ℕ → Ty → Atom → Ty
typed_at τ c A (eigen j) = if nat_eq j c then A else τ (eigen j)
typed_at τ c A (logic x l) = τ (logic x l)
typed_at τ c A (constant d ts) = τ (constant d ts)
typed_at τ c A (integer z) = τ (integer z)
typed_at τ c A (text s) = τ (text s)
typed_at τ c A (param k t) = τ (param k t)

-- eigenconstants above l as parameters of their types
abbrev lowered : ℕ → (Atom → Ty) → Atom → Atom
lowered l τ (eigen j) = if nat_lt l j then param 0 (τ (eigen j)) else eigen j
lowered l τ (logic x m) = logic x m
lowered l τ (constant d ts) = constant d ts
lowered l τ (integer z) = integer z
lowered l τ (text s) = text s
lowered l τ (param k t) = param k t

typed_at_self : (τ : Atom → Ty) (c : ℕ) (A : Ty) → typed_at τ c A (eigen c) ≡ A
typed_at_self τ c A = let q : nat_eq c c ≡ true = grind (arith, nat_tests) in ap (λ b. if b then A else τ (eigen c)) q

typed_at_other : (τ : Atom → Ty) (c : ℕ) (A : Ty) (a : Atom) → Not c a → typed_at τ c A a ≡ τ a
typed_at_other τ c A (eigen j) n = let q : nat_eq j c ≡ false = grind (arith, nat_tests) in ap (λ b. if b then A else τ (eigen j)) q
typed_at_other τ c A (logic x l) n = refl
typed_at_other τ c A (constant d ts) n = refl
typed_at_other τ c A (integer z) n = refl
typed_at_other τ c A (text s) n = refl
typed_at_other τ c A (param k t) n = refl

-- typing looks at the atoms that are there
typed_same : (P : Atom → Type 0) (τ κ : Atom → Ty) → ((a : Atom) → P a → τ a ≡ κ a) → (d : ℕ) (C : List Ty) (t : Term) (T : Ty) → Within P d t → HasTotal τ C t T → HasTotal κ C t T
typed_same P τ κ h d C (index i) T w e = e
typed_same P τ κ h d C (atom a) T w e = ap (λ z. Some z) (sym (h a w)) ∙ e
typed_same P τ κ h d C (abs b) T w e = (e.0, e.1, e.2, typed_same P τ κ h (suc d) (e.0 ∷ C) b e.1 w e.3)
typed_same P τ κ h d C (app t u) T w e = (e.0, typed_same P τ κ h d C t (arrow e.0 T) w.0 e.1, typed_same P τ κ h d C u e.0 w.1 e.2)

-- a head on arguments
abbrev Spine : (Atom → Ty) → Ty → List Term → Ty → Type 0
Spine τ F [] T = F ≡ T
Spine τ F (t ∷ ts) T = (A : Ty) × (B : Ty) × (F ≡ arrow A B) × HasTotal τ [] t A × Spine τ B ts T

spine_of : (τ : Atom → Ty) (ts : List Term) (h : Term) (T : Ty) → HasTotal τ [] (apply h ts) T → (F : Ty) × HasTotal τ [] h F × Spine τ F ts T
spine_of τ [] h T w = (T, w, refl)
spine_of τ (t ∷ ts) h T w =
    let r = spine_of τ ts (app h t) T w in
    let k = r.1 in
    (arrow k.0 r.0, k.1, (k.0, r.0, refl, k.2, r.2))

abbrev arrows : List Ty → Ty → Ty
arrows [] T = T
arrows (A ∷ As) T = arrow A (arrows As T)

abbrev news : List Ty → List Term
news [] = []
news (A ∷ As) = atom (param 0 A) ∷ news As

abbrev types_of : (Atom → Ty) → List ℕ → List Ty
types_of τ [] = []
types_of τ (j ∷ b) = τ (eigen j) ∷ types_of τ b

spine_arrows : (τ : Atom → Ty) (b : List ℕ) (F T : Ty) → Spine τ F (eigens b) T → F ≡ arrows (types_of τ b) T
spine_arrows τ [] F T e = e
spine_arrows τ (j ∷ b) F T (e) = e.2 ∙ (λ i. arrow (sym (some_is e.3) i) (spine_arrows τ b e.1 T e.4 i))

sized_news : (κ : Atom → Ty) (As : List Ty) (T : Ty) (u : Term) (n : ℕ) → Sized κ (arrows As T) u n → Sized κ T (apply u (news As)) n
sized_news κ [] T u n h = h
sized_news κ (A ∷ As) T u n (sized_arrow h) = sized_news κ As T (app u (atom (param 0 A))) n h
sized_news κ (A ∷ As) T u n (sized_base b a ts c m e all) = absurd b

-- strictly below a head
data Strict (κ : Atom → Ty) (p : Term) (U : Ty) : Ty → Term → Type 0 where
  strict_under : {A B : Ty} {t : Term} → Strict κ p U B (app t (atom (param 0 A))) → Strict κ p U (arrow A B) t
  strict_in : {T : Ty} {t : Term} → (a : Atom) → (ts : List Term) → Converts t (apply (atom a) ts) → PathAny κ p U (κ a) ts → Strict κ p U T t

strict_like : (κ : Atom → Ty) (p : Term) (U : Ty) {T : Ty} {t : Term} → Strict κ p U T t → (u : Term) → Converts u t → Strict κ p U T u
strict_like κ p U (strict_under {A = A} g) u d = strict_under (strict_like κ p U g (app u (atom (param 0 A))) (converts_app d (same (atom (param 0 A)))))
strict_like κ p U (strict_in a ts c g) u d = strict_in a ts (converts_on d c) g

strict_smaller : (κ : Atom → Ty) (p : Term) (U : Ty) {T : Ty} {t : Term} {n : ℕ} → Sized κ T t n → Strict κ p U T t → (m : ℕ) × Sized κ U p m × (m < n)
strict_smaller κ p U (sized_arrow h) (strict_under g) = strict_smaller κ p U h g
strict_smaller κ p U (sized_base b a ts c m e all) (strict_under g) = absurd b
strict_smaller κ p U (sized_arrow h) (strict_in a ts c g) = path_below κ p U (sized_arrow h) a ts c g
strict_smaller κ p U (sized_base b a' ts' d m e all) (strict_in a ts c g) = path_below κ p U (sized_base b a' ts' d m e all) a ts c g

-- a closing in a place
seen_closed : (next p k : ℕ) (σ : ℕ → ℕ → Term) → IsClosing σ → p ≤ k → (a : Atom) → Seen next p k a → Within (IsLevelAtom k) 0 (at_variables σ a)
seen_closed next p k σ c h (eigen j) w = w
seen_closed next p k σ c h (logic x l) w = let i : l ≤ p = w.1 in let q : l ≤ k = omega arith in within_more (IsLevelAtom l) (IsLevelAtom k) 0 0 (closed_more l k q) (omega arith) (σ x l) (c.closed x l)
seen_closed next p k σ c h (constant d ts) w = tt
seen_closed next p k σ c h (integer z) w = tt
seen_closed next p k σ c h (text s) w = tt
seen_closed next p k σ c h (param j t) w = tt

seen_not : (next p k : ℕ) (a : Atom) → Seen next p k a → Not (suc k) a
seen_not next p k (eigen j) h = λ e. omega arith
seen_not next p k (logic x l) h = tt
seen_not next p k (constant c ts) h = tt
seen_not next p k (integer z) h = tt
seen_not next p k (text t) h = tt
seen_not next p k (param i t) h = tt

closed_lowered : (l k : ℕ) (τ : Atom → Ty) (A : Ty) (a : Atom) → IsLevelAtom k a → atom (lowered l (typed_at τ (suc k) A) a) ≡ atom (lowered l τ a)
closed_lowered l k τ A (eigen j) p =
    let i : j ≤ k = p in
    let n : j ≡ suc k → ⊥ = (λ e. omega arith) in
    ap (λ T. atom (if nat_lt l j then param 0 T else eigen j)) (typed_at_other τ (suc k) A (eigen j) n)
closed_lowered l k τ A (logic x m) p = refl
closed_lowered l k τ A (constant c ts) p = refl
closed_lowered l k τ A (integer z) p = refl
closed_lowered l k τ A (text s) p = refl
closed_lowered l k τ A (param j t) p = refl

low_same : (l : ℕ) (τ : Atom → Ty) (a : Atom) → IsLevelAtom l a → atom (lowered l τ a) ≡ atom a
low_same l τ (eigen j) p = let i : j ≤ l = p in let q : nat_lt l j ≡ false = grind (arith, nat_tests) in ap (λ b. atom (if b then param 0 (τ (eigen j)) else eigen j)) q
low_same l τ (logic x m) p = refl
low_same l τ (constant c ts) p = refl
low_same l τ (integer z) p = refl
low_same l τ (text s) p = refl
low_same l τ (param j t) p = refl

high_eigen : (l : ℕ) (τ : Atom → Ty) (j : ℕ) → l < j → lowered l τ (eigen j) ≡ param 0 (τ (eigen j))
high_eigen l τ j h = let q : nat_lt l j ≡ true = grind (arith, nat_tests) in ap (λ b. if b then param 0 (τ (eigen j)) else eigen j) q

-- the typing of the lowered terms
abbrev Fits : ℕ → (Atom → Ty) → (Atom → Ty) → Type 0
Fits l κ τ = (a : Atom) → κ (lowered l τ a) ≡ τ a

fits_more : (l c : ℕ) (κ τ : Atom → Ty) (A : Ty) → ((k : ℕ) (B : Ty) → κ (param k B) ≡ B) → l < c → Fits l κ τ → Fits l κ (typed_at τ c A)
fits_more l c κ τ A p h f (eigen j) = by_test (nat_eq j c) refl
  where
    by_test : (b : Bool) → nat_eq j c ≡ b → κ (if nat_lt l j then param 0 (if b then A else τ (eigen j)) else eigen j) ≡ (if b then A else τ (eigen j))
    by_test true e = let i : j ≡ c = grind (arith, nat_tests) in let q : nat_lt l j ≡ true = grind (arith, nat_tests) in ap (λ b. κ (if b then param 0 A else eigen j)) q ∙ p 0 A
    by_test false e = f (eigen j)
fits_more l c κ τ A p h f (logic x m) = f (logic x m)
fits_more l c κ τ A p h f (constant d ts) = f (constant d ts)
fits_more l c κ τ A p h f (integer z) = f (integer z)
fits_more l c κ τ A p h f (text s) = f (text s)
fits_more l c κ τ A p h f (param k t) = f (param k t)

-- the variable on new parameters
eigens_lowered : (l : ℕ) (τ : Atom → Ty) (b : List ℕ) (h : Term) → are_above l b ≡ true → renamed (lowered l τ) (apply h (eigens b)) ≡ apply (renamed (lowered l τ) h) (news (types_of τ b))
eigens_lowered l τ [] h a = refl
eigens_lowered l τ (j ∷ b) h a = elim (nat_lt l j) as (λ z. nat_lt l j ≡ z → (z && are_above l b) ≡ true → renamed (lowered l τ) (apply h (eigens (j ∷ b))) ≡ apply (renamed (lowered l τ) h) (news (types_of τ (j ∷ b)))) [
  | true ↦ λ e r.
      let i : l < j = grind (arith, nat_tests) in
      eigens_lowered l τ b (app h (atom (eigen j))) r ∙ ap (λ z. apply (app (renamed (lowered l τ) h) (atom z)) (news (types_of τ b))) (high_eigen l τ j i)
  | false ↦ λ e r. absurd (cc)
] refl a

pub record Found (κ : Atom → Ty) (V : Ty) (u : Term) (T : Ty) (t : Term) : Type 0 where
  pub arguments : List Ty
  pub result : Ty
  pub is : V ≡ arrows arguments result
  pub path : PathTo κ (apply u (news arguments)) result T t

pub record FoundAny (κ : Atom → Ty) (V : Ty) (u : Term) (F : Ty) (ts : List Term) : Type 0 where
  pub arguments : List Ty
  pub result : Ty
  pub is : V ≡ arrows arguments result
  pub path : PathAny κ (apply u (news arguments)) result F ts

-- a closed term with its eigenconstants above the variable's level as parameters
abbrev put_low : Side → (ℕ → ℕ → Term) → (Atom → Ty) → Term → Term
put_low s σ τ t = renamed (lowered s.level τ) (close σ t)

abbrev all_low : Side → (ℕ → ℕ → Term) → (Atom → Ty) → List Term → List Term
all_low s σ τ ts = renamed_all (lowered s.level τ) (close_all σ ts)

own_low : (s : Side) (σ : ℕ → ℕ → Term) → IsClosing σ → (τ : Atom → Ty) (b : List ℕ) → are_above s.level b ≡ true → put_low s σ τ (pattern_term (pattern s.id s.level b)) ≡ apply (σ s.id s.level) (news (types_of τ b))
own_low s σ c τ b a =
    ap (renamed (lowered s.level τ)) (close_pattern σ (atom (logic s.id s.level)) b) ∙ eigens_lowered s.level τ b (σ s.id s.level) a ∙
    ap (λ z. apply z (news (types_of τ b))) (fill_none (IsLevelAtom s.level) (λ x. atom (lowered s.level τ x)) (low_same s.level τ) 0 (σ s.id s.level) (c.closed s.id s.level))

own_type : (s : Side) (τ : Atom → Ty) (b : List ℕ) (T : Ty) → HasTotal τ [] (pattern_term (pattern s.id s.level b)) T → τ (logic s.id s.level) ≡ arrows (types_of τ b) T
own_type s τ b T w = let r = spine_of τ (eigens b) (atom (logic s.id s.level)) T w in some_is r.1 ∙ spine_arrows τ b r.0 T r.2

low_converts : (s : Side) (σ : ℕ → ℕ → Term) (τ : Atom → Ty) {t u : Term} → Converts t u → Converts (put_low s σ τ t) (put_low s σ τ u)
low_converts s σ τ c = converts_fill (λ x. atom (lowered s.level τ x)) (converts_fill (at_variables σ) c)

-- an abstraction, opened
record Opened (s : Side) (σ : ℕ → ℕ → Term) (next k : ℕ) (κ τ : Atom → Ty) (t b : Term) (T : Ty) : Type 0 where
  from : Ty
  to : Ty
  is : T ≡ arrow from to
  types : Fits s.level κ (typed_at τ (suc k) from)
  typed : HasTotal (typed_at τ (suc k) from) [] (substitute (atom (eigen (suc k))) b) to
  within : Within (Seen next s.pair (suc k)) 0 (substitute (atom (eigen (suc k))) b)
  converts : Converts (app (put_low s σ τ t) (atom (param 0 from))) (put_low s σ (typed_at τ (suc k) from) (substitute (atom (eigen (suc k))) b))

opened_low : (s : Side) (σ : ℕ → ℕ → Term) → IsClosing σ → (next k : ℕ) (κ : Atom → Ty) → ((j : ℕ) (B : Ty) → κ (param j B) ≡ B) → s.level ≤ s.pair →
    s.pair ≤ k → (τ : Atom → Ty) → Fits s.level κ τ → (t b : Term) (T : Ty) → Within (Seen next s.pair k) 0 t → HasTotal τ [] t T → ReducesTo t
    (abs b) → Opened s σ next k κ τ t b T
opened_low s σ c next k κ p low high τ f t b T w ty r =
    let c' = suc k in
    let i = typed_reduces (λ a. Some (τ a)) [] r T ty in
    let A = i.0 in
    let τ' = typed_at τ c' A in
    let v = within_reduces (Seen next s.pair k) 0 r w in
    let same_types : HasTotal τ' [] (abs b) (arrow A i.1) = typed_same (Seen next s.pair k) τ τ' (λ a q. sym (typed_at_other τ c' A a (seen_not next s.pair k a q))) 0 [] (abs b) (arrow A i.1) v (A, i.1, refl, i.3) in
    let closed : Within (IsLevelAtom k) 0 (close σ t) = within_fill (Seen next s.pair k) (IsLevelAtom k) (at_variables σ) 0 (seen_closed next s.pair k σ c high) t w in
    let old : renamed (lowered s.level τ') (close σ t) ≡ put_low s σ τ t = fill_same (IsLevelAtom k) (λ x. atom (lowered s.level τ' x)) (λ x. atom (lowered s.level τ x)) (closed_lowered s.level k τ A) 0 (close σ t) closed in
    let above : s.level < c' = omega arith in
    let new : lowered s.level τ' (eigen c') ≡ param 0 A = high_eigen s.level τ' c' above ∙ ap (param 0) (typed_at_self τ c' A) in
    record {
      from = A;
      to = i.1;
      is = i.2;
      types = fits_more s.level c' κ τ A p above f;
      typed = typed_step (λ a. Some (τ' a)) [] (here (by_beta b (atom (eigen c')))) i.1 (A, same_types, ap (λ z. Some z) (typed_at_self τ c' A));
      within = open_seen next s.pair k b v;
      converts = converts_on (converts_is (λ j. app (sym old j) (atom (sym new j)))) (low_converts s σ τ' (open_converts c' t b r));
    }

low_apply : (s : Side) (σ : ℕ → ℕ → Term) (τ : Atom → Ty) (a : Atom) (ts : List Term) → IsRigid (atom a) → put_low s σ τ (apply (atom a) ts) ≡ apply (atom (lowered s.level τ a)) (all_low s σ τ ts)
low_apply s σ τ a ts r =
    ap (renamed (lowered s.level τ)) (close_apply σ ts (atom a) ∙ ap (λ z. apply z (close_all σ ts)) (close_rigid σ (atom a) r)) ∙
    renamed_apply (lowered s.level τ) (atom a) (close_all σ ts)

mutual
  occ : (s : Side) (σ : ℕ → ℕ → Term) → IsClosing σ → (next : ℕ) (κ : Atom → Ty) → ((j : ℕ) (B : Ty) → κ (param j B) ≡ B) → s.level ≤ s.pair → {k : ℕ}
      {t : Term} → Occurs s k t → s.pair ≤ k → (τ : Atom → Ty) → Fits s.level κ τ → (T : Ty) → Within (Seen next s.pair k) 0 t → HasTotal τ [] t T →
      Found κ (κ (logic s.id s.level)) (σ s.id s.level) T (put_low s σ τ t)
  occ s σ c next κ p low (occurs_here {t = t} b r d a) high τ f T w ty = record {
    arguments = types_of τ b;
    result = T;
    is = f (logic s.id s.level) ∙ own_type s τ b T (typed_reduces (λ a. Some (τ a)) [] r T ty);
    path = path_here refl (converts_on (low_converts s σ τ (converts_reduces r)) (converts_is (own_low s σ c τ b a)));
  }
  occ s σ c next κ p low (occurs_under {k = k} {t = t} b r d) high τ f T w ty =
      let o = opened_low s σ c next k κ p low high τ f t b T w ty r in
      let i = occ s σ c next κ p low d (omega arith) (typed_at τ (suc k) o.from) o.types o.to o.within o.typed in
      record {
        arguments = i.arguments;
        result = i.result;
        is = i.is;
        path = transport (λ z. PathTo κ (apply (σ s.id s.level) (news i.arguments)) i.result z (put_low s σ τ t)) (sym o.is)
            (path_under (path_like κ (apply (σ s.id s.level) (news i.arguments)) i.result i.path (app (put_low s σ τ t) (atom (param 0 o.from))) o.converts));
      }
  occ s σ c next κ p low (occurs_in {k = k} {t = t} (atom a) ts r g d) high τ f T w ty =
      let i = spine_of τ ts (atom a) T (typed_reduces (λ a. Some (τ a)) [] r T ty) in
      let q = occ_any s σ c next κ p low d high τ f i.0 T (within_apply (Seen next s.pair k) ts (atom a) (within_reduces (Seen next s.pair k) 0 r w)).1 i.2 in
      record {
        arguments = q.arguments;
        result = q.result;
        is = q.is;
        path = path_in (lowered s.level τ a) (all_low s σ τ ts) (converts_on (low_converts s σ τ (converts_reduces r)) (converts_is (low_apply s σ τ a ts g)))
            (transport (λ z. PathAny κ (apply (σ s.id s.level) (news q.arguments)) q.result z (all_low s σ τ ts)) (sym (f a ∙ some_is i.1)) q.path);
      }
  occ s σ c next κ p low (occurs_in (index i) ts r g d) high τ f T w ty = let k = spine_of τ ts (index i) T (typed_reduces (λ a. Some (τ a)) [] r T ty) in let e = k.1 in absurd (cc)
  occ s σ c next κ p low (occurs_in (abs b) ts r g d) high τ f T w ty = absurd g
  occ s σ c next κ p low (occurs_in (app h u) ts r g d) high τ f T w ty = absurd g

  occ_any : (s : Side) (σ : ℕ → ℕ → Term) → IsClosing σ → (next : ℕ) (κ : Atom → Ty) → ((j : ℕ) (B : Ty) → κ (param j B) ≡ B) → s.level ≤ s.pair →
      {k : ℕ} {ts : List Term} → OccursAny s k ts → s.pair ≤ k → (τ : Atom → Ty) → Fits s.level κ τ → (F T : Ty) → WithinAll (Seen next s.pair k) ts →
      Spine τ F ts T → FoundAny κ (κ (logic s.id s.level)) (σ s.id s.level) F (all_low s σ τ ts)
  occ_any s σ c next κ p low (occurs_first {t = t} {ts = ts} d) high τ f F T w y =
      let i = occ s σ c next κ p low d high τ f y.0 w.0 y.3 in
      record { arguments = i.arguments; result = i.result; is = i.is; path = transport (λ z. PathAny κ (apply (σ s.id s.level) (news i.arguments)) i.result z (all_low s σ τ (t ∷ ts))) (sym y.2) (path_first {ts = all_low s σ τ ts} i.path) }
  occ_any s σ c next κ p low (occurs_later {t = t} {ts = ts} d) high τ f F T w y =
      let i = occ_any s σ c next κ p low d high τ f y.1 T w.1 y.4 in
      record { arguments = i.arguments; result = i.result; is = i.is; path = transport (λ z. PathAny κ (apply (σ s.id s.level) (news i.arguments)) i.result z (all_low s σ τ (t ∷ ts))) (sym y.2) (path_later {t = put_low s σ τ t} i.path) }

record FoundStrict (κ : Atom → Ty) (V : Ty) (u : Term) (T : Ty) (t : Term) : Type 0 where
  arguments : List Ty
  result : Ty
  is : V ≡ arrows arguments result
  path : Strict κ (apply u (news arguments)) result T t

apply_last : (h : Term) (ts : List Term) (u : Term) → app (apply h ts) u ≡ apply h (ts ++ u ∷ [])
apply_last h [] u = refl
apply_last h (t ∷ ts) u = apply_last (app h t) ts u

rigid_variable : (h : Term) (y m : ℕ) → IsRigid h → atom (logic y m) ≡ h → ⊥
rigid_variable h y m r e = transport IsRigid (sym e) r

occ_strict : (s : Side) (σ : ℕ → ℕ → Term) → IsClosing σ → (next : ℕ) (κ : Atom → Ty) → ((j : ℕ) (B : Ty) → κ (param j B) ≡ B) → s.level ≤ s.pair →
    (h : Term) → IsRigid h → {k : ℕ} {t : Term} → Occurs s k t → (hs : List Term) → Converts t (apply h hs) → s.pair ≤ k → (τ : Atom → Ty) → Fits
    s.level κ τ → (T : Ty) → Within (Seen next s.pair k) 0 t → HasTotal τ [] t T → FoundStrict κ (κ (logic s.id s.level)) (σ s.id s.level) T
    (put_low s σ τ t)
occ_strict s σ c next κ p low h rh (occurs_here {t = t} b r d a) hs e high τ f T w ty =
    absurd (rigid_variable h s.id s.level rh (heads_joint (atom (logic s.id s.level)) h (eigens b) hs tt (rigid_head h rh) (converts_on (converts_sym (converts_reduces r)) e)).heads)
occ_strict s σ c next κ p low h rh (occurs_under {k = k} {t = t} b r d) hs e high τ f T w ty =
    let o = opened_low s σ c next k κ p low high τ f t b T w ty r in
    let x = atom (eigen (suc k)) in
    let e' : Converts (substitute x b) (apply h (hs ++ x ∷ [])) = converts_on (converts_sym (open_converts (suc k) t b r)) (converts_on (converts_app e (same x)) (converts_is (apply_last h hs x))) in
    let i = occ_strict s σ c next κ p low h rh d (hs ++ x ∷ []) e' (omega arith) (typed_at τ (suc k) o.from) o.types o.to o.within o.typed in
    record {
      arguments = i.arguments;
      result = i.result;
      is = i.is;
      path = transport (λ z. Strict κ (apply (σ s.id s.level) (news i.arguments)) i.result z (put_low s σ τ t)) (sym o.is)
          (strict_under (strict_like κ (apply (σ s.id s.level) (news i.arguments)) i.result i.path (app (put_low s σ τ t) (atom (param 0 o.from))) o.converts));
    }
occ_strict s σ c next κ p low h rh (occurs_in {k = k} {t = t} (atom a) ts r g d) hs e high τ f T w ty =
    let i = spine_of τ ts (atom a) T (typed_reduces (λ a. Some (τ a)) [] r T ty) in
    let q = occ_any s σ c next κ p low d high τ f i.0 T (within_apply (Seen next s.pair k) ts (atom a) (within_reduces (Seen next s.pair k) 0 r w)).1 i.2 in
    record {
      arguments = q.arguments;
      result = q.result;
      is = q.is;
      path = strict_in (lowered s.level τ a) (all_low s σ τ ts) (converts_on (low_converts s σ τ (converts_reduces r)) (converts_is (low_apply s σ τ a ts g)))
          (transport (λ z. PathAny κ (apply (σ s.id s.level) (news q.arguments)) q.result z (all_low s σ τ ts)) (sym (f a ∙ some_is i.1)) q.path);
    }
occ_strict s σ c next κ p low h rh (occurs_in (index i) ts r g d) hs e high τ f T w ty = let k = spine_of τ ts (index i) T (typed_reduces (λ a. Some (τ a)) [] r T ty) in let z = k.1 in absurd (cc)
occ_strict s σ c next κ p low h rh (occurs_in (abs b) ts r g d) hs e high τ f T w ty = absurd g
occ_strict s σ c next κ p low h rh (occurs_in (app x u) ts r g d) hs e high τ f T w ty = absurd g

fits_self : (l : ℕ) (κ : Atom → Ty) → ((j : ℕ) (B : Ty) → κ (param j B) ≡ B) → Fits l κ κ
fits_self l κ p (eigen j) = by_test (nat_lt l j)
  where
    by_test : (b : Bool) → κ (if b then param 0 (κ (eigen j)) else eigen j) ≡ κ (eigen j)
    by_test true = p 0 (κ (eigen j))
    by_test false = refl
fits_self l κ p (logic x m) = refl
fits_self l κ p (constant d ts) = refl
fits_self l κ p (integer z) = refl
fits_self l κ p (text s) = refl
fits_self l κ p (param k t) = refl

pub typed_no_occurrence : (s : Side) (σ : ℕ → ℕ → Term) → IsClosing σ → (next : ℕ) (κ : Atom → Ty) → ((j : ℕ) (B : Ty) → κ (param j B) ≡ B) → s.level ≤ s.pair → are_above s.level s.arguments ≡ true →
    (t : Term) (T : Ty) → Within (Seen next s.pair s.pair) 0 t → HasTotal κ [] t T → HasTotal κ [] (pattern_term (pattern s.id s.level s.arguments)) T → HasTotal κ [] (σ s.id s.level) (κ (logic s.id s.level)) →
    (h : Term) (hs : List Term) → Converts t (apply h hs) → IsRigid h → Occurs s s.pair t → Converts (apply (σ s.id s.level) (eigens s.arguments)) (close σ t) → ⊥
typed_no_occurrence s σ c next κ p low above t T w ty own sol h hs e rh o meets =
    let f = fits_self s.level κ p in
    let q = occ_strict s σ c next κ p low h rh o hs e (omega arith) κ f T w ty in
    let u = σ s.id s.level in
    let size = long_sized κ (typed_long κ p u (κ (logic s.id s.level)) sol) in
    let V = own_type s κ s.arguments T own in
    let side = sized_news κ (types_of κ s.arguments) T u size.0 (transport (λ z. Sized κ z u size.0) V size.1) in
    let lowered_side : Converts (put_low s σ κ t) (apply u (news (types_of κ s.arguments))) =
    converts_on (low_converts_closed (converts_sym meets)) (converts_is (ap (renamed (lowered s.level κ)) (sym (close_pattern σ (atom (logic s.id s.level)) s.arguments)) ∙ own_low s σ c κ s.arguments above)) in
    let there = sized_like κ side (put_low s σ κ t) lowered_side in
    let less = strict_smaller κ (apply u (news q.arguments)) q.result there q.path in
    let whole = sized_news κ q.arguments q.result u size.0 (transport (λ z. Sized κ z u size.0) q.is size.1) in
    let equal = size_same κ less.1 (same (apply u (news q.arguments))) whole in
    let small = less.2 in
    omega arith
  where
    low_converts_closed : {x y : Term} → Converts x y → Converts (renamed (lowered s.level κ) x) (renamed (lowered s.level κ) y)
    low_converts_closed c = converts_fill (λ z. atom (lowered s.level κ z)) c
