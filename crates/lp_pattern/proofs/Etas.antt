-- The index or the atom to which abstractions on a head come by eta contractions: exactly where the head stands on the indices of the
-- abstractions, the outermost first.
use Rattle.std.proofs.Common.{◌≡◌, ℕ, zero, suc, ◌+◌, List, [], ◌∷◌, ◌++◌, map, ◌∙◌, refl, sym, ap, arith, Bool, true, false, nat_eq, if◌then◌else◌}
use Rattle.std.specs.Prelude.{not, ◌&&◌}
use Rattle.std.proofs.lemmas.Bool.Decides.{nat_tests}
use Rattle.lp_calculus.specs.Term.{Term, index, atom, abs, app, apply, substitute}
use Rattle.lp_calculus.specs.Normal.{is_absent, contracted, eta_normal}
use Rattle.lp_calculus.proofs.Sigma.{rename, up, subst, instead, subst-subst, subst-rename, subst-index}
use Rattle.lp_calculus.proofs.Plain.{substitute-subst}
use Rattle.lp_term.specs.Spine.{abstractions}
use Rattle.lp_lemmas.proofs.Booleans.{and_true_left, and_true_right}
use Rattle.std.proofs.lemmas.Bool.{and_from}
use Rattle.lp_pattern.specs.Stripping.{name_below as below}
use Rattle.lp_pattern.proofs.Naming.{IsLeaf, AreLeaves, up_leaves, subst_apply}

-- each of n abstractions is contracted, the innermost first
pub contracts : ℕ → Term → Term
contracts zero t = t
contracts (suc n) t = contracts n (contracted t)

mutual
  unfolding contracts

  pub eta_abstractions : (n : ℕ) (t : Term) → eta_normal (abstractions n t) ≡ contracts n (eta_normal t)
  eta_abstractions zero t = refl
  eta_abstractions (suc n) t = eta_abstractions n (abs t)

pub eta_apply : (ts : List Term) (h : Term) → eta_normal (apply h ts) ≡ apply (eta_normal h) (map eta_normal ts)
eta_apply [] h = refl
eta_apply (t ∷ ts) h = eta_apply ts (app h t)

-- the indices below n, the greatest first
unfoldable pub descending : ℕ → List Term
descending zero = []
descending (suc n) = index n ∷ descending n

lower : Term → Term
lower t = subst (instead (index 0)) t

mutual
  unfolding contracts

  still_abs : (n : ℕ) (b : Term) → (c : Term) × (contracts n (abs b) ≡ abs c)
  still_abs zero b = (b, refl)
  still_abs (suc n) b = still_abs n (abs b)

-- what a contraction takes off
data Taken (t : Term) : Type 0 where
  taken : (s : Term) → t ≡ app s (index 0) → is_absent 0 s ≡ true → contracted t ≡ substitute (index 0) s → Taken t
  left : contracted t ≡ abs t → Taken t

take_off : (t : Term) → Taken t
take_off (index i) = left refl
take_off (atom a) = left refl
take_off (abs b) = left refl
take_off (app t (index zero)) = go (is_absent 0 t) refl
  where
    go : (b : Bool) → is_absent 0 t ≡ b → Taken (app t (index zero))
    go true h = taken t refl h (ap (λ b. if b then substitute (index 0) t else abs (app t (index zero))) h)
    go false h = left (ap (λ b. if b then substitute (index 0) t else abs (app t (index zero))) h)
take_off (app t (index (suc i))) = left refl
take_off (app t (atom a)) = left refl
take_off (app t (abs b)) = left refl
take_off (app t (app u v)) = left refl

leaf_no_abs : (x c : Term) → IsLeaf x → x ≡ abs c → ⊥
leaf_no_abs (index i) c h e = absurd (cc)
leaf_no_abs (atom a) c h e = absurd (cc)
leaf_no_abs (abs b) c h e = absurd h
leaf_no_abs (app t u) c h e = absurd h

-- the last argument
data Ends (us : List Term) : Type 0 where
  none : us ≡ [] → Ends us
  last : (vs : List Term) (v : Term) → us ≡ vs ++ v ∷ [] → Ends us

ends_of : (us : List Term) → Ends us
ends_of [] = none refl
ends_of (u ∷ us) = go (ends_of us)
  where
    go : Ends us → Ends (u ∷ us)
    go (none e) = last [] u (ap (λ l. u ∷ l) e)
    go (last vs v e) = last (u ∷ vs) v (ap (λ l. u ∷ l) e)

apply_last : (vs : List Term) (h v : Term) → apply h (vs ++ v ∷ []) ≡ app (apply h vs) v
apply_last [] h v = refl
apply_last (u ∷ vs) h v = apply_last vs (app h u) v

leaf_no_app : (h t u : Term) → IsLeaf h → h ≡ app t u → ⊥
leaf_no_app (index i) t u h e = absurd (cc)
leaf_no_app (atom a) t u h e = absurd (cc)
leaf_no_app (abs b) t u h e = absurd h
leaf_no_app (app s v) t u h e = absurd h

all_absent : List Term → Type 0
all_absent [] = Unit {0}
all_absent (u ∷ us) = (is_absent 0 u ≡ true) × all_absent us

mutual
  unfolding all_absent

  absent_apply : (us : List Term) (h : Term) → is_absent 0 (apply h us) ≡ true → (is_absent 0 h ≡ true) × all_absent us
  absent_apply [] h e = (e, tt)
  absent_apply (u ∷ us) h e =
      let w = absent_apply us (app h u) e in
      (and_true_left (is_absent 0 h) (is_absent 0 u) w.0, (and_true_right (is_absent 0 h) (is_absent 0 u) w.0, w.1))

-- one higher
higher : List Term → List Term
higher us = map (below 1) us

mutual
  unfolding descending

  descends : (n : ℕ) → descending (suc n) ≡ map (below 1) (descending n) ++ index 0 ∷ []
  descends zero = refl
  descends (suc n) = let q : suc n ≡ n + 1 = omega arith in λ i. index (q i) ∷ descends n i

lower_index : (u : Term) (j : ℕ) → is_absent 0 u ≡ true → subst (instead (index 0)) u ≡ index j → u ≡ index (j + 1)
lower_index (index zero) j a e = absurd (cc)
lower_index (index (suc i)) j a e = let q : i ≡ j = cc in let z : suc i ≡ j + 1 = omega (arith, q) in ap index z
lower_index (atom x) j a e = absurd (cc)
lower_index (abs b) j a e = absurd (cc)
lower_index (app t u) j a e = absurd (cc)

mutual
  unfolding descending all_absent

  lower_descending : (n : ℕ) (us : List Term) → all_absent us → map (subst (instead (index 0))) us ≡ descending n → us ≡ map (below 1) (descending n)
  lower_descending zero [] a e = refl
  lower_descending zero (u ∷ us) a e = absurd (cc)
  lower_descending (suc n) [] a e = absurd (cc)
  lower_descending (suc n) (u ∷ us) a e =
      let p : subst (instead (index 0)) u ≡ index n = cc in
      let q : map (subst (instead (index 0))) us ≡ descending n = cc in
      λ i. lower_index u n a.0 p i ∷ lower_descending n us a.1 q i

lower_leaf : (h : Term) → IsLeaf h → IsLeaf (subst (instead (index 0)) h)
lower_leaf (index zero) l = tt
lower_leaf (index (suc i)) l = tt
lower_leaf (atom a) l = tt
lower_leaf (abs b) l = absurd l
lower_leaf (app t u) l = absurd l

lower_head : (n : ℕ) (h x : Term) → IsLeaf h → is_absent 0 h ≡ true → below n x ≡ subst (instead (index 0)) h → IsLeaf x → below (suc n) x ≡ h
lower_head n (index zero) x l a e k = absurd (cc)
lower_head n (index (suc j)) (index i) l a e k = let q : i + n ≡ j = cc in let z : i + suc n ≡ suc j = omega (arith, q) in ap index z
lower_head n (index (suc j)) (atom b) l a e k = absurd (cc)
lower_head n (index (suc j)) (abs b) l a e k = absurd k
lower_head n (index (suc j)) (app t u) l a e k = absurd k
lower_head n (atom b) (index i) l a e k = absurd (cc)
lower_head n (atom b) (atom c) l a e k = e
lower_head n (atom b) (abs c) l a e k = absurd k
lower_head n (atom b) (app t u) l a e k = absurd k
lower_head n (abs b) x l a e k = absurd l
lower_head n (app t u) x l a e k = absurd l

zero_below : (x : Term) → IsLeaf x → below 0 x ≡ x
zero_below (index i) l = let q : i + 0 ≡ i = omega arith in ap index q
zero_below (atom a) l = refl
zero_below (abs b) l = absurd l
zero_below (app t u) l = absurd l

-- where a leaf is reached the head stands on the indices
mutual
  unfolding contracts descending

  pub leaf_reached : (n : ℕ) (h : Term) (us : List Term) (x : Term) → IsLeaf h → IsLeaf x → contracts n (apply h us) ≡ x → (us ≡ descending n) × (below n x ≡ h)
  leaf_reached zero h us x l k e = go (ends_of us)
    where
      go : Ends us → (us ≡ []) × (below 0 x ≡ h)
      go (none q) = (q, zero_below x k ∙ sym e ∙ ap (apply h) q)
      go (last vs v q) = absurd (leaf_no_app x (apply h vs) v k (sym e ∙ ap (apply h) q ∙ apply_last vs h v))
  leaf_reached (suc n) h us x l k e = go (take_off (apply h us)) (λ g vs. leaf_reached n g vs x)
    where
      go : Taken (apply h us) → ((g : Term) (vs : List Term) → IsLeaf g → IsLeaf x → contracts n (apply g vs) ≡ x → (vs ≡ descending n) × (below n x ≡ g)) → (us ≡ descending (suc n)) × (below (suc n) x ≡ h)
      go (left q) f = absurd (let w = still_abs n (apply h us) in leaf_no_abs x w.0 k (sym e ∙ ap (contracts n) q ∙ w.1))
      go (taken s q a c) f = with_last (ends_of us)
        where
          with_last : Ends us → (us ≡ descending (suc n)) × (below (suc n) x ≡ h)
          with_last (none z) = absurd (leaf_no_app h s (index 0) l (sym (ap (apply h) z) ∙ q))
          with_last (last vs v z) =
              let y : app (apply h vs) v ≡ app s (index 0) = sym (apply_last vs h v) ∙ sym (ap (apply h) z) ∙ q in
              let s' : apply h vs ≡ s = cc in
              let v' : v ≡ index 0 = cc in
              let b = absent_apply vs h (ap (is_absent 0) s' ∙ a) in
              let w = f (subst (instead (index 0)) h) (map (subst (instead (index 0))) vs) (lower_leaf h l) k
              (ap (contracts n) (sym (subst_apply (instead (index 0)) vs h) ∙ ap (subst (instead (index 0))) s' ∙ sym (substitute-subst (index 0) s) ∙ sym c) ∙ e) in
              (z ∙ (λ i. lower_descending n vs b.1 w.0 i ++ v' i ∷ []) ∙ sym (descends n), lower_head n h x l b.0 w.1 k)

-- and then it is reached
absent_index : (i : ℕ) → is_absent 0 (index (i + 1)) ≡ true
absent_index i = let q : nat_eq (i + 1) 0 ≡ false = grind (arith, nat_tests) in ap not q

mutual
  unfolding all_absent

  absent_all : (us : List Term) (h : Term) → is_absent 0 h ≡ true → all_absent us → is_absent 0 (apply h us) ≡ true
  absent_all [] h a b = a
  absent_all (u ∷ us) h a b = absent_all us (app h u) (and_from (is_absent 0 h) (is_absent 0 u) a b.0) b.1

mutual
  unfolding all_absent descending

  descending_absent : (n : ℕ) → all_absent (map (below 1) (descending n))
  descending_absent zero = tt
  descending_absent (suc n) = (absent_index n, descending_absent n)

absent_below : (n : ℕ) (x : Term) → IsLeaf x → is_absent 0 (below (suc n) x) ≡ true
absent_below n (index i) l = let q : nat_eq (i + suc n) 0 ≡ false = grind (arith, nat_tests) in ap not q
absent_below n (atom a) l = refl
absent_below n (abs b) l = absurd l
absent_below n (app t u) l = absurd l

lower_below : (n : ℕ) (x : Term) → IsLeaf x → subst (instead (index 0)) (below (suc n) x) ≡ below n x
lower_below n (index i) l = let q : i + suc n ≡ suc (i + n) = omega arith in ap (instead (index 0)) q
lower_below n (atom a) l = refl
lower_below n (abs b) l = absurd l
lower_below n (app t u) l = absurd l

mutual
  unfolding descending

  lower_higher : (n : ℕ) → map (subst (instead (index 0))) (map (below 1) (descending n)) ≡ descending n
  lower_higher zero = refl
  lower_higher (suc n) = let q : n + 1 ≡ suc n = omega arith in λ i. ap (instead (index 0)) q i ∷ lower_higher n i

taken_off : (s : Term) → is_absent 0 s ≡ true → contracted (app s (index 0)) ≡ substitute (index 0) s
taken_off s h = ap (λ b. if b then substitute (index 0) s else abs (app s (index 0))) h

mutual
  unfolding contracts descending

  pub leaf_is : (n : ℕ) (x : Term) → IsLeaf x → contracts n (apply (below n x) (descending n)) ≡ x
  leaf_is zero x l = zero_below x l
  leaf_is (suc n) x l =
      let h = below (suc n) x in
      let s = apply h (map (below 1) (descending n)) in
      ap (λ us. contracts n (contracted (apply h us))) (descends n) ∙ ap (λ t. contracts n (contracted t)) (apply_last (map (below 1) (descending n)) h (index 0)) ∙
      ap (contracts n) (taken_off s (absent_all (map (below 1) (descending n)) h (absent_below n x l) (descending_absent n)) ∙ substitute-subst (index 0) s ∙ subst_apply (instead (index 0)) (map (below 1) (descending n)) h ∙
      (λ i. apply (lower_below n x l i) (lower_higher n i))) ∙
      leaf_is n x l

-- indices and atoms in the place of free indices
abbrev Avoid : ℕ → (ℕ → Term) → Type 0
Avoid d θ = (i : ℕ) → is_absent d (θ i) ≡ is_absent d (index i)

renamed_absent : (d : ℕ) (x : Term) → IsLeaf x → is_absent (suc d) (rename suc x) ≡ is_absent d x
renamed_absent d (index i) l = let q : nat_eq (suc i) (suc d) ≡ nat_eq i d = grind (arith, nat_tests) in ap not q
renamed_absent d (atom a) l = refl
renamed_absent d (abs b) l = absurd l
renamed_absent d (app t u) l = absurd l

avoid_up : (d : ℕ) (θ : ℕ → Term) → AreLeaves θ → Avoid d θ → Avoid (suc d) (up θ)
avoid_up d θ l h zero = refl
avoid_up d θ l h (suc i) = renamed_absent d (θ i) (l i) ∙ h i ∙ sym (renamed_absent d (index i) tt)

absent_named : (d : ℕ) (θ : ℕ → Term) → AreLeaves θ → Avoid d θ → (t : Term) → is_absent d (subst θ t) ≡ is_absent d t
absent_named d θ l h (index i) = h i
absent_named d θ l h (atom a) = refl
absent_named d θ l h (abs b) = absent_named (suc d) (up θ) (up_leaves θ l) (avoid_up d θ l h) b
absent_named d θ l h (app t u) = λ i. absent_named d θ l h t i && absent_named d θ l h u i

never_zero : (x : Term) → IsLeaf x → is_absent 0 (rename suc x) ≡ true
never_zero (index i) l = let q : nat_eq (suc i) 0 ≡ false = grind (arith, nat_tests) in ap not q
never_zero (atom a) l = refl
never_zero (abs b) l = absurd l
never_zero (app t u) l = absurd l

avoid_first : (σ : ℕ → Term) → AreLeaves σ → Avoid 0 (up σ)
avoid_first σ l zero = refl
avoid_first σ l (suc i) = never_zero (σ i) (l i) ∙ sym (never_zero (index i) tt)

abbrev Agree : ℕ → (θ ι : ℕ → Term) → Type 0
Agree d θ ι = (i : ℕ) → is_absent d (index i) ≡ true → θ i ≡ ι i

agree_up : (d : ℕ) (θ ι : ℕ → Term) → Agree d θ ι → Agree (suc d) (up θ) (up ι)
agree_up d θ ι h zero e = refl
agree_up d θ ι h (suc i) e = ap (rename suc) (h i (sym (renamed_absent d (index i) tt) ∙ e))

subst_absent : (d : ℕ) (θ ι : ℕ → Term) → Agree d θ ι → (t : Term) → is_absent d t ≡ true → subst θ t ≡ subst ι t
subst_absent d θ ι h (index i) e = h i e
subst_absent d θ ι h (atom a) e = refl
subst_absent d θ ι h (abs b) e = ap abs (subst_absent (suc d) (up θ) (up ι) (agree_up d θ ι h) b e)
subst_absent d θ ι h (app t u) e = λ i. app (subst_absent d θ ι h t (and_true_left (is_absent d t) (is_absent d u) e) i) (subst_absent d θ ι h u (and_true_right (is_absent d t) (is_absent d u) e) i)

lowered_agree : (σ : ℕ → Term) → Agree 0 (λ i. subst (instead (index 0)) (up σ i)) (λ i. subst σ (instead (index 0) i))
lowered_agree σ zero e = absurd (cc)
lowered_agree σ (suc i) e = subst-rename suc (instead (index 0)) (σ i) ∙ subst-index (σ i)

lower_named : (σ : ℕ → Term) (s : Term) → is_absent 0 s ≡ true → substitute (index 0) (subst (up σ) s) ≡ subst σ (substitute (index 0) s)
lower_named σ s e =
    substitute-subst (index 0) (subst (up σ) s) ∙ subst-subst (up σ) (instead (index 0)) s ∙
    subst_absent 0 (λ i. subst (instead (index 0)) (up σ i)) (λ i. subst σ (instead (index 0) i)) (lowered_agree σ) s e ∙
    sym (subst-subst (instead (index 0)) σ s) ∙ ap (subst σ) (sym (substitute-subst (index 0) s))

leaf_stays : (x : Term) → IsLeaf x → contracted x ≡ abs x
leaf_stays (index i) l = refl
leaf_stays (atom a) l = refl
leaf_stays (abs b) l = absurd l
leaf_stays (app t u) l = absurd l

leaf_on : (s x : Term) → IsLeaf x → contracted (app s (rename suc x)) ≡ abs (app s (rename suc x))
leaf_on s (index i) l = refl
leaf_on s (atom a) l = refl
leaf_on s (abs b) l = absurd l
leaf_on s (app t u) l = absurd l

contracted_named : (σ : ℕ → Term) → AreLeaves σ → (t : Term) → contracted (subst (up σ) t) ≡ subst σ (contracted t)
contracted_named σ l (index i) = leaf_stays (up σ i) (up_leaves σ l i)
contracted_named σ l (atom a) = refl
contracted_named σ l (abs b) = refl
contracted_named σ l (app s (index zero)) = go (is_absent 0 s) refl
  where
    go : (b : Bool) → is_absent 0 s ≡ b →
        (if is_absent 0 (subst (up σ) s) then substitute (index 0) (subst (up σ) s) else abs (app (subst (up σ) s) (index 0))) ≡ subst σ (if is_absent 0 s then substitute (index 0) s else abs (app s (index 0)))
    go true h =
        ap (λ b. if b then substitute (index 0) (subst (up σ) s) else abs (app (subst (up σ) s) (index 0))) (absent_named 0 (up σ) (up_leaves σ l) (avoid_first σ l) s ∙ h) ∙ lower_named σ s h ∙
        ap (λ b. subst σ (if b then substitute (index 0) s else abs (app s (index 0)))) (sym h)
    go false h =
        ap (λ b. if b then substitute (index 0) (subst (up σ) s) else abs (app (subst (up σ) s) (index 0))) (absent_named 0 (up σ) (up_leaves σ l) (avoid_first σ l) s ∙ h) ∙
        ap (λ b. subst σ (if b then substitute (index 0) s else abs (app s (index 0)))) (sym h)
contracted_named σ l (app s (index (suc i))) = leaf_on (subst (up σ) s) (σ i) (l i)
contracted_named σ l (app s (atom a)) = refl
contracted_named σ l (app s (abs b)) = refl
contracted_named σ l (app s (app t u)) = refl

pub eta_named : (σ : ℕ → Term) → AreLeaves σ → (t : Term) → eta_normal (subst σ t) ≡ subst σ (eta_normal t)
eta_named σ l (index i) = leaf_eta (σ i) (l i)
  where
    leaf_eta : (x : Term) → IsLeaf x → eta_normal x ≡ x
    leaf_eta (index i) h = refl
    leaf_eta (atom a) h = refl
    leaf_eta (abs b) h = absurd h
    leaf_eta (app t u) h = absurd h
eta_named σ l (atom a) = refl
eta_named σ l (abs b) = ap contracted (eta_named (up σ) (up_leaves σ l) b) ∙ contracted_named σ l (eta_normal b)
eta_named σ l (app t u) = λ i. app (eta_named σ l t i) (eta_named σ l u i)
