-- More steps change no answer of head reduction, of the test for a pattern and of the scan.
use Rattle.std.proofs.Common.{◌≡◌, ℕ, zero, suc, ◌≤◌, List, [], ◌∷◌, refl, arith, Bool, true, false, Option, Some, None, not, ◌||◌}
use Rattle.std.specs.Prelude.{option_map, option_and_then, nat_lt}
use Rattle.lp_calculus.specs.Term.{Term, atom, substitute, eigen}
use Rattle.lp_calculus.specs.Convert.{head_step, leftmost_step}
use Rattle.lp_calculus.specs.Normal.{eta_normal}
use Rattle.lp_model.specs.Eigens.{beta_normal, as_eigen, eigen_of}
use Rattle.lp_model.specs.Look.{an_abs, rigid, flexible, looked, head_normal, look, weak_step, top_normal, as_eigens, pattern_of}
use Rattle.lp_model.specs.Scan.{Side, is_side, allows_head, Scanned, broken, whole, above, beside, scanned_pattern, scan, scan_all}

-- what the first gives, the second gives
abbrev pub Below : {A : Type 0} → Option A → Option A → Type 0
Below {A} o o' = (x : A) → o ≡ Some x → o' ≡ Some x

pub below_none : {A : Type 0} (o : Option A) → Below None o
below_none o x e = absurd (cc)

pub below_same : {A : Type 0} (o : Option A) → Below o o
below_same o x e = e

pub below_then : {A B : Type 0} (o o' : Option A) (f g : A → Option B) → Below o o' → ((x : A) → Below (f x) (g x)) → Below (option_and_then f o) (option_and_then g o')
below_then None o' f g h k = below_none (option_and_then g o')
below_then (Some a) None f g h k = let q : None ≡ Some a = h a refl in absurd (cc)
below_then (Some a) (Some b) f g h k = λ x e. let q : Some b ≡ Some a = h a refl in let r : g a ≡ Some x = k a x e in let i : b ≡ a = cc in cc

pub below_map : {A B : Type 0} (o o' : Option A) (f : A → B) → Below o o' → Below (option_map f o) (option_map f o')
below_map None o' f h = below_none (option_map f o')
below_map (Some a) None f h = let q : None ≡ Some a = h a refl in absurd (cc)
below_map (Some a) (Some b) f h = λ x e. let q : Some b ≡ Some a = h a refl in let i : b ≡ a = cc in cc

pub head_normal_more : (n m : ℕ) → n ≤ m → (t : Term) → Below (head_normal n t) (head_normal m t)
head_normal_more zero m h t = below_none (head_normal m t)
head_normal_more (suc n) zero h t = absurd (omega arith)
head_normal_more (suc n) (suc m) h t = elim (head_step t) as (λ o. Below (elim o [ None ↦ Some t | Some s ↦ head_normal n s ]) (elim o [ None ↦ Some t | Some s ↦ head_normal m s ])) [
  | None ↦ below_same (Some t)
  | Some s ↦ head_normal_more n m (omega arith) s
]

pub top_normal_more : (n m : ℕ) → n ≤ m → (t : Term) → Below (top_normal n t) (top_normal m t)
top_normal_more zero m h t = below_none (top_normal m t)
top_normal_more (suc n) zero h t = absurd (omega arith)
top_normal_more (suc n) (suc m) h t = elim (weak_step t) as (λ o. Below (elim o [ None ↦ Some t | Some s ↦ top_normal n s ]) (elim o [ None ↦ Some t | Some s ↦ top_normal m s ])) [
  | None ↦ below_same (Some t)
  | Some s ↦ top_normal_more n m (omega arith) s
]

pub beta_normal_more : (n m : ℕ) → n ≤ m → (t : Term) → Below (beta_normal n t) (beta_normal m t)
beta_normal_more zero m h t = below_none (beta_normal m t)
beta_normal_more (suc n) zero h t = absurd (omega arith)
beta_normal_more (suc n) (suc m) h t = elim (leftmost_step t) as (λ o. Below (elim o [ None ↦ Some t | Some s ↦ beta_normal n s ]) (elim o [ None ↦ Some t | Some s ↦ beta_normal m s ])) [
  | None ↦ below_same (Some t)
  | Some s ↦ beta_normal_more n m (omega arith) s
]

pub look_more : (n m : ℕ) → n ≤ m → (t : Term) → Below (look n t) (look m t)
look_more n m h t = below_map (head_normal n t) (head_normal m t) (λ s. looked s []) (head_normal_more n m h t)

pub as_eigen_more : (n m : ℕ) → n ≤ m → (t : Term) → Below (as_eigen n t) (as_eigen m t)
as_eigen_more n m h t = below_map (beta_normal n t) (beta_normal m t) (λ s. eigen_of (eta_normal s)) (beta_normal_more n m h t)

pub as_eigens_more : (n m : ℕ) → n ≤ m → (ts : List Term) → Below (as_eigens n ts) (as_eigens m ts)
as_eigens_more n m h [] = below_same (Some (Some []))
as_eigens_more n m h (t ∷ ts) = below_then (as_eigen n t) (as_eigen m t) _ _ (as_eigen_more n m h t) λ o. elim o as
    (λ o. Below {A = Option (List ℕ)} (elim o [ None ↦ Some None | Some k ↦ option_map (option_map (λ ks. k ∷ ks)) (as_eigens n ts) ])
    (elim o [ None ↦ Some None | Some k ↦ option_map (option_map (λ ks. k ∷ ks)) (as_eigens m ts) ])) [
      | None ↦ below_same (Some None)
      | Some k ↦ below_map (as_eigens n ts) (as_eigens m ts) (option_map (λ ks. k ∷ ks)) (as_eigens_more n m h ts)
    ]

pub pattern_more : (n m : ℕ) → n ≤ m → (l : ℕ) (ts : List Term) → Below (pattern_of n l ts) (pattern_of m l ts)
pattern_more n m h l ts = below_map (as_eigens n ts) (as_eigens m ts) _ (as_eigens_more n m h ts)

mutual
  pub scan_more : (n m : ℕ) → n ≤ m → (s : Side) (inside : Bool) (k : ℕ) (t : Term) → Below (scan n s inside k t) (scan m s inside k t)
  scan_more zero m h s inside k t = below_none (scan m s inside k t)
  scan_more (suc n) zero h s inside k t = absurd (omega arith)
  scan_more (suc n) (suc m) h s inside k t = below_then (look n t) (look m t) _ _ (look_more n m (omega arith) t) λ v. elim v as
      (λ v. Below {A = Scanned} (elim v [
        | an_abs b ↦ scan n s inside (suc k) (substitute (atom (eigen (suc k))) b)
        | rigid g ts ↦ elim
            (allows_head s g || inside) [ true ↦ option_map (above (not (allows_head s g))) (scan_all n s inside k ts) | false ↦ Some (broken 1) ]
        | flexible y l ts ↦ option_and_then (λ o. elim o [
          | Some b ↦ Some (scanned_pattern s inside y l b)
          | None ↦ option_map
              (above (is_side s y l || nat_lt s.level l)) (scan_all n s true k ts)
        ]) (pattern_of n l ts)
      ])
      (elim v [
        | an_abs b ↦ scan m s inside (suc k) (substitute (atom (eigen (suc k))) b)
        | rigid g ts ↦ elim (allows_head s g || inside)
            [ true ↦ option_map (above (not (allows_head s g))) (scan_all m s inside k ts) | false ↦ Some (broken 1) ]
        | flexible y l ts ↦ option_and_then
            (λ o. elim o [
              | Some b ↦ Some (scanned_pattern s inside y l b)
              | None ↦ option_map (above (is_side s y l || nat_lt s.level l))
                  (scan_all m s true k ts)
            ]) (pattern_of m l ts)
      ])) [
        | an_abs b ↦ scan_more n m (omega arith) s inside (suc k) (substitute (atom (eigen (suc k))) b)
        | rigid g ts ↦ elim (allows_head s g || inside) as (λ b. Below {A = Scanned}
            (elim b [ true ↦ option_map (above (not (allows_head s g))) (scan_all n s inside k ts) | false ↦ Some (broken 1) ])
            (elim b [ true ↦ option_map (above (not (allows_head s g))) (scan_all m s inside k ts) | false ↦ Some (broken 1) ])) [
              | true ↦ below_map (scan_all n s inside k ts) (scan_all m s inside k ts) (above (not (allows_head s g))) (scan_all_more n m (omega arith) s inside k ts)
              | false ↦ below_same (Some (broken 1))
            ]
        | flexible y l ts ↦ below_then (pattern_of n l ts) (pattern_of m l ts) _ _ (pattern_more n m (omega arith) l ts) λ o. elim o as
            (λ o. Below {A = Scanned} (elim o [
              | Some b ↦ Some (scanned_pattern s inside y l b)
              | None ↦ option_map
                  (above (is_side s y l || nat_lt s.level l)) (scan_all n s true k ts)
            ]) (elim o
            [ Some b ↦ Some (scanned_pattern s inside y l b) | None ↦ option_map (above (is_side s y l || nat_lt s.level l)) (scan_all m s true k ts) ])) [
              | Some b ↦ below_same (Some (scanned_pattern s inside y l b))
              | None ↦ below_map (scan_all n s true k ts) (scan_all m s true k ts) (above (is_side s y l || nat_lt s.level l)) (scan_all_more n m (omega arith) s true k ts)
            ]
      ]

  pub scan_all_more : (n m : ℕ) → n ≤ m → (s : Side) (inside : Bool) (k : ℕ) (ts : List Term) → Below (scan_all n s inside k ts) (scan_all m s inside k ts)
  scan_all_more zero m h s inside k ts = below_none (scan_all m s inside k ts)
  scan_all_more (suc n) zero h s inside k ts = absurd (omega arith)
  scan_all_more (suc n) (suc m) h s inside k [] = below_same (Some (whole 0 false []))
  scan_all_more (suc n) (suc m) h s inside k (t ∷ ts) = below_then (scan n s inside k t) (scan m s inside k t) _ _
      (scan_more n m (omega arith) s inside k t) λ r. elim r as (λ r. Below {A = Scanned}
      (elim r [ broken u ↦ Some (broken u) | whole u d ps ↦ option_map (beside u d ps) (scan_all n s inside k ts) ])
      (elim r [ broken u ↦ Some (broken u) | whole u d ps ↦ option_map (beside u d ps) (scan_all m s inside k ts) ])) [
        | broken u ↦ below_same (Some (broken u))
        | whole u d ps ↦ below_map (scan_all n s inside k ts) (scan_all m s inside k ts) (beside u d ps) (scan_all_more n m (omega arith) s inside k ts)
      ]
