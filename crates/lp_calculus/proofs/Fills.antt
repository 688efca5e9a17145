-- Laws of terms put for atoms.
use Rattle.std.proofs.Common.{◌≡◌, ℕ, zero, suc, ◌<◌, ◌≤◌, ◌∙◌, refl, sym, ap, arith}
use Rattle.lp_calculus.specs.Term.{Term, index, atom, abs, app, Atom, shift, substitute}
use Rattle.lp_calculus.proofs.Sigma.{lift, rename, up, subst, instead, rename-rename, subst-rename, rename-subst}
use Rattle.lp_calculus.proofs.Plain.{substitute-subst}
use Rattle.lp_calculus.proofs.BetaEta.{shift_one}
use Rattle.lp_calculus.proofs.Eta.{instead-raised, app_same}
use Rattle.lp_calculus.specs.Fill.{raise, fill, Within}

pub lift_suc : (ρ : ℕ → ℕ) (x : Term) → rename (lift ρ) (rename suc x) ≡ rename suc (rename ρ x)
lift_suc ρ x = rename-rename suc (lift ρ) x ∙ sym (rename-rename ρ suc x)

pub up_suc : (θ : ℕ → Term) (x : Term) → rename suc (subst θ x) ≡ subst (up θ) (rename suc x)
up_suc θ x = rename-subst θ suc x ∙ sym (subst-rename suc (up θ) x)

pub fill-rename : (f g : Atom → Term) (ρ : ℕ → ℕ) → ((a : Atom) → g a ≡ rename ρ (f a)) → (t : Term) → fill g (rename ρ t) ≡ rename ρ (fill f t)
fill-rename f g ρ h (index i) = refl
fill-rename f g ρ h (atom a) = h a
fill-rename f g ρ h (abs b) = ap abs (fill-rename (raise f) (raise g) (lift ρ) (λ a. shift_one (g a) ∙ ap (rename suc) (h a) ∙ sym (lift_suc ρ (f a)) ∙ ap (rename (lift ρ)) (sym (shift_one (f a)))) b)
fill-rename f g ρ h (app t u) = app_same (fill-rename f g ρ h t) (fill-rename f g ρ h u)

pub fill-raise : (f : Atom → Term) (t : Term) → fill (raise f) (rename suc t) ≡ rename suc (fill f t)
fill-raise f t = fill-rename f (raise f) suc (λ a. shift_one (f a)) t

pub fill-subst : (f g : Atom → Term) (τ θ : ℕ → Term) → ((a : Atom) → f a ≡ subst θ (g a)) → ((i : ℕ) → fill f (τ i) ≡ θ i) → (t : Term) → fill f (subst τ t) ≡ subst θ (fill g t)
fill-subst f g τ θ h k (index i) = k i
fill-subst f g τ θ h k (atom a) = h a
fill-subst f g τ θ h k (abs b) = ap abs (fill-subst (raise f) (raise g) (up τ) (up θ) (λ a. shift_one (f a) ∙ ap (rename suc) (h a) ∙ up_suc θ (g a) ∙ ap (subst (up θ)) (sym (shift_one (g a)))) up_all b)
  where
    up_all : (i : ℕ) → fill (raise f) (up τ i) ≡ up θ i
    up_all zero = refl
    up_all (suc i) = fill-raise f (τ i) ∙ ap (rename suc) (k i)
fill-subst f g τ θ h k (app t u) = app_same (fill-subst f g τ θ h k t) (fill-subst f g τ θ h k u)

fill_instead : (f : Atom → Term) (u : Term) (i : ℕ) → fill f (instead u i) ≡ instead (fill f u) i
fill_instead f u zero = refl
fill_instead f u (suc i) = refl

pub fill-substitute : (f : Atom → Term) (u b : Term) → fill f (substitute u b) ≡ substitute (fill f u) (fill (raise f) b)
fill-substitute f u b =
    ap (fill f) (substitute-subst u b) ∙
    fill-subst f (raise f) (instead u) (instead (fill f u)) (λ a. sym (ap (subst (instead (fill f u))) (shift_one (f a)) ∙ instead-raised (fill f u) (f a))) (fill_instead f u) b ∙
    sym (substitute-subst (fill f u) (fill (raise f) b))

pub fill-fill : (f g h : Atom → Term) → ((a : Atom) → fill f (g a) ≡ h a) → (t : Term) → fill f (fill g t) ≡ fill h t
fill-fill f g h k (index i) = refl
fill-fill f g h k (atom a) = k a
fill-fill f g h k (abs b) = ap abs (fill-fill (raise f) (raise g) (raise h) (λ a. ap (fill (raise f)) (shift_one (g a)) ∙ fill-raise f (g a) ∙ ap (rename suc) (k a) ∙ sym (shift_one (h a))) b)
fill-fill f g h k (app t u) = app_same (fill-fill f g h k t) (fill-fill f g h k u)

-- the same on the atoms that are there
pub fill_same : (P : Atom → Type 0) (f g : Atom → Term) → ((a : Atom) → P a → f a ≡ g a) → (d : ℕ) (t : Term) → Within P d t → fill f t ≡ fill g t
fill_same P f g h d (index i) w = refl
fill_same P f g h d (atom a) w = h a w
fill_same P f g h d (abs b) w = ap abs (fill_same P (raise f) (raise g) (λ a p. ap (shift 0 1) (h a p)) (suc d) b w)
fill_same P f g h d (app t u) w = app_same (fill_same P f g h d t w.0) (fill_same P f g h d u w.1)

pub fill_none : (P : Atom → Type 0) (f : Atom → Term) → ((a : Atom) → P a → f a ≡ atom a) → (d : ℕ) (t : Term) → Within P d t → fill f t ≡ t
fill_none P f h d (index i) w = refl
fill_none P f h d (atom a) w = h a w
fill_none P f h d (abs b) w = ap abs (fill_none P (raise f) (λ a p. ap (shift 0 1) (h a p)) (suc d) b w)
fill_none P f h d (app t u) w = app_same (fill_none P f h d t w.0) (fill_none P f h d u w.1)

-- what stands in terms that are made
pub within_rename : (P : Atom → Type 0) (ρ : ℕ → ℕ) (d e : ℕ) → ((i : ℕ) → i < d → ρ i < e) → (t : Term) → Within P d t → Within P e (rename ρ t)
within_rename P ρ d e h (index i) w = h i w
within_rename P ρ d e h (atom a) w = w
within_rename P ρ d e h (abs b) w = within_rename P (lift ρ) (suc d) (suc e) go b w
  where
    go : (i : ℕ) → i < suc d → lift ρ i < suc e
    go zero p = omega arith
    go (suc i) p = let q : i < d = omega arith in let r = h i q in omega arith
within_rename P ρ d e h (app t u) w = (within_rename P ρ d e h t w.0, within_rename P ρ d e h u w.1)

pub within_unrename : (P : Atom → Type 0) (ρ : ℕ → ℕ) (d e : ℕ) → ((i : ℕ) → ρ i < e → i < d) → (t : Term) → Within P e (rename ρ t) → Within P d t
within_unrename P ρ d e h (index i) w = h i w
within_unrename P ρ d e h (atom a) w = w
within_unrename P ρ d e h (abs b) w = within_unrename P (lift ρ) (suc d) (suc e) go b w
  where
    go : (i : ℕ) → lift ρ i < suc e → i < suc d
    go zero p = omega arith
    go (suc i) p = let q : ρ i < e = omega arith in let r = h i q in omega arith
within_unrename P ρ d e h (app t u) w = (within_unrename P ρ d e h t w.0, within_unrename P ρ d e h u w.1)

pub within_suc : (P : Atom → Type 0) (d : ℕ) (t : Term) → Within P d t → Within P (suc d) (rename suc t)
within_suc P d t w = within_rename P suc d (suc d) (λ i p. omega arith) t w

pub within_shift : (P : Atom → Type 0) (d : ℕ) (t : Term) → Within P d t → Within P (suc d) (shift 0 1 t)
within_shift P d t w = rw (shift_one t) (within_suc P d t w)

pub within_subst : (P : Atom → Type 0) (θ : ℕ → Term) (d e : ℕ) → ((i : ℕ) → i < d → Within P e (θ i)) → (t : Term) → Within P d t → Within P e (subst θ t)
within_subst P θ d e h (index i) w = h i w
within_subst P θ d e h (atom a) w = w
within_subst P θ d e h (abs b) w = within_subst P (up θ) (suc d) (suc e) go b w
  where
    go : (i : ℕ) → i < suc d → Within P (suc e) (up θ i)
    go zero p = let q : 0 < suc e = omega arith in q
    go (suc i) p = let q : i < d = omega arith in within_suc P e (θ i) (h i q)
within_subst P θ d e h (app t u) w = (within_subst P θ d e h t w.0, within_subst P θ d e h u w.1)

pub within_fill : (P Q : Atom → Type 0) (f : Atom → Term) (d : ℕ) → ((a : Atom) → P a → Within Q d (f a)) → (t : Term) → Within P d t → Within Q d (fill f t)
within_fill P Q f d h (index i) w = w
within_fill P Q f d h (atom a) w = h a w
within_fill P Q f d h (abs b) w = within_fill P Q (raise f) (suc d) (λ a p. within_shift Q d (f a) (h a p)) b w
within_fill P Q f d h (app t u) w = (within_fill P Q f d h t w.0, within_fill P Q f d h u w.1)

pub within_more : (P Q : Atom → Type 0) (d e : ℕ) → ((a : Atom) → P a → Q a) → d ≤ e → (t : Term) → Within P d t → Within Q e t
within_more P Q d e h l (index i) w = let i_below : i < d = w in let q : i < e = omega arith in q
within_more P Q d e h l (atom a) w = h a w
within_more P Q d e h l (abs b) w = let q : suc d ≤ suc e = omega arith in within_more P Q (suc d) (suc e) h q b w
within_more P Q d e h l (app t u) w = (within_more P Q d e h l t w.0, within_more P Q d e h l u w.1)

pub within_both : (P Q R : Atom → Type 0) (d : ℕ) → ((a : Atom) → P a → Q a → R a) → (t : Term) → Within P d t → Within Q d t → Within R d t
within_both P Q R d h (index i) w v = w
within_both P Q R d h (atom a) w v = h a w v
within_both P Q R d h (abs b) w v = within_both P Q R (suc d) h b w v
within_both P Q R d h (app t u) w v = (within_both P Q R d h t w.0 v.0, within_both P Q R d h u w.1 v.1)

-- a term with no loose index
pub rename_closed : (P : Atom → Type 0) (ρ : ℕ → ℕ) (d : ℕ) → ((i : ℕ) → i < d → ρ i ≡ i) → (t : Term) → Within P d t → rename ρ t ≡ t
rename_closed P ρ d h (index i) w = ap index (h i w)
rename_closed P ρ d h (atom a) w = refl
rename_closed P ρ d h (abs b) w = ap abs (rename_closed P (lift ρ) (suc d) go b w)
  where
    go : (i : ℕ) → i < suc d → lift ρ i ≡ i
    go zero p = refl
    go (suc i) p = let q : i < d = omega arith in ap suc (h i q)
rename_closed P ρ d h (app t u) w = app_same (rename_closed P ρ d h t w.0) (rename_closed P ρ d h u w.1)

pub subst_closed : (P : Atom → Type 0) (θ : ℕ → Term) (d : ℕ) → ((i : ℕ) → i < d → θ i ≡ index i) → (t : Term) → Within P d t → subst θ t ≡ t
subst_closed P θ d h (index i) w = h i w
subst_closed P θ d h (atom a) w = refl
subst_closed P θ d h (abs b) w = ap abs (subst_closed P (up θ) (suc d) go b w)
  where
    go : (i : ℕ) → i < suc d → up θ i ≡ index i
    go zero p = refl
    go (suc i) p = let q : i < d = omega arith in ap (rename suc) (h i q)
subst_closed P θ d h (app t u) w = app_same (subst_closed P θ d h t w.0) (subst_closed P θ d h u w.1)

pub shift_closed : (P : Atom → Type 0) (t : Term) → Within P 0 t → shift 0 1 t ≡ t
shift_closed P t w = shift_one t ∙ rename_closed P suc 0 (λ i p. absurd (omega arith)) t w
