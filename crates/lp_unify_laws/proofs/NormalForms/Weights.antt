-- The weight of what leftmost reduction of a term comes to. It is kept by leftmost steps, and so by head reduction; the parts of a head-normal
-- term weigh less than the whole, and an abstraction opened with an atom weighs two less.
use Rattle.std.proofs.Common.{◌≡◌, ℕ, suc, ◌+◌, ◌≤◌, ◌∙◌, refl, sym, ap, subst as transport, arith, Option, Some, None}
use Rattle.lp_calculus.specs.Term.{Term, Atom, index, atom, abs, app, substitute}
use Rattle.lp_calculus.specs.Convert.{head_step, leftmost_step, option_term, or_else}
use Rattle.lp_calculus.proofs.Sigma.{up, subst, instead}
use Rattle.lp_calculus.proofs.Plain.{substitute-subst}
use Rattle.lp_calculus.specs.Normal.{IsHead}
use Rattle.lp_unify_laws.proofs.NormalForms.Ends.{Ends, rests as comes_to_rest, goes as goes_on, none_mapped, some_is, OneOf, one_of, first, second}
use Rattle.lp_unify_laws.proofs.NormalForms.Applied.{IsNeutral, app_step, neutral_stays}
use Rattle.lp_unify_laws.proofs.NormalForms.Opened.{AreHeads, heads_up, heads_instead, same_step, first_step}
use Rattle.lp_unify_laws.proofs.NormalForms.Headed.{head_is_leftmost}

abbrev pub weight : Term → ℕ
weight (index i) = 0
weight (atom a) = 0
weight (abs b) = suc (suc (weight b))
weight (app t u) = suc (weight t + weight u)

pub data Weighs : Term → ℕ → Type 0 where
  rests : {t : Term} {w : ℕ} → leftmost_step t ≡ None → w ≡ weight t → Weighs t w
  goes : {t s : Term} {w : ℕ} → leftmost_step t ≡ Some s → Weighs s w → Weighs t w

-- what ends weighs something
pub weighs : {t : Term} → Ends leftmost_step t → (w : ℕ) × Weighs t w
weighs (comes_to_rest {t = t} e) = (weight t, rests e refl)
weighs (goes_on e more) = let r = weighs more in (r.0, goes e r.1)

pub weighs_ends : {t : Term} {w : ℕ} → Weighs t w → Ends leftmost_step t
weighs_ends (rests e i) = comes_to_rest e
weighs_ends (goes e more) = goes_on e (weighs_ends more)

pub weighs_on : {t s : Term} {w : ℕ} → leftmost_step t ≡ Some s → Weighs t w → Weighs s w
weighs_on e (rests i j) = absurd (cc)
weighs_on e (goes {w = w} i more) = transport (λ z. Weighs z w) (some_is (sym i ∙ e)) more

pub weighs_headed : {t s : Term} {w : ℕ} → head_step t ≡ Some s → Weighs t w → Weighs s w
weighs_headed {t} {s} e h = weighs_on (head_is_leftmost t s e) h

-- the body of an abstraction
mapped_is : (o : Option Term) (s : Term) → option_term abs o ≡ Some s → (c : Term) × ((o ≡ Some c) × (s ≡ abs c))
mapped_is None s e = absurd (cc)
mapped_is (Some c) s e = (c, (refl, cc))

pub abs_weighs : {x : Term} {w : ℕ} → Weighs x w → (b : Term) → x ≡ abs b → (v : ℕ) × ((w ≡ suc (suc v)) × Weighs b v)
abs_weighs (rests e i) b j = (weight b, (i ∙ ap weight j, rests (none_mapped abs (leftmost_step b) (sym (ap leftmost_step j) ∙ e)) refl))
abs_weighs (goes {s = s} e more) b j =
    let c = mapped_is (leftmost_step b) s (sym (ap leftmost_step j) ∙ e) in
    let r = abs_weighs more c.0 c.1.1 in
    (r.0, (r.1.0, goes c.1.0 r.1.1))

-- heads for indices change no weight
two_sums : (a b c d : ℕ) → a ≡ c → b ≡ d → suc (a + b) ≡ suc (c + d)
two_sums a b c d e i = cc

head_weight : (t : Term) → IsHead t → weight t ≡ 0
head_weight (index i) h = refl
head_weight (atom a) h = refl
head_weight (abs b) h = absurd h
head_weight (app t u) h = absurd h

weight_subst : (σ : ℕ → Term) → AreHeads σ → (t : Term) → weight (subst σ t) ≡ weight t
weight_subst σ h (index i) = head_weight (σ i) (h i)
weight_subst σ h (atom a) = refl
weight_subst σ h (abs b) = ap (λ z. suc (suc z)) (weight_subst (up σ) (heads_up σ h) b)
weight_subst σ h (app t u) = two_sums (weight (subst σ t)) (weight (subst σ u)) (weight t) (weight u) (weight_subst σ h t) (weight_subst σ h u)

heads_weigh : (σ : ℕ → Term) → AreHeads σ → {t : Term} {w : ℕ} → Weighs t w → Weighs (subst σ t) w
heads_weigh σ h (rests {t = t} e i) = rests (same_step σ h t ∙ ap (option_term (subst σ)) e) (i ∙ sym (weight_subst σ h t))
heads_weigh σ h (goes {t = t} e more) = goes (same_step σ h t ∙ ap (option_term (subst σ)) e) (heads_weigh σ h more)

pub body_weighs : (a : Atom) (b : Term) {w : ℕ} → Weighs b w → Weighs (substitute (atom a) b) w
body_weighs a b {w} h = transport (λ z. Weighs z w) (sym (substitute-subst (atom a) b)) (heads_weigh (instead (atom a)) (heads_instead a) h)

-- the parts of an application whose head is no abstraction
neither : (a b : Option Term) (g h : Term → Term) → or_else (option_term g a) (option_term h b) ≡ None → (a ≡ None) × (b ≡ None)
neither None None g h e = (refl, refl)
neither None (Some x) g h e = absurd (cc)
neither (Some x) b g h e = absurd (cc)

pub record PartsWeigh (t u : Term) (w : ℕ) : Type 0 where
  pub head : ℕ
  pub argument : ℕ
  pub sum : w ≡ suc (head + argument)
  pub head_weighs : Weighs t head
  pub argument_weighs : Weighs u argument

pub app_weighs : {x : Term} {w : ℕ} → Weighs x w → (t u : Term) → IsNeutral t → x ≡ app t u → PartsWeigh t u w
app_weighs (rests e i) t u h j =
    let n = neither (leftmost_step t) (leftmost_step u) (λ z. app z u) (app t) (sym (app_step t u h) ∙ sym (ap leftmost_step j) ∙ e) in
    record { head = weight t; argument = weight u; sum = i ∙ ap weight j; head_weighs = rests n.0 refl; argument_weighs = rests n.1 refl }
app_weighs (goes {s = s} {w = w} e more) t u h j =
    go (one_of (leftmost_step t) (leftmost_step u) (λ z. app z u) (app t) s (sym (app_step t u h) ∙ sym (ap leftmost_step j) ∙ e)) (λ t' u' h' j'. app_weighs more t' u' h' j')
  where
    go : OneOf (leftmost_step t) (leftmost_step u) (λ z. app z u) (app t) s → ((t' u' : Term) → IsNeutral t' → s ≡ app t' u' → PartsWeigh t' u' w) → PartsWeigh t u w
    go (first x i k) ι = let r = ι x u (neutral_stays t x h i) k in record { head = r.head; argument = r.argument; sum = r.sum; head_weighs = goes i r.head_weighs; argument_weighs = r.argument_weighs }
    go (second x n i k) ι = let r = ι t x h k in record { head = r.head; argument = r.argument; sum = r.sum; head_weighs = r.head_weighs; argument_weighs = goes i r.argument_weighs }

-- a term on an atom
pub record OpenedWeighs (t : Term) (a : Atom) (limit : ℕ) : Type 0 where
  pub weight_is : ℕ
  pub below : weight_is ≤ limit
  pub weighs_so : Weighs (app t (atom a)) weight_is

pub opened_abs : (a : Atom) (b : Term) {w : ℕ} → Weighs (abs b) w → (v : ℕ) × ((w ≡ suc (suc v)) × Weighs (app (abs b) (atom a)) v)
opened_abs a b h = let r = abs_weighs h b refl in (r.0, (r.1.0, goes refl (body_weighs a b r.1.1)))

pub opened_weighs : (a : Atom) {x : Term} {w : ℕ} → Weighs x w → (t : Term) → x ≡ t → OpenedWeighs t a (suc w)
opened_weighs a k (index i) j = record { weight_is = 1; below = omega arith; weighs_so = rests refl refl }
opened_weighs a k (atom b) j = record { weight_is = 1; below = omega arith; weighs_so = rests refl refl }
opened_weighs a {x} {w} k (abs b) j =
    let r = opened_abs a b (transport (λ z. Weighs z w) j k) in let e = r.1.0 in record { weight_is = r.0; below = omega arith; weighs_so = r.1.1 }
opened_weighs a (rests {w = w} e i) (app t u) j =
    let q : w ≡ weight (app t u) = i ∙ ap weight j in
    record { weight_is = suc (w + 0); below = omega arith; weighs_so = rests (first_step t u a (leftmost_step (app t u)) refl ∙ ap (option_term (λ z. app z (atom a))) (sym (ap leftmost_step j) ∙ e)) (ap (λ z. suc (z + 0)) q) }
opened_weighs a (goes {s = s} e more) (app t u) j =
    let r = opened_weighs a more s refl in
    record { weight_is = r.weight_is; below = r.below; weighs_so = goes (first_step t u a (Some s) (sym (ap leftmost_step j) ∙ e)) r.weighs_so }
