-- What the arguments of a clause's head are in a branch: its own variables stay in their places, and all else is put in.
use Rattle.std.proofs.Common.{◌≡◌, ℕ, zero, suc, ◌-◌, ◌<◌, ◌≤◌, List, [], ◌∷◌, map, length, refl, sym, ap, ◌∙◌, subst as transport, arith, Bool, true, false, nat_lt}
use Rattle.std.specs.Prelude.{◌&&◌, not}
use Rattle.std.proofs.lemmas.Bool.{ne_eqb, ltb-true}
use Rattle.std.proofs.lemmas.Bool.Decides.{nat_tests}
use Rattle.lp_calculus.specs.Types.{Ty}
use Rattle.lp_calculus.specs.Term.{Term, index, atom, abs, app, shift}
use Rattle.lp_calculus.specs.Normal.{is_absent}
use Rattle.lp_calculus.specs.Instance.{instance_atom, instance_term}
use Rattle.lp_term.specs.Spine.{LooseBelow}
use Rattle.lp_model.specs.Flat.{under_all}
use Rattle.lp_model.specs.Index.{lifted, instantiate}
use Rattle.lp_model.specs.Pair.{Closing, closed}
use Rattle.lp_pattern.specs.Stripping.{IsShut}
use Rattle.lp_plain.specs.Heads.{HasBecome, HaveBecome, is_index}
use Rattle.lp_plain.proofs.Closings.{body_under, closed_loose, index_lifted, loose_raised}

-- the first m indices stay, and each other one becomes the value of one further out
pub record Keeps (m : ℕ) (τ σ : ℕ → Term) : Type 0 where
  pub own : (i : ℕ) → i < m → τ i ≡ index i
  pub around : (i : ℕ) → m ≤ i → τ i ≡ σ (i - m)

abbrev pub AreClosed : (ℕ → Term) → Type 0
AreClosed σ = (i : ℕ) → LooseBelow 0 0 (σ i)

lifted_keeps : (m : ℕ) (τ σ : ℕ → Term) → AreClosed σ → Keeps m τ σ → Keeps (suc m) (lifted τ) σ
lifted_keeps m τ σ c k = record { own = own; around = around }
  where
    own : (i : ℕ) → i < suc m → lifted τ i ≡ index i
    own zero l = refl
    own (suc i) l = ap (shift 0 1) (k.own i (omega (arith, l))) ∙ index_lifted i

    around : (i : ℕ) → suc m ≤ i → lifted τ i ≡ σ (i - suc m)
    around zero l = absurd (omega (arith, l))
    around (suc i) l = ap (shift 0 1) (k.around i (omega (arith, l))) ∙ loose_raised 0 0 (σ (i - m)) (omega arith) (c (i - m)) ∙ (let q : i - m ≡ suc i - suc m = omega arith in ap σ q)

-- below the clause's own variables
pub own_kept : (vs : List Ty) (σ : ℕ → Term) → AreClosed σ → Keeps (length vs) (under_all lifted vs σ) σ
own_kept [] σ c = record { own = λ i l. absurd (omega (arith, l)); around = λ i l. (let q : i ≡ i - 0 = omega arith in ap σ q) }
own_kept (v ∷ vs) σ c = lifted_keeps (length vs) (under_all lifted vs σ) σ c (own_kept vs σ c)

-- a term without loose indices
no_index : (k : ℕ) (t : Term) → LooseBelow 0 0 t → is_index k t ≡ false
no_index k (index i) l = absurd (omega (arith, l))
no_index k (atom a) l = refl
no_index k (abs b) l = refl
no_index k (app t u) l = refl

absent_in : (d k : ℕ) (t : Term) → d ≤ k → LooseBelow 0 d t → is_absent k t ≡ true
absent_in d k (index i) m l = ap not (ne_eqb i k (λ e. absurd (omega (arith, m, l, e))))
absent_in d k (atom a) m l = refl
absent_in d k (abs b) m l = absent_in (suc d) (suc k) b (omega (arith, m)) l
absent_in d k (app t u) m l = (λ i. absent_in d k t m l.0 i && absent_in d k u m l.1 i)

pub by_size : (i m : ℕ) (P : Type 0) → (i < m → P) → (m ≤ i → P) → P
by_size i m P f g = go (nat_lt i m) refl
  where
    go : (b : Bool) → nat_lt i m ≡ b → P
    go true e = f (ltb-true i m e)
    go false e = g (grind (arith, nat_tests, e))

module _ (z : Closing) (s : IsShut z) (θ : ℕ → Ty) (σ : ℕ → Term) (c : AreClosed σ) where
  value_closed : (m i : ℕ) (τ : ℕ → Term) → Keeps m τ σ → m ≤ i → LooseBelow 0 0 (closed z (τ i))
  value_closed m i τ k l = closed_loose z s 0 0 (τ i) (transport (LooseBelow 0 0) (sym (k.around i l)) (c (i - m)))

  -- what stands where stays
  absent_stays : (m k : ℕ) (τ : ℕ → Term) → Keeps m τ σ → k < m → (t : Term) → is_absent k (closed z (instantiate τ (instance_term θ t))) ≡ is_absent k t
  absent_stays m k τ p l (index i) = by_size i m (is_absent k (closed z (τ i)) ≡ is_absent k (index i))
      (λ h. ap (λ u. is_absent k (closed z u)) (p.own i h))
      (λ h. absent_in 0 k (closed z (τ i)) (omega arith) (value_closed m i τ p h) ∙ sym (ap not (ne_eqb i k (λ e. absurd (omega (arith, h, l, e))))))
  absent_stays m k τ p l (atom a) = absent_in 0 k (closed z (atom (instance_atom θ a))) (omega arith) (closed_loose z s 0 0 (atom (instance_atom θ a)) tt)
  absent_stays m k τ p l (abs b) =
      ap (is_absent k) (body_under z s (instantiate (lifted τ) (instance_term θ b))) ∙ absent_stays (suc m) (suc k) (lifted τ) (lifted_keeps m τ σ c p) (omega (arith, l)) b
  absent_stays m k τ p l (app t u) = λ i. absent_stays m k τ p l t i && absent_stays m k τ p l u i

  own_stays : (m k : ℕ) (τ : ℕ → Term) → Keeps m τ σ → k < m → (t : Term) → is_index k (closed z (instantiate τ (instance_term θ t))) ≡ is_index k t
  own_stays m k τ p l (index i) = by_size i m (is_index k (closed z (τ i)) ≡ is_index k (index i))
      (λ h. ap (λ u. is_index k (closed z u)) (p.own i h))
      (λ h. no_index k (closed z (τ i)) (value_closed m i τ p h) ∙ sym (ne_eqb i k (λ e. absurd (omega (arith, h, l, e)))))
  own_stays m k τ p l (atom a) = no_index k (closed z (atom (instance_atom θ a))) (closed_loose z s 0 0 (atom (instance_atom θ a)) tt)
  own_stays m k τ p l (abs b) = ap (is_index k) (body_under z s (instantiate (lifted τ) (instance_term θ b)))
  own_stays m k τ p l (app t u) = refl

  index_own : (m : ℕ) (τ : ℕ → Term) → Keeps m τ σ → (t : Term) → (k : ℕ) → closed z (instantiate τ (instance_term θ t)) ≡ index k → k < m
  index_own m τ p (index i) k e = by_size i m (k < m)
      (λ h. let q : index i ≡ index k = sym (ap (closed z) (p.own i h)) ∙ e in let r : i ≡ k = cc in transport (λ j. j < m) r h)
      (λ h. let q = transport (LooseBelow 0 0) e (value_closed m i τ p h) in absurd (omega (arith, q)))
  index_own m τ p (atom a) k e = let q = transport (LooseBelow 0 0) e (closed_loose z s 0 0 (atom (instance_atom θ a)) tt) in absurd (omega (arith, q))
  index_own m τ p (abs b) k e = let q : abs (closed z (instantiate (lifted τ) (instance_term θ b))) ≡ index k = sym (body_under z s (instantiate (lifted τ) (instance_term θ b))) ∙ e in absurd (cc)
  index_own m τ p (app t u) k e = absurd (cc)

  has_become : (m : ℕ) (τ : ℕ → Term) → Keeps m τ σ → (t : Term) → HasBecome m t (closed z (instantiate τ (instance_term θ t)))
  has_become m τ p t = record { own = λ k l. own_stays m k τ p l t; absent = λ k l. absent_stays m k τ p l t; closed = index_own m τ p t }

  all_become : (m : ℕ) (τ : ℕ → Term) → Keeps m τ σ → (ts : List Term) → HaveBecome m ts (map (λ t. closed z (instantiate τ (instance_term θ t))) ts)
  all_become m τ p [] = tt
  all_become m τ p (t ∷ ts) = (has_become m τ p t, all_become m τ p ts)

  pub arguments_become : (vs : List Ty) (ts : List Term) → HaveBecome (length vs) ts (map (λ t. closed z (instantiate (under_all lifted vs σ) (instance_term θ t))) ts)
  arguments_become vs ts = all_become (length vs) (under_all lifted vs σ) (own_kept vs σ c) ts
