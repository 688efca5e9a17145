-- Head steps of a term that is given as its head and arguments.
use Rattle.std.proofs.Common.{◌≡◌, ℕ, zero, suc, ◌+◌, ◌<◌, List, [], ◌∷◌, ◌++◌, refl, sym, ap, ◌∙◌, subst, arith, Option, Some, None}
use Rattle.std.specs.Prelude.{IsSome}
use Rattle.lp_lemmas.proofs.Options.{IsSome_from}
use Rattle.lp_calculus.specs.Term.{Term, index, atom, abs, app, apply, substitute}
use Rattle.lp_calculus.specs.Convert.{Converts, same, forth, BetaEta, by_beta, in_argument, head_step, option_term, steps, Reduces, done, then_step, BetaStep, Anywhere, here, beta, in_abs, in_head}
use Rattle.lp_calculus.proofs.Parallel.{Par}
use Rattle.lp_calculus.proofs.Confluent.{Pars, stop, step, reduces_pars, reduces_on}
use Rattle.lp_calculus.proofs.Leftmost.{IsStrategy, first_of_steps, one_more, no_longer, head_strategy}
use Rattle.lp_term.specs.declared.reduce.TermRefusal.{TermRefusal}
use Rattle.lp_term.specs.declared.reduce.TermRefusal.TheVariants.{Deep, Memory}
use Rattle.lp_susp.specs.Counted.{Works, rests, contracts, elsewhere, IsApplication, IsStopped, IsDeepOnlyWhere}

-- a step of an application is one of it on more arguments
step-apply : (t u s : Term) (xs : List Term) → head_step (app t u) ≡ Some s → head_step (apply (app t u) xs) ≡ Some (apply s xs)
step-apply t u s [] e = e
step-apply t u s (x ∷ xs) e = step-apply (app t u) x (app s x) xs (ap (option_term (λ y. app y x)) e)

pub redex_step : (b u : Term) (xs : List Term) → head_step (apply (abs b) (u ∷ xs)) ≡ Some (apply (substitute u b) xs)
redex_step b u xs = step-apply (abs b) u (substitute u b) xs refl

pub application_step : (t s : Term) (xs : List Term) → IsApplication t → head_step t ≡ Some s → head_step (apply t xs) ≡ Some (apply s xs)
application_step t s xs a e = ap (λ y. head_step (apply y xs)) a.2 ∙ step-apply a.0 a.1 s xs (ap head_step (sym a.2) ∙ e)

pub application_apply : (t : Term) (xs : List Term) → IsApplication t → IsApplication (apply t xs)
application_apply t [] a = a
application_apply t (x ∷ xs) a = application_apply (app t x) xs (t, x, refl)

abbrev pub IsNoRedexHead : Term → Type 0
IsNoRedexHead (index i) = Unit {0}
IsNoRedexHead (atom a) = Unit {0}
IsNoRedexHead (abs b) = ⊥
IsNoRedexHead (app t u) = ⊥

none-apply : (t u : Term) (xs : List Term) → head_step (app t u) ≡ None → head_step (apply (app t u) xs) ≡ None
none-apply t u [] e = e
none-apply t u (x ∷ xs) e = none-apply (app t u) x xs (ap (option_term (λ y. app y x)) e)

pub none-head : (t : Term) (xs : List Term) → IsNoRedexHead t → head_step (apply t xs) ≡ None
none-head (index i) [] h = refl
none-head (index i) (x ∷ xs) h = none-apply (index i) x xs refl
none-head (atom a) [] h = refl
none-head (atom a) (x ∷ xs) h = none-apply (atom a) x xs refl
none-head (abs b) xs h = absurd h
none-head (app t u) xs h = absurd h

pub apply-append : (h : Term) (xs ys : List Term) → apply h (xs ++ ys) ≡ apply (apply h xs) ys
apply-append h [] ys = refl
apply-append h (x ∷ xs) ys = apply-append (app h x) xs ys

-- a head step is a beta step
of_option : (f : Term → Term) (o : Option Term) (r : Term) → option_term f o ≡ Some r → (x : Term) × (o ≡ Some x) × (r ≡ f x)
of_option f None r e = absurd (cc)
of_option f (Some x) r e = (x, refl, (cc))

pub head_beta : (t s : Term) → head_step t ≡ Some s → BetaStep t s
head_beta (index i) s e = absurd (cc)
head_beta (atom a) s e = absurd (cc)
head_beta (abs b) s e = let k = of_option abs (head_step b) s e in subst (BetaStep (abs b)) (sym k.2) (in_abs (head_beta b k.0 k.1))
head_beta (app (abs b) u) s e = let q : substitute u b ≡ s = cc in subst (BetaStep (app (abs b) u)) q (here (beta b u))
head_beta (app (index i) u) s e = absurd (cc)
head_beta (app (atom a) u) s e = absurd (cc)
head_beta (app (app t v) u) s e = let k = of_option (λ y. app y u) (head_step (app t v)) s e in subst (BetaStep (app (app t v) u)) (sym k.2) (in_head u (head_beta (app t v) k.0 k.1))

pub step_reduces : (t s : Term) → head_step t ≡ Some s → Reduces t s
step_reduces t s e = then_step (head_beta t s e) (done s)

beta_is : {t s : Term} → BetaStep t s → Anywhere BetaEta t s
beta_is (here (beta b u)) = here (by_beta b u)
beta_is (in_abs p) = in_abs (beta_is p)
beta_is (in_head u p) = in_head u (beta_is p)
beta_is (in_argument t p) = in_argument t (beta_is p)

pub reduces_converts : {t s : Term} → Reduces t s → Converts t s
reduces_converts (done t) = same t
reduces_converts (then_step p ps) = forth (beta_is p) (reduces_converts ps)

pub works_reduce : {n : ℕ} {t s : Term} → Works n t s → Reduces t s
works_reduce (rests t) = done t
works_reduce (contracts {t = t} {r = r} e w) = then_step (head_beta t r e) (works_reduce w)
works_reduce (elsewhere p w) = reduces_on p (works_reduce w)

pub works_on : {n m : ℕ} {t s r : Term} → Works n t s → Works m s r → Works (n + m) t r
works_on {m = m} {r = r} (rests t) v = (let q : m ≡ 0 + m = omega arith in subst (λ k. Works k t r) q v)
works_on {m = m} {r = r} (contracts {n = n} {t = t} e w) v = (let q : suc (n + m) ≡ suc n + m = omega arith in subst (λ k. Works k t r) q (contracts e (works_on w v)))
works_on (elsewhere p w) v = elsewhere p (works_on w v)

-- one contraction and reductions elsewhere
pub works_step : {n : ℕ} {t s r u : Term} → Works n t s → head_step s ≡ Some r → Reduces r u → Works (suc n) t u
works_step (rests t) e p = contracts e (elsewhere p (rests _))
works_step (contracts q w) e p = contracts q (works_step w e p)
works_step (elsewhere q w) e p = elsewhere q (works_step w e p)

none_is_not : (o : Option Term) → IsSome o → o ≡ None → ⊥
none_is_not None h e = cc
none_is_not (Some x) h e = cc

module _ (f : Term → Option Term) (w : IsStrategy f) where
  pub record Ends (n : ℕ) (t : Term) : Type 0 where
    pub count : ℕ
    pub end : Term
    pub fewer : count < n
    pub leads : steps f count t ≡ Some end
    pub over : f end ≡ None

  pub ends_where : (n : ℕ) (t : Term) → steps f n t ≡ None → Ends n t
  ends_where zero t e = absurd (cc)
  ends_where (suc n) t e = go (f t) refl (λ r h. ends_where n r h)
    where
      go : (o : Option Term) → f t ≡ o → ((r : Term) → steps f n r ≡ None → Ends n r) → Ends (suc n) t
      go None q g = record { count = 0; end = t; fewer = omega arith; leads = refl; over = q }
      go (Some r) q g =
          let k = g r (sym (ap (λ o. elim o as (λ x. Option Term) [ None ↦ None | Some y ↦ steps f n y ]) q) ∙ e) in
          record { count = suc k.count; end = k.end; fewer = omega (arith, k.fewer); leads = one_more f w k.count t r k.end q k.leads; over = k.over }

  pub steps_past : (c n : ℕ) (t x : Term) → steps f c t ≡ Some x → f x ≡ None → c < n → steps f n t ≡ None
  steps_past c zero t x e h l = absurd (omega arith)
  steps_past zero (suc n) t x e h l = (let q : t ≡ x = cc in ap (λ o. elim o as (λ x. Option Term) [ None ↦ None | Some y ↦ steps f n y ]) (ap f q ∙ h))
  steps_past (suc c) (suc n) t x e h l =
      let k = first_of_steps f w c x (f t) e in
      ap (λ o. elim o as (λ x. Option Term) [ None ↦ None | Some y ↦ steps f n y ]) k.1 ∙ steps_past c n k.0 x k.2 h (omega arith)

  pub longer : (n : ℕ) {t s : Term} → Par t s → IsSome (steps f n s) → IsSome (steps f n t)
  longer n {t} {s} p h = go (steps f n t) refl
    where
      go : (o : Option Term) → steps f n t ≡ o → IsSome (steps f n t)
      go (Some x) e = IsSome_from (steps f n t) x e
      go None e =
          let k = ends_where n t e in
          let m = no_longer f w k.count p k.end k.leads in
          absurd (none_is_not (steps f n s) h (steps_past m.count n s m.end m.leads (w.stays m.near k.over) (omega (arith, m.fewer, k.fewer))))

  pub all_longer : (n : ℕ) {t s : Term} → Pars t s → IsSome (steps f n s) → IsSome (steps f n t)
  all_longer n (stop t) h = h
  all_longer n (step p ps) h = longer n p (all_longer n ps h)

pub works_longer : {n : ℕ} {t s : Term} → Works n t s → (m : ℕ) → IsSome (steps head_step m s) → IsSome (steps head_step (n + m) t)
works_longer (rests t) m h = (let q : m ≡ 0 + m = omega arith in subst (λ k. IsSome (steps head_step k t)) q h)
works_longer (contracts {n = n} {t = t} {r = r} e w) m h =
    let q : suc (n + m) ≡ suc n + m = omega arith in
    subst (λ k. IsSome (steps head_step k t)) q
    (subst IsSome (sym (ap (λ o. elim o as (λ x. Option Term) [ None ↦ None | Some y ↦ steps head_step (n + m) y ]) e)) (works_longer w m h))
works_longer (elsewhere {n = n} p w) m h = all_longer head_step head_strategy (n + m) (reduces_pars p) (works_longer w m h)

-- a run that is stopped told that the count is above the limit
pub deep_where : (limit : ℕ) (t : Term) (e : TermRefusal) → IsStopped limit limit t e → IsDeepOnlyWhere limit t e
deep_where limit t Memory k = tt
deep_where limit t (Deep n) k =
    let one : IsSome (steps head_step 1 k.1) = first_step (head_step k.1) k.3 in
    let q : limit + 1 ≡ suc limit = omega arith in
    (k.0, subst (λ j. IsSome (steps head_step j t)) q (works_longer k.2 1 one))
  where
    first_step : (o : Option Term) → IsSome o → IsSome (elim o as (λ x. Option Term) [ None ↦ None | Some y ↦ Some y ])
    first_step None h = absurd (none_is_not None h refl)
    first_step (Some x) h = refl
