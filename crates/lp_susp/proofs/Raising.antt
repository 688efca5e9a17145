-- The first value of an environment, raised in a cell of its own to stand below one more abstraction.
use Rattle.std.proofs.Common.{◌≡◌, ℕ, zero, suc, ◌+◌, ◌-◌, ◌<◌, ◌≤◌, List, [], ◌∷◌, length, refl, sym, ap, ◌∙◌, subst, arith, inl, nat_lt, if◌then◌else◌}
use Rattle.std.specs.Prelude.{All}
use Rattle.std.proofs.lemmas.List.Elements.{All-cons}
use Rattle.lp_calculus.specs.Term.{Term, index, abs, replace, shift}
use Rattle.lp_calculus.proofs.Sigma.{rename}
use Rattle.lp_calculus.proofs.Plain.{shift-none, shift-suc}
use Rattle.lp_store.specs.declared.cell.CellId.{CellId}
use Rattle.lp_store.specs.declared.cell.EnvEntry.{EnvEntry}
use Rattle.lp_store.specs.declared.cell.EnvEntry.TheVariants.{Value, Dummy}
use Rattle.lp_store.specs.Contents.{Contents, env_list}
use Rattle.lp_store.specs.Reading.{Avoids, AvoidsAll, IsAmong, Reads, ReadAll, more, values, entry, carried, FitsEntry}
use Rattle.lp_store.specs.Sound.{StandsEntry}
use Rattle.lp_store.specs.Change.{Extends}
use Rattle.lp_store.proofs.Carrying.{replace-by}
use Rattle.lp_susp.specs.declared.carrying.Pending.{Pending}
use Rattle.lp_susp.specs.Pending.{IsPending, Carries, Raises}
use Rattle.lp_susp.proofs.Laws.{below_is, read_all_kept}
use Rattle.lp_susp.proofs.Chains.{extends_on, avoids_kept, avoids_all_kept, avoids_cons, avoids_tail, values_below}

-- what fits below so many abstractions fits below one more
pub fits_more : (nl k : ℕ) → k ≡ suc nl → (es : List EnvEntry) → All (FitsEntry nl) es → All (FitsEntry k) es
fits_more nl k q [] a = λ i d h. absurd (omega arith)
fits_more nl k q (Value c l ∷ es) a =
    let f : l ≤ nl = a 0 (Value c l) (omega arith) in
    All-cons (FitsEntry k) (Value c l) es (omega (arith, f, q)) (fits_more nl k q es (λ i d h. a (suc i) d (omega arith)))
fits_more nl k q (Dummy l ∷ es) a =
    let f : l < nl = a 0 (Dummy l) (omega arith) in
    All-cons (FitsEntry k) (Dummy l) es (omega (arith, f, q)) (fits_more nl k q es (λ i d h. a (suc i) d (omega arith)))

shift_more : (d k : ℕ) (u : Term) → shift 0 d (shift 0 k u) ≡ shift 0 (k + d) u
shift_more zero k u = shift-none (shift 0 k u) ∙ ap (λ n. shift 0 n u) (omega arith)
shift_more (suc d) k u = shift-suc d (shift 0 k u) ∙ ap (rename suc) (shift_more d k u) ∙ sym (shift-suc (k + d) u) ∙ ap (λ n. shift 0 n u) (omega arith)

-- an environment that is left as it is
pub raises_same : (s : Contents) (nl : ℕ) (es : List EnvEntry) → All (FitsEntry nl) es → Raises s s nl es es
raises_same s nl es a = record {
  entries = refl;
  fits = a;
  gives = λ us r. (us, r, λ d j. refl);
}

-- one whose first value is raised
raised_gives : (s z : Contents) (nl l : ℕ) (v c : CellId) (es : List EnvEntry) → l ≤ nl → ((u : Term) → Reads s v.0 u → Reads z c.0 (shift 0 (nl - l) u)) → Extends s z → (us : List Term) → ReadAll s (v.0 ∷ values es) us →
    (vs : List Term) × ReadAll z (c.0 ∷ values es) vs × ((d j : ℕ) → entry nl d (Value c nl ∷ es) vs j ≡ entry nl d (Value v l ∷ es) us j)
raised_gives s z nl l v c es h f e us (more {t = u} {ts = ts} r q) = (shift 0 (nl - l) u ∷ ts, more (f u r) (read_all_kept e q), same)
  where
    same : (d j : ℕ) → entry nl d (Value c nl ∷ es) (shift 0 (nl - l) u ∷ ts) j ≡ entry nl d (Value v l ∷ es) (u ∷ ts) j
    same d zero =
        let n : nl - nl + d ≡ d = omega arith in
        ap (λ k. shift 0 k (shift 0 (nl - l) u)) n ∙ shift_more d (nl - l) u
    same d (suc j) = refl

pub raises_value : (s z : Contents) (nl l : ℕ) (v c : CellId) (old rest new : List EnvEntry) → old ≡ Value v l ∷ rest → new ≡ Value c nl ∷ rest → All (FitsEntry nl) old → ((u : Term) → Reads s v.0 u → Reads z c.0 (shift 0 (nl - l) u)) → Extends s z → Raises s z nl old new
raises_value s z nl l v c old rest new p q a f e = go (subst (All (FitsEntry nl)) p a)
  where
    go : All (FitsEntry nl) (Value v l ∷ rest) → Raises s z nl old new
    go b =
        let h : l ≤ nl = b 0 (Value v l) (omega arith) in
        let w : All (FitsEntry nl) (Value c nl ∷ rest) = All-cons (FitsEntry nl) (Value c nl) rest (omega arith) (λ i d g. b (suc i) d (omega arith)) in
        let r : Raises s z nl (Value v l ∷ rest) (Value c nl ∷ rest) = record { entries = refl; fits = w; gives = λ us k. raised_gives s z nl l v c rest h f e us k } in
        subst (λ x. Raises s z nl old x) (sym q) (subst (λ x. Raises s z nl x (Value c nl ∷ rest)) (sym p) r)

-- below an abstraction
pub below_carries : (s a z : Contents) (x y : Pending) (fs : List EnvEntry) (m r : Term) → All (FitsEntry x.nl) (env_list s.envs x.env.0) → (k : ℕ) → k ≡ suc x.nl → Raises s a k (env_list s.envs x.env.0) fs → Extends a z → y.nl ≡ suc x.nl →
    env_list z.envs y.env.0 ≡ Dummy x.nl ∷ fs → Carries s x (abs m) r → (n : Term) × Carries z y m n × (abs n ≡ r)
below_carries s a z x y fs m r f k kq w e g h c =
    let es = env_list s.envs x.env.0 in
    let v = w.gives c.terms c.read in
    let n = replace (carried (suc x.nl) (Dummy x.nl ∷ fs) v.0) 0 m in (
      n,
      record {
        terms = v.0;
        read = subst (λ l. ReadAll z (values l) v.0) (sym h) (read_all_kept e v.1);
        is = (λ i. replace (carried (sym g i) (sym h i) v.0) 0 m);
      },
      ap abs (replace-by (carried (suc x.nl) (Dummy x.nl ∷ fs) v.0) (carried (suc x.nl) (Dummy x.nl ∷ es) c.terms)
          (λ d i. ap (λ t. if nat_lt i d then index i else t) (same x.nl es fs c.terms v.0 (λ b j. subst (λ o. entry o b fs v.0 j ≡ entry o b es c.terms j) kq (v.2 b j)) d (i - d))) 0 0 refl m) ∙
          sym (c.is ∙ below_is x.nl es c.terms f m),
    )
  where
    same : (nl : ℕ) (es fs : List EnvEntry) (us vs : List Term) → ((d j : ℕ) → entry (suc nl) d fs vs j ≡ entry (suc nl) d es us j) → (d j : ℕ) → entry (suc nl) d (Dummy nl ∷ fs) vs j ≡ entry (suc nl) d (Dummy nl ∷ es) us j
    same nl es fs us vs q d zero = refl
    same nl es fs us vs q d (suc j) = q d j

pub below_pending : (s a z : Contents) (x y : Pending) (fs : List EnvEntry) (k : ℕ) → k ≡ suc x.nl → IsPending s x → Raises s a k (env_list s.envs x.env.0) fs → y.env.0 ≤ length z.envs → y.nl ≡ suc x.nl → y.ol ≡ suc x.ol →
    env_list z.envs y.env.0 ≡ Dummy x.nl ∷ fs → IsPending z y
below_pending s a z x y fs k q p w h g o e = record {
  within = h;
  entries = ap length e ∙ ap suc (w.entries ∙ p.entries) ∙ sym o;
  fits = subst (λ l. All (FitsEntry y.nl) l) (sym e) (All-cons (FitsEntry y.nl) (Dummy x.nl) fs (omega (arith, g)) (subst (λ n. All (FitsEntry n) fs) (q ∙ sym g) w.fits));
}

-- ways to the values
pub below_avoids : (a z : Contents) (c : ℕ) (fs gs : List EnvEntry) (nl : ℕ) → Extends a z → All (StandsEntry (length a.cells)) fs → gs ≡ Dummy nl ∷ fs → AvoidsAll a c (values fs) → AvoidsAll z c (values gs)
below_avoids a z c fs gs nl e w q h = subst (λ l. AvoidsAll z c (values l)) (sym q) (avoids_all_kept a z c (values fs) e (values_below (length a.cells) fs w) h)

pub raised_avoids : (s a z : Contents) (c nl l : ℕ) (v x : CellId) (old rest new : List EnvEntry) → Extends s a → Extends a z → All (StandsEntry (length s.cells)) old → old ≡ Value v l ∷ rest → new ≡ Value x nl ∷ rest → x.0 < length a.cells →
    (Avoids s c v.0 → Avoids a c x.0) → AvoidsAll s c (values old) → AvoidsAll z c (values new)
raised_avoids s a z c nl l v x old rest new e f w p q hx g h = subst (λ m. AvoidsAll z c (values m)) (sym q) (go (subst (All (StandsEntry (length s.cells))) p w) (subst (λ m. AvoidsAll s c (values m)) p h))
  where
    go : All (StandsEntry (length s.cells)) (Value v l ∷ rest) → AvoidsAll s c (v.0 ∷ values rest) → AvoidsAll z c (x.0 ∷ values rest)
    go b k =
        let r : AvoidsAll s c (values rest) = avoids_tail s c v.0 (values rest) k in
        let below : (j : ℕ) → IsAmong j (values rest) → j < length s.cells = values_below (length s.cells) rest (λ i d y. b (suc i) d (omega arith)) in
        avoids_cons z c x.0 (values rest) (avoids_kept a z c x.0 f hx (g (k v.0 (inl refl)))) (avoids_all_kept s z c (values rest) (extends_on s a z e f) below r)
