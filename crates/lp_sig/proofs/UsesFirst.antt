-- Of the places that are good the uses come before them in the order of loading, by induction over what is loaded: each that was
-- entered and is not yet settled waits for the one at hand, and no good one waits for itself.
use Rattle.std.proofs.Common.{◌≡◌, ℕ, ◌<◌, ◌≤◌, List, [], ◌∷◌, ◌++◌, Bool, true, false, length, get_or, set, refl, sym, ap, subst, ◌∙◌, arith, inl, inr, ⊎_elim, true≢false}
use Rattle.std.specs.Prelude.{Contains, ◌⊎◌}
use Rattle.std.proofs.lemmas.List.Elements.{Contains-append_right, Contains-append_cases}
use Rattle.lp_lemmas.proofs.Elements.{Contains_single}
use Rattle.lp_sig.specs.Loading.{Way, ways_out, Loads, again, first, LoadsAll, none, next, LeadsTo, there, onward, HasNoCircle}
use Rattle.lp_sig.specs.UseOrder.{Behind, UsesComeFirst}
use Rattle.lp_sig.specs.declared.walk.Step.{Step}
use Rattle.lp_sig.specs.declared.walk.Step.TheVariants.{Enter, Declare}
use Rattle.lp_sig.proofs.Circles.{still, before}

-- what was settled stays so
pub stays_behind : (P : ℕ → Type 0) (steps : List Step) (k : ℕ) → P k → Behind P steps k
stays_behind P [] k p = p
stays_behind P (Enter i ∷ ss) k p = stays_behind P ss k p
stays_behind P (Declare i ∷ ss) k p = stays_behind (λ j. P j ⊎ (j ≡ i)) ss k (inl p)

pub behind_more : (P : ℕ → Type 0) (Q : ℕ → Type 0) (steps : List Step) → ((k : ℕ) → P k → Q k) → (k : ℕ) → Behind P steps k → Behind Q steps k
behind_more P Q [] f k b = f k b
behind_more P Q (Enter i ∷ ss) f k b = behind_more P Q ss f k b
behind_more P Q (Declare i ∷ ss) f k b = behind_more (λ j. P j ⊎ (j ≡ i)) (λ j. Q j ⊎ (j ≡ i)) ss (λ j x. ⊎_elim (λ p. inl (f j p)) (λ e. inr e) x) k b

pub first_more : (ways : List (List Way)) (G : ℕ → Type 0) (P : ℕ → Type 0) (Q : ℕ → Type 0) (steps : List Step) → ((k : ℕ) → P k → Q k) → UsesComeFirst ways G P steps → UsesComeFirst ways G Q steps
first_more ways G P Q [] f u = tt
first_more ways G P Q (Enter i ∷ ss) f u = first_more ways G P Q ss f u
first_more ways G P Q (Declare i ∷ ss) f u = (λ g w c. f w.1 (u.0 g w c), first_more ways G (λ j. P j ⊎ (j ≡ i)) (λ j. Q j ⊎ (j ≡ i)) ss (λ j x. ⊎_elim (λ p. inl (f j p)) (λ e. inr e) x) u.1)

-- the first step, and lists of steps one after the other
pub one_behind : (P : ℕ → Type 0) (x : Step) (steps : List Step) (k : ℕ) → Behind P (x ∷ steps) k → Behind (λ j. Behind P (x ∷ []) j) steps k
one_behind P (Enter i) steps k h = h
one_behind P (Declare i) steps k h = h

pub one_first : (ways : List (List Way)) (G : ℕ → Type 0) (P : ℕ → Type 0) (x : Step) (steps : List Step) → UsesComeFirst ways G P (x ∷ steps) → UsesComeFirst ways G P (x ∷ []) × UsesComeFirst ways G (λ j. Behind P (x ∷ []) j) steps
one_first ways G P (Enter i) steps u = (tt, u)
one_first ways G P (Declare i) steps u = ((u.0, tt), u.1)

behind_append : (P : ℕ → Type 0) (a b : List Step) (k : ℕ) → Behind (λ j. Behind P a j) b k → Behind P (a ++ b) k
behind_append P [] b k h = h
behind_append P (Enter i ∷ ss) b k h = behind_append P ss b k h
behind_append P (Declare i ∷ ss) b k h = behind_append (λ j. P j ⊎ (j ≡ i)) ss b k h

first_append : (ways : List (List Way)) (G : ℕ → Type 0) (P : ℕ → Type 0) (a b : List Step) → UsesComeFirst ways G P a → UsesComeFirst ways G (λ j. Behind P a j) b → UsesComeFirst ways G P (a ++ b)
first_append ways G P [] b x y = y
first_append ways G P (Enter i ∷ ss) b x y = first_append ways G P ss b x y
first_append ways G P (Declare i ∷ ss) b x y = (x.0, first_append ways G (λ j. P j ⊎ (j ≡ i)) ss b x.1 y)

leads_through : (ways : List (List Way)) (a b c : ℕ) → LeadsTo ways a b → LeadsTo ways b c → LeadsTo ways a c
leads_through ways a b c (there e) m = subst (λ x. LeadsTo ways x c) (sym e) m
leads_through ways a b c (onward w d l) m = onward w d (leads_through ways w.1 b c l m)

not_set : (m : List Bool) (j i : ℕ) → get_or (set m j true) i true ≡ false → get_or m i true ≡ false
not_set m j i h = by (get_or m i true) refl
  where
    by : (b : Bool) → get_or m i true ≡ b → b ≡ false
    by true e = absurd (true≢false (sym (still m i j e) ∙ h))
    by false e = refl

nothing_in : {A : Type 0} (xs : List A) (x : A) → xs ≡ [] → Contains xs x → ⊥
nothing_in xs x e c = let q : length xs ≡ 0 = ap length e in omega (arith, c.1, q)

-- the declarations among the steps of a place
past_entry : (i k : ℕ) (inner : List Step) → Contains (Enter i ∷ inner) (Declare k) → Contains inner (Declare k)
past_entry i k inner c = ⊎_elim (λ x. absurd (other (Contains_single (Enter i) (Declare k) x))) (λ y. y) (Contains-append_cases (Enter i ∷ []) inner (Declare k) c)
  where
    other : Enter i ≡ Declare k → ⊥
    other e = absurd (cc)

own_or_inner : (i k : ℕ) (inner : List Step) → Contains (Enter i ∷ (inner ++ Declare i ∷ [])) (Declare k) → Contains (Enter i ∷ inner) (Declare k) ⊎ (i ≡ k)
own_or_inner i k inner c = ⊎_elim (λ x. inl x) (λ y. inr (same (Contains_single (Declare i) (Declare k) y))) (Contains-append_cases (Enter i ∷ inner) (Declare i ∷ []) (Declare k) c)
  where
    same : Declare i ≡ Declare k → i ≡ k
    same e = cc

module _ (ways : List (List Way)) (n from : ℕ) (G : ℕ → Type 0) where
  -- a place that was entered and leads to another by one of its words
  abbrev pub Waits : ℕ → ℕ → Type 0
  Waits k i = (from ≤ k) × ((w : Way) × Contains (ways_out ways k) w × LeadsTo ways w.1 i)

  -- what a good place uses is good; of those from a place on, good ones do not lead back, and none uses a place past the last
  pub record AreGood : Type 0 where
    pub closed : (k : ℕ) → G k → (w : Way) → Contains (ways_out ways k) w → G w.1
    pub free : (k : ℕ) → from ≤ k → k < n → G k → HasNoCircle ways k
    pub inside : (k : ℕ) → from ≤ k → k < n → (w : Way) → Contains (ways_out ways k) w → w.1 < n

  -- what has no mark stands from the place on
  abbrev pub AreLate : List Bool → Type 0
  AreLate m = (k : ℕ) → k < n → get_or m k true ≡ false → from ≤ k

  -- a good place that is marked has this property
  abbrev pub AreMarked : List Bool → (ℕ → Type 0) → Type 0
  AreMarked m Q = (k : ℕ) → k < n → get_or m k true ≡ true → G k → Q k

  pub record IsLoaded (P : ℕ → Type 0) (old new : List Bool) (steps : List Step) : Type 0 where
    pub order : UsesComeFirst ways G P steps
    pub marked : AreMarked new (λ k. Behind P steps k ⊎ (get_or old k true ≡ true))
    pub clear : (k : ℕ) → get_or new k true ≡ false → get_or old k true ≡ false
    pub fresh : (k : ℕ) → Contains steps (Declare k) → (k < n) × (get_or old k true ≡ false)

  nothing_loaded : (P : ℕ → Type 0) (old new : List Bool) (steps : List Step) → steps ≡ [] → new ≡ old → IsLoaded P old new steps
  nothing_loaded P old new steps e m = record {
    order = subst (UsesComeFirst ways G P) (sym e) tt;
    marked = λ k lt g good. inr (ap (λ z. get_or z k true) (sym m) ∙ g);
    clear = λ k g. ap (λ z. get_or z k true) (sym m) ∙ g;
    fresh = λ k c. absurd (nothing_in steps (Declare k) e c);
  }

  -- a place behind all that it uses
  itself_loaded : (P : ℕ → Type 0) (old new : List Bool) (i : ℕ) (inner steps : List Step) → i < n → get_or old i true ≡ false → steps ≡ Enter i ∷
      (inner ++ Declare i ∷ []) → IsLoaded P (set old i true) new inner → (G i → (w : Way) → Contains (ways_out ways i) w → Behind P inner w.1) →
      IsLoaded P old new steps × Behind P steps i
  itself_loaded P old new i inner steps l h s r each = (
    record {
      order = subst (UsesComeFirst ways G P) (sym s) (first_append ways G P inner (Declare i ∷ []) r.order (each, tt));
      marked = λ k lt g good. ⊎_elim (λ b. inl (joined k (inl b))) (λ h. ⊎_elim (λ e. inl (joined k (inr e))) (λ o. inr o) (before old k i h)) (r.marked k lt g good);
      clear = λ k g. not_set old i k (r.clear k g);
      fresh = λ k c. ⊎_elim (λ d. let f = r.fresh k (past_entry i k inner d) in (f.0, not_set old i k f.1)) (λ e. (subst (λ j. j < n) e l, subst (λ j. get_or old j true ≡ false) e h))
          (own_or_inner i k inner (subst (λ z. Contains z (Declare k)) s c));
    },
    joined i (inr refl),
  )
    where
      joined : (k : ℕ) → Behind P inner k ⊎ (k ≡ i) → Behind P steps k
      joined k h = subst (λ z. Behind P z k) (sym s) (behind_append P inner (Declare i ∷ []) k h)

  -- steps and those behind them
  both_loaded : (P : ℕ → Type 0) (old mid new : List Bool) (a b steps : List Step) → steps ≡ a ++ b → IsLoaded P old mid a → IsLoaded (λ j. Behind P a j) mid new b → IsLoaded P old new steps
  both_loaded P old mid new a b steps s r q = record {
    order = subst (UsesComeFirst ways G P) (sym s) (first_append ways G P a b r.order q.order);
    marked = λ k lt g good. ⊎_elim (λ x. inl (joined k x)) (λ h. ⊎_elim (λ x. inl (joined k (stays_behind (λ j. Behind P a j) b k x))) (λ o. inr o) (r.marked k lt h good)) (q.marked k lt g good);
    clear = λ k g. r.clear k (q.clear k g);
    fresh = λ k c. ⊎_elim (λ d. r.fresh k d) (λ d. let f = q.fresh k d in (f.0, r.clear k f.1)) (Contains-append_cases a b (Declare k) (subst (λ z. Contains z (Declare k)) s c));
  }
    where
      joined : (k : ℕ) → Behind (λ j. Behind P a j) b k → Behind P steps k
      joined k h = subst (λ z. Behind P z k) (sym s) (behind_append P a b k h)

  -- what waits for a place waits for each that it uses
  waits_on : (P : ℕ → Type 0) (p k : ℕ) (w : Way) → from ≤ p → Contains (ways_out ways p) w → P k ⊎ ((k ≡ p) ⊎ Waits k p) → P k ⊎ Waits k w.1
  waits_on P p k w late c (inl x) = inl x
  waits_on P p k w late c (inr (inl e)) = inr (subst (λ j. Waits j w.1) (sym e) (late, (w, c, there refl)))
  waits_on P p k w late c (inr (inr o)) = inr (o.0, (o.1.0, o.1.1, leads_through ways o.1.0.1 p w.1 o.1.2 (onward w c (there refl))))

  either_word : (w v : Way) (more : List Way) (Q : ℕ → Type 0) → Contains (w ∷ more) v → Q w.1 → (Contains more v → Q v.1) → Q v.1
  either_word w v more Q c q f = ⊎_elim (λ x. subst (λ u. Q u.1) (Contains_single w v x) q) f (Contains-append_cases (w ∷ []) more v c)

  module _ (good : AreGood) where
    never_waits : (i : ℕ) → i < n → G i → Waits i i → ⊥
    never_waits i l g o = good.free i o.0 l g o.1.0 o.1.1 o.1.2

    mutual
      pub loads_first : (P : ℕ → Type 0) (old new : List Bool) (i : ℕ) (steps : List Step) → Loads ways old i steps new → i < n → AreLate old → AreMarked old (λ k. P k ⊎ Waits k i) → IsLoaded P old new steps × (G i → Behind P steps i)
      loads_first P old new i steps (again h e m) l late marks = (nothing_loaded P old new steps e m, λ g. subst (λ s. Behind P s i) (sym e) (⊎_elim (λ p. p) (λ o. absurd (never_waits i l g o)) (marks i l h g)))
      loads_first P old new i steps (first h inner all s) l late marks =
          let r = all_first P (set old i true) new i (ways_out ways i) inner all (late i l h) l (λ w c. c) (λ k lt g. late k lt (not_set old i k g))
          (λ k lt g x. ⊎_elim (λ e. inr (inl e)) (λ o. ⊎_elim (λ p. inl p) (λ q. inr (inr q)) (marks k lt o x)) (before old k i g)) in
          let q = itself_loaded P old new i inner steps l h s r.0 (λ x w c. r.1 w c (good.closed i x w c)) in (q.0, λ x. q.1)

      all_first : (P : ℕ → Type 0) (old new : List Bool) (p : ℕ) (words : List Way) (steps : List Step) → LoadsAll ways old words steps new → from ≤ p → p < n → ((w : Way) → Contains words w → Contains (ways_out ways p) w) → AreLate old →
          AreMarked old (λ k. P k ⊎ ((k ≡ p) ⊎ Waits k p)) → IsLoaded P old new steps × ((w : Way) → Contains words w → G w.1 → Behind P steps w.1)
      all_first P old new p words steps (none e s m) behind below among late marks = (nothing_loaded P old new steps s m, λ w c x. absurd (nothing_in words w e c))
      all_first P old new p words steps (next w more is mid a b one rest s) behind below among late marks =
          let c = among w (subst (λ z. Contains z w) (sym is) (0, omega arith, refl)) in
          let r = loads_first P old mid w.1 a one (good.inside p behind below w c) late (λ k lt g x. waits_on P p k w behind c (marks k lt g x)) in
          let q = all_first (λ j. Behind P a j) mid new p more b rest behind below (λ v d. among v (subst (λ z. Contains z v) (sym is) (Contains-append_right (w ∷ []) more v d))) (λ k lt g. late k lt (r.0.clear k g))
          (λ k lt g x. ⊎_elim (λ y. inl y) (λ h. ⊎_elim (λ y. inl (stays_behind P a k y)) (λ o. inr o) (marks k lt h x)) (r.0.marked k lt g x)) in (
            both_loaded P old mid new a b steps s r.0 q.0,
            λ v d. subst (λ z. G v.1 → Behind P z v.1) (sym s) (λ x. behind_append P a b v.1 (either_word w v more (λ j. G j → Behind (λ j. Behind P a j) b j) (subst (λ z. Contains z v) is d) (λ y. stays_behind (λ j. Behind P a j) b w.1 (r.1 y)) (q.1 v) x)),
          )
