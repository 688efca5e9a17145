-- Whether words lead to a signature: what is marked is closed under accum_sig, but for the words on the stack.
use Rattle.std.proofs.Common.{◌≡◌, ℕ, zero, suc, ◌+◌, ◌<◌, ◌≤◌, List, [], ◌∷◌, ◌++◌, Bool, true, false, length, take, get_or, set, replicate, take_all, not, refl, sym, ap, subst, ◌∙◌, arith, inl, inr, ⊎_elim, true≢false}
use Rattle.std.specs.Prelude.{Contains, ◌⊎◌, if◌then◌else◌}
use Rattle.std.proofs.lemmas.List.{take_more, get_or_default}
use Rattle.std.proofs.lemmas.List.Elements.{Contains-append_left, Contains-append_right, Contains-append_cases, Contains-push, Contains-push_cases}
use Rattle.lp_lemmas.proofs.Elements.{Contains_single}
use Rattle.lp_sig.specs.Loading.{Way, ways_out, LeadsTo, there, onward, NoneLeads, HasNoCircle, IsCircle}
use Rattle.lp_sig.specs.Walking.{SomeLeads, IsCircleFault, IsFirstCircleFault}
use Rattle.lp_sig.specs.declared.fault.SigFault.{SigFault}
use Rattle.lp_sig.specs.declared.fault.SigFault.TheVariants as fault
use Rattle.lp_sig.specs.declared.walk.Step.{Step}
use Rattle.lp_sig.specs.declared.walk.Step.TheVariants.{Enter, Declare}

pub still : (m : List Bool) (i j : ℕ) → get_or m i true ≡ true → get_or (set m j true) i true ≡ true
still [] i j h = refl
still (b ∷ bs) zero zero h = refl
still (b ∷ bs) (suc i) zero h = h
still (b ∷ bs) zero (suc j) h = h
still (b ∷ bs) (suc i) (suc j) h = still bs i j h

pub here : (m : List Bool) (j : ℕ) → get_or (set m j true) j true ≡ true
here [] j = refl
here (b ∷ bs) zero = refl
here (b ∷ bs) (suc j) = here bs j

pub before : (m : List Bool) (i j : ℕ) → get_or (set m j true) i true ≡ true → (i ≡ j) ⊎ (get_or m i true ≡ true)
before [] i j h = inr refl
before (b ∷ bs) zero zero h = inl refl
before (b ∷ bs) (suc i) zero h = inr h
before (b ∷ bs) zero (suc j) h = inr h
before (b ∷ bs) (suc i) (suc j) h = ⊎_elim (λ e. inl (ap suc e)) (λ g. inr g) (before bs i j h)

pub clear : (n i : ℕ) → i < n → get_or (replicate n false) i true ≡ false
clear zero i h = absurd (omega (arith, h))
clear (suc n) zero h = refl
clear (suc n) (suc i) h = clear n i (omega (arith, h))

inside : (ways : List (List Way)) (i : ℕ) (w : Way) → Contains (ways_out ways i) w → i < length ways
inside [] i w c = absurd (omega (arith, c.1))
inside (o ∷ os) zero w c = omega arith
inside (o ∷ os) (suc i) w c = let h = inside os i w c in omega (arith, h)

-- a word is marked, and leads on, or it is on the stack
abbrev pub Settled : List Bool → List Way → ℕ → Way → Type 0
Settled m work to w = ((get_or m w.1 true ≡ true) × (w.1 ≡ to → ⊥)) ⊎ Contains work w

pub record Closed (ways : List (List Way)) (words : List Way) (to : ℕ) (m : List Bool) (work : List Way) : Type 0 where
  pub sound : (w : Way) → Contains work w → LeadsTo ways w.1 to → SomeLeads ways words to
  pub begun : (w : Way) → Contains words w → Settled m work to w
  pub closed : (i : ℕ) → i < length ways → get_or m i true ≡ true → (i ≡ to → ⊥) × ((w : Way) → Contains (ways_out ways i) w → Settled m work to w)

pub at_start : (ways : List (List Way)) (words : List Way) (to : ℕ) (m : List Bool) (work : List Way) → m ≡ replicate (length ways) false → work ≡ words → Closed ways words to m work
at_start ways words to m work marks same = record {
  sound = λ w c l. (w, subst (λ z. Contains z w) same c, l);
  begun = λ w c. inr (subst (λ z. Contains z w) (sym same) c);
  closed = λ i lt h. absurd (true≢false (sym h ∙ ap (λ z. get_or z i true) marks ∙ clear (length ways) i lt));
}

module _ (ways : List (List Way)) (words : List Way) (to : ℕ) (m : List Bool) (all old : List Way) (w : Way) where
  -- the word on top leads there itself
  pub found : all ≡ old ++ w ∷ [] → Closed ways words to m all → w.1 ≡ to → SomeLeads ways words to
  found off c e = c.sound w (subst (λ z. Contains z w) (sym off) (Contains-push old w)) (there e)

  pub skipped : (m' : List Bool) → m' ≡ m → all ≡ old ++ w ∷ [] → Closed ways words to m all → (w.1 ≡ to → ⊥) → get_or m w.1 true ≡ true → Closed ways words to m' old
  skipped m' same off c other h = subst (λ z. Closed ways words to z old) (sym same) (record {
    sound = λ v d l. c.sound v (subst (λ z. Contains z v) (sym off) (Contains-append_left old (w ∷ []) v d)) l;
    begun = λ v d. settle v (c.begun v d);
    closed = λ i lt g. let x = c.closed i lt g in (x.0, λ v d. settle v (x.1 v d));
  })
    where
      settle : (v : Way) → Settled m all to v → Settled m old to v
      settle v (inl x) = inl x
      settle v (inr d) = ⊎_elim (λ e. inr e) (λ e. inl (subst (λ u. get_or m u.1 true ≡ true) e h, subst (λ u. u.1 ≡ to → ⊥) e other)) (Contains-push_cases old w v (subst (λ z. Contains z v) off d))

  pub opened : (m' : List Bool) (work : List Way) → all ≡ old ++ w ∷ [] → Closed ways words to m all → (w.1 ≡ to → ⊥) → m' ≡ set m w.1 true → work ≡ old ++ ways_out ways w.1 → Closed ways words to m' work
  opened m' work off c other marks stack = record {
    sound = λ v d l. ⊎_elim (λ e. c.sound v (subst (λ z. Contains z v) (sym off) (Contains-append_left old (w ∷ []) v e)) l)
        (λ e. c.sound w (subst (λ z. Contains z w) (sym off) (Contains-push old w)) (onward v e l))
        (Contains-append_cases old (ways_out ways w.1) v (subst (λ z. Contains z v) stack d));
    begun = λ v d. settle v (c.begun v d);
    closed = λ i lt g. ⊎_elim (λ e. mine i e) (λ h. let x = c.closed i lt h in (x.0, λ v d. settle v (x.1 v d))) (before m i w.1 (sym (ap (λ z. get_or z i true) marks) ∙ g));
  }
    where
      settle : (v : Way) → Settled m all to v → Settled m' work to v
      settle v (inl x) = inl (ap (λ z. get_or z v.1 true) marks ∙ still m v.1 w.1 x.0, x.1)
      settle v (inr d) = ⊎_elim (λ e. inr (subst (λ z. Contains z v) (sym stack) (Contains-append_left old (ways_out ways w.1) v e)))
          (λ e. inl (subst (λ u. get_or m' u.1 true ≡ true) e (ap (λ z. get_or z w.1 true) marks ∙ here m w.1), subst (λ u. u.1 ≡ to → ⊥) e other))
          (Contains-push_cases old w v (subst (λ z. Contains z v) off d))

      mine : (i : ℕ) → i ≡ w.1 → (i ≡ to → ⊥) × ((v : Way) → Contains (ways_out ways i) v → Settled m' work to v)
      mine i e = (λ f. other (sym e ∙ f), λ v d. inr (subst (λ z. Contains z v) (sym stack) (Contains-append_right old (ways_out ways w.1) v (subst (λ i. Contains (ways_out ways i) v) e d))))

-- when the stack is empty no word leads there
pub at_end : (ways : List (List Way)) (words : List Way) (to : ℕ) (m : List Bool) (work : List Way) → work ≡ [] → Closed ways words to m work → NoneLeads ways words to
at_end ways words to m work empty c = λ w d l. let x = sure w (c.begun w d) in nowhere l refl x.0 x.1
  where
    sure : (w : Way) → Settled m work to w → (get_or m w.1 true ≡ true) × (w.1 ≡ to → ⊥)
    sure w (inl x) = x
    sure w (inr d) = let e = subst (λ z. Contains z w) empty d in absurd (omega (arith, e.1))

    nowhere : {a b : ℕ} → LeadsTo ways a b → b ≡ to → get_or m a true ≡ true → (a ≡ to → ⊥) → ⊥
    nowhere (there e) f h other = other (e ∙ f)
    nowhere {a} {b} (onward w d l) f h other = let x = sure w ((c.closed a (inside ways a w d) h).1 w d) in nowhere l f x.0 x.1

-- the one word leads there, or does not
pub one_leads : (ways : List (List Way)) (w : Way) (to : ℕ) → SomeLeads ways (w ∷ []) to → LeadsTo ways w.1 to
one_leads ways w to x = subst (λ v. LeadsTo ways v.1 to) (sym (Contains_single w x.0 x.1)) x.2

alone : (w : Way) → Contains (w ∷ []) w
alone w = (0, omega arith, refl)

pub none_more : (ways : List (List Way)) (words : List Way) (k : ℕ) (d : Way) (to : ℕ) → k < length words → NoneLeads ways (take k words) to → NoneLeads ways (get_or words k d ∷ []) to → NoneLeads ways (take (k + 1) words) to
none_more ways words k d to h before one = λ v c l. ⊎_elim (λ e. before v e l) (λ e. one v (subst (λ u. Contains (get_or words k d ∷ []) u) e (alone (get_or words k d))) l) (Contains-push_cases (take k words) (get_or words k d) v (subst (λ z. Contains z v) (take_more words k d h) c))

pub none_of_all : (ways : List (List Way)) (words : List Way) (k to : ℕ) → length words ≤ k → NoneLeads ways (take k words) to → NoneLeads ways words to
none_of_all ways words k to h before = subst (λ z. NoneLeads ways z to) (take_all k words h) before

pub none_of_none : (ways : List (List Way)) (words : List Way) (to : ℕ) → words ≡ [] → NoneLeads ways words to
none_of_none ways words to none = λ w c l. let e = subst (λ z. Contains z w) none c in absurd (omega (arith, e.1))

-- the first word that leads there
pub circle_at : (ways : List (List Way)) (words : List Way) (k : ℕ) (d : Way) (to : ℕ) → k < length words → NoneLeads ways (take k words) to → SomeLeads ways (get_or words k d ∷ []) to → IsCircle ways words to (get_or words k d).0
circle_at ways words k d to h before some = record {
  k = k;
  to = (get_or words k d).1;
  inside = h;
  word = get_or_default words k (get_or words k d) d h;
  leads = one_leads ways (get_or words k d) to some;
  none = before;
}

enter_same : (i j : ℕ) → Enter i ≡ Enter j → i ≡ j
enter_same i j e = cc

module _ (ways : List (List Way)) (steps : List Step) (k : ℕ) (d : Step) where
  circles_more : k < length steps → ((j : ℕ) → Contains (take k steps) (Enter j) → HasNoCircle ways j) → ((j : ℕ) → get_or steps k d ≡ Enter j → HasNoCircle ways j) → (j : ℕ) → Contains (take (k + 1) steps) (Enter j) → HasNoCircle ways j
  circles_more h before this j c = ⊎_elim (before j) (this j) (Contains-push_cases (take k steps) (get_or steps k d) (Enter j) (subst (λ z. Contains z (Enter j)) (take_more steps k d h) c))

  pub after_declare : (i : ℕ) → k < length steps → get_or steps k d ≡ Declare i → ((j : ℕ) → Contains (take k steps) (Enter j) → HasNoCircle ways j) → (j : ℕ) → Contains (take (k + 1) steps) (Enter j) → HasNoCircle ways j
  after_declare i h is before = circles_more h before (λ j e. absurd (cc))

  pub after_enter : (i : ℕ) → k < length steps → get_or steps k d ≡ Enter i → ((j : ℕ) → Contains (take k steps) (Enter j) → HasNoCircle ways j) → HasNoCircle ways i → (j : ℕ) → Contains (take (k + 1) steps) (Enter j) → HasNoCircle ways j
  after_enter i h is before this = circles_more h before (λ j e. subst (HasNoCircle ways) (enter_same i j (sym is ∙ e)) this)

  pub first_fault : (i : ℕ) (e : SigFault) → k < length steps → get_or steps k d ≡ Enter i → ((j : ℕ) → Contains (take k steps) (Enter j) → HasNoCircle ways j) → IsCircleFault ways (ways_out ways i) i e → IsFirstCircleFault ways steps e
  first_fault i (fault.UnknownKind s) h is before f = absurd f
  first_fault i (fault.Arity s) h is before f = absurd f
  first_fault i (fault.Differ s) h is before f = absurd f
  first_fault i (fault.CyclicAbbreviation s) h is before f = absurd f
  first_fault i (fault.CyclicSignature s) h is before f = record { k = k; i = i; inside = h; entered = get_or_default steps k (Enter i) d h ∙ is; circle = f; none = before }
  first_fault i (fault.Limit l) h is before f = absurd f
  first_fault i fault.Memory h is before f = tt
  first_fault i (fault.Header s) h is before f = absurd f

  pub all_steps : length steps ≤ k → ((j : ℕ) → Contains (take k steps) (Enter j) → HasNoCircle ways j) → (j : ℕ) → Contains steps (Enter j) → HasNoCircle ways j
  all_steps h before = λ j c. before j (subst (λ z. Contains z (Enter j)) (sym (take_all k steps h)) c)

-- what a mark says
pub seen_mark : (m m' : List Bool) (i : ℕ) → false ≡ not (get_or m i true) → m' ≡ (if get_or m i true then m else set m i true) → (get_or m i true ≡ true) × (m' ≡ m)
seen_mark m m' i f is = by (get_or m i true) refl f is
  where
    by : (b : Bool) → b ≡ get_or m i true → false ≡ not b → m' ≡ (if b then m else set m i true) → (get_or m i true ≡ true) × (m' ≡ m)
    by true e f is = (sym e, is)
    by false e f is = absurd (true≢false (sym f))

pub new_mark : (m m' : List Bool) (i : ℕ) → true ≡ not (get_or m i true) → m' ≡ (if get_or m i true then m else set m i true) → (get_or m i true ≡ false) × (m' ≡ set m i true)
new_mark m m' i f is = by (get_or m i true) refl f is
  where
    by : (b : Bool) → b ≡ get_or m i true → true ≡ not b → m' ≡ (if b then m else set m i true) → (get_or m i true ≡ false) × (m' ≡ set m i true)
    by true e f is = absurd (true≢false f)
    by false e f is = (sym e, is)
