-- A variable is set: those around stay as they are.
use Rattle.std.proofs.Common.{◌≡◌, ◌∙◌, ◌<◌, ◌≤◌, ℕ, zero, suc, ◌-◌, ◌+◌, ◌^◌, List, [], ◌∷◌, length, Bool, true, false, Option, Some, None, ap, refl, sym, subst, arith, true≢false, inl, inr, ◌⊎◌, ⊎_elim}
use Rattle.std.specs.Prelude.{nat_le, ◌&&◌, ◌||◌, if◌then◌else◌, min, slice_get, slice_set, option_map}
use Rattle.std.proofs.lemmas.Bool.{leb-true, le-leb, eq-eqb}
use Rattle.std.proofs.lemmas.List.{length-set}
use Rattle.lp_calculus.specs.Types.{Ty}
use Rattle.lp_calculus.specs.Term.{Term, index, atom, abs, app}
use Rattle.lp_code.specs.Symbolic.{Built, variable, held, whole}
use Rattle.lp_code.specs.States.{Home}
use Rattle.lp_code.specs.Rules.{stands_in}
use Rattle.lp_gen.specs.Sources.{IsKnownType}
use Rattle.lp_gen.specs.Steps.{Seen, Around, level_below, level_in, at_level, marked, set_level}
use Rattle.lp_gen.specs.inner.TermSteps.{made_variable}
use Rattle.lp_gen.specs.inner.TermLaw.{Standing, AllLoose, as_set, IsSeen, level_term, with_variables, SameAround, Made}
use Rattle.lp_gen.proofs.Denoting.{held_set}
use Rattle.lp_gen.proofs.Registers.{held_elsewhere, by_same}

some_seen : (v w : Seen) → ◌≡◌ {A = Option Seen} (Some v) (Some w) → v ≡ w
some_seen v w e = cc

pub marked_length : (vs : List Seen) (i : ℕ) → length (marked vs i) ≡ length vs
marked_length [] i = refl
marked_length (v ∷ vs) zero = refl
marked_length (v ∷ vs) (suc i) = ap suc (marked_length vs i)

pub marked_here : (vs : List Seen) (i : ℕ) → slice_get (marked vs i) i ≡ option_map as_set (slice_get vs i)
marked_here [] i = refl
marked_here (v ∷ vs) zero = refl
marked_here (v ∷ vs) (suc i) = marked_here vs i

pub marked_there : (vs : List Seen) (i j : ℕ) → (j ≡ i → ⊥) → slice_get (marked vs i) j ≡ slice_get vs j
marked_there [] i j n = refl
marked_there (v ∷ vs) zero zero n = absurd (n refl)
marked_there (v ∷ vs) zero (suc j) n = refl
marked_there (v ∷ vs) (suc i) zero n = refl
marked_there (v ∷ vs) (suc i) (suc j) n = marked_there vs i j (λ e. n (ap suc e))

abbrev pub set_own : Around → ℕ → Around
set_own a l = record { own = marked a.own (l - a.base); base = a.base; captured = a.captured }

set_is : (a : Around) (l : ℕ) → a.base ≤ l → set_level a l ≡ set_own a l
set_is a l le = ap (λ t. if t then set_own a l else a) (le-leb a.base l le)

at_own : (a : Around) (l : ℕ) → a.base ≤ l → at_level a l ≡ slice_get a.own (l - a.base)
at_own a l le = ap (λ t. if t then slice_get a.own (l - a.base) else a.captured l) (le-leb a.base l le)

set_here : (a : Around) (l : ℕ) → a.base ≤ l → at_level (set_own a l) l ≡ option_map as_set (at_level a l)
set_here a l le = at_own (set_own a l) l le ∙ marked_here a.own (l - a.base) ∙ ap (option_map as_set) (sym (at_own a l le))

set_there : (a : Around) (l m : ℕ) → a.base ≤ l → (m ≡ l → ⊥) → at_level (set_own a l) m ≡ at_level a m
set_there a l m le n = go (nat_le a.base m) refl
  where
    go : (t : Bool) → nat_le a.base m ≡ t → at_level (set_own a l) m ≡ at_level a m
    go true e =
        let k = leb-true a.base m e in
        at_own (set_own a l) m k ∙ marked_there a.own (l - a.base) (m - a.base) (λ z. n (omega (arith, z, k, le))) ∙ sym (at_own a m k)
    go false e =
        ap (λ t. if t then slice_get (marked a.own (l - a.base)) (m - a.base) else a.captured m) e ∙ sym (ap (λ t. if t then slice_get a.own (m - a.base) else a.captured m) e)

-- the variable that was set, or another one
found_after : (a : Around) (l m : ℕ) (v w : Seen) → a.base ≤ l → at_level a l ≡ Some v → at_level (set_own a l) m ≡ Some w →
    ((m ≡ l) × (w ≡ as_set v)) ⊎ ((m ≡ l → ⊥) × (at_level a m ≡ Some w))
found_after a l m v w le e f =
    by_same (((m ≡ l) × (w ≡ as_set v)) ⊎ ((m ≡ l → ⊥) × (at_level a m ≡ Some w))) m l
    (λ s. inl (s, some_seen w (as_set v) (sym f ∙ ap (at_level (set_own a l)) s ∙ set_here a l le ∙ ap (option_map as_set) e)))
    (λ n. inr (n, sym (set_there a l m le n) ∙ f))

pub found_set : (a : Around) (l m : ℕ) (v w : Seen) → a.base ≤ l → at_level a l ≡ Some v → at_level (set_level a l) m ≡ Some w →
    ((m ≡ l) × (w ≡ as_set v)) ⊎ ((m ≡ l → ⊥) × (at_level a m ≡ Some w))
found_set a l m v w le e f = found_after a l m v w le e (ap (λ b. at_level b m) (sym (set_is a l le)) ∙ f)

-- as many variables, of the same types

same_of : (o : Option Seen) → option_map as_set (option_map as_set o) ≡ option_map as_set o
same_of None = refl
same_of (Some v) = refl

pub around_same : (a : Around) → SameAround a a
around_same a = record { base = refl; count = refl; variables = λ l. refl }

pub around_then : (a b c : Around) → SameAround a b → SameAround b c → SameAround a c
around_then a b c x y = record { base = y.base ∙ x.base; count = y.count ∙ x.count; variables = λ l. y.variables l ∙ x.variables l }

around_own : (a : Around) (l : ℕ) → a.base ≤ l → SameAround a (set_own a l)
around_own a l le = record {
  base = refl;
  count = marked_length a.own (l - a.base);
  variables = λ m. by_same (option_map as_set (at_level (set_own a l) m) ≡ option_map as_set (at_level a m)) m l
      (λ s. ap (λ k. option_map as_set (at_level (set_own a l) k)) s ∙ ap (option_map as_set) (set_here a l le) ∙ same_of (at_level a l) ∙ ap (λ k. option_map as_set (at_level a k)) (sym s))
      (λ n. ap (option_map as_set) (set_there a l m le n));
}

pub around_set : (a : Around) (l : ℕ) → a.base ≤ l → SameAround a (set_level a l)
around_set a l le = subst (SameAround a) (sym (set_is a l le)) (around_own a l le)

pub level_same : (a b : Around) (i : ℕ) → SameAround a b → level_in b i ≡ level_in a i
level_same a b i s = λ k. level_below (min (s.base k + s.count k) (2 ^ 64 - 1)) i

no_seen : (w : Seen) → None ≡ Some w → ⊥
no_seen w e = cc

pub seen_of : (o : Option Seen) (w : Seen) → option_map as_set o ≡ Some w → (v : Seen) × (o ≡ Some v) × (as_set v ≡ w)
seen_of None w e = absurd (no_seen w e)
seen_of (Some v) w e = (v, refl, some_seen (as_set v) w e)

pub seen_same : (a b : Around) (Γ : List Ty) (i : ℕ) → SameAround a b → IsSeen a Γ i → IsSeen b Γ i
seen_same a b Γ i s x =
    let w = seen_of (at_level b x.0) (as_set x.1) (s.variables x.0 ∙ ap (option_map as_set) x.3) in
    (x.0, w.0, level_same a b i s ∙ x.2, w.1, x.4 ∙ ap (λ (y : Seen). Some y.of) (sym w.2))

pub all_seen : (a b : Around) (Γ : List Ty) (d : ℕ) (t : Term) → SameAround a b → AllLoose (IsSeen a Γ) d t → AllLoose (IsSeen b Γ) d t
all_seen a b Γ d (index i) s x = λ le. seen_same a b Γ (i - d) s (x le)
all_seen a b Γ d (atom c) s x = tt
all_seen a b Γ d (abs t) s x = all_seen a b Γ (suc d) t s x
all_seen a b Γ d (app t u) s x = (all_seen a b Γ d t s x.0, all_seen a b Γ d u s x.1)

pub variables_same : (σ : ℕ → Term) (a b : Around) (d : ℕ) (t : Term) → SameAround a b → with_variables σ b d t ≡ with_variables σ a d t
variables_same σ a b d (index i) s = ap (λ o. if Rattle.std.specs.Prelude.nat_lt i d then index i else level_term σ o) (level_same a b (i - d) s)
variables_same σ a b d (atom c) s = refl
variables_same σ a b d (abs t) s = ap abs (variables_same σ a b (suc d) t s)
variables_same σ a b d (app t u) s = λ k. app (variables_same σ a b d t s k) (variables_same σ a b d u s k)

-- variables stand where one more is made

no_some : (b : Built) → Some b ≡ None → ⊥
no_some b e = cc

standing_own : (h : Home) (vars n : ℕ) (i : Bool) (σ : ℕ → Term) (a : Around) (xs : List (Option Built)) (l : ℕ) (v : Seen) → Standing h vars n i σ a xs → at_level a l ≡ Some v → v.is_set ≡ false →
    Standing h vars n i σ (set_own a l) (made_variable h v.register v.of xs)
standing_own h vars n i σ a xs l v x e f = record {
  low = λ m w g. ⊎_elim (λ q. subst (λ (y : Seen). y.register < n) (sym q.1) (x.low l v e)) (λ q. x.low m w q.1) (found m w g);
  set = λ m w g s. ⊎_elim
      (λ q. ap (λ (y : Seen). held ys y.register) q.1 ∙ held_set xs v.register new within ∙ (λ k. Some (whole (sym own.1 k) v.of)) ∙ ap (λ (j : ℕ). Some (whole (σ j) v.of)) (sym q.0)
      ∙ ap (λ (y : Seen). Some (whole (σ m) y.of)) (sym q.1))
      (λ q. held_elsewhere xs v.register w.register (Some new) (λ z. no_some (whole (σ m) w.of) (sym (x.set m w q.1 s) ∙ ap (held xs) z ∙ none)) ∙ x.set m w q.1 s) (found m w g);
  unset = λ m w g s. ⊎_elim (λ q. absurd (true≢false (sym (ap (λ (y : Seen). y.is_set) q.1) ∙ s)))
      (λ q. held_elsewhere xs v.register w.register (Some new) (λ z. q.0 (x.apart m l w v q.1 e s f z)) ∙ x.unset m w q.1 s) (found m w g);
  unmade = λ m w g s. ⊎_elim (λ q. absurd (true≢false (sym (ap (λ (y : Seen). y.is_set) q.1) ∙ s))) (λ q. x.unmade m w q.1 s) (found m w g);
  apart = λ m k w y g j s u z. ⊎_elim (λ q. absurd (true≢false (sym (ap (λ (y : Seen). y.is_set) q.1) ∙ s)))
      (λ q. ⊎_elim (λ p. absurd (true≢false (sym (ap (λ (y : Seen). y.is_set) p.1) ∙ u))) (λ p. x.apart m k w y q.1 p.1 s u z) (found k y j)) (found m w g);
  known = λ m w g. ⊎_elim (λ q. subst (λ (y : Seen). IsKnownType h.tables.kinds vars y.of) (sym q.1) (x.known l v e)) (λ q. x.known m w q.1) (found m w g);
  long = subst (λ k. n ≤ k) (sym (length-set xs v.register (Some new))) x.long;
}
  where
    own : (i ≡ false) × (σ l ≡ variable v.register h.number) × (a.base ≤ l)
    own = x.unmade l v e f

    new : Built
    new = whole (variable v.register h.number) v.of

    ys : List (Option Built)
    ys = made_variable h v.register v.of xs

    none : held xs v.register ≡ None
    none = x.unset l v e f

    within : v.register < length xs
    within = let p = x.low l v e in let q = x.long in omega (arith, p, q)

    found : (m : ℕ) (w : Seen) → at_level (set_own a l) m ≡ Some w → ((m ≡ l) × (w ≡ as_set v)) ⊎ ((m ≡ l → ⊥) × (at_level a m ≡ Some w))
    found m w g = found_after a l m v w own.2 e g

pub standing_set : (h : Home) (vars n : ℕ) (i : Bool) (σ : ℕ → Term) (a : Around) (xs : List (Option Built)) (l : ℕ) (v : Seen) → Standing h vars n i
    σ a xs → at_level a l ≡ Some v → v.is_set ≡ false →
    Standing h vars n i σ (set_level a l) (made_variable h v.register v.of xs)
standing_set h vars n i σ a xs l v x e f =
    subst (λ b. Standing h vars n i σ b (made_variable h v.register v.of xs)) (sym (set_is a l (x.unmade l v e f).2)) (standing_own h vars n i σ a xs l v x e f)

-- variables that are made stand in the term

pub made_same : (k : ℕ) (a : Around) (u : Term) → Made k a a u
made_same k a u l v e s = inl e

pub made_one : (k : ℕ) (a : Around) (l : ℕ) (v : Seen) (u : Term) → a.base ≤ l → at_level a l ≡ Some v → u ≡ variable v.register k → Made k a (set_level a l) u
made_one k a l v u le e is m w f s =
    ⊎_elim (λ q. inr (ap (λ (y : Seen). stands_in y.register k u) q.1 ∙ ap (stands_in v.register k) is ∙ (λ i. (eq-eqb v.register v.register refl i && eq-eqb k k refl i)))) (λ q. inl q.1)
    (found_set a l m v w le e f)

or_left : (p q : Bool) → p ≡ true → (p || q) ≡ true
or_left true q e = refl
or_left false q e = absurd (true≢false (sym e))

or_right : (p q : Bool) → q ≡ true → (p || q) ≡ true
or_right true q e = refl
or_right false q e = e

pub made_both : (k : ℕ) (a b c : Around) (t u : Term) → Made k a b t → Made k b c u → Made k a c (app t u)
made_both k a b c t u x y l v e s =
    ⊎_elim (λ p. ⊎_elim (λ q. inl q) (λ q. inr (or_left (stands_in v.register k t) (stands_in v.register k u) q)) (x l v p s))
    (λ q. inr (or_right (stands_in v.register k t) (stands_in v.register k u) q)) (y l v e s)
