-- That no index is loose in a term that is too large is told by the loose indices that are collected of it.
use Rattle.std.proofs.Common.{◌≡◌, ℕ, suc, ◌+◌, ◌-◌, ◌<◌, ◌≤◌, ◌^◌, List, [], ◌∷◌, ◌++◌, inl, inr, refl, sym, ap, ◌∙◌, arith, Bool, true, false, true≢false}
use Rattle.std.specs.Prelude.{◌||◌, nat_eq, nat_le, if◌then◌else◌}
use Rattle.std.specs.List.{list_any}
use Rattle.std.proofs.lemmas.List.Folds.{list_any-append}
use Rattle.std.proofs.lemmas.Bool.{cases_lt, lt-ltb, le-ltb, le-leb, leb-true, eq-eqb, eqb-true, or_left, or_right, false_from_ne_true}
use Rattle.lp_calculus.specs.Term.{Term, index, atom, abs, app}
use Rattle.lp_term.specs.Spine.{LooseBelow}
use Rattle.lp_model.specs.Flat.{loose_in}
use Rattle.lp_plain.specs.Collected.{is_in, AreThose}
use Rattle.lp_plain.specs.Standings.{is_large}
use Rattle.lp_plain.specs.inner.Looking.{SomeOf}
use Rattle.lp_plain.proofs.Looks.{some_true, true_some}

-- a number of a list
among : (n : ℕ) (ns : List ℕ) (P : ℕ → Bool) → is_in n ns ≡ true → P n ≡ true → SomeOf P ns
among n [] P e h = absurd (true≢false (sym e))
among n (m ∷ ns) P e h = elim (true_some (nat_eq n) (m ∷ ns) e) [ inl q ↦ inl (ap P (sym (eqb-true n m q)) ∙ h) | inr r ↦ inr (among n ns P (some_true (nat_eq n) ns r) h) ]

first_of : (P : ℕ → Bool) (ns : List ℕ) → SomeOf P ns → (n : ℕ) × (is_in n ns ≡ true) × (P n ≡ true)
first_of P [] h = absurd h
first_of P (n ∷ ns) (inl h) = (n, or_left (nat_eq n n) (is_in n ns) (eq-eqb n n refl), h)
first_of P (n ∷ ns) (inr h) = let r = first_of P ns h in (r.0, or_right (nat_eq r.0 n) (is_in r.0 ns) r.1, r.2)

-- lists of the same numbers
pub same_any : (P : ℕ → Bool) (found all : List ℕ) → ((n : ℕ) → is_in n found ≡ is_in n all) → list_any P found ≡ true → list_any P all ≡ true
same_any P found all s e = let r = first_of P found (true_some P found e) in some_true P all (among r.0 all P (sym (s r.0) ∙ r.1) r.2)

large_index : (limit d i : ℕ) → d ≤ i → (nat_le limit (i - d) ≡ false) → i < d + limit
large_index limit d i l e = elim (cases_lt i (d + limit)) [ inl h ↦ h | inr h ↦ absurd (true≢false (sym (le-leb limit (i - d) (omega (arith, l, h))) ∙ e)) ]

no_append : (P : ℕ → Bool) (ns ms : List ℕ) → list_any P (ns ++ ms) ≡ false → (list_any P ns ≡ false) × (list_any P ms ≡ false)
no_append P ns ms e = go (list_any P ns) (list_any P ms) (sym (list_any-append P ns ms) ∙ e)
  where
    go : (x y : Bool) → (x || y) ≡ false → (x ≡ false) × (y ≡ false)
    go true y q = absurd (true≢false q)
    go false y q = (refl, q)

none_first : (x : Bool) → (x || false) ≡ false → x ≡ false
none_first true q = q
none_first false q = refl

-- where none is large all are below
pub none_large : (limit d : ℕ) (t : Term) → list_any (nat_le limit) (loose_in d t) ≡ false → LooseBelow limit d t
none_large limit d (index i) e = elim (cases_lt i d) [
  | inl l ↦ omega (arith, l)
  | inr l ↦ large_index limit d i l (none_first (nat_le limit (i - d)) (sym (ap (λ c. list_any (nat_le limit) (if c then [] else (i - d) ∷ [])) (le-ltb i d l)) ∙ e))
]
none_large limit d (atom a) e = tt
none_large limit d (abs b) e = none_large limit (suc d) b e
none_large limit d (app t u) e = let h = no_append (nat_le limit) (loose_in d t) (loose_in d u) e in (none_large limit d t h.0, none_large limit d u h.1)

small_index : (limit d i : ℕ) → d ≤ i → i < d + limit → nat_le limit (i - d) ≡ false
small_index limit d i l h = false_from_ne_true (nat_le limit (i - d)) (λ e. let k = leb-true limit (i - d) e in absurd (omega (arith, k, l, h)))

-- where all are below none is large
pub all_below : (limit d : ℕ) (t : Term) → LooseBelow limit d t → list_any (nat_le limit) (loose_in d t) ≡ false
all_below limit d (index i) h = elim (cases_lt i d) [
  | inl l ↦ ap (λ c. list_any (nat_le limit) (if c then [] else (i - d) ∷ [])) (lt-ltb i d l)
  | inr l ↦ ap (λ c. list_any (nat_le limit) (if c then [] else (i - d) ∷ [])) (le-ltb i d l) ∙ ap (λ c. c || false) (small_index limit d i l h)
]
all_below limit d (atom a) h = refl
all_below limit d (abs b) h = all_below limit (suc d) b h
all_below limit d (app t u) h = list_any-append (nat_le limit) (loose_in d t) (loose_in d u) ∙ ap (λ c. c || list_any (nat_le limit) (loose_in d u)) (all_below limit d t h.0) ∙ all_below limit d u h.1

module _ (found : List ℕ) (t : Term) (those : AreThose found (loose_in 0 t)) where
  pub told_small : (large small : Bool) → large ≡ list_any is_large found → (small ≡ true → large ≡ false) → small ≡ true → LooseBelow (2 ^ 32) 0 t
  told_small large small e s h = none_large (2 ^ 32) 0 t (false_from_ne_true (list_any is_large (loose_in 0 t)) (λ q. true≢false (sym (same_any is_large (loose_in 0 t) found (λ n. sym (those.same n)) q) ∙ sym e ∙ s h)))

  pub told_large : (large small : Bool) → large ≡ list_any is_large found → (small ≡ false → large ≡ true) → small ≡ false → LooseBelow (2 ^ 32) 0 t → ⊥
  told_large large small e s h l = true≢false (sym (same_any is_large found (loose_in 0 t) those.same (sym e ∙ s h)) ∙ all_below (2 ^ 32) 0 t l)
