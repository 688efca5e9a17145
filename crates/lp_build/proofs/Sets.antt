-- What stands in a list of numbers with one more.
use Rattle.std.proofs.Common.{arith, ◌≡◌, ℕ, List, [], ◌∷◌, ◌++◌, Bool, true, false, inl, inr, sym, subst, ◌∙◌, true≢false}
use Rattle.std.specs.Prelude.{◌⊎◌, Contains, nat_eq, if◌then◌else◌}
use Rattle.std.specs.List.{list_any}
use Rattle.std.specs.Cmp.{nat_eq_equiv}
use Rattle.std.proofs.lemmas.Bool.{eqb-true}
use Rattle.std.proofs.lemmas.List.Elements.{Contains-push, Contains-push_cases, Contains-append_left}
use Rattle.std.proofs.lemmas.Map.Views.{Contains-from_any, list_any-from_Contains}
use Rattle.indexmap.specs.IndexSet.{insert_key}
use Rattle.indexmap.proofs.CallerLemmas.{Contains-insert_key}

pub nothing_in : (k : ℕ) → Contains [] k → ⊥
nothing_in k c = let lt = c.1 in omega (arith, lt)

-- in a list of one
pub only_one : (n k : ℕ) → Contains (n ∷ []) k → n ≡ k
only_one n k c = by (Contains-push_cases [] n k c)
  where
    by : Contains [] k ⊎ (n ≡ k) → n ≡ k
    by (inl h) = absurd (nothing_in k h)
    by (inr e) = e

pub last_in : (ns : List ℕ) (n : ℕ) → Contains (ns ++ n ∷ []) n
last_in ns n = Contains-push ns n

pub front_in : (ns : List ℕ) (n k : ℕ) → Contains ns k → Contains (ns ++ n ∷ []) k
front_in ns n k c = Contains-append_left ns (n ∷ []) k c

pub in_pushed : (ns : List ℕ) (n k : ℕ) → Contains (ns ++ n ∷ []) k → Contains ns k ⊎ (k ≡ n)
in_pushed ns n k c = by (Contains-push_cases ns n k c)
  where
    by : Contains ns k ⊎ (n ≡ k) → Contains ns k ⊎ (k ≡ n)
    by (inl h) = inl h
    by (inr e) = inr (sym e)

pub inserted_new : (ks : List ℕ) (n k : ℕ) → k ≡ n → Contains (insert_key nat_eq ks n) k
inserted_new ks n k e = subst (λ x. Contains (insert_key nat_eq ks n) x) (sym e) (Contains-insert_key nat_eq eqb-true ks n)

pub inserted_old : (ks : List ℕ) (n k : ℕ) → Contains ks k → Contains (insert_key nat_eq ks n) k
inserted_old ks n k c = by (list_any (nat_eq n) ks)
  where
    by : (b : Bool) → Contains (if b then ks else ks ++ n ∷ []) k
    by true = c
    by false = front_in ks n k c

pub inserted_from : (ks : List ℕ) (n k : ℕ) → Contains (insert_key nat_eq ks n) k → Contains ks k ⊎ (k ≡ n)
inserted_from ks n k c = by (list_any (nat_eq n) ks) c
  where
    by : (b : Bool) → Contains (if b then ks else ks ++ n ∷ []) k → Contains ks k ⊎ (k ≡ n)
    by true h = inl h
    by false h = in_pushed ks n k h

-- a number is found where it stands, and only there
pub found_there : (ks : List ℕ) (k : ℕ) → list_any (nat_eq k) ks ≡ true → Contains ks k
found_there ks k e = Contains-from_any eqb-true k ks e

pub there_found : (ks : List ℕ) (k : ℕ) → list_any (nat_eq k) ks ≡ false → Contains ks k → ⊥
there_found ks k e c = true≢false (sym (list_any-from_Contains nat_eq_equiv k ks c) ∙ e)
