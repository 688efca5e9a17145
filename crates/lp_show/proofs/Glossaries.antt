-- What the tables of a glossary find.
use Rattle.std.proofs.Common.{◌≡◌, ℕ, zero, suc, ◌+◌, ◌-◌, ◌<◌, ◌≤◌, List, [], ◌∷◌, ◌++◌, Bool, true, false, length, map, get_or, drop, Option, Some, None, refl, sym, ap, ap₂, ◌∙◌, subst, arith, drop-cons, add-one}
use Rattle.std.specs.Prelude.{nat_eq, cond, if◌then◌else◌, ◌&&◌, ◌||◌}
use Rattle.std.specs.List.{list_any}
use Rattle.std.specs.Str.{bytes_eq}
use Rattle.std.proofs.lemmas.Slice.Eq.{bytes_eq-Decides}
use Rattle.std.proofs.lemmas.List.Folds.{list_any-append}
use Rattle.lp_show.specs.declared.glossary.Entry as code
use Rattle.lp_show.specs.Glossary.{entry_of, entries_of, place_in}
use Rattle.lp_model.specs.Shown.{Entry, entry_in, has_name, is_taken, next_free, binder_number, plain_entry}
use Rattle.std.specs.Prelude.{slice_index_or}

-- the entry that a place found is of
pub place_found : (es : List code.Entry) (i c k : ℕ) → place_in i es c ≡ Some k → (j : ℕ) × (k ≡ i + j) × (j < length es) × ((d : code.Entry) → entry_in (entries_of es) c ≡ entry_of (get_or es j d))
place_found [] i c k h = absurd (cc)
place_found (e ∷ es) i c k h = go (nat_eq e.number c) refl h (λ f. place_found es (suc i) c k f)
  where
    go : (b : Bool) → nat_eq e.number c ≡ b → cond b (Some i) (place_in (suc i) es c) ≡ Some k →
        (place_in (suc i) es c ≡ Some k → (j : ℕ) × (k ≡ suc i + j) × (j < length es) × ((d : code.Entry) → entry_in (entries_of es) c ≡ entry_of (get_or es j d))) →
        (j : ℕ) × (k ≡ i + j) × (j < length (e ∷ es)) × ((d : code.Entry) → entry_in (entries_of (e ∷ es)) c ≡ entry_of (get_or (e ∷ es) j d))
    go true q f ih = (let z : i ≡ k = cc in (0, omega arith, omega arith, λ d. ap (λ b. if b then entry_of e else entry_in (entries_of es) c) q))
    go false q f ih = let r = ih f in (suc r.0, omega (arith, r.1), omega (arith, r.2), λ d. ap (λ b. if b then entry_of e else entry_in (entries_of es) c) q ∙ r.3 d)

pub any_entry : (es : List code.Entry) (k : ℕ) → k < length es → code.Entry
any_entry [] k h = absurd (omega arith)
any_entry (e ∷ es) k h = e

pub place_missing : (es : List code.Entry) (i c : ℕ) → place_in i es c ≡ None → entry_in (entries_of es) c ≡ plain_entry c
place_missing [] i c h = refl
place_missing (e ∷ es) i c h = go (nat_eq e.number c) refl h (λ f. place_missing es (suc i) c f)
  where
    go : (b : Bool) → nat_eq e.number c ≡ b → cond b (Some i) (place_in (suc i) es c) ≡ None → (place_in (suc i) es c ≡ None → entry_in (entries_of es) c ≡ plain_entry c) → entry_in (entries_of (e ∷ es)) c ≡ plain_entry c
    go true q f ih = absurd (cc)
    go false q f ih = ap (λ b. if b then entry_of e else entry_in (entries_of es) c) q ∙ ih f

-- a name more among those that are taken
bytes_or : (n m : List ℕ) (l : Bool) → (n ≡ m → l ≡ true) → l ≡ (bytes_eq n m || l)
bytes_or n m l h = go (bytes_eq n m) refl
  where
    go : (b : Bool) → bytes_eq n m ≡ b → l ≡ (b || l)
    go true q = h ((bytes_eq-Decides n m).0 q)
    go false q = refl

or_comm : (a b : Bool) → (a || (b || false)) ≡ (b || a)
or_comm true true = refl
or_comm true false = refl
or_comm false true = refl
or_comm false false = refl

pub name_taken : {K : Type 0} (items : K → List ℕ) (keys new : List K) (k : K) (n name : List ℕ) → items k ≡ name → new ≡ (if list_any (λ x. bytes_eq (items k) (items x)) keys then keys else keys ++ k ∷ []) →
    list_any (λ x. bytes_eq n (items x)) new ≡ (bytes_eq n name || list_any (λ x. bytes_eq n (items x)) keys)
name_taken items keys new k n name s q = ap (list_any (λ x. bytes_eq n (items x))) q ∙ go (list_any (λ x. bytes_eq (items k) (items x)) keys) refl ∙ ap (λ m. bytes_eq n m || list_any (λ x. bytes_eq n (items x)) keys) s
  where
    go : (b : Bool) → list_any (λ x. bytes_eq (items k) (items x)) keys ≡ b →
        list_any (λ x. bytes_eq n (items x)) (if b then keys else keys ++ k ∷ []) ≡ (bytes_eq n (items k) || list_any (λ x. bytes_eq n (items x)) keys)
    go true h = bytes_or n (items k) (list_any (λ x. bytes_eq n (items x)) keys) (λ e. ap (λ m. list_any (λ x. bytes_eq m (items x)) keys) e ∙ h)
    go false h = list_any-append (λ x. bytes_eq n (items x)) keys (k ∷ []) ∙ or_comm (list_any (λ x. bytes_eq n (items x)) keys) (bytes_eq n (items k))
