-- The records, one behind the other.
use Rattle.std.proofs.Common.{◌≡◌, ◌∙◌, ◌<◌, ◌≤◌, ◌+◌, ℕ, suc, List, [], ◌∷◌, ◌++◌, length, drop, get_or, Option, Some, None, true, false, ap, refl, sym, subst, arith}
use Rattle.std.proofs.lemmas.List.{drop_all}
use Rattle.std.proofs.lemmas.List.Elements.{All-get_or}
use Rattle.lp_lemmas.proofs.Lists.{drop_read, get_read}
use Rattle.lp_lemmas.proofs.Options.{none_from_is_some}
use Rattle.std.specs.Prelude.{◌^◌, slice_get, is_some, is_none}
use Rattle.lp_code.specs.declared.record.Record.{Record}
use Rattle.lp_code.specs.declared.rule.Rule.{Rule}
use Rattle.lp_code.specs.Symbolic.{Tables}
use Rattle.lp_code.specs.States.{Captured}
use Rattle.lp_code.specs.Denote.{home_of, rules, run, any_clause, first_state, captured_of, fault_of_run, CodeFault, fault_from, first_fault, denote}
use Rattle.lp_verify.specs.Judged.{bytes_of, AreShort}
use Rattle.lp_verify.specs.declared.record.Shared.{Shared}
use Rattle.lp_verify.specs.Named.{was_named}
use Rattle.lp_verify.specs.inner.At.{kept_in, HandedIn, KeepsTypes, IsRan, FaultsGoOn}
use Rattle.lp_verify.proofs.HandedOn.{nothing_handed}
use Rattle.lp_verify.specs.inner.Low.{HandedLow}
use Rattle.lp_verify.proofs.Denoted.{denotes_exactly}

denotes_nothing : (t : Tables) (all : List Record) (x : CodeFault) → first_fault t all ≡ Some x → denote t all ≡ None
denotes_nothing t all x e = none_from_is_some (denote t all) (denotes_exactly t all ∙ ap is_none e)

pub none_yet : (t : Tables) (all : List Record) (x : Shared) → ((n : ℕ) → was_named x.named n ≡ false) → KeepsTypes t x → FaultsGoOn t all x 0 all
none_yet t all x none keeps = ([], refl, nothing_handed (kept_in x) all x.handed.items x.named none, keeps, λ n r. tt)

pub next_record : (t : Tables) (all : List Record) (x y : Shared) (n : ℕ) (r : Record) (rs : List Record) (f : FaultsGoOn t all x n (r ∷ rs))
    → IsRan t all y f.0 (run (home_of t all n r) any_clause (first_state r (captured_of f.0 n)) r.code.items) None → FaultsGoOn t all y (suc n) rs
next_record t all x y n r rs f s = (f.0 ++ s.0.assumed, f.1 ∙ ap (fault_of_run n (λ s. fault_from rules t all (f.0 ++ s.assumed) (suc n) rs)) s.1, s.2, s.3, s.4)

pub told_record : (t : Tables) (all : List Record) (x y : Shared) (n : ℕ) (r : Record) (rs : List Record) (at : ℕ) (rule : Rule) (f : FaultsGoOn t all x n (r ∷ rs))
    → IsRan t all y f.0 (run (home_of t all n r) any_clause (first_state r (captured_of f.0 n)) r.code.items) (Some (at, rule)) → (first_fault t all ≡ Some (record { record_number = n; at = at; rule = rule })) × (at < 2 ^ 32)
told_record t all x y n r rs at rule f ran = (f.1 ∙ ap (fault_of_run n (λ s. fault_from rules t all (f.0 ++ s.assumed) (suc n) rs)) ran.0, ran.1)

pub no_more_records : (t : Tables) (all : List Record) (x : Shared) (n : ℕ) → FaultsGoOn t all x n [] → (first_fault t all ≡ None) × (is_some (denote t all) ≡ true)
no_more_records t all x n f = (f.1, denotes_exactly t all ∙ ap is_none f.1)

-- what is told of the record of a number, where this was handed to it
abbrev pub IsRecordRan : Tables → (all : List Record) → (x y : Shared) → (n : ℕ) → Record → Option (ℕ × Rule) → Type 0
IsRecordRan t all x y n r o = (before : List (ℕ × Captured)) → slice_get all n ≡ Some r → HandedIn x all before → HandedLow before → KeepsTypes t x → bytes_of r.code.items < 2 ^ 32
    → IsRan t all y before (run (home_of t all n r) any_clause (first_state r (captured_of before n)) r.code.items) o

short_there : (all : List Record) (n : ℕ) (r : Record) → AreShort all → n < length all → r ≡ get_or all n r → bytes_of r.code.items < 2 ^ 32
short_there all n r s l e = subst (λ (q : Record). bytes_of q.code.items < 2 ^ 32) (sym e) (All-get_or (λ (q : Record). bytes_of q.code.items < 2 ^ 32) all n r l s)

pub record_passed : (t : Tables) (all : List Record) (x y : Shared) (n p : ℕ) (r : Record) → p ≡ n → n < length all → r ≡ get_or all n r → AreShort all → FaultsGoOn t all x n (drop n all) → IsRecordRan t all x y p r None
    → FaultsGoOn t all y (n + 1) (drop (n + 1) all)
record_passed t all x y n p r e l is s f ran =
    let next : suc n ≡ n + 1 = omega arith in
    let g = subst (FaultsGoOn t all x n) (drop_read all n r l is) f in
    subst (λ q. FaultsGoOn t all y q (drop (n + 1) all)) next
    (next_record t all x y n r (drop (n + 1) all) g (subst (λ q. IsRecordRan t all x y q r None) e ran g.0 (get_read all all n r r refl l is) g.2 g.4 g.3 (short_there all n r s l is)))

pub record_refused : (t : Tables) (all : List Record) (x y : Shared) (n p : ℕ) (r : Record) (at told : ℕ) (rule : Rule) → p ≡ n → n < length all → r ≡ get_or all n r → AreShort all → FaultsGoOn t all x n (drop n all)
    → IsRecordRan t all x y p r (Some (at, rule)) → (at < 2 ^ 32 → told ≡ at) → (first_fault t all ≡ Some (record { record_number = p; at = told; rule = rule })) × (denote t all ≡ None)
record_refused t all x y n p r at told rule e l is s f ran same =
    let g = subst (FaultsGoOn t all x n) (drop_read all n r l is) f in
    let q = told_record t all x y n r (drop (n + 1) all) at rule g (subst (λ q. IsRecordRan t all x y q r (Some (at, rule))) e ran g.0 (get_read all all n r r refl l is) g.2 g.4 g.3 (short_there all n r s l is)) in
    (q.0 ∙ (λ i. Some (record { record_number = sym e i; at = sym (same q.1) i; rule = rule })), denotes_nothing t all (record { record_number = n; at = at; rule = rule }) q.0)

-- behind the last one
pub none_left : {A : Type 0} (xs ys : List A) (n : ℕ) → ys ≡ xs → length ys ≤ n → drop n xs ≡ []
none_left xs ys n e h = drop_all n xs (subst (λ l. length l ≤ n) e h)
