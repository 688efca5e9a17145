-- The numbers of a copy in an image: those of the language stay, and all others are declared ones.
use Rattle.std.proofs.Common.{◌≡◌, ◌∙◌, ◌++◌, ◌∷◌, [], ◌+◌, ◌-◌, ◌<◌, ◌≤◌, ℕ, zero, suc, Bool, true, false, if◌then◌else◌, List, Option, None, Some, length, get_or, nat_eq, inl, inr, ap, refl, sym, subst, arith}
use Rattle.std.specs.Prelude.{◌⊎◌, slice_get, option_and_then}
use Rattle.std.proofs.lemmas.Bool.{cases_lt, lt-ltb, le-ltb, ne_eqb}
use Rattle.std.proofs.lemmas.Option.{get_or_from_slice_get}
use Rattle.lp_lemmas.proofs.Lists.{get_below}
use Rattle.lp_lemmas.proofs.Options.{one_value}
use Rattle.lp_places.specs.Places as places
use Rattle.lp_code.specs.declared.object.Object.{Object}
use Rattle.lp_link.specs.Linked as linked
use Rattle.lp_link.specs.Linked.{Linked, constant_above, constants_of, copy_of, next_of, none_linked, numbers_of, one_linked}
use Rattle.lp_link.specs.Numbers.{renumbered}
use Rattle.lp_link.specs.Uses.{constant_names}
use Rattle.lp_module.specs.Program as program
use Rattle.lp_build.specs.Copied.{IsSame}
use Rattle.lp_build.proofs.RenumberedTerms.{KeepsLanguage}

-- as in the program
number_same : (first count : ℕ) (numbers : List ℕ) (number : ℕ → ℕ) → ((k : ℕ) → k < first → number k ≡ k) → ((i : ℕ) → i < count → slice_get numbers i ≡ Some (number (first + i)))
    → (k : ℕ) → k < first + count → renumbered first numbers k ≡ number k
number_same first count numbers number standard same k l = by (cases_lt k first)
  where
    by : (k < first) ⊎ (first ≤ k) → renumbered first numbers k ≡ number k
    by (inl m) = ap (λ b. if b then k else get_or numbers (k - first) 4294967295) (lt-ltb k first m) ∙ sym (standard k m)
    by (inr m) =
        let e : first + (k - first) ≡ k = omega (arith, m) in
        ap (λ b. if b then k else get_or numbers (k - first) 4294967295) (le-ltb k first m)
        ∙ get_or_from_slice_get numbers (k - first) (number (first + (k - first))) 4294967295 (same (k - first) (omega (arith, l, m)))
        ∙ ap number e

pub kinds_same : (o : Object) (c : program.Copy) (d : linked.Copy) → IsSame o c d → (k : ℕ) → k < 8 + length o.kinds.items → renumbered 8 d.kinds k ≡ c.kinds k
kinds_same o c d s = number_same 8 (length o.kinds.items) d.kinds c.kinds s.standard_kinds s.kinds

pub constants_same : (o : Object) (c : program.Copy) (d : linked.Copy) → IsSame o c d → (k : ℕ) → k < 32 + length o.constants.items → renumbered 32 d.constants k ≡ c.constants k
constants_same o c d s = number_same 32 (length o.constants.items) d.constants c.constants s.standard_constants s.constants

-- declared numbers
abbrev pub AreAbove : ℕ → List ℕ → Type 0
AreAbove n [] = Unit {0}
AreAbove n (m ∷ ms) = (n ≤ m) × AreAbove n ms

above_at : (n : ℕ) (ms : List ℕ) (i m : ℕ) → AreAbove n ms → slice_get ms i ≡ Some m → n ≤ m
above_at n [] i m h e = absurd (cc)
above_at n (x ∷ ms) zero m h e = subst (λ z. n ≤ z) (one_value (Some x) x m refl e) h.0
above_at n (x ∷ ms) (suc i) m h e = above_at n ms i m h.1 e

numbers_above : (n : ℕ) (told : List ℕ → Option ℕ) → ((w : List ℕ) (k : ℕ) → told w ≡ Some k → n ≤ k) → (g h : ℕ) → n ≤ g → n ≤ h →
    (names : List (List ℕ × Bool)) → AreAbove n (numbers_of told g h names)
numbers_above n told high g h l m [] = tt
numbers_above n told high g h l m ((w, false) ∷ names) = (m, numbers_above n told high g (suc h) l (omega (arith, m)) names)
numbers_above n told high g h l m ((w, true) ∷ names) =
    by (told w) refl (numbers_above n told high (suc g) h (omega (arith, l)) m names) (numbers_above n told high g h l m names)
  where
    by : (o : Option ℕ) → told w ≡ o → AreAbove n (numbers_of told (suc g) h names) → AreAbove n (numbers_of told g h names)
        → AreAbove n (next_of o g (numbers_of told (suc g) h names) (numbers_of told g h names))
    by None e x y = (l, x)
    by (Some k) e x y = (high w k e, y)

abbrev pub IsHigh : Option linked.Copy → Type 0
IsHigh None = Unit {0}
IsHigh (Some c) = AreAbove 32 c.constants

told_high : (above : Option linked.Copy) → IsHigh above → (w : List ℕ) (k : ℕ) → constant_above above w ≡ Some k → 32 ≤ k
told_high None h w k e = absurd (cc)
told_high (Some c) h w k e = by (places.first_place w (constant_names c.object.constants.items)) e
  where
    by : (o : Option ℕ) → option_and_then (slice_get c.constants) o ≡ Some k → 32 ≤ k
    by None f = absurd (cc)
    by (Some p) f = above_at 32 c.constants p k h f

copy_high : (above : Option linked.Copy) (o : Object) (e : linked.Ends) → IsHigh above → 32 ≤ e.constants → AreAbove 32 (numbers_of (constant_above above) 32 e.constants (constants_of o))
copy_high above o e h l = numbers_above 32 (constant_above above) (told_high above h) 32 e.constants (omega arith) l (constants_of o)

abbrev pub AreHigh : List linked.Copy → Type 0
AreHigh [] = Unit {0}
AreHigh (c ∷ cs) = AreAbove 32 c.constants × AreHigh cs

high_append : (cs ds : List linked.Copy) → AreHigh cs → AreHigh ds → AreHigh (cs ++ ds)
high_append [] ds h k = k
high_append (c ∷ cs) ds (x, h) k = (x, high_append cs ds h k)

linked_ends : {os : List Object} {above : Option linked.Copy} {entries : List ℕ} {begin end : linked.Ends} {cs : List linked.Copy} → Linked os above
    entries begin cs end → 32 ≤ begin.constants → 32 ≤ end.constants
linked_ends (none_linked above e) l = l
linked_ends (one_linked above m rest o begin mid end below others all at inner more e) l =
    let x = linked_ends inner l in
    linked_ends more (omega (arith, x))

pub linked_high : {os : List Object} {above : Option linked.Copy} {entries : List ℕ} {begin end : linked.Ends} {cs : List linked.Copy} → Linked os
    above entries begin cs end → IsHigh above → 32 ≤ begin.constants → AreHigh cs
linked_high (none_linked above e) h l = tt
linked_high (one_linked above m rest o begin mid end below others all at inner more e) h l =
    let x = linked_ends inner l in
    let own = copy_high above o mid h x in
    subst AreHigh (sym e) (high_append below (copy_of above o mid ∷ others) (linked_high inner own l) (own, linked_high more h (omega (arith, x))))

-- the constants of the language keep their numbers
pub keeps_language : (numbers : List ℕ) → AreAbove 32 numbers → KeepsLanguage (renumbered 32 numbers)
keeps_language numbers high c n l = by (cases_lt c 32)
  where
    far : (i : ℕ) → 32 ≤ get_or numbers i 4294967295
    far i = at (cases_lt i (length numbers))
      where
        at : (i < length numbers) ⊎ (length numbers ≤ i) → 32 ≤ get_or numbers i 4294967295
        at (inl m) =
            let (x, there) = get_below numbers i m in
            subst (λ z. 32 ≤ z) (sym (get_or_from_slice_get numbers i x 4294967295 there)) (above_at 32 numbers i x high there)
        at (inr m) = subst (λ z. 32 ≤ z) (sym (past numbers i m)) (omega arith)
          where
            past : (xs : List ℕ) (j : ℕ) → length xs ≤ j → get_or xs j 4294967295 ≡ 4294967295
            past [] j m = refl
            past (x ∷ xs) zero m = absurd (omega (arith, m))
            past (x ∷ xs) (suc j) m = past xs j (omega (arith, m))

    by : (c < 32) ⊎ (32 ≤ c) → nat_eq (renumbered 32 numbers c) n ≡ nat_eq c n
    by (inl m) = ap (λ b. nat_eq (if b then c else get_or numbers (c - 32) 4294967295) n) (lt-ltb c 32 m)
    by (inr m) =
        let f = far (c - 32) in
        ap (λ b. nat_eq (if b then c else get_or numbers (c - 32) 4294967295) n) (le-ltb c 32 m)
        ∙ ne_eqb (get_or numbers (c - 32) 4294967295) n (λ e. omega (arith, e, f, l)) ∙ sym (ne_eqb c n (λ e. omega (arith, e, m, l)))
