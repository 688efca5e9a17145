-- The numbers of a copy's names, place by place.
use Rattle.std.proofs.Common.{◌≡◌, ℕ, suc, ◌+◌, ◌-◌, ◌<◌, ◌≤◌, List, [], ◌∷◌, ◌++◌, length, drop, get_or, Bool, true, false, Option, Some, None, refl, sym, ap, ◌∙◌, arith, inl, inr}
use Rattle.std.specs.Prelude.{◌⊎◌, nat_eq, nat_lt, if◌then◌else◌, option_map, slice_get}
use Rattle.std.proofs.lemmas.Bool.Decides.{nat_tests}
use Rattle.std.proofs.lemmas.List.{drop_more, drop_all, get_or_append_left, length-append}
use Rattle.std.proofs.lemmas.Option.{slice_get-get_or, slice_get_past, same_Some}
use Rattle.std.proofs.Math.Seq.{get_or-append_seam}
use Rattle.lp_lemmas.proofs.Numbers.{below_suc}
use Rattle.lp_module.specs.Program.{place_in, hidden_or, IsNumbered}
use Rattle.lp_module.specs.Renumbering.{kept_or, number_in}
use Rattle.lp_module.specs.declared.numbers.Numbers.{Numbers}
use Rattle.lp_module.specs.inner.Tables.{coded, ArePlaces, AreNumbers}

-- a place stands in its list
pub place_below : (xs : List ℕ) (k j : ℕ) → place_in xs k ≡ Some j → j < length xs
place_below [] k j e = absurd (cc)
place_below (x ∷ xs) k j e = by (λ i p. place_below xs k i p) (nat_eq x k) (place_in xs k) refl e
  where
    by : ((i : ℕ) → place_in xs k ≡ Some i → i < length xs) → (t : Bool) (o : Option ℕ) → place_in xs k ≡ o → (if t then Some 0 else option_map (λ j. suc j) o) ≡ Some j → j < suc (length xs)
    by f true o p q = let z : 0 ≡ j = same_Some 0 j q in omega (arith, z)
    by f false None p q = absurd (cc)
    by f false (Some i) p q = let z : suc i ≡ j = same_Some (suc i) j q in let l = f i p in omega (arith, z, l)

-- one more number at the front of what was looked through
coded_next : (before : ℕ) (o : Option ℕ) → coded (suc before) o ≡ coded before (option_map (λ j. suc j) o)
coded_next before None = refl
coded_next before (Some j) = omega arith

one_place : (x k before : ℕ) (xs : List ℕ) → (if nat_eq x k then suc before else coded (suc before) (place_in xs k)) ≡ coded before (place_in (x ∷ xs) k)
one_place x k before xs = by (nat_eq x k)
  where
    by : (t : Bool) → (if t then suc before else coded (suc before) (place_in xs k)) ≡ coded before (if t then Some 0 else option_map (λ j. suc j) (place_in xs k))
    by true = omega arith
    by false = coded_next before (place_in xs k)

pub places_more : (first many : ℕ) (list : List ℕ) (before x : ℕ) (places new : List ℕ) → before < length list → x ≡ get_or list before x → length new ≡ length places → ((i : ℕ) → i < length places → get_or new i 0 ≡ (if nat_eq x (first + i) then suc before else get_or places i 0)) →
    ArePlaces first many list (suc before) places → ArePlaces first many list before new
places_more first many list before x places new h at same set a = record {
  count = same ∙ a.count;
  each = λ i l.
      let m : i < length places = omega (arith, l, a.count) in
      let z : before + 1 ≡ suc before = omega arith in
      let d : drop before list ≡ x ∷ drop (suc before) list = drop_more list before x h ∙ ap (λ y. y ∷ drop (before + 1) list) (sym at) ∙ ap (λ n. x ∷ drop n list) z in
      set i m ∙ ap (λ p. if nat_eq x (first + i) then suc before else p) (a.each i l) ∙ one_place x (first + i) before (drop (suc before) list) ∙ ap (λ xs. coded before (place_in xs (first + i))) (sym d);
}

pub places_begun : (first many : ℕ) (list places : List ℕ) → length places ≡ many → ((i : ℕ) → i < many → get_or places i 0 ≡ 0) → ArePlaces first many list (length list) places
places_begun first many list places count none = record {
  count = count;
  each = λ i l. none i l ∙ ap (λ xs. coded (length list) (place_in xs (first + i))) (sym (drop_all (length list) list (omega arith)));
}

-- one more number of a table
pub numbers_more : (first : ℕ) (hidden : List ℕ) (from : ℕ) (exported : ℕ → ℕ) (at n : ℕ) (numbers new : List ℕ) → new ≡ numbers ++ n ∷ [] → n ≡
    hidden_or from (place_in hidden (first + at)) (exported at) → AreNumbers first hidden from exported at numbers → AreNumbers first hidden from
    exported (at + 1) new
numbers_more first hidden from exported at n numbers new pushed is a =
    let l : length new ≡ length numbers + 1 = ap length pushed ∙ length-append numbers (n ∷ []) in
    record {
      count = omega (arith, l, a.count);
      each = λ i h. ap (λ ns. get_or ns i 0) pushed ∙ by i (below_suc at i (omega (arith, h)));
    }
  where
    by : (i : ℕ) → (i < at) ⊎ (i ≡ at) → get_or (numbers ++ n ∷ []) i 0 ≡ hidden_or from (place_in hidden (first + i)) (exported i)
    by i (inl h) = get_or_append_left numbers (n ∷ []) 0 i (omega (arith, h, a.count)) ∙ a.each i h
    by i (inr e) =
        ap (λ j. get_or (numbers ++ n ∷ []) j 0) (e ∙ sym a.count) ∙ get_or-append_seam numbers n [] 0 ∙ is ∙ ap (λ j. hidden_or from (place_in hidden (first + j)) (exported j)) (sym e)

-- all of them
is_below : (a b : ℕ) → a < b → nat_lt a b ≡ true
is_below a b h = grind (arith, nat_tests)

is_not_below : (a b : ℕ) → b ≤ a → nat_lt a b ≡ false
is_not_below a b h = grind (arith, nat_tests)

pub numbered_all : (first many : ℕ) (hidden : List ℕ) (from : ℕ) (exported : ℕ → ℕ) (n : Numbers) → n.first ≡ first → AreNumbers first hidden from exported many n.numbers.items → IsNumbered first many hidden from exported (number_in n)
numbered_all first many hidden from exported n same a = record {
  standard = λ k h. ap (λ t. if t then k else kept_or (slice_get n.numbers.items (k - n.first)) k) (is_below k n.first (omega (arith, h, same)));
  named = λ i h.
      let z : first + i - n.first ≡ i = omega (arith, same) in
      ap (λ t. if t then first + i else kept_or (slice_get n.numbers.items (first + i - n.first)) (first + i)) (is_not_below (first + i) n.first (omega (arith, same))) ∙
      ap (λ j. kept_or (slice_get n.numbers.items j) (first + i)) z ∙ ap (λ o. kept_or o (first + i)) (slice_get-get_or n.numbers.items i 0 (omega (arith, h, a.count))) ∙ a.each i h;
  other = λ k h.
      ap (λ t. if t then k else kept_or (slice_get n.numbers.items (k - n.first)) k) (is_not_below k n.first (omega (arith, h, same))) ∙
      ap (λ o. kept_or o k) (slice_get_past n.numbers.items (k - n.first) (omega (arith, h, same, a.count)));
}

-- what stands for a place
pub hidden_of : (from other place : ℕ) (o : Option ℕ) → place ≡ coded 0 o → (place ≡ 0 → hidden_or from o other ≡ other) × ((place ≡ 0 → ⊥) → hidden_or from o other ≡ from + (place - 1))
hidden_of from other place None e = (λ z. refl, λ f. absurd (f e))
hidden_of from other place (Some j) e = (λ z. absurd (omega (arith, e, z)), λ f. omega (arith, e))
