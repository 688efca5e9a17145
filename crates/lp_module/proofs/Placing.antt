-- What each step of making the numbers of a copy's names gives.
use Rattle.std.proofs.Common.{◌≡◌, ℕ, suc, ◌+◌, ◌-◌, ◌<◌, ◌≤◌, List, [], ◌++◌, length, map, replicate, get_or, Option, Some, None, refl, sym, ap, subst, ◌∙◌, arith, inl, inr}
use Rattle.std.specs.Prelude.{nat_eq, if◌then◌else◌, option_map, set}
use Rattle.std.proofs.lemmas.Bool.Decides.{eqb_tells}
use Rattle.std.proofs.lemmas.List.{get_or-set_same, get_or-set_other, get_or-replicate, length-replicate, get_or-map, get_or_default}
use Rattle.lp_sig.specs.Rows.{found, kind_row, number_row}
use Rattle.lp_sig.specs.Standard.{standard_kinds, standard_constants}
use Rattle.lp_sig.specs.declared.entries.KindEntry.{KindEntry}
use Rattle.lp_sig.specs.declared.entries.ConstantEntry.{ConstantEntry}
use Rattle.lp_module.specs.Numbering.{or_none}
use Rattle.lp_module.specs.Program.{place_in, hidden_or, one_if_none, exported_before, IsNumbered, kind_in, constant_in, kind_at, constant_at}
use Rattle.lp_module.specs.Renumbering.{number_in}
use Rattle.lp_module.specs.declared.module.Module.{Module}
use Rattle.lp_module.specs.declared.numbers.Numbers.{Numbers}
use Rattle.lp_module.specs.inner.Tables.{coded, ArePlaces, AreNumbers}
use Rattle.lp_module.proofs.Tabling.{place_below, places_begun, places_more, numbered_all}

-- the place of one number is set
pub place_other : (k n place x : ℕ) → (k ≡ n → ⊥) → x ≡ (if nat_eq k n then place else x)
place_other k n place x d = elim (eqb_tells k n) [
  | inl h ↦ absurd (d h.1)
  | inr h ↦ ap (λ t. if t then place else x) (sym h.0)
]

pub place_set : (first number at place : ℕ) (xs : List ℕ) → at ≡ number - first → first ≤ number → at < length xs → (i : ℕ) → get_or (set xs at place) i 0 ≡ (if nat_eq number (first + i) then place else get_or xs i 0)
place_set first number at place xs is le lt i = elim (eqb_tells number (first + i)) [
  | inl h ↦ same h.1 ∙ ap (λ t. if t then place else get_or xs i 0) (sym h.0)
  | inr h ↦ get_or-set_other xs at i place 0 (λ e. h.1 (omega (arith, is, le, e))) ∙ ap (λ t. if t then place else get_or xs i 0) (sym h.0)
]
  where
    same : number ≡ first + i → get_or (set xs at place) i 0 ≡ place
    same e = let j : i ≡ at = omega (arith, is, le, e) in ap (λ k. get_or (set xs at place) k 0) j ∙ get_or-set_same xs at place 0 lt

-- the places of a list, from its end
pub places_started : (first many : ℕ) (list places : List ℕ) (n : ℕ) → places ≡ replicate many 0 → n ≡ length list → ArePlaces first many list n places
places_started first many list places n is e =
    subst (λ k. ArePlaces first many list k places) (sym e) (places_begun first many list places (ap length is ∙ length-replicate many 0) (λ i h. ap (λ l. get_or l i 0) is ∙ get_or-replicate many i 0 0 h))

pub places_step : (first many : ℕ) (list : List ℕ) (end at place x : ℕ) (places new : List ℕ) → at < end → end ≡ length list → place ≡ end - 1 - at →
    x ≡ get_or list place 0 → length new ≡ length places → ((i : ℕ) → i < length places → get_or new i 0 ≡
    (if nat_eq x (first + i) then place + 1 else get_or places i 0)) →
    ArePlaces first many list (end - at) places → ArePlaces first many list (end - (at + 1)) new
places_step first many list end at place x places new h all is read same sets a =
    let s : end - at ≡ suc place = omega (arith, h, is) in
    let t : place ≡ end - (at + 1) = omega (arith, h, is) in
    let u : place + 1 ≡ suc place = omega arith in
    subst (λ n. ArePlaces first many list n new) t
    (places_more first many list place x places new (omega (arith, h, all, is)) (read ∙ get_or_default list place 0 x (omega (arith, h, all, is))) same (λ i l. sets i l ∙ ap (λ n. if nat_eq x (first + i) then n else get_or places i 0) u) (subst (λ n. ArePlaces first many list n places) s a))

pub places_done : (first many : ℕ) (list : List ℕ) (end at : ℕ) (places : List ℕ) → end ≤ at → ArePlaces first many list (end - at) places → ArePlaces first many list 0 places
places_done first many list end at places h a = let z : end - at ≡ 0 = omega (arith, h) in subst (λ n. ArePlaces first many list n places) z a

-- one place that was kept
module _ (first many : ℕ) (list places : List ℕ) (at place : ℕ) (a : ArePlaces first many list 0 places) (h : at < many) (is : place ≡ get_or places at place) where
  pub place_at : place ≡ coded 0 (place_in list (first + at))
  place_at = is ∙ get_or_default places at place 0 (omega (arith, h, a.count)) ∙ a.each at h

  pub place_fits : place ≤ length list
  place_fits = by (place_in list (first + at)) refl
    where
      by : (o : Option ℕ) → place_in list (first + at) ≡ o → place ≤ length list
      by None e = let z : place ≡ 0 = place_at ∙ ap (coded 0) e in omega (arith, z)
      by (Some j) e = let z : place ≡ suc (0 + j) = place_at ∙ ap (coded 0) e in let l = place_below list (first + at) j e in omega (arith, z, l)

-- the number of a name by its place
pub hidden_none : (from other place : ℕ) → place ≡ 0 → (o : Option ℕ) → place ≡ coded 0 o → other ≡ hidden_or from o other
hidden_none from other place z None e = refl
hidden_none from other place z (Some j) e = absurd (omega (arith, e, z))

pub hidden_some : (from other place number : ℕ) → (place ≡ 0 → ⊥) → number ≡ from + (place - 1) → (o : Option ℕ) → place ≡ coded 0 o → number ≡ hidden_or from o other
hidden_some from other place number z is None e = absurd (z e)
hidden_some from other place number z is (Some j) e = omega (arith, e, is)

pub one_none : (place : ℕ) → place ≡ 0 → (o : Option ℕ) → place ≡ coded 0 o → 1 ≡ one_if_none o
one_none place z None e = refl
one_none place z (Some j) e = absurd (omega (arith, e, z))

pub one_some : (place : ℕ) → (place ≡ 0 → ⊥) → (o : Option ℕ) → place ≡ coded 0 o → 0 ≡ one_if_none o
one_some place z None e = absurd (z e)
one_some place z (Some j) e = refl

pub numbers_none : (first : ℕ) (hidden : List ℕ) (from : ℕ) (exported : ℕ → ℕ) (ns : List ℕ) → ns ≡ [] → AreNumbers first hidden from exported 0 ns
numbers_none first hidden from exported ns e = record { count = ap length e; each = λ i h. absurd (omega (arith, h)) }

pub numbered_end : (first many at : ℕ) (hidden : List ℕ) (from : ℕ) (exported : ℕ → ℕ) (n : Numbers) → n.first ≡ first → at ≡ many → AreNumbers first hidden from exported at n.numbers.items → IsNumbered first many hidden from exported (number_in n)
numbered_end first many at hidden from exported n same end a = numbered_all first many hidden from exported n same (subst (λ k. AreNumbers first hidden from exported k n.numbers.items) end a)

-- the same, of lists that are read
pub places_of : (first many m : ℕ) (list l places : List ℕ) → m ≡ many → l ≡ list → ArePlaces first m l 0 places → ArePlaces first many list 0 places
places_of first many m list l places a b p = subst (λ k. ArePlaces first many k 0 places) b (subst (λ k. ArePlaces first k l 0 places) a p)

pub root_of : (first many m : ℕ) (hidden l : List ℕ) (from : ℕ) (number : ℕ → ℕ) → m ≡ many → l ≡ hidden → IsNumbered first m l from (λ i. first + exported_before first l i) number → IsNumbered first many hidden from (λ i. first + exported_before first hidden i) number
root_of first many m hidden l from number a b p = subst (λ k. IsNumbered first many k from (λ i. first + exported_before first k i) number) b (subst (λ k. IsNumbered first k l from (λ i. first + exported_before first l i) number) a p)

-- how many of the first names are exported
one_few : (o : Option ℕ) → one_if_none o ≤ 1
one_few None = omega arith
one_few (Some j) = omega arith

pub exported_next : (first : ℕ) (hidden : List ℕ) (at next one : ℕ) → next ≡ first + exported_before first hidden at → one ≡ one_if_none (place_in hidden (first + at)) → next + one ≡ first + exported_before first hidden (at + 1)
exported_next first hidden at next one n o =
    let z : suc at ≡ at + 1 = omega arith in
    let s : exported_before first hidden (suc at) ≡ exported_before first hidden at + one_if_none (place_in hidden (first + at)) = refl in
    let t = ap (exported_before first hidden) z in
    omega (arith, n, o, s, t)

pub exported_few : (first : ℕ) (hidden : List ℕ) (at : ℕ) → exported_before first hidden at ≤ at → exported_before first hidden (at + 1) ≤ at + 1
exported_few first hidden at h =
    let z : suc at ≡ at + 1 = omega arith in
    let s : exported_before first hidden (suc at) ≡ exported_before first hidden at + one_if_none (place_in hidden (first + at)) = refl in
    let t = ap (exported_before first hidden) z in
    let o = one_few (place_in hidden (first + at)) in
    omega (arith, h, o, s, t)

-- a name in the copy above
pub kind_found : (m above : Module) (kinds : ℕ → ℕ) (at : ℕ) (entries : List KindEntry) (entry : KindEntry) (name : List ℕ) (n : ℕ × ℕ) → entries ≡
    m.signature.kinds.items → at < length m.signature.kinds.items → entry ≡ get_or entries at entry → name ≡ entry.name.items → found name
    (standard_kinds ++ map kind_row above.signature.kinds.items) ≡ Some n → kinds n.0 ≡ kind_in above kinds (kind_at m at)
kind_found m above kinds at entries entry name n all h is named f =
    let w : kind_at m at ≡ name = get_or-map (λ e. e.name.items) m.signature.kinds.items at entry [] h ∙ ap (λ e. e.name.items) (sym (is ∙ ap (λ l. get_or l at entry) all)) ∙ sym named in
    sym (ap (kind_in above kinds) w ∙ ap (λ o. or_none (option_map (λ r. kinds r.0) o)) f)

pub constant_found : (m above : Module) (constants : ℕ → ℕ) (at : ℕ) (entries : List ConstantEntry) (entry : ConstantEntry) (name : List ℕ) (n : ℕ) →
    entries ≡ m.signature.constants.items → at < length m.signature.constants.items → entry ≡ get_or entries at entry → name ≡ entry.name.items →
    found name (standard_constants ++ map number_row above.signature.constants.items) ≡ Some n → constants n ≡ constant_in above constants
    (constant_at m at)
constant_found m above constants at entries entry name n all h is named f =
    let w : constant_at m at ≡ name = get_or-map (λ e. e.name.items) m.signature.constants.items at entry [] h ∙ ap (λ e. e.name.items) (sym (is ∙ ap (λ l. get_or l at entry) all)) ∙ sym named in
    sym (ap (constant_in above constants) w ∙ ap (λ o. or_none (option_map constants o)) f)
