-- What stands at a place that a name has: an abbreviation with its count of parameters, or a constant.
use Rattle.std.proofs.Common.{◌≡◌, ℕ, zero, suc, ◌<◌, ◌≤◌, List, [], ◌∷◌, length, map, get_or, Bool, true, false, Option, Some, None, refl, sym, ap, ◌∙◌, arith}
use Rattle.std.specs.Prelude.{if◌then◌else◌, option_map}
use Rattle.std.specs.Str.{bytes_eq}
use Rattle.std.proofs.lemmas.List.{length-map, get_or_past}
use Rattle.std.proofs.lemmas.Option.{same_Some}
use Rattle.lp_sig.specs.Places.{first_place, place_of, HasPlaces}
use Rattle.lp_sig.specs.Rows.{Row}
use Rattle.lp_sig.specs.Said.{Said, an_abbreviation, abbreviations_among, declared_names}
use Rattle.lp_sig.specs.Abbreviations.{abbreviation_names}
use Rattle.lp_sig.specs.Knowing.{Knows, head_row}
use Rattle.lp_sig.specs.declared.constants.Constant.{Constant}
use Rattle.lp_sig.specs.declared.constants.Constants.{Constants}
use Rattle.lp_sig.specs.declared.names.Names.{Names}
use Rattle.lp_sig.specs.declared.names.Head.{Head}

pub row_at : (heads : List Head) (i : ℕ) (h : Head) → i < length heads → h ≡ get_or heads i h → (get_or (map head_row heads) i ([], 0)).1 ≡ h.parameters
row_at [] i h l is = absurd (omega (arith, l))
row_at (x ∷ xs) zero h l is = ap (λ h. h.parameters) (sym is)
row_at (x ∷ xs) (suc i) h l is = row_at xs i h (omega (arith, l)) is

pub row_past : (heads seen : List Head) (i : ℕ) → seen ≡ heads → length seen ≤ i → 0 ≡ (get_or (map head_row heads) i ([], 0)).1
row_past heads seen i same l =
    let a = length-map heads head_row in
    let b = ap length same in
    sym (ap (λ r. r.1) (get_or_past (map head_row heads) i ([], 0) (omega (arith, l, a, b))))

pub parameters_at : (heads seen : List Head) (i : ℕ) (h : Head) → seen ≡ heads → i < length seen → h ≡ get_or seen i h → an_abbreviation (get_or (map head_row heads) i ([], 0)).1 ≡ an_abbreviation h.parameters
parameters_at heads seen i h same l is = ap (λ s. an_abbreviation (get_or (map head_row s) i ([], 0)).1) (sym same) ∙ ap an_abbreviation (row_at seen i h l is)

pub place_below : (name : List ℕ) (ns : List (List ℕ)) (i : ℕ) → first_place name ns ≡ Some i → i < length ns
place_below name [] i e = absurd (cc)
place_below name (n ∷ ns) i e = by (bytes_eq name n) (first_place name ns) refl e (λ j f. place_below name ns j f)
  where
    by : (t : Bool) (o : Option ℕ) → first_place name ns ≡ o → (if t then Some 0 else option_map (λ i. suc i) o) ≡ Some i → ((j : ℕ) → first_place name ns ≡ Some j → j < length ns) → i < suc (length ns)
    by true o p e f = let z : 0 ≡ i = same_Some 0 i e in omega (arith, z)
    by false None p e f = absurd (cc)
    by false (Some j) p e f = let z : suc j ≡ i = same_Some (suc j) i e in let l = f j p in omega (arith, z, l)

-- an abbreviation that a name means has its head
pub has_head : (names : Names) (said : List (Row Said)) (name : List ℕ) (place : ℕ) (seen : List Head) → Knows names said → seen ≡ names.heads.items → Some place ≡ first_place name (abbreviation_names said) → length seen ≤ place → ⊥
has_head names said name place seen k same at past =
    let l = place_below name (abbreviation_names said) place (sym at) in
    let a = ap length k.heads in
    let b = length-map names.heads.items head_row in
    let c = length-map (abbreviations_among (declared_names said)) (λ r. r.0) in
    let d = ap length same in
    omega (arith, l, a, b, c, d, past)

-- and so has a constant
pub has_constant : (c : Constants) (name : List ℕ) (place : ℕ) (seen : List Constant) → HasPlaces c.places (map (λ k. k.name.items) c.constants.items) → seen ≡ c.constants.items → Some place ≡ place_of c.places name → length seen ≤ place → ⊥
has_constant c name place seen h same at past =
    let l = place_below name (map (λ k. k.name.items) c.constants.items) place (sym (at ∙ h name)) in
    let a = length-map c.constants.items (λ k. k.name.items) in
    let b = ap length same in
    omega (arith, l, a, b, past)
