-- The kinds of a signature that is seen, one after the other, with their numbers here.
use Rattle.std.proofs.Common.{◌≡◌, ℕ, zero, suc, ◌+◌, ◌<◌, List, [], ◌∷◌, ◌++◌, length, map, get_or, take, drop, Bool, true, false, Option, Some, refl, sym, ap, subst, ◌∙◌, arith, inl, inr, append_assoc, append-nil}
use Rattle.std.specs.Prelude.{◌⊎◌, nat_eq, if◌then◌else◌, slice_get}
use Rattle.std.specs.List.{range_with_len}
use Rattle.std.proofs.lemmas.List.{map-append, take-append-drop, length-map}
use Rattle.std.proofs.lemmas.List.FromFn.{get_or-range_with_len}
use Rattle.std.proofs.lemmas.Option.{same_Some, slice_get-get_or}
use Rattle.std.proofs.lemmas.Bool.{eqb-true}
use Rattle.lp_sig.specs.Rows.{Row}
use Rattle.lp_sig.specs.Said.{Said, names_in}
use Rattle.lp_sig.specs.Modules.{kind_said}
use Rattle.lp_sig.specs.Named.{kind_name}
use Rattle.lp_sig.specs.Sighted.{said_kinds, IsKind, AreKinds, HasItsNumber}
use Rattle.lp_sig.specs.declared.entries.KindEntry.{KindEntry}
use Rattle.lp_sig.specs.declared.see.Sight.{Sight}
use Rattle.lp_sig.specs.declared.see.Sight.TheVariants.{Alike}
use Rattle.lp_sig.proofs.Sighting.{name_above, name_later, kind_among}
use Rattle.lp_sig.proofs.Viewing.{names_are}

-- the number of an entry
pub number_at : (es : List KindEntry) (i : ℕ) (e : KindEntry) → i < length es → e ≡ get_or es i e → map (λ e. e.number) es ≡ range_with_len 8 (length es) → e.number ≡ 8 + i
number_at es i e l at numbers = ap (λ e. e.number) at ∙ sym (get_map es i) ∙ ap (λ ns. get_or ns i e.number) numbers ∙ get_or-range_with_len 8 (length es) i e.number l
  where
    get_map : (es : List KindEntry) (i : ℕ) → get_or (map (λ e. e.number) es) i e.number ≡ (get_or es i e).number
    get_map [] i = refl
    get_map (x ∷ xs) zero = refl
    get_map (x ∷ xs) (suc i) = get_map xs i

pub name_at : (es : List KindEntry) (i : ℕ) (e : KindEntry) → i < length es → e ≡ get_or es i e → slice_get (map (λ e. e.name.items) es) i ≡ Some e.name.items
name_at [] i e l at = absurd (omega (arith, l))
name_at (x ∷ xs) zero e l at = ap (λ e. Some e.name.items) (sym at)
name_at (x ∷ xs) (suc i) e l at = name_at xs i e (omega (arith, l)) at

module _ (said : List (Row Said)) (es : List KindEntry) (i : ℕ) (e : KindEntry) (l : i < length es) (at : e ≡ get_or es i e) where
  -- what is said by then, and what is said later
  all_said : said ++ map kind_said es ≡ (said ++ map kind_said (take (i + 1) es)) ++ map kind_said (drop (i + 1) es)
  all_said =
      sym (append_assoc said (map kind_said (take (i + 1) es)) (map kind_said (drop (i + 1) es)) ∙ ap (λ r. said ++ r)
      (sym (map-append kind_said (take (i + 1) es) (drop (i + 1) es)) ∙ ap (map kind_said) (take-append-drop (i + 1) es)))

  -- a kind at last is one by then
  kind_by_then : AreKinds (said ++ map kind_said es) (map (λ e. e.name.items) es) → IsKind (said ++ map kind_said (take (i + 1) es)) e.name.items
  kind_by_then all =
      let rows = map kind_said (take (i + 1) es) in
      let more = map kind_said (drop (i + 1) es) in
      let n = length-map es (λ e. e.name.items) in
      let whole : IsKind (said ++ map kind_said es) e.name.items = subst (IsKind (said ++ map kind_said es))
      (same_Some (get_or (map (λ e. e.name.items) es) i e.name.items) e.name.items
      (sym (slice_get-get_or (map (λ e. e.name.items) es) i e.name.items (omega (arith, l, n))) ∙ name_at es i e l at))
      (all i e.name.items (omega (arith, l, n))) in
      let there : slice_get (names_in rows) i ≡ Some e.name.items = ap (λ ns. slice_get ns i) (names_are (take (i + 1) es)) ∙ taken es i l at in
      subst (λ r. IsKind (said ++ r) e.name.items) (append-nil rows)
      (kind_among said rows [] more e.name.items i there (subst (λ s. IsKind s e.name.items) (all_said ∙ ap (λ r. (said ++ r) ++ more) (sym (append-nil rows))) whole))
    where
      taken : (es : List KindEntry) (i : ℕ) → i < length es → e ≡ get_or es i e → slice_get (map (λ e. e.name.items) (take (i + 1) es)) i ≡ Some e.name.items
      taken [] i l at = absurd (omega (arith, l))
      taken (x ∷ xs) zero l at = ap (λ e. Some e.name.items) (sym at)
      taken (x ∷ xs) (suc i) l at = let z : suc i + 1 ≡ suc (i + 1) = omega arith in ap (λ n. slice_get (map (λ e. e.name.items) (take n (x ∷ xs))) (suc i)) z ∙ taken xs i (omega (arith, l)) at

  -- one more kind has its number
  pub kinds_step : map (λ e. e.number) es ≡ range_with_len 8 (length es) → (old new : ℕ → Option ℕ) (number : ℕ) (s all all_then : Sight) →
      ((k : ℕ) → new k ≡ (if nat_eq e.number k then Some number else old k)) →
      (all_then ≡ Alike → (all ≡ Alike) × (s ≡ Alike)) → HasItsNumber (said ++ map kind_said (take (i + 1) es)) e.name.items (number, s) →
      ((all ≡ Alike) ⊎ AreKinds (said ++ map kind_said es) (map (λ e. e.name.items) es) → (k n : ℕ) → old k ≡ Some n → (k < 8 + i) ×
      (kind_name (said_kinds (said ++ map kind_said es)) n ≡ kind_name (map (λ e. e.name.items) es) k)) →
      (all_then ≡ Alike) ⊎ AreKinds (said ++ map kind_said es) (map (λ e. e.name.items) es) → (k n : ℕ) → new k ≡ Some n → (k < 8 + (i + 1)) ×
      (kind_name (said_kinds (said ++ map kind_said es)) n ≡ kind_name (map (λ e. e.name.items) es) k)
  kinds_step numbers old new number s all all_then put both this before premise k n found = by (nat_eq e.number k) refl (sym (put k) ∙ found)
    where
      place : e.number ≡ 8 + i
      place = number_at es i e l at numbers

      left : (all_then ≡ Alike) ⊎ AreKinds (said ++ map kind_said es) (map (λ e. e.name.items) es) → (all ≡ Alike) ⊎ AreKinds (said ++ map kind_said es) (map (λ e. e.name.items) es)
      left (inl q) = inl (both q).0
      left (inr q) = inr q

      right : (all_then ≡ Alike) ⊎ AreKinds (said ++ map kind_said es) (map (λ e. e.name.items) es) → (s ≡ Alike) ⊎ IsKind (said ++ map kind_said (take (i + 1) es)) e.name.items
      right (inl q) = inl (both q).1
      right (inr q) = inr (kind_by_then q)

      by : (t : Bool) → nat_eq e.number k ≡ t → (if t then Some number else old k) ≡ Some n → (k < 8 + (i + 1)) ×
          (kind_name (said_kinds (said ++ map kind_said es)) n ≡ kind_name (map (λ e. e.name.items) es) k)
      by true t f =
          let z : e.number ≡ k = eqb-true e.number k t in
          let m : number ≡ n = same_Some number n f in
          let named : kind_name (said_kinds ((said ++ map kind_said (take (i + 1) es)) ++ map kind_said (drop (i + 1) es))) number ≡ Some e.name.items =
          name_later (said ++ map kind_said (take (i + 1) es)) (map kind_said (drop (i + 1) es)) number e.name.items (this (right premise)) in (
            omega (arith, z, place),
            ap (kind_name (said_kinds (said ++ map kind_said es))) (sym m) ∙ ap (λ r. kind_name (said_kinds r) number) all_said ∙ named ∙
                sym (name_above (map (λ e. e.name.items) es) k i e.name.items (sym z ∙ place) (name_at es i e l at)),
          )
      by false t f = let h = before (left premise) k n f in let b = h.0 in (omega (arith, b), h.1)
