-- The constants of a text that was read are standard ones, or those of the signature.
use Rattle.std.proofs.Common.{◌≡◌, ℕ, ◌≤◌, List, [], ◌∷◌, ◌++◌, map, length, refl, sym, ap, ◌∙◌, subst, Option, Some, None, Bool, true, false, inl, inr, arith}
use Rattle.std.specs.Prelude.{if◌then◌else◌, ◌⊎◌, ◌&&◌, nat_lt, Contains, find, option_map}
use Rattle.std.specs.Str.{bytes_eq}
use Rattle.std.proofs.lemmas.Bool.{ltb-true, ltb-false}
use Rattle.std.proofs.lemmas.Option.{same_Some}
use Rattle.lp_lemmas.proofs.Booleans.{and_true_left, and_true_right}
use Rattle.lp_lemmas.proofs.Elements.{Contains_head, Contains_tail}
use Rattle.lp_base.specs.declared.place.Spot.{Spot}
use Rattle.lp_calculus.specs.Typing.{Scheme}
use Rattle.lp_standard.specs.Schemes.{standard_schemes, entry}
use Rattle.lp_syntax.specs.declared.text.RawNode.{RawNode}
use Rattle.lp_syntax.specs.declared.text.RawNode.TheVariants.{Name, Known, Number, Text, App, Abs}
use Rattle.lp_sig.specs.declared.entries.ConstantEntry.{ConstantEntry}
use Rattle.lp_sig.specs.declared.signature.Signature.{Signature}
use Rattle.lp_sig.specs.Pieces.{spelled, begins_variable}
use Rattle.lp_sig.specs.Places.{first_place}
use Rattle.lp_sig.specs.Rows.{Row, found, number_row}
use Rattle.lp_sig.specs.Standard.{standard_constants}
use Rattle.lp_infer.specs.Typing.{Raw, raw_index, raw_constant, raw_integer, raw_text, raw_abs, raw_app}
use Rattle.lp_infer.specs.Texts.{Notes, is_blank, variable_index, string_bytes, entry_scheme, Read, read_constant, read_number, read_variable, read_free, read_bound, read_name, read_leaf, Reads, leaf, application, abstraction}

-- a constant with its declared type: a standard one, or one of the signature
abbrev pub IsConstantOf : Signature → ℕ → Scheme → Type 0
IsConstantOf sig c s = (entry standard_schemes c ≡ Some s) ⊎ ((e : ConstantEntry) × Contains sig.constants.items e × (e.number ≡ c) × (entry_scheme sig.bank e ≡ s))

abbrev pub HasConstants : Signature → Raw → Type 0
HasConstants sig (raw_index i) = Unit {0}
HasConstants sig (raw_constant c s) = IsConstantOf sig c s
HasConstants sig (raw_integer z) = Unit {0}
HasConstants sig (raw_text t) = Unit {0}
HasConstants sig (raw_abs given b) = HasConstants sig b
HasConstants sig (raw_app f u) = HasConstants sig f × HasConstants sig u

-- what a search by name finds
abbrev are_low : List (Row ℕ) → Bool
are_low [] = true
are_low (r ∷ rs) = nat_lt r.1 32 && are_low rs

pub is_found : (w : List ℕ) (es : List ConstantEntry) (e : ConstantEntry) → find (λ x. bytes_eq w x.name.items) es ≡ Some e → Contains es e
is_found w [] e h = absurd (cc)
is_found w (x ∷ xs) e h = by (bytes_eq w x.name.items) (is_found w xs e) h
  where
    by : (t : Bool) → (find (λ x. bytes_eq w x.name.items) xs ≡ Some e → Contains xs e) → (if t then Some x else find (λ x. bytes_eq w x.name.items) xs) ≡ Some e → Contains (x ∷ xs) e
    by true k h = subst (λ y. Contains (x ∷ xs) y) (same_Some x e h) (Contains_head x xs)
    by false k h = Contains_tail x e xs (k h)

same_number : (w : List ℕ) (es : List ConstantEntry) (e : ConstantEntry) (c : ℕ) → found w (map number_row es) ≡ Some c → find (λ x. bytes_eq w x.name.items) es ≡ Some e → e.number ≡ c
same_number w [] e c f h = absurd (cc)
same_number w (x ∷ xs) e c f h = by (bytes_eq w x.name.items) (same_number w xs e c) f h
  where
    by : (t : Bool) → (found w (map number_row xs) ≡ Some c → find (λ x. bytes_eq w x.name.items) xs ≡ Some e → e.number ≡ c) →
        (if t then Some x.number else found w (map number_row xs)) ≡ Some c → (if t then Some x else find (λ x. bytes_eq w x.name.items) xs) ≡ Some e → e.number ≡ c
    by true k f h = ap (λ y. y.number) (sym (same_Some x e h)) ∙ same_Some x.number c f
    by false k f h = k f h

behind_low : (w : List ℕ) (rows : List (Row ℕ)) (es : List ConstantEntry) (e : ConstantEntry) (c : ℕ) → are_low rows ≡ true → 32 ≤ c → found w
    (rows ++ map number_row es) ≡ Some c → find (λ x. bytes_eq w x.name.items) es ≡ Some e → e.number ≡ c
behind_low w [] es e c low l f h = same_number w es e c f h
behind_low w (r ∷ rs) es e c low l f h = by (bytes_eq w r.0) (λ k. behind_low w rs es e c (and_true_right (nat_lt r.1 32) (are_low rs) low) l k h) f
  where
    by : (t : Bool) → (found w (rs ++ map number_row es) ≡ Some c → e.number ≡ c) → (if t then Some r.1 else found w (rs ++ map number_row es)) ≡ Some c → e.number ≡ c
    by true k g = let small = ltb-true r.1 32 (and_true_left (nat_lt r.1 32) (are_low rs) low) in let same = same_Some r.1 c g in absurd (omega (arith, small, same, l))
    by false k g = k g

-- what is read, where it is read, has such constants
abbrev IfKnown : Signature → Read → Type 0
IfKnown sig r = (R : Raw) (after : List Spot) → r ≡ Some (R, after) → HasConstants sig R

none_known : (sig : Signature) → IfKnown sig None
none_known sig R after e = absurd (cc)

some_known : (sig : Signature) (R : Raw) (after : List Spot) → HasConstants sig R → IfKnown sig (Some (R, after))
some_known sig R after h Q last e = subst (HasConstants sig) (ap (λ p. p.0) (same_Some (R, after) (Q, last) e)) h

if_known : (sig : Signature) (b : Bool) (x y : Read) → IfKnown sig x → IfKnown sig y → IfKnown sig (if b then x else y)
if_known sig true x y h k = h
if_known sig false x y h k = k

module _ (sig : Signature) where
  scheme_known : (c : ℕ) (o : Option Scheme) (before : List Spot) → ((s : Scheme) → o ≡ Some s → IsConstantOf sig c s) → IfKnown sig (read_constant c o before)
  scheme_known c None before h = none_known sig
  scheme_known c (Some s) before h = some_known sig (raw_constant c s) before (h s refl)

  low_known : (c : ℕ) (before : List Spot) → IfKnown sig (read_constant c (entry standard_schemes c) before)
  low_known c before = scheme_known c (entry standard_schemes c) before (λ s e. inl e)

  entry_known : (w : List ℕ) (c : ℕ) → 32 ≤ c → found w (standard_constants ++ map number_row sig.constants.items) ≡ Some c →
      (o : Option ConstantEntry) → find (λ x. bytes_eq w x.name.items) sig.constants.items ≡ o → (s : Scheme) →
      option_map (entry_scheme sig.bank) o ≡ Some s → IsConstantOf sig c s
  entry_known w c l f None h s e = absurd (cc)
  entry_known w c l f (Some x) h s e = inr (x, is_found w sig.constants.items x h, behind_low w standard_constants sig.constants.items x c refl l f h, same_Some (entry_scheme sig.bank x) s e)

  number_known : (w : List ℕ) (o : Option ℕ) → found w (standard_constants ++ map number_row sig.constants.items) ≡ o → (before : List Spot) → IfKnown sig (read_number sig w o before)
  number_known w None f before = none_known sig
  number_known w (Some c) f before = by (nat_lt c 32) refl
    where
      by : (t : Bool) → nat_lt c 32 ≡ t → IfKnown sig
          (read_constant c (if t then entry standard_schemes c else option_map (entry_scheme sig.bank) (find (λ x. bytes_eq w x.name.items) sig.constants.items)) before)
      by true e = low_known c before
      by false e =
          scheme_known c (option_map (entry_scheme sig.bank) (find (λ x. bytes_eq w x.name.items) sig.constants.items)) before
          (entry_known w c (ltb-false c 32 e) f (find (λ x. bytes_eq w x.name.items) sig.constants.items) refl)

  module _ (text : List ℕ) (count : ℕ) (scope : List (List ℕ)) where
    variable_known : (s : Spot) (o : Option ℕ) (before : List Spot) → IfKnown sig (read_variable count scope s o before)
    variable_known s None before = some_known sig (variable_index count scope (length before)) (before ++ s ∷ []) tt
    variable_known s (Some j) before = some_known sig (variable_index count scope j) before tt

    free_known : (s : Spot) (before : List Spot) → IfKnown sig (read_free sig text count scope s before)
    free_known s before =
        if_known sig (begins_variable (spelled text s)) (read_variable count scope s (first_place (spelled text s) (map (spelled text) before)) before)
        (read_number sig (spelled text s) (found (spelled text s) (standard_constants ++ map number_row sig.constants.items)) before)
        (variable_known s (first_place (spelled text s) (map (spelled text) before)) before)
        (number_known (spelled text s) (found (spelled text s) (standard_constants ++ map number_row sig.constants.items)) refl before)

    bound_known : (s : Spot) (o : Option ℕ) (before : List Spot) → IfKnown sig (read_bound sig text count scope s o before)
    bound_known s None before = free_known s before
    bound_known s (Some i) before = some_known sig (raw_index i) before tt

    name_known : (s : Spot) (before : List Spot) → IfKnown sig (read_name sig text count scope s before)
    name_known s before =
        if_known sig (is_blank (spelled text s)) (read_variable count scope s None before) (read_bound sig text count scope s (first_place (spelled text s) scope) before)
        (variable_known s None before) (bound_known s (first_place (spelled text s) scope) before)

    leaf_known : (node : RawNode) (before : List Spot) → IfKnown sig (read_leaf sig text count scope node before)
    leaf_known (Name s) before = name_known s before
    leaf_known (Known c s) before = low_known c before
    leaf_known (Number z s) before = some_known sig (raw_integer z) before tt
    leaf_known (Text s) before = some_known sig (raw_text (string_bytes (spelled text s))) before tt
    leaf_known (App f x) before = none_known sig
    leaf_known (Abs s written b) before = none_known sig

  pub constants_known : (text : List ℕ) (nodes : List RawNode) (κ : Notes) (count : ℕ) {scope : List (List ℕ)} {before after : List Spot} {n : ℕ} {R : Raw} →
      Reads sig text nodes κ count scope before n R after → HasConstants sig R
  constants_known text nodes κ count (leaf scope before n node R after at is) = leaf_known text count scope node before R after is
  constants_known text nodes κ count (application scope before n f x F X middle after at lf lx rf rx) = (constants_known text nodes κ count rf, constants_known text nodes κ count rx)
  constants_known text nodes κ count (abstraction scope before n s written b given R after at lb noted r) = constants_known text nodes κ count r
