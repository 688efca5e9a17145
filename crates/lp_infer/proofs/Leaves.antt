-- What a node without parts reads as.
use Rattle.std.proofs.Common.{◌≡◌, ℕ, zero, suc, ◌+◌, ◌-◌, ◌<◌, ◌≤◌, List, [], ◌∷◌, ◌++◌, map, length, refl, sym, ap, subst, ◌∙◌, Option, Some, None, Bool, true, false, arith, option_map}
use Rattle.std.specs.Prelude.{find, if◌then◌else◌}
use Rattle.std.specs.Str.{bytes_eq}
use Rattle.std.proofs.lemmas.Bool.{le-ltb, cond-true, cond-false}
use Rattle.lp_base.specs.declared.place.Spot.{Spot}
use Rattle.lp_calculus.specs.Types.{Ty}
use Rattle.lp_calculus.specs.Typing.{Scheme}
use Rattle.lp_standard.specs.Schemes.{standard_schemes, entry}
use Rattle.lp_sig.specs.declared.signature.Signature.{Signature}
use Rattle.lp_sig.specs.declared.entries.ConstantEntry.{ConstantEntry}
use Rattle.lp_infer.specs.Typing.{Raw}
use Rattle.lp_sig.specs.Pieces.{spelled, begins_variable}
use Rattle.lp_sig.specs.Places.{first_place}
use Rattle.lp_sig.specs.Rows.{found, number_row}
use Rattle.lp_sig.specs.Standard.{standard_constants}
use Rattle.lp_infer.specs.Texts.{Read, is_blank, variable_index, entry_scheme, constant_scheme, read_number, read_variable, read_free, read_bound, read_name}
use Rattle.lp_infer.specs.Firsts.{AreFirsts}
use Rattle.lp_infer.specs.Postfix.{is_index, postfix, mark, scheme_or, IsStep}
use Rattle.lp_infer.specs.Visits.{IsLeafRead, LeafRead}
use Rattle.lp_infer.specs.declared.lookup.Step.{Step}
use Rattle.lp_infer.specs.declared.lookup.Lookup.{Lookup}

-- the same, said otherwise
pub leaf_as : (sig : Signature) (text : List ℕ) (read other : ℕ → Read) (old new : Lookup) → ((count : ℕ) → other count ≡ read count) → IsLeafRead sig text read old new → IsLeafRead sig text other old new
leaf_as sig text read other old new e L = record {
  step = L.step;
  steps = L.steps;
  raw = L.raw;
  reads = λ count. e count ∙ L.reads count;
  marked = L.marked;
  known = L.known;
  scope = L.scope;
  types = L.types;
  notes = L.notes;
  variables = L.variables;
}

pub leaf_read_as : (sig : Signature) (text : List ℕ) (read other : ℕ → Read) (old new : Lookup) (ok : Bool) → ((count : ℕ) → other count ≡ read count) → LeafRead ok sig text read old new → LeafRead ok sig text other old new
leaf_read_as sig text read other old new true e L = leaf_as sig text read other old new e L
leaf_read_as sig text read other old new false e L = λ count. e count ∙ L count

-- a variable was added before
pub leaf_from : (sig : Signature) (text : List ℕ) (read : ℕ → Read) (old mid new : Lookup) → mid.steps ≡ old.steps → mid.scope ≡ old.scope → mid.types ≡ old.types → mid.notes ≡ old.notes →
    (AreFirsts text old.variables → AreFirsts text mid.variables) → IsLeafRead sig text read mid new → IsLeafRead sig text read old new
leaf_from sig text read old mid new steps scope types notes firsts L = record {
  step = L.step;
  steps = L.steps ∙ ap (λ v. v.items ++ L.step ∷ []) steps;
  raw = L.raw;
  reads = L.reads;
  marked = L.marked;
  known = L.known;
  scope = L.scope ∙ scope;
  types = L.types ∙ types;
  notes = L.notes ∙ notes;
  variables = λ f. L.variables (firsts f);
}

-- one step more, and nothing else
pub leaf_pushed : (sig : Signature) (text : List ℕ) (read : ℕ → Read) (old new : Lookup) (s : Step) (raw : ℕ → Raw) → new.steps.items ≡ old.steps.items ++ s ∷ [] → ((count : ℕ) → read count ≡ Some (raw count, old.variables.places.items)) →
    ((count : ℕ) (τ : ℕ → Ty) → postfix (raw count) ≡ mark text sig.bank count τ s ∷ []) → ((n : ℕ) → IsStep n s) → new.scope ≡ old.scope → new.types ≡ old.types → new.notes ≡ old.notes → new.variables ≡ old.variables → IsLeafRead sig text read old new
leaf_pushed sig text read old new s raw steps reads marked known scope types notes variables = record {
  step = s;
  steps = steps;
  raw = raw;
  reads = λ count. reads count ∙ ap (λ v. Some (raw count, v.places.items)) (sym variables);
  marked = marked;
  known = known;
  scope = scope;
  types = types;
  notes = notes;
  variables = λ f. subst (AreFirsts text) (sym variables) f;
}

pub index_marked : (names : List (List ℕ)) (depth number count : ℕ) → depth ≡ length names → postfix (variable_index count names number) ≡ is_index (depth + (count - suc number)) ∷ []
index_marked names depth number count e = ap (λ n. is_index (n + (count - suc number)) ∷ []) (sym e)

pub new_variable : (names : List (List ℕ)) (s : Spot) (before after : List Spot) (k count : ℕ) → k ≡ length before → after ≡ before ++ s ∷ [] → read_variable count names s None before ≡ Some (variable_index count names k, after)
new_variable names s before after k count e f =
    ap (λ n. Some (variable_index count names n, before ++ s ∷ [])) (sym e) ∙ ap (λ ps. Some (variable_index count names k, ps)) (sym f)

-- constants

abbrev AreSome : List (Option Scheme) → Type 0
AreSome [] = Unit {0}
AreSome (None ∷ ss) = ⊥
AreSome (Some s ∷ ss) = AreSome ss

some_at : (ss : List (Option Scheme)) (n : ℕ) → AreSome ss → n < length ss → entry ss n ≡ Some (scheme_or (entry ss n))
some_at [] n h l = absurd (omega (arith, l))
some_at (None ∷ ss) n h l = absurd h
some_at (Some s ∷ ss) zero h l = refl
some_at (Some s ∷ ss) (suc n) h l = some_at ss n h (omega (arith, l))

pub standard_there : (n : ℕ) → n < 25 → entry standard_schemes n ≡ Some (scheme_or (entry standard_schemes n))
standard_there n h = some_at standard_schemes n tt h

none_at : (ss : List (Option Scheme)) (n : ℕ) → length ss ≤ n → entry ss n ≡ None
none_at [] n h = refl
none_at (s ∷ ss) zero h = absurd (omega (arith, h))
none_at (s ∷ ss) (suc n) h = none_at ss n (omega (arith, h))

pub none_standard : (n : ℕ) → 25 ≤ n → entry standard_schemes n ≡ None
none_standard n h = none_at standard_schemes n h

pub declared_scheme : (sig : Signature) (w : List ℕ) (n : ℕ) (e : ConstantEntry) → 32 ≤ n → find (λ e. bytes_eq w e.name.items) sig.constants.items ≡ Some e → constant_scheme sig w n ≡ Some (entry_scheme sig.bank e)
declared_scheme sig w n e h f =
    ap (λ b. if b then entry standard_schemes n else option_map (entry_scheme sig.bank) (find (λ e. bytes_eq w e.name.items) sig.constants.items)) (le-ltb n 32 h) ∙ ap (option_map (entry_scheme sig.bank)) f

-- names, by cases

module _ (sig : Signature) (text : List ℕ) (count : ℕ) (names : List (List ℕ)) (s : Spot) (before : List Spot) where
  pub free_variable : (o : Option ℕ) → begins_variable (spelled text s) ≡ true → o ≡ first_place (spelled text s) (map (spelled text) before) → read_free sig text count names s before ≡ read_variable count names s o before
  free_variable o e f =
      cond-true (begins_variable (spelled text s)) (read_variable count names s (first_place (spelled text s) (map (spelled text) before)) before)
      (read_number sig (spelled text s) (found (spelled text s) (standard_constants ++ map number_row sig.constants.items)) before) e ∙
      ap (λ k. read_variable count names s k before) (sym f)

  pub free_constant : (o : Option ℕ) → begins_variable (spelled text s) ≡ false → o ≡ found (spelled text s) (standard_constants ++ map number_row sig.constants.items) → read_free sig text count names s before ≡ read_number sig (spelled text s) o before
  free_constant o e f =
      cond-false (begins_variable (spelled text s)) (read_variable count names s (first_place (spelled text s) (map (spelled text) before)) before)
      (read_number sig (spelled text s) (found (spelled text s) (standard_constants ++ map number_row sig.constants.items)) before) e ∙
      ap (λ k. read_number sig (spelled text s) k before) (sym f)

  pub name_blank : is_blank (spelled text s) ≡ true → read_name sig text count names s before ≡ read_variable count names s None before
  name_blank e =
      cond-true (is_blank (spelled text s)) (read_variable count names s None before) (read_bound sig text count names s (first_place (spelled text s) names) before) e

  pub name_bound : (o : Option ℕ) → is_blank (spelled text s) ≡ false → o ≡ first_place (spelled text s) names → read_name sig text count names s before ≡ read_bound sig text count names s o before
  name_bound o e f =
      cond-false (is_blank (spelled text s)) (read_variable count names s None before) (read_bound sig text count names s (first_place (spelled text s) names) before) e ∙
      ap (λ k. read_bound sig text count names s k before) (sym f)
