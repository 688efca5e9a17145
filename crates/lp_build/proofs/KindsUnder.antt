-- The kinds that a module exports are kinds of the module above it, with their counts of arguments.
use Rattle.std.proofs.Common.{◌≡◌, ◌∙◌, ℕ, zero, suc, ◌+◌, ◌<◌, List, [], ◌∷◌, ◌++◌, length, map, Bool, true, false, Option, None, Some, cond, ap, refl, sym, subst, append_assoc, arith}
use Rattle.std.specs.Prelude.{◌||◌, if◌then◌else◌, is_some, option_map, slice_get}
use Rattle.std.specs.Str.{bytes_eq}
use Rattle.std.proofs.lemmas.Option.{same_Some, slice_get_within}
use Rattle.lp_lemmas.proofs.Booleans.{bytes_eq_true}
use Rattle.lp_sig.specs.Modules.{HasSeen, IsApart, abbreviation_said, kind_said, of_each, said_in_module, said_of}
use Rattle.lp_sig.specs.Modules.{declarations}
use Rattle.lp_sig.specs.Rows.{Row, found, kind_row}
use Rattle.lp_sig.specs.Said.{Said, a_kind, an_abbreviation, declared_names, firsts, is_among, kinds_among, names_in, numbered, said_in}
use Rattle.lp_sig.specs.Standard.{standard_kinds}
use Rattle.lp_sig.specs.Words.{meaning_of, standard_said}
use Rattle.lp_sig.specs.declared.entries.KindEntry.{KindEntry}
use Rattle.lp_sig.specs.declared.signature.Signature.{Signature}
use Rattle.lp_sig.proofs.Finding.{behind}
use Rattle.lp_sig.proofs.Firsts.{found_among}
use Rattle.lp_sig.proofs.Growing.{found_more}
use Rattle.lp_sig.proofs.Meanings.{found_map}
use Rattle.lp_sig.proofs.OwnNames.{among_append, firsts_front, of_abbreviations, of_kinds}
use Rattle.lp_sig.proofs.Sighting.{found_in_place}
use Rattle.lp_syntax.specs.declared.text.Sentence.{Sentence}
use Rattle.lp_module.specs.Joined.{IsNumberedSignature}

-- a kind with its name and its arity
abbrev pub kind_pair : KindEntry → Row ℕ
kind_pair e = (e.name.items, e.arity)

-- rows without their numbers
pairs_are : (n : ℕ) (es : List KindEntry) (rows : List (Row ℕ)) → map kind_row es ≡ numbered n rows → map kind_pair es ≡ rows
pairs_are n [] [] e = refl
pairs_are n [] (r ∷ rs) e = absurd (cc)
pairs_are n (x ∷ xs) [] e = absurd (cc)
pairs_are n (x ∷ xs) (r ∷ rs) e =
    let row : kind_row x ≡ (r.0, (n, r.1)) = cc in
    let w = ap (λ p. p.0) row in
    let a = ap (λ p. p.1.1) row in
    let t : map kind_row xs ≡ numbered (suc n) rs = cc in
    let rest = pairs_are (suc n) xs rs t in
    λ i. (w i, a i) ∷ rest i

-- what is said first of a name that is not known
found_first : {A : Type 0} (w : List ℕ) (known : List (List ℕ)) (rows : List (Row A)) (a : A) → is_among w known ≡ false → found w rows ≡ Some a → found w (firsts known rows) ≡ Some a
found_first w known [] a new e = absurd (cc)
found_first {A} w known (r ∷ rs) a new e = by (bytes_eq w r.0) refl (is_among r.0 known) refl (found_first w known rs a new) (found_first w (r.0 ∷ known) rs a) e
  where
    by : (t : Bool) → bytes_eq w r.0 ≡ t → (u : Bool) → is_among r.0 known ≡ u → (found w rs ≡ Some a → found w (firsts known rs) ≡ Some a)
        → (is_among w (r.0 ∷ known) ≡ false → found w rs ≡ Some a → found w (firsts (r.0 ∷ known) rs) ≡ Some a) → cond t (Some r.1) (found w rs) ≡ Some a
        → found w (if u then firsts known rs else r ∷ firsts (r.0 ∷ known) rs) ≡ Some a
    by true s true k skip go h = absurd (let z : true ≡ false = sym k ∙ ap (λ x. is_among x known) (sym (bytes_eq_true w r.0 s)) ∙ new in cc)
    by true s false k skip go h = ap (λ b. cond b (Some r.1) (found w (firsts (r.0 ∷ known) rs))) s ∙ h
    by false s true k skip go h = skip h
    by false s false k skip go h = ap (λ b. cond b (Some r.1) (found w (firsts (r.0 ∷ known) rs))) s ∙ go (ap (λ b. b || is_among w known) s ∙ new) h

kind_found : (w : List ℕ) (rows : List (Row Said)) (a : ℕ) → found w rows ≡ Some (a_kind a) → found w (kinds_among rows) ≡ Some a
kind_found w [] a e = absurd (cc)
kind_found w ((n, a_kind c) ∷ rs) a e = by (bytes_eq w n) (kind_found w rs a) e
  where
    arity : Said → ℕ
    arity (a_kind c) = c
    arity (an_abbreviation p) = p

    by : (t : Bool) → (found w rs ≡ Some (a_kind a) → found w (kinds_among rs) ≡ Some a) → cond t (Some (a_kind c)) (found w rs) ≡ Some (a_kind a) → cond t (Some c) (found w (kinds_among rs)) ≡ Some a
    by true go h = ap (λ s. Some (arity s)) (same_Some (a_kind c) (a_kind a) h)
    by false go h = go h
kind_found w ((n, an_abbreviation p) ∷ rs) a e = by (bytes_eq w n) (kind_found w rs a) e
  where
    by : (t : Bool) → (found w rs ≡ Some (a_kind a) → found w (kinds_among rs) ≡ Some a) → cond t (Some (an_abbreviation p)) (found w rs) ≡ Some (a_kind a) → found w (kinds_among rs) ≡ Some a
    by true go h = absurd (cc)
    by false go h = go h

row_found : (w : List ℕ) (rows : List (Row ℕ)) (a : ℕ) → found w rows ≡ Some a → (p : ℕ) × (slice_get rows p ≡ Some (w, a))
row_found w [] a e = absurd (cc)
row_found w (r ∷ rs) a e = by (bytes_eq w r.0) refl (row_found w rs a) e
  where
    by : (t : Bool) → bytes_eq w r.0 ≡ t → (found w rs ≡ Some a → (p : ℕ) × (slice_get rs p ≡ Some (w, a))) → cond t (Some r.1) (found w rs) ≡ Some a → (p : ℕ) × (slice_get (r ∷ rs) p ≡ Some (w, a))
    by true s go h =
        let v = bytes_eq_true w r.0 s in
        let b = same_Some r.1 a h in
        (0, λ i. Some (sym v i, b i))
    by false s go h = let (p, at) = go h in (suc p, at)

-- the entry of a row
entry_of : (es : List KindEntry) (p : ℕ) (w : List ℕ) (a : ℕ) → slice_get (map kind_pair es) p ≡ Some (w, a) → (x : KindEntry) × (slice_get es p ≡ Some x) × (x.name.items ≡ w) × (x.arity ≡ a)
entry_of [] p w a e = absurd (cc)
entry_of (x ∷ xs) zero w a e = let same = same_Some (kind_pair x) (w, a) e in (x, refl, ap (λ r. r.0) same, ap (λ r. r.1) same)
entry_of (x ∷ xs) (suc p) w a e = entry_of xs p w a e

row_of : (es : List KindEntry) (i : ℕ) (e : KindEntry) → slice_get es i ≡ Some e → slice_get (map kind_pair es) i ≡ Some (kind_pair e)
row_of [] i e at = absurd (cc)
row_of (x ∷ xs) zero e at = ap (option_map kind_pair) at
row_of (x ∷ xs) (suc i) e at = row_of xs i e at

at_front : {A : Type 0} (xs ys : List A) (i : ℕ) → i < length xs → slice_get (xs ++ ys) i ≡ slice_get xs i
at_front [] ys i l = absurd (omega (arith, l))
at_front (x ∷ xs) ys zero l = refl
at_front (x ∷ xs) ys (suc i) l = at_front xs ys i (omega (arith, l))

-- the first kinds of a module are those of its own signature
module _ (own : Signature) (used : List Signature) (text : List ℕ) (lines : List Sentence) (s : Signature) (seen : HasSeen own used text lines s) (apart : IsApart own) where
  own_pairs : (more : List (Row ℕ)) × (map kind_pair s.kinds.items ≡ map kind_pair own.kinds.items ++ more)
  own_pairs =
      let rest = of_each said_of used ++ said_in text (declarations lines) in
      let (more, split) = firsts_front (names_in standard_kinds) (said_of own) rest apart.kinds in
      let all : said_in_module own used text lines ≡ said_of own ++ rest = append_assoc (said_of own) (of_each said_of used) (said_in text (declarations lines)) in
      let kinds : kinds_among (said_of own) ≡ map kind_pair own.kinds.items ++ [] =
      among_append (map kind_said own.kinds.items) (map abbreviation_said own.abbreviations.items) ∙ (λ i. of_kinds own.kinds.items i ++ of_abbreviations own.abbreviations.items i) in (
        [] ++ kinds_among more,
        pairs_are 8 s.kinds.items (kinds_among (declared_names (said_in_module own used text lines))) seen.kinds
            ∙ ap (λ r. kinds_among (declared_names r)) all ∙ ap kinds_among split ∙ among_append (said_of own) more ∙ ap (λ l. l ++ kinds_among more) kinds
            ∙ append_assoc (map kind_pair own.kinds.items) [] (kinds_among more),
      )

  pub own_kind : (i : ℕ) (e x : KindEntry) → slice_get s.kinds.items i ≡ Some e → slice_get own.kinds.items i ≡ Some x → (e.name.items ≡ x.name.items) × (e.arity ≡ x.arity)
  own_kind i e x at there =
      let (more, split) = own_pairs in
      let l = slice_get_within (map kind_pair own.kinds.items) i (kind_pair x) (row_of own.kinds.items i x there) in
      let same : kind_pair e ≡ kind_pair x =
      same_Some (kind_pair e) (kind_pair x) (sym (row_of s.kinds.items i e at) ∙ ap (λ r. slice_get r i) split ∙ at_front (map kind_pair own.kinds.items) more i l ∙ row_of own.kinds.items i x there) in
      (ap (λ r. r.0) same, ap (λ r. r.1) same)

-- a name that a signature has is none of the language
pub no_standard : (s : Signature) → IsNumberedSignature s → (i : ℕ) (e : KindEntry) → slice_get s.kinds.items i ≡ Some e → found e.name.items standard_kinds ≡ None
no_standard s numbers i e at = by (found e.name.items standard_kinds) refl
  where
    by : (o : Option (ℕ × ℕ)) → found e.name.items standard_kinds ≡ o → o ≡ None
    by None f = refl
    by (Some r) f =
        let same : r ≡ (8 + i, e.arity) = same_Some r (8 + i, e.arity) (sym (found_more e.name.items standard_kinds (map kind_row s.kinds.items) r f) ∙ numbers.kinds i e at) in
        let (k, is, there) = found_in_place e.name.items 0 standard_kinds r (refl, (refl, (refl, (refl, tt)))) f in
        let l = slice_get_within (names_in standard_kinds) k e.name.items there in
        let four : length (names_in standard_kinds) ≡ 4 = refl in
        let n = ap (λ (p : ℕ × ℕ). p.0) same in
        absurd (omega (arith, is, l, four, n))

-- a name that means a kind is a kind of the module's signature
pub meant_kind : (own : Signature) (used : List Signature) (text : List ℕ) (lines : List Sentence) (s : Signature) → HasSeen own used text lines s → (w : List ℕ) (a : ℕ) → found w standard_kinds ≡ None
    → meaning_of w (said_in_module own used text lines) ≡ Some (a_kind a) → (p : ℕ) × (x : KindEntry) × (slice_get s.kinds.items p ≡ Some x) × (x.name.items ≡ w) × (x.arity ≡ a)
unfolding meaning_of
meant_kind own used text lines s seen w a none means =
    let said = said_in_module own used text lines in
    let no_said : found w standard_said ≡ None = found_map (λ (r : ℕ × ℕ). a_kind r.1) w standard_kinds ∙ ap (option_map (λ (r : ℕ × ℕ). a_kind r.1)) none in
    let new : is_among w (names_in standard_kinds) ≡ false = sym (found_among w standard_kinds) ∙ ap is_some none in
    let first = found_first w (names_in standard_kinds) said (a_kind a) new (sym (behind w standard_said said no_said) ∙ means) in
    let (p, at) = row_found w (kinds_among (declared_names said)) a (kind_found w (declared_names said) a first) in
    let (x, there, name, arity) = entry_of s.kinds.items p w a (ap (λ r. slice_get r p) (pairs_are 8 s.kinds.items (kinds_among (declared_names said)) seen.kinds) ∙ at) in
    (p, x, there, name, arity)
