-- Kinds and constants of a module's signature have their numbers by their places, and are found by their names.
use Rattle.std.proofs.Common.{◌≡◌, ℕ, zero, suc, ◌+◌, List, [], ◌∷◌, ◌++◌, map, refl, sym, ap, subst, ◌∙◌, arith, Bool, true, false, true≢false, Some, cond}
use Rattle.std.specs.Prelude.{if◌then◌else◌, ◌||◌, slice_get}
use Rattle.std.specs.Str.{bytes_eq}
use Rattle.std.proofs.lemmas.Option.{same_Some}
use Rattle.std.proofs.lemmas.Slice.Eq.{bytes_eq-Decides}
use Rattle.lp_sig.specs.Modules.{first_names, numbered_names, constant_names, said_in_module, HasSeen}
use Rattle.lp_sig.specs.Rows.{Row, found, kind_row, number_row}
use Rattle.lp_sig.specs.Said.{Said, a_kind, an_abbreviation, is_among, names_in, firsts, kinds_among, declared_names, numbered}
use Rattle.lp_sig.specs.Standard.{standard_kinds, standard_constants}
use Rattle.lp_sig.specs.declared.entries.ConstantEntry.{ConstantEntry}
use Rattle.lp_sig.specs.declared.entries.KindEntry.{KindEntry}
use Rattle.lp_sig.specs.declared.signature.Signature.{Signature}
use Rattle.lp_syntax.specs.declared.text.Sentence.{Sentence}
use Rattle.lp_module.specs.Joined.{IsNumberedSignature}

-- names none of which is known, and no two of which are the same
abbrev pub Apart : List (List ℕ) → List (List ℕ) → Type 0
Apart known [] = Unit {0}
Apart known (n ∷ ns) = (is_among n known ≡ false) × Apart (n ∷ known) ns

-- fewer known names
drop_known : (n w : List ℕ) (known : List (List ℕ)) → is_among n (w ∷ known) ≡ false → (bytes_eq n w ≡ false) × (is_among n known ≡ false)
drop_known n w known e = by (bytes_eq n w) refl (is_among n known) refl e
  where
    by : (a : Bool) → bytes_eq n w ≡ a → (b : Bool) → is_among n known ≡ b → (a || b) ≡ false → (bytes_eq n w ≡ false) × (is_among n known ≡ false)
    by true f b g e = absurd (true≢false e)
    by false f true g e = absurd (true≢false e)
    by false f false g e = (f, g)

-- each is none of those that are known
pub unknown : (known ns : List (List ℕ)) → Apart known ns → (i : ℕ) (n : List ℕ) → slice_get ns i ≡ Some n → is_among n known ≡ false
unknown known [] a i n e = absurd (cc)
unknown known (x ∷ xs) (a, more) zero n e = ap (λ n. is_among n known) (sym (same_Some x n e)) ∙ a
unknown known (x ∷ xs) (a, more) (suc i) n e = (drop_known n x known (unknown (x ∷ known) xs more i n e)).1

-- the name of a row
row_name : {A : Type 0} (rows : List (Row A)) (i : ℕ) (r : Row A) → slice_get rows i ≡ Some r → slice_get (names_in rows) i ≡ Some r.0
row_name [] i r e = absurd (cc)
row_name (y ∷ ys) zero r e = ap (λ r. Some r.0) (same_Some y r e)
row_name (y ∷ ys) (suc i) r e = row_name ys i r e

-- what stands beside one of them is found
beside : {A : Type 0} (known : List (List ℕ)) (rows : List (Row A)) → Apart known (names_in rows) → (i : ℕ) (r : Row A) → slice_get rows i ≡ Some r → found r.0 rows ≡ Some r.1
beside known [] a i r e = absurd (cc)
beside known (x ∷ xs) (a, more) zero r e =
    let same : x ≡ r = same_Some x r e in
    ap (λ t. cond t (Some x.1) (found r.0 xs)) ((bytes_eq-Decides r.0 x.0).1 (ap (λ r. r.0) (sym same))) ∙ ap (λ r. Some r.1) same
beside known (x ∷ xs) (a, more) (suc i) r e =
    let name = row_name xs i r e in
    ap (λ t. cond t (Some x.1) (found r.0 xs)) (drop_known r.0 x.0 known (unknown (x.0 ∷ known) (names_in xs) more i r.0 name)).0 ∙ beside (x.0 ∷ known) xs more i r e

-- a name that stands in no row is not found
not_there : {A : Type 0} (n : List ℕ) (rows more : List (Row A)) → is_among n (names_in rows) ≡ false → found n (rows ++ more) ≡ found n more
not_there n [] more e = refl
not_there n (x ∷ xs) more e =
    let f = drop_known n x.0 (names_in xs) e in
    ap (λ t. cond t (Some x.1) (found n (xs ++ more))) f.0 ∙ not_there n xs more f.1

-- kinds
firsts_apart : (known : List (List ℕ)) (said : List (Row Said)) → Apart known (names_in (firsts known said))
firsts_apart known [] = tt
firsts_apart known (r ∷ rs) = by (is_among r.0 known) refl (firsts_apart known rs) (firsts_apart (r.0 ∷ known) rs)
  where
    by : (t : Bool) → is_among r.0 known ≡ t → Apart known (names_in (firsts known rs)) → Apart (r.0 ∷ known) (names_in (firsts (r.0 ∷ known) rs)) →
        Apart known (names_in (if t then firsts known rs else r ∷ firsts (r.0 ∷ known) rs))
    by true e h k = h
    by false e h k = (e, k)

fewer : (more less ns : List (List ℕ)) → ((n : List ℕ) → is_among n more ≡ false → is_among n less ≡ false) → Apart more ns → Apart less ns
fewer more less [] f a = tt
fewer more less (n ∷ ns) f (a, rest) = (f n a, fewer (n ∷ more) (n ∷ less) ns (λ m e. let d = drop_known m n more e in by (bytes_eq m n) (is_among m less) d.0 (f m d.1)) rest)
  where
    by : (a b : Bool) → a ≡ false → b ≡ false → (a || b) ≡ false
    by true b e f = absurd (true≢false e)
    by false b e f = f

weaker : (w : List ℕ) (known ns : List (List ℕ)) → Apart (w ∷ known) ns → Apart known ns
weaker w known ns a = fewer (w ∷ known) known ns (λ n e. (drop_known n w known e).1) a

kinds_apart : (known : List (List ℕ)) (said : List (Row Said)) → Apart known (names_in said) → Apart known (names_in (kinds_among said))
kinds_apart known [] a = tt
kinds_apart known ((n, a_kind c) ∷ rs) (a, more) = (a, kinds_apart (n ∷ known) rs more)
kinds_apart known ((n, an_abbreviation p) ∷ rs) (a, more) = kinds_apart known rs (weaker n known (names_in rs) more)

numbered_names_are : (n : ℕ) (rows : List (Row ℕ)) → names_in (numbered n rows) ≡ names_in rows
numbered_names_are n [] = refl
numbered_names_are n (r ∷ rs) = ap (λ l. r.0 ∷ l) (numbered_names_are (suc n) rs)

kind_at_place : (n : ℕ) (es : List KindEntry) (rows : List (Row ℕ)) (i : ℕ) (e : KindEntry) → map kind_row es ≡ numbered n rows → slice_get es i ≡
    Some e → slice_get (map kind_row es) i ≡ Some (e.name.items, (n + i, e.arity))
kind_at_place n [] rows i e f at = absurd (cc)
kind_at_place n (x ∷ xs) [] i e f at = absurd (cc)
kind_at_place n (x ∷ xs) (r ∷ rs) zero e f at =
    let same : x ≡ e = same_Some x e at in
    let row : kind_row x ≡ (r.0, (n, r.1)) = cc in
    let h = ap (λ z. z.1.0) row in
    let number = ap (λ (e : KindEntry). e.number) same in
    let z : e.number ≡ n + 0 = omega (arith, h, number) in
    ap (λ e. Some (kind_row e)) same ∙ (λ i. Some (e.name.items, (z i, e.arity)))
kind_at_place n (x ∷ xs) (r ∷ rs) (suc i) e f at =
    let t : map kind_row xs ≡ numbered (suc n) rs = cc in
    let z : suc n + i ≡ n + suc i = omega arith in
    kind_at_place (suc n) xs rs i e t at ∙ ap (λ k. Some (e.name.items, (k, e.arity))) z

-- constants
pub names_apart : (known : List (List ℕ)) (ns : List (List ℕ)) → Apart known (first_names known ns)
names_apart known [] = tt
names_apart known (n ∷ ns) = by (is_among n known) refl (names_apart known ns) (names_apart (n ∷ known) ns)
  where
    by : (t : Bool) → is_among n known ≡ t → Apart known (first_names known ns) → Apart (n ∷ known) (first_names (n ∷ known) ns) → Apart known
        (if t then first_names known ns else n ∷ first_names (n ∷ known) ns)
    by true e h k = h
    by false e h k = (e, k)

names_numbered : (n : ℕ) (ns : List (List ℕ)) → names_in (numbered_names n ns) ≡ ns
names_numbered n [] = refl
names_numbered n (x ∷ xs) = ap (λ l. x ∷ l) (names_numbered (suc n) xs)

constant_at_place : (n : ℕ) (es : List ConstantEntry) (ns : List (List ℕ)) (i : ℕ) (e : ConstantEntry) → map number_row es ≡ numbered_names n ns →
    slice_get es i ≡ Some e → (e.number ≡ n + i) × (slice_get (map number_row es) i ≡ Some (e.name.items, n + i))
constant_at_place n [] ns i e f at = absurd (cc)
constant_at_place n (x ∷ xs) [] i e f at = absurd (cc)
constant_at_place n (x ∷ xs) (w ∷ ws) zero e f at =
    let same : x ≡ e = same_Some x e at in
    let row : number_row x ≡ (w, n) = cc in
    let h = ap (λ z. z.1) row in
    let number = ap (λ (e : ConstantEntry). e.number) same in
    let z : e.number ≡ n + 0 = omega (arith, h, number) in
    (z, ap (λ e. Some (number_row e)) same ∙ ap (λ k. Some (e.name.items, k)) z)
constant_at_place n (x ∷ xs) (w ∷ ws) (suc i) e f at =
    let t : map number_row xs ≡ numbered_names (suc n) ws = cc in
    let z : suc n + i ≡ n + suc i = omega arith in
    let h = constant_at_place (suc n) xs ws i e t at in
    (h.0 ∙ z, h.1 ∙ ap (λ k. Some (e.name.items, k)) z)

-- behind the standard names
behind_standard : {A : Type 0} (standard rows : List (Row A)) → Apart (names_in standard) (names_in rows) → (i : ℕ) (r : Row A) → slice_get rows i ≡ Some r → found r.0 (standard ++ rows) ≡ Some r.1
behind_standard standard rows a i r e = not_there r.0 standard rows (unknown (names_in standard) (names_in rows) a i r.0 (row_name rows i r e)) ∙ beside (names_in standard) rows a i r e

pub signature_numbered : (own : Signature) (used : List Signature) (text : List ℕ) (lines : List Sentence) (s : Signature) → HasSeen own used text lines s → IsNumberedSignature s
signature_numbered own used text lines s h =
    let said = said_in_module own used text lines in
    let rows = kinds_among (declared_names said) in
    let names = first_names (names_in standard_constants) (constant_names own used text lines) in
    let kinds_names : names_in rows ≡ names_in (map kind_row s.kinds.items) = sym (numbered_names_are 8 rows) ∙ ap names_in (sym h.kinds) in
    let constants_names : names ≡ names_in (map number_row s.constants.items) = sym (names_numbered 32 names) ∙ ap names_in (sym h.constants) in
    record {
      kinds = λ i e at.
          behind_standard standard_kinds (map kind_row s.kinds.items)
          (subst (Apart (names_in standard_kinds)) kinds_names (kinds_apart (names_in standard_kinds) (declared_names said)
          (firsts_apart (names_in standard_kinds) said))) i (e.name.items, (8 + i, e.arity)) (kind_at_place 8 s.kinds.items rows i e h.kinds at);
      constants = λ i e at.
          let there = constant_at_place 32 s.constants.items names i e h.constants at in (
            there.0,
            behind_standard standard_constants (map number_row s.constants.items)
                (subst (Apart (names_in standard_constants)) constants_names (names_apart (names_in standard_constants) (constant_names own used text lines))) i (e.name.items, 32 + i) there.1,
          );
    }
