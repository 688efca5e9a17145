-- The names of a module's own signature come first.
use Rattle.std.proofs.Common.{◌≡◌, ℕ, suc, ◌≤◌, List, [], ◌∷◌, ◌++◌, length, map, take, Bool, true, false, refl, sym, ap, ◌∙◌, arith, append_assoc, append-nil}
use Rattle.std.specs.Prelude.{if◌then◌else◌}
use Rattle.std.proofs.lemmas.List.{map-append, length-map}
use Rattle.lp_sig.specs.Rows.{Row, kind_row, number_row}
use Rattle.lp_sig.specs.Standard.{standard_kinds, standard_constants}
use Rattle.lp_sig.specs.Said.{Said, a_kind, an_abbreviation, is_among, names_in, firsts, said_in, kinds_among, declared_names, numbered}
use Rattle.lp_syntax.specs.declared.text.Sentence.{Sentence}
use Rattle.lp_sig.specs.Modules.{declarations, of_each, kind_said, abbreviation_said, said_of, constants_of, constant_names_in, first_names, numbered_names, HasSeen, IsApart, HasOwnFirst}
use Rattle.lp_sig.specs.declared.entries.KindEntry.{KindEntry}
use Rattle.lp_sig.specs.declared.entries.AbbreviationEntry.{AbbreviationEntry}
use Rattle.lp_sig.specs.declared.signature.Signature.{Signature}

-- rows that are first ones stay in front
firsts_few : {A : Type 0} (known : List (List ℕ)) (xs : List (Row A)) → length (firsts known xs) ≤ length xs
firsts_few known [] = omega arith
firsts_few {A} known (x ∷ xs) = by (is_among x.0 known) (firsts_few known xs) (firsts_few (x.0 ∷ known) xs)
  where
    by : (t : Bool) → length (firsts known xs) ≤ length xs → length (firsts (x.0 ∷ known) xs) ≤ length xs → length (if t then firsts known xs else x ∷ firsts (x.0 ∷ known) xs) ≤ suc (length xs)
    by true h k = omega (arith, h)
    by false h k = omega (arith, k)

pub firsts_front : {A : Type 0} (known : List (List ℕ)) (xs ys : List (Row A)) → firsts known xs ≡ xs → (more : List (Row A)) × (firsts known (xs ++ ys) ≡ xs ++ more)
firsts_front known [] ys e = (firsts known ys, refl)
firsts_front {A} known (x ∷ xs) ys e = by (is_among x.0 known) (λ f. firsts_front (x.0 ∷ known) xs ys f) e
  where
    by : (t : Bool) → (firsts (x.0 ∷ known) xs ≡ xs → (more : List (Row A)) × (firsts (x.0 ∷ known) (xs ++ ys) ≡ xs ++ more)) → (if t then firsts known xs else x ∷ firsts (x.0 ∷ known) xs) ≡ x ∷ xs →
        (more : List (Row A)) × ((if t then firsts known (xs ++ ys) else x ∷ firsts (x.0 ∷ known) (xs ++ ys)) ≡ x ∷ (xs ++ more))
    by true f e = let l = firsts_few known xs in let z = ap length e in absurd (omega (arith, l, z))
    by false f e =
        let g : firsts (x.0 ∷ known) xs ≡ xs = cc in
        let (more, h) = f g in
        (more, ap (λ l. x ∷ l) h)

pub names_few : (known ns : List (List ℕ)) → length (first_names known ns) ≤ length ns
names_few known [] = omega arith
names_few known (n ∷ ns) = by (is_among n known) (names_few known ns) (names_few (n ∷ known) ns)
  where
    by : (t : Bool) → length (first_names known ns) ≤ length ns → length (first_names (n ∷ known) ns) ≤ length ns → length
        (if t then first_names known ns else n ∷ first_names (n ∷ known) ns) ≤ suc (length ns)
    by true h k = omega (arith, h)
    by false h k = omega (arith, k)

pub names_front : (known ns more : List (List ℕ)) → first_names known ns ≡ ns → (rest : List (List ℕ)) × (first_names known (ns ++ more) ≡ ns ++ rest)
names_front known [] more e = (first_names known more, refl)
names_front known (n ∷ ns) more e = by (is_among n known) (λ f. names_front (n ∷ known) ns more f) e
  where
    by : (t : Bool) → (first_names (n ∷ known) ns ≡ ns → (rest : List (List ℕ)) × (first_names (n ∷ known) (ns ++ more) ≡ ns ++ rest)) →
        (if t then first_names known ns else n ∷ first_names (n ∷ known) ns) ≡ n ∷ ns →
        (rest : List (List ℕ)) × ((if t then first_names known (ns ++ more) else n ∷ first_names (n ∷ known) (ns ++ more)) ≡ n ∷ (ns ++ rest))
    by true f e = let l = names_few known ns in let z = ap length e in absurd (omega (arith, l, z))
    by false f e =
        let g : first_names (n ∷ known) ns ≡ ns = cc in
        let (rest, h) = f g in
        (rest, ap (λ l. n ∷ l) h)

-- kinds and abbreviations apart
pub among_append : (xs ys : List (Row Said)) → kinds_among (xs ++ ys) ≡ kinds_among xs ++ kinds_among ys
among_append [] ys = refl
among_append ((n, a_kind c) ∷ xs) ys = ap (λ l. (n, c) ∷ l) (among_append xs ys)
among_append ((n, an_abbreviation p) ∷ xs) ys = among_append xs ys

pub of_kinds : (es : List KindEntry) → kinds_among (map kind_said es) ≡ map (λ e. (e.name.items, e.arity)) es
of_kinds [] = refl
of_kinds (e ∷ es) = ap (λ l. (e.name.items, e.arity) ∷ l) (of_kinds es)

pub of_abbreviations : (es : List AbbreviationEntry) → kinds_among (map abbreviation_said es) ≡ []
of_abbreviations [] = refl
of_abbreviations (e ∷ es) = of_abbreviations es

numbered_names_in : (n : ℕ) (rows : List (Row ℕ)) → names_in (numbered n rows) ≡ names_in rows
numbered_names_in n [] = refl
numbered_names_in n (r ∷ rs) = ap (λ l. r.0 ∷ l) (numbered_names_in (suc n) rs)

pub names_numbered : (n : ℕ) (ns : List (List ℕ)) → names_in (numbered_names n ns) ≡ ns
names_numbered n [] = refl
names_numbered n (x ∷ xs) = ap (λ l. x ∷ l) (names_numbered (suc n) xs)

pub rows_names : {E : Type 0} {B : Type 0} (name : E → List ℕ) (beside : E → B) (es : List E) → names_in (map (λ e. (name e, beside e)) es) ≡ map name es
rows_names name beside [] = refl
rows_names name beside (e ∷ es) = ap (λ l. name e ∷ l) (rows_names name beside es)

take_front : {A : Type 0} (xs ys : List A) → take (length xs) (xs ++ ys) ≡ xs
take_front [] ys = refl
take_front (x ∷ xs) ys = ap (λ l. x ∷ l) (take_front xs ys)

module _ (own s : Signature) (apart : IsApart own) where
  pub own_kinds : (rest : List (Row Said)) → map kind_row s.kinds.items ≡ numbered 8 (kinds_among (declared_names (said_of own ++ rest))) → take
      (length own.kinds.items) (map (λ e. e.name.items) s.kinds.items) ≡ map (λ e. e.name.items) own.kinds.items
  own_kinds rest e =
      let (more, f) = firsts_front (names_in standard_kinds) (said_of own) rest apart.kinds in
      let rows = map (λ e. (e.name.items, e.arity)) own.kinds.items in
      let k : kinds_among (declared_names (said_of own ++ rest)) ≡ rows ++ kinds_among more =
      ap kinds_among f ∙ among_append (said_of own) more ∙
      ap (λ l. l ++ kinds_among more) (among_append (map kind_said own.kinds.items) (map abbreviation_said own.abbreviations.items) ∙ ap
      (λ l. kinds_among (map kind_said own.kinds.items) ++ l) (of_abbreviations own.abbreviations.items) ∙ append-nil
      (kinds_among (map kind_said own.kinds.items)) ∙ of_kinds own.kinds.items) in
      let n : map (λ e. e.name.items) s.kinds.items ≡ map (λ e. e.name.items) own.kinds.items ++ names_in (kinds_among more) =
      sym (rows_names (λ e. e.name.items) (λ e. (e.number, e.arity)) s.kinds.items) ∙ ap names_in e ∙ numbered_names_in 8 (kinds_among (declared_names (said_of own ++ rest))) ∙ ap names_in k ∙
      map-append (λ r. r.0) rows (kinds_among more) ∙ ap (λ l. l ++ names_in (kinds_among more)) (rows_names (λ e. e.name.items) (λ e. e.arity) own.kinds.items) in
      ap (take (length own.kinds.items)) n ∙ ap (λ k. take k (map (λ e. e.name.items) own.kinds.items ++ names_in (kinds_among more)))
      (sym (length-map own.kinds.items (λ e. e.name.items))) ∙ take_front (map (λ e. e.name.items) own.kinds.items) (names_in (kinds_among more))

  pub own_constants : (rest : List (List ℕ)) → map number_row s.constants.items ≡ numbered_names 32
      (first_names (names_in standard_constants) (constants_of own ++ rest)) → take (length own.constants.items)
      (map (λ e. e.name.items) s.constants.items) ≡ map (λ e. e.name.items) own.constants.items
  own_constants rest e =
      let (more, f) = names_front (names_in standard_constants) (constants_of own) rest apart.constants in
      let n : map (λ e. e.name.items) s.constants.items ≡ constants_of own ++ more =
      sym (rows_names (λ e. e.name.items) (λ e. e.number) s.constants.items) ∙ ap names_in e ∙ names_numbered 32 (first_names (names_in standard_constants) (constants_of own ++ rest)) ∙ f in
      ap (take (length own.constants.items)) n ∙ ap (λ k. take k (constants_of own ++ more)) (sym (length-map own.constants.items (λ e. e.name.items))) ∙ take_front (constants_of own) more

pub own_first : (own : Signature) (used : List Signature) (text : List ℕ) (lines : List Sentence) (s : Signature) → IsApart own → HasSeen own used text lines s → HasOwnFirst own s
own_first own used text lines s apart seen = record {
  kinds = own_kinds own s apart (of_each said_of used ++ said_in text (declarations lines))
      (seen.kinds ∙ ap (λ l. numbered 8 (kinds_among (declared_names l))) (append_assoc (said_of own) (of_each said_of used) (said_in text (declarations lines))));
  constants = own_constants own s apart (of_each constants_of used ++ constant_names_in text (declarations lines))
      (seen.constants ∙ ap (λ l. numbered_names 32 (first_names (names_in standard_constants) l))
      (append_assoc (constants_of own) (of_each constants_of used) (constant_names_in text (declarations lines))));
}
