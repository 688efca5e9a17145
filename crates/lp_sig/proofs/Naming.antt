-- The words of accum_sig that name signatures, word by word, sentence by sentence and text by text.
use Rattle.std.proofs.Common.{◌≡◌, ℕ, zero, suc, ◌+◌, ◌<◌, ◌≤◌, List, [], ◌∷◌, ◌++◌, length, map, take, get_or, refl, sym, ap, subst, ◌∙◌, arith, append_assoc, append-nil, Option, Some, None}
use Rattle.std.specs.Global.{Global}
use Rattle.std.specs.Prelude.{Vec, filter_map, option_map}
use Rattle.std.proofs.lemmas.List.{take_more, get_or_default}
use Rattle.std.proofs.lemmas.List.Elements.{filter_map-append}
use Rattle.lp_base.specs.declared.place.Spot.{Spot}
use Rattle.lp_syntax.specs.declared.text.Declaration.{Declaration}
use Rattle.lp_syntax.specs.declared.text.Declaration.TheVariants.{Kinds, LocalKinds, Constants, Locals, Abbreviation, Accumulate, AccumSig, Fixities}
use Rattle.lp_syntax.specs.declared.text.SignatureText.{SignatureText}
use Rattle.lp_sig.specs.Pieces.{spelled}
use Rattle.lp_sig.specs.Places.{first_place}
use Rattle.lp_sig.specs.Loading.{Way, accum_words, ways_in, ways_between, ways_out}

abbrev pub way : Spot → Option ℕ → List Way
way w None = []
way w (Some i) = (w, i) ∷ []

pub one_way : (ns : List (List ℕ)) (text : List ℕ) (w : Spot) (o : Option ℕ) → o ≡ first_place (spelled text w) ns → ways_in ns text (w ∷ []) ≡ way w o
one_way ns text w None is = ap (λ o. filter_map (λ x. x) (option_map (λ i. (w, i)) o ∷ [])) (sym is)
one_way ns text w (Some i) is = ap (λ o. filter_map (λ x. x) (option_map (λ i. (w, i)) o ∷ [])) (sym is)

pub ways_append : (ns : List (List ℕ)) (text : List ℕ) (xs ys : List Spot) → ways_in ns text (xs ++ ys) ≡ ways_in ns text xs ++ ways_in ns text ys
ways_append ns text xs ys = filter_map-append (λ w. option_map (λ i. (w, i)) (first_place (spelled text w) ns)) xs ys

module _ (ns : List (List ℕ)) (text : List ℕ) (words : List Spot) (i : ℕ) (w : Spot) (old now : List Way) where
  words_more : (o : Option ℕ) → i < length words → w ≡ get_or words i w → o ≡ first_place (spelled text w) ns → now ≡ old ++ ways_in ns text
      (take i words) → now ++ way w o ≡ old ++ ways_in ns text (take (i + 1) words)
  words_more o h is at so =
      ap (λ z. z ++ way w o) so ∙ append_assoc old (ways_in ns text (take i words)) (way w o) ∙
      ap (λ z. old ++ z) (ap (λ z. ways_in ns text (take i words) ++ z) (sym (one_way ns text w o at) ∙ ap (λ v. ways_in ns text (v ∷ [])) is) ∙
      sym (ways_append ns text (take i words) (get_or words i w ∷ [])) ∙ ap (ways_in ns text) (sym (take_more words i w h)))

  here : i < length words → w ≡ get_or words i w → None ≡ first_place (spelled text w) ns → now ≡ old ++ ways_in ns text (take i words) → now ≡ old ++ ways_in ns text (take (i + 1) words)
  here h is at so = sym (append-nil now) ∙ words_more None h is at so

-- a word that names a signature, and one that names none
pub word_named : (ns : List (List ℕ)) (text : List ℕ) (words : List Spot) (i : ℕ) (d : Spot) (old now new : List Way) (to : ℕ) → i < length words →
    Some to ≡ first_place (spelled text (get_or words i d)) ns → now ≡ old ++ ways_in ns text (take i words) →
    new ≡ now ++ (get_or words i d, to) ∷ [] → new ≡ old ++ ways_in ns text (take (i + 1) words)
word_named ns text words i d old now new to h at so more = more ∙ words_more ns text words i (get_or words i d) old now (Some to) h (sym (get_or_default words i (get_or words i d) d h)) at so

pub word_passed : (ns : List (List ℕ)) (text : List ℕ) (words : List Spot) (i : ℕ) (d : Spot) (old now : List Way) → i < length words → None ≡
    first_place (spelled text (get_or words i d)) ns → now ≡ old ++ ways_in ns text (take i words) → now ≡ old ++ ways_in ns text (take (i + 1) words)
word_passed ns text words i d old now h at so = here ns text words i (get_or words i d) old now h (sym (get_or_default words i (get_or words i d) d h)) at so

pub accum_append : (xs ys : List Declaration) → accum_words (xs ++ ys) ≡ accum_words xs ++ accum_words ys
accum_append [] ys = refl
accum_append (Kinds a b ∷ ds) ys = accum_append ds ys
accum_append (LocalKinds a b ∷ ds) ys = accum_append ds ys
accum_append (Constants a b ∷ ds) ys = accum_append ds ys
accum_append (Locals a b ∷ ds) ys = accum_append ds ys
accum_append (Abbreviation a b t ∷ ds) ys = accum_append ds ys
accum_append (Accumulate ws ∷ ds) ys = accum_append ds ys
accum_append (AccumSig ws ∷ ds) ys = ap (λ z. ws.items ++ z) (accum_append ds ys) ∙ sym (append_assoc ws.items (accum_words ds) (accum_words ys))
accum_append (Fixities a b n ∷ ds) ys = accum_append ds ys

-- one more sentence
pub sentence_more : (ns : List (List ℕ)) (text : List ℕ) (lines : List Declaration) (i : ℕ) (d : Declaration) (now new : List Way) → i < length lines
    → d ≡ get_or lines i d → now ≡ ways_in ns text (accum_words (take i lines)) → new ≡ now ++ ways_in ns text (accum_words (d ∷ [])) →
    new ≡ ways_in ns text (accum_words (take (i + 1) lines))
sentence_more ns text lines i d now new h is so more =
    more ∙ ap (λ z. z ++ ways_in ns text (accum_words (d ∷ []))) so ∙ sym (ways_append ns text (accum_words (take i lines)) (accum_words (d ∷ []))) ∙
    ap (ways_in ns text) (ap (λ v. accum_words (take i lines) ++ accum_words (v ∷ [])) is ∙ sym (accum_append (take i lines) (get_or lines i d ∷ [])) ∙ ap accum_words (sym (take_more lines i d h)))

-- one more text
pub text_more : (ns : List (List ℕ)) (sources : List (Vec ℕ Global)) (texts : List SignatureText) (i : ℕ) (s : Vec ℕ Global) (t : SignatureText) → i <
    length sources → s ≡ get_or sources i s → i < length texts → t ≡ get_or texts i t →
    ways_between ns sources (take (i + 1) texts) ≡ ways_between ns sources (take i texts) ++ ways_in ns s.items (accum_words t.lines.items) ∷ []
text_more ns [] texts i s t h is k at = absurd (omega (arith, h))
text_more ns (x ∷ xs) [] i s t h is k at = absurd (omega (arith, k))
text_more ns (x ∷ xs) (y ∷ ys) zero s t h is k at = let n : 0 + 1 ≡ 1 = omega arith in ap (λ n. ways_between ns (x ∷ xs) (take n (y ∷ ys))) n ∙ ap
    (λ z. z ∷ []) (ap (λ x. ways_in ns x.items (accum_words y.lines.items)) (sym is) ∙ ap (λ y. ways_in ns s.items (accum_words y.lines.items))
    (sym at))
text_more ns (x ∷ xs) (y ∷ ys) (suc i) s t h is k at = let n : suc i + 1 ≡ suc (i + 1) = omega arith in ap
    (λ n. ways_between ns (x ∷ xs) (take n (y ∷ ys))) n ∙ ap (λ z. ways_in ns x.items (accum_words y.lines.items) ∷ z)
    (text_more ns xs ys i s t (omega (arith, h)) is (omega (arith, k)) at)

-- what is past the texts, or past the sources, adds nothing
pub no_more : (ns : List (List ℕ)) (sources : List (Vec ℕ Global)) (texts : List SignatureText) (n : ℕ) → (n < length sources → n < length texts → ⊥) → ways_between ns sources (take n texts) ≡ ways_between ns sources texts
no_more ns sources [] zero h = refl
no_more ns sources [] (suc n) h = refl
no_more ns [] (t ∷ ts) zero h = refl
no_more ns [] (t ∷ ts) (suc n) h = refl
no_more ns (s ∷ ss) (t ∷ ts) zero h = absurd (h (omega arith) (omega arith))
no_more ns (s ∷ ss) (t ∷ ts) (suc n) h = ap (λ z. ways_in ns s.items (accum_words t.lines.items) ∷ z) (no_more ns ss ts n (λ l m. h (omega (arith, l)) (omega (arith, m))))

-- the words of a signature, where its number is one of a text, and past the texts
pub words_at : (all : List (Vec Way Global)) (i : ℕ) (v : Vec Way Global) → i < length all → v ≡ get_or all i v → ways_out (map (λ v. v.items) all) i ≡ v.items
words_at [] i v h is = absurd (omega (arith, h))
words_at (x ∷ xs) zero v h is = ap (λ v. v.items) (sym is)
words_at (x ∷ xs) (suc i) v h is = words_at xs i v (omega (arith, h)) is

pub words_past : (all : List (Vec Way Global)) (i : ℕ) → length all ≤ i → ways_out (map (λ v. v.items) all) i ≡ []
words_past [] i h = refl
words_past (x ∷ xs) zero h = absurd (omega (arith, h))
words_past (x ∷ xs) (suc i) h = words_past xs i (omega (arith, h))

-- a sentence that is none of accum_sig
pub no_words : (ns : List (List ℕ)) (text : List ℕ) (d l : Declaration) (old : List Way) → l ≡ d → accum_words (d ∷ []) ≡ [] → old ≡ old ++ ways_in ns text (accum_words (l ∷ []))
no_words ns text d l old is none = sym (append-nil old) ∙ ap (λ ws. old ++ ways_in ns text ws) (sym none) ∙ ap (λ l. old ++ ways_in ns text (accum_words (l ∷ []))) (sym is)

pub its_words : (ns : List (List ℕ)) (text : List ℕ) (ws : Vec Spot Global) (words : List Spot) (l : Declaration) (old new : List Way) → l ≡ AccumSig
    ws → words ≡ ws.items → new ≡ old ++ ways_in ns text words → new ≡ old ++ ways_in ns text (accum_words (l ∷ []))
its_words ns text ws words l old new is same so = so ∙ ap (λ ws. old ++ ways_in ns text ws) (same ∙ sym (append-nil ws.items)) ∙ ap (λ l. old ++ ways_in ns text (accum_words (l ∷ []))) (sym is)

-- the words of a signature as they stand in a list that is read
pub words_read : (all seen : List (Vec Way Global)) (i : ℕ) (v : Vec Way Global) (words : List Way) → seen ≡ all → i < length seen → v ≡ get_or seen i
    v → words ≡ v.items → words ≡ ways_out (map (λ v. v.items) all) i
words_read all seen i v words same h is slice = slice ∙ sym (words_at all i v (subst (λ l. i < length l) same h) (is ∙ ap (λ l. get_or l i v) same))

pub words_beyond : (all seen : List (Vec Way Global)) (i : ℕ) → seen ≡ all → length seen ≤ i → ways_out (map (λ v. v.items) all) i ≡ []
words_beyond all seen i same h = words_past all i (subst (λ l. length l ≤ i) same h)
