-- From the words of the texts to ways, one after the other.
use Rattle.std.proofs.Common.{◌≡◌, ℕ, suc, ◌+◌, ◌<◌, ◌≤◌, List, [], ◌∷◌, ◌++◌, length, drop, get_or, refl, sym, ap, subst, ◌∙◌, arith, Option, Some, None, append_assoc}
use Rattle.std.specs.Prelude.{All, Vec}
use Rattle.std.specs.Global.{Global}
use Rattle.std.proofs.lemmas.List.{drop_more, drop_all, append-nil, map-append}
use Rattle.std.proofs.lemmas.List.Elements.{All-nil, All-cons, All-append}
use Rattle.lp_sig.proofs.Heads.{place_below}
use Rattle.lp_base.specs.declared.place.Spot.{Spot}
use Rattle.lp_syntax.specs.declared.text.ModuleText.{ModuleText}
use Rattle.lp_sig.specs.Pieces.{spelled}
use Rattle.lp_sig.specs.Places.{first_place}
use Rattle.lp_module.specs.Order.{Way}
use Rattle.lp_module.specs.Searching.{ways_in, AreWithin}
use Rattle.lp_module.specs.Words.{accumulate_words, way_to, ways_of, all_ways}

-- one more word
pub way_more : (names : List (List ℕ)) (text : List ℕ) (words : List Spot) (i : ℕ) (w : Spot) (o : Option ℕ) (old new all : List Way) → i < length words → w ≡ get_or words i w → o ≡ first_place (spelled text w) names →
    new ≡ old ++ way_to w o → old ++ ways_of names text (drop i words) ≡ all → new ++ ways_of names text (drop (i + 1) words) ≡ all
way_more names text words i w o old new all h at is e h_all =
    ap (λ n. n ++ ways_of names text (drop (i + 1) words)) (e ∙ ap (λ p. old ++ way_to w p) is) ∙
    append_assoc old (way_to w (first_place (spelled text w) names)) (ways_of names text (drop (i + 1) words)) ∙
    ap (λ l. old ++ l) (sym (ap (ways_of names text) (drop_more words i w h) ∙ ap (λ x. ways_of names text (x ∷ drop (i + 1) words)) (sym at))) ∙ h_all

pub ways_done : (names : List (List ℕ)) (text : List ℕ) (words : List Spot) (i : ℕ) (old all : List Way) → length words ≤ i → old ++ ways_of names text (drop i words) ≡ all → old ≡ all
ways_done names text words i old all h e = sym (ap (λ l. old ++ ways_of names text l) (drop_all i words h) ∙ append-nil old) ∙ e

-- one more text
pub text_more : (names : List (List ℕ)) (sources : List (Vec ℕ Global)) (texts : List ModuleText) (i : ℕ) (s : Vec ℕ Global) (t : ModuleText) (out : Vec Way Global) (old new : List (Vec Way Global)) (all : List (List Way)) →
    i < length sources → i < length texts → s ≡ get_or sources i s → t ≡ get_or texts i t → out.items ≡ ways_of names s.items (accumulate_words t.lines.items) → new ≡ old ++ out ∷ [] →
    ways_in old ++ all_ways names (drop i sources) (drop i texts) ≡ all → ways_in new ++ all_ways names (drop (i + 1) sources) (drop (i + 1) texts) ≡ all
text_more names sources texts i s t out old new all hs ht at_s at_t is e h_all =
    ap (λ n. n ++ rest) (ap ways_in e ∙ map-append (λ o. o.items) old (out ∷ [])) ∙
    append_assoc (ways_in old) (out.items ∷ []) rest ∙
    ap (λ l. ways_in old ++ l) (ap (λ x. x ∷ rest) is ∙ sym first) ∙ h_all
  where
    rest : List (List Way)
    rest = all_ways names (drop (i + 1) sources) (drop (i + 1) texts)

    first : all_ways names (drop i sources) (drop i texts) ≡ ways_of names s.items (accumulate_words t.lines.items) ∷ rest
    first =
        ap (λ l. all_ways names l (drop i texts)) (drop_more sources i s hs ∙ ap (λ x. x ∷ drop (i + 1) sources) (sym at_s)) ∙
        ap (all_ways names (s ∷ drop (i + 1) sources)) (drop_more texts i t ht ∙ ap (λ x. x ∷ drop (i + 1) texts) (sym at_t))

pub texts_done : (names : List (List ℕ)) (sources : List (Vec ℕ Global)) (texts : List ModuleText) (i : ℕ) (old : List (Vec Way Global)) (all : List (List Way)) → length sources ≤ i →
    ways_in old ++ all_ways names (drop i sources) (drop i texts) ≡ all → ways_in old ≡ all
texts_done names sources texts i old all h e = sym (ap (λ l. ways_in old ++ all_ways names l (drop i texts)) (drop_all i sources h) ∙ append-nil (ways_in old)) ∙ e

-- each way leads to one of the names

way_within : (names : List (List ℕ)) (n : ℕ) (w : Spot) (name : List ℕ) (o : Option ℕ) → length names ≡ n → first_place name names ≡ o → All (λ v. v.1 < n) (way_to w o)
way_within names n w name None e is = All-nil (λ v. v.1 < n)
way_within names n w name (Some i) e is = All-cons (λ v. v.1 < n) (w, i) [] (subst (λ k. i < k) e (place_below name names i is)) (All-nil (λ v. v.1 < n))

ways_within : (names : List (List ℕ)) (n : ℕ) (text : List ℕ) (words : List Spot) → length names ≡ n → All (λ v. v.1 < n) (ways_of names text words)
ways_within names n text [] e = All-nil (λ v. v.1 < n)
ways_within names n text (w ∷ ws) e = All-append (λ v. v.1 < n) (way_to w (first_place (spelled text w) names)) (ways_of names text ws) (way_within names n w (spelled text w) (first_place (spelled text w) names) e refl) (ways_within names n text ws e)

each_within : (names : List (List ℕ)) (n : ℕ) (sources : List (Vec ℕ Global)) (texts : List ModuleText) → length names ≡ n → All (λ out. All (λ v. v.1 < n) out) (all_ways names sources texts)
each_within names n [] texts e = All-nil (λ out. All (λ v. v.1 < n) out)
each_within names n (s ∷ ss) [] e = All-nil (λ out. All (λ v. v.1 < n) out)
each_within names n (s ∷ ss) (t ∷ ts) e = All-cons (λ out. All (λ v. v.1 < n) out) _ _ (ways_within names n s.items (accumulate_words t.lines.items) e) (each_within names n ss ts e)

ways_count : (names : List (List ℕ)) (sources : List (Vec ℕ Global)) (texts : List ModuleText) → length sources ≡ length texts → length (all_ways names sources texts) ≡ length texts
ways_count names [] [] e = refl
ways_count names [] (t ∷ ts) e = absurd (omega (arith, e))
ways_count names (s ∷ ss) [] e = absurd (omega (arith, e))
ways_count names (s ∷ ss) (t ∷ ts) e = ap (λ n. suc n) (ways_count names ss ts (omega (arith, e)))

pub all_within : (names : List (List ℕ)) (sources : List (Vec ℕ Global)) (texts : List ModuleText) (ways : List (List Way)) → length sources ≡ length texts → length names ≡ length texts → ways ≡ all_ways names sources texts → AreWithin ways
all_within names sources texts ways e f is = subst AreWithin (sym is) (each_within names (length (all_ways names sources texts)) sources texts (f ∙ sym (ways_count names sources texts e)))
