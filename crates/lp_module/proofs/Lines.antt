-- The words of a text, line by line.
use Rattle.std.proofs.Common.{◌≡◌, ℕ, ◌+◌, ◌<◌, ◌≤◌, List, ◌++◌, length, drop, get_or, sym, ap, ◌∙◌}
use Rattle.std.proofs.lemmas.List.{drop_more, drop_all, append_assoc, append-nil}
use Rattle.lp_base.specs.declared.place.Spot.{Spot}
use Rattle.lp_syntax.specs.declared.text.Sentence.{Sentence}
use Rattle.lp_module.specs.Words.{line_words, accumulate_words}

from_here : (lines : List Sentence) (i : ℕ) (l : Sentence) → i < length lines → l ≡ get_or lines i l → accumulate_words (drop i lines) ≡ line_words l ++ accumulate_words (drop (i + 1) lines)
from_here lines i l h at = ap accumulate_words (drop_more lines i l h) ∙ ap (λ x. line_words x ++ accumulate_words (drop (i + 1) lines)) (sym at)

-- one more line
pub one_more : (all ws now whole : List Spot) (lines : List Sentence) (i : ℕ) (l : Sentence) → i < length lines → l ≡ get_or lines i l → ws ≡ line_words l → now ≡ all ++ ws → all ++ accumulate_words (drop i lines) ≡ whole → now ++ accumulate_words (drop (i + 1) lines) ≡ whole
one_more all ws now whole lines i l h at same is e =
    ap (λ n. n ++ accumulate_words (drop (i + 1) lines)) (is ∙ ap (λ w. all ++ w) same) ∙
    append_assoc all (line_words l) (accumulate_words (drop (i + 1) lines)) ∙
    ap (λ r. all ++ r) (sym (from_here lines i l h at)) ∙ e

-- no more lines
pub no_more : (all whole : List Spot) (lines : List Sentence) (i : ℕ) → length lines ≤ i → all ++ accumulate_words (drop i lines) ≡ whole → all ≡ whole
no_more all whole lines i h e = sym (ap (λ l. all ++ accumulate_words l) (drop_all i lines h) ∙ append-nil all) ∙ e
