-- The lines of a text byte by byte.
use Rattle.std.proofs.Common.{◌≡◌, ℕ, ◌+◌, ◌-◌, ◌<◌, ◌≤◌, List, [], ◌∷◌, ◌++◌, length, true, false, nat_eq, get_or, refl, sym, ap, ◌∙◌, arith, add-one, append_assoc, append-nil}
use Rattle.std.specs.Prelude.{take, drop, if◌then◌else◌, ◌&&◌}
use Rattle.std.proofs.lemmas.List.{take_all, drop_all, length-drop}
use Rattle.std.proofs.lemmas.Bool.{ne_eqb, eq-eqb}
use Rattle.std.proofs.lemmas.Option.{slice_get-get_or, get_or_from_slice_get}
use Rattle.lp_lemmas.proofs.Lists.{drop_read, take_suc}
use Rattle.lp_session.specs.Lines.{in_front, lines_of, is_blank_byte, is_blank}

pub front_nothing : (ls : List (List ℕ)) → in_front [] ls ≡ ls
front_nothing [] = refl
front_nothing (l ∷ ls) = refl

pub front_both : (xs ys : List ℕ) (ls : List (List ℕ)) → in_front xs (in_front ys ls) ≡ in_front (xs ++ ys) ls
front_both xs ys [] = refl
front_both xs ys (l ∷ ls) = ap (λ z. z ∷ ls) (sym (append_assoc xs ys l))

lines_feed : (b : ℕ) (bs : List ℕ) → nat_eq b 10 ≡ true → lines_of (b ∷ bs) ≡ [] ∷ lines_of bs
unfolding lines_of
lines_feed b bs e = ap (λ t. if t then [] ∷ lines_of bs else in_front (b ∷ []) (lines_of bs)) e

lines_other : (b : ℕ) (bs : List ℕ) → nat_eq b 10 ≡ false → lines_of (b ∷ bs) ≡ in_front (b ∷ []) (lines_of bs)
unfolding lines_of
lines_other b bs e = ap (λ t. if t then [] ∷ lines_of bs else in_front (b ∷ []) (lines_of bs)) e

reads : (text : List ℕ) (at : ℕ) → at < length text → drop at text ≡ get_or text at 0 ∷ drop (at + 1) text
reads text at h = drop_read text at (get_or text at 0) h (sym (get_or_from_slice_get text at (get_or text at 0) (get_or text at 0) (slice_get-get_or text at 0 h)))

take_more : (text : List ℕ) (at : ℕ) → at < length text → take (at + 1) text ≡ take at text ++ get_or text at 0 ∷ []
take_more text at h = ap (λ n. take n text) (add-one at) ∙ take_suc text at (get_or text at 0) (slice_get-get_or text at 0 h)

-- a slice up to the end is what is left
range_left : (text : List ℕ) (n : ℕ) → take (length text - n) (drop n text) ≡ drop n text
range_left text n = take_all (length text - n) (drop n text) (let e = length-drop n text in omega (arith, e))

pub first_byte : (text : List ℕ) → lines_of text ≡ in_front (take 0 text) (lines_of (drop 0 text))
first_byte text = sym (front_nothing (lines_of text))

pub next_byte : (text : List ℕ) (at : ℕ) → at < length text → (get_or text at 0 ≡ 10 → ⊥)
    → lines_of text ≡ in_front (take at text) (lines_of (drop at text)) → lines_of text ≡ in_front (take (at + 1) text) (lines_of (drop (at + 1) text))
next_byte text at h n i =
    i ∙ (ap (λ z. in_front (take at text) (lines_of z)) (reads text at h)
    ∙ (ap (in_front (take at text)) (lines_other (get_or text at 0) (drop (at + 1) text) (ne_eqb (get_or text at 0) 10 n))
    ∙ (front_both (take at text) (get_or text at 0 ∷ []) (lines_of (drop (at + 1) text))
    ∙ ap (λ z. in_front z (lines_of (drop (at + 1) text))) (sym (take_more text at h)))))

pub a_feed : (text : List ℕ) (at : ℕ) → at < length text → get_or text at 0 ≡ 10
    → lines_of text ≡ in_front (take at text) (lines_of (drop at text)) → lines_of text ≡ take at text ∷ lines_of (take (length text - (at + 1)) (drop (at + 1) text))
a_feed text at h n i =
    i ∙ (ap (λ z. in_front (take at text) (lines_of z)) (reads text at h)
    ∙ (ap (in_front (take at text)) (lines_feed (get_or text at 0) (drop (at + 1) text) (eq-eqb (get_or text at 0) 10 n))
    ∙ (ap (λ z. z ∷ lines_of (drop (at + 1) text)) (append-nil (take at text))
    ∙ ap (λ z. take at text ∷ lines_of z) (sym (range_left text (at + 1))))))

pub last_line : (text : List ℕ) (at : ℕ) → length text ≤ at → lines_of text ≡ in_front (take at text) (lines_of (drop at text)) → lines_of text ≡ text ∷ []
unfolding lines_of
last_line text at h i =
    i ∙ (ap (λ z. in_front (take at text) (lines_of z)) (drop_all at text h)
    ∙ (ap (λ z. (z ++ []) ∷ []) (take_all at text h) ∙ ap (λ z. z ∷ []) (append-nil text)))

step : (line : List ℕ) (at : ℕ) → at < length line → is_blank (drop at line) ≡ (is_blank_byte (get_or line at 0) && is_blank (drop (at + 1) line))
unfolding is_blank
step line at h = ap is_blank (reads line at h)

pub blank_more : (line : List ℕ) (at : ℕ) → at < length line → is_blank_byte (get_or line at 0) ≡ true → is_blank line ≡ is_blank (drop at line) → is_blank line ≡ is_blank (drop (at + 1) line)
blank_more line at h e i = i ∙ (step line at h ∙ ap (λ b. b && is_blank (drop (at + 1) line)) e)

pub not_blank : (line : List ℕ) (at : ℕ) → at < length line → is_blank_byte (get_or line at 0) ≡ false → is_blank line ≡ is_blank (drop at line) → false ≡ is_blank line
not_blank line at h e i = sym (i ∙ (step line at h ∙ ap (λ b. b && is_blank (drop (at + 1) line)) e))

pub blank_end : (line : List ℕ) (at : ℕ) → length line ≤ at → is_blank line ≡ is_blank (drop at line) → true ≡ is_blank line
unfolding is_blank
blank_end line at h i = sym (i ∙ ap is_blank (drop_all at line h))
