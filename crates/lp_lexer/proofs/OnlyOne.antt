-- No two pieces stand at one place.
use Rattle.std.proofs.Common.{◌≡◌, ℕ, suc, zero, ◌+◌, ◌<◌, List, [], ◌∷◌, ◌++◌, length, drop, take, Bool, true, false, ◌&&◌, nat_eq, refl, sym, ap, ◌∙◌, subst, arith, true≢false, inl, inr, get_or, get_or-drop}
use Rattle.std.specs.Prelude.{slice_index}
use Rattle.std.proofs.lemmas.Bool.{and_parts, eqb-true, false_from_ne_true}
use Rattle.std.proofs.lemmas.List.{take-append-drop, length-take-le}
use Rattle.lp_lexer.specs.declared.class.Class.TheVariants.{Escaped, Inside, Symbol}
use Rattle.lp_lexer.specs.declared.token.TokenKind.{TokenKind}
use Rattle.lp_lexer.specs.declared.token.TokenKind.TheVariants as kind
use Rattle.lp_lexer.specs.declared.token.Ended.TheVariants.{BadAt}
use Rattle.lp_lexer.specs.declared.token.Piece.{Piece}
use Rattle.lp_lexer.specs.declared.token.Piece.TheVariants.{Skip, Found, Bad, OpenText, OpenComment, BigNumber}
use Rattle.lp_lexer.specs.Bytes.{is_in}
use Rattle.lp_lexer.specs.Forms.{is_plain, Strung, none, plain, escape}
use Rattle.lp_lexer.specs.Front.{front, text_end}
use Rattle.lp_lexer.specs.Stands.{opens, Begins, IsLongest, HasNoToken, HasNoGap, IsStray, IsBadIn, Stands}
use Rattle.lp_lexer.proofs.Leads.{no_empty, no_empty_gap}
use Rattle.lp_lexer.proofs.Longest.{front_stands}
use Rattle.lp_lexer.proofs.Steps.{drop_one, text_cons}
use Rattle.lp_lexer.proofs.Strings.{plain_is, inside_plain}

-- the first bad byte of a string is where its end is bad
bad_first : (x : ℕ) (q : List ℕ) → is_plain x ≡ false → (nat_eq x 92 && is_in Escaped (slice_index q 0)) ≡ false → nat_eq x 34 ≡ false → nat_eq x 10 ≡ false → text_end (x ∷ q) ≡ BadAt 0
bad_first x q p e quote line = go (nat_eq x 92) refl q e
  where
    go : (t : Bool) → nat_eq x 92 ≡ t → (q : List ℕ) → (nat_eq x 92 && is_in Escaped (slice_index q 0)) ≡ false → text_end (x ∷ q) ≡ BadAt 0
    go true f [] e = rw (quote, line, f) refl
    go true f (c ∷ q) e = let i : is_in Escaped c ≡ false = ap (λ t. t && is_in Escaped c) (sym f) ∙ e in rw (quote, line, f, i) refl
    go false f q e =
        let i : is_in Inside x ≡ false = false_from_ne_true (is_in Inside x) (λ t. true≢false (sym (inside_plain x quote f t) ∙ p)) in
        text_cons x q f quote line ∙ (rw i refl)

bad_behind : (ps q : List ℕ) (x : ℕ) → Strung ps → text_end (x ∷ q) ≡ BadAt 0 → text_end (ps ++ x ∷ q) ≡ BadAt (length ps)
bad_behind _ q x none e = e
bad_behind _ q x (plain b bs p s) e =
    let r = plain_is b p in
    let one : 1 + length bs ≡ suc (length bs) = omega arith in
    text_cons b (bs ++ x ∷ q) r.no_slash r.no_quote r.no_line ∙ (rw (r.inside, bad_behind bs q x s e) (ap BadAt one))
bad_behind _ q x (escape c bs i s) e =
    let two : 2 + length bs ≡ suc (suc (length bs)) = omega arith in
    rw (i, bad_behind bs q x s e) (ap BadAt two)

bad_there : (rest : List ℕ) (n : ℕ) → IsBadIn rest n → text_end rest ≡ BadAt n
bad_there rest n h =
    let z : n + 1 + 0 ≡ n + 1 = omega arith in
    let x = get_or rest n 0 in
    let q = drop (n + 1) rest in
    let next : slice_index q 0 ≡ slice_index rest (n + 1) = get_or-drop (n + 1) rest 0 0 ∙ ap (λ i. get_or rest i 0) z in
    let first = bad_first x q h.not_plain (ap (λ c. nat_eq x 92 && is_in Escaped c) next ∙ h.no_escape) h.no_quote h.no_line in
    let whole : rest ≡ take n rest ++ x ∷ q = sym (take-append-drop n rest) ∙ ap (λ l. take n rest ++ l) (drop_one rest n h.within) in
    let size : length (take n rest) ≡ n = length-take-le n rest (let w = h.within in omega (arith, w)) in
    ap text_end whole ∙ bad_behind (take n rest) q x h.strung first ∙ ap BadAt size

same_bad : (rest : List ℕ) (m n : ℕ) → IsBadIn rest m → IsBadIn rest n → m ≡ n
same_bad rest m n g h = let e : BadAt m ≡ BadAt n = sym (bad_there rest m g) ∙ bad_there rest n h in cc

-- a quote and a / begin tokens
no_stray_quote : (b : ℕ) → b ≡ 34 → IsStray b → ⊥
no_stray_quote b e h = (h (34 ∷ [])).0 kind.Text ([], ap (λ x. x ∷ 34 ∷ []) e, none)

slash_symbol : is_in Symbol 47 ≡ true
unfolding is_in
slash_symbol = refl

no_stray_slash : (b : ℕ) (t : List ℕ) → opens (b ∷ t) ≡ true → IsStray b → ⊥
no_stray_slash b t o h =
    let x = eqb-true b 47 (and_parts (nat_eq b 47) _ o).0 in
    let e : is_in Symbol b ≡ true = ap (is_in Symbol) x ∙ slash_symbol in
    (h []).0 kind.Symbol (inl (rw e refl))

quote_no_slash : (b : ℕ) (t : List ℕ) → b ≡ 34 → opens (b ∷ t) ≡ true → ⊥
quote_no_slash b t e o =
    let x : nat_eq 34 47 ≡ true = ap (λ y. nat_eq y 47) (sym e) ∙ (and_parts (nat_eq b 47) _ o).0 in
    true≢false (sym x)

stray_no_token : (b : ℕ) (t : List ℕ) → IsStray b → HasNoToken (b ∷ t)
stray_no_token b t h k zero g = no_empty k g.form
stray_no_token b t h k (suc m) g = (h (take m t)).0 k g.form

stray_no_gap : (b : ℕ) (t : List ℕ) → IsStray b → HasNoGap (b ∷ t)
stray_no_gap b t h zero l g = no_empty_gap g
stray_no_gap b t h (suc m) l g = (h (take m t)).1 g

-- a bad byte, an open string and an open comment leave no token and no gap
nothing_at_bad : (b : ℕ) (t : List ℕ) (n : ℕ) → Stands (b ∷ t) (Bad n) → HasNoToken (b ∷ t) × HasNoGap (b ∷ t)
nothing_at_bad b t n (inl (e, s)) = (stray_no_token b t s, stray_no_gap b t s)
nothing_at_bad b t n (inr (m, e, q, h, c, never, gap)) = (never, gap)

same_len : (text : List ℕ) (k j : TokenKind) (n m : ℕ) → IsLongest text k n → IsLongest text j m → n ≡ m
same_len text k j n m g h = let a = h.longest k n g.begins in let b = g.longest j m h.begins in omega (arith, a, b)

same_kind : (text : List ℕ) (k j : TokenKind) (n m : ℕ) → IsLongest text k n → IsLongest text j m → k ≡ j
same_kind text k j n m g h = let e = same_len text k j n m g h in h.only k (subst (λ i. Begins text k i) e g.begins)

same_found : (k j : TokenKind) (n m : ℕ) → k ≡ j → n ≡ m → Found k n ≡ Found j m
same_found k j n m e f = ap (λ i. Found i n) e ∙ ap (λ i. Found j i) f

from_skip : (b : ℕ) (t : List ℕ) (n : ℕ) (q : Piece) → Stands (b ∷ t) (Skip n) → Stands (b ∷ t) q → Skip n ≡ q
from_skip b t n (Skip m) (g, never) (h, _) = let x = h.longest n g.within g.form in let y = g.longest m h.within h.form in let z : n ≡ m = omega (arith, x, y) in ap Skip z
from_skip b t n (Found k m) (g, never) (h, _, _) = absurd (never k m h.begins)
from_skip b t n BigNumber (g, never) (v, m, h, _, _) = absurd (never _ m h.begins)
from_skip b t n (Bad m) (g, never) h = absurd ((nothing_at_bad b t m h).1 n g.within g.form)
from_skip b t n OpenText (g, never) (_, _, _, gap) = absurd (gap n g.within g.form)
from_skip b t n OpenComment (g, never) (_, _, _, gap) = absurd (gap n g.within g.form)

from_found : (b : ℕ) (t : List ℕ) (k : TokenKind) (n : ℕ) (q : Piece) → Stands (b ∷ t) (Found k n) → Stands (b ∷ t) q → Found k n ≡ q
from_found b t k n (Skip m) g h = sym (from_skip b t m (Found k n) h g)
from_found b t k n (Found j m) (g, _, _) (h, _, _) = same_found k j n m (same_kind _ k j n m g h) (same_len _ k j n m g h)
from_found b t k n BigNumber (g, small, _) (v, m, h, big, _) = let s = small v (same_kind _ k _ n m g h) in absurd (omega (arith, s, big))
from_found b t k n (Bad m) (g, _, _) h = absurd ((nothing_at_bad b t m h).0 k n g.begins)
from_found b t k n OpenText (g, _, _) (_, _, never, _) = absurd (never k n g.begins)
from_found b t k n OpenComment (g, _, _) (_, _, never, _) = absurd (never k n g.begins)

from_big : (b : ℕ) (t : List ℕ) (q : Piece) → Stands (b ∷ t) BigNumber → Stands (b ∷ t) q → BigNumber ≡ q
from_big b t (Skip m) g h = sym (from_skip b t m BigNumber h g)
from_big b t (Found k m) g h = sym (from_found b t k m BigNumber h g)
from_big b t BigNumber g h = refl
from_big b t (Bad m) (v, n, g, _, _) h = absurd ((nothing_at_bad b t m h).0 _ n g.begins)
from_big b t OpenText (v, n, g, _, _) (_, _, never, _) = absurd (never _ n g.begins)
from_big b t OpenComment (v, n, g, _, _) (_, _, never, _) = absurd (never _ n g.begins)

two_bad : (b : ℕ) (t : List ℕ) (n m : ℕ) → Stands (b ∷ t) (Bad n) → Stands (b ∷ t) (Bad m) → n ≡ m
two_bad b t n m (inl (e, s)) (inl (f, r)) = e ∙ sym f
two_bad b t n m (inl (e, s)) (inr (i, f, q, _, _, _, _)) = absurd (no_stray_quote b q s)
two_bad b t n m (inr (i, e, q, _, _, _, _)) (inl (f, s)) = absurd (no_stray_quote b q s)
two_bad b t n m (inr (i, e, q, g, _, _, _)) (inr (j, f, r, h, _, _, _)) = let z = same_bad t i j g h in omega (arith, e, f, z)

bad_text : (b : ℕ) (t : List ℕ) (n : ℕ) → Stands (b ∷ t) (Bad n) → Stands (b ∷ t) OpenText → ⊥
bad_text b t n (inl (e, s)) (q, open_, _, _) = no_stray_quote b q s
bad_text b t n (inr (i, e, q, g, c, _, _)) (r, open_, _, _) = open_ c

bad_comment : (b : ℕ) (t : List ℕ) (n : ℕ) → Stands (b ∷ t) (Bad n) → Stands (b ∷ t) OpenComment → ⊥
bad_comment b t n (inl (e, s)) (o, _, _, _) = no_stray_slash b t o s
bad_comment b t n (inr (i, e, q, _, _, _, _)) (o, _, _, _) = quote_no_slash b t q o

from_bad : (b : ℕ) (t : List ℕ) (n : ℕ) (q : Piece) → Stands (b ∷ t) (Bad n) → Stands (b ∷ t) q → Bad n ≡ q
from_bad b t n (Skip m) g h = sym (from_skip b t m (Bad n) h g)
from_bad b t n (Found k m) g h = sym (from_found b t k m (Bad n) h g)
from_bad b t n BigNumber g h = sym (from_big b t (Bad n) h g)
from_bad b t n (Bad m) g h = ap Bad (two_bad b t n m g h)
from_bad b t n OpenText g h = absurd (bad_text b t n g h)
from_bad b t n OpenComment g h = absurd (bad_comment b t n g h)

from_text : (b : ℕ) (t : List ℕ) (q : Piece) → Stands (b ∷ t) OpenText → Stands (b ∷ t) q → OpenText ≡ q
from_text b t (Skip m) g h = sym (from_skip b t m OpenText h g)
from_text b t (Found k m) g h = sym (from_found b t k m OpenText h g)
from_text b t BigNumber g h = sym (from_big b t OpenText h g)
from_text b t (Bad m) g h = absurd (bad_text b t m h g)
from_text b t OpenText g h = refl
from_text b t OpenComment (q, _, _, _) (o, _, _, _) = absurd (quote_no_slash b t q o)

from_comment : (b : ℕ) (t : List ℕ) (q : Piece) → Stands (b ∷ t) OpenComment → Stands (b ∷ t) q → OpenComment ≡ q
from_comment b t (Skip m) g h = sym (from_skip b t m OpenComment h g)
from_comment b t (Found k m) g h = sym (from_found b t k m OpenComment h g)
from_comment b t BigNumber g h = sym (from_big b t OpenComment h g)
from_comment b t (Bad m) g h = absurd (bad_comment b t m h g)
from_comment b t OpenText g h = sym (from_text b t OpenComment h g)
from_comment b t OpenComment g h = refl

one_piece : (b : ℕ) (t : List ℕ) (p q : Piece) → Stands (b ∷ t) p → Stands (b ∷ t) q → p ≡ q
one_piece b t (Skip n) q g h = from_skip b t n q g h
one_piece b t (Found k n) q g h = from_found b t k n q g h
one_piece b t BigNumber q g h = from_big b t q g h
one_piece b t (Bad n) q g h = from_bad b t n q g h
one_piece b t OpenText q g h = from_text b t q g h
one_piece b t OpenComment q g h = from_comment b t q g h

pub only_that : (text : List ℕ) (p : Piece) → 0 < length text → Stands text p → front text ≡ p
only_that [] p h s = absurd (omega (arith, h))
only_that (b ∷ t) p h s = one_piece b t (front (b ∷ t)) p (front_stands b t) s
