-- What stands at the front of the rest of a text, as the tests of the code find it in turn. `Stands` says it by the forms of tokens, and
-- `tokens_are_longest` that the two agree.
use Rattle.std.specs.Prelude.{ℕ, ◌<◌, ◌≤◌, suc, ◌+◌, ◌-◌, ◌*◌, ◌^◌, List, [], ◌∷◌, ◌&&◌, nat_eq, nat_lt, take, drop, slice_index, pos, Bool, true, false, Option, Some, None, if◌then◌else◌}
use Rattle.lp_lexer.specs.declared.class.Class.TheVariants.{Blank, Lower, Upper, Digit, Word, Symbol, Alone, Escaped, Line, Inside}
use Rattle.lp_lexer.specs.declared.token.TokenKind.TheVariants as kind
use Rattle.lp_lexer.specs.declared.token.Piece.{Piece}
use Rattle.lp_lexer.specs.declared.token.Piece.TheVariants.{Skip, Found, Bad, OpenText, OpenComment, BigNumber}
use Rattle.lp_lexer.specs.declared.token.Ended.{Ended}
use Rattle.lp_lexer.specs.declared.token.Ended.TheVariants.{Closed, BadAt, Open}
use Rattle.lp_lexer.specs.Bytes.{is_in, run}

abbrev pub later : ℕ → Option ℕ → Option ℕ
later k None = None
later k (Some n) = Some (k + n)

-- the bytes up to the end of a comment at this depth, the pairs /* and */ taken from the left
abbrev pub comment_len : ℕ → List ℕ → Option ℕ
comment_len d [] = None
comment_len d (b ∷ []) = None
comment_len d (b ∷ c ∷ bs) =
    if nat_eq b 47 && nat_eq c 42 then later 2 (comment_len (suc d) bs)
    else (if nat_eq b 42 && nat_eq c 47 then (if nat_eq d 1 then Some 2 else later 2 (comment_len (d - 1) bs))
    else later 1 (comment_len d (c ∷ bs)))

abbrev pub further : ℕ → Ended → Ended
further k (Closed n) = Closed (k + n)
further k (BadAt n) = BadAt (k + n)
further k Open = Open

-- where a string ends, behind its opening quote: on its line, and a \ only before \ " n t
abbrev pub text_end : List ℕ → Ended
text_end [] = Open
text_end (b ∷ []) =
    if nat_eq b 34 then Closed 1
    else (if nat_eq b 10 then Open
    else (if nat_eq b 92 then BadAt 0
    else (if is_in Inside b then Open else BadAt 0)))
text_end (b ∷ c ∷ bs) =
    if nat_eq b 34 then Closed 1
    else (if nat_eq b 10 then Open
    else (if nat_eq b 92 then (if is_in Escaped c then further 2 (text_end bs) else BadAt 0)
    else (if is_in Inside b then further 1 (text_end (c ∷ bs)) else BadAt 0)))

-- a run of symbol bytes, ending before /*
abbrev pub symbol_len : List ℕ → ℕ
symbol_len [] = 0
symbol_len (b ∷ []) = if is_in Symbol b then 1 else 0
symbol_len (b ∷ c ∷ bs) =
    if nat_eq b 47 && nat_eq c 42 then 0
    else (if is_in Symbol b then suc (symbol_len (c ∷ bs)) else 0)

abbrev pub decimal_from : ℕ → List ℕ → ℕ
decimal_from n [] = n
decimal_from n (d ∷ ds) = decimal_from (n * 10 + (d - 48)) ds

abbrev pub number_of : ℕ → ℕ → Piece
number_of len n = if nat_lt n (2 ^ 63) then Found (kind.Number (pos n)) len else BigNumber

-- a number, or a real where . and a digit follow directly
abbrev pub number_at : ℕ → List ℕ → Piece
number_at n bytes =
    if nat_eq (slice_index bytes n) 46 && is_in Digit (slice_index bytes (n + 1))
    then Found kind.Real (n + 1 + run Digit (drop (n + 1) bytes))
    else number_of n (decimal_from 0 (take n bytes))

abbrev pub comment_at : Option ℕ → Piece
comment_at None = OpenComment
comment_at (Some n) = Skip (2 + n)

-- a quote closes the string on its line, here behind a byte that it may not hold
abbrev pub closes : List ℕ → Bool
closes [] = false
closes (b ∷ []) = nat_eq b 34
closes (b ∷ c ∷ bs) =
    if nat_eq b 34 then true
    else (if nat_eq b 10 then false
    else (if nat_eq b 92 && is_in Escaped c then closes bs
    else closes (c ∷ bs)))

abbrev pub text_at : Ended → List ℕ → Piece
text_at (Closed n) bytes = Found kind.Text (1 + n)
text_at (BadAt n) bytes = if closes (drop n bytes) then Bad (1 + n) else OpenText
text_at Open bytes = OpenText

abbrev pub mark_at : ℕ → Piece
mark_at b =
    if nat_eq b 40 then Found kind.Open 1
    else (if nat_eq b 41 then Found kind.Close 1
    else (if nat_eq b 91 then Found kind.OpenList 1
    else (if nat_eq b 93 then Found kind.CloseList 1
    else (if nat_eq b 124 then Found kind.Bar 1
    else (if nat_eq b 46 then Found kind.Dot 1
    else (if nat_eq b 92 then Found kind.Backslash 1
    else Bad 0))))))

abbrev pub front_by : ℕ → List ℕ → Piece
front_by b bytes =
    if is_in Blank b then Skip (run Blank bytes)
    else (if nat_eq b 37 then Skip (run Line bytes)
    else (if nat_eq b 47 && nat_eq (slice_index bytes 1) 42 then comment_at (comment_len 1 (drop 2 bytes))
    else (if is_in Lower b then Found kind.Lower (run Word bytes)
    else (if is_in Upper b then Found kind.Upper (run Word bytes)
    else (if is_in Digit b then number_at (run Digit bytes) bytes
    else (if nat_eq b 34 then text_at (text_end (drop 1 bytes)) (drop 1 bytes)
    else (if is_in Symbol b then Found kind.Symbol (symbol_len bytes)
    else (if is_in Alone b then Found kind.Symbol 1
    else mark_at b))))))))

unfoldable pub front : List ℕ → Piece
front bytes = front_by (slice_index bytes 0) bytes

abbrev pub IsEndWithin : ℕ → Ended → Type 0
IsEndWithin len (Closed n) = n ≤ len
IsEndWithin len (BadAt n) = n ≤ len
IsEndWithin len Open = Unit {0}

-- a piece has some of so many bytes
abbrev pub IsWithin : ℕ → Piece → Type 0
IsWithin len (Skip n) = (0 < n) × (n ≤ len)
IsWithin len (Found k n) = (0 < n) × (n ≤ len)
IsWithin len (Bad n) = n ≤ len
IsWithin len OpenText = Unit {0}
IsWithin len OpenComment = Unit {0}
IsWithin len BigNumber = Unit {0}
