-- What a line asks for, by its tokens.
use Rattle.std.specs.Prelude.{ℕ, ◌+◌, ◌-◌, ◌<◌, List, [], ◌∷◌, length, take, drop, codes, Bool, true, false, ◌&&◌, not, nat_lt, if◌then◌else◌}
use Rattle.std.specs.Str.{bytes_eq}
use Rattle.lp_lexer.specs.declared.token.Token.{Token}
use Rattle.lp_lexer.specs.declared.token.TokenKind.{TokenKind}
use Rattle.lp_lexer.specs.declared.token.TokenKind.TheVariants as kind
use Rattle.lp_session.specs.declared.form.Form.{Form}
use Rattle.lp_session.specs.declared.form.Form.TheVariants.{Plain, Printed, Unfit}

-- the bytes between two numbers
abbrev pub piece : List ℕ → ℕ → ℕ → List ℕ
piece line from to = take (to - from) (drop from line)

abbrev pub is_upper : TokenKind → Bool
is_upper kind.Upper = true
is_upper _ = false

abbrev pub is_lower : TokenKind → Bool
is_lower kind.Lower = true
is_lower _ = false

abbrev pub is_dot : TokenKind → Bool
is_dot kind.Dot = true
is_dot _ = false

-- the word `print`
abbrev pub is_print : List ℕ → Token → Bool
is_print line t = is_lower t.kind && bytes_eq (piece line t.from t.to) (codes "print")

-- the name of a variable, other than `_`
abbrev pub is_shown : List ℕ → Token → Bool
is_shown line t = is_upper t.kind && not (bytes_eq (piece line t.from t.to) (codes "_"))

-- behind `print`, from the token of this number on: names up to a dot, at least one
unfoldable pub form_behind : List ℕ → ℕ → List Token → Form
form_behind line n [] = Unfit (length line)
form_behind line n (t ∷ ts) =
    if is_shown line t then form_behind line (n + 1) ts
    else (if nat_lt 1 n && is_dot t.kind then Printed n t.to else Unfit t.from)

unfoldable pub form_of : List ℕ → List Token → Form
form_of line [] = Plain
form_of line (t ∷ ts) = if is_print line t then form_behind line 1 ts else Plain

-- the dot is one of so many tokens, and not the first
abbrev pub IsWithin : ℕ → Form → Type 0
IsWithin n Plain = Unit {0}
IsWithin n (Printed at to) = (1 < at) × (at < n)
IsWithin n (Unfit at) = Unit {0}
