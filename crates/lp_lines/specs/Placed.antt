-- The line of a refusal of texts: the file, the place of one of its bytes or of its end, and what is said.
use Rattle.std.specs.Prelude.{◌≡◌, ℕ, ◌-◌, ◌≤◌, ◌⊎◌, List, [], ◌∷◌, ◌++◌, length, take, drop, codes, Bool, true, false, if◌then◌else◌}
use Rattle.std.specs.Fmt.{decimal}
use Rattle.std.specs.Str.{bytes_eq}
use Rattle.lp_base.specs.declared.place.Place.{Place}
use Rattle.lp_base.specs.declared.status.Status.TheVariants as variant
use Rattle.lp_lexer.specs.Lexis.{HasFault, place_at}
use Rattle.lp_lexer.specs.declared.token.LexFault.{LexFault}
use Rattle.lp_lexer.specs.declared.token.LexFault.TheVariants as lex
use Rattle.lp_lines.specs.Refusals.{TellsLimit}
use Rattle.lp_lines.specs.declared.cause.Blame.{Blame}
use Rattle.lp_lines.specs.declared.cause.Cause.{Cause}
use Rattle.lp_lines.specs.declared.cause.Cause.TheVariants as cause
use Rattle.lp_lines.specs.declared.refusal.Refusal.{Refusal}
use Rattle.lp_lines.specs.declared.refusal.Refusal.TheVariants.{Line, Memory}

-- what is said of a place
abbrev pub plain_messages : List (List ℕ)
plain_messages =
    codes "bad byte" ∷ codes "unclosed string" ∷ codes "unclosed comment" ∷ codes "number past 64 bits" ∷ codes "unexpected token" ∷ codes "unclosed bracket"
    ∷ codes "operator number above 255" ∷ codes "header name differs" ∷ codes "no typing" ∷ codes "not a clause" ∷ codes "implication or cut in a term" ∷ []

-- what is said of the name at a place
abbrev pub naming_messages : List (List ℕ)
naming_messages =
    codes "ambiguous operator" ∷ codes "unsupported" ∷ codes "operator declared otherwise" ∷ codes "unknown kind" ∷ codes "wrong number of type arguments"
    ∷ codes "declared otherwise" ∷ codes "cyclic abbreviation" ∷ codes "cyclic accum_sig" ∷ codes "cyclic accumulate" ∷ codes "signature name declared otherwise"
    ∷ codes "undeclared name" ∷ []

abbrev pub is_among : List ℕ → List (List ℕ) → Bool
is_among text [] = false
is_among text (t ∷ ts) = if bytes_eq text t then true else is_among text ts

abbrev pub is_message : (is_named : Bool) → List ℕ → Bool
is_message true text = is_among text naming_messages
is_message false text = is_among text plain_messages

-- bytes of a text from one up to another
abbrev pub piece_of : List ℕ → (from to : ℕ) → List ℕ
piece_of text from to = take (to - from) (drop from text)

-- what is said: a message, behind which the name at the place may stand
abbrev pub IsSaid : (text : List ℕ) → (from : ℕ) → List ℕ → Type 0
IsSaid text from said =
    (is_message false said ≡ true)
    ⊎ ((message : List ℕ) × ((to : ℕ) × ((is_message true message ≡ true) × (said ≡ message ++ codes " " ++ piece_of text from to))))

-- a message, behind it the name at the place where one is told
abbrev pub said_as : (is_named : Bool) → (message text : List ℕ) → (from to : ℕ) → List ℕ
said_as true message text from to = message ++ codes " " ++ piece_of text from to
said_as false message text from to = message

abbrev pub source_line : (file : List ℕ) → Place → (said : List ℕ) → List ℕ
source_line file at said = codes "source: " ++ file ++ codes ":" ++ decimal at.line ++ codes ":" ++ decimal at.column ++ codes ": " ++ said ++ codes "\n"

-- the line tells of a byte of this text, or of its end
pub record IsOfText (file text line : List ℕ) : Type 0 where
  pub from : ℕ
  pub within : from ≤ length text
  pub said : List ℕ
  pub message : IsSaid text from said
  pub wrote : line ≡ source_line file (place_at text from) said

-- the line of what is said of a text: the place is that of its first byte, in the text or at its end
pub record IsBlamed (file text : List ℕ) (b : Blame) (line : List ℕ) : Type 0 where
  pub within : b.spot.from ≤ length text
  pub wrote : line ≡ source_line file (place_at text b.spot.from) (said_as b.is_named b.text.now text b.spot.from b.spot.to)

-- a fault of tokens is one of this text; each message is one of those that are said
abbrev pub IsCauseOf : (text : List ℕ) → Cause → Type 0
IsCauseOf text (cause.Tokens e) = HasFault text e
IsCauseOf text (cause.Text blame) = is_message blame.is_named blame.text.now ≡ true
IsCauseOf text (cause.Limit l) = Unit {0}
IsCauseOf text cause.Memory = Unit {0}

-- of the lines of sources
abbrev pub IfSource : (List ℕ → Type 0) → Refusal → Type 0
IfSource P (Line said line) = said ≡ variant.Source → P line.items
IfSource P Memory = Unit {0}

-- the refusal is a line of sources of which this holds, or want of memory
abbrev pub IsSourceLine : (List ℕ → Type 0) → Refusal → Type 0
IsSourceLine P (Line said line) = (said ≡ variant.Source) × P line.items
IsSourceLine P Memory = Unit {0}

-- the line of a fault of tokens
abbrev pub IsTokenLine : (file : List ℕ) → LexFault → (line : List ℕ) → Type 0
IsTokenLine file (lex.BadByte at) line = line ≡ source_line file at (codes "bad byte")
IsTokenLine file (lex.OpenText at) line = line ≡ source_line file at (codes "unclosed string")
IsTokenLine file (lex.OpenComment at) line = line ≡ source_line file at (codes "unclosed comment")
IsTokenLine file (lex.BigNumber at) line = line ≡ source_line file at (codes "number past 64 bits")
IsTokenLine file lex.Memory line = ⊥

-- what is refused for a cause in a text says this cause
abbrev pub SaysOf : (file text : List ℕ) → Cause → Refusal → Type 0
SaysOf file text (cause.Tokens e) r = IsSourceLine (IsTokenLine file e) r
SaysOf file text (cause.Text b) r = IsSourceLine (IsBlamed file text b) r
SaysOf file text (cause.Limit l) r = TellsLimit l r
SaysOf file text cause.Memory r = r ≡ Memory
