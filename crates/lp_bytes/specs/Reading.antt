-- Reading from left to right, with the fault that is met first and its offset.
use Rattle.std.specs.Prelude.{◌≡◌, ℕ, zero, suc, ◌+◌, nat_lt, ℤ, if◌then◌else◌, List, [], ◌∷◌, ◌++◌, length, take, drop, get_or, Result, Ok, Err, ⊤}
use Rattle.std.specs.Str.{bytes_eq}
use Rattle.std.specs.Int.{w16, w32, w64, from_le_bytes, cast_signed}
use Rattle.lp_base.specs.declared.limit.Limit.TheVariants.{Image}
use Rattle.lp_bytes.specs.declared.fault.Fault.{Fault}
use Rattle.lp_bytes.specs.declared.fault.Fault.TheVariants.{BadMagic, Truncated, Trailing, Limit}
use Rattle.lp_bytes.specs.declared.fault.ReadError.{ReadError}
use Rattle.lp_bytes.specs.declared.fault.ReadError.TheVariants as errors
use Rattle.lp_bytes.specs.declared.left.Reader.{Reader}

-- the bytes that are left, and the offset of the first of them
pub record Left : Type 0 where
  pub at : ℕ
  pub rest : List ℕ

abbrev pub left : ℕ → List ℕ → Left
left at rest = record { at = at; rest = rest }

-- what a reader has left
abbrev pub left_of : Reader → Left
left_of r = left r.at r.rest.now

-- a value and what is left behind it, or a fault
abbrev pub Read : Type 0 → Type 0
Read A = Result (A × Left) Fault

infixl 10 ◌>>=◌
abbrev pub ◌>>=◌ : {A B : Type 0} → Result A Fault → (A → Result B Fault) → Result B Fault
(Ok x) >>= f = f x
(Err e) >>= f = Err e

-- a fault that a function returned is the one that is met, unless memory ran out
abbrev pub Fails : {Y : Type 0} → ReadError → Result Y Fault → Type 0
Fails errors.Memory read = Unit {0}
Fails (errors.Fault f) read = read ≡ Err f

-- what a function returned, seen by view, is what is read, and what it left is left
abbrev pub Gives : {X Y : Type 0} → (X → Y) → Result X ReadError → Left → Read Y → Type 0
Gives view (Ok x) new read = read ≡ Ok (view x, new)
Gives view (Err e) new read = Fails e read

-- the same for what leaves nothing, and for what makes no value
abbrev pub Comes : {X Y : Type 0} → (X → Y) → Result X ReadError → Result Y Fault → Type 0
Comes view (Ok x) read = read ≡ Ok (view x)
Comes view (Err e) read = Fails e read

abbrev pub Passes : {X : Type 0} → Result X ReadError → Left → Result Left Fault → Type 0
Passes (Ok x) new read = read ≡ Ok new
Passes (Err e) new read = Fails e read

-- so many bytes
unfoldable pub field : ℕ → Left → Read (List ℕ)
field n s = if nat_lt (length s.rest) n then Err (Truncated s.at) else Ok (take n s.rest, left (s.at + n) (drop n s.rest))

unfoldable pub byte_at : Left → Read ℕ
byte_at s = field 1 s >>= λ x. Ok (get_or x.0 0 0, x.1)

unfoldable pub two_at : Left → Read ℕ
two_at s = field 2 s >>= λ x. Ok (from_le_bytes w16 x.0, x.1)

unfoldable pub four_at : Left → Read ℕ
four_at s = field 4 s >>= λ x. Ok (from_le_bytes w32 x.0, x.1)

unfoldable pub integer_at : Left → Read ℤ
integer_at s = field 8 s >>= λ x. Ok (cast_signed w64 (from_le_bytes w64 x.0), x.1)

-- a text behind its length, which has four bytes
unfoldable pub long_text_at : Left → Read (List ℕ)
long_text_at s = four_at s >>= λ n. field n.0 n.1

-- so many more entries, each read with those before it
unfoldable pub each_at : {A : Type 0} → (List A → Left → Read A) → List A → ℕ → Left → Read (List A)
each_at f before zero s = Ok (before, s)
each_at f before (suc n) s = f before s >>= λ x. each_at f (before ++ x.0 ∷ []) n x.1

-- parts of the sorts that are still to come, each before the parts that it asks for; turns bounds how many there are
unfoldable pub nested_at : {S A : Type 0} → (S → Left → Read A) → (A → List S) → List A → (turns : ℕ) → (to_come : List S) → Left → Read (List A)
nested_at f below before zero to_come s = Ok (before, s)
nested_at f below before (suc n) [] s = Ok (before, s)
nested_at f below before (suc n) (sort ∷ to_come) s = f sort s >>= λ x. nested_at f below (before ++ x.0 ∷ []) n (below x.0 ++ to_come) x.1

-- the bytes of a file, of which there are at most 16 MiB
unfoldable pub file_of : List ℕ → Result Left Fault
file_of bytes = if nat_lt 16777216 (length bytes) then Err (Limit Image) else Ok (left 0 bytes)

-- the four bytes that begin a format
unfoldable pub magic_at : List ℕ → Left → Result Left Fault
magic_at magic s = field 4 s >>= λ m. if bytes_eq m.0 magic then Ok m.1 else Err BadMagic

-- nothing is left
unfoldable pub all_read : Left → Result ⊤ Fault
all_read s = if nat_lt 0 (length s.rest) then Err (Trailing s.at) else Ok tt
