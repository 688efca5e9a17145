-- What has been written, of which there are at most 16 MiB.
use Rattle.std.specs.Prelude.{ℕ, List, ◌++◌, length, nat_lt, if◌then◌else◌, Option, Some, None}
use Rattle.lp_bytes.specs.declared.written.Writer.{Writer}

-- so many bytes, or too many
abbrev pub limited : List ℕ → Option (List ℕ)
limited bytes = if nat_lt 16777216 (length bytes) then None else Some bytes

-- these bytes more
unfoldable pub more : Option (List ℕ) → List ℕ → Option (List ℕ)
more None text = None
more (Some bytes) text = limited (bytes ++ text)

-- the bytes of a writer, or that there would be too many
abbrev pub text_of : Writer → Option (List ℕ)
text_of w = if w.full then None else Some w.bytes.items
