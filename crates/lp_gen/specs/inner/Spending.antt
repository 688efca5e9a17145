-- What the code of types weighs while it is made: bytes and lists that are too long, by its pieces.
use Rattle.std.specs.Prelude.{◌≡◌, ◌⊎◌, ℕ, ◌+◌, ◌*◌, ◌<◌, List, length, sum_by}
use Rattle.lp_gen.specs.declared.emitter.Emitter.{Emitter}
use Rattle.lp_gen.specs.declared.fault.RecordRefusal.{RecordRefusal}
use Rattle.lp_gen.specs.Registers.{past}
use Rattle.lp_gen.specs.inner.Fitting.{IsRefused}
use Rattle.lp_gen.specs.inner.Pieces.{Piece, type_con, type_arrow, another, pieces}
use Rattle.lp_gen.specs.inner.Works.{Work}

abbrev pub piece_bytes : Piece → ℕ
piece_bytes (type_con d k ts) = 6 + 2 * length ts
piece_bytes (type_arrow d a b) = 7
piece_bytes another = 0

abbrev pub piece_misfits : Piece → ℕ
piece_misfits (type_con d k ts) = past 255 (length ts)
piece_misfits (type_arrow d a b) = 0
piece_misfits another = 0

abbrev pub bytes_of : List Piece → ℕ
bytes_of ps = sum_by piece_bytes ps

abbrev pub misfits_in : List Piece → ℕ
misfits_in ps = sum_by piece_misfits ps

-- the bytes went on with the pieces, and each has room
abbrev pub Spent : (old new : Emitter) → Type 0
Spent old new = (new.place + bytes_of (pieces old.code.items) ≡ old.place + bytes_of (pieces new.code.items)) × (misfits_in (pieces new.code.items) ≡ misfits_in (pieces old.code.items))

-- there is no room for what is to be made
abbrev pub IsOver : Emitter → Work → Type 0
IsOver e w = (65535 < w.next) ⊎ ((4294967295 + bytes_of (pieces e.code.items) < e.place + bytes_of w.code) ⊎ (misfits_in (pieces e.code.items) < misfits_in w.code))

abbrev pub Overflows : Emitter → Work → RecordRefusal → Type 0
Overflows e w r = IsRefused (IsOver e w) r
