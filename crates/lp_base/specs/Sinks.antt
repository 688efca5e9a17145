-- What contracts see of the sinks in memory beside what was written.
use Rattle.std.specs.Prelude.{◌≡◌, ◌<◌, ◌≤◌, ℕ, ◌+◌, List, length, false, vec_capacity}
use Rattle.lp_base.specs.declared.sinks.MemSink.{MemSink}
use Rattle.lp_base.specs.declared.sinks.SureSink.{SureSink}

-- the room that is left does not suffice for this piece
abbrev pub IsFull : MemSink → List ℕ → Type 0
IsFull s piece = vec_capacity s.room < length s.room.items + length piece

-- the sink tells its content, and the room that is left suffices for this piece
abbrev pub HasRoom : SureSink → List ℕ → Type 0
HasRoom s piece = (s.is_full ≡ false) × (length s.room.items + length piece ≤ vec_capacity s.room)

-- how many bytes were put, at most the greatest number of 64 bits
abbrev pub sure_count : SureSink → ℕ
sure_count s = s.count
