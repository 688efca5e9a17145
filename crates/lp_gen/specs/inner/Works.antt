-- What is left to do for a type, and what comes of it: the code, the registers made so far, and the next register.
use Rattle.std.specs.Prelude.{◌≡◌, ℕ, ◌+◌, ◌-◌, List, [], ◌∷◌, ◌++◌, map, length, take, drop, slice_index_or}
use Rattle.lp_calculus.specs.Types.{tys}
use Rattle.lp_code.specs.declared.instruction.Instr.{Instr}
use Rattle.lp_term.specs.Nodes.{Nodes, type_tree}
use Rattle.lp_gen.specs.declared.emitter.Emitter.{Emitter}
use Rattle.lp_gen.specs.declared.written_types.TypeTask.{TypeTask}
use Rattle.lp_gen.specs.declared.written_types.TypeTask.TheVariants as on
use Rattle.lp_gen.specs.inner.Reading.{read, read_at}
use Rattle.lp_gen.specs.inner.Pieces.{Piece, type_con, type_arrow, pieces, Made, AllMade, type_made, types_made}

pub record Work : Type 0 where
  pub code : List Piece
  pub made : List ℕ
  pub next : ℕ

abbrev pub with_type : Work → Made → Work
with_type w m = record { code = w.code ++ m.code; made = w.made ++ m.register ∷ []; next = m.next }

abbrev pub with_types : Work → AllMade → Work
with_types w m = record { code = w.code ++ m.code; made = w.made ++ m.registers; next = m.next }

-- the last registers of so many, and those before them
abbrev pub last_of : ℕ → List ℕ → List ℕ
last_of n rs = drop (length rs - n) rs

abbrev pub first_of : ℕ → List ℕ → List ℕ
first_of n rs = take (length rs - n) rs

abbrev pub with_constructor : (kind count : ℕ) → Work → Work
with_constructor k n w = record { code = w.code ++ type_con w.next k (last_of n w.made) ∷ []; made = first_of n w.made ++ w.next ∷ []; next = w.next + 1 }

abbrev pub with_arrow : Work → Work
with_arrow w = record {
  code = w.code ++ type_arrow w.next (slice_index_or (last_of 2 w.made) 0 0) (slice_index_or (last_of 2 w.made) 1 0) ∷ [];
  made = first_of 2 w.made ++ w.next ∷ [];
  next = w.next + 1;
}

abbrev pub act : Nodes → TypeTask → Work → Work
act b (on.Visit t) w = with_type w (type_made w.next (read b t))
act b (on.Parts ids at) w = with_types w (types_made w.next (tys (map (λ p. read_at b at (type_tree b p.0)) ids.now)))
act b (on.Constructor k n) w = with_constructor k n w
act b on.Arrow w = with_arrow w

-- all tasks, the last one first
abbrev pub done : Nodes → List TypeTask → Work → Work
done b [] w = w
done b (t ∷ ts) w = act b t (done b ts w)

-- a task gave way to others, and to what it made
abbrev pub GivesWay : Nodes → TypeTask → (old new : List TypeTask) → (before after : List ℕ) → Type 0
GivesWay b t old new rs ss = (code : List Piece) → (next : ℕ) → done b new (record { code = code; made = ss; next = next }) ≡ done b old (act b t (record { code = code; made = rs; next = next }))

abbrev pub work_now : Emitter → List ℕ → Work
work_now e rs = record { code = pieces e.code.items; made = rs; next = e.types }

-- more code, and no register of a term
pub record IsGrown (old new : Emitter) : Type 0 where
  pub more : List Instr
  pub code_is : new.code.items ≡ old.code.items ++ more
  pub registers_stay : new.registers ≡ old.registers

-- the code comes from one piece of work to another
pub record Comes (old new : Emitter) (goal : Work → Work) (before after : List ℕ) : Type 0 where
  pub grown : IsGrown old new
  pub comes : work_now new after ≡ goal (work_now old before)
