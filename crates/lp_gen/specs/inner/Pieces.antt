-- The instructions that a type is made with, by plain lists of registers, and the registers that they set: each node has the next one.
use Rattle.std.specs.Prelude.{ℕ, ◌+◌, List, [], ◌∷◌, ◌++◌, map, min}
use Rattle.lp_calculus.specs.Types.{Ty, Tys, var, param as type_param, con, arrow, no_types, types}
use Rattle.lp_code.specs.declared.instruction.Instr.{Instr}
use Rattle.lp_code.specs.declared.instruction.Instr.TheVariants.{TyCon, TyArr}

pub data Piece : Type 0 where
  type_con : (register kind : ℕ) → List ℕ → Piece
  type_arrow : (register from to : ℕ) → Piece
  another : Piece

abbrev pub piece : Instr → Piece
piece (TyCon d k ts) = type_con d k ts.items
piece (TyArr d a b) = type_arrow d a b
piece i = another

abbrev pub pieces : List Instr → List Piece
pieces is = map piece is

-- a type in a register, and types in registers, with the next register
pub record Made : Type 0 where
  pub code : List Piece
  pub register : ℕ
  pub next : ℕ

pub record AllMade : Type 0 where
  pub code : List Piece
  pub registers : List ℕ
  pub next : ℕ

abbrev pub constructor_made : ℕ → AllMade → Made
constructor_made k m = record { code = m.code ++ type_con m.next k m.registers ∷ []; register = m.next; next = m.next + 1 }

abbrev pub arrow_made : Made → Made → Made
arrow_made m n = record { code = m.code ++ (n.code ++ type_arrow n.next m.register n.register ∷ []); register = n.next; next = n.next + 1 }

abbrev pub made_before : Made → AllMade → AllMade
made_before m ms = record { code = m.code ++ ms.code; registers = m.register ∷ ms.registers; next = ms.next }

abbrev mutual
  pub type_made : (next : ℕ) → Ty → Made
  type_made n (var i) = record { code = []; register = min i 65535; next = n }
  type_made n (type_param k) = record { code = []; register = 0; next = n }
  type_made n (con k ts) = constructor_made k (types_made n ts)
  type_made n (arrow a b) = arrow_made (type_made n a) (type_made (type_made n a).next b)

  pub types_made : (next : ℕ) → Tys → AllMade
  types_made n no_types = record { code = []; registers = []; next = n }
  types_made n (types t ts) = made_before (type_made n t) (types_made (type_made n t).next ts)
