-- The bytes of a type, an instruction and a record.
use Rattle.std.specs.Prelude.{ℕ, List, [], ◌∷◌, ◌++◌, length, Option, Some, None, if◌then◌else◌}
use Rattle.std.specs.List.{flat_map}
use Rattle.lp_calculus.specs.Types.{Ty, Tys, var, param, con, arrow, no_types, types}
use Rattle.lp_standard.specs.declared.fixity.Fixity.{Fixity}
use Rattle.lp_standard.specs.declared.fixity.Fixity.TheVariants.{Infix, Infixl, Infixr, Prefix, Prefixr, Postfix, Postfixl}
use Rattle.lp_code.specs.declared.record.RecordHead.{RecordHead}
use Rattle.lp_code.specs.declared.record.RecordHead.TheVariants as head
use Rattle.lp_code.specs.Groups.{PlainKey, no_key, constant}
use Rattle.lp_code.specs.Groups as key
use Rattle.lp_object.specs.declared.width.Width.{Width}
use Rattle.lp_bytes.specs.Numbers.{spelled_one, spelled_two, spelled_four, spelled_integer}
use Rattle.lp_object.specs.Numbers.{spelled_number, spelled_text, spelled_few, spelled_many, spelled_numbered}
use Rattle.lp_object.specs.Plain.{Operand, argument, register, symbol, integer, bytes, text, few, many, numbered, PlainInstr, PlainRecord}

-- 0 and a type variable; 1, a kind and its arguments; 2 and the two types of an arrow
abbrev mutual
  pub spelled_type : Width → Ty → List ℕ
  spelled_type w (var v) = 0 ∷ spelled_one v
  spelled_type w (param v) = 0 ∷ spelled_one v
  spelled_type w (con k ts) = 1 ∷ spelled_number w k ++ spelled_types w ts
  spelled_type w (arrow a b) = 2 ∷ spelled_type w a ++ spelled_type w b

  pub spelled_types : Width → Tys → List ℕ
  spelled_types w no_types = []
  spelled_types w (types t ts) = spelled_type w t ++ spelled_types w ts

abbrev pub fixity_number : Fixity → ℕ
fixity_number Infix = 1
fixity_number Infixl = 2
fixity_number Infixr = 3
fixity_number Prefix = 4
fixity_number Prefixr = 5
fixity_number Postfix = 6
fixity_number Postfixl = 7

-- a fixity and its number, or two zeros
abbrev pub spelled_fixity : Option (Fixity × ℕ) → List ℕ
spelled_fixity None = 0 ∷ 0 ∷ []
spelled_fixity (Some f) = fixity_number f.0 ∷ f.1 ∷ []

abbrev pub spelled_operand : Width → Operand → List ℕ
spelled_operand w (argument i) = i ∷ []
spelled_operand w (register r) = spelled_two r
spelled_operand w (symbol c) = spelled_number w c
spelled_operand w (integer z) = spelled_integer z
spelled_operand w (bytes n) = spelled_four n
spelled_operand w (text s) = spelled_text s
spelled_operand w (few rs) = spelled_few rs
spelled_operand w (many rs) = spelled_many rs
spelled_operand w (numbered ns) = spelled_numbered ns

-- the number of the instruction, and its operands
abbrev pub spelled_instr : Width → PlainInstr → List ℕ
spelled_instr w i = i.number ∷ flat_map (spelled_operand w) i.operands

-- 0 and the constant that heads the record, or 1 and the register
abbrev pub spelled_head : Width → Option RecordHead → List ℕ
spelled_head w None = []
spelled_head w (Some (head.Const c)) = 0 ∷ spelled_number w c
spelled_head w (Some (head.Register r)) = 1 ∷ spelled_two r

-- 0 for no key, 1 and a constant, 2 and an integer, 3 and a text
abbrev pub spelled_key : Width → PlainKey → List ℕ
spelled_key w no_key = 0 ∷ []
spelled_key w (constant c) = 1 ∷ spelled_number w c
spelled_key w (key.integer z) = 2 ∷ spelled_integer z
spelled_key w (key.text s) = 3 ∷ spelled_text s

-- instructions behind the count of their bytes
unfoldable pub spelled_code : Width → List PlainInstr → List ℕ
spelled_code w is = spelled_four (length (flat_map (spelled_instr w) is)) ++ flat_map (spelled_instr w) is

-- 1 for a clause of the program and 0 for an assumed one, the head, four counts, the key, the code
unfoldable pub spelled_record : Width → PlainRecord → List ℕ
spelled_record w r =
    ((if r.program then 1 else 0) ∷ spelled_head w r.head) ++ spelled_two r.captured_types ++ spelled_two r.captured ++ spelled_two r.types ++ spelled_two r.registers
    ++ spelled_key w r.key ++ spelled_code w r.code

-- records behind their count
unfoldable pub spelled_records : Width → List PlainRecord → List ℕ
spelled_records w rs = spelled_four (length rs) ++ flat_map (spelled_record w) rs
