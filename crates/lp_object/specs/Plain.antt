-- Objects and images as plain values: names, types as trees, and instructions by their number and operands.
use Rattle.std.specs.Prelude.{ℕ, ℤ, Bool, List, [], ◌∷◌, map, Option}
use Rattle.lp_calculus.specs.Types.{Ty}
use Rattle.lp_standard.specs.declared.fixity.Fixity.{Fixity}
use Rattle.lp_term.specs.Nodes.{Nodes, type_tree}
use Rattle.lp_code.specs.declared.instruction.Instr.{Instr}
use Rattle.lp_code.specs.declared.instruction.Instr.TheVariants.{TyCon, TyArr, TyNew, New, PutConst, PutInt, PutStr, PutIndex, PutAbs, PutApp, GetType, GetVar, Get, GetConst, GetInt, GetStr, Neck, Call, CallTerm, Equal, Is, Less, Greater, AtMost, AtLeast, Cut, Sigma, All, EndAll, Assume, EndAssume, Either, Jump, Proceed, Not, EndNot}
use Rattle.lp_code.specs.declared.record.Record.{Record}
use Rattle.lp_code.specs.declared.record.RecordHead.{RecordHead}
use Rattle.lp_code.specs.declared.object.Object.{Object}
use Rattle.lp_code.specs.declared.object.ObjectKind.{ObjectKind}
use Rattle.lp_code.specs.declared.object.ObjectConstant.{ObjectConstant}
use Rattle.lp_code.specs.declared.image.Image.{Image}
use Rattle.lp_code.specs.declared.image.ImageKind.{ImageKind}
use Rattle.lp_code.specs.declared.image.ImageConstant.{ImageConstant}
use Rattle.lp_code.specs.Groups.{PlainKey, plain_key}

-- an operand: the number of an argument, a register or an index, a constant or a kind, an integer, a count of bytes, a text, registers of a goal or a
-- type and registers that are captured, and records
pub data Operand : Type 0 where
  argument : ℕ → Operand
  register : ℕ → Operand
  symbol : ℕ → Operand
  integer : ℤ → Operand
  bytes : ℕ → Operand
  text : List ℕ → Operand
  few : List ℕ → Operand
  many : List ℕ → Operand
  numbered : List ℕ → Operand

pub record PlainInstr : Type 0 where
  pub number : ℕ
  pub operands : List Operand

abbrev pub of_number : ℕ → List Operand → PlainInstr
of_number n os = record { number = n; operands = os }

-- the number of each instruction, and its operands in their order
abbrev pub plain_instr : Instr → PlainInstr
plain_instr (TyCon d k ts) = of_number 1 (register d ∷ symbol k ∷ few ts.items ∷ [])
plain_instr (TyArr d a b) = of_number 2 (register d ∷ register a ∷ register b ∷ [])
plain_instr (TyNew d) = of_number 3 (register d ∷ [])
plain_instr (New d t) = of_number 4 (register d ∷ register t ∷ [])
plain_instr (PutConst d c ts) = of_number 5 (register d ∷ symbol c ∷ few ts.items ∷ [])
plain_instr (PutInt d z) = of_number 6 (register d ∷ integer z ∷ [])
plain_instr (PutStr d s) = of_number 7 (register d ∷ text s.items ∷ [])
plain_instr (PutIndex d i t) = of_number 8 (register d ∷ register i ∷ register t ∷ [])
plain_instr (PutAbs d s t) = of_number 9 (register d ∷ register s ∷ register t ∷ [])
plain_instr (PutApp d s rs) = of_number 10 (register d ∷ register s ∷ few rs.items ∷ [])
plain_instr (GetType j t) = of_number 11 (argument j ∷ register t ∷ [])
plain_instr (GetVar i d) = of_number 12 (argument i ∷ register d ∷ [])
plain_instr (Get i s) = of_number 13 (argument i ∷ register s ∷ [])
plain_instr (GetConst i c ts) = of_number 14 (argument i ∷ symbol c ∷ few ts.items ∷ [])
plain_instr (GetInt i z) = of_number 15 (argument i ∷ integer z ∷ [])
plain_instr (GetStr i s) = of_number 16 (argument i ∷ text s.items ∷ [])
plain_instr Neck = of_number 17 []
plain_instr (Call c ts rs) = of_number 18 (symbol c ∷ few ts.items ∷ few rs.items ∷ [])
plain_instr (CallTerm s) = of_number 19 (register s ∷ [])
plain_instr (Equal t l r) = of_number 20 (register t ∷ register l ∷ register r ∷ [])
plain_instr (Is t l r) = of_number 21 (register t ∷ register l ∷ register r ∷ [])
plain_instr (Less l r) = of_number 22 (register l ∷ register r ∷ [])
plain_instr (Greater l r) = of_number 23 (register l ∷ register r ∷ [])
plain_instr (AtMost l r) = of_number 24 (register l ∷ register r ∷ [])
plain_instr (AtLeast l r) = of_number 25 (register l ∷ register r ∷ [])
plain_instr Cut = of_number 26 []
plain_instr (Sigma d t) = of_number 27 (register d ∷ register t ∷ [])
plain_instr (All d t) = of_number 28 (register d ∷ register t ∷ [])
plain_instr EndAll = of_number 29 []
plain_instr (Assume ns ts rs) = of_number 30 (numbered ns.items ∷ many ts.items ∷ many rs.items ∷ [])
plain_instr EndAssume = of_number 31 []
plain_instr (Either n) = of_number 32 (bytes n ∷ [])
plain_instr (Jump n) = of_number 33 (bytes n ∷ [])
plain_instr Proceed = of_number 34 []
plain_instr Not = of_number 35 []
plain_instr EndNot = of_number 36 []

pub record PlainRecord : Type 0 where
  pub program : Bool
  pub head : Option RecordHead
  pub captured_types : ℕ
  pub captured : ℕ
  pub types : ℕ
  pub registers : ℕ
  pub key : PlainKey
  pub code : List PlainInstr

abbrev pub plain_record : Record → PlainRecord
plain_record r = record {
  program = r.program;
  head = r.head;
  captured_types = r.captured_types;
  captured = r.captured;
  types = r.types;
  registers = r.registers;
  key = plain_key r.key;
  code = map plain_instr r.code.items;
}

-- a kind of an object, and one of an image, where the hidden number 0 is that of a global one
pub record PlainObjectKind : Type 0 where
  pub exported : Bool
  pub name : List ℕ
  pub arity : ℕ

pub record PlainImageKind : Type 0 where
  pub name : List ℕ
  pub hidden : ℕ
  pub arity : ℕ

abbrev pub plain_object_kind : ObjectKind → PlainObjectKind
plain_object_kind k = record { exported = k.exported; name = k.name.items; arity = k.arity }

abbrev pub plain_image_kind : ImageKind → PlainImageKind
plain_image_kind k = record { name = k.name.items; hidden = k.hidden; arity = k.arity }

-- constants, with their types as trees
pub record PlainObjectConstant : Type 0 where
  pub exported : Bool
  pub name : List ℕ
  pub type_vars : ℕ
  pub scheme : Ty
  pub fixity : Option (Fixity × ℕ)

pub record PlainImageConstant : Type 0 where
  pub name : List ℕ
  pub hidden : ℕ
  pub type_vars : ℕ
  pub scheme : Ty
  pub fixity : Option (Fixity × ℕ)

abbrev pub plain_object_constant : Nodes → ObjectConstant → PlainObjectConstant
plain_object_constant b c = record { exported = c.exported; name = c.name.items; type_vars = c.type_vars; scheme = type_tree b c.scheme.0; fixity = c.fixity }

abbrev pub plain_image_constant : Nodes → ImageConstant → PlainImageConstant
plain_image_constant b c = record { name = c.name.items; hidden = c.hidden; type_vars = c.type_vars; scheme = type_tree b c.scheme.0; fixity = c.fixity }

pub record PlainObject : Type 0 where
  pub name : List ℕ
  pub kinds : List PlainObjectKind
  pub constants : List PlainObjectConstant
  pub uses : List (List ℕ)
  pub records : List PlainRecord

pub record PlainImage : Type 0 where
  pub name : List ℕ
  pub kinds : List PlainImageKind
  pub constants : List PlainImageConstant
  pub records : List PlainRecord

abbrev pub plain_object : Object → PlainObject
plain_object o = record {
  name = o.name.items;
  kinds = map plain_object_kind o.kinds.items;
  constants = map (plain_object_constant o.bank) o.constants.items;
  uses = map (λ u. u.items) o.uses.items;
  records = map plain_record o.code.records.items;
}

abbrev pub plain_image : Image → PlainImage
plain_image i = record {
  name = i.name.items;
  kinds = map plain_image_kind i.kinds.items;
  constants = map (plain_image_constant i.bank) i.constants.items;
  records = map plain_record i.code.records.items;
}
