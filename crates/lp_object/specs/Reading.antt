-- Reading objects and images from left to right: the value and what is left, or the fault that is met first.
use Rattle.std.specs.Prelude.{ℕ, zero, suc, ◌-◌, ◌==◌, ◌&&◌, Bool, true, false, nat_lt, nat_eq, if◌then◌else◌, List, [], ◌∷◌, ◌++◌, length, take, drop, replicate, map, slice_get, slice_index_or, Option, Some, None, Result, Ok, Err, ⊤}
use Rattle.std.specs.Str.{bytes_eq}
use Rattle.std.specs.List.{list_any}
use Rattle.lp_calculus.specs.Types.{Ty, var, con, arrow, tys}
use Rattle.lp_standard.specs.declared.fixity.Fixity.{Fixity}
use Rattle.lp_standard.specs.declared.fixity.Fixity.TheVariants.{Infix, Infixl, Infixr, Prefix, Prefixr, Postfix, Postfixl}
use Rattle.lp_bytes.specs.declared.fault.Fault.{Fault}
use Rattle.lp_bytes.specs.declared.fault.Fault.TheVariants.{BadField, BadVersion}
use Rattle.lp_bytes.specs.Reading.{Left, Read, ◌>>=◌, field, byte_at, two_at, four_at, integer_at, each_at, nested_at, file_of, magic_at, all_read}
use Rattle.lp_code.specs.declared.record.RecordHead.{RecordHead}
use Rattle.lp_code.specs.declared.record.RecordHead.TheVariants as headed
use Rattle.lp_code.specs.Groups.{PlainKey, no_key, constant}
use Rattle.lp_code.specs.Groups as keyed
use Rattle.lp_object.specs.declared.width.Width.{Width}
use Rattle.lp_object.specs.declared.width.Width.TheVariants.{Two, Four}
use Rattle.lp_object.specs.Tables.{table_fields}
use Rattle.lp_object.specs.Plain.{Operand, argument, register, symbol, integer, bytes, text, few, many, numbered, PlainInstr, of_number, PlainRecord, PlainObjectKind, PlainObjectConstant, PlainObject, PlainImageKind, PlainImageConstant, PlainImage}

-- a value that is made of the one that is read
abbrev pub as_read : {A B : Type 0} → (A → B) → Read A → Read B
as_read f r = r >>= λ x. Ok (f x.0, x.1)

-- ---- numbers, texts and lists

unfoldable pub number_at : Width → Left → Read ℕ
number_at Two s = two_at s
number_at Four s = four_at s

unfoldable pub text_at : Left → Read (List ℕ)
text_at s = two_at s >>= λ n. field n.0 n.1

-- a name is a text of 1 to 255 bytes
unfoldable pub name_length_at : Left → Read ℕ
name_length_at s = two_at s >>= λ n. if n.0 == 0 then Err (BadField s.at) else if nat_lt 255 n.0 then Err (BadField s.at) else Ok n

unfoldable pub name_at : Left → Read (List ℕ)
name_at s = name_length_at s >>= λ n. field n.0 n.1

-- one of two numbers, the first one for true
unfoldable pub choice_at : (first second : ℕ) → Left → Read Bool
choice_at m n s = byte_at s >>= λ b. if b.0 == m then Ok (true, b.1) else if b.0 == n then Ok (false, b.1) else Err (BadField s.at)

unfoldable pub few_at : Left → Read (List ℕ)
few_at s = byte_at s >>= λ n. each_at (λ before. two_at) [] n.0 n.1

unfoldable pub many_at : Left → Read (List ℕ)
many_at s = two_at s >>= λ n. each_at (λ before. two_at) [] n.0 n.1

unfoldable pub numbered_at : Left → Read (List ℕ)
numbered_at s = two_at s >>= λ n. each_at (λ before. four_at) [] n.0 n.1

-- registers, of which there is one or more
unfoldable pub one_or_more_at : Left → Read (List ℕ)
one_or_more_at s = few_at s >>= λ rs. if length rs.0 == 0 then Err (BadField s.at) else Ok rs

-- a count that is not above a bound
unfoldable pub count_at : Width → (most : ℕ) → Left → Read ℕ
count_at w most s = number_at w s >>= λ n. if nat_lt most n.0 then Err (BadField s.at) else Ok n

-- ---- instructions

-- what an operand is read as
pub data Form : Type 0 where
  an_argument : Form
  a_register : Form
  a_symbol : Form
  an_integer : Form
  some_bytes : Form
  a_text : Form
  a_few : Form
  one_or_more : Form
  a_many : Form
  a_numbered : Form

-- the operands of each instruction, by its number
abbrev pub layouts : List (Option (List Form))
layouts =
    None ∷ Some (a_register ∷ a_symbol ∷ a_few ∷ []) ∷ Some (a_register ∷ a_register ∷ a_register ∷ []) ∷ Some (a_register ∷ []) ∷ Some (a_register ∷ a_register ∷ [])
    ∷ Some (a_register ∷ a_symbol ∷ a_few ∷ []) ∷ Some (a_register ∷ an_integer ∷ []) ∷ Some (a_register ∷ a_text ∷ []) ∷ Some (a_register ∷ a_register ∷ a_register ∷ [])
    ∷ Some (a_register ∷ a_register ∷ a_register ∷ []) ∷ Some (a_register ∷ a_register ∷ one_or_more ∷ []) ∷ Some (an_argument ∷ a_register ∷ []) ∷ Some (an_argument ∷ a_register ∷ [])
    ∷ Some (an_argument ∷ a_register ∷ []) ∷ Some (an_argument ∷ a_symbol ∷ a_few ∷ []) ∷ Some (an_argument ∷ an_integer ∷ []) ∷ Some (an_argument ∷ a_text ∷ []) ∷ Some []
    ∷ Some (a_symbol ∷ a_few ∷ a_few ∷ []) ∷ Some (a_register ∷ []) ∷ Some (a_register ∷ a_register ∷ a_register ∷ []) ∷ Some (a_register ∷ a_register ∷ a_register ∷ [])
    ∷ Some (a_register ∷ a_register ∷ []) ∷ Some (a_register ∷ a_register ∷ []) ∷ Some (a_register ∷ a_register ∷ []) ∷ Some (a_register ∷ a_register ∷ []) ∷ Some []
    ∷ Some (a_register ∷ a_register ∷ []) ∷ Some (a_register ∷ a_register ∷ []) ∷ Some [] ∷ Some (a_numbered ∷ a_many ∷ a_many ∷ []) ∷ Some [] ∷ Some (some_bytes ∷ []) ∷ Some (some_bytes ∷ [])
    ∷ Some [] ∷ Some [] ∷ Some [] ∷ []

abbrev pub operand_at : Width → Form → Left → Read Operand
operand_at w an_argument s = as_read argument (byte_at s)
operand_at w a_register s = as_read register (two_at s)
operand_at w a_symbol s = as_read symbol (number_at w s)
operand_at w an_integer s = as_read integer (integer_at s)
operand_at w some_bytes s = as_read bytes (four_at s)
operand_at w a_text s = as_read text (text_at s)
operand_at w a_few s = as_read few (few_at s)
operand_at w one_or_more s = as_read few (one_or_more_at s)
operand_at w a_many s = as_read many (many_at s)
operand_at w a_numbered s = as_read numbered (numbered_at s)

abbrev pub operands_at : Width → List Form → Left → Read (List Operand)
operands_at w [] s = Ok ([], s)
operands_at w (f ∷ fs) s = operand_at w f s >>= λ o. operands_at w fs o.1 >>= λ os. Ok (o.0 ∷ os.0, os.1)

-- the operands of an instruction, where its number is one
abbrev pub laid_out_at : Width → (at number : ℕ) → Option (List Form) → Left → Read PlainInstr
laid_out_at w at n None s = Err (BadField at)
laid_out_at w at n (Some fs) s = as_read (of_number n) (operands_at w fs s)

unfoldable pub instr_at : Width → Left → Read PlainInstr
instr_at w s = byte_at s >>= λ b. laid_out_at w s.at b.0 (slice_index_or layouts b.0 None) b.1

-- an instruction is one field: its faults are told at its first byte
abbrev pub told_at : {A : Type 0} → ℕ → Read A → Read A
told_at at (Ok x) = Ok x
told_at at (Err e) = Err (BadField at)

-- the next instruction, behind which so many bytes are left or more
unfoldable pub located_at : Width → (behind : ℕ) → Left → Read PlainInstr
located_at w behind s = told_at s.at (instr_at w s) >>= λ i. if nat_lt (length i.1.rest) behind then Err (BadField s.at) else Ok i

-- instructions until so many bytes are left; turns bounds how many there are
unfoldable pub instrs_at : Width → (behind : ℕ) → List PlainInstr → (turns : ℕ) → Left → Read (List PlainInstr)
instrs_at w behind before zero s = Ok (before, s)
instrs_at w behind before (suc n) s = if nat_lt behind (length s.rest) then (located_at w behind s >>= λ i. instrs_at w behind (before ++ i.0 ∷ []) n i.1) else Ok (before, s)

-- the code is one field behind its length, of instructions
unfoldable pub code_at : Width → Left → Read (List PlainInstr)
code_at w s = four_at s >>= λ n. field n.0 n.1 >>= λ c. instrs_at w (length c.1.rest) [] n.0 n.1

-- ---- records

unfoldable pub head_at : Width → Left → Read (Option RecordHead)
head_at w s = choice_at 0 1 s >>= λ c. if c.0 then as_read (λ n. Some (headed.Const n)) (number_at w c.1) else as_read (λ r. Some (headed.Register r)) (two_at c.1)

unfoldable pub key_at : Width → Left → Read PlainKey
key_at w s = byte_at s >>= λ b.
    if b.0 == 0 then Ok (no_key, b.1) else if b.0 == 1 then as_read constant (number_at w b.1) else if b.0 == 2 then as_read keyed.integer (integer_at b.1)
    else if b.0 == 3 then as_read keyed.text (text_at b.1) else Err (BadField s.at)

unfoldable pub record_at : Width → Left → Read PlainRecord
record_at w s = do
  program ← choice_at 1 0 s
  head ← head_at w program.1
  captured_types ← two_at head.1
  captured ← two_at captured_types.1
  types ← two_at captured.1
  registers ← two_at types.1
  key ← key_at w registers.1
  code ← code_at w key.1
  Ok (record { program = program.0; head = head.0; captured_types = captured_types.0; captured = captured.0; types = types.0; registers = registers.0; key = key.0; code = code.0 }, code.1)

-- at most so many
unfoldable pub records_at : Width → (most : ℕ) → Left → Read (List PlainRecord)
records_at w most s = four_at s >>= λ n. if nat_lt most n.0 then Err (BadField s.at) else each_at (λ before. record_at w) [] n.0 n.1

-- ---- names and fixities

-- names with their hidden numbers, which are 0 in an object
abbrev pub same_global : List ℕ × ℕ → List ℕ × ℕ → Bool
same_global a b = bytes_eq a.0 b.0 && nat_eq a.1 b.1

-- a name that none of these is
unfoldable pub new_name_at : List (List ℕ × ℕ) → Left → Read (List ℕ)
new_name_at before s = name_length_at s >>= λ n. field n.0 n.1 >>= λ x. if list_any (same_global (x.0, 0)) before then Err (BadField n.1.at) else Ok x

-- a name and a hidden number that none of these has
unfoldable pub new_global_at : List (List ℕ × ℕ) → Left → Read (List ℕ × ℕ)
new_global_at before s = name_at s >>= λ n. two_at n.1 >>= λ h. if list_any (same_global (n.0, h.0)) before then Err (BadField n.1.at) else Ok ((n.0, h.0), h.1)

abbrev pub fixities : List Fixity
fixities = Infix ∷ Infixl ∷ Infixr ∷ Prefix ∷ Prefixr ∷ Postfix ∷ Postfixl ∷ []

unfoldable pub zero_at : Left → Read (Option (Fixity × ℕ))
zero_at s = byte_at s >>= λ n. if n.0 == 0 then Ok (None, n.1) else Err (BadField s.at)

abbrev pub fixed_at : ℕ → Option Fixity → Left → Read (Option (Fixity × ℕ))
fixed_at at None s = Err (BadField at)
fixed_at at (Some f) s = byte_at s >>= λ n. Ok (Some (f, n.0), n.1)

-- 0 and 0, or the number of a fixity and its own number
unfoldable pub fixity_at : Left → Read (Option (Fixity × ℕ))
fixity_at s = byte_at s >>= λ f. if f.0 == 0 then zero_at f.1 else fixed_at s.at (slice_get fixities (f.0 - 1)) f.1

-- ---- types

-- what a type is made of: kinds, whose numbers have this width, of which the declared ones have these counts of arguments, and so many type variables
pub record Scope : Type 0 where
  pub width : Width
  pub arities : List ℕ
  pub variables : ℕ

abbrev pub scope : Width → List ℕ → ℕ → Scope
scope w arities vs = record { width = w; arities = arities; variables = vs }

-- the count of arguments of a kind: those of the language, and the declared ones from 8
abbrev pub arity_of : List ℕ → ℕ → Option ℕ
arity_of arities k = if nat_lt k 3 then Some 0 else if k == 3 then Some 1 else if nat_lt k 8 then None else slice_get arities (k - 8)

-- the top of a type: a type variable, a kind on so many types, or an arrow
pub data TypeTop : Type 0 where
  variable : ℕ → TypeTop
  kind : (number arguments : ℕ) → TypeTop
  an_arrow : TypeTop

abbrev pub types_below : TypeTop → List ⊤
types_below (variable v) = []
types_below (kind k n) = replicate n tt
types_below an_arrow = tt ∷ tt ∷ []

abbrev pub kind_top_at : (at number : ℕ) → Option ℕ → Left → Read TypeTop
kind_top_at at k None s = Err (BadField at)
kind_top_at at k (Some n) s = Ok (kind k n, s)

unfoldable pub type_top_at : Scope → Left → Read TypeTop
type_top_at d s = byte_at s >>= λ t.
    if t.0 == 0 then (byte_at t.1 >>= λ v. if nat_lt v.0 d.variables then Ok (variable v.0, v.1) else Err (BadField t.1.at))
    else if t.0 == 1 then (number_at d.width t.1 >>= λ k. kind_top_at t.1.at k.0 (arity_of d.arities k.0) k.1)
    else if t.0 == 2 then Ok (an_arrow, t.1) else Err (BadField s.at)

-- the tops of a type, each before those of its arguments
unfoldable pub type_tops_at : Scope → Left → Read (List TypeTop)
type_tops_at d s = nested_at (λ one. type_top_at d) types_below [] (suc (length s.rest)) (tt ∷ []) s

-- the types that begin with this top, where these come behind it
abbrev pub with_type_top : TypeTop → List Ty → List Ty
with_type_top (variable v) ts = var v ∷ ts
with_type_top (kind k n) ts = con k (tys (take n ts)) ∷ drop n ts
with_type_top an_arrow (a ∷ b ∷ ts) = arrow a b ∷ ts
with_type_top an_arrow ts = []

abbrev pub types_made : List TypeTop → List Ty
types_made [] = []
types_made (t ∷ ts) = with_type_top t (types_made ts)

-- the first of a list, where there is one
abbrev pub first_of : ℕ → List Ty → Left → Read Ty
first_of at [] s = Err (BadField at)
first_of at (x ∷ xs) s = Ok (x, s)

unfoldable pub type_at : Scope → Left → Read Ty
type_at d s = type_tops_at d s >>= λ ts. first_of s.at (types_made ts.0) ts.1

-- ---- objects

abbrev pub object_kind_name : PlainObjectKind → List ℕ × ℕ
object_kind_name k = (k.name, 0)

abbrev pub object_constant_name : PlainObjectConstant → List ℕ × ℕ
object_constant_name c = (c.name, 0)

unfoldable pub object_kind_at : List PlainObjectKind → Left → Read PlainObjectKind
object_kind_at before s = do
  exported ← choice_at 1 2 s
  name ← new_name_at (map object_kind_name before) exported.1
  arity ← byte_at name.1
  Ok (record { exported = exported.0; name = name.0; arity = arity.0 }, arity.1)

unfoldable pub object_constant_at : List ℕ → List PlainObjectConstant → Left → Read PlainObjectConstant
object_constant_at arities before s = do
  exported ← choice_at 1 2 s
  name ← new_name_at (map object_constant_name before) exported.1
  type_vars ← byte_at name.1
  scheme ← type_at (scope Two arities type_vars.0) type_vars.1
  fixity ← fixity_at scheme.1
  Ok (record { exported = exported.0; name = name.0; type_vars = type_vars.0; scheme = scheme.0; fixity = fixity.0 }, fixity.1)

unfoldable pub object_kinds_at : Left → Read (List PlainObjectKind)
object_kinds_at s = count_at Two 65527 s >>= λ n. each_at object_kind_at [] n.0 n.1

unfoldable pub object_constants_at : List ℕ → Left → Read (List PlainObjectConstant)
object_constants_at arities s = count_at Two 65503 s >>= λ n. each_at (object_constant_at arities) [] n.0 n.1

unfoldable pub uses_at : Left → Read (List (List ℕ))
uses_at s = two_at s >>= λ n. each_at (λ before. name_at) [] n.0 n.1

-- behind the version
unfoldable pub object_at : Left → Read PlainObject
object_at s = do
  name ← name_at s
  kinds ← object_kinds_at name.1
  constants ← object_constants_at (map (λ k. k.arity) kinds.0) kinds.1
  uses ← uses_at constants.1
  records ← records_at Two 65535 uses.1
  Ok (record { name = name.0; kinds = kinds.0; constants = constants.0; uses = uses.0; records = records.0 }, records.1)

unfoldable pub object_of : List ℕ → Result PlainObject Fault
object_of all = do
  file ← file_of all
  magic ← magic_at (76 ∷ 80 ∷ 79 ∷ 66 ∷ []) file
  version ← two_at magic
  object ← if version.0 == 1 then object_at version.1 else Err (BadVersion version.0)
  over ← all_read object.1
  Ok object.0

-- ---- images

abbrev pub image_kind_name : PlainImageKind → List ℕ × ℕ
image_kind_name k = (k.name, k.hidden)

abbrev pub image_constant_name : PlainImageConstant → List ℕ × ℕ
image_constant_name c = (c.name, c.hidden)

unfoldable pub image_kind_at : List PlainImageKind → Left → Read PlainImageKind
image_kind_at before s = do
  name ← new_global_at (map image_kind_name before) s
  arity ← byte_at name.1
  Ok (record { name = name.0.0; hidden = name.0.1; arity = arity.0 }, arity.1)

unfoldable pub image_constant_at : Width → List ℕ → List PlainImageConstant → Left → Read PlainImageConstant
image_constant_at w arities before s = do
  name ← new_global_at (map image_constant_name before) s
  type_vars ← byte_at name.1
  scheme ← type_at (scope w arities type_vars.0) type_vars.1
  fixity ← fixity_at scheme.1
  Ok (record { name = name.0.0; hidden = name.0.1; type_vars = type_vars.0; scheme = scheme.0; fixity = fixity.0 }, fixity.1)

unfoldable pub image_kinds_at : Width → Left → Read (List PlainImageKind)
image_kinds_at w s = count_at w 1048568 s >>= λ n. each_at image_kind_at [] n.0 n.1

unfoldable pub image_constants_at : Width → List ℕ → Left → Read (List PlainImageConstant)
image_constants_at w arities s = count_at w 1048544 s >>= λ n. each_at (image_constant_at w arities) [] n.0 n.1

-- behind the version, but for the tables
unfoldable pub image_at : Width → Left → Read PlainImage
image_at w s = do
  name ← name_at s
  kinds ← image_kinds_at w name.1
  constants ← image_constants_at w (map (λ k. k.arity) kinds.0) kinds.1
  records ← records_at w 4294967295 constants.1
  Ok (record { name = name.0; kinds = kinds.0; constants = constants.0; records = records.0 }, records.1)

-- a field of these bytes, and such fields one behind the other
unfoldable pub expected_at : List ℕ → Left → Result Left Fault
expected_at f s = field (length f) s >>= λ x. if bytes_eq x.0 f then Ok x.1 else Err (BadField s.at)

unfoldable pub all_expected_at : List (List ℕ) → Left → Result Left Fault
all_expected_at [] s = Ok s
all_expected_at (f ∷ fs) s = expected_at f s >>= all_expected_at fs

-- the tables of these records, which version 2 has
abbrev pub tables_at : PlainImage → Left → Read PlainImage
tables_at i s = all_expected_at (table_fields i.records) s >>= λ t. Ok (i, t)

abbrev pub tabled_at : Left → Read PlainImage
tabled_at s = image_at Four s >>= λ i. tables_at i.0 i.1

abbrev pub version_at : (version : ℕ) → Left → Read PlainImage
version_at v s = if v == 1 then image_at Two s else if v == 2 then tabled_at s else Err (BadVersion v)

unfoldable pub image_of : List ℕ → Result PlainImage Fault
image_of all = do
  file ← file_of all
  magic ← magic_at (76 ∷ 80 ∷ 73 ∷ 77 ∷ []) file
  version ← two_at magic
  image ← version_at version.0 version.1
  over ← all_read image.1
  Ok image.0
