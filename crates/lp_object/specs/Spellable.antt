-- What has a spelling: numbers fit their bytes, names are short and stand once, types are made of the kinds, and instructions have their operands.
use Rattle.std.specs.Prelude.{◌≡◌, ◌⊎◌, ℕ, suc, ◌<◌, ◌≤◌, ◌^◌, ℤ, false, List, [], ◌∷◌, ◌++◌, length, map, Option, Some, None, slice_index_or}
use Rattle.std.specs.List.{AllByRecursion, flat_map, list_any}
use Rattle.lp_calculus.specs.Types.{Ty, Tys, var, param, con, arrow, no_types, types}
use Rattle.lp_standard.specs.declared.fixity.Fixity.{Fixity}
use Rattle.lp_bytes.specs.Spellable.{IsInteger}
use Rattle.lp_code.specs.declared.record.RecordHead.{RecordHead}
use Rattle.lp_code.specs.declared.record.RecordHead.TheVariants as headed
use Rattle.lp_code.specs.Groups.{PlainKey, no_key, constant}
use Rattle.lp_code.specs.Groups as keyed
use Rattle.lp_object.specs.declared.width.Width.{Width}
use Rattle.lp_object.specs.declared.width.Width.TheVariants.{Two, Four}
use Rattle.lp_object.specs.Plain.{Operand, argument, register, symbol, integer, bytes, text, few, many, numbered, PlainInstr, PlainRecord, PlainObjectKind, PlainObjectConstant, PlainObject, PlainImageKind, PlainImageConstant, PlainImage}
use Rattle.lp_object.specs.Spelling.{spelled_instr}
use Rattle.lp_object.specs.Files.{spelled_image_1, spelled_image}
use Rattle.lp_object.specs.Reading.{Form, an_argument, a_register, a_symbol, an_integer, some_bytes, a_text, a_few, one_or_more, a_many, a_numbered, layouts, Scope, scope, arity_of, same_global, object_kind_name, object_constant_name, image_kind_name, image_constant_name}

abbrev pub IsNumber : Width → ℕ → Type 0
IsNumber Two n = n < 2 ^ 16
IsNumber Four n = n < 2 ^ 32

-- registers, fewer than so many, and the same of records
abbrev pub AreRegisters : (most : ℕ) → List ℕ → Type 0
AreRegisters most rs = (length rs < most) × AllByRecursion (λ r. r < 2 ^ 16) rs

abbrev pub AreNumbered : (most : ℕ) → List ℕ → Type 0
AreNumbered most ns = (length ns < most) × AllByRecursion (λ n. n < 2 ^ 32) ns

-- the operand is one of this form
abbrev pub FitsForm : Width → Form → Operand → Type 0
FitsForm w an_argument o = (i : ℕ) × (o ≡ argument i) × (i < 256)
FitsForm w a_register o = (r : ℕ) × (o ≡ register r) × (r < 2 ^ 16)
FitsForm w a_symbol o = (c : ℕ) × (o ≡ symbol c) × IsNumber w c
FitsForm w an_integer o = (z : ℤ) × (o ≡ integer z) × IsInteger z
FitsForm w some_bytes o = (n : ℕ) × (o ≡ bytes n) × (n < 2 ^ 32)
FitsForm w a_text o = (s : List ℕ) × (o ≡ text s) × (length s < 2 ^ 16)
FitsForm w a_few o = (rs : List ℕ) × (o ≡ few rs) × AreRegisters 256 rs
FitsForm w one_or_more o = (rs : List ℕ) × (o ≡ few rs) × AreRegisters 256 rs × (0 < length rs)
FitsForm w a_many o = (rs : List ℕ) × (o ≡ many rs) × AreRegisters 65536 rs
FitsForm w a_numbered o = (ns : List ℕ) × (o ≡ numbered ns) × AreNumbered 65536 ns

abbrev pub FitForms : Width → List Form → List Operand → Type 0
FitForms w [] [] = Unit {0}
FitForms w (f ∷ fs) (o ∷ os) = FitsForm w f o × FitForms w fs os
FitForms w [] (o ∷ os) = ⊥
FitForms w (f ∷ fs) [] = ⊥

-- the instruction has a number, and its operands
abbrev pub IsInstr : Width → PlainInstr → Type 0
IsInstr w i = (fs : List Form) × (slice_index_or layouts i.number None ≡ Some fs) × FitForms w fs i.operands

abbrev pub IsHead : Width → Option RecordHead → Type 0
IsHead w None = ⊥
IsHead w (Some (headed.Const c)) = IsNumber w c
IsHead w (Some (headed.Register r)) = r < 2 ^ 16

abbrev pub IsKey : Width → PlainKey → Type 0
IsKey w no_key = Unit {0}
IsKey w (constant c) = IsNumber w c
IsKey w (keyed.integer z) = IsInteger z
IsKey w (keyed.text s) = length s < 2 ^ 16

abbrev pub IsCode : Width → List PlainInstr → Type 0
IsCode w is = AllByRecursion (IsInstr w) is × (length (flat_map (spelled_instr w) is) < 2 ^ 32)

pub record IsRecord (w : Width) (r : PlainRecord) : Type 0 where
  pub head_fits : IsHead w r.head
  pub captured_types_fit : r.captured_types < 2 ^ 16
  pub captured_fit : r.captured < 2 ^ 16
  pub types_fit : r.types < 2 ^ 16
  pub registers_fit : r.registers < 2 ^ 16
  pub key_fits : IsKey w r.key
  pub code_fits : IsCode w r.code

abbrev pub AreRecords : Width → (most : ℕ) → List PlainRecord → Type 0
AreRecords w most rs = (length rs ≤ most) × AllByRecursion (IsRecord w) rs

abbrev pub how_many : Tys → ℕ
how_many no_types = 0
how_many (types t ts) = suc (how_many ts)

-- a type of these kinds and type variables
abbrev mutual
  pub IsType : Scope → Ty → Type 0
  IsType d (var v) = (v < d.variables) × (v < 256)
  IsType d (param v) = ⊥
  IsType d (con k ts) = IsNumber d.width k × (arity_of d.arities k ≡ Some (how_many ts)) × AreTypes d ts
  IsType d (arrow a b) = IsType d a × IsType d b

  pub AreTypes : Scope → Tys → Type 0
  AreTypes d no_types = Unit {0}
  AreTypes d (types t ts) = IsType d t × AreTypes d ts

abbrev pub IsName : List ℕ → Type 0
IsName n = (0 < length n) × (length n < 256)

-- none of these is the name
abbrev pub IsNew : List (List ℕ × ℕ) → List ℕ × ℕ → Type 0
IsNew before n = list_any (same_global n) before ≡ false

abbrev pub IsFixity : Option (Fixity × ℕ) → Type 0
IsFixity None = Unit {0}
IsFixity (Some f) = f.1 < 256

-- each of them after those before it
abbrev pub Each : {A : Type 0} → (List A → A → Type 0) → List A → List A → Type 0
Each P before [] = Unit {0}
Each P before (x ∷ xs) = P before x × Each P (before ++ x ∷ []) xs

pub record IsObjectKind (before : List PlainObjectKind) (k : PlainObjectKind) : Type 0 where
  pub name_fits : IsName k.name
  pub is_new : IsNew (map object_kind_name before) (object_kind_name k)
  pub arity_fits : k.arity < 256

pub record IsObjectConstant (arities : List ℕ) (before : List PlainObjectConstant) (c : PlainObjectConstant) : Type 0 where
  pub name_fits : IsName c.name
  pub is_new : IsNew (map object_constant_name before) (object_constant_name c)
  pub type_vars_fit : c.type_vars < 256
  pub scheme_fits : IsType (scope Two arities c.type_vars) c.scheme
  pub fixity_fits : IsFixity c.fixity

-- the object has a spelling
pub record IsObject (o : PlainObject) : Type 0 where
  pub name_fits : IsName o.name
  pub few_kinds : length o.kinds ≤ 65527
  pub kinds_fit : Each IsObjectKind [] o.kinds
  pub few_constants : length o.constants ≤ 65503
  pub constants_fit : Each (IsObjectConstant (map (λ k. k.arity) o.kinds)) [] o.constants
  pub few_uses : length o.uses < 2 ^ 16
  pub uses_fit : AllByRecursion IsName o.uses
  pub records_fit : AreRecords Two 65535 o.records

pub record IsImageKind (before : List PlainImageKind) (k : PlainImageKind) : Type 0 where
  pub name_fits : IsName k.name
  pub hidden_fits : k.hidden < 2 ^ 16
  pub is_new : IsNew (map image_kind_name before) (image_kind_name k)
  pub arity_fits : k.arity < 256

pub record IsImageConstant (w : Width) (arities : List ℕ) (before : List PlainImageConstant) (c : PlainImageConstant) : Type 0 where
  pub name_fits : IsName c.name
  pub hidden_fits : c.hidden < 2 ^ 16
  pub is_new : IsNew (map image_constant_name before) (image_constant_name c)
  pub type_vars_fit : c.type_vars < 256
  pub scheme_fits : IsType (scope w arities c.type_vars) c.scheme
  pub fixity_fits : IsFixity c.fixity

-- the image has a spelling with numbers of this width
pub record IsImage (w : Width) (i : PlainImage) : Type 0 where
  pub name_fits : IsName i.name
  pub kinds_fit_count : IsNumber w (length i.kinds)
  pub few_kinds : length i.kinds ≤ 1048568
  pub kinds_fit : Each IsImageKind [] i.kinds
  pub constants_fit_count : IsNumber w (length i.constants)
  pub few_constants : length i.constants ≤ 1048544
  pub constants_fit : Each (IsImageConstant w (map (λ k. k.arity) i.kinds)) [] i.constants
  pub records_fit : AreRecords w 4294967295 i.records

-- the bytes spell the image in version 1 or 2
abbrev pub SpellsImage : PlainImage → List ℕ → Type 0
SpellsImage i all = (IsImage Two i × (all ≡ spelled_image_1 i)) ⊎ (IsImage Four i × (all ≡ spelled_image i))
