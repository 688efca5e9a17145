-- The object of a module of a set of files: its names, and what its code denotes.
use Rattle.std.specs.Prelude.{◌≡◌, ℕ, ◌-◌, List, length, map, nat_lt, All, Bool, None, Some, if◌then◌else◌}
use Rattle.lp_model.specs.Flat.{Clause}
use Rattle.lp_model.specs.Flatten.{ClauseFormula}
use Rattle.lp_model.specs.Proofs.{AreFlattened}
use Rattle.lp_code.specs.Denote.{denote}
use Rattle.lp_code.specs.Naming.{object_tables}
use Rattle.lp_code.specs.Symbolic.{Tables}
use Rattle.lp_code.specs.declared.record.Record.{Record}
use Rattle.lp_gen.specs.Sources.{AreKnownSchemes, IsClause}
use Rattle.lp_module.specs.Program.{clauses_in}
use Rattle.lp_code.specs.declared.object.Object.{Object}
use Rattle.lp_code.specs.declared.object.ObjectConstant.{ObjectConstant}
use Rattle.lp_code.specs.declared.object.ObjectKind.{ObjectKind}
use Rattle.lp_term.specs.Nodes.{Nodes, type_tree}
use Rattle.lp_sig.specs.Refusals.{IsAt}
use Rattle.lp_sig.specs.Rows.{fixity_row, found}
use Rattle.lp_sig.specs.declared.entries.ConstantEntry.{ConstantEntry}
use Rattle.lp_sig.specs.declared.entries.KindEntry.{KindEntry}
use Rattle.lp_sig.specs.declared.signature.Signature.{Signature}
use Rattle.lp_syntax.specs.declared.text.ModuleText.{ModuleText}
use Rattle.lp_syntax.specs.declared.text.SignatureText.{SignatureText}
use Rattle.lp_module.specs.declared.module.Module.{Module}
use Rattle.lp_build.specs.Limits.{IsWithinObject}
use Rattle.lp_build.specs.Meant.{IsModuleAt}
use Rattle.lp_build.specs.Trees.{AreModuleTexts, AreSignatureTexts}
use Rattle.lp_build.specs.declared.sources.File.{File}
use Rattle.lp_build.specs.declared.sources.Sources.{Sources}
use Rattle.lp_build.specs.declared.texts.Group.{Group}

pub record IsObjectKind (e : KindEntry) (k : ObjectKind) : Type 0 where
  pub name : k.name.items ≡ e.name.items
  pub arity : k.arity ≡ e.arity

-- a constant with its type, in another bank, and the fixity that the signature gives it, where it is exported
pub record IsObjectConstant (s : Signature) (b : Nodes) (e : ConstantEntry) (c : ObjectConstant) : Type 0 where
  pub name : c.name.items ≡ e.name.items
  pub variables : c.type_vars ≡ e.type_vars
  pub scheme : type_tree b c.scheme.0 ≡ type_tree s.bank e.scheme.0
  pub fixity : c.fixity ≡ (if c.exported then found e.name.items (map fixity_row s.fixities.items) else None)

-- as many elements, each so to the one at its place among the first of a list
pub record ArePaired {A B : Type 0} (P : A → B → Type 0) (xs : List A) (count : ℕ) (ys : List B) : Type 0 where
  pub many : length ys ≡ count
  pub each : (i : ℕ) (x : A) (y : B) → IsAt xs i x → IsAt ys i y → P x y

-- the first so many are exported, and no others
abbrev pub AreExported : {A : Type 0} → (is : A → Bool) → (count : ℕ) → List A → Type 0
AreExported {A} is count xs = (i : ℕ) (x : A) → IsAt xs i x → is x ≡ nat_lt i count

-- an object has the kinds and constants of a module's signature, of which the first ones are exported and the hidden ones not, and its list of modules
pub record HasNamesOf (m : Module) (o : Object) : Type 0 where
  pub name : o.name.items ≡ m.name.items
  pub kinds : ArePaired IsObjectKind m.signature.kinds.items (length m.signature.kinds.items) o.kinds.items
  pub exported_kinds : AreExported (λ k. k.exported) (length m.signature.kinds.items - length m.hidden_kinds.items) o.kinds.items
  pub constants : ArePaired (IsObjectConstant m.signature o.bank) m.signature.constants.items (length m.signature.constants.items) o.constants.items
  pub exported_constants : AreExported (λ c. c.exported) (length m.signature.constants.items - length m.hidden_constants.items) o.constants.items
  pub uses : map (λ u. u.items) o.uses.items ≡ map (λ u. u.items) m.uses.items

-- over these kinds and constants, records denote the flattened clauses of formulas, in order, where these are well typed and within the limits of code
abbrev pub DenoteFlattened : Tables → List ClauseFormula → List Record → Type 0
DenoteFlattened t fs rs =
    (cs : List Clause) → AreFlattened t.constants fs cs → AreKnownSchemes t → All (IsClause t) cs → denote t rs ≡ Some cs

-- an object of a module: its names, and code that denotes over its own kinds and constants the flattened clauses of the module
pub record IsObjectOf (m : Module) (o : Object) : Type 0 where
  pub names : HasNamesOf m o
  pub code : DenoteFlattened (object_tables o) (clauses_in m) o.code.records.items

-- a module is what the text of the file of a number means
pub record IsModuleOfFile (files : List File) (g : Group SignatureText) (t : Group ModuleText) (number : ℕ) (m : Module) : Type 0 where
  pub place : ℕ
  pub there : IsAt t.numbers.items place number
  pub is : IsModuleAt files g t place m

-- the object of the module whose text is the file of a number, which passes no limit
pub record IsCompiled (sources : Sources) (number : ℕ) (o : Object) : Type 0 where
  pub signatures : Group SignatureText
  pub texts : Group ModuleText
  pub signature_texts : AreSignatureTexts sources.files.items (length sources.files.items) signatures
  pub module_texts : AreModuleTexts sources.files.items (length sources.files.items) texts
  pub meant : Module
  pub is : IsModuleOfFile sources.files.items signatures texts number meant
  pub object : IsObjectOf meant o
  pub within : IsWithinObject meant
