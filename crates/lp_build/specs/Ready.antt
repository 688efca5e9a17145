-- Modules whose clauses an image denotes as their program has them.
use Rattle.std.specs.Prelude.{◌≡◌, ◌<◌, ◌+◌, ◌&&◌, ℕ, List, [], ◌∷◌, length, All, None, Option, Some, slice_get}
use Rattle.lp_calculus.specs.Types.{Ty, Tys, var, param as type_param, con, arrow, no_types, types}
use Rattle.lp_calculus.specs.Term.{Term, Atom, index, atom, abs, app, constant, integer, text, eigen, logic, param}
use Rattle.lp_calculus.specs.Typing.{HasType, Scheme, atom_type, o_type}
use Rattle.lp_lemmas.specs.Each.{EachOf}
use Rattle.lp_sig.specs.declared.signature.Signature.{Signature}
use Rattle.lp_standard.specs.Constants.{is_declared}
use Rattle.lp_model.specs.Flat.{Clause}
use Rattle.lp_model.specs.Flatten.{ClauseFormula, heads_clauses}
use Rattle.lp_model.specs.Proofs.{AreFlattened}
use Rattle.lp_code.specs.Naming.{object_tables}
use Rattle.lp_code.specs.declared.object.Object.{Object}
use Rattle.lp_gen.specs.Sources.{AreKnownSchemes, IsClause}
use Rattle.lp_link.specs.Linked as linked
use Rattle.lp_link.specs.Numbers.{renumbered}
use Rattle.lp_module.specs.Program.{Copy, clauses_in}
use Rattle.lp_module.specs.Schemes.{declared_schemes}
use Rattle.lp_module.specs.declared.module.Module.{Module}
use Rattle.lp_build.specs.FlatTypes.{IsTypedClause}

-- kinds below a number, and constants below another one; no logic variables
abbrev mutual
  pub IsTypeOver : ℕ → Ty → Type 0
  IsTypeOver K (var i) = Unit {0}
  IsTypeOver K (type_param k) = Unit {0}
  IsTypeOver K (con k ts) = (k < K) × AreTypesOver K ts
  IsTypeOver K (arrow a b) = IsTypeOver K a × IsTypeOver K b

  pub AreTypesOver : ℕ → Tys → Type 0
  AreTypesOver K no_types = Unit {0}
  AreTypesOver K (types t ts) = IsTypeOver K t × AreTypesOver K ts

abbrev pub AreListedOver : ℕ → List Ty → Type 0
AreListedOver K [] = Unit {0}
AreListedOver K (t ∷ ts) = IsTypeOver K t × AreListedOver K ts

abbrev pub IsAtomOver : (kinds constants : ℕ) → Atom → Type 0
IsAtomOver K C (constant c ts) = (c < C) × AreListedOver K ts
IsAtomOver K C (integer z) = Unit {0}
IsAtomOver K C (text s) = Unit {0}
IsAtomOver K C (eigen k) = Unit {0}
IsAtomOver K C (logic x l) = ⊥
IsAtomOver K C (param k T) = IsTypeOver K T

abbrev pub IsTermOver : (kinds constants : ℕ) → Term → Type 0
IsTermOver K C (index i) = Unit {0}
IsTermOver K C (atom a) = IsAtomOver K C a
IsTermOver K C (abs b) = IsTermOver K C b
IsTermOver K C (app t u) = IsTermOver K C t × IsTermOver K C u

abbrev pub AreFormulasOver : (kinds constants : ℕ) → List ClauseFormula → Type 0
AreFormulasOver K C [] = Unit {0}
AreFormulasOver K C (D ∷ Ds) = IsTermOver K C D.formula × AreFormulasOver K C Ds

-- the clauses of a module hold no other kinds and constants than those of the language and those that it sees
abbrev pub HoldsWhatItSees : Module → Type 0
HoldsWhatItSees m = AreFormulasOver (8 + length m.signature.kinds.items) (32 + length m.signature.constants.items) (clauses_in m)

abbrev pub HoldWhatTheySee : List Module → Type 0
HoldWhatTheySee modules = (k : ℕ) (m : Module) → slice_get modules k ≡ Some m → HoldsWhatItSees m

-- the types of the atoms of a module's text: those of the language and of the names that it sees
abbrev pub types_in : Signature → Atom → Option Ty
types_in sig a = atom_type (record { declared = declared_schemes sig; eigens = []; variables = λ x l. None }) a

-- the clauses of a module have the type `o`
abbrev pub HasTypedClauses : Module → Type 0
HasTypedClauses m = EachOf (λ f. HasType (types_in m.signature) [] f.formula o_type) (clauses_in m)

abbrev pub HaveTypedClauses : List Module → Type 0
HaveTypedClauses modules = (k : ℕ) (m : Module) → slice_get modules k ≡ Some m → HasTypedClauses m

-- what they are flattened to is typed, whatever constants head clauses
abbrev pub FlattensTyped : Module → Type 0
FlattensTyped m = (d : ℕ → Option Scheme) (cs : List Clause) → AreFlattened d (clauses_in m) cs → EachOf (IsTypedClause (types_in m.signature)) cs

abbrev pub FlattenTyped : List Module → Type 0
FlattenTyped modules = (k : ℕ) (m : Module) → slice_get modules k ≡ Some m → FlattensTyped m

-- A module whose flattened clauses these are, over the kinds and constants of its object: they are well typed and within the limits of code, and a constant
-- heads clauses of the object exactly where its number in the copy does over these declared types.
pub record IsReadyForCode (d : ℕ → Option Scheme) (m : Module) (o : Object) (copy : linked.Copy) (own : List Clause) : Type 0 where
  pub flat : AreFlattened (object_tables o).constants (clauses_in m) own
  pub known : AreKnownSchemes (object_tables o)
  pub fit : All (IsClause (object_tables o)) own
  pub heads : (k : ℕ) → (is_declared (renumbered 32 copy.constants k) && heads_clauses (d (renumbered 32 copy.constants k))) ≡ (is_declared k && heads_clauses ((object_tables o).constants k))

-- so is the module of each copy
abbrev pub AreReadyForCode : (ℕ → Option Scheme) → List Module → List Copy → List linked.Copy → Type 0
AreReadyForCode d ms [] es = Unit {0}
AreReadyForCode d ms (c ∷ cs) [] = Unit {0}
AreReadyForCode d ms (c ∷ cs) (e ∷ es) = ((m : Module) × (own : List Clause) × (slice_get ms c.member ≡ Some m) × IsReadyForCode d m e.object e own) × AreReadyForCode d ms cs es
