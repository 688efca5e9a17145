-- What has a spelling: numbers that fit their fields, kinds and constants that are declared, on as many types as they take, and whole proofs.
use Rattle.std.specs.Prelude.{◌≡◌, ℕ, suc, ◌<◌, ◌≤◌, ◌^◌, List, [], ◌∷◌, length, Option, Some}
use Rattle.std.specs.List.{AllByRecursion}
use Rattle.lp_calculus.specs.Types.{Ty, Tys, var, param, con, arrow, no_types, types}
use Rattle.lp_calculus.specs.Term.{Term, Atom, index, atom, abs, app, constant, integer, text, eigen, logic}
use Rattle.lp_calculus.specs.Term as term
use Rattle.lp_bytes.specs.Spellable.{IsInteger, AreWhole}
use Rattle.lp_cert.specs.Written.{Node, converted, trivial, pair, left_side, right_side, witness, general, assuming, equated, counted, back_to, focus_converted, focus_witness, side, premise, hit}
use Rattle.lp_cert.specs.Certified.{Certificate}
use Rattle.lp_cert.specs.Arities.{Counts, count_of_kind, count_of_constant}
use Rattle.lp_cert.specs.Reading.{nodes_below}
use Rattle.lp_cert.specs.declared.nodes.Sort.{Sort}
use Rattle.lp_cert.specs.declared.nodes.Sort.TheVariants as sorts

abbrev pub how_many : Tys → ℕ
how_many no_types = 0
how_many (types t ts) = suc (how_many ts)

-- a type without type variables
abbrev mutual
  pub IsType : Counts → Ty → Type 0
  IsType d (var v) = ⊥
  IsType d (param v) = v < 2 ^ 32
  IsType d (con k ts) = (k < 2 ^ 32) × (count_of_kind d k ≡ Some (how_many ts)) × AreTypes d ts
  IsType d (arrow a b) = IsType d a × IsType d b

  pub AreTypes : Counts → Tys → Type 0
  AreTypes d no_types = Unit {0}
  AreTypes d (types t ts) = IsType d t × AreTypes d ts

abbrev pub IsAtom : Counts → Atom → Type 0
IsAtom d (constant c ts) = (c < 2 ^ 32) × (count_of_constant d c ≡ Some (length ts)) × AllByRecursion (IsType d) ts
IsAtom d (integer z) = IsInteger z
IsAtom d (text s) = length s < 2 ^ 32
IsAtom d (eigen k) = k < 2 ^ 32
IsAtom d (logic v level) = ⊥
IsAtom d (term.param k t) = (k < 2 ^ 32) × IsType d t

-- a term without logic variables
abbrev pub IsTerm : Counts → Term → Type 0
IsTerm d (index i) = i < 2 ^ 32
IsTerm d (atom a) = IsAtom d a
IsTerm d (abs t) = IsTerm d t
IsTerm d (app t u) = IsTerm d t × IsTerm d u

-- a node of this sort
abbrev pub IsNode : Counts → Sort → Node → Type 0
IsNode d sorts.Proof (converted t) = IsTerm d t
IsNode d sorts.Proof trivial = Unit {0}
IsNode d sorts.Proof pair = Unit {0}
IsNode d sorts.Proof left_side = Unit {0}
IsNode d sorts.Proof right_side = Unit {0}
IsNode d sorts.Proof (witness t) = IsTerm d t
IsNode d sorts.Proof general = Unit {0}
IsNode d sorts.Proof assuming = Unit {0}
IsNode d sorts.Proof equated = Unit {0}
IsNode d sorts.Proof counted = Unit {0}
IsNode d sorts.Proof (back_to c ts) = (c < 2 ^ 32) × (length ts < 2 ^ 16) × AllByRecursion (IsType d) ts
IsNode d sorts.Proof (focus_converted t) = ⊥
IsNode d sorts.Proof (focus_witness t) = ⊥
IsNode d sorts.Proof (side s) = ⊥
IsNode d sorts.Proof premise = ⊥
IsNode d sorts.Proof hit = ⊥
IsNode d sorts.Focus (focus_converted t) = IsTerm d t
IsNode d sorts.Focus (focus_witness t) = IsTerm d t
IsNode d sorts.Focus (side s) = s ≤ 1
IsNode d sorts.Focus premise = Unit {0}
IsNode d sorts.Focus hit = Unit {0}
IsNode d sorts.Focus (converted t) = ⊥
IsNode d sorts.Focus trivial = ⊥
IsNode d sorts.Focus pair = ⊥
IsNode d sorts.Focus left_side = ⊥
IsNode d sorts.Focus right_side = ⊥
IsNode d sorts.Focus (witness t) = ⊥
IsNode d sorts.Focus general = ⊥
IsNode d sorts.Focus assuming = ⊥
IsNode d sorts.Focus equated = ⊥
IsNode d sorts.Focus counted = ⊥
IsNode d sorts.Focus (back_to c ts) = ⊥

pub record IsCertificate (d : Counts) (c : Certificate) : Type 0 where
  pub few_types : length c.instance.types < 2 ^ 32
  pub types_fit : AllByRecursion (IsType d) c.instance.types
  pub few_values : length c.instance.values < 2 ^ 32
  pub values_fit : AllByRecursion (IsTerm d) c.instance.values
  pub nodes_fit : AreWhole nodes_below (IsNode d) (sorts.Proof ∷ []) c.nodes

abbrev pub AreCertificates : Counts → List Certificate → Type 0
AreCertificates d cs = (length cs < 2 ^ 32) × AllByRecursion (IsCertificate d) cs
