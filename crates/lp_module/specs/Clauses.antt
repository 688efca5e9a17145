-- The clauses of a module: for each sentence that is no declaration, in text order, its principal typing, closed by `pi` over its variables.
use Rattle.std.specs.Prelude.{◌≡◌, ℕ, ◌≤◌, Bool, false, List, [], ◌∷◌, Option}
use Rattle.lp_base.specs.declared.limits.TheConstants.{MAX_ARGUMENTS, MAX_CONTRACTIONS, MAX_NODES}
use Rattle.lp_base.specs.declared.place.Spot.{Spot}
use Rattle.lp_calculus.specs.Term.{Term}
use Rattle.lp_calculus.specs.Typing.{Scheme}
use Rattle.lp_calculus.specs.Normal.{nodes}
use Rattle.lp_syntax.specs.declared.text.RawTerm.{RawTerm}
use Rattle.lp_term.specs.Frame.{IsBetaForm}
use Rattle.lp_term.specs.Nodes.{Nodes, tree}
use Rattle.lp_model.specs.Flat.{all_of}
use Rattle.lp_model.specs.declared.program.ClauseFormula.{ClauseFormula}
use Rattle.lp_sig.specs.declared.signature.Signature.{Signature}
use Rattle.lp_infer.specs.Numbering.{AreNumbered, typing_variables}
use Rattle.lp_infer.specs.Texts.{IsPrincipalTyping}
use Rattle.lp_infer.specs.Typing.{Typing}
use Rattle.lp_module.specs.Arguments.{HasManyArguments}
use Rattle.lp_module.specs.Form.{HasNoPart, is_deep, is_wide, is_in_term, is_other, whole}
use Rattle.lp_module.specs.Schemes.{declared_schemes}

-- the beta-normal form of a formula, within the limits
pub record IsShortForm (formula form : Term) : Type 0 where
  pub normal : IsBetaForm MAX_CONTRACTIONS formula form
  pub few : nodes form ≤ MAX_NODES

-- the limits on the beta-normal form of a formula hold, and on its count of type variables
pub record IsWithin (goal : Bool) (type_vars : ℕ) (formula form : Term) : Type 0 where
  pub short : IsShortForm formula form
  pub type_variables : type_vars ≤ MAX_ARGUMENTS
  pub shallow : HasNoPart is_deep (whole goal form)
  pub narrow : HasNoPart is_wide (whole goal form)

-- a formula has the form of a goal or a clause, within the limits: nothing is wrong with any part of its beta-normal form
pub record IsFormed (d : ℕ → Option Scheme) (goal : Bool) (type_vars : ℕ) (formula : Term) : Type 0 where
  pub form : Term
  pub within : IsWithin goal type_vars formula form
  pub positive : HasNoPart is_in_term (whole goal form)
  pub formed : HasNoPart (is_other d) (whole goal form)

-- the principal typing of a sentence over these names, with its count of type variables, which are numbered by first place; as written no head has more than 255 arguments
pub record IsTypedAs (names : Signature) (text : List ℕ) (raw : RawTerm) (typing : Typing) (type_vars : ℕ) : Type 0 where
  pub few : HasManyArguments raw → ⊥
  pub places : List Spot
  pub principal : IsPrincipalTyping names text raw places typing
  pub numbered : AreNumbered 0 (typing_variables typing) type_vars

-- a sentence has a typing; it has one in the form of a clause
abbrev pub HasTyping : Signature → List ℕ → RawTerm → Type 0
HasTyping names text raw = (typing : Typing) × (n : ℕ) × IsTypedAs names text raw typing n

abbrev pub HasForm : Signature → List ℕ → RawTerm → Type 0
HasForm names text raw = (typing : Typing) × (n : ℕ) × IsTypedAs names text raw typing n × IsFormed (declared_schemes names) false n typing.formula

-- A clause is that of a sentence, over these names: the principal typing of the sentence has the form of a clause, and the clause is its formula, closed by `pi` over its variables, the first one outermost.
pub record IsClause (names : Signature) (text : List ℕ) (raw : RawTerm) (b : Nodes) (c : ClauseFormula) : Type 0 where
  pub typing : Typing
  pub typed : IsTypedAs names text raw typing c.type_vars
  pub closed : tree b c.formula.0 ≡ all_of typing.free typing.formula
  pub formed : IsFormed (declared_schemes names) false c.type_vars typing.formula

-- each clause is that of its sentence
abbrev pub AreClauses : Signature → List ℕ → Nodes → List RawTerm → List ClauseFormula → Type 0
AreClauses names text b [] [] = Unit {0}
AreClauses names text b [] (c ∷ cs) = ⊥
AreClauses names text b (raw ∷ raws) [] = ⊥
AreClauses names text b (raw ∷ raws) (c ∷ cs) = IsClause names text raw b c × AreClauses names text b raws cs
