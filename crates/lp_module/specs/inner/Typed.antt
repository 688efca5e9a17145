-- Sentences on the way to clauses: typed, closed and judged.
use Rattle.std.specs.Prelude.{◌≡◌, ◌<◌, ℕ, min, false, List, [], ◌∷◌, ◌++◌, length, All, Option}
use Rattle.lp_calculus.specs.Typing.{Scheme}
use Rattle.lp_syntax.specs.declared.text.RawTerm.{RawTerm}
use Rattle.lp_syntax.specs.declared.text.Sentence.{Sentence}
use Rattle.lp_term.specs.Nodes.{Nodes, tree}
use Rattle.lp_model.specs.Flat.{all_of}
use Rattle.lp_model.specs.declared.program.ClauseFormula.{ClauseFormula}
use Rattle.lp_model.specs.declared.program.Typed.{Typed}
use Rattle.lp_sig.specs.declared.signature.Signature.{Signature}
use Rattle.lp_infer.specs.Numbering.{IsTyped, typing_of}
use Rattle.lp_infer.specs.Refusals.{Stands}
use Rattle.lp_module.specs.Arguments.{HasManyArguments}
use Rattle.lp_module.specs.Clauses.{IsFormed}
use Rattle.lp_module.specs.Refusals.{IsFormFault}
use Rattle.lp_module.specs.Sentences.{said}
use Rattle.lp_module.specs.declared.fault.ModuleFault.{ModuleFault}
use Rattle.lp_module.specs.declared.sentences.TypedSentence.{TypedSentence}

-- the typing of a sentence
pub record IsSentence (names : Signature) (text : List ℕ) (raw : RawTerm) (b : Nodes) (s : TypedSentence) : Type 0 where
  pub first : s.first ≡ raw.first
  pub few : HasManyArguments raw → ⊥
  pub stands : Stands b s.typed
  pub typed : IsTyped names text raw b s.typed

abbrev pub AreSentences : Signature → List ℕ → Nodes → List RawTerm → List TypedSentence → Type 0
AreSentences names text b [] [] = Unit {0}
AreSentences names text b [] (s ∷ ss) = ⊥
AreSentences names text b (raw ∷ raws) [] = ⊥
AreSentences names text b (raw ∷ raws) (s ∷ ss) = IsSentence names text raw b s × AreSentences names text b raws ss

-- the sentences before the rest of the lines were typed
pub record AreTypedBefore (names : Signature) (text : List ℕ) (lines rest : List Sentence) (b : Nodes) (ss : List TypedSentence) : Type 0 where
  pub front : List RawTerm
  pub whole : said lines ≡ front ++ said rest
  pub typed : AreSentences names text b front ss

-- the formula of a sentence, closed by `pi` over its variables
pub record IsClosed (b : Nodes) (t : Typed) (c : ClauseFormula) : Type 0 where
  pub stands : Stands b t
  pub within : c.formula.0 < length b.terms
  pub formula : tree b c.formula.0 ≡ all_of (typing_of b t).free (typing_of b t).formula
  pub type_vars : c.type_vars ≡ min t.type_vars 4294967295

abbrev pub AreClosed : Nodes → List TypedSentence → List ClauseFormula → Type 0
AreClosed b [] [] = Unit {0}
AreClosed b [] (c ∷ cs) = ⊥
AreClosed b (s ∷ ss) [] = ⊥
AreClosed b (s ∷ ss) (c ∷ cs) = IsClosed b s.typed c × AreClosed b ss cs

-- each sentence has the form of a clause
abbrev pub IsFormedIn : (ℕ → Option Scheme) → Nodes → TypedSentence → Type 0
IsFormedIn d b s = IsFormed d false s.typed.type_vars (tree b s.typed.formula.0)

abbrev pub AreStanding : Nodes → List TypedSentence → Type 0
AreStanding b ss = All (λ s. Stands b s.typed) ss

-- one sentence has not the form of a clause, and those before it have
abbrev pub IsFirstUnformed : (ℕ → Option Scheme) → Nodes → List TypedSentence → ModuleFault → Type 0
IsFirstUnformed d b ss e =
    (front : List TypedSentence) × (s : TypedSentence) × (back : List TypedSentence) × (ss ≡ front ++ s ∷ back) × All (IsFormedIn d b) front × IsFormFault d false s.typed.type_vars (tree b s.typed.formula.0) s.first e
