-- Refusals of a query before its search.
use Rattle.std.specs.Prelude.{◌≡◌, ◌≢◌, ℕ, List, take, min, All, slice_get, Option, Some}
use Rattle.lp_lexer.specs.Lexis.{HasFault}
use Rattle.lp_query.specs.declared.fault.AskRefusal.{AskRefusal}
use Rattle.lp_query.specs.declared.fault.AskRefusal.TheVariants.{Lex, Syntax, Infer, Form, Limit, Write, Memory, NotThere}

-- a fault of tokens is the text's first one; nothing of the query could not be written
abbrev pub IsOfQuery : List ℕ → AskRefusal → Type 0
IsOfQuery text (Lex f) = HasFault text f
IsOfQuery text (Syntax f) = Unit {0}
IsOfQuery text (Infer f) = Unit {0}
IsOfQuery text (Form f) = Unit {0}
IsOfQuery text (Limit l) = Unit {0}
IsOfQuery text Write = ⊥
IsOfQuery text Memory = Unit {0}
IsOfQuery text (NotThere i) = ⊥

-- refusals of the search and of the writing
abbrev pub IsOfWriting : AskRefusal → Type 0
IsOfWriting Write = Unit {0}
IsOfWriting Memory = Unit {0}
IsOfWriting e = ⊥

abbrev pub IsAskRefusal : List ℕ → AskRefusal → Type 0
IsAskRefusal text Write = Unit {0}
IsAskRefusal text e = IsOfQuery text e

-- the first of the names to be shown that is no variable
pub record IsFirstMissing (names shown : List (List ℕ)) (number : ℕ) : Type 0 where
  pub place : ℕ
  pub number_is : number ≡ min place 4294967295
  pub name : List ℕ
  pub there : slice_get shown place ≡ Some name
  pub missing : All (λ n. n ≢ name) names
  -- those in front of it are variables
  pub before : All (λ s. (at : ℕ) × (slice_get names at ≡ Some s)) (take place shown)

-- nothing was written, and no piece failed
abbrev pub IsUnwritten : (old new : Option (List ℕ)) → AskRefusal → Type 0
IsUnwritten old new e = (e ≢ Write) × (new ≡ old)

abbrev pub IsNotThere : (names shown : List (List ℕ)) → AskRefusal → Type 0
IsNotThere names shown (NotThere n) = IsFirstMissing names shown n
IsNotThere names shown Memory = Unit {0}
IsNotThere names shown e = ⊥

-- each of the names to be shown is one of these
abbrev pub AreThere : (names shown : List (List ℕ)) → Type 0
AreThere names shown = All (λ s. (at : ℕ) × (slice_get names at ≡ Some s)) shown

abbrev pub IsShownRefusal : List ℕ → (names shown : List (List ℕ)) → AskRefusal → Type 0
IsShownRefusal text names shown (NotThere n) = IsFirstMissing names shown n
IsShownRefusal text names shown e = IsOfQuery text e
