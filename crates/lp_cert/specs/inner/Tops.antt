-- The bytes of tops of types and of terms, what has such bytes, and the tops of a type and of a term.
use Rattle.std.specs.Prelude.{◌≡◌, ℕ, ◌<◌, ◌^◌, List, [], ◌∷◌, ◌++◌, Option, Some, ⊤}
use Rattle.lp_calculus.specs.Types.{Ty, Tys, var, param, con, arrow, no_types, types}
use Rattle.lp_calculus.specs.Term.{Term, index, atom, abs, app}
use Rattle.lp_bytes.specs.Numbers.{spelled_four}
use Rattle.lp_cert.specs.Arities.{Counts, count_of_kind}
use Rattle.lp_cert.specs.Reading.{TypeTop, parameter, kind, an_arrow, TermTop, leaf, an_abstraction, an_application}
use Rattle.lp_cert.specs.Spellable.{how_many, IsTerm}
use Rattle.lp_cert.specs.Spelling.{spelled_term}

abbrev pub spelled_type_top : TypeTop → List ℕ
spelled_type_top (parameter v) = 0 ∷ spelled_four v
spelled_type_top (kind k n) = 1 ∷ spelled_four k
spelled_type_top an_arrow = 2 ∷ []

abbrev pub IsTypeTop : Counts → ⊤ → TypeTop → Type 0
IsTypeTop d one (parameter v) = v < 2 ^ 32
IsTypeTop d one (kind k n) = (k < 2 ^ 32) × (count_of_kind d k ≡ Some n)
IsTypeTop d one an_arrow = Unit {0}

abbrev mutual
  pub type_tops : Ty → List TypeTop
  type_tops (var v) = parameter v ∷ []
  type_tops (param v) = parameter v ∷ []
  type_tops (con k ts) = kind k (how_many ts) ∷ tops_of_each ts
  type_tops (arrow a b) = an_arrow ∷ type_tops a ++ type_tops b

  pub tops_of_each : Tys → List TypeTop
  tops_of_each no_types = []
  tops_of_each (types t ts) = type_tops t ++ tops_of_each ts

abbrev pub spelled_term_top : TermTop → List ℕ
spelled_term_top (leaf t) = spelled_term t
spelled_term_top an_abstraction = 6 ∷ []
spelled_term_top an_application = 7 ∷ []

-- a term that is a leaf is read as one
abbrev pub IsLeaf : Counts → Term → Type 0
IsLeaf d (index i) = IsTerm d (index i)
IsLeaf d (atom a) = IsTerm d (atom a)
IsLeaf d (abs t) = ⊥
IsLeaf d (app t u) = ⊥

abbrev pub IsTermTop : Counts → ⊤ → TermTop → Type 0
IsTermTop d one (leaf t) = IsLeaf d t
IsTermTop d one an_abstraction = Unit {0}
IsTermTop d one an_application = Unit {0}

abbrev pub term_tops : Term → List TermTop
term_tops (index i) = leaf (index i) ∷ []
term_tops (atom a) = leaf (atom a) ∷ []
term_tops (abs t) = an_abstraction ∷ term_tops t
term_tops (app t u) = an_application ∷ term_tops t ++ term_tops u
