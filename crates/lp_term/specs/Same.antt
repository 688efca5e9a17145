-- The map that leaves all as it is.
use Rattle.lp_calculus.specs.Types.{var}
use Rattle.lp_calculus.specs.Term.{atom, logic}
use Rattle.lp_term.specs.Mapped.{Map, Told}
use Rattle.lp_term.specs.declared.becomes.TypeChange.{TypeChange}
use Rattle.lp_term.specs.declared.becomes.TermChange.{TermChange}

abbrev pub same_told : Told
same_told = record { kinds = λ k. k; constants = λ k. k; types = λ x. TypeChange.Var x; terms = λ x. TermChange.Stays }

abbrev pub same_map : Map
same_map = record { kinds = λ k. k; constants = λ k. k; types = λ x. var x; terms = λ x l. atom (logic x l) }
