-- Refusals of a query, and of the names that are shown.
use Rattle.std.proofs.Common.{ℕ, List}
use Rattle.lp_query.specs.declared.fault.AskRefusal.{AskRefusal}
use Rattle.lp_query.specs.declared.fault.AskRefusal.TheVariants.{Lex, Syntax, Infer, Form, Limit, Write, Memory, NotThere}
use Rattle.lp_query.specs.Faults.{IsOfQuery, IsNotThere, IsShownRefusal}

pub of_query : (text : List ℕ) (names shown : List (List ℕ)) (e : AskRefusal) → IsOfQuery text e → IsShownRefusal text names shown e
of_query text names shown (Lex f) h = h
of_query text names shown (Syntax f) h = tt
of_query text names shown (Infer f) h = tt
of_query text names shown (Form f) h = tt
of_query text names shown (Limit l) h = tt
of_query text names shown Write h = h
of_query text names shown Memory h = tt
of_query text names shown (NotThere n) h = absurd h

pub of_names : (text : List ℕ) (names shown : List (List ℕ)) (e : AskRefusal) → IsNotThere names shown e → IsShownRefusal text names shown e
of_names text names shown (Lex f) h = absurd h
of_names text names shown (Syntax f) h = tt
of_names text names shown (Infer f) h = tt
of_names text names shown (Form f) h = tt
of_names text names shown (Limit l) h = tt
of_names text names shown Write h = h
of_names text names shown Memory h = tt
of_names text names shown (NotThere n) h = h
