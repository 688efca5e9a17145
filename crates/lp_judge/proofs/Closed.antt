-- The types and clauses of the program of a module stand in its bank, and its clauses have no loose index.
use Rattle.std.proofs.Common.{ℕ, ◌<◌, List, length, Option, sym, subst, arith}
use Rattle.std.specs.Prelude.{All}
use Rattle.std.proofs.lemmas.List.Elements.{All-weaker}
use Rattle.lp_base.specs.Held.{Held}
use Rattle.lp_term.specs.Nodes.{Nodes, Extends}
use Rattle.lp_term.specs.Spine.{LooseBelow}
use Rattle.lp_model.specs.declared.program.ClauseFormula as code
use Rattle.lp_model.specs.declared.program.Declared.{Declared}
use Rattle.lp_model.specs.declared.program.Typed.{Typed}
use Rattle.lp_module.specs.declared.copies.Assembled.{Assembled}
use Rattle.lp_cert.specs.Inside.{AreDeclaredInside}
use Rattle.lp_cert.specs.Standing.{IsClauseInside}
use Rattle.lp_build.specs.declared.build.Built.{Built}
use Rattle.lp_build.proofs.Closed.{built_stands}
use Rattle.lp_load.specs.Loaded.{HasGrown}
use Rattle.lp_judge.specs.Asked.{IsAskedFrom}

abbrev IsStanding : Assembled → Type 0
IsStanding a = AreDeclaredInside (length a.program.bank.types) a.program.constants.items × All (IsClauseInside a.program.bank) a.program.clauses.items

inside_later : (a b : Nodes) (ds : List Declared) (cs : List code.ClauseFormula) → Extends a b → AreDeclaredInside (length a.types) ds × All
    (IsClauseInside a) cs → AreDeclaredInside (length b.types) ds × All (IsClauseInside b) cs
inside_later a b ds cs grown h = (
  All-weaker (λ d. d.scheme.0 < length a.types) (λ d. d.scheme.0 < length b.types) (λ d l. omega (arith, l, grown.more_types)) ds h.0,
  All-weaker (IsClauseInside a) (IsClauseInside b) (λ c k. (later c k.0, subst (LooseBelow 0 0) (sym (grown.same_terms c.formula.0 k.0)) k.1)) cs h.1,
)
  where
    later : (c : code.ClauseFormula) → c.formula.0 < length a.terms → c.formula.0 < length b.terms
    later c l = omega (arith, l, grown.more_terms)

grown_stands : (a b : Built) → HasGrown a b → IsStanding a.assembled → IsStanding b.assembled
grown_stands a b g h =
    let now = b.assembled.program.bank in
    subst (λ cs. AreDeclaredInside (length now.types) cs.items × All (IsClauseInside now) b.assembled.program.clauses.items) (sym g.constants)
    (subst (λ cs. AreDeclaredInside (length now.types) a.assembled.program.constants.items × All (IsClauseInside now) cs.items) (sym g.clauses)
    (inside_later a.assembled.program.bank now a.assembled.program.constants.items a.assembled.program.clauses.items g.bank h))

-- a program of the texts of a module, on which a query was asked
pub asked_stands : (told : Option Held) (name text : List ℕ) (names : Assembled) (q : Typed) → IsAskedFrom told name text names q
    → AreDeclaredInside (length names.program.bank.types) names.program.constants.items × All (IsClauseInside names.program.bank) names.program.clauses.items
asked_stands told name text names q h =
    let p = h.program.program in
    subst IsStanding h.same (grown_stands p.first h.built p.grown (built_stands h.program.sources p.first p.is))
