-- The clauses of a program whose bank has grown.
use Rattle.std.proofs.Common.{◌≡◌, ◌<◌, List, [], ◌∷◌, map, length, refl, ap, ◌∙◌}
use Rattle.std.proofs.lemmas.List.Elements.{All-head, All-tail}
use Rattle.lp_term.specs.Nodes.{Nodes, Extends}
use Rattle.lp_term.proofs.Trees.{extends-trans}
use Rattle.lp_model.specs.Readings.{formula_of}
use Rattle.lp_model.specs.declared.program.ClauseFormula as code
use Rattle.lp_module.specs.Sentences.{AreWithin}
use Rattle.lp_build.specs.declared.build.Built.{Built}
use Rattle.lp_build.specs.declared.sources.Sources.{Sources}
use Rattle.lp_load.specs.Loaded.{IsBuiltFrom}
use Rattle.lp_solve.specs.Sources.{source_clauses}

formulas_later : (b c : Nodes) (ks : List code.ClauseFormula) → Extends b c → AreWithin b ks → map (formula_of c) ks ≡ map (formula_of b) ks
formulas_later b c [] e w = refl
formulas_later b c (k ∷ ks) e w = λ i. record {
  type_vars = k.type_vars;
  formula = e.same_terms k.formula.0
      (All-head (λ k. k.formula.0 < length b.terms) k ks w) i;
} ∷ formulas_later b c ks e (All-tail (λ k. k.formula.0 < length b.terms) k ks w) i

pub clauses_read : (sources : Sources) (built : Built) (p : IsBuiltFrom sources built) (b : Nodes) → Extends built.assembled.program.bank b → map
    (formula_of b) built.assembled.program.clauses.items ≡ source_clauses p
clauses_read sources built p b e =
    let first = p.is.program.program in
    ap (λ ks. map (formula_of b) ks.items) p.grown.clauses ∙
    formulas_later _ b _ (extends-trans _ built.assembled.program.bank b p.grown.bank e) first.clauses ∙ first.clause_list
