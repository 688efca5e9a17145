-- A uniform proof, written out: of `pi x\ (q x => q x)` from no clauses.
use Rattle.std.proofs.Common.{[], ◌∷◌, refl, arith, inl}
use Rattle.lp_calculus.specs.Term.{Term, index, atom, abs, eigen}
use Rattle.lp_calculus.specs.Convert.{same, back, here, by_beta}
use Rattle.lp_calculus.specs.Typing.{o_type}
use Rattle.lp_standard.specs.Connectives.{pi_of}
use Rattle.lp_proof_laws.specs.Worked.{kind, on, impl, one_predicate}
use Rattle.lp_model.specs.Proofs.{IsFormula, Conv, All, Assume, Back, FHit, PlainlyProvable}

abbrev step : Term
step = impl (on 32 (atom (eigen 1))) (on 32 (atom (eigen 1)))

step_formula : IsFormula one_predicate (kind 8 ∷ []) step
step_formula = record {
  typed = (o_type, (o_type, refl, (kind 8, refl, refl)), (kind 8, refl, refl));
  closed = ((tt, (tt, omega arith)), (tt, omega arith));
}

pub hypothetical : PlainlyProvable one_predicate [] [] (pi_of (kind 8) (abs (impl (on 32 (index 0)) (on 32 (index 0)))))
hypothetical = record {
  proof = All (Conv step (Assume (Back 0 [] FHit)));
  holds = (
    kind 8,
    abs (impl (on 32 (index 0)) (on 32 (index 0))),
    refl,
    (step_formula, back (here (by_beta _ _)) (same _), (_, _, inl refl, (_, refl, refl, tt, omega arith, same _))),
  );
}
