use Rattle.std.proofs.Common.{◌≡◌, sym, ap, ◌∙◌, arith, w64, to_z, of_z}
use Rattle.std.proofs.lemmas.Int.{to_z-of_z}
use Rattle.lp_plain.specs.declared.head.Key.TheVariants.{Number}
use Rattle.lp_plain.specs.Candidates.{same_keys}
use Rattle.lp_plain.proofs.head.same_key.Goals as goal

pub returns-in-Constant-clause-same : goal.returns-in-Constant-clause-same
returns-in-Constant-clause-same c = c.is_constant.ensures.same c.args.bank.now ∙ ap (λ z. same_keys c.args.bank.now z c.args.other) (sym c.in-Constant.is)

pub returns-in-Number-clause-same : goal.returns-in-Number-clause-same
returns-in-Number-clause-same c =
    let same : to_z w64 (of_z w64 c.in-Number.value) ≡ c.in-Number.value = grind (arith, to_z-of_z) in
    c.is_number.ensures.same c.args.bank.now ∙ ap (λ z. same_keys c.args.bank.now (Number z) c.args.other) same ∙ ap (λ z. same_keys c.args.bank.now z c.args.other) (sym c.in-Number.is)

pub returns-in-Eigen-clause-same : goal.returns-in-Eigen-clause-same
returns-in-Eigen-clause-same c = c.is_eigen.ensures.same c.args.bank.now ∙ ap (λ z. same_keys c.args.bank.now z c.args.other) (sym c.in-Eigen.is)
