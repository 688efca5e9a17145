use Rattle.std.proofs.Common.{◌≡◌, ◌∷◌, [], length, replicate, sym, ap, arith, w64, to_z, of_z}
use Rattle.std.specs.List.{flat_map}
use Rattle.std.proofs.lemmas.Int.{to_z-of_z}
use Rattle.lp_lemmas.proofs.Results.{on_ok_always}
use Rattle.lp_bytes.specs.Numbers.{spelled_four, spelled_integer}
use Rattle.lp_cert.specs.Spelling.{spelled_type}
use Rattle.lp_cert.proofs.Waits.{with_rest_last, two_then_rest, two_then_as, types_at, counted_so, rest_so, abstraction_waits, application_waits, less_waits, less_than, some_sevens}
use Rattle.lp_cert.proofs.terms.write_part.Goals as goal

pub returns-in-Index-clause-text : goal.returns-in-Index-clause-text
returns-in-Index-clause-text c = rw c.in-Index.is (with_rest_last c.write_numbered.result _ _ _ _ c.write_numbered.ensures)

pub returns-in-Index-clause-less : goal.returns-in-Index-clause-less
returns-in-Index-clause-less c = rw c.in-Index.is (on_ok_always c.write_numbered.result _ (λ some. less_than (0 ∷ spelled_four c.in-Index.index) _ (omega arith)))

pub returns-in-Eigen-clause-text : goal.returns-in-Eigen-clause-text
returns-in-Eigen-clause-text c = rw c.in-Eigen.is (with_rest_last c.write_numbered-in-Eigen.result _ _ _ _ c.write_numbered-in-Eigen.ensures)

pub returns-in-Eigen-clause-less : goal.returns-in-Eigen-clause-less
returns-in-Eigen-clause-less c = rw c.in-Eigen.is (on_ok_always c.write_numbered-in-Eigen.result _ (λ some. less_than (4 ∷ spelled_four c.in-Eigen.level) _ (omega arith)))

pub returns-in-Logic-clause-text : goal.returns-in-Logic-clause-text
returns-in-Logic-clause-text c = rw c.in-Logic.is (with_rest_last c.write_numbered-in-Logic.result _ _ _ _ c.write_numbered-in-Logic.ensures)

pub returns-in-Logic-clause-less : goal.returns-in-Logic-clause-less
returns-in-Logic-clause-less c = rw c.in-Logic.is (on_ok_always c.write_numbered-in-Logic.result _ (λ some. less_than (4 ∷ spelled_four c.in-Logic.id) _ (omega arith)))

pub returns-in_ok-write_numbered-in-Const-clause-text : goal.returns-in_ok-write_numbered-in-Const-clause-text
returns-in_ok-write_numbered-in-Const-clause-text c =
    let head = counted_so _ _ (λ n. 1 ∷ spelled_four n) _ _ c.from.ensures c.in_ok-write_numbered-in-Const.ensures in
    rw c.in-Const.is (two_then_as c.write_types.result _ _ _ _ _ _ _ (ap (flat_map spelled_type) (sym (types_at c.args.bank.now c.in-Const.types.now))) head c.write_types.ensures)

pub returns-in_ok-byte-in-Int-clause-text : goal.returns-in_ok-byte-in-Int-clause-text
returns-in_ok-byte-in-Int-clause-text c =
    let same : to_z w64 (of_z w64 c.in-Int.value) ≡ c.in-Int.value = grind (arith, to_z-of_z) in
    rw c.in-Int.is (two_then_as c.integer.result _ _ _ _ _ _ _ (ap (λ z. spelled_integer z) same) c.in_ok-byte-in-Int.ensures c.integer.ensures)

pub returns-in_ok-byte-in-Text-clause-text : goal.returns-in_ok-byte-in-Text-clause-text
returns-in_ok-byte-in-Text-clause-text c = rw c.in-Text.is (two_then_rest c.long_text.result _ _ _ _ _ _ c.in_ok-byte-in-Text.ensures c.long_text.ensures)

pub returns-in_ok-write_numbered-in-Param-clause-text : goal.returns-in_ok-write_numbered-in-Param-clause-text
returns-in_ok-write_numbered-in-Param-clause-text c = rw c.in-Param.is (two_then_rest c.write_type.result _ _ _ _ _ _ c.in_ok-write_numbered-in-Param.ensures c.write_type.ensures)

pub returns-in_ok-push-in-Abs-clause-text : goal.returns-in_ok-push-in-Abs-clause-text
returns-in_ok-push-in-Abs-clause-text c = rw c.in-Abs.is (rest_so _ _ _ _ _ c.in_ok-byte-in-Abs.ensures (abstraction_waits c.args.bank.now c.in-Abs.body _ _ c.in_ok-push-in-Abs.ensures.items))

pub returns-in_ok-push-in-App-clause-text : goal.returns-in_ok-push-in-App-clause-text
returns-in_ok-push-in-App-clause-text c = rw c.in-App.is (rest_so _ _ _ _ _ c.in_ok-write_applications-in-App.ensures (application_waits c.args.bank.now c.in-App.head c.in-App.arguments.now _ _ _ c.in_ok-push_last_first-in-App.ensures c.in_ok-push-in-App.ensures.items))

pub returns-in_ok-push-in-App-clause-less : goal.returns-in_ok-push-in-App-clause-less
returns-in_ok-push-in-App-clause-less c = rw c.in-App.is (λ some. less_waits (replicate (length c.in-App.arguments.now) 7) _ _ _
    (application_waits c.args.bank.now c.in-App.head c.in-App.arguments.now _ _ _ c.in_ok-push_last_first-in-App.ensures
    c.in_ok-push-in-App.ensures.items) (some_sevens c.in-App.arguments.now _ some))
