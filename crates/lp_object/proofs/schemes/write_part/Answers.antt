use Rattle.std.proofs.Common.{◌∷◌, arith}
use Rattle.lp_lemmas.proofs.Results.{on_ok_always}
use Rattle.lp_bytes.specs.Numbers.{spelled_one}
use Rattle.lp_bytes.proofs.Lengthened.{more_then}
use Rattle.lp_object.specs.Numbers.{spelled_number}
use Rattle.lp_object.proofs.Writes.{with_rest_last, rest_so, on_ok_so, counted_so, less_than, kind_waits, kind_less, arrow_waits, arrow_less}
use Rattle.lp_object.proofs.schemes.write_part.Goals as goal

pub returns-in-Var-clause-text : goal.returns-in-Var-clause-text
returns-in-Var-clause-text c = rw c.in-Var.is (with_rest_last c.write_variable.result _ _ _ _ c.write_variable.ensures)

pub returns-in-Var-clause-less : goal.returns-in-Var-clause-less
returns-in-Var-clause-less c = rw c.in-Var.is (on_ok_always c.write_variable.result _ (less_than (0 ∷ spelled_one c.in-Var.variable) _ (omega arith)))

pub returns-in-Param-clause-text : goal.returns-in-Param-clause-text
returns-in-Param-clause-text c = rw c.in-Param.is (with_rest_last c.write_variable-in-Param.result _ _ _ _ c.write_variable-in-Param.ensures)

pub returns-in-Param-clause-less : goal.returns-in-Param-clause-less
returns-in-Param-clause-less c = rw c.in-Param.is (on_ok_always c.write_variable-in-Param.result _ (less_than (0 ∷ spelled_one c.in-Param.variable) _ (omega arith)))

pub returns-in_ok-write_number-in-Con-clause-text : goal.returns-in_ok-write_number-in-Con-clause-text
returns-in_ok-write_number-in-Con-clause-text c = let head = more_then _ _ _ _ _ c.in_ok-byte-in-Con.ensures
    (counted_so (λ n. spelled_number c.args.width n) _ _ _ _ c.from.ensures c.in_ok-write_number-in-Con.ensures) in rw c.in-Con.is
    (on_ok_so c.push_last_first.result _ _ (λ e. rest_so _ _ _ _ _ head (kind_waits c.args.width c.args.bank.now c.in-Con.kind c.in-Con.arguments.now
    _ _ e)) c.push_last_first.ensures)

pub returns-in_ok-write_number-in-Con-clause-less : goal.returns-in_ok-write_number-in-Con-clause-less
returns-in_ok-write_number-in-Con-clause-less c = rw c.in-Con.is (on_ok_so c.push_last_first.result _ _ (λ e. kind_less c.args.width c.args.bank.now c.in-Con.kind c.in-Con.arguments.now _ _ e) c.push_last_first.ensures)

pub returns-in_ok-push-in-Arrow-2-clause-text : goal.returns-in_ok-push-in-Arrow-2-clause-text
returns-in_ok-push-in-Arrow-2-clause-text c = rw c.in-Arrow.is (rest_so _ _ _ _ _ c.in_ok-byte-in-Arrow.ensures (arrow_waits c.args.width c.args.bank.now c.in-Arrow.from c.in-Arrow.to _ _ _ c.in_ok-push-in-Arrow.ensures.items c.in_ok-push-in-Arrow-2.ensures.items))

pub returns-in_ok-push-in-Arrow-2-clause-less : goal.returns-in_ok-push-in-Arrow-2-clause-less
returns-in_ok-push-in-Arrow-2-clause-less c = rw c.in-Arrow.is (arrow_less c.args.width c.args.bank.now c.in-Arrow.from c.in-Arrow.to _ _ _ c.in_ok-push-in-Arrow.ensures.items c.in_ok-push-in-Arrow-2.ensures.items)
