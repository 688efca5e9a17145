use Rattle.lp_cert.proofs.Shaped.{function_later, operation_later}
use Rattle.lp_cert.proofs.schemes.put_shape.Goals as goal

pub returns-in_ok-to-in-Function-clause-later : goal.returns-in_ok-to-in-Function-clause-later
returns-in_ok-to-in-Function-clause-later c =
    function_later c.args.bank.now c.put_part-in-Function.new.bank c.put_function.new.bank c.args.types.now c.in-Function.from c.in-Function.to c.in_ok-to-in-Function.to c.put_function.result c.args.shape c.in-Function.is c.in_ok-to-in-Function.ensures.kept c.put_function.ensures.kept
    c.in_ok-to-in-Function.ensures.within c.in_ok-to-in-Function.ensures.later c.put_function.ensures.later

pub returns-in_ok-rest-in-Operation-clause-later : goal.returns-in_ok-rest-in-Operation-clause-later
returns-in_ok-rest-in-Operation-clause-later c =
    operation_later c.args.bank.now c.put_part-in-Operation.new.bank c.put_function-in-Operation.new.bank c.put_function-in-Operation-2.new.bank c.args.types.now c.in-Operation.left c.in-Operation.right c.in-Operation.to c.in_ok-to-in-Operation.to c.in_ok-rest-in-Operation.rest
    c.put_function-in-Operation-2.result c.args.shape c.in-Operation.is c.in_ok-to-in-Operation.ensures.kept c.in_ok-rest-in-Operation.ensures.kept c.put_function-in-Operation-2.ensures.kept
    c.in_ok-to-in-Operation.ensures.within c.in_ok-to-in-Operation.ensures.later c.in_ok-rest-in-Operation.ensures.within c.in_ok-rest-in-Operation.ensures.later c.put_function-in-Operation-2.ensures.later
