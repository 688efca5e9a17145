use Rattle.lp_cert.proofs.Deriving.{constant_moves, some_is}
use Rattle.lp_cert.proofs.Keeping.{constant_none}
use Rattle.lp_cert.proofs.Visiting.{constant_kept}
use Rattle.lp_cert.proofs.typing.Typing.constant.Goals as goal

pub returns-in-Some-clause-moves : goal.returns-in-Some-clause-moves
returns-in-Some-clause-moves c = constant_moves _ c.args.self.now c.closed.new.self c.closed.result _ c.args.number c.args.types.now c.in-Some.of (some_is _ c.in_ok-found.found c.in-Some.of c.in-Some.is c.in_ok-found.ensures.type_is) c.closed.ensures.pushes

pub returns-in-Some-clause-keeps : goal.returns-in-Some-clause-keeps
returns-in-Some-clause-keeps c =
    constant_kept c.args.bank.now _ c.args.self.now c.closed.new.self c.closed.result c.args.number c.args.types.now c.in-Some.of c.in_ok-found.ensures.kept (some_is _ c.in_ok-found.found c.in-Some.of c.in-Some.is c.in_ok-found.ensures.type_is) c.closed.ensures.held

pub returns-in-None-clause-keeps : goal.returns-in-None-clause-keeps
returns-in-None-clause-keeps c = λ y k. constant_none _ c.args.self.now _ c.args.number c.args.types.now (c.in_ok-found.ensures.none c.in-None.is y.constants)
