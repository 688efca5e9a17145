use Rattle.std.proofs.Common.{ap, arith}
use Rattle.std.proofs.lemmas.List.{nil_from_length}
use Rattle.lp_module.proofs.Adding.{copy_left}
use Rattle.lp_module.proofs.copies.Making.leave.Goals as goal

pub behind-self-requires-clause-kinds : goal.behind-self-requires-clause-kinds
behind-self-requires-clause-kinds c = let e = ap (λ h. h.kinds) c.in_ok-add_copy-in-Some.ensures.clauses.next in let r = c.requires.kinds c.in-Some.copy c.pop.new.self.items c.in-Some.ensures.items in omega (arith, e, r)

pub behind-self-requires-clause-constants : goal.behind-self-requires-clause-constants
behind-self-requires-clause-constants c = let e = ap (λ h. h.constants) c.in_ok-add_copy-in-Some.ensures.clauses.next in let r = c.requires.constants c.in-Some.copy c.pop.new.self.items c.in-Some.ensures.items in omega (arith, e, r)

pub returns : goal.returns
returns c = copy_left c.args.self.now c.add_copy.new.self c.behind-self.result c.args.around.now.items c.pop.new.self.items c.in-Some.copy c.in-Some.ensures.items c.in_ok-add_copy-in-Some.ensures.clauses c.in_ok-add_copy-in-Some.ensures.names c.behind-self.ensures

pub unreachable-requires : goal.unreachable-requires
unreachable-requires c = c.requires.some (nil_from_length c.args.around.now.items (omega (arith, c.in-None.ensures.cases.0, c.args.around.now.ok)))
