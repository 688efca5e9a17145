use Rattle.std.proofs.Common.{sym, ◌∙◌}
use Rattle.std.proofs.lemmas.Bool.{not-true, not-false}
use Rattle.lp_sig.specs.Holding.{body_of}
use Rattle.lp_sig.proofs.Finds.{first_of_two}
use Rattle.lp_sig.proofs.bodies.Bodies.has_other_body.Goals as goal

pub returns-clause-other : goal.returns-clause-other
returns-clause-other c = λ e. (c.in-Some.known, c.in-Some-body.new, sym c.in-Some.ensures, c.in-Some-body.is, c.are_equal.ensures.distinct (not-true c.are_equal.result e))

pub returns-clause-same : goal.returns-clause-same
returns-clause-same c = λ e known new a b l.
    first_of_two (body_of c.args.self.now.bodies.items c.args.place) known c.in-Some.known a (sym c.in-Some.ensures) ∙ c.are_equal.ensures.same (not-false c.are_equal.result e) ∙ first_of_two c.args.body c.in-Some-body.new new c.in-Some-body.is b
