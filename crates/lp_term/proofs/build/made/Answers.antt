use Rattle.lp_term.proofs.Rebuilding.{type_right_at, term_right_at}
use Rattle.lp_term.specs.inner.Reading.{read_of}
use Rattle.lp_term.proofs.build.made.Goals as goal

pub returns-in_ok-made-in-Term-clause-right : goal.returns-in_ok-made-in-Term-clause-right
returns-in_ok-made-in-Term-clause-right g c = λ m b x s l M h.
    term_right_at (g.M.Mapping.told c.args.map.now) m b c.args.to.now c.args.done.now c.args.node (read_of c.args.here c.args.from.now c.args.to.now) c.term_rebuilt.new.to c.in-Term.id c.in_ok-made-in-Term.made.0 c.in-Term.is x s l M h
    c.in_ok-made-in-Term.ensures.within c.in_ok-made-in-Term.ensures.tree

pub returns-in_ok-made-in-Type-clause-right : goal.returns-in_ok-made-in-Type-clause-right
returns-in_ok-made-in-Type-clause-right g c = λ m b x s l M h.
    type_right_at (g.M.Mapping.told c.args.map.now) m b c.args.to.now c.args.done.now c.args.node (read_of c.args.here c.args.from.now c.args.to.now) c.type_rebuilt.new.to c.in-Type.id c.in_ok-made-in-Type.made.0 c.in-Type.is x s l M h
    c.in_ok-made-in-Type.ensures.within c.in_ok-made-in-Type.ensures.tree
