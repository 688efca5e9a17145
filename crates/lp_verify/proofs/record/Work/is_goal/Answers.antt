use Rattle.std.specs.Prelude.{true, ◌&&◌, nat_eq}
use Rattle.lp_calculus.specs.Typing.{o_type}
use Rattle.lp_code.specs.Symbolic.{term_in, equal_types}
use Rattle.lp_verify.specs.inner.Indices.{store}
use Rattle.lp_verify.proofs.TermsMade.{term_known, one_typed, fine_makes}
use Rattle.lp_verify.proofs.record.Work.is_goal.Goals as goal

pub returns : goal.returns
returns c = λ l h s b k e f v.
    let x = c.args.types.now in
    let m = store x l in
    let T = (term_in s.now c.args.goal).type in
    let t = term_known m c.args.self.now h s c.args.goal c.term_in.result k c.term_in.ensures in
    fine_makes m (nat_eq c.term_in.result.of.0 x.proposition.0) (equal_types T o_type && true) b c.fine_where.result (one_typed x c.term_in.result.of x.proposition T o_type t.1 k.of_head.constants.basics.proposition) (c.fine_where.ensures m b e f v)
