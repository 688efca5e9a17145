use Rattle.std.proofs.Common.{◌∙◌}
use Rattle.std.specs.Prelude.{true, ◌&&◌}
use Rattle.lp_code.specs.Symbolic.{term_in, equal_types}
use Rattle.lp_verify.specs.inner.Indices.{store}
use Rattle.lp_verify.proofs.TermsMade.{term_known, both_typed, fine_makes}
use Rattle.lp_verify.proofs.record.Work.have_type.Goals as goal

pub returns : goal.returns
returns c = λ l h s T b k t e f n.
    let x = c.args.types.now in
    let m = store x l in
    let w = c.args.self.now in
    let L = (term_in s.now c.args.left).type in
    let R = (term_in s.now c.args.right).type in
    let u = term_known m w h s c.args.left c.term_in.result k c.term_in.ensures in
    let v = term_known m w h s c.args.right c.term_in-2.result k c.term_in-2.ensures in
    fine_makes m c.both.result (equal_types L T && (equal_types R T && true)) b c.fine_where.result (c.both.ensures ∙ both_typed x c.term_in.result.of c.term_in-2.result.of c.args.of L R T u.1 v.1 t) (c.fine_where.ensures m b e f n)
