use Rattle.std.proofs.Common.{◌∙◌}
use Rattle.lp_calculus.specs.Typing.{o_type}
use Rattle.lp_code.specs.Symbolic.{terms_in, applied_type}
use Rattle.lp_code.specs.Rules.{has_type, built_types}
use Rattle.lp_verify.specs.inner.Indices.{store}
use Rattle.lp_verify.proofs.TermsMade.{terms_alike, built_same, fine_makes}
use Rattle.lp_verify.proofs.record.Work.is_call.Goals as goal

pub returns : goal.returns
returns c = λ l h s T b same basics set t e f v.
    let x = c.args.types.now in
    let m = store x l in
    let bs = terms_in s.now c.args.terms.now in
    let a = terms_alike m c.args.self.now.terms s c.args.terms.now c.as_slice.result.now same (c.as_slice.ensures.value ∙ c.in_ok-terms.ensures) set in
    let p = applied_type T (built_types bs) in
    let o = c.applied_type-goal.ensures T (built_types bs) t (built_same m c.as_slice.result.now bs a) in
    fine_makes m c.has_type-holds.result (has_type p o_type) b c.fine_where.result (c.has_type-holds.ensures x p o_type o basics.proposition) (c.fine_where.ensures m b e f v)
