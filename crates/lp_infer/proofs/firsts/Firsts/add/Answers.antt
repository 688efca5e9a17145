use Rattle.std.proofs.Common.{◌∙◌, ap, ◌++◌, ◌∷◌, [], map, arith}
use Rattle.lp_sig.specs.Pieces.{spelled}
use Rattle.lp_infer.specs.Firsts.{number_in}
use Rattle.lp_infer.proofs.FirstPlaces.{one_spot_more, as_many}
use Rattle.lp_infer.proofs.firsts.Firsts.add.Goals as goal

pub returns-clause-firsts : goal.returns-clause-firsts
unfolding number_in
returns-clause-firsts c = λ h.
    one_spot_more c.args.source.now (number_in c.set_number.new.self) c.args.self.now.places.items c.push.new.self.items c.args.spot c.spelled_at.result.now
    (c.in_ok-push.ensures.items ∙ ap (λ v. v.items ++ c.args.spot ∷ []) c.set_number.ensures.places) c.spelled_at.ensures
    (c.in_ok-set_number.ensures.numbers (map (spelled c.args.source.now) c.args.self.now.places.items) (as_many c.args.source.now c.args.self.now.places.items c.len-number.result (omega (arith, c.len-number.ensures, c.args.self.now.places.ok))) h)
