use Rattle.std.proofs.Common.{◌∙◌, sym, ap, arith, map}
use Rattle.lp_sig.specs.Places.{first_place}
use Rattle.lp_module.specs.Copies.{numbers_of}
use Rattle.lp_module.proofs.Uses.{number_more}
use Rattle.lp_module.proofs.tree.numbers_of.Goals as goal

pub loop-at-preserved : goal.loop-at-preserved
loop-at-preserved c = λ names has.
    number_more names c.args.member.now.uses.items c.loop-at.at c.index.result.now c.in-Some.number c.loop-at.numbers.items c.push.new.self.items (numbers_of names (map (λ u. u.items) c.args.member.now.uses.items))
    (omega (arith, c.loop-at-test.true, c.len-at-end.ensures, c.args.member.now.uses.ok)) c.index.ensures
    (sym c.in-Some.is ∙ c.number.ensures ∙ has c.as_slice.result.now ∙ ap (λ n. first_place n names) c.as_slice.ensures.value) c.in_ok-push-in-Some.ensures.items (c.loop-at.invariant names has)
