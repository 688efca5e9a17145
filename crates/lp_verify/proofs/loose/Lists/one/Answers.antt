use Rattle.std.proofs.Common.{◌∙◌, ◌++◌, ◌∷◌, [], ap, arith}
use Rattle.lp_verify.specs.declared.loose.Entry.{Entry}
use Rattle.lp_verify.proofs.LooseSeen.{one_put}
use Rattle.lp_verify.proofs.loose.Lists.one.Goals as goal

pub returns-clause-one : goal.returns-clause-one
returns-clause-one c = λ k T typed.
    let e : Entry = record { index = c.from.result; of = c.args.of } in
    let fits = c.ranges.index.fits in
    one_put k c.args.self.now c.put.new.self c.push.new.self c.in_ok-loose.loose e c.args.index T (omega (arith, fits)) (c.in_ok-push.ensures.items ∙ ap (λ l. l ++ e ∷ []) c.new-entries.ensures.items) c.from.ensures c.in_ok-loose.ensures.lists c.in_ok-loose.ensures.put typed

pub returns-clause-grow : goal.returns-clause-grow
returns-clause-grow c = (c.push.new.self ∷ [], c.in_ok-loose.ensures.lists)
