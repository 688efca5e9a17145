use Rattle.std.proofs.Common.{subst, arith}
use Rattle.lp_lemmas.proofs.Results.{on_ok_always, on_ok_both}
use Rattle.lp_lemmas.proofs.Elements.{All_popped}
use Rattle.lp_link.specs.inner.Entering.{IsShort, open_copy}
use Rattle.lp_link.specs.inner.Tabled.{IsLeft}
use Rattle.lp_link.proofs.Popped.{none_popped, one_popped}
use Rattle.lp_link.proofs.linking.leave.Goals as goal

pub returns-in_default-clause-left : goal.returns-in_default-clause-left
returns-in_default-clause-left c = λ o rest e. absurd (none_popped c.args.around.now.items o rest (omega (arith, c.in_default.ensures.cases.0, c.args.around.now.ok)) e)

pub returns-clause-few : goal.returns-clause-few
returns-clause-few c =
    let short = (All_popped IsShort c.args.around.now.items c.pop.new.self.items c.in-Some.open c.in-Some.ensures.items c.requires).1 in
    on_ok_both c.add_copy.result c.add_copy.ensures c.add_copy.ensures (λ left same. let n = left.count in omega (arith, n, short))

pub returns-clause-open : goal.returns-clause-open
returns-clause-open c = on_ok_always c.add_copy.result _ (All_popped IsShort c.args.around.now.items c.pop.new.self.items c.in-Some.open c.in-Some.ensures.items c.requires).0

pub returns-clause-left : goal.returns-clause-left
returns-clause-left c = on_ok_both c.add_copy.result c.add_copy.ensures c.add_copy.ensures (λ left same. λ o rest e.
    let p = one_popped c.args.around.now.items c.pop.new.self.items c.in-Some.open o rest c.in-Some.ensures.items e in
    (p.1, subst (λ x. IsLeft c.args.making.now c.add_copy.new.self c.args.records.now.items c.add_copy.new.records.items (open_copy x)) p.0 left))
