use Rattle.std.proofs.Common.{[], refl, sym, subst, length, ap}
use Rattle.lp_verify.specs.declared.head.HeadSoFar.{HeadSoFar}
use Rattle.lp_verify.specs.inner.FirstNumbers.{IsType, AreTypes}
use Rattle.lp_code.specs.Steps.{head_built}
use Rattle.lp_verify.proofs.HeadTypes.{head_put}
use Rattle.lp_verify.proofs.head.HeadSoFar.new.Goals as goal

pub returns-clause-head : goal.returns-clause-head
returns-clause-head c = λ h s k predicate types arguments given.
    let x = c.args.types.now in
    let y = c.type_so_far.new.types in
    let none : AreTypes x c.new.result.items s.head_types = subst (λ l. AreTypes x l s.head_types) (sym c.new.ensures.items) (subst (AreTypes x []) (sym types) tt) in
    let m = c.in_ok-whole.ensures.made h s k predicate none (λ n. subst (λ t. IsType x t (head_built h s).type) (sym c.unwrap_or-whole.ensures) (given n)) in
    let q : HeadSoFar = record { predicate = c.args.predicate; count = c.count_of-count.result; types = c.new.result; arguments = 0; whole = c.in_ok-whole.whole; left = c.in_ok-whole.whole } in
    (m.0, head_put x y h s q c.new.result.items c.in_ok-whole.ensures.grow predicate (c.count_of-count.ensures h k.tables predicate) refl none refl (ap length arguments) m.1 refl)
