use Rattle.std.proofs.Common.{◌∷◌, [], ◌++◌, refl, sym, subst, ◌∙◌}
use Rattle.lp_code.specs.Symbolic.{Built}
use Rattle.lp_verify.specs.declared.head.HeadSoFar.{HeadSoFar}
use Rattle.lp_verify.specs.inner.FirstNumbers.{IsType, AreTypes}
use Rattle.lp_verify.proofs.HeadTypes.{types_more, no_constant_stays, head_put}
use Rattle.lp_verify.proofs.head.HeadSoFar.add_type.Goals as goal

pub returns-clause-head : goal.returns-clause-head
returns-clause-head c = λ h s t T k old typed takes.
    let x = c.args.types.now in
    let y = c.type_so_far.new.types in
    let p = c.args.self.now in
    let ts = c.push.new.self.items in
    let types : AreTypes x ts t.head_types = subst (λ l. AreTypes x l t.head_types) (sym c.in_ok-push.ensures.items) (subst (AreTypes x (p.types.items ++ c.args.of ∷ [])) (sym takes.0) (types_more x p.types.items c.args.of s.head_types T old.types typed)) in
    let m = c.in_ok-whole.ensures.made h t k old.predicate types (λ n. subst (λ (b : Built). IsType x p.whole b.type) (sym (no_constant_stays h s t p.predicate old.predicate n takes.3)) old.whole) in
    let q : HeadSoFar = record { predicate = p.predicate; count = p.count; types = c.push.new.self; arguments = p.arguments; whole = c.in_ok-whole.whole; left = c.in_ok-whole.whole } in
    (m.0, head_put x y h t q ts c.in_ok-whole.ensures.grow old.predicate old.count refl types (old.arguments ∙ takes.1) takes.2 m.1 refl)
