use Rattle.std.proofs.Common.{◌≡◌, ◌∙◌, ap, sym, subst}
use Rattle.lp_term.specs.Memo.{AreMade}
use Rattle.lp_term.specs.Nodes.{type_tree}
use Rattle.lp_term.specs.Same.{same_map}
use Rattle.lp_term.proofs.MapLaws.{same_is_map, same_type}
use Rattle.lp_build.proofs.objects.declared_constant.Goals as goal

pub returns-clause-scheme : goal.returns-clause-scheme
returns-clause-scheme c = λ made later grown.
    let from = c.args.signature.now.bank in
    let e = c.args.entry.now in
    let read = subst (λ b. AreMade same_map b c.args.bank.now c.args.changed.now) (sym c.bank.ensures) made in
    let body : type_tree later c.in_ok-scheme.scheme.0 ≡ type_tree from e.scheme.0 =
    grown.same_types c.in_ok-scheme.scheme.0 c.in_ok-scheme.ensures.within
    ∙ c.in_ok-scheme.ensures.made same_map (same_is_map _ _) read
    ∙ same_type (type_tree c.bank.result.now e.scheme.0)
    ∙ ap (λ b. type_tree b e.scheme.0) c.bank.ensures in
    λ i. record { count = e.type_vars; body = body i }

pub returns-clause-memo : goal.returns-clause-memo
returns-clause-memo c = λ made.
    subst (λ b. AreMade same_map b c.copy_type.new.to c.copy_type.new.self) c.bank.ensures
    (c.in_ok-scheme.ensures.memo same_map (same_is_map _ _) (subst (λ b. AreMade same_map b c.args.bank.now c.args.changed.now) (sym c.bank.ensures) made))
