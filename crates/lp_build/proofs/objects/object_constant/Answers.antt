use Rattle.std.proofs.Common.{◌∙◌, ap, sym, refl, subst}
use Rattle.lp_term.specs.Memo.{AreMade}
use Rattle.lp_term.specs.Nodes.{type_tree}
use Rattle.lp_term.specs.Same.{same_map}
use Rattle.lp_term.proofs.MapLaws.{same_is_map, same_type}
use Rattle.lp_build.proofs.objects.object_constant.Goals as goal

pub returns-clause-constant : goal.returns-clause-constant
returns-clause-constant c = λ made later grown. record {
  name = c.in_ok-name.ensures.items ∙ c.as_slice.ensures.value;
  variables = refl;
  scheme =
      let from = c.args.signature.now.bank in
      let read = subst (λ b. AreMade same_map b c.args.bank.now c.args.changed.now) (sym c.bank.ensures) made in
      grown.same_types c.in_ok-scheme.scheme.0 c.in_ok-scheme.ensures.within
      ∙ c.in_ok-scheme.ensures.made same_map (same_is_map _ _) read
      ∙ same_type (type_tree c.bank.result.now c.args.entry.now.scheme.0)
      ∙ ap (λ b. type_tree b c.args.entry.now.scheme.0) c.bank.ensures;
  fixity = rw c.as_slice-2.ensures.value at c.fixity_of-fixity.ensures;
}

pub returns-clause-memo : goal.returns-clause-memo
returns-clause-memo c = λ made.
    subst (λ b. AreMade same_map b c.copy_type.new.to c.copy_type.new.self) c.bank.ensures
    (c.in_ok-scheme.ensures.memo same_map (same_is_map _ _) (subst (λ b. AreMade same_map b c.args.bank.now c.args.changed.now) (sym c.bank.ensures) made))
