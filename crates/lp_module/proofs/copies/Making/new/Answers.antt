use Rattle.std.proofs.Common.{◌<◌, ◌∙◌, sym, ap, subst, length}
use Rattle.std.specs.Prelude.{All}
use Rattle.std.specs.Str.{bytes_eq}
use Rattle.std.specs.Map.{lookup}
use Rattle.std.proofs.lemmas.List.Elements.{All-nil}
use Rattle.lp_module.specs.Numbering.{count_in, or_none}
use Rattle.lp_module.proofs.Numbered.{none_counted, none_numbered}
use Rattle.lp_module.proofs.copies.Making.new.Goals as goal

pub returns-clause-made : goal.returns-clause-made
unfolding count_in
returns-clause-made c = (
  subst (All (λ x. x.formula.0 < length c.new.result.terms)) (sym c.new-3.ensures.items) (All-nil (λ x. x.formula.0 < length c.new.result.terms)),
  ap length (c.new-2.ensures.items) ∙ sym (ap length c.new-5.ensures.items),
  none_counted (count_in c.new-6.result) c.new-4.result.items c.new-4.ensures.items (λ name. ap (λ es. or_none (lookup (λ k. bytes_eq name k.items) es)) c.new-6.ensures.empty),
  none_numbered c.new-4.result.items c.new-4.ensures.items,
  none_counted (count_in c.new-7.result) c.new-5.result.items c.new-5.ensures.items (λ name. ap (λ es. or_none (lookup (λ k. bytes_eq name k.items) es)) c.new-7.ensures.empty),
  none_numbered c.new-5.result.items c.new-5.ensures.items,
  subst (All (λ d. d.scheme.0 < length c.new.result.types)) (sym c.new-2.ensures.items) (All-nil (λ d. d.scheme.0 < length c.new.result.types)),
)

pub returns-clause-named : goal.returns-clause-named
returns-clause-named c = (c.new-4.ensures.items, c.new-5.ensures.items, c.new-2.ensures.items)
