use Rattle.std.proofs.Common.{sym, ap, ◌∙◌}
use Rattle.lp_calculus.specs.Types.{con, tys}
use Rattle.lp_object.specs.Reading.{with_type_top}
use Rattle.lp_object.specs.inner.Parts.{type_top_of, types_in}
use Rattle.lp_object.proofs.Stacked.{kind_on}
use Rattle.lp_object.proofs.schemes.put_part.Goals as goal

pub returns-in_ok-push-in-Con-clause-made : goal.returns-in_ok-push-in-Con-clause-made
returns-in_ok-push-in-Con-clause-made c = λ ts stand b y.
    kind_on _ _ c.in_ok-made-in-Con.ensures.kept c.args.stack.now.items c.in_ok-arguments-in-Con.arguments.items c.pop_arguments.new.stack.items _ c.in_ok-made-in-Con.made c.in-Con.kind c.in-Con.count ts
    c.in_ok-arguments-in-Con.ensures.taken c.in_ok-arguments-in-Con.ensures.left c.in_ok-push-in-Con.ensures.items c.in_ok-made-in-Con.ensures.within
    (c.in_ok-made-in-Con.ensures.tree ∙ ap (λ ids. con c.in-Con.kind (tys (types_in c.args.bank.now ids))) c.as_slice.ensures.value) stand b y
    ∙ sym (ap (λ p. with_type_top (type_top_of p) ts) c.in-Con.is)
