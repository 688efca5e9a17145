use Rattle.std.proofs.Common.{◌∙◌, ◌++◌, ◌∷◌, [], sym, ap, subst}
use Rattle.lp_calculus.specs.Types.{arrow}
use Rattle.lp_term.specs.Nodes.{Extends, type_tree}
use Rattle.lp_infer.specs.Copies.{IsType}
use Rattle.lp_infer.proofs.Acting.{apply_acts}
use Rattle.lp_infer.proofs.generate.Typing.apply.Goals as goal

pub returns : goal.returns
returns c =
    let M = c.in_ok-id.ensures in
    let G = M.grown in
    let q = c.in_ok-equate.ensures in
    apply_acts c.args.self.now c.new_variable.new.self _ c.in-Some-pop.head c.in-Some.argument c.in_ok-id.id c.in_ok-arrow.arrow c.pop-2.new.self.items c.pop.new.self.items c.in-Some.ensures.items c.in-Some-pop.ensures.items G.kept M.is
    (subst (Extends c.new_variable.new.self.types) (sym q.types) c.put_arrow.ensures.kept)
    (subst (λ b. IsType b c.in_ok-arrow.arrow (arrow (type_tree c.new_variable.new.self.types c.in-Some.argument.0)
    (type_tree c.new_variable.new.self.types c.in_ok-id.id.0))) (sym q.types) (c.in_ok-arrow.ensures.within, c.in_ok-arrow.ensures.tree))
    (q.pairs ∙ ap (λ v. v.items ++ (record { left = c.in-Some-pop.head; right = c.in_ok-arrow.arrow }) ∷ []) G.pairs) (c.in_ok-push.ensures.items ∙ ap (λ v. v.items ++ c.in_ok-id.id ∷ []) (q.stack ∙ G.stack)) (q.context ∙ G.context) (q.next ∙ G.next) (q.wanted ∙ G.wanted)
