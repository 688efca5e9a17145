use Rattle.std.proofs.Common.{◌∙◌, ◌<◌, length, sym, ap, subst, ◌++◌, ◌∷◌, []}
use Rattle.std.specs.Prelude.{All}
use Rattle.lp_term.specs.Nodes.{type_tree}
use Rattle.std.proofs.lemmas.List.Elements.{All-append}
use Rattle.lp_lemmas.proofs.Elements.{All_reverse}
use Rattle.lp_type_unify.proofs.Stacks.{parts_known, looked_con, looked_arrow}
use Rattle.lp_type_unify.proofs.looking.look.Goals as goal

pub returns-in_ok-push_reversed-in-Con-clause-stacked : goal.returns-in_ok-push_reversed-in-Con-clause-stacked
returns-in_ok-push_reversed-in-Con-clause-stacked c =
    let n = length c.args.bank.now.types in
    let ids = c.in-Con.ids.now in
    subst (λ l. All (λ t. t.0 < n) l) (sym c.in_ok-push_reversed-in-Con.ensures)
    (All-append (λ t. t.0 < n) c.args.stack.now.items _ c.requires.stacked
    (All_reverse (λ t. t.0 < n) ids (parts_known n c.args.top.0 ids c.requires.known c.in-Con.ensures.older)))

pub returns-in_ok-push_reversed-in-Con-clause-looked : goal.returns-in_ok-push_reversed-in-Con-clause-looked
returns-in_ok-push_reversed-in-Con-clause-looked c = λ θ l.
    looked_con c.args.variable _ (type_tree c.args.bank.now) θ _ c.in-Con.ids.now c.args.stack.now.items c.push_reversed.new.stack.items c.in-Con.ensures.tree c.in_ok-push_reversed-in-Con.ensures

pub returns-in_ok-push-in-Arrow-2-clause-looked : goal.returns-in_ok-push-in-Arrow-2-clause-looked
returns-in_ok-push-in-Arrow-2-clause-looked c = λ θ l.
    looked_arrow c.args.variable (type_tree c.args.bank.now) θ _ c.in-Arrow.left c.in-Arrow.right c.args.stack.now.items c.push-in-Arrow.new.self.items c.in-Arrow.ensures.tree
    (c.in_ok-push-in-Arrow-2.ensures.items ∙ ap (λ l. l ++ c.in-Arrow.left ∷ []) c.in_ok-push-in-Arrow.ensures.items)
