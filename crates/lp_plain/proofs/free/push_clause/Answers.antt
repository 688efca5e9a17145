use Rattle.std.proofs.Common.{◌≡◌, length, map, sym, ap, ◌∙◌, ◌+◌, arith}
use Rattle.std.proofs.lemmas.List.{length-map}
use Rattle.lp_term.specs.Nodes.{type_tree, tree}
use Rattle.lp_model.specs.Flat.{clause}
use Rattle.lp_model.specs.Flattened.{clause_of, goals_of}
use Rattle.lp_normal.proofs.Meanings.{clause_is}
use Rattle.lp_plain.proofs.Collects.{clause_split}
use Rattle.lp_plain.proofs.free.push_clause.Goals as goal

pub returns : goal.returns
returns c = λ b.
    let x = c.args.clause.now in
    let vars_counted : c.len.result ≡ length x.vars.items = omega (arith, c.len.ensures, x.vars.ok) in
    clause_split b c.args.depth c.in_ok-inner.inner x.type_vars (clause_of b x) c.args.left.now.items c.push.new.self.items c.push-2.new.self.items (map (λ T. type_tree b T.0) x.vars.items) x.head c.as_slice.result
    (clause_is b x ∙ (λ i. clause x.type_vars (map (λ T. type_tree b T.0) x.vars.items) (tree b x.head.0) (goals_of b (sym c.as_slice.ensures.value i))))
    (c.in_ok-inner.ensures ∙ ap (λ n. c.args.depth + n) (vars_counted ∙ sym (length-map x.vars.items (λ T. type_tree b T.0))))
    c.in_ok-push.ensures.items c.in_ok-push-2.ensures.items
