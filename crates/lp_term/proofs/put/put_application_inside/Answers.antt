use Rattle.std.proofs.Common.{◌∙◌, ap, map}
use Rattle.lp_calculus.specs.Term.{apply}
use Rattle.lp_term.specs.Nodes.{tree}
use Rattle.lp_term.proofs.Within.{application_fits_in_place, trees_in_place, is_last}
use Rattle.lp_term.proofs.put.put_application_inside.Goals as goal

pub put_term-requires-2 : goal.put_term-requires-2
put_term-requires-2 c =
    let w = is_last c.args.bank.now.terms c.put_term.new.self.terms _ c.in_ok-other.other.0 c.in_ok-other.ensures.number c.in_ok-other.ensures.terms in
    let h = c.term_below-top.ensures c.args.bank.now c.put_term.new.self c.in_ok-other.ensures.kept c.term_count-count.ensures.count w c.in_ok-other.ensures.tree in
    let a = c.in_ok-all.ensures c.args.bank.now c.put_term.new.self c.in_ok-other.ensures.kept c.term_count-count.ensures.count w c.in_ok-other.ensures.tree in
    application_fits_in_place c.args.bank.now c.put_term.new.self c.term_below-top.result c.args.args.now c.in_ok-all.all.items c.as_slice.result.now h.0 a c.as_slice.ensures.value c.requires

pub returns-clause-tree : goal.returns-clause-tree
returns-clause-tree c =
    let w = is_last c.args.bank.now.terms c.put_term.new.self.terms _ c.in_ok-other.other.0 c.in_ok-other.ensures.number c.in_ok-other.ensures.terms in
    let h = c.term_below-top.ensures c.args.bank.now c.put_term.new.self c.in_ok-other.ensures.kept c.term_count-count.ensures.count w c.in_ok-other.ensures.tree in
    let a = c.in_ok-all.ensures c.args.bank.now c.put_term.new.self c.in_ok-other.ensures.kept c.term_count-count.ensures.count w c.in_ok-other.ensures.tree in
    c.in_ok-id.ensures.tree ∙ ap (λ t. apply t (map (tree c.put_term.new.self) (map (λ t. t.0) c.as_slice.result.now))) h.1 ∙
    ap (apply (tree c.args.bank.now c.args.head.0)) (trees_in_place c.args.bank.now c.put_term.new.self c.args.args.now c.in_ok-all.all.items c.as_slice.result.now a c.as_slice.ensures.value)
