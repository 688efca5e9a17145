use Rattle.std.proofs.Common.{◌≡◌, ◌∙◌, ap, sym, map, subst as transport}
use Rattle.std.proofs.lemmas.Bool.{eqb-true}
use Rattle.lp_term.specs.Node.{con_node}
use Rattle.lp_term.specs.Nodes.{type_at, type_tree, type_node_tree}
use Rattle.lp_term.specs.inner.Reading.{read_of}
use Rattle.lp_term.proofs.Rebuilding.{constructor_is, constructor_stays, same_types}
use Rattle.lp_term.proofs.build.type_rebuilt.Goals as goal

pub returns-then-eq-clause-tree : goal.returns-then-eq-clause-tree
returns-then-eq-clause-tree g c =
    let here : c.read.result.now ≡ c.args.to.now = c.read.ensures ∙ ap (λ h. read_of h c.args.from.now c.args.to.now) c.if-here-3.true in
    let ids = c.in-Con.ids.now in
    constructor_stays (g.M.Mapping.told c.args.map.now) c.args.done.now c.args.to.now c.in-Con.kind c.kind-new.result c.args.id.0 ids c.in_ok-parts-in-Con.parts.items c.as_slice.result.now
    (type_at (read_of c.args.here c.args.from.now c.args.to.now) c.args.id.0) (c.in-Con.ensures.node ∙ ap (λ b. type_at b c.args.id.0) c.read.ensures)
    (transport (λ b. type_node_tree b (con_node c.in-Con.kind (map (λ t. t.0) ids)) ≡ type_tree b c.args.id.0) here c.in-Con.ensures.tree) c.as_slice.ensures.value c.in_ok-parts-in-Con.ensures
    (same_types _ (λ x y e. eqb-true x.0 y.0 e) c.as_slice.result.now ids (sym c.eq.ensures ∙ c.if-eq.true)) c.if-new-kind.true c.kind-new.ensures

pub returns-in_ok-made-in-Con-clause-tree : goal.returns-in_ok-made-in-Con-clause-tree
returns-in_ok-made-in-Con-clause-tree g c =
    constructor_is (g.M.Mapping.told c.args.map.now) c.args.done.now c.args.to.now c.in-Con.kind c.kind-new.result c.in-Con.ids.now c.in_ok-parts-in-Con.parts.items c.as_slice-in-Con.result.now
    (type_at (read_of c.args.here c.args.from.now c.args.to.now) c.args.id.0) _ c.in_ok-made-in-Con.ensures.tree c.as_slice-in-Con.ensures.value c.in_ok-parts-in-Con.ensures c.kind-new.ensures
    (c.in-Con.ensures.node ∙ ap (λ b. type_at b c.args.id.0) c.read.ensures)
