use Rattle.std.proofs.Common.{◌≡◌, ◌∙◌, ap, sym, map, subst as transport}
use Rattle.std.proofs.lemmas.Bool.{eqb-true}
use Rattle.lp_term.specs.Node.{const_node, app_node}
use Rattle.lp_term.specs.Nodes.{term_at, tree, node_tree}
use Rattle.lp_term.specs.inner.Reading.{read_of}
use Rattle.lp_term.proofs.Rebuilding.{constant_is, constant_stays, application_is, application_stays, same_types, same_terms}
use Rattle.lp_term.proofs.build.term_rebuilt.Goals as goal

pub returns-then-eq-clause-tree : goal.returns-then-eq-clause-tree
returns-then-eq-clause-tree g c =
    let here : c.read.result.now ≡ c.args.to.now = c.read.ensures ∙ ap (λ h. read_of h c.args.from.now c.args.to.now) c.if-here.true in
    let ids = c.in-Const.ids.now in
    constant_stays (g.M.Mapping.told c.args.map.now) c.args.done.now c.args.to.now c.in-Const.number c.constant-new.result c.args.id.0 ids c.in_ok-types-in-Const.types.items c.as_slice.result.now
    (term_at (read_of c.args.here c.args.from.now c.args.to.now) c.args.id.0) (c.in-Const.ensures.node ∙ ap (λ b. term_at b c.args.id.0) c.read.ensures)
    (transport (λ b. node_tree b (const_node c.in-Const.number (map (λ t. t.0) ids)) ≡ tree b c.args.id.0) here c.in-Const.ensures.tree) c.as_slice.ensures.value c.in_ok-types-in-Const.ensures
    (same_types _ (λ x y e. eqb-true x.0 y.0 e) c.as_slice.result.now ids (sym c.eq.ensures ∙ c.if-eq.true)) c.if-new-number.true c.constant-new.ensures

pub returns-in_ok-made-in-Const-clause-tree : goal.returns-in_ok-made-in-Const-clause-tree
returns-in_ok-made-in-Const-clause-tree g c =
    constant_is (g.M.Mapping.told c.args.map.now) c.args.done.now c.args.to.now c.in-Const.number c.constant-new.result c.in-Const.ids.now c.in_ok-types-in-Const.types.items c.as_slice-in-Const.result.now
    (term_at (read_of c.args.here c.args.from.now c.args.to.now) c.args.id.0) _ c.in_ok-made-in-Const.ensures.tree c.as_slice-in-Const.ensures.value c.in_ok-types-in-Const.ensures c.constant-new.ensures
    (c.in-Const.ensures.node ∙ ap (λ b. term_at b c.args.id.0) c.read.ensures)

pub returns-then-eq-3-clause-tree : goal.returns-then-eq-3-clause-tree
returns-then-eq-3-clause-tree g c =
    let here : c.read.result.now ≡ c.args.to.now = c.read.ensures ∙ ap (λ h. read_of h c.args.from.now c.args.to.now) c.if-here-2.true in
    let ids = c.in-App.ids.now in
    application_stays (g.M.Mapping.told c.args.map.now) c.args.done.now c.args.to.now c.args.id.0 c.in-App.head c.term-top.result ids c.in_ok-args-in-App.args.items c.as_slice-then-eq-2.result.now
    (term_at (read_of c.args.here c.args.from.now c.args.to.now) c.args.id.0) (c.in-App.ensures.node ∙ ap (λ b. term_at b c.args.id.0) c.read.ensures)
    (transport (λ b. node_tree b (app_node c.in-App.head.0 (map (λ t. t.0) ids)) ≡ tree b c.args.id.0) here c.in-App.ensures.tree) c.as_slice-then-eq-2.ensures.value c.in_ok-args-in-App.ensures
    (same_terms _ (λ x y e. eqb-true x.0 y.0 e) c.as_slice-then-eq-2.result.now ids (sym c.eq-then-eq-2.ensures ∙ c.if-eq-3.true)) (eqb-true _ _ (sym c.eq-then-here-2.ensures ∙ c.if-eq-2.true)) c.term-top.ensures

pub returns-in_ok-made-in-App-clause-tree : goal.returns-in_ok-made-in-App-clause-tree
returns-in_ok-made-in-App-clause-tree g c =
    application_is (g.M.Mapping.told c.args.map.now) c.args.done.now c.args.to.now c.in-App.head c.term-top.result c.in-App.ids.now c.in_ok-args-in-App.args.items c.as_slice-in-App.result.now
    (term_at (read_of c.args.here c.args.from.now c.args.to.now) c.args.id.0) _ c.in_ok-made-in-App.ensures.tree c.as_slice-in-App.ensures.value c.in_ok-args-in-App.ensures c.term-top.ensures
    (c.in-App.ensures.node ∙ ap (λ b. term_at b c.args.id.0) c.read.ensures)
