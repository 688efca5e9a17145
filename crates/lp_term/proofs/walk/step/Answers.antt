use Rattle.std.proofs.Common.{◌++◌, ◌∷◌, [], sym, subst as transport}
use Rattle.lp_term.specs.Nodes.{Extends}
use Rattle.lp_term.specs.inner.Walking.{IsMove}
use Rattle.lp_term.proofs.Walking.{on_ok, visit_moves, build_moves}
use Rattle.lp_term.proofs.walk.step.Goals as goal

pub returns-in-Visit-clause-moves : goal.returns-in-Visit-clause-moves
returns-in-Visit-clause-moves g c =
    let f = g.M.Mapping.told c.args.map.now in
    let d = c.args.to.now in
    let ts = c.args.tasks.now.items in
    on_ok c.visit.result _ _
    (λ v b x p q s.
    transport (λ t. IsMove f b d d c.args.done.now c.visit.new.done (ts ++ t ∷ []) c.visit.new.tasks.items) (sym c.in-Visit.is)
    (visit_moves f b d c.in-Visit.node c.args.done.now c.visit.new.done ts c.visit.new.tasks.items s (v b (transport (Extends b) (sym c.read.ensures) x) p q)))
    c.visit.ensures

pub returns-in_ok-number-in-Build-clause-moves : goal.returns-in_ok-number-in-Build-clause-moves
returns-in_ok-number-in-Build-clause-moves g c =
    let f = g.M.Mapping.told c.args.map.now in
    let d = c.args.to.now in
    let e = c.made.new.to in
    let ts = c.args.tasks.now.items in
    on_ok c.note.result _ _
    (λ n b x p q s.
    transport (λ t. IsMove f b d e c.args.done.now c.note.new.self (ts ++ t ∷ []) ts) (sym c.in-Build.is)
    (build_moves f b d e c.in-Build.node c.in_ok-number-in-Build.number c.args.done.now c.note.new.self ts c.in_ok-number-in-Build.ensures.kept s n
    (λ m i M h. c.in_ok-number-in-Build.ensures.right m b x s i M h)))
    c.note.ensures
