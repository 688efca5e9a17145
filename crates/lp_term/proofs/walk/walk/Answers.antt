use Rattle.std.proofs.Common.{◌∙◌, ap, length, subst as transport}
use Rattle.lp_term.specs.Nodes.{IsSound}
use Rattle.lp_term.specs.inner.Reading.{read_of}
use Rattle.lp_term.specs.inner.Walking.{Walks}
use Rattle.lp_term.proofs.Trees.{extends-trans}
use Rattle.lp_term.proofs.Walking.{map_later, reading_later}
use Rattle.lp_term.proofs.walk.walk.Goals as goal

pub tasks-preserved : goal.tasks-preserved
tasks-preserved g c =
    let f = g.M.Mapping.told c.args.map.now in
    let b = read_of c.args.here c.args.from.now c.args.to.now in
    let d = c.args.to.now in
    let e = c.tasks.to in
    let x = c.tasks.invariant.kept in
    let moves = c.in_ok-step.ensures.moves b (reading_later c.args.here c.args.from.now d e x) (c.term_count.ensures.count ∙ ap (λ n. length n.terms) c.read-bank.ensures)
    (c.type_count.ensures.count ∙ ap (λ n. length n.types) c.read-bank.ensures) (transport IsSound c.read-bank.ensures c.term_count.ensures.sound) in
    record {
      kept = extends-trans d e c.step.new.to x c.in_ok-step.ensures.kept;
      keeps = λ m M i r.
          moves.keeps m c.args.first (map_later f m b d e x M) (transport (λ l. Walks f m b e c.tasks.done l c.args.first) c.in-Some.ensures.items (c.tasks.invariant.keeps m M i r));
    }
