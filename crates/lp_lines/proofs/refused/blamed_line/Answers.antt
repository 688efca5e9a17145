use Rattle.std.proofs.Common.{◌≡◌, ◌-◌, ◌∙◌, ap, arith}
use Rattle.std.specs.Prelude.{take}
use Rattle.lp_lines.proofs.Placing.{blamed_behind}
use Rattle.lp_lines.proofs.refused.blamed_line.Goals as goal

pub returns : goal.returns
returns g =
    let found = g.in-Some.ensures.lookup in
    let same : g.args.blame.now.spot.from - 0 ≡ g.args.blame.now.spot.from = omega arith in
    blamed_behind g.source_line.result g.args.file.now g.args.text.now g.in-Some.before.now g.deref.result.now g.args.blame.now g.end_place.result found.0.1 (found.0.2 ∙ ap (λ n. take n g.args.text.now) same)
    g.end_place.ensures (g.deref.ensures.value ∙ g.in_ok-said.ensures) g.source_line.ensures
