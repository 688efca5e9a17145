use Rattle.std.proofs.Common.{◌∷◌, [], sym, ap, arith}
use Rattle.std.specs.Prelude.{if◌then◌else◌, codes}
use Rattle.lp_show.proofs.Writings.{adds_as}
use Rattle.lp_show.proofs.write.open.Goals as goal

pub returns-in_ok-extend_from_slice-clause-tasks : goal.returns-in_ok-extend_from_slice-clause-tasks
returns-in_ok-extend_from_slice-clause-tasks c = λ scene.
    adds_as scene c.args.tasks.now.items c.put_bytes.new.tasks.items (codes ")") _ 1 1 (c.in_ok-put_bytes.ensures scene) (ap (λ b. if b then codes ")" else []) (sym c.if-wanted.true)) (omega arith)
