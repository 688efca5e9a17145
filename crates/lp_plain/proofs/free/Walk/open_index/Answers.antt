use Rattle.std.proofs.Common.{refl}
use Rattle.lp_plain.proofs.Sightings.{index_bound, index_found}
use Rattle.lp_plain.proofs.free.Walk.open_index.Goals as goal

pub returns-then-index-depth : goal.returns-then-index-depth
returns-then-index-depth c = λ b n e. index_bound b c.args.self.now c.args.depth c.args.index n e c.if-index-depth.true

pub returns : goal.returns
returns c = λ b n e. index_found b c.args.self.now _ c.args.depth c.args.index n e c.if-index-depth.false c.in_ok-insert.ensures.updates.0 refl refl refl refl
