use Rattle.std.proofs.Common.{◌∙◌, map, ap}
use Rattle.lp_gen.specs.inner.Listing.{seen, around_of}
use Rattle.lp_gen.proofs.Patched.{map_take}
use Rattle.lp_gen.proofs.BodyUsed.{block_gone, counts_gone}
use Rattle.lp_gen.proofs.body.leave.Goals as goal

pub returns-clause-last : goal.returns-clause-last
returns-clause-last c = c.in_ok-block.ensures.items

pub returns-clause-left : goal.returns-clause-left
returns-clause-left c = λ b i. record {
  own = (ap (map (seen b)) c.truncate.ensures.items ∙ map_take (seen b) c.in_ok-block.block.variables c.args.environment.now.own.items) i;
  base = c.args.environment.now.base;
  captured = (around_of b c.args.environment.now).captured;
}

pub returns-clause-around : goal.returns-clause-around
returns-clause-around c = λ b.
    let a = around_of b c.args.environment.now in
    let l = c.in_ok-block.block in
    block_gone c.args.blocks.now.items c.pop.new.self.items l a _ c.in_ok-block.ensures.items
    (λ i. record { own = (ap (map (seen b)) c.truncate.ensures.items ∙ map_take (seen b) l.variables c.args.environment.now.own.items) i; base = a.base; captured = a.captured })

pub returns-clause-counts : goal.returns-clause-counts
returns-clause-counts c = counts_gone c.args.blocks.now.items c.pop.new.self.items c.in_ok-block.block c.in_ok-block.ensures.items
