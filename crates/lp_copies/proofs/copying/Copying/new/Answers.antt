use Rattle.std.proofs.Common.{ap, reverse, ◌∷◌}
use Rattle.lp_copies.proofs.Copied.{begun}
use Rattle.lp_copies.proofs.copying.Copying.new.Goals as goal

pub returns-clause-copying : goal.returns-clause-copying
returns-clause-copying c = begun c.args.uses.now.items c.args.root c.new.result.items c.new-2.result.items c.requires c.new.ensures.items c.new-2.ensures.items

pub returns-clause-frames : goal.returns-clause-frames
returns-clause-frames c = ap (λ a. (c.args.root, 0) ∷ reverse a) c.new-2.ensures.items
