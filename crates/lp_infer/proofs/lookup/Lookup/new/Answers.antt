use Rattle.lp_infer.proofs.Passing.{begun}
use Rattle.lp_infer.proofs.lookup.Lookup.new.Goals as goal

pub returns : goal.returns
returns c = λ sig text nodes root. begun sig text nodes root _ c.new.ensures.items c.new-2.ensures.none c.new-5.ensures (c.new-2.ensures.firsts text) (c.new-4.ensures.firsts text)
