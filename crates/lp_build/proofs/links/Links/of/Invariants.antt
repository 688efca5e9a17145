use Rattle.std.proofs.Common.{◌≡◌, map, take}
use Rattle.lp_build.specs.Sights.{accum_sig_of, accumulate_of}
use Rattle.lp_build.specs.inner.Linked.{lists_of}
use Rattle.lp_build.proofs.links.Links.of.Given as goal

abbrev pub invariant-loop-at : goal.invariant-loop-at
invariant-loop-at l = record {
  accum_sig : lists_of l.named.items ≡ map (accum_sig_of l.sources.files.items) (take l.at l.sources.files.items);
  accumulate : lists_of l.accumulated.items ≡ map (accumulate_of l.sources.files.items) (take l.at l.sources.files.items);
}
