use Rattle.std.proofs.Common.{List}
use Rattle.lp_build.specs.declared.sources.File.{File}
use Rattle.lp_build.specs.inner.Linked.{AreLinks, IsSeenSoFar}
use Rattle.lp_build.proofs.links.Links.seen.Given as goal

abbrev pub invariant-loop : goal.invariant-loop
invariant-loop l = (files : List File) → AreLinks files l.self → IsSeenSoFar files l.file l.name l.seen.keys l.work.items
