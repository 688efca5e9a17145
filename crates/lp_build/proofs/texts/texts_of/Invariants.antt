use Rattle.std.proofs.Common.{◌≤◌, length}
use Rattle.lp_base.specs.declared.limits.TheConstants.{MAX_MODULES}
use Rattle.lp_build.specs.inner.Linked.{AreLinks, AreTextsSoFar}
use Rattle.lp_build.proofs.texts.texts_of.Given as goal

abbrev pub invariant-loop-place : goal.invariant-loop-place
invariant-loop-place l = length l.sources.files.items ≤ MAX_MODULES → AreLinks l.sources.files.items l.links → AreTextsSoFar l.sources.files.items l.place l.texts
