use Rattle.std.specs.Prelude.{[], Bool, None}
use Rattle.lp_build.specs.Loads.{Outside}
use Rattle.lp_build.specs.Ordered.{both}
use Rattle.lp_build.specs.Reads.{AreRead}
use Rattle.lp_build.specs.Told.{HoldsTold}
use Rattle.lp_build.specs.inner.Walking.{IsWalk}
use Rattle.lp_build.proofs.walk.Loading.run.Given as goal

abbrev pub invariant-loop : goal.invariant-loop
invariant-loop g l = record {
  outside : Outside g.F.Folder.read_faults g.F.Folder.misses g.F.Folder.overs g.F.Folder.write_faults g.F.Folder.held l.fn.folder l.folder None;
  read : AreRead l.fn.self.sources → AreRead l.self.sources;
  told : HoldsTold (g.F.Folder.held l.fn.folder) l.fn.self.known.items l.fn.self.sources None → HoldsTold (g.F.Folder.held l.fn.folder) l.self.known.items l.self.sources None;
  walked : (all : Bool) → IsWalk all l.root (both l.root) l.fn.self → IsWalk all l.root [] l.self;
}
