use Rattle.std.specs.Prelude.{◌≡◌, ◌<◌, [], ◌∷◌, None, length}
use Rattle.lp_lines.specs.Looked.{Looked}
use Rattle.lp_places.specs.Places.{HasPlaces}
use Rattle.lp_link.specs.Uses.{names_of}
use Rattle.lp_files.specs.Made.{AreHeldObjects}
use Rattle.lp_files.specs.Ordered.{Reads}
use Rattle.lp_files.specs.inner.Objects.{AreThere, left_of}
use Rattle.lp_files.proofs.link.objects_of.Given as goal

abbrev pub invariant-loop-number : goal.invariant-loop-number
invariant-loop-number g l = record {
  looked : Looked g.F.Folder.read_faults g.F.Folder.misses g.F.Folder.overs g.F.Folder.write_faults g.F.Folder.held l.fn.folder l.folder None;
  some : 0 < length l.reading.objects.items;
  held : AreHeldObjects (g.F.Folder.held l.fn.folder) l.reading.objects.items;
  found : HasPlaces l.reading.names (names_of l.reading.objects.items);
  ordered : Reads [] (l.root ∷ []) l.reading.objects.items (left_of l.reading.objects.items l.waiting.items);
  there : AreThere l.reading.objects.items l.waiting.items;
  count : length l.reading.objects.items ≡ l.number;
}
