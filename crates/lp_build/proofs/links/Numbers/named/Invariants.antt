use Rattle.std.proofs.Common.{◌≡◌, List, drop}
use Rattle.std.specs.Prelude.{nat_eq, filter_map}
use Rattle.indexmap.specs.IndexSet.{insert_all}
use Rattle.lp_sig.specs.Pieces.{spelled}
use Rattle.lp_build.specs.Sights.{signature_of, named_by}
use Rattle.lp_build.specs.declared.sources.File.{File}
use Rattle.lp_build.specs.inner.Linked.{HasSignatures}
use Rattle.lp_build.proofs.links.Numbers.named.Given as goal

abbrev pub invariant-loop-at : goal.invariant-loop-at
invariant-loop-at l = record {
  found : l.found.items ≡ l.seen.keys;
  numbers : (files : List File) → HasSignatures l.self files → insert_all nat_eq l.seen.keys
      (filter_map (λ w. signature_of files (spelled l.source w)) (drop l.at l.words.items)) ≡ named_by files l.source l.words.items;
}
