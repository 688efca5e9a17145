use Rattle.std.proofs.Common.{ℕ, List, map, take}
use Rattle.std.specs.Prelude.{All}
use Rattle.lp_syntax.specs.declared.text.Declaration.{Declaration}
use Rattle.lp_sig.specs.ModuleFaults.{AreSignaturesTaken}
use Rattle.lp_sig.specs.inner.Telling.{AreSights}
use Rattle.lp_sig.specs.declared.signature.Signature.{Signature}
use Rattle.lp_sig.specs.Pieces.{spelled}
use Rattle.lp_sig.specs.Sights.{HasNumbers, IsAlike}
use Rattle.lp_sig.proofs.module_lines.ModuleLines.accum_sig.Given as goal

abbrev pub invariant-loop-word : goal.invariant-loop-word
invariant-loop-word l = record {
  alike : (signatures : List (List ℕ)) → HasNumbers l.self.said.now.accum_sigs signatures → All (IsAlike l.self.sights.now 0 signatures)
      (map (λ s. spelled l.self.source.now s) (take l.word-index l.words));
  taken : (used : List Signature) (ds : List Declaration) → AreSights l.self.own.now used l.self.source.now l.self.said.now l.self.sights.now ds → AreSignaturesTaken l.self.own.now used l.self.source.now ds (take l.word-index l.words);
}
