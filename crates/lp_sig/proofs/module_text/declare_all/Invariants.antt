use Rattle.lp_sig.specs.inner.Reading.{ReadsOn}
use Rattle.lp_sig.specs.inner.Taking.{TakesOn}
use Rattle.lp_sig.specs.AsWritten.{typed_in}
use Rattle.std.proofs.Common.{◌≡◌, ℕ, List, map, take, ◌++◌}
use Rattle.lp_sig.specs.Modules.{declarations, constant_names_in}
use Rattle.lp_sig.specs.Sighted.{Grows}
use Rattle.std.specs.Prelude.{All}
use Rattle.lp_syntax.specs.declared.text.Declaration.{Declaration}
use Rattle.lp_sig.specs.Abbreviations.{Seen, KnowsUses}
use Rattle.lp_sig.specs.Knowing.{Knows}
use Rattle.lp_sig.specs.ModuleFaults.{kind_names_in, IsLineTaken}
use Rattle.lp_sig.specs.Sights.{HasKeys, HasNumbers, AreWordsAlike}
use Rattle.lp_sig.specs.inner.Telling.{AreSights}
use Rattle.lp_sig.specs.declared.signature.Signature.{Signature}
use Rattle.lp_sig.specs.Worded.{HasWords}
use Rattle.lp_sig.proofs.module_text.declare_all.Given as goal

abbrev pub invariant-loop-at : goal.invariant-loop-at
invariant-loop-at l = record {
  words : (words : List (List ℕ)) → HasWords l.fn.making.constants words → HasWords l.making.constants (words ++ constant_names_in l.lines.source.now (declarations (take l.at l.text.lines.items)));
  grown : Grows l.fn.making l.making;
  alike : (signatures modules : List (List ℕ)) → HasNumbers l.lines.said.now.accum_sigs signatures → HasNumbers l.lines.said.now.accumulates modules →
      AreWordsAlike l.lines.sights.now l.lines.source.now signatures modules (declarations (take l.at l.text.lines.items));
  taken : (used : List Signature) (z : Seen) (ds : List Declaration) → AreSights l.lines.own.now used l.lines.source.now l.lines.said.now l.lines.sights.now ds → Knows l.fn.making.names z.said → KnowsUses (map (λ out. out.items) l.fn.making.uses.ways.items) z → HasKeys l.lines.said.now.kinds
      (kind_names_in l.lines.source.now ds) → HasKeys l.lines.said.now.constants (constant_names_in l.lines.source.now ds) →
      All (IsLineTaken l.lines.own.now used l.lines.source.now z ds) (declarations (take l.at l.text.lines.items));
  names : l.making.names ≡ l.fn.making.names;
  operators : l.making.operators ≡ l.fn.making.operators;
  uses : l.making.uses ≡ l.fn.making.uses;
  kept : l.making.bodies.bodies ≡ l.fn.making.bodies.bodies;
  reads : ReadsOn l.fn.making l.making (typed_in l.lines.source.now (declarations (take l.at l.text.lines.items))) (constant_names_in l.lines.source.now (declarations (take l.at l.text.lines.items)));
  takes : TakesOn l.fn.making l.making (typed_in l.lines.source.now (declarations (take l.at l.text.lines.items))) (constant_names_in l.lines.source.now (declarations (take l.at l.text.lines.items)));
}
