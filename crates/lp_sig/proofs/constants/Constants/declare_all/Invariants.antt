use Rattle.lp_sig.specs.declared.constants.DeclaredType.{DeclaredType}
use Rattle.lp_sig.specs.inner.Reading.{CanDeclare, AreDeclaredAs}
use Rattle.lp_sig.specs.inner.Taking.{AddsNames}
use Rattle.std.proofs.Common.{◌≡◌, ℕ, List, ◌++◌, map, take, true, Some}
use Rattle.std.specs.Prelude.{is_some}
use Rattle.lp_term.specs.Nodes.{Extends}
use Rattle.lp_sig.specs.Rows.{Row}
use Rattle.lp_sig.specs.Said.{Said, each}
use Rattle.lp_sig.specs.Types.{Definition}
use Rattle.lp_sig.specs.Abbreviations.{Seen}
use Rattle.lp_sig.specs.Standing.{TypeStands}
use Rattle.lp_sig.specs.Constants.{Written, IsTyped, IfTyped, AreTypedIf, AreTakenConstants, KnowsConstants}
use Rattle.lp_sig.specs.Pieces.{spelled}
use Rattle.lp_sig.specs.Sighted.{GrowsBehind}
use Rattle.lp_sig.specs.Worded.{HasWords}
use Rattle.lp_sig.proofs.constants.Constants.declare_all.Given as goal

abbrev pub invariant-loop-name : goal.invariant-loop-name
invariant-loop-name l = record {
  kept : Extends l.fn.types.bank l.types.bank;
  grown : GrowsBehind l.fn.self l.self;
  known : (said : List (Row Said)) (defs : List (Row Definition)) (rows : List (Row Written)) (w : Written) → KnowsConstants l.fn.types.bank l.fn.self
      said defs rows → IfTyped l.declared (IsTyped l.fn.types.bank said defs w) →
      KnowsConstants l.types.bank l.self said defs (rows ++ each l.source w (take l.name-index l.names));
  typed : (from : ℕ) (z : Seen) (rows : List (Row Written)) (w : Written) → KnowsConstants l.fn.types.bank l.fn.self z.said z.definitions rows →
      IfTyped l.declared (IsTyped l.fn.types.bank z.said z.definitions w) → AreTypedIf from z rows l.fn.self →
      (TypeStands from z w.text w.raw → is_some l.declared ≡ true) → AreTypedIf from z (rows ++ each l.source w (take l.name-index l.names)) l.self;
  taken : (from : ℕ) (z : Seen) (rows : List (Row Written)) (w : Written) → KnowsConstants l.fn.types.bank l.fn.self z.said z.definitions rows →
      IfTyped l.declared (IsTyped l.fn.types.bank z.said z.definitions w) → AreTypedIf from z rows l.fn.self →
      (TypeStands from z w.text w.raw → is_some l.declared ≡ true) → AreTakenConstants from z rows (each l.source w (take l.name-index l.names));
  words : (words : List (List ℕ)) → HasWords l.fn.self words → HasWords l.self (words ++ map (λ s. spelled l.source s) (take l.name-index l.names));
  adds : AddsNames l.fn.self l.self l.source (take l.name-index l.names) l.declared;
  trees : (words : List (List ℕ)) (d : DeclaredType) → l.declared ≡ Some d → CanDeclare l.fn.types.bank l.fn.self words d → AreDeclaredAs l.types.bank l.self l.source (take l.name-index l.names) d;
}
