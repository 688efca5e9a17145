use Rattle.lp_sig.specs.inner.Given.{GivesMore}
use Rattle.lp_sig.specs.AsWritten.{bodies_of, HasWholeBodies}
use Rattle.std.proofs.Common.{◌≡◌, ℕ, ◌<◌, ◌≤◌, List, length, map, take, Some, ◌++◌}
use Rattle.lp_sig.specs.Abbreviations.{Seen, KnowsUses}
use Rattle.lp_sig.specs.SeenByModules.{seen_signatures}
use Rattle.std.specs.Prelude.{slice_get, All}
use Rattle.lp_sig.specs.Rows.{Row}
use Rattle.lp_sig.specs.Said.{Said}
use Rattle.lp_sig.specs.Knowing.{Knows}
use Rattle.lp_sig.specs.Modules.{of_each, said_of, constants_of}
use Rattle.lp_sig.specs.Named.{IsOrdered}
use Rattle.lp_sig.specs.Sighted.{Grows, AreCounted, SeenSo}
use Rattle.lp_sig.specs.Sights.{AreAlike}
use Rattle.lp_sig.specs.inner.Telling.{KnowsBefore, AreTold}
use Rattle.lp_sig.specs.Worded.{HasWords}
use Rattle.lp_sig.specs.declared.signature.Signature.{Signature}
use Rattle.lp_sig.proofs.module_text.see_used.Given as goal

abbrev pub invariant-loop-at : goal.invariant-loop-at
invariant-loop-at l = record {
  names : (said : List (Row Said)) → Knows l.fn.making.names said → Knows l.making.names (said ++ of_each said_of (take l.at l.used));
  words : (words : List (List ℕ)) → HasWords l.fn.making.constants words → HasWords l.making.constants (words ++ of_each constants_of (take l.at l.used));
  operators : l.making.operators ≡ l.fn.making.operators;
  uses : (z : Seen) → Knows l.fn.making.names z.said → KnowsUses (map (λ out. out.items) l.fn.making.uses.ways.items) z → KnowsUses (map (λ out. out.items) l.making.uses.ways.items) (seen_signatures z (take l.at l.used));
  grown : Grows l.fn.making l.making;
  count : length l.sights.items ≡ l.at;
  low : l.at ≤ length l.used;
  counted : (said : List (Row Said)) (words : List (List ℕ)) → Knows l.fn.making.names said → HasWords l.fn.making.constants words → AreCounted
      l.fn.making.bodies.types.bank l.fn.making.constants → All IsOrdered l.used → AreAlike l.sights.items l.at → AreCounted
      l.making.bodies.types.bank l.making.constants;
  seen : (said : List (Row Said)) (words : List (List ℕ)) → Knows l.fn.making.names said → HasWords l.fn.making.constants words → AreCounted
      l.fn.making.bodies.types.bank l.fn.making.constants → All IsOrdered l.used →
      (n : ℕ) → n ≤ l.at → AreAlike l.sights.items n → (i : ℕ) → i < n → (u : Signature) → slice_get l.used i ≡ Some u → SeenSo l.making (said ++ of_each said_of (take l.at l.used)) u;
  given : All IsOrdered l.used → All HasWholeBodies l.used → AreAlike l.sights.items l.at → GivesMore l.fn.making l.making (of_each said_of (take l.at l.used)) (of_each bodies_of (take l.at l.used));
  before : (before : List Signature) → KnowsBefore l.fn.making before → KnowsBefore l.making (before ++ take l.at l.used);
  told : (before : List Signature) → KnowsBefore l.fn.making before → AreTold before l.used l.sights.items;
}
