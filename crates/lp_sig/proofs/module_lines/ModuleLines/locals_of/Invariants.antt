use Rattle.lp_sig.specs.declared.constants.DeclaredType.{DeclaredType}
use Rattle.lp_sig.specs.inner.Reading.{CanDeclare, AreDeclaredAs}
use Rattle.lp_sig.specs.inner.Taking.{AddsNames}
use Rattle.std.proofs.Common.{◌≡◌, ℕ, List, map, take, ◌++◌, Some}
use Rattle.std.specs.Prelude.{All}
use Rattle.lp_sig.specs.Pieces.{spelled}
use Rattle.lp_sig.specs.Limits.{IsShort}
use Rattle.lp_sig.specs.ModuleFaults.{exports_constant, IsLocal}
use Rattle.lp_sig.specs.Sighted.{Grows}
use Rattle.lp_sig.specs.Worded.{HasWords}
use Rattle.lp_sig.proofs.module_lines.ModuleLines.locals_of.Given as goal

abbrev pub invariant-loop-name : goal.invariant-loop-name
invariant-loop-name l = record {
  words : (words : List (List ℕ)) → HasWords l.fn.making.constants words → HasWords l.making.constants (words ++ map (λ s. spelled l.self.source.now s) (take l.name-index l.names));
  taken : All (IsLocal (exports_constant l.self.own.now) l.self.source.now (IsShort l.self.source.now)) (take l.name-index l.names);
  grown : Grows l.fn.making l.making;
  names : l.making.names ≡ l.fn.making.names;
  operators : l.making.operators ≡ l.fn.making.operators;
  uses : l.making.uses ≡ l.fn.making.uses;
  kept : l.making.bodies.bodies ≡ l.fn.making.bodies.bodies;
  adds : AddsNames l.fn.making.constants l.making.constants l.self.source.now (take l.name-index l.names) l.declared;
  trees : (words : List (List ℕ)) (d : DeclaredType) → l.declared ≡ Some d → CanDeclare l.fn.making.bodies.types.bank l.fn.making.constants words d → AreDeclaredAs l.making.bodies.types.bank l.making.constants l.self.source.now (take l.name-index l.names) d;
}
