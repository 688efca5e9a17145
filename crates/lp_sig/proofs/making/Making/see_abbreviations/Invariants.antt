use Rattle.lp_sig.specs.AsWritten.{named_body}
use Rattle.lp_sig.specs.inner.Telling.{CanSeeBodies, AreBodiesHere, EachKind, FitsHere, AbbreviationsTell}
use Rattle.lp_sig.specs.declared.signature.Signature.{Signature}
use Rattle.lp_sig.specs.inner.Given.{GivesBodies}
use Rattle.lp_sig.specs.Sighted.{said_kinds, AreSeenTypes}
use Rattle.lp_sig.specs.Named.{NamedTy, named, named_in, kind_name, IsWhole}
use Rattle.lp_term.specs.Nodes.{Nodes, type_tree}
use Rattle.std.specs.Prelude.{All}
use Rattle.std.proofs.Common.{◌≡◌, List, map, take, ◌++◌, ℕ}
use Rattle.lp_sig.specs.Rows.{Row}
use Rattle.lp_sig.specs.Abbreviations.{Seen, KnowsUses}
use Rattle.lp_sig.specs.inner.Noting.{with_unused}
use Rattle.lp_sig.specs.Said.{Said}
use Rattle.lp_sig.specs.Knowing.{Knows}
use Rattle.lp_sig.specs.Modules.{abbreviation_said}
use Rattle.lp_sig.proofs.making.Making.see_abbreviations.Given as goal

abbrev pub invariant-loop-at : goal.invariant-loop-at
invariant-loop-at l = record {
  names : (said : List (Row Said)) → Knows l.fn.self.names said → Knows l.self.names (said ++ map abbreviation_said (take l.at l.entries));
  constants : l.self.constants ≡ l.fn.self.constants;
  uses : (z : Seen) → Knows l.fn.self.names z.said → KnowsUses (map (λ out. out.items) l.fn.self.uses.ways.items) z → KnowsUses (map (λ out. out.items) l.self.uses.ways.items) (with_unused z (take l.at l.entries));
  types : l.self.bodies.types ≡ l.fn.self.bodies.types;
  operators : l.self.operators ≡ l.fn.self.operators;
  given : (there : Nodes) (names : List (List ℕ)) (said : List (Row Said)) (rows : List (Row NamedTy)) → Knows l.fn.self.names said → GivesBodies l.fn.self.bodies.types.bank l.fn.self.bodies.bodies.items said rows →
      AreSeenTypes there l.fn.self.bodies.types.bank names (said_kinds said) l.made → All (λ e. IsWhole (named (kind_name names) (type_tree there e.body.0))) l.entries →
      GivesBodies l.self.bodies.types.bank l.self.bodies.bodies.items (said ++ map abbreviation_said (take l.at l.entries)) (rows ++ map (λ e. (e.name.items, named (kind_name names) (type_tree there e.body.0))) (take l.at l.entries));
  here : (u : Signature) (said : List (Row Said)) (rows : List (Row NamedTy)) → Knows l.fn.self.names said → CanSeeBodies l.fn.self.bodies.types.bank l.fn.self.bodies.bodies.items u said rows l.made l.entries →
      AreBodiesHere l.self.bodies.types.bank l.self.bodies.bodies.items (said ++ map abbreviation_said (take l.at l.entries)) (rows ++ map (named_body u) (take l.at l.entries));
  told : (u : Signature) (said : List (Row Said)) (rows : List (Row NamedTy)) → Knows l.fn.self.names said → CanSeeBodies l.fn.self.bodies.types.bank l.fn.self.bodies.bodies.items u said rows l.made l.entries →
      All (λ e. EachKind (FitsHere said) (named_in u e.body)) l.entries → AbbreviationsTell (said ++ map abbreviation_said l.entries) (rows ++ map (named_body u) l.entries) u (take l.at l.entries) l.all;
}
