use Rattle.std.proofs.Common.{◌≡◌, ℕ, List, map, take, ◌++◌}
use Rattle.std.specs.Prelude.{◌⊎◌, All}
use Rattle.lp_term.specs.Nodes.{Extends}
use Rattle.lp_sig.specs.Sighted.{AreCounted, GrowsBehind, IsCountedEntry, IsSeenEntry, AreNew}
use Rattle.lp_sig.specs.Rows.{Row}
use Rattle.lp_sig.specs.Said.{Said, names_in}
use Rattle.lp_sig.specs.Named.{NamedTy, named_in}
use Rattle.lp_sig.specs.GoingTogether.{named_constant}
use Rattle.lp_sig.specs.inner.Telling.{CanSeeAll, AreTypedHere, EachKind, FitsHere, ConstantsTell}
use Rattle.lp_sig.specs.declared.signature.Signature.{Signature}
use Rattle.lp_sig.specs.Worded.{HasWords}
use Rattle.lp_sig.specs.declared.see.Sight.TheVariants.{Alike}
use Rattle.lp_sig.proofs.constants.Constants.see_all.Given as goal

abbrev pub invariant-loop-at : goal.invariant-loop-at
invariant-loop-at l =
    ((words : List (List ℕ)) → HasWords l.fn.self words → HasWords l.self (words ++ map (λ e. e.name.items) (take l.at l.entries))) × Extends
    l.fn.types.bank l.types.bank × GrowsBehind l.fn.self l.self ×
    ((words : List (List ℕ)) → HasWords l.fn.self words → AreCounted l.fn.types.bank l.fn.self → All (IsCountedEntry l.fn.types.bank l.made) l.entries →
    AreCounted l.types.bank l.self × ((l.all ≡ Alike) ⊎ AreNew words l.entries → All (IsSeenEntry l.types.bank l.self l.made) (take l.at l.entries))) ×
    ((u : Signature) (said : List (Row Said)) (rows : List (Row NamedTy)) → CanSeeAll l.fn.types.bank l.fn.self u said rows l.made l.entries → AreTypedHere l.types.bank l.self said (rows ++ map (named_constant u) (take l.at l.entries))) ×
    ((u : Signature) (said : List (Row Said)) (rows : List (Row NamedTy)) → CanSeeAll l.fn.types.bank l.fn.self u said rows l.made l.entries → All (λ e. EachKind (FitsHere said) (named_in u e.scheme)) l.entries →
    ConstantsTell (names_in rows) (rows ++ map (named_constant u) l.entries) u (take l.at l.entries) l.all)
