use Rattle.std.proofs.Common.{◌≡◌, ℕ, ◌+◌, ◌<◌, List, map, length, take, ◌++◌, Some}
use Rattle.std.specs.Prelude.{◌⊎◌, nat_eq}
use Rattle.std.specs.List.{range_with_len}
use Rattle.indexmap.specs.IndexMap.{get}
use Rattle.lp_sig.specs.Rows.{Row}
use Rattle.lp_sig.specs.Said.{Said}
use Rattle.lp_sig.specs.Knowing.{Knows}
use Rattle.lp_sig.specs.Modules.{kind_said}
use Rattle.lp_sig.specs.Named.{kind_name}
use Rattle.lp_sig.specs.Sighted.{said_kinds, AreKinds}
use Rattle.lp_sig.specs.declared.see.Sight.TheVariants.{Alike}
use Rattle.lp_sig.specs.inner.Telling.{IsNumberHere, KindsTell}
use Rattle.lp_sig.proofs.names.Names.see_kinds.Given as goal

abbrev pub invariant-loop-at : goal.invariant-loop-at
invariant-loop-at l =
    ((said : List (Row Said)) → Knows l.fn.self said → Knows l.self (said ++ map kind_said (take l.at l.entries))) ×
    ((said : List (Row Said)) → Knows l.fn.self said → map (λ e. e.number) l.entries ≡ range_with_len 8 (length l.entries) → ((k n : ℕ) → get nat_eq l.fn.kinds k ≡ Some n → ⊥) →
    (l.all ≡ Alike) ⊎ AreKinds (said ++ map kind_said l.entries) (map (λ e. e.name.items) l.entries) → (k n : ℕ) → get nat_eq l.kinds k ≡ Some n →
    (k < 8 + l.at) × (kind_name (said_kinds (said ++ map kind_said l.entries)) n ≡ kind_name (map (λ e. e.name.items) l.entries) k)) ×
    ((said : List (Row Said)) → Knows l.fn.self said → map (λ e. e.number) l.entries ≡ range_with_len 8 (length l.entries) → ((k n : ℕ) → get nat_eq l.fn.kinds k ≡ Some n → ⊥) →
    (k n : ℕ) → get nat_eq l.kinds k ≡ Some n → (name : List ℕ) × (kind_name (map (λ e. e.name.items) l.entries) k ≡ Some name) × IsNumberHere (said ++ map kind_said l.entries) name n) ×
    ((said more : List (Row Said)) → Knows l.fn.self said → KindsTell ((said ++ map kind_said l.entries) ++ more) (take l.at l.entries) l.all)
