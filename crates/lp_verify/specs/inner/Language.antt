-- The types of the language's constants, as they are put into a bank.
use Rattle.std.specs.Prelude.{◌≡◌, ◌<◌, ℕ, List, length, Option, Some, None, slice_get}
use Rattle.lp_calculus.specs.Types.{Ty}
use Rattle.lp_calculus.specs.Typing.{Scheme}
use Rattle.lp_standard.specs.Schemes.{standard_schemes, entry}
use Rattle.lp_term.specs.declared.node.TypeId.{TypeId}
use Rattle.lp_term.specs.Nodes.{Nodes, Extends, type_tree}
use Rattle.lp_verify.specs.declared.tables.Tables as kept
use Rattle.lp_verify.specs.declared.tables.Scheme as kept_scheme
use Rattle.lp_code.specs.Naming.{scheme_in}

-- a type was put
abbrev pub IsPutIn : (old new : Nodes) → Ty → TypeId → Type 0
IsPutIn old new T t = Extends old new × (t.0 < length new.types) × (type_tree new t.0 ≡ T)

-- a scheme of the bank is the one that is declared, or there is none
abbrev pub IsSchemeIn : Nodes → Option kept_scheme.Scheme → Option Scheme → Type 0
IsSchemeIn b None None = Unit {0}
IsSchemeIn b (Some s) (Some S) = (s.body.0 < length b.types) × (scheme_in b s.type_vars s.body.0 ≡ S)
IsSchemeIn b o p = ⊥

abbrev pub IsSchemePut : (old new : Nodes) → Option Scheme → Option kept_scheme.Scheme → Type 0
IsSchemePut old new S s = Extends old new × IsSchemeIn new s S

-- those of the first n constants of the language
abbrev pub AreSchemes : Nodes → List (Option kept_scheme.Scheme) → ℕ → Type 0
AreSchemes b ss n = (length ss ≡ n) × ((c : ℕ) → c < n → (s : Option kept_scheme.Scheme) × (slice_get ss c ≡ Some s) × IsSchemeIn b s (entry standard_schemes c))

abbrev pub HasLanguage : kept.Tables → Type 0
HasLanguage t = AreSchemes t.language_bank t.language.items 32
