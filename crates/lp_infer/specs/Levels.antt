-- The levels of the names that abstractions bind.
use Rattle.std.specs.Prelude.{◌≡◌, ℕ, suc, ◌-◌, List, length, Option, Some, None, option_map}
use Rattle.std.specs.Map.{lookup}
use Rattle.std.specs.Str.{bytes_eq}
use Rattle.lp_sig.specs.Places.{first_place}
use Rattle.lp_infer.specs.declared.scope.Scope.{Scope}

abbrev pub level_at : Option (Option ℕ) → Option ℕ
level_at None = None
level_at (Some level) = level

-- the level that a table has for a name
unfoldable pub level_in : Scope → List ℕ → Option ℕ
level_in s name = level_at (lookup (λ k. bytes_eq name k.items) s.levels.entries)

-- the level of the innermost of these abstractions that binds a name; the last of them is the outermost
abbrev pub level_of : List ℕ → List (List ℕ) → Option ℕ
level_of name scope = option_map (λ i. length scope - suc i) (first_place name scope)

-- these abstractions are open, the innermost first
pub record HasScope (scope : List (List ℕ)) (s : Scope) : Type 0 where
  pub depth : s.depth ≡ length scope
  pub levels : (name : List ℕ) → level_in s name ≡ level_of name scope
