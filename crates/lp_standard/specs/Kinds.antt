-- The kinds that every text sees.
use Rattle.std.specs.Prelude.{ℕ, List, [], ◌∷◌, Option, codes}
use Rattle.std.specs.Str.{bytes_eq}
use Rattle.std.specs.List.{find}
use Rattle.std.specs.Prelude.{slice_get}
use Rattle.lp_standard.specs.declared.kind.Kind.{Kind}
use Rattle.lp_standard.specs.declared.kind.Kind.TheVariants.{Proposition, Integer, String, List as ListKind}

abbrev pub number : Kind → ℕ
number Proposition = 0
number Integer = 1
number String = 2
number ListKind = 3

abbrev pub name : Kind → List ℕ
name Proposition = codes "o"
name Integer = codes "int"
name String = codes "string"
name ListKind = codes "list"

-- how many types it takes
abbrev pub arity : Kind → ℕ
arity ListKind = 1
arity _ = 0

-- each at the place of its number
abbrev pub kinds : List Kind
kinds = Proposition ∷ Integer ∷ String ∷ ListKind ∷ []

-- the kind of a number
abbrev pub numbered : ℕ → Option Kind
numbered n = slice_get kinds n

-- the kind of a name
abbrev pub named : List ℕ → Option Kind
named n = find (λ k. bytes_eq n (name k)) kinds
