-- The kinds and constants that code may name, as they stand in the tables of an object or an image.
use Rattle.std.specs.Prelude.{ℕ, ◌-◌, nat_lt, if◌then◌else◌, List, map, option_map, slice_get}
use Rattle.lp_calculus.specs.Typing.{Scheme}
use Rattle.lp_term.specs.Nodes.{Nodes, type_tree}
use Rattle.lp_standard.specs.Kinds.{arity, numbered}
use Rattle.lp_standard.specs.Schemes.{standard_schemes, entry}
use Rattle.lp_code.specs.declared.image.Image.{Image}
use Rattle.lp_code.specs.declared.image.ImageKind.{ImageKind}
use Rattle.lp_code.specs.declared.image.ImageConstant.{ImageConstant}
use Rattle.lp_code.specs.declared.object.Object.{Object}
use Rattle.lp_code.specs.declared.object.ObjectKind.{ObjectKind}
use Rattle.lp_code.specs.declared.object.ObjectConstant.{ObjectConstant}
use Rattle.lp_code.specs.Symbolic.{Tables}

-- those of the language, and the entries from 8 and from 32
abbrev pub tables_of : (arities : List ℕ) → List Scheme → Tables
tables_of ks cs = record {
  kinds = λ k. if nat_lt k 8 then option_map arity (numbered k) else slice_get ks (k - 8);
  constants = λ c. if nat_lt c 32 then entry standard_schemes c else slice_get cs (c - 32);
}

abbrev pub scheme_in : Nodes → (type_vars body : ℕ) → Scheme
scheme_in b n T = record { count = n; body = type_tree b T }

abbrev pub image_arity : ImageKind → ℕ
image_arity k = k.arity

abbrev pub object_arity : ObjectKind → ℕ
object_arity k = k.arity

abbrev pub image_tables : Image → Tables
image_tables i = tables_of (map image_arity i.kinds.items) (map (λ (c : ImageConstant). scheme_in i.bank c.type_vars c.scheme.0) i.constants.items)

abbrev pub object_tables : Object → Tables
object_tables o = tables_of (map object_arity o.kinds.items) (map (λ (c : ObjectConstant). scheme_in o.bank c.type_vars c.scheme.0) o.constants.items)
