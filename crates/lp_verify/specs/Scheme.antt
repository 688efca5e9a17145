-- The kinds and constants that code may name, as the verifier keeps them.
use Rattle.std.specs.Prelude.{ℕ, List, map, Option, option_map}
use Rattle.lp_calculus.specs.Typing.{Scheme}
use Rattle.lp_term.specs.Nodes.{Nodes}
use Rattle.lp_code.specs.declared.image.ImageConstant.{ImageConstant}
use Rattle.lp_code.specs.declared.object.ObjectConstant.{ObjectConstant}
use Rattle.lp_code.specs.Symbolic.{Tables}
use Rattle.lp_code.specs.Naming.{tables_of, scheme_in}
use Rattle.lp_verify.specs.declared.tables.Tables as told
use Rattle.lp_verify.specs.declared.tables.Scheme as told_scheme

abbrev pub schemes_in : Nodes → List told_scheme.Scheme → List Scheme
schemes_in b ss = map (λ (s : told_scheme.Scheme). scheme_in b s.type_vars s.body.0) ss

abbrev pub tables_in : told.Tables → Tables
tables_in t = tables_of t.arities.items (schemes_in t.bank.now t.declared.items)

-- how many type variables a constant has
abbrev pub type_vars_in : Option Scheme → Option ℕ
type_vars_in o = option_map (λ (s : Scheme). s.count) o

abbrev pub type_vars_of : Tables → ℕ → Option ℕ
type_vars_of t c = type_vars_in (t.constants c)

abbrev pub image_scheme : ImageConstant → told_scheme.Scheme
image_scheme c = record { type_vars = c.type_vars; body = c.scheme }

abbrev pub object_scheme : ObjectConstant → told_scheme.Scheme
object_scheme c = record { type_vars = c.type_vars; body = c.scheme }
