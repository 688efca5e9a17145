-- A search beside what its answers are shown with.
use Rattle.std.specs.Prelude.{◌≡◌, length}
use Rattle.lp_plain.specs.Held.{variables_of}
use Rattle.lp_solve.specs.declared.prepare.Prepared.{Prepared}

-- each variable of the query has a name
abbrev pub IsPrepared : Prepared → Type 0
IsPrepared p = variables_of p.search ≡ length p.shown.names.items
