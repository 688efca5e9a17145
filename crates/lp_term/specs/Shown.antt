-- What a bank shows of its lists, and what it knows beside that.
use Rattle.std.specs.Prelude.{List, map}
use Rattle.lp_term.specs.Nodes.{Nodes}
use Rattle.lp_term.specs.Shapes.{type_cell_shape, term_cell_shape}
use Rattle.lp_term.specs.declared.node.TypeCell.{TypeCell}
use Rattle.lp_term.specs.declared.bank.Entry.{Entry}
use Rattle.lp_term.specs.declared.facts.Facts.{Facts}

abbrev pub nodes_of : List TypeCell → List Entry → Nodes
nodes_of types entries = record { types = map type_cell_shape types; terms = map (λ e. term_cell_shape e.cell) entries }

abbrev pub facts_of : List Entry → List Facts
facts_of entries = map (λ e. e.facts) entries
