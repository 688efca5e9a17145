-- What the connectives of a bank mean, and that their parts stand in it.
use Rattle.std.specs.Prelude.{◌<◌, length}
use Rattle.lp_term.specs.Nodes.{Nodes, tree, type_tree}
use Rattle.lp_standard.specs.Connectives.{body_of}
use Rattle.lp_standard.specs.Connectives as connective
use Rattle.lp_model.specs.declared.connective.Connective.{Connective}
use Rattle.lp_model.specs.declared.connective.Connective.TheVariants as code

abbrev pub connective_in : Nodes → Connective → connective.Connective
connective_in b code.True = connective.True
connective_in b code.Cut = connective.Cut
connective_in b (code.And l r) = connective.And (tree b l.0) (tree b r.0)
connective_in b (code.Or l r) = connective.Or (tree b l.0) (tree b r.0)
connective_in b (code.Implies c g) = connective.Implies (tree b c.0) (tree b g.0)
connective_in b (code.ForAll T t) = connective.ForAll (type_tree b T.0) (body_of (tree b t.0))
connective_in b (code.Exists T t) = connective.Exists (type_tree b T.0) (body_of (tree b t.0))
connective_in b (code.Not g) = connective.Not (tree b g.0)
connective_in b code.Atomic = connective.Atomic

abbrev pub IsConnectiveIn : Nodes → Connective → Type 0
IsConnectiveIn b code.True = Unit {0}
IsConnectiveIn b code.Cut = Unit {0}
IsConnectiveIn b (code.And l r) = (l.0 < length b.terms) × (r.0 < length b.terms)
IsConnectiveIn b (code.Or l r) = (l.0 < length b.terms) × (r.0 < length b.terms)
IsConnectiveIn b (code.Implies c g) = (c.0 < length b.terms) × (g.0 < length b.terms)
IsConnectiveIn b (code.ForAll T t) = (T.0 < length b.types) × (t.0 < length b.terms)
IsConnectiveIn b (code.Exists T t) = (T.0 < length b.types) × (t.0 < length b.terms)
IsConnectiveIn b (code.Not g) = g.0 < length b.terms
IsConnectiveIn b code.Atomic = Unit {0}
