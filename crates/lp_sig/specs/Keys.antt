-- The node that has a key.
use Rattle.lp_term.specs.Node.{TypeShape, var_node, param_node, con_node, arrow_node}
use Rattle.lp_sig.specs.declared.store.TypeKey.{TypeKey}
use Rattle.lp_sig.specs.declared.store.TypeKey.TheVariants.{Var, Param, Con, Arrow}

abbrev pub key_shape : TypeKey → TypeShape
key_shape (Var n) = var_node n
key_shape (Param k) = param_node k
key_shape (Con c ids) = con_node c ids.items
key_shape (Arrow a b) = arrow_node a b
