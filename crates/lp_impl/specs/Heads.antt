-- One predicate, or two.
use Rattle.std.specs.Prelude.{ℕ, Bool, false, nat_eq}
use Rattle.lp_impl.specs.declared.head.Head.{Head}
use Rattle.lp_impl.specs.declared.head.Head.TheVariants.{Const, Eigen}

abbrev pub is_head : Head → Head → Bool
is_head (Const c) (Const d) = nat_eq c d
is_head (Const c) (Eigen k) = false
is_head (Eigen k) (Const d) = false
is_head (Eigen k) (Eigen j) = nat_eq k j
