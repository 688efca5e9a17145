-- What may stand beside an operator without parentheses: the one table by which terms are read and shown.
use Rattle.std.specs.Prelude.{ℕ, Bool, true, false, ◌&&◌, ◌||◌, nat_eq, nat_lt}
use Rattle.lp_standard.specs.declared.fixity.Fixity.{Fixity}
use Rattle.lp_standard.specs.declared.fixity.Fixity.TheVariants.{Infixl, Infixr, Prefix, Prefixr, Postfix, Postfixl}

-- what stands at the top of a term: no operator, or this one
pub data Form : Type 0 where
  Whole : Form
  By : Fixity → ℕ → Form

abbrev pub is_left : Fixity → Bool
is_left Infixl = true
is_left Postfixl = true
is_left _ = false

abbrev pub is_right : Fixity → Bool
is_right Infixr = true
is_right Prefixr = true
is_right _ = false

-- the operand stands behind the operator
abbrev pub is_prefix : Fixity → Bool
is_prefix Prefix = true
is_prefix Prefixr = true
is_prefix _ = false

-- the operand stands before the operator
abbrev pub is_postfix : Fixity → Bool
is_postfix Postfix = true
is_postfix Postfixl = true
is_postfix _ = false

-- a term of this form may be the left operand, or the right operand, of an operator of number n: one of a greater number may, and one
-- of the same number where both group to that side
unfoldable pub fits_left : Form → Fixity → ℕ → Bool
fits_left Whole f n = true
fits_left (By g k) f n = nat_lt n k || (nat_eq n k && is_left f && is_left g)

unfoldable pub fits_right : Form → Fixity → ℕ → Bool
fits_right Whole f n = true
fits_right (By g k) f n = nat_lt n k || (nat_eq n k && is_right f && is_right g)
