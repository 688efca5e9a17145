-- What worked proofs and searches need to be written down.
use Rattle.std.specs.Prelude.{ℕ, zero, suc, [], Option, Some}
use Rattle.lp_calculus.specs.Types.{Ty, con, no_types, arrow}
use Rattle.lp_calculus.specs.Term.{Term, atom, app, constant}
use Rattle.lp_calculus.specs.Typing.{Scheme, o_type}
use Rattle.lp_standard.specs.Connectives.{two}
use Rattle.lp_model.specs.Proofs.{Declared}

abbrev pub known : ℕ → Term
known c = atom (constant c [])

abbrev pub kind : ℕ → Ty
kind k = con k no_types

-- a constant on one and on two arguments
abbrev pub on : ℕ → Term → Term
on c a = app (known c) a

abbrev pub impl : Term → Term → Term
impl a b = two 2 [] a b

abbrev pub plain_type : Ty → Option Scheme
plain_type T = Some (record { count = 0; body = T })

-- `=>` is 2, any other constant a predicate of the kind 8
abbrev pub one_predicate : Declared
one_predicate c = if_two c
  where
    if_two : ℕ → Option Scheme
    if_two (suc (suc zero)) = plain_type (arrow o_type (arrow o_type o_type))
    if_two n = plain_type (arrow (kind 8) o_type)
