use Rattle.std.proofs.Common.{[], ap}
use Rattle.lp_calculus.specs.Types.{con, tys}
use Rattle.lp_verify.specs.declared.types.Types.{Types}
use Rattle.lp_verify.proofs.FirstTypes.{nothing_found, basics_put, none_used, uses_basics}
use Rattle.lp_verify.proofs.types.Types.new.Goals as goal

pub returns : goal.returns
returns c =
    let x : Types = record { alloc = c.args.alloc; bank = c.new.result; firsts = c.new-2.result; keys = c.new-3.result; uses = c.new-4.result; proposition = record { 0 = 0 }; integer = record { 0 = 0 }; text = record { 0 = 0 } } in
    let a = nothing_found x c.new.ensures.types c.new.ensures.terms c.new-2.ensures.items c.new-3.ensures.empty in
    let y = c.con.new.self in
    let z = c.con-2.new.self in
    let w = c.con-3.new.self in
    let p = c.in_ok-types.field-0 in
    let i = c.in_ok-types-2.field-0 in
    let s = c.in_ok-types-3.field-0 in (
      basics_put x y z w p i s c.number.result c.number-2.result c.number-3.result a c.in_ok-types.ensures.grow.0 c.in_ok-types-2.ensures.grow.0 c.in_ok-types-3.ensures.grow.0 c.in_ok-types.ensures.made c.in_ok-types-2.ensures.made c.in_ok-types-3.ensures.made
          (ap (λ k. con k (tys [])) c.number.ensures.number) (ap (λ k. con k (tys [])) c.number-2.ensures.number) (ap (λ k. con k (tys [])) c.number-3.ensures.number),
      λ t. uses_basics t w w.proposition w.integer s (c.in_ok-types-3.ensures.grow.1 t (uses_basics t z z.proposition i z.text (c.in_ok-types-2.ensures.grow.1 t (uses_basics t y p y.integer y.text (c.in_ok-types.ensures.grow.1 t (none_used t x c.new-4.ensures.empty)))))),
    )
