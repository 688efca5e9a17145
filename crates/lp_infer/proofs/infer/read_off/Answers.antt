use Rattle.std.proofs.Common.{◌∙◌, arith, sym, ap, subst, length, take, drop}
use Rattle.lp_term.specs.Within.{AreTypesOf}
use Rattle.lp_term.proofs.Within.{types_later}
use Rattle.lp_infer.specs.Copies.{trees_of}
use Rattle.lp_infer.specs.Filling.{fills, IsTerm}
use Rattle.lp_infer.specs.ReadingOff.{bound_type, ReadsAll}
use Rattle.lp_infer.proofs.Joining.{has_types}
use Rattle.lp_infer.proofs.Needs.{read_many}
use Rattle.lp_infer.proofs.infer.read_off.Goals as goal

pub returns-clause-types : goal.returns-clause-types
returns-clause-types c =
    let A = bound_type c.args.typing.now.types c.args.bindings.now.made in
    let types = c.in_ok-types.types.items in
    let spots = c.args.places.now in
    let R = subst (λ ids. ReadsAll A c.read_all.new.to c.new-reading.result c.read_all.new.self ids types) c.as_slice.ensures.value (c.in_ok-types.ensures.read (c.new-reading.ensures.memo A c.args.bank.now)) in
    let term = c.in_ok-formula.ensures.term c.new-terms.ensures.stack (subst (AreTypesOf c.read_all.new.to) (sym c.as_slice-2.ensures.value) R.are.known) in
    has_types c.args.source.now c.args.steps.now spots A c.read_all.new.to c.formula.new.bank c.args.typing.now.wanted.items types c.new-reading.result c.read_all.new.self _ c.in_ok-formula.ensures.kept c.new-reading.ensures.numbers R
    (c.in_ok-vars.ensures.are.0, c.in_ok-vars.ensures.are.1 ∙ ap (take (length spots)) c.as_slice-3.ensures.value)
    (λ S d τ e.
    subst (λ n. IsTerm c.formula.new.bank c.in_ok-formula.formula (fills S (drop n (trees_of c.read_all.new.to types))).0) c.new-terms.ensures.used
    (subst (λ l. IsTerm c.formula.new.bank c.in_ok-formula.formula (fills S (drop c.new-terms.result.used (trees_of c.read_all.new.to l))).0) c.as_slice-2.ensures.value (term S d τ e)))
    c.count.ensures

pub returns-clause-stands : goal.returns-clause-stands
returns-clause-stands c = record { formula = c.in_ok-formula.ensures.within; types = c.in_ok-vars.ensures.known }

pub variables-requires-clause-known : goal.variables-requires-clause-known
variables-requires-clause-known c =
    let A = bound_type c.args.typing.now.types c.args.bindings.now.made in
    let R = c.in_ok-types.ensures.read (c.new-reading.ensures.memo A c.args.bank.now) in
    types_later c.read_all.new.to c.formula.new.bank c.as_slice-3.result.now c.in_ok-formula.ensures.kept (subst (AreTypesOf c.read_all.new.to) (sym c.as_slice-3.ensures.value) R.are.known)

pub variables-requires-clause-enough : goal.variables-requires-clause-enough
variables-requires-clause-enough c =
    let A = bound_type c.args.typing.now.types c.args.bindings.now.made in
    let R = c.in_ok-types.ensures.read (c.new-reading.ensures.memo A c.args.bank.now) in
    let many = read_many A c.read_all.new.to c.new-reading.result c.read_all.new.self c.as_slice.result.now c.in_ok-types.types.items R in
    omega (arith, many, ap length c.as_slice.ensures.value, ap length c.as_slice-3.ensures.value, c.requires.wanted)

pub formula-requires-clause-known : goal.formula-requires-clause-known
formula-requires-clause-known c =
    let A = bound_type c.args.typing.now.types c.args.bindings.now.made in
    let R = c.in_ok-types.ensures.read (c.new-reading.ensures.memo A c.args.bank.now) in
    subst (AreTypesOf c.read_all.new.to) (sym c.as_slice-2.ensures.value) R.are.known

pub formula-requires-clause-arguments : goal.formula-requires-clause-arguments
formula-requires-clause-arguments c =
    let A = bound_type c.args.typing.now.types c.args.bindings.now.made in
    let R = c.in_ok-types.ensures.read (c.new-reading.ensures.memo A c.args.bank.now) in
    let many = read_many A c.read_all.new.to c.new-reading.result c.read_all.new.self c.as_slice.result.now c.in_ok-types.types.items R in
    omega (arith, many, ap length c.as_slice.ensures.value, ap length c.as_slice-2.ensures.value, c.new-terms.ensures.used, c.requires.wanted)

pub read_all-requires-clause-known : goal.read_all-requires-clause-known
read_all-requires-clause-known c = subst (AreTypesOf c.args.typing.now.types) (sym c.as_slice.ensures.value) c.requires.known
