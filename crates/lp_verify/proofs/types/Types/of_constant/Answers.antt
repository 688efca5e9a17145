use Rattle.std.proofs.Common.{◌≡◌, ◌∙◌, Some, sym}
use Rattle.std.specs.Prelude.{if◌then◌else◌}
use Rattle.lp_code.specs.Naming.{scheme_in}
use Rattle.lp_verify.specs.declared.types.Types.{Types}
use Rattle.lp_verify.specs.declared.types.Use.{Use}
use Rattle.lp_verify.specs.inner.FirstNumbers.{type_used}
use Rattle.lp_verify.proofs.UsedConstants.{at_use, used_is, used_before, used_first, uses_grow, types_same, types_then}
use Rattle.lp_verify.proofs.types.Types.of_constant.Goals as goal

pub returns-in-Some-clause-grow : goal.returns-in-Some-clause-grow
returns-in-Some-clause-grow c = types_same c.args.self.now

pub returns-in-Some-clause-made : goal.returns-in-Some-clause-made
returns-in-Some-clause-made c =
    let x = c.args.self.now in
    let u : Use = record { constant = c.args.constant; types = c.in_ok-numbers.numbers } in
    let s = scheme_in c.args.bank.now c.args.scheme.type_vars c.args.scheme.body.0 in
    let there : type_used x u ≡ Some c.in-Some.id = sym (used_is x u) ∙ sym c.get.ensures.value ∙ sym c.copied-found.ensures ∙ c.in-Some.is in
    used_before x u s c.args.types.now c.in-Some.id c.in_ok-numbers.ensures there

pub returns-in_ok-insert-in-None-clause-grow : goal.returns-in_ok-insert-in-None-clause-grow
returns-in_ok-insert-in-None-clause-grow c =
    let m = c.put_instance.new.self in
    let y : Types = record { alloc = m.alloc; bank = m.bank; firsts = m.firsts; keys = m.keys; uses = c.insert.new.self; proposition = m.proposition; integer = m.integer; text = m.text } in
    types_then c.args.self.now m y c.in_ok-id-in-None.ensures.grow (uses_grow m y)

pub returns-in_ok-insert-in-None-clause-made : goal.returns-in_ok-insert-in-None-clause-made
returns-in_ok-insert-in-None-clause-made c =
    let x = c.args.self.now in
    let m = c.put_instance.new.self in
    let y : Types = record { alloc = m.alloc; bank = m.bank; firsts = m.firsts; keys = m.keys; uses = c.insert.new.self; proposition = m.proposition; integer = m.integer; text = m.text } in
    let u : Use = record { constant = c.args.constant; types = c.in_ok-numbers.numbers } in
    let s = scheme_in c.args.bank.now c.args.scheme.type_vars c.args.scheme.body.0 in
    used_first x m y u s c.args.types.now c.in_ok-id-in-None.id c.in_ok-numbers.ensures c.in_ok-id-in-None.ensures.grow c.in_ok-id-in-None.ensures.uses (uses_grow m y) c.in_ok-id-in-None.ensures.made
    (λ v. sym (used_is y v) ∙ c.in_ok-insert-in-None.ensures.updates.0 v ∙ (λ j. if at_use u v j then Some c.in_ok-id-in-None.id else used_is m v j))
