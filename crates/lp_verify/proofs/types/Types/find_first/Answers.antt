use Rattle.std.proofs.Common.{◌≡◌, ◌∙◌, Some, None, refl, sym}
use Rattle.std.specs.Prelude.{if◌then◌else◌}
use Rattle.lp_verify.specs.declared.types.Types.{Types}
use Rattle.lp_verify.specs.inner.FirstNumbers.{number_at}
use Rattle.lp_verify.proofs.FirstTypes.{at_key, number_is, first_stays, found_again, found_first}
use Rattle.lp_verify.proofs.types.Types.find_first.Goals as goal

pub returns-in_ok-push-in-Some-clause-found : goal.returns-in_ok-push-in-Some-clause-found
returns-in_ok-push-in-Some-clause-found c = λ a room.
    let x = c.args.self.now in
    let n = c.args.number in
    let k = c.in_ok-key.key in
    let f = c.in-Some.first in
    let y : Types = record { alloc = x.alloc; bank = x.bank; firsts = c.push.new.self; keys = x.keys; uses = x.uses; proposition = x.proposition; integer = x.integer; text = x.text } in
    let items = c.in_ok-push-in-Some.ensures.items in
    let there : number_at x k ≡ Some f = sym (number_is x k) ∙ sym c.get.ensures.value ∙ sym c.copied-found.ensures ∙ c.in-Some.is in
    (found_again x y n f k a room refl c.in_ok-key.ensures items there refl, first_stays x y n f k a room refl c.in_ok-key.ensures items)

pub returns-in_ok-insert-in-None-clause-found : goal.returns-in_ok-insert-in-None-clause-found
returns-in_ok-insert-in-None-clause-found c = λ a room.
    let x = c.args.self.now in
    let n = c.args.number in
    let k = c.in_ok-key.key in
    let y : Types = record { alloc = x.alloc; bank = x.bank; firsts = c.push-in-None.new.self; keys = c.insert.new.self; uses = x.uses; proposition = x.proposition; integer = x.integer; text = x.text } in
    let items = c.in_ok-push-in-None.ensures.items in
    let none : number_at x k ≡ None = sym (number_is x k) ∙ sym c.get.ensures.value ∙ sym c.copied-found.ensures ∙ c.in-None.is in (
      found_first x y n n k a room refl c.in_ok-key.ensures items none refl (λ q. sym (number_is y q) ∙ c.in_ok-insert-in-None.ensures.updates.0 q ∙ (λ j. if at_key k q j then Some n else number_is x q j)),
      first_stays x y n n k a room refl c.in_ok-key.ensures items,
    )
