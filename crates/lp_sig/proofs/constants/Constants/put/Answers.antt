use Rattle.std.proofs.Common.{◌≡◌, ◌+◌, ◌<◌, ◌≤◌, Some, None, length, map, refl, subst, arith}
use Rattle.std.specs.Prelude.{IfSome}
use Rattle.lp_base.specs.declared.limits.TheConstants.{END_OF_NUMBERS}
use Rattle.lp_sig.proofs.Told.{room_so}
use Rattle.std.proofs.lemmas.List.{length-map}
use Rattle.lp_sig.proofs.Worded.{words_new}
use Rattle.lp_sig.proofs.constants.Constants.put.Goals as goal

pub returns-clause-words : goal.returns-clause-words
returns-clause-words c = λ words new h.
    let old = c.args.self.now.constants.items in
    let l = length-map old (λ k. k.name.items) in
    let n : c.len-place.result ≡ length (map (λ k. k.name.items) old) = omega (arith, c.len-place.ensures, c.args.self.now.constants.ok, l) in
    words_new c.args.self.now _ words c.args.word.now _ new c.in_ok-name.ensures.items c.in_ok-push.ensures.items (c.in_ok-add.ensures.added (map (λ k. k.name.items) old) n h.places) h

pub returns-clause-put : goal.returns-clause-put
returns-clause-put c = (record { name = c.in_ok-name.name; declared = Some c.args.declared }, c.in_ok-name.ensures.items, refl, c.in_ok-push.ensures.items)

pub returns-clause-room : goal.returns-clause-room
returns-clause-room c =
    let old = c.args.self.now.constants.items in
    let n : c.len-place.result ≡ length old = omega (arith, c.len-place.ensures, c.args.self.now.constants.ok) in
    room_so c.constant_number.result (length old) c.is_some.result (subst (λ k. IfSome c.constant_number.result (λ n. (n ≡ 32 + k) × (32 + k < END_OF_NUMBERS))) n c.constant_number.ensures.some)
    (subst (λ k. c.constant_number.result ≡ None → END_OF_NUMBERS ≤ 32 + k) n c.constant_number.ensures.none) c.is_some.ensures
