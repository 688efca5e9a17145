use Rattle.std.proofs.Common.{◌≡◌, length, map, arith, refl, ◌∷◌, []}
use Rattle.std.proofs.lemmas.List.{length-map}
use Rattle.lp_sig.proofs.Constancy.{known_more, typed_if_more}
use Rattle.lp_sig.proofs.Worded.{words_new}
use Rattle.lp_sig.proofs.Taking.{one_added}
use Rattle.lp_sig.proofs.constants.Constants.add.Goals as goal

pub returns-clause-added : goal.returns-clause-added
returns-clause-added c = λ b said defs rows w k new typed.
    let old = c.args.self.now.constants.items in
    let l = length-map old (λ k. k.name.items) in
    let n : c.len-place.result ≡ length (map (λ k. k.name.items) old) = omega (arith, c.len-place.ensures, c.args.self.now.constants.ok, l) in
    known_more b c.args.self.now _ said defs rows c.args.word.now w k new _ typed c.in_ok-name.ensures.items c.in_ok-push.ensures.items
    (c.in_ok-add.ensures.added (map (λ k. k.name.items) old) n k.places)

pub returns-clause-typed : goal.returns-clause-typed
returns-clause-typed c = λ from z rows w new typed some. typed_if_more from z rows c.args.self.now _ c.args.word.now w _ new c.in_ok-push.ensures.items some typed

pub returns-clause-words : goal.returns-clause-words
returns-clause-words c = λ words new h.
    let old = c.args.self.now.constants.items in
    let l = length-map old (λ k. k.name.items) in
    let n : c.len-place.result ≡ length (map (λ k. k.name.items) old) = omega (arith, c.len-place.ensures, c.args.self.now.constants.ok, l) in
    words_new c.args.self.now _ words c.args.word.now _ new c.in_ok-name.ensures.items c.in_ok-push.ensures.items (c.in_ok-add.ensures.added (map (λ k. k.name.items) old) n h.places) h

pub returns-clause-grown : goal.returns-clause-grown
returns-clause-grown c = (record { name = c.in_ok-name.name; declared = c.args.declared } ∷ [], c.in_ok-push.ensures.items)

pub returns-clause-put : goal.returns-clause-put
returns-clause-put c = λ d is. (record { name = c.in_ok-name.name; declared = c.args.declared }, c.in_ok-name.ensures.items, is, c.in_ok-push.ensures.items)

pub returns-clause-adds : goal.returns-clause-adds
returns-clause-adds c = one_added c.args.self.now.constants.items _ c.args.word.now c.args.declared (record { name = c.in_ok-name.name; declared = c.args.declared }) c.in_ok-push.ensures.items c.in_ok-name.ensures.items refl
