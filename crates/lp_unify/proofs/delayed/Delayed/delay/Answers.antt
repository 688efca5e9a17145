use Rattle.std.proofs.Common.{◌∙◌, ◌∷◌, [], ap, refl}
use Rattle.std.specs.Prelude.{◌++◌}
use Rattle.lp_unify.specs.declared.delayed.Waiting.{Waiting}
use Rattle.lp_unify.proofs.Entries.{waits_pushed}
use Rattle.lp_unify.proofs.delayed.Delayed.delay.Goals as goal

pub returns-clause-added : goal.returns-clause-added
returns-clause-added c =
    let w : Waiting = record { left = c.args.pair.left; right = c.args.pair.right; level = c.args.pair.level; first = c.first-first.result } in
    (w, waits_pushed c.args.self.now c.push.new.self.items w c.first-first.result (c.in_ok-push.ensures.items ∙ ap (λ l. l ++ w ∷ []) c.self.view_is) refl c.first-first.ensures.within c.first-first.ensures.pairs, refl, refl, refl)
