use Rattle.std.proofs.Common.{◌∙◌, ◌-◌, ◌∷◌, ap, refl}
use Rattle.lp_calculus.specs.Term.{shift}
use Rattle.lp_store.specs.declared.cell.EnvEntry.TheVariants.{Value}
use Rattle.lp_store.specs.Contents.{env_list}
use Rattle.lp_susp.proofs.Laws.{raise_pending, raise_carries}
use Rattle.lp_susp.proofs.Chains.{extends_on, raise_avoids}
use Rattle.lp_susp.proofs.Raising.{raises_value, raised_avoids}
use Rattle.lp_susp.proofs.carrying.raise_first.Goals as goal

pub suspend-requires-clause-pending : goal.suspend-requires-clause-pending
suspend-requires-clause-pending c = raise_pending c.args.store.now _ c.nil.ensures refl

pub returns-clause-raises : goal.returns-clause-raises
returns-clause-raises c =
    let s = c.args.store.now in
    let a = c.suspend.new.store in
    let z = c.env.new.self in
    let v = c.in-Value.value in
    let l = c.in-Value.level in
    let x = c.in_ok-raised.raised in
    let rest = env_list s.envs c.in-Some.rest.0 in
    let p = c.in-Some.ensures.0 ∙ ap (λ y. y ∷ rest) c.in-Value.is in
    let q = c.in_ok-made.ensures.list ∙ ap (λ y. Value x c.args.nl ∷ y) (c.in_ok-raised.ensures.kept.envs c.in-Some.rest.0 c.in-Some.ensures.1) in
    raises_value s z c.args.nl l v x (env_list s.envs c.args.env.0) rest (env_list z.envs c.in_ok-made.made.0) p q c.requires.fits
    (λ u r. c.in_ok-made.ensures.kept.reads x.0 (shift 0 (c.args.nl - l) u) (c.in_ok-raised.ensures.reads u (shift 0 (c.args.nl - l) u) r (raise_carries s _ u (shift 0 (c.args.nl - l) u) c.nil.ensures refl)))
    (extends_on s a z c.in_ok-raised.ensures.kept c.in_ok-made.ensures.kept)

pub returns-clause-avoids : goal.returns-clause-avoids
returns-clause-avoids c = λ y h w.
    let s = c.args.store.now in
    let a = c.suspend.new.store in
    let z = c.env.new.self in
    let v = c.in-Value.value in
    let l = c.in-Value.level in
    let x = c.in_ok-raised.raised in
    let rest = env_list s.envs c.in-Some.rest.0 in
    let p = c.in-Some.ensures.0 ∙ ap (λ k. k ∷ rest) c.in-Value.is in
    let q = c.in_ok-made.ensures.list ∙ ap (λ k. Value x c.args.nl ∷ k) (c.in_ok-raised.ensures.kept.envs c.in-Some.rest.0 c.in-Some.ensures.1) in
    raised_avoids s a z y c.args.nl l v x (env_list s.envs c.args.env.0) rest (env_list z.envs c.in_ok-made.made.0) c.in_ok-raised.ensures.kept c.in_ok-made.ensures.kept (c.mark-mark.ensures.sound.envs c.args.env.0 c.requires.env) p q c.in_ok-raised.ensures.within
    (λ k. c.in_ok-raised.ensures.avoids y h k (raise_avoids s y c.nil.result.0 c.nil.ensures)) w
