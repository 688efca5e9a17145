use Rattle.std.proofs.Common.{refl, sym, subst}
use Rattle.std.specs.Prelude.{All}
use Rattle.lp_unify.specs.Inside.{IsApart}
use Rattle.lp_unify.proofs.Apart.{all_apart_stays, variable_stays}
use Rattle.lp_unify.proofs.rules.join.Goals as goal

pub bind-requires : goal.bind-requires
bind-requires c =
    let x = c.args.variable.0 in
    let a = c.put_agreeing.new.store in
    let v = c.put_variable.new.store in
    let h = c.if-not-has.ensures.within refl in
    let i = variable_stays c.args.store.now a x c.in_ok-arguments.ensures.stays h in
    let j = variable_stays a v x c.in_ok-new.ensures.stays i in
    let k = variable_stays v c.put_application.new.store x c.in_ok-body.ensures.stays j in
    let l = subst (All (IsApart v x)) (sym c.as_slice.ensures.value) (all_apart_stays a v x c.in_ok-arguments.arguments.items c.in_ok-new.ensures.stays i (c.in_ok-arguments.ensures.apart x h)) in
    (c.in_ok-value.ensures.apart x k (c.in_ok-body.ensures.apart x j (c.in_ok-new.ensures.fresh x i) l)).1
