use Rattle.std.proofs.Common.{sym, subst}
use Rattle.std.specs.Prelude.{nat_eq}
use Rattle.std.specs.Ordering.{nat_cmp}
use Rattle.std.specs.BTreeMap.{get, is_at}
use Rattle.lp_code.specs.Denote.{with_key}
use Rattle.lp_verify.specs.inner.Keys.{IsKeyOf, told_key}
use Rattle.lp_verify.proofs.KeyLaws.{at_same, put_at}
use Rattle.lp_verify.proofs.keys.put_key.Goals as goal

pub returns : goal.returns
returns c = λ f k a h r.
    subst (λ o. IsKeyOf (told_key o) (with_key c.args.made k f r)) (sym (c.in_ok-insert.ensures.updates.0 r))
    (put_at (is_at (nat_cmp c.args.made) r) (nat_eq r c.args.made) c.args.key (get nat_cmp c.args.keys.now r) k (f r) (at_same c.args.made r) h (a r))
