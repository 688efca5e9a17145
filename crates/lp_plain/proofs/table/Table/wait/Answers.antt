use Rattle.std.proofs.Common.{◌≡◌, length, refl, arith}
use Rattle.lp_plain.proofs.Tabled.{put_list}
use Rattle.lp_plain.proofs.Within.{list_stays}
use Rattle.lp_plain.proofs.table.Table.wait.Goals as goal

pub returns-clause-put : goal.returns-clause-put
returns-clause-put c = λ b.
    let l = c.args.self.now.lists in
    let e : c.len-number.result ≡ length l.items = omega (arith, c.len-number.ensures, l.ok) in
    put_list b _ _ _ _ c.args.goals _ refl refl refl c.in_ok-push.ensures.items c.in_ok-push-2.ensures.items c.len-number.result e

pub returns-clause-within : goal.returns-clause-within
returns-clause-within c = λ n. list_stays n _ _ _ _ c.args.goals refl refl c.in_ok-push-2.ensures.items
