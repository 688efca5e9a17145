use Rattle.std.proofs.Common.{◌≡◌, ◌∙◌, ap, length, arith}
use Rattle.std.specs.Prelude.{slice_get}
use Rattle.lp_lemmas.proofs.Lists.{get_push}
use Rattle.lp_plain.proofs.table.Table.put_free.Goals as goal

pub returns-clause-number : goal.returns-clause-number
returns-clause-number c =
    let f = c.args.self.now.frees in
    let e : c.len-number.result ≡ length f.items = omega (arith, c.len-number.ensures, f.ok) in
    ap (λ n. slice_get c.push.new.self.items n) e ∙ ap (λ l. slice_get l (length f.items)) c.in_ok-push.ensures.items ∙ get_push f.items c.args.free
