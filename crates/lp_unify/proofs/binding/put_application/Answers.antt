use Rattle.std.proofs.Common.{◌≡◌, ◌∙◌, ap, sym, subst, arith}
use Rattle.std.specs.Prelude.{All, ◌++◌}
use Rattle.lp_store.specs.declared.cell.Cell.TheVariants.{App}
use Rattle.lp_store.specs.Contents.{span}
use Rattle.lp_susp.proofs.Chains.{span_made}
use Rattle.lp_unify.specs.Inside.{AvoidsIn}
use Rattle.lp_unify.proofs.Frames.{stays_extends}
use Rattle.lp_unify.proofs.Apart.{all_apart_stays, apart_pushed}
use Rattle.lp_unify.proofs.Ways.{apart_avoids, app_avoids_all}
use Rattle.lp_unify.proofs.binding.put_application.Goals as goal

pub returns-clause-apart : goal.returns-clause-apart
returns-clause-apart c = λ x h n a.
    let o = c.args.store.now in
    let z = c.list.new.self in
    let l = c.in_ok-list.list in
    let k = stays_extends o z c.in_ok-list.ensures.kept c.in_ok-list.ensures.marks in
    let p : o.items ++ c.args.arguments.now ≡ z.items = sym (ap (λ y. y.items) c.in_ok-list.ensures.put) in
    let q : c.args.arguments.now ≡ span z.items l.from l.count =
    sym (span_made o.items c.args.arguments.now l.from l.count c.in_ok-list.ensures.span.0 c.in_ok-list.ensures.span.1) ∙ ap (λ y. span y l.from l.count) p in
    apart_pushed z c.push.new.self (App c.args.head l) c.in_ok-id.id x c.in_ok-id.ensures.pushed c.in_ok-id.ensures.id
    (c.in_ok-id.ensures.avoids x (omega (arith, h, k.grows.more_cells))
    (app_avoids_all z x c.args.head l (k.avoids x c.args.head.0 h n.0 n.1) (subst (All (AvoidsIn z x)) q (apart_avoids z x c.args.arguments.now (all_apart_stays o z x c.args.arguments.now k h a)))))
