use Rattle.std.proofs.Common.{refl, sym, subst, All, ◌<◌, length, reverse, arith}
use Rattle.std.proofs.lemmas.List.Elements.{All-append}
use Rattle.lp_lemmas.proofs.Elements.{All_reverse}
use Rattle.lp_susp.proofs.Keeping.{keeps_same, keeps_on, keeps_of}
use Rattle.lp_susp.proofs.Chains.{marks_on}
use Rattle.lp_store.specs.Contents.{cell_at}
use Rattle.lp_goal.specs.Spines.{IsTop}
use Rattle.lp_goal.proofs.Tops.{gathered_first, gathered_on, gathered_more, gathered_spine, exposed_top}
use Rattle.lp_goal.proofs.spine.gathered.Goals as goal

pub applications-init : goal.applications-init
applications-init c = record {
  within = c.requires;
  stack = subst (All (λ t. t.0 < length c.args.store.now.cells)) (sym c.new-stack.ensures.items) (λ k d h. absurd (omega arith));
  kept = keeps_same c.args.store.now;
  marks = λ m k. (k, refl);
  route = gathered_first c.args.store.now c.args.normal.0 c.new-stack.result.items c.new-stack.ensures.items;
}

pub applications-preserved : goal.applications-preserved
applications-preserved c =
    let o = c.args.store.now in
    let s = c.applications.store in
    let z = c.expose.new.store in
    let k = c.in_ok-at.ensures.kept in
    record {
      within = c.in-App.ensures.stands.0;
      stack = subst (All (λ t. t.0 < length z.cells)) (sym c.in_ok-push_reversed-in-App.ensures)
          (All-append (λ t. t.0 < length z.cells) c.applications.stack.items (reverse c.items.result.now) (λ i d h. omega (arith, c.applications.invariant.stack i d h, k.grows.more_cells)) (All_reverse (λ t. t.0 < length z.cells) c.items.result.now c.items.ensures.within));
      kept = keeps_on o s z c.applications.invariant.kept k;
      marks = marks_on o s z c.applications.invariant.marks c.in_ok-at.ensures.marks;
      route = λ t p.
          gathered_more z c.in_ok-at.at.0 c.in-App.head c.in-App.list c.applications.stack.items c.push_reversed.new.stack.items c.items.result.now c.in-App.ensures.cell c.items.ensures.items c.in_ok-push_reversed-in-App.ensures t
          (gathered_on s z c.applications.at.0 c.in_ok-at.at.0 c.applications.stack.items k.terms c.in_ok-at.ensures.reads t (c.applications.invariant.route t p));
    }

pub returns-in_default : goal.returns-in_default
returns-in_default c =
    let o = c.args.store.now in
    let s = c.applications.store in
    let z = c.expose.new.store in
    let y = c.listed.new.store in
    let k = c.in_ok-at.ensures.kept in
    let n = c.in_ok-arguments-in_default.ensures.kept in
    record {
      there = (omega (arith, c.in_ok-at.ensures.within, n.more_cells), c.in_ok-arguments-in_default.ensures.list);
      top = subst IsTop (sym (n.cells c.in_ok-at.at.0 c.in_ok-at.ensures.within)) (exposed_top c.cell.result (cell_at z c.in_ok-at.at.0) c.cell.ensures.cell c.in_ok-at.ensures.exposed c.in_default.not-App);
      spine = λ t p h.
          gathered_spine z y _ c.applications.stack.items n.reads c.in_ok-arguments-in_default.ensures.cells t h
          (gathered_on s z c.applications.at.0 c.in_ok-at.at.0 c.applications.stack.items k.terms c.in_ok-at.ensures.reads t (c.applications.invariant.route t p));
      kept = keeps_on o z y (keeps_on o s z c.applications.invariant.kept k) (keeps_of z y n);
      marks = marks_on o z y (marks_on o s z c.applications.invariant.marks c.in_ok-at.ensures.marks) c.in_ok-arguments-in_default.ensures.marks;
    }
