use Rattle.std.proofs.Common.{◌≡◌, ◌<◌, length, get_or, subst, sym, ap, ◌∙◌}
use Rattle.lp_sig.proofs.AbbreviationEntries.{rows_more, entry_bodies_more}
use Rattle.lp_sig.proofs.making.Making.abbreviations.Goals as goal

pub loop-place-preserved : goal.loop-place-preserved
loop-place-preserved c =
    let bodies = c.args.self.now.bodies.bodies.items in
    let heads = c.args.self.now.names.heads.items in
    let i = c.loop-place.place in
    let same = c.deref-head-items.ensures.value in
    let h : i < length heads = subst (λ l. i < length l) same c.loop-place-test.true in
    let at : c.head-item.result ≡ get_or heads i c.head-item.result = c.head-item.is ∙ ap (λ l. get_or l i c.head-item.result) same in
    let old = c.loop-place.entries.items in
    let new = c.push.new.self.items in
    record {
      rows = rows_more bodies heads i c.head-item.result old new c.in_ok-entry.entry h at c.in_ok-push.ensures.items c.loop-place.invariant.rows c.in_ok-entry.ensures.row;
      bodies = entry_bodies_more bodies heads i c.head-item.result old new c.in_ok-entry.entry h at c.in_ok-push.ensures.items c.loop-place.invariant.rows c.loop-place.invariant.bodies (sym c.body_at.ensures ∙ c.in_ok-entry.ensures.body);
    }
