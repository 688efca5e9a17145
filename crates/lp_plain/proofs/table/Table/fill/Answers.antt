use Rattle.std.proofs.Common.{◌<◌, ◌≤◌, length, refl, arith}
use Rattle.lp_lemmas.proofs.Lists.{drop_read, get_read}
use Rattle.lp_plain.proofs.Tabled.{filled_begins, filled_lighter, filled_more, filled_ends}
use Rattle.lp_plain.proofs.Within.{late_stays, late_at}
use Rattle.lp_plain.proofs.table.Table.fill.Goals as goal

pub lists-init : goal.lists-init
lists-init c = (filled_begins c.args.bank.now c.args.first c.args.self.now c.args.waiting.now.items c.requires, λ s. s)

pub lists-preserved : goal.lists-preserved
lists-preserved c =
    let n = length c.args.bank.now.terms in
    let l = c.lists.waiting.items in
    let g = c.index-goals.result.now in
    let lt : c.lists.done < length l = omega (arith, c.lists-test.true, c.len.ensures, c.lists.waiting.ok) in (
      filled_more c.args.bank.now c.args.first c.lists.done c.args.self.now c.lists.self c.add_list.new.self _ c.args.waiting.now.items l c.add_list.new.waiting.items g c.in_ok-span.span c.lists.invariant.0 lt
          (drop_read l c.lists.done g lt c.index-goals.ensures) c.in_ok-span.ensures.put refl refl refl refl,
      late_stays n _ _ _ _ _ _ _ g c.lists.invariant.1 (late_at n c.lists.done c.lists.self l g (get_read l l c.lists.done g g refl lt c.index-goals.ensures)) c.in_ok-span.ensures.within refl refl,
    )

pub lists-smaller : goal.lists-smaller
lists-smaller c =
    let lt : c.lists.done < length c.lists.waiting.items = omega (arith, c.lists-test.true, c.len.ensures, c.lists.waiting.ok) in
    filled_lighter c.args.bank.now c.args.first c.lists.done c.args.self.now c.lists.self c.add_list.new.self c.add_list.new.self c.args.waiting.now.items c.lists.waiting.items c.add_list.new.waiting.items c.index-goals.result.now c.in_ok-span.span c.lists.invariant.0 lt
    (drop_read c.lists.waiting.items c.lists.done c.index-goals.result.now lt c.index-goals.ensures) c.in_ok-span.ensures.put

pub returns-clause-filled : goal.returns-clause-filled
returns-clause-filled c =
    let h : length c.lists.waiting.items ≤ c.lists.done = omega (arith, c.lists-test.false, c.len.ensures, c.lists.waiting.ok) in
    filled_ends c.args.bank.now c.args.first c.lists.done c.args.self.now c.lists.self c.args.waiting.now.items c.lists.waiting.items c.lists.invariant.0 h

pub returns-clause-within : goal.returns-clause-within
returns-clause-within c = λ s. (c.lists.invariant.1 s).table
