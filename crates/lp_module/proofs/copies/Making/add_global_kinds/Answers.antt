use Rattle.std.proofs.Common.{◌<◌, ◌+◌, [], length, map, take, ap, sym, subst, arith}
use Rattle.std.proofs.lemmas.List.{take_all}
use Rattle.lp_module.specs.Program.{kind_as, exported_among}
use Rattle.lp_module.specs.inner.Assembling.{AddsNames}
use Rattle.lp_module.specs.inner.Tables.{ArePlaces}
use Rattle.lp_module.proofs.Composing.{names_then}
use Rattle.lp_module.proofs.Adding.{names_none}
use Rattle.lp_module.proofs.Tabled.{adds_none, adds_kind, some_entry, one_exported, none_exported}
use Rattle.lp_module.proofs.copies.Making.add_global_kinds.Goals as goal

pub loop-at-init : goal.loop-at-init
loop-at-init c = (names_none c.args.self.now, adds_none c.args.self.now)

pub loop-at-preserved-then-index-ne0 : goal.loop-at-preserved-then-index-ne0
loop-at-preserved-then-index-ne0 c =
    let xs = c.args.root.now.module.now.signature.kinds.items in
    let hidden = c.args.root.now.module.now.hidden_kinds.items in
    let m = ap length c.kinds-kinds.ensures in
    let h : c.loop-at.at < length c.kinds-kinds.result.now = omega (arith, c.loop-at-test.true, c.len-at-end.ensures, c.in_ok-places.places.ok, c.in_ok-places.ensures.count) in
    let are = subst (λ l. ArePlaces 8 (length c.kinds-kinds.result.now) l 0 c.in_ok-places.places.items) c.as_slice-hidden.ensures.value c.in_ok-places.ensures in (
      c.loop-at.invariant.0,
      subst (λ l. AddsNames c.args.self.now c.loop-at.self (map (kind_as 0) l) [] [])
          (sym (none_exported 8 (length c.kinds-kinds.result.now) hidden xs c.in_ok-places.places.items are c.loop-at.at c.index.result.now h c.index.ensures m (λ z. omega (arith, z, c.if-index-ne0.true)))) c.loop-at.invariant.1,
    )

pub loop-at-preserved : goal.loop-at-preserved
loop-at-preserved c =
    let xs = c.args.root.now.module.now.signature.kinds.items in
    let hidden = c.args.root.now.module.now.hidden_kinds.items in
    let h : c.loop-at.at < length c.kinds-kinds.result.now = omega (arith, c.loop-at-test.true, c.len-at-end.ensures, c.in_ok-places.places.ok, c.in_ok-places.ensures.count) in
    let are = subst (λ l. ArePlaces 8 (length c.kinds-kinds.result.now) l 0 c.in_ok-places.places.items) c.as_slice-hidden.ensures.value c.in_ok-places.ensures in
    let there = some_entry xs c.kinds-kinds.result.now c.loop-at.at c.in-Some.entry.now c.kinds-kinds.ensures c.in-Some.ensures.lookup.3.0 c.in-Some.ensures.lookup.1 in (
      names_then c.args.self.now c.loop-at.self c.add_global_kind.new.self c.loop-at.invariant.0 c.in_ok-add_global_kind.ensures.made,
      adds_kind c.args.self.now c.loop-at.self c.add_global_kind.new.self (kind_as 0) (exported_among 8 hidden (take c.loop-at.at xs)) (exported_among 8 hidden (take (c.loop-at.at + 1) xs)) c.in-Some.entry.now _ c.loop-at.invariant.0.0
          (one_exported 8 (length c.kinds-kinds.result.now) hidden xs c.in_ok-places.places.items are c.loop-at.at c.index.result.now h c.index.ensures c.in-Some.entry.now there c.if-index-ne0.false)
          (ap (λ n. (n, (0, c.in-Some.entry.now.arity))) c.as_slice.ensures.value) c.loop-at.invariant.1 c.in_ok-add_global_kind.ensures.names,
    )

pub returns-clause-made : goal.returns-clause-made
returns-clause-made c = c.loop-at.invariant.0

pub returns-clause-names : goal.returns-clause-names
returns-clause-names c =
    let m = ap length c.kinds-kinds.ensures in
    subst (λ l. AddsNames c.args.self.now c.loop-at.self (map (kind_as 0) (exported_among 8 c.args.root.now.module.now.hidden_kinds.items l)) [] [])
    (take_all c.loop-at.at c.args.root.now.module.now.signature.kinds.items (omega (arith, m, c.loop-at-test.false, c.len-at-end.ensures, c.in_ok-places.places.ok, c.in_ok-places.ensures.count))) c.loop-at.invariant.1

pub unreachable-requires : goal.unreachable-requires
unreachable-requires c =
    let h : c.loop-at.at < length c.kinds-kinds.result.now = omega (arith, c.loop-at-test.true, c.len-at-end.ensures, c.in_ok-places.places.ok, c.in_ok-places.ensures.count) in
    omega (arith, h, c.in_default.ensures.lookup.3)
