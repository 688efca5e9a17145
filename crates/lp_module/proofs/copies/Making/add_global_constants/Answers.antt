use Rattle.std.proofs.Common.{◌<◌, ◌+◌, ◌∙◌, [], length, map, take, ap, sym, subst, arith}
use Rattle.std.proofs.lemmas.List.{take_all}
use Rattle.lp_term.specs.Mapped.{mapped_type}
use Rattle.lp_term.specs.Memo.{AreMade}
use Rattle.lp_term.specs.Nodes.{type_tree}
use Rattle.lp_term.proofs.Memos.{made_later}
use Rattle.lp_infer.specs.Texts.{entry_scheme}
use Rattle.lp_module.specs.Program.{map_of, constant_as, scheme_in, exported_among}
use Rattle.lp_module.specs.inner.Assembling.{copy_of, AddsNames}
use Rattle.lp_module.specs.inner.Tables.{ArePlaces}
use Rattle.lp_module.proofs.Composing.{names_then, bank_grown}
use Rattle.lp_module.proofs.Adding.{names_none, is_map}
use Rattle.lp_module.proofs.Tabled.{with_bank, with_body, adds_none, adds_constant, some_entry, one_exported, none_exported}
use Rattle.lp_module.proofs.copies.Making.add_global_constants.Goals as goal

pub loop-at-init : goal.loop-at-init
loop-at-init c = (names_none c.args.self.now, c.new-types.ensures (map_of (copy_of 0 c.args.root.now)) c.args.root.now.module.now.signature.bank c.args.self.now.bank, adds_none c.args.self.now)

pub add_global_constant-requires : goal.add_global_constant-requires
add_global_constant-requires c = c.in_ok-scheme.ensures.within

pub loop-at-preserved-then-index-ne0 : goal.loop-at-preserved-then-index-ne0
loop-at-preserved-then-index-ne0 c =
    let b = c.args.root.now.module.now.signature.bank in
    let xs = c.args.root.now.module.now.signature.constants.items in
    let hidden = c.args.root.now.module.now.hidden_constants.items in
    let m = ap length c.constants.ensures in
    let h : c.loop-at.at < length c.constants.result.now = omega (arith, c.loop-at-test.true, c.len-at-end.ensures, c.in_ok-places.places.ok, c.in_ok-places.ensures.count) in
    let are = subst (λ l. ArePlaces 32 (length c.constants.result.now) l 0 c.in_ok-places.places.items) c.as_slice-hidden.ensures.value c.in_ok-places.ensures in (
      c.loop-at.invariant.0,
      c.loop-at.invariant.1,
      subst (λ l. AddsNames c.args.self.now c.loop-at.self [] (map (constant_as 0) l) (map (λ e. scheme_in (copy_of 0 c.args.root.now) (entry_scheme b e)) l))
          (sym (none_exported 32 (length c.constants.result.now) hidden xs c.in_ok-places.places.items are c.loop-at.at c.index.result.now h c.index.ensures m (λ z. omega (arith, z, c.if-index-ne0.true)))) c.loop-at.invariant.2,
    )

pub loop-at-preserved : goal.loop-at-preserved
loop-at-preserved c =
    let b = c.args.root.now.module.now.signature.bank in
    let xs = c.args.root.now.module.now.signature.constants.items in
    let hidden = c.args.root.now.module.now.hidden_constants.items in
    let entry = c.in-Some.entry.now in
    let m = map_of (copy_of 0 c.args.root.now) in
    let is = is_map c.args.root.now c.bank.result.now c.loop-at.self.bank in
    let old = subst (λ b. AreMade m b c.loop-at.self.bank c.loop-at.types) (sym c.bank.ensures) c.loop-at.invariant.1 in
    let memo = subst (λ b. AreMade m b c.copy_type.new.to c.copy_type.new.self) c.bank.ensures (c.in_ok-scheme.ensures.memo m is old) in
    let made = c.in_ok-scheme.ensures.made m is old ∙ ap (λ b. mapped_type m (type_tree b entry.scheme.0)) c.bank.ensures in
    let h : c.loop-at.at < length c.constants.result.now = omega (arith, c.loop-at-test.true, c.len-at-end.ensures, c.in_ok-places.places.ok, c.in_ok-places.ensures.count) in
    let are = subst (λ l. ArePlaces 32 (length c.constants.result.now) l 0 c.in_ok-places.places.items) c.as_slice-hidden.ensures.value c.in_ok-places.ensures in
    let there = some_entry xs c.constants-in-loop-at.result.now c.loop-at.at entry c.constants-in-loop-at.ensures c.in-Some.ensures.lookup.3.0 c.in-Some.ensures.lookup.1 in (
      names_then c.args.self.now (with_bank c.loop-at.self c.copy_type.new.to) c.add_global_constant.new.self
          (names_then c.args.self.now c.loop-at.self (with_bank c.loop-at.self c.copy_type.new.to) c.loop-at.invariant.0
          (bank_grown c.loop-at.self c.copy_type.new.to c.copy_type.ensures.kept)) c.in_ok-add_global_constant.ensures.made,
      made_later m b c.copy_type.new.to c.add_global_constant.new.self.bank c.copy_type.new.self c.in_ok-add_global_constant.ensures.made.2 memo,
      adds_constant c.args.self.now c.loop-at.self c.add_global_constant.new.self c.copy_type.new.to (constant_as 0) (λ e. scheme_in (copy_of 0 c.args.root.now) (entry_scheme b e)) (exported_among 32 hidden (take c.loop-at.at xs))
          (exported_among 32 hidden (take (c.loop-at.at + 1) xs)) entry _ c.loop-at.invariant.0.0 c.copy_type.ensures.kept
          (one_exported 32 (length c.constants.result.now) hidden xs c.in_ok-places.places.items are c.loop-at.at c.index.result.now h c.index.ensures entry there c.if-index-ne0.false) (ap (with_body entry.type_vars) made)
          c.loop-at.invariant.2 c.in_ok-add_global_constant.ensures.names,
    )

pub returns-clause-made : goal.returns-clause-made
returns-clause-made c = c.loop-at.invariant.0

pub returns-clause-names : goal.returns-clause-names
returns-clause-names c =
    let b = c.args.root.now.module.now.signature.bank in
    let m = ap length c.constants.ensures in
    subst
    (λ l. AddsNames c.args.self.now c.loop-at.self [] (map (constant_as 0) (exported_among 32 c.args.root.now.module.now.hidden_constants.items l))
    (map (λ e. scheme_in (copy_of 0 c.args.root.now) (entry_scheme b e)) (exported_among 32 c.args.root.now.module.now.hidden_constants.items l)))
    (take_all c.loop-at.at c.args.root.now.module.now.signature.constants.items (omega (arith, m, c.loop-at-test.false, c.len-at-end.ensures, c.in_ok-places.places.ok, c.in_ok-places.ensures.count))) c.loop-at.invariant.2

pub unreachable-requires : goal.unreachable-requires
unreachable-requires c =
    let h : c.loop-at.at < length c.constants.result.now = omega (arith, c.loop-at-test.true, c.len-at-end.ensures, c.in_ok-places.places.ok, c.in_ok-places.ensures.count) in
    let m = ap length c.constants.ensures in
    let n = ap length c.constants-in-loop-at.ensures in
    omega (arith, h, m, n, c.in_default.ensures.lookup.3)
