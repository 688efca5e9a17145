use Rattle.std.proofs.Common.{◌+◌, ℕ, Bool, List, [], drop, length, map, ap, refl, subst, arith}
use Rattle.std.proofs.lemmas.List.{length-map}
use Rattle.lp_term.proofs.Trees.{extends_same}
use Rattle.lp_code.specs.declared.object.ObjectKind.{ObjectKind}
use Rattle.lp_link.specs.Linked.{kinds_of}
use Rattle.lp_link.specs.Names.{exported_of, as_global, kind_rows, exported_kind_rows}
use Rattle.lp_link.specs.inner.Tabled.{arities_of, KindsSoFar}
use Rattle.lp_link.specs.inner.Named.{AddsRows, SoFar}
use Rattle.lp_link.proofs.AddedTables.{tables_grown, kinds_begin, kinds_next, kinds_done, exported_passed, exported_picked, none_exported, kind_entry}
use Rattle.lp_link.proofs.NamedRows.{so_far_done}
use Rattle.lp_link.proofs.NamedTables.{rows_kept, kind_row_at, global_kind_next}
use Rattle.lp_link.proofs.image.Making.add_global_kinds.Goals as goal

pub loop-at-init : goal.loop-at-init
loop-at-init c = (
  kinds_begin c.args.self.now (exported_of (kinds_of c.args.root.now.member.now.object.now) (arities_of c.args.root.now.member.now.object.now)) (extends_same c.args.self.now.bank),
  ([], rows_kept c.args.self.now c.args.self.now refl refl refl refl, refl),
)

pub loop-at-preserved-then-not-kind : goal.loop-at-preserved-then-not-kind
loop-at-preserved-then-not-kind c =
    let o = c.args.root.now.member.now.object.now in
    let k = c.index-kinds-at.result in
    let (e, f) = kind_entry o c.as_slice-kinds.result.now c.loop-at.at k c.as_slice-kinds.ensures.value c.loop-at-test.true c.index-kinds-at.is in
    let (_, g) = kind_row_at o c.as_slice-kinds.result.now c.loop-at.at k c.as_slice-kinds.ensures.value c.loop-at-test.true c.index-kinds-at.is in (
      subst (λ l. KindsSoFar c.args.self.now c.loop-at.self l (exported_of (kinds_of o) (arities_of o)))
          (exported_passed (kinds_of o) (arities_of o) c.loop-at.at k.name.items k.arity k.exported c.if-not-kind.true e f) c.loop-at.invariant.0,
      subst (λ l. SoFar (λ ks. AddsRows c.args.self.now c.loop-at.self (map as_global ks) []) l (exported_kind_rows o))
          (exported_passed (kinds_of o) (kind_rows o) c.loop-at.at k.name.items (k.name.items, k.arity) k.exported c.if-not-kind.true e g) c.loop-at.invariant.1,
    )

pub loop-at-preserved : goal.loop-at-preserved
loop-at-preserved c =
    let o = c.args.root.now.member.now.object.now in
    let k = c.index-kinds-at.result in
    let (e, f) = kind_entry o c.as_slice-kinds.result.now c.loop-at.at k c.as_slice-kinds.ensures.value c.loop-at-test.true c.index-kinds-at.is in
    let (_, g) = kind_row_at o c.as_slice-kinds.result.now c.loop-at.at k c.as_slice-kinds.ensures.value c.loop-at-test.true c.index-kinds-at.is in (
      kinds_next c.args.self.now c.loop-at.self _ c.add_kind.new.self k.arity (exported_of (drop c.loop-at.at (kinds_of o))
          (drop c.loop-at.at (arities_of o))) (exported_of (drop (c.loop-at.at + 1) (kinds_of o)) (drop (c.loop-at.at + 1) (arities_of o)))
          (exported_of (kinds_of o) (arities_of o)) (exported_picked (kinds_of o) (arities_of o) c.loop-at.at k.name.items k.arity k.exported c.if-not-kind.false e f)
          (tables_grown c.loop-at.self _ refl refl (extends_same c.loop-at.self.bank)) c.in_ok-add_kind.ensures.tables c.loop-at.invariant.0,
      global_kind_next c.args.self.now c.loop-at.self _ c.add_kind.new.self k.name.items k.arity (exported_of (drop c.loop-at.at (kinds_of o)) (drop c.loop-at.at (kind_rows o)))
          (exported_of (drop (c.loop-at.at + 1) (kinds_of o)) (drop (c.loop-at.at + 1) (kind_rows o))) (exported_kind_rows o)
          (exported_picked (kinds_of o) (kind_rows o) c.loop-at.at k.name.items (k.name.items, k.arity) k.exported c.if-not-kind.false e g)
          (rows_kept c.loop-at.self _ refl refl refl refl) c.in_ok-add_kind.ensures.names c.loop-at.invariant.1,
    )

pub returns-clause-tables : goal.returns-clause-tables
returns-clause-tables c =
    let o = c.args.root.now.member.now.object.now in
    let n = length-map {B = List ℕ × Bool} o.kinds.items (λ (k : ObjectKind). (k.name.items, k.exported)) in
    let l = ap length c.as_slice-kinds.ensures.value in
    kinds_done c.args.self.now c.loop-at.self (exported_of (drop c.loop-at.at (kinds_of o)) (drop c.loop-at.at (arities_of o))) (exported_of (kinds_of o) (arities_of o))
    (none_exported (kinds_of o) (arities_of o) c.loop-at.at (omega (arith, n, l, c.loop-at-test.false))) c.loop-at.invariant.0

pub returns-clause-names : goal.returns-clause-names
returns-clause-names c =
    let o = c.args.root.now.member.now.object.now in
    let n = length-map {B = List ℕ × Bool} o.kinds.items (λ (k : ObjectKind). (k.name.items, k.exported)) in
    let l = ap length c.as_slice-kinds.ensures.value in
    so_far_done (λ ks. AddsRows c.args.self.now c.loop-at.self (map as_global ks) []) (exported_of (drop c.loop-at.at (kinds_of o)) (drop c.loop-at.at (kind_rows o))) (exported_kind_rows o)
    (none_exported (kinds_of o) (kind_rows o) c.loop-at.at (omega (arith, n, l, c.loop-at-test.false))) c.loop-at.invariant.1
