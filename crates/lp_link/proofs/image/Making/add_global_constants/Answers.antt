use Rattle.std.proofs.Common.{◌+◌, ℕ, Bool, List, [], drop, map, length, ap, refl, sym, subst, arith}
use Rattle.std.proofs.lemmas.List.{length-map}
use Rattle.lp_term.specs.Memo.{AreMade}
use Rattle.lp_term.proofs.Trees.{extends_same}
use Rattle.lp_code.specs.declared.object.ObjectConstant.{ObjectConstant}
use Rattle.lp_code.specs.Naming.{scheme_in}
use Rattle.lp_link.specs.Renumbering.{moved_scheme}
use Rattle.lp_link.specs.Linked.{constants_of, map_of}
use Rattle.lp_link.specs.inner.Entering.{open_copy}
use Rattle.lp_link.specs.Names.{as_global, constant_rows, exported_constant_rows, exported_of, moved_schemes}
use Rattle.lp_link.specs.inner.Tabled.{ConstantsSoFar}
use Rattle.lp_link.specs.inner.Named.{AddsRows, SoFar}
use Rattle.lp_link.proofs.AddedTables.{tables_grown, constants_begin, constants_next, constants_done, exported_passed, exported_picked, none_exported, constant_entry, is_map_of, scheme_moved}
use Rattle.lp_link.proofs.NamedRows.{so_far_done}
use Rattle.lp_link.proofs.NamedTables.{constant_row_at, rows_kept, global_constant_next}
use Rattle.lp_link.proofs.image.Making.add_global_constants.Goals as goal

pub loop-at-init : goal.loop-at-init
loop-at-init c =
    let o = c.args.root.now in (
      constants_begin c.args.self.now (exported_of (constants_of o.member.now.object.now) (moved_schemes (open_copy o))) (extends_same c.args.self.now.bank),
      c.new-types.ensures (map_of 0 (open_copy o)) o.member.now.object.now.bank c.args.self.now.bank,
      ([], rows_kept c.args.self.now c.args.self.now refl refl refl refl, refl),
    )

pub loop-at-preserved-then-not-constant : goal.loop-at-preserved-then-not-constant
loop-at-preserved-then-not-constant c =
    let o = c.args.root.now in
    let k = c.index-constants-at.result in
    let (e, f) = constant_entry o c.as_slice-constants.result.now c.loop-at.at k c.as_slice-constants.ensures.value c.loop-at-test.true c.index-constants-at.is in
    let (_, g) = constant_row_at o.member.now.object.now c.as_slice-constants.result.now c.loop-at.at k c.as_slice-constants.ensures.value c.loop-at-test.true c.index-constants-at.is in (
      subst (λ l. ConstantsSoFar c.args.self.now c.loop-at.self l (exported_of (constants_of o.member.now.object.now) (moved_schemes (open_copy o))))
          (exported_passed (constants_of o.member.now.object.now) (moved_schemes (open_copy o)) c.loop-at.at k.name.items
          (moved_scheme (map_of 0 (open_copy o)) (scheme_in o.member.now.object.now.bank k.type_vars k.scheme.0)) k.exported
          c.if-not-constant.true e f) c.loop-at.invariant.0,
      c.loop-at.invariant.1,
      subst (λ l. SoFar (λ cs. AddsRows c.args.self.now c.loop-at.self [] (map as_global cs)) l (exported_constant_rows o.member.now.object.now))
          (exported_passed (constants_of o.member.now.object.now) (constant_rows o.member.now.object.now) c.loop-at.at k.name.items (k.name.items, k.fixity) k.exported c.if-not-constant.true e g) c.loop-at.invariant.2,
    )

pub loop-at-preserved : goal.loop-at-preserved
loop-at-preserved c =
    let o = c.args.root.now in
    let k = c.index-constants-at.result in
    let (e, f) = constant_entry o c.as_slice-constants.result.now c.loop-at.at k c.as_slice-constants.ensures.value c.loop-at-test.true c.index-constants-at.is in
    let (_, g) = constant_row_at o.member.now.object.now c.as_slice-constants.result.now c.loop-at.at k c.as_slice-constants.ensures.value c.loop-at-test.true c.index-constants-at.is in
    let m = map_of 0 (open_copy o) in
    let b = o.member.now.object.now.bank in
    let is = is_map_of o b c.loop-at.self.bank in
    let made = c.in_ok-scheme.ensures.made m is c.loop-at.invariant.1 in (
      constants_next c.args.self.now c.loop-at.self _ c.add_constant.new.self (scheme_in c.copy_type.new.to k.type_vars c.in_ok-scheme.scheme.0) (moved_scheme m (scheme_in b k.type_vars k.scheme.0))
          (exported_of (drop c.loop-at.at (constants_of o.member.now.object.now)) (drop c.loop-at.at (moved_schemes (open_copy o))))
          (exported_of (drop (c.loop-at.at + 1) (constants_of o.member.now.object.now)) (drop (c.loop-at.at + 1) (moved_schemes (open_copy o))))
          (exported_of (constants_of o.member.now.object.now) (moved_schemes (open_copy o)))
          (exported_picked (constants_of o.member.now.object.now) (moved_schemes (open_copy o)) c.loop-at.at k.name.items
          (moved_scheme m (scheme_in b k.type_vars k.scheme.0)) k.exported c.if-not-constant.false e f)
          (scheme_moved o k.type_vars b c.copy_type.new.to k.scheme.0 c.in_ok-scheme.scheme.0 made)
          (tables_grown c.loop-at.self _ refl refl c.copy_type.ensures.kept) c.in_ok-add_constant.ensures.added c.loop-at.invariant.0,
      subst (λ d. AreMade m b d c.copy_type.new.self) (sym c.add_constant.ensures.bank) (c.in_ok-scheme.ensures.memo m is c.loop-at.invariant.1),
      global_constant_next c.args.self.now c.loop-at.self _ c.add_constant.new.self k.name.items k.fixity
          (exported_of (drop c.loop-at.at (constants_of o.member.now.object.now)) (drop c.loop-at.at (constant_rows o.member.now.object.now)))
          (exported_of (drop (c.loop-at.at + 1) (constants_of o.member.now.object.now)) (drop (c.loop-at.at + 1) (constant_rows o.member.now.object.now)))
          (exported_constant_rows o.member.now.object.now)
          (exported_picked (constants_of o.member.now.object.now) (constant_rows o.member.now.object.now) c.loop-at.at k.name.items (k.name.items, k.fixity) k.exported c.if-not-constant.false e g)
          (rows_kept c.loop-at.self _ refl refl refl refl) c.in_ok-add_constant.ensures.names c.loop-at.invariant.2,
    )

pub returns-clause-tables : goal.returns-clause-tables
returns-clause-tables c =
    let o = c.args.root.now in
    let n = length-map {B = List ℕ × Bool} o.member.now.object.now.constants.items (λ (k : ObjectConstant). (k.name.items, k.exported)) in
    let l = ap length c.as_slice-constants.ensures.value in
    constants_done c.args.self.now c.loop-at.self (exported_of (drop c.loop-at.at (constants_of o.member.now.object.now))
    (drop c.loop-at.at (moved_schemes (open_copy o)))) (exported_of (constants_of o.member.now.object.now) (moved_schemes (open_copy o)))
    (none_exported (constants_of o.member.now.object.now) (moved_schemes (open_copy o)) c.loop-at.at (omega (arith, n, l, c.loop-at-test.false))) c.loop-at.invariant.0

pub returns-clause-names : goal.returns-clause-names
returns-clause-names c =
    let o = c.args.root.now.member.now.object.now in
    let n = length-map {B = List ℕ × Bool} o.constants.items (λ (k : ObjectConstant). (k.name.items, k.exported)) in
    let l = ap length c.as_slice-constants.ensures.value in
    so_far_done (λ cs. AddsRows c.args.self.now c.loop-at.self [] (map as_global cs)) (exported_of (drop c.loop-at.at (constants_of o)) (drop c.loop-at.at (constant_rows o))) (exported_constant_rows o)
    (none_exported (constants_of o) (constant_rows o) c.loop-at.at (omega (arith, n, l, c.loop-at-test.false))) c.loop-at.invariant.2
