use Rattle.std.proofs.Common.{◌∙◌, ◌+◌, ℕ, Bool, List, [], drop, length, ap, refl, subst, arith}
use Rattle.std.specs.Prelude.{min, if◌then◌else◌}
use Rattle.std.specs.Str.{bytes_eq}
use Rattle.std.proofs.lemmas.List.{length-map}
use Rattle.lp_term.proofs.Trees.{extends_same}
use Rattle.lp_code.specs.declared.object.ObjectKind.{ObjectKind}
use Rattle.lp_link.specs.Linked.{kinds_of}
use Rattle.lp_link.specs.Names.{hidden_of, kind_rows, hidden_kind_rows}
use Rattle.lp_link.specs.inner.Tabled.{arities_of, KindsSoFar}
use Rattle.lp_link.specs.inner.Named.{count_in, AddsHidden, SoFar}
use Rattle.lp_link.proofs.AddedTables.{tables_grown, kinds_begin, kinds_next, kinds_done, hidden_passed, hidden_picked, none_hidden, kind_entry}
use Rattle.lp_link.proofs.NamedRows.{so_far_done}
use Rattle.lp_link.proofs.NamedTables.{kind_row_at, hidden_none, hidden_kind_next}
use Rattle.lp_link.proofs.image.Making.add_hidden_kinds.Goals as goal

pub loop-at-init : goal.loop-at-init
loop-at-init c = (
  kinds_begin c.args.self.now (hidden_of (kinds_of c.args.copy.now.member.now.object.now) (arities_of c.args.copy.now.member.now.object.now)) (extends_same c.args.self.now.bank),
  ([], hidden_none c.args.self.now, refl),
)

pub loop-at-preserved-then-kind : goal.loop-at-preserved-then-kind
loop-at-preserved-then-kind c =
    let o = c.args.copy.now.member.now.object.now in
    let k = c.index-kinds-at.result in
    let (e, f) = kind_entry o c.as_slice-kinds.result.now c.loop-at.at k c.as_slice-kinds.ensures.value c.loop-at-test.true c.index-kinds-at.is in
    let (_, g) = kind_row_at o c.as_slice-kinds.result.now c.loop-at.at k c.as_slice-kinds.ensures.value c.loop-at-test.true c.index-kinds-at.is in (
      subst (λ l. KindsSoFar c.args.self.now c.loop-at.self l (hidden_of (kinds_of o) (arities_of o)))
          (hidden_passed (kinds_of o) (arities_of o) c.loop-at.at k.name.items k.arity k.exported c.if-kind.true e f) c.loop-at.invariant.0,
      subst (λ l. SoFar (λ ks. AddsHidden c.args.self.now c.loop-at.self ks []) l (hidden_kind_rows o))
          (hidden_passed (kinds_of o) (kind_rows o) c.loop-at.at k.name.items (k.name.items, k.arity) k.exported c.if-kind.true e g) c.loop-at.invariant.1,
    )

pub loop-at-preserved : goal.loop-at-preserved
loop-at-preserved c =
    let o = c.args.copy.now.member.now.object.now in
    let k = c.index-kinds-at.result in
    let (e, f) = kind_entry o c.as_slice-kinds.result.now c.loop-at.at k c.as_slice-kinds.ensures.value c.loop-at-test.true c.index-kinds-at.is in
    let (_, g) = kind_row_at o c.as_slice-kinds.result.now c.loop-at.at k c.as_slice-kinds.ensures.value c.loop-at-test.true c.index-kinds-at.is in
    let counts = c.loop-at.self.hidden_kinds in (
      kinds_next c.args.self.now c.loop-at.self _ c.add_kind.new.self k.arity (hidden_of (drop c.loop-at.at (kinds_of o))
          (drop c.loop-at.at (arities_of o))) (hidden_of (drop (c.loop-at.at + 1) (kinds_of o)) (drop (c.loop-at.at + 1) (arities_of o)))
          (hidden_of (kinds_of o) (arities_of o)) (hidden_picked (kinds_of o) (arities_of o) c.loop-at.at k.name.items k.arity k.exported c.if-kind.false e f)
          (tables_grown c.loop-at.self _ refl refl (extends_same c.loop-at.self.bank)) c.in_ok-add_kind.ensures.tables c.loop-at.invariant.0,
      hidden_kind_next c.loop-at.self _ c.add_kind.new.self k.name.items c.in_ok-hidden.hidden c.args.self.now k.arity (hidden_of (drop c.loop-at.at (kinds_of o)) (drop c.loop-at.at (kind_rows o)))
          (hidden_of (drop (c.loop-at.at + 1) (kinds_of o)) (drop (c.loop-at.at + 1) (kind_rows o))) (hidden_kind_rows o)
          (hidden_picked (kinds_of o) (kind_rows o) c.loop-at.at k.name.items (k.name.items, k.arity) k.exported c.if-kind.false e g)
          (c.in_ok-hidden.ensures.number ∙ ap (λ w. min (count_in counts w + 1) 65535) c.as_slice-name.ensures.value)
          (λ other. c.in_ok-hidden.ensures.counted other ∙ ap (λ w. if bytes_eq other w then c.in_ok-hidden.hidden else count_in counts other) c.as_slice-name.ensures.value)
          refl refl refl c.in_ok-add_kind.ensures.names c.loop-at.invariant.1,
    )

pub returns-clause-tables : goal.returns-clause-tables
returns-clause-tables c =
    let o = c.args.copy.now.member.now.object.now in
    let n = length-map {B = List ℕ × Bool} o.kinds.items (λ (k : ObjectKind). (k.name.items, k.exported)) in
    let l = ap length c.as_slice-kinds.ensures.value in
    kinds_done c.args.self.now c.loop-at.self (hidden_of (drop c.loop-at.at (kinds_of o)) (drop c.loop-at.at (arities_of o))) (hidden_of (kinds_of o) (arities_of o))
    (none_hidden (kinds_of o) (arities_of o) c.loop-at.at (omega (arith, n, l, c.loop-at-test.false))) c.loop-at.invariant.0

pub returns-clause-names : goal.returns-clause-names
returns-clause-names c =
    let o = c.args.copy.now.member.now.object.now in
    let n = length-map {B = List ℕ × Bool} o.kinds.items (λ (k : ObjectKind). (k.name.items, k.exported)) in
    let l = ap length c.as_slice-kinds.ensures.value in
    so_far_done (λ ks. AddsHidden c.args.self.now c.loop-at.self ks []) (hidden_of (drop c.loop-at.at (kinds_of o)) (drop c.loop-at.at (kind_rows o))) (hidden_kind_rows o)
    (none_hidden (kinds_of o) (kind_rows o) c.loop-at.at (omega (arith, n, l, c.loop-at-test.false))) c.loop-at.invariant.1
