use Rattle.std.proofs.Common.{◌≤◌, Some}
use Rattle.std.specs.Prelude.{slice_get}
use Rattle.lp_plain.proofs.Within.{all_at}
use Rattle.lp_plain.specs.declared.table.Span.{Span}
use Rattle.lp_plain.proofs.Indexes.{span_forth, span_low, spans_apart}
use Rattle.std.proofs.Common.{◌∙◌}
use Rattle.lp_plain.proofs.Indexes.{same_rules}
use Rattle.std.proofs.Common.{◌≡◌, ◌<◌, ◌-◌, ℕ, suc, sym, subst, ap, refl, arith, length, drop, None, []}
use Rattle.std.specs.Prelude.{nat_eq}
use Rattle.std.specs.HashMap.{get}
use Rattle.std.specs.Map.{lookup}
use Rattle.lp_plain.specs.Candidates.{IsLinked, numbers}
use Rattle.lp_plain.proofs.ListReads.{read_at}
use Rattle.lp_plain.proofs.Indexes.{linked_empty, no_spans, spans_more, all_linked}
use Rattle.lp_plain.proofs.candidates.index_of.Goals as goal

pub spans-init : goal.spans-init
spans-init c =
    let n : numbers (drop c.len-left.result c.args.program.now.items) ≡ [] = no_spans c.args.program.now.items c.len-left.result (omega (arith, c.len-left.ensures, c.args.program.now.ok)) in
    let e : (k : ℕ) → get nat_eq c.new-index.result k ≡ None = λ k. ap (λ es. lookup (nat_eq k) es) c.new-index.ensures.empty in
    record {
      within = omega (arith, c.len-left.ensures, c.args.program.now.ok);
      count = refl;
      low = omega (arith, c.len-first.ensures, c.args.rules.now.ok);
      before = λ i s n g. let h = all_at (λ (r : Span). r.to ≤ length c.args.rules.now.items) c.args.program.now.items i s g c.requires.ends in omega
          (arith, h, c.len-first.ensures, c.args.rules.now.ok);
      linked = subst (λ z. IsLinked c.args.bank.now c.args.rules.now.items c.args.rules.now.items (λ k. None) (λ k. get nat_eq c.new-index.result k) z
          (length c.args.rules.now.items) c.len-first.result) (sym n)
          (linked_empty c.args.bank.now c.args.rules.now.items _ (length c.args.rules.now.items) c.len-first.result (omega (arith, c.len-first.ensures, c.args.rules.now.ok)) e);
    }

pub spans-preserved : goal.spans-preserved
spans-preserved c =
    let t = c.spans-test.true in
    let w = c.spans.invariant.within in
    let e : suc (c.spans.left - 1) ≡ c.spans.left = omega (arith, t) in
    let l : c.spans.left - 1 < length c.args.program.now.items = omega (arith, t, w) in
    record {
      within = omega (arith, w);
      linked = spans_more c.args.bank.now c.args.rules.now.items c.spans.rules.items c.add_span.new.rules.items _ _ _ c.args.program.now.items
          c.index.result.now (length c.args.rules.now.items) c.spans.first c.in_ok-first.first c.spans.left (c.spans.left - 1) e
          (read_at c.args.program.now.items c.args.program.now.items (c.spans.left - 1) c.index.result.now _ refl l c.index.ensures) c.spans.invariant.linked c.in_ok-first.ensures.linked;
      count = same_rules c.spans.rules.items c.add_span.new.rules.items c.in_ok-first.ensures.linked.same ∙ c.spans.invariant.count;
      low = span_low c.args.program.now.items 0 c.args.rules.now.items (c.spans.left - 1) c.index.result.now c.in_ok-first.first c.requires.order
          c.requires.ends (read_at c.args.program.now.items c.args.program.now.items (c.spans.left - 1) c.index.result.now _ refl l c.index.ensures)
          c.in_ok-first.ensures.first;
      before = λ i s n g. spans_apart c.args.program.now.items 0 i s c.index.result.now c.requires.order g
          (subst (λ k. slice_get c.args.program.now.items k ≡ Some c.index.result.now) (sym n)
          (read_at c.args.program.now.items c.args.program.now.items (c.spans.left - 1) c.index.result.now _ refl l c.index.ensures))
          c.in_ok-first.first c.in_ok-first.ensures.first;
    }

pub returns-clause-same : goal.returns-clause-same
returns-clause-same c = c.spans.invariant.linked.same

pub returns-clause-index : goal.returns-clause-index
returns-clause-index c = all_linked c.args.bank.now c.args.rules.now.items c.spans.rules.items _ _ c.args.program.now.items
    (length c.args.rules.now.items) c.spans.first c.spans.left c.spans-test.false (λ k. refl) c.spans.invariant.linked

pub add_span-requires-clause-within : goal.add_span-requires-clause-within
add_span-requires-clause-within c = let a = c.spans.invariant.low in let b = c.spans.invariant.count in omega (arith, a, b)

pub add_span-requires-clause-order : goal.add_span-requires-clause-order
add_span-requires-clause-order c =
    let t = c.spans-test.true in
    let w = c.spans.invariant.within in
    let l : c.spans.left - 1 < length c.args.program.now.items = omega (arith, t, w) in
    let e : suc (c.spans.left - 1) ≡ c.spans.left = omega (arith, t) in
    let g = read_at c.args.program.now.items c.args.program.now.items (c.spans.left - 1) c.index.result.now _ refl l c.index.ensures in
    (span_forth c.args.program.now.items 0 (c.spans.left - 1) c.index.result.now c.requires.order g, c.spans.invariant.before (c.spans.left - 1) c.index.result.now e g)
