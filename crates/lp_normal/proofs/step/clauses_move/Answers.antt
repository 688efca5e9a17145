use Rattle.std.proofs.Common.{arith, inl, inr}
use Rattle.std.specs.Prelude.{option_to_list}
use Rattle.lp_term.proofs.Moves.{nothing}
use Rattle.lp_normal.proofs.Turnings.{part_popped_in, part_popped, left_in, left_comes}
use Rattle.lp_lemmas.proofs.Results.{passed_up}
use Rattle.lp_normal.specs.Counted.{IsOver}
use Rattle.lp_normal.specs.inner.Met.{Passes}
use Rattle.lp_normal.specs.declared.frame.Inner.{Inner}
use Rattle.lp_normal.proofs.Counts.{over_then}
use Rattle.lp_normal.specs.declared.clauses.Part.{Part}
use Rattle.lp_normal.proofs.Works.{parts_pushed, parts_popped}
use Rattle.lp_normal.proofs.step.clauses_move.Goals as goal

pub next_part-requires-clause-list : goal.next_part-requires-clause-list
next_part-requires-clause-list c = (part_popped_in c.args.bank.now c.args.list c.pop.new.self c.in-Some.next c.in-Some.ensures.items c.requires.list).0

pub next_part-requires-clause-part : goal.next_part-requires-clause-part
next_part-requires-clause-part c =
    let k = (part_popped_in c.args.bank.now c.args.list c.pop.new.self c.in-Some.next c.in-Some.ensures.items c.requires.list).1 in
    rw c.in-Visit.is at k

pub returns-in_ok-inner-in-Visit-clause-comes : goal.returns-in_ok-inner-in-Visit-clause-comes
returns-in_ok-inner-in-Visit-clause-comes c = λ whole h.
    let q = rw c.in-Visit.is at c.in-Some.ensures.items in
    c.in_ok-inner-in-Visit.ensures.comes h.0 whole (part_popped c.args.bank.now c.args.list c.pop.new.self c.in-Visit.part h.0 q h.1) h.2

pub returns-in-Leave-clause-within : goal.returns-in-Leave-clause-within
returns-in-Leave-clause-within c =
    let q = rw c.in-Leave.is at c.in-Some.ensures.items in
    left_in c.args.bank.now c.args.list c.pop.new.self c.pop-link.new.self (option_to_list c.pop-link.result) c.pop-link.ensures.items q c.requires.list

pub returns-in-Leave-clause-comes : goal.returns-in-Leave-clause-comes
returns-in-Leave-clause-comes c = λ whole h.
    let q = rw c.in-Leave.is at c.in-Some.ensures.items in (
      h.0,
      left_comes c.args.bank.now c.args.list c.pop.new.self c.pop-link.new.self c.pop-link.result h.0 c.pop-link.ensures.items
          (λ e. let k = rw e at c.pop-link.ensures.cases in nothing c.args.list.around.items (omega (arith, k.0, c.args.list.around.ok))) q h.1,
      h.2,
    )

pub returns-in_default-clause-met : goal.returns-in_default-clause-met
returns-in_default-clause-met c = λ b h. omega (arith, h, c.in_ok-ended.ensures.met b)

pub returns-in_ok-inner-in-Visit-clause-met : goal.returns-in_ok-inner-in-Visit-clause-met
returns-in_ok-inner-in-Visit-clause-met c = λ b h. c.in_ok-inner-in-Visit.ensures.met b h

pub returns-in-Leave-clause-met : goal.returns-in-Leave-clause-met
returns-in-Leave-clause-met c = λ b h. h

pub returns-in_err-inner-in-Visit-clause-over : goal.returns-in_err-inner-in-Visit-clause-over
returns-in_err-inner-in-Visit-clause-over c =
    let b = c.args.bank.now in
    let q = rw c.in-Visit.is at c.in-Some.ensures.items in
    passed_up c.from_residual-in_err-inner-in-Visit.result c.in_err-inner-in-Visit.field-0.0 (IsOver (Passes b (Inner.Clauses c.args.list) c.args.frames.now.items c.args.count.now))
    c.from_residual-in_err-inner-in-Visit.ensures.1
    (over_then c.in_err-inner-in-Visit.field-0.0 (λ p whole m h. p h.0 whole m (part_popped b c.args.list c.pop.new.self c.in-Visit.part h.0 q h.1) h.2) c.in_err-inner-in-Visit.ensures.over)

pub returns-in_default-clause-less : goal.returns-in_default-clause-less
returns-in_default-clause-less c = inr (λ d x. omega (arith, c.in_ok-ended.ensures.less d, parts_popped d c.args.list.waiting.items c.pop.new.self.items c.in_default.ensures.items))

pub returns-in_ok-inner-in-Visit-clause-less : goal.returns-in_ok-inner-in-Visit-clause-less
returns-in_ok-inner-in-Visit-clause-less c =
    let q = rw c.in-Visit.is at c.in-Some.ensures.items in
    elim c.in_ok-inner-in-Visit.ensures.less [
      | inl l ↦ inl l
      | inr f ↦ inr (λ d x. omega (arith, f d x, parts_pushed d c.args.list.waiting.items c.pop.new.self.items (Part.Visit c.in-Visit.part) q))
    ]

pub returns-in-Leave-clause-less : goal.returns-in-Leave-clause-less
returns-in-Leave-clause-less c =
    let q = rw c.in-Leave.is at c.in-Some.ensures.items in
    inr (λ d x. omega (arith, parts_pushed d c.args.list.waiting.items c.pop.new.self.items Part.Leave q))
