use Rattle.std.proofs.Common.{◌∙◌, Some, ap, sym, take}
use Rattle.lp_plain.proofs.Restored.{last_same, no_push}
use Rattle.lp_plain.proofs.CallBacks.{call_state}
use Rattle.lp_plain.proofs.Remains.{pushed_popped}
use Rattle.lp_plain.proofs.machine.Machine.take_choice.Goals as goal

pub returns-clause-taken : goal.returns-clause-taken
returns-clause-taken c = λ k rest e.
    let m = c.args.self.now in
    let r = c.in_ok-restore.ensures in
    let q = last_same c.pop.new.self.items rest c.in-Some.choice k (sym c.in-Some.ensures.items ∙ e) in (
      ap (λ z. Some z.untried) q.1,
      record {
        frames = r.frames ∙ ap (λ z. take z.lengths.frames m.frames.items) q.1;
        blocks = r.blocks ∙ ap (λ z. take z.lengths.scopes.blocks m.scopes.blocks.items) q.1;
        values = r.values ∙ ap (λ z. take z.lengths.scopes.values m.scopes.values.items) q.1;
        assumptions = r.assumptions ∙ ap (λ z. take z.lengths.assumptions m.assumptions.items) q.1;
        newest = r.newest ∙ ap (λ z. take z.lengths.newest m.newest.items) q.1;
        standings = r.standings ∙ ap (λ z. take z.lengths.standings m.standings.items) q.1;
        bound_terms = r.bound_terms ∙ ap (λ z. take z.bindings.terms m.bindings.terms.entries) q.1;
        bound_types = r.bound_types ∙ ap (λ z. take z.bindings.types m.bindings.types.entries) q.1;
        bank = r.bank;
        table = r.table;
        index = r.index;
        next = r.next ∙ ap (λ z. z.next) q.1;
        next_type = r.next_type ∙ ap (λ z. z.next_type) q.1;
        pairs = r.pairs ∙ ap (λ z. z.pairs.items) q.1;
        choices = ap (λ z. z.items) r.choices ∙ q.0;
        counts = r.counts;
        denied = r.denied;
      },
    )

pub returns-clause-none : goal.returns-clause-none
returns-clause-none c = λ e. absurd (no_push c.pop.new.self.items c.in-Some.choice (sym c.in-Some.ensures.items ∙ e))

pub returns-clause-lost : goal.returns-clause-lost
returns-clause-lost c = ap (λ z. z.lost) c.in_ok-restore.ensures.counts

pub returns-clause-trying : goal.returns-clause-trying
returns-clause-trying c = λ qv k rest call one e u l s h. call_state qv c.args.self.now _ k rest call one e u l (returns-clause-taken c k rest e).1 s h

pub returns-clause-steps : goal.returns-clause-steps
returns-clause-steps c = ap (λ z. z.steps) c.in_ok-restore.ensures.counts

pub returns-clause-popped : goal.returns-clause-popped
returns-clause-popped c =
    let r = c.in_ok-restore.ensures in
    pushed_popped c.pop.new.self.items c.in-Some.choice c.args.self.now _ c.in-Some.ensures.items (ap (λ z. z.items) r.choices) r.counts
