use Rattle.std.proofs.Common.{◌≡◌, ◌∙◌, ap, sym, arith, ℕ, Bool, reverse, length, subst as transport, inl, inr, false}
use Rattle.std.specs.Prelude.{All}
use Rattle.lp_lemmas.proofs.Elements.{All_popped}
use Rattle.lp_pattern.specs.Growing.{IsPairOf}
use Rattle.lp_term.proofs.Moves.{passed_up}
use Rattle.lp_term.proofs.Trees.{extends-trans}
use Rattle.lp_model.specs.Unify.{Unified}
use Rattle.lp_pattern.specs.Turns.{Began, LeadsTo}
use Rattle.lp_pattern.specs.Unifying.{IsRefusedAs}
use Rattle.lp_pattern.proofs.Keeps.{grows_then}
use Rattle.lp_pattern.proofs.RunLoops.{marks_tell, next_turn, turn_spent, turn_refused}
use Rattle.lp_pattern.proofs.RunTurns.{waiting_behind, waiting_known}
use Rattle.lp_pattern.proofs.unify.take_all.Goals as goal

pub returns-in_err-spend-clause-refused : goal.returns-in_err-spend-clause-refused
returns-in_err-spend-clause-refused c =
    passed_up c.from_residual.result c.in_err-spend.field-0.0
    (λ e. (limit : ℕ) (o : Began) (n : ℕ) (u : Unified) (bound : Bool) → LeadsTo limit o n u c.args.bank.now c.args.bindings.now c.args.next.now c.args.units.now (reverse c.args.todo.now.items) c.args.waiting.now.items bound → IsRefusedAs e n u)
    c.from_residual.ensures.1
    (λ limit o n u bound w. turn_spent limit o n u bound c.args.bindings.now c.pairs.bank c.pairs.bindings c.pairs.next c.pairs.units c.in-Some.pair c.pairs.todo.items c.pop.new.self.items c.pairs.waiting.items c.in-Some.ensures.items (c.pairs.invariant.comes limit o n u bound w)
    c.in_err-spend.field-0.0 c.in_err-spend.ensures.refused)

pub returns-in_err-take-clause-refused : goal.returns-in_err-take-clause-refused
returns-in_err-take-clause-refused c =
    passed_up c.from_residual-in_err-take.result c.in_err-take.field-0.0
    (λ e. (limit : ℕ) (o : Began) (n : ℕ) (u : Unified) (bound : Bool) → LeadsTo limit o n u c.args.bank.now c.args.bindings.now c.args.next.now c.args.units.now (reverse c.args.todo.now.items) c.args.waiting.now.items bound → IsRefusedAs e n u)
    c.from_residual-in_err-take.ensures.1
    (λ limit o n u bound w. turn_refused limit o n u bound c.args.bindings.now c.pairs.bank c.pairs.bindings c.pairs.next c.pairs.units c.in-Some.pair c.pairs.todo.items c.pop.new.self.items c.pairs.waiting.items c.in-Some.ensures.items (c.pairs.invariant.comes limit o n u bound w)
    c.spend.new.units c.in_err-take.field-0.0 c.in_ok-spend.ensures.spent c.in_err-take.ensures.refused)

pub pairs-preserved-in-Gone : goal.pairs-preserved-in-Gone
pairs-preserved-in-Gone c =
    let later = ap (λ v. waiting_behind v c.pairs.waiting.items) c.in-Gone.is in
    record {
      fewer = omega (arith, c.pairs.invariant.fewer, c.in_ok-spend.ensures.spent, c.in_ok-take.ensures.fewer);
      still = inl (omega (arith, c.pairs.invariant.fewer, c.in_ok-spend.ensures.spent, c.in_ok-take.ensures.fewer));
      kept = extends-trans c.args.bank.now c.pairs.bank c.take.new.bank c.pairs.invariant.kept c.in_ok-take.ensures.kept;
      more = omega (arith, c.pairs.invariant.more, c.in_ok-take.ensures.more);
      grown = grows_then c.args.bindings.now c.pairs.bindings c.take.new.bindings c.pairs.invariant.grown c.in_ok-take.ensures.grown;
      todo = c.in_ok-take.ensures.todo;
      waiting = transport (All (IsPairOf (length c.take.new.bank.terms))) later
          (waiting_known c.pairs.bank c.take.new.bank c.in_ok-take.field-0 c.pairs.waiting.items c.in_ok-take.ensures.kept c.in_ok-take.ensures.delayed c.pairs.invariant.waiting);
      comes = λ limit o n u bound w. next_turn limit o n u bound c.args.bindings.now c.pairs.bank c.pairs.bindings c.pairs.next c.pairs.units c.in-Some.pair c.pairs.todo.items c.pop.new.self.items c.pairs.waiting.items c.in-Some.ensures.items (c.pairs.invariant.comes limit o n u bound w)
          c.take.new.bank c.take.new.bindings c.take.new.next c.spend.new.units c.take.new.units c.take.new.todo.items _ c.in_ok-take.ensures.kept c.in_ok-take.field-0 c.in_ok-spend.ensures.spent c.in_ok-take.ensures.judged c.in_ok-take.ensures.taken later;
    }

pub pairs-preserved : goal.pairs-preserved
pairs-preserved c =
    let later = ap (λ v. waiting_behind v c.pairs.waiting.items) c.in-Delayed.is ∙ sym c.in_ok-push-in-Delayed.ensures.items in
    record {
      fewer = omega (arith, c.pairs.invariant.fewer, c.in_ok-spend.ensures.spent, c.in_ok-take.ensures.fewer);
      still = inl (omega (arith, c.pairs.invariant.fewer, c.in_ok-spend.ensures.spent, c.in_ok-take.ensures.fewer));
      kept = extends-trans c.args.bank.now c.pairs.bank c.take.new.bank c.pairs.invariant.kept c.in_ok-take.ensures.kept;
      more = omega (arith, c.pairs.invariant.more, c.in_ok-take.ensures.more);
      grown = grows_then c.args.bindings.now c.pairs.bindings c.take.new.bindings c.pairs.invariant.grown c.in_ok-take.ensures.grown;
      todo = c.in_ok-take.ensures.todo;
      waiting = transport (All (IsPairOf (length c.take.new.bank.terms))) later
          (waiting_known c.pairs.bank c.take.new.bank c.in_ok-take.field-0 c.pairs.waiting.items c.in_ok-take.ensures.kept c.in_ok-take.ensures.delayed c.pairs.invariant.waiting);
      comes = λ limit o n u bound w. next_turn limit o n u bound c.args.bindings.now c.pairs.bank c.pairs.bindings c.pairs.next c.pairs.units c.in-Some.pair c.pairs.todo.items c.pop.new.self.items c.pairs.waiting.items c.in-Some.ensures.items (c.pairs.invariant.comes limit o n u bound w)
          c.take.new.bank c.take.new.bindings c.take.new.next c.spend.new.units c.take.new.units c.take.new.todo.items _ c.in_ok-take.ensures.kept c.in_ok-take.field-0 c.in_ok-spend.ensures.spent c.in_ok-take.ensures.judged c.in_ok-take.ensures.taken later;
    }

pub take-requires-clause-pair : goal.take-requires-clause-pair
take-requires-clause-pair c = (All_popped (IsPairOf (length c.pairs.bank.terms)) c.pairs.todo.items c.pop.new.self.items c.in-Some.pair c.in-Some.ensures.items c.pairs.invariant.todo).1

pub take-requires-clause-todo : goal.take-requires-clause-todo
take-requires-clause-todo c = (All_popped (IsPairOf (length c.pairs.bank.terms)) c.pairs.todo.items c.pop.new.self.items c.in-Some.pair c.in-Some.ensures.items c.pairs.invariant.todo).0

pub pairs-smaller : goal.pairs-smaller
pairs-smaller c = omega (arith, c.in_ok-spend.ensures.spent, c.in_ok-take.ensures.fewer)

pub returns-in_default-clause-fewer : goal.returns-in_default-clause-fewer
returns-in_default-clause-fewer c = c.pairs.invariant.fewer

pub returns-in_default-clause-bound : goal.returns-in_default-clause-bound
returns-in_default-clause-bound c = λ is. elim c.pairs.invariant.still [
  | inl less ↦ less
  | inr same ↦
      let told : false ≡ c.ne.result =
      marks_tell c.ne.result false c.args.bindings.now c.pairs.bindings c.mark-before.result.terms c.mark.result.terms c.mark-before.result.types c.mark.result.types c.ne.ensures c.mark-before.ensures.terms c.mark.ensures.terms
      c.mark-before.ensures.types c.mark.ensures.types (ap (λ b. length b.terms.entries) same, ap (λ b. length b.types.entries) same) in
      absurd (cc)
]
