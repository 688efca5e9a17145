use Rattle.std.proofs.Common.{◌≡◌, ◌∙◌, ap, sym, arith, ℕ, List, [], ◌++◌, true, Some, inl, inr, reverse, length, subst as transport}
use Rattle.std.specs.Prelude.{◌||◌, All}
use Rattle.lp_lemmas.proofs.Elements.{All_empty}
use Rattle.lp_pattern.specs.Growing.{IsPairOf}
use Rattle.lp_pattern.proofs.Falls.{round_falls}
use Rattle.lp_pattern.proofs.Stacks.{still_pairs, stacked_known}
use Rattle.lp_term.proofs.Moves.{passed_up}
use Rattle.lp_term.proofs.Trees.{extends-trans}
use Rattle.lp_model.specs.Pair.{Closing, Pair}
use Rattle.lp_model.specs.Unify.{Unified, solve}
use Rattle.lp_pattern.specs.Reading.{type_pairs_of}
use Rattle.lp_pattern.specs.Turning.{IsOpenReading, AreKnownPairs, ArePairsFor}
use Rattle.lp_pattern.specs.Unifying.{IsRefusedAs}
use Rattle.lp_pattern.proofs.Keeps.{grows_then}
use Rattle.lp_pattern.proofs.RunBegins.{run_begins, types_refused}
use Rattle.lp_pattern.proofs.RunLoops.{one_of, marks_tell, run_starts, wakes, ends}
use Rattle.lp_pattern.proofs.unify.solve_inside.Goals as goal
use Rattle.lp_pattern.proofs.unify.solve_inside.Goals.{else-not-is_bound-via-then-not-is_bound+else-not-has_types, else-not-is_bound-via-else-not-is_bound}

pub returns-in_err-solve_types-clause-refused : goal.returns-in_err-solve_types-clause-refused
returns-in_err-solve_types-clause-refused c =
    passed_up c.from_residual-in_err-solve_types.result c.in_err-solve_types.field-0.0
    (λ e. (r : Closing) → IsOpenReading c.args.bank.now c.args.bindings.now c.args.next.now r → (levels : ℕ → ℕ) → (ps ds : List Pair) → ArePairsFor
    c.args.bank.now r c.args.pairs.now ps → ArePairsFor c.args.bank.now r c.args.delayed.now ds → AreKnownPairs levels c.args.next.now ps →
    AreKnownPairs levels c.args.next.now ds → (n : ℕ) (u : Unified) →
    solve n c.args.limit (type_pairs_of c.args.bank.now r.types c.args.types.now) ps ds c.args.next.now ≡ Some u → IsRefusedAs e n u)
    c.from_residual-in_err-solve_types.ensures.1
    (λ r i lv ps ds p q k m n u h. types_refused n c.args.limit (type_pairs_of c.args.bank.now r.types c.args.types.now) ps ds c.args.next.now u c.in_err-solve_types.field-0.0 (λ j o x. c.in_err-solve_types.ensures.refused r.types i.reading.types j o x) h)

pub rounds-init : goal.rounds-init
rounds-init c = record {
  kept = c.in_ok-solve_types.ensures.kept;
  more = omega arith;
  grown = c.in_ok-solve_types.ensures.grown;
  todo =
      still_pairs c.args.bank.now c.solve_types.new.bank c.push_pairs.new.todo.items c.in_ok-solve_types.ensures.kept
      (stacked_known (length c.args.bank.now.terms) c.args.pairs.now c.new-todo.result.items c.push_pairs.new.todo.items c.new-todo.ensures.items c.in_ok-push_pairs.ensures c.requires.pairs);
  waiting =
      still_pairs c.args.bank.now c.solve_types.new.bank c.in_ok-waiting.waiting.items c.in_ok-solve_types.ensures.kept
      (transport (All (IsPairOf (length c.args.bank.now.terms))) (sym c.in_ok-waiting.ensures.items) c.requires.delayed);
  comes = λ r i lv ps ds p q k m n u h.
      run_starts c.args.limit (record { closing = r; levels = lv; next = c.args.next.now }) n u c.solve_types.new.bank c.solve_types.new.bindings
      c.args.next.now c.solve_types.new.units c.push_pairs.new.todo.items c.new-todo.result.items c.args.delayed.now c.in_ok-waiting.waiting.items
      c.ne-has_types.result
      c.args.bindings.now c.args.pairs.now
      (run_begins n c.args.limit (type_pairs_of c.args.bank.now r.types c.args.types.now) ps ds c.args.next.now c.solve_types.new.units u
      c.args.bank.now c.solve_types.new.bank c.args.bindings.now c.solve_types.new.bindings r lv c.args.pairs.now c.args.delayed.now
      c.in_ok-solve_types.ensures.kept i c.in_ok-solve_types.ensures.terms
      (λ j o x. c.in_ok-solve_types.ensures.behind r i.reading i.shut i.still j o x) (λ j o x. c.in_ok-solve_types.ensures.solved r.types i.reading.types j o x) c.requires.pairs c.requires.delayed p q k m h)
      (λ since x. marks_tell c.ne-has_types.result since c.args.bindings.now c.solve_types.new.bindings c.mark-before.result.terms c.mark.result.terms
      c.mark-before.result.types c.mark.result.types c.ne-has_types.ensures c.mark-before.ensures.terms c.mark.ensures.terms
      c.mark-before.ensures.types c.mark.ensures.types x)
      c.in_ok-push_pairs.ensures c.new-todo.ensures.items c.in_ok-waiting.ensures.items;
}

pub returns-in_err-is_bound-clause-grown : goal.returns-in_err-is_bound-clause-grown
returns-in_err-is_bound-clause-grown c = grows_then c.args.bindings.now c.rounds.bindings c.take_all.new.bindings c.rounds.invariant.grown c.take_all.ensures.grown

pub returns-in_err-is_bound-clause-refused : goal.returns-in_err-is_bound-clause-refused
returns-in_err-is_bound-clause-refused c =
    passed_up c.from_residual-in_err-is_bound.result c.in_err-is_bound.field-0.0
    (λ e. (r : Closing) → IsOpenReading c.args.bank.now c.args.bindings.now c.args.next.now r → (levels : ℕ → ℕ) → (ps ds : List Pair) → ArePairsFor
    c.args.bank.now r c.args.pairs.now ps → ArePairsFor c.args.bank.now r c.args.delayed.now ds → AreKnownPairs levels c.args.next.now ps →
    AreKnownPairs levels c.args.next.now ds → (n : ℕ) (u : Unified) →
    solve n c.args.limit (type_pairs_of c.args.bank.now r.types c.args.types.now) ps ds c.args.next.now ≡ Some u → IsRefusedAs e n u)
    c.from_residual-in_err-is_bound.ensures.1
    (λ r i lv ps ds p q k m n u h. c.in_err-is_bound.ensures.refused c.args.limit (record { closing = r; levels = lv; next = c.args.next.now }) n u c.rounds.has_types (c.rounds.invariant.comes r i lv ps ds p q k m n u h))

pub returns-then-not-has_types-clause-grown : goal.returns-then-not-has_types-clause-grown
returns-then-not-has_types-clause-grown c = grows_then c.args.bindings.now c.rounds.bindings c.take_all.new.bindings c.rounds.invariant.grown c.take_all.ensures.grown

pub returns-then-not-has_types-clause-solved : goal.returns-then-not-has_types-clause-solved
returns-then-not-has_types-clause-solved c = λ r i lv ps ds p q k m n u h.
    ends c.args.limit (record { closing = r; levels = lv; next = c.args.next.now }) n u c.take_all.new.bank c.take_all.new.bindings c.take_all.new.next c.take_all.new.units [] [] c.take_all.new.waiting.items [] (c.rounds.has_types || c.in_ok-is_bound.is_bound)
    (c.in_ok-is_bound.ensures.taken c.args.limit (record { closing = r; levels = lv; next = c.args.next.now }) n u c.rounds.has_types (c.rounds.invariant.comes r i lv ps ds p q k m n u h))
    (λ x. c.if-not-has_types.true x || c.if-not-is_bound.true x)

pub returns-in_err-push_pairs-2-clause-grown : goal.returns-in_err-push_pairs-2-clause-grown
returns-in_err-push_pairs-2-clause-grown c = grows_then c.args.bindings.now c.rounds.bindings c.take_all.new.bindings c.rounds.invariant.grown c.take_all.ensures.grown

pub rounds-preserved : goal.rounds-preserved
rounds-preserved c =
    let goes_on : (c.rounds.has_types || c.in_ok-is_bound.is_bound) ≡ true = elim c.else-not-is_bound.branch [
      | else-not-is_bound-via-then-not-is_bound+else-not-has_types w ↦ one_of c.rounds.has_types c.in_ok-is_bound.is_bound (inl w.if-not-has_types.false)
      | else-not-is_bound-via-else-not-is_bound w ↦ one_of c.rounds.has_types c.in_ok-is_bound.is_bound (inr w.if-not-is_bound.false)
    ] in
    record {
      kept = extends-trans c.args.bank.now c.rounds.bank c.take_all.new.bank c.rounds.invariant.kept c.take_all.ensures.kept;
      more = omega (arith, c.rounds.invariant.more, c.take_all.ensures.more);
      grown = grows_then c.args.bindings.now c.rounds.bindings c.take_all.new.bindings c.rounds.invariant.grown c.take_all.ensures.grown;
      todo =
          stacked_known (length c.take_all.new.bank.terms) c.as_slice.result.now c.take_all.new.todo.items c.push_pairs-in-rounds.new.todo.items c.in_ok-is_bound.ensures.emptied c.in_ok-push_pairs-2.ensures
          (transport (All (IsPairOf (length c.take_all.new.bank.terms))) (sym c.as_slice.ensures.value) c.in_ok-is_bound.ensures.waiting);
      waiting = All_empty (IsPairOf (length c.take_all.new.bank.terms)) c.clear.new.self.items c.clear.ensures.items;
      comes = λ r i lv ps ds p q k m n u h.
          wakes c.args.limit (record { closing = r; levels = lv; next = c.args.next.now }) n u c.take_all.new.bank c.take_all.new.bindings
          c.take_all.new.next c.take_all.new.units c.push_pairs-in-rounds.new.todo.items c.take_all.new.todo.items c.take_all.new.waiting.items
          c.clear.new.self.items (c.rounds.has_types || c.in_ok-is_bound.is_bound)
          (c.in_ok-is_bound.ensures.taken c.args.limit (record { closing = r; levels = lv; next = c.args.next.now }) n u c.rounds.has_types (c.rounds.invariant.comes r i lv ps ds p q k m n u h))
          goes_on (c.in_ok-push_pairs-2.ensures ∙ ap (λ l. c.take_all.new.todo.items ++ reverse l) c.as_slice.ensures.value) c.in_ok-is_bound.ensures.emptied c.clear.ensures.items;
    }

pub rounds-smaller : goal.rounds-smaller
rounds-smaller c =
    let goes_on : (c.rounds.has_types || c.in_ok-is_bound.is_bound) ≡ true = elim c.else-not-is_bound.branch [
      | else-not-is_bound-via-then-not-is_bound+else-not-has_types w ↦ one_of c.rounds.has_types c.in_ok-is_bound.is_bound (inl w.if-not-has_types.false)
      | else-not-is_bound-via-else-not-is_bound w ↦ one_of c.rounds.has_types c.in_ok-is_bound.is_bound (inr w.if-not-is_bound.false)
    ] in
    round_falls c.rounds.has_types c.in_ok-is_bound.is_bound c.take_all.new.units c.rounds.units goes_on c.in_ok-is_bound.ensures.fewer c.in_ok-is_bound.ensures.bound
