use Rattle.std.proofs.Common.{ℕ, suc, ◌≤◌, arith, refl}
use Rattle.lp_term.proofs.Trees.{extends_same, extends-trans}
use Rattle.lp_term.proofs.Moves.{passed_up}
use Rattle.lp_model.specs.Pair.{Closing}
use Rattle.lp_pattern.specs.Under.{IsReading, under}
use Rattle.lp_pattern.specs.Stripping.{IsShut, HasNoForm, stop}
use Rattle.lp_pattern.proofs.ArgumentForms.{strips_start, strips_no_form, deep_form, no_abstraction, one_stripped}
use Rattle.lp_pattern.proofs.Walking.{reading_kept}
use Rattle.lp_pattern.proofs.patterns.strip.Goals as goal

pub loop-count-init : goal.loop-count-init
loop-count-init c = record {
  kept = extends_same c.args.bank.now;
  strips = λ r i h n m s q x. strips_start n m (under c.args.bank.now r c.args.term) s q x;
}

pub returns-in_err-looked-clause-refused : goal.returns-in_err-looked-clause-refused
returns-in_err-looked-clause-refused c =
    passed_up c.from_residual.result c.in_err-looked.field-0.0
    (λ e. (r : Closing) → IsReading c.args.bank.now c.args.bindings.now r → IsShut r → (m : ℕ) → m ≤ 1000000 → HasNoForm m (under c.args.bank.now r c.args.term) e) c.from_residual.ensures.1
    (λ r i h m l.
    strips_no_form c.loop-count.count m (under c.args.bank.now r c.args.term) (under c.loop-count.bank r c.loop-count.at) c.in_err-looked.field-0.0
    (c.loop-count.invariant.strips r i h 0 c.loop-count.count (under c.loop-count.bank r c.loop-count.at) (omega arith) (stop 0 refl))
    (deep_form m (under c.loop-count.bank r c.loop-count.at) c.in_err-looked.field-0.0 l
    (c.in_err-looked.ensures.refused r (reading_kept c.args.bank.now c.loop-count.bank c.args.bindings.now r c.loop-count.invariant.kept i))))

pub returns-in_default : goal.returns-in_default
returns-in_default c = record {
  kept = extends-trans c.args.bank.now c.loop-count.bank c.look.new.bank c.loop-count.invariant.kept c.in_ok-looked.ensures.kept;
  looked = c.in_ok-looked.ensures.looked;
  top = no_abstraction c.in_ok-looked.looked.head c.in_default.not-Abstraction;
  strips = λ r i h.
      let w = c.in_ok-looked.ensures.reached r (reading_kept c.args.bank.now c.loop-count.bank c.args.bindings.now r c.loop-count.invariant.kept i) in
      c.loop-count.invariant.strips r i h 0 c.loop-count.count (under c.look.new.bank r c.in_ok-looked.looked.whole) (omega arith) (stop w.0 w.2);
  refused = tt;
}

pub loop-count-preserved : goal.loop-count-preserved
loop-count-preserved c = record {
  kept = extends-trans c.args.bank.now c.loop-count.bank c.look.new.bank c.loop-count.invariant.kept c.in_ok-looked.ensures.kept;
  strips = λ r i h n m s q x.
      let j = reading_kept c.args.bank.now c.loop-count.bank c.args.bindings.now r c.loop-count.invariant.kept i in
      c.loop-count.invariant.strips r i h (suc n) m s (omega (arith, q))
      (one_stripped n 1000000 c.loop-count.bank c.look.new.bank c.args.bindings.now r c.in_ok-looked.looked c.loop-count.at c.in-Abstraction.body s h c.in_ok-looked.ensures.looked c.in-Abstraction.is
      (c.in_ok-looked.ensures.reached r j) x);
}
