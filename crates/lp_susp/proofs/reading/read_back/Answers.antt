use Rattle.std.proofs.Common.{◌≡◌, ◌∙◌, ◌-◌, refl, sym, ap, subst, arith}
use Rattle.std.specs.Prelude.{All}
use Rattle.lp_calculus.specs.Convert.{leftmost_step, Reduces, done}
use Rattle.lp_term.specs.Nodes.{tree}
use Rattle.lp_susp.specs.Counted.{Counts, rests, elsewhere, StaysLarge}
use Rattle.lp_susp.specs.Frames.{Plugged, FrameStands, StateOf, nodes_around}
use Rattle.lp_susp.proofs.Chains.{marks_on}
use Rattle.lp_susp.proofs.Keeping.{reduced_same, reduced_of, reduced_on}
use Rattle.lp_susp.proofs.TypeWorks.{bank_same, bank_on}
use Rattle.lp_susp.proofs.Plugs.{plug_works, plug_kept, counts_on, counts_reduce}
use Rattle.lp_susp.proofs.Readbacks.{stopped_beta}
use Rattle.lp_susp.proofs.Sizes.{large_beta}
use Rattle.lp_susp.proofs.reading.read_back.Goals as goal

pub loop-step-init : goal.loop-step-init
loop-step-init c = record {
  stands = c.requires;
  frames = subst (λ l. All (FrameStands c.args.store.now c.args.bank.now) l) (sym c.new-frames.ensures.items) (λ k d h. absurd (omega arith));
  kept = bank_same c.args.bank.now;
  reduced = reduced_same c.args.store.now;
  marks = λ m k. (k, refl);
  left = omega arith;
  limit = refl;
  size = refl;
  counted = (let q : nodes_around c.args.bank.now c.new-frames.result.items ≡ 0 = ap (nodes_around c.args.bank.now) c.new-frames.ensures.items in omega (arith, q));
  reads = λ t r.
      (let q : 0 ≡ c.args.limit - c.args.limit = omega arith in
      (t, t, r, subst (λ l. Plugged c.args.store.now c.args.bank.now l t t) (sym c.new-frames.ensures.items) refl, subst (λ n. Counts leftmost_step n t t) q (rests t)));
}

pub returns-in-Err-clause-refused : goal.returns-in-Err-clause-refused
returns-in-Err-clause-refused c = λ t r.
    let s = c.loop-step.store in
    let b = c.loop-step.bank in
    let v = c.loop-step.invariant.reads t r in
    let x = subst (λ y. StateOf s b y v.0) c.in-Fresh.is v.2 in
    stopped_beta s b c.loop-step.frames.items c.args.limit c.loop-step.budget.limit c.loop-step.budget.left (c.args.limit - c.loop-step.budget.left) t
    v.0 v.1 c.in-Err.refusal (reduced_same s) c.loop-step.invariant.frames c.loop-step.invariant.limit (omega (arith, c.loop-step.invariant.left))
    v.4 v.3
    (c.in-Err.ensures.refused v.0 x)

pub returns-in-Err-clause-reduced : goal.returns-in-Err-clause-reduced
returns-in-Err-clause-reduced c = reduced_on c.args.store.now c.loop-step.store c.reduce.new.store c.loop-step.invariant.reduced c.in-Err.ensures.reduced

pub returns-in-Err-descend-clause-reduced : goal.returns-in-Err-descend-clause-reduced
returns-in-Err-descend-clause-reduced c = reduced_on c.args.store.now c.loop-step.store c.reduce.new.store c.loop-step.invariant.reduced c.in-Ok.ensures.reduced

pub returns-in-Err-descend-clause-refused : goal.returns-in-Err-descend-clause-refused
returns-in-Err-descend-clause-refused c = λ t r.
    let s = c.loop-step.store in
    let z = c.reduce.new.store in
    let b = c.loop-step.bank in
    let fs = c.loop-step.frames.items in
    let ok = c.in-Ok.ensures in
    let left = c.reduce.new.budget.left in
    let v = c.loop-step.invariant.reads t r in
    let q = ok.works v.0 (subst (λ y. StateOf s b y v.0) c.in-Fresh.is v.2) in
    let p = plug_works s b fs c.loop-step.invariant.frames (reduced_same s) q.3 v.1 v.3 in
    let k = plug_kept s z b ok.reduced fs c.loop-step.invariant.frames q.0 q.0 p.0 (done q.0) p.1 in
    let n = counts_on v.4 p.2 (c.args.limit - left) (omega (arith, ok.left, c.loop-step.invariant.left)) in
    let m = counts_on n (elsewhere k.2 (rests k.0)) (c.args.limit - left) (omega arith) in
    large_beta c.args.limit t k.0 c.in-Err-descend.refusal m (subst (λ j. StaysLarge j k.0 c.in-Err-descend.refusal) c.loop-step.invariant.size (c.in-Err-descend.ensures.refused q.0 k.0 k.1))

pub returns-in-Err-descend-2-clause-refused : goal.returns-in-Err-descend-2-clause-refused
returns-in-Err-descend-2-clause-refused c = λ t r.
    let s = c.loop-step.store in
    let z = c.expose.new.store in
    let b = c.loop-step.bank in
    let fs = c.loop-step.frames.items in
    let n = reduced_of s z c.in_ok-id-in-Known.ensures.kept in
    let v = c.loop-step.invariant.reads t r in
    let k = plug_kept s z b n fs c.loop-step.invariant.frames v.0 v.0 v.1 (done v.0) v.3 in
    let j = c.args.limit - c.loop-step.budget.left in
    let m = counts_on v.4 (elsewhere k.2 (rests k.0)) j (omega arith) in
    large_beta c.args.limit t k.0 c.in-Err-descend-2.refusal m (subst (λ i. StaysLarge i k.0 c.in-Err-descend-2.refusal) c.loop-step.invariant.size (c.in-Err-descend-2.ensures.refused v.0 k.0 k.1))

pub loop-step-preserved-in-Fresh : goal.loop-step-preserved-in-Fresh
loop-step-preserved-in-Fresh c =
    let s = c.loop-step.store in
    let z = c.reduce.new.store in
    let b = c.loop-step.bank in
    let fs = c.loop-step.frames.items in
    let ok = c.in-Ok.ensures in
    let e = c.in-Ok-descend.ensures in
    let left = c.reduce.new.budget.left in
    record {
      stands = e.stands;
      frames = e.frames;
      kept = bank_on c.args.bank.now b c.descend.new.bank c.loop-step.invariant.kept e.kept;
      reduced = reduced_on c.args.store.now s z c.loop-step.invariant.reduced ok.reduced;
      marks = marks_on c.args.store.now s z c.loop-step.invariant.marks ok.marks;
      left = omega (arith, ok.left, c.loop-step.invariant.left);
      limit = ok.limit ∙ c.loop-step.invariant.limit;
      size = e.limit ∙ c.loop-step.invariant.size;
      counted = e.counted ∙ e.limit ∙ c.loop-step.invariant.size;
      reads = λ t r.
          (let v = c.loop-step.invariant.reads t r in
          let q = ok.works v.0 (subst (λ y. StateOf s b y v.0) c.in-Fresh.is v.2) in
          let p = plug_works s b fs c.loop-step.invariant.frames (reduced_same s) q.3 v.1 v.3 in
          let k = plug_kept s z b ok.reduced fs c.loop-step.invariant.frames q.0 q.0 p.0 (done q.0) p.1 in
          let y = e.state q.0 k.0 q.1 q.4 k.1 in
          let n = counts_on v.4 p.2 (c.args.limit - left) (omega (arith, ok.left, c.loop-step.invariant.left)) in
          (y.0, k.0, y.1, y.2, counts_on n (elsewhere k.2 (rests k.0)) (c.args.limit - left) (omega arith)));
    }

pub loop-step-preserved-in-Known : goal.loop-step-preserved-in-Known
loop-step-preserved-in-Known c =
    let s = c.loop-step.store in
    let z = c.expose.new.store in
    let b = c.loop-step.bank in
    let fs = c.loop-step.frames.items in
    let ok = c.in_ok-id-in-Known.ensures in
    let e = c.in-Ok-descend-2.ensures in
    let n = reduced_of s z ok.kept in
    record {
      stands = e.stands;
      frames = e.frames;
      kept = bank_on c.args.bank.now b c.descend-in-Known.new.bank c.loop-step.invariant.kept e.kept;
      reduced = reduced_on c.args.store.now s z c.loop-step.invariant.reduced n;
      marks = marks_on c.args.store.now s z c.loop-step.invariant.marks ok.marks;
      left = c.loop-step.invariant.left;
      limit = c.loop-step.invariant.limit;
      size = e.limit ∙ c.loop-step.invariant.size;
      counted = e.counted ∙ e.limit ∙ c.loop-step.invariant.size;
      reads = λ t r.
          (let v = c.loop-step.invariant.reads t r in
          let x = subst (λ y. StateOf s b y v.0) c.in-Known.is v.2 in
          let k = plug_kept s z b n fs c.loop-step.invariant.frames v.0 v.0 v.1 (done v.0) v.3 in
          let y = e.state v.0 k.0 (ok.reads v.0 x.0) x.1 k.1 in
          let m = c.args.limit - c.loop-step.budget.left in
          (y.0, k.0, y.1, y.2, counts_on v.4 (elsewhere k.2 (rests k.0)) m (omega arith)));
    }

pub returns-in_default-clause-term : goal.returns-in_default-clause-term
returns-in_default-clause-term c = λ t r.
    let b = c.loop-step.bank in
    let v = c.loop-step.invariant.reads t r in
    let x = subst (λ y. StateOf c.loop-step.store b y v.0) c.in-Built.is v.2 in
    let e = c.in_ok-next-in-Built.ensures.ended c.in_default.is in
    let p : v.0 ≡ v.1 = subst (λ l. Plugged c.loop-step.store b l v.0 v.1) e.0 v.3 in
    let q : v.1 ≡ tree c.ascend.new.bank c.in-Built.id.0 = sym p ∙ x.0 ∙ ap (λ d. tree d c.in-Built.id.0) (sym e.1) in
    (subst (Reduces t) q (counts_reduce v.4), ap leftmost_step (sym q ∙ sym p) ∙ x.1)
