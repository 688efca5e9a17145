use Rattle.lp_term.proofs.Trees.{extends_same, extends-trans}
use Rattle.std.proofs.Common.{arith, refl, []}
use Rattle.lp_cert.proofs.Comparisons.{nothing}
use Rattle.lp_cert.proofs.Deriving.{task_back, nothing_left}
use Rattle.lp_cert.proofs.Completing.{taken_tidy, task_taken, ended_keeps}
use Rattle.lp_cert.proofs.Keeping.{refused}
use Rattle.lp_cert.proofs.typing.Typing.finish.Goals as goal

pub loop-init : goal.loop-init
loop-init c = record { kept = extends_same c.args.bank.now; known = c.requires.known; moves = λ b e θ T s d. (s, d); tidy = λ y. y; can = λ y b g T s. s }

pub loop-preserved : goal.loop-preserved
loop-preserved c = record {
  kept = extends-trans _ _ _ c.loop.invariant.kept c.in_ok-take.ensures.kept;
  known = c.in_ok-take.ensures.known;
  moves = λ b e θ T s d.
      let m = c.in_ok-take.ensures.moves c.if-not-branch.false b e θ T s d in
      c.loop.invariant.moves b (extends-trans _ _ _ c.in_ok-take.ensures.kept e) θ T m.0 (task_back b θ c.loop.self c.pop.new.self.items c.in-Some.task T c.in-Some.ensures.items m.1);
  tidy = λ y.
      let t = taken_tidy c.loop.bank c.loop.self (record {
        alloc = c.loop.self.alloc;
        constants = c.loop.self.constants;
        eigens = c.loop.self.eigens;
        context = c.loop.self.context;
        stack = c.loop.self.stack;
        pairs = c.loop.self.pairs;
        tasks = c.pop.new.self;
        next = c.loop.self.next;
      })
      c.in-Some.task c.in-Some.ensures.items refl refl refl refl refl refl (c.loop.invariant.tidy y) in
      (c.in_ok-take.ensures.keeps t.0 t.1).tidy c.if-not-branch.false;
  can = λ y b g T s.
      let t = taken_tidy c.loop.bank c.loop.self (record {
        alloc = c.loop.self.alloc;
        constants = c.loop.self.constants;
        eigens = c.loop.self.eigens;
        context = c.loop.self.context;
        stack = c.loop.self.stack;
        pairs = c.loop.self.pairs;
        tasks = c.pop.new.self;
        next = c.loop.self.next;
      })
      c.in-Some.task c.in-Some.ensures.items refl refl refl refl refl refl (c.loop.invariant.tidy y) in
      ((c.in_ok-take.ensures.keeps t.0 t.1).can b g T (task_taken b c.loop.self (record {
        alloc = c.loop.self.alloc;
        constants = c.loop.self.constants;
        eigens = c.loop.self.eigens;
        context = c.loop.self.context;
        stack = c.loop.self.stack;
        pairs = c.loop.self.pairs;
        tasks = c.pop.new.self;
        next = c.loop.self.next;
      }) c.in-Some.task T
      c.in-Some.ensures.items refl refl refl refl refl (c.loop.invariant.can y b (extends-trans _ _ _ c.in_ok-take.ensures.kept g) T s))).1;
}

pub returns-in_default-clause-derives : goal.returns-in_default-clause-derives
returns-in_default-clause-derives c = λ e b g θ T R s k. (c.loop.invariant.moves b g θ T s (nothing_left b θ c.loop.self T R (nothing c.loop.self.tasks.items (omega (arith, c.in_default.ensures.cases.0, c.loop.self.tasks.ok))) k)).1

pub returns-in_default-clause-keeps : goal.returns-in_default-clause-keeps
returns-in_default-clause-keeps c = λ y.
    ended_keeps c.loop.bank c.args.self.now c.loop.self _ (nothing c.loop.self.tasks.items
    (omega (arith, c.in_default.ensures.cases.0, c.loop.self.tasks.ok))) (nothing c.pop.new.self.items
    (omega (arith, c.in_default.ensures.cases.1, c.pop.new.self.ok))) refl refl refl refl refl refl (c.loop.invariant.tidy y)
    (c.loop.invariant.can y)

pub returns-in_default-clause-ended : goal.returns-in_default-clause-ended
returns-in_default-clause-ended c = λ e. nothing c.pop.new.self.items (omega (arith, c.in_default.ensures.cases.1, c.pop.new.self.ok))

pub returns-then-not-branch-clause-keeps : goal.returns-then-not-branch-clause-keeps
returns-then-not-branch-clause-keeps c = λ y.
    let t = taken_tidy c.loop.bank c.loop.self (record {
      alloc = c.loop.self.alloc;
      constants = c.loop.self.constants;
      eigens = c.loop.self.eigens;
      context = c.loop.self.context;
      stack = c.loop.self.stack;
      pairs = c.loop.self.pairs;
      tasks = c.pop.new.self;
      next = c.loop.self.next;
    })
    c.in-Some.task c.in-Some.ensures.items refl refl refl refl refl refl (c.loop.invariant.tidy y) in
    refused c.take.new.bank c.args.self.now c.take.new.self (λ b. []) (λ b g T s.
    let q = ((c.in_ok-take.ensures.keeps t.0 t.1).can b g T (task_taken b c.loop.self
    (record {
      alloc = c.loop.self.alloc;
      constants = c.loop.self.constants;
      eigens = c.loop.self.eigens;
      context = c.loop.self.context;
      stack = c.loop.self.stack;
      pairs = c.loop.self.pairs;
      tasks = c.pop.new.self;
      next = c.loop.self.next;
    }) c.in-Some.task T
    c.in-Some.ensures.items refl refl refl refl refl (c.loop.invariant.can y b (extends-trans _ _ _ c.in_ok-take.ensures.kept g) T s))).0 in
    let p = c.if-not-branch.true in
    absurd (cc))
