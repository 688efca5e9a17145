use Rattle.std.proofs.Common.{ap, ◌∙◌, ◌++◌, ◌∷◌, [], arith}
use Rattle.lp_cert.specs.declared.typing.Task.TheVariants as task
use Rattle.lp_cert.proofs.Deriving.{typed_at_end}
use Rattle.lp_term.specs.Nodes.{type_tree}
use Rattle.lp_cert.proofs.Comparisons.{nothing}
use Rattle.lp_cert.proofs.Completing.{reached, nothing_found, untyped_result}
use Rattle.lp_cert.proofs.typing.has_type.Goals as goal

pub returns-clause-typed : goal.returns-clause-typed
returns-clause-typed c =
    typed_at_end c.args.bank.now c.finish.new.bank (record { alloc = c.args.alloc; constants = c.args.constants; eigens = c.args.eigens; context = c.new.result; stack = c.new-2.result; pairs = c.new-3.result; tasks = c.push.new.self; next = 0 })
    c.finish.new.self c.equate.new.self c.as_slice.result.now c.pop.new.self.items c.args.term c.in-Some.found c.args.of c.have_solution.result c.in_ok-finish.ensures.kept c.new.ensures.items c.new-2.ensures.items
    (c.in_ok-push.ensures.items ∙ ap (λ ts. ts ++ task.Visit c.args.term ∷ []) c.new-4.ensures.items) c.in-Some.ensures.items c.as_slice.ensures.value (λ b θ. c.in_ok-equate.ensures.grown.solves b θ)
    (c.in_ok-finish.ensures.derives c.if-not-branch.false) c.have_solution.ensures.inside c.have_solution.ensures.solved

pub returns-then-not-branch-clause-untyped : goal.returns-then-not-branch-clause-untyped
returns-then-not-branch-clause-untyped c = λ e h l closed eigens constants b g d.
    let q = (reached c.args.bank.now c.finish.new.bank (record {
      alloc = c.args.alloc;
      constants = c.args.constants;
      eigens = c.args.eigens;
      context = c.new.result;
      stack = c.new-2.result;
      pairs = c.new-3.result;
      tasks = c.push.new.self;
      next = 0;
    }) c.finish.new.self c.args.term _
    c.in_ok-finish.ensures.kept c.new.ensures.items c.new-2.ensures.items c.new-3.ensures.items
    (c.in_ok-push.ensures.items ∙ ap (λ ts. ts ++ task.Visit c.args.term ∷ []) c.new-4.ensures.items) c.in_ok-finish.ensures.keeps h l eigens
    constants b g (type_tree b c.args.of.0) d).0 in
    let p = c.if-not-branch.true in
    absurd (cc)

pub returns-in_default-clause-untyped : goal.returns-in_default-clause-untyped
returns-in_default-clause-untyped c = λ e h l closed eigens constants b g d.
    nothing_found b c.finish.new.self (type_tree b c.args.of.0) (c.in_ok-finish.ensures.ended c.if-not-branch.false) (nothing c.finish.new.self.stack.items (omega (arith, c.in_default.ensures.cases.0, c.finish.new.self.stack.ok)))
    (reached c.args.bank.now c.finish.new.bank (record {
      alloc = c.args.alloc;
      constants = c.args.constants;
      eigens = c.args.eigens;
      context = c.new.result;
      stack = c.new-2.result;
      pairs = c.new-3.result;
      tasks = c.push.new.self;
      next = 0;
    }) c.finish.new.self c.args.term _
    c.in_ok-finish.ensures.kept c.new.ensures.items c.new-2.ensures.items c.new-3.ensures.items
    (c.in_ok-push.ensures.items ∙ ap (λ ts. ts ++ task.Visit c.args.term ∷ []) c.new-4.ensures.items) c.in_ok-finish.ensures.keeps h l eigens
    constants b g (type_tree b c.args.of.0) d).1

pub returns-clause-untyped : goal.returns-clause-untyped
returns-clause-untyped c =
    let q = c.in_ok-equate.ensures.equated in
    untyped_result c.args.bank.now c.finish.new.bank (record {
      alloc = c.args.alloc;
      constants = c.args.constants;
      eigens = c.args.eigens;
      context = c.new.result;
      stack = c.new-2.result;
      pairs = c.new-3.result;
      tasks = c.push.new.self;
      next = 0;
    }) c.finish.new.self
    c.equate.new.self c.as_slice.result.now c.pop.new.self.items c.args.term c.in-Some.found c.args.of _ c.have_solution.result
    c.in_ok-finish.ensures.kept c.new.ensures.items c.new-2.ensures.items c.new-3.ensures.items
    (c.in_ok-push.ensures.items ∙ ap (λ ts. ts ++ task.Visit c.args.term ∷ []) c.new-4.ensures.items) c.in_ok-finish.ensures.keeps
    c.if-not-branch.false (c.in_ok-finish.ensures.ended c.if-not-branch.false) c.in-Some.ensures.items c.as_slice.ensures.value
    (record { next = q.next; solved = q.solved; below = q.below }) c.have_solution.ensures.none
