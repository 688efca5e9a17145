use Rattle.lp_gen.proofs.TermsUsed.{next_takes, behind_pushed, terms_use_next, terms_lack}
use Rattle.lp_gen.proofs.Using.{uses_nothing, uses_same, part_of}
use Rattle.lp_gen.proofs.TypeWorks.{map_length}
use Rattle.lp_gen.specs.Registers.{term_takes, behind_term, terms_take, behind_terms}
use Rattle.lp_gen.specs.inner.Using.{Lacks, Uses}
use Rattle.lp_lemmas.proofs.Results.{passed_up}
use Rattle.std.proofs.Common.{◌≡◌, ◌∙◌, [], map, sym, subst, ◌∷◌, length, ap, refl, arith}
use Rattle.std.proofs.lemmas.List.{map-id, map-append, length-append}
use Rattle.std.proofs.lemmas.Iterator.{YieldsList-from_slice}
use Rattle.std.proofs.lemmas.Iterator.Consumers.{YieldsList-end, YieldsList-from_copied, YieldsList-turn, YieldsList-so_far}
use Rattle.lp_term.specs.Nodes.{tree}
use Rattle.lp_term.specs.declared.node.TermId.{TermId}
use Rattle.lp_gen.specs.Steps.{from_of, constant_function, head_type}
use Rattle.lp_gen.specs.inner.Reading.{read}
use Rattle.lp_gen.specs.inner.Listing.{around_of, read_function}
use Rattle.lp_gen.specs.inner.Written.{ArgumentsWritten, left_by}
use Rattle.lp_gen.proofs.TermWritten.{no_arguments, next_argument_written}
use Rattle.lp_gen.proofs.terms.put_arguments.Goals as goal

pub loop-arg-init : goal.loop-arg-init
loop-arg-init c =
    let b = c.args.tables.bank.now in
    let K = constant_function b c.args.tables.constants.now in
    let a = around_of b c.args.environment.now in
    let F = head_type K [] a (tree b c.args.head.0) in (
      subst (λ l. ArgumentsWritten K c.args.emitter.now c.args.emitter.now a a l F []) (sym c.new-registers.ensures.items) (no_arguments K c.args.emitter.now a F),
      c.type_of_head-function.ensures,
      refl,
      ap length c.new-registers.ensures.items,
      uses_nothing c.args.emitter.now,
    )

pub loop-arg-preserved : goal.loop-arg-preserved
loop-arg-preserved c =
    let b = c.args.tables.bank.now in
    let K = constant_function b c.args.tables.constants.now in
    let a = around_of b c.args.environment.now in
    let xs = c.loop-arg.yielded in
    let left : read_function b c.loop-arg.function ≡ left_by (head_type (constant_function c.args.tables.bank.now c.args.tables.constants.now) [] (around_of c.args.tables.bank.now c.args.environment.now) (tree c.args.tables.bank.now c.args.head.0)) (length (map (λ (t : TermId). tree c.args.tables.bank.now t.0) xs)) = c.loop-arg.invariant.1 ∙ ap (left_by (head_type (constant_function c.args.tables.bank.now c.args.tables.constants.now) [] (around_of c.args.tables.bank.now c.args.environment.now) (tree c.args.tables.bank.now c.args.head.0))) (sym (map_length (λ (t : TermId). tree c.args.tables.bank.now t.0) xs)) in
    let of : read b c.next-of.result.0 ≡ from_of (left_by (head_type (constant_function c.args.tables.bank.now c.args.tables.constants.now) [] (around_of c.args.tables.bank.now c.args.environment.now) (tree c.args.tables.bank.now c.args.head.0)) (length (map (λ (t : TermId). tree c.args.tables.bank.now t.0) xs))) = c.next-of.ensures.from ∙ ap from_of left in
    let here : term_takes (constant_function c.args.tables.bank.now c.args.tables.constants.now) (around_of b c.loop-arg.environment) (read b c.next-of.result.0) (tree b c.in-Some.arg.0) ≡ next_takes (constant_function c.args.tables.bank.now c.args.tables.constants.now) (around_of c.args.tables.bank.now c.args.environment.now) (head_type (constant_function c.args.tables.bank.now c.args.tables.constants.now) [] (around_of c.args.tables.bank.now c.args.environment.now) (tree c.args.tables.bank.now c.args.head.0)) (map (λ (t : TermId). tree c.args.tables.bank.now t.0) xs) (tree b c.in-Some.arg.0) =
    (λ i. term_takes (constant_function c.args.tables.bank.now c.args.tables.constants.now) (c.loop-arg.invariant.2 i) (of i) (tree b c.in-Some.arg.0)) in
    let w =
    next_argument_written (λ (t : TermId). tree b t.0) K c.args.emitter.now c.loop-arg.emitter c.put_term.new.emitter a (around_of b c.loop-arg.environment) (around_of b c.put_term.new.environment)
    c.loop-arg.registers.items c.push.new.self.items c.in_ok-register.register (head_type K [] a (tree b c.args.head.0)) (read_function b c.loop-arg.function) (read_function b c.next-of.result.1)
    (read b c.next-of.result.0) c.loop-arg.yielded c.in-Some.arg (c.loop-arg.invariant.0, c.loop-arg.invariant.1) c.in_ok-register.ensures.code c.next-of.ensures.from c.next-of.ensures.to c.in_ok-push.ensures.items in (
      w.0,
      w.1,
      c.in_ok-register.ensures.around ∙ (λ i. behind_term (constant_function c.args.tables.bank.now c.args.tables.constants.now) (c.loop-arg.invariant.2 i) (of i) (tree b c.in-Some.arg.0))
          ∙ sym (ap (behind_terms (constant_function c.args.tables.bank.now c.args.tables.constants.now) (around_of c.args.tables.bank.now c.args.environment.now) (head_type (constant_function c.args.tables.bank.now c.args.tables.constants.now) [] (around_of c.args.tables.bank.now c.args.environment.now) (tree c.args.tables.bank.now c.args.head.0))) (map-append (λ (t : TermId). tree c.args.tables.bank.now t.0) xs (c.in-Some.arg ∷ [])) ∙ behind_pushed (constant_function c.args.tables.bank.now c.args.tables.constants.now) (around_of c.args.tables.bank.now c.args.environment.now) (head_type (constant_function c.args.tables.bank.now c.args.tables.constants.now) [] (around_of c.args.tables.bank.now c.args.environment.now) (tree c.args.tables.bank.now c.args.head.0)) (map (λ (t : TermId). tree c.args.tables.bank.now t.0) xs) (tree b c.in-Some.arg.0)),
      (let n = c.loop-arg.invariant.3 in
          let p = ap length c.in_ok-push.ensures.items in
          let q = length-append c.loop-arg.registers.items (c.in_ok-register.register ∷ []) in
          let r = length-append xs (c.in-Some.arg ∷ []) in
          omega (arith, n, p, q, r)),
      terms_use_next (constant_function c.args.tables.bank.now c.args.tables.constants.now) (λ (t : TermId). tree c.args.tables.bank.now t.0) c.args.emitter.now c.loop-arg.emitter c.put_term.new.emitter (around_of c.args.tables.bank.now c.args.environment.now) (head_type (constant_function c.args.tables.bank.now c.args.tables.constants.now) [] (around_of c.args.tables.bank.now c.args.environment.now) (tree c.args.tables.bank.now c.args.head.0)) xs c.in-Some.arg c.loop-arg.invariant.4 (uses_same here c.in_ok-register.ensures.uses),
    )

pub returns-clause-code : goal.returns-clause-code
returns-clause-code c =
    let b = c.args.tables.bank.now in
    let K = constant_function b c.args.tables.constants.now in
    let a = around_of b c.args.environment.now in
    let whole : c.loop-arg.yielded ≡ c.args.args.now = sym (map-id c.loop-arg.yielded)
    ∙ (YieldsList-end (YieldsList-from_copied (YieldsList-from_slice c.args.args.now cc)) c.loop-arg.yielded _ c.loop-arg.yielded_by _ _ c.in-None.is c.next.ensures.steps).0 in
    subst (λ l. ArgumentsWritten K c.args.emitter.now c.loop-arg.emitter a (around_of b c.loop-arg.environment) c.loop-arg.registers.items (head_type K [] a (tree b c.args.head.0))
    (map (λ (t : TermId). tree b t.0) l)) whole c.loop-arg.invariant.0

pub returns-clause-count : goal.returns-clause-count
returns-clause-count c =
    let whole : c.loop-arg.yielded ≡ c.args.args.now = sym (map-id c.loop-arg.yielded)
    ∙ (YieldsList-end (YieldsList-from_copied (YieldsList-from_slice c.args.args.now cc)) c.loop-arg.yielded _ c.loop-arg.yielded_by _ _ c.in-None.is c.next.ensures.steps).0 in
    c.loop-arg.invariant.3 ∙ ap length whole

pub returns-clause-around : goal.returns-clause-around
returns-clause-around c =
    let whole : c.loop-arg.yielded ≡ c.args.args.now = sym (map-id c.loop-arg.yielded)
    ∙ (YieldsList-end (YieldsList-from_copied (YieldsList-from_slice c.args.args.now cc)) c.loop-arg.yielded _ c.loop-arg.yielded_by _ _ c.in-None.is c.next.ensures.steps).0 in
    c.loop-arg.invariant.2 ∙ ap (λ l. behind_terms (constant_function c.args.tables.bank.now c.args.tables.constants.now) (around_of c.args.tables.bank.now c.args.environment.now) (head_type (constant_function c.args.tables.bank.now c.args.tables.constants.now) [] (around_of c.args.tables.bank.now c.args.environment.now) (tree c.args.tables.bank.now c.args.head.0)) (map (λ (t : TermId). tree c.args.tables.bank.now t.0) l)) whole

pub returns-clause-uses : goal.returns-clause-uses
returns-clause-uses c =
    let whole : c.loop-arg.yielded ≡ c.args.args.now = sym (map-id c.loop-arg.yielded)
    ∙ (YieldsList-end (YieldsList-from_copied (YieldsList-from_slice c.args.args.now cc)) c.loop-arg.yielded _ c.loop-arg.yielded_by _ _ c.in-None.is c.next.ensures.steps).0 in
    subst (λ l. Uses c.args.emitter.now c.loop-arg.emitter (terms_take (constant_function c.args.tables.bank.now c.args.tables.constants.now) (around_of c.args.tables.bank.now c.args.environment.now) (head_type (constant_function c.args.tables.bank.now c.args.tables.constants.now) [] (around_of c.args.tables.bank.now c.args.environment.now) (tree c.args.tables.bank.now c.args.head.0)) (map (λ (t : TermId). tree c.args.tables.bank.now t.0) l))) whole c.loop-arg.invariant.4

pub returns-in_err-register-clause-lacks : goal.returns-in_err-register-clause-lacks
returns-in_err-register-clause-lacks c =
    let road = YieldsList-from_copied (YieldsList-from_slice c.args.args.now cc) in
    let turn = YieldsList-turn road c.loop-arg.yielded _ c.loop-arg.yielded_by _ _ c.in-Some.arg c.in-Some.is c.next.ensures.steps in
    let so = YieldsList-so_far road c.loop-arg.yielded _ c.loop-arg.yielded_by in
    let part = part_of c.loop-arg.yielded c.args.args.now c.in-Some.arg so turn in
    let b = c.args.tables.bank.now in
    let xs = c.loop-arg.yielded in
    let left : read_function b c.loop-arg.function ≡ left_by (head_type (constant_function c.args.tables.bank.now c.args.tables.constants.now) [] (around_of c.args.tables.bank.now c.args.environment.now) (tree c.args.tables.bank.now c.args.head.0)) (length (map (λ (t : TermId). tree c.args.tables.bank.now t.0) xs)) = c.loop-arg.invariant.1 ∙ ap (left_by (head_type (constant_function c.args.tables.bank.now c.args.tables.constants.now) [] (around_of c.args.tables.bank.now c.args.environment.now) (tree c.args.tables.bank.now c.args.head.0))) (sym (map_length (λ (t : TermId). tree c.args.tables.bank.now t.0) xs)) in
    let of : read b c.next-of.result.0 ≡ from_of (left_by (head_type (constant_function c.args.tables.bank.now c.args.tables.constants.now) [] (around_of c.args.tables.bank.now c.args.environment.now) (tree c.args.tables.bank.now c.args.head.0)) (length (map (λ (t : TermId). tree c.args.tables.bank.now t.0) xs))) = c.next-of.ensures.from ∙ ap from_of left in
    let here : term_takes (constant_function c.args.tables.bank.now c.args.tables.constants.now) (around_of b c.loop-arg.environment) (read b c.next-of.result.0) (tree b c.in-Some.arg.0) ≡ next_takes (constant_function c.args.tables.bank.now c.args.tables.constants.now) (around_of c.args.tables.bank.now c.args.environment.now) (head_type (constant_function c.args.tables.bank.now c.args.tables.constants.now) [] (around_of c.args.tables.bank.now c.args.environment.now) (tree c.args.tables.bank.now c.args.head.0)) (map (λ (t : TermId). tree c.args.tables.bank.now t.0) xs) (tree b c.in-Some.arg.0) =
    (λ i. term_takes (constant_function c.args.tables.bank.now c.args.tables.constants.now) (c.loop-arg.invariant.2 i) (of i) (tree b c.in-Some.arg.0)) in
    let e = c.in_err-register.field-0.0 in
    passed_up c.from_residual.result e (Lacks c.args.emitter.now (terms_take (constant_function c.args.tables.bank.now c.args.tables.constants.now) (around_of c.args.tables.bank.now c.args.environment.now) (head_type (constant_function c.args.tables.bank.now c.args.tables.constants.now) [] (around_of c.args.tables.bank.now c.args.environment.now) (tree c.args.tables.bank.now c.args.head.0)) (map (λ (t : TermId). tree c.args.tables.bank.now t.0) c.args.args.now))) c.from_residual.ensures.1
    (terms_lack (constant_function c.args.tables.bank.now c.args.tables.constants.now) (λ (t : TermId). tree c.args.tables.bank.now t.0) c.args.emitter.now c.loop-arg.emitter (around_of c.args.tables.bank.now c.args.environment.now) (head_type (constant_function c.args.tables.bank.now c.args.tables.constants.now) [] (around_of c.args.tables.bank.now c.args.environment.now) (tree c.args.tables.bank.now c.args.head.0)) xs c.args.args.now c.in-Some.arg e part c.loop-arg.invariant.4 (subst (λ x. Lacks c.loop-arg.emitter x e) here c.in_err-register.ensures.lacks))
