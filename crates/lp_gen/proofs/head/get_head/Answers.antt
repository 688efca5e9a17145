use Rattle.lp_gen.proofs.HeadUsed.{constant_head_takes, other_head_takes}
use Rattle.lp_gen.proofs.AtomWritten.{other_goal}
use Rattle.lp_gen.proofs.Using.{uses_both, uses_same, lacks_first, lacks_then}
use Rattle.lp_calculus.specs.Term.{Term}
use Rattle.lp_gen.specs.Registers.{head_takes, head_arguments_take, behind_arguments}
use Rattle.lp_gen.specs.inner.Using.{Lacks}
use Rattle.lp_lemmas.proofs.Results.{passed_up}
use Rattle.std.proofs.Common.{[], map, length, subst, ◌≡◌, ◌∙◌, ap, sym}
use Rattle.lp_term.specs.Nodes.{tree}
use Rattle.lp_term.specs.declared.node.TermId.{TermId}
use Rattle.lp_gen.specs.Steps.{constant_function, head_type}
use Rattle.lp_gen.specs.inner.Listing.{around_of}
use Rattle.lp_gen.specs.inner.Heading.{ArgumentsGot}
use Rattle.lp_gen.proofs.HeadNodes.{constant_head, other_head}
use Rattle.lp_gen.proofs.head.get_head.Goals as goal

pub returns-in-Const-clause-code : goal.returns-in-Const-clause-code
returns-in-Const-clause-code c =
    let b = c.args.tables.bank.now in
    let K = constant_function b c.args.tables.constants.now in
    let a = around_of b c.args.environment.now in
    let head = tree b c.in_ok-spine.spine.head.0 in
    constant_head K b c.args.emitter.now c.get_types.new.emitter c.get_arguments.new.emitter a (around_of b c.get_arguments.new.environment) c.in-Const.field-0 c.in-Const.types.now head
    (map (λ (t : TermId). tree b t.0) c.in_ok-spine.spine.args.items) (tree b c.args.head.0) c.predicate-named.result c.in_ok-get_types.ensures.code
    (subst (λ l. ArgumentsGot K c.get_types.new.emitter c.get_arguments.new.emitter a (around_of b c.get_arguments.new.environment) (head_type K [] a head) (map (λ (t : TermId). tree b t.0) l))
    c.as_slice-args.ensures.value c.in_ok-get_arguments.ensures.code) c.in-Const.ensures.tree c.in_ok-spine.ensures.tree c.predicate-named.ensures

pub returns-clause-code : goal.returns-clause-code
returns-clause-code c =
    let b = c.args.tables.bank.now in
    let K = constant_function b c.args.tables.constants.now in
    let a = around_of b c.args.environment.now in
    let head = tree b c.in_ok-spine.spine.head.0 in
    other_head K b c.args.emitter.now c.get_arguments-2.new.emitter a (around_of b c.get_arguments-2.new.environment) (length b.types) c.in_ok-spine.spine.head.0 c.term_node.result head
    (map (λ (t : TermId). tree b t.0) c.in_ok-spine.spine.args.items) (tree b c.args.head.0) c.predicate-named.result c.in_ok-spine.ensures.head c.in_default.not-Const c.term_node.ensures.older
    c.term_node.ensures.tree
    (subst (λ l. ArgumentsGot K c.args.emitter.now c.get_arguments-2.new.emitter a (around_of b c.get_arguments-2.new.environment) (head_type K [] a head) (map (λ (t : TermId). tree b t.0) l))
    c.as_slice-args.ensures.value c.in_ok-get_arguments-2.ensures.code) c.in_ok-spine.ensures.tree c.predicate-named.ensures

pub returns-in-Const-clause-around : goal.returns-in-Const-clause-around
returns-in-Const-clause-around c =
    let b = c.args.tables.bank.now in
    let f : TermId → Term = λ t. tree b t.0 in
    let ts = map f c.in_ok-spine.spine.args.items in
    let H = head_type (constant_function c.args.tables.bank.now c.args.tables.constants.now) [] (around_of c.args.tables.bank.now c.args.environment.now) (tree b c.in_ok-spine.spine.head.0) in
    let args : map f c.as_slice-args.result.now ≡ ts = ap (map f) c.as_slice-args.ensures.value in
    let all = constant_head_takes (constant_function c.args.tables.bank.now c.args.tables.constants.now) b (around_of c.args.tables.bank.now c.args.environment.now) c.in-Const.field-0 c.in-Const.types.now (tree b c.in_ok-spine.spine.head.0) ts (tree c.args.tables.bank.now c.args.head.0) c.in-Const.ensures.tree c.in_ok-spine.ensures.tree in
    c.in_ok-get_arguments.ensures.around ∙ ap (behind_arguments (constant_function c.args.tables.bank.now c.args.tables.constants.now) (around_of c.args.tables.bank.now c.args.environment.now) H) args ∙ sym all.1

pub returns-in-Const-clause-uses : goal.returns-in-Const-clause-uses
returns-in-Const-clause-uses c =
    let b = c.args.tables.bank.now in
    let f : TermId → Term = λ t. tree b t.0 in
    let ts = map f c.in_ok-spine.spine.args.items in
    let H = head_type (constant_function c.args.tables.bank.now c.args.tables.constants.now) [] (around_of c.args.tables.bank.now c.args.environment.now) (tree b c.in_ok-spine.spine.head.0) in
    let args : map f c.as_slice-args.result.now ≡ ts = ap (map f) c.as_slice-args.ensures.value in
    let all = constant_head_takes (constant_function c.args.tables.bank.now c.args.tables.constants.now) b (around_of c.args.tables.bank.now c.args.environment.now) c.in-Const.field-0 c.in-Const.types.now (tree b c.in_ok-spine.spine.head.0) ts (tree c.args.tables.bank.now c.args.head.0) c.in-Const.ensures.tree c.in_ok-spine.ensures.tree in
    uses_same (sym all.0) (uses_both c.in_ok-get_types.ensures.uses (uses_same (ap (head_arguments_take (constant_function c.args.tables.bank.now c.args.tables.constants.now) (around_of c.args.tables.bank.now c.args.environment.now) 0 H) args) c.in_ok-get_arguments.ensures.uses))

pub returns-in_err-get_types-clause-lacks : goal.returns-in_err-get_types-clause-lacks
returns-in_err-get_types-clause-lacks c =
    let b = c.args.tables.bank.now in
    let f : TermId → Term = λ t. tree b t.0 in
    let ts = map f c.in_ok-spine.spine.args.items in
    let H = head_type (constant_function c.args.tables.bank.now c.args.tables.constants.now) [] (around_of c.args.tables.bank.now c.args.environment.now) (tree b c.in_ok-spine.spine.head.0) in
    let args : map f c.as_slice-args.result.now ≡ ts = ap (map f) c.as_slice-args.ensures.value in
    let all = constant_head_takes (constant_function c.args.tables.bank.now c.args.tables.constants.now) b (around_of c.args.tables.bank.now c.args.environment.now) c.in-Const.field-0 c.in-Const.types.now (tree b c.in_ok-spine.spine.head.0) ts (tree c.args.tables.bank.now c.args.head.0) c.in-Const.ensures.tree c.in_ok-spine.ensures.tree in
    let e = c.in_err-get_types.field-0.0 in
    passed_up c.from_residual-in_err-get_types.result e (Lacks c.args.emitter.now (head_takes (constant_function c.args.tables.bank.now c.args.tables.constants.now) (around_of c.args.tables.bank.now c.args.environment.now) (tree c.args.tables.bank.now c.args.head.0))) c.from_residual-in_err-get_types.ensures.1
    (subst (λ x. Lacks c.args.emitter.now x e) (sym all.0) (lacks_first (head_arguments_take (constant_function c.args.tables.bank.now c.args.tables.constants.now) (around_of c.args.tables.bank.now c.args.environment.now) 0 H ts) c.in_err-get_types.ensures.lacks))

pub returns-in_err-get_arguments-clause-lacks : goal.returns-in_err-get_arguments-clause-lacks
returns-in_err-get_arguments-clause-lacks c =
    let b = c.args.tables.bank.now in
    let f : TermId → Term = λ t. tree b t.0 in
    let ts = map f c.in_ok-spine.spine.args.items in
    let H = head_type (constant_function c.args.tables.bank.now c.args.tables.constants.now) [] (around_of c.args.tables.bank.now c.args.environment.now) (tree b c.in_ok-spine.spine.head.0) in
    let args : map f c.as_slice-args.result.now ≡ ts = ap (map f) c.as_slice-args.ensures.value in
    let all = constant_head_takes (constant_function c.args.tables.bank.now c.args.tables.constants.now) b (around_of c.args.tables.bank.now c.args.environment.now) c.in-Const.field-0 c.in-Const.types.now (tree b c.in_ok-spine.spine.head.0) ts (tree c.args.tables.bank.now c.args.head.0) c.in-Const.ensures.tree c.in_ok-spine.ensures.tree in
    let e = c.in_err-get_arguments.field-0.0 in
    passed_up c.from_residual-in_err-get_arguments.result e (Lacks c.args.emitter.now (head_takes (constant_function c.args.tables.bank.now c.args.tables.constants.now) (around_of c.args.tables.bank.now c.args.environment.now) (tree c.args.tables.bank.now c.args.head.0))) c.from_residual-in_err-get_arguments.ensures.1
    (subst (λ x. Lacks c.args.emitter.now x e) (sym all.0) (lacks_then c.in_ok-get_types.ensures.uses (subst (λ l. Lacks c.get_types.new.emitter (head_arguments_take (constant_function c.args.tables.bank.now c.args.tables.constants.now) (around_of c.args.tables.bank.now c.args.environment.now) 0 H l) e) args c.in_err-get_arguments.ensures.lacks)))

pub returns-clause-around : goal.returns-clause-around
returns-clause-around c =
    let b = c.args.tables.bank.now in
    let f : TermId → Term = λ t. tree b t.0 in
    let ts = map f c.in_ok-spine.spine.args.items in
    let H = head_type (constant_function c.args.tables.bank.now c.args.tables.constants.now) [] (around_of c.args.tables.bank.now c.args.environment.now) (tree b c.in_ok-spine.spine.head.0) in
    let args : map f c.as_slice-args.result.now ≡ ts = ap (map f) c.as_slice-args.ensures.value in
    let head = c.in_ok-spine.spine.head in
    let all = other_head_takes (constant_function c.args.tables.bank.now c.args.tables.constants.now) (around_of c.args.tables.bank.now c.args.environment.now) (tree b head.0) ts (tree c.args.tables.bank.now c.args.head.0) c.in_ok-spine.ensures.head
    (other_goal b (length b.types) head.0 c.term_node.result (tree b head.0) ts (tree c.args.tables.bank.now c.args.head.0) c.in_default.not-Const c.term_node.ensures.older c.term_node.ensures.tree c.in_ok-spine.ensures.head
    c.in_ok-spine.ensures.tree) c.in_ok-spine.ensures.tree in
    c.in_ok-get_arguments-2.ensures.around ∙ ap (behind_arguments (constant_function c.args.tables.bank.now c.args.tables.constants.now) (around_of c.args.tables.bank.now c.args.environment.now) H) args ∙ sym all.1

pub returns-clause-uses : goal.returns-clause-uses
returns-clause-uses c =
    let b = c.args.tables.bank.now in
    let f : TermId → Term = λ t. tree b t.0 in
    let ts = map f c.in_ok-spine.spine.args.items in
    let H = head_type (constant_function c.args.tables.bank.now c.args.tables.constants.now) [] (around_of c.args.tables.bank.now c.args.environment.now) (tree b c.in_ok-spine.spine.head.0) in
    let args : map f c.as_slice-args.result.now ≡ ts = ap (map f) c.as_slice-args.ensures.value in
    let head = c.in_ok-spine.spine.head in
    let all = other_head_takes (constant_function c.args.tables.bank.now c.args.tables.constants.now) (around_of c.args.tables.bank.now c.args.environment.now) (tree b head.0) ts (tree c.args.tables.bank.now c.args.head.0) c.in_ok-spine.ensures.head
    (other_goal b (length b.types) head.0 c.term_node.result (tree b head.0) ts (tree c.args.tables.bank.now c.args.head.0) c.in_default.not-Const c.term_node.ensures.older c.term_node.ensures.tree c.in_ok-spine.ensures.head
    c.in_ok-spine.ensures.tree) c.in_ok-spine.ensures.tree in
    uses_same (sym all.0) (uses_same (ap (head_arguments_take (constant_function c.args.tables.bank.now c.args.tables.constants.now) (around_of c.args.tables.bank.now c.args.environment.now) 0 H) args) c.in_ok-get_arguments-2.ensures.uses)

pub returns-in_err-get_arguments-2-clause-lacks : goal.returns-in_err-get_arguments-2-clause-lacks
returns-in_err-get_arguments-2-clause-lacks c =
    let b = c.args.tables.bank.now in
    let f : TermId → Term = λ t. tree b t.0 in
    let ts = map f c.in_ok-spine.spine.args.items in
    let H = head_type (constant_function c.args.tables.bank.now c.args.tables.constants.now) [] (around_of c.args.tables.bank.now c.args.environment.now) (tree b c.in_ok-spine.spine.head.0) in
    let args : map f c.as_slice-args.result.now ≡ ts = ap (map f) c.as_slice-args.ensures.value in
    let head = c.in_ok-spine.spine.head in
    let all = other_head_takes (constant_function c.args.tables.bank.now c.args.tables.constants.now) (around_of c.args.tables.bank.now c.args.environment.now) (tree b head.0) ts (tree c.args.tables.bank.now c.args.head.0) c.in_ok-spine.ensures.head
    (other_goal b (length b.types) head.0 c.term_node.result (tree b head.0) ts (tree c.args.tables.bank.now c.args.head.0) c.in_default.not-Const c.term_node.ensures.older c.term_node.ensures.tree c.in_ok-spine.ensures.head
    c.in_ok-spine.ensures.tree) c.in_ok-spine.ensures.tree in
    let e = c.in_err-get_arguments-2.field-0.0 in
    passed_up c.from_residual-in_err-get_arguments-2.result e (Lacks c.args.emitter.now (head_takes (constant_function c.args.tables.bank.now c.args.tables.constants.now) (around_of c.args.tables.bank.now c.args.environment.now) (tree c.args.tables.bank.now c.args.head.0))) c.from_residual-in_err-get_arguments-2.ensures.1
    (subst (λ x. Lacks c.args.emitter.now x e) (sym all.0) (subst (λ l. Lacks c.args.emitter.now (head_arguments_take (constant_function c.args.tables.bank.now c.args.tables.constants.now) (around_of c.args.tables.bank.now c.args.environment.now) 0 H l) e) args c.in_err-get_arguments-2.ensures.lacks))
