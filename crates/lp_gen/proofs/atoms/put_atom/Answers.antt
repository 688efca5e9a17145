use Rattle.lp_gen.proofs.AtomsUsed.{constant_takes, other_atom_takes}
use Rattle.lp_gen.proofs.Using.{uses_both, uses_same, lacks_first, lacks_then}
use Rattle.lp_gen.proofs.TypeWorks.{map_length}
use Rattle.lp_gen.specs.Registers.{atom_takes, terms_take, call_takes, both, plain_code}
use Rattle.lp_gen.specs.inner.Using.{Lacks, Uses}
use Rattle.lp_lemmas.proofs.Results.{passed_up}
use Rattle.std.proofs.Common.{[], map, length, subst, ◌≡◌, ◌∙◌, ap, sym}
use Rattle.lp_calculus.specs.Term.{Term}
use Rattle.lp_term.specs.Nodes.{tree, type_tree}
use Rattle.lp_term.specs.declared.node.TermId.{TermId}
use Rattle.lp_gen.specs.Steps.{constant_function, head_type}
use Rattle.lp_gen.specs.inner.Listing.{around_of}
use Rattle.lp_gen.specs.inner.Written.{ArgumentsWritten}
use Rattle.lp_gen.proofs.AtomWritten.{constant_goal, term_call_written, other_goal}
use Rattle.lp_gen.proofs.atoms.put_atom.Goals as goal

pub returns-in-Const-clause-code : goal.returns-in-Const-clause-code
returns-in-Const-clause-code c =
    let b = c.args.tables.bank.now in
    let K = constant_function b c.args.tables.constants.now in
    let a = around_of b c.args.environment.now in
    let f : TermId → Term = λ t. tree b t.0 in
    constant_goal K b c.args.emitter.now c.put_types.new.emitter c.put_arguments.new.emitter c.put_call.new.emitter a
    (around_of b c.put_arguments.new.environment) c.in-Const.number c.in-Const.types.now
    (tree b c.in_ok-spine.spine.head.0) (map f c.in_ok-spine.spine.args.items) (tree b c.args.atom.0) c.in_ok-types-in-Const.types.items
    c.in_ok-terms-in-Const.terms.items c.in_ok-types-in-Const.ensures.code
    (subst (λ l. ArgumentsWritten K c.put_types.new.emitter c.put_arguments.new.emitter a (around_of b c.put_arguments.new.environment) c.in_ok-terms-in-Const.terms.items
    (head_type K [] a (tree b c.in_ok-spine.spine.head.0)) (map f l)) c.as_slice-args.ensures.value c.in_ok-terms-in-Const.ensures.code)
    c.in_ok-put_call-in-Const.ensures.code c.in-Const.ensures.tree c.in_ok-spine.ensures.tree

pub returns-clause-code : goal.returns-clause-code
returns-clause-code c =
    let b = c.args.tables.bank.now in
    let head = c.in_ok-spine.spine.head in
    term_call_written (constant_function b c.args.tables.constants.now) c.args.emitter.now c.put_term.new.emitter c.put_term_call.new.emitter (around_of b c.args.environment.now)
    (around_of b c.put_term.new.environment) c.in_ok-register-in_default.register (tree b c.args.atom.0) c.in_ok-register-in_default.ensures.code c.in_ok-put_term_call-in_default.ensures.code
    (other_goal b (length b.types) head.0 c.term_node.result (tree b head.0) (map (λ (t : TermId). tree b t.0) c.in_ok-spine.spine.args.items) (tree b c.args.atom.0) c.in_default.not-Const
    c.term_node.ensures.older c.term_node.ensures.tree c.in_ok-spine.ensures.head c.in_ok-spine.ensures.tree)

pub returns-in-Const-clause-uses : goal.returns-in-Const-clause-uses
returns-in-Const-clause-uses c =
    let b = c.args.tables.bank.now in
    let f : TermId → Term = λ t. tree b t.0 in
    let ts = map f c.in_ok-spine.spine.args.items in
    let H = head_type (constant_function c.args.tables.bank.now c.args.tables.constants.now) [] (around_of c.args.tables.bank.now c.args.environment.now) (tree b c.in_ok-spine.spine.head.0) in
    let Ts = map (λ i. type_tree b i.0) c.in-Const.types.now in
    let all = constant_takes (constant_function c.args.tables.bank.now c.args.tables.constants.now) b (around_of c.args.tables.bank.now c.args.environment.now) c.in-Const.number c.in-Const.types.now (tree b c.in_ok-spine.spine.head.0) ts (tree c.args.tables.bank.now c.args.atom.0) c.in-Const.ensures.tree c.in_ok-spine.ensures.tree in
    let args : map f c.as_slice-args.result.now ≡ ts = ap (map f) c.as_slice-args.ensures.value in
    let n : length c.in_ok-types-in-Const.types.items ≡ length Ts = c.in_ok-types-in-Const.ensures.count ∙ sym (map_length (λ i. type_tree b i.0) c.in-Const.types.now) in
    let m : length c.in_ok-terms-in-Const.terms.items ≡ length ts = c.in_ok-terms-in-Const.ensures.count ∙ sym (map_length f c.as_slice-args.result.now) ∙ ap length args in
    let call : call_takes c.in-Const.number (length c.in_ok-types-in-Const.types.items) (length c.in_ok-terms-in-Const.terms.items) ≡ call_takes c.in-Const.number (length Ts) (length ts) =
    (λ i. call_takes c.in-Const.number (n i) (m i)) in
    let said : Uses c.put_types.new.emitter c.put_arguments.new.emitter (terms_take (constant_function c.args.tables.bank.now c.args.tables.constants.now) (around_of c.args.tables.bank.now c.args.environment.now) H ts) = uses_same (ap (terms_take (constant_function c.args.tables.bank.now c.args.tables.constants.now) (around_of c.args.tables.bank.now c.args.environment.now) H) args) c.in_ok-terms-in-Const.ensures.uses in
    uses_same (sym all) (uses_both c.in_ok-types-in-Const.ensures.uses (uses_both said (uses_same call c.in_ok-put_call-in-Const.ensures.uses)))

pub returns-in_err-types-in-Const-clause-lacks : goal.returns-in_err-types-in-Const-clause-lacks
returns-in_err-types-in-Const-clause-lacks c =
    let b = c.args.tables.bank.now in
    let f : TermId → Term = λ t. tree b t.0 in
    let ts = map f c.in_ok-spine.spine.args.items in
    let H = head_type (constant_function c.args.tables.bank.now c.args.tables.constants.now) [] (around_of c.args.tables.bank.now c.args.environment.now) (tree b c.in_ok-spine.spine.head.0) in
    let Ts = map (λ i. type_tree b i.0) c.in-Const.types.now in
    let all = constant_takes (constant_function c.args.tables.bank.now c.args.tables.constants.now) b (around_of c.args.tables.bank.now c.args.environment.now) c.in-Const.number c.in-Const.types.now (tree b c.in_ok-spine.spine.head.0) ts (tree c.args.tables.bank.now c.args.atom.0) c.in-Const.ensures.tree c.in_ok-spine.ensures.tree in
    let e = c.in_err-types-in-Const.field-0.0 in
    passed_up c.from_residual-in_err-types-in-Const.result e (Lacks c.args.emitter.now (atom_takes (constant_function c.args.tables.bank.now c.args.tables.constants.now) (around_of c.args.tables.bank.now c.args.environment.now) (tree c.args.tables.bank.now c.args.atom.0))) c.from_residual-in_err-types-in-Const.ensures.1
    (subst (λ x. Lacks c.args.emitter.now x e) (sym all) (lacks_first (both (terms_take (constant_function c.args.tables.bank.now c.args.tables.constants.now) (around_of c.args.tables.bank.now c.args.environment.now) H ts) (call_takes c.in-Const.number (length Ts) (length ts))) c.in_err-types-in-Const.ensures.lacks))

pub returns-in_err-terms-in-Const-clause-lacks : goal.returns-in_err-terms-in-Const-clause-lacks
returns-in_err-terms-in-Const-clause-lacks c =
    let b = c.args.tables.bank.now in
    let f : TermId → Term = λ t. tree b t.0 in
    let ts = map f c.in_ok-spine.spine.args.items in
    let H = head_type (constant_function c.args.tables.bank.now c.args.tables.constants.now) [] (around_of c.args.tables.bank.now c.args.environment.now) (tree b c.in_ok-spine.spine.head.0) in
    let Ts = map (λ i. type_tree b i.0) c.in-Const.types.now in
    let all = constant_takes (constant_function c.args.tables.bank.now c.args.tables.constants.now) b (around_of c.args.tables.bank.now c.args.environment.now) c.in-Const.number c.in-Const.types.now (tree b c.in_ok-spine.spine.head.0) ts (tree c.args.tables.bank.now c.args.atom.0) c.in-Const.ensures.tree c.in_ok-spine.ensures.tree in
    let args : map f c.as_slice-args.result.now ≡ ts = ap (map f) c.as_slice-args.ensures.value in
    let e = c.in_err-terms-in-Const.field-0.0 in
    passed_up c.from_residual-in_err-terms-in-Const.result e (Lacks c.args.emitter.now (atom_takes (constant_function c.args.tables.bank.now c.args.tables.constants.now) (around_of c.args.tables.bank.now c.args.environment.now) (tree c.args.tables.bank.now c.args.atom.0))) c.from_residual-in_err-terms-in-Const.ensures.1
    (subst (λ x. Lacks c.args.emitter.now x e) (sym all) (lacks_then c.in_ok-types-in-Const.ensures.uses (lacks_first (call_takes c.in-Const.number (length Ts) (length ts)) (subst (λ l. Lacks c.put_types.new.emitter (terms_take (constant_function c.args.tables.bank.now c.args.tables.constants.now) (around_of c.args.tables.bank.now c.args.environment.now) H l) e) args c.in_err-terms-in-Const.ensures.lacks))))

pub returns-in_err-put_call-in-Const-clause-lacks : goal.returns-in_err-put_call-in-Const-clause-lacks
returns-in_err-put_call-in-Const-clause-lacks c =
    let b = c.args.tables.bank.now in
    let f : TermId → Term = λ t. tree b t.0 in
    let ts = map f c.in_ok-spine.spine.args.items in
    let H = head_type (constant_function c.args.tables.bank.now c.args.tables.constants.now) [] (around_of c.args.tables.bank.now c.args.environment.now) (tree b c.in_ok-spine.spine.head.0) in
    let Ts = map (λ i. type_tree b i.0) c.in-Const.types.now in
    let all = constant_takes (constant_function c.args.tables.bank.now c.args.tables.constants.now) b (around_of c.args.tables.bank.now c.args.environment.now) c.in-Const.number c.in-Const.types.now (tree b c.in_ok-spine.spine.head.0) ts (tree c.args.tables.bank.now c.args.atom.0) c.in-Const.ensures.tree c.in_ok-spine.ensures.tree in
    let args : map f c.as_slice-args.result.now ≡ ts = ap (map f) c.as_slice-args.ensures.value in
    let n : length c.in_ok-types-in-Const.types.items ≡ length Ts = c.in_ok-types-in-Const.ensures.count ∙ sym (map_length (λ i. type_tree b i.0) c.in-Const.types.now) in
    let m : length c.in_ok-terms-in-Const.terms.items ≡ length ts = c.in_ok-terms-in-Const.ensures.count ∙ sym (map_length f c.as_slice-args.result.now) ∙ ap length args in
    let call : call_takes c.in-Const.number (length c.in_ok-types-in-Const.types.items) (length c.in_ok-terms-in-Const.terms.items) ≡ call_takes c.in-Const.number (length Ts) (length ts) =
    (λ i. call_takes c.in-Const.number (n i) (m i)) in
    let said : Uses c.put_types.new.emitter c.put_arguments.new.emitter (terms_take (constant_function c.args.tables.bank.now c.args.tables.constants.now) (around_of c.args.tables.bank.now c.args.environment.now) H ts) = uses_same (ap (terms_take (constant_function c.args.tables.bank.now c.args.tables.constants.now) (around_of c.args.tables.bank.now c.args.environment.now) H) args) c.in_ok-terms-in-Const.ensures.uses in
    let e = c.in_err-put_call-in-Const.field-0.0 in
    passed_up c.from_residual-in_err-put_call-in-Const.result e (Lacks c.args.emitter.now (atom_takes (constant_function c.args.tables.bank.now c.args.tables.constants.now) (around_of c.args.tables.bank.now c.args.environment.now) (tree c.args.tables.bank.now c.args.atom.0))) c.from_residual-in_err-put_call-in-Const.ensures.1
    (subst (λ x. Lacks c.args.emitter.now x e) (sym all) (lacks_then c.in_ok-types-in-Const.ensures.uses (lacks_then said (subst (λ x. Lacks c.put_arguments.new.emitter x e) call c.in_err-put_call-in-Const.ensures.lacks))))

pub returns-clause-uses : goal.returns-clause-uses
returns-clause-uses c =
    let b = c.args.tables.bank.now in
    let head = c.in_ok-spine.spine.head in
    let all = other_atom_takes (constant_function c.args.tables.bank.now c.args.tables.constants.now) (around_of c.args.tables.bank.now c.args.environment.now) (tree c.args.tables.bank.now c.args.atom.0)
    (other_goal b (length b.types) head.0 c.term_node.result (tree b head.0) (map (λ (t : TermId). tree b t.0) c.in_ok-spine.spine.args.items) (tree c.args.tables.bank.now c.args.atom.0) c.in_default.not-Const
    c.term_node.ensures.older c.term_node.ensures.tree c.in_ok-spine.ensures.head c.in_ok-spine.ensures.tree) in
    uses_same (sym all) (uses_both c.in_ok-register-in_default.ensures.uses c.in_ok-put_term_call-in_default.ensures.uses)

pub returns-in_err-register-in_default-clause-lacks : goal.returns-in_err-register-in_default-clause-lacks
returns-in_err-register-in_default-clause-lacks c =
    let b = c.args.tables.bank.now in
    let head = c.in_ok-spine.spine.head in
    let all = other_atom_takes (constant_function c.args.tables.bank.now c.args.tables.constants.now) (around_of c.args.tables.bank.now c.args.environment.now) (tree c.args.tables.bank.now c.args.atom.0)
    (other_goal b (length b.types) head.0 c.term_node.result (tree b head.0) (map (λ (t : TermId). tree b t.0) c.in_ok-spine.spine.args.items) (tree c.args.tables.bank.now c.args.atom.0) c.in_default.not-Const
    c.term_node.ensures.older c.term_node.ensures.tree c.in_ok-spine.ensures.head c.in_ok-spine.ensures.tree) in
    let e = c.in_err-register-in_default.field-0.0 in
    passed_up c.from_residual-in_err-register-in_default.result e (Lacks c.args.emitter.now (atom_takes (constant_function c.args.tables.bank.now c.args.tables.constants.now) (around_of c.args.tables.bank.now c.args.environment.now) (tree c.args.tables.bank.now c.args.atom.0))) c.from_residual-in_err-register-in_default.ensures.1
    (subst (λ x. Lacks c.args.emitter.now x e) (sym all) (lacks_first (plain_code 3 0) c.in_err-register-in_default.ensures.lacks))

pub returns-in_err-put_term_call-in_default-clause-lacks : goal.returns-in_err-put_term_call-in_default-clause-lacks
returns-in_err-put_term_call-in_default-clause-lacks c =
    let b = c.args.tables.bank.now in
    let head = c.in_ok-spine.spine.head in
    let all = other_atom_takes (constant_function c.args.tables.bank.now c.args.tables.constants.now) (around_of c.args.tables.bank.now c.args.environment.now) (tree c.args.tables.bank.now c.args.atom.0)
    (other_goal b (length b.types) head.0 c.term_node.result (tree b head.0) (map (λ (t : TermId). tree b t.0) c.in_ok-spine.spine.args.items) (tree c.args.tables.bank.now c.args.atom.0) c.in_default.not-Const
    c.term_node.ensures.older c.term_node.ensures.tree c.in_ok-spine.ensures.head c.in_ok-spine.ensures.tree) in
    let e = c.in_err-put_term_call-in_default.field-0.0 in
    passed_up c.from_residual-in_err-put_term_call-in_default.result e (Lacks c.args.emitter.now (atom_takes (constant_function c.args.tables.bank.now c.args.tables.constants.now) (around_of c.args.tables.bank.now c.args.environment.now) (tree c.args.tables.bank.now c.args.atom.0))) c.from_residual-in_err-put_term_call-in_default.ensures.1
    (subst (λ x. Lacks c.args.emitter.now x e) (sym all) (lacks_then c.in_ok-register-in_default.ensures.uses c.in_err-put_term_call-in_default.ensures.lacks))
