use Rattle.std.proofs.Common.{◌≡◌, ◌∙◌, ap, sym, None, Some, refl}
use Rattle.lp_term.specs.Nodes.{tree}
use Rattle.lp_term.specs.declared.node.TermId.{TermId}
use Rattle.std.specs.Prelude.{slice_get}
use Rattle.lp_plain.proofs.HeadsWritten.{eigen_node}
use Rattle.lp_plain.proofs.Scoped.{whole_scope}
use Rattle.lp_plain.proofs.assume.bound_head.Goals as goal

pub returns-in-Eigen-clause-is : goal.returns-in-Eigen-clause-is
returns-in-Eigen-clause-is c = λ σ h.
    let m = c.args.machine.now in
    let e : Some c.in-Some.value ≡ slice_get h.0 c.args.variable = sym c.in-Some.is ∙ c.value.ensures _ _ h.0 (whole_scope m.scopes c.args.place.values.scope h.0 h.1) in
    (c.in-Eigen.level, refl, sym (h.2 c.args.variable c.in-Some.value (sym e)) ∙ sym c.in-Eigen.ensures.tree)

pub returns-in_default-clause-none : goal.returns-in_default-clause-none
returns-in_default-clause-none c = λ e vs v k h g t.
    let q : None ≡ slice_get vs c.args.variable = sym c.in_default.is ∙ c.value.ensures _ _ vs (whole_scope c.args.machine.now.scopes c.args.place.values.scope vs h) in
    let z : None ≡ Some v = q ∙ g in
    cc

pub returns-in_default-term_node-clause-none : goal.returns-in_default-term_node-clause-none
returns-in_default-term_node-clause-none c = λ e vs v k h g t.
    let m = c.args.machine.now in
    let q : Some c.in-Some.value ≡ Some v = sym c.in-Some.is ∙ c.value.ensures _ _ vs (whole_scope m.scopes c.args.place.values.scope vs h) ∙ g in
    let same : c.in-Some.value ≡ v = cc in
    eigen_node m.bank _ _ c.term_node.result (tree m.bank c.in-Some.value.0) k c.term_node.ensures.older c.term_node.ensures.tree
    (ap (λ (z : TermId). tree m.bank z.0) same ∙ t) (λ j z. c.in_default-term_node.not-Eigen j z)
