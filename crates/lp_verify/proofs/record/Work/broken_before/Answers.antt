use Rattle.std.proofs.Common.{◌∙◌, sym}
use Rattle.lp_verify.specs.Held.{is_lacking}
use Rattle.lp_verify.proofs.Joined.{reads_told}
use Rattle.lp_verify.proofs.record.Work.broken_before.Goals as goal

pub returns-then-register : goal.returns-then-register
returns-then-register c = λ a b t n. sym (c.breaks_register-register.ensures a b) ∙ c.if-register.true

pub returns-then-unset : goal.returns-then-unset
returns-then-unset c = λ a b t n.
    let w = c.args.self.now in
    let unset = reads_told (is_lacking w.types) (is_lacking w.terms) c.args.types.now c.args.terms.now c.args.instr.now c.breaks_unset-unset.result c.breaks_unset-unset.ensures a b in
    (sym (c.breaks_register-register.ensures a b) ∙ c.if-register.false, unset ∙ c.if-unset.true)

pub returns-then-set : goal.returns-then-set
returns-then-set c = λ a b t n.
    let w = c.args.self.now in
    let unset = reads_told (is_lacking w.types) (is_lacking w.terms) c.args.types.now c.args.terms.now c.args.instr.now c.breaks_unset-unset.result c.breaks_unset-unset.ensures a b in
    (sym (c.breaks_register-register.ensures a b) ∙ c.if-register.false, unset ∙ c.if-unset.false, sym c.breaks_set-set.ensures ∙ c.if-set.true)

pub returns-then-constant : goal.returns-then-constant
returns-then-constant c = λ a b t n.
    let w = c.args.self.now in
    let unset = reads_told (is_lacking w.types) (is_lacking w.terms) c.args.types.now c.args.terms.now c.args.instr.now c.breaks_unset-unset.result c.breaks_unset-unset.ensures a b in
    (sym (c.breaks_register-register.ensures a b) ∙ c.if-register.false, unset ∙ c.if-unset.false, sym c.breaks_set-set.ensures ∙ c.if-set.false, sym c.breaks_constant-constant.ensures ∙ c.if-constant.true)

pub returns : goal.returns
returns c = λ a b t n.
    let w = c.args.self.now in
    let unset = reads_told (is_lacking w.types) (is_lacking w.terms) c.args.types.now c.args.terms.now c.args.instr.now c.breaks_unset-unset.result c.breaks_unset-unset.ensures a b in
    (sym (c.breaks_register-register.ensures a b) ∙ c.if-register.false, unset ∙ c.if-unset.false, sym c.breaks_set-set.ensures ∙ c.if-set.false, sym c.breaks_constant-constant.ensures ∙ c.if-constant.false)
