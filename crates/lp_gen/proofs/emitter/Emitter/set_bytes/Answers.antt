use Rattle.std.proofs.Common.{◌∙◌, get_or, set, sym}
use Rattle.lp_code.specs.declared.instruction.Instr.TheVariants as on
use Rattle.lp_gen.proofs.Patched.{get_there, put_there, no_jump}
use Rattle.lp_gen.proofs.emitter.Emitter.set_bytes.Goals as goal
use Rattle.lp_gen.proofs.emitter.Emitter.set_bytes.Goals.{in-Either, in-Jump}

pub returns-after-index-clause-either : goal.returns-after-index-clause-either
returns-after-index-clause-either c = λ xs ys n e at. elim c.match-index.branch [
  | in-Either w ↦ (λ i. set (e i) (at i) (w.instr-is i)) ∙ put_there xs ys (on.Either n) (on.Either c.args.bytes)
  | in-Jump w ↦ absurd (no_jump w.in-Jump.field-0 n (sym w.in-Jump.is ∙ c.index.ensures ∙ (λ i. get_or (e i) (at i) c.index.result.now) ∙ get_there xs ys (on.Either n) c.index.result.now))
]

pub returns-after-index-clause-jump : goal.returns-after-index-clause-jump
returns-after-index-clause-jump c = λ xs ys n e at. elim c.match-index.branch [
  | in-Either w ↦ absurd (no_jump n w.in-Either.field-0 (sym (get_there xs ys (on.Jump n) c.index.result.now) ∙
      (λ i. get_or (sym e i) (sym at i) c.index.result.now) ∙ sym c.index.ensures ∙ w.in-Either.is))
  | in-Jump w ↦ (λ i. set (e i) (at i) (w.instr-is i)) ∙ put_there xs ys (on.Jump n) (on.Jump c.args.bytes)
]

pub returns-in_default-clause-either : goal.returns-in_default-clause-either
returns-in_default-clause-either c = λ xs ys n e at. absurd (c.in_default.not-Either n
    (c.index.ensures ∙ (λ i. get_or (e i) (at i) c.index.result.now) ∙ get_there xs ys (on.Either n) c.index.result.now))

pub returns-in_default-clause-jump : goal.returns-in_default-clause-jump
returns-in_default-clause-jump c = λ xs ys n e at. absurd (c.in_default.not-Jump n (c.index.ensures ∙ (λ i. get_or (e i) (at i) c.index.result.now) ∙ get_there xs ys (on.Jump n) c.index.result.now))
