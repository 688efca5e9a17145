use Rattle.std.proofs.Common.{◌≡◌, subst, length, arith}
use Rattle.lp_infer.specs.inner.Parts.{HaveParts, HaveOpen}
use Rattle.lp_infer.proofs.Visiting.{step_more}
use Rattle.lp_infer.proofs.Acting.{generated_all}
use Rattle.lp_infer.proofs.Needs.{begins_sound, begins_parts}
use Rattle.lp_infer.proofs.generate.equations_of.Goals as goal

pub returns : goal.returns
returns c = λ all text.
    let V = c.in_ok-variables.ensures in
    generated_all c.args.signature.now text c.args.steps.now c.args.count _ c.variables.new.self c.steps.new.self c.end.new.self c.new-3.ensures.items c.new-2.ensures.items c.new.ensures.items c.new-4.ensures.items V
    (c.in_ok-steps.ensures.acts (λ i d h. step_more (length c.args.types.types) (length c.variables.new.self.types.types) V.kept.more_types _ (all i d h)) text) all c.in_ok-end.ensures

pub steps-requires-clause-known : goal.steps-requires-clause-known
steps-requires-clause-known c = λ i d h. step_more (length c.args.types.types) (length c.variables.new.self.types.types) c.in_ok-variables.ensures.kept.more_types _ (c.requires.known i d h)

pub steps-requires-clause-sound : goal.steps-requires-clause-sound
steps-requires-clause-sound c = c.in_ok-variables.ensures.sound (begins_sound _ c.new-3.ensures.items c.new-2.ensures.items c.new.ensures.items c.new-4.ensures.items)

pub steps-requires-clause-parts : goal.steps-requires-clause-parts
steps-requires-clause-parts c =
    subst (HaveParts c.args.steps.now) (begins_parts c.args.count _ c.variables.new.self c.new-3.ensures.items c.new-2.ensures.items c.new.ensures.items c.new-4.ensures.items c.in_ok-variables.ensures).0 c.requires.parts

pub steps-requires-clause-opened : goal.steps-requires-clause-opened
steps-requires-clause-opened c =
    subst (HaveOpen c.args.steps.now) (begins_parts c.args.count _ c.variables.new.self c.new-3.ensures.items c.new-2.ensures.items c.new.ensures.items c.new-4.ensures.items c.in_ok-variables.ensures).1 c.requires.opened

pub end-requires : goal.end-requires
end-requires c = omega (arith, c.in_ok-steps.ensures.parts)
