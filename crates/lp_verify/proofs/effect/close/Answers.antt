use Rattle.std.proofs.Common.{reverse}
use Rattle.lp_verify.specs.declared.blocks.Frame.{Frame}
use Rattle.lp_verify.proofs.KeptRegisters.{left_frame, no_frame}
use Rattle.lp_verify.proofs.effect.close.Goals as goal

pub returns-in-Some-clause-types : goal.returns-in-Some-clause-types
returns-in-Some-clause-types c =
    left_frame (λ (f : Frame). f.types) (reverse c.args.blocks.now.frames.items) (reverse c.close.new.self.frames.items) c.close.result c.in-Some.frame c.args.types.now c.unset_to.new.self c.close.ensures.innermost c.close.ensures.frames c.in-Some.is c.unset_to.ensures

pub returns-in-Some-clause-terms : goal.returns-in-Some-clause-terms
returns-in-Some-clause-terms c =
    left_frame (λ (f : Frame). f.terms) (reverse c.args.blocks.now.frames.items) (reverse c.close.new.self.frames.items) c.close.result c.in-Some.frame c.args.terms.now c.unset_to-in-Some.new.self c.close.ensures.innermost c.close.ensures.frames c.in-Some.is c.unset_to-in-Some.ensures

pub returns-in-None-clause-types : goal.returns-in-None-clause-types
returns-in-None-clause-types c = no_frame (λ (f : Frame). f.types) (reverse c.args.blocks.now.frames.items) (reverse c.close.new.self.frames.items) c.close.result c.args.types.now c.close.ensures.innermost c.close.ensures.frames c.in-None.is

pub returns-in-None-clause-terms : goal.returns-in-None-clause-terms
returns-in-None-clause-terms c = no_frame (λ (f : Frame). f.terms) (reverse c.args.blocks.now.frames.items) (reverse c.close.new.self.frames.items) c.close.result c.args.terms.now c.close.ensures.innermost c.close.ensures.frames c.in-None.is
