use Rattle.std.proofs.Common.{◌∙◌, ap}
use Rattle.lp_lemmas.proofs.Lists.{reverse_pushed}
use Rattle.lp_verify.specs.inner.Stack.{type_heights, term_heights}
use Rattle.lp_verify.specs.declared.blocks.Frame.{Frame}
use Rattle.std.specs.Prelude.{min}
use Rattle.lp_verify.proofs.KeptBlocks.{pushed, pushed_ends}
use Rattle.lp_verify.proofs.blocks.Blocks.open.Goals as goal

pub returns : goal.returns
returns c =
    let old = c.args.self.now.frames.items in
    let new = c.push.new.self.items in
    let f : Frame = record { block = c.args.block; types = c.args.types; terms = c.args.terms; first_end = c.least-first_end.result } in record {
      sides = pushed old c.push.new.self.items f c.in_ok-push.ensures.items;
      types = ap type_heights (reverse_pushed new old f c.in_ok-push.ensures.items);
      terms = ap term_heights (reverse_pushed new old f c.in_ok-push.ensures.items);
      ends = pushed_ends old c.push.new.self.items f c.in_ok-push.ensures.items (c.least-first_end.ensures ∙ (λ j. min (c.end.ensures j) (c.first_end.ensures j)));
    }
