use Rattle.std.proofs.Common.{◌≡◌, ◌∙◌, sym, subst}
use Rattle.std.specs.Prelude.{◌+◌, MatchOption}
use Rattle.lp_verify.proofs.KeptBlocks.{popped, sides_around, ends_around}
use Rattle.lp_verify.proofs.blocks.Blocks.close.Goals as goal

pub returns : goal.returns
returns c =
    let v = c.args.self.now.frames in
    let w = c.pop.new.self in
    let p = popped v.items w.items c.pop.result c.pop.ensures.items (λ e. sym v.ok.0 ∙ (subst (λ o. MatchOption o ((v.len ≡ 0) × (w.len ≡ 0)) (λ x. w.len + 1 ≡ v.len)) e c.pop.ensures.cases).0) in record {
      sides = sides_around v.items w.items p.1;
      ends = ends_around v.items w.items p.1;
      innermost = p.0;
      frames = p.1;
    }
