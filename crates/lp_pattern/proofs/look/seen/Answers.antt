use Rattle.std.proofs.Common.{◌∙◌, arith, subst as transport, sym}
use Rattle.lp_term.specs.Nodes.{tree}
use Rattle.lp_pattern.specs.Seen.{IsHead}
use Rattle.lp_pattern.proofs.Walking.{whole_stays, spine_ordered, made_in, known_in, head_kept}
use Rattle.lp_pattern.proofs.look.seen.Goals as goal

pub whole_of-requires-clause-whole : goal.whole_of-requires-clause-whole
whole_of-requires-clause-whole c =
    whole_stays c.args.bank.now c.args.spine.whole _ _ (spine_ordered c.args.bank.now c.args.spine.top c.args.spine.arguments.items c.as_slice.result.now (c.as_slice.ensures.value ∙ c.reverse.ensures.items))
    c.requires.stands.whole

pub returns-clause-same : goal.returns-clause-same
returns-clause-same c =
    c.in_ok-whole.ensures.tree ∙ spine_ordered c.args.bank.now c.args.spine.top c.args.spine.arguments.items c.as_slice.result.now (c.as_slice.ensures.value ∙ c.reverse.ensures.items)

pub returns-clause-looked : goal.returns-clause-looked
returns-clause-looked c =
    let b = c.args.bank.now in
    let d = c.whole_of.new.bank in
    let e = c.in_ok-whole.ensures.kept in
    let s = c.args.spine in
    record {
      known = c.in_ok-whole.ensures.within;
      top = omega (arith, c.requires.stands.top, e.more_terms);
      arguments = known_in b d s.arguments.items c.reverse.new.self.items e c.requires.stands.arguments c.reverse.ensures.items;
      made =
          made_in b d s.top s.arguments.items c.reverse.new.self.items (tree d c.in_ok-whole.whole.0) e c.requires.stands.top c.requires.stands.arguments c.reverse.ensures.items
          (c.in_ok-whole.ensures.tree ∙ spine_ordered b s.top s.arguments.items c.as_slice.result.now (c.as_slice.ensures.value ∙ c.reverse.ensures.items));
      head =
          transport (IsHead d c.args.bindings.now c.args.head (tree d s.top.0)) (sym c.reverse.ensures.items)
          (head_kept b d c.args.bindings.now c.args.head s.top s.arguments.items e c.requires.stands.top c.requires.head);
    }
