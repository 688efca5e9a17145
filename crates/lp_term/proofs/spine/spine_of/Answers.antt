use Rattle.std.proofs.Common.{◌∙◌, ap, arith, map}
use Rattle.lp_calculus.specs.Term.{apply}
use Rattle.lp_term.specs.Nodes.{tree}
use Rattle.lp_term.specs.Within.{IsTermOf}
use Rattle.lp_term.proofs.Heads.{is_head, map-reverse}
use Rattle.lp_term.proofs.Openings.{all_reverse}
use Rattle.lp_term.proofs.Spines.{unwound_application, smaller_head, args_after}
use Rattle.lp_term.proofs.spine.spine_of.Goals as goal
use Rattle.std.proofs.Common.{subst as transport, sym}
use Rattle.std.specs.Prelude.{All}

pub down-smaller : goal.down-smaller
down-smaller c = smaller_head c.args.bank.now c.down.head c.in-App.inner c.in-App.more.now c.in-App.ensures.tree c.in-App.ensures.older.2

pub down-preserved : goal.down-preserved
down-preserved c =
    let b = c.args.bank.now in
    record {
      within = λ h. c.in-App.ensures.within.0;
      args = args_after _ _ c.down.args.items c.in-App.more.now c.push_reversed.new.args.items (omega arith) c.down.invariant.args c.in-App.ensures.within.1 c.in_ok-push_reversed.ensures;
      tree = unwound_application b 0 c.down.head c.in-App.inner c.in-App.more.now c.down.args.items c.push_reversed.new.args.items c.in-App.ensures.tree c.in_ok-push_reversed.ensures ∙ c.down.invariant.tree;
    }

pub returns-in_default : goal.returns-in_default
returns-in_default c =
    let b = c.args.bank.now in
    record {
      within = c.down.invariant.within;
      args = transport (All (IsTermOf b)) (sym c.reverse.ensures.items) (all_reverse (IsTermOf b) c.down.args.items c.down.invariant.args);
      head = is_head b c.term_node.result c.down.head.0 c.term_node.ensures.tree c.in_default.not-App;
      tree =
          ap (λ l. apply (tree b c.down.head.0) (map (λ t. tree b t.0) l)) c.reverse.ensures.items ∙ ap (apply (tree b c.down.head.0)) (map-reverse (λ t. tree b t.0) c.down.args.items) ∙
          c.down.invariant.tree;
    }
