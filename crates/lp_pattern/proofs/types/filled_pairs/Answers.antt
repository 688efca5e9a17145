use Rattle.std.proofs.Common.{◌≡◌, ◌∙◌, sym, ap, map, reverse, length, subst as transport}
use Rattle.std.specs.Prelude.{All}
use Rattle.std.proofs.lemmas.List.{map-id}
use Rattle.std.proofs.lemmas.Iterator.Adapters.{YieldsList-from_rev_slice}
use Rattle.std.proofs.lemmas.Iterator.Consumers.{YieldsList-end, YieldsList-from_copied}
use Rattle.lp_lemmas.proofs.Elements.{All_empty, All_reverse}
use Rattle.lp_term.proofs.Trees.{extends_same}
use Rattle.lp_type_unify.specs.Reading.{IsPair}
use Rattle.lp_term.proofs.Within.{kept_then}
use Rattle.lp_pattern.specs.Filling.{AreIn, held}
use Rattle.lp_pattern.specs.Inside.{IsTypePairOf}
use Rattle.lp_pattern.proofs.TypesSolved.{one_more, one_more_pair, all_read, all_known}
use Rattle.lp_pattern.proofs.types.filled_pairs.Goals as goal

pub loop-pair-init : goal.loop-pair-init
loop-pair-init c =
    let b = c.args.bank.now in
    record {
      kept = extends_same b;
      within = All_empty (IsPair (length b.types)) c.new-filled.result.items c.new-filled.ensures.items;
      held = λ θ A k. (c.new-done.ensures b θ, transport (AreIn b) (sym c.new-filled.ensures.items) tt, ap (map (held b)) c.new-filled.ensures.items);
    }

pub loop-pair-preserved : goal.loop-pair-preserved
loop-pair-preserved c =
    let a = c.args.bank.now in
    let b = c.loop-pair.bank in
    let later = c.filled_in.new.bank in
    let last = c.filled_in-in-loop-pair.new.bank in
    let E = c.in_ok-left.ensures.kept in
    let F = c.in_ok-right.ensures.kept in
    record {
      kept = kept_then a b last c.loop-pair.invariant.kept (kept_then b later last E F);
      within = one_more_pair b later last c.loop-pair.filled.items c.push.new.self.items c.in_ok-left.left c.in_ok-right.right E F c.in_ok-push.ensures.items c.loop-pair.invariant.within c.in_ok-left.ensures.within c.in_ok-right.ensures.within;
      held = λ θ A k.
          one_more a b later last c.args.bindings.now θ c.loop-pair.yielded c.in-Some.pair c.loop-pair.filled.items c.push.new.self.items c.in_ok-left.left c.in_ok-right.right c.loop-pair.done c.filled_in.new.done
          c.filled_in-in-loop-pair.new.done c.loop-pair.invariant.kept E F A k (c.loop-pair.invariant.held θ A) c.in_ok-push.ensures.items c.in_ok-left.ensures.filled c.in_ok-right.ensures.filled;
    }

pub returns-clause-filled : goal.returns-clause-filled
returns-clause-filled c =
    let a = c.args.bank.now in
    let whole : c.loop-pair.yielded ≡ reverse c.args.pairs.now =
    sym (map-id c.loop-pair.yielded) ∙
    (YieldsList-end (YieldsList-from_copied (YieldsList-from_rev_slice c.args.pairs.now cc)) c.loop-pair.yielded _ c.loop-pair.yielded_by _ _ c.in-None.is c.next.ensures.steps).0 in
    let known = all_known a c.loop-pair.yielded (transport (All (IsTypePairOf (length a.types))) (sym whole) (All_reverse (IsTypePairOf (length a.types)) c.args.pairs.now c.requires)) in
    λ θ A. all_read a c.loop-pair.bank θ c.args.pairs.now c.loop-pair.yielded c.loop-pair.filled.items _ whole known (c.loop-pair.invariant.held θ A)
