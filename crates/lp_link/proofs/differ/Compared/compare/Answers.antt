use Rattle.std.proofs.Common.{◌∙◌, sym, ap, subst, Some}
use Rattle.std.specs.Prelude.{IfSome}
use Rattle.std.proofs.lemmas.Option.{slice_get-get_or}
use Rattle.lp_link.specs.Differences.{IsOtherPart}
use Rattle.indexmap.specs.IndexSet.{contains}
use Rattle.lp_link.specs.inner.Pairs.{pair_eq}
use Rattle.lp_link.proofs.Sames.{same_here, compared_more}
use Rattle.lp_link.proofs.differ.Compared.compare.Goals as goal

pub returns-in-Some-clause-refused : goal.returns-in-Some-clause-refused
returns-in-Some-clause-refused c =
    let one = c.index-members-below.result in
    let other = c.index-members-above.result in
    record {
      number_is = c.number_at.ensures;
      one = one;
      one_there = slice_get-get_or c.args.members.now c.args.below c.index-members-below.result c.requires.below ∙ ap (λ x. Some x) (sym c.index-members-below.is);
      other = other;
      other_there = slice_get-get_or c.args.members.now c.args.above c.index-members-above.result c.requires.above ∙ ap (λ x. Some x) (sym c.index-members-above.is);
      part_is = subst (λ o. IfSome o (IsOtherPart one.object.now other.object.now)) c.in-Some.is c.in_ok-part.ensures.other;
    }

pub returns-then-contains-clause-same : goal.returns-then-contains-clause-same
returns-then-contains-clause-same c = c.requires.compared (c.args.below, c.args.above) (sym c.contains.ensures ∙ c.if-contains.true)

pub returns-clause-same : goal.returns-clause-same
returns-clause-same c = same_here c.args.members.now c.args.below c.args.above c.index-members-below.result c.index-members-above.result
    c.requires.below c.requires.above c.index-members-below.is c.index-members-above.is (c.in_ok-part.ensures.same c.in_default.is)

pub returns-clause-compared : goal.returns-clause-compared
returns-clause-compared c =
    compared_more c.args.members.now (c.args.below, c.args.above) (contains pair_eq c.args.self.now.same) (contains pair_eq c.insert.new.self) c.requires.compared
    (same_here c.args.members.now c.args.below c.args.above c.index-members-below.result c.index-members-above.result c.requires.below
    c.requires.above c.index-members-below.is c.index-members-above.is (c.in_ok-part.ensures.same c.in_default.is))
    c.in_ok-_new.ensures.updates.0
