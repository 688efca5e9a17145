use Rattle.std.proofs.Common.{refl, sym, ap, ◌∙◌, Some, inr}
use Rattle.std.proofs.lemmas.Option.{slice_get-get_or}
use Rattle.lp_plain.proofs.attempt.add_pair.Goals as goal

pub returns-clause-added : goal.returns-clause-added
returns-clause-added c = λ nb nv vs s v ar k w. inr (
  _,
  c.in_ok-push.ensures.items,
  record {
    left = slice_get-get_or c.args.args.now c.args.head.place c.in-Some.arg.now c.in-Some.ensures.lookup.3.0 ∙ ap Some (sym c.in-Some.ensures.lookup.1);
    stands = refl;
    within = c.in_ok-right.ensures.within;
    right = c.in_ok-right.ensures.tree nb nv vs s v ar k w;
  },
)
