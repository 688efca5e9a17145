use Rattle.std.proofs.Common.{map, reverse, refl, sym, subst}
use Rattle.lp_gen.specs.inner.Reading.{read}
use Rattle.lp_gen.specs.Steps.{index_listed}
use Rattle.lp_gen.specs.inner.Listing.{around_of, node_listed}
use Rattle.lp_gen.specs.inner.Tasks.{Adds}
use Rattle.lp_gen.proofs.Courses.{other_listed}
use Rattle.lp_gen.proofs.listing.leaf.Goals as goal

pub returns-in_ok-list_index-in-Index-clause-adds : goal.returns-in_ok-list_index-in-Index-clause-adds
returns-in_ok-list_index-in-Index-clause-adds c = λ b.
    let a = around_of b c.args.environment.now in
    subst (λ n. Adds b c.args.environment.now c.list_index.new.environment c.args.lists.now.steps.items c.list_index.new.steps.items
    (node_listed b (map (read b) (reverse c.args.lists.now.bound.items)) a n))
    (sym c.in-Index.is)
    (subst (λ l. Adds b c.args.environment.now c.list_index.new.environment c.args.lists.now.steps.items c.list_index.new.steps.items (index_listed (map (read b) (reverse l)) a c.in-Index.index))
    c.as_slice.ensures.value (c.in_ok-list_index-in-Index.ensures b))

pub returns-in_ok-list_index-in_default : goal.returns-in_ok-list_index-in_default
returns-in_ok-list_index-in_default c = record {
  bound = refl;
  adds = λ b.
      let a = around_of b c.args.environment.now in
      subst (Adds b c.args.environment.now c.list_index-in_default.new.environment c.args.lists.now.steps.items c.list_index-in_default.new.steps.items)
      (sym (other_listed b (map (read b) (reverse c.args.lists.now.bound.items)) a c.args.node c.in_default.not-Index c.in_default.not-Const c.in_default.not-Int c.in_default.not-Text))
      (subst (λ l. Adds b c.args.environment.now c.list_index-in_default.new.environment c.args.lists.now.steps.items
      c.list_index-in_default.new.steps.items (index_listed (map (read b) (reverse l)) a 0))
      c.as_slice-in_default.ensures.value (c.in_ok-list_index-in_default.ensures b));
}
