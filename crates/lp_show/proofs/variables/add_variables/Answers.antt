use Rattle.std.proofs.Common.{◌∙◌, ◌<◌, length, sym, ap, subst, arith}
use Rattle.std.specs.Prelude.{All}
use Rattle.std.proofs.lemmas.List.Elements.{All-push}
use Rattle.lp_model.specs.Shown.{with_variables}
use Rattle.lp_term.proofs.Spines.{args_after}
use Rattle.lp_show.proofs.Stacks.{less_application, less_body, less_left, some_args, with_application, with_body, with_parts, within_next, within_rest}
use Rattle.lp_show.proofs.variables.add_variables.Goals as goal

pub terms-smaller-in-Logic : goal.terms-smaller-in-Logic
terms-smaller-in-Logic c = less_left c.args.bank.now c.terms.left.items c.pop.new.self.items c.in-Some.next c.in-Some.ensures.items

pub terms-preserved-in-Logic : goal.terms-preserved-in-Logic
terms-preserved-in-Logic c = record {
  same = with_parts c.args.bank.now c.terms.left.items c.pop.new.self.items c.in-Some.next c.in-Some.ensures.items c.terms.seen.keys c.add_variable.new.seen.keys (c.in_ok-add_variable-in-Logic.ensures ∙ ap (with_variables c.terms.seen.keys) c.in-Logic.ensures.tree) ∙ c.terms.invariant.same;
  within = within_rest c.args.bank.now c.terms.left.items c.pop.new.self.items c.in-Some.next c.in-Some.ensures.items c.terms.invariant.within;
}

pub terms-smaller-in-Index : goal.terms-smaller-in-Index
terms-smaller-in-Index c = less_left c.args.bank.now c.terms.left.items c.pop.new.self.items c.in-Some.next c.in-Some.ensures.items

pub terms-preserved-in-Index : goal.terms-preserved-in-Index
terms-preserved-in-Index c = record {
  same = with_parts c.args.bank.now c.terms.left.items c.pop.new.self.items c.in-Some.next c.in-Some.ensures.items c.terms.seen.keys c.terms.seen.keys (ap (with_variables c.terms.seen.keys) c.in-Index.ensures.tree) ∙ c.terms.invariant.same;
  within = within_rest c.args.bank.now c.terms.left.items c.pop.new.self.items c.in-Some.next c.in-Some.ensures.items c.terms.invariant.within;
}

pub terms-smaller-in-Const : goal.terms-smaller-in-Const
terms-smaller-in-Const c = less_left c.args.bank.now c.terms.left.items c.pop.new.self.items c.in-Some.next c.in-Some.ensures.items

pub terms-preserved-in-Const : goal.terms-preserved-in-Const
terms-preserved-in-Const c = record {
  same = with_parts c.args.bank.now c.terms.left.items c.pop.new.self.items c.in-Some.next c.in-Some.ensures.items c.terms.seen.keys c.terms.seen.keys (ap (with_variables c.terms.seen.keys) c.in-Const.ensures.tree) ∙ c.terms.invariant.same;
  within = within_rest c.args.bank.now c.terms.left.items c.pop.new.self.items c.in-Some.next c.in-Some.ensures.items c.terms.invariant.within;
}

pub terms-smaller-in-Int : goal.terms-smaller-in-Int
terms-smaller-in-Int c = less_left c.args.bank.now c.terms.left.items c.pop.new.self.items c.in-Some.next c.in-Some.ensures.items

pub terms-preserved-in-Int : goal.terms-preserved-in-Int
terms-preserved-in-Int c = record {
  same = with_parts c.args.bank.now c.terms.left.items c.pop.new.self.items c.in-Some.next c.in-Some.ensures.items c.terms.seen.keys c.terms.seen.keys (ap (with_variables c.terms.seen.keys) c.in-Int.ensures.tree) ∙ c.terms.invariant.same;
  within = within_rest c.args.bank.now c.terms.left.items c.pop.new.self.items c.in-Some.next c.in-Some.ensures.items c.terms.invariant.within;
}

pub terms-smaller-in-Text : goal.terms-smaller-in-Text
terms-smaller-in-Text c = less_left c.args.bank.now c.terms.left.items c.pop.new.self.items c.in-Some.next c.in-Some.ensures.items

pub terms-preserved-in-Text : goal.terms-preserved-in-Text
terms-preserved-in-Text c = record {
  same = with_parts c.args.bank.now c.terms.left.items c.pop.new.self.items c.in-Some.next c.in-Some.ensures.items c.terms.seen.keys c.terms.seen.keys (ap (with_variables c.terms.seen.keys) c.in-Text.ensures.tree) ∙ c.terms.invariant.same;
  within = within_rest c.args.bank.now c.terms.left.items c.pop.new.self.items c.in-Some.next c.in-Some.ensures.items c.terms.invariant.within;
}

pub terms-smaller-in-Eigen : goal.terms-smaller-in-Eigen
terms-smaller-in-Eigen c = less_left c.args.bank.now c.terms.left.items c.pop.new.self.items c.in-Some.next c.in-Some.ensures.items

pub terms-preserved-in-Eigen : goal.terms-preserved-in-Eigen
terms-preserved-in-Eigen c = record {
  same = with_parts c.args.bank.now c.terms.left.items c.pop.new.self.items c.in-Some.next c.in-Some.ensures.items c.terms.seen.keys c.terms.seen.keys (ap (with_variables c.terms.seen.keys) c.in-Eigen.ensures.tree) ∙ c.terms.invariant.same;
  within = within_rest c.args.bank.now c.terms.left.items c.pop.new.self.items c.in-Some.next c.in-Some.ensures.items c.terms.invariant.within;
}

pub terms-smaller : goal.terms-smaller
terms-smaller c = less_left c.args.bank.now c.terms.left.items c.pop.new.self.items c.in-Some.next c.in-Some.ensures.items

pub terms-preserved : goal.terms-preserved
terms-preserved c = record {
  same = with_parts c.args.bank.now c.terms.left.items c.pop.new.self.items c.in-Some.next c.in-Some.ensures.items c.terms.seen.keys c.terms.seen.keys (ap (with_variables c.terms.seen.keys) c.in-Param.ensures.tree) ∙ c.terms.invariant.same;
  within = within_rest c.args.bank.now c.terms.left.items c.pop.new.self.items c.in-Some.next c.in-Some.ensures.items c.terms.invariant.within;
}

pub terms-smaller-in-Abs : goal.terms-smaller-in-Abs
terms-smaller-in-Abs c = less_body c.args.bank.now c.terms.left.items c.pop.new.self.items c.in-Some.next c.in-Some.ensures.items c.in-Abs.body c.push-in-Abs.new.self.items c.in_ok-push-in-Abs.ensures.items c.in-Abs.ensures.tree

pub terms-preserved-in-Abs : goal.terms-preserved-in-Abs
terms-preserved-in-Abs c = record {
  same = with_body c.args.bank.now c.terms.left.items c.pop.new.self.items c.in-Some.next c.in-Some.ensures.items c.terms.seen.keys c.in-Abs.body c.push-in-Abs.new.self.items c.in_ok-push-in-Abs.ensures.items c.in-Abs.ensures.tree ∙ c.terms.invariant.same;
  within =
      subst (All (λ t. t.0 < length c.args.bank.now.terms)) (sym c.in_ok-push-in-Abs.ensures.items)
      (All-push (λ t. t.0 < length c.args.bank.now.terms) c.pop.new.self.items c.in-Abs.body
      (within_rest c.args.bank.now c.terms.left.items c.pop.new.self.items c.in-Some.next c.in-Some.ensures.items c.terms.invariant.within)
      (omega (
        arith,
        c.in-Abs.ensures.older,
        within_next c.args.bank.now c.terms.left.items c.pop.new.self.items c.in-Some.next
            c.in-Some.ensures.items c.terms.invariant.within,
      )));
}

pub terms-smaller-in-App : goal.terms-smaller-in-App
terms-smaller-in-App c =
    less_application c.args.bank.now c.terms.left.items c.pop.new.self.items c.in-Some.next c.in-Some.ensures.items c.in-App.head c.in-App.arguments.now c.push_reversed.new.terms.items c.push-in-App.new.self.items c.in_ok-push_reversed-in-App.ensures c.in_ok-push-in-App.ensures.items
    c.in-App.ensures.tree (some_args (λ t. t.0) c.in-App.arguments.now c.in-App.ensures.older.2)

pub terms-preserved-in-App : goal.terms-preserved-in-App
terms-preserved-in-App c =
    let next = within_next c.args.bank.now c.terms.left.items c.pop.new.self.items c.in-Some.next c.in-Some.ensures.items c.terms.invariant.within in
    record {
      same =
          with_application c.args.bank.now c.terms.left.items c.pop.new.self.items c.in-Some.next c.in-Some.ensures.items c.terms.seen.keys c.in-App.head c.in-App.arguments.now c.push_reversed.new.terms.items c.push-in-App.new.self.items c.in_ok-push_reversed-in-App.ensures
          c.in_ok-push-in-App.ensures.items c.in-App.ensures.tree ∙ c.terms.invariant.same;
      within =
          subst (All (λ t. t.0 < length c.args.bank.now.terms)) (sym c.in_ok-push-in-App.ensures.items)
          (All-push (λ t. t.0 < length c.args.bank.now.terms) c.push_reversed.new.terms.items c.in-App.head
          (args_after c.in-Some.next.0 _ c.pop.new.self.items c.in-App.arguments.now c.push_reversed.new.terms.items (omega (arith, next))
          (within_rest c.args.bank.now c.terms.left.items c.pop.new.self.items c.in-Some.next c.in-Some.ensures.items c.terms.invariant.within)
          c.in-App.ensures.older.1 c.in_ok-push_reversed-in-App.ensures)
          (omega (arith, c.in-App.ensures.older.0, next)));
    }
