use Rattle.std.proofs.Common.{◌≡◌, [], ◌∷◌, length, Some, refl, sym, subst, arith}
use Rattle.std.specs.Prelude.{slice_get}
use Rattle.lp_lemmas.proofs.Lists.{get_push}
use Rattle.lp_pattern.proofs.Keeps.{goes_on_same}
use Rattle.lp_plain.specs.declared.frame.Assumption.{Assumption}
use Rattle.lp_plain.specs.Newest.{code_of, IsNewest}
use Rattle.lp_plain.proofs.assume.assume_one.Goals as goal

pub returns-clause-one : goal.returns-clause-one
returns-clause-one c =
    let m = c.args.machine.now in
    let w = c.in_ok-root.ensures in
    let p = c.in_ok-push.ensures.items in
    let x : Assumption = record { rule = c.args.rule; values = c.args.place.values; older = c.newest_of-older.result } in
    let k : c.len-number.result ≡ length m.assumptions.items = omega (arith, c.len-number.ensures, m.assumptions.ok) in
    record {
      more = record {
        goals = record { known = record { bank = refl; bindings = refl; scopes = refl; table = refl; standings = refl; index = refl }; frames = goes_on_same m.frames.items };
        course = record { choices = refl; counts = refl; denied = refl; branch = refl };
        frames = refl;
        assumptions = (x ∷ [], p);
        newest = w.kept;
      };
      older = c.newest_of-older.result;
      before = λ f e. c.newest_of-older.ensures f e;
      assumption = subst (λ l. slice_get l (length m.assumptions.items) ≡ Some x) (sym p) (get_push m.assumptions.items x);
      there = subst (λ z. IsNewest c.with_newest.new.nodes.items (Some c.in_ok-root.root) c.args.head (Some z)) k w.newest.found;
      others = λ other f a b. w.newest.others other (code_of other) f a b;
      fresh = w.fresh;
      within = w.within;
    }

pub returns-clause-pushed : goal.returns-clause-pushed
returns-clause-pushed c = (c.newest_of-older.result, c.in_ok-push.ensures.items)
