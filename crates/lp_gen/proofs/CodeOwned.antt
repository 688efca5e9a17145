-- What code makes, one part after the other.
use Rattle.std.proofs.Common.{◌≡◌, ◌∙◌, ◌≤◌, ℕ, List, [], ◌∷◌, ◌++◌, Bool, true, false, Some, subst, sym, refl, true≢false}
use Rattle.std.specs.Prelude.{nat_le}
use Rattle.std.proofs.lemmas.Bool.{leb-true, leb-false}
use Rattle.lp_code.specs.declared.instruction.Instr.{Instr}
use Rattle.lp_gen.specs.Steps.{Seen, Around, at_level, set_level}
use Rattle.lp_gen.specs.inner.Owned.{makes, AreStarted, MakesOwn}
use Rattle.lp_gen.specs.inner.Written.{CodeOwns}
use Rattle.lp_gen.proofs.OwnSet.{makes_both}
use Rattle.lp_gen.proofs.AroundSet.{around_same, around_then}
use Rattle.lp_gen.proofs.OwnMadeBy.{makes_none, makes_then, makes_one, same_set, stays_set, same_stays, stays_then, started_on}

pub code_then : (a b c : Around) (xs ys : List Instr) → CodeOwns a b xs → CodeOwns b c ys → CodeOwns a c (xs ++ ys)
code_then a b c xs ys x y = record {
  made = subst (MakesOwn a c) (sym (makes_both xs ys)) (makes_then a b c (makes xs) (makes ys) x.same x.stays x.made y.made);
  same = around_then a b c x.same y.same;
  stays = stays_then a b c x.same x.stays y.stays;
}

pub owns_then : (a b c : Around) (xs ys : List Instr) → (AreStarted a → CodeOwns a b xs) → (AreStarted b → CodeOwns b c ys) → AreStarted a → CodeOwns a c (xs ++ ys)
owns_then a b c xs ys f g start = let x = f start in code_then a b c xs ys x (g (started_on a b x.same x.stays start))

-- code that makes none
pub none_owned : (a : Around) (is : List Instr) → makes is ≡ [] → CodeOwns a a is
none_owned a is e = record { made = subst (MakesOwn a a) (sym e) (makes_none a); same = around_same a; stays = same_stays a }

-- code that makes one
pub one_owned : (a : Around) (l : ℕ) (v : Seen) (is : List Instr) → makes is ≡ v.register ∷ [] → AreStarted a → at_level a l ≡ Some v → v.is_set ≡ false → CodeOwns a (set_level a l) is
one_owned a l v is e start found unset = record { made = subst (MakesOwn a (set_level a l)) (sym e) (makes_one a l v le found unset); same = same_set a l; stays = stays_set a l v le found }
  where
    own : (t : Bool) → nat_le a.base l ≡ t → a.base ≤ l
    own true q = leb-true a.base l q
    own false q = absurd (true≢false (sym (start l v (leb-false a.base l q) found) ∙ unset))

    le : a.base ≤ l
    le = own (nat_le a.base l) refl
