use Rattle.std.proofs.Common.{◌∙◌, ap, refl, add-one}
use Rattle.lp_calculus.specs.Term.{atom, eigen}
use Rattle.lp_plain.proofs.Opening.{bank_grows, bank_stands}
use Rattle.lp_plain.proofs.parts.raised.Goals as goal

pub returns-clause-raised : goal.returns-clause-raised
returns-clause-raised c =
    let p = c.in_ok-eigen.ensures in
    let e = c.in-Some.ensures.1 ∙ add-one c.args.place.level in
    record {
      grows = bank_grows c.args.machine.now _ p.kept refl refl refl;
      frames = refl;
      keeps = record { assumptions = refl; newest = refl };
      standings = refl;
      index = refl;
      denied = refl;
      choices = refl;
      branch = refl;
      within = p.within;
      eigen_is = p.tree ∙ ap (λ n. atom (eigen n)) e;
      level = e;
      values = refl;
      assumed = refl;
      standing = refl;
      mark = refl;
    }

pub returns-clause-stands : goal.returns-clause-stands
returns-clause-stands c = bank_stands c.args.machine.now _ c.in_ok-eigen.ensures.kept refl refl refl
