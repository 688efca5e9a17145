use Rattle.std.proofs.Common.{refl}
use Rattle.lp_plain.proofs.Opening.{bank_grows, bank_stands}
use Rattle.lp_plain.proofs.machine.Machine.new_variable.Goals as goal

pub returns-clause-variable : goal.returns-clause-variable
returns-clause-variable c =
    let p = c.in_ok-variable.ensures in
    record {
      grows = bank_grows c.args.self.now _ p.kept refl refl refl;
      frames = refl;
      assumed = record { assumptions = refl; newest = refl };
      standings = refl;
      index = refl;
      denied = refl;
      choices = refl;
      next = c.in-Some.ensures.1;
      next_type = refl;
      within = p.within;
      variable = p.tree;
    }

pub returns-clause-stands : goal.returns-clause-stands
returns-clause-stands c = bank_stands c.args.self.now _ c.in_ok-variable.ensures.kept refl refl refl
