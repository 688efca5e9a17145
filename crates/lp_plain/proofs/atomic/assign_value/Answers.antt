use Rattle.std.proofs.Common.{refl}
use Rattle.lp_plain.specs.HeadLooks.{with_bank}
use Rattle.lp_plain.proofs.atomic.assign_value.Goals as goal

pub returns : goal.returns
returns c =
    let t = c.in_ok-term.ensures in
    let u = c.in_ok-unified.ensures in
    record {
      between = with_bank c.args.machine.now c.term_of.new.bank;
      bank = record { bank = t.kept; same = refl };
      term = c.in_ok-term.term;
      same = c.in_ok-unified.unified;
      term_is = t.tree;
      bound = u.bound;
      residual = u.residual;
      equated = u.equated;
      is = c.turn_of.ensures;
    }
