use Rattle.std.proofs.Common.{◌∙◌, refl}
use Rattle.lp_plain.proofs.machine.Machine.put_choice.Goals as goal

pub returns-clause-alternative : goal.returns-clause-alternative
returns-clause-alternative c =
    let l = c.lengths-lengths.ensures in
    record {
      choice = _;
      more = c.in_ok-push.ensures.items;
      left = refl;
      next = refl;
      next_type = refl;
      frames = l.frames;
      blocks = l.blocks;
      values = l.values;
      assumptions = l.assumptions;
      newest = l.newest;
      standings = l.standings;
      bound_terms = c.mark.ensures.terms;
      bound_types = c.mark.ensures.types;
      pairs = c.in_ok-pairs.ensures.items ∙ c.as_slice.ensures.value;
    }
