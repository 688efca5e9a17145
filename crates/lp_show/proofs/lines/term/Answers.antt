use Rattle.lp_term.specs.Nodes.{tree}
use Rattle.lp_show.proofs.lines.term.Goals as goal

pub returns : goal.returns
returns c = record {
  kept = c.form_of.ensures.kept;
  text = (tree c.form_of.new.bank c.in-Ok.form.0, c.in-Ok.ensures.form, c.in_ok-text.ensures);
  refused = tt;
}

pub returns-in-Err : goal.returns-in-Err
returns-in-Err c = record { kept = c.form_of.ensures.kept; text = tt; refused = c.in-Err.ensures.refused }
