use Rattle.std.proofs.Common.{refl, ◌∙◌}
use Rattle.lp_plain.proofs.machine.Machine.restore.Goals as goal

pub returns : goal.returns
returns c = record {
  frames = c.truncate.ensures.items;
  blocks = c.undo-2.ensures.taken.0;
  values = c.undo-2.ensures.taken.1;
  assumptions = c.truncate-2.ensures.items;
  newest = c.truncate-3.ensures.items;
  standings = c.truncate-4.ensures.items;
  bound_terms = c.undo.ensures.terms;
  bound_types = c.undo.ensures.types;
  bank = refl;
  table = refl;
  index = refl;
  next = refl;
  next_type = refl;
  pairs = c.in_ok-self.ensures.items ∙ c.as_slice.ensures.value;
  choices = refl;
  counts = refl;
  denied = refl;
}
