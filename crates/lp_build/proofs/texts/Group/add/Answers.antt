use Rattle.std.proofs.Common.{◌∙◌}
use Rattle.lp_build.proofs.texts.Group.add.Goals as goal

pub returns : goal.returns
returns g c = record {
  name = c.in_ok-name.name;
  source = c.in_ok-source.source;
  named = c.in_ok-name.ensures.ok ∙ c.as_str.ensures.value;
  bytes = c.in_ok-source.ensures.items ∙ c.as_slice.ensures.value;
  numbers = c.in_ok-push-3.ensures.items;
  names = c.in_ok-push.ensures.items;
  sources = c.in_ok-push-2.ensures.items;
  texts = c.in_ok-push-4.ensures.items;
}
