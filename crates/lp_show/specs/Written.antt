-- A writer between two terms.
use Rattle.std.specs.Prelude.{◌≡◌, List, []}
use Rattle.lp_model.specs.Shown.{Entry}
use Rattle.lp_show.specs.Named.{AreBinders}
use Rattle.lp_show.specs.declared.write.Writer.{Writer}

-- nothing is still to be written, and the numbers of binders are right
pub record IsIdle (es : List Entry) (w : Writer) : Type 0 where
  pub tasks : w.tasks.items ≡ []
  pub binders : AreBinders es w.binders.items
