-- What the watchers of a run have heard.
use Rattle.std.specs.Prelude.{◌≡◌, List, ℕ, Option, true}
use Rattle.lp_base.specs.Held.{Held}
use Rattle.lp_base.specs.declared.status.Status.{Status}
use Rattle.lp_watch.specs.Seen.{Seen}
use Rattle.lp_cli.specs.Fulfils.{answer_limit, step_limit}
use Rattle.lp_solve.specs.Watched.{Watches}
use Rattle.lp_words.specs.Asked.{Asked, solve}

-- of a query on texts with `--watch`: each note of the definition's search within these limits, where it came to an end of its own; nothing where texts or query are refused. Of a search
-- on an image nothing is said here.
abbrev pub Hears : (told : Option Held) → Asked → Status → (old new : List Seen) → Type 0
Hears told (solve name query options) result old new = options.watch ≡ true → Watches told name query (step_limit options) (answer_limit options) result old new
Hears told _ result old new = Unit {0}
