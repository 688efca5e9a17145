-- Branches of the search whose goals are pattern text, with no pair left.
use Rattle.std.specs.Prelude.{◌≡◌, []}
use Rattle.lp_lemmas.specs.Each.{EachOf}
use Rattle.lp_model.specs.Branch.{Branch, Entry}
use Rattle.lp_pattern_laws.specs.Goals.{IsPatternClause, IsPatternGoal}

-- a goal in its place: it and what is assumed there are pattern text at its level
pub record IsPatternEntry (e : Entry) : Type 0 where
  pub goal : IsPatternGoal e.level [] e.goal
  pub assumed : EachOf (IsPatternClause e.level []) e.assumed

pub record IsPatternBranch (b : Branch) : Type 0 where
  pub entries : EachOf IsPatternEntry b.goals
  pub pairs : b.pairs ≡ []
