-- What is still to be written, and the text that it stands for.
use Rattle.std.specs.Prelude.{◌≡◌, ◌<◌, ◌≤◌, ◌+◌, ◌*◌, ℕ, List, [], ◌∷◌, ◌++◌, length, All}
use Rattle.lp_term.specs.Nodes.{tree}
use Rattle.lp_term.specs.Walk.{size}
use Rattle.lp_show.specs.declared.task.Task.{Task}
use Rattle.lp_show.specs.declared.task.Task.TheVariants.{Show, Bytes}
use Rattle.lp_show.specs.Places.{placed}
use Rattle.lp_show.specs.Scene.{Scene, piece_at}

abbrev pub task_text : Scene → Task → List ℕ
task_text s (Show t d place) = placed place (piece_at s d t.0)
task_text s (Bytes bytes) = bytes.now

abbrev pub task_weight : Scene → Task → ℕ
task_weight s (Show t d place) = 6 * size (tree s.nodes t.0)
task_weight s (Bytes bytes) = 1

-- the term stands in the bank
abbrev pub IsWithin : Scene → Task → Type 0
IsWithin s (Show t d place) = t.0 < length s.nodes.terms
IsWithin s (Bytes bytes) = Unit {0}

abbrev pub AreWithin : Scene → List Task → Type 0
AreWithin s ts = All (IsWithin s) ts

-- the text of what is still to be written, of which the last comes first
abbrev pub rest : Scene → List Task → List ℕ
rest s [] = []
rest s (t ∷ ts) = rest s ts ++ task_text s t

-- how much is still to be written
abbrev pub weight : Scene → List Task → ℕ
weight s [] = 0
weight s (t ∷ ts) = task_weight s t + weight s ts

-- more is to be written before the rest, of this text and at most this weight
pub record Adds (s : Scene) (old new : List Task) (more : List ℕ) (most : ℕ) : Type 0 where
  pub text : rest s new ≡ more ++ rest s old
  pub weight : weight s new ≤ most + weight s old
  pub within : AreWithin s old → AreWithin s new

-- this text goes before the rest: a part of it is written, and the other part is to be written and weighs less than so much
pub record Writes (s : Scene) (out : List ℕ) (old : List Task) (out' : List ℕ) (new : List Task) (more : List ℕ) (most : ℕ) : Type 0 where
  pub text : out' ++ rest s new ≡ out ++ (more ++ rest s old)
  pub weight : weight s new < most + weight s old
  pub within : AreWithin s new
