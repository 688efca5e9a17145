-- What is left to do for a term, and what comes of it: the types of the indices that are bound, the steps so far, and what stands around.
use Rattle.std.specs.Prelude.{◌≡◌, ℕ, List, [], ◌∷◌, ◌++◌, map, reverse}
use Rattle.lp_calculus.specs.Types.{Ty}
use Rattle.lp_term.specs.Nodes.{Nodes, tree}
use Rattle.lp_gen.specs.declared.environment.Environment.{Environment}
use Rattle.lp_gen.specs.declared.term_steps.TermStep.{TermStep}
use Rattle.lp_gen.specs.declared.listing.Lists.{Lists}
use Rattle.lp_gen.specs.declared.listing.Task.{Task}
use Rattle.lp_gen.specs.declared.listing.Task.TheVariants as on
use Rattle.lp_gen.specs.inner.Reading.{read}
use Rattle.lp_gen.specs.Steps.{Step, apply_last, abstract_last, Around, Listed, Headed, listed}
use Rattle.lp_gen.specs.inner.Listing.{plain_step, around_of, read_function, with_arguments}

pub record Course : Type 0 where
  pub bound : List Ty
  pub steps : List Step
  pub around : Around

abbrev pub course : Nodes → Environment → Lists → Course
course b e l = record { bound = map (read b) (reverse l.bound.items); steps = map (plain_step b) l.steps.items; around = around_of b e }

abbrev pub behind : Course → Listed → Course
behind w l = record { bound = w.bound; steps = w.steps ++ l.steps; around = l.around }

abbrev pub with_step : Course → Step → Course
with_step w s = record { bound = w.bound; steps = w.steps ++ s ∷ []; around = w.around }

-- the innermost index is no longer bound
abbrev pub all_but_first : {A : Type 0} → List A → List A
all_but_first [] = []
all_but_first (x ∷ xs) = xs

abbrev pub without_arguments : Course → Ty → Headed
without_arguments w T = record { steps = []; around = w.around; function = T; count = 0 }

abbrev pub of_head : Headed → Listed
of_head h = record { steps = h.steps; around = h.around }

abbrev pub act : (constants : ℕ → List Ty → Ty) → Nodes → Task → Course → Course
act K b (on.Visit t V) w = behind w (listed K w.bound w.around (read b V) (tree b t.0))
act K b (on.Args ids f) w = behind w (of_head (with_arguments K w.bound (without_arguments w (read_function b f)) (map (λ t. tree b t.0) (reverse ids.items))))
act K b (on.Apply n) w = with_step w (apply_last n)
act K b (on.Abstract V) w = record { bound = all_but_first w.bound; steps = w.steps ++ abstract_last (read b V) ∷ []; around = w.around }

-- all tasks, the last one first
abbrev pub done : (constants : ℕ → List Ty → Ty) → Nodes → List Task → Course → Course
done K b [] w = w
done K b (t ∷ ts) w = act K b t (done K b ts w)

-- steps were added, and variables were made
pub record Adds (b : Nodes) (old new : Environment) (before after : List TermStep) (l : Listed) : Type 0 where
  pub steps : map (plain_step b) after ≡ map (plain_step b) before ++ l.steps
  pub around : around_of b new ≡ l.around
