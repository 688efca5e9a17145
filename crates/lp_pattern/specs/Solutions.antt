-- What a run owes its input (Miller 1991, Nadathur 1993): through the values that it finds, the closings that solve the pairs that are left are, up to
-- conversion, those that solve the pairs of the input.
use Rattle.std.specs.Prelude.{◌≡◌, ℕ, List, [], map, length, Some, slice_get}
use Rattle.lp_calculus.specs.Types.{Ty}
use Rattle.lp_calculus.specs.Convert.{Converts}
use Rattle.lp_calculus.specs.Instance.{instance_term}
use Rattle.lp_calculus.specs.Typing.{Typed}
use Rattle.lp_term.specs.Nodes.{Nodes}
use Rattle.lp_model.specs.Pair.{Pair, Closing, closed, SolvesAll}
use Rattle.lp_model.specs.Proofs.{Declared}
use Rattle.lp_model.specs.Answers.{Variable, over, Closes}
use Rattle.lp_model.specs.declared.answer.Pair.{Pair as Numbers}
use Rattle.lp_unify_laws.specs.Solutions.{at_types, IsMore, HaveTypings, AreStuck}
use Rattle.lp_pattern.specs.Comparing.{pair_under}
use Rattle.lp_pattern.specs.Turning.{ArePairsFor}

-- the pairs that are left, with all values and then these types put in
abbrev pub left_pairs : Nodes → Closing → (ℕ → Ty) → List Numbers → List Pair
left_pairs b z θ qs = at_types θ (map (pair_under b z) qs)

-- what a closing gives to variables through the values found
abbrev pub through : Closing → (ℕ → Ty) → Closing → Closing
through z θ c = record { types = c.types; terms = λ x l. closed c (instance_term θ (z.terms x l)) }

-- a closing of the variables that are there then, with the same types, that solves what is left and gives the same values
pub record KeptThrough (d : Declared) (V W : List Variable) (c : Closing) (z : Closing) (θ : ℕ → Ty) (left : List Pair) : Type 0 where
  pub closing : Closing
  pub types : closing.types ≡ c.types
  pub closes : Closes d W closing
  pub solves : SolvesAll closing left
  pub gives : (x : ℕ) (v : Variable) → slice_get V x ≡ Some v → Converts (c.terms x (length v.scope)) ((through z θ closing).terms x (length v.scope))

-- variables are added, over which what is left is typed and each value has its variable's type; each closing of the variables that solves the pairs of
-- the input comes from one that solves what is left, and what such a one gives solves them
pub record HasSolutions (n : ℕ) (d : Declared) (V : List Variable) (θ : ℕ → Ty) (ps ds : List Pair) (b : Nodes) (next : ℕ) (residual : List Numbers) (z : Closing) : Type 0 where
  pub after : List Variable
  pub more : IsMore V after
  pub count : length after ≡ next
  pub left_typed : HaveTypings d after (left_pairs b z θ residual)
  pub values_typed : (x : ℕ) (v : Variable) → slice_get V x ≡ Some v → Typed (over d v.scope after) [] (instance_term θ (z.terms x (length v.scope))) v.type
  pub keeps : (c : Closing) → Closes d V c → SolvesAll c (at_types θ ps) → SolvesAll c (at_types θ ds) → KeptThrough d V after c z θ (left_pairs b z θ residual)
  pub adds_none : (c : Closing) → Closes d after c → SolvesAll c (left_pairs b z θ residual) → SolvesAll (through z θ c) (at_types θ ps) × SolvesAll (through z θ c) (at_types θ ds)
  -- steps at the top lead to what is left from pairs to which no rule applies
  pub stuck : (qs : List Pair) × ArePairsFor b z residual qs × AreStuck n qs
