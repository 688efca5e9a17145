-- How what is written in goals and clauses is collected: by a look through them and through the nodes of their terms.
use Rattle.std.specs.Prelude.{◌≡◌, ℕ, suc, ◌+◌, ◌<◌, ◌⊎◌, nat_eq, Bool, true, false, List, [], ◌++◌, map}
use Rattle.std.specs.List.{list_any}
use Rattle.indexmap.specs.IndexSet.{contains}
use Rattle.lp_calculus.specs.Types.{Ty}
use Rattle.lp_calculus.specs.Term.{Term}
use Rattle.lp_term.specs.Nodes.{Nodes, type_tree, tree}
use Rattle.lp_term.specs.inner.Walking.{type_size, term_size}
use Rattle.lp_model.specs.Flat.{Goal, Atomic, Cut, Either, Exists, Forall, Assume, Not, Goals, no_goals, goals, Clause, clause, Clauses, no_clauses, clauses, under_all, loose_in, type_variables, type_variables_in, collect_goal, collect_goals, collect_clauses}
use Rattle.lp_model.specs.Flattened.{goals_of, clauses_of}
use Rattle.lp_plain.specs.Collected.{is_in}
use Rattle.lp_plain.specs.inner.Looking.{weight_of_all, SomeOf, Leads}
use Rattle.lp_plain.specs.declared.free.Free.{Free}
use Rattle.lp_plain.specs.declared.free.Part.{Part}
use Rattle.lp_plain.specs.declared.free.Walk.{Walk}
use Rattle.lp_plain.specs.declared.below.Below.{Below}
use Rattle.lp_plain.specs.contracts.below.BelowPartialEq.TheImpl as compared

-- what is looked for
pub data Sought : Type 0 where
  Variable : ℕ → Sought
  TypeVariable : ℕ → Sought

-- what is looked at, below so many binders
pub data Piece : Type 0 where
  in_goals : (depth : ℕ) → Goals → Piece
  in_clauses : (depth : ℕ) → Clauses → Piece
  in_term : (depth number : ℕ) → Piece
  in_type : (number : ℕ) → Piece

abbrev pub piece : Nodes → Part → Piece
piece b (Part.Goals gs d) = in_goals d (goals_of b gs.now)
piece b (Part.Clauses cs d) = in_clauses d (clauses_of b cs.now)
piece b (Part.Term t d) = in_term d t.0
piece b (Part.Type t) = in_type t.0

abbrev pub number_of : Sought → ℕ
number_of (Variable n) = n
number_of (TypeVariable n) = n

-- what is collected of a term, and of a type
abbrev pub told_of : Sought → ℕ → Term → List ℕ
told_of (Variable n) = loose_in
told_of (TypeVariable n) = λ d t. type_variables_in t

abbrev pub told_in : Sought → Ty → List ℕ
told_in (Variable n) T = []
told_in (TypeVariable n) T = type_variables T

abbrev pub collect_clause : (ℕ → Term → List ℕ) → ℕ → Clause → List ℕ
collect_clause f d (clause n vs h b) = f (under_all suc vs d) h ++ collect_goals f (under_all suc vs d) b

-- whether it stands in a goal, and in a clause
abbrev pub goal_passes : ℕ → Goal → Sought → Bool
goal_passes d g x = is_in (number_of x) (collect_goal (told_of x) d g)

abbrev pub clause_passes : ℕ → Clause → Sought → Bool
clause_passes d c x = is_in (number_of x) (collect_clause (told_of x) d c)

abbrev pub collected : Nodes → Sought → Piece → List ℕ
collected b x (in_goals d gs) = collect_goals (told_of x) d gs
collected b x (in_clauses d cs) = collect_clauses (told_of x) d cs
collected b x (in_term d n) = told_of x d (tree b n)
collected b x (in_type n) = told_in x (type_tree b n)

abbrev pub stands : Nodes → Sought → Piece → Bool
stands b x p = is_in (number_of x) (collected b x p)

abbrev mutual
  pub goal_weight : Goal → ℕ
  goal_weight (Atomic t) = 1 + term_size t
  goal_weight Cut = 1
  goal_weight (Either l r) = 1 + (goals_weight l + goals_weight r)
  goal_weight (Exists T gs) = 1 + goals_weight gs
  goal_weight (Forall T gs) = 1 + goals_weight gs
  goal_weight (Assume w cs gs) = 1 + (clauses_weight cs + goals_weight gs)
  goal_weight (Not w gs) = 1 + goals_weight gs

  pub goals_weight : Goals → ℕ
  goals_weight no_goals = 1
  goals_weight (goals g gs) = goal_weight g + goals_weight gs

  pub clause_weight : Clause → ℕ
  clause_weight (clause n vs h b) = 1 + (term_size h + goals_weight b)

  pub clauses_weight : Clauses → ℕ
  clauses_weight no_clauses = 1
  clauses_weight (clauses c cs) = clause_weight c + clauses_weight cs

abbrev pub piece_weight : Nodes → Piece → ℕ
piece_weight b (in_goals d gs) = goals_weight gs
piece_weight b (in_clauses d cs) = clauses_weight cs
piece_weight b (in_term d n) = term_size (tree b n)
piece_weight b (in_type n) = type_size (type_tree b n)

-- the parts that are put behind others weigh less than this, and it passes exactly where one of them does
pub record IsSplit (b : Nodes) (old new : List Part) (w : ℕ) (P : Sought → Bool) : Type 0 where
  pub parts : List Part
  pub more : new ≡ old ++ parts
  pub lighter : weight_of_all (piece_weight b) (map (piece b) parts) < w
  pub passes : (x : Sought) → P x ≡ list_any (stands b x) (map (piece b) parts)

abbrev pub IsPutFor : Nodes → (old new : List Part) → Piece → Type 0
IsPutFor b old new n = IsSplit b old new (piece_weight b n) (λ x. stands b x n)

-- whether it was found so far, and whether it was found before
abbrev pub has : Walk → Sought → Bool
has w (Variable n) = contains nat_eq w.variables n
has w (TypeVariable n) = contains nat_eq w.type_variables n

abbrev pub found_of : Free → Sought → List ℕ
found_of f (Variable n) = f.variables.items
found_of f (TypeVariable n) = f.types.items

abbrev pub place : (depth number : ℕ) → Below
place d n = record { term = n; depth = d }

abbrev pub is_marked : Walk → Piece → Bool
is_marked w (in_goals d gs) = false
is_marked w (in_clauses d cs) = false
is_marked w (in_term d n) = contains (compared.ghosts).eq w.terms (place d n)
is_marked w (in_type n) = contains nat_eq w.types n

-- it is found at the piece itself, or it stands there exactly where it stands in one of the parts
abbrev pub IsSeen : {N : Type 0} → (before after : Bool) → (N → Bool) → N → List N → Type 0
IsSeen before after P n ps = ((after ≡ true) × (P n ≡ true)) ⊎ ((after ≡ before) × (P n ≡ list_any P ps))

-- a piece has given way to its parts
pub record IsOpened (b : Nodes) (old new : Walk) (n : Piece) : Type 0 where
  pub parts : List Part
  pub more : new.left.items ≡ old.left.items ++ parts
  pub lighter : weight_of_all (piece_weight b) (map (piece b) parts) < piece_weight b n
  pub seen : (x : Sought) → IsSeen (has old x) (has new x) (stands b x) n (map (piece b) parts)
  pub marks : (i : Piece) → is_marked new i ≡ is_marked old i

-- it was found and stands in what is given, or it was not, and the look for it goes on
abbrev pub IsSought : {N : Type 0} → (found : Bool) → (N → Bool) → (N → ℕ) → (given left : List N) → (marked : N → Bool) → Type 0
IsSought found P w given left marked = ((found ≡ true) × SomeOf P given) ⊎ ((found ≡ false) × Leads P w given left marked)
