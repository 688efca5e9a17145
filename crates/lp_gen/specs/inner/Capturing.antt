-- Which variables around clauses stand in them.
use Rattle.std.specs.Prelude.{◌≡◌, ℕ, ◌+◌, ◌-◌, ◌*◌, ◌^◌, ◌<◌, ◌⊎◌, nat_lt, Bool, true, if◌then◌else◌, Option, Some, None, List, [], ◌∷◌, map, sum_by}
use Rattle.lp_term.specs.Nodes.{Nodes, tree}
use Rattle.lp_term.specs.Walk.{size}
use Rattle.lp_term.specs.declared.node.TermId.{TermId}
use Rattle.lp_model.specs.declared.clause.Goal as code
use Rattle.lp_model.specs.declared.clause.Goal.TheOpen.{Goal-F}
use Rattle.lp_model.specs.declared.clause.Clause as code_clause
use Rattle.lp_model.specs.Flattened.{goals_of, clauses_of}
use Rattle.lp_code.specs.States.{member}
use Rattle.lp_gen.specs.declared.captured.Place.{Place}
use Rattle.lp_gen.specs.declared.captured.Place.TheVariants as on
use Rattle.lp_gen.specs.inner.Sizes.{goals_weigh}
use Rattle.lp_gen.specs.inner.TermLaw.{AllLoose}
use Rattle.lp_gen.specs.inner.Bodies.{AreThrough, AllThrough}

-- an index of one of so many variables is that of a level among these
abbrev pub IsAmong : (base : ℕ) → List ℕ → ℕ → Type 0
IsAmong n ks i = i < n → member (n - i - 1) ks ≡ true

-- so many variables that are bound, as a number below 2^64 or none
abbrev pub depth_of : ℕ → Option ℕ
depth_of d = if nat_lt d (2 ^ 64) then Some d else None

abbrev pub IsDepth : ℕ → Option ℕ → Type 0
IsDepth d o = depth_of d ≡ o

-- what is still to be looked at has no others

abbrev pub TermsHold : Nodes → (base : ℕ) → List ℕ → ℕ → List TermId → Type 0
TermsHold b n ks d [] = Unit {0}
TermsHold b n ks d (t ∷ ts) = AllLoose (IsAmong n ks) d (tree b t.0) × TermsHold b n ks d ts

abbrev pub PlaceHolds : Nodes → (base : ℕ) → List ℕ → Place → Type 0
PlaceHolds b n ks (on.Clauses cs o) = (d : ℕ) → IsDepth d o → AllThrough (AllLoose (IsAmong n ks)) d (clauses_of b cs.now)
PlaceHolds b n ks (on.Goals gs o) = (d : ℕ) → IsDepth d o → AreThrough (AllLoose (IsAmong n ks)) d (goals_of b gs.now)
PlaceHolds b n ks (on.Terms ts o) = (d : ℕ) → IsDepth d o → TermsHold b n ks d ts.now
PlaceHolds b n ks (on.Term t o) = (d : ℕ) → IsDepth d o → AllLoose (IsAmong n ks) d (tree b t.0)

abbrev pub PlacesHold : Nodes → (base : ℕ) → List ℕ → List Place → Type 0
PlacesHold b n ks [] = Unit {0}
PlacesHold b n ks (p ∷ ps) = PlaceHolds b n ks p × PlacesHold b n ks ps

abbrev pub Covers : List ℕ → List ℕ → Type 0
Covers xs ks = (k : ℕ) → member k xs ≡ true → member k ks ≡ true

-- a place that is looked at
abbrev pub Marks : Nodes → (base : ℕ) → (xs xs' : List ℕ) → (ps ps' : List Place) → Place → Type 0
Marks b n xs xs' ps ps' p = (ks : List ℕ) → Covers xs' ks → PlacesHold b n ks ps' → Covers xs ks × PlacesHold b n ks ps × PlaceHolds b n ks p

-- and of each of its loose indices this is so

abbrev pub IsSo : (ℕ → Bool) → ℕ → Type 0
IsSo p i = p i ≡ true

abbrev pub TermsHave : Nodes → (ℕ → Bool) → ℕ → List TermId → Type 0
TermsHave b p d [] = Unit {0}
TermsHave b p d (t ∷ ts) = AllLoose (IsSo p) d (tree b t.0) × TermsHave b p d ts

abbrev pub PlaceHas : Nodes → (ℕ → Bool) → Place → Type 0
PlaceHas b p (on.Clauses cs o) = (d : ℕ) × IsDepth d o × AllThrough (AllLoose (IsSo p)) d (clauses_of b cs.now)
PlaceHas b p (on.Goals gs o) = (d : ℕ) × IsDepth d o × AreThrough (AllLoose (IsSo p)) d (goals_of b gs.now)
PlaceHas b p (on.Terms ts o) = (d : ℕ) × IsDepth d o × TermsHave b p d ts.now
PlaceHas b p (on.Term t o) = (d : ℕ) × IsDepth d o × AllLoose (IsSo p) d (tree b t.0)

abbrev pub PlacesHave : Nodes → (ℕ → Bool) → List Place → Type 0
PlacesHave b p [] = Unit {0}
PlacesHave b p (q ∷ qs) = PlaceHas b p q × PlacesHave b p qs

-- a level is that of an index of which this is so
abbrev pub IsLevelOf : (base : ℕ) → (ℕ → Bool) → ℕ → Type 0
IsLevelOf n p k = (i : ℕ) × (i < n) × (k ≡ n - i - 1) × (p i ≡ true)

-- a level that is new is that of an index
abbrev pub AreFound : (base : ℕ) → (ℕ → Bool) → (xs xs' : List ℕ) → Type 0
AreFound n p xs xs' = (k : ℕ) → member k xs' ≡ true → (member k xs ≡ true) ⊎ IsLevelOf n p k

-- a place that is looked at has no other indices than its parts, of which the levels are marked
abbrev pub Finds : Nodes → (base : ℕ) → (xs xs' : List ℕ) → (ps ps' : List Place) → Place → Type 0
Finds b n xs xs' ps ps' q = (p : ℕ → Bool) → PlacesHave b p ps → PlaceHas b p q → PlacesHave b p ps' × AreFound n p xs xs'

-- the walk over clauses, with what is still to be looked at and the levels so far
pub record IsLookedThrough (b : Nodes) (cs : List code_clause.Clause) (n : ℕ) (levels : List ℕ) (ps : List Place) : Type 0 where
  pub marks : (ks : List ℕ) → Covers levels ks → PlacesHold b n ks ps → AllThrough (AllLoose (IsAmong n ks)) 0 (clauses_of b cs)
  pub has : (p : ℕ → Bool) → AllThrough (AllLoose (IsSo p)) 0 (clauses_of b cs) → PlacesHave b p ps
  pub found : (p : ℕ → Bool) → AllThrough (AllLoose (IsSo p)) 0 (clauses_of b cs) → (k : ℕ) → member k levels ≡ true → IsLevelOf n p k

-- how much is left to look at

abbrev pub goal_size_at : Nodes → Goal-F ℕ ℕ → ℕ
goal_size_at b (Goal-F.Atom t) = 4 * size (tree b t.0)
goal_size_at b Goal-F.Cut = 0
goal_size_at b (Goal-F.Either l r) = goals_weigh l.items + goals_weigh r.items
goal_size_at b (Goal-F.Some T l) = goals_weigh l.items
goal_size_at b (Goal-F.All T l) = goals_weigh l.items
goal_size_at b (Goal-F.Assume cs l) = goals_weigh cs.items + goals_weigh l.items
goal_size_at b (Goal-F.Not l) = goals_weigh l.items

abbrev pub clause_size_at : Nodes → code_clause.Clause-F ℕ ℕ → ℕ
clause_size_at b c = 4 * size (tree b c.head.0) + goals_weigh c.body.items

abbrev pub goal_size : Nodes → code.Goal → ℕ
goal_size b = code.fold-Goal ℕ ℕ (goal_size_at b) (clause_size_at b)

abbrev pub clause_size : Nodes → code_clause.Clause → ℕ
clause_size b = code_clause.fold-Clause ℕ ℕ (goal_size_at b) (clause_size_at b)

abbrev pub place_task : Nodes → Place → ℕ
place_task b (on.Clauses cs d) = goals_weigh (map (clause_size b) cs.now)
place_task b (on.Goals gs d) = goals_weigh (map (goal_size b) gs.now)
place_task b (on.Terms ids d) = 1 + sum_by (λ t. 1 + 4 * size (tree b t.0)) ids.now
place_task b (on.Term t d) = 4 * size (tree b t.0)

abbrev pub place_work : Nodes → List Place → ℕ
place_work b ps = sum_by (place_task b) ps
