-- What the rules for a pair come to: which of them applies, and with which units.
use Rattle.std.specs.Prelude.{◌≡◌, ℕ, ◌+◌, ◌<◌, ◌≤◌, ◌&&◌, nat_eq, Bool, true, false, List, [], map, Option, Some, None, option_map}
use Rattle.lp_calculus.specs.Convert.{steps}
use Rattle.lp_term.specs.Nodes.{Nodes, tree}
use Rattle.lp_term.specs.declared.node.TermId.{TermId}
use Rattle.lp_model.specs.Look.{Look, an_abs, rigid, flexible, weak_step}
use Rattle.lp_model.specs.Pair.{Pair, Closing}
use Rattle.lp_model.specs.Scan as scan
use Rattle.lp_model.specs.Rule.{Verdict, fails, gives, binds, delays, Ruled, pattern_side}
use Rattle.lp_pattern.specs.declared.fault.PatternRefusal.{PatternRefusal}
use Rattle.lp_pattern.specs.declared.look.Head.{Head}
use Rattle.lp_pattern.specs.declared.look.Looked.{Looked}
use Rattle.lp_pattern.specs.declared.rules.Verdict.{Verdict as Taken}
use Rattle.lp_pattern.specs.declared.side.Side.{Side}
use Rattle.lp_pattern.specs.Reading.{side_of}
use Rattle.lp_pattern.specs.Under.{under, below}

-- what was seen of a term
abbrev pub view_of : Nodes → Closing → Head → (top : TermId) → List TermId → Look
view_of b c (Head.Abstraction body) top args = an_abs (below c (tree b body.0))
view_of b c (Head.Variable id level) top args = flexible id level (map (under b c) args)
view_of b c Head.Rigid top args = rigid (under b c top) (map (under b c) args)

abbrev pub view : Nodes → Closing → Looked → Look
view b c r = view_of b c r.head r.top r.arguments.items

-- where the definition says whether what was seen is a pattern it says this
abbrev pub IsSideOf : (m : ℕ) → Look → (pair : ℕ) → Option Side → Type 0
IsSideOf m v pair o = (p : Pair) → p.level ≡ pair → (q : Option scan.Side) → pattern_side m p v ≡ Some q → q ≡ option_map side_of o

-- it says nothing in a million steps
abbrev pub IsNoSide : (m : ℕ) → Look → (pair : ℕ) → PatternRefusal → Type 0
IsNoSide m v pair PatternRefusal.Fails = ⊥
IsNoSide m v pair PatternRefusal.Deep = m ≤ 1000000 → (p : Pair) → p.level ≡ pair → pattern_side m p v ≡ None
IsNoSide m v pair PatternRefusal.Memory = Unit {0}

-- steps at the top lead from the sides of a pair to what was seen
pub record IsSeenPair (b : Nodes) (c : Closing) (level : ℕ) (one other : Looked) (p : Pair) : Type 0 where
  pub stands : p.level ≡ level
  pub left : (j : ℕ) × (steps weak_step j p.left ≡ Some (under b c one.whole))
  pub right : (j : ℕ) × (steps weak_step j p.right ≡ Some (under b c other.whole))

-- a pair is done, or it is delayed
abbrev pub IsVerdict : Bool → Verdict → Type 0
IsVerdict true fails = ⊥
IsVerdict true (gives ts ps) = (ts ≡ []) × (ps ≡ [])
IsVerdict true (binds bs next) = Unit {0}
IsVerdict true delays = ⊥
IsVerdict false v = v ≡ delays

-- where a rule applies it is one of this verdict, and its units are taken
abbrev pub IsJudged : Bool → (old new : ℕ) → Option Ruled → Type 0
IsJudged done old new o = (r : Ruled) → o ≡ Some r → (old ≡ r.units + new) × IsVerdict done r.verdict

-- it fails where the rule does, within the units; where the units are passed the rule takes more than there were
abbrev pub IsRuledOut : (limit : ℕ) → PatternRefusal → (old : ℕ) → Option Ruled → Type 0
IsRuledOut limit PatternRefusal.Fails old o = (r : Ruled) → o ≡ Some r → (r.verdict ≡ fails) × (r.units ≤ old)
IsRuledOut limit PatternRefusal.Deep old o = limit ≤ 1000000 → (r : Ruled) → o ≡ Some r → old < r.units
IsRuledOut limit PatternRefusal.Memory old o = Unit {0}

-- there is a solution so far
abbrev pub IsDone : Verdict → Type 0
IsDone fails = ⊥
IsDone (gives ts ps) = Unit {0}
IsDone (binds bs next) = Unit {0}
IsDone delays = ⊥

-- a pair is gone where the rule gives others or binds, and is delayed where the rule delays it, with the units of the rule
abbrev pub IsTaken : Taken → (old new : ℕ) → Ruled → Type 0
IsTaken Taken.Gone old new r = (old ≡ r.units + new) × IsDone r.verdict
IsTaken (Taken.Delayed p) old new r = (old ≡ r.units + new) × (r.verdict ≡ delays)

-- both are rigid
abbrev pub are_both_rigid : Head → Head → Bool
are_both_rigid Head.Rigid Head.Rigid = true
are_both_rigid Head.Rigid (Head.Abstraction body) = false
are_both_rigid Head.Rigid (Head.Variable y k) = false
are_both_rigid (Head.Abstraction body) h = false
are_both_rigid (Head.Variable x l) h = false

-- both have the same variable as head, and so many arguments each
abbrev pub is_one_variable : Head → Head → (m n : ℕ) → Bool
is_one_variable (Head.Variable x l) (Head.Variable y k) m n = nat_eq x y && nat_eq l k && nat_eq m n
is_one_variable (Head.Variable x l) (Head.Abstraction body) m n = false
is_one_variable (Head.Variable x l) Head.Rigid m n = false
is_one_variable (Head.Abstraction body) h m n = false
is_one_variable Head.Rigid h m n = false

-- none is an abstraction, and one is a variable
abbrev pub is_flexible : Head → Head → Bool
is_flexible (Head.Abstraction body) h = false
is_flexible Head.Rigid (Head.Abstraction body) = false
is_flexible Head.Rigid Head.Rigid = false
is_flexible Head.Rigid (Head.Variable y k) = true
is_flexible (Head.Variable x l) (Head.Abstraction body) = false
is_flexible (Head.Variable x l) Head.Rigid = true
is_flexible (Head.Variable x l) (Head.Variable y k) = true
