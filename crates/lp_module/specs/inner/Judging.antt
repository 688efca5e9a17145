-- What the judging of a formula keeps: measures of terms, the parts that are left, and what was found.
use Rattle.std.specs.Prelude.{◌≡◌, ◌⊎◌, Contains, ℕ, suc, ◌+◌, ◌-◌, ◌<◌, ◌≤◌, min, Bool, true, false, not, ◌&&◌, ◌||◌, List, [], ◌∷◌, ◌++◌, length, get_or, slice_index_or, slice_get, Option, Some}
use Rattle.lp_calculus.specs.Term.{Term}
use Rattle.lp_calculus.specs.Typing.{Scheme}
use Rattle.lp_standard.specs.Constants.{is_declared}
use Rattle.lp_standard.specs.Connectives.{body_of}
use Rattle.lp_standard.specs.Positive.{is_positive}
use Rattle.lp_term.specs.Nodes.{Nodes, tree}
use Rattle.lp_term.specs.declared.node.TermId.{TermId}
use Rattle.lp_model.specs.Flatten.{heads_clauses}
use Rattle.lp_infer.specs.inner.Turns.{turns_of}
use Rattle.lp_module.specs.Form.{Part, depth, argument_count, widest, IsPart, is_deep, is_wide, is_in_term, is_other, HasPart}
use Rattle.lp_module.specs.declared.heads.Heads.{Heads}
use Rattle.lp_module.specs.declared.heads.Heads.TheVariants.{Known, Any}
use Rattle.lp_module.specs.declared.judge.Binder.{Binder}
use Rattle.lp_module.specs.declared.judge.Parts.{Parts}
use Rattle.lp_module.specs.declared.judge.Task.{Task}
use Rattle.lp_module.specs.declared.judge.Verdict.{Verdict}
use Rattle.lp_module.specs.declared.measure.Measure.{Measure}
use Rattle.lp_module.specs.declared.measure.Measures.{Measures}

-- measures

-- as far as 32 bits hold it
abbrev pub counted : ℕ → ℕ
counted n = min n 4294967295

pub record IsMeasure (m : Measure) (t : Term) : Type 0 where
  pub depth : m.depth ≡ counted (depth t)
  pub arguments : m.arguments ≡ counted (argument_count t)
  pub widest : m.widest ≡ counted (widest t)
  pub connective : m.connective ≡ not (is_positive t)

abbrev pub no_measure : Measure
no_measure = record { depth = 1; arguments = 0; widest = 0; connective = false }

-- the first terms of a bank are measured
pub record AreMeasured (b : Nodes) (m : Measures) : Type 0 where
  pub within : length m.measured.items ≤ length b.terms
  pub each : (i : ℕ) → i < length m.measured.items → IsMeasure (get_or m.measured.items i no_measure) (tree b i)

-- heads

abbrev pub can_head : Heads → ℕ → Bool
can_head (Known ends) c = is_declared c && slice_index_or ends.items (c - 32) false
can_head Any c = is_declared c

-- the constants that can head clauses are told
abbrev pub AreHeads : (ℕ → Option Scheme) → Heads → Type 0
AreHeads d heads = (c : ℕ) → can_head heads c ≡ (is_declared c && heads_clauses (d c))

-- parts

-- the quantifiers around a part, the innermost first, by the number of the innermost
pub data IsAround (binders : List Binder) : ℕ → List Bool → Type 0 where
  none_around : IsAround binders 0 []
  one_around : (n : ℕ) (b : Binder) (around : List Bool) → slice_get binders n ≡ Some b → IsAround binders b.outer around → IsAround binders (suc n) (b.goal_variable ∷ around)

pub record IsTask (b : Nodes) (binders : List Binder) (t : Task) (p : Part) : Type 0 where
  pub within : t.formula.0 < length b.terms
  pub goal : t.goal ≡ p.goal
  pub around : IsAround binders t.binder p.binders
  pub depth : t.depth ≡ p.depth
  pub formula : tree b t.formula.0 ≡ p.formula

-- tasks are these parts, in order
abbrev pub AreTasks : Nodes → List Binder → List Task → List Part → Type 0
AreTasks b binders [] [] = Unit {0}
AreTasks b binders [] (p ∷ ps) = ⊥
AreTasks b binders (t ∷ ts) [] = ⊥
AreTasks b binders (t ∷ ts) (p ∷ ps) = IsTask b binders t p × AreTasks b binders ts ps

-- a task was put behind the others
abbrev pub PushesTask : Parts → Parts → Task → Type 0
PushesTask old new t = (new.binders ≡ old.binders) × (new.tasks.items ≡ old.tasks.items ++ t ∷ [])

-- the body of a quantifier was put behind them
pub record PushesBody (b c : Nodes) (old new : Parts) (t : Task) (goal_variable : Bool) (part : TermId) : Type 0 where
  pub body : TermId
  pub within : body.0 < length c.terms
  pub tree : tree c body.0 ≡ body_of (tree b part.0)
  pub binders : new.binders.items ≡ old.binders.items ++ (record { goal_variable = goal_variable; outer = t.binder }) ∷ []
  pub tasks : new.tasks.items ≡ old.tasks.items ++ (record { goal = t.goal; formula = body; binder = length old.binders.items + 1; depth = t.depth + 2 }) ∷ []

-- tasks for these parts were put behind the others
pub record Pushes (c : Nodes) (old new : Parts) (ps : List Part) : Type 0 where
  pub around : (n : ℕ) (bs : List Bool) → IsAround old.binders.items n bs → IsAround new.binders.items n bs
  pub tasks : List Task
  pub more : new.tasks.items ≡ old.tasks.items ++ tasks
  pub are : AreTasks c new.binders.items tasks ps

-- what was found

-- of one part
pub record IsOwn (heads : Heads) (p : Part) (v : Verdict) : Type 0 where
  pub deep : v.deep ≡ is_deep p
  pub wide : v.wide ≡ is_wide p
  pub in_term : v.in_term ≡ is_in_term p
  pub other : (d : ℕ → Option Scheme) → AreHeads d heads → v.other ≡ is_other d p

-- of two formulas
pub record AreJoined (u v w : Verdict) : Type 0 where
  pub deep : w.deep ≡ (u.deep || v.deep)
  pub wide : w.wide ≡ (u.wide || v.wide)
  pub in_term : w.in_term ≡ (u.in_term || v.in_term)
  pub other : w.other ≡ (u.other || v.other)

-- all that is wrong with a part was found
pub record IsCovered (d : ℕ → Option Scheme) (v : Verdict) (p : Part) : Type 0 where
  pub deep : is_deep p ≡ true → v.deep ≡ true
  pub wide : is_wide p ≡ true → v.wide ≡ true
  pub in_term : is_in_term p ≡ true → v.in_term ≡ true
  pub other : is_other d p ≡ true → v.other ≡ true

-- what was found is wrong with some part of the whole
pub record IsFound (d : ℕ → Option Scheme) (w : Part) (v : Verdict) : Type 0 where
  pub deep : v.deep ≡ true → HasPart is_deep w
  pub wide : v.wide ≡ true → HasPart is_wide w
  pub in_term : v.in_term ≡ true → HasPart is_in_term w
  pub other : v.other ≡ true → HasPart (is_other d) w

-- what is wrong with a formula; one that is too deep was not looked at further
pub record IsVerdict (d : ℕ → Option Scheme) (w : Part) (v : Verdict) : Type 0 where
  pub found : IsFound d w v
  pub all : v.deep ≡ false → (p : Part) → IsPart w p → IsCovered d v p

-- each part of the whole was judged, or stands in one that is left
pub record Judges (d : ℕ → Option Scheme) (w : Part) (left : List Part) (v : Verdict) : Type 0 where
  pub found : IsFound d w v
  pub all : (q : Part) → IsPart w q → IsCovered d v q ⊎ ((p : Part) × Contains left p × IsPart p q)

-- how far the judging of a formula has come
pub record Judging (b : Nodes) (heads : Heads) (w : Part) (parts : Parts) (v : Verdict) : Type 0 where
  pub left : List Part
  pub tasks : AreTasks b parts.binders.items parts.tasks.items left
  pub few : v.deep ≡ false → (p : Part) → Contains left p → p.depth ≤ 2002
  pub inside : (p : Part) → Contains left p → IsPart w p
  pub each : (d : ℕ → Option Scheme) → AreHeads d heads → Judges d w left v

-- the turns that tasks take at most: a part's own parts are deeper, and one that is deeper than 2,002 has none
abbrev pub turns_left : List Task → ℕ
turns_left [] = 0
turns_left (t ∷ ts) = turns_of (2003 - t.depth) + turns_left ts
