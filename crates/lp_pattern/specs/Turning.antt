-- How the code's bindings and pairs stand to those of the definition, before and behind each rule.
use Rattle.std.specs.Prelude.{◌≡◌, ℕ, ◌+◌, ◌<◌, ◌≤◌, nat_eq, Bool, true, false, List, [], ◌∷◌, ◌++◌, length, reverse, All, Some, None}
use Rattle.indexmap.specs.IndexMap.{get}
use Rattle.lp_calculus.specs.Term.{Term}
use Rattle.lp_calculus.specs.Convert.{steps}
use Rattle.lp_calculus.specs.Fill.{Within, Binding, put_all}
use Rattle.lp_term.specs.Nodes.{Nodes}
use Rattle.lp_term.specs.declared.node.TermId.{TermId}
use Rattle.lp_model.specs.Types.{TypeBinding}
use Rattle.lp_model.specs.Pair.{Pair, Closing, closed, put_types_in}
use Rattle.lp_model.specs.Rule.{Verdict, fails, gives, binds, delays}
use Rattle.lp_model.specs.declared.answer.Pair.{Pair as Numbers}
use Rattle.lp_model.specs.Look.{weak_step}
use Rattle.lp_pattern.specs.declared.bindings.Bindings.{Bindings}
use Rattle.lp_pattern.specs.declared.rules.Verdict.{Verdict as Taken}
use Rattle.lp_pattern.specs.Behind.{with_types}
use Rattle.lp_pattern.specs.Filling.{IsStill}
use Rattle.lp_pattern.specs.Growing.{IsPairOf}
use Rattle.lp_pattern.specs.Putting.{Known}
pub use Rattle.lp_pattern.specs.Putting.{IsFirm}
use Rattle.lp_pattern.specs.Stripping.{IsShut}
use Rattle.lp_pattern.specs.Under.{IsReading, under}

-- a reading of the bindings, with no variable bound from `next` on
pub record IsOpenReading (b : Nodes) (s : Bindings) (next : ℕ) (c : Closing) : Type 0 where
  pub reading : IsReading b s c
  pub shut : IsShut c
  pub still : IsStill c.types
  pub unbound : (x : ℕ) → next ≤ x → get nat_eq s.terms x ≡ None

-- each variable of a pair has its level, and a number below the next one
abbrev pub IsKnownPair : (levels : ℕ → ℕ) → (next : ℕ) → Pair → Type 0
IsKnownPair lv n p = Within (Known lv n) 0 p.left × Within (Known lv n) 0 p.right

abbrev pub AreKnownPairs : (levels : ℕ → ℕ) → (next : ℕ) → List Pair → Type 0
AreKnownPairs lv n [] = Unit {0}
AreKnownPairs lv n (p ∷ ps) = IsKnownPair lv n p × AreKnownPairs lv n ps

-- steps at the top lead to the term at a number
abbrev pub IsReachedAs : Nodes → Closing → TermId → Term → Type 0
IsReachedAs b c t u = (j : ℕ) × (steps weak_step j u ≡ Some (under b c t))

-- steps at the top of its sides lead from a pair to the one at numbers of a bank
pub record IsPairFor (b : Nodes) (c : Closing) (q : Numbers) (p : Pair) : Type 0 where
  pub stands : p.level ≡ q.level
  pub left : IsReachedAs b c q.left p.left
  pub right : IsReachedAs b c q.right p.right

abbrev pub ArePairsFor : Nodes → Closing → List Numbers → List Pair → Type 0
ArePairsFor b c [] [] = Unit {0}
ArePairsFor b c [] (p ∷ ps) = ⊥
ArePairsFor b c (q ∷ qs) [] = ⊥
ArePairsFor b c (q ∷ qs) (p ∷ ps) = IsPairFor b c q p × ArePairsFor b c qs ps

-- what was read is read as before, and nothing was bound
pub record IsKeptBehind (next : ℕ) (c : Closing) (s : Bindings) (d : Nodes) (s' : Bindings) (next' : ℕ) : Type 0 where
  pub reading : IsOpenReading d s' next' c
  pub last : next' ≡ next
  pub terms : length s'.terms.entries ≡ length s.terms.entries
  pub types : length s'.types.entries ≡ length s.types.entries

-- variables were bound: the reading behind it is the one before with these terms put in
pub record IsBoundBehind (levels : ℕ → ℕ) (next : ℕ) (c : Closing) (s : Bindings) (d : Nodes) (s' : Bindings) (next' : ℕ) (bs : List Binding) : Type 0 where
  pub closing : Closing
  pub reading : IsOpenReading d s' next' closing
  pub levels' : ℕ → ℕ
  -- no variable of before has another level
  pub older : (x : ℕ) → x < next → levels' x ≡ levels x
  pub more : next ≤ next'
  pub puts : (depth : ℕ) (t : Term) → Within (Known levels next) depth (closed c t) → closed closing t ≡ put_all bs (closed c t)
  pub knows : (depth : ℕ) (t : Term) → Within (Known levels next) depth t → Within (Known levels' next') depth (put_all bs t)
  pub reaches : (t u : Term) → (j : ℕ) → Within (Known levels next) 0 t → steps weak_step j t ≡ Some u → steps weak_step j (put_all bs t) ≡ Some (put_all bs u)
  pub firm : (ts : List TypeBinding) → IsFirm ts c → IsFirm ts closing
  -- types that leave what is read as it is may be put in before or after
  pub values : (ts : List TypeBinding) → IsFirm ts c → (t : Term) → put_all bs (put_types_in ts t) ≡ put_types_in ts (put_all bs t)
  pub terms : length s.terms.entries < length s'.terms.entries
  pub types : length s'.types.entries ≡ length s.types.entries

-- types were put for type variables: the reading behind it is the one before with these types put in
pub record IsTypedBehind (next : ℕ) (c : Closing) (s : Bindings) (d : Nodes) (s' : Bindings) (next' : ℕ) (ts : List TypeBinding) : Type 0 where
  pub reading : IsOpenReading d s' next' (with_types ts c)
  pub last : next' ≡ next
  pub puts : (t : Term) → closed (with_types ts c) t ≡ put_types_in ts (closed c t)
  pub firm : (us : List TypeBinding) → IsFirm us c → IsFirm (us ++ ts) (with_types ts c)
  pub terms : length s'.terms.entries ≡ length s.terms.entries
  pub types : length s'.types.entries ≡ length s.types.entries + length ts

-- pairs are on a stack, the first of them on top
pub record ArePushed (levels : ℕ → ℕ) (next : ℕ) (d : Nodes) (c : Closing) (old new : List Numbers) (ps : List Pair) : Type 0 where
  pub pairs : List Numbers
  pub on : new ≡ old ++ reverse pairs
  pub are : ArePairsFor d c pairs ps
  pub stand : All (IsPairOf (length d.terms)) pairs
  pub known : AreKnownPairs levels next ps

-- one variable against a term: the pair is done, or it is delayed
abbrev pub IsDoneAs : Bool → (levels : ℕ → ℕ) → (next : ℕ) → Closing → Bindings → Nodes → Bindings → (next' : ℕ) → Verdict → Type 0
IsDoneAs true lv n c s d s' n' fails = ⊥
IsDoneAs true lv n c s d s' n' (gives ts ps) = (ts ≡ []) × (ps ≡ []) × IsKeptBehind n c s d s' n'
IsDoneAs true lv n c s d s' n' (binds bs m) = (n' ≡ m) × IsBoundBehind lv n c s d s' n' bs
IsDoneAs true lv n c s d s' n' delays = ⊥
IsDoneAs false lv n c s d s' n' v = (v ≡ delays) × IsKeptBehind n c s d s' n'

-- the pairs that a rule gives stand for it
abbrev pub IsGivenAs : (levels : ℕ → ℕ) → (next : ℕ) → Closing → Bindings → Nodes → Bindings → (next' : ℕ) → (old new : List Numbers) → Verdict → Type 0
IsGivenAs lv n c s d s' n' old new fails = ⊥
IsGivenAs lv n c s d s' n' old new (gives ts ps) = IsTypedBehind n c s d s' n' ts × ArePushed lv n' d (with_types ts c) old new ps
IsGivenAs lv n c s d s' n' old new (binds bs m) = ⊥
IsGivenAs lv n c s d s' n' old new delays = ⊥

-- what a pair came to, with the stack of pairs before and behind
abbrev pub IsTakenAs : Taken → (levels : ℕ → ℕ) → (next : ℕ) → Closing → Bindings → Nodes → Bindings → (next' : ℕ) → (old new : List Numbers) → Pair → Verdict → Type 0
IsTakenAs Taken.Gone lv n c s d s' n' old new p fails = ⊥
IsTakenAs Taken.Gone lv n c s d s' n' old new p (gives ts ps) = IsTypedBehind n c s d s' n' ts × ArePushed lv n' d (with_types ts c) old new ps
IsTakenAs Taken.Gone lv n c s d s' n' old new p (binds bs m) = (n' ≡ m) × IsBoundBehind lv n c s d s' n' bs × (new ≡ old)
IsTakenAs Taken.Gone lv n c s d s' n' old new p delays = ⊥
IsTakenAs (Taken.Delayed q) lv n c s d s' n' old new p v = (v ≡ delays) × IsKeptBehind n c s d s' n' × (new ≡ old) × IsPairFor d c q p × IsPairOf (length d.terms) q
