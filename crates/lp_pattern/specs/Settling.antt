-- Settled forms by looks at the top, with indices for eigenconstants, and what the tasks that are left lead to.
use Rattle.std.specs.Prelude.{◌≡◌, ℕ, suc, ◌+◌, ◌-◌, ◌<◌, ◌≤◌, nat_eq, nat_le, nat_lt, if◌then◌else◌, false, List, [], ◌∷◌, ◌++◌, map, reverse, length, All, Option, Some, None, option_map}
use Rattle.lp_calculus.specs.Term.{Term, index, atom, abs, apply, substitute, eigen, logic}
use Rattle.lp_calculus.specs.Fill.{fill, at_eigens, abstraction}
use Rattle.lp_term.specs.Nodes.{Nodes}
use Rattle.lp_term.specs.declared.node.TermId.{TermId}
use Rattle.lp_model.specs.Patterns.{eigens}
use Rattle.lp_model.specs.Look.{an_abs, rigid, flexible, pattern_of}
use Rattle.lp_model.specs.Pair.{Closing}
use Rattle.lp_pattern.specs.declared.bindings.Bindings.{Bindings}
use Rattle.lp_pattern.specs.declared.fault.PatternRefusal.{PatternRefusal}
use Rattle.lp_pattern.specs.declared.look.Looked.{Looked}
use Rattle.lp_pattern.specs.declared.opened.Opened.{Opened}
use Rattle.lp_pattern.specs.declared.settle.Application.{Application}
use Rattle.lp_pattern.specs.declared.settle.Task.{Task}
use Rattle.lp_pattern.specs.Refusing.{IsGivenUp}
use Rattle.lp_pattern.specs.Stripping.{IsShut, read_at}
use Rattle.lp_pattern.specs.TopLooks.{top_look}
use Rattle.lp_pattern.specs.Under.{IsReading, under}

-- the beta-normal form, patterns standing on the eigenconstants themselves, where each look takes fewer than `limit` steps
mutual
  pub data Settles (limit : ℕ) : (last : ℕ) → Term → Term → Type 0 where
    settles_abs : {k : ℕ} {t v : Term} → (b u : Term) → top_look limit t ≡ Some (an_abs b) → Settles limit (suc k) (substitute (atom (eigen (suc k))) b) u → v ≡ abstraction (suc k) u → Settles limit k t v
    settles_rigid : {k : ℕ} {t v : Term} → (h : Term) → (ts us : List Term) → top_look limit t ≡ Some (rigid h ts) → SettleAll limit k ts us → v ≡ apply h us → Settles limit k t v
    settles_pattern : {k : ℕ} {t v : Term} → (y m : ℕ) → (ts : List Term) → (ks : List ℕ) → top_look limit t ≡ Some (flexible y m ts) → pattern_of limit m ts ≡ Some (Some ks) →
        v ≡ apply (atom (logic y m)) (eigens ks) → Settles limit k t v
    settles_open : {k : ℕ} {t v : Term} → (y m : ℕ) → (ts us : List Term) → top_look limit t ≡ Some (flexible y m ts) → pattern_of limit m ts ≡ Some None → SettleAll limit k ts us →
        v ≡ apply (atom (logic y m)) us → Settles limit k t v

  pub data SettleAll (limit : ℕ) : (last : ℕ) → List Term → List Term → Type 0 where
    settle_none : {k : ℕ} → SettleAll limit k [] []
    settle_more : {k : ℕ} {t v : Term} {ts vs : List Term} → Settles limit k t v → SettleAll limit k ts vs → SettleAll limit k (t ∷ ts) (v ∷ vs)

-- the index of the abstraction that was opened for an eigenconstant, below as many as are open
abbrev pub open_index : (level depth : ℕ) → ℕ → Option ℕ
open_index l d k = if nat_le k l then None else (if nat_lt d (k - l) then None else Some (d - (k - l)))

-- the index of the abstraction that a side makes for an eigenconstant. The last one is the innermost
abbrev pub side_index : List ℕ → ℕ → Option ℕ
side_index [] k = None
side_index (c ∷ cs) k = if nat_eq k c then Some (length cs) else side_index cs k

abbrev pub index_past : (depth : ℕ) → (inner outer : Option ℕ) → Option ℕ
index_past d (Some i) o = Some i
index_past d None o = option_map (λ i. d + i) o

-- the one or the other
abbrev pub index_in : List ℕ → (level depth : ℕ) → ℕ → Option ℕ
index_in cs l d k = index_past d (open_index l d k) (side_index cs k)

abbrev pub eigen_or : ℕ → Option ℕ → Term
eigen_or k None = atom (eigen k)
eigen_or k (Some i) = index i

-- a term with these indices for its eigenconstants
abbrev pub indexed_in : List ℕ → (level depth : ℕ) → Term → Term
indexed_in cs l d t = fill (at_eigens (λ k. eigen_or k (index_in cs l d k))) t

-- a head on arguments that stands as it was where it is not new
pub record IsApplication (b : Nodes) (c : Closing) (a : Application) : Type 0 where
  pub old : a.old.0 < length b.terms
  pub head : a.head.0 < length b.terms
  pub arguments : All (λ t. t.0 < length b.terms) a.arguments.items
  pub stands : a.is_new ≡ false → under b c a.old ≡ apply (under b c a.head) (map (under b c) a.arguments.items)

-- the tasks, the next one first, lead from what was made, the last one first, to this
abbrev pub Ends : (limit : ℕ) → Nodes → Closing → List ℕ → List Task → (made : List Term) → Term → Type 0
Ends m b c cs [] made r = (rest : List Term) × (made ≡ r ∷ rest)
Ends m b c cs (Task.Visit t o ∷ ts) made r =
    (v : Term) × (t.0 < length b.terms) × Settles m (o.level + o.depth) (read_at b c o.level o.depth t) v × Ends m b c cs ts (indexed_in cs o.level o.depth v ∷ made) r
Ends m b c cs (Task.Abstract old body ∷ ts) made r =
    (u : Term) × (rest : List Term) × (old.0 < length b.terms) × (body.0 < length b.terms) × (under b c old ≡ abs (under b c body)) × (made ≡ u ∷ rest) × Ends m b c cs ts (abs u ∷ rest) r
Ends m b c cs (Task.Apply a ∷ ts) made r =
    (us : List Term) × (rest : List Term) × IsApplication b c a × (made ≡ reverse us ++ rest) × (length us ≡ length a.arguments.items) × Ends m b c cs ts (apply (under b c a.head) us ∷ rest) r

-- the tasks and what was made at numbers of a bank, the next and the last one at the end
pub record IsLeft (limit : ℕ) (b : Nodes) (c : Closing) (cs : List ℕ) (tasks : List Task) (made : List TermId) (r : Term) : Type 0 where
  pub known : All (λ t. t.0 < length b.terms) made
  pub ends : Ends limit b c cs (reverse tasks) (map (under b c) (reverse made)) r

-- each task, the next one first, finds as many terms made as it takes, and one is there at the end
abbrev pub AreEnough : List Task → (made : ℕ) → Type 0
AreEnough [] n = 0 < n
AreEnough (Task.Visit t o ∷ ts) n = AreEnough ts (suc n)
AreEnough (Task.Abstract old body ∷ ts) n = (0 < n) × AreEnough ts n
AreEnough (Task.Apply a ∷ ts) n = (length a.arguments.items ≤ n) × AreEnough ts (suc (n - length a.arguments.items))

-- what the earlier tasks lead to the later ones lead to
abbrev pub Moves : (b d : Nodes) → Bindings → List ℕ → List Task → List TermId → List Task → List TermId → Type 0
Moves b d s cs ts made ts' made' = (c : Closing) → IsReading b s c → IsShut c → (limit : ℕ) → (r : Term) → IsLeft limit b c cs ts made r → IsLeft limit d c cs ts' made' r

-- settling stops at these tasks, and not for want of steps where they lead somewhere with a million steps at most
abbrev pub StopsSettling : PatternRefusal → Nodes → Bindings → List ℕ → List Task → List TermId → Type 0
StopsSettling e b s cs ts made = (c : Closing) → IsReading b s c → IsShut c → (limit : ℕ) → (r : Term) → IsGivenUp limit e (IsLeft limit b c cs ts made r)

-- what stands for eigenconstants
abbrev pub eigens_in : List ℕ → (level depth : ℕ) → List ℕ → List Term
eigens_in cs l d ks = map (λ k. eigen_or k (index_in cs l d k)) ks

-- parts that are to be visited
abbrev pub visit_tasks : Opened → List TermId → List Task
visit_tasks o ids = map (λ t. Task.Visit t o) ids

-- what a head becomes
abbrev pub IsHeadIn : (b d : Nodes) → List ℕ → (level depth : ℕ) → (head made : TermId) → Type 0
IsHeadIn b d cs l k head made = (c : Closing) → under d c made ≡ indexed_in cs l k (read_at b c l k head)

-- the arguments are to be visited, and then a head is to be put on them
abbrev pub IsPushed : Looked → (head : TermId) → Opened → (old new : List Task) → Type 0
IsPushed r head o old new =
    (a : Application) × (a.old ≡ r.whole) × (a.is_new ≡ false → head.0 ≡ r.top.0) × (a.head ≡ head) × (a.arguments.items ≡ r.arguments.items) ×
    (new ≡ (old ++ Task.Apply a ∷ []) ++ reverse (visit_tasks o r.arguments.items))
