-- Assumed clauses: for which clauses of the definition the numbers of assumptions stand, and what the trees find of them.
use Rattle.std.specs.Prelude.{◌≡◌, ℕ, ◌<◌, ◌≤◌, ◌⊎◌, nat_eq, Bool, false, List, [], ◌∷◌, ◌++◌, map, filter, length, All, Option, None, Some, slice_get}
use Rattle.lp_calculus.specs.Instance.{instance_term}
use Rattle.lp_calculus.specs.Spine.{head_of}
use Rattle.lp_calculus.specs.Term.{Term, atom, constant, eigen}
use Rattle.lp_calculus.specs.Types.{instance}
use Rattle.lp_lemmas.specs.Each.{EachOf}
use Rattle.lp_term.specs.Nodes.{Nodes, Extends}
use Rattle.lp_model.specs.Branch.{Answer, Task, both_written, nothing_written}
use Rattle.lp_model.specs.Flat.{Clause, clause, Clauses, Written, collect_clauses, instantiate_clauses, map_clause, map_written, same_type, type_clause, type_clauses, written_in_clauses}
use Rattle.lp_model.specs.Index.{instantiate, lifted}
use Rattle.lp_model.specs.Skeleton.{View}
use Rattle.lp_pattern.specs.Growing.{GoesOn}
use Rattle.lp_plain.specs.declared.frame.Assumption.{Assumption}
use Rattle.lp_plain.specs.declared.frame.Frame.{Frame}
use Rattle.lp_plain.specs.declared.frame.Place.{Place}
use Rattle.lp_plain.specs.declared.head.Head.{Head}
use Rattle.lp_plain.specs.declared.head.Head.TheVariants as head
use Rattle.lp_plain.specs.declared.instance.Values.{Values}
use Rattle.lp_plain.specs.declared.machine.Machine.{Machine}
use Rattle.lp_plain.specs.declared.newest.Newest.{Newest}
use Rattle.lp_plain.specs.declared.openness.Standing.{Standing}
use Rattle.lp_plain.specs.declared.table.Table.{Table}
use Rattle.lp_plain.specs.declared.types.Renewal.{Renewal}
use Rattle.lp_plain.specs.Candidates.{IsChain, back, in_order}
use Rattle.lp_plain.specs.Entries.{Around, ArePartsOf, HasValues, KeepsGoals}
use Rattle.lp_plain.specs.Keeping.{KeepsCourse}
use Rattle.lp_plain.specs.Newest.{IsNewest}
use Rattle.lp_plain.specs.Renewal.{renewing}
use Rattle.lp_plain.specs.Scopes.{Blocks, blocks_of}
use Rattle.lp_plain.specs.Within.{StandsIn}
use Rattle.lp_plain.specs.Tables.{IsNumbered, IsRule, Never, shown}

-- a clause with these values for the variables around it and new numbers for the type variables around it; clauses so
abbrev pub clause_in : (ℕ → Term) → Renewal → Clause → Clause
clause_in σ r c = map_clause lifted instantiate same_type σ (type_clause (renewing r) c)

abbrev pub clauses_in : (ℕ → Term) → Renewal → Clauses → Clauses
clauses_in σ r cs = instantiate_clauses σ (type_clauses (renewing r) cs)

abbrev pub written_at : (ℕ → Term) → Renewal → Written → Written
written_at σ r w = map_written (instantiate σ) same_type (map_written (instance_term (renewing r)) (instance (renewing r)) w)

-- the head of a clause, where it is a constant or an eigenconstant
abbrev pub head_term : Term → Option Head
head_term (atom (constant c ts)) = Some (head.Constant c)
head_term (atom (eigen k)) = Some (head.Eigen k)
head_term t = None

abbrev pub head_at : Clause → Option Head
head_at (clause n vs h body) = head_term (head_of h)

abbrev pub is_head : Head → Option Head → Bool
is_head h None = false
is_head (head.Constant c) (Some (head.Constant d)) = nat_eq d c
is_head (head.Constant c) (Some (head.Eigen k)) = false
is_head (head.Eigen k) (Some (head.Constant c)) = false
is_head (head.Eigen k) (Some (head.Eigen l)) = nat_eq l k

abbrev pub is_for : Head → Clause → Bool
is_for h c = is_head h (head_at c)

-- where the numbers of a place are looked up
pub record Lists : Type 0 where
  pub bank : Nodes
  pub table : Table
  pub blocks : Blocks
  pub assumptions : List Assumption
  pub newest : List Newest
  pub standings : List Standing

abbrev pub lists_of : Machine → Lists
lists_of m = record { bank = m.bank; table = m.table; blocks = blocks_of m.scopes; assumptions = m.assumptions.items; newest = m.newest.items; standings = m.standings.items }

-- lists to which more came
pub record ListsGrow (k l : Lists) : Type 0 where
  pub bank : Extends k.bank l.bank
  pub table : l.table ≡ k.table
  pub blocks : GoesOn k.blocks.blocks l.blocks.blocks
  pub values : GoesOn k.blocks.values l.blocks.values
  pub assumptions : GoesOn k.assumptions l.assumptions
  pub newest : GoesOn k.newest l.newest
  pub standings : GoesOn k.standings l.standings

-- the assumption of this number stands for the clause
pub record IsAssumed (l : Lists) (k : ℕ) (c : Clause) : Type 0 where
  pub assumption : Assumption
  pub written : Clause
  pub values : ℕ → Term
  pub there : slice_get l.assumptions k ≡ Some assumption
  pub rule : IsRule l.bank Never (shown l.table) assumption.rule written
  pub scope : HasValues l.bank l.blocks assumption.values.scope values
  pub is : c ≡ clause_in values assumption.values.types written

-- so do these for these
abbrev pub AreAssumed : Lists → List ℕ → List Clause → Type 0
AreAssumed l [] [] = Unit {0}
AreAssumed l [] (c ∷ cs) = ⊥
AreAssumed l (k ∷ ks) [] = ⊥
AreAssumed l (k ∷ ks) (c ∷ cs) = IsAssumed l k c × AreAssumed l ks cs

-- for each assumption the one of the same head before it
abbrev pub links : List Assumption → List (Option ℕ)
links xs = in_order back 0 (map (λ (x : Assumption). x.older) xs)

-- the tree finds the first of the clauses that have this head, and the links lead to the others in order
pub record AreUnder (l : Lists) (tree : Option ℕ) (h : Head) (cs : List Clause) : Type 0 where
  pub newest : Option ℕ
  pub numbers : List ℕ
  pub found : IsNewest l.newest tree h newest
  pub chain : IsChain (links l.assumptions) newest numbers
  pub clauses : AreAssumed l numbers (filter (is_for h) cs)

-- the head of a clause is a constant or an eigenconstant
abbrev pub HasHead : Clause → Type 0
HasHead c = (h : Head) × (head_at c ≡ Some h)

-- each clause has such a head, and under each head the tree finds those that have it
abbrev pub HasAssumed : Lists → (tree : Option ℕ) → List Clause → Type 0
HasAssumed l tree cs = EachOf HasHead cs × ((h : Head) → AreUnder l tree h cs)

-- a number is one of the first n, where there is one
abbrev pub IsNumberIn : ℕ → Option ℕ → Type 0
IsNumberIn n None = Unit {0}
IsNumberIn n (Some i) = i < n

-- what is written in the clauses of a standing, and in those before it, which have older numbers
pub data HasWritten (l : Lists) : Option ℕ → Written → Type 0 where
  no_standing : {o : Option ℕ} {w : Written} → o ≡ None → w ≡ nothing_written → HasWritten l o w
  a_standing : {o : Option ℕ} {w : Written} (i : ℕ) (s : Standing) (cs : Clauses) (σ : ℕ → Term) (before : Written) → o ≡ Some i → slice_get
      l.standings i ≡ Some s → IsNumberIn i s.older → IsNumbered (shown l.table).frees s.free (λ f. collect_clauses f 0 cs) →
      HasValues l.bank l.blocks s.values.scope σ → HasWritten l s.older before → w ≡ both_written (written_at σ s.values.types (written_in_clauses cs)) before → HasWritten l o w

-- the numbers of a place stand for its assumptions and for what is written in them
pub record IsPlaceAt (l : Lists) (a : Around) (p : Place) : Type 0 where
  pub tree : IsNumberIn (length l.newest) p.assumed
  pub standing : IsNumberIn (length l.standings) p.standing
  pub assumed : HasAssumed l p.assumed (a.assumed p.assumed)
  pub written : HasWritten l p.standing (a.written p.standing)

-- so do those of all goals
abbrev pub ArePlaced : Machine → Around → Type 0
ArePlaced m a = All (λ (f : Frame). IsPlaceAt (lists_of m) a f.place) m.frames.items

-- what stood for the first trees and standings stands for them still
pub record IsLaterAround (trees standings : ℕ) (a d : Around) : Type 0 where
  pub assumed : (o : Option ℕ) → IsNumberIn trees o → d.assumed o ≡ a.assumed o
  pub written : (o : Option ℕ) → IsNumberIn standings o → d.written o ≡ a.written o
  pub mark : d.mark ≡ a.mark

-- a goal is taken apart, new numbers stand for what it assumes, and all that is kept stands in the bank
abbrev pub AssumesFor : (old new : Machine) → Around → View Task Answer → Type 0
AssumesFor old new a v = (d : Around) × IsLaterAround (length old.newest.items) (length old.standings.items) a d × ArePlaced new d × StandsIn new × ArePartsOf old new d v

-- assumptions and trees are as they were
pub record KeepsAssumed (old new : Machine) : Type 0 where
  pub assumptions : new.assumptions ≡ old.assumptions
  pub newest : new.newest ≡ old.newest

-- assumptions and the nodes of their trees only come
pub record AssumesMore (old new : Machine) : Type 0 where
  pub goals : KeepsGoals old new
  pub course : KeepsCourse old new
  pub frames : new.frames ≡ old.frames
  pub assumptions : GoesOn old.assumptions.items new.assumptions.items
  pub newest : GoesOn old.newest.items new.newest.items

-- the clause of this number is the newest assumption, and the root finds it for its head
pub record IsOneMore (old new : Machine) (rule : ℕ) (values : Values) (tree : Option ℕ) (h : Head) (root : ℕ) : Type 0 where
  pub more : AssumesMore old new
  pub older : Option ℕ
  pub before : (f : Option ℕ) → IsNewest old.newest.items tree h f → older ≡ f
  pub assumption : slice_get new.assumptions.items (length old.assumptions.items) ≡ Some (record { rule = rule; values = values; older = older })
  pub there : IsNewest new.newest.items (Some root) h (Some (length old.assumptions.items))
  pub others : (other : Head) (f : Option ℕ) → (other ≡ h → ⊥) → IsNewest old.newest.items tree other f → IsNewest new.newest.items (Some root) other f
  pub fresh : length old.newest.items ≤ root
  pub within : root < length new.newest.items

-- the tree is the one before where no clause came, else a new one
abbrev pub IsTreeOf : (old new : Machine) → (from to : ℕ) → (before tree : Option ℕ) → Type 0
IsTreeOf old new from to before tree = ((tree ≡ before) × (to ≤ from)) ⊎ ((i : ℕ) × (tree ≡ Some i) × (length old.newest.items ≤ i) × (i < length new.newest.items))

-- a standing more, of this number
pub record IsStood (old new : Machine) (free : ℕ) (p : Place) (number : ℕ) : Type 0 where
  pub bank : new.bank ≡ old.bank
  pub index : new.index ≡ old.index
  pub table : new.table ≡ old.table
  pub scopes : new.scopes ≡ old.scopes
  pub frames : new.frames ≡ old.frames
  pub course : KeepsCourse old new
  pub assumed : KeepsAssumed old new
  pub counted : number ≡ length old.standings.items
  pub more : new.standings.items ≡ old.standings.items ++ record { free = free; values = p.values; older = p.standing } ∷ []

-- a frame's goals have the assumptions of the place
abbrev pub NamesAsIn : Place → Frame → Type 0
NamesAsIn p f = (f.place.assumed ≡ p.assumed) × (f.place.standing ≡ p.standing)

-- frames came with the assumptions of the place
abbrev pub HasFramesAt : (old new : Machine) → Place → Type 0
HasFramesAt old new p = (more : List Frame) × (new.frames.items ≡ old.frames.items ++ more) × All (NamesAsIn p) more

-- goals are put in front that have the assumptions of the place, and nothing is lost
pub record GrowsAt (old new : Machine) (p : Place) : Type 0 where
  pub lists : ListsGrow (lists_of old) (lists_of new)
  pub frames : HasFramesAt old new p
  pub index : new.index ≡ old.index
  pub denied : new.denied ≡ old.denied

-- goals are put in front, and nothing is lost
pub record GrowsOn (old new : Machine) : Type 0 where
  pub lists : ListsGrow (lists_of old) (lists_of new)
  pub frames : GoesOn old.frames.items new.frames.items
  pub index : new.index ≡ old.index
  pub denied : new.denied ≡ old.denied

-- no frame more, or one of this place
abbrev pub HasFrameAt : (old new : Machine) → Place → Type 0
HasFrameAt old new p = (new.frames.items ≡ old.frames.items) ⊎ ((f : Frame) × (f.place ≡ p) × (new.frames.items ≡ old.frames.items ++ f ∷ []))
