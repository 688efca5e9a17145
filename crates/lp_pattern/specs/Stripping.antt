-- Terms below eigenconstants that stand for their free indices, and the eigenconstants to which arguments come.
use Rattle.std.specs.Prelude.{◌≡◌, ℕ, suc, ◌+◌, ◌-◌, nat_eq, nat_lt, Bool, true, false, if◌then◌else◌, List, [], ◌∷◌, ◌++◌, Option, Some, None}
use Rattle.lp_calculus.specs.Term.{Term, index, atom, abs, app, shift, eigen, constant, integer, text, logic, param}
use Rattle.lp_calculus.specs.Convert.{steps}
use Rattle.lp_calculus.specs.Normal.{eta_normal}
use Rattle.lp_calculus.proofs.Sigma.{subst}
use Rattle.lp_term.specs.Nodes.{Nodes, tree}
use Rattle.lp_term.specs.declared.node.TermId.{TermId}
use Rattle.lp_term.specs.declared.reduce.TermRefusal.{TermRefusal}
use Rattle.lp_model.specs.Eigens.{beta_normal, eigen_of, as_eigen}
use Rattle.lp_model.specs.Look.{pattern_of, weak_step}
use Rattle.lp_model.specs.Pair.{Closing}
use Rattle.lp_pattern.specs.declared.look.Head.{Head}
use Rattle.lp_pattern.specs.declared.look.Looked.{Looked}
use Rattle.lp_pattern.specs.declared.patterns.Arguments.{Arguments}
use Rattle.lp_pattern.specs.declared.patterns.Name.{Name}
use Rattle.lp_pattern.specs.declared.patterns.Wanted.{Wanted}
use Rattle.lp_pattern.specs.Under.{under}

-- what an index stands for below abstractions that were opened, of which the outermost is the eigenconstant of the level plus one
abbrev pub opens : (level depth : ℕ) → ℕ → Term
opens l d i = if nat_lt i d then atom (eigen (l + (d - i))) else index (i - d)

-- a closing by terms without loose indices
abbrev pub IsShut : Closing → Type 0
IsShut c = (x l : ℕ) → shift 0 1 (c.terms x l) ≡ c.terms x l

abbrev pub IsNoAbstraction : Head → Type 0
IsNoAbstraction (Head.Abstraction b) = ⊥
IsNoAbstraction (Head.Variable x l) = Unit {0}
IsNoAbstraction Head.Rigid = Unit {0}

-- steps at the top and n abstractions lead there
pub data Strips : ℕ → Term → Term → Type 0 where
  stop : {t s : Term} → (k : ℕ) → steps weak_step k t ≡ Some s → Strips 0 t s
  strip : {n : ℕ} → {t s : Term} → (k : ℕ) → (b : Term) → steps weak_step k t ≡ Some (abs b) → Strips n b s → Strips (suc n) t s

-- a beta-normal form is reached in fewer than m steps
abbrev pub HasForm : ℕ → Term → Type 0
HasForm m t = (s : Term) × (beta_normal m t ≡ Some s)

abbrev pub HasNoForm : ℕ → Term → TermRefusal → Type 0
HasNoForm m t (TermRefusal.Deep n) = beta_normal m t ≡ None
HasNoForm m t TermRefusal.Memory = Unit {0}

-- its beta-eta form is x
abbrev pub Comes : ℕ → Term → Term → Type 0
Comes m t x = (s : Term) × (beta_normal m t ≡ Some s) × (eta_normal s ≡ x)

-- an index or an eigenconstant
abbrev pub is_name : Term → Bool
is_name (index i) = true
is_name (atom (constant c ts)) = false
is_name (atom (integer z)) = false
is_name (atom (text s)) = false
is_name (atom (eigen k)) = true
is_name (atom (logic x l)) = false
is_name (atom (param k t)) = false
is_name (abs b) = false
is_name (app t u) = false

abbrev pub name_term : Name → Term
name_term (Name.Eigen k) = atom (eigen k)
name_term (Name.Index i) = index i

abbrev pub IsNameOf : Option Name → Term → Type 0
IsNameOf None t = is_name t ≡ false
IsNameOf (Some name) t = t ≡ name_term name

-- a name below n abstractions
abbrev pub name_below : ℕ → Term → Term
name_below n (index i) = index (i + n)
name_below n (atom a) = atom a
name_below n (abs b) = abs b
name_below n (app t u) = app t u

-- the eigenconstant that a name is n abstractions further out
abbrev pub eigen_past : ℕ → (ℕ → Term) → Term → Option ℕ
eigen_past n σ (index i) = if nat_lt i n then None else eigen_of (σ (i - n))
eigen_past n σ (atom a) = eigen_of (atom a)
eigen_past n σ (abs b) = None
eigen_past n σ (app t u) = None

-- a name is the index at a place n abstractions further out
abbrev pub is_at : (place n : ℕ) → Term → Bool
is_at place n (index i) = nat_eq i (place + n)
is_at place n (atom a) = false
is_at place n (abs b) = false
is_at place n (app t u) = false

-- arguments that are to come to the indices below n, the first of them to the greatest
abbrev pub wanted_at : ℕ → List TermId → List Wanted
wanted_at n [] = []
wanted_at n (t ∷ ts) = record { term = t; place = n - 1 } ∷ wanted_at (n - 1) ts

abbrev pub AllFormed : ℕ → Nodes → Closing → List Wanted → Type 0
AllFormed m b c [] = Unit {0}
AllFormed m b c (w ∷ ws) = HasForm m (under b c w.term) × AllFormed m b c ws

abbrev pub AllCome : ℕ → Nodes → Closing → List Wanted → Type 0
AllCome m b c [] = Unit {0}
AllCome m b c (w ∷ ws) = Comes m (under b c w.term) (index w.place) × AllCome m b c ws

-- a term comes to a name exactly where its head is this name, and each of these arguments comes to its index
pub record IsNamed (m : ℕ) (t : Term) (b : Nodes) (c : Closing) (name : Term) (n : ℕ) (ws : List Wanted) : Type 0 where
  pub formed : AllFormed m b c ws
  pub there : (x : Term) → is_name x ≡ true → Comes m t x → (name_below n x ≡ name) × AllCome m b c ws
  pub back : (x : Term) → is_name x ≡ true → name_below n x ≡ name → AllCome m b c ws → Comes m t x

abbrev pub IsStripped : ℕ → Term → Nodes → Closing → Option (Name × ℕ) → (old new : List Wanted) → Type 0
IsStripped m t b c None old new = (x : Term) → is_name x ≡ true → Comes m t x → ⊥
IsStripped m t b c (Some p) old new = (ws : List Wanted) × (new ≡ old ++ ws) × IsNamed m t b c (name_term p.0) p.1 ws

-- a term is, or is not, to come to an index where the arguments that are put behind the others come to theirs
abbrev pub IsTaken : ℕ → Term → (place : ℕ) → Nodes → Closing → Bool → (old new : List Wanted) → Type 0
IsTaken m t place b c false old new = Comes m t (index place) → ⊥
IsTaken m t place b c true old new = (ws : List Wanted) × (new ≡ old ++ ws) × AllFormed m b c ws × (AllCome m b c ws → Comes m t (index place)) × (Comes m t (index place) → AllCome m b c ws)

-- a term at a number below abstractions that were opened
abbrev pub read_at : Nodes → Closing → (level depth : ℕ) → TermId → Term
read_at b c l d t = subst (opens l d) (under b c t)

-- a head without arguments
abbrev pub IsAlone : Nodes → Looked → (ℕ → Term) → Option ℕ → Type 0
IsAlone b r σ o = o ≡ (elim r.arguments.items [ [] ↦ eigen_of (subst σ (tree b r.top.0)) | t ∷ ts ↦ None ])

-- where the definition says to which eigenconstant a term comes it says this
abbrev pub IsEigen : ℕ → Term → Option ℕ → Type 0
IsEigen m t o = (p : Option ℕ) → as_eigen m t ≡ Some p → p ≡ o

abbrev pub HasNoEigen : ℕ → Term → TermRefusal → Type 0
HasNoEigen m t (TermRefusal.Deep n) = as_eigen m t ≡ None
HasNoEigen m t TermRefusal.Memory = Unit {0}

abbrev pub eigens_of : Option Arguments → Option (List ℕ)
eigens_of None = None
eigens_of (Some a) = Some a.eigens.items

-- where the definition says whether a variable is a pattern it says this
abbrev pub IsPattern : (m level : ℕ) → List Term → Option Arguments → Type 0
IsPattern m l ts o = (p : Option (List ℕ)) → pattern_of m l ts ≡ Some p → p ≡ eigens_of o

abbrev pub HasNoPattern : (m level : ℕ) → List Term → TermRefusal → Type 0
HasNoPattern m l ts (TermRefusal.Deep n) = pattern_of m l ts ≡ None
HasNoPattern m l ts TermRefusal.Memory = Unit {0}
