-- What the code tells of an atomic goal, against the numbers of the relations.
use Rattle.std.specs.Prelude.{◌≡◌, ◌<◌, ℕ, Bool, true, false, List, [], ◌∷◌, Option, Some, None}
use Rattle.lp_base.specs.declared.compare.Compare.{Compare}
use Rattle.lp_base.specs.declared.compare.Compare.TheVariants.{Less, Greater, AtMost, AtLeast}
use Rattle.lp_calculus.specs.Types.{Ty}
use Rattle.lp_calculus.specs.Term.{Term, atom, constant, eigen, logic}
use Rattle.lp_calculus.specs.Spine.{head_of, arguments}
use Rattle.lp_standard.specs.Constants.{numbered, IsOrder}
use Rattle.lp_standard.specs.Numbers as number
use Rattle.lp_standard.specs.declared.constant.Constant.{Constant}
use Rattle.lp_standard.specs.declared.constant.Constant.TheVariants as fixed
use Rattle.lp_term.specs.Nodes.{Nodes, tree}
use Rattle.lp_term.specs.declared.node.TermId.{TermId}
use Rattle.lp_plain.specs.declared.form.Form.{Form}
use Rattle.lp_plain.specs.declared.form.Form.TheVariants as form
use Rattle.lp_plain.specs.declared.head.Head.TheVariants as head

abbrev pub order_number : Compare → ℕ
order_number Less = number.Less
order_number Greater = number.Greater
order_number AtMost = number.AtMost
order_number AtLeast = number.AtLeast

-- the first of the terms, if there is one
abbrev pub IsFirst : Nodes → List Term → Option TermId → Type 0
IsFirst b [] o = o ≡ None
IsFirst b (t ∷ ts) o = (id : TermId) × (o ≡ Some id) × (tree b id.0 ≡ t)

-- the goal is this constant on these two terms
abbrev pub IsRelation : Nodes → Term → (constant : ℕ) → (left right : TermId) → Type 0
IsRelation b t c l r = (ts : List Ty) × (head_of t ≡ atom (constant c ts)) × (arguments t ≡ tree b l.0 ∷ tree b r.0 ∷ [])

-- equality, arithmetic and the orders are no calls
abbrev pub IsCall : (constant : ℕ) → List Term → Type 0
IsCall c (l ∷ r ∷ []) = (c ≡ number.Equal → ⊥) × (c ≡ number.Is → ⊥) × (IsOrder c → ⊥)
IsCall c ts = Unit {0}

-- a constant, an eigenconstant or a logic variable
abbrev pub is_named : Term → Bool
is_named (atom (constant c ts)) = true
is_named (atom (eigen k)) = true
is_named (atom (logic x l)) = true
is_named _ = false

-- the form says what the goal is
abbrev pub IsForm : Nodes → Term → Form → Type 0
IsForm b t (form.Equal l r) = IsRelation b t number.Equal l r
IsForm b t (form.Is l r) = IsRelation b t number.Is l r
IsForm b t (form.Order o l r) = IsRelation b t (order_number o) l r
IsForm b t (form.Call (head.Constant c) o) = (ts : List Ty) × (head_of t ≡ atom (constant c ts)) × IsCall c (arguments t) × IsFirst b (arguments t) o
IsForm b t (form.Call (head.Eigen k) o) = (head_of t ≡ atom (eigen k)) × IsFirst b (arguments t) o
IsForm b t form.Flexible = (x : ℕ) × (l : ℕ) × (head_of t ≡ atom (logic x l))
IsForm b t form.Other = is_named (head_of t) ≡ false

-- its terms are among so many
abbrev pub StandsForm : ℕ → Form → Type 0
StandsForm n (form.Equal l r) = (l.0 < n) × (r.0 < n)
StandsForm n (form.Is l r) = (l.0 < n) × (r.0 < n)
StandsForm n (form.Order o l r) = (l.0 < n) × (r.0 < n)
StandsForm n (form.Call h o) = (u : TermId) → o ≡ Some u → u.0 < n
StandsForm n form.Flexible = Unit {0}
StandsForm n form.Other = Unit {0}

-- what the code tells by a constant and its arguments

abbrev pub relation_by : Constant → (left right : TermId) → Option Form
relation_by fixed.Equal l r = Some (form.Equal l r)
relation_by fixed.Is l r = Some (form.Is l r)
relation_by fixed.Less l r = Some (form.Order Less l r)
relation_by fixed.Greater l r = Some (form.Order Greater l r)
relation_by fixed.AtMost l r = Some (form.Order AtMost l r)
relation_by fixed.AtLeast l r = Some (form.Order AtLeast l r)
relation_by _ l r = None

abbrev pub or_call : ℕ → TermId → Option Form → Form
or_call n l None = form.Call (head.Constant n) (Some l)
or_call n l (Some f) = f

abbrev pub by_numbered : ℕ → (left right : TermId) → Option Constant → Form
by_numbered n l r None = form.Call (head.Constant n) (Some l)
by_numbered n l r (Some c) = or_call n l (relation_by c l r)

abbrev pub by_two : ℕ → (left right : TermId) → Form
by_two n l r = by_numbered n l r (numbered n)

abbrev pub by_constant : ℕ → List TermId → Form
by_constant n [] = form.Call (head.Constant n) None
by_constant n (a ∷ []) = form.Call (head.Constant n) (Some a)
by_constant n (a ∷ b ∷ []) = by_two n a b
by_constant n (a ∷ b ∷ c ∷ ids) = form.Call (head.Constant n) (Some a)
