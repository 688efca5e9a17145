-- A proof as a run over its nodes, in order: what is left to be proved, and what each node makes of it.
use Rattle.std.specs.Prelude.{◌≡◌, ℕ, suc, ◌-◌, ◌<◌, ◌≤◌, ◌⊎◌, List, [], ◌∷◌, ◌++◌, map, length, take, min, All, Some, slice_get, IsSome}
use Rattle.lp_base.specs.declared.limits.TheConstants.{RUN_LIMIT}
use Rattle.lp_calculus.specs.Types.{Ty}
use Rattle.lp_calculus.specs.Term.{Term, atom, app, eigen}
use Rattle.lp_calculus.specs.Closed.{AreClosed}
use Rattle.lp_calculus.specs.Convert.{Converts, leftmost_step, steps}
use Rattle.lp_calculus.specs.Instance.{instance_term}
use Rattle.lp_calculus.specs.Normal.{IsFormOf, nodes}
use Rattle.lp_calculus.specs.Spine.{head_of}
use Rattle.lp_calculus.specs.Typing.{type_at}
use Rattle.lp_standard.specs.Connectives.{truth, cut, two, pi_of, sigma_of}
use Rattle.lp_standard.specs.Numbers as number
use Rattle.lp_model.specs.Answers.{Query, filled}
use Rattle.lp_model.specs.Flatten.{ClauseFormula}
use Rattle.lp_model.specs.Proofs.{IsFormula, IsWitness, IsArith, IsAtomHead, IsImplication, assumed}
use Rattle.lp_cert.specs.Certified.{Certificate, Ground, Names}
use Rattle.lp_cert.specs.Shape.{IsEquation}
use Rattle.lp_cert.specs.Written.{Node, converted, trivial, pair, left_side, right_side, witness, general, assuming, equated, counted, back_to, focus_converted, focus_witness, side, premise, hit}

-- to prove a goal, to focus on a clause for a goal, to leave the newest eigenconstant, or to leave the newest assumption
pub data Job : Type 0 where
  proving : Term → Job
  focusing : (clause goal : Term) → Job
  leaving_eigen : Job
  leaving_assumed : Job

abbrev pub without_last : {A : Type 0} → List A → List A
without_last xs = take (length xs - 1) xs

-- what may hold of the types of the eigenconstants, of what is assumed, and of the jobs that are left, the next one first
abbrev pub Claim : Type 1
Claim = List Ty → List Term → List Job → Type 0

-- the node is right for the goal, and what it leaves is as claimed
abbrev pub ProvesOn : Ground → Claim → List Ty → List Term → List Job → (goal : Term) → Node → Type 0
ProvesOn g K E As js G (converted H) = IsFormula g.declared E H × Converts H G × K E As (proving H ∷ js)
ProvesOn g K E As js G trivial = ((G ≡ truth) ⊎ (G ≡ cut)) × K E As js
ProvesOn g K E As js G pair = (A : Term) × (B : Term) × (G ≡ two number.And [] A B) × K E As (proving A ∷ proving B ∷ js)
ProvesOn g K E As js G left_side = (A : Term) × (B : Term) × (G ≡ two number.Or [] A B) × K E As (proving A ∷ js)
ProvesOn g K E As js G right_side = (A : Term) × (B : Term) × (G ≡ two number.Or [] A B) × K E As (proving B ∷ js)
ProvesOn g K E As js G (witness t) = (T : Ty) × (s : Term) × (G ≡ sigma_of T s) × IsWitness g.declared E t T × K E As (proving (app s t) ∷ js)
ProvesOn g K E As js G general = (T : Ty) × (s : Term) × (G ≡ pi_of T s) × K (E ++ T ∷ []) As (proving (app s (atom (eigen (suc (length E))))) ∷ leaving_eigen ∷ js)
ProvesOn g K E As js G assuming = (D : Term) × (A : Term) × IsImplication G D A × K E (As ++ D ∷ []) (proving A ∷ leaving_assumed ∷ js)
ProvesOn g K E As js G equated = IsEquation G × K E As js
ProvesOn g K E As js G counted = IsArith G × K E As js
ProvesOn g K E As js G (back_to i ts) = (D : ClauseFormula) × (slice_get (g.clauses ++ map assumed As) i ≡ Some D) × (length ts ≡ D.type_vars) × AreClosed ts × IsAtomHead (head_of G) × K E As (focusing (instance_term (type_at ts) D.formula) G ∷ js)
ProvesOn g K E As js G (focus_converted H) = ⊥
ProvesOn g K E As js G (focus_witness t) = ⊥
ProvesOn g K E As js G (side k) = ⊥
ProvesOn g K E As js G premise = ⊥
ProvesOn g K E As js G hit = ⊥

-- the same of a focus
abbrev pub FocusesOn : Ground → Claim → List Ty → List Term → List Job → (clause goal : Term) → Node → Type 0
FocusesOn g K E As js D G (focus_converted H) = IsFormula g.declared E H × Converts H D × K E As (focusing H G ∷ js)
FocusesOn g K E As js D G (focus_witness t) = (T : Ty) × (s : Term) × (D ≡ pi_of T s) × IsWitness g.declared E t T × K E As (focusing (app s t) G ∷ js)
FocusesOn g K E As js D G (side k) = (B : Term) × (C : Term) × (D ≡ two number.And [] B C) × (((k ≡ 0) × K E As (focusing B G ∷ js)) ⊎ ((k ≡ 1) × K E As (focusing C G ∷ js)))
FocusesOn g K E As js D G premise = (A : Term) × (B : Term) × IsImplication D A B × K E As (proving A ∷ focusing B G ∷ js)
FocusesOn g K E As js D G hit = Converts D G × K E As js
FocusesOn g K E As js D G (converted H) = ⊥
FocusesOn g K E As js D G trivial = ⊥
FocusesOn g K E As js D G pair = ⊥
FocusesOn g K E As js D G left_side = ⊥
FocusesOn g K E As js D G right_side = ⊥
FocusesOn g K E As js D G (witness t) = ⊥
FocusesOn g K E As js D G general = ⊥
FocusesOn g K E As js D G assuming = ⊥
FocusesOn g K E As js D G equated = ⊥
FocusesOn g K E As js D G counted = ⊥
FocusesOn g K E As js D G (back_to i ts) = ⊥

-- the node is right for the next goal or focus, and what it leaves is as claimed
abbrev pub StepsOn : Ground → Claim → List Ty → List Term → List Job → Node → Type 0
StepsOn g K E As [] n = ⊥
StepsOn g K E As (proving G ∷ js) n = ProvesOn g K E As js G n
StepsOn g K E As (focusing D G ∷ js) n = FocusesOn g K E As js D G n
StepsOn g K E As (leaving_eigen ∷ js) n = StepsOn g K (without_last E) As js n
StepsOn g K E As (leaving_assumed ∷ js) n = StepsOn g K E (without_last As) js n

-- so are all of these, one after the other
abbrev pub RunsTo : Ground → Claim → List Ty → List Term → List Job → List Node → Type 0
RunsTo g K E As js [] = K E As js
RunsTo g K E As js (n ∷ ns) = StepsOn g (λ F Bs ks. RunsTo g K F Bs ks ns) E As js n

-- the normal form takes more than 1,000,000 contractions, or has more than 1,000,000 nodes
abbrev pub HasLargeForm : Term → Type 0
HasLargeForm t = IsSome (steps leftmost_step (suc RUN_LIMIT) t) ⊎ ((s : Term) × IsFormOf t s × (RUN_LIMIT < nodes s))

abbrev pub OneIsLarge : Term → Term → Type 0
OneIsLarge t u = HasLargeForm t ⊎ HasLargeForm u

-- of the normal forms of `t is e`, or of an order of two expressions, one is large
abbrev pub ArithNeeds : (goal : Term) → Type 0
ArithNeeds G =
    ((T : Ty) × (t : Term) × (e : Term) × (G ≡ two number.Is (T ∷ []) t e) × OneIsLarge t e) ⊎
    ((c : ℕ) × (e : Term) × (f : Term) × (number.Less ≤ c) × (c ≤ number.AtLeast) × (G ≡ two c [] e f) × OneIsLarge e f)

-- of the normal forms by which the node is compared with the goal one is large; all else is right
abbrev pub ProvingNeeds : Ground → List Ty → (goal : Term) → Node → Type 0
ProvingNeeds g E G (converted H) = IsFormula g.declared E H × OneIsLarge H G
ProvingNeeds g E G equated = (T : Ty) × (t : Term) × (u : Term) × (G ≡ two number.Equal (T ∷ []) t u) × OneIsLarge t u
ProvingNeeds g E G counted = ArithNeeds G
ProvingNeeds g E G n = ⊥

abbrev pub FocusingNeeds : Ground → List Ty → (clause goal : Term) → Node → Type 0
FocusingNeeds g E D G (focus_converted H) = IsFormula g.declared E H × OneIsLarge H D
FocusingNeeds g E D G hit = OneIsLarge D G
FocusingNeeds g E D G n = ⊥

abbrev pub Needs : Ground → Node → Claim
Needs g n E As [] = ⊥
Needs g n E As (proving G ∷ js) = ProvingNeeds g E G n
Needs g n E As (focusing D G ∷ js) = FocusingNeeds g E D G n
Needs g n E As (leaving_eigen ∷ js) = Needs g n (without_last E) As js
Needs g n E As (leaving_assumed ∷ js) = Needs g n E (without_last As) js

-- the nodes are right for the goal up to one, and this one needs a large normal form
pub record RunsIntoLarge (g : Ground) (goal : Term) (ns : List Node) : Type 0 where
  pub before : List Node
  pub node : Node
  pub behind : List Node
  pub nodes : ns ≡ before ++ node ∷ behind
  pub needs : RunsTo g (Needs g node) [] [] (proving goal ∷ []) before

-- it names an instance, and its nodes come to one that needs a large normal form
pub record NeedsLargeForm (g : Ground) (q : Query) (c : Certificate) : Type 0 where
  pub names : Names g.declared q c
  pub runs : RunsIntoLarge g (filled q c.instance) c.nodes

-- the number, from 1, is that of the first element without P, of which Q holds; numbers end at 2 ^ 32 - 1
pub record StopsAt {A : Type 0} (P Q : A → Type 0) (xs : List A) (number : ℕ) : Type 0 where
  pub place : ℕ
  pub counted : number ≡ min (suc place) 4294967295
  pub before : All P (take place xs)
  pub element : A
  pub at : slice_get xs place ≡ Some element
  pub stops : Q element
