-- What a node makes of the work, and what holds of all that is left.
use Rattle.std.specs.Prelude.{◌≡◌, ℕ, ◌<◌, List, [], ◌∷◌, ◌++◌, length, All}
use Rattle.lp_calculus.specs.Closed.{AllAtoms}
use Rattle.lp_calculus.specs.Fill.{Within}
use Rattle.lp_term.specs.Nodes.{Nodes, Extends, tree}
use Rattle.lp_term.specs.declared.node.TermId.{TermId}
use Rattle.lp_calculus.specs.Types.{Ty}
use Rattle.lp_calculus.specs.Term.{Term}
use Rattle.lp_model.specs.Proofs.{IsArith}
use Rattle.lp_cert.specs.Run.{ArithNeeds, OneIsLarge, Claim, Job, Needs, StepsOn, focusing, leaving_assumed, leaving_eigen, proving, without_last}
use Rattle.lp_cert.specs.Same.{terms_in, types_in}
use Rattle.lp_cert.specs.Standing.{IsClauseInside}
use Rattle.lp_cert.specs.Written.{Node}
use Rattle.lp_cert.specs.inner.Left.{ground_in, jobs_of}
use Rattle.lp_cert.specs.inner.Named.{HasClosedTypes, IsSettled}
use Rattle.lp_cert.specs.declared.work.Task.{Task}
use Rattle.lp_cert.specs.declared.work.Task.TheVariants as task
use Rattle.lp_cert.specs.declared.work.Turn.{Turn}
use Rattle.lp_cert.specs.declared.work.Turn.TheVariants as turn
use Rattle.lp_cert.specs.declared.work.Work.{Work}

-- the term stands in the bank, and has neither a loose index nor a type variable
abbrev pub IsReady : Nodes → TermId → Type 0
IsReady b t = (t.0 < length b.terms) × Within HasClosedTypes 0 (tree b t.0)

abbrev pub IsTaskReady : Nodes → Task → Type 0
IsTaskReady b (task.Prove goal) = IsReady b goal
IsTaskReady b (task.Focus clause goal) = IsReady b clause × IsReady b goal
IsTaskReady b task.LeaveEigen = Unit {0}
IsTaskReady b task.LeaveAssumed = Unit {0}

pub record IsReadyWork (b : Nodes) (w : Work) : Type 0 where
  pub settled : IsSettled b w
  pub clauses : All (IsClauseInside b) w.theory.clauses.now
  pub assumed : All (IsReady b) w.assumed.items
  pub tasks : All (IsTaskReady b) w.tasks.items

-- the first term of each pair has no type variable
abbrev pub ArePlain : Nodes → List (TermId × TermId) → Type 0
ArePlain b ps = All (λ p. AllAtoms HasClosedTypes (tree b p.0.0)) ps

-- one more task
pub record Pushes (old new : Work) (t : Task) : Type 0 where
  pub theory : new.theory ≡ old.theory
  pub eigens : new.eigens ≡ old.eigens
  pub assumed : new.assumed ≡ old.assumed
  pub tasks : new.tasks.items ≡ old.tasks.items ++ t ∷ []

-- whether it holds, or a normal form of one of the terms is large
abbrev pub Decides : (P : Type 0) → (t u : Term) → Turn → Type 0
Decides P t u turn.On = P
Decides P t u turn.No = P → ⊥
Decides P t u turn.Deep = OneIsLarge t u

abbrev pub IsComputed : (goal : Term) → Turn → Type 0
IsComputed G turn.On = IsArith G
IsComputed G turn.No = IsArith G → ⊥
IsComputed G turn.Deep = ArithNeeds G

-- this is what is left, read in a bank
abbrev pub At : Nodes → Work → Claim
At b w E As js = (E ≡ types_in b w.eigens.items) × (As ≡ terms_in b w.assumed.items) × (js ≡ jobs_of b w.tasks.items)

abbrev pub Always : Type 0 → Claim
Always C E As js = C

abbrev pub IsSteppedFrom : (now : Nodes) → (old new : Work) → (Nodes → List Job) → (Nodes → Node) → Turn → Type 0
IsSteppedFrom now old new js n turn.On =
    (new.theory ≡ old.theory) × IsReadyWork now new × ((b : Nodes) → Extends now b → StepsOn (ground_in b old.theory) (At b new) (types_in b old.eigens.items) (terms_in b old.assumed.items) (js b) (n b))
IsSteppedFrom now old new js n turn.No = (b : Nodes) → Extends now b → StepsOn (ground_in b old.theory) (Always (Unit {0})) (types_in b old.eigens.items) (terms_in b old.assumed.items) (js b) (n b) → ⊥
IsSteppedFrom now old new js n turn.Deep = (b : Nodes) → Extends now b → Needs (ground_in b old.theory) (n b) (types_in b old.eigens.items) (terms_in b old.assumed.items) (js b)

-- a node that stands leaves what is left now; one that does not leaves nothing; or it needs a large normal form
abbrev pub IsStepped : (now : Nodes) → (old new : Work) → (Nodes → Node) → Turn → Type 0
IsStepped now old new n t = IsSteppedFrom now old new (λ b. jobs_of b old.tasks.items) n t

-- the same where this job stands before the others
abbrev pub IsTurned : (now : Nodes) → (old new : Work) → (Nodes → Job) → (Nodes → Node) → Turn → Type 0
IsTurned now old new j n t = IsSteppedFrom now old new (λ b. j b ∷ jobs_of b old.tasks.items) n t

-- what is left, behind what is to be left before the next goal or focus
pub record Rest : Type 0 where
  pub eigens : List Ty
  pub assumed : List Term
  pub jobs : List Job

abbrev pub rest_of : List Ty → List Term → List Job → Rest
rest_of E As [] = record { eigens = E; assumed = As; jobs = [] }
rest_of E As (proving G ∷ js) = record { eigens = E; assumed = As; jobs = proving G ∷ js }
rest_of E As (focusing D G ∷ js) = record { eigens = E; assumed = As; jobs = focusing D G ∷ js }
rest_of E As (leaving_eigen ∷ js) = rest_of (without_last E) As js
rest_of E As (leaving_assumed ∷ js) = rest_of E (without_last As) js

abbrev pub rest_in : Nodes → Work → Rest
rest_in b w = rest_of (types_in b w.eigens.items) (terms_in b w.assumed.items) (jobs_of b w.tasks.items)

-- with these jobs before what is left
abbrev pub rest_with : Nodes → Work → List Job → Rest
rest_with b w js = record { eigens = types_in b w.eigens.items; assumed = terms_in b w.assumed.items; jobs = js ++ jobs_of b w.tasks.items }
