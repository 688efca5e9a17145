-- What is left to do of a typing, and the types that it comes to.
use Rattle.std.specs.Prelude.{◌≡◌, ℕ, ◌<◌, List, [], ◌∷◌, ◌++◌, map, reverse, length, All, Option, Bool, true}
use Rattle.lp_calculus.specs.Types.{Ty, arrow, instance}
use Rattle.lp_calculus.specs.Term.{Term, Atom}
use Rattle.lp_calculus.specs.Closed.{AllAtoms, AreClosed}
use Rattle.lp_calculus.specs.Typing.{HasType, atom_type}
use Rattle.lp_type_laws.specs.Equations.{Below}
use Rattle.lp_term.specs.Nodes.{Nodes, Extends, tree, type_tree}
use Rattle.lp_term.specs.declared.node.TypeId.{TypeId}
use Rattle.lp_type_unify.specs.declared.bindings.Pair.{Pair}
use Rattle.lp_model.specs.Proofs.{under}
use Rattle.lp_model.specs.Readings.{declared_by}
use Rattle.lp_cert.specs.Inside.{AreDeclaredInside}
use Rattle.lp_cert.specs.Same.{types_in}
use Rattle.lp_cert.specs.inner.Named.{HasClosedTypes}
use Rattle.lp_cert.specs.declared.typing.Task.{Task}
use Rattle.lp_cert.specs.declared.typing.Task.TheVariants as task
use Rattle.lp_cert.specs.declared.typing.Typing.{Typing}

pub data Step : Type 0 where
  visiting : Term → Step
  closing : Step
  applying : Step

-- with these types of indices, and of the terms so far, the newest first, the steps can be done and leave T as the newest type
abbrev pub Comes : (τ : Atom → Option Ty) → (C S : List Ty) → List Step → (T : Ty) → Type 0
Comes τ C S [] T = (R : List Ty) × (S ≡ T ∷ R)
Comes τ C S (visiting t ∷ js) T = (A : Ty) × HasType τ C t A × Comes τ C (A ∷ S) js T
Comes τ C S (closing ∷ js) T = (A : Ty) × (B : Ty) × (D : List Ty) × (R : List Ty) × (C ≡ A ∷ D) × (S ≡ B ∷ R) × Comes τ D (arrow A B ∷ R) js T
Comes τ C S (applying ∷ js) T = (A : Ty) × (B : Ty) × (R : List Ty) × (S ≡ A ∷ arrow A B ∷ R) × Comes τ C (B ∷ R) js T

-- the arguments of a head, each visited and applied
abbrev pub argument_steps : List Term → List Step
argument_steps [] = []
argument_steps (u ∷ us) = visiting u ∷ applying ∷ argument_steps us

abbrev pub step_of : Nodes → Task → Step
step_of b (task.Visit t) = visiting (tree b t.0)
step_of b task.Close = closing
step_of b task.Apply = applying

-- the next one first
abbrev pub steps_of : Nodes → List Task → List Step
steps_of b ts = reverse (map (step_of b) ts)

-- with types for the type variables, the newest first
abbrev pub filled_types : Nodes → (ℕ → Ty) → List TypeId → List Ty
filled_types b θ ids = reverse (map (λ t. instance θ (type_tree b t.0)) ids)

abbrev pub Solves : Nodes → (ℕ → Ty) → List Pair → Type 0
Solves b θ ps = All (λ p. instance θ (type_tree b p.left.0) ≡ instance θ (type_tree b p.right.0)) ps

abbrev pub types_of : Nodes → Typing → Atom → Option Ty
types_of b y = atom_type (under (declared_by b y.constants.now) (types_in b y.eigens.now))

-- these steps and then what is left come to T
abbrev pub DerivesBy : Nodes → (ℕ → Ty) → Typing → List Step → Ty → Type 0
DerivesBy b θ y js T = Comes (types_of b y) (filled_types b θ y.context.items) (filled_types b θ y.stack.items) (js ++ steps_of b y.tasks.items) T

abbrev pub Derives : Nodes → (ℕ → Ty) → Typing → Ty → Type 0
Derives b θ y T = Comes (types_of b y) (filled_types b θ y.context.items) (filled_types b θ y.stack.items) (steps_of b y.tasks.items) T

-- where what is left now comes to T under a solution of the equations, so does this step and what was left, and the earlier equations are solved
abbrev pub Moves : (now : Nodes) → (old new : Typing) → (Nodes → Step) → Type 0
Moves now old new j = (b : Nodes) → Extends now b → (θ : ℕ → Ty) → (T : Ty) → Solves b θ new.pairs.items → Derives b θ new T → Solves b θ old.pairs.items × DerivesBy b θ old (j b ∷ []) T

-- all but the types of the terms so far is as it was
pub record IsPushed (old new : Typing) : Type 0 where
  pub constants : new.constants ≡ old.constants
  pub eigens : new.eigens ≡ old.eigens
  pub context : new.context ≡ old.context
  pub pairs : new.pairs ≡ old.pairs
  pub tasks : new.tasks ≡ old.tasks

-- one more type, without type variables, stands on the stack
pub record Pushes (now : Nodes) (old new : Typing) (T : Nodes → Ty) : Type 0 where
  pub rest : IsPushed old new
  pub stack : (b : Nodes) → Extends now b → (θ : ℕ → Ty) → filled_types b θ new.stack.items ≡ T b ∷ filled_types b θ old.stack.items

-- all but the number of the next type variable is as it was
pub record IsGrown (old new : Typing) : Type 0 where
  pub rest : IsPushed old new
  pub stack : new.stack ≡ old.stack

-- all but the equations is as it was, and whoever solves those now makes the two types one
pub record Taken (old new : Typing) (left right : TypeId) : Type 0 where
  pub constants : new.constants ≡ old.constants
  pub eigens : new.eigens ≡ old.eigens
  pub context : new.context ≡ old.context
  pub stack : new.stack ≡ old.stack
  pub tasks : new.tasks ≡ old.tasks
  pub solves : (b : Nodes) → (θ : ℕ → Ty) → Solves b θ new.pairs.items → Solves b θ old.pairs.items × (instance θ (type_tree b left.0) ≡ instance θ (type_tree b right.0))

-- the head is a function from the argument's type to a type that stands on the stack now
pub record Applies (now : Nodes) (old new : Typing) (head argument : TypeId) : Type 0 where
  pub constants : new.constants ≡ old.constants
  pub eigens : new.eigens ≡ old.eigens
  pub context : new.context ≡ old.context
  pub tasks : new.tasks ≡ old.tasks
  pub solves : (b : Nodes) → Extends now b → (θ : ℕ → Ty) → Solves b θ new.pairs.items → Solves b θ old.pairs.items ×
      ((B : Ty) × (instance θ (type_tree b head.0) ≡ arrow (instance θ (type_tree b argument.0)) B) × (filled_types b θ new.stack.items ≡ B ∷ filled_types b θ old.stack.items))

-- a type of the bank, whose type variables are below n
abbrev pub IsTypeBelow : Nodes → ℕ → TypeId → Type 0
IsTypeBelow b n t = (t.0 < length b.types) × Below n (type_tree b t.0)

abbrev pub IsPairBelow : Nodes → ℕ → Pair → Type 0
IsPairBelow b n p = IsTypeBelow b n p.left × IsTypeBelow b n p.right

-- a term to visit stands in the bank, and the types that it names have no type variable
abbrev pub IsTaskIn : Nodes → Task → Type 0
IsTaskIn b (task.Visit t) = (t.0 < length b.terms) × AllAtoms HasClosedTypes (tree b t.0)
IsTaskIn b task.Close = Unit {0}
IsTaskIn b task.Apply = Unit {0}

-- all that is left to do stands in the bank, and the type variables so far are below the next one
pub record IsTidy (b : Nodes) (y : Typing) : Type 0 where
  pub context : All (IsTypeBelow b y.next) y.context.items
  pub stack : All (IsTypeBelow b y.next) y.stack.items
  pub pairs : All (IsPairBelow b y.next) y.pairs.items
  pub tasks : All (IsTaskIn b) y.tasks.items
  pub eigens : AreClosed (types_in b y.eigens.now)
  pub constants : AreDeclaredInside (length b.types) y.constants.now

-- under types for the type variables that solve the equations these steps and then what is left come to T
pub record Can (b : Nodes) (y : Typing) (js : List Step) (T : Ty) : Type 0 where
  pub types : ℕ → Ty
  pub solves : Solves b types y.pairs.items
  pub derives : DerivesBy b types y js T

-- where these steps and what is left could come to a type, they are done, and what is left now can come to it
pub record Keeps (now : Nodes) (old new : Typing) (js : Nodes → List Step) (done : Bool) : Type 0 where
  pub tidy : done ≡ true → IsTidy now new
  pub can : (b : Nodes) → Extends now b → (T : Ty) → Can b old (js b) T → (done ≡ true) × Can b new [] T

-- a head of such a type is a function from the argument's type to one that stands on the stack now
pub record KeepsApplied (now : Nodes) (old new : Typing) (head argument : TypeId) : Type 0 where
  pub tidy : IsTidy now new
  pub can : (b : Nodes) → Extends now b → (θ : ℕ → Ty) → (T B : Ty) → Solves b θ old.pairs.items → instance θ (type_tree b head.0) ≡ arrow (instance θ (type_tree b argument.0)) B →
      Comes (types_of b old) (filled_types b θ old.context.items) (B ∷ filled_types b θ old.stack.items) (steps_of b old.tasks.items) T → Can b new [] T

-- this type is put on the stack, and all else is as it was
pub record IsHeld (old new : Typing) (of : TypeId) : Type 0 where
  pub rest : IsPushed old new
  pub next : new.next ≡ old.next
  pub stack : new.stack.items ≡ old.stack.items ++ of ∷ []

-- whoever makes the two types one solves the equations, where he did before
pub record IsEquated (old new : Typing) (left right : TypeId) : Type 0 where
  pub next : new.next ≡ old.next
  pub solved : (b : Nodes) → (θ : ℕ → Ty) → Solves b θ old.pairs.items → instance θ (type_tree b left.0) ≡ instance θ (type_tree b right.0) → Solves b θ new.pairs.items
  pub below : (b : Nodes) → (n : ℕ) → All (IsPairBelow b n) old.pairs.items → IsTypeBelow b n left → IsTypeBelow b n right → All (IsPairBelow b n) new.pairs.items
