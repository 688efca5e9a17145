-- All that a typing names stands in the bank, with type variables below the next one; types for more variables agree on it.
use Rattle.std.proofs.Common.{◌≡◌, ℕ, ◌<◌, ◌≤◌, List, [], ◌∷◌, ◌++◌, reverse, length, refl, sym, ap, subst, ◌∙◌, arith, true, false}
use Rattle.std.specs.Prelude.{All, nat_eq, if◌then◌else◌}
use Rattle.std.proofs.lemmas.Bool.Decides.{nat_tests}
use Rattle.std.proofs.lemmas.List.Elements.{All-nil, All-cons, All-head, All-tail, All-weaker}
use Rattle.lp_lemmas.proofs.Lists.{map_agree_on}
use Rattle.lp_lemmas.proofs.Elements.{All_pushed}
use Rattle.lp_calculus.specs.Types.{Ty, instance}
use Rattle.lp_calculus.specs.Closed.{AllAtoms, AreClosed}
use Rattle.lp_type_laws.specs.Equations.{Below}
use Rattle.lp_type_laws.proofs.Types.{Agree, instance_agree, below_more}
use Rattle.lp_type_unify.specs.declared.bindings.Pair.{Pair}
use Rattle.lp_term.specs.Nodes.{Nodes, Extends, type_tree}
use Rattle.lp_term.specs.declared.node.TypeId.{TypeId}
use Rattle.lp_cert.specs.Inside.{AreDeclaredInside}
use Rattle.lp_cert.specs.Same.{types_in}
use Rattle.lp_cert.specs.inner.Derives.{IsTypeBelow, IsPairBelow, IsTaskIn, IsTidy, IsHeld, filled_types, Solves}
use Rattle.lp_cert.specs.inner.Named.{HasClosedTypes}
use Rattle.lp_cert.specs.declared.typing.Task.{Task}
use Rattle.lp_cert.specs.declared.typing.Task.TheVariants as task
use Rattle.lp_cert.specs.declared.typing.Typing.{Typing}
use Rattle.lp_cert.proofs.Naming.{closed_types_later}
use Rattle.lp_cert.proofs.Settled.{declared_later}

-- one more type variable
abbrev pub also : (ℕ → Ty) → ℕ → Ty → ℕ → Ty
also θ n A i = if nat_eq i n then A else θ i

pub also_here : (θ : ℕ → Ty) (n : ℕ) (A : Ty) → also θ n A n ≡ A
also_here θ n A = let t : nat_eq n n ≡ true = grind (arith, nat_tests) in rw t refl

also_below : (θ : ℕ → Ty) (n : ℕ) (A : Ty) (x : ℕ) → x < n → also θ n A x ≡ θ x
also_below θ n A x l = let t : nat_eq x n ≡ false = grind (arith, nat_tests, l) in rw t refl

pub also_agrees : (θ : ℕ → Ty) (n : ℕ) (A : Ty) → Agree n θ (also θ n A)
also_agrees θ n A = record { on = λ x l. sym (also_below θ n A x l) }

-- types below n are the same under types that agree there
pub filled_agree : (b : Nodes) (n : ℕ) (θ κ : ℕ → Ty) → Agree n θ κ → (ids : List TypeId) → All (IsTypeBelow b n) ids → filled_types b θ ids ≡ filled_types b κ ids
filled_agree b n θ κ g ids h = ap reverse (map_agree_on (IsTypeBelow b n) (λ t. instance θ (type_tree b t.0)) (λ t. instance κ (type_tree b t.0)) (λ t l. instance_agree n θ κ g (type_tree b t.0) l.1) ids h)

pub solves_agree : (b : Nodes) (n : ℕ) (θ κ : ℕ → Ty) → Agree n θ κ → (ps : List Pair) → All (IsPairBelow b n) ps → Solves b θ ps → Solves b κ ps
solves_agree b n θ κ g [] h s = All-nil (λ (p : Pair). instance κ (type_tree b p.left.0) ≡ instance κ (type_tree b p.right.0))
solves_agree b n θ κ g (p ∷ ps) h s =
    let here = All-head (IsPairBelow b n) p ps h in
    All-cons (λ (p : Pair). instance κ (type_tree b p.left.0) ≡ instance κ (type_tree b p.right.0)) p ps
    (sym (instance_agree n θ κ g (type_tree b p.left.0) here.0.1) ∙ All-head (λ (p : Pair). instance θ (type_tree b p.left.0) ≡ instance θ (type_tree b p.right.0)) p ps s ∙ instance_agree n θ κ g (type_tree b p.right.0) here.1.1)
    (solves_agree b n θ κ g ps (All-tail (IsPairBelow b n) p ps h) (All-tail (λ (p : Pair). instance θ (type_tree b p.left.0) ≡ instance θ (type_tree b p.right.0)) p ps s))

-- in a bank that grew, and with more type variables
pub type_later : (a b : Nodes) (n m : ℕ) (t : TypeId) → Extends a b → n ≤ m → IsTypeBelow a n t → IsTypeBelow b m t
type_later a b n m t g l h = (let k = g.more_types in let i = h.0 in omega (arith, k, i), subst (Below m) (sym (g.same_types t.0 h.0)) (below_more n m l (type_tree a t.0) h.1))

pub types_later : (a b : Nodes) (n m : ℕ) (all ids : List TypeId) → Extends a b → n ≤ m → all ≡ ids → All (IsTypeBelow a n) ids → All (IsTypeBelow b m) all
types_later a b n m all ids g l e h = subst (All (IsTypeBelow b m)) (sym e) (All-weaker (IsTypeBelow a n) (IsTypeBelow b m) (λ t k. type_later a b n m t g l k) ids h)

pub pairs_later : (a b : Nodes) (n m : ℕ) (all ps : List Pair) → Extends a b → n ≤ m → all ≡ ps → All (IsPairBelow a n) ps → All (IsPairBelow b m) all
pairs_later a b n m all ps g l e h =
    subst (All (IsPairBelow b m)) (sym e) (All-weaker (IsPairBelow a n) (IsPairBelow b m) (λ p k. (type_later a b n m p.left g l k.0, type_later a b n m p.right g l k.1)) ps h)

pub task_later : (a b : Nodes) (t : Task) → Extends a b → IsTaskIn a t → IsTaskIn b t
task_later a b (task.Visit x) g h = (let k = g.more_terms in let i = h.0 in omega (arith, k, i), subst (AllAtoms HasClosedTypes) (sym (g.same_terms x.0 h.0)) h.1)
task_later a b task.Close g h = tt
task_later a b task.Apply g h = tt

pub tasks_later : (a b : Nodes) (all ts : List Task) → Extends a b → all ≡ ts → All (IsTaskIn a) ts → All (IsTaskIn b) all
tasks_later a b all ts g e h = subst (All (IsTaskIn b)) (sym e) (All-weaker (IsTaskIn a) (IsTaskIn b) (λ t k. task_later a b t g k) ts h)

-- one more type
pub types_more : (a b : Nodes) (n m : ℕ) (all ids : List TypeId) (t : TypeId) → Extends a b → n ≤ m → all ≡ ids ++ t ∷ [] → All (IsTypeBelow a n) ids → IsTypeBelow b m t → All (IsTypeBelow b m) all
types_more a b n m all ids t g l e h k = All_pushed (IsTypeBelow b m) all ids t e (types_later a b n m ids ids g l refl h) k

-- with the declared types and those of the eigenconstants as they were
pub tidy_on : (a now : Nodes) (old new : Typing) → Extends a now → IsTidy a old → new.constants ≡ old.constants → new.eigens ≡ old.eigens → All (IsTypeBelow now new.next) new.context.items → All (IsTypeBelow now new.next) new.stack.items → All (IsPairBelow now new.next) new.pairs.items →
    All (IsTaskIn now) new.tasks.items → IsTidy now new
tidy_on a now old new g t ec ee context stack pairs tasks = record {
  context = context;
  stack = stack;
  pairs = pairs;
  tasks = tasks;
  eigens = subst (λ x. AreClosed (types_in now x.now)) (sym ee) (closed_types_later a now old.eigens.now g t.eigens);
  constants = subst (λ x. AreDeclaredInside (length now.types) x.now) (sym ec) (declared_later a now old.constants.now g t.constants);
}

-- one more type on the stack
pub held_tidy : (a now : Nodes) (old new : Typing) (of : TypeId) → Extends a now → IsTidy a old → IsHeld old new of → IsTypeBelow now new.next of → IsTidy now new
held_tidy a now old new of g t h k =
    let l : old.next ≤ new.next = (let e = h.next in omega (arith, e)) in
    tidy_on a now old new g t h.rest.constants h.rest.eigens
    (types_later a now old.next new.next new.context.items old.context.items g l (ap (λ x. x.items) h.rest.context) t.context)
    (types_more a now old.next new.next new.stack.items old.stack.items of g l h.stack t.stack k)
    (pairs_later a now old.next new.next new.pairs.items old.pairs.items g l (ap (λ x. x.items) h.rest.pairs) t.pairs)
    (tasks_later a now new.tasks.items old.tasks.items g (ap (λ x. x.items) h.rest.tasks) t.tasks)
