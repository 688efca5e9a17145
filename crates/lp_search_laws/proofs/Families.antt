-- Properties of terms that unification and search keep, and families of them, by the type variables that may stand there.
use Rattle.std.specs.Prelude.{ℕ, List}
use Rattle.lp_calculus.specs.Types.{Ty}
use Rattle.lp_calculus.specs.Term.{Term, index, atom, app, apply, shift, constant, eigen, logic, param}
use Rattle.lp_calculus.specs.Convert.{ReducesTo}
use Rattle.lp_calculus.specs.Fill.{Binding, put, abstraction}
use Rattle.lp_calculus.specs.Instance.{instance_term}
use Rattle.lp_calculus.specs.Normal.{IsHead}
use Rattle.lp_lemmas.specs.Each.{EachOf}
use Rattle.lp_model.specs.Index.{instantiate}
use Rattle.lp_model.specs.Values.{Value, term_of}
use Rattle.lp_search_laws.proofs.TypesOver.{Over}

-- it holds of variables, eigenconstants and values, of what is built of terms of which it holds, and of what they reduce to; and of the parts of a term with a head
pub record Keeps (K : Term → Type 0) : Type 0 where
  pub free : (x l : ℕ) → K (atom (logic x l))
  pub local : (k : ℕ) → K (atom (eigen k))
  pub loose : (i : ℕ) → K (index i)
  pub values : (v : Value) → K (term_of v)
  pub applies : (t u : Term) → K t → K u → K (app t u)
  pub reduces : {t u : Term} → ReducesTo t u → K t → K u
  pub parts : (h : Term) (ts : List Term) → IsHead h → K (apply h ts) → K h × EachOf K ts
  pub puts : (b : Binding) → K b.value → (t : Term) → K t → K (put b t)
  pub abstracts : (c : ℕ) (t : Term) → K t → K (abstraction c t)
  pub instances : (f : ℕ → Term) → ((i : ℕ) → K (f i)) → (t : Term) → K t → K (instantiate f t)
  pub raises : (d : ℕ) (t : Term) → K t → K (shift d 1 t)

-- K Q: the type variables that stand in the term are among Q
pub record Family (K : (ℕ → Type 0) → Term → Type 0) : Type 1 where
  pub keeps : (Q : ℕ → Type 0) → Keeps (K Q)
  pub typed : (Q R : ℕ → Type 0) (θ : ℕ → Ty) → ((i : ℕ) → Q i → Over R (θ i)) → (t : Term) → K Q t → K R (instance_term θ t)
  pub constants : (Q : ℕ → Type 0) (c : ℕ) (ts : List Ty) → K Q (atom (constant c ts)) → EachOf (Over Q) ts
  pub parameters : (Q : ℕ → Type 0) (n : ℕ) (T : Ty) → K Q (atom (param n T)) → Over Q T
