-- What a part is taken apart into, by its node.
use Rattle.std.proofs.Common.{◌≡◌, ℕ, List, [], ◌∷◌, map, refl, sym, ◌∙◌, subst, Bool, true, false, Bor}
use Rattle.std.specs.Prelude.{nat_eq, not}
use Rattle.lp_calculus.specs.Types.{Ty}
use Rattle.lp_calculus.specs.Term.{Term, index, atom, abs, app, constant}
use Rattle.lp_standard.specs.Numbers as number
use Rattle.lp_standard.specs.Connectives.{Connective, connective_of}
use Rattle.lp_term.specs.Nodes.{Nodes, node_tree}
use Rattle.lp_term.specs.Shapes.{term_shape}
use Rattle.lp_term.specs.declared.node.TermId.{TermId}
use Rattle.lp_term.specs.declared.node.TypeId.{TypeId}
use Rattle.lp_term.specs.declared.node.TermNode.{TermNode}
use Rattle.lp_model.specs.Connected.{connective_in}
use Rattle.lp_model.specs.declared.connective.Connective as code_type
use Rattle.lp_model.specs.declared.connective.Connective.TheVariants as code
use Rattle.lp_model.specs.inner.Connected.{IsApplication}
use Rattle.lp_lambda.specs.Pattern.{inside, binder_of, are_names, only, variable_parts, inside_parts, goal_parts, clause_parts}
use Rattle.lp_lambda.specs.declared.walk.Binder.{Binder}
use Rattle.lp_lambda.specs.declared.walk.Binder.TheVariants.{Existential, Universal}
use Rattle.lp_lambda.specs.declared.walk.Walk.{Walk}
use Rattle.lp_lambda.specs.inner.Walking.{scope_of, AreTasksIn, IsPut, IsTaken}
use Rattle.lp_lambda.proofs.Puts.{taken_only}

-- by the connective of a goal or clause

pub goal_put : (b c : Nodes) (bs : List Binder) (t : Term) (k : Connective) (old new : Walk) → connective_of t ≡ k → IsPut b c (goal_parts bs t k) old new → IsPut b c (goal_parts bs t (connective_of t)) old new
goal_put b c bs t k old new e h = subst (λ z. IsPut b c (goal_parts bs t z) old new) (sym e) h

pub clause_put : (b c : Nodes) (bs : List Binder) (t : Term) (k : Connective) (old new : Walk) → connective_of t ≡ k → IsPut b c (clause_parts bs t k) old new → IsPut b c (clause_parts bs t (connective_of t)) old new
clause_put b c bs t k old new e h = subst (λ z. IsPut b c (clause_parts bs t z) old new) (sym e) h

other_parts : (b : Nodes) (bs : List Binder) (t : Term) (k : code_type.Connective) → ((l r : TermId) → k ≡ code.And l r → ⊥) → ((l r : TermId) → k ≡ code.Implies l r → ⊥) → ((T : TypeId) (u : TermId) → k ≡ code.ForAll T u → ⊥) →
    clause_parts bs t (connective_in b k) ≡ inside bs t ∷ []
other_parts b bs t code.True x y z = refl
other_parts b bs t code.Cut x y z = refl
other_parts b bs t (code.And l r) x y z = absurd (x l r refl)
other_parts b bs t (code.Or l r) x y z = refl
other_parts b bs t (code.Implies l r) x y z = absurd (y l r refl)
other_parts b bs t (code.ForAll T u) x y z = absurd (z T u refl)
other_parts b bs t (code.Exists T u) x y z = refl
other_parts b bs t (code.Not u) x y z = refl
other_parts b bs t code.Atomic x y z = refl

pub no_clause_put : (b c : Nodes) (bs : List Binder) (t : Term) (k : code_type.Connective) (old new : Walk) → connective_of t ≡ connective_in b k →
    ((l r : TermId) → k ≡ code.And l r → ⊥) → ((l r : TermId) → k ≡ code.Implies l r → ⊥) → ((T : TypeId) (u : TermId) → k ≡ code.ForAll T u → ⊥) →
    IsPut b c (inside bs t ∷ []) old new → IsPut b c (clause_parts bs t (connective_of t)) old new
no_clause_put b c bs t k old new e x y z h = clause_put b c bs t (connective_in b k) old new e (subst (λ ps. IsPut b c ps old new) (sym (other_parts b bs t k x y z)) h)

-- by the head of a term

pub existential_taken : (b : Nodes) (w : Walk) (i : ℕ) (us : List Term) (x : Binder) (f : Bool) → AreTasksIn b w → x ≡ binder_of (scope_of w) i → x ≡ Existential → f ≡ are_names (scope_of w) i us →
    IsTaken b b (variable_parts (binder_of (scope_of w) i) (scope_of w) i us) w w f
existential_taken b w i us x f a e k g = subst (λ z. IsTaken b b (variable_parts z (scope_of w) i us) w w f) (sym k ∙ e) (taken_only b w f (are_names (scope_of w) i us) a g)

module _ (b : Nodes) (old new : Walk) (us : List Term) (p : IsPut b b (map (inside (scope_of old)) us) old new) where
  pub universal_taken : (i : ℕ) (x : Binder) → x ≡ binder_of (scope_of old) i → x ≡ Universal → IsTaken b b (variable_parts (binder_of (scope_of old) i) (scope_of old) i us) old new true
  universal_taken i x e k = subst (λ z. IsTaken b b (variable_parts z (scope_of old) i us) old new true) (sym k ∙ e) (map (inside (scope_of old)) us, refl, p)

  only_taken : (f : Bool) → f ≡ false → IsTaken b b (only (not f) (map (inside (scope_of old)) us)) old new true
  only_taken f e = subst (λ z. IsTaken b b (only (not z) (map (inside (scope_of old)) us)) old new true) (sym e) (map (inside (scope_of old)) us, refl, p)

  pub constant_taken : (h : Term) (c : ℕ) (ts : List Ty) → atom (constant c ts) ≡ h → nat_eq c number.Exists ≡ false → IsTaken b b (inside_parts (scope_of old) h us) old new true
  constant_taken h c ts e k = subst (λ z. IsTaken b b (inside_parts (scope_of old) z us) old new true) e (only_taken (nat_eq c number.Exists) k)

  -- a node that is neither an index nor a constant, an abstraction or an application
  pub other_taken : (d : Nodes) (node : TermNode) (h : Term) → node_tree d (term_shape node) ≡ h → ((i : ℕ) → node ≡ TermNode.Index i → ⊥) → ((c : ℕ) (ts : Bor (List TypeId)) → node ≡ TermNode.Const c ts → ⊥) →
      ((x : TermId) → node ≡ TermNode.Abs x → ⊥) → ((f : TermId) (ids : Bor (List TermId)) → node ≡ TermNode.App f ids → ⊥) → IsTaken b b (inside_parts (scope_of old) h us) old new true
  other_taken d (TermNode.Index i) h e x y z w = absurd (x i refl)
  other_taken d (TermNode.Const c ts) h e x y z w = absurd (y c ts refl)
  other_taken d (TermNode.Int k) h e x y z w = subst (λ q. IsTaken b b (inside_parts (scope_of old) q us) old new true) e (map (inside (scope_of old)) us, refl, p)
  other_taken d (TermNode.Text s) h e x y z w = subst (λ q. IsTaken b b (inside_parts (scope_of old) q us) old new true) e (map (inside (scope_of old)) us, refl, p)
  other_taken d (TermNode.Eigen k) h e x y z w = subst (λ q. IsTaken b b (inside_parts (scope_of old) q us) old new true) e (map (inside (scope_of old)) us, refl, p)
  other_taken d (TermNode.Logic id level) h e x y z w = subst (λ q. IsTaken b b (inside_parts (scope_of old) q us) old new true) e (map (inside (scope_of old)) us, refl, p)
  other_taken d (TermNode.Param k T) h e x y z w = subst (λ q. IsTaken b b (inside_parts (scope_of old) q us) old new true) e (map (inside (scope_of old)) us, refl, p)
  other_taken d (TermNode.Abs t) h e x y z w = absurd (z t refl)
  other_taken d (TermNode.App f ids) h e x y z w = absurd (w f ids refl)

module _ (b : Nodes) (old new : Walk) (us : List Term) (h : Term) where
  pub index_taken : (i : ℕ) (f : Bool) → index i ≡ h → IsTaken b b (variable_parts (binder_of (scope_of old) i) (scope_of old) i us) old new f → IsTaken b b (inside_parts (scope_of old) h us) old new f
  index_taken i f e k = subst (λ z. IsTaken b b (inside_parts (scope_of old) z us) old new f) e k

  pub sigma_taken : (c : ℕ) (ts : List Ty) → atom (constant c ts) ≡ h → nat_eq c number.Exists ≡ true → IsTaken b b (inside_parts (scope_of old) h us) old new false
  sigma_taken c ts e k =
      subst (λ z. IsTaken b b (inside_parts (scope_of old) z us) old new false) e (subst (λ f. IsTaken b b (only (not f) (map (inside (scope_of old)) us)) old new false) (sym k) refl)

  pub abstraction_taken : (t : Term) → abs t ≡ h → IsPut b b (inside (Universal ∷ scope_of old) t ∷ map (inside (scope_of old)) us) old new → IsTaken b b (inside_parts (scope_of old) h us) old new true
  abstraction_taken t e k = subst (λ z. IsTaken b b (inside_parts (scope_of old) z us) old new true) e (inside (Universal ∷ scope_of old) t ∷ map (inside (scope_of old)) us, refl, k)

  pub application_taken : IsApplication h → IsTaken b b (inside_parts (scope_of old) h us) old new false
  application_taken a = go h a
    where
      go : (g : Term) → IsApplication g → IsTaken b b (inside_parts (scope_of old) g us) old new false
      go (index i) n = absurd n
      go (atom x) n = absurd n
      go (abs t) n = absurd n
      go (app t u) n = refl
