-- What stays of the atoms of terms: reduction and what is put for variables bring no others than variables and eigenconstants.
use Rattle.std.proofs.Common.{◌≡◌, ℕ, zero, suc, List, [], ◌∷◌, refl, sym, subst as transport, true, false, nat_eq, if◌then◌else◌, Option, Some, None, map}
use Rattle.std.specs.Prelude.{◌&&◌, option_map, option_and_then}
use Rattle.lp_calculus.specs.Term.{Term, Atom, index, atom, abs, app, apply, shift, substitute, constant, integer, text, eigen, logic, param}
use Rattle.lp_calculus.specs.Convert.{here, in_abs, in_head, in_argument, by_beta, by_eta, ReducesTo, done, then_step}
use Rattle.lp_calculus.specs.Fill.{raise, fill, Binding, one, put, at_variables, indexed, abstraction}
use Rattle.lp_calculus.specs.Closed.{AllAtoms}
use Rattle.lp_calculus.proofs.Sigma.{lift, rename, up, subst, instead}
use Rattle.lp_calculus.proofs.Plain.{substitute-subst, bump, shift-rename}
use Rattle.lp_standard.specs.Connectives.{body_of}
use Rattle.lp_calculus.proofs.BetaEta.{shift_one}
use Rattle.lp_calculus.proofs.Steps.{Step}
use Rattle.lp_lemmas.specs.Each.{EachOf}
use Rattle.lp_model.specs.Index.{instantiate}
use Rattle.lp_model.specs.Values.{Value, term_of}
use Rattle.lp_proof_laws.proofs.Uniform.Openings.{instantiate_subst}
use Rattle.lp_search_laws.proofs.Families.{Keeps}

-- what came of options
pub bind_is : {A B : Type 0} (o : Option A) (f : A → Option B) (x : B) → option_and_then f o ≡ Some x → (a : A) × (o ≡ Some a) × (f a ≡ Some x)
bind_is None f x e = absurd (cc)
bind_is (Some a) f x e = (a, refl, e)

pub map_is : {A B : Type 0} (o : Option A) (f : A → B) (x : B) → option_map f o ≡ Some x → (a : A) × (o ≡ Some a) × (f a ≡ x)
map_is None f x e = absurd (cc)
map_is (Some a) f x e = let g : f a ≡ x = cc in (a, refl, g)

pub some_is : {A : Type 0} (a x : A) → Some a ≡ Some x → a ≡ x
some_is a x e = let g : a ≡ x = cc in g

module _ (P : Atom → Type 0) where
  atoms_rename : (ρ : ℕ → ℕ) (t : Term) → AllAtoms P t → AllAtoms P (rename ρ t)
  atoms_rename ρ (index i) h = tt
  atoms_rename ρ (atom a) h = h
  atoms_rename ρ (abs b) h = atoms_rename (lift ρ) b h
  atoms_rename ρ (app t u) h = (atoms_rename ρ t h.0, atoms_rename ρ u h.1)

  atoms_unrename : (ρ : ℕ → ℕ) (t : Term) → AllAtoms P (rename ρ t) → AllAtoms P t
  atoms_unrename ρ (index i) h = tt
  atoms_unrename ρ (atom a) h = h
  atoms_unrename ρ (abs b) h = atoms_unrename (lift ρ) b h
  atoms_unrename ρ (app t u) h = (atoms_unrename ρ t h.0, atoms_unrename ρ u h.1)

  pub atoms_shift : (t : Term) → AllAtoms P t → AllAtoms P (shift 0 1 t)
  atoms_shift t h = transport (AllAtoms P) (sym (shift_one t)) (atoms_rename suc t h)

  pub atoms_raise : (d : ℕ) (t : Term) → AllAtoms P t → AllAtoms P (shift d 1 t)
  atoms_raise d t h = transport (AllAtoms P) (sym (shift-rename d 1 t)) (atoms_rename (bump 1 d) t h)

  pub atoms_raise_each : (d : ℕ) (ts : List Term) → EachOf (AllAtoms P) ts → EachOf (AllAtoms P) (map (shift d 1) ts)
  atoms_raise_each d [] h = tt
  atoms_raise_each d (t ∷ ts) h = (atoms_raise d t h.0, atoms_raise_each d ts h.1)

  pub atoms_body : (s : Term) → AllAtoms P s → AllAtoms P (body_of s)
  atoms_body (abs b) h = h
  atoms_body (index i) h = (atoms_shift (index i) h, tt)
  atoms_body (atom a) h = (h, tt)
  atoms_body (app t u) h = (atoms_shift (app t u) h, tt)

  atoms_up : (σ : ℕ → Term) → ((i : ℕ) → AllAtoms P (σ i)) → (i : ℕ) → AllAtoms P (up σ i)
  atoms_up σ f zero = tt
  atoms_up σ f (suc i) = atoms_rename suc (σ i) (f i)

  atoms_subst : (σ : ℕ → Term) → ((i : ℕ) → AllAtoms P (σ i)) → (t : Term) → AllAtoms P t → AllAtoms P (subst σ t)
  atoms_subst σ f (index i) h = f i
  atoms_subst σ f (atom a) h = h
  atoms_subst σ f (abs b) h = atoms_subst (up σ) (atoms_up σ f) b h
  atoms_subst σ f (app t u) h = (atoms_subst σ f t h.0, atoms_subst σ f u h.1)

  pub atoms_substitute : (u t : Term) → AllAtoms P u → AllAtoms P t → AllAtoms P (substitute u t)
  atoms_substitute u t h k = transport (AllAtoms P) (sym (substitute-subst u t)) (atoms_subst (instead u) each t k)
    where
      each : (i : ℕ) → AllAtoms P (instead u i)
      each zero = h
      each (suc i) = tt

  atoms_step : {t u : Term} → Step t u → AllAtoms P t → AllAtoms P u
  atoms_step (here (by_beta b u)) h = atoms_substitute u b h.1 h.0
  atoms_step (here (by_eta t)) h = atoms_unrename suc t (transport (AllAtoms P) (shift_one t) h.0)
  atoms_step (in_abs p) h = atoms_step p h
  atoms_step (in_head u p) h = (atoms_step p h.0, h.1)
  atoms_step (in_argument t p) h = (h.0, atoms_step p h.1)

  pub atoms_reduces : {t u : Term} → ReducesTo t u → AllAtoms P t → AllAtoms P u
  atoms_reduces (done t) h = h
  atoms_reduces (then_step p ps) h = atoms_reduces ps (atoms_step p h)

  pub atoms_fill : (f : Atom → Term) → ((a : Atom) → P a → AllAtoms P (f a)) → (t : Term) → AllAtoms P t → AllAtoms P (fill f t)
  atoms_fill f g (index i) h = tt
  atoms_fill f g (atom a) h = g a h
  atoms_fill f g (abs b) h = atoms_fill (raise f) (λ a p. atoms_shift (f a) (g a p)) b h
  atoms_fill f g (app t u) h = (atoms_fill f g t h.0, atoms_fill f g u h.1)

  pub atoms_apply : (h : Term) (ts : List Term) → AllAtoms P h → EachOf (AllAtoms P) ts → AllAtoms P (apply h ts)
  atoms_apply h [] p q = p
  atoms_apply h (t ∷ ts) p q = atoms_apply (app h t) ts (p, q.0) q.1

  pub apply_atoms : (h : Term) (ts : List Term) → AllAtoms P (apply h ts) → AllAtoms P h × EachOf (AllAtoms P) ts
  apply_atoms h [] p = (p, tt)
  apply_atoms h (t ∷ ts) p = let r = apply_atoms (app h t) ts p in (r.0.0, (r.0.1, r.1))

  module _ (free : (x l : ℕ) → P (logic x l)) (local : (k : ℕ) → P (eigen k)) where
    put_atom : (b : Binding) → AllAtoms P b.value → (a : Atom) → P a → AllAtoms P (at_variables (one b) a)
    put_atom b v (logic x l) h = elim (nat_eq x b.id && nat_eq l b.level) as (λ c. AllAtoms P (if c then b.value else atom (logic x l))) [ true ↦ v | false ↦ h ]
    put_atom b v (constant c ts) h = h
    put_atom b v (integer z) h = h
    put_atom b v (text s) h = h
    put_atom b v (eigen k) h = h
    put_atom b v (param k T) h = h

    atoms_put : (b : Binding) → AllAtoms P b.value → (t : Term) → AllAtoms P t → AllAtoms P (put b t)
    atoms_put b v t h = atoms_fill (at_variables (one b)) (put_atom b v) t h

    indexed_atom : (c : ℕ) (a : Atom) → P a → AllAtoms P (indexed c a)
    indexed_atom c (eigen k) h = elim (nat_eq k c) as (λ b. AllAtoms P (if b then index 0 else atom (eigen k))) [ true ↦ tt | false ↦ h ]
    indexed_atom c (logic x l) h = h
    indexed_atom c (constant d ts) h = h
    indexed_atom c (integer z) h = h
    indexed_atom c (text s) h = h
    indexed_atom c (param k T) h = h

    atoms_abstraction : (c : ℕ) (t : Term) → AllAtoms P t → AllAtoms P (abstraction c t)
    atoms_abstraction c t h = atoms_fill (indexed c) (indexed_atom c) t h

    atoms_instantiate : (f : ℕ → Term) → ((i : ℕ) → AllAtoms P (f i)) → (t : Term) → AllAtoms P t → AllAtoms P (instantiate f t)
    atoms_instantiate f g t h = transport (AllAtoms P) (sym (instantiate_subst f t)) (atoms_subst f g t h)

    pub atoms_keep : ((v : Value) → AllAtoms P (term_of v)) → Keeps (AllAtoms P)
    atoms_keep values = record {
      free = free;
      local = local;
      loose = λ i. tt;
      values = values;
      applies = λ t u h k. (h, k);
      reduces = λ r h. atoms_reduces r h;
      parts = λ h ts i p. apply_atoms h ts p;
      puts = atoms_put;
      abstracts = atoms_abstraction;
      instances = atoms_instantiate;
      raises = atoms_raise;
    }
