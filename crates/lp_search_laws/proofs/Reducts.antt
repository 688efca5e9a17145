-- Terms that reduce to one all of whose atoms are so: they are kept like those themselves.
use Rattle.std.proofs.Common.{◌≡◌, ℕ, zero, suc, List, [], ◌∷◌, ◌∙◌, refl, sym, ap, subst as transport, true, false, nat_eq, if◌then◌else◌}
use Rattle.std.specs.Prelude.{◌&&◌}
use Rattle.lp_calculus.specs.Term.{Term, Atom, index, atom, abs, app, apply, shift, constant, integer, text, eigen, logic, param}
use Rattle.lp_calculus.specs.Convert.{here, in_abs, in_head, in_argument, by_beta, by_eta, ReducesTo, done, then_step}
use Rattle.lp_calculus.specs.Closed.{AllAtoms}
use Rattle.lp_calculus.specs.Fill.{raise, fill, Binding, one, at_variables, indexed}
use Rattle.lp_calculus.specs.Normal.{IsHead}
use Rattle.lp_calculus.specs.Spine.{head_of}
use Rattle.lp_calculus.proofs.BetaEta.{many_on, conversion_meets, shift_one}
use Rattle.lp_calculus.proofs.Fills.{up_suc}
use Rattle.lp_calculus.proofs.Plain.{substitute-subst, bump, shift-rename}
use Rattle.lp_calculus.proofs.Sigma.{rename, up, subst, subst-instead}
use Rattle.lp_calculus.proofs.Steps.{Step, step_fill, step_rename, converts_on, converts_sym, converts_reduces}
use Rattle.lp_lemmas.specs.Each.{EachOf}
use Rattle.lp_model.specs.Index.{instantiate}
use Rattle.lp_model.specs.Values.{Value, term_of}
use Rattle.lp_proof_laws.proofs.Uniform.Openings.{instantiate_subst}
use Rattle.lp_search_laws.proofs.AtomsKept.{atoms_reduces, atoms_raise}
use Rattle.lp_search_laws.proofs.Families.{Keeps}

-- reduction goes through everything
reduces_map : (f : Term → Term) → ((t s : Term) → Step t s → Step (f t) (f s)) → {t s : Term} → ReducesTo t s → ReducesTo (f t) (f s)
reduces_map f h (done t) = done (f t)
reduces_map f h (then_step p ps) = then_step (h _ _ p) (reduces_map f h ps)

reduces_abs : {t s : Term} → ReducesTo t s → ReducesTo (abs t) (abs s)
reduces_abs r = reduces_map abs (λ x y p. in_abs p) r

reduces_app : {t s u v : Term} → ReducesTo t s → ReducesTo u v → ReducesTo (app t u) (app s v)
reduces_app {s = s} {u = u} r q = many_on (reduces_map (λ z. app z u) (λ x y p. in_head u p) r) (reduces_map (app s) (λ x y p. in_argument s p) q)

reduces_fill : (f : Atom → Term) {t s : Term} → ReducesTo t s → ReducesTo (fill f t) (fill f s)
reduces_fill f r = reduces_map (fill f) (λ x y p. step_fill f p) r

reduces_rename : (ρ : ℕ → ℕ) {t s : Term} → ReducesTo t s → ReducesTo (rename ρ t) (rename ρ s)
reduces_rename ρ r = reduces_map (rename ρ) (λ x y p. step_rename ρ p) r

reduces_raise : (d : ℕ) {t s : Term} → ReducesTo t s → ReducesTo (shift d 1 t) (shift d 1 s)
reduces_raise d {t} {s} r = transport (λ z. ReducesTo z (shift d 1 s)) (sym (shift-rename d 1 t)) (transport (ReducesTo (rename (bump 1 d) t)) (sym (shift-rename d 1 s)) (reduces_rename (bump 1 d) r))

step_subst : (σ : ℕ → Term) {t s : Term} → Step t s → Step (subst σ t) (subst σ s)
step_subst σ (here (by_beta b u)) =
    transport (Step (app (abs (subst (up σ) b)) (subst σ u))) (sym (ap (subst σ) (substitute-subst u b) ∙ subst-instead σ u b ∙ sym (substitute-subst (subst σ u) (subst (up σ) b)))) (here (by_beta (subst (up σ) b) (subst σ u)))
step_subst σ (here (by_eta t)) =
    transport (λ z. Step (abs (app z (index 0))) (subst σ t)) (sym (ap (subst (up σ)) (shift_one t) ∙ sym (up_suc σ t) ∙ sym (shift_one (subst σ t)))) (here (by_eta (subst σ t)))
step_subst σ (in_abs p) = in_abs (step_subst (up σ) p)
step_subst σ (in_head u p) = in_head (subst σ u) (step_subst σ p)
step_subst σ (in_argument t p) = in_argument (subst σ t) (step_subst σ p)

reduces_subst : (σ : ℕ → Term) {t s : Term} → ReducesTo t s → ReducesTo (subst σ t) (subst σ s)
reduces_subst σ r = reduces_map (subst σ) (λ x y p. step_subst σ p) r

no_step : {a : Atom} {r : Term} → Step (atom a) r → ⊥
no_step (here x) = elim x [ ]

pub atom_reduces : {a : Atom} {w : Term} → ReducesTo (atom a) w → w ≡ atom a
atom_reduces (done t) = refl
atom_reduces (then_step p ps) = absurd (no_step p)

-- a term with a head and its arguments reduce each for itself
record IsApp (t u r : Term) : Type 0 where
  function : Term
  argument : Term
  is : r ≡ app function argument
  left : ReducesTo t function
  right : ReducesTo u argument
  head : IsHead (head_of function)

head_kept : {t s : Term} → IsHead (head_of t) → Step t s → IsHead (head_of s)
head_kept h (here (by_beta b u)) = absurd h
head_kept h (here (by_eta t)) = absurd h
head_kept h (in_abs p) = absurd h
head_kept h (in_head u p) = head_kept h p
head_kept h (in_argument t p) = h

app_step : {t u r : Term} → IsHead (head_of t) → Step (app t u) r → IsApp t u r
app_step h (here (by_beta b u)) = absurd h
app_step h (in_head u p) = record { function = _; argument = u; is = refl; left = then_step p (done _); right = done u; head = head_kept h p }
app_step h (in_argument t p) = record { function = t; argument = _; is = refl; left = done t; right = then_step p (done _); head = h }

app_reduces : {s w : Term} → ReducesTo s w → (t u : Term) → s ≡ app t u → IsHead (head_of t) → IsApp t u w
app_reduces (done s) t u e h = record { function = t; argument = u; is = e; left = done t; right = done u; head = h }
app_reduces (then_step {s = r} p ps) t u e h =
    let x = app_step h (transport (λ z. Step z r) e p) in
    let y = app_reduces ps x.function x.argument x.is x.head in
    record { function = y.function; argument = y.argument; is = y.is; left = many_on x.left y.left; right = many_on x.right y.right; head = y.head }

module _ (P : Atom → Type 0) where
  abbrev pub Reduct : Term → Type 0
  Reduct t = (w : Term) × ReducesTo t w × AllAtoms P w

  pub by_atoms : (t : Term) → AllAtoms P t → Reduct t
  by_atoms t h = (t, done t, h)

  pub reduct_back : {t u : Term} → ReducesTo t u → Reduct u → Reduct t
  reduct_back r h = (h.0, many_on r h.1, h.2)

  reduct_on : {t u : Term} → ReducesTo t u → Reduct t → Reduct u
  reduct_on r h = let m = conversion_meets (converts_on (converts_sym (converts_reduces r)) (converts_reduces h.1)) in (m.0, m.1, atoms_reduces P m.2 h.2)

  pub reduct_abs : (b : Term) → Reduct b → Reduct (abs b)
  reduct_abs b h = (abs h.0, reduces_abs h.1, h.2)

  pub reduct_app : (t u : Term) → Reduct t → Reduct u → Reduct (app t u)
  reduct_app t u h k = (app h.0 k.0, reduces_app h.1 k.1, (h.2, k.2))

  pub reduct_raise : (d : ℕ) (t : Term) → Reduct t → Reduct (shift d 1 t)
  reduct_raise d t h = (shift d 1 h.0, reduces_raise d h.1, atoms_raise P d h.0 h.2)

  app_parts : (t u : Term) → IsHead (head_of t) → Reduct (app t u) → Reduct t × Reduct u
  app_parts t u i h = let x = app_reduces h.1 t u refl i in let a = transport (AllAtoms P) x.is h.2 in ((x.function, x.left, a.0), (x.argument, x.right, a.1))

  spine_parts : (h : Term) (ts : List Term) → IsHead (head_of h) → Reduct (apply h ts) → Reduct h × EachOf Reduct ts
  spine_parts h [] i r = (r, tt)
  spine_parts h (t ∷ ts) i r = let q = spine_parts (app h t) ts i r in let s = app_parts h t i q.0 in (s.0, (s.1, q.1))

  own_head : (h : Term) → IsHead h → IsHead (head_of h)
  own_head (index i) r = tt
  own_head (atom a) r = tt
  own_head (abs b) r = r
  own_head (app t u) r = absurd r

  reduct_fill : (f : Atom → Term) → ((a : Atom) → P a → Reduct (f a)) → (t : Term) → AllAtoms P t → Reduct (fill f t)
  reduct_fill f g (index i) h = by_atoms (index i) tt
  reduct_fill f g (atom a) h = g a h
  reduct_fill f g (abs b) h = reduct_abs (fill (raise f) b) (reduct_fill (raise f) (λ a p. reduct_raise 0 (f a) (g a p)) b h)
  reduct_fill f g (app t u) h = reduct_app (fill f t) (fill f u) (reduct_fill f g t h.0) (reduct_fill f g u h.1)

  reduct_filled : (f : Atom → Term) → ((a : Atom) → P a → Reduct (f a)) → (t : Term) → Reduct t → Reduct (fill f t)
  reduct_filled f g t h = reduct_back (reduces_fill f h.1) (reduct_fill f g h.0 h.2)

  reduct_up : (σ : ℕ → Term) → ((i : ℕ) → Reduct (σ i)) → (i : ℕ) → Reduct (up σ i)
  reduct_up σ g zero = by_atoms (index 0) tt
  reduct_up σ g (suc i) = transport Reduct (shift_one (σ i)) (reduct_raise 0 (σ i) (g i))

  reduct_subst : (σ : ℕ → Term) → ((i : ℕ) → Reduct (σ i)) → (t : Term) → AllAtoms P t → Reduct (subst σ t)
  reduct_subst σ g (index i) h = g i
  reduct_subst σ g (atom a) h = by_atoms (atom a) h
  reduct_subst σ g (abs b) h = reduct_abs (subst (up σ) b) (reduct_subst (up σ) (reduct_up σ g) b h)
  reduct_subst σ g (app t u) h = reduct_app (subst σ t) (subst σ u) (reduct_subst σ g t h.0) (reduct_subst σ g u h.1)

  reduct_instantiate : (f : ℕ → Term) → ((i : ℕ) → Reduct (f i)) → (t : Term) → Reduct t → Reduct (instantiate f t)
  reduct_instantiate f g t h = transport Reduct (sym (instantiate_subst f t)) (reduct_back (reduces_subst f h.1) (reduct_subst f g h.0 h.2))

  module _ (free : (x l : ℕ) → P (logic x l)) (local : (k : ℕ) → P (eigen k)) (values : (v : Value) → AllAtoms P (term_of v)) where
    put_atom : (b : Binding) → Reduct b.value → (a : Atom) → P a → Reduct (at_variables (one b) a)
    put_atom b v (logic x l) h = elim (nat_eq x b.id && nat_eq l b.level) as (λ c. Reduct (if c then b.value else atom (logic x l))) [ true ↦ v | false ↦ by_atoms (atom (logic x l)) h ]
    put_atom b v (constant c ts) h = by_atoms (atom (constant c ts)) h
    put_atom b v (integer z) h = by_atoms (atom (integer z)) h
    put_atom b v (text s) h = by_atoms (atom (text s)) h
    put_atom b v (eigen k) h = by_atoms (atom (eigen k)) h
    put_atom b v (param k T) h = by_atoms (atom (param k T)) h

    indexed_atom : (c : ℕ) (a : Atom) → P a → Reduct (indexed c a)
    indexed_atom c (eigen k) h = elim (nat_eq k c) as (λ b. Reduct (if b then index 0 else atom (eigen k))) [ true ↦ by_atoms (index 0) tt | false ↦ by_atoms (atom (eigen k)) h ]
    indexed_atom c (logic x l) h = by_atoms (atom (logic x l)) h
    indexed_atom c (constant d ts) h = by_atoms (atom (constant d ts)) h
    indexed_atom c (integer z) h = by_atoms (atom (integer z)) h
    indexed_atom c (text s) h = by_atoms (atom (text s)) h
    indexed_atom c (param k T) h = by_atoms (atom (param k T)) h

    pub reducts_keep : Keeps Reduct
    reducts_keep = record {
      free = λ x l. by_atoms (atom (logic x l)) (free x l);
      local = λ k. by_atoms (atom (eigen k)) (local k);
      loose = λ i. by_atoms (index i) tt;
      values = λ v. by_atoms (term_of v) (values v);
      applies = reduct_app;
      reduces = λ r h. reduct_on r h;
      parts = λ h ts i r. spine_parts h ts (own_head h i) r;
      puts = λ b v t h. reduct_filled (at_variables (one b)) (put_atom b v) t h;
      abstracts = λ c t h. reduct_abs (fill (indexed c) t) (reduct_filled (indexed c) (indexed_atom c) t h);
      instances = reduct_instantiate;
      raises = reduct_raise;
    }
