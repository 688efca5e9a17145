-- Pattern text while a search goes on: it stays so, whatever values and types its variables get and however it is opened.
use Rattle.std.proofs.Common.{◌≡◌, ℕ, suc, ◌<◌, ◌≤◌, List, [], ◌∷◌, map, length, Bool, true, false, refl, sym, ap, ◌∙◌, subst as transport, arith}
use Rattle.std.specs.Prelude.{nat_eq, ◌&&◌, if◌then◌else◌}
use mathlib.Core.Path.{fun_ext}
use Rattle.lp_lemmas.proofs.Booleans.{and_true_right}
use Rattle.lp_calculus.specs.Types.{Ty, instance}
use Rattle.lp_calculus.specs.Term.{Term, index, atom, abs, app, Atom, eigen, logic, constant, integer, text, param}
use Rattle.lp_calculus.specs.Convert.{ReducesTo, done}
use Rattle.lp_calculus.specs.Fill.{Within, Binding, fill, at_variables, one, put}
use Rattle.lp_calculus.specs.Instance.{instance_atom, instance_term}
use Rattle.lp_calculus.proofs.BetaEta.{many_on}
use Rattle.lp_calculus.proofs.Commutations.{instance_fill}
use Rattle.lp_calculus.proofs.Fills.{fill-fill, within_fill, within_more, within_subst}
use Rattle.lp_calculus.proofs.Sigma.{subst, subst-subst}
use Rattle.lp_calculus.proofs.Steps.{within_reduces}
use Rattle.lp_proof_laws.proofs.Uniform.Openings.{instantiate_subst}
use Rattle.lp_calculus.proofs.TypeLaws.{instance-instance}
use Rattle.lp_model.specs.Index.{instantiate}
use Rattle.lp_model.specs.Pair.{Closing, closed}
use Rattle.lp_unify_laws.proofs.Sames.{same_number}
use Rattle.lp_search_laws.proofs.ClosedTerms.{closed_atom, closed_fill, fill_instantiate}
use Rattle.lp_pattern_laws.specs.Patterns.{IsPatternTerm, IsPattern}
use Rattle.lp_pattern_laws.specs.Binders.{Binder, IsAtLevel, IsOpening, HasPatternValues}
use Rattle.lp_pattern_laws.specs.Goals.{StaysPattern, IsPatternValue}
use Rattle.lp_pattern_laws.proofs.Comes.{pattern_back, reduces_fill, reduces_fills, reduces_subst, reduces_substs}
use Rattle.lp_pattern_laws.proofs.Filled.{pattern_fill}
use Rattle.lp_pattern_laws.proofs.Opened.{closing_fills}

-- what stands at a level stands at a higher one
pub level_more : (l m : ℕ) → l ≤ m → (a : Atom) → IsAtLevel l a → IsAtLevel m a
level_more l m h (eigen k) w = let q : k ≤ l = w in let r : k ≤ m = omega (arith, h, q) in r
level_more l m h (logic x k) w = let q : k ≤ l = w in let r : k ≤ m = omega (arith, h, q) in r
level_more l m h (constant c ts) w = tt
level_more l m h (integer z) w = tt
level_more l m h (text s) w = tt
level_more l m h (param k T) w = tt

pub stays_deeper : (l m : ℕ) (Γ : List Binder) (t : Term) → l ≤ m → StaysPattern l Γ t → StaysPattern m Γ t
stays_deeper l m Γ t h s = record {
  within = within_more (IsAtLevel l) (IsAtLevel m) (length Γ) (length Γ) (level_more l m h) (omega arith) t s.within;
  opens = λ c v σ o. s.opens c v σ (record {
    universals = λ i e. (let u = o.universals i e in (u.0, u.1, (let q : m < u.0 = u.2 in omega (arith, h, q))));
    existentials = o.existentials;
    apart = o.apart;
    new = o.new;
  });
}

-- a closing and an opening whose terms reduce to those of such ones
pub record LeadsClosing (c : Closing) : Type 0 where
  pub terms : ℕ → ℕ → Term
  pub leads : (x l : ℕ) → ReducesTo (c.terms x l) (terms x l)
  pub values : HasPatternValues (record { types = c.types; terms = terms })

pub record LeadsOpening (l : ℕ) (Γ : List Binder) (σ : ℕ → Term) : Type 0 where
  pub terms : ℕ → Term
  pub leads : (i : ℕ) → ReducesTo (σ i) (terms i)
  pub opening : IsOpening l Γ terms

pub led_closing : (c : Closing) → HasPatternValues c → LeadsClosing c
led_closing c v = record { terms = c.terms; leads = λ x l. done (c.terms x l); values = v }

pub led_opening : (l : ℕ) (Γ : List Binder) (σ : ℕ → Term) → IsOpening l Γ σ → LeadsOpening l Γ σ
led_opening l Γ σ o = record { terms = σ; leads = λ i. done (σ i); opening = o }

-- a closing put in, and an opening
closing_leads : (c : Closing) (k : LeadsClosing c) (a : Atom) → ReducesTo (closed_atom c a) (closed_atom (record { types = c.types; terms = k.terms }) a)
closing_leads c k (logic x l) = k.leads x l
closing_leads c k (constant d ts) = done _
closing_leads c k (integer z) = done _
closing_leads c k (text s) = done _
closing_leads c k (eigen j) = done _
closing_leads c k (param j T) = done _

pub opened_leads : (c d : Closing) → ((a : Atom) → ReducesTo (closed_atom c a) (closed_atom d a)) → (σ τ : ℕ → Term) →
    ((i : ℕ) → ReducesTo (σ i) (τ i)) → (t s : Term) → ReducesTo t s → ReducesTo (instantiate σ (closed c t)) (instantiate τ (closed d s))
opened_leads c d h σ τ g t s r =
    let first : ReducesTo (subst σ (fill (closed_atom c) t)) (subst σ (fill (closed_atom c) s)) = reduces_subst σ (reduces_fill (closed_atom c) r) in
    let second : ReducesTo (subst σ (fill (closed_atom c) s)) (subst σ (fill (closed_atom d) s)) = reduces_subst σ (reduces_fills (closed_atom c) (closed_atom d) h s) in
    let third : ReducesTo (subst σ (fill (closed_atom d) s)) (subst τ (fill (closed_atom d) s)) = reduces_substs σ τ g (fill (closed_atom d) s) in
    transport (λ z. ReducesTo z (instantiate τ (closed d s))) (sym (instantiate_subst σ (closed c t) ∙ ap (subst σ) (closed_fill c t)))
    (transport (ReducesTo (subst σ (fill (closed_atom c) t))) (sym (instantiate_subst τ (closed d s) ∙ ap (subst τ) (closed_fill d s))) (many_on first (many_on second third)))

pub stays_led : (l : ℕ) (Γ : List Binder) (t : Term) → StaysPattern l Γ t → (c : Closing) → LeadsClosing c → (σ : ℕ → Term) → LeadsOpening l Γ σ → IsPattern (instantiate σ (closed c t))
stays_led l Γ t s c k σ o =
    pattern_back (opened_leads c (record { types = c.types; terms = k.terms }) (closing_leads c k) σ o.terms o.leads t t (done t))
    (s.opens (record { types = c.types; terms = k.terms }) k.values o.terms o.opening)

-- a closing, behind a binding
abbrev pub after : Binding → Closing → Closing
after b c = record { types = c.types; terms = λ x l. if nat_eq x b.id && nat_eq l b.level then closed c b.value else c.terms x l }

after_atom : (b : Binding) (c : Closing) (a : Atom) → fill (closed_atom c) (at_variables (one b) a) ≡ closed_atom (after b c) a
after_atom b c (logic x l) = by (nat_eq x b.id && nat_eq l b.level)
  where
    by : (t : Bool) → fill (closed_atom c) (if t then b.value else atom (logic x l)) ≡ (if t then closed c b.value else c.terms x l)
    by true = sym (closed_fill c b.value)
    by false = refl
after_atom b c (constant k ts) = refl
after_atom b c (integer z) = refl
after_atom b c (text s) = refl
after_atom b c (eigen k) = refl
after_atom b c (param k T) = refl

closed_put : (b : Binding) (c : Closing) (t : Term) → closed c (put b t) ≡ closed (after b c) t
closed_put b c t =
    closed_fill c (put b t) ∙ fill-fill (closed_atom c) (at_variables (one b)) (closed_atom (after b c)) (after_atom b c) t ∙ sym (closed_fill (after b c) t)

-- a closing, behind types
abbrev pub typed : (ℕ → Ty) → Closing → Closing
typed κ c = record { types = λ i. instance c.types (κ i); terms = c.terms }

types_twice : (κ θ : ℕ → Ty) (ts : List Ty) → map (instance θ) (map (instance κ) ts) ≡ map (instance (λ i. instance θ (κ i))) ts
types_twice κ θ [] = refl
types_twice κ θ (T ∷ ts) = λ i. instance-instance κ θ T i ∷ types_twice κ θ ts i

typed_atom : (κ : ℕ → Ty) (c : Closing) (a : Atom) → closed_atom c (instance_atom κ a) ≡ closed_atom (typed κ c) a
typed_atom κ c (logic x l) = refl
typed_atom κ c (constant k ts) = ap (λ us. atom (constant k us)) (types_twice κ c.types ts)
typed_atom κ c (integer z) = refl
typed_atom κ c (text s) = refl
typed_atom κ c (eigen k) = refl
typed_atom κ c (param k T) = ap (λ U. atom (param k U)) (instance-instance κ c.types T)

closed_typed : (κ : ℕ → Ty) (c : Closing) (t : Term) → closed c (instance_term κ t) ≡ closed (typed κ c) t
closed_typed κ c t =
    closed_fill c (instance_term κ t) ∙ ap (fill (closed_atom c)) (instance_fill κ t) ∙
    fill-fill (closed_atom c) (λ a. atom (instance_atom κ a)) (closed_atom (typed κ c)) (typed_atom κ c) t ∙ sym (closed_fill (typed κ c) t)

pub closing_level : (c : Closing) → HasPatternValues c → (l : ℕ) (a : Atom) → IsAtLevel l a → Within (IsAtLevel l) 0 (closed_atom c a)
closing_level c v l (logic x m) w = within_more (IsAtLevel m) (IsAtLevel l) 0 0 (level_more m l w) (omega arith) (c.terms x m) (v x m).1
closing_level c v l (constant k ts) w = tt
closing_level c v l (integer z) w = tt
closing_level c v l (text s) w = tt
closing_level c v l (eigen k) w = w
closing_level c v l (param k T) w = tt

after_values : (b : Binding) → IsPatternTerm b.value → Within (IsAtLevel b.level) 0 b.value → (c : Closing) → HasPatternValues c → HasPatternValues (after b c)
after_values b p w c v x l = by (nat_eq x b.id && nat_eq l b.level) refl
  where
    value : IsPatternTerm (closed c b.value) × Within (IsAtLevel b.level) 0 (closed c b.value)
    value = (
      transport IsPatternTerm (sym (closed_fill c b.value)) (pattern_fill (closed_atom c) (closing_fills c v) p),
      transport (Within (IsAtLevel b.level) 0) (sym (closed_fill c b.value)) (within_fill (IsAtLevel b.level) (IsAtLevel b.level) (closed_atom c) 0 (closing_level c v b.level) b.value w),
    )

    by : (t : Bool) → (nat_eq x b.id && nat_eq l b.level) ≡ t → IsPatternTerm (if t then closed c b.value else c.terms x l) × Within (IsAtLevel l) 0 (if t then closed c b.value else c.terms x l)
    by true e = let q : l ≡ b.level = same_number l b.level (and_true_right (nat_eq x b.id) (nat_eq l b.level) e) in
        (value.0, transport (λ m. Within (IsAtLevel m) 0 (closed c b.value)) (sym q) value.1)
    by false e = v x l

after_led : (b : Binding) → IsPatternValue b → (c : Closing) → HasPatternValues c → LeadsClosing (after b c)
after_led b h c v = record {
  terms = (after (record { id = b.id; level = b.level; value = h.pattern.form }) c).terms;
  leads = λ x l. by (nat_eq x b.id && nat_eq l b.level) x l;
  values = after_values (record { id = b.id; level = b.level; value = h.pattern.form }) h.pattern.pattern (within_reduces (IsAtLevel b.level) 0 h.pattern.reduces h.level) c v;
}
  where
    value : ReducesTo (closed c b.value) (closed c h.pattern.form)
    value = transport (λ z. ReducesTo z (closed c h.pattern.form)) (sym (closed_fill c b.value))
        (transport (ReducesTo (fill (closed_atom c) b.value)) (sym (closed_fill c h.pattern.form)) (reduces_fill (closed_atom c) h.pattern.reduces))

    by : (t : Bool) (x l : ℕ) → ReducesTo (if t then closed c b.value else c.terms x l) (if t then closed c h.pattern.form else c.terms x l)
    by true x l = value
    by false x l = done (c.terms x l)

-- and a binding, or types, may be put in
within_put : (l d : ℕ) (b : Binding) → IsPatternValue b → (t : Term) → Within (IsAtLevel l) d t → Within (IsAtLevel l) d (put b t)
within_put l d b h t w = within_fill (IsAtLevel l) (IsAtLevel l) (at_variables (one b)) d each t w
  where
    at_variable : (x m : ℕ) → m ≤ l → Within (IsAtLevel l) d (one b x m)
    at_variable x m k = by (nat_eq x b.id && nat_eq m b.level) refl
      where
        by : (t : Bool) → (nat_eq x b.id && nat_eq m b.level) ≡ t → Within (IsAtLevel l) d (if t then b.value else atom (logic x m))
        by true e = let q : m ≡ b.level = same_number m b.level (and_true_right (nat_eq x b.id) (nat_eq m b.level) e) in
            within_more (IsAtLevel b.level) (IsAtLevel l) 0 d (level_more b.level l (omega (arith, q, k))) (omega arith) b.value h.level
        by false e = k

    each : (a : Atom) → IsAtLevel l a → Within (IsAtLevel l) d (at_variables (one b) a)
    each (logic x m) k = at_variable x m k
    each (constant i ts) k = tt
    each (integer z) k = tt
    each (text s) k = tt
    each (eigen j) k = k
    each (param i T) k = tt

pub stays_put : (l : ℕ) (Γ : List Binder) (b : Binding) → IsPatternValue b → (t : Term) → StaysPattern l Γ t → StaysPattern l Γ (put b t)
stays_put l Γ b h t s = record {
  within = within_put l (length Γ) b h t s.within;
  opens = λ c v σ o. transport (λ u. IsPattern (instantiate σ u)) (sym (closed_put b c t)) (stays_led l Γ t s (after b c) (after_led b h c v) σ (led_opening l Γ σ o));
}

types_level : (κ : ℕ → Ty) (l : ℕ) (a : Atom) → IsAtLevel l a → IsAtLevel l (instance_atom κ a)
types_level κ l (logic x m) w = w
types_level κ l (constant k ts) w = tt
types_level κ l (integer z) w = tt
types_level κ l (text s) w = tt
types_level κ l (eigen k) w = w
types_level κ l (param k T) w = tt

within_types : (κ : ℕ → Ty) (l d : ℕ) (t : Term) → Within (IsAtLevel l) d t → Within (IsAtLevel l) d (instance_term κ t)
within_types κ l d (index i) w = w
within_types κ l d (atom a) w = types_level κ l a w
within_types κ l d (abs b) w = within_types κ l (suc d) b w
within_types κ l d (app t u) w = (within_types κ l d t w.0, within_types κ l d u w.1)

pub stays_types : (l : ℕ) (Γ : List Binder) (κ : ℕ → Ty) (t : Term) → StaysPattern l Γ t → StaysPattern l Γ (instance_term κ t)
stays_types l Γ κ t s = record {
  within = within_types κ l (length Γ) t s.within;
  opens = λ c v σ o. transport (λ u. IsPattern (instantiate σ u)) (sym (closed_typed κ c t)) (s.opens (typed κ c) v σ o);
}

instantiated_twice : (σ τ : ℕ → Term) (t : Term) → instantiate σ (instantiate τ t) ≡ instantiate (λ i. instantiate σ (τ i)) t
instantiated_twice σ τ t =
    instantiate_subst σ (instantiate τ t) ∙ ap (subst σ) (instantiate_subst τ t) ∙ subst-subst τ σ t ∙
    ap (λ κ. subst κ t) (fun_ext (λ i. sym (instantiate_subst σ (τ i)))) ∙ sym (instantiate_subst (λ i. instantiate σ (τ i)) t)

-- how an opening of some of the binders carries what opens the others
pub record Carries (l m : ℕ) (Γ Δ : List Binder) (f : ℕ → Term) : Type 0 where
  pub within : (i : ℕ) → i < length Γ → Within (IsAtLevel m) (length Δ) (f i)
  pub opens : (c : Closing) → HasPatternValues c → (σ : ℕ → Term) → IsOpening m Δ σ → LeadsOpening l Γ (λ i. instantiate σ (closed c (f i)))

pub stays_open : (l m : ℕ) (Γ Δ : List Binder) (f : ℕ → Term) → l ≤ m → Carries l m Γ Δ f → (t : Term) → StaysPattern l Γ t → StaysPattern m Δ (instantiate f t)
stays_open l m Γ Δ f h k t s = record {
  within = transport (Within (IsAtLevel m) (length Δ)) (sym (instantiate_subst f t))
      (within_subst (IsAtLevel m) f (length Γ) (length Δ) k.within t (within_more (IsAtLevel l) (IsAtLevel m) (length Γ) (length Γ) (level_more l m h) (omega arith) t s.within));
  opens = λ c v σ o. transport IsPattern (sym (both c v σ)) (stays_led l Γ t s c (led_closing c v) (λ i. instantiate σ (closed c (f i))) (k.opens c v σ o));
}
  where
    both : (c : Closing) → HasPatternValues c → (σ : ℕ → Term) → instantiate σ (closed c (instantiate f t)) ≡ instantiate (λ i. instantiate σ (closed c (f i))) (closed c t)
    both c v σ =
        ap (instantiate σ) (closed_fill c (instantiate f t) ∙ fill_instantiate (IsAtLevel l) (IsAtLevel l) (closed_atom c) f (length Γ) t (closing_level c v l) s.within) ∙
        instantiated_twice σ (λ i. fill (closed_atom c) (f i)) (fill (closed_atom c) t) ∙
        ap (instantiate (λ i. instantiate σ (fill (closed_atom c) (f i)))) (sym (closed_fill c t)) ∙
        ap (λ τ. instantiate τ (closed c t)) (fun_ext (λ i. ap (instantiate σ) (sym (closed_fill c (f i)))))
