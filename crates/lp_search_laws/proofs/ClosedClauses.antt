-- What a closing makes of a clause. What it puts for variables has no loose index, since the whole clause has none; so it goes below the
-- variables of the clause as it is.
use Rattle.std.proofs.Common.{◌≡◌, ℕ, zero, suc, List, [], ◌∷◌, map, length, ◌∙◌, refl, sym, ap, subst as transport, arith}
use Rattle.lp_calculus.specs.Types.{Ty, instance}
use Rattle.lp_calculus.specs.Term.{Term, Atom, index, atom, abs, app, shift, constant, integer, text, eigen, logic, param}
use Rattle.lp_calculus.specs.Fill.{Within, fill, close, at_variables}
use Rattle.lp_calculus.specs.Instance.{instance_term}
use Rattle.lp_calculus.proofs.BetaEta.{shift_one}
use Rattle.lp_calculus.proofs.Eta.{app_same}
use Rattle.lp_calculus.proofs.Fills.{within_unrename, shift_closed}
use Rattle.lp_model.specs.Index.{instantiate}
use Rattle.lp_calculus.specs.Spine.{head_of}
use Rattle.lp_model.specs.Pair.{Closing, closed}
use Rattle.lp_standard.specs.Connectives.{two, pi_of}
use Rattle.lp_model.specs.Proofs.{IsAtomHead}
use Rattle.lp_model.specs.Flat.{Goals, no_goals, goals, clause, all_of, formula_of_goals, formula_of_clause}

-- below n binders
abbrev raises : ℕ → (Atom → Term) → Atom → Term
raises zero f a = f a
raises (suc n) f a = shift 0 1 (raises n f a)

shut : (P : Atom → Type 0) (f : Atom → Term) (n : ℕ) (a : Atom) → Within P n (raises n f a) → Within P 0 (f a) × (raises n f a ≡ f a)
shut P f zero a w = (w, refl)
shut P f (suc n) a w =
    let v = within_unrename P suc n (suc n) (λ i l. omega (arith, l)) (raises n f a) (transport (Within P (suc n)) (shift_one (raises n f a)) w) in
    let r = shut P f n a v in
    (r.0, ap (shift 0 1) r.1 ∙ shift_closed P (f a) r.0)

same_below : (P : Atom → Type 0) (f : Atom → Term) (m : ℕ) (a : Atom) → Within P 0 (f a) → raises m f a ≡ f a
same_below P f zero a w = refl
same_below P f (suc m) a w = ap (shift 0 1) (same_below P f m a w) ∙ shift_closed P (f a) w

fills_agree : (P : Atom → Type 0) (f : Atom → Term) (n m : ℕ) (t : Term) → Within P n (fill (raises n f) t) → fill (raises n f) t ≡ fill (raises m f) t
fills_agree P f n m (index i) w = refl
fills_agree P f n m (atom a) w = let s = shut P f n a w in s.1 ∙ sym (same_below P f m a s.0)
fills_agree P f n m (abs b) w = ap abs (fills_agree P f (suc n) (suc m) b w)
fills_agree P f n m (app t u) w = app_same (fills_agree P f n m t w.0) (fills_agree P f n m u w.1)

raised_constant : (n : ℕ) (σ : ℕ → ℕ → Term) (c : ℕ) (ts : List Ty) → raises n (at_variables σ) (constant c ts) ≡ atom (constant c ts)
raised_constant zero σ c ts = refl
raised_constant (suc n) σ c ts = ap (shift 0 1) (raised_constant n σ c ts)

all_fill : (vs : List Ty) (t : Term) (σ : ℕ → ℕ → Term) → close σ (all_of vs t) ≡ all_of vs (fill (raises (length vs) (at_variables σ)) t)
all_fill [] t σ = refl
all_fill (T ∷ vs) t σ =
    all_fill vs (pi_of T (abs t)) σ ∙ ap (λ z. all_of vs (app z (abs (fill (raises (suc (length vs)) (at_variables σ)) t)))) (raised_constant (length vs) σ 4 (T ∷ []))

pub all_within : (P : Atom → Type 0) (vs : List Ty) (t : Term) → Within P 0 (all_of vs t) → Within P (length vs) t
all_within P [] t w = w
all_within P (T ∷ vs) t w = (all_within P vs (pi_of T (abs t)) w).1

pub all_instance : (θ : ℕ → Ty) (vs : List Ty) (t : Term) → instance_term θ (all_of vs t) ≡ all_of (map (instance θ) vs) (instance_term θ t)
all_instance θ [] t = refl
all_instance θ (v ∷ vs) t = all_instance θ vs (pi_of v (abs t))

pub closed_all : (P : Atom → Type 0) (c : Closing) (vs : List Ty) (t : Term) → Within P 0 (closed c (all_of vs t)) → closed c (all_of vs t) ≡ all_of (map (instance c.types) vs) (closed c t)
closed_all P c vs t w =
    let us = map (instance c.types) vs in
    let u = instance_term c.types t in
    let e : closed c (all_of vs t) ≡ all_of us (fill (raises (length us) (at_variables c.terms)) u) = ap (close c.terms) (all_instance c.types vs t) ∙ all_fill us u c.terms in
    e ∙ ap (all_of us) (fills_agree P (at_variables c.terms) (length us) 0 u (all_within P us _ (transport (Within P 0) e w)))

-- a head under goals
abbrev pub under_goals : Goals → (G h : Term) → Term
under_goals no_goals G h = h
under_goals (goals g gs) G h = two 2 [] G h

pub under_clause : (k : ℕ) (vs : List Ty) (h : Term) (b : Goals) → formula_of_clause (clause k vs h b) ≡ all_of vs (under_goals b (formula_of_goals b) h)
under_clause k vs h no_goals = refl
under_clause k vs h (goals g gs) = refl

under_closed : (c : Closing) (b : Goals) (G h : Term) → closed c (under_goals b G h) ≡ under_goals b (closed c G) (closed c h)
under_closed c no_goals G h = refl
under_closed c (goals g gs) G h = refl

pub closed_clause : (P : Atom → Type 0) (c : Closing) (k : ℕ) (vs : List Ty) (h : Term) (b : Goals) → Within P 0 (closed c (formula_of_clause (clause k vs h b))) →
    closed c (formula_of_clause (clause k vs h b)) ≡ all_of (map (instance c.types) vs) (under_goals b (closed c (formula_of_goals b)) (closed c h))
closed_clause P c k vs h b w =
    let e = under_clause k vs h b in
    ap (closed c) e ∙ closed_all P c vs (under_goals b (formula_of_goals b) h) (transport (λ z. Within P 0 (closed c z)) e w) ∙ ap (all_of (map (instance c.types) vs)) (under_closed c b (formula_of_goals b) h)

-- an atom stays one
pub atom_closed : (c : Closing) (t : Term) → IsAtomHead (head_of t) → IsAtomHead (head_of (closed c t))
atom_closed c (index i) h = absurd h
atom_closed c (atom (constant k ts)) h = h
atom_closed c (atom (integer z)) h = absurd h
atom_closed c (atom (text s)) h = absurd h
atom_closed c (atom (eigen k)) h = h
atom_closed c (atom (logic x l)) h = absurd h
atom_closed c (atom (param k T)) h = absurd h
atom_closed c (abs b) h = absurd h
atom_closed c (app t u) h = atom_closed c t h

pub atom_instantiated : (f : ℕ → Term) (t : Term) → IsAtomHead (head_of t) → IsAtomHead (head_of (instantiate f t))
atom_instantiated f (index i) h = absurd h
atom_instantiated f (atom a) h = h
atom_instantiated f (abs b) h = absurd h
atom_instantiated f (app t u) h = atom_instantiated f t h
