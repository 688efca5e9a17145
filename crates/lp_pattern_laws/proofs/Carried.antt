-- Openings below one more binder.
use Rattle.std.proofs.Common.{◌≡◌, ℕ, zero, suc, ◌<◌, ◌≤◌, List, [], ◌∷◌, length, Some, refl, sym, ap, ◌∙◌, subst as transport, arith}
use Rattle.std.specs.Prelude.{slice_get}
use Rattle.lp_calculus.specs.Term.{Term, index, atom, abs, app, Atom, eigen, logic, constant, integer, text, param, shift}
use Rattle.lp_calculus.specs.Convert.{ReducesTo, done}
use Rattle.lp_calculus.specs.Fill.{Within, fill}
use Rattle.lp_calculus.proofs.Fills.{fill-rename, rename_closed, subst_closed, within_fill, within_more, within_shift}
use Rattle.lp_calculus.proofs.Sigma.{up, rename, subst, subst-rename}
use Rattle.lp_calculus.proofs.BetaEta.{shift_one}
use Rattle.lp_calculus.proofs.Steps.{within_reduces}
use Rattle.lp_model.specs.Index.{instantiate, lifted}
use Rattle.lp_model.specs.Pair.{Closing, closed}
use Rattle.lp_proof_laws.proofs.Uniform.Openings.{instantiate_subst}
use Rattle.lp_search_laws.proofs.ClosedTerms.{closed_atom, closed_fill}
use Rattle.lp_pattern_laws.specs.Patterns.{free, IsNewTo, IsNewToAtom, IsPatternTerm, IsPattern}
use Rattle.lp_pattern_laws.specs.Binders.{Binder, universal, existential, IsAtLevel, IsOpening, HasPatternValues}
use Rattle.lp_pattern_laws.proofs.Naming.{new_raised}
use Rattle.lp_pattern_laws.proofs.Opened.{closing_fills, level_above}
use Rattle.lp_pattern_laws.proofs.Filled.{pattern_fill}
use Rattle.lp_pattern_laws.proofs.Comes.{new_reduces}
use Rattle.lp_pattern_laws.proofs.Staying.{Carries, closing_level, LeadsOpening, led_opening, opened_leads}

-- what is new to all that is put is new to the whole
new_put : (P : Atom → Type 0) (k : ℕ) → ((a : Atom) → P a → IsNewToAtom (free k) a) → (σ : ℕ → Term) (n : ℕ) →
    ((i : ℕ) → i < n → IsNewTo (free k) (σ i)) → (t : Term) → Within P n t → IsNewTo (free k) (subst σ t)
new_put P k f σ n h (index i) w = h i w
new_put P k f σ n h (atom a) w = f a w
new_put P k f σ n h (abs b) w = new_put P k f (up σ) (suc n) go b w
  where
    go : (i : ℕ) → i < suc n → IsNewTo (free k) (up σ i)
    go zero l = tt
    go (suc i) l = new_raised (free k) (σ i) (h i (omega (arith, l)))
new_put P k f σ n h (app t u) w = (new_put P k f σ n h t w.0, new_put P k f σ n h u w.1)

new_through : (m k : ℕ) → m < k → (c : Closing) → HasPatternValues c → (σ : ℕ → Term) (n : ℕ) → ((i : ℕ) → i < n → IsNewTo (free k) (σ i)) →
    (u : Term) → Within (IsAtLevel m) n u → IsNewTo (free k) (instantiate σ (closed c u))
new_through m k l c v σ n h u w =
    let within : Within (IsAtLevel m) n (closed c u) = transport (Within (IsAtLevel m) n) (sym (closed_fill c u)) (within_fill (IsAtLevel m) (IsAtLevel m) (closed_atom c) n
    (λ a p. within_more (IsAtLevel m) (IsAtLevel m) 0 n (λ b q. q) (omega arith) (closed_atom c a) (closing_level c v m a p)) u w) in
    transport (IsNewTo (free k)) (sym (instantiate_subst σ (closed c u))) (new_put (IsAtLevel m) k (λ a p. level_above m k a l p) σ n h (closed c u) within)

-- a term raised, and then opened
raised_opened : (c : Closing) (σ : ℕ → Term) (u : Term) → HasPatternValues c → instantiate σ (closed c (shift 0 1 u)) ≡ instantiate (λ i. σ (suc i)) (closed c u)
raised_opened c σ u v =
    ap (instantiate σ) (closed_fill c (shift 0 1 u) ∙ raised_fill) ∙ opened (fill (closed_atom c) u) ∙ ap (instantiate (λ i. σ (suc i))) (sym (closed_fill c u))
  where
    each : (a : Atom) → closed_atom c a ≡ rename suc (closed_atom c a)
    each (logic x l) = sym (rename_closed (IsAtLevel l) suc 0 (λ i q. absurd (omega (arith, q))) (c.terms x l) (v x l).1)
    each (constant k ts) = refl
    each (integer z) = refl
    each (text s) = refl
    each (eigen k) = refl
    each (param k T) = refl

    raised_fill : fill (closed_atom c) (shift 0 1 u) ≡ shift 0 1 (fill (closed_atom c) u)
    raised_fill = ap (fill (closed_atom c)) (shift_one u) ∙ fill-rename (closed_atom c) (closed_atom c) suc each u ∙ sym (shift_one (fill (closed_atom c) u))

    opened : (t : Term) → instantiate σ (shift 0 1 t) ≡ instantiate (λ i. σ (suc i)) t
    opened t = instantiate_subst σ (shift 0 1 t) ∙ ap (subst σ) (shift_one t) ∙ subst-rename suc σ t ∙ sym (instantiate_subst (λ i. σ (suc i)) t)

-- the binders without the innermost
tail_opening : (m : ℕ) (k : Binder) (Δ : List Binder) (σ : ℕ → Term) → IsOpening m (k ∷ Δ) σ → IsOpening m Δ (λ i. σ (suc i))
tail_opening m k Δ σ o = record {
  universals = λ i e. o.universals (suc i) e;
  existentials = λ i e. o.existentials (suc i) e;
  apart = λ i j n e g is d. o.apart (suc i) (suc j) n e g is (λ q. d (let r : i ≡ j = cc in r));
  new = λ i j n e g is d. o.new (suc i) (suc j) n e g is (omega (arith, d));
}

pub length_get : (Γ : List Binder) (i : ℕ) (k : Binder) → slice_get Γ i ≡ Some k → i < length Γ
length_get [] i k e = absurd (cc)
length_get (x ∷ Γ) zero k e = omega arith
length_get (x ∷ Γ) (suc i) k e = let q = length_get Γ i k e in omega (arith, q)

pub get_length : (Γ : List Binder) (i : ℕ) → i < length Γ → (k : Binder) × (slice_get Γ i ≡ Some k)
get_length [] i l = absurd (omega (arith, l))
get_length (x ∷ Γ) zero l = (x, refl)
get_length (x ∷ Γ) (suc i) l = get_length Γ i (omega (arith, l))

module _ (l m : ℕ) (less : l ≤ m) (Γ Δ : List Binder) (f : ℕ → Term) (carry : Carries l m Γ Δ f) (c : Closing) (v : HasPatternValues c) (σ : ℕ → Term) where
  abbrev below : ℕ → Term
  below i = instantiate (λ j. σ (suc j)) (closed c (f i))

  -- the innermost variable, where it is universal, is new to all others
  first_new : IsOpening m (universal ∷ Δ) σ → (k : ℕ) → σ 0 ≡ atom (eigen k) → m < k → (i : ℕ) → i < length Γ → IsNewTo (free k) (below i)
  first_new o k is above i b = new_through m k above c v (λ j. σ (suc j)) (length Δ) each (f i) (carry.within i b)
    where
      by : (j : ℕ) (x : Binder) → slice_get Δ j ≡ Some x → IsNewTo (free k) (σ (suc j))
      by j universal e = o.apart (suc j) 0 k e refl is (λ q. cc)
      by j existential e = o.new (suc j) 0 k e refl is (omega arith)

      each : (j : ℕ) → j < length Δ → IsNewTo (free k) (σ (suc j))
      each j q = let g = get_length Δ j q in by j g.0 g.1

  abbrev raised : ℕ → Term
  raised i = instantiate σ (closed c (lifted f i))

  raised_is : (i : ℕ) → raised (suc i) ≡ below i
  raised_is i = raised_opened c σ (f i) v

  -- the innermost variable as it is, and the others in the forms to which they reduce
  abbrev formed : (ℕ → Term) → ℕ → Term
  formed τ zero = σ 0
  formed τ (suc i) = τ i

  pub below_opening : (x : Binder) → IsOpening m (x ∷ Δ) σ → LeadsOpening l (x ∷ Γ) raised
  below_opening x o = record { terms = formed inner.terms; leads = leads; opening = record { universals = universals; existentials = existentials; apart = apart x o; new = new x o } }
    where
      inner : LeadsOpening l Γ below
      inner = carry.opens c v (λ i. σ (suc i)) (tail_opening m x Δ σ o)

      leads : (i : ℕ) → ReducesTo (raised i) (formed inner.terms i)
      leads zero = done (σ 0)
      leads (suc i) = transport (λ z. ReducesTo z (inner.terms i)) (sym (raised_is i)) (inner.leads i)

      universals : (i : ℕ) → slice_get (x ∷ Γ) i ≡ Some universal → (k : ℕ) × (formed inner.terms i ≡ atom (eigen k)) × (l < k)
      universals zero e = let u = o.universals 0 e in (u.0, u.1, (let q : m < u.0 = u.2 in omega (arith, q, less)))
      universals (suc i) e = inner.opening.universals i e

      existentials : (i : ℕ) → slice_get (x ∷ Γ) i ≡ Some existential → IsPatternTerm (formed inner.terms i)
      existentials zero e = o.existentials 0 e
      existentials (suc i) e = inner.opening.existentials i e

      at_first : (x : Binder) → IsOpening m (x ∷ Δ) σ → (k : ℕ) → Some x ≡ Some universal → σ 0 ≡ atom (eigen k) → (i : ℕ) → i < length Γ → IsNewTo (free k) (inner.terms i)
      at_first universal o k e is i b = let u = o.universals 0 refl in new_reduces (inner.leads i) (free k) (first_new o k is (above u.0 u.1 u.2) i b)
        where
          above : (j : ℕ) → σ 0 ≡ atom (eigen j) → m < j → m < k
          above j g q = let r : atom (eigen j) ≡ atom (eigen k) = sym g ∙ is in let p : j ≡ k = cc in omega (arith, p, q)
      at_first existential o k e is i b = absurd (cc)

      apart : (x : Binder) → IsOpening m (x ∷ Δ) σ → (i j k : ℕ) → slice_get (x ∷ Γ) i ≡ Some universal → slice_get (x ∷ Γ) j ≡ Some universal →
          formed inner.terms j ≡ atom (eigen k) → (i ≡ j → ⊥) → IsNewTo (free k) (formed inner.terms i)
      apart x o zero zero k e g is d = absurd (d refl)
      apart x o (suc i) zero k e g is d = at_first x o k g is i (length_get Γ i universal e)
      apart x o zero (suc j) k e g is d =
          let u = o.universals 0 e in
          let h : IsNewTo (free u.0) (atom (eigen k)) = transport (IsNewTo (free u.0)) is (at_first x o u.0 e u.1 j (length_get Γ j universal g)) in
          transport (IsNewTo (free k)) (sym u.1) (λ q. h (sym q))
      apart x o (suc i) (suc j) k e g is d = inner.opening.apart i j k e g is (λ q. d (ap suc q))

      new : (x : Binder) → IsOpening m (x ∷ Δ) σ → (i j k : ℕ) → slice_get (x ∷ Γ) i ≡ Some existential → slice_get (x ∷ Γ) j ≡ Some universal →
          formed inner.terms j ≡ atom (eigen k) → j < i → IsNewTo (free k) (formed inner.terms i)
      new x o zero j k e g is d = absurd (omega (arith, d))
      new x o (suc i) zero k e g is d = at_first x o k g is i (length_get Γ i existential e)
      new x o (suc i) (suc j) k e g is d = inner.opening.new i j k e g is (omega (arith, d))

-- what is carried, below a binder
pub carries_below : (l m : ℕ) → l ≤ m → (Γ Δ : List Binder) (f : ℕ → Term) (x : Binder) → Carries l m Γ Δ f → Carries l m (x ∷ Γ) (x ∷ Δ) (lifted f)
carries_below l m less Γ Δ f x h = record { within = within; opens = λ c v σ o. below_opening l m less Γ Δ f h c v σ x o }
  where
    within : (i : ℕ) → i < suc (length Γ) → Within (IsAtLevel m) (suc (length Δ)) (lifted f i)
    within zero b = omega arith
    within (suc i) b = within_shift (IsAtLevel m) (length Δ) (f i) (h.within i (omega (arith, b)))

-- a closed pattern term is one under each closing, and however it is opened
closed_opens : (l : ℕ) (u : Term) → IsPatternTerm u → Within (IsAtLevel l) 0 u → (c : Closing) → HasPatternValues c → (σ : ℕ → Term) → IsPatternTerm (instantiate σ (closed c u))
closed_opens l u p w c v σ =
    let closed_at : Within (IsAtLevel l) 0 (closed c u) = transport (Within (IsAtLevel l) 0) (sym (closed_fill c u))
    (within_fill (IsAtLevel l) (IsAtLevel l) (closed_atom c) 0 (closing_level c v l) u w) in
    let stays : instantiate σ (closed c u) ≡ closed c u = instantiate_subst σ (closed c u) ∙ subst_closed (IsAtLevel l) σ 0 (λ i q. absurd (omega (arith, q))) (closed c u) closed_at in
    transport IsPatternTerm (sym (stays ∙ closed_fill c u)) (pattern_fill (closed_atom c) (closing_fills c v) p)

-- so what reduces to one does so then
closed_leads : (c : Closing) (σ : ℕ → Term) {t s : Term} → ReducesTo t s → ReducesTo (instantiate σ (closed c t)) (instantiate σ (closed c s))
closed_leads c σ {t} {s} r = opened_leads c c (λ a. done (closed_atom c a)) σ σ (λ i. done (σ i)) t s r

pub value_opens : (l : ℕ) (u : Term) → IsPattern u → Within (IsAtLevel l) 0 u → (c : Closing) → HasPatternValues c → (σ : ℕ → Term) → IsPattern (instantiate σ (closed c u))
value_opens l u p w c v σ = record {
  form = instantiate σ (closed c p.form);
  reduces = closed_leads c σ p.reduces;
  pattern = closed_opens l p.form p.pattern (within_reduces (IsAtLevel l) 0 p.reduces w) c v σ;
}

-- closed pattern terms for existential variables
pub carries_values : (l : ℕ) (Γ : List Binder) → ((i : ℕ) → slice_get Γ i ≡ Some universal → ⊥) → (f : ℕ → Term) → ((i : ℕ) → IsPattern (f i) × Within (IsAtLevel l) 0 (f i)) → Carries l l Γ [] f
carries_values l Γ none f p = record {
  within = λ i b. (p i).1;
  opens = λ c v σ o. record {
    terms = λ i. (value_opens l (f i) (p i).0 (p i).1 c v σ).form;
    leads = λ i. (value_opens l (f i) (p i).0 (p i).1 c v σ).reduces;
    opening = record {
      universals = λ i e. absurd (none i e);
      existentials = λ i e. (value_opens l (f i) (p i).0 (p i).1 c v σ).pattern;
      apart = λ i j k e g. absurd (none j g);
      new = λ i j k e g. absurd (none j g);
    };
  };
}

-- one variable: a closed pattern term for an existential one, a new eigenconstant for a universal one
module _ (l : ℕ) (f : ℕ → Term) where
  pub carries_value : (u : Term) → f 0 ≡ u → IsPattern u → Within (IsAtLevel l) 0 u → Carries l l (existential ∷ []) [] f
  carries_value u is p w = record { within = within; opens = λ c v σ o. opening c v σ }
    where
      within : (i : ℕ) → i < 1 → Within (IsAtLevel l) 0 (f i)
      within zero b = transport (Within (IsAtLevel l) 0) (sym is) w
      within (suc i) b = absurd (omega (arith, b))

      opening : (c : Closing) → HasPatternValues c → (σ : ℕ → Term) → LeadsOpening l (existential ∷ []) (λ i. instantiate σ (closed c (f i)))
      opening c v σ = record {
        terms = first;
        leads = leads;
        opening = record {
          universals = λ i e. absurd (none i e);
          existentials = existentials;
          apart = λ i j k e g. absurd (none j g);
          new = λ i j k e g. absurd (none j g);
        };
      }
        where
          value : IsPattern (instantiate σ (closed c u))
          value = value_opens l u p w c v σ

          first : ℕ → Term
          first zero = value.form
          first (suc i) = instantiate σ (closed c (f (suc i)))

          leads : (i : ℕ) → ReducesTo (instantiate σ (closed c (f i))) (first i)
          leads zero = transport (λ t. ReducesTo (instantiate σ (closed c t)) value.form) (sym is) value.reduces
          leads (suc i) = done _

          none : (j : ℕ) → slice_get (existential ∷ []) j ≡ Some universal → ⊥
          none zero e = cc
          none (suc j) e = cc

          existentials : (i : ℕ) → slice_get (existential ∷ []) i ≡ Some existential → IsPatternTerm (first i)
          existentials zero e = value.pattern
          existentials (suc i) e = absurd (cc)

  pub carries_eigen : (k : ℕ) → f 0 ≡ atom (eigen k) → l < k → (m : ℕ) → k ≤ m → Carries l m (universal ∷ []) [] f
  carries_eigen k is above m less = record { within = within; opens = λ c v σ o. led_opening l (universal ∷ []) (λ i. instantiate σ (closed c (f i))) (opening c σ) }
    where
      within : (i : ℕ) → i < 1 → Within (IsAtLevel m) 0 (f i)
      within zero b = transport (Within (IsAtLevel m) 0) (sym is) less
      within (suc i) b = absurd (omega (arith, b))

      opening : (c : Closing) (σ : ℕ → Term) → IsOpening l (universal ∷ []) (λ i. instantiate σ (closed c (f i)))
      opening c σ = record { universals = universals; existentials = λ i e. absurd (none i e); apart = apart; new = λ i j k e. absurd (none i e) }
        where
          none : (j : ℕ) → slice_get (universal ∷ []) j ≡ Some existential → ⊥
          none zero e = cc
          none (suc j) e = cc

          universals : (i : ℕ) → slice_get (universal ∷ []) i ≡ Some universal → (j : ℕ) × (instantiate σ (closed c (f i)) ≡ atom (eigen j)) × (l < j)
          universals zero e = (k, ap (λ t. instantiate σ (closed c t)) is, above)
          universals (suc i) e = absurd (cc)

          apart : (i j n : ℕ) → slice_get (universal ∷ []) i ≡ Some universal → slice_get (universal ∷ []) j ≡ Some universal → instantiate σ
              (closed c (f j)) ≡ atom (eigen n) → (i ≡ j → ⊥) → IsNewTo (free n) (instantiate σ (closed c (f i)))
          apart zero zero n e g q d = absurd (d refl)
          apart zero (suc j) n e g q d = absurd (cc)
          apart (suc i) j n e g q d = absurd (cc)
