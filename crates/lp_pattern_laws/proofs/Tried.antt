-- A clause with a head that stays a pattern term is tried for an atom that reduces to one.
use Rattle.std.proofs.Common.{◌≡◌, ℕ, zero, suc, ◌+◌, ◌≤◌, List, [], ◌∷◌, ◌++◌, map, Some, Bool, true, false, refl, sym, arith, subst as transport}
use Rattle.std.specs.Prelude.{nat_eq, if◌then◌else◌, slice_get}
use Rattle.lp_calculus.specs.Types.{Ty}
use Rattle.lp_calculus.specs.Term.{Term, index, atom, abs, app, constant, eigen, integer, text, logic, param}
use Rattle.lp_calculus.specs.Instance.{instance_term}
use Rattle.lp_calculus.specs.Normal.{IsHead}
use Rattle.lp_calculus.specs.Spine.{arguments, arguments_and, head_of}
use Rattle.lp_lemmas.specs.Each.{EachOf}
use Rattle.lp_lemmas.proofs.Each.{each_map}
use Rattle.lp_model.specs.Index.{instantiate}
use Rattle.lp_model.specs.Pair.{Closing, closed}
use Rattle.lp_model.specs.Search.{Slot, is_new, slot_of, slots_of, slotted, pairs_of}
use Rattle.lp_search_laws.proofs.TypesOver.{each_more}
use Rattle.lp_pattern_laws.specs.Patterns.{IsPatternTerm, of_atom, IsPattern, ArePatternPairs}
use Rattle.lp_pattern_laws.specs.Binders.{Binder, universal, IsOpening, IsPatternText}
use Rattle.lp_pattern_laws.specs.Goals.{StaysPattern}
use Rattle.lp_pattern_laws.specs.Parts.{existentials}
use Rattle.lp_pattern_laws.proofs.ClosedPatterns.{IsPatternAt, opened_as_it_is, at_arguments}
use Rattle.lp_pattern_laws.proofs.Comes.{of_term, parted}
use Rattle.lp_pattern_laws.proofs.Opened.{types_open}
use Rattle.lp_pattern_laws.proofs.Parted.{pattern_arguments, text_arguments}
use Rattle.lp_pattern_laws.proofs.Staying.{LeadsOpening}

-- what the variables of the clause become

slot_at : (P : Term → Type 0) (h t : Term) → P t → P (slot_of h t).term
slot_at P (index i) t p = p
slot_at P (atom a) t p = p
slot_at P (abs b) t p = p
slot_at P (app f a) t p = p

slots_at : (P : Term → Type 0) (earlier hs ts : List Term) → EachOf P ts → EachOf (λ s. P s.term) (slots_of earlier hs ts)
slots_at P earlier [] ts w = tt
slots_at P earlier (h ∷ hs) [] w = tt
slots_at P earlier (h ∷ hs) (t ∷ ts) w = go (is_new h earlier) (slots_at P (h ∷ earlier) hs ts w.1)
  where
    go : (b : Bool) → EachOf (λ s. P s.term) (slots_of (h ∷ earlier) hs ts) →
        EachOf (λ s. P s.term) (if b then slot_of h t ∷ slots_of (h ∷ earlier) hs ts else slots_of (h ∷ earlier) hs ts)
    go true k = (slot_at P h t w.0, k)
    go false k = k

slotted_at : (P : Term → Type 0) (next level : ℕ) → ((i : ℕ) → P (atom (logic (next + i) level))) → (ss : List Slot) → EachOf (λ s. P s.term) ss → (i : ℕ) → P (slotted ss next level i)
slotted_at P next level f [] w i = f i
slotted_at P next level f (s ∷ ss) w i = go (nat_eq i s.variable) (slotted_at P next level f ss w.1 i)
  where
    go : (b : Bool) → P (slotted ss next level i) → P (if b then s.term else slotted ss next level i)
    go true k = w.0
    go false k = k

-- no variable of a clause is universal
pub none_universal : (vs : List Ty) (i : ℕ) → slice_get (existentials vs) i ≡ Some universal → ⊥
none_universal [] i e = cc
none_universal (v ∷ vs) zero e = cc
none_universal (v ∷ vs) (suc i) e = none_universal vs i e

pub none_universal_here : (vs : List Ty) (i : ℕ) → slice_get (existentials vs ++ []) i ≡ Some universal → ⊥
none_universal_here [] i e = cc
none_universal_here (v ∷ vs) zero e = cc
none_universal_here (v ∷ vs) (suc i) e = none_universal_here vs i e

opens_existentials : (l : ℕ) (Γ : List Binder) → ((i : ℕ) → slice_get Γ i ≡ Some universal → ⊥) → (σ : ℕ → Term) → ((i : ℕ) → IsPattern (σ i)) → LeadsOpening l Γ σ
opens_existentials l Γ none σ p = record {
  terms = λ i. (p i).form;
  leads = λ i. (p i).reduces;
  opening = record {
    universals = λ i e. absurd (none i e);
    existentials = λ i e. (p i).pattern;
    apart = λ i j k e g is n. absurd (none i e);
    new = λ i j k e g is n. absurd (none j g);
  };
}

pairs_patterns : (σ : ℕ → Term) (level : ℕ) (earlier hs ts : List Term) → EachOf (λ h. IsPattern (instantiate σ h)) hs → EachOf IsPattern ts → ArePatternPairs (pairs_of σ level earlier hs ts)
pairs_patterns σ level earlier [] ts v w = tt
pairs_patterns σ level earlier (h ∷ hs) [] v w = tt
pairs_patterns σ level earlier (h ∷ hs) (t ∷ ts) v w = go (is_new h earlier) (pairs_patterns σ level (h ∷ earlier) hs ts v.1 w.1)
  where
    go : (b : Bool) → ArePatternPairs (pairs_of σ level (h ∷ earlier) hs ts) →
        ArePatternPairs (if b then pairs_of σ level (h ∷ earlier) hs ts else record { left = t; right = instantiate σ h; level = level } ∷ pairs_of σ level (h ∷ earlier) hs ts)
    go true k = k
    go false k = ((w.0, v.0), k)

arguments_typed : (θ : ℕ → Ty) (t : Term) (more : List Term) → arguments_and (instance_term θ t) (map (instance_term θ) more) ≡ map (instance_term θ) (arguments_and t more)
arguments_typed θ (index i) more = refl
arguments_typed θ (atom a) more = refl
arguments_typed θ (abs b) more = refl
arguments_typed θ (app f a) more = arguments_typed θ f (a ∷ more)

-- a constant or an eigenconstant at the head stays there, so each argument stays a pattern term
abbrev pub IsNamed : Term → Type 0
IsNamed (index i) = ⊥
IsNamed (atom (constant c ts)) = Unit {0}
IsNamed (atom (eigen k)) = Unit {0}
IsNamed (atom (integer z)) = ⊥
IsNamed (atom (text s)) = ⊥
IsNamed (atom (logic x l)) = ⊥
IsNamed (atom (param k T)) = ⊥
IsNamed (abs b) = ⊥
IsNamed (app f a) = ⊥

head_stays : (c : Closing) (σ : ℕ → Term) (t : Term) → IsNamed (head_of t) → IsHead (head_of (instantiate σ (closed c t)))
head_stays c σ (index i) h = absurd h
head_stays c σ (atom (constant k ts)) h = tt
head_stays c σ (atom (eigen k)) h = tt
head_stays c σ (atom (integer z)) h = absurd h
head_stays c σ (atom (text s)) h = absurd h
head_stays c σ (atom (logic x l)) h = absurd h
head_stays c σ (atom (param k T)) h = absurd h
head_stays c σ (abs b) h = absurd h
head_stays c σ (app f a) h = head_stays c σ f h

stays_arguments : (l : ℕ) (Γ : List Binder) (t : Term) (more : List Term) → IsNamed (head_of t) → StaysPattern l Γ t → EachOf (StaysPattern l Γ) more → EachOf (StaysPattern l Γ) (arguments_and t more)
stays_arguments l Γ (index i) more h s w = w
stays_arguments l Γ (atom a) more h s w = w
stays_arguments l Γ (abs b) more h s w = w
stays_arguments l Γ (app f a) more h s w = stays_arguments l Γ f (a ∷ more) h
    (record { within = s.within.0; opens = λ c v σ o. (parted (instantiate σ (closed c f)) (instantiate σ (closed c a)) (head_stays c σ f h) (s.opens c v σ o)).0 })
    (record { within = s.within.1; opens = λ c v σ o. (parted (instantiate σ (closed c f)) (instantiate σ (closed c a)) (head_stays c σ f h) (s.opens c v σ o)).1 }, w)

module _ (l : ℕ) (Γ : List Binder) (none : (i : ℕ) → slice_get Γ i ≡ Some universal → ⊥) (h t : Term) (next level : ℕ) (stays : StaysPattern l Γ h)
    (named : IsNamed (head_of h)) (atomic : IsHead (head_of t)) (at : IsPatternAt level t) where
  abbrev values : ℕ → Term
  values = slotted (slots_of [] (arguments h) (arguments t)) next level

  pub values_at : (i : ℕ) → IsPatternAt level (values i)
  values_at i = slotted_at (IsPatternAt level) next level (λ j. (
    of_term (of_atom (logic (next + j) level)),
    (let q : level ≤ level = omega arith in q),
  )) (slots_of [] (arguments h) (arguments t))
      (slots_at (IsPatternAt level) [] (arguments h) (arguments t) (at_arguments level t atomic at)) i

  opened : (hs : List Term) → EachOf (StaysPattern l Γ) hs → EachOf (λ x. IsPattern (instantiate values x)) hs
  opened [] w = tt
  opened (x ∷ hs) w = (opened_as_it_is l Γ x w.0 values (opens_existentials l Γ none values (λ i. (values_at i).0)), opened hs w.1)

  pub pairs_at : ArePatternPairs (pairs_of values level [] (arguments h) (arguments t))
  pairs_at = pairs_patterns values level [] (arguments h) (arguments t) (opened (arguments h) (stays_arguments l Γ h [] named stays tt))
      (each_more (IsPatternAt level) IsPattern (λ x w. w.0) (arguments t) (at_arguments level t atomic at))

-- text against a pattern term
module _ (l : ℕ) (vs : List Ty) (θ : ℕ → Ty) (h t : Term) (next level : ℕ) (text : IsPatternText l (existentials vs) h) (pattern : IsPatternTerm t) where
  abbrev pub text_values : ℕ → Term
  text_values = slotted (slots_of [] (arguments (instance_term θ h)) (arguments t)) next level

  pub values_are : (i : ℕ) → IsPatternTerm (text_values i)
  values_are i = slotted_at IsPatternTerm next level (λ j. of_atom (logic (next + j) level))
      (slots_of [] (arguments (instance_term θ h)) (arguments t)) (slots_at IsPatternTerm [] (arguments (instance_term θ h)) (arguments t)
      (pattern_arguments t pattern)) i

  opening : IsOpening l (existentials vs) text_values
  opening = record {
    universals = λ i e. absurd (none_universal vs i e);
    existentials = λ i e. values_are i;
    apart = λ i j k e g is n. absurd (none_universal vs i e);
    new = λ i j k e g is n. absurd (none_universal vs j g);
  }

  pub pairs_are : ArePatternPairs (pairs_of text_values level [] (arguments (instance_term θ h)) (arguments t))
  pairs_are = pairs_patterns text_values level [] (arguments (instance_term θ h)) (arguments t)
      (transport (EachOf (λ x. IsPattern (instantiate text_values x))) (sym (arguments_typed θ h []))
      (each_map (IsPatternText l (existentials vs)) (λ x. IsPattern (instantiate text_values x)) (instance_term θ)
      (λ a w. of_term (types_open l (existentials vs) θ a w text_values opening)) (arguments h) (text_arguments l (existentials vs) h text)))
      (each_more IsPatternTerm IsPattern (λ x p. of_term p) (arguments t) (pattern_arguments t pattern))
