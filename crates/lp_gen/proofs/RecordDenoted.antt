-- What a record denotes that was run to its end.
use Rattle.std.proofs.Common.{◌≡◌, ◌∙◌, ◌<◌, ℕ, zero, suc, ◌+◌, ◌-◌, List, [], ◌∷◌, length, map, Bool, true, false, Some, None, ap, refl, sym, arith}
use Rattle.std.specs.Prelude.{nat_lt, if◌then◌else◌, slice_get, unwrap_or}
use Rattle.std.proofs.lemmas.Bool.{eq-eqb, lt-ltb}
use Rattle.lp_calculus.specs.Types.{Ty}
use Rattle.lp_calculus.specs.Typing.{o_type}
use Rattle.lp_calculus.specs.Term.{Term, index, atom, abs, app, logic}
use Rattle.lp_model.specs.Flat.{Goal, Goals, Clauses, Atomic, Cut, Either, Exists, Forall, Assume, Not, no_goals, goals, clause, no_clauses, clauses, under_all, map_goal, same_type}
use Rattle.lp_code.specs.Symbolic.{Built, variable, held, whole, term_in}
use Rattle.lp_code.specs.States.{State, Home, placed, index_or, bind_term, bind_goals}
use Rattle.lp_code.specs.Written.{nothing_written, written_goals}
use Rattle.lp_code.specs.Denote.{head_term, variable_types}
use Rattle.lp_gen.specs.Steps.{Seen, Around, at_level, level_in}
use Rattle.lp_gen.specs.inner.TermLaw.{KnownAtoms, AllLoose, level_term, index_term, with_variables}
use Rattle.lp_gen.specs.inner.Bodies.{new_level, bare_goal, bare_goals, bare_clauses, HasLevel, Binds, AreThrough, IsThrough, AllThrough, said_goals, said_clauses}
use Rattle.lp_gen.specs.inner.GoalCode.{numbers}
use Rattle.lp_gen.specs.inner.Entering.{unmade}
use Rattle.lp_gen.proofs.Binding.{bind_term_with, bind_goals_with, types_same}
use Rattle.lp_gen.proofs.BodyParts.{bare_map}
use Rattle.lp_gen.proofs.Bares.{bare_written}
use Rattle.lp_gen.proofs.OwnPlaces.{type_at}
use Rattle.lp_gen.proofs.RecordBegins.{Outside, Inside, own_terms, old_term, level_from, own_is, by_index, own_level, old_variable}

-- the types of own variables

map_numbers : {X : Type 0} (f : ℕ → X) (k : ℕ) (xs : List X) → ((i : ℕ) (x : X) → slice_get xs i ≡ Some x → f (k + i) ≡ x) → map f (numbers k (length xs)) ≡ xs
map_numbers f k [] at = refl
map_numbers f k (x ∷ xs) at =
    let z : k + 0 ≡ k = omega arith in
    λ j. (ap f (sym z) ∙ at 0 x refl) j ∷ map_numbers f (suc k) xs (λ i y e. let q : suc k + i ≡ k + suc i = omega arith in ap f q ∙ at (suc i) y e) j

under_count : (vs : List Ty) (d : ℕ) → under_all suc vs d ≡ length vs + d
under_count [] d = let z : d ≡ 0 + d = omega arith in z
under_count (T ∷ Ts) d = let z = under_count Ts d in omega (arith, z)

module _ (h : Home) (K : ℕ → List Ty → Ty) (vars : ℕ) (σ : ℕ → Term) (Γ : List Ty) (B : List Bool) (A a : Around) (Q : ℕ → Type 0) (keys : List ℕ)
    (k : ℕ) (Ts : List Ty) (reg : ℕ → ℕ) (out : Outside h vars σ Γ B A Q keys) (ins : Inside a A k Ts reg keys) where
  abbrev pub τ : ℕ → Term
  τ = own_terms h.number a σ

  -- the types of own variables
  pub types_are : (Us : List Ty) → ((i : ℕ) (U : Ty) → slice_get Us i ≡ Some U → (j : ℕ) × (slice_get Ts j ≡ Some U) × (reg j ≡ k + i)) → (z : State) →
      ((l : ℕ) (v : Seen) → at_level a l ≡ Some v → held z.now.terms v.register ≡ Some (whole (τ l) v.of)) → variable_types z (numbers k (length Us)) ≡ Us
  types_are Us there z own = map_numbers (λ r. (term_in z.now r).type) k Us at_type
    where
      place_low : (xs : List Ty) (i : ℕ) (x : Ty) → slice_get xs i ≡ Some x → i < length xs
      place_low [] i x e = absurd (cc)
      place_low (y ∷ ys) zero x e = omega arith
      place_low (y ∷ ys) (suc i) x e = let w = place_low ys i x e in omega (arith, w)

      at_type : (i : ℕ) (U : Ty) → slice_get Us i ≡ Some U → (term_in z.now (k + i)).type ≡ U
      at_type i U e =
          let w = there i U e in
          let j : ℕ = w.0 in
          let low = place_low Ts j U w.1 in
          ap (λ r. (term_in z.now r).type) (sym w.2) ∙ ap (λ o. (unwrap_or {T = Built} o (record { term = index 0; type = o_type; loose = [] })).type)
          (own (a.base + (length Ts - 1 - j)) (unmade (reg j) U) (own_level h K vars σ Γ B A a Q keys k Ts reg out ins j U w.1 low))

  -- registers whose places are those of the indices
  module _ (rs : List ℕ) (placed_own : (d j : ℕ) → j < length Ts → placed rs d (reg j) ≡ Some (d + j)) where
    -- the own variables are bound
    pub own_binds : Binds h.number rs (length Ts) τ a σ A
    own_binds = record {
      inner = λ d j low. inner_at d j low (type_at Ts j low);
      outer = λ d j le w. by_index h K vars σ Γ B A a Q keys k Ts reg out ins (bind_term rs h.number d (level_term τ (level_in a j)) ≡
          level_term σ (level_in A (j - length Ts))) j w.0 w.1
          (λ low is. absurd (omega (arith, low, le))) (λ high low at.
          let v = old_variable h K vars σ Γ B A a Q keys k Ts reg out ins w.0 low in
          ap (λ o. bind_term rs h.number d (level_term τ o)) w.1 ∙ ap (bind_term rs h.number d) (old_term h.number a σ w.0 low)
          ∙ not_own v.0 v.1 d (σ w.0) v.2 v.3 ∙ sym (ap (level_term σ) at));
    }
      where
        not_own : (r j d : ℕ) (t : Term) → t ≡ variable r j → j < h.number → bind_term rs h.number d t ≡ t
        not_own r j d t e low =
            ap (bind_term rs h.number d) e
            ∙ ap (λ c. index_or (if c then placed rs d r else None) (atom (logic r j)))
            (Rattle.std.proofs.lemmas.Bool.ne_eqb j h.number (λ z. absurd (omega (arith, z, low)))) ∙ sym e

        inner_at : (d j : ℕ) → j < length Ts → (T : Ty) × (slice_get Ts j ≡ Some T) → bind_term rs h.number d (level_term τ (level_in a j)) ≡ index (d + j)
        inner_at d j low t =
            let s = Rattle.lp_gen.proofs.RecordBegins.level_is a j ins.short (let c = Rattle.lp_gen.proofs.RecordBegins.level_count h K vars σ Γ B A a Q keys k Ts reg out ins in omega
            (arith, low, c)) in
            let l : ℕ = new_level a - j - 1 in
            let same : l ≡ a.base + (length Ts - 1 - j) = (let c = Rattle.lp_gen.proofs.RecordBegins.level_count h K vars σ Γ B A a Q keys k Ts reg out ins
            in let b = ins.base in omega (arith, low, c, b)) in
            let here = own_is h K vars σ Γ B A a Q keys k Ts reg out ins l (unmade (reg j) t.0)
            (ap (at_level a) same ∙ own_level h K vars σ Γ B A a Q keys k Ts reg out ins j t.0 t.1 low) (omega (arith, same)) in
            ap (λ o. bind_term rs h.number d (level_term τ o)) s ∙ ap (bind_term rs h.number d) here
            ∙ ap (λ c. index_or (if c then placed rs d (reg j) else None) (atom (logic (reg j) h.number))) (eq-eqb h.number h.number refl)
            ∙ ap (λ o. index_or o (atom (logic (reg j) h.number))) (placed_own d j low)

    -- the head, and the goals
    pub head_bound : (z : State) (t : Term) → head_term h z ≡ with_variables τ a 0 t → KnownAtoms h.tables.kinds vars t → AllLoose (HasLevel a) 0 t →
        bind_term rs h.number 0 (head_term h z) ≡ with_variables σ A (length Ts) t
    head_bound z t e known loose =
        ap (bind_term rs h.number 0) e
        ∙ bind_term_with h.tables.kinds vars h.number (length Ts) rs τ σ a A (own_binds) 0 (length Ts) t (omega arith) known loose

    pub body_bound : (said gs : Goals) → bare_goals said ≡ said_goals τ a 0 gs → AreThrough (λ d t. KnownAtoms h.tables.kinds vars t × AllLoose (HasLevel a) d t) 0 gs →
        bare_goals (bind_goals rs h.number said) ≡ said_goals σ A (length Ts) gs
    body_bound said gs e through =
        bare_map (bind_term rs h.number) 0 said ∙ ap (bind_goals rs h.number) e
        ∙ bind_goals_with h.tables.kinds vars h.number (length Ts) rs τ σ a A (own_binds) 0 (length Ts) gs (omega arith) through

-- the clause as it is said
pub clause_said : (σ : ℕ → Term) (A : Around) (Ts : List Ty) (n m : ℕ) (Us : List Ty) (u t : Term) (said gs : Goals) → n ≡ m → Us ≡ Ts → u ≡
    with_variables σ A (length Ts) t → bare_goals said ≡ said_goals σ A (length Ts) gs →
    bare_clauses (clauses (clause n Us u (written_goals said)) no_clauses) ≡ said_clauses σ A 0 (clauses (clause m Ts t gs) no_clauses)
clause_said σ A Ts n m Us u t said gs en eu et eg =
    let d : under_all suc Ts 0 ≡ length Ts = under_count Ts 0 ∙ (let z : length Ts + 0 ≡ length Ts = omega arith in z) in
    (λ i. clauses (clause (en i) ((eu ∙ sym (types_same Ts)) i) ((et ∙ ap (λ e. with_variables σ A e t) (sym d)) i) ((bare_written said ∙ eg ∙ ap (λ e. said_goals σ A e gs) (sym d)) i)) no_clauses)

-- below so many binders that no index is loose, all stays

abbrev pub NoIndex : ℕ → Type 0
NoIndex i = ⊥

pub term_stays : (σ : ℕ → Term) (A : Around) (d : ℕ) (t : Term) → AllLoose NoIndex d t → with_variables σ A d t ≡ t
term_stays σ A d (index i) x = go (nat_lt i d) refl
  where
    go : (c : Bool) → nat_lt i d ≡ c → index_term σ A d i ≡ index i
    go true e = ap (λ c. if c then index i else level_term σ (level_in A (i - d))) e
    go false e = absurd (x (Rattle.std.proofs.lemmas.Bool.ltb-false i d e))
term_stays σ A d (atom s) x = refl
term_stays σ A d (abs b) x = ap abs (term_stays σ A (suc d) b x)
term_stays σ A d (app t u) x = λ i. app (term_stays σ A d t x.0 i) (term_stays σ A d u x.1 i)

mutual
  goal_stays : (σ : ℕ → Term) (A : Around) (d : ℕ) (g : Goal) → IsThrough (AllLoose NoIndex) d g → map_goal suc (with_variables σ A) same_type d (bare_goal g) ≡ bare_goal g
  goal_stays σ A d (Atomic t) x = ap Atomic (term_stays σ A d t x)
  goal_stays σ A d Cut x = refl
  goal_stays σ A d (Either gs hs) x = λ i. Either (goals_stay σ A d gs x.0 i) (goals_stay σ A d hs x.1 i)
  goal_stays σ A d (Exists T gs) x = ap (Exists T) (goals_stay σ A (suc d) gs x)
  goal_stays σ A d (Forall T gs) x = ap (Forall T) (goals_stay σ A (suc d) gs x)
  goal_stays σ A d (Assume w cs gs) x = λ i. Assume nothing_written (clauses_stay σ A d cs x.0 i) (goals_stay σ A d gs x.1 i)
  goal_stays σ A d (Not w gs) x = ap (Not nothing_written) (goals_stay σ A d gs x)

  pub goals_stay : (σ : ℕ → Term) (A : Around) (d : ℕ) (gs : Goals) → AreThrough (AllLoose NoIndex) d gs → said_goals σ A d gs ≡ bare_goals gs
  goals_stay σ A d no_goals x = refl
  goals_stay σ A d (goals g gs) x = λ i. goals (goal_stays σ A d g x.0 i) (goals_stay σ A d gs x.1 i)

  clauses_stay : (σ : ℕ → Term) (A : Around) (d : ℕ) (cs : Clauses) → AllThrough (AllLoose NoIndex) d cs → said_clauses σ A d cs ≡ bare_clauses cs
  clauses_stay σ A d no_clauses x = refl
  clauses_stay σ A d (clauses (clause n vs t b) cs) x =
      λ i. clauses (clause n (types_same vs i) (term_stays σ A (under_all suc vs d) t x.0 i) (goals_stay σ A (under_all suc vs d) b x.1 i)) (clauses_stay σ A d cs x.2 i)
