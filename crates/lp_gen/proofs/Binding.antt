-- A variable that is bound: its terms give way to index 0, and the goals are those below one binder more.
use Rattle.std.proofs.Common.{◌≡◌, ◌∙◌, ◌≤◌, ◌<◌, ℕ, suc, ◌+◌, ◌-◌, List, [], ◌∷◌, map, Bool, true, false, Option, Some, None, ap, refl, sym, arith}
use Rattle.std.specs.Prelude.{nat_eq, nat_lt, if◌then◌else◌}
use Rattle.std.proofs.lemmas.Bool.{eq-eqb, ne_eqb, lt-ltb, le-ltb, ltb-true, ltb-false}
use Rattle.std.proofs.lemmas.List.{length-append}
use Rattle.lp_calculus.specs.Types.{Ty}
use Rattle.lp_calculus.specs.Term.{Term, Atom, index, atom, abs, app, shift, constant, integer, text, eigen, logic, param}
use Rattle.lp_calculus.specs.Fill.{raise, fill, at_variables}
use Rattle.lp_model.specs.Flat.{Goal, Goals, Clauses, Atomic, Cut, Either, Exists, Forall, Assume, Not, no_goals, goals, clause, no_clauses, clauses, under_all, map_goal, map_goals, map_clauses, same_type}
use Rattle.lp_code.specs.Symbolic.{variable}
use Rattle.lp_code.specs.States.{placed, index_or, bound_at, bind_term}
use Rattle.lp_code.specs.Written.{nothing_written}
use Rattle.lp_gen.specs.Steps.{Seen, Around, count_around, level_below, level_in}
use Rattle.lp_gen.specs.inner.TermLaw.{KnownAtoms, AllLoose, level_term, index_term, with_variables}
use Rattle.lp_gen.specs.inner.Bodies.{pushed, new_level, IsShort, with_level, bare_goal, IsThrough, AreThrough, AllThrough, HasLevel, Binds, said_goals, said_clauses}

-- the levels of indices, where a variable was pushed

count_is : (a : Around) → IsShort a → count_around a ≡ new_level a
count_is a s = omega (arith, s)

count_pushed : (a : Around) (v : Seen) → IsShort a → count_around (pushed a v) ≡ new_level a + 1
count_pushed a v s = let p = length-append a.own (v ∷ []) in omega (arith, s, p)

below_is : (n i : ℕ) → i < n → level_below n i ≡ Some (n - i - 1)
below_is n i l = ap (λ t. if t then Some (n - i - 1) else None) (lt-ltb i n l)

below_not : (n i : ℕ) → n ≤ i → level_below n i ≡ None
below_not n i l = ap (λ t. if t then Some (n - i - 1) else None) (le-ltb i n l)

pub level_first : (a : Around) (v : Seen) → IsShort a → level_in (pushed a v) 0 ≡ Some (new_level a)
level_first a v s =
    let c = count_pushed a v s in
    ap (λ n. level_below n 0) c ∙ below_is (new_level a + 1) 0 (omega arith) ∙ (let z : new_level a + 1 - 0 - 1 ≡ new_level a = omega arith in ap (λ k. Some k) z)

pub level_next : (a : Around) (v : Seen) (i : ℕ) → IsShort a → level_in (pushed a v) (suc i) ≡ level_in a i
level_next a v i s =
    ap (λ n. level_below n (suc i)) (count_pushed a v s) ∙ go (nat_lt i (new_level a)) refl ∙ sym (ap (λ n. level_below n i) (count_is a s))
  where
    go : (t : Bool) → nat_lt i (new_level a) ≡ t → level_below (new_level a + 1) (suc i) ≡ level_below (new_level a) i
    go true e =
        let l = ltb-true i (new_level a) e in
        below_is (new_level a + 1) (suc i) (omega (arith, l)) ∙ (let z : new_level a + 1 - suc i - 1 ≡ new_level a - i - 1 = omega (arith, l) in ap (λ k. Some k) z) ∙ sym (below_is (new_level a) i l)
    go false e =
        let l = ltb-false i (new_level a) e in
        below_not (new_level a + 1) (suc i) (omega (arith, l)) ∙ sym (below_not (new_level a) i l)

no_level : (l : ℕ) → None ≡ Some l → ⊥
no_level l e = cc

some_level : (l m : ℕ) → ◌≡◌ {A = Option ℕ} (Some l) (Some m) → l ≡ m
some_level l m e = cc

pub level_lower : (a : Around) (i l : ℕ) → IsShort a → level_in a i ≡ Some l → l < new_level a
level_lower a i l s e = go (nat_lt i (new_level a)) refl
  where
    here : level_below (new_level a) i ≡ Some l
    here = ap (λ n. level_below n i) (sym (count_is a s)) ∙ e

    go : (t : Bool) → nat_lt i (new_level a) ≡ t → l < new_level a
    go true f =
        let q = ltb-true i (new_level a) f in
        let z = some_level (new_level a - i - 1) l (sym (below_is (new_level a) i q) ∙ here) in
        omega (arith, z, q)
    go false f = absurd (no_level l (sym (below_not (new_level a) i (ltb-false i (new_level a) f)) ∙ here))

-- what is put for atoms

pub fill_same : (f g : Atom → Term) (t : Term) → ((s : Atom) → f s ≡ g s) → fill f t ≡ fill g t
fill_same f g (index i) e = refl
fill_same f g (atom s) e = e s
fill_same f g (abs b) e = ap abs (fill_same (raise f) (raise g) b (λ s. ap (shift 0 1) (e s)))
fill_same f g (app t u) e = λ k. app (fill_same f g t e k) (fill_same f g u e k)

shifted : (d : ℕ) → shift 0 1 (index d) ≡ index (suc d)
shifted d = ap (λ t. if t then index d else index (d + 1)) (le-ltb d 0 (omega arith)) ∙ (let z : d + 1 ≡ suc d = omega arith in ap index z)

shifted_placed : (rs : List ℕ) (d x k : ℕ) → shift 0 1 (index_or (placed rs d x) (atom (logic x k))) ≡ index_or (placed rs (suc d) x) (atom (logic x k))
shifted_placed [] d x k = refl
shifted_placed (r ∷ rs) d x k = go (nat_eq x r) (shifted_placed rs (suc d) x k)
  where
    go : (t : Bool) → shift 0 1 (index_or (placed rs (suc d) x) (atom (logic x k))) ≡ index_or (placed rs (suc (suc d)) x) (atom (logic x k)) →
        shift 0 1 (index_or (if t then Some d else placed rs (suc d) x) (atom (logic x k))) ≡ index_or (if t then Some (suc d) else placed rs (suc (suc d)) x) (atom (logic x k))
    go true e = shifted d
    go false e = e

raised_bound : (rs : List ℕ) (home d : ℕ) (s : Atom) → raise (at_variables (bound_at rs home d)) s ≡ at_variables (bound_at rs home (suc d)) s
raised_bound rs home d (constant c Ts) = refl
raised_bound rs home d (integer z) = refl
raised_bound rs home d (text s) = refl
raised_bound rs home d (eigen k) = refl
raised_bound rs home d (param k T) = refl
raised_bound rs home d (logic x k) = go (nat_eq k home)
  where
    go : (t : Bool) → shift 0 1 (index_or (if t then placed rs d x else None) (atom (logic x k))) ≡ index_or (if t then placed rs (suc d) x else None) (atom (logic x k))
    go true = shifted_placed rs d x k
    go false = refl

pub bind_below : (rs : List ℕ) (home d : ℕ) (t : Term) → bind_term rs home d (abs t) ≡ abs (bind_term rs home (suc d) t)
bind_below rs home d t = ap abs (fill_same (raise (at_variables (bound_at rs home d))) (at_variables (bound_at rs home (suc d))) t (raised_bound rs home d))

bound_atom : (κ : ℕ → Option ℕ) (n : ℕ) (rs : List ℕ) (home d : ℕ) (s : Atom) → KnownAtoms κ n (atom s) → bind_term rs home d (atom s) ≡ atom s
bound_atom κ n rs home d (constant c Ts) k = refl
bound_atom κ n rs home d (integer z) k = refl
bound_atom κ n rs home d (text s) k = refl
bound_atom κ n rs home d (eigen j) k = absurd k
bound_atom κ n rs home d (logic x l) k = absurd k
bound_atom κ n rs home d (param j T) k = absurd k

pub under_same : (vs : List Ty) (d : ℕ) → under_all suc (map same_type vs) d ≡ under_all suc vs d
under_same [] d = refl
under_same (T ∷ Ts) d = ap suc (under_same Ts d)

pub under_behind : (m : ℕ) (vs : List Ty) (d e : ℕ) → e ≡ m + d → under_all suc vs e ≡ m + under_all suc vs d
under_behind m [] d e q = q
under_behind m (T ∷ Ts) d e q = let z = under_behind m Ts d e q in omega (arith, z)

pub types_same : (vs : List Ty) → map same_type vs ≡ vs
types_same [] = refl
types_same (T ∷ Ts) = ap (λ l. T ∷ l) (types_same Ts)

module _ (κ : ℕ → Option ℕ) (n home m : ℕ) (rs : List ℕ) (σ τ : ℕ → Term) (a b : Around) (binds : Binds home rs m σ a τ b) where
  bind_index : (d e i : ℕ) → e ≡ m + d → (d ≤ i → HasLevel a (i - d)) → bind_term rs home d (index_term σ a d i) ≡ index_term τ b e i
  bind_index d e i q seen = go (nat_lt i d) refl
    where
      left : (t : Bool) → nat_lt i d ≡ t → index_term σ a d i ≡ (if t then index i else level_term σ (level_in a (i - d)))
      left t f = ap (λ t. if t then index i else level_term σ (level_in a (i - d))) f

      right : (t : Bool) → nat_lt i e ≡ t → index_term τ b e i ≡ (if t then index i else level_term τ (level_in b (i - e)))
      right t f = ap (λ t. if t then index i else level_term τ (level_in b (i - e))) f

      behind : d ≤ i → (t : Bool) → nat_lt i e ≡ t → bind_term rs home d (level_term σ (level_in a (i - d))) ≡ (if t then index i else level_term τ (level_in b (i - e)))
      behind le true f =
          let l = ltb-true i e f in
          binds.inner d (i - d) (omega (arith, l, q, le)) ∙ (let z : d + (i - d) ≡ i = omega (arith, le) in ap index z)
      behind le false f =
          let l = ltb-false i e f in
          binds.outer d (i - d) (omega (arith, l, q, le)) (seen le) ∙ (let z : i - d - m ≡ i - e = omega (arith, q, l, le) in ap (λ k. level_term τ (level_in b k)) z)

      go : (t : Bool) → nat_lt i d ≡ t → bind_term rs home d (index_term σ a d i) ≡ index_term τ b e i
      go true f = let l = ltb-true i d f in ap (bind_term rs home d) (left true f) ∙ sym (right true (lt-ltb i e (omega (arith, l, q))))
      go false f = ap (bind_term rs home d) (left false f) ∙ behind (ltb-false i d f) (nat_lt i e) refl ∙ sym (right (nat_lt i e) refl)

  pub bind_term_with : (d e : ℕ) (t : Term) → e ≡ m + d → KnownAtoms κ n t → AllLoose (HasLevel a) d t → bind_term rs home d (with_variables σ a d t) ≡ with_variables τ b e t
  bind_term_with d e (index i) q k seen = bind_index d e i q seen
  bind_term_with d e (atom s) q k seen = bound_atom κ n rs home d s k
  bind_term_with d e (abs t) q k seen = bind_below rs home d (with_variables σ a (suc d) t) ∙ ap abs (bind_term_with (suc d) (suc e) t (omega (arith, q)) k seen)
  bind_term_with d e (app t u) q k seen = λ i. app (bind_term_with d e t q k.0 seen.0 i) (bind_term_with d e u q k.1 seen.1 i)

  abbrev IsBindable : ℕ → Term → Type 0
  IsBindable d t = KnownAtoms κ n t × AllLoose (HasLevel a) d t

  mutual
    bind_goal_with : (d e : ℕ) (g : Goal) → e ≡ m + d → IsThrough IsBindable d g →
        map_goal suc (bind_term rs home) same_type d (map_goal suc (with_variables σ a) same_type d (bare_goal g)) ≡ map_goal suc (with_variables τ b) same_type e (bare_goal g)
    bind_goal_with d e (Atomic t) q x = ap Atomic (bind_term_with d e t q x.0 x.1)
    bind_goal_with d e Cut q x = refl
    bind_goal_with d e (Either gs hs) q x = λ i. Either (bind_goals_with d e gs q x.0 i) (bind_goals_with d e hs q x.1 i)
    bind_goal_with d e (Exists T gs) q x = ap (Exists T) (bind_goals_with (suc d) (suc e) gs (omega (arith, q)) x)
    bind_goal_with d e (Forall T gs) q x = ap (Forall T) (bind_goals_with (suc d) (suc e) gs (omega (arith, q)) x)
    bind_goal_with d e (Assume w cs gs) q x = λ i. Assume nothing_written (bind_clauses_with d e cs q x.0 i) (bind_goals_with d e gs q x.1 i)
    bind_goal_with d e (Not w gs) q x = ap (Not nothing_written) (bind_goals_with d e gs q x)

    pub bind_goals_with : (d e : ℕ) (gs : Goals) → e ≡ m + d → AreThrough IsBindable d gs →
        map_goals suc (bind_term rs home) same_type d (said_goals σ a d gs) ≡ said_goals τ b e gs
    bind_goals_with d e no_goals q x = refl
    bind_goals_with d e (goals g gs) q x = λ i. goals (bind_goal_with d e g q x.0 i) (bind_goals_with d e gs q x.1 i)

    pub bind_clauses_with : (d e : ℕ) (cs : Clauses) → e ≡ m + d → AllThrough IsBindable d cs →
        map_clauses suc (bind_term rs home) same_type d (said_clauses σ a d cs) ≡ said_clauses τ b e cs
    bind_clauses_with d e no_clauses q x = refl
    bind_clauses_with d e (clauses (clause j vs h t) cs) q x =
        let f = under_all suc vs d in
        let g = under_all suc vs e in
        let r = under_behind m vs d e q in
        let head : bind_term rs home (under_all suc (map same_type vs) d) (with_variables σ a f h) ≡ with_variables τ b g h =
        ap (λ k. bind_term rs home k (with_variables σ a f h)) (under_same vs d) ∙ bind_term_with f g h r x.0.0 x.0.1 in
        let body : map_goals suc (bind_term rs home) same_type (under_all suc (map same_type vs) d) (said_goals σ a f t) ≡ said_goals τ b g t =
        ap (λ k. map_goals suc (bind_term rs home) same_type k (said_goals σ a f t)) (under_same vs d) ∙ bind_goals_with f g t r x.1 in
        λ i. clauses (clause j (types_same (map same_type vs) i) (head i) (body i)) (bind_clauses_with d e cs q x.2 i)

-- one variable that was pushed

bind_itself : (r home d : ℕ) → bind_term (r ∷ []) home d (variable r home) ≡ index d
bind_itself r home d = (λ i. index_or (if eq-eqb home home refl i then (if eq-eqb r r refl i then Some d else None) else None) (atom (logic r home)))

pub bind_another : (r k home d : ℕ) → (k ≡ r → ⊥) → bind_term (r ∷ []) home d (variable k home) ≡ variable k home
bind_another r k home d e = (λ i. index_or (if eq-eqb home home refl i then (if ne_eqb k r e i then Some d else None) else None) (atom (logic k home)))

pub one_binds : (home r : ℕ) (σ : ℕ → Term) (a : Around) (v : Seen) → IsShort a → ((i l d : ℕ) → level_in a i ≡ Some l → bind_term (r ∷ []) home d (σ l) ≡ σ l) →
    Binds home (r ∷ []) 1 (with_level σ (new_level a) (variable r home)) (pushed a v) σ a
one_binds home r σ a v short free = record {
  inner = λ d j lt.
      let z : j ≡ 0 = omega (arith, lt) in
      ap (bind_term (r ∷ []) home d) (ap (λ k. level_term more (level_in (pushed a v) k)) z ∙ ap (level_term more) (level_first a v short) ∙ at_new) ∙ bind_itself r home d
      ∙ (let y : d ≡ d + j = omega (arith, lt) in ap index y);
  outer = λ d j le w.
      let z : j ≡ suc (j - 1) = omega (arith, le) in
      let next = ap (level_in (pushed a v)) z ∙ level_next a v (j - 1) short in
      let here : level_in a (j - 1) ≡ Some w.0 = sym next ∙ w.1 in
      ap (bind_term (r ∷ []) home d) (ap (level_term more) w.1 ∙ at_old w.0 (level_lower a (j - 1) w.0 short here)) ∙ free (j - 1) w.0 d here ∙ sym (ap (level_term σ) here);
}
  where
    more : ℕ → Term
    more = with_level σ (new_level a) (variable r home)

    at_new : more (new_level a) ≡ variable r home
    at_new = ap (λ t. if t then variable r home else σ (new_level a)) (eq-eqb (new_level a) (new_level a) refl)

    at_old : (l : ℕ) → l < new_level a → more l ≡ σ l
    at_old l q = ap (λ t. if t then variable r home else σ l) (ne_eqb l (new_level a) (λ z. absurd (omega (arith, z, q))))
