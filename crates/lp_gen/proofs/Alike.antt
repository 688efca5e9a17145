-- What is taken does not depend on the registers of the variables around.
use Rattle.std.proofs.Common.{inl, inr, ◌≡◌, ◌∙◌, ℕ, zero, suc, ◌+◌, ◌-◌, ◌^◌, List, [], ◌∷◌, ◌++◌, length, Bool, true, false, Option, Some, None, if◌then◌else◌, ap, refl, sym, subst}
use Rattle.std.specs.Prelude.{min, nat_le, reverse, slice_get, option_and_then}
use Rattle.lp_calculus.specs.Types.{Ty}
use Rattle.lp_calculus.specs.Term.{Term, Atom, index, atom, abs, app, constant, integer, text, eigen, logic, param}
use Rattle.lp_calculus.specs.Typing.{o_type}
use Rattle.lp_calculus.specs.Spine.{head_of, arguments}
use Rattle.lp_model.specs.Flat.{Goal, Goals, Clauses, Atomic, Cut, Either, Exists, Forall, Assume, Not, no_goals, goals, clause, no_clauses, clauses}
use Rattle.lp_gen.specs.Steps.{first_place, level_first, if_unset, from_of, to_of, Step, apply_last, abstract_last, make_variable, from_register, Seen, Around, one_step, marked, set_level, at_level, level_in, level_below}
use Rattle.lp_gen.specs.Steps.{Listed, listed, Headed, headed, index_listed, bound_listed, level_listed, found_listed, seen_listed, atom_listed, abstracted, as_head, with_argument, applied, type_or}
use Rattle.lp_gen.specs.Steps.{bound_or, index_type, head_type, atom_function}
use Rattle.lp_gen.specs.Registers.{past, Amount, nothing, both, step_takes, steps_take, term_takes, behind_term, terms_take, behind_terms, all_take, call_takes, plain_code, type_takes, call_of, goal_of_head, atom_takes}
use Rattle.lp_gen.specs.Registers.{built_takes, term_got, argument_by, argument_takes, term_left, left_by_first, behind_argument, head_arguments_take, behind_arguments, head_takes, behind_head}
use Rattle.lp_gen.specs.Registers.{predicate_types_take, unset_takes, unset_take, variable_takes, behind_goal, behind_goals, unset, with_unset, in_clauses, start_of, one_given, count_given, count_standing, count_clauses}
use Rattle.lp_gen.specs.Registers.{count_variables, with_variable, all_set, in_body, assume_takes, goal_takes, goals_take, variables_take, body_takes, clause_takes, started, Passes, SomeOfGoal, SomeOfGoals, SomeAssumed}
use Rattle.lp_gen.specs.inner.Alike.{SameSeen, AllSame, IsAlike}
use Rattle.lp_gen.proofs.StepsUsed.{steps_joined}

-- variables that differ in their registers alone

pub same_length : (vs ws : List Seen) → AllSame vs ws → length vs ≡ length ws
same_length [] [] s = refl
same_length [] (w ∷ ws) s = absurd s
same_length (v ∷ vs) [] s = absurd s
same_length (v ∷ vs) (w ∷ ws) s = ap suc (same_length vs ws s.1)

pub same_get : (vs ws : List Seen) (i : ℕ) → AllSame vs ws → SameSeen (slice_get vs i) (slice_get ws i)
same_get [] [] i s = tt
same_get [] (w ∷ ws) i s = absurd s
same_get (v ∷ vs) [] i s = absurd s
same_get (v ∷ vs) (w ∷ ws) zero s = s.0
same_get (v ∷ vs) (w ∷ ws) (suc i) s = same_get vs ws i s.1

same_marked : (vs ws : List Seen) (i : ℕ) → AllSame vs ws → AllSame (marked vs i) (marked ws i)
same_marked [] [] i s = tt
same_marked [] (w ∷ ws) i s = absurd s
same_marked (v ∷ vs) [] i s = absurd s
same_marked (v ∷ vs) (w ∷ ws) zero s = ((s.0.0, refl), s.1)
same_marked (v ∷ vs) (w ∷ ws) (suc i) s = (s.0, same_marked vs ws i s.1)

pub same_joined : (vs ws us xs : List Seen) → AllSame vs ws → AllSame us xs → AllSame (vs ++ us) (ws ++ xs)
same_joined [] [] us xs s t = t
same_joined [] (w ∷ ws) us xs s t = absurd s
same_joined (v ∷ vs) [] us xs s t = absurd s
same_joined (v ∷ vs) (w ∷ ws) us xs s t = (s.0, same_joined vs ws us xs s.1 t)

abbrev made : List Seen → ℕ → (ℕ → Option Seen) → Around
made vs n f = record { own = vs; base = n; captured = f }

at_same : (n l : ℕ) (vs ws : List Seen) (f g : ℕ → Option Seen) → AllSame vs ws → ((l : ℕ) → SameSeen (f l) (g l)) → SameSeen (at_level (made vs n f) l) (at_level (made ws n g) l)
at_same n l vs ws f g s t = go (nat_le n l)
  where
    go : (b : Bool) → SameSeen (if b then slice_get vs (l - n) else f l) (if b then slice_get ws (l - n) else g l)
    go true = same_get vs ws (l - n) s
    go false = t l

pub alike_at : (a b : Around) (l : ℕ) → IsAlike a b → SameSeen (at_level a l) (at_level b l)
alike_at a b l x = subst (λ n. SameSeen (at_level a l) (at_level (made b.own n b.captured) l)) x.base (at_same a.base l a.own b.own a.captured b.captured x.own x.captured)

set_same : (n l : ℕ) (vs ws : List Seen) (f g : ℕ → Option Seen) → AllSame vs ws → ((l : ℕ) → SameSeen (f l) (g l)) → IsAlike (set_level (made vs n f) l) (set_level (made ws n g) l)
set_same n l vs ws f g s t = go (nat_le n l)
  where
    go : (b : Bool) → IsAlike (if b then made (marked vs (l - n)) n f else made vs n f) (if b then made (marked ws (l - n)) n g else made ws n g)
    go true = record { base = refl; own = same_marked vs ws (l - n) s; captured = t }
    go false = record { base = refl; own = s; captured = t }

pub alike_set : (a b : Around) (l : ℕ) → IsAlike a b → IsAlike (set_level a l) (set_level b l)
alike_set a b l x = subst (λ n. IsAlike (set_level a l) (set_level (made b.own n b.captured) l)) x.base (set_same a.base l a.own b.own a.captured b.captured x.own x.captured)

pub alike_level : (a b : Around) (i : ℕ) → IsAlike a b → level_in a i ≡ level_in b i
alike_level a b i x = (λ j. level_below (min (x.base j + same_length a.own b.own x.own j) (2 ^ 64 - 1)) i)

-- the steps of a term take the same, and what stands around it then is alike

abbrev SameListed : Listed → Listed → Type 0
SameListed l m = (steps_take l.steps ≡ steps_take m.steps) × IsAlike l.around m.around

seen_same : (a b : Around) (l : ℕ) (v w : Seen) → IsAlike a b → v.of ≡ w.of → v.is_set ≡ w.is_set → SameListed (seen_listed a l v) (seen_listed b l w)
seen_same a b l v w x o s = subst (λ t. SameListed (seen_listed a l v) (by w t)) s (go v.is_set)
  where
    by : Seen → Bool → Listed
    by u t = if t then one_step b (from_register u.register) else record { steps = make_variable u.register u.of ∷ from_register u.register ∷ []; around = set_level b l }

    go : (t : Bool) → SameListed (if t then one_step a (from_register v.register) else record { steps = make_variable v.register v.of ∷ from_register v.register ∷ []; around = set_level a l }) (by w t)
    go true = (refl, x)
    go false = (ap (λ T. both (step_takes (make_variable 0 T)) (both nothing nothing)) o, alike_set a b l x)

found_same : (a b : Around) (l : ℕ) (o p : Option Seen) → IsAlike a b → SameSeen o p → SameListed (found_listed a l o) (found_listed b l p)
found_same a b l None None x s = (refl, x)
found_same a b l None (Some w) x s = absurd s
found_same a b l (Some v) None x s = absurd s
found_same a b l (Some v) (Some w) x s = seen_same a b l v w x s.0 s.1

level_same : (a b : Around) (o : Option ℕ) → IsAlike a b → SameListed (level_listed a o) (level_listed b o)
level_same a b None x = (refl, x)
level_same a b (Some l) x = found_same a b l (at_level a l) (at_level b l) x (alike_at a b l x)

bound_same : (C : List Ty) (a b : Around) (i : ℕ) (o : Option Ty) → IsAlike a b → SameListed (bound_listed C a i o) (bound_listed C b i o)
bound_same C a b i (Some T) x = (refl, x)
bound_same C a b i None x =
    subst (λ o. SameListed (level_listed a (level_in a (i - length C))) (level_listed b o)) (alike_level a b (i - length C) x) (level_same a b (level_in a (i - length C)) x)

index_same : (C : List Ty) (a b : Around) (i : ℕ) → IsAlike a b → SameListed (index_listed C a i) (index_listed C b i)
index_same C a b i x = bound_same C a b i (slice_get C i) x

atom_same : (C : List Ty) (a b : Around) (s : Atom) → IsAlike a b → SameListed (atom_listed C a s) (atom_listed C b s)
atom_same C a b (constant c ts) x = (refl, x)
atom_same C a b (integer z) x = (refl, x)
atom_same C a b (text s) x = (refl, x)
atom_same C a b (eigen k) x = index_same C a b 0 x
atom_same C a b (logic y l) x = index_same C a b 0 x
atom_same C a b (param k T) x = index_same C a b 0 x

type_same : (o p : Option Seen) → SameSeen o p → type_or o ≡ type_or p
type_same None None s = refl
type_same None (Some w) s = absurd s
type_same (Some v) None s = absurd s
type_same (Some v) (Some w) s = s.0

level_type_same : (a b : Around) (o : Option ℕ) → IsAlike a b → type_or (option_and_then (at_level a) o) ≡ type_or (option_and_then (at_level b) o)
level_type_same a b None x = refl
level_type_same a b (Some l) x = type_same (at_level a l) (at_level b l) (alike_at a b l x)

bound_type_same : (a b : Around) (i : ℕ) (o : Option Ty) → IsAlike a b → bound_or a i o ≡ bound_or b i o
bound_type_same a b i (Some T) x = refl
bound_type_same a b i None x = level_type_same a b (level_in a i) x ∙ ap (λ o. type_or (option_and_then (at_level b) o)) (alike_level a b i x)

index_type_same : (C : List Ty) (a b : Around) (i : ℕ) → IsAlike a b → index_type C a i ≡ index_type C b i
index_type_same C a b i x = bound_type_same a b (i - length C) (slice_get C i) x

pub head_type_same : (K : ℕ → List Ty → Ty) (C : List Ty) (a b : Around) (t : Term) → IsAlike a b → head_type K C a t ≡ head_type K C b t
head_type_same K C a b (index i) x = index_type_same C a b i x
head_type_same K C a b (atom s) x = refl
head_type_same K C a b (abs c) x = refl
head_type_same K C a b (app t u) x = refl

joined_same : (ss ts us vs : List Step) → steps_take ss ≡ steps_take ts → steps_take us ≡ steps_take vs → steps_take (ss ++ us) ≡ steps_take (ts ++ vs)
joined_same ss ts us vs e f = steps_joined ss us ∙ (λ i. both (e i) (f i)) ∙ sym (steps_joined ts vs)

record SameHeaded (h k : Headed) : Type 0 where
  steps : steps_take h.steps ≡ steps_take k.steps
  around : IsAlike h.around k.around
  function : h.function ≡ k.function
  count : h.count ≡ k.count

as_head_same : (T U : Ty) (l m : Listed) → T ≡ U → SameListed l m → SameHeaded (as_head T l) (as_head U m)
as_head_same T U l m e s = record { steps = s.0; around = s.1; function = e; count = refl }

abstracted_same : (T : Ty) (l m : Listed) → SameListed l m → SameListed (abstracted T l) (abstracted T m)
abstracted_same T l m s = (joined_same l.steps m.steps (abstract_last T ∷ []) (abstract_last T ∷ []) s.0 refl, s.1)

with_argument_same : (h k : Headed) (l m : Listed) → SameHeaded h k → SameListed l m → SameHeaded (with_argument h l) (with_argument k m)
with_argument_same h k l m x s = record {
  steps = joined_same h.steps k.steps l.steps m.steps x.steps s.0;
  around = s.1;
  function = ap to_of x.function;
  count = ap (λ n. n + 1) x.count;
}

applied_same : (h k : Headed) → SameHeaded h k → SameListed (applied h) (applied k)
applied_same h k x = (joined_same h.steps k.steps (apply_last h.count ∷ []) (apply_last k.count ∷ []) x.steps (ap (λ n. steps_take (apply_last n ∷ [])) x.count), x.around)

mutual
  pub listed_same : (K : ℕ → List Ty → Ty) (C : List Ty) (a b : Around) (T : Ty) (t : Term) → IsAlike a b → SameListed (listed K C a T t) (listed K C b T t)
  listed_same K C a b T (index i) x = index_same C a b i x
  listed_same K C a b T (atom s) x = atom_same C a b s x
  listed_same K C a b T (abs c) x =
      abstracted_same (from_of T) (listed K (from_of T ∷ C) a (to_of T) c) (listed K (from_of T ∷ C) b (to_of T) c) (listed_same K (from_of T ∷ C) a b (to_of T) c x)
  listed_same K C a b T (app t u) x =
      let h = headed K C a t in
      let k = headed K C b t in
      let s = headed_same K C a b t x in
      applied_same (with_argument h (listed K C h.around (from_of h.function) u)) (with_argument k (listed K C k.around (from_of k.function) u))
      (with_argument_same h k (listed K C h.around (from_of h.function) u) (listed K C k.around (from_of k.function) u) s
      (subst (λ F. SameListed (listed K C h.around (from_of h.function) u) (listed K C k.around (from_of F) u)) s.function (listed_same K C h.around k.around (from_of h.function) u s.around)))

  headed_same : (K : ℕ → List Ty → Ty) (C : List Ty) (a b : Around) (t : Term) → IsAlike a b → SameHeaded (headed K C a t) (headed K C b t)
  headed_same K C a b (index i) x = as_head_same (index_type C a i) (index_type C b i) (index_listed C a i) (index_listed C b i) (index_type_same C a b i x) (index_same C a b i x)
  headed_same K C a b (atom s) x = as_head_same (atom_function K s) (atom_function K s) (atom_listed C a s) (atom_listed C b s) refl (atom_same C a b s x)
  headed_same K C a b (abs c) x =
      let l = listed K (o_type ∷ C) a o_type c in
      let m = listed K (o_type ∷ C) b o_type c in
      as_head_same o_type o_type (abstracted o_type l) (abstracted o_type m) refl (abstracted_same o_type l m (listed_same K (o_type ∷ C) a b o_type c x))
  headed_same K C a b (app t u) x =
      let h = headed K C a t in
      let k = headed K C b t in
      let s = headed_same K C a b t x in
      with_argument_same h k (listed K C h.around (from_of h.function) u) (listed K C k.around (from_of k.function) u) s
      (subst (λ F. SameListed (listed K C h.around (from_of h.function) u) (listed K C k.around (from_of F) u)) s.function (listed_same K C h.around k.around (from_of h.function) u s.around))

-- terms, arguments, atoms

module _ (K : ℕ → List Ty → Ty) where
  pub term_same : (a b : Around) (T : Ty) (t : Term) → IsAlike a b → (term_takes K a T t ≡ term_takes K b T t) × IsAlike (behind_term K a T t) (behind_term K b T t)
  term_same a b T t x = listed_same K [] a b T t x

  pub terms_same : (a b : Around) (F : Ty) (ts : List Term) → IsAlike a b → (terms_take K a F ts ≡ terms_take K b F ts) × IsAlike (behind_terms K a F ts) (behind_terms K b F ts)
  terms_same a b F [] x = (refl, x)
  terms_same a b F (t ∷ ts) x =
      let s = term_same a b (from_of F) t x in
      let r = terms_same (behind_term K a (from_of F) t) (behind_term K b (from_of F) t) (to_of F) ts s.1 in
      ((λ i. both (s.0 i) (r.0 i)), r.1)

  call_same : (a b : Around) (t : Term) (s : Atom) (us : List Term) → IsAlike a b → call_of K a t s us ≡ call_of K b t s us
  call_same a b t (constant c Ts) us x = ap (λ m. both (all_take Ts) (both m (call_takes c (length Ts) (length us)))) (terms_same a b (K c Ts) us x).0
  call_same a b t (integer z) us x = ap (λ m. both m (plain_code 3 0)) (term_same a b o_type t x).0
  call_same a b t (text s) us x = ap (λ m. both m (plain_code 3 0)) (term_same a b o_type t x).0
  call_same a b t (eigen k) us x = ap (λ m. both m (plain_code 3 0)) (term_same a b o_type t x).0
  call_same a b t (logic y l) us x = ap (λ m. both m (plain_code 3 0)) (term_same a b o_type t x).0
  call_same a b t (param k T) us x = ap (λ m. both m (plain_code 3 0)) (term_same a b o_type t x).0

  by_head_same : (a b : Around) (t h : Term) (us : List Term) → IsAlike a b → goal_of_head K a t h us ≡ goal_of_head K b t h us
  by_head_same a b t (index i) us x = ap (λ m. both m (plain_code 3 0)) (term_same a b o_type t x).0
  by_head_same a b t (atom s) us x = call_same a b t s us x
  by_head_same a b t (abs c) us x = ap (λ m. both m (plain_code 3 0)) (term_same a b o_type t x).0
  by_head_same a b t (app f u) us x = ap (λ m. both m (plain_code 3 0)) (term_same a b o_type t x).0

  pub atom_goal_same : (a b : Around) (t : Term) → IsAlike a b → atom_takes K a t ≡ atom_takes K b t
  atom_goal_same a b t x = by_head_same a b t (head_of t) (arguments t) x

  -- arguments of the head

  abbrev SameGot : Around → Around → Amount → Amount → Around → Around → Type 0
  SameGot a b m n c d = (m ≡ n) × IsAlike c d

  built_same : (a b : Around) (F : Ty) (t : Term) → IsAlike a b → SameGot a b (built_takes K a F t) (built_takes K b F t) (behind_term K a F t) (behind_term K b F t)
  built_same a b F t x = let s = term_same a b F t x in (ap (λ m. both m (plain_code 4 0)) s.0, s.1)

  got_same : (a b : Around) (F : Ty) (t : Term) → IsAlike a b → SameGot a b (term_got K a F t) (term_got K b F t) (term_left K a F t) (term_left K b F t)
  got_same a b F (index i) x = built_same a b F (index i) x
  got_same a b F (atom (constant c Ts)) x = (refl, x)
  got_same a b F (atom (integer z)) x = (refl, x)
  got_same a b F (atom (text s)) x = (refl, x)
  got_same a b F (atom (eigen k)) x = built_same a b F (atom (eigen k)) x
  got_same a b F (atom (logic y l)) x = built_same a b F (atom (logic y l)) x
  got_same a b F (atom (param k T)) x = built_same a b F (atom (param k T)) x
  got_same a b F (abs c) x = built_same a b F (abs c) x
  got_same a b F (app t u) x = built_same a b F (app t u) x

  -- the first place of a variable is that of the same level
  abbrev SameFirst : Option (ℕ × ℕ) → Option (ℕ × ℕ) → Type 0
  SameFirst None None = Unit {0}
  SameFirst None (Some q) = ⊥
  SameFirst (Some p) None = ⊥
  SameFirst (Some p) (Some q) = p.0 ≡ q.0

  unset_first : (l : ℕ) (v w : Seen) (t : Bool) → SameFirst (if t then None else Some (l, v.register)) (if t then None else Some (l, w.register))
  unset_first l v w true = tt
  unset_first l v w false = refl

  seen_first : (l : ℕ) (o p : Option Seen) → SameSeen o p → SameFirst (if_unset l o) (if_unset l p)
  seen_first l None None s = tt
  seen_first l None (Some w) s = absurd s
  seen_first l (Some v) None s = absurd s
  seen_first l (Some v) (Some w) s = subst (λ t. SameFirst (if_unset l (Some v)) (if t then None else Some (l, w.register))) s.1 (unset_first l v w v.is_set)

  level_first_same : (a b : Around) (o : Option ℕ) → IsAlike a b → SameFirst (level_first a o) (level_first b o)
  level_first_same a b None x = tt
  level_first_same a b (Some l) x = seen_first l (at_level a l) (at_level b l) (alike_at a b l x)

  first_same : (a b : Around) (t : Term) → IsAlike a b → SameFirst (first_place a t) (first_place b t)
  first_same a b (index i) x = subst (λ o. SameFirst (level_first a (level_in a i)) (level_first b o)) (alike_level a b i x) (level_first_same a b (level_in a i) x)
  first_same a b (atom s) x = tt
  first_same a b (abs c) x = tt
  first_same a b (app t u) x = tt

  by_first_same : (a b : Around) (F : Ty) (t : Term) (o p : Option (ℕ × ℕ)) → IsAlike a b → SameFirst o p →
      SameGot a b (argument_by K a F t o) (argument_by K b F t p) (left_by_first K a F t o) (left_by_first K b F t p)
  by_first_same a b F t None None x s = got_same a b F t x
  by_first_same a b F t None (Some q) x s = absurd s
  by_first_same a b F t (Some p) None x s = absurd s
  by_first_same a b F t (Some p) (Some q) x s = (refl, subst (λ l. IsAlike (set_level a p.0) (set_level b l)) s (alike_set a b p.0 x))

  pub argument_got_same : (a b : Around) (F : Ty) (t : Term) → IsAlike a b → SameGot a b (argument_takes K a F t) (argument_takes K b F t) (behind_argument K a F t) (behind_argument K b F t)
  argument_got_same a b F t x = by_first_same a b F t (first_place a t) (first_place b t) x (first_same a b t x)

  pub head_arguments_same : (a b : Around) (i : ℕ) (F : Ty) (ts : List Term) → IsAlike a b →
      SameGot a b (head_arguments_take K a i F ts) (head_arguments_take K b i F ts) (behind_arguments K a F ts) (behind_arguments K b F ts)
  head_arguments_same a b i F [] x = (refl, x)
  head_arguments_same a b i F (t ∷ ts) x =
      let s = argument_got_same a b (from_of F) t x in
      let r = head_arguments_same (behind_argument K a (from_of F) t) (behind_argument K b (from_of F) t) (suc i) (to_of F) ts s.1 in
      ((λ j. both (both (plain_code 0 (past 255 i)) (s.0 j)) (r.0 j)), r.1)

  pub head_same : (a b : Around) (t : Term) → IsAlike a b → SameGot a b (head_takes K a t) (head_takes K b t) (behind_head K a t) (behind_head K b t)
  head_same a b t x =
      let H = head_type K [] a (head_of t) in
      let e = head_type_same K [] a b (head_of t) x in
      let s = head_arguments_same a b 0 H (arguments t) x in (
        ap (both (predicate_types_take (head_of t))) (s.0 ∙ ap (λ F. head_arguments_take K b 0 F (arguments t)) e),
        subst (λ F. IsAlike (behind_arguments K a H (arguments t)) (behind_arguments K b F (arguments t))) e s.1,
      )

-- variables that are not set

one_unset_same : (v w : Seen) → v.of ≡ w.of → v.is_set ≡ w.is_set → unset_takes v ≡ unset_takes w
one_unset_same v w o s = (λ i. if s i then nothing else both (type_takes (o i)) (plain_code 5 0))

pub unset_same : (vs ws : List Seen) → AllSame vs ws → unset_take vs ≡ unset_take ws
unset_same [] [] s = refl
unset_same [] (w ∷ ws) s = absurd s
unset_same (v ∷ vs) [] s = absurd s
unset_same (v ∷ vs) (w ∷ ws) s =
    let e = one_unset_same v w s.0.0 s.0.1 in
    let f = unset_same vs ws s.1 in
    (λ i. both (e i) (f i))

-- goals

all_set_same : (vs ws : List Seen) → AllSame vs ws → AllSame (all_set vs) (all_set ws)
all_set_same [] [] s = tt
all_set_same [] (w ∷ ws) s = absurd s
all_set_same (v ∷ vs) [] s = absurd s
all_set_same (v ∷ vs) (w ∷ ws) s = ((s.0.0, refl), all_set_same vs ws s.1)

pub in_body_same : (a b : Around) → IsAlike a b → IsAlike (in_body a) (in_body b)
in_body_same a b x = record { base = x.base; own = all_set_same a.own b.own x.own; captured = x.captured }

pub with_variable_same : (a b : Around) (T : Ty) → IsAlike a b → IsAlike (with_variable a T) (with_variable b T)
with_variable_same a b T x = record {
  base = x.base;
  own = same_joined a.own b.own (record { register = 0; of = T; is_set = true } ∷ []) (record { register = 0; of = T; is_set = true } ∷ []) x.own ((refl, refl), tt);
  captured = x.captured;
}

pub count_same : (a b : Around) → IsAlike a b → count_variables a ≡ count_variables b
count_same a b x = (λ i. x.base i + same_length a.own b.own x.own i)

pub itself_same : (vs : List Seen) → AllSame vs vs
itself_same [] = tt
itself_same (v ∷ vs) = ((refl, refl), itself_same vs)

pub seen_itself : (o : Option Seen) → SameSeen o o
seen_itself None = tt
seen_itself (Some v) = (refl, refl)

pub alike_itself : (a : Around) → IsAlike a a
alike_itself a = record { base = refl; own = itself_same a.own; captured = λ l. seen_itself (a.captured l) }

seen_then : (o p q : Option Seen) → SameSeen o p → SameSeen p q → SameSeen o q
seen_then None None q s t = t
seen_then None (Some w) q s t = absurd s
seen_then (Some v) None q s t = absurd s
seen_then (Some v) (Some w) None s t = absurd t
seen_then (Some v) (Some w) (Some u) s t = (s.0 ∙ t.0, s.1 ∙ t.1)

all_then : (us vs ws : List Seen) → AllSame us vs → AllSame vs ws → AllSame us ws
all_then [] [] ws s t = t
all_then [] (v ∷ vs) ws s t = absurd s
all_then (u ∷ us) [] ws s t = absurd s
all_then (u ∷ us) (v ∷ vs) [] s t = absurd t
all_then (u ∷ us) (v ∷ vs) (w ∷ ws) s t = ((s.0.0 ∙ t.0.0, s.0.1 ∙ t.0.1), all_then us vs ws s.1 t.1)

pub alike_then : {a b c : Around} → IsAlike a b → IsAlike b c → IsAlike a c
alike_then {a} {b} {c} x y = record {
  base = x.base ∙ y.base;
  own = all_then a.own b.own c.own x.own y.own;
  captured = λ l. seen_then (a.captured l) (b.captured l) (c.captured l) (x.captured l) (y.captured l);
}

mutual
  pub behind_goal_same : (a b : Around) (g : Goal) → IsAlike a b → IsAlike (behind_goal a g) (behind_goal b g)
  behind_goal_same a b (Atomic t) x = x
  behind_goal_same a b Cut x = x
  behind_goal_same a b (Either gs hs) x = x
  behind_goal_same a b (Exists T gs) x = behind_goals_same (with_variable a T) (with_variable b T) gs (with_variable_same a b T x)
  behind_goal_same a b (Forall T gs) x = x
  behind_goal_same a b (Assume w cs gs) x = x
  behind_goal_same a b (Not w gs) x = x

  pub behind_goals_same : (a b : Around) (gs : Goals) → IsAlike a b → IsAlike (behind_goals a gs) (behind_goals b gs)
  behind_goals_same a b no_goals x = x
  behind_goals_same a b (goals g gs) x = behind_goals_same (behind_goal a g) (behind_goal b g) gs (behind_goal_same a b g x)

-- what assumed records start with

if_same : (t : Bool) (o p : Option Seen) → SameSeen o p → SameSeen (if t then o else None) (if t then p else None)
if_same true o p s = s
if_same false o p s = tt

pub start_same : (a b : Around) (cs : Clauses) → IsAlike a b → IsAlike (start_of a cs) (start_of b cs)
start_same a b cs x = record {
  base = count_same a b x;
  own = tt;
  captured = λ l. subst (λ n. SameSeen (if in_clauses (count_variables a - l - 1) cs then at_level a l else None) (if in_clauses (n - l - 1) cs then at_level b l else None)) (count_same a b x)
      (if_same (in_clauses (count_variables a - l - 1) cs) (at_level a l) (at_level b l) (alike_at a b l x));
}

one_same : (o p : Option Seen) → SameSeen o p → one_given o ≡ one_given p
one_same None None s = refl
one_same None (Some w) s = absurd s
one_same (Some v) None s = absurd s
one_same (Some v) (Some w) s = refl

pub given_same : (f g : ℕ → Option Seen) (n : ℕ) → ((l : ℕ) → SameSeen (f l) (g l)) → count_given f n ≡ count_given g n
given_same f g zero s = refl
given_same f g (suc l) s = let e = one_same (f l) (g l) (s l) in let r = given_same f g l s in (λ i. e i + r i)

pub start_count_same : (a b : Around) → IsAlike a b → count_given a.captured a.base ≡ count_given b.captured b.base
start_count_same a b x = given_same a.captured b.captured a.base x.captured ∙ ap (count_given b.captured) x.base

pub standing_same : (a b : Around) (cs : Clauses) → IsAlike a b → count_standing a cs ≡ count_standing b cs
standing_same a b cs x = start_count_same (start_of a cs) (start_of b cs) (start_same a b cs x)

pub with_unset_same : (a b : Around) (Ts : List Ty) → IsAlike a b → IsAlike (with_unset a Ts) (with_unset b Ts)
with_unset_same a b Ts x = record { base = x.base; own = itself_same (unset (reverse Ts)); captured = x.captured }

module _ (K : ℕ → List Ty → Ty) (v : ℕ) where
  mutual
    pub goal_same : (a b : Around) (g : Goal) → IsAlike a b → goal_takes K v a g ≡ goal_takes K v b g
    goal_same a b (Atomic t) x = atom_goal_same K a b t x
    goal_same a b Cut x = refl
    goal_same a b (Either gs hs) x = (λ i. both (plain_code 5 0) (both (goals_same a b gs x i) (both (plain_code 5 0) (goals_same a b hs x i))))
    goal_same a b (Exists T gs) x = ap (both (variable_takes T)) (goals_same (with_variable a T) (with_variable b T) gs (with_variable_same a b T x))
    goal_same a b (Forall T gs) x = ap (λ m. both (variable_takes T) (both m (plain_code 1 0))) (goals_same (with_variable a T) (with_variable b T) gs (with_variable_same a b T x))
    goal_same a b (Assume w cs gs) x = (λ i. both (assume_takes v (standing_same a b cs x i) (count_clauses cs)) (both (goals_same a b gs x i) (plain_code 1 0)))
    goal_same a b (Not w gs) x = ap (λ m. both (plain_code 1 0) (both m (plain_code 1 0))) (goals_same a b gs x)

    pub goals_same : (a b : Around) (gs : Goals) → IsAlike a b → goals_take K v a gs ≡ goals_take K v b gs
    goals_same a b no_goals x = refl
    goals_same a b (goals g gs) x = (λ i. both (goal_same a b g x i) (goals_same (behind_goal a g) (behind_goal b g) gs (behind_goal_same a b g x) i))

  -- so do records

  body_same : (a b : Around) (gs : Goals) → IsAlike a b → body_takes K v a gs ≡ body_takes K v b gs
  body_same a b gs x =
      let e = unset_same a.own b.own x.own in
      let r = goals_same (in_body a) (in_body b) gs (in_body_same a b x) in
      (λ i. both (e i) (both (plain_code 1 0) (both (r i) (plain_code 1 0))))

  pub clause_same : (s t : Around) (vs : List Ty) (h : Term) (b : Goals) → IsAlike s t → clause_takes K v s vs h b ≡ clause_takes K v t vs h b
  clause_same s t vs h b x =
      let p = head_same K (with_unset s vs) (with_unset t vs) h (with_unset_same s t vs x) in
      let r = body_same (behind_head K (with_unset s vs) h) (behind_head K (with_unset t vs) h) b p.1 in
      (λ i. both (variables_take (length vs)) (both (p.0 i) (r i)))

  mutual
    pub some_goal_same : (a b : Around) (g : Goal) → IsAlike a b → SomeOfGoal K v a g → SomeOfGoal K v b g
    some_goal_same a b (Atomic t) x p = absurd p
    some_goal_same a b Cut x p = absurd p
    some_goal_same a b (Either gs hs) x (inl p) = inl (some_goals_same a b gs x p)
    some_goal_same a b (Either gs hs) x (inr p) = inr (some_goals_same a b hs x p)
    some_goal_same a b (Exists T gs) x p = some_goals_same (with_variable a T) (with_variable b T) gs (with_variable_same a b T x) p
    some_goal_same a b (Forall T gs) x p = some_goals_same (with_variable a T) (with_variable b T) gs (with_variable_same a b T x) p
    some_goal_same a b (Assume w cs gs) x (inl p) = inl (some_assumed_same (start_of a cs) (start_of b cs) cs (start_same a b cs x) p)
    some_goal_same a b (Assume w cs gs) x (inr p) = inr (some_goals_same a b gs x p)
    some_goal_same a b (Not w gs) x p = some_goals_same a b gs x p

    pub some_goals_same : (a b : Around) (gs : Goals) → IsAlike a b → SomeOfGoals K v a gs → SomeOfGoals K v b gs
    some_goals_same a b no_goals x p = absurd p
    some_goals_same a b (goals g gs) x (inl p) = inl (some_goal_same a b g x p)
    some_goals_same a b (goals g gs) x (inr p) = inr (some_goals_same (behind_goal a g) (behind_goal b g) gs (behind_goal_same a b g x) p)

    pub some_assumed_same : (s t : Around) (cs : Clauses) → IsAlike s t → SomeAssumed K v s cs → SomeAssumed K v t cs
    some_assumed_same s t no_clauses x p = absurd p
    some_assumed_same s t (clauses (clause n vs h b) cs) x (inl p) =
        let e = start_count_same s t x in let r = clause_same s t vs h b x in inl (subst Passes (λ i. both (started v (e i)) (r i)) p)
    some_assumed_same s t (clauses (clause n vs h b) cs) x (inr (inl p)) = inr (inl (some_goals_same (in_body (with_unset s vs)) (in_body (with_unset t vs)) b (in_body_same _ _ (with_unset_same s t vs x)) p))
    some_assumed_same s t (clauses (clause n vs h b) cs) x (inr (inr p)) = inr (inr (some_assumed_same s t cs x p))
