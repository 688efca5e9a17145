-- The law of terms: the steps of a term that is typed, known and in normal form are fine, and make the term.
use Rattle.std.proofs.Common.{◌≡◌, ◌∙◌, ◌<◌, ◌≤◌, ℕ, zero, suc, ◌+◌, ◌-◌, List, [], ◌∷◌, ◌++◌, append_assoc, length, take, drop, Bool, true, false, Option, Some, None, ap, refl, sym, subst, arith, true≢false}
use Rattle.std.specs.Prelude.{All, nat_eq, nat_lt, not, ◌||◌, if◌then◌else◌, is_none, is_some, slice_get, slice_index_or, unwrap_or, option_and_then}
use Rattle.std.proofs.lemmas.Bool.{eqb-true, eq-eqb, lt-ltb, le-ltb}
use Rattle.std.proofs.lemmas.List.{map-append, length-append}
use Rattle.std.proofs.lemmas.Option.{slice_get_within, slice_get_past}
use Rattle.lp_lemmas.proofs.Booleans.{and_true_left, and_true_right}
use Rattle.lp_calculus.specs.Types.{Ty, var, param as type_param, con, arrow, instance}
use Rattle.lp_calculus.specs.Term.{Term, Atom, index, atom, abs, app, apply, constant, integer, text, eigen, logic, param}
use Rattle.lp_calculus.specs.Typing.{Scheme, o_type, int_type, string_type, scheme_type, type_at, HasType}
use Rattle.lp_calculus.specs.Convert.{leftmost_step, option_term, or_else}
use Rattle.lp_standard.specs.Positive.{is_positive, is_positive_constant}
use Rattle.lp_code.specs.Symbolic.{Built, variable, held, whole, agree_at, innermost, bound_index, abstraction_of, application_of, applied_type, all_agree, plain_terms}
use Rattle.lp_code.specs.States.{Home}
use Rattle.lp_code.specs.Steps.{constant_of}
use Rattle.lp_code.specs.Rules.{applies, built_types, has_count, is_no_term}
use Rattle.lp_gen.specs.Sources.{types_by, IsKnownType, IsKnownAtom, IsKnownTerm}
use Rattle.lp_gen.specs.Limits.{atom_strings, long_strings}
use Rattle.lp_gen.proofs.ShortStrings.{string_short}
use Rattle.lp_gen.specs.Steps.{from_of, to_of, Step, make_constant, make_integer, make_text, make_index, make_variable, from_register, apply_last, abstract_last, Seen, Around, at_level, level_in, set_level, Listed, one_step, found_listed, level_listed, bound_listed, index_listed, atom_listed, type_or, bound_or, index_type, atom_function, Headed, as_head, with_argument, applied, abstracted, listed, headed}
use Rattle.lp_gen.specs.inner.Running.{built_at}
use Rattle.lp_gen.specs.inner.TermSteps.{Stack, stack, made_variable, last_built, before_last, step_built, IsFine, steps_built, AreFine}
use Rattle.lp_gen.specs.inner.TermLaw.{SameSides, Asks, AsksConstants, Standing, IsShortAtom, KnownAtoms, AllLoose, IsSeen, level_term, index_term, with_variables, AreOf, AllOf, IsBuilt, SameAround, Made, Comes, ComesWith}
use Rattle.lp_gen.proofs.Denoting.{held_set}
use Rattle.lp_gen.proofs.LooseOf.{both_true, none_some, some_same, all_agree_of, all_joined_of, all_of_push, bound_of, outer_of, innermost_of, apply_push, applied_more}
use Rattle.lp_gen.proofs.AroundSet.{around_same, around_then, around_set, all_seen, variables_same, standing_set, made_same, made_one, made_both}

-- steps one after the other

pub built_both : (h : Home) (os ps : List Step) (s : Stack) → steps_built h (os ++ ps) s ≡ steps_built h ps (steps_built h os s)
built_both h [] ps s = refl
built_both h (o ∷ os) ps s = built_both h os ps (step_built h o s)

pub fine_both : (h : Home) (v n : ℕ) (i : Bool) (os ps : List Step) (s : Stack) → AreFine h v n i os s → AreFine h v n i ps (steps_built h os s) → AreFine h v n i (os ++ ps) s
fine_both h v n i [] ps s a b = b
fine_both h v n i (o ∷ os) ps s a b = (a.0, fine_both h v n i os ps (step_built h o s) a.1 b)

-- the ends of a stack

at_end : (xs : List Built) (y d : Built) → slice_index_or (xs ++ y ∷ []) (length xs) d ≡ y
at_end [] y d = refl
at_end (x ∷ xs) y d = at_end xs y d

take_end : (xs ys : List Built) → take (length xs) (xs ++ ys) ≡ xs
take_end [] ys = refl
take_end (x ∷ xs) ys = ap (λ l. x ∷ l) (take_end xs ys)

drop_end : (xs ys : List Built) → drop (length xs) (xs ++ ys) ≡ ys
drop_end [] ys = refl
drop_end (x ∷ xs) ys = drop_end xs ys

last_push : (xs : List Built) (y : Built) → last_built (xs ++ y ∷ []) ≡ y
last_push xs y =
    let l : length (xs ++ y ∷ []) - 1 ≡ length xs = let q = length-append xs (y ∷ []) in omega (arith, q) in
    ap (λ k. slice_index_or (xs ++ y ∷ []) k (whole (index 0) o_type)) l ∙ at_end xs y (whole (index 0) o_type)

before_push : (xs : List Built) (y : Built) → before_last (xs ++ y ∷ []) ≡ xs
before_push xs y =
    let l : length (xs ++ y ∷ []) - 1 ≡ length xs = let q = length-append xs (y ∷ []) in omega (arith, q) in
    ap (λ k. take k (xs ++ y ∷ [])) l ∙ take_end xs (y ∷ [])

-- what is typed of a term in normal form

no_step : (t : Term) → Some t ≡ None → ⊥
no_step t e = cc

option_none : (f : Term → Term) (o : Option Term) → option_term f o ≡ None → o ≡ None
option_none f None e = refl
option_none f (Some t) e = absurd (no_step (f t) e)

else_none : (o p : Option Term) → or_else o p ≡ None → (o ≡ None) × (p ≡ None)
else_none None p e = (refl, e)
else_none (Some t) p e = absurd (no_step t e)

abbrev pub IsNoAbstraction : Term → Type 0
IsNoAbstraction (index i) = Unit {0}
IsNoAbstraction (atom s) = Unit {0}
IsNoAbstraction (abs b) = ⊥
IsNoAbstraction (app t u) = Unit {0}

pub normal_parts : (t u : Term) → leftmost_step (app t u) ≡ None → (leftmost_step t ≡ None) × (leftmost_step u ≡ None) × IsNoAbstraction t
normal_parts (index i) u e = (refl, option_none (app (index i)) (leftmost_step u) e, tt)
normal_parts (atom s) u e = (refl, option_none (app (atom s)) (leftmost_step u) e, tt)
normal_parts (abs b) u e = absurd (no_step _ e)
normal_parts (app t v) u e =
    let w = else_none (option_term (λ s. app s u) (leftmost_step (app t v))) (option_term (app (app t v)) (leftmost_step u)) e in
    (option_none (λ s. app s u) (leftmost_step (app t v)) w.0, option_none (app (app t v)) (leftmost_step u) w.1, tt)

short_atom : (κ : ℕ → Option ℕ) (n : ℕ) (s : Atom) → IsKnownAtom κ n s → atom_strings s ≡ 0 → IsShortAtom κ n s
short_atom κ n (constant c Ts) k e = k
short_atom κ n (integer z) k e = tt
short_atom κ n (text s) k e = string_short s e
short_atom κ n (eigen j) k e = absurd k
short_atom κ n (logic x l) k e = absurd k
short_atom κ n (param j T) k e = absurd k

pub known_atoms : (κ : ℕ → Option ℕ) (n d m : ℕ) (t : Term) → IsKnownTerm κ n d m t → long_strings t ≡ 0 → KnownAtoms κ n t
known_atoms κ n d m (index i) k e = tt
known_atoms κ n d m (atom s) k e = short_atom κ n s k (omega (arith, e))
known_atoms κ n zero m (abs b) k e = absurd k
known_atoms κ n (suc d) m (abs b) k e = known_atoms κ n d 0 b k (omega (arith, e))
known_atoms κ n zero m (app t u) k e = absurd k
known_atoms κ n (suc d) m (app t u) k e = (known_atoms κ n (suc d) (suc m) t k.1 (omega (arith, e)), known_atoms κ n d 0 u k.2 (omega (arith, e)))

-- the types of indices

here_type : (C Γ : List Ty) (i : ℕ) (T U : Ty) → slice_get C i ≡ Some U → slice_get (C ++ Γ) i ≡ Some T → U ≡ T
here_type [] Γ i T U e f = absurd (none_some U (sym (slice_get_past [] i (omega arith)) ∙ e))
here_type (V ∷ C) Γ zero T U e f = some_same U T (sym e ∙ f)
here_type (V ∷ C) Γ (suc i) T U e f = here_type C Γ i T U e f

outer_type : (C Γ : List Ty) (i : ℕ) → slice_get C i ≡ None → (slice_get (C ++ Γ) i ≡ slice_get Γ (i - length C)) × (length C ≤ i)
outer_type [] Γ i e = (ap (slice_get Γ) (let z : i ≡ i - 0 = omega arith in z), omega arith)
outer_type (V ∷ C) Γ zero e = absurd (none_some V (sym e))
outer_type (V ∷ C) Γ (suc i) e = let w = outer_type C Γ i e in let l = w.1 in (w.0 ∙ ap (slice_get Γ) (let z : i - length C ≡ suc i - suc (length C) = omega (arith, l) in z), omega (arith, l))

-- functions

pub asks_same : (T : Ty) → Asks T T
asks_same (var i) = tt
asks_same (type_param k) = tt
asks_same (con k ts) = tt
asks_same (arrow a b) = ((refl, refl), asks_same b)

abbrev pub KnownSides : (kinds : ℕ → Option ℕ) → (vars : ℕ) → Ty → Type 0
KnownSides κ n (var i) = Unit {0}
KnownSides κ n (type_param k) = Unit {0}
KnownSides κ n (con k ts) = Unit {0}
KnownSides κ n (arrow a b) = IsKnownType κ n a × IsKnownType κ n b

pub known_sides : (κ : ℕ → Option ℕ) (n : ℕ) (T : Ty) → IsKnownType κ n T → KnownSides κ n T
known_sides κ n (var i) k = tt
known_sides κ n (type_param j) k = tt
known_sides κ n (con c ts) k = tt
known_sides κ n (arrow a b) k = k

pub is_term : (c : ℕ) → is_positive_constant c ≡ true → is_no_term c ≡ false
is_term c e = go (nat_eq c 2) (nat_eq c 3) (nat_eq c 7) (nat_eq c 24) e
  where
    go : (p q r s : Bool) → not (p || q || r || s) ≡ true → (p || (q || (r || (s || false)))) ≡ false
    go true q r s e = absurd (true≢false (sym e))
    go false true r s e = absurd (true≢false (sym e))
    go false false true s e = absurd (true≢false (sym e))
    go false false false true e = absurd (true≢false (sym e))
    go false false false false e = refl

pub has_scheme : (Ts : List Ty) (s : Option Scheme) (T : Ty) → scheme_type Ts s ≡ Some T → has_count s (length Ts) ≡ true
has_scheme Ts None T e = absurd (none_some T e)
has_scheme Ts (Some s) T e = go (nat_eq (length Ts) s.count) refl e
  where
    go : (t : Bool) → nat_eq (length Ts) s.count ≡ t → (if t then Some (instance (type_at Ts) s.body) else None) ≡ Some T → nat_eq s.count (length Ts) ≡ true
    go true f g = eq-eqb s.count (length Ts) (sym (eqb-true (length Ts) s.count f))
    go false f g = absurd (none_some T g)

module _ (h : Home) (v n : ℕ) (i : Bool) (σ : ℕ → Term) (Γ : List Ty) (K : ℕ → List Ty → Ty) (asks : AsksConstants h.tables K)
    (known : (c : ℕ) (Ts : List Ty) (T : Ty) → scheme_type Ts (h.tables.constants c) ≡ Some T → All (IsKnownType h.tables.kinds v) Ts → IsKnownType h.tables.kinds v T) where
  abbrev AllKnown : List Ty → Type 0
  AllKnown C = (k : ℕ) (T : Ty) → slice_get C k ≡ Some T → IsKnownType h.tables.kinds v T

  abbrev Lists : List Ty → Around → Ty → Term → Listed → Type 0
  Lists C a T u l = (xs : List (Option Built)) (bs : List Built) → Standing h v n i σ a xs → SameAround a l.around × Made h.number a l.around u × Comes h v n i σ C T u l xs bs

  -- what is known of a head with arguments: the sides of its type, what is read of it, and what stands around
  abbrev Knows : Around → Ty → Headed → Type 0
  Knows a T g = KnownSides h.tables.kinds v T × Asks g.function T × SameAround a g.around

  abbrev Heads : List Ty → Around → Ty → Term → Headed → Type 0
  Heads C a T u g = (xs : List (Option Built)) (bs : List Built) → Standing h v n i σ a xs → Knows a T g × Made h.number a g.around u × ComesWith h v n i σ C T u g xs bs

  -- one step that adds a term
  one_comes : (C : List Ty) (a : Around) (T : Ty) (u : Term) (o : Step) (b : List (Option Built) → Built) →
      ((xs : List (Option Built)) (bs : List Built) → Standing h v n i σ a xs → IsFine h v n i o (stack xs bs) × (step_built h o (stack xs bs) ≡ stack xs (bs ++ b xs ∷ [])) × IsBuilt C T u (b xs)) →
      Lists C a T u (one_step a o)
  one_comes C a T u o b f xs bs st = let w = f xs bs st in (around_same a, made_same h.number a u, record { fine = (w.0, tt); registers = xs; built = b xs; is = w.1; good = w.2; stands = st })

  atom_comes : (C : List Ty) (a : Around) (T : Ty) (s : Atom) → types_by h.tables s ≡ Some T → IsShortAtom h.tables.kinds v s → is_positive (atom s) ≡ true → Lists C a T (atom s) (atom_listed C a s)
  atom_comes C a T (constant c Ts) e k p = one_comes C a T (atom (constant c Ts)) (make_constant c Ts) (λ xs. constant_of h.tables c Ts) (λ xs bs st.
      (record { known = k; declared = has_scheme Ts (h.tables.constants c) T e; in_terms = is_term c p }, refl, record { term = refl; type = ap (λ o. unwrap_or o o_type) e; loose = tt }))
  atom_comes C a T (integer z) e k p = one_comes C a T (atom (integer z)) (make_integer z) (λ xs. whole (atom (integer z)) int_type) (λ xs bs st.
      (tt, refl, record { term = refl; type = some_same int_type T e; loose = tt }))
  atom_comes C a T (text s) e k p = one_comes C a T (atom (text s)) (make_text s) (λ xs. whole (atom (text s)) string_type) (λ xs bs st.
      (k, refl, record { term = refl; type = some_same string_type T e; loose = tt }))
  atom_comes C a T (eigen j) e k p = absurd k
  atom_comes C a T (logic x l) e k p = absurd k
  atom_comes C a T (param j U) e k p = absurd k

  -- a variable that is set, or is made here
  seen_comes : (C : List Ty) (a : Around) (u : Term) (l : ℕ) (w : Seen) (set : Bool) → w.is_set ≡ set → at_level a l ≡ Some w → u ≡ σ l →
      Lists C a w.of u (if set then one_step a (from_register w.register) else record { steps = make_variable w.register w.of ∷ from_register w.register ∷ []; around = set_level a l })
  seen_comes C a u l w true s e t xs bs st = one_comes C a w.of u (from_register w.register) (λ xs. built_at xs w.register) (λ xs bs st.
      let here = st.set l w e s in
      let at : built_at xs w.register ≡ whole (σ l) w.of = ap (λ o. unwrap_or o (whole (index 0) o_type)) here in (
        (st.low l w e, ap is_none here),
        refl,
        record {
          term = ap (λ (b : Built). b.term) at ∙ sym t;
          type = ap (λ (b : Built). b.type) at;
          loose = subst (λ (b : Built). AreOf C b.loose) (sym at) tt;
        },
      )) xs bs st
  seen_comes C a u l w false s e t xs bs st =
      let low = st.low l w e in
      let own = st.unmade l w e s in
      let long = st.long in
      let ys = made_variable h w.register w.of xs in
      let here : held ys w.register ≡ Some (whole (variable w.register h.number) w.of) = held_set xs w.register (whole (variable w.register h.number) w.of) (omega (arith, low, long)) in
      let at : built_at ys w.register ≡ whole (variable w.register h.number) w.of = ap (λ o. unwrap_or o (whole (index 0) o_type)) here in (
        around_set a l own.2,
        made_one h.number a l w u own.2 e (t ∙ own.1),
        record {
          fine = ((low, own.0, st.unset l w e s, st.known l w e), ((low, ap is_none here), tt));
          registers = ys;
          built = built_at ys w.register;
          is = refl;
          good = record { term = ap (λ (b : Built). b.term) at ∙ sym own.1 ∙ sym t; type = ap (λ (b : Built). b.type) at; loose = subst (λ (b : Built). AreOf C b.loose) (sym at) tt };
          stands = standing_set h v n i σ a xs l w st e s;
        },
      )

  index_comes : (C : List Ty) (a : Around) (j : ℕ) (T : Ty) → slice_get (C ++ Γ) j ≡ Some T → AllLoose (IsSeen a Γ) (length C) (index j) → AllKnown (C ++ Γ) →
      Lists C a T (index_term σ a (length C) j) (index_listed C a j)
  index_comes C a j T ty seen kc = go (slice_get C j) refl
    where
      choice : (t : Bool) → nat_lt j (length C) ≡ t → index_term σ a (length C) j ≡ (if t then index j else level_term σ (level_in a (j - length C)))
      choice t e = ap (λ t. if t then index j else level_term σ (level_in a (j - length C))) e

      go : (o : Option Ty) → slice_get C j ≡ o → Lists C a T (index_term σ a (length C) j) (bound_listed C a j o)
      go (Some U) e =
          let same = here_type C Γ j T U e ty in
          one_comes C a T (index_term σ a (length C) j) (make_index j U) (λ xs. bound_index j U) (λ xs bs st. (
            subst (IsKnownType h.tables.kinds v) (sym same) (kc j T ty),
            refl,
            record { term = sym (choice true (lt-ltb j (length C) (slice_get_within C j U e))); type = same; loose = bound_of C j U e },
          ))
      go None e =
          let out = outer_type C Γ j e in
          let x = seen out.1 in
          let same : x.1.of ≡ T = some_same x.1.of T (sym x.4 ∙ sym out.0 ∙ ty) in
          let is : index_term σ a (length C) j ≡ σ x.0 = choice false (le-ltb j (length C) out.1) ∙ ap (level_term σ) x.2 in
          subst (λ U. Lists C a U (index_term σ a (length C) j) (level_listed a (level_in a (j - length C)))) same
          (subst (Lists C a x.1.of (index_term σ a (length C) j)) (sym (ap (level_listed a) x.2 ∙ ap (found_listed a x.0) x.3))
          (seen_comes C a (index_term σ a (length C) j) x.0 x.1 x.1.is_set refl x.3 is))

  index_head : (C : List Ty) (a : Around) (j : ℕ) (T : Ty) → slice_get (C ++ Γ) j ≡ Some T → AllLoose (IsSeen a Γ) (length C) (index j) → index_type C a j ≡ T
  index_head C a j T ty seen = go (slice_get C j) refl
    where
      go : (o : Option Ty) → slice_get C j ≡ o → bound_or a (j - length C) o ≡ T
      go (Some U) e = here_type C Γ j T U e ty
      go None e =
          let out = outer_type C Γ j e in
          let x = seen out.1 in
          ap type_or (ap (option_and_then (at_level a)) x.2 ∙ x.3) ∙ some_same x.1.of T (sym x.4 ∙ sym out.0 ∙ ty)

  -- a head without arguments
  leaf_heads : (C : List Ty) (a : Around) (T F : Ty) (u : Term) (l : Listed) → KnownSides h.tables.kinds v T → Asks F T → Lists C a T u l → Heads C a T u (as_head F l)
  leaf_heads C a T F u l k s f xs bs st =
      let w = f xs bs st in (
        (k, s, w.0),
        w.1,
        record {
          fine = w.2.fine;
          registers = w.2.registers;
          head = w.2.built;
          args = [];
          is = w.2.is;
          count = refl;
          term = w.2.good.term;
          type = ap (λ T. Some T) w.2.good.type;
          loose = w.2.good.loose;
          all_loose = tt;
          stands = w.2.stands;
        },
      )

  atom_head : (T : Ty) (s : Atom) → types_by h.tables s ≡ Some T → IsShortAtom h.tables.kinds v s → KnownSides h.tables.kinds v T × Asks (atom_function K s) T
  atom_head T (constant c Ts) e k = (known_sides h.tables.kinds v T (known c Ts T e k), asks c Ts T e)
  atom_head T (integer z) e k = subst (λ T. KnownSides h.tables.kinds v T × Asks o_type T) (some_same int_type T e) (tt, tt)
  atom_head T (text s) e k = subst (λ T. KnownSides h.tables.kinds v T × Asks o_type T) (some_same string_type T e) (tt, tt)
  atom_head T (eigen j) e k = absurd k
  atom_head T (logic x l) e k = absurd k
  atom_head T (param j U) e k = absurd k

  -- one argument more
  argument_heads : (C : List Ty) (a : Around) (A B : Ty) (t u : Term) (g : Headed) (l : Listed) → Heads C a (arrow A B) t g → (Knows a (arrow A B) g → Lists C g.around A u l) →
      Heads C a B (app t u) (with_argument g l)
  argument_heads C a A B t u g l f arg xs bs st =
      let w = f xs bs st in
      let r = w.2 in
      let y = arg w.0 r.registers (bs ++ r.head ∷ r.args) r.stands in
      let z = y.2 in (
        (known_sides h.tables.kinds v B w.0.0.1, w.0.1.1, around_then a g.around l.around w.0.2 y.0),
        made_both h.number a g.around l.around t u w.1 y.1,
        record {
          fine = fine_both h v n i g.steps l.steps (stack xs bs) r.fine (subst (AreFine h v n i l.steps) (sym r.is) z.fine);
          registers = z.registers;
          head = r.head;
          args = r.args ++ z.built ∷ [];
          is = built_both h g.steps l.steps (stack xs bs) ∙ ap (steps_built h l.steps) r.is ∙ z.is ∙ ap (stack z.registers) (append_assoc bs (r.head ∷ r.args) (z.built ∷ []));
          count = let p = length-append r.args (z.built ∷ []) in let q = r.count in omega (arith, p, q);
          term = ap (apply r.head.term) (map-append (λ (b : Built). b.term) r.args (z.built ∷ [])) ∙ apply_push r.head.term (plain_terms r.args) z.built.term
              ∙ (λ k. app (r.term k) (z.good.term k));
          type = ap (applied_type r.head.type) (map-append (λ (b : Built). b.type) r.args (z.built ∷ []))
              ∙ ap (λ X. applied_type r.head.type (built_types r.args ++ X ∷ [])) z.good.type ∙ applied_more r.head.type (built_types r.args) A B r.type;
          loose = r.loose;
          all_loose = all_of_push C r.args z.built r.all_loose z.good.loose;
          stands = z.stands;
        },
      )

  applies_of : (C : List Ty) (f : Built) (bs : List Built) (T : Ty) → 0 < length bs → applied_type f.type (built_types bs) ≡ Some T → AreOf C f.loose → AllOf C bs → applies f bs ≡ true
  applies_of C f [] T some e l m = absurd (omega (arith, some))
  applies_of C f (b ∷ bs) T some e l m = both_true (is_some (applied_type f.type (built_types (b ∷ bs)))) (all_agree f.loose (b ∷ bs)) (ap is_some e) (all_agree_of C f.loose (b ∷ bs) l m)

  -- an application
  heads_listed : (C : List Ty) (a : Around) (T : Ty) (u : Term) (g : Headed) → 0 < g.count → Heads C a T u g → Lists C a T u (applied g)
  heads_listed C a T u g some f xs bs st =
      let w = f xs bs st in
      let r = w.2 in
      let count = r.count in
      let front = bs ++ r.head ∷ [] in
      let all = bs ++ r.head ∷ r.args in
      let split : all ≡ front ++ r.args = sym (append_assoc bs (r.head ∷ []) r.args) in
      let size : length all ≡ length front + length r.args = ap length split ∙ length-append front r.args in
      let more : length front ≡ length bs + 1 = length-append bs (r.head ∷ []) in
      let left : length all - g.count ≡ length front = omega (arith, size, count) in
      let taken : take (length all - g.count) all ≡ front = (λ k. take (left k) (split k)) ∙ take_end front r.args in
      let dropped : drop (length all - g.count) all ≡ r.args = (λ k. drop (left k) (split k)) ∙ drop_end front r.args in
      let top : last_built (take (length all - g.count) all) ≡ r.head = ap last_built taken ∙ last_push bs r.head in
      let bottom : before_last (take (length all - g.count) all) ≡ bs = ap before_last taken ∙ before_push bs r.head in (
        w.0.2,
        w.1,
        record {
          fine = fine_both h v n i g.steps (apply_last g.count ∷ []) (stack xs bs) r.fine (subst (AreFine h v n i (apply_last g.count ∷ [])) (sym r.is) (
            (
              omega (arith, size, more, count),
              (λ k. applies (top k) (dropped k)) ∙ applies_of C r.head r.args T (omega (arith, some, count)) r.type r.loose r.all_loose,
            ),
            tt,
          ));
          registers = r.registers;
          built = application_of r.head r.args;
          is = built_both h g.steps (apply_last g.count ∷ []) (stack xs bs) ∙ ap (step_built h (apply_last g.count)) r.is
              ∙ (λ k. stack r.registers (bottom k ++ application_of (top k) (dropped k) ∷ []));
          good = record { term = r.term; type = ap (λ o. unwrap_or o o_type) r.type; loose = all_joined_of C r.head.loose r.args r.loose r.all_loose };
          stands = r.stands;
        },
      )

  -- an abstraction
  abstraction_comes : (C : List Ty) (a : Around) (A B : Ty) (u : Term) (l : Listed) → IsKnownType h.tables.kinds v A → Lists (A ∷ C) a B u l → Lists C a (arrow A B) (abs u) (abstracted A l)
  abstraction_comes C a A B u l k f xs bs st =
      let w = f xs bs st in
      let r = w.2 in
      let size = length-append bs (r.built ∷ []) in
      let top : last_built (bs ++ r.built ∷ []) ≡ r.built = last_push bs r.built in (
        w.0,
        w.1,
        record {
          fine = fine_both h v n i l.steps (abstract_last A ∷ []) (stack xs bs) r.fine (subst (AreFine h v n i (abstract_last A ∷ [])) (sym r.is) (
            (
              omega (arith, size),
              k,
              ap (λ (b : Built). agree_at (innermost b.loose) (Some A)) top ∙ innermost_of A C r.built.loose r.good.loose,
            ),
            tt,
          ));
          registers = r.registers;
          built = abstraction_of r.built A;
          is = built_both h l.steps (abstract_last A ∷ []) (stack xs bs) ∙ ap (step_built h (abstract_last A)) r.is
              ∙ (λ k. stack r.registers (before_push bs r.built k ++ abstraction_of (top k) A ∷ []));
          good = record { term = ap abs r.good.term; type = ap (arrow A) r.good.type; loose = outer_of A C r.built.loose r.good.loose };
          stands = r.stands;
        },
      )

  known_cons : (A : Ty) (C : List Ty) → IsKnownType h.tables.kinds v A → AllKnown C → AllKnown (A ∷ C)
  known_cons A C k f zero T e = subst (IsKnownType h.tables.kinds v) (some_same A T e) k
  known_cons A C k f (suc j) T e = f j T e

  mutual
    pub listed_comes : (C : List Ty) (a : Around) (V T : Ty) (t : Term) → HasType (types_by h.tables) (C ++ Γ) t T → leftmost_step t ≡ None → KnownAtoms h.tables.kinds v t → is_positive t ≡ true →
        IsKnownType h.tables.kinds v T → AllKnown (C ++ Γ) → SameSides V T → AllLoose (IsSeen a Γ) (length C) t → Lists C a T (with_variables σ a (length C) t) (listed K C a V t)
    listed_comes C a V T (index j) ty nf k p kt kc same seen = index_comes C a j T ty seen kc
    listed_comes C a V T (atom s) ty nf k p kt kc same seen = atom_comes C a T s ty k p
    listed_comes C a V T (abs b) ty nf k p kt kc same seen =
        let A = from_of V in
        let from : A ≡ ty.0 = same.0 ∙ ap from_of ty.2 in
        let to : to_of V ≡ ty.1 = same.1 ∙ ap to_of ty.2 in
        let sides : IsKnownType h.tables.kinds v (arrow ty.0 ty.1) = subst (IsKnownType h.tables.kinds v) ty.2 kt in
        let known_from : IsKnownType h.tables.kinds v A = subst (IsKnownType h.tables.kinds v) (sym from) sides.0 in
        subst (λ X. Lists C a X (abs (with_variables σ a (suc (length C)) b)) (listed K C a V (abs b))) (ap (λ X. arrow X ty.1) from ∙ sym ty.2)
        (abstraction_comes C a A ty.1 (with_variables σ a (suc (length C)) b) (listed K (A ∷ C) a (to_of V) b) known_from
        (listed_comes (A ∷ C) a (to_of V) ty.1 b (subst (λ X. HasType (types_by h.tables) (X ∷ (C ++ Γ)) b ty.1) (sym from) ty.3) (option_none abs (leftmost_step b) nf) k p sides.1
        (known_cons A (C ++ Γ) known_from kc) (ap from_of to, ap to_of to) seen))
    listed_comes C a V T (app t u) ty nf k p kt kc same seen =
        let parts = normal_parts t u nf in
        let g = headed K C a t in
        heads_listed C a T (with_variables σ a (length C) (app t u)) (with_argument g (listed K C g.around (from_of g.function) u)) (omega arith)
        (argument_heads C a ty.0 T (with_variables σ a (length C) t) (with_variables σ a (length C) u) g (listed K C g.around (from_of g.function) u)
        (headed_comes C a (arrow ty.0 T) t ty.1 parts.0 parts.2 k.0 (and_true_left (is_positive t) (is_positive u) p) kc seen.0)
        (λ facts. subst (λ x. Lists C g.around ty.0 x (listed K C g.around (from_of g.function) u)) (variables_same σ a g.around (length C) u facts.2)
        (listed_comes C g.around (from_of g.function) ty.0 u ty.2 parts.1 k.1 (and_true_right (is_positive t) (is_positive u) p) facts.0.0 kc facts.1.0
        (all_seen a g.around Γ (length C) u facts.2 seen.1))))

    headed_comes : (C : List Ty) (a : Around) (T : Ty) (t : Term) → HasType (types_by h.tables) (C ++ Γ) t T → leftmost_step t ≡ None → IsNoAbstraction t → KnownAtoms h.tables.kinds v t →
        is_positive t ≡ true → AllKnown (C ++ Γ) → AllLoose (IsSeen a Γ) (length C) t → Heads C a T (with_variables σ a (length C) t) (headed K C a t)
    headed_comes C a T (index j) ty nf none k p kc seen =
        leaf_heads C a T (index_type C a j) (index_term σ a (length C) j) (index_listed C a j) (known_sides h.tables.kinds v T (kc j T ty))
        (subst (λ F. Asks F T) (sym (index_head C a j T ty seen)) (asks_same T)) (index_comes C a j T ty seen kc)
    headed_comes C a T (atom s) ty nf none k p kc seen =
        let w = atom_head T s ty k in
        leaf_heads C a T (atom_function K s) (atom s) (atom_listed C a s) w.0 w.1 (atom_comes C a T s ty k p)
    headed_comes C a T (abs b) ty nf none k p kc seen = absurd none
    headed_comes C a T (app t u) ty nf none k p kc seen =
        let parts = normal_parts t u nf in
        let g = headed K C a t in
        argument_heads C a ty.0 T (with_variables σ a (length C) t) (with_variables σ a (length C) u) g (listed K C g.around (from_of g.function) u)
        (headed_comes C a (arrow ty.0 T) t ty.1 parts.0 parts.2 k.0 (and_true_left (is_positive t) (is_positive u) p) kc seen.0)
        (λ facts. subst (λ x. Lists C g.around ty.0 x (listed K C g.around (from_of g.function) u)) (variables_same σ a g.around (length C) u facts.2)
        (listed_comes C g.around (from_of g.function) ty.0 u ty.2 parts.1 k.1 (and_true_right (is_positive t) (is_positive u) p) facts.0.0 kc facts.1.0
        (all_seen a g.around Γ (length C) u facts.2 seen.1)))
