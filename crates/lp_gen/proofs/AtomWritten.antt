-- The code of an atom as a goal.
use Rattle.std.proofs.Common.{◌≡◌, ◌≢◌, Bor, ◌∙◌, ◌≤◌, ◌<◌, ℕ, ◌+◌, List, [], ◌∷◌, ◌++◌, append_assoc, map, length, Bool, true, false, Option, Some, None, ap, refl, sym, subst, arith, true≢false}
use Rattle.std.specs.Prelude.{nat_eq, not, ◌&&◌, ◌||◌, if◌then◌else◌, is_none, sum_by, slice_get, unwrap_or}
use Rattle.std.specs.List.{list_any}
use Rattle.std.proofs.lemmas.Bool.{eqb-true, ne_eqb}
use Rattle.std.proofs.lemmas.List.{append-nil}
use Rattle.std.proofs.lemmas.List.Sums.{sum_by-append}
use Rattle.lp_lemmas.proofs.Booleans.{and_true_left, and_true_right}
use Rattle.lp_calculus.specs.Types.{Ty, arrow, tys, instance}
use Rattle.lp_calculus.specs.Term.{Term, index, atom, abs, app, apply, constant, integer, text, eigen, logic, param}
use Rattle.lp_calculus.specs.Typing.{o_type, scheme_type, type_at, HasType}
use Rattle.lp_calculus.specs.Convert.{leftmost_step}
use Rattle.lp_calculus.specs.Spine.{head_of, arguments, arguments_and}
use Rattle.lp_standard.specs.Connectives.{connective_of, connective_at, connective_of_constant}
use Rattle.lp_standard.specs.Connectives as connective
use Rattle.lp_standard.specs.Positive.{are_positive, is_positive}
use Rattle.lp_standard.specs.Schemes.{IsStandard, plain, on_two, entry, standard_schemes}
use Rattle.lp_model.specs.Flat.{Goals, Atomic}
use Rattle.lp_model.specs.Flatten.{is_goal_head}
use Rattle.lp_term.specs.Nodes.{Nodes, tree, type_tree, node_tree}
use Rattle.lp_term.specs.Node.{TermBelow}
use Rattle.lp_term.specs.Shapes.{term_shape}
use Rattle.lp_term.specs.declared.node.TypeId.{TypeId}
use Rattle.lp_term.specs.declared.node.TermNode.{TermNode}
use Rattle.lp_term.specs.declared.node.TermNode.TheVariants as node
use Rattle.lp_term.specs.Spine.{IsNoApplication}
use Rattle.lp_code.specs.declared.instruction.Instr.{Instr}
use Rattle.lp_code.specs.Length.{length_of}
use Rattle.lp_code.specs.Symbolic.{Built, Registers, held, whole, applied_type, is_closed, equal_types, types_in, term_in, terms_in, plain_terms}
use Rattle.lp_code.specs.States.{Frame, Captured, State, Home, with_goal, depth}
use Rattle.lp_code.specs.Steps.{Later, constant_of}
use Rattle.lp_code.specs.Rules.{built_types, has_count, has_type, is_no_term, is_passed}
use Rattle.lp_code.specs.Denote.{run}
use Rattle.lp_gen.specs.declared.emitter.Emitter.{Emitter}
use Rattle.lp_gen.specs.Sources.{types_by, IsKnownType}
use Rattle.lp_gen.specs.Steps.{from_of, to_of, Around, head_type}
use Rattle.lp_gen.specs.inner.Running.{HasRoom, MayEnd, ends_before, TypesStand, TermsStand, Leads, AreTypesPut}
use Rattle.lp_gen.specs.inner.Saying.{AreGoalParts, CallPut, IsGoalTerm, TermCallPut, Turns}
use Rattle.lp_gen.specs.inner.TermSteps.{StandIn}
use Rattle.lp_gen.specs.inner.TermLaw.{Standing, KnownAtoms, AllLoose, IsSeen, with_variables}
use Rattle.lp_gen.specs.inner.Written.{Goes, AreAsked, IsWell, TermWritten, AreWell, wholes, ArgumentsWritten}
use Rattle.lp_gen.specs.inner.Doing.{Does, Says, AtomWritten}
use Rattle.lp_gen.proofs.CodeOwned.{none_owned, owns_then}
use Rattle.lp_gen.proofs.StepsOwn.{no_types_more}
use Rattle.lp_gen.proofs.Denoting.{or_none, settled_same, may_strict, room_front, room_behind, none_unset}
use Rattle.lp_gen.proofs.TermPut.{hold_all_on, types_held, moved}
use Rattle.lp_gen.proofs.StepPut.{all_set, all_at}
use Rattle.lp_gen.proofs.LooseOf.{both_true, equal_self, none_some, some_same}
use Rattle.lp_gen.proofs.TermListed.{KnownSides, known_sides, normal_parts, has_scheme}
use Rattle.lp_gen.proofs.ConstantTypes.{known_constant}
use Rattle.lp_gen.proofs.Courses.{mapped_types}
use Rattle.lp_gen.proofs.TermWritten.{then_goes}

-- an applied head, and its arguments

pub spine_typed : (h : Home) (v : ℕ) (Γ : List Ty) (a : Around) (ts : List Term) (t : Term) (R : Ty) → HasType (types_by h.tables) Γ (apply t ts) R → leftmost_step (apply t ts) ≡ None →
    KnownAtoms h.tables.kinds v (apply t ts) → are_positive ts ≡ true → AllLoose (IsSeen a Γ) 0 (apply t ts) → ((k : ℕ) (U : Ty) → slice_get Γ k ≡ Some U → IsKnownType h.tables.kinds v U) →
    (A : Ty) × HasType (types_by h.tables) Γ t A × (leftmost_step t ≡ None) × KnownAtoms h.tables.kinds v t × AllLoose (IsSeen a Γ) 0 t × (KnownSides h.tables.kinds v A → AreWell h v Γ a A ts R)
spine_typed h v Γ a [] t R ty nf k p seen kc = (R, ty, nf, k, seen, λ q. refl)
spine_typed h v Γ a (u ∷ us) t R ty nf k p seen kc =
    let w = spine_typed h v Γ a us (app t u) R ty nf k (and_true_right (is_positive u) (are_positive us) p) seen kc in
    let parts = normal_parts t u w.2 in (
      arrow w.1.0 w.0,
      w.1.1,
      parts.0,
      w.3.0,
      w.4.0,
      λ q. (
        w.1.0,
        w.0,
        refl,
        record { typed = w.1.2; normal = parts.1; known = w.3.1; positive = and_true_left (is_positive u) (are_positive us) p; of = q.0; indices = kc; seen = w.4.1 },
        w.5 (known_sides h.tables.kinds v w.0 q.1),
      ),
    )

pub with_apply : (σ : ℕ → Term) (a : Around) (d : ℕ) (t : Term) (ts : List Term) → with_variables σ a d (apply t ts) ≡ apply (with_variables σ a d t) (map (with_variables σ a d) ts)
with_apply σ a d t [] = refl
with_apply σ a d t (u ∷ us) = with_apply σ a d (app t u) us

arguments_apply : (t : Term) (ts us : List Term) → arguments_and (apply t ts) us ≡ arguments_and t (ts ++ us)
arguments_apply t [] us = refl
arguments_apply t (x ∷ xs) us = arguments_apply (app t x) xs us

pub head_apply : (t : Term) (ts : List Term) → head_of (apply t ts) ≡ head_of t
head_apply t [] = refl
head_apply t (x ∷ xs) = head_apply (app t x) xs

-- wholes

applied_wholes : (h : Home) (v : ℕ) (Γ : List Ty) (a : Around) (f : Term → Term) (A : Ty) (ts : List Term) (R : Ty) → AreWell h v Γ a A ts R →
    applied_type A (built_types (wholes A (map f ts))) ≡ Some R
applied_wholes h v Γ a f A [] R w = ap (λ T. Some T) w
applied_wholes h v Γ a f A (t ∷ ts) R w =
    ap (λ T. applied_type T (built_types (wholes T (map f (t ∷ ts))))) w.2
    ∙ ap (λ z. if z then applied_type w.1 (built_types (wholes w.1 (map f ts))) else None) (equal_self w.0) ∙ applied_wholes h v Γ a f w.1 ts R w.4

pub plain_wholes : (A : Ty) (us : List Term) → plain_terms (wholes A us) ≡ us
plain_wholes A [] = refl
plain_wholes A (u ∷ us) = ap (λ l. u ∷ l) (plain_wholes (to_of A) us)

wholes_closed : (xs : List (Option Built)) (rs : List ℕ) (A : Ty) (us : List Term) (f : ℕ → Built) → ((r : ℕ) (b : Built) → held xs r ≡ Some b → f r ≡ b) → StandIn xs rs (wholes A us) →
    list_any (λ r. not (is_closed (f r).loose)) rs ≡ false
wholes_closed xs [] A [] f e a = refl
wholes_closed xs [] A (u ∷ us) f e a = absurd a
wholes_closed xs (r ∷ rs) A [] f e a = absurd a
wholes_closed xs (r ∷ rs) A (u ∷ us) f e a =
    or_none (not (is_closed (f r).loose)) (list_any (λ r. not (is_closed (f r).loose)) rs) (ap (λ (b : Built). not (is_closed b.loose)) (e r (whole u (from_of A)) a.0))
    (wholes_closed xs rs (to_of A) us f e a.1)

-- a goal with one of the connectives at its head is no atom

no_connective : (c : ℕ) (Ts : List Ty) (us : List Term) (k : connective.Connective) → connective_of_constant c Ts us ≡ connective.Atomic →
    connective_of_constant c Ts us ≡ k → (k ≡ connective.Atomic → ⊥) → ⊥
no_connective c Ts us k e f n = n (sym f ∙ e)

no_args : (B : Ty) (Ts : List Ty) (A : Ty) → scheme_type Ts (plain B) ≡ Some A → Ts ≡ []
no_args B [] A e = refl
no_args B (T ∷ Ts) A e =
    absurd (none_some A (sym (ap (λ z. if z then Some (instance (type_at (T ∷ Ts)) B) else None)
    (ne_eqb (length (T ∷ Ts)) 0 (λ z. absurd (omega (arith, z))))) ∙ e))

no_arrow : (A B : Ty) → o_type ≡ arrow A B → ⊥
no_arrow A B e = cc

no_o : (A B : Ty) → arrow A B ≡ o_type → ⊥
no_o A B e = cc

two_of : (h : Home) (v : ℕ) (Γ : List Ty) (a : Around) (ts : List Term) → AreWell h v Γ a (on_two o_type o_type) ts o_type → (x : Term) × (y : Term) × (ts ≡ x ∷ y ∷ [])
two_of h v Γ a [] w = absurd (no_o _ _ w)
two_of h v Γ a (x ∷ []) w = absurd (no_o o_type o_type (ap to_of w.2 ∙ w.4))
two_of h v Γ a (x ∷ y ∷ []) w = (x, y, refl)
two_of h v Γ a (x ∷ y ∷ z ∷ zs) w = absurd (no_arrow w.4.4.0 w.4.4.1 (ap to_of (ap to_of w.2 ∙ w.4.2) ∙ w.4.4.2))

one_of : (h : Home) (v : ℕ) (Γ : List Ty) (a : Around) (ts : List Term) → AreWell h v Γ a (arrow o_type o_type) ts o_type → (x : Term) × (ts ≡ x ∷ [])
one_of h v Γ a [] w = absurd (no_o _ _ w)
one_of h v Γ a (x ∷ []) w = (x, refl)
one_of h v Γ a (x ∷ y ∷ ys) w = absurd (no_arrow w.4.0 w.4.1 (ap to_of w.2 ∙ w.4.2))

none_of_args : (h : Home) (v : ℕ) (Γ : List Ty) (a : Around) (ts : List Term) → AreWell h v Γ a o_type ts o_type → ts ≡ []
none_of_args h v Γ a [] w = refl
none_of_args h v Γ a (x ∷ xs) w = absurd (no_arrow w.0 w.1 w.2)

goal_constant : (h : Home) (v : ℕ) (Γ : List Ty) (a : Around) (c : ℕ) (Ts : List Ty) (A : Ty) (ts : List Term) → IsStandard h.tables.constants → scheme_type Ts (h.tables.constants c) ≡ Some A →
    AreWell h v Γ a A ts o_type → connective_of_constant c Ts ts ≡ connective.Atomic → is_no_term c ≡ false
goal_constant h v Γ a c Ts A ts std e w atomic = go (nat_eq c 2) (nat_eq c 3) (nat_eq c 7) (nat_eq c 24) refl refl refl refl
  where
    at : (k : ℕ) (B : Ty) → k < 32 → entry standard_schemes k ≡ plain B → c ≡ k →
        (Ts ≡ []) × AreWell h v Γ a (instance (type_at []) B) ts o_type × (connective_of_constant k [] ts ≡ connective.Atomic)
    at k B l is same =
        let here : scheme_type Ts (plain B) ≡ Some A = ap (scheme_type Ts) (sym (std.at k l ∙ is)) ∙ ap (λ k. scheme_type Ts (h.tables.constants k)) (sym same) ∙ e in
        let none = no_args B Ts A here in (
          none,
          subst (λ T. AreWell h v Γ a T ts o_type) (sym (some_same _ A (ap (λ l. scheme_type l (plain B)) (sym none) ∙ here))) w,
          (λ i. connective_of_constant (sym same i) (sym none i) ts) ∙ atomic,
        )

    go : (p q r s : Bool) → nat_eq c 2 ≡ p → nat_eq c 3 ≡ q → nat_eq c 7 ≡ r → nat_eq c 24 ≡ s → is_no_term c ≡ false
    go true q r s f g i j =
        let x = at 2 (on_two o_type o_type) (omega arith) refl (eqb-true c 2 f) in
        let y = two_of h v Γ a ts x.1 in
        absurd (no_connective 2 [] (y.0 ∷ y.1 ∷ []) (connective.Implies y.0 y.1) (ap (connective_of_constant 2 []) (sym y.2) ∙ x.2) refl (λ z. cc))
    go false true r s f g i j =
        let x = at 3 (on_two o_type o_type) (omega arith) refl (eqb-true c 3 g) in
        let y = two_of h v Γ a ts x.1 in
        absurd (no_connective 3 [] (y.0 ∷ y.1 ∷ []) (connective.Implies y.1 y.0) (ap (connective_of_constant 3 []) (sym y.2) ∙ x.2) refl (λ z. cc))
    go false false true s f g i j =
        let x = at 7 o_type (omega arith) refl (eqb-true c 7 i) in
        absurd (no_connective 7 [] [] connective.Cut (ap (connective_of_constant 7 []) (sym (none_of_args h v Γ a ts x.1)) ∙ x.2) refl (λ z. cc))
    go false false false true f g i j =
        let x = at 24 (arrow o_type o_type) (omega arith) refl (eqb-true c 24 j) in
        let y = one_of h v Γ a ts x.1 in
        absurd (no_connective 24 [] (y.0 ∷ []) (connective.Not y.0) (ap (connective_of_constant 24 []) (sym y.1) ∙ x.2) refl (λ z. cc))
    go false false false false f g i j = or_none (nat_eq c 2) (nat_eq c 3 || (nat_eq c 7 || (nat_eq c 24 || false))) f (or_none (nat_eq c 3) (nat_eq c 7 || (nat_eq c 24 || false)) g
        (or_none (nat_eq c 7) (nat_eq c 24 || false) i (or_none (nat_eq c 24) false j refl)))

-- what was led or goes does, with the goals and the head as they were

pub leads_goes : (h : Home) (later : Later) (vars n m k : ℕ) (s t : State) (is : List Instr) → Leads h later vars n m s is t → TermsStand h k s → Goes h later vars n m k k s is t
leads_goes h later vars n m k s t is x te =
    let w = moved h later vars n m k s t is x te in
    record { runs = w.runs; place_is = w.place_is; same = w.same; types_kept = w.types_kept; terms_keep = λ r b l e. w.terms_kept r l ∙ e; types_stand = w.types_stand; terms_stand = w.terms_stand }

pub goes_does : (h : Home) (later : Later) (vars n m k l : ℕ) (s t : State) (is : List Instr) → Goes h later vars n m k l s is t →
    Does h later vars n m k l s is s.goals s.head_types s.head_arguments t
goes_does h later vars n m k l s t is x = record {
  runs = x.runs;
  place_is = x.place_is;
  goals_are = x.same.goals;
  head_types_are = x.same.head_types;
  arguments_are = x.same.head_arguments;
  in_body_stays = x.same.in_body;
  frames_stay = x.same.frames;
  assumed_stay = x.same.assumed;
  types_kept = x.types_kept;
  terms_keep = x.terms_keep;
  types_stand = x.types_stand;
  terms_stand = x.terms_stand;
}

pub turns_does : (h : Home) (later : Later) (vars n k : ℕ) (s t : State) (is : List Instr) (gs : Goals) (Ts : List Ty) (bs : List Built) → Turns h later vars n k s is gs Ts bs t →
    HasRoom s (s.place + sum_by length_of is) → Does h later vars n n k k s is gs Ts bs t
turns_does h later vars n k s t is gs Ts bs x room = record {
  runs = λ rest. x.runs rest ∙ ap (λ (u : State). run h later u rest) (settled_same h.number (depth t.frames) t
      (subst (λ fs. list_any (is_passed t.place) fs ≡ false) (sym x.frames_stay) (subst (λ n. list_any (is_passed n) s.frames ≡ false) (sym x.place_is) room)));
  place_is = x.place_is;
  goals_are = x.goals_are;
  head_types_are = x.head_types_are;
  arguments_are = x.arguments_are;
  in_body_stays = x.in_body_stays;
  frames_stay = x.frames_stay;
  assumed_stay = x.assumed_stay;
  types_kept = λ r l. ap (λ (q : Registers). held q.types r) x.now_stays;
  terms_keep = λ r b l e. ap (λ (q : Registers). held q.terms r) x.now_stays ∙ e;
  types_stand = x.types_stand;
  terms_stand = x.terms_stand;
}

pub then_does : (h : Home) (later : Later) (vars n m o k l p : ℕ) (s t u : State) (is js : List Instr) (gs hs : Goals) (Ts Us : List Ty) (bs cs : List Built) →
    Does h later vars n m k l s is gs Ts bs t → Does h later vars m o l p t js hs Us cs u → n ≤ m → k ≤ l → Does h later vars n o k p s (is ++ js) hs Us cs u
then_does h later vars n m o k l p s t u is js gs hs Ts Us bs cs x y nm kl = record {
  runs = λ rest. ap (run h later s) (append_assoc is js rest) ∙ x.runs (js ++ rest) ∙ y.runs rest;
  place_is = let i = x.place_is in let j = y.place_is in let r = sum_by-append length_of is js in omega (arith, i, j, r);
  goals_are = y.goals_are;
  head_types_are = y.head_types_are;
  arguments_are = y.arguments_are;
  in_body_stays = y.in_body_stays ∙ x.in_body_stays;
  frames_stay = y.frames_stay ∙ x.frames_stay;
  assumed_stay = y.assumed_stay ∙ x.assumed_stay;
  types_kept = λ r q. y.types_kept r (omega (arith, q, nm)) ∙ x.types_kept r q;
  terms_keep = λ r d q e. y.terms_keep r d (omega (arith, q, kl)) (x.terms_keep r d q e);
  types_stand = y.types_stand;
  terms_stand = y.terms_stand;
}

pub may_goes : (h : Home) (later : Later) (v n m k l : ℕ) (s t : State) (is xs ys : List Instr) → Goes h later v n m k l s xs t → is ≡ xs ++ ys → MayEnd s (s.place + sum_by length_of is) →
    MayEnd t (t.place + sum_by length_of ys)
may_goes h later v n m k l s t is xs ys x e room =
    let at : t.place + sum_by length_of ys ≡ s.place + sum_by length_of is = let p = ap (sum_by length_of) e in let q = sum_by-append length_of xs ys in let r = x.place_is in omega (arith, p, q, r) in
    subst (λ n. MayEnd t n) (sym at) (subst (λ fs. list_any (λ (f : Frame). ends_before (s.place + sum_by length_of is) f.block) fs ≡ false) (sym x.same.frames) room)

-- what goes, and then a goal
pub goes_says : (h : Home) (later : Later) (vars n m k l : ℕ) (s t u : State) (is js : List Instr) (gs : Goals) → Goes h later vars n m k l s is t →
    Turns h later vars m l t js gs t.head_types t.head_arguments u → Says h later vars n m k l s (is ++ js) gs [] u
goes_says h later vars n m k l s t u is js gs x y = record {
  runs = λ i rest. ap (run h later s) (append_assoc is js (i ∷ rest)) ∙ x.runs (js ++ i ∷ rest) ∙ y.runs (i ∷ rest);
  place_is = let i = x.place_is in let j = y.place_is in let r = sum_by-append length_of is js in omega (arith, i, j, r);
  goals_are = y.goals_are;
  head_types_stay = y.head_types_are ∙ x.same.head_types;
  arguments_stay = y.arguments_are ∙ x.same.head_arguments;
  in_body_stays = y.in_body_stays ∙ x.same.in_body;
  frames_stay = y.frames_stay ∙ x.same.frames;
  assumed_are = y.assumed_stay ∙ x.same.assumed ∙ sym (append-nil s.assumed);
  types_kept = λ r q. ap (λ (z : Registers). held z.types r) y.now_stays ∙ x.types_kept r q;
  terms_keep = λ r d q e. ap (λ (z : Registers). held z.terms r) y.now_stays ∙ x.terms_keep r d q e;
  types_stand = y.types_stand;
  terms_stand = y.terms_stand;
}

pub says_same : (h : Home) (later : Later) (vars n m m' k l l' : ℕ) (s t : State) (is : List Instr) (gs hs : Goals) (more : List (ℕ × Captured)) → m ≡ m' → l ≡ l' → gs ≡ hs →
    Says h later vars n m k l s is gs more t → Says h later vars n m' k l' s is hs more t
says_same h later vars n m m' k l l' s t is gs hs more e f g x = record {
  runs = x.runs;
  place_is = x.place_is;
  goals_are = x.goals_are ∙ g;
  head_types_stay = x.head_types_stay;
  arguments_stay = x.arguments_stay;
  in_body_stays = x.in_body_stays;
  frames_stay = x.frames_stay;
  assumed_are = x.assumed_are;
  types_kept = x.types_kept;
  terms_keep = x.terms_keep;
  types_stand = subst (λ j. TypesStand h vars j t) e x.types_stand;
  terms_stand = subst (λ j. TermsStand h j t) f x.terms_stand;
}

-- the same with other names for what it says
pub does_same : (h : Home) (later : Later) (vars n m m' k l l' : ℕ) (s t : State) (is : List Instr) (gs : Goals) (Ts : List Ty) (bs : List Built)
    (hs : Goals) (Us : List Ty) (cs : List Built) → m ≡ m' → l ≡ l' →
    gs ≡ hs → Ts ≡ Us → bs ≡ cs → Does h later vars n m k l s is gs Ts bs t → Does h later vars n m' k l' s is hs Us cs t
does_same h later vars n m m' k l l' s t is gs Ts bs hs Us cs e f g p q x = record {
  runs = x.runs;
  place_is = x.place_is;
  goals_are = x.goals_are ∙ g;
  head_types_are = x.head_types_are ∙ p;
  arguments_are = x.arguments_are ∙ q;
  in_body_stays = x.in_body_stays;
  frames_stay = x.frames_stay;
  assumed_stay = x.assumed_stay;
  types_kept = x.types_kept;
  terms_keep = x.terms_keep;
  types_stand = subst (λ j. TypesStand h vars j t) e x.types_stand;
  terms_stand = subst (λ j. TermsStand h j t) f x.terms_stand;
}

-- variables stand behind what sets nothing
pub standing_after : (h : Home) (vars n m : ℕ) (i j : Bool) (σ : ℕ → Term) (a : Around) (s t : State) → n ≡ m → j ≡ i → t.now ≡ s.now → Standing h vars n j σ a s.now.terms →
    Standing h vars m i σ a t.now.terms
standing_after h vars n m i j σ a s t e f g x =
    subst (λ k. Standing h vars k i σ a t.now.terms) e (subst (λ z. Standing h vars n z σ a t.now.terms) f (subst (λ (q : Registers). Standing h vars n j σ a q.terms) (sym g) x))

pub arguments_is : (t : Term) (ts : List Term) → IsNoApplication t → arguments (apply t ts) ≡ ts
arguments_is (index i) ts n = arguments_apply (index i) ts [] ∙ append-nil ts
arguments_is (atom s) ts n = arguments_apply (atom s) ts [] ∙ append-nil ts
arguments_is (abs b) ts n = arguments_apply (abs b) ts [] ∙ append-nil ts
arguments_is (app t u) ts n = absurd n

-- a goal whose head is a constant

pub call_written : (K : ℕ → List Ty → Ty) (start types args new : Emitter) (a b : Around) (c : ℕ) (Ts : List Ty) (ts : List Term) (qs rs : List ℕ) → AreTypesPut start types qs Ts →
    ArgumentsWritten K types args a b rs (K c Ts) ts → CallPut args new c qs rs → AtomWritten K start new a b (apply (atom (constant c Ts)) ts)
call_written K start types args new a b c Ts ts qs rs x y z = record {
  more = (x.more ++ y.more) ++ z.more;
  code_is = z.code_is ∙ ap (λ l. l ++ z.more) (y.code_is ∙ ap (λ l. l ++ y.more) x.code_is ∙ append_assoc start.code.items x.more y.more)
      ∙ append_assoc start.code.items (x.more ++ y.more) z.more;
  types_grow = let i = x.types_grow in let j = y.types_grow in let k = z.types_stay in omega (arith, i, j, k);
  terms_grow = let i = x.registers_stay in let j = y.terms_grow in let k = z.registers_stay in omega (arith, i, j, k);
  calm = y.calm;
  some = let i = z.some in let j = sum_by-append length_of (x.more ++ y.more) z.more in omega (arith, i, j);
  owns = owns_then a b b (x.more ++ y.more) z.more (owns_then a a b x.more y.more (λ start. none_owned a x.more x.plain.no_own) y.owns) (λ start. none_owned b z.more z.plain.no_own);
  no_types = no_types_more (x.more ++ y.more) z.more (no_types_more x.more y.more x.plain.no_types y.no_types) z.plain.no_types;
  denotes = λ h later vars s σ Γ std asked st te low few body stands good room.
      let head = atom (constant c Ts) in
      let f = with_variables σ a 0 in
      let i = y.types_grow in
      let j = y.terms_grow in
      let k = z.types_stay in
      let l = z.registers_stay in
      let stay = x.registers_stay in
      let sp = spine_typed h vars Γ a ts head o_type good.typed good.normal good.known (sym (ap are_positive (arguments_is head ts tt)) ∙ good.positive) good.seen good.indices in
      let A = sp.0 in
      let well = sp.5 (known_sides h.tables.kinds vars A (known_constant h.tables vars c Ts A asked.known sp.1 sp.3)) in
      let front = x.more ++ y.more in
      let size = sum_by-append length_of front z.more in
      let some = z.some in
      let room_f : HasRoom s (s.place + sum_by length_of front) = may_strict (s.place + sum_by length_of front)
      (s.place + sum_by length_of (front ++ z.more)) s.frames (omega (arith, size, some)) room in
      let w = x.denotes h later vars s st (omega (arith, low, i, k)) sp.3 (room_front s front x.more y.more refl room_f) in
      let te_w : TermsStand h start.registers w.0 = (moved h later vars start.types types.types start.registers s w.0 x.more w.1 te).terms_stand in
      let stands_w : Standing h vars types.registers w.0.in_body σ a w.0.now.terms =
      subst (λ n. Standing h vars n w.0.in_body σ a w.0.now.terms) (sym stay) (subst (λ z. Standing h vars start.registers z σ a w.0.now.terms) (sym w.1.same.in_body)
      (subst (λ xs. Standing h vars start.registers s.in_body σ a xs) (sym w.1.same.terms) stands)) in
      let v = y.denotes h later vars w.0 σ Γ A o_type asked w.1.stands (subst (λ n. TermsStand h n w.0) (sym stay) te_w) (omega (arith, low, k))
      (omega (arith, few, l)) stands_w well (asked.asks c Ts A sp.1)
      (room_behind h later vars start.types types.types s w.0 front x.more y.more w.1 refl room_f) in
      let bs = wholes A (map f ts) in
      let held_types = hold_all_on types.types w.0 v.0 qs Ts v.1.types_kept w.3 w.2 in
      let types_are = types_held v.0 qs Ts held_types in
      let terms_are : terms_in v.0.now rs ≡ bs = all_at v.0.now.terms rs bs v.2 in
      let typed : has_type (applied_type (constant_of h.tables c (types_in v.0.now qs)).type (built_types (terms_in v.0.now rs))) o_type ≡ true =
      (λ i. has_type (applied_type (constant_of h.tables c (types_are.0 i)).type (built_types (terms_are i))) o_type)
      ∙ ap (λ o. has_type (applied_type (unwrap_or o o_type) (built_types bs)) o_type) sp.1
      ∙ ap (λ o. has_type o o_type) (applied_wholes h vars Γ a f A ts o_type well) in
      let parts : AreGoalParts h v.0 c qs rs = record {
        behind_head = v.1.same.in_body ∙ w.1.same.in_body ∙ body;
        types_set = none_unset v.0 qs (tys Ts) held_types;
        terms_set = all_set v.0.now.terms rs bs v.2;
        closed = wholes_closed v.0.now.terms rs A (map f ts) (term_in v.0.now) (λ r d e. ap (λ o. unwrap_or o (record { term = index 0; type = o_type; loose = [] })) e) v.2;
        declared = ap (has_count (h.tables.constants c)) types_are.1 ∙ has_scheme Ts (h.tables.constants c) A sp.1;
        typed = typed;
        in_goals = goal_constant h vars Γ a c Ts A ts std sp.1 well (sym (λ i. connective_at (head_apply head ts i) (arguments_is head ts tt i)) ∙ good.atomic);
      } in
      let first = then_goes h later vars start.types types.types args.types start.registers start.registers args.registers s w.0 v.0 x.more y.more
      (leads_goes h later vars start.types types.types start.registers s w.0 x.more w.1 te) (subst (λ n. Goes h later vars types.types args.types n args.registers w.0 y.more v.0) stay v.1)
      x.types_grow (omega arith) in
      let u = z.denotes h later vars v.0 std v.1.types_stand v.1.terms_stand parts (may_goes h later vars start.types args.types start.registers
      args.registers s v.0 (front ++ z.more) front z.more first refl room) in
      let last = goes_says h later vars start.types args.types start.registers args.registers s v.0 u.0 front z.more _ first u.1 in
      let said : apply (atom (constant c (types_in v.0.now qs))) (plain_terms (terms_in v.0.now rs)) ≡ f (apply head ts) =
      (λ i. apply (atom (constant c (types_are.0 i))) (plain_terms (terms_are i))) ∙ ap (apply head) (plain_wholes A (map f ts)) ∙ sym (with_apply σ a 0 head ts) in (
        u.0,
        says_same h later vars start.types args.types new.types start.registers args.registers new.registers s u.0 (front ++ z.more) _ (with_goal s.goals (Atomic (f (apply head ts)))) [] (sym k)
            (sym l) (λ i. with_goal (first.same.goals i) (Atomic (said i))) last,
        standing_after h vars args.registers new.registers s.in_body w.0.in_body σ b v.0 u.0 (sym l) (w.1.same.in_body) u.1.now_stays v.4,
        v.5,
      );
}

-- a goal whose head is no constant

later_positive : (t : Term) (more : List Term) → are_positive (arguments_and t more) ≡ true → are_positive more ≡ true
later_positive (index i) more p = p
later_positive (atom s) more p = p
later_positive (abs b) more p = p
later_positive (app f a) more p = and_true_right (is_positive a) (are_positive more) (later_positive f (a ∷ more) p)

positive_term : (t : Term) (more : List Term) → are_positive (arguments_and t more) ≡ true → is_positive (head_of t) ≡ true → is_positive t ≡ true
positive_term (index i) more p q = q
positive_term (atom s) more p q = q
positive_term (abs b) more p q = q
positive_term (app f a) more p q =
    both_true (is_positive f) (is_positive a) (positive_term f (a ∷ more) p q) (and_true_left (is_positive a) (are_positive more) (later_positive f (a ∷ more) p))

known_head : (κ : ℕ → Option ℕ) (n : ℕ) (t : Term) → KnownAtoms κ n t → KnownAtoms κ n (head_of t)
known_head κ n (index i) k = tt
known_head κ n (atom s) k = k
known_head κ n (abs b) k = k
known_head κ n (app f a) k = known_head κ n f k.0

positive_head : (κ : ℕ → Option ℕ) (n : ℕ) (t : Term) → KnownAtoms κ n t → is_goal_head t ≡ true → ((c : ℕ) (Ts : List Ty) → t ≡ atom (constant c Ts) → ⊥) → is_positive t ≡ true
positive_head κ n (index i) k g x = refl
positive_head κ n (atom (constant c Ts)) k g x = absurd (x c Ts refl)
positive_head κ n (atom (integer z)) k g x = absurd (true≢false (sym g))
positive_head κ n (atom (text s)) k g x = absurd (true≢false (sym g))
positive_head κ n (atom (eigen j)) k g x = absurd k
positive_head κ n (atom (logic i l)) k g x = absurd k
positive_head κ n (atom (param j T)) k g x = absurd k
positive_head κ n (abs b) k g x = absurd (true≢false (sym g))
positive_head κ n (app t u) k g x = absurd (true≢false (sym g))

pub o_known : (h : Home) (v : ℕ) (K : ℕ → List Ty → Ty) → IsStandard h.tables.constants → AreAsked h K → IsKnownType h.tables.kinds v o_type
o_known h v K std asked = asked.known 6 (record { count = 0; body = o_type }) (std.at 6 (omega arith))

pub term_call_written : (K : ℕ → List Ty → Ty) (start term new : Emitter) (a b : Around) (r : ℕ) (t : Term) → TermWritten K start term a b r o_type t → TermCallPut term new r →
    ((c : ℕ) (Ts : List Ty) → head_of t ≡ atom (constant c Ts) → ⊥) → AtomWritten K start new a b t
term_call_written K start term new a b r t y z other = record {
  more = y.more ++ z.more;
  code_is = z.code_is ∙ ap (λ l. l ++ z.more) y.code_is ∙ append_assoc start.code.items y.more z.more;
  types_grow = let j = y.types_grow in let k = z.types_stay in omega (arith, j, k);
  terms_grow = let j = y.terms_grow in let k = z.registers_stay in omega (arith, j, k);
  calm = y.calm;
  some = let i = z.some in let j = sum_by-append length_of y.more z.more in omega (arith, i, j);
  owns = owns_then a b b y.more z.more y.owns (λ start. none_owned b z.more z.plain.no_own);
  no_types = no_types_more y.more z.more y.no_types z.plain.no_types;
  denotes = λ h later vars s σ Γ std asked st te low few body stands good room.
      let f = with_variables σ a 0 in
      let k = z.types_stay in
      let l = z.registers_stay in
      let head = positive_head h.tables.kinds vars (head_of t) (known_head h.tables.kinds vars t good.known) good.headed other in
      let well : IsWell h vars Γ a t o_type = record {
        typed = good.typed;
        normal = good.normal;
        known = good.known;
        positive = positive_term t [] good.positive head;
        of = o_known h vars K std asked;
        indices = good.indices;
        seen = good.seen;
      } in
      let size = sum_by-append length_of y.more z.more in
      let some = z.some in
      let room_y : HasRoom s (s.place + sum_by length_of y.more) = may_strict (s.place + sum_by length_of y.more)
      (s.place + sum_by length_of (y.more ++ z.more)) s.frames (omega (arith, size, some)) room in
      let w = y.denotes h later vars s σ Γ o_type asked st te (omega (arith, low, k)) (omega (arith, few, l)) stands well (refl, refl) room_y in
      let at : term_in w.0.now r ≡ whole (f t) o_type = ap (λ o. unwrap_or o (record { term = index 0; type = o_type; loose = [] })) w.2 in
      let parts : IsGoalTerm w.0 r = record {
        behind_head = w.1.same.in_body ∙ body;
        terms_set = or_none (is_none (held w.0.now.terms r)) false (ap is_none w.2) refl;
        closed = or_none (not (is_closed (term_in w.0.now r).loose)) false (ap (λ (d : Built). not (is_closed d.loose)) at) refl;
        typed = ap (λ (d : Built). equal_types d.type o_type && true) at;
      } in
      let u = z.denotes h later vars w.0 std w.1.types_stand w.1.terms_stand parts
      (may_goes h later vars start.types term.types start.registers term.registers s w.0 (y.more ++ z.more) y.more z.more w.1 refl room) in
      let last = goes_says h later vars start.types term.types start.registers term.registers s w.0 u.0 y.more z.more _ w.1 u.1 in (
        u.0,
        says_same h later vars start.types term.types new.types start.registers term.registers new.registers s u.0 (y.more ++ z.more) _ (with_goal s.goals (Atomic (f t))) [] (sym k) (sym l)
            (λ i. with_goal (w.1.same.goals i) (Atomic (at i).term)) last,
        standing_after h vars term.registers new.registers s.in_body s.in_body σ b w.0 u.0 (sym l) refl u.1.now_stays w.4,
        w.5,
      );
}

-- the head's node

no_app_constant : (t u : Term) (ts : List Term) (c : ℕ) (Ts : List Ty) → apply (app t u) ts ≡ atom (constant c Ts) → ⊥
no_app_constant t u [] c Ts e = cc
no_app_constant t u (v ∷ vs) c Ts e = no_app_constant (app t u) v vs c Ts e

no_list_constant : (b : Nodes) (f : ℕ) (is : List ℕ) (c : ℕ) (Ts : List Ty) → is ≢ [] → apply (tree b f) (map (tree b) is) ≡ atom (constant c Ts) → ⊥
no_list_constant b f [] c Ts some e = absurd (some refl)
no_list_constant b f (i ∷ is) c Ts some e = no_app_constant (tree b f) (tree b i) (map (tree b) is) c Ts e

pub no_constant_node : (b : Nodes) (m k : ℕ) (n : TermNode) → ((c : ℕ) (ids : Bor (List TypeId)) → n ≡ node.Const c ids → ⊥) → TermBelow m k (term_shape n) → (c : ℕ) (Ts : List Ty) →
    node_tree b (term_shape n) ≡ atom (constant c Ts) → ⊥
no_constant_node b m k (node.Index i) x low c Ts e = cc
no_constant_node b m k (node.Const d ids) x low c Ts e = absurd (x d ids refl)
no_constant_node b m k (node.Int z) x low c Ts e = cc
no_constant_node b m k (node.Text s) x low c Ts e = cc
no_constant_node b m k (node.Eigen j) x low c Ts e = cc
no_constant_node b m k (node.Logic i l) x low c Ts e = cc
no_constant_node b m k (node.Param j t) x low c Ts e = cc
no_constant_node b m k (node.Abs body) x low c Ts e = cc
no_constant_node b m k (node.App f ids) x low c Ts e = no_list_constant b f.0 (map (λ t. t.0) ids.now) c Ts low.2 e

pub head_itself : (t : Term) → IsNoApplication t → head_of t ≡ t
head_itself (index i) n = refl
head_itself (atom s) n = refl
head_itself (abs b) n = refl
head_itself (app t u) n = absurd n

pub other_goal : (b : Nodes) (m k : ℕ) (n : TermNode) (head : Term) (ts : List Term) (t : Term) → ((c : ℕ) (ids : Bor (List TypeId)) → n ≡ node.Const c ids → ⊥) → TermBelow m k (term_shape n) →
    node_tree b (term_shape n) ≡ head → IsNoApplication head → apply head ts ≡ t → (c : ℕ) (Ts : List Ty) → head_of t ≡ atom (constant c Ts) → ⊥
other_goal b m k n head ts t x low is none e c Ts f = no_constant_node b m k n x low c Ts (is ∙ sym (head_itself head none) ∙ sym (head_apply head ts) ∙ ap head_of e ∙ f)

-- a goal by the nodes of its spine
pub constant_goal : (K : ℕ → List Ty → Ty) (b : Nodes) (start types args new : Emitter) (a d : Around) (c : ℕ) (ids : List TypeId) (head : Term) (ts : List Term) (t : Term) (qs rs : List ℕ) →
    AreTypesPut start types qs (map (λ i. type_tree b i.0) ids) → ArgumentsWritten K types args a d rs (head_type K [] a head) ts → CallPut args new c qs rs →
    atom (constant c (map (type_tree b) (map (λ i. i.0) ids))) ≡ head → apply head ts ≡ t → AtomWritten K start new a d t
constant_goal K b start types args new a d c ids head ts t qs rs x y z is e =
    let Ts = map (λ i. type_tree b i.0) ids in
    let same : atom (constant c Ts) ≡ head = ap (λ l. atom (constant c l)) (sym (mapped_types b ids)) ∙ is in
    subst (AtomWritten K start new a d) (ap (λ u. apply u ts) same ∙ e) (call_written K start types args new a d c Ts ts qs rs x
    (subst (λ u. ArgumentsWritten K types args a d rs (head_type K [] a u) ts) (sym same) y) z)
