-- Type equations under bindings: what the code solves with the bindings put in, and adds to them, is what the definition solves.
use Rattle.std.proofs.Common.{◌≡◌, ℕ, zero, suc, ◌+◌, ◌<◌, ◌≤◌, List, [], ◌∷◌, ◌++◌, map, reverse, length, Option, Some, None, refl, sym, ap, subst as transport, ◌∙◌, arith, nat_eq, if◌then◌else◌, Bool, true, false, take, slice_get, get_or, ◌⊎◌, inl, inr}
use Rattle.std.specs.Prelude.{All}
use Rattle.std.proofs.lemmas.List.{append_assoc, map-append, reverse-reverse}
use Rattle.std.proofs.lemmas.Option.{slice_get_cases}
use Rattle.std.proofs.lemmas.List.Elements.{All-head, All-tail, All-weaker}
use Rattle.lp_lemmas.proofs.Elements.{All_pushed}
use Rattle.std.specs.List.{IsDistinct, AllByRecursion}
use Rattle.std.specs.Map.{lookup, keys_of}
use Rattle.std.proofs.lemmas.Cmp.{nat_eq_equiv}
use Rattle.lp_calculus.specs.Types.{Ty, var, instance}
use Rattle.lp_calculus.proofs.TypeLaws.{instance-instance}
use Rattle.lp_type_laws.specs.Equations.{Equation, equation, AllHold, IsMostGeneralFrom}
use Rattle.lp_type_laws.specs.Solving.{fails}
use Rattle.lp_type_laws.specs.Solving as types
use Rattle.lp_type_laws.specs.Units.{units, solve_within}
use Rattle.lp_type_laws.proofs.GoingOn.{as_without}
use Rattle.lp_type_laws.proofs.Types.{instance-var}
use Rattle.lp_term.specs.Nodes.{Nodes, type_tree, Extends}
use Rattle.lp_term.specs.declared.node.TypeId.{TypeId}
use Rattle.lp_type_unify.specs.Reading.{Slot, read_pair, read_pairs, IsPair}
use Rattle.lp_type_unify.specs.Counting.{HasEnded, IsRefused}
use Rattle.lp_type_unify.specs.declared.bindings.Pair.{Pair}
use Rattle.lp_type_unify.specs.declared.counted.EquationRefusal.{EquationRefusal}
use Rattle.lp_model.specs.Types.{TypePair, TypeBinding, put_types, put_type, one_type, TypeOutcome, none, solved, solve_types}
use Rattle.lp_lemmas.proofs.Lists.{map_reverse}
use Rattle.lp_pattern.proofs.Walking.{types_kept}
use Rattle.lp_pattern.specs.declared.bindings.Bindings.{Bindings}
use Rattle.lp_pattern.specs.declared.fault.PatternRefusal.{PatternRefusal}
use Rattle.lp_pattern.specs.Refusing.{IsOfEquations}
use Rattle.lp_pattern.specs.Under.{TypeIs, AreTypes}
use Rattle.lp_pattern.specs.Inside.{IsTypePairOf}
use Rattle.lp_pattern.specs.Reading.{type_pairs_of}
use Rattle.lp_unify_laws.specs.TypeSolutions.{equations}
use Rattle.lp_pattern.specs.Filling.{AreFilled, AreKnown, IsStill, AreSolved, IsSolvedIn, IsUnsolvedIn, units_in, held, equation_under, AreIn}
use Rattle.lp_pattern.specs.declared.fill_types.TypesFilled.{TypesFilled}
use Rattle.lp_pattern.proofs.TypesBound.{solved_good}
use Rattle.lp_pattern.proofs.TypesCounted.{as_many}
use Rattle.lp_pattern.proofs.TypeSolving.{solved_same, fails_same, spent_same}

-- lists of pairs

equations_are : (b : Nodes) (θ : ℕ → Ty) (ps : List (TypeId × TypeId)) → equations (type_pairs_of b θ ps) ≡ map (equation_under b θ) ps
equations_are b θ [] = refl
equations_are b θ (p ∷ ps) = ap (λ es. equation (instance θ (type_tree b p.0.0)) (instance θ (type_tree b p.1.0)) ∷ es) (equations_are b θ ps)

read_held : (b : Nodes) (ps : List Pair) → map (read_pair (type_tree b) var) ps ≡ map (held b) ps
read_held b [] = refl
read_held b (p ∷ ps) = λ i. equation (instance-var (type_tree b p.left.0) i) (instance-var (type_tree b p.right.0) i) ∷ read_held b ps i

held_later : (b c : Nodes) → Extends b c → (ps : List Pair) → AreIn b ps → map (held c) ps ≡ map (held b) ps
held_later b c E [] k = refl
held_later b c E (p ∷ ps) k = λ i. equation (E.same_types p.left.0 k.0 i) (E.same_types p.right.0 k.1 i) ∷ held_later b c E ps k.2 i

in_later : (b c : Nodes) → Extends b c → (ps : List Pair) → AreIn b ps → AreIn c ps
in_later b c E [] k = tt
in_later b c E (p ∷ ps) k = let m = E.more_types in let l = k.0 in let r = k.1 in (omega arith, omega arith, in_later b c E ps k.2)

in_snoc : (b : Nodes) (ps : List Pair) (p : Pair) → AreIn b ps → p.left.0 < length b.types → p.right.0 < length b.types → AreIn b (ps ++ p ∷ [])
in_snoc b [] p k l r = (l, r, tt)
in_snoc b (q ∷ qs) p k l r = (k.0, k.1, in_snoc b qs p k.2 l r)

known_split : (b : Nodes) (ps : List (TypeId × TypeId)) (p : TypeId × TypeId) → AreKnown b (ps ++ p ∷ []) → AreKnown b ps × (p.0.0 < length b.types) × (p.1.0 < length b.types)
known_split b [] p k = (tt, k.0, k.1)
known_split b (q ∷ qs) p k = let w = known_split b qs p k.2 in ((k.0, k.1, w.0), w.1, w.2)

pub all_known : (b : Nodes) (ps : List (TypeId × TypeId)) → All (IsTypePairOf (length b.types)) ps → AreKnown b ps
all_known b [] a = tt
all_known b (p ∷ ps) a = let w = All-head (IsTypePairOf (length b.types)) p ps a in (w.0, w.1, all_known b ps (All-tail (IsTypePairOf (length b.types)) p ps a))

pub one_more_pair : (b c d : Nodes) (old new : List Pair) (left right : TypeId) → Extends b c → Extends c d → new ≡ old ++ (record { left = left; right = right }) ∷ [] →
    All (IsPair (length b.types)) old → left.0 < length c.types → right.0 < length d.types → All (IsPair (length d.types)) new
one_more_pair b c d old new left right E F e a l r =
    All_pushed (IsPair (length d.types)) new old (record { left = left; right = right }) e
    (All-weaker (IsPair (length b.types)) (IsPair (length d.types)) (λ p w. (omega (arith, w.0, E.more_types, F.more_types), omega (arith, w.1, E.more_types, F.more_types))) old a)
    (omega (arith, l, F.more_types), r)

-- one pair more has its bindings put in
pub one_more : (a b c d : Nodes) (s : Bindings) (θ : ℕ → Ty) (done : List (TypeId × TypeId)) (p : TypeId × TypeId) (old new : List Pair) (left right : TypeId) (before between after : TypesFilled) →
    Extends a b → Extends b c → Extends c d → AreTypes a s θ → AreKnown a (done ++ p ∷ []) →
    (AreKnown a done → AreFilled b θ before × AreIn b old × (map (held b) old ≡ map (equation_under a θ) done)) → new ≡ old ++ (record { left = left; right = right }) ∷ [] →
    ((κ : ℕ → Ty) → AreTypes b s κ → AreFilled b κ before → AreFilled c κ between × (left.0 < length c.types) × (type_tree c left.0 ≡ instance κ (type_tree b p.0.0))) →
    ((κ : ℕ → Ty) → AreTypes c s κ → AreFilled c κ between → AreFilled d κ after × (right.0 < length d.types) × (type_tree d right.0 ≡ instance κ (type_tree c p.1.0))) →
    AreFilled d θ after × AreIn d new × (map (held d) new ≡ map (equation_under a θ) (done ++ p ∷ []))
one_more a b c d s θ done p old new left right before between after D E F A k h e f g =
    let q = known_split a done p k in
    let w = h q.0 in
    let l = f θ (types_kept a b s θ D A) w.0 in
    let r = g θ (types_kept b c s θ E (types_kept a b s θ D A)) l.0 in
    let m = F.more_types in
    let n = D.more_types in
    let last : Pair = record { left = left; right = right } in
    let o = in_later c d F old (in_later b c E old w.1) in
    let all : map (held d) old ≡ map (equation_under a θ) done = held_later c d F old (in_later b c E old w.1) ∙ held_later b c E old w.1 ∙ w.2 in
    let one : type_tree d left.0 ≡ instance θ (type_tree a p.0.0) = F.same_types left.0 l.1 ∙ l.2 ∙ ap (instance θ) (D.same_types p.0.0 q.1) in
    let other : type_tree d right.0 ≡ instance θ (type_tree a p.1.0) = r.2 ∙ ap (instance θ) (E.same_types p.1.0 (right_in q.2 n) ∙ D.same_types p.1.0 q.2) in
    let end : held d last ≡ equation_under a θ p = (λ i. equation (one i) (other i)) in
    let within = l.1 in (
      r.0,
      transport (AreIn d) (sym e) (in_snoc d old last o (omega (arith, m, within)) r.1),
      ap (map (held d)) e ∙ map-append (held d) old (last ∷ []) ∙ (λ i. all i ++ end i ∷ []) ∙ sym (map-append (equation_under a θ) done (p ∷ [])),
    )
  where
    right_in : p.1.0 < length a.types → length a.types ≤ length b.types → p.1.0 < length b.types
    right_in x y = omega (arith, x, y)

pub all_read : (a b : Nodes) (θ : ℕ → Ty) (ps done : List (TypeId × TypeId)) (made : List Pair) (Rest : Type 0) → done ≡ reverse ps → AreKnown a done →
    (AreKnown a done → Rest × AreIn b made × (map (held b) made ≡ map (equation_under a θ) done)) → read_pairs (type_tree b) var made ≡ equations (type_pairs_of a θ ps)
all_read a b θ ps done made Rest e k h =
    ap reverse (read_held b made ∙ (h k).2 ∙ ap (map (equation_under a θ)) e ∙ map_reverse (equation_under a θ) ps) ∙ reverse-reverse (map (equation_under a θ) ps) ∙ sym (equations_are a θ ps)

-- bindings put in one after the other

pub put_is : (bs : List TypeBinding) (t : Ty) → put_types bs t ≡ instance (λ x. put_types bs (var x)) t
put_is [] t = sym (instance-var t)
put_is (b ∷ bs) t =
    put_is bs (put_type b t) ∙ instance-instance (one_type b) (λ x. put_types bs (var x)) t ∙ (λ i. instance (λ x. sym (put_is bs (one_type b x)) i) t)

-- lookups in one list behind another

past : {A : Type 0} (v : A) (s : Bool) (o p q : Option A) → (if s then Some v else o) ≡ None → (o ≡ None → p ≡ q) → (if s then Some v else p) ≡ q
past v true o p q e f = absurd (cc)
past v false o p q e f = f e

at_first : {A : Type 0} (v w : A) (s : Bool) (o p : Option A) → (if s then Some v else o) ≡ Some w → (o ≡ Some w → p ≡ Some w) → (if s then Some v else p) ≡ Some w
at_first v w true o p e f = e
at_first v w false o p e f = f e

pub lookup_past : {A : Type 0} (test : ℕ → Bool) (xs ys : List (ℕ × A)) → lookup test xs ≡ None → lookup test (xs ++ ys) ≡ lookup test ys
lookup_past test [] ys e = refl
lookup_past test (x ∷ xs) ys e = past x.1 (test x.0) (lookup test xs) (lookup test (xs ++ ys)) (lookup test ys) e (lookup_past test xs ys)

pub lookup_at : {A : Type 0} (test : ℕ → Bool) (xs ys : List (ℕ × A)) (v : A) → lookup test xs ≡ Some v → lookup test (xs ++ ys) ≡ Some v
lookup_at test [] ys v e = absurd (cc)
lookup_at test (x ∷ xs) ys v e = at_first x.1 v (test x.0) (lookup test xs) (lookup test (xs ++ ys)) e (lookup_at test xs ys v)

take_snoc : {A : Type 0} (n : ℕ) (xs : List A) (x : A) → slice_get xs n ≡ Some x → take (suc n) xs ≡ take n xs ++ x ∷ []
take_snoc zero [] x e = absurd (cc)
take_snoc (suc n) [] x e = absurd (cc)
take_snoc zero (y ∷ ys) x e = cc
take_snoc (suc n) (y ∷ ys) x e = ap (λ l. y ∷ l) (take_snoc n ys x e)

-- one binding more is taken over
pub one_taken : (n : ℕ) (all old now new : List (ℕ × TypeId)) (x : ℕ × TypeId) → now ≡ old ++ take n all → new ≡ now ++ x ∷ [] → slice_get all n ≡ Some x → new ≡ old ++ take (n + 1) all
one_taken n all old now new x e f g =
    let m : suc n ≡ n + 1 = omega arith in
    f ∙ ap (λ l. l ++ x ∷ []) e ∙ append_assoc old (take n all) (x ∷ []) ∙ ap (λ l. old ++ l) (sym (take_snoc n all x g) ∙ ap (λ k. take k all) m)

distinct_snoc : (xs : List ℕ) (x : ℕ) → IsDistinct nat_eq xs → AllByRecursion (λ y. nat_eq x y ≡ false) xs → IsDistinct nat_eq (xs ++ x ∷ [])
unfolding IsDistinct
distinct_snoc [] x d a = (tt, tt)
distinct_snoc (y ∷ ys) x d a = (snoc ys d.0, distinct_snoc ys x d.1 a.1)
  where
    snoc : (zs : List ℕ) → AllByRecursion (λ z. nat_eq y z ≡ false) zs → AllByRecursion (λ z. nat_eq y z ≡ false) (zs ++ x ∷ [])
    snoc [] k = (nat_eq_equiv.symm y x ∙ a.0, tt)
    snoc (z ∷ zs) k = (k.0, snoc zs k.1)

not_passed : {A : Type 0} (s : Bool) (v : A) (o : Option A) → (if s then Some v else o) ≡ None → (s ≡ false) × (o ≡ None)
not_passed true v o e = absurd (cc)
not_passed false v o e = (refl, e)

other_keys : (x : ℕ) (old es : List (ℕ × TypeId)) → lookup (nat_eq x) (old ++ es) ≡ None → AllByRecursion (λ y. nat_eq x y ≡ false) (keys_of es)
other_keys x [] [] e = tt
other_keys x [] (y ∷ ys) e = let w = not_passed (nat_eq x y.0) y.1 (lookup (nat_eq x) ys) e in (w.0, other_keys x [] ys w.1)
other_keys x (o ∷ old) es e = other_keys x old es (not_passed (nat_eq x o.0) o.1 (lookup (nat_eq x) (old ++ es)) e).1

pub none_distinct : IsDistinct nat_eq []
unfolding IsDistinct
none_distinct = tt

pub keys_distinct : (n : ℕ) (all old now : List (ℕ × TypeId)) (x : ℕ × TypeId) → now ≡ old ++ take n all → slice_get all n ≡ Some x → lookup (nat_eq x.0) now ≡ None → IsDistinct nat_eq (keys_of (take n all)) → IsDistinct nat_eq (keys_of (take (n + 1) all))
keys_distinct n all old now x e g f d =
    let m : suc n ≡ n + 1 = omega arith in
    let keys : keys_of (take (n + 1) all) ≡ keys_of (take n all) ++ x.0 ∷ [] = ap (λ k. keys_of (take k all)) (sym m) ∙ ap keys_of (take_snoc n all x g) ∙ keys_snoc (take n all) in
    transport (IsDistinct nat_eq) (sym keys) (distinct_snoc (keys_of (take n all)) x.0 d (other_keys x.0 old (take n all) (ap (lookup (nat_eq x.0)) (sym e) ∙ f)))
  where
    keys_snoc : (es : List (ℕ × TypeId)) → keys_of (es ++ x ∷ []) ≡ keys_of es ++ x.0 ∷ []
    keys_snoc [] = refl
    keys_snoc (y ∷ ys) = ap (λ l. y.0 ∷ l) (keys_snoc ys)

-- types solved behind types

abbrev later_types : List TypeBinding → (ℕ → Ty) → ℕ → Ty
later_types bs θ x = put_types bs (θ x)

module _ (θ ι : ℕ → Ty) (bs : List TypeBinding) (puts : (x : ℕ) → ι x ≡ put_types bs (var x)) where
  both : (t : Ty) → put_types bs t ≡ instance ι t
  both t = put_is bs t ∙ (λ i. instance (λ x. sym (puts x) i) t)

  -- the types behind of a type with the first ones put in
  behind : (t : Ty) → instance (later_types bs θ) t ≡ instance ι (instance θ t)
  behind t = (λ i. instance (λ x. both (θ x) i) t) ∙ sym (instance-instance θ ι t)

  again : IsStill θ → (t : Ty) → instance θ (instance θ t) ≡ instance θ t
  again still t = instance-instance θ θ t ∙ (λ i. instance (λ x. still x i) t)

  hold : IsStill θ → (b : Nodes) (ps : List (TypeId × TypeId)) → AllHold ι (equations (type_pairs_of b θ ps)) → AllHold (later_types bs θ) (equations (type_pairs_of b θ ps))
  hold still b [] h = tt
  hold still b (p ∷ ps) h = (
    (behind (instance θ (type_tree b p.0.0)) ∙ ap (instance ι) (again still (type_tree b p.0.0)) ∙ h.0 ∙ sym (ap (instance ι) (again still (type_tree b p.1.0))) ∙ sym (behind (instance θ (type_tree b p.1.0)))),
    hold still b ps h.1,
  )

  module _ (still : IsStill θ) (follows : (x : ℕ) → instance (later_types bs θ) (ι x) ≡ (later_types bs θ) x) where
    past_all : (t : Ty) → instance (later_types bs θ) (instance ι t) ≡ instance (later_types bs θ) t
    past_all t = instance-instance ι (later_types bs θ) t ∙ (λ i. instance (λ x. follows x i) t)

    pub still_then : IsStill (λ x. put_types bs (θ x))
    still_then x =
        ap (instance (later_types bs θ)) (both (θ x)) ∙ past_all (θ x) ∙ behind (θ x) ∙ ap (instance ι) (still x) ∙ sym (both (θ x))

    old_type : (b c : Nodes) → Extends b c → (x : ℕ) (t : TypeId) → TypeIs b θ x (Some t) → TypeIs c (later_types bs θ) x (Some t)
    old_type b c E x t h = (
      let m = E.more_types in let k = h.0 in omega arith,
      both (θ x) ∙ ap (instance ι) h.1 ∙ sym (behind (type_tree b t.0)) ∙ ap (instance (later_types bs θ)) (sym (E.same_types t.0 h.0)),
    )

    new_type : (c : Nodes) (x : ℕ) (o : Option TypeId) → θ x ≡ var x → Slot (type_tree c) (length c.types) ι x o → TypeIs c (later_types bs θ) x o
    new_type c x None e h = both (θ x) ∙ ap (instance ι) e ∙ h
    new_type c x (Some t) e h =
        let is : (later_types bs θ) x ≡ ι x = both (θ x) ∙ ap (instance ι) e in
        (h.2, sym (follows x) ∙ ap (instance (later_types bs θ)) h.0 ∙ past_all (type_tree c t.0))

    types_at : (b c : Nodes) (old new : List (ℕ × TypeId)) (x : ℕ) (o : Option TypeId) → Extends b c → lookup (nat_eq x) old ≡ o → TypeIs b θ x o →
        Slot (type_tree c) (length c.types) ι x (lookup (nat_eq x) new) → TypeIs c (later_types bs θ) x (lookup (nat_eq x) (old ++ new))
    types_at b c old new x None E e h k = transport (TypeIs c (later_types bs θ) x) (sym (lookup_past (nat_eq x) old new e)) (new_type c x (lookup (nat_eq x) new) h k)
    types_at b c old new x (Some t) E e h k = transport (TypeIs c (later_types bs θ) x) (sym (lookup_at (nat_eq x) old new t e)) (old_type b c E x t h)

none_before : (u : ℕ) → 0 + u ≡ u
none_before u = omega arith

none_behind : (u : ℕ) → u ≡ u + 0
none_behind u = omega arith

length_append : {A : Type 0} (xs ys : List A) → length (xs ++ ys) ≡ length xs + length ys
length_append [] ys = none_before' (length ys)
  where
    none_before' : (u : ℕ) → u ≡ 0 + u
    none_before' u = omega arith
length_append (x ∷ xs) ys = ap suc (length_append xs ys) ∙ carried (length xs) (length ys)
  where
    carried : (m n : ℕ) → suc (m + n) ≡ suc m + n
    carried m n = omega arith

count_is : (old new now : List (ℕ × TypeId)) (bs : List TypeBinding) → now ≡ old ++ new → length new ≡ length bs → length now ≡ length old + length bs
count_is old new now bs e f = ap length e ∙ length_append old new ∙ ap (λ n. length old + n) f

-- everything of a solution
pub all_solved : (b c : Nodes) (s s' : Bindings) (θ ι : ℕ → Ty) (old new : List (ℕ × TypeId)) (ps : List (TypeId × TypeId)) (limit left n : ℕ) (r : TypeOutcome) → Extends b c → AreTypes b s θ → IsStill θ →
    s.types.entries ≡ old → s'.types.entries ≡ old ++ new → IsDistinct nat_eq (keys_of new) → HasEnded (solve_within limit (equations (type_pairs_of b θ ps)) var) limit left ι → IsMostGeneralFrom var (equations (type_pairs_of b θ ps)) ι →
    ((x : ℕ) → Slot (type_tree c) (length c.types) ι x (lookup (nat_eq x) new)) → solve_types n (type_pairs_of b θ ps) [] 0 ≡ Some r → AreSolved s c s' θ limit left r
all_solved b c s s' θ ι old new ps limit left n r E A still e f apart H G K d =
    let es = equations (type_pairs_of b θ ps) in
    let w = as_without limit H.0 (types.solved ι) es var H.1 in
    let h = solved_same n w.0 (type_pairs_of b θ ps) var ι [] 0 r d w.1 in
    let good = solved_good n (type_pairs_of b θ ps) [] 0 h.bindings (0 + units w.0 es var) (d ∙ ap Some h.is) tt tt in
    let follows = G.first (later_types h.bindings θ) (λ x. refl) (hold θ ι h.bindings h.puts still b ps G.solves) in
    record {
      bindings = h.bindings;
      used = units w.0 es var;
      is = h.is ∙ ap (solved h.bindings) (none_before (units w.0 es var));
      units = H.2 ∙ ap (λ u. u + left) w.2;
      types = λ x. transport (TypeIs c (later_types h.bindings θ) x) (ap (lookup (nat_eq x)) (sym f)) (types_at θ ι h.bindings h.puts still follows b c old new x (lookup (nat_eq x) old) E refl (transport (TypeIs b θ x) (ap (lookup (nat_eq x)) e) (A x)) (K x));
      still = still_then θ ι h.bindings h.puts still follows;
      count = count_is s.types.entries new s'.types.entries h.bindings (f ∙ ap (λ l. l ++ new) (sym e)) (as_many (type_tree c) ι (length c.types) new K apart h.bindings good h.puts);
    }

-- no equations
pub none_solved : (b : Nodes) (s : Bindings) (θ : ℕ → Ty) (ps : List TypePair) (u n : ℕ) (r : TypeOutcome) → AreTypes b s θ → IsStill θ → ps ≡ [] → solve_types n ps [] 0 ≡ Some r → AreSolved s b s θ u u r
none_solved b s θ ps u n r A still e d = go n (transport (λ l. solve_types n l [] 0 ≡ Some r) e d)
  where
    go : (n : ℕ) → solve_types n [] [] 0 ≡ Some r → AreSolved s b s θ u u r
    go zero f = absurd (cc)
    go (suc n) f = record { bindings = []; used = 0; is = sym (is_some (solved [] 0) r f); units = sym (none_before u); types = A; still = still; count = none_behind (length s.types.entries) }
      where
        is_some : (x y : TypeOutcome) → Some x ≡ Some y → x ≡ y
        is_some x y g = cc

-- the units of a run that was solved
pub units_solved : (ι : ℕ → Ty) (ps : List TypePair) (limit left n : ℕ) (o : TypeOutcome) → HasEnded (solve_within limit (equations ps) var) limit left ι → solve_types n ps [] 0 ≡ Some o → IsSolvedIn limit left o
units_solved ι ps limit left n o H d =
    let w = as_without limit H.0 (types.solved ι) (equations ps) var H.1 in
    let h = solved_same n w.0 ps var ι [] 0 o d w.1 in
    transport (IsSolvedIn limit left) (sym h.is) (H.2 ∙ ap (λ u. u + left) (w.2 ∙ sym (none_before (units w.0 (equations ps) var))))

pub units_of_none : (ps : List TypePair) (u n : ℕ) (o : TypeOutcome) → ps ≡ [] → solve_types n ps [] 0 ≡ Some o → IsSolvedIn u u o
units_of_none ps u n o e d = go n (transport (λ l. solve_types n l [] 0 ≡ Some o) e d)
  where
    go : (n : ℕ) → solve_types n [] [] 0 ≡ Some o → IsSolvedIn u u o
    go zero f = absurd (cc)
    go (suc n) f = transport (IsSolvedIn u u) (is_some (solved [] 0) o f) (sym (none_before u))
      where
        is_some : (x y : TypeOutcome) → Some x ≡ Some y → x ≡ y
        is_some x y g = cc

-- a refusal
over : (limit : ℕ) (o : TypeOutcome) → limit < units_in o → IsUnsolvedIn PatternRefusal.Deep limit o
over limit (none u) l = l
over limit (solved bs u) l = l

pub refused_rightly : (q : EquationRefusal) (p : PatternRefusal) (limit n : ℕ) (ps : List TypePair) (r : TypeOutcome) → IsOfEquations q p → IsRefused q (solve_within limit (equations ps) var) → solve_types n ps [] 0 ≡ Some r → IsUnsolvedIn p limit r
refused_rightly EquationRefusal.Fails p limit n ps r e h d =
    let w = as_without limit h.0 fails (equations ps) var h.1 in
    let is = fails_same n w.0 ps var [] 0 r d w.1 ∙ ap none (none_before (units w.0 (equations ps) var)) in
    transport (λ x. IsUnsolvedIn x limit r) (sym e) (transport (IsUnsolvedIn PatternRefusal.Fails limit) (sym is) (transport (λ u. u ≤ limit) w.2 w.3))
refused_rightly EquationRefusal.Deep p limit n ps r e h d = transport (λ x. IsUnsolvedIn x limit r) (sym e) (over limit r (let l = spent_same limit n ps var [] 0 r d h in omega arith))
refused_rightly EquationRefusal.Memory p limit n ps r e h d = transport (λ x. IsUnsolvedIn x limit r) (sym e) tt

-- the run over the pairs that were filled, on an empty table

pub ended_there : (τ ρ : ℕ → Ty) (ps qs : List Pair) (es : List Equation) (limit left : ℕ) (ι : ℕ → Ty) → ρ ≡ var → ps ≡ qs → read_pairs τ var qs ≡ es → HasEnded (solve_within limit (read_pairs τ ρ ps) ρ) limit left ι →
    HasEnded (solve_within limit es var) limit left ι
ended_there τ ρ ps qs es limit left ι e f g h = transport (λ x. HasEnded x limit left ι) ((λ i. solve_within limit (read_pairs τ (e i) (f i)) (e i)) ∙ ap (λ l. solve_within limit l var) g) h

pub general_there : (τ ρ : ℕ → Ty) (ps qs : List Pair) (es : List Equation) (ι : ℕ → Ty) → ρ ≡ var → ps ≡ qs → read_pairs τ var qs ≡ es → IsMostGeneralFrom ρ (read_pairs τ var ps) ι → IsMostGeneralFrom var es ι
general_there τ ρ ps qs es ι e f g h = transport (λ l. IsMostGeneralFrom var l ι) (ap (read_pairs τ var) f ∙ g) (transport (λ x. IsMostGeneralFrom x (read_pairs τ var ps) ι) e h)

pub refused_there : (τ ρ : ℕ → Ty) (ps qs : List Pair) (es : List Equation) (limit : ℕ) (q : EquationRefusal) → ρ ≡ var → ps ≡ qs → read_pairs τ var qs ≡ es → IsRefused q (solve_within limit (read_pairs τ ρ ps) ρ) → IsRefused q (solve_within limit es var)
refused_there τ ρ ps qs es limit q e f g h = transport (IsRefused q) ((λ i. solve_within limit (read_pairs τ (e i) (f i)) (e i)) ∙ ap (λ l. solve_within limit l var) g) h

-- there is an element at each place inside
pub some_inside : {X : Type 0} (xs : List X) (i : ℕ) → i < length xs → slice_get xs i ≡ None → ⊥
some_inside {X = X} xs i l e = go (slice_get_cases xs i).1
  where
    go : ((x : X) × (i < length xs) × (slice_get xs i ≡ Some x) × (get_or xs i x ≡ x)) ⊎ ((length xs ≤ i) × (slice_get xs i ≡ None)) → ⊥
    go (inl h) = let z : ◌≡◌ {A = Option X} None (Some h.0) = sym e ∙ h.2 in absurd (cc)
    go (inr h) = absurd (omega (arith, l, h.0))
