-- Steps of a comparison of two terms that were looked at, over the pairs that are left.
use Rattle.std.proofs.Common.{◌≡◌, ℕ, suc, ◌<◌, ◌⊎◌, inl, inr, List, [], ◌∷◌, ◌++◌, map, reverse, length, ◌∙◌, refl, sym, ap, arith, Bool, true, false, Option, Some, nat_eq, subst as transport}
use Rattle.std.specs.Prelude.{◌&&◌, All}
use Rattle.std.proofs.lemmas.List.{reverse-reverse}
use Rattle.lp_calculus.specs.Term.{Term, apply}
use Rattle.lp_term.specs.Nodes.{Nodes, Extends, tree}
use Rattle.lp_term.specs.declared.node.TermId.{TermId}
use Rattle.lp_model.specs.Same.{same_name}
use Rattle.lp_model.specs.Look.{rigid, flexible, look}
use Rattle.lp_model.specs.Pair.{Pair, Closing, closed}
use Rattle.lp_model.specs.Rule.{Compared, argument_pairs, compare, compare_all}
use Rattle.lp_model.specs.declared.answer.Pair.{Pair as Numbers}
use Rattle.lp_pattern.specs.declared.bindings.Bindings.{Bindings}
use Rattle.lp_pattern.specs.declared.look.Head.{Head}
use Rattle.lp_pattern.specs.declared.look.Looked.{Looked}
use Rattle.lp_pattern.specs.declared.fault.PatternRefusal.{PatternRefusal}
use Rattle.lp_pattern.specs.declared.fault.PatternRefusal.TheVariants.{Deep}
use Rattle.lp_pattern.specs.Under.{IsReading, under, below}
use Rattle.lp_pattern.specs.Growing.{IsPairOf}
use Rattle.lp_pattern.specs.Seen.{IsHead, IsLooked, IsReachedWithin, seen}
use Rattle.lp_pattern.specs.Comparing.{IsRest, IsComparedTo, IsPassed, IsStep, IsHeadCompared, IsHeadPassed, IsAbstraction, are_apart, compare_pairs, pair_at, pair_under, opened_pair, pairs_under, pairs_of}
use Rattle.lp_unify_laws.proofs.MoreSteps.Scans.{Below}
use Rattle.lp_pattern.proofs.PairsCompared.{all_pairs}
use Rattle.lp_pattern.proofs.Compares.{reached_compare, rest_in_front, first_differs, rigid_same, rigid_types_differ, rigid_apart, flexible_same, flexible_apart, mixed_left, mixed_right, opened_left, opened_right, rest_then, rest_compared, pairs_same}
use Rattle.lp_pattern.proofs.Refused.{passed_in_front, passed_before, rest_passed, none_left, heads_passed}
use Rattle.std.proofs.lemmas.List.Elements.{All-nil}
use Rattle.lp_pattern.proofs.Stacks.{pairs_put, pairs_pushed, arguments_under, under_kept, pairs_kept, arguments_known, more_known}
use Rattle.lp_pattern.proofs.Walking.{sees}

-- what the definition sees of it
pub whole_look : (b : Nodes) (s : Bindings) (c : Closing) (r : Looked) → IsReading b s c → IsLooked b s r → (m : ℕ) → look (suc m) (under b c r.whole) ≡ seen (suc m) b c r.head r.top r.arguments.items
whole_look b s c r i k m = let w = sees 0 b s c r (under b c r.whole) i k (0, omega arith, refl) in w.2 m (suc m) (omega (arith, w.1))

pub rigid_look : (b : Nodes) (s : Bindings) (c : Closing) (r : Looked) → IsReading b s c → IsLooked b s r → r.head ≡ Head.Rigid → (m : ℕ) →
    look (suc m) (under b c r.whole) ≡ Some (rigid (under b c r.top) (map (under b c) r.arguments.items))
rigid_look b s c r i k h m = whole_look b s c r i k m ∙ ap (λ x. seen (suc m) b c x r.top r.arguments.items) h

pub variable_look : (b : Nodes) (s : Bindings) (c : Closing) (r : Looked) (x l : ℕ) → IsReading b s c → IsLooked b s r → r.head ≡ Head.Variable x l → (m : ℕ) →
    look (suc m) (under b c r.whole) ≡ Some (flexible x l (map (under b c) r.arguments.items))
variable_look b s c r x l i k h m = whole_look b s c r i k m ∙ ap (λ x. seen (suc m) b c x r.top r.arguments.items) h

-- an abstraction
pub abstraction_head : (b : Nodes) (s : Bindings) (r : Looked) (body : TermId) → IsLooked b s r → r.head ≡ Head.Abstraction body → IsAbstraction (tree b r.whole.0)
abstraction_head b s r body k h =
    let w : IsHead b s (Head.Abstraction body) (tree b r.top.0) r.arguments.items = transport (λ x. IsHead b s x (tree b r.top.0) r.arguments.items) h k.head in
    (tree b body.0, k.made ∙ ap (λ l. apply (tree b r.top.0) (map (λ t. tree b t.0) l)) w.2 ∙ w.0)

abstraction_under : (b : Nodes) (c : Closing) (t : TermId) → IsAbstraction (tree b t.0) → IsAbstraction (under b c t)
abstraction_under b c t w = (below c w.0, ap (closed c) w.1)

opened_on : (units n level : ℕ) (t u : Term) (ps qs : List Pair) → IsAbstraction t ⊎ IsAbstraction u → qs ≡ opened_pair level t u ∷ ps →
    IsRest units units (compare_pairs n (pair_at level t u ∷ ps)) (compare_pairs n qs)
opened_on units n level t u ps qs (inl a) q =
    transport (λ l. IsRest units units (compare_pairs n (pair_at level t u ∷ ps)) (compare_pairs n l)) (ap (λ x. opened_pair level x u ∷ ps) (sym a.1) ∙ sym q)
    (opened_left units n level t u a.0 u 0 0 ps (ap (λ x. Some x) a.1) refl)
opened_on units n level t u ps qs (inr a) q =
    transport (λ l. IsRest units units (compare_pairs n (pair_at level t u ∷ ps)) (compare_pairs n l)) (ap (λ x. opened_pair level t x ∷ ps) (sym a.1) ∙ sym q)
    (opened_right units n level t u t a.0 0 0 ps refl (ap (λ x. Some x) a.1))

either_under : (b : Nodes) (c : Closing) (t u : TermId) → IsAbstraction (tree b t.0) ⊎ IsAbstraction (tree b u.0) → IsAbstraction (under b c t) ⊎ IsAbstraction (under b c u)
either_under b c t u (inl a) = inl (abstraction_under b c t a)
either_under b c t u (inr a) = inr (abstraction_under b c u a)

pub opened_step : (b d : Nodes) (c : Closing) (units n level : ℕ) (t u : TermId) (old new : List Numbers) (p : Numbers) → IsAbstraction (tree b t.0) ⊎ IsAbstraction (tree b u.0) → new ≡ old ++ p ∷ [] →
    pair_under d c p ≡ opened_pair level (under b c t) (under b c u) → pairs_under d c old ≡ pairs_under b c old →
    IsStep true units units (compare_pairs n (pair_at level (under b c t) (under b c u) ∷ pairs_under b c old)) (compare_pairs n (pairs_under d c new))
opened_step b d c units n level t u old new p a q e f =
    opened_on units n level (under b c t) (under b c u) (pairs_under b c old) (pairs_under d c new) (either_under b c t u a)
    (ap (pairs_under d c) q ∙ pairs_pushed d c old p ∙ (λ i. e i ∷ f i))

-- as many arguments
length_map : {A B : Type 0} (f : A → B) (xs : List A) → length xs ≡ length (map f xs)
length_map f [] = refl
length_map f (x ∷ xs) = ap suc (length_map f xs)

as_many : (b : Nodes) (c : Closing) (h : Bool) (xs ys : List TermId) (t : Bool) → (h && nat_eq (length xs) (length ys)) ≡ t → (h && nat_eq (length (map (under b c) xs)) (length (map (under b c) ys))) ≡ t
as_many b c h xs ys t e = (λ i. h && nat_eq (sym (length_map (under b c) xs) i) (sym (length_map (under b c) ys) i)) ∙ e

-- the arguments in the place of the pair
pub with_arguments : (b : Nodes) (c : Closing) (u0 u2 n level : ℕ) (t u : Term) (ts us : List TermId) (old new : List Numbers) → new ≡ old ++ reverse (pairs_of level ts us) →
    IsRest u0 u2 (compare n level t u) (compare_pairs n (argument_pairs level (map (under b c) ts) (map (under b c) us))) →
    IsRest u0 u2 (compare_pairs n (pair_at level t u ∷ pairs_under b c old)) (compare_pairs n (pairs_under b c new))
with_arguments b c u0 u2 n level t u ts us old new q h =
    transport (λ l. IsRest u0 u2 (compare_pairs n (pair_at level t u ∷ pairs_under b c old)) (compare_pairs n l))
    (sym (ap (pairs_under b c) q ∙ pairs_put b c old (pairs_of level ts us) ∙ ap (λ l. l ++ pairs_under b c old) (arguments_under b c level ts us)))
    (rest_in_front u0 u2 n (pair_at level t u) (argument_pairs level (map (under b c) ts) (map (under b c) us)) (pairs_under b c old) h)

module _ (b : Nodes) (s : Bindings) (c : Closing) (one other : Looked) (level n : ℕ) (old : List Numbers) (i : IsReading b s c) (k : IsLooked b s one) (m : IsLooked b s other) where
  abbrev here : List Pair
  here = pair_at level (under b c one.whole) (under b c other.whole) ∷ pairs_under b c old

  -- two rigid heads
  rigid_no : (u0 u1 u2 : ℕ) → one.head ≡ Head.Rigid → other.head ≡ Head.Rigid → u0 ≡ suc u1 →
      IsHeadCompared false u1 u2 (under b c one.top) (under b c other.top) (length one.arguments.items) (length other.arguments.items) → IsComparedTo false u0 u2 (compare n level (under b c one.whole) (under b c other.whole))
  rigid_no u0 u1 u2 p q z (inl h) =
      transport (λ u. IsComparedTo false u0 u (compare n level (under b c one.whole) (under b c other.whole))) h.1
      (rigid_apart u0 u1 n level (under b c one.whole) (under b c other.whole) (under b c one.whole) (under b c other.whole) (under b c one.top) (under b c other.top)
      (map (under b c) one.arguments.items) (map (under b c) other.arguments.items) 0 0 refl refl (rigid_look b s c one i k p) (rigid_look b s c other i m q) z
      (as_many b c (same_name (under b c one.top) (under b c other.top)) one.arguments.items other.arguments.items false h.0))
  rigid_no u0 u1 u2 p q z (inr h) =
      rigid_types_differ u0 u1 u2 n level (under b c one.whole) (under b c other.whole) (under b c one.whole) (under b c other.whole) (under b c one.top) (under b c other.top)
      (map (under b c) one.arguments.items) (map (under b c) other.arguments.items) 0 0 refl refl (rigid_look b s c one i k p) (rigid_look b s c other i m q) z
      (as_many b c (same_name (under b c one.top) (under b c other.top)) one.arguments.items other.arguments.items true h.0) h.1

  rigid_yes : (u0 u1 u2 : ℕ) → one.head ≡ Head.Rigid → other.head ≡ Head.Rigid → u0 ≡ suc u1 →
      IsHeadCompared true u1 u2 (under b c one.top) (under b c other.top) (length one.arguments.items) (length other.arguments.items) →
      IsRest u0 u2 (compare n level (under b c one.whole) (under b c other.whole)) (compare_pairs n (argument_pairs level (map (under b c) one.arguments.items) (map (under b c) other.arguments.items)))
  rigid_yes u0 u1 u2 p q z h =
      rigid_same u0 u1 u2 n level (under b c one.whole) (under b c other.whole) (under b c one.whole) (under b c other.whole) (under b c one.top) (under b c other.top)
      (map (under b c) one.arguments.items) (map (under b c) other.arguments.items) 0 0 refl refl (rigid_look b s c one i k p) (rigid_look b s c other i m q) z
      (as_many b c (same_name (under b c one.top) (under b c other.top)) one.arguments.items other.arguments.items true h.0) h.1

  rigid_on : (u0 u1 u2 : ℕ) (same : Bool) (new : List Numbers) → one.head ≡ Head.Rigid → other.head ≡ Head.Rigid → u0 ≡ suc u1 →
      IsHeadCompared same u1 u2 (under b c one.top) (under b c other.top) (length one.arguments.items) (length other.arguments.items) →
      (same ≡ true → new ≡ old ++ reverse (pairs_of level one.arguments.items other.arguments.items)) → IsStep same u0 u2 (compare_pairs n here) (compare_pairs n (pairs_under b c new))
  rigid_on u0 u1 u2 true new p q z h e =
      with_arguments b c u0 u2 n level (under b c one.whole) (under b c other.whole) one.arguments.items other.arguments.items old new (e refl) (rigid_yes u0 u1 u2 p q z h)
  rigid_on u0 u1 u2 false new p q z h e = first_differs u0 u2 n (pair_at level (under b c one.whole) (under b c other.whole)) (pairs_under b c old) (rigid_no u0 u1 u2 p q z h)

  pub rigid_step : (u0 u1 u2 : ℕ) (is_same same : Bool) (new : List Numbers) → one.head ≡ Head.Rigid → other.head ≡ Head.Rigid → u0 ≡ suc u1 →
      IsHeadCompared is_same u1 u2 (under b c one.top) (under b c other.top) (length one.arguments.items) (length other.arguments.items) → same ≡ is_same →
      (is_same ≡ true → new ≡ old ++ reverse (pairs_of level one.arguments.items other.arguments.items)) → IsStep same u0 u2 (compare_pairs n here) (compare_pairs n (pairs_under b c new))
  rigid_step u0 u1 u2 is_same same new p q z h e f =
      transport (λ x. IsStep x u0 u2 (compare_pairs n here) (compare_pairs n (pairs_under b c new))) (sym e) (rigid_on u0 u1 u2 is_same new p q z h f)

  pub rigid_spent : (u0 : ℕ) (r : PatternRefusal) → one.head ≡ Head.Rigid → other.head ≡ Head.Rigid → u0 ≡ 0 → r ≡ Deep → IsPassed r u0 (compare_pairs n here)
  rigid_spent u0 r p q z d =
      passed_in_front u0 n (pair_at level (under b c one.whole) (under b c other.whole)) (pairs_under b c old) r
      (none_left u0 n level (under b c one.whole) (under b c other.whole) _ _ r z d (rigid_look b s c one i k p) (rigid_look b s c other i m q) tt tt)

  pub rigid_passed : (u0 u1 : ℕ) (r : PatternRefusal) → one.head ≡ Head.Rigid → other.head ≡ Head.Rigid → u0 ≡ suc u1 →
      IsHeadPassed r u1 (under b c one.top) (under b c other.top) (length one.arguments.items) (length other.arguments.items) → IsPassed r u0 (compare_pairs n here)
  rigid_passed u0 u1 r p q z h =
      passed_in_front u0 n (pair_at level (under b c one.whole) (under b c other.whole)) (pairs_under b c old) r
      (heads_passed u0 u1 n level (under b c one.whole) (under b c other.whole) (under b c one.top) (under b c other.top) (map (under b c) one.arguments.items) (map (under b c) other.arguments.items) r
      (rigid_look b s c one i k p) (rigid_look b s c other i m q) z (mapped r h))
    where
      mapped : (r : PatternRefusal) → IsHeadPassed r u1 (under b c one.top) (under b c other.top) (length one.arguments.items) (length other.arguments.items) →
          IsHeadPassed r u1 (under b c one.top) (under b c other.top) (length (map (under b c) one.arguments.items)) (length (map (under b c) other.arguments.items))
      mapped r h = transport (λ x. IsHeadPassed r u1 (under b c one.top) (under b c other.top) x (length (map (under b c) other.arguments.items))) (length_map (under b c) one.arguments.items)
          (transport (λ x. IsHeadPassed r u1 (under b c one.top) (under b c other.top) (length one.arguments.items) x) (length_map (under b c) other.arguments.items) h)

  -- two variables
  variables_on : (u0 u1 x l y j : ℕ) (same : Bool) (new : List Numbers) → one.head ≡ Head.Variable x l → other.head ≡ Head.Variable y j → u0 ≡ suc u1 →
      (nat_eq x y && nat_eq l j && nat_eq (length one.arguments.items) (length other.arguments.items)) ≡ same →
      (same ≡ true → new ≡ old ++ reverse (pairs_of level one.arguments.items other.arguments.items)) → IsStep same u0 u1 (compare_pairs n here) (compare_pairs n (pairs_under b c new))
  variables_on u0 u1 x l y j true new p q z h e =
      with_arguments b c u0 u1 n level (under b c one.whole) (under b c other.whole) one.arguments.items other.arguments.items old new (e refl)
      (flexible_same u0 u1 n level (under b c one.whole) (under b c other.whole) (under b c one.whole) (under b c other.whole) x l y j
      (map (under b c) one.arguments.items) (map (under b c) other.arguments.items) 0 0 refl refl (variable_look b s c one x l i k p) (variable_look b s c other y j i m q) z
      (as_many b c (nat_eq x y && nat_eq l j) one.arguments.items other.arguments.items true h))
  variables_on u0 u1 x l y j false new p q z h e =
      first_differs u0 u1 n (pair_at level (under b c one.whole) (under b c other.whole)) (pairs_under b c old)
      (flexible_apart u0 u1 n level (under b c one.whole) (under b c other.whole) (under b c one.whole) (under b c other.whole) x l y j
      (map (under b c) one.arguments.items) (map (under b c) other.arguments.items) 0 0 refl refl (variable_look b s c one x l i k p) (variable_look b s c other y j i m q) z
      (as_many b c (nat_eq x y && nat_eq l j) one.arguments.items other.arguments.items false h))

  pub variables_step : (u0 u1 x l y j : ℕ) (is_same same : Bool) (new : List Numbers) → one.head ≡ Head.Variable x l → other.head ≡ Head.Variable y j → u0 ≡ suc u1 →
      (nat_eq x y && nat_eq l j && nat_eq (length one.arguments.items) (length other.arguments.items)) ≡ is_same → same ≡ is_same →
      (is_same ≡ true → new ≡ old ++ reverse (pairs_of level one.arguments.items other.arguments.items)) → IsStep same u0 u1 (compare_pairs n here) (compare_pairs n (pairs_under b c new))
  variables_step u0 u1 x l y j is_same same new p q z h e f =
      transport (λ x. IsStep x u0 u1 (compare_pairs n here) (compare_pairs n (pairs_under b c new))) (sym e) (variables_on u0 u1 x l y j is_same new p q z h f)

  pub variables_spent : (u0 x l y j : ℕ) (r : PatternRefusal) → one.head ≡ Head.Variable x l → other.head ≡ Head.Variable y j → u0 ≡ 0 → r ≡ Deep → IsPassed r u0 (compare_pairs n here)
  variables_spent u0 x l y j r p q z d =
      passed_in_front u0 n (pair_at level (under b c one.whole) (under b c other.whole)) (pairs_under b c old) r
      (none_left u0 n level (under b c one.whole) (under b c other.whole) _ _ r z d (variable_look b s c one x l i k p) (variable_look b s c other y j i m q) tt tt)

  -- a variable beside a rigid head
  apart_on : (u0 u1 : ℕ) (g h : Head) → one.head ≡ g → other.head ≡ h → are_apart g h ≡ true → u0 ≡ suc u1 → IsComparedTo false u0 u1 (compare n level (under b c one.whole) (under b c other.whole))
  apart_on u0 u1 (Head.Abstraction a) h p q e z = absurd (cc)
  apart_on u0 u1 Head.Rigid (Head.Abstraction a) p q e z = absurd (cc)
  apart_on u0 u1 Head.Rigid Head.Rigid p q e z = absurd (cc)
  apart_on u0 u1 Head.Rigid (Head.Variable y j) p q e z =
      mixed_right u0 u1 n level (under b c one.whole) (under b c other.whole) (under b c one.whole) (under b c other.whole) (under b c one.top) y j
      (map (under b c) one.arguments.items) (map (under b c) other.arguments.items) 0 0 refl refl (rigid_look b s c one i k p) (variable_look b s c other y j i m q) z
  apart_on u0 u1 (Head.Variable x l) (Head.Abstraction a) p q e z = absurd (cc)
  apart_on u0 u1 (Head.Variable x l) Head.Rigid p q e z =
      mixed_left u0 u1 n level (under b c one.whole) (under b c other.whole) (under b c one.whole) (under b c other.whole) (under b c other.top) x l
      (map (under b c) one.arguments.items) (map (under b c) other.arguments.items) 0 0 refl refl (variable_look b s c one x l i k p) (rigid_look b s c other i m q) z
  apart_on u0 u1 (Head.Variable x l) (Head.Variable y j) p q e z = absurd (cc)

  pub apart_step : (u0 u1 : ℕ) (same : Bool) (o : Option Compared) → are_apart one.head other.head ≡ true → u0 ≡ suc u1 → same ≡ false → IsStep same u0 u1 (compare_pairs n here) o
  apart_step u0 u1 same o e z f =
      transport (λ x. IsStep x u0 u1 (compare_pairs n here) o) (sym f)
      (first_differs u0 u1 n (pair_at level (under b c one.whole) (under b c other.whole)) (pairs_under b c old) (apart_on u0 u1 one.head other.head refl refl e z))

  apart_none : (u0 : ℕ) (r : PatternRefusal) (g h : Head) → one.head ≡ g → other.head ≡ h → are_apart g h ≡ true → u0 ≡ 0 → r ≡ Deep → IsPassed r u0 (compare n level (under b c one.whole) (under b c other.whole))
  apart_none u0 r (Head.Abstraction a) h p q e z d = absurd (cc)
  apart_none u0 r Head.Rigid (Head.Abstraction a) p q e z d = absurd (cc)
  apart_none u0 r Head.Rigid Head.Rigid p q e z d = absurd (cc)
  apart_none u0 r Head.Rigid (Head.Variable y j) p q e z d =
      none_left u0 n level (under b c one.whole) (under b c other.whole) _ _ r z d (rigid_look b s c one i k p) (variable_look b s c other y j i m q) tt tt
  apart_none u0 r (Head.Variable x l) (Head.Abstraction a) p q e z d = absurd (cc)
  apart_none u0 r (Head.Variable x l) Head.Rigid p q e z d =
      none_left u0 n level (under b c one.whole) (under b c other.whole) _ _ r z d (variable_look b s c one x l i k p) (rigid_look b s c other i m q) tt tt
  apart_none u0 r (Head.Variable x l) (Head.Variable y j) p q e z d = absurd (cc)

  pub apart_spent : (u0 : ℕ) (r : PatternRefusal) → are_apart one.head other.head ≡ true → u0 ≡ 0 → r ≡ Deep → IsPassed r u0 (compare_pairs n here)
  apart_spent u0 r e z d =
      passed_in_front u0 n (pair_at level (under b c one.whole) (under b c other.whole)) (pairs_under b c old) r (apart_none u0 r one.head other.head refl refl e z d)

-- the pair whose sides were looked at
pub sides_reached : (n level : ℕ) (t t' u u' : Term) (ps : List Pair) (limit : ℕ) → IsReachedWithin limit t t' → IsReachedWithin limit u u' →
    Below (compare_pairs n (pair_at level t u ∷ ps)) (compare_pairs n (pair_at level t' u' ∷ ps))
sides_reached n level t t' u u' ps limit a e = pairs_same n (pair_at level t u) (pair_at level t' u') ps (reached_compare n level t t' u u' a.0 e.0 a.2 e.2)

pub step_before : (same : Bool) (u0 u1 : ℕ) (o o' p : Option Compared) → Below o o' → IsStep same u0 u1 o' p → IsStep same u0 u1 o p
step_before true u0 u1 o o' p b h = λ r e. h r (b r e)
step_before false u0 u1 o o' p b h = λ r e. h r (b r e)

-- the whole comparison: its start, a step, its end
pub are_start : (b : Nodes) (c : Closing) (units n level : ℕ) (ts us : List TermId) (items : List Numbers) → items ≡ reverse (pairs_of level ts us) →
    IsRest units units (compare_all n level (map (under b c) ts) (map (under b c) us)) (compare_pairs n (pairs_under b c items))
are_start b c units n level ts us items q = λ r e. (
  r,
  ap (λ l. compare_pairs n (map (pair_under b c) l)) (ap reverse q ∙ reverse-reverse (pairs_of level ts us)) ∙ ap (compare_pairs n) (arguments_under b c level ts us) ∙
      all_pairs n level (map (under b c) ts) (map (under b c) us) r e,
  refl,
  refl,
)

pub are_next : (b d : Nodes) (c : Closing) (old now next n : ℕ) (o : Option Compared) (items rest new : List Numbers) (p : Numbers) (same : Bool) → items ≡ rest ++ p ∷ [] → same ≡ true →
    IsRest old now o (compare_pairs n (pairs_under b c items)) → IsStep same now next (compare_pairs n (pair_under b c p ∷ pairs_under b c rest)) (compare_pairs n (pairs_under d c new)) →
    IsRest old next o (compare_pairs n (pairs_under d c new))
are_next b d c old now next n o items rest new p same q e h k =
    rest_then old now next o (compare_pairs n (pairs_under b c items)) (compare_pairs n (pairs_under d c new)) h
    (transport (λ l. IsRest now next (compare_pairs n l) (compare_pairs n (pairs_under d c new))) (sym (ap (pairs_under b c) q ∙ pairs_pushed b c rest p))
    (transport (λ x. IsStep x now next (compare_pairs n (pair_under b c p ∷ pairs_under b c rest)) (compare_pairs n (pairs_under d c new))) e k))

pub are_apart_at : (b : Nodes) (c : Closing) (old now next n : ℕ) (o p' : Option Compared) (items rest : List Numbers) (p : Numbers) (same : Bool) → items ≡ rest ++ p ∷ [] → same ≡ false →
    IsRest old now o (compare_pairs n (pairs_under b c items)) → IsStep same now next (compare_pairs n (pair_under b c p ∷ pairs_under b c rest)) p' → IsComparedTo false old next o
are_apart_at b c old now next n o p' items rest p same q e h k =
    rest_compared old now next false o (compare_pairs n (pairs_under b c items)) h
    (transport (λ l. IsComparedTo false now next (compare_pairs n l)) (sym (ap (pairs_under b c) q ∙ pairs_pushed b c rest p))
    (transport (λ x. IsStep x now next (compare_pairs n (pair_under b c p ∷ pairs_under b c rest)) p') e k))

pub are_done : (b : Nodes) (c : Closing) (old now n : ℕ) (o : Option Compared) (items : List Numbers) → items ≡ [] → IsRest old now o (compare_pairs n (pairs_under b c items)) → IsComparedTo true old now o
are_done b c old now n o items q h = λ r e.
    let s = h r e in
    let z : Some (record { same = true; units = 0 }) ≡ Some s.0 = sym (ap (λ l. compare_pairs n (pairs_under b c l)) q) ∙ s.1 in
    let w : record { same = true; units = 0 } ≡ s.0 = cc in
    (ap (λ x. x.same) w ∙ sym s.2, omega (arith, s.3, ap (λ x. x.units) w))

-- both sides were looked at
pair_below : (b₀ b₁ b₂ : Nodes) (c : Closing) (n limit : ℕ) (pair : Numbers) (one other : TermId) (old : List Numbers) → Extends b₀ b₁ → Extends b₀ b₂ → Extends b₁ b₂ → IsPairOf (length b₀.terms) pair → one.0 < length b₁.terms →
    All (IsPairOf (length b₀.terms)) old → IsReachedWithin limit (under b₀ c pair.left) (under b₁ c one) → IsReachedWithin limit (under b₁ c pair.right) (under b₂ c other) →
    Below (compare_pairs n (pair_under b₀ c pair ∷ pairs_under b₀ c old)) (compare_pairs n (pair_at pair.level (under b₂ c one) (under b₂ c other) ∷ pairs_under b₂ c old))
pair_below b₀ b₁ b₂ c n limit pair one other old e f g p l a h k =
    let t = transport (IsReachedWithin limit (under b₀ c pair.left)) (sym (under_kept b₁ b₂ c one g l)) h in
    let u = transport (λ x. IsReachedWithin limit x (under b₂ c other)) (under_kept b₀ b₁ c pair.right e p.1) k in
    transport (λ l. Below (compare_pairs n (pair_under b₀ c pair ∷ pairs_under b₀ c old)) (compare_pairs n (pair_at pair.level (under b₂ c one) (under b₂ c other) ∷ l))) (sym (pairs_kept b₀ b₂ c old f a))
    (sides_reached n pair.level (under b₀ c pair.left) (under b₂ c one) (under b₀ c pair.right) (under b₂ c other) (pairs_under b₀ c old) limit t u)

pub step_after : (b₀ b₁ b₂ : Nodes) (c : Closing) (n limit : ℕ) (pair : Numbers) (one other : TermId) (old : List Numbers) (same : Bool) (u₀ u₁ : ℕ) (o : Option Compared) → Extends b₀ b₁ → Extends b₀ b₂ → Extends b₁ b₂ →
    IsPairOf (length b₀.terms) pair → one.0 < length b₁.terms → All (IsPairOf (length b₀.terms)) old → IsReachedWithin limit (under b₀ c pair.left) (under b₁ c one) →
    IsReachedWithin limit (under b₁ c pair.right) (under b₂ c other) → IsStep same u₀ u₁ (compare_pairs n (pair_at pair.level (under b₂ c one) (under b₂ c other) ∷ pairs_under b₂ c old)) o →
    IsStep same u₀ u₁ (compare_pairs n (pair_under b₀ c pair ∷ pairs_under b₀ c old)) o
step_after b₀ b₁ b₂ c n limit pair one other old same u₀ u₁ o e f g p l a h k =
    step_before same u₀ u₁ (compare_pairs n (pair_under b₀ c pair ∷ pairs_under b₀ c old)) (compare_pairs n (pair_at pair.level (under b₂ c one) (under b₂ c other) ∷ pairs_under b₂ c old)) o
    (pair_below b₀ b₁ b₂ c n limit pair one other old e f g p l a h k)

pub passed_after : (b₀ b₁ b₂ : Nodes) (c : Closing) (n limit : ℕ) (pair : Numbers) (one other : TermId) (old : List Numbers) (u₀ : ℕ) (r : PatternRefusal) → Extends b₀ b₁ → Extends b₀ b₂ → Extends b₁ b₂ →
    IsPairOf (length b₀.terms) pair → one.0 < length b₁.terms → All (IsPairOf (length b₀.terms)) old → IsReachedWithin limit (under b₀ c pair.left) (under b₁ c one) →
    IsReachedWithin limit (under b₁ c pair.right) (under b₂ c other) → IsPassed r u₀ (compare_pairs n (pair_at pair.level (under b₂ c one) (under b₂ c other) ∷ pairs_under b₂ c old)) →
    IsPassed r u₀ (compare_pairs n (pair_under b₀ c pair ∷ pairs_under b₀ c old))
passed_after b₀ b₁ b₂ c n limit pair one other old u₀ r e f g p l a h k =
    passed_before u₀ n r (compare_pairs n (pair_under b₀ c pair ∷ pairs_under b₀ c old)) (compare_pairs n (pair_at pair.level (under b₂ c one) (under b₂ c other) ∷ pairs_under b₂ c old))
    (pair_below b₀ b₁ b₂ c n limit pair one other old e f g p l a h k)

-- what is on the stack is in the bank
pub left_known : (n level : ℕ) (t : Bool) (ones others : List TermId) (old new : List Numbers) → All (λ t. t.0 < n) ones → All (λ t. t.0 < n) others → All (IsPairOf n) old →
    (t ≡ true → new ≡ old ++ reverse (pairs_of level ones others)) → (t ≡ false → new ≡ old) → All (IsPairOf n) new
left_known n level true ones others old new a e k p q = transport (All (IsPairOf n)) (sym (p refl)) (more_known n old (pairs_of level ones others) k (arguments_known n level ones others a e))
left_known n level false ones others old new a e k p q = transport (All (IsPairOf n)) (sym (q refl)) k

pub refused_at : (b : Nodes) (c : Closing) (old now n : ℕ) (o : Option Compared) (items rest : List Numbers) (p : Numbers) (r : PatternRefusal) → items ≡ rest ++ p ∷ [] →
    IsRest old now o (compare_pairs n (pairs_under b c items)) → IsPassed r now (compare_pairs n (pair_under b c p ∷ pairs_under b c rest)) → IsPassed r old o
refused_at b c old now n o items rest p r q h k =
    rest_passed old now r o (compare_pairs n (pairs_under b c items)) h (transport (λ l. IsPassed r now (compare_pairs n l)) (sym (ap (pairs_under b c) q ∙ pairs_pushed b c rest p)) k)

pub start_known : (n level : ℕ) (ts us : List TermId) (items : List Numbers) → items ≡ reverse (pairs_of level ts us) → All (λ t. t.0 < n) ts → All (λ t. t.0 < n) us → All (IsPairOf n) items
start_known n level ts us items q a e = transport (All (IsPairOf n)) (sym q) (more_known n [] (pairs_of level ts us) (All-nil (IsPairOf n)) (arguments_known n level ts us a e))
