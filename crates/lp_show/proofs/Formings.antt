-- The forms of the values and the sides, one after the other.
use Rattle.std.proofs.Common.{◌≡◌, ℕ, zero, suc, ◌+◌, ◌<◌, ◌≤◌, ◌^◌, List, [], ◌∷◌, ◌++◌, Bool, true, false, length, map, get_or, drop, refl, sym, ap, ap₂, ◌∙◌, subst, arith, append_assoc, append-nil, drop-cons, add-one, ◌⊎◌, inl, inr}
use Rattle.std.specs.Prelude.{All, if◌then◌else◌}
use Rattle.std.proofs.lemmas.List.Elements.{All-weaker, All-head, All-tail}
use Rattle.lp_calculus.specs.Term.{Term}
use Rattle.lp_term.specs.Frame.{in_order}
use Rattle.lp_term.specs.Nodes.{Nodes, Extends, tree}
use Rattle.lp_term.specs.Spine.{LooseBelow}
use Rattle.lp_term.specs.declared.node.TermId.{TermId}
use Rattle.lp_term.specs.declared.reduce.TermRefusal.{TermRefusal}
use Rattle.lp_term.specs.declared.reduce.TermRefusal.TheVariants.{Deep, Memory}
use Rattle.lp_term.proofs.Ways.{in_order_stay, in_order_last}
use Rattle.lp_model.specs.declared.answer.Pair as code
use Rattle.lp_model.specs.Shown.{is_shown}
use Rattle.lp_show.specs.declared.forms.Sides.{Sides}
use Rattle.lp_model.specs.Whole.{CanBeShown, CanPairBeShown}
use Rattle.lp_show.specs.Forms.{AreForms, AreSides, IsDeep, IsFirstDeep, IsShownForm, pair_trees, sides_of, values_of}
use Rattle.lp_show.specs.Sides.{IsDeepPair, IsDeepValue, IsSidesIn, side_trees}

-- the elements from one on
pub from_here : {X Y : Type 0} (f : X → Y) (xs : List X) (i : ℕ) (x : X) → i < length xs → x ≡ get_or xs i x → map f (drop i xs) ≡ f x ∷ map f (drop (i + 1) xs)
from_here f xs i x h q = ap (map f) (drop-cons xs i x h) ∙ ap₂ (λ y j. f y ∷ map f (drop j xs)) (sym q) (sym (add-one i))

pub none_left : {X Y : Type 0} (f : X → Y) (xs : List X) (i : ℕ) → length xs ≤ i → map f (drop i xs) ≡ []
none_left f [] zero h = refl
none_left f [] (suc i) h = refl
none_left f (x ∷ xs) zero h = absurd (omega arith)
none_left f (x ∷ xs) (suc i) h = none_left f xs i (omega arith)

-- a bank with more nodes
pub can_later : (b c : Nodes) (t : TermId) → Extends b c → CanBeShown b t → CanBeShown c t
can_later b c t x h = (omega (arith, h.0, x.more_terms), subst (LooseBelow (2 ^ 32) 0) (sym (x.same_terms t.0 h.0)) h.1)

pub can_pair_later : (b c : Nodes) (p : code.Pair) → Extends b c → CanPairBeShown b p → CanPairBeShown c p
can_pair_later b c p x h = (can_later b c p.left x h.0, can_later b c p.right x h.1)

-- a refusal of the first of terms, and of a later one
pub first_deep : (t : Term) (ts : List Term) (e : TermRefusal) → IsDeep t e → IsFirstDeep (t ∷ ts) e
first_deep t ts (Deep k) d = inl d
first_deep t ts Memory d = tt

pub later_deep : (t s : Term) (ts : List Term) (e : TermRefusal) → IsShownForm t s → IsFirstDeep ts e → IsFirstDeep (t ∷ ts) e
later_deep t s ts (Deep k) f d = inr ((s, f), d)
later_deep t s ts Memory f d = tt

pub memory_deep : (ts : List Term) (e : TermRefusal) → e ≡ Memory → IsFirstDeep ts e
memory_deep ts e q = subst (IsFirstDeep ts) (sym q) tt

module _ (n : List ℕ) (ns : List (List ℕ)) (t : Term) (us ts : List Term) where
  pub value_deep : (e : TermRefusal) → IsDeepValue n t e → IsFirstDeep (values_of (n ∷ ns) (t ∷ us) ++ ts) e
  value_deep (Deep k) d = subst (λ b. IsFirstDeep ((if b then t ∷ values_of ns us else values_of ns us) ++ ts) (Deep k)) (sym d.0) (inl d.1)
  value_deep Memory d = tt

  pub value_passed : (s : Term) (e : TermRefusal) → (is_shown n ≡ true → IsShownForm t s) → IsFirstDeep (values_of ns us ++ ts) e → IsFirstDeep (values_of (n ∷ ns) (t ∷ us) ++ ts) e
  value_passed s e f d = go (is_shown n) refl
    where
      go : (b : Bool) → is_shown n ≡ b → IsFirstDeep ((if b then t ∷ values_of ns us else values_of ns us) ++ ts) e
      go true q = later_deep t s (values_of ns us ++ ts) e (f q) d
      go false q = d

-- one form more
module _ (b0 b1 b2 : Nodes) (x : Extends b0 b1) (y : Extends b1 b2) where
  pub one_form : (forms new : List TermId) (made : TermId) (fs : List Term) → All (λ t. t.0 < length b1.terms) forms → new ≡ forms ++ made ∷ [] → in_order b2 new ++ fs ≡ in_order b1 forms ++ tree b2 made.0 ∷ fs
  one_form forms new made fs a q =
      ap (λ l. in_order b2 l ++ fs) q ∙ ap (λ l. l ++ fs) (in_order_last b2 forms made ∙ ap (λ l. l ++ tree b2 made.0 ∷ []) (in_order_stay b1 b2 forms y a)) ∙ append_assoc (in_order b1 forms) (tree b2 made.0 ∷ []) fs

  pub same_before : (t : TermId) → t.0 < length b0.terms → tree b1 t.0 ≡ tree b0 t.0
  same_before t h = x.same_terms t.0 h

  pub ids_later : (forms : List TermId) → All (λ t. t.0 < length b1.terms) forms → All (λ t. t.0 < length b2.terms) forms
  ids_later forms a = All-weaker (λ t. t.0 < length b1.terms) (λ t. t.0 < length b2.terms) (λ t h. omega (arith, h, y.more_terms)) forms a

  pub sides_later : (ss : List Sides) → All (IsSidesIn b1) ss → All (IsSidesIn b2) ss
  sides_later ss a = All-weaker (IsSidesIn b1) (IsSidesIn b2) (λ p h. (omega (arith, h.0, y.more_terms), omega (arith, h.1, y.more_terms))) ss a

sides_last : (b : Nodes) (ss : List Sides) (s : Sides) → side_trees b (ss ++ s ∷ []) ≡ side_trees b ss ++ (tree b s.left.0, tree b s.right.0) ∷ []
sides_last b [] s = refl
sides_last b (r ∷ ss) s = ap (λ l. (tree b r.left.0, tree b r.right.0) ∷ l) (sides_last b ss s)

pub sides_stay : (b c : Nodes) (ss : List Sides) → Extends b c → All (IsSidesIn b) ss → side_trees c ss ≡ side_trees b ss
sides_stay b c [] x a = refl
sides_stay b c (s ∷ ss) x a =
    let h = All-head (IsSidesIn b) s ss a in
    ap₂ (λ p l. p ∷ l) (ap₂ (λ t u. (t, u)) (x.same_terms s.left.0 h.0) (x.same_terms s.right.0 h.1)) (sides_stay b c ss x (All-tail (IsSidesIn b) s ss a))

pub pairs_stay : (b c : Nodes) (ps : List code.Pair) → Extends b c → All (CanPairBeShown b) ps → pair_trees c ps ≡ pair_trees b ps
pairs_stay b c [] x a = refl
pairs_stay b c (p ∷ ps) x a =
    let h = All-head (CanPairBeShown b) p ps a in
    ap₂ (λ q l. q ∷ l) (ap₂ (λ t u. (t, u)) (x.same_terms p.left.0 h.0.0) (x.same_terms p.right.0 h.1.0)) (pairs_stay b c ps x (All-tail (CanPairBeShown b) p ps a))

pub one_side : (b c : Nodes) (y : Extends b c) (ss new : List Sides) (made : Sides) (fs : List (Term × Term)) → All (IsSidesIn b) ss → new ≡ ss ++ made ∷ [] →
    side_trees c new ++ fs ≡ side_trees b ss ++ (tree c made.left.0, tree c made.right.0) ∷ fs
one_side b c y ss new made fs a q =
    ap (λ l. side_trees c l ++ fs) q ∙ ap (λ l. l ++ fs) (sides_last c ss made ∙ ap (λ l. l ++ (tree c made.left.0, tree c made.right.0) ∷ []) (sides_stay b c ss y a)) ∙
    append_assoc (side_trees b ss) ((tree c made.left.0, tree c made.right.0) ∷ []) fs

-- a value more has its form
pub values_further : (names ns : List (List ℕ)) (values us done now : List Term) (n : List ℕ) (t s : Term) (rest_n : List (List ℕ)) (rest_t : List Term) → rest_n ≡ n ∷ ns → rest_t ≡ t ∷ us → (is_shown n ≡ true → IsShownForm t s) →
    ((fs : List Term) → now ++ fs ≡ done ++ s ∷ fs) → ((fs : List Term) → AreForms rest_n rest_t fs → AreForms names values (done ++ fs)) → (fs : List Term) → AreForms ns us fs → AreForms names values (now ++ fs)
values_further names ns values us done now n t s rest_n rest_t p q f e inv fs a =
    subst (AreForms names values) (sym (e fs)) (inv (s ∷ fs) (subst (λ l. AreForms l rest_t (s ∷ fs)) (sym p) (subst (λ l. AreForms (n ∷ ns) l (s ∷ fs)) (sym q) (f, a))))

pub pairs_further : (pairs ps rest : List (Term × Term)) (done now : List (Term × Term)) (p s : Term × Term) → rest ≡ p ∷ ps → IsShownForm p.0 s.0 → IsShownForm p.1 s.1 →
    ((fs : List (Term × Term)) → now ++ fs ≡ done ++ s ∷ fs) → ((fs : List (Term × Term)) → AreSides rest fs → AreSides pairs (done ++ fs)) → (fs : List (Term × Term)) → AreSides ps fs → AreSides pairs (now ++ fs)
pairs_further pairs ps rest done now p s q f g e inv fs a = subst (AreSides pairs) (sym (e fs)) (inv (s ∷ fs) (subst (λ l. AreSides l (s ∷ fs)) (sym q) (f, g, a)))

-- a pair of terms before others
pub pair_deep : (p : Term × Term) (ps : List (Term × Term)) (e : TermRefusal) → IsDeepPair p.0 p.1 e → IsFirstDeep (sides_of (p ∷ ps)) e
pair_deep p ps (Deep k) (inl d) = inl d
pair_deep p ps (Deep k) (inr (f, inl d)) = inr (f, inl d)
pair_deep p ps (Deep k) (inr (f, inr (g, d))) = absurd d
pair_deep p ps Memory d = tt

pub deep_value : (n : List ℕ) (t : Term) (e : TermRefusal) → is_shown n ≡ true → IsDeep t e → IsDeepValue n t e
deep_value n t (Deep k) q d = (q, d)
deep_value n t Memory q d = tt

pub as_many : (ns : List (List ℕ)) (ts ss : List Term) → AreForms ns ts ss → length ns ≡ length ss
as_many [] [] [] a = refl
as_many [] [] (s ∷ ss) a = absurd a
as_many [] (t ∷ ts) ss a = absurd a
as_many (n ∷ ns) [] ss a = absurd a
as_many (n ∷ ns) (t ∷ ts) [] a = absurd a
as_many (n ∷ ns) (t ∷ ts) (s ∷ ss) a = ap suc (as_many ns ts ss a.1)

pub length_of_map : {X Y : Type 0} (f : X → Y) (xs : List X) → length (map f xs) ≡ length xs
length_of_map f [] = refl
length_of_map f (x ∷ xs) = ap suc (length_of_map f xs)
