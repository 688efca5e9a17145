-- A leftmost step of the innermost open term is one of the whole term, and moves without a step leave the whole term as it is.
use Rattle.std.proofs.Common.{◌≡◌, ℕ, zero, suc, ◌+◌, ◌<◌, ◌^◌, List, [], ◌∷◌, ◌++◌, length, refl, sym, ap, ◌∙◌, subst as transport, arith, Option, Some, None}
use Rattle.std.specs.Prelude.{All, IsSome}
use Rattle.std.proofs.lemmas.List.Elements.{All-weaker, All-nil, All-head, All-tail, All-cons}
use Rattle.lp_calculus.specs.Term.{Term, index, atom, abs, app, apply}
use Rattle.lp_calculus.specs.Convert.{head_step, leftmost_step, option_term, or_else, steps}
use Rattle.lp_term.specs.Nodes.{Nodes, tree, Extends}
use Rattle.lp_term.specs.Walk.{trees}
use Rattle.lp_term.specs.Spine.{abstractions, IsNoRedexHead, LooseBelow}
use Rattle.lp_term.specs.Facts.{IsNoAbstraction}
use Rattle.lp_term.specs.Frame.{in_order, with_hole, closed, plug, standing, IsFrame}
use Rattle.lp_term.specs.declared.node.TermId.{TermId}
use Rattle.lp_term.specs.declared.normal.Frame.{Frame}
use Rattle.lp_term.proofs.Walks.{trees_stay}
use Rattle.lp_term.proofs.Knowing.{normal_app}

-- head steps are leftmost steps
none_of : (o : Option Term) (f : Term → Term) → option_term f o ≡ None → o ≡ None
none_of None f e = refl
none_of (Some t) f e = absurd (cc)

pub head_is_leftmost : (t s : Term) → head_step t ≡ Some s → leftmost_step t ≡ Some s
head_is_leftmost (index i) s e = absurd (cc)
head_is_leftmost (atom a) s e = absurd (cc)
head_is_leftmost (abs b) s e = elim (head_step b) as (λ o. head_step b ≡ o → option_term abs o ≡ Some s → option_term abs (leftmost_step b) ≡ Some s) [
  | None ↦ λ p q. absurd (cc)
  | Some c ↦ λ p q. ap (option_term abs) (head_is_leftmost b c p) ∙ q
] refl e
head_is_leftmost (app (abs b) u) s e = e
head_is_leftmost (app (index i) u) s e = absurd (cc)
head_is_leftmost (app (atom a) u) s e = absurd (cc)
head_is_leftmost (app (app t v) u) s e = elim (head_step (app t v)) as (λ o. head_step (app t v) ≡ o → option_term (λ x. app x u) o ≡ Some s → leftmost_step (app (app t v) u) ≡ Some s) [
  | None ↦ λ p q. absurd (cc)
  | Some c ↦ λ p q. ap (λ o. or_else (option_term (λ x. app x u) o) (option_term (app (app t v)) (leftmost_step u))) (head_is_leftmost (app t v) c p) ∙ q
] refl e

pub head_steps_leftmost : (n : ℕ) (t s : Term) → steps head_step n t ≡ Some s → steps leftmost_step n t ≡ Some s
head_steps_leftmost zero t s e = e
head_steps_leftmost (suc n) t s e = elim (head_step t) as (λ o. head_step t ≡ o → (elim o [ None ↦ None | Some r ↦ steps head_step n r ]) ≡ Some s → steps leftmost_step (suc n) t ≡ Some s) [
  | None ↦ λ p q. absurd (cc)
  | Some r ↦ λ p q. ap (λ o. elim o [ None ↦ None | Some r ↦ steps leftmost_step n r ]) (head_is_leftmost t r p) ∙ head_steps_leftmost n r s q
] refl e

-- n steps, and then m more
pub steps_more : (n m : ℕ) (t s : Term) → steps leftmost_step n t ≡ Some s → steps leftmost_step (n + m) t ≡ steps leftmost_step m s
steps_more zero m t s e =
    let q : t ≡ s = cc in
    let z : 0 + m ≡ m = omega arith in
    ap (λ k. steps leftmost_step k t) z ∙ ap (steps leftmost_step m) q
steps_more (suc n) m t s e =
    let z : suc n + m ≡ suc (n + m) = omega arith in
    ap (λ k. steps leftmost_step k t) z ∙
    (elim (leftmost_step t) as (λ o. leftmost_step t ≡ o → (elim o [ None ↦ None | Some r ↦ steps leftmost_step n r ]) ≡ Some s → (elim o [ None ↦ None | Some r ↦ steps leftmost_step (n + m) r ]) ≡ steps leftmost_step m s) [
      | None ↦ λ p q. absurd (cc)
      | Some r ↦ λ p q. steps_more n m r s q
    ] refl e)

-- an argument's step, where the head and the arguments before it are normal
argument_step : (p s r : Term) → IsNoAbstraction p → leftmost_step p ≡ None → leftmost_step s ≡ Some r → leftmost_step (app p s) ≡ Some (app p r)
argument_step (index i) s r n h e = ap (option_term (app (index i))) e
argument_step (atom a) s r n h e = ap (option_term (app (atom a))) e
argument_step (abs b) s r n h e = absurd n
argument_step (app t v) s r n h e = λ i. or_else (option_term (λ x. app x s) (h i)) (option_term (app (app t v)) (e i))

more_arguments : (p s q r : Term) (ts : List Term) → leftmost_step (app p s) ≡ Some (app q r) → leftmost_step (apply (app p s) ts) ≡ Some (apply (app q r) ts)
more_arguments p s q r [] e = e
more_arguments p s q r (t ∷ ts) e = more_arguments (app p s) t (app q r) t ts (ap (λ o. or_else (option_term (λ x. app x t) o) (option_term (app (app p s)) (leftmost_step t))) e)

hole_step : (h : Term) (ds ts : List Term) (s r : Term) → IsNoAbstraction h → leftmost_step h ≡ None → All (λ x. leftmost_step x ≡ None) ds → leftmost_step s ≡ Some r →
    leftmost_step (apply h (ds ++ s ∷ ts)) ≡ Some (apply h (ds ++ r ∷ ts))
hole_step h [] ts s r n e a k = more_arguments h s h r ts (argument_step h s r n e k)
hole_step h (d ∷ ds) ts s r n e a k =
    hole_step (app h d) ds ts s r tt (normal_app h d n e (All-head (λ x. leftmost_step x ≡ None) d ds a)) (All-tail (λ x. leftmost_step x ≡ None) d ds a) k

pub normal_apply : (h : Term) (ds : List Term) → IsNoAbstraction h → leftmost_step h ≡ None → All (λ x. leftmost_step x ≡ None) ds → leftmost_step (apply h ds) ≡ None
normal_apply h [] n e a = e
normal_apply h (d ∷ ds) n e a = normal_apply (app h d) ds tt (normal_app h d n e (All-head (λ x. leftmost_step x ≡ None) d ds a)) (All-tail (λ x. leftmost_step x ≡ None) d ds a)

under_step : (d : ℕ) (s r : Term) → leftmost_step s ≡ Some r → leftmost_step (abstractions d s) ≡ Some (abstractions d r)
under_step zero s r e = e
under_step (suc d) s r e = under_step d (abs s) (abs r) (ap (option_term abs) e)

pub normal_under : (d : ℕ) (s : Term) → leftmost_step s ≡ None → leftmost_step (abstractions d s) ≡ None
normal_under zero s e = e
normal_under (suc d) s e = normal_under d (abs s) (ap (option_term abs) e)

pub firm_no : (h : Term) → IsNoRedexHead h → IsNoAbstraction h
firm_no (index i) f = tt
firm_no (atom a) f = tt
firm_no (abs b) f = f
firm_no (app t u) f = tt

pub firm_normal : (h : Term) → IsNoRedexHead h → leftmost_step h ≡ None
firm_normal (index i) f = refl
firm_normal (atom a) f = refl
firm_normal (abs b) f = absurd f
firm_normal (app t u) f = absurd f

pub all_in_order : (b : Nodes) (ids : List TermId) → All (λ t. leftmost_step (tree b t.0) ≡ None) ids → All (λ x. leftmost_step x ≡ None) (in_order b ids)
all_in_order b [] a = All-nil (λ x. leftmost_step x ≡ None)
all_in_order b (t ∷ ts) a =
    All-cons (λ x. leftmost_step x ≡ None) (tree b t.0) (in_order b ts) (All-head (λ t. leftmost_step (tree b t.0) ≡ None) t ts a) (all_in_order b ts (All-tail (λ t. leftmost_step (tree b t.0) ≡ None) t ts a))

frame_step : (b : Nodes) (f : Frame) (s r : Term) → IsFrame b f → leftmost_step s ≡ Some r → leftmost_step (with_hole b f s) ≡ Some (with_hole b f r)
frame_step b f s r i e = under_step f.depth _ _ (hole_step (tree b f.head.0) (in_order b f.done.items) (trees b f.left.items) s r (firm_no (tree b f.head.0) i.firm) (firm_normal (tree b f.head.0) i.firm) (all_in_order b f.done.items i.normal) e)

plug_step : (b : Nodes) (fs : List Frame) (s r : Term) → All (IsFrame b) fs → leftmost_step s ≡ Some r → leftmost_step (plug b fs s) ≡ Some (plug b fs r)
plug_step b [] s r a e = e
plug_step b (f ∷ fs) s r a e = frame_step b f (plug b fs s) (plug b fs r) (All-head (IsFrame b) f fs a) (plug_step b fs s r (All-tail (IsFrame b) f fs a) e)

pub plug_steps : (b : Nodes) (fs : List Frame) (n : ℕ) (s r : Term) → All (IsFrame b) fs → steps leftmost_step n s ≡ Some r → steps leftmost_step n (plug b fs s) ≡ Some (plug b fs r)
plug_steps b fs zero s r a e = let q : s ≡ r = cc in ap (λ x. Some (plug b fs x)) q
plug_steps b fs (suc n) s r a e = elim (leftmost_step s) as (λ o. leftmost_step s ≡ o → (elim o [ None ↦ None | Some x ↦ steps leftmost_step n x ]) ≡ Some r → steps leftmost_step (suc n) (plug b fs s) ≡ Some (plug b fs r)) [
  | None ↦ λ p q. absurd (cc)
  | Some x ↦ λ p q. ap (λ o. elim o [ None ↦ None | Some x ↦ steps leftmost_step n x ]) (plug_step b fs s x a p) ∙ plug_steps b fs n x r a q
] refl e

pub some_of : (o : Option Term) → IsSome o → (t : Term) × (o ≡ Some t)
some_of None h = absurd (cc)
some_of (Some t) h = (t, refl)

pub plug_some : (b : Nodes) (fs : List Frame) (n : ℕ) (s : Term) → All (IsFrame b) fs → IsSome (steps leftmost_step n s) → IsSome (steps leftmost_step n (plug b fs s))
plug_some b fs n s a h = let k = some_of (steps leftmost_step n s) h in rw (plug_steps b fs n s k.0 a k.1) refl

-- the whole term, by its innermost open term
pub plug-append : (b : Nodes) (fs gs : List Frame) (t : Term) → plug b (fs ++ gs) t ≡ plug b fs (plug b gs t)
plug-append b [] gs t = refl
plug-append b (f ∷ fs) gs t = ap (with_hole b f) (plug-append b fs gs t)

pub standing-push : (b : Nodes) (fs : List Frame) (f : Frame) → standing b (fs ++ f ∷ []) ≡ plug b fs (closed b f)
standing-push b [] f = refl
standing-push b (g ∷ []) f = refl
standing-push b (g ∷ h ∷ fs) f = ap (with_hole b g) (standing-push b (h ∷ fs) f)

-- more nodes change nothing
in_order_stay : (b c : Nodes) (ids : List TermId) → Extends b c → All (λ t. t.0 < length b.terms) ids → in_order c ids ≡ in_order b ids
in_order_stay b c [] e a = refl
in_order_stay b c (t ∷ ts) e a = rw (e.same_terms t.0 (a 0 t (omega arith)), in_order_stay b c ts e (All-tail (λ t. t.0 < length b.terms) t ts a))

pub hole_stays : (b c : Nodes) (f : Frame) (t : Term) → Extends b c → IsFrame b f → with_hole c f t ≡ with_hole b f t
hole_stays b c f t e i =
    ap (abstractions f.depth) (λ j. apply (e.same_terms f.head.0 i.head j) (in_order_stay b c f.done.items e i.done j ++ t ∷ trees_stay b c f.left.items e i.left j))

pub closed_stays : (b c : Nodes) (f : Frame) → Extends b c → IsFrame b f → closed c f ≡ closed b f
closed_stays b c f e i =
    ap (abstractions f.depth) (λ j. apply (e.same_terms f.head.0 i.head j) (in_order_stay b c f.done.items e i.done j ++ trees_stay b c f.left.items e i.left j))

pub plug_stays : (b c : Nodes) (fs : List Frame) (t : Term) → Extends b c → All (IsFrame b) fs → plug c fs t ≡ plug b fs t
plug_stays b c [] t e a = refl
plug_stays b c (f ∷ fs) t e a = hole_stays b c f (plug c fs t) e (All-head (IsFrame b) f fs a) ∙ ap (with_hole b f) (plug_stays b c fs t e (All-tail (IsFrame b) f fs a))

all_with : (b c : Nodes) (P : Term → Type 0) (ids : List TermId) → Extends b c → All (λ t. t.0 < length b.terms) ids → All (λ t. P (tree b t.0)) ids → All (λ t. P (tree c t.0)) ids
all_with b c P [] e a h = All-nil (λ t. P (tree c t.0))
all_with b c P (t ∷ ts) e a h =
    All-cons (λ t. P (tree c t.0)) t ts (transport P (sym (e.same_terms t.0 (a 0 t (omega arith)))) (All-head (λ t. P (tree b t.0)) t ts h))
    (all_with b c P ts e (All-tail (λ t. t.0 < length b.terms) t ts a) (All-tail (λ t. P (tree b t.0)) t ts h))

pub frame_stays : (b c : Nodes) → Extends b c → (f : Frame) → IsFrame b f → IsFrame c f
frame_stays b c e f i = record {
  head = omega (arith, i.head, e.more_terms);
  firm = transport IsNoRedexHead (sym (e.same_terms f.head.0 i.head)) i.firm;
  done = All-weaker (λ t. t.0 < length b.terms) (λ t. t.0 < length c.terms) (λ t g. omega (arith, e.more_terms)) f.done.items i.done;
  normal = all_with b c (λ x. leftmost_step x ≡ None) f.done.items e i.done i.normal;
  left = All-weaker (λ t. t.0 < length b.terms) (λ t. t.0 < length c.terms) (λ t g. omega (arith, e.more_terms)) f.left.items i.left;
  loose = all_with b c (LooseBelow (2 ^ 32 + (f.base + f.depth)) 0) f.left.items e i.left i.loose;
  deep = i.deep;
}

pub frames_stay : (b c : Nodes) (fs : List Frame) → Extends b c → All (IsFrame b) fs → All (IsFrame c) fs
frames_stay b c fs e a = All-weaker (IsFrame b) (IsFrame c) (λ f i. frame_stays b c e f i) fs a
