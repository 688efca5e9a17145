-- A contraction of the redex that a term's head and first argument are.
use Rattle.std.proofs.Common.{◌≡◌, ℕ, suc, ◌+◌, ◌-◌, ◌<◌, ◌≤◌, ◌^◌, List, [], ◌∷◌, ◌++◌, length, map, reverse, refl, sym, ap, subst, ◌∙◌, arith, Option, Some}
use Rattle.std.specs.Prelude.{All, IsSome}
use Rattle.std.proofs.lemmas.List.{map-append, reverse-append}
use Rattle.std.proofs.lemmas.List.Elements.{All-push, All-weaker, All-nil, All-head, All-tail, All-cons}
use Rattle.lp_calculus.specs.Term.{Term, abs, apply, substitute}
use Rattle.lp_calculus.specs.Convert.{head_step, steps}
use Rattle.lp_term.specs.Node.{app_node, TermBelow}
use Rattle.lp_term.specs.Nodes.{Nodes, IsSound, Extends, tree}
use Rattle.lp_term.specs.Walk.{trees, Everywhere}
use Rattle.lp_term.specs.Raise.{FitsEach}
use Rattle.lp_term.specs.Several.{substitute_each}
use Rattle.lp_term.specs.Frame.{in_order}
use Rattle.lp_term.specs.declared.node.TermId.{TermId}
use Rattle.lp_term.proofs.Walks.{trees-push, trees-append, trees_stay, map_map, All-front, All-back, All-unreverse, application_fits}
use Rattle.lp_term.proofs.Ways.{everywhere-apply, in_order_length}
use Rattle.lp_term.proofs.Several.{abstractions_out, step_after, steps_each, kept_each, steps_then}
use Rattle.lp_term.specs.Spine.{abstractions, whole, height, IsNoRedexHead, IsLoose, LooseBelow}
use Rattle.lp_term.specs.Answer.{IsReducedWithin}
use Rattle.lp_term.proofs.Loose.{fits_each, loose_in, loose_abstractions, loose_step, height_below}
use Rattle.lp_term.proofs.Spines.{redex_step, normal_head}

pub applied_fits : (n m : ℕ) (args newest : List TermId) (head : TermId) → args ≡ reverse newest → head.0 < m → All (λ t. t.0 < m) args → 0 < length newest → TermBelow n m (app_node head.0 (map (λ t. t.0) newest))
applied_fits n m args newest head q h a l = application_fits n m (args ++ head ∷ []) args [] newest head refl q (All-push (λ t. t.0 < m) args head a h) l

pub applied_tree : (b : Nodes) (head : TermId) (args newest : List TermId) (t : Term) → args ≡ reverse newest → t ≡ apply (tree b head.0) (map (tree b) (map (λ t. t.0) newest)) →
    t ≡ apply (tree b head.0) (trees b args)
applied_tree b head args newest t q e =
    e ∙ ap (apply (tree b head.0)) (map_map (tree b) (λ t. t.0) newest ∙ nil (map (λ t. tree b t.0) newest) ∙ sym (ap (trees b) q ∙ trees-append b [] newest))
  where
    nil : (xs : List Term) → xs ≡ xs ++ []
    nil [] = refl
    nil (x ∷ xs) = ap (λ l. x ∷ l) (nil xs)

module _ (d : ℕ) (b : Nodes) (head body arg : TermId) (args rest : List TermId) (q : tree b head.0 ≡ abs (tree b body.0)) (p : args ≡ rest ++ arg ∷ []) where
  shape : whole b d head args ≡ abstractions d (apply (abs (tree b body.0)) (tree b arg.0 ∷ trees b rest))
  shape = ap (abstractions d) (ap (λ h. apply h (trees b args)) q ∙ ap (apply (abs (tree b body.0))) (ap (trees b) p ∙ trees-push b rest arg))

  redex_ahead : head_step (whole b d head args) ≡ Some (abstractions d (apply (substitute (tree b arg.0) (tree b body.0)) (trees b rest)))
  redex_ahead = ap head_step shape ∙ redex_step d (tree b body.0) (tree b arg.0) (trees b rest)

-- as many contractions as there are abstractions and arguments
pub heights_each : (b : Nodes) → IsSound b → length b.terms < 2 ^ 62 → (limit n : ℕ) → limit ≤ 2 ^ 63 → n < 2 ^ 62 → (ids : List TermId) → All (λ v. v.0 < length b.terms) ids →
    All (λ u. limit + height u + n < 2 ^ 64) (in_order b ids)
heights_each b s f limit n l m [] a = All-nil (λ u. limit + height u + n < 2 ^ 64)
heights_each b s f limit n l m (v ∷ vs) a =
    let i : v.0 < length b.terms = All-head (λ t. t.0 < length b.terms) v vs a in
    All-cons (λ u. limit + height u + n < 2 ^ 64) (tree b v.0) (in_order b vs) (omega (arith, height_below b s v.0 i))
    (heights_each b s f limit n l m vs (All-tail (λ t. t.0 < length b.terms) v vs a))

module _ (b : Nodes) (head body inner : TermId) (more : ℕ) (args rest vs : List TermId) (q : tree b head.0 ≡ abs (tree b body.0)) (r : abstractions more (tree b inner.0) ≡ tree b body.0)
    (p : args ≡ rest ++ vs) (n : length vs ≡ suc more) where
  abstracted : tree b head.0 ≡ abstractions (length (in_order b vs)) (tree b inner.0)
  abstracted = q ∙ ap abs (sym r) ∙ sym (abstractions_out more (tree b inner.0)) ∙ ap (λ m. abstractions m (tree b inner.0)) (sym (in_order_length b vs ∙ n))

  turned : trees b args ≡ reverse (in_order b vs) ++ trees b rest
  turned = ap (trees b) p ∙ ap reverse (map-append (λ t. tree b t.0) rest vs) ∙ reverse-append (in_order b rest) (in_order b vs)

  shape_each : apply (tree b head.0) (trees b args) ≡ apply (abstractions (length (in_order b vs)) (tree b inner.0)) (reverse (in_order b vs) ++ trees b rest)
  shape_each = λ j. apply (abstracted j) (turned j)

  each_within : All (λ t. t.0 < length b.terms) args → All (λ t. t.0 < length b.terms) rest × All (λ t. t.0 < length b.terms) vs
  each_within a =
      let w = subst (All (λ t. t.0 < length b.terms)) p a in
      (All-front (λ t. t.0 < length b.terms) rest vs w, All-back (λ t. t.0 < length b.terms) rest vs w)

  pub each_left : (c : Nodes) → Extends b c → All (λ t. t.0 < length b.terms) args → All (λ t. t.0 < length c.terms) rest
  each_left c e a = All-weaker (λ t. t.0 < length b.terms) (λ t. t.0 < length c.terms) (λ t g. omega (arith, e.more_terms)) rest (each_within a).0

  each_made : (c : Nodes) (next : TermId) → Extends b c → All (λ t. t.0 < length b.terms) args → tree c next.0 ≡ substitute_each (in_order b vs) (tree b inner.0) →
      apply (tree c next.0) (trees c rest) ≡ apply (substitute_each (in_order b vs) (tree b inner.0)) (trees b rest)
  each_made c next e a h =
      let z : trees c rest ≡ trees b rest = trees_stay b c rest e (each_within a).0 in
      λ j. apply (h j) (z j)

  -- the steps, whatever is around, and what they keep
  pub each_steps : (f : Term → Option Term) (K : Term → Term) → ((x u : Term) (xs : List Term) → f (K (apply (abs x) (u ∷ xs))) ≡ Some (K (apply (substitute u x) xs))) →
      (c : Nodes) (next : TermId) → Extends b c → All (λ t. t.0 < length b.terms) args → tree c next.0 ≡ substitute_each (in_order b vs) (tree b inner.0) →
      steps f (suc more) (K (apply (tree b head.0) (trees b args))) ≡ Some (K (apply (tree c next.0) (trees c rest)))
  each_steps f K g c next e a h =
      let us = in_order b vs in
      (λ j. steps f ((sym n ∙ sym (in_order_length b vs)) j) (K (shape_each j))) ∙ steps_each f K g us 0 (length us) (tree b inner.0) (trees b rest) (omega arith) ∙ ap (λ t. Some (K t)) (sym (each_made c next e a h))

  each_keeps : (P : Term → Type 0) (K : Term → Term) → ((x u : Term) (xs : List Term) → P (K (apply (abs x) (u ∷ xs))) → P (K (apply (substitute u x) xs))) →
      (c : Nodes) (next : TermId) → Extends b c → All (λ t. t.0 < length b.terms) args → tree c next.0 ≡ substitute_each (in_order b vs) (tree b inner.0) →
      P (K (apply (tree b head.0) (trees b args))) → P (K (apply (tree c next.0) (trees c rest)))
  each_keeps P K g c next e a h l =
      let us = in_order b vs in
      subst (λ t. P (K t)) (sym (each_made c next e a h)) (kept_each P K g us 0 (length us) (tree b inner.0) (trees b rest) (omega arith) (subst (λ t. P (K t)) shape_each l))

  -- below abstractions
  pub each_fits : (d limit : ℕ) → IsSound b → length b.terms < 2 ^ 62 → inner.0 < length b.terms → All (λ t. t.0 < length b.terms) args → limit + d ≤ 2 ^ 63 → LooseBelow limit 0 (whole b d head args) →
      Everywhere (FitsEach (in_order b vs)) 0 (tree b inner.0)
  each_fits d limit s f h a e l =
      let us = in_order b vs in
      let P : Term → Type 0 = LooseBelow limit (0 + d) in
      let w = subst P shape_each (loose_abstractions limit d 0 (apply (tree b head.0) (trees b args)) l) in
      let x = (everywhere-apply (IsLoose limit) (0 + d) (abstractions (length us) (tree b inner.0)) (reverse us ++ trees b rest) w).1 in
      let y : All P us = All-unreverse P us (All-front P (reverse us) (trees b rest) x) in
      fits_each (limit + d) us (tree b inner.0) (All-weaker P (LooseBelow (limit + d) 0) (λ t k. loose_in limit d 0 t k) us y)
      (heights_each b s f (limit + d) (height (tree b inner.0)) e (omega (arith, height_below b s inner.0 h)) vs (each_within a).1)

  pub each_loose : (d limit : ℕ) (c : Nodes) (next : TermId) → Extends b c → All (λ t. t.0 < length b.terms) args → tree c next.0 ≡ substitute_each (in_order b vs) (tree b inner.0) →
      LooseBelow limit 0 (whole b d head args) → LooseBelow limit 0 (whole c d next rest)
  each_loose d limit c next e a h l = each_keeps (LooseBelow limit 0) (abstractions d) (λ x u xs k. loose_step limit d x u xs k) c next e a h l

  pub more_steps : (d : ℕ) (c : Nodes) (next : TermId) → Extends b c → All (λ t. t.0 < length b.terms) args → tree c next.0 ≡ substitute_each (in_order b vs) (tree b inner.0) →
      (k m : ℕ) (t : Term) → m ≡ k + suc more → steps head_step k t ≡ Some (whole b d head args) → steps head_step m t ≡ Some (whole c d next rest)
  more_steps d c next e a h k m t i w =
      steps_then head_step k (suc more) m t (whole b d head args) (whole c d next rest) i w (each_steps head_step (abstractions d) (redex_step d) c next e a h)

pub last_of : {X : Type 0} (xs : List X) → 0 < length xs → (ys : List X) × (y : X) × (xs ≡ ys ++ y ∷ [])
last_of [] h = absurd (omega arith)
last_of (x ∷ []) h = ([], x, refl)
last_of (x ∷ y ∷ xs) h = let k = last_of (y ∷ xs) (omega arith) in (x ∷ k.0, k.1, ap (λ l. x ∷ l) k.2)

some_is : (o : Option Term) (t : Term) → o ≡ Some t → IsSome o
some_is o t e = rw e refl

pub deep : (d : ℕ) (b : Nodes) (head body : TermId) (args : List TermId) (t : Term) (n : ℕ) → tree b head.0 ≡ abs (tree b body.0) → 0 < length args →
    steps head_step n t ≡ Some (whole b d head args) → IsSome (steps head_step (suc n) t)
deep d b head body args t n q l e =
    let k = last_of args l in
    some_is (steps head_step (suc n) t) _ (step_after head_step n t (whole b d head args) _ e (redex_ahead d b head body k.1 args k.0 q k.2))

pub reduced : (limit n d : ℕ) (b c e : Nodes) (head top id : TermId) (args : List TermId) (t : Term) → n ≤ limit → steps head_step n t ≡ Some (whole b d head args) → IsNoRedexHead (tree b head.0) →
    tree c top.0 ≡ apply (tree b head.0) (trees b args) → tree e id.0 ≡ abstractions d (tree c top.0) → IsReducedWithin limit t (tree e id.0)
reduced limit n d b c e head top id args t l k h p q =
    let r : tree e id.0 ≡ whole b d head args = q ∙ ap (abstractions d) p in
    (n, l, k ∙ ap (λ s. Some s) (sym r), ap head_step r ∙ normal_head d (tree b head.0) (trees b args) h)

-- where no step was taken the term itself is the form
pub untouched : (limit left d : ℕ) (b : Nodes) (head : TermId) (args : List TermId) (t s : Term) → left ≡ limit → steps head_step (limit - left) t ≡ Some (whole b d head args) →
    IsNoRedexHead (tree b head.0) → s ≡ t → IsReducedWithin limit t s
untouched limit left d b head args t s e k h q =
    let z : limit - left ≡ 0 = omega arith in
    let same : Some t ≡ Some (whole b d head args) = ap (λ n. steps head_step n t) (sym z) ∙ k in
    let r : s ≡ whole b d head args = q ∙ (let i : t ≡ whole b d head args = cc in i) in
    (0, omega arith, ap (λ x. Some x) (sym q), ap head_step r ∙ normal_head d (tree b head.0) (trees b args) h)
