-- The variables of terms that are left to be looked at, and terms taken apart.
use Rattle.std.proofs.Common.{◌≡◌, ℕ, zero, suc, ◌+◌, ◌<◌, ◌≤◌, List, [], ◌∷◌, ◌++◌, length, map, reverse, refl, sym, ap, ◌∙◌, subst, arith, append_assoc}
use Rattle.std.specs.Prelude.{All}
use Rattle.std.proofs.lemmas.List.{reverse-append}
use Rattle.std.proofs.lemmas.List.Elements.{All-push, All-head, All-nil, All-cons, All-append}
use Rattle.lp_calculus.specs.Term.{Term, index, atom, abs, app, apply}
use Rattle.lp_term.specs.Nodes.{Nodes, tree}
use Rattle.lp_term.specs.Walk.{trees, size, sizes}
use Rattle.lp_term.specs.Spine.{LooseBelow}
use Rattle.lp_term.specs.declared.node.TermId.{TermId}
use Rattle.lp_term.proofs.Walks.{All-front, All-back, map_map}
use Rattle.lp_term.proofs.Spines.{args_after}
use Rattle.lp_model.specs.Shown.{with_variables}
use Rattle.lp_show.specs.Spines.{IsNoApplication, with_all}

with_append : (b : Nodes) (vs : List ℕ) (xs ys : List TermId) → with_all b vs (xs ++ ys) ≡ with_all b (with_all b vs ys) xs
with_append b vs [] ys = refl
with_append b vs (x ∷ xs) ys = ap (λ l. with_variables l (tree b x.0)) (with_append b vs xs ys)

abbrev pub in_turn : List ℕ → List Term → List ℕ
in_turn vs [] = vs
in_turn vs (t ∷ ts) = in_turn (with_variables vs t) ts

with_apply : (vs : List ℕ) (h : Term) (us : List Term) → with_variables vs (apply h us) ≡ in_turn (with_variables vs h) us
with_apply vs h [] = refl
with_apply vs h (u ∷ us) = with_apply vs (app h u) us

with_reverse : (b : Nodes) (vs : List ℕ) (ids : List TermId) → with_all b vs (reverse ids) ≡ in_turn vs (map (λ t. tree b t.0) ids)
with_reverse b vs [] = refl
with_reverse b vs (t ∷ ids) = ap (with_all b vs) (reverse-append (t ∷ []) ids) ∙ with_append b vs (reverse ids) (t ∷ []) ∙ with_reverse b (with_variables vs (tree b t.0)) ids

module _ (b : Nodes) (old rest : List TermId) (next : TermId) (q : old ≡ rest ++ next ∷ []) where
  -- the next term gives way to its parts, which have its variables
  pub with_parts : (vs new : List ℕ) → new ≡ with_variables vs (tree b next.0) → with_all b new rest ≡ with_all b vs old
  with_parts vs new e = ap (λ l. with_all b l rest) e ∙ sym (ap (with_all b vs) q ∙ with_append b vs rest (next ∷ []))

  pub with_body : (vs : List ℕ) (body : TermId) (new : List TermId) → new ≡ rest ++ body ∷ [] → abs (tree b body.0) ≡ tree b next.0 → with_all b vs new ≡ with_all b vs old
  with_body vs body new p e = ap (with_all b vs) p ∙ with_append b vs rest (body ∷ []) ∙ with_parts vs (with_variables vs (tree b body.0)) (ap (with_variables vs) e)

  pub with_application : (vs : List ℕ) (head : TermId) (args mid new : List TermId) → mid ≡ rest ++ reverse args → new ≡ mid ++ head ∷ [] → apply (tree b head.0) (map (tree b) (map (λ t. t.0) args)) ≡ tree b next.0 →
      with_all b vs new ≡ with_all b vs old
  with_application vs head args mid new m p e =
      ap (with_all b vs) p ∙ with_append b vs mid (head ∷ []) ∙ ap (with_all b (with_variables vs (tree b head.0))) m ∙ with_append b (with_variables vs (tree b head.0)) rest (reverse args)
      ∙ with_parts vs (with_all b (with_variables vs (tree b head.0)) (reverse args))
      (with_reverse b (with_variables vs (tree b head.0)) args ∙ sym (with_apply vs (tree b head.0) (map (λ t. tree b t.0) args)) ∙ ap (λ us. with_variables vs (apply (tree b head.0) us)) (sym (map_map (tree b) (λ t. t.0) args)) ∙ ap (with_variables vs) e)

  -- what is left stands in the bank
  pub within_rest : {n : ℕ} → All (λ t. t.0 < n) old → All (λ t. t.0 < n) rest
  within_rest {n} a = All-front (λ t. t.0 < n) rest (next ∷ []) (subst (All (λ t. t.0 < n)) q a)

  pub within_next : {n : ℕ} → All (λ t. t.0 < n) old → next.0 < n
  within_next {n} a = All-head (λ t. t.0 < n) next [] (All-back (λ t. t.0 < n) rest (next ∷ []) (subst (All (λ t. t.0 < n)) q a))

  -- and gets smaller
  sizes_append : (xs ys : List TermId) → sizes b (xs ++ ys) ≡ sizes b xs + sizes b ys
  sizes_append [] ys = omega arith
  sizes_append (x ∷ xs) ys = omega (arith, sizes_append xs ys)

  sizes_reverse : (xs : List TermId) → sizes b (reverse xs) ≡ sizes b xs
  sizes_reverse [] = refl
  sizes_reverse (x ∷ xs) = omega (arith, ap (sizes b) (reverse-append (x ∷ []) xs), sizes_append (reverse xs) (x ∷ []), sizes_reverse xs)

  sizes_apply : (h : Term) (ts : List TermId) → sizes b ts + length ts + size h ≡ size (apply h (map (λ t. tree b t.0) ts))
  sizes_apply h [] = omega arith
  sizes_apply h (t ∷ ts) = omega (arith, sizes_apply (app h (tree b t.0)) ts)

  some : (t : Term) → 0 < size t
  some (index i) = omega arith
  some (atom a) = omega arith
  some (abs t) = omega arith
  some (app t u) = omega arith

  pub less_left : sizes b rest < sizes b old
  less_left = omega (arith, ap (sizes b) q, sizes_append rest (next ∷ []), some (tree b next.0))

  pub less_body : (body : TermId) (new : List TermId) → new ≡ rest ++ body ∷ [] → abs (tree b body.0) ≡ tree b next.0 → sizes b new < sizes b old
  less_body body new p e = omega (arith, ap (sizes b) q, sizes_append rest (next ∷ []), ap (sizes b) p, sizes_append rest (body ∷ []), ap size e)

  pub less_application : (head : TermId) (args mid new : List TermId) → mid ≡ rest ++ reverse args → new ≡ mid ++ head ∷ [] → apply (tree b head.0) (map (tree b) (map (λ t. t.0) args)) ≡ tree b next.0 → 0 < length args →
      sizes b new < sizes b old
  less_application head args mid new m p e n =
      omega (
        arith,
        ap (sizes b) q,
        sizes_append rest (next ∷ []),
        ap (sizes b) p,
        sizes_append mid (head ∷ []),
        ap (sizes b) m,
        sizes_append rest (reverse args),
        sizes_reverse args,
        sizes_apply (tree b head.0) args,
        ap size (ap (apply (tree b head.0)) (sym (map_map (tree b) (λ t. t.0) args)) ∙ e),
      )

pub some_args : {X Y : Type 0} (f : X → Y) (xs : List X) → (map f xs ≡ [] → ⊥) → 0 < length xs
some_args f [] n = absurd (n refl)
some_args f (x ∷ xs) n = omega arith

-- an application is no head
pub no_application : {X : Type 0} (f : X → Term) (ids : List X) (h t : Term) → (ids ≡ [] → ⊥) → apply h (map f ids) ≡ t → IsNoApplication t → ⊥
no_application f [] h t n e a = n refl
no_application f (i ∷ ids) h t n e a = go h (f i) (map f ids) (subst IsNoApplication (sym e) a)
  where
    go : (u v : Term) (ts : List Term) → IsNoApplication (apply (app u v) ts) → ⊥
    go u v [] b = b
    go u v (x ∷ ts) b = go (app u v) x ts b

-- the last of a list, and the others
pub last_all : {X : Type 0} (P : X → Type 0) (old rest : List X) (x : X) → old ≡ rest ++ x ∷ [] → All P old → P x × All P rest
last_all P old rest x q a = let b = subst (All P) q a in (All-head P x [] (All-back P rest (x ∷ []) b), All-front P rest (x ∷ []) b)

-- under an abstraction more there is more room
pub deeper : (limit d : ℕ) (t : Term) → LooseBelow limit d t → LooseBelow limit (suc d) t
deeper limit d (index i) h = omega (arith, h)
deeper limit d (atom a) h = tt
deeper limit d (abs b) h = deeper limit (suc d) b h
deeper limit d (app t u) h = (deeper limit d t h.0, deeper limit d u h.1)
