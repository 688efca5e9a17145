-- Joined nodes under bindings, and what is left to do with them.
use Rattle.std.proofs.Common.{◌≡◌, ℕ, suc, ◌+◌, ◌≤◌, inl, inr, List, [], ◌∷◌, ◌++◌, map, reverse, Option, Some, None, refl, sym, ap, ◌∙◌, subst, arith, append_assoc}
use Rattle.std.specs.Prelude.{if◌then◌else◌, Bool, true, false, All, nat_eq}
use Rattle.std.proofs.lemmas.List.{map-append, reverse-append}
use Rattle.std.proofs.lemmas.List.Elements.{All-append, All-cons, All-nil, All-head, All-tail}
use Rattle.lp_calculus.specs.Types.{Ty, var, param, con, arrow, instance}
use Rattle.lp_calculus.proofs.TypeLaws.{instance-instance}
use Rattle.lp_term.specs.declared.node.TypeId.{TypeId}
use Rattle.lp_type_laws.specs.Equations.{Follows, Equation, equation, AllHold}
use Rattle.lp_type_laws.specs.Solving.{Look, nothing, parts, binds, clash, pairs, look_parts, look, solve, fails, clashes, goes, turn_of, turn}
use Rattle.lp_type_laws.proofs.Counts.{solve_turn, after_turn, turns_fall}
use Rattle.lp_type_laws.proofs.Equal.{equal_passes, equal_turns}
use Rattle.lp_type_laws.proofs.Follows.{follows_type, parts_hold, nothing_holds}
use Rattle.lp_type_unify.specs.declared.bindings.Pair.{Pair}
use Rattle.lp_type_unify.specs.declared.shared.Task.{Task}
use Rattle.lp_type_unify.specs.Reading.{IsPair, read_pair, read_pairs}
use Rattle.lp_type_unify.specs.Looking.{IsMade}
use Rattle.lp_type_unify.specs.Sharing.{IsOne, AreJoined, IsRoot, IsJoined, takes, read_tasks, joins, IsTask, IsOneUnder, Sure, Advances}

-- roots

pub root_here : (τ θ : ℕ → Ty) (n : ℕ) (id : TypeId) → IsRoot τ n θ id id
root_here τ θ n id = record { same = refl; made = λ m. m; known = λ h. h }

pub root_up : (τ θ : ℕ → Ty) (n j : ℕ) (id top : TypeId) (o : Option ℕ) → o ≡ Some j → IsOne τ n θ top.0 o → IsRoot τ n θ id top → IsRoot τ n θ id (record { 0 = j })
root_up τ θ n j id top o e h r =
    let k : IsOne τ n θ top.0 (Some j) = subst (λ p. IsOne τ n θ top.0 p) e h in
    record { same = sym k.3 ∙ r.same; made = λ m. k.2; known = λ l. k.1 }

one_bound : (τ : ℕ → Ty) (n : ℕ) (θ κ : ℕ → Ty) (i : ℕ) (o : Option ℕ) → IsOne τ n θ i o → IsOne τ n (λ y. instance κ (θ y)) i o
one_bound τ n θ κ i None h = tt
one_bound τ n θ κ i (Some j) h = (h.0, h.1, h.2, sym (instance-instance θ κ (τ i)) ∙ ap (instance κ) h.3 ∙ instance-instance θ κ (τ j))

pub joined_bound : (τ : ℕ → Ty) (n : ℕ) (θ ι κ : ℕ → Ty) (joined : ℕ → Option ℕ) → ι ≡ (λ y. instance κ (θ y)) → AreJoined τ n θ joined → AreJoined τ n ι joined
joined_bound τ n θ ι κ joined e h = subst (λ ι. AreJoined τ n ι joined) (sym e) (λ i. one_bound τ n θ κ i (joined i) (h i))

pub joined_more : (τ : ℕ → Ty) (n : ℕ) (θ : ℕ → Ty) (p : Pair) (old new : ℕ → Option ℕ) → ((i : ℕ) → IsJoined p i (old i) (new i)) →
    IsPair n p → IsMade (τ p.left.0) → IsMade (τ p.right.0) → instance θ (τ p.left.0) ≡ instance θ (τ p.right.0) → AreJoined τ n θ old → AreJoined τ n θ new
joined_more τ n θ p old new j k a b e h i = go (j i)
  where
    go : IsJoined p i (old i) (new i) → IsOne τ n θ i (new i)
    go (inl q) = subst (λ o. IsOne τ n θ i o) (sym q) (h i)
    go (inr (inl q)) = subst (λ o. IsOne τ n θ i o) (sym q.2) (subst (λ m. IsOne τ n θ m (Some p.left.0)) (sym q.0) (q.1, k.0, a, sym e))
    go (inr (inr q)) = subst (λ o. IsOne τ n θ i o) (sym q.2) (subst (λ m. IsOne τ n θ m (Some p.right.0)) (sym q.0) (q.1, k.1, b, e))

-- lists of tasks

takes-append : (ts us : List Task) → takes (ts ++ us) ≡ takes ts ++ takes us
takes-append [] us = refl
takes-append (Task.Take p ∷ ts) us = ap (λ l. p ∷ l) (takes-append ts us)
takes-append (Task.Join p ∷ ts) us = takes-append ts us

takes_all : (ps : List Pair) → takes (map Task.Take ps) ≡ ps
takes_all [] = refl
takes_all (p ∷ ps) = ap (λ l. p ∷ l) (takes_all ps)

joins-append : (ts us : List Task) → joins (ts ++ us) ≡ joins ts + joins us
joins-append [] us = omega arith
joins-append (Task.Take p ∷ ts) us = joins-append ts us
joins-append (Task.Join p ∷ ts) us = let e = joins-append ts us in omega (arith, e)

joins_none : (ps : List Pair) → joins (map Task.Take ps) ≡ 0
joins_none [] = refl
joins_none (p ∷ ps) = joins_none ps

pub joins_more : (old new : List Task) (p : Pair) (ps : List Pair) → new ≡ (old ++ Task.Join p ∷ []) ++ map Task.Take ps → joins new ≤ suc (joins old)
joins_more old new p ps e =
    let a : joins new ≡ joins (old ++ Task.Join p ∷ []) + joins (map Task.Take ps) = ap joins e ∙ joins-append (old ++ Task.Join p ∷ []) (map Task.Take ps) in
    let b = joins-append old (Task.Join p ∷ []) in
    let c = joins_none ps in
    omega (arith, a, b, c)

read-append : (τ θ : ℕ → Ty) (ps qs : List Pair) → read_pairs τ θ (ps ++ qs) ≡ read_pairs τ θ qs ++ read_pairs τ θ ps
read-append τ θ ps qs = ap reverse (map-append (read_pair τ θ) ps qs) ∙ reverse-append (map (read_pair τ θ) ps) (map (read_pair τ θ) qs)

pub read_take : (τ θ : ℕ → Ty) (old all : List Task) (p : Pair) → all ≡ old ++ Task.Take p ∷ [] → read_tasks τ θ all ≡ read_pair τ θ p ∷ read_tasks τ θ old
read_take τ θ old all p e = ap (read_tasks τ θ) e ∙ ap (read_pairs τ θ) (takes-append old (Task.Take p ∷ [])) ∙ read-append τ θ (takes old) (p ∷ [])

pub read_join : (τ θ : ℕ → Ty) (old all : List Task) (p : Pair) → all ≡ old ++ Task.Join p ∷ [] → read_tasks τ θ all ≡ read_tasks τ θ old
read_join τ θ old all p e = ap (read_tasks τ θ) e ∙ ap (read_pairs τ θ) (takes-append old (Task.Join p ∷ []) ∙ nil (takes old))
  where
    nil : (xs : List Pair) → xs ++ [] ≡ xs
    nil [] = refl
    nil (x ∷ xs) = ap (λ l. x ∷ l) (nil xs)

pub joins_off : (old all : List Task) (p : Pair) → all ≡ old ++ Task.Join p ∷ [] → joins all ≡ suc (joins old)
joins_off old all p e = let a = joins-append old (Task.Join p ∷ []) in let b : joins all ≡ joins (old ++ Task.Join p ∷ []) = ap joins e in omega (arith, a, b)

pub joins_kept : (old all : List Task) (p : Pair) → all ≡ old ++ Task.Take p ∷ [] → joins all ≡ joins old
joins_kept old all p e = let a = joins-append old (Task.Take p ∷ []) in let b : joins all ≡ joins (old ++ Task.Take p ∷ []) = ap joins e in omega (arith, a, b)

pub read_opened : (τ θ : ℕ → Ty) (old new : List Task) (p : Pair) (ps : List Pair) → new ≡ (old ++ Task.Join p ∷ []) ++ map Task.Take ps →
    read_tasks τ θ new ≡ read_pairs τ θ ps ++ read_tasks τ θ old
read_opened τ θ old new p ps e =
    ap (read_tasks τ θ) e ∙ ap (read_pairs τ θ) (takes-append (old ++ Task.Join p ∷ []) (map Task.Take ps) ∙ ap (λ l. takes (old ++ Task.Join p ∷ []) ++ l) (takes_all ps)) ∙
    read-append τ θ (takes (old ++ Task.Join p ∷ [])) ps ∙ ap (λ l. read_pairs τ θ ps ++ l) (read_join τ θ old (old ++ Task.Join p ∷ []) p refl)

-- what is sure

sure_off : (τ ρ : ℕ → Ty) (old : List Task) (t : Task) → reverse (old ++ t ∷ []) ≡ t ∷ reverse old
sure_off τ ρ old t = reverse-append old (t ∷ [])

pub sure_taken : (τ ρ : ℕ → Ty) (old : List Task) (p : Pair) → Sure τ ρ (reverse (old ++ Task.Take p ∷ [])) → IsOneUnder τ ρ p → Sure τ ρ (reverse old)
sure_taken τ ρ old p s h = (subst (λ l. Sure τ ρ l) (sure_off τ ρ old (Task.Take p)) s) h

pub sure_joined : (τ ρ : ℕ → Ty) (old : List Task) (p : Pair) → Sure τ ρ (reverse (old ++ Task.Join p ∷ [])) → IsOneUnder τ ρ p × Sure τ ρ (reverse old)
sure_joined τ ρ old p s = subst (λ l. Sure τ ρ l) (sure_off τ ρ old (Task.Join p)) s

-- the pairs of a list, all one under ρ, the last one first
abbrev AllOne : (ℕ → Ty) → (ℕ → Ty) → List Pair → Type 0
AllOne τ ρ [] = Unit {0}
AllOne τ ρ (p ∷ ps) = AllOne τ ρ ps × IsOneUnder τ ρ p

sure_takes : (τ ρ : ℕ → Ty) (old : List Task) (ps : List Pair) → (AllOne τ ρ ps → Sure τ ρ (reverse old)) → Sure τ ρ (reverse (old ++ map Task.Take ps))
sure_takes τ ρ old [] h = subst (λ l. Sure τ ρ (reverse l)) (sym (nil old)) (h tt)
  where
    nil : (xs : List Task) → xs ++ [] ≡ xs
    nil [] = refl
    nil (x ∷ xs) = ap (λ l. x ∷ l) (nil xs)
sure_takes τ ρ old (p ∷ ps) h =
    subst (λ l. Sure τ ρ (reverse l)) (append_assoc old (Task.Take p ∷ []) (map Task.Take ps))
    (sure_takes τ ρ (old ++ Task.Take p ∷ []) ps
    (λ a. subst (λ l. Sure τ ρ l) (sym (sure_off τ ρ old (Task.Take p))) (λ o. h (a, o))))

hold-append : (ρ : ℕ → Ty) (ds es : List Equation) → AllHold ρ ds → AllHold ρ es → AllHold ρ (ds ++ es)
hold-append ρ [] es h k = k
hold-append ρ (d ∷ ds) es h k = (h.0, hold-append ρ ds es h.1 k)

-- one under what follows θ, so that the equations hold
one_hold : (τ θ ρ : ℕ → Ty) → Follows ρ θ → (ps : List Pair) → AllOne τ ρ ps → AllHold ρ (read_pairs τ θ ps)
one_hold τ θ ρ f [] a = tt
one_hold τ θ ρ f (p ∷ ps) a =
    subst (λ l. AllHold ρ l) (sym (reverse-append (read_pair τ θ p ∷ []) (map (read_pair τ θ) ps)))
    (hold-append ρ (read_pairs τ θ ps) (read_pair τ θ p ∷ []) (one_hold τ θ ρ f ps a.0)
    (follows_type ρ θ f (τ p.left.0) ∙ a.1 ∙ sym (follows_type ρ θ f (τ p.right.0)), tt))

-- a pair whose sides read as one type
pub one_under : (τ θ ρ : ℕ → Ty) (p : Pair) → Follows ρ θ → instance ρ (instance θ (τ p.left.0)) ≡ instance ρ (instance θ (τ p.right.0)) → IsOneUnder τ ρ p
one_under τ θ ρ p f e = sym (follows_type ρ θ f (τ p.left.0)) ∙ e ∙ follows_type ρ θ f (τ p.right.0)

-- after two types are taken apart
pub sure_opened : (τ θ ρ : ℕ → Ty) (old new : List Task) (p q : Pair) (ps : List Pair) (a b : TypeId) → Follows ρ θ → new ≡ (old ++ Task.Join q ∷ []) ++ map Task.Take ps →
    instance θ (τ q.left.0) ≡ instance θ (τ a.0) → instance θ (τ q.right.0) ≡ instance θ (τ b.0) →
    instance θ (τ a.0) ≡ instance θ (τ p.left.0) → instance θ (τ b.0) ≡ instance θ (τ p.right.0) →
    (AllHold ρ (read_pairs τ θ ps) → instance ρ (instance θ (τ a.0)) ≡ instance ρ (instance θ (τ b.0))) →
    Sure τ ρ (reverse (old ++ Task.Take p ∷ [])) → Sure τ ρ (reverse new)
sure_opened τ θ ρ old new p q ps a b f e ql qr pl pr w s =
    subst (λ l. Sure τ ρ (reverse l)) (sym e)
    (sure_takes τ ρ (old ++ Task.Join q ∷ []) ps
    (λ k. let h = w (one_hold τ θ ρ f ps k) in
    subst (λ l. Sure τ ρ l) (sym (sure_off τ ρ old (Task.Join q))) (
      one_under τ θ ρ q f (ap (instance ρ) ql ∙ h ∙ sym (ap (instance ρ) qr)),
      sure_taken τ ρ old p s (one_under τ θ ρ p f (sym (ap (instance ρ) pl) ∙ h ∙ ap (instance ρ) pr)),
    )))

-- turns of types that are no variables

look_made : (a b : Ty) (x : ℕ) (t : Ty) → IsMade a → IsMade b → look a b ≡ binds x t → ⊥
look_made (var y) b x t m n e = m
look_made a (var y) x t m n e = n
look_made (param k) (param l) x t m n e = go (nat_eq k l) e
  where
    go : (s : Bool) → (if s then nothing else clash) ≡ binds x t → ⊥
    go true f = cc
    go false f = cc
look_made (param k) (con c ts) x t m n e = cc
look_made (param k) (arrow c d) x t m n e = cc
look_made (con c ts) (param l) x t m n e = cc
look_made (con c ts) (con d us) x t m n e = go (nat_eq c d) (pairs ts us) e
  where
    go : (s : Bool) (o : Option (List Equation)) → (if s then look_parts o else clash) ≡ binds x t → ⊥
    go true None f = cc
    go true (Some es) f = cc
    go false o f = cc
look_made (con c ts) (arrow a b) x t m n e = cc
look_made (arrow a b) (param l) x t m n e = cc
look_made (arrow a b) (con c ts) x t m n e = cc
look_made (arrow a b) (arrow c d) x t m n e = cc

pub made_goes : (a b : Ty) (fs : List Equation) (θ : ℕ → Ty) → IsMade a → IsMade b → turn (equation a b) [] θ ≡ goes fs θ →
    ((es : List Equation) → turn (equation a b) es θ ≡ goes (fs ++ es) θ) × ((ρ : ℕ → Ty) → AllHold ρ fs → instance ρ a ≡ instance ρ b)
made_goes a b fs θ m n e = go (look a b) refl e
  where
    front : {l k : List Equation} → goes l θ ≡ goes k θ → l ≡ k
    front {l} {k} f = ap (λ t. elim t [ clashes ↦ l | goes es ι ↦ es ]) f

    nil : (xs : List Equation) → xs ++ [] ≡ xs
    nil [] = refl
    nil (x ∷ xs) = ap (λ l. x ∷ l) (nil xs)

    go : (l : Look) → look a b ≡ l → turn_of l [] θ ≡ goes fs θ →
        ((es : List Equation) → turn (equation a b) es θ ≡ goes (fs ++ es) θ) × ((ρ : ℕ → Ty) → AllHold ρ fs → instance ρ a ≡ instance ρ b)
    go nothing q f = (λ es. ap (λ l. turn_of l es θ) q ∙ ap (λ l. goes (l ++ es) θ) (front f), λ ρ h. nothing_holds ρ a b q)
    go (parts ps) q f =
        let g : ps ≡ fs = sym (nil ps) ∙ front f in
        (λ es. ap (λ l. turn_of l es θ) q ∙ ap (λ l. goes (l ++ es) θ) g, λ ρ h. parts_hold ρ a b ps q (subst (λ l. AllHold ρ l) (sym g) h))
    go (binds x t) q f = absurd (look_made a b x t m n q)
    go clash q f = cc

pub made_clashes : (a b : Ty) (θ : ℕ → Ty) → turn (equation a b) [] θ ≡ clashes → (es : List Equation) → turn (equation a b) es θ ≡ clashes
made_clashes a b θ e es = go (look a b) refl e
  where
    go : (l : Look) → look a b ≡ l → turn_of l [] θ ≡ clashes → turn (equation a b) es θ ≡ clashes
    go nothing q f = cc
    go (parts ps) q f = cc
    go (binds x t) q f = cc
    go clash q f = ap (λ l. turn_of l es θ) q

-- how runs go on

pub advances_turn : (e : Equation) (es fs : List Equation) (θ ι : ℕ → Ty) → turn e es θ ≡ goes fs ι → Advances (e ∷ es) θ fs ι
advances_turn e es fs θ ι t = record {
  reaches = λ n. (suc n, solve_turn n e es θ ∙ ap (after_turn n) t);
  fewer = turns_fall e es fs θ ι t;
}

pub advances_equal : (a b : Ty) (es : List Equation) (θ : ℕ → Ty) → a ≡ b → Advances (equation a b ∷ es) θ es θ
advances_equal a b es θ e = subst (λ c. Advances (equation a c ∷ es) θ es θ) e (record { reaches = equal_passes a es θ; fewer = equal_turns a es θ })

pub clash_fails : (e : Equation) (es : List Equation) (θ : ℕ → Ty) → turn e es θ ≡ clashes → (m : ℕ) × (solve m (e ∷ es) θ ≡ fails)
clash_fails e es θ t = (1, solve_turn 0 e es θ ∙ ap (after_turn 0) t)

takes_are : (τ : ℕ → Ty) (n : ℕ) (ps : List Pair) → All (IsPair n) ps → All (IsTask τ n) (map Task.Take ps)
takes_are τ n [] a = All-nil (IsTask τ n)
takes_are τ n (p ∷ ps) a = All-cons (IsTask τ n) (Task.Take p) (map Task.Take ps) (All-head (IsPair n) p ps a) (takes_are τ n ps (All-tail (IsPair n) p ps a))

pub takes_known : (τ : ℕ → Ty) (n : ℕ) (old new : List Task) (p : Pair) (ps : List Pair) → new ≡ (old ++ Task.Join p ∷ []) ++ map Task.Take ps →
    All (IsTask τ n) old → IsTask τ n (Task.Join p) → All (IsPair n) ps → All (IsTask τ n) new
takes_known τ n old new p ps e a h k =
    subst (λ ts. All (IsTask τ n) ts) (sym e)
    (All-append (IsTask τ n) (old ++ Task.Join p ∷ []) (map Task.Take ps)
    (All-append (IsTask τ n) old (Task.Join p ∷ []) a (All-cons (IsTask τ n) (Task.Join p) [] h (All-nil (IsTask τ n))))
    (takes_are τ n ps k))

pub start_takes : (τ : ℕ → Ty) (n : ℕ) (todo : List Task) (ps : List Pair) → todo ≡ map Task.Take ps → All (IsPair n) ps → All (IsTask τ n) todo
start_takes τ n todo ps e k = subst (λ ts. All (IsTask τ n) ts) (sym e) (takes_are τ n ps k)

pub start_sure : (τ ρ : ℕ → Ty) (todo : List Task) (ps : List Pair) → todo ≡ map Task.Take ps → Sure τ ρ (reverse todo)
start_sure τ ρ todo ps e = subst (λ ts. Sure τ ρ (reverse ts)) (sym e) (sure_takes τ ρ [] ps (λ a. tt))

pub start_reads : (τ θ : ℕ → Ty) (todo : List Task) (ps : List Pair) → todo ≡ map Task.Take ps → read_tasks τ θ todo ≡ read_pairs τ θ ps
start_reads τ θ todo ps e = ap (read_tasks τ θ) e ∙ ap (read_pairs τ θ) (takes_all ps)
