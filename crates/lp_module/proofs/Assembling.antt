-- A program, copy by copy: entering one, leaving one, and the last.
use Rattle.std.proofs.Common.{◌≡◌, ℕ, zero, suc, ◌+◌, List, [], ◌∷◌, ◌++◌, length, map, drop, get_or, Some, refl, sym, ap, subst, ◌∙◌, arith, append_assoc}
use Rattle.std.specs.Prelude.{sum_by, slice_get}
use Rattle.std.proofs.lemmas.List.Sums.{sum_by-cons}
use Rattle.lp_model.specs.Flatten.{ClauseFormula}
use Rattle.lp_module.specs.Copies.{uses_of}
use Rattle.lp_module.specs.Program.{Copy, Next, first_of, behind, IsRoot, IsBelow, CopiesBelow, none_below, one_below, in_copy, clauses_in, clauses_of}
use Rattle.lp_module.specs.declared.module.Module.{Module}
use Rattle.lp_module.specs.declared.numbers.Open.{Open}
use Rattle.lp_module.specs.declared.tree.Hidden.{Hidden}
use Rattle.lp_module.specs.inner.Assembling.{in_all, past, copy_of, IsOpen, AreOpen, RestOf, AreCopiesOf}

-- nothing is left below
past_none : (ts : List Hidden) (n : Next) (ms : List ℕ) → ms ≡ [] → past ts n ms ≡ n
past_none ts n ms e =
    let k : n.kinds + 0 ≡ n.kinds = omega arith in
    let c : n.constants + 0 ≡ n.constants = omega arith in
    ap (past ts n) e ∙ (λ i. record { kinds = k i; constants = c i })

-- one copy and those behind it
past_more : (ts : List Hidden) (n : Next) (O : Module) (m : ℕ) (inside rest all : List ℕ) → all ≡ m ∷ rest → in_all (λ h. h.kinds) ts m ≡ length
    O.hidden_kinds.items + sum_by (in_all (λ h. h.kinds) ts) inside → in_all (λ h. h.constants) ts m ≡ length O.hidden_constants.items + sum_by
    (in_all (λ h. h.constants) ts) inside →
    past ts n all ≡ past ts (behind O (past ts n inside)) rest
past_more ts n O m inside rest all e kinds constants =
    let a = sum_by-cons (in_all (λ h. h.kinds) ts) m rest in
    let b = sum_by-cons (in_all (λ h. h.constants) ts) m rest in
    let k : n.kinds + sum_by (in_all (λ h. h.kinds) ts) (m ∷ rest) ≡ ((n.kinds + sum_by (in_all (λ h. h.kinds) ts) inside) + length O.hidden_kinds.items) + sum_by (in_all (λ h. h.kinds) ts) rest = omega (arith, a, kinds) in
    let c : n.constants + sum_by (in_all (λ h. h.constants) ts) (m ∷ rest) ≡ ((n.constants + sum_by (in_all (λ h. h.constants) ts) inside) + length O.hidden_constants.items) + sum_by (in_all (λ h. h.constants) ts) rest = omega (arith, b, constants) in
    ap (past ts n) e ∙ (λ i. record { kinds = k i; constants = c i })

module _ (modules : List Module) (ts : List Hidden) (n : Next) where
  -- the first copy is open
  pub open_first : (root : ℕ) (o : Open) → slice_get modules root ≡ Some o.module.now → IsRoot o.module.now (past ts n (get_or (uses_of modules) root [])) (copy_of root o) → AreOpen modules ts n ((root, 0) ∷ []) (o ∷ [])
  open_first root o at is = (at, is, tt)

  pub whole_first : (root : ℕ) (o : Open) (all : List Copy) → slice_get modules root ≡ Some o.module.now → n ≡ first_of o.module.now → RestOf modules n [] ((root, 0) ∷ []) (o ∷ []) all → AreCopiesOf modules root o.module.now (copy_of root o) all
  whole_first root o all at first (below, middle, copies, is, whole) = record {
    are = record {
      top = o.module.now;
      at = at;
      copy = copy_of root o;
      below = below;
      middle = middle;
      of_root = refl;
      copies = subst (λ k. CopiesBelow modules o.module.now (copy_of root o) k (get_or (uses_of modules) root []) below middle) first copies;
      is_root = is;
      whole = sym whole;
    };
    top_is = refl;
    copy_is = refl;
  }

  module _ (at i m : ℕ) (fs : List (ℕ × ℕ)) (o p : Open) (os : List Open) (next : drop i (get_or (uses_of modules) at []) ≡ m ∷ drop (i + 1) (get_or (uses_of modules) at [])) (there : slice_get modules m ≡ Some o.module.now) where
    -- one more copy is open
    pub open_more : IsBelow p.module.now (copy_of 0 p) o.module.now (past ts n (get_or (uses_of modules) m [])) (copy_of m o) →
        in_all (λ h. h.kinds) ts m ≡ length o.module.now.hidden_kinds.items + sum_by (in_all (λ h. h.kinds) ts) (get_or (uses_of modules) m []) → in_all (λ h. h.constants) ts m ≡ length o.module.now.hidden_constants.items + sum_by (in_all (λ h. h.constants) ts) (get_or (uses_of modules) m []) →
        AreOpen modules ts n ((at, i) ∷ fs) (p ∷ os) → AreOpen modules ts n ((m, 0) ∷ (at, i + 1) ∷ fs) (o ∷ p ∷ os)
    open_more is kinds constants a =
        let e = past_more ts n o.module.now m (get_or (uses_of modules) m []) (drop (i + 1) (get_or (uses_of modules) at [])) (drop i (get_or (uses_of modules) at [])) next kinds constants in
        (there, is, (a.0, subst (λ k. IsOpen os p.module.now k (copy_of at p)) e a.1, subst (λ k. AreOpen modules ts (behind p.module.now k) fs os) e a.2))

    pub whole_more : (P : List Copy → Type 0) (done all : List Copy) → ((every : List Copy) → RestOf modules n done ((at, i) ∷ fs) (p ∷ os) every → P every) → RestOf modules n done ((m, 0) ∷ (at, i + 1) ∷ fs) (o ∷ p ∷ os) all → P all
    whole_more P done all w (below, middle, copies, is, (others, after, more, outer, rest)) =
        w all (
          below ++ copy_of m o ∷ others,
          after,
          subst (λ l. CopiesBelow modules p.module.now (copy_of at p) n l (below ++ copy_of m o ∷ others) after) (sym next)
              (one_below p.module.now (copy_of at p) n middle after o.module.now (copy_of m o) (drop (i + 1) (get_or (uses_of modules) at [])) below others (below ++ copy_of m o ∷ others) there copies is more refl),
          outer,
          subst (λ l. RestOf modules (behind p.module.now after) l fs os all) grouped rest,
        )
      where
        grouped : (done ++ (below ++ copy_of m o ∷ [])) ++ (others ++ copy_of at p ∷ []) ≡ done ++ ((below ++ copy_of m o ∷ others) ++ copy_of at p ∷ [])
        grouped =
            append_assoc done (below ++ copy_of m o ∷ []) (others ++ copy_of at p ∷ []) ∙
            ap (λ l. done ++ l) (append_assoc below (copy_of m o ∷ []) (others ++ copy_of at p ∷ []) ∙ sym (append_assoc below (copy_of m o ∷ others) (copy_of at p ∷ [])))

  module _ (m i : ℕ) (fs : List (ℕ × ℕ)) (o : Open) (os : List Open) (none : drop i (get_or (uses_of modules) m []) ≡ []) (a : AreOpen modules ts n ((m, i) ∷ fs) (o ∷ os)) where
    -- the innermost copy is left
    pub open_less : AreOpen modules ts (behind o.module.now n) fs os
    open_less = subst (λ k. AreOpen modules ts (behind o.module.now k) fs os) (past_none ts n (drop i (get_or (uses_of modules) m [])) none) a.2

    pub whole_less : (P : List Copy → Type 0) (done all : List Copy) → ((every : List Copy) → RestOf modules n done ((m, i) ∷ fs) (o ∷ os) every → P every) → RestOf modules (behind o.module.now n) (done ++ copy_of m o ∷ []) fs os all → P all
    whole_less P done all w rest =
        w all (
          [],
          n,
          subst (λ l. CopiesBelow modules o.module.now (copy_of m o) n l [] n) (sym none) (none_below o.module.now (copy_of m o) n),
          subst (λ k. IsOpen os o.module.now k (copy_of m o)) (past_none ts n (drop i (get_or (uses_of modules) m [])) none) a.1,
          rest,
        )

-- the clauses of one more copy
pub clauses_push : (modules : List Module) (done : List Copy) (c : Copy) (m : Module) → slice_get modules c.member ≡ Some m → clauses_of modules (done ++ c ∷ []) ≡ clauses_of modules done ++ map (in_copy c) (clauses_in m)
clauses_push modules [] c m at = append_nil_at (map (in_copy c) (get_or (map clauses_in modules) c.member [])) ∙ ap (map (in_copy c)) (there modules c.member at)
  where
    append_nil_at : (xs : List ClauseFormula) → xs ++ [] ≡ xs
    append_nil_at [] = refl
    append_nil_at (x ∷ xs) = ap (λ l. x ∷ l) (append_nil_at xs)

    there : (ms : List Module) (k : ℕ) → slice_get ms k ≡ Some m → get_or (map clauses_in ms) k [] ≡ clauses_in m
    there [] k e = absurd (cc)
    there (x ∷ xs) zero e = let z : x ≡ m = cc in ap clauses_in z
    there (x ∷ xs) (suc k) e = there xs k e
clauses_push modules (d ∷ ds) c m at =
    ap (λ l. map (in_copy d) (get_or (map clauses_in modules) d.member []) ++ l) (clauses_push modules ds c m at) ∙
    sym (append_assoc (map (in_copy d) (get_or (map clauses_in modules) d.member [])) (clauses_of modules ds) (map (in_copy c) (clauses_in m)))
