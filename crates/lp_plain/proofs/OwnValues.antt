-- The scope of a clause that is tried: its own variables in front of those around it.
use Rattle.std.proofs.Common.{◌≡◌, ℕ, zero, suc, ◌+◌, ◌-◌, ◌<◌, ◌≤◌, List, [], ◌∷◌, ◌++◌, map, length, get_or, refl, sym, ap, ◌∙◌, subst, arith, Bool, true, false, nat_lt, if◌then◌else◌, Option, Some, None}
use Rattle.std.specs.Prelude.{All, slice_get}
use Rattle.std.proofs.lemmas.Bool.{ltb-true}
use Rattle.std.proofs.lemmas.Bool.Decides.{nat_tests}
use Rattle.std.proofs.lemmas.List.Elements.{All-nil, All-cons, All-head, All-tail, All-append}
use Rattle.lp_calculus.specs.Term.{Term, atom, logic}
use Rattle.lp_term.specs.Nodes.{Nodes, Extends, tree}
use Rattle.lp_term.specs.Spine.{LooseBelow}
use Rattle.lp_term.specs.declared.node.TermId.{TermId}
use Rattle.lp_plain.specs.declared.instance.Values.{Values}
use Rattle.lp_plain.specs.declared.machine.Machine.{Machine}
use Rattle.lp_plain.specs.declared.table.Rule.{Rule}
use Rattle.lp_plain.specs.declared.scope.Scopes.{Scopes}
use Rattle.std.proofs.lemmas.List.{length-append}
use Rattle.lp_plain.specs.Entries.{AreAt}
use Rattle.lp_plain.specs.Heads.{trees_of, slot_term}
use Rattle.lp_plain.specs.Instances.{AreValues}
use Rattle.lp_plain.specs.Scopes.{Holds, IsScope, block_count, value_count}
use Rattle.lp_plain.specs.Slots.{AreIn, AreSlotted}
use Rattle.lp_plain.specs.Attempted.{IsOpened, before, own_values}
use Rattle.lp_plain.proofs.Growing.{at_later, scope_all, values_later}
use Rattle.lp_plain.proofs.Scoped.{scope_whole, whole_scope}

read_front : (vs us : List TermId) (i : ℕ) (v : TermId) → i < length vs → slice_get (vs ++ us) i ≡ Some v → get_or vs i v ≡ v
read_front [] us i v l e = absurd (omega (arith, l))
read_front (x ∷ vs) us zero v l e = cc
read_front (x ∷ vs) us (suc i) v l e = read_front vs us i v (omega (arith, l)) e

read_back : (vs us : List TermId) (i : ℕ) (v : TermId) → length vs ≤ i → slice_get (vs ++ us) i ≡ Some v → slice_get us (i - length vs) ≡ Some v
read_back [] us i v l e = let z : i ≡ i - 0 = omega arith in subst (λ k. slice_get us k ≡ Some v) z e
read_back (x ∷ vs) us zero v l e = absurd (omega (arith, l))
read_back (x ∷ vs) us (suc i) v l e = let z : i - length vs ≡ suc i - suc (length vs) = omega arith in subst (λ k. slice_get us k ≡ Some v) z (read_back vs us i v (omega (arith, l)) e)

own_before : (b d : Nodes) (args vs us : List TermId) (next level : ℕ) (slots : List (Option ℕ)) (τ : ℕ → Term) → AreSlotted b d args next level slots vs → length vs ≡ length slots → AreAt d us τ →
    AreAt d (vs ++ us) (before (length slots) (own_values b args next level slots) τ)
own_before b d args vs us next level slots τ s c a i v e = by_test (nat_lt i (length slots)) refl
  where
    by_test : (t : Bool) → nat_lt i (length slots) ≡ t → tree d v.0 ≡ before (length slots) (own_values b args next level slots) τ i
    by_test true q =
        let l : i < length vs = subst (λ n. i < n) (sym c) (ltb-true i (length slots) q) in
        ap (λ w. tree d w.0) (sym (read_front vs us i v l e)) ∙ (s i v l).is ∙ sym (ap (λ t. if t then own_values b args next level slots i else τ (i - length slots)) q)
    by_test false q =
        let l : length vs ≤ i = grind (arith, nat_tests, q, c) in
        a (i - length vs) v (read_back vs us i v l e) ∙ ap (λ n. τ (i - n)) c ∙ sym (ap (λ t. if t then own_values b args next level slots i else τ (i - length slots)) q)

slot_closed : (ts : List Term) (next level k : ℕ) (o : Option ℕ) → All (LooseBelow 0 0) ts → LooseBelow 0 0 (slot_term ts next level k o)
slot_closed ts next level k None a = tt
slot_closed ts next level k (Some p) a = at_place ts p a
  where
    at_place : (us : List Term) (q : ℕ) → All (LooseBelow 0 0) us → LooseBelow 0 0 (get_or us q (atom (logic (next + k) level)))
    at_place [] q a = tt
    at_place (u ∷ us) zero a = All-head (LooseBelow 0 0) u us a
    at_place (u ∷ us) (suc q) a = at_place us q (All-tail (LooseBelow 0 0) u us a)

terms_closed : (b : Nodes) (args : List TermId) → AreValues b args → All (LooseBelow 0 0) (trees_of b args)
terms_closed b [] a = All-nil (LooseBelow 0 0)
terms_closed b (t ∷ ts) a =
    All-cons (LooseBelow 0 0) (tree b t.0) (trees_of b ts) (All-head (λ (t : TermId). (t.0 < length b.terms) × LooseBelow 0 0 (tree b t.0)) t ts a).1
    (terms_closed b ts (All-tail (λ (t : TermId). (t.0 < length b.terms) × LooseBelow 0 0 (tree b t.0)) t ts a))

pub are_in : (b : Nodes) (args : List TermId) → AreValues b args → AreIn b args
are_in b [] a = All-nil (λ i. i < length b.terms)
are_in b (t ∷ ts) a =
    All-cons (λ i. i < length b.terms) t.0 (map (λ (t : TermId). t.0) ts) (All-head (λ (t : TermId). (t.0 < length b.terms) × LooseBelow 0 0 (tree b t.0)) t ts a).0
    (are_in b ts (All-tail (λ (t : TermId). (t.0 < length b.terms) × LooseBelow 0 0 (tree b t.0)) t ts a))

own_stand : (b d : Nodes) (args vs : List TermId) (next level : ℕ) (slots : List (Option ℕ)) → AreValues b args → AreSlotted b d args next level slots vs → AreValues d vs
own_stand b d args vs next level slots a s = λ i x l.
    let w = s i x l in (w.known, subst (LooseBelow 0 0) (sym w.is) (slot_closed (trees_of b args) next level i (get_or slots i None) (terms_closed b args a)))

-- the scope that is opened
module _ (b d : Nodes) (s z : Scopes) (args vs : List TermId) (next level : ℕ) (slots : List (Option ℕ)) (around inner : Option ℕ) (E : Extends b d) (c : length vs ≡ length slots)
    (w : AreIn b args → AreSlotted b d args next level slots vs)
    (o : (us : List TermId) → IsScope s (block_count s) (value_count s) around us → IsScope z (block_count z) (value_count z) inner (vs ++ us)) where
  pub own_opened : (us : List TermId) (τ : ℕ → Term) → AreValues b args → AreValues b s.values.items → Holds s.values.items s.blocks.items around us → AreAt b us τ →
      (ws : List TermId) × (length ws ≡ length slots + length us) × Holds z.values.items z.blocks.items inner ws × AreAt d ws (before (length slots) (own_values b args next level slots) τ)
  own_opened us τ a v h e =
      let x = scope_all (λ (t : TermId). (t.0 < length b.terms) × LooseBelow 0 0 (tree b t.0)) s.values.items s.blocks.items around us v h in (
        vs ++ us,
        length-append vs us ∙ ap (λ n. n + length us) c,
        scope_whole z inner (vs ++ us) (o us (whole_scope s around us h)),
        own_before b d
            args vs us next level slots τ (w (are_in b args a)) c (at_later b d E us τ x e),
      )

  pub own_values_stand : z.values.items ≡ s.values.items ++ vs → AreValues b args → AreValues b s.values.items → AreValues d z.values.items
  own_values_stand e a v =
      subst (AreValues d) (sym e)
      (All-append (λ (t : TermId). (t.0 < length d.terms) × LooseBelow 0 0 (tree d t.0)) s.values.items vs (values_later b d E s.values.items v)
      (own_stand b d args vs next level slots a (w (are_in b args a))))

-- one number, one element
pub one_read : {A : Type 0} (xs : List A) (i : ℕ) (x y : A) → slice_get xs i ≡ Some x → slice_get xs i ≡ Some y → x ≡ y
one_read xs i x y e f = cc

-- the clause that was read is this one
pub for_rule : {m n : Machine} {args : List TermId} {level : ℕ} {around inner : Values} (f r : Rule) → f ≡ r → IsOpened m n f args level around inner → IsOpened m n r args level around inner
for_rule {m} {n} {args} {level} {around} {inner} f r e h = subst (λ x. IsOpened m n x args level around inner) e h
