-- The worked records, by computation.
use Rattle.std.specs.Global.{Global}
use Rattle.std.proofs.Common.{◌≡◌, ℕ, List, [], ◌∷◌, Some, refl, sym, subst}
use Rattle.std.specs.Prelude.{Vec}
use Rattle.std.specs.declared.vec.Vec as vec
use Rattle.lp_code.specs.declared.instruction.Instr.{Instr}
use Rattle.lp_code.specs.declared.record.Key.TheVariants as key
use Rattle.lp_code.specs.declared.rule.Rule.TheVariants as rule
use Rattle.lp_model.specs.Flat.{Atomic, denied, clause, no_goals, goals}
use Rattle.lp_code.specs.Denote.{denote, first_fault}
use Rattle.lp_code.specs.Worked.{IsWorked, tables, of_q, q_a, fact, negated, unset, set_twice, fault}

-- what holds of every vector with these items, by computation on them, holds of a vector whose items are equal to them
by_items : {A : Type 0} (P : Vec A Global → Type 0) (xs : List A)
    → ((v : Vec A Global) (ok : vec.ok-type A Global v.ptr v.len v.cap v.alloc xs) (small : vec.small-type A Global v.ptr v.len v.cap v.alloc xs ok) → P (record { ptr = v.ptr; len = v.len; cap = v.cap; alloc = v.alloc; items = xs; ok = ok; small = small }))
    → (v : Vec A Global) → v.items ≡ xs → P v
by_items {A} P xs h v e =
    subst (λ is. (ok : vec.ok-type A Global v.ptr v.len v.cap v.alloc is) (small : vec.small-type A Global v.ptr v.len v.cap v.alloc is ok) → P (record { ptr = v.ptr; len = v.len; cap = v.cap; alloc = v.alloc; items = is; ok = ok; small = small })) (sym e) (h v) v.ok v.small

-- the same for two, of which the second one's items are made of the first one
by_both : {A B : Type 0} (P : Vec A Global → Vec B Global → Type 0) (xs : List A) (f : Vec A Global → List B)
    → ((v : Vec A Global) (ok : vec.ok-type A Global v.ptr v.len v.cap v.alloc xs) (small : vec.small-type A Global v.ptr v.len v.cap v.alloc xs ok)
    (w : Vec B Global) (okay : vec.ok-type B Global w.ptr w.len w.cap w.alloc (f (record { ptr = v.ptr; len = v.len; cap = v.cap; alloc = v.alloc; items = xs; ok = ok; small = small })))
    (little : vec.small-type B Global w.ptr w.len w.cap w.alloc (f (record { ptr = v.ptr; len = v.len; cap = v.cap; alloc = v.alloc; items = xs; ok = ok; small = small })) okay)
    → P (record { ptr = v.ptr; len = v.len; cap = v.cap; alloc = v.alloc; items = xs; ok = ok; small = small })
    (record {
      ptr = w.ptr;
      len = w.len;
      cap = w.cap;
      alloc = w.alloc;
      items = f
          (record { ptr = v.ptr; len = v.len; cap = v.cap; alloc = v.alloc; items = xs; ok = ok; small = small });
      ok = okay;
      small = little;
    }))
    → (v : Vec A Global) → v.items ≡ xs → (w : Vec B Global) → w.items ≡ f v → P v w
by_both {A} {B} P xs f h v d w e =
    by_items (λ n. (c : Vec B Global) → c.items ≡ f n → P n c) xs
    (λ n ok small. by_items (P (record { ptr = n.ptr; len = n.len; cap = n.cap; alloc = n.alloc; items = xs; ok = ok; small = small })) (f (record { ptr = n.ptr; len = n.len; cap = n.cap; alloc = n.alloc; items = xs; ok = ok; small = small })) (h n ok small))
    v d w e

abbrev Fact : Vec ℕ Global → Vec Instr Global → Type 0
Fact none code = denote tables (of_q 0 (key.Const 32) code ∷ []) ≡ Some (clause 0 [] q_a no_goals ∷ [])

abbrev Negation : Vec ℕ Global → Vec Instr Global → Type 0
Negation none code = denote tables (of_q 1 (key.Const 32) code ∷ []) ≡ Some (clause 0 [] q_a (goals (denied (goals (Atomic q_a) no_goals)) no_goals) ∷ [])

abbrev SetTwice : Vec ℕ Global → Vec Instr Global → Type 0
SetTwice none code = first_fault tables (of_q 1 (key.Const 32) code ∷ []) ≡ fault 6 rule.Set

abbrev WrongKey : Vec ℕ Global → Vec Instr Global → Type 0
WrongKey none code = first_fault tables (of_q 0 key.None code ∷ []) ≡ fault 0 rule.Key

pub worked : IsWorked
worked = record {
  fact_lengths = λ none first l. rw l.none_is refl;
  fact_denotes = λ none first code l e. by_both Fact [] fact (λ v ok small w okay little. refl) none l.none_is code e;
  negation_denotes = λ none first code l e.
      by_items (λ one. (c : Vec Instr Global) → c.items ≡ negated none one → Negation none c) (0 ∷ [])
      (λ v ok small c. by_both Negation [] (λ n. negated n (record { ptr = v.ptr; len = v.len; cap = v.cap; alloc = v.alloc; items = 0 ∷ []; ok = ok; small = small })) (λ n nok nsmall w okay little. refl) none l.none_is c)
      first l.first_is code e;
  unset_register = λ code e. by_items (λ c. first_fault tables (of_q 1 key.None c ∷ []) ≡ fault 0 rule.Unset) unset (λ v ok small. refl) code e;
  register_too_high = λ code e. by_items (λ c. first_fault tables (of_q 0 key.None c ∷ []) ≡ fault 0 rule.Register) unset (λ v ok small. refl) code e;
  register_set_twice = λ none first code l e. by_both SetTwice [] set_twice (λ v ok small w okay little. refl) none l.none_is code e;
  wrong_key = λ none first code l e. by_both WrongKey [] fact (λ v ok small w okay little. refl) none l.none_is code e;
}
