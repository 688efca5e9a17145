-- The values of a clause's variables, one more at a time.
use Rattle.std.proofs.Common.{◌≡◌, ℕ, zero, suc, ◌+◌, ◌<◌, ◌≤◌, List, [], ◌∷◌, ◌++◌, map, length, get_or, refl, sym, ap, ◌∙◌, subst as transport, arith, Option, Some, None, inl, inr}
use Rattle.std.proofs.lemmas.Bool.{cases_eq}
use Rattle.std.proofs.lemmas.List.{get_or_past, get_or_push, get_or_append_left, length-append}
use Rattle.std.proofs.lemmas.List.Elements.{All-head, All-tail}
use Rattle.lp_calculus.specs.Term.{Term, atom, logic}
use Rattle.lp_term.specs.Nodes.{Nodes, Extends, tree}
use Rattle.lp_term.specs.declared.node.TermId.{TermId}
use Rattle.lp_plain.specs.Heads.{trees_of, slot_term}
use Rattle.lp_plain.specs.Slots.{AreIn, IsSlotted, AreSlotted}

-- a new variable
pub new_value : (b d : Nodes) (args : List TermId) (id next level k : ℕ) (t : TermId) → t.0 < length d.terms → tree d t.0 ≡ atom (logic id level) → id ≡ next + k → IsSlotted b d args next level k None t
new_value b d args id next level k t l e q = record { known = l; is = e ∙ ap (λ n. atom (logic n level)) q }

trees_count : (b : Nodes) (args : List TermId) → length (trees_of b args) ≡ length args
trees_count b [] = refl
trees_count b (t ∷ ts) = ap suc (trees_count b ts)

pub value_past : (b d : Nodes) (args : List TermId) (id next level k place : ℕ) (t : TermId) → length args ≤ place → t.0 < length d.terms → tree d t.0 ≡ atom (logic id level) → id ≡ next + k → IsSlotted b d args next level k (Some place) t
value_past b d args id next level k place t h l e q = record {
  known = l;
  is = e ∙ ap (λ n. atom (logic n level)) q ∙ sym (get_or_past (trees_of b args) place (atom (logic (next + k) level)) (let c = trees_count b args in omega (arith, c, h)));
}

at_place : (b : Nodes) (args : List TermId) (p : ℕ) (t : TermId) (d : Term) → t ≡ get_or args p t → p < length args → AreIn b args → (t.0 < length b.terms) × (tree b t.0 ≡ get_or (trees_of b args) p d)
at_place b [] p t d e h a = absurd (omega (arith, h))
at_place b (x ∷ xs) zero t d e h a = (transport (λ y. y.0 < length b.terms) (sym e) (All-head (λ i. i < length b.terms) x.0 (map (λ t. t.0) xs) a), ap (λ y. tree b y.0) e)
at_place b (x ∷ xs) (suc p) t d e h a = at_place b xs p t d e (omega (arith, h)) (All-tail (λ i. i < length b.terms) x.0 (map (λ t. t.0) xs) a)

-- an argument of the goal
pub value_at : (b : Nodes) (args : List TermId) (next level k place : ℕ) (t : TermId) → t ≡ get_or args place t → place < length args → AreIn b args → IsSlotted b b args next level k (Some place) t
value_at b args next level k place t e h a =
    let w = at_place b args place t (atom (logic (next + k) level)) e h a in record { known = w.0; is = w.1 }

-- banks that have grown
trees_later : (b d : Nodes) (args : List TermId) → Extends b d → AreIn b args → trees_of d args ≡ trees_of b args
trees_later b d [] E a = refl
trees_later b d (t ∷ ts) E a =
    let f = E.same_terms t.0 (All-head (λ i. i < length b.terms) t.0 (map (λ t. t.0) ts) a) in
    let g = trees_later b d ts E (All-tail (λ i. i < length b.terms) t.0 (map (λ t. t.0) ts) a) in
    (λ i. f i ∷ g i)

pub are_in_later : (b d : Nodes) (args : List TermId) → Extends b d → AreIn b args → AreIn d args
are_in_later b d args E a = λ i x h. let k = a i x h in let m = E.more_terms in omega (arith, k, m)

value_later : (a b d : Nodes) (args : List TermId) (next level k : ℕ) (slot : Option ℕ) (t : TermId) → Extends b d → IsSlotted a b args next level k slot t → IsSlotted a d args next level k slot t
value_later a b d args next level k slot t E S = record { known = let m = E.more_terms in let l = S.known in omega (arith, m, l); is = E.same_terms t.0 S.known ∙ S.is }

value_from : (a b d : Nodes) (args : List TermId) (next level k : ℕ) (slot : Option ℕ) (t : TermId) → Extends a b → AreIn a args → IsSlotted b d args next level k slot t → IsSlotted a d args next level k slot t
value_from a b d args next level k slot t E h S = record { known = S.known; is = S.is ∙ ap (λ ts. slot_term ts next level k slot) (trees_later a b args E h) }

-- one value more
pub values_more : (a b d : Nodes) (args : List TermId) (next level n : ℕ) (slots : List (Option ℕ)) (slot : Option ℕ) (olds news : List TermId) (t : TermId) → Extends a b → Extends b d → AreIn a args → length olds ≡ n → news ≡ olds ++ t ∷ [] →
    slot ≡ get_or slots n None → AreSlotted a b args next level slots olds → (AreIn b args → IsSlotted b d args next level n slot t) → AreSlotted a d args next level slots news
values_more a b d args next level n slots slot olds news t E F h c e q S V = λ k x l. elim (cases_eq k n) [
  | inl same ↦
      let v : IsSlotted a d args next level n (get_or slots n None) t =
      transport (λ s. IsSlotted a d args next level n s t) q (value_from a b d args next level n slot t E h (V (are_in_later a b args E h))) in
      let y : get_or news k x ≡ t = ap (λ ys. get_or ys k x) e ∙ get_or_push olds t x k (c ∙ sym same) in
      transport (IsSlotted a d args next level k (get_or slots k None)) (sym y) (transport (λ j. IsSlotted a d args next level j (get_or slots j None) t) (sym same) v)
  | inr ne ↦
      let m : length news ≡ length olds + 1 = ap length e ∙ length-append olds (t ∷ []) in
      let o : k < length olds = omega (arith, m, l, ne, c) in
      let y : get_or news k x ≡ get_or olds k x = ap (λ ys. get_or ys k x) e ∙ get_or_append_left olds (t ∷ []) x k o in
      transport (IsSlotted a d args next level k (get_or slots k None)) (sym y) (value_later a b d args next level k (get_or slots k None) (get_or olds k x) F (S k x o))
]

pub no_values : (a b : Nodes) (args : List TermId) (next level : ℕ) (slots : List (Option ℕ)) (values : List TermId) → values ≡ [] → AreSlotted a b args next level slots values
no_values a b args next level slots values e = λ k d l. let m : length values ≡ 0 = ap length e in absurd (omega (arith, l, m))

pub longer : (olds news : List TermId) (t : TermId) (n : ℕ) → news ≡ olds ++ t ∷ [] → length olds ≡ n → length news ≡ n + 1
longer olds news t n e c = ap length e ∙ length-append olds (t ∷ []) ∙ ap (λ m. m + 1) c

pub slot_read : (xs : List (Option ℕ)) (i : ℕ) (x : Option ℕ) → x ≡ get_or xs i x → i < length xs → x ≡ get_or xs i None
slot_read [] i x e l = absurd (omega (arith, l))
slot_read (y ∷ ys) zero x e l = e
slot_read (y ∷ ys) (suc i) x e l = slot_read ys i x e (omega (arith, l))
