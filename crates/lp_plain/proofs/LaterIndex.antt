-- The clauses that the index finds, in a later bank and behind clauses that come to the table.
use Rattle.std.proofs.Common.{◌≡◌, ℕ, zero, suc, ◌+◌, ◌-◌, ◌<◌, ◌≤◌, List, [], ◌∷◌, ◌++◌, length, cond, Option, refl, sym, ap, ◌∙◌, subst, arith}
use Rattle.std.specs.Prelude.{All, filter, slice_get}
use Rattle.std.proofs.lemmas.List.Elements.{All-nil, All-cons, All-head, All-tail, All-append}
use Rattle.lp_lemmas.proofs.Lists.{get_append, get_below}
use Rattle.lp_term.specs.Nodes.{Nodes, Extends}
use Rattle.lp_pattern.specs.Growing.{GoesOn}
use Rattle.lp_plain.specs.declared.table.Rule.{Rule}
use Rattle.lp_plain.specs.declared.table.Span.{Span}
use Rattle.lp_plain.specs.Candidates.{IsChain, IsIndex, ahead, constant_of, constant_at, is_number, is_of, nexts, numbers, numbers_from, numbers_in}
use Rattle.lp_plain.specs.Within.{IsRuleIn}
use Rattle.lp_plain.proofs.OrderedLinks.{kept_longer}
use Rattle.lp_plain.proofs.Within.{all_at}

numbers_below : (n i m : ℕ) → i + n ≤ m → All (λ k. k < m) (numbers_from n i)
numbers_below zero i m h = All-nil (λ k. k < m)
numbers_below (suc n) i m h = All-cons (λ k. k < m) i (numbers_from n (suc i)) (omega (arith, h)) (numbers_below n (suc i) m (omega (arith, h)))

span_below : (s : Span) (m : ℕ) → s.to ≤ m → All (λ k. k < m) (numbers_in s)
span_below s m h = go (s.to - s.from) refl
  where
    go : (n : ℕ) → s.to - s.from ≡ n → All (λ k. k < m) (numbers_from n s.from)
    go zero e = All-nil (λ k. k < m)
    go (suc n) e = numbers_below (suc n) s.from m (omega (arith, e, h))

pub spans_below : (ss : List Span) (m : ℕ) → All (λ s. s.to ≤ m) ss → All (λ k. k < m) (numbers ss)
spans_below [] m a = All-nil (λ k. k < m)
spans_below (s ∷ ss) m a =
    All-append (λ k. k < m) (numbers_in s) (numbers ss) (span_below s m (All-head (λ (s : Span). s.to ≤ m) s ss a)) (spans_below ss m (All-tail (λ (s : Span). s.to ≤ m) s ss a))

pub chain_longer : (xs ys : List (Option ℕ)) (o : Option ℕ) (ks : List ℕ) → IsChain xs o ks → IsChain (xs ++ ys) o ks
chain_longer xs ys o [] h = h
chain_longer xs ys o (k ∷ ks) h = (h.0, h.1, get_append xs ys k h.0 h.2, chain_longer xs ys h.0 ks h.3)

module _ (b d : Nodes) (x : Extends b d) (rs more : List Rule) (a : All (IsRuleIn (length b.terms)) rs) where
  same_constant : (k : ℕ) → k < length rs → constant_at d (slice_get (rs ++ more) k) ≡ constant_at b (slice_get rs k)
  same_constant k l =
      let r = get_below rs k l in
      let i = all_at (IsRuleIn (length b.terms)) rs k r.0 r.1 a in
      ap (constant_at d) (get_append rs more k r.0 r.1) ∙ ap constant_of (x.same_terms r.0.head.0 i.head) ∙ sym (ap (constant_at b) r.1)

  filter_later : (c : ℕ) (ks : List ℕ) → All (λ k. k < length rs) ks → filter (is_of d (rs ++ more) c) ks ≡ filter (is_of b rs c) ks
  filter_later c [] h = refl
  filter_later c (k ∷ ks) h =
      ap (λ t. cond t (k ∷ filter (is_of d (rs ++ more) c) ks) (filter (is_of d (rs ++ more) c) ks)) (ap (is_number c) (same_constant k (All-head (λ k. k < length rs) k ks h))) ∙
      ap (λ z. cond (is_of b rs c k) (k ∷ z) z) (filter_later c ks (All-tail (λ k. k < length rs) k ks h))

  index_longer : (first : ℕ → Option ℕ) (ks : List ℕ) → All (λ k. k < length rs) ks → IsIndex b rs first ks → IsIndex d (rs ++ more) first ks
  index_longer first ks h i c =
      subst (IsChain (nexts (rs ++ more)) (first c)) (sym (filter_later c ks h))
      (let l = kept_longer ahead (λ (r : Rule). r.next) rs more in
      subst (λ l. IsChain l (first c) (filter (is_of b rs c) ks)) (sym l.1) (chain_longer (nexts rs) l.0 (first c) (filter (is_of b rs c) ks) (i c)))

pub index_later : (b d : Nodes) (rs qs : List Rule) (first : ℕ → Option ℕ) (ks : List ℕ) → Extends b d → GoesOn rs qs → All (IsRuleIn (length b.terms)) rs → All (λ k. k < length rs) ks → IsIndex b rs first ks → IsIndex d qs first ks
index_later b d rs qs first ks x g a h i = subst (λ l. IsIndex d l first ks) (sym g.1) (index_longer b d x rs g.0 a first ks h i)
