-- The links of the program's clauses lead from each to the next one with its constant; what is left of a chain behind a clause that passes the filter.
use Rattle.std.proofs.Common.{◌≡◌, ℕ, zero, suc, ◌-◌, ◌<◌, ◌≤◌, List, [], ◌∷◌, ◌++◌, map, drop, length, cond, Option, Some, None, refl, sym, ap, ◌∙◌, subst, arith, inl, inr, append_assoc, append-nil}
use Rattle.std.specs.Prelude.{All, filter, slice_get, slice_set, Bool, true, false, nat_eq, ◌⊎◌, option_map}
use Rattle.std.proofs.lemmas.Bool.{eqb-true}
use Rattle.std.proofs.lemmas.List.{length-map}
use Rattle.lp_calculus.specs.Term.{Term, atom, constant, text}
use Rattle.lp_plain.proofs.OrderedLinks.{ahead_some, kept_at, no_link, read_link}
use Rattle.lp_plain.proofs.Within.{all_at}
use Rattle.lp_term.specs.Node.{TermBelow}
use Rattle.lp_term.specs.Nodes.{Nodes, tree, node_tree}
use Rattle.lp_term.specs.Shapes.{term_shape}
use Rattle.lp_term.specs.declared.node.TermNode.{TermNode}
use Rattle.lp_pattern.proofs.Names.{kind, node_kind, kind_of}
use Rattle.lp_plain.specs.declared.table.Rule.{Rule}
use Rattle.lp_plain.specs.declared.table.Span.{Span}
use Rattle.lp_plain.specs.declared.head.Key.{Key}
use Rattle.lp_plain.specs.declared.frame.Assumption.{Assumption}
use Rattle.lp_plain.specs.declared.candidates.Candidate.{Candidate}
use Rattle.lp_plain.specs.declared.candidates.Candidate.TheVariants as candidate
use Rattle.lp_plain.specs.Assuming.{links}
use Rattle.lp_plain.specs.Candidates.{AreInOrder, IsChain, ahead, back, nexts, constant_of, constant_at, is_number, is_of, numbers_from, numbers_in, numbers, IsIndex, unlinked, set_next, AreFrom, IsLinked, passes, is_text_of, same_texts, meets, meets_at, IsLeft, in_turn, AreLeft}

-- one link is set

unlinked_set : (rules : List Rule) (i : ℕ) (o : Option ℕ) → map unlinked (set_next rules i o) ≡ map unlinked rules
unlinked_set [] i o = refl
unlinked_set (r ∷ rs) zero o = refl
unlinked_set (r ∷ rs) (suc i) o = ap (λ z. unlinked r ∷ z) (unlinked_set rs i o)

constants_stay : (b : Nodes) (rules : List Rule) (i k : ℕ) (o : Option ℕ) → constant_at b (slice_get (set_next rules i o) k) ≡ constant_at b (slice_get rules k)
constants_stay b [] i k o = refl
constants_stay b (r ∷ rs) zero zero o = refl
constants_stay b (r ∷ rs) zero (suc k) o = refl
constants_stay b (r ∷ rs) (suc i) zero o = refl
constants_stay b (r ∷ rs) (suc i) (suc k) o = constants_stay b rs i k o

abbrev all_nexts : List Rule → List (Option ℕ)
all_nexts rules = map (λ (r : Rule). r.next) rules

next_set : (rules : List Rule) (i : ℕ) (o : Option ℕ) → i < length rules → slice_get (all_nexts (set_next rules i o)) i ≡ Some o
next_set [] i o h = absurd (omega arith)
next_set (r ∷ rs) zero o h = refl
next_set (r ∷ rs) (suc i) o h = let l : i < length rs = omega arith in next_set rs i o l

nexts_stay : (rules : List Rule) (i k : ℕ) (o : Option ℕ) → i < k → slice_get (all_nexts (set_next rules i o)) k ≡ slice_get (all_nexts rules) k
nexts_stay [] i k o h = refl
nexts_stay (r ∷ rs) zero zero o h = absurd (omega arith)
nexts_stay (r ∷ rs) zero (suc k) o h = refl
nexts_stay (r ∷ rs) (suc i) zero o h = absurd (omega arith)
nexts_stay (r ∷ rs) (suc i) (suc k) o h = let l : i < k = omega arith in nexts_stay rs i k o l

link_set : (rules : List Rule) (i : ℕ) (o : Option ℕ) → i < length rules → slice_get (nexts (set_next rules i o)) i ≡ Some (ahead i o)
link_set rules i o h = kept_at ahead (all_nexts (set_next rules i o)) i ∙ ap (option_map (ahead i)) (next_set rules i o h)

links_stay : (rules : List Rule) (i k : ℕ) (o : Option ℕ) → i < k → slice_get (nexts (set_next rules i o)) k ≡ slice_get (nexts rules) k
links_stay rules i k o h =
    kept_at ahead (all_nexts (set_next rules i o)) k ∙ ap (option_map (ahead k)) (nexts_stay rules i k o h) ∙ sym (kept_at ahead (all_nexts rules) k)

-- the first of a chain of greater numbers is one
ahead_first : (k : ℕ) (ls : List (Option ℕ)) (o : Option ℕ) (ks : List ℕ) → AreFrom (suc k) ks → IsChain ls o ks → ahead k o ≡ o
ahead_first k ls o [] h c = subst (λ z. ahead k z ≡ z) (sym c) refl
ahead_first k ls o (j ∷ ks) h c = let m = h.0 in let l : k < j = omega (arith, m) in subst (λ z. ahead k z ≡ z) (sym c.1) (ahead_some k j l)

pub filter_same : (p q : ℕ → Bool) (ks : List ℕ) → ((k : ℕ) → p k ≡ q k) → filter p ks ≡ filter q ks
filter_same p q [] e = refl
filter_same p q (k ∷ ks) e = ap (λ t. cond t (k ∷ filter p ks) (filter p ks)) (e k) ∙ ap (λ z. cond (q k) (k ∷ z) z) (filter_same p q ks e)

from_filter : (n : ℕ) (p : ℕ → Bool) (ks : List ℕ) → AreFrom n ks → AreFrom n (filter p ks)
from_filter n p [] h = tt
from_filter n p (k ∷ ks) h = go (p k) (from_filter n p ks h.1)
  where
    go : (t : Bool) → AreFrom n (filter p ks) → AreFrom n (cond t (k ∷ filter p ks) (filter p ks))
    go true r = (h.0, r)
    go false r = r

pub from_lower : (n m : ℕ) (ks : List ℕ) → m ≤ n → AreFrom n ks → AreFrom m ks
from_lower n m [] l h = tt
from_lower n m (k ∷ ks) l h = let a = h.0 in let b : m ≤ k = omega (arith, a, l) in (b, from_lower n m ks l h.1)

chain_stays : (rules : List Rule) (i : ℕ) (o first : Option ℕ) (ks : List ℕ) → AreFrom (suc i) ks → IsChain (nexts rules) first ks → IsChain (nexts (set_next rules i o)) first ks
chain_stays rules i o first [] h c = c
chain_stays rules i o first (k ∷ ks) h c = let l = h.0 in let b : i < k = omega (arith, l) in (c.0, c.1, links_stay rules i k o b ∙ c.2, chain_stays rules i o c.0 ks h.1 c.3)

-- a clause whose head is no constant is not linked
pub none_linked : (b : Nodes) (rules : List Rule) (first : ℕ → Option ℕ) (k : ℕ) → constant_at b (slice_get rules k) ≡ None → IsLinked b rules rules first first (k ∷ []) (suc k) k
none_linked b rules first k e = record {
  same = refl;
  chains = λ ks h x.
      let l : k ≤ k = omega arith in
      let m : k ≤ suc k = omega arith in
      ((l, from_lower (suc k) k ks m h), λ c. subst (λ t. IsChain (nexts rules) (first c) (cond t (k ∷ filter (is_of b rules c) ks) (filter (is_of b rules c) ks))) (sym (ap (is_number c) e)) (x c));
}

-- a clause is linked before those behind it
pub one_linked : (b : Nodes) (old new : List Rule) (first later : ℕ → Option ℕ) (k d : ℕ) → constant_at b (slice_get old k) ≡ Some d → k < length old
    → new ≡ set_next old k (first d) → ((c : ℕ) → later c ≡ cond (nat_eq d c) (Some k) (first c))
    → IsLinked b old new first later (k ∷ []) (suc k) k
one_linked b old new first later k d e w n u = record {
  same = ap (map unlinked) n ∙ unlinked_set old k (first d);
  chains = λ ks h x.
      let l : k ≤ k = omega arith in
      let m : k ≤ suc k = omega arith in
      ((l, from_lower (suc k) k ks m h), λ c. subst (λ z. IsChain (nexts z) (later c) (filter (is_of b z c) (k ∷ ks))) (sym n) (linked ks h x c));
}
  where
    rules : List Rule
    rules = set_next old k (first d)

    same_filter : (c : ℕ) (ks : List ℕ) → filter (is_of b rules c) ks ≡ filter (is_of b old c) ks
    same_filter c ks = filter_same (is_of b rules c) (is_of b old c) ks (λ i. ap (is_number c) (constants_stay b old k i (first d)))

    before : (ks : List ℕ) (c : ℕ) → AreFrom (suc k) ks → IsIndex b old first ks → IsChain (nexts rules) (first c) (filter (is_of b rules c) ks)
    before ks c h x = subst (λ z. IsChain (nexts rules) (first c) z) (sym (same_filter c ks))
        (chain_stays old k (first d) (first c) (filter (is_of b old c) ks) (from_filter (suc k) (is_of b old c) ks h) (x c))

    linked : (ks : List ℕ) → AreFrom (suc k) ks → IsIndex b old first ks → (c : ℕ) → IsChain (nexts rules) (later c) (filter (is_of b rules c) (k ∷ ks))
    linked ks h x c =
        subst (λ t. IsChain (nexts rules) (later c) (cond t (k ∷ filter (is_of b rules c) ks) (filter (is_of b rules c) ks)))
        (sym (ap (is_number c) (constants_stay b old k k (first d) ∙ e))) (go (nat_eq d c) refl)
      where
        go : (t : Bool) → nat_eq d c ≡ t → IsChain (nexts rules) (later c) (cond (nat_eq d c) (k ∷ filter (is_of b rules c) ks) (filter (is_of b rules c) ks))
        go true q =
            let same : d ≡ c = eqb-true d c q in
            let rest = before ks c h x in
            let greater = ahead_first k (nexts rules) (first c) (filter (is_of b rules c) ks) (from_filter (suc k) (is_of b rules c) ks h) rest in
            subst (λ t. IsChain (nexts rules) (later c) (cond t (k ∷ filter (is_of b rules c) ks) (filter (is_of b rules c) ks))) (sym q) (
              first c,
              u c ∙ ap (λ t. cond t (Some k) (first c)) q,
              link_set old k (first d) w ∙ ap (λ z. Some (ahead k (first z))) same ∙ ap Some greater,
              rest,
            )
        go false q =
            subst (λ t. IsChain (nexts rules) (later c) (cond t (k ∷ filter (is_of b rules c) ks) (filter (is_of b rules c) ks))) (sym q)
            (subst (λ z. IsChain (nexts rules) z (filter (is_of b rules c) ks)) (sym (u c ∙ ap (λ t. cond t (Some k) (first c)) q)) (before ks c h x))

pub linked_none : (b : Nodes) (rules : List Rule) (first : ℕ → Option ℕ) (above low : ℕ) → low ≤ above → IsLinked b rules rules first first [] above low
linked_none b rules first above low l = record { same = refl; chains = λ ks h x. (from_lower above low ks l h, x) }

pub linked_then : (b : Nodes) (old mid new : List Rule) (first then_first later : ℕ → Option ℕ) (more front : List ℕ) (above mid_low low : ℕ) →
    IsLinked b old mid first then_first more above mid_low → IsLinked b mid new then_first later front mid_low low
    → IsLinked b old new first later (front ++ more) above low
linked_then b old mid new first then_first later more front above mid_low low f g = record {
  same = g.same ∙ f.same;
  chains = λ ks h x.
      let p = f.chains ks h x in
      let q = g.chains (more ++ ks) p.0 p.1 in
      subst (λ z. AreFrom low z × IsIndex b new later z) (sym (append_assoc front more ks)) q;
}

-- one more clause of a span, from behind
pub span_more : (b : Nodes) (old mid new : List Rule) (first then_first later : ℕ → Option ℕ) (to above left next : ℕ) → suc next ≡ left → left ≤ to →
    IsLinked b old mid first then_first (numbers_from (to - left) left) above left → IsLinked b mid new then_first later (next ∷ []) (suc next) next
    → IsLinked b old new first later (numbers_from (to - next) next) above next
span_more b old mid new first then_first later to above left next e l f g =
    let n : to - next ≡ suc (to - left) = omega (arith, e, l) in
    subst (λ z. IsLinked b old new first later z above next) (sym (ap (λ z. numbers_from z next) n))
    (subst (λ z. IsLinked b old new first later (next ∷ numbers_from (to - left) z) above next) (sym e)
    (linked_then b old mid new first then_first later (numbers_from (to - left) left) (next ∷ []) above left next f (subst (λ z. IsLinked b mid new then_first later (next ∷ []) z next) e g)))

pub span_done : (s : Span) (left : ℕ) → left ≤ s.from → left ≤ s.to → (s.from ≤ left) ⊎ (left ≡ s.to) → numbers_from (s.to - left) left ≡ numbers_in s
span_done s left l m (inl h) = let e : left ≡ s.from = omega (arith, l, h) in ap (λ z. numbers_from (s.to - z) z) e
span_done s left l m (inr h) =
    let z : s.to - left ≡ 0 = omega (arith, h) in
    let y : s.to - s.from ≡ 0 = omega (arith, h, l) in
    ap (λ n. numbers_from n left) z ∙ sym (ap (λ n. numbers_from n s.from) y)

-- the spans from one on
drop_here : (ss : List Span) (i : ℕ) (s : Span) → slice_get ss i ≡ Some s → drop i ss ≡ s ∷ drop (suc i) ss
drop_here [] i s e = absurd (cc)
drop_here (x ∷ ss) zero s e = let f : x ≡ s = cc in ap (λ z. z ∷ ss) f
drop_here (x ∷ ss) (suc i) s e = drop_here ss i s e

pub spans_more : (b : Nodes) (old mid new : List Rule) (first then_first later : ℕ → Option ℕ) (ss : List Span) (s : Span)
    (above mid_low low left next : ℕ) → suc next ≡ left → slice_get ss next ≡ Some s → IsLinked b old mid first then_first (numbers (drop left ss))
    above mid_low → IsLinked b mid new then_first later (numbers_in s) mid_low low
    → IsLinked b old new first later (numbers (drop next ss)) above low
spans_more b old mid new first then_first later ss s above mid_low low left next e h f g =
    subst (λ z. IsLinked b old new first later z above low) (sym (ap numbers (drop_here ss next s h ∙ ap (λ z. s ∷ drop z ss) e)))
    (linked_then b old mid new first then_first later (numbers (drop left ss)) (numbers_in s) above mid_low low f g)

pub all_linked : (b : Nodes) (old new : List Rule) (first later : ℕ → Option ℕ) (ss : List Span) (above low left : ℕ) → left ≤ 0 →
    ((c : ℕ) → first c ≡ None) → IsLinked b old new first later (numbers (drop left ss)) above low → IsIndex b new later (numbers ss)
all_linked b old new first later ss above low zero l n f =
    subst (λ z. IsIndex b new later z) (append-nil (numbers ss)) (f.chains [] tt n).1
all_linked b old new first later ss above low (suc left) l n f = absurd (omega arith)

-- what is read of a clause

no_constant_of : (t : Term) → (kind t ≡ 1 → ⊥) → None ≡ constant_of t
no_constant_of (atom (constant c ts)) h = absurd (h refl)
no_constant_of _ h = refl

pub constant_read : (b : Nodes) (rules : List Rule) (k : ℕ) (r : Rule) (found : Option ℕ) → slice_get rules k ≡ Some r → found ≡ constant_of
    (tree b r.head.0) → found ≡ constant_at b (slice_get rules k)
constant_read b rules k r found e h = h ∙ sym (ap (constant_at b) e)

pub none_read : (b : Nodes) (rules : List Rule) (k n m : ℕ) (r : Rule) (x : TermNode) → slice_get rules k ≡ Some r → TermBelow n m (term_shape x) →
    node_tree b (term_shape x) ≡ tree b r.head.0 → (node_kind x ≡ 1 → ⊥) → None ≡ constant_at b (slice_get rules k)
none_read b rules k n m r x e l t h = constant_read b rules k r None e (no_constant_of (tree b r.head.0) (λ q. h (sym (kind_of b n m x l) ∙ ap kind t ∙ q)))

pub set_is : (rules : List Rule) (i : ℕ) (r : Rule) (o : Option ℕ) → slice_get rules i ≡ Some r → slice_set rules i
    (record { type_vars = r.type_vars; head = r.head; slots = r.slots; pairs = r.pairs; key = r.key; body = r.body; next = o }) ≡ set_next rules i o
set_is [] i r o e = absurd (cc)
set_is (x ∷ rules) zero r o e = let f : r ≡ x = cc in ap (λ (z : Rule). record {
  type_vars = z.type_vars;
  head = z.head;
  slots = z.slots;
  pairs = z.pairs;
  key = z.key;
  body = z.body;
  next = o;
} ∷ rules) f
set_is (x ∷ rules) (suc i) r o e = ap (λ z. x ∷ z) (set_is rules i r o e)

pub linked_empty : (b : Nodes) (rules : List Rule) (later : ℕ → Option ℕ) (above low : ℕ) → low ≤ above → ((c : ℕ) → later c ≡ None) → IsLinked b rules rules (λ c. None) later [] above low
linked_empty b rules later above low l e = record {
  same = refl;
  chains = λ ks h x.
      (from_lower above low ks l h, λ c. subst (λ z. IsChain (nexts rules) z (filter (is_of b rules c) ks)) (sym (e c)) (x c));
}

pub no_spans : (ss : List Span) (n : ℕ) → length ss ≤ n → numbers (drop n ss) ≡ []
no_spans [] zero h = refl
no_spans [] (suc n) h = refl
no_spans (s ∷ ss) zero h = absurd (omega arith)
no_spans (s ∷ ss) (suc n) h = let l : length ss ≤ n = omega arith in no_spans ss n l

-- a chain is followed

pub left_none : (b : Nodes) (rules : List Rule) (k : Option Key) (o : Option ℕ) (ks js : List ℕ) → o ≡ None → IsChain (nexts rules) o js → filter
    (passes b rules k) ks ≡ filter (passes b rules k) js → IsLeft b rules k None (filter (passes b rules k) ks)
left_none b rules k o ks js e c f = (js, subst (λ z. IsChain (nexts rules) z js) e c, f, tt)

pub left_some : (b : Nodes) (rules : List Rule) (k : Option Key) (o : Option ℕ) (ks js : List ℕ) (i : ℕ) (r : Rule) → o ≡ Some i → slice_get rules i ≡
    Some r → true ≡ meets b r.key k → IsChain (nexts rules) o js → filter (passes b rules k) ks ≡ filter (passes b rules k) js → IsLeft b rules k
    (Some i) (filter (passes b rules k) ks)
left_some b rules k o ks js i r e s m c f = (js, subst (λ z. IsChain (nexts rules) z js) e c, f, ap (meets_at b k) s ∙ sym m)

pub left_further : (b : Nodes) (rules : List Rule) (k : Option Key) (o : Option ℕ) (ks js : List ℕ) (i : ℕ) (r : Rule) → o ≡ Some i → slice_get rules
    i ≡ Some r → false ≡ meets b r.key k → IsChain (nexts rules) o js → filter (passes b rules k) ks ≡ filter (passes b rules k) js
    → (rest : List ℕ) × IsChain (nexts rules) (ahead i r.next) rest × (filter (passes b rules k) ks ≡ filter (passes b rules k) rest)
left_further b rules k o ks [] i r e s m c f = let a : None ≡ Some i = sym c ∙ e in absurd (cc)
left_further b rules k o ks (j ∷ js) i r e s m c f =
    let a : Some j ≡ Some i = sym c.1 ∙ e in
    let same : j ≡ i = cc in
    let here : slice_get rules j ≡ Some r = ap (slice_get rules) same ∙ s in (
      js,
      subst (λ z. IsChain (nexts rules) z js) (sym (read_link ahead (λ (x : Rule). x.next) rules j r c.0 here c.2) ∙ ap (λ z. ahead z r.next) same) c.3,
      f ∙ ap
          (λ t. cond t (j ∷ filter (passes b rules k) js) (filter (passes b rules k) js)) (ap (meets_at b k) here ∙ sym m),
    )

chain_none : (ls : List (Option ℕ)) (ks : List ℕ) → IsChain ls None ks → ks ≡ []
chain_none ls [] c = refl
chain_none ls (k ∷ ks) c = let a = c.1 in absurd (cc)

pub program_some : (b : Nodes) (rules : List Rule) (older : List (Option ℕ)) (first found : Option ℕ) (k : Option Key) (i : ℕ) (ks : List ℕ) → found ≡
    Some i → IsLeft b rules k found (filter (passes b rules k) ks) → AreLeft b rules older first k (Some (candidate.Program i))
    (in_turn b rules k [] ks)
program_some b rules older first found k i ks e l = (filter (passes b rules k) ks, subst (λ z. IsLeft b rules k z (filter (passes b rules k) ks)) e l, refl)

pub program_none : (b : Nodes) (rules : List Rule) (older : List (Option ℕ)) (first found : Option ℕ) (k : Option Key) (ks : List ℕ) → found ≡ None →
    IsLeft b rules k found (filter (passes b rules k) ks) → AreLeft b rules older first k None (in_turn b rules k [] ks)
program_none b rules older first found k ks e l =
    let n : l.0 ≡ [] = chain_none (nexts rules) l.0 (subst (λ z. IsChain (nexts rules) z l.0) e l.1) in
    ap (map (λ i. candidate.Program i)) (l.2 ∙ ap (filter (passes b rules k)) n)

pub assumed_some : (b : Nodes) (rules : List Rule) (older : List (Option ℕ)) (first o : Option ℕ) (k : Option Key) (i : ℕ) (ns ks : List ℕ) → o ≡ Some
    i → IsChain older o ns → IsChain (nexts rules) first ks → AreLeft b rules older first k (Some (candidate.Assumed i)) (in_turn b rules k ns ks)
assumed_some b rules older first o k i ns ks e c d = (ns, ks, subst (λ z. IsChain older z ns) e c, d, refl)

pub assumed_none : (b : Nodes) (rules : List Rule) (older : List (Option ℕ)) (first o : Option ℕ) (k : Option Key) (found : Option Candidate)
    (ns ks : List ℕ) → o ≡ None → IsChain older o ns → AreLeft b rules older first k found (in_turn b rules k [] ks) → AreLeft b rules older first k
    found (in_turn b rules k ns ks)
assumed_none b rules older first o k found ns ks e c l = subst (λ z. AreLeft b rules older first k found (in_turn b rules k z ks)) (sym (chain_none older ns (subst (λ z. IsChain older z ns) e c))) l

-- the candidate behind an assumed clause
behind_assumed : (b : Nodes) (rules : List Rule) (assumptions : List Assumption) (first : Option ℕ) (k : Option Key) (found : Option Candidate)
    (i : ℕ) (a : Assumption) (left : List Candidate) → slice_get assumptions i ≡ Some a
    → ((ns ks : List ℕ) → IsChain (links assumptions) (back i a.older) ns → IsChain (nexts rules) first ks → AreLeft b rules
    (links assumptions) first k found (in_turn b rules k ns ks))
    → AreLeft b rules (links assumptions) first k (Some (candidate.Assumed i)) left → (rest : List Candidate) ×
    (left ≡ candidate.Assumed i ∷ rest) × AreLeft b rules (links assumptions) first k found rest
behind_assumed b rules assumptions first k found i a left s f ([], ks, c, d, e) = absurd (cc)
behind_assumed b rules assumptions first k found i a left s f (j ∷ ns, ks, c, d, e) =
    let q = c.1 in
    let same : j ≡ i = cc in
    let here : slice_get assumptions j ≡ Some a = ap (slice_get assumptions) same ∙ s in
    let next : back i a.older ≡ c.0 = sym (ap (λ z. back z a.older) same) ∙ read_link back (λ (x : Assumption). x.older) assumptions j a c.0 here c.2 in
    (in_turn b rules k ns ks, e ∙ ap (λ z. candidate.Assumed z ∷ in_turn b rules k ns ks) same, f ns ks (subst (λ z. IsChain (links assumptions) z ns) (sym next) c.3) d)

-- the candidate behind a program clause
behind_program : (b : Nodes) (rules : List Rule) (older : List (Option ℕ)) (first : Option ℕ) (k : Option Key) (found : Option Candidate) (i : ℕ)
    (r : Rule) (left : List Candidate) → slice_get rules i ≡ Some r
    → ((ks : List ℕ) → IsChain (nexts rules) (ahead i r.next) ks → AreLeft b rules older first k found (in_turn b rules k [] ks))
    → AreLeft b rules older first k (Some (candidate.Program i)) left → (rest : List Candidate) × (left ≡ candidate.Program i ∷ rest) × AreLeft b rules older first k found rest
behind_program b rules older first k found i r left s f (program, ([], c, d, p), e) = absurd (cc)
behind_program b rules older first k found i r left s f (program, (j ∷ ks, c, d, p), e) =
    let q = c.1 in
    let same : j ≡ i = cc in
    let here : slice_get rules j ≡ Some r = ap (slice_get rules) same ∙ s in
    let next : ahead i r.next ≡ c.0 = sym (ap (λ z. ahead z r.next) same) ∙ read_link ahead (λ (x : Rule). x.next) rules j r c.0 here c.2 in
    let one : program ≡ j ∷ filter (passes b rules k) ks = d ∙ ap (λ t. cond t (j ∷ filter (passes b rules k) ks) (filter (passes b rules k) ks)) (ap (passes b rules k) same ∙ p) in
    (in_turn b rules k [] ks, e ∙ ap (map (λ x. candidate.Program x)) one ∙ ap (λ z. candidate.Program z ∷ in_turn b rules k [] ks) same, f ks (subst (λ z. IsChain (nexts rules) z ks) (sym next) c.3))

-- the filter

no_text_in : (t u : Term) → (kind t ≡ 3 → ⊥) → false ≡ is_text_of t u
no_text_in (atom (text s)) u h = absurd (h refl)
no_text_in _ u h = refl

-- the first term's node is no text
pub other_text : (b : Nodes) (i j n m : ℕ) (x : TermNode) → TermBelow n m (term_shape x) → node_tree b (term_shape x) ≡ tree b i → (node_kind x ≡ 3 → ⊥) → false ≡ same_texts b i j
other_text b i j n m x w t h = no_text_in (tree b i) (tree b j) (λ q. h (sym (kind_of b n m x w) ∙ ap kind t ∙ q))

pub after_assumed : (b : Nodes) (rules : List Rule) (assumptions : List Assumption) (first : Option ℕ) (k : Option Key) (found : Option Candidate)
    (which : Candidate) (i : ℕ) (a : Assumption) (left : List Candidate) → which ≡ candidate.Assumed i → slice_get assumptions i ≡ Some a
    → ((ns ks : List ℕ) → IsChain (links assumptions) (back i a.older) ns → IsChain (nexts rules) first ks → AreLeft b rules
    (links assumptions) first k found (in_turn b rules k ns ks))
    → AreLeft b rules (links assumptions) first k (Some which) left → (rest : List Candidate) × (left ≡ which ∷ rest) ×
    AreLeft b rules (links assumptions) first k found rest
after_assumed b rules assumptions first k found which i a left e s f l =
    let r = behind_assumed b rules assumptions first k found i a left s f (subst (λ z. AreLeft b rules (links assumptions) first k (Some z) left) e l) in
    (r.0, r.1 ∙ ap (λ z. z ∷ r.0) (sym e), r.2)

pub after_program : (b : Nodes) (rules : List Rule) (older : List (Option ℕ)) (first : Option ℕ) (k : Option Key) (found : Option Candidate)
    (which : Candidate) (i : ℕ) (r : Rule) (left : List Candidate) → which ≡ candidate.Program i → slice_get rules i ≡ Some r
    → ((ks : List ℕ) → IsChain (nexts rules) (ahead i r.next) ks → AreLeft b rules older first k found (in_turn b rules k [] ks))
    → AreLeft b rules older first k (Some which) left → (rest : List Candidate) × (left ≡ which ∷ rest) × AreLeft b rules older first k found rest
after_program b rules older first k found which i r left e s f l =
    let p = behind_program b rules older first k found i r left s f (subst (λ z. AreLeft b rules older first k (Some z) left) e l) in
    (p.0, p.1 ∙ ap (λ z. z ∷ p.0) (sym e), p.2)

-- links change no number of clauses
pub same_rules : (old new : List Rule) → map unlinked new ≡ map unlinked old → length new ≡ length old
same_rules old new e = sym (length-map new unlinked) ∙ ap length e ∙ length-map old unlinked

-- a number that is none is in no chain

pub left_outside : (b : Nodes) (rules : List Rule) (k : Option Key) (o : Option ℕ) (ks js : List ℕ) (i : ℕ) → o ≡ Some i → slice_get rules i ≡ None →
    IsChain (nexts rules) o js → filter (passes b rules k) ks ≡ filter (passes b rules k) js →
    IsLeft b rules k None (filter (passes b rules k) ks)
left_outside b rules k o ks [] i e s c f = let a : None ≡ Some i = sym c ∙ e in absurd (cc)
left_outside b rules k o ks (j ∷ js) i e s c f =
    let a : Some j ≡ Some i = sym c.1 ∙ e in
    let same : j ≡ i = cc in
    absurd (no_link ahead (λ (x : Rule). x.next) rules j c.0 (ap (slice_get rules) same ∙ s) c.2)

pub assumed_outside : (b : Nodes) (rules : List Rule) (assumptions : List Assumption) (first : Option ℕ) (k : Option Key) (which : Candidate) (i : ℕ)
    (left : List Candidate) → which ≡ candidate.Assumed i → slice_get assumptions i ≡ None →
    AreLeft b rules (links assumptions) first k (Some which) left → ⊥
assumed_outside b rules assumptions first k which i left e s l = go (subst (λ z. AreLeft b rules (links assumptions) first k (Some z) left) e l)
  where
    go : AreLeft b rules (links assumptions) first k (Some (candidate.Assumed i)) left → ⊥
    go ([], ks, c, d, q) = absurd (cc)
    go (j ∷ ns, ks, c, d, q) =
        let a = c.1 in
        let same : j ≡ i = cc in
        no_link back (λ (x : Assumption). x.older) assumptions j c.0 (ap (slice_get assumptions) same ∙ s) c.2

pub program_outside : (b : Nodes) (rules : List Rule) (older : List (Option ℕ)) (first : Option ℕ) (k : Option Key) (which : Candidate) (i : ℕ)
    (left : List Candidate) → which ≡ candidate.Program i → slice_get rules i ≡ None →
    AreLeft b rules older first k (Some which) left → ⊥
program_outside b rules older first k which i left e s l = go (subst (λ z. AreLeft b rules older first k (Some z) left) e l)
  where
    go : AreLeft b rules older first k (Some (candidate.Program i)) left → ⊥
    go (program, ([], c, d, p), q) = absurd (cc)
    go (program, (j ∷ ks, c, d, p), q) =
        let a = c.1 in
        let same : j ≡ i = cc in
        no_link ahead (λ (x : Rule). x.next) rules j c.0 (ap (slice_get rules) same ∙ s) c.2

-- spans in order

pub span_forth : (ss : List Span) (low i : ℕ) (s : Span) → AreInOrder low ss → slice_get ss i ≡ Some s → s.from ≤ s.to
span_forth [] low i s h e = absurd (cc)
span_forth (r ∷ ss) low zero s h e = let f : r ≡ s = cc in subst (λ (z : Span). z.from ≤ z.to) f h.1
span_forth (r ∷ ss) low (suc i) s h e = span_forth ss r.to i s h.2 e

pub span_low : (ss : List Span) (low : ℕ) (rules : List Rule) (i : ℕ) (s : Span) (first : ℕ) → AreInOrder low ss → All
    (λ (r : Span). r.to ≤ length rules) ss → slice_get ss i ≡ Some s → first ≡ s.from → first ≤ length rules
span_low ss low rules i s first h a g e =
    let f = span_forth ss low i s h g in
    let t = all_at (λ (r : Span). r.to ≤ length rules) ss i s g a in
    omega (arith, e, f, t)

next_from : (ss : List Span) (low : ℕ) (r : Span) → AreInOrder low ss → slice_get ss 0 ≡ Some r → low ≤ r.from
next_from [] low r h e = absurd (cc)
next_from (q ∷ ss) low r h e = let f : q ≡ r = cc in subst (λ (z : Span). low ≤ z.from) f h.0

pub spans_apart : (ss : List Span) (low i : ℕ) (s r : Span) → AreInOrder low ss → slice_get ss i ≡ Some s → slice_get ss (suc i) ≡ Some r → (first : ℕ) → first ≡ r.from → s.to ≤ first
spans_apart [] low i s r h e g first q = absurd (cc)
spans_apart (p ∷ ss) low zero s r h e g first q =
    let f : p ≡ s = cc in
    let l = next_from ss p.to r h.2 g in
    subst (λ (z : Span). z.to ≤ first) f (omega (arith, l, q))
spans_apart (p ∷ ss) low (suc i) s r h e g first q = spans_apart ss p.to i s r h.2 e g first q
