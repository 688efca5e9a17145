-- Pairs on a stack: what they are under bindings.
use Rattle.std.proofs.Common.{◌≡◌, ℕ, suc, ◌<◌, List, [], ◌∷◌, ◌++◌, map, reverse, length, ◌∙◌, refl, sym, ap, subst as transport, arith}
use Rattle.std.specs.Prelude.{All}
use Rattle.std.proofs.lemmas.List.{map-append, reverse-append, reverse-reverse}
use Rattle.std.proofs.lemmas.List.Elements.{All-nil, All-head, All-tail, All-cons, All-append, All-weaker}
use Rattle.lp_lemmas.proofs.Elements.{All_reverse}
use Rattle.lp_calculus.specs.Term.{Term, index, atom, abs, app, constant, integer, text, eigen, logic, param}
use Rattle.lp_calculus.specs.Instance.{instance_term}
use Rattle.lp_term.specs.Nodes.{Nodes, Extends, tree}
use Rattle.lp_term.proofs.Within.{terms_later}
use Rattle.lp_term.specs.declared.node.TermId.{TermId}
use Rattle.lp_model.specs.Pair.{Closing, closed}
use Rattle.lp_model.specs.Rule.{argument_pairs}
use Rattle.lp_model.specs.declared.answer.Pair.{Pair as Numbers}
use Rattle.lp_pattern.specs.Growing.{IsPairOf}
use Rattle.lp_pattern.specs.Under.{under}
use Rattle.lp_pattern.specs.Seen.{IsRigid}
use Rattle.lp_pattern.specs.Comparing.{opened_pair, pair_under, pairs_under, pairs_of}

-- a bank that has grown
pub under_kept : (b d : Nodes) (c : Closing) (t : TermId) → Extends b d → t.0 < length b.terms → under d c t ≡ under b c t
under_kept b d c t e l = ap (closed c) (e.same_terms t.0 l)

pair_kept : (b d : Nodes) (c : Closing) (p : Numbers) → Extends b d → IsPairOf (length b.terms) p → pair_under d c p ≡ pair_under b c p
pair_kept b d c p e l = λ i. record { left = under_kept b d c p.left e l.0 i; right = under_kept b d c p.right e l.1 i; level = p.level }

map_kept : (b d : Nodes) (c : Closing) (ps : List Numbers) → Extends b d → All (IsPairOf (length b.terms)) ps → map (pair_under d c) ps ≡ map (pair_under b c) ps
map_kept b d c [] e a = refl
map_kept b d c (p ∷ ps) e a = λ i. pair_kept b d c p e (All-head (IsPairOf (length b.terms)) p ps a) i ∷ map_kept b d c ps e (All-tail (IsPairOf (length b.terms)) p ps a) i

pub pairs_kept : (b d : Nodes) (c : Closing) (ps : List Numbers) → Extends b d → All (IsPairOf (length b.terms)) ps → pairs_under d c ps ≡ pairs_under b c ps
pairs_kept b d c ps e a = map_kept b d c (reverse ps) e (All_reverse (IsPairOf (length b.terms)) ps a)

pub still_pairs : (b d : Nodes) (ps : List Numbers) → Extends b d → All (IsPairOf (length b.terms)) ps → All (IsPairOf (length d.terms)) ps
still_pairs b d ps e a = All-weaker (IsPairOf (length b.terms)) (IsPairOf (length d.terms)) (λ p l. (omega (arith, l.0, e.more_terms), omega (arith, l.1, e.more_terms))) ps a

pub unders_kept : (b d : Nodes) (c : Closing) (ids : List TermId) → Extends b d → All (λ t. t.0 < length b.terms) ids → map (under d c) ids ≡ map (under b c) ids
unders_kept b d c [] e a = refl
unders_kept b d c (t ∷ ids) e a =
    λ i. under_kept b d c t e (All-head (λ t. t.0 < length b.terms) t ids a) i ∷ unders_kept b d c ids e (All-tail (λ t. t.0 < length b.terms) t ids a) i

-- the top of the stack
pub pairs_pushed : (b : Nodes) (c : Closing) (ps : List Numbers) (p : Numbers) → pairs_under b c (ps ++ p ∷ []) ≡ pair_under b c p ∷ pairs_under b c ps
pairs_pushed b c ps p = ap (map (pair_under b c)) (reverse-append ps (p ∷ []))

pub pairs_put : (b : Nodes) (c : Closing) (ps qs : List Numbers) → pairs_under b c (ps ++ reverse qs) ≡ map (pair_under b c) qs ++ pairs_under b c ps
pairs_put b c ps qs = ap (map (pair_under b c)) (reverse-append ps (reverse qs) ∙ ap (λ l. l ++ reverse ps) (reverse-reverse qs)) ∙ map-append (pair_under b c) qs (reverse ps)

-- the pairs of arguments
pub arguments_under : (b : Nodes) (c : Closing) (k : ℕ) (ts us : List TermId) → map (pair_under b c) (pairs_of k ts us) ≡ argument_pairs k (map (under b c) ts) (map (under b c) us)
arguments_under b c k [] us = refl
arguments_under b c k (t ∷ ts) [] = refl
arguments_under b c k (t ∷ ts) (u ∷ us) = ap (λ l. record { left = under b c t; right = under b c u; level = k } ∷ l) (arguments_under b c k ts us)

pub arguments_known : (n k : ℕ) (ts us : List TermId) → All (λ t. t.0 < n) ts → All (λ t. t.0 < n) us → All (IsPairOf n) (pairs_of k ts us)
arguments_known n k [] us a e = All-nil (IsPairOf n)
arguments_known n k (t ∷ ts) [] a e = All-nil (IsPairOf n)
arguments_known n k (t ∷ ts) (u ∷ us) a e =
    All-cons (IsPairOf n) (record { left = t; right = u; level = k }) (pairs_of k ts us)
    (All-head (λ t. t.0 < n) t ts a, All-head (λ t. t.0 < n) u us e)
    (arguments_known n k ts us (All-tail (λ t. t.0 < n) t ts a) (All-tail (λ t. t.0 < n) u us e))

pub more_known : (n : ℕ) (ps qs : List Numbers) → All (IsPairOf n) ps → All (IsPairOf n) qs → All (IsPairOf n) (ps ++ reverse qs)
more_known n ps qs a e = All-append (IsPairOf n) ps (reverse qs) a (All_reverse (IsPairOf n) qs e)

-- rigid heads
pub rigid_closed : (c : Closing) (t : Term) → IsRigid t → closed c t ≡ instance_term c.types t
rigid_closed c (index i) h = refl
rigid_closed c (atom (constant k us)) h = refl
rigid_closed c (atom (integer z)) h = refl
rigid_closed c (atom (text bytes)) h = refl
rigid_closed c (atom (eigen k)) h = refl
rigid_closed c (atom (logic x l)) h = absurd h
rigid_closed c (atom (param k u)) h = refl
rigid_closed c (abs b) h = absurd h
rigid_closed c (app t u) h = absurd h

-- the pairs of arguments put behind others
pub pairs_join : (b d : Nodes) (old new : List Numbers) (k : ℕ) (ts us : List TermId) → Extends b d → All (IsPairOf (length b.terms)) old → All (λ t. t.0 < length b.terms) ts →
    All (λ t. t.0 < length b.terms) us → new ≡ old ++ reverse (pairs_of k ts us) → All (IsPairOf (length d.terms)) new
pairs_join b d old new k ts us e a f g q =
    transport (All (IsPairOf (length d.terms))) (sym q)
    (more_known (length d.terms) old (pairs_of k ts us) (still_pairs b d old e a) (arguments_known (length d.terms) k ts us (terms_later b d ts e f) (terms_later b d us e g)))

pub stacked_known : (n : ℕ) (ps old new : List Numbers) → old ≡ [] → new ≡ old ++ reverse ps → All (IsPairOf n) ps → All (IsPairOf n) new
stacked_known n ps old new e q a = transport (All (IsPairOf n)) (sym (q ∙ ap (λ l. l ++ reverse ps) e)) (All_reverse (IsPairOf n) ps a)

-- both sides on an eigenconstant
pub opened_made : (a b d e : Nodes) (c : Closing) (k n : ℕ) (left right on l r : TermId) → n ≡ suc k → Extends a b → Extends b d → Extends d e → left.0 < length a.terms → right.0 < length a.terms →
    on.0 < length b.terms → tree b on.0 ≡ atom (eigen n) → l.0 < length d.terms → tree d l.0 ≡ app (tree b left.0) (tree b on.0) → tree e r.0 ≡ app (tree d right.0) (tree d on.0) →
    pair_under e c (record { left = l; right = r; level = n }) ≡ opened_pair k (under a c left) (under a c right)
opened_made a b d e c k n left right on l r h x y z w v o q m f g =
    let constant : tree b on.0 ≡ atom (eigen (suc k)) = q ∙ ap (λ i. atom (eigen i)) h in
    let one : tree e l.0 ≡ app (tree a left.0) (atom (eigen (suc k))) = z.same_terms l.0 m ∙ f ∙ (λ i. app (x.same_terms left.0 w i) (constant i)) in
    let other : tree e r.0 ≡ app (tree a right.0) (atom (eigen (suc k))) =
    g ∙ (λ i. app (y.same_terms right.0 (omega (arith, v, x.more_terms)) i) (y.same_terms on.0 o i)) ∙ (λ i. app (x.same_terms right.0 v i) (constant i)) in
    λ i. record { left = closed c (one i); right = closed c (other i); level = h i }
