-- A chain that ends passes no number twice, so it is no longer than the list of its links.
use Rattle.std.proofs.Common.{◌≡◌, ℕ, zero, suc, ◌+◌, ◌<◌, ◌≤◌, List, [], ◌∷◌, map, length, get_or, Option, Some, None, refl, sym, ap, ◌∙◌, subst, arith}
use Rattle.std.specs.Prelude.{slice_get, filter}
use Rattle.std.proofs.lemmas.List.{length-map}
use Rattle.indexmap.proofs.IndexTableLemmas.Probe.{pigeonhole}
use Rattle.lp_term.specs.Nodes.{Nodes}
use Rattle.lp_plain.specs.declared.head.Key.{Key}
use Rattle.lp_plain.specs.declared.table.Rule.{Rule}
use Rattle.lp_plain.specs.Candidates.{IsChain, IsLeft, ahead, nexts, passes}
use Rattle.lp_plain.proofs.Indexes.{left_none}
use Rattle.lp_plain.proofs.OrderedLinks.{kept_length, link_at}

-- from one place on there is one chain
one_length : (links : List (Option ℕ)) (o : Option ℕ) (ks js : List ℕ) → IsChain links o ks → IsChain links o js → length ks ≡ length js
one_length links o [] [] c d = refl
one_length links o [] (j ∷ js) c d = let a : None ≡ Some j = sym c ∙ d.1 in absurd (cc)
one_length links o (k ∷ ks) [] c d = let a : None ≡ Some k = sym d ∙ c.1 in absurd (cc)
one_length links o (k ∷ ks) (j ∷ js) c d =
    let a : k ≡ j = (let q : Some k ≡ Some j = sym c.1 ∙ d.1 in cc) in
    let b : c.0 ≡ d.0 = (let q : Some c.0 ≡ Some d.0 = sym c.2 ∙ ap (slice_get links) a ∙ d.2 in cc) in
    ap suc (one_length links d.0 ks js (subst (λ z. IsChain links z ks) b c.3) d.3)

-- the chain from the number at a place on
from_place : (links : List (Option ℕ)) (o : Option ℕ) (ks : List ℕ) (i : ℕ) → IsChain links o ks → i < length ks →
    (rest : List ℕ) × IsChain links (Some (get_or ks i 0)) rest × (length rest + i ≡ length ks)
from_place links o [] i c l = absurd (omega (arith, l))
from_place links o (k ∷ ks) zero c l = (k ∷ ks, subst (λ z. IsChain links z (k ∷ ks)) c.1 c, omega arith)
from_place links o (k ∷ ks) (suc i) c l =
    let r = from_place links c.0 ks i c.3 (omega (arith, l)) in
    let e = r.2 in
    (r.0, r.1, omega (arith, e))

link_within : (links : List (Option ℕ)) (i : ℕ) (o : Option ℕ) → slice_get links i ≡ Some o → i < length links
link_within [] i o e = absurd (cc)
link_within (x ∷ links) zero o e = omega arith
link_within (x ∷ links) (suc i) o e = let l = link_within links i o e in omega (arith, l)

first_within : (links : List (Option ℕ)) (k : ℕ) (ks : List ℕ) → IsChain links (Some k) ks → k < length links
first_within links k [] c = absurd (cc)
first_within links k (j ∷ ks) c = let a : k ≡ j = (let q : Some k ≡ Some j = c.1 in cc) in let l = link_within links j c.0 c.2 in omega (arith, a, l)

pub no_longer : (links : List (Option ℕ)) (o : Option ℕ) (ks : List ℕ) → IsChain links o ks → length ks ≤ length links
no_longer links o ks c = pigeonhole (length ks) (length links) (λ i. get_or ks i 0)
    (λ i l. let r = from_place links o ks i c l in first_within links (get_or ks i 0) r.0 r.1)
    (λ i j p q e.
    let r = from_place links o ks i c p in
    let s = from_place links o ks j c q in
    let same = one_length links (Some (get_or ks i 0)) r.0 s.0 r.1 (subst (λ z. IsChain links (Some z) s.0) (sym e) s.1) in
    let x = r.2 in
    let y = s.2 in
    omega (arith, same, x, y))

-- a clause of the chain is passed
pub one_passed : (rules : List Rule) (o : Option ℕ) (i : ℕ) (r : Rule) (ks js : List ℕ) → o ≡ Some i → slice_get rules i ≡ Some r → IsChain (nexts rules) o ks → IsChain (nexts rules) (ahead i r.next) js → length ks ≡ suc (length js)
one_passed rules o i r ks js e s c d =
    one_length (nexts rules) o ks (i ∷ js) c (ahead i r.next, e, link_at ahead (λ (x : Rule). x.next) rules i r s, d)

-- all were passed
pub all_passed : (b : Nodes) (rules : List Rule) (k : Option Key) (from o : Option ℕ) (js ks : List ℕ) (passed : ℕ) → IsChain (nexts rules) from js → IsChain (nexts rules) o ks → length ks + passed ≡ length js → length rules ≤ passed →
    filter (passes b rules k) js ≡ filter (passes b rules k) ks → IsLeft b rules k None (filter (passes b rules k) js)
all_passed b rules k from o js [] passed c d n l f = left_none b rules k o js [] d d f
all_passed b rules k from o js (i ∷ ks) passed c d n l f =
    absurd (let x = no_longer (nexts rules) from js c in let y = kept_length ahead (map (λ (r : Rule). r.next) rules) ∙ length-map rules (λ (r : Rule). r.next) in omega (arith, x, y, n, l))
