-- Lists of terms that grow one by one.
use Rattle.std.proofs.Common.{◌≡◌, ℕ, zero, suc, ◌+◌, ◌-◌, ◌<◌, ◌≤◌, List, [], ◌∷◌, ◌++◌, map, drop, get_or, length, ◌∙◌, refl, sym, ap, subst as transport, arith, Bool, true, false, nat_eq, if◌then◌else◌, append_assoc}
use Rattle.std.specs.Prelude.{All, nat_le}
use Rattle.std.proofs.lemmas.List.{map-append, append-nil, drop_more}
use Rattle.std.proofs.lemmas.List.Elements.{All-nil, All-push, All-weaker, All-head, All-tail}
use Rattle.std.proofs.lemmas.Bool.Decides.{nat_tests}
use Rattle.lp_calculus.specs.Term.{Term, index, atom, eigen}
use Rattle.lp_term.specs.Nodes.{Nodes, Extends, tree}
use Rattle.lp_term.specs.declared.node.TermId.{TermId}
use Rattle.lp_model.specs.Patterns.{eigens, chosen}
use Rattle.lp_model.specs.Scan.{Side, allows}
use Rattle.lp_pattern.specs.Scanning.{AreTerms, Pushes, one_if, low_eigens, allowed_places, agreeing_places}

trees_stay : (b d : Nodes) (ids : List TermId) → Extends b d → All (λ x. x.0 < length b.terms) ids → map (λ x. tree d x.0) ids ≡ map (λ x. tree b x.0) ids
trees_stay b d [] e a = refl
trees_stay b d (t ∷ ids) e a = λ i. e.same_terms t.0 (All-head (λ x. x.0 < length b.terms) t ids a) i ∷ trees_stay b d ids e (All-tail (λ x. x.0 < length b.terms) t ids a) i

pub terms_stay : (b d : Nodes) (ids : List TermId) (ts : List Term) → Extends b d → AreTerms b ids ts → AreTerms d ids ts
terms_stay b d ids ts e a = record {
  known = All-weaker (λ x. x.0 < length b.terms) (λ x. x.0 < length d.terms) (λ x l. omega (arith, l, e.more_terms)) ids a.known;
  trees = trees_stay b d ids e a.known ∙ a.trees;
}

-- one more, or none
pub one_more : (b d : Nodes) (old new : List TermId) (id : TermId) (t : Bool) (x : Term) → t ≡ true → Extends b d → id.0 < length d.terms → tree d id.0 ≡ x → new ≡ old ++ id ∷ [] → Pushes b d old new (one_if t x)
one_more b d old new id t x s e l q n = λ us a.
    transport (λ z. AreTerms d new (us ++ one_if z x)) (sym s)
    (let k = terms_stay b d old us e a in record {
      known = transport (All (λ y. y.0 < length d.terms)) (sym n) (All-push (λ y. y.0 < length d.terms) old id k.known l);
      trees = ap (map (λ y. tree d y.0)) n ∙ map-append (λ y. tree d y.0) old (id ∷ []) ∙ (λ i. k.trees i ++ q i ∷ []);
    })

pub none_more : (b : Nodes) (old : List TermId) (t : Bool) (x : Term) → t ≡ false → Pushes b b old old (one_if t x)
none_more b old t x s = λ us a. transport (λ z. AreTerms b old (us ++ one_if z x)) (sym s) (transport (AreTerms b old) (sym (append-nil us)) a)

-- the next one of a list
low_next : (level k : ℕ) (ks : List ℕ) → low_eigens level ks ++ one_if (nat_le k level) (atom (eigen k)) ≡ low_eigens level (ks ++ k ∷ [])
low_next level k [] = go (nat_le k level)
  where
    go : (b : Bool) → one_if b (atom (eigen k)) ≡ eigens (if b then k ∷ [] else [])
    go true = refl
    go false = refl
low_next level k (j ∷ ks) = go (nat_le j level) (low_next level k ks)
  where
    go : (b : Bool) → low_eigens level ks ++ one_if (nat_le k level) (atom (eigen k)) ≡ low_eigens level (ks ++ k ∷ []) →
        eigens (if b then j ∷ chosen (λ k. nat_le k level) ks else chosen (λ k. nat_le k level) ks) ++ one_if (nat_le k level) (atom (eigen k)) ≡
        eigens (if b then j ∷ chosen (λ k. nat_le k level) (ks ++ k ∷ []) else chosen (λ k. nat_le k level) (ks ++ k ∷ []))
    go true ih = ap (λ l. atom (eigen j) ∷ l) ih
    go false ih = ih

pub low_pushed : (b d : Nodes) (old new : List TermId) (level k : ℕ) (ks : List ℕ) → Pushes b d old new (one_if (nat_le k level) (atom (eigen k))) → AreTerms b old (low_eigens level ks) → AreTerms d new (low_eigens level (ks ++ k ∷ []))
low_pushed b d old new level k ks p a = transport (AreTerms d new) (low_next level k ks) (p (low_eigens level ks) a)

places_next : (s : Side) (n left : ℕ) (k : ℕ) (ks : List ℕ) → suc left ≡ n - length ks → allowed_places s n ks ++ one_if (allows s k) (index left) ≡ allowed_places s n (ks ++ k ∷ [])
places_next s n left k [] e = go (allows s k)
  where
    here : left ≡ n - 1
    here = omega (arith, e)

    go : (b : Bool) → one_if b (index left) ≡ (if b then index (n - 1) ∷ [] else [])
    go true = ap (λ i. index i ∷ []) here
    go false = refl
places_next s n left k (j ∷ ks) e = go (allows s j) (places_next s (n - 1) left k ks (omega (arith, e)))
  where
    go : (b : Bool) → allowed_places s (n - 1) ks ++ one_if (allows s k) (index left) ≡ allowed_places s (n - 1) (ks ++ k ∷ []) →
        (if b then index (n - 1) ∷ allowed_places s (n - 1) ks else allowed_places s (n - 1) ks) ++ one_if (allows s k) (index left) ≡
        (if b then index (n - 1) ∷ allowed_places s (n - 1) (ks ++ k ∷ []) else allowed_places s (n - 1) (ks ++ k ∷ []))
    go true ih = ap (λ l. index (n - 1) ∷ l) ih
    go false ih = ih

pub places_pushed : (b d : Nodes) (old new : List TermId) (s : Side) (n left k : ℕ) (ts : List Term) (ks : List ℕ) → suc left ≡ n - length ks → Pushes b d old new (one_if (allows s k) (index left)) →
    AreTerms b old (ts ++ allowed_places s n ks) → AreTerms d new (ts ++ allowed_places s n (ks ++ k ∷ []))
places_pushed b d old new s n left k ts ks e p a =
    transport (AreTerms d new) (append_assoc ts (allowed_places s n ks) (one_if (allows s k) (index left)) ∙ ap (λ l. ts ++ l) (places_next s n left k ks e)) (p (ts ++ allowed_places s n ks) a)

-- the places up to one, and those behind it
abbrev pub Agreed : Nodes → List TermId → (ones others : List ℕ) → (place : ℕ) → Type 0
Agreed b items ones others place =
    (ts : List Term) × AreTerms b items ts × (ts ++ agreeing_places (length ones - place) (drop place ones) (drop place others) ≡ agreeing_places (length ones) ones others)

no_terms : (b : Nodes) (items : List TermId) → items ≡ [] → AreTerms b items []
no_terms b items e = transport (λ l. AreTerms b l []) (sym e) (record { known = All-nil (λ x. x.0 < length b.terms); trees = refl })

pub agreed_start : (b : Nodes) (items : List TermId) (ones others : List ℕ) → items ≡ [] → Agreed b items ones others 0
agreed_start b items ones others e = ([], no_terms b items e, (let q : length ones - 0 ≡ length ones = omega arith in ap (λ n. agreeing_places n ones others) q))

one_place : (m a b : ℕ) (is bs : List ℕ) → one_if (nat_eq a b) (index (m - 1)) ++ agreeing_places (m - 1) is bs ≡ agreeing_places m (a ∷ is) (b ∷ bs)
one_place m a b is bs = go (nat_eq a b)
  where
    go : (t : Bool) → one_if t (index (m - 1)) ++ agreeing_places (m - 1) is bs ≡ (if t then index (m - 1) ∷ agreeing_places (m - 1) is bs else agreeing_places (m - 1) is bs)
    go true = refl
    go false = refl

pub agreed_next : (b d : Nodes) (old new : List TermId) (ones others : List ℕ) (place left x y : ℕ) → place < length ones → place < length others → left ≡ length ones - 1 - place →
    Pushes b d old new (one_if (nat_eq (get_or ones place x) (get_or others place y)) (index left)) → Agreed b old ones others place → Agreed d new ones others (place + 1)
agreed_next b d old new ones others place left x y l m q p a =
    let n = length ones - place in
    let i : left ≡ n - 1 = omega (arith, q, l) in
    let j : length ones - (place + 1) ≡ n - 1 = omega (arith, l) in
    let t = one_if (nat_eq (get_or ones place x) (get_or others place y)) (index left) in (
      a.0 ++ t,
      p a.0 a.1,
      append_assoc a.0 t (agreeing_places (length ones - (place + 1)) (drop (place + 1) ones) (drop (place + 1) others)) ∙
          ap (λ l. a.0 ++ l)
          ((λ z. one_if (nat_eq (get_or ones place x) (get_or others place y)) (index (i z)) ++ agreeing_places (j z) (drop (place + 1) ones) (drop (place + 1) others)) ∙
          one_place n (get_or ones place x) (get_or others place y) (drop (place + 1) ones) (drop (place + 1) others) ∙
          (λ z. agreeing_places n (sym (drop_more ones place x l) z) (sym (drop_more others place y m) z))) ∙
          a.2,
    )

drop_all : {A : Type 0} (n : ℕ) (xs : List A) → length xs ≤ n → drop n xs ≡ []
drop_all zero [] l = refl
drop_all zero (x ∷ xs) l = absurd (omega (arith, l))
drop_all (suc n) [] l = refl
drop_all (suc n) (x ∷ xs) l = drop_all n xs (omega (arith, l))

none_behind : (n : ℕ) (is : List ℕ) → agreeing_places n is [] ≡ []
none_behind n [] = refl
none_behind n (a ∷ is) = refl

agreed_end : (b : Nodes) (items : List TermId) (ones others : List ℕ) (place : ℕ) → agreeing_places (length ones - place) (drop place ones) (drop place others) ≡ [] → Agreed b items ones others place →
    AreTerms b items (agreeing_places (length ones) ones others)
agreed_end b items ones others place e a = transport (AreTerms b items) (sym (append-nil a.0) ∙ ap (λ l. a.0 ++ l) (sym e) ∙ a.2) a.1

pub agreed_all : (b : Nodes) (items : List TermId) (ones others : List ℕ) (place : ℕ) → length ones ≤ place → Agreed b items ones others place → AreTerms b items (agreeing_places (length ones) ones others)
agreed_all b items ones others place l a = agreed_end b items ones others place (ap (λ is. agreeing_places (length ones - place) is (drop place others)) (drop_all place ones l)) a

pub agreed_short : (b : Nodes) (items : List TermId) (ones others : List ℕ) (place : ℕ) → length others ≤ place → Agreed b items ones others place → AreTerms b items (agreeing_places (length ones) ones others)
agreed_short b items ones others place l a =
    agreed_end b items ones others place (ap (agreeing_places (length ones - place) (drop place ones)) (drop_all place others l) ∙ none_behind (length ones - place) (drop place ones)) a

pub low_test : (k level : ℕ) → k ≤ level → nat_le k level ≡ true
low_test k level l = grind (arith, nat_tests)
