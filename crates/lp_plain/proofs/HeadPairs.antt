-- The equations of types and the pairs of arguments with which a clause is tried.
use Rattle.std.proofs.Common.{◌≡◌, ℕ, ◌+◌, ◌<◌, ◌≤◌, List, [], ◌∷◌, ◌++◌, map, length, drop, get_or, append-nil, append_assoc, refl, sym, ap, ◌∙◌, subst, arith, inl, inr}
use Rattle.std.specs.Prelude.{All, slice_get}
use Rattle.std.proofs.lemmas.List.Elements.{All-head, All-tail, All-get_or, All-weaker}
use mathlib.Core.Path.{fun_ext}
use Rattle.std.proofs.lemmas.List.{drop_all}
use Rattle.lp_lemmas.proofs.Lists.{drop_read}
use Rattle.lp_calculus.specs.Types.{Ty, instance}
use Rattle.lp_calculus.specs.Term.{Term, Atom, index, atom, abs, app, constant, integer, text, eigen, logic, param}
use Rattle.lp_calculus.specs.Instance.{instance_term}
use Rattle.lp_term.specs.Nodes.{Nodes, Extends, tree, type_tree}
use Rattle.lp_term.specs.Spine.{LooseBelow}
use Rattle.lp_term.specs.declared.node.TermId.{TermId}
use Rattle.lp_term.specs.declared.node.TypeId.{TypeId}
use Rattle.lp_term.proofs.Trees.{extends_same, extends-trans}
use Rattle.lp_term.proofs.Within.{type_trees_later}
use Rattle.lp_model.specs.Index.{at, instantiate}
use Rattle.lp_model.specs.Rule.{type_pairs}
use Rattle.lp_model.specs.Types.{zipped}
use Rattle.lp_model.specs.declared.answer.Pair.{Pair as Numbers}
use Rattle.lp_pattern.specs.Reading.{paired, type_pairs_of}
use Rattle.lp_pattern.proofs.Names.{kind}
use Rattle.lp_plain.specs.declared.head.HeadPair.{HeadPair}
use Rattle.lp_plain.specs.declared.types.Renewal.{Renewal}
use Rattle.lp_plain.specs.Heads.{pair_in}
use Rattle.lp_plain.specs.Instances.{AreValues, IsNoParameter}
use Rattle.lp_plain.specs.Renewal.{renewing}
use Rattle.lp_plain.specs.Attempted.{ArePaired, AreWrittenIn, IsPairAdded, IsPairOfHead, becomes, types_of}
use Rattle.lp_plain.specs.Written.{IsWritten}

-- types

map_twice : {A B C : Type 0} (f : B → C) (g : A → B) (xs : List A) → map f (map g xs) ≡ map (λ x. f (g x)) xs
map_twice f g [] = refl
map_twice f g (x ∷ xs) = ap (λ ys. f (g x) ∷ ys) (map_twice f g xs)

zipped_under : (b : Nodes) (θ : ℕ → Ty) (ls rs : List TypeId) → type_pairs_of b θ (paired ls rs) ≡ zipped
    (map (instance θ) (map (λ t. type_tree b t.0) ls)) (map (instance θ) (map (λ t. type_tree b t.0) rs))
zipped_under b θ [] rs = refl
zipped_under b θ (l ∷ ls) [] = refl
zipped_under b θ (l ∷ ls) (r ∷ rs) = ap (λ ps. record { left = instance θ (type_tree b l.0); right = instance θ (type_tree b r.0) } ∷ ps) (zipped_under b θ ls rs)

none_zipped : (ts : List Ty) → zipped ts [] ≡ []
none_zipped [] = refl
none_zipped (t ∷ ts) = refl

constant_zipped : (c : ℕ) (ts : List Ty) (u : Term) → type_pairs (atom (constant c ts)) u ≡ zipped ts (types_of u)
constant_zipped c ts (index i) = sym (none_zipped ts)
constant_zipped c ts (atom (constant d us)) = refl
constant_zipped c ts (atom (integer z)) = sym (none_zipped ts)
constant_zipped c ts (atom (text s)) = sym (none_zipped ts)
constant_zipped c ts (atom (eigen k)) = sym (none_zipped ts)
constant_zipped c ts (atom (logic x l)) = sym (none_zipped ts)
constant_zipped c ts (atom (param k t)) = sym (none_zipped ts)
constant_zipped c ts (abs b) = sym (none_zipped ts)
constant_zipped c ts (app f a) = sym (none_zipped ts)

head_zipped : (θ : ℕ → Ty) (a : Atom) (u : Term) → IsNoParameter a → type_pairs (instance_term θ (atom a)) u ≡ zipped (map (instance θ) (types_of (atom a))) (types_of u)
head_zipped θ (constant c ts) u n = constant_zipped c (map (instance θ) ts) u
head_zipped θ (integer z) u n = refl
head_zipped θ (text s) u n = refl
head_zipped θ (eigen k) u n = refl
head_zipped θ (logic x l) u n = refl
head_zipped θ (param k t) u n = absurd n

types_instance : (θ : ℕ → Ty) (t : Term) → types_of (instance_term θ t) ≡ map (instance θ) (types_of t)
types_instance θ (index i) = refl
types_instance θ (atom (constant c ts)) = refl
types_instance θ (atom (integer z)) = refl
types_instance θ (atom (text s)) = refl
types_instance θ (atom (eigen k)) = refl
types_instance θ (atom (logic x l)) = refl
types_instance θ (atom (param k t)) = refl
types_instance θ (abs b) = refl
types_instance θ (app f a) = refl

pub constant_types : (b : Nodes) (c : ℕ) (ids : List TypeId) (t : Term) → atom (constant c (map (λ i. type_tree b i) (map (λ i. i.0) ids))) ≡ t → map (λ i. type_tree b i.0) ids ≡ types_of t
constant_types b c ids t e = sym (map_twice (type_tree b) (λ i. i.0) ids) ∙ ap types_of e

pub no_types_of : (t : Term) → (kind t ≡ 1 → ⊥) → [] ≡ types_of t
no_types_of (index i) n = refl
no_types_of (atom (constant c ts)) n = absurd (n refl)
no_types_of (atom (integer z)) n = refl
no_types_of (atom (text s)) n = refl
no_types_of (atom (eigen k)) n = refl
no_types_of (atom (logic x l)) n = refl
no_types_of (atom (param k t)) n = refl
no_types_of (abs b) n = refl
no_types_of (app f a) n = refl

pub types_met : (b d e : Nodes) (θ : ℕ → Ty) (r : Renewal) (goal clause : Term) (a : Atom) (ls olds rs : List TypeId) (pairs : List (TypeId × TypeId))
    → Extends b d → Extends d e → All (λ t. t.0 < length b.types) ls → map (λ t. type_tree b t.0) ls ≡ types_of goal →
    map (λ t. type_tree b t.0) olds ≡ types_of clause → All (λ t. t.0 < length d.types) rs → map (λ t. type_tree d t.0) rs ≡ map
    (λ t. instance (renewing r) (type_tree b t.0)) olds → pairs ≡ paired ls rs → goal ≡ atom a → IsNoParameter a →
    type_pairs_of e θ pairs ≡ type_pairs (instance_term θ goal) (instance_term θ (instance_term (renewing r) clause))
types_met b d e θ r goal clause a ls olds rs pairs E F w l o v n q g p =
    let left : map (λ t. type_tree e t.0) ls ≡ types_of (atom a) = type_trees_later b e ls (extends-trans b d e E F) w ∙ l ∙ ap types_of g in
    let right : map (λ t. type_tree e t.0) rs ≡ map (instance (renewing r)) (types_of clause) =
    type_trees_later d e rs F v ∙ n ∙ sym (map_twice (instance (renewing r)) (λ t. type_tree b t.0) olds) ∙ ap (map (instance (renewing r))) o in
    let twice : map (instance θ) (map (instance (renewing r)) (types_of clause)) ≡ types_of (instance_term θ (instance_term (renewing r) clause)) =
    sym (types_instance θ (instance_term (renewing r) clause) ∙ ap (map (instance θ)) (types_instance (renewing r) clause)) in
    ap (type_pairs_of e θ) q ∙ zipped_under e θ ls rs ∙ (λ i. zipped (map (instance θ) (left i)) (map (instance θ) (right i))) ∙ ap (zipped (map (instance θ) (types_of (atom a)))) twice ∙
    sym (head_zipped θ a (instance_term θ (instance_term (renewing r) clause)) p) ∙ ap (λ t. type_pairs (instance_term θ t) (instance_term θ (instance_term (renewing r) clause))) (sym g)

-- pairs

pub pair_later : (b d : Nodes) (args : List TermId) (l : ℕ) (f g : Term → Term) (p p' : ℕ × Term) (q : Numbers) → Extends b d → p ≡ p' →
    ((t : Term) → f t ≡ g t) → IsPairOfHead b args l f p q → IsPairOfHead d args l g p' q
pair_later b d args l f g p p' q E e h w = record {
  left = ap (λ x. slice_get args x.0) (sym e) ∙ w.left;
  stands = w.stands;
  within = let m = E.more_terms in let k = w.within in omega (arith, m, k);
  right = E.same_terms q.right.0 w.within ∙ w.right ∙ h p.1 ∙ ap (λ x. g x.1) e;
}

trees_same : (b d : Nodes) (vs : List TermId) → Extends b d → AreValues b vs → map (λ t. tree d t.0) vs ≡ map (λ t. tree b t.0) vs
trees_same b d [] E a = refl
trees_same b d (v ∷ vs) E a =
    let p = E.same_terms v.0 (All-head (λ (t : TermId). (t.0 < length b.terms) × LooseBelow 0 0 (tree b t.0)) v vs a).0 in
    let q = trees_same b d vs E (All-tail (λ (t : TermId). (t.0 < length b.terms) × LooseBelow 0 0 (tree b t.0)) v vs a) in
    λ i. p i ∷ q i

becomes_later : (b d : Nodes) (vs : List TermId) (r : Renewal) (t : Term) → Extends b d → AreValues b vs → becomes d vs r t ≡ becomes b vs r t
becomes_later b d vs r t E a = ap (λ us. instantiate (at us) (instance_term (renewing r) t)) (trees_same b d vs E a)

-- what is known of all pairs that are left gives what is known of all, in each later bank
abbrev pub IsPairedOn : Nodes → List TermId → (level : ℕ) → (Term → Term) → (left all : List (ℕ × Term)) → List Numbers → Type 0
IsPairedOn b args l f left all made = (d : Nodes) → Extends b d → (rest : List Numbers) → ArePaired d args l f left rest → ArePaired d args l f all (made ++ rest)

pair_added : (b c : Nodes) (args : List TermId) (l : ℕ) (f g : Term → Term) (p p' : ℕ × Term) (left all : List (ℕ × Term)) (made made' : List Numbers)
    → Extends b c → p ≡ p' → ((t : Term) → f t ≡ g t) → IsPairAdded c args l f p made made' →
    IsPairedOn b args l g (p' ∷ left) all made → IsPairedOn c args l g left all made'
pair_added b c args l f g p p' left all made made' E e h (inl (n, q)) w = λ d F rest k.
    subst (λ xs. ArePaired d args l g all (xs ++ rest)) (sym q) (w d (extends-trans b c d E F) rest (inl (ap (λ x. slice_get args x.0) (sym e) ∙ n, k)))
pair_added b c args l f g p p' left all made made' E e h (inr (x, q, y)) w = λ d F rest k.
    subst (λ xs. ArePaired d args l g all (xs ++ rest)) (sym q)
    (subst (ArePaired d args l g all) (sym (append_assoc made (x ∷ []) rest)) (w d (extends-trans b c d E F) (x ∷ rest) (inr (x, rest, refl, pair_later c d args l f g p p' x F e h y, k))))

head_later : (b d : Nodes) (h : HeadPair) → Extends b d → h.term.0 < length b.terms → pair_in d h ≡ pair_in b h
head_later b d h E l = ap (λ t. (h.place, t)) (E.same_terms h.term.0 l)

heads_read : (b : Nodes) (heads : List HeadPair) (i : ℕ) (h : HeadPair) → i < length heads → h ≡ get_or heads i h → map (pair_in b) (drop i heads) ≡ pair_in b h ∷ map (pair_in b) (drop (i + 1) heads)
heads_read b heads i h l e = ap (map (pair_in b)) (drop_read heads i h l e)

-- the head's argument of this number
pub place_added : (a b c : Nodes) (args : List TermId) (l : ℕ) (vs : List TermId) (r : Renewal) (heads : List HeadPair) (ar : ℕ → ℕ) (k i : ℕ)
    (h : HeadPair) (made made' : List Numbers) → Extends a b → Extends b c → AreValues a vs → AreWrittenIn a ar k (length vs) heads →
    i < length heads → h ≡ get_or heads i h → (IsWritten ar k (length vs) (tree b h.term.0) → IsPairAdded c args l (becomes b vs r) (pair_in b h) made made') →
    IsPairedOn b args l (becomes a vs r) (map (pair_in a) (drop i heads)) (map (pair_in a) heads) made → IsPairedOn c args l (becomes a vs r)
    (map (pair_in a) (drop (i + 1) heads)) (map (pair_in a) heads) made'
place_added a b c args l vs r heads ar k i h made made' E F v w m e f g =
    let x : (h.term.0 < length a.terms) × IsWritten ar k (length vs) (tree a h.term.0) =
    subst (λ p. (p.term.0 < length a.terms) × IsWritten ar k (length vs) (tree a p.term.0)) (sym e)
    (All-get_or (λ (p : HeadPair). (p.term.0 < length a.terms) × IsWritten ar k (length vs) (tree a p.term.0)) heads i h m w) in
    pair_added b c args l (becomes b vs r) (becomes a vs r) (pair_in b h) (pair_in a h) (map (pair_in a) (drop (i + 1) heads)) (map (pair_in a) heads)
    made made' F (head_later a b h E x.0) (λ t. becomes_later a b vs r t E v)
    (f (subst (IsWritten ar k (length vs)) (sym (E.same_terms h.term.0 x.0)) x.1)) (subst (λ ps. IsPairedOn b args l (becomes a vs r) ps (map (pair_in a) heads) made) (heads_read a heads i h m e) g)

pub nothing_paired : (b : Nodes) (args : List TermId) (l : ℕ) (f : Term → Term) (all : List (ℕ × Term)) (made : List Numbers) → made ≡ [] → IsPairedOn b args l f all all made
nothing_paired b args l f all made e = λ d E rest h. subst (λ xs. ArePaired d args l f all (xs ++ rest)) (sym e) h

pub all_paired : (a b : Nodes) (args : List TermId) (l : ℕ) (f : Term → Term) (heads : List HeadPair) (i : ℕ) (made : List Numbers) → length heads ≤ i
    → IsPairedOn b args l f (map (pair_in a) (drop i heads)) (map (pair_in a) heads) made → ArePaired b args l f (map (pair_in a) heads) made
all_paired a b args l f heads i made m g = subst (ArePaired b args l f (map (pair_in a) heads)) (append-nil made)
    (g b (extends_same b) [] (subst (λ hs. ArePaired b args l f (map (pair_in a) hs) []) (sym (drop_all i heads m)) refl))

-- pairs that were made in a later bank
pub heads_later : (b d : Nodes) (ar : ℕ → ℕ) (k n : ℕ) (heads : List HeadPair) → Extends b d → AreWrittenIn b ar k n heads → map (pair_in d) heads ≡ map (pair_in b) heads
heads_later b d ar k n [] E w = refl
heads_later b d ar k n (h ∷ hs) E w =
    let p = head_later b d h E (All-head (λ (p : HeadPair). (p.term.0 < length b.terms) × IsWritten ar k n (tree b p.term.0)) h hs w).0 in
    let q = heads_later b d ar k n hs E (All-tail (λ (p : HeadPair). (p.term.0 < length b.terms) × IsWritten ar k n (tree b p.term.0)) h hs w) in
    λ i. p i ∷ q i

pub written_later : (b d : Nodes) (ar : ℕ → ℕ) (k n : ℕ) (heads : List HeadPair) → Extends b d → AreWrittenIn b ar k n heads → AreWrittenIn d ar k n heads
written_later b d ar k n heads E w =
    All-weaker (λ (p : HeadPair). (p.term.0 < length b.terms) × IsWritten ar k n (tree b p.term.0)) (λ (p : HeadPair). (p.term.0 < length d.terms) × IsWritten ar k n (tree d p.term.0))
    (λ p h. ((let m = E.more_terms in let l = h.0 in omega (arith, l, m)), subst (IsWritten ar k n) (sym (E.same_terms p.term.0 h.0)) h.1)) heads w

pub paired_from : (b c d : Nodes) (args : List TermId) (l : ℕ) (vs : List TermId) (r : Renewal) (heads : List HeadPair) (ar : ℕ → ℕ) (k : ℕ)
    (made : List Numbers) → Extends b c → AreValues b vs → AreWrittenIn b ar k (length vs) heads →
    (AreWrittenIn c ar k (length vs) heads → ArePaired d args l (becomes c vs r) (map (pair_in c) heads) made) → ArePaired d args l (becomes b vs r) (map (pair_in b) heads) made
paired_from b c d args l vs r heads ar k made E v w f =
    subst (λ g. ArePaired d args l g (map (pair_in b) heads) made) (fun_ext (λ t. becomes_later b c vs r t E v))
    (subst (λ ps. ArePaired d args l (becomes c vs r) ps made) (heads_later b c ar k (length vs) heads E w) (f (written_later b c ar k (length vs) heads E w)))
