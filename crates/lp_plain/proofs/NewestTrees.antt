-- A tree with a new node for a head, and copies of the nodes on the way to it, finds the new assumption for this head, and for each other head what the old tree finds.
use Rattle.std.proofs.Common.{◌≡◌, ℕ, zero, suc, ◌<◌, ◌≤◌, ◌/◌, List, [], ◌∷◌, ◌++◌, reverse, length, Option, Some, None, refl, sym, ap, ◌∙◌, subst, arith, inl, inr}
use Rattle.std.proofs.lemmas.List.{length-append, reverse-append}
use Rattle.std.specs.Prelude.{Bool, true, false, slice_get, ◌⊎◌}
use Rattle.lp_pattern.specs.Growing.{GoesOn}
use Rattle.lp_pattern.proofs.Keeps.{goes_on_then}
use Rattle.lp_plain.specs.declared.head.Head.{Head}
use Rattle.lp_plain.specs.declared.newest.Newest.{Newest}
use Rattle.lp_plain.specs.declared.newest.Step.{Step}
use Rattle.lp_plain.specs.Scopes.{blocks_to}
use Rattle.lp_plain.specs.Newest.{code_of, is_odd, child_of, set_child, node_of, Finds, nothing, here, further, IsWith, Comes, begins, goes_down, IsEnd, IsWay, IsBuilt}

get_front : {X : Type 0} (xs ys : List X) (i : ℕ) (x : X) → slice_get xs i ≡ Some x → slice_get (xs ++ ys) i ≡ Some x
get_front [] ys i x e = absurd (cc)
get_front (y ∷ xs) ys zero x e = e
get_front (y ∷ xs) ys (suc i) x e = get_front xs ys i x e

get_within : {X : Type 0} (xs : List X) (i : ℕ) (x : X) → slice_get xs i ≡ Some x → i < length xs
get_within [] i x e = absurd (cc)
get_within (y ∷ xs) zero x e = omega arith
get_within (y ∷ xs) (suc i) x e = let l = get_within xs i x e in omega (arith, l)

get_last : {X : Type 0} (xs : List X) (x : X) → slice_get (xs ++ x ∷ []) (length xs) ≡ Some x
get_last [] x = refl
get_last (y ∷ xs) x = get_last xs x

-- what was found is found in a longer list
pub finds_on : (old new : List Newest) (head : Head) {o : Option ℕ} {bits : ℕ} {f : Option ℕ} → GoesOn old new → Finds old head o bits f → Finds new head o bits f
finds_on old new head g (nothing e k) = nothing e k
finds_on old new head g (here i n e s h k) = here i n e (subst (λ z. slice_get z i ≡ Some n) (sym g.1) (get_front old g.0 i n s)) h k
finds_on old new head g (further i n e s h d r) = further i n e (subst (λ z. slice_get z i ≡ Some n) (sym g.1) (get_front old g.0 i n s)) h d (finds_on old new head g r)

goes_on_last : {A : Type 0} (xs ys zs : List A) (x : A) → GoesOn xs ys → zs ≡ ys ++ x ∷ [] → GoesOn xs zs
goes_on_last xs ys zs x g e = goes_on_then xs ys zs g (x ∷ [], e)

-- what a node says of what is found

pub found_none : (nodes : List Newest) (head : Head) {o : Option ℕ} {bits : ℕ} {found : Option ℕ} → Finds nodes head o bits found → o ≡ None → found ≡ None
found_none nodes head (nothing e k) q = k
found_none nodes head (here i n e s h k) q = let a : Some i ≡ None = sym e ∙ q in absurd (cc)
found_none nodes head (further i n e s h d r) q = let a : Some i ≡ None = sym e ∙ q in absurd (cc)

pub found_outside : (nodes : List Newest) (head : Head) {o : Option ℕ} {bits : ℕ} {found : Option ℕ} → Finds nodes head o bits found → (i : ℕ) → o ≡ Some i → slice_get nodes i ≡ None → ⊥
found_outside nodes head (nothing e k) i q g = let a : None ≡ Some i = sym e ∙ q in cc
found_outside nodes head (here j n e s h k) i q g =
    let a : j ≡ i = (let z : Some j ≡ Some i = sym e ∙ q in cc) in
    let z : Some n ≡ None = sym s ∙ ap (slice_get nodes) a ∙ g in
    cc
found_outside nodes head (further j n e s h d r) i q g =
    let a : j ≡ i = (let z : Some j ≡ Some i = sym e ∙ q in cc) in
    let z : Some n ≡ None = sym s ∙ ap (slice_get nodes) a ∙ g in
    cc

-- the node at a number is one
one_node : (nodes : List Newest) (o : Option ℕ) (i j : ℕ) (n m : Newest) → o ≡ Some i → slice_get nodes i ≡ Some n → o ≡ Some j → slice_get nodes j ≡ Some m → n ≡ m
one_node nodes o i j n m e s q g =
    let a : i ≡ j = (let z : Some i ≡ Some j = sym e ∙ q in cc) in
    let z : Some n ≡ Some m = sym s ∙ ap (slice_get nodes) a ∙ g in
    cc

pub found_here : (nodes : List Newest) (head : Head) {o : Option ℕ} {bits : ℕ} {found : Option ℕ} → Finds nodes head o bits found → (i : ℕ) (n : Newest) → o ≡ Some i → slice_get nodes i ≡ Some n → n.head ≡ head → Some n.number ≡ found
found_here nodes head (nothing e k) i n q g h = let a : None ≡ Some i = sym e ∙ q in absurd (cc)
found_here nodes head {o = o} (here j m e s w k) i n q g h = ap (λ (z : Newest). Some z.number) (one_node nodes o i j n m q g e s) ∙ sym k
found_here nodes head {o = o} (further j m e s w d r) i n q g h = absurd (w (ap (λ (z : Newest). z.head) (one_node nodes o j i m n e s q g) ∙ h))

pub found_below : (nodes : List Newest) (head : Head) {o : Option ℕ} {bits : ℕ} {found : Option ℕ} → Finds nodes head o bits found → (i : ℕ) (n : Newest) (p q : Option ℕ) (d : Bool) → o ≡ Some i → slice_get nodes i ≡ Some n → (n.head ≡ head → ⊥) →
    d ≡ is_odd bits → p ≡ child_of n d → (blocks_to p ≤ i → q ≡ p) → Finds nodes head q (bits / 2) found
found_below nodes head (nothing e k) i n p q d z g h b c l = let a : None ≡ Some i = sym e ∙ z in absurd (cc)
found_below nodes head {o = o} (here j m e s w k) i n p q d z g h b c l = absurd (h (ap (λ (x : Newest). x.head) (one_node nodes o i j n m z g e s) ∙ w))
found_below nodes head {o = o} {bits = bits} {found = found} (further j m e s w below r) i n p q d z g h b c l =
    let same : m ≡ n = one_node nodes o j i m n e s z g in
    let at : j ≡ i = (let y : Some j ≡ Some i = sym e ∙ z in cc) in
    let child : p ≡ child_of m (is_odd bits) = c ∙ ap (child_of n) b ∙ ap (λ x. child_of x (is_odd bits)) (sym same) in
    let older : blocks_to p ≤ i = (let t : blocks_to p ≡ blocks_to (child_of m (is_odd bits)) = ap blocks_to child in omega (arith, t, below, at)) in
    subst (λ x. Finds nodes head x (bits / 2) found) (sym (l older ∙ child)) r

-- a number that is older is less
pub goes_down_to : (o p : Option ℕ) (i : ℕ) → o ≡ Some i → blocks_to p ≤ i → blocks_to p < blocks_to o
goes_down_to o p i e l = let t : blocks_to o ≡ suc i = ap blocks_to e in omega (arith, l, t)

-- the way to a node

reverse_push : {X : Type 0} (all xs : List X) (x : X) → all ≡ xs ++ x ∷ [] → reverse all ≡ x ∷ reverse xs
reverse_push all xs x e = subst (λ z. reverse z ≡ x ∷ reverse xs) (sym e) (reverse-append xs (x ∷ []))

pub way_begins : (nodes : List Newest) (head : Head) (tree : Option ℕ) (bits : ℕ) → bits ≡ code_of head → Comes nodes head tree [] tree bits
way_begins nodes head tree bits e = begins refl refl e

pub way_further : (nodes : List Newest) (head : Head) (tree o p q : Option ℕ) (bits left i : ℕ) (steps more : List Step) (s : Step) → Comes nodes head tree (reverse steps) o bits → o ≡ Some i → slice_get nodes i ≡ Some s.node → (s.node.head ≡ head → ⊥)
    → more ≡ steps ++ s ∷ [] → s.is_odd ≡ is_odd bits → p ≡ child_of s.node s.is_odd → (blocks_to p ≤ i → q ≡ p) → left ≡ bits / 2 → Comes nodes head tree (reverse more) q left
way_further nodes head tree o p q bits left i steps more s r e g h m d c older l =
    let child : p ≡ child_of s.node (is_odd bits) = c ∙ ap (λ z. child_of s.node z) d in
    goes_down i bits s (reverse steps) (reverse_push more steps s m) g h d (λ w. older (let t : blocks_to p ≡ blocks_to (child_of s.node (is_odd bits)) = ap blocks_to child in omega (arith, t, w)) ∙ child) l
    (subst (λ z. Comes nodes head tree (reverse steps) z bits) e r)

-- a place that is no node of the list ends the way: nothing is found from there on
pub way_outside : (nodes : List Newest) (head : Head) (o : Option ℕ) (i : ℕ) → o ≡ Some i → slice_get nodes i ≡ None → IsEnd nodes head o None
way_outside nodes head o i e g other b f r = absurd (found_outside nodes other r i e g)

pub way_ends : (nodes : List Newest) (head : Head) (o : Option ℕ) → o ≡ None → IsEnd nodes head o None
way_ends nodes head o e other b f r = found_none nodes other r e

-- the nodes that are put

child_put : (n : Newest) (d e : Bool) (below : ℕ) → ((e ≡ d) × (child_of (set_child n d below) e ≡ Some below)) ⊎ (child_of (set_child n d below) e ≡ child_of n e)
child_put n true true below = inl (refl, refl)
child_put n true false below = inr refl
child_put n false true below = inr refl
child_put n false false below = inl (refl, refl)

child_set : (n : Newest) (d : Bool) (below : ℕ) → child_of (set_child n d below) d ≡ Some below
child_set n true below = refl
child_set n false below = refl

head_stays : (n : Newest) (d : Bool) (below : ℕ) → (set_child n d below).head ≡ n.head
head_stays n true below = refl
head_stays n false below = refl

number_stays : (n : Newest) (d : Bool) (below : ℕ) → (set_child n d below).number ≡ n.number
number_stays n true below = refl
number_stays n false below = refl

no_child : (head : Head) (number : ℕ) (d : Bool) → child_of (node_of None head number) d ≡ None
no_child head number true = refl
no_child head number false = refl

child_stays : (n : Newest) (head : Head) (number : ℕ) (d : Bool) → child_of (node_of (Some n) head number) d ≡ child_of n d
child_stays n head number true = refl
child_stays n head number false = refl

got_last : (old new : List Newest) (n : Newest) (root : ℕ) → new ≡ old ++ n ∷ [] → root ≡ length old → slice_get new root ≡ Some n
got_last old new n root e r = ap (slice_get new) r ∙ ap (λ z. slice_get z (length old)) e ∙ get_last old n

pub end_put : (old new : List Newest) (head : Head) (number : ℕ) (o : Option ℕ) (bits : ℕ) (end : Option Newest) (root : ℕ) → IsEnd old head o end → new ≡ old ++ node_of end head number ∷ [] → root ≡ length old → IsWith old new head number o bits root
end_put old new head number o bits None root w e l =
    let got = got_last old new (node_of None head number) root e l in
    record {
      found = here root (node_of None head number) refl got refl refl;
      others = λ other b f k r. further root (node_of None head number) refl got (λ h. k (sym h)) (none_below (child_of (node_of None head number) (is_odd b)) (no_child head number (is_odd b)))
          (nothing (no_child head number (is_odd b)) (w other b f r));
    }
  where
    none_below : (p : Option ℕ) → p ≡ None → blocks_to p ≤ root
    none_below p q = let t : blocks_to p ≡ 0 = ap blocks_to q in omega (arith, t)
end_put old new head number o bits (Some n) root w e l =
    let got = got_last old new (node_of (Some n) head number) root e l in
    record {
      found = here root (node_of (Some n) head number) refl got w.3 refl;
      others = λ other b f k r. below got other b f k r;
    }
  where
    below : slice_get new root ≡ Some (node_of (Some n) head number) → (other : Head) (b : ℕ) (f : Option ℕ) → (other ≡ head → ⊥) → Finds old other o b f → Finds new other (Some root) b f
    below got other b f k (nothing z v) = let a : None ≡ Some w.0 = sym z ∙ w.1 in absurd (cc)
    below got other b f k (here i m z s h v) =
        let a : i ≡ w.0 = let q : Some i ≡ Some w.0 = sym z ∙ w.1 in cc in
        let c : m ≡ n = let q : Some m ≡ Some n = sym s ∙ ap (slice_get old) a ∙ w.2 in cc in
        absurd (k (sym h ∙ ap (λ (x : Newest). x.head) c ∙ w.3))
    below got other b f k (further i m z s h d r) =
        let a : i ≡ w.0 = let q : Some i ≡ Some w.0 = sym z ∙ w.1 in cc in
        let c : m ≡ n = let q : Some m ≡ Some n = sym s ∙ ap (slice_get old) a ∙ w.2 in cc in
        let child : child_of m (is_odd b) ≡ child_of (node_of (Some n) head number) (is_odd b) = ap (λ x. child_of x (is_odd b)) c ∙ sym (child_stays n head number (is_odd b)) in
        let i_within = get_within old i m s in
        let t : blocks_to (child_of m (is_odd b)) ≡ blocks_to (child_of (node_of (Some n) head number) (is_odd b)) = ap blocks_to child in
        further root (node_of (Some n) head number) refl got (λ q. k (sym q ∙ w.3)) (omega (arith, d, t, i_within, l))
        (subst (λ x. Finds new other x (b / 2) f) child (finds_on old new other (node_of (Some n) head number ∷ [], e) r))

-- a copy of a node, with the root that stands for its child
copied : (old now new : List Newest) (head : Head) (number : ℕ) (o : Option ℕ) (bits below root i b : ℕ) (s : Step) → GoesOn old now → IsWith old now head number o bits below → below < length now → slice_get old i ≡ Some s.node → (s.node.head ≡ head → ⊥)
    → s.is_odd ≡ is_odd b → (blocks_to (child_of s.node (is_odd b)) ≤ i → o ≡ child_of s.node (is_odd b)) → bits ≡ b / 2 → new ≡ now ++ set_child s.node s.is_odd below ∷ [] → root ≡ length now → IsWith old new head number (Some i) b root
copied old now new head number o bits below root i b s g w lower n h d c l e r =
    let got : slice_get new root ≡ Some node = got_last now new node root e r in
    let on : GoesOn now new = (node ∷ [], e) in
    let child : child_of node (is_odd b) ≡ Some below = ap (child_of node) (sym d) ∙ child_set s.node s.is_odd below in
    let t : blocks_to (child_of node (is_odd b)) ≡ suc below = ap blocks_to child in
    record {
      found = further root node refl got (λ q. h (sym (head_stays s.node s.is_odd below) ∙ q)) (omega (arith, t, lower, r))
          (subst (λ x. Finds new head x (b / 2) (Some number)) (sym child)
          (subst (λ x. Finds new head (Some below) x (Some number)) l (finds_on now new head on w.found)));
      others = λ other x f k t. other_found got on other x f k t;
    }
  where
    node : Newest
    node = set_child s.node s.is_odd below

    within : i < root
    within = let a = get_within old i s.node n in let z = ap length g.1 ∙ length-append old g.0 in omega (arith, a, z, r)

    other_found : slice_get new root ≡ Some node → GoesOn now new → (other : Head) (x : ℕ) (f : Option ℕ) → (other ≡ head → ⊥) → Finds old other (Some i) x f → Finds new other (Some root) x f
    other_found got on other x f k (nothing z v) = absurd (cc)
    other_found got on other x f k (here j m z q y v) =
        let a : m ≡ s.node = cc in
        here root node refl got (head_stays s.node s.is_odd below ∙ ap (λ (p : Newest). p.head) (sym a) ∙ y) (v ∙ ap (λ (p : Newest). Some p.number) a ∙ ap (λ p. Some p) (sym (number_stays s.node s.is_odd below)))
    other_found got on other x f k (further j m z q y older t) =
        let a : m ≡ s.node = cc in
        let at : j ≡ i = (let u : Some j ≡ Some i = sym z in cc) in
        let u : blocks_to (child_of m (is_odd x)) ≡ blocks_to (child_of s.node (is_odd x)) = ap (λ (p : Newest). blocks_to (child_of p (is_odd x))) a in
        let lo : blocks_to (child_of s.node (is_odd x)) ≤ i = omega (arith, u, older, at) in
        let p = down (child_put s.node s.is_odd (is_odd x) below) lo (subst (λ (p : Newest). Finds old other (child_of p (is_odd x)) (x / 2) f) a t) in
        further root node refl got (λ p. y (ap (λ (p : Newest). p.head) a ∙ sym (head_stays s.node s.is_odd below) ∙ p)) p.0 p.1
      where
        down : ((is_odd x ≡ s.is_odd) × (child_of node (is_odd x) ≡ Some below)) ⊎ (child_of node (is_odd x) ≡ child_of s.node (is_odd x)) → blocks_to (child_of s.node (is_odd x)) ≤ i → Finds old other (child_of s.node (is_odd x)) (x / 2) f
            → (blocks_to (child_of node (is_odd x)) ≤ root) × Finds new other (child_of node (is_odd x)) (x / 2) f
        down (inl p) lo u =
            let same : is_odd x ≡ is_odd b = p.0 ∙ d in
            let k1 : blocks_to (child_of s.node (is_odd x)) ≡ blocks_to (child_of s.node (is_odd b)) = ap (λ y. blocks_to (child_of s.node y)) same in
            let q : o ≡ child_of s.node (is_odd b) = c (omega (arith, lo, k1)) in
            let t : blocks_to (child_of node (is_odd x)) ≡ suc below = ap blocks_to p.1 in (
              omega (arith, t, lower, r),
              subst (λ v. Finds new other v (x / 2) f) (sym p.1) (finds_on now new other on (w.others other (x / 2) f k (subst (λ v. Finds old other v (x / 2) f) (ap (child_of s.node) same ∙ sym q) u))),
            )
        down (inr p) lo u =
            let t : blocks_to (child_of node (is_odd x)) ≡ blocks_to (child_of s.node (is_odd x)) = ap blocks_to p in
            let i_within = within in (
              omega (arith, t, lo, i_within),
              subst (λ v. Finds new other v (x / 2) f) (sym p) (finds_on old new other (goes_on_then old now new g on) u),
            )

pub built_begins : (old new : List Newest) (head : Head) (tree : Option ℕ) (number root : ℕ) (steps : List Step) (end : Option Newest) → IsWay old head tree (reverse steps) end → new ≡ old ++ node_of end head number ∷ [] → root ≡ length old → IsBuilt old new head tree number (reverse steps) root
built_begins old new head tree number root steps end w e r = record {
  grown = (node_of end head number ∷ [], e);
  place = w.place;
  bits = w.bits;
  comes = w.comes;
  stands = end_put old new head number w.place w.bits end root w.is_end e r;
  fresh = omega (arith, r);
  within = (let l = ap length e ∙ length-append old (node_of end head number ∷ []) in omega (arith, l, r));
}

-- the last step is taken back
back : (old now new : List Newest) (head : Head) (tree : Option ℕ) (number below root : ℕ) (left : List Step) (s : Step) {all : List Step} {o : Option ℕ} {bits : ℕ} → Comes old head tree all o bits → all ≡ s ∷ left → GoesOn old now → IsWith old now head number o bits below
    → below < length now → new ≡ now ++ set_child s.node s.is_odd below ∷ [] → root ≡ length now → IsBuilt old new head tree number left root
back old now new head tree number below root left s (begins e o b) q g w lower n r = let a : [] ≡ s ∷ left = sym e ∙ q in absurd (cc)
back old now new head tree number below root left s {o = o} {bits = bits} (goes_down i b t before e got h d c l rest) q g w lower n r =
    let a : t ∷ before ≡ s ∷ left = sym e ∙ q in
    let same : t ≡ s = cc in
    let others : before ≡ left = cc in
    record {
      grown = goes_on_last old now new (set_child s.node s.is_odd below) g n;
      place = Some i;
      bits = b;
      comes = subst (λ z. Comes old head tree z (Some i) b) others rest;
      stands = copied old now new head number o bits below root i b s g w lower (subst (λ (z : Step). slice_get old i ≡ Some z.node) same got) (λ p. h (ap (λ (z : Step). z.node.head) same ∙ p)) (ap (λ (z : Step). z.is_odd) (sym same) ∙ d) (λ w. let k : blocks_to (child_of t.node (is_odd b)) ≡ blocks_to (child_of s.node (is_odd b)) = ap (λ (z : Step). blocks_to (child_of z.node (is_odd b))) same in c (omega (arith, k, w)) ∙ ap (λ (z : Step). child_of z.node (is_odd b)) same) l n r;
      fresh = (let m = ap length g.1 ∙ length-append old g.0 in omega (arith, m, r));
      within = (let m = ap length n ∙ length-append now (set_child s.node s.is_odd below ∷ []) in omega (arith, m, r));
    }

pub built_further : (old now new : List Newest) (head : Head) (tree : Option ℕ) (number below root : ℕ) (steps left : List Step) (s : Step) → IsBuilt old now head tree number (reverse steps) below → steps ≡ left ++ s ∷ [] → new ≡ now ++ set_child s.node s.is_odd below ∷ [] → root ≡ length now
    → IsBuilt old new head tree number (reverse left) root
built_further old now new head tree number below root steps left s w e n r = back old now new head tree number below root (reverse left) s w.comes (reverse_push steps left s e) w.grown w.stands w.within n r

-- no step is left
at_root : (old new : List Newest) (head : Head) (tree : Option ℕ) (number root : ℕ) {all : List Step} {o : Option ℕ} {bits : ℕ} → Comes old head tree all o bits → all ≡ [] → IsWith old new head number o bits root → IsWith old new head number tree (code_of head) root
at_root old new head tree number root {o = p} (begins e o b) q w = subst (λ z. IsWith old new head number z (code_of head) root) o (subst (λ z. IsWith old new head number p z root) b w)
at_root old new head tree number root (goes_down i b t before e got h d c l rest) q w = let a : t ∷ before ≡ [] = sym e ∙ q in absurd (cc)

pub built : (old new : List Newest) (head : Head) (tree : Option ℕ) (number root : ℕ) (left : List Step) → IsBuilt old new head tree number (reverse left) root → left ≡ [] → IsWith old new head number tree (code_of head) root
built old new head tree number root left w e = at_root old new head tree number root w.comes (ap reverse e) w.stands
