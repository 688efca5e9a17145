-- Scopes of a search: more blocks and values, or fewer, leave those within a bound as they are; and the way to the value of an index.
use Rattle.std.proofs.Common.{◌≡◌, ℕ, zero, suc, ◌+◌, ◌<◌, ◌≤◌, List, [], ◌∷◌, ◌++◌, length, take, drop, get_or, Option, Some, None, refl, sym, ap, ◌∙◌, subst as transport, arith, length-append}
use Rattle.std.specs.Prelude.{slice_get}
use Rattle.std.proofs.lemmas.Option.{slice_get_within, slice_get_past, slice_get_read}
use Rattle.lp_term.specs.declared.node.TermId.{TermId}
use Rattle.lp_plain.specs.declared.scope.Block.{Block}
use Rattle.lp_plain.specs.declared.scope.Scopes.{Scopes}
use Rattle.lp_plain.specs.Scopes.{Holds, outermost, inside, IsScope, KeepsScopes, IsOnWay, blocks_to}

-- lists
pub get_front : {X : Type 0} (xs ys : List X) (i : ℕ) → i < length xs → slice_get (xs ++ ys) i ≡ slice_get xs i
get_front [] ys i h = absurd (omega arith)
get_front (x ∷ xs) ys zero h = refl
get_front (x ∷ xs) ys (suc i) h = get_front xs ys i (omega arith)

get_behind : {X : Type 0} (xs ys : List X) (i j : ℕ) → i ≡ length xs + j → slice_get (xs ++ ys) i ≡ slice_get ys j
get_behind [] ys i j e = let q : i ≡ j = omega (arith, e) in ap (slice_get ys) q
get_behind (x ∷ xs) ys zero j e = absurd (omega (arith, e))
get_behind (x ∷ xs) ys (suc i) j e = get_behind xs ys i j (omega (arith, e))

get_taken : {X : Type 0} (n : ℕ) (xs : List X) (i : ℕ) → i < n → slice_get (take n xs) i ≡ slice_get xs i
get_taken zero xs i h = absurd (omega arith)
get_taken (suc n) [] i h = refl
get_taken (suc n) (x ∷ xs) zero h = refl
get_taken (suc n) (x ∷ xs) (suc i) h = get_taken n xs i (omega arith)

get_dropped : {X : Type 0} (n : ℕ) (xs : List X) (i j : ℕ) → j ≡ n + i → slice_get (drop n xs) i ≡ slice_get xs j
get_dropped zero xs i j e = let q : i ≡ j = omega (arith, e) in ap (slice_get xs) q
get_dropped (suc n) [] i j e = refl
get_dropped (suc n) (x ∷ xs) i zero e = absurd (omega (arith, e))
get_dropped (suc n) (x ∷ xs) i (suc j) e = get_dropped n xs i j (omega (arith, e))

-- what is taken stands in front
pub taken_below : {X : Type 0} (n : ℕ) (xs : List X) (i : ℕ) (x : X) → slice_get (take n xs) i ≡ Some x → i < n
taken_below zero xs i x e = absurd (cc)
taken_below (suc n) [] i x e = absurd (cc)
taken_below (suc n) (y ∷ xs) zero x e = omega arith
taken_below (suc n) (y ∷ xs) (suc i) x e = let h : i < n = taken_below n xs i x e in omega arith

pub taken_stands : {X : Type 0} (n : ℕ) (xs : List X) (i : ℕ) (x : X) → slice_get (take n xs) i ≡ Some x → slice_get xs i ≡ Some x
taken_stands n xs i x e = sym (get_taken n xs i (taken_below n xs i x e)) ∙ e

take_front : {X : Type 0} (n : ℕ) (xs ys : List X) → n ≤ length xs → take n (xs ++ ys) ≡ take n xs
take_front zero xs ys h = refl
take_front (suc n) [] ys h = absurd (omega arith)
take_front (suc n) (x ∷ xs) ys h = ap (λ l. x ∷ l) (take_front n xs ys (omega arith))

drop_front : {X : Type 0} (n : ℕ) (xs ys : List X) → n ≤ length xs → drop n (xs ++ ys) ≡ drop n xs ++ ys
drop_front zero xs ys h = refl
drop_front (suc n) [] ys h = absurd (omega arith)
drop_front (suc n) (x ∷ xs) ys h = drop_front n xs ys (omega arith)

length_dropped : {X : Type 0} (n : ℕ) (xs : List X) → n ≤ length xs → n + length (drop n xs) ≡ length xs
length_dropped zero xs h = omega arith
length_dropped (suc n) [] h = absurd (omega arith)
length_dropped (suc n) (x ∷ xs) h = let e : n + length (drop n xs) ≡ length xs = length_dropped n xs (omega arith) in omega (arith, e)

pub length_taken : {X : Type 0} (n : ℕ) (xs : List X) → n ≤ length xs → length (take n xs) ≡ n
length_taken zero xs h = refl
length_taken (suc n) [] h = absurd (omega arith)
length_taken (suc n) (x ∷ xs) h = ap suc (length_taken n xs (omega arith))

take_less : {X : Type 0} (n m : ℕ) (xs : List X) → n ≤ m → take n (take m xs) ≡ take n xs
take_less zero m xs h = refl
take_less (suc n) zero xs h = absurd (omega arith)
take_less (suc n) (suc m) [] h = refl
take_less (suc n) (suc m) (x ∷ xs) h = ap (λ l. x ∷ l) (take_less n m xs (omega arith))

take_whole : {X : Type 0} (xs : List X) → take (length xs) xs ≡ xs
take_whole [] = refl
take_whole (x ∷ xs) = ap (λ l. x ∷ l) (take_whole xs)

-- with more blocks and values behind
block_values : (values more : List TermId) (from count : ℕ) → from + count ≤ length values → take count (drop from (values ++ more)) ≡ take count (drop from values)
block_values values more from count h =
    let e : from + length (drop from values) ≡ length values = length_dropped from values (omega arith) in
    ap (take count) (drop_front from values more (omega arith)) ∙ take_front count (drop from values) more (omega (arith, h, e))

pub holds_more : (values more : List TermId) (bs cs : List Block) (o : Option ℕ) (vs : List TermId) → Holds values bs o vs → Holds (values ++ more) (bs ++ cs) o vs
holds_more values more bs cs o vs (outermost e f) = outermost e f
holds_more values more bs cs o vs (inside i k us e g h w q) =
    let l : i < length bs = slice_get_within bs i k g in
    inside i k us e (get_front bs cs i l ∙ g) (omega (arith, h, length-append values more))
    (transport (λ x. Holds (values ++ more) x k.around us) (more_none (take i bs) ∙ sym (take_front i bs cs (omega (arith, l)))) (holds_more values more (take i bs) [] k.around us w))
    (q ∙ ap (λ x. x ++ us) (sym (block_values values more k.from k.count h)))
  where
    more_none : (xs : List Block) → xs ++ [] ≡ xs
    more_none [] = refl
    more_none (x ∷ xs) = ap (λ l. x ∷ l) (more_none xs)

-- the same blocks and values within the bounds
pub scope_same : (s z : Scopes) (nb nv : ℕ) → take nb s.blocks.items ≡ take nb z.blocks.items → take nv s.values.items ≡ take nv z.values.items → KeepsScopes s z nb nv
scope_same s z nb nv p q = λ o vs h. transport (λ bs. Holds (take nv z.values.items) bs o vs) p (transport (λ l. Holds l (take nb s.blocks.items) o vs) q h)

pub kept_behind : (s z : Scopes) (nb nv : ℕ) (bs : List Block) (us : List TermId) → z.blocks.items ≡ s.blocks.items ++ bs → z.values.items ≡ s.values.items ++ us → nb ≤ length s.blocks.items → nv ≤ length s.values.items → KeepsScopes s z nb nv
kept_behind s z nb nv bs us p q h l =
    scope_same s z nb nv (sym (ap (take nb) p ∙ take_front nb s.blocks.items bs h)) (sym (ap (take nv) q ∙ take_front nv s.values.items us l))

pub kept_before : (s z : Scopes) (nb nv n m : ℕ) → z.blocks.items ≡ take n s.blocks.items → z.values.items ≡ take m s.values.items → nb ≤ n → nv ≤ m → KeepsScopes s z nb nv
kept_before s z nb nv n m p q h l = scope_same s z nb nv (sym (ap (take nb) p ∙ take_less nb n s.blocks.items h)) (sym (ap (take nv) q ∙ take_less nv m s.values.items l))

front_and : {X : Type 0} (n m : ℕ) (xs : List X) → n ≤ m → (ys : List X) × (take m xs ≡ take n xs ++ ys)
front_and zero m xs h = (take m xs, refl)
front_and (suc n) zero xs h = absurd (omega arith)
front_and (suc n) (suc m) [] h = ([], refl)
front_and (suc n) (suc m) (x ∷ xs) h = let w = front_and n m xs (omega arith) in (w.0, ap (λ l. x ∷ l) w.1)

-- wider bounds
pub scope_wider : (s : Scopes) (nb nv mb mv : ℕ) (o : Option ℕ) (vs : List TermId) → nb ≤ mb → nv ≤ mv → IsScope s nb nv o vs → IsScope s mb mv o vs
scope_wider s nb nv mb mv o vs h l w =
    let p = front_and nb mb s.blocks.items h in
    let q = front_and nv mv s.values.items l in
    transport (λ bs. Holds (take mv s.values.items) bs o vs) (sym p.1) (transport (λ x. Holds x (take nb s.blocks.items ++ p.0) o vs) (sym q.1) (holds_more (take nv s.values.items) q.0 (take nb s.blocks.items) p.0 o vs w))

-- a scope is opened
pub scope_opened : (s z : Scopes) (k : Block) (us vs : List TermId) → z.blocks.items ≡ s.blocks.items ++ k ∷ [] → z.values.items ≡ s.values.items ++ us → k.from ≡ length s.values.items → k.count ≡ length us →
    IsScope s (length s.blocks.items) (length s.values.items) k.around vs → (i : ℕ) → i ≡ length s.blocks.items → IsScope z (length z.blocks.items) (length z.values.items) (Some i) (us ++ vs)
scope_opened s z k us vs p q f n w i e =
    transport (λ bs. Holds (take (length z.values.items) z.values.items) bs (Some i) (us ++ vs)) (sym (take_whole z.blocks.items ∙ p))
    (transport (λ l. Holds l (s.blocks.items ++ k ∷ []) (Some i) (us ++ vs)) (sym (take_whole z.values.items ∙ q))
    (inside i k vs refl (get_behind s.blocks.items (k ∷ []) i 0 (omega (arith, e))) (omega (arith, f, n, length-append s.values.items us))
    (transport (λ bs. Holds (s.values.items ++ us) bs k.around vs) (sym (front i e)) around) (ap (λ l. l ++ vs) (sym mine))))
  where
    around : Holds (s.values.items ++ us) s.blocks.items k.around vs
    around =
        transport (λ bs. Holds (s.values.items ++ us) bs k.around vs) (none s.blocks.items)
        (holds_more s.values.items us s.blocks.items [] k.around vs (transport (λ bs. Holds s.values.items bs k.around vs) (take_whole s.blocks.items) (transport (λ l. Holds l (take (length s.blocks.items) s.blocks.items) k.around vs) (take_whole s.values.items) w)))
      where
        none : (xs : List Block) → xs ++ [] ≡ xs
        none [] = refl
        none (x ∷ xs) = ap (λ l. x ∷ l) (none xs)

    front : (j : ℕ) → j ≡ length s.blocks.items → take j (s.blocks.items ++ k ∷ []) ≡ s.blocks.items
    front j h = ap (λ m. take m (s.blocks.items ++ k ∷ [])) h ∙ take_front (length s.blocks.items) s.blocks.items (k ∷ []) (omega arith) ∙ take_whole s.blocks.items

    dropped : (xs ys : List TermId) → drop (length xs) (xs ++ ys) ≡ ys
    dropped [] ys = refl
    dropped (x ∷ xs) ys = dropped xs ys

    mine : take k.count (drop k.from (s.values.items ++ us)) ≡ us
    mine = (λ j. take (n j) (drop (f j) (s.values.items ++ us))) ∙ ap (take (length us)) (dropped s.values.items us) ∙ take_whole us

-- all blocks and values
pub whole_scope : (s : Scopes) (o : Option ℕ) (vs : List TermId) → Holds s.values.items s.blocks.items o vs → IsScope s (length s.blocks.items) (length s.values.items) o vs
whole_scope s o vs h = transport (λ bs. Holds (take (length s.values.items) s.values.items) bs o vs) (sym (take_whole s.blocks.items)) (transport (λ l. Holds l s.blocks.items o vs) (sym (take_whole s.values.items)) h)

pub scope_whole : (s : Scopes) (o : Option ℕ) (vs : List TermId) → IsScope s (length s.blocks.items) (length s.values.items) o vs → Holds s.values.items s.blocks.items o vs
scope_whole s o vs h = transport (λ bs. Holds s.values.items bs o vs) (take_whole s.blocks.items) (transport (λ l. Holds l (take (length s.blocks.items) s.blocks.items) o vs) (take_whole s.values.items) h)

-- no values: the scope around
pub scope_stays : (s : Scopes) (o : Option ℕ) (us vs : List TermId) → us ≡ [] → IsScope s (length s.blocks.items) (length s.values.items) o vs → IsScope s (length s.blocks.items) (length s.values.items) o (us ++ vs)
scope_stays s o us vs e w = transport (λ l. IsScope s (length s.blocks.items) (length s.values.items) o (l ++ vs)) (sym e) w

-- the way to a value
pub way_begins : (s : Scopes) (nb nv : ℕ) (o : Option ℕ) (vs : List TermId) (index : ℕ) → IsScope s nb nv o vs → IsOnWay s.blocks.items (take nv s.values.items) vs index o index
way_begins s nb nv o vs index w = record { front = take nb s.blocks.items; rest = vs; holds = w; stands = λ i k e. taken_stands nb s.blocks.items i k e; same = refl }

-- a block on the way
pub record IsBlock (blocks : List Block) (values vs : List TermId) (index number : ℕ) (k : Block) (left : ℕ) : Type 0 where
  pub fits : k.from + k.count ≤ length values
  pub older : blocks_to k.around ≤ number
  pub here : left < k.count → slice_get vs index ≡ slice_get values (k.from + left)
  pub behind : (rest : ℕ) → left ≡ k.count + rest → IsOnWay blocks values vs index k.around rest

some_same : {X : Type 0} (x y : X) → Some x ≡ Some y → x ≡ y
some_same x y e = cc

around_older : (values : List TermId) (bs : List Block) (n : ℕ) (o : Option ℕ) (us : List TermId) → Holds values (take n bs) o us → blocks_to o ≤ n
around_older values bs n o us (outermost e f) = transport (λ x. blocks_to x ≤ n) (sym e) (omega arith)
around_older values bs n o us (inside i k ws e g h w q) = transport (λ x. blocks_to x ≤ n) (sym e) (let l : i < n = taken_below n bs i k g in omega (arith, l))

pub block_on : (blocks : List Block) (values vs : List TermId) (index number left : ℕ) (k : Block) → IsOnWay blocks values vs index (Some number) left → slice_get blocks number ≡ Some k → IsBlock blocks values vs index number k left
block_on blocks values vs index number left k way e = by_case way.front way.rest way.holds way.stands way.same
  where
    by_case : (front : List Block) (rest : List TermId) → Holds values front (Some number) rest → ((i : ℕ) (b : Block) → slice_get front i ≡ Some b → slice_get blocks i ≡ Some b) → slice_get rest left ≡ slice_get vs index →
        IsBlock blocks values vs index number k left
    by_case front rest (outermost p q) f s = absurd (cc)
    by_case front rest (inside i b us p g h w q) f s =
        let n : number ≡ i = some_same number i p in
        let z : b ≡ k = some_same b k (sym (f i b g) ∙ ap (slice_get blocks) (sym n) ∙ e) in
        let d : b.from + length (drop b.from values) ≡ length values = length_dropped b.from values (omega (arith, h)) in
        let m : length (take b.count (drop b.from values)) ≡ b.count = length_taken b.count (drop b.from values) (omega (arith, h, d)) in
        transport (λ x. IsBlock blocks values vs index number x left) z (record {
          fits = h;
          older = transport (λ x. blocks_to b.around ≤ x) (sym n) (around_older values front i b.around us w);
          here = λ l. sym s ∙ ap (λ r. slice_get r left) q ∙ get_front (take b.count (drop b.from values)) us left (omega (arith, l, m)) ∙ get_taken b.count (drop b.from values) left l ∙
              get_dropped b.from values left (b.from + left) refl;
          behind = λ r t. record {
            front = take i front;
            rest = us;
            holds = w;
            stands = λ j c y. f j c (taken_stands i front j c y);
            same = sym (get_behind (take b.count (drop b.from values)) us left r (omega (arith, t, m))) ∙ sym (ap (λ x. slice_get x left) q) ∙ s;
          };
        })

-- the value is found
value_found : (blocks : List Block) (values all vs : List TermId) (nv index number left at : ℕ) (k : Block) → values ≡ take nv all → IsOnWay blocks values vs index (Some number) left → slice_get blocks number ≡ Some k → left < k.count →
    at ≡ k.from + left → slice_get all at ≡ slice_get vs index
value_found blocks values all vs nv index number left at k e way g l q =
    let w = block_on blocks values vs index number left k way g in
    let t : k.from + left < length values = omega (arith, l, w.fits) in
    let m : length values ≤ nv = transport (λ x. length x ≤ nv) (sym e) (below nv all) in
    ap (slice_get all) q ∙ sym (get_taken nv all (k.from + left) (omega (arith, t, m))) ∙ ap (λ x. slice_get x (k.from + left)) (sym e) ∙ sym (w.here l)
  where
    below : {X : Type 0} (n : ℕ) (xs : List X) → length (take n xs) ≤ n
    below zero xs = omega arith
    below (suc n) [] = omega arith
    below (suc n) (x ∷ xs) = let h : length (take n xs) ≤ n = below n xs in omega (arith, h)

-- there is none
pub none_found : (blocks : List Block) (values vs : List TermId) (index left : ℕ) (at : Option ℕ) → IsOnWay blocks values vs index at left → at ≡ None → None ≡ slice_get vs index
none_found blocks values vs index left at way e = by_case way.rest way.holds way.same
  where
    by_case : (rest : List TermId) → Holds values way.front at rest → slice_get rest left ≡ slice_get vs index → None ≡ slice_get vs index
    by_case rest (outermost p q) s = sym (ap (λ x. slice_get x left) q) ∙ s
    by_case rest (inside i k us p g h w q) s = let z : Some i ≡ None = sym p ∙ e in absurd (cc)

-- each block on the way is there
pub block_there : (blocks : List Block) (values vs : List TermId) (index number left : ℕ) (at : Option ℕ) → IsOnWay blocks values vs index at left → at ≡ Some number → slice_get blocks number ≡ None → ⊥
block_there blocks values vs index number left at way n e = by_case way.rest way.holds
  where
    by_case : (rest : List TermId) → Holds values way.front at rest → ⊥
    by_case rest (outermost p q) = let z : Some number ≡ None = sym n ∙ p in absurd (cc)
    by_case rest (inside i k us p g h w q) = let z : Some k ≡ None = sym (way.stands i k g) ∙ ap (slice_get blocks) (sym (some_same number i (sym n ∙ p))) ∙ e in absurd (cc)

-- the next block outwards
pub steps_out : (o p : Option ℕ) (n : ℕ) → o ≡ Some n → blocks_to p ≤ n → blocks_to p < blocks_to o
steps_out o p n e h = transport (λ x. blocks_to p < blocks_to x) (sym e) (omega (arith, h))

pub get_is : {X : Type 0} (xs ys : List X) (i : ℕ) (x : X) → ys ≡ xs → i < length ys → x ≡ get_or ys i x → slice_get xs i ≡ Some x
get_is xs ys i x e l h = sym (ap (λ z. slice_get z i) e) ∙ slice_get_read ys (length ys) i x refl l h

pub get_none : {X : Type 0} (xs ys : List X) (i : ℕ) → ys ≡ xs → length ys ≤ i → slice_get xs i ≡ None
get_none xs ys i e h = sym (ap (λ z. slice_get z i) e) ∙ slice_get_past ys i h

pub way_outwards : (blocks : List Block) (values vs : List TermId) (index number left rest : ℕ) (k : Block) (at next : Option ℕ) → IsOnWay blocks values vs index at left → at ≡ Some number → slice_get blocks number ≡ Some k →
    (blocks_to k.around ≤ number → next ≡ k.around) → left ≡ k.count + rest → IsOnWay blocks values vs index next rest
way_outwards blocks values vs index number left rest k at next way e g f q =
    let w = block_on blocks values vs index number left k (transport (λ o. IsOnWay blocks values vs index o left) e way) g in
    transport (λ o. IsOnWay blocks values vs index o rest) (sym (f w.older)) (w.behind rest q)

-- the value at a place of the block
pub value_at : (blocks : List Block) (nv : ℕ) (all vs : List TermId) (index number left place : ℕ) (k : Block) (at : Option ℕ) → IsOnWay blocks (take nv all) vs index at left → at ≡ Some number → slice_get blocks number ≡ Some k → left < k.count →
    (k.from + k.count ≤ length all → place ≡ k.from + left) → slice_get all place ≡ slice_get vs index
value_at blocks nv all vs index number left place k at way e g l f =
    let here = transport (λ o. IsOnWay blocks (take nv all) vs index o left) e way in
    let w = block_on blocks (take nv all) vs index number left k here g in
    let b : length (take nv all) ≤ length all = fewer nv all in
    value_found blocks (take nv all) all vs nv index number left place k refl here g l (f (omega (arith, w.fits, b)))
  where
    fewer : {X : Type 0} (n : ℕ) (xs : List X) → length (take n xs) ≤ length xs
    fewer zero xs = omega arith
    fewer (suc n) [] = omega arith
    fewer (suc n) (x ∷ xs) = let h : length (take n xs) ≤ length xs = fewer n xs in omega (arith, h)
