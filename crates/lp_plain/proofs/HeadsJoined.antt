-- The places that are found are those that the definition's slots and pairs take, whatever the goal's arguments are.
use Rattle.std.proofs.Common.{◌≡◌, ℕ, suc, ◌+◌, ◌<◌, ◌≤◌, List, [], ◌∷◌, ◌++◌, length, take, take_all, get_or, append_assoc, refl, sym, ap, ◌∙◌, subst as transport, arith, Bool, true, false, nat_lt, Option, Some, None, inl, inr}
use Rattle.std.specs.Prelude.{◌&&◌, if◌then◌else◌}
use Rattle.std.proofs.lemmas.Bool.{cases_eq, eq-eqb, ne_eqb, eqb-true, ltb-true, lt-ltb, le-ltb}
use Rattle.std.proofs.lemmas.List.{append-nil, get_or_at, get_or_past, length-append}
use Rattle.lp_calculus.specs.Term.{Term, index, atom, abs, app, logic}
use Rattle.lp_model.specs.Index.{instantiate}
use Rattle.lp_model.specs.Pair.{Pair}
use Rattle.lp_model.specs.Search.{are_absent, is_new, slot_of, slots_of, slotted, Slot, pairs_of}
use Rattle.lp_term.specs.Nodes.{Nodes}
use Rattle.lp_term.specs.declared.node.TermId.{TermId}
use Rattle.lp_plain.specs.Heads.{trees_of, IsDone, is_index, is_first, slot_place, pair_places, slot_term, pairs_at, HasBecome, HaveBecome}

-- the earlier arguments
absent_all : (n k : ℕ) (es fs : List Term) → k < n → HaveBecome n es fs → are_absent k fs ≡ are_absent k es
absent_all n k [] [] l h = refl
absent_all n k [] (f ∷ fs) l h = absurd h
absent_all n k (e ∷ es) [] l h = absurd h
absent_all n k (e ∷ es) (f ∷ fs) l h = λ i. h.0.absent k l i && absent_all n k es fs l h.1 i

-- the variable that an argument is
index_is : (k : ℕ) (t : Term) → is_index k t ≡ true → t ≡ index k
index_is k (index i) e = ap index (eqb-true i k e)
index_is k (atom a) e = absurd (cc)
index_is k (abs b) e = absurd (cc)
index_is k (app t u) e = absurd (cc)

self : (k : ℕ) → is_index k (index k) ≡ true
self k = eq-eqb k k refl

-- the argument is a variable of the clause
became_variable : (n k : ℕ) (t : Term) → HasBecome n t (index k) → t ≡ index k
became_variable n k t h = index_is k t (sym (h.own k (h.closed k refl)) ∙ self k)

first_index : (n k : ℕ) (e : List Term) → k < n → is_first n (index k) e ≡ are_absent k e
first_index n k e l = ap (λ a. a && are_absent k e) (lt-ltb k n l)

no_first : (n : ℕ) (t h : Term) (e : List Term) → HasBecome n t h → ((k : ℕ) → is_index k h ≡ false) → is_first n t e ≡ false
no_first n (index i) h e b f = go (nat_lt i n) refl where
  go : (x : Bool) → nat_lt i n ≡ x → (x && are_absent i e) ≡ false
  go true g = let l = ltb-true i n g in let c : true ≡ false = sym (self i) ∙ sym (b.own i l) ∙ f i in absurd (cc)
  go false g = refl
no_first n (atom a) h e b f = refl
no_first n (abs x) h e b f = refl
no_first n (app x y) h e b f = refl

same_first : (n : ℕ) (t h : Term) (es fs : List Term) → HasBecome n t h → HaveBecome n es fs → is_new h fs ≡ is_first n t es
same_first n t (index k) es fs b c =
    let l = b.closed k refl in
    absent_all n k es fs l c ∙ sym (first_index n k es l) ∙ ap (λ x. is_first n x es) (sym (became_variable n k t b))
same_first n t (atom a) es fs b c = sym (no_first n t (atom a) es b (λ k. refl))
same_first n t (abs x) es fs b c = sym (no_first n t (abs x) es b (λ k. refl))
same_first n t (app x y) es fs b c = sym (no_first n t (app x y) es b (λ k. refl))

-- places behind all of the goal's arguments
beyond : (us : List Term) (next level k p : ℕ) (e hs : List Term) → length us ≤ p → slot_term us next level k (slot_place k p e hs) ≡ atom (logic (next + k) level)
beyond us next level k p e [] l = refl
beyond us next level k p e (h ∷ hs) l = go (is_index k h && are_absent k e) (beyond us next level k (suc p) (h ∷ e) hs (omega (arith, l))) where
  go : (t : Bool) → slot_term us next level k (slot_place k (suc p) (h ∷ e) hs) ≡ atom (logic (next + k) level) → slot_term us next level k (if t then Some p else slot_place k (suc p) (h ∷ e) hs) ≡ atom (logic (next + k) level)
  go true r = get_or_past us p (atom (logic (next + k) level)) l
  go false r = r

and_no : (a : Bool) → (a && false) ≡ false
and_no true = refl
and_no false = refl

one_longer : (us : List Term) (u : Term) (p : ℕ) → length us ≡ p → length (us ++ u ∷ []) ≡ suc p
one_longer us u p q = let e : length (us ++ u ∷ []) ≡ length us + 1 = length-append us (u ∷ []) in omega (arith, e, q)

pairs_append : (σ : ℕ → Term) (level : ℕ) (ks ts : List Term) (ps qs : List (ℕ × Term)) → pairs_at σ level ks ts (ps ++ qs) ≡ pairs_at σ level ks ts ps ++ pairs_at σ level ks ts qs
pairs_append σ level ks ts [] qs = refl
pairs_append σ level ks ts (p ∷ ps) qs =
    let x = if nat_lt p.0 (length ts) then record { left = get_or ts p.0 (index 0); right = instantiate σ (get_or ks p.0 (index 0)); level = level } ∷ [] else [] in
    ap (λ l. x ++ l) (pairs_append σ level ks ts ps qs) ∙ sym (append_assoc x (pairs_at σ level ks ts ps) (pairs_at σ level ks ts qs))

none_beyond : (n level p : ℕ) (σ : ℕ → Term) (es hs ks us : List Term) → length us ≤ p → pairs_at σ level ks us (pair_places n p es hs) ≡ []
none_beyond n level p σ es [] ks us l = refl
none_beyond n level p σ es (h ∷ hs) ks us l = go (is_first n h es) (none_beyond n level (suc p) σ (h ∷ es) hs ks us (omega (arith, l))) where
  no : (t : Term) → pairs_at σ level ks us ((p, t) ∷ []) ≡ []
  no t = ap (λ b. (if b then record { left = get_or us p (index 0); right = instantiate σ (get_or ks p (index 0)); level = level } ∷ [] else []) ++ []) (le-ltb p (length us) l)

  go : (b : Bool) → pairs_at σ level ks us (pair_places n (suc p) (h ∷ es) hs) ≡ [] → pairs_at σ level ks us ((if b then [] else (p, h) ∷ []) ++ pair_places n (suc p) (h ∷ es) hs) ≡ []
  go true r = r
  go false r = pairs_append σ level ks us ((p, h) ∷ []) (pair_places n (suc p) (h ∷ es) hs) ∙ (λ i. no h i ++ r i)

pair_case : (n level p : ℕ) (σ : ℕ → Term) (es fs : List Term) (t h : Term) (us vs ts ks : List Term) (u : Term) (ps : List Pair) (qs : List (ℕ × Term)) → HaveBecome n es fs → HasBecome n t h → length us ≡ p → length vs ≡ p →
    ps ≡ pairs_at σ level (vs ++ h ∷ ks) (us ++ u ∷ ts) qs →
    (if is_new h fs then ps else record { left = u; right = instantiate σ h; level = level } ∷ ps) ≡ pairs_at σ level (vs ++ h ∷ ks) (us ++ u ∷ ts) ((if is_first n t es then [] else (p, t) ∷ []) ++ qs)
pair_case n level p σ es fs t h us vs ts ks u ps qs c b q r e = go (is_new h fs) (is_first n t es) (same_first n t h es fs b c) where
  here : pairs_at σ level (vs ++ h ∷ ks) (us ++ u ∷ ts) ((p, t) ∷ []) ≡ record { left = u; right = instantiate σ h; level = level } ∷ []
  here =
      let f : length (us ++ u ∷ ts) ≡ length us + length (u ∷ ts) = length-append us (u ∷ ts) in
      let x = get_or_at us u ts (index 0) p q in
      let y = get_or_at vs h ks (index 0) p r in
      ap (λ z. (if z then record { left = get_or (us ++ u ∷ ts) p (index 0); right = instantiate σ (get_or (vs ++ h ∷ ks) p (index 0)); level = level } ∷ [] else []) ++ []) (lt-ltb p (length (us ++ u ∷ ts)) (omega (arith, f, q))) ∙
      (λ i. record { left = x i; right = instantiate σ (y i); level = level } ∷ [])

  go : (x y : Bool) → x ≡ y → (if x then ps else record { left = u; right = instantiate σ h; level = level } ∷ ps) ≡ pairs_at σ level (vs ++ h ∷ ks) (us ++ u ∷ ts) ((if y then [] else (p, t) ∷ []) ++ qs)
  go true true f = e
  go true false f = absurd (cc)
  go false true f = absurd (cc)
  go false false f = (λ i. sym here i ++ e i) ∙ sym (pairs_append σ level (vs ++ h ∷ ks) (us ++ u ∷ ts) ((p, t) ∷ []) qs)

-- one argument
slot_case : (n k next level p : ℕ) (es fs : List Term) (t h : Term) (us ts : List Term) (u : Term) (ss : List Slot) (o : Option ℕ) → k < n → HaveBecome n es fs → HasBecome n t h → length us ≡ p →
    slotted ss next level k ≡ slot_term (us ++ u ∷ ts) next level k o →
    slotted (if is_new h fs then slot_of h u ∷ ss else ss) next level k ≡ slot_term (us ++ u ∷ ts) next level k (if is_index k t && are_absent k es then Some p else o)
slot_case n k next level p es fs t (index i) us ts u ss o l c b q r = go (are_absent i fs) refl where
  T : t ≡ index i
  T = became_variable n i t b

  A : are_absent i fs ≡ are_absent i es
  A = absent_all n i es fs (b.closed i refl) c

  go : (x : Bool) → are_absent i fs ≡ x → slotted (if x then slot_of (index i) u ∷ ss else ss) next level k ≡ slot_term (us ++ u ∷ ts) next level k (if is_index k t && are_absent k es then Some p else o)
  go true e = elim (cases_eq i k) [
    | inl same ↦
        let x : is_index k t ≡ true = ap (is_index k) T ∙ eq-eqb i k same in
        let y : are_absent k es ≡ true = ap (λ j. are_absent j es) (sym same) ∙ sym A ∙ e in
        let v : slotted (slot_of (index i) u ∷ ss) next level k ≡ u = ap (λ w. if w then u else slotted ss next level k) (eq-eqb k i (sym same)) in
        v ∙ sym (get_or_at us u ts (atom (logic (next + k) level)) p q) ∙ ap (λ w. slot_term (us ++ u ∷ ts) next level k (if w then Some p else o)) (sym ((λ j. x j && y j)))
    | inr ne ↦
        let x : is_index k t ≡ false = ap (is_index k) T ∙ ne_eqb i k ne in
        let v : slotted (slot_of (index i) u ∷ ss) next level k ≡ slotted ss next level k = ap (λ w. if w then u else slotted ss next level k) (ne_eqb k i (λ e. ne (sym e))) in
        v ∙ r ∙ ap (λ w. slot_term (us ++ u ∷ ts) next level k (if w && are_absent k es then Some p else o)) (sym x)
  ]
  go false e = elim (cases_eq i k) [
    | inl same ↦
        let y : are_absent k es ≡ false = ap (λ j. are_absent j es) (sym same) ∙ sym A ∙ e in
        r ∙ ap (λ w. slot_term (us ++ u ∷ ts) next level k (if w then Some p else o)) (sym (and_no (is_index k t)) ∙ ap (λ w. is_index k t && w) (sym y))
    | inr ne ↦
        let x : is_index k t ≡ false = ap (is_index k) T ∙ ne_eqb i k ne in
        r ∙ ap (λ w. slot_term (us ++ u ∷ ts) next level k (if w && are_absent k es then Some p else o)) (sym x)
  ]
slot_case n k next level p es fs t (atom a) us ts u ss o l c b q r = r ∙ ap (λ w. slot_term (us ++ u ∷ ts) next level k (if w && are_absent k es then Some p else o)) (b.own k l)
slot_case n k next level p es fs t (abs x) us ts u ss o l c b q r = r ∙ ap (λ w. slot_term (us ++ u ∷ ts) next level k (if w && are_absent k es then Some p else o)) (b.own k l)
slot_case n k next level p es fs t (app x y) us ts u ss o l c b q r = r ∙ ap (λ w. slot_term (us ++ u ∷ ts) next level k (if w && are_absent k es then Some p else o)) (b.own k l)

pub slots_joined : (n k next level p : ℕ) (es fs hs ks us ts : List Term) → k < n → HaveBecome n es fs → HaveBecome n hs ks → length us ≡ p →
    slotted (slots_of fs ks ts) next level k ≡ slot_term (us ++ ts) next level k (slot_place k p es hs)
slots_joined n k next level p es fs [] [] us ts l c d q = refl
slots_joined n k next level p es fs [] (h ∷ ks) us ts l c d q = absurd d
slots_joined n k next level p es fs (t ∷ hs) [] us ts l c d q = absurd d
slots_joined n k next level p es fs (t ∷ hs) (h ∷ ks) us [] l c d q =
    sym (ap (λ x. slot_term x next level k (slot_place k p es (t ∷ hs))) (append-nil us) ∙ beyond us next level k p es (t ∷ hs) (omega (arith, q)))
slots_joined n k next level p es fs (t ∷ hs) (h ∷ ks) us (u ∷ ts) l c d q =
    slot_case n k next level p es fs t h us ts u (slots_of (h ∷ fs) ks ts) (slot_place k (suc p) (t ∷ es) hs) l c d.0 q
    (slots_joined n k next level (suc p) (t ∷ es) (h ∷ fs) hs ks (us ++ u ∷ []) ts l (d.0, c) d.1 (one_longer us u p q) ∙
    ap (λ x. slot_term x next level k (slot_place k (suc p) (t ∷ es) hs)) (append_assoc us (u ∷ []) ts))

-- pairs
pub pairs_joined : (n level p : ℕ) (σ : ℕ → Term) (es fs hs ks us vs ts : List Term) → HaveBecome n es fs → HaveBecome n hs ks → length us ≡ p → length vs ≡ p →
    pairs_of σ level fs ks ts ≡ pairs_at σ level (vs ++ ks) (us ++ ts) (pair_places n p es hs)
pairs_joined n level p σ es fs [] [] us vs ts c d q r = refl
pairs_joined n level p σ es fs [] (h ∷ ks) us vs ts c d q r = absurd d
pairs_joined n level p σ es fs (t ∷ hs) [] us vs ts c d q r = absurd d
pairs_joined n level p σ es fs (t ∷ hs) (h ∷ ks) us vs [] c d q r =
    sym (ap (λ x. pairs_at σ level (vs ++ h ∷ ks) x (pair_places n p es (t ∷ hs))) (append-nil us) ∙ none_beyond n level p σ es (t ∷ hs) (vs ++ h ∷ ks) us (omega (arith, q)))
pairs_joined n level p σ es fs (t ∷ hs) (h ∷ ks) us vs (u ∷ ts) c d q r =
    pair_case n level p σ es fs t h us vs ts ks u (pairs_of σ level (h ∷ fs) ks ts) (pair_places n (suc p) (t ∷ es) hs) c d.0 q r
    (pairs_joined n level (suc p) σ (t ∷ es) (h ∷ fs) hs ks (us ++ u ∷ []) (vs ++ h ∷ []) ts (d.0, c) d.1 (one_longer us u p q) (one_longer vs h p r) ∙
    (λ i. pairs_at σ level (append_assoc vs (h ∷ []) ks i) (append_assoc us (u ∷ []) ts i) (pair_places n (suc p) (t ∷ es) hs)))

-- what was found for all arguments

all_taken : (b : Nodes) (n place : ℕ) (args : List TermId) (seen : List Bool) (slots : List (Option ℕ)) (pairs : List (ℕ × Term)) → length args ≤ place → IsDone n (trees_of b (take place args)) seen slots pairs →
    IsDone n (trees_of b args) seen slots pairs
all_taken b n place args seen slots pairs l D = transport (λ xs. IsDone n (trees_of b xs) seen slots pairs) (take_all place args l) D

pub are_slotted : (b : Nodes) (n place : ℕ) (args : List TermId) (seen : List Bool) (slots : List (Option ℕ)) (pairs : List (ℕ × Term)) → length args ≤ place → IsDone n (trees_of b (take place args)) seen slots pairs →
    (hs ts : List Term) (next level k : ℕ) → k < n → HaveBecome n (trees_of b args) hs → slotted (slots_of [] hs ts) next level k ≡ slot_term ts next level k (get_or slots k None)
are_slotted b n place args seen slots pairs l D hs ts next level k m h =
    slots_joined n k next level 0 [] [] (trees_of b args) hs [] ts m tt h refl ∙ ap (slot_term ts next level k) (sym ((all_taken b n place args seen slots pairs l D).slots_are k m))

pub are_paired : (b : Nodes) (n place : ℕ) (args : List TermId) (seen : List Bool) (slots : List (Option ℕ)) (pairs : List (ℕ × Term)) → length args ≤ place → IsDone n (trees_of b (take place args)) seen slots pairs →
    (hs ts : List Term) (σ : ℕ → Term) (level : ℕ) → HaveBecome n (trees_of b args) hs → pairs_of σ level [] hs ts ≡ pairs_at σ level hs ts pairs
are_paired b n place args seen slots pairs l D hs ts σ level h =
    pairs_joined n level 0 σ [] [] (trees_of b args) hs [] [] ts tt h refl refl ∙ ap (pairs_at σ level hs ts) (sym (all_taken b n place args seen slots pairs l D).pairs_are)
