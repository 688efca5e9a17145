-- The steps of a walk along the places, by the numbers of the place and of the watcher.
use Rattle.std.specs.Global.{Global}
use Rattle.std.proofs.Common.{◌≡◌, ℕ, zero, suc, ◌+◌, ◌≤◌, ◌<◌, List, [], ◌∷◌, ◌++◌, length, map, take, drop, set, get_or, remove, replicate, Option, Some, None, Vec, true, false, is_some, refl, sym, ◌∙◌, ap, arith, subst, add-one}
use Rattle.std.specs.List.{flat_map}
use Rattle.std.proofs.lemmas.List.{append_assoc, take_more, take_more_set, drop-set-lt, take-append-drop}
use Rattle.lp_lemmas.proofs.Lists.{drop_read}
use Rattle.lp_watch.specs.Notes.{Event}
use Rattle.lp_watch.specs.Seen.{Seen, seen_after, stays}
use Rattle.lp_watch.specs.Reports.{report_of}
use Rattle.lp_watch.specs.Crowd.{crowd_after, ReachesPart, Place, here, gone, places, open_places, reports}
use Rattle.lp_watch.proofs.Walk.{Walk, walk_skips, walk_stays, walk_leaves, walk_over, walk_stops, walk_stops_after, open_append}

abbrev pub Texts : Type 0
Texts = List (Option (Vec ℕ Global))

-- the same walk over equal lists
pub walk_along : {W : Type 0} (seen : W → Seen) (e : Event) (before : List Place)
    (A A' B B' : Texts) (U U' V V' : List W) → A ≡ A' → B ≡ B' → U ≡ U' → V ≡ V' → Walk seen e before A B U V → Walk seen e before A' B' U' V'
walk_along {W} seen e before A A' B B' U U' V V' a b u v walk =
    let P : Texts → Type 0 = λ l. Walk seen e before l B U V in
    let Q : Texts → Type 0 = λ l. Walk seen e before A' l U V in
    let R : List W → Type 0 = λ l. Walk seen e before A' B' l V in
    let S : List W → Type 0 = λ l. Walk seen e before A' B' U' l in
    subst S v (subst R u (subst Q b (subst P a walk)))

pub up_to_place : {X : Type 0} (xs : List X) (i : ℕ) (x : X) → i < length xs → x ≡ get_or xs i x → take (i + 1) xs ≡ take i xs ++ x ∷ []
up_to_place xs i x lt is = take_more xs i x lt ∙ ap (λ y. take i xs ++ y ∷ []) (sym is)

pub take_removed : {X : Type 0} (xs : List X) (i : ℕ) (y : X) → i < length xs → take i (remove (set xs i y) i) ≡ take i xs
take_removed [] i y lt = absurd (omega arith)
take_removed (x ∷ xs) zero y lt = refl
take_removed (x ∷ xs) (suc i) y lt = ap (λ l. x ∷ l) (take_removed xs i y (omega arith))

pub drop_removed : {X : Type 0} (xs : List X) (i : ℕ) (y : X) → i < length xs → drop i (remove (set xs i y) i) ≡ drop (suc i) xs
drop_removed [] i y lt = absurd (omega arith)
drop_removed (x ∷ xs) zero y lt = refl
drop_removed (x ∷ xs) (suc i) y lt = drop_removed xs i y (omega arith)

pub still_within : {X : Type 0} (xs : List X) (i : ℕ) (y : X) → i < length xs → i ≤ length (remove (set xs i y) i)
still_within [] i y lt = absurd (omega arith)
still_within (x ∷ xs) zero y lt = omega arith
still_within (x ∷ xs) (suc i) y lt = let rest = still_within xs i y (omega arith) in omega arith

pub map_set : {X Y : Type 0} (f : X → Y) (xs : List X) (i : ℕ) (y : X) → i < length xs → map f (set xs i y) ≡ map f (take i xs) ++ f y ∷ map f (drop (suc i) xs)
map_set f [] i y lt = absurd (omega arith)
map_set f (x ∷ xs) zero y lt = refl
map_set f (x ∷ xs) (suc i) y lt = ap (λ l. f x ∷ l) (map_set f xs i y (omega arith))

-- over a place whose watcher is gone
pub skip_at : {W : Type 0} (seen : W → Seen) (e : Event) (before : List Place)
    (texts : Texts) (U V : List W) (p : ℕ) (x : Option (Vec ℕ Global)) → is_some x ≡ true → x ≡ get_or texts p x → p < length texts
    → Walk seen e before (take p texts) (drop p texts) U V → Walk seen e before (take (p + 1) texts) (drop (p + 1) texts) U V
skip_at seen e before texts U V p None some is lt walk = absurd (cc)
skip_at seen e before texts U V p (Some t) some is lt walk =
    walk_along seen e before (take p texts ++ Some t ∷ []) (take (p + 1) texts) (drop (p + 1) texts) (drop (p + 1) texts) U U V V
    (sym (up_to_place texts p (Some t) lt is)) refl refl refl
    (walk_skips seen e before (take p texts) (drop (p + 1) texts) U V t
    (walk_along seen e before (take p texts) (take p texts) (drop p texts) (Some t ∷ drop (p + 1) texts) U U V V refl (drop_read texts p (Some t) lt is) refl refl walk))

-- the walk before a place with a watcher
pub before_watcher : {W : Type 0} (seen : W → Seen) (e : Event) (before : List Place)
    (texts : Texts) (watchers : List W) (p i : ℕ) (x : Option (Vec ℕ Global)) (w : W) → is_some x ≡ false → x ≡ get_or texts p x → p < length texts
    → w ≡ get_or watchers i w → i < length watchers
    → Walk seen e before (take p texts) (drop p texts) (take i watchers) (drop i watchers)
    → Walk seen e before (take p texts) (None ∷ drop (p + 1) texts) (take i watchers) (w ∷ drop (i + 1) watchers)
before_watcher seen e before texts watchers p i (Some t) w none is lt is_w lt_w walk = absurd (cc)
before_watcher seen e before texts watchers p i None w none is lt is_w lt_w walk =
    walk_along seen e before (take p texts) (take p texts) (drop p texts) (None ∷ drop (p + 1) texts)
    (take i watchers) (take i watchers) (drop i watchers) (w ∷ drop (i + 1) watchers) refl (drop_read texts p None lt is) refl (drop_read watchers i w lt_w is_w) walk

-- over a watcher that takes more
pub stay_at : {W : Type 0} (seen : W → Seen) (e : Event) (before : List Place)
    (texts : Texts) (watchers : List W) (p i : ℕ) (x : Option (Vec ℕ Global)) (w v : W) → is_some x ≡ false → x ≡ get_or texts p x → p < length texts
    → w ≡ get_or watchers i w → i < length watchers → stays (seen w).left ≡ true → seen v ≡ seen_after e (seen w)
    → Walk seen e before (take p texts) (drop p texts) (take i watchers) (drop i watchers)
    → Walk seen e before (take (p + 1) texts) (drop (p + 1) texts) (take (i + 1) (set watchers i v)) (drop (i + 1) (set watchers i v))
stay_at seen e before texts watchers p i (Some t) w v none is lt is_w lt_w takes noted walk = absurd (cc)
stay_at seen e before texts watchers p i None w v none is lt is_w lt_w takes noted walk =
    walk_along seen e before (take p texts ++ None ∷ []) (take (p + 1) texts) (drop (p + 1) texts) (drop (p + 1) texts)
    (take i watchers ++ v ∷ []) (take (i + 1) (set watchers i v)) (drop (i + 1) watchers) (drop (i + 1) (set watchers i v))
    (sym (up_to_place texts p None lt is)) refl (sym (take_more_set watchers i v lt_w)) (sym (drop-set-lt (i + 1) watchers i v (omega arith)))
    (walk_stays seen e before (take p texts) (drop (p + 1) texts) (take i watchers) (drop (i + 1) watchers) w v
    (before_watcher seen e before texts watchers p i None w none is lt is_w lt_w walk) takes noted)

-- over a watcher that was done, and left its text
pub leave_at : {W : Type 0} (seen : W → Seen) (e : Event) (before : List Place)
    (texts : Texts) (watchers : List W) (p i : ℕ) (x : Option (Vec ℕ Global)) (w v : W) (t : Vec ℕ Global) → is_some x ≡ false → x ≡ get_or texts p x → p < length texts
    → w ≡ get_or watchers i w → i < length watchers → stays (seen w).left ≡ false → seen v ≡ seen_after e (seen w) → t.items ≡ report_of (seen v)
    → Walk seen e before (take p texts) (drop p texts) (take i watchers) (drop i watchers)
    → Walk seen e before (take (p + 1) (set texts p (Some t))) (drop (p + 1) (set texts p (Some t))) (take i (remove (set watchers i v) i)) (drop i (remove (set watchers i v) i))
leave_at seen e before texts watchers p i x w v t none is lt is_w lt_w done noted gave walk =
    walk_along seen e before (take p texts ++ Some t ∷ []) (take (p + 1) (set texts p (Some t))) (drop (p + 1) texts) (drop (p + 1) (set texts p (Some t)))
    (take i watchers) (take i (remove (set watchers i v) i)) (drop (i + 1) watchers) (drop i (remove (set watchers i v) i))
    (sym (take_more_set texts p (Some t) lt)) (sym (drop-set-lt (p + 1) texts p (Some t) (omega arith)))
    (sym (take_removed watchers i v lt_w)) (ap (λ n. drop n watchers) (add-one i) ∙ sym (drop_removed watchers i v lt_w))
    (walk_leaves seen e before (take p texts) (drop (p + 1) texts) (take i watchers) (drop (i + 1) watchers) w v t
    (before_watcher seen e before texts watchers p i x w none is lt is_w lt_w walk) done noted gave)

-- where the next watcher could not take the note
pub stop_at : {W : Type 0} (seen : W → Seen) (e : Event) (before : List Place)
    (texts : Texts) (watchers : List W) (p i : ℕ) (w v : W) → w ≡ get_or watchers i w → i < length watchers → seen v ≡ seen w
    → Walk seen e before (take p texts) (drop p texts) (take i watchers) (drop i watchers) → ReachesPart e before (places texts (map seen (set watchers i v)))
stop_at seen e before texts watchers p i w v is_w lt_w same walk =
    subst (λ l. ReachesPart e before (places l (map seen (set watchers i v)))) (take-append-drop p texts)
    (walk_stops seen e before (take p texts) (drop p texts) (take i watchers) (drop i watchers) (set watchers i v) walk
    (map_set seen watchers i v lt_w ∙ ap (λ s. map seen (take i watchers) ++ s ∷ map seen (drop (suc i) watchers)) same
    ∙ ap (λ l. map seen (take i watchers) ++ map seen l) (sym (drop_read watchers i w lt_w is_w ∙ ap (λ n. w ∷ drop n watchers) (add-one i)))))

-- where the next watcher took the note, and could not give its text
pub stop_after_at : {W : Type 0} (seen : W → Seen) (e : Event) (before : List Place)
    (texts : Texts) (watchers : List W) (p i : ℕ) (x : Option (Vec ℕ Global)) (w v : W) → is_some x ≡ false → x ≡ get_or texts p x → p < length texts
    → w ≡ get_or watchers i w → i < length watchers → seen v ≡ seen_after e (seen w)
    → Walk seen e before (take p texts) (drop p texts) (take i watchers) (drop i watchers) → ReachesPart e before (places texts (map seen (set watchers i v)))
stop_after_at seen e before texts watchers p i (Some t) w v none is lt is_w lt_w noted walk = absurd (cc)
stop_after_at seen e before texts watchers p i None w v none is lt is_w lt_w noted walk =
    subst (λ l. ReachesPart e before (places l (map seen (set watchers i v)))) (ap (λ l. take p texts ++ l) (sym (drop_read texts p None lt is)) ∙ take-append-drop p texts)
    (walk_stops_after seen e before (take p texts) (drop (p + 1) texts) (take i watchers) (drop (i + 1) watchers) (set watchers i v) w v
    (before_watcher seen e before texts watchers p i None w none is lt is_w lt_w walk) noted
    (map_set seen watchers i v lt_w ∙ ap (λ n. map seen (take i watchers) ++ seen v ∷ map seen (drop n watchers)) (sym (add-one i))))

pub take_whole : {X : Type 0} (xs : List X) (n : ℕ) → n ≡ length xs → take n xs ≡ xs
take_whole [] zero e = refl
take_whole [] (suc n) e = refl
take_whole (x ∷ xs) zero e = absurd (omega arith)
take_whole (x ∷ xs) (suc n) e = ap (λ l. x ∷ l) (take_whole xs n (omega arith))

pub drop_whole : {X : Type 0} (xs : List X) (n : ℕ) → n ≡ length xs → drop n xs ≡ []
drop_whole [] zero e = refl
drop_whole [] (suc n) e = refl
drop_whole (x ∷ xs) zero e = absurd (omega arith)
drop_whole (x ∷ xs) (suc n) e = drop_whole xs n (omega arith)

pub length_dropped : {X : Type 0} (xs : List X) (n : ℕ) → n ≤ length xs → length (drop n xs) ≡ 0 → n ≡ length xs
length_dropped [] zero h e = refl
length_dropped [] (suc n) h e = absurd (omega arith)
length_dropped (x ∷ xs) zero h e = absurd (omega arith)
length_dropped (x ∷ xs) (suc n) h e = let rest = length_dropped xs n (omega arith) e in omega arith

-- where each watcher was passed, all have the note
pub over_at : {W : Type 0} (seen : W → Seen) (e : Event) (before : List Place)
    (texts : Texts) (watchers : List W) (p i : ℕ) → i ≡ length watchers → Walk seen e before (take p texts) (drop p texts) (take i watchers) (drop i watchers)
    → places texts (map seen watchers) ≡ crowd_after e before
over_at {W} seen e before texts watchers p i all walk =
    subst (λ l. places l (map seen watchers) ≡ crowd_after e before) (take-append-drop p texts)
    (walk_over seen e before (take p texts) (drop p texts) watchers
    (walk_along seen e before (take p texts) (take p texts) (drop p texts) (drop p texts) (take i watchers) watchers (drop i watchers) []
    refl refl (take_whole watchers i all) (drop_whole watchers i all) walk))

-- where each place was passed, so was each watcher
pub over_all : {W : Type 0} (seen : W → Seen) (e : Event) (before : List Place)
    (texts : Texts) (watchers : List W) (p i : ℕ) → p ≡ length texts → i ≤ length watchers → Walk seen e before (take p texts) (drop p texts) (take i watchers) (drop i watchers)
    → i ≡ length watchers
over_all seen e before texts watchers p i all h walk =
    let none : open_places (drop p texts) ≡ 0 = ap open_places (drop_whole texts p all) in
    length_dropped watchers i h (omega (arith, walk.enough, none))

-- empty places at the end change nothing
pub places_made : (texts : Texts) (seen : List Seen) (n : ℕ) → places (texts ++ replicate n None) seen ≡ places texts seen
places_made [] seen zero = refl
places_made [] [] (suc n) = places_made [] [] n
places_made [] (s ∷ seen) (suc n) = ap (λ l. here s ∷ l) (places_made [] seen n)
places_made (Some t ∷ texts) seen n = ap (λ l. gone t.items ∷ l) (places_made texts seen n)
places_made (None ∷ texts) [] n = places_made texts [] n
places_made (None ∷ texts) (s ∷ seen) n = ap (λ l. here s ∷ l) (places_made texts seen n)

-- no watcher has the note yet
pub reaches_none : (e : Event) (old new : List Place) → new ≡ old → ReachesPart e old new
reaches_none e old new is = ([], [], old, refl, is)

-- one more empty place
pub one_made : (texts made : Texts) (n : ℕ) → made ≡ texts ++ replicate n None → made ++ None ∷ [] ≡ texts ++ replicate (n + 1) None
one_made texts made n is = ap (λ l. l ++ None ∷ []) is ∙ append_assoc texts (replicate n None) (None ∷ []) ∙ ap (λ l. texts ++ l) (at_end n)
  where
    at_end : (n : ℕ) → replicate n None ++ None ∷ [] ≡ replicate {A = Option (Vec ℕ Global)} (n + 1) None
    at_end zero = refl
    at_end (suc n) = ap (λ l. None ∷ l) (at_end n) ∙ ap (λ k. None ∷ replicate k None) (add-one n) ∙ ap (λ k. replicate k None) (sym (add-one (suc n)))

pub one_more_open : (texts : Texts) (n : ℕ) → open_places texts ≡ n → open_places (texts ++ None ∷ []) ≡ n + 1
one_more_open texts n is = open_append texts (None ∷ []) ∙ ap (λ k. k + 1) is

-- places that are left over have no text
pub no_texts : {W : Type 0} (seen : W → Seen) (watchers : List W) → reports (map here (map seen watchers)) ≡ flat_map (λ w. report_of (seen w)) watchers
no_texts seen [] = refl
no_texts seen (w ∷ watchers) = ap (λ l. report_of (seen w) ++ l) (no_texts seen watchers)

-- a place is passed in the count of those with a watcher
pub passed_gone : (texts : Texts) (p : ℕ) (x : Option (Vec ℕ Global)) → is_some x ≡ true → x ≡ get_or texts p x → p < length texts
    → open_places (take (p + 1) texts) ≡ open_places (take p texts)
passed_gone texts p None some is lt = absurd (cc)
passed_gone texts p (Some t) some is lt = ap open_places (up_to_place texts p (Some t) lt is) ∙ open_append (take p texts) (Some t ∷ []) ∙ omega arith

pub passed_open : (texts : Texts) (p : ℕ) (x : Option (Vec ℕ Global)) → is_some x ≡ false → x ≡ get_or texts p x → p < length texts
    → open_places (take (p + 1) texts) ≡ open_places (take p texts) + 1
passed_open texts p (Some t) none is lt = absurd (cc)
passed_open texts p None none is lt = ap open_places (up_to_place texts p None lt is) ∙ open_append (take p texts) (None ∷ [])
