-- The order of copies: each move leaves less to do, and what is left to do is the rest of the tree, however it may end.
use Rattle.std.proofs.Common.{◌≡◌, ℕ, zero, suc, ◌+◌, ◌*◌, ◌-◌, ◌<◌, ◌≤◌, List, [], ◌∷◌, ◌++◌, length, drop, map, reverse, get_or, refl, sym, ap, subst, ◌∙◌, arith, append_assoc}
use Rattle.std.specs.Prelude.{All, Vec}
use Rattle.std.specs.Global.{Global}
use Rattle.std.proofs.lemmas.List.{drop_more, drop_all, length-append, length-map, reverse-append}
use Rattle.std.proofs.lemmas.List.Elements.{All-nil, All-cons, All-tail}
use Rattle.lp_copies.specs.Copies.{Copies, no_copy, copy, RestOfCopies, Copying}
use Rattle.lp_copies.specs.Trees.{lists_in}

abbrev Frame : Type 0
Frame = ℕ × ℕ

-- copies below nothing, and below one entry and more
none_below : (uses : List (List ℕ)) (todo all : List ℕ) → todo ≡ [] → Copies uses todo all → all ≡ []
none_below uses todo all e no_copy = refl
none_below uses todo all e (copy m rest below others x b o is) = absurd (let n = ap length e in omega (arith, n))

abbrev head_of : ℕ → List ℕ → ℕ
head_of d [] = d
head_of d (x ∷ xs) = x

abbrev tail_of : List ℕ → List ℕ
tail_of [] = []
tail_of (x ∷ xs) = xs

one_below : (uses : List (List ℕ)) (m : ℕ) (rest todo all : List ℕ) → todo ≡ m ∷ rest → Copies uses todo all → (below : List ℕ) × (others : List ℕ) × Copies uses (get_or uses m []) below × Copies uses rest others × (all ≡ below ++ m ∷ others)
one_below uses m rest todo all e no_copy = absurd (let n = ap length e in omega (arith, n))
one_below uses m rest todo all e (copy k r below others x b o is) =
    let at : k ≡ m = ap (head_of k) e in
    let on : r ≡ rest = ap tail_of e in
    (below, others, subst (λ i. Copies uses (get_or uses i []) below) at b, subst (λ l. Copies uses l others) on o, is ∙ ap (λ i. below ++ i ∷ others) at)

-- the rest of the tree, with one more copy open, and with one fewer
regroup : (left below others : List ℕ) (to at : ℕ) → (left ++ (below ++ to ∷ [])) ++ (others ++ at ∷ []) ≡ left ++ ((below ++ to ∷ others) ++ at ∷ [])
regroup left below others to at = simp append_assoc

opens : (uses : List (List ℕ)) (left : List ℕ) (at next to : ℕ) (fs : List Frame) (all : List ℕ) → drop next (get_or uses at []) ≡ to ∷ drop (next + 1) (get_or uses at []) →
    RestOfCopies uses left ((to, 0) ∷ (at, next + 1) ∷ fs) all → RestOfCopies uses left ((at, next) ∷ fs) all
opens uses left at next to fs all e (below, b, (others, o, r)) = (
  below ++ to ∷ others,
  subst (λ l. Copies uses l (below ++ to ∷ others)) (sym e) (copy to (drop (next + 1) (get_or uses at [])) below others (below ++ to ∷ others) b o refl),
  subst (λ l. RestOfCopies uses l fs all) (regroup left below others to at) r,
)

opened : (uses : List (List ℕ)) (left : List ℕ) (at next to : ℕ) (fs : List Frame) (all : List ℕ) → drop next (get_or uses at []) ≡ to ∷ drop (next + 1) (get_or uses at []) →
    RestOfCopies uses left ((at, next) ∷ fs) all → RestOfCopies uses left ((to, 0) ∷ (at, next + 1) ∷ fs) all
opened uses left at next to fs all e (below, b, r) =
    let (inner, others, i, o, is) = one_below uses to (drop (next + 1) (get_or uses at [])) (drop next (get_or uses at [])) below e b in
    (inner, i, (others, o, subst (λ l. RestOfCopies uses l fs all) (sym (regroup left inner others to at)) (subst (λ x. RestOfCopies uses (left ++ (x ++ at ∷ [])) fs all) is r)))

closes : (uses : List (List ℕ)) (left left_then : List ℕ) (at next : ℕ) (fs : List Frame) (all : List ℕ) → drop next (get_or uses at []) ≡ [] → left_then ≡ left ++ at ∷ [] → RestOfCopies uses left_then fs all → RestOfCopies uses left ((at, next) ∷ fs) all
closes uses left left_then at next fs all e is r = ([], subst (λ l. Copies uses l []) (sym e) no_copy, subst (λ l. RestOfCopies uses l fs all) is r)

closed : (uses : List (List ℕ)) (left left_then : List ℕ) (at next : ℕ) (fs : List Frame) (all : List ℕ) → drop next (get_or uses at []) ≡ [] → left_then ≡ left ++ at ∷ [] → RestOfCopies uses left ((at, next) ∷ fs) all → RestOfCopies uses left_then fs all
closed uses left left_then at next fs all e is (below, b, r) =
    subst (λ l. RestOfCopies uses l fs all) (sym is) (subst (λ x. RestOfCopies uses (left ++ (x ++ at ∷ [])) fs all) (none_below uses (drop next (get_or uses at [])) below e b) r)

-- as many copies as were left and are open, at least
at_least : (uses : List (List ℕ)) (left : List ℕ) (fs : List Frame) (all : List ℕ) → RestOfCopies uses left fs all → length left + length fs ≤ length all
at_least uses left [] all e = let n = ap length e in omega (arith, n)
at_least uses left (f ∷ fs) all (below, b, r) =
    let h = at_least uses (left ++ (below ++ f.0 ∷ [])) fs all r in
    let n = length-append left (below ++ f.0 ∷ []) in
    let k = length-append below (f.0 ∷ []) in
    omega (arith, h, n, k)

pub next_entry : (uses : List (List ℕ)) (at next to : ℕ) → next < length (get_or uses at []) → to ≡ get_or (get_or uses at []) next to → drop next (get_or uses at []) ≡ to ∷ drop (next + 1) (get_or uses at [])
next_entry uses at next to h is = drop_more (get_or uses at []) next to h ∙ ap (λ x. x ∷ drop (next + 1) (get_or uses at [])) (sym is)

-- the root is entered
pub copies_begin : (uses : List (List ℕ)) (root : ℕ) → root < length uses → Copying uses root [] 1 ((root, 0) ∷ [])
copies_begin uses root h = record {
  count = refl;
  few = omega arith;
  within = All-cons (λ f. f.0 < length uses) (root, 0) [] h (All-nil (λ f. f.0 < length uses));
  only = λ all (below, b, r). copy root [] below [] all b no_copy (sym r);
  each = λ all c. first all (one_below uses root [] (root ∷ []) all refl c);
}
  where
    first : (all : List ℕ) → (below : List ℕ) × (others : List ℕ) × Copies uses (get_or uses root []) below × Copies uses [] others × (all ≡ below ++ root ∷ others) → RestOfCopies uses [] ((root, 0) ∷ []) all
    first all (below, others, b, o, is) = (below, b, ap (λ l. below ++ root ∷ l) (sym (none_below uses [] others refl o)) ∙ sym is)

-- one more is entered, if there are not too many
pub copy_opens : (uses : List (List ℕ)) (root : ℕ) (left : List ℕ) (entered at next to : ℕ) (fs : List Frame) → entered < 4096 → next < length (get_or uses at []) → to ≡ get_or (get_or uses at []) next to → to < length uses →
    Copying uses root left entered ((at, next) ∷ fs) → Copying uses root left (entered + 1) ((to, 0) ∷ (at, next + 1) ∷ fs)
copy_opens uses root left entered at next to fs few h is inside c = record {
  count = let n = c.count in omega (arith, n);
  few = omega (arith, few);
  within = All-cons (λ f. f.0 < length uses) (to, 0) ((at, next + 1) ∷ fs) inside (All-cons (λ f. f.0 < length uses) (at, next + 1) fs (c.within 0 (at, next) (omega arith)) (All-tail (λ f. f.0 < length uses) (at, next) fs c.within));
  only = λ all r. c.only all (opens uses left at next to fs all (next_entry uses at next to h is) r);
  each = λ all t. opened uses left at next to fs all (next_entry uses at next to h is) (c.each all t);
}

pub too_many : (uses : List (List ℕ)) (root : ℕ) (left : List ℕ) (entered at next to : ℕ) (fs : List Frame) → 4096 ≤ entered → next < length (get_or uses at []) → to ≡ get_or (get_or uses at []) next to →
    Copying uses root left entered ((at, next) ∷ fs) → (all : List ℕ) → Copies uses (root ∷ []) all → 4096 < length all
too_many uses root left entered at next to fs many h is c all t =
    let n = at_least uses left ((to, 0) ∷ (at, next + 1) ∷ fs) all (opened uses left at next to fs all (next_entry uses at next to h is) (c.each all t)) in
    let k = c.count in
    omega (arith, n, k, many)

-- the innermost is left
pub copy_closes : (uses : List (List ℕ)) (root : ℕ) (left left_then : List ℕ) (entered at next : ℕ) (f : Frame) (fs : List Frame) → length (get_or uses at []) ≤ next → left_then ≡ left ++ at ∷ [] →
    Copying uses root left entered ((at, next) ∷ f ∷ fs) → Copying uses root left_then entered (f ∷ fs)
copy_closes uses root left left_then entered at next f fs h is c = record {
  count = let n = c.count in let l = ap length is in let k = length-append left (at ∷ []) in omega (arith, n, l, k);
  few = c.few;
  within = All-tail (λ g. g.0 < length uses) (at, next) (f ∷ fs) c.within;
  only = λ all r. c.only all (closes uses left left_then at next (f ∷ fs) all (drop_all next (get_or uses at []) h) is r);
  each = λ all t. closed uses left left_then at next (f ∷ fs) all (drop_all next (get_or uses at []) h) is (c.each all t);
}

pub copies_end : (uses : List (List ℕ)) (root : ℕ) (left left_then : List ℕ) (entered at next : ℕ) → length (get_or uses at []) ≤ next → left_then ≡ left ++ at ∷ [] →
    Copying uses root left entered ((at, next) ∷ []) → Copies uses (root ∷ []) left_then × (length left_then ≤ 4096)
copies_end uses root left left_then entered at next h is c = (
  c.only left_then (closes uses left left_then at next [] left_then (drop_all next (get_or uses at []) h) is refl),
  let n = c.count in let l = ap length is in let k = length-append left (at ∷ []) in let f = c.few in omega (arith, n, l, k, f),
)

-- moves, seen from the fields of what copies

pub row_is : (outs : List (Vec ℕ Global)) (m : ℕ) (out : Vec ℕ Global) → m < length outs → out ≡ get_or outs m out → out.items ≡ get_or (lists_in outs) m []
row_is [] m out h e = absurd (omega (arith, h))
row_is (o ∷ os) zero out h e = ap (λ v. v.items) e
row_is (o ∷ os) (suc m) out h e = row_is os m out (omega (arith, h)) e

pub rows_are : (outs : List (Vec ℕ Global)) → length (lists_in outs) ≡ length outs
rows_are outs = length-map outs (λ out. out.items)

-- the innermost is a module
pub innermost : (uses : List (List ℕ)) (root : ℕ) (left : List ℕ) (entered at next : ℕ) (fs : List Frame) → Copying uses root left entered ((at, next) ∷ fs) → at < length uses
innermost uses root left entered at next fs c = c.within 0 (at, next) (omega arith)

-- the next entry of a list is a module
pub entry_within : (uses : List (List ℕ)) (at next to : ℕ) → All (λ out. All (λ m. m < length uses) out) uses → at < length uses → next < length (get_or uses at []) → to ≡ get_or (get_or uses at []) next to → to < length uses
entry_within uses at next to all h inside is = subst (λ x. x < length uses) (sym is) (all at [] h next to inside)

abbrev pub Moved : List (List ℕ) → ℕ → ℕ → List ℕ → List ℕ → (to bound : ℕ) → ℕ → List ℕ → ℕ → List Frame → ℕ → ℕ → Type 0
Moved uses old_root m old_left inside to bound root left entered around at next =
    Copying uses root left entered ((at, next) ∷ reverse around) × (root ≡ old_root) × (2 * (4096 - entered) + length ((at, next) ∷ reverse around) < bound) × (left ≡ old_left) × (m < length uses) × (map (λ f. f.0) ((at, next) ∷ reverse around) ≡ m ∷ inside)

moved_by : (P : ℕ → List ℕ → ℕ → List Frame → ℕ → ℕ → Type 0) {root root_then : ℕ} {left left_then : List ℕ} {entered entered_then : ℕ} {around around_then : List Frame} {at at_then next next_then : ℕ} →
    root_then ≡ root → left_then ≡ left → entered_then ≡ entered → around_then ≡ around → at_then ≡ at → next_then ≡ next → P root left entered around at next → P root_then left_then entered_then around_then at_then next_then
moved_by P {root = r} {root_then = r2} {left = l} {left_then = l2} {entered = e} {entered_then = e2} {around = o} {around_then = o2} {at = a} {at_then = a2} {next = n} {next_then = n2} er el ee eo ea en p =
    subst (λ x. P x l2 e2 o2 a2 n2) (sym er) (subst (λ x. P r x e2 o2 a2 n2) (sym el) (subst (λ x. P r l x o2 a2 n2) (sym ee) (subst (λ x. P r l e x a2 n2) (sym eo) (subst (λ x. P r l e o x n2) (sym ea) (subst (P r l e o a) (sym en) p)))))

pub turn_entered : (uses : List (List ℕ)) (root root_then : ℕ) (left left_then : List ℕ) (entered entered_then : ℕ) (around around_then : List Frame) (at at_then next next_then to : ℕ) →
    All (λ out. All (λ m. m < length uses) out) uses → entered < 4096 → next < length (get_or uses at []) → to ≡ get_or (get_or uses at []) next to → Copying uses root left entered ((at, next) ∷ reverse around) →
    (root_then ≡ root) × (left_then ≡ left) × (entered_then ≡ entered + 1) × (around_then ≡ around ++ (at, next + 1) ∷ []) × (at_then ≡ to) × (next_then ≡ 0) →
    Copying uses root_then left_then entered_then ((at_then, next_then) ∷ reverse around_then) × (root_then ≡ root) × (2 * (4096 - entered_then) + length ((at_then, next_then) ∷ reverse around_then) < 2 * (4096 - entered) + length ((at, next) ∷ reverse around)) ×
    (left_then ≡ left) × (to < length uses) × (map (λ f. f.0) ((at_then, next_then) ∷ reverse around_then) ≡ to ∷ map (λ f. f.0) ((at, next) ∷ reverse around))
turn_entered uses root root_then left left_then entered entered_then around around_then at at_then next next_then to all few inside is c (er, el, ee, eo, ea, en) =
    moved_by (Moved uses root to left (map (λ f. f.0) ((at, next) ∷ reverse around)) to (2 * (4096 - entered) + length ((at, next) ∷ reverse around))) er el ee eo ea en
    (subst (λ r. Copying uses root left (entered + 1) ((to, 0) ∷ r) × (root ≡ root) ×
    (2 * (4096 - (entered + 1)) + length ((to, 0) ∷ r) < 2 * (4096 - entered) + length ((at, next) ∷ reverse around)) × (left ≡ left) ×
    (to < length uses) × (map (λ f. f.0) ((to, 0) ∷ r) ≡ to ∷ map (λ f. f.0) ((at, next) ∷ reverse around)))
    (sym (reverse-append around ((at, next + 1) ∷ [])))
    (copy_opens uses root left entered at next to (reverse around) few inside is within c, refl, omega (arith, few), refl, within, refl))
  where
    within : to < length uses
    within = entry_within uses at next to all (innermost uses root left entered at next (reverse around) c) inside is

pub turn_left : (uses : List (List ℕ)) (root : ℕ) (left left_then : List ℕ) (entered : ℕ) (around around_then : List Frame) (at next : ℕ) (f : Frame)
    → length (get_or uses at []) ≤ next → left_then ≡ left ++ at ∷ [] → around ≡ around_then ++ f ∷ [] → Copying uses root left entered
    ((at, next) ∷ reverse around) →
    Copying uses root left_then entered ((f.0, f.1) ∷ reverse around_then) × (root ≡ root) × (2 * (4096 - entered) + length ((f.0, f.1) ∷ reverse around_then) < 2 * (4096 - entered) + length ((at, next) ∷ reverse around)) ×
    (left_then ≡ left ++ at ∷ []) × (at < length uses) × (map (λ g. g.0) ((at, next) ∷ reverse around) ≡ at ∷ map (λ g. g.0) ((f.0, f.1) ∷ reverse around_then))
turn_left uses root left left_then entered around around_then at next f past is popped c = (
  copy_closes uses root left left_then entered at next f (reverse around_then) past is (subst (λ r. Copying uses root left entered ((at, next) ∷ r)) outer c),
  refl,
  let n = ap length outer in omega (arith, n),
  is,
  innermost uses root left entered at next (reverse around) c,
  ap (λ r. at ∷ map (λ g. g.0) r) outer,
)
  where
    outer : reverse around ≡ f ∷ reverse around_then
    outer = ap reverse popped ∙ reverse-append around_then (f ∷ [])

pub turn_ended : (uses : List (List ℕ)) (root : ℕ) (left left_then : List ℕ) (entered : ℕ) (around : List Frame) (at next : ℕ) → length (get_or uses at []) ≤ next → left_then ≡ left ++ at ∷ [] → around ≡ [] → Copying uses root left entered ((at, next) ∷ reverse around) →
    Copies uses (root ∷ []) left_then × (length left_then ≤ 4096) × (left_then ≡ left ++ at ∷ []) × (at < length uses) × (map (λ g. g.0) ((at, next) ∷ reverse around) ≡ at ∷ []) × ((all : List ℕ) → Copies uses (root ∷ []) all → all ≡ left_then)
turn_ended uses root left left_then entered around at next past is none c = (
  ended.0,
  ended.1,
  is,
  innermost uses root left entered at next (reverse around) c,
  ap (λ r. at ∷ map (λ g. g.0) (reverse r)) none,
  λ all t. sym (closed uses left left_then at next [] all (drop_all next (get_or uses at []) past) is (alone.each all t)),
)
  where
    alone : Copying uses root left entered ((at, next) ∷ [])
    alone = subst (λ r. Copying uses root left entered ((at, next) ∷ reverse r)) none c

    ended : Copies uses (root ∷ []) left_then × (length left_then ≤ 4096)
    ended = copies_end uses root left left_then entered at next past is alone

-- the open copies behind a turn
pub opened_frames : (at next to at_then next_then : ℕ) (around around_then : List Frame) → at_then ≡ to → next_then ≡ 0 → around_then ≡ around ++ (at, next + 1) ∷ [] → (at_then, next_then) ∷ reverse around_then ≡ (to, 0) ∷ (at, next + 1) ∷ reverse around
opened_frames at next to at_then next_then around around_then ea en eo =
    ap (λ a. (a, next_then) ∷ reverse around_then) ea ∙ ap (λ n. (to, n) ∷ reverse around_then) en ∙ ap (λ r. (to, 0) ∷ r) (ap reverse eo ∙ reverse-append around ((at, next + 1) ∷ []))

pub closed_frames : (at next : ℕ) (f : Frame) (around around_then : List Frame) → around ≡ around_then ++ f ∷ [] → (at, next) ∷ reverse around ≡ (at, next) ∷ (f.0, f.1) ∷ reverse around_then
closed_frames at next f around around_then popped = ap (λ r. (at, next) ∷ r) (ap reverse popped ∙ reverse-append around_then (f ∷ []))

pub rows_within : (outs : List (Vec ℕ Global)) → All (λ out. All (λ m. m < length outs) out) (lists_in outs) → All (λ out. All (λ m. m < length (lists_in outs)) out) (lists_in outs)
rows_within outs all = subst (λ n. All (λ out. All (λ m. m < n) out) (lists_in outs)) (sym (rows_are outs)) all

-- the list of the innermost
pub row_at : (outs : List (Vec ℕ Global)) (root : ℕ) (left : List ℕ) (entered at next : ℕ) (fs : List Frame) (out : Vec ℕ Global) → Copying (lists_in outs) root left entered ((at, next) ∷ fs) → out ≡ get_or outs at out → out.items ≡ get_or (lists_in outs) at []
row_at outs root left entered at next fs out c is = row_is outs at out (subst (λ n. at < n) (rows_are outs) (innermost (lists_in outs) root left entered at next fs c)) is

pub begun : (outs : List (Vec ℕ Global)) (root : ℕ) (left : List ℕ) (around : List Frame) → root < length outs → left ≡ [] → around ≡ [] → Copying (lists_in outs) root left 1 ((root, 0) ∷ reverse around)
begun outs root left around h none outermost =
    subst (λ l. Copying (lists_in outs) root l 1 ((root, 0) ∷ reverse around)) (sym none) (subst (λ a. Copying (lists_in outs) root [] 1 ((root, 0) ∷ reverse a)) (sym outermost) (copies_begin (lists_in outs) root (subst (λ n. root < n) (sym (rows_are outs)) h)))
