-- The walk from the root: each move leaves less to do, and what is left to do is the rest of the walk.
use Rattle.std.proofs.Common.{◌≡◌, ℕ, zero, suc, ◌+◌, ◌<◌, ◌≤◌, List, [], ◌∷◌, ◌++◌, length, map, drop, get_or, refl, sym, ap, subst, ◌∙◌, Bool, true, false, true≢false, arith, inl, inr, replicate, reverse}
use Rattle.std.specs.Prelude.{◌⊎◌, slice_set, Contains, Vec}
use Rattle.std.specs.Global.{Global}
use Rattle.std.proofs.lemmas.List.{drop_more, drop_all, length-set, length-replicate, length-map, get_or-map, reverse-append}
use Rattle.std.proofs.lemmas.List.Elements.{Contains-append_left, Contains-push, Contains-push_cases, Contains-get_or}
use Rattle.lp_lemmas.proofs.Elements.{Contains_head, Contains_tail}
use Rattle.lp_module.specs.Order.{Way, out_of, used_by, Leads, there, HasNoCircle, Visits, visited, again, first_time}
use Rattle.lp_module.specs.Searching.{IsMarked, Frame, IsPath, Rest, load, open_load, Goes, ways_in, AreWithin}
use Rattle.lp_module.proofs.Marks.{set_marks, set_keeps, set_cases, none_marked}
use Rattle.lp_module.proofs.Reaching.{leads_on, out_is, count_is, words_within}

nothing_in : {X : Type 0} (x : X) → Contains [] x → ⊥
nothing_in x (k, h, e) = omega (arith, h)

first_or_later : {X : Type 0} (x y : X) (xs : List X) → Contains (x ∷ xs) y → (x ≡ y) ⊎ Contains xs y
first_or_later x y xs (zero, h, e) = inl e
first_or_later x y xs (suc k, h, e) = inr (k, omega (arith, h), e)

-- the modules that are open lead to the innermost
open_leads : (ways : List (List Way)) (at : ℕ) (fs : List Frame) (m : ℕ) → IsPath ways at fs → Contains (at ∷ map (λ f. f.0) fs) m → Leads ways m at
open_leads ways at [] m p c = by (first_or_later at m [] c)
  where
    by : (at ≡ m) ⊎ Contains [] m → Leads ways m at
    by (inl e) = subst (λ x. Leads ways x at) e (there at)
    by (inr d) = absurd (nothing_in m d)
open_leads ways at (f ∷ fs) m p c = by (open_leads ways f.0 fs m p.2) (first_or_later at m (map (λ g. g.0) (f ∷ fs)) c)
  where
    by : (Contains (f.0 ∷ map (λ g. g.0) fs) m → Leads ways m f.0) → (at ≡ m) ⊎ Contains (f.0 ∷ map (λ g. g.0) fs) m → Leads ways m at
    by ih (inl e) = subst (λ x. Leads ways x at) e (there at)
    by ih (inr d) = leads_on ways m f.0 at (ih d) p.1

-- the next module that one accumulates
next_used : (ways : List (List Way)) (at next : ℕ) (d : Way) → next < length (out_of ways at) → drop next (used_by ways at) ≡ (get_or (out_of ways at) next d).1 ∷ drop (next + 1) (used_by ways at)
next_used ways at next d h =
    drop_more (used_by ways at) next d.1 (subst (λ n. next < n) (sym (length-map (out_of ways at) (λ w. w.1))) h) ∙
    ap (λ m. m ∷ drop (next + 1) (used_by ways at)) (get_or-map (λ w. w.1) (out_of ways at) next d d.1 h)

is_used : (ways : List (List Way)) (at next : ℕ) (d : Way) → next < length (out_of ways at) → Contains (used_by ways at) (get_or (out_of ways at) next d).1
is_used ways at next d h = subst (Contains (used_by ways at)) (get_or-map (λ w. w.1) (out_of ways at) next d d.1 h) (Contains-get_or (used_by ways at) next d.1 (subst (λ n. next < n) (sym (length-map (out_of ways at) (λ w. w.1))) h))

used_count : (ways : List (List Way)) (m : ℕ) → length (used_by ways m) ≡ length (out_of ways m)
used_count ways m = length-map (out_of ways m) (λ w. w.1)

-- the root is entered
pub begins : (ways : List (List Way)) (root : ℕ) (marks : List Bool) → root < length ways → marks ≡ replicate (length ways) false → Goes ways root (slice_set marks root true) [] root 0 []
begins ways root marks h e = record {
  count = length-set marks root true ∙ n;
  within = h;
  opened = λ m c. first_marked m (first_or_later root m [] c);
  placed = λ m c. absurd (nothing_in m c);
  known = λ m k. inr (elim (set_cases marks root m k) [
    | inl old ↦ absurd (none_marked (length ways) m (subst (λ l. IsMarked l m) e old))
    | inr is ↦ subst (λ x. Contains (root ∷ []) x) (sym is) (Contains_head root [])
  ]);
  path = tt;
  rest = λ after (between, v, is). first_time [] between [] after root (nothing_in root) v (subst (Visits ways (between ++ root ∷ []) []) is (visited (between ++ root ∷ [])));
}
  where
    n : length marks ≡ length ways
    n = ap length e ∙ length-replicate (length ways) false

    first_marked : (m : ℕ) → (root ≡ m) ⊎ Contains [] m → IsMarked (slice_set marks root true) m
    first_marked m (inl is) = subst (IsMarked (slice_set marks root true)) is (set_marks marks root (subst (λ i. root < i) (sym n) h))
    first_marked m (inr c) = absurd (nothing_in m c)

-- the next one was met: it was left, since an open one would lead back
pub skips : (ways : List (List Way)) (root : ℕ) (seen : List Bool) (order : List ℕ) (at next : ℕ) (fs : List Frame) (d : Way) → HasNoCircle ways → next < length (out_of ways at) →
    IsMarked seen (get_or (out_of ways at) next d).1 → Goes ways root seen order at next fs → Goes ways root seen order at (next + 1) fs
skips ways root seen order at next fs d free h k g = record {
  count = g.count;
  within = g.within;
  opened = g.opened;
  placed = g.placed;
  known = g.known;
  path = g.path;
  rest = λ after (between, v, r). g.rest after (between, subst (λ us. Visits ways order us between) (sym (next_used ways at next d h)) (again order (drop (next + 1) (used_by ways at)) between to left v), r);
}
  where
    to : ℕ
    to = (get_or (out_of ways at) next d).1

    by : Contains order to ⊎ Contains (at ∷ map (λ f. f.0) fs) to → Contains order to
    by (inl c) = c
    by (inr c) = absurd (free at next d h (open_leads ways at fs to g.path c))

    left : Contains order to
    left = by (g.known to k)

-- the next one is entered
pub enters : (ways : List (List Way)) (root : ℕ) (seen : List Bool) (order : List ℕ) (at next : ℕ) (fs : List Frame) (d : Way) → next < length (out_of ways at) →
    (get_or (out_of ways at) next d).1 < length ways → get_or seen (get_or (out_of ways at) next d).1 false ≡ false → Goes ways root seen order at next fs →
    Goes ways root (slice_set seen (get_or (out_of ways at) next d).1 true) order (get_or (out_of ways at) next d).1 0 ((at, next + 1) ∷ fs)
enters ways root seen order at next fs d h within new g = record {
  count = length-set seen to true ∙ g.count;
  within = within;
  opened = λ m c. open_marked m (first_or_later to m (at ∷ map (λ f. f.0) fs) c);
  placed = λ m c. set_keeps seen to m inside (g.placed m c);
  known = λ m k. by m (set_cases seen to m k);
  path = (g.within, is_used ways at next d h, g.path);
  rest = λ after (between, v, (further, u, r)). g.rest after (further, subst (λ us. Visits ways order us further) (sym (next_used ways at next d h)) (first_time order between (drop (next + 1) (used_by ways at)) further to not_yet v u), r);
}
  where
    to : ℕ
    to = (get_or (out_of ways at) next d).1

    inside : to < length seen
    inside = subst (λ n. to < n) (sym g.count) within

    open_marked : (m : ℕ) → (to ≡ m) ⊎ Contains (at ∷ map (λ f. f.0) fs) m → IsMarked (slice_set seen to true) m
    open_marked m (inl e) = subst (IsMarked (slice_set seen to true)) e (set_marks seen to inside)
    open_marked m (inr c) = set_keeps seen to m inside (g.opened m c)

    not_yet : Contains order to → ⊥
    not_yet c = true≢false (sym (g.placed to c) ∙ new)

    by : (m : ℕ) → IsMarked seen m ⊎ (m ≡ to) → Contains order m ⊎ Contains (to ∷ at ∷ map (λ f. f.0) fs) m
    by m (inr e) = inr (subst (Contains (to ∷ at ∷ map (λ f. f.0) fs)) (sym e) (Contains_head to (at ∷ map (λ f. f.0) fs)))
    by m (inl k) = elim (g.known m k) [ inl c ↦ inl c | inr c ↦ inr (Contains_tail to m (at ∷ map (λ f. f.0) fs) c) ]

-- the innermost is left
leaves_to : (ways : List (List Way)) (order order_then : List ℕ) (at next : ℕ) (fs : List Frame) (after : List ℕ) → length (out_of ways at) ≤ next → order_then ≡ order ++ at ∷ [] → Rest ways order_then fs after → Rest ways order ((at, next) ∷ fs) after
leaves_to ways order order_then at next fs after h is r =
    (order, subst (λ us. Visits ways order us order) (sym (drop_all next (used_by ways at) (subst (λ n. n ≤ next) (sym (used_count ways at)) h))) (visited order), subst (λ o. Rest ways o fs after) is r)

pub leaves : (ways : List (List Way)) (root : ℕ) (seen : List Bool) (order order_then : List ℕ) (at next : ℕ) (f : Frame) (fs : List Frame) → length (out_of ways at) ≤ next → order_then ≡ order ++ at ∷ [] → Goes ways root seen order at next (f ∷ fs) → Goes ways root seen order_then f.0 f.1 fs
leaves ways root seen order order_then at next f fs h is g = record {
  count = g.count;
  within = g.path.0;
  opened = λ m c. g.opened m (Contains_tail at m (f.0 ∷ map (λ x. x.0) fs) c);
  placed = λ m c. in_order m (Contains-push_cases order at m (subst (λ o. Contains o m) is c));
  known = λ m k. by m (g.known m k);
  path = g.path.2;
  rest = λ after r. g.rest after (leaves_to ways order order_then at next (f ∷ fs) after h is r);
}
  where
    at_marked : IsMarked seen at
    at_marked = g.opened at (Contains_head at (f.0 ∷ map (λ x. x.0) fs))

    in_order : (m : ℕ) → Contains order m ⊎ (at ≡ m) → IsMarked seen m
    in_order m (inl c) = g.placed m c
    in_order m (inr e) = subst (IsMarked seen) e at_marked

    by : (m : ℕ) → Contains order m ⊎ Contains (at ∷ f.0 ∷ map (λ x. x.0) fs) m → Contains order_then m ⊎ Contains (f.0 ∷ map (λ x. x.0) fs) m
    by m (inl c) = inl (subst (λ o. Contains o m) (sym is) (Contains-append_left order (at ∷ []) m c))
    by m (inr c) = elim (first_or_later at m (f.0 ∷ map (λ x. x.0) fs) c) [
      | inl e ↦ inl (subst (λ o. Contains o m) (sym is) (subst (Contains (order ++ at ∷ [])) e (Contains-push order at)))
      | inr d ↦ inr d
    ]

pub ends : (ways : List (List Way)) (root : ℕ) (seen : List Bool) (order order_then : List ℕ) (at next : ℕ) → length (out_of ways at) ≤ next → order_then ≡ order ++ at ∷ [] → Goes ways root seen order at next [] → Visits ways [] (root ∷ []) order_then
ends ways root seen order order_then at next h is g = g.rest order_then (leaves_to ways order order_then at next [] order_then h is refl)

-- measures

load_less : (ways : List (List Way)) (seen : List Bool) (m : ℕ) → m < length ways → length seen ≡ length ways → get_or seen m false ≡ false → load ways (slice_set seen m true) + suc (length (out_of ways m)) ≡ load ways seen
load_less [] seen m h n e = absurd (omega (arith, h))
load_less (o ∷ os) [] m h n e = absurd (omega (arith, n))
load_less (o ∷ os) (true ∷ bs) zero h n e = absurd (true≢false e)
load_less (o ∷ os) (false ∷ bs) zero h n e = omega arith
load_less (o ∷ os) (true ∷ bs) (suc m) h n e = load_less os bs m (omega (arith, h)) (omega (arith, n)) e
load_less (o ∷ os) (false ∷ bs) (suc m) h n e =
    let r : load os (slice_set bs m true) + suc (length (out_of os m)) ≡ load os bs = load_less os bs m (omega (arith, h)) (omega (arith, n)) e in
    omega (arith, r)

pub skip_falls : (ways : List (List Way)) (seen : List Bool) (at next : ℕ) (fs : List Frame) → next < length (out_of ways at) → load ways seen + open_load ways ((at, next + 1) ∷ fs) < load ways seen + open_load ways ((at, next) ∷ fs)
skip_falls ways seen at next fs h =
    let n = used_count ways at in
    omega (arith, h, n)

pub enter_falls : (ways : List (List Way)) (seen : List Bool) (at next to : ℕ) (fs : List Frame) → next < length (out_of ways at) → to < length ways → length seen ≡ length ways → get_or seen to false ≡ false →
    load ways (slice_set seen to true) + open_load ways ((to, 0) ∷ (at, next + 1) ∷ fs) < load ways seen + open_load ways ((at, next) ∷ fs)
enter_falls ways seen at next to fs h within count new =
    let n = used_count ways at in
    let m = used_count ways to in
    let l = load_less ways seen to within count new in
    omega (arith, h, n, m, l)

pub leave_falls : (ways : List (List Way)) (seen : List Bool) (at next : ℕ) (fs : List Frame) → load ways seen + open_load ways fs < load ways seen + open_load ways ((at, next) ∷ fs)
leave_falls ways seen at next fs = omega arith

-- moves, seen from the fields of a walk

moved_to : (P : List Bool → List ℕ → ℕ → ℕ → List Frame → Type 0) {seen seen_then : List Bool} {order order_then : List ℕ} {at at_then next next_then : ℕ} {around around_then : List Frame} →
    seen_then ≡ seen → order_then ≡ order → at_then ≡ at → next_then ≡ next → around_then ≡ around → P seen order at next around → P seen_then order_then at_then next_then around_then
moved_to P {seen = seen} {seen_then = s} {order = order} {order_then = o} {at = at} {at_then = a} {next = next} {next_then = n} {around = around} {around_then = r} e f g h i p =
    subst (λ x. P x o a n r) (sym e) (subst (λ x. P seen x a n r) (sym f) (subst (λ x. P seen order x n r) (sym g) (subst (λ x. P seen order at x r) (sym h) (subst (P seen order at next) (sym i) p))))

pub begins_at : (ways : List (List Way)) (root n : ℕ) (marks seen : List Bool) (order : List ℕ) (around : List Frame) → root < length ways → n ≡ length ways → marks ≡ replicate n false → seen ≡ slice_set marks root true → order ≡ [] → around ≡ [] → Goes ways root seen order root 0 (reverse around)
begins_at ways root n marks seen order around h same e is none outermost =
    moved_to (λ s o a k r. Goes ways root s o a k (reverse r)) is none refl refl outermost (begins ways root marks h (e ∙ ap (λ k. replicate k false) same))

-- the module that a word of the innermost names
pub to_within : (outs : List (Vec Way Global)) (at next n : ℕ) (out : Vec Way Global) (w : Way) → AreWithin (ways_in outs) → at < length (ways_in outs) → out ≡ get_or outs at out → next < length out.items → w ≡ get_or out.items next w → n ≡ length (ways_in outs) → w.1 < n
to_within outs at next n out w a h out_at inside w_at e =
    subst (λ k. w.1 < k) (sym e) (subst (λ v. v.1 < length (ways_in outs)) (sym w_at) (words_within (ways_in outs) at out.items a (out_is outs at out (subst (λ k. at < k) (count_is outs) h) out_at) next w inside))

abbrev pub Went : List (List Way) → ℕ → ℕ → List Bool → List ℕ → ℕ → ℕ → List Frame → Type 0
Went ways root bound seen order at next around = Goes ways root seen order at next (reverse around) × (load ways seen + open_load ways ((at, next) ∷ reverse around) < bound)

met : (ways : List (List Way)) (root : ℕ) (seen seen_then : List Bool) (order order_then : List ℕ) (at at_then next next_then : ℕ) (around around_then : List Frame) (to : ℕ) (d : Way) (t : Bool) →
    HasNoCircle ways → next < length (out_of ways at) → to ≡ (get_or (out_of ways at) next d).1 → to < length ways → order_then ≡ order →
    (IsMarked seen to → (seen_then ≡ seen) × (around_then ≡ around) × (at_then ≡ at) × (next_then ≡ next + 1)) →
    (get_or seen to false ≡ false → (seen_then ≡ slice_set seen to true) × (around_then ≡ around ++ (at, next + 1) ∷ []) × (at_then ≡ to) × (next_then ≡ 0)) →
    Goes ways root seen order at next (reverse around) → get_or seen to false ≡ t → Went ways root (load ways seen + open_load ways ((at, next) ∷ reverse around)) seen_then order_then at_then next_then around_then
met ways root seen seen_then order order_then at at_then next next_then around around_then to d true free h is within same skip first g e =
    let (s, r, a, n) = skip e in
    moved_to (Went ways root (load ways seen + open_load ways ((at, next) ∷ reverse around))) s same a n r
    (skips ways root seen order at next (reverse around) d free h (subst (IsMarked seen) is e) g, skip_falls ways seen at next (reverse around) h)
met ways root seen seen_then order order_then at at_then next next_then around around_then to d false free h is within same skip first g e =
    let (s, r, a, n) = first e in
    moved_to (Went ways root (load ways seen + open_load ways ((at, next) ∷ reverse around))) s same a n r (
      subst (Goes ways root (slice_set seen to true) order to 0) (sym (reverse-append around ((at, next + 1) ∷ [])))
          (subst (λ x. Goes ways root (slice_set seen x true) order x 0 ((at, next + 1) ∷ reverse around)) (sym is)
          (enters ways root seen order at next (reverse around) d h (subst (λ x. x < length ways) is within) (subst (λ x. get_or seen x false ≡ false) is e) g)),
      subst (λ r. load ways (slice_set seen to true) + open_load ways ((to, 0) ∷ r) < load ways seen + open_load ways ((at, next) ∷ reverse around)) (sym (reverse-append around ((at, next + 1) ∷ [])))
          (enter_falls ways seen at next to (reverse around) h within g.count e),
    )

pub meets : (outs : List (Vec Way Global)) (root : ℕ) (seen seen_then : List Bool) (order order_then : List ℕ) (at at_then next next_then : ℕ) (around around_then : List Frame) (out : Vec Way Global) (w : Way) →
    HasNoCircle (ways_in outs) → AreWithin (ways_in outs) → out ≡ get_or outs at out → next < length out.items → w ≡ get_or out.items next w → order_then ≡ order →
    (IsMarked seen w.1 → (seen_then ≡ seen) × (around_then ≡ around) × (at_then ≡ at) × (next_then ≡ next + 1)) →
    (get_or seen w.1 false ≡ false → (seen_then ≡ slice_set seen w.1 true) × (around_then ≡ around ++ (at, next + 1) ∷ []) × (at_then ≡ w.1) × (next_then ≡ 0)) →
    Goes (ways_in outs) root seen order at next (reverse around) → Went (ways_in outs) root (load (ways_in outs) seen + open_load (ways_in outs) ((at, next) ∷ reverse around)) seen_then order_then at_then next_then around_then
meets outs root seen seen_then order order_then at at_then next next_then around around_then out w free a out_at inside w_at same skip first g =
    met (ways_in outs) root seen seen_then order order_then at at_then next next_then around around_then w.1 w (get_or seen w.1 false) free (subst (λ l. next < length l) words inside)
    (ap (λ v. v.1) w_at ∙ ap (λ l. (get_or l next w).1) words) (to_within outs at next (length (ways_in outs)) out w a g.within out_at inside w_at refl) same skip first g refl
  where
    words : out.items ≡ out_of (ways_in outs) at
    words = out_is outs at out (subst (λ k. at < k) (count_is outs) g.within) out_at

left_count : (outs : List (Vec Way Global)) (at next : ℕ) (out : Vec Way Global) → at < length (ways_in outs) → out ≡ get_or outs at out → length out.items ≤ next → length (out_of (ways_in outs) at) ≤ next
left_count outs at next out h out_at past = subst (λ l. length l ≤ next) (out_is outs at out (subst (λ k. at < k) (count_is outs) h) out_at) past

pub ended : (outs : List (Vec Way Global)) (root : ℕ) (seen : List Bool) (order order_then : List ℕ) (at next : ℕ) (around : List Frame) (out : Vec Way Global) → out ≡ get_or outs at out → length out.items ≤ next → order_then ≡ order ++ at ∷ [] → around ≡ [] →
    Goes (ways_in outs) root seen order at next (reverse around) → Visits (ways_in outs) [] (root ∷ []) order_then
ended outs root seen order order_then at next around out out_at past is none g =
    ends (ways_in outs) root seen order order_then at next (left_count outs at next out g.within out_at past) is (subst (λ r. Goes (ways_in outs) root seen order at next (reverse r)) none g)

pub left : (outs : List (Vec Way Global)) (root : ℕ) (seen : List Bool) (order order_then : List ℕ) (at next : ℕ) (around around_then : List Frame)
    (f : Frame) (out : Vec Way Global) → out ≡ get_or outs at out → length out.items ≤ next → order_then ≡ order ++ at ∷ [] → around ≡ around_then ++
    f ∷ [] →
    Goes (ways_in outs) root seen order at next (reverse around) → Went (ways_in outs) root (load (ways_in outs) seen + open_load (ways_in outs) ((at, next) ∷ reverse around)) seen order_then f.0 f.1 around_then
left outs root seen order order_then at next around around_then f out out_at past is popped g = (
  leaves (ways_in outs) root seen order order_then at next f (reverse around_then) (left_count outs at next out g.within out_at past) is (subst (Goes (ways_in outs) root seen order at next) outer g),
  subst (λ r. load (ways_in outs) seen + open_load (ways_in outs) ((f.0, f.1) ∷ reverse around_then) < load (ways_in outs) seen + open_load (ways_in outs) ((at, next) ∷ r)) (sym outer) (leave_falls (ways_in outs) seen at next (f ∷ reverse around_then)),
)
  where
    outer : reverse around ≡ f ∷ reverse around_then
    outer = ap reverse popped ∙ reverse-append around_then (f ∷ [])
