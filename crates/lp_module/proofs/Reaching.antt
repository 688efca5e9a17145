-- The modules to which one leads: what is taken up is kept right, and when all that was found has been looked through, all are found.
use Rattle.std.proofs.Common.{◌≡◌, ℕ, zero, suc, ◌+◌, ◌<◌, ◌≤◌, List, [], ◌∷◌, ◌++◌, length, map, take, drop, get_or, refl, sym, ap, subst, ◌∙◌, Bool, true, false, true≢false, arith, inl, inr, replicate, append_assoc, Option, Some, None}
use Rattle.std.specs.Prelude.{◌⊎◌, slice_set, All, Contains, Vec}
use Rattle.std.specs.Global.{Global}
use Rattle.std.proofs.lemmas.List.{length-append, length-set, get_or_append_left, get_or_past, get_or_default, get_or-map, take_more, take_all, take-append-drop, drop_more, length-replicate, length-map, append-nil}
use Rattle.std.proofs.lemmas.Bool.{cases_lt}
use Rattle.std.proofs.lemmas.List.Elements.{All-nil, All-map, All-push, All-contains, All-weaker, Contains-append_left, Contains-push, Contains-get_or}
use Rattle.lp_base.specs.declared.place.Spot.{Spot}
use Rattle.lp_module.specs.Order.{Way, out_of, used_by, Leads, there, onward, LeadNowhereBack, HasNoCircle, IsFirstCircle}
use Rattle.lp_module.specs.Searching.{ways_in, AreWithin, IsMarked, unmarked, IsFound, FindsMore, AreClosed, IsReached, AreReached, IsFirstBack}
use Rattle.lp_module.proofs.Marks.{set_cases, set_count, none_marked, all_unmarked}

-- nothing was found yet
nothing_found : (ways : List (List Way)) (from : ℕ) (marks : List Bool) → marks ≡ replicate (length ways) false → IsFound ways from marks []
nothing_found ways from marks e = record {
  count = ap length e ∙ length-replicate (length ways) false;
  places = let p : unmarked marks ≡ length ways = ap unmarked e ∙ all_unmarked (length ways) in omega (arith, p);
  listed = λ m k. absurd (none_marked (length ways) m (subst (λ l. IsMarked l m) e k));
  within = All-nil (λ m. m < length ways);
  leads = All-nil (Leads ways from);
}

pub found_none : (ways : List (List Way)) (from n : ℕ) (marks : List Bool) (found : List ℕ) → found ≡ [] → n ≡ length ways → marks ≡ replicate n false → IsFound ways from marks found
found_none ways from n marks found none same is = subst (IsFound ways from marks) (sym none) (nothing_found ways from marks (is ∙ ap (λ k. replicate k false) same))

-- one more was found
pub found_one : (ways : List (List Way)) (from to : ℕ) (marks : List Bool) (found found_then : List ℕ) → to < length marks → get_or marks to false ≡ false → found_then ≡ found ++ to ∷ [] →
    Leads ways from to → IsFound ways from marks found → IsFound ways from (slice_set marks to true) found_then
found_one ways from to marks found found_then h new is leads f = record {
  count = length-set marks to true ∙ f.count;
  places =
      let c = set_count marks to h new in
      let l : length found_then ≡ length found + 1 = ap length is ∙ length-append found (to ∷ []) in
      let p = f.places in
      omega (arith, c, l, p);
  listed = λ m k. subst (λ l. Contains l m) (sym is) (elim (set_cases marks to m k) [
    | inl old ↦ Contains-append_left found (to ∷ []) m (f.listed m old)
    | inr e ↦ subst (λ i. Contains (found ++ to ∷ []) i) (sym e) (Contains-push found to)
  ]);
  within = subst (All (λ m. m < length ways)) (sym is) (All-push (λ m. m < length ways) found to f.within (subst (λ n. to < n) f.count h));
  leads = subst (All (Leads ways from)) (sym is) (All-push (Leads ways from) found to f.leads leads);
}

pub finds_same : (marks : List Bool) (found : List ℕ) → FindsMore marks found marks found
finds_same marks found = record { more = []; is = sym (append-nil found); keeps = λ m k. k; as_many = refl }

pub finds_then : (a b c : List Bool) (x y z : List ℕ) → FindsMore a x b y → FindsMore b y c z → FindsMore a x c z
finds_then a b c x y z f g = record {
  more = f.more ++ g.more;
  is = g.is ∙ ap (λ l. l ++ g.more) f.is ∙ append_assoc x f.more g.more;
  keeps = λ m k. g.keeps m (f.keeps m k);
  as_many = g.as_many ∙ f.as_many;
}

-- a module that leads to another, which leads to a third, and the last step apart
pub leads_on : (ways : List (List Way)) (a b c : ℕ) → Leads ways a b → Contains (used_by ways b) c → Leads ways a c
leads_on ways a b c (there m) u = onward a c c u (there c)
leads_on ways a b c (onward m k n v l) u = onward a k c v (leads_on ways k b c l u)

-- the words of a module lead on from it
pub words_lead : (ways : List (List Way)) (from m : ℕ) (words : List Way) → words ≡ out_of ways m → Leads ways from m → All (λ w. Leads ways from w.1) words
words_lead ways from m words e l = λ k d h.
    leads_on ways from m (get_or words k d).1 l (subst (λ o. Contains (map (λ w. w.1) o) (get_or words k d).1) e (Contains-map words k d h))
  where
    Contains-map : (ws : List Way) (k : ℕ) (d : Way) → k < length ws → Contains (map (λ w. w.1) ws) (get_or ws k d).1
    Contains-map ws k d h = subst (Contains (map (λ w. w.1) ws)) (get_or-map (λ w. w.1) ws k d d.1 h) (Contains-get_or (map (λ w. w.1) ws) k d.1 (subst (λ n. k < n) (sym (length-map ws (λ w. w.1))) h))

-- the ways of one vector
pub out_is : (outs : List (Vec Way Global)) (m : ℕ) (out : Vec Way Global) → m < length outs → out ≡ get_or outs m out → out.items ≡ out_of (ways_in outs) m
out_is [] m out h e = absurd (omega (arith, h))
out_is (o ∷ os) zero out h e = ap (λ v. v.items) e
out_is (o ∷ os) (suc m) out h e = out_is os m out (omega (arith, h)) e

pub count_is : (outs : List (Vec Way Global)) → length (ways_in outs) ≡ length outs
count_is outs = length-map outs (λ out. out.items)

-- each word leads to a module
pub words_within : (ways : List (List Way)) (m : ℕ) (words : List Way) → AreWithin ways → words ≡ out_of ways m → All (λ w. w.1 < length ways) words
words_within ways m words a e = subst (All (λ w. w.1 < length ways)) (sym e) (by (cases_lt m (length ways)))
  where
    by : (m < length ways) ⊎ (length ways ≤ m) → All (λ w. w.1 < length ways) (out_of ways m)
    by (inl h) = a m [] h
    by (inr h) = subst (All (λ w. w.1 < length ways)) (sym (get_or_past ways m [] h)) (All-nil (λ w. w.1 < length ways))

pub closed_more : (ways : List (List Way)) (marks marks_then : List Bool) (found found_then : List ℕ) (next : ℕ) (words : List Way) → next < length found → words ≡ out_of ways (get_or found next 0) →
    FindsMore marks found marks_then found_then → All (λ w. IsMarked marks_then w.1) words → AreClosed ways marks found next → AreClosed ways marks_then found_then (next + 1)
closed_more ways marks marks_then found found_then next words h e f new old k l = by (cases_lt k next)
  where
    same : get_or found_then k 0 ≡ get_or found k 0
    same = ap (λ x. get_or x k 0) f.is ∙ get_or_append_left found f.more 0 k (omega (arith, h, l))

    by : (k < next) ⊎ (next ≤ k) → All (λ w. IsMarked marks_then w.1) (out_of ways (get_or found_then k 0))
    by (inl b) = subst (λ m. All (λ w. IsMarked marks_then w.1) (out_of ways m)) (sym same) (All-weaker (λ w. IsMarked marks w.1) (λ w. IsMarked marks_then w.1) (λ w. f.keeps w.1) (out_of ways (get_or found k 0)) (old k b))
    by (inr b) =
        let is : k ≡ next = omega (arith, b, l) in
        subst (λ m. All (λ w. IsMarked marks_then w.1) (out_of ways m)) (sym (same ∙ ap (λ i. get_or found i 0) is)) (subst (All (λ w. IsMarked marks_then w.1)) e new)

-- all was looked through
pub all_reached : (ways : List (List Way)) (from : ℕ) (marks : List Bool) (found : List ℕ) (next : ℕ) → length found ≤ next → IsMarked marks from → IsFound ways from marks found → AreClosed ways marks found next → IsReached ways from marks
all_reached ways from marks found next h start f closed = record {
  count = f.count;
  leads = λ m k. All-contains (Leads ways from) found m f.leads (f.listed m k);
  marked = λ m l. onwards from m start l;
}
  where
    used : (m k : ℕ) → IsMarked marks m → Contains (used_by ways m) k → IsMarked marks k
    used m k i c =
        let (place, within, at) = f.listed m i in
        let all = subst (λ x. All (λ w. IsMarked marks w.1) (out_of ways x)) (get_or_default found place 0 m within ∙ at) (closed place (omega (arith, h, within))) in
        All-contains (IsMarked marks) (used_by ways m) k (All-map (IsMarked marks) (λ w. w.1) (out_of ways m) all) c

    onwards : (m n : ℕ) → IsMarked marks m → Leads ways m n → IsMarked marks n
    onwards m n i (there x) = i
    onwards m n i (onward x k y u l) = onwards k n (used m k i u) l

-- some words were looked at
abbrev pub FoundSo : List Way → List Bool → List ℕ → List Bool → List ℕ → ℕ → Type 0
FoundSo words m0 f0 m1 f1 i =
    FindsMore m0 f0 m1 f1 ×
    All (λ w. IsMarked m1 w.1) (take i words) ×
    ((ways : List (List Way)) (from : ℕ) → All (λ w. Leads ways from w.1) words → IsFound ways from m0 f0 → IsFound ways from m1 f1)

-- one more word was
pub found_more : (words : List Way) (m0 m1 m2 : List Bool) (f0 f1 f2 : List ℕ) (i : ℕ) (w : Way) → i < length words → w ≡ get_or words i w → FoundSo words m0 f0 m1 f1 i → FindsMore m1 f1 m2 f2 → IsMarked m2 w.1 →
    ((ways : List (List Way)) (from : ℕ) → Leads ways from w.1 → IsFound ways from m1 f1 → IsFound ways from m2 f2) → FoundSo words m0 f0 m2 f2 (i + 1)
found_more words m0 m1 m2 f0 f1 f2 i w h at (more, marked, kept) step new keeps = (
  finds_then m0 m1 m2 f0 f1 f2 more step,
  subst (All (λ v. IsMarked m2 v.1)) (sym (take_more words i w h ∙ ap (λ v. take i words ++ v ∷ []) (sym at)))
      (All-push (λ v. IsMarked m2 v.1) (take i words) w (All-weaker (λ v. IsMarked m1 v.1) (λ v. IsMarked m2 v.1) (λ v. step.keeps v.1) (take i words) marked) new),
  λ ways from all f. keeps ways from (subst (λ v. Leads ways from v.1) (sym at) (all i w h)) (kept ways from all f),
)

-- the modules that a vector's words name
pub places_of : (outs : List (Vec Way Global)) (m n : ℕ) (out : Vec Way Global) → AreWithin (ways_in outs) → m < length outs → out ≡ get_or outs m out → n ≡ length outs → All (λ w. w.1 < n) out.items
places_of outs m n out a h at e =
    subst (λ k. All (λ w. w.1 < k) out.items) (count_is outs ∙ sym e) (words_within (ways_in outs) m out.items a (out_is outs m out h at))

-- the words of the next module that was found were looked at
pub looked_through : (outs : List (Vec Way Global)) (from : ℕ) (marks marks_then : List Bool) (found found_then : List ℕ) (next m : ℕ) (out : Vec Way Global) →
    next < length found → m ≡ get_or found next m → out ≡ get_or outs m out →
    IsFound (ways_in outs) from marks found × AreClosed (ways_in outs) marks found next × IsMarked marks from →
    FindsMore marks found marks_then found_then → All (λ w. IsMarked marks_then w.1) out.items →
    ((ways : List (List Way)) (from : ℕ) → All (λ w. Leads ways from w.1) out.items → IsFound ways from marks found → IsFound ways from marks_then found_then) →
    IsFound (ways_in outs) from marks_then found_then × AreClosed (ways_in outs) marks_then found_then (next + 1) × IsMarked marks_then from
looked_through outs from marks marks_then found found_then next m out h at out_at (f, closed, start) more marked keeps = (
  keeps W from (words_lead W from m out.items words leads) f,
  closed_more W marks marks_then found found_then next out.items h (words ∙ ap (out_of W) (at ∙ get_or_default found next m 0 h)) more marked closed,
  more.keeps from start,
)
  where
    W : List (List Way)
    W = ways_in outs

    within : m < length outs
    within = subst (λ k. k < length outs) (sym at) (subst (λ n. get_or found next m < n) (count_is outs) (f.within next m h))

    leads : Leads W from m
    leads = subst (Leads W from) (sym at) (f.leads next m h)

    words : out.items ≡ out_of W m
    words = out_is outs m out within out_at

-- a row has a mark for each module
row_fits : (reached : List (Vec Bool Global)) (home k : ℕ) (row : Vec Bool Global) → All (λ r. length r.items ≡ length reached) reached → home < length reached → k < length reached → row ≡ get_or reached k row → home < length row.items
row_fits reached home k row square h inside at =
    let e : length row.items ≡ length reached = subst (λ r. length r.items ≡ length reached) (sym at) (square k row inside) in
    omega (arith, e, h)

names_one : (out : List Way) (i n : ℕ) (w : Way) → i < length out → w ≡ get_or out i w → All (λ v. v.1 < n) out → w.1 < n
names_one out i n w h at all = subst (λ v. v.1 < n) (sym at) (all i w h)

-- a word that leads back, and one that does not
pub back_found : (ways : List (List Way)) (home : ℕ) (out : List Way) (i : ℕ) (w : Way) (reached : List (Vec Bool Global)) (row : Vec Bool Global) (b : Bool) → i < length out → w ≡ get_or out i w → All (λ v. v.1 < length reached) out → row ≡ get_or reached w.1 row →
    home < length reached → All (λ r. length r.items ≡ length reached) reached → b ≡ get_or row.items home b → b ≡ true → LeadNowhereBack ways home (take i out) → AreReached ways reached → IsFirstBack ways home out (Some w.0)
back_found ways home out i w reached row b h at places row_at home_in square b_at set before all = (
  take i out,
  w.1,
  drop (i + 1) out,
  sym (take-append-drop i out) ∙ ap (λ l. take i out ++ l) (drop_more out i w h ∙ ap (λ v. v ∷ drop (i + 1) out) (sym at)),
  (subst (λ r. IsReached ways w.1 r.items) (sym row_at) (all w.1 row inside)).leads home (get_or_default row.items home false b within ∙ sym b_at ∙ set),
  before,
)
  where
    inside : w.1 < length reached
    inside = names_one out i (length reached) w h at places

    within : home < length row.items
    within = row_fits reached home w.1 row square home_in inside row_at

pub back_not : (ways : List (List Way)) (home : ℕ) (out : List Way) (i : ℕ) (w : Way) (reached : List (Vec Bool Global)) (row : Vec Bool Global) (b : Bool) → i < length out → w ≡ get_or out i w → All (λ v. v.1 < length reached) out → row ≡ get_or reached w.1 row →
    home < length reached → All (λ r. length r.items ≡ length reached) reached → b ≡ get_or row.items home b → b ≡ false → LeadNowhereBack ways home (take i out) → AreReached ways reached → LeadNowhereBack ways home (take (i + 1) out)
back_not ways home out i w reached row b h at places row_at home_in square b_at unset before all =
    subst (LeadNowhereBack ways home) (sym (take_more out i w h ∙ ap (λ v. take i out ++ v ∷ []) (sym at)))
    (All-push (λ v. Leads ways v.1 home → ⊥) (take i out) w before (λ l. true≢false (sym ((subst (λ r. IsReached ways w.1 r.items) (sym row_at) (all w.1 row inside)).marked home l) ∙ get_or_default row.items home false b within ∙ sym b_at ∙ unset)))
  where
    inside : w.1 < length reached
    inside = names_one out i (length reached) w h at places

    within : home < length row.items
    within = row_fits reached home w.1 row square home_in inside row_at

pub back_none : (ways : List (List Way)) (home : ℕ) (out : List Way) (i : ℕ) → length out ≤ i → LeadNowhereBack ways home (take i out) → IsFirstBack ways home out None
back_none ways home out i h before = subst (LeadNowhereBack ways home) (take_all i out h) before

-- the modules before one have no word that leads back
abbrev pub FreeBelow : List (List Way) → ℕ → Type 0
FreeBelow ways home = (m : ℕ) → m < home → LeadNowhereBack ways m (out_of ways m)

pub circle_found : (outs : List (Vec Way Global)) (home : ℕ) (out : Vec Way Global) (word : Spot) (o : Option Spot) → home < length outs → out ≡ get_or outs home out → o ≡ Some word → IsFirstBack (ways_in outs) home out.items o → FreeBelow (ways_in outs) home → IsFirstCircle (ways_in outs) word
circle_found outs home out word o h at is back free = by (subst (IsFirstBack (ways_in outs) home out.items) is back)
  where
    by : IsFirstBack (ways_in outs) home out.items (Some word) → IsFirstCircle (ways_in outs) word
    by (before, to, after, split, leads, earlier) = record {
      home = home;
      to = to;
      before = before;
      after = after;
      out = sym (out_is outs home out h at) ∙ split;
      circle = leads;
      earlier_words = earlier;
      earlier_modules = free;
    }

pub circle_not : (outs : List (Vec Way Global)) (home : ℕ) (out : Vec Way Global) (o : Option Spot) → home < length outs → out ≡ get_or outs home out → o ≡ None → IsFirstBack (ways_in outs) home out.items o → FreeBelow (ways_in outs) home → FreeBelow (ways_in outs) (home + 1)
circle_not outs home out o h at is back free m l = by (cases_lt m home)
  where
    by : (m < home) ⊎ (home ≤ m) → LeadNowhereBack (ways_in outs) m (out_of (ways_in outs) m)
    by (inl b) = free m b
    by (inr b) =
        let e : home ≡ m = omega (arith, b, l) in
        subst (λ k. LeadNowhereBack (ways_in outs) k (out_of (ways_in outs) k)) e (subst (LeadNowhereBack (ways_in outs) home) (out_is outs home out h at) (subst (IsFirstBack (ways_in outs) home out.items) is back))

pub no_circle : (outs : List (Vec Way Global)) (home : ℕ) → length outs ≤ home → FreeBelow (ways_in outs) home → HasNoCircle (ways_in outs)
no_circle outs home h free m = by (cases_lt m home)
  where
    by : (m < home) ⊎ (home ≤ m) → LeadNowhereBack (ways_in outs) m (out_of (ways_in outs) m)
    by (inl b) = free m b
    by (inr b) =
        let n = count_is outs in
        subst (LeadNowhereBack (ways_in outs) m) (sym (get_or_past (ways_in outs) m [] (omega (arith, h, b, n)))) (All-nil (λ w. Leads (ways_in outs) w.1 m → ⊥))

-- each row has a mark for each module
pub all_square : (ways : List (List Way)) (reached : List (Vec Bool Global)) → length reached ≡ length ways → AreReached ways reached → All (λ row. length row.items ≡ length reached) reached
all_square ways reached e all = λ k d h. (all k d h).count ∙ sym e
