-- The order of loading: what is on the stack is what the definition has yet to come.
use Rattle.std.proofs.Common.{◌≡◌, ℕ, zero, suc, ◌+◌, ◌<◌, ◌≤◌, List, [], ◌∷◌, ◌++◌, Bool, true, false, length, get_or, set, reverse, refl, sym, ap, subst, ◌∙◌, arith, append_assoc, append-nil, true≢false}
use Rattle.std.proofs.lemmas.List.{reverse-append, reverse-reverse, map-append, length-append, length-map, length-reverse}
use Rattle.lp_sig.specs.Loading.{Way, ways_out, Loads, again, first, LoadsAll, none, next}
use Rattle.lp_sig.specs.Walking.{entries, Run, over, own, go, Moves, waiting}
use Rattle.lp_sig.specs.declared.walk.Step.{Step}
use Rattle.lp_sig.specs.declared.walk.Step.TheVariants.{Enter, Declare}

pub stays : (ways : List (List Way)) (m : List Bool) (w s : List Step) → Moves ways m w s m w s
stays ways m w s = λ rest end run. (rest, run, refl)

pub moves_then : (ways : List (List Way)) (a b c : List Bool) (u v w s t r : List Step) → Moves ways a u s b v t → Moves ways b v t c w r → Moves ways a u s c w r
moves_then ways a b c u v w s t r f g = λ rest end run. let x = g rest end run in let y = f x.0 end x.1 in (y.0, y.1, x.2 ∙ y.2)

last_off : (w : List Step) (x : Step) → reverse (w ++ x ∷ []) ≡ x ∷ reverse w
last_off w x = reverse-append w (x ∷ [])

-- a signature's own declarations
pub declares : (ways : List (List Way)) (m : List Bool) (w s : List Step) (i : ℕ) → Moves ways m (w ++ Declare i ∷ []) s m w (s ++ Declare i ∷ [])
declares ways m w s i = λ rest end run. (Declare i ∷ rest, own i (reverse w) rest (last_off w (Declare i)) run refl, append_assoc s (Declare i ∷ []) rest)

-- a signature for a second time
pub known : (ways : List (List Way)) (m : List Bool) (w s : List Step) (i : ℕ) → get_or m i true ≡ true → Moves ways m (w ++ Enter i ∷ []) s m w s
known ways m w s i h = λ rest end run. (rest, go i (reverse w) [] rest (last_off w (Enter i)) m (again h refl refl) run refl, refl)

record Split (ways : List (List Way)) (m : List Bool) (words : List Way) (behind rest : List Step) (end : List Bool) : Type 0 where
  inner : List Step
  mid : List Bool
  more : List Step
  loads : LoadsAll ways m words inner mid
  run : Run ways mid behind more end
  is : rest ≡ inner ++ more

split : (ways : List (List Way)) (m : List Bool) (words : List Way) (behind rest : List Step) (end : List Bool) → Run ways m (entries words ++ behind) rest end → Split ways m words behind rest end
split ways m [] behind rest end run = record { inner = []; mid = m; more = rest; loads = none refl refl refl; run = run; is = refl }
split ways m (w ∷ ws) behind rest end (over e s f) = absurd (cc)
split ways m (w ∷ ws) behind rest end (own i v more e run s) = absurd (cc)
split ways m (w ∷ ws) behind rest end (go i v here more e mid loads run s) =
    let q : i ≡ w.1 = cc in
    let r : v ≡ entries ws ++ behind = cc in
    let x = split ways mid ws behind more end (subst (λ v. Run ways mid v more end) r run) in
    record {
      inner = here ++ x.inner;
      mid = x.mid;
      more = x.more;
      loads = next w ws refl mid here x.inner (subst (λ i. Loads ways m i here mid) q loads) x.loads refl;
      run = x.run;
      is = s ∙ ap (λ z. here ++ z) x.is ∙ sym (append_assoc here x.inner x.more);
    }

record Own (ways : List (List Way)) (m : List Bool) (i : ℕ) (behind rest : List Step) (end : List Bool) : Type 0 where
  more : List Step
  run : Run ways m behind more end
  is : rest ≡ Declare i ∷ more

own_first : (ways : List (List Way)) (m : List Bool) (i : ℕ) (behind rest : List Step) (end : List Bool) → Run ways m (Declare i ∷ behind) rest end → Own ways m i behind rest end
own_first ways m i behind rest end (over e s f) = absurd (cc)
own_first ways m i behind rest end (own j v more e run s) =
    let q : j ≡ i = cc in
    let r : v ≡ behind = cc in
    record { more = more; run = subst (λ v. Run ways m v more end) r run; is = s ∙ ap (λ j. Declare j ∷ more) q }
own_first ways m i behind rest end (go j v here more e mid loads run s) = absurd (cc)

reverse_entries : (ws : List Way) → reverse (entries ws) ≡ entries (reverse ws)
reverse_entries [] = refl
reverse_entries (w ∷ ws) =
    reverse-append (Enter w.1 ∷ []) (entries ws) ∙ ap (λ z. z ++ Enter w.1 ∷ []) (reverse_entries ws) ∙ sym (map-append (λ w. Enter w.1) (reverse ws) (w ∷ [])) ∙ ap entries (sym (reverse-append (w ∷ []) ws))

entries_back : (ws : List Way) → reverse (entries (reverse ws)) ≡ entries ws
entries_back ws = reverse_entries (reverse ws) ∙ ap entries (reverse-reverse ws)

named_first : (w' w1 w : List Step) (i : ℕ) (words : List Way) → w1 ≡ w ++ Declare i ∷ [] → w' ≡ w1 ++ entries (reverse words) → reverse w' ≡ entries words ++ (Declare i ∷ reverse w)
named_first w' w1 w i words a b =
    ap (λ z. reverse z) b ∙ reverse-append w1 (entries (reverse words)) ∙ ap (λ z. z ++ reverse w1) (entries_back words) ∙
    ap (λ z. entries words ++ z) (ap (λ z. reverse z) a ∙ last_off w (Declare i))

-- a signature for the first time
pub entered : (ways : List (List Way)) (m m' : List Bool) (w w1 w' s s' : List Step) (i : ℕ) → get_or m i true ≡ false → m' ≡ set m i true → s' ≡ s ++ Enter i ∷ [] → w1 ≡ w ++ Declare i ∷ [] → w' ≡ w1 ++ entries (reverse (ways_out ways i)) →
    Moves ways m (w ++ Enter i ∷ []) s m' w' s'
entered ways m m' w w1 w' s s' i h marks steps a b = λ rest end run.
    let words = ways_out ways i in
    let x = split ways m' words (Declare i ∷ reverse w) rest end (subst (λ z. Run ways m' z rest end) (named_first w' w1 w i words a b) run) in
    let y = own_first ways x.mid i (reverse w) x.more end x.run in
    let here = Enter i ∷ (x.inner ++ Declare i ∷ []) in
    let loads = first h x.inner (subst (λ z. LoadsAll ways z words x.inner x.mid) marks x.loads) refl in
    let same : rest ≡ (x.inner ++ Declare i ∷ []) ++ y.more = x.is ∙ ap (λ z. x.inner ++ z) y.is ∙ sym (append_assoc x.inner (Declare i ∷ []) y.more) in (
      here ++ y.more,
      go i (reverse w) here y.more (last_off w (Enter i)) x.mid loads y.run refl,
      ap (λ z. z ++ rest) steps ∙ append_assoc s (Enter i ∷ []) rest ∙ ap (λ z. s ++ (Enter i ∷ z)) same,
    )

only_one : (ways : List (List Way)) (m : List Bool) (root : ℕ) (all : List Step) (end : List Bool) → Run ways m (Enter root ∷ []) all end → Loads ways m root all end
only_one ways m root all end (over e s f) = absurd (cc)
only_one ways m root all end (own i v more e run s) = absurd (cc)
only_one ways m root all end (go i v here more e mid loads run s) = by run
  where
    nothing : Run ways mid v more end → (more ≡ []) × (end ≡ mid)
    nothing (over e' s' f') = (s', f')
    nothing (own j u more' e' run' s') = absurd (cc)
    nothing (go j u here' more' e' mid' loads' run' s') = absurd (cc)

    by : Run ways mid v more end → Loads ways m root all end
    by r =
        let q : i ≡ root = cc in
        let t : here ≡ all = sym (append-nil here) ∙ ap (λ z. here ++ z) (sym (nothing r).0) ∙ sym s in
        subst (λ z. Loads ways m root all z) (sym (nothing r).1) (subst (λ i. Loads ways m i all mid) q (subst (λ z. Loads ways m i z mid) t loads))

-- when nothing is left all steps are taken
pub all_loaded : (ways : List (List Way)) (m m' : List Bool) (root : ℕ) (work steps : List Step) → Moves ways m (Enter root ∷ []) [] m' work steps → work ≡ [] → Loads ways m root steps m'
all_loaded ways m m' root work steps moves empty =
    let x = moves [] m' (over (ap (λ z. reverse z) empty) refl refl) in
    let same : x.0 ≡ steps = sym x.2 ∙ append-nil steps in
    subst (λ z. Loads ways m root z m') same (only_one ways m root x.0 m' x.1)

-- a mark takes a signature's words away from what can be added
pub weighed : (m : List Bool) (ways : List (List Way)) (i : ℕ) → get_or m i true ≡ false → waiting (set m i true) ways + suc (length (ways_out ways i)) ≡ waiting m ways
weighed [] ways i h = absurd (true≢false h)
weighed (true ∷ ms) ways zero h = absurd (true≢false h)
weighed (false ∷ ms) [] zero h = omega arith
weighed (false ∷ ms) (o ∷ os) zero h = omega arith
weighed (true ∷ ms) [] (suc i) h = weighed ms [] i h
weighed (true ∷ ms) (o ∷ os) (suc i) h = weighed ms os i h
weighed (false ∷ ms) [] (suc i) h = let e = weighed ms [] i h in omega (arith, e)
weighed (false ∷ ms) (o ∷ os) (suc i) h = let e = weighed ms os i h in omega (arith, e)

-- what is left falls where a signature is entered for the first time
pub less_left : (ways : List (List Way)) (m m' : List Bool) (i : ℕ) (w w1 w' : List Step) → get_or m i true ≡ false → m' ≡ set m i true → w1 ≡ w ++ Declare i ∷ [] → w' ≡ w1 ++ entries (reverse (ways_out ways i)) → length w' + waiting m' ways ≤ length w + waiting m ways
less_left ways m m' i w w1 w' h marks a b =
    let p : length w1 ≡ length w + 1 = ap length a ∙ length-append w (Declare i ∷ []) in
    let q : length w' ≡ length w1 + length (entries (reverse (ways_out ways i))) = ap length b ∙ length-append w1 (entries (reverse (ways_out ways i))) in
    let r : length (entries (reverse (ways_out ways i))) ≡ length (ways_out ways i) = length-map (reverse (ways_out ways i)) (λ w. Enter w.1) ∙ length-reverse (ways_out ways i) in
    let s : waiting m' ways ≡ waiting (set m i true) ways = ap (λ z. waiting z ways) marks in
    let t = weighed m ways i h in
    omega (arith, p, q, r, s, t)

pub fewer_left : (ways : List (List Way)) (m m' : List Bool) (i : ℕ) (all old work : List Way) (w : Way) → all ≡ old ++ w ∷ [] → get_or m i true ≡ false → m' ≡ set m i true → work ≡ old ++ ways_out ways i → length work + waiting m' ways < length all + waiting m ways
fewer_left ways m m' i all old work w off h marks a =
    let p : length all ≡ length old + 1 = ap length off ∙ length-append old (w ∷ []) in
    let q : length work ≡ length old + length (ways_out ways i) = ap length a ∙ length-append old (ways_out ways i) in
    let s : waiting m' ways ≡ waiting (set m i true) ways = ap (λ z. waiting z ways) marks in
    let t = weighed m ways i h in
    omega (arith, p, q, s, t)

pub one_off : {A : Type 0} (ways : List (List Way)) (m m' : List Bool) (all old : List A) (w : A) → all ≡ old ++ w ∷ [] → m' ≡ m → length old + waiting m' ways < length all + waiting m ways
one_off ways m m' all old w off same =
    let p : length all ≡ length old + 1 = ap length off ∙ length-append old (w ∷ []) in
    let s : waiting m' ways ≡ waiting m ways = ap (λ z. waiting z ways) same in
    omega (arith, p, s)

pub one_off_then : (ways : List (List Way)) (m m' : List Bool) (all old work : List Step) (w : Step) → all ≡ old ++ w ∷ [] → length work + waiting m' ways ≤ length old + waiting m ways → length work + waiting m' ways < length all + waiting m ways
one_off_then ways m m' all old work w off le =
    let p : length all ≡ length old + 1 = ap length off ∙ length-append old (w ∷ []) in
    omega (arith, p, le)

pub start_moves : (ways : List (List Way)) (root : ℕ) (m : List Bool) (work steps : List Step) → work ≡ Enter root ∷ [] → steps ≡ [] → Moves ways m (Enter root ∷ []) [] m work steps
start_moves ways root m work steps one empty = λ rest end run.
    (rest, subst (λ z. Run ways m (reverse z) rest end) one run, ap (λ z. z ++ rest) empty)
