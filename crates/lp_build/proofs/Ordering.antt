-- What the load order says of the files: none that is named is left out, none stands twice, and each was asked for.
use Rattle.std.proofs.Common.{◌≡◌, ◌⊎◌, ℕ, zero, suc, Bool, true, List, [], ◌∷◌, ◌++◌, take, refl, sym, ap, subst, ◌∙◌, append_assoc, append-nil, inl, inr, arith}
use Rattle.std.specs.Prelude.{All, Contains, codes, string_bytes}
use Rattle.std.proofs.lemmas.List.{same_from_push}
use Rattle.std.proofs.lemmas.List.Elements.{All-append, All-cons, All-head, All-nil, All-tail, Contains-append_cases, Contains-append_left, Contains-append_right, Contains-push, Contains-push_cases}
use Rattle.lp_lemmas.proofs.Elements.{Contains_head, Contains_tail}
use Rattle.lp_base.specs.declared.place.Spot.{Spot}
use Rattle.lp_sig.specs.Pieces.{spelled}
use Rattle.lp_sig.specs.Refusals.{IsAt}
use Rattle.lp_build.specs.Loads.{BeginsWith, ending, modules_among, names_of, of_module}
use Rattle.lp_build.specs.Ordered.{IsAsked, IsText, IsThere, Loads, Need, asked, asked_by, both, file_of, is_loaded, is_there, loads_none, named_by, needed, signature}
use Rattle.lp_build.specs.declared.sources.File.{File}
use Rattle.lp_build.specs.declared.sources.Part.{Part}
use Rattle.lp_build.specs.declared.sources.Part.TheVariants as part
use Rattle.lp_build.specs.declared.sources.Text.{Text}

-- the first file is the first that is needed
pub first_is : {all : Bool} {n : Need} {needs : List Need} {files : List File} → Loads all [] (n ∷ needs) files [] → BeginsWith (file_of n) (names_of files)
first_is (is_there short there rest) = let lt = there.1 in absurd (omega (arith, lt))
first_is (is_loaded short new is rest) = is.name

-- a name of more files

names_append : (fs gs : List File) → names_of (fs ++ gs) ≡ names_of fs ++ names_of gs
names_append [] gs = refl
names_append (f ∷ fs) gs = ap (λ l. string_bytes f.name ∷ l) (names_append fs gs)

there_later : (fs gs : List File) (n : Need) → IsThere fs n → IsThere (fs ++ gs) n
there_later fs gs n h = subst (λ l. Contains l (file_of n)) (sym (names_append fs gs)) (Contains-append_left (names_of fs) (names_of gs) (file_of n) h)

its_name : (before files : List File) (f : File) → Contains (names_of (before ++ f ∷ files)) (string_bytes f.name)
its_name before files f = subst (λ l. Contains l (string_bytes f.name)) (sym (names_append before (f ∷ files))) (Contains-append_right (names_of before) (names_of (f ∷ files)) (string_bytes f.name) (Contains_head (string_bytes f.name) (names_of files)))

-- the first own file is that of the root

other_endings : (a b : List ℕ) → a ++ codes ".sig" ≡ b ++ codes ".mod" → ⊥
other_endings a b e =
    let last = (same_from_push (a ++ codes ".si") (b ++ codes ".mo") 103 100 (append_assoc a (codes ".si") (103 ∷ []) ∙ e ∙ sym (append_assoc b (codes ".mo") (100 ∷ [])))).1 in
    absurd (omega (arith, last))

abbrev pub IsSignature : Need → Type 0
IsSignature n = n.part ≡ part.Signature

signatures_only : (text : List ℕ) (words : List Spot) → All IsSignature (asked_by signature text words)
signatures_only text [] = All-nil IsSignature
signatures_only text (w ∷ ws) = All-cons IsSignature (asked true part.Signature (spelled text w)) (asked_by signature text ws) refl (signatures_only text ws)

of_signature : (all : Bool) (p : Part) (t : Text) → p ≡ part.Signature → All IsSignature (named_by all p t)
of_signature all p t e = subst (λ q. All IsSignature (named_by all q t)) (sym e) (signatures_only t.bytes.items t.references.accum_sig.items)

not_yet : (before : List File) (n : Need) (f : File) (root : List ℕ) → IsText n f → n.part ≡ part.Signature → (IsThere before (needed part.Module root) → ⊥) → IsThere (before ++ f ∷ []) (needed part.Module root) → ⊥
not_yet before n f root is sig none h =
    elim (Contains-push_cases (names_of before) (string_bytes f.name) (root ++ codes ".mod") (subst (λ l. Contains l (root ++ codes ".mod")) (names_append before (f ∷ [])) h)) [
      | inl k ↦ none k
      | inr e ↦ other_endings n.name root (sym (is.name ∙ ap (λ p. n.name ++ ending p) sig) ∙ e)
    ]

pub first_own : {all : Bool} {before files : List File} {needs : List Need} (root : List ℕ) (ahead rest : List Need) → needs ≡ ahead ++ needed part.Module root ∷ rest → All IsSignature ahead → (IsThere before (needed part.Module root) → ⊥) →
    Loads all before needs files [] → BeginsWith root (modules_among files)
first_own root [] rest e sigs none loads_none = absurd (cc)
first_own root (n ∷ ns) rest e sigs none loads_none = absurd (cc)
first_own {before = before} root [] rest e sigs none (is_there {n = m} short there loads) = let same : m ≡ needed part.Module root = cc in absurd (none (subst (IsThere before) same there))
first_own root [] rest e sigs none (is_loaded {n = m} {f = f} {files = files} short new is loads) =
    let same : m ≡ needed part.Module root = cc in
    let own : f.part ≡ part.Module = is.part ∙ ap (λ n. n.part) same in
    subst (λ p. BeginsWith root (of_module p (string_bytes f.module) ++ modules_among files)) (sym own) (is.stem ∙ ap (λ n. n.name) same)
first_own root (n ∷ ns) rest e sigs none (is_there {needs = needs} short there loads) =
    let others : needs ≡ ns ++ needed part.Module root ∷ rest = cc in
    first_own root ns rest others (All-tail IsSignature n ns sigs) none loads
first_own {all = all} {before = before} root (n ∷ ns) rest e sigs none (is_loaded {n = m} {f = f} {needs = needs} {files = files} short new is loads) =
    let same : m ≡ n = cc in
    let others : needs ≡ ns ++ needed part.Module root ∷ rest = cc in
    let sig : m.part ≡ part.Signature = ap (λ x. x.part) same ∙ All-head IsSignature n ns sigs in
    subst (λ p. BeginsWith root (of_module p (string_bytes f.module) ++ modules_among files)) (sym (is.part ∙ sig))
    (first_own root (named_by all f.part f.text ++ ns) rest
    (ap (λ l. named_by all f.part f.text ++ l) others ∙ sym (append_assoc (named_by all f.part f.text) ns (needed part.Module root ∷ rest)))
    (All-append IsSignature (named_by all f.part f.text) ns (of_signature all f.part f.text (is.part ∙ sig)) (All-tail IsSignature n ns sigs))
    (not_yet before m f root is sig none) loads)

pub own_first : {all : Bool} {files : List File} (root : List ℕ) → Loads all [] (both root) files [] → BeginsWith root (modules_among files)
own_first root h = first_own root (needed part.Signature root ∷ []) [] refl (All-cons IsSignature (needed part.Signature root) [] refl (All-nil IsSignature)) (λ t. let lt = t.1 in absurd (omega (arith, lt))) h

-- what is needed comes to be there

either : {X : Type 0} (P : X → Type 0) (x y : X) (ys : List X) → P x → (Contains ys y → P y) → Contains (x ∷ ys) y → P y
either P x y ys p rest (zero, lt, e) = subst P e p
either P x y ys p rest (suc k, lt, e) = rest (k, omega (arith, lt), e)

needs_there : {all : Bool} {before files : List File} {needs : List Need} → Loads all before needs files [] → (n : Need) → Contains needs n → IsThere (before ++ files) n
needs_there loads_none n h = let lt = h.1 in absurd (omega (arith, lt))
needs_there {before = before} {files = files} (is_there {n = m} {needs = needs} short there rest) n h = either (IsThere (before ++ files)) m n needs (there_later before files m there) (needs_there rest n) h
needs_there {all = all} {before = before} (is_loaded {n = m} {f = f} {needs = needs} {files = files} short new is rest) n h =
    either (IsThere (before ++ f ∷ files)) m n needs (subst (Contains (names_of (before ++ f ∷ files))) is.name (its_name before files f))
    (λ k. subst (λ fs. IsThere fs n) (append_assoc before (f ∷ []) files) (needs_there rest n (Contains-append_right (named_by all f.part f.text) needs n k))) h

pub named_there : {all : Bool} {before files : List File} {needs : List Need} → Loads all before needs files [] → (f : File) → Contains files f → (n : Need) → Contains (named_by all f.part f.text) n → IsThere (before ++ files) n
named_there loads_none f h n k = let lt = h.1 in absurd (omega (arith, lt))
named_there (is_there short there rest) f h n k = named_there rest f h n k
named_there {all = all} {before = before} (is_loaded {n = m} {f = g} {needs = needs} {files = files} short new is rest) f h n k =
    either (λ (x : File). Contains (named_by all x.part x.text) n → IsThere (before ++ g ∷ files) n) g f files
    (λ c. subst (λ fs. IsThere fs n) (append_assoc before (g ∷ []) files) (needs_there rest n (Contains-append_left (named_by all g.part g.text) needs n c)))
    (λ j c. subst (λ fs. IsThere fs n) (append_assoc before (g ∷ []) files) (named_there rest f j n c)) h k

-- no name stands twice

new_ones : {all : Bool} {before files : List File} {needs left : List Need} → Loads all before needs files left → (i : ℕ) (f : File) → IsAt files i f → Contains (names_of before) (string_bytes f.name) → ⊥
new_ones loads_none i f at h = let lt = at.0 in omega (arith, lt)
new_ones (is_there short there rest) i f at h = new_ones rest i f at h
new_ones {before = before} (is_loaded {f = g} short new is rest) zero f at h = new (subst (Contains (names_of before)) (ap (λ (x : File). string_bytes x.name) (sym at.1) ∙ is.name) h)
new_ones {before = before} (is_loaded {f = g} short new is rest) (suc i) f at h =
    let lt = at.0 in
    new_ones rest i f (omega (arith, lt), at.1)
    (subst (λ l. Contains l (string_bytes f.name)) (sym (names_append before (g ∷ []))) (Contains-append_left (names_of before) (names_of (g ∷ [])) (string_bytes f.name) h))

last_name : (before : List File) (g : File) (name : List ℕ) → string_bytes g.name ≡ name → Contains (names_of (before ++ g ∷ [])) name
last_name before g name e = subst (Contains (names_of (before ++ g ∷ []))) e (its_name before [] g)

pub once : {all : Bool} {before files : List File} {needs left : List Need} → Loads all before needs files left → (i j : ℕ) (f g : File) → IsAt files i f → IsAt files j g → string_bytes f.name ≡ string_bytes g.name → i ≡ j
once loads_none i j f g at to e = let lt = at.0 in absurd (omega (arith, lt))
once (is_there short there rest) i j f g at to e = once rest i j f g at to e
once (is_loaded short new is rest) zero zero f g at to e = refl
once {before = before} (is_loaded {f = h} short new is rest) zero (suc j) f g at to e =
    let lt = to.0 in
    absurd (new_ones rest j g (omega (arith, lt), to.1) (last_name before h (string_bytes g.name) (ap (λ (x : File). string_bytes x.name) at.1 ∙ e)))
once {before = before} (is_loaded {f = h} short new is rest) (suc i) zero f g at to e =
    let lt = at.0 in
    absurd (new_ones rest i f (omega (arith, lt), at.1) (last_name before h (string_bytes f.name) (ap (λ (x : File). string_bytes x.name) to.1 ∙ sym e)))
once (is_loaded short new is rest) (suc i) (suc j) f g at to e =
    let lt = at.0 in
    let below = to.0 in
    ap (λ k. suc k) (once rest i j f g (omega (arith, lt), at.1) (omega (arith, below), to.1) e)

-- each was asked for

pub asked_before : {all : Bool} {before files : List File} {needs left : List Need} (root : List ℕ) → Loads all before needs files left → ((n : Need) → Contains needs n → IsAsked all root before n) → (i : ℕ) (f : File) → IsAt files i f →
    (n : Need) × IsText n f × IsAsked all root (before ++ take i files) n
asked_before root loads_none h i f at = let lt = at.0 in absurd (omega (arith, lt))
asked_before root (is_there {n = m} {needs = needs} short there rest) h i f at = asked_before root rest (λ n k. h n (Contains_tail m n needs k)) i f at
asked_before {all = all} {before = before} root (is_loaded {n = m} {f = g} {needs = needs} short new is rest) h zero f at =
    (m, subst (IsText m) at.1 is, subst (λ fs. IsAsked all root fs m) (sym (append-nil before)) (h m (Contains_head m needs)))
asked_before {all = all} {before = before} root (is_loaded {n = m} {f = g} {needs = needs} {files = files} short new is rest) h (suc i) f at =
    let lt = at.0 in
    let found = asked_before root rest (λ n k. by n (Contains-append_cases (named_by all g.part g.text) needs n k)) i f (omega (arith, lt), at.1) in
    (found.0, found.1, subst (λ fs. IsAsked all root fs found.0) (append_assoc before (g ∷ []) (take i files)) found.2)
  where
    by : (n : Need) → Contains (named_by all g.part g.text) n ⊎ Contains needs n → IsAsked all root (before ++ g ∷ []) n
    by n (inl k) = inr (g, Contains-push before g, k)
    by n (inr k) = later (h n (Contains_tail m n needs k))
      where
        later : IsAsked all root before n → IsAsked all root (before ++ g ∷ []) n
        later (inl b) = inl b
        later (inr f) = inr (f.0, Contains-append_left before (g ∷ []) f.0 f.1, f.2)
