-- Reading the first file of a name in a list, and what a write there or at the end changes: induction along the list.
use Rattle.std.proofs.Common.{◌≡◌, ◌≢◌, ℕ, zero, suc, ◌+◌, ◌<◌, List, [], ◌∷◌, ◌++◌, None, length, drop, true, false, Some, string_bytes, if◌then◌else◌, refl, sym, ◌∙◌, ap, arith, get_or, set}
use Rattle.std.specs.Str.{bytes_eq}
use Rattle.std.proofs.lemmas.List.{drop_more}
use Rattle.std.proofs.lemmas.Slice.Eq.{bytes_eq-Decides}
use Rattle.lp_lemmas.proofs.Lists.{drop_read}
use Rattle.lp_base.specs.Files.{File, found, name_at}

pub found_here : (files : List File) (name : List ℕ) (i : ℕ) (x : File) (b : List ℕ) → i < length files → x ≡ get_or files i x
    → b ≡ string_bytes x.0 → bytes_eq b name ≡ true → found (drop i files) name ≡ Some x.1.items
found_here files name i x b h e s same = let at = drop_read files i x h e in grind (arith, at, s, same)

pub found_later : (files : List File) (name : List ℕ) (i : ℕ) (x : File) (b : List ℕ) → i < length files → x ≡ get_or files i x
    → b ≡ string_bytes x.0 → bytes_eq b name ≡ false → found (drop i files) name ≡ found (drop (i + 1) files) name
found_later files name i x b h e s same = let at = drop_read files i x h e in grind (arith, at, s, same)

-- the name at a place is that of the file read there
pub name_at_read : (files : List File) (i : ℕ) (x : File) → i < length files → name_at files i ≡ string_bytes (get_or files i x).0
name_at_read [] i x h = absurd (omega arith)
name_at_read (f ∷ fs) zero x h = refl
name_at_read (f ∷ fs) (suc i) x h = name_at_read fs i x (omega arith)

-- a new content of the first file of a name
pub found_set : (files : List File) (name : List ℕ) (i : ℕ) (x : File) (other : List ℕ)
    → i < length files → string_bytes x.0 ≡ name → name_at files i ≡ name → ((k : ℕ) → k < i → name_at files k ≢ name)
    → found (set files i x) other ≡ (if bytes_eq name other then Some x.1.items else found files other)
found_set [] name i x other h s at before = absurd (omega arith)
found_set (f ∷ fs) name zero x other h s at before = grind (arith, s, at)
found_set (f ∷ fs) name (suc i) x other h s at before =
    let rest = found_set fs name i x other (omega arith) s at (λ k hk. before (suc k) (omega arith)) in
    let differs : string_bytes f.0 ≢ name = before 0 (omega arith) in
    grind (arith, rest, differs, bytes_eq-Decides name other, bytes_eq-Decides (string_bytes f.0) other)

-- a file of a new name at the end
pub found_push : (files : List File) (name : List ℕ) (x : File) (other : List ℕ)
    → string_bytes x.0 ≡ name → found files name ≡ None
    → found (files ++ x ∷ []) other ≡ (if bytes_eq name other then Some x.1.items else found files other)
found_push [] name x other s none = grind (arith, s)
found_push (f ∷ fs) name x other s none =
    let later : found fs name ≡ None = grind (arith, none) in
    let differs : bytes_eq (string_bytes f.0) name ≡ false = grind (arith, none) in
    let rest = found_push fs name x other s later in
    grind (arith, rest, differs, bytes_eq-Decides name other, bytes_eq-Decides (string_bytes f.0) other)

-- the name read at a place, by the test that the program makes
pub named_here : (files : List File) (name : List ℕ) (i : ℕ) (x : File) (b : List ℕ) → i < length files → x ≡ get_or files i x
    → b ≡ string_bytes x.0 → bytes_eq b name ≡ true → name_at files i ≡ name
named_here files name i x b h e s same = name_at_read files i x h ∙ ap (λ y. string_bytes y.0) (sym e) ∙ sym s ∙ (bytes_eq-Decides b name).0 same

pub not_yet : (files : List File) (name : List ℕ) (i : ℕ) (x : File) (b : List ℕ) → i < length files → x ≡ get_or files i x
    → b ≡ string_bytes x.0 → bytes_eq b name ≡ false → ((k : ℕ) → k < i → name_at files k ≢ name) → (k : ℕ) → k < i + 1 → name_at files k ≢ name
not_yet files name i x b h e s other before k hk same =
    let here = name_at_read files i x h ∙ ap (λ y. string_bytes y.0) (sym e) ∙ sym s in
    let decides = bytes_eq-Decides b name in
    grind (arith, here, decides, before k, other, same)
