-- What is spelled is read again.
use Rattle.std.proofs.Common.{◌≡◌, ℕ, zero, suc, ◌+◌, ◌^◌, ◌<◌, ◌≤◌, Bool, true, false, cond, ltb, eqb, ℤ, List, [], ◌∷◌, ◌++◌, length, get_or, take, drop, Result, Ok, Err, refl, sym, ap, subst, ◌∙◌, append_assoc, arith}
use Rattle.std.specs.Str.{bytes_eq}
use Rattle.std.specs.Int.{w16, w32, w64, to_le_bytes, from_le_bytes, cast_unsigned, cast_signed}
use Rattle.std.specs.List.{flat_map, AllByRecursion}
use Rattle.std.proofs.lemmas.Bool.{le-ltb}
use Rattle.std.proofs.lemmas.List.{append-nil, take_at, drop_at, length-append}
use Rattle.std.proofs.lemmas.Nat.{from_le_bytes-to_le_bytes_2, from_le_bytes-to_le_bytes_4, from_le_bytes-to_le_bytes_8}
use Rattle.lp_lemmas.proofs.Booleans.{bytes_eq_self}
use Rattle.lp_base.specs.declared.limit.Limit.TheVariants.{Image}
use Rattle.lp_bytes.specs.declared.fault.Fault.{Fault}
use Rattle.lp_bytes.specs.declared.fault.Fault.TheVariants.{Truncated, BadMagic, Trailing, Limit}
use Rattle.lp_bytes.specs.Numbers.{spelled_two, spelled_four, spelled_integer, spelled_long_text}
use Rattle.lp_bytes.specs.Spellable.{IsInteger, AreWhole}
use Rattle.lp_bytes.specs.Reading.{Left, left, Read, ◌>>=◌, field, byte_at, two_at, four_at, integer_at, long_text_at, each_at, nested_at, file_of, magic_at, all_read}

-- a value is read, and what is left is the rest
abbrev pub Runs : {A : Type 0} → Read A → A → List ℕ → Type 0
Runs r x rest = (t : Left) × (r ≡ Ok (x, t)) × (t.rest ≡ rest)

pub bind_runs : {A B : Type 0} (r : Read A) (f : A × Left → Read B) (x : A) (rest : List ℕ) (y : B) (after : List ℕ) → Runs r x rest → ((t : Left) → t.rest ≡ rest → Runs (f (x, t)) y after) → Runs (r >>= f) y after
bind_runs r f x rest y after p k = let q = k p.0 p.2 in (q.0, ap (λ z. z >>= f) p.1 ∙ q.1, q.2)

pub runs_as : {A : Type 0} (r q : Read A) (x : A) (rest : List ℕ) → q ≡ r → Runs r x rest → Runs q x rest
runs_as r q x rest e p = (p.0, e ∙ p.1, p.2)

pub field_again : (x : List ℕ) (n : ℕ) (s : Left) (rest : List ℕ) → length x ≡ n → s.rest ≡ x ++ rest → Runs (field n s) x rest
unfolding field
field_again x n s rest len e =
    let total : length s.rest ≡ length x + length rest = ap length e ∙ length-append x rest in
    let long : ltb (length s.rest) n ≡ false = le-ltb _ _ (omega (arith, total, len)) in
    let t = left (s.at + n) (drop n s.rest) in
    let front : take n s.rest ≡ x = ap (take n) e ∙ take_at x rest n len in
    let back : drop n s.rest ≡ rest = ap (drop n) e ∙ drop_at x rest n len in
    (t, ap (λ b. cond b (Err (Truncated s.at)) (Ok (take n s.rest, t))) long ∙ ap (λ z. Ok (z, t)) front, back)

-- a value made of the bytes of a field
as_field : {A : Type 0} (g : List ℕ → A) (x : List ℕ) (n : ℕ) (y : A) (s : Left) (rest : List ℕ) → length x ≡ n → g x ≡ y → s.rest ≡ x ++ rest → Runs (field n s >>= λ z. Ok (g z.0, z.1)) y rest
as_field g x n y s rest len same e =
    bind_runs (field n s) (λ z. Ok (g z.0, z.1)) x rest y rest (field_again x n s rest len e) (λ t i. (t, ap (λ z. Ok (z, t)) same, i))

pub byte_again : (b : ℕ) (s : Left) (rest : List ℕ) → s.rest ≡ b ∷ rest → Runs (byte_at s) b rest
unfolding byte_at
byte_again b s rest e = as_field (λ x. get_or x 0 0) (b ∷ []) 1 b s rest refl refl e

pub two_again : (n : ℕ) (s : Left) (rest : List ℕ) → n < 2 ^ 16 → s.rest ≡ spelled_two n ++ rest → Runs (two_at s) n rest
unfolding two_at
two_again n s rest lt e = as_field (λ x. from_le_bytes w16 x) (spelled_two n) 2 n s rest refl (from_le_bytes-to_le_bytes_2 n lt) e

pub four_again : (n : ℕ) (s : Left) (rest : List ℕ) → n < 2 ^ 32 → s.rest ≡ spelled_four n ++ rest → Runs (four_at s) n rest
unfolding four_at
four_again n s rest lt e = as_field (λ x. from_le_bytes w32 x) (spelled_four n) 4 n s rest refl (from_le_bytes-to_le_bytes_4 n lt) e

pub integer_again : (z : ℤ) (s : Left) (rest : List ℕ) → IsInteger z → s.rest ≡ spelled_integer z ++ rest → Runs (integer_at s) z rest
unfolding integer_at
integer_again z s rest h e =
    as_field (λ x. cast_signed w64 (from_le_bytes w64 x)) (spelled_integer z) 8 z s rest refl (ap (λ m. cast_signed w64 m) (from_le_bytes-to_le_bytes_8 (cast_unsigned w64 z) h.1) ∙ h.0) e

-- the next part
pub next : (s : Left) (x y rest : List ℕ) → s.rest ≡ (x ++ y) ++ rest → s.rest ≡ x ++ (y ++ rest)
next s x y rest e = e ∙ append_assoc x y rest

pub long_text_again : (x : List ℕ) (s : Left) (rest : List ℕ) → length x < 2 ^ 32 → s.rest ≡ spelled_long_text x ++ rest → Runs (long_text_at s) x rest
unfolding long_text_at spelled_long_text
long_text_again x s rest lt e =
    bind_runs (four_at s) (λ n. field n.0 n.1) (length x) (x ++ rest) x rest (four_again (length x) s (x ++ rest) lt (next s (spelled_four (length x)) x rest e)) (λ t i. field_again x (length x) t rest refl i)

pub each_again : {A : Type 0} (f : List A → Left → Read A) (spell : A → List ℕ) (P : A → Type 0) → ((before : List A) (x : A) (s : Left) (rest : List ℕ) → P x → s.rest ≡ spell x ++ rest → Runs (f before s) x rest)
    → (xs before : List A) (s : Left) (rest : List ℕ) → AllByRecursion P xs → s.rest ≡ flat_map spell xs ++ rest → Runs (each_at f before (length xs) s) (before ++ xs) rest
unfolding each_at
each_again f spell P k [] before s rest h e = (s, ap (λ ys. Ok (ys, s)) (sym (append-nil before)), e)
each_again {A = A} f spell P k (x ∷ xs) before s rest h e =
    let more = λ (y : A × Left). each_at f (before ++ y.0 ∷ []) (length xs) y.1 in
    bind_runs (f before s) more x (flat_map spell xs ++ rest) (before ++ x ∷ xs) rest (k before x s (flat_map spell xs ++ rest) h.0 (next s (spell x) (flat_map spell xs) rest e))
    (λ t i. let r = each_again f spell P k xs (before ++ x ∷ []) t rest h.1 i in (r.0, r.1 ∙ ap (λ ys. Ok (ys, r.0)) (append_assoc before (x ∷ []) xs), r.2))

pub nested_again : {S A : Type 0} (f : S → Left → Read A) (below : A → List S) (spell : A → List ℕ) (P : S → A → Type 0) → ((sort : S) (x : A) (s : Left) (rest : List ℕ) → P sort x → s.rest ≡ spell x ++ rest → Runs (f sort s) x rest)
    → (xs before : List A) (n : ℕ) (to_come : List S) (s : Left) (rest : List ℕ) → AreWhole below P to_come xs → length xs < n → s.rest ≡ flat_map spell xs ++ rest → Runs (nested_at f below before n to_come s) (before ++ xs) rest
unfolding nested_at
nested_again f below spell P k xs before zero to_come s rest h lt e = absurd (omega (arith, lt))
nested_again f below spell P k [] before (suc n) [] s rest h lt e = (s, ap (λ ys. Ok (ys, s)) (sym (append-nil before)), e)
nested_again f below spell P k (x ∷ xs) before (suc n) [] s rest h lt e = absurd h
nested_again f below spell P k [] before (suc n) (sort ∷ to_come) s rest h lt e = absurd h
nested_again {A = A} f below spell P k (x ∷ xs) before (suc n) (sort ∷ to_come) s rest h lt e =
    let more = λ (y : A × Left). nested_at f below (before ++ y.0 ∷ []) n (below y.0 ++ to_come) y.1 in
    bind_runs (f sort s) more x (flat_map spell xs ++ rest) (before ++ x ∷ xs) rest (k sort x s (flat_map spell xs ++ rest) h.0 (next s (spell x) (flat_map spell xs) rest e))
    (λ t i. let r = nested_again f below spell P k xs (before ++ x ∷ []) n (below x ++ to_come) t rest h.1 (omega (arith, lt)) i in (r.0, r.1 ∙ ap (λ ys. Ok (ys, r.0)) (append_assoc before (x ∷ []) xs), r.2))

pub magic_again : (m : List ℕ) (s : Left) (rest : List ℕ) → length m ≡ 4 → s.rest ≡ m ++ rest → (t : Left) × (magic_at m s ≡ Ok t) × (t.rest ≡ rest)
unfolding magic_at
magic_again m s rest len e =
    let p = field_again m 4 s rest len e in
    (p.0, ap (λ r. r >>= λ x. cond (bytes_eq x.0 m) (Ok x.1) (Err BadMagic)) p.1 ∙ ap (λ b. cond b (Ok p.0) (Err BadMagic)) (bytes_eq_self m), p.2)

pub is_over : (t : Left) → t.rest ≡ [] → all_read t ≡ Ok tt
unfolding all_read
is_over t e = ap (λ n. cond (ltb 0 n) (Err (Trailing t.at)) (Ok tt)) (ap length e)

pub file_again : (bs : List ℕ) → length bs ≤ 16777216 → file_of bs ≡ Ok (left 0 bs)
unfolding file_of
file_again bs le = ap (λ b. cond b (Err (Limit Image)) (Ok (left 0 bs))) (le-ltb 16777216 (length bs) le)
